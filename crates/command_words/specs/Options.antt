-- The values that words give the options of a command.
use Rattle.std.specs.Prelude.{◌≡◌, ◌==◌, ◌&&◌, Bool, true, false, not, ℤ, int_le, nat_le, List, [], ◌∷◌, map, length, Option, Some, None, is_some, if◌then◌else◌, find, option_map, option_and_then}
use Rattle.std.specs.List.{list_all, list_any}
use Rattle.std.specs.Option.{option_map_or}
use Rattle.std.specs.Str.{bytes_eq}
use Rattle.num_row.specs.Decimals.{without_minus, is_decimal, decimal_value}
use Rattle.command_words.specs.declared.options.CommandOption.{CommandOption}
use Rattle.command_words.specs.declared.options.Standing.{Standing}
use Rattle.command_words.specs.declared.options.Standing.TheVariants.{Built, Unbuilt}
use Rattle.command_words.specs.declared.options.Takes.{Takes}
use Rattle.command_words.specs.declared.options.Takes.TheVariants as takes
use Rattle.command_words.specs.declared.options.Value.{Value}
use Rattle.command_words.specs.declared.options.Value.TheVariants as value
use Rattle.command_words.specs.Words.{Text, Item, Spells, has_name, are_once, text_of}

-- an option of a command, as its names are texts
pub record OptionRule : Type 0 where
  pub name : Text
  pub takes : Takes
  pub needs : Option Text
  pub standing : Standing

abbrev pub as_rule : CommandOption → OptionRule
as_rule option = record { name = option.name.now; takes = option.takes; needs = option_map (λ name. name.now) option.needs; standing = option.standing }

abbrev pub rules_of : List CommandOption → List OptionRule
rules_of = map as_rule

abbrev pub is_there : Standing → Bool
is_there Built = true
is_there Unbuilt = false

abbrev pub is_built : OptionRule → Bool
is_built option = is_there option.standing

-- ---- Lists of options

-- a name isn't empty and has no `=`, which is 61
abbrev pub is_name : Text → Bool
is_name [] = false
is_name (b ∷ bs) = not (list_any (λ c. c == 61) (b ∷ bs))

abbrev pub has_option : Text → List OptionRule → Bool
has_option name options = list_any (λ option. bytes_eq name option.name) options

-- each option has a name of its own
abbrev pub are_named : List OptionRule → Bool
are_named [] = true
are_named (option ∷ options) = is_name option.name && (not (has_option option.name options) && are_named options)

-- ---- Items of a command

-- an option with a text is a number option, and one without is a flag
abbrev pub accepts : Takes → Option Text → Bool
accepts takes.Flag None = true
accepts takes.Flag (Some text) = false
accepts (takes.Number least most default) None = false
accepts (takes.Number least most default) (Some text) = true

-- the option of this name that the program has
abbrev pub option_of : List OptionRule → Text → Option OptionRule
option_of options name = find (λ option. is_built option && bytes_eq option.name name) options

-- the item is one of the command's options
abbrev pub is_known : List OptionRule → Item → Bool
is_known options item = option_map_or (λ option. accepts option.takes item.1) (option_of options item.0) false

-- ---- Values

-- an optional `-` and 1 to 20 digits
abbrev pub is_number : Text → Bool
is_number text = is_decimal text && nat_le (length (without_minus text)) 20

-- the number lies in the range, both ends counted
abbrev pub is_between : ℤ → ℤ → ℤ → Bool
is_between least most n = int_le least n && int_le n most

-- the number that a text writes, where it lies in the range
abbrev pub number_in : ℤ → ℤ → Text → Option ℤ
number_in least most text = if is_number text && is_between least most (decimal_value text) then Some (decimal_value text) else None

-- the number of an option: that of its text, or the default where no text is given
abbrev pub number_or : ℤ → ℤ → ℤ → Option Text → Option ℤ
number_or least most default None = Some default
number_or least most default (Some text) = number_in least most text

abbrev pub default_of : Takes → Value
default_of takes.Flag = value.Flag false
default_of (takes.Number least most default) = value.Number default

abbrev pub given_to : Takes → Text → List Item → Option Value
given_to takes.Flag name items = Some (value.Flag (has_name name items))
given_to (takes.Number least most default) name items = option_map value.Number (number_or least most default (text_of name items))

-- the value of an option by the items, where the text that they give it writes a number in its range
abbrev pub value_in : List Item → OptionRule → Option Value
value_in items option = if is_built option then given_to option.takes option.name items else Some (default_of option.takes)

-- the values of the options, in their order
abbrev pub values_in : List Item → List OptionRule → Option (List Value)
values_in items [] = Some []
values_in items (option ∷ options) = option_and_then (λ first. option_map (λ rest. first ∷ rest) (values_in items options)) (value_in items option)

-- ---- What needs what

-- a flag is given by its name, and a number by its text
abbrev pub is_given : List Item → Takes → Text → Bool
is_given items takes.Flag name = has_name name items
is_given items (takes.Number least most default) name = is_some (text_of name items)

abbrev pub has_need : List Item → Option Text → Bool
has_need items None = true
has_need items (Some name) = has_name name items

-- where the option is given, the flag that it needs is given
abbrev pub meets_need : List Item → OptionRule → Bool
meets_need items option = if is_built option && is_given items option.takes option.name then has_need items option.needs else true

-- The words give a command's options these values: they are the words of some items, each of which is one of the command's
-- options, none is given twice, and none without the flag that it needs; and of these items are the values, with defaults for
-- what isn't given.
pub record Gives (options : List OptionRule) (words : List Text) (values : List Value) : Type 0 where
  pub items : List Item
  pub spelled : Spells items words
  pub known : list_all (is_known options) items ≡ true
  pub once : are_once items ≡ true
  pub needed : list_all (meets_need items) options ≡ true
  pub valued : values_in items options ≡ Some values

-- ---- Tables

-- what a built option needs is a built flag
abbrev pub is_need_known : List OptionRule → OptionRule → Bool
is_need_known options option = if is_built option then option_map_or (λ name. is_known options (name, None)) option.needs true else true

-- a default lies in its range
abbrev pub has_default : Takes → Bool
has_default takes.Flag = true
has_default (takes.Number least most default) = is_between least most default

-- a list of options as a command may have it
abbrev pub is_table : List OptionRule → Bool
is_table options = are_named options && (list_all (is_need_known options) options && list_all (λ option. has_default option.takes) options)
