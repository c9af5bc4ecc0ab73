-- How the words are read, word by word, and what clap is told of a command. Nobody has to believe this file: the clause of
-- `read_words` speaks of `Words` and `Options` alone.
use Rattle.std.specs.Prelude.{◌≡◌, ◌==◌, ◌&&◌, Bool, true, not, List, [], ◌∷◌, ◌++◌, map, Option, Some, None, is_some, if◌then◌else◌, find, option_map, option_and_then, codes}
use Rattle.std.specs.List.{before_first, after_first, list_any}
use Rattle.std.specs.Str.{bytes_eq}
use Rattle.clap.specs.Words.{App, Rule, new_rule, found_of, first_value, one_text}
use Rattle.clap.specs.Simple.{new_shape}
use Rattle.clap.specs.declared.builder.action.ArgAction.TheVariants.{Set, SetTrue}
use Rattle.clap.specs.declared.parser.matches.ArgMatches.{ArgMatches}
use Rattle.command_words.specs.declared.options.Takes.{Takes}
use Rattle.command_words.specs.declared.options.Takes.TheVariants as takes
use Rattle.command_words.specs.Words.{Text, Item, begins_with_hyphen, has_name, text_of}
use Rattle.command_words.specs.Options.{OptionRule, is_built}

-- ---- Words

-- what clap is told of an option: it has a value, or it is a flag
pub data Choice : Type 0 where
  value : Text → Choice
  flag : Text → Choice

abbrev pub name_of : Choice → Text
name_of (value name) = name
name_of (flag name) = name

-- what stands after `--`, where something does
abbrev pub dashed : Text → Option Text
dashed (a ∷ b ∷ c ∷ rest) = if (a == 45) && (b == 45) then Some (c ∷ rest) else None
dashed _ = None

-- the word begins with a hyphen, and isn't `--` with something behind it
abbrev pub is_stray : Text → Bool
is_stray word = begins_with_hyphen word && not (is_some (dashed word))

abbrev pub name_in : Text → Text
name_in text = before_first (λ b. b == 61) text

-- what stands after `=`, where there is one
abbrev pub value_after : Text → Option Text
value_after text = if list_any (λ b. b == 61) text then Some (after_first (λ b. b == 61) text) else None

abbrev pub choice_of : List Choice → Text → Option Choice
choice_of choices name = find (λ c. bytes_eq (name_of c) name) choices

abbrev pub and_then : Item → Option (List Item) → Option (List Item)
and_then item = option_map (λ items. item ∷ items)

-- one word that begins an item: what it comes to, and how the rest is read, after an option whose value is still to come or after none
abbrev pub read_item : Option Choice → Option Text → (Option Text → Option (List Item)) → Option (List Item)
read_item None attached rest = None
read_item (Some (value name)) None rest = rest (Some name)
read_item (Some (value name)) (Some v) rest = and_then (name, Some v) (rest None)
read_item (Some (flag name)) None rest = and_then (name, None) (rest None)
read_item (Some (flag name)) (Some v) rest = None

abbrev pub read_word : List Choice → Option Text → (Option Text → Option (List Item)) → Option (List Item)
read_word choices None rest = None
read_word choices (Some text) rest = read_item (choice_of choices (name_in text)) (value_after text) rest

-- the items that the words spell, if they do; the first argument is the option whose value is still to come
unfoldable pub read : List Choice → Option Text → List Text → Option (List Item)
read choices None [] = Some []
read choices (Some name) [] = None
read choices None (word ∷ words) = read_word choices (dashed word) (λ waiting. read choices waiting words)
read choices (Some name) (word ∷ words) =
    if begins_with_hyphen word then None else and_then (name, Some word) (read choices None words)

-- no item's name stands before it
abbrev pub once_after : List Item → List Item → Bool
once_after before [] = true
once_after before (item ∷ items) = not (has_name item.0 before) && once_after (before ++ item ∷ []) items

abbrev pub if_once : List Item → Option (List Item)
if_once items = if once_after [] items then Some items else None

-- the items of a command's words, each at most once
abbrev pub items_of : List Choice → List Text → Option (List Item)
items_of choices words = option_and_then if_once (read choices None words)

-- ---- Clap

abbrev pub choice_by : Takes → Text → Choice
choice_by takes.Flag name = flag name
choice_by (takes.Number least most default) name = value name

abbrev pub choice_for : OptionRule → Choice
choice_for option = choice_by option.takes option.name

-- what the program has of the options
abbrev pub choices_of : List OptionRule → List Choice
choices_of [] = []
choices_of (option ∷ options) = if is_built option then choice_for option ∷ choices_of options else choices_of options

abbrev pub rule_of_choice : Choice → Rule
rule_of_choice (value name) = record (new_rule name) { long = Some name; action = Some Set }
rule_of_choice (flag name) = record (new_rule name) { long = Some name; action = Some SetTrue }

-- clap's command, as it reads it
abbrev pub app_with : Text → List Choice → App
app_with name choices = record {
  top = record (new_shape name) {
    no_binary_name = true;
    disable_help_flag = true;
    disable_version_flag = true;
    rules = map rule_of_choice choices;
  };
  subs = [];
}

abbrev pub AgreesBy : Takes → Text → ArgMatches → List Item → Type 0
AgreesBy takes.Flag name m items = one_text (found_of m) name ≡ Some (if has_name name items then codes "true" else codes "false")
AgreesBy (takes.Number least most default) name m items = first_value (found_of m) name ≡ text_of name items

abbrev pub AgreesOn : Option Text → ArgMatches → List Item → Type 0
AgreesOn None m items = Unit {0}
AgreesOn (Some name) m items = one_text (found_of m) name ≡ Some (if has_name name items then codes "true" else codes "false")

-- clap's matches have of a built option, and of the flag that it needs, what the items have
abbrev pub Agrees : ArgMatches → List Item → OptionRule → Type 0
Agrees m items option = is_built option ≡ true → AgreesBy option.takes option.name m items × AgreesOn option.needs m items

abbrev pub AllAgree : ArgMatches → List Item → List OptionRule → Type 0
AllAgree m items [] = Unit {0}
AllAgree m items (option ∷ options) = Agrees m items option × AllAgree m items options
