-- The values at the places of a list, and values that fit their options.
use Rattle.std.specs.Prelude.{◌≡◌, ℕ, Bool, true, false, ℤ, pos, negsuc, List, [], ◌∷◌, Option, Some, None, if◌then◌else◌, nat_lt, slice_get}
use Rattle.command_words.specs.declared.options.Takes.{Takes}
use Rattle.command_words.specs.declared.options.Takes.TheVariants as takes
use Rattle.command_words.specs.declared.options.Value.{Value}
use Rattle.command_words.specs.declared.options.Value.TheVariants as value
use Rattle.command_words.specs.Options.{OptionRule, is_between}

abbrev pub flag_of : Option Value → Bool
flag_of None = false
flag_of (Some (value.Flag given)) = given
flag_of (Some (value.Number n)) = false

abbrev pub integer_of : Option Value → ℤ
integer_of None = pos 0
integer_of (Some (value.Flag given)) = pos 0
integer_of (Some (value.Number n)) = n

abbrev pub natural_of : ℤ → ℕ
natural_of (pos n) = n
natural_of (negsuc n) = 0

abbrev pub flag_at : List Value → ℕ → Bool
flag_at values place = flag_of (slice_get values place)

abbrev pub integer_at : List Value → ℕ → ℤ
integer_at values place = integer_of (slice_get values place)

abbrev pub natural_at : List Value → ℕ → ℕ
natural_at values place = natural_of (integer_at values place)

abbrev pub byte_at : List Value → ℕ → ℕ
byte_at values place = if nat_lt (natural_at values place) 256 then natural_at values place else 0

-- the value is one that an option can have: a flag's, or a number in the range
abbrev pub Fits : Takes → Value → Type 0
Fits takes.Flag (value.Flag given) = Unit {0}
Fits takes.Flag (value.Number n) = ⊥
Fits (takes.Number least most default) (value.Flag given) = ⊥
Fits (takes.Number least most default) (value.Number n) = is_between least most n ≡ true

-- each option has a value that it can have
abbrev pub AllFit : List OptionRule → List Value → Type 0
AllFit [] [] = Unit {0}
AllFit [] (value ∷ values) = ⊥
AllFit (option ∷ options) [] = ⊥
AllFit (option ∷ options) (value ∷ values) = Fits option.takes value × AllFit options values
