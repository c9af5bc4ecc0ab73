-- The words behind a command's name: options with the texts of their numbers, and flags.
use Rattle.std.specs.Prelude.{◌≡◌, ◌⊎◌, ℕ, ◌==◌, ◌&&◌, Bool, true, false, not, List, [], ◌∷◌, ◌++◌, Option, Some, None, find, option_and_then, codes}
use Rattle.std.specs.List.{list_any}
use Rattle.std.specs.Str.{bytes_eq}

abbrev pub Text : Type 0
Text = List ℕ

-- what is given: an option with the text of its number, or a flag alone, by its name
abbrev pub Item : Type 0
Item = Text × Option Text

-- a hyphen is 45
abbrev pub begins_with_hyphen : Text → Bool
begins_with_hyphen [] = false
begins_with_hyphen (b ∷ bs) = b == 45

-- `--name`
abbrev pub name_word : Text → Text
name_word name = codes "--" ++ name

-- `--name=text`
abbrev pub joined_word : Text → Text → Text
joined_word name text = name_word (name ++ (codes "=" ++ text))

-- the words that write an item: an option as `--name=text` or as the two words `--name` and `text`, where the text begins with
-- no hyphen; a flag as `--name`
abbrev pub IsWritten : Item → List Text → Type 0
IsWritten (name, Some text) words = (words ≡ joined_word name text ∷ []) ⊎ ((begins_with_hyphen text ≡ false) × (words ≡ name_word name ∷ text ∷ []))
IsWritten (name, None) words = words ≡ name_word name ∷ []

-- the words are those of the items, one item's behind the other's: every word belongs to one item
abbrev pub Spells : List Item → List Text → Type 0
Spells [] words = words ≡ []
Spells (item ∷ items) words = (front : List Text) × ((rest : List Text) × ((words ≡ front ++ rest) × (IsWritten item front × Spells items rest)))

abbrev pub has_name : Text → List Item → Bool
has_name name items = list_any (λ item. bytes_eq item.0 name) items

-- no name is given twice
abbrev pub are_once : List Item → Bool
are_once [] = true
are_once (item ∷ items) = not (has_name item.0 items) && are_once items

-- the text that is given for this name
abbrev pub text_of : Text → List Item → Option Text
text_of name items = option_and_then (λ item. item.1) (find (λ item. bytes_eq item.0 name) items)
