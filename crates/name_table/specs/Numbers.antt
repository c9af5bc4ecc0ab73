-- Names with their numbers, and the place at which a text stands first in a list.
use Rattle.std.specs.Prelude.{◌≡◌, ℕ, suc, List, [], ◌∷◌, ◌++◌, map, Option, Some, None, is_some, if◌then◌else◌, Vec}
use Rattle.std.specs.Option.{option_map}
use Rattle.std.specs.Map.{lookup}
use Rattle.std.specs.Str.{bytes_eq}
use Rattle.std.specs.declared.alloc.Global.{Global}

-- a name with its number
abbrev pub Numbered : Type 0
Numbered = List ℕ × ℕ

-- the entries of a table from names to numbers
abbrev pub number_list : List (Vec ℕ Global × ℕ) → List Numbered
number_list entries = map (λ (e : Vec ℕ Global × ℕ). (e.0.items, e.1)) entries

-- the number that the first of these gives to a name
abbrev pub number_in : List ℕ → List Numbered → Option ℕ
number_in name numbers = lookup (λ n. bytes_eq n name) numbers

-- the same with one name more, which keeps its number where it has one
abbrev pub with_number : List ℕ → ℕ → List Numbered → List Numbered
with_number name number numbers = if is_some (number_in name numbers) then numbers else numbers ++ (name, number) ∷ []

-- the place at which a text stands first, counted from 0
abbrev pub place_of : List ℕ → List (List ℕ) → Option ℕ
place_of text [] = None
place_of text (t ∷ texts) = if bytes_eq t text then Some 0 else option_map suc (place_of text texts)

-- the number of each text is its first place in the list
abbrev pub TellsPlaces : List Numbered → List (List ℕ) → Type 0
TellsPlaces numbers texts = (text : List ℕ) → number_in text numbers ≡ place_of text texts

-- the first item of this name
abbrev pub first_named : {X : Type 0} → (X → List ℕ) → List ℕ → List X → Option X
first_named name text [] = None
first_named name text (x ∷ xs) = if bytes_eq (name x) text then Some x else first_named name text xs
