-- The lines of an image text, and the words of a line.
use Rattle.std.specs.Prelude.{ℕ, suc, Bool, true, false, ◌||◌, ◌==◌, List, [], ◌∷◌, if◌then◌else◌}
use Rattle.std.specs.List.{filter, list_all, slice_split}
use Rattle.std.specs.Str.Lines.{lines}

-- a space or a tab: what parts the words of a line
abbrev pub is_blank : ℕ → Bool
is_blank b = b == 32 || b == 9

-- white space within a line, which has no line feed
abbrev pub is_white : ℕ → Bool
is_white b = is_blank b || b == 13

abbrev pub is_some_word : List ℕ → Bool
is_some_word [] = false
is_some_word (b ∷ bytes) = true

-- the words of a line: the pieces between its blanks that aren't empty
unfoldable pub words : List ℕ → List (List ℕ)
words line = filter is_some_word (slice_split is_blank line)

-- a line that isn't white space alone, with its number in the text, from 1
pub record Written : Type 0 where
  pub number : ℕ
  pub words : List (List ℕ)

abbrev pub numbered : ℕ → List ℕ → Written
numbered number line = record { number = number; words = words line }

-- those of some lines, in order, where so many lines stand before them
unfoldable pub written_behind : ℕ → List (List ℕ) → List Written
written_behind n [] = []
written_behind n (line ∷ more) =
    if list_all is_white line then written_behind (suc n) more
    else numbered (suc n) line ∷ written_behind (suc n) more

-- Those of a text. `lines` are its lines: each ends with a line feed, which the last may lack, and a carriage return directly
-- before the line feed isn't part of the line.
unfoldable pub written : List ℕ → List Written
written text = written_behind 0 (lines text)
