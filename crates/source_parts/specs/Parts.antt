-- The two parts of a source.
use Rattle.std.specs.Prelude.{ℕ, suc, Bool, not, List, [], ◌∷◌, take, drop, ◌==◌, if◌then◌else◌, codes}
use Rattle.std.specs.List.{concat, list_any, onto_first, prefix_len}
use Rattle.std.specs.Str.{bytes_eq}

-- the lines of a source, each with the line feed that ends it; the last may lack one
unfoldable pub full_lines : List ℕ → List (List ℕ)
full_lines [] = []
full_lines (b ∷ bytes) = if b == 10 then (b ∷ []) ∷ full_lines bytes else onto_first b (full_lines bytes)

-- the line is `---`, with or without a carriage return at its end, and with or without its line feed
unfoldable pub is_mark : List ℕ → Bool
is_mark line = list_any (bytes_eq line) (codes "---" ∷ codes "---\r" ∷ codes "---\n" ∷ codes "---\r\n" ∷ [])

-- how many lines stand before the first mark: all where there is none
abbrev pub unmarked : List (List ℕ) → ℕ
unmarked lines = prefix_len (λ line. not (is_mark line)) lines

-- the text of a module: the lines before the first mark, one after the other
unfoldable pub text_part : List ℕ → List ℕ
text_part source = concat (take (unmarked (full_lines source)) (full_lines source))

-- the text of an image: the lines behind the first mark, one after the other, and nothing where there is none
unfoldable pub image_part : List ℕ → List ℕ
image_part source = concat (drop (suc (unmarked (full_lines source))) (full_lines source))
