-- What the lines and the parts of a source are, in terms of its bytes.
use Rattle.std.specs.Prelude.{◌≡◌, ◌⊎◌, ℕ, Bool, true, false, not, ◌&&◌, ◌||◌, List, [], ◌∷◌, ◌++◌, ◌==◌}
use Rattle.std.specs.List.{concat, list_any, list_all}
use Rattle.source_parts.specs.Parts.{full_lines, is_mark, text_part, image_part}

-- ---- Lines

-- a line feed at the end and none before
abbrev pub is_full : List ℕ → Bool
is_full [] = false
is_full (b ∷ []) = b == 10
is_full (b ∷ c ∷ bytes) = not (b == 10) && is_full (c ∷ bytes)

-- some bytes, and no line feed among them
abbrev pub is_open : List ℕ → Bool
is_open [] = false
is_open (b ∷ bytes) = not (b == 10) && list_all (λ c. not (c == 10)) bytes

-- each line ends with its only line feed, which the last may lack
abbrev pub are_lines : List (List ℕ) → Bool
are_lines [] = true
are_lines (line ∷ []) = is_full line || is_open line
are_lines (line ∷ next ∷ more) = is_full line && are_lines (next ∷ more)

-- the lines of a source are, one after the other, the source
abbrev pub FullLines : Type 0
FullLines = (source : List ℕ) → (concat (full_lines source) ≡ source) × (are_lines (full_lines source) ≡ true)

-- ---- Parts

-- where the bytes end, a line ends: there is none, or the last one is a line feed
abbrev pub ended : Bool → List ℕ → Bool
ended so_far [] = so_far
ended so_far (b ∷ bytes) = ended (b == 10) bytes

abbrev pub EndsLine : List ℕ → Type 0
EndsLine bytes = ended true bytes ≡ true

-- no line of the bytes is a mark
abbrev pub HasNoMark : List ℕ → Type 0
HasNoMark bytes = list_any is_mark (full_lines bytes) ≡ false

-- The source is the text, a mark and the image, one after the other. No line of the text is a mark, and the mark begins a line.
-- So does the image, if it has any bytes.
pub record IsMarked (source text image : List ℕ) : Type 0 where
  pub mark : List ℕ
  pub whole : source ≡ text ++ (mark ++ image)
  pub is : is_mark mark ≡ true
  pub first : HasNoMark text
  pub begins : EndsLine text
  pub behind : EndsLine mark ⊎ (image ≡ [])

-- no line of the source is a mark: all of it is text
pub record IsUnmarked (source text image : List ℕ) : Type 0 where
  pub none : HasNoMark source
  pub whole : text ≡ source
  pub empty : image ≡ []

-- the text and the image are the parts of the source
abbrev pub IsParted : List ℕ → List ℕ → List ℕ → Type 0
IsParted source text image = IsMarked source text image ⊎ IsUnmarked source text image

-- each source has parts
abbrev pub AreParts : Type 0
AreParts = (source : List ℕ) → IsParted source (text_part source) (image_part source)

-- and no others
abbrev pub NoOtherParts : Type 0
NoOtherParts = (source text image : List ℕ) → IsParted source text image → (text ≡ text_part source) × (image ≡ image_part source)
