-- Which image a text spells, which rule a text breaks first, and the printed text of an image.
use Rattle.std.specs.Prelude.{◌≡◌, ℕ, suc, ◌<◌, ◌⊎◌, ℤ, true, List, [], ◌∷◌, ◌++◌, map, take, drop, flat_map, length, Some, None, slice_get, codes}
use Rattle.std.specs.Fmt.{signed_decimal}
use Rattle.std.specs.List.{list_all}
use Rattle.std.specs.Str.Lines.{lines}
use Rattle.num_row.specs.Decimals.{decimal_value}
use Rattle.affine_ast.specs.declared.image.Cells.{Cells}
use Rattle.affine_ast.specs.declared.image.Image.{Image}
use Rattle.affine_ast.specs.declared.module.Arg.{Arg}
use Rattle.affine_ast.specs.declared.module.ArgKind.{ArgKind}
use Rattle.affine_ast.specs.declared.module.ArgKind.TheVariants as kind
use Rattle.affine_ast.specs.declared.module.Module.{Module}
use Rattle.direct_meaning.specs.Memory.{Fits}
use Rattle.mem_image.specs.Lines.{Written, written}
use Rattle.mem_image.specs.Forms.{is_name, are_numbers, rule_of_line}

-- ---- The image as one row of numbers for each argument

-- an argument's name without its `%`, and its numbers in the image
pub record Row : Type 0 where
  pub name : List ℕ
  pub numbers : List ℤ

abbrev pub row : List ℕ → List ℤ → Row
row name numbers = record { name = name; numbers = numbers }

-- the numbers of the first memref, if there is one
abbrev pub first_cells : List Cells → List ℤ
first_cells [] = []
first_cells (cells ∷ memrefs) = cells.values

abbrev pub own_numbers : ArgKind → List Cells → List ℤ → List ℤ
own_numbers (kind.Memref ty) memrefs symbols = first_cells memrefs
own_numbers (kind.Index range) memrefs symbols = take 1 symbols

abbrev pub memrefs_behind : ArgKind → List Cells → List Cells
memrefs_behind (kind.Memref ty) memrefs = drop 1 memrefs
memrefs_behind (kind.Index range) memrefs = memrefs

abbrev pub symbols_behind : ArgKind → List ℤ → List ℤ
symbols_behind (kind.Memref ty) symbols = symbols
symbols_behind (kind.Index range) symbols = drop 1 symbols

-- the rows of an image in argument order: a memref argument takes the next memref, an index argument the next symbol
unfoldable pub rows : List Arg → List Cells → List ℤ → List Row
rows [] memrefs symbols = []
rows (arg ∷ args) memrefs symbols =
    row arg.name.text (own_numbers arg.kind memrefs symbols) ∷ rows args (memrefs_behind arg.kind memrefs) (symbols_behind arg.kind symbols)

-- ---- Which image a text spells

-- the words of a line give a row: its name, `=`, and one number or more that are the row's
pub record Gives (line : List (List ℕ)) (row : Row) : Type 0 where
  pub numbers : List (List ℕ)
  pub spelled : line ≡ row.name ∷ codes "=" ∷ numbers
  pub named : is_name row.name ≡ true
  pub decimal : are_numbers numbers ≡ true
  pub same : map decimal_value numbers ≡ row.numbers

-- a line for each row, in order, and no other
abbrev pub GiveAll : List Written → List Row → Type 0
GiveAll [] [] = Unit {0}
GiveAll [] (row ∷ rest) = ⊥
GiveAll (line ∷ lines) [] = ⊥
GiveAll (line ∷ lines) (row ∷ rest) = Gives line.words row × GiveAll lines rest

-- the text spells the image: its lines but those of white space alone give the image's rows, and the image fits the module
pub record Spells (text : List ℕ) (module_ : Module) (image : Image) : Type 0 where
  pub fits : Fits module_ image
  pub given : GiveAll (written text) (rows module_.args image.memrefs image.symbols)

-- each argument's name is one that a text can have
abbrev pub HasNames : Module → Type 0
HasNames m = list_all (λ arg. is_name arg.name.text) m.args ≡ true

-- ---- Which rule a text breaks first

-- the line with that place among the lines breaks that rule, the lowest that it breaks, against the argument with the same place
pub record Breaks (args : List Arg) (lines : List Written) (place line number : ℕ) : Type 0 where
  pub entry : Written
  pub stands : slice_get lines place ≡ Some entry
  pub numbered : entry.number ≡ line
  pub lowest : rule_of_line (slice_get args place) entry.words ≡ Some number

-- none of the first lines, so many, breaks a rule
abbrev pub NoneBreaks : List Arg → List Written → ℕ → Type 0
NoneBreaks args lines count = (place : ℕ) (entry : Written) → place < count → slice_get lines place ≡ Some entry → rule_of_line (slice_get args place) entry.words ≡ None

-- the first line that breaks a rule, and the lowest that it breaks
pub record BreaksFirst (args : List Arg) (lines : List Written) (line number : ℕ) : Type 0 where
  pub place : ℕ
  pub broken : Breaks args lines place line number
  pub before : NoneBreaks args lines place

-- no line breaks a rule, and an argument has no line: the place is one past the last line of the text, which has so many
pub record Lacks (args : List Arg) (lines : List Written) (count line number : ℕ) : Type 0 where
  pub before : NoneBreaks args lines (length lines)
  pub fewer : length lines < length args
  pub past : line ≡ suc count
  pub second : number ≡ 2

-- the first broken rule of a text, and its line
abbrev pub IsFirstBroken : List ℕ → Module → ℕ → ℕ → Type 0
IsFirstBroken text m line number =
    BreaksFirst m.args (written text) line number ⊎ Lacks m.args (written text) (length (lines text)) line number

-- ---- The printed text

abbrev pub printed_number : ℤ → List ℕ
printed_number z = codes " " ++ signed_decimal z

abbrev pub printed_row : Row → List ℕ
printed_row row = row.name ++ (codes " =" ++ (flat_map printed_number row.numbers ++ codes "\n"))

-- a line for each argument: its name, `=` and its numbers, with one space each
unfoldable pub printed : Module → Image → List ℕ
printed m image = flat_map printed_row (rows m.args image.memrefs image.symbols)
