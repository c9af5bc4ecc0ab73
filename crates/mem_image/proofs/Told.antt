-- What the reading of a text comes to, line by line.
use Rattle.std.proofs.Common.{◌≡◌, ℕ, List, [], ◌∷◌, Option, Some, None, ℤ, refl, sym, ap}
use Rattle.affine_ast.specs.declared.image.Cells.{Cells}
use Rattle.affine_ast.specs.declared.image.Image.{Image}
use Rattle.affine_ast.specs.declared.module.Arg.{Arg}
use Rattle.mem_image.specs.Forms.{values_in, rule_of_line}
use Rattle.mem_image.specs.Growing.{memrefs_with, symbols_with}
use Rattle.mem_image.specs.Lines.{Written}

pub data Told : Type 0 where
  Broken : ℕ → ℕ → Told
  Read : List Cells → List ℤ → Told

abbrev pub judged : ℕ → Option ℕ → Told → Told
judged line (Some number) more = Broken line number
judged line None more = more

-- the lines one after the other against the arguments, with the line one past the last and what was read so far
unfoldable pub told : List Arg → List Written → ℕ → List Cells → List ℤ → Told
told [] [] end memrefs symbols = Read memrefs symbols
told [] (line ∷ lines) end memrefs symbols = judged line.number (rule_of_line None line.words) (Read memrefs symbols)
told (arg ∷ args) [] end memrefs symbols = Broken end 2
told (arg ∷ args) (line ∷ lines) end memrefs symbols =
    judged line.number (rule_of_line (Some arg) line.words)
    (told args lines end (memrefs_with arg.kind (values_in line.words) memrefs) (symbols_with arg.kind (values_in line.words) symbols))

-- ---- One step of it

pub told_lacks : (args more : List Arg) (arg : Arg) (lines : List Written) (end : ℕ) (memrefs : List Cells) (symbols : List ℤ) → args ≡ arg ∷ more → lines ≡ [] → told args lines end memrefs symbols ≡ Broken end 2
unfolding told
told_lacks args more arg lines end memrefs symbols a l = rw (a, l) refl

pub told_broken : (args more : List Arg) (arg : Arg) (lines rest : List Written) (line : Written) (end number : ℕ) (memrefs : List Cells) (symbols : List ℤ) → args ≡ arg ∷ more → lines ≡ line ∷ rest → rule_of_line (Some arg) line.words ≡ Some number → told args lines end memrefs symbols ≡ Broken line.number number
unfolding told
told_broken args more arg lines rest line end number memrefs symbols a l r = rw (a, l, r) refl

pub told_line : (args more : List Arg) (arg : Arg) (lines rest : List Written) (line : Written) (end : ℕ) (memrefs : List Cells) (symbols : List ℤ) → args ≡ arg ∷ more → lines ≡ line ∷ rest → rule_of_line (Some arg) line.words ≡ None
    → told args lines end memrefs symbols ≡ told more rest end (memrefs_with arg.kind (values_in line.words) memrefs) (symbols_with arg.kind (values_in line.words) symbols)
unfolding told
told_line args more arg lines rest line end memrefs symbols a l r = rw (a, l, r) refl

pub told_left : (args : List Arg) (lines rest : List Written) (line : Written) (end number : ℕ) (memrefs : List Cells) (symbols : List ℤ) → args ≡ [] → lines ≡ line ∷ rest → rule_of_line None line.words ≡ Some number → told args lines end memrefs symbols ≡ Broken line.number number
unfolding told
told_left args lines rest line end number memrefs symbols a l r = rw (a, l, r) refl

pub told_read : (args : List Arg) (lines : List Written) (end : ℕ) (memrefs : List Cells) (symbols : List ℤ) → args ≡ [] → lines ≡ [] → told args lines end memrefs symbols ≡ Read memrefs symbols
unfolding told
told_read args lines end memrefs symbols a l = rw (a, l) refl

pub told_image : (args : List Arg) (lines : List Written) (end : ℕ) (a b : Image) → a ≡ b → told args lines end b.memrefs b.symbols ≡ told args lines end a.memrefs a.symbols
told_image args lines end a b e = ap (λ image. told args lines end image.memrefs image.symbols) (sym e)
