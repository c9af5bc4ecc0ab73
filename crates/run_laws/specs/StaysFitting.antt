-- Runs behind which the memory fits the module again.
use Rattle.std.specs.Prelude.{◌≡◌, ℤ, List, [], ◌∷◌, length, take, drop, None}
use Rattle.affine_ast.specs.declared.image.Cells.{Cells}
use Rattle.affine_ast.specs.declared.image.Image.{Image}
use Rattle.affine_ast.specs.declared.module.Module.{Module}
use Rattle.affine_ast.specs.PlainLimits.{plain_fault}
use Rattle.affine_ast.specs.Validity.{IsValid}
use Rattle.direct_meaning.specs.Direct.{plain, state_of}
use Rattle.direct_meaning.specs.Memory.{Fits, slow_list}

-- memrefs as long as these, whose cells are those of a slow list in order
abbrev pub refilled : List Cells → List ℤ → List Cells
refilled [] slow = []
refilled (c ∷ cells) slow = record { values = take (length c.values) slow } ∷ refilled cells (drop (length c.values) slow)

-- a memory with a slow list in place of its own. The index arguments stay
abbrev pub with_slow : Image → List ℤ → Image
with_slow memory slow = record { memrefs = refilled memory.memrefs slow; symbols = memory.symbols }

-- a memory with a slow list fits the module, and its slow list is that one
pub record FitsWith (m : Module) (memory : Image) (slow : List ℤ) : Type 0 where
  pub fits : Fits m (with_slow memory slow)
  pub is : slow_list (refilled memory.memrefs slow) ≡ slow

-- from every memory that fits a valid module without allocations, deallocs, starts and waits: behind the direct run, at its end or
-- at its fault, the memory fits the module again
abbrev pub ValidStaysFitting : Type 0
ValidStaysFitting = (m : Module) → IsValid m → plain_fault m ≡ None → (memory : Image) → Fits m memory → FitsWith m memory (state_of (plain m memory)).slow
