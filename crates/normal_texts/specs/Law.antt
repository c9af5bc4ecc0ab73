-- Such subscripts change nothing.
use Rattle.std.specs.Prelude.{◌≡◌, ℕ, ℤ}
use Rattle.affine_ast.specs.declared.image.Image.{Image}
use Rattle.affine_ast.specs.declared.module.Module.{Module}
use Rattle.affine_ast.specs.Validity.{IsValid}
use Rattle.prompt_semantics.specs.Prompt.{prompt}
use Rattle.peak_laws.specs.Peak.{peak}
use Rattle.normal_texts.specs.Texts.{IsNormal}

-- a valid module with its subscripts numbered so is valid, has the same prompt meaning, for every filler and capacity, and the same peak
pub record IsTheSame (m q : Module) : Type 0 where
  pub valid : IsValid q
  pub runs : (memory : Image) (filler : ℤ) (capacity : ℕ) → prompt q memory filler capacity ≡ prompt m memory filler capacity
  pub peak_is : peak q ≡ peak m

abbrev pub NormalIsTheSame : Type 0
NormalIsTheSame = (m q : Module) → IsValid m → IsNormal m q → IsTheSame m q
