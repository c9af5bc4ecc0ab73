-- What holds of every valid module.
use Rattle.affine_ast.specs.declared.module.Module.{Module}
use Rattle.affine_ast.specs.Nest.{nest}
use Rattle.affine_ast.specs.Validity.{IsValid}
use Rattle.direct_meaning.specs.Pure.{AffineNest}
use Rattle.direct_meaning.specs.Work.{start_ranges}
use Rattle.valid_laws.specs.Bounded.{BoundedNest}
use Rattle.valid_laws.specs.Evaluable.{EvaluableNest}
use Rattle.valid_laws.specs.Safe.{SafeNest}
use Rattle.affine_ast.specs.declared.image.Image.{Image}
use Rattle.direct_meaning.specs.Memory.{Fits, start_env}

-- its bounds and values are affine, and its steps positive
abbrev pub ValidIsAffine : Type 0
ValidIsAffine = (m : Module) → IsValid m → AffineNest (nest m.body)

-- all its affine values stay within 2 ^ 62, over the ranges of the names in scope
abbrev pub ValidIsBounded : Type 0
ValidIsBounded = (m : Module) → IsValid m → BoundedNest (nest m.body) (start_ranges m.args)

-- from every memory that fits, each of its expressions may be evaluated wherever the list of actions comes to it
abbrev pub ValidIsEvaluable : Type 0
ValidIsEvaluable = (m : Module) → IsValid m → (memory : Image) → Fits m memory → EvaluableNest (nest m.body) (start_env m.args memory.symbols)

-- from every memory that fits, every number that a walk of its text needs fits a machine word, and each memref name stands for a
-- memref of the written space and rank
abbrev pub ValidIsSafe : Type 0
ValidIsSafe = (m : Module) → IsValid m → (memory : Image) → Fits m memory → SafeNest (nest m.body) (start_env m.args memory.symbols)
