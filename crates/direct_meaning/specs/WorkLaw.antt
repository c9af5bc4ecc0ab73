-- The law of work.
use Rattle.std.specs.Prelude.{◌≤◌, ◌<◌, ◌^◌, length}
use Rattle.affine_ast.specs.declared.image.Image.{Image}
use Rattle.affine_ast.specs.declared.module.Module.{Module}
use Rattle.affine_ast.specs.Nest.{nest}
use Rattle.direct_meaning.specs.Memory.{Fits, module_actions}
use Rattle.direct_meaning.specs.Pure.{AffineNest}
use Rattle.direct_meaning.specs.Work.{full_work, start_ranges, work}

-- a module of affine bounds and values and positive steps has, from every memory that fits it, no more actions than its
-- work; where the work saturates, than what it is before that
pub record WorkBounds (m : Module) (memory : Image) : Type 0 where
  pub full : length (module_actions m memory.symbols) ≤ full_work (nest m.body) (start_ranges m.args)
  pub saturated : work m < 2 ^ 127 → length (module_actions m memory.symbols) ≤ work m

abbrev pub ActionsWithinWork : Type 0
ActionsWithinWork = (m : Module) → AffineNest (nest m.body) → (memory : Image) → Fits m memory → WorkBounds m memory
