-- Blocks whose lines can be made: the way to the loop, the loop and its body are ready.
use Rattle.std.specs.Prelude.{[], ◌∷◌, ◌++◌}
use Rattle.affine_ast.specs.Intervals.{Ranges}
use Rattle.nest_domain.specs.Ways.{Round}
use Rattle.nest_domain.specs.Ready.{Ready, ReadyNest, ranges_at_end}
use Rattle.text_places.specs.Blocks.{Block}

pub record ReadyBlock (rho : Ranges) (b : Block) : Type 0 where
  pub outside : Ready b.way rho
  pub inside : Ready (b.way ++ Round b.var b.lower b.upper b.step ∷ []) rho
  pub body : ReadyNest b.body (ranges_at_end (b.way ++ Round b.var b.lower b.upper b.step ∷ []) rho)
