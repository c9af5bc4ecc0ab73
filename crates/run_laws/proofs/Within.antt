-- The numbers of a valid module stay in their intervals.
use Rattle.std.proofs.Common.{ℤ, subst}
use Rattle.std.specs.Prelude.{Option, Some}
use Rattle.affine_expr.specs.Pure.{is_outside}
use Rattle.affine_expr.specs.Spread.{Within}
use Rattle.affine_ast.specs.declared.types.Bound.{Bound}
use Rattle.affine_ast.specs.declared.types.Bound.TheVariants as bound
use Rattle.affine_ast.specs.Intervals.{Ranges, first_turn, last_end, turn_range}
use Rattle.affine_ast.specs.Names.{put}
use Rattle.affine_ast.specs.Nest.{Plain, Nest, Nothing, Loop, Branch, Does, nest}
use Rattle.affine_ast.specs.Parts.{maps_of}
use Rattle.affine_ast.proofs.Parts.{Every-weaker}
use Rattle.direct_meaning.specs.Actions.{after_plain, behind}
use Rattle.direct_meaning.specs.Memory.{start_env}
use Rattle.direct_meaning.specs.Pure.{AffineNest}
use Rattle.direct_meaning.specs.Static.{Env, knows, number, lower_of, upper_of}
use Rattle.direct_meaning.specs.Work.{ranges_after, start_ranges}
use Rattle.direct_meaning.proofs.RangesHold.{RangesHold, put_in, lower_in, upper_in, plain_in, start_in}
use Rattle.valid_laws.specs.Bounded.{BoundedBound, BoundedNest}
use Rattle.valid_laws.specs.Evaluable.{EvaluableAccess, EvaluableBound, EvaluablePlain, EvaluableNest}
use Rattle.valid_laws.proofs.Evaluated.{turn_in, valid_evaluable}
use Rattle.valid_laws.proofs.Passing.{valid_affine}
use Rattle.valid_laws.proofs.Reach.{valid_bounded}
use Rattle.valid_laws.proofs.Small.{not_false}
use Rattle.run_laws.specs.StaysWithin.{AccessStays, BoundStays, PlainStays, InIntervals, StaysWithin, ValidStaysWithin}
use Rattle.run_laws.proofs.MetValues.{each_meets, rows_meet}

in_intervals : (e : Env) (rho : Ranges) → RangesHold e rho → InIntervals e rho
in_intervals e rho h n z is = subst (λ (o : Option ℤ). Within (number o) (rho n)) is (h n)

bound_stays : (e : Env) (rho : Ranges) (b : Bound) → BoundedBound rho b → EvaluableBound e b → BoundStays e b
bound_stays e rho (bound.Int z) k v = not_false (is_outside z) k
bound_stays e rho (bound.Value n) k v = tt
bound_stays e rho (bound.Map at) k v = each_meets _ _ at.map.results v

plain_stays : (e : Env) (p : Plain) → EvaluablePlain e p → PlainStays e p
plain_stays e p v = Every-weaker (EvaluableAccess e) (AccessStays e) (λ at v. each_meets _ _ at.map.results v) (maps_of p) v

stays : (n : Nest) (e : Env) (rho : Ranges) → AffineNest n → BoundedNest n rho → EvaluableNest n e → RangesHold e rho → StaysWithin n e rho
stays Nothing e rho af bd v h = in_intervals e rho h
stays (Loop line x l u s body rest) e rho af bd v h =
    let low = lower_in e rho l h af.0 in
    let high = upper_in e rho u h af.1 in (
      in_intervals e rho h,
      bound_stays e rho l bd.0 v.0,
      bound_stays e rho u bd.1 v.1,
      λ z from to. stays body (knows e x z) (put rho x (turn_range (first_turn rho l) (last_end rho u))) af.3 bd.2 (v.2 z from to)
          (put_in e rho x (Some z) (turn_range (first_turn rho l) (last_end rho u)) (turn_in (first_turn rho l) (last_end rho u) (lower_of e l) (upper_of e u) z low high from to) h),
      stays rest (behind body e) rho af.4 bd.3 v.3 h,
    )
stays (Branch line set names first has other rest) e rho af bd v h = (
  in_intervals e rho h,
  rows_meet _ _ set.rows v.0,
  stays first e rho af.0 bd.1 v.1 h,
  stays other (behind first e) rho af.1 bd.2 v.2 h,
  stays rest (behind other (behind first e)) rho af.2 bd.3 v.3 h,
)
stays (Does line p rest) e rho af bd v h = (in_intervals e rho h, plain_stays e p v.0, stays rest (after_plain p e) (ranges_after p rho) af.1 bd.1 v.1 (plain_in p e rho af.0 h))

pub stays_within : ValidStaysWithin
stays_within m valid memory fits =
    stays (nest m.body) (start_env m.args memory.symbols) (start_ranges m.args) (valid_affine m valid) (valid_bounded m valid) (valid_evaluable m valid memory fits) (start_in m memory fits)
