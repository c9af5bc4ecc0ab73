-- What a valid module's statements keep to is what their rows ask for.
use Rattle.std.proofs.Common.{◌≡◌, true, ℤ, pos, ◌<ℤ◌, arith}
use Rattle.std.specs.Prelude.{◌&&◌}
use Rattle.std.proofs.lemmas.Int.{ints}
use Rattle.std.proofs.lemmas.Bool.{and_parts}
use Rattle.affine_ast.specs.declared.module.Module.{Module}
use Rattle.affine_ast.specs.declared.types.Access.{Access}
use Rattle.affine_ast.specs.declared.types.Bound.{Bound}
use Rattle.affine_ast.specs.declared.types.Bound.TheVariants as bound
use Rattle.affine_ast.specs.declared.types.MemrefType.{MemrefType}
use Rattle.affine_ast.specs.Intervals.{Ranges, first_turn, last_end, turn_range}
use Rattle.affine_ast.specs.Names.{put}
use Rattle.affine_ast.specs.Nest.{Plain, Nest, Nothing, Loop, Branch, Does, Value, Load, Store, RawLoad, RawStore, Constant, Binary, Cast, Alloc, Dealloc, Start, Wait, Return, nest}
use Rattle.affine_ast.specs.Rules.{map_fits, has_result, subscripts_fit, bound_fits, bound_pure, step_positive, counts_fit, maps_pure, results_fit}
use Rattle.affine_ast.specs.Scope.{Totals, Around, counted, in_loop, in_condition, with_totals, behind_plain}
use Rattle.affine_ast.specs.Validity.{Passed, then_told, told, rule_of_plain, rule_of_loop, rule_of_condition, IsValid}
use Rattle.direct_meaning.specs.Work.{ranges_after, start_ranges}
use Rattle.valid_laws.specs.Bounded.{BoundedBound, BoundedPlain, BoundedNest}
use Rattle.valid_laws.proofs.Passing.{judged_passed, then_passed, plain_holds, loop_holds, condition_holds, valid_passes}
use Rattle.valid_laws.proofs.Reach.{valid_bounded}
use Rattle.module_work.specs.Workable.{WorkableBound}
use Rattle.nest_domain.specs.Ready.{ReadyPlain, ReadyNest}

bound_ready : (rho : Ranges) (b : Bound) → bound_fits b ≡ true → bound_pure b ≡ true → BoundedBound rho b → WorkableBound rho b
bound_ready rho (bound.Int z) f p b = tt
bound_ready rho (bound.Value n) f p b = tt
bound_ready rho (bound.Map at) f p b = record { fits = (and_parts (map_fits at) (has_result at) f).0; pure = p; bounded = b }

subscripts_map : (at : Access) (ty : MemrefType) → subscripts_fit at ty ≡ true → map_fits at ≡ true
unfolding subscripts_fit
subscripts_map at ty h = (and_parts (map_fits at) _ h).0

plain_ready : (rho : Ranges) (p : Plain) → counts_fit p ≡ true → maps_pure p ≡ true → BoundedPlain rho p → ReadyPlain rho p
plain_ready rho (Value r pick at) f p b = record { fits = (and_parts (map_fits at) (results_fit pick at) f).0; pure = p; bounded = b }
plain_ready rho (Load r m at ty) f p b = record { fits = subscripts_map at ty f; pure = p; bounded = b }
plain_ready rho (Store x m at ty) f p b = record { fits = subscripts_map at ty f; pure = p; bounded = b }
plain_ready rho (RawLoad r m at ty) f p b = tt
plain_ready rho (RawStore x m at ty) f p b = tt
plain_ready rho (Constant r z ty) f p b = tt
plain_ready rho (Binary r op x y ty) f p b = tt
plain_ready rho (Cast r kind x from to) f p b = tt
plain_ready rho (Alloc r ty) f p b = tt
plain_ready rho (Dealloc m ty) f p b = tt
plain_ready rho (Start x xa y ya t ta n stride types) f p b = tt
plain_ready rho (Wait t at n ty) f p b = tt
plain_ready rho Return f p b = tt

positive : (s : ℤ) → step_positive s ≡ true → pos 0 <ℤ s
positive s h = grind (arith, ints, h)

ready_told : (n : Nest) (a : Around) (t : Totals) (rho : Ranges) → BoundedNest n rho → told n a ≡ Passed t → ReadyNest n rho
unfolding told ReadyNest
ready_told Nothing a t rho bd h = tt
ready_told (Loop line v l u s body rest) a t rho bd h =
    let j = judged_passed line (rule_of_loop (counted a) v l u s) _ t h in
    let p = then_passed (told body (in_loop v l u (counted a))) (λ t. told rest (with_totals t a)) t j.1 in
    let k = loop_holds (counted a) v l u s j.0 in
    let f = and_parts (bound_fits l) (bound_fits u) k.fits in
    let q = and_parts (bound_pure l) (bound_pure u && step_positive s) k.pure in
    let r = and_parts (bound_pure u) (step_positive s) q.1 in (
      bound_ready rho l f.0 q.0 bd.0,
      bound_ready rho u f.1 r.0 bd.1,
      positive s r.1,
      ready_told body (in_loop v l u (counted a)) p.0 (put rho v (turn_range (first_turn rho l) (last_end rho u))) bd.2 p.1,
      ready_told rest (with_totals p.0 a) t rho bd.3 p.2,
    )
ready_told (Branch line set names first has other rest) a t rho bd h =
    let j = judged_passed line (rule_of_condition (counted a) set names) _ t h in
    let p = then_passed (told first (in_condition (counted a))) (λ t. then_told (told other (in_condition (with_totals t a))) (λ u. told rest (with_totals u a))) t j.1 in
    let q = then_passed (told other (in_condition (with_totals p.0 a))) (λ u. told rest (with_totals u a)) t p.2 in
    let k = condition_holds (counted a) set names j.0 in (
      record { pure = k.pure; bounded = bd.0 },
      ready_told first (in_condition (counted a)) p.0 rho bd.1 p.1,
      ready_told other (in_condition (with_totals p.0 a)) q.0 rho bd.2 q.1,
      ready_told rest (with_totals q.0 a) t rho bd.3 q.2,
    )
ready_told (Does line p rest) a t rho bd h =
    let j = judged_passed line (rule_of_plain (counted a) p rest) _ t h in
    let k = plain_holds (counted a) p rest j.0 in
    (plain_ready rho p k.counts k.pure bd.0, ready_told rest (behind_plain p (counted a)) t (ranges_after p rho) bd.1 j.1)

pub texts_ready : (m : Module) → IsValid m → ReadyNest (nest m.body) (start_ranges m.args)
texts_ready m v =
    let p = valid_passes m v in
    ready_told (nest m.body) p.0 p.1 (start_ranges m.args) (valid_bounded m v) p.2
