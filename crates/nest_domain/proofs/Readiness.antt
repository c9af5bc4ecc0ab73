-- In a valid module the way to each statement is one whose rows can be formed.
use Rattle.std.proofs.Common.{◌≡◌, ℕ, zero, suc, Bool, true, false, cond, List, [], ◌∷◌, Some, None, Option, ℤ, pos, ◌<ℤ◌, subst, refl, arith}
use Rattle.std.proofs.lemmas.Int.{ints}
use Rattle.std.specs.Prelude.{◌&&◌}
use Rattle.std.proofs.lemmas.Bool.{and_parts}
use Rattle.affine_ast.specs.declared.module.Module.{Module}
use Rattle.affine_ast.specs.declared.types.Access.{Access}
use Rattle.affine_ast.specs.declared.types.Bound.{Bound}
use Rattle.affine_ast.specs.declared.types.Bound.TheVariants as bound
use Rattle.affine_ast.specs.declared.types.MemrefType.{MemrefType}
use Rattle.affine_ast.specs.Intervals.{Ranges, first_turn, last_end, turn_range}
use Rattle.affine_ast.specs.Names.{put}
use Rattle.affine_ast.specs.Nest.{Plain, Nest, Nothing, Loop, Branch, Does, Value, Load, Store, RawLoad, RawStore, Constant, Binary, Cast, Alloc, Dealloc, Start, Wait, Return, nest}
use Rattle.affine_ast.specs.Rules.{map_fits, has_result, subscripts_fit, bound_fits, bound_pure, step_positive, counts_fit, maps_pure, results_fit}
use Rattle.affine_ast.specs.Scope.{Totals, Around, counted, in_loop, in_condition, with_totals, behind_plain}
use Rattle.affine_ast.specs.Validity.{Passed, then_told, told, rule_of_plain, rule_of_loop, rule_of_condition, IsValid}
use Rattle.direct_meaning.specs.Work.{ranges_after, start_ranges}
use Rattle.valid_laws.specs.Bounded.{BoundedBound, BoundedPlain, BoundedNest}
use Rattle.valid_laws.proofs.Passing.{judged_passed, then_passed, plain_holds, loop_holds, condition_holds, valid_passes}
use Rattle.valid_laws.proofs.Reach.{valid_bounded}
use Rattle.module_work.specs.Workable.{WorkableBound, WorkablePlain}
use Rattle.nest_domain.specs.Ways.{Header, Round, Given, Except, Behind, Past, Spot, under, spot, at_path}
use Rattle.nest_domain.specs.Ready.{ReadyHeader, ReadyPlain, ReadyHere, Ready, ReadyNest, ranges_along, ranges_at_end}

bound_ready : (rho : Ranges) (b : Bound) → bound_fits b ≡ true → bound_pure b ≡ true → BoundedBound rho b → WorkableBound rho b
bound_ready rho (bound.Int z) f p b = tt
bound_ready rho (bound.Value n) f p b = tt
bound_ready rho (bound.Map at) f p b = record { fits = (and_parts (map_fits at) (has_result at) f).0; pure = p; bounded = b }

subscripts_map : (at : Access) (ty : MemrefType) → subscripts_fit at ty ≡ true → map_fits at ≡ true
unfolding subscripts_fit
subscripts_map at ty h = (and_parts (map_fits at) _ h).0

plain_ready : (rho : Ranges) (p : Plain) → counts_fit p ≡ true → maps_pure p ≡ true → BoundedPlain rho p → ReadyPlain rho p
plain_ready rho (Value r pick at) f p b = record { fits = (and_parts (map_fits at) (results_fit pick at) f).0; pure = p; bounded = b }
plain_ready rho (Load r m at ty) f p b = record { fits = subscripts_map at ty f; pure = p; bounded = b }
plain_ready rho (Store x m at ty) f p b = record { fits = subscripts_map at ty f; pure = p; bounded = b }
plain_ready rho (RawLoad r m at ty) f p b = tt
plain_ready rho (RawStore x m at ty) f p b = tt
plain_ready rho (Constant r z ty) f p b = tt
plain_ready rho (Binary r op x y ty) f p b = tt
plain_ready rho (Cast r kind x from to) f p b = tt
plain_ready rho (Alloc r ty) f p b = tt
plain_ready rho (Dealloc m ty) f p b = tt
plain_ready rho (Start x xa y ya t ta n stride types) f p b = tt
plain_ready rho (Wait t at n ty) f p b = tt
plain_ready rho Return f p b = tt

positive : (s : ℤ) → step_positive s ≡ true → pos 0 <ℤ s
positive s h = grind (arith, ints, h)

ready_of_told : (n : Nest) (a : Around) (t : Totals) (rho : Ranges) → BoundedNest n rho → told n a ≡ Passed t → ReadyNest n rho
unfolding told ReadyNest
ready_of_told Nothing a t rho bd h = tt
ready_of_told (Loop line v l u s body rest) a t rho bd h =
    let j = judged_passed line (rule_of_loop (counted a) v l u s) _ t h in
    let p = then_passed (told body (in_loop v l u (counted a))) (λ t. told rest (with_totals t a)) t j.1 in
    let k = loop_holds (counted a) v l u s j.0 in
    let f = and_parts (bound_fits l) (bound_fits u) k.fits in
    let q = and_parts (bound_pure l) (bound_pure u && step_positive s) k.pure in
    let q2 = and_parts (bound_pure u) (step_positive s) q.1 in (
      bound_ready rho l f.0 q.0 bd.0,
      bound_ready rho u f.1 q2.0 bd.1,
      positive s q2.1,
      ready_of_told body (in_loop v l u (counted a)) p.0 (put rho v (turn_range (first_turn rho l) (last_end rho u))) bd.2 p.1,
      ready_of_told rest (with_totals p.0 a) t rho bd.3 p.2,
    )
ready_of_told (Branch line set names first has other rest) a t rho bd h =
    let j = judged_passed line (rule_of_condition (counted a) set names) _ t h in
    let p = then_passed (told first (in_condition (counted a))) (λ t. then_told (told other (in_condition (with_totals t a))) (λ u. told rest (with_totals u a))) t j.1 in
    let q = then_passed (told other (in_condition (with_totals p.0 a))) (λ u. told rest (with_totals u a)) t p.2 in
    let k = condition_holds (counted a) set names j.0 in (
      record { pure = k.pure; bounded = bd.0 },
      ready_of_told first (in_condition (counted a)) p.0 rho bd.1 p.1,
      ready_of_told other (in_condition (with_totals p.0 a)) q.0 rho bd.2 q.1,
      ready_of_told rest (with_totals q.0 a) t rho bd.3 q.2,
    )
ready_of_told (Does line p rest) a t rho bd h =
    let j = judged_passed line (rule_of_plain (counted a) p rest) _ t h in
    let k = plain_holds (counted a) p rest j.0 in
    (plain_ready rho p k.counts k.pure bd.0, ready_of_told rest (behind_plain p (counted a)) t (ranges_after p rho) bd.1 j.1)

-- the way to a statement, and the statement
pub record IsReady (rho : Ranges) (s : Spot) : Type 0 where
  pub way : Ready s.way rho
  pub here : ReadyHere (ranges_at_end s.way rho) s.here

plain_header : (rho : Ranges) (p : Plain) → ReadyPlain rho p → WorkablePlain rho p
plain_header rho (Value r pick at) h = h
plain_header rho (Load r m at ty) h = tt
plain_header rho (Store x m at ty) h = tt
plain_header rho (RawLoad r m at ty) h = tt
plain_header rho (RawStore x m at ty) h = tt
plain_header rho (Constant r z ty) h = tt
plain_header rho (Binary r op x y ty) h = tt
plain_header rho (Cast r kind x from to) h = tt
plain_header rho (Alloc r ty) h = tt
plain_header rho (Dealloc m ty) h = tt
plain_header rho (Start x xa y ya t ta n stride types) h = tt
plain_header rho (Wait t at n ty) h = tt
plain_header rho Return h = tt

-- one thing more in front of the way
stepped : (rho : Ranges) (h : Header) (o : Option Spot) (s : Spot) → under h o ≡ Some s → ReadyHeader h rho → ((t : Spot) → o ≡ Some t → IsReady (ranges_along h rho) t) → IsReady rho s
unfolding Ready
stepped rho h None s e r f = absurd (let z : ⊥ = cc in z)
stepped rho h (Some t) s e r f =
    let k = f t refl in
    let same : record { way = h ∷ t.way; here = t.here } ≡ s = cc in
    subst (IsReady rho) same (record { way = (r, k.way); here = k.here })

pub no_step : {A : Type 0} (b : Bool) (o : Option Spot) (s : Spot) → (cond b None o) ≡ Some s → (o ≡ Some s → A) → A
no_step true o s e f = absurd (let z : ⊥ = cc in z)
no_step false o s e f = f e

pub either : {A : Type 0} (b : Bool) (o p : Option Spot) (s : Spot) → cond b o p ≡ Some s → (o ≡ Some s → A) → (p ≡ Some s → A) → A
either true o p s e f g = f e
either false o p s e f g = g e

ready_spot : (n : Nest) (i : ℕ) (steps : List (ℕ × Bool)) (rho : Ranges) (s : Spot) → ReadyNest n rho → spot n i steps ≡ Some s → IsReady rho s
unfolding spot ReadyNest Ready
ready_spot Nothing i steps rho s r e = absurd (let z : ⊥ = cc in z)
ready_spot (Loop line v l u st body rest) zero [] rho s r e =
    let same : record { way = []; here = Loop line v l u st body rest } ≡ s = cc in
    subst (IsReady rho) same (record { way = tt; here = tt })
ready_spot (Loop line v l u st body rest) zero (step ∷ steps) rho s r e =
    no_step step.1 (under (Round v l u st) (spot body step.0 steps)) s e (λ d. stepped rho (Round v l u st) (spot body step.0 steps) s d (r.0, r.1, r.2) (λ t k. ready_spot body step.0 steps _ t r.3 k))
ready_spot (Loop line v l u st body rest) (suc i) steps rho s r e = stepped rho (Past body) (spot rest i steps) s e tt (λ t k. ready_spot rest i steps rho t r.4 k)
ready_spot (Branch line set names first has other rest) zero [] rho s r e =
    let same : record { way = []; here = Branch line set names first has other rest } ≡ s = cc in
    subst (IsReady rho) same (record { way = tt; here = tt })
ready_spot (Branch line set names first has other rest) zero (step ∷ steps) rho s r e =
    either step.1 (under (Except set names first) (spot other step.0 steps)) (under (Given set names) (spot first step.0 steps)) s e
    (λ d. stepped rho (Except set names first) (spot other step.0 steps) s d tt (λ t k. ready_spot other step.0 steps rho t r.2 k))
    (λ d. stepped rho (Given set names) (spot first step.0 steps) s d r.0 (λ t k. ready_spot first step.0 steps rho t r.1 k))
ready_spot (Branch line set names first has other rest) (suc i) steps rho s r e =
    stepped rho (Past first) (under (Past other) (spot rest i steps)) s e tt (λ t k. stepped rho (Past other) (spot rest i steps) t k tt (λ w m. ready_spot rest i steps rho w r.3 m))
ready_spot (Does line p rest) zero [] rho s r e =
    let same : record { way = []; here = Does line p rest } ≡ s = cc in
    subst (IsReady rho) same (record { way = tt; here = r.0 })
ready_spot (Does line p rest) zero (step ∷ steps) rho s r e = absurd (let z : ⊥ = cc in z)
ready_spot (Does line p rest) (suc i) steps rho s r e = stepped rho (Behind p) (spot rest i steps) s e (plain_header rho p r.0) (λ t k. ready_spot rest i steps (ranges_after p rho) t r.1 k)

-- in a valid module what a path names is ready
pub valid_ready : (m : Module) → IsValid m → (steps : List (ℕ × Bool)) (s : Spot) → at_path (nest m.body) steps ≡ Some s → IsReady (start_ranges m.args) s
valid_ready m v [] s e = absurd (let z : ⊥ = cc in z)
valid_ready m v (step ∷ steps) s e =
    let p = valid_passes m v in
    no_step step.1 (spot (nest m.body) step.0 steps) s e (λ d. ready_spot (nest m.body) step.0 steps (start_ranges m.args) s (ready_of_told (nest m.body) p.0 p.1 (start_ranges m.args) (valid_bounded m v) p.2) d)
