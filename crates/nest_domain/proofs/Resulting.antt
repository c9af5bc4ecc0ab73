-- In a valid module each bound of a loop has a result.
use Rattle.std.proofs.Common.{◌≡◌, ℕ, zero, suc, ◌<◌, Bool, true, List, [], ◌∷◌, length, Some, None, Option, subst, refl, arith}
use Rattle.std.specs.Prelude.{not, nat_eq}
use Rattle.std.proofs.lemmas.Bool.{and_parts}
use Rattle.affine_ast.specs.declared.types.Bound.{Bound}
use Rattle.affine_ast.specs.declared.types.Bound.TheVariants as bound
use Rattle.affine_ast.specs.Nest.{Nest, Nothing, Loop, Branch, Does, nest}
use Rattle.affine_ast.specs.Rules.{map_fits, has_result, bound_fits}
use Rattle.affine_ast.specs.Scope.{Totals, Around, counted, in_loop, in_condition, with_totals, behind_plain}
use Rattle.affine_ast.specs.Validity.{Passed, then_told, told, rule_of_plain, rule_of_loop, rule_of_condition}
use Rattle.valid_laws.proofs.Passing.{judged_passed, then_passed, loop_holds, valid_passes}
use Rattle.nest_domain.specs.Ways.{Header, Round, Given, Except, Behind, Past, Spot, under, spot}
use Rattle.nest_domain.specs.Laws.{HasResult, HasBounds, WaysHaveBounds}
use Rattle.nest_domain.proofs.Readiness.{no_step, either}

-- the bounds of all loops of a list of statements
abbrev AllBounds : Nest → Type 0
AllBounds Nothing = Unit {0}
AllBounds (Loop line v l u s body rest) = HasResult l × HasResult u × AllBounds body × AllBounds rest
AllBounds (Branch line set names first has other rest) = AllBounds first × AllBounds other × AllBounds rest
AllBounds (Does line p rest) = AllBounds rest

some_result : (n : ℕ) → not (nat_eq n 0) ≡ true → 0 < n
some_result zero h = absurd (let z : ⊥ = cc in z)
some_result (suc n) h = omega arith

bound_results : (b : Bound) → bound_fits b ≡ true → HasResult b
bound_results (bound.Int z) h = tt
bound_results (bound.Value n) h = tt
bound_results (bound.Map at) h = some_result (length at.map.results) (and_parts (map_fits at) (has_result at) h).1

bounds_of_told : (n : Nest) (a : Around) (t : Totals) → told n a ≡ Passed t → AllBounds n
unfolding told
bounds_of_told Nothing a t h = tt
bounds_of_told (Loop line v l u s body rest) a t h =
    let j = judged_passed line (rule_of_loop (counted a) v l u s) _ t h in
    let p = then_passed (told body (in_loop v l u (counted a))) (λ t. told rest (with_totals t a)) t j.1 in
    let k = loop_holds (counted a) v l u s j.0 in
    let f = and_parts (bound_fits l) (bound_fits u) k.fits in
    (bound_results l f.0, bound_results u f.1, bounds_of_told body (in_loop v l u (counted a)) p.0 p.1, bounds_of_told rest (with_totals p.0 a) t p.2)
bounds_of_told (Branch line set names first has other rest) a t h =
    let j = judged_passed line (rule_of_condition (counted a) set names) _ t h in
    let p = then_passed (told first (in_condition (counted a))) (λ t. then_told (told other (in_condition (with_totals t a))) (λ u. told rest (with_totals u a))) t j.1 in
    let q = then_passed (told other (in_condition (with_totals p.0 a))) (λ u. told rest (with_totals u a)) t p.2 in
    (bounds_of_told first (in_condition (counted a)) p.0 p.1, bounds_of_told other (in_condition (with_totals p.0 a)) q.0 q.1, bounds_of_told rest (with_totals q.0 a) t q.2)
bounds_of_told (Does line p rest) a t h =
    let j = judged_passed line (rule_of_plain (counted a) p rest) _ t h in
    bounds_of_told rest (behind_plain p (counted a)) t j.1

-- one thing more in front of the way
stepped : (h : Header) (o : Option Spot) (s : Spot) → under h o ≡ Some s → ((hs : List Header) → HasBounds hs → HasBounds (h ∷ hs)) → ((t : Spot) → o ≡ Some t → HasBounds t.way) → HasBounds s.way
stepped h None s e f g = absurd (let z : ⊥ = cc in z)
stepped h (Some t) s e f g =
    let same : record { way = h ∷ t.way; here = t.here } ≡ s = cc in
    subst (λ s. HasBounds s.way) same (f t.way (g t refl))

bounds_spot : (n : Nest) (i : ℕ) (steps : List (ℕ × Bool)) (s : Spot) → AllBounds n → spot n i steps ≡ Some s → HasBounds s.way
unfolding spot
bounds_spot Nothing i steps s a e = absurd (let z : ⊥ = cc in z)
bounds_spot (Loop line v l u st body rest) zero [] s a e =
    let same : record { way = []; here = Loop line v l u st body rest } ≡ s = cc in
    subst (λ (s : Spot). HasBounds s.way) same tt
bounds_spot (Loop line v l u st body rest) zero (step ∷ steps) s a e =
    no_step step.1 (under (Round v l u st) (spot body step.0 steps)) s e (λ d. stepped (Round v l u st) (spot body step.0 steps) s d (λ hs b. (a.0, a.1, b)) (λ t k. bounds_spot body step.0 steps t a.2 k))
bounds_spot (Loop line v l u st body rest) (suc i) steps s a e = stepped (Past body) (spot rest i steps) s e (λ hs b. b) (λ t k. bounds_spot rest i steps t a.3 k)
bounds_spot (Branch line set names first has other rest) zero [] s a e =
    let same : record { way = []; here = Branch line set names first has other rest } ≡ s = cc in
    subst (λ (s : Spot). HasBounds s.way) same tt
bounds_spot (Branch line set names first has other rest) zero (step ∷ steps) s a e =
    either step.1 (under (Except set names first) (spot other step.0 steps)) (under (Given set names) (spot first step.0 steps)) s e
    (λ d. stepped (Except set names first) (spot other step.0 steps) s d (λ hs b. b) (λ t k. bounds_spot other step.0 steps t a.1 k))
    (λ d. stepped (Given set names) (spot first step.0 steps) s d (λ hs b. b) (λ t k. bounds_spot first step.0 steps t a.0 k))
bounds_spot (Branch line set names first has other rest) (suc i) steps s a e =
    stepped (Past first) (under (Past other) (spot rest i steps)) s e (λ hs b. b) (λ t k. stepped (Past other) (spot rest i steps) t k (λ hs b. b) (λ w m. bounds_spot rest i steps w a.2 m))
bounds_spot (Does line p rest) zero [] s a e =
    let same : record { way = []; here = Does line p rest } ≡ s = cc in
    subst (λ (s : Spot). HasBounds s.way) same tt
bounds_spot (Does line p rest) zero (step ∷ steps) s a e = absurd (let z : ⊥ = cc in z)
bounds_spot (Does line p rest) (suc i) steps s a e = stepped (Behind p) (spot rest i steps) s e (λ hs b. b) (λ t k. bounds_spot rest i steps t a k)

-- in a valid module the loops round what a path names have bounds with results
pub ways_have_bounds : WaysHaveBounds
ways_have_bounds m v [] s e = absurd (let z : ⊥ = cc in z)
ways_have_bounds m v (step ∷ steps) s e =
    let p = valid_passes m v in
    no_step step.1 (spot (nest m.body) step.0 steps) s e (λ d. bounds_spot (nest m.body) step.0 steps s (bounds_of_told (nest m.body) p.0 p.1 p.2) d)
