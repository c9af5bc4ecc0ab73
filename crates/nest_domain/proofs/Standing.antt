-- On the way to a statement of a valid module each operand may stand where it stands.
use Rattle.std.proofs.Common.{◌≡◌, ℕ, zero, suc, Bool, true, false, cond, List, [], ◌∷◌, Some, None, Option, subst, refl}
use Rattle.std.proofs.lemmas.Bool.{and_parts}
use Rattle.affine_ast.specs.Intervals.{ranges_at, picked_range, first_turn, last_end, turn_range}
use Rattle.affine_ast.specs.Names.{put}
use Rattle.affine_ast.specs.Nest.{Plain, Nest, Nothing, Loop, Branch, Does, Value, Load, Store, RawLoad, RawStore, Constant, Binary, Cast, Alloc, Dealloc, Start, Wait, Return}
use Rattle.affine_ast.specs.Parts.{Effect, NewIndex, NewConstant, NewData, NewMemref, Released, Unchanged, effect_of}
use Rattle.affine_ast.specs.Rules.{is_value, operands_stand, access_stands, bound_stands, uses_stand}
use Rattle.affine_ast.specs.Scope.{Variable, Data, Allocation, Scope, ranges_in, Totals, Around, counted, in_loop, in_condition, with_totals, binding_of_constant, behind_effect, behind_plain}
use Rattle.affine_ast.specs.Validity.{Passed, told, then_told, rule_of_plain, rule_of_loop, rule_of_condition}
use Rattle.valid_laws.proofs.Passing.{judged_passed, then_passed, plain_holds, loop_holds, condition_holds}
use Rattle.nest_domain.specs.Ways.{Header, Round, Given, Except, Behind, Past, Spot, under, spot}

-- ---- the names in scope behind one thing on the way
abbrev pub scope_effect : Effect → Scope → Scope
scope_effect (NewIndex r pick at) s = put s r (Some (Variable (picked_range pick (ranges_at (ranges_in s) at))))
scope_effect (NewConstant r z ty) s = put s r (Some (binding_of_constant z ty))
scope_effect (NewData r ty) s = put s r (Some (Data ty))
scope_effect (NewMemref r ty) s = put s r (Some (Allocation ty))
scope_effect (Released m) s = s
scope_effect Unchanged s = s

abbrev pub scope_along : Header → Scope → Scope
scope_along (Round v l u by) s = put s v (Some (Variable (turn_range (first_turn (ranges_in s) l) (last_end (ranges_in s) u))))
scope_along (Given set names) s = s
scope_along (Except set names first) s = s
scope_along (Behind p) s = scope_effect (effect_of p) s
scope_along (Past n) s = s

abbrev pub scope_at_end : List Header → Scope → Scope
scope_at_end [] s = s
scope_at_end (h ∷ hs) s = scope_at_end hs (scope_along h s)

-- ---- operands that may stand where they stand
abbrev pub PlainStands : Plain → Scope → Type 0
PlainStands (Value r pick at) s = access_stands s at ≡ true
PlainStands p s = Unit {0}

abbrev pub HeaderStands : Header → Scope → Type 0
HeaderStands (Round v l u by) s = (bound_stands s l ≡ true) × (bound_stands s u ≡ true)
HeaderStands (Given set names) s = operands_stand s set.dims names ≡ true
HeaderStands (Except set names first) s = Unit {0}
HeaderStands (Behind p) s = PlainStands p s
HeaderStands (Past n) s = Unit {0}

unfoldable pub WayStands : List Header → Scope → Type 0
WayStands [] s = Unit {0}
WayStands (h ∷ hs) s = HeaderStands h s × WayStands hs (scope_along h s)

abbrev pub AccessStands : Plain → Scope → Type 0
AccessStands (Load r m at ty) s = access_stands s at ≡ true
AccessStands (Store x m at ty) s = access_stands s at ≡ true
AccessStands p s = Unit {0}

abbrev pub HereStands : Nest → Scope → Type 0
HereStands (Does line p rest) s = AccessStands p s
HereStands n s = Unit {0}

pub record Stands (s : Scope) (x : Spot) : Type 0 where
  pub way : WayStands x.way s
  pub here : HereStands x.here (scope_at_end x.way s)

-- ---- what passes the rules stands
effect_scope : (x : Effect) (a : Around) → (behind_effect x a).scope ≡ scope_effect x a.scope
effect_scope (NewIndex r pick at) a = refl
effect_scope (NewConstant r z ty) a = refl
effect_scope (NewData r ty) a = refl
effect_scope (NewMemref r ty) a = refl
effect_scope (Released m) a = refl
effect_scope Unchanged a = refl

plain_stands : (p : Plain) (s : Scope) → uses_stand s p ≡ true → PlainStands p s
plain_stands (Value r pick at) s h = h
plain_stands (Load r m at ty) s h = tt
plain_stands (Store x m at ty) s h = tt
plain_stands (RawLoad r m at ty) s h = tt
plain_stands (RawStore x m at ty) s h = tt
plain_stands (Constant r z ty) s h = tt
plain_stands (Binary r op x y ty) s h = tt
plain_stands (Cast r kind x from to) s h = tt
plain_stands (Alloc r ty) s h = tt
plain_stands (Dealloc m ty) s h = tt
plain_stands (Start x xa y ya t ta n stride types) s h = tt
plain_stands (Wait t at n ty) s h = tt
plain_stands Return s h = tt

access_here : (p : Plain) (s : Scope) → uses_stand s p ≡ true → AccessStands p s
access_here (Load r m at ty) s h = h
access_here (Store x m at ty) s h = (and_parts (is_value s x) (access_stands s at) h).1
access_here (Value r pick at) s h = tt
access_here (RawLoad r m at ty) s h = tt
access_here (RawStore x m at ty) s h = tt
access_here (Constant r z ty) s h = tt
access_here (Binary r op x y ty) s h = tt
access_here (Cast r kind x from to) s h = tt
access_here (Alloc r ty) s h = tt
access_here (Dealloc m ty) s h = tt
access_here (Start x xa y ya t ta n stride types) s h = tt
access_here (Wait t at n ty) s h = tt
access_here Return s h = tt

stepped : (s : Scope) (h : Header) (o : Option Spot) (x : Spot) → under h o ≡ Some x → HeaderStands h s → ((y : Spot) → o ≡ Some y → Stands (scope_along h s) y) → Stands s x
unfolding WayStands
stepped s h None x e w f = absurd (let z : ⊥ = cc in z)
stepped s h (Some y) x e w f =
    let k = f y refl in
    let same : record { way = h ∷ y.way; here = y.here } ≡ x = cc in
    subst (Stands s) same (record { way = (w, k.way); here = k.here })

pub no_step : {A : Type 0} (b : Bool) (o : Option Spot) (s : Spot) → (cond b None o) ≡ Some s → (o ≡ Some s → A) → A
no_step true o s e f = absurd (let z : ⊥ = cc in z)
no_step false o s e f = f e

either : {A : Type 0} (b : Bool) (o p : Option Spot) (s : Spot) → cond b o p ≡ Some s → (o ≡ Some s → A) → (p ≡ Some s → A) → A
either true o p s e f g = f e
either false o p s e f g = g e

pub stands_at : (n : Nest) (i : ℕ) (steps : List (ℕ × Bool)) (a : Around) (t : Totals) (x : Spot) → told n a ≡ Passed t → spot n i steps ≡ Some x → Stands a.scope x
unfolding told spot WayStands
stands_at Nothing i steps a t x h e = absurd (let z : ⊥ = cc in z)
stands_at (Loop line v l u by body rest) zero [] a t x h e =
    let same : record { way = []; here = Loop line v l u by body rest } ≡ x = cc in
    subst (Stands a.scope) same (record { way = tt; here = tt })
stands_at (Loop line v l u by body rest) zero (step ∷ steps) a t x h e =
    let j = judged_passed line (rule_of_loop (counted a) v l u by) _ t h in
    let p = then_passed (told body (in_loop v l u (counted a))) (λ t. told rest (with_totals t a)) t j.1 in
    let k = loop_holds (counted a) v l u by j.0 in
    let g = and_parts (bound_stands a.scope l) (bound_stands a.scope u) k.stand in
    no_step step.1 (under (Round v l u by) (spot body step.0 steps)) x e (λ d. stepped a.scope (Round v l u by) (spot body step.0 steps) x d g (λ y k. stands_at body step.0 steps (in_loop v l u (counted a)) p.0 y p.1 k))
stands_at (Loop line v l u by body rest) (suc i) steps a t x h e =
    let j = judged_passed line (rule_of_loop (counted a) v l u by) _ t h in
    let p = then_passed (told body (in_loop v l u (counted a))) (λ t. told rest (with_totals t a)) t j.1 in
    stepped a.scope (Past body) (spot rest i steps) x e tt (λ y k. stands_at rest i steps (with_totals p.0 a) t y p.2 k)
stands_at (Branch line set names first has other rest) zero [] a t x h e =
    let same : record { way = []; here = Branch line set names first has other rest } ≡ x = cc in
    subst (Stands a.scope) same (record { way = tt; here = tt })
stands_at (Branch line set names first has other rest) zero (step ∷ steps) a t x h e =
    let j = judged_passed line (rule_of_condition (counted a) set names) _ t h in
    let p = then_passed (told first (in_condition (counted a))) (λ t. then_told (told other (in_condition (with_totals t a))) (λ u. told rest (with_totals u a))) t j.1 in
    let q = then_passed (told other (in_condition (with_totals p.0 a))) (λ u. told rest (with_totals u a)) t p.2 in
    either step.1 (under (Except set names first) (spot other step.0 steps)) (under (Given set names) (spot first step.0 steps)) x e
    (λ d. stepped a.scope (Except set names first) (spot other step.0 steps) x d tt (λ y k. stands_at other step.0 steps (in_condition (with_totals p.0 a)) q.0 y q.1 k))
    (λ d. stepped a.scope (Given set names) (spot first step.0 steps) x d (condition_holds (counted a) set names j.0).stand (λ y k. stands_at first step.0 steps (in_condition (counted a)) p.0 y p.1 k))
stands_at (Branch line set names first has other rest) (suc i) steps a t x h e =
    let j = judged_passed line (rule_of_condition (counted a) set names) _ t h in
    let p = then_passed (told first (in_condition (counted a))) (λ t. then_told (told other (in_condition (with_totals t a))) (λ u. told rest (with_totals u a))) t j.1 in
    let q = then_passed (told other (in_condition (with_totals p.0 a))) (λ u. told rest (with_totals u a)) t p.2 in
    stepped a.scope (Past first) (under (Past other) (spot rest i steps)) x e tt (λ y k. stepped a.scope (Past other) (spot rest i steps) y k tt (λ z m. stands_at rest i steps (with_totals q.0 a) t z q.2 m))
stands_at (Does line p rest) zero [] a t x h e =
    let j = judged_passed line (rule_of_plain (counted a) p rest) _ t h in
    let same : record { way = []; here = Does line p rest } ≡ x = cc in
    subst (Stands a.scope) same (record { way = tt; here = access_here p a.scope (plain_holds (counted a) p rest j.0).stand })
stands_at (Does line p rest) zero (step ∷ steps) a t x h e = absurd (let z : ⊥ = cc in z)
stands_at (Does line p rest) (suc i) steps a t x h e =
    let j = judged_passed line (rule_of_plain (counted a) p rest) _ t h in
    let s = effect_scope (effect_of p) (counted a) in
    stepped a.scope (Behind p) (spot rest i steps) x e (plain_stands p a.scope (plain_holds (counted a) p rest j.0).stand) (λ y k. subst (λ c. Stands c y) s (stands_at rest i steps (behind_plain p (counted a)) t y j.1 k))
