-- Lines have no part in what a text means and in whether it is valid.
use Rattle.std.proofs.Common.{◌≡◌, ℕ, zero, suc, ◌+◌, ◌∷◌, ◌++◌, flat_map, Bool, true, false, refl, ap, ◌∙◌}
use Rattle.std.specs.Prelude.{◌&&◌, Option, Some, None, nat_eq, nat_le, if◌then◌else◌}
use Rattle.affine_ast.specs.declared.name.Name.{Name}
use Rattle.affine_ast.specs.Nest.{Plain, Nest, Nothing, Loop, Branch, Does, Value, Load, Store, RawLoad, RawStore, Constant, Binary, Cast, Alloc, Dealloc, Start, Wait, Return}
use Rattle.affine_ast.specs.PlainLimits.{bound_short, set_short, plain_stands, PlainTold, FaultAt, Counted, then_plain, plain_told}
use Rattle.affine_ast.specs.Rules.{uses_in_scope, defines_new, uses_stand, types_agree, constant_in_range, counts_fit, maps_pure, maps_bounded, spaces_agree, text_within, is_dealloc_of, deallocs, own_deallocs, is_released_once, allocates_well}
use Rattle.affine_ast.specs.Scope.{Totals, Around, with_totals, counted, in_loop, in_condition, behind_plain}
use Rattle.affine_ast.specs.Validity.{Told, Passed, judged, then_told, rule, elements_within, told, rule_of_plain, rule_of_loop, rule_of_condition}
use Rattle.valid_laws.proofs.Passing.{judged_passed, then_passed}
use Rattle.direct_meaning.specs.Actions.{action_of, after_plain, fasts_of_plain, tags_of_plain, fasts_in, tags_in, behind, actions}
use Rattle.direct_meaning.specs.Static.{Env, knows, lower_of, upper_of, holds_at}
use Rattle.direct_meaning.specs.Turns.{turns}
use Rattle.plan_laws.specs.Sites.{line_or_one, lined}

line_twice : (line : ℕ) → line_or_one (line_or_one line) ≡ line_or_one line
line_twice zero = refl
line_twice (suc line) = refl

pub lined_twice : (n : Nest) → lined (lined n) ≡ lined n
lined_twice Nothing = refl
lined_twice (Loop line v l u s body rest) = λ i. Loop (line_twice line i) v l u s (lined_twice body i) (lined_twice rest i)
lined_twice (Branch line set names first has other rest) = λ i. Branch (line_twice line i) set names (lined_twice first i) has (lined_twice other i) (lined_twice rest i)
lined_twice (Does line p rest) = λ i. Does (line_twice line i) p (lined_twice rest i)

-- ---- actions
fasts_lined : (n : Nest) → fasts_in (lined n) ≡ fasts_in n
fasts_lined Nothing = refl
fasts_lined (Loop line v l u s body rest) = λ i. fasts_lined body i + fasts_lined rest i
fasts_lined (Branch line set names first has other rest) = λ i. fasts_lined first i + fasts_lined other i + fasts_lined rest i
fasts_lined (Does line p rest) = ap (λ k. fasts_of_plain p + k) (fasts_lined rest)

tags_lined : (n : Nest) → tags_in (lined n) ≡ tags_in n
tags_lined Nothing = refl
tags_lined (Loop line v l u s body rest) = λ i. tags_lined body i + tags_lined rest i
tags_lined (Branch line set names first has other rest) = λ i. tags_lined first i + tags_lined other i + tags_lined rest i
tags_lined (Does line p rest) = ap (λ k. tags_of_plain p + k) (tags_lined rest)

behind_lined : (n : Nest) (e : Env) → behind (lined n) e ≡ behind n e
behind_lined n e = λ i. record e { fasts = e.fasts + fasts_lined n i; tags = e.tags + tags_lined n i }

pub actions_lined : (n : Nest) (e : Env) → actions (lined n) e ≡ actions n e
unfolding actions
actions_lined Nothing e = refl
actions_lined (Loop line v l u s body rest) e =
    (λ i. flat_map (λ t. actions_lined body (knows e v t) i) (turns (lower_of e l) (upper_of e u) s) ++ actions (lined rest) (behind_lined body e i))
    ∙ ap (λ more. flat_map (λ t. actions body (knows e v t)) (turns (lower_of e l) (upper_of e u) s) ++ more) (actions_lined rest (behind body e))
actions_lined (Branch line set names first has other rest) e =
    (λ i. (if holds_at e set names then actions_lined first e i else actions (lined other) (behind_lined first e i)) ++ actions (lined rest) (behind (lined other) (behind_lined first e i)))
    ∙ (λ i. (if holds_at e set names then actions first e else actions_lined other (behind first e) i) ++ actions (lined rest) (behind_lined other (behind first e) i))
    ∙ ap (λ more. (if holds_at e set names then actions first e else actions other (behind first e)) ++ more) (actions_lined rest (behind other (behind first e)))
actions_lined (Does line p rest) e = ap (λ more. action_of p e ∷ more) (actions_lined rest (after_plain p e))

-- ---- validity
deallocs_lined : (m : Name) (n : Nest) → deallocs m (lined n) ≡ deallocs m n
unfolding deallocs
deallocs_lined m Nothing = refl
deallocs_lined m (Loop line v l u s body rest) = λ i. deallocs_lined m body i + deallocs_lined m rest i
deallocs_lined m (Branch line set names first has other rest) = λ i. deallocs_lined m first i + (deallocs_lined m other i + deallocs_lined m rest i)
deallocs_lined m (Does line p rest) = ap (λ k. is_dealloc_of m p + k) (deallocs_lined m rest)

own_lined : (m : Name) (n : Nest) → own_deallocs m (lined n) ≡ own_deallocs m n
unfolding own_deallocs
own_lined m Nothing = refl
own_lined m (Loop line v l u s body rest) = own_lined m rest
own_lined m (Branch line set names first has other rest) = own_lined m rest
own_lined m (Does line p rest) = ap (λ k. is_dealloc_of m p + k) (own_lined m rest)

released_lined : (m : Name) (n : Nest) → is_released_once m (lined n) ≡ is_released_once m n
unfolding is_released_once
released_lined m n = λ i. nat_eq (deallocs_lined m n i) 1 && nat_eq (own_lined m n i) 1

spaces_lined : (a : Around) (p : Plain) (rest : Nest) → spaces_agree a p (lined rest) ≡ spaces_agree a p rest
spaces_lined a (Alloc r ty) rest = ap (λ b. allocates_well ty && b) (released_lined r rest)
spaces_lined a (Value r pick at) rest = refl
spaces_lined a (Load r m at ty) rest = refl
spaces_lined a (Store x m at ty) rest = refl
spaces_lined a (RawLoad r m at ty) rest = refl
spaces_lined a (RawStore x m at ty) rest = refl
spaces_lined a (Constant r z ty) rest = refl
spaces_lined a (Binary r op x y ty) rest = refl
spaces_lined a (Cast r kind x from to) rest = refl
spaces_lined a (Dealloc m ty) rest = refl
spaces_lined a (Start x x_at y y_at t t_at n stride types) rest = refl
spaces_lined a (Wait t at n ty) rest = refl
spaces_lined a Return rest = refl

-- the rules of a plain statement, with that on spaces told
rules_with : Around → Plain → Bool → Option ℕ
rules_with a p b =
    rule 1 (uses_in_scope a.scope p) (
    rule 2 (defines_new a.scope p) (
    rule 4 (uses_stand a.scope p) (
    rule 5 (types_agree a.scope p) (
    rule 6 (constant_in_range p) (
    rule 7 (counts_fit p) (
    rule 8 (maps_pure p) (
    rule 9 (maps_bounded a.scope p) (
    rule 10 b (
    rule 11 (elements_within a.totals p) (
    rule 12 (text_within a) None))))))))))

rule_lined : (a : Around) (p : Plain) (rest : Nest) → rule_of_plain a p (lined rest) ≡ rule_of_plain a p rest
unfolding rule_of_plain rules_with
rule_lined a p rest = ap (rules_with a p) (spaces_lined a p rest)

judges : (line : ℕ) (x : Option ℕ) (more : Told) (t : Totals) → x ≡ None → more ≡ Passed t → judged line x more ≡ Passed t
judges line None more t h k = k
judges line (Some number) more t h k = absurd (let z : ⊥ = cc in z)

then_goes : (first : Told) (more : Totals → Told) (s t : Totals) → first ≡ Passed s → more s ≡ Passed t → then_told first more ≡ Passed t
then_goes first more s t h k = ap (λ x. then_told x more) h ∙ k

pub told_lined : (n : Nest) (a : Around) (t : Totals) → told n a ≡ Passed t → told (lined n) a ≡ Passed t
unfolding told
told_lined Nothing a t h = h
told_lined (Loop line v l u s body rest) a t h =
    let j = judged_passed line (rule_of_loop (counted a) v l u s) _ t h in
    let k = then_passed (told body (in_loop v l u (counted a))) (λ t. told rest (with_totals t a)) t j.1 in
    judges (line_or_one line) (rule_of_loop (counted a) v l u s) _ t j.0
    (then_goes (told (lined body) (in_loop v l u (counted a))) (λ t. told (lined rest) (with_totals t a)) k.0 t (told_lined body (in_loop v l u (counted a)) k.0 k.1) (told_lined rest (with_totals k.0 a) t k.2))
told_lined (Branch line set names first has other rest) a t h =
    let j = judged_passed line (rule_of_condition (counted a) set names) _ t h in
    let k = then_passed (told first (in_condition (counted a))) (λ t. then_told (told other (in_condition (with_totals t a))) (λ u. told rest (with_totals u a))) t j.1 in
    let o = then_passed (told other (in_condition (with_totals k.0 a))) (λ u. told rest (with_totals u a)) t k.2 in
    judges (line_or_one line) (rule_of_condition (counted a) set names) _ t j.0
    (then_goes (told (lined first) (in_condition (counted a))) (λ t. then_told (told (lined other) (in_condition (with_totals t a))) (λ u. told (lined rest) (with_totals u a))) k.0 t (told_lined first (in_condition (counted a)) k.0 k.1)
    (then_goes (told (lined other) (in_condition (with_totals k.0 a))) (λ u. told (lined rest) (with_totals u a)) o.0 t (told_lined other (in_condition (with_totals k.0 a)) o.0 o.1) (told_lined rest (with_totals o.0 a) t o.2)))
told_lined (Does line p rest) a t h =
    let j = judged_passed line (rule_of_plain (counted a) p rest) _ t h in
    judges (line_or_one line) (rule_of_plain (counted a) p (lined rest)) _ t (rule_lined (counted a) p rest ∙ j.0) (told_lined rest (behind_plain p (counted a)) t j.1)

-- ---- what may be staged
counts_one : (line line' k : ℕ) (b : Bool) (more more' : PlainTold) → (more ≡ Counted k → more' ≡ Counted k) → (if b then more else FaultAt line) ≡ Counted k → (if b then more' else FaultAt line') ≡ Counted k
counts_one line line' k true more more' f h = f h
counts_one line line' k false more more' f h = absurd (let z : ⊥ = cc in z)

counts_then : (first first' : PlainTold) (more more' : ℕ → PlainTold) (k : ℕ) → ((j : ℕ) → first ≡ Counted j → first' ≡ Counted j) → ((j : ℕ) → more j ≡ Counted k → more' j ≡ Counted k) → then_plain first more ≡ Counted k → then_plain first' more' ≡ Counted k
counts_then (FaultAt line) first' more more' k f g h = absurd (let z : ⊥ = cc in z)
counts_then (Counted j) first' more more' k f g h = ap (λ x. then_plain x more') (f j refl) ∙ g j h

pub counts_lined : (n : Nest) (loops count k : ℕ) → plain_told n loops count ≡ Counted k → plain_told (lined n) loops count ≡ Counted k
unfolding plain_told
counts_lined Nothing loops count k h = h
counts_lined (Loop line v l u s body rest) loops count k h =
    counts_one line (line_or_one line) k ((bound_short l && bound_short u) && (nat_le (suc count) 4096 && nat_le loops 8))
    (then_plain (plain_told body (suc loops) (suc count)) (plain_told rest loops)) (then_plain (plain_told (lined body) (suc loops) (suc count)) (plain_told (lined rest) loops))
    (counts_then (plain_told body (suc loops) (suc count)) (plain_told (lined body) (suc loops) (suc count)) (plain_told rest loops) (plain_told (lined rest) loops) k (λ j e. counts_lined body (suc loops) (suc count) j e) (λ j e. counts_lined rest loops j k e)) h
counts_lined (Branch line set names first has other rest) loops count k h =
    counts_one line (line_or_one line) k (set_short set && (nat_le (suc count) 4096 && nat_le loops 8))
    (then_plain (plain_told first loops (suc count)) (λ n. then_plain (plain_told other loops n) (plain_told rest loops))) (then_plain (plain_told (lined first) loops (suc count)) (λ n. then_plain (plain_told (lined other) loops n) (plain_told (lined rest) loops)))
    (counts_then (plain_told first loops (suc count)) (plain_told (lined first) loops (suc count)) (λ n. then_plain (plain_told other loops n) (plain_told rest loops)) (λ n. then_plain (plain_told (lined other) loops n) (plain_told (lined rest) loops)) k
    (λ j e. counts_lined first loops (suc count) j e)
    (λ j e. counts_then (plain_told other loops j) (plain_told (lined other) loops j) (plain_told rest loops) (plain_told (lined rest) loops) k (λ i e. counts_lined other loops j i e) (λ i e. counts_lined rest loops i k e) e)) h
counts_lined (Does line p rest) loops count k h =
    counts_one line (line_or_one line) k (plain_stands p && (nat_le (suc count) 4096 && nat_le loops 8)) (plain_told rest loops (suc count)) (plain_told (lined rest) loops (suc count)) (λ e. counts_lined rest loops (suc count) k e) h
