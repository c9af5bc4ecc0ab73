-- Modules that are the same but for their lines are valid alike, and run alike.
use Rattle.std.proofs.Common.{◌≡◌, ℕ, ◌+◌, ℤ, Bool, List, [], ◌∷◌, ◌++◌, map, refl, sym, ap, ◌∙◌}
use Rattle.std.specs.Prelude.{◌&&◌, Option, Some, None, fold, flat_map, nat_eq, if◌then◌else◌}
use Rattle.affine_ast.specs.declared.image.Image.{Image}
use Rattle.affine_ast.specs.declared.module.Arg.{Arg}
use Rattle.affine_ast.specs.declared.module.Module.{Module}
use Rattle.affine_ast.specs.declared.name.Name.{Name}
use Rattle.affine_ast.specs.Nest.{Plain, Nest, Nothing, Loop, Branch, Does, Alloc, nest}
use Rattle.affine_ast.specs.Rules.{deallocs, own_deallocs, is_dealloc_of, is_released_once, spaces_agree, allocates_well, uses_in_scope, defines_new, uses_stand, types_agree, constant_in_range, counts_fit, maps_pure, maps_bounded, text_within}
use Rattle.affine_ast.specs.Scope.{Totals, Around, counted, in_loop, in_condition, with_totals, behind_plain}
use Rattle.affine_ast.specs.Validity.{Told, Broken, Passed, rule, elements_within, rule_of_plain, judged, then_told, told, told_arguments, behind_argument, told_module, outside, broken_of, first_broken, IsValid}
use Rattle.direct_meaning.specs.Turns.{turns}
use Rattle.direct_meaning.specs.Static.{Env, knows, lower_of, upper_of, holds_at}
use Rattle.direct_meaning.specs.Action.{Action}
use Rattle.direct_meaning.specs.Actions.{action_of, after_plain, fasts_of_plain, tags_of_plain, fasts_in, tags_in, behind, actions}
use Rattle.direct_meaning.specs.Memory.{Placed, place_arg, empty_env, start_env, module_actions}
use Rattle.direct_meaning.specs.Direct.{folded}
use Rattle.prompt_semantics.specs.Prompt.{prompt, prompt_step, first_device}
use Rattle.printed_texts.specs.Lines.{unlined, unlined_argument, AreSameButLines}

-- ---- deallocs

deallocs_unlined : (m : Name) (n : Nest) → deallocs m (unlined n) ≡ deallocs m n
unfolding deallocs
deallocs_unlined m Nothing = refl
deallocs_unlined m (Loop line v l u s body rest) = λ i. deallocs_unlined m body i + deallocs_unlined m rest i
deallocs_unlined m (Branch line set names first has other rest) = λ i. deallocs_unlined m first i + (deallocs_unlined m other i + deallocs_unlined m rest i)
deallocs_unlined m (Does line p rest) = ap (λ (n : ℕ). is_dealloc_of m p + n) (deallocs_unlined m rest)

own_unlined : (m : Name) (n : Nest) → own_deallocs m (unlined n) ≡ own_deallocs m n
unfolding own_deallocs
own_unlined m Nothing = refl
own_unlined m (Loop line v l u s body rest) = own_unlined m rest
own_unlined m (Branch line set names first has other rest) = own_unlined m rest
own_unlined m (Does line p rest) = ap (λ (n : ℕ). is_dealloc_of m p + n) (own_unlined m rest)

once_unlined : (m : Name) (n : Nest) → is_released_once m (unlined n) ≡ is_released_once m n
unfolding is_released_once
once_unlined m n = λ i. nat_eq (deallocs_unlined m n i) 1 && nat_eq (own_unlined m n i) 1

spaces_unlined : (a : Around) (p : Plain) (rest : Nest) → spaces_agree a p (unlined rest) ≡ spaces_agree a p rest
spaces_unlined a (Alloc r ty) rest = ap (λ (b : Bool). allocates_well ty && b) (once_unlined r rest)
spaces_unlined a p rest = refl

plain_unlined : (a : Around) (p : Plain) (rest : Nest) → rule_of_plain a p (unlined rest) ≡ rule_of_plain a p rest
unfolding rule_of_plain
plain_unlined a p rest = ap (λ (b : Bool).
    rule 1 (uses_in_scope a.scope p) (rule 2 (defines_new a.scope p) (rule 4 (uses_stand a.scope p) (rule 5 (types_agree a.scope p) (rule 6 (constant_in_range p) (rule 7 (counts_fit p)
    (rule 8 (maps_pure p) (rule 9 (maps_bounded a.scope p) (rule 10 b (rule 11 (elements_within a.totals p) (rule 12 (text_within a) None)))))))))))
    (spaces_unlined a p rest)

-- ---- what is told, but for lines

abbrev passed_totals : Told → Option Totals
passed_totals (Broken line number) = None
passed_totals (Passed t) = Some t

judged_alike : (a b : ℕ) (r q : Option ℕ) (x y : Told) → r ≡ q → passed_totals x ≡ passed_totals y → passed_totals (judged a r x) ≡ passed_totals (judged b q y)
judged_alike a b r q x y e h = by r ∙ ap (λ (r : Option ℕ). passed_totals (judged b r y)) e
  where
    by : (r : Option ℕ) → passed_totals (judged a r x) ≡ passed_totals (judged b r y)
    by None = h
    by (Some n) = refl

then_alike : (x y : Told) (f g : Totals → Told) → passed_totals x ≡ passed_totals y → ((t : Totals) → passed_totals (f t) ≡ passed_totals (g t)) → passed_totals (then_told x f) ≡ passed_totals (then_told y g)
then_alike (Passed t) (Passed u) f g e h = h t ∙ ap (λ t. passed_totals (g t)) (let k : t ≡ u = cc in k)
then_alike (Passed t) (Broken line number) f g e h = absurd (let z : ⊥ = cc in z)
then_alike (Broken line number) (Passed u) f g e h = absurd (let z : ⊥ = cc in z)
then_alike (Broken line number) (Broken other n) f g e h = refl

told_unlined : (n : Nest) (a : Around) → passed_totals (told (unlined n) a) ≡ passed_totals (told n a)
unfolding told
told_unlined Nothing a = refl
told_unlined (Loop line v l u s body rest) a =
    judged_alike 0 line _ _ _ _ refl
    (then_alike (told (unlined body) (in_loop v l u (counted a))) (told body (in_loop v l u (counted a))) _ _ (told_unlined body (in_loop v l u (counted a))) (λ t. told_unlined rest (with_totals t a)))
told_unlined (Branch line set names first has other rest) a =
    judged_alike 0 line _ _ _ _ refl
    (then_alike (told (unlined first) (in_condition (counted a))) (told first (in_condition (counted a))) _ _ (told_unlined first (in_condition (counted a)))
    (λ t. then_alike (told (unlined other) (in_condition (with_totals t a))) (told other (in_condition (with_totals t a))) _ _ (told_unlined other (in_condition (with_totals t a))) (λ u. told_unlined rest (with_totals u a))))
told_unlined (Does line p rest) a = judged_alike 0 line _ _ _ _ (plain_unlined (counted a) p rest) (told_unlined rest (behind_plain p (counted a)))

arguments_unlined : (args : List Arg) (body other : Around → Told) (a : Around) → ((b : Around) → passed_totals (body b) ≡ passed_totals (other b))
    → passed_totals (told_arguments (map unlined_argument args) body a) ≡ passed_totals (told_arguments args other a)
unfolding told_arguments
arguments_unlined [] body other a h = h a
arguments_unlined (arg ∷ args) body other a h = judged_alike 0 arg.line _ _ _ _ refl (arguments_unlined args body other (behind_argument arg.name arg.kind a) h)

broken_alike : (x y : Told) → passed_totals x ≡ passed_totals y → broken_of x ≡ None → broken_of y ≡ None
broken_alike (Passed t) (Passed u) e h = refl
broken_alike (Passed t) (Broken line number) e h = absurd (let z : ⊥ = cc in z)
broken_alike (Broken line number) y e h = absurd (let z : ⊥ = cc in z)

module_alike : (m n : Module) → AreSameButLines m n → passed_totals (told_module m) ≡ passed_totals (told_module n)
unfolding told_module
module_alike m n s =
    sym (arguments_unlined m.args (told (unlined (nest m.body))) (told (nest m.body)) outside (told_unlined (nest m.body)))
    ∙ (λ i. passed_totals (told_arguments (s.args i) (told (s.body i)) outside))
    ∙ arguments_unlined n.args (told (unlined (nest n.body))) (told (nest n.body)) outside (told_unlined (nest n.body))

pub valid_alike : (m n : Module) → AreSameButLines m n → IsValid m → IsValid n
unfolding first_broken
valid_alike m n s h = broken_alike (told_module m) (told_module n) (module_alike m n s) h

-- ---- runs

fasts_unlined : (n : Nest) → fasts_in (unlined n) ≡ fasts_in n
fasts_unlined Nothing = refl
fasts_unlined (Loop line v l u s body rest) = λ i. fasts_unlined body i + fasts_unlined rest i
fasts_unlined (Branch line set names first has other rest) = λ i. fasts_unlined first i + fasts_unlined other i + fasts_unlined rest i
fasts_unlined (Does line p rest) = λ i. fasts_of_plain p + fasts_unlined rest i

tags_unlined : (n : Nest) → tags_in (unlined n) ≡ tags_in n
tags_unlined Nothing = refl
tags_unlined (Loop line v l u s body rest) = λ i. tags_unlined body i + tags_unlined rest i
tags_unlined (Branch line set names first has other rest) = λ i. tags_unlined first i + tags_unlined other i + tags_unlined rest i
tags_unlined (Does line p rest) = λ i. tags_of_plain p + tags_unlined rest i

behind_unlined : (n : Nest) (e : Env) → behind (unlined n) e ≡ behind n e
behind_unlined n e = λ i. record e { fasts = e.fasts + fasts_unlined n i; tags = e.tags + tags_unlined n i }

actions_unlined : (n : Nest) (e : Env) → actions (unlined n) e ≡ actions n e
unfolding actions
actions_unlined Nothing e = refl
actions_unlined (Loop line v l u s body rest) e =
    (λ i. flat_map (λ t. actions_unlined body (knows e v t) i) (turns (lower_of e l) (upper_of e u) s) ++ actions (unlined rest) (behind_unlined body e i))
    ∙ ap (λ xs. flat_map (λ t. actions body (knows e v t)) (turns (lower_of e l) (upper_of e u) s) ++ xs) (actions_unlined rest (behind body e))
actions_unlined (Branch line set names first has other rest) e =
    (λ i. (if holds_at e set names then actions_unlined first e i else actions (unlined other) (behind_unlined first e i)) ++ actions (unlined rest) (behind (unlined other) (behind_unlined first e i)))
    ∙ (λ i. (if holds_at e set names then actions first e else actions_unlined other (behind first e) i) ++ actions (unlined rest) (behind_unlined other (behind first e) i))
    ∙ ap (λ xs. (if holds_at e set names then actions first e else actions other (behind first e)) ++ xs) (actions_unlined rest (behind other (behind first e)))
actions_unlined (Does line p rest) e = ap (λ xs. action_of p e ∷ xs) (actions_unlined rest (after_plain p e))

placed_unlined : (args : List Arg) (p : Placed) → fold place_arg p (map unlined_argument args) ≡ fold place_arg p args
placed_unlined [] p = refl
placed_unlined (a ∷ args) p = placed_unlined args (place_arg p a)

start_unlined : (args : List Arg) (symbols : List ℤ) → start_env (map unlined_argument args) symbols ≡ start_env args symbols
unfolding start_env
start_unlined args symbols = ap (λ p. p.env) (placed_unlined args (record { env = empty_env; memrefs = 0; elements = 0; symbols = symbols }))

actions_alike : (m n : Module) (symbols : List ℤ) → AreSameButLines m n → module_actions m symbols ≡ module_actions n symbols
unfolding module_actions
actions_alike m n symbols s =
    (λ i. actions (nest m.body) (sym (start_unlined m.args symbols) i))
    ∙ sym (actions_unlined (nest m.body) (start_env (map unlined_argument m.args) symbols))
    ∙ (λ i. actions (s.body i) (start_env (s.args i) symbols))
    ∙ actions_unlined (nest n.body) (start_env (map unlined_argument n.args) symbols)
    ∙ (λ i. actions (nest n.body) (start_unlined n.args symbols i))

pub prompt_alike : (m n : Module) → AreSameButLines m n → (memory : Image) (filler : ℤ) (capacity : ℕ) → prompt m memory filler capacity ≡ prompt n memory filler capacity
unfolding prompt
prompt_alike m n s memory filler capacity = ap (λ (xs : List Action). folded (prompt_step filler capacity) xs (first_device memory)) (actions_alike m n memory.symbols s)
