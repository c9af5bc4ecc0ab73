-- A text whose subscripts are numbered by first appearance.
use Rattle.std.proofs.Common.{◌≡◌, ℕ, ◌+◌, ◌∷◌, ◌++◌, flat_map, Option, Some, None, refl, ap, ◌∙◌}
use Rattle.std.specs.Prelude.{◌&&◌, max, nat_eq, if◌then◌else◌}
use Rattle.affine_ast.specs.declared.name.Name.{Name}
use Rattle.affine_ast.specs.Nest.{Plain, Nest, Nothing, Loop, Branch, Does, Value, Load, Store, RawLoad, RawStore, Constant, Binary, Cast, Alloc, Dealloc, Start, Wait, Return, nest}
use Rattle.affine_ast.specs.Rules.{spaces_agree, is_dealloc_of, deallocs, own_deallocs, is_released_once, allocates_well}
use Rattle.affine_ast.specs.Scope.{Totals, Around, with_totals, counted, in_loop, in_condition, behind_plain}
use Rattle.affine_ast.specs.Validity.{Told, Passed, judged, then_told, told, rule_of_plain, rule_of_loop, rule_of_condition, told_arguments, told_module, outside, broken_of, first_broken}
use Rattle.valid_laws.proofs.Passing.{judged_passed, then_passed, plain_holds, passed_of}
use Rattle.valid_laws.proofs.SafeStart.{behind_arguments}
use Rattle.direct_meaning.specs.Actions.{action_of, after_plain, behind, actions}
use Rattle.direct_meaning.specs.Memory.{start_env, module_actions}
use Rattle.direct_meaning.specs.Direct.{folded}
use Rattle.direct_meaning.specs.Static.{Env, knows, lower_of, upper_of, holds_at}
use Rattle.direct_meaning.specs.Turns.{turns}
use Rattle.prompt_semantics.specs.Prompt.{prompt, prompt_step, first_device}
use Rattle.box_run_laws.specs.Peaks.{plain_live, peak_of}
use Rattle.placement_texts.proofs.Nested.{fasts_mapped, tags_mapped}
use Rattle.placement_texts.proofs.StagedValid.{arguments_told}
use Rattle.normal_texts.specs.Texts.{normal_plain, normal_text}
use Rattle.normal_texts.specs.Law.{NormalIsTheSame}
use Rattle.normal_texts.proofs.Statements.{action_same, after_same, fasts_same, tags_same, around_same, rules_hold, normal_holds}

-- ---- deallocs
dealloc_same : (m : Name) (p : Plain) → is_dealloc_of m (normal_plain p) ≡ is_dealloc_of m p
dealloc_same m (Load r n at ty) = refl
dealloc_same m (Store x n at ty) = refl
dealloc_same m (Start x x_at y y_at t t_at n stride types) = refl
dealloc_same m (Wait t at n ty) = refl
dealloc_same m (Value r pick at) = refl
dealloc_same m (RawLoad r n at ty) = refl
dealloc_same m (RawStore x n at ty) = refl
dealloc_same m (Constant r z ty) = refl
dealloc_same m (Binary r op x y ty) = refl
dealloc_same m (Cast r kind x from to) = refl
dealloc_same m (Alloc r ty) = refl
dealloc_same m (Dealloc n ty) = refl
dealloc_same m Return = refl

deallocs_same : (m : Name) (n : Nest) → deallocs m (normal_text n) ≡ deallocs m n
unfolding deallocs
deallocs_same m Nothing = refl
deallocs_same m (Loop line v l u s body rest) = λ i. deallocs_same m body i + deallocs_same m rest i
deallocs_same m (Branch line set names first has other rest) = λ i. deallocs_same m first i + (deallocs_same m other i + deallocs_same m rest i)
deallocs_same m (Does line p rest) = λ i. dealloc_same m p i + deallocs_same m rest i

own_same : (m : Name) (n : Nest) → own_deallocs m (normal_text n) ≡ own_deallocs m n
unfolding own_deallocs
own_same m Nothing = refl
own_same m (Loop line v l u s body rest) = own_same m rest
own_same m (Branch line set names first has other rest) = own_same m rest
own_same m (Does line p rest) = λ i. dealloc_same m p i + own_same m rest i

released_same : (m : Name) (n : Nest) → is_released_once m (normal_text n) ≡ is_released_once m n
unfolding is_released_once
released_same m n = λ i. nat_eq (deallocs_same m n i) 1 && nat_eq (own_same m n i) 1

spaces_same : (a : Around) (rest : Nest) (p : Plain) → spaces_agree a p (normal_text rest) ≡ spaces_agree a p rest
spaces_same a rest (Alloc r ty) = ap (λ b. allocates_well ty && b) (released_same r rest)
spaces_same a rest (Value r pick at) = refl
spaces_same a rest (Load r m at ty) = refl
spaces_same a rest (Store x m at ty) = refl
spaces_same a rest (RawLoad r m at ty) = refl
spaces_same a rest (RawStore x m at ty) = refl
spaces_same a rest (Constant r z ty) = refl
spaces_same a rest (Binary r op x y ty) = refl
spaces_same a rest (Cast r kind x from to) = refl
spaces_same a rest (Dealloc m ty) = refl
spaces_same a rest (Start x x_at y y_at t t_at n stride types) = refl
spaces_same a rest (Wait t at n ty) = refl
spaces_same a rest Return = refl

-- ---- validity
judges : (line : ℕ) (x : Option ℕ) (more : Told) (t : Totals) → x ≡ None → more ≡ Passed t → judged line x more ≡ Passed t
judges line None more t h k = k
judges line (Some number) more t h k = absurd (let z : ⊥ = cc in z)

then_goes : (first : Told) (more : Totals → Told) (s t : Totals) → first ≡ Passed s → more s ≡ Passed t → then_told first more ≡ Passed t
then_goes first more s t h k = ap (λ x. then_told x more) h ∙ k

told_same : (n : Nest) (a : Around) (t : Totals) → told n a ≡ Passed t → told (normal_text n) a ≡ Passed t
unfolding told
told_same Nothing a t h = h
told_same (Loop line v l u s body rest) a t h =
    let j = judged_passed line (rule_of_loop (counted a) v l u s) _ t h in
    let k = then_passed (told body (in_loop v l u (counted a))) (λ t. told rest (with_totals t a)) t j.1 in
    judges line (rule_of_loop (counted a) v l u s) _ t j.0
    (then_goes (told (normal_text body) (in_loop v l u (counted a))) (λ t. told (normal_text rest) (with_totals t a)) k.0 t (told_same body (in_loop v l u (counted a)) k.0 k.1) (told_same rest (with_totals k.0 a) t k.2))
told_same (Branch line set names first has other rest) a t h =
    let j = judged_passed line (rule_of_condition (counted a) set names) _ t h in
    let k = then_passed (told first (in_condition (counted a))) (λ t. then_told (told other (in_condition (with_totals t a))) (λ u. told rest (with_totals u a))) t j.1 in
    let o = then_passed (told other (in_condition (with_totals k.0 a))) (λ u. told rest (with_totals u a)) t k.2 in
    judges line (rule_of_condition (counted a) set names) _ t j.0
    (then_goes (told (normal_text first) (in_condition (counted a))) (λ t. then_told (told (normal_text other) (in_condition (with_totals t a))) (λ u. told (normal_text rest) (with_totals u a))) k.0 t (told_same first (in_condition (counted a)) k.0 k.1)
    (then_goes (told (normal_text other) (in_condition (with_totals k.0 a))) (λ u. told (normal_text rest) (with_totals u a)) o.0 t (told_same other (in_condition (with_totals k.0 a)) o.0 o.1) (told_same rest (with_totals o.0 a) t o.2)))
told_same (Does line p rest) a t h =
    let j = judged_passed line (rule_of_plain (counted a) p rest) _ t h in
    let holds = normal_holds (counted a) rest (normal_text rest) (spaces_same (counted a) rest) p (plain_holds (counted a) p rest j.0) in
    judges line (rule_of_plain (counted a) (normal_plain p) (normal_text rest)) _ t (rules_hold (counted a) (normal_plain p) (normal_text rest) holds)
    (ap (told (normal_text rest)) (around_same p (counted a)) ∙ told_same rest (behind_plain p (counted a)) t j.1)

-- ---- actions
behind_same : (n : Nest) (e : Env) → behind (normal_text n) e ≡ behind n e
behind_same n e = λ i. record e { fasts = e.fasts + fasts_mapped normal_plain fasts_same tags_same n i; tags = e.tags + tags_mapped normal_plain fasts_same tags_same n i }

actions_same : (n : Nest) (a : Around) (t : Totals) (e : Env) → told n a ≡ Passed t → actions (normal_text n) e ≡ actions n e
unfolding actions told
actions_same Nothing a t e h = refl
actions_same (Loop line v l u s body rest) a t e h =
    let j = judged_passed line (rule_of_loop (counted a) v l u s) _ t h in
    let k = then_passed (told body (in_loop v l u (counted a))) (λ t. told rest (with_totals t a)) t j.1 in
    (λ i. flat_map (λ z. actions_same body (in_loop v l u (counted a)) k.0 (knows e v z) k.1 i) (turns (lower_of e l) (upper_of e u) s) ++ actions (normal_text rest) (behind_same body e i))
    ∙ ap (λ more. flat_map (λ z. actions body (knows e v z)) (turns (lower_of e l) (upper_of e u) s) ++ more) (actions_same rest (with_totals k.0 a) t (behind body e) k.2)
actions_same (Branch line set names first has other rest) a t e h =
    let j = judged_passed line (rule_of_condition (counted a) set names) _ t h in
    let k = then_passed (told first (in_condition (counted a))) (λ t. then_told (told other (in_condition (with_totals t a))) (λ u. told rest (with_totals u a))) t j.1 in
    let o = then_passed (told other (in_condition (with_totals k.0 a))) (λ u. told rest (with_totals u a)) t k.2 in
    (λ i. (if holds_at e set names then actions_same first (in_condition (counted a)) k.0 e k.1 i else actions (normal_text other) (behind_same first e i)) ++ actions (normal_text rest) (behind (normal_text other) (behind_same first e i)))
    ∙ (λ i. (if holds_at e set names then actions first e else actions_same other (in_condition (with_totals k.0 a)) o.0 (behind first e) o.1 i) ++ actions (normal_text rest) (behind_same other (behind first e) i))
    ∙ ap (λ more. (if holds_at e set names then actions first e else actions other (behind first e)) ++ more) (actions_same rest (with_totals o.0 a) t (behind other (behind first e)) o.2)
actions_same (Does line p rest) a t e h =
    let j = judged_passed line (rule_of_plain (counted a) p rest) _ t h in
    (λ i. action_same p e (plain_holds (counted a) p rest j.0).counts i ∷ actions (normal_text rest) (after_same p e i))
    ∙ ap (λ more. action_of p e ∷ more) (actions_same rest (behind_plain p (counted a)) t (after_plain p e) j.1)

-- ---- live bytes
live_same : (p : Plain) (l : ℕ) → plain_live (normal_plain p) l ≡ plain_live p l
live_same (Load r m at ty) l = refl
live_same (Store x m at ty) l = refl
live_same (Start x x_at y y_at t t_at n stride types) l = refl
live_same (Wait t at n ty) l = refl
live_same (Value r pick at) l = refl
live_same (RawLoad r m at ty) l = refl
live_same (RawStore x m at ty) l = refl
live_same (Constant r z ty) l = refl
live_same (Binary r op x y ty) l = refl
live_same (Cast r kind x from to) l = refl
live_same (Alloc r ty) l = refl
live_same (Dealloc m ty) l = refl
live_same Return l = refl

peak_same : (n : Nest) (l : ℕ) → peak_of (normal_text n) l ≡ peak_of n l
peak_same Nothing l = refl
peak_same (Loop line v low high s body rest) l = λ i. max (peak_same body l i) (peak_same rest l i)
peak_same (Branch line set names first has other rest) l = λ i. max (peak_same first l i) (max (peak_same other l i) (peak_same rest l i))
peak_same (Does line p rest) l = ap (λ x. max l (peak_of (normal_text rest) x)) (live_same p l) ∙ ap (max l) (peak_same rest (plain_live p l))

-- ---- modules
pub normal_is_the_same : NormalIsTheSame
unfolding first_broken told_module prompt module_actions
normal_is_the_same m q valid is =
    let p = passed_of (told_arguments m.args (told (nest m.body)) outside) valid in
    let n = normal_text (nest m.body) in
    let r = arguments_told m.args (nest m.body) n outside p.0 p.1 in
    record {
      valid = ap broken_of ((λ i. told_arguments (is.arguments i) (told (is.body i)) outside) ∙ r.1 ∙ told_same (nest m.body) (behind_arguments m.args outside) p.0 r.0);
      runs = λ memory filler capacity. ap (λ l. folded (prompt_step filler capacity) l (first_device memory))
          ((λ i. actions (is.body i) (start_env (is.arguments i) memory.symbols)) ∙ actions_same (nest m.body) (behind_arguments m.args outside) p.0 (start_env m.args memory.symbols) r.0);
      peak_is = ap (λ t. peak_of t 0) is.body ∙ peak_same (nest m.body) 0;
    }
