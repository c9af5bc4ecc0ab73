-- A text that keeps to the limits of a plan breaks neither V11 nor V12, and one that keeps to the rule on intervals doesn't break V9.
use Rattle.std.proofs.Common.{◌≡◌, ℕ, ℤ, List, [], ◌∷◌, Bool, true, false, refl, sym, ap, ◌∙◌, subst}
use Rattle.std.specs.Prelude.{◌||◌, ◌&&◌, Option, Some, None, nat_eq, nat_le}
use Rattle.std.specs.List.{list_all}
use Rattle.std.proofs.lemmas.Bool.{and_parts}
use Rattle.affine_expr.specs.declared.map.Set.{Set}
use Rattle.affine_ast.specs.declared.module.Arg.{Arg}
use Rattle.affine_ast.specs.declared.name.Name.{Name}
use Rattle.affine_ast.specs.declared.types.Bound.{Bound}
use Rattle.affine_ast.specs.Nest.{Plain, Nest, Nothing, Loop, Branch, Does}
use Rattle.affine_ast.specs.Parts.{maps_of}
use Rattle.affine_ast.specs.Rules.{uses_in_scope, defines_new, uses_stand, types_agree, constant_in_range, counts_fit, maps_pure, maps_bounded, spaces_agree, text_within, bound_in, is_new, bound_stands, bound_fits as bound_counts_fit, bound_pure, step_positive, bound_bounded, are_in, operands_stand, set_fits, set_pure, set_bounded}
use Rattle.affine_ast.specs.Scope.{Totals, Around, with_totals, counted, in_loop, in_condition, behind_plain}
use Rattle.affine_ast.specs.Validity.{Told, Broken, Passed, judged, then_told, rule, elements_within, told, rule_of_plain, rule_of_loop, rule_of_condition, behind_argument, outside}
use Rattle.valid_laws.proofs.SafeStart as safe
use Rattle.placement_texts.specs.Tests.{behind_scope, loop_scope}
use Rattle.placement_texts.proofs.ScopedTexts.{scope_behind}
use Rattle.placement_texts.proofs.StagedValid.{scope_is}
use Rattle.plan_laws.specs.Limits.{bound_fits, rows_fit, access_fits, operands_in, while_kept, and_then, kept, is_there, behind_arguments, keeps_limits, bounded_in, keeps_intervals}

-- a rule of sizes or of the text
abbrev pub is_limit : ℕ → Bool
is_limit n = nat_eq n 11 || nat_eq n 12

-- the first broken rule is none of these; where none is broken the totals are these
abbrev pub Met : Told → Totals → Type 0
Met (Passed s) t = s ≡ t
Met (Broken line n) t = is_limit n ≡ false

-- the lowest broken rule, where it is this one, passes no test
module _ (test : ℕ → Bool) where
  abbrev Misses : Option ℕ → Type 0
  Misses x = (k : ℕ) → x ≡ Some k → test k ≡ false

  other_rule : (n : ℕ) (b : Bool) (more : Option ℕ) (k : ℕ) → rule n b more ≡ Some k → test n ≡ false → (more ≡ Some k → test k ≡ false) → test k ≡ false
  other_rule n true more k e h f = f e
  other_rule n false more k e h f = let same : n ≡ k = cc in ap test (sym same) ∙ h

  held_rule : (n : ℕ) (b : Bool) (more : Option ℕ) (k : ℕ) → rule n b more ≡ Some k → b ≡ true → (more ≡ Some k → test k ≡ false) → test k ≡ false
  held_rule n true more k e h f = f e
  held_rule n false more k e h f = absurd (let z : ⊥ = cc in z)

  no_rule : (k : ℕ) → None ≡ Some k → test k ≡ false
  no_rule k e = absurd (let z : ⊥ = cc in z)

plain_met : (a : Around) (p : Plain) (rest : Nest) → elements_within a.totals p ≡ true → text_within a ≡ true → Misses is_limit (rule_of_plain a p rest)
unfolding rule_of_plain
plain_met a p rest e t k h =
    let f = is_limit in
    let r12 : Option ℕ = rule 12 (text_within a) None in
    let r11 : Option ℕ = rule 11 (elements_within a.totals p) r12 in
    let r10 : Option ℕ = rule 10 (spaces_agree a p rest) r11 in
    let r9 : Option ℕ = rule 9 (maps_bounded a.scope p) r10 in
    let r8 : Option ℕ = rule 8 (maps_pure p) r9 in
    let r7 : Option ℕ = rule 7 (counts_fit p) r8 in
    let r6 : Option ℕ = rule 6 (constant_in_range p) r7 in
    let r5 : Option ℕ = rule 5 (types_agree a.scope p) r6 in
    let r4 : Option ℕ = rule 4 (uses_stand a.scope p) r5 in
    let r2 : Option ℕ = rule 2 (defines_new a.scope p) r4 in
    other_rule f 1 (uses_in_scope a.scope p) r2 k h refl (λ h. other_rule f 2 (defines_new a.scope p) r4 k h refl (λ h. other_rule f 4 (uses_stand a.scope p) r5 k h refl (λ h. other_rule f 5 (types_agree a.scope p) r6 k h refl (λ h. other_rule f 6 (constant_in_range p) r7 k h refl (λ h. other_rule f 7 (counts_fit p) r8 k h refl (λ h. other_rule f 8 (maps_pure p) r9 k h refl (λ h. other_rule f 9 (maps_bounded a.scope p) r10 k h refl (λ h. other_rule f 10 (spaces_agree a p rest) r11 k h refl (λ h. held_rule f 11 (elements_within a.totals p) r12 k h e (λ h. held_rule f 12 (text_within a) None k h t (no_rule f k)))))))))))

loop_met : (a : Around) (v : Name) (l u : Bound) (s : ℤ) → text_within a ≡ true → Misses is_limit (rule_of_loop a v l u s)
unfolding rule_of_loop
loop_met a v l u s t k h =
    let f = is_limit in
    let r12 : Option ℕ = rule 12 (text_within a) None in
    let r9 : Option ℕ = rule 9 (bound_bounded a.scope l && bound_bounded a.scope u) r12 in
    let r8 : Option ℕ = rule 8 (bound_pure l && (bound_pure u && step_positive s)) r9 in
    let r7 : Option ℕ = rule 7 (bound_counts_fit l && bound_counts_fit u) r8 in
    let r4 : Option ℕ = rule 4 (bound_stands a.scope l && bound_stands a.scope u) r7 in
    let r2 : Option ℕ = rule 2 (is_new a.scope v) r4 in
    other_rule f 1 (bound_in a.scope l && bound_in a.scope u) r2 k h refl (λ h. other_rule f 2 (is_new a.scope v) r4 k h refl (λ h. other_rule f 4 (bound_stands a.scope l && bound_stands a.scope u) r7 k h refl (λ h. other_rule f 7 (bound_counts_fit l && bound_counts_fit u) r8 k h refl (λ h. other_rule f 8 (bound_pure l && (bound_pure u && step_positive s)) r9 k h refl (λ h. other_rule f 9 (bound_bounded a.scope l && bound_bounded a.scope u) r12 k h refl (λ h. held_rule f 12 (text_within a) None k h t (no_rule f k)))))))

condition_met : (a : Around) (set : Set) (names : List Name) → text_within a ≡ true → Misses is_limit (rule_of_condition a set names)
unfolding rule_of_condition
condition_met a set names t k h =
    let f = is_limit in
    let r12 : Option ℕ = rule 12 (text_within a) None in
    let r9 : Option ℕ = rule 9 (set_bounded a.scope set names) r12 in
    let r8 : Option ℕ = rule 8 (set_pure set) r9 in
    let r7 : Option ℕ = rule 7 (set_fits set names) r8 in
    let r4 : Option ℕ = rule 4 (operands_stand a.scope set.dims names) r7 in
    other_rule f 1 (are_in a.scope names) r4 k h refl (λ h. other_rule f 4 (operands_stand a.scope set.dims names) r7 k h refl (λ h. other_rule f 7 (set_fits set names) r8 k h refl (λ h. other_rule f 8 (set_pure set) r9 k h refl (λ h. other_rule f 9 (set_bounded a.scope set names) r12 k h refl (λ h. held_rule f 12 (text_within a) None k h t (no_rule f k))))))

judged_met : (line : ℕ) (x : Option ℕ) (more : Told) (t : Totals) → Misses is_limit x → Met more t → Met (judged line x more) t
judged_met line None more t h k = k
judged_met line (Some n) more t h k = h n refl

then_met : (first : Told) (more : Totals → Told) (s t : Totals) → Met first s → Met (more s) t → Met (then_told first more) t
then_met (Passed r) more s t h k = subst (λ x. Met (more x) t) (sym h) k
then_met (Broken line n) more s t h k = h

-- ---- along the text
some_kept : (b : Bool) (o : Option Around) (c : Around) → while_kept b o ≡ Some c → (b ≡ true) × (o ≡ Some c)
some_kept true o c h = (refl, h)
some_kept false o c h = absurd (let z : ⊥ = cc in z)

some_then : (o : Option Around) (more : Around → Option Around) (c : Around) → and_then o more ≡ Some c → (b : Around) × (o ≡ Some b) × (more b ≡ Some c)
some_then (Some b) more c h = (b, refl, h)
some_then None more c h = absurd (let z : ⊥ = cc in z)

pub text_met : (n : Nest) (a c : Around) → kept n a ≡ Some c → Met (told n a) c.totals
unfolding told
text_met Nothing a c h = let same : a ≡ c = cc in ap (λ (x : Around). x.totals) same
text_met (Loop line v l u s body rest) a c h =
    let k = some_kept (text_within (counted a) && (bound_fits l && bound_fits u)) _ c h in
    let t = and_parts (text_within (counted a)) (bound_fits l && bound_fits u) k.0 in
    let b = some_then (kept body (in_loop v l u (counted a))) (λ b. kept rest (with_totals b.totals a)) c k.1 in
    judged_met line (rule_of_loop (counted a) v l u s) _ c.totals (loop_met (counted a) v l u s t.0)
    (then_met (told body (in_loop v l u (counted a))) (λ t. told rest (with_totals t a)) b.0.totals c.totals (text_met body (in_loop v l u (counted a)) b.0 b.1) (text_met rest (with_totals b.0.totals a) c b.2))
text_met (Branch line set names first has other rest) a c h =
    let k = some_kept (text_within (counted a) && rows_fit set.rows) _ c h in
    let t = and_parts (text_within (counted a)) (rows_fit set.rows) k.0 in
    let b = some_then (kept first (in_condition (counted a))) (λ b. and_then (kept other (in_condition (with_totals b.totals a))) (λ c. kept rest (with_totals c.totals a))) c k.1 in
    let d = some_then (kept other (in_condition (with_totals b.0.totals a))) (λ c. kept rest (with_totals c.totals a)) c b.2 in
    judged_met line (rule_of_condition (counted a) set names) _ c.totals (condition_met (counted a) set names t.0)
    (then_met (told first (in_condition (counted a))) (λ t. then_told (told other (in_condition (with_totals t a))) (λ u. told rest (with_totals u a))) b.0.totals c.totals (text_met first (in_condition (counted a)) b.0 b.1)
    (then_met (told other (in_condition (with_totals b.0.totals a))) (λ u. told rest (with_totals u a)) d.0.totals c.totals (text_met other (in_condition (with_totals b.0.totals a)) d.0 d.1) (text_met rest (with_totals d.0.totals a) c d.2)))
text_met (Does line p rest) a c h =
    let k = some_kept (text_within (counted a) && (elements_within (counted a).totals p && list_all access_fits (maps_of p))) _ c h in
    let t = and_parts (text_within (counted a)) (elements_within (counted a).totals p && list_all access_fits (maps_of p)) k.0 in
    let e = and_parts (elements_within (counted a).totals p) (list_all access_fits (maps_of p)) t.1 in
    judged_met line (rule_of_plain (counted a) p rest) _ c.totals (plain_met (counted a) p rest e.0 t.0) (text_met rest (behind_plain p (counted a)) c k.1)

same_behind : (args : List Arg) (a : Around) → behind_arguments args a ≡ safe.behind_arguments args a
same_behind [] a = refl
same_behind (arg ∷ args) a = same_behind args (behind_argument arg.name arg.kind a)

some_there : (o : Option Around) → is_there o ≡ true → (c : Around) × (o ≡ Some c)
some_there (Some c) h = (c, refl)
some_there None h = absurd (let z : ⊥ = cc in z)

pub limits_met : (args : List Arg) (n : Nest) → keeps_limits args n ≡ true → (c : Around) × Met (told n (safe.behind_arguments args outside)) c.totals
unfolding keeps_limits
limits_met args n h =
    let two = and_parts (nat_le (operands_in n) 1048576) (is_there (kept n (behind_arguments args outside))) h in
    let c = some_there (kept n (behind_arguments args outside)) two.1 in
    (c.0, subst (λ a. Met (told n a) c.0.totals) (same_behind args outside) (text_met n (behind_arguments args outside) c.0 c.1))

-- ---- the rule on intervals
abbrev pub is_intervals : ℕ → Bool
is_intervals n = nat_eq n 9

abbrev pub Bounded : Told → Type 0
Bounded (Passed s) = Unit {0}
Bounded (Broken line n) = is_intervals n ≡ false

plain_bounded : (a : Around) (p : Plain) (rest : Nest) → maps_bounded a.scope p ≡ true → Misses is_intervals (rule_of_plain a p rest)
unfolding rule_of_plain
plain_bounded a p rest e k h =
    let f = is_intervals in
    let r12 : Option ℕ = rule 12 (text_within a) None in
    let r11 : Option ℕ = rule 11 (elements_within a.totals p) r12 in
    let r10 : Option ℕ = rule 10 (spaces_agree a p rest) r11 in
    let r9 : Option ℕ = rule 9 (maps_bounded a.scope p) r10 in
    let r8 : Option ℕ = rule 8 (maps_pure p) r9 in
    let r7 : Option ℕ = rule 7 (counts_fit p) r8 in
    let r6 : Option ℕ = rule 6 (constant_in_range p) r7 in
    let r5 : Option ℕ = rule 5 (types_agree a.scope p) r6 in
    let r4 : Option ℕ = rule 4 (uses_stand a.scope p) r5 in
    let r2 : Option ℕ = rule 2 (defines_new a.scope p) r4 in
    other_rule f 1 (uses_in_scope a.scope p) r2 k h refl (λ h. other_rule f 2 (defines_new a.scope p) r4 k h refl (λ h. other_rule f 4 (uses_stand a.scope p) r5 k h refl (λ h. other_rule f 5 (types_agree a.scope p) r6 k h refl (λ h. other_rule f 6 (constant_in_range p) r7 k h refl (λ h. other_rule f 7 (counts_fit p) r8 k h refl (λ h. other_rule f 8 (maps_pure p) r9 k h refl (λ h. held_rule f 9 (maps_bounded a.scope p) r10 k h e (λ h. other_rule f 10 (spaces_agree a p rest) r11 k h refl (λ h. other_rule f 11 (elements_within a.totals p) r12 k h refl (λ h. other_rule f 12 (text_within a) None k h refl (no_rule f k)))))))))))

loop_bounded : (a : Around) (v : Name) (l u : Bound) (s : ℤ) → (bound_bounded a.scope l && bound_bounded a.scope u) ≡ true → Misses is_intervals (rule_of_loop a v l u s)
unfolding rule_of_loop
loop_bounded a v l u s e k h =
    let f = is_intervals in
    let r12 : Option ℕ = rule 12 (text_within a) None in
    let r9 : Option ℕ = rule 9 (bound_bounded a.scope l && bound_bounded a.scope u) r12 in
    let r8 : Option ℕ = rule 8 (bound_pure l && (bound_pure u && step_positive s)) r9 in
    let r7 : Option ℕ = rule 7 (bound_counts_fit l && bound_counts_fit u) r8 in
    let r4 : Option ℕ = rule 4 (bound_stands a.scope l && bound_stands a.scope u) r7 in
    let r2 : Option ℕ = rule 2 (is_new a.scope v) r4 in
    other_rule f 1 (bound_in a.scope l && bound_in a.scope u) r2 k h refl (λ h. other_rule f 2 (is_new a.scope v) r4 k h refl (λ h. other_rule f 4 (bound_stands a.scope l && bound_stands a.scope u) r7 k h refl (λ h. other_rule f 7 (bound_counts_fit l && bound_counts_fit u) r8 k h refl (λ h. other_rule f 8 (bound_pure l && (bound_pure u && step_positive s)) r9 k h refl (λ h. held_rule f 9 (bound_bounded a.scope l && bound_bounded a.scope u) r12 k h e (λ h. other_rule f 12 (text_within a) None k h refl (no_rule f k)))))))

condition_bounded : (a : Around) (set : Set) (names : List Name) → set_bounded a.scope set names ≡ true → Misses is_intervals (rule_of_condition a set names)
unfolding rule_of_condition
condition_bounded a set names e k h =
    let f = is_intervals in
    let r12 : Option ℕ = rule 12 (text_within a) None in
    let r9 : Option ℕ = rule 9 (set_bounded a.scope set names) r12 in
    let r8 : Option ℕ = rule 8 (set_pure set) r9 in
    let r7 : Option ℕ = rule 7 (set_fits set names) r8 in
    let r4 : Option ℕ = rule 4 (operands_stand a.scope set.dims names) r7 in
    other_rule f 1 (are_in a.scope names) r4 k h refl (λ h. other_rule f 4 (operands_stand a.scope set.dims names) r7 k h refl (λ h. other_rule f 7 (set_fits set names) r8 k h refl (λ h. other_rule f 8 (set_pure set) r9 k h refl (λ h. held_rule f 9 (set_bounded a.scope set names) r12 k h e (λ h. other_rule f 12 (text_within a) None k h refl (no_rule f k))))))

judged_bounded : (line : ℕ) (x : Option ℕ) (more : Told) → Misses is_intervals x → Bounded more → Bounded (judged line x more)
judged_bounded line None more h k = k
judged_bounded line (Some n) more h k = h n refl

then_bounded : (first : Told) (more : Totals → Told) → Bounded first → ((s : Totals) → Bounded (more s)) → Bounded (then_told first more)
then_bounded (Passed r) more h k = k r
then_bounded (Broken line n) more h k = h

pub text_bounded : (n : Nest) (a : Around) → bounded_in n a.scope ≡ true → Bounded (told n a)
unfolding told
text_bounded Nothing a h = tt
text_bounded (Loop line v l u s body rest) a h =
    let x = and_parts (bound_bounded a.scope l && bound_bounded a.scope u) (bounded_in body (loop_scope v l u a.scope) && bounded_in rest a.scope) h in
    let y = and_parts (bounded_in body (loop_scope v l u a.scope)) (bounded_in rest a.scope) x.1 in
    judged_bounded line (rule_of_loop (counted a) v l u s) _ (loop_bounded (counted a) v l u s x.0)
    (then_bounded (told body (in_loop v l u (counted a))) (λ t. told rest (with_totals t a)) (text_bounded body (in_loop v l u (counted a)) y.0) (λ t. text_bounded rest (with_totals t a) y.1))
text_bounded (Branch line set names first has other rest) a h =
    let x = and_parts (set_bounded a.scope set names) (bounded_in first a.scope && (bounded_in other a.scope && bounded_in rest a.scope)) h in
    let y = and_parts (bounded_in first a.scope) (bounded_in other a.scope && bounded_in rest a.scope) x.1 in
    let z = and_parts (bounded_in other a.scope) (bounded_in rest a.scope) y.1 in
    judged_bounded line (rule_of_condition (counted a) set names) _ (condition_bounded (counted a) set names x.0)
    (then_bounded (told first (in_condition (counted a))) (λ t. then_told (told other (in_condition (with_totals t a))) (λ u. told rest (with_totals u a))) (text_bounded first (in_condition (counted a)) y.0) (λ t.
    then_bounded (told other (in_condition (with_totals t a))) (λ u. told rest (with_totals u a)) (text_bounded other (in_condition (with_totals t a)) z.0) (λ u. text_bounded rest (with_totals u a) z.1)))
text_bounded (Does line p rest) a h =
    let x = and_parts (maps_bounded a.scope p) (bounded_in rest (behind_scope p a.scope)) h in
    judged_bounded line (rule_of_plain (counted a) p rest) _ (plain_bounded (counted a) p rest x.0)
    (text_bounded rest (behind_plain p (counted a)) (subst (λ s. bounded_in rest s ≡ true) (scope_behind p a) x.1))

pub intervals_met : (args : List Arg) (n : Nest) → keeps_intervals args n ≡ true → Bounded (told n (safe.behind_arguments args outside))
unfolding keeps_intervals
intervals_met args n h = text_bounded n (safe.behind_arguments args outside) (subst (λ s. bounded_in n s ≡ true) (sym (scope_is args outside)) h)
