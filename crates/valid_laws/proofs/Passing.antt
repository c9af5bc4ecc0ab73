-- What passes all rules.
use Rattle.std.proofs.Common.{◌≡◌, ℕ, ℤ, pos, ◌<ℤ◌, Bool, true, false, List, [], ◌∷◌, refl, arith}
use Rattle.std.specs.Prelude.{◌&&◌, Option, Some, None}
use Rattle.std.proofs.lemmas.Bool.{and_parts}
use Rattle.std.proofs.lemmas.Int.{ints}
use Rattle.affine_expr.specs.declared.map.Set.{Set}
use Rattle.affine_ast.specs.declared.module.Arg.{Arg}
use Rattle.affine_ast.specs.declared.module.Module.{Module}
use Rattle.affine_ast.specs.declared.name.Name.{Name}
use Rattle.affine_ast.specs.declared.types.Bound.{Bound}
use Rattle.affine_ast.specs.Nest.{Plain, Nest, Nothing, Loop, Branch, Does, Value, nest}
use Rattle.affine_ast.specs.Rules.{bound_pure, step_positive, maps_pure, uses_in_scope, defines_new, uses_stand, types_agree, constant_in_range, counts_fit, maps_bounded, spaces_agree, text_within, bound_in, is_new, bound_stands, bound_fits, bound_bounded, are_in, operands_stand, set_fits, set_pure, set_bounded}
use Rattle.affine_ast.specs.Scope.{Totals, Around, counted, in_loop, in_condition, with_totals, behind_plain}
use Rattle.affine_ast.specs.Validity.{Told, Broken, Passed, judged, then_told, rule, elements_within, told, told_arguments, rule_of_plain, rule_of_loop, rule_of_condition, rule_of_argument, behind_argument, told_module, outside, broken_of, first_broken, IsValid}
use Rattle.direct_meaning.specs.Pure.{AffinePlain, AffineNest}

-- ---- inversions

pub rule_held : (n : ℕ) (b : Bool) (more : Option ℕ) → rule n b more ≡ None → (b ≡ true) × (more ≡ None)
rule_held n true more h = (refl, h)
rule_held n false more h = absurd (some_none n h)
  where
    some_none : (n : ℕ) → Some n ≡ None → ⊥
    some_none n h = cc

broken_passed : (line number : ℕ) (t : Totals) → Broken line number ≡ Passed t → ⊥
broken_passed line number t h = cc

pub judged_passed : (line : ℕ) (found : Option ℕ) (more : Told) (t : Totals) → judged line found more ≡ Passed t → (found ≡ None) × (more ≡ Passed t)
judged_passed line None more t h = (refl, h)
judged_passed line (Some number) more t h = absurd (broken_passed line number t h)

pub then_passed : (first : Told) (more : Totals → Told) (t : Totals) → then_told first more ≡ Passed t → (s : Totals) × (first ≡ Passed s) × (more s ≡ Passed t)
then_passed (Broken line number) more t h = absurd (broken_passed line number t h)
then_passed (Passed s) more t h = (s, refl, h)

-- ---- values

plain_affine : (p : Plain) → maps_pure p ≡ true → AffinePlain p
plain_affine (Value r pick at) h = h
plain_affine p h = tt

-- what holds of a plain statement that breaks no rule
pub record Holds (a : Around) (p : Plain) (rest : Nest) : Type 0 where
  pub uses : uses_in_scope a.scope p ≡ true
  pub new_name : defines_new a.scope p ≡ true
  pub stand : uses_stand a.scope p ≡ true
  pub types : types_agree a.scope p ≡ true
  pub constants : constant_in_range p ≡ true
  pub counts : counts_fit p ≡ true
  pub pure : maps_pure p ≡ true
  pub bounded : maps_bounded a.scope p ≡ true
  pub spaces : spaces_agree a p rest ≡ true
  pub elements : elements_within a.totals p ≡ true
  pub text : text_within a ≡ true

pub plain_holds : (a : Around) (p : Plain) (rest : Nest) → rule_of_plain a p rest ≡ None → Holds a p rest
unfolding rule_of_plain
plain_holds a p rest h =
    let r1 = rule_held 1 _ _ h in
    let r2 = rule_held 2 _ _ r1.1 in
    let r4 = rule_held 4 _ _ r2.1 in
    let r5 = rule_held 5 _ _ r4.1 in
    let r6 = rule_held 6 _ _ r5.1 in
    let r7 = rule_held 7 _ _ r6.1 in
    let r8 = rule_held 8 _ _ r7.1 in
    let r9 = rule_held 9 _ _ r8.1 in
    let r10 = rule_held 10 _ _ r9.1 in
    let r11 = rule_held 11 _ _ r10.1 in
    let r12 = rule_held 12 _ _ r11.1 in
    record { uses = r1.0; new_name = r2.0; stand = r4.0; types = r5.0; constants = r6.0; counts = r7.0; pure = r8.0; bounded = r9.0; spaces = r10.0; elements = r11.0; text = r12.0 }

-- of a loop by itself
pub record LoopHolds (a : Around) (v : Name) (l u : Bound) (s : ℤ) : Type 0 where
  pub uses : (bound_in a.scope l && bound_in a.scope u) ≡ true
  pub new_name : is_new a.scope v ≡ true
  pub stand : (bound_stands a.scope l && bound_stands a.scope u) ≡ true
  pub fits : (bound_fits l && bound_fits u) ≡ true
  pub pure : (bound_pure l && (bound_pure u && step_positive s)) ≡ true
  pub bounded : (bound_bounded a.scope l && bound_bounded a.scope u) ≡ true
  pub text : text_within a ≡ true

pub loop_holds : (a : Around) (v : Name) (l u : Bound) (s : ℤ) → rule_of_loop a v l u s ≡ None → LoopHolds a v l u s
unfolding rule_of_loop
loop_holds a v l u s h =
    let r1 = rule_held 1 _ _ h in
    let r2 = rule_held 2 _ _ r1.1 in
    let r4 = rule_held 4 _ _ r2.1 in
    let r7 = rule_held 7 _ _ r4.1 in
    let r8 = rule_held 8 _ _ r7.1 in
    let r9 = rule_held 9 _ _ r8.1 in
    let r12 = rule_held 12 _ _ r9.1 in
    record { uses = r1.0; new_name = r2.0; stand = r4.0; fits = r7.0; pure = r8.0; bounded = r9.0; text = r12.0 }

-- of a condition by itself
pub record ConditionHolds (a : Around) (set : Set) (names : List Name) : Type 0 where
  pub uses : are_in a.scope names ≡ true
  pub stand : operands_stand a.scope set.dims names ≡ true
  pub fits : set_fits set names ≡ true
  pub pure : set_pure set ≡ true
  pub bounded : set_bounded a.scope set names ≡ true
  pub text : text_within a ≡ true

pub condition_holds : (a : Around) (set : Set) (names : List Name) → rule_of_condition a set names ≡ None → ConditionHolds a set names
unfolding rule_of_condition
condition_holds a set names h =
    let r1 = rule_held 1 _ _ h in
    let r4 = rule_held 4 _ _ r1.1 in
    let r7 = rule_held 7 _ _ r4.1 in
    let r8 = rule_held 8 _ _ r7.1 in
    let r9 = rule_held 9 _ _ r8.1 in
    let r12 = rule_held 12 _ _ r9.1 in
    record { uses = r1.0; stand = r4.0; fits = r7.0; pure = r8.0; bounded = r9.0; text = r12.0 }

loop_pure : (l u : Bound) (s : ℤ) → (bound_pure l && (bound_pure u && step_positive s)) ≡ true → (bound_pure l ≡ true) × (bound_pure u ≡ true) × (step_positive s ≡ true)
loop_pure l u s h =
    let one = and_parts (bound_pure l) (bound_pure u && step_positive s) h in
    let two = and_parts (bound_pure u) (step_positive s) one.1 in
    (one.0, two.0, two.1)

positive : (s : ℤ) → step_positive s ≡ true → pos 0 <ℤ s
positive s h = grind (arith, ints, h)

-- statements that pass have affine bounds and values, and positive steps
pub affine_of_told : (n : Nest) (a : Around) (t : Totals) → told n a ≡ Passed t → AffineNest n
unfolding told
affine_of_told Nothing a t h = tt
affine_of_told (Loop line v l u s body rest) a t h =
    let j = judged_passed line (rule_of_loop (counted a) v l u s) _ t h in
    let p = then_passed (told body (in_loop v l u (counted a))) (λ t. told rest (with_totals t a)) t j.1 in
    let pure = loop_pure l u s (loop_holds (counted a) v l u s j.0).pure in
    (pure.0, pure.1, positive s pure.2, affine_of_told body (in_loop v l u (counted a)) p.0 p.1, affine_of_told rest (with_totals p.0 a) t p.2)
affine_of_told (Branch line set names first has other rest) a t h =
    let j = judged_passed line (rule_of_condition (counted a) set names) _ t h in
    let p = then_passed (told first (in_condition (counted a))) (λ t. then_told (told other (in_condition (with_totals t a))) (λ u. told rest (with_totals u a))) t j.1 in
    let q = then_passed (told other (in_condition (with_totals p.0 a))) (λ u. told rest (with_totals u a)) t p.2 in
    (affine_of_told first (in_condition (counted a)) p.0 p.1, affine_of_told other (in_condition (with_totals p.0 a)) q.0 q.1, affine_of_told rest (with_totals q.0 a) t q.2)
affine_of_told (Does line p rest) a t h =
    let j = judged_passed line (rule_of_plain (counted a) p rest) _ t h in
    (plain_affine p (plain_holds (counted a) p rest j.0).pure, affine_of_told rest (behind_plain p (counted a)) t j.1)

-- ---- the arguments

arguments_passed : (args : List Arg) (body : Around → Told) (a : Around) (t : Totals) → told_arguments args body a ≡ Passed t → (b : Around) × (body b ≡ Passed t)
unfolding told_arguments
arguments_passed [] body a t h = (a, h)
arguments_passed (arg ∷ args) body a t h =
    let j = judged_passed arg.line (rule_of_argument a arg.name arg.kind) _ t h in
    arguments_passed args body (behind_argument arg.name arg.kind a) t j.1

pub passed_of : (x : Told) → broken_of x ≡ None → (t : Totals) × (x ≡ Passed t)
passed_of (Broken line number) h = absurd (let z : ⊥ = cc in z)
passed_of (Passed t) h = (t, refl)

-- a valid module passes
pub valid_passes : (m : Module) → IsValid m → (b : Around) × (t : Totals) × (told (nest m.body) b ≡ Passed t)
unfolding first_broken told_module
valid_passes m h =
    let p = passed_of (told_arguments m.args (told (nest m.body)) outside) h in
    let q = arguments_passed m.args (told (nest m.body)) outside p.0 p.1 in
    (q.0, p.0, q.1)

pub valid_affine : (m : Module) → IsValid m → AffineNest (nest m.body)
valid_affine m h = let p = valid_passes m h in affine_of_told (nest m.body) p.0 p.1 p.2
