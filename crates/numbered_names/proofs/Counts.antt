-- A valid text defines at most as many names as it has statements.
use Rattle.std.proofs.Common.{◌≡◌, ℕ, suc, ◌+◌, ◌≤◌, List, [], ◌∷◌, ◌++◌, length, length-append, refl, sym, ap, ◌∙◌, arith, Bool, true, false}
use Rattle.std.specs.Prelude.{◌&&◌, nat_le}
use Rattle.std.proofs.lemmas.Bool.{and_parts, leb-true}
use Rattle.affine_ast.specs.declared.name.Name.{Name}
use Rattle.affine_ast.specs.Nest.{Plain, Nest, Nothing, Loop, Branch, Does, Value, Load, Store, RawLoad, RawStore, Constant, Binary, Cast, Alloc, Dealloc, Start, Wait, Return}
use Rattle.affine_ast.specs.Parts.{Effect, NewIndex, NewConstant, NewData, NewMemref, Released, Unchanged, effect_of, results_of}
use Rattle.affine_ast.specs.Rules.{text_within}
use Rattle.affine_ast.specs.Scope.{Totals, Around, counted, in_loop, in_condition, with_totals, behind_effect, behind_plain}
use Rattle.affine_ast.specs.Validity.{Passed, rule_of_plain, rule_of_loop, rule_of_condition, told}
use Rattle.valid_laws.proofs.Passing.{judged_passed, then_passed, plain_holds, loop_holds, condition_holds}
use Rattle.numbered_names.specs.Numbers.{defined}

within_text : (a : Around) → text_within (counted a) ≡ true → suc a.totals.statements ≤ 65536
within_text a h = leb-true (suc a.totals.statements) 65536 (and_parts (nat_le (suc a.totals.statements) 65536) (nat_le a.loops 16 && nat_le a.ifs 16) h).0

effect_kept : (x : Effect) (a : Around) → (behind_effect x a).totals.statements ≡ a.totals.statements
effect_kept (NewIndex r pick at) a = refl
effect_kept (NewConstant r z ty) a = refl
effect_kept (NewData r ty) a = refl
effect_kept (NewMemref r ty) a = refl
effect_kept (Released m) a = refl
effect_kept Unchanged a = refl

-- a statement defines one name at most
one_result : (q : Plain) → length (results_of q) ≤ 1
one_result (Value r pick at) = omega arith
one_result (Load r m at ty) = omega arith
one_result (Store x m at ty) = omega arith
one_result (RawLoad r m at ty) = omega arith
one_result (RawStore x m at ty) = omega arith
one_result (Constant r z ty) = omega arith
one_result (Binary r op x y ty) = omega arith
one_result (Cast r kind x from to) = omega arith
one_result (Alloc r ty) = omega arith
one_result (Dealloc m ty) = omega arith
one_result (Start x x_at y y_at t t_at n stride types) = omega arith
one_result (Wait t at n ty) = omega arith
one_result Return = omega arith

pub record Counts (n : Nest) (a : Around) (t : Totals) : Type 0 where
  pub count : a.totals.statements + length (defined n) ≤ t.statements
  pub few : t.statements ≤ 65536

pub counts : (n : Nest) (a : Around) (t : Totals) → told n a ≡ Passed t → a.totals.statements ≤ 65536 → Counts n a t
unfolding told defined
counts Nothing a t e h = by e
  where
    by : Passed a.totals ≡ Passed t → Counts Nothing a t
    by e = let s : a.totals ≡ t = cc in let k : a.totals.statements ≡ t.statements = ap (λ (t : Totals). t.statements) s in record { count = omega (arith, k); few = omega (arith, k, h) }
counts (Loop line v l u s body rest) a t e h =
    let judged = judged_passed line (rule_of_loop (counted a) v l u s) _ t e in
    let both = then_passed (told body (in_loop v l u (counted a))) (λ t. told rest (with_totals t (counted a))) t judged.1 in
    let k = within_text a (loop_holds (counted a) v l u s judged.0).text in
    let one = counts body (in_loop v l u (counted a)) both.0 both.1 k in
    let two = counts rest (with_totals both.0 (counted a)) t both.2 one.few in
    let long = length-append (defined body) (defined rest) in
    let c = one.count in
    let d = two.count in
    record { count = omega (arith, long, c, d); few = two.few }
counts (Branch line set names first has other rest) a t e h =
    let judged = judged_passed line (rule_of_condition (counted a) set names) _ t e in
    let both = then_passed (told first (in_condition (counted a))) (λ t. _) t judged.1 in
    let more = then_passed (told other (in_condition (with_totals both.0 (counted a)))) (λ t. told rest (with_totals t (counted a))) t both.2 in
    let k = within_text a (condition_holds (counted a) set names judged.0).text in
    let one = counts first (in_condition (counted a)) both.0 both.1 k in
    let two = counts other (in_condition (with_totals both.0 (counted a))) more.0 more.1 one.few in
    let three = counts rest (with_totals more.0 (counted a)) t more.2 two.few in
    let long = length-append (defined first) (defined other ++ defined rest) in
    let longer = length-append (defined other) (defined rest) in
    let c = one.count in
    let d = two.count in
    let f = three.count in
    record { count = omega (arith, long, longer, c, d, f); few = three.few }
counts (Does line p rest) a t e h =
    let judged = judged_passed line (rule_of_plain (counted a) p rest) _ t e in
    let k = within_text a (plain_holds (counted a) p rest judged.0).text in
    let kept = effect_kept (effect_of p) (counted a) in
    let one = counts rest (behind_plain p (counted a)) t judged.1 (omega (arith, kept, k)) in
    let long = length-append (results_of p) (defined rest) in
    let some = one_result p in
    let c = one.count in
    record { count = omega (arith, long, some, c, kept); few = one.few }
