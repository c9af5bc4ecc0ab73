-- The totals of a text bound the numbers of its allocations.
use Rattle.std.proofs.Common.{◌≡◌, ℕ, suc, ◌+◌, ◌≤◌, Bool, true, false, refl, ap, subst, arith}
use Rattle.std.specs.Prelude.{◌&&◌, ◌||◌, nat_eq, nat_le, if◌then◌else◌}
use Rattle.std.proofs.lemmas.Bool.{and_parts}
use Rattle.affine_ast.specs.declared.name.Name.{Name}
use Rattle.affine_ast.specs.declared.types.Element.TheVariants.{I32}
use Rattle.affine_ast.specs.declared.types.MemrefType.{MemrefType}
use Rattle.affine_ast.specs.Nest.{Plain, Nest, Nothing, Loop, Branch, Does, Alloc}
use Rattle.affine_ast.specs.Rules.{same_element, allocates_well, is_released_once, allocations_within, shape_within, text_within}
use Rattle.affine_ast.specs.Scope.{Totals, Around, counted, in_loop, in_condition, with_totals, totals_with, tags_of, behind_plain}
use Rattle.affine_ast.specs.Sizes.{product}
use Rattle.affine_ast.specs.Validity.{Passed, then_told, told, rule_of_plain, rule_of_loop, rule_of_condition}
use Rattle.direct_meaning.specs.Actions.{is_fast, fasts_of_plain, tags_of_plain, fasts_in, tags_in}
use Rattle.valid_laws.proofs.Passing.{Holds, judged_passed, then_passed, plain_holds, loop_holds, condition_holds}

-- totals within the limits, and no less than the allocations in space 1 and the tags so far
pub record IsCounted (t : Totals) (f g : ℕ) : Type 0 where
  pub statements_fit : t.statements ≤ 65536
  pub tags_fit : t.tags ≤ 65536
  pub fasts : f ≤ t.statements
  pub tags : g ≤ t.tags

-- one statement more
pub counted_one : (a : Around) (f g : ℕ) → IsCounted a.totals f g → text_within (counted a) ≡ true → IsCounted (counted a).totals f g
counted_one a f g h t =
    let k = (and_parts (nat_le (suc a.totals.statements) 65536) (nat_le a.loops 16 && nat_le a.ifs 16) t).0 in
    let l : suc a.totals.statements ≤ 65536 = grind (arith, k) in
    record { statements_fit = l; tags_fit = h.tags_fit; fasts = omega (arith, h.fasts); tags = h.tags }

-- ---- an allocation

-- what an allocation meets: its space, and the totals with it
pub record AllocHolds (ty : MemrefType) (t : Totals) : Type 0 where
  pub space : (is_fast ty ≡ false) → ty.space ≡ 2
  pub shape : shape_within ty ≡ true
  pub elements : t.allocated + product ty.sizes ≤ 16777216
  pub tags : t.tags + tags_of ty.space (product ty.sizes) ≤ 65536

space_by : (s t u : Bool) (n : ℕ) → nat_eq n 1 ≡ s → nat_eq n 2 ≡ t → (s || (t && u)) ≡ true → nat_eq n 1 ≡ false → n ≡ 2
space_by true t u n p q h k = absurd (let z : ⊥ = cc in z)
space_by false true u n p q h k = grind (arith, q)
space_by false false u n p q h k = absurd (let z : ⊥ = cc in z)

pub alloc_holds : (a : Around) (r : Name) (ty : MemrefType) (rest : Nest) → Holds a (Alloc r ty) rest → AllocHolds ty a.totals
alloc_holds a r ty rest h =
    let s = (and_parts (allocates_well ty) (is_released_once r rest) h.spaces).0 in
    let two = and_parts (shape_within ty) (allocations_within (totals_with ty a.totals)) h.elements in
    let lim = and_parts (nat_le (a.totals.allocated + product ty.sizes) 16777216) (nat_le (a.totals.tags + tags_of ty.space (product ty.sizes)) 65536) two.1 in
    record {
      space = λ k. space_by _ _ (same_element ty.element I32) ty.space refl refl s k;
      shape = two.0;
      elements = grind (arith, lim.0);
      tags = grind (arith, lim.1);
    }

-- the tags of an allocation that isn't in space 1
pub tags_taken : (ty : MemrefType) (n : ℕ) → ty.space ≡ 2 → tags_of ty.space n ≡ n
tags_taken ty n e = ap (λ s. tags_of s n) e

alloc_counted : (ty : MemrefType) (t : Totals) (b : Bool) (f g : ℕ) → is_fast ty ≡ b → AllocHolds ty t → t.statements ≤ 65536 → suc f ≤ t.statements → g ≤ t.tags
    → IsCounted (totals_with ty t) (f + (if b then 1 else 0)) (g + (if b then 0 else product ty.sizes))
alloc_counted ty t true f g e h s p q = record { statements_fit = s; tags_fit = h.tags; fasts = omega (arith, p); tags = omega (arith, q) }
alloc_counted ty t false f g e h s p q =
    let k = tags_taken ty (product ty.sizes) (h.space e) in
    record { statements_fit = s; tags_fit = h.tags; fasts = omega (arith, p); tags = omega (arith, q, k) }

-- ---- a plain statement

kept : (t : Totals) (f g : ℕ) → IsCounted t f g → IsCounted t (f + 0) (g + 0)
kept t f g h = record { statements_fit = h.statements_fit; tags_fit = h.tags_fit; fasts = omega (arith, h.fasts); tags = omega (arith, h.tags) }

pub plain_counted : (a : Around) (p : Plain) (rest : Nest) (f g : ℕ) → IsCounted a.totals f g → Holds (counted a) p rest → IsCounted (behind_plain p (counted a)).totals (f + fasts_of_plain p) (g + tags_of_plain p)
plain_counted a (Alloc r ty) rest f g h k =
    let one = counted_one a f g h k.text in
    alloc_counted ty (counted a).totals (is_fast ty) f g refl (alloc_holds (counted a) r ty rest k) one.statements_fit (omega (arith, h.fasts)) h.tags
plain_counted a p rest f g h k = kept _ f g (counted_one a f g h k.text)

-- ---- behind statements

sum_along : (t : Totals) (f f' g g' : ℕ) → f ≡ f' → g ≡ g' → IsCounted t f g → IsCounted t f' g'
sum_along t f f' g g' p q h = record { statements_fit = h.statements_fit; tags_fit = h.tags_fit; fasts = subst (λ n. n ≤ t.statements) p h.fasts; tags = subst (λ n. n ≤ t.tags) q h.tags }

pub counted_behind : (n : Nest) (a : Around) (t : Totals) (f g : ℕ) → IsCounted a.totals f g → told n a ≡ Passed t → IsCounted t (f + fasts_in n) (g + tags_in n)
unfolding told
counted_behind Nothing a t f g c h = kept t f g (subst (λ u. IsCounted u f g) (passed_same a.totals t h) c)
  where
    passed_same : (s t : Totals) → Passed s ≡ Passed t → s ≡ t
    passed_same s t e = cc
counted_behind (Loop line v l u s body rest) a t f g c h =
    let j = judged_passed line (rule_of_loop (counted a) v l u s) _ t h in
    let p = then_passed (told body (in_loop v l u (counted a))) (λ t. told rest (with_totals t a)) t j.1 in
    let one = counted_one a f g c (loop_holds (counted a) v l u s j.0).text in
    let inner = counted_behind body (in_loop v l u (counted a)) p.0 f g one p.1 in
    sum_along t _ _ _ _ (omega arith) (omega arith) (counted_behind rest (with_totals p.0 a) t (f + fasts_in body) (g + tags_in body) inner p.2)
counted_behind (Branch line set names first has other rest) a t f g c h =
    let j = judged_passed line (rule_of_condition (counted a) set names) _ t h in
    let p = then_passed (told first (in_condition (counted a))) (λ t. then_told (told other (in_condition (with_totals t a))) (λ u. told rest (with_totals u a))) t j.1 in
    let q = then_passed (told other (in_condition (with_totals p.0 a))) (λ u. told rest (with_totals u a)) t p.2 in
    let one = counted_one a f g c (condition_holds (counted a) set names j.0).text in
    let then_part = counted_behind first (in_condition (counted a)) p.0 f g one p.1 in
    let else_part = counted_behind other (in_condition (with_totals p.0 a)) q.0 (f + fasts_in first) (g + tags_in first) then_part q.1 in
    sum_along t _ _ _ _ (omega arith) (omega arith) (counted_behind rest (with_totals q.0 a) t (f + fasts_in first + fasts_in other) (g + tags_in first + tags_in other) else_part q.2)
counted_behind (Does line p rest) a t f g c h =
    let j = judged_passed line (rule_of_plain (counted a) p rest) _ t h in
    let one = plain_counted a p rest f g c (plain_holds (counted a) p rest j.0) in
    sum_along t _ _ _ _ (omega arith) (omega arith) (counted_behind rest (behind_plain p (counted a)) t (f + fasts_of_plain p) (g + tags_of_plain p) one j.1)
