-- Where a form is bounded, its variable has a lower and an upper bound.
use Rattle.std.proofs.Common.{◌≡◌, suc, List, [], map, Ok, ℤ, pos, neg_ℤ, ◌+ℤ◌, ◌*ℤ◌, ◌≤ℤ◌, ◌<ℤ◌, sym, arith, subst, length}
use Rattle.std.proofs.lemmas.Int.{ints}
use Rattle.num_row.proofs.Ring.{Var, ◌⊕◌, ◌⊗◌, Neg, ring, mul_nonneg}
use Rattle.constraint_set.specs.Lists.{Each}
use Rattle.constraint_set.specs.Points.{LinearRow, LinearSystem, value_at, AreWide, coef}
use Rattle.constraint_set.specs.Tidy.{tidied}
use Rattle.constraint_set.specs.Elimination.{raising, lowering, without, steps, countdown}
use Rattle.constraint_set.specs.Reach.{IsBounded, HasBounds, valued, HasPoint}
use Rattle.constraint_set.proofs.Steps.{Each-weaken, Raises, Lowers, part_raising, part_lowering, part_without, whole}
use Rattle.constraint_set.proofs.Valued.{line, to_line, from_line, point_down, point_up}
use Rattle.constraint_set.proofs.Reaching.{some_law}

-- a row that doesn't raise v holds at a lesser v too
lesser_holds : (c d v w q : ℤ) → c ≤ℤ pos 0 → w ≤ℤ v → pos 0 ≤ℤ (c *ℤ v +ℤ d *ℤ q) → pos 0 ≤ℤ (c *ℤ w +ℤ d *ℤ q)
lesser_holds c d v w q low less h =
    let m = mul_nonneg (neg_ℤ c) (v +ℤ neg_ℤ w) (omega (arith, ints)) (omega (arith, ints)) in
    let e : neg_ℤ c *ℤ (v +ℤ neg_ℤ w) ≡ c *ℤ w +ℤ neg_ℤ (c *ℤ v) = ring (Neg (Var c) ⊗ (Var v ⊕ Neg (Var w))) (Var c ⊗ Var w ⊕ Neg (Var c ⊗ Var v)) (omega arith) in
    omega (arith, ints, m, e, h)

-- one that doesn't lower it at a greater
greater_holds : (c d v w q : ℤ) → pos 0 ≤ℤ c → v ≤ℤ w → pos 0 ≤ℤ (c *ℤ v +ℤ d *ℤ q) → pos 0 ≤ℤ (c *ℤ w +ℤ d *ℤ q)
greater_holds c d v w q up more h =
    let m = mul_nonneg c (w +ℤ neg_ℤ v) up (omega (arith, ints)) in
    let e : c *ℤ (w +ℤ neg_ℤ v) ≡ c *ℤ w +ℤ neg_ℤ (c *ℤ v) = ring (Var c ⊗ (Var w ⊕ Neg (Var v))) (Var c ⊗ Var w ⊕ Neg (Var c ⊗ Var v)) (omega arith) in
    omega (arith, ints, m, e, h)

-- t times one less than the low value isn't the low value or more
too_low : (t l q w : ℤ) → pos 0 <ℤ t → (l *ℤ (t *ℤ q)) ≤ℤ w → w ≡ t *ℤ (l *ℤ q +ℤ neg_ℤ (pos 1)) → ⊥
too_low t l q w ht h e =
    let f : t *ℤ (l *ℤ q +ℤ neg_ℤ (pos 1)) ≡ l *ℤ (t *ℤ q) +ℤ neg_ℤ t = ring (Var t ⊗ (Var l ⊗ Var q ⊕ Neg (Var (pos 1)))) (Var l ⊗ (Var t ⊗ Var q) ⊕ Neg (Var t)) (omega arith) in
    let x : ⊥ = omega (arith, ints, f, e, h, ht) in x

too_high : (t k q w : ℤ) → pos 0 <ℤ t → w ≤ℤ (k *ℤ (t *ℤ q)) → w ≡ t *ℤ (k *ℤ q +ℤ pos 1) → ⊥
too_high t k q w ht h e =
    let f : t *ℤ (k *ℤ q +ℤ pos 1) ≡ k *ℤ (t *ℤ q) +ℤ t = ring (Var t ⊗ (Var k ⊗ Var q ⊕ Var (pos 1))) (Var k ⊗ (Var t ⊗ Var q) ⊕ Var t) (omega arith) in
    let x : ⊥ = omega (arith, ints, f, e, h, ht) in x

module _ (s : LinearSystem) (form : LinearRow) (wide : AreWide s.vars s.rows) (long : length form.coefs ≡ s.vars)
    (both rows : List LinearRow) (made : valued s form ≡ Ok both) (run : steps (map suc (countdown s.vars)) (tidied both) ≡ Ok rows) (bounded : IsBounded s form) (has : HasPoint s) where
  there : Each (line (value_at form has.0 has.1.0) has.1.0) rows
  there = to_line rows s.vars (value_at form has.0 has.1.0) has.1.0 (point_down s form wide long both rows made run has.0 has.1.0 has.1.1)

  some_raise : ¬ (raising 0 rows ≡ [])
  some_raise e =
      let w = value_at form has.0 has.1.0 in
      let y = has.1.0 in
      let less = bounded.low *ℤ y +ℤ neg_ℤ (pos 1) in
      let under : less ≤ℤ w = (let b = bounded.above has.0 y has.1.1 in omega (arith, ints, b)) in
      let ups = subst (Each (line less y)) (sym e) tt in
      let downs = Each-weaken (λ r. Lowers 0 r × line w y r) (line less y) (λ r h. lesser_holds (coef 0 r) r.constant w less y (let l = h.0 in omega (arith, ints)) under h.1) (lowering 0 rows) (part_lowering 0 (line w y) rows there) in
      let flats = Each-weaken (λ r. (coef 0 r ≡ pos 0) × line w y r) (line less y) (λ r h. lesser_holds (coef 0 r) r.constant w less y (let l = h.0 in omega (arith, ints)) under h.1) (without 0 rows) (part_without 0 (line w y) rows there) in
      let source = point_up s form wide long both rows made run less y (from_line rows s.vars less y has.1.1.point.0 (whole 0 (line less y) rows ups downs flats)) in
      too_low source.t bounded.low y (value_at form source.p (source.t *ℤ y)) source.positive (bounded.above source.p (source.t *ℤ y) source.point) source.value

  some_lower : ¬ (lowering 0 rows ≡ [])
  some_lower e =
      let w = value_at form has.0 has.1.0 in
      let y = has.1.0 in
      let more = bounded.high *ℤ y +ℤ pos 1 in
      let over : w ≤ℤ more = (let b = bounded.below has.0 y has.1.1 in omega (arith, ints, b)) in
      let downs = subst (Each (line more y)) (sym e) tt in
      let ups = Each-weaken (λ r. Raises 0 r × line w y r) (line more y) (λ r h. greater_holds (coef 0 r) r.constant w more y (let l = h.0 in omega (arith, ints)) over h.1) (raising 0 rows) (part_raising 0 (line w y) rows there) in
      let flats = Each-weaken (λ r. (coef 0 r ≡ pos 0) × line w y r) (line more y) (λ r h. greater_holds (coef 0 r) r.constant w more y (let l = h.0 in omega (arith, ints)) over h.1) (without 0 rows) (part_without 0 (line w y) rows there) in
      let source = point_up s form wide long both rows made run more y (from_line rows s.vars more y has.1.1.point.0 (whole 0 (line more y) rows ups downs flats)) in
      too_high source.t bounded.high y (value_at form source.p (source.t *ℤ y)) source.positive (bounded.below source.p (source.t *ℤ y) source.point) source.value

pub bounds_there : (s : LinearSystem) (form : LinearRow) → AreWide s.vars s.rows → length form.coefs ≡ s.vars → IsBounded s form → HasBounds s form
bounds_there s form wide long bounded = λ both rows last made run end e.
    (let has = some_law s form wide long both rows made run last end e in
    (some_raise s form wide long both rows made run bounded has, some_lower s form wide long both rows made run bounded has))
