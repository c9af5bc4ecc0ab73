-- The least value of one variable over inequalities `c * v + d * q >= 0`: the tightest of those with a positive c gives it.
use Rattle.std.proofs.Common.{◌≡◌, List, [], ◌∷◌, ℤ, pos, neg_ℤ, ◌+ℤ◌, ◌*ℤ◌, ◌≤ℤ◌, ◌<ℤ◌, arith}
use Rattle.std.specs.Int.{int_div_euclid}
use Rattle.std.proofs.lemmas.Int.{ints}
use Rattle.num_row.proofs.Ring.{Var, ◌⊕◌, ◌⊗◌, Neg, ring, mul_nonneg}
use Rattle.num_row.proofs.Order.{mul_le_right, mul_cancel_right}
use Rattle.num_row.proofs.Floors.{floor_below, at_most_floor}
use Rattle.constraint_set.specs.Lists.{Each}
use Rattle.constraint_set.proofs.Lifting.{tightest}
use Rattle.constraint_set.proofs.Steps.{Each-weaken}

-- ---- over plain numbers
-- a point of the inequality with v <= j * q has the rounded-up bound at most j
pub bound_least : (c d v q j : ℤ) → pos 0 <ℤ c → pos 0 <ℤ q → pos 0 ≤ℤ (c *ℤ v +ℤ d *ℤ q) → v ≤ℤ (j *ℤ q) → neg_ℤ (int_div_euclid d c) ≤ℤ j
bound_least c d v q j low scale m h =
    let one = mul_le_right v (j *ℤ q) c h (omega (arith, ints)) in
    let two : c *ℤ v ≡ v *ℤ c = ring (Var c ⊗ Var v) (Var v ⊗ Var c) (omega arith) in
    let three : (neg_ℤ j *ℤ c) *ℤ q ≡ neg_ℤ (j *ℤ q *ℤ c) = ring (Neg (Var j) ⊗ Var c ⊗ Var q) (Neg (Var j ⊗ Var q ⊗ Var c)) (omega arith) in
    let four : ((neg_ℤ j *ℤ c) *ℤ q) ≤ℤ (d *ℤ q) = turned (c *ℤ v) (v *ℤ c) (j *ℤ q *ℤ c) (d *ℤ q) _ one two m three in
    let five = at_most_floor (neg_ℤ j) d c low (mul_cancel_right (neg_ℤ j *ℤ c) d q four scale) in
    omega (arith, ints, five)
  where
    turned : (x y z w u : ℤ) → y ≤ℤ z → x ≡ y → pos 0 ≤ℤ (x +ℤ w) → u ≡ neg_ℤ z → u ≤ℤ w
    turned x y z w u h e m f = omega (arith, ints)

-- the bound is reached at v = -d, q = c
bound_reached : (c d : ℤ) → pos 0 <ℤ c → neg_ℤ d ≤ℤ (neg_ℤ (int_div_euclid d c) *ℤ c)
bound_reached c d low =
    let e : neg_ℤ (int_div_euclid d c) *ℤ c ≡ neg_ℤ (int_div_euclid d c *ℤ c) = ring (Neg (Var (int_div_euclid d c)) ⊗ Var c) (Neg (Var (int_div_euclid d c) ⊗ Var c)) (omega arith) in
    omega (arith, ints, e, floor_below d c low)

-- there another inequality holds, if it lowers v or has none, and one point meets both
other_holds : (c d e f v q : ℤ) → pos 0 <ℤ c → e ≤ℤ pos 0 → pos 0 <ℤ q → pos 0 ≤ℤ (c *ℤ v +ℤ d *ℤ q) → pos 0 ≤ℤ (e *ℤ v +ℤ f *ℤ q) → pos 0 ≤ℤ (e *ℤ neg_ℤ d +ℤ f *ℤ c)
other_holds c d e f v q low down scale mb ms =
    let one = mul_nonneg (neg_ℤ e) (c *ℤ v +ℤ d *ℤ q) (omega (arith, ints)) mb in
    let two = mul_nonneg c (e *ℤ v +ℤ f *ℤ q) (omega (arith, ints)) ms in
    let same : neg_ℤ e *ℤ (c *ℤ v +ℤ d *ℤ q) +ℤ c *ℤ (e *ℤ v +ℤ f *ℤ q) ≡ (e *ℤ neg_ℤ d +ℤ f *ℤ c) *ℤ q
    = ring (Neg (Var e) ⊗ (Var c ⊗ Var v ⊕ Var d ⊗ Var q) ⊕ Var c ⊗ (Var e ⊗ Var v ⊕ Var f ⊗ Var q)) ((Var e ⊗ Neg (Var d) ⊕ Var f ⊗ Var c) ⊗ Var q) (omega arith) in
    mul_cancel_right (pos 0) (e *ℤ neg_ℤ d +ℤ f *ℤ c) q (both _ _ _ _ one two same (ring (Var (pos 0) ⊗ Var q) (Var (pos 0)) (omega arith))) scale
  where
    both : (x y z w : ℤ) → pos 0 ≤ℤ x → pos 0 ≤ℤ y → x +ℤ y ≡ z → w ≡ pos 0 → w ≤ℤ z
    both x y z w h k e f = omega (arith, ints)

-- ---- over a list
module _ {A : Type 0} (c d : A → ℤ) where
  abbrev pub Meets : ℤ → ℤ → A → Type 0
  Meets v q a = pos 0 ≤ℤ (c a *ℤ v +ℤ d a *ℤ q)

  abbrev pub lower : A → ℤ
  lower a = neg_ℤ (int_div_euclid (d a) (c a))

  -- the tightest of the inequalities with a positive c: v = -d, q = c meets them all, and the others
  pub record Tightest (ups others : List A) : Type 0 where
    pub best : A
    pub positive : pos 0 <ℤ c best
    pub ups_met : Each (Meets (neg_ℤ (d best)) (c best)) ups
    pub others_met : Each (Meets (neg_ℤ (d best)) (c best)) others
    pub reached : (k : ℤ) → Each (λ a. lower a ≤ℤ k) ups → neg_ℤ (d best) ≤ℤ (k *ℤ c best)

  module _ (v q : ℤ) (scale : pos 0 <ℤ q) (all : List A) where
    -- what is known of each of the first: it is one of them, and one point meets it
    abbrev Known : A → Type 0
    Known a = (pos 0 <ℤ c a) × (Meets v q a × ((k : ℤ) → Each (λ s. lower s ≤ℤ k) all → lower a ≤ℤ k))

    known : (part : List A) → ((k : ℤ) → Each (λ s. lower s ≤ℤ k) all → Each (λ s. lower s ≤ℤ k) part) → Each (λ a. pos 0 <ℤ c a) part → Each (Meets v q) part → Each Known part
    known [] f h g = tt
    known (a ∷ as') f h g = ((h.0, (g.0, λ k x. (f k x).0)), known as' (λ k x. (f k x).1) h.1 g.1)

    tight_meets : (b s : A) → (d b *ℤ c s) ≤ℤ (d s *ℤ c b) → Meets (neg_ℤ (d b)) (c b) s
    tight_meets b s h = let e : c s *ℤ neg_ℤ (d b) ≡ neg_ℤ (d b *ℤ c s) = ring (Var (c s) ⊗ Neg (Var (d b))) (Neg (Var (d b) ⊗ Var (c s))) (omega arith) in omega (arith, ints, e)

    others_meet : (b : A) → pos 0 <ℤ c b → Meets v q b → (others : List A) → Each (λ s. c s ≤ℤ pos 0) others → Each (Meets v q) others → Each (Meets (neg_ℤ (d b)) (c b)) others
    others_meet b low own [] h g = tt
    others_meet b low own (s ∷ ss) h g = (other_holds (c b) (d b) (c s) (d s) v q low h.0 scale own g.0, others_meet b low own ss h.1 g.1)

    reach_of_best : (b : A) → Known b → (k : ℤ) → Each (λ a. lower a ≤ℤ k) all → neg_ℤ (d b) ≤ℤ (k *ℤ c b)
    reach_of_best b kb k h =
        let one = bound_reached (c b) (d b) kb.0 in
        let two = mul_le_right (lower b) k (c b) (kb.1.1 k h) (let low = kb.0 in omega (arith, ints)) in
        omega (arith, ints, one, two)

  pub tight : (a : A) (ups others : List A) (v q : ℤ) → pos 0 <ℤ q → Each (λ s. pos 0 <ℤ c s) (a ∷ ups) → Each (λ s. c s ≤ℤ pos 0) others → Each (Meets v q) (a ∷ ups) → Each (Meets v q) others → Tightest (a ∷ ups) others
  tight a ups others v q scale lows downs mu mo =
      let all = a ∷ ups in
      let ks = known v q scale all all (λ k x. x) lows mu in
      let w = tightest d c (Known v q scale all) (λ s h. h.0) a ups ks.0 ks.1 in
      record {
        best = w.0;
        positive = w.1.0.0;
        ups_met = (tight_meets v q scale all w.0 a w.1.1.0, Each-weaken (λ s. (d w.0 *ℤ c s) ≤ℤ (d s *ℤ c w.0)) (Meets (neg_ℤ (d w.0)) (c w.0)) (λ s h. tight_meets v q scale all w.0 s h) ups w.1.1.1);
        others_met = others_meet v q scale all w.0 w.1.0.0 w.1.0.1.0 others downs mo;
        reached = reach_of_best v q scale all w.0 w.1.0;
      }
