-- Each scaled point of a step of elimination lifts to one of the rows: the new value is that of the tightest row.
use Rattle.std.proofs.Common.{◌≡◌, ℕ, zero, suc, ◌<◌, List, [], ◌∷◌, map, length, ℤ, pos, neg_ℤ, ◌+ℤ◌, ◌*ℤ◌, ◌≤ℤ◌, ◌<ℤ◌, get_or, refl, sym, ◌∙◌, ap, arith, ⊎_elim}
use Rattle.std.proofs.lemmas.Int.{ints}
use Rattle.std.proofs.Math.ListN.{set}
use Rattle.num_row.proofs.Ring.{Var, ◌⊕◌, ◌⊗◌, Neg, ring, mul_nonneg, mul_pos}
use Rattle.num_row.proofs.Order.{le_or_lt, fraction_trans}
use Rattle.constraint_set.specs.Lists.{Each}
use Rattle.constraint_set.specs.Points.{LinearRow, dot, value_at, HoldsAtPoint, IsPoint, coef, AreWide}
use Rattle.constraint_set.specs.Projection.{scaled}
use Rattle.constraint_set.specs.Elimination.{raising, lowering, without}
use Rattle.constraint_set.proofs.Dots.{paired, pairs, plain_step, value-mixed, dot-scaled, dot-set}
use Rattle.constraint_set.proofs.Steps.{Each-first, Each-second, Each-unmap, Each-both, Each-weaken, Raises, Lowers, part_raising, part_lowering, part_without, whole}

-- ---- the element with the least fraction f/c
module _ {A : Type 0} (f c : A → ℤ) (Q : A → Type 0) (positive : (a : A) → Q a → pos 0 <ℤ c a) where
  abbrev pub Tight : A → A → Type 0
  Tight b s = (f b *ℤ c s) ≤ℤ (f s *ℤ c b)

  tight_refl : (a : A) → Tight a a
  tight_refl a = omega (arith, ints)

  tight_trans : (a b d : A) → Q a → Q b → Q d → Tight a b → Tight b d → Tight a d
  tight_trans a b d qa qb qd h k = fraction_trans (f a) (c a) (f b) (c b) (f d) (c d) (positive a qa) (positive b qb) (positive d qd) h k

  abbrev pub Best : A → List A → Type 0
  Best a rs = (b : A) × (Q b × (Tight b a × Each (λ s. Tight b s) rs))

  pub tightest : (a : A) (rs : List A) → Q a → Each Q rs → Best a rs
  tightest a [] qa qs = (a, (qa, (tight_refl a, tt)))
  tightest a (s ∷ rs) qa qs = ⊎_elim
      (λ h. let w = tightest a rs qa qs.1 in
      (w.0, (w.1.0, (w.1.1.0, (tight_trans w.0 a s w.1.0 qa qs.0 w.1.1.0 h, w.1.1.1)))))
      (λ h. let w = tightest s rs qs.0 qs.1 in
      (w.0, (w.1.0, (tight_trans w.0 s a w.1.0 qs.0 qa w.1.1.0 (omega (arith, ints, h)), (w.1.1.0, w.1.1.1)))))
      (le_or_lt (f a *ℤ c s) (f s *ℤ c a))

pub get-scaled : (t : ℤ) (p : List ℤ) (k : ℕ) → k < length p → get_or (scaled t p) k (pos 0) ≡ t *ℤ get_or p k (pos 0)
get-scaled t [] k h = absurd (omega arith)
get-scaled t (x ∷ xs) zero h = refl
get-scaled t (x ∷ xs) (suc k) h = get-scaled t xs k (omega arith)

pub length-scaled : (t : ℤ) (p : List ℤ) → length (scaled t p) ≡ length p
length-scaled t [] = refl
length-scaled t (x ∷ xs) = ap suc (length-scaled t xs)

-- ---- the value of a row at the lifted point
module _ (k : ℕ) (p : List ℤ) (q : ℤ) (in_range : k < length p) where
  -- what a row has at p without the variable k
  pub rest : LinearRow → ℤ
  rest r = value_at r p q +ℤ neg_ℤ (coef k r *ℤ get_or p k (pos 0))

  pub lifted : (r : LinearRow) (t v : ℤ) → value_at r (set (scaled t p) k v) (t *ℤ q) ≡ coef k r *ℤ v +ℤ t *ℤ rest r
  unfolding rest
  lifted r t v =
      let e = dot-set r.coefs (scaled t p) k v (omega (arith, length-scaled t p)) in
      let g = ap (λ x. coef k r *ℤ x) (get-scaled t p k in_range) in
      let d = dot-scaled r.coefs t p in
      let x = get_or p k (pos 0) in
      let w : t *ℤ ((dot r.coefs p +ℤ r.constant *ℤ q) +ℤ neg_ℤ (coef k r *ℤ x)) ≡ t *ℤ dot r.coefs p +ℤ r.constant *ℤ (t *ℤ q) +ℤ neg_ℤ (coef k r *ℤ (t *ℤ x))
      = ring (Var t ⊗ (Var (dot r.coefs p) ⊕ Var r.constant ⊗ Var q ⊕ Neg (Var (coef k r) ⊗ Var x))) (Var t ⊗ Var (dot r.coefs p) ⊕ Var r.constant ⊗ (Var t ⊗ Var q) ⊕ Neg (Var (coef k r) ⊗ (Var t ⊗ Var x))) (omega arith) in
      linear (dot r.coefs (set (scaled t p) k v)) (coef k r *ℤ get_or (scaled t p) k (pos 0)) (dot r.coefs (scaled t p)) (coef k r *ℤ v) (r.constant *ℤ (t *ℤ q)) (t *ℤ dot r.coefs p) (coef k r *ℤ (t *ℤ x)) _ e g d w
    where
      linear : (a b c d e f g h : ℤ) → a +ℤ b ≡ c +ℤ d → b ≡ g → c ≡ f → h ≡ f +ℤ e +ℤ neg_ℤ g → a +ℤ e ≡ d +ℤ h
      linear a b c d e f g h x y z w = omega (arith, ints)

  pair_rest : (n : ℕ) (r s : LinearRow) → length r.coefs ≡ n → length s.coefs ≡ n → value_at (paired k r s) p q ≡ coef k r *ℤ rest s +ℤ neg_ℤ (coef k s *ℤ rest r)
  unfolding rest
  pair_rest n r s lr ls =
      let x = get_or p k (pos 0) in
      value-mixed (neg_ℤ (coef k s)) r (coef k r) s p q (lr ∙ sym ls)
      ∙ ring (Neg (Var (coef k s)) ⊗ Var (value_at r p q) ⊕ Var (coef k r) ⊗ Var (value_at s p q)) (Var (coef k r) ⊗ (Var (value_at s p q) ⊕ Neg (Var (coef k s) ⊗ Var x)) ⊕ Neg (Var (coef k s) ⊗ (Var (value_at r p q) ⊕ Neg (Var (coef k r) ⊗ Var x)))) (omega arith)

-- ---- the lift
-- a scaled point of the rows in whose place k another value stands
pub record StepLift (k : ℕ) (rows : List LinearRow) (p : List ℤ) (q : ℤ) : Type 0 where
  pub t : ℤ
  pub v : ℤ
  pub positive : pos 0 <ℤ t
  pub point : IsPoint rows (set (scaled t p) k v) (t *ℤ q)

module _ (k n : ℕ) (p : List ℤ) (q : ℤ) (in_range : k < length p) (scale : pos 0 <ℤ q) (rows : List LinearRow) where
  Lifted : ℤ → ℤ → LinearRow → Type 0
  Lifted t v r = HoldsAtPoint (set (scaled t p) k v) (t *ℤ q) r

  Wide : LinearRow → Type 0
  Wide r = length r.coefs ≡ n

  -- what a row of the first part knows of the second part
  Paired : List LinearRow → LinearRow → Type 0
  Paired ss r = (pos 0 <ℤ coef k r) × (Wide r × Each (λ s. HoldsAtPoint p q (paired k r s)) ss)

  paired_all : (rs ss : List LinearRow) → Each (λ r. Raises k r × Wide r) rs → Each (HoldsAtPoint p q) (pairs k rs ss) → Each (Paired ss) rs
  unfolding Paired Wide
  paired_all [] ss h g = tt
  paired_all (r ∷ rs) ss h g = (
    (h.0.0, (h.0.1, Each-unmap (HoldsAtPoint p q) (paired k r) ss (Each-first (HoldsAtPoint p q) (map (paired k r) ss) (pairs k rs ss) g))),
    paired_all rs ss h.1 (Each-second (HoldsAtPoint p q) (map (paired k r) ss) (pairs k rs ss) g),
  )

  free_lifts : (t v : ℤ) → pos 0 <ℤ t → (r : LinearRow) → (coef k r ≡ pos 0) × HoldsAtPoint p q r → Lifted t v r
  unfolding Lifted rest
  free_lifts t v ht r h =
      let e = lifted k p q in_range r t v in
      let m = mul_nonneg t (rest k p q in_range r) (omega (arith, ints)) (free_rest h) in
      let z : coef k r *ℤ v ≡ pos 0 = ap (λ x. x *ℤ v) h.0 ∙ ring (Var (pos 0) ⊗ Var v) (Var (pos 0)) (omega arith) in
      omega (arith, ints, e, m, z)
    where
      free_rest : (coef k r ≡ pos 0) × HoldsAtPoint p q r → pos 0 ≤ℤ rest k p q in_range r
      free_rest h =
          let y : coef k r *ℤ get_or p k (pos 0) ≡ pos 0 = ap (λ x. x *ℤ get_or p k (pos 0)) h.0 ∙ ring (Var (pos 0) ⊗ Var (get_or p k (pos 0))) (Var (pos 0)) (omega arith) in
          omega (arith, ints, y, h.1)

  -- by the tightest row that raises
  raising_lifts : (b r : LinearRow) → pos 0 <ℤ coef k b → (rest k p q in_range b *ℤ coef k r) ≤ℤ (rest k p q in_range r *ℤ coef k b) → Lifted (coef k b) (neg_ℤ (rest k p q in_range b)) r
  unfolding Lifted
  raising_lifts b r hb tight =
      let e = lifted k p q in_range r (coef k b) (neg_ℤ (rest k p q in_range b)) in
      let f = rest k p q in_range b in
      let g = rest k p q in_range r in
      let w : coef k r *ℤ neg_ℤ f +ℤ coef k b *ℤ g ≡ g *ℤ coef k b +ℤ neg_ℤ (f *ℤ coef k r)
      = ring (Var (coef k r) ⊗ Neg (Var f) ⊕ Var (coef k b) ⊗ Var g) (Var g ⊗ Var (coef k b) ⊕ Neg (Var f ⊗ Var (coef k r))) (omega arith) in
      at_least _ _ _ _ e w tight
    where
      at_least : (a b c d : ℤ) → a ≡ b → b ≡ c +ℤ neg_ℤ d → d ≤ℤ c → pos 0 ≤ℤ a
      at_least a b c d x y z = omega (arith, ints)

  lowering_lifts : (b s : LinearRow) → Paired (s ∷ []) b → Wide s → Lifted (coef k b) (neg_ℤ (rest k p q in_range b)) s
  unfolding Lifted Paired Wide
  lowering_lifts b s hb ws =
      let e = lifted k p q in_range s (coef k b) (neg_ℤ (rest k p q in_range b)) in
      let g = pair_rest k p q in_range n b s hb.1.0 ws in
      let f = rest k p q in_range b in
      let h = rest k p q in_range s in
      let w : coef k s *ℤ neg_ℤ f +ℤ coef k b *ℤ h ≡ coef k b *ℤ h +ℤ neg_ℤ (coef k s *ℤ f)
      = ring (Var (coef k s) ⊗ Neg (Var f) ⊕ Var (coef k b) ⊗ Var h) (Var (coef k b) ⊗ Var h ⊕ Neg (Var (coef k s) ⊗ Var f)) (omega arith) in
      same_sign _ _ _ _ e w g hb.1.1.0
    where
      same_sign : (a b c d : ℤ) → a ≡ b → b ≡ c → d ≡ c → pos 0 ≤ℤ d → pos 0 ≤ℤ a
      same_sign a b c d x y z w = omega (arith, ints)

  -- by the tightest row that lowers, where none raises
  sinking_lifts : (b s : LinearRow) → (rest k p q in_range b *ℤ neg_ℤ (coef k s)) ≤ℤ (rest k p q in_range s *ℤ neg_ℤ (coef k b)) → Lifted (neg_ℤ (coef k b)) (rest k p q in_range b) s
  unfolding Lifted
  sinking_lifts b s tight =
      let e = lifted k p q in_range s (neg_ℤ (coef k b)) (rest k p q in_range b) in
      let f = rest k p q in_range b in
      let g = rest k p q in_range s in
      let w : coef k s *ℤ f +ℤ neg_ℤ (coef k b) *ℤ g ≡ g *ℤ neg_ℤ (coef k b) +ℤ neg_ℤ (f *ℤ neg_ℤ (coef k s))
      = ring (Var (coef k s) ⊗ Var f ⊕ Neg (Var (coef k b)) ⊗ Var g) (Var g ⊗ Neg (Var (coef k b)) ⊕ Neg (Var f ⊗ Neg (Var (coef k s)))) (omega arith) in
      at_least _ _ _ _ e w tight
    where
      at_least : (a b c d : ℤ) → a ≡ b → b ≡ c +ℤ neg_ℤ d → d ≤ℤ c → pos 0 ≤ℤ a
      at_least a b c d x y z = omega (arith, ints)

  finish : (t v : ℤ) → pos 0 <ℤ t → Each (Lifted t v) (raising k rows) → Each (Lifted t v) (lowering k rows) → Each (λ r. (coef k r ≡ pos 0) × HoldsAtPoint p q r) (without k rows) → StepLift k rows p q
  unfolding Lifted
  finish t v ht a b c =
      record { t = t; v = v; positive = ht; point = (mul_pos t q ht scale, whole k (Lifted t v) rows a b (Each-weaken (λ r. (coef k r ≡ pos 0) × HoldsAtPoint p q r) (Lifted t v) (λ r h. free_lifts t v ht r h) (without k rows) c)) }

  by_parts : (us ds : List LinearRow) → Each (λ r. Raises k r × Wide r) us → Each (λ s. Lowers k s × Wide s) ds → Each (HoldsAtPoint p q) (pairs k us ds)
      → (t : ℤ) × ((v : ℤ) × ((pos 0 <ℤ t) × (Each (Lifted t v) us × Each (Lifted t v) ds)))
  unfolding Paired Wide
  by_parts [] [] hu hd hp = (pos 1, (pos 0, (omega (arith, ints), (tt, tt))))
  by_parts [] (d ∷ ds) hu hd hp =
      let w = tightest (rest k p q in_range) (λ s. neg_ℤ (coef k s)) (λ s. Lowers k s × Wide s) (λ s h. omega (arith, ints, h.0)) d ds hd.0 hd.1 in
      let b = w.0 in (
        neg_ℤ (coef k b),
        (
          rest k p q in_range b,
          (
            omega (arith, ints, w.1.0.0),
            (
              tt,
              (
                sinking_lifts b d w.1.1.0,
                Each-weaken (Tight (rest k p q in_range) (λ s. neg_ℤ (coef k s)) (λ s. Lowers k s × Wide s) (λ s h. omega (arith, ints, h.0)) b) (Lifted (neg_ℤ (coef k b)) (rest k p q in_range b)) (λ s h. sinking_lifts b s h) ds w.1.1.1,
              ),
            ),
          ),
        ),
      )
  by_parts (u ∷ us) ds hu hd hp =
      let known = paired_all (u ∷ us) ds hu hp in
      let w = tightest (rest k p q in_range) (coef k) (Paired ds) (λ r h. h.0) u us known.0 known.1 in
      let b = w.0 in (
        coef k b,
        (
          neg_ℤ (rest k p q in_range b),
          (
            w.1.0.0,
            (
              (
                raising_lifts b u w.1.0.0 w.1.1.0,
                Each-weaken (Tight (rest k p q in_range) (coef k) (Paired ds) (λ r h. h.0) b) (Lifted (coef k b) (neg_ℤ (rest k p q in_range b))) (λ r h. raising_lifts b r w.1.0.0 h) us w.1.1.1,
              ),
              Each-both (λ s. HoldsAtPoint p q (paired k b s)) (λ s. Lowers k s × Wide s) (Lifted (coef k b) (neg_ℤ (rest k p q in_range b))) (λ s h g. lowering_lifts b s (w.1.0.0, (w.1.0.1.0, (h, tt))) g.1) ds w.1.0.1.1 hd,
            ),
          ),
        ),
      )

  pub lifts : AreWide n rows → IsPoint (plain_step k rows) p q → StepLift k rows p q
  unfolding Wide
  lifts wide point =
      let hu = part_raising k Wide rows wide in
      let hd = part_lowering k Wide rows wide in
      let flat = part_without k (λ r. Unit {0}) rows (anything rows) in
      let first = Each-first (HoldsAtPoint p q) (without k rows) (pairs k (raising k rows) (lowering k rows)) point.1 in
      let second = Each-second (HoldsAtPoint p q) (without k rows) (pairs k (raising k rows) (lowering k rows)) point.1 in
      let w = by_parts (raising k rows) (lowering k rows) hu hd second in
      finish w.0 w.1.0 w.1.1.0 w.1.1.1.0 w.1.1.1.1
      (Each-both (λ r. (coef k r ≡ pos 0) × Unit {0}) (HoldsAtPoint p q) (λ r. (coef k r ≡ pos 0) × HoldsAtPoint p q r) (λ r h g. (h.0, g)) (without k rows) flat first)
    where
      anything : (rs : List LinearRow) → Each (λ r. Unit {0}) rs
      anything [] = tt
      anything (r ∷ rs) = (tt, anything rs)
