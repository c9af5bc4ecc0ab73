-- Over the scaled points of a place's rows every form that the place has is bounded, on both sides.
use Rattle.std.proofs.Common.{◌≡◌, ℕ, zero, suc, ◌+◌, Bool, true, false, cond, List, [], ◌∷◌, ◌++◌, length, get_or, replicate, slice_get, Option, Some, None, ℤ, pos, neg_ℤ, ◌+ℤ◌, ◌-ℤ◌, ◌*ℤ◌, ◌<ℤ◌, ◌≤ℤ◌, int_lt, refl, sym, ◌∙◌, ap, subst, arith, append_assoc, append-nil}
use Rattle.std.specs.Prelude.{unsigned_abs}
use Rattle.std.proofs.lemmas.Int.{ints, by_lt_z}
use Rattle.std.proofs.lemmas.List.{length-replicate}
use Rattle.num_row.proofs.Ring.{Var, ◌⊕◌, ◌⊗◌, Neg, ring, mul_nonneg}
use Rattle.num_row.proofs.Order.{mul_le_right, ≤ℤ_trans}
use Rattle.constraint_set.specs.Lists.{Each}
use Rattle.constraint_set.proofs.Steps.{Each-first, Each-second}
use Rattle.affine_expr.specs.declared.expr.Expr.{Expr, fold-roll-Expr, ind-Expr, map-Expr, roll-Expr}
use Rattle.affine_expr.specs.declared.expr.Expr.TheOpen.{Expr-F}
use Rattle.affine_expr.specs.declared.linear.Join.{Join}
use Rattle.affine_expr.specs.declared.linear.Join.TheVariants.{Sum, Difference}
use Rattle.affine_expr.specs.Forms.{Form, LocalForm, dot}
use Rattle.affine_expr.specs.Linear.{joined, join_forms, scale_form, number_form, floored_form, rest_form, raised, local_of, State, state, Part, divisor, scaled_by, product_by, floor_by, ceil_by, rest_by, padded, joined_by, leaf, over}
use Rattle.affine_expr.proofs.FormValues.{Gives, then, worth, IsJoin, join_forms_gives, IsScale, scale_form_gives, IsRaised, raised_gives, dot-zeros, number_long}
use Rattle.nest_domain.specs.Forms.{Formed, all_over, floor_rows, all_floor_rows}
use Rattle.affine_expr.proofs.Meaning.{padded_worth, padded_most}
use Rattle.nest_domain.proofs.Rowed.{IsMinus}

-- a quotient by c of what is at most h * y is at most |h| * y
quotient_most : (c v h y : ℤ) → pos 0 <ℤ c → pos 0 <ℤ y → (c *ℤ v) ≤ℤ (h *ℤ y) → v ≤ℤ (pos (unsigned_abs h) *ℤ y)
quotient_most c v h y hc hy l = by_lt_z (pos 0) v
    (λ up.
    let m = mul_le_right (pos 1) c v (omega (arith, ints)) (omega (arith, ints)) in
    let e : pos 1 *ℤ v ≡ v = ring (Var (pos 1) ⊗ Var v) (Var v) (omega arith) in
    let n = mul_le_right h (pos (unsigned_abs h)) y (self h) (omega (arith, ints)) in
    omega (arith, ints, m, e, n))
    (λ down. let n = mul_nonneg (pos (unsigned_abs h)) y (omega (arith, ints)) (omega (arith, ints)) in omega (arith, ints, n))
  where
    self : (h : ℤ) → h ≤ℤ pos (unsigned_abs h)
    self h = omega (arith, ints)

quotient_least : (c v h y : ℤ) → pos 0 <ℤ c → pos 0 <ℤ y → (h *ℤ y) ≤ℤ (c *ℤ v) → (neg_ℤ (pos (unsigned_abs h)) *ℤ y) ≤ℤ v
quotient_least c v h y hc hy l =
    let a : c *ℤ neg_ℤ v ≡ neg_ℤ (c *ℤ v) = ring (Var c ⊗ Neg (Var v)) (Neg (Var c ⊗ Var v)) (omega arith) in
    let b : neg_ℤ h *ℤ y ≡ neg_ℤ (h *ℤ y) = ring (Neg (Var h) ⊗ Var y) (Neg (Var h ⊗ Var y)) (omega arith) in
    let m = quotient_most c (neg_ℤ v) (neg_ℤ h) y hc hy (omega (arith, ints, a, b)) in
    let same : unsigned_abs (neg_ℤ h) ≡ unsigned_abs h = size h in
    let m2 = subst (λ n. neg_ℤ v ≤ℤ (pos n *ℤ y)) same m in
    let d : neg_ℤ (pos (unsigned_abs h)) *ℤ y ≡ neg_ℤ (pos (unsigned_abs h) *ℤ y) = ring (Neg (Var (pos (unsigned_abs h))) ⊗ Var y) (Neg (Var (pos (unsigned_abs h)) ⊗ Var y)) (omega arith) in
    omega (arith, ints, m2, d)
  where
    size : (h : ℤ) → unsigned_abs (neg_ℤ h) ≡ unsigned_abs h
    size h = omega (arith, ints)

-- ---- the value of a form at a scaled point
abbrev pub Measure : Type 0
Measure = List ℤ → ℤ → ℤ

abbrev pub at : Form → Measure
at f p y = dot f.coefs p +ℤ f.constant *ℤ y

-- the variable of a number; what no point has counts as 0
abbrev pub variable : ℕ → Measure
variable j p y = get_or p j (pos 0)

dot_none : (xs : List ℤ) → dot xs [] ≡ pos 0
dot_none [] = refl
dot_none (x ∷ xs) = refl

none_worth : (f : Form) → worth f [] ≡ f.constant
none_worth f = ap (λ z. z +ℤ f.constant) (dot_none f.coefs) ∙ zero_plus f.constant
  where
    zero_plus : (a : ℤ) → pos 0 +ℤ a ≡ a
    zero_plus a = omega (arith, ints)

-- from the value at scale 1 to that at any scale
pub at_worth : (f : Form) (p : List ℤ) (y : ℤ) → at f p y ≡ (worth f p -ℤ worth f []) +ℤ worth f [] *ℤ y
at_worth f p y = linear (dot f.coefs p) f.constant (worth f []) (f.constant *ℤ y) (worth f [] *ℤ y) (none_worth f) (ap (λ c. c *ℤ y) (sym (none_worth f)))
  where
    linear : (d c n x z : ℤ) → n ≡ c → x ≡ z → d +ℤ x ≡ ((d +ℤ c) -ℤ n) +ℤ z
    linear d c n x z e f = omega (arith, ints, e, f)

dot_end : (xs p : List ℤ) (c : ℤ) → dot (xs ++ c ∷ []) p ≡ dot xs p +ℤ c *ℤ get_or p (length xs) (pos 0)
dot_end [] [] c = ring (Var (pos 0)) (Var (pos 0) ⊕ Var c ⊗ Var (pos 0)) (omega arith)
dot_end [] (y ∷ p) c = ring (Var c ⊗ Var y ⊕ Var (pos 0)) (Var (pos 0) ⊕ Var c ⊗ Var y) (omega arith)
dot_end (x ∷ xs) [] c = ring (Var (pos 0)) (Var (pos 0) ⊕ Var c ⊗ Var (pos 0)) (omega arith)
dot_end (x ∷ xs) (y ∷ p) c = ap (λ t. x *ℤ y +ℤ t) (dot_end xs p c) ∙ linear (x *ℤ y) (dot xs p) (c *ℤ get_or p (length xs) (pos 0))
  where
    linear : (a b d : ℤ) → a +ℤ (b +ℤ d) ≡ (a +ℤ b) +ℤ d
    linear a b d = omega (arith, ints)

pub minus_same : (f g h : Form) → IsMinus f g h → (p : List ℤ) (y : ℤ) → at h p y ≡ at f p y -ℤ at g p y
minus_same f g h m p y =
    at_worth h p y ∙ (λ i. (m.same p i -ℤ m.same [] i) +ℤ m.same [] i *ℤ y)
    ∙ linear (worth f p) (worth g p) (worth f []) (worth g []) (worth f [] *ℤ y) (worth g [] *ℤ y) ((worth f [] -ℤ worth g []) *ℤ y) (apart (worth f []) (worth g []))
    ∙ (λ i. sym (at_worth f p y) i -ℤ sym (at_worth g p y) i)
  where
    apart : (a b : ℤ) → (a -ℤ b) *ℤ y ≡ a *ℤ y -ℤ b *ℤ y
    apart a b =
        let e : a -ℤ b ≡ a +ℤ neg_ℤ b = omega (arith, ints) in
        let r : (a +ℤ neg_ℤ b) *ℤ y ≡ a *ℤ y +ℤ neg_ℤ (b *ℤ y) = ring ((Var a ⊕ Neg (Var b)) ⊗ Var y) (Var a ⊗ Var y ⊕ Neg (Var b ⊗ Var y)) (omega arith) in
        ap (λ z. z *ℤ y) e ∙ r ∙ back (a *ℤ y) (b *ℤ y)
      where
        back : (u v : ℤ) → u +ℤ neg_ℤ v ≡ u -ℤ v
        back u v = omega (arith, ints)

    linear : (a b c d u v w : ℤ) → w ≡ u -ℤ v → ((a -ℤ b) -ℤ (c -ℤ d)) +ℤ w ≡ ((a -ℤ c) +ℤ u) -ℤ ((b -ℤ d) +ℤ v)
    linear a b c d u v w e = omega (arith, ints, e)

join_same : (w : Join) (f g h : Form) → IsJoin w f g h → (p : List ℤ) (y : ℤ) → at h p y ≡ joined w (at f p y) (at g p y)
join_same Sum f g h j p y =
    at_worth h p y ∙ (λ i. (j.same p i -ℤ j.same [] i) +ℤ j.same [] i *ℤ y)
    ∙ linear (worth f p) (worth g p) (worth f []) (worth g []) (worth f [] *ℤ y) (worth g [] *ℤ y) ((worth f [] +ℤ worth g []) *ℤ y) (ring ((Var (worth f []) ⊕ Var (worth g [])) ⊗ Var y) (Var (worth f []) ⊗ Var y ⊕ Var (worth g []) ⊗ Var y) (omega arith))
    ∙ (λ i. sym (at_worth f p y) i +ℤ sym (at_worth g p y) i)
  where
    linear : (a b c d u v w : ℤ) → w ≡ u +ℤ v → ((a +ℤ b) -ℤ (c +ℤ d)) +ℤ w ≡ ((a -ℤ c) +ℤ u) +ℤ ((b -ℤ d) +ℤ v)
    linear a b c d u v w e = omega (arith, ints, e)
join_same Difference f g h j p y = minus_same f g h (record { same = j.same; short = λ n a b. omega (arith, j.long, b) }) p y

scale_same : (k : ℤ) (f h : Form) → IsScale k f h → (p : List ℤ) (y : ℤ) → at h p y ≡ k *ℤ at f p y
scale_same k f h m p y =
    at_worth h p y ∙ (λ i. (m.same p i -ℤ m.same [] i) +ℤ m.same [] i *ℤ y)
    ∙ ap (λ z. z +ℤ k *ℤ worth f [] *ℤ y) (minus_is_plus (k *ℤ worth f p) (k *ℤ worth f []))
    ∙ ring (Var k ⊗ Var (worth f p) ⊕ Neg (Var k ⊗ Var (worth f [])) ⊕ Var k ⊗ Var (worth f []) ⊗ Var y) (Var k ⊗ (Var (worth f p) ⊕ Neg (Var (worth f [])) ⊕ Var (worth f []) ⊗ Var y)) (omega arith)
    ∙ ap (λ z. k *ℤ (z +ℤ worth f [] *ℤ y)) (sym (minus_is_plus (worth f p) (worth f [])))
    ∙ ap (λ z. k *ℤ z) (sym (at_worth f p y))
  where
    minus_is_plus : (a b : ℤ) → a -ℤ b ≡ a +ℤ neg_ℤ b
    minus_is_plus a b = omega (arith, ints)

pub padded_same : (n : ℕ) (f : Form) (p : List ℤ) (y : ℤ) → at (padded n f) p y ≡ at f p y
padded_same n f p y = at_worth (padded n f) p y ∙ (λ i. (padded_worth n f p i -ℤ padded_worth n f [] i) +ℤ padded_worth n f [] i *ℤ y) ∙ sym (at_worth f p y)

raised_same : (c : ℤ) (f h : Form) → IsRaised c f h → (p : List ℤ) (y : ℤ) → at h p y ≡ at f p y +ℤ (c -ℤ pos 1) *ℤ y
raised_same c f h m p y =
    at_worth h p y ∙ (λ i. (m.same p i -ℤ m.same [] i) +ℤ m.same [] i *ℤ y)
    ∙ linear (worth f p) (worth f []) (c -ℤ pos 1) (worth f [] *ℤ y) ((c -ℤ pos 1) *ℤ y) ((worth f [] +ℤ (c -ℤ pos 1)) *ℤ y) (ring ((Var (worth f []) ⊕ Var (c -ℤ pos 1)) ⊗ Var y) (Var (worth f []) ⊗ Var y ⊕ Var (c -ℤ pos 1) ⊗ Var y) (omega arith))
    ∙ ap (λ z. z +ℤ (c -ℤ pos 1) *ℤ y) (sym (at_worth f p y))
  where
    linear : (a b d u v w : ℤ) → w ≡ u +ℤ v → ((a +ℤ d) -ℤ (b +ℤ d)) +ℤ w ≡ ((a -ℤ b) +ℤ u) +ℤ v
    linear a b d u v w e = omega (arith, ints, e)

module _ (S : List ℤ → ℤ → Type 0) (scale : (p : List ℤ) (y : ℤ) → S p y → pos 0 <ℤ y) where
  pub record Bounded (h : Measure) : Type 0 where
    pub low : ℤ
    pub high : ℤ
    pub above : (p : List ℤ) (y : ℤ) → S p y → (low *ℤ y) ≤ℤ h p y
    pub below : (p : List ℤ) (y : ℤ) → S p y → h p y ≤ℤ (high *ℤ y)

  pub b_same : (g h : Measure) → ((p : List ℤ) (y : ℤ) → g p y ≡ h p y) → Bounded h → Bounded g
  b_same g h e b = record {
    low = b.low;
    high = b.high;
    above = λ p y s. subst (λ z. (b.low *ℤ y) ≤ℤ z) (sym (e p y)) (b.above p y s);
    below = λ p y s. subst (λ z. z ≤ℤ (b.high *ℤ y)) (sym (e p y)) (b.below p y s);
  }

  pub b_number : (z : ℤ) → Bounded (λ p y. z *ℤ y)
  b_number z = record { low = z; high = z; above = λ p y s. omega (arith, ints); below = λ p y s. omega (arith, ints) }

  pub b_sum : (g h : Measure) → Bounded g → Bounded h → Bounded (λ p y. g p y +ℤ h p y)
  b_sum g h a b = record {
    low = a.low +ℤ b.low;
    high = a.high +ℤ b.high;
    above = λ p y s. lower (a.low *ℤ y) (b.low *ℤ y) _ (g p y) (h p y) (times a.low b.low y) (a.above p y s) (b.above p y s);
    below = λ p y s. upper (a.high *ℤ y) (b.high *ℤ y) _ (g p y) (h p y) (times a.high b.high y) (a.below p y s) (b.below p y s);
  }
    where
      times : (a b y : ℤ) → (a +ℤ b) *ℤ y ≡ a *ℤ y +ℤ b *ℤ y
      times a b y = ring ((Var a ⊕ Var b) ⊗ Var y) (Var a ⊗ Var y ⊕ Var b ⊗ Var y) (omega arith)

      lower : (u v w a b : ℤ) → w ≡ u +ℤ v → u ≤ℤ a → v ≤ℤ b → w ≤ℤ (a +ℤ b)
      lower u v w a b e h k = omega (arith, ints, e, h, k)

      upper : (u v w a b : ℤ) → w ≡ u +ℤ v → a ≤ℤ u → b ≤ℤ v → (a +ℤ b) ≤ℤ w
      upper u v w a b e h k = omega (arith, ints, e, h, k)

  turn_times : (k u v : ℤ) → k ≤ℤ pos 0 → u ≤ℤ v → (k *ℤ v) ≤ℤ (k *ℤ u)
  turn_times k u v h l =
      let m = mul_le_right u v (neg_ℤ k) l (omega (arith, ints, h)) in
      let a : u *ℤ neg_ℤ k ≡ neg_ℤ (k *ℤ u) = ring (Var u ⊗ Neg (Var k)) (Neg (Var k ⊗ Var u)) (omega arith) in
      let b : v *ℤ neg_ℤ k ≡ neg_ℤ (k *ℤ v) = ring (Var v ⊗ Neg (Var k)) (Neg (Var k ⊗ Var v)) (omega arith) in
      omega (arith, ints, m, a, b)

  keep_times : (k u v : ℤ) → pos 0 ≤ℤ k → u ≤ℤ v → (k *ℤ u) ≤ℤ (k *ℤ v)
  keep_times k u v h l =
      let m = mul_le_right u v k l h in
      let a : u *ℤ k ≡ k *ℤ u = ring (Var u ⊗ Var k) (Var k ⊗ Var u) (omega arith) in
      let b : v *ℤ k ≡ k *ℤ v = ring (Var v ⊗ Var k) (Var k ⊗ Var v) (omega arith) in
      omega (arith, ints, m, a, b)

  thrice : (k a y : ℤ) → (k *ℤ a) *ℤ y ≡ k *ℤ (a *ℤ y)
  thrice k a y = ring (Var k ⊗ Var a ⊗ Var y) (Var k ⊗ (Var a ⊗ Var y)) (omega arith)

  pub b_scale : (k : ℤ) (h : Measure) → Bounded h → Bounded (λ p y. k *ℤ h p y)
  b_scale k h b = by_lt_z k (pos 0)
      (λ less. record {
        low = k *ℤ b.high;
        high = k *ℤ b.low;
        above = λ p y s. subst (λ z. z ≤ℤ (k *ℤ h p y)) (sym (thrice k b.high y)) (turn_times k (h p y) (b.high *ℤ y) (omega (arith, ints, less)) (b.below p y s));
        below = λ p y s. subst (λ z. (k *ℤ h p y) ≤ℤ z) (sym (thrice k b.low y)) (turn_times k (b.low *ℤ y) (h p y) (omega (arith, ints, less)) (b.above p y s));
      })
      (λ most. record {
        low = k *ℤ b.low;
        high = k *ℤ b.high;
        above = λ p y s. subst (λ z. z ≤ℤ (k *ℤ h p y)) (sym (thrice k b.low y)) (keep_times k (b.low *ℤ y) (h p y) most (b.above p y s));
        below = λ p y s. subst (λ z. (k *ℤ h p y) ≤ℤ z) (sym (thrice k b.high y)) (keep_times k (h p y) (b.high *ℤ y) most (b.below p y s));
      })

  pub b_difference : (g h : Measure) → Bounded g → Bounded h → Bounded (λ p y. g p y -ℤ h p y)
  b_difference g h a b = b_same (λ p y. g p y -ℤ h p y) (λ p y. g p y +ℤ neg_ℤ (pos 1) *ℤ h p y) (λ p y. turned (g p y) (h p y)) (b_sum g (λ p y. neg_ℤ (pos 1) *ℤ h p y) a (b_scale (neg_ℤ (pos 1)) h b))
    where
      turned : (a b : ℤ) → a -ℤ b ≡ a +ℤ neg_ℤ (pos 1) *ℤ b
      turned a b = let e : neg_ℤ (pos 1) *ℤ b ≡ neg_ℤ b = ring (Neg (Var (pos 1)) ⊗ Var b) (Neg (Var b)) (omega arith) in omega (arith, ints, e)

  -- between two that are bounded
  pub b_between : (g h u : Measure) → Bounded g → Bounded u → ((p : List ℤ) (y : ℤ) → S p y → g p y ≤ℤ h p y) → ((p : List ℤ) (y : ℤ) → S p y → h p y ≤ℤ u p y) → Bounded h
  b_between g h u a b low high = record {
    low = a.low;
    high = b.high;
    above = λ p y s. ≤ℤ_trans (a.above p y s) (low p y s);
    below = λ p y s. ≤ℤ_trans (high p y s) (b.below p y s);
  }

  -- ---- a local, by its two rows
  local_form : LocalForm → Form
  local_form l = record { coefs = l.coefs; constant = l.constant }

  pub record FloorHolds (l : LocalForm) : Type 0 where
    pub rest : (p : List ℤ) (y : ℤ) → S p y → pos 0 ≤ℤ (at (record { coefs = l.coefs; constant = l.constant }) p y +ℤ neg_ℤ l.divisor *ℤ variable (length l.coefs) p y)
    pub top : (p : List ℤ) (y : ℤ) → S p y → pos 0 ≤ℤ (((l.divisor -ℤ pos 1) *ℤ y -ℤ at (record { coefs = l.coefs; constant = l.constant }) p y) +ℤ l.divisor *ℤ variable (length l.coefs) p y)

  b_floor : (c : ℤ) (f q : Measure) → pos 0 <ℤ c → Bounded f → ((p : List ℤ) (y : ℤ) → S p y → pos 0 ≤ℤ (f p y +ℤ neg_ℤ c *ℤ q p y)) → ((p : List ℤ) (y : ℤ) → S p y → pos 0 ≤ℤ (((c -ℤ pos 1) *ℤ y -ℤ f p y) +ℤ c *ℤ q p y)) → Bounded q
  b_floor c f q h a rest top = record {
    low = neg_ℤ (pos (unsigned_abs (a.low -ℤ (c -ℤ pos 1))));
    high = pos (unsigned_abs a.high);
    above = λ p y s. quotient_least c (q p y) (a.low -ℤ (c -ℤ pos 1)) y h (scale p y s) (lower (f p y) (c *ℤ q p y) (a.low *ℤ y) ((c -ℤ pos 1) *ℤ y) _ (apart a.low (c -ℤ pos 1) y) (a.above p y s) (top p y s));
    below = λ p y s. quotient_most c (q p y) a.high y h (scale p y s) (upper (f p y) (c *ℤ q p y) (neg_ℤ c *ℤ q p y) (a.high *ℤ y) (turn c (q p y)) (rest p y s) (a.below p y s));
  }
    where
      apart : (a b y : ℤ) → (a -ℤ b) *ℤ y ≡ a *ℤ y -ℤ b *ℤ y
      apart a b y =
          let e : a -ℤ b ≡ a +ℤ neg_ℤ b = omega (arith, ints) in
          let r : (a +ℤ neg_ℤ b) *ℤ y ≡ a *ℤ y +ℤ neg_ℤ (b *ℤ y) = ring ((Var a ⊕ Neg (Var b)) ⊗ Var y) (Var a ⊗ Var y ⊕ Neg (Var b ⊗ Var y)) (omega arith) in
          ap (λ z. z *ℤ y) e ∙ r ∙ back (a *ℤ y) (b *ℤ y)
        where
          back : (u v : ℤ) → u +ℤ neg_ℤ v ≡ u -ℤ v
          back u v = omega (arith, ints)

      turn : (c q : ℤ) → neg_ℤ c *ℤ q ≡ neg_ℤ (c *ℤ q)
      turn c q = ring (Neg (Var c) ⊗ Var q) (Neg (Var c ⊗ Var q)) (omega arith)

      lower : (f x l d w : ℤ) → w ≡ l -ℤ d → l ≤ℤ f → pos 0 ≤ℤ ((d -ℤ f) +ℤ x) → w ≤ℤ x
      lower f x l d w e a t = omega (arith, ints, e, a, t)

      upper : (f x z h : ℤ) → z ≡ neg_ℤ x → pos 0 ≤ℤ (f +ℤ z) → f ≤ℤ h → x ≤ℤ h
      upper f x z h e r b = omega (arith, ints, e, r, b)

  -- ---- expressions over bounded forms
  abbrev pub Fine : Form → Type 0
  Fine f = Bounded (at f)

  -- a form, bounded where the locals that it brought have their rows
  pub record Brings (ls : List LocalForm) (st : State) : Type 0 where
    pub more : List LocalForm
    pub grown : st.locals ≡ ls ++ more
    pub bounded : Each FloorHolds more → Fine st.form

  abbrev pub Boundable : Part → Type 0
  Boundable a = (ls : List LocalForm) → Gives (a.form ls) (Brings ls)

  same_brings : (ls : List LocalForm) (f : Form) → Fine f → Brings ls (state f ls)
  same_brings ls f b = record { more = []; grown = sym (append-nil ls); bounded = λ h. b }

  pub number_fine : (n : ℕ) (z : ℤ) → Fine (number_form n z)
  unfolding number_form
  number_fine n z = b_same (at (number_form n z)) (λ p y. z *ℤ y) (λ p y. ap (λ t. t +ℤ z *ℤ y) (dot-zeros n p) ∙ zero_plus (z *ℤ y)) (b_number z)
    where
      zero_plus : (a : ℤ) → pos 0 +ℤ a ≡ a
      zero_plus a = omega (arith, ints)

  pub padded_fine : (n : ℕ) (f : Form) → Fine f → Fine (padded n f)
  padded_fine n f b = b_same (at (padded n f)) (at f) (padded_same n f) b

  join_fine : (w : Join) (f g h : Form) → IsJoin w f g h → Fine f → Fine g → Fine h
  join_fine Sum f g h j a b = b_same (at h) (λ p y. at f p y +ℤ at g p y) (join_same Sum f g h j) (b_sum (at f) (at g) a b)
  join_fine Difference f g h j a b = b_same (at h) (λ p y. at f p y -ℤ at g p y) (join_same Difference f g h j) (b_difference (at f) (at g) a b)

  pub minus_fine : (f g h : Form) → IsMinus f g h → Fine f → Fine g → Fine h
  minus_fine f g h m a b = b_same (at h) (λ p y. at f p y -ℤ at g p y) (minus_same f g h m) (b_difference (at f) (at g) a b)

  raised_fine : (c : ℤ) (f h : Form) → IsRaised c f h → Fine f → Fine h
  raised_fine c f h m a = b_same (at h) (λ p y. at f p y +ℤ (c -ℤ pos 1) *ℤ y) (raised_same c f h m) (b_sum (at f) (λ p y. (c -ℤ pos 1) *ℤ y) a (b_number (c -ℤ pos 1)))

  -- the local of a floor
  variable_fine : (f : Form) (c : ℤ) → pos 0 <ℤ c → Fine f → FloorHolds (local_of f c) → Bounded (variable (length f.coefs))
  variable_fine f c h b l = b_floor c (at f) (variable (length f.coefs)) h b l.rest l.top

  floored_fine : (f : Form) (c : ℤ) (ls : List LocalForm) → pos 0 <ℤ c → Fine f → FloorHolds (local_of f c) → Fine (floored_form f c ls).form
  unfolding floored_form
  floored_fine f c ls h b l = b_same (at (floored_form f c ls).form) (variable (length f.coefs)) same (variable_fine f c h b l)
    where
      one : (a b : ℤ) → a ≡ pos 0 → (a +ℤ pos 1 *ℤ b) +ℤ pos 0 *ℤ b ≡ b
      one a b e = let r : pos 1 *ℤ b ≡ b = ring (Var (pos 1) ⊗ Var b) (Var b) (omega arith) in let z : pos 0 *ℤ b ≡ pos 0 = ring (Var (pos 0) ⊗ Var b) (Var (pos 0)) (omega arith) in omega (arith, ints, e, r, z)

      nothing : (y b : ℤ) → pos 0 *ℤ y ≡ pos 0 *ℤ b
      nothing y b = ring (Var (pos 0) ⊗ Var y) (Var (pos 0) ⊗ Var b) (omega arith)

      long : length (replicate (length f.coefs) (pos 0)) ≡ length f.coefs
      long = length-replicate (length f.coefs) (pos 0)

      same : (p : List ℤ) (y : ℤ) → dot (replicate (length f.coefs) (pos 0) ++ pos 1 ∷ []) p +ℤ pos 0 *ℤ y ≡ get_or p (length f.coefs) (pos 0)
      same p y = ap (λ t. t +ℤ pos 0 *ℤ y) (dot_end (replicate (length f.coefs) (pos 0)) p (pos 1) ∙ ap (λ n. dot (replicate (length f.coefs) (pos 0)) p +ℤ pos 1 *ℤ get_or p n (pos 0)) long)
          ∙ ap (λ t. (dot (replicate (length f.coefs) (pos 0)) p +ℤ pos 1 *ℤ get_or p (length f.coefs) (pos 0)) +ℤ t) (nothing y (get_or p (length f.coefs) (pos 0)))
          ∙ one (dot (replicate (length f.coefs) (pos 0)) p) (get_or p (length f.coefs) (pos 0)) (dot-zeros (length f.coefs) p)

  rest_fine : (f : Form) (c : ℤ) (ls : List LocalForm) → pos 0 <ℤ c → Fine f → FloorHolds (local_of f c) → Fine (rest_form f c ls).form
  unfolding rest_form
  rest_fine f c ls h b l = b_same (at (rest_form f c ls).form) (λ p y. at f p y +ℤ neg_ℤ c *ℤ variable (length f.coefs) p y) same
      (b_sum (at f) (λ p y. neg_ℤ c *ℤ variable (length f.coefs) p y) b (b_scale (neg_ℤ c) (variable (length f.coefs)) (variable_fine f c h b l)))
    where
      swap : (d k x : ℤ) → (d +ℤ k) +ℤ x ≡ (d +ℤ x) +ℤ k
      swap d k x = omega (arith, ints)

      same : (p : List ℤ) (y : ℤ) → dot (f.coefs ++ neg_ℤ c ∷ []) p +ℤ f.constant *ℤ y ≡ (dot f.coefs p +ℤ f.constant *ℤ y) +ℤ neg_ℤ c *ℤ get_or p (length f.coefs) (pos 0)
      same p y = ap (λ t. t +ℤ f.constant *ℤ y) (dot_end f.coefs p (neg_ℤ c)) ∙ swap (dot f.coefs p) (neg_ℤ c *ℤ get_or p (length f.coefs) (pos 0)) (f.constant *ℤ y)

  brings_further : (a b c m n : List LocalForm) → b ≡ a ++ m → c ≡ b ++ n → c ≡ a ++ (m ++ n)
  brings_further a b c m n e f = f ∙ ap (λ x. x ++ n) e ∙ append_assoc a m n

  join_boundable : (w : Join) (a b : Part) → Boundable a → Boundable b → (ls : List LocalForm) → Gives (joined_by w a b ls) (Brings ls)
  join_boundable w a b h k ls = then (a.form ls) _ (Brings ls) (Brings ls) (h ls) (λ f gf.
      then (b.form f.locals) _ (Brings f.locals) (Brings ls) (k f.locals) (λ g gg.
      let second = padded (length f.form.coefs) g.form in
      then (join_forms w f.form second) _ (IsJoin w f.form second) (Brings ls) (join_forms_gives w f.form second (padded_most (length f.form.coefs) g.form)) (λ t j. record {
        more = gf.more ++ gg.more;
        grown = brings_further ls f.locals g.locals gf.more gg.more gf.grown gg.grown;
        bounded = λ e. join_fine w f.form second t j (gf.bounded (Each-first FloorHolds gf.more gg.more e)) (padded_fine (length f.form.coefs) g.form (gg.bounded (Each-second FloorHolds gf.more gg.more e)));
      })))

  scale_boundable : (k : ℤ) (a : Part) → Boundable a → (ls : List LocalForm) → Gives (scaled_by k a ls) (Brings ls)
  scale_boundable k a h ls = then (a.form ls) _ (Brings ls) (Brings ls) (h ls) (λ f gf.
      then (scale_form k f.form) _ (IsScale k f.form) (Brings ls) (scale_form_gives k f.form) (λ t m. record {
        more = gf.more;
        grown = gf.grown;
        bounded = λ e. b_same (at t) (λ p y. k *ℤ at f.form p y) (scale_same k f.form t m) (b_scale k (at f.form) (gf.bounded e));
      }))

  -- a divisor is positive
  abbrev IsDivisor : Option ℤ → Type 0
  IsDivisor None = Unit {0}
  IsDivisor (Some c) = pos 0 <ℤ c

  divisor_is : (x : Option ℤ) → IsDivisor (divisor x)
  divisor_is None = tt
  divisor_is (Some c) = by (int_lt (pos 0) c) refl
    where
      by : (b : Bool) → int_lt (pos 0) c ≡ b → IsDivisor (cond b (Some c) None)
      by true e = omega (arith, ints, e)
      by false e = tt

  product_boundable : (a b : Part) → Boundable a → Boundable b → (x y : Option ℤ) (ls : List LocalForm) → Gives (product_by a b x y ls) (Brings ls)
  product_boundable a b h k x (Some c) ls = scale_boundable c a h ls
  product_boundable a b h k (Some c) None ls = scale_boundable c b k ls
  product_boundable a b h k None None ls = tt

  last_floor : (more : List LocalForm) (l : LocalForm) → Each FloorHolds (more ++ l ∷ []) → FloorHolds l
  last_floor more l h = (Each-second FloorHolds more (l ∷ []) h).0

  floored_brings : (f : Form) (c : ℤ) (ls ms more : List LocalForm) → ms ≡ ls ++ more → pos 0 <ℤ c → (Each FloorHolds more → Fine f) → Brings ls (floored_form f c ms)
  unfolding floored_form
  floored_brings f c ls ms more e p b = record {
    more = more ++ local_of f c ∷ [];
    grown = ap (λ x. x ++ local_of f c ∷ []) e ∙ append_assoc ls more (local_of f c ∷ []);
    bounded = λ h. floored_fine f c ms p (b (Each-first FloorHolds more (local_of f c ∷ []) h)) (last_floor more (local_of f c) h);
  }

  rest_brings : (f : Form) (c : ℤ) (ls ms more : List LocalForm) → ms ≡ ls ++ more → pos 0 <ℤ c → (Each FloorHolds more → Fine f) → Brings ls (rest_form f c ms)
  unfolding rest_form
  rest_brings f c ls ms more e p b = record {
    more = more ++ local_of f c ∷ [];
    grown = ap (λ x. x ++ local_of f c ∷ []) e ∙ append_assoc ls more (local_of f c ∷ []);
    bounded = λ h. rest_fine f c ms p (b (Each-first FloorHolds more (local_of f c ∷ []) h)) (last_floor more (local_of f c) h);
  }

  floor_boundable : (a : Part) → Boundable a → (y : Option ℤ) → IsDivisor y → (ls : List LocalForm) → Gives (floor_by a y ls) (Brings ls)
  floor_boundable a h None p ls = tt
  floor_boundable a h (Some c) p ls = then (a.form ls) _ (Brings ls) (Brings ls) (h ls) (λ f gf. floored_brings f.form c ls f.locals gf.more gf.grown p gf.bounded)

  ceil_boundable : (a : Part) → Boundable a → (y : Option ℤ) → IsDivisor y → (ls : List LocalForm) → Gives (ceil_by a y ls) (Brings ls)
  ceil_boundable a h None p ls = tt
  ceil_boundable a h (Some c) p ls = then (a.form ls) _ (Brings ls) (Brings ls) (h ls) (λ f gf.
      then (raised f.form c) _ (IsRaised c f.form) (Brings ls) (raised_gives f.form c) (λ g m. floored_brings g c ls f.locals gf.more gf.grown p (λ e. raised_fine c f.form g m (gf.bounded e))))

  rest_boundable : (a : Part) → Boundable a → (y : Option ℤ) → IsDivisor y → (ls : List LocalForm) → Gives (rest_by a y ls) (Brings ls)
  rest_boundable a h None p ls = tt
  rest_boundable a h (Some c) p ls = then (a.form ls) _ (Brings ls) (Brings ls) (h ls) (λ f gf. rest_brings f.form c ls f.locals gf.more gf.grown p gf.bounded)

  leaf_boundable : (width : ℕ) (fs : List Form) (i : ℕ) → Each Fine fs → (ls : List LocalForm) → Gives (leaf width (slice_get fs i) ls) (Brings ls)
  leaf_boundable width [] i h ls = tt
  leaf_boundable width (f ∷ fs) zero h ls = same_brings ls (padded (width + length ls) f) (padded_fine (width + length ls) f h.0)
  leaf_boundable width (f ∷ fs) (suc i) h ls = leaf_boundable width fs i h.1 ls

  module _ (width : ℕ) (fs gs : List Form) (dims : Each Fine fs) (syms : Each Fine gs) where
    abbrev IsBoundable : Expr → Type 0
    IsBoundable e = Boundable (over width fs gs e)

    one_layer : (y : Expr-F ((e : Expr) × IsBoundable e)) → IsBoundable (roll-Expr (map-Expr ((e : Expr) × IsBoundable e) Expr (λ e. e.0) y))
    unfolding over
    one_layer (Expr-F.Dim n) = simp fold-roll-Expr (leaf_boundable width fs n dims)
    one_layer (Expr-F.Sym n) = simp fold-roll-Expr (leaf_boundable width gs n syms)
    one_layer (Expr-F.Const z) = simp fold-roll-Expr (λ ls. same_brings ls (number_form (width + length ls) z) (number_fine (width + length ls) z))
    one_layer (Expr-F.Neg a) = simp fold-roll-Expr (scale_boundable (neg_ℤ (pos 1)) (over width fs gs a.0) a.1)
    one_layer (Expr-F.Add a b) = simp fold-roll-Expr (join_boundable Sum (over width fs gs a.0) (over width fs gs b.0) a.1 b.1)
    one_layer (Expr-F.Sub a b) = simp fold-roll-Expr (join_boundable Difference (over width fs gs a.0) (over width fs gs b.0) a.1 b.1)
    one_layer (Expr-F.Mul a b) = simp fold-roll-Expr (product_boundable (over width fs gs a.0) (over width fs gs b.0) a.1 b.1 _ _)
    one_layer (Expr-F.FloorDiv a b) = simp fold-roll-Expr (floor_boundable (over width fs gs a.0) a.1 _ (divisor_is (over width fs gs b.0).known))
    one_layer (Expr-F.CeilDiv a b) = simp fold-roll-Expr (ceil_boundable (over width fs gs a.0) a.1 _ (divisor_is (over width fs gs b.0).known))
    one_layer (Expr-F.Mod a b) = simp fold-roll-Expr (rest_boundable (over width fs gs a.0) a.1 _ (divisor_is (over width fs gs b.0).known))

    pub over_boundable : (e : Expr) → IsBoundable e
    over_boundable = ind-Expr IsBoundable (λ x y is. subst (λ z. IsBoundable (roll-Expr z)) is (one_layer y))

  -- several forms, bounded where the locals that they brought have their rows
  pub record BringsAll (ls : List LocalForm) (n : ℕ) (st : Formed) : Type 0 where
    pub more : List LocalForm
    pub grown : st.locals ≡ ls ++ more
    pub count : length st.forms ≡ n
    pub bounded : Each FloorHolds more → Each Fine st.forms

  pub all_over_boundable : (width : ℕ) (fs gs : List Form) → Each Fine fs → Each Fine gs → (es : List Expr) (ls : List LocalForm) → Gives (all_over width fs gs es ls) (BringsAll ls (length es))
  all_over_boundable width fs gs dims syms [] ls = record { more = []; grown = sym (append-nil ls); count = refl; bounded = λ h. tt }
  all_over_boundable width fs gs dims syms (e ∷ es) ls =
      then ((over width fs gs e).form ls) _ (Brings ls) (BringsAll ls (length (e ∷ es))) (over_boundable width fs gs dims syms e ls) (λ f g.
      then (all_over width fs gs es f.locals) _ (BringsAll f.locals (length es)) (BringsAll ls (length (e ∷ es))) (all_over_boundable width fs gs dims syms es f.locals) (λ rest h. record {
        more = g.more ++ h.more;
        grown = brings_further ls f.locals rest.locals g.more h.more g.grown h.grown;
        count = ap suc h.count;
        bounded = λ k. (g.bounded (Each-first FloorHolds g.more h.more k), h.bounded (Each-second FloorHolds g.more h.more k));
      }))

  -- ---- the rows of divisions
  abbrev pub HoldsOn : Form → Type 0
  HoldsOn f = (p : List ℤ) (y : ℤ) → S p y → pos 0 ≤ℤ at f p y

  ended : (xs p : List ℤ) (c k y : ℤ) → dot (xs ++ c ∷ []) p +ℤ k *ℤ y ≡ (dot xs p +ℤ k *ℤ y) +ℤ c *ℤ get_or p (length xs) (pos 0)
  ended xs p c k y = ap (λ t. t +ℤ k *ℤ y) (dot_end xs p c) ∙ swap (dot xs p) (c *ℤ get_or p (length xs) (pos 0)) (k *ℤ y)
    where
      swap : (d k x : ℤ) → (d +ℤ k) +ℤ x ≡ (d +ℤ x) +ℤ k
      swap d k x = omega (arith, ints)

  pub number_at : (n : ℕ) (z : ℤ) (p : List ℤ) (y : ℤ) → at (number_form n z) p y ≡ z *ℤ y
  unfolding number_form
  number_at n z p y = ap (λ t. t +ℤ z *ℤ y) (dot-zeros n p) ∙ zero_plus (z *ℤ y)
    where
      zero_plus : (a : ℤ) → pos 0 +ℤ a ≡ a
      zero_plus a = omega (arith, ints)

  floor_gives : (l : LocalForm) → Gives (floor_rows l) (λ rows. Each HoldsOn rows → FloorHolds l)
  floor_gives l =
      let f : Form = record { coefs = l.coefs; constant = l.constant } in
      let top = number_form (length l.coefs) (l.divisor -ℤ pos 1) in
      then (join_forms Difference top f) _ (IsJoin Difference top f) (λ rows. Each HoldsOn rows → FloorHolds l) (join_forms_gives Difference top f (omega (arith, number_long (length l.coefs) (l.divisor -ℤ pos 1)))) (λ high j h. record {
        rest = λ p y s. subst (λ z. pos 0 ≤ℤ z) (ended l.coefs p (neg_ℤ l.divisor) l.constant y) (h.0 p y s);
        top = λ p y s. subst (λ z. pos 0 ≤ℤ z)
            (ended high.coefs p l.divisor high.constant y
            ∙ (λ i. (join_same Difference top f high j p y i) +ℤ l.divisor *ℤ get_or p (j.long i) (pos 0))
            ∙ ap (λ z. (z -ℤ at f p y) +ℤ l.divisor *ℤ get_or p (length l.coefs) (pos 0)) (number_at (length l.coefs) (l.divisor -ℤ pos 1) p y))
            (h.1.0 p y s);
      })

  pub floors_give : (ls : List LocalForm) → Gives (all_floor_rows ls) (λ rows. Each HoldsOn rows → Each FloorHolds ls)
  floors_give [] = λ h. tt
  floors_give (l ∷ ls) =
      then (floor_rows l) _ (λ rows. Each HoldsOn rows → FloorHolds l) (λ rows. Each HoldsOn rows → Each FloorHolds (l ∷ ls)) (floor_gives l) (λ rows f.
      then (all_floor_rows ls) _ (λ rows. Each HoldsOn rows → Each FloorHolds ls) (λ rows. Each HoldsOn rows → Each FloorHolds (l ∷ ls)) (floors_give ls) (λ rest g h.
      (f (Each-first HoldsOn rows rest h), g (Each-second HoldsOn rows rest h))))
