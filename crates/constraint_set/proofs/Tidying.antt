-- Tidying changes no scaled point.
use Rattle.std.proofs.Common.{◌≡◌, ℕ, zero, suc, ◌*◌, ◌/◌, ◌%◌, ◌<◌, Bool, true, false, cond, not, List, [], ◌∷◌, map, length, ℤ, pos, negsuc, neg_ℤ, ◌+ℤ◌, ◌*ℤ◌, ◌≤ℤ◌, ◌<ℤ◌, refl, sym, ◌∙◌, ap, arith, subst, int_eq, int_lt, unsigned_abs, int_div, ◌↔◌}
use Rattle.std.proofs.lemmas.Int.{ints}
use Rattle.std.specs.Int.{int_min, ◌∣◌}
use Rattle.std.specs.Cmp.Rules.{signed_items}
use Rattle.std.proofs.lemmas.Nat.Gcd.{mod-eq-zero_of_dvd}
use Rattle.std.proofs.lemmas.List.{length-map}
use Rattle.num_row.specs.Divisors.{gcd_of}
use Rattle.num_row.proofs.Gcds.{gcd_of_is, gcd_of_unique}
use Rattle.num_row.proofs.Ring.{Var, ◌⊕◌, ◌⊗◌, Neg, ring, mul_nonneg}
use Rattle.num_row.proofs.Order.{mul_cancel_right, mul_le_right}
use Rattle.constraint_set.specs.Lists.{Each}
use Rattle.constraint_set.specs.Points.{LinearRow, dot, value_at, HoldsAtPoint, IsPoint, AreWide}
use Rattle.constraint_set.specs.Tidy.{all_zero, is_idle, divisor, divisor_from, divided, reduced, same_coefs, added, merged, tidied}
use Rattle.std.proofs.Math.Nat.{one-dvd}
use Rattle.std.proofs.lemmas.Nat.Gcd.{dvd_refl, dvd_trans}
use Rattle.std.proofs.lemmas.Bool.{and_from, and_parts}
use Rattle.std.proofs.lemmas.Bool.Decides.{Decides-int_eq}
use Rattle.constraint_set.proofs.Tables.{added_each}

exact : (g : ℕ) (x : ℤ) → g ∣ unsigned_abs x → pos g *ℤ int_div x (pos g) ≡ x
exact g (pos n) d = let e = mod-eq-zero_of_dvd g d in ap pos (omega arith)
exact g (negsuc n) d =
    let e = mod-eq-zero_of_dvd g d in
    ring (Var (pos g) ⊗ Neg (Var (pos (suc n / g)))) (Neg (Var (pos (g * (suc n / g))))) (omega arith) ∙ ap (λ m. neg_ℤ (pos m)) (let f : g * (suc n / g) ≡ suc n = omega arith in f)

dot-divided : (g : ℕ) (xs p : List ℤ) → Each (λ x. g ∣ unsigned_abs x) xs → pos g *ℤ dot (map (λ x. int_div x (pos g)) xs) p ≡ dot xs p
dot-divided g [] p h = ring (Var (pos g) ⊗ Var (pos 0)) (Var (pos 0)) (omega arith)
dot-divided g (x ∷ xs) [] h = ring (Var (pos g) ⊗ Var (pos 0)) (Var (pos 0)) (omega arith)
dot-divided g (x ∷ xs) (p ∷ ps) h =
    ring (Var (pos g) ⊗ (Var (int_div x (pos g)) ⊗ Var p ⊕ Var (dot (map (λ x. int_div x (pos g)) xs) ps))) (Var (pos g) ⊗ Var (int_div x (pos g)) ⊗ Var p ⊕ Var (pos g) ⊗ Var (dot (map (λ x. int_div x (pos g)) xs) ps)) (omega arith)
    ∙ ap (λ y. y *ℤ p +ℤ pos g *ℤ dot (map (λ x. int_div x (pos g)) xs) ps) (exact g x h.0)
    ∙ ap (λ y. x *ℤ p +ℤ y) (dot-divided g xs ps h.1)

value-divided : (g : ℕ) (r : LinearRow) (p : List ℤ) (q : ℤ) → Each (λ x. g ∣ unsigned_abs x) r.coefs → g ∣ unsigned_abs r.constant → pos g *ℤ value_at (divided g r) p q ≡ value_at r p q
value-divided g r p q h k =
    ring (Var (pos g) ⊗ (Var (dot (divided g r).coefs p) ⊕ Var (int_div r.constant (pos g)) ⊗ Var q)) (Var (pos g) ⊗ Var (dot (divided g r).coefs p) ⊕ Var (pos g) ⊗ Var (int_div r.constant (pos g)) ⊗ Var q) (omega arith)
    ∙ ap (λ y. y +ℤ pos g *ℤ int_div r.constant (pos g) *ℤ q) (dot-divided g r.coefs p h)
    ∙ ap (λ y. dot r.coefs p +ℤ y *ℤ q) (exact g r.constant k)

-- a row divided by a common divisor holds at the same scaled points
pub divided_holds : (g : ℕ) (r : LinearRow) (p : List ℤ) (q : ℤ) → 0 < g → Each (λ x. g ∣ unsigned_abs x) r.coefs → g ∣ unsigned_abs r.constant → HoldsAtPoint p q (divided g r) ↔ HoldsAtPoint p q r
divided_holds g r p q low h k =
    let e = value-divided g r p q h k in (
      (λ m. subst (λ z. pos 0 ≤ℤ z) e (mul_nonneg (pos g) (value_at (divided g r) p q) (omega (arith, ints)) m)),
      (λ m. mul_cancel_right (pos 0) (value_at (divided g r) p q) (pos g) (back (value_at (divided g r) p q) (subst (λ z. pos 0 ≤ℤ z) (sym e) m)) (omega (arith, ints))),
    )
  where
    back : (v : ℤ) → pos 0 ≤ℤ (pos g *ℤ v) → (pos 0 *ℤ pos g) ≤ℤ (v *ℤ pos g)
    back v m = omega (arith, ints)

-- ---- one row for each list of coefficients
module _ (p : List ℤ) (q : ℤ) (scale : pos 0 <ℤ q) where
  abbrev Holds : LinearRow → Type 0
  Holds = HoldsAtPoint p q

  greater_holds : (xs : List ℤ) (c d : ℤ) → c ≤ℤ d → Holds (record { coefs = xs; constant = c }) → Holds (record { coefs = xs; constant = d })
  greater_holds xs c d h m = let k = mul_le_right c d q h (omega (arith, ints)) in omega (arith, ints)

  least_holds : (xs : List ℤ) (c d : ℤ) → Holds (record { coefs = xs; constant = int_min c d }) ↔ (Holds (record { coefs = xs; constant = c }) × Holds (record { coefs = xs; constant = d }))
  least_holds xs c d = by (int_lt d c) refl
    where
      by : (b : Bool) → int_lt d c ≡ b → Holds (record { coefs = xs; constant = cond b d c }) ↔ (Holds (record { coefs = xs; constant = c }) × Holds (record { coefs = xs; constant = d }))
      by true e = ((λ m. (greater_holds xs d c (omega (arith, ints, e)) m, m)), (λ m. m.1))
      by false e = ((λ m. (m, greater_holds xs c d (omega (arith, ints, e)) m)), (λ m. m.0))

  added_by : (r s : LinearRow) (ss : List LinearRow) → (Each Holds (added ss r) ↔ (Each Holds ss × Holds r)) → (b : Bool) → same_coefs r.coefs s.coefs ≡ b
      → Each Holds (cond b (record { coefs = s.coefs; constant = int_min s.constant r.constant } ∷ ss) (s ∷ added ss r)) ↔ ((Holds s × Each Holds ss) × Holds r)
  added_by r s ss rec true e =
      let f = (signed_items r.coefs s.coefs).0 e in
      let l = least_holds s.coefs s.constant r.constant in (
        (λ m. let w = l.0 m.0 in ((w.0, m.1), subst (λ xs. Holds (record { coefs = xs; constant = r.constant })) (sym f) w.1)),
        (λ m. (l.1 (m.0.0, subst (λ xs. Holds (record { coefs = xs; constant = r.constant })) f m.1), m.0.1)),
      )
  added_by r s ss rec false e = (
    (λ m. let w = rec.0 m.1 in ((m.0, w.0), w.1)),
    (λ m. (m.0.0, rec.1 (m.0.1, m.1))),
  )

  -- the rows with one more hold exactly where the rows and that one do
  pub added_holds : (ss : List LinearRow) (r : LinearRow) → Each Holds (added ss r) ↔ (Each Holds ss × Holds r)
  added_holds [] r = ((λ m. (tt, m.0)), (λ m. (m.1, tt)))
  added_holds (s ∷ ss) r = added_by r s ss (added_holds ss r) (same_coefs r.coefs s.coefs) refl

-- ---- a row that says nothing
zeros_dot : (cs p : List ℤ) → all_zero cs ≡ true → dot cs p ≡ pos 0
zeros_dot [] p h = refl
zeros_dot (c ∷ cs) [] h = refl
zeros_dot (c ∷ cs) (x ∷ xs) h =
    let parts = and_parts (int_eq c (pos 0)) (all_zero cs) h in
    let e = (Decides-int_eq c (pos 0)).0 parts.0 in
    let rest = zeros_dot cs xs parts.1 in
    ap (λ z. z *ℤ x +ℤ dot cs xs) e ∙ ap (λ z. pos 0 *ℤ x +ℤ z) rest ∙ ring (Var (pos 0) ⊗ Var x ⊕ Var (pos 0)) (Var (pos 0)) (omega arith)

idle_holds : (r : LinearRow) (p : List ℤ) (q : ℤ) → pos 0 <ℤ q → is_idle r ≡ true → HoldsAtPoint p q r
idle_holds r p q scale h =
    let parts = and_parts (all_zero r.coefs) (not (int_lt r.constant (pos 0))) h in
    let low : pos 0 ≤ℤ r.constant = not_negative r.constant parts.1 in
    let m = mul_nonneg r.constant q low (omega (arith, ints)) in
    let z = zeros_dot r.coefs p parts.0 in
    omega (arith, ints, m, z)
  where
    not_negative : (c : ℤ) → not (int_lt c (pos 0)) ≡ true → pos 0 ≤ℤ c
    not_negative c e = by (int_lt c (pos 0)) refl e
      where
        by : (b : Bool) → int_lt c (pos 0) ≡ b → not b ≡ true → pos 0 ≤ℤ c
        by true f e = absurd (let x : ⊥ = cc in x)
        by false f e = omega (arith, ints, f)

-- ---- the divisor of a row
divides_all : (g : ℕ) (xs : List ℤ) → (divisor_from g xs ∣ g) × Each (λ x. divisor_from g xs ∣ unsigned_abs x) xs
divides_all g [] = (dvd_refl g, tt)
divides_all g (x ∷ xs) =
    let h = gcd_of_is g (unsigned_abs x) in
    let rest = divides_all (gcd_of g (unsigned_abs x)) xs in
    let d = divisor_from (gcd_of g (unsigned_abs x)) xs in
    (dvd_trans d rest.0 h.0, (dvd_trans d rest.0 h.1, rest.1))

zero_divides : (n : ℕ) → 0 ∣ n → n ≡ 0
zero_divides n d = let e : n % 0 ≡ 0 = mod-eq-zero_of_dvd 0 d in omega arith

size_zero : (x : ℤ) → unsigned_abs x ≡ 0 → x ≡ pos 0
size_zero (pos n) e = ap pos e
size_zero (negsuc n) e = absurd (omega arith)

zeros : (xs : List ℤ) → Each (λ x. 0 ∣ unsigned_abs x) xs → all_zero xs ≡ true
zeros [] h = refl
zeros (x ∷ xs) h = and_from (int_eq x (pos 0)) (all_zero xs) ((Decides-int_eq x (pos 0)).1 (size_zero x (zero_divides (unsigned_abs x) h.0))) (zeros xs h.1)

divisor_divides : (r : LinearRow) → (divisor r ∣ unsigned_abs r.constant) × Each (λ x. divisor r ∣ unsigned_abs x) r.coefs
divisor_divides r = divides_all (unsigned_abs r.constant) r.coefs

-- a row that says something has a number other than 0
pub divisor_positive : (r : LinearRow) → is_idle r ≡ false → 0 < divisor r
divisor_positive r h = by (divisor r) refl
  where
    idle : divisor r ≡ 0 → is_idle r ≡ true
    idle e =
        let d = divisor_divides r in
        let c = size_zero r.constant (zero_divides (unsigned_abs r.constant) (subst (λ g. g ∣ unsigned_abs r.constant) e d.0)) in
        and_from (all_zero r.coefs) (not (int_lt r.constant (pos 0))) (zeros r.coefs (subst (λ g. Each (λ x. g ∣ unsigned_abs x) r.coefs) e d.1)) (ap (λ z. not (int_lt z (pos 0))) c)

    by : (g : ℕ) → divisor r ≡ g → 0 < divisor r
    by zero e = absurd (let f = idle e in let x : ⊥ = cc in x)
    by (suc g) e = omega (arith, e)

-- ---- the rules together
module _ (p : List ℤ) (q : ℤ) (scale : pos 0 <ℤ q) where
  reduced_by : (r : LinearRow) (rs : List LinearRow) → Each (HoldsAtPoint p q) (reduced rs) ↔ Each (HoldsAtPoint p q) rs → (b : Bool) → is_idle r ≡ b
      → Each (HoldsAtPoint p q) (cond b (reduced rs) (divided (divisor r) r ∷ reduced rs)) ↔ Each (HoldsAtPoint p q) (r ∷ rs)
  reduced_by r rs rec true e = ((λ m. (idle_holds r p q scale e, rec.0 m)), (λ m. rec.1 m.1))
  reduced_by r rs rec false e =
      let d = divisor_divides r in
      let h = divided_holds (divisor r) r p q (divisor_positive r e) d.1 d.0 in
      ((λ m. (h.0 m.0, rec.0 m.1)), (λ m. (h.1 m.0, rec.1 m.1)))

  reduced_holds : (rs : List LinearRow) → Each (HoldsAtPoint p q) (reduced rs) ↔ Each (HoldsAtPoint p q) rs
  reduced_holds [] = ((λ m. tt), (λ m. tt))
  reduced_holds (r ∷ rs) = reduced_by r rs (reduced_holds rs) (is_idle r) refl

  merged_holds : (kept rs : List LinearRow) → Each (HoldsAtPoint p q) (merged kept rs) ↔ (Each (HoldsAtPoint p q) kept × Each (HoldsAtPoint p q) rs)
  merged_holds kept [] = ((λ m. (m, tt)), (λ m. m.0))
  merged_holds kept (r ∷ rs) =
      let rest = merged_holds (added kept r) rs in
      let one = added_holds p q scale kept r in (
        (λ m. let w = rest.0 m in let v = one.0 w.0 in (v.0, (v.1, w.1))),
        (λ m. rest.1 (one.1 (m.0, m.1.0), m.1.1)),
      )

  tidied_holds : (rs : List LinearRow) → Each (HoldsAtPoint p q) (tidied rs) ↔ Each (HoldsAtPoint p q) rs
  unfolding tidied
  tidied_holds rs =
      let m = merged_holds [] (reduced rs) in
      let d = reduced_holds rs in
      ((λ h. d.0 (m.0 h).1), (λ h. m.1 (tt, d.1 h)))

-- tidied rows have the same scaled points
pub tidied_same : (rs : List LinearRow) (p : List ℤ) (q : ℤ) → IsPoint (tidied rs) p q ↔ IsPoint rs p q
tidied_same rs p q = ((λ h. (h.0, (tidied_holds p q h.0 rs).0 h.1)), (λ h. (h.0, (tidied_holds p q h.0 rs).1 h.1)))

-- what a division keeps of each row's coefficients, tidying keeps
module _ (P : List ℤ → Type 0) (closed : (g : ℕ) (xs : List ℤ) → P xs → P (map (λ x. int_div x (pos g)) xs)) where
  reduced_each : (rs : List LinearRow) → Each (λ r. P r.coefs) rs → Each (λ r. P r.coefs) (reduced rs)
  reduced_each [] h = tt
  reduced_each (r ∷ rs) h = by (is_idle r) (reduced_each rs h.1)
    where
      by : (b : Bool) → Each (λ r. P r.coefs) (reduced rs) → Each (λ r. P r.coefs) (cond b (reduced rs) (divided (divisor r) r ∷ reduced rs))
      by true rec = rec
      by false rec = (closed (divisor r) r.coefs h.0, rec)

  merged_each : (kept rs : List LinearRow) → Each (λ r. P r.coefs) kept → Each (λ r. P r.coefs) rs → Each (λ r. P r.coefs) (merged kept rs)
  merged_each kept [] h k = h
  merged_each kept (r ∷ rs) h k = merged_each (added kept r) rs (added_each P kept r h k.0) k.1

  pub tidied_each : (rs : List LinearRow) → Each (λ r. P r.coefs) rs → Each (λ r. P r.coefs) (tidied rs)
  unfolding tidied
  tidied_each rs h = merged_each [] (reduced rs) tt (reduced_each rs h)

pub tidied_wide : (n : ℕ) (rs : List LinearRow) → AreWide n rs → AreWide n (tidied rs)
tidied_wide n rs h = tidied_each (λ xs. length xs ≡ n) (λ g xs e. length-map xs (λ x. int_div x (pos g)) ∙ e) rs h

-- ---- the divisor 1
-- once it is 1, a common divisor stays so
pub one_divides : (xs : List ℤ) → divisor_from 1 xs ≡ 1
one_divides [] = refl
one_divides (x ∷ xs) = ap (λ g. divisor_from g xs) (sym (gcd_of_unique 1 (unsigned_abs x) 1 (dvd_refl 1, one-dvd (unsigned_abs x), λ d h k. h))) ∙ one_divides xs

by_one : (x : ℤ) → int_div x (pos 1) ≡ x
by_one (pos n) = ap pos (omega arith)
by_one (negsuc n) = ap (λ m. neg_ℤ (pos m)) (let e : suc n / 1 ≡ suc n = omega arith in e)

all_by_one : (xs : List ℤ) → map (λ x. int_div x (pos 1)) xs ≡ xs
all_by_one [] = refl
all_by_one (x ∷ xs) = ap (λ y. y ∷ map (λ x. int_div x (pos 1)) xs) (by_one x) ∙ ap (λ ys. x ∷ ys) (all_by_one xs)

-- a row divided by 1 is the row
pub divided_by_one : (r : LinearRow) → divided 1 r ≡ r
divided_by_one r =
    let row_of : List ℤ → ℤ → LinearRow = λ xs c. record { coefs = xs; constant = c } in
    ap (λ xs. row_of xs (int_div r.constant (pos 1))) (all_by_one r.coefs) ∙ ap (row_of r.coefs) (by_one r.constant)
