-- The pairs of a step with their factors made small, where all numbers fit: they hold where the plain pairs do.
use Rattle.std.proofs.Common.{◌≡◌, ℕ, zero, suc, ◌/◌, ◌%◌, ◌<◌, Bool, true, false, cond, List, [], ◌∷◌, ◌++◌, map, length, Option, Some, None, Result, Ok, Err, ℤ, pos, negsuc, neg_ℤ, ◌+ℤ◌, ◌*ℤ◌, ◌≤ℤ◌, ◌<ℤ◌, unsigned_abs, refl, sym, ◌∙◌, ap, arith, subst, ◌↔◌, nat_lt}
use Rattle.std.proofs.lemmas.Int.{ints}
use Rattle.std.specs.Int.{◌∣◌}
use Rattle.std.proofs.lemmas.Nat.Gcd.{mod-eq-zero_of_dvd}
use Rattle.num_row.specs.Ints.{narrowed, combined}
use Rattle.num_row.proofs.Gcds.{gcd_of_is}
use Rattle.num_row.proofs.Narrow.{narrowed_some, combined_exact}
use Rattle.num_row.proofs.Ring.{Var, ◌⊕◌, ◌⊗◌, Neg, ring, mul_nonneg}
use Rattle.num_row.proofs.Order.{mul_cancel_right}
use Rattle.constraint_set.specs.Lists.{Each}
use Rattle.constraint_set.specs.Points.{LinearRow, value_at, HoldsAtPoint, coef, AreWide}
use Rattle.constraint_set.specs.Elimination.{Refusal, too_many, ◌>>=◌, or_wide, raising, lowering, without, mixed_by, shared, factor, pair_of, pairs_with, pairs_of, row_limit, row_count, step_by}
use Rattle.constraint_set.proofs.Dots.{mixed, mixed_row, paired, pairs, pairs as all_pairs, value-mixed}
use Rattle.constraint_set.proofs.Steps.{Each-append, Each-first, Each-second, Raises, Lowers, part_raising, part_lowering, length-mixed, get-mixed}

-- ---- steps that may be refused
pub ok_of : {A B : Type 0} (w : Result A Refusal) (f : A → Result B Refusal) (b : B) → (w >>= f) ≡ Ok b → (a : A) × ((w ≡ Ok a) × (f a ≡ Ok b))
ok_of (Ok a) f b h = (a, (refl, h))
ok_of (Err e) f b h = absurd (let x : ⊥ = cc in x)

pub some_of_wide : {A : Type 0} (o : Option A) (a : A) → or_wide o ≡ Ok a → o ≡ Some a
some_of_wide None a h = absurd (let x : ⊥ = cc in x)
some_of_wide (Some x) a h = let e : x ≡ a = cc in ap Some e

combined_is : (a x b y n : ℤ) → combined a x b y ≡ Some n → n ≡ a *ℤ x +ℤ b *ℤ y
combined_is a x b y n h = (combined_exact a x b y (Some n) (sym h)).1

mixed_is : (a : ℤ) (xs : List ℤ) (b : ℤ) (ys out : List ℤ) → mixed_by a xs b ys ≡ Ok out → out ≡ mixed a xs b ys
mixed_is a [] b ys out h = cc
mixed_is a (x ∷ xs) b [] out h = cc
mixed_is a (x ∷ xs) b (y ∷ ys) out h =
    let first = ok_of (or_wide (combined a x b y)) (λ number. mixed_by a xs b ys >>= (λ rest. Ok (number ∷ rest))) out h in
    let second = ok_of (mixed_by a xs b ys) (λ rest. Ok (first.0 ∷ rest)) out first.1.1 in
    let rest = mixed_is a xs b ys second.0 second.1.0 in
    let n = combined_is a x b y first.0 (some_of_wide (combined a x b y) first.0 first.1.0) in
    let e : first.0 ∷ second.0 ≡ out = cc in
    sym e ∙ ap (λ z. z ∷ second.0) n ∙ ap (λ zs. (a *ℤ x +ℤ b *ℤ y) ∷ zs) rest

factor_is : (x : ℤ) (g : ℕ) (a : ℤ) → factor x g ≡ Ok a → a ≡ pos (unsigned_abs x / g)
factor_is x g a h = sym (narrowed_some (pos (unsigned_abs x / g)) a (some_of_wide (narrowed (pos (unsigned_abs x / g))) a h)).0

-- the factors of a pair
abbrev pub lower_factor : ℕ → LinearRow → LinearRow → ℤ
lower_factor k p n = pos (unsigned_abs (coef k n) / shared k p n)

abbrev pub upper_factor : ℕ → LinearRow → LinearRow → ℤ
upper_factor k p n = pos (unsigned_abs (coef k p) / shared k p n)

pub pair_is : (k : ℕ) (p n row : LinearRow) → pair_of k p n ≡ Ok row → row ≡ mixed_row (lower_factor k p n) p (upper_factor k p n) n
unfolding pair_of
pair_is k p n row h =
    let one = ok_of (factor (coef k n) (shared k p n)) (λ a. factor (coef k p) (shared k p n) >>= (λ b. mixed_by a p.coefs b n.coefs >>= (λ coefs. or_wide (combined a p.constant b n.constant) >>= (λ constant. Ok (let r : LinearRow = record { coefs = coefs; constant = constant } in r))))) row h in
    let two = ok_of (factor (coef k p) (shared k p n)) (λ b. mixed_by one.0 p.coefs b n.coefs >>= (λ coefs. or_wide (combined one.0 p.constant b n.constant) >>= (λ constant. Ok (let r : LinearRow = record { coefs = coefs; constant = constant } in r)))) row one.1.1 in
    let three = ok_of (mixed_by one.0 p.coefs two.0 n.coefs) (λ coefs. or_wide (combined one.0 p.constant two.0 n.constant) >>= (λ constant. Ok (let r : LinearRow = record { coefs = coefs; constant = constant } in r))) row two.1.1 in
    let four = ok_of (or_wide (combined one.0 p.constant two.0 n.constant)) (λ constant. Ok (let r : LinearRow = record { coefs = three.0; constant = constant } in r)) row three.1.1 in
    let a = factor_is (coef k n) (shared k p n) one.0 one.1.0 in
    let b = factor_is (coef k p) (shared k p n) two.0 two.1.0 in
    let coefs = mixed_is one.0 p.coefs two.0 n.coefs three.0 three.1.0 in
    let constant = combined_is one.0 p.constant two.0 n.constant four.0 (some_of_wide (combined one.0 p.constant two.0 n.constant) four.0 four.1.0) in
    made one.0 two.0 (lower_factor k p n) (upper_factor k p n) three.0 four.0 row a b coefs constant four.1.1
  where
    made : (a b c d : ℤ) (coefs : List ℤ) (constant : ℤ) (row : LinearRow) → a ≡ c → b ≡ d → coefs ≡ mixed a p.coefs b n.coefs → constant ≡ a *ℤ p.constant +ℤ b *ℤ n.constant
        → (let w : Result LinearRow Refusal = Ok (record { coefs = coefs; constant = constant }) in w) ≡ Ok row → row ≡ mixed_row c p d n
    made a b c d coefs constant row ea eb ec ek h =
        let e : (let r : LinearRow = record { coefs = coefs; constant = constant } in r) ≡ row = cc in
        let row_of : List ℤ → ℤ → LinearRow = λ xs z. record { coefs = xs; constant = z } in
        sym e ∙ ap (λ xs. row_of xs constant) ec ∙ ap (row_of (mixed a p.coefs b n.coefs)) ek ∙ ap (λ z. mixed_row z p b n) ea ∙ ap (λ z. mixed_row c p z n) eb

-- ---- a pair holds where the plain pair does
size_exact : (g n : ℕ) → g ∣ n → pos g *ℤ pos (n / g) ≡ pos n
size_exact g n d = let e = mod-eq-zero_of_dvd g d in ap pos (omega arith)

positive_size : (x : ℤ) → pos 0 <ℤ x → pos (unsigned_abs x) ≡ x
positive_size (pos n) h = refl
positive_size (negsuc n) h = absurd h.lt

negative_size : (x : ℤ) → x <ℤ pos 0 → pos (unsigned_abs x) ≡ neg_ℤ x
negative_size (pos n) h = absurd (omega (arith, ints, h))
negative_size (negsuc n) h = refl

divides_positive : (g n : ℕ) → g ∣ n → 0 < n → 0 < g
divides_positive zero n d h = absurd (let e : n % 0 ≡ 0 = mod-eq-zero_of_dvd 0 d in let x : ⊥ = omega arith in x)
divides_positive (suc g) n d h = omega arith

module _ (k : ℕ) (p n : LinearRow) (up : Raises k p) (down : Lowers k n) where
  g : ℕ
  g = shared k p n

  lower_exact : pos g *ℤ lower_factor k p n ≡ neg_ℤ (coef k n)
  unfolding g
  lower_exact = size_exact (shared k p n) (unsigned_abs (coef k n)) (gcd_of_is (unsigned_abs (coef k p)) (unsigned_abs (coef k n))).1 ∙ negative_size (coef k n) down

  upper_exact : pos g *ℤ upper_factor k p n ≡ coef k p
  unfolding g
  upper_exact = size_exact (shared k p n) (unsigned_abs (coef k p)) (gcd_of_is (unsigned_abs (coef k p)) (unsigned_abs (coef k n))).0 ∙ positive_size (coef k p) up

  shared_positive : 0 < g
  unfolding g
  shared_positive =
      let e = positive_size (coef k p) up in
      divides_positive (shared k p n) (unsigned_abs (coef k p)) (gcd_of_is (unsigned_abs (coef k p)) (unsigned_abs (coef k n))).0 (omega (arith, ints, e, up))

  -- the plain pair is g times the pair
  value_same : (x : List ℤ) (q : ℤ) → length p.coefs ≡ length n.coefs → pos g *ℤ value_at (mixed_row (lower_factor k p n) p (upper_factor k p n) n) x q ≡ value_at (paired k p n) x q
  value_same x q e =
      let a = lower_factor k p n in
      let b = upper_factor k p n in
      let u = value_at p x q in
      let v = value_at n x q in
      ap (λ z. pos g *ℤ z) (value-mixed a p b n x q e)
      ∙ ring (Var (pos g) ⊗ (Var a ⊗ Var u ⊕ Var b ⊗ Var v)) (Var (pos g) ⊗ Var a ⊗ Var u ⊕ Var (pos g) ⊗ Var b ⊗ Var v) (omega arith)
      ∙ ap (λ z. z *ℤ u +ℤ pos g *ℤ b *ℤ v) lower_exact
      ∙ ap (λ z. neg_ℤ (coef k n) *ℤ u +ℤ z *ℤ v) upper_exact
      ∙ sym (value-mixed (neg_ℤ (coef k n)) p (coef k p) n x q e)

  pub pair_holds : (row : LinearRow) (x : List ℤ) (q : ℤ) → length p.coefs ≡ length n.coefs → pair_of k p n ≡ Ok row → HoldsAtPoint x q row ↔ HoldsAtPoint x q (paired k p n)
  pair_holds row x q e h =
      let same = pair_is k p n row h in
      let v : pos g *ℤ value_at row x q ≡ value_at (paired k p n) x q = ap (λ r. pos g *ℤ value_at r x q) same ∙ value_same x q e in
      let low = shared_positive in (
        (λ m. subst (λ z. pos 0 ≤ℤ z) v (mul_nonneg (pos g) (value_at row x q) (omega (arith, ints)) m)),
        (λ m. mul_cancel_right (pos 0) (value_at row x q) (pos g) (back (pos g) (value_at row x q) (subst (λ z. pos 0 ≤ℤ z) (sym v) m)) (omega (arith, ints, low))),
      )
    where
      back : (g v : ℤ) → pos 0 ≤ℤ (g *ℤ v) → (pos 0 *ℤ g) ≤ℤ (v *ℤ g)
      back g v m = let e : v *ℤ g ≡ g *ℤ v = ring (Var v ⊗ Var g) (Var g ⊗ Var v) (omega arith) in omega (arith, ints, e)

  pub pair_wide : (m : ℕ) (row : LinearRow) → length p.coefs ≡ m → length n.coefs ≡ m → pair_of k p n ≡ Ok row → length row.coefs ≡ m
  pair_wide m row e f h = ap (λ (r : LinearRow). length r.coefs) (pair_is k p n row h) ∙ length-mixed (lower_factor k p n) p.coefs (upper_factor k p n) n.coefs (e ∙ sym f) ∙ e

  -- the variable is cancelled
  pub pair_cancels : (row : LinearRow) → length p.coefs ≡ length n.coefs → pair_of k p n ≡ Ok row → coef k row ≡ pos 0
  pair_cancels row e h =
      let a = lower_factor k p n in
      let b = upper_factor k p n in
      ap (coef k) (pair_is k p n row h) ∙ get-mixed a p.coefs b n.coefs k e
      ∙ ap (λ z. a *ℤ z +ℤ b *ℤ coef k n) (sym upper_exact) ∙ ap (λ z. a *ℤ (pos g *ℤ b) +ℤ b *ℤ z) opposite
      ∙ ring (Var a ⊗ (Var (pos g) ⊗ Var b) ⊕ Var b ⊗ Neg (Var (pos g) ⊗ Var a)) (Var (pos 0)) (omega arith)
    where
      turn : (x y : ℤ) → x ≡ neg_ℤ y → y ≡ neg_ℤ x
      turn x y e = omega (arith, ints)

      opposite : coef k n ≡ neg_ℤ (pos g *ℤ lower_factor k p n)
      opposite = turn (pos g *ℤ lower_factor k p n) (coef k n) lower_exact

-- ---- all pairs
abbrev pub Alike : List ℤ → ℤ → List LinearRow → List LinearRow → Type 0
Alike x q rows others = Each (HoldsAtPoint x q) rows ↔ Each (HoldsAtPoint x q) others

module _ (k m : ℕ) where
  abbrev pub Up : LinearRow → Type 0
  Up r = Raises k r × (length r.coefs ≡ m)

  abbrev pub Down : LinearRow → Type 0
  Down r = Lowers k r × (length r.coefs ≡ m)

  -- what is known of the pairs that were made
  pub record Made (out plain : List LinearRow) : Type 0 where
    pub wide : AreWide m out
    pub cancelled : Each (λ r. coef k r ≡ pos 0) out
    pub alike : (x : List ℤ) (q : ℤ) → Alike x q out plain

  with_made : (p : LinearRow) (ns out : List LinearRow) → Up p → Each Down ns → pairs_with k p ns ≡ Ok out → Made out (map (paired k p) ns)
  with_made p [] out up downs h =
      subst (λ rows. Made rows []) (let e : [] ≡ out = cc in e) (record { wide = tt; cancelled = tt; alike = λ x q. ((λ m. tt), (λ m. tt)) })
  with_made p (n ∷ ns) out up downs h =
      let first = ok_of (pair_of k p n) (λ row. pairs_with k p ns >>= (λ rest. Ok (row ∷ rest))) out h in
      let second = ok_of (pairs_with k p ns) (λ rest. Ok (first.0 ∷ rest)) out first.1.1 in
      let rest = with_made p ns second.0 up downs.1 second.1.0 in
      let e : first.0 ∷ second.0 ≡ out = cc in
      let long = up.1 ∙ sym downs.0.1 in
      subst (λ rows. Made rows (map (paired k p) (n ∷ ns))) e (record {
        wide = (pair_wide k p n up.0 downs.0.0 m first.0 up.1 downs.0.1 first.1.0, rest.wide);
        cancelled = (pair_cancels k p n up.0 downs.0.0 first.0 long first.1.0, rest.cancelled);
        alike = λ x q. (let one = pair_holds k p n up.0 downs.0.0 first.0 x q long first.1.0 in
            ((λ h. (one.0 h.0, (rest.alike x q).0 h.1)), (λ h. (one.1 h.0, (rest.alike x q).1 h.1))));
      })

  joined : (a b c d : List LinearRow) → Made a c → Made b d → Made (a ++ b) (c ++ d)
  joined a b c d f s = record {
    wide = Each-append (λ r. length r.coefs ≡ m) a b f.wide s.wide;
    cancelled = Each-append (λ r. coef k r ≡ pos 0) a b f.cancelled s.cancelled;
    alike = λ x q. (
      (λ h. Each-append (HoldsAtPoint x q) c d ((f.alike x q).0 (Each-first (HoldsAtPoint x q) a b h)) ((s.alike x q).0 (Each-second (HoldsAtPoint x q) a b h))),
      (λ h. Each-append (HoldsAtPoint x q) a b ((f.alike x q).1 (Each-first (HoldsAtPoint x q) c d h)) ((s.alike x q).1 (Each-second (HoldsAtPoint x q) c d h))),
    );
  }

  pub all_made : (ps ns out : List LinearRow) → Each Up ps → Each Down ns → pairs_of k ps ns ≡ Ok out → Made out (pairs k ps ns)
  all_made [] ns out ups downs h =
      subst (λ rows. Made rows []) (let e : [] ≡ out = cc in e) (record { wide = tt; cancelled = tt; alike = λ x q. ((λ m. tt), (λ m. tt)) })
  all_made (p ∷ ps) ns out ups downs h =
      let first = ok_of (pairs_with k p ns) (λ first. pairs_of k ps ns >>= (λ rest. Ok (first ++ rest))) out h in
      let second = ok_of (pairs_of k ps ns) (λ rest. Ok (first.0 ++ rest)) out first.1.1 in
      let e : first.0 ++ second.0 ≡ out = cc in
      subst (λ rows. Made rows (pairs k (p ∷ ps) ns)) e
      (joined first.0 second.0 (map (paired k p) ns) (pairs k ps ns) (with_made p ns first.0 ups.0 downs first.1.0) (all_made ps ns second.0 ups.1 downs second.1.0))

-- ---- a step
module _ (m : ℕ) (tidy : List LinearRow → List LinearRow) where
  -- the rows that a step leaves, before they are tidied
  pub record StepMade (k : ℕ) (rows out : List LinearRow) : Type 0 where
    pub pairs : List LinearRow
    pub tidied : out ≡ tidy (without k rows ++ pairs)
    pub run : pairs_of k (raising k rows) (lowering k rows) ≡ Ok pairs
    pub made : Made k m pairs (all_pairs k (raising k rows) (lowering k rows))

  pub step_made : (k : ℕ) (rows out : List LinearRow) → AreWide m rows → step_by tidy k rows ≡ Ok out → StepMade k rows out
  step_made k rows out wide h = by (nat_lt row_limit (row_count k rows)) h
    where
      by : (b : Bool) → cond b (Err too_many) (pairs_of k (raising k rows) (lowering k rows) >>= (λ ps. Ok (tidy (without k rows ++ ps)))) ≡ Ok out → StepMade k rows out
      by true h = absurd (let x : ⊥ = cc in x)
      by false h =
          let w = ok_of (pairs_of k (raising k rows) (lowering k rows)) (λ ps. Ok (tidy (without k rows ++ ps))) out h in
          let e : tidy (without k rows ++ w.0) ≡ out = cc in
          record { pairs = w.0; tidied = sym e; run = w.1.0; made = all_made k m (raising k rows) (lowering k rows) w.0 (part_raising k (λ r. length r.coefs ≡ m) rows wide) (part_lowering k (λ r. length r.coefs ≡ m) rows wide) w.1.0 }
