-- The numbers of the rows of steps and divisions.
use Rattle.std.proofs.Common.{◌≡◌, ◌-◌, ◌++◌, [], ◌∷◌, length, replicate, Ok, List, ℤ, pos, ◌+ℤ◌, ◌-ℤ◌, ◌*ℤ◌, ◌<ℤ◌, neg_ℤ, refl, sym, ap, subst, ◌∙◌, arith, append-nil}
use Rattle.std.proofs.lemmas.Int.{ints}
use Rattle.std.specs.Int.{int_div_euclid, int_rem_euclid}
use Rattle.num_row.proofs.Ring.{Var, ◌⊕◌, ◌⊗◌, Neg, ring}
use Rattle.num_row.proofs.Floors.{floor_rest, rest_high, rest_unique}
use Rattle.affine_expr.specs.declared.linear.Join.TheVariants.{Difference}
use Rattle.affine_expr.specs.Value.{floor_div, floor_mod}
use Rattle.affine_expr.specs.Forms.{Form, dot}
use Rattle.affine_expr.specs.Linear.{join_forms, number_form, padded, minus}
use Rattle.affine_expr.proofs.Divisions.{floor_is}
use Rattle.affine_expr.proofs.FormValues.{Gives, worth, IsJoin, join_forms_gives, number_long}
use Rattle.affine_expr.proofs.Meaning.{padded_worth, padded_most}

rest_is : (a s : ℤ) → pos 0 <ℤ s → floor_mod a s ≡ int_rem_euclid a s
unfolding floor_mod
rest_is a s h =
    let q = int_div_euclid a s in
    let turned : s *ℤ q ≡ q *ℤ s = ring (Var s ⊗ Var q) (Var q ⊗ Var s) (omega arith) in
    let e = floor_rest a s h in
    ap (λ z. a -ℤ s *ℤ z) (floor_is a s h) ∙ linear a (s *ℤ q) (q *ℤ s) (int_rem_euclid a s) turned e
  where
    linear : (a x y r : ℤ) → x ≡ y → y +ℤ r ≡ a → a -ℤ x ≡ r
    linear a x y r d e = omega (arith, ints, d, e)

-- the rest of the number before one that leaves none
pub none_left : (d s : ℤ) → pos 0 <ℤ s → int_rem_euclid d s ≡ pos 0 → s -ℤ pos 1 ≡ floor_mod (d -ℤ pos 1) s
none_left d s h e =
    let q = int_div_euclid d s in
    let turned : (q -ℤ pos 1) *ℤ s ≡ q *ℤ s -ℤ s = less q s in
    rest_unique (d -ℤ pos 1) s (s -ℤ pos 1) (q -ℤ pos 1) h (omega (arith, ints, h)) (omega (arith, ints)) (linear (q *ℤ s) ((q -ℤ pos 1) *ℤ s) turned (floor_rest d s h) e) ∙ sym (rest_is (d -ℤ pos 1) s h)
  where
    less : (q s : ℤ) → (q -ℤ pos 1) *ℤ s ≡ q *ℤ s -ℤ s
    less q s =
        let a : q -ℤ pos 1 ≡ q +ℤ neg_ℤ (pos 1) = omega (arith, ints) in
        let b : (q +ℤ neg_ℤ (pos 1)) *ℤ s ≡ q *ℤ s +ℤ neg_ℤ s = ring ((Var q ⊕ Neg (Var (pos 1))) ⊗ Var s) (Var q ⊗ Var s ⊕ Neg (Var s)) (omega arith) in
        let c : q *ℤ s +ℤ neg_ℤ s ≡ q *ℤ s -ℤ s = omega (arith, ints) in
        ap (λ z. z *ℤ s) a ∙ b ∙ c

    linear : (x y : ℤ) → y ≡ x -ℤ s → x +ℤ int_rem_euclid d s ≡ d → int_rem_euclid d s ≡ pos 0 → y +ℤ (s -ℤ pos 1) ≡ d -ℤ pos 1
    linear x y f g k = omega (arith, ints, f, g, k)

-- and of one that leaves some
pub some_left : (d s : ℤ) → pos 0 <ℤ s → pos 0 <ℤ int_rem_euclid d s → int_rem_euclid d s -ℤ pos 1 ≡ floor_mod (d -ℤ pos 1) s
some_left d s h l =
    let e = floor_rest d s h in
    let m = rest_high d s h in
    rest_unique (d -ℤ pos 1) s (int_rem_euclid d s -ℤ pos 1) (int_div_euclid d s) h (omega (arith, ints, l)) (omega (arith, ints, m)) (linear (int_div_euclid d s *ℤ s) (int_rem_euclid d s) e) ∙ sym (rest_is (d -ℤ pos 1) s h)
  where
    linear : (x r : ℤ) → x +ℤ r ≡ d → x +ℤ (r -ℤ pos 1) ≡ d -ℤ pos 1
    linear x r e = omega (arith, ints, e)

dot-none : (xs : List ℤ) → dot xs [] ≡ pos 0
dot-none [] = refl
dot-none (x ∷ xs) = refl

-- the constant of a difference
pub minus_constant : (f g h : Form) → minus f g ≡ Ok h → h.constant ≡ f.constant -ℤ g.constant
unfolding minus
minus_constant f g h e =
    let second = padded (length f.coefs) g in
    let k : IsJoin Difference f second h = subst (λ r. Gives r (IsJoin Difference f second)) e (join_forms_gives Difference f second (padded_most (length f.coefs) g)) in
    linear (dot h.coefs []) (dot f.coefs []) (dot g.coefs []) (worth second []) h.constant f.constant g.constant (dot-none h.coefs) (dot-none f.coefs) (dot-none g.coefs) (padded_worth (length f.coefs) g []) (k.same [])
  where
    linear : (a b c w x y z : ℤ) → a ≡ pos 0 → b ≡ pos 0 → c ≡ pos 0 → w ≡ c +ℤ z → a +ℤ x ≡ (b +ℤ y) -ℤ w → x ≡ y -ℤ z
    linear a b c w x y z d e f g h = omega (arith, ints, d, e, f, g, h)

-- the last turn below an upper result that lies d above the lower one
pub last_constant : (l u d s : ℤ) → d ≡ u -ℤ l → l +ℤ floor_div (d -ℤ pos 1) s *ℤ s ≡ u +ℤ (neg_ℤ (pos 1) -ℤ floor_mod (d -ℤ pos 1) s)
unfolding floor_mod
last_constant l u d s e =
    let q = floor_div (d -ℤ pos 1) s in
    let turned : s *ℤ q ≡ q *ℤ s = ring (Var s ⊗ Var q) (Var q ⊗ Var s) (omega arith) in
    linear (s *ℤ q) (q *ℤ s) turned
  where
    linear : (x y : ℤ) → x ≡ y → l +ℤ y ≡ u +ℤ (neg_ℤ (pos 1) -ℤ ((d -ℤ pos 1) -ℤ x))
    linear x y f = omega (arith, ints, e, f)

-- a number over as many variables as a form
pub padded_same : (f : Form) → padded (length f.coefs) f ≡ f
unfolding padded
padded_same f =
    let e : length f.coefs - length f.coefs ≡ 0 = omega arith in
    ap (λ cs. record { coefs = cs; constant = f.constant }) (ap (λ n. f.coefs ++ replicate n (pos 0)) e ∙ append-nil f.coefs)

pub top_of : (f : Form) (z : ℤ) → minus (number_form (length f.coefs) z) f ≡ join_forms Difference (number_form (length f.coefs) z) f
unfolding minus
top_of f z = ap (λ n. join_forms Difference (number_form (length f.coefs) z) (padded n f)) (number_long (length f.coefs) z) ∙ ap (join_forms Difference (number_form (length f.coefs) z)) (padded_same f)
