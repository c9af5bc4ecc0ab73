-- Where there is no clash, two visits have no element in both regions.
use Rattle.std.proofs.Common.{◌≡◌, ℕ, zero, suc, ◌+◌, ◌-◌, ◌<◌, ◌≤◌, Bool, true, false, cond, List, [], ◌∷◌, ◌++◌, map, take, length, get_or, set, replicate, Some, None, Result, Ok, Err, ℤ, pos, neg_ℤ, ◌+ℤ◌, ◌-ℤ◌, ◌*ℤ◌, ◌<ℤ◌, ◌≤ℤ◌, refl, sym, ◌∙◌, ap, subst, arith, append_assoc, length-append}
use Rattle.std.specs.Prelude.{not, nat_lt}
use Rattle.std.proofs.lemmas.Int.{ints}
use Rattle.std.proofs.lemmas.List.{length-replicate}
use Rattle.std.proofs.Math.ListN.{length-set}
use Rattle.num_row.specs.Ints.{narrowed, fits_i128}
use Rattle.num_row.proofs.Ring.{Var, ◌⊕◌, ◌⊗◌, Neg, ring}
use Rattle.constraint_set.specs.Lists.{Each}
use Rattle.constraint_set.specs.Points.{LinearRow, LinearSystem, AreWide, HoldsAtPoint, IsPoint, PointOf, coef}
use Rattle.constraint_set.specs.Points as points
use Rattle.constraint_set.specs.Elimination.{Refusal, too_many, ◌>>=◌, or_wide, variable_limit}
use Rattle.constraint_set.specs.Reach.{emptiness, negated}
use Rattle.constraint_set.proofs.Steps.{Each-append, Each-weaken, Each-map}
use Rattle.constraint_set.proofs.Dots.{dot-set}
use Rattle.constraint_set.proofs.Emptiness.{emptiness_tells}
use Rattle.affine_expr.specs.Forms.{dot}
use Rattle.nest_domain.specs.Boxes.{Dimension, place_at, begins_at, AllWithin, AllIn, later_turn, AreOver}
use Rattle.dependence.specs.Clashes.{spread, later, all_later, Stretch, stretch_of, with_variable, stretch_rows, dimension_rows, common_rows, filled, clash_system, clash}
use Rattle.dependence.specs.Laws.{NoClashIsApart}

-- ---- answers
abbrev Gives : {A : Type 0} → Result A Refusal → (A → Type 0) → Type 0
Gives (Ok x) P = P x
Gives (Err e) P = Unit {0}

then_by : {A B : Type 0} (w : Result A Refusal) (f : A → Result B Refusal) (P : A → Type 0) (Q : B → Type 0) → Gives w P → ((x : A) → P x → Gives (f x) Q) → Gives (w >>= f) Q
then_by (Ok x) f P Q h g = g x h
then_by (Err e) f P Q h g = tt

narrow_gives : (z : ℤ) → Gives (or_wide (narrowed z)) (λ x. x ≡ z)
unfolding narrowed
narrow_gives z = by (fits_i128 z)
  where
    by : (b : Bool) → Gives (or_wide (cond b (Some z) None)) (λ x. x ≡ z)
    by true = refl
    by false = tt

-- ---- sums of products
abbrev worth : LinearRow → List ℤ → ℤ
worth r p = points.dot r.coefs p +ℤ r.constant

dot_zeros : (n : ℕ) (p : List ℤ) → points.dot (replicate n (pos 0)) p ≡ pos 0
dot_zeros zero p = refl
dot_zeros (suc n) [] = refl
dot_zeros (suc n) (q ∷ p) = ap (λ t. pos 0 *ℤ q +ℤ t) (dot_zeros n p) ∙ ring (Var (pos 0) ⊗ Var q ⊕ Var (pos 0)) (Var (pos 0)) (omega arith)

dot_behind : (xs ys p : List ℤ) → ((q : List ℤ) → points.dot ys q ≡ pos 0) → points.dot (xs ++ ys) p ≡ points.dot xs p
dot_behind [] ys p h = h p
dot_behind (x ∷ xs) ys [] h = refl
dot_behind (x ∷ xs) ys (q ∷ p) h = ap (λ t. x *ℤ q +ℤ t) (dot_behind xs ys p h)

dot_take : (n : ℕ) (xs p : List ℤ) → length p ≤ n → points.dot (take n xs) p ≡ points.dot xs p
dot_take zero [] [] h = refl
dot_take zero (x ∷ xs) [] h = refl
dot_take zero [] (y ∷ p) h = absurd (omega arith)
dot_take zero (x ∷ xs) (y ∷ p) h = absurd (omega arith)
dot_take (suc n) [] p h = refl
dot_take (suc n) (x ∷ xs) [] h = refl
dot_take (suc n) (x ∷ xs) (y ∷ p) h = ap (λ t. x *ℤ y +ℤ t) (dot_take n xs p (omega (arith, h)))

dot_longer : (xs p more : List ℤ) → length xs ≤ length p → points.dot xs (p ++ more) ≡ points.dot xs p
dot_longer [] p more h = refl
dot_longer (x ∷ xs) [] more h = absurd (omega arith)
dot_longer (x ∷ xs) (y ∷ p) more h = ap (λ z. x *ℤ y +ℤ z) (dot_longer xs p more (omega (arith, h)))

dot_end : (xs p : List ℤ) (c : ℤ) → points.dot (xs ++ c ∷ []) p ≡ points.dot xs p +ℤ c *ℤ get_or p (length xs) (pos 0)
dot_end [] [] c = ring (Var (pos 0)) (Var (pos 0) ⊕ Var c ⊗ Var (pos 0)) (omega arith)
dot_end [] (y ∷ p) c = ring (Var c ⊗ Var y ⊕ Var (pos 0)) (Var (pos 0) ⊕ Var c ⊗ Var y) (omega arith)
dot_end (x ∷ xs) [] c = ring (Var (pos 0)) (Var (pos 0) ⊕ Var c ⊗ Var (pos 0)) (omega arith)
dot_end (x ∷ xs) (y ∷ p) c = ap (λ t. x *ℤ y +ℤ t) (dot_end xs p c) ∙ linear (x *ℤ y) (points.dot xs p) (c *ℤ get_or p (length xs) (pos 0))
  where
    linear : (a b d : ℤ) → a +ℤ (b +ℤ d) ≡ (a +ℤ b) +ℤ d
    linear a b d = omega (arith, ints)

-- a row with so many coefficients has its value
filled_worth : (vars : ℕ) (r : LinearRow) (p : List ℤ) → length p ≤ vars → pos 0 ≤ℤ worth r p → HoldsAtPoint p (pos 1) (filled vars r)
filled_worth vars r p h w = subst (λ z. pos 0 ≤ℤ z) (sym (same (points.dot (take vars (r.coefs ++ replicate vars (pos 0))) p) (points.dot r.coefs p) r.constant (dot_take vars (r.coefs ++ replicate vars (pos 0)) p h ∙ dot_behind r.coefs (replicate vars (pos 0)) p (dot_zeros vars)))) w
  where
    same : (a b c : ℤ) → a ≡ b → a +ℤ c *ℤ pos 1 ≡ b +ℤ c
    same a b c e = omega (arith, ints, e)

take_long : (n : ℕ) (xs : List ℤ) → n ≤ length xs → length (take n xs) ≡ n
take_long zero xs h = refl
take_long (suc n) [] h = absurd (omega arith)
take_long (suc n) (x ∷ xs) h = ap suc (take_long n xs (omega (arith, h)))

pub filled_long : (vars : ℕ) (r : LinearRow) → length (filled vars r).coefs ≡ vars
filled_long vars r = take_long vars (r.coefs ++ replicate vars (pos 0)) (omega (arith, length-append r.coefs (replicate vars (pos 0)), length-replicate vars (pos 0)))

all_filled : (vars : ℕ) (rows : List LinearRow) → AreWide vars (map (filled vars) rows)
all_filled vars [] = tt
all_filled vars (r ∷ rs) = (filled_long vars r, all_filled vars rs)

-- ---- the later turn
dot_skip : (l cs more : List ℤ) → points.dot (replicate (length l) (pos 0) ++ cs) (l ++ more) ≡ points.dot cs more
dot_skip [] cs more = refl
dot_skip (x ∷ l) cs more = ap (λ z. pos 0 *ℤ x +ℤ z) (dot_skip l cs more) ∙ ring (Var (pos 0) ⊗ Var x ⊕ Var (points.dot cs more)) (Var (points.dot cs more)) (omega arith)

dot_spread : (o l cs more : List ℤ) → points.dot (spread (length o) (length l) cs) (o ++ (l ++ more)) ≡ points.dot cs (o ++ more)
dot_spread [] l cs more = dot_skip l cs more
dot_spread (x ∷ o) l [] more = refl
dot_spread (x ∷ o) l (c ∷ cs) more = ap (λ z. c *ℤ x +ℤ z) (dot_spread o l cs more)

set_front : (o more : List ℤ) (i : ℕ) (v : ℤ) → i < length o → set (o ++ more) i v ≡ set o i v ++ more
set_front [] more i v h = absurd (omega arith)
set_front (x ∷ o) more zero v h = refl
set_front (x ∷ o) more (suc i) v h = ap (λ ys. x ∷ ys) (set_front o more i v (omega (arith, h)))

get_front : (o more : List ℤ) (i : ℕ) → i < length o → get_or (o ++ more) i (pos 0) ≡ get_or o i (pos 0)
get_front [] more i h = absurd (omega arith)
get_front (x ∷ o) more zero h = refl
get_front (x ∷ o) more (suc i) h = get_front o more i (omega (arith, h))

spread_long : (n m : ℕ) (cs : List ℤ) (k : ℕ) → length cs ≤ n + k → length (spread n m cs) ≤ n + m + k
spread_long zero m cs k h = omega (arith, h, length-append (replicate m (pos 0)) cs, length-replicate m (pos 0))
spread_long (suc n) m [] k h = omega arith
spread_long (suc n) m (c ∷ cs) k h = let r = spread_long n m cs k (omega (arith, h)) in omega (arith, r)

pub record IsLater (o l : List ℤ) (i : ℕ) (t : ℤ) (r s : LinearRow) : Type 0 where
  pub coefs : s.coefs ≡ spread (length o) (length l) r.coefs
  pub same : (more : List ℤ) → worth s (o ++ (l ++ more)) ≡ worth r (later_turn o i t ++ more)

later_gives : (o l : List ℤ) (i : ℕ) (t : ℤ) (r : LinearRow) → i < length o → Gives (later (length o) (length l) i t r) (IsLater o l i t r)
later_gives o l i t r h =
    then_by (or_wide (narrowed (r.constant +ℤ coef i r *ℤ t))) _ (λ x. x ≡ r.constant +ℤ coef i r *ℤ t) (IsLater o l i t r) (narrow_gives (r.constant +ℤ coef i r *ℤ t)) (λ k f. record {
      coefs = refl;
      same = λ more. both more (coef i r *ℤ t) k refl f;
    })
  where
    both : (more : List ℤ) (move k : ℤ) → move ≡ coef i r *ℤ t → k ≡ r.constant +ℤ move → points.dot (spread (length o) (length l) r.coefs) (o ++ (l ++ more)) +ℤ k ≡ points.dot r.coefs (later_turn o i t ++ more) +ℤ r.constant
    both more move k e f =
        let p = o ++ more in
        let x = get_or o i (pos 0) in
        let c = coef i r in
        let d = dot-set r.coefs p i (x +ℤ t) (omega (arith, h, length-append o more)) in
        let a = ap (points.dot r.coefs) (set_front o more i (x +ℤ t) h) in
        let b = ap (λ z. c *ℤ z) (get_front o more i h) in
        let s = dot_spread o l r.coefs more in
        let m : c *ℤ (x +ℤ t) ≡ c *ℤ x +ℤ c *ℤ t = ring (Var c ⊗ (Var x ⊕ Var t)) (Var c ⊗ Var x ⊕ Var c ⊗ Var t) (omega arith) in
        linear (points.dot (spread (length o) (length l) r.coefs) (o ++ (l ++ more))) (points.dot r.coefs (later_turn o i t ++ more)) (points.dot r.coefs (set p i (x +ℤ t))) (points.dot r.coefs p) (c *ℤ get_or p i (pos 0)) (c *ℤ x) (c *ℤ t) (c *ℤ (x +ℤ t)) r.constant move k s a d b m e f
      where
        linear : (d1 d2 d3 d4 gp cx ct cxt k move n : ℤ) → d1 ≡ d4 → d3 ≡ d2 → d3 +ℤ gp ≡ d4 +ℤ cxt → gp ≡ cx → cxt ≡ cx +ℤ ct → move ≡ ct → n ≡ k +ℤ move → d1 +ℤ n ≡ d2 +ℤ k
        linear d1 d2 d3 d4 gp cx ct cxt k move n s a e b m u w = omega (arith, ints, s, a, e, b, m, u, w)

-- ---- a number in an extent
pub record IsNegated (cs ds : List ℤ) : Type 0 where
  pub same : (p : List ℤ) → points.dot ds p ≡ neg_ℤ (points.dot cs p)
  pub long : length ds ≡ length cs

negated_gives : (cs : List ℤ) → Gives (negated cs) (IsNegated cs)
negated_gives [] = record { same = λ p. omega (arith, ints); long = refl }
negated_gives (c ∷ cs) =
    then_by (or_wide (narrowed (neg_ℤ c))) _ (λ x. x ≡ neg_ℤ c) (IsNegated (c ∷ cs)) (narrow_gives (neg_ℤ c)) (λ x e.
    then_by (negated cs) _ (IsNegated cs) (IsNegated (c ∷ cs)) (negated_gives cs) (λ ds h. record { same = both x ds e h.same; long = ap suc h.long }))
  where
    both : (x : ℤ) (ds : List ℤ) → x ≡ neg_ℤ c → ((p : List ℤ) → points.dot ds p ≡ neg_ℤ (points.dot cs p)) → (p : List ℤ) → points.dot (x ∷ ds) p ≡ neg_ℤ (points.dot (c ∷ cs) p)
    both x ds e h [] = omega (arith, ints)
    both x ds e h (q ∷ p) = ap (λ z. z *ℤ q +ℤ points.dot ds p) e ∙ ap (λ z. neg_ℤ c *ℤ q +ℤ z) (h p) ∙ ring (Neg (Var c) ⊗ Var q ⊕ Neg (Var (points.dot cs p))) (Neg (Var c ⊗ Var q ⊕ Var (points.dot cs p))) (omega arith)

with_worth : (j : ℕ) (c : ℤ) (cs p : List ℤ) → length cs ≤ j → points.dot (with_variable j c cs) p ≡ points.dot cs p +ℤ c *ℤ get_or p j (pos 0)
with_worth j c cs p h =
    dot_end (cs ++ replicate (j - length cs) (pos 0)) p c
    ∙ (λ i. dot_behind cs (replicate (j - length cs) (pos 0)) p (dot_zeros (j - length cs)) i +ℤ c *ℤ get_or p (long i) (pos 0))
  where
    long : length (cs ++ replicate (j - length cs) (pos 0)) ≡ j
    long = omega (arith, h, length-append cs (replicate (j - length cs) (pos 0)), length-replicate (j - length cs) (pos 0))

abbrev Met : List ℤ → LinearRow → Type 0
Met p r = pos 0 ≤ℤ worth r p

stretch_hold : (j : ℕ) (begin : LinearRow) (extent x v : ℤ) (p : List ℤ) → length begin.coefs ≤ j → get_or p j (pos 0) ≡ x → worth begin p ≡ v → v ≤ℤ x → x <ℤ (v +ℤ extent) → Gives (stretch_rows j begin extent) (Each (Met p))
stretch_hold j begin extent x v p short at is low high =
    then_by (negated begin.coefs) _ (IsNegated begin.coefs) (Each (Met p)) (negated_gives begin.coefs) (λ ds n.
    then_by (or_wide (narrowed (neg_ℤ begin.constant))) _ (λ c. c ≡ neg_ℤ begin.constant) (Each (Met p)) (narrow_gives (neg_ℤ begin.constant)) (λ constant e.
    then_by (or_wide (narrowed (begin.constant +ℤ (extent -ℤ pos 1)))) _ (λ c. c ≡ begin.constant +ℤ (extent -ℤ pos 1)) (Each (Met p)) (narrow_gives (begin.constant +ℤ (extent -ℤ pos 1))) (λ top f. (
      first (points.dot ds p) (points.dot begin.coefs p) begin.constant constant (pos 1 *ℤ get_or p j (pos 0)) (points.dot (with_variable j (pos 1) ds) p) (n.same p) e (one (get_or p j (pos 0)) ∙ at) (with_worth j (pos 1) ds p (omega (arith, short, n.long))) is low,
      (second (points.dot begin.coefs p) begin.constant top (neg_ℤ (pos 1) *ℤ get_or p j (pos 0)) (points.dot (with_variable j (neg_ℤ (pos 1)) begin.coefs) p) f (minus (get_or p j (pos 0)) ∙ ap neg_ℤ at) (with_worth j (neg_ℤ (pos 1)) begin.coefs p short) is high, tt),
    ))))
  where
    one : (a : ℤ) → pos 1 *ℤ a ≡ a
    one a = ring (Var (pos 1) ⊗ Var a) (Var a) (omega arith)

    minus : (a : ℤ) → neg_ℤ (pos 1) *ℤ a ≡ neg_ℤ a
    minus a = ring (Neg (Var (pos 1)) ⊗ Var a) (Neg (Var a)) (omega arith)

    first : (d b k c y w : ℤ) → d ≡ neg_ℤ b → c ≡ neg_ℤ k → y ≡ x → w ≡ d +ℤ y → b +ℤ k ≡ v → v ≤ℤ x → pos 0 ≤ℤ (w +ℤ c)
    first d b k c y w e f g h i l = omega (arith, ints, e, f, g, h, i, l)

    second : (b k c y w : ℤ) → c ≡ k +ℤ (extent -ℤ pos 1) → y ≡ neg_ℤ x → w ≡ b +ℤ y → b +ℤ k ≡ v → x <ℤ (v +ℤ extent) → pos 0 ≤ℤ (w +ℤ c)
    second b k c y w f g h i l = omega (arith, ints, f, g, h, i, l)

dot_same : (cs p : List ℤ) → points.dot cs p ≡ dot cs p
dot_same [] p = refl
dot_same (c ∷ cs) [] = refl
dot_same (c ∷ cs) (x ∷ p) = ap (λ t. c *ℤ x +ℤ t) (dot_same cs p)

-- a number in a region's extent is one in the side that a clash speaks of
pub record IsIn (os rest : List ℤ) (s : Stretch) (x : ℤ) : Type 0 where
  pub from : worth s.begin (os ++ rest) ≤ℤ x
  pub up_to : x <ℤ (worth s.begin (os ++ rest) +ℤ s.extent)

stretch_in : (c : Bool) (coefs : List ℤ) (offset extent : ℤ) (size : ℕ) (os rest : List ℤ) (x : ℤ) → length coefs ≤ length os
    → let d : Dimension = record { coefs = coefs; offset = offset; extent = extent; clamped = c } in
    pos 0 ≤ℤ begins_at d size os → (begins_at d size os +ℤ extent) ≤ℤ pos size → begins_at d size os ≤ℤ x → x <ℤ (begins_at d size os +ℤ extent) → IsIn os rest (stretch_of d size) x
unfolding place_at
stretch_in true coefs offset extent size os rest x h a b low high = record {
  from = clamp_low (points.dot (replicate (length coefs) (pos 0)) (os ++ rest)) x _ (dot_zeros (length coefs) (os ++ rest)) a low;
  up_to = clamp_high (points.dot (replicate (length coefs) (pos 0)) (os ++ rest)) x _ extent (pos size) (dot_zeros (length coefs) (os ++ rest)) b high;
}
  where
    clamp_low : (d x p : ℤ) → d ≡ pos 0 → pos 0 ≤ℤ p → p ≤ℤ x → (d +ℤ pos 0) ≤ℤ x
    clamp_low d x p e a b = omega (arith, ints, e, a, b)

    clamp_high : (d x p e s : ℤ) → d ≡ pos 0 → (p +ℤ e) ≤ℤ s → x <ℤ (p +ℤ e) → x <ℤ ((d +ℤ pos 0) +ℤ s)
    clamp_high d x p e s z a b = omega (arith, ints, z, a, b)
stretch_in false coefs offset extent size os rest x h a b low high =
    let same : points.dot coefs (os ++ rest) ≡ dot coefs os = dot_longer coefs os rest h ∙ dot_same coefs os in
    record {
      from = subst (λ z. (z +ℤ offset) ≤ℤ x) (sym same) low;
      up_to = subst (λ z. x <ℤ ((z +ℤ offset) +ℤ extent)) (sym same) high;
    }

stretch_short : (d : Dimension) (size : ℕ) → length (stretch_of d size).begin.coefs ≡ length d.coefs
stretch_short d size = by d.clamped
  where
    by : (c : Bool) → length (cond {A = Stretch} c (record { begin = record { coefs = replicate (length d.coefs) (pos 0); constant = pos 0 }; extent = pos size }) (record { begin = record { coefs = d.coefs; constant = d.offset }; extent = d.extent })).begin.coefs ≡ length d.coefs
    by true = length-replicate (length d.coefs) (pos 0)
    by false = refl

get_at : (p : List ℤ) (x : ℤ) (xs : List ℤ) → get_or (p ++ x ∷ xs) (length p) (pos 0) ≡ x
get_at [] x xs = refl
get_at (y ∷ p) x xs = get_at p x xs

module _ (o l l2 : List ℤ) (i : ℕ) (t : ℤ) (inside : i < length o) (even : length l ≡ length l2) where
  P : List ℤ → List ℤ
  P xs = o ++ (l ++ (l2 ++ xs))

  regroup : (xs : List ℤ) → o ++ (l ++ (l2 ++ xs)) ≡ (o ++ (l ++ l2)) ++ xs
  regroup xs = sym (append_assoc o (l ++ l2) xs ∙ ap (λ z. o ++ z) (append_assoc l l2 xs))

  common_hold : (as_ bs : List Dimension) (sizes : List ℕ) (done xs : List ℤ) (j : ℕ) → AreOver (length o) as_ → AreOver (length o) bs → AllWithin as_ sizes o → AllWithin bs sizes (later_turn o i t) → AllIn as_ sizes o xs → AllIn bs sizes (later_turn o i t) xs
      → j ≡ length o + length l + length l2 + length done → Gives (common_rows (length o) (length l) i t j as_ bs sizes) (Each (Met (o ++ (l ++ (l2 ++ (done ++ xs))))))
  common_hold [] bs sizes done xs j a b u w v z e = tt
  common_hold (d ∷ ds) [] sizes done xs j a b u w v z e = tt
  common_hold (d ∷ ds) (f ∷ fs) [] done xs j a b u w v z e = tt
  common_hold (d ∷ ds) (f ∷ fs) (size ∷ sizes) done [] j a b u w v z e = absurd v
  common_hold (d ∷ ds) (f ∷ fs) (size ∷ sizes) done (x ∷ xs) j a b u w v z e =
      let p = o ++ (l ++ (l2 ++ (done ++ x ∷ xs))) in
      let Q = Each (Met p) in
      let here : get_or p j (pos 0) ≡ x =
      ap (λ q. get_or q j (pos 0)) (regroup (done ++ x ∷ xs) ∙ sym (append_assoc (o ++ (l ++ l2)) done (x ∷ xs)))
      ∙ ap (λ k. get_or (((o ++ (l ++ l2)) ++ done) ++ x ∷ xs) k (pos 0)) (omega (arith, e, length-append (o ++ (l ++ l2)) done, length-append o (l ++ l2), length-append l l2))
      ∙ get_at ((o ++ (l ++ l2)) ++ done) x xs in
      let now = stretch_in d.clamped d.coefs d.offset d.extent size o (l ++ (l2 ++ (done ++ x ∷ xs))) x (omega (arith, a.0)) u.0 u.1 v.0 v.1 in
      let moved_long : length (later_turn o i t) ≡ length o = length-set o i (get_or o i (pos 0) +ℤ t) in
      let then_ = stretch_in f.clamped f.coefs f.offset f.extent size (later_turn o i t) (l2 ++ (done ++ x ∷ xs)) x (omega (arith, b.0, moved_long)) w.0 w.1 z.0 z.1 in
      then_by (dimension_rows (length o) (length l) i t j d f size) _ Q Q
      (then_by (stretch_rows j (stretch_of d size).begin (stretch_of d size).extent) _ Q Q (stretch_hold j (stretch_of d size).begin (stretch_of d size).extent x (worth (stretch_of d size).begin p) p (omega (arith, e, stretch_short d size, a.0)) here refl now.from now.up_to) (λ first h1.
      then_by (later (length o) (length l) i t (stretch_of f size).begin) _ (IsLater o l i t (stretch_of f size).begin) Q (later_gives o l i t (stretch_of f size).begin inside) (λ begin later_.
      let same = later_.same (l2 ++ (done ++ x ∷ xs)) in
      let short = spread_long (length o) (length l) (stretch_of f size).begin.coefs 0 (omega (arith, stretch_short f size, b.0)) in
      then_by (stretch_rows j begin (stretch_of f size).extent) _ Q Q (stretch_hold j begin (stretch_of f size).extent x (worth (stretch_of f size).begin (later_turn o i t ++ (l2 ++ (done ++ x ∷ xs)))) p (omega (arith, e, short, ap length later_.coefs)) here same then_.from then_.up_to) (λ second h2.
      Each-append (Met p) first second h1 h2)))) (λ both h.
      then_by (common_rows (length o) (length l) i t (suc j) ds fs sizes) _ Q Q
      (subst (λ q. Gives (common_rows (length o) (length l) i t (suc j) ds fs sizes) (Each (Met (o ++ (l ++ (l2 ++ q)))))) (append_assoc done (x ∷ []) xs)
      (common_hold ds fs sizes (done ++ x ∷ []) xs (suc j) a.1 b.1 u.2 w.2 v.2 z.2 (omega (arith, e, length-append done (x ∷ []))))) (λ rest h3.
      Each-append (Met p) both rest h h3))

  all_later_hold : (rows : List LinearRow) (n : ℕ) (more : List ℤ) → n ≡ length (later_turn o i t ++ l2) → AreWide n rows → Each (Met (later_turn o i t ++ l2)) rows → Gives (all_later (length o) (length l) i t rows) (Each (Met (o ++ (l ++ (l2 ++ more)))))
  all_later_hold [] n more e w h = tt
  all_later_hold (r ∷ rs) n more e w h =
      then_by (later (length o) (length l) i t r) _ (IsLater o l i t r) (Each (Met (o ++ (l ++ (l2 ++ more))))) (later_gives o l i t r inside) (λ s k.
      then_by (all_later (length o) (length l) i t rs) _ (Each (Met (o ++ (l ++ (l2 ++ more))))) (Each (Met (o ++ (l ++ (l2 ++ more))))) (all_later_hold rs n more e w.1 h.1) (λ ss m.
      (subst (λ z. pos 0 ≤ℤ z) (sym (k.same (l2 ++ more) ∙ ap (worth r) (sym (append_assoc (later_turn o i t) l2 more)) ∙ ap (λ z. z +ℤ r.constant) (dot_longer r.coefs (later_turn o i t ++ l2) more (omega (arith, w.0, e))))) h.0, m)))

met_of : (r : LinearRow) (p : List ℤ) → HoldsAtPoint p (pos 1) r → Met p r
met_of r p h = subst (λ z. pos 0 ≤ℤ z) (one (points.dot r.coefs p) r.constant) h
  where
    one : (d c : ℤ) → d +ℤ c *ℤ pos 1 ≡ d +ℤ c
    one d c = omega (arith, ints)

-- the system has the point of two visits with an element in both regions
clash_point : (as_ bs : List Dimension) (outside : LinearSystem) (sizes : List ℕ) (i : ℕ) (t : ℤ) (o l l2 xs : List ℤ) → AreWide outside.vars outside.rows → AreOver (length o) as_ → AreOver (length o) bs → i < length o
    → PointOf outside (o ++ l) (pos 1) → PointOf outside (later_turn o i t ++ l2) (pos 1) → AllWithin as_ sizes o → AllWithin bs sizes (later_turn o i t) → AllIn as_ sizes o xs → AllIn bs sizes (later_turn o i t) xs → length xs ≡ length sizes
    → Gives (clash_system as_ bs outside (length o) sizes i t) (λ s. AreWide s.vars s.rows × PointOf s (o ++ (l ++ (l2 ++ xs))) (pos 1))
unfolding clash_system
clash_point as_ bs outside sizes i t o l l2 xs wide a b inside now then_ u w v z count = by (nat_lt variable_limit vars)
  where
    m : ℕ
    m = outside.vars - length o

    vars : ℕ
    vars = outside.vars + m + length sizes

    p : List ℤ
    p = o ++ (l ++ (l2 ++ xs))

    Q : LinearSystem → Type 0
    Q s = AreWide s.vars s.rows × PointOf s p (pos 1)

    first : outside.vars ≡ length o + length l
    first = omega (arith, now.as_long, length-append o l)

    l_is : length l ≡ outside.vars - length o
    l_is = omega (arith, first)

    l2_is : length l ≡ length l2
    l2_is = omega (arith, first, then_.as_long, length-append (later_turn o i t) l2, length-set o i (get_or o i (pos 0) +ℤ t))

    long : length (o ++ (l ++ (l2 ++ xs))) ≡ outside.vars + (outside.vars - length o) + length sizes
    long = omega (arith, first, l_is, l2_is, count, length-append o (l ++ (l2 ++ xs)), length-append l (l2 ++ xs), length-append l2 xs)

    met_now : Each (Met (o ++ (l ++ (l2 ++ xs)))) outside.rows
    met_now = each outside.rows wide now.point.1
      where
        each : (rows : List LinearRow) → AreWide outside.vars rows → Each (HoldsAtPoint (o ++ l) (pos 1)) rows → Each (Met (o ++ (l ++ (l2 ++ xs)))) rows
        each [] w h = tt
        each (r ∷ rs) w h = (subst (λ z. pos 0 ≤ℤ z) (ap (λ q. q +ℤ r.constant) (sym (dot_longer r.coefs (o ++ l) (l2 ++ xs) (omega (arith, w.0, now.as_long))) ∙ ap (points.dot r.coefs) (append_assoc o l (l2 ++ xs)))) (met_of r (o ++ l) h.0), each rs w.1 h.1)

    met_then : Gives (all_later (length o) (outside.vars - length o) i t outside.rows) (Each (Met (o ++ (l ++ (l2 ++ xs)))))
    met_then = subst (λ k. Gives (all_later (length o) k i t outside.rows) (Each (Met (o ++ (l ++ (l2 ++ xs)))))) l_is
        (all_later_hold o l l2 i t inside l2_is outside.rows outside.vars xs (sym then_.as_long) wide (Each-weaken (HoldsAtPoint (later_turn o i t ++ l2) (pos 1)) (Met (later_turn o i t ++ l2)) (λ r h. met_of r (later_turn o i t ++ l2) h) outside.rows then_.point.1))

    met_common : Gives (common_rows (length o) (outside.vars - length o) i t (outside.vars + (outside.vars - length o)) as_ bs sizes) (Each (Met (o ++ (l ++ (l2 ++ xs)))))
    met_common = subst (λ k. Gives (common_rows (length o) k i t (outside.vars + k) as_ bs sizes) (Each (Met (o ++ (l ++ (l2 ++ xs)))))) l_is
        (common_hold o l l2 i t inside l2_is as_ bs sizes [] xs (outside.vars + length l) a b u w v z (omega (arith, first, l2_is)))

    by : (c : Bool) → Gives (cond c (Err too_many) (all_later (length o) (outside.vars - length o) i t outside.rows >>= (λ moved. common_rows (length o) (outside.vars - length o) i t (outside.vars + (outside.vars - length o)) as_ bs sizes >>= (λ common. Ok (record { vars = outside.vars + (outside.vars - length o) + length sizes; rows = map (filled (outside.vars + (outside.vars - length o) + length sizes)) (outside.rows ++ (moved ++ common)) })))))
        (λ s. AreWide s.vars s.rows × PointOf s (o ++ (l ++ (l2 ++ xs))) (pos 1))
    by true = tt
    by false = then_by (all_later (length o) (outside.vars - length o) i t outside.rows) _ (Each (Met (o ++ (l ++ (l2 ++ xs))))) (λ s. AreWide s.vars s.rows × PointOf s (o ++ (l ++ (l2 ++ xs))) (pos 1)) met_then (λ moved h.
        then_by (common_rows (length o) (outside.vars - length o) i t (outside.vars + (outside.vars - length o)) as_ bs sizes) _ (Each (Met (o ++ (l ++ (l2 ++ xs))))) (λ s. AreWide s.vars s.rows × PointOf s (o ++ (l ++ (l2 ++ xs))) (pos 1)) met_common (λ common k.
        let n = outside.vars + (outside.vars - length o) + length sizes in
        let rows = outside.rows ++ (moved ++ common) in
        let all = Each-append (Met (o ++ (l ++ (l2 ++ xs)))) outside.rows (moved ++ common) met_now (Each-append (Met (o ++ (l ++ (l2 ++ xs)))) moved common h k) in (
          all_filled n rows,
          record {
            as_long = long;
            point = (omega (arith, ints), Each-map (HoldsAtPoint (o ++ (l ++ (l2 ++ xs))) (pos 1)) (filled n) rows (Each-weaken (Met (o ++ (l ++ (l2 ++ xs)))) (λ r. HoldsAtPoint (o ++ (l ++ (l2 ++ xs))) (pos 1) (filled n r)) (λ r q. filled_worth n r (o ++ (l ++ (l2 ++ xs))) (omega (arith, long)) q) rows all));
          },
        )))

in_length : (ds : List Dimension) (sizes : List ℕ) (os xs : List ℤ) → AllIn ds sizes os xs → length xs ≡ length sizes
in_length [] [] os [] h = refl
in_length [] [] os (x ∷ xs) h = absurd h
in_length [] (s ∷ sizes) os xs h = absurd h
in_length (d ∷ ds) [] os xs h = absurd h
in_length (d ∷ ds) (s ∷ sizes) os [] h = absurd h
in_length (d ∷ ds) (s ∷ sizes) os (x ∷ xs) h = ap suc (in_length ds sizes os xs h.2)

no_point : (w : Result LinearSystem Refusal) (p : List ℤ) → Gives w (λ s. AreWide s.vars s.rows × PointOf s p (pos 1)) → (w >>= (λ s. emptiness s >>= (λ empty. Ok (not empty)))) ≡ Ok false → ⊥
no_point (Err e) p h is = let z : ⊥ = cc in z
no_point (Ok s) p h is = by (emptiness s) refl is
  where
    by : (w : Result Bool Refusal) → emptiness s ≡ w → (w >>= (λ empty. Ok (not empty))) ≡ Ok false → ⊥
    by (Err e) f is = let z : ⊥ = cc in z
    by (Ok false) f is = let z : ⊥ = cc in z
    by (Ok true) f is = emptiness_tells s true h.0 f p (pos 1) h.1

pub no_clash_is_apart : NoClashIsApart
unfolding clash
no_clash_is_apart first second outside n sizes i t wide a b inside is os ls ms xs e now later_ u w v z =
    no_point (clash_system first second outside n sizes i t) (os ++ (ls ++ (ms ++ xs)))
    (subst (λ k. Gives (clash_system first second outside k sizes i t) (λ s. AreWide s.vars s.rows × PointOf s (os ++ (ls ++ (ms ++ xs))) (pos 1))) e
    (clash_point first second outside sizes i t os ls ms xs wide (subst (λ k. AreOver k first) (sym e) a) (subst (λ k. AreOver k second) (sym e) b) (omega (arith, inside, e)) now later_ u w v z (in_length first sizes os xs v))) is
