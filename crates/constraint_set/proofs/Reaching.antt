-- The reach of a form is what elimination answers.
use Rattle.std.proofs.Common.{◌≡◌, ℕ, zero, suc, ◌+◌, ◌<◌, Bool, true, false, cond, List, [], ◌∷◌, ◌++◌, map, length, Result, Ok, Err, ℤ, pos, neg_ℤ, ◌+ℤ◌, ◌*ℤ◌, ◌≤ℤ◌, ◌<ℤ◌, get_or, refl, sym, ◌∙◌, ap, arith, subst, nat_lt}
use Rattle.std.proofs.lemmas.Int.{ints}
use Rattle.std.proofs.lemmas.List.{ext_get_or}
use Rattle.std.specs.Int.{int_max, int_min}
use Rattle.std.specs.List.{reduce}
use Rattle.num_row.proofs.Ring.{Var, ◌⊗◌, Neg, ring}
use Rattle.num_row.proofs.Order.{mul_le_right}
use Rattle.constraint_set.specs.Lists.{Each}
use Rattle.constraint_set.specs.Points.{LinearRow, LinearSystem, value_at, IsPoint, PointOf, AreWide, coef}
use Rattle.constraint_set.specs.Projection.{scaled, AgreesOutside}
use Rattle.constraint_set.specs.Tidy.{tidied}
use Rattle.constraint_set.specs.Elimination.{Refusal, too_many, ◌>>=◌, or_wide, raising, lowering, without, steps_by, step, steps, countdown, variable_limit}
use Rattle.constraint_set.specs.Reach.{HasNoPoint, HasPoint, IsLeast, IsGreatest, has_negative, valued, lower_bound, upper_bound, bounds_by, greatest_lower, least_upper, Reach, never, between, reach_of, TellsReach}
use Rattle.constraint_set.proofs.Steps.{Each-weaken, Raises, Lowers, part_raising, part_lowering, part_without, whole}
use Rattle.constraint_set.proofs.Lifting.{get-scaled, length-scaled}
use Rattle.constraint_set.proofs.Tidying.{tidied_same, tidied_wide}
use Rattle.constraint_set.proofs.Pairs.{ok_of, some_of_wide}
use Rattle.constraint_set.proofs.Eliminating.{projects_all, lifts_all}
use Rattle.constraint_set.proofs.Emptiness.{zeros, length-zeros, get-zeros, zeros_point, no_zeros_point}
use Rattle.constraint_set.proofs.Tightest.{Tightest, tight, bound_least}
use Rattle.constraint_set.proofs.Extremes.{IsMost, most, IsFewest, fewest, bounds_are}
use Rattle.constraint_set.proofs.Valued.{line, to_line, from_line, Source, rows_wide, point_down, point_up}

-- ---- parts of the rows, and facts of them
raising_of : (P : LinearRow → Type 0) (rs : List LinearRow) → Each P rs → Each (λ r. Raises 0 r × P r) (raising 0 rs)
raising_of P rs h = part_raising 0 P rs h

firsts : (P Q : LinearRow → Type 0) (rs : List LinearRow) → Each (λ r. P r × Q r) rs → Each P rs
firsts P Q rs h = Each-weaken (λ r. P r × Q r) P (λ r x. x.0) rs h

seconds : (P Q : LinearRow → Type 0) (rs : List LinearRow) → Each (λ r. P r × Q r) rs → Each Q rs
seconds P Q rs h = Each-weaken (λ r. P r × Q r) Q (λ r x. x.1) rs h

anything : (rs : List LinearRow) → Each (λ r. Unit {0}) rs
anything [] = tt
anything (r ∷ rs) = (tt, anything rs)

joined : (P : LinearRow → Type 0) (xs ys : List LinearRow) → Each P xs → Each P ys → Each P (xs ++ ys)
joined P [] ys h k = k
joined P (x ∷ xs) ys h k = (h.0, joined P xs ys h.1 k)

front : (P : LinearRow → Type 0) (xs ys : List LinearRow) → Each P (xs ++ ys) → Each P xs
front P [] ys h = tt
front P (x ∷ xs) ys h = (h.0, front P xs ys h.1)

back : (P : LinearRow → Type 0) (xs ys : List LinearRow) → Each P (xs ++ ys) → Each P ys
back P [] ys h = h
back P (x ∷ xs) ys h = back P xs ys h.1

-- ---- the bounds that are taken
greatest_is : (rows : List LinearRow) (k : ℤ) → greatest_lower rows ≡ Ok k → IsMost lower_bound (raising 0 rows) k
unfolding greatest_lower
greatest_is rows k h =
    let first = ok_of (bounds_by lower_bound (raising 0 rows)) (λ bounds. or_wide (reduce int_max bounds)) k h in
    let b = bounds_are lower_bound (raising 0 rows) first.0 first.1.0 in
    most lower_bound (raising 0 rows) k (ap (reduce int_max) (sym b) ∙ some_of_wide (reduce int_max first.0) k first.1.1)

least_is : (rows : List LinearRow) (k : ℤ) → least_upper rows ≡ Ok k → IsFewest upper_bound (lowering 0 rows) k
unfolding least_upper
least_is rows k h =
    let first = ok_of (bounds_by upper_bound (lowering 0 rows)) (λ bounds. or_wide (reduce int_min bounds)) k h in
    let b = bounds_are upper_bound (lowering 0 rows) first.0 first.1.0 in
    fewest upper_bound (lowering 0 rows) k (ap (reduce int_min) (sym b) ∙ some_of_wide (reduce int_min first.0) k first.1.1)

module _ (s : LinearSystem) (form : LinearRow) (wide : AreWide s.vars s.rows) (long : length form.coefs ≡ s.vars)
    (both rows : List LinearRow) (made : valued s form ≡ Ok both) (run : steps (map suc (countdown s.vars)) (tidied both) ≡ Ok rows) where
  down : (p : List ℤ) (q : ℤ) → PointOf s p q → IsPoint rows (value_at form p q ∷ zeros s.vars) q
  down = point_down s form wide long both rows made run

  up : (v q : ℤ) → IsPoint rows (v ∷ zeros s.vars) q → Source s form v q
  up = point_up s form wide long both rows made run

  lines : (p : List ℤ) (q : ℤ) → PointOf s p q → Each (line (value_at form p q) q) rows
  lines p q point = to_line rows s.vars (value_at form p q) q (down p q point)

  -- ---- the least
  flat_low : Each (λ r. coef 0 r ≤ℤ pos 0) (lowering 0 rows ++ without 0 rows)
  flat_low =
      joined (λ r. coef 0 r ≤ℤ pos 0) (lowering 0 rows) (without 0 rows)
      (Each-weaken (λ r. Lowers 0 r × Unit {0}) (λ r. coef 0 r ≤ℤ pos 0) (λ r h. (let low = h.0 in omega (arith, ints))) (lowering 0 rows) (part_lowering 0 (λ r. Unit {0}) rows (anything rows)))
      (Each-weaken (λ r. (coef 0 r ≡ pos 0) × Unit {0}) (λ r. coef 0 r ≤ℤ pos 0) (λ r h. (let e = h.0 in omega (arith, ints))) (without 0 rows) (part_without 0 (λ r. Unit {0}) rows (anything rows)))

  least_tight : (v q : ℤ) → pos 0 <ℤ q → Each (line v q) rows → (first : LinearRow) (more : List LinearRow) → raising 0 rows ≡ first ∷ more
      → Tightest (coef 0) (λ r. r.constant) (raising 0 rows) (lowering 0 rows ++ without 0 rows)
  least_tight v q scale h first more e =
      let ups = raising_of (line v q) rows h in
      let lows = part_lowering 0 (line v q) rows h in
      let flats = part_without 0 (line v q) rows h in
      subst (λ rs. Tightest (coef 0) (λ r. r.constant) rs (lowering 0 rows ++ without 0 rows)) (sym e)
      (tight (coef 0) (λ r. r.constant) first more (lowering 0 rows ++ without 0 rows) v q scale
      (subst (Each (Raises 0)) e (firsts (Raises 0) (line v q) (raising 0 rows) ups)) flat_low
      (subst (Each (line v q)) e (seconds (Raises 0) (line v q) (raising 0 rows) ups))
      (joined (line v q) (lowering 0 rows) (without 0 rows) (seconds (Lowers 0) (line v q) (lowering 0 rows) lows) (seconds (λ r. coef 0 r ≡ pos 0) (line v q) (without 0 rows) flats)))

  least_law : (k : ℤ) → greatest_lower rows ≡ Ok k → HasPoint s → IsLeast s form k
  least_law k h has =
      let m = greatest_is rows k h in
      let w = least_tight (value_at form has.0 has.1.0) has.1.0 has.1.1.point.0 (lines has.0 has.1.0 has.1.1) m.first m.more m.rows in
      let d = w.best.constant in
      let c = coef 0 w.best in
      let rest = w.others_met in
      let all = whole 0 (line (neg_ℤ d) c) rows w.ups_met (front (line (neg_ℤ d) c) (lowering 0 rows) (without 0 rows) rest) (back (line (neg_ℤ d) c) (lowering 0 rows) (without 0 rows) rest) in
      let source = up (neg_ℤ d) c (from_line rows s.vars (neg_ℤ d) c w.positive all) in
      record {
        p = source.p;
        q = source.t *ℤ c;
        found = source.point;
        reached = times source.t (neg_ℤ d) k c (value_at form source.p (source.t *ℤ c)) source.positive (w.reached k m.above) source.value;
        least = λ j x y point at_most. m.under j (each_under j x y point at_most);
      }
    where
      times : (t v k c w : ℤ) → pos 0 <ℤ t → v ≤ℤ (k *ℤ c) → w ≡ t *ℤ v → w ≤ℤ (k *ℤ (t *ℤ c))
      times t v k c w ht h e =
          let one = mul_le_right v (k *ℤ c) t h (omega (arith, ints)) in
          let two : (k *ℤ c) *ℤ t ≡ k *ℤ (t *ℤ c) = ring (Var k ⊗ Var c ⊗ Var t) (Var k ⊗ (Var t ⊗ Var c)) (omega arith) in
          let three : v *ℤ t ≡ t *ℤ v = ring (Var v ⊗ Var t) (Var t ⊗ Var v) (omega arith) in
          omega (arith, ints, one, two, three, e)

      each_under : (j : ℤ) (x : List ℤ) (y : ℤ) → PointOf s x y → value_at form x y ≤ℤ (j *ℤ y) → Each (λ r. lower_bound r ≤ℤ j) (raising 0 rows)
      each_under j x y point at_most =
          Each-weaken (λ r. Raises 0 r × line (value_at form x y) y r) (λ r. lower_bound r ≤ℤ j) (λ r h. bound_least (coef 0 r) r.constant (value_at form x y) y j h.0 point.point.0 h.1 at_most) (raising 0 rows)
          (raising_of (line (value_at form x y) y) rows (lines x y point))

  -- ---- the greatest: the same with v and its coefficients negated
  turned : ℤ → ℤ → LinearRow → Type 0
  turned v q r = pos 0 ≤ℤ (neg_ℤ (coef 0 r) *ℤ v +ℤ r.constant *ℤ q)

  turn : (v q : ℤ) (r : LinearRow) → line v q r → turned (neg_ℤ v) q r
  unfolding turned
  turn v q r h =
      let e : neg_ℤ (coef 0 r) *ℤ neg_ℤ v ≡ coef 0 r *ℤ v = ring (Neg (Var (coef 0 r)) ⊗ Neg (Var v)) (Var (coef 0 r) ⊗ Var v) (omega arith) in
      omega (arith, ints, e, h)

  turn_back : (v q : ℤ) (r : LinearRow) → turned (neg_ℤ v) q r → line v q r
  unfolding turned
  turn_back v q r h =
      let e : neg_ℤ (coef 0 r) *ℤ neg_ℤ v ≡ coef 0 r *ℤ v = ring (Neg (Var (coef 0 r)) ⊗ Neg (Var v)) (Var (coef 0 r) ⊗ Var v) (omega arith) in
      omega (arith, ints, e, h)

  flat_high : Each (λ r. neg_ℤ (coef 0 r) ≤ℤ pos 0) (raising 0 rows ++ without 0 rows)
  flat_high =
      joined (λ r. neg_ℤ (coef 0 r) ≤ℤ pos 0) (raising 0 rows) (without 0 rows)
      (Each-weaken (λ r. Raises 0 r × Unit {0}) (λ r. neg_ℤ (coef 0 r) ≤ℤ pos 0) (λ r h. (let low = h.0 in omega (arith, ints))) (raising 0 rows) (part_raising 0 (λ r. Unit {0}) rows (anything rows)))
      (Each-weaken (λ r. (coef 0 r ≡ pos 0) × Unit {0}) (λ r. neg_ℤ (coef 0 r) ≤ℤ pos 0) (λ r h. (let e = h.0 in omega (arith, ints))) (without 0 rows) (part_without 0 (λ r. Unit {0}) rows (anything rows)))

  greatest_tight : (v q : ℤ) → pos 0 <ℤ q → Each (line v q) rows → (first : LinearRow) (more : List LinearRow) → lowering 0 rows ≡ first ∷ more
      → Tightest (λ r. neg_ℤ (coef 0 r)) (λ r. r.constant) (lowering 0 rows) (raising 0 rows ++ without 0 rows)
  unfolding turned
  greatest_tight v q scale h first more e =
      let all = Each-weaken (line v q) (turned (neg_ℤ v) q) (λ r x. turn v q r x) rows h in
      let lows = part_lowering 0 (turned (neg_ℤ v) q) rows all in
      let ups = part_raising 0 (turned (neg_ℤ v) q) rows all in
      let flats = part_without 0 (turned (neg_ℤ v) q) rows all in
      let positive = Each-weaken (λ r. Lowers 0 r × turned (neg_ℤ v) q r) (λ r. pos 0 <ℤ neg_ℤ (coef 0 r)) (λ r x. (let low = x.0 in omega (arith, ints))) (lowering 0 rows) lows in
      subst (λ rs. Tightest (λ r. neg_ℤ (coef 0 r)) (λ r. r.constant) rs (raising 0 rows ++ without 0 rows)) (sym e)
      (tight (λ r. neg_ℤ (coef 0 r)) (λ r. r.constant) first more (raising 0 rows ++ without 0 rows) (neg_ℤ v) q scale
      (subst (Each (λ r. pos 0 <ℤ neg_ℤ (coef 0 r))) e positive) flat_high
      (subst (Each (turned (neg_ℤ v) q)) e (seconds (Lowers 0) (turned (neg_ℤ v) q) (lowering 0 rows) lows))
      (joined (turned (neg_ℤ v) q) (raising 0 rows) (without 0 rows) (seconds (Raises 0) (turned (neg_ℤ v) q) (raising 0 rows) ups) (seconds (λ r. coef 0 r ≡ pos 0) (turned (neg_ℤ v) q) (without 0 rows) flats)))

  greatest_law : (k : ℤ) → least_upper rows ≡ Ok k → HasPoint s → IsGreatest s form k
  unfolding turned
  greatest_law k h has =
      let m = least_is rows k h in
      let w = greatest_tight (value_at form has.0 has.1.0) has.1.0 has.1.1.point.0 (lines has.0 has.1.0 has.1.1) m.first m.more m.rows in
      let d = w.best.constant in
      let c = neg_ℤ (coef 0 w.best) in
      let rest = w.others_met in
      let all = whole 0 (turned (neg_ℤ d) c) rows (front (turned (neg_ℤ d) c) (raising 0 rows) (without 0 rows) rest) w.ups_met (back (turned (neg_ℤ d) c) (raising 0 rows) (without 0 rows) rest) in
      let source = up d c (from_line rows s.vars d c w.positive (Each-weaken (turned (neg_ℤ d) c) (line d c) (λ r x. turn_back d c r x) rows all)) in
      let reach = w.reached (neg_ℤ k) (Each-weaken (λ r. k ≤ℤ upper_bound r) (λ r. neg_ℤ (upper_bound r) ≤ℤ neg_ℤ k) (λ r x. omega (arith, ints, x)) (lowering 0 rows) m.below) in
      record {
        p = source.p;
        q = source.t *ℤ c;
        found = source.point;
        reached = times source.t d k c (value_at form source.p (source.t *ℤ c)) source.positive reach source.value;
        greatest = λ j x y point at_least. m.over j (each_over j x y point at_least);
      }
    where
      times : (t v k c w : ℤ) → pos 0 <ℤ t → neg_ℤ v ≤ℤ (neg_ℤ k *ℤ c) → w ≡ t *ℤ v → (k *ℤ (t *ℤ c)) ≤ℤ w
      times t v k c w ht h e =
          let zero_up : neg_ℤ k *ℤ c ≡ neg_ℤ (k *ℤ c) = ring (Neg (Var k) ⊗ Var c) (Neg (Var k ⊗ Var c)) (omega arith) in
          let one = mul_le_right (k *ℤ c) v t (omega (arith, ints, h, zero_up)) (omega (arith, ints)) in
          let two : (k *ℤ c) *ℤ t ≡ k *ℤ (t *ℤ c) = ring (Var k ⊗ Var c ⊗ Var t) (Var k ⊗ (Var t ⊗ Var c)) (omega arith) in
          let three : v *ℤ t ≡ t *ℤ v = ring (Var v ⊗ Var t) (Var t ⊗ Var v) (omega arith) in
          omega (arith, ints, one, two, three, e)

      over_by : (r : LinearRow) (v y j : ℤ) → pos 0 <ℤ y → Lowers 0 r → line v y r → (j *ℤ y) ≤ℤ v → j ≤ℤ upper_bound r
      over_by r v y j scale low h g =
          let e : neg_ℤ j *ℤ y ≡ neg_ℤ (j *ℤ y) = ring (Neg (Var j) ⊗ Var y) (Neg (Var j ⊗ Var y)) (omega arith) in
          let one = bound_least (neg_ℤ (coef 0 r)) r.constant (neg_ℤ v) y (neg_ℤ j) (omega (arith, ints, low)) scale (turn v y r h) (omega (arith, ints, e, g)) in
          omega (arith, ints, one)

      each_over : (j : ℤ) (x : List ℤ) (y : ℤ) → PointOf s x y → (j *ℤ y) ≤ℤ value_at form x y → Each (λ r. j ≤ℤ upper_bound r) (lowering 0 rows)
      each_over j x y point at_least =
          Each-weaken (λ r. Lowers 0 r × line (value_at form x y) y r) (λ r. j ≤ℤ upper_bound r) (λ r h. over_by r (value_at form x y) y j point.point.0 h.0 h.1 at_least) (lowering 0 rows)
          (part_lowering 0 (line (value_at form x y) y) rows (lines x y point))

  -- ---- never
  module _ (last : List LinearRow) (end : step 0 rows ≡ Ok last) where
    one_step : steps_by tidied (0 ∷ []) rows ≡ Ok last
    unfolding step
    one_step = ap (λ w. w >>= (λ rs. Ok rs)) end

    within : Each (λ k. k < suc s.vars) (0 ∷ [])
    within = (omega arith, tt)

    but_first : (v : ℤ) → AgreesOutside (0 ∷ []) (v ∷ zeros s.vars) (zeros (suc s.vars))
    but_first v = record { as_long = refl; same = at }
      where
        at : (i : ℕ) → Each (λ k. ¬ (i ≡ k)) (0 ∷ []) → get_or (pos 0 ∷ zeros s.vars) i (pos 0) ≡ get_or (v ∷ zeros s.vars) i (pos 0)
        at zero out = absurd (out.0 refl)
        at (suc i) out = refl

    never_law : has_negative last ≡ true → HasNoPoint s
    never_law h = λ p q point.
        no_zeros_point last (suc s.vars) q h
        (projects_all (suc s.vars) tidied tidied_same (tidied_wide (suc s.vars)) (0 ∷ []) rows last within (rows_wide s form wide long both rows made run) one_step
        (value_at form p q ∷ zeros s.vars) (zeros (suc s.vars)) q (ap suc (length-zeros s.vars)) (down p q point) (but_first (value_at form p q)))

    -- what stands behind the first place of a lifted point of zeros
    rest_zero : (t : ℤ) (raised : List ℤ) → AgreesOutside (0 ∷ []) (scaled t (zeros (suc s.vars))) raised → raised ≡ get_or raised 0 (pos 0) ∷ zeros s.vars
    rest_zero t [] a = absurd (let l = a.as_long in let z = length-scaled t (zeros (suc s.vars)) in omega (arith, l, z))
    rest_zero t (v ∷ rest) a = ap (λ xs. v ∷ xs) (ext_get_or (pos 0) rest (zeros s.vars) l (λ i h. at i (omega (arith, l, h))))
      where
        l : length rest ≡ length (zeros s.vars)
        l = let e = a.as_long in let z = length-scaled t (zeros (suc s.vars)) in omega (arith, e, z)

        at : (i : ℕ) → i < length (zeros s.vars) → get_or rest i (pos 0) ≡ get_or (zeros s.vars) i (pos 0)
        at i h =
            a.same (suc i) ((λ e. let x : ⊥ = omega arith in x), tt) ∙ get-scaled t (zeros (suc s.vars)) (suc i) (omega arith)
            ∙ ap (λ z. t *ℤ z) (get-zeros (suc s.vars) (suc i)) ∙ ring (Var t ⊗ Var (pos 0)) (Var (pos 0)) (omega arith) ∙ sym (get-zeros s.vars i)

    pub some_law : has_negative last ≡ false → HasPoint s
    some_law h =
        let r = lifts_all (suc s.vars) tidied tidied_same (tidied_wide (suc s.vars)) (0 ∷ []) rows last within (rows_wide s form wide long both rows made run) one_step
        (zeros (suc s.vars)) (pos 1) (length-zeros (suc s.vars)) (zeros_point last (suc s.vars) h) in
        let v = get_or r.raised 0 (pos 0) in
        let source = up v (r.t *ℤ pos 1) (subst (λ xs. IsPoint rows xs (r.t *ℤ pos 1)) (rest_zero r.t r.raised r.agrees) r.point) in
        (source.p, (source.t *ℤ (r.t *ℤ pos 1), source.point))

-- ---- the answer
pub reach_tells : (s : LinearSystem) (form : LinearRow) (reach : Reach) → AreWide s.vars s.rows → length form.coefs ≡ s.vars → reach_of s form ≡ Ok reach → TellsReach s form reach
unfolding reach_of
reach_tells s form reach wide long h = by (nat_lt variable_limit (s.vars + 1)) h
  where
    bounds : List LinearRow → Result Reach Refusal
    bounds rows = greatest_lower rows >>= (λ least. least_upper rows >>= (λ greatest. Ok (between least greatest)))

    ended : List LinearRow → List LinearRow → Result Reach Refusal
    ended rows last = cond (has_negative last) (Ok never) (bounds rows)

    after : List LinearRow → Result Reach Refusal
    after both = steps (map suc (countdown s.vars)) (tidied both) >>= (λ rows. step 0 rows >>= ended rows)

    found : (both rows last : List LinearRow) → valued s form ≡ Ok both → steps (map suc (countdown s.vars)) (tidied both) ≡ Ok rows → step 0 rows ≡ Ok last → has_negative last ≡ false → bounds rows ≡ Ok reach → TellsReach s form reach
    found both rows last made run end e h =
        let has = some_law s form wide long both rows made run last end e in
        let one = ok_of (greatest_lower rows) (λ least. least_upper rows >>= (λ greatest. Ok (between least greatest))) reach h in
        let two = ok_of (least_upper rows) (λ greatest. Ok (between one.0 greatest)) reach one.1.1 in
        subst (TellsReach s form) (let f : between one.0 two.0 ≡ reach = cc in f) (least_law s form wide long both rows made run one.0 one.1.0 has, greatest_law s form wide long both rows made run two.0 two.1.0 has)

    decided : (both rows last : List LinearRow) → valued s form ≡ Ok both → steps (map suc (countdown s.vars)) (tidied both) ≡ Ok rows → step 0 rows ≡ Ok last → (b : Bool) → has_negative last ≡ b → cond b (Ok never) (bounds rows) ≡ Ok reach → TellsReach s form reach
    decided both rows last made run end true e h = subst (TellsReach s form) (let f : never ≡ reach = cc in f) (never_law s form wide long both rows made run last end e)
    decided both rows last made run end false e h = found both rows last made run end e h

    by : (b : Bool) → cond b (Err too_many) (valued s form >>= after) ≡ Ok reach → TellsReach s form reach
    by true h = absurd (let x : ⊥ = cc in x)
    by false h =
        let one = ok_of (valued s form) after reach h in
        let two = ok_of (steps (map suc (countdown s.vars)) (tidied one.0)) (λ rows. step 0 rows >>= ended rows) reach one.1.1 in
        let three = ok_of (step 0 two.0) (ended two.0) reach two.1.1 in
        decided one.0 two.0 three.0 one.1.0 two.1.0 three.1.0 (has_negative three.0) refl three.1.1
