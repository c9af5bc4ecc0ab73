-- The loops over expressions that have to keep to the limits.
use Rattle.std.proofs.Common.{◌≡◌, ℕ, zero, suc, ◌+◌, ◌<◌, ◌≤◌, true, ◌&&◌, List, [], ◌∷◌, length, drop, get_or, pos, ◌+ℤ◌, ◌-ℤ◌, refl, sym, ◌∙◌, ap, arith}
use Rattle.affine_expr.specs.declared.map.Interval.{Interval}
use Rattle.affine_expr.specs.Spread.{Range}
use Rattle.affine_expr.specs.Bounded.{ranges}
use Rattle.nest_domain.specs.Boxes.{Dimension}
use Rattle.place_intervals.specs.Places.{fits, copies_fit, subscripts_fit}

pub copies_turn : (ds : List Dimension) (rs : List Interval) (i : ℕ) (d : Dimension) (r : Interval) → i < length ds → i < length rs → d ≡ get_or ds i d → r ≡ get_or rs i r
    → copies_fit (drop i ds) (ranges (drop i rs)) ≡ (fits r.least (r.greatest +ℤ (d.extent -ℤ pos 1)) && copies_fit (drop (i + 1) ds) (ranges (drop (i + 1) rs)))
copies_turn ds rs i d r a b p q = step ds rs i a b p q ∙ (λ j. fits r.least (r.greatest +ℤ (d.extent -ℤ pos 1)) && copies_fit (drop (one j) ds) (ranges (drop (one j) rs)))
  where
    one : suc i ≡ i + 1
    one = omega arith

    step : (ds : List Dimension) (rs : List Interval) (i : ℕ) → i < length ds → i < length rs → d ≡ get_or ds i d → r ≡ get_or rs i r
        → copies_fit (drop i ds) (ranges (drop i rs)) ≡ (fits r.least (r.greatest +ℤ (d.extent -ℤ pos 1)) && copies_fit (drop (suc i) ds) (ranges (drop (suc i) rs)))
    step [] rs i a b p q = absurd (omega (arith, a))
    step (x ∷ ds) [] i a b p q = absurd (omega (arith, b))
    step (x ∷ ds) (y ∷ rs) zero a b p q = λ j. fits (sym q j).least ((sym q j).greatest +ℤ ((sym p j).extent -ℤ pos 1)) && copies_fit ds (ranges rs)
    step (x ∷ ds) (y ∷ rs) (suc i) a b p q = step ds rs i (omega (arith, a)) (omega (arith, b)) p q

pub copies_ended : (ds : List Dimension) (rs : List Interval) (i : ℕ) → length rs ≤ i → copies_fit (drop i ds) (ranges (drop i rs)) ≡ true
copies_ended ds rs i h = ap (λ xs. copies_fit (drop i ds) (ranges xs)) (past rs i h) ∙ empty (drop i ds)
  where
    empty : (ds : List Dimension) → copies_fit ds [] ≡ true
    empty [] = refl
    empty (d ∷ ds) = refl

    past : (rs : List Interval) (i : ℕ) → length rs ≤ i → drop i rs ≡ []
    past [] zero h = refl
    past [] (suc i) h = refl
    past (d ∷ rs) zero h = absurd (omega (arith, h))
    past (d ∷ rs) (suc i) h = past rs i (omega (arith, h))

pub subscripts_turn : (es rs : List Interval) (i : ℕ) (e r : Interval) → i < length es → i < length rs → e ≡ get_or es i e → r ≡ get_or rs i r
    → subscripts_fit (ranges (drop i es)) (ranges (drop i rs)) ≡ (fits (e.least -ℤ r.greatest) (e.greatest -ℤ r.least) && subscripts_fit (ranges (drop (i + 1) es)) (ranges (drop (i + 1) rs)))
subscripts_turn es rs i e r a b p q = step es rs i a b p q ∙ (λ j. fits (e.least -ℤ r.greatest) (e.greatest -ℤ r.least) && subscripts_fit (ranges (drop (one j) es)) (ranges (drop (one j) rs)))
  where
    one : suc i ≡ i + 1
    one = omega arith

    step : (es rs : List Interval) (i : ℕ) → i < length es → i < length rs → e ≡ get_or es i e → r ≡ get_or rs i r
        → subscripts_fit (ranges (drop i es)) (ranges (drop i rs)) ≡ (fits (e.least -ℤ r.greatest) (e.greatest -ℤ r.least) && subscripts_fit (ranges (drop (suc i) es)) (ranges (drop (suc i) rs)))
    step [] rs i a b p q = absurd (omega (arith, a))
    step (x ∷ es) [] i a b p q = absurd (omega (arith, b))
    step (x ∷ es) (y ∷ rs) zero a b p q = λ j. fits ((sym p j).least -ℤ (sym q j).greatest) ((sym p j).greatest -ℤ (sym q j).least) && subscripts_fit (ranges es) (ranges rs)
    step (x ∷ es) (y ∷ rs) (suc i) a b p q = step es rs i (omega (arith, a)) (omega (arith, b)) p q

past : (rs : List Interval) (i : ℕ) → length rs ≤ i → drop i rs ≡ []
past [] zero h = refl
past [] (suc i) h = refl
past (d ∷ rs) zero h = absurd (omega (arith, h))
past (d ∷ rs) (suc i) h = past rs i (omega (arith, h))

pub subscripts_ended : (es rs : List Interval) (i : ℕ) → length es ≤ i → subscripts_fit (ranges (drop i es)) (ranges (drop i rs)) ≡ true
subscripts_ended es rs i h = ap (λ xs. subscripts_fit (ranges xs) (ranges (drop i rs))) (past es i h)

pub subscripts_over : (es rs : List Interval) (i : ℕ) → length rs ≤ i → subscripts_fit (ranges (drop i es)) (ranges (drop i rs)) ≡ true
subscripts_over es rs i h = ap (λ xs. subscripts_fit (ranges (drop i es)) (ranges xs)) (past rs i h) ∙ empty (ranges (drop i es))
  where
    empty : (es : List Range) → subscripts_fit es [] ≡ true
    empty [] = refl
    empty (e ∷ es) = refl

pub copies_over : (ds : List Dimension) (rs : List Interval) (i : ℕ) → length ds ≤ i → copies_fit (drop i ds) (ranges (drop i rs)) ≡ true
copies_over ds rs i h = ap (λ xs. copies_fit xs (ranges (drop i rs))) (none ds i h)
  where
    none : (ds : List Dimension) (i : ℕ) → length ds ≤ i → drop i ds ≡ []
    none [] zero h = refl
    none [] (suc i) h = refl
    none (d ∷ ds) zero h = absurd (omega (arith, h))
    none (d ∷ ds) (suc i) h = none ds i (omega (arith, h))

pub same_at : {A : Type 0} (xs : List A) (k : ℕ) (a b : A) → k < length xs → get_or xs k a ≡ get_or xs k b
same_at [] k a b h = absurd (omega (arith, h))
same_at (x ∷ xs) zero a b h = refl
same_at (x ∷ xs) (suc k) a b h = same_at xs k a b (omega (arith, h))
