-- The loops over the terms of a form and over the places of a region.
use Rattle.std.proofs.Common.{◌≡◌, ℕ, zero, suc, ◌+◌, ◌<◌, ◌≤◌, Bool, true, false, cond, List, [], ◌∷◌, ◌++◌, length, drop, get_or, Option, Some, None, ℤ, pos, refl, sym, ◌∙◌, ap, arith, append_assoc}
use Rattle.std.specs.Prelude.{option_map}
use Rattle.std.specs.Ordering.{int_eq}
use Rattle.affine_expr.specs.declared.map.Interval.{Interval}
use Rattle.affine_expr.specs.Spread.{Range, only}
use Rattle.affine_expr.specs.Bounded.{◌>>=◌, range_at, ranges}
use Rattle.nest_domain.specs.Boxes.{Dimension}
use Rattle.place_intervals.specs.Places.{place_range, with_range, place_ranges}
use Rattle.place_intervals.specs.TermRanges.{first_range, added_range, numbered_range, head, tail, terms_range, form_range, next_range, step_range, form_from}

drop_at : (cs : List ℤ) (i : ℕ) (a : ℤ) → i < length cs → a ≡ get_or cs i (pos 0) → drop i cs ≡ a ∷ drop (i + 1) cs
drop_at cs i a h e = step cs i h e ∙ (λ j. a ∷ drop (one j) cs)
  where
    one : suc i ≡ i + 1
    one = omega arith

    step : (cs : List ℤ) (i : ℕ) → i < length cs → a ≡ get_or cs i (pos 0) → drop i cs ≡ a ∷ drop (suc i) cs
    step [] i h e = absurd (omega (arith, h))
    step (c ∷ cs) zero h e = ap (λ x. x ∷ cs) (sym e)
    step (c ∷ cs) (suc i) h e = step cs i (omega (arith, h)) e

tail_drop : (rs : List Range) (i : ℕ) → tail (drop i rs) ≡ drop (i + 1) rs
tail_drop rs i = step rs i ∙ (λ j. drop (one j) rs)
  where
    one : suc i ≡ i + 1
    one = omega arith

    step : (rs : List Range) (i : ℕ) → tail (drop i rs) ≡ drop (suc i) rs
    step [] zero = refl
    step [] (suc i) = refl
    step (r ∷ rs) zero = refl
    step (r ∷ rs) (suc i) = step rs i

module _ (cs : List ℤ) (k : ℤ) (rs : List Range) (i : ℕ) (a : ℤ) (h : i < length cs) (e : a ≡ get_or cs i (pos 0)) where
  here : (s : Option Range) → form_from s (drop i cs) k (drop i rs) ≡ form_from s (a ∷ drop (i + 1) cs) k (drop i rs)
  here s = ap (λ xs. form_from s xs k (drop i rs)) (drop_at cs i a h e)

  pub zero_turn : (s : Option Range) → int_eq a (pos 0) ≡ true → form_from s (drop i cs) k (drop i rs) ≡ form_from s (drop (i + 1) cs) k (drop (i + 1) rs)
  zero_turn s z = here s ∙ by s ∙ ap (λ xs. form_from s (drop (i + 1) cs) k xs) (tail_drop rs i)
    where
      by : (s : Option Range) → form_from s (a ∷ drop (i + 1) cs) k (drop i rs) ≡ form_from s (drop (i + 1) cs) k (tail (drop i rs))
      by None = ap (λ b. cond b (form_range (drop (i + 1) cs) k (tail (drop i rs))) (first_range (head (drop i rs)) a >>= (λ x. terms_range x (drop (i + 1) cs) (tail (drop i rs)) >>= (λ y. numbered_range y k)))) z
      by (Some x) = ap (λ b. cond b (terms_range x (drop (i + 1) cs) (tail (drop i rs))) (added_range x (head (drop i rs)) a >>= (λ y. terms_range y (drop (i + 1) cs) (tail (drop i rs)))) >>= (λ y. numbered_range y k)) z

  step : (s : Option Range) → int_eq a (pos 0) ≡ false → form_from s (drop i cs) k (drop i rs) ≡ (next_range s (head (drop i rs)) a >>= (λ x. form_from (Some x) (drop (i + 1) cs) k (drop (i + 1) rs)))
  step s z = here s ∙ by s ∙ ap (λ xs. next_range s (head (drop i rs)) a >>= (λ x. form_from (Some x) (drop (i + 1) cs) k xs)) (tail_drop rs i)
    where
      chained : (w : Option Range) (f g : Range → Option Range) → ((w >>= f) >>= g) ≡ (w >>= (λ x. f x >>= g))
      chained None f g = refl
      chained (Some x) f g = refl

      by : (s : Option Range) → form_from s (a ∷ drop (i + 1) cs) k (drop i rs) ≡ (next_range s (head (drop i rs)) a >>= (λ x. form_from (Some x) (drop (i + 1) cs) k (tail (drop i rs))))
      by None = ap (λ b. cond b (form_range (drop (i + 1) cs) k (tail (drop i rs))) (first_range (head (drop i rs)) a >>= (λ x. terms_range x (drop (i + 1) cs) (tail (drop i rs)) >>= (λ y. numbered_range y k)))) z
      by (Some x) = ap (λ b. cond b (terms_range x (drop (i + 1) cs) (tail (drop i rs))) (added_range x (head (drop i rs)) a >>= (λ y. terms_range y (drop (i + 1) cs) (tail (drop i rs)))) >>= (λ y. numbered_range y k)) z
          ∙ chained (added_range x (head (drop i rs)) a) (λ y. terms_range y (drop (i + 1) cs) (tail (drop i rs))) (λ y. numbered_range y k)

  pub turn : (s t : Option Range) → Some t ≡ step_range s (head (drop i rs)) a → form_from s (drop i cs) k (drop i rs) ≡ form_from t (drop (i + 1) cs) k (drop (i + 1) rs)
  turn s t n = by (int_eq a (pos 0)) refl n
    where
      by : (b : Bool) → int_eq a (pos 0) ≡ b → Some t ≡ cond b (Some s) (option_map (λ x. Some x) (next_range s (head (drop i rs)) a)) → form_from s (drop i cs) k (drop i rs) ≡ form_from t (drop (i + 1) cs) k (drop (i + 1) rs)
      by true z n = zero_turn s z ∙ ap (λ u. form_from u (drop (i + 1) cs) k (drop (i + 1) rs)) (let e : s ≡ t = cc in e)
      by false z n = more (next_range s (head (drop i rs)) a) refl n
        where
          more : (w : Option Range) → next_range s (head (drop i rs)) a ≡ w → Some t ≡ option_map (λ x. Some x) w → form_from s (drop i cs) k (drop i rs) ≡ form_from t (drop (i + 1) cs) k (drop (i + 1) rs)
          more None e n = absurd (let q : ⊥ = cc in q)
          more (Some x) e n = step s z ∙ ap (λ w. w >>= (λ x. form_from (Some x) (drop (i + 1) cs) k (drop (i + 1) rs))) e ∙ ap (λ u. form_from u (drop (i + 1) cs) k (drop (i + 1) rs)) (let q : Some x ≡ t = cc in q)

  pub stop : (s : Option Range) → None ≡ step_range s (head (drop i rs)) a → None ≡ form_from s (drop i cs) k (drop i rs)
  stop s n = by (int_eq a (pos 0)) refl n
    where
      by : (b : Bool) → int_eq a (pos 0) ≡ b → None ≡ cond b (Some s) (option_map (λ x. Some x) (next_range s (head (drop i rs)) a)) → None ≡ form_from s (drop i cs) k (drop i rs)
      by true z n = absurd (let q : ⊥ = cc in q)
      by false z n = more (next_range s (head (drop i rs)) a) refl n
        where
          more : (w : Option Range) → next_range s (head (drop i rs)) a ≡ w → None ≡ option_map (λ x. Some x) w → None ≡ form_from s (drop i cs) k (drop i rs)
          more (Some x) e n = absurd (let q : ⊥ = cc in q)
          more None e n = sym (step s z ∙ ap (λ w. w >>= (λ x. form_from (Some x) (drop (i + 1) cs) k (drop (i + 1) rs))) e)

pub step_zero : (s : Option Range) (r : Range) (a : ℤ) → a ≡ pos 0 → Some s ≡ step_range s r a
step_zero s r a e = λ i. step_range s r (sym e i)

pub step_none : (s : Option Range) (r : Range) (a : ℤ) → int_eq a (pos 0) ≡ false → None ≡ next_range s r a → None ≡ step_range s r a
step_none s r a z n = sym (ap (λ b. cond b (Some s) (option_map (λ x. Some x) (next_range s r a))) z ∙ ap (option_map (λ x. Some x)) (sym n))

pub step_some : (s : Option Range) (r x : Range) (a : ℤ) → int_eq a (pos 0) ≡ false → Some x ≡ next_range s r a → Some (Some x) ≡ step_range s r a
step_some s r x a z n = sym (ap (λ b. cond b (Some s) (option_map (λ x. Some x) (next_range s r a))) z ∙ ap (option_map (λ x. Some x)) (sym n))

pub ended : (cs : List ℤ) (i : ℕ) → length cs ≤ i → drop i cs ≡ []
ended [] zero h = refl
ended [] (suc i) h = refl
ended (c ∷ cs) zero h = absurd (omega (arith, h))
ended (c ∷ cs) (suc i) h = ended cs i (omega (arith, h))

-- ---- the places of a region
abbrev pub before : List Range → Option (List Range) → Option (List Range)
before xs None = None
before xs (Some ys) = Some (xs ++ ys)

ranges_append : (xs ys : List Interval) → ranges (xs ++ ys) ≡ ranges xs ++ ranges ys
ranges_append [] ys = refl
ranges_append (x ∷ xs) ys = ap (λ (rs : List Range). range_at x ∷ rs) (ranges_append xs ys)

module _ (outer : List Range) where
  places_at : (sizes : List ℕ) (ds : List Dimension) (i : ℕ) (d : Dimension) (n : ℕ) → i < length ds → i < length sizes → d ≡ get_or ds i d → n ≡ get_or sizes i n
      → place_ranges outer (drop i sizes) (drop i ds) ≡ with_range (place_range outer n d) (place_ranges outer (drop (suc i) sizes) (drop (suc i) ds))
  places_at [] ds i d n a b p q = absurd (omega (arith, b))
  places_at (m ∷ sizes) [] i d n a b p q = absurd (omega (arith, a))
  places_at (m ∷ sizes) (e ∷ ds) zero d n a b p q = λ j. with_range (place_range outer (sym q j) (sym p j)) (place_ranges outer sizes ds)
  places_at (m ∷ sizes) (e ∷ ds) (suc i) d n a b p q = places_at sizes ds i d n (omega (arith, a)) (omega (arith, b)) p q

  module _ (sizes : List ℕ) (ds : List Dimension) (i : ℕ) (d : Dimension) (n : ℕ) (a : i < length ds) (b : i < length sizes) (p : d ≡ get_or ds i d) (q : n ≡ get_or sizes i n) where
    one : suc i ≡ i + 1
    one = omega arith

    pub places_turn : (out : List Interval) (r : Interval) → Some (range_at r) ≡ place_range outer n d
        → before (ranges out) (place_ranges outer (drop i sizes) (drop i ds)) ≡ before (ranges (out ++ r ∷ [])) (place_ranges outer (drop (i + 1) sizes) (drop (i + 1) ds))
    unfolding one
    places_turn out r e =
        ap (before (ranges out)) (places_at sizes ds i d n a b p q ∙ ap (λ w. with_range w (place_ranges outer (drop (suc i) sizes) (drop (suc i) ds))) (sym e))
        ∙ by (place_ranges outer (drop (suc i) sizes) (drop (suc i) ds))
        ∙ (λ j. before (ranges (out ++ r ∷ [])) (place_ranges outer (drop (one j) sizes) (drop (one j) ds)))
      where
        by : (w : Option (List Range)) → before (ranges out) (with_range (Some (range_at r)) w) ≡ before (ranges (out ++ r ∷ [])) w
        by None = refl
        by (Some ys) = ap Some (sym (append_assoc (ranges out) (range_at r ∷ []) ys) ∙ ap (λ (xs : List Range). xs ++ ys) (sym (ranges_append out (r ∷ []))))

    pub places_stop : None ≡ place_range outer n d → place_ranges outer (drop i sizes) (drop i ds) ≡ None
    places_stop e = places_at sizes ds i d n a b p q ∙ ap (λ w. with_range w (place_ranges outer (drop (suc i) sizes) (drop (suc i) ds))) (sym e)

  pub places_ended : (sizes : List ℕ) (ds : List Dimension) (i : ℕ) → length ds ≤ i → place_ranges outer (drop i sizes) (drop i ds) ≡ Some []
  places_ended sizes ds i h = ap (place_ranges outer (drop i sizes)) (past ds i h) ∙ empty (drop i sizes)
    where
      empty : (sizes : List ℕ) → place_ranges outer sizes [] ≡ Some []
      empty [] = refl
      empty (n ∷ sizes) = refl

      past : (ds : List Dimension) (i : ℕ) → length ds ≤ i → drop i ds ≡ []
      past [] zero h = refl
      past [] (suc i) h = refl
      past (d ∷ ds) zero h = absurd (omega (arith, h))
      past (d ∷ ds) (suc i) h = past ds i (omega (arith, h))

pub places_over : (outer : List Range) (sizes : List ℕ) (ds : List Dimension) (i : ℕ) → length sizes ≤ i → place_ranges outer (drop i sizes) (drop i ds) ≡ Some []
places_over outer sizes ds i h = ap (λ xs. place_ranges outer xs (drop i ds)) (past sizes i h)
  where
    past : (sizes : List ℕ) (i : ℕ) → length sizes ≤ i → drop i sizes ≡ []
    past [] zero h = refl
    past [] (suc i) h = refl
    past (n ∷ sizes) zero h = absurd (omega (arith, h))
    past (n ∷ sizes) (suc i) h = past sizes i (omega (arith, h))

pub head_in : (xs : List Interval) (i : ℕ) (d : Interval) → i < length xs → range_at (get_or xs i d) ≡ head (drop i (ranges xs))
head_in [] i d h = absurd (omega (arith, h))
head_in (x ∷ xs) zero d h = refl
head_in (x ∷ xs) (suc i) d h = head_in xs i d (omega (arith, h))

pub head_out : (xs : List Interval) (i : ℕ) → length xs ≤ i → only (pos 0) ≡ head (drop i (ranges xs))
head_out [] zero h = refl
head_out [] (suc i) h = refl
head_out (x ∷ xs) zero h = absurd (omega (arith, h))
head_out (x ∷ xs) (suc i) h = head_out xs i (omega (arith, h))
