-- Which dimension is made whole.
use Rattle.std.proofs.Common.{◌≡◌, ℕ, zero, suc, ◌+◌, ◌-◌, ◌<◌, ◌≤◌, Bool, true, false, cond, List, [], ◌∷◌, length, drop, set, get_or, pos, refl, sym, ◌∙◌, ap, arith}
use Rattle.nest_domain.specs.Boxes.{Dimension}
use Rattle.access_region.specs.declared.widening.Shape.{Shape}
use Rattle.access_region.specs.Widening.{Side, sides, is_whole, shape_over, shape, is_mixed, all_whole, whole_dim, made_whole, last_whole, widened_by, dims_of, widened}
use Rattle.access_region.specs.Widened.{whole_at}

abbrev pub side : Dimension → ℕ → Side
side d n = record { dim = d; size = pos n }

-- the sides from a number on
pub sides_from : (ds : List Dimension) (ns : List ℕ) (k : ℕ) (d : Dimension) (n : ℕ) → k < length ds → k < length ns → d ≡ get_or ds k d → n ≡ get_or ns k n → sides (drop k ds) (drop k ns) ≡ side d n ∷ sides (drop (suc k) ds) (drop (suc k) ns)
sides_from [] ns k d n a b p q = absurd (omega (arith, a))
sides_from (x ∷ ds) [] k d n a b p q = absurd (omega (arith, b))
sides_from (x ∷ ds) (y ∷ ns) zero d n a b p q = λ i. side (sym p i) (sym q i) ∷ sides ds ns
sides_from (x ∷ ds) (y ∷ ns) (suc k) d n a b p q = sides_from ds ns k d n (omega (arith, a)) (omega (arith, b)) p q

pub shape_turn : (ds : List Dimension) (ns : List ℕ) (k : ℕ) (d : Dimension) (n : ℕ) (w : Shape) → k < length ds → k < length ns → d ≡ get_or ds k d → n ≡ get_or ns k n → shape (sides (drop (k + 1) ds) (drop (k + 1) ns)) ≡ w → shape (sides (drop k ds) (drop k ns)) ≡ shape_over (side d n) w
unfolding shape
shape_turn ds ns k d n w a b p q h =
    ap shape (sides_from ds ns k d n a b p q) ∙ ap (shape_over (side d n)) ((λ i. shape (sides (drop (one i) ds) (drop (one i) ns))) ∙ h)
  where
    one : suc k ≡ k + 1
    one = omega arith

-- whether each dimension behind a number is whole
pub all_from : (ds : List Dimension) (ns : List ℕ) (k : ℕ) (d : Dimension) (n : ℕ) → k < length ds → k < length ns → d ≡ get_or ds k d → n ≡ get_or ns k n → is_whole (side d n) ≡ true → all_whole (sides (drop (k + 1) ds) (drop (k + 1) ns)) ≡ true → all_whole (sides (drop k ds) (drop k ns)) ≡ true
all_from ds ns k d n a b p q h r =
    ap all_whole (sides_from ds ns k d n a b p q) ∙ ap (λ c. cond c (all_whole (sides (drop (suc k) ds) (drop (suc k) ns))) false) h ∙ (λ i. all_whole (sides (drop (one i) ds) (drop (one i) ns))) ∙ r
  where
    one : suc k ≡ k + 1
    one = omega arith

partial : (ds : List Dimension) (ns : List ℕ) (k : ℕ) (d : Dimension) (n : ℕ) → k < length ds → k < length ns → d ≡ get_or ds k d → n ≡ get_or ns k n → is_whole (side d n) ≡ false → all_whole (sides ds ns) ≡ false
partial [] ns k d n a b p q h = absurd (omega (arith, a))
partial (x ∷ ds) [] k d n a b p q h = absurd (omega (arith, b))
partial (x ∷ ds) (y ∷ ns) zero d n a b p q h = (λ i. cond (is_whole (side (sym p i) (sym q i))) (all_whole (sides ds ns)) false) ∙ ap (λ c. cond c (all_whole (sides ds ns)) false) h
partial (x ∷ ds) (y ∷ ns) (suc k) d n a b p q h = by (is_whole (side x y)) (partial ds ns k d n (omega (arith, a)) (omega (arith, b)) p q h)
  where
    by : (c : Bool) → all_whole (sides ds ns) ≡ false → cond c (all_whole (sides ds ns)) false ≡ false
    by true e = e
    by false e = refl

-- where no dimension behind is partial, the first one is made whole
pub first_made : (ds : List Dimension) (ns : List ℕ) → 0 < length ds → length ds ≡ length ns → all_whole (sides (drop 1 ds) (drop 1 ns)) ≡ true → sides (whole_at 0 ds ns) ns ≡ last_whole (sides ds ns)
first_made [] ns a s h = absurd (omega (arith, a))
first_made (d ∷ ds) [] a s h = absurd (omega (arith, s))
first_made (d ∷ ds) (n ∷ ns) a s h = sym (ap (λ c. cond c (made_whole (side d n) ∷ sides ds ns) (side d n ∷ last_whole (sides ds ns))) h)

-- and else the last partial one
pub partial_made : (ds : List Dimension) (ns : List ℕ) (k : ℕ) (d : Dimension) (n : ℕ) → k < length ds → length ds ≡ length ns → d ≡ get_or ds k d → n ≡ get_or ns k n → is_whole (side d n) ≡ false → all_whole (sides (drop (k + 1) ds) (drop (k + 1) ns)) ≡ true → sides (whole_at k ds ns) ns ≡ last_whole (sides ds ns)
partial_made [] ns k d n a s p q h r = absurd (omega (arith, a))
partial_made (x ∷ ds) [] k d n a s p q h r = absurd (omega (arith, s))
partial_made (x ∷ ds) (y ∷ ns) zero d n a s p q h r = first_made (x ∷ ds) (y ∷ ns) a s r
partial_made (x ∷ ds) (y ∷ ns) (suc k) d n a s p q h r =
    let here = partial ds ns k d n (omega (arith, a)) (omega (arith, a, s)) p q h in
    ap (λ (xs : List Side). side x y ∷ xs) (partial_made ds ns k d n (omega (arith, a)) (omega (arith, s)) p q h ((λ i. all_whole (sides (drop (one i) (x ∷ ds)) (drop (one i) (y ∷ ns)))) ∙ r))
    ∙ sym (ap (λ c. cond c (made_whole (side x y) ∷ sides ds ns) (side x y ∷ last_whole (sides ds ns))) here)
  where
    one : suc (k + 1) ≡ suc k + 1
    one = omega arith

pub whole_is_set : (k : ℕ) (ds : List Dimension) (ns : List ℕ) (d w : Dimension) (n : ℕ) → k < length ds → length ds ≡ length ns → d ≡ get_or ds k d → n ≡ get_or ns k n → w ≡ whole_dim d (pos n) → set ds k w ≡ whole_at k ds ns
whole_is_set k [] ns d w n a s p q e = absurd (omega (arith, a))
whole_is_set k (x ∷ ds) [] d w n a s p q e = absurd (omega (arith, s))
whole_is_set zero (x ∷ ds) (y ∷ ns) d w n a s p q e = ap (λ (v : Dimension). v ∷ ds) e ∙ (λ i. whole_dim (p i) (pos (q i)) ∷ ds)
whole_is_set (suc k) (x ∷ ds) (y ∷ ns) d w n a s p q e = ap (λ (vs : List Dimension). x ∷ vs) (whole_is_set k ds ns d w n (omega (arith, a)) (omega (arith, s)) p q e)

-- ---- all of it
dims_sides : (ds : List Dimension) (ns : List ℕ) → length ds ≡ length ns → dims_of (sides ds ns) ≡ ds
dims_sides [] ns s = refl
dims_sides (d ∷ ds) [] s = absurd (omega (arith, s))
dims_sides (d ∷ ds) (n ∷ ns) s = ap (λ (xs : List Dimension). d ∷ xs) (dims_sides ds ns (omega (arith, s)))

pub widened_end : (ds now : List Dimension) (ns : List ℕ) → length now ≡ length ns → widened_by (length ds) (sides ds ns) ≡ sides now ns → now ≡ widened ds ns
unfolding widened
widened_end ds now ns s h = sym (ap dims_of h ∙ dims_sides now ns s)

pub widened_turn : (n : ℕ) (k : ℕ) (xs ys : List Side) → k < n → is_mixed (shape xs) ≡ true → ys ≡ last_whole xs → widened_by (n - k) xs ≡ widened_by (n - (k + 1)) ys
widened_turn n k xs ys l m e =
    ap (λ j. widened_by j xs) (step n k l) ∙ ap (λ c. cond c (widened_by (n - (k + 1)) (last_whole xs)) xs) m ∙ ap (widened_by (n - (k + 1))) (sym e)
  where
    step : (n k : ℕ) → k < n → n - k ≡ suc (n - (k + 1))
    step n k l = omega (arith, l)

pub widened_stop : (n : ℕ) (xs : List Side) → is_mixed (shape xs) ≡ false → widened_by n xs ≡ xs
widened_stop zero xs m = refl
widened_stop (suc n) xs m = ap (λ c. cond c (widened_by n (last_whole xs)) xs) m

pub same_size : (ns : List ℕ) (k a b : ℕ) → k < length ns → get_or ns k a ≡ get_or ns k b
same_size [] k a b h = absurd (omega (arith, h))
same_size (n ∷ ns) zero a b h = refl
same_size (n ∷ ns) (suc k) a b h = same_size ns k a b (omega (arith, h))

pub shape_end : (ds : List Dimension) (ns : List ℕ) (k : ℕ) → length ds ≤ k → shape (sides (drop k ds) ns) ≡ Rattle.access_region.specs.declared.widening.Shape.TheVariants.Whole
unfolding shape
shape_end [] ns zero h = refl
shape_end [] ns (suc k) h = refl
shape_end (d ∷ ds) ns zero h = absurd (omega (arith, h))
shape_end (d ∷ ds) ns (suc k) h = shape_end ds ns k (omega (arith, h))

pub widened_done : (n k : ℕ) (xs : List Side) → n ≤ k → widened_by (n - k) xs ≡ xs
widened_done n k xs h = ap (λ m. widened_by m xs) (none n k h)
  where
    none : (n k : ℕ) → n ≤ k → n - k ≡ 0
    none n k h = omega (arith, h)
