-- The memory of a sample fits its module; and rows and columns, one more at a time.
use Rattle.std.proofs.Common.{◌≡◌, ℕ, zero, suc, ◌+◌, ◌*◌, ◌%◌, ◌<◌, ℤ, pos, List, [], ◌∷◌, ◌++◌, map, length, refl, sym, ap, ◌∙◌, arith}
use Rattle.std.specs.List.{All, flat_map, range_with_len}
use Rattle.std.proofs.lemmas.Int.{ints}
use Rattle.std.proofs.lemmas.List.Elements.{All-nil, All-cons, All-append}
use Rattle.std.proofs.lemmas.List.FromFn.{length-map-range_with_len, map-range_with_len_more}
use Rattle.direct_meaning.specs.Memory.{Fits}
use Rattle.int_ops.specs.Wrapped.{InRange}
use Rattle.case_gen.specs.Sample.{product, memory, in_a, in_b, in_c}

in_range : (z : ℕ) → z < 100 → InRange 32 (pos z)
in_range z l = record { least = omega (arith, ints); most = omega (arith, ints, l) }

all_in_row : (f : ℕ → ℕ) (a n : ℕ) → ((j : ℕ) → f j < 100) → All (InRange 32) (map (λ j. pos (f j)) (range_with_len a n))
all_in_row f a zero h = All-nil (InRange 32)
all_in_row f a (suc n) h = All-cons (InRange 32) (pos (f a)) (map (λ j. pos (f j)) (range_with_len (a + 1) n)) (in_range (f a) (h a)) (all_in_row f (a + 1) n h)

-- the rows of a matrix from one on
abbrev rows : (ℕ → ℕ → ℕ) → ℕ → ℕ → ℕ → List ℤ
rows f width a n = flat_map (λ i. map (λ j. pos (f i j)) (range_with_len 0 width)) (range_with_len a n)

all_in_rows : (f : ℕ → ℕ → ℕ) (width a n : ℕ) → ((i j : ℕ) → f i j < 100) → All (InRange 32) (rows f width a n)
all_in_rows f width a zero h = All-nil (InRange 32)
all_in_rows f width a (suc n) h = All-append (InRange 32) (map (λ j. pos (f a j)) (range_with_len 0 width)) (rows f width (a + 1) n) (all_in_row (f a) 0 width (h a)) (all_in_rows f width (a + 1) n h)

length_rows : (f : ℕ → ℕ → ℕ) (width a n : ℕ) → length (rows f width a n) ≡ n * width
length_rows f width a zero = omega arith
length_rows f width a (suc n) =
    let row = length-map-range_with_len (λ j. pos (f a j)) 0 width in
    let more = length_rows f width (a + 1) n in
    length_append (map (λ j. pos (f a j)) (range_with_len 0 width)) (rows f width (a + 1) n) ∙ (λ i. row i + more i) ∙ times n width
  where
    length_append : (xs ys : List ℤ) → length (xs ++ ys) ≡ length xs + length ys
    length_append [] ys = omega arith
    length_append (x ∷ xs) ys = ap suc (length_append xs ys) ∙ omega arith

    times : (n width : ℕ) → width + n * width ≡ suc n * width
    times n width = omega arith

pub fits : (number n : ℕ) → Fits (product n) (memory number n)
fits number n = record {
  fits = (
    length_rows (in_a number n) n 0 n ∙ square n,
    all_in_rows (in_a number n) n 0 n (λ i j. omega arith),
    (length_rows in_b n 0 n ∙ square n, all_in_rows in_b n 0 n (λ i j. omega arith), (length_rows in_c n 0 n ∙ square n, all_in_rows in_c n 0 n (λ i j. omega arith), (refl, refl))),
  );
}
  where
    square : (n : ℕ) → n * n ≡ n * (n * 1)
    square n = ap (λ m. n * m) (omega arith)

-- ---- One more

pub row_more : (f : ℕ → ℤ) (n : ℕ) (before now later : List ℤ) → now ≡ before ++ map f (range_with_len 0 n) → later ≡ now ++ f n ∷ [] → later ≡ before ++ map f (range_with_len 0 (n + 1))
row_more f n before now later h k =
    k ∙ ap (λ l. l ++ f n ∷ []) h ∙ append_assoc before (map f (range_with_len 0 n)) (f n ∷ []) ∙ ap (λ l. before ++ l) (sym (map-range_with_len_more f 0 n n (omega arith)))
  where
    append_assoc : (xs ys zs : List ℤ) → (xs ++ ys) ++ zs ≡ xs ++ (ys ++ zs)
    append_assoc [] ys zs = refl
    append_assoc (x ∷ xs) ys zs = ap (λ l. x ∷ l) (append_assoc xs ys zs)

pub rows_more : (g : ℕ → List ℤ) (n : ℕ) (now later : List ℤ) → now ≡ flat_map g (range_with_len 0 n) → later ≡ now ++ g n → later ≡ flat_map g (range_with_len 0 (n + 1))
rows_more g n now later h k = k ∙ ap (λ l. l ++ g n) h ∙ from 0 n n (omega arith)
  where
    append_assoc : (xs ys zs : List ℤ) → (xs ++ ys) ++ zs ≡ xs ++ (ys ++ zs)
    append_assoc [] ys zs = refl
    append_assoc (x ∷ xs) ys zs = ap (λ l. x ∷ l) (append_assoc xs ys zs)

    append_nil : (xs : List ℤ) → xs ≡ xs ++ []
    append_nil [] = refl
    append_nil (x ∷ xs) = ap (λ l. x ∷ l) (append_nil xs)

    from : (a n j : ℕ) → a + n ≡ j → flat_map g (range_with_len a n) ++ g j ≡ flat_map g (range_with_len a (n + 1))
    from a zero j e =
        let j_is : j ≡ a = omega (arith, e) in
        let one : suc zero ≡ zero + 1 = omega arith in
        ap g j_is ∙ append_nil (g a) ∙ ap (λ m. flat_map g (range_with_len a m)) one
    from a (suc n) j e =
        let more : suc (n + 1) ≡ suc n + 1 = omega arith in
        append_assoc (g a) (flat_map g (range_with_len (a + 1) n)) (g j) ∙ ap (λ l. g a ++ l) (from (a + 1) n j (omega (arith, e))) ∙ ap (λ m. flat_map g (range_with_len a m)) more
