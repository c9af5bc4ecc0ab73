-- The elements of a box in row-major order.
use Rattle.std.proofs.Common.{◌≡◌, ℕ, zero, suc, ◌+◌, ◌-◌, ◌*◌, ◌/◌, ◌%◌, ◌<◌, ◌≤◌, List, [], ◌∷◌, refl, sym, ◌∙◌, ap, arith, ⊎_elim, mul-le-mul}
use Rattle.std.proofs.lemmas.Nat.{div-mul-add, mod-mul-add, mul-add-lt, div-add-mod', div_below, mod_below}
use Rattle.std.proofs.lemmas.Bool.{cases_lt}
use Rattle.boxes.specs.Boxes.{Side, volume, count, IsBox, place_at, number_at, InBox, subscripts, cell, first, far}

row_lt : (a w b h : ℕ) → a < h → b < w → a * w + b < h * w
row_lt a w b h p q = let m = mul-add-lt a w b h p q in omega arith

product_pos : (a b : ℕ) → 0 < a → 0 < b → 0 < a * b
product_pos (suc a) (suc b) h k = omega arith
product_pos zero b h k = absurd (omega arith)
product_pos (suc a) zero h k = absurd (omega arith)

pub count_pos : (ds : List Side) → IsBox ds → 0 < count ds
count_pos [] h = omega arith
count_pos (d ∷ ds) h = product_pos d.extent (count ds) h.0 (count_pos ds h.2)

pub count_most : (ds : List Side) → IsBox ds → count ds ≤ volume ds
count_most [] h = omega arith
count_most (d ∷ ds) h = mul-le-mul (omega arith) (count_most ds h.2)

pub cell_is : (ds : List Side) (t : ℕ) → cell ds t ≡ first ds + far ds t
cell_is [] t = refl
cell_is (d ∷ ds) t = let e = cell_is ds (t % count ds) in omega arith

-- the quotient of a number of the box is in the first dimension's extent
quotient_in : (d : Side) (ds : List Side) (t : ℕ) → IsBox (d ∷ ds) → t < count (d ∷ ds) → t / count ds < d.extent
quotient_in d ds t h k = div_below t (count ds) d.extent (count_pos ds h.2) k

rest_in : (ds : List Side) (t : ℕ) → IsBox ds → t % count ds < count ds
rest_in ds t h = mod_below t (count ds) (count_pos ds h)

pub cell_in : (ds : List Side) (t : ℕ) → IsBox ds → t < count ds → cell ds t < volume ds
cell_in [] t h k = omega arith
cell_in (d ∷ ds) t h k = row_lt (d.place + t / count ds) (volume ds) (cell ds (t % count ds)) d.size (omega (arith, quotient_in d ds t h k, h.1)) (cell_in ds (t % count ds) h.2 (rest_in ds t h.2))

higher : (a b v x y : ℕ) → a < b → x < v → a * v + x < b * v + y
higher a b v x y h k = let m : suc a * v ≤ b * v = mul-le-mul (omega arith) (omega arith) in omega arith

-- places rise with the number, so they are distinct
pub cell_rises : (ds : List Side) (t u : ℕ) → IsBox ds → t < u → u < count ds → cell ds t < cell ds u
cell_rises [] t u h l k = absurd (omega arith)
cell_rises (d ∷ ds) t u h l k =
    let c = count ds in
    let et = div-add-mod' t c in
    let eu = div-add-mod' u c in
    let rt = rest_in ds t h.2 in
    let ru = rest_in ds u h.2 in
    ⊎_elim
    (λ less. higher (d.place + t / c) (d.place + u / c) (volume ds) (cell ds (t % c)) (cell ds (u % c)) (omega (arith, less)) (cell_in ds (t % c) h.2 rt))
    (λ at_most.
    let same = same_quotient (t / c) (u / c) c (t % c) (u % c) rt ru at_most (omega arith) in
    let more = cell_rises ds (t % c) (u % c) h.2 (rest_less (t / c) (u / c) c (t % c) (u % c) same (omega arith)) ru in
    rw same (omega (arith, more)))
    (cases_lt (t / c) (u / c))
  where
    same_quotient : (q p c x y : ℕ) → x < c → y < c → p ≤ q → q * c + x < p * c + y → q ≡ p
    same_quotient q p c x y hx hy l k = ⊎_elim
        (λ less. absurd (let m : suc p * c ≤ q * c = mul-le-mul (omega (arith, less)) (omega arith) in let x : ⊥ = omega arith in x))
        (λ at_most. omega (arith, at_most))
        (cases_lt p q)

    rest_less : (q p c x y : ℕ) → q ≡ p → q * c + x < p * c + y → x < y
    rest_less q p c x y e k = let f = ap (λ n. n * c) e in omega arith

-- ---- numbers and subscripts
pub number_in : (ds : List Side) (xs : List ℕ) → IsBox ds → InBox ds xs → number_at ds xs < count ds
number_in [] [] b h = omega arith
number_in [] (x ∷ xs) b h = absurd h
number_in (d ∷ ds) [] b h = absurd h
number_in (d ∷ ds) (x ∷ xs) b h = row_lt (x - d.place) (count ds) (number_at ds xs) d.extent (omega (arith, h.0, h.1)) (number_in ds xs b.2 h.2)

pub subscripts_of_number : (ds : List Side) (xs : List ℕ) → IsBox ds → InBox ds xs → subscripts ds (number_at ds xs) ≡ xs
subscripts_of_number [] [] b h = refl
subscripts_of_number [] (x ∷ xs) b h = absurd h
subscripts_of_number (d ∷ ds) [] b h = absurd h
subscripts_of_number (d ∷ ds) (x ∷ xs) b h =
    let below = number_in ds xs b.2 h.2 in
    let q = div-mul-add (x - d.place) (count ds) (number_at ds xs) below in
    let r = mod-mul-add (x - d.place) (count ds) (number_at ds xs) below in
    let back : d.place + (x - d.place) ≡ x = omega (arith, h.0) in
    rw (q, r, back) (ap (λ ys. x ∷ ys) (subscripts_of_number ds xs b.2 h.2))

pub subscripts_in : (ds : List Side) (t : ℕ) → IsBox ds → t < count ds → InBox ds (subscripts ds t)
subscripts_in [] t b h = tt
subscripts_in (d ∷ ds) t b h = (omega arith, omega (arith, quotient_in d ds t b h), subscripts_in ds (t % count ds) b.2 (rest_in ds t b.2))

pub number_of_subscripts : (ds : List Side) (t : ℕ) → IsBox ds → t < count ds → number_at ds (subscripts ds t) ≡ t
number_of_subscripts [] t b h = omega arith
number_of_subscripts (d ∷ ds) t b h =
    let back : (d.place + t / count ds) - d.place ≡ t / count ds = omega arith in
    rw (back, number_of_subscripts ds (t % count ds) b.2 (rest_in ds t b.2)) (div-add-mod' t (count ds))

pub place_of_subscripts : (ds : List Side) (t : ℕ) → place_at ds (subscripts ds t) ≡ cell ds t
place_of_subscripts [] t = refl
place_of_subscripts (d ∷ ds) t = ap (λ n. (d.place + t / count ds) * volume ds + n) (place_of_subscripts ds (t % count ds))

-- an element of the box lies at the place of its number
pub cell_of_number : (ds : List Side) (xs : List ℕ) → IsBox ds → InBox ds xs → cell ds (number_at ds xs) ≡ place_at ds xs
cell_of_number ds xs b h = sym (place_of_subscripts ds (number_at ds xs)) ∙ ap (place_at ds) (subscripts_of_number ds xs b h)
