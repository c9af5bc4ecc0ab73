-- The number of an element, subscript by subscript.
use Rattle.std.proofs.Common.{◌≡◌, ℕ, suc, ◌+◌, ◌*◌, ◌<◌, ◌≤◌, ℤ, pos, negsuc, ◌≤ℤ◌, ◌<ℤ◌, List, [], ◌∷◌, length, drop, get_or, refl, sym, ap, ◌∙◌, subst, arith, All, true, false, drop-cons, mul-le-mul_left, mul-le-mul_right}
use Rattle.std.specs.Prelude.{Option, Some, None, nat_lt}
use Rattle.std.proofs.lemmas.Int.{ints}
use Rattle.std.proofs.lemmas.Bool.{lt-ltb, le-ltb}
use Rattle.std.proofs.lemmas.List.Elements.{All-head, All-tail, All-drop}
use Rattle.affine_ast.specs.Sizes.{product}
use Rattle.direct_meaning.specs.Static.{within, row_major, cell_in}

pub product_positive : (ns : List ℕ) → All (λ n. 1 ≤ n) ns → 1 ≤ product ns
product_positive [] h = omega arith
product_positive (n ∷ ns) h =
    let p = product_positive ns (All-tail (λ n. 1 ≤ n) n ns h) in
    let q : 1 ≤ n = All-head (λ n. 1 ≤ n) n ns h in
    grind (arith, mul-le-mul_left n p)

pub cell_first : (p : ℕ) (o : Option ℕ) → o ≡ row_major (Some 0) p o
cell_first p None = refl
cell_first p (Some r) = ap Some (omega arith)

row_twice : (c n w p : ℕ) (o : Option ℕ) → row_major (Some c) (n * p) (row_major (Some w) p o) ≡ row_major (Some (c * n + w)) p o
row_twice c n w p None = refl
row_twice c n w p (Some r) = ap Some (grind arith)

pub cell_last : (c : ℕ) → row_major (Some c) (product []) (cell_in [] []) ≡ Some c
cell_last c = ap Some (omega arith)

pub within_some : (z : ℤ) (n w : ℕ) → z ≡ pos w → w < n → within z n ≡ Some w
within_some z n w e h = ap (λ y. within y n) e ∙ (let t : nat_lt w n ≡ true = lt-ltb w n h in rw t refl)

pub within_low : (z : ℤ) (n : ℕ) → z <ℤ pos 0 → within z n ≡ None
within_low (pos k) n h = absurd (omega (arith, ints, h))
within_low (negsuc k) n h = refl

pub within_high : (z : ℤ) (n : ℕ) → pos n ≤ℤ z → within z n ≡ None
within_high (pos k) n h = let t : nat_lt k n ≡ false = le-ltb k n (omega (arith, ints, h)) in rw t refl
within_high (negsuc k) n h = refl

drops : {A : Type 0} (xs : List A) (k : ℕ) (d : A) → k < length xs → drop k xs ≡ get_or xs k d ∷ drop (k + 1) xs
drops xs k d h = let next : suc k ≡ k + 1 = omega arith in drop-cons xs k d h ∙ ap (λ j. get_or xs k d ∷ drop j xs) next

-- one subscript more
pub cell_more : (ns : List ℕ) (zs : List ℤ) (k c w : ℕ) (o : Option ℕ) → k < length ns → k < length zs → within (get_or zs k (pos 0)) (get_or ns k 0) ≡ Some w
    → o ≡ row_major (Some c) (product (drop k ns)) (cell_in (drop k ns) (drop k zs)) → o ≡ row_major (Some (c * get_or ns k 0 + w)) (product (drop (k + 1) ns)) (cell_in (drop (k + 1) ns) (drop (k + 1) zs))
cell_more ns zs k c w o p q h e =
    e
    ∙ (λ i. row_major (Some c) (product (drops ns k 0 p i)) (cell_in (drops ns k 0 p i) (drops zs k (pos 0) q i)))
    ∙ ap (λ a. row_major (Some c) (get_or ns k 0 * product (drop (k + 1) ns)) (row_major a (product (drop (k + 1) ns)) (cell_in (drop (k + 1) ns) (drop (k + 1) zs)))) h
    ∙ row_twice c (get_or ns k 0) w (product (drop (k + 1) ns)) (cell_in (drop (k + 1) ns) (drop (k + 1) zs))

-- a subscript outside its size
pub cell_none : (ns : List ℕ) (zs : List ℤ) (k c : ℕ) (o : Option ℕ) → k < length ns → k < length zs → within (get_or zs k (pos 0)) (get_or ns k 0) ≡ None
    → o ≡ row_major (Some c) (product (drop k ns)) (cell_in (drop k ns) (drop k zs)) → None ≡ o
cell_none ns zs k c o p q h e =
    sym (e
    ∙ (λ i. row_major (Some c) (product (drops ns k 0 p i)) (cell_in (drops ns k 0 p i) (drops zs k (pos 0) q i)))
    ∙ ap (λ a. row_major (Some c) (get_or ns k 0 * product (drop (k + 1) ns)) (row_major a (product (drop (k + 1) ns)) (cell_in (drop (k + 1) ns) (drop (k + 1) zs)))) h)

-- the number so far stays below the number of elements
pub cell_bound : (ns : List ℕ) (k c w : ℕ) → All (λ n. 1 ≤ n) ns → k < length ns → w < get_or ns k 0 → (c + 1) * product (drop k ns) ≤ product ns → (c * get_or ns k 0 + w + 1) * product (drop (k + 1) ns) ≤ product ns
cell_bound ns k c w all h l b =
    let n = get_or ns k 0 in
    let p = product (drop (k + 1) ns) in
    let e : product (drop k ns) ≡ n * p = ap product (drops ns k 0 h) in
    let f : (c + 1) * (n * p) ≤ product ns = subst (λ x. (c + 1) * x ≤ product ns) e b in
    let g : (c * n + w + 1) * p ≤ ((c + 1) * n) * p = mul-le-mul_right p (grind (arith, l)) in
    let m : ((c + 1) * n) * p ≡ (c + 1) * (n * p) = grind arith in
    omega (arith, f, g, m)

pub cell_below : (ns : List ℕ) (k c : ℕ) → All (λ n. 1 ≤ n) ns → (c + 1) * product (drop k ns) ≤ product ns → c < product ns
cell_below ns k c all b =
    let p = product_positive (drop k ns) (All-drop (λ n. 1 ≤ n) k ns all) in
    let g : (c + 1) * 1 ≤ (c + 1) * product (drop k ns) = mul-le-mul_left (c + 1) p in
    omega (arith, g, b)

pub ruleset withins = (within_some, within_low, within_high)

-- the product of the first sizes is no more than that of all
pub elements_fit : (ns : List ℕ) (k c : ℕ) → All (λ n. 1 ≤ n) ns → k < length ns → c * product (drop k ns) ≡ product ns → c * get_or ns k 0 ≤ product ns
elements_fit ns k c all h e =
    let n = get_or ns k 0 in
    let p = product (drop (k + 1) ns) in
    let q = product_positive (drop (k + 1) ns) (All-drop (λ n. 1 ≤ n) (k + 1) ns all) in
    let f : product (drop k ns) ≡ n * p = ap product (drops ns k 0 h) in
    let g : (c * n) * 1 ≤ (c * n) * p = mul-le-mul_left (c * n) q in
    let m : (c * n) * p ≡ c * (n * p) = grind arith in
    let j : c * (n * p) ≡ product ns = ap (λ x. c * x) (sym f) ∙ e in
    omega (arith, g, m, j)
