-- The product of sizes, counted no further than one past the limit.
use Rattle.std.proofs.Common.{◌≡◌, ℕ, ◌+◌, ◌*◌, ◌<◌, ◌≤◌, true, List, [], ◌∷◌, length, get_or, drop, sym, ap, ◌∙◌, arith}
use Rattle.std.specs.Prelude.{min, nat_le}
use mathlib.Core.Logic.{◌⊎◌, inl, inr}
use Rattle.std.specs.List.{list_all}
use Rattle.std.proofs.lemmas.Bool.{and_parts}
use Rattle.std.proofs.lemmas.List.{drop_more, drop_all}
use Rattle.std.proofs.Math.Nat.{le-mul_of_pos_right, mul-le-mul_right, one-le-mul, mul_assoc, mul-one}
use Rattle.std.proofs.lemmas.Bool.{cases_lt}
use Rattle.affine_ast.specs.Rules.{sizes_positive}
use Rattle.affine_ast.specs.Sizes.{product}

pub positive_parts : (x : ℕ) (xs : List ℕ) → sizes_positive (x ∷ xs) ≡ true → (1 ≤ x) × (sizes_positive xs ≡ true)
unfolding sizes_positive
positive_parts x xs h = let two = and_parts (nat_le 1 x) (list_all (nat_le 1) xs) h in (grind (arith, two.0), two.1)

pub product_positive : (xs : List ℕ) → sizes_positive xs ≡ true → 1 ≤ product xs
product_positive [] h = omega arith
product_positive (x ∷ xs) h = let two = positive_parts x xs h in one-le-mul two.0 (product_positive xs two.1)

capped_by : (x p l : ℕ) → 1 ≤ p → (x < l) ⊎ (l ≤ x) → min (min x l * p) l ≡ min (x * p) l
capped_by x p l h (inl k) = let e : min x l ≡ x = omega arith in ap (λ (n : ℕ). min (n * p) l) e
capped_by x p l h (inr k) =
    let e : min x l ≡ l = omega arith in
    let a : l ≤ l * p = le-mul_of_pos_right l h in
    let b : l * p ≤ x * p = mul-le-mul_right p k in
    ap (λ (n : ℕ). min (n * p) l) e ∙ ends (l * p) (x * p) a b
  where
    ends : (m n : ℕ) → l ≤ m → m ≤ n → min m l ≡ min n l
    ends m n a b = omega arith

pub capped_step : (xs : List ℕ) (i e r total l : ℕ) → i < length xs → sizes_positive (drop i xs) ≡ true → r ≡ min (e * get_or xs i 0) l
    → min total l ≡ min (e * product (drop i xs)) l → min total l ≡ min (r * product (drop (i + 1) xs)) l
capped_step xs i e r total l h pos is so =
    let x = get_or xs i 0 in
    let rest = drop (i + 1) xs in
    let positive = positive_parts x rest (ap sizes_positive (sym (drop_more xs i 0 h)) ∙ pos) in
    so ∙ ap (λ ys. min (e * product ys) l) (drop_more xs i 0 h)
    ∙ ap (λ (n : ℕ). min n l) (sym (mul_assoc e x (product rest)))
    ∙ sym (capped_by (e * x) (product rest) l (product_positive rest positive.1) (cases_lt (e * x) l))
    ∙ ap (λ (n : ℕ). min (n * product rest) l) (sym is)

pub positive_step : (xs : List ℕ) (i : ℕ) → i < length xs → sizes_positive (drop i xs) ≡ true → sizes_positive (drop (i + 1) xs) ≡ true
positive_step xs i h pos = (positive_parts (get_or xs i 0) (drop (i + 1) xs) (ap sizes_positive (sym (drop_more xs i 0 h)) ∙ pos)).1

pub capped_end : (xs : List ℕ) (i e total l : ℕ) → length xs ≤ i → e ≤ l → min total l ≡ min (e * product (drop i xs)) l → e ≡ min total l
capped_end xs i e total l h small so =
    let one : e * product (drop i xs) ≡ e = ap (λ ys. e * product ys) (drop_all i xs h) ∙ mul-one e in
    let top : e ≡ min e l = omega arith in
    top ∙ ap (λ (n : ℕ). min n l) (sym one) ∙ sym so
