-- The elements of a box, dimension by dimension.
use Rattle.std.proofs.Common.{◌≡◌, ℕ, zero, suc, ◌+◌, ◌*◌, ◌<◌, ◌≤◌, min, Bool, true, false, List, drop, length, get_or, refl, sym, ap, ◌∙◌, arith, mul-suc, mul-zero, mul_assoc, le_trans}
use Rattle.std.specs.Prelude.{nat_le}
use Rattle.std.proofs.lemmas.Bool.Decides.{nat_tests}
use Rattle.std.proofs.lemmas.List.{drop_all}
use Rattle.std.proofs.Math.Numerals.{add-one}
use Rattle.std.proofs.Math.Seq.{drop-cons}
use Rattle.affine_ast.specs.Sizes.{product}
use Rattle.placement_texts.specs.Template.{Dimension, dim_extents}

min_left : (a b : ℕ) → a ≤ b → min a b ≡ a
min_left a b h = omega arith

min_right : (a b : ℕ) → b ≤ a → min a b ≡ b
min_right a b h = omega arith

at_least : (a q : ℕ) → a ≤ a * suc q
at_least a q = omega (arith, mul-suc a q)

stops : (x q limit : ℕ) (below : Bool) → nat_le x limit ≡ below → min (min x limit * suc q) limit ≡ min (x * suc q) limit
stops x q limit true e = let h : x ≤ limit = grind (arith, nat_tests) in ap (λ n. min (n * suc q) limit) (min_left x limit h)
stops x q limit false e =
    let h : limit ≤ x = grind (arith, nat_tests) in
    ap (λ n. min (n * suc q) limit) (min_right x limit h) ∙ min_right (limit * suc q) limit (at_least limit q) ∙ sym (min_right (x * suc q) limit (le_trans h (at_least x q)))

-- a product that stops at a limit
pub product_stops : (x p limit : ℕ) → min (min x limit * p) limit ≡ min (x * p) limit
product_stops x zero limit = ap (λ n. min n limit) (mul-zero (min x limit) ∙ sym (mul-zero x))
product_stops x (suc q) limit = stops x q limit (nat_le x limit) refl

pub box_step : (count limit : ℕ) (ds : List Dimension) (i next : ℕ) (d : Dimension) → i < length ds → d ≡ get_or ds i d → next ≡ min (count * d.extent) limit
    → min (count * product (dim_extents (drop i ds))) limit ≡ min (next * product (dim_extents (drop (i + 1) ds))) limit
box_step count limit ds i next d h is e =
    rw (e, drop-cons ds i d h, add-one, sym is) (ap (λ n. min n limit) (sym (mul_assoc count d.extent (product (dim_extents (drop (suc i) ds))))) ∙ sym (product_stops (count * d.extent) (product (dim_extents (drop (suc i) ds))) limit))

pub box_end : (count elements limit : ℕ) (ds : List Dimension) (i : ℕ) → length ds ≤ i → elements < limit → count ≤ limit → min elements limit ≡ min (count * product (dim_extents (drop i ds))) limit → count ≡ elements
box_end count elements limit ds i h k w e =
    let last = e ∙ ap (λ l. min (count * product (dim_extents l)) limit) (drop_all i ds h) in
    omega (arith, last, k, w)
