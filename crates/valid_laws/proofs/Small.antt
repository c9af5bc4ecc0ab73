-- Small numbers, and the values that maps have at numbers where they may be evaluated.
use Rattle.std.proofs.Common.{◌≡◌, ℕ, ◌^◌, ℤ, pos, neg_ℤ, ◌≤ℤ◌, ◌<ℤ◌, Bool, true, false, List, [], ◌∷◌, map, refl, arith}
use Rattle.std.specs.Prelude.{◌-◌, ◌&&◌, int_le, int_lt, not, fold, Option, Some, None, IsSome, slice_index_or}
use Rattle.std.specs.Int.{int_min, int_max}
use Rattle.std.specs.List.{All}
use Rattle.std.proofs.lemmas.Int.{ints}
use Rattle.std.proofs.lemmas.List.Elements.{All-nil, All-cons, All-head, All-tail}
use Rattle.affine_expr.specs.declared.expr.Expr.{Expr}
use Rattle.affine_expr.specs.Bounded.{shown, interval_of, Evaluable}
use Rattle.affine_expr.specs.Pure.{is_outside}
use Rattle.affine_expr.specs.Spread.{Spread}
use Rattle.affine_expr.specs.Value.{value}
use Rattle.affine_expr.proofs.Limits.{is_inside}
use Rattle.affine_expr.proofs.Soundness.{good}
use Rattle.int_ops.specs.Wrapped.{InRange}
use Rattle.affine_ast.specs.declared.types.Pick.{Pick}
use Rattle.affine_ast.specs.declared.types.Pick.TheVariants.{Apply, Min, Max}
use Rattle.affine_ast.specs.Rules.{is_small, in_signed_range}
use Rattle.direct_meaning.specs.Static.{least, greatest, picked}
use Rattle.valid_laws.specs.Evaluable.{EachEvaluable}
use Rattle.valid_laws.specs.Safe.{IsSmall}

-- ---- one number

pub small_fits : (z : ℤ) → IsSmall z → InRange 64 z
small_fits z h = record { least = omega (arith, ints, h.least); most = omega (arith, ints, h.most) }

zero_small : IsSmall (pos 0)
zero_small = record { least = omega (arith, ints); most = omega (arith, ints) }

pub not_false : (b : Bool) → not b ≡ true → b ≡ false
not_false true h = absurd (let z : ⊥ = cc in z)
not_false false h = refl

pub small_of_test : (z : ℤ) → is_small z ≡ true → IsSmall z
small_of_test z h = let k = is_inside z (not_false (is_outside z) h) in record { least = k.low; most = k.high }

-- between two small numbers
pub small_between : (a b t : ℤ) → IsSmall a → IsSmall b → a ≤ℤ t → t <ℤ b → IsSmall t
small_between a b t h k from to = record { least = omega (arith, ints, h.least, from); most = omega (arith, ints, k.most, to) }

-- ---- results of maps

pub shown_some : (b : Option Spread) → IsSome (shown b) → IsSome b
shown_some None h = absurd (let z : ⊥ = cc in z)
shown_some (Some t) h = refl

pub evaluable_small : (zs ys : List ℤ) (e : Expr) → Evaluable zs ys e → IsSmall (value zs ys e)
unfolding interval_of
evaluable_small zs ys e h =
    let g = good zs ys h.reach.dims h.reach.syms h.reach.dims_in h.reach.syms_in e h.pure h.leaves in
    let k = (g.tame (shown_some _ h.reach.reached)).inside in
    record { least = k.low; most = k.high }

pub each_of_all : (zs ys : List ℤ) (es : List Expr) → EachEvaluable zs ys es → All (Evaluable zs ys) es
each_of_all zs ys [] h = All-nil (Evaluable zs ys)
each_of_all zs ys (e ∷ es) h = All-cons (Evaluable zs ys) e es h.0 (each_of_all zs ys es h.1)

pub all_small : (zs ys : List ℤ) (es : List Expr) → EachEvaluable zs ys es → All IsSmall (map (value zs ys) es)
all_small zs ys [] h = All-nil IsSmall
all_small zs ys (e ∷ es) h = All-cons IsSmall _ _ (evaluable_small zs ys e h.0) (all_small zs ys es h.1)

-- the greatest and the least of small numbers; 0 of none
fold_small : (f : ℤ → ℤ → ℤ) → ((a b : ℤ) → IsSmall a → IsSmall b → IsSmall (f a b)) → (zs : List ℤ) (a : ℤ) → IsSmall a → All IsSmall zs → IsSmall (fold f a zs)
fold_small f keep [] a h all = h
fold_small f keep (z ∷ zs) a h all = fold_small f keep zs (f a z) (keep a z h (All-head IsSmall z zs all)) (All-tail IsSmall z zs all)

max_small : (a b : ℤ) → IsSmall a → IsSmall b → IsSmall (int_max a b)
max_small a b h k = record { least = grind (arith, ints, h.least, k.least); most = grind (arith, ints, h.most, k.most) }

min_small : (a b : ℤ) → IsSmall a → IsSmall b → IsSmall (int_min a b)
min_small a b h k = record { least = grind (arith, ints, h.least, k.least); most = grind (arith, ints, h.most, k.most) }

pub greatest_small : (zs : List ℤ) → All IsSmall zs → IsSmall (greatest zs)
greatest_small [] all = zero_small
greatest_small (z ∷ zs) all = fold_small int_max max_small zs z (All-head IsSmall z zs all) (All-tail IsSmall z zs all)

pub least_small : (zs : List ℤ) → All IsSmall zs → IsSmall (least zs)
least_small [] all = zero_small
least_small (z ∷ zs) all = fold_small int_min min_small zs z (All-head IsSmall z zs all) (All-tail IsSmall z zs all)

first_small : (zs : List ℤ) → All IsSmall zs → IsSmall (slice_index_or zs 0 (pos 0))
first_small [] all = zero_small
first_small (z ∷ zs) all = All-head IsSmall z zs all

pub picked_small : (pick : Pick) (zs : List ℤ) → All IsSmall zs → IsSmall (picked pick zs)
picked_small Apply zs all = first_small zs all
picked_small Min zs all = least_small zs all
picked_small Max zs all = greatest_small zs all

-- ---- the range of a width

by_tests : (z low high : ℤ) (s t : Bool) → int_le low z ≡ s → int_lt z high ≡ t → (s && t) ≡ true → (low ≤ℤ z) × (z <ℤ high)
by_tests z low high true true e f h = (grind (arith, ints, e), grind (arith, ints, f))
by_tests z low high true false e f h = absurd (let y : ⊥ = cc in y)
by_tests z low high false t e f h = absurd (let y : ⊥ = cc in y)

pub range_of_test : (bits : ℕ) (z : ℤ) → in_signed_range bits z ≡ true → InRange bits z
unfolding in_signed_range
range_of_test bits z h = let k = by_tests z (neg_ℤ (pos (2 ^ (bits - 1)))) (pos (2 ^ (bits - 1))) _ _ refl refl h in record { least = k.0; most = k.1 }
