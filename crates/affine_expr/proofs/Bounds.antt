-- Where no part of an expression leaves the limits, its interval is its range.
use Rattle.std.proofs.Common.{◌≡◌, Bool, true, false, cond, ◌||◌, List, Option, Some, None, refl, ap, subst}
use Rattle.std.specs.Prelude.{IfSome}
use Rattle.affine_expr.specs.declared.map.Interval.{Interval}
use Rattle.affine_expr.specs.declared.expr.Expr.{Expr, fold-roll-Expr, ind-Expr, map-Expr, roll-Expr}
use Rattle.affine_expr.specs.declared.expr.Expr.TheOpen.{Expr-F}
use Rattle.affine_expr.specs.Spread.{Range, Spread, spread, spread_step, range_of}
use Rattle.affine_expr.specs.Pure.{is_outside}
use Rattle.affine_expr.specs.Bounded.{◌>>=◌, limited, bounded, ranges, range_at, shown, interval_of}

-- a bounded spread, if there is one, is s
abbrev IsAt : Option Spread → Spread → Type 0
IsAt None s = Unit {0}
IsAt (Some t) s = t ≡ s

limited_at : (s : Spread) → IsAt (limited s) s
unfolding limited
limited_at s = by (is_outside s.range.least || is_outside s.range.greatest)
  where
    by : (b : Bool) → IsAt (cond b None (Some s)) s
    by true = tt
    by false = refl

one : (X : Option Spread) (a : Spread) (S : Spread → Spread) → IsAt X a → IsAt (X >>= (λ x. limited (S x))) (S a)
one None a S h = tt
one (Some x) a S h = subst (λ z. IsAt (limited (S x)) (S z)) h (limited_at (S x))

two : (X Y : Option Spread) (a b : Spread) (S : Spread → Spread → Spread) → IsAt X a → IsAt Y b → IsAt (X >>= (λ x. Y >>= (λ y. limited (S x y)))) (S a b)
two None Y a b S h k = tt
two (Some x) None a b S h k = tt
two (Some x) (Some y) a b S h k = subst (λ z. IsAt (limited (S x y)) (S z b)) h (subst (λ z. IsAt (limited (S x y)) (S x z)) k (limited_at (S x y)))

module _ (ds ss : List Range) where
  abbrev pub Follows : Expr → Type 0
  Follows e = IsAt (bounded ds ss e) (spread ds ss e)

  one_layer : (y : Expr-F ((e : Expr) × Follows e)) → Follows (roll-Expr (map-Expr ((e : Expr) × Follows e) Expr (λ e. e.0) y))
  unfolding bounded spread
  one_layer (Expr-F.Dim n) = simp fold-roll-Expr (limited_at _)
  one_layer (Expr-F.Sym n) = simp fold-roll-Expr (limited_at _)
  one_layer (Expr-F.Const z) = simp fold-roll-Expr (limited_at _)
  one_layer (Expr-F.Neg a) = simp fold-roll-Expr (one _ _ (λ x. spread_step ds ss (Expr-F.Neg x)) a.1)
  one_layer (Expr-F.Add a b) = simp fold-roll-Expr (two (bounded ds ss a.0) (bounded ds ss b.0) _ _ (λ x y. spread_step ds ss (Expr-F.Add x y)) a.1 b.1)
  one_layer (Expr-F.Sub a b) = simp fold-roll-Expr (two (bounded ds ss a.0) (bounded ds ss b.0) _ _ (λ x y. spread_step ds ss (Expr-F.Sub x y)) a.1 b.1)
  one_layer (Expr-F.Mul a b) = simp fold-roll-Expr (two (bounded ds ss a.0) (bounded ds ss b.0) _ _ (λ x y. spread_step ds ss (Expr-F.Mul x y)) a.1 b.1)
  one_layer (Expr-F.FloorDiv a b) = simp fold-roll-Expr (two (bounded ds ss a.0) (bounded ds ss b.0) _ _ (λ x y. spread_step ds ss (Expr-F.FloorDiv x y)) a.1 b.1)
  one_layer (Expr-F.CeilDiv a b) = simp fold-roll-Expr (two (bounded ds ss a.0) (bounded ds ss b.0) _ _ (λ x y. spread_step ds ss (Expr-F.CeilDiv x y)) a.1 b.1)
  one_layer (Expr-F.Mod a b) = simp fold-roll-Expr (two (bounded ds ss a.0) (bounded ds ss b.0) _ _ (λ x y. spread_step ds ss (Expr-F.Mod x y)) a.1 b.1)

  pub follows : (e : Expr) → Follows e
  follows = ind-Expr Follows (λ x y is. subst (λ z. Follows (roll-Expr z)) is (one_layer y))

shown_at : (b : Option Spread) (s : Spread) → IsAt b s → IfSome (shown b) (λ i. range_at i ≡ s.range)
shown_at None s h = tt
shown_at (Some t) s h = ap (λ (x : Spread). x.range) h

-- an interval is the range of the expression
pub interval_range : (is js : List Interval) (e : Expr) → IfSome (interval_of is js e) (λ i. range_at i ≡ range_of (ranges is) (ranges js) e)
unfolding interval_of
interval_range is js e = shown_at (bounded (ranges is) (ranges js) e) (spread (ranges is) (ranges js) e) (follows (ranges is) (ranges js) e)
