-- The interval of an affine expression: a least and a greatest value that it cannot pass where its leaves lie in theirs.
use Rattle.std.specs.Prelude.{◌≤ℤ◌, ℤ, pos, neg_ℤ, ◌+ℤ◌, ◌-ℤ◌, ◌*ℤ◌, List, Option, Some, None, slice_index_or}
use Rattle.std.specs.Int.{int_min, int_max}
use Rattle.affine_expr.specs.declared.expr.Expr.{Expr, fold-Expr}
use Rattle.affine_expr.specs.declared.expr.Expr.TheOpen.{Expr-F}
use Rattle.affine_expr.specs.Value.{floor_div, ceil_div, floor_mod}

-- the integers from the least to the greatest, both among them
pub record Range : Type 0 where
  pub least : ℤ
  pub greatest : ℤ

-- one number alone
abbrev pub only : ℤ → Range
only z = record { least = z; greatest = z }

-- a number lies in a range
pub record Within (z : ℤ) (r : Range) : Type 0 where
  pub low : r.least ≤ℤ z
  pub high : z ≤ℤ r.greatest

-- the range of an expression, and its value where it has no dimension and no symbol
pub record Spread : Type 0 where
  pub range : Range
  pub fixed : Option ℤ

-- a range times a number
abbrev pub scaled : Range → ℤ → Range
scaled r c = record { least = int_min (r.least *ℤ c) (r.greatest *ℤ c); greatest = int_max (r.least *ℤ c) (r.greatest *ℤ c) }

-- a product: the side without dimension and symbol, the right one where both are such, counts by its value. Where no
-- side is such the product isn't affine
abbrev pub range_of_product : Spread → Spread → Option ℤ → Option ℤ → Range
range_of_product a b x (Some c) = scaled a.range c
range_of_product a b (Some c) None = scaled b.range c
range_of_product a b None None = only (pos 0)

-- a division by what counts by its value
abbrev pub range_of_floor : Range → Option ℤ → Range
range_of_floor r (Some c) = record { least = floor_div r.least c; greatest = floor_div r.greatest c }
range_of_floor r None = only (pos 0)

abbrev pub range_of_ceil : Range → Option ℤ → Range
range_of_ceil r (Some c) = record { least = ceil_div r.least c; greatest = ceil_div r.greatest c }
range_of_ceil r None = only (pos 0)

abbrev pub range_of_mod : Range → Option ℤ → Range
range_of_mod r (Some c) = record { least = pos 0; greatest = c -ℤ pos 1 }
range_of_mod r None = only (pos 0)

-- a value of two parts, where both have one
abbrev pub both_fixed : (ℤ → ℤ → ℤ) → Option ℤ → Option ℤ → Option ℤ
both_fixed f (Some a) (Some b) = Some (f a b)
both_fixed f (Some a) None = None
both_fixed f None b = None

abbrev pub one_fixed : (ℤ → ℤ) → Option ℤ → Option ℤ
one_fixed f (Some a) = Some (f a)
one_fixed f None = None

-- one level of an expression over the spreads of its parts
abbrev pub spread_step : List Range → List Range → Expr-F Spread → Spread
spread_step ds ss (Expr-F.Dim n) = record { range = slice_index_or ds n (only (pos 0)); fixed = None }
spread_step ds ss (Expr-F.Sym n) = record { range = slice_index_or ss n (only (pos 0)); fixed = None }
spread_step ds ss (Expr-F.Const z) = record { range = only z; fixed = Some z }
spread_step ds ss (Expr-F.Neg a) = record {
  range = record { least = neg_ℤ a.range.greatest; greatest = neg_ℤ a.range.least };
  fixed = one_fixed neg_ℤ a.fixed;
}
spread_step ds ss (Expr-F.Add a b) = record {
  range = record { least = a.range.least +ℤ b.range.least; greatest = a.range.greatest +ℤ b.range.greatest };
  fixed = both_fixed (λ x y. x +ℤ y) a.fixed b.fixed;
}
spread_step ds ss (Expr-F.Sub a b) = record {
  range = record { least = a.range.least -ℤ b.range.greatest; greatest = a.range.greatest -ℤ b.range.least };
  fixed = both_fixed (λ x y. x -ℤ y) a.fixed b.fixed;
}
spread_step ds ss (Expr-F.Mul a b) = record { range = range_of_product a b a.fixed b.fixed; fixed = both_fixed (λ x y. x *ℤ y) a.fixed b.fixed }
spread_step ds ss (Expr-F.FloorDiv a b) = record { range = range_of_floor a.range b.fixed; fixed = both_fixed floor_div a.fixed b.fixed }
spread_step ds ss (Expr-F.CeilDiv a b) = record { range = range_of_ceil a.range b.fixed; fixed = both_fixed ceil_div a.fixed b.fixed }
spread_step ds ss (Expr-F.Mod a b) = record { range = range_of_mod a.range b.fixed; fixed = both_fixed floor_mod a.fixed b.fixed }

-- the spread of an expression where the dimensions and the symbols lie in these ranges
unfoldable pub spread : List Range → List Range → Expr → Spread
spread ds ss = fold-Expr Spread (spread_step ds ss)

-- its interval
abbrev pub range_of : List Range → List Range → Expr → Range
range_of ds ss e = (spread ds ss e).range
