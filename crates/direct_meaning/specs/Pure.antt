-- Texts whose bounds and values are affine: each product and each division in them stands on such sides as V8 asks for.
use Rattle.std.specs.Prelude.{◌≡◌, pos, true, ◌<ℤ◌}
use Rattle.affine_ast.specs.Nest.{Plain, Nest, Nothing, Loop, Branch, Does, Value}
use Rattle.affine_ast.specs.Rules.{access_pure, bound_pure}

-- the results of the map that gives a value are affine
abbrev pub AffinePlain : Plain → Type 0
AffinePlain (Value r pick at) = access_pure at ≡ true
AffinePlain p = Unit {0}

-- the bounds of loops and the values of statements are affine, and each step is positive
abbrev pub AffineNest : Nest → Type 0
AffineNest Nothing = Unit {0}
AffineNest (Loop line v l u s body rest) = (bound_pure l ≡ true) × (bound_pure u ≡ true) × (pos 0 <ℤ s) × AffineNest body × AffineNest rest
AffineNest (Branch line set names first has other rest) = AffineNest first × AffineNest other × AffineNest rest
AffineNest (Does line p rest) = AffinePlain p × AffineNest rest
