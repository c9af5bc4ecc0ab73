-- What the template of a placement asks of the intervals at its loop.
use Rattle.std.specs.Prelude.{◌≡◌, ℕ, ◌≤◌, ℤ, pos, ◌+ℤ◌, ◌-ℤ◌, Bool, true, false, if◌then◌else◌, List, [], ◌∷◌, map, Some}
use Rattle.std.specs.List.{list_all}
use Rattle.affine_expr.specs.Bounded.{bounded}
use Rattle.affine_expr.specs.Pure.{is_outside}
use Rattle.affine_expr.specs.Spread.{Range, Spread, only}
use Rattle.affine_ast.specs.declared.name.Name.{Name}
use Rattle.affine_ast.specs.declared.types.Access.{Access}
use Rattle.affine_ast.specs.declared.types.MemrefType.{MemrefType}
use Rattle.affine_ast.specs.Intervals.{ranges_at}
use Rattle.affine_ast.specs.Names.{same_name}
use Rattle.affine_ast.specs.Nest.{Plain, Nest, Nothing, Loop, Branch, Does, Load, Store}
use Rattle.affine_ast.specs.Rules.{is_small_dimension, map_fits}
use Rattle.affine_ast.specs.Scope.{Scope, ranges_in}
use Rattle.placement_texts.specs.Spots.{Spot}
use Rattle.placement_texts.specs.Template.{Dimension, How, Copies, Transfers, Placement, form, term_names, clamp}
use Rattle.placement_texts.specs.Tests.{behind_scope, loop_scope, scope_at}
use Rattle.placement_regions.specs.Sites.{from_spot}

-- an interval within the limits
abbrev pub Inside : Range → Type 0
Inside r = (is_outside r.least ≡ false) × (is_outside r.greatest ≡ false)

-- ---- where the box begins
-- the interval of a dimension's place from that of its form
abbrev pub clamped_by : Bool → Dimension → Range → Range
clamped_by true d r = record { least = clamp d r.least; greatest = clamp d r.greatest }
clamped_by false d r = r

-- the interval of the place in a dimension: of a number, or of the form over the terms' values, each part of which keeps to the limits
abbrev pub PlaceFits : Scope → Dimension → List (Name × ℤ) → Range → Type 0
PlaceFits s d [] r = (r ≡ only (if d.clamped then clamp d d.offset else d.offset)) × Inside r
PlaceFits s d (t ∷ ts) r =
    (list_all (is_small_dimension s) (term_names (t ∷ ts)) ≡ true)
    × (e : Spread) × (bounded (map (ranges_in s) (term_names (t ∷ ts))) [] (form (t ∷ ts) d.offset) ≡ Some e) × (r ≡ clamped_by d.clamped d e.range)

abbrev pub PlacesFit : Scope → List Dimension → List Range → Type 0
PlacesFit s [] [] = Unit {0}
PlacesFit s (d ∷ ds) (r ∷ rs) = PlaceFits s d d.terms r × PlacesFit s ds rs
PlacesFit s [] (r ∷ rs) = ⊥
PlacesFit s (d ∷ ds) [] = ⊥

-- `turn + place` of copy loops, for turns from 0 to the extent less 1
abbrev pub CopiesFit : How → List Dimension → List Range → Type 0
CopiesFit Copies (d ∷ ds) (r ∷ rs) = Inside (record { least = r.least; greatest = r.greatest +ℤ (pos d.extent -ℤ pos 1) }) × CopiesFit Copies ds rs
CopiesFit how ds rs = Unit {0}

-- no box is larger than its memref, and no size than 1,048,576
abbrev pub Sized : List Dimension → Type 0
Sized [] = Unit {0}
Sized (d ∷ ds) = (1 ≤ d.extent) × (d.extent ≤ d.size) × (d.size ≤ 1048576) × Sized ds

-- ---- accesses of the memref in the loop
-- `e - place`, for subscripts and places in these intervals
abbrev pub LessFit : List Range → List Range → Type 0
LessFit (e ∷ es) (r ∷ rs) = Inside (record { least = e.least -ℤ r.greatest; greatest = e.greatest -ℤ r.least }) × LessFit es rs
LessFit es rs = Unit {0}

module _ (p : Placement) (rs : List Range) where
  -- an access as V7 asks for, of the memref's elements
  pub record SubscriptsFit (s : Scope) (at : Access) (ty : MemrefType) : Type 0 where
    pub fits : map_fits at ≡ true
    pub element : ty.element ≡ p.element
    pub less : LessFit (ranges_at (ranges_in s) at) rs

  abbrev pub AccessFits : Plain → Scope → Type 0
  AccessFits (Load r n at ty) s = same_name p.memref n ≡ true → SubscriptsFit s at ty
  AccessFits (Store x n at ty) s = same_name p.memref n ≡ true → SubscriptsFit s at ty
  AccessFits q s = Unit {0}

-- something holds of each plain statement, with the names in scope there
abbrev pub Under : (Plain → Scope → Type 0) → Nest → Scope → Type 0
Under P Nothing s = Unit {0}
Under P (Loop line v l u step body rest) s = Under P body (loop_scope v l u s) × Under P rest s
Under P (Branch line set names first has other rest) s = Under P first s × Under P other s × Under P rest s
Under P (Does line q rest) s = P q s × Under P rest (behind_scope q s)

-- ---- the loop
-- the places have these intervals, and all parts of the template are within the limits
abbrev pub LoopFits : Placement → List Range → Nest → Scope → Type 0
LoopFits p rs (Loop line v l u step body rest) s =
    PlacesFit s p.dims rs × CopiesFit p.how p.dims rs × Sized p.dims × Under (AccessFits p rs) body (loop_scope v l u s)
LoopFits p rs n s = Unit {0}

-- so at the loop at a place of a text
abbrev pub FitsAt : Placement → List Range → Spot → Nest → Scope → Type 0
FitsAt p rs t n s = LoopFits p rs (from_spot t n) (scope_at t n s)
