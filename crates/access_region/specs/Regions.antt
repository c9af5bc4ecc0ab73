-- The region of a memref at a loop: for each dimension a combination of outer variables, an offset from it and an extent, that
-- hold every access of the memref in the loop.
use Rattle.std.specs.Prelude.{ℕ, suc, ℤ, pos, ◌+ℤ◌, Bool, true, false, ◌||◌, if◌then◌else◌, int_lt, int_le, List, [], ◌∷◌, ◌++◌, map, replicate, None, Result, Ok, Err}
use Rattle.constraint_set.specs.Points.{LinearSystem}
use Rattle.constraint_set.specs.Reach.{Reach, never, between}
use Rattle.affine_expr.specs.Spread.{Range}
use Rattle.affine_ast.specs.declared.module.Arg.{Arg}
use Rattle.affine_ast.specs.declared.name.Name.{Name}
use Rattle.affine_ast.specs.declared.types.Access.{Access}
use Rattle.affine_ast.specs.declared.types.Bound.{Bound}
use Rattle.affine_ast.specs.Intervals.{ranges_at}
use Rattle.affine_ast.specs.Nest.{Nest}
use Rattle.nest_domain.specs.Boxes.{Dimension}
use Rattle.nest_domain.specs.Ways.{Header, Round, Use, Affine, Other, uses, loop_names}
use Rattle.nest_domain.specs.Domains.{Known, Accessed, symbol_names, place, access, system_of}
use Rattle.access_region.specs.Faults.{NoRegion, unplaced, ◌>>=◌, by_form}
use Rattle.access_region.specs.Candidates.{Reaching, candidates}
use Rattle.access_region.specs.Spans.{reach_at, combination, Tried, best}

-- ---- the accesses
abbrev pub has_other : List Use → Bool
has_other [] = false
has_other (Affine way stores at ∷ us) = has_other us
has_other (Other ∷ us) = true

abbrev pub reaching_of : Access → Accessed → Reaching
reaching_of at a = record { goings = a.known.goings; system = system_of a.known; forms = a.forms; ranges = ranges_at a.known.ranges at }

abbrev pub all_reaching : List Arg → List Use → Result (List Reaching) NoRegion
all_reaching args [] = Ok []
all_reaching args (Affine way stores at ∷ us) = do
  a ← by_form (access args way at)
  rest ← all_reaching args us
  Ok (reaching_of at a ∷ rest)
all_reaching args (Other ∷ us) = Err unplaced

abbrev pub reaching : List Arg → List Use → Result (List Reaching) NoRegion
reaching args us = if has_other us then Err unplaced else all_reaching args us

-- the outside of a loop: how many symbols and loops there are, its rows, and the intervals of symbols and loop variables
pub record Outside : Type 0 where
  pub outer : ℕ
  pub system : LinearSystem
  pub ranges : List Range

abbrev pub outside_of : List Name → Known → Outside
outside_of names k = record { outer = k.outer; system = system_of k; ranges = map k.ranges names }

abbrev pub outside_at : List Arg → List Header → Result Outside NoRegion
outside_at args way = do
  k ← by_form (place args way [])
  Ok (outside_of (symbol_names args ++ loop_names way) k)

-- ---- one dimension
-- all of a dimension, where the extent is no less than the size
abbrev pub at_most_whole : ℕ → ℤ → Tried → Tried
at_most_whole outer size t = if int_le size t.extent then record { coefs = replicate outer (pos 0); offset = pos 0; extent = size } else t

-- the place may leave the memref, as far as the rows of the loop's outside tell
abbrev pub clamped_by : ℤ → Tried → Reach → Result Dimension NoRegion
clamped_by size t never = Err unplaced
clamped_by size t (between least greatest) = Ok (record {
  coefs = t.coefs;
  offset = t.offset;
  extent = t.extent;
  clamped = int_lt (least +ℤ t.offset) (pos 0) || int_lt size ((greatest +ℤ t.offset) +ℤ t.extent);
})

abbrev pub placed : LinearSystem → ℤ → Tried → Result Dimension NoRegion
placed outside size t = do
  reach ← reach_at outside (combination t.coefs)
  clamped_by size t reach

abbrev pub dimension : Outside → ℕ → List Reaching → ℕ → ℕ → Result Dimension NoRegion
dimension outside loops xs d size = do
  cs ← candidates outside.outer loops d xs
  t ← best d xs cs None
  placed outside.system (pos size) (at_most_whole outside.outer (pos size) t)

abbrev pub dimensions : Outside → ℕ → List Reaching → ℕ → List ℕ → Result (List Dimension) NoRegion
dimensions outside loops xs d [] = Ok []
dimensions outside loops xs d (size ∷ sizes) = do
  first ← dimension outside loops xs d size
  others ← dimensions outside loops xs (suc d) sizes
  Ok (first ∷ others)

-- the accesses of a memref in a loop at the end of a way
abbrev pub uses_at : Name → List Header → Name → Bound → Bound → ℤ → Nest → List Use
uses_at m way v l u s body = uses m body (way ++ Round v l u s ∷ [])
