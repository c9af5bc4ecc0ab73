-- What rings the plans of two modules have, and what their texts are.
use Rattle.std.specs.Prelude.{◌≡◌, ℕ, ℤ, ◌^◌, pos, neg_ℤ, Bool, true, false, List, [], ◌∷◌, Some, None, codes, map}
use Rattle.affine_expr.specs.declared.expr.Expr.{Expr, Dim, Const, Add}
use Rattle.affine_expr.specs.declared.map.Rel.TheVariants as rel
use Rattle.affine_expr.specs.declared.map.Set.{Set}
use Rattle.affine_ast.specs.declared.module.Module.{Module}
use Rattle.affine_ast.specs.declared.name.Name.{Name}
use Rattle.affine_ast.specs.declared.types.Bound.TheVariants as bound
use Rattle.affine_ast.specs.Nest.{Nest, Nothing, Loop, nest}
use Rattle.nest_domain.specs.declared.plan.Cause.TheVariants as cause
use Rattle.nest_domain.specs.declared.plan.Decision.{Decision}
use Rattle.nest_domain.specs.declared.plan.Doubling.{Doubling}
use Rattle.nest_domain.specs.declared.plan.Doubling.TheVariants as doubling
use Rattle.nest_domain.specs.declared.plan.Options.{Options}
use Rattle.nest_domain.specs.declared.plan.Outcome.TheVariants as outcome
use Rattle.nest_domain.specs.Boxes.{Dimension}
use Rattle.numbered_names.specs.Numbers.{defined, made_of, place_of}
use Rattle.placement_texts.specs.Fold.{Step}
use Rattle.placement_texts.specs.Template.{Placement}
use Rattle.placement_texts.specs.Spots.{Here, Inside, stage_one}
use Rattle.peak_laws.specs.Peak.{peak_of}
use Rattle.loop_forms.specs.Split.{as_map}
use Rattle.plan_numbers.specs.Modules.{it, at, tiles}
use Rattle.plan_numbers.specs.Law.{tile}
use Rattle.ring_plans.specs.Rings.{double_at, late_rows}
use Rattle.ring_plans.specs.Plan.{clashes, ring_plan, ring_text, splits}
use Rattle.ring_numbers.specs.Texts.{three_loops, names_of_three, one_loop, sevens, sevens_read}
use Rattle.ring_numbers.specs.Placements.{tile_placement}

-- a module's text with the tile's placement, and a ring for it
abbrev pub ringed_tile : ℕ → Placement → Module → Nest
ringed_tile buffers p m = double_at buffers (p ∷ []) Here (stage_one p (Inside Here) (nest m.body))

-- a value of the text, and a bound over it
abbrev pub n : Name
n = record { text = codes "n"; made = false }

abbrev pub three_more : Expr
three_more = Add (Dim 0) (Const (pos 3))

-- `d0 >= e`
abbrev pub from_later : Expr → Set
from_later e = record { dims = 2; syms = 0; rows = record { left = Dim 0; rel = rel.Ge; right = e } ∷ [] }

abbrev pub steps_of : ℤ → Nest
steps_of s = Loop 1 it (bound.Int (pos 0)) (bound.Int (pos 5)) s Nothing Nothing

pub record RingsAre : Type 0 where
  -- inward the loop becomes three, of which with eight buffers the second has no turn
  pub two : ringed_tile 2 (tile_placement true) tiles ≡ three_loops 2 (pos 16) (pos 1) (pos 48) (pos 48)
  pub three : ringed_tile 3 (tile_placement true) tiles ≡ three_loops 3 (pos 32) (pos 17) (pos 32) (pos 32)
  pub eight : ringed_tile 8 (tile_placement true) tiles ≡ three_loops 8 (pos 112) (pos 64) (neg_ℤ (pos 48)) (pos 0)
  -- each definition of a made name has one of its own, and the number of its place: the constant 0, the ring 1, the tags 2, the tile ahead
  -- in the first loop 3 and in the second 4, the tile of the turn in the second loop 5 and in the third 6
  pub names : made_of (defined (three_loops 2 (pos 16) (pos 1) (pos 48) (pos 48))) ≡ names_of_three
  pub numbers : map (λ n. place_of n names_of_three) names_of_three ≡ 0 ∷ 1 ∷ 2 ∷ 3 ∷ 4 ∷ 5 ∷ 6 ∷ []
  -- outward it stays one, which waits for the place of the ring from the turn on that comes round to it
  pub outward : ringed_tile 2 (tile_placement false) sevens ≡ one_loop 2 (pos 32) (pos 32)
  pub outward_four : ringed_tile 4 (tile_placement false) sevens ≡ one_loop 4 (pos 64) (pos 0)
  -- where the lower bound is a value or a map, the wait's condition is over the loop's variable and the bound's own values
  pub late_value : late_rows 2 it (bound.Value n) (bound.Int (pos 64)) (pos 16) (as_map (bound.Value n)) ≡ from_later (Add (Dim 1) (Const (pos 32)))
  pub late_map : late_rows 2 it (bound.Map (at three_more n)) (bound.Int (pos 64)) (pos 16) (at three_more n)
      ≡ from_later (Add (Add (Dim 1) (Const (pos 3))) (Const (pos 32)))
  -- eight steps of 2^60 are no number of 64 bits, so the loop has no ring of eight places; of four it has
  pub too_far : splits 8 (steps_of (pos (2 ^ 60))) ≡ false
  pub near : splits 4 (steps_of (pos (2 ^ 60))) ≡ true
  -- a ring counts once for each of its places
  pub peak_two : peak_of (three_loops 2 (pos 16) (pos 1) (pos 48) (pos 48)) 0 ≡ 128
  pub peak_three : peak_of (three_loops 3 (pos 32) (pos 17) (pos 32) (pos 32)) 0 ≡ 192

abbrev pub with_double : ℕ → ℕ → Options
with_double buffers capacity = record { depth = 1; dma = true; double = true; capacity = capacity; buffers = buffers }

abbrev pub tile_decided : Doubling → List Decision
tile_decided d = record { block = 0; line = 3; memref = 0; outcome = outcome.Staged (record { steps = (0, false) ∷ (0, false) ∷ [] }) tile true true d } ∷ []

-- thirty-two elements from the tile's first one on
abbrev pub wide_tile : List Dimension
wide_tile = record { coefs = pos 1 ∷ []; offset = pos 0; extent = pos 32; clamped = false } ∷ []

abbrev pub two_tiles : Bool → Step
two_tiles writes = record {
  placement = record (tile_placement true) {
    dims = record { size = 64; terms = (it, pos 1) ∷ []; offset = pos 0; extent = 32; clamped = false } ∷ [];
    writes = writes;
  };
  spot = Inside Here;
  order = 0;
  first = 0;
}

pub record RingPlansAre : Type 0 where
  -- the tile has its two buffers where the capacity holds both, and one where it doesn't
  pub doubled : ring_plan (with_double 2 128) tiles ≡ tile_decided doubling.Doubled
  pub text : ring_text (with_double 2 128) tiles ≡ three_loops 2 (pos 16) (pos 1) (pos 48) (pos 48)
  pub single : ring_plan (with_double 2 127) tiles ≡ tile_decided (doubling.Single cause.Capacity)
  pub single_text : ring_text (with_double 2 127) tiles ≡ stage_one (tile_placement true) (Inside Here) (nest tiles.body)
  -- a box of two tiles has elements of the next turn's, so one that is written has no ring, and one that is only read may have
  pub next_turn : clashes (with_double 2 128) tiles.args (nest tiles.body) (two_tiles true) wide_tile Here ≡ Some cause.Dependence
  pub only_read : clashes (with_double 2 128) tiles.args (nest tiles.body) (two_tiles false) wide_tile Here ≡ None

abbrev pub outward_decided : Doubling → List Decision
outward_decided d = record { block = 0; line = 3; memref = 0; outcome = outcome.Staged (record { steps = (0, false) ∷ (0, false) ∷ [] }) tile false true d } ∷ []

pub record OutwardPlansAre : Type 0 where
  -- a tile that is stored to only isn't read in, and doubled outward
  pub doubled : ring_plan (with_double 2 128) sevens ≡ outward_decided doubling.Doubled
  pub text : ring_text (with_double 2 128) sevens ≡ one_loop 2 (pos 32) (pos 32)
  -- but not where the memref is read in the loop outside the tile's
  pub single : ring_plan (with_double 2 128) sevens_read ≡ outward_decided (doubling.Single cause.Dependence)
