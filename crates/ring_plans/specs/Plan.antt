-- The plan with doubling: which of a plan's placements have a ring of several places, and the first cause against each that has none.
-- Dependences are those of the module that is planned; the intervals, the peak and the limits are those of the text with the placements
-- and the rings so far.
use Rattle.std.specs.Prelude.{ℕ, zero, suc, ◌-◌, ◌^◌, ℤ, pos, neg_ℤ, ◌+ℤ◌, ◌-ℤ◌, ◌*ℤ◌, Bool, true, false, not, ◌&&◌, nat_le, nat_lt, int_lt, if◌then◌else◌, List, [], ◌∷◌, ◌++◌, drop, flat_map, fold, length, map, Option, Some, None, Result, Ok, Err}
use Rattle.std.specs.List.{list_all}
use Rattle.affine_expr.specs.Value.{floor_div}
use Rattle.affine_expr.specs.declared.linear.LinearFault.{LinearFault}
use Rattle.affine_ast.specs.declared.module.Arg.{Arg}
use Rattle.affine_ast.specs.declared.module.Module.{Module}
use Rattle.affine_ast.specs.declared.name.Name.{Name}
use Rattle.affine_ast.specs.declared.types.Bound.{Bound}
use Rattle.affine_ast.specs.declared.types.Bound.TheVariants as bound
use Rattle.affine_ast.specs.declared.types.MemrefType.{MemrefType}
use Rattle.affine_ast.specs.Nest.{Plain, Nest, Nothing, Loop, Branch, Does, Store, RawStore, nest}
use Rattle.constraint_set.specs.Elimination.{Refusal}
use Rattle.nest_domain.specs.declared.plan.Cause.{Cause}
use Rattle.nest_domain.specs.declared.plan.Cause.TheVariants as cause
use Rattle.nest_domain.specs.declared.plan.Decision.{Decision}
use Rattle.nest_domain.specs.declared.plan.Doubling.{Doubling}
use Rattle.nest_domain.specs.declared.plan.Doubling.TheVariants as doubling
use Rattle.nest_domain.specs.declared.plan.Options.{Options}
use Rattle.nest_domain.specs.declared.plan.Outcome.{Outcome}
use Rattle.nest_domain.specs.declared.plan.Outcome.TheVariants as outcome
use Rattle.nest_domain.specs.Boxes as region
use Rattle.nest_domain.specs.Domains.{Known, place, system_of}
use Rattle.access_region.specs.Faults.{refused}
use Rattle.dependence.specs.Clashes.{clash}
use Rattle.loop_forms.specs.Sums.{number_of}
use Rattle.loop_forms.specs.Split.{as_map, sole, reach, prologue_length, main_end}
use Rattle.placement_texts.specs.Fold.{Step}
use Rattle.placement_texts.specs.Template.{Placement}
use Rattle.placement_texts.specs.Spots.{Spot}
use Rattle.placement_regions.specs.Sites.{alone, from_spot, way_to}
use Rattle.peak_laws.specs.Peak.{peak_of}
use Rattle.plan_laws.specs.Limits.{keeps_limits, keeps_intervals}
use Rattle.plan_laws.specs.Plan.{cause_of, times, type_of, accesses_in, with_access, plan, plan_steps, planned_text}
use Rattle.plan_laws.specs.Sites.{loops_round}
use Rattle.ring_plans.specs.Rings.{double_at}
use Rattle.ring_plans.specs.Spots.{loops_by_end, one_lies_in, is_first, ends_in_loop}

-- ---- stores
-- the memref that a statement stores to
abbrev pub stored : Plain → Option Name
stored (Store x m at ty) = Some m
stored (RawStore x m at ty) = Some m
stored q = None

abbrev pub stores : Nest → List Name
stores Nothing = []
stores (Loop line v l u s body rest) = stores body ++ stores rest
stores (Branch line set names first has other rest) = stores first ++ (stores other ++ stores rest)
stores (Does line q rest) = with_access (stored q) (stores rest)

-- ---- numbers that a ring's text is made with: the reaches, and the sums of the split's bounds. They have to be of 64 bits, as the
-- integers of a text are
abbrev pub is_of_64_bits : ℤ → Bool
is_of_64_bits z = not (int_lt z (neg_ℤ (pos (2 ^ 63)))) && int_lt z (pos (2 ^ 63))

-- of bounds that are numbers, or whose results are
abbrev pub split_sums : Option ℤ → Option ℤ → ℤ → ℕ → List ℤ
split_sums (Some a) (Some b) s n =
    (a +ℤ prologue_length s n) ∷ main_end b s n ∷ (a +ℤ (floor_div (b -ℤ a -ℤ pos 1) s -ℤ pos (n - 2)) *ℤ s) ∷ []
split_sums (Some a) None s n = (a +ℤ prologue_length s n) ∷ []
split_sums None (Some b) s n = main_end b s n ∷ []
split_sums None None s n = []

abbrev pub number_in : Bound → Option ℤ
number_in b = number_of (sole (as_map b).map.results)

abbrev pub ring_numbers : Bound → Bound → ℤ → ℕ → List ℤ
ring_numbers l u s n = reach s n ∷ (pos n *ℤ s) ∷ split_sums (number_in l) (number_in u) s n

-- ---- causes
abbrev pub or_else : Option Cause → Option Cause → Option Cause
or_else (Some c) later = Some c
or_else None later = later

abbrev pub when : Bool → Cause → Option Cause
when so c = if so then Some c else None

abbrev pub one_result : Bound → Bool
one_result (bound.Int z) = true
one_result (bound.Value m) = true
one_result (bound.Map at) = nat_le (length at.map.results) 1

-- a loop whose bounds have one result each, and whose rings are made with numbers of 64 bits
abbrev pub splits : ℕ → Nest → Bool
splits buffers (Loop line v l u s body rest) = one_result l && (one_result u && list_all is_of_64_bits (ring_numbers l u s buffers))
splits buffers n = false

abbrev pub step_of : Nest → ℤ
step_of (Loop line v l u s body rest) = s
step_of n = pos 1

-- ---- what a plan carries
-- a placement, its region, and whether it is doubled
pub record Judged : Type 0 where
  pub step : Step
  pub region : List region.Dimension
  pub doubling : Doubling

-- the text with the rings so far, the loops that have some, and the placements in their order
pub record Ringed : Type 0 where
  pub text : Nest
  pub loops : List Spot
  pub placements : List Judged

-- of one loop: the placements that have rings there, and all placements so far
pub record InLoop : Type 0 where
  pub rings : List Placement
  pub placements : List Judged

-- ---- of a module with these arguments and this text
module _ (o : Options) (args : List Arg) (n : Nest) where
  abbrev pub stores_in : Spot → List Name
  stores_in s = stores (alone (from_spot s n))

  -- inward, a store to the memref in the loop at l outside that of the placement; outward, an access
  abbrev pub is_used_outside : Placement → Spot → Spot → Bool
  is_used_outside p t l =
      if p.reads
      then nat_lt (times p.memref (stores_in t)) (times p.memref (stores_in l))
      else nat_lt (times p.memref (accesses_in o args n t)) (times p.memref (accesses_in o args n l))

  abbrev pub sizes_of : Option MemrefType → List ℕ
  sizes_of (Some ty) = ty.sizes
  sizes_of None = []

  -- the first answer at j steps and on, for so many distances, that isn't that there is no clash. The loop's variable is the last one
  -- outside the placement's loop
  abbrev pub by_clash : Result Bool Refusal → Option Cause → Option Cause
  by_clash (Ok true) later = Some cause.Dependence
  by_clash (Ok false) later = later
  by_clash (Err e) later = Some (cause_of (refused e))

  abbrev pub clashes_from : List region.Dimension → Known → List ℕ → ℤ → ℕ → ℕ → Option Cause
  clashes_from ds k sizes s j zero = None
  clashes_from ds k sizes s j (suc more) =
      by_clash (clash ds ds (system_of k) k.outer sizes (k.outer - 1) (pos j *ℤ s)) (clashes_from ds k sizes s (suc j) more)

  abbrev pub clashes_over : List region.Dimension → List ℕ → ℤ → Result Known LinearFault → Option Cause
  clashes_over ds sizes s (Ok k) = clashes_from ds k sizes s 1 (o.buffers - 1)
  clashes_over ds sizes s (Err e) = Some cause.Coefficient

  -- at each distance within the ring, of two boxes one of which is written; an outward placement writes
  abbrev pub clashes : Step → List region.Dimension → Spot → Option Cause
  clashes x ds l =
      if x.placement.reads && not x.placement.writes
      then None
      else clashes_over ds (sizes_of (type_of args x.placement.memref)) (step_of (from_spot l n)) (place args (way_to x.spot n) [])

  -- the placement's loop is a statement of the body of the loop at l, in which no loop has rings, and which splits
  abbrev pub has_shape : List Spot → Step → Spot → Bool
  has_shape loops x l = ends_in_loop false (way_to x.spot n) && (not (one_lies_in l loops) && splits o.buffers (from_spot l n))

  -- the first cause against a ring of a placement in the loop at l; `text` is the text with it
  abbrev pub ring_cause : List Spot → Step → List region.Dimension → Spot → Nest → Option Cause
  ring_cause loops x ds l text =
      or_else (when (not (has_shape loops x l && keeps_intervals args text)) cause.Shape)
      (or_else (when (is_used_outside x.placement x.spot l) cause.Dependence)
      (or_else (clashes x ds l)
      (or_else (when (nat_lt o.capacity (peak_of text 0)) cause.Capacity)
      (when (not (keeps_limits args text)) cause.Size))))

  abbrev pub doubling_by : Option Cause → Doubling
  doubling_by None = doubling.Doubled
  doubling_by (Some c) = doubling.Single c

  abbrev pub with_ring : Option Cause → Placement → List Placement → List Placement
  with_ring None p ps = ps ++ p ∷ []
  with_ring (Some c) p ps = ps

  -- ---- the placements of the loop at l, in plan order; the text and the loops so far are those before it
  module _ (text : Nest) (loops : List Spot) (l : Spot) where
    abbrev pub with_cause : InLoop → Judged → Option Cause → InLoop
    with_cause so x c = record {
      rings = with_ring c x.step.placement so.rings;
      placements = so.placements ++ record x { doubling = doubling_by c } ∷ [];
    }

    -- with the rings of the loop so far, and this one
    abbrev pub tried : InLoop → Judged → Nest
    tried so x = double_at o.buffers (so.rings ++ x.step.placement ∷ []) l text

    abbrev pub judged : InLoop → Judged → InLoop
    judged so x =
        if is_first l (loops_round x.step.spot n)
        then with_cause so x (ring_cause loops x.step x.region l (tried so x))
        else record so { placements = so.placements ++ x ∷ [] }

  abbrev pub with_rings : Ringed → Spot → List Placement → List Judged → Ringed
  with_rings so l [] xs = record so { placements = xs }
  with_rings so l (p ∷ ps) xs = record { text = double_at o.buffers (p ∷ ps) l so.text; loops = l ∷ so.loops; placements = xs }

  abbrev pub in_loop : Ringed → Spot → Ringed
  in_loop so l =
      let x = fold (judged so.text so.loops l) (record { rings = []; placements = [] }) so.placements in
      with_rings so l x.rings x.placements

  -- loops are taken as they end; a placement that is in no loop is single for its shape
  abbrev pub ringed_from : Nest → List Judged → Ringed
  ringed_from text xs =
      if o.double
      then fold in_loop (record { text = text; loops = []; placements = xs }) (loops_by_end n)
      else record { text = text; loops = []; placements = xs }

-- ---- of a plan without doubling: the regions of its placements, and what is said of each before any loop
abbrev pub region_in : Outcome → List (List region.Dimension)
region_in (outcome.Left c) = []
region_in (outcome.Staged at ds reads writes d) = ds ∷ []

abbrev pub regions_in : List Decision → List (List region.Dimension)
regions_in ds = flat_map (λ (d : Decision). region_in d.outcome) ds

abbrev pub begun : Bool → List Step → List (List region.Dimension) → List Judged
begun double [] rs = []
begun double (x ∷ xs) [] = []
begun double (x ∷ xs) (r ∷ rs) =
    record { step = x; region = r; doubling = if double then doubling.Single cause.Shape else doubling.NotAsked } ∷ begun double xs rs

-- ---- the decisions, with what is said of each placement
abbrev pub with_doubling : Outcome → List Doubling → Outcome
with_doubling (outcome.Left c) xs = outcome.Left c
with_doubling (outcome.Staged at ds reads writes old) [] = outcome.Staged at ds reads writes old
with_doubling (outcome.Staged at ds reads writes old) (x ∷ xs) = outcome.Staged at ds reads writes x

abbrev pub doublings_behind : Outcome → List Doubling → List Doubling
doublings_behind (outcome.Left c) xs = xs
doublings_behind (outcome.Staged at ds reads writes old) xs = drop 1 xs

abbrev pub with_doublings : List Decision → List Doubling → List Decision
with_doublings [] xs = []
with_doublings (d ∷ ds) xs = record d { outcome = with_doubling d.outcome xs } ∷ with_doublings ds (doublings_behind d.outcome xs)

-- ---- of a module: its placements with their rings, its decisions, and the text that has them
unfoldable pub ringed : Options → Module → Ringed
ringed o m = ringed_from o m.args (nest m.body) (planned_text o m) (begun o.double (plan_steps o m) (regions_in (plan o m)))

abbrev pub ring_plan : Options → Module → List Decision
ring_plan o m = with_doublings (plan o m) (map (λ (x : Judged). x.doubling) (ringed o m).placements)

abbrev pub ring_text : Options → Module → Nest
ring_text o m = (ringed o m).text
