-- Answers of the memory, as what the thread makes of an action.
use Rattle.std.proofs.Common.{◌≡◌, ℕ, ℤ, List, refl, ap, ◌∙◌}
use Rattle.std.specs.Prelude.{Result, Ok, Err}
use Rattle.affine_ast.specs.declared.name.Name.{Name}
use Rattle.affine_ast.specs.declared.types.Element.{Element}
use Rattle.affine_ast.specs.Names.{put}
use Rattle.bus_model.specs.declared.step.FaultKind.{FaultKind}
use Rattle.bus_model.specs.declared.step.FaultKind.TheVariants.{Touched, Tag}
use Rattle.bus_model.specs.declared.transfer.Transfer.{Transfer}
use Rattle.direct_meaning.specs.Action.{Place, Number, Known, Sets, Loads, Stores, Allocates, Releases, ReleasesTags, Starts, Waits, Faults}
use Rattle.direct_meaning.specs.Direct.{End, direct_step, read}
use Rattle.prompt_semantics.specs.Device as model
use Rattle.prompt_semantics.specs.Device.{has_away, has_started, record_of, released}
use Rattle.prompt_semantics.specs.Prompt.{acts, refused, prompt_store, prompt_alloc, prompt_start, wait_on}
use Rattle.run_parts.specs.declared.effect.Effect.{Effect}
use Rattle.run_parts.specs.Effects.{effect_meant}
use Rattle.run_parts.specs.Registered.{values_of}
use Rattle.prompt_laws.specs.Rooms.{Room}
use Rattle.tag_table.specs.Shapes.{BusShape}
use Rattle.overlap_memory.specs.Tied.{FastShape, FollowsTo, Gives, CanStart, HasCells, with_allocated, with_released}
use Rattle.overlap_runner.specs.declared.device.Device.{Device}
use Rattle.overlap_runner.specs.Follow.{Follows}
use Rattle.overlap_runner.specs.Held.{At, PlaceReached, Ready, shape_after}
use Rattle.overlap_runner.proofs.Outcomes.{keeps_store, keeps_alloc, keeps_release, keeps_tags, keeps_start, keeps_wait, lifted, load_done, load_faults, set_to}
use Rattle.overlap_runner.proofs.Ties.{can_start, has_cells}

-- what an effect makes of the thread, wherever it can be taken
abbrev pub Acts : BusShape → ℤ → ℕ → Device → Effect → Result (Unit {0}) FaultKind → Device → Type 0
Acts bus filler capacity d x result e = (rooms : List Room) (shape : FastShape) (y : model.Device) → Ready bus rooms shape d y (effect_meant d.registers.names x)
    → Follows bus shape (shape_after shape (effect_meant d.registers.names x)) result (acts filler capacity (effect_meant d.registers.names x) y) e

module _ (bus : BusShape) (rooms : List Room) (shape : FastShape) (d : Device) (y : model.Device) (filler : ℤ) (capacity : ℕ) where
  pub load_reached : (r : Name) (place : Place) → Ready bus rooms shape d y (Loads r place) → PlaceReached bus rooms shape d.memory y place
  load_reached r place k = record { tied = k.at.tied; are = k.are; inside = k.reaches }

  pub store_reached : (z : ℤ) (place : Place) → Ready bus rooms shape d y (Stores (Number z) place) → PlaceReached bus rooms shape d.memory y place
  store_reached z place k = record { tied = k.at.tied; are = k.are; inside = k.reaches }

  pub loads : (r : Name) (place : Place) (z : ℤ) (e : Device) → At bus shape d y → Gives (Ok z) place y → e.memory ≡ d.memory → values_of e.registers ≡ put (values_of d.registers) r z → Follows bus shape shape (Ok tt) (acts filler capacity (Loads r place) y) e
  unfolding acts
  loads r place z e at gives memory values = load_done bus shape d y at place r z e gives memory values

  pub loads_not : (r : Name) (place : Place) (kind : FaultKind) (e : Device) → At bus shape d y → Gives (Err kind) place y → e.memory ≡ d.memory → e.registers ≡ d.registers → Follows bus shape shape (Err kind) (acts filler capacity (Loads r place) y) e
  unfolding acts
  loads_not r place kind e at gives memory registers = load_faults bus shape d y at place r kind e gives memory registers

  pub sets : (r : Name) (z : ℤ) (e : Device) → At bus shape d y → e.memory ≡ d.memory → values_of e.registers ≡ put (values_of d.registers) r z → Follows bus shape shape (Ok tt) (acts filler capacity (Sets r z) y) e
  unfolding acts direct_step
  sets r z e at memory values = (_, refl, set_to bus shape d y at e r z memory values)

  pub nothing : At bus shape d y → Follows bus shape shape (Ok tt) (acts filler capacity Known y) d
  unfolding acts direct_step
  nothing at = (y, refl, at)

  pub faults : (kind : FaultKind) → At bus shape d y → Follows bus shape shape (Err kind) (acts filler capacity (Faults kind) y) d
  unfolding acts
  faults kind at = (y, refl, at)

  -- what else leaves the registers, from the answer of the memory
  module _ (at : At bus shape d y) (e : Device) (same : e.registers ≡ d.registers) (result : Result (Unit {0}) FaultKind) where
    values : values_of e.registers ≡ y.state.registers
    values = ap (λ rs. values_of rs) same ∙ at.registers

    pub stores : (z : ℤ) (place : Place) → FollowsTo bus shape shape result (prompt_store z place y) e.memory → Follows bus shape shape result (acts filler capacity (Stores (Number z) place) y) e
    unfolding acts read
    stores z place h = lifted bus shape shape e y values result (prompt_store z place y) (keeps_store z place y) h

    pub allocates : (number : ℕ) (element : Element) (sizes : List ℕ) → FollowsTo bus shape (with_allocated shape number) result (prompt_alloc filler capacity number element sizes y) e.memory
        → Follows bus shape (with_allocated shape number) result (acts filler capacity (Allocates number element sizes) y) e
    unfolding acts
    allocates number element sizes h = lifted bus shape (with_allocated shape number) e y values result (prompt_alloc filler capacity number element sizes y) (keeps_alloc filler capacity number element sizes y) h

    pub releases : (number : ℕ) (element : Element) (sizes : List ℕ) → FollowsTo bus shape (with_released shape number) result (refused (has_away y.outstanding number) Touched y (End (released element sizes y))) e.memory
        → Follows bus shape (with_released shape number) result (acts filler capacity (Releases number element sizes) y) e
    unfolding acts
    releases number element sizes h = lifted bus shape (with_released shape number) e y values result (refused (has_away y.outstanding number) Touched y (End (released element sizes y))) (keeps_release number element sizes y) h

    pub releases_tags : (first count : ℕ) → FollowsTo bus shape shape result (refused (has_started y.outstanding first count) Tag y (End y)) e.memory → Follows bus shape shape result (acts filler capacity (ReleasesTags first count) y) e
    unfolding acts
    releases_tags first count h = lifted bus shape shape e y values result (refused (has_started y.outstanding first count) Tag y (End y)) (keeps_tags first count y) h

    pub starts : (t : Transfer) → FollowsTo bus shape shape result (prompt_start t y) e.memory → Follows bus shape shape result (acts filler capacity (Starts t) y) e
    unfolding acts
    starts t h = lifted bus shape shape e y values result (prompt_start t y) (keeps_start t y) h

    pub waits : (tag count : ℕ) → FollowsTo bus shape shape result (wait_on (record_of tag y.outstanding) tag count y) e.memory → Follows bus shape shape result (acts filler capacity (Waits tag count) y) e
    unfolding acts
    waits tag count h = lifted bus shape shape e y values result (wait_on (record_of tag y.outstanding) tag count y) (keeps_wait (record_of tag y.outstanding) tag count y) h

  pub start_can : (t : Transfer) → Ready bus rooms shape d y (Starts t) → CanStart bus d.memory t
  start_can t k = can_start bus rooms shape d.memory y k.at.tied k.are t k.reaches k.roomed.1

  pub start_has : (t : Transfer) → Ready bus rooms shape d y (Starts t) → HasCells shape y t.fast t.half
  start_has t k = has_cells bus rooms shape d.memory y k.at.tied k.are t.fast t.half k.reaches.half
