-- What outcomes leave in the registers, and answers of the memory as answers of the thread.
use Rattle.std.proofs.Common.{◌≡◌, ℕ, ◌+◌, ℤ, Bool, true, false, List, refl, sym, ap, ◌∙◌, subst}
use Rattle.std.specs.Prelude.{Option, Some, None, Result, Ok, Err, nat_eq, nat_le, if◌then◌else◌}
use Rattle.affine_ast.specs.declared.name.Name.{Name}
use Rattle.affine_ast.specs.declared.types.Element.{Element}
use Rattle.affine_ast.specs.Names.{put}
use Rattle.bus_model.specs.declared.step.FaultKind.{FaultKind}
use Rattle.bus_model.specs.declared.step.FaultKind.TheVariants.{Touched, Race, Tag, Capacity, Shape}
use Rattle.bus_model.specs.declared.transfer.Transfer.{Transfer}
use Rattle.direct_meaning.specs.Action.{Place, Slow, Fast, Outside}
use Rattle.direct_meaning.specs.Direct.{Outcome, End, Fault, state_of, keep}
use Rattle.prompt_semantics.specs.Device as model
use Rattle.prompt_semantics.specs.Device.{bytes_of, allocated, released, is_away, has_away, is_started, has_started, load_races, store_races, start_races, recorded, copied_in, copied_out, started, record_of}
use Rattle.prompt_semantics.specs.Prompt.{refused, prompt_load, prompt_store, prompt_alloc, prompt_start, wait_on}
use Rattle.run_parts.specs.Registered.{values_of}
use Rattle.tag_table.specs.Shapes.{BusShape}
use Rattle.overlap_memory.specs.Tied.{Tied, FastShape, FollowsTo, Gives}
use Rattle.overlap_runner.specs.declared.device.Device.{Device}
use Rattle.overlap_runner.specs.Held.{At}
use Rattle.overlap_runner.specs.Follow.{Follows}
use Rattle.overlap_runner.proofs.Ties.{retied}

-- the registers are as before
abbrev pub Keeps : Outcome model.Device → model.Device → Type 0
Keeps o y = (state_of o).state.registers ≡ y.state.registers

keeps_refused : (b : Bool) (k : FaultKind) (y : model.Device) (go : Outcome model.Device) → Keeps go y → Keeps (refused b k y go) y
keeps_refused true k y go h = refl
keeps_refused false k y go h = h

keeps_if : (t : Bool) (a b : Outcome model.Device) (y : model.Device) → Keeps a y → Keeps b y → Keeps (if t then a else b) y
keeps_if true a b y h k = h
keeps_if false a b y h k = k

pub keeps_store : (z : ℤ) (place : Place) (y : model.Device) → Keeps (prompt_store z place y) y
keeps_store z (Slow place) y = keeps_refused (store_races y.outstanding place) Race y _ refl
keeps_store z (Fast number half cell) y = keeps_refused (is_away y.outstanding number half) Touched y _ refl
keeps_store z Outside y = refl

pub keeps_alloc : (filler : ℤ) (capacity number : ℕ) (element : Element) (sizes : List ℕ) (y : model.Device) → Keeps (prompt_alloc filler capacity number element sizes y) y
keeps_alloc filler capacity number element sizes y = keeps_if (nat_le (y.live + bytes_of element sizes) capacity) (End (allocated filler number element sizes y)) (Fault Capacity y) y refl refl

pub keeps_release : (number : ℕ) (element : Element) (sizes : List ℕ) (y : model.Device) → Keeps (refused (has_away y.outstanding number) Touched y (End (released element sizes y))) y
keeps_release number element sizes y = keeps_refused (has_away y.outstanding number) Touched y _ refl

pub keeps_tags : (first count : ℕ) (y : model.Device) → Keeps (refused (has_started y.outstanding first count) Tag y (End y)) y
keeps_tags first count y = keeps_refused (has_started y.outstanding first count) Tag y _ refl

keeps_started : (t : Transfer) (y : model.Device) → (started t y).state.registers ≡ y.state.registers
unfolding started
keeps_started t y = by t.incoming
  where
    by : (b : Bool) → (recorded t (if b then copied_in t y else copied_out t y)).state.registers ≡ y.state.registers
    by true = refl
    by false = refl

pub keeps_start : (t : Transfer) (y : model.Device) → Keeps (prompt_start t y) y
keeps_start t y = keeps_refused (is_started y.outstanding t.tag) Tag y _ (keeps_refused (is_away y.outstanding t.fast t.half) Touched y _ (keeps_refused (start_races y.outstanding t) Race y _ (keeps_started t y)))

pub keeps_wait : (o : Option Transfer) (tag count : ℕ) (y : model.Device) → Keeps (wait_on o tag count y) y
keeps_wait None tag count y = refl
keeps_wait (Some t) tag count y = keeps_if (nat_eq t.count count) _ (Fault Shape y) y refl refl

module _ (bus : BusShape) (before after : FastShape) (d : Device) (y : model.Device) (registers : values_of d.registers ≡ y.state.registers) where
  -- an answer of the memory that leaves the registers
  pub lifted : (result : Result (Unit {0}) FaultKind) (o : Outcome model.Device) → Keeps o y → FollowsTo bus before after result o d.memory → Follows bus before after result o d
  lifted (Ok done) o k h = (h.0, h.1, record { tied = h.2; registers = registers ∙ sym k ∙ ap (λ (o : Outcome model.Device). (state_of {S = model.Device} o).state.registers) h.1 })
  lifted (Err kind) o k h = (h.0, h.1, record { tied = h.2; registers = registers ∙ sym k ∙ ap (λ (o : Outcome model.Device). (state_of {S = model.Device} o).state.registers) h.1 })

module _ (bus : BusShape) (shape : FastShape) (d : Device) (y : model.Device) (at : At bus shape d y) where
  -- a name has a number more
  pub set_to : (e : Device) (r : Name) (z : ℤ) → e.memory ≡ d.memory → values_of e.registers ≡ put (values_of d.registers) r z → At bus shape e (record y { state = keep r z y.state })
  set_to e r z memory values = record {
    tied = subst (λ x. Tied bus shape x (record y { state = keep r z y.state })) (sym memory) (retied bus shape d.memory y (put y.state.registers r z) y.actions at.tied);
    registers = values ∙ ap (λ v. put v r z) at.registers;
  }

  pub load_done : (place : Place) (r : Name) (z : ℤ) (e : Device) → Gives (Ok z) place y → e.memory ≡ d.memory → values_of e.registers ≡ put (values_of d.registers) r z → Follows bus shape shape (Ok tt) (prompt_load r place y) e
  load_done place r z e gives memory values = (record y { state = keep r z y.state }, gives r, set_to e r z memory values)

  pub load_faults : (place : Place) (r : Name) (kind : FaultKind) (e : Device) → Gives (Err kind) place y → e.memory ≡ d.memory → e.registers ≡ d.registers → Follows bus shape shape (Err kind) (prompt_load r place y) e
  load_faults place r kind e gives memory registers = (y, gives r, record { tied = subst (λ x. Tied bus shape x y) (sym memory) at.tied; registers = ap (λ rs. values_of rs) registers ∙ at.registers })
