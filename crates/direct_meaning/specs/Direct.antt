-- The direct meaning: what a module without transfers does to its slow memory.
use Rattle.std.specs.Prelude.{ℕ, ℤ, pos, List, [], ◌∷◌, map, Option, Some, None, slice_index_or, slice_set}
use Rattle.affine_ast.specs.declared.name.Name.{Name}
use Rattle.affine_ast.specs.declared.image.Image.{Image}
use Rattle.affine_ast.specs.declared.module.Module.{Module}
use Rattle.affine_ast.specs.Names.{put}
use Rattle.int_ops.specs.Operation.{operation}
use Rattle.int_ops.specs.Cast.{cast_value}
use Rattle.bus_model.specs.declared.step.FaultKind.{FaultKind}
use Rattle.bus_model.specs.declared.step.FaultKind.TheVariants.{Bounds, Divide}
use Rattle.bus_model.specs.declared.step.Verdict.{Verdict}
use Rattle.bus_model.specs.declared.step.Verdict.TheVariants as verdict
use Rattle.direct_meaning.specs.Action.{Home, Place, Slow, Fast, Outside, Operand, Number, Register, Action, Known, Sets, Loads, Stores, RawLoads, RawStores, Operates, Converts, Allocates, Releases, AllocatesTags, ReleasesTags, Starts, Waits, Faults, Returns}
use Rattle.direct_meaning.specs.Static.{place_at}
use Rattle.direct_meaning.specs.Memory.{slow_list, module_actions}

-- how a run ends: after its last action, or at a fault, with the state as it is then
pub data Outcome (S : Type 0) : Type 0 where
  End : S → Outcome S
  Fault : FaultKind → S → Outcome S

-- going on after an end; a fault stops the run
abbrev pub then_do : {S : Type 0} → Outcome S → (S → Outcome S) → Outcome S
then_do (End s) go = go s
then_do (Fault k s) go = Fault k s

abbrev pub verdict_of : {S : Type 0} → Outcome S → Verdict
verdict_of (End s) = verdict.End
verdict_of (Fault k s) = verdict.Fault k

abbrev pub state_of : {S : Type 0} → Outcome S → S
state_of (End s) = s
state_of (Fault k s) = s

-- a list of actions, one after the other, up to the first fault
unfoldable pub folded : {S : Type 0} → (Action → S → Outcome S) → List Action → S → Outcome S
folded step [] s = End s
folded step (a ∷ more) s = then_do (step a s) (folded step more)

-- what the names of data hold, and the slow list
pub record State : Type 0 where
  pub registers : Name → ℤ
  pub slow : List ℤ

-- a name's new value
abbrev pub keep : Name → ℤ → State → State
keep r z s = record s { registers = put s.registers r z }

-- a slow place's new value
abbrev pub write : ℕ → ℤ → State → State
write place z s = record s { slow = slice_set s.slow place z }

unfoldable pub read : (Name → ℤ) → Operand → ℤ
read registers (Number z) = z
read registers (Register r) = registers r

-- where a raw access goes
abbrev pub raw_place : (Name → ℤ) → Option Home → List ℕ → List Operand → Place
raw_place registers home sizes subscripts = place_at home sizes (map (read registers) subscripts)

-- a module without allocations has no fast places
abbrev pub direct_load : Name → Place → State → Outcome State
direct_load r (Slow place) s = End (keep r (slice_index_or s.slow place (pos 0)) s)
direct_load r (Fast number half cell) s = End s
direct_load r Outside s = Fault Bounds s

abbrev pub direct_store : ℤ → Place → State → Outcome State
direct_store z (Slow place) s = End (write place z s)
direct_store z (Fast number half cell) s = End s
direct_store z Outside s = Fault Bounds s

-- an operation's result, or its fault
abbrev pub keep_result : Name → Option ℤ → State → Outcome State
keep_result r (Some z) s = End (keep r z s)
keep_result r None s = Fault Divide s

-- one action. A module without allocations, starts and waits has none of those after `Converts` but `Returns`
unfoldable pub direct_step : Action → State → Outcome State
direct_step Known s = End s
direct_step (Sets r z) s = End (keep r z s)
direct_step (Loads r place) s = direct_load r place s
direct_step (Stores x place) s = direct_store (read s.registers x) place s
direct_step (RawLoads r home sizes subscripts) s = direct_load r (raw_place s.registers home sizes subscripts) s
direct_step (RawStores x home sizes subscripts) s = direct_store (read s.registers x) (raw_place s.registers home sizes subscripts) s
direct_step (Operates r op bits a b) s = keep_result r (operation op bits (read s.registers a) (read s.registers b)) s
direct_step (Converts r kind from to x) s = End (keep r (cast_value kind from to (read s.registers x)) s)
direct_step (Allocates number element sizes) s = End s
direct_step (Releases number element sizes) s = End s
direct_step (AllocatesTags first count) s = End s
direct_step (ReleasesTags first count) s = End s
direct_step (Starts t) s = End s
direct_step (Waits tag count) s = End s
direct_step (Faults k) s = Fault k s
direct_step Returns s = End s

-- no name holds data yet
abbrev pub first_state : Image → State
first_state m = record { registers = λ n. pos 0; slow = slow_list m.memrefs }

-- the direct meaning of a module from a memory: it ends with a slow list, or stops at a fault with the one as it is then
unfoldable pub plain : Module → Image → Outcome State
plain module_ m = folded direct_step (module_actions module_ m.symbols) (first_state m)
