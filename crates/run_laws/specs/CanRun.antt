-- Runs that an executor with registers and slow cells alone can make: no action needs fast memory or a transfer, places lie in the
-- slow memory, operands fit their widths, and a register is read only behind the action that sets it.
use Rattle.std.specs.Prelude.{◌≡◌, ℕ, ◌+◌, ◌≤◌, ◌<◌, Bool, true, false, List, [], ◌∷◌, ◌++◌, length, flat_map, Option, Some, None}
use Rattle.std.specs.List.{All, list_all}
use Rattle.int_ops.specs.Cast.{CanCast}
use Rattle.int_ops.specs.Wrapped.{IsWidth, InRange}
use Rattle.affine_ast.specs.declared.image.Image.{Image}
use Rattle.affine_ast.specs.declared.module.Module.{Module}
use Rattle.affine_ast.specs.declared.name.Name.{Name}
use Rattle.affine_ast.specs.Names.{put}
use Rattle.affine_ast.specs.PlainLimits.{plain_fault}
use Rattle.affine_ast.specs.Sizes.{product}
use Rattle.affine_ast.specs.Validity.{IsValid}
use Rattle.direct_meaning.specs.Action.{Home, SlowMemref, FastMemref, TagMemref, Place, Slow, Fast, Outside, Operand, Number, Register, Action, Known, Sets, Loads, Stores, RawLoads, RawStores, Operates, Converts, Allocates, Releases, AllocatesTags, ReleasesTags, Starts, Waits, Faults, Returns}
use Rattle.direct_meaning.specs.Direct.{State, read, first_state}
use Rattle.direct_meaning.specs.Memory.{Fits, module_actions}
use Rattle.run_laws.specs.Along.{Along}

-- ---- where accesses go

-- a place in the slow memory, or outside the memref, which is a fault
abbrev pub PlaceIn : ℕ → Place → Type 0
PlaceIn cells (Slow place) = place < cells
PlaceIn cells (Fast number half cell) = ⊥
PlaceIn cells Outside = Unit {0}

-- a slow memref that is accessed by values: its elements lie in the slow memory, within the limit of a module, and the subscripts are
-- as many as its rank
pub record RawIn (cells first : ℕ) (sizes : List ℕ) (subscripts : List Operand) : Type 0 where
  pub places : first + product sizes ≤ cells
  pub places_fit : first + product sizes ≤ 1048576
  pub sizes_positive : All (λ n. 1 ≤ n) sizes
  pub rank : length sizes ≤ 6
  pub count : length subscripts ≡ length sizes

abbrev pub HomeIn : ℕ → Option Home → List ℕ → List Operand → Type 0
HomeIn cells (Some (SlowMemref number first)) sizes subscripts = RawIn cells first sizes subscripts
HomeIn cells (Some (FastMemref number)) sizes subscripts = ⊥
HomeIn cells (Some (TagMemref first)) sizes subscripts = ⊥
HomeIn cells None sizes subscripts = ⊥

-- ---- actions

-- an executor can take an action in a state
abbrev pub CanTake : Action → State → Type 0
CanTake Known s = Unit {0}
CanTake (Sets r z) s = InRange 64 z
CanTake (Loads r place) s = PlaceIn (length s.slow) place
CanTake (Stores x place) s = PlaceIn (length s.slow) place
CanTake (RawLoads r home sizes subscripts) s = HomeIn (length s.slow) home sizes subscripts
CanTake (RawStores x home sizes subscripts) s = HomeIn (length s.slow) home sizes subscripts
CanTake (Operates r op bits a b) s = IsWidth bits × InRange bits (read s.registers a) × InRange bits (read s.registers b)
CanTake (Converts r kind from to x) s = IsWidth from × IsWidth to × CanCast kind from to × InRange from (read s.registers x)
CanTake (Allocates number element sizes) s = ⊥
CanTake (Releases number element sizes) s = ⊥
CanTake (AllocatesTags first count) s = ⊥
CanTake (ReleasesTags first count) s = ⊥
CanTake (Starts t) s = ⊥
CanTake (Waits tag count) s = ⊥
CanTake (Faults k) s = ⊥
CanTake Returns s = Unit {0}

-- so it can each of these actions, in the state that those before it leave
abbrev pub CanRun : List Action → State → Type 0
CanRun xs s = Along CanTake xs s

-- ---- registers

abbrev pub register_of : Operand → List Name
register_of (Number z) = []
register_of (Register r) = r ∷ []

-- the registers that an action reads
abbrev pub reads : Action → List Name
reads (Stores x place) = register_of x
reads (RawLoads r home sizes subscripts) = flat_map register_of subscripts
reads (RawStores x home sizes subscripts) = register_of x ++ flat_map register_of subscripts
reads (Operates r op bits a b) = register_of a ++ register_of b
reads (Converts r kind from to x) = register_of x
reads a = []

-- the registers that hold data behind an action, of which these held some before it
abbrev pub held_after : Action → (Name → Bool) → Name → Bool
held_after (Sets r z) held = put held r true
held_after (Loads r place) held = put held r true
held_after (RawLoads r home sizes subscripts) held = put held r true
held_after (Operates r op bits a b) held = put held r true
held_after (Converts r kind from to x) held = put held r true
held_after a held = held

-- each register that an action reads holds data, which an action before it has set
abbrev pub ReadsHeld : List Action → (Name → Bool) → Type 0
ReadsHeld [] held = Unit {0}
ReadsHeld (a ∷ more) held = (list_all held (reads a) ≡ true) × ReadsHeld more (held_after a held)

-- ---- the law

pub record RunsByRegisters (m : Module) (memory : Image) : Type 0 where
  pub runs : CanRun (module_actions m memory.symbols) (first_state memory)
  pub held : ReadsHeld (module_actions m memory.symbols) (λ n. false)

-- a valid module without allocations, deallocs, starts and waits can be run so from every memory that fits it
abbrev pub ValidCanRun : Type 0
ValidCanRun = (m : Module) → IsValid m → plain_fault m ≡ None → (memory : Image) → Fits m memory → RunsByRegisters m memory
