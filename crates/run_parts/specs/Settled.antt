-- Actions with their operands read: what is left for the memories of an executor.
use Rattle.std.specs.Prelude.{◌≡◌, ℕ, ◌+◌, ◌^◌, ◌≤◌, ◌<◌, ℤ, List, length, Option, Some, None}
use Rattle.std.specs.List.{All}
use Rattle.affine_ast.specs.declared.name.Name.{Name}
use Rattle.affine_ast.specs.Sizes.{product}
use Rattle.bus_model.specs.declared.step.FaultKind.TheVariants.{Divide}
use Rattle.int_ops.specs.Cast.{CanCast, cast_value}
use Rattle.int_ops.specs.Operation.{operation}
use Rattle.int_ops.specs.Wrapped.{InRange}
use Rattle.direct_meaning.specs.Action.{Home, SlowMemref, FastMemref, TagMemref, Operand, Number, Action, Known, Sets, Loads, Stores, RawLoads, RawStores, Operates, Converts, Allocates, Releases, AllocatesTags, ReleasesTags, Starts, Waits, Faults, Returns}
use Rattle.direct_meaning.specs.Direct.{read, raw_place}

-- an operation's result for a name, or its fault
abbrev pub settled_result : Name → Option ℤ → Action
settled_result r (Some z) = Sets r z
settled_result r None = Faults Divide

-- an action with its operands read: stores have numbers, accesses by values have places, and operations and casts are made
abbrev pub settled : (Name → ℤ) → Action → Action
settled values Known = Known
settled values (Sets r z) = Sets r z
settled values (Loads r place) = Loads r place
settled values (Stores x place) = Stores (Number (read values x)) place
settled values (RawLoads r home sizes subscripts) = Loads r (raw_place values home sizes subscripts)
settled values (RawStores x home sizes subscripts) = Stores (Number (read values x)) (raw_place values home sizes subscripts)
settled values (Operates r op bits a b) = settled_result r (operation op bits (read values a) (read values b))
settled values (Converts r kind from to x) = Sets r (cast_value kind from to (read values x))
settled values (Allocates number element sizes) = Allocates number element sizes
settled values (Releases number element sizes) = Releases number element sizes
settled values (AllocatesTags first count) = Known
settled values (ReleasesTags first count) = ReleasesTags first count
settled values (Starts t) = Starts t
settled values (Waits tag count) = Waits tag count
settled values (Faults k) = Faults k
settled values Returns = Known

-- ---- what it asks of the operands

-- the places of a memref fit 32 bits
abbrev pub HomeFits : Option Home → List ℕ → Type 0
HomeFits (Some (SlowMemref number first)) sizes = first + product sizes < 2 ^ 32
HomeFits (Some (FastMemref number)) sizes = (1 ≤ length sizes) × (product sizes < 2 ^ 32)
HomeFits (Some (TagMemref first)) sizes = Unit {0}
HomeFits None sizes = Unit {0}

-- an access by values: as many subscripts as the memref has sizes
pub record RawFits (home : Option Home) (sizes : List ℕ) (subscripts : List Operand) : Type 0 where
  pub sizes_positive : All (λ n. 1 ≤ n) sizes
  pub rank : length sizes ≤ 7
  pub count : length subscripts ≡ length sizes
  pub home_fits : HomeFits home sizes

-- the operands of an operation or a cast lie in the ranges of their widths
abbrev pub CanSettle : Action → (Name → ℤ) → Type 0
CanSettle (RawLoads r home sizes subscripts) values = RawFits home sizes subscripts
CanSettle (RawStores x home sizes subscripts) values = RawFits home sizes subscripts
CanSettle (Operates r op bits a b) values = InRange bits (read values a) × InRange bits (read values b)
CanSettle (Converts r kind from to x) values = CanCast kind from to × InRange from (read values x)
CanSettle a values = Unit {0}
