-- What an action by number means: the numbers of names stand for the names.
use Rattle.std.specs.Prelude.{◌≡◌, ℕ, ◌<◌, List, map, All}
use Rattle.affine_ast.specs.declared.name.Name.{Name}
use Rattle.affine_ast.specs.Sizes.{scalar_bits}
use Rattle.direct_meaning.specs.Action as meaning
use Rattle.walk_program.specs.Names.{name_at}
use Rattle.walk_actions.specs.declared.action.Action.{Action}
use Rattle.walk_actions.specs.declared.action.Action.TheVariants.{Known, Sets, Loads, Stores, RawLoads, RawStores}
use Rattle.walk_actions.specs.declared.action.Action.TheVariants.{Operates, Converts, Allocates, Releases}
use Rattle.walk_actions.specs.declared.action.Action.TheVariants.{AllocatesTags, ReleasesTags, Starts, Waits, Faults}
use Rattle.walk_actions.specs.declared.action.Action.TheVariants.{Returns}
use Rattle.walk_actions.specs.declared.action.Operand.{Operand}
use Rattle.walk_actions.specs.declared.action.Operand.TheVariants.{Number, Register}
use Rattle.walk_actions.specs.declared.action.Place.{Place}
use Rattle.walk_actions.specs.declared.action.Place.TheVariants.{Slow, Fast, Outside}
use Rattle.walk_actions.specs.Looked.{homes_meant}

abbrev pub place_meant : Place → meaning.Place
place_meant (Slow place) = meaning.Slow place
place_meant (Fast number half cell) = meaning.Fast number half cell
place_meant Outside = meaning.Outside

abbrev pub operand_meant : List Name → Operand → meaning.Operand
operand_meant names (Number z) = meaning.Number z
operand_meant names (Register r) = meaning.Register (name_at names r)

-- the action, with the subscripts that stand beside it where it is a raw access
unfoldable pub meant : List Name → List Operand → Action → meaning.Action
meant names subscripts Known = meaning.Known
meant names subscripts (Sets r z) = meaning.Sets (name_at names r) z
meant names subscripts (Loads r place) = meaning.Loads (name_at names r) (place_meant place)
meant names subscripts (Stores x place) = meaning.Stores (operand_meant names x) (place_meant place)
meant names subscripts (RawLoads r home sizes) = meaning.RawLoads (name_at names r) (homes_meant home) sizes.now
    (map (operand_meant names) subscripts)
meant names subscripts (RawStores x home sizes) = meaning.RawStores (operand_meant names x)
    (homes_meant home) sizes.now (map (operand_meant names) subscripts)
meant names subscripts (Operates r op ty a b) = meaning.Operates (name_at names r) op (scalar_bits ty)
    (operand_meant names a) (operand_meant names b)
meant names subscripts (Converts r kind from to x) = meaning.Converts (name_at names r) kind (scalar_bits from)
    (scalar_bits to) (operand_meant names x)
meant names subscripts (Allocates number element sizes) = meaning.Allocates number element sizes.now
meant names subscripts (Releases number element sizes) = meaning.Releases number element sizes.now
meant names subscripts (AllocatesTags first count) = meaning.AllocatesTags first count
meant names subscripts (ReleasesTags first count) = meaning.ReleasesTags first count
meant names subscripts (Starts t) = meaning.Starts t
meant names subscripts (Waits tag count) = meaning.Waits tag count
meant names subscripts (Faults k) = meaning.Faults k
meant names subscripts Returns = meaning.Returns

-- a register is the number of one of so many names
abbrev pub OperandIn : ℕ → Operand → Type 0
OperandIn count (Number z) = Unit {0}
OperandIn count (Register r) = r < count

-- every number of a name in an action, and in the subscripts beside it, is that of one of so many names
abbrev pub NamesIn : ℕ → List Operand → Action → Type 0
NamesIn count subscripts (Sets r z) = r < count
NamesIn count subscripts (Loads r place) = r < count
NamesIn count subscripts (Stores x place) = OperandIn count x
NamesIn count subscripts (RawLoads r home sizes) = (r < count) × All (OperandIn count) subscripts
NamesIn count subscripts (RawStores x home sizes) = OperandIn count x × All (OperandIn count) subscripts
NamesIn count subscripts (Operates r op ty a b) = (r < count) × OperandIn count a × OperandIn count b
NamesIn count subscripts (Converts r kind from to x) = (r < count) × OperandIn count x
NamesIn count subscripts action = Unit {0}

-- an action that names no name
abbrev pub NamesNone : Action → Type 0
NamesNone action = (count : ℕ) (subscripts : List Operand) → NamesIn count subscripts action

-- an action that means this, whatever the names are
abbrev pub MeansAlone : Action → meaning.Action → Type 0
MeansAlone action m = (names : List Name) (subscripts : List Operand) → meant names subscripts action ≡ m
