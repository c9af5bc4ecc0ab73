-- What regions say of the accesses in the turns of a run.
use Rattle.std.specs.Prelude.{◌≡◌, ℕ, suc, ◌+◌, ℤ, pos, ◌+ℤ◌, ◌≤ℤ◌, ◌<ℤ◌, true, Bool, List, [], ◌∷◌, ◌++◌, length, slice_index_or, Some, Ok}
use Rattle.constraint_set.specs.Points.{PointOf}
use Rattle.affine_ast.specs.declared.image.Image.{Image}
use Rattle.affine_ast.specs.declared.module.Arg.{Arg}
use Rattle.affine_ast.specs.declared.module.Module.{Module}
use Rattle.affine_ast.specs.declared.name.Name.{Name}
use Rattle.affine_ast.specs.declared.types.Bound.{Bound}
use Rattle.affine_ast.specs.Names.{same_name}
use Rattle.affine_ast.specs.Nest.{Nest, Nothing, Loop, Does, Load, Store, nest}
use Rattle.affine_ast.specs.Validity.{IsValid}
use Rattle.direct_meaning.specs.Static.{Env, results_of}
use Rattle.direct_meaning.specs.Memory.{Fits, start_env}
use Rattle.nest_domain.specs.Ways.{Header, Use, at_path}
use Rattle.nest_domain.specs.Domains.{Known, symbol_count, place, system_of}
use Rattle.nest_domain.specs.Ways.{loop_count}
use Rattle.nest_domain.specs.Visits.{Visits, Along}
use Rattle.nest_domain.specs.Boxes.{Dimension, begins_at, AllWithin, AreOver}
use Rattle.access_region.specs.Regions.{uses_at}
use Rattle.access_region.specs.Places.{region_of}

-- each subscript, from that number on, that lies within its size lies in the region's extent from its place
abbrev pub AllInside : ℕ → List Dimension → List ℕ → List ℤ → List ℤ → Type 0
AllInside n [] [] os vs = Unit {0}
AllInside n [] (size ∷ sizes) os vs = ⊥
AllInside n (d ∷ ds) [] os vs = ⊥
AllInside n (d ∷ ds) (size ∷ sizes) os vs =
    (pos 0 ≤ℤ slice_index_or vs n (pos 0) → slice_index_or vs n (pos 0) <ℤ pos size → (begins_at d size os ≤ℤ slice_index_or vs n (pos 0)) × (slice_index_or vs n (pos 0) <ℤ (begins_at d size os +ℤ d.extent)))
    × AllInside (suc n) ds sizes os vs

-- at all whole values of the outer variables and the locals that meet the rows of the loop's outside
abbrev pub RegionsLieWithin : Type 0
RegionsLieWithin = (args : List Arg) (way : List Header) (us : List Use) (sizes : List ℕ) (ds : List Dimension) (dma : Bool) (k : Known) → region_of args way us sizes dma ≡ Ok ds → place args way [] ≡ Ok k
    → (os rest : List ℤ) → length os ≡ symbol_count args + loop_count way → PointOf (system_of k) (os ++ rest) (pos 1) → AllWithin ds sizes os

-- an affine access of a memref, with its subscripts' values there
abbrev pub AccessInside : Name → List Dimension → List ℕ → List ℤ → Nest → Env → Type 0
AccessInside m ds sizes os (Does line (Load r n at ty) rest) g = same_name m n ≡ true → AllInside 0 ds sizes os (results_of g at)
AccessInside m ds sizes os (Does line (Store x n at ty) rest) g = same_name m n ≡ true → AllInside 0 ds sizes os (results_of g at)
AccessInside m ds sizes os here g = Unit {0}

-- a loop that a path names, and the region of a memref there: in each visit of the loop, from a memory that fits, the region lies
-- within the memref, and wherever the making of the list of the loop's actions comes to an affine access of the memref each
-- subscript that lies within its size lies in the region
abbrev pub RegionsHold : Type 0
RegionsHold = (m : Module) → IsValid m → (memory : Image) → Fits m memory → (steps : List (ℕ × Bool)) (way : List Header) (line : ℕ) (v : Name) (l u : Bound) (s : ℤ) (body rest : Nest)
    → at_path (nest m.body) steps ≡ Some (record { way = way; here = Loop line v l u s body rest })
    → (name : Name) (sizes : List ℕ) (ds : List Dimension) (dma : Bool) → region_of m.args way (uses_at name way v l u s body) sizes dma ≡ Ok ds
    → (turns : List ℤ) (f : Env) → Visits way (start_env m.args memory.symbols) turns f
    → AllWithin ds sizes (memory.symbols ++ turns) × Along (λ inner here g. AccessInside name ds sizes (memory.symbols ++ turns) here g) (Loop line v l u s body Nothing) [] f

-- a region has a coefficient for each outer variable
abbrev pub RegionsAreOver : Type 0
RegionsAreOver = (args : List Arg) (way : List Header) (us : List Use) (sizes : List ℕ) (ds : List Dimension) (dma : Bool) → region_of args way us sizes dma ≡ Ok ds → AreOver (symbol_count args + loop_count way) ds
