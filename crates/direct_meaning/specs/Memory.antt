-- Memories of a module: what fits it, and what its names stand for at the start.
pub use Rattle.affine_ast.specs.Intervals.{range_or}
use Rattle.std.specs.Prelude.{◌≡◌, ℕ, suc, ◌+◌, ℤ, pos, ◌≤ℤ◌, List, [], ◌∷◌, length, drop, flat_map, fold, All, Some, None, slice_index_or}
use Rattle.affine_expr.specs.declared.map.Interval.{Interval}
use Rattle.affine_ast.specs.declared.name.Name.{Name}
use Rattle.affine_ast.specs.declared.image.Cells.{Cells}
use Rattle.affine_ast.specs.declared.image.Image.{Image}
use Rattle.affine_ast.specs.declared.module.Arg.{Arg}
use Rattle.affine_ast.specs.declared.module.ArgKind.{ArgKind}
use Rattle.affine_ast.specs.declared.module.ArgKind.TheVariants.{Memref, Index}
use Rattle.affine_ast.specs.declared.module.Module.{Module}
use Rattle.affine_ast.specs.Names.{put}
use Rattle.affine_ast.specs.Nest.{nest}
use Rattle.int_ops.specs.Wrapped.{InRange}
use Rattle.direct_meaning.specs.Action.{SlowMemref, Action}
use Rattle.direct_meaning.specs.Static.{Env, knows, product, element_bits}
use Rattle.direct_meaning.specs.Actions.{actions}

-- the slow list: the elements of the memref arguments in order, each row-major
abbrev pub slow_list : List Cells → List ℤ
slow_list memrefs = flat_map (λ cells. cells.values) memrefs

pub record InInterval (range : Interval) (z : ℤ) : Type 0 where
  pub low : range.least ≤ℤ z
  pub high : z ≤ℤ range.greatest

-- the first cells, or the first number, fit an argument, and what is left fits the rest
abbrev pub FitsArg : ArgKind → (List Cells → List ℤ → Type 0) → List Cells → List ℤ → Type 0
FitsArg (Memref ty) rest [] symbols = ⊥
FitsArg (Memref ty) rest (cells ∷ memrefs) symbols = (length cells.values ≡ product ty.sizes) × All (InRange (element_bits ty.element)) cells.values × rest memrefs symbols
FitsArg (Index range) rest memrefs [] = ⊥
FitsArg (Index range) rest memrefs (z ∷ symbols) = InInterval (range_or range) z × rest memrefs symbols

abbrev pub FitsArgs : List Arg → List Cells → List ℤ → Type 0
FitsArgs [] memrefs symbols = (memrefs ≡ []) × (symbols ≡ [])
FitsArgs (arg ∷ args) memrefs symbols = FitsArg arg.kind (FitsArgs args) memrefs symbols

-- a memory fits a module: it has the memref arguments' sizes, each value lies in its element's signed range, and each
-- index argument lies in its range
pub record Fits (module_ : Module) (memory : Image) : Type 0 where
  pub fits : FitsArgs module_.args memory.memrefs memory.symbols

-- what the arguments so far stand for, how many memrefs and how many elements they have, and the numbers left
pub record Placed : Type 0 where
  pub env : Env
  pub memrefs : ℕ
  pub elements : ℕ
  pub symbols : List ℤ

abbrev pub place_kind : ArgKind → Name → Placed → Placed
place_kind (Memref ty) name p = record {
  env = record p.env { home = put p.env.home name (Some (SlowMemref p.memrefs p.elements)) };
  memrefs = suc p.memrefs;
  elements = p.elements + product ty.sizes;
  symbols = p.symbols;
}
place_kind (Index range) name p = record p { env = knows p.env name (slice_index_or p.symbols 0 (pos 0)); symbols = drop 1 p.symbols }

abbrev pub place_arg : Placed → Arg → Placed
place_arg p arg = place_kind arg.kind arg.name p

-- nothing is known, and nothing allocated
abbrev pub empty_env : Env
empty_env = record { known = λ n. None; home = λ n. None; fasts = 0; tags = 0 }

abbrev pub placed_args : List Arg → List ℤ → Placed
placed_args args symbols = fold place_arg (record { env = empty_env; memrefs = 0; elements = 0; symbols = symbols }) args

-- what the names of the arguments stand for, for these index arguments
unfoldable pub start_env : List Arg → List ℤ → Env
start_env args symbols = (placed_args args symbols).env

-- the actions of a module for these index arguments
unfoldable pub module_actions : Module → List ℤ → List Action
module_actions m symbols = actions (nest m.body) (start_env m.args symbols)
