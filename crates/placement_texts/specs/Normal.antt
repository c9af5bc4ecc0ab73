-- Subscripts whose dimensions are numbered by first appearance, as the grammar reads them.
use Rattle.std.specs.Prelude.{◌≡◌, ℕ, suc, Bool, true, false, List, [], ◌∷◌, ◌++◌, length, map, drop, flat_map, nat_eq, slice_index_or, if◌then◌else◌}
use Rattle.affine_expr.specs.declared.expr.Expr.{Expr, fold-Expr, roll-Expr}
use Rattle.affine_expr.specs.declared.expr.Expr.TheOpen.{Expr-F}
use Rattle.affine_ast.specs.declared.name.Name.{Name}
use Rattle.affine_ast.specs.declared.types.Access.{Access}
use Rattle.affine_ast.specs.Rules.{are_in, access_stands, map_fits, access_pure, access_bounded}
use Rattle.affine_ast.specs.Scope.{Scope}
use Rattle.direct_meaning.specs.Static.{Env, results_of}

-- the dimensions of an expression, as they appear
abbrev pub dims_step : Expr-F (List ℕ) → List ℕ
dims_step (Expr-F.Dim n) = n ∷ []
dims_step (Expr-F.Sym n) = []
dims_step (Expr-F.Const z) = []
dims_step (Expr-F.Neg a) = a
dims_step (Expr-F.Add a b) = a ++ b
dims_step (Expr-F.Sub a b) = a ++ b
dims_step (Expr-F.Mul a b) = a ++ b
dims_step (Expr-F.FloorDiv a b) = a ++ b
dims_step (Expr-F.CeilDiv a b) = a ++ b
dims_step (Expr-F.Mod a b) = a ++ b

unfoldable pub dims_of : Expr → List ℕ
dims_of = fold-Expr (List ℕ) dims_step

-- an expression with its dimensions numbered otherwise
abbrev pub dim_to : {A : Type 0} → (ℕ → ℕ) → Expr-F A → Expr-F A
dim_to f (Expr-F.Dim n) = Expr-F.Dim (f n)
dim_to f (Expr-F.Sym n) = Expr-F.Sym n
dim_to f (Expr-F.Const z) = Expr-F.Const z
dim_to f (Expr-F.Neg a) = Expr-F.Neg a
dim_to f (Expr-F.Add a b) = Expr-F.Add a b
dim_to f (Expr-F.Sub a b) = Expr-F.Sub a b
dim_to f (Expr-F.Mul a b) = Expr-F.Mul a b
dim_to f (Expr-F.FloorDiv a b) = Expr-F.FloorDiv a b
dim_to f (Expr-F.CeilDiv a b) = Expr-F.CeilDiv a b
dim_to f (Expr-F.Mod a b) = Expr-F.Mod a b

unfoldable pub renumbered : (ℕ → ℕ) → Expr → Expr
renumbered f = fold-Expr Expr (λ x. roll-Expr (dim_to f x))

abbrev pub has : ℕ → List ℕ → Bool
has n [] = false
has n (m ∷ ms) = if nat_eq n m then true else has n ms

-- these and then each other number where it first appears
abbrev pub firsts : List ℕ → List ℕ → List ℕ
firsts seen [] = seen
firsts seen (n ∷ ns) = firsts (if has n seen then seen else seen ++ n ∷ []) ns

abbrev pub index_of : ℕ → List ℕ → ℕ
index_of n [] = 0
index_of n (m ∷ ms) = if nat_eq n m then 0 else suc (index_of n ms)

abbrev pub no_name : Name
no_name = record { text = []; made = false }

-- the same access with these dimensions, in this order
abbrev pub ordered : List ℕ → Access → Access
ordered order at = record {
  map = record {
    dims = length order;
    syms = at.map.syms;
    results = map (renumbered (λ n. index_of n order)) at.map.results;
  };
  operands = map (λ n. slice_index_or at.operands n no_name) order ++ drop at.map.dims at.operands;
}

abbrev pub first_order : Access → List ℕ
first_order at = firsts [] (flat_map dims_of at.map.results)

abbrev pub normal : Access → Access
normal at = ordered (first_order at) at

-- it means the same
abbrev pub NormalMeansTheSame : Type 0
NormalMeansTheSame = (e : Env) (at : Access) → map_fits at ≡ true → results_of e (normal at) ≡ results_of e at

-- and it has as many operands as parameters, and these as leaves
abbrev pub NormalFits : Type 0
NormalFits = (at : Access) → map_fits at ≡ true → map_fits (normal at) ≡ true

-- and the rules V1, V4, V8 and V9 hold of it where they hold of the access
pub record StaysValid (s : Scope) (at : Access) : Type 0 where
  pub uses : are_in s at.operands ≡ true → are_in s (normal at).operands ≡ true
  pub stands : access_stands s at ≡ true → access_stands s (normal at) ≡ true
  pub pure : access_pure at ≡ true → access_pure (normal at) ≡ true
  pub bounded : access_bounded s at ≡ true → access_bounded s (normal at) ≡ true

abbrev pub NormalStaysValid : Type 0
NormalStaysValid = (s : Scope) (at : Access) → map_fits at ≡ true → StaysValid s at
