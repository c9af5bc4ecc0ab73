-- Validity of a module in which one more memref is staged.
use Rattle.std.specs.Prelude.{◌≡◌, ◌⊎◌, ℕ, ℤ, Bool, true, false, List, [], ◌∷◌, Some, None}
use Rattle.affine_ast.specs.declared.module.Arg.{Arg}
use Rattle.affine_ast.specs.declared.module.ArgKind.{ArgKind}
use Rattle.affine_ast.specs.declared.module.ArgKind.TheVariants as kind
use Rattle.affine_ast.specs.declared.module.Module.{Module}
use Rattle.affine_ast.specs.declared.name.Name.{Name}
use Rattle.affine_ast.specs.declared.types.MemrefType.{MemrefType}
use Rattle.affine_ast.specs.Names.{put}
use Rattle.affine_ast.specs.Nest.{Nest, nest}
use Rattle.affine_ast.specs.Scope.{Scope, Totals}
use Rattle.affine_ast.specs.Validity.{Passed, told, binding_of_kind, told_arguments, outside, first_broken, IsValid}
use Rattle.direct_meaning.specs.Action.{SlowMemref}
use Rattle.direct_meaning.specs.Memory.{start_env}
use Rattle.boxes.specs.Every.{Every}
use Rattle.placement_texts.specs.Each.{Each}
use Rattle.placement_texts.specs.Own.{OwnNest, MadeNames}
use Rattle.placement_texts.specs.Regions.{OwnDims, Apart}
use Rattle.placement_texts.specs.Spots.{Spot, IsLoop, staged_at, stage_one}
use Rattle.placement_texts.specs.Template.{Placement, slow_type}
use Rattle.placement_texts.specs.Fold.{Step, AllApart}
use Rattle.placement_texts.specs.Tests.{is_tested, DimsStand, NumbersWell, scope_at}

-- one of the arguments has this name and this kind
abbrev pub HasArgument : List Arg → Name → ArgKind → Type 0
HasArgument [] n k = ⊥
HasArgument (arg ∷ args) n k = ((arg.name ≡ n) × (arg.kind ≡ k)) ⊎ HasArgument args n k

abbrev pub OwnArguments : (Name → Bool) → List Arg → Type 0
OwnArguments own [] = Unit {0}
OwnArguments own (arg ∷ args) = (own arg.name ≡ true) × OwnArguments own args

-- the names in scope behind the arguments
abbrev pub scope_behind_arguments : List Arg → Scope → Scope
scope_behind_arguments [] s = s
scope_behind_arguments (arg ∷ args) s = scope_behind_arguments args (put s arg.name (Some (binding_of_kind arg.kind)))

abbrev pub body_scope : Module → Scope
body_scope m = scope_behind_arguments m.args (λ n. None)

-- a placement fits the loop at a place of a module: the memref is an argument of its type, the values that say where the box
-- begins may be dimensions there, and its names are none of the module's
pub record Stageable (own : Name → Bool) (p : Placement) (s : Spot) (m : Module) : Type 0 where
  pub loop : IsLoop s (nest m.body)
  pub memref : HasArgument m.args p.memref (kind.Memref (slow_type p))
  pub dims : DimsStand (scope_at s (nest m.body) (body_scope m)) p.dims
  pub numbers : NumbersWell p
  pub names : MadeNames own p.name
  pub own_dims : OwnDims own p.dims
  pub own_arguments : OwnArguments own m.args
  pub own_text : OwnNest own (nest m.body)

-- the second module is the first with the template round the loop there
pub record IsStaged (p : Placement) (s : Spot) (m m' : Module) : Type 0 where
  pub arguments : m'.args ≡ m.args
  pub body : nest m'.body ≡ staged_at p s (nest m.body)

-- the module breaks none of the rules that a plan tests, where it breaks one first
abbrev pub PassesTests : Module → Type 0
PassesTests m = (line n : ℕ) → first_broken m ≡ Some (line, n) → is_tested n ≡ false

-- from a valid module before and the tests on the module after, the module after is valid
abbrev pub StagedIsValid : Type 0
StagedIsValid = (own : Name → Bool) (p : Placement) (s : Spot) (m m' : Module) → IsValid m → Stageable own p s m
    → IsStaged p s m m' → PassesTests m' → IsValid m'

-- in a valid module, an access of a memref of another name goes to none of an argument's slow places
abbrev pub ValidIsApart : Type 0
ValidIsApart = (m : Module) → IsValid m → (symbols : List ℤ) (n : Name) (ty : MemrefType) (order first : ℕ)
    → HasArgument m.args n (kind.Memref ty) → (start_env m.args symbols).home n ≡ Some (SlowMemref order first)
    → Each (Apart n first ty.sizes) (nest m.body) (start_env m.args symbols)

-- arguments and statements that break no rule
pub record Passes (args : List Arg) (n : Nest) : Type 0 where
  pub totals : Totals
  pub passed : told_arguments args (told n) outside ≡ Passed totals

-- each text on the way does
abbrev pub AllPass : List Arg → List Step → Nest → Type 0
AllPass args [] n = Unit {0}
AllPass args (s ∷ ss) n = Passes args n × AllPass args ss (stage_one s.placement s.spot n)

-- a step's memref is an argument, and these are its number and its first slow place
abbrev pub StagesArgument : List Arg → List ℤ → Step → Type 0
StagesArgument args symbols s = HasArgument args s.placement.memref (kind.Memref (slow_type s.placement))
    × ((start_env args symbols).home s.placement.memref ≡ Some (SlowMemref s.order s.first))

-- so the premise on accesses of other memrefs is met, in each text on the way
abbrev pub PassingIsApart : Type 0
PassingIsApart = (made_by : Name → ℕ) (args : List Arg) (symbols : List ℤ) (ss : List Step) (n : Nest)
    → Every (StagesArgument args symbols) ss → AllPass args ss n → AllApart made_by ss n (start_env args symbols)
