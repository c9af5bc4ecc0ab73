-- Texts whose names are bound once wherever they are in scope.
use Rattle.std.specs.Prelude.{◌≡◌, ℤ, ◌≤ℤ◌, ◌<ℤ◌, Bool, true, false, List, [], ◌∷◌, Option, Some, None}
use Rattle.affine_ast.specs.declared.image.Image.{Image}
use Rattle.affine_ast.specs.declared.module.Arg.{Arg}
use Rattle.affine_ast.specs.declared.module.Module.{Module}
use Rattle.affine_ast.specs.declared.name.Name.{Name}
use Rattle.affine_ast.specs.Names.{put}
use Rattle.affine_ast.specs.Nest.{Plain, Nest, Nothing, Loop, Branch, Does, nest}
use Rattle.affine_ast.specs.Parts.{result_of}
use Rattle.affine_ast.specs.Validity.{IsValid}
use Rattle.direct_meaning.specs.Actions.{after_plain, behind}
use Rattle.direct_meaning.specs.Memory.{Fits, start_env}
use Rattle.direct_meaning.specs.Static.{Env, knows, lower_of, upper_of}

-- a name isn't bound yet: it is none of those in scope, and stands for no number and no memref
pub record IsFree (bound : Name → Bool) (e : Env) (n : Name) : Type 0 where
  pub not_bound : bound n ≡ false
  pub no_number : e.known n ≡ None
  pub no_memref : e.home n ≡ None

abbrev pub binds : Name → (Name → Bool) → Name → Bool
binds n bound = put bound n true

-- the names in scope behind a plain statement
abbrev pub bound_with : Option Name → (Name → Bool) → Name → Bool
bound_with (Some r) bound = binds r bound
bound_with None bound = bound

abbrev pub bound_after : Plain → (Name → Bool) → Name → Bool
bound_after p bound = bound_with (result_of p) bound

-- what a plain statement binds
abbrev pub BindsFree : (Name → Bool) → Env → Option Name → Type 0
BindsFree bound e (Some r) = IsFree bound e r
BindsFree bound e None = Unit {0}

abbrev pub PlainBindsOnce : (Name → Bool) → Env → Plain → Type 0
PlainBindsOnce bound e p = BindsFree bound e (result_of p)

-- wherever the list of actions is made, a statement binds a name that isn't bound yet; what a region binds isn't bound behind it
abbrev pub BindsOnce : Nest → (Name → Bool) → Env → Type 0
BindsOnce Nothing bound e = Unit {0}
BindsOnce (Loop line v l u s body rest) bound e =
    IsFree bound e v × ((t : ℤ) → lower_of e l ≤ℤ t → t <ℤ upper_of e u → BindsOnce body (binds v bound) (knows e v t)) × BindsOnce rest bound (behind body e)
BindsOnce (Branch line set names first has other rest) bound e =
    BindsOnce first bound e × BindsOnce other bound (behind first e) × BindsOnce rest bound (behind other (behind first e))
BindsOnce (Does line p rest) bound e = PlainBindsOnce bound e p × BindsOnce rest (bound_after p bound) (after_plain p e)

-- ---- arguments

-- each argument's name is none of those before it
abbrev pub ArgumentsBindOnce : List Arg → (Name → Bool) → Type 0
ArgumentsBindOnce [] bound = Unit {0}
ArgumentsBindOnce (arg ∷ args) bound = (bound arg.name ≡ false) × ArgumentsBindOnce args (binds arg.name bound)

abbrev pub bound_by : List Arg → (Name → Bool) → Name → Bool
bound_by [] bound = bound
bound_by (arg ∷ args) bound = bound_by args (binds arg.name bound)

-- ---- the law

pub record ModuleBindsOnce (m : Module) (memory : Image) : Type 0 where
  pub arguments : ArgumentsBindOnce m.args (λ n. false)
  pub body : BindsOnce (nest m.body) (bound_by m.args (λ n. false)) (start_env m.args memory.symbols)

-- so does every valid module, its arguments and then its statements, from every memory that fits it
abbrev pub ValidBindsOnce : Type 0
ValidBindsOnce = (m : Module) → IsValid m → (memory : Image) → Fits m memory → ModuleBindsOnce m memory
