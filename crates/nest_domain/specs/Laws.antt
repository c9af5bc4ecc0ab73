-- What the rows of a place say of the turns in which a run comes to it.
use Rattle.std.specs.Prelude.{◌≡◌, ℕ, ◌<◌, ◌≤◌, ℤ, pos, Bool, List, [], ◌∷◌, ◌++◌, length, Some, Ok}
use Rattle.constraint_set.specs.Lists.{Each}
use Rattle.constraint_set.specs.Points.{PointOf}
use Rattle.constraint_set.specs.Reach.{IsBounded}
use Rattle.affine_expr.specs.Forms.{Form}
use Rattle.affine_expr.specs.Linear.{minus}
use Rattle.affine_ast.specs.declared.image.Image.{Image}
use Rattle.affine_ast.specs.declared.module.Arg.{Arg}
use Rattle.affine_ast.specs.declared.module.Module.{Module}
use Rattle.affine_ast.specs.declared.name.Name.{Name}
use Rattle.affine_ast.specs.declared.types.Access.{Access}
use Rattle.affine_ast.specs.declared.types.Bound.{Bound}
use Rattle.affine_ast.specs.declared.types.Bound.TheVariants as bound
use Rattle.affine_ast.specs.Nest.{Plain, nest}
use Rattle.affine_ast.specs.Validity.{IsValid}
use Rattle.direct_meaning.specs.Action.{Action}
use Rattle.direct_meaning.specs.Static.{Env}
use Rattle.direct_meaning.specs.Actions.{action_of}
use Rattle.direct_meaning.specs.Memory.{Fits, start_env, module_actions}
use Rattle.nest_domain.specs.Ways.{Header, Round, Given, Except, Behind, Past, Spot, at_path}
use Rattle.nest_domain.specs.Domains.{Known, place, row_at, system_of, Accessed, access}
use Rattle.nest_domain.specs.Visits.{Visits, Along}

-- a point that begins with these numbers, with others for the locals behind them
pub record BeginsPoint (k : Known) (p : List ℤ) : Type 0 where
  pub more : List ℤ
  pub point : PointOf (system_of k) (p ++ more) (pos 1)

-- in some turns of the loops round it a statement is come to, and these, behind the symbols, begin a point of its rows, whatever
-- names it uses
pub record IsVisited (args : List Arg) (zs : List ℤ) (way : List Header) (g : Env) : Type 0 where
  pub turns : List ℤ
  pub visits : Visits way (start_env args zs) turns g
  pub points : (own : List Name) (k : Known) → place args way own ≡ Ok k → BeginsPoint k (zs ++ turns)

-- wherever the list of actions of a valid module comes, from a memory that fits, the symbols and the turns begin a point of the
-- statement's rows
abbrev pub PlacesArePoints : Type 0
PlacesArePoints = (m : Module) → IsValid m → (memory : Image) → Fits m memory
    → Along (λ way here g. IsVisited m.args memory.symbols way g) (nest m.body) [] (start_env m.args memory.symbols)

-- an action is that of a plain statement where the making of the list comes to it
pub record ComesFrom (args : List Arg) (zs : List ℤ) (a : Action) : Type 0 where
  pub way : List Header
  pub plain : Plain
  pub env : Env
  pub visited : IsVisited args zs way env
  pub is : a ≡ action_of plain env

-- each action of a valid module is that of a plain statement, in turns that begin a point of the statement's rows
abbrev pub ActionsAreVisited : Type 0
ActionsAreVisited = (m : Module) → IsValid m → (memory : Image) → Fits m memory → Each (ComesFrom m.args memory.symbols) (module_actions m memory.symbols)

-- in each visit of the statement that a path names the symbols and the turns begin a point of its rows
abbrev pub PathsArePoints : Type 0
PathsArePoints = (m : Module) → IsValid m → (memory : Image) → Fits m memory → (steps : List (ℕ × Bool)) (s : Spot) → at_path (nest m.body) steps ≡ Some s
    → (turns : List ℤ) (g : Env) → Visits s.way (start_env m.args memory.symbols) turns g
    → (own : List Name) (k : Known) → place m.args s.way own ≡ Ok k → BeginsPoint k (memory.symbols ++ turns)

-- ---- every form of a place is bounded over its scaled points
-- a bound has a result at least, as in every text
abbrev pub HasResult : Bound → Type 0
HasResult (bound.Int z) = Unit {0}
HasResult (bound.Value n) = Unit {0}
HasResult (bound.Map at) = 0 < length at.map.results

-- so do the bounds of the loops on a way
abbrev pub HasBounds : List Header → Type 0
HasBounds [] = Unit {0}
HasBounds (Round v l u s ∷ hs) = HasResult l × HasResult u × HasBounds hs
HasBounds (Given set names ∷ hs) = HasBounds hs
HasBounds (Except set names first ∷ hs) = HasBounds hs
HasBounds (Behind p ∷ hs) = HasBounds hs
HasBounds (Past n ∷ hs) = HasBounds hs

-- in a valid module the loops round a statement that a path names have such bounds
abbrev pub WaysHaveBounds : Type 0
WaysHaveBounds = (m : Module) → IsValid m → (steps : List (ℕ × Bool)) (s : Spot) → at_path (nest m.body) steps ≡ Some s → HasBounds s.way

-- a combination of the outer variables is bounded over the points of a place, and so is a subscript of an access, less such a
-- combination, over the points of the access
abbrev pub CombinationsAreBounded : Type 0
CombinationsAreBounded = (args : List Arg) (way : List Header) (own : List Name) (k : Known) → HasBounds way → place args way own ≡ Ok k → (c : List ℤ) → length c ≤ k.outer
    → IsBounded (system_of k) (row_at k.next (record { coefs = c; constant = pos 0 }))

abbrev pub SubscriptsAreBounded : Type 0
SubscriptsAreBounded = (args : List Arg) (way : List Header) (at : Access) (a : Accessed) → HasBounds way → access args way at ≡ Ok a → (c : List ℤ) → length c ≤ a.known.outer
    → Each (λ f. (h : Form) → minus f (record { coefs = c; constant = pos 0 }) ≡ Ok h → IsBounded (system_of a.known) (row_at a.known.next h)) a.forms
