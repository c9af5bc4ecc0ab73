-- What code makes of statements, as the texts of `placement_texts` have it.
use Rattle.std.specs.Prelude.{◌≡◌, ℕ, suc, Bool, if◌then◌else◌, List, ◌∷◌, ◌++◌}
use Rattle.affine_ast.specs.declared.module.Module.{Module}
use Rattle.affine_ast.specs.declared.name.Name.{Name}
use Rattle.affine_ast.specs.declared.stmt.Stmt.{Stmt}
use Rattle.affine_ast.specs.declared.stmt.What as what
use Rattle.affine_ast.specs.declared.stmt.What.{What}
use Rattle.affine_ast.specs.declared.types.Access.{Access}
use Rattle.affine_ast.specs.declared.types.MemrefType.{MemrefType}
use Rattle.affine_ast.specs.Names.{same_name}
use Rattle.affine_ast.specs.Nest.{Plain, Nest, Nothing, Load, Store, nest, put_what}
use Rattle.placement_texts.specs.Mapped.{mapped}
use Rattle.placement_texts.specs.OneTag.{InText}
use Rattle.placement_texts.specs.Spots.{Spot, Inside, Other, found, staged_at, stage_one}
use Rattle.placement_texts.specs.Template.{Placement, redirect, fast_name, fast_type, in_fast, begins}
use Rattle.placement_code.specs.Redirects.{HaveSmall}

-- a subscript that is a number alone is small, as the rule on intervals has it
abbrev pub HasSmallSubscripts : Plain → Type 0
HasSmallSubscripts (Load r m at ty) = HaveSmall at.map.results
HasSmallSubscripts (Store x m at ty) = HaveSmall at.map.results
HasSmallSubscripts q = Unit {0}

abbrev pub IsSmallText : Nest → Type 0
IsSmallText n = InText HasSmallSubscripts n

abbrev pub IsSmallWhat : What → Type 0
IsSmallWhat w = IsSmallText (put_what w 0 Nothing)

-- a load, a store
abbrev pub load_over : Placement → Name → Name → Access → MemrefType → What
load_over p r m at ty = if same_name p.memref m then what.Load r (fast_name p.name) (in_fast (begins p) at) (fast_type p) else what.Load r m at ty

abbrev pub store_over : Placement → Name → Name → Access → MemrefType → What
store_over p x m at ty = if same_name p.memref m then what.Store x (fast_name p.name) (in_fast (begins p) at) (fast_type p) else what.Store x m at ty

-- a statement with the accesses in it redirected
pub record IsRedirected (p : Placement) (before after : What) : Type 0 where
  pub put : (line : ℕ) (rest : Nest) → put_what after line (mapped (redirect p) rest) ≡ mapped (redirect p) (put_what before line rest)

-- a statement with a line, and its regions staged at a place from it inward
pub record IsStagedInside (p : Placement) (s : Spot) (before after : What) : Type 0 where
  pub put : (line : ℕ) (rest : Nest) → put_what after (suc line) rest ≡ staged_at p (found s (put_what before (suc line) rest)) (put_what before (suc line) rest)

-- a place in the `else` region of a statement, or in its first one
abbrev pub into : Bool → Spot → Spot
into other s = if other then Other s else Inside s

-- a region, staged at a place in it where it is entered
abbrev pub region_staged : Placement → Bool → Spot → List Stmt → Nest
region_staged p enters s ss = if enters then staged_at p (found s (nest ss)) (nest ss) else nest ss

-- the statements that one becomes, with what stands behind it
pub record IsStagedAs (p : Placement) (s : Spot) (before : Stmt) (after : List Stmt) : Type 0 where
  pub put : (back : List Stmt) → nest (after ++ back) ≡ staged_at p (found s (nest (before ∷ back))) (nest (before ∷ back))

-- a module with one placement more
pub record IsStagedModule (p : Placement) (s : Spot) (before after : Module) : Type 0 where
  pub name : after.name ≡ before.name
  pub args : after.args ≡ before.args
  pub body : nest after.body ≡ stage_one p s (nest before.body)
