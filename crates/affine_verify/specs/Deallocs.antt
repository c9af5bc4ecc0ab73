-- The deallocs in the rest of a region, by their names.
use Rattle.std.specs.Prelude.{◌≡◌, ℕ, Bool, true, false, ◌||◌, List, [], ◌∷◌, nat_lt, if◌then◌else◌}
use Rattle.affine_ast.specs.declared.name.Name.{Name}
use Rattle.affine_ast.specs.declared.stmt.Stmt.{Stmt}
use Rattle.affine_ast.specs.declared.stmt.What.{What}
use Rattle.affine_ast.specs.Names.{same_name}
use Rattle.affine_ast.specs.Nest.{Plain, Alloc, Nest, Nothing, nest, put_what}
use Rattle.affine_ast.specs.Rules.{deallocs, own_deallocs, is_released_once}
use Rattle.affine_rules.specs.Scoped.{names_of}
use Rattle.affine_verify.specs.declared.release.Role.{Role}
use Rattle.affine_verify.specs.declared.release.Role.TheVariants as role
use Rattle.affine_verify.specs.declared.release.Deallocs.{Deallocs}
use Rattle.affine_ast.specs.Nest.{plain_of}

-- whether what a statement allocates, if anything, is released exactly once in the rest of its region, in the region itself
abbrev pub once_of : Plain → Nest → Bool
once_of (Alloc r ty) rest = is_released_once r rest
once_of p rest = true

-- that of each statement of a list
unfoldable pub once_each : List Stmt → List Bool
once_each [] = []
once_each (s ∷ ss) = once_of (plain_of s.what) (nest ss) ∷ once_each ss

-- the deallocs of a name in one statement, at every depth
unfoldable pub deallocs_in : Name → What → ℕ
deallocs_in m w = deallocs m (put_what w 0 Nothing)

-- the dealloc that a statement is by itself
abbrev pub role_own : Role → Name → ℕ
role_own (role.Dealloc n) m = if same_name n.now m then 1 else 0
role_own (role.Alloc r) m = 0
role_own role.Region m = 0
role_own role.Other m = 0

abbrev pub role_once : Role → Nest → Bool
role_once (role.Alloc r) rest = is_released_once r.now rest
role_once (role.Dealloc n) rest = true
role_once role.Region rest = true
role_once role.Other rest = true

abbrev pub is_region_role : Role → Bool
is_region_role role.Region = true
is_region_role (role.Alloc r) = false
is_region_role (role.Dealloc n) = false
is_region_role role.Other = false

-- the names with a dealloc in the rest of a region, in the region itself; and those with a second one there, or with one further in
pub record Lists (d : Deallocs) (rest : Nest) : Type 0 where
  pub own : (m : Name) → names_of d.own.keys m ≡ nat_lt 0 (own_deallocs m rest)
  pub more : (m : Name) → names_of d.more.keys m ≡ (nat_lt 1 (own_deallocs m rest) || nat_lt (own_deallocs m rest) (deallocs m rest))
