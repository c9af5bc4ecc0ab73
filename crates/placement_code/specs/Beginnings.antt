-- What one dimension gives to the accesses of a template: its place is a number where it has no term, and else a value.
use Rattle.std.specs.Prelude.{ℕ, suc, ℤ, Bool, true, false, List, [], ◌∷◌, if◌then◌else◌}
use Rattle.affine_expr.specs.declared.expr.Expr.{Expr, Dim, Const, Add}
use Rattle.affine_ast.specs.declared.name.Name.{Name}
use Rattle.placement_texts.specs.Template.{Dimension, clamp, plus, place_name}

abbrev pub has_none : List (Name × ℤ) → Bool
has_none [] = true
has_none (t ∷ ts) = false

-- the number, where it is one
abbrev pub fixed_place : Dimension → ℤ
fixed_place d = if d.clamped then clamp d d.offset else d.offset

-- the value that says the place, where one does
abbrev pub named_one : (ℕ → Name) → ℕ → Dimension → List Name
named_one name k d = if has_none d.terms then [] else place_name name k ∷ []

-- how many dimensions of a map that takes, from this one on
abbrev pub behind_one : ℕ → Dimension → ℕ
behind_one k d = if has_none d.terms then k else suc k

-- a turn and the place; the place alone
abbrev pub turn_place : ℕ → ℕ → Dimension → Expr
turn_place turn k d = if has_none d.terms then plus (Dim turn) (fixed_place d) else Add (Dim turn) (Dim k)

abbrev pub place_expr : ℕ → Dimension → Expr
place_expr k d = if has_none d.terms then Const (fixed_place d) else Dim k
