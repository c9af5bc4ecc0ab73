-- The shape of a text's body: statements, and then its `return`.
use Rattle.std.specs.Prelude.{◌≡◌, ℕ, ◌≤◌, ℤ, List, length}
use Rattle.affine_expr.specs.declared.map.Set.{Set}
use Rattle.affine_ast.specs.declared.module.Module.{Module}
use Rattle.affine_ast.specs.declared.name.Name.{Name}
use Rattle.affine_ast.specs.declared.types.Bound.{Bound}
use Rattle.affine_ast.specs.Nest.{Plain, Nest, Nothing, Loop, Branch, Does, Return, followed_by, nest}
use Rattle.printed_texts.specs.Writable.{IsPositive}

-- something holds of each plain statement, of each loop by itself, and of each condition by itself
abbrev pub Each : (Plain → Type 0) → (Name → Bound → Bound → ℤ → Type 0) → (Set → List Name → Type 0) → Nest → Type 0
Each P L B Nothing = Unit {0}
Each P L B (Loop line v l u s body rest) = L v l u s × Each P L B body × Each P L B rest
Each P L B (Branch line set names first has other rest) = B set names × Each P L B first × Each P L B other × Each P L B rest
Each P L B (Does line p rest) = P p × Each P L B rest

abbrev pub IsNoReturn : Plain → Type 0
IsNoReturn Return = ⊥
IsNoReturn p = Unit {0}

abbrev pub HasStep : Name → Bound → Bound → ℤ → Type 0
HasStep v l u s = IsPositive s

abbrev pub HasRow : Set → List Name → Type 0
HasRow set names = 1 ≤ length set.rows

-- no statement is a `return`, each step is positive and of 64 bits, and each condition has a row
abbrev pub Shaped : Nest → Type 0
Shaped = Each IsNoReturn HasStep HasRow

-- a module of such statements and then its `return`
pub record HasShape (m : Module) : Type 0 where
  pub stmts : Nest
  pub line : ℕ
  pub body : nest m.body ≡ followed_by stmts (Does line Return Nothing)
  pub shaped : Shaped stmts
