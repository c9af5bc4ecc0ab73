-- What the grammar asks of a module that neither the rules of validity nor the limits say.
use Rattle.std.specs.Prelude.{◌≡◌, ℕ, ◌≤◌, ◌<◌, ◌^◌, length, take, drop}
use Rattle.std.specs.List.{flat_map}
use Rattle.affine_lex.specs.Tokens.{IsId}
use Rattle.affine_ast.specs.declared.module.Module.{Module}
use Rattle.affine_ast.specs.declared.types.Access.{Access}
use Rattle.affine_ast.specs.declared.types.Bound.{Bound}
use Rattle.affine_ast.specs.declared.types.Bound.TheVariants as bound
use Rattle.affine_ast.specs.Nest.{Plain, Nest, Nothing, Loop, Branch, Does, Value, Load, Store, Start, Wait, Return, followed_by, nest}
use Rattle.numbered_names.specs.Numbers.{defined}
use Rattle.printed_texts.specs.Writable.{AllWritten, IsPositive, operands_of, Appear, AreApart, ArgumentsFit}

-- subscripts: dimensions and symbols are numbered by first appearance, and stand for values no two of which are one
pub record InOrder (at : Access) : Type 0 where
  pub order : Appear 0 0 (flat_map operands_of at.map.results) at.map.dims at.map.syms
  pub dims : AreApart (take at.map.dims at.operands)
  pub syms : AreApart (drop at.map.dims at.operands)

-- parameters that can be numbered
abbrev pub AreFew : ℕ → ℕ → Type 0
AreFew dims syms = (dims < 2 ^ 64) × (syms < 2 ^ 64)

abbrev pub FewInBound : Bound → Type 0
FewInBound (bound.Map at) = AreFew at.map.dims at.map.syms
FewInBound b = Unit {0}

-- a statement without regions; the function's `return` is none of these
abbrev pub FormedPlain : Plain → Type 0
FormedPlain (Value r pick at) = AreFew at.map.dims at.map.syms
FormedPlain (Load r m at ty) = InOrder at
FormedPlain (Store x m at ty) = InOrder at
FormedPlain (Start x x_at y y_at t t_at n stride types) = InOrder x_at × InOrder y_at × InOrder t_at
FormedPlain (Wait t at n ty) = InOrder at
FormedPlain Return = ⊥
FormedPlain p = Unit {0}

-- a step is an integer of 64 bits, and a condition has a row
abbrev pub Formed : Nest → Type 0
Formed Nothing = Unit {0}
Formed (Loop line v l u s body rest) = IsPositive s × FewInBound l × FewInBound u × Formed body × Formed rest
Formed (Branch line set names first has other rest) =
    (1 ≤ length set.rows) × AreFew set.dims set.syms × Formed first × Formed other × Formed rest
Formed (Does line p rest) = FormedPlain p × Formed rest

-- a module of such statements and then its `return`, whose names are those of a text
pub record IsFormed (m : Module) : Type 0 where
  pub name : IsId m.name
  pub args : ArgumentsFit m.args
  pub stmts : Nest
  pub line : ℕ
  pub body : nest m.body ≡ followed_by stmts (Does line Return Nothing)
  pub formed : Formed stmts
  pub names : AllWritten (defined stmts)
