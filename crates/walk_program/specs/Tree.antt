-- A list of statements as one inductive type, which the definitions about programs recurse on.
use Rattle.std.specs.Prelude.{ℕ, ℤ, Bool, true, false, List, [], ◌∷◌, Option, Some, None}
use Rattle.affine_expr.specs.declared.map.Set.{Set}
use Rattle.walk_program.specs.declared.plain.Limit.{Limit}
use Rattle.walk_program.specs.declared.plain.Plain.{Plain}
use Rattle.walk_program.specs.declared.statement.Counts.{Counts}
use Rattle.walk_program.specs.declared.statement.Form.{Form, fold-Form}
use Rattle.walk_program.specs.declared.statement.Form.TheOpen.{Form-F, Statement-F}
use Rattle.walk_program.specs.declared.statement.Statement.{Statement, fold-Statement}

-- statements in program order; the first number is a statement's line
pub data Tree : Type 0 where
  Nothing : Tree
  -- a loop: variable, lower and upper bound, step, what is allocated in its body, body; then what follows
  Loop : ℕ → ℕ → Limit → Limit → ℤ → Counts → Tree → Tree → Tree
  -- a condition: set, operands, first region and what is allocated in it, whether there is an else region, that region
  -- or nothing and what is allocated in it; then what follows
  Branch : ℕ → Set → List ℕ → Tree → Counts → Bool → Tree → Counts → Tree → Tree
  -- a plain statement; then what follows
  Does : ℕ → Plain → Tree → Tree

-- one list behind another
abbrev pub followed_by : Tree → Tree → Tree
followed_by Nothing b = b
followed_by (Loop line v l u s inside body rest) b = Loop line v l u s inside body (followed_by rest b)
followed_by (Branch line set operands first n has other m rest) b =
    Branch line set operands first n has other m (followed_by rest b)
followed_by (Does line p rest) b = Does line p (followed_by rest b)

-- what puts a statement before others
abbrev pub Puts : Type 0
Puts = Tree → Tree

abbrev pub joined : List Puts → Tree
joined [] = Nothing
joined (put ∷ puts) = put (joined puts)

abbrev pub is_there : Option (List Puts) → Bool
is_there (Some puts) = true
is_there None = false

abbrev pub joined_other : Option (List Puts) → Tree
joined_other (Some puts) = joined puts
joined_other None = Nothing

-- a statement over its parts: with its line, it is put before what follows
abbrev pub put_layer : Form-F (ℕ → Puts) Puts → ℕ → Puts
put_layer (Form-F.For v l u s inside body) line rest = Loop line v l u s inside (joined body) rest
put_layer (Form-F.If set operands first n other m) line rest =
    Branch line set operands (joined first) n (is_there other) (joined_other other) m rest
put_layer (Form-F.Plain p) line rest = Does line p rest

abbrev pub put_statement_layer : Statement-F (ℕ → Puts) Puts → Puts
put_statement_layer s rest = s.form s.line rest

-- a statement of this line before others
unfoldable pub put_form : Form → ℕ → Puts
put_form = fold-Form (ℕ → Puts) Puts put_layer put_statement_layer

unfoldable pub put_statement : Statement → Puts
put_statement = fold-Statement (ℕ → Puts) Puts put_layer put_statement_layer

-- the statements of a list
unfoldable pub tree : List Statement → Tree
tree [] = Nothing
tree (s ∷ ss) = put_statement s (tree ss)
