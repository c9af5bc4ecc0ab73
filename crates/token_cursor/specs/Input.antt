-- What a function of the parser ensures, by the reader of its production. Where memory ran out it says nothing.
use Rattle.std.specs.Prelude.{◌≡◌, List, Option, Some, None, Result, Ok, Err}
use Rattle.affine_expr.specs.declared.expr.Expr.{Expr}
use Rattle.readers.specs.Readers.{Step, Got, Stop}
use Rattle.affine_grammar.specs.Token.{Tok}
use Rattle.affine_grammar.specs.declared.words.State.{State}
use Rattle.token_cursor.specs.declared.refusal.Refusal.{Refusal}
use Rattle.token_cursor.specs.declared.refusal.Refusal.TheVariants.{Here, Memory}

-- the answer is the reader's, and so are the tokens that are left: those behind what was read, or from the refused one on
abbrev pub Takes : {A : Type 0} → Result A Refusal → Step Tok A → List Tok → Type 0
Takes (Ok x) step rest = step ≡ Got x rest
Takes (Err Here) step rest = step ≡ Stop rest
Takes (Err Memory) step rest = Unit {0}

-- the same of a reader that goes on with what expressions are read with
abbrev pub Reads : {A : Type 0} → Result A Refusal → Step Tok (A × State) → State → List Tok → Type 0
Reads (Ok x) step state rest = step ≡ Got (x, state) rest
Reads (Err Here) step state rest = step ≡ Stop rest
Reads (Err Memory) step state rest = Unit {0}

-- the answer is what the definition gives, or nothing where it gives nothing
abbrev pub Chooses : {A : Type 0} → Result A Refusal → Option A → Type 0
Chooses (Ok x) found = found ≡ Some x
Chooses (Err Here) found = found ≡ None
Chooses (Err Memory) found = Unit {0}

-- the same of a leaf, with what expressions are read with behind it
abbrev pub Finds : Result Expr Refusal → Option (Expr × State) → State → Type 0
Finds (Ok x) found state = found ≡ Some (x, state)
Finds (Err Here) found state = found ≡ None
Finds (Err Memory) found state = Unit {0}
