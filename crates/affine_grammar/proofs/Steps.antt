-- Steps of the loops of a parser: where the next token begins an item one more is read, where it doesn't
-- the loop has ended, and an item takes a token.
use Rattle.std.proofs.Common.{◌≡◌, ℕ, ◌-◌, ◌<◌, Bool, true, false, List, length}
use Rattle.readers.specs.Readers.{Got, head, and_then, many, times, exactly}
use Rattle.readers.proofs.Laws.{times_more, times_done, exactly_more, exactly_done}
use Rattle.readers.proofs.Repeated.{many_more, many_done, items_shorter}
use Rattle.affine_expr.specs.declared.expr.Expr.{Expr}
use Rattle.affine_expr.specs.declared.map.Constraint.{Constraint}
use Rattle.affine_ast.specs.declared.name.Name.{Name}
use Rattle.affine_ast.specs.declared.stmt.Stmt.{Stmt}
use Rattle.affine_ast.specs.declared.module.Arg.{Arg}
use Rattle.affine_grammar.specs.declared.words.State.{State}
use Rattle.affine_grammar.specs.declared.words.Alias.{Alias}
use Rattle.affine_grammar.specs.declared.words.Leaves.{Leaves}
use Rattle.affine_grammar.specs.Token.{Tok, at_sign, at_size, at_product, at_sum, at_stmt, at_alias, sign}
use Rattle.affine_grammar.specs.Reading.{one_size, factor, summand, unary, next_parameter, next_result, next_row, one_value, next_value}
use Rattle.affine_grammar.specs.ReadingFile.{statement, region, next_argument, alias_definition}
use Rattle.affine_grammar.proofs.Expressions.{size_items, exact_unary, factor_items, summand_items}
use Rattle.affine_grammar.proofs.Maps.{parameter_items, result_items, row_items, value_items}
use Rattle.affine_grammar.proofs.Statements.{stmt_items, exact_regions}
use Rattle.affine_grammar.proofs.File.{argument_items, alias_items}

-- ---- sizes

pub size_more : (b : List ℕ) (ts : List Tok) → at_size (head ts) ≡ true → many at_size one_size b ts ≡ and_then (one_size b ts) (many at_size one_size)
size_more = many_more size_items

pub size_done : (b : List ℕ) (ts : List Tok) → at_size (head ts) ≡ false → many at_size one_size b ts ≡ Got b ts
size_done = many_done size_items

pub size_shorter : (b c : List ℕ) (ts rest : List Tok) → one_size b ts ≡ Got c rest → length rest < length ts
size_shorter = items_shorter size_items

-- ---- the factors of a product

pub factor_more : (l : Leaves) (left : ℕ) (b : Expr × State) (ts : List Tok) → at_product (head ts) ≡ true → many at_product (factor (unary l left)) b ts ≡ and_then ((factor (unary l left)) b ts) (many at_product (factor (unary l left)))
factor_more l left = many_more (factor_items (exact_unary l left))

pub factor_done : (l : Leaves) (left : ℕ) (b : Expr × State) (ts : List Tok) → at_product (head ts) ≡ false → many at_product (factor (unary l left)) b ts ≡ Got b ts
factor_done l left = many_done (factor_items (exact_unary l left))

pub factor_shorter : (l : Leaves) (left : ℕ) (b c : Expr × State) (ts rest : List Tok) → (factor (unary l left)) b ts ≡ Got c rest → length rest < length ts
factor_shorter l left = items_shorter (factor_items (exact_unary l left))

-- ---- the summands of a sum

pub summand_more : (l : Leaves) (left : ℕ) (b : Expr × State) (ts : List Tok) → at_sum (head ts) ≡ true → many at_sum (summand (unary l left)) b ts ≡ and_then ((summand (unary l left)) b ts) (many at_sum (summand (unary l left)))
summand_more l left = many_more (summand_items (exact_unary l left))

pub summand_done : (l : Leaves) (left : ℕ) (b : Expr × State) (ts : List Tok) → at_sum (head ts) ≡ false → many at_sum (summand (unary l left)) b ts ≡ Got b ts
summand_done l left = many_done (summand_items (exact_unary l left))

pub summand_shorter : (l : Leaves) (left : ℕ) (b c : Expr × State) (ts rest : List Tok) → (summand (unary l left)) b ts ≡ Got c rest → length rest < length ts
summand_shorter l left = items_shorter (summand_items (exact_unary l left))

-- ---- parameters

pub parameter_more : (dims : List Name) (b : List Name) (ts : List Tok) → (at_sign 44) (head ts) ≡ true → many (at_sign 44) (next_parameter dims) b ts ≡ and_then ((next_parameter dims) b ts) (many (at_sign 44) (next_parameter dims))
parameter_more dims = many_more (parameter_items dims)

pub parameter_done : (dims : List Name) (b : List Name) (ts : List Tok) → (at_sign 44) (head ts) ≡ false → many (at_sign 44) (next_parameter dims) b ts ≡ Got b ts
parameter_done dims = many_done (parameter_items dims)

pub parameter_shorter : (dims : List Name) (b c : List Name) (ts rest : List Tok) → (next_parameter dims) b ts ≡ Got c rest → length rest < length ts
parameter_shorter dims = items_shorter (parameter_items dims)

-- ---- results and subscripts

pub result_more : (l : Leaves) (several : Bool) (b : List Expr × State) (ts : List Tok) → (at_sign 44) (head ts) ≡ true → many (at_sign 44) (next_result l several) b ts ≡ and_then ((next_result l several) b ts) (many (at_sign 44) (next_result l several))
result_more l several = many_more (result_items l several)

pub result_done : (l : Leaves) (several : Bool) (b : List Expr × State) (ts : List Tok) → (at_sign 44) (head ts) ≡ false → many (at_sign 44) (next_result l several) b ts ≡ Got b ts
result_done l several = many_done (result_items l several)

pub result_shorter : (l : Leaves) (several : Bool) (b c : List Expr × State) (ts rest : List Tok) → (next_result l several) b ts ≡ Got c rest → length rest < length ts
result_shorter l several = items_shorter (result_items l several)

-- ---- rows

pub row_more : (b : List Constraint × State) (ts : List Tok) → (at_sign 44) (head ts) ≡ true → many (at_sign 44) next_row b ts ≡ and_then (next_row b ts) (many (at_sign 44) next_row)
row_more = many_more row_items

pub row_done : (b : List Constraint × State) (ts : List Tok) → (at_sign 44) (head ts) ≡ false → many (at_sign 44) next_row b ts ≡ Got b ts
row_done = many_done row_items

pub row_shorter : (b c : List Constraint × State) (ts rest : List Tok) → next_row b ts ≡ Got c rest → length rest < length ts
row_shorter = items_shorter row_items

-- ---- values in brackets

pub value_more : (b : List Name) (ts : List Tok) → (at_sign 44) (head ts) ≡ true → many (at_sign 44) next_value b ts ≡ and_then (next_value b ts) (many (at_sign 44) next_value)
value_more = many_more value_items

pub value_done : (b : List Name) (ts : List Tok) → (at_sign 44) (head ts) ≡ false → many (at_sign 44) next_value b ts ≡ Got b ts
value_done = many_done value_items

pub value_shorter : (b c : List Name) (ts rest : List Tok) → next_value b ts ≡ Got c rest → length rest < length ts
value_shorter = items_shorter value_items

-- ---- statements

pub stmt_more : (aliases : List Alias) (left : ℕ) (b : List Stmt × ℕ) (ts : List Tok) → at_stmt (head ts) ≡ true → many at_stmt (statement (region aliases left) aliases) b ts ≡ and_then ((statement (region aliases left) aliases) b ts) (many at_stmt (statement (region aliases left) aliases))
stmt_more aliases left = many_more (stmt_items (exact_regions aliases left) aliases)

pub stmt_done : (aliases : List Alias) (left : ℕ) (b : List Stmt × ℕ) (ts : List Tok) → at_stmt (head ts) ≡ false → many at_stmt (statement (region aliases left) aliases) b ts ≡ Got b ts
stmt_done aliases left = many_done (stmt_items (exact_regions aliases left) aliases)

pub stmt_shorter : (aliases : List Alias) (left : ℕ) (b c : List Stmt × ℕ) (ts rest : List Tok) → (statement (region aliases left) aliases) b ts ≡ Got c rest → length rest < length ts
stmt_shorter aliases left = items_shorter (stmt_items (exact_regions aliases left) aliases)

-- ---- arguments

pub argument_more : (b : List Arg) (ts : List Tok) → (at_sign 44) (head ts) ≡ true → many (at_sign 44) next_argument b ts ≡ and_then (next_argument b ts) (many (at_sign 44) next_argument)
argument_more = many_more argument_items

pub argument_done : (b : List Arg) (ts : List Tok) → (at_sign 44) (head ts) ≡ false → many (at_sign 44) next_argument b ts ≡ Got b ts
argument_done = many_done argument_items

pub argument_shorter : (b c : List Arg) (ts rest : List Tok) → next_argument b ts ≡ Got c rest → length rest < length ts
argument_shorter = items_shorter argument_items

-- ---- aliases

pub alias_more : (b : List Alias) (ts : List Tok) → at_alias (head ts) ≡ true → many at_alias alias_definition b ts ≡ and_then (alias_definition b ts) (many at_alias alias_definition)
alias_more = many_more alias_items

pub alias_done : (b : List Alias) (ts : List Tok) → at_alias (head ts) ≡ false → many at_alias alias_definition b ts ≡ Got b ts
alias_done = many_done alias_items

pub alias_shorter : (b c : List Alias) (ts rest : List Tok) → alias_definition b ts ≡ Got c rest → length rest < length ts
alias_shorter = items_shorter alias_items

-- ---- exactly so many values

pub values_more : (n : ℕ) (b : List Name) (ts : List Tok) → 0 < n → exactly n (λ vs. sign 44) one_value b ts ≡ and_then (one_value b ts) (times (n - 1) next_value)
values_more n b ts h = exactly_more n (λ vs. sign 44) one_value b ts h

pub values_done : (n : ℕ) (b : List Name) (ts : List Tok) → n ≡ 0 → exactly n (λ vs. sign 44) one_value b ts ≡ Got b ts
values_done n b ts h = exactly_done n (λ vs. sign 44) one_value b ts h

pub next_values_more : (n : ℕ) (b : List Name) (ts : List Tok) → 0 < n → times n next_value b ts ≡ and_then (next_value b ts) (times (n - 1) next_value)
next_values_more n b ts h = times_more n next_value b ts h

pub next_values_done : (n : ℕ) (b : List Name) (ts : List Tok) → n ≡ 0 → times n next_value b ts ≡ Got b ts
next_values_done n b ts h = times_done n next_value b ts h
