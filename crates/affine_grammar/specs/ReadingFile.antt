-- How statements, regions, the function and the file are read.
use Rattle.std.specs.Prelude.{ℕ, zero, suc, ℤ, pos, true, false, List, [], ◌∷◌, ◌++◌, codes, Option, Some, None}
use Rattle.readers.specs.Readers.{Reader, take_by, bind, either, many, giving, optional, linked, ended, enclosed, listed}
use Rattle.readers.specs.Limits.{limited}
use Rattle.affine_expr.specs.declared.map.Interval.{Interval}
use Rattle.affine_ast.specs.declared.name.Name.{Name}
use Rattle.affine_ast.specs.declared.types.Access.{Access}
use Rattle.affine_ast.specs.declared.types.Bound.{Bound}
use Rattle.affine_ast.specs.declared.types.Bound.TheVariants as bound
use Rattle.affine_ast.specs.declared.types.MemrefType.{MemrefType}
use Rattle.affine_ast.specs.declared.stmt.Stmt.{Stmt}
use Rattle.affine_ast.specs.declared.stmt.What.{What}
use Rattle.affine_ast.specs.declared.stmt.What.TheVariants as what
use Rattle.affine_ast.specs.declared.module.ArgKind.{ArgKind}
use Rattle.affine_ast.specs.declared.module.ArgKind.TheVariants as kind
use Rattle.affine_ast.specs.declared.module.Arg.{Arg}
use Rattle.affine_ast.specs.declared.module.Module.{Module}
use Rattle.affine_grammar.specs.declared.words.Turns.{Turns}
use Rattle.affine_grammar.specs.declared.words.Action.{Action}
use Rattle.affine_grammar.specs.declared.words.Action.TheVariants as action
use Rattle.affine_grammar.specs.declared.words.Definition.{Definition}
use Rattle.affine_grammar.specs.declared.words.Definition.TheVariants as definition
use Rattle.affine_grammar.specs.declared.words.Alias.{Alias}
use Rattle.affine_grammar.specs.declared.words.Body.{Body}
use Rattle.affine_grammar.specs.declared.words.Body.TheVariants as body
use Rattle.affine_grammar.specs.Token.{Tok, at_sign, at_word, at_value, at_alias, at_integer, at_stmt, sign, word, value, integer, scalar, function_name, lined, new_alias, action_word, definition_word}
use Rattle.affine_grammar.specs.GrammarFile.{behind}
use Rattle.affine_grammar.specs.Reading.{memref, signed, map0, set0, some_set, operands, use_of, subscripts, brackets}

-- ---- bounds

unfoldable pub bound_of : List ℕ → List Alias → ℕ → Reader Tok (Bound × ℕ)
bound_of w aliases total =
    either at_integer (giving signed (λ z. (bound.Int z, total)))
    (either at_value (giving (take_by value) (λ v. (bound.Value v, total)))
    (either (at_word w) (bind (take_by (word w)) (λ _. giving (use_of aliases true total) (λ p. (bound.Map p.0, p.1))))
    (giving (use_of aliases false total) (λ p. (bound.Map p.0, p.1)))))

unfoldable pub step_part : Reader Tok ℤ
step_part = bind (take_by (word (codes "step"))) (λ _. take_by integer)

unfoldable pub turns_of : List Alias → ℕ → Reader Tok Turns
turns_of aliases total =
    bind (bound_of (codes "max") aliases total) (λ p. bind (take_by (word (codes "to"))) (λ _. bind (bound_of (codes "min") aliases p.1) (λ q.
    giving (optional (at_word (codes "step")) step_part (pos 1)) (λ z. record { lower = p.0; upper = q.0; step = z; total = q.1 }))))

-- ---- statements

abbrev pub ReadsStmt : Type 0
ReadsStmt = Reader Tok (What × ℕ)

abbrev pub ReadsRegions : Type 0
ReadsRegions = ℕ → Reader Tok (List Stmt × ℕ)

abbrev pub typed : {A : Type 0} → (MemrefType → A) → Reader Tok A
typed f = bind (take_by (sign 58)) (λ _. giving memref f)

unfoldable pub defined : List Alias → ℕ → Name → Definition → ReadsStmt
defined aliases total r (definition.Value p) = giving (use_of aliases true total) (λ q. (what.Value r p q.0, q.1))
defined aliases total r definition.Load = bind (take_by value) (λ m. bind (subscripts total) (λ p. typed (λ ty. (what.Load r m p.0 ty, p.1))))
defined aliases total r definition.RawLoad = bind (take_by value) (λ m. bind brackets (λ vs. typed (λ ty. (what.RawLoad r m vs ty, total))))
defined aliases total r definition.Constant = bind signed (λ z. bind (take_by (sign 58)) (λ _. giving (take_by scalar) (λ ty. (what.Constant r z ty, total))))
defined aliases total r (definition.Binary o) =
    bind (take_by value) (λ a. bind (take_by (sign 44)) (λ _. bind (take_by value) (λ b. bind (take_by (sign 58)) (λ _. giving (take_by scalar) (λ ty. (what.Binary r o a b ty, total))))))
defined aliases total r (definition.Cast c) =
    bind (take_by value) (λ v. bind (take_by (sign 58)) (λ _. bind (take_by scalar) (λ from. bind (take_by (word (codes "to"))) (λ _. giving (take_by scalar) (λ to. (what.Cast r c v from to, total))))))
defined aliases total r definition.Alloc = bind (take_by (sign 40)) (λ _. bind (take_by (sign 41)) (λ _. typed (λ ty. (what.Alloc r ty, total))))

unfoldable pub part : ℕ → Reader Tok (Name × (Access × ℕ))
part total = bind (take_by value) (λ m. giving (subscripts total) (λ p. (m, p)))

unfoldable pub stride_part : Reader Tok (Option (Name × Name))
stride_part = bind (take_by (sign 44)) (λ _. bind (take_by value) (λ stride. bind (take_by (sign 44)) (λ _. giving (take_by value) (λ chunk. Some (stride, chunk)))))

abbrev pub else_part : ReadsRegions → ℕ → Reader Tok (Option (List Stmt) × ℕ)
else_part r total = bind (take_by (word (codes "else"))) (λ _. giving (r total) (λ p. (Some p.0, p.1)))

unfoldable pub acted : ReadsRegions → List Alias → ℕ → Action → ReadsStmt
acted r aliases total action.For =
    bind (take_by value) (λ v. bind (take_by (sign 61)) (λ _. bind (turns_of aliases total) (λ t. giving (r t.total) (λ p. (what.For v t.lower t.upper t.step p.0, p.1)))))
acted r aliases total action.If =
    bind (some_set aliases total) (λ p. bind (operands p.0.dims p.0.syms) (λ vs. bind (r p.1) (λ q.
    giving (optional (at_word (codes "else")) (else_part r q.1) (None, q.1)) (λ o. (what.If p.0 vs q.0 o.0, o.1)))))
acted r aliases total action.Store =
    bind (take_by value) (λ x. bind (take_by (sign 44)) (λ _. bind (take_by value) (λ m. bind (subscripts total) (λ p. typed (λ ty. (what.Store x m p.0 ty, p.1))))))
acted r aliases total action.RawStore =
    bind (take_by value) (λ x. bind (take_by (sign 44)) (λ _. bind (take_by value) (λ m. bind brackets (λ vs. typed (λ ty. (what.RawStore x m vs ty, total))))))
acted r aliases total action.Dealloc = bind (take_by value) (λ m. typed (λ ty. (what.Dealloc m ty, total)))
acted r aliases total action.Start =
    bind (part total) (λ a. bind (take_by (sign 44)) (λ _. bind (part a.1.1) (λ b. bind (take_by (sign 44)) (λ _. bind (part b.1.1) (λ c.
    bind (take_by (sign 44)) (λ _. bind (take_by value) (λ n. bind (optional (at_sign 44) stride_part None) (λ s. bind (take_by (sign 58)) (λ _.
    bind memref (λ t. bind (take_by (sign 44)) (λ _. bind memref (λ u. bind (take_by (sign 44)) (λ _. giving memref (λ v.
    (what.Start a.0 a.1.0 b.0 b.1.0 c.0 c.1.0 n s (t ∷ u ∷ v ∷ []), c.1.1)))))))))))))))
acted r aliases total action.Wait = bind (part total) (λ a. bind (take_by (sign 44)) (λ _. bind (take_by value) (λ n. typed (λ ty. (what.Wait a.0 a.1.0 n ty, a.1.1)))))

abbrev pub statement : ReadsRegions → List Alias → List Stmt × ℕ → Reader Tok (List Stmt × ℕ)
statement r aliases b =
    either at_value (bind (take_by (lined value)) (λ n. bind (take_by (sign 61)) (λ _. bind (take_by definition_word) (λ d. giving (defined aliases b.1 n.1 d) (behind b.0 n.0)))))
    (bind (take_by (lined action_word)) (λ a. giving (acted r aliases b.1 a.1) (behind b.0 a.0)))

abbrev pub statements : ReadsRegions → List Alias → ℕ → Reader Tok (List Stmt × ℕ)
statements r aliases total = many at_stmt (statement r aliases) ([], total)

unfoldable pub region : List Alias → ℕ → ReadsRegions
region aliases zero total = bind (take_by (limited true (sign 123))) (λ _. giving (take_by (sign 125)) (λ _. ([], total)))
region aliases (suc left) total = enclosed (sign 123) (sign 125) (statements (region aliases left) aliases total)

-- ---- the function

unfoldable pub range_end : Reader Tok ℤ
range_end = bind signed (λ z. optional (at_sign 58) (bind (take_by (sign 58)) (λ _. giving (take_by (word (codes "i64"))) (λ _. z))) z)

unfoldable pub range_part : Reader Tok (Option Interval)
range_part =
    bind (take_by (sign 123)) (λ _. bind (take_by (word (codes "copy.range"))) (λ _. bind (take_by (sign 61)) (λ _. ended (sign 125)
    (enclosed (sign 91) (sign 93) (bind range_end (λ a. bind (take_by (sign 44)) (λ _. giving range_end (λ b. Some (record { least = a; greatest = b })))))))))

unfoldable pub arg_kind : Reader Tok ArgKind
arg_kind = either (at_word (codes "index")) (bind (take_by (word (codes "index"))) (λ _. giving (optional (at_sign 123) range_part None) (λ r. kind.Index r))) (giving memref (λ ty. kind.Memref ty))

abbrev pub argument : List Arg → Reader Tok (List Arg)
argument args = bind (take_by (lined value)) (λ n. bind (take_by (sign 58)) (λ _. giving arg_kind (λ k. args ++ record { name = n.1; kind = k; line = n.0 } ∷ [])))

abbrev pub next_argument : List Arg → Reader Tok (List Arg)
next_argument = linked (λ args. sign 44) (λ args _. argument args)

unfoldable pub arguments : Reader Tok (List Arg)
arguments = bind (take_by (sign 40)) (λ _. listed (at_sign 41) (sign 41) [] (bind (argument []) (many (at_sign 44) next_argument)))

unfoldable pub function_body : List Alias → Reader Tok (List Stmt)
function_body aliases =
    enclosed (sign 123) (sign 125) (bind (statements (region aliases 39) aliases 0) (λ p.
    giving (take_by (lined (word (codes "return")))) (λ l. p.0 ++ record { line = l.0; what = what.Return } ∷ [])))

unfoldable pub function : List Alias → Reader Tok Module
function aliases =
    bind (take_by (word (codes "func.func"))) (λ _. bind (take_by function_name) (λ name. bind arguments (λ args.
    giving (function_body aliases) (λ ss. record { name = name; args = args; body = ss }))))

-- ---- the file

unfoldable pub alias_body : Reader Tok (Body × ℕ)
alias_body = either (at_word (codes "affine_map")) (giving (map0 true 0) (λ p. (body.Map p.0, p.1))) (giving (set0 0) (λ p. (body.Set p.0, p.1)))

abbrev pub alias_definition : List Alias → Reader Tok (List Alias)
alias_definition = linked new_alias (λ aliases name. bind (take_by (sign 61)) (λ _. giving alias_body (λ p. aliases ++ record { name = name; body = p.0; operands = p.1 } ∷ [])))

unfoldable pub module_of : List Alias → Reader Tok Module
module_of aliases = either (at_word (codes "module")) (bind (take_by (word (codes "module"))) (λ _. enclosed (sign 123) (sign 125) (function aliases))) (function aliases)

unfoldable pub file : Reader Tok Module
file = bind (many at_alias alias_definition []) module_of
