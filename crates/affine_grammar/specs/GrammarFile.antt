-- The grammar of statements, regions, the function and the file.
use Rattle.std.specs.Prelude.{ℕ, zero, suc, ℤ, pos, true, false, List, [], ◌∷◌, ◌++◌, codes, Option, Some, None}
use Rattle.readers.specs.Languages.{Lang, One, Both, Either, Many, Giving, Optional, Linked, Ended, Enclosed, Listed}
use Rattle.readers.specs.Limits.{limited}
use Rattle.affine_expr.specs.declared.map.Interval.{Interval}
use Rattle.affine_ast.specs.declared.name.Name.{Name}
use Rattle.affine_ast.specs.declared.types.Access.{Access}
use Rattle.affine_ast.specs.declared.types.Bound.{Bound}
use Rattle.affine_ast.specs.declared.types.Bound.TheVariants as bound
use Rattle.affine_ast.specs.declared.types.MemrefType.{MemrefType}
use Rattle.affine_ast.specs.declared.stmt.Stmt.{Stmt}
use Rattle.affine_ast.specs.declared.stmt.What.{What}
use Rattle.affine_ast.specs.declared.stmt.What.TheVariants as what
use Rattle.affine_ast.specs.declared.module.ArgKind.{ArgKind}
use Rattle.affine_ast.specs.declared.module.ArgKind.TheVariants as kind
use Rattle.affine_ast.specs.declared.module.Arg.{Arg}
use Rattle.affine_ast.specs.declared.module.Module.{Module}
use Rattle.affine_grammar.specs.declared.words.Action.{Action}
use Rattle.affine_grammar.specs.declared.words.Action.TheVariants as action
use Rattle.affine_grammar.specs.declared.words.Definition.{Definition}
use Rattle.affine_grammar.specs.declared.words.Definition.TheVariants as definition
use Rattle.affine_grammar.specs.declared.words.Alias.{Alias}
use Rattle.affine_grammar.specs.declared.words.Turns.{Turns}
use Rattle.affine_grammar.specs.declared.words.Body.{Body}
use Rattle.affine_grammar.specs.declared.words.Body.TheVariants as body
use Rattle.affine_grammar.specs.Token.{Tok, sign, word, value, integer, scalar, function_name, lined, new_alias, action_word, definition_word}
use Rattle.affine_grammar.specs.Grammar.{Memref, Signed, Map0, Set0, SomeSet, Operands, Use, Subscripts, Brackets}

-- ---- bounds

-- bound = [ "-" ] integer | value | [ "max" ] use, or with "min" for an upper one: with several results
-- the word stands, and with one it may
abbrev pub BoundOf : List ℕ → List Alias → ℕ → Lang Tok (Bound × ℕ)
BoundOf w aliases total =
    Either (Giving Signed (λ z. (bound.Int z, total)))
    (Either (Giving (One value) (λ v. (bound.Value v, total)))
    (Either (Both (One (word w)) (λ _. Giving (Use aliases true total) (λ p. (bound.Map p.0, p.1))))
    (Giving (Use aliases false total) (λ p. (bound.Map p.0, p.1)))))

-- "step" integer
abbrev pub Step : Lang Tok ℤ
Step = Both (One (word (codes "step"))) (λ _. One integer)

-- bound "to" bound [ "step" integer ]: the step is 1 where none is written
abbrev pub TurnsOf : List Alias → ℕ → Lang Tok Turns
TurnsOf aliases total =
    Both (BoundOf (codes "max") aliases total) (λ p. Both (One (word (codes "to"))) (λ _. Both (BoundOf (codes "min") aliases p.1) (λ q.
    Giving (Optional Step (pos 1)) (λ z. record { lower = p.0; upper = q.0; step = z; total = q.1 }))))

-- ---- statements

-- what a statement is, with the operands of the module up to its end
abbrev pub Spelled : Type 1
Spelled = Lang Tok (What × ℕ)

-- regions, at a number of operands before them
abbrev pub Regions : Type 1
Regions = ℕ → Lang Tok (List Stmt × ℕ)

-- ":" memref
abbrev pub Typed : {A : Type 0} → (MemrefType → A) → Lang Tok A
Typed f = Both (One (sign 58)) (λ _. Giving Memref f)

-- what stands behind a result, its `=` and the word of the statement
abbrev pub Defined : List Alias → ℕ → Name → Definition → Spelled
-- use
Defined aliases total r (definition.Value p) = Giving (Use aliases true total) (λ q. (what.Value r p q.0, q.1))
-- value subs ":" memref
Defined aliases total r definition.Load = Both (One value) (λ m. Both (Subscripts total) (λ p. Typed (λ ty. (what.Load r m p.0 ty, p.1))))
-- value "[" [ values ] "]" ":" memref
Defined aliases total r definition.RawLoad = Both (One value) (λ m. Both Brackets (λ vs. Typed (λ ty. (what.RawLoad r m vs ty, total))))
-- [ "-" ] integer ":" scalar
Defined aliases total r definition.Constant = Both Signed (λ z. Both (One (sign 58)) (λ _. Giving (One scalar) (λ ty. (what.Constant r z ty, total))))
-- value "," value ":" scalar
Defined aliases total r (definition.Binary o) =
    Both (One value) (λ a. Both (One (sign 44)) (λ _. Both (One value) (λ b. Both (One (sign 58)) (λ _. Giving (One scalar) (λ ty. (what.Binary r o a b ty, total))))))
-- value ":" scalar "to" scalar
Defined aliases total r (definition.Cast c) =
    Both (One value) (λ v. Both (One (sign 58)) (λ _. Both (One scalar) (λ from. Both (One (word (codes "to"))) (λ _. Giving (One scalar) (λ to. (what.Cast r c v from to, total))))))
-- "(" ")" ":" memref
Defined aliases total r definition.Alloc = Both (One (sign 40)) (λ _. Both (One (sign 41)) (λ _. Typed (λ ty. (what.Alloc r ty, total))))

-- value subs, of a transfer
abbrev pub Part : ℕ → Lang Tok (Name × (Access × ℕ))
Part total = Both (One value) (λ m. Giving (Subscripts total) (λ p. (m, p)))

-- "," value "," value, the stride and the chunk
abbrev pub Stride : Lang Tok (Option (Name × Name))
Stride = Both (One (sign 44)) (λ _. Both (One value) (λ stride. Both (One (sign 44)) (λ _. Giving (One value) (λ chunk. Some (stride, chunk)))))

-- "else" "{" stmts "}"
abbrev pub Else : Regions → ℕ → Lang Tok (Option (List Stmt) × ℕ)
Else R total = Both (One (word (codes "else"))) (λ _. Giving (R total) (λ p. (Some p.0, p.1)))

-- what stands behind the word of a statement without a result
abbrev pub Acted : Regions → List Alias → ℕ → Action → Spelled
-- value "=" bound "to" bound [ "step" integer ] "{" stmts "}"
Acted R aliases total action.For =
    Both (One value) (λ v. Both (One (sign 61)) (λ _. Both (TurnsOf aliases total) (λ t. Giving (R t.total) (λ p. (what.For v t.lower t.upper t.step p.0, p.1)))))
-- ( set0 | alias ) "(" [ values ] ")" [ "[" values "]" ] "{" stmts "}" [ "else" "{" stmts "}" ]
Acted R aliases total action.If =
    Both (SomeSet aliases total) (λ p. Both (Operands p.0.dims p.0.syms) (λ vs. Both (R p.1) (λ q.
    Giving (Optional (Else R q.1) (None, q.1)) (λ r. (what.If p.0 vs q.0 r.0, r.1)))))
-- value "," value subs ":" memref
Acted R aliases total action.Store =
    Both (One value) (λ x. Both (One (sign 44)) (λ _. Both (One value) (λ m. Both (Subscripts total) (λ p. Typed (λ ty. (what.Store x m p.0 ty, p.1))))))
-- value "," value "[" [ values ] "]" ":" memref
Acted R aliases total action.RawStore =
    Both (One value) (λ x. Both (One (sign 44)) (λ _. Both (One value) (λ m. Both Brackets (λ vs. Typed (λ ty. (what.RawStore x m vs ty, total))))))
-- value ":" memref
Acted R aliases total action.Dealloc = Both (One value) (λ m. Typed (λ ty. (what.Dealloc m ty, total)))
-- value subs "," value subs "," value subs "," value [ "," value "," value ] ":" memref "," memref "," memref
Acted R aliases total action.Start =
    Both (Part total) (λ a. Both (One (sign 44)) (λ _. Both (Part a.1.1) (λ b. Both (One (sign 44)) (λ _. Both (Part b.1.1) (λ c.
    Both (One (sign 44)) (λ _. Both (One value) (λ n. Both (Optional Stride None) (λ s. Both (One (sign 58)) (λ _.
    Both Memref (λ t. Both (One (sign 44)) (λ _. Both Memref (λ u. Both (One (sign 44)) (λ _. Giving Memref (λ v.
    (what.Start a.0 a.1.0 b.0 b.1.0 c.0 c.1.0 n s (t ∷ u ∷ v ∷ []), c.1.1)))))))))))))))
-- value subs "," value ":" memref
Acted R aliases total action.Wait = Both (Part total) (λ a. Both (One (sign 44)) (λ _. Both (One value) (λ n. Typed (λ ty. (what.Wait a.0 a.1.0 n ty, a.1.1)))))

-- one statement more, on the line of its first token
abbrev pub behind : List Stmt → ℕ → What × ℕ → List Stmt × ℕ
behind ss line p = (ss ++ record { line = line; what = p.0 } ∷ [], p.1)

-- stmt = value "=" definition | action
abbrev pub Statement : Regions → List Alias → List Stmt × ℕ → Lang Tok (List Stmt × ℕ)
Statement R aliases b =
    Either (Both (One (lined value)) (λ r. Both (One (sign 61)) (λ _. Both (One definition_word) (λ d. Giving (Defined aliases b.1 r.1 d) (behind b.0 r.0)))))
    (Both (One (lined action_word)) (λ a. Giving (Acted R aliases b.1 a.1) (behind b.0 a.0)))

-- stmts = { stmt }
abbrev pub Statements : Regions → List Alias → ℕ → Lang Tok (List Stmt × ℕ)
Statements R aliases total = Many (Statement R aliases) ([], total)

-- region = "{" stmts "}", where so many may stand inside one another. One too many is refused at its
-- brace, which only a token of which no limit is asked passes.
abbrev pub Region : List Alias → ℕ → Regions
Region aliases zero total = Both (One (limited true (sign 123))) (λ _. Giving (One (sign 125)) (λ _. ([], total)))
Region aliases (suc left) total = Enclosed (sign 123) (sign 125) (Statements (Region aliases left) aliases total)

-- ---- the function

-- sint = [ "-" ] integer [ ":" "i64" ]
abbrev pub RangeEnd : Lang Tok ℤ
RangeEnd = Both Signed (λ z. Optional (Both (One (sign 58)) (λ _. Giving (One (word (codes "i64"))) (λ _. z))) z)

-- "{" "copy.range" "=" "[" sint "," sint "]" "}"
abbrev pub Range : Lang Tok (Option Interval)
Range =
    Both (One (sign 123)) (λ _. Both (One (word (codes "copy.range"))) (λ _. Both (One (sign 61)) (λ _. Ended (sign 125)
    (Enclosed (sign 91) (sign 93) (Both RangeEnd (λ a. Both (One (sign 44)) (λ _. Giving RangeEnd (λ b. Some (record { least = a; greatest = b })))))))))

-- memref | "index" [ "{" "copy.range" "=" "[" sint "," sint "]" "}" ]
abbrev pub ArgumentKind : Lang Tok ArgKind
ArgumentKind = Either (Both (One (word (codes "index"))) (λ _. Giving (Optional Range None) (λ r. kind.Index r))) (Giving Memref (λ ty. kind.Memref ty))

-- arg = value ":" memref | value ":" "index" [ .. ], one more on the line of its first token
abbrev pub Argument : List Arg → Lang Tok (List Arg)
Argument args = Both (One (lined value)) (λ n. Both (One (sign 58)) (λ _. Giving ArgumentKind (λ k. args ++ record { name = n.1; kind = k; line = n.0 } ∷ [])))

-- "," arg
abbrev pub NextArgument : List Arg → Lang Tok (List Arg)
NextArgument = Linked (λ args. sign 44) (λ args _. Argument args)

-- "(" [ arg { "," arg } ] ")"
abbrev pub Arguments : Lang Tok (List Arg)
Arguments = Both (One (sign 40)) (λ _. Listed (sign 41) [] (Both (Argument []) (Many NextArgument)))

-- "{" { stmt } "return" "}": the function's region is the first of at most 40 inside one another
abbrev pub FunctionBody : List Alias → Lang Tok (List Stmt)
FunctionBody aliases =
    Enclosed (sign 123) (sign 125) (Both (Statements (Region aliases 39) aliases 0) (λ p.
    Giving (One (lined (word (codes "return")))) (λ l. p.0 ++ record { line = l.0; what = what.Return } ∷ [])))

-- func = "func.func" "@" id "(" [ arg { "," arg } ] ")" "{" { stmt } "return" "}"
abbrev pub Function : List Alias → Lang Tok Module
Function aliases =
    Both (One (word (codes "func.func"))) (λ _. Both (One function_name) (λ name. Both Arguments (λ args.
    Giving (FunctionBody aliases) (λ ss. record { name = name; args = args; body = ss }))))

-- ---- the file

-- map0 | set0, with the number of operands in it
abbrev pub AliasBody : Lang Tok (Body × ℕ)
AliasBody = Either (Giving (Map0 true 0) (λ p. (body.Map p.0, p.1))) (Giving (Set0 0) (λ p. (body.Set p.0, p.1)))

-- alias "=" ( map0 | set0 ), of a name that isn't defined yet
abbrev pub AliasDefinition : List Alias → Lang Tok (List Alias)
AliasDefinition = Linked new_alias (λ aliases name. Both (One (sign 61)) (λ _. Giving AliasBody (λ p. aliases ++ record { name = name; body = p.0; operands = p.1 } ∷ [])))

-- ( "module" "{" func "}" | func )
abbrev pub ModuleOf : List Alias → Lang Tok Module
ModuleOf aliases = Either (Both (One (word (codes "module"))) (λ _. Enclosed (sign 123) (sign 125) (Function aliases))) (Function aliases)

-- file = { alias "=" ( map0 | set0 ) } ( "module" "{" func "}" | func )
abbrev pub File : Lang Tok Module
File = Both (Many AliasDefinition []) ModuleOf
