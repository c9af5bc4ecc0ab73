-- The grammar of types, expressions, maps, sets and their uses: which tokens spell which of them.
--
-- A production is written in its EBNF and then as a language over marked tokens. What it depends on, as
-- the aliases or the number of operands so far, is an argument of it, and what it adds to them is a part
-- of its value.
use Rattle.std.specs.Prelude.{ℕ, zero, suc, ℤ, Bool, true, List, [], ◌∷◌, ◌++◌, length, codes}
use Rattle.readers.specs.Languages.{Lang, Nothing, One, Both, Either, Many, Giving, Optional, Linked, Exactly, Enclosed, Listed}
use Rattle.affine_expr.specs.declared.expr.Expr.{Expr}
use Rattle.affine_expr.specs.declared.expr.Expr.TheVariants as e
use Rattle.affine_expr.specs.declared.map.Map.{Map}
use Rattle.affine_expr.specs.declared.map.Set.{Set}
use Rattle.affine_expr.specs.declared.map.Constraint.{Constraint}
use Rattle.affine_ast.specs.declared.name.Name.{Name}
use Rattle.affine_ast.specs.declared.types.Access.{Access}
use Rattle.affine_ast.specs.declared.types.MemrefType.{MemrefType}
use Rattle.affine_grammar.specs.declared.words.Alias.{Alias}
use Rattle.affine_grammar.specs.declared.words.Scope.{Scope}
use Rattle.affine_grammar.specs.declared.words.State.{State}
use Rattle.affine_grammar.specs.declared.words.Leaves.{Leaves}
use Rattle.affine_grammar.specs.declared.words.Leaves.TheVariants as leaves
use Rattle.affine_grammar.specs.Token.{Tok, sign, word, arrow, relation, value, integer, negative, size, space, element, int_type, sum_op, product_op, joined, number, negative_number, parameter, dimension, symbol_word, symbol, fresh, comma_within, alias_map, alias_set}

-- ---- types

-- sizes = { integer "x" }
abbrev pub Sizes : Lang Tok (List ℕ)
Sizes = Many (Linked (λ ns. size) (λ ns n. Nothing (ns ++ n ∷ []))) []

-- ":" ("i32" | "i64"), behind a space
abbrev pub SpaceType : ℕ → Lang Tok ℕ
SpaceType n = Both (One (sign 58)) (λ _. Giving (One int_type) (λ _. n))

-- "," integer [ ":" ("i32" | "i64") ]
abbrev pub Space : Lang Tok ℕ
Space = Both (One (sign 44)) (λ _. Both (One space) (λ n. Optional (SpaceType n) n))

-- sizes element [ "," integer [ ":" ("i32" | "i64") ] ]: the space is 0 where none is written
abbrev pub Shape : Lang Tok MemrefType
Shape = Both Sizes (λ ns. Both (One element) (λ x. Giving (Optional Space 0) (λ s. record { sizes = ns; element = x; space = s })))

-- memref = "memref" "<" { integer "x" } element [ "," integer [ ":" ("i32" | "i64") ] ] ">"
abbrev pub Memref : Lang Tok MemrefType
Memref = Both (One (word (codes "memref"))) (λ _. Enclosed (sign 60) (sign 62) Shape)

-- ---- integers

-- signed = [ "-" ] integer
abbrev pub Signed : Lang Tok ℤ
Signed = Either (Both (One (sign 45)) (λ _. One negative)) (One integer)

-- ---- expressions

abbrev pub Spelling : Type 1
Spelling = Lang Tok (Expr × State)

-- ("*" | "floordiv" | "ceildiv" | "mod") unary, at the product before it
abbrev pub Factor : (State → Spelling) → Expr × State → Spelling
Factor U = Linked (λ p. product_op) (λ p o. Giving (U p.1) (λ q. (joined o p.0 q.0, q.1)))

-- product = unary { ("*" | "floordiv" | "ceildiv" | "mod") unary }, which associates to the left
abbrev pub Product : (State → Spelling) → State → Spelling
Product U s = Both (U s) (Many (Factor U))

-- ("+" | "-") product, at the sum before it
abbrev pub Summand : (State → Spelling) → Expr × State → Spelling
Summand U = Linked (λ p. sum_op) (λ p o. Giving (Product U p.1) (λ q. (joined o p.0 q.0, q.1)))

-- sum = product { ("+" | "-") product }, which associates to the left
abbrev pub Sum : (State → Spelling) → State → Spelling
Sum U s = Both (Product U s) (Many (Summand U))

-- A leaf of a map or set is one of its parameters. A leaf of subscripts is a value, which is a dimension,
-- or `symbol(value)`, which is a symbol.
abbrev pub Leaf : Leaves → State → Spelling
Leaf leaves.Parameters s = One (parameter s)
Leaf leaves.Values s = Either (Both (One (symbol_word s)) (λ _. Enclosed (sign 40) (sign 41) (One (symbol s)))) (One (dimension s))

-- unary = integer | other
abbrev pub UnaryOf : (State → Spelling) → State → Spelling
UnaryOf O s = Either (One (number s)) (O s)

-- other = "-" integer | "-" other | "(" sum ")" | leaf
-- So many parentheses and negations may stand inside one another. A `-` directly before an integer gives
-- that negative integer, and is no negation: a negation is counted at the token behind its `-`, where no
-- integer stands.
abbrev pub Other : Leaves → ℕ → State → Spelling
Other l zero s = Either (Both (One (sign 45)) (λ _. One (negative_number s))) (Leaf l s)
Other l (suc left) s =
    Either (Both (One (sign 45)) (λ _. Either (One (negative_number s)) (Giving (Other l left s) (λ p. (e.Neg p.0, p.1)))))
    (Either (Enclosed (sign 40) (sign 41) (Sum (UnaryOf (Other l left)) s)) (Leaf l s))

abbrev pub Unary : Leaves → ℕ → State → Spelling
Unary l left = UnaryOf (Other l left)

-- no operand yet, of one more expression
abbrev pub begun : State → State
begun s = record { operands = 0; total = s.total; dims = s.dims; syms = s.syms }

-- expr = sum: at most 128 parentheses and negations inside one another
abbrev pub Expression : Leaves → State → Spelling
Expression l s = Sum (Unary l 128) (begun s)

-- one more of a list of expressions
abbrev pub Result : Leaves → List Expr × State → Lang Tok (List Expr × State)
Result l b = Giving (Expression l b.1) (λ p. (b.0 ++ p.0 ∷ [], p.1))

-- ---- maps and sets

-- one more parameter, which is none of the dimensions nor of the names so far
abbrev pub Parameter : List Name → List Name → Lang Tok (List Name)
Parameter dims names = Giving (One (fresh (dims ++ names))) (λ n. names ++ n ∷ [])

-- "," word
abbrev pub NextParameter : List Name → List Name → Lang Tok (List Name)
NextParameter dims = Linked (λ names. sign 44) (λ names _. Parameter dims names)

-- [ word { "," word } ] and the closing sign
abbrev pub ParameterList : ℕ → List Name → Lang Tok (List Name)
ParameterList close dims = Listed (sign close) [] (Both (Parameter dims []) (Many (NextParameter dims)))

-- "[" [ word { "," word } ] "]", of the symbols
abbrev pub SymbolList : List Name → Lang Tok (List Name)
SymbolList dims = Both (One (sign 91)) (λ _. ParameterList 93 dims)

-- params = "(" [ word { "," word } ] ")" [ "[" [ word { "," word } ] "]" ]
abbrev pub Params : Lang Tok Scope
Params =
    Both (One (sign 40)) (λ _. Both (ParameterList 41 []) (λ dims. Giving (Optional (SymbolList dims) []) (λ syms. record { dims = dims; syms = syms })))

-- an expression over these parameters is read with these names
abbrev pub over : Scope → ℕ → State
over names total = record { operands = 0; total = total; dims = names.dims; syms = names.syms }

-- "," expr, where there may be several or not: at most eight
abbrev pub NextResult : Leaves → Bool → List Expr × State → Lang Tok (List Expr × State)
NextResult l several = Linked (λ b. comma_within 8 several (length b.0)) (λ b _. Result l b)

-- results = "(" expr { "," expr } ")": at most eight, and one where there may not be several
abbrev pub Results : Bool → State → Lang Tok (List Expr × State)
Results several s = Enclosed (sign 40) (sign 41) (Both (Result leaves.Parameters ([], s)) (Many (NextResult leaves.Parameters several)))

abbrev pub map_with : Scope → List Expr × State → Map × ℕ
map_with names b = (record { dims = length names.dims; syms = length names.syms; results = b.0 }, b.1.total)

-- map0 = "affine_map" "<" params "->" "(" expr { "," expr } ")" ">"
abbrev pub Map0 : Bool → ℕ → Lang Tok (Map × ℕ)
Map0 several total =
    Both (One (word (codes "affine_map"))) (λ _. Enclosed (sign 60) (sign 62)
    (Both Params (λ names. Both (One arrow) (λ _. Giving (Results several (over names total)) (map_with names)))))

-- row = expr ( ">=" | "<=" | "==" ) expr
abbrev pub Row : List Constraint × State → Lang Tok (List Constraint × State)
Row b =
    Both (Expression leaves.Parameters b.1) (λ p. Both (One relation) (λ r. Giving (Expression leaves.Parameters p.1)
    (λ q. (b.0 ++ record { left = p.0; rel = r; right = q.0 } ∷ [], q.1))))

-- "," row: at most sixteen
abbrev pub NextRow : List Constraint × State → Lang Tok (List Constraint × State)
NextRow = Linked (λ b. comma_within 16 true (length b.0)) (λ b _. Row b)

-- rows = "(" row { "," row } ")"
abbrev pub Rows : State → Lang Tok (List Constraint × State)
Rows s = Enclosed (sign 40) (sign 41) (Both (Row ([], s)) (Many NextRow))

abbrev pub set_with : Scope → List Constraint × State → Set × ℕ
set_with names b = (record { dims = length names.dims; syms = length names.syms; rows = b.0 }, b.1.total)

-- set0 = "affine_set" "<" params ":" "(" row { "," row } ")" ">"
abbrev pub Set0 : ℕ → Lang Tok (Set × ℕ)
Set0 total =
    Both (One (word (codes "affine_set"))) (λ _. Enclosed (sign 60) (sign 62)
    (Both Params (λ names. Both (One (sign 58)) (λ _. Giving (Rows (over names total)) (set_with names)))))

-- ---- uses

-- one more of a list of values
abbrev pub OneValue : List Name → Lang Tok (List Name)
OneValue vs = Giving (One value) (λ v. vs ++ v ∷ [])

-- exactly so many values between two signs
abbrev pub Values : ℕ → ℕ → ℕ → Lang Tok (List Name)
Values opening close n = Enclosed (sign opening) (sign close) (Exactly n (λ vs. sign 44) OneValue [])

-- "[" [ values ] "]": brackets may be missing only where there are no symbols
abbrev pub SymbolValues : ℕ → Lang Tok (List Name)
SymbolValues zero = Optional (Values 91 93 0) []
SymbolValues (suc n) = Values 91 93 (suc n)

-- "(" [ values ] ")" [ "[" [ values ] "]" ], with exactly as many values as there are dimensions and symbols
abbrev pub Operands : ℕ → ℕ → Lang Tok (List Name)
Operands dims syms = Both (Values 40 41 dims) (λ ds. Giving (SymbolValues syms) (λ ss. ds ++ ss))

-- map0 | alias
abbrev pub SomeMap : List Alias → Bool → ℕ → Lang Tok (Map × ℕ)
SomeMap aliases several total = Either (One (alias_map aliases several total)) (Map0 several total)

-- set0 | alias
abbrev pub SomeSet : List Alias → ℕ → Lang Tok (Set × ℕ)
SomeSet aliases total = Either (One (alias_set aliases total)) (Set0 total)

-- use = ( map0 | alias ) "(" [ values ] ")" [ "[" [ values ] "]" ]
abbrev pub Use : List Alias → Bool → ℕ → Lang Tok (Access × ℕ)
Use aliases several total =
    Both (SomeMap aliases several total) (λ p. Giving (Operands p.0.dims p.0.syms) (λ vs. (record { map = p.0; operands = vs }, p.1)))

-- ---- subscripts

-- no value has stood yet
abbrev pub no_values : ℕ → State
no_values total = record { operands = 0; total = total; dims = []; syms = [] }

-- the map of subscripts numbers its dimensions and its symbols by first appearance
abbrev pub access_with : List Expr × State → Access × ℕ
access_with b = (record { map = record { dims = length b.1.dims; syms = length b.1.syms; results = b.0 }; operands = b.1.dims ++ b.1.syms }, b.1.total)

-- subs = "[" [ expr { "," expr } ] "]": at most eight
abbrev pub Subscripts : ℕ → Lang Tok (Access × ℕ)
Subscripts total =
    Both (One (sign 91)) (λ _. Giving
    (Listed (sign 93) ([], no_values total) (Both (Result leaves.Values ([], no_values total)) (Many (NextResult leaves.Values true))))
    access_with)

-- "," value
abbrev pub NextValue : List Name → Lang Tok (List Name)
NextValue = Linked (λ vs. sign 44) (λ vs _. OneValue vs)

-- "[" [ values ] "]", of a raw access
abbrev pub Brackets : Lang Tok (List Name)
Brackets = Both (One (sign 91)) (λ _. Listed (sign 93) [] (Both (OneValue []) (Many NextValue)))
