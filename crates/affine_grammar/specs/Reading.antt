-- How types, expressions, maps, sets and their uses are read: the grammar of them once more, as what a
-- parser computes that decides by the next token alone.
use Rattle.std.specs.Prelude.{ℕ, zero, suc, ℤ, Bool, true, ◌==◌, if◌then◌else◌, List, [], ◌∷◌, ◌++◌, length, codes}
use Rattle.readers.specs.Readers.{Reader, pure, take_by, bind, either, many, giving, optional, linked, exactly, enclosed, listed}
use Rattle.affine_expr.specs.declared.expr.Expr.{Expr}
use Rattle.affine_expr.specs.declared.expr.Expr.TheVariants as e
use Rattle.affine_expr.specs.declared.map.Map.{Map}
use Rattle.affine_expr.specs.declared.map.Set.{Set}
use Rattle.affine_expr.specs.declared.map.Constraint.{Constraint}
use Rattle.affine_ast.specs.declared.name.Name.{Name}
use Rattle.affine_ast.specs.declared.types.Access.{Access}
use Rattle.affine_ast.specs.declared.types.MemrefType.{MemrefType}
use Rattle.affine_grammar.specs.declared.words.State.{State}
use Rattle.affine_grammar.specs.declared.words.Scope.{Scope}
use Rattle.affine_grammar.specs.declared.words.Alias.{Alias}
use Rattle.affine_grammar.specs.declared.words.Leaves.{Leaves}
use Rattle.affine_grammar.specs.declared.words.Leaves.TheVariants as leaves
use Rattle.affine_grammar.specs.Token.{Tok, at_sign, at_word, at_number, at_size, at_alias, at_sum, at_product, sign, word, arrow, relation, value, integer, negative, size, space, element, int_type, sum_op, product_op, joined, number, negative_number, parameter, dimension, symbol_word, symbol, fresh, comma_within, alias_map, alias_set}
use Rattle.affine_grammar.specs.Grammar.{begun, over, map_with, set_with, no_values, access_with}

-- ---- types

abbrev pub one_size : List ℕ → Reader Tok (List ℕ)
one_size = linked (λ ns. size) (λ ns n. pure (ns ++ n ∷ []))

abbrev pub sizes : Reader Tok (List ℕ)
sizes = many at_size one_size []

unfoldable pub space_type : ℕ → Reader Tok ℕ
space_type n = bind (take_by (sign 58)) (λ _. giving (take_by int_type) (λ _. n))

unfoldable pub space_part : Reader Tok ℕ
space_part = bind (take_by (sign 44)) (λ _. bind (take_by space) (λ n. optional (at_sign 58) (space_type n) n))

unfoldable pub shape : Reader Tok MemrefType
shape = bind sizes (λ ns. bind (take_by element) (λ x. giving (optional (at_sign 44) space_part 0) (λ s. record { sizes = ns; element = x; space = s })))

unfoldable pub memref : Reader Tok MemrefType
memref = bind (take_by (word (codes "memref"))) (λ _. enclosed (sign 60) (sign 62) shape)

-- ---- integers

unfoldable pub signed : Reader Tok ℤ
signed = either (at_sign 45) (bind (take_by (sign 45)) (λ _. take_by negative)) (take_by integer)

-- ---- expressions

abbrev pub Reads : Type 0
Reads = Reader Tok (Expr × State)

-- an operator and the operand behind it, at the expression before it
abbrev pub factor : (State → Reads) → Expr × State → Reads
factor u = linked (λ p. product_op) (λ p o. giving (u p.1) (λ q. (joined o p.0 q.0, q.1)))

abbrev pub product : (State → Reads) → State → Reads
product u s = bind (u s) (many at_product (factor u))

abbrev pub summand : (State → Reads) → Expr × State → Reads
summand u = linked (λ p. sum_op) (λ p o. giving (product u p.1) (λ q. (joined o p.0 q.0, q.1)))

abbrev pub sum : (State → Reads) → State → Reads
sum u s = bind (product u s) (many at_sum (summand u))

unfoldable pub leaf : Leaves → State → Reads
leaf leaves.Parameters s = take_by (parameter s)
leaf leaves.Values s = either (at_word (codes "symbol")) (bind (take_by (symbol_word s)) (λ _. enclosed (sign 40) (sign 41) (take_by (symbol s)))) (take_by (dimension s))

abbrev pub unary_of : (State → Reads) → State → Reads
unary_of o s = either at_number (take_by (number s)) (o s)

unfoldable pub other : Leaves → ℕ → State → Reads
other l zero s = either (at_sign 45) (bind (take_by (sign 45)) (λ _. take_by (negative_number s))) (leaf l s)
other l (suc left) s =
    either (at_sign 45) (bind (take_by (sign 45)) (λ _. either at_number (take_by (negative_number s)) (giving (other l left s) (λ p. (e.Neg p.0, p.1)))))
    (either (at_sign 40) (enclosed (sign 40) (sign 41) (sum (unary_of (other l left)) s)) (leaf l s))

abbrev pub unary : Leaves → ℕ → State → Reads
unary l left = unary_of (other l left)

unfoldable pub expression : Leaves → State → Reads
expression l s = sum (unary l 128) (begun s)

abbrev pub result_of : Leaves → List Expr × State → Reader Tok (List Expr × State)
result_of l b = giving (expression l b.1) (λ p. (b.0 ++ p.0 ∷ [], p.1))

-- ---- maps and sets

abbrev pub parameter_name : List Name → List Name → Reader Tok (List Name)
parameter_name dims names = giving (take_by (fresh (dims ++ names))) (λ n. names ++ n ∷ [])

abbrev pub next_parameter : List Name → List Name → Reader Tok (List Name)
next_parameter dims = linked (λ names. sign 44) (λ names _. parameter_name dims names)

unfoldable pub parameter_list : ℕ → List Name → Reader Tok (List Name)
parameter_list close dims = listed (at_sign close) (sign close) [] (bind (parameter_name dims []) (many (at_sign 44) (next_parameter dims)))

unfoldable pub symbol_list : List Name → Reader Tok (List Name)
symbol_list dims = bind (take_by (sign 91)) (λ _. parameter_list 93 dims)

unfoldable pub params : Reader Tok Scope
params = bind (take_by (sign 40)) (λ _. bind (parameter_list 41 []) (λ dims. giving (optional (at_sign 91) (symbol_list dims) []) (λ syms. record { dims = dims; syms = syms })))

abbrev pub next_result : Leaves → Bool → List Expr × State → Reader Tok (List Expr × State)
next_result l several = linked (λ b. comma_within 8 several (length b.0)) (λ b _. result_of l b)

unfoldable pub results : Bool → State → Reader Tok (List Expr × State)
results several s = enclosed (sign 40) (sign 41) (bind (result_of leaves.Parameters ([], s)) (many (at_sign 44) (next_result leaves.Parameters several)))

unfoldable pub map0 : Bool → ℕ → Reader Tok (Map × ℕ)
map0 several total =
    bind (take_by (word (codes "affine_map"))) (λ _. enclosed (sign 60) (sign 62)
    (bind params (λ names. bind (take_by arrow) (λ _. giving (results several (over names total)) (map_with names)))))

unfoldable pub row : List Constraint × State → Reader Tok (List Constraint × State)
row b =
    bind (expression leaves.Parameters b.1) (λ p. bind (take_by relation) (λ r. giving (expression leaves.Parameters p.1)
    (λ q. (b.0 ++ record { left = p.0; rel = r; right = q.0 } ∷ [], q.1))))

abbrev pub next_row : List Constraint × State → Reader Tok (List Constraint × State)
next_row = linked (λ b. comma_within 16 true (length b.0)) (λ b _. row b)

unfoldable pub rows : State → Reader Tok (List Constraint × State)
rows s = enclosed (sign 40) (sign 41) (bind (row ([], s)) (many (at_sign 44) next_row))

unfoldable pub set0 : ℕ → Reader Tok (Set × ℕ)
set0 total =
    bind (take_by (word (codes "affine_set"))) (λ _. enclosed (sign 60) (sign 62)
    (bind params (λ names. bind (take_by (sign 58)) (λ _. giving (rows (over names total)) (set_with names)))))

-- ---- uses

abbrev pub one_value : List Name → Reader Tok (List Name)
one_value vs = giving (take_by value) (λ v. vs ++ v ∷ [])

unfoldable pub values : ℕ → ℕ → ℕ → Reader Tok (List Name)
values opening close n = enclosed (sign opening) (sign close) (exactly n (λ vs. sign 44) one_value [])

unfoldable pub symbol_values : ℕ → Reader Tok (List Name)
symbol_values n = if n == 0 then optional (at_sign 91) (values 91 93 0) [] else values 91 93 n

unfoldable pub operands : ℕ → ℕ → Reader Tok (List Name)
operands dims syms = bind (values 40 41 dims) (λ ds. giving (symbol_values syms) (λ ss. ds ++ ss))

unfoldable pub some_map : List Alias → Bool → ℕ → Reader Tok (Map × ℕ)
some_map aliases several total = either at_alias (take_by (alias_map aliases several total)) (map0 several total)

unfoldable pub some_set : List Alias → ℕ → Reader Tok (Set × ℕ)
some_set aliases total = either at_alias (take_by (alias_set aliases total)) (set0 total)

unfoldable pub use_of : List Alias → Bool → ℕ → Reader Tok (Access × ℕ)
use_of aliases several total =
    bind (some_map aliases several total) (λ p. giving (operands p.0.dims p.0.syms) (λ vs. (record { map = p.0; operands = vs }, p.1)))

-- ---- subscripts

unfoldable pub subscripts : ℕ → Reader Tok (Access × ℕ)
subscripts total =
    bind (take_by (sign 91)) (λ _. giving
    (listed (at_sign 93) (sign 93) ([], no_values total) (bind (result_of leaves.Values ([], no_values total)) (many (at_sign 44) (next_result leaves.Values true))))
    access_with)

abbrev pub next_value : List Name → Reader Tok (List Name)
next_value = linked (λ vs. sign 44) (λ vs _. one_value vs)

unfoldable pub brackets : Reader Tok (List Name)
brackets = bind (take_by (sign 91)) (λ _. listed (at_sign 93) (sign 93) [] (bind (one_value []) (many (at_sign 44) next_value)))
