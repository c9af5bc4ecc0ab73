-- The tokens of the grammar: what a token is by its form and its text, and which tokens may stand in a place.
use Rattle.std.specs.Prelude.{ℕ, suc, ◌+◌, ◌-◌, ℤ, pos, neg_ℤ, Bool, true, false, not, ◌&&◌, ◌||◌, ◌==◌, nat_le, if◌then◌else◌, List, [], ◌∷◌, ◌++◌, length, take, drop, codes, Option, Some, None}
use Rattle.std.specs.Char.{is_ascii}
use Rattle.std.specs.Str.{bytes_eq}
use Rattle.std.specs.Str.Parse.{digits_value}
use Rattle.readers.specs.Readers.{Test, classed, accept}
use Rattle.readers.specs.Limits.{Marked, limited}
use Rattle.affine_lex.specs.declared.token.Kind.{Kind}
use Rattle.affine_lex.specs.declared.token.Kind.TheVariants as k
use Rattle.affine_expr.specs.declared.expr.Expr.{Expr}
use Rattle.affine_expr.specs.declared.expr.Expr.TheVariants as e
use Rattle.affine_expr.specs.declared.map.Map.{Map}
use Rattle.affine_expr.specs.declared.map.Set.{Set}
use Rattle.affine_expr.specs.declared.map.Rel.{Rel}
use Rattle.affine_expr.specs.declared.map.Rel.TheVariants as rel
use Rattle.affine_ast.specs.declared.name.Name.{Name}
use Rattle.affine_ast.specs.declared.types.Element.{Element}
use Rattle.affine_ast.specs.declared.types.Element.TheVariants as el
use Rattle.affine_ast.specs.declared.types.Scalar.{Scalar}
use Rattle.affine_ast.specs.declared.types.Scalar.TheVariants as sc
use Rattle.affine_ast.specs.declared.types.Pick.TheVariants as pick
use Rattle.int_ops.specs.declared.operation.Op.TheVariants as op
use Rattle.int_ops.specs.declared.operation.CastKind.TheVariants as cast
use Rattle.affine_grammar.specs.declared.words.Operator.{Operator}
use Rattle.affine_grammar.specs.declared.words.Operator.TheVariants as operator
use Rattle.affine_grammar.specs.declared.words.Action.{Action}
use Rattle.affine_grammar.specs.declared.words.Action.TheVariants as action
use Rattle.affine_grammar.specs.declared.words.Definition.{Definition}
use Rattle.affine_grammar.specs.declared.words.Definition.TheVariants as definition
use Rattle.affine_grammar.specs.declared.words.Body.{Body}
use Rattle.affine_grammar.specs.declared.words.Body.TheVariants as body
use Rattle.affine_grammar.specs.declared.words.Alias.{Alias}
use Rattle.affine_grammar.specs.declared.words.State.{State}

-- a token of a text: its form, its bytes, and the line and column of the first of them
pub record Token : Type 0 where
  pub kind : Kind
  pub text : List ℕ
  pub line : ℕ
  pub column : ℕ

-- a token with its mark: the limits are asked of the tokens of a given text
abbrev pub Tok : Type 0
Tok = Marked Token

-- What a token is to the grammar. Names come without their `%`, `#` or `@`, and sizes without their `x`.
-- A bad token is of no use, and neither is the end.
pub data Class : Type 0 where
  Sign : ℕ → Class
  Keyword : List ℕ → Class
  ValueName : List ℕ → Class
  AliasName : List ℕ → Class
  FunctionName : List ℕ → Class
  Number : ℕ → Class
  Size : List ℕ → Class
  ArrowSign : Class
  Relation : Rel → Class
  Other : Class

abbrev pub class_of : Kind → List ℕ → Class
class_of k.Word text = Keyword text
class_of k.Value text = ValueName (drop 1 text)
class_of k.Alias text = AliasName (drop 1 text)
class_of k.Symbol text = FunctionName (drop 1 text)
class_of (k.Int n) text = Number n
class_of (k.Punct b) text = Sign b
class_of k.Arrow text = ArrowSign
class_of k.GreaterEqual text = Relation rel.Ge
class_of k.LessEqual text = Relation rel.Le
class_of k.Equal text = Relation rel.Eq
class_of k.Sizes text = Size (take (length text - 1) text)
class_of k.Bad text = Other
class_of k.End text = Other

abbrev pub class : Tok → Class
class t = class_of t.token.kind t.token.text

-- ---- classes

abbrev pub is_sign : ℕ → Class → Bool
is_sign n (Sign b) = b == n
is_sign n _ = false

abbrev pub is_word : List ℕ → Class → Bool
is_word w (Keyword text) = bytes_eq text w
is_word w _ = false

abbrev pub is_number : Class → Bool
is_number (Number n) = true
is_number _ = false

abbrev pub is_value : Class → Bool
is_value (ValueName w) = true
is_value _ = false

abbrev pub is_alias : Class → Bool
is_alias (AliasName w) = true
is_alias _ = false

abbrev pub is_size : Class → Bool
is_size (Size w) = true
is_size _ = false

abbrev pub is_arrow : Class → Bool
is_arrow ArrowSign = true
is_arrow _ = false

-- an integer, or the sign of one
abbrev pub begins_integer : Class → Bool
begins_integer c = is_sign 45 c || is_number c

-- ---- tests of the next token

abbrev pub at_sign : ℕ → Test Tok
at_sign n = classed class (is_sign n)

abbrev pub at_word : List ℕ → Test Tok
at_word w = classed class (is_word w)

abbrev pub at_number : Test Tok
at_number = classed class is_number

abbrev pub at_value : Test Tok
at_value = classed class is_value

abbrev pub at_alias : Test Tok
at_alias = classed class is_alias

abbrev pub at_size : Test Tok
at_size = classed class is_size

abbrev pub at_integer : Test Tok
at_integer = classed class begins_integer

-- ---- what the tokens of one class mean

abbrev pub of_keyword : {A : Type 0} → (List ℕ → Option A) → Class → Option A
of_keyword f (Keyword w) = f w
of_keyword f _ = None

abbrev pub of_value : {A : Type 0} → (List ℕ → Option A) → Class → Option A
of_value f (ValueName w) = f w
of_value f _ = None

abbrev pub of_alias : {A : Type 0} → (List ℕ → Option A) → Class → Option A
of_alias f (AliasName w) = f w
of_alias f _ = None

abbrev pub of_function : {A : Type 0} → (List ℕ → Option A) → Class → Option A
of_function f (FunctionName w) = f w
of_function f _ = None

abbrev pub of_number : {A : Type 0} → (ℕ → Option A) → Class → Option A
of_number f (Number n) = f n
of_number f _ = None

abbrev pub of_size : {A : Type 0} → (List ℕ → Option A) → Class → Option A
of_size f (Size w) = f w
of_size f _ = None

abbrev pub of_relation : {A : Type 0} → (Rel → Option A) → Class → Option A
of_relation f (Relation r) = f r
of_relation f _ = None

-- what a token means, with the line on which it stands
abbrev pub with_line : {A : Type 0} → ℕ → Option A → Option (ℕ × A)
with_line n (Some x) = Some (n, x)
with_line n None = None

abbrev pub lined : {A : Type 0} → (Tok → Option A) → Tok → Option (ℕ × A)
lined p t = with_line t.token.line (p t)

-- the first of two that is there
abbrev pub or_else : {A : Type 0} → Option A → Option A → Option A
or_else (Some x) o = Some x
or_else None o = o

-- what a word means by a table of words
abbrev pub meaning : {A : Type 0} → List (List ℕ × A) → List ℕ → Option A
meaning [] w = None
meaning (p ∷ table) w = if bytes_eq w p.0 then Some p.1 else meaning table w

-- ---- signs, words and names

abbrev pub sign : ℕ → Tok → Option (Unit {0})
sign n = accept (λ t. is_sign n (class t))

abbrev pub word : List ℕ → Tok → Option (Unit {0})
word w = accept (λ t. is_word w (class t))

abbrev pub arrow : Tok → Option (Unit {0})
arrow = accept (λ t. is_arrow (class t))

abbrev pub relation : Tok → Option Rel
relation t = of_relation (λ r. Some r) (class t)

abbrev pub all_ascii : List ℕ → Bool
all_ascii [] = true
all_ascii (b ∷ w) = is_ascii b && all_ascii w

-- The bytes of a name as a string. Those of the names of a text are ASCII (proofs/Names), and stand as they
-- are.
abbrev pub string_of : List ℕ → List ℕ
string_of w = if all_ascii w then w else []

-- a name as a text has it
abbrev pub named : List ℕ → Name
named w = record { text = string_of w; made = false }

abbrev pub value : Tok → Option Name
value t = of_value (λ w. Some (named w)) (class t)

abbrev pub function_name : Tok → Option (List ℕ)
function_name t = of_function (λ w. Some (string_of w)) (class t)

-- ---- integers, which are in the range of 64 bits with their sign

abbrev pub within : ℕ → ℕ → Option ℕ
within most n = if nat_le n most then Some n else None

abbrev pub positive : ℕ → Option ℤ
positive n = if nat_le n 9223372036854775807 then Some (pos n) else None

abbrev pub negated : ℕ → Option ℤ
negated n = if nat_le n 9223372036854775808 then Some (neg_ℤ (pos n)) else None

-- an integer without a sign, and one behind a `-`
abbrev pub integer : Tok → Option ℤ
integer t = of_number positive (class t)

abbrev pub negative : Tok → Option ℤ
negative t = of_number negated (class t)

-- ---- types

-- a size is at most 4,294,967,295, and a space at most 255
abbrev pub size : Tok → Option ℕ
size t = of_size (λ w. within 4294967295 (digits_value 10 w)) (class t)

abbrev pub space : Tok → Option ℕ
space t = of_number (within 255) (class t)

abbrev pub elements : List (List ℕ × Element)
elements = (codes "i8", el.I8) ∷ (codes "i16", el.I16) ∷ (codes "i32", el.I32) ∷ (codes "i64", el.I64) ∷ []

unfoldable pub element_of : List ℕ → Option Element
element_of w = meaning elements w

abbrev pub element : Tok → Option Element
element t = of_keyword element_of (class t)

abbrev pub int_scalar : Option Element → Option Scalar
int_scalar (Some x) = Some (sc.Int x)
int_scalar None = None

unfoldable pub scalar_of : List ℕ → Option Scalar
scalar_of w = if bytes_eq w (codes "index") then Some sc.Index else int_scalar (element_of w)

abbrev pub scalar : Tok → Option Scalar
scalar t = of_keyword scalar_of (class t)

-- the type that may stand behind a space
unfoldable pub int_type_of : List ℕ → Option (Unit {0})
int_type_of w = meaning ((codes "i32", tt) ∷ (codes "i64", tt) ∷ []) w

abbrev pub int_type : Tok → Option (Unit {0})
int_type t = of_keyword int_type_of (class t)

-- ---- operators

abbrev pub sum_of : ℕ → Option Operator
sum_of b = if b == 43 then Some operator.Add else (if b == 45 then Some operator.Sub else None)

abbrev pub sum_in : Class → Option Operator
sum_in (Sign b) = sum_of b
sum_in _ = None

abbrev pub sum_op : Tok → Option Operator
sum_op t = sum_in (class t)

unfoldable pub product_word : List ℕ → Option Operator
product_word w = meaning ((codes "floordiv", operator.FloorDiv) ∷ (codes "ceildiv", operator.CeilDiv) ∷ (codes "mod", operator.Mod) ∷ []) w

abbrev pub product_in : Class → Option Operator
product_in (Sign b) = if b == 42 then Some operator.Mul else None
product_in (Keyword w) = product_word w
product_in _ = None

abbrev pub product_op : Tok → Option Operator
product_op t = product_in (class t)

abbrev pub is_there : {A : Type 0} → Option A → Bool
is_there (Some x) = true
is_there None = false

-- the tokens that go on with a sum, and those that go on with a product
abbrev pub is_sum : Class → Bool
is_sum c = is_there (sum_in c)

abbrev pub is_product : Class → Bool
is_product c = is_there (product_in c)

abbrev pub at_sum : Test Tok
at_sum = classed class is_sum

abbrev pub at_product : Test Tok
at_product = classed class is_product

abbrev pub joined : Operator → Expr → Expr → Expr
joined operator.Add a b = e.Add a b
joined operator.Sub a b = e.Sub a b
joined operator.Mul a b = e.Mul a b
joined operator.FloorDiv a b = e.FloorDiv a b
joined operator.CeilDiv a b = e.CeilDiv a b
joined operator.Mod a b = e.Mod a b

-- ---- the leaves of expressions

abbrev pub next : Option ℕ → Option ℕ
next (Some i) = Some (suc i)
next None = None

-- the number of a name in a list, counted from 0
abbrev pub number_of : List ℕ → List Name → Option ℕ
number_of w [] = None
number_of w (n ∷ names) = if bytes_eq n.text w then Some 0 else next (number_of w names)

-- one operand more
abbrev pub counting : State → State
counting s = record { operands = s.operands + 1; total = s.total + 1; dims = s.dims; syms = s.syms }

abbrev pub counted_leaf : {A : Type 0} → (A → Expr) → State → Option A → Option (Expr × State)
counted_leaf f s (Some x) = Some (f x, counting s)
counted_leaf f s None = None

-- an expression has at most 256 operands, and a module has at most 1,048,576
abbrev pub is_full : State → Bool
is_full s = nat_le 256 s.operands || nat_le 1048576 s.total

abbrev pub number : State → Tok → Option (Expr × State)
number s = limited (is_full s) (λ t. counted_leaf (λ z. e.Const z) s (integer t))

-- an integer behind its `-`
abbrev pub negative_number : State → Tok → Option (Expr × State)
negative_number s = limited (is_full s) (λ t. counted_leaf (λ z. e.Const z) s (negative t))

-- a parameter of the map or set
abbrev pub parameter_of : State → List ℕ → Option (Expr × State)
parameter_of s w = or_else (counted_leaf (λ i. e.Dim i) s (number_of w s.dims)) (counted_leaf (λ i. e.Sym i) s (number_of w s.syms))

abbrev pub parameter : State → Tok → Option (Expr × State)
parameter s = limited (is_full s) (λ t. of_keyword (parameter_of s) (class t))

-- a value in subscripts: the number of its first appearance, and the values with it
abbrev pub appearing : Option ℕ → List ℕ → List Name → ℕ × List Name
appearing (Some i) w names = (i, names)
appearing None w names = (length names, names ++ named w ∷ [])

abbrev pub appears : List ℕ → List Name → ℕ × List Name
appears w names = appearing (number_of w names) w names

-- a value, which is a dimension
abbrev pub dimension_of : State → List ℕ → Expr × State
dimension_of s w = (e.Dim (appears w s.dims).0, counting (record { operands = s.operands; total = s.total; dims = (appears w s.dims).1; syms = s.syms }))

abbrev pub dimension : State → Tok → Option (Expr × State)
dimension s = limited (is_full s) (λ t. of_value (λ w. Some (dimension_of s w)) (class t))

-- the word before the value that is a symbol, at which this operand counts
abbrev pub symbol_word : State → Tok → Option (Unit {0})
symbol_word s = limited (is_full s) (word (codes "symbol"))

abbrev pub symbol_of : State → List ℕ → Expr × State
symbol_of s w = (e.Sym (appears w s.syms).0, counting (record { operands = s.operands; total = s.total; dims = s.dims; syms = (appears w s.syms).1 }))

abbrev pub symbol : State → Tok → Option (Expr × State)
symbol s t = of_value (λ w. Some (symbol_of s w)) (class t)

-- ---- parameters

-- a name that isn't among these
abbrev pub new_in : List Name → List ℕ → Option Name
new_in names w = if is_there (number_of w names) then None else Some (named w)

-- a parameter that doesn't stand already
abbrev pub fresh : List Name → Tok → Option Name
fresh names t = of_keyword (new_in names) (class t)

-- ---- separators with limits

-- The comma before one item more, where there may be several and there are n: at most so many.
abbrev pub comma_within : ℕ → Bool → ℕ → Tok → Option (Unit {0})
comma_within most several n t = if several then limited (nat_le most n) (sign 44) t else None

-- ---- aliases

abbrev pub alias_in : List ℕ → List Alias → Option Alias
alias_in w [] = None
alias_in w (a ∷ aliases) = if bytes_eq a.name w then Some a else alias_in w aliases

-- the name of an alias that isn't defined yet
abbrev pub new_alias : List Alias → Tok → Option (List ℕ)
new_alias aliases t = of_alias (λ w. if is_there (alias_in w aliases) then None else Some (string_of w)) (class t)

-- An alias brings its operands to the module's, which the limit is asked of.
abbrev pub brings : {A : Type 0} → Bool → ℕ → A → Option (A × ℕ)
brings counted total x = if counted && not (nat_le total 1048576) then None else Some (x, total)

-- the map of an alias, with one result where there may not be several
abbrev pub map_body : Bool → Bool → ℕ → Body → Option (Map × ℕ)
map_body counted several total (body.Map m) = if several || nat_le (length m.results) 1 then brings counted total m else None
map_body counted several total (body.Set s) = None

abbrev pub map_meant : Bool → Bool → ℕ → Option Alias → Option (Map × ℕ)
map_meant counted several total (Some a) = map_body counted several (total + a.operands) a.body
map_meant counted several total None = None

abbrev pub alias_map : List Alias → Bool → ℕ → Tok → Option (Map × ℕ)
alias_map aliases several total t = of_alias (λ w. map_meant t.counted several total (alias_in w aliases)) (class t)

-- the set of an alias
abbrev pub set_body : Bool → ℕ → Body → Option (Set × ℕ)
set_body counted total (body.Set s) = brings counted total s
set_body counted total (body.Map m) = None

abbrev pub set_meant : Bool → ℕ → Option Alias → Option (Set × ℕ)
set_meant counted total (Some a) = set_body counted (total + a.operands) a.body
set_meant counted total None = None

abbrev pub alias_set : List Alias → ℕ → Tok → Option (Set × ℕ)
alias_set aliases total t = of_alias (λ w. set_meant t.counted total (alias_in w aliases)) (class t)

-- ---- the words of statements

-- statements without a result
unfoldable pub action_of : List ℕ → Option Action
action_of w = meaning
    ((codes "affine.for", action.For) ∷ (codes "affine.if", action.If) ∷ (codes "affine.store", action.Store) ∷ (codes "memref.store", action.RawStore)
    ∷ (codes "memref.dealloc", action.Dealloc) ∷ (codes "affine.dma_start", action.Start) ∷ (codes "affine.dma_wait", action.Wait) ∷ []) w

abbrev pub action_word : Tok → Option Action
action_word t = of_keyword action_of (class t)

-- the sixteen operations and the four casts
abbrev pub operations : List (List ℕ × Definition)
operations =
    (codes "arith.addi", definition.Binary op.Add) ∷ (codes "arith.subi", definition.Binary op.Sub) ∷ (codes "arith.muli", definition.Binary op.Mul)
    ∷ (codes "arith.divsi", definition.Binary op.DivS) ∷ (codes "arith.remsi", definition.Binary op.RemS)
    ∷ (codes "arith.divui", definition.Binary op.DivU) ∷ (codes "arith.remui", definition.Binary op.RemU)
    ∷ (codes "arith.floordivsi", definition.Binary op.FloorDivS) ∷ (codes "arith.ceildivsi", definition.Binary op.CeilDivS)
    ∷ (codes "arith.andi", definition.Binary op.And) ∷ (codes "arith.ori", definition.Binary op.Or) ∷ (codes "arith.xori", definition.Binary op.Xor)
    ∷ (codes "arith.maxsi", definition.Binary op.MaxS) ∷ (codes "arith.minsi", definition.Binary op.MinS)
    ∷ (codes "arith.maxui", definition.Binary op.MaxU) ∷ (codes "arith.minui", definition.Binary op.MinU)
    ∷ (codes "arith.index_cast", definition.Cast cast.Index) ∷ (codes "arith.extsi", definition.Cast cast.ExtS)
    ∷ (codes "arith.extui", definition.Cast cast.ExtU) ∷ (codes "arith.trunci", definition.Cast cast.Trunc) ∷ []

-- what stands behind a result and its `=`
abbrev pub definitions : List (List ℕ × Definition)
definitions =
    (codes "affine.apply", definition.Value pick.Apply) ∷ (codes "affine.min", definition.Value pick.Min) ∷ (codes "affine.max", definition.Value pick.Max)
    ∷ (codes "affine.load", definition.Load) ∷ (codes "memref.load", definition.RawLoad) ∷ (codes "arith.constant", definition.Constant)
    ∷ (codes "memref.alloc", definition.Alloc) ∷ operations

unfoldable pub definition_of : List ℕ → Option Definition
definition_of w = meaning definitions w

abbrev pub definition_word : Tok → Option Definition
definition_word t = of_keyword definition_of (class t)

-- what begins a statement: its result, or its own word
abbrev pub is_action : Class → Bool
is_action c = is_there (of_keyword action_of c)

abbrev pub begins_stmt : Class → Bool
begins_stmt c = is_value c || is_action c

abbrev pub at_stmt : Test Tok
at_stmt = classed class begins_stmt
