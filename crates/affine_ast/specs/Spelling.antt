-- The printed spelling of a module: the bytes that a printer writes for it. A text is a list of bytes.
use Rattle.std.specs.Prelude.{ℕ, ◌+◌, ◌==◌, nat_lt, ℤ, pos, negsuc, Bool, if◌then◌else◌, List, [], ◌∷◌, ◌++◌, take, drop, length, codes, Option, Some, None, slice_get}
use Rattle.std.specs.Fmt.{decimal, signed_decimal}
use Rattle.std.specs.List.{flat_map, join_by, range_with_len}
use Rattle.std.specs.Ordering.{int_eq}
use Rattle.affine_expr.specs.declared.expr.Expr.{Expr, fold-Expr}
use Rattle.affine_expr.specs.declared.expr.Expr.TheOpen.{Expr-F}
use Rattle.affine_expr.specs.declared.map.Constraint.{Constraint}
use Rattle.affine_expr.specs.declared.map.Interval.{Interval}
use Rattle.affine_expr.specs.declared.map.Rel.{Rel}
use Rattle.affine_expr.specs.declared.map.Rel.TheVariants as rel
use Rattle.affine_expr.specs.declared.map.Set.{Set}
use Rattle.int_ops.specs.declared.operation.CastKind.{CastKind}
use Rattle.int_ops.specs.declared.operation.CastKind.TheVariants as cast
use Rattle.int_ops.specs.declared.operation.Op.{Op}
use Rattle.int_ops.specs.declared.operation.Op.TheVariants as op
use Rattle.affine_ast.specs.declared.module.Arg.{Arg}
use Rattle.affine_ast.specs.declared.module.ArgKind.{ArgKind}
use Rattle.affine_ast.specs.declared.module.ArgKind.TheVariants as kind
use Rattle.affine_ast.specs.declared.module.Module.{Module}
use Rattle.affine_ast.specs.declared.name.Name.{Name}
use Rattle.affine_ast.specs.declared.types.Access.{Access}
use Rattle.affine_ast.specs.declared.types.Bound.{Bound}
use Rattle.affine_ast.specs.declared.types.Bound.TheVariants as bound
use Rattle.affine_ast.specs.declared.types.Element.{Element}
use Rattle.affine_ast.specs.declared.types.Element.TheVariants as element
use Rattle.affine_ast.specs.declared.types.MemrefType.{MemrefType}
use Rattle.affine_ast.specs.declared.types.Pick.{Pick}
use Rattle.affine_ast.specs.declared.types.Pick.TheVariants as pick
use Rattle.affine_ast.specs.declared.types.Scalar.{Scalar}
use Rattle.affine_ast.specs.declared.types.Scalar.TheVariants as scalar
use Rattle.affine_ast.specs.declared.stmt.What.{What}
use Rattle.affine_ast.specs.Nest.{Plain, Value, Load, Store, RawLoad, RawStore, Constant, Binary, Cast, Alloc, Dealloc, Start, Wait, Return, Nest, Nothing, Loop, Branch, Does, nest, put_what}

-- ---- Names and lists

-- a value's name behind its sign
unfoldable pub name_text : Name → List ℕ
name_text n = codes "%" ++ n.text

-- texts parted by a comma and a blank
unfoldable pub listed : {A : Type 0} → (A → List ℕ) → List A → List ℕ
listed text xs = join_by text (codes ", ") xs

abbrev pub names_text : List Name → List ℕ
names_text = listed name_text

-- ---- Types

abbrev pub element_text : Element → List ℕ
element_text element.I8 = codes "i8"
element_text element.I16 = codes "i16"
element_text element.I32 = codes "i32"
element_text element.I64 = codes "i64"

abbrev pub scalar_text : Scalar → List ℕ
scalar_text (scalar.Int e) = element_text e
scalar_text scalar.Index = codes "index"

-- a size and the `x` behind it
unfoldable pub size_text : ℕ → List ℕ
size_text n = decimal n ++ codes "x"

-- the slow space, 0, isn't written
unfoldable pub space_text : ℕ → List ℕ
space_text space = if space == 0 then [] else (codes ", " ++ decimal space)

-- the sizes from the outermost dimension in, the element type and the space
unfoldable pub memref_text : MemrefType → List ℕ
memref_text ty = codes "memref<" ++ (flat_map size_text ty.sizes ++ (element_text ty.element ++ (space_text ty.space ++ codes ">")))

-- a type behind its colon
unfoldable pub typed_text : MemrefType → List ℕ
typed_text ty = codes " : " ++ memref_text ty

unfoldable pub scalar_typed_text : Scalar → List ℕ
scalar_typed_text ty = codes " : " ++ scalar_text ty

-- ---- Expressions

-- how the dimensions and the symbols are spelled, by their numbers
pub record Leaves : Type 0 where
  pub dimension : ℕ → List ℕ
  pub symbol : ℕ → List ℕ

-- in a map or a set a leaf is one of its parameters
abbrev pub parameters : Leaves
parameters = record { dimension = λ n. codes "d" ++ decimal n; symbol = λ n. codes "s" ++ decimal n }

-- the name of an operand; nothing where there is none
unfoldable pub operand_text : Option Name → List ℕ
operand_text (Some name) = name_text name
operand_text None = []

-- in subscripts a leaf is an operand: those of the dimensions come first
abbrev pub operands : List Name → ℕ → Leaves
operands names dims = record {
  dimension = λ n. operand_text (slice_get names n);
  symbol = λ n. codes "symbol(" ++ (operand_text (slice_get names (dims + n)) ++ codes ")");
}

-- the spelling of an expression, by where it stands: alone or as the left side of a sum, where a product may stand, where
-- only what binds more strongly may, and behind a `-`
pub record Texts : Type 0 where
  pub sum : List ℕ
  pub product : List ℕ
  pub unary : List ℕ
  pub negated : List ℕ

abbrev pub in_parentheses : List ℕ → List ℕ
in_parentheses t = codes "(" ++ (t ++ codes ")")

-- a sum or a difference
abbrev pub as_sum : List ℕ → Texts
as_sum t = record { sum = t; product = in_parentheses t; unary = in_parentheses t; negated = in_parentheses t }

-- a product or a division
abbrev pub as_product : List ℕ → Texts
as_product t = record { sum = t; product = t; unary = in_parentheses t; negated = in_parentheses t }

-- a leaf or a negation
abbrev pub as_unary : List ℕ → Texts
as_unary t = record { sum = t; product = t; unary = t; negated = t }

-- behind a `-` digits would be read as one integer with it
abbrev pub as_literal : ℤ → Texts
as_literal (pos n) = record { sum = decimal n; product = decimal n; unary = decimal n; negated = in_parentheses (decimal n) }
as_literal (negsuc n) = as_unary (signed_decimal (negsuc n))

-- two sides and their operator. Each associates to the left: an equally strong right side has parentheses
unfoldable pub sum_text : Texts → List ℕ → Texts → List ℕ
sum_text a sign b = a.sum ++ (sign ++ b.product)

unfoldable pub product_text : Texts → List ℕ → Texts → List ℕ
product_text a sign b = a.product ++ (sign ++ b.unary)

-- one level of an expression over the spellings of its parts
abbrev pub texts_step : Leaves → Expr-F Texts → Texts
texts_step leaves (Expr-F.Dim n) = as_unary (leaves.dimension n)
texts_step leaves (Expr-F.Sym n) = as_unary (leaves.symbol n)
texts_step leaves (Expr-F.Const z) = as_literal z
texts_step leaves (Expr-F.Neg a) = as_unary (codes "-" ++ a.negated)
texts_step leaves (Expr-F.Add a b) = as_sum (sum_text a (codes " + ") b)
texts_step leaves (Expr-F.Sub a b) = as_sum (sum_text a (codes " - ") b)
texts_step leaves (Expr-F.Mul a b) = as_product (product_text a (codes " * ") b)
texts_step leaves (Expr-F.FloorDiv a b) = as_product (product_text a (codes " floordiv ") b)
texts_step leaves (Expr-F.CeilDiv a b) = as_product (product_text a (codes " ceildiv ") b)
texts_step leaves (Expr-F.Mod a b) = as_product (product_text a (codes " mod ") b)

unfoldable pub texts : Leaves → Expr → Texts
texts leaves = fold-Expr Texts (texts_step leaves)

-- an expression by itself
unfoldable pub expression_text : Leaves → Expr → List ℕ
expression_text leaves e = (texts leaves e).sum

-- ---- Maps, sets and bounds

-- parameters of one letter, numbered from 0
unfoldable pub numbered_text : List ℕ → ℕ → List ℕ
numbered_text letter count = listed (λ n. letter ++ decimal n) (range_with_len 0 count)

-- brackets stand only where there are symbols
unfoldable pub symbols_text : ℕ → List ℕ
symbols_text count = if count == 0 then [] else (codes "[" ++ (numbered_text (codes "s") count ++ codes "]"))

-- the dimensions and the symbols of a map or a set
unfoldable pub parameters_text : ℕ → ℕ → List ℕ
parameters_text dims syms = codes "(" ++ (numbered_text (codes "d") dims ++ (codes ")" ++ symbols_text syms))

unfoldable pub symbol_names_text : List Name → List ℕ
symbol_names_text [] = []
symbol_names_text (n ∷ ns) = codes "[" ++ (names_text (n ∷ ns) ++ codes "]")

-- the operands of the dimensions and then of the symbols
unfoldable pub operands_text : ℕ → List Name → List ℕ
operands_text dims names = codes "(" ++ (names_text (take dims names) ++ (codes ")" ++ symbol_names_text (drop dims names)))

unfoldable pub results_text : List Expr → List ℕ
results_text es = codes " -> (" ++ (listed (expression_text parameters) es ++ codes ")>")

-- a map or a set begins with its word and its parameters
unfoldable pub opening_text : List ℕ → ℕ → ℕ → List ℕ
opening_text word dims syms = word ++ parameters_text dims syms

-- a map with its operands, as bounds and `affine.apply` have it
unfoldable pub use_text : Access → List ℕ
use_text at = opening_text (codes "affine_map<") at.map.dims at.map.syms ++ (results_text at.map.results ++ operands_text at.map.dims at.operands)

abbrev pub relation_text : Rel → List ℕ
relation_text rel.Ge = codes " >= "
relation_text rel.Le = codes " <= "
relation_text rel.Eq = codes " == "

unfoldable pub row_text : Constraint → List ℕ
row_text row = expression_text parameters row.left ++ (relation_text row.rel ++ expression_text parameters row.right)

unfoldable pub rows_text : List Constraint → List ℕ
rows_text rows = codes " : (" ++ (listed row_text rows ++ codes ")>")

-- a set with its operands
unfoldable pub set_text : Set → List Name → List ℕ
set_text set names = opening_text (codes "affine_set<") set.dims set.syms ++ (rows_text set.rows ++ operands_text set.dims names)

-- the subscripts of a memref: the map's results over the operands' names
unfoldable pub subscripts_text : Access → List ℕ
subscripts_text at = codes "[" ++ (listed (expression_text (operands at.operands at.map.dims)) at.map.results ++ codes "]")

-- the word that picks among several results
unfoldable pub pick_text : List ℕ → List Expr → List ℕ
pick_text word results = if nat_lt 1 (length results) then word else []

unfoldable pub bound_text : List ℕ → Bound → List ℕ
bound_text word (bound.Int z) = signed_decimal z
bound_text word (bound.Value n) = name_text n
bound_text word (bound.Map at) = pick_text word at.map.results ++ use_text at

-- ---- Statements without a region

-- a statement begins with what it defines and its word, or with its word and a name
unfoldable pub defined_text : Name → List ℕ → List ℕ
defined_text n word = name_text n ++ (codes " = " ++ word)

unfoldable pub named_text : List ℕ → Name → List ℕ
named_text word n = word ++ name_text n

-- a memref with its subscripts
unfoldable pub place_text : Name → Access → List ℕ
place_text m at = name_text m ++ subscripts_text at

unfoldable pub raw_place_text : Name → List Name → List ℕ
raw_place_text m at = name_text m ++ (codes "[" ++ (names_text at ++ codes "]"))

abbrev pub value_word : Pick → List ℕ
value_word pick.Apply = codes "affine.apply "
value_word pick.Min = codes "affine.min "
value_word pick.Max = codes "affine.max "

abbrev pub operation_word : Op → List ℕ
operation_word op.Add = codes "arith.addi "
operation_word op.Sub = codes "arith.subi "
operation_word op.Mul = codes "arith.muli "
operation_word op.DivS = codes "arith.divsi "
operation_word op.RemS = codes "arith.remsi "
operation_word op.DivU = codes "arith.divui "
operation_word op.RemU = codes "arith.remui "
operation_word op.FloorDivS = codes "arith.floordivsi "
operation_word op.CeilDivS = codes "arith.ceildivsi "
operation_word op.And = codes "arith.andi "
operation_word op.Or = codes "arith.ori "
operation_word op.Xor = codes "arith.xori "
operation_word op.MaxS = codes "arith.maxsi "
operation_word op.MinS = codes "arith.minsi "
operation_word op.MaxU = codes "arith.maxui "
operation_word op.MinU = codes "arith.minui "

abbrev pub cast_word : CastKind → List ℕ
cast_word cast.Index = codes "arith.index_cast "
cast_word cast.ExtS = codes "arith.extsi "
cast_word cast.ExtU = codes "arith.extui "
cast_word cast.Trunc = codes "arith.trunci "

-- two texts with a comma between
unfoldable pub pair_text : List ℕ → List ℕ → List ℕ
pair_text a b = a ++ (codes ", " ++ b)

unfoldable pub value_text : Name → Pick → Access → List ℕ
value_text r pick at = defined_text r (value_word pick) ++ use_text at

unfoldable pub load_text : Name → Name → Access → MemrefType → List ℕ
load_text r m at ty = defined_text r (codes "affine.load ") ++ (place_text m at ++ typed_text ty)

unfoldable pub store_text : Name → Name → Access → MemrefType → List ℕ
store_text x m at ty = named_text (codes "affine.store ") x ++ (codes ", " ++ (place_text m at ++ typed_text ty))

unfoldable pub raw_load_text : Name → Name → List Name → MemrefType → List ℕ
raw_load_text r m at ty = defined_text r (codes "memref.load ") ++ (raw_place_text m at ++ typed_text ty)

unfoldable pub raw_store_text : Name → Name → List Name → MemrefType → List ℕ
raw_store_text x m at ty = named_text (codes "memref.store ") x ++ (codes ", " ++ (raw_place_text m at ++ typed_text ty))

unfoldable pub constant_text : Name → ℤ → Scalar → List ℕ
constant_text r z ty = defined_text r (codes "arith.constant ") ++ (signed_decimal z ++ scalar_typed_text ty)

unfoldable pub binary_text : Name → Op → Name → Name → Scalar → List ℕ
binary_text r op a b ty = defined_text r (operation_word op) ++ (pair_text (name_text a) (name_text b) ++ scalar_typed_text ty)

-- the type that a cast comes from and the one that it goes to
unfoldable pub cast_types_text : Scalar → Scalar → List ℕ
cast_types_text from to = scalar_typed_text from ++ (codes " to " ++ scalar_text to)

unfoldable pub cast_text : Name → CastKind → Name → Scalar → Scalar → List ℕ
cast_text r kind x from to = defined_text r (cast_word kind) ++ (name_text x ++ cast_types_text from to)

unfoldable pub alloc_text : Name → MemrefType → List ℕ
alloc_text r ty = defined_text r (codes "memref.alloc()") ++ typed_text ty

unfoldable pub dealloc_text : Name → MemrefType → List ℕ
dealloc_text m ty = named_text (codes "memref.dealloc ") m ++ typed_text ty

-- the stride and the chunk of a transfer, where it has them
unfoldable pub stride_text : Option (Name × Name) → List ℕ
stride_text None = []
stride_text (Some (stride, chunk)) = codes ", " ++ pair_text (name_text stride) (name_text chunk)

-- the word of a transfer and its first place
unfoldable pub first_place_text : List ℕ → Name → Access → List ℕ
first_place_text word m at = named_text word m ++ subscripts_text at

-- the source, the destination and the tag of a transfer
unfoldable pub ends_text : Name → Access → Name → Access → Name → Access → List ℕ
ends_text a aa b bb t ta = first_place_text (codes "affine.dma_start ") a aa ++ (codes ", " ++ pair_text (place_text b bb) (place_text t ta))

-- the count of a transfer with its stride, and the types of source, destination and tag
unfoldable pub amount_text : Name → Option (Name × Name) → List MemrefType → List ℕ
amount_text n stride types = codes ", " ++ (name_text n ++ (stride_text stride ++ (codes " : " ++ listed memref_text types)))

unfoldable pub wait_text : Name → Access → Name → MemrefType → List ℕ
wait_text t at n ty = first_place_text (codes "affine.dma_wait ") t at ++ (codes ", " ++ (name_text n ++ typed_text ty))

abbrev pub plain_text : Plain → List ℕ
plain_text (Value r pick at) = value_text r pick at
plain_text (Load r m at ty) = load_text r m at ty
plain_text (Store x m at ty) = store_text x m at ty
plain_text (RawLoad r m at ty) = raw_load_text r m at ty
plain_text (RawStore x m at ty) = raw_store_text x m at ty
plain_text (Constant r z ty) = constant_text r z ty
plain_text (Binary r op a b ty) = binary_text r op a b ty
plain_text (Cast r kind x from to) = cast_text r kind x from to
plain_text (Alloc r ty) = alloc_text r ty
plain_text (Dealloc m ty) = dealloc_text m ty
plain_text (Start a aa b bb t ta n stride types) = ends_text a aa b bb t ta ++ amount_text n stride types
plain_text (Wait t at n ty) = wait_text t at n ty
plain_text Return = codes "return"

-- ---- Loops and conditions

-- a step of 1 isn't written
unfoldable pub step_text : ℤ → List ℕ
step_text s = if int_eq s (pos 1) then [] else (codes " step " ++ signed_decimal s)

-- from the greatest lower result up to the least upper one
unfoldable pub bounds_text : Bound → Bound → List ℕ
bounds_text lower upper = bound_text (codes "max ") lower ++ (codes " to " ++ bound_text (codes "min ") upper)

-- the head of a loop, up to the line feed behind its brace
unfoldable pub for_text : Name → Bound → Bound → ℤ → List ℕ
for_text v lower upper s = named_text (codes "affine.for ") v ++ (codes " = " ++ (bounds_text lower upper ++ (step_text s ++ codes " {\n")))

unfoldable pub if_text : Set → List Name → List ℕ
if_text set names = codes "affine.if " ++ (set_text set names ++ codes " {\n")

-- the margin of a line is the blanks before it: in a region it is two blanks wider than that of the region's head
unfoldable pub deeper : List ℕ → List ℕ
deeper margin = margin ++ codes "  "

-- a statement on its line
unfoldable pub line_text : List ℕ → List ℕ → List ℕ
line_text margin text = margin ++ (text ++ codes "\n")

-- a head, the lines of its region, and the brace at the head's margin
unfoldable pub block_text : List ℕ → List ℕ → List ℕ → List ℕ
block_text margin head inside = head ++ (inside ++ (margin ++ codes "}"))

-- the second region of a condition, where there is one
unfoldable pub else_text : List ℕ → Bool → List ℕ → List ℕ
else_text margin has inside = if has then (margin ++ (codes "} else {\n" ++ inside)) else []

-- the lines of statements at a margin
unfoldable pub lines : List ℕ → Nest → List ℕ
lines margin Nothing = []
lines margin (Loop line v lower upper s body rest) =
    line_text margin (block_text margin (for_text v lower upper s) (lines (deeper margin) body)) ++ lines margin rest
lines margin (Branch line set names first has other rest) =
    line_text margin (block_text margin (if_text set names) (lines (deeper margin) first ++ else_text margin has (lines (deeper margin) other))) ++ lines margin rest
lines margin (Does line p rest) = line_text margin (plain_text p) ++ lines margin rest

-- a statement at a margin, from its first token to its last: without the margin before it and the line feed behind it
abbrev pub first_text : List ℕ → Nest → List ℕ
first_text margin Nothing = []
first_text margin (Loop line v lower upper s body rest) = block_text margin (for_text v lower upper s) (lines (deeper margin) body)
first_text margin (Branch line set names first has other rest) =
    block_text margin (if_text set names) (lines (deeper margin) first ++ else_text margin has (lines (deeper margin) other))
first_text margin (Does line p rest) = plain_text p

unfoldable pub statement_text : List ℕ → What → List ℕ
statement_text margin what = first_text margin (put_what what 0 Nothing)

-- ---- The module

unfoldable pub range_text : Interval → List ℕ
range_text r = codes " {copy.range = [" ++ (pair_text (signed_decimal r.least) (signed_decimal r.greatest) ++ codes "]}")

abbrev pub kind_text : ArgKind → List ℕ
kind_text (kind.Memref ty) = memref_text ty
kind_text (kind.Index None) = codes "index"
kind_text (kind.Index (Some r)) = codes "index" ++ range_text r

unfoldable pub arg_text : Arg → List ℕ
arg_text a = name_text a.name ++ (codes ": " ++ kind_text a.kind)

unfoldable pub args_text : List Arg → List ℕ
args_text args = codes "(" ++ (listed arg_text args ++ codes ") {\n")

-- the head of the function
unfoldable pub head_text : Module → List ℕ
head_text m = codes "  func.func @" ++ (m.name ++ args_text m.args)

-- the printed spelling: a module with its function at a margin of two blanks, each statement on a line of its own, every line
-- ended by a line feed. It is total; where an operand that an expression names isn't there, nothing stands in its place
unfoldable pub spelling : Module → List ℕ
spelling m = codes "module {\n" ++ (head_text m ++ (lines (codes "    ") (nest m.body) ++ codes "  }\n}\n"))
