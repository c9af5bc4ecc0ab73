-- Runs in which every value lies in the signed range of the type that it has in the text.
use Rattle.std.specs.Prelude.{◌≡◌, ℕ, ℤ, pos, List, [], replicate, flat_map, slice_index_or, None}
use Rattle.std.specs.List.{All}
use Rattle.int_ops.specs.Wrapped.{InRange}
use Rattle.affine_ast.specs.declared.image.Image.{Image}
use Rattle.affine_ast.specs.declared.module.Arg.{Arg}
use Rattle.affine_ast.specs.declared.module.ArgKind.{ArgKind}
use Rattle.affine_ast.specs.declared.module.ArgKind.TheVariants as kind
use Rattle.affine_ast.specs.declared.module.Module.{Module}
use Rattle.affine_ast.specs.Nest.{Plain, Nest, Nothing, Loop, Branch, Does, Constant, nest}
use Rattle.affine_ast.specs.PlainLimits.{plain_fault}
use Rattle.affine_ast.specs.Sizes.{element_bits, scalar_bits, product}
use Rattle.affine_ast.specs.Validity.{IsValid}
use Rattle.direct_meaning.specs.Action.{Place, Slow, Fast, Outside, Action, Loads, Stores, RawLoads, RawStores, Operates, Converts}
use Rattle.direct_meaning.specs.Direct.{State, read, raw_place, first_state}
use Rattle.direct_meaning.specs.Memory.{Fits, module_actions}
use Rattle.run_laws.specs.Along.{Along}

-- ---- constants

abbrev pub ConstantFits : Plain → Type 0
ConstantFits (Constant r z ty) = InRange (scalar_bits ty) z
ConstantFits p = Unit {0}

-- each constant of a text lies in the signed range of its type
abbrev pub ConstantsFit : Nest → Type 0
ConstantsFit Nothing = Unit {0}
ConstantsFit (Loop line v l u s body rest) = ConstantsFit body × ConstantsFit rest
ConstantsFit (Branch line set names first has other rest) = ConstantsFit first × ConstantsFit other × ConstantsFit rest
ConstantsFit (Does line p rest) = ConstantFits p × ConstantsFit rest

-- ---- values

abbrev pub widths_of : ArgKind → List ℕ
widths_of (kind.Memref ty) = replicate (product ty.sizes) (element_bits ty.element)
widths_of (kind.Index range) = []

-- the widths of the slow places: those of the elements of the memref arguments, in order
abbrev pub slow_widths : List Arg → List ℕ
slow_widths args = flat_map (λ arg. widths_of arg.kind) args

-- a value at a place lies in the range of the place's width
abbrev pub FitsPlace : List ℕ → Place → ℤ → Type 0
FitsPlace widths (Slow place) z = InRange (slice_index_or widths place 0) z
FitsPlace widths (Fast number half cell) z = Unit {0}
FitsPlace widths Outside z = Unit {0}

-- the value at a place
abbrev pub value_at : List ℤ → Place → ℤ
value_at slow (Slow place) = slice_index_or slow place (pos 0)
value_at slow (Fast number half cell) = pos 0
value_at slow Outside = pos 0

-- each value that an action uses lies in the range of its type: what it loads and stores, in that of the memref's element; a
-- subscript, in that of `index`; an operand, in that of the operation's width
abbrev pub ValuesFit : List ℕ → Action → State → Type 0
ValuesFit widths (Loads r place) s = FitsPlace widths place (value_at s.slow place)
ValuesFit widths (Stores x place) s = FitsPlace widths place (read s.registers x)
ValuesFit widths (RawLoads r home sizes subscripts) s =
    FitsPlace widths (raw_place s.registers home sizes subscripts) (value_at s.slow (raw_place s.registers home sizes subscripts))
    × All (λ x. InRange 64 (read s.registers x)) subscripts
ValuesFit widths (RawStores x home sizes subscripts) s =
    FitsPlace widths (raw_place s.registers home sizes subscripts) (read s.registers x)
    × All (λ x. InRange 64 (read s.registers x)) subscripts
ValuesFit widths (Operates r op bits a b) s = InRange bits (read s.registers a) × InRange bits (read s.registers b)
ValuesFit widths (Converts r kind from to x) s = InRange from (read s.registers x)
ValuesFit widths a s = Unit {0}

-- ---- the law

pub record FitsTypes (m : Module) (memory : Image) : Type 0 where
  pub constants : ConstantsFit (nest m.body)
  pub values : Along (ValuesFit (slow_widths m.args)) (module_actions m memory.symbols) (first_state memory)

-- constants and, in every run from a memory that fits, all values that are used fit their types
abbrev pub ValidFitsTypes : Type 0
ValidFitsTypes = (m : Module) → IsValid m → plain_fault m ≡ None → (memory : Image) → Fits m memory → FitsTypes m memory
