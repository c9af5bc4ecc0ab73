-- The report of a plan: a line for each decision, in the order of the plan.
use Rattle.std.specs.Prelude.{ℕ, suc, ◌*◌, ◌^◌, ◌<◌, Bool, true, false, List, [], ◌∷◌, ◌++◌, Option, Some, None, slice_get, codes, unsigned_abs}
use Rattle.std.specs.Fmt.{decimal}
use Rattle.std.specs.List.{flat_map, All}
use Rattle.affine_ast.specs.declared.image.Path.{Path}
use Rattle.affine_ast.specs.declared.module.Arg.{Arg}
use Rattle.affine_ast.specs.declared.module.ArgKind.{ArgKind}
use Rattle.affine_ast.specs.declared.module.ArgKind.TheVariants as kind
use Rattle.affine_ast.specs.declared.module.Module.{Module}
use Rattle.affine_ast.specs.Nest.{Nest, nest}
use Rattle.affine_ast.specs.Sizes.{product}
use Rattle.affine_ast.specs.Spelling.{name_text}
use Rattle.direct_meaning.specs.Static.{element_bytes}
use Rattle.nest_domain.specs.declared.plan.Cause.{Cause}
use Rattle.nest_domain.specs.declared.plan.Cause.TheVariants as cause
use Rattle.nest_domain.specs.declared.plan.Decision.{Decision}
use Rattle.nest_domain.specs.declared.plan.Doubling.{Doubling}
use Rattle.nest_domain.specs.declared.plan.Doubling.TheVariants as doubling
use Rattle.nest_domain.specs.declared.plan.Outcome.{Outcome}
use Rattle.nest_domain.specs.declared.plan.Outcome.TheVariants as outcome
use Rattle.nest_domain.specs.Boxes.{Dimension}
use Rattle.nest_domain.specs.Ways.{Spot, at_path, loop_count}

-- ---- what a line speaks of
-- the name of the argument of a number
abbrev pub argument_text : Option Arg → List ℕ
argument_text (Some arg) = name_text arg.name
argument_text None = []

-- the bytes of an element of a memref argument; an index has none
abbrev pub kind_bytes : ArgKind → ℕ
kind_bytes (kind.Memref ty) = element_bytes ty.element
kind_bytes (kind.Index range) = 0

abbrev pub element_bytes_of : Option Arg → ℕ
element_bytes_of (Some arg) = kind_bytes arg.kind
element_bytes_of None = 0

-- the elements of a box
abbrev pub extents : List Dimension → List ℕ
extents [] = []
extents (d ∷ ds) = unsigned_abs d.extent ∷ extents ds

-- the loops round the statement that a path names, and 0 where it names none
abbrev pub loops_of : Option Spot → Option ℕ
loops_of (Some s) = Some (loop_count s.way)
loops_of None = None

abbrev pub one_more : Option ℕ → Option ℕ
one_more (Some k) = Some (suc k)
one_more None = None

abbrev pub or_none : Option ℕ → ℕ
or_none (Some k) = k
or_none None = 0

abbrev pub depth_at : Nest → Path → ℕ
depth_at n at = or_none (loops_of (at_path n at.steps))

-- ---- its text
abbrev pub cause_text : Cause → List ℕ
cause_text cause.Region = codes "region"
cause_text cause.Coefficient = codes "coefficient"
cause_text cause.Rows = codes "rows"
cause_text cause.Capacity = codes "capacity"
cause_text cause.Size = codes "size"
cause_text cause.Shape = codes "shape"
cause_text cause.Dependence = codes "dependence"

abbrev pub directions_text : Bool → Bool → List ℕ
directions_text true true = codes "in out"
directions_text true false = codes "in"
directions_text false true = codes "out"
directions_text false false = []

-- where doubling was asked for
unfoldable pub doubling_text : Doubling → List ℕ
doubling_text doubling.NotAsked = []
doubling_text doubling.Doubled = codes ", doubled"
doubling_text (doubling.Single c) = codes ", single, " ++ cause_text c

-- the bytes of one half, and how many loops stand round the placement's loop
unfoldable pub amount_text : ℕ → ℕ → List ℕ
amount_text bytes depth = codes "staged " ++ (decimal bytes ++ (codes " bytes at depth " ++ (decimal depth ++ codes ", ")))

unfoldable pub staged_text : ℕ → ℕ → Bool → Bool → Doubling → List ℕ
staged_text bytes depth reads writes d = amount_text bytes depth ++ (directions_text reads writes ++ doubling_text d)

unfoldable pub left_text : Cause → List ℕ
left_text c = codes "left, " ++ cause_text c

abbrev pub half_bytes : Option Arg → List Dimension → ℕ
half_bytes arg ds = product (extents ds) * element_bytes_of arg

unfoldable pub outcome_text : Module → Option Arg → Outcome → List ℕ
outcome_text m arg (outcome.Left c) = left_text c
outcome_text m arg (outcome.Staged at region reads writes d) = staged_text (half_bytes arg region) (depth_at (nest m.body) at) reads writes d

-- the block, its line and the memref
unfoldable pub subject_text : ℕ → ℕ → Option Arg → List ℕ
subject_text block line arg = codes "// block " ++ (decimal block ++ (codes " line " ++ (decimal line ++ (codes " " ++ (argument_text arg ++ codes ": ")))))

unfoldable pub decision_text : Module → Decision → List ℕ
decision_text m d =
    subject_text d.block d.line (slice_get m.args d.memref) ++ (outcome_text m (slice_get m.args d.memref) d.outcome ++ codes "\n")

abbrev pub report : Module → List Decision → List ℕ
report m decisions = flat_map (decision_text m) decisions

-- ---- what a report asks: the bytes of each box are a number of 64 bits
abbrev pub HasBytes : Option Arg → Outcome → Type 0
HasBytes arg (outcome.Left c) = Unit {0}
HasBytes arg (outcome.Staged at region reads writes d) = half_bytes arg region < 2 ^ 64

abbrev pub IsReportable : Module → List Decision → Type 0
IsReportable m decisions = All (λ (d : Decision). HasBytes (slice_get m.args d.memref) d.outcome) decisions
