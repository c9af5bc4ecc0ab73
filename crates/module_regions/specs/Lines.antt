-- The lines of regions: one for each loop at a depth and each memref that it accesses.
use Rattle.std.specs.Prelude.{◌≡◌, ℕ, suc, false, if◌then◌else◌, List, [], ◌∷◌, ◌++◌, map, codes, Some, None, Result, Ok, Err}
use Rattle.std.specs.Fmt.{decimal}
use Rattle.std.specs.List.{flat_map}
use Rattle.affine_ast.specs.declared.module.Arg.{Arg}
use Rattle.affine_ast.specs.declared.module.Module.{Module}
use Rattle.affine_ast.specs.declared.name.Name.{Name}
use Rattle.affine_ast.specs.Names.{same_name}
use Rattle.affine_ast.specs.Nest.{nest}
use Rattle.affine_ast.specs.PlainLimits.{plain_fault}
use Rattle.affine_ast.specs.Spelling.{name_text}
use Rattle.nest_domain.specs.Ways.{loop_names}
use Rattle.nest_domain.specs.Domains.{symbol_names}
use Rattle.nest_domain.specs.Boxes.{Dimension}
use Rattle.access_region.specs.Faults.{NoRegion, unplaced, coefficient, many_rows}
use Rattle.access_region.specs.Finding.{kind_sizes, region_in}
use Rattle.text_places.specs.Blocks.{Block, blocks, accessed}
use Rattle.region_texts.specs.Text.{box_text}
use Rattle.module_regions.specs.declared.fault.LinesFault.{LinesFault}
use Rattle.module_regions.specs.declared.fault.LinesFault.TheVariants.{Plain, Memory}

-- what is said of a memref at a loop: the number of the loop among those at its depth, its line, the memref, the names of the
-- variables round the loop, and the box that the loop touches at each turn, or why there is none
pub record RegionLine : Type 0 where
  pub block : ℕ
  pub line : ℕ
  pub memref : Name
  pub outer : List Name
  pub found : Result (List Dimension) NoRegion

-- the sizes of the argument with a name; none where it is no memref
unfoldable pub sizes_of : List Arg → Name → List ℕ
sizes_of [] m = []
sizes_of (arg ∷ args) m = if same_name arg.name m then kind_sizes arg.kind else sizes_of args m

-- its region there, neither moved outward nor widened
abbrev pub found_in : List Arg → Block → Name → Result (List Dimension) NoRegion
found_in args b m = region_in args b m (sizes_of args m) false

-- the variables round a loop: the index arguments, and then the loops
abbrev pub outer_in : List Arg → Block → List Name
outer_in args b = symbol_names args ++ loop_names b.way

abbrev pub line_of : List Arg → ℕ → Block → Name → RegionLine
line_of args number b m = record { block = number; line = b.line; memref = m; outer = outer_in args b; found = found_in args b m }

-- those of one loop, by the first accesses of the memrefs in it
unfoldable pub block_lines : List Arg → ℕ → Block → List RegionLine
block_lines args number b = map (line_of args number b) (accessed b.body [])

-- those of loops that are numbered from a number on
unfoldable pub lines_from : List Arg → ℕ → List Block → List RegionLine
lines_from args number [] = []
lines_from args number (b ∷ bs) = block_lines args number b ++ lines_from args (suc number) bs

-- the lines of a module for its loops with exactly so many loops round them
unfoldable pub region_lines : Module → ℕ → List RegionLine
region_lines m depth = lines_from m.args 0 (blocks depth (nest m.body) [])

-- ---- their text
abbrev pub cause_text : NoRegion → List ℕ
cause_text unplaced = codes "region"
cause_text coefficient = codes "coefficient"
cause_text many_rows = codes "rows"

abbrev pub found_text : List Name → Result (List Dimension) NoRegion → List ℕ
found_text names (Ok ds) = box_text names ds
found_text names (Err cause) = cause_text cause

unfoldable pub head_text : ℕ → ℕ → Name → List ℕ
head_text block line memref = codes "block " ++ (decimal block ++ (codes " line " ++ (decimal line ++ (codes " " ++ (name_text memref ++ codes ": ")))))

unfoldable pub line_text : RegionLine → List ℕ
line_text l = head_text l.block l.line l.memref ++ (found_text l.outer l.found ++ codes "\n")

unfoldable pub regions_text : Module → ℕ → List ℕ
regions_text m depth = flat_map line_text (region_lines m depth)

-- what a call answers: the text of the lines, or the line of the statement that breaks V13
abbrev pub Answers : {B : Type 0} → Module → ℕ → (B → List ℕ) → Result B LinesFault → Type 0
Answers m depth bytes (Ok text) = (plain_fault m ≡ None) × (bytes text ≡ regions_text m depth)
Answers m depth bytes (Err (Plain line)) = plain_fault m ≡ Some line
Answers m depth bytes (Err Memory) = Unit {0}
