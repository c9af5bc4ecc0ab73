-- What `stage` writes of a module: its stage is one, and its report has a line of comment for each memref of each block.
use Rattle.std.specs.Prelude.{◌≡◌, ℕ, ◌<◌, ◌^◌, List, length, map, All}
use Rattle.affine_ast.specs.declared.module.Arg.{Arg}
use Rattle.affine_ast.specs.declared.module.Module.{Module}
use Rattle.affine_ast.specs.Nest.{nest}
use Rattle.affine_grammar.specs.Spelling.{Spells}
use Rattle.nest_domain.specs.declared.plan.Decision.{Decision}
use Rattle.nest_domain.specs.declared.plan.Options.{Options}
use Rattle.plan_laws.specs.Plan.{Asked, argument_number, asked, plan}
use Rattle.plan_report.specs.Report.{report}
use Rattle.printed_texts.specs.Comments.{AreOnOneLine, comment_lines}
use Rattle.stage_laws.specs.Law.{IsStageOf}

-- a module has one stage
abbrev pub HasOneStage : Type 0
HasOneStage = (o : Options) (m q r : Module) → IsStageOf o m q → IsStageOf o m r → q ≡ r

-- of what a decision is: a memref, by its argument's number, in a block, by the block's number
abbrev pub decided_of : Decision → ℕ × ℕ
decided_of d = (d.block, d.memref)

abbrev pub asked_of : List Arg → Asked → ℕ × ℕ
asked_of args a = (a.block, argument_number args a.memref)

-- each memref that is accessed in a block has its decision, in the order of the blocks and of their accesses, and no other has one
abbrev pub DecidesAll : Options → Module → Type 0
DecidesAll o m = map decided_of (plan o m) ≡ map (asked_of m.args) (asked o m.args (nest m.body))

abbrev pub PlanIsComplete : Type 0
PlanIsComplete = (o : Options) (m : Module) → DecidesAll o m

-- a text that is lines of comments
pub record IsComments (text : List ℕ) : Type 0 where
  pub comments : List (List ℕ)
  pub each : All AreOnOneLine comments
  pub is : text ≡ comment_lines comments

-- the report of any decisions on a module that a text spells
abbrev pub ReportIsComments : Type 0
ReportIsComments = (source : List ℕ) (m : Module) (ds : List Decision) → length source < 2 ^ 64 → Spells source m → IsComments (report m ds)
