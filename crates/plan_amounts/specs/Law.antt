-- The report of a plan can be written: the bytes of each box that it stages are a number of 64 bits.
use Rattle.affine_ast.specs.declared.module.Module.{Module}
use Rattle.affine_ast.specs.Validity.{IsValid}
use Rattle.nest_domain.specs.declared.plan.Options.{Options}
use Rattle.plan_report.specs.Report.{IsReportable}
use Rattle.plan_laws.specs.Plan.{plan}

-- the plan of a valid module, whatever the options
abbrev pub PlansAreReportable : Type 0
PlansAreReportable = (o : Options) (m : Module) → IsValid m → IsReportable m (plan o m)
