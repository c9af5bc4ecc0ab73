use Rattle.std.proofs.Common.{◌≡◌, take}
use Rattle.std.specs.List.{flat_map}
use Rattle.plan_report.specs.Report.{decision_text}
use Rattle.plan_report.proofs.lines.report.Given as goal

abbrev pub invariant-loop-decision : goal.invariant-loop-decision
invariant-loop-decision l = l.out.items ≡ flat_map (decision_text l.«module») (take l.decision-index l.plan.decisions.items)
