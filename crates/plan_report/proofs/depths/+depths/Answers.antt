use Rattle.std.proofs.Common.{◌+◌, ◌∙◌, sym, ap, drop}
use Rattle.affine_ast.specs.declared.stmt.What as what
use Rattle.affine_ast.specs.Nest.{nest, put_what}
use Rattle.nest_domain.specs.Ways.{spot}
use Rattle.plan_report.specs.Report.{loops_of, one_more}
use Rattle.plan_report.proofs.Rounds.{at_position, no_position, ends_here, in_loop, no_else_of_loop, in_first, in_other, no_other, no_region}
use Rattle.plan_report.proofs.depths.+depths.Goals as goal

pub depth_from-returns-in-None-clause-depth : goal.depth_from-returns-in-None-clause-depth
depth_from-returns-in-None-clause-depth t c = sym (no_position c.args.stmts.now c.args.position c.args.steps.now c.in-None.ensures.lookup.3)

pub depth_from-returns-in-Some-clause-depth : goal.depth_from-returns-in-Some-clause-depth
depth_from-returns-in-Some-clause-depth t c =
    c.depth_in.ensures.depth (nest (drop (c.args.position + 1) c.args.stmts.now))
    ∙ sym (at_position c.args.stmts.now c.args.position c.in-Some.stmt.now c.args.steps.now c.in-Some.ensures.lookup.3.0 c.in-Some.ensures.lookup.1)

pub depth_in-returns-in-None-clause-depth : goal.depth_in-returns-in-None-clause-depth
depth_in-returns-in-None-clause-depth t c = λ rest. ends_here c.args.stmt.now.line c.args.stmt.now.what rest c.args.steps.now c.in-None.ensures.cases

pub depth_in-returns-in-Some-clause-depth : goal.depth_in-returns-in-Some-clause-depth
depth_in-returns-in-Some-clause-depth t c = λ rest.
    c.depth_below.ensures.depth rest ∙ ap (λ steps. loops_of (spot (put_what c.args.stmt.now.what c.args.stmt.now.line rest) 0 steps)) (sym c.in-Some.ensures.cases.0)

pub depth_below-returns-then-is_other-clause-depth : goal.depth_below-returns-then-is_other-clause-depth
depth_below-returns-then-is_other-clause-depth t c = λ rest.
    sym (no_else_of_loop c.args.stmt.now.line rest c.args.stmt.now.what c.in-For.var c.in-For.lower c.in-For.upper c.in-For.step c.in-For.body c.args.position c.args.is_other c.args.steps.now c.in-For.is c.if-is_other.true)

pub depth_below-returns-else-is_other-clause-depth : goal.depth_below-returns-else-is_other-clause-depth
depth_below-returns-else-is_other-clause-depth t c = λ rest.
    c.deeper.ensures.depth ∙ ap one_more c.depth_from.ensures.depth
    ∙ sym (in_loop c.args.stmt.now.line rest c.args.stmt.now.what c.in-For.var c.in-For.lower c.in-For.upper c.in-For.step c.in-For.body c.as_slice.result.now c.args.position c.args.is_other c.args.steps.now c.in-For.is c.as_slice.ensures c.if-is_other.false)

pub depth_below-returns-in_default-clause-depth : goal.depth_below-returns-in_default-clause-depth
depth_below-returns-in_default-clause-depth t c = λ rest.
    sym (no_region c.args.stmt.now.line rest c.args.stmt.now.what (c.args.position, c.args.is_other) c.args.steps.now c.in_default.not-For c.in_default.not-If)

pub depth_below-returns-then-not-is_other-clause-depth : goal.depth_below-returns-then-not-is_other-clause-depth
depth_below-returns-then-not-is_other-clause-depth t c = λ rest.
    c.depth_from-then-not-is_other.ensures.depth
    ∙ sym (in_first c.args.stmt.now.line rest c.args.stmt.now.what c.in-If.set c.in-If.operands c.in-If.first c.in-If.other c.as_slice-then-not-is_other.result.now c.args.position c.args.is_other c.args.steps.now c.in-If.is c.as_slice-then-not-is_other.ensures c.if-not-is_other.true)

pub depth_below-returns-in-None-clause-depth : goal.depth_below-returns-in-None-clause-depth
depth_below-returns-in-None-clause-depth t c = λ rest.
    sym (no_other c.args.stmt.now.line rest c.args.stmt.now.what c.in-If.set c.in-If.operands c.in-If.first c.args.position c.args.is_other c.args.steps.now (c.in-If.is ∙ ap (what.If c.in-If.set c.in-If.operands c.in-If.first) c.in-None.is) c.if-not-is_other.false)

pub depth_below-returns-in-Some-clause-depth : goal.depth_below-returns-in-Some-clause-depth
depth_below-returns-in-Some-clause-depth t c = λ rest.
    c.depth_from-in-Some.ensures.depth
    ∙ sym (in_other c.args.stmt.now.line rest c.args.stmt.now.what c.in-If.set c.in-If.operands c.in-If.first c.in-Some.other c.as_slice-in-Some.result.now c.args.position c.args.is_other c.args.steps.now (c.in-If.is ∙ ap (what.If c.in-If.set c.in-If.operands c.in-If.first) c.in-Some.is) c.as_slice-in-Some.ensures c.if-not-is_other.false)
