use Rattle.std.proofs.Common.{sym, subst, false}
use Rattle.std.specs.Prelude.{IfOk}
use Rattle.affine_ast.specs.Nest.{nest}
use Rattle.nest_domain.specs.Steps.{header_of}
use Rattle.nest_domain.specs.Used.{TakesIn}
use Rattle.nest_domain.proofs.Using.{round_taken, given_taken, except_taken, past_taken}
use Rattle.nest_domain.proofs.used.take_step.Goals as goal

pub returns-in_ok-take_bounds-in-Round : goal.returns-in_ok-take_bounds-in-Round
returns-in_ok-take_bounds-in-Round c =
    let old = c.args.used.now.keys in
    let new = c.take_bounds.new.used.keys in
    subst (λ s. TakesIn (header_of s) false old new) (sym c.in-Round.is) (round_taken c.in-Round.var.now c.in-Round.lower.now c.in-Round.upper.now c.in-Round.step old new c.in_ok-take_bounds-in-Round.ensures)

pub returns-in_ok-add_names-in-Given : goal.returns-in_ok-add_names-in-Given
returns-in_ok-add_names-in-Given c =
    let old = c.args.used.now.keys in
    let new = c.add_names.new.used.keys in
    subst (λ s. TakesIn (header_of s) false old new) (sym c.in-Given.is) (given_taken c.in-Given.set.now c.in-Given.operands.now old new c.in_ok-add_names-in-Given.ensures)

pub returns-in-Except : goal.returns-in-Except
returns-in-Except c =
    let old = c.args.used.now.keys in
    subst (λ s. TakesIn (header_of s) false old old) (sym c.in-Except.is) (except_taken c.in-Except.set.now c.in-Except.operands.now (nest c.in-Except.first.now) old)

pub returns-in-Behind : goal.returns-in-Behind
returns-in-Behind c = subst (λ s. IfOk c.take_plain.result (λ needed. TakesIn (header_of s) needed c.args.used.now.keys c.take_plain.new.used.keys)) (sym c.in-Behind.is) c.take_plain.ensures

pub returns-in-Past : goal.returns-in-Past
returns-in-Past c =
    let old = c.args.used.now.keys in
    subst (λ s. TakesIn (header_of s) false old old) (sym c.in-Past.is) (past_taken (nest c.in-Past.body.now) old)
