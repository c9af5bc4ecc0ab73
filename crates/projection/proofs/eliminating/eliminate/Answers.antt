use Rattle.std.proofs.Common.{◌≡◌, ◌∙◌, sym, subst, pos}
use Rattle.constraint_set.specs.Lists.{Each}
use Rattle.constraint_set.specs.Points.{LinearSystem, coef}
use Rattle.constraint_set.specs.Projection.{Projects, Lifts}
use Rattle.constraint_set.proofs.Eliminating.{eliminated_steps, points_project, points_lift}
use Rattle.constraint_set.proofs.Gone.{vars_gone}
use Rattle.projection.proofs.Stepping.{as_system}
use Rattle.projection.proofs.eliminating.eliminate.Goals as goal

pub returns-clause-gone : goal.returns-clause-gone
returns-clause-gone c =
    let s = c.args.system.now in
    let run = eliminated_steps s c.args.vars.now c.in_ok-rows.rows.rows c.in_ok-rows.ensures.value in
    let gone = vars_gone s.vars c.args.vars.now s.rows c.in_ok-rows.rows.rows c.vars-wide.ensures.wide run in
    subst (λ (out : LinearSystem). Each (λ k. Each (λ r. coef k r ≡ pos 0) out.rows) c.args.vars.now) (sym c.in_ok-out.ensures) gone

pub returns-clause-projects : goal.returns-clause-projects
returns-clause-projects c =
    let s = c.args.system.now in
    let run = eliminated_steps s c.args.vars.now c.in_ok-rows.rows.rows c.in_ok-rows.ensures.value in
    let law = points_project s.vars c.args.vars.now s.rows c.in_ok-rows.rows.rows c.requires c.vars-wide.ensures.wide run in
    subst (λ (out : LinearSystem). Projects c.args.vars.now s out) (as_system c.in_ok-rows.rows s.vars c.in_ok-rows.ensures.vars ∙ sym c.in_ok-out.ensures) law

pub returns-clause-lifts : goal.returns-clause-lifts
returns-clause-lifts c =
    let s = c.args.system.now in
    let run = eliminated_steps s c.args.vars.now c.in_ok-rows.rows.rows c.in_ok-rows.ensures.value in
    let law = points_lift s.vars c.args.vars.now s.rows c.in_ok-rows.rows.rows c.requires c.vars-wide.ensures.wide run in
    subst (λ (out : LinearSystem). Lifts c.args.vars.now s out) (as_system c.in_ok-rows.rows s.vars c.in_ok-rows.ensures.vars ∙ sym c.in_ok-out.ensures) law
