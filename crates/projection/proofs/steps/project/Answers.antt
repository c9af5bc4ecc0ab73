use Rattle.std.proofs.Common.{arith, ◌≤◌, ◌∙◌, sym, ap, subst, Result, List}
use Rattle.constraint_set.specs.Points.{LinearSystem, LinearRow}
use Rattle.constraint_set.specs.Tidy.{tidied}
use Rattle.constraint_set.specs.Elimination.{Refusal}
use Rattle.projection.specs.Answers.{Meets}
use Rattle.projection.proofs.Stepping.{eliminated_over, eliminated_runs}
use Rattle.projection.proofs.steps.project.Goals as goal

pub returns-then-vars-gt-MOST_VARS-clause-value : goal.returns-then-vars-gt-MOST_VARS-clause-value
returns-then-vars-gt-MOST_VARS-clause-value c = eliminated_over c.args.system.now c.args.vars.now (let v = c.vars.ensures.vars in omega (arith, v))

pub step_each-requires : goal.step_each-requires
step_each-requires c =
    let v = ap (λ (s : LinearSystem). s.vars) c.in_ok-rows.ensures in
    let w = c.vars-2.ensures.vars in
    rw (v, w) c.requires

pub returns-clause-value : goal.returns-clause-value
returns-clause-value c =
    let low : c.args.system.now.vars ≤ 64 = (let v = c.vars.ensures.vars in omega (arith, v)) in
    let rows = ap (λ (s : LinearSystem). s.rows) c.in_ok-rows.ensures ∙ ap tidied c.rows.ensures.rows in
    subst (λ (w : Result (List LinearRow) Refusal). Meets w (λ (s : LinearSystem). s.rows) c.step_each.result) (sym (eliminated_runs c.args.system.now c.args.vars.now c.in_ok-rows.rows.rows low rows)) c.step_each.ensures.value
