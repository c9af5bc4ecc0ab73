use Rattle.std.proofs.Common.{arith, ◌∙◌, ap}
use Rattle.std.proofs.lemmas.Result.{err_from_is_err_and}
use Rattle.constraint_set.specs.Elimination.{countdown}
use Rattle.constraint_set.proofs.Emptiness.{emptiness_tells, countdown_within}
use Rattle.projection.proofs.Counting.{emptiness_over, emptiness_stops, emptiness_ends}
use Rattle.projection.proofs.reaching.is_empty.Goals as goal

pub returns-then-vars-gt-MOST_VARS-clause-value : goal.returns-then-vars-gt-MOST_VARS-clause-value
returns-then-vars-gt-MOST_VARS-clause-value c = emptiness_over c.args.system.now (let v = c.vars-vars.ensures.vars in omega (arith, v))

pub project-requires : goal.project-requires
project-requires c =
    let all = c.deref.ensures.value ∙ c.in_ok-all.ensures ∙ ap countdown c.vars-vars.ensures.vars in
    rw all (countdown_within c.args.system.now.vars c.args.system.now.vars (omega arith))

pub returns-in_err-rows-clause-value : goal.returns-in_err-rows-clause-value
returns-in_err-rows-clause-value c =
    let all = c.deref.ensures.value ∙ c.in_ok-all.ensures ∙ ap countdown c.vars-vars.ensures.vars in
    let p = err_from_is_err_and c.from_residual-in_err-rows.result c.from_residual-in_err-rows.ensures.1 in
    rw (p.1, p.2) (emptiness_stops c.args.system.now c.deref.result.now _ all c.in_err-rows.ensures.value)

pub returns-clause-value : goal.returns-clause-value
returns-clause-value c =
    let all = c.deref.ensures.value ∙ c.in_ok-all.ensures ∙ ap countdown c.vars-vars.ensures.vars in
    rw c.is_negative.ensures (emptiness_ends c.args.system.now c.deref.result.now c.in_ok-rows.rows.rows all c.in_ok-rows.ensures.value)

pub returns-clause-tells : goal.returns-clause-tells
returns-clause-tells c = emptiness_tells c.args.system.now c.is_negative.result c.vars-vars.ensures.wide (returns-clause-value c)
