use Rattle.std.proofs.Common.{rules, arith, to_z-of_z, ◌≡◌, ◌<◌, sym, subst, Ok, Result}
use Rattle.std.proofs.lemmas.Result.{err_from_is_err_and}
use Rattle.constraint_set.specs.Elimination.{Refusal}
use Rattle.constraint_set.specs.Reach.{Reach}
use Rattle.projection.specs.Answers.{Meets, IsRefused}
use Rattle.projection.specs.Reaches.{form_of, shape_of, value_rows}
use Rattle.projection.proofs.Exits.{reach_over, no_rows, no_last, is_never, is_between}
use Rattle.projection.proofs.reaching.find_reach.Goals as goal

pub returns-then-vars-ge-MOST_VARS : goal.returns-then-vars-ge-MOST_VARS
returns-then-vars-ge-MOST_VARS c = reach_over c.args.system.now (form_of c.args.coefs.now c.args.constant) (let v = c.vars.ensures.vars in omega (arith, v))

pub returns-in_err-rows : goal.returns-in_err-rows
returns-in_err-rows c =
    let few = let v = c.vars.ensures.vars in let x : c.args.system.now.vars < 64 = omega (arith, v) in x in
    let m : IsRefused (value_rows c.args.system.now (form_of c.args.coefs.now c.args.constant)) c.in_err-rows.field-0.0 = search (rules, to_z-of_z) in
    let p = err_from_is_err_and c.from_residual.result c.from_residual.ensures.1 in
    rw (p.1, p.2) (no_rows c.args.system.now (form_of c.args.coefs.now c.args.constant) few _ m)

pub returns-in_err-last : goal.returns-in_err-last
returns-in_err-last c =
    let few = let v = c.vars.ensures.vars in let x : c.args.system.now.vars < 64 = omega (arith, v) in x in
    let m : value_rows c.args.system.now (form_of c.args.coefs.now c.args.constant) ≡ Ok c.in_ok-rows.rows.rows = search (rules, to_z-of_z) in
    let p = err_from_is_err_and c.from_residual-in_err-last.result c.from_residual-in_err-last.ensures.1 in
    rw (p.1, p.2) (no_last c.args.system.now (form_of c.args.coefs.now c.args.constant) few c.in_ok-rows.rows.rows m _ c.in_err-last.ensures.value)

pub returns-then-is_negative : goal.returns-then-is_negative
returns-then-is_negative c =
    let few = let v = c.vars.ensures.vars in let x : c.args.system.now.vars < 64 = omega (arith, v) in x in
    let m : value_rows c.args.system.now (form_of c.args.coefs.now c.args.constant) ≡ Ok c.in_ok-rows.rows.rows = search (rules, to_z-of_z) in
    is_never c.args.system.now (form_of c.args.coefs.now c.args.constant) few c.in_ok-rows.rows.rows m c.in_ok-last.last.rows c.in_ok-last.ensures.value (sym c.if-is_negative.ensures)

pub returns : goal.returns
returns c =
    let few = let v = c.vars.ensures.vars in let x : c.args.system.now.vars < 64 = omega (arith, v) in x in
    let m : value_rows c.args.system.now (form_of c.args.coefs.now c.args.constant) ≡ Ok c.in_ok-rows.rows.rows = search (rules, to_z-of_z) in
    let same = is_between c.args.system.now (form_of c.args.coefs.now c.args.constant) few c.in_ok-rows.rows.rows m c.in_ok-last.last.rows c.in_ok-last.ensures.value (sym c.if-is_negative.ensures) in
    subst (λ (w : Result Reach Refusal). Meets w shape_of c.between.result) (sym same) c.between.ensures
