use Rattle.std.proofs.Common.{rules, to_z-of_z, ◌≡◌, ◌∙◌, Ok, FitsSigned}
use Rattle.std.specs.Int.{w128}
use Rattle.std.proofs.lemmas.Result.{err_from_is_err_and}
use Rattle.constraint_set.specs.Elimination.{raising, lowering}
use Rattle.projection.specs.Reaches.{tightest_of}
use Rattle.projection.specs.declared.bounds.End.TheVariants.{Least, Greatest}
use Rattle.projection.proofs.Stepping.{in_range, raises, low_in_range, lowers}
use Rattle.projection.proofs.Exits.{no_least, no_greatest, both_there}
use Rattle.projection.proofs.reaching.between.Goals as goal

pub tightest-requires-clause-named : goal.tightest-requires-clause-named
tightest-requires-clause-named c =
    let u : c.deref.result.now ≡ raising 0 c.args.rows.now.rows = c.deref.ensures.value ∙ c.in_ok-raising.ensures.rows in
    rw u (in_range 0 c.args.rows.now.vars c.args.rows.now.rows c.requires c.rows_on.ensures.wide)

pub tightest-requires-clause-sign : goal.tightest-requires-clause-sign
tightest-requires-clause-sign c =
    let u : c.deref.result.now ≡ raising 0 c.args.rows.now.rows = c.deref.ensures.value ∙ c.in_ok-raising.ensures.rows in
    rw u (raises 0 c.args.rows.now.vars c.args.rows.now.rows c.requires c.rows_on.ensures.wide)

pub returns-in_err-least : goal.returns-in_err-least
returns-in_err-least c =
    let p = err_from_is_err_and c.from_residual-in_err-least.result c.from_residual-in_err-least.ensures.1 in
    rw (p.1, p.2) (no_least c.args.rows.now.rows c.deref.result.now c.deref.result.now (c.deref.ensures.value ∙ c.in_ok-raising.ensures.rows) _ c.in_err-least.ensures)

pub tightest-requires-2-clause-named : goal.tightest-requires-2-clause-named
tightest-requires-2-clause-named c =
    let d : c.deref-2.result.now ≡ lowering 0 c.args.rows.now.rows = c.deref-2.ensures.value ∙ c.in_ok-lowering.ensures.rows in
    rw d (low_in_range 0 c.args.rows.now.vars c.args.rows.now.rows c.requires c.rows_on.ensures.wide)

pub tightest-requires-2-clause-sign : goal.tightest-requires-2-clause-sign
tightest-requires-2-clause-sign c =
    let d : c.deref-2.result.now ≡ lowering 0 c.args.rows.now.rows = c.deref-2.ensures.value ∙ c.in_ok-lowering.ensures.rows in
    rw d (lowers 0 c.args.rows.now.vars c.args.rows.now.rows c.requires c.rows_on.ensures.wide)

pub returns-in_err-greatest : goal.returns-in_err-greatest
returns-in_err-greatest c =
    let p = err_from_is_err_and c.from_residual-in_err-greatest.result c.from_residual-in_err-greatest.ensures.1 in
    rw (p.1, p.2) (no_greatest c.args.rows.now.rows c.deref.result.now c.deref-2.result.now (c.deref.ensures.value ∙ c.in_ok-raising.ensures.rows) (c.deref-2.ensures.value ∙ c.in_ok-lowering.ensures.rows) _ _ c.in_ok-least.ensures c.in_err-greatest.ensures)

pub returns : goal.returns
returns c =
    let l : tightest_of Least c.deref.result.now ≡ Ok c.in_ok-least.least = c.in_ok-least.ensures in
    let g : tightest_of Greatest c.deref-2.result.now ≡ Ok c.in_ok-greatest.greatest = c.in_ok-greatest.ensures in
    let fl : FitsSigned w128 c.in_ok-least.least = search rules in
    let fg : FitsSigned w128 c.in_ok-greatest.greatest = search rules in
    simp to_z-of_z (both_there c.args.rows.now.rows c.deref.result.now c.deref-2.result.now (c.deref.ensures.value ∙ c.in_ok-raising.ensures.rows) (c.deref-2.ensures.value ∙ c.in_ok-lowering.ensures.rows) _ _ l g)
