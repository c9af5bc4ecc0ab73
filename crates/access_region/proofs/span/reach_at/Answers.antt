use Rattle.std.proofs.Common.{rules}
use Rattle.std.proofs.lemmas.Int.{to_z-of_z}
use Rattle.std.proofs.lemmas.Result.{err_from_is_err_and}
use Rattle.access_region.proofs.Reaches.{no_reach, reached}
use Rattle.access_region.proofs.span.reach_at.Goals as goal

pub returns-in_err-reached : goal.returns-in_err-reached
returns-in_err-reached c =
    let p = err_from_is_err_and c.from_residual-in_err-reached.result c.from_residual-in_err-reached.ensures.1 in
    rw (p.1, p.2) (no_reach c.args.system.now c.args.form.now _ _ _ c.in_err-reached.ensures.value (search (rules, to_z-of_z)) (search (rules, to_z-of_z)))

pub returns : goal.returns
returns c = reached c.args.system.now c.args.form.now _ _ _ c.in_ok-reached.ensures.value (search (rules, to_z-of_z)) (search (rules, to_z-of_z))
