use Rattle.std.proofs.Common.{rules, subst, Err, w64, SFits}
use Rattle.std.proofs.lemmas.Int.{to_z-of_z}
use Rattle.std.proofs.lemmas.Result.{err_from_is_err_and}
use Rattle.affine_expr.specs.Linear.{Meets}
use Rattle.nest_domain.specs.Domains.{upper_rows}
use Rattle.nest_domain.proofs.Taking.{Rows, rows_refused}
use Rattle.nest_domain.proofs.loop_body.with_upper_rows.Goals as goal

pub returns-in_err-above : goal.returns-in_err-above
returns-in_err-above c =
    let f : SFits w64 c.args.step = search rules in
    let m =
    subst (λ z. Meets {B = Rows} (upper_rows c.args.lowers.now z c.args.variable.now c.args.uppers.now) (λ (v : Rows). v.items) (Err c.in_err-above.field-0.0)) (to_z-of_z w64 c.args.step f) c.in_err-above.ensures
    in
    let p = err_from_is_err_and c.from_residual.result c.from_residual.ensures.1 in
    rw (p.1, p.2) (rows_refused (upper_rows c.args.lowers.now c.args.step c.args.variable.now c.args.uppers.now) c.args.rows.items c.in_err-above.field-0.0 m)
