use Rattle.std.proofs.Common.{rules, ◌≡◌, ap, subst, ◌∙◌}
use Rattle.affine_expr.specs.Linear.{Meets, number_form, minus}
use Rattle.nest_domain.proofs.Divisions.{top_of}
use Rattle.nest_domain.proofs.rows.taken_from.Goals as goal
use Rattle.std.proofs.Common.{length}

pub returns : goal.returns
returns c =
    let e : c.in_ok-top.top ≡ number_form (length c.args.form.now.coefs) c.args.number = search rules in
    subst (λ w. Meets w (λ f. f) c.minus.result) (ap (λ t. minus t c.args.form.now) e ∙ top_of c.args.form.now c.args.number) c.minus.ensures
