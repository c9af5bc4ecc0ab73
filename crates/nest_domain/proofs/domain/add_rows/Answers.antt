use Rattle.std.proofs.Common.{rules, ◌≡◌, length, ap, ◌∙◌}
use Rattle.constraint_set.specs.Points.{LinearRow}
use Rattle.nest_domain.specs.Domains.{row_at}
use Rattle.nest_domain.proofs.Places.{row_wide}
use Rattle.nest_domain.proofs.domain.add_rows.Goals as goal

pub push-requires : goal.push-requires
push-requires c =
    let r : c.in_ok-row.row ≡ row_at c.vars.result c.form-item.result = search rules in
    ap (λ (x : LinearRow). length x.coefs) r ∙ row_wide c.vars.result c.form-item.result ∙ c.vars.ensures.vars
