use Rattle.std.proofs.Common.{sym, ap, subst, Option, None, Some}
use Rattle.affine_expr.specs.Forms.{Form}
use Rattle.affine_expr.specs.Linear.{Meets, or_wide}
use Rattle.nest_domain.proofs.Tables.{form_found}
use Rattle.nest_domain.proofs.table.form_of.Goals as goal

pub returns-in-None : goal.returns-in-None
returns-in-None c = ap or_wide (sym (form_found c.key_of.result c.args.name.now None c.args.forms.now.entries c.key_of.ensures.text c.key_of.ensures.made c.in-None.ensures.value))

pub returns-in-Some : goal.returns-in-Some
returns-in-Some c =
    let e = form_found c.key_of.result c.args.name.now (Some c.in-Some.form.now) c.args.forms.now.entries c.key_of.ensures.text c.key_of.ensures.made c.in-Some.ensures.value in
    subst (λ (o : Option Form). Meets (or_wide o) (λ f. f) c.kept.result) e c.kept.ensures
