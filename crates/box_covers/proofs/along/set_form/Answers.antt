use Rattle.std.proofs.Common.{refl}
use Rattle.affine_rules.specs.contracts.scope.KeyPartialEq.TheImpl as impl
use Rattle.box_covers.proofs.Tables.{forms_set}
use Rattle.box_covers.proofs.along.set_form.Goals as goal

pub returns : goal.returns
returns c =
    forms_set impl.eq-value.it c.key_of.result c.args.name.now c.key_of.ensures.text c.key_of.ensures.made (λ j. refl) c.args.form c.args.forms.now.entries c.insert.new.self.entries c.in_ok-insert.ensures.entries
