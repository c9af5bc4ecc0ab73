use Rattle.std.proofs.Common.{◌∙◌, [], ◌∷◌}
use Rattle.affine_rules.specs.contracts.scope.KeyPartialEq.TheImpl as impl
use Rattle.affine_rules.proofs.Keys.{scope_more, found_by, absent, take_before}
use Rattle.indexmap.proofs.CallerLemmas.{insert_entry-new}
use Rattle.affine_rules.proofs.scope.define.Goals as goal

pub returns-clause-scope : goal.returns-clause-scope
returns-clause-scope c =
    scope_more c.args.names.now.entries c.insert.new.self.entries c.args.name.now c.key_of.result c.args.binding c.key_of.ensures.text c.key_of.ensures.made c.requires
    (c.in_ok-insert.ensures.entries ∙ insert_entry-new impl.eq-value.it c.args.names.now c.key_of.result c.args.binding
    (found_by c.args.names.now.entries c.args.name.now c.key_of.result c.key_of.ensures.text c.key_of.ensures.made ∙ absent c.args.names.now.entries c.args.name.now c.requires))

pub returns-clause-kept : goal.returns-clause-kept
returns-clause-kept c =
    take_before c.args.names.now.entries ((c.key_of.result, c.args.binding) ∷ []) c.insert.new.self.entries
    (c.in_ok-insert.ensures.entries ∙ insert_entry-new impl.eq-value.it c.args.names.now c.key_of.result c.args.binding
    (found_by c.args.names.now.entries c.args.name.now c.key_of.result c.key_of.ensures.text c.key_of.ensures.made ∙ absent c.args.names.now.entries c.args.name.now c.requires))
