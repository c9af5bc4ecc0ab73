use Rattle.std.proofs.Common.{◌∙◌, ap}
use Rattle.std.specs.Option.{option_map}
use Rattle.affine_rules.specs.Scoped.{scope_of, binding_of}
use Rattle.affine_rules.proofs.Keys.{found_by}
use Rattle.affine_rules.proofs.scope.found.Goals as goal

pub returns : goal.returns
unfolding scope_of
returns c = ap (option_map binding_of) (c.get.ensures.value ∙ found_by c.args.names.now.entries c.args.name.now c.key_of.result c.key_of.ensures.text c.key_of.ensures.made)
