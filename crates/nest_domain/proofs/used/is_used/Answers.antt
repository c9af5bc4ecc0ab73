use Rattle.std.proofs.Common.{◌∙◌}
use Rattle.affine_rules.proofs.Keys.{listed_by}
use Rattle.nest_domain.proofs.used.is_used.Goals as goal

pub returns : goal.returns
returns c = c.contains.ensures ∙ listed_by c.args.used.now.keys c.args.name.now c.key_of.result c.key_of.ensures.text c.key_of.ensures.made
