use Rattle.placement_lists.proofs.Lists.{lists_are}
use Rattle.placement_lists.proofs.lists_are_the_template.Goals as goal

pub returns : goal.returns
returns c = lists_are
