use Rattle.text_places.proofs.Uses.{is_same}
use Rattle.text_places.proofs.plain.same.Goals as goal

pub returns : goal.returns
returns c = is_same c.is.result c.args.left.now c.args.right.now c.is.ensures
