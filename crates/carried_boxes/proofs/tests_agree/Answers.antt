use Rattle.carried_boxes.proofs.Shapes.{tests_agree}
use Rattle.carried_boxes.proofs.tests_agree.Goals as goal

pub returns : goal.returns
returns c = tests_agree
