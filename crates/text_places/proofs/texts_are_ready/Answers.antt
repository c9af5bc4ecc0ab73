use Rattle.text_places.proofs.Readiness.{texts_ready}
use Rattle.text_places.proofs.texts_are_ready.Goals as goal

pub returns : goal.returns
returns c = texts_ready
