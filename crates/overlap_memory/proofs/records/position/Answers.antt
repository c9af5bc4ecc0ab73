use Rattle.std.proofs.Common.{◌∙◌}
use Rattle.std.proofs.lemmas.Option.{slice_get-get_or}
use Rattle.overlap_memory.proofs.records.position.Goals as goal

pub returns-in-None : goal.returns-in-None
returns-in-None c = c.in-None.ensures.1

pub returns-in-Some : goal.returns-in-Some
returns-in-Some c = let f = c.in-Some.ensures in (f.1, f.2 ∙ slice_get-get_or c.args.records.now c.in-Some.place _ f.1, f.3)
