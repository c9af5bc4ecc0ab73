use Rattle.walk_program.proofs.Parts.{stride_arm, stride-Some}
use Rattle.walk_program.proofs.numbering.Numbering.stride.Goals as goal

pub returns-in_ok-chunk-in-Some : goal.returns-in_ok-chunk-in-Some
returns-in_ok-chunk-in-Some c = stride_arm _ c.args.stride.now _ c.args.self.now c.number-in-Some.new.self c.in-Some.is (stride-Some c.in_ok-stride-in-Some.ensures c.in_ok-chunk-in-Some.ensures)
