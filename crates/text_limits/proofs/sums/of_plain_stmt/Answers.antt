use Rattle.std.proofs.Common.{refl}
use Rattle.affine_ast.specs.Nest.{plain_of}
use Rattle.text_limits.proofs.Heads.{plain_sums}
use Rattle.text_limits.proofs.sums.of_plain_stmt.Goals as goal

pub returns : goal.returns
returns c = plain_sums c.args.round.loops c.args.round.ifs (plain_of c.args.what.now) c.of_plain.result c.allocated.result c.tags_allocated.result c.head-head.result _ c.of_plain.ensures c.allocated.ensures c.tags_allocated.ensures c.head-head.ensures refl
