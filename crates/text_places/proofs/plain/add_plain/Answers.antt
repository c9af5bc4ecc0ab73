use Rattle.std.proofs.Common.{map}
use Rattle.nest_domain.specs.Steps.{header_of}
use Rattle.text_places.proofs.Uses.{nothing_else_added}
use Rattle.text_places.proofs.plain.add_plain.Goals as goal

pub returns-in_default : goal.returns-in_default
returns-in_default c =
    nothing_else_added c.args.what.now c.args.memref.now (map header_of c.args.way.now) c.args.out.now.items c.in_default.not-Load c.in_default.not-Store c.in_default.not-RawLoad c.in_default.not-RawStore c.in_default.not-Dealloc
    c.in_default.not-Start c.in_default.not-Wait
