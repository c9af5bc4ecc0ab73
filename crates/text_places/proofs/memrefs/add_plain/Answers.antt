use Rattle.std.proofs.Common.{map}
use Rattle.text_places.specs.Finding.{named}
use Rattle.text_places.proofs.Firsts.{no_memref_added}
use Rattle.text_places.proofs.memrefs.add_plain.Goals as goal

pub returns-in_default : goal.returns-in_default
returns-in_default c =
    no_memref_added c.args.what.now (map named c.args.out.now.items) c.in_default.not-Load c.in_default.not-Store c.in_default.not-RawLoad c.in_default.not-RawStore c.in_default.not-Dealloc c.in_default.not-Start c.in_default.not-Wait
