use Rattle.std.proofs.Common.{◌≡◌, drop, map}
use Rattle.nest_domain.specs.Ways.{has_name}
use Rattle.text_places.specs.Finding.{named}
use Rattle.text_places.proofs.memrefs.is_there.Given as goal

abbrev pub invariant-loop-other : goal.invariant-loop-other
invariant-loop-other l = has_name l.name (map named l.kept) ≡ has_name l.name (map named (drop l.other-index l.kept))
