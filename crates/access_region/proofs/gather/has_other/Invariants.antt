use Rattle.std.proofs.Common.{◌≡◌, map, drop}
use Rattle.text_places.specs.Finding.{seen}
use Rattle.access_region.specs.Regions.{has_other}
use Rattle.access_region.proofs.gather.has_other.Given as goal

abbrev pub invariant-loop-found : goal.invariant-loop-found
invariant-loop-found l = has_other (map seen l.uses) ≡ has_other (map seen (drop l.found-index l.uses))
