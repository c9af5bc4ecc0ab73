use Rattle.std.proofs.Common.{◌≡◌, map, drop}
use Rattle.text_places.specs.Finding.{seen}
use Rattle.access_region.specs.Faults.{after}
use Rattle.access_region.specs.Regions.{all_reaching}
use Rattle.access_region.proofs.gather.all_reaching.Given as goal

abbrev pub invariant-loop-found : goal.invariant-loop-found
invariant-loop-found l = all_reaching l.args (map seen l.uses) ≡ after l.all.items (all_reaching l.args (map seen (drop l.found-index l.uses)))
