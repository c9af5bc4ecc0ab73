use Rattle.std.proofs.Common.{◌≡◌, drop, map}
use Rattle.text_places.specs.Finding.{seen}
use Rattle.staged_plans.specs.Plans.{has_store}
use Rattle.hoisted_sites.proofs.accesses.has_store.Given as goal

abbrev pub invariant-loop-found : goal.invariant-loop-found
invariant-loop-found l = has_store (map seen l.uses) ≡ has_store (map seen (drop l.found-index l.uses))
