use Rattle.std.proofs.Common.{◌≡◌, ◌++◌, drop, false}
use Rattle.region_texts.specs.Text.{place_from}
use Rattle.region_texts.proofs.text.put_place.Given as goal

abbrev pub invariant-loop-place : goal.invariant-loop-place
invariant-loop-place l = l.out.items ++ place_from l.begun (drop l.place l.names) (drop l.place l.coefs) l.constant ≡ l.initial.out.items ++ place_from false l.names l.coefs l.constant
