use Rattle.std.proofs.Common.{◌≡◌, drop}
use Rattle.prompt_semantics.specs.Device.{store_races}
use Rattle.transfer_records.proofs.records.store_races.Given as goal

-- what is left of the transfers tells it
abbrev pub invariant-loop-transfer : goal.invariant-loop-transfer
invariant-loop-transfer l = store_races l.outstanding l.place ≡ store_races (drop l.transfer-index l.outstanding) l.place
