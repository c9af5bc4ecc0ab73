use Rattle.std.proofs.Common.{◌≡◌, drop}
use Rattle.prompt_semantics.specs.Device.{start_races}
use Rattle.transfer_records.proofs.records.start_races.Given as goal

-- what is left of the transfers tells it
abbrev pub invariant-loop-transfer : goal.invariant-loop-transfer
invariant-loop-transfer l = start_races l.outstanding l.start ≡ start_races (drop l.transfer-index l.outstanding) l.start
