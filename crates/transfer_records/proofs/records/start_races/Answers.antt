use Rattle.transfer_records.proofs.records.start_races.Goals as goal

pub overlap-requires-clause-one : goal.overlap-requires-clause-one
overlap-requires-clause-one c = c.requires.outstanding c.loop-transfer.transfer-index _ c.loop-transfer-test.true
