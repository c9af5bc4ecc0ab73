use Rattle.transfer_records.proofs.records.load_races.Goals as goal

pub has_place-requires : goal.has_place-requires
has_place-requires c = c.requires c.loop-transfer.transfer-index _ c.loop-transfer-test.true
