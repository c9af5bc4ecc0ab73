use Rattle.std.proofs.Common.{◌≡◌, ◌^◌, true, refl, arith}
use Rattle.std.specs.Prelude.{nat_lt}
use Rattle.std.specs.List.{list_all, range_with_len}
use Rattle.bus_model.specs.declared.transfer.Transfer.{Transfer}
use Rattle.bus_model.specs.Places.{slow_place}
use Rattle.affine_rows.proofs.Carrying.{fits}
use Rattle.affine_rows.proofs.transfers.places_and_steps.Goals as goal

-- chunks of two begun five apart, from place 3 on
abbrev strided : Transfer
strided = record { incoming = true; tag = 0; memref = 0; base = 3; stride = 5; chunk = 2; count = 6; fast = 0; half = 0; offset = 1 }

near : list_all (λ e. nat_lt (slow_place strided e) (2 ^ 32)) (range_with_len 0 strided.count) ≡ true
unfolding slow_place
near = refl

pub meets-requires-clause-fits : goal.meets-requires-clause-fits
meets-requires-clause-fits g c = fits strided (2 ^ 32) near

pub meets-requires-2-clause-fits : goal.meets-requires-2-clause-fits
meets-requires-2-clause-fits g c = fits strided (2 ^ 32) near

pub slow-requires-clause-fits : goal.slow-requires-clause-fits
slow-requires-clause-fits g c = fits strided (2 ^ 32) near 5 (omega arith)
