use Rattle.std.proofs.Common.{◌≡◌}
use Rattle.bus_model.specs.Copies.{first_out}
use Rattle.prompt_meaning.specs.Memrefs.{halves_at}
use Rattle.prompt_meaning.proofs.device.copy_out.Given as goal

abbrev pub invariant-loop-element : goal.invariant-loop-element
invariant-loop-element l = l.slow ≡ first_out l.transfer (halves_at l.fasts l.transfer.fast l.transfer.half) l.element l.initial.slow
