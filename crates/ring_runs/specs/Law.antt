-- What is proved of a loop whose transfers go round a ring of buffers.
use Rattle.std.specs.Prelude.{◌≡◌, ℕ, suc, ◌+◌, ◌*◌, ◌<◌, ◌≤◌, ℤ, pos, ◌+ℤ◌, Bool, List, [], ◌++◌, flat_map}
use Rattle.bus_model.specs.declared.transfer.Transfer.{Transfer}
use Rattle.direct_meaning.specs.Turns.{turns}
use Rattle.direct_meaning.specs.Action.{Action}
use Rattle.direct_meaning.specs.Direct.{folded}
use Rattle.prompt_semantics.specs.Device.{Device}
use Rattle.prompt_semantics.specs.Prompt.{prompt_step}
use Rattle.loop_forms.specs.Split.{prologue_end, main_end, epilogue_begin}
use Rattle.loop_forms.specs.Stepped.{turn_total}
use Rattle.step_runs.specs.Stage.{Stage}
use Rattle.step_runs.specs.Steps.{Step, first_list, second_list}
use Rattle.step_runs.specs.Related.{Related, Ends}
use Rattle.ring_runs.specs.Ring.{none_out, window, IsRing}

-- a loop of single turns from a to b by s, and the three loops of a ring of `suc lead` places
abbrev pub RingAgrees : Type 0
RingAgrees = (ring : ℕ → ℕ → Transfer) (filler : ℤ) (small large : ℕ) (inward outward : ℕ → Bool) (lead : ℕ) (base : ℕ → Stage) (ahead turn : ℕ → List Step) (a b : ℤ) (s : ℕ)
    → (single starts main last : ℤ → List Action) → 1 ≤ s → 1 ≤ lead
    → IsRing large ring inward outward lead (turn_total a b s) base ahead turn
    → ((j : ℕ) → first_list ring (ahead j) ≡ [])
    → ((k : ℕ) → k < turn_total a b s → first_list ring (turn k) ≡ single (a +ℤ pos (k * s)))
    → ((j : ℕ) → j < lead → j < turn_total a b s → second_list ring (ahead j) ≡ starts (a +ℤ pos (j * s)))
    → ((k : ℕ) → k + lead < turn_total a b s → second_list ring (ahead (k + lead)) ++ second_list ring (turn k) ≡ main (a +ℤ pos (k * s)))
    → ((k : ℕ) → turn_total a b s ≤ k + lead → k < turn_total a b s → second_list ring (turn k) ≡ last (a +ℤ pos (k * s)))
    → (d y : Device) → Related ring (record (base 0) { out = none_out }) d y
    → Ends (Related ring (record (base (turn_total a b s)) { out = window inward outward (suc lead) (turn_total a b s) (turn_total a b s) }))
    (folded (prompt_step filler small) (flat_map single (turns a b (pos s))) d)
    (folded (prompt_step filler large) (flat_map starts (turns a (prologue_end a b (pos s) (suc lead)) (pos s)) ++ (flat_map main (turns a (main_end b (pos s) (suc lead)) (pos s)) ++ flat_map last (turns (epilogue_begin a b (pos s) (suc lead)) b (pos s)))) y)
