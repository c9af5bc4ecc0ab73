-- What is shown of the rings that are worked through.
use Rattle.std.specs.Prelude.{◌≡◌, ℕ, suc, ◌≤◌, ℤ, pos, List, [], ◌∷◌, length, Bool, true, false}
use Rattle.affine_ast.specs.Names.{same_name}
use Rattle.affine_ast.specs.declared.name.Name.{Name}
use Rattle.affine_ast.specs.declared.types.Element.TheVariants.{I32}
use Rattle.bus_model.specs.declared.step.Verdict.TheVariants as verdict
use Rattle.direct_meaning.specs.Action.{Action}
use Rattle.direct_meaning.specs.Direct.{folded, verdict_of, state_of}
use Rattle.prompt_semantics.specs.Device.{Device, bytes_of}
use Rattle.prompt_semantics.specs.Prompt.{prompt_step}
use Rattle.step_runs.specs.Steps.{first_list, second_list, behind}
use Rattle.step_runs.specs.Related.{Related, Ends}
use Rattle.ring_runs.specs.Ring.{IsRing}
use Rattle.ring_runs.specs.Facts.{starts_of}
use Rattle.ring_samples.specs.Example.{one_inward, no_outward, brought_ahead, turn_stage, turn_steps, begin_stage, example}
use Rattle.ring_samples.specs.Outward.{no_inward, one_outward, leaving, out_turn}
use Rattle.ring_samples.specs.Mixed.{two_inward, third_outward, ring_moves, mixed_stage, mixed_turn}
use Rattle.ring_samples.specs.Worked.{idle, four, sevens, twelve, copied, outward, mixed}

-- what a ring's law asks is met, for every number of buffers and of turns: by one placement that is copied in and out
abbrev pub CopiedIsRing : Type 0
CopiedIsRing = (large lead count : ℕ) (x : Name)
    → IsRing large (brought_ahead lead count x) one_inward no_outward lead count (turn_stage lead count x) (starts_of one_inward (λ i j. 1) 1) (turn_steps lead count x)

-- by one that is only copied out
abbrev pub OutwardIsRing : Type 0
OutwardIsRing = (large lead count : ℕ) (x : Name)
    → IsRing large (leaving lead count x) no_inward one_outward lead count (turn_stage lead count x) (starts_of no_inward (λ i j. 0) 1) (out_turn lead count x)

-- and by two that are copied in and one that is copied out, in one loop
abbrev pub MixedIsRing : Type 0
MixedIsRing = (large lead count : ℕ) (x y : Name)
    → IsRing large (ring_moves lead count x y) two_inward third_outward lead count (mixed_stage lead count x y) (starts_of two_inward (λ i j. 1) 2) (mixed_turn lead count x y)

-- both runs of the first one end alike, from every slow memory that has a place for each turn
abbrev pub CopiedRuns : Type 0
CopiedRuns = (large lead count : ℕ) (x : Name) (filler : ℤ) (small : ℕ) (d y : Device) → bytes_of I32 (suc lead ∷ 1 ∷ []) ≤ large
    → y.state.registers ≡ d.state.registers → y.state.slow ≡ d.state.slow → count ≤ length d.state.slow → d.outstanding ≡ [] → y.outstanding ≡ [] → y.live ≡ 0
    → Ends (Related (brought_ahead lead count x) (behind (example lead count x) (begin_stage lead count x)))
    (folded (prompt_step filler small) (first_list (brought_ahead lead count x) (example lead count x)) d)
    (folded (prompt_step filler large) (second_list (brought_ahead lead count x) (example lead count x)) y)

-- the run of these actions from this slow memory, at this capacity and with 99 for a filler, ends with that slow memory and peak
abbrev pub EndsIn : ℕ → List Action → List ℤ → List ℤ → ℕ → Type 0
EndsIn capacity actions before after peak = let o = folded (prompt_step (pos 99) capacity) actions (idle before) in
    (verdict_of o ≡ verdict.End) × ((state_of o).state.slow ≡ after) × ((state_of o).peak ≡ peak)

-- four turns of each, computed in both runs: rings of three, of two and of three buffers
pub record RingNumbers (x y : Name) : Type 0 where
  pub copied_single : EndsIn 4 (first_list (brought_ahead 2 4 x) (example 2 4 x)) four sevens 4
  pub copied_ring : EndsIn 12 (second_list (brought_ahead 2 4 x) (example 2 4 x)) four sevens 12
  pub outward_single : EndsIn 4 (first_list (leaving 1 4 x) (outward x)) four sevens 4
  pub outward_ring : EndsIn 8 (second_list (leaving 1 4 x) (outward x)) four sevens 8
  pub mixed_single : EndsIn 12 (first_list (ring_moves 2 4 x y) (mixed x y)) twelve copied 12
  pub mixed_ring : EndsIn 36 (second_list (ring_moves 2 4 x y) (mixed x y)) twelve copied 36

abbrev pub RingsAreWorked : Type 0
RingsAreWorked = (x y : Name) → same_name x x ≡ true → same_name y x ≡ false → RingNumbers x y
