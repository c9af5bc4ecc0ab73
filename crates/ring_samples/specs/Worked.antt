-- Rings of four turns: their lists of steps, and the slow memories before and behind them.
use Rattle.std.specs.Prelude.{ℤ, pos, List, [], ◌∷◌, ◌++◌}
use Rattle.affine_ast.specs.declared.name.Name.{Name}
use Rattle.affine_ast.specs.declared.types.Element.TheVariants.{I32}
use Rattle.direct_meaning.specs.Action.{Allocates, AllocatesTags, Releases, ReleasesTags}
use Rattle.prompt_semantics.specs.Device.{Device}
use Rattle.step_runs.specs.Steps.{Step, Made}
use Rattle.ring_runs.specs.Ring.{ring_loop}
use Rattle.ring_runs.specs.Facts.{starts_of}
use Rattle.ring_runs.specs.Lates.{turns_of, lates}
use Rattle.ring_samples.specs.Mixed.{two_inward, mixed_turn}
use Rattle.ring_samples.specs.Outward.{no_inward, out_turn}

-- a device with this slow memory, which has done nothing
abbrev pub idle : List ℤ → Device
idle slow = record { state = record { registers = λ n. pos 0; slow = slow }; halves = λ n h. []; live = 0; outstanding = []; actions = 0; engine_steps = 0; peak = 0 }

abbrev pub four : List ℤ
four = pos 1 ∷ pos 2 ∷ pos 3 ∷ pos 4 ∷ []

abbrev pub sevens : List ℤ
sevens = pos 7 ∷ pos 7 ∷ pos 7 ∷ pos 7 ∷ []

-- a ring of two for transfers that leave, four turns
abbrev pub outward : Name → List Step
outward x =
    Made (Allocates 0 I32 (2 ∷ 1 ∷ [])) ∷ Made (AllocatesTags 0 2) ∷ []
    ++ (ring_loop (starts_of no_inward (λ i j. 0) 1) (out_turn 1 4 x) 1 4 ++ (lates (turns_of 0 2 2) ++ Made (Releases 0 I32 (2 ∷ 1 ∷ [])) ∷ Made (ReleasesTags 0 2) ∷ []))

-- three placements, a ring of three, four turns: the third memref gets what the first holds
abbrev pub mixed : Name → Name → List Step
mixed x y =
    Made (Allocates 0 I32 (3 ∷ 1 ∷ [])) ∷ Made (AllocatesTags 0 3) ∷ Made (Allocates 1 I32 (3 ∷ 1 ∷ [])) ∷ Made (AllocatesTags 3 3) ∷ Made (Allocates 2 I32 (3 ∷ 1 ∷ [])) ∷ Made (AllocatesTags 6 3) ∷ []
    ++ (ring_loop (starts_of two_inward (λ i j. 1) 2) (mixed_turn 2 4 x y) 2 4
    ++ (lates (turns_of 2 3 1) ++ Made (Releases 2 I32 (3 ∷ 1 ∷ [])) ∷ Made (Releases 1 I32 (3 ∷ 1 ∷ [])) ∷ Made (Releases 0 I32 (3 ∷ 1 ∷ [])) ∷ Made (ReleasesTags 0 9) ∷ []))

abbrev pub twelve : List ℤ
twelve = four ++ (pos 5 ∷ pos 6 ∷ pos 7 ∷ pos 8 ∷ []) ++ (pos 0 ∷ pos 0 ∷ pos 0 ∷ pos 0 ∷ [])

abbrev pub copied : List ℤ
copied = four ++ (pos 5 ∷ pos 6 ∷ pos 7 ∷ pos 8 ∷ []) ++ four
