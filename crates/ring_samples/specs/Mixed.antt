-- Three placements in one loop: two are copied in, from the slow places k and `count + k`, one is copied out, to the slow
-- place `2 count + k`. Turn k works on all three.
use Rattle.std.specs.Prelude.{ℕ, suc, ◌+◌, ◌*◌, Bool, false, ◌&&◌, List, [], ◌∷◌, ◌++◌, None, nat_eq, nat_lt}
use Rattle.affine_ast.specs.declared.name.Name.{Name}
use Rattle.affine_ast.specs.declared.types.Element.TheVariants.{I32}
use Rattle.bus_model.specs.declared.transfer.Transfer.{Transfer}
use Rattle.prompt_semantics.specs.Device.{bytes_of}
use Rattle.direct_meaning.specs.Action.{Place, Slow, Fast, Outside, Register, Action, Loads, Stores}
use Rattle.step_runs.specs.Stage.{Stage}
use Rattle.step_runs.specs.Steps.{Step, Leaves, Becomes}
use Rattle.step_runs.specs.Plain.{boths}
use Rattle.ring_runs.specs.Template.{Opening, opened, opened_out, closed}
use Rattle.ring_samples.specs.Example.{one_cell, place_of_turn}

abbrev pub two_inward : ℕ → Bool
two_inward i = nat_lt i 2

abbrev pub third_outward : ℕ → Bool
third_outward i = nat_eq i 2

module _ (lead count : ℕ) (x y : Name) where
  -- the transfer of placement i in turn k, with one buffer
  abbrev pub moves : ℕ → ℕ → Transfer
  moves i k = record { incoming = two_inward i; tag = i; memref = i; base = i * count + k; stride = 1; chunk = 1; count = 1; fast = i; half = 0; offset = 0 }

  abbrev pub ring_moves : ℕ → ℕ → Transfer
  ring_moves i j = record (moves i j) { tag = i * suc lead + place_of_turn lead count x j; half = place_of_turn lead count x j }

  abbrev pub three_slow : Place → Bool
  three_slow (Slow p) = nat_lt p (count + count + count)
  three_slow (Fast n h c) = false
  three_slow Outside = false

  abbrev pub three_made : Place → Bool
  three_made (Fast n h c) = nat_lt n 3 && nat_lt c 1
  three_made (Slow p) = false
  three_made Outside = false

  abbrev pub mixed_stage : ℕ → Stage
  mixed_stage k = record {
    lives = λ p. None;
    half = λ n h. record { number = n; half = place_of_turn lead count x k };
    fast = λ n. n;
    tag = λ g. g * suc lead + place_of_turn lead count x k;
    there = three_slow;
    agrees = three_slow;
    fresh = λ p. false;
    made = three_made;
    live = 3 * bytes_of I32 (suc lead ∷ 1 ∷ []);
    first = [];
    out = λ i j. false;
  }

  abbrev pub mixed_work : List Action
  mixed_work = Loads x (Fast 0 0 0) ∷ Loads y (Fast 1 0 0) ∷ Stores (Register x) (Fast 2 0 0) ∷ []

  abbrev pub opening : ℕ → ℕ → Opening
  opening i k = record { index = i; brings = moves i k; element = I32; sizes = one_cell; pads = 0 }

  abbrev pub mixed_turn : ℕ → List Step
  mixed_turn k =
      (opened 0 k (moves 0 k) I32 one_cell 0 ++ (opened 1 k (moves 1 k) I32 one_cell 0 ++ []))
      ++ (opened_out (suc lead) 2 k (moves 2 k) I32 one_cell 0
      ++ (boths (mixed_stage k) mixed_work
      ++ (Leaves 2 k (moves 2 k) ∷ []
      ++ (closed (moves 2 k) I32 one_cell ++ (closed (moves 1 k) I32 one_cell ++ (closed (moves 0 k) I32 one_cell
      ++ Becomes (mixed_stage (suc k)) ∷ []))))))
