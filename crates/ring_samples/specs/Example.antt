-- A loop in which one placement is copied in and out: turn k works on the slow place k, in a ring of any size.
use Rattle.std.specs.Prelude.{ℕ, suc, ◌%◌, pos, Bool, true, false, List, [], ◌∷◌, ◌++◌, None, nat_eq, nat_lt}
use Rattle.affine_ast.specs.declared.name.Name.{Name}
use Rattle.affine_ast.specs.declared.types.Element.TheVariants.{I32}
use Rattle.bus_model.specs.declared.transfer.Transfer.{Transfer}
use Rattle.direct_meaning.specs.Action.{Place, Slow, Fast, Outside, Number, Register, Action, Loads, Stores, Allocates, Releases, AllocatesTags, ReleasesTags}
use Rattle.prompt_semantics.specs.Device.{bytes_of}
use Rattle.step_runs.specs.Stage.{Stage}
use Rattle.step_runs.specs.Steps.{Step, Made, Becomes, cells_of}
use Rattle.ring_runs.specs.Ring.{ring_loop}
use Rattle.ring_runs.specs.Facts.{starts_of}
use Rattle.step_runs.specs.Plain.{boths}
use Rattle.ring_runs.specs.Template.{opened, written, closed}

abbrev pub one_inward : ℕ → Bool
one_inward i = nat_eq i 0

abbrev pub no_outward : ℕ → Bool
no_outward i = false

abbrev pub one_cell : List ℕ
one_cell = 1 ∷ 1 ∷ []

-- the transfers of the first run, which has one buffer, in and out
abbrev pub brought : ℕ → Transfer
brought k = record { incoming = true; tag = 0; memref = 0; base = k; stride = 1; chunk = 1; count = 1; fast = 0; half = 0; offset = 0 }

abbrev pub carried_back : ℕ → Transfer
carried_back k = record { incoming = false; tag = 0; memref = 0; base = k; stride = 1; chunk = 1; count = 1; fast = 0; half = 0; offset = 0 }

module _ (lead count : ℕ) (x : Name) where
  abbrev pub place_of_turn : ℕ → ℕ
  place_of_turn k = k % suc lead

  -- those of the second, which has `suc lead`
  abbrev pub brought_ahead : ℕ → ℕ → Transfer
  brought_ahead i k = record (brought k) { tag = place_of_turn k; half = place_of_turn k }

  abbrev pub is_slow : Place → Bool
  is_slow (Slow p) = nat_lt p count
  is_slow (Fast n h c) = false
  is_slow Outside = false

  abbrev pub turn_stage : ℕ → Stage
  turn_stage k = record {
    lives = λ p. None;
    half = λ n h. record { number = n; half = place_of_turn k };
    fast = λ n. n;
    tag = λ g. place_of_turn k;
    there = is_slow;
    agrees = is_slow;
    fresh = λ p. false;
    made = cells_of 0 (suc lead ∷ 1 ∷ []);
    live = bytes_of I32 (suc lead ∷ 1 ∷ []);
    first = [];
    out = λ i j. false;
  }

  -- the work of a turn: one load and one store
  abbrev pub work : List Action
  work = Loads x (Fast 0 0 0) ∷ Stores (Register x) (Fast 0 0 0) ∷ Stores (Number (pos 7)) (Fast 0 0 0) ∷ []

  abbrev pub turn_steps : ℕ → List Step
  turn_steps k =
      opened 0 k (brought k) I32 one_cell 2
      ++ (boths (turn_stage k) work ++ (written (turn_stage k) (carried_back k) ++ (closed (brought k) I32 one_cell ++ Becomes (turn_stage (suc k)) ∷ [])))

  -- before the loop the second run has nothing
  abbrev pub begin_stage : Stage
  begin_stage = record (turn_stage 0) { made = λ q. false; live = 0 }

  abbrev pub example : List Step
  example =
      Made (Allocates 0 I32 (suc lead ∷ 1 ∷ [])) ∷ Made (AllocatesTags 0 (suc lead)) ∷ []
      ++ (ring_loop (starts_of one_inward (λ i j. 1) 1) turn_steps lead count
      ++ Made (Releases 0 I32 (suc lead ∷ 1 ∷ [])) ∷ Made (ReleasesTags 0 (suc lead)) ∷ [])
