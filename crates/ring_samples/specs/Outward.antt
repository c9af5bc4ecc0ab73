-- A loop in which one placement is only copied out: turn k stores to the slow place k, by way of a ring of any size.
use Rattle.std.specs.Prelude.{ℕ, suc, pos, Bool, false, List, [], ◌∷◌, ◌++◌, nat_eq}
use Rattle.affine_ast.specs.declared.name.Name.{Name}
use Rattle.affine_ast.specs.declared.types.Element.TheVariants.{I32}
use Rattle.bus_model.specs.declared.transfer.Transfer.{Transfer}
use Rattle.direct_meaning.specs.Action.{Fast, Number, Action, Stores}
use Rattle.step_runs.specs.Steps.{Step, Leaves, Becomes}
use Rattle.step_runs.specs.Plain.{boths}
use Rattle.ring_runs.specs.Template.{opened_out, closed}
use Rattle.ring_samples.specs.Example.{one_cell, carried_back, place_of_turn, turn_stage}

abbrev pub no_inward : ℕ → Bool
no_inward i = false

abbrev pub one_outward : ℕ → Bool
one_outward i = nat_eq i 0

module _ (lead count : ℕ) (x : Name) where
  abbrev pub leaving : ℕ → ℕ → Transfer
  leaving i j = record (carried_back j) { tag = place_of_turn lead count x j; half = place_of_turn lead count x j }

  -- one store, which covers the memref
  abbrev pub cover : List Action
  cover = Stores (Number (pos 7)) (Fast 0 0 0) ∷ []

  abbrev pub out_turn : ℕ → List Step
  out_turn k =
      opened_out (suc lead) 0 k (carried_back k) I32 one_cell 2
      ++ (boths (turn_stage lead count x k) cover ++ (Leaves 0 k (carried_back k) ∷ [] ++ (closed (carried_back k) I32 one_cell ++ Becomes (turn_stage lead count x (suc k)) ∷ [])))
