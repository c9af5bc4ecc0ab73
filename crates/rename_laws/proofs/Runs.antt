-- The run of a text with other names.
use Rattle.std.proofs.Common.{ℕ, ℤ, List, [], ◌∷◌, map, sym, subst, Bool}
use Rattle.affine_ast.specs.declared.name.Name.{Name}
use Rattle.direct_meaning.specs.Action.{Action}
use Rattle.direct_meaning.specs.Actions.{actions}
use Rattle.direct_meaning.specs.Direct.{Outcome, End, Fault, then_do, folded}
use Rattle.prompt_semantics.specs.Device.{Device}
use Rattle.prompt_semantics.specs.Prompt.{prompt_step}
use Rattle.placement_texts.specs.Renamed.{action_named, KeepsApart}
use Rattle.rename_laws.specs.Law.{SameUnder, SameOutcome, RunsNamed}
use Rattle.rename_laws.proofs.Actions.{actions_are}
use Rattle.rename_laws.proofs.Owns.{OwnActs, own_actions}
use Rattle.rename_laws.proofs.Steps.{step_same}

module _ (f : Name → Name) (own : Name → Bool) (apart : KeepsApart f own) (filler : ℤ) (capacity : ℕ) where
  run_same : (xs : List Action) (x y : Device) → OwnActs own xs → SameUnder f own x y
      → SameOutcome f own (folded (prompt_step filler capacity) xs x) (folded (prompt_step filler capacity) (map (action_named f) xs) y)
  unfolding folded
  run_same [] x y o h = h
  run_same (a ∷ xs) x y o h = by (prompt_step filler capacity a x) (prompt_step filler capacity (action_named f a) y) (step_same f own apart filler capacity a x y o.0 h) (λ z w k. run_same xs z w o.1 k)
    where
      by : (p q : Outcome Device) → SameOutcome f own p q
          → ((z w : Device) → SameUnder f own z w → SameOutcome f own (folded (prompt_step filler capacity) xs z) (folded (prompt_step filler capacity) (map (action_named f) xs) w))
          → SameOutcome f own (then_do p (folded (prompt_step filler capacity) xs)) (then_do q (folded (prompt_step filler capacity) (map (action_named f) xs)))
      by (End z) (End w) s more = more z w s
      by (Fault k z) (Fault j w) s more = s
      by (End z) (Fault j w) s more = absurd s
      by (Fault k z) (End w) s more = absurd s

pub runs_are : RunsNamed
runs_are f own n e g apart o r filler capacity x y h =
    subst (λ xs. SameOutcome f own (folded (prompt_step filler capacity) (actions n e) x) (folded (prompt_step filler capacity) xs y)) (sym (actions_are f own n e g apart o r))
    (run_same f own apart filler capacity (actions n e) x y (own_actions own n e o) h)
