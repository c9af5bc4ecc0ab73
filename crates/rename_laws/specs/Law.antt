-- What a text with its names changed, one for one, does.
pub use Rattle.placement_texts.specs.Renamed.{named, action_named, KeepsApart, RenamesEnv, RenamesScope, ActionsNamed, ToldNamed}
use Rattle.std.specs.Prelude.{◌≡◌, ℕ, ℤ, Bool, true}
use Rattle.affine_ast.specs.declared.name.Name.{Name}
use Rattle.affine_ast.specs.Nest.{Nest}
use Rattle.direct_meaning.specs.Actions.{actions}
use Rattle.direct_meaning.specs.Direct.{Outcome, End, Fault, folded}
use Rattle.direct_meaning.specs.Static.{Env}
use Rattle.placement_texts.specs.Own.{OwnNest}
use Rattle.prompt_semantics.specs.Device.{Device}
use Rattle.prompt_semantics.specs.Prompt.{prompt_step}

-- two devices that differ in names alone: what the names of a text hold, the others hold under the new names
pub record SameUnder (f : Name → Name) (own : Name → Bool) (x y : Device) : Type 0 where
  pub registers : (n : Name) → own n ≡ true → y.state.registers (f n) ≡ x.state.registers n
  pub slow : y.state.slow ≡ x.state.slow
  pub halves : y.halves ≡ x.halves
  pub live : y.live ≡ x.live
  pub outstanding : y.outstanding ≡ x.outstanding
  pub actions : y.actions ≡ x.actions
  pub engine_steps : y.engine_steps ≡ x.engine_steps
  pub peak : y.peak ≡ x.peak

-- the same verdict, from devices that differ in names alone to such devices
abbrev pub SameOutcome : (f : Name → Name) (own : Name → Bool) → Outcome Device → Outcome Device → Type 0
SameOutcome f own (End x) (End y) = SameUnder f own x y
SameOutcome f own (Fault k x) (Fault j y) = (k ≡ j) × SameUnder f own x y
SameOutcome f own (End x) (Fault j y) = ⊥
SameOutcome f own (Fault k x) (End y) = ⊥

-- so a text runs by its prompt meaning, for every filler and capacity
abbrev pub RunsNamed : Type 0
RunsNamed = (f : Name → Name) (own : Name → Bool) (n : Nest) (e g : Env) → KeepsApart f own → OwnNest own n → RenamesEnv f own e g
    → (filler : ℤ) (capacity : ℕ) (x y : Device) → SameUnder f own x y
    → SameOutcome f own (folded (prompt_step filler capacity) (actions n e) x) (folded (prompt_step filler capacity) (actions (named f n) g) y)
