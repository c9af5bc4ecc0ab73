-- Runs, action by action.
use Rattle.std.proofs.Common.{◌≡◌, List, [], ◌∷◌, refl, sym, ap, ◌∙◌, subst}
use Rattle.bus_model.specs.declared.step.FaultKind.{FaultKind}
use Rattle.bus_model.specs.declared.step.Verdict.TheVariants as verdict
use Rattle.direct_meaning.specs.Action.{Action}
use Rattle.direct_meaning.specs.Direct.{Outcome, End, Fault, State, then_do, folded, direct_step}
use Rattle.direct_meaning.proofs.Laws.{folded-nil, folded-cons}
use Rattle.run_laws.specs.CanRun.{CanTake, CanRun}
use Rattle.std.specs.Prelude.{ℤ, length}
use Rattle.affine_ast.specs.declared.name.Name.{Name}
use Rattle.walk_actions.specs.declared.action.Action as numbered
use Rattle.walk_actions.specs.declared.action.Operand.{Operand}
use Rattle.walk_actions.specs.Meant.{meant}
use Rattle.run_parts.specs.declared.effect.Effect.{Effect}
use Rattle.run_parts.specs.Effects.{effect_meant}
use Rattle.run_parts.specs.Registered.{Registered, values_of}
use Rattle.run_parts.specs.Settled.{settled, CanSettle}
use Rattle.nest_meaning.specs.declared.machine.Machine.{Machine}
use Rattle.nest_meaning.specs.Held.{Same, Lands}
use Rattle.nest_meaning.specs.Takes.{Ends}
use Rattle.nest_meaning.proofs.Settled.{settled_step, can_settle, lands}

module _ (left more : List Action) (a : Action) (s : State) (taken : left ≡ a ∷ more) where
  -- the next action may be taken
  pub can_now : CanRun left s → CanTake a s
  can_now h = (subst (λ xs. CanRun xs s) taken h).0

  pub can_next : (t : State) → CanRun left s → direct_step a s ≡ End t → CanRun more t
  can_next t h e = (subst (λ xs. CanRun xs s) taken h).1 t e

  pub folds_next : (whole : Outcome State) (t : State) → whole ≡ folded direct_step left s → direct_step a s ≡ End t → whole ≡ folded direct_step more t
  folds_next whole t so e = so ∙ ap (λ xs. folded direct_step xs s) taken ∙ folded-cons direct_step a more s ∙ ap (λ o. then_do o (folded direct_step more)) e

  pub faults : (whole : Outcome State) (t : State) (kind : FaultKind) → whole ≡ folded direct_step left s → direct_step a s ≡ Fault kind t → whole ≡ Fault kind t
  faults whole t kind so e = so ∙ ap (λ xs. folded direct_step xs s) taken ∙ folded-cons direct_step a more s ∙ ap (λ o. then_do o (folded direct_step more)) e

pub ends_here : (whole : Outcome State) (left : List Action) (s : State) → whole ≡ folded direct_step left s → left ≡ [] → whole ≡ End s
ends_here whole left s so e = so ∙ ap (λ xs. folded direct_step xs s) e ∙ folded-nil direct_step s

pub ended : (whole : Outcome State) (s : State) → whole ≡ End s → Ends verdict.End whole s
ended whole s e = subst (λ o. Ends verdict.End o s) (sym e) (record { verdict_is = refl; state_is = refl })

pub faulted : (whole : Outcome State) (kind : FaultKind) (s : State) → whole ≡ Fault kind s → Ends (verdict.Fault kind) whole s
faulted whole kind s e = subst (λ o. Ends (verdict.Fault kind) o s) (sym e) (record { verdict_is = refl; state_is = refl })

-- an action by number, and the effect that is left of it
module _ (names : List Name) (old new : Registered) (slow : List ℤ) (action : numbered.Action) (subscripts read : List Operand) (named : old.names ≡ names) (same_subscripts : read ≡ subscripts) where
  pub settles : CanTake (meant names subscripts action) (record { registers = values_of old; slow = slow }) → CanSettle (meant old.names read action) (values_of old)
  settles h = subst (λ a. CanSettle a (values_of old)) (λ i. meant (sym named i) (sym same_subscripts i) action) (can_settle (meant names subscripts action) (record { registers = values_of old; slow = slow }) h)

  module _ (effect : Effect) (same : new ≡ old) (is : effect_meant old.names effect ≡ settled (values_of old) (meant old.names read action)) where
    effect_is : effect_meant new.names effect ≡ settled (values_of old) (meant names subscripts action)
    effect_is = ap (λ (r : Registered). effect_meant r.names effect) same ∙ is ∙ (λ i. settled (values_of old) (meant (named i) (same_subscripts i) action))

    pub lands_here : CanTake (meant names subscripts action) (record { registers = values_of old; slow = slow }) → Lands (length slow) (effect_meant new.names effect)
    lands_here h = subst (Lands (length slow)) (sym effect_is) (lands (meant names subscripts action) (record { registers = values_of old; slow = slow }) h)

    pub step_is : (o : Outcome State) → direct_step (effect_meant new.names effect) (record { registers = values_of new; slow = slow }) ≡ o → direct_step (meant names subscripts action) (record { registers = values_of old; slow = slow }) ≡ o
    step_is o e =
        sym (settled_step (meant names subscripts action) (record { registers = values_of old; slow = slow }))
        ∙ (λ i. direct_step (sym effect_is i) (record { registers = values_of (sym same i); slow = slow })) ∙ e

pub same_twice : (a b c : Machine) → Same a b → Same b c → Same a c
same_twice a b c s t = record { names = t.names ∙ s.names; slow = t.slow ∙ s.slow }
