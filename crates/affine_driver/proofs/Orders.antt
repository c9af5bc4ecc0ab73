-- A pick names one run, which leaves the memory of the prompt meaning.
use Rattle.std.proofs.Common.{◌≡◌, ℕ, ◌/◌, ◌%◌, ◌^◌, ℤ, List, [], ◌∷◌, length, Option, Some, None, refl, sym, ◌∙◌, ap, subst, inr, ◌≤◌}
use Rattle.std.specs.Prelude.{◌+◌, ◌++◌, slice_get}
use Rattle.affine_ast.specs.declared.image.Image.{Image}
use Rattle.affine_ast.specs.declared.module.Module.{Module}
use Rattle.bus_model.specs.declared.step.Step.{Step}
use Rattle.bus_model.specs.declared.step.Verdict.TheVariants as verdict
use Rattle.direct_meaning.specs.Direct.{Outcome, End, Fault, verdict_of, state_of}
use Rattle.direct_meaning.specs.Memory.{module_actions}
use Rattle.direct_meaning.specs.Work.{work}
use Rattle.prompt_semantics.specs.Device.{Device}
use Rattle.prompt_semantics.specs.Prompt.{prompt, prompt_verdict, prompt_slow}
use Rattle.run_laws.specs.StaysFitting.{with_slow}
use Rattle.mem_image.specs.Images as image
use Rattle.order_meaning.specs.Law.{OrdersAgree}
use Rattle.order_meaning.specs.Listed.{ListsOne}
use Rattle.order_meaning.specs.Machine.{Machine, after_step}
use Rattle.order_meaning.specs.Run.{IsMaximal}
use Rattle.order_machine.specs.declared.orders.Ordered.{Ordered}
use Rattle.order_machine.specs.Standing.{Setting, first_of}
use Rattle.order_machine.specs.Orders.{next_number, total, Chosen, Picks, RunsOrder, setting}
use Rattle.affine_driver.specs.declared.command.OrderOptions.{OrderOptions}
use Rattle.affine_driver.specs.Behaviour.{EndsWithin}
use Rattle.affine_driver.specs.Outcome.{Writes, Gives}
use Rattle.affine_driver.specs.Output.{prompted, order_text, IsOrderOutput}
use Rattle.affine_driver.specs.Refusals.{work_limit}

some_of : {A : Type 0} → A → Option A → A
some_of d None = d
some_of d (Some x) = x

same_some : {A : Type 0} (x y : A) → Some x ≡ Some y → x ≡ y
unfolding some_of
same_some x y e = ap (some_of x) e

-- a number chooses one step
same_choice : ListsOne → (x : ℕ) (m : Machine) (s t : Step) (k j : ℕ) → Chosen x m s k → Chosen x m t j → (s ≡ t) × (k ≡ j)
same_choice one x m s t k j h g =
    let e : h.enabled ≡ g.enabled = one m h.enabled g.enabled h.listed g.listed in
    let n : k ≡ j = h.number ∙ ap (λ l. x / 2 ^ 33 % length l) e ∙ sym g.number in
    (same_some s t (sym h.chosen ∙ ap (λ l. slice_get l k) e ∙ ap (λ i. slice_get g.enabled i) n ∙ g.chosen), n)

same_picks : ListsOne → (filler : ℤ) (capacity x : ℕ) (m : Machine) (ss ts : List Step) (ks js : List ℕ) → IsMaximal filler capacity m ss → IsMaximal filler capacity m ts
    → Picks filler capacity x m ss ks → Picks filler capacity x m ts js → (ss ≡ ts) × (ks ≡ js)
same_picks one filler capacity x m [] [] [] [] a b h g = (refl, refl)
same_picks one filler capacity x m [] [] [] (j ∷ js) a b h g = absurd g
same_picks one filler capacity x m [] [] (k ∷ ks) js a b h g = absurd h
same_picks one filler capacity x m [] (t ∷ ts) ks js a b h g = absurd (a.last t b.run.0)
same_picks one filler capacity x m (s ∷ ss) [] ks js a b h g = absurd (b.last s a.run.0)
same_picks one filler capacity x m (s ∷ ss) (t ∷ ts) [] js a b h g = absurd h
same_picks one filler capacity x m (s ∷ ss) (t ∷ ts) (k ∷ ks) [] a b h g = absurd g
same_picks one filler capacity x m (s ∷ ss) (t ∷ ts) (k ∷ ks) (j ∷ js) a b h g =
    let e = same_choice one (next_number x) m s t k j h.0 g.0 in
    let more = same_picks one filler capacity (next_number x) (after_step filler capacity s m) ss ts ks js (record { run = a.run.1; last = a.last })
    (subst (λ u. IsMaximal filler capacity (after_step filler capacity u m) ts) (sym e.0) (record { run = b.run.1; last = b.last }))
    h.1 (subst (λ u. Picks filler capacity (next_number x) (after_step filler capacity u m) ts js) (sym e.0) g.1) in
    (ap (λ u. u ∷ ss) e.0 ∙ ap (λ l. t ∷ l) more.0, ap (λ i. i ∷ ks) e.1 ∙ ap (λ l. j ∷ l) more.1)

-- a pick names one run
pub same_numbers : ListsOne → (s : Setting) (pick : ℕ) (o p : Ordered) → RunsOrder s pick o → RunsOrder s pick p → (o.trace ≡ p.trace) × (o.steps ≡ p.steps)
same_numbers one s pick o p h g =
    let e = same_picks one s.filler s.capacity pick (first_of s) h.steps g.steps h.picked.numbers g.picked.numbers h.maximal g.maximal h.picked.picks g.picked.picks in
    (h.picked.trace_is ∙ ap (λ l. total l % 2 ^ 64) e.1 ∙ sym g.picked.trace_is, h.steps_are ∙ ap length e.0 ∙ sym g.steps_are)

-- it leaves the memory of the prompt meaning, where it comes to its end, after so many steps
pub left : (m : Module) (memory : Image) (filler : ℤ) (capacity engines pick : ℕ) (o : Ordered) → OrdersAgree filler capacity (module_actions m memory.symbols) memory engines
    → RunsOrder (setting m memory filler capacity engines) pick o → o.verdict ≡ verdict.End
    → (o.image ≡ with_slow memory (prompt_slow (prompt m memory filler capacity))) × (o.steps ≡ (state_of (prompt m memory filler capacity)).actions + (state_of (prompt m memory filler capacity)).engine_steps)
unfolding prompt
left m memory filler capacity engines pick o law h e = by (prompt m memory filler capacity) refl (sym h.prompt_is ∙ e)
  where
    by : (outcome : Outcome Device) → prompt m memory filler capacity ≡ outcome → verdict_of outcome ≡ verdict.End
        → (o.image ≡ with_slow memory (prompt_slow (prompt m memory filler capacity))) × (o.steps ≡ (state_of (prompt m memory filler capacity)).actions + (state_of (prompt m memory filler capacity)).engine_steps)
    by (End y) p v =
        let ended = law.ended h.steps h.maximal y p in (
          h.image_is ∙ ap (with_slow memory) (ended.slow ∙ ap prompt_slow (sym p)),
          h.steps_are ∙ ended.count ∙ ap (λ (x : Outcome Device). (state_of x).actions + (state_of x).engine_steps) (sym p),
        )
    by (Fault k y) p v = absurd (let z : ⊥ = cc in z)

-- a run within the limit that comes to its end: its printed image, trace and steps are the output
pub ended : (input : Module) (options : OrderOptions) (memory : Image) (engines : ℕ) (o : Ordered) (output : List ℕ) → engines ≡ options.run.engines → work input ≤ work_limit
    → OrdersAgree options.run.filler options.run.capacity (module_actions input memory.symbols) memory engines
    → RunsOrder (setting input memory options.run.filler options.run.capacity engines) options.pick o → o.verdict ≡ verdict.End
    → output ≡ image.printed input o.image ++ order_text o.trace o.steps
    → EndsWithin input (prompt_verdict (prompted options.run input memory)) (Gives (IsOrderOutput input options memory)) (Writes output)
ended input options memory engines o output same within law h e text =
    let l = left input memory options.run.filler options.run.capacity engines options.pick o law h e in
    let written : IsOrderOutput input options memory output = record {
      ordered = o;
      runs = subst (λ n. RunsOrder (setting input memory options.run.filler options.run.capacity n) options.pick o) same h;
      count = l.1;
      text = text ∙ ap (λ x. image.printed input x ++ order_text o.trace o.steps) l.0;
    } in
    inr (tt, (within, inr (tt, (sym h.prompt_is ∙ e, written))))
