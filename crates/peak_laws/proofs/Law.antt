-- Every valid module runs within its peak.
use Rattle.std.proofs.Common.{◌≡◌, ◌⊎◌, inl, inr, ℕ, ◌≤◌, ◌<◌, ℤ, Bool, true, false, List, [], ◌∷◌, refl, sym, ap, ◌∙◌, subst, arith}
use Rattle.std.specs.Prelude.{◌≢◌}
use Rattle.affine_ast.specs.declared.module.Arg.{Arg}
use Rattle.affine_ast.specs.declared.module.ArgKind.{ArgKind}
use Rattle.affine_ast.specs.declared.module.ArgKind.TheVariants.{Memref, Index}
use Rattle.affine_ast.specs.declared.module.Module.{Module}
use Rattle.affine_ast.specs.declared.name.Name.{Name}
use Rattle.affine_ast.specs.Nest.{Nest, nest}
use Rattle.affine_ast.specs.Rules.{is_allocation, is_allocated}
use Rattle.affine_ast.specs.Scope.{Scope, Totals, Around}
use Rattle.affine_ast.specs.Validity.{Passed, told, told_arguments, rule_of_argument, behind_argument, told_module, outside, first_broken, IsValid}
use Rattle.bus_model.specs.declared.step.FaultKind.{FaultKind}
use Rattle.bus_model.specs.declared.step.FaultKind.TheVariants.{Capacity}
use Rattle.bus_model.specs.declared.step.Verdict.{Verdict}
use Rattle.bus_model.specs.declared.step.Verdict.TheVariants as verdict
use Rattle.direct_meaning.specs.Action.{Action}
use Rattle.direct_meaning.specs.Actions.{actions}
use Rattle.direct_meaning.specs.Static.{Env}
use Rattle.direct_meaning.specs.Direct.{Outcome, End, Fault, folded, state_of, verdict_of}
use Rattle.direct_meaning.specs.Memory.{start_env, module_actions}
use Rattle.prompt_semantics.specs.Device.{Device}
use Rattle.prompt_semantics.specs.Prompt.{prompt_step, first_device, prompt}
use Rattle.valid_laws.proofs.Passing.{judged_passed, passed_of}
use Rattle.box_run_laws.specs.Roomy.{roomy_step, most_live}
use Rattle.box_run_laws.proofs.Capacity.{capacity_kept}
use Rattle.box_run_laws.proofs.Live.{live_known}
use Rattle.box_run_laws.proofs.Peaks.{most_at_peak}
use Rattle.peak_laws.specs.Peak.{peak}
use Rattle.peak_laws.specs.Law.{needed, ValidRunsWithinPeak, ValidTakesFewBytes}
use Rattle.peak_laws.proofs.Names.{both, put_allocated}
use Rattle.peak_laws.proofs.Own.{OwnAll}
use Rattle.peak_laws.proofs.Even.{all_even}
use Rattle.peak_laws.proofs.Homes.{Kinds, all_match}
use Rattle.peak_laws.proofs.Small.{grows, peak_less}
use Rattle.peak_laws.proofs.Mild.{AllMild, all_mild}
use Rattle.peak_laws.proofs.Full.{IsFull, NotFull, within_or_not, run_not_full, run_full}

-- ---- the body of a valid module, where no allocation is in scope

abbrev NoneAllocated : Scope → Type 0
NoneAllocated s = (m : Name) → is_allocated s m ≡ false

none_behind : (a : Around) (n : Name) (kind : ArgKind) → NoneAllocated a.scope → NoneAllocated (behind_argument n kind a).scope
none_behind a n kind h m = by kind
  where
    one : (b : Bool) → (b ≡ true → is_allocated a.scope m ≡ true) → b ≡ false
    one true k = absurd (both (is_allocated a.scope m) (k refl) (h m))
    one false k = refl

    by : (kind : ArgKind) → is_allocated (behind_argument n kind a).scope m ≡ false
    by (Memref ty) = one _ (put_allocated a.scope n _ m refl)
    by (Index range) = one _ (put_allocated a.scope n _ m refl)

no_bytes_behind : (a : Around) (n : Name) (kind : ArgKind) → a.totals.allocated ≡ 0 → (behind_argument n kind a).totals.allocated ≡ 0
no_bytes_behind a n (Memref ty) h = h
no_bytes_behind a n (Index range) h = h

none_outside : NoneAllocated outside.scope
unfolding is_allocated
none_outside m = refl

record Begins (body : Nest) : Type 0 where
  around : Around
  totals : Totals
  passed : told body around ≡ Passed totals
  none : NoneAllocated around.scope
  no_bytes : around.totals.allocated ≡ 0

begins_from : (args : List Arg) (body : Nest) (a : Around) (t : Totals) → told_arguments args (told body) a ≡ Passed t → NoneAllocated a.scope → a.totals.allocated ≡ 0 → Begins body
unfolding told_arguments
begins_from [] body a t h none zero = record { around = a; totals = t; passed = h; none = none; no_bytes = zero }
begins_from (arg ∷ args) body a t h none zero =
    let j = judged_passed arg.line (rule_of_argument a arg.name arg.kind) _ t h in
    begins_from args body (behind_argument arg.name arg.kind a) t j.1 (none_behind a arg.name arg.kind none) (no_bytes_behind a arg.name arg.kind zero)

valid_begins : (m : Module) → IsValid m → Begins (nest m.body)
unfolding first_broken told_module
valid_begins m h =
    let p = passed_of (told_arguments m.args (told (nest m.body)) outside) h in
    begins_from m.args (nest m.body) outside p.0 p.1 none_outside refl

own_of_none : (s : Scope) (n : Nest) → NoneAllocated s → OwnAll s n
own_of_none s n none m i = absurd (both (is_allocated s m) i (none m))

kinds_of_none : (s : Scope) (e : Env) → NoneAllocated s → Kinds s e
unfolding is_allocated
kinds_of_none s e none m ty is = absurd (both (is_allocated s m) (ap is_allocation is) (none m))

-- no list of actions of a valid module has more live bytes than its peak
most_live_at_peak : (m : Module) → IsValid m → (e : Env) → most_live (actions (nest m.body) e) 0 ≤ peak m
most_live_at_peak m h e =
    let b = valid_begins m h in
    most_at_peak (nest m.body) e
    (all_even (nest m.body) b.around b.totals b.passed (own_of_none b.around.scope (nest m.body) b.none))
    (all_match (nest m.body) b.around b.totals e b.passed (kinds_of_none b.around.scope e b.none))

pub valid_takes : ValidTakesFewBytes
valid_takes m h =
    let b = valid_begins m h in
    let z = b.no_bytes in
    let g = grows (nest m.body) b.around b.totals b.passed (omega (arith, z)) in
    let more = g.more in
    let within = g.within in
    let less = peak_less (nest m.body) 0 in
    record { bytes = omega (arith, more, within); peak_is_less = omega (arith, less) }

-- ---- its runs

full_stops : (capacity : ℕ) (o : Outcome Device) → IsFull capacity o → verdict_of o ≡ verdict.Fault Capacity
full_stops capacity (End z) h = absurd h
full_stops capacity (Fault k z) h = ap verdict.Fault h.0

full_peak : (capacity : ℕ) (o : Outcome Device) → IsFull capacity o → (state_of o).peak ≤ capacity
full_peak capacity (End z) h = absurd h
full_peak capacity (Fault k z) h = h.1

abbrev kind_of : Verdict → FaultKind → FaultKind
kind_of (verdict.Fault k) j = k
kind_of verdict.End j = j

unstopped_of : (o : Outcome Device) → NotFull o → verdict_of o ≢ verdict.Fault Capacity
unstopped_of (End z) h v = let z : ⊥ = cc in z
unstopped_of (Fault k z) h v = h (ap (λ v. kind_of v Capacity) v)

module _ (filler : ℤ) (xs : List Action) (y : Device) (most : ℕ) (mild : AllMild xs) (below : (state_of (folded (roomy_step filler) xs y)).peak ≤ most) (start : y.peak ≤ 0) where
  abbrev run : ℕ → Outcome Device
  run capacity = folded (prompt_step filler capacity) xs y

  abbrev free : Outcome Device
  free = folded (roomy_step filler) xs y

  is_free : (capacity : ℕ) → (state_of free).peak ≤ capacity → run capacity ≡ free
  is_free capacity h = capacity_kept filler capacity xs y h

  is_needed : (state_of (run most)).peak ≡ (state_of free).peak
  is_needed = ap (λ (o : Outcome Device). (state_of o).peak) (is_free most below)

  is_full : (capacity : ℕ) → capacity < (state_of free).peak → IsFull capacity (run capacity)
  is_full capacity h = run_full filler capacity xs y mild (omega (arith, start)) h

  is_within : (capacity : ℕ) → (state_of (run capacity)).peak ≤ most
  is_within capacity = by ((state_of free).peak) below (within_or_not ((state_of free).peak) capacity)
    where
      by : (n : ℕ) → n ≤ most → ((state_of free).peak ≤ capacity) ⊎ (capacity < (state_of free).peak) → (state_of (run capacity)).peak ≤ most
      by n h (inl l) = subst (λ (o : Outcome Device). (state_of o).peak ≤ most) (sym (is_free capacity l)) below
      by n h (inr l) = let p = full_peak capacity (run capacity) (is_full capacity l) in let b = below in omega (arith, p, l, b)

pub valid_runs : ValidRunsWithinPeak
unfolding prompt module_actions
valid_runs m valid memory fits filler capacity =
    let e = start_env m.args memory.symbols in
    let xs = actions (nest m.body) e in
    let y = first_device memory in
    let mild = all_mild (nest m.body) e in
    let most = most_live_at_peak m valid e in
    let known = live_known filler xs y in
    let below : (state_of (folded (roomy_step filler) xs y)).peak ≤ peak m = omega (arith, most, known) in
    let start : 0 ≤ 0 = omega arith in
    let free = is_free filler xs y (peak m) mild below start in
    let need = is_needed filler xs y (peak m) mild below start in
    let reach : (c : ℕ) → needed m memory filler ≤ c → (state_of (folded (roomy_step filler) xs y)).peak ≤ c = λ c h. subst (λ n. n ≤ c) need h in
    let more : (c : ℕ) → peak m ≤ c → (state_of (folded (roomy_step filler) xs y)).peak ≤ c = λ c h. omega (arith, below, h) in
    record {
      within = is_within filler xs y (peak m) mild below start capacity;
      unstopped = λ h. subst (λ o. verdict_of o ≢ verdict.Fault Capacity) (sym (free capacity (more capacity h))) (unstopped_of (folded (roomy_step filler) xs y) (run_not_full filler capacity xs y mild));
      same = λ h. free capacity (more capacity h) ∙ sym (free (peak m) below);
      needed_is_within = subst (λ n. n ≤ peak m) (sym need) below;
      needed_suffices = λ h. free capacity (reach capacity h) ∙ sym (free (peak m) below);
      less_stops = λ h. full_stops capacity _ (is_full filler xs y (peak m) mild below start capacity (subst (λ n. capacity < n) need h));
    }
