-- The plan of a module is a plan of it, and so its staged module runs.
use Rattle.std.proofs.Common.{◌≡◌, ℕ, ◌≤◌, List, [], ◌∷◌, Bool, true, false, refl, sym, ap, ◌∙◌, subst, arith}
use Rattle.std.specs.Prelude.{not, ◌||◌, None, nat_le, max}
use Rattle.affine_ast.specs.declared.module.Arg.{Arg}
use Rattle.affine_ast.specs.declared.module.Module.{Module}
use Rattle.affine_ast.specs.declared.name.Name.{Name}
use Rattle.affine_ast.specs.Nest.{Plain, Nest, Nothing, Loop, Branch, Does, Value, Load, Store, RawLoad, RawStore, Constant, Binary, Cast, Alloc, Dealloc, Start, Wait, Return, nest}
use Rattle.affine_ast.specs.PlainLimits.{plain_fault}
use Rattle.affine_ast.specs.Scope.{Totals}
use Rattle.affine_ast.specs.Validity.{Told, Broken, told, outside, IsValid}
use Rattle.valid_laws.proofs.SafeStart.{behind_arguments}
use Rattle.direct_meaning.specs.Memory.{FitsArgs}
use Rattle.prompt_semantics.specs.Prompt.{prompt}
use Rattle.box_run_laws.specs.Law.{Agrees}
use Rattle.box_run_laws.specs.Peaks.{plain_live}
use Rattle.nest_domain.specs.declared.plan.Options.{Options}
use Rattle.placement_texts.specs.Fold.{Step, there, staged_all}
use Rattle.placement_texts.specs.OneTag.{InText}
use Rattle.placement_texts.specs.Own.{OwnNest}
use Rattle.placement_texts.specs.Spots.{stage_one}
use Rattle.placement_texts.specs.Tests.{is_tested}
use Rattle.placement_texts.specs.Valid.{OwnArguments}
use Rattle.placement_texts.proofs.OwnStaged.{nest_more}
use Rattle.placement_texts.proofs.StagedValid.{arguments_told}
use Rattle.placement_regions.proofs.Theorem.{opens}
use Rattle.plain_inputs.proofs.Inputs.{Stands, input_stands}
use Rattle.plan_validity.specs.Law.{MeetsTests, AllMeetTests, IsStagedBy}
use Rattle.plan_validity.proofs.Pass.{planned_is_valid}
use Rattle.staging_theorem.proofs.Law.{staged_runs}
use Rattle.made_names.specs.Made.{made_by}
use Rattle.made_names.proofs.Tells.{told as names_told}
use Rattle.peak_laws.specs.Peak.{peak_of, peak}
use Rattle.plan_laws.specs.Sites.{lined}
use Rattle.plan_laws.specs.Plan.{plan_steps, planned_text}
use Rattle.plan_laws.proofs.Plans.{keep_within}
use Rattle.lined_modules.specs.Law.{Lined, SameButLines}
use Rattle.lined_modules.proofs.Texts.{lined_twice}
use Rattle.lined_modules.proofs.Law.{all_are_lined, lines_have_no_part}
use Rattle.plan_theorem.specs.Law.{of_text, IsWritten, PlansArePlans, IsStagedModule, RunsAsPlanned, PlanRuns}
use Rattle.plan_theorem.proofs.Tests.{is_limit, is_intervals, Met, Bounded, limits_met, intervals_met}
use Rattle.plan_theorem.proofs.Steps.{Keeps, AllKeepLimits, planned_stands}

-- ---- names of a text
unmade : (n : Name) → of_text n ≡ true → there made_by 0 n ≡ true
unmade n h = by n.made refl h
  where
    by : (t : Bool) → n.made ≡ t → not t ≡ true → there made_by 0 n ≡ true
    by true e h = absurd (let z : ⊥ = cc in z)
    by false e h = ap (λ k. nat_le k 0) (names_told.of_texts n e)

unmade_arguments : (args : List Arg) → OwnArguments of_text args → OwnArguments (there made_by 0) args
unmade_arguments [] h = tt
unmade_arguments (arg ∷ args) h = (unmade arg.name h.0, unmade_arguments args h.1)

-- ---- the tests
module _ (m : Module) (valid : IsValid m) where
  no_limit : (t : Told) (c : Totals) (line number : ℕ) → Met t c → t ≡ Broken line number → is_limit number ≡ false
  no_limit t c line number h e = subst (λ x. Met x c) e h

  no_interval : (t : Told) (line number : ℕ) → Bounded t → t ≡ Broken line number → is_intervals number ≡ false
  no_interval t line number h e = subst Bounded e h

  neither : (number : ℕ) → is_intervals number ≡ false → is_limit number ≡ false → is_tested number ≡ false
  neither number e h = ap (λ b. b || is_limit number) e ∙ h

  meets : (n : Nest) → Keeps m.args n → MeetsTests m.args n
  meets n keeps line number e =
      let o = opens m valid in
      let is = (arguments_told m.args (nest m.body) n outside o.totals o.told_all).1 in
      let met = limits_met m.args n keeps.1 in
      neither number (no_interval (told n (behind_arguments m.args outside)) line number (intervals_met m.args n keeps.0) (sym is ∙ e))
      (no_limit (told n (behind_arguments m.args outside)) met.0.totals line number met.1 (sym is ∙ e))

  all_meet : (xs : List Step) (n : Nest) → AllKeepLimits m.args xs n → AllMeetTests m.args xs n
  all_meet [] n h = tt
  all_meet (x ∷ xs) n h = (meets (stage_one x.placement x.spot n) h.0, all_meet xs (stage_one x.placement x.spot n) h.1)

pub plans_are_plans : PlansArePlans
plans_are_plans o m valid text lines symbols =
    let n = nest m.body in
    let s = planned_stands o m.args n symbols lines (opens m valid).arguments in
    record {
      own_text = nest_more of_text (there made_by 0) unmade n text.names;
      own_arguments = unmade_arguments m.args text.arguments;
      named = s.named;
      planned = s.planned;
      parted = s.parted;
      tested = all_meet m valid (plan_steps o m) n (subst (AllKeepLimits m.args (plan_steps o m)) lines s.limits);
    }

-- ---- a module without allocations has no live bytes
plain_stays : (q : Plain) (l : ℕ) → Stands q → plain_live q l ≡ l
plain_stays (Alloc r ty) l h = absurd (let z : ⊥ = cc in z)
plain_stays (Dealloc x ty) l h = absurd (let z : ⊥ = cc in z)
plain_stays (Value r pick at) l h = refl
plain_stays (Load r x at ty) l h = refl
plain_stays (Store v x at ty) l h = refl
plain_stays (RawLoad r x at ty) l h = refl
plain_stays (RawStore v x at ty) l h = refl
plain_stays (Constant r z ty) l h = refl
plain_stays (Binary r op x y ty) l h = refl
plain_stays (Cast r k x from to) l h = refl
plain_stays (Start x x_at y y_at t t_at k stride types) l h = refl
plain_stays (Wait t at k ty) l h = refl
plain_stays Return l h = refl

max_same : (a l : ℕ) → a ≡ l → max l a ≡ l
max_same a l e = grind (arith, e)

max_both : (a b l : ℕ) → a ≡ l → b ≡ l → max a b ≡ l
max_both a b l e f = grind (arith, e, f)

no_peak : (n : Nest) (l : ℕ) → InText Stands n → peak_of n l ≡ l
no_peak Nothing l h = refl
no_peak (Loop line v low high s body rest) l h = max_both (peak_of body l) (peak_of rest l) l (no_peak body l h.0) (no_peak rest l h.1)
no_peak (Branch line set names first has other rest) l h =
    max_both (peak_of first l) (max (peak_of other l) (peak_of rest l)) l (no_peak first l h.0) (max_both (peak_of other l) (peak_of rest l) l (no_peak other l h.1) (no_peak rest l h.2))
no_peak (Does line q rest) l h = max_same (peak_of rest (plain_live q l)) l (ap (peak_of rest) (plain_stays q l h.0) ∙ no_peak rest l h.1)

-- where each statement has a line
with_lines : (o : Options) (m q : Module) → IsValid m → plain_fault m ≡ None → IsWritten m → lined (nest m.body) ≡ nest m.body → IsStagedModule o m q → RunsAsPlanned o m q
with_lines o m q valid v13 text lines is =
    let xs = plan_steps o m in
    let staged : IsStagedBy xs m q = record { arguments = is.arguments; body = is.body ∙ whole } in
    record {
      valid = planned_is_valid m q valid [] made_by o.dma xs (plans_are_plans o m valid text lines []) staged;
      runs = λ memory fits filler. staged_runs m q valid v13 memory fits made_by o.dma xs (plans_are_plans o m valid text lines memory.symbols) staged filler o.capacity room;
    }
  where
    whole : planned_text o m ≡ staged_all (plan_steps o m) (nest m.body)
    whole = ap (staged_all (plan_steps o m)) lines

    room : peak q ≤ o.capacity
    room = subst (λ n. peak_of n 0 ≤ o.capacity) (sym is.body) ((keep_within o m).capacity (subst (λ k. k ≤ o.capacity) (sym (no_peak (nest m.body) 0 (input_stands m v13))) (omega arith)))

own_lined : (own : Name → Bool) (n : Nest) → OwnNest own n → OwnNest own (lined n)
own_lined own Nothing h = tt
own_lined own (Loop line v l u s body rest) h = (h.0, h.1, h.2, own_lined own body h.3, own_lined own rest h.4)
own_lined own (Branch line set names first has other rest) h = (h.0, own_lined own first h.1, own_lined own other h.2, own_lined own rest h.3)
own_lined own (Does line q rest) h = (h.0, own_lined own rest h.1)

-- whatever the lines
pub plan_runs : PlanRuns
plan_runs o m q valid v13 text is =
    let r = with_lines o m' q (same.valid valid) (same.may_be_staged v13) written lines staged in
    record {
      valid = r.valid;
      runs = λ memory fits filler. subst (λ x. Agrees x (prompt q memory filler o.capacity)) (same.meaning memory) (r.runs memory (record { fits = subst (λ args. FitsArgs args memory.memrefs memory.symbols) (sym line.is.arguments) fits.fits }) filler);
    }
  where
    line : Lined m
    line = all_are_lined m

    m' : Module
    m' = line.module_

    same : SameButLines m m'
    same = lines_have_no_part m m' line.is

    lines : lined (nest m'.body) ≡ nest m'.body
    lines = ap lined line.is.body ∙ lined_twice (nest m.body) ∙ sym line.is.body

    written : IsWritten m'
    written = record { names = subst (OwnNest of_text) (sym line.is.body) (own_lined of_text (nest m.body) text.names); arguments = subst (OwnArguments of_text) (sym line.is.arguments) text.arguments }

    -- it has the placements of the module's own plan
    body : planned_text o m ≡ planned_text o m'
    body = ap (λ xs. staged_all xs (lined (nest m.body))) (sym (same.steps o)) ∙ ap (staged_all (plan_steps o m')) (sym (ap lined line.is.body ∙ lined_twice (nest m.body)))

    staged : IsStagedModule o m' q
    staged = record { arguments = is.arguments ∙ sym line.is.arguments; body = is.body ∙ body }
