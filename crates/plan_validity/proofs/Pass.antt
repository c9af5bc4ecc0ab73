-- The law: each text on the way passes.
use Rattle.std.proofs.Common.{◌≡◌, ◌⊎◌, ℕ, suc, ◌+◌, ◌^◌, ◌≤◌, ◌<◌, ℤ, List, [], ◌∷◌, ◌++◌, refl, sym, ap, ◌∙◌, subst, arith, Bool, true, false}
use Rattle.std.specs.Prelude.{None, Some}
use Rattle.std.proofs.lemmas.Bool.{le-leb}
use Rattle.affine_ast.specs.declared.module.Arg.{Arg}
use Rattle.affine_ast.specs.declared.module.ArgKind.TheVariants as kind
use Rattle.affine_ast.specs.declared.module.Module.{Module}
use Rattle.affine_ast.specs.declared.name.Name.{Name}
use Rattle.affine_ast.specs.Names.{same_name}
use Rattle.affine_ast.proofs.Names.{same_name-sym}
use Rattle.affine_ast.specs.Nest.{Nest, nest}
use Rattle.affine_ast.specs.Sizes.{product}
use Rattle.affine_ast.specs.Validity.{Told, Broken, Passed, told, told_arguments, told_module, broken_of, first_broken, outside, IsValid}
use Rattle.direct_meaning.specs.Actions.{actions}
use Rattle.direct_meaning.specs.Direct.{folded, first_state, direct_step, plain}
use Rattle.direct_meaning.specs.Memory.{start_env, module_actions}
use Rattle.direct_meaning.specs.Static.{Env}
use Rattle.prompt_semantics.specs.Prompt.{prompt, prompt_step, first_device}
use Rattle.box_run_laws.specs.Law.{Agrees}
use Rattle.box_run_laws.specs.Roomy.{most_live}
use Rattle.valid_laws.proofs.SafeStart.{behind_arguments, arguments_hold}
use Rattle.nest_domain.specs.Ways.{loop_names}
use Rattle.nest_domain.specs.Domains.{symbol_names}
use Rattle.boxes.specs.Every.{Every}
use Rattle.placement_texts.specs.Fold.{Step, there, staged_all, Fits, AllFit}
use Rattle.placement_texts.specs.Own.{OwnNest}
use Rattle.placement_texts.specs.Spots.{IsLoop, HasLine, found, stage_one}
use Rattle.placement_texts.specs.Template.{Placement, dim_sizes, dim_extents, fast_name, tag_name, slow_type}
use Rattle.placement_texts.specs.Tests.{is_tested, BreaksOnlyTested, DimsStand, NumbersWell, ChunksWell, scope_at}
use Rattle.placement_texts.specs.Valid.{HasArgument, OwnArguments, Passes, AllPass}
use Rattle.placement_texts.proofs.Block.{text_valid}
use Rattle.placement_texts.proofs.Folded.{later, dims_later, made_names}
use Rattle.placement_texts.proofs.Follows.{apart_own}
use Rattle.placement_texts.proofs.FoundSpots.{staged_stays}
use Rattle.placement_texts.proofs.OwnStaged.{nest_more, staged_own}
use Rattle.placement_texts.proofs.StagedValid.{arguments_told, arguments_fresh, arguments_argued}
use Rattle.placement_regions.specs.Sites.{way_to, outer_names}
use Rattle.placement_regions.proofs.Theorem.{opens, regions_are_sized}
use Rattle.staged_plans.specs.Plans.{how_over, IsPlanned, IsNamed, AllNamed}
use Rattle.staged_plans.proofs.Owned.{some_elements}
use Rattle.staged_plans.proofs.Theorem.{all_fit, type_is, plans_agree}
use Rattle.plan_validity.specs.Law.{MeetsTests, AllMeetTests, PlansPass, StagedIsValid, StagedAgrees}
use Rattle.plan_validity.proofs.Around.{around, around_staged}
use Rattle.plan_validity.proofs.Numbers.{argument_small, fewer_elements, how_well}
use Rattle.plan_validity.proofs.Scopes.{AllStand, stand_along, stand_append, stands_at, symbols_stand, dims_stand}

no_env : Env
no_env = record { known = λ n. None; home = λ n. None; fasts = 0; tags = 0 }

module _ (m : Module) (valid : IsValid m) (made_by : Name → ℕ) (own_arguments : OwnArguments (there made_by 0) m.args) (symbols : List ℤ) (dma : Bool) where
  abbrev Planned : Step → Type 0
  Planned = IsPlanned dma m.args symbols (nest m.body)

  arguments_later : (k : ℕ) (args : List Arg) → OwnArguments (there made_by 0) args → OwnArguments (there made_by k) args
  arguments_later k [] h = tt
  arguments_later k (arg ∷ args) h = (later made_by 0 k arg.name (omega arith) h.0, arguments_later k args h.1)

  -- the numbers of a placement
  numbers_well : (x : Step) → Planned x → NumbersWell x.placement
  numbers_well x r =
      let sized = regions_are_sized m valid x.placement r.ty (found x.spot (nest m.body)) dma r.region in
      let small = argument_small m.args outside x.placement.memref r.ty (opens m valid).arguments r.region.memref in
      let few = fewer_elements x.placement.dims sized.1 in
      let sizes : product (dim_sizes x.placement.dims) ≤ 1048576 = subst (λ ns. product ns ≤ 1048576) (sym sized.0) small in
      record {
        least = some_elements x.placement.dims sized.1;
        most = below (product (dim_extents x.placement.dims)) (product (dim_sizes x.placement.dims)) few sizes;
        chunks = subst ChunksWell (sym r.how) (how_well dma x.placement.dims sized.1 sizes);
      }
    where
      below : (a b : ℕ) → a ≤ b → b ≤ 1048576 → a < 2 ^ 63
      below a b p q = omega (arith, p, q)

  -- at a text on the way, a placement still to come
  record Waits (n : Nest) (x : Step) : Type 0 where
    loop : IsLoop (found x.spot n) n
    line : HasLine (found x.spot n) n
    names : around x.spot n ≡ around x.spot (nest m.body)

  dims_are : (k : ℕ) (x : Step) (n : Nest) → Planned x → (passes : Passes m.args n) → Waits n x → DimsStand (scope_at (found x.spot n) n (behind_arguments m.args outside).scope) x.placement.dims
  dims_are k x n r passes w =
      let s = found x.spot n in
      let told_is = arguments_told m.args n n outside passes.totals passes.passed in
      let hold = arguments_hold m.args n outside passes.totals passes.passed in
      let a = behind_arguments m.args outside in
      let here = stands_at s n a passes.totals told_is.0 w.loop in
      let there_ = scope_at s n a.scope in
      subst (DimsStand there_) (sym r.region.dims)
      (dims_stand there_ (outer_names m.args (way_to (found x.spot (nest m.body)) (nest m.body))) r.region.region r.ty.sizes
      (stand_append there_ (symbol_names m.args) (loop_names (way_to (found x.spot (nest m.body)) (nest m.body))) (stand_along a.scope there_ (symbol_names m.args) here.keeps (symbols_stand m.args outside hold))
      (subst (AllStand there_) w.names here.loops)))

  step_passes : (k : ℕ) (x : Step) (n : Nest) → Planned x → Fits made_by k x → OwnNest (there made_by k) n → Passes m.args n → Waits n x → MeetsTests m.args (stage_one x.placement x.spot n) → Passes m.args (stage_one x.placement x.spot n)
  step_passes k x n r f h passes w tests = by (told_arguments m.args (told next) outside) refl
    where
      p : Placement
      p = x.placement

      next : Nest
      next = stage_one x.placement x.spot n

      only : BreaksOnlyTested (told_arguments m.args (told next) outside)
      only =
          let told_is = arguments_told m.args n next outside passes.totals passes.passed in
          let hold = arguments_hold m.args n outside passes.totals passes.passed in
          let a = behind_arguments m.args outside in
          let args_own = arguments_later k m.args own_arguments in
          subst BreaksOnlyTested (sym told_is.1)
          (text_valid (there made_by k) p (made_names made_by k x f) (later made_by 0 k p.memref (omega arith) f.memref_own) (dims_later made_by 0 k p.dims (omega arith) f.dims_own) (numbers_well x r) (found x.spot n) n a a passes.totals w.loop told_is.0 h
          (record { scope = λ n h. refl; released = λ n h. refl }) (arguments_fresh (there made_by k) m.args outside args_own (λ n h. (refl, refl)))
          (arguments_argued p m.args outside hold refl (subst (λ ty. HasArgument m.args p.memref (kind.Memref ty)) (sym (type_is m valid symbols dma x r)) r.region.memref)) (dims_are k x n r passes w))

      by : (t : Told) → told_arguments m.args (told next) outside ≡ t → Passes m.args next
      by (Passed t) e = record { totals = t; passed = e }
      by (Broken line number) e = absurd (let b : is_tested number ≡ true = subst BreaksOnlyTested e only in let z : true ≡ false = sym b ∙ tests line number e in cc)

  tag_not_fast : (k : ℕ) (x : Step) → Fits made_by k x → same_name (tag_name x.placement.name) (fast_name x.placement.name) ≡ false
  tag_not_fast k x f = by (same_name (tag_name x.placement.name) (fast_name x.placement.name)) refl
    where
      by : (t : Bool) → same_name (tag_name x.placement.name) (fast_name x.placement.name) ≡ t → same_name (tag_name x.placement.name) (fast_name x.placement.name) ≡ false
      by true e = let z = f.apart 1 0 e in absurd (omega (arith, z))
      by false e = e

  all_wait : (k : ℕ) (x : Step) (n : Nest) → Fits made_by k x → Waits n x → (xs : List Step) → Every (Waits n) xs → Every (Waits (stage_one x.placement x.spot n)) xs
  all_wait k x n f w [] h = tt
  all_wait k x n f w (o ∷ os) h =
      let p = x.placement in
      let names = made_names made_by k x f in
      let tag : same_name (tag_name p.name) p.memref ≡ false = same_name-sym (tag_name p.name) p.memref ∙ apart_own (there made_by k) p.memref (tag_name p.name) (later made_by 0 k p.memref (omega arith) f.memref_own) (names.made 1) in
      let stays = staged_stays p (tag_name p.name) no_env tag (tag_not_fast k x f) o.spot (found x.spot n) n w.loop w.line (h.0.loop, h.0.line) in
      (record { loop = stays.0; line = stays.1; names = around_staged p tag (tag_not_fast k x f) o.spot (found x.spot n) n w.line ∙ h.0.names }, all_wait k x n f w os h.1)

  all_pass : (k : ℕ) (xs : List Step) (n : Nest) → OwnNest (there made_by k) n → AllFit made_by k xs → Every Planned xs → Every (Waits n) xs → Passes m.args n → AllMeetTests m.args xs n → AllPass m.args xs n × Passes m.args (staged_all xs n)
  all_pass k [] n h fits r w passes tests = (tt, passes)
  all_pass k (x ∷ xs) n h fits r w passes tests =
      let n' = stage_one x.placement x.spot n in
      let f = fits.0 in
      let next = step_passes k x n r.0 f h passes w.0 tests.0 in
      let more = nest_more (there made_by k) (there made_by (suc k)) (λ y. later made_by k (suc k) y (omega arith)) n h in
      let made : (i : ℕ) → there made_by (suc k) (x.placement.name i) ≡ true = λ i. (let e = f.made i in le-leb (made_by (x.placement.name i)) (suc k) (omega (arith, e))) in
      let own' : OwnNest (there made_by (suc k)) n' =
      staged_own (there made_by k) (there made_by (suc k)) (λ y. later made_by k (suc k) y (omega arith)) x.placement made (later made_by 0 k x.placement.memref (omega arith) f.memref_own) (dims_later made_by 0 k x.placement.dims (omega arith) f.dims_own) f.elements (found x.spot n) n more in
      let rest = all_pass (suc k) xs n' own' fits.1 r.1 (all_wait k x n f w.0 xs w.1) next tests.1 in
      ((passes, rest.0), rest.1)

  first_waits : (xs : List Step) → Every Planned xs → Every (Waits (nest m.body)) xs
  first_waits [] r = tt
  first_waits (x ∷ xs) r = (record { loop = r.0.region.loop; line = r.0.line; names = refl }, first_waits xs r.1)

pub plans_pass : PlansPass
plans_pass m valid made_by own_text own_arguments symbols dma xs names planned tests =
    let o = opens m valid in
    all_pass m valid made_by own_arguments symbols dma 0 xs (nest m.body) own_text (all_fit m valid symbols dma made_by 0 xs own_text own_arguments names planned) planned (first_waits m valid made_by own_arguments symbols dma xs planned) (record { totals = o.totals; passed = o.told_all }) tests

-- ---- the modules
pub planned_is_valid : StagedIsValid
unfolding first_broken told_module
planned_is_valid m q valid symbols made_by dma xs plan is =
    let last = (plans_pass m valid made_by plan.own_text plan.own_arguments symbols dma xs plan.named plan.planned plan.tested).1 in
    ap broken_of ((λ i. told_arguments (is.arguments i) (told (is.body i)) outside) ∙ last.passed)

pub planned_agrees : StagedAgrees
unfolding plain prompt module_actions
planned_agrees m q valid v13 memory fits made_by dma xs plan is filler capacity room =
    let passes = (plans_pass m valid made_by plan.own_text plan.own_arguments memory.symbols dma xs plan.named plan.planned plan.tested).0 in
    let same : actions (nest q.body) (start_env q.args memory.symbols) ≡ actions (staged_all xs (nest m.body)) (start_env m.args memory.symbols) = λ i. actions (is.body i) (start_env (is.arguments i) memory.symbols) in
    subst (λ l. Agrees (folded direct_step (actions (nest m.body) (start_env m.args memory.symbols)) (first_state memory)) (folded (prompt_step filler capacity) l (first_device memory))) (sym same)
    (plans_agree m valid v13 memory fits made_by plan.own_text plan.own_arguments dma xs plan.named plan.planned plan.parted passes filler capacity (subst (λ l. most_live l 0 ≤ capacity) same room))
