-- The plan is what it is without its test on intervals.
use Rattle.std.proofs.Common.{◌≡◌, ◌⊎◌, inl, inr, ℕ, suc, ◌+◌, ◌≤◌, List, [], ◌∷◌, ◌++◌, length, Bool, true, false, cond, Option, Some, None, Result, Ok, Err, refl, sym, ap, ◌∙◌, subst, arith}
use Rattle.std.specs.Prelude.{fold, not, ◌&&◌, nat_lt}
use Rattle.affine_ast.specs.declared.module.Arg.{Arg}
use Rattle.affine_ast.specs.declared.module.Module.{Module}
use Rattle.affine_ast.specs.declared.name.Name.{Name}
use Rattle.affine_ast.specs.declared.types.MemrefType.{MemrefType}
use Rattle.affine_ast.specs.Names.{same_name}
use Rattle.affine_ast.proofs.Names.{same_name-eq}
use Rattle.affine_ast.specs.Nest.{Nest, nest}
use Rattle.affine_ast.specs.Validity.{outside, IsValid}
use Rattle.direct_meaning.specs.Action.{SlowMemref}
use Rattle.direct_meaning.specs.Memory.{start_env}
use Rattle.valid_laws.proofs.SafeStart.{ArgumentsHold}
use Rattle.boxes.specs.Every.{Every}
use Rattle.nest_domain.specs.declared.plan.Cause.TheVariants as cause
use Rattle.nest_domain.specs.declared.plan.Options.{Options}
use Rattle.nest_domain.specs.Boxes as region
use Rattle.access_region.specs.Faults.{NoRegion}
use Rattle.placement_texts.specs.Fold.{Step, staged_all, there, Parted, AllParted}
use Rattle.placement_texts.specs.Own.{OwnNest}
use Rattle.placement_texts.specs.Spots.{Spot, IsLoop, HasLine, Disjoint, found, stage_one}
use Rattle.placement_texts.specs.Valid.{OwnArguments}
use Rattle.placement_regions.specs.Sites.{IsOfRegion}
use Rattle.placement_regions.proofs.Theorem.{opens}
use Rattle.placement_covers.specs.Law.{is_covered}
use Rattle.staged_plans.specs.Plans.{how_over, has_store, uses_there, IsPlanned, IsNamed, AllNamed}
use Rattle.made_names.specs.Made.{made_by}
use Rattle.made_names.proofs.Tells.{told}
use Rattle.peak_laws.specs.Peak.{peak_of}
use Rattle.plan_laws.specs.Limits.{keeps_limits, keeps_intervals}
use Rattle.plan_laws.specs.Sites.{loops_at, loops_round, lined}
use Rattle.plan_laws.specs.Plan.{Site, Asked, Planned, Settled, Unstaged, Placed, firsts, times, type_of, accesses_in, region_at, hoisted, step_at, text_with, fitted, tested, settled_from, settled, steps_with, with_settled, decided, asked_in, asked_from, asked, planned}
use Rattle.plan_laws.specs.Law.{IsSited}
use Rattle.plan_laws.proofs.Sited.{every_append, sited}
use Rattle.plan_theorem.specs.Law.{IsWritten}
use Rattle.plan_theorem.proofs.Lists.{Pairwise, every_any, every_weaker, every_image, pairwise_append, pairwise_image}
use Rattle.plan_theorem.proofs.Blocks.{found_lined, line_lined, Loops, blocks_are_loops, blocks_are_apart}
use Rattle.plan_theorem.proofs.Counts.{Wraps, wraps_apart, firsts_accessed, Differ, firsts_differ}
use Rattle.plan_theorem.proofs.Homes.{has_argument, home_is}
use Rattle.plan_theorem.proofs.Steps.{From}
use Rattle.plan_theorem.proofs.Theorem.{plans_are_plans}
use Rattle.placed_intervals.specs.Untested.{fitted_in, fitted_from, fitted_for, decided_so, untested, PlanNeedsNoTest}
use Rattle.placed_intervals.proofs.Law.{one_more_keeps_intervals}

-- ---- one step behind a list
named_more : (k number : ℕ) (xs : List Step) (x : Step) → number ≡ k + length xs → AllNamed made_by k xs → IsNamed made_by number x → AllNamed made_by k (xs ++ x ∷ [])
named_more k number [] x e h n = (subst (λ j. IsNamed made_by j x) (let f : number ≡ k = omega (arith, e) in f) n, tt)
named_more k number (y ∷ ys) x e h n = (h.0, named_more (suc k) number ys x (omega (arith, e)) h.1 n)

parted_more : (xs : List Step) (x : Step) → AllParted made_by xs → Every (λ s. Parted made_by s x) xs → AllParted made_by (xs ++ x ∷ [])
parted_more [] x h k = (tt, tt)
parted_more (y ∷ ys) x h k = (every_append (Parted made_by y) ys (x ∷ []) h.0 (k.0, tt), parted_more ys x h.1 k.1)

module _ (o : Options) (m : Module) (valid : IsValid m) (written : IsWritten m) (lines : lined (nest m.body) ≡ nest m.body) where
  abbrev args : List Arg
  args = m.args

  abbrev n : Nest
  n = nest m.body

  hold : ArgumentsHold m.args outside
  hold = (opens m valid).arguments

  -- ---- what is asked of each memref in each block
  record IsAsked (a : Asked) : Type 0 where
    block : IsLoop a.at n
    some : 1 ≤ times a.memref (accesses_in o args n a.at)

  abbrev Apart : Asked → Asked → Type 0
  Apart a b = (same_name b.memref a.memref ≡ false) ⊎ Disjoint a.at b.at

  all_asked : (block : ℕ) (ss : List Spot) → Loops n ss → Every IsAsked (asked_from o args n block ss)
  all_asked block [] h = tt
  all_asked block (s ∷ ss) h =
      let ms = firsts [] (accesses_in o args n s) in
      every_append IsAsked (asked_in o args n block s ms) (asked_from o args n (suc block) ss)
      (every_image IsAsked (λ x. record { block = block; at = s; memref = x }) ms
      (every_weaker (λ x. 1 ≤ times x (accesses_in o args n s)) (λ x. IsAsked (record { block = block; at = s; memref = x })) (λ x k. record { block = h.0; some = k }) ms (firsts_accessed [] (accesses_in o args n s))))
      (all_asked (suc block) ss h.1)

  later_blocks : (s : Spot) (a : Asked) → a.at ≡ s → (block : ℕ) (ss : List Spot) → Every (Disjoint s) ss → Every (Apart a) (asked_from o args n block ss)
  later_blocks s a is block [] h = tt
  later_blocks s a is block (t ∷ ts) h =
      let ms = firsts [] (accesses_in o args n t) in
      every_append (Apart a) (asked_in o args n block t ms) (asked_from o args n (suc block) ts)
      (every_image (Apart a) (λ x. record { block = block; at = t; memref = x }) ms (every_any (λ x. Apart a (record { block = block; at = t; memref = x })) (λ x. inr (subst (λ y. Disjoint y t) (sym is) h.0)) ms))
      (later_blocks s a is (suc block) ts h.1)

  all_apart : (block : ℕ) (ss : List Spot) → Pairwise Disjoint ss → Pairwise Apart (asked_from o args n block ss)
  all_apart block [] h = tt
  all_apart block (s ∷ ss) h =
      let ms = firsts [] (accesses_in o args n s) in
      let more = asked_from o args n (suc block) ss in
      pairwise_append Apart (asked_in o args n block s ms) more (pairwise_image Differ Apart (λ x. record { block = block; at = s; memref = x }) (λ x y h. inl h) ms (firsts_differ [] (accesses_in o args n s))) (all_apart (suc block) ss h.1)
      (every_image (λ a. Every (Apart a) more) (λ x. record { block = block; at = s; memref = x }) ms (every_any (λ x. Every (Apart (record { block = block; at = s; memref = x })) more) (λ x. later_blocks s (record { block = block; at = s; memref = x }) refl (suc block) ss h.0) ms))

  -- ---- a placement that may be made
  record MayBe (number : ℕ) (a : Asked) (x : Step) : Type 0 where
    planned_ : IsPlanned o.dma args [] n x
    from : From o args n [] lines hold a x
    named : IsNamed made_by number x

  record At (x : Step) (s : Spot) : Type 0 where
    ty : MemrefType
    element : x.placement.element ≡ ty.element
    region_ : IsOfRegion args n x.placement ty s o.dma
    line : HasLine s n
    reads : x.placement.reads ≡ not (o.dma && is_covered args n x.placement.memref s region_.region)
    writes : x.placement.writes ≡ has_store (uses_there n x.placement.memref s)
    how : x.placement.how ≡ how_over o.dma x.placement.dims
    home : (start_env args []).home x.placement.memref ≡ Some (SlowMemref x.order x.first)

  at_found : (x : Step) → At x (found x.spot n) → IsPlanned o.dma args [] n x
  at_found x p = record { ty = p.ty; element = p.element; region = p.region_; line = p.line; reads = p.reads; writes = p.writes; how = p.how; home = p.home }

  site_planned : (number : ℕ) (x : Name) (ty : MemrefType) (block : Spot) (y : Site) → type_of args x ≡ Some ty → IsSited o args n x ty block y → IsPlanned o.dma args [] n (step_at o args n number x ty y)
  site_planned number x ty block y typed h =
      let made = step_at o args n number x ty y in
      at_found made (subst (At made) (sym (subst (λ t. found y.at t ≡ y.at) lines (found_lined y.at n h.loop))) (record {
        ty = ty;
        element = refl;
        region_ = record { loop = h.loop; memref = has_argument args x ty typed; region = y.region; is = h.region; dims = refl };
        line = subst (HasLine y.at) lines (line_lined y.at n h.loop);
        reads = refl;
        writes = refl;
        how = refl;
        home = home_is args [] x ty hold typed;
      }))

  site_may_be : (number : ℕ) (a : Asked) (ty : MemrefType) (ds : List region.Dimension) → IsAsked a → type_of args a.memref ≡ Some ty → region_at o args n a.memref ty a.at ≡ Ok ds
      → MayBe number a (step_at o args n number a.memref ty (hoisted o args n a.memref ty (times a.memref (accesses_in o args n a.at)) (loops_round a.at n) (record { at = a.at; region = ds })))
  site_may_be number a ty ds k typed is =
      let y = hoisted o args n a.memref ty (times a.memref (accesses_in o args n a.at)) (loops_round a.at n) (record { at = a.at; region = ds }) in
      let h = sited o args n a.memref ty a.at ds k.block is in
      record {
        planned_ = site_planned number a.memref ty a.at y typed h;
        from = record { memref = refl; wraps = record { loop = h.loop; block = k.block; holds = h.holds; accesses = h.accesses; some = k.some } };
        named = record { made = λ i. told.by number i; apart = λ i j h. told.slots number i j h };
      }

  -- ---- two placements
  parted : (a b : Asked) (x y : Step) → From o args n [] lines hold a x → From o args n [] lines hold b y → Apart a b → Parted made_by x y
  parted a b x y f g (inl h) = inl (subst (λ k. same_name k x.placement.memref ≡ false) (sym g.memref) (subst (λ k. same_name b.memref k ≡ false) (sym f.memref) h))
  parted a b x y f g (inr d) = by (same_name b.memref a.memref) refl
    where
      by : (t : Bool) → same_name b.memref a.memref ≡ t → Parted made_by x y
      by false e = inl (subst (λ k. same_name k x.placement.memref ≡ false) (sym g.memref) (subst (λ k. same_name b.memref k ≡ false) (sym f.memref) e))
      by true e = inr (wraps_apart a.memref x.spot a.at y.spot b.at n d f.wraps (subst (λ k. Wraps k y.spot b.at n) (same_name-eq b.memref a.memref e) g.wraps))

  -- ---- all placements so far, with what is still asked
  abbrev Before : List Asked → Step → Type 0
  Before rest x = (a : Asked) × From o args n [] lines hold a x × Every (Apart a) rest

  record Good (rest : List Asked) (steps : List Step) : Type 0 where
    named : AllNamed made_by 0 steps
    planned_ : Every (IsPlanned o.dma args [] n) steps
    parted_ : AllParted made_by steps
    from : Every (Before rest) steps

  all_parted : (b : Asked) (rest : List Asked) (y : Step) → From o args n [] lines hold b y → (xs : List Step) → Every (Before (b ∷ rest)) xs → Every (λ x. Parted made_by x y) xs
  all_parted b rest y g xs h = every_weaker (Before (b ∷ rest)) (λ x. Parted made_by x y) (λ x k. parted k.0 b x y k.1 g k.2.0) xs h

  nearer : (b : Asked) (rest : List Asked) (xs : List Step) → Every (Before (b ∷ rest)) xs → Every (Before rest) xs
  nearer b rest xs h = every_weaker (Before (b ∷ rest)) (Before rest) (λ x k. (k.0, k.1, k.2.1)) xs h

  good_more : (b : Asked) (rest : List Asked) (steps : List Step) (x : Step) → Every (Apart b) rest → Good (b ∷ rest) steps → MayBe (length steps) b x → Good rest (steps ++ x ∷ [])
  good_more b rest steps x others h k = record {
    named = named_more 0 (length steps) steps x (omega arith) h.named k.named;
    planned_ = every_append (IsPlanned o.dma args [] n) steps (x ∷ []) h.planned_ (k.planned_, tt);
    parted_ = parted_more steps x h.parted_ (all_parted b rest x k.from steps h.from);
    from = every_append (Before rest) steps (x ∷ []) (nearer b rest steps h.from) ((b, k.from, others), tt);
  }

  own_text : OwnNest (there made_by 0) n
  own_text = (plans_are_plans o m valid written lines []).own_text

  own_arguments : OwnArguments (there made_by 0) args
  own_arguments = (plans_are_plans o m valid written lines []).own_arguments

  -- so the test is met
  met : (b : Asked) (rest : List Asked) (steps : List Step) (x : Step) → Every (Apart b) rest → Good (b ∷ rest) steps → MayBe (length steps) b x → keeps_intervals args (stage_one x.placement x.spot (text_with o args n steps)) ≡ true
  met b rest steps x others h k =
      let g = good_more b rest steps x others h k in
      ap (λ t. keeps_intervals args (stage_one x.placement x.spot (staged_all steps t))) lines
      ∙ one_more_keeps_intervals m valid [] made_by o.dma steps x (record { own_text = own_text; own_arguments = own_arguments; named = g.named; planned = g.planned_; parted = g.parted_ })

  -- ---- what is settled of a memref in a block
  abbrev Settles : List Asked → List Step → Settled → Type 0
  Settles rest steps y = Good rest (steps_with o args n steps y)

  left : (b : Asked) (rest : List Asked) (steps : List Step) → Good (b ∷ rest) steps → Good rest steps
  left b rest steps h = record { named = h.named; planned_ = h.planned_; parted_ = h.parted_; from = nearer b rest steps h.from }

  fitted_settles : (b : Asked) (rest : List Asked) (steps : List Step) (x : Step) (ds : List region.Dimension) (text : Nest) → Every (Apart b) rest → Good (b ∷ rest) steps → MayBe (length steps) b x → Settles rest steps (fitted o args n x ds text)
  fitted_settles b rest steps x ds text others h k = by (nat_lt o.capacity (peak_of text 0)) (keeps_limits args text)
    where
      by : (c l : Bool) → Settles rest steps (cond c (Unstaged cause.Capacity) (cond l (Placed x ds) (Unstaged cause.Size)))
      by true l = left b rest steps h
      by false true = good_more b rest steps x others h k
      by false false = left b rest steps h

  record Same (rest : List Asked) (steps : List Step) (y z : Settled) : Type 0 where
    is : y ≡ z
    good : Settles rest steps z

  tested_same : (b : Asked) (rest : List Asked) (steps : List Step) (x : Step) (ds : List region.Dimension) → Every (Apart b) rest → Good (b ∷ rest) steps → MayBe (length steps) b x
      → Same rest steps (tested o args n x ds (stage_one x.placement x.spot (text_with o args n steps))) (fitted_in o args n x ds (text_with o args n steps))
  tested_same b rest steps x ds others h k =
      let text = stage_one x.placement x.spot (text_with o args n steps) in
      record { is = ap (λ t. cond t (fitted o args n x ds text) (Unstaged cause.Coefficient)) (met b rest steps x others h k); good = fitted_settles b rest steps x ds text others h k }

  region_same : (b : Asked) (rest : List Asked) (steps : List Step) (ty : MemrefType) (r : Result (List region.Dimension) NoRegion) → IsAsked b → Every (Apart b) rest → Good (b ∷ rest) steps → type_of args b.memref ≡ Some ty → region_at o args n b.memref ty b.at ≡ r
      → Same rest steps (settled_from o args n steps b.memref ty b.at r) (fitted_from o args n steps b.memref ty b.at r)
  region_same b rest steps ty (Err e) k others h typed is = record { is = refl; good = left b rest steps h }
  region_same b rest steps ty (Ok ds) k others h typed is =
      let y = hoisted o args n b.memref ty (times b.memref (accesses_in o args n b.at)) (loops_round b.at n) (record { at = b.at; region = ds }) in
      tested_same b rest steps (step_at o args n (length steps) b.memref ty y) y.region others h (site_may_be (length steps) b ty ds k typed is)

  type_same : (b : Asked) (rest : List Asked) (steps : List Step) (ty : Option MemrefType) → IsAsked b → Every (Apart b) rest → Good (b ∷ rest) steps → type_of args b.memref ≡ ty → Same rest steps (settled o args n steps b.memref b.at ty) (fitted_for o args n steps b.memref b.at ty)
  type_same b rest steps None k others h typed = record { is = refl; good = left b rest steps h }
  type_same b rest steps (Some ty) k others h typed = region_same b rest steps ty (region_at o args n b.memref ty b.at) k others h typed refl

  all_same : (rest : List Asked) (so : Planned) → Every IsAsked rest → Pairwise Apart rest → Good rest so.steps → fold (decided o args n) so rest ≡ fold (decided_so o args n) so rest
  all_same [] so each others h = refl
  all_same (b ∷ rest) so each others h =
      let k = type_same b rest so.steps (type_of args b.memref) each.0 others.0 h refl in
      let next = decided_so o args n so b in
      ap (λ y. fold (decided o args n) (with_settled o args n b so y) rest) k.is ∙ all_same rest next each.1 others.1 k.good

  all_steps : planned o args n ≡ untested o args n
  unfolding planned untested
  all_steps =
      let blocks = loops_at o.depth n in
      all_same (asked o args n) (record { steps = []; decisions = [] }) (all_asked 0 blocks (blocks_are_loops o.depth n)) (all_apart 0 blocks (blocks_are_apart o.depth n)) (record { named = tt; planned_ = tt; parted_ = tt; from = tt })

pub plan_needs_no_test : PlanNeedsNoTest
plan_needs_no_test o m valid written lines = all_steps o m valid written lines
