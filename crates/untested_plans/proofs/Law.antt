-- The plan without its test on intervals, memref by memref, and what its placements so far leave alone.
use Rattle.std.proofs.Common.{◌≡◌, ◌⊎◌, inl, inr, ℕ, suc, ◌+◌, ◌≤◌, List, [], ◌∷◌, ◌++◌, length, Bool, true, false, cond, Option, Some, None, Result, Ok, Err, refl, sym, ap, ◌∙◌, subst, arith}
use Rattle.std.specs.Prelude.{fold, not, ◌&&◌, nat_lt}
use Rattle.affine_ast.specs.declared.module.Arg.{Arg}
use Rattle.affine_ast.specs.declared.module.ArgKind.{ArgKind}
use Rattle.affine_ast.specs.declared.module.ArgKind.TheVariants as kind
use Rattle.affine_ast.specs.declared.module.Module.{Module}
use Rattle.affine_ast.specs.declared.name.Name.{Name}
use Rattle.affine_ast.specs.declared.types.Element.TheVariants.{I8}
use Rattle.affine_ast.specs.declared.types.MemrefType.{MemrefType}
use Rattle.affine_ast.specs.Names.{same_name}
use Rattle.affine_ast.proofs.Names.{same_name-eq, same_name-sym, same_name-made}
use Rattle.affine_ast.specs.Nest.{Nest, Nothing, Loop, Branch, Does, nest}
use Rattle.affine_ast.specs.Validity.{outside, IsValid}
use Rattle.direct_meaning.specs.Action.{SlowMemref}
use Rattle.direct_meaning.specs.Memory.{start_env}
use Rattle.valid_laws.proofs.SafeStart.{ArgumentsHold}
use Rattle.boxes.specs.Every.{Every}
use Rattle.nest_domain.specs.declared.plan.Cause.TheVariants as cause
use Rattle.nest_domain.specs.declared.plan.Options.{Options}
use Rattle.nest_domain.specs.Boxes as region
use Rattle.nest_domain.specs.Domains.{symbol_names}
use Rattle.nest_domain.specs.Ways.{loop_names}
use Rattle.access_region.specs.Faults.{NoRegion}
use Rattle.placement_texts.specs.Fold.{Step, staged_all, Parted, AllParted}
use Rattle.placement_texts.specs.Own.{OwnNest}
use Rattle.placement_texts.specs.Spots.{Spot, IsLoop, HasLine, Disjoint, found, stage_one}
use Rattle.placement_texts.specs.Template.{fast_name}
use Rattle.placement_texts.specs.Valid.{OwnArguments, HasArgument}
use Rattle.placement_regions.specs.Sites.{way_to, dims_over, IsOfRegion}
use Rattle.placement_regions.proofs.Theorem.{opens}
use Rattle.placement_covers.specs.Law.{is_covered}
use Rattle.staged_plans.specs.Plans.{how_over, has_store, uses_there, IsPlanned, IsNamed, AllNamed}
use Rattle.made_names.specs.Made.{made_name, made_by}
use Rattle.made_names.proofs.Tells.{told}
use Rattle.peak_laws.specs.Peak.{peak_of}
use Rattle.plan_laws.specs.Limits.{keeps_limits, keeps_intervals}
use Rattle.plan_laws.specs.Sites.{loops_at, lined}
use Rattle.plan_laws.specs.Plan.{Site, Asked, Planned, Settled, Unstaged, Placed, firsts, times, type_of, accesses_in, region_at, placement_at, step_at, text_with, fitted, tested, settled_from, settled, steps_with, with_settled, decided, asked_in, asked_from, asked, planned}
use Rattle.plan_laws.specs.Law.{IsSited}
use Rattle.plan_laws.proofs.Sited.{every_append, sited}
use Rattle.plan_theorem.specs.Law.{of_text, IsWritten}
use Rattle.plan_theorem.proofs.Lists.{Pairwise, every_any, every_weaker, every_image, pairwise_append, pairwise_image}
use Rattle.plan_theorem.proofs.Blocks.{found_lined, line_lined, Loops, blocks_are_loops, blocks_are_apart}
use Rattle.plan_theorem.proofs.Counts.{Wraps, wraps_apart, firsts_accessed, Differ, firsts_differ}
use Rattle.plan_theorem.proofs.Homes.{has_argument, home_is}
use Rattle.plan_theorem.proofs.Theorem.{plans_are_plans}
use Rattle.lined_modules.specs.Law.{Lined, SameButLines}
use Rattle.lined_modules.proofs.Texts.{lined_twice}
use Rattle.lined_modules.proofs.Ways.{way_names}
use Rattle.lined_modules.proofs.Plans.{way_lined, uses_there_lined, region_lined, covered_lined, stores_lined}
use Rattle.lined_modules.proofs.Law.{all_are_lined, lines_have_no_part}
use Rattle.placed_intervals.specs.Law.{ArePlaced}
use Rattle.placed_intervals.specs.Untested.{fitted_in, fitted_from, fitted_for, decided_so, untested}
use Rattle.placed_intervals.proofs.Law.{one_more_keeps_intervals}
use Rattle.text_limits.specs.Leaving.{LeavesAlone}
use Rattle.text_limits.proofs.Lined.{planned_are_described}
use Rattle.untested_plans.specs.Law.{PlanIsUntested, PlacementsStandAside, AreAside, decided_of, site_from}

-- ---- names
own_lined : (own : Name → Bool) (n : Nest) → OwnNest own n → OwnNest own (lined n)
own_lined own Nothing h = tt
own_lined own (Loop line v l u s body rest) h = (h.0, h.1, h.2, own_lined own body h.3, own_lined own rest h.4)
own_lined own (Branch line set names first has other rest) h = (h.0, own_lined own first h.1, own_lined own other h.2, own_lined own rest h.3)
own_lined own (Does line q rest) h = (h.0, own_lined own rest h.1)

-- a memref argument is a text's
not_made : (t : Bool) → not t ≡ true → t ≡ false
not_made true h = absurd (let z : ⊥ = cc in z)
not_made false h = refl

argument_unmade : (args : List Arg) (x : Name) (k : ArgKind) → OwnArguments of_text args → HasArgument args x k → x.made ≡ false
argument_unmade [] x k h a = absurd a
argument_unmade (arg ∷ args) x k h (inl e) = ap (λ n. n.made) (sym e.0) ∙ not_made arg.name.made h.0
argument_unmade (arg ∷ args) x k h (inr a) = argument_unmade args x k h.1 a

-- ---- one step behind a list
named_more : (k number : ℕ) (xs : List Step) (x : Step) → number ≡ k + length xs → AllNamed made_by k xs → IsNamed made_by number x → AllNamed made_by k (xs ++ x ∷ [])
named_more k number [] x e h n = (subst (λ j. IsNamed made_by j x) (let f : number ≡ k = omega (arith, e) in f) n, tt)
named_more k number (y ∷ ys) x e h n = (h.0, named_more (suc k) number ys x (omega (arith, e)) h.1 n)

parted_more : (xs : List Step) (x : Step) → AllParted made_by xs → Every (λ s. Parted made_by s x) xs → AllParted made_by (xs ++ x ∷ [])
parted_more [] x h k = (tt, tt)
parted_more (y ∷ ys) x h k = (every_append (Parted made_by y) ys (x ∷ []) h.0 (k.0, tt), parted_more ys x h.1 k.1)

module _ (o : Options) (m : Module) (valid : IsValid m) (written : IsWritten m) where
  abbrev args : List Arg
  args = m.args

  abbrev n : Nest
  n = nest m.body

  hold : ArgumentsHold m.args outside
  hold = (opens m valid).arguments

  -- ---- what is asked of each memref in each block
  record IsAsked (a : Asked) : Type 0 where
    block : IsLoop a.at n
    some : 1 ≤ times a.memref (accesses_in o args n a.at)

  abbrev Apart : Asked → Asked → Type 0
  Apart a b = (same_name b.memref a.memref ≡ false) ⊎ Disjoint a.at b.at

  all_asked : (block : ℕ) (ss : List Spot) → Loops n ss → Every IsAsked (asked_from o args n block ss)
  all_asked block [] h = tt
  all_asked block (s ∷ ss) h =
      let ms = firsts [] (accesses_in o args n s) in
      every_append IsAsked (asked_in o args n block s ms) (asked_from o args n (suc block) ss)
      (every_image IsAsked (λ x. record { block = block; at = s; memref = x }) ms
      (every_weaker (λ x. 1 ≤ times x (accesses_in o args n s)) (λ x. IsAsked (record { block = block; at = s; memref = x })) (λ x k. record { block = h.0; some = k }) ms (firsts_accessed [] (accesses_in o args n s))))
      (all_asked (suc block) ss h.1)

  later_blocks : (s : Spot) (a : Asked) → a.at ≡ s → (block : ℕ) (ss : List Spot) → Every (Disjoint s) ss → Every (Apart a) (asked_from o args n block ss)
  later_blocks s a is block [] h = tt
  later_blocks s a is block (t ∷ ts) h =
      let ms = firsts [] (accesses_in o args n t) in
      every_append (Apart a) (asked_in o args n block t ms) (asked_from o args n (suc block) ts)
      (every_image (Apart a) (λ x. record { block = block; at = t; memref = x }) ms (every_any (λ x. Apart a (record { block = block; at = t; memref = x })) (λ x. inr (subst (λ y. Disjoint y t) (sym is) h.0)) ms))
      (later_blocks s a is (suc block) ts h.1)

  all_apart : (block : ℕ) (ss : List Spot) → Pairwise Disjoint ss → Pairwise Apart (asked_from o args n block ss)
  all_apart block [] h = tt
  all_apart block (s ∷ ss) h =
      let ms = firsts [] (accesses_in o args n s) in
      let more = asked_from o args n (suc block) ss in
      pairwise_append Apart (asked_in o args n block s ms) more (pairwise_image Differ Apart (λ x. record { block = block; at = s; memref = x }) (λ x y h. inl h) ms (firsts_differ [] (accesses_in o args n s))) (all_apart (suc block) ss h.1)
      (every_image (λ a. Every (Apart a) more) (λ x. record { block = block; at = s; memref = x }) ms (every_any (λ x. Every (Apart (record { block = block; at = s; memref = x })) more) (λ x. later_blocks s (record { block = block; at = s; memref = x }) refl (suc block) ss h.0) ms))

  -- ---- the same module with a line for each statement
  abbrev of_lines : Lined m
  of_lines = all_are_lined m

  abbrev m' : Module
  m' = of_lines.module_

  same : SameButLines m m'
  same = lines_have_no_part m m' of_lines.is

  lines : lined (nest m'.body) ≡ nest m'.body
  lines = ap lined of_lines.is.body ∙ lined_twice n ∙ sym of_lines.is.body

  written_too : IsWritten m'
  written_too = record { names = subst (OwnNest of_text) (sym of_lines.is.body) (own_lined of_text n written.names); arguments = subst (OwnArguments of_text) (sym of_lines.is.arguments) written.arguments }

  -- a loop stands there, too
  there_too : (s : Spot) → IsLoop s n → IsLoop s (lined n)
  there_too s h =
      let any = placement_at o args n 0 (made_name 0 0) (record { sizes = []; element = I8; space = 0 }) (record { at = s; region = [] }) in
      subst (λ t. IsLoop t (lined n)) (found_lined s n h) (planned_are_described any s n [] h tt tt).loop

  -- ---- a placement that may be made
  -- it is of this memref in this block
  record From (a : Asked) (x : Step) : Type 0 where
    memref : x.placement.memref ≡ a.memref
    wraps : Wraps a.memref x.spot a.at n
    made : (fast_name x.placement.name).made ≡ true

  record MayBe (number : ℕ) (a : Asked) (x : Step) : Type 0 where
    planned_ : IsPlanned o.dma args [] (lined n) x
    from : From a x
    named : IsNamed made_by number x

  record At (x : Step) (s : Spot) : Type 0 where
    ty : MemrefType
    element : x.placement.element ≡ ty.element
    region_ : IsOfRegion args (lined n) x.placement ty s o.dma
    line : HasLine s (lined n)
    reads : x.placement.reads ≡ not (o.dma && is_covered args (lined n) x.placement.memref s region_.region)
    writes : x.placement.writes ≡ has_store (uses_there (lined n) x.placement.memref s)
    how : x.placement.how ≡ how_over o.dma x.placement.dims
    home : (start_env args []).home x.placement.memref ≡ Some (SlowMemref x.order x.first)

  at_found : (x : Step) → At x (found x.spot (lined n)) → IsPlanned o.dma args [] (lined n) x
  at_found x p = record { ty = p.ty; element = p.element; region = p.region_; line = p.line; reads = p.reads; writes = p.writes; how = p.how; home = p.home }

  site_planned : (number : ℕ) (x : Name) (ty : MemrefType) (block : Spot) (y : Site) → type_of args x ≡ Some ty → IsSited o args n x ty block y → IsPlanned o.dma args [] (lined n) (step_at o args n number x ty y)
  site_planned number x ty block y typed h =
      let made = step_at o args n number x ty y in
      at_found made (subst (At made) (sym (found_lined y.at n h.loop)) (record {
        ty = ty;
        element = refl;
        region_ = record {
          loop = there_too y.at h.loop;
          memref = has_argument args x ty typed;
          region = y.region;
          is = region_lined args n x y.at ty.sizes o.dma ∙ h.region;
          dims = ap (λ ns. dims_over (symbol_names args ++ ns) y.region ty.sizes) (sym (ap loop_names (way_lined y.at n) ∙ way_names (way_to y.at n)));
        };
        line = line_lined y.at n h.loop;
        reads = ap (λ b. not (o.dma && b)) (sym (covered_lined args n x y.at y.region));
        writes = sym (ap has_store (uses_there_lined n x y.at) ∙ stores_lined (uses_there n x y.at));
        how = refl;
        home = home_is args [] x ty hold typed;
      }))

  site_may_be : (number : ℕ) (a : Asked) (ty : MemrefType) (ds : List region.Dimension) → IsAsked a → type_of args a.memref ≡ Some ty → region_at o args n a.memref ty a.at ≡ Ok ds
      → MayBe number a (step_at o args n number a.memref ty (site_from o m a.memref ty a.at ds))
  site_may_be number a ty ds k typed is =
      let h = sited o args n a.memref ty a.at ds k.block is in
      record {
        planned_ = site_planned number a.memref ty a.at (site_from o m a.memref ty a.at ds) typed h;
        from = record { memref = refl; wraps = record { loop = h.loop; block = k.block; holds = h.holds; accesses = h.accesses; some = k.some }; made = refl };
        named = record { made = λ i. told.by number i; apart = λ i j h. told.slots number i j h };
      }

  -- ---- two placements
  -- a later memref's loop, and that of a placement before
  loops_part : (a b : Asked) (x : Step) (t : Spot) → From a x → Wraps b.memref t b.at n → Apart a b → (same_name b.memref x.placement.memref ≡ false) ⊎ Disjoint t x.spot
  loops_part a b x t f g (inl h) = inl (subst (λ k. same_name b.memref k ≡ false) (sym f.memref) h)
  loops_part a b x t f g (inr d) = by (same_name b.memref a.memref) refl
    where
      by : (c : Bool) → same_name b.memref a.memref ≡ c → (same_name b.memref x.placement.memref ≡ false) ⊎ Disjoint t x.spot
      by false e = inl (subst (λ k. same_name b.memref k ≡ false) (sym f.memref) e)
      by true e = inr (wraps_apart a.memref x.spot a.at t b.at n d f.wraps (subst (λ k. Wraps k t b.at n) (same_name-eq b.memref a.memref e) g))

  parted : (a b : Asked) (x y : Step) → From a x → From b y → Apart a b → Parted made_by x y
  parted a b x y f g h = subst (λ k. (same_name k x.placement.memref ≡ false) ⊎ Disjoint y.spot x.spot) (sym g.memref) (loops_part a b x y.spot f g.wraps h)

  -- ---- all placements so far, with what is still asked
  abbrev Before : List Asked → Step → Type 0
  Before rest x = (a : Asked) × From a x × Every (Apart a) rest

  record Good (rest : List Asked) (steps : List Step) : Type 0 where
    named : AllNamed made_by 0 steps
    planned_ : Every (IsPlanned o.dma args [] (lined n)) steps
    parted_ : AllParted made_by steps
    from : Every (Before rest) steps

  all_parted : (b : Asked) (rest : List Asked) (y : Step) → From b y → (xs : List Step) → Every (Before (b ∷ rest)) xs → Every (λ x. Parted made_by x y) xs
  all_parted b rest y g xs h = every_weaker (Before (b ∷ rest)) (λ x. Parted made_by x y) (λ x k. parted k.0 b x y k.1 g k.2.0) xs h

  nearer : (b : Asked) (rest : List Asked) (xs : List Step) → Every (Before (b ∷ rest)) xs → Every (Before rest) xs
  nearer b rest xs h = every_weaker (Before (b ∷ rest)) (Before rest) (λ x k. (k.0, k.1, k.2.1)) xs h

  good_more : (b : Asked) (rest : List Asked) (steps : List Step) (x : Step) → Every (Apart b) rest → Good (b ∷ rest) steps → MayBe (length steps) b x → Good rest (steps ++ x ∷ [])
  good_more b rest steps x others h k = record {
    named = named_more 0 (length steps) steps x (omega arith) h.named k.named;
    planned_ = every_append (IsPlanned o.dma args [] (lined n)) steps (x ∷ []) h.planned_ (k.planned_, tt);
    parted_ = parted_more steps x h.parted_ (all_parted b rest x k.from steps h.from);
    from = every_append (Before rest) steps (x ∷ []) (nearer b rest steps h.from) ((b, k.from, others), tt);
  }

  placed_too : (xs : List Step) → AllNamed made_by 0 xs → Every (IsPlanned o.dma args [] (lined n)) xs → AllParted made_by xs → ArePlaced m' [] made_by o.dma xs
  placed_too xs named_ all parted__ =
      let own = plans_are_plans o m' (same.valid valid) written_too lines [] in
      record {
        own_text = own.own_text;
        own_arguments = own.own_arguments;
        named = named_;
        planned = subst (λ as_. Every (IsPlanned o.dma as_ [] (nest m'.body)) xs) (sym of_lines.is.arguments) (subst (λ k. Every (IsPlanned o.dma args [] k) xs) (sym of_lines.is.body) all);
        parted = parted__;
      }

  -- so the test is met
  met : (b : Asked) (rest : List Asked) (steps : List Step) (x : Step) → Every (Apart b) rest → Good (b ∷ rest) steps → MayBe (length steps) b x → keeps_intervals args (stage_one x.placement x.spot (text_with o args n steps)) ≡ true
  met b rest steps x others h k =
      let g = good_more b rest steps x others h k in
      (λ i. keeps_intervals (sym of_lines.is.arguments i) (stage_one x.placement x.spot (staged_all steps (sym of_lines.is.body i))))
      ∙ one_more_keeps_intervals m' (same.valid valid) [] made_by o.dma steps x (placed_too (steps ++ x ∷ []) g.named g.planned_ g.parted_)

  -- ---- what is settled of a memref in a block
  abbrev Settles : List Asked → List Step → Settled → Type 0
  Settles rest steps y = Good rest (steps_with o args n steps y)

  left : (b : Asked) (rest : List Asked) (steps : List Step) → Good (b ∷ rest) steps → Good rest steps
  left b rest steps h = record { named = h.named; planned_ = h.planned_; parted_ = h.parted_; from = nearer b rest steps h.from }

  fitted_settles : (b : Asked) (rest : List Asked) (steps : List Step) (x : Step) (ds : List region.Dimension) (text : Nest) → Every (Apart b) rest → Good (b ∷ rest) steps → MayBe (length steps) b x → Settles rest steps (fitted o args n x ds text)
  fitted_settles b rest steps x ds text others h k = by (nat_lt o.capacity (peak_of text 0)) (keeps_limits args text)
    where
      by : (c l : Bool) → Settles rest steps (cond c (Unstaged cause.Capacity) (cond l (Placed x ds) (Unstaged cause.Size)))
      by true l = left b rest steps h
      by false true = good_more b rest steps x others h k
      by false false = left b rest steps h

  record Same (rest : List Asked) (steps : List Step) (y z : Settled) : Type 0 where
    is : y ≡ z
    good : Settles rest steps z

  tested_same : (b : Asked) (rest : List Asked) (steps : List Step) (x : Step) (ds : List region.Dimension) → Every (Apart b) rest → Good (b ∷ rest) steps → MayBe (length steps) b x
      → Same rest steps (tested o args n x ds (stage_one x.placement x.spot (text_with o args n steps))) (fitted_in o args n x ds (text_with o args n steps))
  tested_same b rest steps x ds others h k =
      let text = stage_one x.placement x.spot (text_with o args n steps) in
      record { is = ap (λ t. cond t (fitted o args n x ds text) (Unstaged cause.Coefficient)) (met b rest steps x others h k); good = fitted_settles b rest steps x ds text others h k }

  region_same : (b : Asked) (rest : List Asked) (steps : List Step) (ty : MemrefType) (r : Result (List region.Dimension) NoRegion) → IsAsked b → Every (Apart b) rest → Good (b ∷ rest) steps → type_of args b.memref ≡ Some ty → region_at o args n b.memref ty b.at ≡ r
      → Same rest steps (settled_from o args n steps b.memref ty b.at r) (fitted_from o args n steps b.memref ty b.at r)
  region_same b rest steps ty (Err e) k others h typed is = record { is = refl; good = left b rest steps h }
  region_same b rest steps ty (Ok ds) k others h typed is =
      let y = site_from o m b.memref ty b.at ds in
      tested_same b rest steps (step_at o args n (length steps) b.memref ty y) y.region others h (site_may_be (length steps) b ty ds k typed is)

  type_same : (b : Asked) (rest : List Asked) (steps : List Step) (ty : Option MemrefType) → IsAsked b → Every (Apart b) rest → Good (b ∷ rest) steps → type_of args b.memref ≡ ty → Same rest steps (settled o args n steps b.memref b.at ty) (fitted_for o args n steps b.memref b.at ty)
  type_same b rest steps None k others h typed = record { is = refl; good = left b rest steps h }
  type_same b rest steps (Some ty) k others h typed = region_same b rest steps ty (region_at o args n b.memref ty b.at) k others h typed refl

  one_same : (b : Asked) (rest : List Asked) (steps : List Step) → IsAsked b → Every (Apart b) rest → Good (b ∷ rest) steps → Same rest steps (settled o args n steps b.memref b.at (type_of args b.memref)) (fitted_for o args n steps b.memref b.at (type_of args b.memref))
  one_same b rest steps k others h = type_same b rest steps (type_of args b.memref) k others h refl

  all_same : (rest : List Asked) (so : Planned) → Every IsAsked rest → Pairwise Apart rest → Good rest so.steps → fold (decided o args n) so rest ≡ fold (decided_so o args n) so rest
  all_same [] so each others h = refl
  all_same (b ∷ rest) so each others h =
      let k = one_same b rest so.steps each.0 others.0 h in
      ap (λ y. fold (decided o args n) (with_settled o args n b so y) rest) k.is ∙ all_same rest (decided_so o args n so b) each.1 others.1 k.good

  -- ---- from the first memref on
  abbrev nothing : Planned
  nothing = record { steps = []; decisions = [] }

  good_nothing : (rest : List Asked) → Good rest []
  good_nothing rest = record { named = tt; planned_ = tt; parted_ = tt; from = tt }

  each_asked : Every IsAsked (asked o args n)
  each_asked = all_asked 0 (loops_at o.depth n) (blocks_are_loops o.depth n)

  asked_apart : Pairwise Apart (asked o args n)
  asked_apart = all_apart 0 (loops_at o.depth n) (blocks_are_apart o.depth n)

  all_steps : planned o args n ≡ untested o args n
  unfolding planned untested
  all_steps = all_same (asked o args n) nothing each_asked asked_apart (good_nothing (asked o args n))

  -- ---- the next memref
  record Next (a : Asked) (rest : List Asked) (so : Planned) : Type 0 where
    asked_ : IsAsked a
    good : Good (a ∷ rest) so.steps

  next : (before : List Asked) (a : Asked) (rest : List Asked) (so : Planned) → Every IsAsked (before ++ a ∷ rest) → Pairwise Apart (before ++ a ∷ rest) → Good (before ++ a ∷ rest) so.steps → Next a rest (fold (decided_so o args n) so before)
  next [] a rest so each others h = record { asked_ = each.0; good = h }
  next (b ∷ before) a rest so each others h =
      next before a rest (decided_so o args n so b) each.1 others.1 (one_same b (before ++ a ∷ rest) so.steps each.0 others.0 h).good

  loop_of : (rest : List Asked) (x : Step) → Before rest x → IsLoop x.spot n
  loop_of rest x k = k.1.wraps.loop

  leaves : (a : Asked) (rest : List Asked) (x : Step) (ty : MemrefType) (ds : List region.Dimension) → IsAsked a → type_of args a.memref ≡ Some ty → region_at o args n a.memref ty a.at ≡ Ok ds → Before (a ∷ rest) x
      → LeavesAlone a.memref (site_from o m a.memref ty a.at ds).at x.placement x.spot
  leaves a rest x ty ds k typed is b = record {
    fast = same_name-sym a.memref (fast_name x.placement.name) ∙ same_name-made (fast_name x.placement.name) a.memref b.1.made (argument_unmade args a.memref (kind.Memref ty) written.arguments (has_argument args a.memref ty typed));
    apart = loops_part b.0 a x (site_from o m a.memref ty a.at ds).at b.1 (site_may_be 0 a ty ds k typed is).from.wraps b.2.0;
  }

  stand_aside : (before : List Asked) (a : Asked) (after : List Asked) → asked o args n ≡ before ++ a ∷ after → AreAside o m a.memref a.at (decided_of o m before).steps
  stand_aside before a after e =
      let k = next before a after nothing (subst (Every IsAsked) e each_asked) (subst (Pairwise Apart) e asked_apart) (good_nothing (before ++ a ∷ after)) in
      let steps = (decided_of o m before).steps in
      record {
        loops = every_weaker (Before (a ∷ after)) (λ x. IsLoop x.spot n) (loop_of (a ∷ after)) steps k.good.from;
        alone = λ ty ds typed is. every_weaker (Before (a ∷ after)) (λ x. LeavesAlone a.memref (site_from o m a.memref ty a.at ds).at x.placement x.spot) (λ x b. leaves a after x ty ds k.asked_ typed is b) steps k.good.from;
      }

pub plan_is_untested : PlanIsUntested
plan_is_untested o m valid written = all_steps o m valid written

pub placements_stand_aside : PlacementsStandAside
placements_stand_aside o m valid written before a after e = stand_aside o m valid written before a after e
