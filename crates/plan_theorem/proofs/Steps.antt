-- The placements of a plan, one more at a time.
use Rattle.std.proofs.Common.{◌≡◌, ◌⊎◌, inl, inr, ℕ, suc, ◌+◌, ◌≤◌, ℤ, List, [], ◌∷◌, ◌++◌, length, Bool, true, false, Option, Some, None, Result, Ok, Err, refl, sym, subst, arith}
use Rattle.std.specs.Prelude.{fold, not, ◌&&◌, nat_lt, if◌then◌else◌}
use Rattle.affine_ast.specs.declared.module.Arg.{Arg}
use Rattle.affine_ast.specs.declared.name.Name.{Name}
use Rattle.affine_ast.specs.declared.types.MemrefType.{MemrefType}
use Rattle.affine_ast.specs.Names.{same_name}
use Rattle.affine_ast.proofs.Names.{same_name-eq}
use Rattle.affine_ast.specs.Nest.{Nest}
use Rattle.affine_ast.specs.Validity.{outside}
use Rattle.direct_meaning.specs.Action.{SlowMemref}
use Rattle.direct_meaning.specs.Memory.{start_env}
use Rattle.valid_laws.proofs.SafeStart.{ArgumentsHold}
use Rattle.boxes.specs.Every.{Every}
use Rattle.nest_domain.specs.declared.plan.Cause.TheVariants as cause
use Rattle.nest_domain.specs.declared.plan.Options.{Options}
use Rattle.nest_domain.specs.Boxes as region
use Rattle.access_region.specs.Faults.{NoRegion}
use Rattle.placement_texts.specs.Fold.{Step, staged_all, Parted, AllParted}
use Rattle.placement_texts.specs.Spots.{Spot, IsLoop, HasLine, Disjoint, found, stage_one}
use Rattle.placement_regions.specs.Sites.{IsOfRegion}
use Rattle.placement_covers.specs.Law.{is_covered}
use Rattle.staged_plans.specs.Plans.{how_over, has_store, uses_there, IsPlanned, IsNamed, AllNamed}
use Rattle.made_names.specs.Made.{made_by}
use Rattle.made_names.proofs.Tells.{told}
use Rattle.peak_laws.specs.Peak.{peak_of}
use Rattle.plan_laws.specs.Limits.{keeps_limits, keeps_intervals}
use Rattle.plan_laws.specs.Sites.{loops_at, loops_round, lined}
use Rattle.plan_laws.specs.Plan.{Site, Asked, Planned, Settled, Unstaged, Placed, firsts, times, type_of, accesses_in, region_at, hoisted, step_at, text_with, tested_in, settled_from, settled, steps_with, decided, asked_in, asked_from, asked, planned}
use Rattle.plan_laws.specs.Law.{IsSited}
use Rattle.plan_laws.proofs.Sited.{every_append, sited}
use Rattle.plan_theorem.proofs.Lists.{Pairwise, every_any, every_weaker, every_image, pairwise_append, pairwise_image}
use Rattle.plan_theorem.proofs.Blocks.{found_lined, line_lined, Loops, blocks_are_loops, blocks_are_apart}
use Rattle.plan_theorem.proofs.Counts.{Wraps, wraps_apart, firsts_accessed, Differ, firsts_differ}
use Rattle.plan_theorem.proofs.Homes.{has_argument, home_is}

-- ---- one step behind a list
named_more : (k number : ℕ) (xs : List Step) (x : Step) → number ≡ k + length xs → AllNamed made_by k xs → IsNamed made_by number x → AllNamed made_by k (xs ++ x ∷ [])
named_more k number [] x e h n = (subst (λ j. IsNamed made_by j x) (let f : number ≡ k = omega (arith, e) in f) n, tt)
named_more k number (y ∷ ys) x e h n = (h.0, named_more (suc k) number ys x (omega (arith, e)) h.1 n)

parted_more : (xs : List Step) (x : Step) → AllParted made_by xs → Every (λ s. Parted made_by s x) xs → AllParted made_by (xs ++ x ∷ [])
parted_more [] x h k = (tt, tt)
parted_more (y ∷ ys) x h k = (every_append (Parted made_by y) ys (x ∷ []) h.0 (k.0, tt), parted_more ys x h.1 k.1)

-- each text on the way keeps to the rule on intervals and to the limits
abbrev pub Keeps : List Arg → Nest → Type 0
Keeps args text = (keeps_intervals args text ≡ true) × (keeps_limits args text ≡ true)

abbrev pub AllKeepLimits : List Arg → List Step → Nest → Type 0
AllKeepLimits args [] n = Unit {0}
AllKeepLimits args (x ∷ xs) n = Keeps args (stage_one x.placement x.spot n) × AllKeepLimits args xs (stage_one x.placement x.spot n)

limits_more : (args : List Arg) (xs : List Step) (x : Step) (n : Nest) → AllKeepLimits args xs n → Keeps args (stage_one x.placement x.spot (staged_all xs n)) → AllKeepLimits args (xs ++ x ∷ []) n
limits_more args [] x n h k = (k, tt)
limits_more args (y ∷ ys) x n h k = (h.0, limits_more args ys x (stage_one y.placement y.spot n) h.1 k)

module _ (o : Options) (args : List Arg) (n : Nest) (symbols : List ℤ) (lines : lined n ≡ n) (hold : ArgumentsHold args outside) where
  -- ---- what is asked of each memref in each block
  -- the block is a loop, and accesses the memref
  record IsAsked (a : Asked) : Type 0 where
    block : IsLoop a.at n
    some : 1 ≤ times a.memref (accesses_in o args n a.at)

  -- another memref, or a block apart
  abbrev pub Other : Asked → Asked → Type 0
  Other a b = (same_name b.memref a.memref ≡ false) ⊎ Disjoint a.at b.at

  asked_is : (block : ℕ) (s : Spot) → IsLoop s n → Every IsAsked (asked_in o args n block s (firsts [] (accesses_in o args n s)))
  asked_is block s h =
      every_image IsAsked (λ m. record { block = block; at = s; memref = m }) (firsts [] (accesses_in o args n s))
      (every_weaker (λ m. 1 ≤ times m (accesses_in o args n s)) (λ m. IsAsked (record { block = block; at = s; memref = m })) (λ m k. record { block = h; some = k }) (firsts [] (accesses_in o args n s)) (firsts_accessed [] (accesses_in o args n s)))

  all_asked : (block : ℕ) (ss : List Spot) → Loops n ss → Every IsAsked (asked_from o args n block ss)
  all_asked block [] h = tt
  all_asked block (s ∷ ss) h = every_append IsAsked (asked_in o args n block s (firsts [] (accesses_in o args n s))) (asked_from o args n (suc block) ss) (asked_is block s h.0) (all_asked (suc block) ss h.1)

  -- those of one block
  one_block : (block : ℕ) (s : Spot) → Pairwise Other (asked_in o args n block s (firsts [] (accesses_in o args n s)))
  one_block block s = pairwise_image Differ Other (λ m. record { block = block; at = s; memref = m }) (λ x y h. inl h) (firsts [] (accesses_in o args n s)) (firsts_differ [] (accesses_in o args n s))

  -- those of a block, and of blocks apart from it
  from_apart : (s : Spot) (a : Asked) → a.at ≡ s → (block : ℕ) (ss : List Spot) → Every (Disjoint s) ss → Every (Other a) (asked_from o args n block ss)
  from_apart s a is block [] h = tt
  from_apart s a is block (t ∷ ts) h =
      every_append (Other a) (asked_in o args n block t (firsts [] (accesses_in o args n t))) (asked_from o args n (suc block) ts)
      (every_image (Other a) (λ m. record { block = block; at = t; memref = m }) (firsts [] (accesses_in o args n t)) (every_any (λ m. Other a (record { block = block; at = t; memref = m })) (λ m. inr (subst (λ x. Disjoint x t) (sym is) h.0)) (firsts [] (accesses_in o args n t))))
      (from_apart s a is (suc block) ts h.1)

  all_others : (block : ℕ) (ss : List Spot) → Pairwise Disjoint ss → Pairwise Other (asked_from o args n block ss)
  all_others block [] h = tt
  all_others block (s ∷ ss) h =
      let ms = firsts [] (accesses_in o args n s) in
      let later = asked_from o args n (suc block) ss in
      pairwise_append Other (asked_in o args n block s ms) later (one_block block s) (all_others (suc block) ss h.1)
      (every_image (λ a. Every (Other a) later) (λ m. record { block = block; at = s; memref = m }) ms (every_any (λ m. Every (Other (record { block = block; at = s; memref = m })) later) (λ m. from_apart s (record { block = block; at = s; memref = m }) refl (suc block) ss h.0) ms))

  -- ---- a placement of a plan
  -- the block that it is of
  pub record From (a : Asked) (x : Step) : Type 0 where
    pub memref : x.placement.memref ≡ a.memref
    pub wraps : Wraps a.memref x.spot a.at n

  abbrev pub Planned_ : Step → Type 0
  Planned_ = IsPlanned o.dma args symbols n

  -- with its loop at another name of its place
  record PlannedAt (x : Step) (s : Spot) : Type 0 where
    ty : MemrefType
    element : x.placement.element ≡ ty.element
    region : IsOfRegion args n x.placement ty s o.dma
    line : HasLine s n
    reads : x.placement.reads ≡ not (o.dma && is_covered args n x.placement.memref s region.region)
    writes : x.placement.writes ≡ has_store (uses_there n x.placement.memref s)
    how : x.placement.how ≡ how_over o.dma x.placement.dims
    home : (start_env args symbols).home x.placement.memref ≡ Some (SlowMemref x.order x.first)

  found_is : (s : Spot) → IsLoop s n → found s n ≡ s
  found_is s h = subst (λ t. found s t ≡ s) lines (found_lined s n h)

  planned_found : (x : Step) → PlannedAt x (found x.spot n) → Planned_ x
  planned_found x p = record { ty = p.ty; element = p.element; region = p.region; line = p.line; reads = p.reads; writes = p.writes; how = p.how; home = p.home }

  planned_at : (number : ℕ) (m : Name) (ty : MemrefType) (block : Spot) (y : Site) → type_of args m ≡ Some ty → IsSited o args n m ty block y → Planned_ (step_at o args n number m ty y)
  planned_at number m ty block y typed h =
      let x = step_at o args n number m ty y in
      planned_found x (subst (PlannedAt x) (sym (found_is y.at h.loop)) (record {
        ty = ty;
        element = refl;
        region = record { loop = h.loop; memref = has_argument args m ty typed; region = y.region; is = h.region; dims = refl };
        line = subst (HasLine y.at) lines (line_lined y.at n h.loop);
        reads = refl;
        writes = refl;
        how = refl;
        home = home_is args symbols m ty hold typed;
      }))

  -- what is settled of a memref in a block
  record IsMade (steps : List Step) (a : Asked) (x : Step) : Type 0 where
    planned : Planned_ x
    from : From a x
    named : IsNamed made_by (length steps) x
    limits : Keeps args (stage_one x.placement x.spot (text_with o args n steps))

  abbrev Settles : List Step → Asked → Settled → Type 0
  Settles steps a (Unstaged c) = Unit {0}
  Settles steps a (Placed x ds) = IsMade steps a x

  made_names : (number : ℕ) (m : Name) (ty : MemrefType) (y : Site) → IsNamed made_by number (step_at o args n number m ty y)
  made_names number m ty y = record { made = λ i. told.by number i; apart = λ i j h. told.slots number i j h }

  tested_made : (steps : List Step) (a : Asked) (x : Step) (ds : List region.Dimension) → Planned_ x → From a x → IsNamed made_by (length steps) x → Settles steps a (tested_in o args n x ds (text_with o args n steps))
  tested_made steps a x ds p f names = by (keeps_intervals args text) (nat_lt o.capacity (peak_of text 0)) (keeps_limits args text) refl refl
    where
      text : Nest
      text = stage_one x.placement x.spot (text_with o args n steps)

      by : (i c l : Bool) → keeps_intervals args text ≡ i → keeps_limits args text ≡ l
          → Settles steps a (if i then (if c then Unstaged cause.Capacity else (if l then Placed x ds else Unstaged cause.Size)) else Unstaged cause.Coefficient)
      by false c l d e = tt
      by true true l d e = tt
      by true false true d e = record { planned = p; from = f; named = names; limits = (d, e) }
      by true false false d e = tt

  region_made : (steps : List Step) (a : Asked) (ty : MemrefType) (r : Result (List region.Dimension) NoRegion) → IsAsked a → type_of args a.memref ≡ Some ty → region_at o args n a.memref ty a.at ≡ r → Settles steps a (settled_from o args n steps a.memref ty a.at r)
  region_made steps a ty (Err e) k typed is = tt
  region_made steps a ty (Ok ds) k typed is =
      let m = a.memref in
      let y = hoisted o args n m ty (times m (accesses_in o args n a.at)) (loops_round a.at n) (record { at = a.at; region = ds }) in
      let h = sited o args n m ty a.at ds k.block is in
      tested_made steps a (step_at o args n (length steps) m ty y) y.region (planned_at (length steps) m ty a.at y typed h)
      (record { memref = refl; wraps = record { loop = h.loop; block = k.block; holds = h.holds; accesses = h.accesses; some = k.some } }) (made_names (length steps) m ty y)

  type_made : (steps : List Step) (a : Asked) (ty : Option MemrefType) → IsAsked a → type_of args a.memref ≡ ty → Settles steps a (settled o args n steps a.memref a.at ty)
  type_made steps a None k typed = tt
  type_made steps a (Some ty) k typed = region_made steps a ty (region_at o args n a.memref ty a.at) k typed refl

  -- ---- two placements
  differs : (a b : Asked) (x y : Step) → From a x → From b y → Other a b → Parted made_by x y
  differs a b x y f g (inl h) = inl (subst (λ k. same_name k x.placement.memref ≡ false) (sym g.memref) (subst (λ k. same_name b.memref k ≡ false) (sym f.memref) h))
  differs a b x y f g (inr d) = by (same_name b.memref a.memref) refl
    where
      by : (t : Bool) → same_name b.memref a.memref ≡ t → Parted made_by x y
      by false e = inl (subst (λ k. same_name k x.placement.memref ≡ false) (sym g.memref) (subst (λ k. same_name b.memref k ≡ false) (sym f.memref) e))
      by true e = inr (wraps_apart a.memref x.spot a.at y.spot b.at n d f.wraps (subst (λ k. Wraps k y.spot b.at n) (same_name-eq b.memref a.memref e) g.wraps))

  -- ---- all placements so far, with what is still asked
  abbrev pub Behind_ : List Asked → Step → Type 0
  Behind_ rest x = (a : Asked) × From a x × Every (Other a) rest

  pub record Stands (rest : List Asked) (steps : List Step) : Type 0 where
    pub named : AllNamed made_by 0 steps
    pub planned : Every Planned_ steps
    pub parted : AllParted made_by steps
    pub from : Every (Behind_ rest) steps
    pub limits : AllKeepLimits args steps (lined n)

  nearer : (b : Asked) (rest : List Asked) (xs : List Step) → Every (Behind_ (b ∷ rest)) xs → Every (Behind_ rest) xs
  nearer b rest xs h = every_weaker (Behind_ (b ∷ rest)) (Behind_ rest) (λ x k. (k.0, k.1, k.2.1)) xs h

  all_differ : (b : Asked) (rest : List Asked) (y : Step) → From b y → (xs : List Step) → Every (Behind_ (b ∷ rest)) xs → Every (λ x. Parted made_by x y) xs
  all_differ b rest y g xs h = every_weaker (Behind_ (b ∷ rest)) (λ x. Parted made_by x y) (λ x k. differs k.0 b x y k.1 g k.2.0) xs h

  one_more : (b : Asked) (rest : List Asked) (steps : List Step) (y : Settled) → Every (Other b) rest → Stands (b ∷ rest) steps → Settles steps b y → Stands rest (steps_with o args n steps y)
  one_more b rest steps (Unstaged c) others h k = record { named = h.named; planned = h.planned; parted = h.parted; from = nearer b rest steps h.from; limits = h.limits }
  one_more b rest steps (Placed x ds) others h k = record {
    named = named_more 0 (length steps) steps x (omega arith) h.named k.named;
    planned = every_append Planned_ steps (x ∷ []) h.planned (k.planned, tt);
    parted = parted_more steps x h.parted (all_differ b rest x k.from steps h.from);
    from = every_append (Behind_ rest) steps (x ∷ []) (nearer b rest steps h.from) ((b, k.from, others), tt);
    limits = limits_more args steps x (lined n) h.limits k.limits;
  }

  all_stand : (rest : List Asked) (so : Planned) → Every IsAsked rest → Pairwise Other rest → Stands rest so.steps → Stands [] (fold (decided o args n) so rest).steps
  all_stand [] so each others h = h
  all_stand (b ∷ rest) so each others h =
      let y = settled o args n so.steps b.memref b.at (type_of args b.memref) in
      all_stand rest (decided o args n so b) each.1 others.1 (one_more b rest so.steps y others.0 h (type_made so.steps b (type_of args b.memref) each.0 refl))

  pub planned_stands : Stands [] (planned o args n).steps
  unfolding planned
  planned_stands =
      let blocks = loops_at o.depth n in
      all_stand (asked o args n) (record { steps = []; decisions = [] }) (all_asked 0 blocks (blocks_are_loops o.depth n)) (all_others 0 blocks (blocks_are_apart o.depth n)) (record { named = tt; planned = tt; parted = tt; from = tt; limits = tt })
