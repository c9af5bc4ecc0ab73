-- The law of a plan.
use Rattle.std.proofs.Common.{◌≡◌, ◌⊎◌, inl, inr, ℕ, zero, suc, ◌+◌, ◌≤◌, ℤ, List, [], ◌∷◌, ◌++◌, length, Bool, true, false, Option, Some, None, refl, sym, ap, ◌∙◌, subst, arith}
use Rattle.std.specs.Prelude.{not, ◌&&◌, fold}
use Rattle.std.proofs.lemmas.Bool.{le-leb}
use Rattle.affine_ast.specs.declared.image.Image.{Image}
use Rattle.affine_ast.specs.declared.module.Arg.{Arg}
use Rattle.affine_ast.specs.declared.module.ArgKind.TheVariants as kind
use Rattle.affine_ast.specs.declared.module.Module.{Module}
use Rattle.affine_ast.specs.declared.name.Name.{Name}
use Rattle.affine_ast.specs.declared.types.MemrefType.{MemrefType}
use Rattle.affine_ast.specs.Names.{same_name}
use Rattle.affine_ast.proofs.Names.{same_name-sym}
use Rattle.affine_ast.specs.Nest.{Plain, Nest, Value, Load, Store, RawLoad, RawStore, Constant, Binary, Cast, Alloc, Dealloc, Start, Wait, Return, nest}
use Rattle.affine_ast.specs.PlainLimits.{plain_fault}
use Rattle.affine_ast.specs.Sizes.{product}
use Rattle.affine_ast.specs.Validity.{IsValid, outside}
use Rattle.direct_meaning.specs.Action.{SlowMemref}
use Rattle.direct_meaning.specs.Direct.{first_state}
use Rattle.direct_meaning.specs.Memory.{Fits, slow_list, empty_env, start_env}
use Rattle.direct_meaning.specs.Static.{Env}
use Rattle.nest_domain.specs.Ways.{loop_count}
use Rattle.nest_domain.specs.Domains.{symbol_count}
use Rattle.boxes.specs.Every.{Every}
use Rattle.placement_texts.specs.Each.{Each}
use Rattle.placement_texts.specs.Fold.{Step, IsSlow, there, Fits as Suited_, AllFit, IsReady, Parted, AllParted, AllApart, numbers_at}
use Rattle.placement_texts.specs.Mapped.{Together}
use Rattle.placement_texts.specs.OneTag.{InText, TagIsOne}
use Rattle.placement_texts.specs.Own.{OwnNest}
use Rattle.placement_texts.specs.Regions.{Apart, Tidy, OwnDims}
use Rattle.placement_texts.specs.Spots.{Spot, Disjoint, found, stage_one, FineAt}
use Rattle.placement_texts.specs.Template.{Placement, dim_sizes, dim_extents, slow_type}
use Rattle.placement_texts.specs.Valid.{HasArgument, OwnArguments, AllPass, StagesArgument}
use Rattle.placement_texts.proofs.ApartValid.{Beside, all_apart}
use Rattle.placement_texts.proofs.Folded.{alike_itself, later, dims_later, suits, all_ready}
use Rattle.placement_texts.proofs.FoundSpots.{found_disjoint}
use Rattle.placement_texts.proofs.OneTag.{tags_together}
use Rattle.placement_texts.proofs.OneTagStaged.{one_tag_staged}
use Rattle.placement_texts.proofs.OwnStaged.{nest_more, staged_own}
use Rattle.placement_texts.proofs.SpotRun.{each_both}
use Rattle.staging_laws.specs.Joined.{Suited}
use Rattle.staging_laws.specs.Law.{flat_spans, Sized, Kept, Allows, AllAllow}
use Rattle.staging_laws.specs.Spared.{AtLoop, StoresAll}
use Rattle.staging_laws.proofs.Plan.{plan_agrees}
use Rattle.plain_inputs.proofs.Inputs.{Stands, input_stands, in_text, starts_are_slow, inputs_are_plain, inputs_are_quiet}
use Rattle.placement_aside.specs.Law.{ReleaseIsOne, AllAside}
use Rattle.placement_aside.proofs.Apart.{passing_is_aside}
use Rattle.placement_regions.specs.Sites.{from_spot, way_to, loop_uses, outer_names, dims_over, IsOfRegion, ExtentsFit}
use Rattle.placement_regions.proofs.Extents.{AllSome}
use Rattle.placement_regions.proofs.Theorem.{Opens, opens, argument_sizes, region_found, regions_are_sized, regions_are_fine}
use Rattle.placement_covers.specs.Law.{Covered, AreParted}
use Rattle.placement_covers.proofs.Stored.{covered_is_stored}
use Rattle.placement_covers.proofs.Theorem.{cover_carries}
use Rattle.staged_plans.specs.Plans.{how_over, IsPlanned, IsNamed, AllNamed}
use Rattle.staged_plans.specs.Law.{PlansAgree}
use Rattle.staged_plans.proofs.Keeping.{kept_by}
use Rattle.staged_plans.proofs.Owned.{own_memref, placement_dims, some_elements, argument_fits, argument_space, arguments_beside}
use Rattle.staged_plans.proofs.Shapes.{suited_over}

-- ---- one placement, in the module itself
module _ (m : Module) (valid : IsValid m) (symbols : List ℤ) (dma : Bool) where
  abbrev Planned : Step → Type 0
  Planned = IsPlanned dma m.args symbols (nest m.body)

  module _ (x : Step) (r : Planned x) where
    pub sized : (dim_sizes x.placement.dims ≡ r.ty.sizes) × ExtentsFit x.placement.dims
    sized = regions_are_sized m valid x.placement r.ty (found x.spot (nest m.body)) dma r.region

    pub type_is : slow_type x.placement ≡ r.ty
    type_is =
        let space = argument_space m.args outside x.placement.memref r.ty (opens m valid).arguments r.region.memref in
        λ i. record { sizes = sized.0 i; element = r.element i; space = sym space i }

    stages : StagesArgument m.args symbols x
    stages = (subst (λ ty. HasArgument m.args x.placement.memref (kind.Memref ty)) (sym type_is) r.region.memref, r.home)

    named : (made_by : Name → ℕ) (k : ℕ) → OwnNest (there made_by 0) (nest m.body) → OwnArguments (there made_by 0) m.args → IsNamed made_by k x → Suited_ made_by k x
    named made_by k h o n = record {
      made = n.made;
      apart = n.apart;
      memref_own = own_memref (there made_by 0) m.args x.placement.memref (kind.Memref r.ty) o r.region.memref;
      dims_own = subst (OwnDims (there made_by 0)) (sym r.region.dims) (placement_dims (there made_by 0) m.args (found x.spot (nest m.body)) (nest m.body) r.region.region r.ty.sizes o h);
      elements = some_elements x.placement.dims sized.1;
    }

    keeps : Kept x.placement (found x.spot (nest m.body)) (nest m.body)
    keeps = kept_by m.args x.placement (found x.spot (nest m.body)) (nest m.body) r.ty.sizes dma r.region.region (symbol_count m.args + loop_count (way_to (found x.spot (nest m.body)) (nest m.body))) r.region.loop r.region.is r.reads r.writes

  pub all_fit : (made_by : Name → ℕ) (k : ℕ) (xs : List Step) → OwnNest (there made_by 0) (nest m.body) → OwnArguments (there made_by 0) m.args → AllNamed made_by k xs → Every Planned xs → AllFit made_by k xs
  all_fit made_by k [] h o n r = tt
  all_fit made_by k (x ∷ xs) h o n r = (named x r.0 made_by k h o n.0, all_fit made_by (suc k) xs h o n.1 r.1)

module _ (m : Module) (valid : IsValid m) (memory : Image) (fits : Fits m memory) (dma : Bool) (x : Step) (r : IsPlanned dma m.args memory.symbols (nest m.body) x) where
  abbrev Text : Nest
  Text = nest m.body

  abbrev E : Env
  E = start_env m.args memory.symbols

  ready : (made_by : Name → ℕ) → IsReady made_by Text E x
  ready made_by = record {
    loop = r.region.loop;
    line = r.line;
    fine = regions_are_fine m valid memory fits x.placement r.ty x.order x.first (found x.spot Text) dma r.region r.home;
  }

  numbers : Sized x.placement x.first (length (first_state memory).slow)
  unfolding start_env
  numbers =
      let o = opens m valid in
      let size = (sized m valid memory.symbols dma x r).0 in
      let here = region_found m.args x.placement r.ty (found x.spot Text) Text dma r.region (argument_sizes m.args outside x.placement.memref r.ty o.arguments r.region.memref) in
      record {
        fits = subst (λ ns. x.first + product ns ≤ length (slow_list memory.memrefs)) (sym size)
            (from_zero (length (slow_list memory.memrefs)) (x.first + product r.ty.sizes) (argument_fits m.args outside (record { env = empty_env; memrefs = 0; elements = 0; symbols = memory.symbols }) memory.memrefs o.arguments fits.fits x.placement.memref r.ty r.region.memref x.order x.first r.home));
        suited = subst (λ how. Suited how (flat_spans x.placement.dims)) (sym r.how)
            (subst (λ ds. Suited (how_over dma ds) (flat_spans ds)) (sym (r.region.dims ∙ ap (λ ds. dims_over (outer_names m.args (way_to (found x.spot Text) Text)) ds r.ty.sizes) (sym here.is)))
            (suited_over dma (outer_names m.args (way_to (found x.spot Text) Text)) here.found r.ty.sizes here.some here.fit));
      }
    where
      from_zero : (n a : ℕ) → a ≤ 0 + n → a ≤ n
      from_zero n a h = omega (arith, h)

  covered : x.placement.reads ≡ false → Covered x.placement x.first (found x.spot Text) Text E
  covered e =
      covered_is_stored m valid memory fits x.placement r.ty x.order x.first (found x.spot Text) dma r.region (second dma _ (sym r.reads ∙ e)) r.home
    where
      second : (a b : Bool) → not (a && b) ≡ false → b ≡ true
      second true true h = refl
      second true false h = absurd (let z : ⊥ = cc in z)
      second false b h = absurd (let z : ⊥ = cc in z)

-- ---- along the texts on the way
abbrev CoveredIf : Nest → Env → Step → Type 0
CoveredIf n e x = x.placement.reads ≡ false → Covered x.placement x.first (found x.spot n) n e

-- of two steps with different memrefs, these lie beside one another
abbrev Lie : Step → Step → Type 0
Lie s o = same_name o.placement.memref s.placement.memref ≡ false → Beside s.first (dim_sizes s.placement.dims) o.first (dim_sizes o.placement.dims)

abbrev AllLie : List Step → Type 0
AllLie [] = Unit {0}
AllLie (s ∷ ss) = Every (Lie s) ss × AllLie ss

module _ (made_by : Name → ℕ) (e : Env) (slow : (m : Name) → IsSlow (e.home m)) where
  parted_by : (s o : Step) (n : Nest) → Parted made_by s o → Lie s o → AreParted s.placement s.first o.placement o.first (found s.spot n) (found o.spot n)
  parted_by s o n (inl d) l = inl (d, l d)
  parted_by s o n (inr d) l = inr (found_disjoint o.spot s.spot n d)

  all_covered : (k : ℕ) (s : Step) (n : Nest) → Suited_ made_by k s → OwnNest (there made_by k) n → IsReady made_by n e s → Each (Tidy (numbers_at s n e) s.placement.memref s.first (dim_sizes s.placement.dims)) n e
      → (j : ℕ) (ss : List Step) → AllFit made_by j ss → Every (IsReady made_by n e) ss → Every (Parted made_by s) ss → Every (Lie s) ss → Every (CoveredIf n e) ss → Every (CoveredIf (stage_one s.placement s.spot n) e) ss
  all_covered k s n f h r tidy j [] fits ready parted lie c = tt
  all_covered k s n f h r tidy j (o ∷ ss) fits ready parted lie c = (
    (λ no. cover_carries (there made_by k) s.placement s.order s.first (numbers_at s n e) (found s.spot n) n e e (suits made_by e slow k s n f h r) r.line (alike_itself (there made_by k) (numbers_at s n e) e slow) tidy r.fine
        o.placement o.order o.first o.spot (dims_later made_by 0 k o.placement.dims (omega arith) fits.0.dims_own) (parted_by s o n parted.0 lie.0) ready.0.fine (c.0 no)),
    all_covered k s n f h r tidy (suc j) ss fits.1 ready.1 parted.1 lie.1 c.1,
  )

  all_allow : (k : ℕ) (ss : List Step) (n : Nest) → OwnNest (there made_by k) n → AllFit made_by k ss → Every (IsReady made_by n e) ss → AllParted made_by ss → AllLie ss → InText TagIsOne n → AllApart made_by ss n e → AllAside ss n e → Every (CoveredIf n e) ss → AllAllow ss n e
  all_allow k [] n h fits r parted lie one apart aside c = tt
  all_allow k (s ∷ ss) n h fits r parted lie one apart aside c =
      let n' = stage_one s.placement s.spot n in
      let f = fits.0 in
      let new = numbers_at s n e in
      let tidy : Each (Tidy new s.placement.memref s.first (dim_sizes s.placement.dims)) n e =
      each_both (Together new) (Apart s.placement.memref s.first (dim_sizes s.placement.dims)) n e (tags_together new n e one) apart.0 in
      let more = nest_more (there made_by k) (there made_by (suc k)) (λ x. later made_by k (suc k) x (omega arith)) n h in
      let made : (i : ℕ) → there made_by (suc k) (s.placement.name i) ≡ true = λ i. (let e = f.made i in le-leb (made_by (s.placement.name i)) (suc k) (omega (arith, e))) in
      let own' : OwnNest (there made_by (suc k)) n' =
      staged_own (there made_by k) (there made_by (suc k)) (λ x. later made_by k (suc k) x (omega arith)) s.placement made (later made_by 0 k s.placement.memref (omega arith) f.memref_own) (dims_later made_by 0 k s.placement.dims (omega arith) f.dims_own) f.elements (found s.spot n) n more in (
        record { aside = aside.0; released = aside.1; covered = λ no w. c.0 no },
        all_allow (suc k) ss n' own' fits.1 (all_ready made_by e slow k s n f h r.0 (suc k) ss fits.1 parted.0 r.1) parted.1 lie.1 (one_tag_staged s.placement (found s.spot n) n one) apart.1 aside.2 (all_covered k s n f h r.0 tidy (suc k) ss fits.1 r.1 parted.0 lie.0 c.1),
      )

-- ---- all placements
release_is_one : (q : Plain) → Stands q → ReleaseIsOne q
release_is_one (Dealloc m ty) h = absurd (let z : ⊥ = cc in z)
release_is_one (Value r pick at) h = tt
release_is_one (Load r m at ty) h = tt
release_is_one (Store x m at ty) h = tt
release_is_one (RawLoad r m at ty) h = tt
release_is_one (RawStore x m at ty) h = tt
release_is_one (Constant r z ty) h = tt
release_is_one (Binary r op x y ty) h = tt
release_is_one (Cast r kind x from to) h = tt
release_is_one (Alloc r ty) h = tt
release_is_one (Start a a_at b b_at t t_at n stride types) h = tt
release_is_one (Wait t at n ty) h = tt
release_is_one Return h = tt

module _ (m : Module) (valid : IsValid m) (memory : Image) (dma : Bool) where
  abbrev Plans : Step → Type 0
  Plans = IsPlanned dma m.args memory.symbols (nest m.body)

  every_step : (P : Step → Type 0) → ((x : Step) → Plans x → P x) → (xs : List Step) → Every Plans xs → Every P xs
  every_step P f [] h = tt
  every_step P f (x ∷ xs) h = (f x h.0, every_step P f xs h.1)

  lie : (s o : Step) → Plans s → Plans o → Lie s o
  lie s o p q differ =
      let a = stages m valid memory.symbols dma s p in
      let b = stages m valid memory.symbols dma o q in
      arguments_beside m.args memory.symbols (opens m valid).arguments s.placement.memref o.placement.memref (slow_type s.placement) (slow_type o.placement) s.order s.first o.order o.first a.0 b.0 a.1 b.1 (flip s o differ)
    where
      flip : (s o : Step) → same_name o.placement.memref s.placement.memref ≡ false → same_name s.placement.memref o.placement.memref ≡ false
      flip s o d = same_name-sym s.placement.memref o.placement.memref ∙ d

  all_lie : (xs : List Step) → Every Plans xs → AllLie xs
  all_lie [] h = tt
  all_lie (s ∷ ss) h = (every_step (Lie s) (λ o q. lie s o h.0 q) ss h.1, all_lie ss h.1)

pub plans_agree : PlansAgree
plans_agree m valid v13 memory fits made_by h o dma xs names planned parted passes filler capacity room =
    let n = nest m.body in
    let e = start_env m.args memory.symbols in
    let slow : (x : Name) → IsSlow (e.home x) = λ x. starts_are_slow m.args memory.symbols x in
    let fit = all_fit m valid memory.symbols dma made_by 0 xs h o names planned in
    let ready_all = every_step m valid memory dma (IsReady made_by n e) (λ x r. ready m valid memory fits dma x r made_by) xs planned in
    let quiet = inputs_are_quiet m v13 in
    let staging = every_step m valid memory dma (StagesArgument m.args memory.symbols) (λ x r. stages m valid memory.symbols dma x r) xs planned in
    let apart = all_apart made_by m.args memory.symbols xs n staging passes in
    let aside = passing_is_aside m.args memory.symbols xs n staging passes (in_text Stands ReleaseIsOne release_is_one n (input_stands m v13)) in
    let covers = every_step m valid memory dma (CoveredIf n e) (λ x r. covered m valid memory fits dma x r) xs planned in
    plan_agrees made_by xs n e h fit ready_all parted slow quiet.1 apart
    (every_step m valid memory dma (λ (s : Step). Kept s.placement (found s.spot n) n) (λ x r. keeps m valid memory.symbols dma x r) xs planned)
    (all_allow made_by e slow 0 xs n h fit ready_all parted (all_lie m valid memory dma xs planned) quiet.1 apart aside covers) quiet.0 memory
    (every_step m valid memory dma (λ (s : Step). Sized s.placement s.first (length (first_state memory).slow)) (λ x r. numbers m valid memory fits dma x r) xs planned)
    (inputs_are_plain m v13 memory.symbols) filler capacity room
