-- The laws of a placement's region.
use Rattle.std.proofs.Common.{◌≡◌, ◌⊎◌, inl, inr, ℕ, ◌≤◌, ℤ, List, [], ◌∷◌, ◌++◌, length, Bool, true, Ok, Some, refl, sym, ap, ◌∙◌, subst, arith}
use Rattle.std.specs.Prelude.{nat_le, ◌&&◌}
use Rattle.std.specs.List.{list_all}
use Rattle.std.proofs.lemmas.Bool.{and_parts}
use Rattle.affine_ast.specs.declared.image.Image.{Image}
use Rattle.affine_ast.specs.declared.module.Arg.{Arg}
use Rattle.affine_ast.specs.declared.module.ArgKind.{ArgKind}
use Rattle.affine_ast.specs.declared.module.Module.{Module}
use Rattle.affine_ast.specs.declared.name.Name.{Name}
use Rattle.affine_ast.specs.declared.types.MemrefType.{MemrefType}
use Rattle.affine_ast.specs.declared.module.ArgKind.TheVariants as kind
use Rattle.affine_ast.specs.Nest.{Nest, Nothing, Loop, nest}
use Rattle.affine_ast.specs.Rules.{shape_within, sizes_positive, rank_within, arguments_within}
use Rattle.affine_ast.specs.Scope.{Totals, Around}
use Rattle.affine_ast.specs.Validity.{Passed, told, told_arguments, told_module, with_argument, behind_argument, outside, first_broken, IsValid}
use Rattle.direct_meaning.specs.Action.{SlowMemref}
use Rattle.direct_meaning.specs.Memory.{Fits, empty_env, start_env}
use Rattle.direct_meaning.specs.Static.{Env}
use Rattle.valid_laws.proofs.Passing.{passed_of, affine_of_told}
use Rattle.valid_laws.proofs.SafeStart.{ArgumentHolds, behind_arguments, ArgumentsHold, arguments_hold}
use Rattle.nest_domain.specs.Ways.{loop_names}
use Rattle.nest_domain.specs.Domains.{symbol_names}
use Rattle.nest_domain.specs.Visits.{Visits, Along}
use Rattle.nest_domain.specs.Boxes.{Dimension, AllWithin}
use Rattle.access_region.specs.Laws.{AccessInside}
use Rattle.access_region.specs.Regions.{uses_at}
use Rattle.access_region.specs.Places.{region_of}
use Rattle.access_region.specs.Widening.{for_transfers}
use Rattle.access_region.proofs.Inside.{Gives}
use Rattle.access_region.proofs.Regioned.{found_of, regions_hold}
use Rattle.placement_texts.specs.Each.{Each}
use Rattle.placement_texts.specs.Template.{Placement, dim_sizes}
use Rattle.placement_texts.specs.Regions.{spans_at, ReachesBox}
use Rattle.placement_texts.specs.Spots.{Spot, Fine, FineAt}
use Rattle.placement_texts.specs.Valid.{HasArgument}
use Rattle.placement_texts.proofs.ApartValid.{argument_there}
use Rattle.placement_texts.proofs.StagedValid.{arguments_told}
use Rattle.placement_regions.specs.Sites.{from_spot, alone, way_to, loop_uses, outer_names, dims_over, IsOfRegion, ExtentsFit}
use Rattle.placement_regions.specs.Law.{RegionsAreFine, RegionsAreSized}
use Rattle.placement_regions.proofs.Visited.{at_visits, fine_from, path_to, path_is, IsLoopText, loop_there}
use Rattle.placement_regions.proofs.Known.{Kept, arrives, AreHeld, all_held_along, held_append, Begins, begins}
use Rattle.placement_regions.proofs.Boxed.{places_lie, elements, sizes_are, in_box}
use Rattle.placement_regions.proofs.Extents.{AllSome, AllFit, region_fits, extents_fit, dims_extents, dims_sizes}
use Rattle.placement_regions.proofs.Reached.{loop_reaches}

-- ---- the sizes of a memref argument are at least 1
some_sizes : (ns : List ℕ) → list_all (nat_le 1) ns ≡ true → AllSome ns
some_sizes [] t = tt
some_sizes (n ∷ ns) t = let two = and_parts (nat_le 1 n) (list_all (nat_le 1) ns) t in (grind (arith, two.0), some_sizes ns two.1)

type_sizes : (ty : MemrefType) → shape_within ty ≡ true → AllSome ty.sizes
unfolding shape_within sizes_positive
type_sizes ty t = some_sizes ty.sizes (and_parts (list_all (nat_le 1) ty.sizes) (rank_within ty.space (length ty.sizes)) t).0

kind_sizes : (n : Name) (k : ArgKind) (a : Around) (ty : MemrefType) → k ≡ kind.Memref ty → ArgumentHolds a n k → AllSome ty.sizes
kind_sizes n k a ty is h =
    let holds = subst (ArgumentHolds a n) is h in
    type_sizes ty (and_parts (shape_within ty) (arguments_within (with_argument (kind.Memref ty) a.totals)) holds.elements).0

pub argument_sizes : (args : List Arg) (a : Around) (n : Name) (ty : MemrefType) → ArgumentsHold args a → HasArgument args n (kind.Memref ty) → AllSome ty.sizes
argument_sizes [] a n ty h k = absurd k
argument_sizes (arg ∷ args) a n ty h (inl k) = kind_sizes arg.name arg.kind a ty k.1 h.0
argument_sizes (arg ∷ args) a n ty h (inr k) = argument_sizes args (behind_argument arg.name arg.kind a) n ty h.1 k

-- ---- the start of a valid module
pub record Opens (m : Module) : Type 0 where
  pub totals : Totals
  pub arguments : ArgumentsHold m.args outside
  pub passed : told (nest m.body) (behind_arguments m.args outside) ≡ Passed totals
  pub told_all : told_arguments m.args (told (nest m.body)) outside ≡ Passed totals

pub opens : (m : Module) → IsValid m → Opens m
unfolding first_broken told_module
opens m valid =
    let p = passed_of (told_arguments m.args (told (nest m.body)) outside) valid in
    let r = arguments_told m.args (nest m.body) (nest m.body) outside p.0 p.1 in
    record { totals = p.0; arguments = arguments_hold m.args (nest m.body) outside p.0 p.1; passed = r.0; told_all = p.1 }

-- ---- a region's extents
-- the region before it is widened
pub record Unwidened (sizes : List ℕ) (dma : Bool) (ds : List Dimension) : Type 0 where
  pub found : List Dimension
  pub is : for_transfers dma sizes found ≡ ds
  pub some : AllSome sizes
  pub fit : AllFit found sizes

pub region_found : (args : List Arg) (p : Placement) (ty : MemrefType) (s : Spot) (n : Nest) (dma : Bool) → (r : IsOfRegion args n p ty s dma) → AllSome ty.sizes → Unwidened ty.sizes dma r.region
region_found args p ty s n dma r some =
    let us = loop_uses p.memref (way_to s n) (from_spot s n) in
    let f = found_of args (way_to s n) us ty.sizes dma r.region r.is in
    record { found = f.found; is = f.widened; some = some; fit = subst (λ w. Gives w (λ ds. AllFit ds ty.sizes)) f.is (region_fits args (way_to s n) us ty.sizes some) }

pub region_extents : (m : Module) → IsValid m → (p : Placement) (ty : MemrefType) (s : Spot) (dma : Bool) → (r : IsOfRegion m.args (nest m.body) p ty s dma) → AllFit r.region ty.sizes
region_extents m valid p ty s dma r =
    let o = opens m valid in
    extents_fit m.args (way_to s (nest m.body)) (loop_uses p.memref (way_to s (nest m.body)) (from_spot s (nest m.body))) ty.sizes dma r.region (argument_sizes m.args outside p.memref ty o.arguments r.memref) r.is

pub regions_are_sized : RegionsAreSized
regions_are_sized m valid p ty s dma r =
    let fit = region_extents m valid p ty s dma r in
    let ns = outer_names m.args (way_to s (nest m.body)) in
    (ap dim_sizes r.dims ∙ dims_sizes ns r.region ty.sizes fit, subst ExtentsFit (sym r.dims) (dims_extents ns r.region ty.sizes fit))

-- ---- at each visit
at_start : (m : Module) → IsValid m → (memory : Image) → Fits m memory → Begins (symbol_names m.args) memory.symbols outside empty_env (behind_arguments m.args outside) (start_env m.args memory.symbols)
unfolding start_env
at_start m valid memory fits = begins m.args outside (record { env = empty_env; memrefs = 0; elements = 0; symbols = memory.symbols }) memory.memrefs (opens m valid).arguments fits.fits

-- what a visit of the loop gives
module _ (m : Module) (valid : IsValid m) (memory : Image) (fits : Fits m memory) (p : Placement) (ty : MemrefType) (order first : ℕ) (s : Spot) (dma : Bool) (r : IsOfRegion m.args (nest m.body) p ty s dma)
    (home : (start_env m.args memory.symbols).home p.memref ≡ Some (SlowMemref order first)) where
  abbrev Text : Nest
  Text = nest m.body

  abbrev Names : List Name
  Names = outer_names m.args (way_to s (nest m.body))

  -- the outer variables stand for the index arguments and the turns
  pub record HeldAt (ts : List ℤ) (f : Env) : Type 0 where
    pub around : Around
    pub totals : Totals
    pub passed : told (from_spot s Text) around ≡ Passed totals
    pub kept : Kept (behind_arguments m.args outside).scope (start_env m.args memory.symbols) around.scope f
    pub held : AreHeld around.scope f.known Names (memory.symbols ++ ts)

  pub held_at : (ts : List ℤ) (f : Env) → Visits (way_to s Text) (start_env m.args memory.symbols) ts f → HeldAt ts f
  held_at ts f w =
      let e = start_env m.args memory.symbols in
      let o = opens m valid in
      let a0 = behind_arguments m.args outside in
      let x = arrives s Text a0 o.totals e ts f o.passed r.loop w in
      record {
        around = x.around;
        totals = x.totals;
        passed = x.passed;
        kept = x.kept;
        held = held_append x.around.scope f.known (symbol_names m.args) (loop_names (way_to s Text)) memory.symbols ts (all_held_along a0.scope e x.around.scope f x.kept (symbol_names m.args) memory.symbols (at_start m valid memory fits).held) x.held;
      }

  -- what the region's law says of the visit
  region_holds : (ts : List ℤ) (f : Env) → Visits (way_to s Text) (start_env m.args memory.symbols) ts f → (here : IsLoopText (from_spot s Text))
      → AllWithin r.region ty.sizes (memory.symbols ++ ts) × Along (λ inner way g. AccessInside p.memref r.region ty.sizes (memory.symbols ++ ts) way g) (Loop here.line here.variable here.lower here.upper here.step here.body Nothing) [] f
  region_holds ts f w here =
      let path = path_is s Text r.loop ∙ (λ i. Some (record { way = way_to s Text; here = here.is i })) in
      let is : region_of m.args (way_to s Text) (uses_at p.memref (way_to s Text) here.variable here.lower here.upper here.step here.body) ty.sizes dma ≡ Ok r.region =
      ap (λ n. region_of m.args (way_to s Text) (loop_uses p.memref (way_to s Text) n) ty.sizes dma) (sym here.is) ∙ r.is in
      regions_hold m valid memory fits (path_to s) (way_to s Text) here.line here.variable here.lower here.upper here.step here.body here.rest path p.memref ty.sizes r.region dma is ts f w

  pub region_within : (ts : List ℤ) (f : Env) → Visits (way_to s Text) (start_env m.args memory.symbols) ts f → IsLoopText (from_spot s Text) → AllWithin r.region ty.sizes (memory.symbols ++ ts)
  region_within ts f w here = (region_holds ts f w here).0

  pub fine_over : (ts : List ℤ) (f : Env) → Visits (way_to s Text) (start_env m.args memory.symbols) ts f → (here : IsLoopText (from_spot s Text)) → Fine (record p { dims = dims_over Names r.region ty.sizes }) order first (alone (from_spot s Text)) f
  fine_over ts f w here =
      let x = held_at ts f w in
      let os = memory.symbols ++ ts in
      let held = x.held in
      let there = argument_there m.args outside p.memref ty (opens m valid).arguments r.memref in
      let h = region_holds ts f w here in
      let fit = dims_extents Names r.region ty.sizes (region_extents m valid p ty s dma r) in
      let passed = subst (λ n. told n x.around ≡ Passed x.totals) here.is x.passed in
      let scope = x.kept.scope p.memref _ there in
      let home_is = x.kept.home p.memref _ there ∙ home in
      let dims = dims_over Names r.region ty.sizes in
      record {
        home = home_is;
        lie = places_lie x.around.scope f Names os held r.region ty.sizes fit h.0;
        elements = elements x.around.scope f Names os held r.region ty.sizes fit;
        reaches = subst (λ n. Each (ReachesBox p.memref order first (spans_at f dims)) (alone n) f) (sym here.is)
            (loop_reaches p.memref ty order first (spans_at f dims) r.region os (sizes_are x.around.scope f Names os held r.region ty.sizes h.0) (λ vs k i c. in_box x.around.scope f Names os held r.region ty.sizes vs k fit h.0 i c)
            here.line here.variable here.lower here.upper here.step here.body here.rest x.around f x.totals passed scope home_is h.1);
      }

  pub fine_at : (ts : List ℤ) (f : Env) → Visits (way_to s Text) (start_env m.args memory.symbols) ts f → Fine p order first (alone (from_spot s Text)) f
  fine_at ts f w = subst (λ ds. Fine (record p { dims = ds }) order first (alone (from_spot s Text)) f) (sym r.dims) (fine_over ts f w (loop_there s Text r.loop))

  pub region_fine : FineAt p order first s Text (start_env m.args memory.symbols)
  region_fine =
      let o = opens m valid in
      fine_from p order first s Text (start_env m.args memory.symbols)
      (at_visits (Fine p order first) s Text (start_env m.args memory.symbols) (affine_of_told Text (behind_arguments m.args outside) o.totals o.passed) r.loop (λ ts f w. fine_at ts f w))

pub regions_are_fine : RegionsAreFine
regions_are_fine m valid memory fits p ty order first s dma r home = region_fine m valid memory fits p ty order first s dma r home
