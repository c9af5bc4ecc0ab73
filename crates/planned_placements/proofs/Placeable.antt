-- A region that is found of a memref argument at a loop of a valid module may be placed.
use Rattle.std.proofs.Common.{◌≡◌, ◌⊎◌, inl, inr, ℕ, zero, suc, ◌+◌, ◌*◌, ◌^◌, ◌≤◌, ◌<◌, ℤ, pos, negsuc, ◌-ℤ◌, ◌≤ℤ◌, List, [], ◌∷◌, length, Bool, true, false, Option, Some, None, Result, Ok, Err, refl, sym, ap, ◌∙◌, subst, arith}
use Rattle.std.specs.Prelude.{All, ◌&&◌, if◌then◌else◌, nat_le, nat_eq}
use Rattle.std.specs.Int.{int_min, int_max}
use Rattle.std.specs.Ordering.{int_eq}
use Rattle.std.proofs.lemmas.Bool.{and_parts}
use Rattle.std.proofs.lemmas.Int.{ints, clamps}
use Rattle.std.proofs.lemmas.List.Elements.{All-nil, All-cons, All-head, All-tail}
use Rattle.constraint_set.specs.Lists.{Each}
use Rattle.constraint_set.specs.Tidy.{all_zero}
use Rattle.affine_expr.specs.Spread.{Range}
use Rattle.affine_ast.specs.declared.module.Arg.{Arg}
use Rattle.affine_ast.specs.declared.module.ArgKind.{ArgKind}
use Rattle.affine_ast.specs.declared.module.ArgKind.TheVariants as kind
use Rattle.affine_ast.specs.declared.module.Module.{Module}
use Rattle.affine_ast.specs.declared.name.Name.{Name}
use Rattle.affine_ast.specs.declared.types.MemrefType.{MemrefType}
use Rattle.affine_ast.specs.Nest.{Nest, nest}
use Rattle.affine_ast.specs.Rules.{shape_within, sizes_positive, rank_within, arguments_within}
use Rattle.affine_ast.specs.Scope.{Around}
use Rattle.affine_ast.specs.Sizes.{product}
use Rattle.affine_ast.specs.Validity.{with_argument, behind_argument, outside}
use Rattle.boxes.specs.Boxes as boxes
use Rattle.direct_meaning.specs.Turns.{gap}
use Rattle.nest_domain.specs.Ways.{Header, Use, loop_count}
use Rattle.nest_domain.specs.Domains.{symbol_count}
use Rattle.nest_domain.specs.Boxes as region
use Rattle.nest_domain.specs.Boxes.{AreOver}
use Rattle.place_intervals.specs.Places.{with_range, place_range, place_ranges}
use Rattle.access_region.specs.Candidates.{Reaching}
use Rattle.access_region.specs.Regions.{reaching, outside_at, dimensions}
use Rattle.access_region.specs.Widening.{for_transfers}
use Rattle.access_region.specs.Places.{templates_fit, region_fits, kept_where, region_of}
use Rattle.access_region.proofs.Inside.{Gives, on}
use Rattle.access_region.proofs.Lengths.{regions_are_over}
use Rattle.valid_laws.specs.Safe.{IsSmall}
use Rattle.valid_laws.proofs.SafeStart.{ArgumentHolds, ArgumentsHold}
use Rattle.placement_texts.specs.Spots.{Spot, IsLoop}
use Rattle.placement_texts.specs.Template.{Dimension, dim_sizes, dim_extents}
use Rattle.placement_texts.specs.Valid.{HasArgument}
use Rattle.staging_laws.specs.Law.{flat_spans}
use Rattle.placement_regions.specs.Sites.{from_spot, way_to, loop_uses, region_there, outer_names, terms_over, offset_over, dim_over, dims_over, ExtentsFit}
use Rattle.placement_regions.proofs.Extents.{Fits, AllFit, AllSome, extents_fit, dims_extents}
use Rattle.placement_regions.proofs.Theorem.{opens, argument_sizes}
use Rattle.placement_code.specs.Beginnings.{has_none}
use Rattle.placement_code.specs.Small.{AreSmall, IsWell, AreWell}
use Rattle.planned_placements.specs.Writable.{IsWritable, AreWritable, IsNarrow, MayBePlaced, RegionsMayBePlaced}
use Rattle.planned_placements.proofs.SmallNumbers.{HasSmallNumbers, place_small}
use Rattle.planned_placements.proofs.ZeroPlaces.{BeginsIn, AllBeginIn, region_begins}
use Rattle.planned_placements.proofs.OuterNames.{outer_counted, few_outer}

-- ---- the places of a region keep to the rule on intervals
record HasPlaces (sizes : List ℕ) (ds : List region.Dimension) : Type 0 where
  outer : List Range
  places : List Range
  is : place_ranges outer sizes ds ≡ Some places

region_places : (args : List Arg) (way : List Header) (us : List Use) (sizes : List ℕ) (dma : Bool) → Gives (region_of args way us sizes dma) (HasPlaces sizes)
unfolding region_of
region_places args way us sizes dma =
    on (reaching args us) _ (HasPlaces sizes) (λ xs a.
    on (outside_at args way) _ (HasPlaces sizes) (λ outside b.
    on (dimensions outside (loop_count way) xs 0 sizes) _ (HasPlaces sizes) (λ ds c.
    by (for_transfers dma sizes ds) outside.ranges xs (region_fits outside.ranges xs sizes dma (for_transfers dma sizes ds)) refl)))
  where
    some : (ds : List region.Dimension) (outer : List Range) (xs : List Reaching) (w : Option (List Range)) → place_ranges outer sizes ds ≡ w → templates_fit dma ds xs w ≡ true → HasPlaces sizes ds
    some ds outer xs None i e = absurd (let z : ⊥ = cc in z)
    some ds outer xs (Some ps) i e = record { outer = outer; places = ps; is = i }

    by : (ds : List region.Dimension) (outer : List Range) (xs : List Reaching) (b : Bool) → region_fits outer xs sizes dma ds ≡ b → Gives (kept_where b ds) (HasPlaces sizes)
    by ds outer xs false e = tt
    by ds outer xs true e = some ds outer xs (place_ranges outer sizes ds) refl e

-- ---- so its numbers are small
all_small : (n : ℕ) (outer : List Range) (sizes : List ℕ) (ds : List region.Dimension) (w : List Range) → AllFit ds sizes → AreOver n ds → place_ranges outer sizes ds ≡ Some w → AreWritable n ds
all_small n outer sizes [] w fit over h = All-nil (IsWritable n)
all_small n outer [] (d ∷ ds) w fit over h = absurd fit
all_small n outer (size ∷ sizes) (d ∷ ds) w fit over h = by (place_range outer size d) (place_ranges outer sizes ds) refl (λ ws e. all_small n outer sizes ds ws fit.1 over.1 e) h
  where
    by : (x : Option Range) (ws : Option (List Range)) → place_range outer size d ≡ x → ((ws' : List Range) → ws ≡ Some ws' → AreWritable n ds) → with_range x ws ≡ Some w → AreWritable n (d ∷ ds)
    by None ws i more h = absurd (let z : ⊥ = cc in z)
    by (Some x) None i more h = absurd (let z : ⊥ = cc in z)
    by (Some x) (Some ws) i more h =
        let s = place_small outer size d x i in
        All-cons (IsWritable n) d ds (record { over = over.0; coefs = s.coefs; offset = s.offset }) (more ws refl)

-- ---- the terms
no_terms : (ns : List Name) (cs : List ℤ) → all_zero cs ≡ true → terms_over ns cs ≡ []
no_terms [] cs h = refl
no_terms (n ∷ ns) [] h = refl
no_terms (n ∷ ns) (c ∷ cs) h =
    let two = and_parts (int_eq c (pos 0)) (all_zero cs) h in
    ap (λ b. if b then terms_over ns cs else (n, c) ∷ terms_over ns cs) two.0 ∙ no_terms ns cs two.1

all_none : (ns : List Name) (cs : List ℤ) → length cs ≡ length ns → has_none (terms_over ns cs) ≡ true → all_zero cs ≡ true
all_none [] [] e h = refl
all_none [] (c ∷ cs) e h = absurd (let z : ⊥ = omega (arith, e) in z)
all_none (n ∷ ns) [] e h = refl
all_none (n ∷ ns) (c ∷ cs) e h = by (int_eq c (pos 0)) (λ h. all_none ns cs (omega (arith, e)) h) h
  where
    by : (b : Bool) → (has_none (terms_over ns cs) ≡ true → all_zero cs ≡ true) → has_none (if b then terms_over ns cs else (n, c) ∷ terms_over ns cs) ≡ true → (b && all_zero cs) ≡ true
    by true more h = more h
    by false more h = absurd (let z : ⊥ = cc in z)

terms_small : (ns : List Name) (cs : List ℤ) → All IsSmall cs → AreSmall (terms_over ns cs)
terms_small [] cs h = All-nil (λ (t : Name × ℤ). IsSmall t.1)
terms_small (n ∷ ns) [] h = All-nil (λ (t : Name × ℤ). IsSmall t.1)
terms_small (n ∷ ns) (c ∷ cs) h = by (int_eq c (pos 0)) (terms_small ns cs (All-tail IsSmall c cs h))
  where
    by : (b : Bool) → AreSmall (terms_over ns cs) → AreSmall (if b then terms_over ns cs else (n, c) ∷ terms_over ns cs)
    by true more = more
    by false more = All-cons (λ (t : Name × ℤ). IsSmall t.1) (n, c) (terms_over ns cs) (All-head IsSmall c cs h) more

terms_few : (ns : List Name) (cs : List ℤ) → length (terms_over ns cs) ≤ length ns
terms_few [] cs = omega arith
terms_few (n ∷ ns) [] = omega arith
terms_few (n ∷ ns) (c ∷ cs) = by (int_eq c (pos 0)) (terms_few ns cs)
  where
    by : (b : Bool) → length (terms_over ns cs) ≤ length ns → length (if b then terms_over ns cs else (n, c) ∷ terms_over ns cs) ≤ suc (length ns)
    by true more = omega (arith, more)
    by false more = omega (arith, more)

-- ---- one dimension
clamped_small : (offset extent : ℤ) (size : ℕ) → pos 0 ≤ℤ extent → size < 2 ^ 32 → IsSmall (int_max (int_min offset (pos size -ℤ extent)) (pos 0))
clamped_small offset extent size low most = record { least = omega (arith, ints, clamps); most = omega (arith, ints, clamps, low, most) }

offset_small : (ts : List (Name × ℤ)) (d : region.Dimension) (size : ℕ) → pos 0 ≤ℤ d.extent → size < 2 ^ 32
    → (all_zero d.coefs ≡ true → ts ≡ []) → ((d.clamped && all_zero d.coefs) ≡ false → IsSmall d.offset) → IsSmall (offset_over ts d size)
offset_small [] d size low most none small = by d.clamped small
  where
    by : (c : Bool) → ((c && all_zero d.coefs) ≡ false → IsSmall d.offset) → IsSmall (if c then int_max (int_min d.offset (pos size -ℤ d.extent)) (pos 0) else d.offset)
    by true small = clamped_small d.offset d.extent size low most
    by false small = small refl
offset_small (t ∷ ts) d size low most none small = by (all_zero d.coefs) refl
  where
    second : (c b : Bool) → b ≡ false → (c && b) ≡ false
    second true b e = e
    second false b e = refl

    by : (b : Bool) → all_zero d.coefs ≡ b → IsSmall d.offset
    by true e = absurd (let f = none e in let z : ⊥ = cc in z)
    by false e = small (second d.clamped (all_zero d.coefs) e)

pub small_offset : (ns : List Name) (d : region.Dimension) (size : ℕ) (ts : List (Name × ℤ)) → ts ≡ terms_over ns d.coefs → pos 0 ≤ℤ d.extent → size < 2 ^ 32 → IsWritable (length ns) d → IsSmall (offset_over ts d size)
small_offset ns d size ts is low most w = offset_small ts d size low most (λ h. is ∙ no_terms ns d.coefs h) w.offset

offset_begins : (ts : List (Name × ℤ)) (d : region.Dimension) (size : ℕ) → (has_none ts ≡ true → all_zero d.coefs ≡ true) → BeginsIn d → has_none ts ≡ true → d.clamped ≡ false → pos 0 ≤ℤ offset_over ts d size
offset_begins [] d size none begins h c = subst (λ b. pos 0 ≤ℤ (if b then int_max (int_min d.offset (pos size -ℤ d.extent)) (pos 0) else d.offset)) (sym c) (begins (none h) c)
offset_begins (t ∷ ts) d size none begins h c = begins (none h) c

dim_well : (ns : List Name) (d : region.Dimension) (size : ℕ) → length ns ≤ 32 → pos 1 ≤ℤ d.extent → size ≤ 1048576 → IsWritable (length ns) d → BeginsIn d → IsWell (dim_over ns d size)
dim_well ns d size few low most w begins =
    let fewer = terms_few ns d.coefs in
    let over = w.over in
    record {
      terms = terms_small ns d.coefs w.coefs;
      few = omega (arith, few, fewer);
      offset = small_offset ns d size (terms_over ns d.coefs) refl (omega (arith, ints, low)) (omega (arith, most)) w;
      begins = offset_begins (terms_over ns d.coefs) d size (all_none ns d.coefs over) begins;
    }

-- ---- all dimensions
AllMost : List ℕ → Type 0
AllMost [] = Unit {0}
AllMost (n ∷ ns) = (n ≤ 1048576) × AllMost ns

all_well : (ns : List Name) (ds : List region.Dimension) (sizes : List ℕ) → length ns ≤ 32 → AllFit ds sizes → AllMost sizes → AreWritable (length ns) ds → AllBeginIn ds → All IsWell (dims_over ns ds sizes)
unfolding AllMost
all_well ns [] sizes few fit most w begins = All-nil IsWell
all_well ns (d ∷ ds) [] few fit most w begins = absurd fit
all_well ns (d ∷ ds) (size ∷ sizes) few fit most w begins =
    All-cons IsWell (dim_over ns d size) (dims_over ns ds sizes)
    (dim_well ns d size few fit.0.0 most.0 (All-head (IsWritable (length ns)) d ds w) begins.0)
    (all_well ns ds sizes few fit.1 most.1 (All-tail (IsWritable (length ns)) d ds w) begins.1)

same_long : (ds : List region.Dimension) (sizes : List ℕ) → AllFit ds sizes → length sizes ≡ length ds
same_long [] [] h = refl
same_long [] (n ∷ sizes) h = absurd h
same_long (d ∷ ds) [] h = absurd h
same_long (d ∷ ds) (n ∷ sizes) h = ap suc (same_long ds sizes h.1)

dims_long : (ns : List Name) (ds : List region.Dimension) (sizes : List ℕ) → length (dims_over ns ds sizes) ≤ length sizes
dims_long ns [] sizes = omega arith
dims_long ns (d ∷ ds) [] = omega arith
dims_long ns (d ∷ ds) (n ∷ sizes) = let h = dims_long ns ds sizes in omega (arith, h)

-- ---- how many elements there are
some_product : (ns : List ℕ) → AllSome ns → 1 ≤ product ns
some_product [] h = omega arith
some_product (n ∷ ns) h = positive n (product ns) h.0 (some_product ns h.1)
  where
    positive : (a b : ℕ) → 1 ≤ a → 1 ≤ b → 1 ≤ a * b
    positive a b p q = grind (arith, p, q)

factors : (a b m : ℕ) → 1 ≤ a → 1 ≤ b → a * b ≤ m → (a ≤ m) × (b ≤ m)
factors a b m p q h = (grind (arith, p, q, h), grind (arith, p, q, h))

all_most : (ns : List ℕ) → AllSome ns → product ns ≤ 1048576 → AllMost ns
unfolding AllMost
all_most [] some h = tt
all_most (n ∷ ns) some h = let two = factors n (product ns) 1048576 some.0 (some_product ns some.1) h in (two.0, all_most ns some.1 two.1)

all_narrow : (ns : List Name) (ds : List region.Dimension) (sizes : List ℕ) → AllFit ds sizes → AllSome sizes → product sizes ≤ 1048576 → ExtentsFit (dims_over ns ds sizes)
    → (boxes.volume (flat_spans (dims_over ns ds sizes)) ≡ product sizes) × IsNarrow (dims_over ns ds sizes)
all_narrow ns [] [] fit some most e = (refl, tt)
all_narrow ns [] (n ∷ sizes) fit some most e = absurd fit
all_narrow ns (d ∷ ds) [] fit some most e = absurd fit
all_narrow ns (d ∷ ds) (n ∷ sizes) fit some most e =
    let two = factors n (product sizes) 1048576 some.0 (some_product sizes some.1) most in
    let more = all_narrow ns ds sizes fit.1 some.1 two.1 e.2 in
    let same : n * boxes.volume (flat_spans (dims_over ns ds sizes)) ≡ n * product sizes = ap (λ v. n * v) more.0 in
    (same, (e.0, e.1, subst (λ v. v < 2 ^ 32) (sym same) (let less : n * product sizes < 2 ^ 32 = omega (arith, most) in less), more.1))

times_most : (a b c d : ℕ) → a ≤ c → b ≤ d → a * b ≤ c * d
times_most a b c d p q = grind (arith, p, q)

box_most : (ns : List Name) (ds : List region.Dimension) (sizes : List ℕ) → AllFit ds sizes → ExtentsFit (dims_over ns ds sizes) → product (dim_extents (dims_over ns ds sizes)) ≤ product sizes
box_most ns [] [] fit e = omega arith
box_most ns [] (n ∷ sizes) fit e = absurd fit
box_most ns (d ∷ ds) [] fit e = absurd fit
box_most ns (d ∷ ds) (n ∷ sizes) fit e = times_most (gap d.extent) (product (dim_extents (dims_over ns ds sizes))) n (product sizes) e.1 (box_most ns ds sizes fit.1 e.2)

-- ---- a memref argument
record IsSmallArgument (ty : MemrefType) : Type 0 where
  rank : length ty.sizes ≤ 6
  elements : product ty.sizes ≤ 1048576

rank_most : (ty : MemrefType) → nat_eq ty.space 0 ≡ true → shape_within ty ≡ true → length ty.sizes ≤ 6
unfolding shape_within
rank_most ty slow h = by (nat_eq ty.space 0) slow (and_parts (sizes_positive ty.sizes) (rank_within ty.space (length ty.sizes)) h).1
  where
    by : (b : Bool) → b ≡ true → (if b then nat_le (length ty.sizes) 6 else (if nat_eq ty.space 1 then (nat_le 1 (length ty.sizes) && nat_le (length ty.sizes) 7) else nat_eq (length ty.sizes) 1)) ≡ true → length ty.sizes ≤ 6
    by true e h = grind (arith, h)
    by false e h = absurd (let z : ⊥ = cc in z)

argument_small : (args : List Arg) (a : Around) (n : Name) (ty : MemrefType) → ArgumentsHold args a → HasArgument args n (kind.Memref ty) → IsSmallArgument ty
argument_small [] a n ty h k = absurd k
argument_small (arg ∷ args) a n ty h (inl k) = by arg.kind k.1 h.0
  where
    by : (x : ArgKind) → x ≡ kind.Memref ty → ArgumentHolds a arg.name x → IsSmallArgument ty
    by x e holds =
        let it = subst (ArgumentHolds a arg.name) e holds in
        let two = and_parts (shape_within ty) (arguments_within (with_argument (kind.Memref ty) a.totals)) it.elements in
        let m = and_parts (nat_le (suc a.totals.memrefs) 64) (nat_le a.totals.indexes 16 && nat_le (a.totals.elements + product ty.sizes) 1048576) two.1 in
        let l = and_parts (nat_le a.totals.indexes 16) (nat_le (a.totals.elements + product ty.sizes) 1048576) m.1 in
        let less : a.totals.elements + product ty.sizes ≤ 1048576 = grind (arith, l.1) in
        record { rank = rank_most ty it.slow two.0; elements = omega (arith, less) }
argument_small (arg ∷ args) a n ty h (inr k) = argument_small args (behind_argument arg.name arg.kind a) n ty h.1 k

-- ---- the law
pub regions_may_be_placed : RegionsMayBePlaced
regions_may_be_placed m valid name ty s dma ds argument loop is =
    let n = nest m.body in
    let o = opens m valid in
    let way = way_to s n in
    let us = loop_uses name way (from_spot s n) in
    let ns = outer_names m.args way in
    let some = argument_sizes m.args outside name ty o.arguments argument in
    let small = argument_small m.args outside name ty o.arguments argument in
    let fit = extents_fit m.args way us ty.sizes dma ds some is in
    let over = subst (λ k. AreOver k ds) (sym (outer_counted m.args way)) (regions_are_over m.args way us ty.sizes ds dma is) in
    let places = subst (λ w. Gives w (HasPlaces ty.sizes)) is (region_places m.args way us ty.sizes dma) in
    let written = all_small (length ns) places.outer ty.sizes ds places.places fit over places.is in
    let few = few_outer m.args s n outside _ o.totals o.arguments (omega arith) o.passed loop in
    let e = dims_extents ns ds ty.sizes fit in
    let long = dims_long ns ds ty.sizes in
    let rank = small.rank in
    let most = box_most ns ds ty.sizes fit e in
    let elements = small.elements in
    record {
      same = same_long ds ty.sizes fit;
      written = written;
      well = record { rank = omega (arith, long, rank); each = all_well ns ds ty.sizes few fit (all_most ty.sizes some elements) written (region_begins m.args way us ty.sizes dma ds is) };
      narrow = (all_narrow ns ds ty.sizes fit some elements e).1;
      count = omega (arith, most, elements);
    }
