-- A box has no more elements than its memref, which has at most 2^20.
use Rattle.std.proofs.Common.{◌≡◌, ℕ, suc, ◌*◌, ◌^◌, ◌≤◌, ◌<◌, ℤ, pos, negsuc, List, [], ◌∷◌, length, Bool, true, false, Option, Some, None, Result, Ok, Err, refl, sym, ap, ◌∙◌, subst, arith}
use Rattle.std.specs.Prelude.{fold, slice_get, unsigned_abs, nat_eq, nat_lt, if◌then◌else◌}
use Rattle.std.specs.List.{All}
use Rattle.std.proofs.lemmas.Int.{ints}
use Rattle.std.proofs.lemmas.List.Elements.{All-nil, All-cons, All-append}
use Rattle.affine_ast.specs.declared.module.Arg.{Arg}
use Rattle.affine_ast.specs.declared.module.ArgKind.{ArgKind}
use Rattle.affine_ast.specs.declared.module.ArgKind.TheVariants as kind
use Rattle.affine_ast.specs.declared.name.Name.{Name}
use Rattle.affine_ast.specs.declared.types.Element.{Element}
use Rattle.affine_ast.specs.declared.types.Element.TheVariants.{I8, I16, I32, I64}
use Rattle.affine_ast.specs.declared.types.MemrefType.{MemrefType}
use Rattle.affine_ast.specs.Names.{same_name}
use Rattle.affine_ast.specs.Nest.{Nest, nest}
use Rattle.affine_ast.specs.Sizes.{product}
use Rattle.affine_ast.specs.Validity.{outside}
use Rattle.valid_laws.proofs.SafeStart.{ArgumentsHold}
use Rattle.direct_meaning.specs.Static.{element_bytes}
use Rattle.nest_domain.specs.declared.plan.Cause.TheVariants as cause
use Rattle.nest_domain.specs.declared.plan.Decision.{Decision}
use Rattle.nest_domain.specs.declared.plan.Options.{Options}
use Rattle.nest_domain.specs.Boxes as region
use Rattle.access_region.specs.Faults.{NoRegion}
use Rattle.placement_texts.specs.Fold.{Step}
use Rattle.placement_texts.specs.Spots.{Spot, stage_one}
use Rattle.placement_regions.specs.Sites.{from_spot, way_to, loop_uses}
use Rattle.placement_regions.proofs.Extents.{Fits, AllFit, extents_fit}
use Rattle.placement_regions.proofs.Theorem.{opens, argument_sizes}
use Rattle.plan_validity.proofs.Numbers.{argument_small}
use Rattle.peak_laws.specs.Peak.{peak_of}
use Rattle.plan_report.specs.Report.{extents, kind_bytes, element_bytes_of, half_bytes, HasBytes}
use Rattle.plan_laws.specs.Limits.{keeps_limits, keeps_intervals}
use Rattle.plan_laws.specs.Sites.{loops_round}
use Rattle.plan_laws.specs.Plan.{Site, Asked, Planned, Settled, Unstaged, Placed, times, argument_number, type_of_kind, type_of, same_extents, accesses_in, region_at, hoisted_by, hoisted, step_at, text_with, tested_in, settled_from, settled, outcome_of, decision, decided, asked, planned}
use Rattle.plan_theorem.proofs.Homes.{has_argument}
use Rattle.plan_amounts.specs.Law.{PlansAreReportable}

-- ---- numbers
extent_most : (e : ℤ) (n : ℕ) → Fits e (pos n) → unsigned_abs e ≤ n
extent_most (pos k) n h = let f = h.1 in grind (arith, ints, f)
extent_most (negsuc k) n h = absurd (let f = h.0 in grind (arith, ints, f))

times_most : (a b c d : ℕ) → a ≤ c → b ≤ d → a * b ≤ c * d
times_most a b c d p q = grind (arith, p, q)

box_most : (ds : List region.Dimension) (ns : List ℕ) → AllFit ds ns → product (extents ds) ≤ product ns
box_most [] [] h = omega arith
box_most [] (n ∷ ns) h = absurd h
box_most (d ∷ ds) [] h = absurd h
box_most (d ∷ ds) (n ∷ ns) h = times_most (unsigned_abs d.extent) (product (extents ds)) n (product ns) (extent_most d.extent n h.0) (box_most ds ns h.1)

bytes_less : (a : ℕ) (e : Element) → a ≤ 1048576 → a * element_bytes e < 2 ^ 64
bytes_less a I8 h = omega (arith, h)
bytes_less a I16 h = omega (arith, h)
bytes_less a I32 h = omega (arith, h)
bytes_less a I64 h = omega (arith, h)

-- ---- the argument of a number
record Numbered (args : List Arg) (m : Name) (ty : MemrefType) : Type 0 where
  arg : Arg
  is : slice_get args (argument_number args m) ≡ Some arg
  of : arg.kind ≡ kind.Memref ty

kind_of : (k : ArgKind) (ty : MemrefType) → type_of_kind k ≡ Some ty → k ≡ kind.Memref ty
kind_of (kind.Memref of) ty h = let same : of ≡ ty = cc in ap kind.Memref same
kind_of (kind.Index r) ty h = absurd (let z : ⊥ = cc in z)

numbered : (args : List Arg) (m : Name) (ty : MemrefType) → type_of args m ≡ Some ty → Numbered args m ty
numbered [] m ty h = absurd (let z : ⊥ = cc in z)
numbered (arg ∷ args) m ty h = by (same_name arg.name m) refl (numbered args m ty) h
  where
    by : (t : Bool) → same_name arg.name m ≡ t → (type_of args m ≡ Some ty → Numbered args m ty) → (if t then type_of_kind arg.kind else type_of args m) ≡ Some ty → Numbered (arg ∷ args) m ty
    by true e more h = record { arg = arg; is = ap (λ t. slice_get (arg ∷ args) (if t then 0 else suc (argument_number args m))) e; of = kind_of arg.kind ty h }
    by false e more h = let r = more h in record { arg = r.arg; is = ap (λ t. slice_get (arg ∷ args) (if t then 0 else suc (argument_number args m))) e ∙ r.is; of = r.of }

module _ (o : Options) (args : List Arg) (n : Nest) (hold : ArgumentsHold args outside) where
  abbrev HasAmount : Asked → Settled → Type 0
  HasAmount a y = HasBytes (slice_get args (argument_number args a.memref)) (outcome_of o args n y)

  -- of a region of the memref
  bytes_of : (m : Name) (ty : MemrefType) (s : Spot) (ds : List region.Dimension) → type_of args m ≡ Some ty → region_at o args n m ty s ≡ Ok ds → half_bytes (slice_get args (argument_number args m)) ds < 2 ^ 64
  bytes_of m ty s ds typed is =
      let argument = has_argument args m ty typed in
      let fit = extents_fit args (way_to s n) (loop_uses m (way_to s n) (from_spot s n)) ty.sizes o.dma ds (argument_sizes args outside m ty hold argument) is in
      let small = argument_small args outside m ty hold argument in
      let box = box_most ds ty.sizes fit in
      let r = numbered args m ty typed in
      subst (λ b. product (extents ds) * b < 2 ^ 64) (sym (ap element_bytes_of r.is ∙ ap kind_bytes r.of)) (bytes_less (product (extents ds)) ty.element (omega (arith, box, small)))

  -- hoisted, it is a region of the memref still
  abbrev IsRegion : Name → MemrefType → Site → Type 0
  IsRegion m ty x = region_at o args n m ty x.at ≡ Ok x.region

  module _ (m : Name) (ty : MemrefType) (count : ℕ) where
    one_more : (x : Site) (s : Spot) (r : Result (List region.Dimension) NoRegion) (further : Site → Site) → region_at o args n m ty s ≡ r → IsRegion m ty x → ((y : Site) → IsRegion m ty y → IsRegion m ty (further y)) → IsRegion m ty (hoisted_by o args n further x s r)
    one_more x s (Err e) further is h more = h
    one_more x s (Ok ds) further is h more = by (same_extents x.region ds)
      where
        by : (t : Bool) → IsRegion m ty (if t then further (record { at = s; region = ds }) else x)
        by true = more (record { at = s; region = ds }) is
        by false = h

    either : (t : Bool) (x y : Site) → IsRegion m ty x → IsRegion m ty y → IsRegion m ty (if t then x else y)
    either true x y h k = h
    either false x y h k = k

    outward : (ss : List Spot) (x : Site) → IsRegion m ty x → IsRegion m ty (hoisted o args n m ty count ss x)
    outward [] x h = h
    outward (s ∷ ss) x h =
        either (nat_eq (times m (accesses_in o args n s)) count) (hoisted_by o args n (hoisted o args n m ty count ss) x s (region_at o args n m ty s)) x
        (one_more x s (region_at o args n m ty s) (hoisted o args n m ty count ss) refl h (λ y k. outward ss y k)) h

  tested_amount : (a : Asked) (x : Step) (ds : List region.Dimension) (text : Nest) → half_bytes (slice_get args (argument_number args a.memref)) ds < 2 ^ 64 → HasAmount a (tested_in o args n x ds text)
  tested_amount a x ds text h = by (keeps_intervals args staged) (nat_lt o.capacity (peak_of staged 0)) (keeps_limits args staged)
    where
      staged : Nest
      staged = stage_one x.placement x.spot text

      by : (i c l : Bool) → HasAmount a (if i then (if c then Unstaged cause.Capacity else (if l then Placed x ds else Unstaged cause.Size)) else Unstaged cause.Coefficient)
      by false c l = tt
      by true true l = tt
      by true false true = h
      by true false false = tt

  region_amount : (steps : List Step) (a : Asked) (ty : MemrefType) (r : Result (List region.Dimension) NoRegion) → type_of args a.memref ≡ Some ty → region_at o args n a.memref ty a.at ≡ r → HasAmount a (settled_from o args n steps a.memref ty a.at r)
  region_amount steps a ty (Err e) typed is = tt
  region_amount steps a ty (Ok ds) typed is =
      let m = a.memref in
      let count = times m (accesses_in o args n a.at) in
      let y = hoisted o args n m ty count (loops_round a.at n) (record { at = a.at; region = ds }) in
      tested_amount a (step_at o args n (length steps) m ty y) y.region (text_with o args n steps) (bytes_of m ty y.at y.region typed (outward m ty count (loops_round a.at n) (record { at = a.at; region = ds }) is))

  type_amount : (steps : List Step) (a : Asked) (ty : Option MemrefType) → type_of args a.memref ≡ ty → HasAmount a (settled o args n steps a.memref a.at ty)
  type_amount steps a None typed = tt
  type_amount steps a (Some ty) typed = region_amount steps a ty (region_at o args n a.memref ty a.at) typed refl

  abbrev Has : Decision → Type 0
  Has d = HasBytes (slice_get args d.memref) d.outcome

  all_amounts : (as_ : List Asked) (so : Planned) → All Has so.decisions → All Has (fold (decided o args n) so as_).decisions
  all_amounts [] so h = h
  all_amounts (a ∷ as_) so h =
      let y = settled o args n so.steps a.memref a.at (type_of args a.memref) in
      all_amounts as_ (decided o args n so a) (All-append Has so.decisions (decision o args n a y ∷ []) h (All-cons Has (decision o args n a y) [] (type_amount so.steps a (type_of args a.memref) refl) (All-nil Has)))

  pub planned_amounts : All Has (planned o args n).decisions
  unfolding planned
  planned_amounts = all_amounts (asked o args n) (record { steps = []; decisions = [] }) (All-nil Has)

pub reportable : PlansAreReportable
reportable o m valid = planned_amounts o m.args (nest m.body) (opens m valid).arguments
