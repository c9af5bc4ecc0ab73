-- The numbers of a planned placement: the box has elements, no more than a count can say, and stride and chunk are as V10 asks for.
use Rattle.std.proofs.Common.{◌≡◌, ◌⊎◌, inl, inr, ℕ, suc, ◌+◌, ◌*◌, ◌^◌, ◌≤◌, ◌<◌, List, [], ◌∷◌, Bool, true, false, Some, None, refl, sym, ap, ◌∙◌, subst, arith}
use Rattle.std.specs.Prelude.{◌&&◌, nat_eq, nat_le, if◌then◌else◌}
use Rattle.std.proofs.lemmas.Bool.{and_parts}
use Rattle.affine_ast.specs.declared.module.Arg.{Arg}
use Rattle.affine_ast.specs.declared.module.ArgKind.{ArgKind}
use Rattle.affine_ast.specs.declared.module.ArgKind.TheVariants as kind
use Rattle.affine_ast.specs.declared.types.MemrefType.{MemrefType}
use Rattle.affine_ast.specs.declared.name.Name.{Name}
use Rattle.affine_ast.specs.Rules.{shape_within, arguments_within}
use Rattle.affine_ast.specs.Scope.{Around}
use Rattle.affine_ast.specs.Sizes.{product}
use Rattle.affine_ast.specs.Validity.{with_argument, behind_argument}
use Rattle.valid_laws.proofs.SafeStart.{ArgumentHolds, ArgumentsHold}
use Rattle.boxes.specs.Boxes.{Side, volume, count, IsBox, Shape, Whole, OneRun, Even, Runs, Mixed, is_whole, shape_over, shape}
use Rattle.boxes.proofs.Places.{count_pos, count_most}
use Rattle.boxes.proofs.Transfers.{Ordered, shape_ordered}
use Rattle.placement_texts.specs.Template.{Dimension, How, Copies, Transfers, dim_sizes, dim_extents}
use Rattle.placement_texts.specs.Tests.{ChunksWell}
use Rattle.placement_texts.specs.Valid.{HasArgument}
use Rattle.placement_regions.specs.Sites.{ExtentsFit}
use Rattle.staging_laws.specs.Law.{flat_spans}
use Rattle.staged_plans.specs.Plans.{chunks_of, how_over}

-- a memref argument has at most 1,048,576 elements
pub argument_small : (args : List Arg) (a : Around) (n : Name) (ty : MemrefType) → ArgumentsHold args a → HasArgument args n (kind.Memref ty) → product ty.sizes ≤ 1048576
argument_small [] a n ty h k = absurd k
argument_small (arg ∷ args) a n ty h (inl k) = by arg.kind k.1 h.0
  where
    by : (x : ArgKind) → x ≡ kind.Memref ty → ArgumentHolds a arg.name x → product ty.sizes ≤ 1048576
    by x e holds =
        let elements = (subst (ArgumentHolds a arg.name) e holds).elements in
        let two = and_parts (shape_within ty) (arguments_within (with_argument (kind.Memref ty) a.totals)) elements in
        let m = and_parts (nat_le (suc a.totals.memrefs) 64) (nat_le a.totals.indexes 16 && nat_le (a.totals.elements + product ty.sizes) 1048576) two.1 in
        let l = and_parts (nat_le a.totals.indexes 16) (nat_le (a.totals.elements + product ty.sizes) 1048576) m.1 in
        let less : a.totals.elements + product ty.sizes ≤ 1048576 = grind (arith, l.1) in
        omega (arith, less)
argument_small (arg ∷ args) a n ty h (inr k) = argument_small args (behind_argument arg.name arg.kind a) n ty h.1 k

flat_box : (ds : List Dimension) → ExtentsFit ds → IsBox (flat_spans ds)
flat_box [] h = tt
flat_box (d ∷ ds) h = let low = h.0 in let high = h.1 in (omega (arith, low), omega (arith, high), flat_box ds h.2)

flat_volume : (ds : List Dimension) → volume (flat_spans ds) ≡ product (dim_sizes ds)
flat_volume [] = refl
flat_volume (d ∷ ds) = ap (λ n. d.size * n) (flat_volume ds)

flat_count : (ds : List Dimension) → count (flat_spans ds) ≡ product (dim_extents ds)
flat_count [] = refl
flat_count (d ∷ ds) = ap (λ n. d.extent * n) (flat_count ds)

pub fewer_elements : (ds : List Dimension) → ExtentsFit ds → product (dim_extents ds) ≤ product (dim_sizes ds)
fewer_elements ds h = subst (λ n. n ≤ product (dim_sizes ds)) (flat_count ds) (subst (λ n. count (flat_spans ds) ≤ n) (flat_volume ds) (count_most (flat_spans ds) (flat_box ds h)))

-- a chunk has an element, and a stride stays within the memref
abbrev Bounded : ℕ → Shape → Type 0
Bounded v Whole = Unit {0}
Bounded v OneRun = Unit {0}
Bounded v (Even c s) = (1 ≤ c) × (s ≤ v)
Bounded v (Runs c s) = (1 ≤ c) × (s ≤ v)
Bounded v Mixed = Unit {0}

larger : (v w : ℕ) → v ≤ w → (s : Shape) → Bounded v s → Bounded w s
larger v w h Whole b = tt
larger v w h OneRun b = tt
larger v w h (Even c s) b = let k = b.1 in (b.0, omega (arith, h, k))
larger v w h (Runs c s) b = let k = b.1 in (b.0, omega (arith, h, k))
larger v w h Mixed b = tt

over_bounded : (d : Side) (ds : List Side) (v : ℕ) → IsBox ds → volume ds ≤ v → (s : Shape) → Bounded v s → Bounded v (shape_over d ds s)
over_bounded d ds v i h Whole b = by (is_whole d)
  where
    by : (t : Bool) → Bounded v (if t then Whole else OneRun)
    by true = tt
    by false = tt
over_bounded d ds v i h OneRun b = by (nat_eq d.extent 1) (is_whole d)
  where
    by : (t u : Bool) → Bounded v (if t then OneRun else (if u then Even (count ds) (volume ds) else Runs (count ds) (volume ds)))
    by true u = tt
    by false true = (count_pos ds i, h)
    by false false = (count_pos ds i, h)
over_bounded d ds v i h (Even c s) b = by (is_whole d)
  where
    by : (t : Bool) → Bounded v (if t then Even c s else Runs c s)
    by true = b
    by false = b
over_bounded d ds v i h (Runs c s) b = by (nat_eq d.extent 1)
  where
    by : (t : Bool) → Bounded v (if t then Runs c s else Mixed)
    by true = b
    by false = tt
over_bounded d ds v i h Mixed b = tt

shape_bounded : (ds : List Side) → IsBox ds → Bounded (volume ds) (shape ds)
shape_bounded [] i = tt
shape_bounded (d ∷ ds) i = over_bounded d ds (d.size * volume ds) i.2 (more d.size d.extent (volume ds) i.0 i.1) (shape ds) (larger (volume ds) (d.size * volume ds) (more d.size d.extent (volume ds) i.0 i.1) (shape ds) (shape_bounded ds i.2))
  where
    more : (n e v : ℕ) → 0 < e → d.place + e ≤ n → v ≤ n * v
    more n e v p q = let some : 1 ≤ n = omega (arith, p, q) in grind (arith, some)

chunks_well : (s : Shape) (v : ℕ) → v ≤ 1048576 → Ordered s → Bounded v s → ChunksWell (Transfers (chunks_of s))
chunks_well Whole v h o b = tt
chunks_well OneRun v h o b = tt
chunks_well (Even c s) v h o b = let k = b.1 in (b.0, o, omega (arith, h, k))
chunks_well (Runs c s) v h o b = let k = b.1 in (b.0, o, omega (arith, h, k))
chunks_well Mixed v h o b = tt

pub how_well : (dma : Bool) (ds : List Dimension) → ExtentsFit ds → product (dim_sizes ds) ≤ 1048576 → ChunksWell (how_over dma ds)
how_well false ds h less = tt
how_well true ds h less =
    let i = flat_box ds h in
    chunks_well (shape (flat_spans ds)) (volume (flat_spans ds)) (subst (λ n. n ≤ 1048576) (sym (flat_volume ds)) less) (shape_ordered (flat_spans ds) i) (shape_bounded (flat_spans ds) i)
