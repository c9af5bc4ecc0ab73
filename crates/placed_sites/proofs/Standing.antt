-- The loop of a site, and the argument that its memref is.
use Rattle.std.proofs.Common.{◌≡◌, ℕ, suc, ◌+◌, ◌*◌, ◌<◌, ◌≤◌, ◌^◌, Bool, true, false, List, [], ◌∷◌, length, map, drop, get_or, Some, refl, sym, ap, ◌∙◌, arith}
use Rattle.std.proofs.lemmas.List.{at_drop_more}
use Rattle.std.specs.Prelude.{slice_get, if◌then◌else◌}
use Rattle.affine_ast.specs.declared.module.Arg.{Arg}
use Rattle.affine_ast.specs.declared.name.Name.{Name}
use Rattle.affine_ast.specs.declared.types.MemrefType.{MemrefType}
use Rattle.affine_ast.specs.Names.{same_name}
use Rattle.affine_ast.proofs.Names.{same_name-eq}
use Rattle.affine_ast.specs.Nest.{Nest, Nothing, Loop, Branch, Does}
use Rattle.affine_ast.specs.Sizes.{product}
use Rattle.boxes.specs.Boxes as boxes
use Rattle.boxes.proofs.Places.{count_most}
use Rattle.nest_domain.specs.Accessing as accessing
use Rattle.nest_domain.specs.Accessing.{NamesLoop}
use Rattle.nest_domain.specs.Boxes.{Dimension}
use Rattle.nest_domain.specs.Ways as ways
use Rattle.nest_domain.specs.Ways.{Header, loop_count, at_path}
use Rattle.nest_domain.specs.Domains.{symbol_count}
use Rattle.nest_domain.specs.declared.step.Step.{Step}
use Rattle.nest_domain.specs.Steps.{header_of}
use Rattle.text_limits.specs.Adding.{condition_count}
use Rattle.access_region.specs.Finding.{loop_in, covers_by, covers_at}
use Rattle.box_covers.specs.Covers.{covers}
use Rattle.placement_covers.specs.Law.{is_covered}
use Rattle.placement_regions.specs.Sites.{from_spot, way_to, loop_uses}
use Rattle.placement_texts.specs.Spots.{Spot, Here, Behind, Inside, Other, IsLoop}
use Rattle.placement_texts.specs.Template as template
use Rattle.placement_texts.specs.Template.{dim_extents}
use Rattle.staging_laws.specs.Law.{flat_spans}
use Rattle.planned_placements.specs.Writable.{IsNarrow}
use Rattle.text_places.specs.Blocks.{Block}
use Rattle.plan_laws.specs.Sites.{path_of, LoopsAreNamed}
use Rattle.plan_laws.specs.Plan.{argument_number, type_of_kind, type_of}

-- ---- a loop stands there
pub from_loop : (s : Spot) (n : Nest) → IsLoop s n → accessing.IsLoop (from_spot s n)
from_loop s Nothing h = absurd h
from_loop Here (Loop line v l u step body rest) h = tt
from_loop (Behind s) (Loop line v l u step body rest) h = from_loop s rest h
from_loop (Inside s) (Loop line v l u step body rest) h = from_loop s body h
from_loop (Other s) (Loop line v l u step body rest) h = absurd h
from_loop Here (Branch line set names first has other rest) h = absurd h
from_loop (Behind s) (Branch line set names first has other rest) h = from_loop s rest h
from_loop (Inside s) (Branch line set names first has other rest) h = from_loop s first h
from_loop (Other s) (Branch line set names first has other rest) h = from_loop s other h
from_loop Here (Does line q rest) h = absurd h
from_loop (Behind s) (Does line q rest) h = from_loop s rest h
from_loop (Inside s) (Does line q rest) h = absurd h
from_loop (Other s) (Does line q rest) h = absurd h

abbrev there : (n : Nest) (s : Spot) → ways.Spot
there n s = record { way = way_to s n; here = from_spot s n }

pub names_loop : LoopsAreNamed → (n : Nest) (s : Spot) (steps : List (ℕ × Bool)) → IsLoop s n → path_of s ≡ steps → NamesLoop (at_path n steps)
names_loop law n s steps h e = (there n s, ap (at_path n) (sym e) ∙ law s n h, from_loop s n h)

-- what is found of it
pub way_found : (way : List Header) (here : Nest) (b : Block) → loop_in way here ≡ Some b → way ≡ b.way
way_found way Nothing b e = absurd (let z : ⊥ = cc in z)
way_found way (Loop line v l u step body rest) b e =
    let same : record { way = way; line = line; var = v; lower = l; upper = u; step = step; body = body } ≡ b = cc in
    ap (λ x. x.way) same
way_found way (Branch line set names first has other rest) b e = absurd (let z : ⊥ = cc in z)
way_found way (Does line p rest) b e = absurd (let z : ⊥ = cc in z)

-- ---- the argument
abbrev HasNumber : List Arg → Name → ℕ → Type 0
HasNumber args m k = (arg : Arg) × (slice_get args k ≡ Some arg) × (arg.name ≡ m) × (k < length args)

has_number : (args : List Arg) (m : Name) (ty : MemrefType) → type_of args m ≡ Some ty → HasNumber args m (argument_number args m)
has_number [] m ty h = absurd (let z : ⊥ = cc in z)
has_number (arg ∷ args) m ty h = by (same_name arg.name m) refl (has_number args m ty) h
  where
    by : (t : Bool) → same_name arg.name m ≡ t → (type_of args m ≡ Some ty → HasNumber args m (argument_number args m)) → (if t then type_of_kind arg.kind else type_of args m) ≡ Some ty
        → HasNumber (arg ∷ args) m (if t then 0 else suc (argument_number args m))
    by true e more h = (arg, refl, same_name-eq arg.name m e, omega arith)
    by false e more h = let r = more h in (r.0, r.1, r.2, omega (arith, r.3))

pub argument_within : (args : List Arg) (m : Name) (ty : MemrefType) → type_of args m ≡ Some ty → argument_number args m < length args
argument_within args m ty h = (has_number args m ty h).3

-- ---- covers
covered_by : (args : List Arg) (way : List Header) (here : Nest) (m : Name) (ds : List Dimension) → accessing.IsLoop here
    → covers_by args (loop_in way here) m ds ≡ covers args way (loop_uses m way here) (symbol_count args + loop_count way) ds
covered_by args way Nothing m ds h = absurd h
covered_by args way (Loop line v l u step body rest) m ds h = refl
covered_by args way (Branch line set names first has other rest) m ds h = absurd h
covered_by args way (Does line p rest) m ds h = absurd h

pub is_told : LoopsAreNamed → (args : List Arg) (n : Nest) (m : Name) (ty : MemrefType) (s : Spot) (ds : List Dimension) (steps : List (ℕ × Bool)) (covered : Bool)
    → IsLoop s n → path_of s ≡ steps → type_of args m ≡ Some ty
    → ((t : ways.Spot) (arg : Arg) → at_path n steps ≡ Some t → slice_get args (argument_number args m) ≡ Some arg → covered ≡ covers_at args t arg.name ds)
    → covered ≡ is_covered args n m s ds
is_told law args n m ty s ds steps covered h e typed k =
    let a = has_number args m ty typed in
    k (there n s) a.0 (ap (at_path n) (sym e) ∙ law s n h) a.1
    ∙ ap (λ x. covers_by args (loop_in (way_to s n) (from_spot s n)) x ds) a.2
    ∙ covered_by args (way_to s n) (from_spot s n) m ds (from_loop s n h)

-- ---- the elements of a box
is_box : (ds : List template.Dimension) → IsNarrow ds → boxes.IsBox (flat_spans ds)
is_box [] h = tt
is_box (d ∷ ds) h = (omega (arith, h.0), omega (arith, h.1), is_box ds h.3)

elements_are : (ds : List template.Dimension) → boxes.count (flat_spans ds) ≡ product (dim_extents ds)
elements_are [] = refl
elements_are (d ∷ ds) = ap (λ k. d.extent * k) (elements_are ds)

volume_is : (ds : List template.Dimension) → IsNarrow ds → boxes.volume (flat_spans ds) < 2 ^ 32
volume_is [] h = omega arith
volume_is (d ∷ ds) h = h.2

pub few_elements : (ds : List template.Dimension) → IsNarrow ds → product (dim_extents ds) < 2 ^ 32
few_elements ds h =
    let e = elements_are ds in
    let a = count_most (flat_spans ds) (is_box ds h) in
    let v = volume_is ds h in
    omega (arith, e, a, v)

-- ---- what stands round, step by step
more_loops : (h : Header) (hs : List Header) → loop_count (h ∷ hs) ≡ loop_count (h ∷ []) + loop_count hs
more_loops (ways.Round v l u s) hs = omega arith
more_loops (ways.Given set names) hs = omega arith
more_loops (ways.Except set names first) hs = omega arith
more_loops (ways.Behind q) hs = omega arith
more_loops (ways.Past n) hs = omega arith

more_ifs : (h : Header) (hs : List Header) → condition_count (h ∷ hs) ≡ condition_count (h ∷ []) + condition_count hs
more_ifs (ways.Round v l u s) hs = omega arith
more_ifs (ways.Given set names) hs = omega arith
more_ifs (ways.Except set names first) hs = omega arith
more_ifs (ways.Behind q) hs = omega arith
more_ifs (ways.Past n) hs = omega arith

pub one_at_most : (h : Header) → (loop_count (h ∷ []) ≤ 1) × (condition_count (h ∷ []) ≤ 1)
one_at_most (ways.Round v l u s) = (omega arith, omega arith)
one_at_most (ways.Given set names) = (omega arith, omega arith)
one_at_most (ways.Except set names first) = (omega arith, omega arith)
one_at_most (ways.Behind q) = (omega arith, omega arith)
one_at_most (ways.Past n) = (omega arith, omega arith)

pub step_more : (steps : List Step) (i : ℕ) (x : Step) → i < length steps → x ≡ get_or steps i x
    → (loop_count (map header_of (drop i steps)) ≡ loop_count (header_of x ∷ []) + loop_count (map header_of (drop (i + 1) steps)))
    × (condition_count (map header_of (drop i steps)) ≡ condition_count (header_of x ∷ []) + condition_count (map header_of (drop (i + 1) steps)))
step_more steps i x h e =
    let rest = map header_of (drop (i + 1) steps) in
    let is : map header_of (drop i steps) ≡ header_of x ∷ rest = at_drop_more (map header_of) steps i x h ∙ ap (λ y. header_of y ∷ rest) (sym e) in
    (ap loop_count is ∙ more_loops (header_of x) rest, ap condition_count is ∙ more_ifs (header_of x) rest)
