-- One decision more, in code; and the loop that a decision's path names.
use Rattle.std.proofs.Common.{◌≡◌, ℕ, zero, suc, ◌+◌, ◌<◌, ◌≤◌, Bool, List, [], ◌∷◌, ◌++◌, take, length, get_or, Option, Some, None, refl, sym, ap, ◌∙◌, subst, arith, append-nil, length-append}
use Rattle.std.specs.Prelude.{All, map, slice_get}
use Rattle.std.proofs.lemmas.List.Elements.{All-nil, All-cons, All-append}
use Rattle.std.specs.Option.{option_map}
use Rattle.std.proofs.lemmas.List.{take_more, take_all}
use Rattle.affine_ast.specs.declared.module.Arg.{Arg}
use Rattle.affine_ast.specs.declared.module.ArgKind.{ArgKind}
use Rattle.affine_ast.specs.declared.module.ArgKind.TheVariants as kind
use Rattle.affine_ast.specs.declared.module.Module.{Module}
use Rattle.affine_ast.specs.declared.name.Name.{Name}
use Rattle.affine_ast.specs.declared.types.MemrefType.{MemrefType}
use Rattle.affine_ast.specs.Nest.{Nest, nest}
use Rattle.affine_ast.specs.Validity.{IsValid}
use Rattle.nest_domain.specs.Boxes as region
use Rattle.nest_domain.specs.Domains.{symbol_names}
use Rattle.nest_domain.specs.Steps.{header_of, spot_of}
use Rattle.nest_domain.specs.Ways as ways
use Rattle.nest_domain.specs.Ways.{at_path, loop_names}
use Rattle.nest_domain.specs.declared.plan.Decision.{Decision}
use Rattle.nest_domain.specs.declared.step.Found.{Found}
use Rattle.placement_code.specs.Placed.{placement_of}
use Rattle.placement_stage.specs.All.{AreSteps}
use Rattle.placement_stage.specs.Places as places
use Rattle.placement_stage.specs.declared.all.PlacedAt.{PlacedAt}
use Rattle.made_names.specs.Made.{made_name}
use Rattle.placement_regions.specs.Sites.{way_to, outer_names, dims_over}
use Rattle.placement_texts.specs.Fold.{Step}
use Rattle.placement_texts.specs.Template.{Placement}
use Rattle.placement_texts.specs.Spots.{Spot, IsLoop}
use Rattle.plan_laws.specs.Plan.{type_of_kind}
use Rattle.plan_laws.specs.Sites.{path_of}
use Rattle.plan_laws.proofs.Plans.{named}
use Rattle.planned_placements.specs.Writable.{MayBePlaced}
use Rattle.planned_placements.proofs.Placeable.{regions_may_be_placed}
use Rattle.staged_plans.specs.Plans.{how_over}
use Rattle.plan_staging.specs.Decided.{step_of, of_type, of_argument, with_decision, of_outcome, placements_of, NamesLoop, IsFound, HasFound}
use Rattle.plan_staging.specs.Made.{AreStepsOf, MayBeWrittenAt, MayBeWrittenWhere, IsAdded}
use Rattle.plan_staging.proofs.Said.{spots, fold_more}

-- ---- a list of placements, longer by one
both_long : (xs : List PlacedAt) (ss : List Step) → AreSteps xs ss → length xs ≡ length ss
both_long [] [] h = refl
both_long [] (s ∷ ss) h = absurd h
both_long (x ∷ xs) [] h = absurd h
both_long (x ∷ xs) (s ∷ ss) h = ap suc (both_long xs ss h.1)

steps_append : (xs ys : List PlacedAt) (ss ts : List Step) → AreSteps xs ss → AreSteps ys ts → AreSteps (xs ++ ys) (ss ++ ts)
steps_append [] ys [] ts h k = k
steps_append [] ys (s ∷ ss) ts h k = absurd h
steps_append (x ∷ xs) ys [] ts h k = absurd h
steps_append (x ∷ xs) ys (s ∷ ss) ts h k = (h.0, steps_append xs ys ss ts h.1 k)

pub added_one : (xs new : List PlacedAt) (x : PlacedAt) (ss : List Step) → AreStepsOf (Some x) ss → MayBeWrittenWhere (Some x) → new ≡ xs ++ x ∷ [] → IsAdded xs new ss
added_one xs new x ss h w e = record { added = x ∷ []; whole = e; steps = h; written = All-cons MayBeWrittenAt x [] w (All-nil MayBeWrittenAt); few = omega arith }

pub added_none : (xs : List PlacedAt) (ss : List Step) → AreStepsOf None ss → IsAdded xs xs ss
added_none xs ss h = record { added = []; whole = sym (append-nil xs); steps = h; written = All-nil MayBeWrittenAt; few = omega arith }

pub next_written : (xs new : List PlacedAt) (ss : List Step) → All MayBeWrittenAt xs → IsAdded xs new ss → All MayBeWrittenAt new
next_written xs new ss h k = subst (All MayBeWrittenAt) (sym k.whole) (All-append MayBeWrittenAt xs k.added h k.written)

pub next_few : (xs new : List PlacedAt) (ss : List Step) (i : ℕ) → length xs ≤ i → IsAdded xs new ss → length new ≤ i + 1
next_few xs new ss i h k = let e = ap length k.whole ∙ length-append xs k.added in let f = k.few in omega (arith, h, e, f)

module _ (dma : Bool) (args : List Arg) (n : Nest) where
  pub next_placed : (ds : List Decision) (i : ℕ) (d : Decision) (xs new : List PlacedAt) → i < length ds → d ≡ get_or ds i d
      → AreSteps xs (placements_of dma args n (take i ds)) → IsAdded xs new (of_outcome dma args n (length xs) d.memref d.outcome) → AreSteps new (placements_of dma args n (take (i + 1) ds))
  next_placed ds i d xs new h is so k =
      let ss = placements_of dma args n (take i ds) in
      let all = steps_append xs k.added ss (of_outcome dma args n (length xs) d.memref d.outcome) so k.steps in
      let one : placements_of dma args n (take (i + 1) ds) ≡ with_decision dma args n ss d =
      ap (placements_of dma args n) (take_more ds i d h ∙ ap (λ y. take i ds ++ y ∷ []) (sym is)) ∙ fold_more (with_decision dma args n) [] (take i ds) d in
      subst (λ ys. AreSteps ys (placements_of dma args n (take (i + 1) ds))) (sym k.whole)
      (subst (AreSteps (xs ++ k.added)) (ap (λ m. ss ++ of_outcome dma args n m d.memref d.outcome) (both_long xs ss so) ∙ sym one) all)

  pub placed_end : (ds : List Decision) (i : ℕ) (xs : List PlacedAt) → length ds ≤ i → AreSteps xs (placements_of dma args n (take i ds)) → AreSteps xs (placements_of dma args n ds)
  placed_end ds i xs h so = subst (λ es. AreSteps xs (placements_of dma args n es)) (take_all i ds h) so

-- ---- the loop that a decision's path names
there : (steps : List (ℕ × Bool)) (s : Spot) → steps ≡ path_of s → s ≡ places.spot_of steps
there steps s path = sym (spots s) ∙ ap places.spot_of (sym path)

way_is : (body : Nest) (found : Found) (steps : List (ℕ × Bool)) (s : Spot) → IsLoop s body → steps ≡ path_of s → option_map spot_of (Some found) ≡ at_path body steps → map header_of found.way.items ≡ way_to s body
way_is body found steps s loop path is = ap back (is ∙ ap (at_path body) path ∙ named s body loop)
  where
    back : Option ways.Spot → List ways.Header
    back None = []
    back (Some x) = x.way

pub loop_is : (body : Nest) (args : List Arg) (found : Found) (steps : List (ℕ × Bool)) (names : List Name) → (f : NamesLoop body steps)
    → option_map spot_of (Some found) ≡ at_path body steps → names ≡ symbol_names args ++ loop_names (map header_of found.way.items) → names ≡ outer_names args (way_to (places.spot_of steps) body)
loop_is body args found steps names f is names_are =
    names_are
    ∙ ap (λ way. symbol_names args ++ loop_names way) (way_is body found steps f.spot f.loop f.path is)
    ∙ ap (λ s. outer_names args (way_to s body)) (there steps f.spot f.path)

-- ---- the placement there
same_type : (k : ArgKind) (ty of : MemrefType) → k ≡ kind.Memref ty → k ≡ kind.Memref of → ty ≡ of
same_type k ty of e f = let same : kind.Memref ty ≡ kind.Memref of = sym e ∙ f in cc

pub may_be_placed : (m : Module) (arg : Arg) (ds over : List region.Dimension) (dma : Bool) (steps : List (ℕ × Bool)) (ty : MemrefType) (names : List Name) → IsValid m → IsFound dma m.args (nest m.body) arg steps ds
    → arg.kind ≡ kind.Memref ty → names ≡ outer_names m.args (way_to (places.spot_of steps) (nest m.body)) → over ≡ ds → MayBePlaced names over ty.sizes
may_be_placed m arg ds over dma steps ty names valid f e is same =
    let s = f.at.spot in
    subst (λ es. MayBePlaced names es ty.sizes) (sym same)
    (subst (λ ns. MayBePlaced ns ds ty.sizes) (ap (λ s. outer_names m.args (way_to s (nest m.body))) (there steps s f.at.path) ∙ sym is)
    (subst (λ (t : MemrefType). MayBePlaced (outer_names m.args (way_to s (nest m.body))) ds t.sizes) (same_type arg.kind f.ty ty f.memref e)
    (regions_may_be_placed m valid arg.name f.ty s dma ds f.argument f.at.loop f.region)))

-- what it is
placement_over : Bool → ℕ → Name → MemrefType → List Name → List region.Dimension → Bool → Bool → Placement
placement_over dma number name ty names ds reads writes = record {
  memref = name;
  element = ty.element;
  dims = dims_over names ds ty.sizes;
  reads = reads;
  writes = writes;
  how = how_over dma (dims_over names ds ty.sizes);
  name = made_name number;
}

pub one_placed : (args : List Arg) (n : Nest) (arg : Arg) (ds over : List region.Dimension) (dma reads writes : Bool) (number : ℕ) (steps : List (ℕ × Bool)) (ty : MemrefType) (names : List Name) (x : PlacedAt)
    → arg.kind ≡ kind.Memref ty → names ≡ outer_names args (way_to (places.spot_of steps) n) → over ≡ ds
    → placement_of x.placed ≡ record { memref = arg.name; element = ty.element; dims = dims_over names over ty.sizes; reads = reads; writes = writes; how = how_over dma (dims_over names over ty.sizes); name = made_name number }
    → x.at.steps ≡ steps → AreSteps (x ∷ []) (of_argument dma args n number (places.spot_of steps) ds reads writes (Some arg))
unfolding placement_over
one_placed args n arg ds over dma reads writes number steps ty names x e is region_is placed at =
    let s = places.spot_of steps in
    let same : placement_of x.placed ≡ (step_of dma args n number arg.name ty s ds reads writes).placement =
    placed ∙ (λ i. placement_over dma number arg.name ty (is i) (region_is i) reads writes) in
    subst (λ k. AreSteps (x ∷ []) (of_type dma args n number arg.name s ds reads writes (type_of_kind k))) (sym e)
    (record { placement = sym same; spot = ap places.spot_of (sym at) }, tt)

-- ---- the argument that a decision's number names
get_is : {A : Type 0} (xs : List A) (k : ℕ) (a d : A) → slice_get xs k ≡ Some a → get_or xs k d ≡ a
get_is [] k a d h = absurd (none k h)
  where
    none : (k : ℕ) → slice_get [] k ≡ Some a → ⊥
    none zero h = cc
    none (suc k) h = cc
get_is (x ∷ xs) zero a d h = cc
get_is (x ∷ xs) (suc k) a d h = get_is xs k a d h

pub found_within : (dma : Bool) (args : List Arg) (n : Nest) (k : ℕ) (steps : List (ℕ × Bool)) (ds : List region.Dimension) → HasFound dma args n k steps ds → k < length args
found_within dma args n k steps ds f = within args k f.arg f.is
  where
    within : (xs : List Arg) (k : ℕ) (a : Arg) → slice_get xs k ≡ Some a → k < length xs
    within [] zero a h = absurd (let z : ⊥ = cc in z)
    within [] (suc k) a h = absurd (let z : ⊥ = cc in z)
    within (x ∷ xs) zero a h = omega arith
    within (x ∷ xs) (suc k) a h = let m = within xs k a h in omega (arith, m)

pub found_here : (dma : Bool) (args : List Arg) (n : Nest) (k : ℕ) (steps : List (ℕ × Bool)) (ds : List region.Dimension) (arg : Arg) → HasFound dma args n k steps ds → arg ≡ get_or args k arg → IsFound dma args n arg steps ds
found_here dma args n k steps ds arg f is = subst (λ a. IsFound dma args n a steps ds) (sym (is ∙ get_is args k f.arg arg f.is)) f.found

pub said_by : (dma : Bool) (args : List Arg) (n : Nest) (number k : ℕ) (steps : List (ℕ × Bool)) (ds : List region.Dimension) (reads writes : Bool) (arg : Arg) (x : PlacedAt) → HasFound dma args n k steps ds → arg ≡ get_or args k arg
    → AreSteps (x ∷ []) (of_argument dma args n number (places.spot_of steps) ds reads writes (Some arg)) → AreSteps (x ∷ []) (of_argument dma args n number (places.spot_of steps) ds reads writes (slice_get args k))
said_by dma args n number k steps ds reads writes arg x f is h =
    subst (λ a. AreSteps (x ∷ []) (of_argument dma args n number (places.spot_of steps) ds reads writes a)) (ap Some (is ∙ get_is args k f.arg arg f.is) ∙ sym f.is) h
