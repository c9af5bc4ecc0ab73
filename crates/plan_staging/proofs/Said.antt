-- What a plan's decisions say, one memref of a block after the other.
use Rattle.std.proofs.Common.{◌≡◌, inl, inr, ℕ, suc, List, [], ◌∷◌, ◌++◌, length, Bool, true, false, Option, Some, None, Result, Ok, Err, refl, sym, ap, ◌∙◌, append-nil}
use Rattle.std.specs.Prelude.{All, fold, slice_get, nat_lt, if◌then◌else◌}
use Rattle.std.proofs.lemmas.List.Elements.{All-nil, All-cons, All-append}
use Rattle.affine_ast.specs.declared.module.Arg.{Arg}
use Rattle.affine_ast.specs.declared.module.ArgKind.{ArgKind}
use Rattle.affine_ast.specs.declared.module.ArgKind.TheVariants as kind
use Rattle.affine_ast.specs.declared.name.Name.{Name}
use Rattle.affine_ast.specs.declared.types.MemrefType.{MemrefType}
use Rattle.affine_ast.specs.Names.{same_name}
use Rattle.affine_ast.proofs.Names.{same_name-eq}
use Rattle.affine_ast.specs.Nest.{Nest, nest}
use Rattle.boxes.specs.Every.{Every}
use Rattle.access_region.specs.Faults.{NoRegion}
use Rattle.nest_domain.specs.Boxes as region
use Rattle.nest_domain.specs.declared.plan.Cause.TheVariants as cause
use Rattle.nest_domain.specs.declared.plan.Options.{Options}
use Rattle.peak_laws.specs.Peak.{peak_of}
use Rattle.placement_stage.specs.Places.{spot_of}
use Rattle.placement_texts.specs.Fold.{Step, staged_all}
use Rattle.placement_texts.specs.Spots.{Spot, Here, Behind, Inside, Other, IsLoop, stage_one}
use Rattle.placement_texts.specs.Valid.{HasArgument}
use Rattle.plan_laws.specs.Limits.{keeps_intervals, keeps_limits}
use Rattle.plan_laws.specs.Sites.{path_of, loops_at, loops_round, lined}
use Rattle.plan_laws.specs.Plan.{Site, Asked, Planned, Settled, Unstaged, Placed, firsts, times, argument_number, type_of_kind, type_of, accesses_in, region_at, hoisted, step_at, text_with, tested_in, settled_from, settled, outcome_of, decision, steps_with, decided, asked_in, asked_from, asked, planned}
use Rattle.plan_laws.proofs.Sited.{every_append, sited}
use Rattle.plan_theorem.proofs.Blocks.{Loops, blocks_are_loops}
use Rattle.plan_theorem.proofs.Lists.{every_any, every_image}
use Rattle.plan_staging.specs.Decided.{of_argument, of_type, of_outcome, with_decision, placements_of, MayBeMade, IsMadeOf}
use Rattle.plan_staging.specs.Law.{PlansSayPlacements}

-- ---- a place by its path
pub spots : (s : Spot) → spot_of (path_of s) ≡ s
spots Here = refl
spots (Behind s) = ap Behind (spots s)
spots (Inside s) = ap Inside (spots s)
spots (Other s) = ap Other (spots s)

-- ---- the argument of a number
record Numbered (args : List Arg) (name : Name) (ty : MemrefType) : Type 0 where
  arg : Arg
  is : slice_get args (argument_number args name) ≡ Some arg
  named : arg.name ≡ name
  of : arg.kind ≡ kind.Memref ty
  argument : HasArgument args arg.name (kind.Memref ty)

kind_of : (k : ArgKind) (ty : MemrefType) → type_of_kind k ≡ Some ty → k ≡ kind.Memref ty
kind_of (kind.Memref of) ty h = let same : of ≡ ty = cc in ap kind.Memref same
kind_of (kind.Index r) ty h = absurd (let z : ⊥ = cc in z)

numbered : (args : List Arg) (name : Name) (ty : MemrefType) → type_of args name ≡ Some ty → Numbered args name ty
numbered [] name ty h = absurd (let z : ⊥ = cc in z)
numbered (arg ∷ args) name ty h = by (same_name arg.name name) refl (numbered args name ty) h
  where
    by : (t : Bool) → same_name arg.name name ≡ t → (type_of args name ≡ Some ty → Numbered args name ty) → (if t then type_of_kind arg.kind else type_of args name) ≡ Some ty → Numbered (arg ∷ args) name ty
    by true e more h = let k = kind_of arg.kind ty h in record {
      arg = arg;
      is = ap (λ t. slice_get (arg ∷ args) (if t then 0 else suc (argument_number args name))) e;
      named = same_name-eq arg.name name e;
      of = k;
      argument = inl (refl, k);
    }
    by false e more h = let r = more h in record {
      arg = r.arg;
      is = ap (λ t. slice_get (arg ∷ args) (if t then 0 else suc (argument_number args name))) e ∙ r.is;
      named = r.named;
      of = r.of;
      argument = inr r.argument;
    }

-- ---- each text on the way keeps to the rule on intervals
abbrev pub AllKeep : List Arg → List Step → Nest → Type 0
AllKeep args [] n = Unit {0}
AllKeep args (x ∷ xs) n = (keeps_intervals args (stage_one x.placement x.spot n) ≡ true) × AllKeep args xs (stage_one x.placement x.spot n)

keep_more : (args : List Arg) (xs : List Step) (x : Step) (n : Nest) → AllKeep args xs n → keeps_intervals args (stage_one x.placement x.spot (staged_all xs n)) ≡ true → AllKeep args (xs ++ x ∷ []) n
keep_more args [] x n h k = (k, tt)
keep_more args (y ∷ ys) x n h k = (h.0, keep_more args ys x (stage_one y.placement y.spot n) h.1 k)

pub fold_more : {A B : Type 0} (f : B → A → B) (z : B) (xs : List A) (y : A) → fold f z (xs ++ y ∷ []) ≡ f (fold f z xs) y
fold_more f z [] y = refl
fold_more f z (x ∷ xs) y = fold_more f (f z x) xs y

module _ (o : Options) (args : List Arg) (n : Nest) where
  -- ---- the blocks are loops
  abbrev IsBlock : Asked → Type 0
  IsBlock a = IsLoop a.at n

  all_blocks : (block : ℕ) (ss : List Spot) → Loops n ss → Every IsBlock (asked_from o args n block ss)
  all_blocks block [] h = tt
  all_blocks block (s ∷ ss) h =
      let ms = firsts [] (accesses_in o args n s) in
      every_append IsBlock (asked_in o args n block s ms) (asked_from o args n (suc block) ss)
      (every_image IsBlock (λ m. record { block = block; at = s; memref = m }) ms (every_any (λ m. IsLoop s n) (λ m. h.0) ms)) (all_blocks (suc block) ss h.1)

  -- ---- what is settled of a memref in a block
  record IsMade (steps : List Step) (a : Asked) (x : Step) (ds : List region.Dimension) : Type 0 where
    ty : MemrefType
    site : Site
    typed : type_of args a.memref ≡ Some ty
    is : x ≡ step_at o args n (length steps) a.memref ty site
    region : ds ≡ site.region
    loop : IsLoop site.at n
    found : region_at o args n a.memref ty site.at ≡ Ok site.region
    keeps : keeps_intervals args (stage_one x.placement x.spot (text_with o args n steps)) ≡ true

  abbrev Settles : List Step → Asked → Settled → Type 0
  Settles steps a (Unstaged c) = Unit {0}
  Settles steps a (Placed x ds) = IsMade steps a x ds

  tested_made : (steps : List Step) (a : Asked) (ty : MemrefType) (y : Site) → type_of args a.memref ≡ Some ty → IsLoop y.at n → region_at o args n a.memref ty y.at ≡ Ok y.region
      → Settles steps a (tested_in o args n (step_at o args n (length steps) a.memref ty y) y.region (text_with o args n steps))
  tested_made steps a ty y typed loop found = by (keeps_intervals args text) (nat_lt o.capacity (peak_of text 0)) (keeps_limits args text) refl
    where
      x : Step
      x = step_at o args n (length steps) a.memref ty y

      text : Nest
      text = stage_one x.placement x.spot (text_with o args n steps)

      by : (i c l : Bool) → keeps_intervals args text ≡ i → Settles steps a (if i then (if c then Unstaged cause.Capacity else (if l then Placed x y.region else Unstaged cause.Size)) else Unstaged cause.Coefficient)
      by false c l d = tt
      by true true l d = tt
      by true false true d = record { ty = ty; site = y; typed = typed; is = refl; region = refl; loop = loop; found = found; keeps = d }
      by true false false d = tt

  region_made : (steps : List Step) (a : Asked) (ty : MemrefType) (r : Result (List region.Dimension) NoRegion) → IsBlock a → type_of args a.memref ≡ Some ty → region_at o args n a.memref ty a.at ≡ r → Settles steps a (settled_from o args n steps a.memref ty a.at r)
  region_made steps a ty (Err e) k typed is = tt
  region_made steps a ty (Ok ds) k typed is =
      let m = a.memref in
      let y = hoisted o args n m ty (times m (accesses_in o args n a.at)) (loops_round a.at n) (record { at = a.at; region = ds }) in
      let h = sited o args n m ty a.at ds k is in
      tested_made steps a ty y typed h.loop h.region

  type_made : (steps : List Step) (a : Asked) (ty : Option MemrefType) → IsBlock a → type_of args a.memref ≡ ty → Settles steps a (settled o args n steps a.memref a.at ty)
  type_made steps a None k typed = tt
  type_made steps a (Some ty) k typed = region_made steps a ty (region_at o args n a.memref ty a.at) k typed refl

  -- ---- what its decision says
  said_is : (steps : List Step) (a : Asked) (x : Step) (ds : List region.Dimension) → IsMade steps a x ds → of_outcome o.dma args n (length steps) (argument_number args a.memref) (outcome_of o args n (Placed x ds)) ≡ x ∷ []
  said_is steps a x ds h =
      let k = length steps in
      let s = h.site.at in
      let r = numbered args a.memref h.ty h.typed in
      let z = step_at o args n k a.memref h.ty h.site in
      (λ i. of_outcome o.dma args n k (argument_number args a.memref) (outcome_of o args n (Placed (h.is i) (h.region i))))
      ∙ (λ i. of_argument o.dma args n k (spots s i) h.site.region z.placement.reads z.placement.writes (r.is i))
      ∙ (λ i. of_type o.dma args n k (r.named i) s h.site.region z.placement.reads z.placement.writes (type_of_kind (r.of i)))
      ∙ (λ i. sym h.is i ∷ [])

  says : (steps : List Step) (a : Asked) (y : Settled) → Settles steps a y → with_decision o.dma args n steps (decision o args n a y) ≡ steps_with o args n steps y
  says steps a (Unstaged c) h = append-nil steps
  says steps a (Placed x ds) h = ap (λ xs. steps ++ xs) (said_is steps a x ds h)

  may : (steps : List Step) (a : Asked) (y : Settled) → Settles steps a y → MayBeMade o.dma args n (argument_number args a.memref) (outcome_of o args n y)
  may steps a (Unstaged c) h = tt
  may steps a (Placed x ds) h =
      let r = numbered args a.memref h.ty h.typed in
      record {
        arg = r.arg;
        is = r.is;
        found = record {
          ty = h.ty;
          at = record { spot = h.site.at; path = ap (λ (x : Step). path_of x.spot) h.is; loop = h.loop };
          memref = r.of;
          argument = r.argument;
          region = ap (λ name. region_at o args n name h.ty h.site.at) r.named ∙ h.found ∙ ap Ok (sym h.region);
        };
      }

  -- ---- all decisions so far
  pub record Stands (so : Planned) : Type 0 where
    pub says : placements_of o.dma args n so.decisions ≡ so.steps
    pub may : All (IsMadeOf o.dma args n) so.decisions
    pub keep : AllKeep args so.steps (lined n)

  kept : (steps : List Step) (a : Asked) (y : Settled) → Settles steps a y → AllKeep args steps (lined n) → AllKeep args (steps_with o args n steps y) (lined n)
  kept steps a (Unstaged c) h k = k
  kept steps a (Placed x ds) h k = keep_more args steps x (lined n) k h.keeps

  one_more : (a : Asked) (so : Planned) → IsBlock a → Stands so → Stands (decided o args n so a)
  one_more a so block h =
      let y = settled o args n so.steps a.memref a.at (type_of args a.memref) in
      let s = type_made so.steps a (type_of args a.memref) block refl in
      let d = decision o args n a y in
      record {
        says = fold_more (with_decision o.dma args n) [] so.decisions d ∙ ap (λ steps. with_decision o.dma args n steps d) h.says ∙ says so.steps a y s;
        may = All-append (IsMadeOf o.dma args n) so.decisions (d ∷ []) h.may
            (All-cons (IsMadeOf o.dma args n) d [] (may so.steps a y s) (All-nil (IsMadeOf o.dma args n)));
        keep = kept so.steps a y s h.keep;
      }

  all_stand : (as_ : List Asked) (so : Planned) → Every IsBlock as_ → Stands so → Stands (fold (decided o args n) so as_)
  all_stand [] so each h = h
  all_stand (a ∷ as_) so each h = all_stand as_ (decided o args n so a) each.1 (one_more a so each.0 h)

  pub planned_stands : Stands (planned o args n)
  unfolding planned
  planned_stands = all_stand (asked o args n) (record { steps = []; decisions = [] }) (all_blocks 0 (loops_at o.depth n) (blocks_are_loops o.depth n))
      (record { says = refl; may = All-nil (IsMadeOf o.dma args n); keep = tt })

pub plans_say_placements : PlansSayPlacements
plans_say_placements o m = (planned_stands o m.args (nest m.body)).says
