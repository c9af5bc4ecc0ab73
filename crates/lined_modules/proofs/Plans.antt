-- Lines have no part in which placements a plan has.
use Rattle.std.proofs.Common.{◌≡◌, ℕ, zero, suc, ◌+◌, List, [], ◌∷◌, ◌++◌, length, map, Bool, true, false, Option, Some, None, Result, Ok, Err, refl, sym, ap, ◌∙◌}
use Rattle.std.specs.Prelude.{fold, not, ◌&&◌, ◌||◌, nat_eq, if◌then◌else◌}
use Rattle.affine_ast.specs.declared.module.Arg.{Arg}
use Rattle.affine_ast.specs.declared.name.Name.{Name}
use Rattle.affine_ast.specs.declared.types.MemrefType.{MemrefType}
use Rattle.affine_ast.specs.Nest.{Nest, Nothing, Loop, Branch, Does}
use Rattle.nest_domain.specs.declared.plan.Options.{Options}
use Rattle.nest_domain.specs.Boxes as region
use Rattle.nest_domain.specs.Ways as ways
use Rattle.nest_domain.specs.Ways.{Use, Affine, Other, loop_count}
use Rattle.nest_domain.specs.Domains.{symbol_count, symbol_names}
use Rattle.access_region.specs.Faults.{NoRegion}
use Rattle.access_region.specs.Places.{region_of}
use Rattle.box_covers.specs.Covers.{covers}
use Rattle.placement_texts.specs.Fold.{Step, staged_all}
use Rattle.placement_texts.specs.Spots as spots
use Rattle.placement_texts.specs.Spots.{Spot, Here, Behind, Inside}
use Rattle.placement_regions.specs.Sites.{from_spot, alone, way_to, loop_uses, region_there, outer_names, dims_over}
use Rattle.placement_covers.specs.Law.{is_covered}
use Rattle.staged_plans.specs.Plans.{how_over, has_store, uses_there}
use Rattle.plan_laws.specs.Sites.{loops_at, loops_round, lined}
use Rattle.plan_laws.specs.Plan.{accessed, with_access, accesses, firsts, times, type_of, Site, Asked, Planned, Settled, Unstaged, Placed, same_extents, accesses_in, region_at, hoisted_by, hoisted, placement_at, step_at, text_with, tested_in, settled_at, settled_from, settled, steps_with, decided, asked_in, asked_from, asked, planned}
use Rattle.lined_modules.proofs.Texts.{lined_twice}
use Rattle.lined_modules.proofs.Ways.{way, way_append, uses_with, way_loops, way_names, uses_are, region_with, covers_with}

from_lined : (s : Spot) (n : Nest) → from_spot s (lined n) ≡ lined (from_spot s n)
from_lined Here n = refl
from_lined (Behind s) Nothing = refl
from_lined (Behind s) (Loop line v l u step body rest) = from_lined s rest
from_lined (Behind s) (Branch line set names first has other rest) = from_lined s rest
from_lined (Behind s) (Does line q rest) = from_lined s rest
from_lined (Inside s) Nothing = refl
from_lined (Inside s) (Loop line v l u step body rest) = from_lined s body
from_lined (Inside s) (Branch line set names first has other rest) = from_lined s first
from_lined (Inside s) (Does line q rest) = refl
from_lined (spots.Other s) Nothing = refl
from_lined (spots.Other s) (Loop line v l u step body rest) = refl
from_lined (spots.Other s) (Branch line set names first has other rest) = from_lined s other
from_lined (spots.Other s) (Does line q rest) = refl

pub way_lined : (s : Spot) (n : Nest) → way_to s (lined n) ≡ way (way_to s n)
way_lined Here n = refl
way_lined (Behind s) Nothing = refl
way_lined (Behind s) (Loop line v l u step body rest) = ap (λ w. ways.Past (lined body) ∷ w) (way_lined s rest)
way_lined (Behind s) (Branch line set names first has other rest) = ap (λ w. ways.Past (lined first) ∷ (ways.Past (lined other) ∷ w)) (way_lined s rest)
way_lined (Behind s) (Does line q rest) = ap (λ w. ways.Behind q ∷ w) (way_lined s rest)
way_lined (Inside s) Nothing = refl
way_lined (Inside s) (Loop line v l u step body rest) = ap (λ w. ways.Round v l u step ∷ w) (way_lined s body)
way_lined (Inside s) (Branch line set names first has other rest) = ap (λ w. ways.Given set names ∷ w) (way_lined s first)
way_lined (Inside s) (Does line q rest) = refl
way_lined (spots.Other s) Nothing = refl
way_lined (spots.Other s) (Loop line v l u step body rest) = refl
way_lined (spots.Other s) (Branch line set names first has other rest) = ap (λ w. ways.Except set names (lined first) ∷ w) (way_lined s other)
way_lined (spots.Other s) (Does line q rest) = refl

uses_lined : (m : Name) (hs : List ways.Header) (n : Nest) → loop_uses m (way hs) (lined n) ≡ uses_with (loop_uses m hs n)
uses_lined m hs Nothing = refl
uses_lined m hs (Loop line v l u step body rest) = ap (ways.uses m (lined body)) (sym (way_append hs (ways.Round v l u step ∷ []))) ∙ uses_are m body (hs ++ ways.Round v l u step ∷ [])
uses_lined m hs (Branch line set names first has other rest) = refl
uses_lined m hs (Does line q rest) = refl

pub uses_there_lined : (n : Nest) (m : Name) (s : Spot) → uses_there (lined n) m s ≡ uses_with (uses_there n m s)
uses_there_lined n m s = (λ i. loop_uses m (way_lined s n i) (from_lined s n i)) ∙ uses_lined m (way_to s n) (from_spot s n)

pub region_lined : (args : List Arg) (n : Nest) (m : Name) (s : Spot) (sizes : List ℕ) (dma : Bool) → region_there args (lined n) m s sizes dma ≡ region_there args n m s sizes dma
region_lined args n m s sizes dma = (λ i. region_of args (way_lined s n i) (uses_there_lined n m s i) sizes dma) ∙ region_with args (way_to s n) (uses_there n m s) sizes dma

pub covered_lined : (args : List Arg) (n : Nest) (m : Name) (s : Spot) (ds : List region.Dimension) → is_covered args (lined n) m s ds ≡ is_covered args n m s ds
covered_lined args n m s ds =
    (λ i. covers args (way_lined s n i) (uses_there_lined n m s i) (symbol_count args + loop_count (way_lined s n i)) ds)
    ∙ (λ i. covers args (way (way_to s n)) (uses_with (uses_there n m s)) (symbol_count args + way_loops (way_to s n) i) ds)
    ∙ covers_with args (way_to s n) (uses_there n m s) (symbol_count args + loop_count (way_to s n)) ds

pub stores_lined : (us : List Use) → has_store (uses_with us) ≡ has_store us
stores_lined [] = refl
stores_lined (Affine hs stores at ∷ us) = ap (λ b. stores || b) (stores_lined us)
stores_lined (Other ∷ us) = stores_lined us

accesses_lined : (n : Nest) → accesses (lined n) ≡ accesses n
accesses_lined Nothing = refl
accesses_lined (Loop line v l u s body rest) = λ i. accesses_lined body i ++ accesses_lined rest i
accesses_lined (Branch line set names first has other rest) = λ i. accesses_lined first i ++ (accesses_lined other i ++ accesses_lined rest i)
accesses_lined (Does line q rest) = ap (with_access (accessed q)) (accesses_lined rest)

alone_lined : (n : Nest) → alone (lined n) ≡ lined (alone n)
alone_lined Nothing = refl
alone_lined (Loop line v l u s body rest) = refl
alone_lined (Branch line set names first has other rest) = refl
alone_lined (Does line q rest) = refl

blocks_lined : (depth : ℕ) (n : Nest) → loops_at depth (lined n) ≡ loops_at depth n
blocks_lined depth Nothing = refl
blocks_lined zero (Loop line v l u s body rest) = ap (λ ss. Here ∷ map Behind ss) (blocks_lined zero rest)
blocks_lined (suc depth) (Loop line v l u s body rest) = λ i. map Inside (blocks_lined depth body i) ++ map Behind (blocks_lined (suc depth) rest i)
blocks_lined depth (Branch line set names first has other rest) = λ i. map Inside (blocks_lined depth first i) ++ (map spots.Other (blocks_lined depth other i) ++ map Behind (blocks_lined depth rest i))
blocks_lined depth (Does line q rest) = ap (map Behind) (blocks_lined depth rest)

round_lined : (s : Spot) (n : Nest) → loops_round s (lined n) ≡ loops_round s n
round_lined Here n = refl
round_lined (Behind s) Nothing = refl
round_lined (Behind s) (Loop line v l u step body rest) = ap (map Behind) (round_lined s rest)
round_lined (Behind s) (Branch line set names first has other rest) = ap (map Behind) (round_lined s rest)
round_lined (Behind s) (Does line q rest) = ap (map Behind) (round_lined s rest)
round_lined (Inside s) Nothing = refl
round_lined (Inside s) (Loop line v l u step body rest) = ap (λ ss. map Inside ss ++ Here ∷ []) (round_lined s body)
round_lined (Inside s) (Branch line set names first has other rest) = ap (map Inside) (round_lined s first)
round_lined (Inside s) (Does line q rest) = refl
round_lined (spots.Other s) Nothing = refl
round_lined (spots.Other s) (Loop line v l u step body rest) = refl
round_lined (spots.Other s) (Branch line set names first has other rest) = ap (map spots.Other) (round_lined s other)
round_lined (spots.Other s) (Does line q rest) = refl

module _ (o : Options) (args : List Arg) (n : Nest) where
  accesses_same : (s : Spot) → accesses_in o args (lined n) s ≡ accesses_in o args n s
  accesses_same s = ap (λ x. accesses (alone x)) (from_lined s n) ∙ ap accesses (alone_lined (from_spot s n)) ∙ accesses_lined (alone (from_spot s n))

  region_same : (m : Name) (ty : MemrefType) (s : Spot) → region_at o args (lined n) m ty s ≡ region_at o args n m ty s
  region_same m ty s = region_lined args n m s ty.sizes o.dma

  further_same : (f g : Site → Site) → ((x : Site) → f x ≡ g x) → (x : Site) (s : Spot) (r : Result (List region.Dimension) NoRegion) → hoisted_by o args (lined n) f x s r ≡ hoisted_by o args n g x s r
  further_same f g h x s (Ok ds) = by (same_extents x.region ds)
    where
      by : (b : Bool) → (if b then f (record { at = s; region = ds }) else x) ≡ (if b then g (record { at = s; region = ds }) else x)
      by true = h (record { at = s; region = ds })
      by false = refl
  further_same f g h x s (Err e) = refl

  hoisted_same : (m : Name) (ty : MemrefType) (count : ℕ) (ss : List Spot) (x : Site) → hoisted o args (lined n) m ty count ss x ≡ hoisted o args n m ty count ss x
  hoisted_same m ty count [] x = refl
  hoisted_same m ty count (s ∷ ss) x =
      (λ i. if nat_eq (times m (accesses_same s i)) count then hoisted_by o args (lined n) (hoisted o args (lined n) m ty count ss) x s (region_same m ty s i) else x)
      ∙ ap (λ y. if nat_eq (times m (accesses_in o args n s)) count then y else x) (further_same (hoisted o args (lined n) m ty count ss) (hoisted o args n m ty count ss) (λ y. hoisted_same m ty count ss y) x s (region_at o args n m ty s))

  names_same : (s : Spot) → outer_names args (way_to s (lined n)) ≡ outer_names args (way_to s n)
  names_same s = ap (outer_names args) (way_lined s n) ∙ ap (λ ns. symbol_names args ++ ns) (way_names (way_to s n))

  step_same : (number : ℕ) (m : Name) (ty : MemrefType) (x : Site) → step_at o args (lined n) number m ty x ≡ step_at o args n number m ty x
  step_same number m ty x = λ i. record (step_at o args n number m ty x) {
    placement = record (placement_at o args n number m ty x) {
      dims = dims_over (names_same x.at i) x.region ty.sizes;
      reads = not (o.dma && covered_lined args n m x.at x.region i);
      writes = (ap has_store (uses_there_lined n m x.at) ∙ stores_lined (uses_there n m x.at)) i;
      how = how_over o.dma (dims_over (names_same x.at i) x.region ty.sizes);
    };
  }

  text_same : (steps : List Step) → text_with o args (lined n) steps ≡ text_with o args n steps
  text_same steps = ap (staged_all steps) (lined_twice n)

  tested_same : (x : Step) (ds : List region.Dimension) (text : Nest) → tested_in o args (lined n) x ds text ≡ tested_in o args n x ds text
  tested_same x ds text = refl

  site_same : (steps : List Step) (m : Name) (ty : MemrefType) (x : Site) → settled_at o args (lined n) steps m ty x ≡ settled_at o args n steps m ty x
  site_same steps m ty x = λ i. tested_in o args n (step_same (length steps) m ty x i) x.region (text_same steps i)

  from_same : (steps : List Step) (m : Name) (ty : MemrefType) (s : Spot) (r : Result (List region.Dimension) NoRegion) → settled_from o args (lined n) steps m ty s r ≡ settled_from o args n steps m ty s r
  from_same steps m ty s (Err e) = refl
  from_same steps m ty s (Ok ds) =
      let x : Site = record { at = s; region = ds } in
      (λ i. settled_at o args (lined n) steps m ty (hoisted o args (lined n) m ty (times m (accesses_same s i)) (round_lined s n i) x))
      ∙ ap (settled_at o args (lined n) steps m ty) (hoisted_same m ty (times m (accesses_in o args n s)) (loops_round s n) x)
      ∙ site_same steps m ty (hoisted o args n m ty (times m (accesses_in o args n s)) (loops_round s n) x)

  settled_same : (steps : List Step) (m : Name) (s : Spot) (ty : Option MemrefType) → settled o args (lined n) steps m s ty ≡ settled o args n steps m s ty
  settled_same steps m s None = refl
  settled_same steps m s (Some ty) = ap (settled_from o args (lined n) steps m ty s) (region_same m ty s) ∙ from_same steps m ty s (region_at o args n m ty s)

  with_same : (steps : List Step) (y : Settled) → steps_with o args (lined n) steps y ≡ steps_with o args n steps y
  with_same steps (Unstaged c) = refl
  with_same steps (Placed x ds) = refl

  fold_same : (as_ : List Asked) (p q : Planned) → p.steps ≡ q.steps → (fold (decided o args (lined n)) p as_).steps ≡ (fold (decided o args n) q as_).steps
  fold_same [] p q e = e
  fold_same (a ∷ as_) p q e =
      fold_same as_ (decided o args (lined n) p a) (decided o args n q a)
      ((λ i. steps_with o args (lined n) (e i) (settled o args (lined n) (e i) a.memref a.at (type_of args a.memref)))
      ∙ ap (steps_with o args (lined n) q.steps) (settled_same q.steps a.memref a.at (type_of args a.memref)) ∙ with_same q.steps (settled o args n q.steps a.memref a.at (type_of args a.memref)))

  from_blocks : (block : ℕ) (ss : List Spot) → asked_from o args (lined n) block ss ≡ asked_from o args n block ss
  from_blocks block [] = refl
  from_blocks block (s ∷ ss) = λ i. asked_in o args n block s (firsts [] (accesses_same s i)) ++ from_blocks (suc block) ss i

  pub planned_same : (planned o args (lined n)).steps ≡ (planned o args n).steps
  unfolding planned
  planned_same =
      ap (λ as_. (fold (decided o args (lined n)) (record { steps = []; decisions = [] }) as_).steps) (ap (asked_from o args (lined n) 0) (blocks_lined o.depth n) ∙ from_blocks 0 (loops_at o.depth n))
      ∙ fold_same (asked o args n) (record { steps = []; decisions = [] }) (record { steps = []; decisions = [] }) refl
