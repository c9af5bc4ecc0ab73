-- The loop at a place of a text.
use Rattle.std.proofs.Common.{◌≡◌, ℕ, Bool, List, [], ◌∷◌, Some, None, Result, Ok, Err, ℤ, sym, ap, ◌∙◌}
use Rattle.std.specs.Prelude.{slice_get}
use Rattle.affine_ast.specs.declared.module.Arg.{Arg}
use Rattle.affine_ast.specs.declared.module.Module.{Module}
use Rattle.affine_ast.specs.declared.name.Name.{Name}
use Rattle.affine_ast.specs.declared.stmt.Stmt.{Stmt}
use Rattle.affine_ast.specs.declared.stmt.What as what
use Rattle.affine_ast.specs.declared.stmt.What.{What}
use Rattle.affine_ast.specs.declared.stmt.What.TheOpen.{What-F}
use Rattle.affine_ast.specs.declared.stmt.What.TheVariants.{rolls-For}
use Rattle.affine_ast.specs.declared.types.Bound.{Bound}
use Rattle.affine_ast.specs.Nest.{Nest, Nothing, Loop, Branch, Does, nest, put_what}
use Rattle.affine_ast.specs.Validity.{IsValid}
use Rattle.affine_ast.proofs.Nests.{nest-nil, nest-cons, put_what_is, put-For}
use Rattle.direct_meaning.specs.Work.{start_ranges}
use Rattle.nest_domain.specs.Boxes.{Dimension}
use Rattle.nest_domain.specs.Ways as ways
use Rattle.nest_domain.specs.Ways.{Header, Use, at_path}
use Rattle.access_region.specs.Faults.{NoRegion}
use Rattle.access_region.specs.Finding.{loop_in, loop_at, uses_in, region_in}
use Rattle.access_region.specs.Places.{region_of}
use Rattle.access_region.proofs.ReadyUses.{ReadyLoop, loop_ready}
use Rattle.text_places.specs.Blocks.{Block}
use Rattle.placement_texts.specs.Spots.{Spot, IsLoop}
use Rattle.placement_regions.specs.Sites.{from_spot, way_to, alone, loop_uses, region_there}
use Rattle.staged_plans.specs.Plans.{uses_there}
use Rattle.plan_laws.specs.Sites.{path_of}
use Rattle.plan_laws.specs.Plan.{accesses}
use Rattle.plan_laws.proofs.Plans.{named}
use Rattle.std.proofs.Common.{append-nil}
use Rattle.hoisted_sites.specs.Sites.{StandsAt, StandsIn, by_cause}

at_head : (list : List Stmt) (s : Stmt) → slice_get list 0 ≡ Some s → (rest : Nest) × (nest list ≡ put_what s.what s.line rest)
at_head [] s e = absurd (let z : ⊥ = cc in z)
at_head (x ∷ xs) s e = let same : x ≡ s = cc in (nest xs, nest-cons x xs ∙ ap (λ (y : Stmt). put_what y.what y.line (nest xs)) same)

pub no_statement : (way : List Header) (list : List Stmt) → slice_get list 0 ≡ None → loop_in way (nest list) ≡ None
no_statement way [] e = ap (loop_in way) nest-nil
no_statement way (x ∷ xs) e = absurd (let z : ⊥ = cc in z)

pub loop_there : (way : List Header) (list : List Stmt) (s : Stmt) (v : Name) (l u : Bound) (st : ℤ) (body : List Stmt) → slice_get list 0 ≡ Some s → s.what ≡ what.For v l u st body
    → loop_in way (nest list) ≡ Some (record { way = way; line = s.line; var = v; lower = l; upper = u; step = st; body = nest body })
loop_there way list s v l u st body e w =
    let h = at_head list s e in
    ap (loop_in way) (h.1 ∙ ap (λ y. put_what y s.line h.0) w ∙ put-For s.line h.0 v l u st body)

pub no_loop_there : (way : List Header) (list : List Stmt) (s : Stmt) → slice_get list 0 ≡ Some s → ((v : Name) (l u : Bound) (st : ℤ) (body : List Stmt) → s.what ≡ what.For v l u st body → ⊥) → loop_in way (nest list) ≡ None
no_loop_there way list s e no_loop = ap (loop_in way) (at_head list s e).1 ∙ by (what.out-What s.what) (what.roll-out-What s.what)
  where
    by : (x : What-F What Stmt) → what.roll-What x ≡ s.what → loop_in way (put_what s.what s.line (at_head list s e).0) ≡ None
    by (What-F.For v l u st body) d = absurd (no_loop v l u st body (sym d ∙ rolls-For v l u st body))
    by x d = ap (loop_in way) (put_what_is s.line (at_head list s e).0 x s.what d)

-- what a loop's path names is the loop there
pub stands : (n : Nest) (steps : List (ℕ × Bool)) (s : Spot) (t : ways.Spot) (b : Block) → IsLoop s n → path_of s ≡ steps → Some t ≡ at_path n steps → Some b ≡ loop_at t → StandsAt n s b
stands n steps s t b h p e f =
    let there : Some t ≡ Some (record { way = way_to s n; here = from_spot s n }) = e ∙ ap (at_path n) (sym p) ∙ named s n h in
    let same : t ≡ record { way = way_to s n; here = from_spot s n } = cc in
    record { loop = h; is = sym (f ∙ ap loop_at same) }

-- a loop of a valid module can be gone along
pub stands_ready : (m : Module) → IsValid m → (b : Block) → StandsIn (nest m.body) b → ReadyLoop (start_ranges m.args) b
stands_ready m v b (s, k) = loop_ready m v (path_of s) (record { way = way_to s (nest m.body); here = from_spot s (nest m.body) }) b (named s (nest m.body) k.loop) k.is

-- ---- what is said of the loop's place is said of the loop
module _ (args : List Arg) (m : Name) where
  uses_by : (way : List Header) (n : Nest) (b : Block) → loop_in way n ≡ Some b → loop_uses m way n ≡ uses_in m b
  uses_by way Nothing b e = absurd (let z : ⊥ = cc in z)
  uses_by way (Loop line v l u step body rest) b e =
      let same : record { way = way; line = line; var = v; lower = l; upper = u; step = step; body = body } ≡ b = cc in
      ap (uses_in m) same
  uses_by way (Branch line set names first has other rest) b e = absurd (let z : ⊥ = cc in z)
  uses_by way (Does line p rest) b e = absurd (let z : ⊥ = cc in z)

  way_by : (way : List Header) (n : Nest) (b : Block) → loop_in way n ≡ Some b → way ≡ b.way
  way_by way Nothing b e = absurd (let z : ⊥ = cc in z)
  way_by way (Loop line v l u step body rest) b e =
      let same : record { way = way; line = line; var = v; lower = l; upper = u; step = step; body = body } ≡ b = cc in
      ap (λ x. x.way) same
  way_by way (Branch line set names first has other rest) b e = absurd (let z : ⊥ = cc in z)
  way_by way (Does line p rest) b e = absurd (let z : ⊥ = cc in z)

  pub uses_at_block : (n : Nest) (s : Spot) (b : Block) → StandsAt n s b → uses_there n m s ≡ uses_in m b
  uses_at_block n s b k = uses_by (way_to s n) (from_spot s n) b k.is

  pub region_at_block : (n : Nest) (s : Spot) (b : Block) (sizes : List ℕ) (dma : Bool) → StandsAt n s b → region_there args n m s sizes dma ≡ region_in args b m sizes dma
  region_at_block n s b sizes dma k = by_both (way_by (way_to s n) (from_spot s n) b k.is) (uses_at_block n s b k)
    where
      by_both : way_to s n ≡ b.way → uses_there n m s ≡ uses_in m b → region_there args n m s sizes dma ≡ region_in args b m sizes dma
      by_both e f = (λ i. region_of args (e i) (f i) sizes dma)

-- the accesses of a loop without what follows it are those of its body
pub accesses_at_block : (n : Nest) (s : Spot) (b : Block) → StandsAt n s b → accesses (alone (from_spot s n)) ≡ accesses b.body
accesses_at_block n s b k = by (way_to s n) (from_spot s n) k.is
  where
    by : (way : List Header) (n : Nest) → loop_in way n ≡ Some b → accesses (alone n) ≡ accesses b.body
    by way Nothing e = absurd (let z : ⊥ = cc in z)
    by way (Loop line v l u step body rest) e =
        let same : record { way = way; line = line; var = v; lower = l; upper = u; step = step; body = body } ≡ b = cc in
        append-nil (accesses body) ∙ ap (λ x. accesses x.body) same
    by way (Branch line set names first has other rest) e = absurd (let z : ⊥ = cc in z)
    by way (Does line p rest) e = absurd (let z : ⊥ = cc in z)

-- a region that was found
pub found_region : (w : Result (List Dimension) NoRegion) (ds : List Dimension) → by_cause w ≡ Ok ds → w ≡ Ok ds
found_region (Ok es) ds e = let same : es ≡ ds = cc in ap Ok same
found_region (Err c) ds e = absurd (let z : ⊥ = cc in z)
