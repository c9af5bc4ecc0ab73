-- How many allocations a text has with a template in it.
use Rattle.std.proofs.Common.{◌≡◌, ℕ, suc, ◌+◌, ◌≤◌, ℤ, List, [], ◌∷◌, refl, ap, ◌∙◌, arith, Bool, true, false}
use Rattle.std.specs.Prelude.{Option, Some, None}
use Rattle.affine_ast.specs.declared.name.Name.{Name}
use Rattle.affine_ast.specs.Nest.{Nest, Nothing, Loop, Branch, Does, followed_by}
use Rattle.direct_meaning.specs.Actions.{fasts_in, tags_in}
use Rattle.placement_texts.specs.Mapped.{mapped}
use Rattle.placement_texts.specs.Template.{How, Copies, Transfers, Placement, Dimension, place_statement, places_from, loops, chunk_constants, constants, allocs, deallocs, read_in, write_out, where_so, tags_made, before, behind_loop, redirect}
use Rattle.placement_texts.specs.Spots.{Spot, Here, Behind, Inside, Other, IsLoop, staged_at, fasts_before, tags_before}
use Rattle.placement_texts.proofs.Nested.{fasts_mapped, tags_mapped}
use Rattle.placement_texts.proofs.Redirect.{redirect_fasts, redirect_tags}

fasts_followed : (a b : Nest) → fasts_in (followed_by a b) ≡ fasts_in a + fasts_in b
fasts_followed Nothing b = omega arith
fasts_followed (Loop line v l u s body rest) b = let e = fasts_followed rest b in omega (arith, e)
fasts_followed (Branch line set names first has other rest) b = let e = fasts_followed rest b in omega (arith, e)
fasts_followed (Does line q rest) b = let e = fasts_followed rest b in omega (arith, e)

tags_followed : (a b : Nest) → tags_in (followed_by a b) ≡ tags_in a + tags_in b
tags_followed Nothing b = omega arith
tags_followed (Loop line v l u s body rest) b = let e = tags_followed rest b in omega (arith, e)
tags_followed (Branch line set names first has other rest) b = let e = tags_followed rest b in omega (arith, e)
tags_followed (Does line q rest) b = let e = tags_followed rest b in omega (arith, e)

module _ (p : Placement) where
  -- ---- in space 1
  place_fasts : (k : ℕ) (d : Dimension) (ts : List (Name × ℤ)) (rest : Nest) → fasts_in (place_statement p.name k d ts rest) ≡ fasts_in rest
  place_fasts k d [] rest = refl
  place_fasts k d (t ∷ ts) rest = grind arith

  places_fasts : (k : ℕ) (ds : List Dimension) (rest : Nest) → fasts_in (places_from p.name k ds rest) ≡ fasts_in rest
  places_fasts k [] rest = refl
  places_fasts k (d ∷ ds) rest = place_fasts k d d.terms (places_from p.name (suc k) ds rest) ∙ places_fasts (suc k) ds rest

  place_tags : (k : ℕ) (d : Dimension) (ts : List (Name × ℤ)) (rest : Nest) → tags_in (place_statement p.name k d ts rest) ≡ tags_in rest
  place_tags k d [] rest = refl
  place_tags k d (t ∷ ts) rest = grind arith

  places_tags : (k : ℕ) (ds : List Dimension) (rest : Nest) → tags_in (places_from p.name k ds rest) ≡ tags_in rest
  places_tags k [] rest = refl
  places_tags k (d ∷ ds) rest = place_tags k d d.terms (places_from p.name (suc k) ds rest) ∙ places_tags (suc k) ds rest

  loops_fasts : (turn : ℕ → Name) (d : ℕ) (ds : List Dimension) (inner : Nest) → fasts_in inner ≡ 0 → fasts_in (loops turn d ds inner) ≡ 0
  loops_fasts turn d [] inner h = h
  loops_fasts turn d (dim ∷ ds) inner h = let e = loops_fasts turn (suc d) ds inner h in omega (arith, e)

  loops_tags : (turn : ℕ → Name) (d : ℕ) (ds : List Dimension) (inner : Nest) → tags_in inner ≡ 0 → tags_in (loops turn d ds inner) ≡ 0
  loops_tags turn d [] inner h = h
  loops_tags turn d (dim ∷ ds) inner h = let e = loops_tags turn (suc d) ds inner h in omega (arith, e)

  read_fasts : (how : How) → fasts_in (read_in p how) ≡ 0
  read_fasts Copies = loops_fasts _ 0 p.dims _ refl
  read_fasts (Transfers chunks) = refl

  write_fasts : (how : How) → fasts_in (write_out p how) ≡ 0
  write_fasts Copies = loops_fasts _ 0 p.dims _ refl
  write_fasts (Transfers chunks) = refl

  read_tags : (how : How) → tags_in (read_in p how) ≡ 0
  read_tags Copies = loops_tags _ 0 p.dims _ refl
  read_tags (Transfers chunks) = refl

  write_tags : (how : How) → tags_in (write_out p how) ≡ 0
  write_tags Copies = loops_tags _ 0 p.dims _ refl
  write_tags (Transfers chunks) = refl

  so_fasts : (b : Bool) (part rest : Nest) → fasts_in part ≡ 0 → fasts_in (where_so p b part rest) ≡ fasts_in rest
  so_fasts true part rest h = let e = fasts_followed part rest in omega (arith, e, h)
  so_fasts false part rest h = refl

  so_tags : (b : Bool) (part rest : Nest) → tags_in part ≡ 0 → tags_in (where_so p b part rest) ≡ tags_in rest
  so_tags true part rest h = let e = tags_followed part rest in omega (arith, e, h)
  so_tags false part rest h = refl

  chunk_fasts : (chunks : Option (ℕ × ℕ)) (rest : Nest) → fasts_in (chunk_constants p chunks rest) ≡ fasts_in rest
  chunk_fasts None rest = refl
  chunk_fasts (Some two) rest = omega arith

  chunk_tags : (chunks : Option (ℕ × ℕ)) (rest : Nest) → tags_in (chunk_constants p chunks rest) ≡ tags_in rest
  chunk_tags None rest = refl
  chunk_tags (Some two) rest = omega arith

  front_fasts : (how : How) (rest : Nest) → fasts_in (constants p how (allocs p how rest)) ≡ fasts_in rest + 1
  front_fasts Copies rest = omega arith
  front_fasts (Transfers chunks) rest = let e = chunk_fasts chunks (allocs p (Transfers chunks) rest) in omega (arith, e)

  front_tags : (how : How) (rest : Nest) → tags_in (constants p how (allocs p how rest)) ≡ tags_in rest + tags_made p how
  front_tags Copies rest = omega arith
  front_tags (Transfers chunks) rest = let e = chunk_tags chunks (allocs p (Transfers chunks) rest) in omega (arith, e)

  free_fasts : (how : How) (rest : Nest) → fasts_in (deallocs p how rest) ≡ fasts_in rest
  free_fasts Copies rest = omega arith
  free_fasts (Transfers chunks) rest = omega arith

  free_tags : (how : How) (rest : Nest) → tags_in (deallocs p how rest) ≡ tags_in rest
  free_tags Copies rest = omega arith
  free_tags (Transfers chunks) rest = omega arith

  before_fasts : (rest : Nest) → fasts_in (before p rest) ≡ fasts_in rest + 1
  before_fasts rest = places_fasts 0 p.dims _ ∙ front_fasts p.how _ ∙ ap (λ n. n + 1) (so_fasts p.reads (read_in p p.how) rest (read_fasts p.how))

  before_tags : (rest : Nest) → tags_in (before p rest) ≡ tags_in rest + tags_made p p.how
  before_tags rest = places_tags 0 p.dims _ ∙ front_tags p.how _ ∙ ap (λ n. n + tags_made p p.how) (so_tags p.reads (read_in p p.how) rest (read_tags p.how))

  behind_fasts : (rest : Nest) → fasts_in (behind_loop p rest) ≡ fasts_in rest
  behind_fasts rest = so_fasts p.writes (write_out p p.how) _ (write_fasts p.how) ∙ free_fasts p.how rest

  behind_tags : (rest : Nest) → tags_in (behind_loop p rest) ≡ tags_in rest
  behind_tags rest = so_tags p.writes (write_out p p.how) _ (write_tags p.how) ∙ free_tags p.how rest

  -- one more in space 1, and the tags of the template
  pub staged_fasts : (s : Spot) (n : Nest) → IsLoop s n → fasts_in (staged_at p s n) ≡ fasts_in n + 1
  staged_fasts s Nothing h = absurd h
  staged_fasts Here (Loop line v l u step body rest) h =
      let a = before_fasts (Loop line v l u step (mapped (redirect p) body) (behind_loop p rest)) in
      let b = fasts_mapped (redirect p) (redirect_fasts p) (redirect_tags p) body in
      let c = behind_fasts rest in
      omega (arith, a, b, c)
  staged_fasts (Behind s) (Loop line v l u step body rest) h = let e = staged_fasts s rest h in omega (arith, e)
  staged_fasts (Inside s) (Loop line v l u step body rest) h = let e = staged_fasts s body h in omega (arith, e)
  staged_fasts (Other s) (Loop line v l u step body rest) h = absurd h
  staged_fasts Here (Branch line set names first has other rest) h = absurd h
  staged_fasts (Behind s) (Branch line set names first has other rest) h = let e = staged_fasts s rest h in omega (arith, e)
  staged_fasts (Inside s) (Branch line set names first has other rest) h = let e = staged_fasts s first h in omega (arith, e)
  staged_fasts (Other s) (Branch line set names first has other rest) h = let e = staged_fasts s other h in omega (arith, e)
  staged_fasts Here (Does line q rest) h = absurd h
  staged_fasts (Behind s) (Does line q rest) h = let e = staged_fasts s rest h in omega (arith, e)
  staged_fasts (Inside s) (Does line q rest) h = absurd h
  staged_fasts (Other s) (Does line q rest) h = absurd h

  pub staged_tags : (s : Spot) (n : Nest) → IsLoop s n → tags_in (staged_at p s n) ≡ tags_in n + tags_made p p.how
  staged_tags s Nothing h = absurd h
  staged_tags Here (Loop line v l u step body rest) h =
      let a = before_tags (Loop line v l u step (mapped (redirect p) body) (behind_loop p rest)) in
      let b = tags_mapped (redirect p) (redirect_fasts p) (redirect_tags p) body in
      let c = behind_tags rest in
      omega (arith, a, b, c)
  staged_tags (Behind s) (Loop line v l u step body rest) h = let e = staged_tags s rest h in omega (arith, e)
  staged_tags (Inside s) (Loop line v l u step body rest) h = let e = staged_tags s body h in omega (arith, e)
  staged_tags (Other s) (Loop line v l u step body rest) h = absurd h
  staged_tags Here (Branch line set names first has other rest) h = absurd h
  staged_tags (Behind s) (Branch line set names first has other rest) h = let e = staged_tags s rest h in omega (arith, e)
  staged_tags (Inside s) (Branch line set names first has other rest) h = let e = staged_tags s first h in omega (arith, e)
  staged_tags (Other s) (Branch line set names first has other rest) h = let e = staged_tags s other h in omega (arith, e)
  staged_tags Here (Does line q rest) h = absurd h
  staged_tags (Behind s) (Does line q rest) h = let e = staged_tags s rest h in omega (arith, e)
  staged_tags (Inside s) (Does line q rest) h = absurd h
  staged_tags (Other s) (Does line q rest) h = absurd h

-- what stands before is of the text
pub fasts_before_less : (s : Spot) (n : Nest) → fasts_before s n ≤ fasts_in n
fasts_before_less s Nothing = omega arith
fasts_before_less Here (Loop line v l u step body rest) = omega arith
fasts_before_less (Behind s) (Loop line v l u step body rest) = let e = fasts_before_less s rest in omega (arith, e)
fasts_before_less (Inside s) (Loop line v l u step body rest) = let e = fasts_before_less s body in omega (arith, e)
fasts_before_less (Other s) (Loop line v l u step body rest) = omega arith
fasts_before_less Here (Branch line set names first has other rest) = omega arith
fasts_before_less (Behind s) (Branch line set names first has other rest) = let e = fasts_before_less s rest in omega (arith, e)
fasts_before_less (Inside s) (Branch line set names first has other rest) = let e = fasts_before_less s first in omega (arith, e)
fasts_before_less (Other s) (Branch line set names first has other rest) = let e = fasts_before_less s other in omega (arith, e)
fasts_before_less Here (Does line q rest) = omega arith
fasts_before_less (Behind s) (Does line q rest) = let e = fasts_before_less s rest in omega (arith, e)
fasts_before_less (Inside s) (Does line q rest) = omega arith
fasts_before_less (Other s) (Does line q rest) = omega arith

pub tags_before_less : (s : Spot) (n : Nest) → tags_before s n ≤ tags_in n
tags_before_less s Nothing = omega arith
tags_before_less Here (Loop line v l u step body rest) = omega arith
tags_before_less (Behind s) (Loop line v l u step body rest) = let e = tags_before_less s rest in omega (arith, e)
tags_before_less (Inside s) (Loop line v l u step body rest) = let e = tags_before_less s body in omega (arith, e)
tags_before_less (Other s) (Loop line v l u step body rest) = omega arith
tags_before_less Here (Branch line set names first has other rest) = omega arith
tags_before_less (Behind s) (Branch line set names first has other rest) = let e = tags_before_less s rest in omega (arith, e)
tags_before_less (Inside s) (Branch line set names first has other rest) = let e = tags_before_less s first in omega (arith, e)
tags_before_less (Other s) (Branch line set names first has other rest) = let e = tags_before_less s other in omega (arith, e)
tags_before_less Here (Does line q rest) = omega arith
tags_before_less (Behind s) (Does line q rest) = let e = tags_before_less s rest in omega (arith, e)
tags_before_less (Inside s) (Does line q rest) = omega arith
tags_before_less (Other s) (Does line q rest) = omega arith
