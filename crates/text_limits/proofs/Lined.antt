-- A loop of a module in the text with a line for each statement, and in the texts of a plan.
use Rattle.std.proofs.Common.{◌≡◌, zero, suc, ◌+◌, List, [], ◌∷◌, ◌++◌, length, map, arith, refl, sym, ap, ◌∙◌, subst}
use Rattle.std.proofs.lemmas.List.{length-map, length-append}
use Rattle.affine_ast.specs.declared.name.Name.{Name}
use Rattle.affine_ast.specs.Nest.{Nest, Nothing, Loop, Branch, Does}
use Rattle.boxes.specs.Every.{Every}
use Rattle.nest_domain.specs.Ways.{loop_count}
use Rattle.placement_texts.specs.Fold.{Step}
use Rattle.placement_texts.specs.Spots.{Spot, Here, Behind, Inside, Other, IsLoop, HasLine, found}
use Rattle.placement_regions.specs.Sites.{from_spot, way_to}
use Rattle.plan_laws.specs.Sites.{lined, loops_round, further}
use Rattle.text_limits.specs.Adding.{accesses_of, accesses_in, accesses_in_loop, condition_count}
use Rattle.text_limits.specs.Leaving.{Stands, PlannedAreDescribed, RoundsAreCounted}
use Rattle.text_limits.proofs.Left.{placements_leave}
use Rattle.text_limits.proofs.Used.{uses_are_accesses}

module _ (m : Name) where
  same_accesses : (n : Nest) → accesses_in m (lined n) ≡ accesses_in m n
  same_accesses Nothing = refl
  same_accesses (Loop line v l u s body rest) = λ i. same_accesses body i ++ same_accesses rest i
  same_accesses (Branch line set names first has other rest) = λ i. same_accesses first i ++ (same_accesses other i ++ same_accesses rest i)
  same_accesses (Does line q rest) = ap (λ xs. accesses_of m q ++ xs) (same_accesses rest)

  abbrev Same : Spot → Nest → Type 0
  Same s n = IsLoop s (lined n) × HasLine s (lined n) × (found s (lined n) ≡ s) × (loop_count (way_to s (lined n)) ≡ loop_count (way_to s n))
      × (condition_count (way_to s (lined n)) ≡ condition_count (way_to s n)) × (accesses_in_loop m (from_spot s (lined n)) ≡ accesses_in_loop m (from_spot s n))

  same_place : (s : Spot) (n : Nest) → IsLoop s n → Same s n
  same_place s Nothing h = absurd h
  same_place Here (Loop zero v l u step body rest) h = (tt, tt, refl, refl, refl, same_accesses body)
  same_place Here (Loop (suc line) v l u step body rest) h = (tt, tt, refl, refl, refl, same_accesses body)
  same_place (Behind s) (Loop zero v l u step body rest) h = let r = same_place s rest h in (r.0, r.1, ap Behind r.2, r.3, r.4, r.5)
  same_place (Behind s) (Loop (suc line) v l u step body rest) h = let r = same_place s rest h in (r.0, r.1, ap Behind r.2, r.3, r.4, r.5)
  same_place (Inside s) (Loop zero v l u step body rest) h = let r = same_place s body h in (r.0, r.1, ap Inside r.2, ap suc r.3, r.4, r.5)
  same_place (Inside s) (Loop (suc line) v l u step body rest) h = let r = same_place s body h in (r.0, r.1, ap Inside r.2, ap suc r.3, r.4, r.5)
  same_place (Other s) (Loop line v l u step body rest) h = absurd h
  same_place Here (Branch line set names first has other rest) h = absurd h
  same_place (Behind s) (Branch zero set names first has other rest) h = let r = same_place s rest h in (r.0, r.1, ap Behind r.2, r.3, r.4, r.5)
  same_place (Behind s) (Branch (suc line) set names first has other rest) h = let r = same_place s rest h in (r.0, r.1, ap Behind r.2, r.3, r.4, r.5)
  same_place (Inside s) (Branch zero set names first has other rest) h = let r = same_place s first h in (r.0, r.1, ap Inside r.2, r.3, ap suc r.4, r.5)
  same_place (Inside s) (Branch (suc line) set names first has other rest) h = let r = same_place s first h in (r.0, r.1, ap Inside r.2, r.3, ap suc r.4, r.5)
  same_place (Other s) (Branch zero set names first has other rest) h = let r = same_place s other h in (r.0, r.1, ap Other r.2, r.3, ap suc r.4, r.5)
  same_place (Other s) (Branch (suc line) set names first has other rest) h = let r = same_place s other h in (r.0, r.1, ap Other r.2, r.3, ap suc r.4, r.5)
  same_place Here (Does line q rest) h = absurd h
  same_place (Behind s) (Does zero q rest) h = let r = same_place s rest h in (r.0, r.1, ap Behind r.2, r.3, r.4, r.5)
  same_place (Behind s) (Does (suc line) q rest) h = let r = same_place s rest h in (r.0, r.1, ap Behind r.2, r.3, r.4, r.5)
  same_place (Inside s) (Does line q rest) h = absurd h
  same_place (Other s) (Does line q rest) h = absurd h

  stands_lined : (s : Spot) (n : Nest) → IsLoop s n → Stands s (lined n)
  stands_lined s n h = let r = same_place s n h in record {
    loop = subst (λ s. IsLoop s (lined n)) (sym r.2) r.0;
    line = subst (λ s. HasLine s (lined n)) (sym r.2) r.1;
  }

  all_lined : (n : Nest) (ss : List Step) → Every (λ x. IsLoop x.spot n) ss → Every (λ x. Stands x.spot (lined n)) ss
  all_lined n [] h = tt
  all_lined n (x ∷ xs) h = (stands_lined x.spot n h.0, all_lined n xs h.1)

pub planned_are_described : PlannedAreDescribed
planned_are_described p s n ss h all alone =
    let m = p.memref in
    let r = same_place m s n h in
    let left = placements_leave m s ss (lined n) (stands_lined m s n h) (all_lined m n ss all) alone in
    record {
      loop = left.stands.loop;
      in_loops = sym (left.loops ∙ ap (λ s. loop_count (way_to s (lined n))) r.2 ∙ r.3);
      in_ifs = sym (left.ifs ∙ ap (λ s. condition_count (way_to s (lined n))) r.2 ∙ r.4);
      uses = uses_are_accesses n m s ∙ sym (left.accesses ∙ ap (λ s. accesses_in_loop m (from_spot s (lined n))) r.2 ∙ r.5);
    }

-- ---- a loop's path
round_count : (s : Spot) (n : Nest) → length (loops_round s n) ≡ loop_count (way_to s n)
round_count s Nothing = none s
  where
    none : (s : Spot) → length (loops_round s Nothing) ≡ loop_count (way_to s Nothing)
    none Here = refl
    none (Behind s) = refl
    none (Inside s) = refl
    none (Other s) = refl
round_count Here (Loop line v l u step body rest) = refl
round_count (Behind s) (Loop line v l u step body rest) = length-map (loops_round s rest) Behind ∙ round_count s rest
round_count (Inside s) (Loop line v l u step body rest) =
    let a = length-append (map Inside (loops_round s body)) (Here ∷ []) in
    let b = length-map (loops_round s body) Inside in
    let c = round_count s body in
    omega (arith, a, b, c)
round_count (Other s) (Loop line v l u step body rest) = refl
round_count Here (Branch line set names first has other rest) = refl
round_count (Behind s) (Branch line set names first has other rest) = length-map (loops_round s rest) Behind ∙ round_count s rest
round_count (Inside s) (Branch line set names first has other rest) = length-map (loops_round s first) Inside ∙ round_count s first
round_count (Other s) (Branch line set names first has other rest) = length-map (loops_round s other) Other ∙ round_count s other
round_count Here (Does line q rest) = refl
round_count (Behind s) (Does line q rest) = length-map (loops_round s rest) Behind ∙ round_count s rest
round_count (Inside s) (Does line q rest) = refl
round_count (Other s) (Does line q rest) = refl

further_count : (s : Spot) (n : Nest) → IsLoop s n → length (further s) ≡ loop_count (way_to s n) + condition_count (way_to s n)
further_count s Nothing h = absurd h
further_count Here (Loop line v l u step body rest) h = refl
further_count (Behind s) (Loop line v l u step body rest) h = further_count s rest h
further_count (Inside s) (Loop line v l u step body rest) h = let e = further_count s body h in omega (arith, e)
further_count (Other s) (Loop line v l u step body rest) h = absurd h
further_count Here (Branch line set names first has other rest) h = absurd h
further_count (Behind s) (Branch line set names first has other rest) h = further_count s rest h
further_count (Inside s) (Branch line set names first has other rest) h = let e = further_count s first h in omega (arith, e)
further_count (Other s) (Branch line set names first has other rest) h = let e = further_count s other h in omega (arith, e)
further_count Here (Does line q rest) h = absurd h
further_count (Behind s) (Does line q rest) h = further_count s rest h
further_count (Inside s) (Does line q rest) h = absurd h
further_count (Other s) (Does line q rest) h = absurd h

pub rounds_are_counted : RoundsAreCounted
rounds_are_counted s n h = record { loops = round_count s n; steps = ap suc (further_count s n h) }
