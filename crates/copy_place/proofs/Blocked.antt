-- The blocks that are found are those of the plan, and their decisions are the plan.
use Rattle.std.proofs.Common.{◌≡◌, ℕ, ◌<◌, ◌≤◌, List, [], ◌∷◌, length, map, get_or, refl, sym, ap, ◌∙◌, subst, None}
use Rattle.affine_ast.specs.Nest.{Nest}
use Rattle.affine_ast.specs.PlainLimits.{plain_fault}
use Rattle.affine_ast.specs.Validity.{IsValid}
use Rattle.placement_stage.specs.Places.{spot_of}
use Rattle.placement_texts.specs.Spots.{Spot, Here, IsLoop}
use Rattle.text_places.specs.Blocks.{Block, blocks, accessed}
use Rattle.text_places.specs.declared.blocks.FoundBlock.{FoundBlock}
use Rattle.text_places.specs.Finding.{block_of}
use Rattle.loop_paths.specs.declared.paths.LoopPath.{LoopPath}
use Rattle.loop_paths.specs.Found.{found_of, found_at}
use Rattle.loop_paths.specs.Law.{PathsAreSpots}
use Rattle.plan_blocks.specs.Law.{of_block, of_place, BlocksAreLoops, MemrefsAreFirsts}
use Rattle.plan_laws.specs.Plan.{firsts, accesses_in, asked_from, planned}
use Rattle.plan_theorem.specs.Law.{IsWritten}
use Rattle.plan_theorem.proofs.Blocks.{blocks_are_loops}
use Rattle.placed_intervals.specs.Untested.{untested}
use Rattle.untested_plans.specs.Law.{PlanIsUntested, decided_of}
use Rattle.hoisted_sites.specs.declared.standing.Asking.{Asking}
use Rattle.hoisted_sites.specs.Sites.{StandsAt}
use Rattle.hoisted_sites.specs.Hoisting.{module_of, text_of}
use Rattle.copy_place.specs.declared.blocks.Planning.{Planning}
use Rattle.copy_place.specs.Planning.{blocks_of, IsBlockOf, IsPlannedTo}
use Rattle.copy_place.proofs.Standing.{block_stands}
use Rattle.copy_place.proofs.Listed.{at_both, same_length, every_at, take_whole}

map_twice : {A B C : Type 0} (f : B → C) (g : A → B) (xs : List A) → map (λ x. f (g x)) xs ≡ map f (map g xs)
map_twice f g [] = refl
map_twice f g (x ∷ xs) = ap (λ l. f (g x) ∷ l) (map_twice f g xs)

module _ (loops : BlocksAreLoops) (memrefs : MemrefsAreFirsts) (spots : PathsAreSpots) (a : Asking) (v13 : plain_fault (module_of a) ≡ None) (ps : List LoopPath) (bs : List FoundBlock)
    (paths_are : map found_of ps ≡ map (found_at (text_of a)) (blocks_of a)) (blocks_are : map block_of bs ≡ blocks a.options.depth (text_of a) []) where
  abbrev n : Nest
  n = text_of a

  abbrev Blocks : List Spot
  Blocks = blocks_of a

  all_blocks : map (λ b. of_block (block_of b)) bs ≡ map (of_place n) Blocks
  all_blocks = map_twice of_block block_of bs ∙ ap (map of_block) blocks_are ∙ loops a.options.depth n

  all_memrefs : map (λ b. accessed (block_of b).body []) bs ≡ map (λ s. firsts [] (accesses_in a.options (module_of a).args n s)) Blocks
  all_memrefs = map_twice (λ (b : Block). accessed b.body []) block_of bs ∙ ap (map (λ b. accessed b.body [])) blocks_are ∙ memrefs (module_of a) v13 a.options.depth

  pub as_many : length bs ≡ length Blocks
  as_many = same_length (λ b. of_block (block_of b)) (of_place n) bs Blocks all_blocks

  pub as_many_paths : length ps ≡ length bs
  as_many_paths = same_length found_of (found_at n) ps Blocks paths_are ∙ sym as_many

  pub is_block : (i : ℕ) (p : LoopPath) (b : FoundBlock) → i < length bs → p ≡ get_or ps i p → b ≡ get_or bs i b → IsBlockOf a i p (block_of b)
  is_block i p b h e f =
      let s = get_or Blocks i Here in
      let within : i < length Blocks = subst (λ k. i < k) as_many h in
      let found : found_of p ≡ found_at n s = ap found_of e ∙ at_both found_of (found_at n) ps Blocks i p Here paths_are within in
      let is : spot_of p.at.steps ≡ s = ap (λ x. spot_of x.steps) found ∙ spots s in
      let loop = every_at (λ t. IsLoop t n) Blocks i Here within (blocks_are_loops a.options.depth n) in
      let block : of_block (block_of b) ≡ of_place n s = ap (λ (x : FoundBlock). of_block (block_of x)) f ∙ at_both (λ x. of_block (block_of x)) (of_place n) bs Blocks i b Here all_blocks within in
      let names = ap (λ (x : FoundBlock). accessed (block_of x).body []) f ∙ at_both (λ x. accessed (block_of x).body []) (λ t. firsts [] (accesses_in a.options (module_of a).args n t)) bs Blocks i b Here all_memrefs within in
      record {
        within = within;
        is = is;
        path = record { loop = subst (λ t. IsLoop t n) (sym is) loop; found = found ∙ ap (found_at n) (sym is) };
        stands = subst (λ t. StandsAt n t (block_of b)) (sym is) (block_stands n s (block_of b) loop block);
        memrefs = names ∙ ap (λ t. firsts [] (accesses_in a.options (module_of a).args n t)) (sym is);
      }

-- all blocks are decided
pub is_plan : PlanIsUntested → (a : Asking) (i : ℕ) (p : Planning) → IsValid (module_of a) → IsWritten (module_of a) → length (blocks_of a) ≤ i → IsPlannedTo a i p
    → p.decisions.items ≡ (planned a.options (module_of a).args (text_of a)).decisions
unfolding untested
is_plan law a i p valid written h k =
    k.decisions
    ∙ ap (λ l. (decided_of a.options (module_of a) (asked_from a.options (module_of a).args (text_of a) 0 l)).decisions) (take_whole (blocks_of a) i h)
    ∙ ap (λ s. s.decisions) (sym (law a.options (module_of a) valid written))
