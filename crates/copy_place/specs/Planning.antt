-- The plan as it is made, block by block and memref by memref: by the plan without its test on intervals, which is the plan.
use Rattle.std.specs.Prelude.{◌≡◌, ℕ, ◌<◌, List, [], ◌∷◌, ◌++◌, get_or, length, take}
use Rattle.affine_ast.specs.declared.name.Name.{Name}
use Rattle.affine_ast.specs.declared.types.MemrefType.{MemrefType}
use Rattle.nest_domain.specs.declared.plan.Outcome.{Outcome}
use Rattle.placement_stage.specs.Places.{spot_of}
use Rattle.placement_texts.specs.Fold.{Step}
use Rattle.placement_texts.specs.Spots.{Spot, Here}
use Rattle.text_places.specs.Blocks.{Block, accessed}
use Rattle.loop_paths.specs.declared.paths.LoopPath.{LoopPath}
use Rattle.plan_laws.specs.Sites.{loops_at}
use Rattle.plan_laws.specs.Plan.{Asked, Settled, firsts, type_of, accesses_in, steps_with, outcome_of, asked_from}
use Rattle.placed_intervals.specs.Untested.{fitted_at, fitted_for}
use Rattle.plan_tests.specs.declared.tests.Tests.{Tests}
use Rattle.plan_tests.specs.Testing.{TestsFor, AreFew}
use Rattle.untested_plans.specs.Law.{decided_of, AreAside}
use Rattle.hoisted_sites.specs.declared.hoisting.Site.{Site}
use Rattle.hoisted_sites.specs.declared.standing.Asking.{Asking}
use Rattle.hoisted_sites.specs.Sites.{StandsAt}
use Rattle.hoisted_sites.specs.Hoisting.{module_of, text_of, site_of, IsBlock}
use Rattle.copy_place.specs.declared.blocks.Planning.{Planning}

-- ---- one memref in one block
-- what the plan settles is the outcome, and the tests are those of the text that this leaves
pub record IsSettledAs (a : Asking) (blocks : List Spot) (steps : List Step) (y : Settled) (outcome : Outcome) (new : Tests) : Type 0 where
  pub is : outcome ≡ outcome_of a.options (module_of a).args (text_of a) y
  pub kept : TestsFor a.options (module_of a) blocks (steps_with a.options (module_of a).args (text_of a) steps y) new

-- at its site, behind placements that leave that alone
abbrev pub TriesSite : Asking → Name → MemrefType → Spot → Site → Tests → Outcome → Tests → Type 0
TriesSite a m ty s x old outcome new = (blocks : List Spot) (steps : List Step)
    → TestsFor a.options (module_of a) (blocks ++ s ∷ []) steps old → AreAside a.options (module_of a) m s steps
    → IsSettledAs a (blocks ++ s ∷ []) steps (fitted_at a.options (module_of a).args (text_of a) steps m ty (site_of x)) outcome new

-- and from its block on
abbrev pub settled_for : Asking → List Step → Name → Spot → Settled
settled_for a steps m s = fitted_for a.options (module_of a).args (text_of a) steps m s (type_of (module_of a).args m)

abbrev pub Decides : Asking → Name → Spot → Tests → Outcome → Tests → Type 0
Decides a m s old outcome new = (blocks : List Spot) (steps : List Step)
    → TestsFor a.options (module_of a) (blocks ++ s ∷ []) steps old → AreAside a.options (module_of a) m s steps
    → IsSettledAs a (blocks ++ s ∷ []) steps (settled_for a steps m s) outcome new

-- ---- all blocks
abbrev pub blocks_of : Asking → List Spot
blocks_of a = loops_at a.options.depth (text_of a)

-- the block of this number, by its path and with the way to it; its memrefs are those that the plan asks about
pub record IsBlockOf (a : Asking) (number : ℕ) (p : LoopPath) (b : Block) : Type 0 where
  pub within : number < length (blocks_of a)
  pub is : spot_of p.at.steps ≡ get_or (blocks_of a) number Here
  pub path : IsBlock (text_of a) p
  pub stands : StandsAt (text_of a) (spot_of p.at.steps) b
  pub memrefs : accessed b.body [] ≡ firsts [] (accesses_in a.options (module_of a).args (text_of a) (spot_of p.at.steps))

-- these memrefs are decided, the last of them in the last of these blocks
pub record IsPlanning (a : Asking) (blocks : List Spot) (as_ : List Asked) (p : Planning) : Type 0 where
  pub decisions : p.decisions.items ≡ (decided_of a.options (module_of a) as_).decisions
  pub tests : TestsFor a.options (module_of a) blocks (decided_of a.options (module_of a) as_).steps p.tests
  pub few : AreFew p.tests

-- all memrefs of so many blocks are decided
abbrev pub IsPlannedTo : Asking → ℕ → Planning → Type 0
IsPlannedTo a count p = IsPlanning a (take count (blocks_of a)) (asked_from a.options (module_of a).args (text_of a) 0 (take count (blocks_of a))) p
