-- The sums of a text with one placement more, from those of the text.
use Rattle.std.specs.Prelude.{◌≡◌, ℕ, suc, ◌+◌, ◌-◌, Bool, ◌&&◌, if◌then◌else◌, List, [], ◌∷◌, ◌++◌, sum_by}
use Rattle.std.specs.List.{list_all}
use Rattle.affine_ast.specs.declared.name.Name.{Name}
use Rattle.affine_ast.specs.declared.types.Access.{Access}
use Rattle.affine_ast.specs.Names.{same_name}
use Rattle.affine_ast.specs.Nest.{Plain, Nest, Nothing, Loop, Branch, Does, Load, Store, nest}
use Rattle.nest_domain.specs.Ways as ways
use Rattle.nest_domain.specs.Ways.{Header, loop_count, Use, Affine, Other}
use Rattle.placement_texts.specs.Template.{Placement, begins, in_fast}
use Rattle.placement_texts.specs.Spots.{Spot, IsLoop, found, stage_one}
use Rattle.placement_lists.specs.Statements.{before, behind}
use Rattle.placement_regions.specs.Sites.{from_spot, way_to}
use Rattle.staged_plans.specs.Plans.{uses_there}
use Rattle.plan_laws.specs.Limits.{map_operands, access_fits}
use Rattle.text_limits.specs.declared.sums.Sums.{Sums}
use Rattle.text_limits.specs.Sums.{sums_in}

-- the sums of two texts
abbrev pub with_sums : Sums → Sums → Sums
with_sums a b = record {
  statements = a.statements + b.statements;
  operands = a.operands + b.operands;
  elements = a.elements + b.elements;
  tags = a.tags + b.tags;
  fits = a.fits && b.fits;
}

-- the subscripts of the loads and stores of a memref in a text, in its order: those that a placement redirects
abbrev pub accesses_of : Name → Plain → List Access
accesses_of m (Load r n at ty) = if same_name m n then at ∷ [] else []
accesses_of m (Store x n at ty) = if same_name m n then at ∷ [] else []
accesses_of m p = []

abbrev pub accesses_in : Name → Nest → List Access
accesses_in m Nothing = []
accesses_in m (Loop line v l u s body rest) = accesses_in m body ++ accesses_in m rest
accesses_in m (Branch line set names first has other rest) = accesses_in m first ++ (accesses_in m other ++ accesses_in m rest)
accesses_in m (Does line p rest) = accesses_of m p ++ accesses_in m rest

-- those in the loop that a text begins with
abbrev pub accesses_in_loop : Name → Nest → List Access
accesses_in_loop m (Loop line v l u s body rest) = accesses_in m body
accesses_in_loop m n = []

-- they are those of the uses of the memref
abbrev pub subscripts : List Use → List Access
subscripts [] = []
subscripts (Affine way stores at ∷ us) = at ∷ subscripts us
subscripts (Other ∷ us) = subscripts us

abbrev pub UsesAreAccesses : Type 0
UsesAreAccesses = (n : Nest) (m : Name) (s : Spot) → subscripts (uses_there n m s) ≡ accesses_in_loop m (from_spot s n)

-- the operands that an access has more as one of the fast memref
abbrev pub operands_more : Placement → Access → ℕ
operands_more p at = map_operands (in_fast (begins p) at) - map_operands at

abbrev pub fits_in_fast : Placement → Access → Bool
fits_in_fast p at = access_fits (in_fast (begins p) at)

-- the sums with these accesses redirected to the fast memref
abbrev pub redirected : Placement → List Access → Sums → Sums
redirected p ats t = record t { operands = t.operands + sum_by (operands_more p) ats; fits = t.fits && list_all (fits_in_fast p) ats }

-- how many conditions stand round the end of a way
abbrev pub condition_count : List Header → ℕ
condition_count [] = 0
condition_count (ways.Round v l u s ∷ hs) = condition_count hs
condition_count (ways.Given set names ∷ hs) = suc (condition_count hs)
condition_count (ways.Except set names first ∷ hs) = suc (condition_count hs)
condition_count (ways.Behind p ∷ hs) = condition_count hs
condition_count (ways.Past n ∷ hs) = condition_count hs

-- the sums of what a placement puts before a loop and behind it, where so many loops and conditions stand round it
abbrev pub template_sums : Placement → ℕ → ℕ → Sums
template_sums p loops ifs = with_sums (sums_in loops ifs (nest (before p))) (sums_in loops ifs (nest (behind p)))

-- the sums of a text with one placement more at the loop there: those of the text and of the template, with the accesses of the memref
-- redirected
abbrev pub sums_with : Placement → Spot → Nest → Sums
sums_with p s n =
    redirected p (accesses_in_loop p.memref (from_spot s n)) (with_sums (sums_in 0 0 n) (template_sums p (loop_count (way_to s n)) (condition_count (way_to s n))))

abbrev pub PlacementsAddSums : Type 0
PlacementsAddSums = (p : Placement) (s : Spot) (n : Nest) → IsLoop (found s n) n → sums_in 0 0 (stage_one p s n) ≡ sums_with p (found s n) n

-- an access of the fast memref has no fewer operands
abbrev pub OperandsGrow : Type 0
OperandsGrow = (p : Placement) (at : Access) → map_operands (in_fast (begins p) at) ≡ map_operands at + operands_more p at

-- these numbers and uses tell of a loop of a text: how many loops and conditions stand round it, and the uses of the placement's memref
-- in it
pub record Describes (p : Placement) (loops ifs : ℕ) (us : List Use) (s : Spot) (n : Nest) : Type 0 where
  pub loop : IsLoop (found s n) n
  pub in_loops : loops ≡ loop_count (way_to (found s n) n)
  pub in_ifs : ifs ≡ condition_count (way_to (found s n) n)
  pub uses : subscripts us ≡ accesses_in_loop p.memref (from_spot (found s n) n)
