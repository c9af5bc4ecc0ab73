-- The way to a statement: what stands round it and before it, from the outside in.
use Rattle.std.specs.Prelude.{ℕ, zero, suc, ℤ, Bool, true, false, ◌||◌, if◌then◌else◌, List, [], ◌∷◌, ◌++◌, Option, Some, None}
use Rattle.affine_expr.specs.declared.map.Set.{Set}
use Rattle.affine_ast.specs.declared.name.Name.{Name}
use Rattle.affine_ast.specs.declared.types.Access.{Access}
use Rattle.affine_ast.specs.declared.types.Bound.{Bound}
use Rattle.affine_ast.specs.declared.types.Bound.TheVariants as bound
use Rattle.affine_ast.specs.Names.{same_name}
use Rattle.affine_ast.specs.Nest.{Plain, Nest, Nothing, Loop, Branch, Does, Value, Load, Store, RawLoad, RawStore, Dealloc, Start, Wait}

-- one thing on the way
pub data Header : Type 0 where
  -- in the body of a loop: its variable, bounds and step
  Round : Name → Bound → Bound → ℤ → Header
  -- in the first region of a condition
  Given : Set → List Name → Header
  -- in its `else` region, behind the first one
  Except : Set → List Name → Nest → Header
  -- behind a plain statement
  Behind : Plain → Header
  -- behind a region: that of a loop, or one of a condition's
  Past : Nest → Header

-- a statement, with the way to it: the list of statements that begins with it
pub record Spot : Type 0 where
  pub way : List Header
  pub here : Nest

abbrev pub under : Header → Option Spot → Option Spot
under h (Some s) = Some (record { way = h ∷ s.way; here = s.here })
under h None = None

-- the statement at a position of a list and, from there on inward, at the positions of a path. A position of an `else`
-- region has the mark `true`
unfoldable pub spot : Nest → ℕ → List (ℕ × Bool) → Option Spot
spot Nothing n steps = None
spot (Loop line v l u s body rest) zero [] = Some (record { way = []; here = Loop line v l u s body rest })
spot (Loop line v l u s body rest) zero (step ∷ steps) = if step.1 then None else under (Round v l u s) (spot body step.0 steps)
spot (Loop line v l u s body rest) (suc n) steps = under (Past body) (spot rest n steps)
spot (Branch line set names first has other rest) zero [] = Some (record { way = []; here = Branch line set names first has other rest })
spot (Branch line set names first has other rest) zero (step ∷ steps) =
    if step.1 then under (Except set names first) (spot other step.0 steps) else under (Given set names) (spot first step.0 steps)
spot (Branch line set names first has other rest) (suc n) steps = under (Past first) (under (Past other) (spot rest n steps))
spot (Does line p rest) zero [] = Some (record { way = []; here = Does line p rest })
spot (Does line p rest) zero (step ∷ steps) = None
spot (Does line p rest) (suc n) steps = under (Behind p) (spot rest n steps)

-- the statement that a path names
abbrev pub at_path : Nest → List (ℕ × Bool) → Option Spot
at_path n [] = None
at_path n (step ∷ steps) = if step.1 then None else spot n step.0 steps

-- how many loops stand round the statement
abbrev pub loop_count : List Header → ℕ
loop_count [] = 0
loop_count (Round v l u s ∷ hs) = suc (loop_count hs)
loop_count (Given set names ∷ hs) = loop_count hs
loop_count (Except set names first ∷ hs) = loop_count hs
loop_count (Behind p ∷ hs) = loop_count hs
loop_count (Past n ∷ hs) = loop_count hs

-- their variables, from the outside in
abbrev pub loop_names : List Header → List Name
loop_names [] = []
loop_names (Round v l u s ∷ hs) = v ∷ loop_names hs
loop_names (Given set names ∷ hs) = loop_names hs
loop_names (Except set names first ∷ hs) = loop_names hs
loop_names (Behind p ∷ hs) = loop_names hs
loop_names (Past n ∷ hs) = loop_names hs

-- ---- which values a place uses
abbrev pub has_name : Name → List Name → Bool
has_name n [] = false
has_name n (m ∷ ms) = same_name n m || has_name n ms

abbrev pub bound_names : Bound → List Name
bound_names (bound.Int z) = []
bound_names (bound.Value n) = n ∷ []
bound_names (bound.Map at) = at.operands

-- whether a statement gives a value that is among the names used behind it
abbrev pub plain_needed : Plain → List Name → Bool
plain_needed (Value r pick at) names = has_name r names
plain_needed p names = false

abbrev pub needed : Header → List Name → Bool
needed (Round v l u s) names = false
needed (Given set operands) names = false
needed (Except set operands first) names = false
needed (Behind p) names = plain_needed p names
needed (Past n) names = false

-- behind a statement these names are used: with them, before it, its own operands where it gives one of them
abbrev pub used_before : Plain → List Name → List Name
used_before (Value r pick at) names = if has_name r names then at.operands ++ names else names
used_before p names = names

-- the names that the place behind a way uses, when some are its own: those in the bounds and sets that give its rows, and
-- those in the definitions of the values among them, directly or through other values. An operand counts, also where no
-- result of its map names it
unfoldable pub used : List Header → List Name → List Name
used [] own = own
used (Round v l u s ∷ hs) own = bound_names l ++ (bound_names u ++ used hs own)
used (Given set names ∷ hs) own = names ++ used hs own
used (Except set names first ∷ hs) own = used hs own
used (Behind p ∷ hs) own = used_before p (used hs own)
used (Past n ∷ hs) own = used hs own

-- ---- the accesses of a memref in a text
pub data Use : Type 0 where
  -- `affine.load` or `affine.store`: the way to it, whether it stores, its subscripts
  Affine : List Header → Bool → Access → Use
  -- every other access
  Other : Use

abbrev pub if_named : Name → Name → Use → List Use
if_named m n x = if same_name m n then x ∷ [] else []

abbrev pub use_of : Name → Plain → List Header → List Use
use_of m (Load r n at ty) way = if_named m n (Affine way false at)
use_of m (Store x n at ty) way = if_named m n (Affine way true at)
use_of m (RawLoad r n at ty) way = if_named m n Other
use_of m (RawStore x n at ty) way = if_named m n Other
use_of m (Dealloc n ty) way = if_named m n Other
use_of m (Start x x_at y y_at t t_at n stride types) way = if_named m x Other ++ (if_named m y Other ++ if_named m t Other)
use_of m (Wait t at n ty) way = if_named m t Other
use_of m p way = []

-- in text order, for the statements behind a way
unfoldable pub uses : Name → Nest → List Header → List Use
uses m Nothing way = []
uses m (Loop line v l u s body rest) way = uses m body (way ++ Round v l u s ∷ []) ++ uses m rest (way ++ Past body ∷ [])
uses m (Branch line set names first has other rest) way =
    uses m first (way ++ Given set names ∷ []) ++ (uses m other (way ++ Except set names first ∷ []) ++ uses m rest ((way ++ Past first ∷ []) ++ Past other ∷ []))
uses m (Does line p rest) way = use_of m p way ++ uses m rest (way ++ Behind p ∷ [])
