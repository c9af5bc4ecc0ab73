-- Where in a text the loop of a placement stands, and the text with the memref staged there.
use Rattle.std.specs.Prelude.{◌≡◌, ℕ, zero, suc, ◌+◌, true, false, List, [], ◌∷◌, ◌++◌, flat_map, map, replicate, Some, if◌then◌else◌}
use Rattle.affine_ast.specs.Nest.{Nest, Nothing, Loop, Branch, Does}
use Rattle.direct_meaning.specs.Turns.{turns}
use Rattle.direct_meaning.specs.Action.{SlowMemref}
use Rattle.direct_meaning.specs.Static.{Env, knows, lower_of, upper_of, holds_at}
use Rattle.direct_meaning.specs.Actions.{action_of, after_plain, fasts_of_plain, tags_of_plain, fasts_in, tags_in, behind, actions}
use Rattle.placement_texts.specs.Boxes.{HasElements}
use Rattle.boxes.specs.Every.{Every}
use Rattle.placement_texts.specs.Each.{Each}
use Rattle.placement_texts.specs.Template.{Placement, places_count, constant_count, staged_loop}
use Rattle.placement_texts.specs.Regions.{spans_at, PlacesLie, ReachesBox}
use Rattle.placement_texts.specs.Parts.{Part, Stays, Made, Box}

-- the first statement; a statement of those behind the first; one of the first statement's body, or of its first region; one
-- of its second region
pub data Spot : Type 0 where
  Here : Spot
  Behind : Spot → Spot
  Inside : Spot → Spot
  Other : Spot → Spot

-- a place counted over the statements that have a line, as one counted over all: made statements have line 0
abbrev pub found : Spot → Nest → Spot
found s Nothing = s
found s (Loop zero v l u step body rest) = Behind (found s rest)
found s (Branch zero set names first has other rest) = Behind (found s rest)
found s (Does zero q rest) = Behind (found s rest)
found Here n = Here
found (Behind s) (Loop (suc line) v l u step body rest) = Behind (found s rest)
found (Inside s) (Loop (suc line) v l u step body rest) = Inside (found s body)
found (Behind s) (Branch (suc line) set names first has other rest) = Behind (found s rest)
found (Inside s) (Branch (suc line) set names first has other rest) = Inside (found s first)
found (Other s) (Branch (suc line) set names first has other rest) = Other (found s other)
found (Behind s) (Does (suc line) q rest) = Behind (found s rest)
found s n = s

-- a loop stands there
abbrev pub IsLoop : Spot → Nest → Type 0
IsLoop s Nothing = ⊥
IsLoop Here (Loop line v l u step body rest) = Unit {0}
IsLoop (Behind s) (Loop line v l u step body rest) = IsLoop s rest
IsLoop (Inside s) (Loop line v l u step body rest) = IsLoop s body
IsLoop (Other s) (Loop line v l u step body rest) = ⊥
IsLoop Here (Branch line set names first has other rest) = ⊥
IsLoop (Behind s) (Branch line set names first has other rest) = IsLoop s rest
IsLoop (Inside s) (Branch line set names first has other rest) = IsLoop s first
IsLoop (Other s) (Branch line set names first has other rest) = IsLoop s other
IsLoop Here (Does line q rest) = ⊥
IsLoop (Behind s) (Does line q rest) = IsLoop s rest
IsLoop (Inside s) (Does line q rest) = ⊥
IsLoop (Other s) (Does line q rest) = ⊥

-- the text with the template round the loop there
abbrev pub staged_at : Placement → Spot → Nest → Nest
staged_at p s Nothing = Nothing
staged_at p Here (Loop line v l u step body rest) = staged_loop p (Loop line v l u step body rest) rest
staged_at p (Behind s) (Loop line v l u step body rest) = Loop line v l u step body (staged_at p s rest)
staged_at p (Inside s) (Loop line v l u step body rest) = Loop line v l u step (staged_at p s body) rest
staged_at p (Other s) (Loop line v l u step body rest) = Loop line v l u step body rest
staged_at p Here (Branch line set names first has other rest) = Branch line set names first has other rest
staged_at p (Behind s) (Branch line set names first has other rest) = Branch line set names first has other
    (staged_at p s rest)
staged_at p (Inside s) (Branch line set names first has other rest) = Branch line set names
    (staged_at p s first) has other rest
staged_at p (Other s) (Branch line set names first has other rest) = Branch line set names first has
    (staged_at p s other) rest
staged_at p (Behind s) (Does line q rest) = Does line q (staged_at p s rest)
staged_at p s (Does line q rest) = Does line q rest

-- one placement is staged: its loop is counted over the statements with a line
abbrev pub stage_one : Placement → Spot → Nest → Nest
stage_one p s n = staged_at p (found s n) n

-- how many allocations in space 1, and how many elements of those in space 2, stand before it in the text
abbrev pub fasts_before : Spot → Nest → ℕ
fasts_before s Nothing = 0
fasts_before Here n = 0
fasts_before (Behind s) (Loop line v l u step body rest) = fasts_in body + fasts_before s rest
fasts_before (Inside s) (Loop line v l u step body rest) = fasts_before s body
fasts_before (Other s) (Loop line v l u step body rest) = 0
fasts_before (Behind s)
    (Branch line set names first has other rest) = fasts_in first + fasts_in other + fasts_before s rest
fasts_before (Inside s) (Branch line set names first has other rest) = fasts_before s first
fasts_before (Other s) (Branch line set names first has other rest) = fasts_in first + fasts_before s other
fasts_before (Behind s) (Does line q rest) = fasts_of_plain q + fasts_before s rest
fasts_before s (Does line q rest) = 0

abbrev pub tags_before : Spot → Nest → ℕ
tags_before s Nothing = 0
tags_before Here n = 0
tags_before (Behind s) (Loop line v l u step body rest) = tags_in body + tags_before s rest
tags_before (Inside s) (Loop line v l u step body rest) = tags_before s body
tags_before (Other s) (Loop line v l u step body rest) = 0
tags_before (Behind s) (Branch line set names first has other rest) = tags_in first + tags_in other + tags_before s rest
tags_before (Inside s) (Branch line set names first has other rest) = tags_before s first
tags_before (Other s) (Branch line set names first has other rest) = tags_in first + tags_before s other
tags_before (Behind s) (Does line q rest) = tags_of_plain q + tags_before s rest
tags_before s (Does line q rest) = 0

-- the parts of the text's actions: the loop's are boxes, one each time that the text comes to it
abbrev pub parts_at : Placement → Spot → Nest → Env → List Part
parts_at p s Nothing e = []
parts_at p Here (Loop line v l u step body rest) e =
    replicate (places_count p.name p.dims + constant_count p p.how) Made
    ++ Box (spans_at e p.dims) (actions (Loop line v l u step body Nothing) e)
    ∷ map Stays (actions rest (behind body e))
parts_at p (Behind s) (Loop line v l u step body rest) e = map Stays
    (flat_map (λ t. actions body (knows e v t)) (turns (lower_of e l) (upper_of e u) step))
    ++ parts_at p s rest (behind body e)
parts_at p (Inside s) (Loop line v l u step body rest) e = flat_map (λ t. parts_at p s body (knows e v t))
    (turns (lower_of e l) (upper_of e u) step) ++ map Stays (actions rest (behind body e))
parts_at p (Other s) (Loop line v l u step body rest) e = map Stays (actions (Loop line v l u step body rest) e)
parts_at p Here (Branch line set names first has other rest) e = map Stays
    (actions (Branch line set names first has other rest) e)
parts_at p (Behind s) (Branch line set names first has other rest) e =
    map Stays (if holds_at e set names then actions first e else actions other (behind first e))
    ++ parts_at p s rest (behind other (behind first e))
parts_at p (Inside s) (Branch line set names first has other rest) e =
    (if holds_at e set names then parts_at p s first e else map Stays (actions other (behind first e)))
    ++ map Stays (actions rest (behind other (behind first e)))
parts_at p (Other s) (Branch line set names first has other rest) e =
    (if holds_at e set names then map Stays (actions first e) else parts_at p s other (behind first e))
    ++ map Stays (actions rest (behind other (behind first e)))
parts_at p (Behind s) (Does line q rest) e = Stays (action_of q e) ∷ parts_at p s rest (after_plain q e)
parts_at p s (Does line q rest) e = map Stays (actions (Does line q rest) e)

-- what has to hold each time that the text comes to the loop: the memref is known by its name, the box has elements and lies in
-- the memref, and the loop's accesses of the memref lie in the box
module _ (p : Placement) (order first : ℕ) where
  pub record Fine (loop : Nest) (e : Env) : Type 0 where
    pub home : e.home p.memref ≡ Some (SlowMemref order first)
    pub lie : PlacesLie e p.dims
    pub elements : HasElements (spans_at e p.dims)
    pub reaches : Each (ReachesBox p.memref order first (spans_at e p.dims)) loop e

  abbrev pub FineAt : Spot → Nest → Env → Type 0
  FineAt s Nothing e = Unit {0}
  FineAt Here (Loop line v l u step body rest) e = Fine (Loop line v l u step body Nothing) e
  FineAt (Behind s) (Loop line v l u step body rest) e = FineAt s rest (behind body e)
  FineAt (Inside s) (Loop line v l u step body rest) e = Every (λ t. FineAt s body (knows e v t))
      (turns (lower_of e l) (upper_of e u) step)
  FineAt (Other s) (Loop line v l u step body rest) e = Unit {0}
  FineAt Here (Branch line set names first_ has other rest) e = Unit {0}
  FineAt (Behind s) (Branch line set names first_ has other rest) e = FineAt s rest (behind other (behind first_ e))
  FineAt (Inside s) (Branch line set names first_ has other rest) e = holds_at e set names ≡ true → FineAt s first_ e
  FineAt (Other s) (Branch line set names first_ has other rest) e = holds_at e set names ≡ false
      → FineAt s other (behind first_ e)
  FineAt (Behind s) (Does line q rest) e = FineAt s rest (after_plain q e)
  FineAt s (Does line q rest) e = Unit {0}

-- the loop there has a line, as each loop of a source has
abbrev pub HasLine : Spot → Nest → Type 0
HasLine Here (Loop zero v l u step body rest) = ⊥
HasLine (Behind s) (Loop line v l u step body rest) = HasLine s rest
HasLine (Inside s) (Loop line v l u step body rest) = HasLine s body
HasLine (Behind s) (Branch line set names first has other rest) = HasLine s rest
HasLine (Inside s) (Branch line set names first has other rest) = HasLine s first
HasLine (Other s) (Branch line set names first has other rest) = HasLine s other
HasLine (Behind s) (Does line q rest) = HasLine s rest
HasLine s n = Unit {0}

-- two loops of which neither is the other's nor stands in it, by their places
abbrev pub Disjoint : Spot → Spot → Type 0
Disjoint Here Here = ⊥
Disjoint Here (Inside s) = ⊥
Disjoint (Inside t) Here = ⊥
Disjoint (Behind t) (Behind s) = Disjoint t s
Disjoint (Inside t) (Inside s) = Disjoint t s
Disjoint (Other t) (Other s) = Disjoint t s
Disjoint t s = Unit {0}
