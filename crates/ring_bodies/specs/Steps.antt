-- What the two runs do at a placement's pieces of the body, as steps.
use Rattle.std.specs.Prelude.{◌≡◌, ℕ, zero, suc, ◌+◌, ◌≤◌, ℤ, pos, Bool, true, List, [], ◌∷◌, ◌++◌, Some, if◌then◌else◌}
use Rattle.affine_ast.specs.declared.name.Name.{Name}
use Rattle.affine_ast.specs.declared.types.Bound.{Bound}
use Rattle.affine_ast.specs.Nest.{Plain, Nest, Nothing, Start, Wait}
use Rattle.bus_model.specs.declared.transfer.Transfer.{Transfer}
use Rattle.direct_meaning.specs.Action.{FastMemref, Known, Starts, TagMemref, Waits}
use Rattle.direct_meaning.specs.Static.{Env, number}
use Rattle.direct_meaning.specs.Actions.{action_of, actions, after}
use Rattle.direct_meaning.specs.Turns.{gap}
use Rattle.placement_texts.specs.Template.{Placement, allocs, before, begins, behind_loop, constant_count, constants, count_name, dim_extents, fast_at_zeros, fast_name, fast_type, places_count, places_from, slow_at_places, slow_type, stride_of, tag_at_zero, tag_name, tag_type}
use Rattle.step_runs.specs.Stage.{Stage, image}
use Rattle.step_runs.specs.Steps.{Each, Step, Both, Leaves, first_list, second_list}
use Rattle.ring_runs.specs.Places.{ring_place}
use Rattle.ring_runs.specs.Template.{closed, opened, written}
use Rattle.ring_plans.specs.Rings.{at_place, bodies, ring_tags, ring_type}
use Rattle.ring_bodies.specs.Pieces.{AreDoubled, IsDoubled, IsPiece, Piece, chunks_of, in_row, ring_closing, ring_opening, ring_piece, single_piece}

-- ---- the statements of a placement's template
-- up to its transfer in
abbrev pub front_text : Placement → Nest → Nest
front_text p rest = places_from p.name 0 p.dims (constants p p.how (allocs p p.how rest))

abbrev pub start_in_of : Placement → Plain
start_in_of p = Start p.memref (slow_at_places (begins p)) (fast_name p.name) (fast_at_zeros (begins p)) (tag_name p.name) tag_at_zero (count_name p.name) (stride_of p (chunks_of p.how)) (slow_type p ∷ fast_type p ∷ tag_type ∷ [])

abbrev pub start_out_of : Placement → Plain
start_out_of p = Start (fast_name p.name) (fast_at_zeros (begins p)) p.memref (slow_at_places (begins p)) (tag_name p.name) tag_at_zero (count_name p.name) (stride_of p (chunks_of p.how)) (fast_type p ∷ slow_type p ∷ tag_type ∷ [])

abbrev pub wait_of_template : Placement → Plain
wait_of_template p = Wait (tag_name p.name) tag_at_zero (count_name p.name) tag_type

abbrev pub half_sizes : Placement → List ℕ
half_sizes p = 1 ∷ dim_extents p.dims

-- statements of both runs that make numbers known
abbrev pub both_knowns : ℕ → List Step
both_knowns zero = []
both_knowns (suc n) = Both Known Known ∷ both_knowns n

module _ (buffers : ℕ) (v : Name) (lower upper : Bound) (s : ℕ) where
  -- with a ring: the start out of the turn's place, and the wait for its tag
  abbrev pub ring_start_of : Placement → Plain
  ring_start_of p = Start (fast_name p.name) (at_place buffers v lower upper (pos s) (pos 0) (fast_at_zeros (begins p))) p.memref (slow_at_places (begins p)) (tag_name p.name) (at_place buffers v lower upper (pos s) (pos 0) tag_at_zero)
      (count_name p.name) (stride_of p (chunks_of p.how)) (ring_type buffers v lower upper (pos s) p ∷ slow_type p ∷ ring_tags buffers v lower upper (pos s) ∷ [])

  abbrev pub ring_wait_of : Placement → Plain
  ring_wait_of p = Wait (tag_name p.name) (at_place buffers v lower upper (pos s) (pos 0) tag_at_zero) (count_name p.name) (ring_tags buffers v lower upper (pos s))

  -- ---- before the loop of an inward placement
  module _ (own : Name → Bool) (t : ℤ) (ring : ℕ → ℕ → Transfer) (i j : ℕ) (p : Placement) (brings : Transfer) where
    -- number i, turn j: the single text starts this transfer there and waits for it; the text with rings waits for the turn's, which carries
    -- as much
    pub record OpensInward (e g : Env) : Type 0 where
      pub doubled : IsDoubled own p
      pub reads : p.reads ≡ true
      pub fast_new : brings.fast ≡ e.fasts
      pub tag_new : brings.tag ≡ e.tags
      pub start : action_of (start_in_of p) (after (front_text p Nothing) e) ≡ Starts brings
      pub wait : action_of (wait_of_template p) (after (front_text p Nothing) e) ≡ Waits brings.tag brings.count
      pub own_turn : own v ≡ true
      pub turn : g.known v ≡ Some t
      pub first_tag : ℕ
      pub tag : g.home (tag_name p.name) ≡ Some (TagMemref first_tag)
      pub is_tag : (ring i j).tag ≡ first_tag + ring_place t s buffers
      pub is_count : (ring i j).count ≡ gap (number (g.known (count_name p.name)))

    abbrev pub opening : List Step
    opening = both_knowns (places_count p.name p.dims) ++ opened i j brings p.element (half_sizes p) (constant_count p p.how)

  -- ---- behind the loop of a placement
  module _ (own : Name → Bool) (stage : Stage) (ring : ℕ → ℕ → Transfer) (i j : ℕ) (p : Placement) (w : Transfer) where
    -- the single text releases the memref and the tag of this transfer, which it started and waited for where the placement is written. The
    -- text with rings starts its own one then: where the placement is outward that of the turn
    pub record ClosesHere (e g : Env) : Type 0 where
      pub doubled : IsDoubled own p
      pub fast : e.home (fast_name p.name) ≡ Some (FastMemref w.fast)
      pub tag : e.home (tag_name p.name) ≡ Some (TagMemref w.tag)
      pub start : p.writes ≡ true → action_of (start_out_of p) e ≡ Starts w
      pub wait : p.writes ≡ true → action_of (wait_of_template p) e ≡ Waits w.tag w.count
      pub ring_start : p.writes ≡ true → action_of (ring_start_of p) g ≡ Starts (if p.reads then image stage w else ring i j)
      pub ring_wait : p.writes ≡ true → p.reads ≡ true → action_of (ring_wait_of p) g ≡ Waits (stage.tag w.tag) w.count

    abbrev pub closing : List Step
    closing = (if p.writes then (if p.reads then written stage w else Leaves i j w ∷ []) else []) ++ closed w p.element (half_sizes p)

abbrev pub OpeningsAreSteps : Type 0
OpeningsAreSteps = (buffers : ℕ) (v : Name) (lower upper : Bound) (s : ℕ) (own : Name → Bool) (t : ℤ) (ring : ℕ → ℕ → Transfer) (i j : ℕ) (p : Placement) (brings : Transfer) (e g : Env) → 1 ≤ buffers
    → OpensInward buffers v lower upper s own t ring i j p brings e g
    → (first_list ring (opening buffers v lower upper s own t ring i j p brings) ≡ actions (before p Nothing) e)
    × (second_list ring (opening buffers v lower upper s own t ring i j p brings) ≡ actions (ring_opening buffers v lower upper (pos s) p) g)

abbrev pub ClosingsAreSteps : Type 0
ClosingsAreSteps = (buffers : ℕ) (v : Name) (lower upper : Bound) (s : ℕ) (own : Name → Bool) (stage : Stage) (ring : ℕ → ℕ → Transfer) (i j : ℕ) (p : Placement) (w : Transfer) (e g : Env)
    → ClosesHere buffers v lower upper s own stage ring i j p w e g
    → (first_list ring (closing buffers v lower upper s own stage ring i j p w) ≡ actions (behind_loop p Nothing) e)
    × (second_list ring (closing buffers v lower upper s own stage ring i j p w) ≡ actions (ring_closing buffers v lower upper (pos s) p) g)

-- ---- a turn
-- a piece with the steps of it
abbrev pub pieces_of : List (Piece × List Step) → List Piece
pieces_of [] = []
pieces_of (x ∷ xs) = x.0 ∷ pieces_of xs

abbrev pub steps_of : List (Piece × List Step) → List Step
steps_of [] = []
steps_of (x ∷ xs) = x.1 ++ steps_of xs

module _ (buffers : ℕ) (v : Name) (lower upper : Bound) (s : ℤ) (ring : ℕ → ℕ → Transfer) (ps : List Placement) where
  -- the steps of each piece are what the two texts do at it, behind the pieces before it
  abbrev pub AllDo : List (Piece × List Step) → Env → Env → Type 0
  AllDo [] e g = Unit {0}
  AllDo (x ∷ xs) e g =
      (first_list ring x.1 ≡ actions (single_piece x.0) e) × (second_list ring x.1 ≡ actions (ring_piece buffers v lower upper s ps x.0) g)
      × AllDo xs (after (single_piece x.0) e) (after (ring_piece buffers v lower upper s ps x.0) g)

-- then all of them together are what the body does, and the body with rings
abbrev pub TurnsByPieces : Type 0
TurnsByPieces = (own : Name → Bool) (buffers : ℕ) (v : Name) (lower upper : Bound) (s : ℤ) (ring : ℕ → ℕ → Transfer) (ps : List Placement) (xs : List (Piece × List Step)) (e g : Env)
    → AreDoubled own ps → Each (IsPiece buffers v lower upper s ps) (pieces_of xs) → AllDo buffers v lower upper s ring ps xs e g
    → (first_list ring (steps_of xs) ≡ actions (in_row single_piece (pieces_of xs)) e)
    × (second_list ring (steps_of xs) ≡ actions (bodies buffers v lower upper s ps (in_row single_piece (pieces_of xs))) g)
