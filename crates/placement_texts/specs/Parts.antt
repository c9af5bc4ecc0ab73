-- A list of parts, which is read as the actions of a text, and as those of the text in which a memref is staged.
use Rattle.std.specs.Prelude.{ℕ, ◌+◌, ◌*◌, Bool, true, false, List, [], ◌∷◌, ◌++◌, flat_map, map, Option, Some, None}
use Rattle.affine_ast.specs.Sizes.{product}
use Rattle.direct_meaning.specs.Turns.{below}
use Rattle.direct_meaning.specs.Action.{Slow, Fast, Register, Action, Known, Loads, Stores, Allocates, Releases, AllocatesTags, ReleasesTags, Waits}
use Rattle.direct_meaning.specs.Actions.{started}
use Rattle.boxes.specs.Boxes.{Side}
use Rattle.placement_texts.specs.Boxes.{sizes_of, extents_of}
use Rattle.placement_texts.specs.Labels.{Numbers, action_up, action_in_box}
use Rattle.placement_texts.specs.Template.{How, Copies, Transfers, Placement, in_value, out_value}

pub data Part : Type 0 where
  -- an action of the text
  Stays : Action → Part
  -- a statement of the template, as a place or a constant
  Made : Part
  -- the loop, in one turn of those round it: the box, and the loop's actions
  Box : List Side → List Action → Part

abbrev pub original : List Part → List Action
original [] = []
original (Stays x ∷ ps) = x ∷ original ps
original (Made ∷ ps) = original ps
original (Box spans xs ∷ ps) = xs ++ original ps

-- ---- copies

-- the number of an element, row-major
abbrev pub row_number : List ℕ → List ℕ → ℕ
row_number [] is = 0
row_number (n ∷ ns) [] = 0
row_number (n ∷ ns) (i ∷ is) = i * product ns + row_number ns is

-- the box's element, counted in the memref
abbrev pub behind_place : List Side → List ℕ → List ℕ
behind_place [] is = []
behind_place (s ∷ ss) [] = []
behind_place (s ∷ ss) (i ∷ is) = (s.place + i) ∷ behind_place ss is

-- where the box begins
abbrev pub places_of : List Side → List ℕ
places_of [] = []
places_of (s ∷ ss) = s.place ∷ places_of ss

-- for each element of a box of these extents, in order
abbrev pub over_box : List ℕ → (List ℕ → List Action) → List Action
over_box [] f = f []
over_box (e ∷ es) f = flat_map (λ i. over_box es (λ is. f (i ∷ is))) (below e)

-- the stride and the chunk: without them both are the count
abbrev pub stride_in : Option (ℕ × ℕ) → ℕ → ℕ
stride_in None count = count
stride_in (Some two) count = two.0

abbrev pub chunk_in : Option (ℕ × ℕ) → ℕ → ℕ
chunk_in None count = count
chunk_in (Some two) count = two.1

-- a placement, the memref's number among the arguments and its first slow place, and the new numbers
module _ (p : Placement) (order first : ℕ) (new : Numbers) where
  abbrev pub slow_element : List Side → List ℕ → ℕ
  slow_element spans is = first + row_number (sizes_of spans) (behind_place spans is)

  abbrev pub fast_element : List Side → List ℕ → ℕ
  fast_element spans is = row_number (extents_of spans) is

  -- one element, in and out
  abbrev pub element_in : List Side → List ℕ → List Action
  element_in spans is = Loads (in_value p.name) (Slow (slow_element spans is))
      ∷ Stores (Register (in_value p.name)) (Fast new.fast 0 (fast_element spans is)) ∷ []

  abbrev pub element_out : List Side → List ℕ → List Action
  element_out spans is = Loads (out_value p.name) (Fast new.fast 0 (fast_element spans is))
      ∷ Stores (Register (out_value p.name)) (Slow (slow_element spans is)) ∷ []

  -- a transfer of the box, and the wait for it
  abbrev pub transfer : Bool → Option (ℕ × ℕ) → List Side → List Action
  transfer incoming chunks spans =
      started (record {
        incoming = incoming;
        tag = new.tag;
        memref = order;
        base = first + row_number (sizes_of spans) (places_of spans);
        stride = stride_in chunks (product (extents_of spans));
        chunk = chunk_in chunks (product (extents_of spans));
        count = product (extents_of spans);
        fast = new.fast;
        half = 0;
        offset = 0;
      }) (first + product (sizes_of spans)) (product (extents_of spans))
      ∷ Waits new.tag (product (extents_of spans)) ∷ []

  abbrev pub reading : How → List Side → List Action
  reading Copies spans = over_box (extents_of spans) (element_in spans)
  reading (Transfers chunks) spans = transfer true chunks spans

  abbrev pub writing : How → List Side → List Action
  writing Copies spans = over_box (extents_of spans) (element_out spans)
  writing (Transfers chunks) spans = transfer false chunks spans

  abbrev pub only_if : Bool → List Action → List Action
  only_if true xs = xs
  only_if false xs = []

  abbrev pub allocating : How → List Side → List Action
  allocating Copies spans = Allocates new.fast p.element (1 ∷ extents_of spans) ∷ []
  allocating (Transfers chunks) spans = Allocates new.fast p.element (1 ∷ extents_of spans) ∷ AllocatesTags new.tag 1
      ∷ []

  abbrev pub releasing : How → List Side → List Action
  releasing Copies spans = Releases new.fast p.element (1 ∷ extents_of spans) ∷ []
  releasing (Transfers chunks) spans = Releases new.fast p.element (1 ∷ extents_of spans) ∷ ReleasesTags new.tag 1 ∷ []

  -- the loop's actions with those of the template round them
  abbrev pub boxed : List Side → List Action → List Action
  boxed spans xs =
      allocating p.how spans
      ++ (only_if p.reads (reading p.how spans)
      ++ (map (action_in_box first spans new) xs
      ++ (only_if p.writes (writing p.how spans) ++ releasing p.how spans)))

  abbrev pub staged : List Part → List Action
  staged [] = []
  staged (Stays x ∷ ps) = action_up new x ∷ staged ps
  staged (Made ∷ ps) = Known ∷ staged ps
  staged (Box spans xs ∷ ps) = boxed spans xs ++ staged ps
