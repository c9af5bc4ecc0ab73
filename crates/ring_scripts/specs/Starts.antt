-- What a start of the text with rings does, beside the start in the text with single placements in the turn whose transfer it is.
use Rattle.std.specs.Prelude.{◌≡◌, ℕ, ◌+◌, ◌≤◌, ℤ, pos, ◌+ℤ◌, Bool, true, false, List, [], ◌∷◌, ◌++◌, map, replicate, Option, Some, None}
use Rattle.affine_ast.specs.declared.name.Name.{Name}
use Rattle.affine_ast.specs.declared.types.Access.{Access}
use Rattle.affine_ast.specs.declared.types.Bound.{Bound}
use Rattle.affine_ast.specs.Names.{same_name}
use Rattle.affine_ast.specs.Nest.{Plain, Nest, Does, Start, Wait}
use Rattle.affine_ast.specs.Rules.{map_fits}
use Rattle.bus_model.specs.declared.transfer.Transfer.{Transfer}
use Rattle.direct_meaning.specs.Action.{FastMemref, Known, SlowMemref, Starts, TagMemref, Waits}
use Rattle.direct_meaning.specs.Static.{Env, number, results_of}
use Rattle.direct_meaning.specs.Actions.{action_of, actions, layout_of}
use Rattle.placement_texts.specs.Own.{MadeNames}
use Rattle.placement_texts.specs.Regions.{OwnDims, place_number}
use Rattle.placement_texts.specs.Template.{Dimension, Placement, begins, begins_from, count_name, fast_at_zeros, fast_name, fast_type, places_count, places_from, slow_at_places, slow_type, tag_at_zero, tag_name, tag_type}
use Rattle.ring_runs.specs.Places.{ring_place}
use Rattle.ring_plans.specs.Rings.{at_place, dims_later, ring_tags, ring_type}

-- a transfer with a tag of its own, to or from a half of its own
abbrev pub with_place : Transfer → ℕ → ℕ → ℕ → Transfer
with_place t tag fast half = record t { tag = tag; fast = fast; half = half }

-- ---- where the box of a later turn begins
abbrev pub NoTerm : Name → List (Name × ℤ) → Type 0
NoTerm v [] = Unit {0}
NoTerm v (t ∷ ts) = (same_name v t.0 ≡ false) × NoTerm v ts

-- a value is that of one term at most
abbrev pub IsOnce : Name → List (Name × ℤ) → Type 0
IsOnce v [] = Unit {0}
IsOnce v (t ∷ ts) = (same_name v t.0 ≡ true → NoTerm v ts) × IsOnce v ts

abbrev pub AreOnce : Name → List Dimension → Type 0
AreOnce v [] = Unit {0}
AreOnce v (d ∷ ds) = IsOnce v d.terms × AreOnce v ds

-- in the second environment the value is t, in the first z more, and all other names that the test passes are the same numbers
pub record IsLater (own : Name → Bool) (v : Name) (z t : ℤ) (e g : Env) : Type 0 where
  pub now : g.known v ≡ Some t
  pub then_is : e.known v ≡ Some (t +ℤ z)
  pub same : (n : Name) → own n ≡ true → same_name v n ≡ false → g.known n ≡ e.known n

-- the box that is moved with the turn begins now where the box begins then
abbrev pub BoxIsLater : Type 0
BoxIsLater = (own : Name → Bool) (v : Name) (z t : ℤ) (e g : Env) (ds : List Dimension) → IsLater own v z t e g → OwnDims own ds → AreOnce v ds
    → map (place_number g) (dims_later v z ds) ≡ map (place_number e) ds

-- ---- a start ahead of its turn
-- a name is the same number in both, and none of those for places
abbrev pub IsBeside : (ℕ → Name) → Env → Env → Name → Type 0
IsBeside name e g n = (g.known n ≡ e.known n) × ((i : ℕ) → 7 ≤ i → same_name (name i) n ≡ false)

abbrev pub AreBeside : (ℕ → Name) → Env → Env → Option (Name × Name) → Type 0
AreBeside name e g None = Unit {0}
AreBeside name e g (Some two) = IsBeside name e g two.0 × IsBeside name e g two.1

-- what is known behind statements that say places: memrefs stay, and all names but those for places
pub record IsBehindPlaces (name : ℕ → Name) (g h : Env) : Type 0 where
  pub home : h.home ≡ g.home
  pub fasts : h.fasts ≡ g.fasts
  pub tags : h.tags ≡ g.tags
  pub known : (n : Name) → ((i : ℕ) → 7 ≤ i → same_name (name i) n ≡ false) → h.known n ≡ g.known n

module _ (own : Name → Bool) (buffers : ℕ) (v : Name) (lower upper : Bound) (s : ℕ) (z t : ℤ) (p : Placement) (stride : Option (Name × Name)) (name : ℕ → Name) where
  -- the second environment is that of a start in the text with rings; the first is that of the single text's start in the turn z later
  pub record IsAhead (order first a b k : ℕ) (e g : Env) : Type 0 where
    pub later : IsLater own v z t e g
    pub own_turn : own v ≡ true
    pub names : MadeNames own name
    pub dims : OwnDims own p.dims
    pub once : AreOnce v p.dims
    -- the single text's places are those of its box
    pub places : results_of e (slow_at_places (begins p)) ≡ map (place_number e) p.dims
    pub slow_then : e.home p.memref ≡ Some (SlowMemref order first)
    pub slow_now : g.home p.memref ≡ Some (SlowMemref order first)
    pub fast_then : e.home (fast_name p.name) ≡ Some (FastMemref a)
    pub fast_now : g.home (fast_name p.name) ≡ Some (FastMemref b)
    pub tag_now : g.home (tag_name p.name) ≡ Some (TagMemref k)
    -- count, stride and chunk are the same numbers, and none of the places' names
    pub count : IsBeside name e g (count_name p.name)
    pub chunks : AreBeside name e g stride

  -- the statements that say where the box is then, and the start into the place of that turn
  abbrev pub ahead_text : Nest → Nest
  ahead_text rest =
      let ds = dims_later v z p.dims in
      let bs = begins_from name 0 ds in
      places_from name 0 ds
      (Does 0 (Start p.memref (slow_at_places bs) (fast_name p.name) (at_place buffers v lower upper (pos s) z (fast_at_zeros bs)) (tag_name p.name) (at_place buffers v lower upper (pos s) z tag_at_zero)
      (count_name p.name) stride (slow_type p ∷ ring_type buffers v lower upper (pos s) p ∷ ring_tags buffers v lower upper (pos s) ∷ [])) rest)

  abbrev pub start_then : Plain
  start_then = Start p.memref (slow_at_places (begins p)) (fast_name p.name) (fast_at_zeros (begins p)) (tag_name p.name) tag_at_zero (count_name p.name) stride (slow_type p ∷ fast_type p ∷ tag_type ∷ [])

-- a start ahead starts the transfer of the single text's start in that turn, with that turn's tag and half
abbrev pub StartsAhead : Type 0
StartsAhead = (own : Name → Bool) (buffers : ℕ) (v : Name) (lower upper : Bound) (s : ℕ) (z t : ℤ) (p : Placement) (stride : Option (Name × Name)) (name : ℕ → Name)
    → (order first a b k : ℕ) (e g : Env) (u : Transfer) (rest : Nest) → 1 ≤ buffers
    → IsAhead own buffers v lower upper s z t p stride name order first a b k e g
    → action_of (start_then own buffers v lower upper s z t p stride name) e ≡ Starts u
    → (h : Env) × IsBehindPlaces name g h × (actions (ahead_text own buffers v lower upper s z t p stride name rest) g
    ≡ replicate (places_count name (dims_later v z p.dims)) Known
    ++ Starts (with_place u (k + ring_place (t +ℤ z) s buffers) b (ring_place (t +ℤ z) s buffers)) ∷ actions rest h)

-- ---- the wait of a turn, and a start out of its half
-- a wait of the single text becomes one for the tag of the turn's place
abbrev pub WaitsInRing : Type 0
WaitsInRing = (e g : Env) (buffers : ℕ) (v m n : Name) (lower upper : Bound) (s : ℕ) (t : ℤ) (a k tag count : ℕ) → 1 ≤ buffers → g.known v ≡ Some t
    → g.home m ≡ Some (TagMemref k) → number (g.known n) ≡ number (e.known n)
    → action_of (Wait m tag_at_zero n tag_type) e ≡ Waits tag count
    → action_of (Wait m (at_place buffers v lower upper (pos s) (pos 0) tag_at_zero) n (ring_tags buffers v lower upper (pos s))) g ≡ Waits (k + ring_place t s buffers) count

-- a start out of the fast memref becomes one out of the half of the turn's place, with that place's tag
abbrev pub LeavesInRing : Type 0
LeavesInRing = (e g : Env) (buffers : ℕ) (v : Name) (lower upper : Bound) (s : ℕ) (t : ℤ) (p : Placement) (stride : Option (Name × Name)) (from to : Access) (zs : List ℤ) (order first a b k : ℕ) (u : Transfer)
    → 1 ≤ buffers → map_fits from ≡ true → g.known v ≡ Some t
    → e.home p.memref ≡ Some (SlowMemref order first) → g.home p.memref ≡ Some (SlowMemref order first)
    → e.home (fast_name p.name) ≡ Some (FastMemref a) → g.home (fast_name p.name) ≡ Some (FastMemref b) → g.home (tag_name p.name) ≡ Some (TagMemref k)
    → results_of e from ≡ pos 0 ∷ zs → results_of g from ≡ pos 0 ∷ zs → results_of g to ≡ results_of e to
    → layout_of g (count_name p.name) stride ≡ layout_of e (count_name p.name) stride
    → action_of (Start (fast_name p.name) from p.memref to (tag_name p.name) tag_at_zero (count_name p.name) stride (fast_type p ∷ slow_type p ∷ tag_type ∷ [])) e ≡ Starts u
    → action_of (Start (fast_name p.name) (at_place buffers v lower upper (pos s) (pos 0) from) p.memref to (tag_name p.name) (at_place buffers v lower upper (pos s) (pos 0) tag_at_zero) (count_name p.name) stride (ring_type buffers v lower upper (pos s) p ∷ slow_type p ∷ ring_tags buffers v lower upper (pos s) ∷ [])) g
    ≡ Starts (with_place u (k + ring_place t s buffers) b (ring_place t s buffers))
