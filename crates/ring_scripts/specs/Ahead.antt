-- The starts ahead of all inward placements of a loop are the steps of a ring's starts.
use Rattle.std.specs.Prelude.{◌≡◌, ℕ, zero, suc, ◌+◌, ◌≤◌, ℤ, pos, ◌+ℤ◌, Bool, true, false, List, [], ◌∷◌, ◌++◌, length, Option, Some, None}
use Rattle.affine_ast.specs.declared.name.Name.{Name}
use Rattle.affine_ast.specs.declared.types.Bound.{Bound}
use Rattle.affine_ast.specs.Nest.{Nest}
use Rattle.bus_model.specs.declared.transfer.Transfer.{Transfer}
use Rattle.direct_meaning.specs.Action.{Starts}
use Rattle.direct_meaning.specs.Static.{Env}
use Rattle.direct_meaning.specs.Actions.{action_of, actions}
use Rattle.placement_texts.specs.Template.{Placement, count_name, places_count}
use Rattle.step_runs.specs.Steps.{second_list}
use Rattle.ring_runs.specs.Facts.{starts_of}
use Rattle.ring_runs.specs.Places.{ring_place}
use Rattle.ring_plans.specs.Rings.{later_names, started, stride_names}
use Rattle.ring_scripts.specs.Starts.{IsAhead, start_then, with_place}

-- which of the placements are inward, and behind how many statements that make places known each one's start stands
abbrev pub inward_at : List Placement → ℕ → Bool
inward_at [] i = false
inward_at (p ∷ ps) zero = p.reads
inward_at (p ∷ ps) (suc i) = inward_at ps i

abbrev pub pads_at : List Placement → ℕ → ℕ → ℕ
pads_at [] i j = 0
pads_at (p ∷ ps) zero j = places_count p.name p.dims
pads_at (p ∷ ps) (suc i) j = pads_at ps i j

module _ (own kept : Name → Bool) (buffers : ℕ) (v : Name) (lower upper : Bound) (s : ℕ) (z t : ℤ) (change : Name → Name) (ring : ℕ → ℕ → Transfer) (j : ℕ) where
  abbrev pub AreKept : Option (Name × Name) → Type 0
  AreKept None = Unit {0}
  AreKept (Some two) = (kept two.0 ≡ true) × (kept two.1 ≡ true)

  -- the names of a start's places
  abbrev pub names_ahead : Placement → ℕ → Name
  names_ahead p = λ n. change (later_names p.name n)

  abbrev pub stride_ahead : Placement → Option (Name × Name)
  stride_ahead p = stride_names buffers v lower upper (pos s) p p.how

  -- placement i stands ready: the ring's transfer is that of the single text's start in the turn that is z later, with its tag and half;
  -- names of counts, strides and chunks are kept, and none of the places'
  pub record StartsThere (i : ℕ) (p : Placement) (g : Env) : Type 0 where
    pub order : ℕ
    pub first : ℕ
    pub single : ℕ
    pub number : ℕ
    pub first_tag : ℕ
    pub then_env : Env
    pub brings : Transfer
    pub ahead : IsAhead own buffers v lower upper s z t p (stride_ahead p) (names_ahead p) order first single number first_tag then_env g
    pub start : action_of (start_then own buffers v lower upper s z t p (stride_ahead p) (names_ahead p)) then_env ≡ Starts brings
    pub is : ring i j ≡ with_place brings (first_tag + ring_place (t +ℤ z) s buffers) number (ring_place (t +ℤ z) s buffers)
    pub count_kept : kept (count_name p.name) ≡ true
    pub chunks_kept : AreKept (stride_ahead p)
    pub places_apart : (n : ℕ) → 7 ≤ n → kept (names_ahead p n) ≡ false

  -- from number i on
  abbrev pub AllStart : ℕ → List Placement → Env → Type 0
  AllStart i [] g = Unit {0}
  AllStart i (p ∷ ps) g = (p.reads ≡ true → StartsThere i p g) × AllStart (suc i) ps g

  -- behind them memrefs stay, and so do the text's names and those that are kept
  pub record IsPast (g h : Env) : Type 0 where
    pub home : h.home ≡ g.home
    pub fasts : h.fasts ≡ g.fasts
    pub tags : h.tags ≡ g.tags
    pub own_known : (n : Name) → own n ≡ true → h.known n ≡ g.known n
    pub kept_known : (n : Name) → kept n ≡ true → h.known n ≡ g.known n

-- the text of the starts does what the second run does in the steps of a ring's starts of that turn, and then what follows
abbrev pub StartsAreSteps : Type 0
StartsAreSteps = (own kept : Name → Bool) (buffers : ℕ) (v : Name) (lower upper : Bound) (s : ℕ) (z t : ℤ) (change : Name → Name) (ring : ℕ → ℕ → Transfer) (j : ℕ) (ps : List Placement) (g : Env) (rest : Nest) → 1 ≤ buffers
    → AllStart own kept buffers v lower upper s z t change ring j 0 ps g
    → (h : Env) × IsPast own kept buffers v lower upper s z t change ring j g h
    × (actions (started buffers v lower upper (pos s) change z ps rest) g ≡ second_list ring (starts_of (inward_at ps) (pads_at ps) (length ps) j) ++ actions rest h)
