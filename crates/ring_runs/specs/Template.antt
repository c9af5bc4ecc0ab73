-- The parts of a turn round the loop that works on a placement: what opens it, what copies it out, what closes it.
use Rattle.std.specs.Prelude.{◌≡◌, ◌≢◌, ℕ, zero, suc, ◌+◌, ◌<◌, ◌≤◌, Bool, true, false, List, [], ◌∷◌, ◌++◌, None, nat_le, if◌then◌else◌, ◌-◌}
use Rattle.affine_ast.specs.declared.types.Element.{Element}
use Rattle.bus_model.specs.declared.transfer.Transfer.{Transfer}
use Rattle.bus_model.specs.Places.{slow_place}
use Rattle.direct_meaning.specs.Actions.{half_cells}
use Rattle.direct_meaning.specs.Action.{Place, Slow, Fast, Known, Allocates, Releases, AllocatesTags, ReleasesTags, Starts, Waits}
use Rattle.step_runs.specs.Stage.{Stage, place_in, image, fast_end}
use Rattle.step_runs.specs.Steps.{Step, Both, Alone, Joins, Late, AvoidsStart}
use Rattle.ring_runs.specs.Facts.{IsPlaced}

-- statements of the first run alone that make numbers known
abbrev pub own_knowns : ℕ → List Step
own_knowns zero = []
own_knowns (suc n) = Alone Known ∷ own_knowns n

-- the first run allocates a memref and its tag, starts its transfer and waits for it; the second waits for its own
abbrev pub opened : ℕ → ℕ → Transfer → Element → List ℕ → ℕ → List Step
opened i k t element sizes pads = own_knowns pads ++ Alone (Allocates t.fast element sizes) ∷ Alone (AllocatesTags t.tag 1) ∷ Joins i k t ∷ []

-- what opens a placement: which it is, its transfer in the first run, its memref, and how many numbers are made known
pub record Opening : Type 0 where
  pub index : ℕ
  pub brings : Transfer
  pub element : Element
  pub sizes : List ℕ
  pub pads : ℕ

-- both copy it out and wait
abbrev pub written : Stage → Transfer → List Step
written s w = Both (Starts w) (Starts (image s w)) ∷ Both (Waits w.tag w.count) (Waits (s.tag w.tag) w.count) ∷ []

-- the first run releases them
abbrev pub closed : Transfer → Element → List ℕ → List Step
closed t element sizes = Alone (Releases t.fast element sizes) ∷ Alone (ReleasesTags t.tag 1) ∷ []

-- of an outward placement the first run allocates a memref and its tag, and the second waits for the transfer that left as
-- many turns before as there are places in the ring
abbrev pub opened_out : ℕ → ℕ → ℕ → Transfer → Element → List ℕ → ℕ → List Step
opened_out places i k w element sizes pads =
    own_knowns pads ++ Alone (Allocates w.fast element sizes) ∷ Alone (AllocatesTags w.tag 1) ∷ (if nat_le places k then Late i (k - places) ∷ [] else [])

module _ (large : ℕ) (ring : ℕ → ℕ → Transfer) (inward outward : ℕ → Bool) (lead count : ℕ) (base : ℕ → Stage) (number place : ℕ → ℕ) where
  -- a placement can be opened in turn k, where it has the transfer t in the first run and fast memory of such sizes
  pub record CanOpen (s : Stage) (i k : ℕ) (t : Transfer) (sizes : List ℕ) : Type 0 where
    -- its transfer is under way, and of each placement only that of this turn or of none
    pub out : s.out i k ≡ true
    pub outs : (a b : ℕ) → s.out a b ≡ true → IsPlaced large ring inward outward lead count base a × (a ≡ i → b ≡ k)
    pub idle : s.first ≡ []
    -- the second run's transfer is the first one's but for tag, memref and half
    pub incoming : t.incoming ≡ true
    pub like : ring i k ≡ record t { tag = (ring i k).tag; fast = (ring i k).fast; half = (ring i k).half }
    pub half_is : t.half ≡ 0
    pub fits : (e : ℕ) → e < t.count → t.offset + e < half_cells sizes
    -- the second run has the memref's half at the turn's place in the ring
    pub half : s.half t.fast 0 ≡ record { number = number i; half = place k }
    -- the slow places are the same in both
    pub lives : (e : ℕ) → e < t.count → s.lives (slow_place t e) ≡ None
    pub agrees : (e : ℕ) → e < t.count → s.agrees (Slow (slow_place t e)) ≡ true
    -- the place in the ring has room, nothing else is there, and the memref isn't there yet
    pub made : (c : ℕ) → c < half_cells sizes → s.made (Fast (number i) (place k) c) ≡ true
    pub fresh : (q : Place) → s.there q ≡ true → (h c : ℕ) → q ≢ Fast t.fast h c
    pub free : (q : Place) → s.there q ≡ true → (c : ℕ) → place_in s q ≢ Fast (number i) (place k) c

  -- a placement whose cells all hold what they have to can be copied out
  pub record CanWrite (s : Stage) (w : Transfer) : Type 0 where
    pub outgoing : w.incoming ≡ false
    pub idle : s.first ≡ []
    pub some : 1 ≤ w.chunk
    pub wide : w.chunk ≤ w.stride
    pub agrees : (e : ℕ) → e < w.count → s.agrees (fast_end w e) ≡ true
    pub there : (e : ℕ) → e < w.count → s.there (Slow (slow_place w e)) ≡ true
    pub lives : (e : ℕ) → e < w.count → s.lives (slow_place w e) ≡ None
    pub avoids : (a b : ℕ) → s.out a b ≡ true → AvoidsStart large ring (image s w) (ring a b)

  -- an outward placement whose cells all hold what they have to can leave in turn k
  pub record CanDepart (s : Stage) (i k : ℕ) (w : Transfer) : Type 0 where
    pub free : s.out i k ≡ false
    pub outgoing : w.incoming ≡ false
    pub idle : s.first ≡ []
    pub like : ring i k ≡ record w { tag = (ring i k).tag; fast = (ring i k).fast; half = (ring i k).half }
    pub half : s.half w.fast w.half ≡ record { number = (ring i k).fast; half = (ring i k).half }
    pub some : 1 ≤ w.chunk
    pub wide : w.chunk ≤ w.stride
    pub agrees : (e : ℕ) → e < w.count → s.agrees (fast_end w e) ≡ true
    pub there : (e : ℕ) → e < w.count → s.there (Slow (slow_place w e)) ≡ true
    pub lives : (e : ℕ) → e < w.count → s.lives (slow_place w e) ≡ None
    pub avoids : (a b : ℕ) → s.out a b ≡ true → AvoidsStart large ring (ring i k) (ring a b)
