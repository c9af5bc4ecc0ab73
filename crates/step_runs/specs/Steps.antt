-- Two runs in step with each other: what each does, where that leads, and when it is allowed.
use Rattle.std.specs.Prelude.{◌≡◌, ◌≢◌, ◌⊎◌, ℕ, ◌+◌, ◌-◌, ◌<◌, ◌≤◌, ℤ, Bool, true, false, ◌&&◌, ◌||◌, List, [], ◌∷◌, ◌++◌, Option, Some, None, is_none, nat_eq, nat_lt, nat_le, if◌then◌else◌}
use Rattle.bus_model.specs.declared.transfer.Transfer.{Transfer}
use Rattle.bus_model.specs.Places.{slow_place, meets}
use Rattle.direct_meaning.specs.Transfers.{overlap}
use Rattle.direct_meaning.specs.Static.{place_at}
use Rattle.direct_meaning.specs.Actions.{half_cells}
use Rattle.direct_meaning.specs.Action.{Home, SlowMemref, FastMemref, TagMemref, Place, Slow, Fast, Outside, Action, Known, Loads, Stores, RawLoads, RawStores, Allocates, Releases, AllocatesTags, ReleasesTags, Starts, Waits}
use Rattle.prompt_semantics.specs.Device.{bytes_of, without}
use Rattle.step_runs.specs.Stage.{Cell, Stage, same_place, place_in, image, source, target, is_target, slow_end, fast_end}

-- P of each member
abbrev pub Each : {X : Type 0} → (X → Type 0) → List X → Type 0
Each P [] = Unit {0}
Each P (x ∷ xs) = P x × Each P xs

-- two runs' actions that belong together
pub data Step : Type 0 where
  -- an action of both, the second one's with its places, halves and tags moved
  Both : Action → Action → Step
  -- an action of the first run alone, and of the second alone: of those that touch no memory that the other has
  Alone : Action → Step
  Made : Action → Step
  -- the second run starts a transfer of its own that copies in
  Ahead : ℕ → ℕ → Step
  -- the first run starts a transfer and waits for it; the second waits for its own one, which was started ahead
  Joins : ℕ → ℕ → Transfer → Step
  -- the first run starts a transfer that copies out and waits for it; the second starts its own one
  Leaves : ℕ → ℕ → Transfer → Step
  -- the second run waits for one that left
  Late : ℕ → ℕ → Step
  -- the second run copies in what from then on lives in fast memory, and waits; it copies out what lives there, and waits
  Brings : Transfer → (ℕ → Option Cell) → Step
  Takes : Transfer → Step
  -- from here on the places of both runs are seen as another stage has them; live bytes and transfers stay
  Becomes : Stage → Step

module _ (ring : ℕ → ℕ → Transfer) where
  -- the actions of each run
  abbrev pub first_of : Step → List Action
  first_of (Both a b) = a ∷ []
  first_of (Alone a) = a ∷ []
  first_of (Made a) = []
  first_of (Ahead i j) = []
  first_of (Joins i j t) = Starts t ∷ Waits t.tag t.count ∷ []
  first_of (Leaves i j t) = Starts t ∷ Waits t.tag t.count ∷ []
  first_of (Late i j) = []
  first_of (Brings t lives) = []
  first_of (Takes t) = []
  first_of (Becomes s) = []

  abbrev pub second_of : Step → List Action
  second_of (Both a b) = b ∷ []
  second_of (Alone a) = []
  second_of (Made a) = a ∷ []
  second_of (Ahead i j) = Starts (ring i j) ∷ []
  second_of (Joins i j t) = Waits (ring i j).tag (ring i j).count ∷ []
  second_of (Leaves i j t) = Starts (ring i j) ∷ []
  second_of (Late i j) = Waits (ring i j).tag (ring i j).count ∷ []
  second_of (Brings t lives) = Starts t ∷ Waits t.tag t.count ∷ []
  second_of (Takes t) = Starts t ∷ Waits t.tag t.count ∷ []
  second_of (Becomes s) = []

  abbrev pub first_list : List Step → List Action
  first_list [] = []
  first_list (x ∷ xs) = first_of x ++ first_list xs

  abbrev pub second_list : List Step → List Action
  second_list [] = []
  second_list (x ∷ xs) = second_of x ++ second_list xs

-- one transfer more, or less, of the second run's own
abbrev pub with_out : ℕ → ℕ → (ℕ → ℕ → Bool) → ℕ → ℕ → Bool
with_out i j out a b = if nat_eq i a && nat_eq j b then true else out a b

abbrev pub less_out : ℕ → ℕ → (ℕ → ℕ → Bool) → ℕ → ℕ → Bool
less_out i j out a b = if nat_eq i a && nat_eq j b then false else out a b

-- the cells of all halves, and of the first half, of a memref with such sizes
abbrev pub cells_of : ℕ → List ℕ → Place → Bool
cells_of number sizes (Fast n h c) = nat_eq number n && nat_lt c (half_cells sizes)
cells_of number sizes (Slow p) = false
cells_of number sizes Outside = false

abbrev pub first_half : ℕ → List ℕ → Place → Bool
first_half number sizes (Fast n h c) = nat_eq number n && (nat_eq 0 h && nat_lt c (half_cells sizes))
first_half number sizes (Slow p) = false
first_half number sizes Outside = false

-- where an action of both leads
abbrev pub after_both : Action → Stage → Stage
after_both (Stores x q) s = record s {
  agrees = λ p. s.agrees p || (same_place q p && s.there p);
  fresh = λ p. s.fresh p && (if same_place q (Slow p) then is_none (s.lives p) else true);
}
after_both (Starts t) s = record s { agrees = λ p. s.agrees p || is_target t p; first = s.first ++ t ∷ [] }
after_both (Waits tag count) s = record s { first = without tag s.first }
after_both (Allocates n element sizes) s = record s {
  there = λ p. s.there p || cells_of n sizes p;
  agrees = λ p. s.agrees p || cells_of n sizes p;
  live = s.live + bytes_of element sizes;
}
after_both (Releases n element sizes) s = record s { live = s.live - bytes_of element sizes }
after_both a s = s

-- where an action of one run alone leads
abbrev pub after_alone : Action → Stage → Stage
after_alone (Allocates n element sizes) s = record s { there = λ p. s.there p || first_half n sizes p }
after_alone a s = s

abbrev pub after_made : Action → Stage → Stage
after_made (Allocates n element sizes) s = record s { made = λ p. s.made p || cells_of n sizes p; live = s.live + bytes_of element sizes }
after_made (Releases n element sizes) s = record s { live = s.live - bytes_of element sizes }
after_made a s = s

abbrev pub next : Step → Stage → Stage
next (Both a b) s = after_both a s
next (Alone a) s = after_alone a s
next (Made a) s = after_made a s
next (Ahead i j) s = record s { out = with_out i j s.out }
next (Joins i j t) s = record s { agrees = λ p. s.agrees p || is_target t p; out = less_out i j s.out }
next (Leaves i j t) s = record s { out = with_out i j s.out }
next (Late i j) s = record s { out = less_out i j s.out }
next (Brings t lives) s = record s { lives = lives }
next (Takes t) s = record s { fresh = λ p. s.fresh p || meets t p }
next (Becomes s') s = record s' { live = s.live; first = s.first; out = s.out }

abbrev pub behind : List Step → Stage → Stage
behind [] s = s
behind (x ∷ xs) s = behind xs (next x s)

-- ---- what is allowed
abbrev pub home_in : Stage → Option Home → Option Home
home_in s (Some (FastMemref n)) = Some (FastMemref (s.fast n))
home_in s (Some (SlowMemref m f)) = Some (SlowMemref m f)
home_in s (Some (TagMemref f)) = Some (TagMemref f)
home_in s None = None

-- the second run's action for one of both
abbrev pub moved : Stage → Action → Action
moved s (Loads r q) = Loads r (place_in s q)
moved s (Stores x q) = Stores x (place_in s q)
moved s (RawLoads r home sizes subscripts) = RawLoads r (home_in s home) sizes subscripts
moved s (RawStores x home sizes subscripts) = RawStores x (home_in s home) sizes subscripts
moved s (Allocates n element sizes) = Allocates (s.fast n) element sizes
moved s (Releases n element sizes) = Releases (s.fast n) element sizes
moved s (AllocatesTags first count) = AllocatesTags (s.tag first) count
moved s (ReleasesTags first count) = ReleasesTags (s.tag first) count
moved s (Starts t) = Starts (image s t)
moved s (Waits tag count) = Waits (s.tag tag) count
moved s a = a

-- the tests of a load, a store and a start against one outstanding transfer
abbrev pub load_meets : Place → Transfer → Bool
load_meets (Slow p) o = if o.incoming then false else meets o p
load_meets (Fast n h c) o = nat_eq o.fast n && nat_eq o.half h
load_meets Outside o = false

abbrev pub store_meets : Place → Transfer → Bool
store_meets (Slow p) o = meets o p
store_meets (Fast n h c) o = nat_eq o.fast n && nat_eq o.half h
store_meets Outside o = false

abbrev pub tag_meets : Transfer → Transfer → Bool
tag_meets t o = nat_eq o.tag t.tag

abbrev pub half_meets : Transfer → Transfer → Bool
half_meets t o = nat_eq o.fast t.fast && nat_eq o.half t.half

abbrev pub race_meets : Transfer → Transfer → Bool
race_meets t o = if t.incoming then (if o.incoming then false else overlap o t) else overlap o t

module _ (capacity : ℕ) (ring : ℕ → ℕ → Transfer) where
  -- no outstanding transfer of the second run meets a test
  pub record Clear (s : Stage) (test : Transfer → Bool) : Type 0 where
    pub own : (i j : ℕ) → s.out i j ≡ true → test (ring i j) ≡ false
    pub moved : Each (λ f. test (image s f) ≡ false) s.first

  -- a stage is sound where places that are there are apart in the second run
  pub record Sound (s : Stage) : Type 0 where
    pub within : (q : Place) → s.agrees q ≡ true → s.there q ≡ true
    pub alone : (q p : Place) → s.there q ≡ true → s.there p ≡ true → place_in s q ≡ place_in s p → q ≡ p

  pub record CanLoad (s : Stage) (q : Place) : Type 0 where
    pub same : s.agrees q ≡ true
    pub clear : Clear s (load_meets (place_in s q))

  pub record CanStore (s : Stage) (q : Place) : Type 0 where
    pub there : s.there q ≡ true
    pub clear : Clear s (store_meets (place_in s q))

  abbrev pub MayLoad : Stage → Place → Type 0
  MayLoad s q = (q ≡ Outside) ⊎ CanLoad s q

  abbrev pub MayStore : Stage → Place → Type 0
  MayStore s q = (q ≡ Outside) ⊎ CanStore s q

  -- a start of both, or one that leaves: its ends are there, in the second run at the like transfer's
  pub record CanCopy (s : Stage) (t u : Transfer) : Type 0 where
    pub some : 1 ≤ t.chunk
    pub wide : t.chunk ≤ t.stride
    pub some' : 1 ≤ u.chunk
    pub wide' : u.chunk ≤ u.stride
    pub way : u.incoming ≡ t.incoming
    pub count : u.count ≡ t.count
    pub same : (e : ℕ) → e < t.count → s.agrees (source t e) ≡ true
    pub there : (e : ℕ) → e < t.count → s.there (target t e) ≡ true
    pub sources : (e : ℕ) → e < t.count → source u e ≡ place_in s (source t e)
    pub targets : (e : ℕ) → e < t.count → target u e ≡ place_in s (target t e)

  pub record CanStart (s : Stage) (u : Transfer) : Type 0 where
    pub tag : Clear s (tag_meets u)
    pub half : Clear s (half_meets u)
    pub race : Clear s (race_meets u)

  pub record CanJoin (s : Stage) (i j : ℕ) (t : Transfer) : Type 0 where
    pub out : s.out i j ≡ true
    pub incoming : (ring i j).incoming ≡ true
    pub incoming' : t.incoming ≡ true
    pub count : (ring i j).count ≡ t.count
    pub slow : (e : ℕ) → e < t.count → slow_place (ring i j) e ≡ slow_place t e
    pub lives : (e : ℕ) → e < t.count → s.lives (slow_place t e) ≡ None
    pub same : (e : ℕ) → e < t.count → s.agrees (Slow (slow_place t e)) ≡ true
    pub there : (e : ℕ) → e < t.count → s.there (fast_end t e) ≡ true
    pub targets : (e : ℕ) → e < t.count → fast_end (ring i j) e ≡ place_in s (fast_end t e)
    pub tags : (a b : ℕ) → s.out a b ≡ true → (ring a b).tag ≡ (ring i j).tag → (a ≡ i) × (b ≡ j)
    pub others : Each (λ (f : Transfer). s.tag f.tag ≢ (ring i j).tag) s.first

  pub record CanWait (s : Stage) (tag count : ℕ) : Type 0 where
    pub own : (i j : ℕ) → s.out i j ≡ true → (ring i j).tag ≢ s.tag tag
    pub others : Each (λ (f : Transfer). nat_eq f.tag tag ≡ nat_eq (s.tag f.tag) (s.tag tag)) s.first

  -- a stage from which no more is claimed than from another one: what agrees agreed at the same place, or is now seen in the
  -- second run's slow memory and is the same there
  pub record IsSeenFrom (s s' : Stage) : Type 0 where
    pub same : (q : Place) → s'.agrees q ≡ true → ((s.agrees q ≡ true) × (place_in s' q ≡ place_in s q)) ⊎ ((p : ℕ) × (q ≡ Slow p) × (s'.lives p ≡ None) × (s.fresh p ≡ true))
    pub there : (q : Place) → s'.there q ≡ true → (s.there q ≡ true) × ((place_in s' q ≡ place_in s q) ⊎ (s.made (place_in s' q) ≡ true))
    pub fresh : (p : ℕ) → s'.fresh p ≡ true → s.fresh p ≡ true
    pub made : (q : Place) → s'.made q ≡ true → s.made q ≡ true
    pub images : Each (λ f. image s' f ≡ image s f) s.first

  abbrev pub AllowedBoth : Action → Stage → Type 0
  AllowedBoth (Loads r q) s = MayLoad s q
  AllowedBoth (Stores x q) s = MayStore s q
  AllowedBoth (RawLoads r home sizes subscripts) s = (zs : List ℤ) → (place_at (home_in s home) sizes zs ≡ place_in s (place_at home sizes zs)) × MayLoad s (place_at home sizes zs)
  AllowedBoth (RawStores x home sizes subscripts) s = (zs : List ℤ) → (place_at (home_in s home) sizes zs ≡ place_in s (place_at home sizes zs)) × MayStore s (place_at home sizes zs) × ((p : ℕ) → place_at home sizes zs ≡ Slow p → s.lives p ≡ None)
  AllowedBoth (Starts t) s = CanCopy s t (image s t) × CanStart s (image s t)
  AllowedBoth (Waits tag count) s = CanWait s tag count
  AllowedBoth (Allocates n element sizes) s =
      (s.live + bytes_of element sizes ≤ capacity)
      × ((h : ℕ) → s.half n h ≡ record { number = s.fast n; half = h })
      × ((q : Place) → s.there q ≡ true → cells_of n sizes q ≡ false → (h c : ℕ) → place_in s q ≢ Fast (s.fast n) h c)
      × ((q : Place) → s.made q ≡ true → (h c : ℕ) → q ≢ Fast (s.fast n) h c)
      × ((i j : ℕ) → s.out i j ≡ true → (ring i j).incoming ≡ true → (ring i j).fast ≢ s.fast n)
  AllowedBoth (Releases n element sizes) s = Clear s (λ o. nat_eq o.fast (s.fast n))
  AllowedBoth (ReleasesTags first count) s = Clear s (λ o. nat_le (s.tag first) o.tag && nat_lt o.tag (s.tag first + count))
  AllowedBoth a s = Unit {0}

  -- of the first run alone: allocations and releases whose memref the second has elsewhere, and what changes nothing
  abbrev pub AllowedAlone : Action → Stage → Type 0
  AllowedAlone Known s = Unit {0}
  AllowedAlone (Allocates n element sizes) s =
      ((q : Place) → first_half n sizes q ≡ true → s.made (place_in s q) ≡ true)
      × ((q : Place) → s.there q ≡ true → (h c : ℕ) → q ≢ Fast n h c)
  AllowedAlone (Releases n element sizes) s = Unit {0}
  AllowedAlone (AllocatesTags first count) s = Unit {0}
  AllowedAlone (ReleasesTags first count) s = Unit {0}
  AllowedAlone a s = ⊥

  abbrev pub AllowedMade : Action → Stage → Type 0
  AllowedMade Known s = Unit {0}
  AllowedMade (Allocates n element sizes) s =
      (s.live + bytes_of element sizes ≤ capacity)
      × ((q : Place) → s.there q ≡ true → (h c : ℕ) → place_in s q ≢ Fast n h c)
      × ((q : Place) → s.made q ≡ true → (h c : ℕ) → q ≢ Fast n h c)
      × ((i j : ℕ) → s.out i j ≡ true → (ring i j).incoming ≡ true → (ring i j).fast ≢ n)
  AllowedMade (Releases n element sizes) s = Clear s (λ o. nat_eq o.fast n)
  AllowedMade (AllocatesTags first count) s = Unit {0}
  AllowedMade (ReleasesTags first count) s = Clear s (λ o. nat_le first o.tag && nat_lt o.tag (first + count))
  AllowedMade a s = ⊥

  pub record CanRunAhead (s : Stage) (i j : ℕ) : Type 0 where
    pub out : s.out i j ≡ false
    pub incoming : (ring i j).incoming ≡ true
    pub start : CanStart s (ring i j)
    pub made : (e : ℕ) → e < (ring i j).count → s.made (fast_end (ring i j) e) ≡ true
    pub apart : (q : Place) → s.agrees q ≡ true → (e : ℕ) → e < (ring i j).count → place_in s q ≢ fast_end (ring i j) e

  pub record CanLeave (s : Stage) (i j : ℕ) (t : Transfer) : Type 0 where
    pub out : s.out i j ≡ false
    pub outgoing : (ring i j).incoming ≡ false
    pub outgoing' : t.incoming ≡ false
    pub copy : CanCopy s t (ring i j)
    pub start : CanStart s (ring i j)

  pub record CanEnd (s : Stage) (i j : ℕ) : Type 0 where
    pub out : s.out i j ≡ true
    pub outgoing : (ring i j).incoming ≡ false
    pub tags : (a b : ℕ) → s.out a b ≡ true → (ring a b).tag ≡ (ring i j).tag → (a ≡ i) × (b ≡ j)
    pub others : Each (λ (f : Transfer). s.tag f.tag ≢ (ring i j).tag) s.first

  pub record CanBring (s : Stage) (t : Transfer) (lives : ℕ → Option Cell) : Type 0 where
    pub incoming : t.incoming ≡ true
    pub start : CanStart s t
    pub made : (e : ℕ) → e < t.count → s.made (fast_end t e) ≡ true
    pub apart : (q : Place) → s.agrees q ≡ true → (e : ℕ) → e < t.count → place_in s q ≢ fast_end t e
    -- its slow places lived in none, and now live in the cells to which they were copied; no others moved
    pub before : (e : ℕ) → e < t.count → s.lives (slow_place t e) ≡ None
    pub behind : (e : ℕ) → e < t.count → lives (slow_place t e) ≡ Some (record { number = t.fast; half = t.half; cell = t.offset + e })
    pub others : (p : ℕ) → meets t p ≡ false → lives p ≡ s.lives p

  pub record CanTake (s : Stage) (t : Transfer) : Type 0 where
    pub outgoing : t.incoming ≡ false
    pub some : 1 ≤ t.chunk
    pub wide : t.chunk ≤ t.stride
    pub start : CanStart s t
    pub made : (e : ℕ) → e < t.count → s.made (slow_end t e) ≡ true
    pub lives : (e : ℕ) → e < t.count → s.lives (slow_place t e) ≡ Some (record { number = t.fast; half = t.half; cell = t.offset + e })
    pub agrees : (e : ℕ) → e < t.count → s.agrees (slow_end t e) ≡ true

  abbrev pub Allowed : Step → Stage → Type 0
  Allowed (Both a b) s = (b ≡ moved s a) × AllowedBoth a s
  Allowed (Alone a) s = AllowedAlone a s
  Allowed (Made a) s = AllowedMade a s
  Allowed (Ahead i j) s = CanRunAhead s i j
  Allowed (Joins i j t) s = CanJoin s i j t
  Allowed (Leaves i j t) s = CanLeave s i j t
  Allowed (Late i j) s = CanEnd s i j
  Allowed (Brings t lives) s = CanBring s t lives
  Allowed (Takes t) s = CanTake s t
  Allowed (Becomes s') s = IsSeenFrom s s'

  -- ---- what a step has to do with a transfer of the second run's own that is under way all the time
  pub record AvoidsStart (u v : Transfer) : Type 0 where
    pub tag : tag_meets u v ≡ false
    pub half : half_meets u v ≡ false
    pub race : race_meets u v ≡ false

  abbrev pub AvoidsBoth : Action → Stage → Transfer → Type 0
  AvoidsBoth (Loads r q) s v = load_meets (place_in s q) v ≡ false
  AvoidsBoth (Stores x q) s v = store_meets (place_in s q) v ≡ false
  AvoidsBoth (RawLoads r home sizes subscripts) s v = (zs : List ℤ) → load_meets (place_in s (place_at home sizes zs)) v ≡ false
  AvoidsBoth (RawStores x home sizes subscripts) s v = (zs : List ℤ) → store_meets (place_in s (place_at home sizes zs)) v ≡ false
  AvoidsBoth (Starts t) s v = AvoidsStart (image s t) v
  AvoidsBoth (Waits tag count) s v = v.tag ≢ s.tag tag
  AvoidsBoth (Allocates n element sizes) s v = v.fast ≢ s.fast n
  AvoidsBoth (Releases n element sizes) s v = nat_eq v.fast (s.fast n) ≡ false
  AvoidsBoth (ReleasesTags first count) s v = (nat_le (s.tag first) v.tag && nat_lt v.tag (s.tag first + count)) ≡ false
  AvoidsBoth a s v = Unit {0}

  abbrev pub AvoidsMade : Action → Transfer → Type 0
  AvoidsMade (Allocates n element sizes) v = v.fast ≢ n
  AvoidsMade (Releases n element sizes) v = nat_eq v.fast n ≡ false
  AvoidsMade (ReleasesTags first count) v = (nat_le first v.tag && nat_lt v.tag (first + count)) ≡ false
  AvoidsMade a v = Unit {0}

  abbrev pub Avoids : Step → Stage → Transfer → Type 0
  Avoids (Both a b) s v = AvoidsBoth a s v
  Avoids (Alone a) s v = Unit {0}
  Avoids (Made a) s v = AvoidsMade a v
  Avoids (Ahead i j) s v = AvoidsStart (ring i j) v
  Avoids (Joins i j t) s v = v.tag ≢ (ring i j).tag
  Avoids (Leaves i j t) s v = AvoidsStart (ring i j) v
  Avoids (Late i j) s v = v.tag ≢ (ring i j).tag
  Avoids (Brings t lives) s v = AvoidsStart t v
  Avoids (Takes t) s v = AvoidsStart t v
  Avoids (Becomes s') s v = Unit {0}

  abbrev pub AvoidsAll : List Step → Stage → Transfer → Type 0
  AvoidsAll [] s v = Unit {0}
  AvoidsAll (x ∷ xs) s v = Avoids x s v × AvoidsAll xs (next x s) v

  -- each step is allowed where it is taken
  abbrev pub Goes : List Step → Stage → Type 0
  Goes [] s = Unit {0}
  Goes (x ∷ xs) s = Sound s × Allowed x s × Goes xs (next x s)
