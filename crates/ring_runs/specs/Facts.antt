-- What the numbers of halves and tags have to keep, so that the starts ahead are allowed.
use Rattle.std.specs.Prelude.{◌≡◌, ◌≢◌, ◌⊎◌, ℕ, zero, suc, ◌+◌, ◌<◌, ◌≤◌, Bool, true, false, List, [], ◌∷◌, ◌++◌, if◌then◌else◌}
use Rattle.bus_model.specs.declared.transfer.Transfer.{Transfer}
use Rattle.direct_meaning.specs.Action.{Place, Fast, Known}
use Rattle.direct_meaning.specs.Transfers.{overlap}
use Rattle.step_runs.specs.Stage.{Stage, place_in, image, fast_end}
use Rattle.step_runs.specs.Steps.{Each, Step, Made, Ahead, Sound, AvoidsStart}

-- statements that only make numbers known
abbrev pub knowns : ℕ → List Step
knowns zero = []
knowns (suc n) = Made Known ∷ knowns n

-- the starts of turn j, of the placements below m in order, each behind so many statements that make its places known
abbrev pub starts_of : (ℕ → Bool) → (ℕ → ℕ → ℕ) → ℕ → ℕ → List Step
starts_of inward pads zero j = []
starts_of inward pads (suc i) j = starts_of inward pads i j ++ (if inward i then knowns (pads i j) ++ Ahead i j ∷ [] else [])

module _ (large : ℕ) (ring : ℕ → ℕ → Transfer) (inward outward : ℕ → Bool) (lead count : ℕ) (base : ℕ → Stage) where
  abbrev pub IsPlaced : ℕ → Type 0
  IsPlaced i = (inward i ≡ true) ⊎ (outward i ≡ true)

  pub record RingFacts (number first_tag place : ℕ → ℕ) : Type 0 where
    -- the transfer of placement i in turn j has the ring place of turn j in its memref, and the tag with the same number
    pub fast_is : (i j : ℕ) → IsPlaced i → (ring i j).fast ≡ number i
    pub half_is : (i j : ℕ) → IsPlaced i → (ring i j).half ≡ place j
    pub tag_is : (i j : ℕ) → IsPlaced i → (ring i j).tag ≡ first_tag i + place j
    pub incoming : (i j : ℕ) → inward i ≡ true → (ring i j).incoming ≡ true
    pub outgoing : (i j : ℕ) → outward i ≡ true → (ring i j).incoming ≡ false
    pub either : (i : ℕ) → inward i ≡ true → outward i ≡ true → ⊥
    -- the ring has so many places
    pub within : (j : ℕ) → place j < suc lead
    pub apart : (k j : ℕ) → k ≤ j → j < k + suc lead → place k ≡ place j → k ≡ j
    -- numbers of placements are apart
    pub numbers : (i a : ℕ) → IsPlaced i → IsPlaced a → number i ≡ number a → i ≡ a
    pub tags : (i a x y : ℕ) → IsPlaced i → IsPlaced a → x < suc lead → y < suc lead → first_tag i + x ≡ first_tag a + y → (i ≡ a) × (x ≡ y)
    -- a memref that is copied out isn't copied in
    pub parted : (i j a b : ℕ) → inward i ≡ true → outward a ≡ true → j < count → b < count → overlap (ring a b) (ring i j) ≡ false
    -- at the head of a turn the rings' memrefs are made, and nothing of the first run that agrees is seen in them
    pub made : (k i j e : ℕ) → inward i ≡ true → k ≤ j → j < k + suc lead → j < count → e < (ring i j).count → (base k).made (fast_end (ring i j) e) ≡ true
    pub free : (k i h c : ℕ) (q : Place) → IsPlaced i → (base k).agrees q ≡ true → place_in (base k) q ≢ Fast (number i) h c
    pub others : (k i j : ℕ) → inward i ≡ true → Each (λ f. AvoidsStart large ring (ring i j) (image (base k) f)) (base k).first
    pub sound : (k : ℕ) → Sound large ring (base k)
