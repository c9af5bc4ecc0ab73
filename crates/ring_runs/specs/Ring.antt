-- A loop whose transfers go round a ring of buffers: `places` of them, for `count` turns numbered from 0.
use Rattle.std.specs.Prelude.{◌≡◌, ℕ, zero, suc, ◌+◌, ◌-◌, ◌<◌, ◌≤◌, Bool, true, false, ◌&&◌, ◌||◌, List, [], ◌++◌, nat_eq, nat_lt, nat_le, if◌then◌else◌}
use Rattle.bus_model.specs.declared.transfer.Transfer.{Transfer}
use Rattle.step_runs.specs.Stage.{Stage}
use Rattle.step_runs.specs.Steps.{Step, behind, Goes, AvoidsAll}

-- no transfer of the second run's own
abbrev pub none_out : ℕ → ℕ → Bool
none_out i j = false

-- placements of the two kinds, by number; B
module _ (inward outward : ℕ → Bool) (places : ℕ) where
  -- which transfers are under way at the head of turn k, where those of the turns below e have been started: of an inward
  -- placement those from this turn on, of an outward one those of as many turns before as there are places
  abbrev pub window : ℕ → ℕ → ℕ → ℕ → Bool
  window k e i j = (inward i && (nat_le k j && nat_lt j e)) || (outward i && (nat_lt j k && nat_le k (j + places)))

  -- those that turn k waits for, those that it leaves, and those that are under way all through it
  abbrev pub entry : ℕ → ℕ → ℕ → Bool
  entry k i j = (inward i && nat_eq k j) || (outward i && nat_eq k (j + places))

  abbrev pub leave : ℕ → ℕ → ℕ → Bool
  leave k i j = outward i && nat_eq k j

  abbrev pub further : ℕ → ℕ → ℕ → ℕ → Bool
  further k e i j = (inward i && (nat_lt k j && nat_lt j e)) || (outward i && (nat_lt j k && nat_lt k (j + places)))

  -- those of turn j that are started ahead
  abbrev pub news : ℕ → ℕ → ℕ → Bool
  news k i j = inward i && nat_eq k j

-- the steps of a loop: those that start the transfers of a turn, and those of a turn
module _ (ahead turn : ℕ → List Step) (lead : ℕ) where
  -- the starts of r turns from k on
  abbrev pub prologue : ℕ → ℕ → List Step
  prologue zero k = []
  prologue (suc r) k = ahead k ++ prologue r (suc k)

  -- r turns from k on, each with the starts of the turn that is `lead` later
  abbrev pub main_loop : ℕ → ℕ → List Step
  main_loop zero k = []
  main_loop (suc r) k = ahead (k + lead) ++ (turn k ++ main_loop r (suc k))

  abbrev pub epilogue : ℕ → ℕ → List Step
  epilogue zero k = []
  epilogue (suc r) k = turn k ++ epilogue r (suc k)

  -- all of it, for so many turns: the prologue has the first `lead` turns, the main loop all but the last `lead`
  abbrev pub ring_loop : ℕ → List Step
  ring_loop count = if nat_le lead count
      then prologue lead 0 ++ (main_loop (count - lead) 0 ++ epilogue lead (count - lead))
      else prologue count 0 ++ epilogue count 0

module _ (large : ℕ) (ring : ℕ → ℕ → Transfer) (inward outward : ℕ → Bool) (lead count : ℕ) (base : ℕ → Stage) (ahead turn : ℕ → List Step) where
  abbrev places : ℕ
  places = suc lead

  -- the stage at the head of turn k, with these transfers under way
  abbrev pub at : ℕ → (ℕ → ℕ → Bool) → Stage
  at k out = record (base k) { out = out }

  -- what a turn and the starts of a turn have to keep, each by itself
  pub record IsRing : Type 0 where
    -- a turn goes, with nothing under way but what it waits for, from its stage to the next one's
    pub turns : (k : ℕ) → k < count → Goes large ring (turn k) (at k (entry inward outward places k))
    pub leads : (k : ℕ) → k < count → behind (turn k) (at k (entry inward outward places k)) ≡ at (suc k) (leave inward outward places k)
    -- no clash: a turn avoids the transfers of the turns after it that are in the ring, and those that left in the turns before
    pub calm_in : (k i j : ℕ) → k < count → inward i ≡ true → k < j → j < k + places → j < count → AvoidsAll large ring (turn k) (at k (entry inward outward places k)) (ring i j)
    pub calm_out : (k i j : ℕ) → k < count → outward i ≡ true → j < k → k < j + places → AvoidsAll large ring (turn k) (at k (entry inward outward places k)) (ring i j)
    -- the starts of turn j go, from the head of each turn from which they may be made, and avoid what is under way
    pub starts : (k j : ℕ) → k ≤ j → j < k + places → j < count → Goes large ring (ahead j) (at k none_out)
    pub started : (k j : ℕ) → k ≤ j → j < k + places → j < count → behind (ahead j) (at k none_out) ≡ at k (news inward outward places j)
    pub quiet_in : (k j i h : ℕ) → k ≤ j → j < k + places → j < count → inward i ≡ true → k ≤ h → h < j → AvoidsAll large ring (ahead j) (at k none_out) (ring i h)
    pub quiet_out : (k j i h : ℕ) → k ≤ j → j < k + places → j < count → outward i ≡ true → h < k → k ≤ h + places → AvoidsAll large ring (ahead j) (at k none_out) (ring i h)
