-- How often a source or a sink failed, and when it may answer that it failed.
use Rattle.std.specs.Prelude.{◌≡◌, ◌⊎◌, ℕ, ◌+◌, ◌-◌, ◌^◌, ◌<◌, ◌≤◌, min, OnErr, Result}

-- the last value of a counter of 64 bits
abbrev pub last_count : ℕ
last_count = 2 ^ 64 - 1

-- a counter one further, which stays at its last value
abbrev pub next_count : ℕ → ℕ
next_count count = min (count + 1) last_count

-- the count of faults rose: it is greater than it was, or it stands at the last value of a counter,
-- where no rise can be seen
abbrev pub Rose : ℕ → ℕ → Type 0
Rose before now = (before < now) ⊎ (now ≡ last_count)

-- a call has a cause for its answer: the count of faults never falls, and the call fails only where
-- the count rose
pub record HasCause {T E : Type 0} (before now : ℕ) (result : Result T E) : Type 0 where
  pub later : before ≤ now
  pub failed : OnErr result (Rose before now)
