-- Limits, as on the operands of an expression. A limit is asked of the tokens of a given text, and never
-- of those with which a viable prefix might go on: a prefix stays viable when it has come to a limit,
-- though each text that goes on from there would pass it. So each token carries a mark, the tokens of a
-- given text are all marked, and a limit is asked of marked tokens alone.
use Rattle.std.specs.Prelude.{Bool, true, false, ◌&&◌, if◌then◌else◌, List, map, Option, None}

pub record Marked (T : Type 0) : Type 0 where
  pub token : T
  pub counted : Bool

-- a token of a given text
abbrev pub counted : {T : Type 0} → T → Marked T
counted t = record { token = t; counted = true }

-- a token of which no limit is asked
abbrev pub free : {T : Type 0} → T → Marked T
free t = record { token = t; counted = false }

-- the tokens of a given text
abbrev pub all_counted : {T : Type 0} → List T → List (Marked T)
all_counted ts = map counted ts

-- a token that stands nowhere where the limit is reached, `full`, and it is counted
abbrev pub limited : {T A : Type 0} → Bool → (Marked T → Option A) → Marked T → Option A
limited full p t = if full && t.counted then None else p t
