-- What an engine's exchanges met in a round over the tags.
use Rattle.std.specs.Prelude.{◌≡◌, ◌≢◌, ℕ, ◌<◌, ◌-◌, List, ◌++◌, length, Option, Some, None, slice_get}
use Rattle.tag_table.specs.declared.view.Work.{Work}
use Rattle.tag_table.specs.Shapes.{EngineShape}

-- one entry for each tag below n, in ascending order, none of them with the word for ready
abbrev pub Missed : ℕ → List (ℕ × ℕ) → Type 0
Missed n ms = (length ms ≡ n) × ((k : ℕ) → k < n → (word : ℕ) × (slice_get ms k ≡ Some (k, word)) × (word ≢ 1))

-- an engine's seat whose exchanges have met these tags and words besides
abbrev pub with_met : EngineShape → List (ℕ × ℕ) → EngineShape
with_met s ms = record { id = s.id; number = s.number; work = s.work; met = s.met ++ ms }

-- how many elements an engine still has to move
abbrev pub left_of : Option Work → ℕ
left_of None = 0
left_of (Some w) = w.transfer.count - w.moved
