-- The names that templates make: each placement of a plan, by its number, has as many as it takes, by their slots. No name of a text is
-- one of them, since those aren't made.
use Rattle.std.specs.Prelude.{ℕ, suc, ◌+◌, ◌-◌, ◌*◌, ◌/◌, ◌%◌, true, List, [], ◌∷◌, slice_index_or, if◌then◌else◌}
use Rattle.affine_ast.specs.declared.name.Name.{Name}

-- the slot, and the number from its least digit on, to the base 64
abbrev pub made_text : ℕ → ℕ → List ℕ
made_text number slot = (65 + slot) ∷ (48 + number % 64) ∷ (48 + (number / 64) % 64) ∷ (48 + (number / 64) / 64) ∷ []

abbrev pub made_name : ℕ → ℕ → Name
made_name number slot = record { text = made_text number slot; made = true }

-- the placement whose name it is, counted from 1; 0 for a name of a text
abbrev pub number_from : List ℕ → ℕ
number_from text = (slice_index_or text 1 48 - 48) + 64 * ((slice_index_or text 2 48 - 48) + 64 * (slice_index_or text 3 48 - 48))

abbrev pub made_by : Name → ℕ
made_by n = if n.made then suc (number_from n.text) else 0
