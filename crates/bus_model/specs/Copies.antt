-- A transfer that is copied at its start: all its elements at once, in its direction.
use Rattle.std.specs.Prelude.{ℕ, ℤ, pos, ◌+◌, List, fold, slice_index_or, slice_set}
use Rattle.std.specs.List.{range_with_len}
use Rattle.bus_model.specs.declared.transfer.Transfer.{Transfer}
use Rattle.bus_model.specs.Places.{slow_place}

-- the number at a place of a list, 0 past its end
abbrev pub number_at : List ℤ → ℕ → ℤ
number_at l i = slice_index_or l i (pos 0)

-- the first k elements from slow places into the half's cells
abbrev pub first_in : Transfer → List ℤ → ℕ → List ℤ → List ℤ
first_in t slow k cells = fold (λ cells e. slice_set cells (t.offset + e) (number_at slow (slow_place t e))) cells (range_with_len 0 k)

-- the first k elements from the half's cells to slow places
abbrev pub first_out : Transfer → List ℤ → ℕ → List ℤ → List ℤ
first_out t cells k slow = fold (λ slow e. slice_set slow (slow_place t e) (number_at cells (t.offset + e))) slow (range_with_len 0 k)

-- all elements in
abbrev pub moved_in : Transfer → List ℤ → List ℤ → List ℤ
moved_in t slow cells = first_in t slow t.count cells

-- all elements out
abbrev pub moved_out : Transfer → List ℤ → List ℤ → List ℤ
moved_out t cells slow = first_out t cells t.count slow
