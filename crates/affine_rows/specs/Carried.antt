-- Whether a transfer may be started with tag 0 on a bus where nothing else is started: a test that computes where `slow_place` is unfolded.
use Rattle.std.specs.Prelude.{ℕ, ◌+◌, ◌%◌, Bool, ◌&&◌, nat_eq, nat_le, nat_lt}
use Rattle.std.specs.List.{list_all, range_with_len}
use Rattle.bus_model.specs.declared.transfer.Transfer.{Transfer}
use Rattle.bus_model.specs.Places.{slow_place}

-- so many slow words, the transfer, and the number of cells
abbrev pub may_carry : ℕ → Transfer → ℕ → Bool
may_carry words t cells =
    nat_eq t.tag 0 && nat_le 1 t.count && nat_eq (t.count % t.chunk) 0 && nat_le 1 t.chunk && nat_le t.chunk t.stride
    && list_all (λ e. nat_lt (slow_place t e) words) (range_with_len 0 t.count) && nat_le (t.offset + t.count) cells
