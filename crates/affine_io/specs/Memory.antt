-- What the source and the sink in memory hold, and what their next call does.
use Rattle.std.specs.Prelude.{◌≡◌, ◌⊎◌, ℕ, ◌-◌, ◌<◌, min, List, length, Contains}
use Rattle.affine_io.specs.Faults.{next_count}

-- a source in memory: the bytes that are left, how many calls it had, how many of them failed, the
-- numbers of the calls that fail (the first call has number 1), and how many bytes a call gives at most
pub record SourceState : Type 0 where
  pub left : List ℕ
  pub calls : ℕ
  pub faults : ℕ
  pub fails : List ℕ
  pub most : ℕ

-- a sink in memory: the bytes that it took, how many it can take in all, and the rest as for a
-- source
pub record SinkState : Type 0 where
  pub bytes : List ℕ
  pub room : ℕ
  pub calls : ℕ
  pub faults : ℕ
  pub fails : List ℕ
  pub most : ℕ

-- the next read is one of those that fail
abbrev pub IsReadRefused : SourceState → Type 0
IsReadRefused source = Contains source.fails (next_count source.calls)

-- how many bytes a read that doesn't fail gives into a slice of this length
abbrev pub given_count : SourceState → ℕ → ℕ
given_count source room = min (min source.most room) (length source.left)

-- how many more bytes the sink can take
abbrev pub room_left : SinkState → ℕ
room_left sink = sink.room - length sink.bytes

-- the next write is one of those that fail, or its piece has bytes and finds no room
abbrev pub IsWriteRefused : SinkState → List ℕ → Type 0
IsWriteRefused sink piece =
    Contains sink.fails (next_count sink.calls) ⊎ ((room_left sink ≡ 0) × (0 < length piece))

-- how many bytes of a piece a write that doesn't fail takes
abbrev pub taken_count : SinkState → List ℕ → ℕ
taken_count sink piece = min (min sink.most (length piece)) (room_left sink)
