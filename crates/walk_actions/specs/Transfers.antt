-- How the elements of a transfer lie.
use Rattle.std.specs.Prelude.{ℕ, ◌≤◌, ◌<◌, ◌^◌, max, Bool, Option, length}
use Rattle.bus_model.specs.declared.transfer.Transfer.{Transfer}
use Rattle.direct_meaning.specs.Action.{Home, Place}
use Rattle.direct_meaning.specs.Static.{place_of, tag_of}
use Rattle.direct_meaning.specs.Actions.{Layout}
use Rattle.valid_laws.specs.Safe.{SafePlace}
use Rattle.walk_program.specs.Names.{name_at}
use Rattle.walk_program.specs.Numbered.{Operands}
use Rattle.walk_actions.specs.Bindings.{Bindings}
use Rattle.walk_actions.specs.declared.transfers.Chunks.{Chunks}
use Rattle.walk_actions.specs.declared.transfers.End.{End}
use Rattle.walk_actions.specs.Looked.{env_of}
use Rattle.walk_actions.specs.Values.{use_of}

abbrev pub layout_meant : Chunks → Layout
layout_meant c = record { count = c.count; stride = c.stride; chunk = c.chunk }

-- at least one element, in chunks that don't overlap; a stride is within the limits, or is the count
pub record AreChunks (c : Chunks) : Type 0 where
  pub some : 1 ≤ c.count
  pub fits : c.count < 2 ^ 63
  pub least : 1 ≤ c.chunk
  pub apart : c.chunk ≤ c.stride
  pub most : c.stride ≤ max c.count 1048576

-- a transfer of this layout
abbrev pub transfer_at : Bool → ℕ → ℕ → ℕ → Chunks → ℕ → ℕ → ℕ → Transfer
transfer_at incoming tag memref base c fast half offset =
    record {
      incoming = incoming;
      tag = tag;
      memref = memref;
      base = base;
      stride = c.stride;
      chunk = c.chunk;
      count = c.count;
      fast = fast;
      half = half;
      offset = offset;
    }

-- an end that may be evaluated, with room for the operands of its subscripts
pub record IsEnd (s : Bindings) (room : ℕ) (end : End) : Type 0 where
  pub memref : end.memref < length s.names
  pub operands : Operands (length s.names) room end.at.now.operands
  pub safe : SafePlace (env_of s) (name_at s.names end.memref) (use_of s end.at.now) end.ty.now

abbrev pub home_at : Bindings → End → Option Home
home_at s end = (env_of s).home (name_at s.names end.memref)

abbrev pub place_at_end : Bindings → End → Place
place_at_end s end = place_of (env_of s) (name_at s.names end.memref) (use_of s end.at.now) end.ty.now

abbrev pub tag_at_end : Bindings → End → Option ℕ
tag_at_end s end = tag_of (env_of s) (name_at s.names end.memref) (use_of s end.at.now) end.ty.now
