use Rattle.std.proofs.Common.{◌≡◌, take, false}
use Rattle.prompt_semantics.specs.Device.{is_started}
use Rattle.transfer_records.proofs.records.find.Given as goal

-- those so far have other tags
abbrev pub invariant-loop-place : goal.invariant-loop-place
invariant-loop-place l = is_started (take l.place l.outstanding) l.tag ≡ false
