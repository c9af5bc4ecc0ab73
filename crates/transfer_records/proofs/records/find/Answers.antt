use Rattle.std.proofs.Common.{◌≤◌, length, arith, subst, false, ◌≡◌}
use Rattle.std.proofs.lemmas.List.{take_all}
use Rattle.prompt_semantics.specs.Device.{is_started}
use Rattle.transfer_records.proofs.Found.{found, found_none}
use Rattle.transfer_records.proofs.records.find.Goals as goal

pub returns-then-transfer-tag : goal.returns-then-transfer-tag
returns-then-transfer-tag c = found c.args.outstanding.now c.args.tag c.loop-place.place _ c.loop-place-test.true c.loop-place.invariant c.if-transfer-tag.true

pub returns : goal.returns
returns c =
    let many : length c.args.outstanding.now ≤ c.loop-place.place = omega (arith, c.loop-place-test.false) in
    found_none c.args.outstanding.now c.args.tag (subst (λ ts. is_started ts c.args.tag ≡ false) (take_all c.loop-place.place c.args.outstanding.now many) c.loop-place.invariant)
