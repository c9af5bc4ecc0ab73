use Rattle.std.proofs.Common.{◌∙◌, ap, sym, refl, subst}
use Rattle.std.specs.Prelude.{Some}
use Rattle.direct_meaning.specs.Direct.{End}
use Rattle.transfer_records.specs.Found.{Finds}
use Rattle.prompt_meaning.specs.Held.{device_at}
use Rattle.prompt_meaning.proofs.Starting.{wait_shape, wait_done}
use Rattle.prompt_meaning.proofs.device.Device.wait.Goals as goal

pub returns-then-index-count-clause-takes : goal.returns-then-index-count-clause-takes
returns-then-index-count-clause-takes c =
    let f = subst (λ ts. Finds ts c.args.tag (Some c.in-Some.place)) c.as_slice.ensures.value c.in-Some.ensures in
    wait_shape c.args.self.now.outstanding.items c.args.tag c.args.count c.in-Some.place c.index.result.now f c.index.ensures (device_at c.args.self.now) c.if-index-count.true

pub returns-else-index-count-clause-takes : goal.returns-else-index-count-clause-takes
returns-else-index-count-clause-takes c =
    let f = subst (λ ts. Finds ts c.args.tag (Some c.in-Some.place)) c.as_slice.ensures.value c.in-Some.ensures in
    wait_done c.args.self.now.outstanding.items c.args.tag c.args.count c.in-Some.place c.index.result.now f c.index.ensures (device_at c.args.self.now) c.if-index-count.false refl
    ∙ ap (λ os. End (record (device_at c.args.self.now) { outstanding = os })) (sym c.remove.ensures.items)
