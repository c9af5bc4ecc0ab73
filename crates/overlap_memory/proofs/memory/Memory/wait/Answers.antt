use Rattle.std.proofs.Common.{◌∙◌, sym, ap}
use Rattle.prompt_semantics.specs.Device.{record_of, without}
use Rattle.overlap_memory.proofs.Drains.{wait_passes}
use Rattle.overlap_memory.proofs.memory.Memory.wait.Goals as goal

pub returns : goal.returns
returns g c = record {
  follows = λ shape y t. (
    record y { outstanding = without c.args.tag y.outstanding },
    wait_passes _ _ c.args.tag c.args.count y (ap (record_of c.args.tag) (sym t.records ∙ sym c.as_slice.ensures.value) ∙ c.in-Some.ensures.1) c.if-transfer-count.false,
    c.collect.ensures.tied shape y t,
  );
}
