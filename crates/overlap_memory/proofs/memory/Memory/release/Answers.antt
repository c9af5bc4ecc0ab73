use Rattle.std.proofs.Common.{sym, ap, ◌∙◌}
use Rattle.prompt_semantics.specs.Device.{has_away}
use Rattle.overlap_memory.proofs.Allocs.{release_follows}
use Rattle.overlap_memory.proofs.memory.Memory.release.Goals as goal

pub returns : goal.returns
returns c = record {
  follows = λ shape y t element sizes many.
      release_follows _ _ _ y t c.args.number element sizes c.args.bytes _ many (ap (λ ts. has_away ts c.args.number) (sym c.as_slice.ensures.value) ∙ sym c.has_away.ensures ∙ c.if-has_away.false) c.saturating_sub-self.ensures;
}
