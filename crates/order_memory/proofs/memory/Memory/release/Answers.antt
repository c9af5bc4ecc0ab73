use Rattle.std.proofs.Common.{sym, ap, refl, ◌∙◌, ◌-◌}
use Rattle.prompt_semantics.specs.Device.{has_away}
use Rattle.order_memory.proofs.Allocs.{release_touched, releases}
use Rattle.order_memory.proofs.memory.Memory.release.Goals as goal

pub returns-then-has_away-clause-follows : goal.returns-then-has_away-clause-follows
returns-then-has_away-clause-follows c = λ rooms x t. release_touched rooms x _ t c.args.number c.args.element c.args.sizes.now (ap (λ ts. has_away ts c.args.number) (sym c.as_slice.ensures.value) ∙ sym c.has_away.ensures ∙ c.if-has_away.true)

pub returns-clause-follows : goal.returns-clause-follows
returns-clause-follows c = λ rooms x t. releases rooms x _ t c.args.number c.args.element c.args.sizes.now (ap (λ ts. has_away ts c.args.number) (sym c.as_slice.ensures.value) ∙ sym c.has_away.ensures ∙ c.if-has_away.false) _
    (c.saturating_sub-self.ensures ∙ ap (λ n. c.args.self.now.live - n) c.bytes_of.ensures.bytes) refl refl refl refl refl
