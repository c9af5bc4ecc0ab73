use Rattle.std.proofs.Common.{sym, ap, ◌∙◌}
use Rattle.prompt_semantics.specs.Device.{has_started}
use Rattle.order_memory.proofs.Allocs.{tags_started, tags_idle}
use Rattle.order_memory.proofs.memory.Memory.release_tags.Goals as goal

pub returns-then-has_started-clause-follows : goal.returns-then-has_started-clause-follows
returns-then-has_started-clause-follows c = λ rooms x t. tags_started rooms x _ t c.args.first c.args.count (ap (λ ts. has_started ts c.args.first c.args.count) (sym c.as_slice.ensures.value) ∙ sym c.has_started.ensures ∙ c.if-has_started.true)

pub returns-clause-follows : goal.returns-clause-follows
returns-clause-follows c = λ rooms x t. tags_idle rooms x _ t c.args.first c.args.count (ap (λ ts. has_started ts c.args.first c.args.count) (sym c.as_slice.ensures.value) ∙ sym c.has_started.ensures ∙ c.if-has_started.false)
