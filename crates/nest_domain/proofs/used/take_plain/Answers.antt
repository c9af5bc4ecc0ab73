use Rattle.std.proofs.Common.{sym, subst, ◌∙◌}
use Rattle.nest_domain.specs.Used.{HasMore}
use Rattle.nest_domain.proofs.Using.{idle_what, value_what, other_what}
use Rattle.nest_domain.proofs.used.take_plain.Goals as goal

pub returns-then-not-is_used : goal.returns-then-not-is_used
returns-then-not-is_used c = idle_what c.args.what.now c.in-Value.result c.in-Value.pick c.in-Value.at c.args.used.now.keys c.in-Value.is (sym c.is_used.ensures ∙ c.if-not-is_used.true)

pub returns-in_ok-add_names-in-Value : goal.returns-in_ok-add_names-in-Value
returns-in_ok-add_names-in-Value c =
    let old = c.args.used.now.keys in
    let new = c.add_names.new.used.keys in
    value_what c.args.what.now c.in-Value.result c.in-Value.pick c.in-Value.at old new c.in-Value.is (sym c.is_used.ensures ∙ c.if-not-is_used.false) (subst (λ l. HasMore l old new) c.as_slice.ensures c.in_ok-add_names-in-Value.ensures)

pub returns-in_default : goal.returns-in_default
returns-in_default c = other_what c.args.what.now c.args.used.now.keys c.in_default.not-Value
