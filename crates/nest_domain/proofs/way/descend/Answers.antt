use Rattle.std.proofs.Common.{sym, subst, map}
use Rattle.std.specs.Option.{option_copied}
use Rattle.nest_domain.specs.Steps.{header_of, Enters}
use Rattle.nest_domain.proofs.Answering.{head_of, no_head}
use Rattle.nest_domain.proofs.Passing.{descends_empty, descends_into_nothing, descends_by}
use Rattle.nest_domain.proofs.way.descend.Goals as goal

pub returns-in_default : goal.returns-in_default
returns-in_default c =
    let old = map header_of c.args.way.now.items in
    descends_empty c.args.here.now c.args.step old old (no_head c.args.here.now (sym c.in_default.ensures.value))

pub returns-in_default-2 : goal.returns-in_default-2
returns-in_default-2 c =
    let old = map header_of c.args.way.now.items in
    let new = map header_of c.enter.new.way.items in
    let first = c.in-Some.first.now in
    let head = head_of c.args.here.now first (sym c.in-Some.ensures.value) in
    descends_into_nothing c.args.here.now first head.0 c.args.step.0 c.args.step.1 old new head.1 (subst (λ o. Enters first c.args.step.1 old new (option_copied o)) c.in_default-2.is c.in_ok-list.ensures)

pub returns : goal.returns
returns c =
    let old = map header_of c.args.way.now.items in
    let middle = map header_of c.enter.new.way.items in
    let first = c.in-Some.first.now in
    let head = head_of c.args.here.now first (sym c.in-Some.ensures.value) in
    let inner = subst (λ o. Enters first c.args.step.1 old middle (option_copied o)) c.in-Some-2.is c.in_ok-list.ensures in
    descends_by c.args.here.now first head.0 c.in-Some-2.list.now c.args.step.0 c.args.step.1 old middle (map header_of c.come.new.way.items) (option_copied c.in_ok-next.next) head.1 inner c.in_ok-next.ensures
