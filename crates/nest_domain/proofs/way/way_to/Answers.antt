use Rattle.std.proofs.Common.{sym, ap, subst, ◌∙◌, ◌∷◌, map, Some}
use Rattle.std.specs.Option.{option_copied}
use Rattle.nest_domain.specs.Steps.{header_of, Comes, Arrives}
use Rattle.nest_domain.proofs.Passing.{path_of, path_past_nothing}
use Rattle.nest_domain.proofs.way.way_to.Goals as goal

pub returns-in_default-3 : goal.returns-in_default-3
returns-in_default-3 c =
    let body = c.args.body.now in
    let n = c.in-Some.first.now.0 in
    let more = c.in-Some.more.now in
    let new = map header_of c.come.new.way.items in
    let start = c.in-Some-2.start.now in
    let steps = sym c.as_slice.ensures ∙ c.in-Some.ensures.cases.0 ∙ ap (λ b. (n, b) ∷ more) c.if-other.false in
    let come = subst (λ o. Comes body n (map header_of c.new-way.result.items) new (option_copied o)) c.in-Some-2.is c.in_ok-start.ensures in
    let from = subst (λ l. Comes body n (map header_of l) new (Some start)) c.new-way.ensures.items come in
    let gone = subst (λ o. Arrives start more new (map header_of c.descend_all.new.way.items) (option_copied o)) c.in_default-3.is c.in_ok-here.ensures in
    sym (path_of body c.args.at.now.steps more n steps ∙ path_past_nothing body start n more new from gone)
