use Rattle.std.proofs.Common.{rules, ◌<◌, ◌≤◌, length, sym, ap, subst, ◌∙◌, ◌++◌, map, Some}
use Rattle.nest_domain.specs.Steps.{header_of, past_all, Comes}
use Rattle.nest_domain.proofs.Passing.{comes_to, comes_nowhere}
use Rattle.nest_domain.proofs.way.come.Goals as goal

pub returns-then-list-position : goal.returns-then-list-position
returns-then-list-position c =
    let h : length c.args.list.now ≤ c.args.position = search rules in
    comes_nowhere c.args.list.now c.args.position (map header_of c.args.way.now.items) (map header_of c.args.way.now.items) h

pub returns : goal.returns
returns c =
    let list = c.args.list.now in
    let n = c.args.position in
    let old = map header_of c.args.way.now.items in
    let new = map header_of c.pass.new.way.items in
    let h : n < length list = search rules in
    subst (λ l. Comes list n old new (Some l)) (sym c.split_at.ensures.back) (comes_to list n old new h (c.in_ok-pass.ensures ∙ ap (λ l. old ++ past_all l) c.split_at.ensures.front))
