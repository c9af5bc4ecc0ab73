use Rattle.std.proofs.Common.{rules, ◌+◌}
use Rattle.std.specs.List.{All}
use Rattle.tag_table.specs.Shapes.{IsIdle}
use Rattle.overlap_runner.proofs.run.+fn-run_beside-join_mut+arg3+run_beside.Goals as goal

pub join_mut-verdict-requires-after_bounds : goal.join_mut-verdict-requires-after_bounds
join_mut-verdict-requires-after_bounds g t c κs within =
    let e = c.in-Some.ensures.cases.0 in
    let P = IsIdle c.args.bus.now.id in
    let rest : All P c.in-Some.others.now = λ k d h. search (rules, c.requires.engines (k + 1) d) in
    let first : P c.in-Some.first.now = search (rules, c.requires.engines 0 c.in-Some.first.now) in
    (first, (search rules, ((λ a m. m), ((λ a m. m), ((search rules, search rules, c.requires.names, c.requires.stands, rest, search rules), search rules)))))
