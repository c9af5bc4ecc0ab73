use Rattle.std.proofs.Common.{rules}
use Rattle.std.proofs.lemmas.Int.{to_z-of_z}
use mir.Val.{SFits}
use mir.Syntax.{w64}
use Rattle.nest_walk.proofs.Steps.{later_turns, last_turn, later_past}
use Rattle.nest_walk.proofs.moves.later.Goals as goal

pub returns-in-Some-clause-turns : goal.returns-in-Some-clause-turns
returns-in-Some-clause-turns c =
    let a : SFits w64 c.args.at = search rules in
    let s : SFits w64 c.args.step = search rules in
    let n : SFits w64 c.in-Some.next = search rules in
    let next = (simp to_z-of_z at c.in-Some.ensures) in
    simp to_z-of_z (later_turns c.args.at c.args.upper c.args.step c.in-Some.next c.requires.less c.requires.step next.1)

pub returns-in-None-clause-turns : goal.returns-in-None-clause-turns
returns-in-None-clause-turns c =
    let a : SFits w64 c.args.at = search rules in
    let u : SFits w64 c.args.upper = search rules in
    let s : SFits w64 c.args.step = search rules in
    let wide = (simp to_z-of_z at c.in-None.ensures) in
    simp to_z-of_z (last_turn c.args.at c.args.upper c.args.step c.requires.less c.requires.step (later_past c.args.at c.args.upper c.args.step a u c.requires.step wide))
