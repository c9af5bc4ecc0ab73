use Rattle.std.proofs.Common.{arith, ◌<◌, length, ◌∙◌}
use Rattle.dependence.proofs.Appending.{same_get, common_turn}
use Rattle.dependence.proofs.turns.LaterTurn.push_common.Goals as goal

pub loop-number-preserved : goal.loop-number-preserved
loop-number-preserved c =
    let k = c.loop-number.number in
    let a : k < length c.args.first.now = omega (arith, c.requires.first) in
    let b : k < length c.args.second.now = omega (arith, c.requires.second) in
    let d : k < length c.args.sizes.now = omega arith in
    c.loop-number.invariant ∙ common_turn c.args.self.outer c.args.self.locals c.args.self.var c.args.self.distance c.args.place c.args.first.now c.args.second.now c.args.sizes.now k _ _ _ a b d c.index-first-number.is c.index-second-number.is (same_get c.args.sizes.now k 0 _ d) c.loop-number.out.items c.push_dimension.new.out.items c.in_ok-push_dimension.ensures
