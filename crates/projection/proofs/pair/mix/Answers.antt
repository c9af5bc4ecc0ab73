use Rattle.std.proofs.Common.{rules, arith, ◌≡◌, Some, None, get_or, pos, FitsSigned, ◌∙◌}
use Rattle.std.proofs.lemmas.Int.{to_z-of_z}
use Rattle.std.specs.Int.{w128}
use Rattle.num_row.specs.Ints.{combined}
use Rattle.projection.proofs.Mixes.{turn, stop, ended}
use Rattle.projection.proofs.pair.mix.Goals as goal

pub returns-in_default : goal.returns-in_default
returns-in_default c =
    let e : combined c.args.a (get_or c.args.left.now c.loop-i.i (pos 0)) c.args.b (get_or c.args.right.now c.loop-i.i (pos 0)) ≡ None = search (rules, to_z-of_z) in
    let s = stop c.args.a c.args.left.now c.args.b c.args.right.now c.loop-i.i c.loop-i.coefs.items c.loop-i-test.true c.requires e in
    let fa : FitsSigned w128 c.args.a = c.ranges.a in
    let fb : FitsSigned w128 c.args.b = c.ranges.b in
    let inv = simp to_z-of_z at c.loop-i.invariant in
    inv ∙ s

pub loop-i-preserved : goal.loop-i-preserved
loop-i-preserved c =
    let e : combined c.args.a (get_or c.args.left.now c.loop-i.i (pos 0)) c.args.b (get_or c.args.right.now c.loop-i.i (pos 0)) ≡ Some c.in-Some.number = search (rules, to_z-of_z) in
    let s = turn c.args.a c.args.left.now c.args.b c.args.right.now c.loop-i.i c.loop-i.coefs.items c.in-Some.number c.loop-i-test.true c.requires e in
    let fa : FitsSigned w128 c.args.a = c.ranges.a in
    let fb : FitsSigned w128 c.args.b = c.ranges.b in
    let fn : FitsSigned w128 c.in-Some.number = search rules in
    let inv = simp to_z-of_z at c.loop-i.invariant in
    let items = simp to_z-of_z at c.in_ok-push.ensures.items in
    simp (to_z-of_z, items) (inv ∙ s)

pub returns : goal.returns
returns c = grind (arith, to_z-of_z, ended)
