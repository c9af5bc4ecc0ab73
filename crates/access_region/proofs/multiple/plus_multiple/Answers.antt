use Rattle.std.proofs.Common.{rules, arith, ◌≡◌, Some, None, get_or, pos, ◌+ℤ◌, ◌*ℤ◌, FitsSigned, ◌∙◌}
use Rattle.std.proofs.lemmas.Int.{to_z-of_z}
use Rattle.std.specs.Int.{w128}
use Rattle.num_row.specs.Ints.{narrowed}
use Rattle.access_region.proofs.Multiples.{turn, stop, ended}
use Rattle.access_region.proofs.multiple.plus_multiple.Goals as goal

pub returns-in_default : goal.returns-in_default
returns-in_default c =
    let e : narrowed (get_or c.args.base.now c.loop-i.i (pos 0) +ℤ c.args.factor *ℤ get_or c.args.others.now c.loop-i.i (pos 0)) ≡ None = search (rules, to_z-of_z) in
    let s = stop c.args.base.now c.args.factor c.args.others.now c.loop-i.i c.loop-i.sums.items c.loop-i-test.true c.requires e in
    let f : FitsSigned w128 c.args.factor = c.ranges.factor in
    let inv = simp to_z-of_z at c.loop-i.invariant in
    inv ∙ s

pub loop-i-preserved : goal.loop-i-preserved
loop-i-preserved c =
    let e : narrowed (get_or c.args.base.now c.loop-i.i (pos 0) +ℤ c.args.factor *ℤ get_or c.args.others.now c.loop-i.i (pos 0)) ≡ Some c.in-Some.sum = search (rules, to_z-of_z) in
    let s = turn c.args.base.now c.args.factor c.args.others.now c.loop-i.i c.loop-i.sums.items c.in-Some.sum c.loop-i-test.true c.requires e in
    let f : FitsSigned w128 c.args.factor = c.ranges.factor in
    let fn : FitsSigned w128 c.in-Some.sum = search rules in
    let inv = simp to_z-of_z at c.loop-i.invariant in
    let items = simp to_z-of_z at c.in_ok-push.ensures.items in
    simp (to_z-of_z, items) (inv ∙ s)

pub returns : goal.returns
returns c = grind (arith, to_z-of_z, ended)
