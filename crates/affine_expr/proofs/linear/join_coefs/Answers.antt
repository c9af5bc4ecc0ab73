use Rattle.std.proofs.Common.{rules, arith, ◌≡◌, ◌<◌, Some, get_or, length, pos, FitsSigned, ◌∙◌}
use Rattle.std.proofs.lemmas.Int.{to_z-of_z}
use Rattle.std.specs.Int.{w128}
use Rattle.num_row.specs.Ints.{narrowed}
use Rattle.affine_expr.specs.Linear.{joined}
use Rattle.affine_expr.proofs.Joins.{turn}
use Rattle.affine_expr.proofs.linear.join_coefs.Goals as goal

pub loop-place-preserved : goal.loop-place-preserved
loop-place-preserved c =
    let e : narrowed (joined c.args.way (get_or c.args.xs.now c.loop-place.place (pos 0)) (get_or c.args.ys.now c.loop-place.place (pos 0))) ≡ Some c.in-Some.number = search (rules, to_z-of_z) in
    let h : c.loop-place.place < length c.args.ys.now = omega arith in
    let s = turn c.args.way c.args.xs.now c.args.ys.now c.loop-place.place c.loop-place.coefs.items c.in-Some.number h e in
    let fits : FitsSigned w128 c.in-Some.number = search rules in
    let items = simp to_z-of_z at c.in_ok-push.ensures.items in
    simp items (c.loop-place.invariant ∙ s)
