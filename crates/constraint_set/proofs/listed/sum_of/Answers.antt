use Rattle.std.proofs.Common.{rules, ◌≡◌, ◌*ℤ◌, ◌+ℤ◌, ◌∙◌, sym, Some, None, get_or, pos, FitsSigned, drop}
use Rattle.std.proofs.lemmas.Int.{to_z-of_z}
use Rattle.std.specs.Int.{w128}
use Rattle.num_row.specs.Ints.{narrowed}
use Rattle.constraint_set.specs.Points.{dot_from}
use Rattle.constraint_set.proofs.Sums.{no_sum, more}
use Rattle.constraint_set.proofs.listed.sum_of.Goals as goal

pub returns-in_err-sum : goal.returns-in_err-sum
returns-in_err-sum c =
    let f : narrowed (get_or c.args.coefs.now c.loop-i.i (pos 0) *ℤ get_or c.args.point.now c.loop-i.i (pos 0)) ≡ Some c.in_ok-product.product = search (rules, to_z-of_z) in
    let g : narrowed (c.loop-i.sum +ℤ c.in_ok-product.product) ≡ None = search (rules, to_z-of_z) in
    let s = no_sum c.args.coefs.now c.args.point.now c.loop-i.i c.loop-i.sum c.loop-i-test.true c.requires c.in_ok-product.product f g in
    let inv : dot_from (pos 0) c.args.coefs.now c.args.point.now ≡ dot_from c.loop-i.sum (drop c.loop-i.i c.args.coefs.now) (drop c.loop-i.i c.args.point.now) = search rules in
    rw c.from_residual-in_err-sum.ensures (sym (inv ∙ s))

pub loop-i-preserved : goal.loop-i-preserved
loop-i-preserved c =
    let f : narrowed (get_or c.args.coefs.now c.loop-i.i (pos 0) *ℤ get_or c.args.point.now c.loop-i.i (pos 0)) ≡ Some c.in_ok-product.product = search (rules, to_z-of_z) in
    let g : narrowed (c.loop-i.sum +ℤ c.in_ok-product.product) ≡ Some c.in_ok-sum.sum = search (rules, to_z-of_z) in
    let s = more c.args.coefs.now c.args.point.now c.loop-i.i c.loop-i.sum c.loop-i-test.true c.requires c.in_ok-product.product c.in_ok-sum.sum f g in
    let fn : FitsSigned w128 c.in_ok-sum.sum = search rules in
    let inv : dot_from (pos 0) c.args.coefs.now c.args.point.now ≡ dot_from c.loop-i.sum (drop c.loop-i.i c.args.coefs.now) (drop c.loop-i.i c.args.point.now) = search rules in
    simp to_z-of_z (inv ∙ s)
