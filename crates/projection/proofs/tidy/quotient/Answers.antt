use Rattle.std.proofs.Common.{arith, rules, to_z-of_z, ◌≡◌, ◌≤◌, ◌^◌, ◌∙◌, unsigned_abs, FitsSigned}
use Rattle.std.specs.Int.{w128}
use Rattle.projection.proofs.Loops.{no_quotient}
use Rattle.projection.proofs.tidy.quotient.Goals as goal

pub returns-else-unsigned_abs-divisor : goal.returns-else-unsigned_abs-divisor
returns-else-unsigned_abs-divisor c =
    let f : FitsSigned w128 c.args.number = c.ranges.number in
    let low : 2 ^ 127 ≤ c.args.divisor = omega arith in
    let size : c.unsigned_abs.result ≡ unsigned_abs c.args.number = search (rules, to_z-of_z) in
    no_quotient c.args.number c.args.divisor f low (λ e. c.if-unsigned_abs-divisor.false (size ∙ e))
