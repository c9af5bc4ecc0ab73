use Rattle.std.proofs.Common.{rules, to_z-of_z, ◌≡◌, ◌||◌, ◌+◌, ◌∙◌, sym, ap, drop, true, false, int_lt, pos}
use Rattle.constraint_set.specs.Points.{LinearRow}
use Rattle.constraint_set.specs.Reach.{has_negative}
use Rattle.projection.proofs.Loops.{from_place}
use Rattle.projection.proofs.reaching.is_negative.Goals as goal

pub returns-then-is_below_zero : goal.returns-then-is_below_zero
returns-then-is_below_zero c =
    let r : LinearRow = record { coefs = c.row-constant.result.0.now; constant = c.row-constant.result.1 } in
    let rest = drop (c.loop-at.at + 1) c.args.rows.now.rows in
    let t : int_lt c.row-constant.result.1 (pos 0) ≡ true = search (rules, to_z-of_z) in
    sym (c.loop-at.invariant ∙ ap has_negative (from_place c.args.rows.now.rows c.loop-at.at r c.row-constant.ensures) ∙ ap (λ b. b || has_negative rest) t)

pub loop-at-preserved : goal.loop-at-preserved
loop-at-preserved c =
    let r : LinearRow = record { coefs = c.row-constant.result.0.now; constant = c.row-constant.result.1 } in
    let rest = drop (c.loop-at.at + 1) c.args.rows.now.rows in
    let t : int_lt c.row-constant.result.1 (pos 0) ≡ false = search (rules, to_z-of_z) in
    c.loop-at.invariant ∙ ap has_negative (from_place c.args.rows.now.rows c.loop-at.at r c.row-constant.ensures) ∙ ap (λ b. b || has_negative rest) t
