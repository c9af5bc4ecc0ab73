use Rattle.std.proofs.Common.{rules, to_z-of_z, ◌≡◌, ◌+◌, ◌++◌, [], ◌∷◌, Some, ◌∙◌, sym, ap, drop}
use Rattle.std.specs.List.{slice_get}
use Rattle.constraint_set.specs.Points.{LinearRow}
use Rattle.projection.specs.Sides.{on_side}
use Rattle.projection.proofs.Loops.{chosen}
use Rattle.projection.proofs.side.rows_on.Goals as goal

pub loop-at-preserved : goal.loop-at-preserved
loop-at-preserved c =
    let r : LinearRow = record { coefs = c.row-constant.result.0.now; constant = c.row-constant.result.1 } in
    let here : slice_get c.args.rows.now.rows c.loop-at.at ≡ Some r = c.row-constant.ensures in
    let grown : c.push_on.new.out.items ≡ c.loop-at.out.items ++ on_side c.args.side c.args.k (r ∷ []) = search (rules, to_z-of_z) in
    c.loop-at.invariant ∙ chosen c.args.side c.args.k c.args.rows.now.rows c.loop-at.at r c.loop-at.out.items here ∙ ap (λ xs. xs ++ on_side c.args.side c.args.k (drop (c.loop-at.at + 1) c.args.rows.now.rows)) (sym grown)
