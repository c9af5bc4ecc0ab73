use Rattle.std.proofs.Common.{rules, to_z-of_z, ◌≡◌, ◌+◌, ◌++◌, ◌∷◌, [], ◌∙◌, sym, ap, drop, append_assoc}
use Rattle.constraint_set.specs.Points.{LinearRow, LinearSystem}
use Rattle.projection.proofs.Loops.{from_place}
use Rattle.projection.proofs.eliminating.listed.Goals as goal

pub loop-at-preserved : goal.loop-at-preserved
loop-at-preserved c =
    let r : LinearRow = record { coefs = c.row-constant.result.0.now; constant = c.row-constant.result.1 } in
    let rest = drop (c.loop-at.at + 1) c.args.rows.now.rows in
    let here : drop c.loop-at.at c.args.rows.now.rows ≡ r ∷ drop (c.loop-at.at + 1) c.args.rows.now.rows = from_place c.args.rows.now.rows c.loop-at.at r c.row-constant.ensures in
    let same : c.push.new.self.vars ≡ c.loop-at.out.vars = ap (λ (s : LinearSystem). s.vars) c.in_ok-push.ensures.ok in
    let items = c.in_ok-coefs.ensures.items in
    let grown : c.push.new.self.rows ≡ c.loop-at.out.rows ++ r ∷ [] = search (rules, to_z-of_z) in
    (same ∙ c.loop-at.invariant.0, ap (λ xs. xs ++ rest) grown ∙ append_assoc c.loop-at.out.rows (r ∷ []) rest ∙ ap (λ xs. c.loop-at.out.rows ++ xs) (sym here) ∙ c.loop-at.invariant.1)
