use Rattle.std.proofs.Common.{rules, to_z-of_z, ◌≡◌, ap, ◌∙◌}
use Rattle.constraint_set.specs.Points.{LinearSystem, all_hold}
use Rattle.constraint_set.proofs.Sums.{holds_exact}
use Rattle.constraint_set.proofs.listed.System.holds.Goals as goal

pub returns-clause-exact : goal.returns-clause-exact
returns-clause-exact c =
    let e : c.each_holds.result ≡ all_hold c.deref.result.now c.args.point.now c.args.scale = search (rules, to_z-of_z) in
    holds_exact c.args.self.now c.args.point.now c.args.scale c.each_holds.result c.requires.whole c.requires.positive
    (e ∙ ap (λ rows. all_hold rows c.args.point.now c.args.scale) (c.deref.ensures.value ∙ ap (λ (s : LinearSystem). s.rows) c.self.view_is))
