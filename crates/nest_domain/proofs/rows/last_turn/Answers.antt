use Rattle.std.proofs.Common.{rules, ◌≡◌, pos, neg_ℤ, ◌+ℤ◌, ◌-ℤ◌, sym, ap, subst, ◌∙◌, to_z, of_z, to_z-of_z}
use Rattle.std.specs.Int.{w128}
use Rattle.affine_expr.specs.Forms.{Form}
use Rattle.affine_expr.specs.Linear.{Meets}
use Rattle.affine_expr.specs.Value.{floor_mod}
use Rattle.nest_domain.specs.Kept.{with_constant}
use Rattle.nest_domain.proofs.Divisions.{minus_constant, last_constant}
use Rattle.nest_domain.proofs.rows.last_turn.Goals as goal

pub returns : goal.returns
unfolding with_constant
returns c =
    let rest = floor_mod (c.args.gap.now.constant -ℤ pos 1) c.args.step in
    let d = minus_constant c.args.upper.now c.args.lower.now c.args.gap.now c.requires.gap in
    let e = last_constant c.args.lower.now.constant c.args.upper.now.constant c.args.gap.now.constant c.args.step d in
    let f : c.in_ok-copied.field-0 ≡ c.args.lower.now = search rules in
    let u : to_z w128 (of_z w128 c.upper.inside.constant) ≡ c.args.upper.now.constant = search (rules, to_z-of_z) in
    let g : c.rest_before-rest.result ≡ rest = search (rules, to_z-of_z) in
    let b : c.below_zero.result ≡ neg_ℤ (pos 1) -ℤ c.rest_before-rest.result = search (rules, to_z-of_z) in
    let s : to_z w128 (of_z w128 c.below_zero.result) ≡ c.below_zero.result = search (rules, to_z-of_z) in
    let r = s ∙ b ∙ ap (λ z. neg_ℤ (pos 1) -ℤ z) g in
    let total = ap (λ z. z +ℤ to_z w128 (of_z w128 c.below_zero.result)) u ∙ ap (λ z. c.args.upper.now.constant +ℤ z) r ∙ sym e in
    subst (λ z. Meets (with_constant c.args.lower.now z) (λ f. f) c.with_constant.result) total
    (subst (λ (k : Form). Meets (with_constant k (to_z w128 (of_z w128 c.upper.inside.constant) +ℤ to_z w128 (of_z w128 c.below_zero.result))) (λ f. f) c.with_constant.result) f c.with_constant.ensures)
