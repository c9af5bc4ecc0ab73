use Rattle.std.proofs.Common.{◌∙◌, sym, ap, ◌-ℤ◌, neg_ℤ, rules, w64, SFits, to_z, of_z}
use Rattle.std.specs.Int.{int_div_euclid, w128}
use Rattle.std.proofs.lemmas.Int.{to_z-of_z}
use Rattle.affine_expr.proofs.Divisions.{ceil_is}
use Rattle.module_work.proofs.count.steps.Goals as goal

pub returns : goal.returns
returns c =
    let result : SFits w128 c.ceil_div.result = search rules in
    let between : SFits w128 c.difference.result = search rules in
    let step : SFits w64 c.args.step = search rules in
    let end : SFits w64 c.args.end = search rules in
    let first : SFits w64 c.args.first = search rules in
    let wide : SFits w128 c.args.step = search rules in
    to_z-of_z w128 c.ceil_div.result result ∙ c.ceil_div.ensures.value
    ∙ (λ i. neg_ℤ (int_div_euclid (neg_ℤ ((to_z-of_z w128 c.difference.result between ∙ c.difference.ensures ∙ (λ j. to_z-of_z w64 c.args.end end j -ℤ to_z-of_z w64 c.args.first first j)) i))
    ((ap (λ z. to_z w128 (of_z w128 z)) (to_z-of_z w64 c.args.step step) ∙ to_z-of_z w128 c.args.step wide) i)))
    ∙ sym (ceil_is (c.args.end -ℤ c.args.first) c.args.step c.requires)
