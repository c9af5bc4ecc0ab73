use Rattle.std.proofs.Common.{rules, ◌≡◌, pos, ◌-ℤ◌, ◌<ℤ◌, to_z-of_z, ◌∙◌, arith}
use Rattle.std.proofs.lemmas.Int.{ints}
use Rattle.std.specs.Int.{int_rem_euclid}
use Rattle.affine_expr.specs.Value.{floor_mod}
use Rattle.num_row.proofs.Floors.{rest_low}
use Rattle.nest_domain.proofs.Divisions.{none_left, some_left}
use Rattle.nest_domain.proofs.rows.rest_before.Goals as goal

pub returns-then-rest-eq0-clause-rest : goal.returns-then-rest-eq0-clause-rest
returns-then-rest-eq0-clause-rest c =
    let e : int_rem_euclid c.args.number c.args.step ≡ pos 0 = search (rules, to_z-of_z) in
    let f : c.less_one.result ≡ c.args.step -ℤ pos 1 = search (rules, to_z-of_z) in
    let g : c.less_one.result ≡ floor_mod (c.args.number -ℤ pos 1) c.args.step = f ∙ none_left c.args.number c.args.step c.requires e in
    search (rules, to_z-of_z, g)

pub returns-else-rest-eq0-clause-rest : goal.returns-else-rest-eq0-clause-rest
returns-else-rest-eq0-clause-rest c =
    let v : c.rem_euclid-rest.result ≡ int_rem_euclid c.args.number c.args.step = search (rules, to_z-of_z) in
    let low = rest_low c.args.number c.args.step c.requires in
    let l : pos 0 <ℤ int_rem_euclid c.args.number c.args.step = omega (arith, ints, v, low, c.if-rest-eq0.false) in
    let f : c.less_one-else-rest-eq0.result ≡ int_rem_euclid c.args.number c.args.step -ℤ pos 1 = omega (arith, ints, v, c.less_one-else-rest-eq0.ensures) in
    let g : c.less_one-else-rest-eq0.result ≡ floor_mod (c.args.number -ℤ pos 1) c.args.step = f ∙ some_left c.args.number c.args.step c.requires l in
    search (rules, to_z-of_z, g)
