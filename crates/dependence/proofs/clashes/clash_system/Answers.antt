use Rattle.std.proofs.Common.{rules, arith, ◌≡◌, ◌+◌, ◌-◌, ◌≤◌, length, map, Ok, ◌∙◌, ap, sym}
use Rattle.std.proofs.lemmas.Int.{to_z-of_z}
use Rattle.std.specs.Int.{w64}
use Rattle.constraint_set.specs.Points.{LinearSystem}
use Rattle.projection.specs.Answers.{after}
use Rattle.dependence.specs.Clashes.{all_later, common_rows, filled}
use Rattle.dependence.specs.declared.turns.LaterTurn.{LaterTurn}
use Rattle.dependence.proofs.ClashSteps.{made}
use Rattle.dependence.proofs.clashes.clash_system.Goals as goal

pub returns : goal.returns
returns c =
    let s : LinearSystem = c.args.outside.now in
    let n = c.args.outer in
    let v : c.vars-vars.result ≡ s.vars = c.vars-vars.ensures.vars in
    let turn = c.later_turn-turn.ensures in
    let o : c.later_turn-turn.result.outer ≡ n = ap (λ (r : LaterTurn). r.outer) turn in
    let l : c.later_turn-turn.result.locals ≡ s.vars - n = ap (λ (r : LaterTurn). r.locals) turn ∙ ap (λ x. x - n) v in
    let x : c.later_turn-turn.result.var ≡ c.args.var = ap (λ (r : LaterTurn). r.var) turn in
    let d : c.later_turn-turn.result.distance ≡ c.args.distance = ap (λ (r : LaterTurn). r.distance) turn ∙ to_z-of_z w64 c.args.distance c.ranges.distance in
    let few : s.vars + (s.vars - n) + length c.args.sizes.now ≤ 64 = omega (arith, v, l) in
    let rows : c.in_ok-rows.rows.items ≡ s.rows = c.in_ok-rows.ensures ∙ c.rows.ensures.rows in
    let moved : after s.rows (all_later n (s.vars - n) c.args.var c.args.distance s.rows) ≡ Ok c.push_rows.new.out.items = search (rules, to_z-of_z) in
    let common : after c.push_rows.new.out.items (common_rows n (s.vars - n) c.args.var c.args.distance (s.vars + (s.vars - n)) c.args.a.now c.args.b.now c.args.sizes.now) ≡ Ok c.push_common.new.out.items = search (rules, to_z-of_z) in
    let e : c.in_ok-system.system ≡ record { vars = s.vars + (s.vars - n) + length c.args.sizes.now; rows = map (filled (s.vars + (s.vars - n) + length c.args.sizes.now)) c.push_common.new.out.items } = search (rules, to_z-of_z) in
    made c.args.a.now c.args.b.now s n c.args.sizes.now c.args.var c.args.distance c.push_rows.new.out.items c.push_common.new.out.items few moved common ∙ ap Ok (sym e)
