use Rattle.std.proofs.Common.{◌≡◌, ◌≤◌, ◌∙◌, ap, subst, sym, length, map, take, arith}
use Rattle.std.specs.Prelude.{All}
use Rattle.std.proofs.lemmas.List.{take_all}
use Rattle.walk_actions.specs.Looked.{homes_meant}
use Rattle.walk_actions.specs.Meant.{operand_meant, OperandIn}
use Rattle.direct_meaning.specs.Static.{place_at}
use Rattle.direct_meaning.specs.Direct.{read}
use Rattle.run_parts.specs.Registered.{Registered, number_of, values_of}
use Rattle.run_parts.proofs.Numbers.{numbers_read}
use Rattle.run_parts.proofs.registers.Registers.place.Goals as goal

pub returns-clause-place : goal.returns-clause-place
returns-clause-place c =
    let inside : All (OperandIn (length c.self.inside.names.now)) c.args.operands.now = subst (λ (r : Registered). All (OperandIn (length r.names)) c.args.operands.now) (sym c.self.view_is) c.requires.inside in
    let many : length c.args.operands.now ≤ c.loop-operand.operand-index = omega (arith, c.loop-operand-test.false) in
    c.element_place.ensures.value
    ∙ ap (place_at (homes_meant c.args.home) c.args.sizes.now)
    (c.as_slice-2.ensures ∙ c.loop-operand.invariant.items
    ∙ (λ i. map (number_of (c.loop-operand.invariant.values i).items) (take_all c.loop-operand.operand-index c.args.operands.now many i))
    ∙ numbers_read c.self.inside.names.now c.self.inside.values.items c.args.operands.now c.self.invariant.distinct c.self.invariant.registers inside
    ∙ ap (λ (r : Registered). map (read (values_of r)) (map (operand_meant r.names) c.args.operands.now)) c.self.view_is)
