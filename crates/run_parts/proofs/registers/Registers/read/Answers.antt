use Rattle.std.proofs.Common.{◌≡◌, ◌∙◌, ap, subst, sym, length, rules, w64, SFits}
use Rattle.std.proofs.lemmas.Int.{to_z-of_z}
use Rattle.walk_actions.specs.Meant.{operand_meant, OperandIn}
use Rattle.direct_meaning.specs.Direct.{read}
use Rattle.run_parts.specs.Registered.{Registered, number_of, values_of}
use Rattle.run_parts.proofs.Numbers.{number_read}
use Rattle.run_parts.proofs.registers.Registers.read.Goals as goal

pub returns : goal.returns
returns c =
    let inside : OperandIn (length c.self.inside.names.now) c.args.operand = subst (λ (r : Registered). OperandIn (length r.names) c.args.operand) (sym c.self.view_is) c.requires in
    let fits : SFits w64 c.value_of.result = search rules in
    to_z-of_z w64 c.value_of.result fits ∙ c.value_of.ensures ∙ ap (λ xs. number_of xs c.args.operand) c.as_slice.ensures.value
    ∙ number_read c.self.inside.names.now c.self.inside.values.items c.args.operand c.self.invariant.distinct c.self.invariant.registers inside
    ∙ ap (λ (r : Registered). read (values_of r) (operand_meant r.names c.args.operand)) c.self.view_is
