use Rattle.std.proofs.Common.{◌≡◌, ◌∙◌, ap, rules, length, pos}
use Rattle.std.specs.Prelude.{replicate}
use Rattle.run_parts.specs.Registered.{held}
use Rattle.run_parts.proofs.Numbers.{held_zero}
use Rattle.run_parts.proofs.registers.Registers.new.Goals as goal

pub returns-clause-values : goal.returns-clause-values
returns-clause-values c =
    let zeros : c.in_ok-from_elem.field-0.items ≡ replicate (length c.args.names.now) (pos 0) = search rules in
    ap (held c.args.names.now) zeros ∙ held_zero c.args.names.now (length c.args.names.now)
