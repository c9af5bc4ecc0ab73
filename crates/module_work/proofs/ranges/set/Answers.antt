use Rattle.std.proofs.Common.{refl}
use Rattle.affine_rules.specs.contracts.scope.KeyPartialEq.TheImpl as impl
use Rattle.module_work.proofs.Tables.{ranges_set}
use Rattle.module_work.proofs.ranges.set.Goals as goal

pub returns : goal.returns
returns c =
    ranges_set impl.eq-value.it c.key_of.result c.args.name.now c.key_of.ensures.text c.key_of.ensures.made (λ j. refl) c.args.interval c.args.ranges.now.entries c.insert.new.self.entries c.in_ok-insert.ensures.entries
