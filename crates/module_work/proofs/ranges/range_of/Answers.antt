use Rattle.std.proofs.Common.{◌∙◌}
use Rattle.std.specs.Prelude.{Some, None}
use Rattle.module_work.proofs.Tables.{range_found}
use Rattle.module_work.proofs.ranges.range_of.Goals as goal

pub returns-in-None : goal.returns-in-None
returns-in-None c = c.only.ensures ∙ range_found c.key_of.result c.args.name.now None c.args.ranges.now.entries c.key_of.ensures.text c.key_of.ensures.made c.in-None.ensures.value

pub returns-in-Some : goal.returns-in-Some
returns-in-Some c = range_found c.key_of.result c.args.name.now (Some c.in-Some.interval.now) c.args.ranges.now.entries c.key_of.ensures.text c.key_of.ensures.made c.in-Some.ensures.value
