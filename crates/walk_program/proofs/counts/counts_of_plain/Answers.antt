use Rattle.walk_program.proofs.Allocations.{alloc_counts, no_counts}
use Rattle.walk_program.proofs.counts.counts_of_plain.Goals as goal

pub returns-in-Alloc : goal.returns-in-Alloc
returns-in-Alloc c = alloc_counts c.counts_of_type.result c.args.plain.now _ _ c.in-Alloc.is c.counts_of_type.ensures.fasts c.counts_of_type.ensures.tags

pub returns-in_default : goal.returns-in_default
returns-in_default c = no_counts c.args.plain.now c.none.result c.in_default.not-Alloc c.none.ensures.fasts c.none.ensures.tags
