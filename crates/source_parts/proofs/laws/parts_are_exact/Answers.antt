use Rattle.source_parts.proofs.Lines.{joined, full}
use Rattle.source_parts.proofs.Parting.{parts, others}
use Rattle.source_parts.proofs.laws.parts_are_exact.Goals as goal

pub returns-clause-lines : goal.returns-clause-lines
returns-clause-lines c = λ source. (joined source, full source)

pub returns-clause-are : goal.returns-clause-are
returns-clause-are c = parts

pub returns-clause-others : goal.returns-clause-others
returns-clause-others c = others
