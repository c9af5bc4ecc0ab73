use Rattle.meaning_numbers.proofs.Numbers as numbers
use Rattle.meaning_numbers.proofs.prompt_numbers.Goals as goal

pub returns-clause-waited : goal.returns-clause-waited
returns-clause-waited c = numbers.waited

pub returns-clause-faulted : goal.returns-clause-faulted
returns-clause-faulted c = numbers.faulted

pub returns-clause-strided : goal.returns-clause-strided
returns-clause-strided c = numbers.strided

pub returns-clause-staged_raise : goal.returns-clause-staged_raise
returns-clause-staged_raise c = numbers.staged_raise

pub returns-clause-staged_part : goal.returns-clause-staged_part
returns-clause-staged_part c = numbers.staged_part
