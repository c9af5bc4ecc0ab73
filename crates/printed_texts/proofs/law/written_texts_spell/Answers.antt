use Rattle.printed_texts.proofs.SpeltTexts.{spelt_written}
use Rattle.printed_texts.proofs.Writing.{written_spells}
use Rattle.printed_texts.proofs.law.written_texts_spell.Goals as goal

pub returns-clause-given : goal.returns-clause-given
returns-clause-given c = spelt_written

pub returns-clause-spelled : goal.returns-clause-spelled
returns-clause-spelled c = λ m comments w lines. written_spells m w comments lines
