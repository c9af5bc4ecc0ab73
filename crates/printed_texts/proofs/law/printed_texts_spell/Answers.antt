use Rattle.printed_texts.proofs.SpeltTexts.{spelled_again}
use Rattle.printed_texts.proofs.Stable.{same_spelling}
use Rattle.printed_texts.proofs.law.printed_texts_spell.Goals as goal

pub returns-clause-again : goal.returns-clause-again
returns-clause-again c = spelled_again

pub returns-clause-stable : goal.returns-clause-stable
returns-clause-stable c = same_spelling
