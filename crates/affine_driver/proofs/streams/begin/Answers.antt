use Rattle.std.proofs.Common.{ap, Err}
use Rattle.affine_driver.proofs.streams.begin.Goals as goal

pub returns-in-Ok-clause-unasked : goal.returns-in-Ok-clause-unasked
returns-in-Ok-clause-unasked g c = λ none. let asks = (c.in-Ok-Some.ensures c.in-Ok-Some.command).0 c.in-Ok-Some.field-0-is in absurd (none c.in-Ok-Some.command asks.0 asks.1)

pub returns-in-Err-read_text-clause-words : goal.returns-in-Err-read_text-clause-words
returns-in-Err-read_text-clause-words g c = λ memory. (
  λ h. absurd (c.in-Err-read_text.ensures.asked (ap Err h)),
  λ none. let asks = (c.in-Ok-Some.ensures c.in-Ok-Some.command).0 c.in-Ok-Some.field-0-is in absurd (none c.in-Ok-Some.command asks.0 asks.1),
)

pub returns-in-Err-read_text-clause-unasked : goal.returns-in-Err-read_text-clause-unasked
returns-in-Err-read_text-clause-unasked g c = λ none. let asks = (c.in-Ok-Some.ensures c.in-Ok-Some.command).0 c.in-Ok-Some.field-0-is in absurd (none c.in-Ok-Some.command asks.0 asks.1)
