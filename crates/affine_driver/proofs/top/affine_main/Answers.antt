use Rattle.std.proofs.Common.{◌∙◌, sym, true, false}
use Rattle.affine_driver.specs.declared.command.Command.TheVariants.{Stage}
use Rattle.affine_driver.proofs.Headlines.{no_bool}
use Rattle.affine_driver.proofs.top.affine_main.Goals as goal

pub returns-then-ask_for_threads-clause-answers : goal.returns-then-ask_for_threads-clause-answers
returns-then-ask_for_threads-clause-answers g c = λ command asks. c.run_main.ensures.answers command asks (c.ask_for_threads.ensures command asks ∙ c.if-ask_for_threads.true)

pub returns-else-ask_for_threads-clause-answers : goal.returns-else-ask_for_threads-clause-answers
returns-else-ask_for_threads-clause-answers g c = λ command asks. c.stage_main.ensures.answers command asks (c.ask_for_threads.ensures command asks ∙ c.if-ask_for_threads.false)

pub returns-then-ask_for_threads-clause-headline : goal.returns-then-ask_for_threads-clause-headline
returns-then-ask_for_threads-clause-headline g c = λ options asks done. absurd (no_bool (sym (c.ask_for_threads.ensures (Stage options) asks ∙ c.if-ask_for_threads.true)))

pub returns-else-ask_for_threads-clause-headline : goal.returns-else-ask_for_threads-clause-headline
returns-else-ask_for_threads-clause-headline g c = λ options asks done. c.stage_main.ensures.headline options asks done
