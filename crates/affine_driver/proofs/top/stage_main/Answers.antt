use Rattle.std.proofs.Common.{false, refl, subst}
use Rattle.affine_driver.specs.declared.command.Command.TheVariants.{Stage}
use Rattle.affine_driver.specs.declared.limits.TheConstants.{SOURCE_LIMIT}
use Rattle.affine_driver.specs.Behaviour.{ComesTo}
use Rattle.affine_driver.specs.Headline.{Decides}
use Rattle.affine_driver.specs.Outcome.{Answered}
use Rattle.affine_driver.proofs.Calls.{decided_early, decided, asked}
use Rattle.affine_driver.proofs.Commands.{allowed}
use Rattle.affine_driver.proofs.Headlines.{not_early, stages_rightly}
use Rattle.affine_driver.proofs.top.stage_main.Goals as goal

pub answer_of-requires-clause-allowed : goal.answer_of-requires-clause-allowed
answer_of-requires-clause-allowed g c = allowed _ c.in-Ok.begun.0 ((c.in-Ok.ensures.asked c.in-Ok.begun.0).1 refl).0

pub returns-in-Err-clause-answers : goal.returns-in-Err-clause-answers
returns-in-Err-clause-answers g c = λ command asks own. decided_early SOURCE_LIMIT command c.in-Err.ending _ _ _ c.endings_are_exact.ensures.exact (c.in-Err.ensures.answers command _ asks own)

pub returns-clause-words : goal.returns-clause-words
returns-clause-words g c = λ memory. let is = (c.in-Ok.ensures.asked c.in-Ok.begun.0).1 refl in asked _ c.in-Ok.begun.0 false c.finish.result is.0 is.1 c.finish.ensures.read

pub returns-clause-answers : goal.returns-clause-answers
returns-clause-answers g c = λ command asks own.
    let same = (c.in-Ok.ensures.asked command).0 (asks, own) in
    subst (λ x. Decides SOURCE_LIMIT x c.finish.result (g.S.Source.left c.args.source.now) (g.S.Source.left c.begin.new.source) (g.K.Sink.contents c.args.sink.now) (g.K.Sink.contents c.finish.new.sink)) same
    (decided SOURCE_LIMIT c.in-Ok.begun.0 c.finish.result _ _ _ _ c.in-Ok.begun.1.items c.endings_are_exact.ensures.exact c.in-Ok.ensures.read c.finish.ensures.read
    (c.finish.ensures.because c.in-Ok.begun.0 c.in-Ok.begun.1.items (subst (λ b. Answered c.answer_of.result (λ output. output.items) (ComesTo c.in-Ok.begun.0 b)) c.as_slice.ensures.value c.answer_of.ensures)))

pub returns-in-Err-clause-headline : goal.returns-in-Err-clause-headline
returns-in-Err-clause-headline g c = λ options asks done. absurd (not_early c.in-Err.ending c.in-Err.ensures.unwritten done)

pub returns-clause-headline : goal.returns-clause-headline
returns-clause-headline g c = λ options asks done.
    let same = (c.in-Ok.ensures.asked (Stage options)).0 (asks, refl) in
    stages_rightly c.staged_texts_run.ensures c.plan_is_complete.ensures options c.finish.result _ _ _ _
    (subst (λ x. Decides SOURCE_LIMIT x c.finish.result (g.S.Source.left c.args.source.now) (g.S.Source.left c.begin.new.source) (g.K.Sink.contents c.args.sink.now) (g.K.Sink.contents c.finish.new.sink)) same
    (decided SOURCE_LIMIT c.in-Ok.begun.0 c.finish.result _ _ _ _ c.in-Ok.begun.1.items c.endings_are_exact.ensures.exact c.in-Ok.ensures.read c.finish.ensures.read
    (c.finish.ensures.because c.in-Ok.begun.0 c.in-Ok.begun.1.items (subst (λ b. Answered c.answer_of.result (λ output. output.items) (ComesTo c.in-Ok.begun.0 b)) c.as_slice.ensures.value c.answer_of.ensures)))) done
