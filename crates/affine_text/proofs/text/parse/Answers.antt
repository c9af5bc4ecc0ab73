use Rattle.affine_text.proofs.Answers.{one_answer}
use Rattle.affine_text.proofs.text.parse.Goals as goal

pub returns-clause-only : goal.returns-clause-only
returns-clause-only c = λ meant s. one_answer c.module_of.result c.args.source.now meant c.module_of.ensures s
