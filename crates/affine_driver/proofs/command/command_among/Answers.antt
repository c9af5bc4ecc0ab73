use Rattle.std.proofs.Common.{map}
use Rattle.affine_driver.proofs.Commands.{among_some, among_others, among_none}
use Rattle.affine_driver.proofs.command.command_among.Goals as goal

pub returns-then-runs_threads-threads : goal.returns-then-runs_threads-threads
returns-then-runs_threads-threads c = among_some (map (λ word. word.now) c.args.words.now) c.in_ok-command.field-0 c.in-Some.command c.runs_threads.result c.args.threads c.in-Some.is c.runs_threads.ensures c.if-runs_threads-threads.true c.in_ok-command.ensures

pub returns-else-runs_threads-threads : goal.returns-else-runs_threads-threads
returns-else-runs_threads-threads c = among_others (map (λ word. word.now) c.args.words.now) c.in_ok-command.field-0 c.in-Some.command c.runs_threads.result c.args.threads c.in-Some.is c.runs_threads.ensures c.if-runs_threads-threads.false c.in_ok-command.ensures

pub returns-in-None : goal.returns-in-None
returns-in-None c = among_none (map (λ word. word.now) c.args.words.now) c.in_ok-command.field-0 c.args.threads c.in-None.is c.in_ok-command.ensures
