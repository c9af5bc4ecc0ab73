use Rattle.affine_lex.proofs.Scanning.{all_tokens}
use Rattle.affine_lex.proofs.scanner.Scanner.new.Goals as goal

pub returns : goal.returns
returns c = all_tokens c.args.source.now c.gap-from.result c.gap-from.ensures.value
