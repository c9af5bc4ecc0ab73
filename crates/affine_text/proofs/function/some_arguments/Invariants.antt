use Rattle.std.proofs.Common.{◌≡◌, length}
use Rattle.readers.specs.Readers.{many}
use Rattle.affine_grammar.specs.ReadingFile as spec
use Rattle.affine_grammar.specs.Token as tok
use Rattle.affine_text.proofs.function.some_arguments.Given as goal

abbrev pub invariant-arguments : goal.invariant-arguments
invariant-arguments l = many (tok.at_sign 44) spec.next_argument l.initial.args l.initial.tokens ≡ many (tok.at_sign 44) spec.next_argument l.args l.tokens

abbrev pub decreases-arguments : goal.decreases-arguments
decreases-arguments l = length l.tokens
