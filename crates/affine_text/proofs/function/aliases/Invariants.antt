use Rattle.std.proofs.Common.{◌≡◌, length}
use Rattle.readers.specs.Readers.{many}
use Rattle.affine_grammar.specs.ReadingFile as spec
use Rattle.affine_grammar.specs.Token as tok
use Rattle.affine_text.proofs.function.aliases.Given as goal

abbrev pub invariant-aliases : goal.invariant-aliases
invariant-aliases l = many tok.at_alias spec.alias_definition l.initial.aliases l.initial.tokens ≡ many tok.at_alias spec.alias_definition l.aliases l.tokens

abbrev pub decreases-aliases : goal.decreases-aliases
decreases-aliases l = length l.tokens
