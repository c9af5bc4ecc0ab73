use Rattle.std.proofs.Common.{◌≡◌, ◌+◌, ◌*◌, length}
use Rattle.readers.specs.Readers.{many}
use Rattle.affine_grammar.specs.ReadingFile as spec
use Rattle.affine_grammar.specs.Token as tok
use Rattle.affine_text.proofs.regions.+regions.Given as goal

abbrev pub decreases-region : goal.decreases-region
decreases-region l = 6 * l.left

abbrev pub decreases-else_part : goal.decreases-else_part
decreases-else_part l = 6 * l.left + 1

abbrev pub decreases-looped : goal.decreases-looped
decreases-looped l = 6 * l.left + 2

abbrev pub decreases-chosen : goal.decreases-chosen
decreases-chosen l = 6 * l.left + 2

abbrev pub decreases-acted : goal.decreases-acted
decreases-acted l = 6 * l.left + 3

abbrev pub decreases-statement : goal.decreases-statement
decreases-statement l = 6 * l.left + 4

abbrev pub decreases-statements : goal.decreases-statements
decreases-statements l = 6 * l.left + 5

abbrev pub invariant-statements-statements : goal.invariant-statements-statements
invariant-statements-statements l = many tok.at_stmt (spec.statement (spec.region l.aliases l.left) l.aliases) l.initial.read l.initial.tokens ≡ many tok.at_stmt (spec.statement (spec.region l.aliases l.left) l.aliases) l.read l.tokens

abbrev pub decreases-statements-statements : goal.decreases-statements-statements
decreases-statements-statements l = length l.tokens
