use Rattle.std.proofs.Common.{◌∷◌, ◌++◌, [], length}
use Rattle.affine_lex.specs.Tokens.{AreTokens, text_end}
use Rattle.affine_lex.proofs.scanner.tokens.Given as goal

-- those that were found, those that are left and the end are the tokens
abbrev pub invariant-loop-token : goal.invariant-loop-token
invariant-loop-token l = AreTokens l.source (l.found.items ++ l.scanner ++ text_end l.source ∷ [])

abbrev pub decreases-loop-token : goal.decreases-loop-token
decreases-loop-token l = length l.scanner
