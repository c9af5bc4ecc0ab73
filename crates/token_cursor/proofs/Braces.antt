-- The brace of a region too many is refused in a text, of whose tokens the limits are asked.
use Rattle.std.proofs.Common.{◌≡◌, ℕ, true, List, [], ◌∷◌, refl}
use Rattle.readers.specs.Limits.{limited}
use Rattle.readers.specs.Readers.{Stop, take_by}
use Rattle.affine_lex.specs.declared.token.Token.{Token}
use Rattle.affine_grammar.specs.Spelling.{tokens_of}
use Rattle.affine_grammar.specs.Token.{sign}

pub brace_refused : (source : List ℕ) (rest : List Token) → take_by (limited true (sign 123)) (tokens_of source rest) ≡ Stop (tokens_of source rest)
brace_refused source [] = refl
brace_refused source (t ∷ rest) = refl
