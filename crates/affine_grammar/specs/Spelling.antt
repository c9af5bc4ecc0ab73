-- Which module the bytes of a text spell, and the place at which a text that spells none is refused.
use Rattle.std.specs.Prelude.{◌≡◌, ℕ, List, [], ◌∷◌, ◌++◌, map}
use Rattle.readers.specs.Limits.{counted}
use Rattle.readers.specs.Places.{IsPlace}
use Rattle.affine_lex.specs.declared.token.Token.{Token}
use Rattle.affine_lex.specs.Tokens.{AreTokens, text_of}
use Rattle.affine_ast.specs.declared.module.Module.{Module}
use Rattle.affine_grammar.specs.Token.{Tok}
use Rattle.affine_grammar.specs.GrammarFile.{File}

-- a token of a given text, of which the limits are asked
abbrev pub token_of : List ℕ → Token → Tok
token_of source t = counted (record { kind = t.kind; text = text_of source t; line = t.line; column = t.column })

abbrev pub tokens_of : List ℕ → List Token → List Tok
tokens_of source ts = map (token_of source) ts

-- The bytes spell the module, with its lines: their tokens before the end do.
pub record Spells (source : List ℕ) (m : Module) : Type 0 where
  pub tokens : List Token
  pub end : Token
  pub lexed : AreTokens source (tokens ++ end ∷ [])
  pub spelled : File (tokens_of source tokens) m

-- the line and the column of the first of these tokens, or of the end where there is none
abbrev pub Stands : List Tok → Token → ℕ → ℕ → Type 0
Stands [] end line column = (line ≡ end.line) × (column ≡ end.column)
Stands (t ∷ rest) end line column = (line ≡ t.token.line) × (column ≡ t.token.column)

-- The bytes spell no module, and this is the place of the first token that no module can have there: the
-- tokens before it are a viable prefix, and with it they are none. At the end of the text the tokens are
-- a viable prefix and no text.
pub record IsRefused (source : List ℕ) (line column : ℕ) : Type 0 where
  pub tokens : List Token
  pub end : Token
  pub lexed : AreTokens source (tokens ++ end ∷ [])
  pub none : (m : Module) → File (tokens_of source tokens) m → ⊥
  pub rest : List Tok
  pub place : IsPlace File (tokens_of source tokens) rest
  pub stands : Stands rest end line column
