-- What the answer of the reader of a file says of the bytes of a text.
use Rattle.std.proofs.Common.{◌≡◌, ℕ, List, [], ◌∷◌, ◌++◌, Result, Ok, Err, refl, sym, ap, ◌∙◌, subst}
use Rattle.readers.specs.Readers.{Got, Stop}
use Rattle.affine_lex.specs.declared.token.Token.{Token}
use Rattle.affine_lex.specs.Tokens.{AreTokens}
use Rattle.affine_ast.specs.declared.module.Module.{Module}
use Rattle.affine_grammar.specs.Token.{Tok}
use Rattle.affine_grammar.specs.ReadingFile.{file}
use Rattle.affine_grammar.specs.Spelling.{Spells, tokens_of}
use Rattle.affine_grammar.proofs.Whole.{read_spells, stop_refused, left_refused, spells_one, spells_not_refused}
use Rattle.token_cursor.specs.Input.{Takes}
use Rattle.affine_text.specs.Parsed.{Parses, Allows, RefusesAt}
use Rattle.affine_text.specs.declared.fault.ParseFault.{ParseFault}
use Rattle.affine_text.specs.declared.fault.ParseFault.TheVariants as fault
use Rattle.token_cursor.specs.declared.refusal.Refusal.{Refusal}
use Rattle.token_cursor.specs.declared.refusal.Refusal.TheVariants as refusal

module _ (source : List ℕ) (ts : List Token) (end : Token) (lexed : AreTokens source (ts ++ end ∷ [])) (start : List Tok) (is : start ≡ tokens_of source ts) where
  -- read to the end
  pub read_whole : (m : Module) (left : List Tok) → file start ≡ Got m left → left ≡ [] → Spells source m
  read_whole m left h e = read_spells source ts end lexed m (ap file (sym is) ∙ h ∙ ap (λ (x : List Tok). Got m x) e)

  -- a module is read, and something stands behind it
  pub read_part : (m : Module) (left : List Tok) (f : ParseFault) → file start ≡ Got m left → (left ≡ [] → ⊥) → RefusesAt f left end → Parses (Err f) source
  read_part m [] f h l s = absurd (l refl)
  read_part m (t ∷ rest) (fault.Text line column) h l s = left_refused source ts end lexed m t rest line column (ap file (sym is) ∙ h) s
  read_part m (t ∷ rest) fault.Memory h l s = absurd s

  -- nothing is read
  pub read_none : (r : Result Module Refusal) (left : List Tok) (f : ParseFault) → Takes r (file start) left → r ≡ Err refusal.Here → RefusesAt f left end → Parses (Err f) source
  read_none r left (fault.Text line column) t h s =
      let g : file start ≡ Stop left = subst (λ x. Takes x (file start) left) h t in
      stop_refused source ts end lexed left line column (ap file (sym is) ∙ g) s
  read_none r left fault.Memory t h s = absurd s

-- an answer that says what holds of the bytes allows no other
pub one_answer : (r : Result Module ParseFault) (source : List ℕ) (m : Module) → Parses r source → Spells source m → Allows r m
one_answer (Ok n) source m p s = spells_one source n m p s
one_answer (Err (fault.Text line column)) source m p s = spells_not_refused source m line column s p
one_answer (Err fault.Memory) source m p s = tt
