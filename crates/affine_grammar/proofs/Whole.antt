-- Whole texts: what the reader of a file says of the bytes.
use Rattle.std.proofs.Common.{◌≡◌, ℕ, List, [], ◌∷◌, ◌++◌, refl, sym, ap, ◌∙◌, subst, ◌⊎◌, inl, inr}
use Rattle.readers.specs.Readers.{Step, Got, Stop}
use Rattle.readers.specs.Places.{IsPlace}
use Rattle.readers.proofs.Whole.{exact_ok, exact_only, exact_place, exact_left, exact_one, place_one}
use Rattle.affine_lex.specs.declared.token.Token.{Token}
use Rattle.affine_lex.specs.Tokens.{AreTokens}
use Rattle.affine_lex.proofs.Listed.{one_list}
use Rattle.affine_ast.specs.declared.module.Module.{Module}
use Rattle.affine_grammar.specs.Token.{Tok}
use Rattle.affine_grammar.specs.GrammarFile.{File}
use Rattle.affine_grammar.specs.ReadingFile.{file}
use Rattle.affine_grammar.specs.Spelling.{tokens_of, Spells, Stands, IsRefused}
use Rattle.affine_grammar.proofs.File.{exact_file}

-- ---- the tokens of a text and its end

cons_parts : {T : Type 0} (a b : T) (f g : List T) → a ∷ f ≡ b ∷ g → (a ≡ b) × (f ≡ g)
cons_parts a b f g h = let p : a ≡ b = cc in let q : f ≡ g = cc in (p, q)

snoc_not_nil : {T : Type 0} (f : List T) (a : T) → f ++ a ∷ [] ≡ [] → ⊥
snoc_not_nil [] a h = cc
snoc_not_nil (b ∷ f) a h = cc

snoc_parts : {T : Type 0} (f g : List T) (a b : T) → f ++ a ∷ [] ≡ g ++ b ∷ [] → (f ≡ g) × (a ≡ b)
snoc_parts [] [] a b h = (refl, (cons_parts a b [] [] h).0)
snoc_parts [] (d ∷ g) a b h = absurd (snoc_not_nil g b (sym (cons_parts a d [] (g ++ b ∷ []) h).1))
snoc_parts (c ∷ f) [] a b h = absurd (snoc_not_nil f a (cons_parts c b (f ++ a ∷ []) [] h).1)
snoc_parts (c ∷ f) (d ∷ g) a b h =
    let p = cons_parts c d (f ++ a ∷ []) (g ++ b ∷ []) h in
    let q = snoc_parts f g a b p.1 in
    let r : c ∷ f ≡ d ∷ g = ap (λ x. x ∷ f) p.0 ∙ ap (λ l. d ∷ l) q.0 in
    (r, q.1)

-- the tokens before the end are those of the text
tokens_one : (source : List ℕ) (ts us : List Token) (a b : Token) → AreTokens source (ts ++ a ∷ []) → AreTokens source (us ++ b ∷ []) → (ts ≡ us) × (a ≡ b)
tokens_one source ts us a b l m = snoc_parts ts us a b (one_list source (ts ++ a ∷ []) (us ++ b ∷ []) l m)

-- ---- what the reader of a file says

module _ (source : List ℕ) (ts : List Token) (end : Token) (lexed : AreTokens source (ts ++ end ∷ [])) where
  -- what it reads to the end is spelled
  pub read_spells : (m : Module) → file (tokens_of source ts) ≡ Got m [] → Spells source m
  read_spells m h = record { tokens = ts; end = end; lexed = lexed; spelled = exact_ok exact_file (tokens_of source ts) m h }

  -- and what is spelled it reads to the end
  pub spells_read : (m : Module) → Spells source m → file (tokens_of source ts) ≡ Got m []
  spells_read m s = exact_only exact_file (tokens_of source ts) m (subst (λ us. File (tokens_of source us) m) (sym (tokens_one source ts s.tokens end s.end lexed s.lexed).0) s.spelled)

  -- where it stops the text is refused
  pub stop_refused : (rest : List Tok) (line column : ℕ) → file (tokens_of source ts) ≡ Stop rest → Stands rest end line column → IsRefused source line column
  stop_refused rest line column h s = record {
    tokens = ts;
    end = end;
    lexed = lexed;
    none = λ m l. let e : ◌≡◌ {A = Step Tok Module} (Got m []) (Stop rest) = sym (exact_only exact_file (tokens_of source ts) m l) ∙ h in cc;
    rest = rest;
    place = exact_place exact_file (tokens_of source ts) rest h;
    stands = s;
  }

  -- and at what stands behind the module
  pub left_refused : (m : Module) (t : Tok) (rest : List Tok) (line column : ℕ) → file (tokens_of source ts) ≡ Got m (t ∷ rest) → Stands (t ∷ rest) end line column → IsRefused source line column
  left_refused m t rest line column h s = record {
    tokens = ts;
    end = end;
    lexed = lexed;
    none = λ n l. let e : ◌≡◌ {A = Step Tok Module} (Got n []) (Got m (t ∷ rest)) = sym (exact_only exact_file (tokens_of source ts) n l) ∙ h in let z : [] ≡ t ∷ rest = cc in cc;
    rest = t ∷ rest;
    place = exact_left exact_file (tokens_of source ts) (t ∷ rest) m h;
    stands = s;
  }

  -- so the text spells a module, or it is refused
  pub decided : ((m : Module) × Spells source m) ⊎ ((line : ℕ) × ((column : ℕ) × IsRefused source line column))
  decided = by_step (file (tokens_of source ts)) refl
    where
      by_step : (o : Step Tok Module) → file (tokens_of source ts) ≡ o → ((m : Module) × Spells source m) ⊎ ((line : ℕ) × ((column : ℕ) × IsRefused source line column))
      by_step (Got m []) h = inl (m, read_spells m h)
      by_step (Got m (t ∷ rest)) h = inr (t.token.line, (t.token.column, left_refused m t rest t.token.line t.token.column h (refl, refl)))
      by_step (Stop []) h = inr (end.line, (end.column, stop_refused [] end.line end.column h (refl, refl)))
      by_step (Stop (t ∷ rest)) h = inr (t.token.line, (t.token.column, stop_refused (t ∷ rest) t.token.line t.token.column h (refl, refl)))

-- ---- texts

-- a text spells at most one module
pub spells_one : (source : List ℕ) (m n : Module) → Spells source m → Spells source n → m ≡ n
spells_one source m n s r =
    exact_one exact_file (tokens_of source s.tokens) m n s.spelled (subst (λ us. File (tokens_of source us) n) (sym (tokens_one source s.tokens r.tokens s.end r.end s.lexed r.lexed).0) r.spelled)

-- a text that spells a module is refused nowhere
pub spells_not_refused : (source : List ℕ) (m : Module) (line column : ℕ) → Spells source m → IsRefused source line column → ⊥
spells_not_refused source m line column s r =
    r.none m (subst (λ us. File (tokens_of source us) m) (tokens_one source s.tokens r.tokens s.end r.end s.lexed r.lexed).0 s.spelled)

stands_one : (rest : List Tok) (end : Token) (line column line2 column2 : ℕ) → Stands rest end line column → Stands rest end line2 column2 → (line ≡ line2) × (column ≡ column2)
stands_one [] end line column line2 column2 a b = (a.0 ∙ sym b.0, a.1 ∙ sym b.1)
stands_one (t ∷ rest) end line column line2 column2 a b = (a.0 ∙ sym b.0, a.1 ∙ sym b.1)

-- and a text is refused at one place
pub refused_one : (source : List ℕ) (line column line2 column2 : ℕ) → IsRefused source line column → IsRefused source line2 column2 → (line ≡ line2) × (column ≡ column2)
refused_one source line column line2 column2 a b =
    let e = tokens_one source a.tokens b.tokens a.end b.end a.lexed b.lexed in
    let p : IsPlace File (tokens_of source a.tokens) b.rest = subst (λ us. IsPlace File (tokens_of source us) b.rest) (sym e.0) b.place in
    let q = place_one (tokens_of source a.tokens) a.rest b.rest a.place p in
    let s : Stands b.rest a.end line column = subst (λ r. Stands r a.end line column) q a.stands in
    let t : Stands b.rest a.end line2 column2 = subst (λ x. Stands b.rest x line2 column2) (sym e.1) b.stands in
    stands_one b.rest a.end line column line2 column2 s t
