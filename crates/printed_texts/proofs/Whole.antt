-- Whole texts: the printed text of what a text spells spells it again.
use Rattle.std.proofs.Common.{◌≡◌, ℕ, ◌+◌, ◌≤◌, ◌<◌, ◌^◌, nat_le, cond, Bool, true, false, List, [], ◌∷◌, ◌++◌, length, refl, sym, ap, subst, append-nil, inl, inr, arith}
use Rattle.affine_lex.specs.declared.token.Kind.{Kind}
use Rattle.affine_lex.specs.declared.token.Kind.TheVariants as k
use Rattle.affine_lex.specs.declared.token.Token.{Token}
use Rattle.affine_lex.specs.Tokens.{HasForm, IsFront, GoOn, AreTokens, kind_of, text_of, end_of}
use Rattle.affine_lex.specs.Scan.{after_word}
use Rattle.affine_lex.proofs.Written.{Piece, AreCut, pieces, cut_tokens, cut_nothing}
use Rattle.affine_ast.specs.declared.module.Module.{Module}
use Rattle.affine_ast.specs.Spelling.{spelling}
use Rattle.affine_grammar.specs.Token.{Tok}
use Rattle.affine_grammar.specs.GrammarFile.{File}
use Rattle.affine_grammar.specs.Spelling.{tokens_of, Spells}
use Rattle.printed_texts.specs.Nesting.{ModuleNests}
use Rattle.printed_texts.specs.Lines.{AreSameButLines}
use Rattle.printed_texts.proofs.Pieces.{tok, Are}
use Rattle.printed_texts.proofs.Given.{HasNameForm, AllGiven, Given}
use Rattle.printed_texts.proofs.Blocks.{Writes}
use Rattle.printed_texts.proofs.Comments.{IsGap, cut_behind}
use Rattle.printed_texts.proofs.Modules.{ToldFunction, module_again}

-- ---- the tokens of a given text

name_form : (sizes : Bool) (form : Kind) (text : List ℕ) → HasForm sizes form text → HasNameForm (kind_of form) text
name_form sizes k.Word text h = tt
name_form sizes k.Value text h = h
name_form sizes k.Alias text h = tt
name_form sizes k.Symbol text h = h
name_form sizes (k.Int v) text h = by_test (nat_le v (2 ^ 63))
  where
    by_test : (t : Bool) → HasNameForm (cond t (k.Int v) k.Bad) text
    by_test true = tt
    by_test false = tt
name_form sizes (k.Punct b) text h = tt
name_form sizes k.Arrow text h = tt
name_form sizes k.GreaterEqual text h = tt
name_form sizes k.LessEqual text h = tt
name_form sizes k.Equal text h = tt
name_form sizes k.Sizes text h = tt
name_form sizes k.Bad text h = tt
name_form sizes k.End text h = tt

front_form : (sizes : Bool) (bytes : List ℕ) (kind : Kind) (text : List ℕ) → IsFront sizes bytes kind text → HasNameForm kind text
front_form sizes bytes kind text (inl i) = subst (λ x. HasNameForm x text) (sym i.1.1) (name_form sizes i.0 text i.1.0.formed)
front_form sizes bytes kind text (inr i) = subst (λ x. HasNameForm x text) (sym i.2) tt

snoc_some : (ts : List Token) (end : Token) → ts ++ end ∷ [] ≡ [] → ⊥
snoc_some [] end h = cc
snoc_some (t ∷ ts) end h = cc

-- each token is given, and there are no more of them than bytes
record GivenTokens (s : List ℕ) (earlier ts : List Token) : Type 0 where
  all : AllGiven (tokens_of s ts)
  few : end_of earlier + length (tokens_of s ts) ≤ length s

given_tokens : (s : List ℕ) (ts earlier : List Token) (end : Token) → GoOn s earlier (ts ++ end ∷ []) → GivenTokens s earlier ts
given_tokens s [] earlier end (p, inl i) = let b = p.behind in record { all = tt; few = omega (arith, b, i.0.from) }
given_tokens s [] earlier end (p, inr i) = absurd i.1
given_tokens s (t ∷ ts) earlier end (p, inl i) = absurd (snoc_some ts end i.1)
given_tokens s (t ∷ ts) earlier end (p, inr i) =
    let r = given_tokens s ts (t ∷ earlier) end i.1 in
    record {
      all = (record { counted = refl; form = front_form _ _ t.kind (text_of s t) i.0.front }, r.all);
      few = omega (arith, r.few, p.behind, i.0.order);
    }

pub given_text : (s : List ℕ) (ts : List Token) (end : Token) → length s < 2 ^ 64 → AreTokens s (ts ++ end ∷ []) → Given (tokens_of s ts)
given_text s ts end l h = let g = given_tokens s ts [] end h.whole in record { all = g.all; few = omega (arith, l, g.few) }

-- ---- the tokens of the printed text

-- the tokens before the end have these kinds and texts
record Printed (s : List ℕ) (ps : List Piece) (ts : List Token) : Type 0 where
  before : List Token
  last : Token
  parts : ts ≡ before ++ last ∷ []
  are : Are ps (tokens_of s before)

cons_head : (p q : Piece) (ps qs : List Piece) → p ∷ ps ≡ q ∷ qs → p ≡ q
cons_head p q ps qs h = cc

cons_tail : (p q : Piece) (ps qs : List Piece) → p ∷ ps ≡ q ∷ qs → ps ≡ qs
cons_tail p q ps qs h = cc

no_pieces : (s : List ℕ) (ts : List Token) → pieces s ts ≡ [] → ts ≡ []
no_pieces s [] h = refl
no_pieces s (t ∷ ts) h = absurd cc

tokens_printed : (s : List ℕ) (ps : List Piece) (e : Piece) (ts : List Token) → pieces s ts ≡ ps ++ e ∷ [] → Printed s ps ts
tokens_printed s [] e [] h = absurd cc
tokens_printed s [] e (t ∷ ts) h =
    let n = no_pieces s ts (cons_tail (t.kind, text_of s t) e (pieces s ts) [] h) in
    record { before = []; last = t; parts = ap (λ (l : List Token). t ∷ l) n; are = refl }
tokens_printed s (p ∷ ps) e [] h = absurd cc
tokens_printed s (p ∷ ps) e (t ∷ ts) h =
    let r = tokens_printed s ps e ts (cons_tail (t.kind, text_of s t) p (pieces s ts) (ps ++ e ∷ []) h) in
    let q : (t.kind, text_of s t) ≡ p = cons_head (t.kind, text_of s t) p (pieces s ts) (ps ++ e ∷ []) h in
    let u : ◌≡◌ {A = List Tok} (tokens_of s (t ∷ r.before)) (tok p t.line t.column ∷ tokens_of s r.before) = ap (λ (x : Piece). tok x t.line t.column ∷ tokens_of s r.before) q in
    record { before = t ∷ r.before; last = r.last; parts = ap (λ (l : List Token). t ∷ l) r.parts; are = (t.line, (t.column, (tokens_of s r.before, (u, r.are)))) }

-- ---- both

-- bytes that are cut into the pieces of the printed text spell what it spells
cut_spells : (m : Module) (bytes : List ℕ) (w : Writes false (spelling m) File (AreSameButLines m)) → AreCut (after_word []) bytes w.pieces → (n : Module) × (AreSameButLines m n × Spells bytes n)
cut_spells m bytes w c =
    let t = cut_tokens bytes w.pieces c in
    let r = tokens_printed bytes w.pieces (k.End, []) t.0 t.1.1 in
    let y = w.spelled (tokens_of bytes r.before) r.are in
    (y.0, (y.1.0, record { tokens = r.before; end = r.last; lexed = subst (λ ts. AreTokens bytes ts) r.parts t.1.0; spelled = y.1.1 }))

printed_cut : (m : Module) (w : Writes false (spelling m) File (AreSameButLines m)) → AreCut (after_word []) (spelling m) w.pieces
printed_cut m w = subst (λ b. AreCut (after_word []) b w.pieces) (append-nil (spelling m)) (subst (λ ps. AreCut (after_word []) (spelling m ++ []) ps) (append-nil w.pieces) (w.cut [] [] tt nothing_left))
  where
    nothing_left : AreCut (after_word []) [] []
    nothing_left = cut_nothing (after_word [])

-- Behind lines of comments it does too.
pub told_spells_behind : (front : List ℕ) (m : Module) → IsGap front → ToldFunction m → ModuleNests m → (n : Module) × (AreSameButLines m n × Spells (front ++ spelling m) n)
told_spells_behind front m g t n =
    let w = module_again m t n in
    cut_spells m (front ++ spelling m) w (cut_behind front (spelling m) w.pieces g (printed_cut m w))
