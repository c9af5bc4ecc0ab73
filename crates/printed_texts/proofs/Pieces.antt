-- Bytes that are cut into the tokens that spell a value.
use Rattle.std.proofs.Common.{◌≡◌, ℕ, ◌==◌, ◌&&◌, ◌||◌, not, Bool, true, false, if◌then◌else◌, List, [], ◌∷◌, ◌++◌, slice_index, Option, Some, None, refl, ap, ◌∙◌, subst, append_assoc, append-nil, inl, inr}
use Rattle.readers.specs.Languages.{Lang, Nothing, One, Both, Either, Many, none, more, Giving}
use Rattle.readers.proofs.Texts.{giving_text}
use Rattle.affine_lex.specs.Classes.{is_sign}
use Rattle.affine_lex.specs.Scan.{after_word}
use Rattle.std.specs.Char.{is_ascii_alphabetic, is_ascii_alphanumeric}
use Rattle.affine_lex.specs.declared.token.Kind.{Kind}
use Rattle.affine_lex.specs.declared.token.Kind.TheVariants as k
use Rattle.affine_lex.proofs.Written.{Piece, AreCut, cut_blank, cut_token, sign_again, is_pair}
use Rattle.affine_grammar.specs.Token.{Tok, sign}

-- ---- tokens of given kinds and texts

-- a token of a text with this kind and these bytes
abbrev pub tok : Piece → ℕ → ℕ → Tok
tok p line column = record { token = record { kind = p.0; text = p.1; line = line; column = column }; counted = true }

-- the tokens have these kinds and texts
abbrev pub Are : List Piece → List Tok → Type 0
Are [] us = us ≡ []
Are (p ∷ ps) us = (line : ℕ) × ((column : ℕ) × ((rest : List Tok) × ((us ≡ tok p line column ∷ rest) × Are ps rest)))

-- two lists of tokens, one behind the other
pub record Parted (ps qs : List Piece) (us : List Tok) : Type 0 where
  pub left : List Tok
  pub right : List Tok
  pub parts : us ≡ left ++ right
  pub first : Are ps left
  pub second : Are qs right

pub parted : (ps qs : List Piece) (us : List Tok) → Are (ps ++ qs) us → Parted ps qs us
parted [] qs us h = record { left = []; right = us; parts = refl; first = refl; second = h }
parted (p ∷ ps) qs us (line, (column, (rest, h))) =
    let i = parted ps qs rest h.1 in
    record { left = tok p line column ∷ i.left; right = i.right; parts = h.0 ∙ ap (λ r. tok p line column ∷ r) i.parts; first = (line, (column, (i.left, (refl, i.first)))); second = i.second }

-- ---- bytes that are cut into pieces

-- the sets of bytes of which words and names are made
abbrev pub is_word_first : ℕ → Bool
is_word_first b = is_ascii_alphabetic b || b == 95

abbrev pub is_word_byte : ℕ → Bool
is_word_byte b = is_ascii_alphanumeric b || b == 95 || b == 36 || b == 46

abbrev pub is_id_byte : ℕ → Bool
is_id_byte b = is_ascii_alphanumeric b || b == 95 || b == 36 || b == 46 || b == 45

abbrev pub is_white : ℕ → Bool
is_white b = b == 32 || b == 9 || b == 13 || b == 10

-- what ends a word, a name, a number and a sign that may begin a longer one
abbrev pub ends : List ℕ → Bool
ends r = not (is_id_byte (slice_index r 0)) && not (slice_index r 0 == 61)

-- what may follow: where the last token is open, what ends it
abbrev pub Closes : Bool → List ℕ → Type 0
Closes true r = ends r ≡ true
Closes false r = Unit {0}

abbrev pub Cuts : Bool → List ℕ → List Piece → Type 0
Cuts o b ps = (rest : List ℕ) (qs : List Piece) → Closes o rest → AreCut (after_word []) rest qs → AreCut (after_word []) (b ++ rest) (ps ++ qs)

-- the bytes may stand behind others, where those end with an open token
abbrev pub Joins : Bool → List ℕ → Bool → Type 0
Joins true b o = (r : List ℕ) → Closes o r → ends (b ++ r) ≡ true
Joins false b o = Unit {0}

pub join_cut : (o m : Bool) (a b : List ℕ) (ps qs : List Piece) → Cuts o a ps → Joins o b m → Cuts m b qs → Cuts m (a ++ b) (ps ++ qs)
join_cut true m a b ps qs f j g = λ rest more c h. rw (append_assoc a b rest, append_assoc ps qs more) (f (b ++ rest) (qs ++ more) (j rest c) (g rest more c h))
join_cut false m a b ps qs f j g = λ rest more c h. rw (append_assoc a b rest, append_assoc ps qs more) (f (b ++ rest) (qs ++ more) tt (g rest more c h))

-- ---- bytes that spell

-- the bytes are cut into tokens that spell the value
pub record Prints {A : Type 0} (o : Bool) (b : List ℕ) (L : Lang Tok A) (x : A) : Type 0 where
  pub pieces : List Piece
  pub cut : Cuts o b pieces
  pub spelled : (us : List Tok) → Are pieces us → L us x

pub seq : {A B : Type 0} {o m : Bool} {a b : List ℕ} {L : Lang Tok A} {K : A → Lang Tok B} {x : A} {y : B} → Prints o a L x → Joins o b m → Prints m b (K x) y → Prints m (a ++ b) (Both L K) y
seq {o = o} {m = m} {a = a} {b = b} {x = x} p j q = record {
  pieces = p.pieces ++ q.pieces;
  cut = join_cut o m a b p.pieces q.pieces p.cut j q.cut;
  spelled = λ us h. let i = parted p.pieces q.pieces us h in record { value = x; left = i.left; right = i.right; parts = i.parts; first = p.spelled i.left i.first; second = q.spelled i.right i.second };
}

pub prints_as : {A : Type 0} {o : Bool} {a b : List ℕ} {L : Lang Tok A} {x : A} → Prints o a L x → a ≡ b → Prints o b L x
prints_as {o = o} {L = L} {x = x} p e = subst (λ b. Prints o b L x) e p

pub loosen : {A : Type 0} {b : List ℕ} {L : Lang Tok A} {x : A} → Prints false b L x → Prints true b L x
loosen p = record { pieces = p.pieces; cut = λ rest qs c h. p.cut rest qs tt h; spelled = p.spelled }

-- the same tokens spell in another language
pub recast : {A B : Type 0} {o : Bool} {b : List ℕ} {L : Lang Tok A} {K : Lang Tok B} {x : A} {y : B} → Prints o b L x → ((us : List Tok) → L us x → K us y) → Prints o b K y
recast p f = record { pieces = p.pieces; cut = p.cut; spelled = λ us h. f us (p.spelled us h) }

pub in_left : {A : Type 0} {o : Bool} {b : List ℕ} {L K : Lang Tok A} {x : A} → Prints o b L x → Prints o b (Either L K) x
in_left p = recast p (λ us h. inl h)

pub in_right : {A : Type 0} {o : Bool} {b : List ℕ} {L K : Lang Tok A} {x : A} → Prints o b K x → Prints o b (Either L K) x
in_right p = recast p (λ us h. inr h)

pub giving : {A B : Type 0} {o : Bool} {b : List ℕ} {L : Lang Tok A} {x : A} (f : A → B) → Prints o b L x → Prints o b (Giving L f) (f x)
giving {x = x} f p = recast p (λ us h. giving_text f us x h)

pub nothing : {A : Type 0} {o : Bool} (x : A) → Prints o [] (Nothing x) x
nothing x = record { pieces = []; cut = λ rest qs c h. h; spelled = λ us h. (h, refl) }

pub no_item : {B : Type 0} {o : Bool} {L : B → Lang Tok B} (b : B) → Prints o [] (Many L b) b
no_item b = record { pieces = []; cut = λ rest qs c h. h; spelled = λ us h. none b us h }

pub item_then : {B : Type 0} {o m : Bool} {s t : List ℕ} {L : B → Lang Tok B} {b c d : B} → Prints o s (L b) c → Joins o t m → Prints m t (Many L c) d → Prints m (s ++ t) (Many L b) d
item_then {o = o} {m = m} {s = s} {t = t} {b = b} {c = c} {d = d} p j q = record {
  pieces = p.pieces ++ q.pieces;
  cut = join_cut o m s t p.pieces q.pieces p.cut j q.cut;
  spelled = λ us h. let i = parted p.pieces q.pieces us h in more b c d us i.left i.right i.parts (p.spelled i.left i.first) (q.spelled i.right i.second);
}

-- ---- blanks

pub blank_before : {A : Type 0} {o : Bool} {b : List ℕ} {L : Lang Tok A} {x : A} → Prints o b L x → Prints o (32 ∷ b) L x
blank_before {b = b} p = record { pieces = p.pieces; cut = λ rest qs c h. cut_blank (after_word []) 32 (b ++ rest) (p.pieces ++ qs) refl (p.cut rest qs c h); spelled = p.spelled }

blank_cut : Cuts false (32 ∷ []) []
blank_cut = λ rest qs c h. cut_blank (after_word []) 32 rest qs refl h

blank_joins : (o : Bool) → Joins o (32 ∷ []) false
blank_joins true = λ r c. refl
blank_joins false = tt

pub blank_behind : {A : Type 0} {o : Bool} {b : List ℕ} {L : Lang Tok A} {x : A} → Prints o b L x → Prints false (b ++ 32 ∷ []) L x
blank_behind {o = o} {b = b} p = record {
  pieces = p.pieces;
  cut = subst (λ ps. Cuts false (b ++ 32 ∷ []) ps) (append-nil p.pieces) (join_cut o false b (32 ∷ []) p.pieces [] p.cut (blank_joins o) blank_cut);
  spelled = p.spelled;
}

-- ---- one token

pub piece : {A : Type 0} {o : Bool} (kind : Kind) (text : List ℕ) (p : Tok → Option A) (x : A) → Cuts o text ((kind, text) ∷ []) → ((line column : ℕ) → p (tok (kind, text) line column) ≡ Some x) → Prints o text (One p) x
piece kind text p x c a = record {
  pieces = (kind, text) ∷ [];
  cut = c;
  spelled = λ us h. record { token = tok (kind, text) h.0 h.1.0; alone = h.1.1.1.0 ∙ ap (λ r. tok (kind, text) h.0 h.1.0 ∷ r) h.1.1.1.1; accepted = a h.0 h.1.0 };
}

-- a sign that ends by itself
pub tight_sign : (n : ℕ) → is_sign n ≡ true → is_white n ≡ false → (n == 47) ≡ false → (n == n) ≡ true → ((r : List ℕ) → is_pair n (slice_index r 0) ≡ false) → Prints false (n ∷ []) (One (sign n)) tt
tight_sign n s w c e p =
    piece (k.Punct n) (n ∷ []) (sign n) tt (λ rest qs t h. cut_token (after_word []) (k.Punct n) n [] rest qs w c (sign_again false n rest s (p rest)) h)
    (λ line column. ap (λ b. if b then Some tt else None) e)
