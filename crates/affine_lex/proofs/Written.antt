-- What was written as tokens is cut into these tokens again: for each form of token, the bytes behind
-- which it ends, and for a whole text, the tokens that its pieces are.
use Rattle.affine_lex.proofs.Tests.{true_no, eq_yes, eq_no}
use Rattle.std.proofs.Common.{◌≡◌, ℕ, suc, ◌+◌, ◌-◌, ◌^◌, ◌≤◌, ◌<◌, ◌==◌, ◌&&◌, ◌||◌, nat_le, ◌⊎◌, inl, inr, Bool, true, false, cond, List, [], ◌∷◌, ◌++◌, length, take, drop, slice_index, Some, refl, sym, ap, ◌∙◌, subst, length-append, arith}
use Rattle.std.proofs.lemmas.Bool.Decides.{nat_tests}
use Rattle.std.proofs.lemmas.List.{drop-drop, length-drop}
use Rattle.std.proofs.Math.Seq.{take-append_seam, drop-append_seam}
use Rattle.std.specs.Str.Parse.{digits_value}
use Rattle.affine_lex.specs.Classes.{is_in, is_sign, AllIn}
use Rattle.affine_lex.specs.Scan.{run, gap, gap_in, token, Lexeme, IsAt, in_sizes, after, past_gap, place, chosen}
use Rattle.affine_lex.specs.Tokens.{IsId, IsDigits, text_of, AreTokens}
use Rattle.affine_lex.proofs.Runs.{run_closed, word_first_word, id_first_id, digit_no_word, digit_no_id}
use Rattle.affine_lex.proofs.Shapes.{Shape, shape, name_shape, number_shape, settled, token_settled, at_seam, sign_plain}
use Rattle.affine_lex.proofs.Listed.{listed}
use Rattle.affine_lex.specs.declared.class.Class.TheVariants as class
use Rattle.affine_lex.specs.declared.token.Kind.{Kind}
use Rattle.affine_lex.specs.declared.token.Kind.TheVariants.{Word, Value, Alias, Symbol, Int, Punct, Arrow, GreaterEqual, LessEqual, Equal, Sizes, Bad, End}
use Rattle.affine_lex.specs.declared.token.Token.{Token}
use Rattle.affine_lex.specs.declared.lexer.Context.{Context}
use Rattle.affine_lex.specs.declared.lexer.Context.TheVariants as context

-- ---- one token, with what follows it

yes : (t : Bool) (x y z : Shape) → t ≡ true → x ≡ z → cond t x y ≡ z
yes true x y z h e = e
yes false x y z h e = absurd (true_no (sym h))

not_so : (t : Bool) (x y z : Shape) → t ≡ false → y ≡ z → cond t x y ≡ z
not_so true x y z h e = absurd (true_no h)
not_so false x y z h e = e

some_at : (k : Kind) (n m : ℕ) → n ≡ m → ◌≡◌ {A = Shape} (Some (k, n)) (Some (k, m))
some_at k n m e = ap (λ i. let s : Shape = Some (k, i) in s) e

of_shape : (sizes : Bool) (bytes : List ℕ) (s : Shape) → shape sizes bytes ≡ s → token sizes bytes ≡ settled s
of_shape sizes bytes s e = token_settled sizes bytes ∙ ap settled e

-- a word, where the next byte doesn't go on with it
pub word_again : (sizes : Bool) (b : ℕ) (w r : List ℕ) → is_in class.WordFirst b ≡ true → AllIn class.Word w → is_in class.Word (slice_index r 0) ≡ false → ◌≡◌ {A = Lexeme} (token sizes (b ∷ w ++ r)) (Word, length (b ∷ w))
word_again sizes b w r f a h = of_shape sizes (b ∷ w ++ r) (Some (Word, length (b ∷ w))) (yes (is_in class.WordFirst b) _ _ _ f (some_at Word _ _ (run_closed class.Word (b ∷ w) r (word_first_word b f, a) h)))

name_again : (kind : Kind) (digits : Bool) (sign : ℕ) (name r : List ℕ) → (IsId name × (is_in class.Id (slice_index r 0) ≡ false)) ⊎ ((digits ≡ true) × IsDigits name × (is_in class.Digit (slice_index r 0) ≡ false)) → name_shape kind digits (sign ∷ name ++ r) ≡ Some (kind, length (sign ∷ name))
name_again kind digits sign [] r (inl h) = absurd h.0
name_again kind digits sign [] r (inr h) = absurd h.1
name_again kind digits sign (b ∷ w) r (inl h) =
    let n : 1 + run class.Id (b ∷ w ++ r) ≡ length (sign ∷ b ∷ w) = omega (arith, run_closed class.Id (b ∷ w) r (id_first_id b h.0.0, h.0.1) h.1) in
    yes (is_in class.IdFirst b) _ _ _ h.0.0 (some_at kind _ _ n)
name_again kind digits sign (b ∷ w) r (inr h) =
    let n : 1 + run class.Digit (b ∷ w ++ r) ≡ length (sign ∷ b ∷ w) = omega (arith, run_closed class.Digit (b ∷ w) r h.1 h.2) in
    not_so (is_in class.IdFirst b) _ _ _ (digit_no_id b h.1.0) (yes (digits && is_in class.Digit b) _ _ _ (rw (h.0, h.1.0) refl) (some_at kind _ _ n))

-- the name of a value that is an id, where the next byte doesn't go on with it
pub value_again : (sizes : Bool) (name r : List ℕ) → IsId name → is_in class.Id (slice_index r 0) ≡ false → ◌≡◌ {A = Lexeme} (token sizes (37 ∷ name ++ r)) (Value, length (37 ∷ name))
value_again sizes name r i h = of_shape sizes (37 ∷ name ++ r) _ (name_again Value true 37 name r (inl (i, h)))

-- the name of a value that is digits, where the next byte is no digit
pub value_digits_again : (sizes : Bool) (name r : List ℕ) → IsDigits name → is_in class.Digit (slice_index r 0) ≡ false → ◌≡◌ {A = Lexeme} (token sizes (37 ∷ name ++ r)) (Value, length (37 ∷ name))
value_digits_again sizes name r d h = of_shape sizes (37 ∷ name ++ r) _ (name_again Value true 37 name r (inr (refl, d, h)))

-- the name of an alias, likewise
pub alias_again : (sizes : Bool) (name r : List ℕ) → IsId name → is_in class.Id (slice_index r 0) ≡ false → ◌≡◌ {A = Lexeme} (token sizes (35 ∷ name ++ r)) (Alias, length (35 ∷ name))
alias_again sizes name r i h = of_shape sizes (35 ∷ name ++ r) _ (name_again Alias false 35 name r (inl (i, h)))

-- the name of a function, likewise
pub symbol_again : (sizes : Bool) (name r : List ℕ) → IsId name → is_in class.Id (slice_index r 0) ≡ false → ◌≡◌ {A = Lexeme} (token sizes (64 ∷ name ++ r)) (Symbol, length (64 ∷ name))
symbol_again sizes name r i h = of_shape sizes (64 ∷ name ++ r) _ (name_again Symbol false 64 name r (inl (i, h)))

at_next : (x r : List ℕ) → slice_index (x ++ r) (length x) ≡ slice_index r 0
at_next [] r = refl
at_next (b ∷ x) r = at_next x r

number_again : (sizes : Bool) (x r : List ℕ) → AllIn class.Digit x → is_in class.Digit (slice_index r 0) ≡ false → (sizes && slice_index r 0 == 120) ≡ false → ◌≡◌ {A = Kind × ℕ} (number_shape sizes (x ++ r)) (Int (digits_value 10 x), length x)
number_again sizes x r a h s = by_length (run class.Digit (x ++ r)) (run_closed class.Digit x r a h)
  where
    next : slice_index (x ++ r) (length x) ≡ slice_index r 0
    next = at_next x r

    by_length : (n : ℕ) → n ≡ length x → ◌≡◌ {A = Kind × ℕ} (cond (sizes && slice_index (x ++ r) n == 120) (Sizes, n + 1) (Int (digits_value 10 (take n (x ++ r))), n)) (Int (digits_value 10 x), length x)
    by_length n e = rw (e, next, s, take-append_seam x r) refl

-- an integer of at most 2 ^ 63, where the next byte is no digit, and no `x` where sizes may stand
pub int_again : (sizes : Bool) (x r : List ℕ) → IsDigits x → is_in class.Digit (slice_index r 0) ≡ false → (sizes && slice_index r 0 == 120) ≡ false → digits_value 10 x ≤ 2 ^ 63 → ◌≡◌ {A = Lexeme} (token sizes (x ++ r)) (Int (digits_value 10 x), length x)
int_again sizes [] r d h s l = absurd d
int_again sizes (b ∷ w) r d h s l =
    let p : ◌≡◌ {A = Shape} (shape sizes (b ∷ w ++ r)) (Some (Int (digits_value 10 (b ∷ w)), length (b ∷ w))) = not_so (is_in class.WordFirst b) _ _ _ (digit_no_word b d.0) (yes (is_in class.Digit b) _ _ _ d.0 (ap (λ (q : Kind × ℕ). let o : Shape = Some q in o) (number_again sizes (b ∷ w) r d h s))) in
    of_shape sizes (b ∷ w ++ r) _ p ∙ small (digits_value 10 (b ∷ w)) (length (b ∷ w)) l
  where
    small : (v n : ℕ) → v ≤ 2 ^ 63 → ◌≡◌ {A = Lexeme} (cond (nat_le v (2 ^ 63)) (Int v) Bad, n) (Int v, n)
    small v n l = let t : nat_le v (2 ^ 63) ≡ true = grind (arith, nat_tests) in rw t refl

-- sizes, whatever follows
pub sizes_again : (x r : List ℕ) → IsDigits x → ◌≡◌ {A = Lexeme} (token true (x ++ 120 ∷ r)) (Sizes, length x + 1)
sizes_again [] r d = absurd d
sizes_again (b ∷ w) r d = of_shape true (b ∷ w ++ 120 ∷ r) (Some (Sizes, length (b ∷ w) + 1)) (not_so (is_in class.WordFirst b) _ _ _ (digit_no_word b d.0) (yes (is_in class.Digit b) _ _ _ d.0 (by_length (run class.Digit (b ∷ w ++ 120 ∷ r)) (run_closed class.Digit (b ∷ w) (120 ∷ r) d refl))))
  where
    by_length : (n : ℕ) → n ≡ length (b ∷ w) → ◌≡◌ {A = Shape} (Some (cond (slice_index (b ∷ w ++ 120 ∷ r) n == 120) (Sizes, n + 1) (Int (digits_value 10 (take n (b ∷ w ++ 120 ∷ r))), n))) (Some (Sizes, length (b ∷ w) + 1))
    by_length n e = rw (e, at_seam (b ∷ w) 120 r) refl

-- the byte and the next one are a token of two bytes
abbrev pub is_pair : ℕ → ℕ → Bool
is_pair b next = (b == 45 && next == 62) || (b == 62 && next == 61) || (b == 60 && next == 61) || (b == 61 && next == 61)

no_or : (a b : Bool) → (a || b) ≡ false → (a ≡ false) × (b ≡ false)
no_or true b h = absurd (true_no h)
no_or false b h = (refl, h)

no_pair : (b next : ℕ) → is_pair b next ≡ false → ((b == 45 && next == 62) ≡ false) × ((b == 62 && next == 61) ≡ false) × ((b == 60 && next == 61) ≡ false) × ((b == 61 && next == 61) ≡ false)
no_pair b next h =
    let x = no_or ((b == 45 && next == 62) || (b == 62 && next == 61) || (b == 60 && next == 61)) (b == 61 && next == 61) h in
    let y = no_or ((b == 45 && next == 62) || (b == 62 && next == 61)) (b == 60 && next == 61) x.0 in
    let z = no_or (b == 45 && next == 62) (b == 62 && next == 61) y.0 in
    (z.0, z.1, y.1, x.1)

-- a sign of one byte, where it and the next byte are none of two
pub sign_again : (sizes : Bool) (b : ℕ) (r : List ℕ) → is_sign b ≡ true → is_pair b (slice_index r 0) ≡ false → ◌≡◌ {A = Lexeme} (token sizes (b ∷ r)) (Punct b, 1)
sign_again sizes b r h n =
    let p = sign_plain b h in
    let q = no_pair b (slice_index r 0) n in
    of_shape sizes (b ∷ r) (Some (Punct b, 1)) (rw (p.0, p.1, p.2, p.3, p.4) (not_so (b == 45 && slice_index r 0 == 62) _ _ _ q.0 (not_so (b == 62 && slice_index r 0 == 61) _ _ _ q.1 (not_so (b == 60 && slice_index r 0 == 61) _ _ _ q.2 (not_so (b == 61 && slice_index r 0 == 61) _ _ _ q.3 (yes (is_sign b) _ _ _ h refl))))))

-- the signs of two bytes, whatever follows
pub arrow_again : (sizes : Bool) (r : List ℕ) → ◌≡◌ {A = Lexeme} (token sizes (45 ∷ 62 ∷ r)) (Arrow, 2)
arrow_again sizes r = of_shape sizes (45 ∷ 62 ∷ r) (Some (Arrow, 2)) refl

pub greater_equal_again : (sizes : Bool) (r : List ℕ) → ◌≡◌ {A = Lexeme} (token sizes (62 ∷ 61 ∷ r)) (GreaterEqual, 2)
greater_equal_again sizes r = of_shape sizes (62 ∷ 61 ∷ r) (Some (GreaterEqual, 2)) refl

pub less_equal_again : (sizes : Bool) (r : List ℕ) → ◌≡◌ {A = Lexeme} (token sizes (60 ∷ 61 ∷ r)) (LessEqual, 2)
less_equal_again sizes r = of_shape sizes (60 ∷ 61 ∷ r) (Some (LessEqual, 2)) refl

pub equal_again : (sizes : Bool) (r : List ℕ) → ◌≡◌ {A = Lexeme} (token sizes (61 ∷ 61 ∷ r)) (Equal, 2)
equal_again sizes r = of_shape sizes (61 ∷ 61 ∷ r) (Some (Equal, 2)) refl

-- ---- a whole text

-- a kind and a text
abbrev pub Piece : Type 0
Piece = Kind × List ℕ

-- The pieces are the tokens of what is left of a text, its end aside, behind tokens that end with the
-- context: each piece stands behind white space and comments, and is the token there.
abbrev pub AreCut : Context → List ℕ → List Piece → Type 0
AreCut c rest [] = gap rest ≡ length rest
AreCut c rest (p ∷ ps) = (more : List ℕ) × ((drop (gap rest) rest ≡ p.1 ++ more) × (0 < length p.1) × (token (in_sizes c) (p.1 ++ more) ≡ (p.0, length p.1)) × AreCut (after c p.0 p.1) more ps)

-- nothing is left
pub cut_nothing : (c : Context) → AreCut c [] []
unfolding gap
cut_nothing c = refl

gap_blank : (b : ℕ) (rest : List ℕ) → is_in class.White b ≡ true → gap (b ∷ rest) ≡ suc (gap rest)
unfolding gap
gap_blank b rest h = ap (λ v. cond v (suc (gap_in false rest)) (cond (b == 47 && slice_index rest 0 == 47) (suc (gap_in true rest)) 0)) h

gap_none : (b : ℕ) (rest : List ℕ) → is_in class.White b ≡ false → (b == 47) ≡ false → gap (b ∷ rest) ≡ 0
unfolding gap
gap_none b rest h s = ap (λ v. cond v (suc (gap_in false rest)) (cond (b == 47 && slice_index rest 0 == 47) (suc (gap_in true rest)) 0)) h ∙ ap (λ v. cond (v && slice_index rest 0 == 47) (suc (gap_in true rest)) 0) s

-- a blank more
pub cut_blank : (c : Context) (b : ℕ) (rest : List ℕ) (ps : List Piece) → is_in class.White b ≡ true → AreCut c rest ps → AreCut c (b ∷ rest) ps
cut_blank c b rest [] h i = gap_blank b rest h ∙ ap suc i
cut_blank c b rest (p ∷ ps) h i = (i.0, (ap (λ n. drop n (b ∷ rest)) (gap_blank b rest h) ∙ i.1.0, i.1.1, i.1.2, i.1.3))

-- a token more
pub cut_token : (c : Context) (k : Kind) (b : ℕ) (w rest : List ℕ) (ps : List Piece) → is_in class.White b ≡ false → (b == 47) ≡ false → token (in_sizes c) (b ∷ w ++ rest) ≡ (k, length (b ∷ w)) → AreCut (after c k (b ∷ w)) rest ps → AreCut c (b ∷ w ++ rest) ((k, b ∷ w) ∷ ps)
cut_token c k b w rest ps h s t i = (rest, (ap (λ n. drop n (b ∷ w ++ rest)) (gap_none b (w ++ rest) h s), omega arith, t, i))

-- the kinds and texts of tokens
abbrev pub pieces : List ℕ → List Token → List Piece
pieces s [] = []
pieces s (t ∷ ts) = (t.kind, text_of s t) ∷ pieces s ts

-- there are tokens from a place on, whose pieces are these and the end
record HasPieces (s : List ℕ) (from : ℕ) (c : Context) (ps : List Piece) : Type 0 where
  found : List Token
  are : IsAt s from c found
  same : pieces s found ≡ ps ++ (End, []) ∷ []

chosen_yes : (v : Bool) (A B : Type 0) → v ≡ true → A → chosen v A B
chosen_yes true A B h a = a
chosen_yes false A B h a = absurd (true_no (sym h))

chosen_no : (v : Bool) (A B : Type 0) → v ≡ false → B → chosen v A B
chosen_no true A B h b = absurd (true_no h)
chosen_no false A B h b = b

at_end : (s : List ℕ) (from : ℕ) (c : Context) → from ≡ length s → HasPieces s from c []
at_end s from c e =
    let t : Token = record { kind = End; from = from; to = from; line = (place (take from s)).line; column = (place (take from s)).column } in
    let n : from - from ≡ 0 = omega arith in
    record { found = t ∷ []; are = (refl, refl, chosen_yes (from == length s) _ _ (eq_yes from (length s) e) (refl, refl, refl)); same = ap (λ m. let p : Piece = (End, take m (drop from s)) in p ∷ []) n }

at_token : (s : List ℕ) (from : ℕ) (c : Context) (p : Piece) (ps : List Piece) (more : List ℕ) → drop from s ≡ p.1 ++ more → 0 < length p.1 → token (in_sizes c) (p.1 ++ more) ≡ (p.0, length p.1) → HasPieces s (past_gap s (from + length p.1)) (after c p.0 p.1) ps → HasPieces s from c (p ∷ ps)
at_token s from c p ps more d z e h =
    let t : Token = record { kind = p.0; from = from; to = from + length p.1; line = (place (take from s)).line; column = (place (take from s)).column } in
    let n : from + length p.1 - from ≡ length p.1 = omega arith in
    let x : text_of s t ≡ p.1 = ap (λ m. take m (drop from s)) n ∙ ap (λ l. take (length p.1) l) d ∙ take-append_seam p.1 more in
    let q : ◌≡◌ {A = Lexeme} (p.0, length p.1) (token (in_sizes c) (drop from s)) = sym (ap (λ l. token (in_sizes c) l) d ∙ e) in
    let l : from < length s = omega (arith, z, ap (λ (y : List ℕ). length y) d, length-append p.1 more, length-drop from s) in
    let a : IsAt s (past_gap s (from + length p.1)) (after c p.0 (text_of s t)) h.found = subst (λ y. IsAt s (past_gap s (from + length p.1)) (after c p.0 y) h.found) (sym x) h.are in
    let k : p.0 ≡ (token (in_sizes c) (drop from s)).0 = ap (λ (y : Lexeme). y.0) q in
    let o : from + length p.1 ≡ from + (token (in_sizes c) (drop from s)).1 = ap (λ (y : Lexeme). from + y.1) q in
    record { found = t ∷ h.found; are = (refl, refl, chosen_no (from == length s) _ _ (eq_no from (length s) l) (k, o, a)); same = ap (λ y. let r : Piece = (p.0, y) in r ∷ pieces s h.found) x ∙ ap (λ (y : List Piece). p ∷ y) h.same }

cut_from : (s : List ℕ) (ps : List Piece) (at : ℕ) (c : Context) → at ≤ length s → AreCut c (drop at s) ps → HasPieces s (past_gap s at) c ps
cut_from s [] at c h i = at_end s (past_gap s at) c (omega (arith, i, length-drop at s, h))
cut_from s (p ∷ ps) at c h i =
    let d : drop (past_gap s at) s ≡ p.1 ++ i.0 = sym (drop-drop (gap (drop at s)) at s) ∙ i.1.0 in
    let m : drop (past_gap s at + length p.1) s ≡ i.0 = sym (drop-drop (length p.1) (past_gap s at) s) ∙ ap (λ l. drop (length p.1) l) d ∙ drop-append_seam p.1 i.0 in
    let w : past_gap s at + length p.1 ≤ length s = omega (arith, i.1.1, ap (λ (y : List ℕ). length y) d, length-append p.1 i.0, length-drop (past_gap s at) s) in
    at_token s (past_gap s at) c p ps i.0 d i.1.1 i.1.2 (cut_from s ps (past_gap s at + length p.1) (after c p.0 p.1) w (subst (λ l. AreCut (after c p.0 p.1) l ps) (sym m) i.1.3))

-- a text that is cut into pieces has tokens of these kinds and texts, and then its end
pub cut_tokens : (s : List ℕ) (ps : List Piece) → AreCut context.Plain s ps → (ts : List Token) × (AreTokens s ts × (pieces s ts ≡ ps ++ (End, []) ∷ []))
cut_tokens s ps i = let h = cut_from s ps 0 context.Plain (omega arith) i in (h.found, (listed s h.found h.are, h.same))
