-- Single tokens of printed texts.
use Rattle.std.proofs.Common.{◌≡◌, ℕ, ◌==◌, ◌&&◌, ◌||◌, ◌≤◌, ◌<◌, ◌^◌, not, Bool, true, false, cond, if◌then◌else◌, List, [], ◌∷◌, ◌++◌, slice_index, length, Option, Some, None, decimal, refl, sym, ap, subst, inl, inr, bytes_eq, codes, arith, suc, nat_le}
use Rattle.std.proofs.lemmas.Bool.Decides.{nat_tests}
use Rattle.std.proofs.lemmas.Str.Parse.{digit_from_value}
use Rattle.std.proofs.lemmas.Fmt.{decimal_is_IsNumeral_wide}
use Rattle.std.specs.Char.{is_ascii_digit}
use Rattle.std.specs.Str.Parse.{digits_value, AllDigits}
use Rattle.readers.specs.Languages.{Lang, One, Both}
use Rattle.affine_lex.specs.Classes.{is_sign}
use Rattle.affine_lex.specs.Scan.{after_word}
use Rattle.affine_lex.specs.Tokens.{IsId, IsDigits, HasForm}
use Rattle.affine_lex.specs.declared.token.Kind.TheVariants as k
use Rattle.affine_lex.proofs.Tests.{true_no, and_left, and_right}
use Rattle.affine_lex.proofs.Written.{AreCut, cut_token, word_again, value_again, value_digits_again, symbol_again, int_again, sign_again, arrow_again, greater_equal_again, less_equal_again, equal_again, is_pair}
use Rattle.affine_grammar.specs.Token.{Tok, sign, word}
pub use Rattle.printed_texts.specs.Writable.{IsValueName}
use Rattle.printed_texts.proofs.Pieces.{tok, ends, is_word_first, is_word_byte, is_id_byte, is_white, Cuts, Closes, Prints, piece, tight_sign, blank_before, blank_behind}

-- ---- what ends a token

pub ends_id : (r : List ℕ) → ends r ≡ true → is_id_byte (slice_index r 0) ≡ false
ends_id r h = by_test (is_id_byte (slice_index r 0)) (and_left (not (is_id_byte (slice_index r 0))) _ h)
  where
    by_test : (v : Bool) → not v ≡ true → v ≡ false
    by_test true e = absurd (true_no (sym e))
    by_test false e = refl

ends_equals : (r : List ℕ) → ends r ≡ true → (slice_index r 0 == 61) ≡ false
ends_equals r h = by_test (slice_index r 0 == 61) (and_right (not (is_id_byte (slice_index r 0))) _ h)
  where
    by_test : (v : Bool) → not v ≡ true → v ≡ false
    by_test true e = absurd (true_no (sym e))
    by_test false e = refl

pub id_word : (b : ℕ) → is_id_byte b ≡ false → is_word_byte b ≡ false
id_word b h = grind (arith, nat_tests)

id_digit : (b : ℕ) → is_id_byte b ≡ false → is_ascii_digit b ≡ false
id_digit b h = grind (arith, nat_tests)

-- ---- signs

pub tight_piece : {A : Type 0} (n : ℕ) (p : Tok → Option A) (x : A) → is_sign n ≡ true → is_white n ≡ false → (n == 47) ≡ false → ((r : List ℕ) → is_pair n (slice_index r 0) ≡ false) → ((line column : ℕ) → p (tok (k.Punct n, n ∷ []) line column) ≡ Some x) → Prints false (n ∷ []) (One p) x
tight_piece n p x s w c i a = piece (k.Punct n) (n ∷ []) p x (λ rest qs t h. cut_token (after_word []) (k.Punct n) n [] rest qs w c (sign_again false n rest s (i rest)) h) a

-- a sign that may begin one of two bytes
open_sign : (n : ℕ) → is_sign n ≡ true → is_white n ≡ false → (n == 47) ≡ false → (n == n) ≡ true → ((m : ℕ) → (m == 61) ≡ false → is_pair n m ≡ false) → Prints true (n ∷ []) (One (sign n)) tt
open_sign n s w c e p =
    piece (k.Punct n) (n ∷ []) (sign n) tt (λ rest qs t h. cut_token (after_word []) (k.Punct n) n [] rest qs w c (sign_again false n rest s (p (slice_index rest 0) (ends_equals rest t))) h)
    (λ line column. ap (λ b. if b then Some tt else None) e)

pub equals_sign : Prints true (61 ∷ []) (One (sign 61)) tt
equals_sign = open_sign 61 refl refl refl refl (λ m h. h)

pub less_sign : Prints true (60 ∷ []) (One (sign 60)) tt
less_sign = open_sign 60 refl refl refl refl (λ m h. ap (λ b. b || false) h)

pub greater_sign : Prints true (62 ∷ []) (One (sign 62)) tt
greater_sign = open_sign 62 refl refl refl refl (λ m h. ap (λ b. b || false || false) h)

pub open_paren : Prints false (40 ∷ []) (One (sign 40)) tt
open_paren = tight_sign 40 refl refl refl refl (λ r. refl)

pub close_paren : Prints false (41 ∷ []) (One (sign 41)) tt
close_paren = tight_sign 41 refl refl refl refl (λ r. refl)

pub star_sign : Prints false (42 ∷ []) (One (sign 42)) tt
star_sign = tight_sign 42 refl refl refl refl (λ r. refl)

pub plus_sign : Prints false (43 ∷ []) (One (sign 43)) tt
plus_sign = tight_sign 43 refl refl refl refl (λ r. refl)

pub comma_sign : Prints false (44 ∷ []) (One (sign 44)) tt
comma_sign = tight_sign 44 refl refl refl refl (λ r. refl)

pub colon_sign : Prints false (58 ∷ []) (One (sign 58)) tt
colon_sign = tight_sign 58 refl refl refl refl (λ r. refl)

pub open_square : Prints false (91 ∷ []) (One (sign 91)) tt
open_square = tight_sign 91 refl refl refl refl (λ r. refl)

pub close_square : Prints false (93 ∷ []) (One (sign 93)) tt
close_square = tight_sign 93 refl refl refl refl (λ r. refl)

pub open_brace : Prints false (123 ∷ []) (One (sign 123)) tt
open_brace = tight_sign 123 refl refl refl refl (λ r. refl)

pub close_brace : Prints false (125 ∷ []) (One (sign 125)) tt
close_brace = tight_sign 125 refl refl refl refl (λ r. refl)

-- the bytes don't begin with `>`, whatever follows them
abbrev pub NoArrow : Bool → List ℕ → Type 0
NoArrow o b = (r : List ℕ) → Closes o r → (slice_index (b ++ r) 0 == 62) ≡ false

-- a `-`, and what stands behind it
pub minus_then : {A : Type 0} {o : Bool} {b : List ℕ} {L : Lang Tok A} {x : A} → Prints o b L x → NoArrow o b → Prints o (45 ∷ b) (Both (One (sign 45)) (λ _. L)) x
minus_then {b = b} {x = x} p a = record {
  pieces = (k.Punct 45, 45 ∷ []) ∷ p.pieces;
  cut = λ rest qs c h. cut_token (after_word []) (k.Punct 45) 45 [] (b ++ rest) (p.pieces ++ qs) refl refl (sign_again false 45 (b ++ rest) refl (ap (λ v. v || false || false || false) (a rest c))) (p.cut rest qs c h);
  spelled = λ us h. record { value = tt; left = tok (k.Punct 45, 45 ∷ []) h.0 h.1.0 ∷ []; right = h.1.1.0; parts = h.1.1.1.0; first = record { token = tok (k.Punct 45, 45 ∷ []) h.0 h.1.0; alone = refl; accepted = refl }; second = p.spelled h.1.1.0 h.1.1.1.1 };
}

-- the four signs of two bytes and the arrow end by themselves
pub arrow_piece : {A : Type 0} (p : Tok → Option A) (x : A) → ((line column : ℕ) → p (tok (k.Arrow, codes "->") line column) ≡ Some x) → Prints false (codes "->") (One p) x
arrow_piece p x a = piece k.Arrow (codes "->") p x (λ rest qs t h. cut_token (after_word []) k.Arrow 45 (62 ∷ []) rest qs refl refl (arrow_again false rest) h) a

pub greater_equal_piece : {A : Type 0} (p : Tok → Option A) (x : A) → ((line column : ℕ) → p (tok (k.GreaterEqual, codes ">=") line column) ≡ Some x) → Prints false (codes ">=") (One p) x
greater_equal_piece p x a = piece k.GreaterEqual (codes ">=") p x (λ rest qs t h. cut_token (after_word []) k.GreaterEqual 62 (61 ∷ []) rest qs refl refl (greater_equal_again false rest) h) a

pub less_equal_piece : {A : Type 0} (p : Tok → Option A) (x : A) → ((line column : ℕ) → p (tok (k.LessEqual, codes "<=") line column) ≡ Some x) → Prints false (codes "<=") (One p) x
less_equal_piece p x a = piece k.LessEqual (codes "<=") p x (λ rest qs t h. cut_token (after_word []) k.LessEqual 60 (61 ∷ []) rest qs refl refl (less_equal_again false rest) h) a

pub equal_piece : {A : Type 0} (p : Tok → Option A) (x : A) → ((line column : ℕ) → p (tok (k.Equal, codes "==") line column) ≡ Some x) → Prints false (codes "==") (One p) x
equal_piece p x a = piece k.Equal (codes "==") p x (λ rest qs t h. cut_token (after_word []) k.Equal 61 (61 ∷ []) rest qs refl refl (equal_again false rest) h) a

-- ---- words

abbrev pub all_word : List ℕ → Bool
all_word [] = true
all_word (b ∷ w) = is_word_byte b && all_word w

-- a word, and not `memref`
abbrev pub is_keyword : List ℕ → Bool
is_keyword [] = false
is_keyword (b ∷ w) = is_word_first b && (all_word w && not (bytes_eq (b ∷ w) (codes "memref")))

pub word_form : (b : ℕ) (w : List ℕ) → is_word_first b ≡ true → all_word w ≡ true → HasForm false k.Word (b ∷ w)
word_form b [] f h = (f, tt)
word_form b (c ∷ w) f h = (f, (and_left (is_word_byte c) (all_word w) h, (word_form b w f (and_right (is_word_byte c) (all_word w) h)).1))

word_no_white : (b : ℕ) → is_word_first b ≡ true → is_white b ≡ false
word_no_white b h = grind (arith, nat_tests)

word_no_slash : (b : ℕ) → is_word_first b ≡ true → (b == 47) ≡ false
word_no_slash b h = grind (arith, nat_tests)

not_true : (v : Bool) → not v ≡ true → v ≡ false
not_true true e = absurd (true_no (sym e))
not_true false e = refl

word_cut : (w : List ℕ) → is_keyword w ≡ true → Cuts true w ((k.Word, w) ∷ [])
word_cut [] h = absurd (true_no (sym h))
word_cut (b ∷ w) h = λ rest qs c a.
    let f = and_left (is_word_first b) _ h in
    let g = and_right (is_word_first b) _ h in
    let i = word_form b w f (and_left (all_word w) _ g) in
    let m : bytes_eq (b ∷ w) (codes "memref") ≡ false = not_true (bytes_eq (b ∷ w) (codes "memref")) (and_right (all_word w) _ g) in
    cut_token (after_word []) k.Word b w rest qs (word_no_white b f) (word_no_slash b f) (word_again false b w rest f i.1 (id_word (slice_index rest 0) (ends_id rest c)))
    (subst (λ v. AreCut (cond v (after_word (codes "memref")) (after_word [])) rest qs) (sym m) a)

pub word_piece : {A : Type 0} (w : List ℕ) (p : Tok → Option A) (x : A) → is_keyword w ≡ true → ((line column : ℕ) → p (tok (k.Word, w) line column) ≡ Some x) → Prints true w (One p) x
word_piece w p x h a = piece k.Word w p x (word_cut w h) a

pub keyword : (w : List ℕ) → is_keyword w ≡ true → bytes_eq w w ≡ true → Prints true w (One (word w)) tt
keyword w h e = word_piece w (word w) tt h (λ line column. ap (λ b. if b then Some tt else None) e)

-- ---- names

name_cut : (w : List ℕ) → IsValueName w → Cuts true (37 ∷ w) ((k.Value, 37 ∷ w) ∷ [])
name_cut w (inl i) = λ rest qs c h. cut_token (after_word []) k.Value 37 w rest qs refl refl (value_again false w rest i (ends_id rest c)) h
name_cut w (inr d) = λ rest qs c h. cut_token (after_word []) k.Value 37 w rest qs refl refl (value_digits_again false w rest d (id_digit (slice_index rest 0) (ends_id rest c))) h

pub name_piece : {A : Type 0} (w : List ℕ) (p : Tok → Option A) (x : A) → IsValueName w → ((line column : ℕ) → p (tok (k.Value, 37 ∷ w) line column) ≡ Some x) → Prints true (37 ∷ w) (One p) x
name_piece w p x i a = piece k.Value (37 ∷ w) p x (name_cut w i) a

pub function_piece : {A : Type 0} (w : List ℕ) (p : Tok → Option A) (x : A) → IsId w → ((line column : ℕ) → p (tok (k.Symbol, 64 ∷ w) line column) ≡ Some x) → Prints true (64 ∷ w) (One p) x
function_piece w p x i a = piece k.Symbol (64 ∷ w) p x (λ rest qs c h. cut_token (after_word []) k.Symbol 64 w rest qs refl refl (symbol_again false w rest i (ends_id rest c)) h) a

-- ---- numbers

digit_byte : (b : ℕ) → 48 ≤ b → b ≤ 57 → is_ascii_digit b ≡ true
digit_byte b l m = grind (arith, nat_tests)

digits_form : (b : ℕ) (w : List ℕ) → AllDigits 10 (b ∷ w) → IsDigits (b ∷ w)
digits_form b [] h = let r = digit_from_value b h.0 in (digit_byte b r.0 r.1, tt)
digits_form b (c ∷ w) h = let r = digit_from_value b h.0 in let i = digits_form c w h.1 in (digit_byte b r.0 r.1, i)

some_digits : (w : List ℕ) → 0 < length w → AllDigits 10 w → IsDigits w
some_digits [] l h = absurd (omega (arith, l))
some_digits (b ∷ w) l h = digits_form b w h

wide : (n : ℕ) → n < 2 ^ 64 → n < 10 ^ 64
wide n h = omega (arith, h)

pub decimal_digits : (n : ℕ) → n < 2 ^ 64 → IsDigits (decimal n)
decimal_digits n h = let i = decimal_is_IsNumeral_wide n (wide n h) in some_digits (decimal n) i.0.0 i.0.1

pub decimal_value : (n : ℕ) → n < 2 ^ 64 → digits_value 10 (decimal n) ≡ n
decimal_value n h = (decimal_is_IsNumeral_wide n (wide n h)).1

pub digit_no_white : (b : ℕ) → is_ascii_digit b ≡ true → is_white b ≡ false
digit_no_white b h = grind (arith, nat_tests)

pub digit_no_slash : (b : ℕ) → is_ascii_digit b ≡ true → (b == 47) ≡ false
digit_no_slash b h = grind (arith, nat_tests)

digits_cut : (w : List ℕ) → IsDigits w → digits_value 10 w ≤ 2 ^ 63 → Cuts true w ((k.Int (digits_value 10 w), w) ∷ [])
digits_cut [] i l = absurd i
digits_cut (b ∷ w) i l = λ rest qs c h. cut_token (after_word []) (k.Int (digits_value 10 (b ∷ w))) b w rest qs (digit_no_white b i.0) (digit_no_slash b i.0) (int_again false (b ∷ w) rest i (id_digit (slice_index rest 0) (ends_id rest c)) refl l) h

pub number_piece : {A : Type 0} (n : ℕ) (p : Tok → Option A) (x : A) → n ≤ 2 ^ 63 → ((line column : ℕ) → p (tok (k.Int n, decimal n) line column) ≡ Some x) → Prints true (decimal n) (One p) x
number_piece n p x l a =
    let s : n < 2 ^ 64 = omega (arith, l) in
    let v = decimal_value n s in
    piece (k.Int n) (decimal n) p x (subst (λ m. Cuts true (decimal n) ((k.Int m, decimal n) ∷ [])) v (digits_cut (decimal n) (decimal_digits n s) (omega (arith, v, l)))) a

digit_no_arrow : (b : ℕ) → is_ascii_digit b ≡ true → (b == 62) ≡ false
digit_no_arrow b h = grind (arith, nat_tests)

-- digits don't begin with `>`
pub digits_no_arrow : (w : List ℕ) → IsDigits w → NoArrow true w
digits_no_arrow [] i = absurd i
digits_no_arrow (b ∷ w) i = λ r c. digit_no_arrow b i.0

-- ---- separators

pub comma : Prints false (codes ", ") (One (sign 44)) tt
comma = blank_behind comma_sign

pub colon : Prints false (codes " : ") (One (sign 58)) tt
colon = blank_before (blank_behind colon_sign)

-- ---- tests of numbers

pub is_within : (n m : ℕ) → n ≤ m → nat_le n m ≡ true
is_within n m h = grind (arith, nat_tests)

pub within_is : (n m : ℕ) → nat_le n m ≡ true → n ≤ m
within_is n m h = grind (arith, nat_tests)

pub suc_no : (n : ℕ) → (suc n == 0) ≡ false
suc_no n = grind (arith, nat_tests)
