-- The names of a text are ASCII, so they are strings and stand as they are.
use Rattle.std.proofs.Common.{◌≡◌, ℕ, zero, suc, ◌<◌, Bool, true, false, ◌&&◌, if◌then◌else◌, List, [], ◌∷◌, refl, ap, ◌∙◌, arith, slice_index, ltb-true}
use Rattle.std.specs.Str.{is_utf8}
use Rattle.std.specs.Char.{is_ascii}
use Rattle.std.proofs.lemmas.Str.{IsUtf8-from_ascii, is_utf8-from_IsUtf8}
use Rattle.std.proofs.lemmas.Bool.Decides.{nat_tests}
use Rattle.affine_lex.specs.Tokens.{IsId}
use Rattle.affine_grammar.specs.Token.{all_ascii, string_of}

and_left : (a b : Bool) → (a && b) ≡ true → a ≡ true
and_left true b h = refl
and_left false b h = cc

and_right : (a b : Bool) → (a && b) ≡ true → b ≡ true
and_right true b h = h
and_right false b h = cc

-- a string stands as it is
pub string_is : (w : List ℕ) → all_ascii w ≡ true → string_of w ≡ w
string_is w h = ap (λ b. if b then w else []) h

-- what isn't a string is empty
pub string_none : (w : List ℕ) → all_ascii w ≡ false → string_of w ≡ []
string_none w h = ap (λ b. if b then w else []) h

ascii_at : (w : List ℕ) → all_ascii w ≡ true → (i : ℕ) → slice_index w i < 128
ascii_at [] h i = omega arith
ascii_at (b ∷ w) h zero = ltb-true b 128 (and_left (is_ascii b) (all_ascii w) h)
ascii_at (b ∷ w) h (suc i) = ascii_at w (and_right (is_ascii b) (all_ascii w) h) i

-- ASCII is UTF-8, as a string's bytes are
pub ascii_is_utf8 : (w : List ℕ) → all_ascii w ≡ true → is_utf8 w ≡ true
ascii_is_utf8 w h = is_utf8-from_IsUtf8 w (IsUtf8-from_ascii w (ascii_at w h))

first_is_ascii : (b : ℕ) → IsId (b ∷ []) → is_ascii b ≡ true
first_is_ascii b h = let e = h.0 in grind (arith, nat_tests, e)

byte_is_ascii : (b : ℕ) → IsId (46 ∷ b ∷ []) → is_ascii b ≡ true
byte_is_ascii b h = let e = h.1.0 in grind (arith, nat_tests, e)

rest_is_ascii : (w : List ℕ) → IsId (46 ∷ w) → all_ascii w ≡ true
rest_is_ascii [] h = refl
rest_is_ascii (b ∷ w) h = ap (λ v. v && all_ascii w) (byte_is_ascii b (h.0, (h.1.0, tt))) ∙ rest_is_ascii w (h.0, h.1.1)

-- the bytes of an id are ASCII
pub id_is_ascii : (w : List ℕ) → IsId w → all_ascii w ≡ true
id_is_ascii [] h = absurd h
id_is_ascii (b ∷ w) h = ap (λ v. v && all_ascii w) (first_is_ascii b (h.0, tt)) ∙ rest_is_ascii w (refl, h.1)
