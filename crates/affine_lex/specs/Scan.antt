-- The tokens of a text as values that compute, for the clauses of the functions that make them. What
-- they mean is said in Tokens: the computed list is the one of `AreTokens` (proofs/Listed).
use Rattle.std.specs.Prelude.{◌≡◌, ◌≤◌, ◌<◌, ℕ, zero, suc, ◌+◌, ◌-◌, ◌*◌, ◌^◌, min, Bool, true, false, not, ◌&&◌, if◌then◌else◌, ◌==◌, nat_le, nat_lt, Option, Some, None, List, [], ◌∷◌, length, take, drop, slice_index, codes}
use Rattle.affine_lex.specs.Classes.{is_in, is_sign}
use Rattle.affine_lex.specs.Tokens.{text_of}
use Rattle.std.specs.List.{prefix_len, fold}
use Rattle.std.specs.Str.{bytes_eq}
use Rattle.affine_lex.specs.declared.class.Class.{Class}
use Rattle.affine_lex.specs.declared.class.Class.TheVariants as class
use Rattle.affine_lex.specs.declared.token.Kind.{Kind}
use Rattle.affine_lex.specs.declared.token.Kind.TheVariants.{Word, Value, Alias, Symbol, Int, Punct, Arrow, GreaterEqual, LessEqual, Equal, Sizes, Bad, End}
use Rattle.affine_lex.specs.declared.token.Token.{Token}
use Rattle.affine_lex.specs.declared.lexer.Context.{Context}
use Rattle.affine_lex.specs.declared.lexer.Context.TheVariants as context
use Rattle.affine_lex.specs.declared.lexer.Place.{Place}

-- how many bytes of the set come first
abbrev pub run : Class → List ℕ → ℕ
run c bytes = prefix_len (is_in c) bytes

-- ---- white space and comments

-- how many bytes of white space and comments come first, where the flag tells whether the first byte
-- is in a comment that began before it
abbrev pub gap_in : Bool → List ℕ → ℕ
gap_in comment [] = 0
gap_in false (b ∷ bytes) = if is_in class.White b then suc (gap_in false bytes) else (if b == 47 && slice_index bytes 0 == 47 then suc (gap_in true bytes) else 0)
gap_in true (b ∷ bytes) = suc (gap_in (not (b == 10)) bytes)

-- how many bytes of white space and comments come first
unfoldable pub gap : List ℕ → ℕ
gap bytes = gap_in false bytes

-- ---- one token

-- the least integer that is in no text of the grammar, with or without its `-`
abbrev pub too_large : ℕ
too_large = 2 ^ 63 + 1

-- the value of digits, or `too_large` where it is greater
unfoldable pub capped_value : List ℕ → ℕ
capped_value digits = fold (λ n b. min (10 * n + (b - 48)) too_large) 0 digits

-- the kind of a token, and its length in bytes
abbrev pub Lexeme : Type 0
Lexeme = Kind × ℕ

-- the token that begins with a digit, where the flag tells whether sizes may stand there
unfoldable pub number : Bool → List ℕ → Lexeme
number sizes bytes =
    let n = run class.Digit bytes in
    let v = capped_value (take n bytes) in
    if sizes && slice_index bytes n == 120 then (Sizes, n + 1) else (if nat_le v (2 ^ 63) then (Int v, n) else (Bad, n))

-- the token that begins with the sign of a name of this kind, where the flag tells whether digits
-- may be such a name
unfoldable pub name : Kind → Bool → List ℕ → Lexeme
name kind digits bytes =
    if is_in class.IdFirst (slice_index bytes 1) then (kind, 1 + run class.Id (drop 1 bytes))
    else (if digits && is_in class.Digit (slice_index bytes 1) then (kind, 1 + run class.Digit (drop 1 bytes)) else (Bad, 1))

-- the token that begins with this byte, none of a letter, a digit and the sign of a name, where the
-- other byte comes next
unfoldable pub mark : ℕ → ℕ → Lexeme
mark b next =
    if b == 45 && next == 62 then (Arrow, 2) else (if b == 62 && next == 61 then (GreaterEqual, 2) else (if b == 60 && next == 61 then (LessEqual, 2)
    else (if b == 61 && next == 61 then (Equal, 2) else (if is_sign b then (Punct b, 1) else (Bad, 1)))))

-- the token at the front, where the flag tells whether sizes may stand there
unfoldable pub token : Bool → List ℕ → Lexeme
token sizes bytes =
    let b = slice_index bytes 0 in
    if is_in class.WordFirst b then (Word, run class.Word bytes)
    else (if is_in class.Digit b then number sizes bytes
    else (if b == 37 then name Value true bytes else (if b == 35 then name Alias false bytes else (if b == 64 then name Symbol false bytes
    else mark b (slice_index bytes 1)))))

-- ---- lists of tokens

-- sizes may stand behind tokens that end with this
abbrev pub in_sizes : Context → Bool
in_sizes context.Sizes = true
in_sizes _ = false

-- what tokens end with whose last is a word of this text
abbrev pub after_word : List ℕ → Context
after_word text = if bytes_eq text (codes "memref") then context.Memref else context.Plain

-- what they end with where a sign comes behind others that end with this
abbrev pub after_punct : Context → ℕ → Context
after_punct context.Memref b = if b == 60 then context.Sizes else context.Plain
after_punct _ b = context.Plain

-- what they end with where a token of this kind and text comes behind others
abbrev pub after : Context → Kind → List ℕ → Context
after c Word text = after_word text
after c (Punct b) text = after_punct c b
after c Sizes text = context.Sizes
after c _ text = context.Plain

-- the place behind one byte more
abbrev pub stepped : Place → ℕ → Place
stepped p b = if b == 10 then record { line = p.line + 1; column = 1 } else record { line = p.line; column = p.column + 1 }

-- the place behind these bytes more
unfoldable pub place_from : Place → List ℕ → Place
place_from p bytes = fold stepped p bytes

-- the place behind these bytes, from the first of a text on
unfoldable pub place : List ℕ → Place
place bytes = place_from (record { line = 1; column = 1 }) bytes

-- one fact or another, as the test tells
abbrev pub chosen : Bool → Type 0 → Type 0 → Type 0
chosen true A B = A
chosen false A B = B

-- the place behind the white space and comments that come next
abbrev pub past_gap : List ℕ → ℕ → ℕ
past_gap source at = at + gap (drop at source)

-- the tokens from a place on at which one begins, behind others that end with this
abbrev pub IsAt : List ℕ → ℕ → Context → List Token → Type 0
IsAt source from c [] = ⊥
IsAt source from c (t ∷ ts) =
    (t.from ≡ from)
    × (record { line = t.line; column = t.column } ≡ place (take from source))
    × chosen (from == length source)
    ((t.kind ≡ End) × (t.to ≡ from) × (ts ≡ []))
    ((t.kind ≡ (token (in_sizes c) (drop from source)).0) × (t.to ≡ from + (token (in_sizes c) (drop from source)).1) × IsAt source (past_gap source t.to) (after c t.kind (text_of source t)) ts)

-- the tokens of a text, from its first byte on
abbrev pub IsScanned : List ℕ → List Token → Type 0
IsScanned source ts = IsAt source (past_gap source 0) context.Plain ts

-- ---- the tokens that are left

-- the token that begins at a place before the end, behind others that end with this
abbrev pub token_at : List ℕ → ℕ → Context → Token
token_at source from c =
    let x = token (in_sizes c) (drop from source) in
    let p = place (take from source) in
    record { kind = x.0; from = from; to = from + x.1; line = p.line; column = p.column }

-- the tokens from a place on, as `tokens_from` has them, where at most so many bytes are left
abbrev pub tokens_within : ℕ → List ℕ → ℕ → Context → List Token
tokens_within zero source from c = []
tokens_within (suc n) source from c =
    let t = token_at source from c in
    if nat_lt from (length source) then t ∷ tokens_within n source (past_gap source t.to) (after c t.kind (text_of source t)) else []

-- the tokens before the end, from a place on at which one begins or the text ends, behind others that
-- end with this
unfoldable pub tokens_from : List ℕ → ℕ → Context → List Token
tokens_from source from c = tokens_within (length source - from) source from c

-- what is left behind a token that was taken, and nothing where there was none
abbrev pub with_next : Option Token → List Token → List Token
with_next (Some t) ts = t ∷ ts
with_next None ts = []

-- a place from which tokens are cut: it lies in the text, and its line and column are known
pub record IsCutAt (source : List ℕ) (from : ℕ) (p : Place) : Type 0 where
  pub size : length source < 2 ^ 32 - 1
  pub within : from ≤ length source
  pub place : p ≡ place (take from source)
  pub line : p.line ≤ from + 1
  pub column : p.column ≤ from + 1
  pub some : 0 < p.column
