-- What the tokens of a text are: which texts have the form of a token, which of them stands at the
-- front of some bytes, and how the tokens of a whole text follow one another.
use Rattle.std.specs.Prelude.{◌≡◌, ◌≤◌, ◌<◌, ◌⊎◌, ℕ, suc, ◌+◌, ◌-◌, ◌^◌, Bool, true, false, ◌&&◌, ◌==◌, if◌then◌else◌, nat_le, List, [], ◌∷◌, ◌++◌, length, take, drop, reverse, slice_index, count_by, codes}
use Rattle.std.specs.List.{prefix_len}
use Rattle.std.specs.Str.{bytes_eq}
use Rattle.std.specs.Str.Parse.{digits_value}
use Rattle.affine_lex.specs.Classes.{is_in, is_sign, AllIn}
use Rattle.affine_lex.specs.declared.class.Class.{Class}
use Rattle.affine_lex.specs.declared.class.Class.TheVariants as class
use Rattle.affine_lex.specs.declared.token.Kind.{Kind}
use Rattle.affine_lex.specs.declared.token.Kind.TheVariants.{Word, Value, Alias, Symbol, Int, Punct, Arrow, GreaterEqual, LessEqual, Equal, Sizes, Bad, End}
use Rattle.affine_lex.specs.declared.token.Token.{Token}

-- ---- forms

-- a byte of one set, and then any number of bytes of another
abbrev pub IsSpelt : Class → Class → List ℕ → Type 0
IsSpelt first more [] = ⊥
IsSpelt first more (b ∷ bytes) = (is_in first b ≡ true) × AllIn more bytes

-- one decimal digit or more
abbrev pub IsDigits : List ℕ → Type 0
IsDigits text = IsSpelt class.Digit class.Digit text

-- an id: a letter, `_`, `$` or `.`, and then letters, digits, `_`, `$`, `.` and `-`
abbrev pub IsId : List ℕ → Type 0
IsId text = IsSpelt class.IdFirst class.Id text

-- a sign, and behind it an id or, where they may be a name, digits
abbrev pub IsName : ℕ → Bool → List ℕ → Type 0
IsName sign digits [] = ⊥
IsName sign digits (b ∷ name) = (b ≡ sign) × (IsId name ⊎ ((digits ≡ true) × IsDigits name))

-- The bytes are a whole token of this kind, where `sizes` tells whether sizes may stand there. An
-- integer has any value here. No bytes are of the kinds `Bad` and `End`.
abbrev pub HasForm : Bool → Kind → List ℕ → Type 0
HasForm sizes Word text = IsSpelt class.WordFirst class.Word text
HasForm sizes Value text = IsName 37 true text
HasForm sizes Alias text = IsName 35 false text
HasForm sizes Symbol text = IsName 64 false text
HasForm sizes (Int v) text = IsDigits text × (v ≡ digits_value 10 text)
HasForm sizes (Punct b) text = (text ≡ b ∷ []) × (is_sign b ≡ true)
HasForm sizes Arrow text = text ≡ codes "->"
HasForm sizes GreaterEqual text = text ≡ codes ">="
HasForm sizes LessEqual text = text ≡ codes "<="
HasForm sizes Equal text = text ≡ codes "=="
HasForm sizes Sizes text = (digits : List ℕ) × ((sizes ≡ true) × (text ≡ digits ++ codes "x") × IsDigits digits)
HasForm sizes Bad text = ⊥
HasForm sizes End text = ⊥

-- ---- the token at the front of some bytes

-- the text has the form of this kind, and no front of the bytes that has the form of any kind is
-- longer
pub record IsLongest (sizes : Bool) (kind : Kind) (text bytes : List ℕ) : Type 0 where
  pub formed : HasForm sizes kind text
  pub longest : (other : Kind) (front rest : List ℕ) → bytes ≡ front ++ rest → HasForm sizes other front → length front ≤ length text

-- no front of the bytes has the form of a token
abbrev pub BeginsNone : Bool → List ℕ → Type 0
BeginsNone sizes bytes = (other : Kind) (front rest : List ℕ) → bytes ≡ front ++ rest → HasForm sizes other front → ⊥

-- the kind of a token of this form: an integer above 2 ^ 63 is a bad token
abbrev pub kind_of : Kind → Kind
kind_of (Int v) = if nat_le v (2 ^ 63) then Int v else Bad
kind_of kind = kind

-- The token at the front of the bytes has this kind and this text: it is the longest front that has
-- the form of a token, and where there is none it is a bad token of one byte.
abbrev pub IsFront : Bool → List ℕ → Kind → List ℕ → Type 0
IsFront sizes bytes kind text =
    ((form : Kind) × (IsLongest sizes form text bytes × (kind ≡ kind_of form)))
    ⊎ (BeginsNone sizes bytes × (length text ≡ 1) × (kind ≡ Bad))

-- ---- white space and comments

-- the byte at i is in a comment: in its line, `//` stands at it or before it (or it is the second
-- of these two)
abbrev pub IsInComment : List ℕ → ℕ → Type 0
IsInComment bytes i = (j : ℕ) × ((j ≤ i) × (slice_index bytes j ≡ 47) × (slice_index bytes (suc j) ≡ 47) × ((k : ℕ) → j ≤ k → k ≤ i → is_in class.InLine (slice_index bytes k) ≡ true))

-- the byte at i is white space, or in a comment
abbrev pub IsBlank : List ℕ → ℕ → Type 0
IsBlank bytes i = (is_in class.White (slice_index bytes i) ≡ true) ⊎ IsInComment bytes i

-- the first n bytes are white space and comments, and the byte behind them, if there is one, isn't
pub record IsGap (bytes : List ℕ) (n : ℕ) : Type 0 where
  pub within : n ≤ length bytes
  pub blank : (i : ℕ) → i < n → IsBlank bytes i
  pub ended : n < length bytes → IsBlank bytes n → ⊥

-- ---- the tokens of a text

-- the bytes of a token
abbrev pub text_of : List ℕ → Token → List ℕ
text_of source t = take (t.to - t.from) (drop t.from source)

-- the line of the byte behind these: one more than there are line feeds before it
abbrev pub line_behind : List ℕ → ℕ
line_behind front = 1 + count_by (λ b. b == 10) front

-- its column: one more than there are bytes behind the last line feed
abbrev pub column_behind : List ℕ → ℕ
column_behind front = 1 + prefix_len (is_in class.InLine) (reverse front)

-- the place behind these tokens, the last of which comes first
abbrev pub end_of : List Token → ℕ
end_of [] = 0
end_of (t ∷ earlier) = t.to

-- the word `memref`
abbrev pub is_memref : Kind → List ℕ → Bool
is_memref Word text = bytes_eq text (codes "memref")
is_memref _ text = false

-- the last of these tokens, which comes first, is the word `memref`
abbrev pub ends_memref : List ℕ → List Token → Bool
ends_memref source [] = false
ends_memref source (t ∷ earlier) = is_memref t.kind (text_of source t)

-- sizes may stand behind a token of this kind, where `memref` tells whether the word `memref` stands
-- before it
abbrev pub are_sizes_behind : Bool → Kind → Bool
are_sizes_behind memref Sizes = true
are_sizes_behind memref (Punct b) = memref && b == 60
are_sizes_behind memref _ = false

-- sizes may stand behind these tokens, the last of which comes first: they end with `memref` and `<`,
-- or with sizes
abbrev pub are_sizes_next : List ℕ → List Token → Bool
are_sizes_next source [] = false
are_sizes_next source (t ∷ earlier) = are_sizes_behind (ends_memref source earlier) t.kind

-- the token begins behind the earlier ones, the last of which comes first, and the white space and
-- comments that follow them (so no comment begins within a token); its line and column are those of
-- its first byte
pub record IsPlaced (source : List ℕ) (earlier : List Token) (t : Token) : Type 0 where
  pub behind : end_of earlier ≤ t.from
  pub gap : IsGap (drop (end_of earlier) source) (t.from - end_of earlier)
  pub line : t.line ≡ line_behind (take t.from source)
  pub column : t.column ≡ column_behind (take t.from source)

-- the token has bytes, which lie in the text, and is the one at the front of what begins there
pub record IsToken (source : List ℕ) (earlier : List Token) (t : Token) : Type 0 where
  pub order : t.from < t.to
  pub within : t.to ≤ length source
  pub front : IsFront (are_sizes_next source earlier) (drop t.from source) t.kind (text_of source t)

-- the end of the text: a token with no bytes, behind the last byte
pub record IsEnd (source : List ℕ) (t : Token) : Type 0 where
  pub kind : t.kind ≡ End
  pub from : t.from ≡ length source
  pub to : t.to ≡ length source

-- the tokens that follow the earlier ones, the last of which comes first, up to and with the end
abbrev pub GoOn : List ℕ → List Token → List Token → Type 0
GoOn source earlier [] = ⊥
GoOn source earlier (t ∷ ts) = IsPlaced source earlier t × ((IsEnd source t × (ts ≡ [])) ⊎ (IsToken source earlier t × GoOn source (t ∷ earlier) ts))

-- the tokens of a text, from its first byte to its end
pub record AreTokens (source : List ℕ) (ts : List Token) : Type 0 where
  pub whole : GoOn source [] ts

-- the end of a text, as the token that it is there
abbrev pub text_end : List ℕ → Token
text_end source = record { kind = End; from = length source; to = length source; line = line_behind source; column = column_behind source }
