-- The sets of bytes that the forms of tokens, white space and comments are made of.
use Rattle.std.specs.Prelude.{◌≡◌, ℕ, Bool, true, not, ◌||◌, ◌==◌, List, [], ◌∷◌}
use Rattle.std.specs.Char.{is_ascii_digit, is_ascii_alphabetic, is_ascii_alphanumeric}
use Rattle.affine_lex.specs.declared.class.Class.{Class}
use Rattle.affine_lex.specs.declared.class.Class.TheVariants as class

-- space, tab, carriage return and line feed; decimal digits; what begins and what goes on with a
-- word; what begins and what goes on with an id; and all but the line feed
abbrev pub is_in : Class → ℕ → Bool
is_in class.White b = b == 32 || b == 9 || b == 13 || b == 10
is_in class.Digit b = is_ascii_digit b
is_in class.WordFirst b = is_ascii_alphabetic b || b == 95
is_in class.Word b = is_ascii_alphanumeric b || b == 95 || b == 36 || b == 46
is_in class.IdFirst b = is_ascii_alphabetic b || b == 95 || b == 36 || b == 46
is_in class.Id b = is_ascii_alphanumeric b || b == 95 || b == 36 || b == 46 || b == 45
is_in class.InLine b = not (b == 10)

-- one of `= { } ( ) , : [ ] < > + - *`, each of which is a token by itself
abbrev pub is_sign : ℕ → Bool
is_sign b = b == 61 || b == 123 || b == 125 || b == 40 || b == 41 || b == 44 || b == 58 || b == 91 || b == 93 || b == 60 || b == 62 || b == 43 || b == 45 || b == 42

-- each of the bytes is in the set
abbrev pub AllIn : Class → List ℕ → Type 0
AllIn c [] = Unit {0}
AllIn c (b ∷ bytes) = (is_in c b ≡ true) × AllIn c bytes
