-- What clap's lexer makes of a word.
use Rattle.std.proofs.Common.{◌≡◌, Bool, true, false, not, [], ◌∷◌, Some, None, is_some, refl, ap, ◌∙◌, sym}
use Rattle.std.specs.Prelude.{◌&&◌, ◌==◌, if◌then◌else◌, option_and_then}
use Rattle.std.specs.Str.{bytes_eq}
use Rattle.clap.specs.Lexer.{strip_byte, long_of, long_of_rest, short_of, short_of_rest}
use Rattle.command_words.specs.Words.{Text, begins_with_hyphen}
use Rattle.command_words.specs.Reader.{dashed, name_in, value_after}

pub record IsDashed (word text : Text) : Type 0 where
  pub no_end : bytes_eq word (45 ∷ 45 ∷ []) ≡ false
  pub long : long_of word ≡ Some (name_in text, value_after text)
  pub hyphen : begins_with_hyphen word ≡ true

pub record IsPlainWord (word : Text) : Type 0 where
  pub no_end : bytes_eq word (45 ∷ 45 ∷ []) ≡ false
  pub long : long_of word ≡ None
  pub short : short_of word ≡ None

pub dashed_word : (word text : Text) → dashed word ≡ Some text → IsDashed word text
dashed_word [] text h = absurd (cc)
dashed_word (a ∷ []) text h = absurd (cc)
dashed_word (a ∷ b ∷ []) text h = absurd (cc)
dashed_word (a ∷ b ∷ c ∷ rest) text h =
    let facts = first (a == 45) h in
    record { no_end = facts.0; long = facts.1; hyphen = facts.2 }
  where
    second : (q : Bool) → (if q then Some (c ∷ rest) else None) ≡ Some text
        → option_and_then long_of_rest (if q then Some (c ∷ rest) else None) ≡ Some (name_in text, value_after text)
    second true e = let same : c ∷ rest ≡ text = cc in ap (λ t. Some (name_in t, value_after t)) same
    second false e = absurd (cc)

    no_more : (q : Bool) → (q && false) ≡ false
    no_more true = refl
    no_more false = refl

    first : (p : Bool) → (if p && (b == 45) then Some (c ∷ rest) else None) ≡ Some text
        → ((p && ((b == 45) && false)) ≡ false)
        × (option_and_then long_of_rest (option_and_then (strip_byte 45) (if p then Some (b ∷ c ∷ rest) else None)) ≡ Some (name_in text, value_after text))
        × (p ≡ true)
    first true e = (no_more (b == 45), second (b == 45) e, refl)
    first false e = absurd (cc)

pub plain_word_read : (word : Text) → begins_with_hyphen word ≡ false → IsPlainWord word
plain_word_read [] h = record { no_end = refl; long = refl; short = refl }
plain_word_read (b ∷ bs) h = record { no_end = ended (b == 45) h; long = long_none (b == 45) h; short = short_none (b == 45) h }
  where
    ended : (p : Bool) → p ≡ false → (p && bytes_eq bs (45 ∷ [])) ≡ false
    ended false e = refl
    ended true e = absurd (cc)

    long_none : (p : Bool) → p ≡ false → option_and_then long_of_rest (option_and_then (strip_byte 45) (if p then Some bs else None)) ≡ None
    long_none false e = refl
    long_none true e = absurd (cc)

    short_none : (p : Bool) → p ≡ false → option_and_then short_of_rest (if p then Some bs else None) ≡ None
    short_none false e = refl
    short_none true e = absurd (cc)

-- a word that isn't stray is dashed or plain
pub not_stray : (word : Text) → (begins_with_hyphen word && not (is_some (dashed word))) ≡ false → dashed word ≡ None → begins_with_hyphen word ≡ false
not_stray word h none = last (begins_with_hyphen word) (ap (λ o. begins_with_hyphen word && not (is_some o)) (sym none) ∙ h)
  where
    last : (p : Bool) → (p && true) ≡ false → p ≡ false
    last true e = e
    last false e = refl
