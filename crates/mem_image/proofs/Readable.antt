-- The printed text is read back.
use Rattle.std.proofs.Common.{◌≡◌, ℕ, suc, ◌-◌, ◌<◌, List, [], ◌∷◌, ◌++◌, ◌&&◌, ◌||◌, length, get_or, map, flat_map, Bool, true, false, Some, None, ℤ, refl, sym, ◌∙◌, ap, subst, arith, FitsSigned}
use Rattle.std.specs.Prelude.{◌==◌, All, nat_lt, nat_le, codes, slice_index, if◌then◌else◌}
use Rattle.std.specs.Char.{is_ascii_digit}
use Rattle.std.specs.Fmt.{signed_decimal}
use Rattle.std.specs.List.{filter, list_all, slice_split}
use Rattle.std.specs.Str.Lines.{lines, lines_of_parts, strip_carriage_return}
use Rattle.std.proofs.lemmas.Bool.Decides.{nat_tests}
use Rattle.std.proofs.lemmas.List.{append_assoc, append-nil, length-map}
use Rattle.std.proofs.lemmas.List.Elements.{All-head, All-tail, All-weaker}
use Rattle.std.specs.Int.{w128}
use Rattle.num_row.specs.Decimals.{is_decimal, decimal_value, decimal_number}
use Rattle.num_row.proofs.DecimalTexts.{shortest}
use Rattle.num_row.proofs.Narrow.{narrowed_some}
use Rattle.std.proofs.lemmas.List.Splits.{slice_split_at, slice_split_none}
use Rattle.std.proofs.lemmas.List.Sums.{AllPass-from_list_all}
use Rattle.mem_image.specs.Forms.{begins_id, goes_on_id, is_digits, is_id, is_name, are_numbers}
use Rattle.mem_image.specs.Images.{Row, Gives, GiveAll, printed_number, printed_row}
use Rattle.mem_image.specs.Lines.{is_blank, is_white, is_some_word, words, written_behind}
use Rattle.mem_image.proofs.Numbers.{and_left, and_right, true_no, decimal_digits, number_of}
use Rattle.mem_image.proofs.Splitting.{parts_more, some_parts, some_word, some_line, no_line}

-- ---- Bytes above the white ones: none is a blank, a carriage return or a line feed

abbrev is_inked : ℕ → Bool
is_inked b = nat_lt 32 b

-- bytes of a printed line: ink and spaces
abbrev is_plain : ℕ → Bool
is_plain b = nat_le 32 b

inked_plain : (b : ℕ) → is_inked b ≡ true → is_plain b ≡ true
inked_plain b h = grind (arith, nat_tests)

no_blank : (b : ℕ) → is_inked b ≡ true → is_blank b ≡ false
no_blank b h = grind (arith, nat_tests)

no_white : (b : ℕ) → is_inked b ≡ true → is_white b ≡ false
no_white b h = grind (arith, nat_tests)

no_feed : (b : ℕ) → is_plain b ≡ true → (b == 10) ≡ false
no_feed b h = grind (arith, nat_tests)

no_return : (b : ℕ) → is_plain b ≡ true → (b == 13) ≡ false
no_return b h = grind (arith, nat_tests)

digit_inked : (b : ℕ) → is_ascii_digit b ≡ true → is_inked b ≡ true
digit_inked b h = grind (arith, nat_tests)

first_inked : (b : ℕ) → begins_id b ≡ true → is_inked b ≡ true
first_inked b h = grind (arith, nat_tests)

more_inked : (b : ℕ) → goes_on_id b ≡ true → is_inked b ≡ true
more_inked b h = grind (arith, nat_tests)

all_weaker : (p q : ℕ → Bool) → ((b : ℕ) → p b ≡ true → q b ≡ true) → (bytes : List ℕ) → list_all p bytes ≡ true → list_all q bytes ≡ true
all_weaker p q f [] h = refl
all_weaker p q f (b ∷ bytes) h = ap (λ x. x && list_all q bytes) (f b (and_left (p b) (list_all p bytes) h)) ∙ all_weaker p q f bytes (and_right (p b) (list_all p bytes) h)

all_append : (p : ℕ → Bool) (xs ys : List ℕ) → list_all p xs ≡ true → list_all p ys ≡ true → list_all p (xs ++ ys) ≡ true
all_append p [] ys h k = k
all_append p (x ∷ xs) ys h k = ap (λ b. b && list_all p (xs ++ ys)) (and_left (p x) (list_all p xs) h) ∙ all_append p xs ys (and_right (p x) (list_all p xs) h) k

-- a word that is printed: some bytes, all inked
pub record IsInk (word : List ℕ) : Type 0 where
  pub some : 0 < length word
  pub inked : list_all is_inked word ≡ true

or_cases : {P : Type 0} (a b : Bool) → (a || b) ≡ true → (a ≡ true → P) → (b ≡ true → P) → P
or_cases true b h f g = f refl
or_cases false b h f g = g h

digits_ink : (text : List ℕ) → is_digits text ≡ true → IsInk text
digits_ink text h = record {
  some = lt_of (length text) (and_left (nat_lt 0 (length text)) (list_all is_ascii_digit text) h);
  inked = all_weaker is_ascii_digit is_inked digit_inked text (and_right (nat_lt 0 (length text)) (list_all is_ascii_digit text) h);
}
  where
    lt_of : (n : ℕ) → nat_lt 0 n ≡ true → 0 < n
    lt_of n h = grind (arith, nat_tests)

id_ink : (text : List ℕ) → is_id text ≡ true → IsInk text
id_ink [] h = absurd (true_no (sym h))
id_ink (b ∷ bytes) h = record {
  some = omega arith;
  inked = ap (λ x. x && list_all is_inked bytes) (first_inked b (and_left (begins_id b) (list_all goes_on_id bytes) h)) ∙ all_weaker goes_on_id is_inked more_inked bytes (and_right (begins_id b) (list_all goes_on_id bytes) h);
}

pub name_ink : (text : List ℕ) → is_name text ≡ true → IsInk text
unfolding is_name
name_ink text h = or_cases (is_digits text) (is_id text) h (digits_ink text) (id_ink text)

-- ---- Numbers

-- an integer of 128 bits
abbrev Wide : ℤ → Type 0
Wide z = FitsSigned w128 z

not_read : (text : List ℕ) → is_decimal text ≡ false → decimal_number text ≡ None
unfolding decimal_number
not_read text e = rw e refl

decimal_of : (text : List ℕ) (z : ℤ) (t : Bool) → is_decimal text ≡ t → decimal_number text ≡ Some z → (is_decimal text ≡ true) × (decimal_value text ≡ z)
decimal_of text z true e h = (e, (narrowed_some (decimal_value text) z (sym (number_of text e) ∙ h)).0)
decimal_of text z false e h = absurd (let n = not_read text e in let x : ⊥ = cc in x)

written_decimal : (z : ℤ) → Wide z → (is_decimal (signed_decimal z) ≡ true) × (decimal_value (signed_decimal z) ≡ z)
written_decimal z f = decimal_of (signed_decimal z) z (is_decimal (signed_decimal z)) refl (shortest z f).read

minus_ink : (t : Bool) (b : ℕ) (bytes : List ℕ) → (b == 45) ≡ t → is_digits (if t then bytes else b ∷ bytes) ≡ true → IsInk (b ∷ bytes)
minus_ink true b bytes e h = record {
  some = omega arith;
  inked = ap (λ x. x && list_all is_inked bytes) (minus b e) ∙ (digits_ink bytes h).inked;
}
  where
    minus : (b : ℕ) → (b == 45) ≡ true → is_inked b ≡ true
    minus b e = grind (arith, nat_tests)
minus_ink false b bytes e h = digits_ink (b ∷ bytes) h

decimal_ink : (text : List ℕ) → is_decimal text ≡ true → IsInk text
decimal_ink [] h = absurd (true_no (sym h))
decimal_ink (b ∷ bytes) h = minus_ink (b == 45) b bytes refl (decimal_digits (b ∷ bytes) ∙ h)

number_ink : (z : ℤ) → Wide z → IsInk (signed_decimal z)
number_ink z f = decimal_ink (signed_decimal z) (written_decimal z f).0

-- ---- The words of a printed line

fails : (p q : ℕ → Bool) → ((b : ℕ) → q b ≡ true → p b ≡ false) → (bytes : List ℕ) → list_all q bytes ≡ true → All (λ b. p b ≡ false) bytes
fails p q f bytes h = All-weaker (λ b. q b ≡ true) (λ b. p b ≡ false) f bytes (AllPass-from_list_all q bytes h)

words_last : (word : List ℕ) → IsInk word → words word ≡ word ∷ []
unfolding words
words_last word i = ap (filter is_some_word) (slice_split_none is_blank word (fails is_blank is_inked no_blank word i.inked)) ∙ some_word word [] i.some

words_more : (word rest : List ℕ) → IsInk word → words (word ++ 32 ∷ rest) ≡ word ∷ words rest
unfolding words
words_more word rest i = ap (filter is_some_word) (slice_split_at is_blank word 32 rest (fails is_blank is_inked no_blank word i.inked) refl) ∙ some_word word (slice_split is_blank rest) i.some

words_numbers : (zs : List ℤ) (word : List ℕ) → IsInk word → All Wide zs → words (word ++ flat_map printed_number zs) ≡ word ∷ map signed_decimal zs
words_numbers [] word i w = ap words (append-nil word) ∙ words_last word i
words_numbers (z ∷ zs) word i w =
    words_more word (signed_decimal z ++ flat_map printed_number zs) i
    ∙ ap (λ rest. word ∷ rest) (words_numbers zs (signed_decimal z) (number_ink z (All-head Wide z zs w)) (All-tail Wide z zs w))

-- a printed line without its line feed
abbrev body : Row → List ℕ
body r = r.name ++ (codes " =" ++ flat_map printed_number r.numbers)

sign_ink : IsInk (61 ∷ [])
sign_ink = record { some = omega arith; inked = refl }

body_words : (r : Row) → is_name r.name ≡ true → All Wide r.numbers → words (body r) ≡ r.name ∷ codes "=" ∷ map signed_decimal r.numbers
body_words r n w = words_more r.name (61 ∷ flat_map printed_number r.numbers) (name_ink r.name n) ∙ ap (λ rest. r.name ∷ rest) (words_numbers r.numbers (61 ∷ []) sign_ink w)

-- ---- The lines of a printed text

numbers_plain : (zs : List ℤ) → All Wide zs → list_all is_plain (flat_map printed_number zs) ≡ true
numbers_plain [] w = refl
numbers_plain (z ∷ zs) w =
    all_append is_plain (signed_decimal z) (flat_map printed_number zs)
    (all_weaker is_inked is_plain inked_plain (signed_decimal z) (number_ink z (All-head Wide z zs w)).inked)
    (numbers_plain zs (All-tail Wide z zs w))

body_plain : (r : Row) → is_name r.name ≡ true → All Wide r.numbers → list_all is_plain (body r) ≡ true
body_plain r n w = all_append is_plain r.name (codes " =" ++ flat_map printed_number r.numbers) (all_weaker is_inked is_plain inked_plain r.name (name_ink r.name n).inked) (numbers_plain r.numbers w)

last_kept : (bytes : List ℕ) → list_all is_plain bytes ≡ true → (slice_index bytes (length bytes - 1) == 13) ≡ false
last_kept [] h = refl
last_kept (b ∷ bytes) h = no_return (get_or (b ∷ bytes) (length (b ∷ bytes) - 1) 0) (AllPass-from_list_all is_plain (b ∷ bytes) h (length (b ∷ bytes) - 1) 0 (omega arith))

line_kept : (bytes : List ℕ) → list_all is_plain bytes ≡ true → strip_carriage_return bytes ≡ bytes
line_kept bytes h = rw (last_kept bytes h) refl

plain_line : (bytes rest : List ℕ) → list_all is_plain bytes ≡ true → lines (bytes ++ 10 ∷ rest) ≡ bytes ∷ lines rest
plain_line bytes rest h =
    ap lines_of_parts (slice_split_at (λ b. b == 10) bytes 10 rest (fails (λ b. b == 10) is_plain no_feed bytes h) refl)
    ∙ parts_more bytes (slice_split (λ b. b == 10) rest) (some_parts (λ b. b == 10) rest)
    ∙ ap (λ line. line ∷ lines rest) (line_kept bytes h)

row_line : (r : Row) (rest : List ℕ) → is_name r.name ≡ true → All Wide r.numbers → lines (printed_row r ++ rest) ≡ body r ∷ lines rest
row_line r rest n w =
    let e : printed_row r ++ rest ≡ body r ++ 10 ∷ rest = simp append_assoc in
    ap lines e ∙ plain_line (body r) rest (body_plain r n w)

body_shown : (r : Row) → is_name r.name ≡ true → list_all is_white (body r) ≡ false
body_shown r n = shown r.name (codes " =" ++ flat_map printed_number r.numbers) (name_ink r.name n)
  where
    shown : (word more : List ℕ) → IsInk word → list_all is_white (word ++ more) ≡ false
    shown [] more i = absurd (let s = i.some in omega arith)
    shown (b ∷ bytes) more i = ap (λ x. x && list_all is_white (bytes ++ more)) (no_white b (and_left (is_inked b) (list_all is_inked bytes) i.inked))

-- ---- The rows of a printed text

pub record RowWell (r : Row) : Type 0 where
  pub named : is_name r.name ≡ true
  pub some : 0 < length r.numbers
  pub wide : All Wide r.numbers

abbrev pub AllWell : List Row → Type 0
AllWell [] = Unit {0}
AllWell (r ∷ rs) = RowWell r × AllWell rs

texts_decimal : (zs : List ℤ) → All Wide zs → list_all is_decimal (map signed_decimal zs) ≡ true
texts_decimal [] w = refl
texts_decimal (z ∷ zs) w = ap (λ b. b && list_all is_decimal (map signed_decimal zs)) (written_decimal z (All-head Wide z zs w)).0 ∙ texts_decimal zs (All-tail Wide z zs w)

texts_values : (zs : List ℤ) → All Wide zs → map decimal_value (map signed_decimal zs) ≡ zs
texts_values [] w = refl
texts_values (z ∷ zs) w = ap (λ y. y ∷ map decimal_value (map signed_decimal zs)) (written_decimal z (All-head Wide z zs w)).1 ∙ ap (λ ys. z ∷ ys) (texts_values zs (All-tail Wide z zs w))

texts_numbers : (zs : List ℤ) → 0 < length zs → All Wide zs → are_numbers (map signed_decimal zs) ≡ true
unfolding are_numbers
texts_numbers zs s w = ap (λ b. b && list_all is_decimal (map signed_decimal zs)) (some (length (map signed_decimal zs)) (let l = length-map zs signed_decimal in omega arith)) ∙ texts_decimal zs w
  where
    some : (n : ℕ) → 0 < n → nat_lt 0 n ≡ true
    some n h = grind (arith, nat_tests)

row_given : (r : Row) → RowWell r → Gives (words (body r)) r
row_given r g = record {
  numbers = map signed_decimal r.numbers;
  spelled = body_words r g.named g.wide;
  named = g.named;
  decimal = texts_numbers r.numbers g.some g.wide;
  same = texts_values r.numbers g.wide;
}

pub rows_given : (rs : List Row) (n : ℕ) → AllWell rs → GiveAll (written_behind n (lines (flat_map printed_row rs))) rs
rows_given [] n w = subst (λ entries. GiveAll entries []) (sym (no_line n)) tt
rows_given (r ∷ rs) n w =
    let e = ap (written_behind n) (row_line r (flat_map printed_row rs) w.0.named w.0.wide) ∙ some_line n (body r) (lines (flat_map printed_row rs)) (body_shown r w.0.named) in
    subst (λ entries. GiveAll entries (r ∷ rs)) (sym e) (row_given r w.0, rows_given rs (suc n) w.1)
