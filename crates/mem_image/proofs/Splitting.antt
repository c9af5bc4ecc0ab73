-- Lines and words, one after the other.
use Rattle.std.proofs.Common.{◌≡◌, ℕ, suc, ◌+◌, ◌<◌, ◌≤◌, List, [], ◌∷◌, length, take, drop, get_or, Bool, true, false, cond, refl, sym, ◌∙◌, ap, subst, arith}
use Rattle.std.specs.Prelude.{not, ◌==◌, nat_lt}
use Rattle.std.specs.List.{filter, slice_split, prefix_len, list_all, after_first}
use Rattle.std.specs.Str.Lines.{lines, lines_of_parts, strip_carriage_return}
use Rattle.std.proofs.Math.Seq.{drop-cons}
use Rattle.std.proofs.lemmas.List.{length-drop, length-take-le, drop-drop, take_all, drop_all}
use Rattle.std.proofs.lemmas.Bool.{ltb-true}
use Rattle.std.proofs.Math.Numerals.{add-one}
use Rattle.std.proofs.lemmas.Bool.Decides.{nat_tests}
use Rattle.std.proofs.lemmas.List.Splits.{slice_split-cons_yes, slice_split_none, slice_split_first, length-slice_split}
use Rattle.std.proofs.lemmas.List.Sums.{prefix_len-le-length, prefix_len_stops, passes_at_first, fails_before_first}
use Rattle.mem_image.specs.Lines.{is_blank, is_white, is_some_word, words, numbered, written_behind}

-- ---- Lines

is_feed : ℕ → Bool
is_feed b = b == 10

pub parts_more : (x : List ℕ) (parts : List (List ℕ)) → 0 < length parts → lines_of_parts (x ∷ parts) ≡ strip_carriage_return x ∷ lines_of_parts parts
parts_more x [] h = absurd (omega arith)
parts_more x (y ∷ more) h = refl

pub some_parts : (p : ℕ → Bool) (bs : List ℕ) → 0 < length (slice_split p bs)
some_parts p bs = omega (arith, length-slice_split p bs)

eq_no : (n : ℕ) → 0 < n → (n == 0) ≡ false
eq_no n h = grind (arith, nat_tests)

one_part : (x : List ℕ) → 0 < length x → lines_of_parts (x ∷ []) ≡ x ∷ []
one_part x h = rw (eq_no (length x) h)

-- a last line without a line feed
pub last_line : (bs : List ℕ) → 0 < length bs → prefix_len (λ b. not (b == 10)) bs ≡ length bs → lines bs ≡ bs ∷ []
last_line bs some e = rw (slice_split_none (λ b. b == 10) bs (λ k d h. fails_before_first (λ b. b == 10) bs k d (omega arith))) (one_part bs some)

-- a line before a line feed
pub next_line : (bs : List ℕ) → prefix_len (λ b. not (b == 10)) bs < length bs → lines bs ≡ strip_carriage_return (take (prefix_len (λ b. not (b == 10)) bs) bs) ∷ lines (drop (prefix_len (λ b. not (b == 10)) bs + 1) bs)
next_line bs h = rw (slice_split_first (λ b. b == 10) bs 0 h) (parts_more _ _ (some_parts (λ b. b == 10) (after_first (λ b. b == 10) bs)))

-- ---- Words

pub no_word : words [] ≡ []
unfolding words
no_word = refl

pub skip_blank : (b : ℕ) (bs : List ℕ) → is_blank b ≡ true → words (b ∷ bs) ≡ words bs
unfolding words
skip_blank b bs e = ap (filter is_some_word) (slice_split-cons_yes is_blank b bs e)

suc_one : (n : ℕ) → suc n ≡ 1 + n
suc_one n = omega arith

skipped : (t : Bool) (b : ℕ) (bs : List ℕ) → is_blank b ≡ t → words bs ≡ words (drop (prefix_len is_blank bs) bs) → words (b ∷ bs) ≡ words (drop (cond t (1 + prefix_len is_blank bs) 0) (b ∷ bs))
skipped true b bs e more = skip_blank b bs e ∙ more ∙ ap (λ n. words (drop n (b ∷ bs))) (suc_one (prefix_len is_blank bs))
skipped false b bs e more = refl

pub skip_blanks : (bs : List ℕ) → words bs ≡ words (drop (prefix_len is_blank bs) bs)
skip_blanks [] = refl
skip_blanks (b ∷ bs) = skipped (is_blank b) b bs refl (skip_blanks bs)

pub some_word : (w : List ℕ) (parts : List (List ℕ)) → 0 < length w → filter is_some_word (w ∷ parts) ≡ w ∷ filter is_some_word parts
some_word [] parts h = absurd (omega arith)
some_word (b ∷ bs) parts h = refl

-- a word at the front
pub last_word : (bs : List ℕ) → 0 < length bs → prefix_len (λ b. not (is_blank b)) bs ≡ length bs → words bs ≡ bs ∷ []
unfolding words
last_word bs some e = rw (slice_split_none is_blank bs (λ k d h. fails_before_first is_blank bs k d (omega arith))) (some_word bs [] some)

pub word_before : (bs : List ℕ) → 0 < prefix_len (λ b. not (is_blank b)) bs → prefix_len (λ b. not (is_blank b)) bs < length bs → words bs ≡ take (prefix_len (λ b. not (is_blank b)) bs) bs ∷ words (drop (prefix_len (λ b. not (is_blank b)) bs + 1) bs)
unfolding words
word_before bs some h =
    let l = length-take-le (prefix_len (λ b. not (is_blank b)) bs) bs (omega arith) in
    rw (slice_split_first is_blank bs 0 h) (some_word (take (prefix_len (λ b. not (is_blank b)) bs) bs) (slice_split is_blank (after_first is_blank bs)) (omega arith))

-- ---- What the code finds

-- what is left behind a word begins with a blank, or is nothing
behind_word : (bs : List ℕ) → prefix_len (λ b. not (is_blank b)) bs < length bs → words (drop (prefix_len (λ b. not (is_blank b)) bs) bs) ≡ words (drop (prefix_len (λ b. not (is_blank b)) bs + 1) bs)
behind_word bs h =
    rw (drop-cons bs (prefix_len (λ b. not (is_blank b)) bs) 0 h, add-one) (skip_blank (get_or bs (prefix_len (λ b. not (is_blank b)) bs) 0) _ (passes_at_first is_blank bs 0 h))

word_at_end : (bs : List ℕ) (n : ℕ) → 0 < length bs → prefix_len (λ b. not (is_blank b)) bs ≡ n → n ≡ length bs → words bs ≡ take n bs ∷ words (drop n bs)
word_at_end bs n some e q = rw (take_all n bs (omega arith), drop_all n bs (omega arith), no_word) (last_word bs some (e ∙ q))

front_word : (bs : List ℕ) (t : Bool) → 0 < prefix_len (λ b. not (is_blank b)) bs → nat_lt (prefix_len (λ b. not (is_blank b)) bs) (length bs) ≡ t → words bs ≡ take (prefix_len (λ b. not (is_blank b)) bs) bs ∷ words (drop (prefix_len (λ b. not (is_blank b)) bs) bs)
front_word bs true some e = let h = ltb-true _ _ e in word_before bs some h ∙ ap (λ rest. take (prefix_len (λ b. not (is_blank b)) bs) bs ∷ rest) (sym (behind_word bs h))
front_word bs false some e =
    let k = prefix_len-le-length (λ b. not (is_blank b)) bs in
    let h : length bs ≤ prefix_len (λ b. not (is_blank b)) bs = grind (arith, nat_tests) in
    word_at_end bs _ (omega arith) refl (omega arith)

begun : (b : ℕ) (bs : List ℕ) → is_blank b ≡ false → 0 < prefix_len (λ b. not (is_blank b)) (b ∷ bs)
begun b bs e = rw e (omega arith)

text_begun : (line : List ℕ) → prefix_len is_blank line < length line → 0 < prefix_len (λ b. not (is_blank b)) (drop (prefix_len is_blank line) line)
text_begun line h = rw (drop-cons line (prefix_len is_blank line) 0 h) (begun (get_or line (prefix_len is_blank line) 0) (drop (suc (prefix_len is_blank line)) line) (prefix_len_stops is_blank line 0 h))

pub empty : (xs : List ℕ) → length xs ≡ 0 → xs ≡ []
empty [] z = refl
empty (x ∷ xs) z = absurd (omega arith)

pub word_none : (line text : List ℕ) → text ≡ drop (prefix_len is_blank line) line → length text ≡ 0 → words line ≡ []
word_none line text e z = skip_blanks line ∙ ap words (sym e ∙ empty text z) ∙ no_word

pub record IsCut (line word rest : List ℕ) : Type 0 where
  pub value : words line ≡ word ∷ words rest
  pub shorter : length rest < length line

pub word_some : (line text word rest : List ℕ) → text ≡ drop (prefix_len is_blank line) line → 0 < length text → word ≡ take (prefix_len (λ b. not (is_blank b)) text) text → rest ≡ drop (prefix_len (λ b. not (is_blank b)) text) text → IsCut line word rest
word_some line text word rest e some w r =
    let l = length-drop (prefix_len is_blank line) line in
    let k : length text ≡ length (drop (prefix_len is_blank line) line) = ap length e in
    let b : 0 < prefix_len (λ b. not (is_blank b)) text = subst (λ t. 0 < prefix_len (λ b. not (is_blank b)) t) (sym e) (text_begun line (omega arith)) in
    let n = length-drop (prefix_len (λ b. not (is_blank b)) text) text in
    let q : length rest ≡ length (drop (prefix_len (λ b. not (is_blank b)) text) text) = ap length r in
    record {
      value = skip_blanks line ∙ ap words (sym e) ∙ front_word text _ b refl ∙ sym (ap (λ x. x ∷ words rest) w ∙ ap (λ x. take (prefix_len (λ b. not (is_blank b)) text) text ∷ words x) r);
      shorter = omega arith;
    }

-- the first line of a text that has some bytes
pub record IsCutLine (bytes line rest : List ℕ) : Type 0 where
  pub value : lines bytes ≡ line ∷ lines rest
  pub shorter : length rest < length bytes

pub line_at_end : (bytes rest : List ℕ) → 0 < length bytes → rest ≡ drop (prefix_len (λ b. not (b == 10)) bytes) bytes → length rest ≡ 0 → IsCutLine bytes bytes rest
line_at_end bytes rest some r z =
    let n = length-drop (prefix_len (λ b. not (b == 10)) bytes) bytes in
    let q : length rest ≡ length (drop (prefix_len (λ b. not (b == 10)) bytes) bytes) = ap length r in
    let k = prefix_len-le-length (λ b. not (b == 10)) bytes in
    record {
      value = last_line bytes some (omega arith) ∙ ap (λ x. bytes ∷ lines x) (sym (empty rest z));
      shorter = omega arith;
    }

pub line_before : (bytes behind line rest : List ℕ) → behind ≡ drop (prefix_len (λ b. not (b == 10)) bytes) bytes → 0 < length behind → line ≡ strip_carriage_return (take (prefix_len (λ b. not (b == 10)) bytes) bytes) → rest ≡ drop 1 behind → IsCutLine bytes line rest
line_before bytes behind line rest b some l r =
    let n = length-drop (prefix_len (λ b. not (b == 10)) bytes) bytes in
    let q : length behind ≡ length (drop (prefix_len (λ b. not (b == 10)) bytes) bytes) = ap length b in
    let m = length-drop 1 behind in
    let o : length rest ≡ length (drop 1 behind) = ap length r in
    let e : rest ≡ drop (prefix_len (λ b. not (b == 10)) bytes + 1) bytes = r ∙ ap (drop 1) b ∙ drop-drop 1 (prefix_len (λ b. not (b == 10)) bytes) bytes in
    record {
      value = next_line bytes (omega arith) ∙ sym (ap (λ x. x ∷ lines rest) l ∙ ap (λ x. strip_carriage_return (take (prefix_len (λ b. not (b == 10)) bytes) bytes) ∷ lines x) e);
      shorter = omega arith;
    }

-- ---- Lines that aren't white space alone

pub white_line : (n : ℕ) (line : List ℕ) (more : List (List ℕ)) → list_all is_white line ≡ true → written_behind n (line ∷ more) ≡ written_behind (suc n) more
unfolding written_behind
white_line n line more e = rw e refl

pub some_line : (n : ℕ) (line : List ℕ) (more : List (List ℕ)) → list_all is_white line ≡ false → written_behind n (line ∷ more) ≡ numbered (suc n) line ∷ written_behind (suc n) more
unfolding written_behind
some_line n line more e = rw e refl

pub no_line : (n : ℕ) → written_behind n (lines []) ≡ []
unfolding written_behind
no_line n = refl
