-- The parts of a source.
use Rattle.std.proofs.Common.{◌≡◌, ℕ, suc, ◌+◌, ◌<◌, ◌≤◌, List, [], ◌∷◌, ◌++◌, length, take, drop, Bool, true, false, refl, sym, ◌∙◌, ap, subst, arith, append_assoc, inl, inr}
use Rattle.std.specs.Prelude.{◌||◌, codes, ◌⊎◌}
use Rattle.std.specs.Str.{bytes_eq}
use Rattle.std.proofs.Math.Seq.{take-add}
use Rattle.std.proofs.lemmas.Slice.Eq.{bytes_eq-Decides}
use Rattle.std.proofs.lemmas.List.{append-nil, length-take-le, drop-drop, drop_all}
use Rattle.std.specs.List.{concat, list_any, list_all}
use Rattle.source_parts.specs.Parts.{full_lines, is_mark, unmarked, text_part, image_part}
use Rattle.source_parts.specs.Laws.{is_full, is_open, are_lines, EndsLine, IsMarked, IsParted}
use Rattle.source_parts.proofs.Lines.{never, no_lines, joined, full, parted, ends_both, full_ends, alone, before, and_left, and_right}

-- ---- The parts of lines

pub text_in : List (List ℕ) → List ℕ
text_in lines = concat (take (unmarked lines) lines)

pub image_in : List (List ℕ) → List ℕ
image_in lines = concat (drop (suc (unmarked lines)) lines)

suc_one : (n : ℕ) → 1 + n ≡ suc n
suc_one n = omega arith

unmarked_first : (line : List ℕ) (more : List (List ℕ)) → is_mark line ≡ false → unmarked (line ∷ more) ≡ suc (unmarked more)
unmarked_first line more e = rw e (suc_one (unmarked more))

marked_first : (line : List ℕ) (more : List (List ℕ)) → is_mark line ≡ true → unmarked (line ∷ more) ≡ 0
marked_first line more e = rw e refl

pub text_goes_on : (line : List ℕ) (more : List (List ℕ)) → is_mark line ≡ false → text_in (line ∷ more) ≡ line ++ text_in more
unfolding text_in
text_goes_on line more e = rw (unmarked_first line more e) refl

pub text_stops : (line : List ℕ) (more : List (List ℕ)) → is_mark line ≡ true → text_in (line ∷ more) ≡ []
unfolding text_in
text_stops line more e = rw (marked_first line more e) refl

pub image_goes_on : (line : List ℕ) (more : List (List ℕ)) → is_mark line ≡ false → image_in (line ∷ more) ≡ image_in more
unfolding image_in
image_goes_on line more e = rw (unmarked_first line more e) refl

pub image_begins : (line : List ℕ) (more : List (List ℕ)) → is_mark line ≡ true → image_in (line ∷ more) ≡ concat more
unfolding image_in
image_begins line more e = rw (marked_first line more e) refl

no_text_in : text_in [] ≡ []
unfolding text_in
no_text_in = refl

no_image_in : image_in [] ≡ []
unfolding image_in
no_image_in = refl

-- ---- The parts of lines are parts of what they are one after the other

either_of : (line : List ℕ) (more : List (List ℕ)) → are_lines (line ∷ more) ≡ true → (is_full line || is_open line) ≡ true
either_of line [] h = h
either_of line (next ∷ more) h = rw (and_left (is_full line) (are_lines (next ∷ more)) h) refl

full_of : (line : List ℕ) (more : List (List ℕ)) → are_lines (line ∷ more) ≡ true → 0 < length more → is_full line ≡ true
full_of line [] h k = absurd (omega arith)
full_of line (next ∷ more) h k = and_left (is_full line) (are_lines (next ∷ more)) h

more_of : (line : List ℕ) (more : List (List ℕ)) → are_lines (line ∷ more) ≡ true → are_lines more ≡ true
more_of line [] h = refl
more_of line (next ∷ more) h = and_right (is_full line) (are_lines (next ∷ more)) h

behind_of : (line : List ℕ) (more : List (List ℕ)) → are_lines (line ∷ more) ≡ true → EndsLine line ⊎ (concat more ≡ [])
behind_of line [] h = inr refl
behind_of line (next ∷ more) h = inl (full_ends line (and_left (is_full line) (are_lines (next ∷ more)) h))

found_here : (line : List ℕ) (more : List (List ℕ)) → are_lines (line ∷ more) ≡ true → is_mark line ≡ true → IsMarked (line ++ concat more) [] (concat more)
found_here line more h m = record {
  mark = line;
  whole = refl;
  is = m;
  first = rw no_lines refl;
  begins = refl;
  behind = behind_of line more h;
}

found_later : (line source text image : List ℕ) → is_full line ≡ true → is_mark line ≡ false → IsMarked source text image → IsMarked (line ++ source) (line ++ text) image
found_later line source text image f n later = record {
  mark = later.mark;
  whole = ap (λ x. line ++ x) later.whole ∙ sym (append_assoc line text (later.mark ++ image));
  is = later.is;
  first = rw (before line text f, n, later.first) refl;
  begins = ends_both line text (full_ends line f) later.begins;
  behind = later.behind;
}

any_some : (lines : List (List ℕ)) → list_any is_mark lines ≡ true → 0 < length lines
any_some [] h = never h
any_some (line ∷ more) h = omega arith

marked_by : (t : Bool) (line : List ℕ) (more : List (List ℕ)) → is_mark line ≡ t → are_lines (line ∷ more) ≡ true → list_any is_mark (line ∷ more) ≡ true
    → (list_any is_mark more ≡ true → IsMarked (concat more) (text_in more) (image_in more))
    → IsMarked (line ++ concat more) (text_in (line ∷ more)) (image_in (line ∷ more))
marked_by true line more e h a later = rw (text_stops line more e, image_begins line more e) (found_here line more h e)
marked_by false line more e h a later =
    let some : list_any is_mark more ≡ true = subst (λ t. (t || list_any is_mark more) ≡ true) e a in
    rw (text_goes_on line more e, image_goes_on line more e) (found_later line (concat more) (text_in more) (image_in more) (full_of line more h (any_some more some)) e (later some))

pub marked : (lines : List (List ℕ)) → are_lines lines ≡ true → list_any is_mark lines ≡ true → IsMarked (concat lines) (text_in lines) (image_in lines)
marked [] h a = never a
marked (line ∷ more) h a = marked_by (is_mark line) line more refl h a (λ some. marked more (more_of line more h) some)

or_left : (s t : Bool) → (s || t) ≡ false → s ≡ false
or_left true t h = never (sym h)
or_left false t h = refl

or_both : (s t : Bool) → (s || t) ≡ false → t ≡ false
or_both true t h = never (sym h)
or_both false t h = h

unmarked_all : (lines : List (List ℕ)) → list_any is_mark lines ≡ false → (text_in lines ≡ concat lines) × (image_in lines ≡ [])
unfolding text_in image_in
unmarked_all [] h = (refl, refl)
unmarked_all (line ∷ more) h =
    let e = or_left (is_mark line) (list_any is_mark more) h in
    let k = unmarked_all more (or_both (is_mark line) (list_any is_mark more) h) in
    (text_goes_on line more e ∙ ap (λ x. line ++ x) k.0, image_goes_on line more e ∙ k.1)

-- ---- Each source has parts

text_is : (source : List ℕ) → text_part source ≡ text_in (full_lines source)
unfolding text_part text_in
text_is source = refl

image_is : (source : List ℕ) → image_part source ≡ image_in (full_lines source)
unfolding image_part image_in
image_is source = refl

parts_by : (t : Bool) (source : List ℕ) → list_any is_mark (full_lines source) ≡ t → IsParted source (text_part source) (image_part source)
parts_by true source a =
    rw (text_is source, image_is source) (inl (subst (λ x. IsMarked x (text_in (full_lines source)) (image_in (full_lines source))) (joined source) (marked (full_lines source) (full source) a)))
parts_by false source a =
    let k = unmarked_all (full_lines source) a in
    inr (record { none = a; whole = text_is source ∙ k.0 ∙ joined source; empty = image_is source ∙ k.1 })

pub parts : (source : List ℕ) → IsParted source (text_part source) (image_part source)
parts source = parts_by (list_any is_mark (full_lines source)) source refl

-- ---- And no others

at_mark : (lines : List (List ℕ)) (mark : List ℕ) (more : List (List ℕ)) → list_any is_mark lines ≡ false → is_mark mark ≡ true
    → (text_in (lines ++ mark ∷ more) ≡ concat lines) × (image_in (lines ++ mark ∷ more) ≡ concat more)
at_mark [] mark more n m = (text_stops mark more m, image_begins mark more m)
at_mark (line ∷ lines) mark more n m =
    let e = or_left (is_mark line) (list_any is_mark lines) n in
    let k = at_mark lines mark more (or_both (is_mark line) (list_any is_mark lines) n) m in
    (text_goes_on line (lines ++ mark ∷ more) e ∙ ap (λ x. line ++ x) k.0, image_goes_on line (lines ++ mark ∷ more) e ∙ k.1)

-- a mark is one line
line_if : (s : Bool) (mark line : List ℕ) (rest : Bool) → bytes_eq mark line ≡ s → (is_full line || is_open line) ≡ true → (s || rest) ≡ true
    → (rest ≡ true → (is_full mark || is_open mark) ≡ true) → (is_full mark || is_open mark) ≡ true
line_if true mark line rest e f h more = subst (λ x. (is_full x || is_open x) ≡ true) (sym ((bytes_eq-Decides mark line).0 e)) f
line_if false mark line rest e f h more = more h

mark_if : (mark : List ℕ) (lines : List (List ℕ)) → list_all (λ line. is_full line || is_open line) lines ≡ true → list_any (bytes_eq mark) lines ≡ true → (is_full mark || is_open mark) ≡ true
mark_if mark [] f h = never h
mark_if mark (line ∷ lines) f h =
    line_if (bytes_eq mark line) mark line (list_any (bytes_eq mark) lines) refl (and_left (is_full line || is_open line) (list_all (λ l. is_full l || is_open l) lines) f) h
    (λ k. mark_if mark lines (and_right (is_full line || is_open line) (list_all (λ l. is_full l || is_open l) lines) f) k)

mark_line : (mark : List ℕ) → is_mark mark ≡ true → (is_full mark || is_open mark) ≡ true
unfolding is_mark
mark_line mark h = mark_if mark (codes "---" ∷ codes "---\r" ∷ codes "---\n" ∷ codes "---\r\n" ∷ []) refl h

mark_before : (mark image : List ℕ) → is_mark mark ≡ true → EndsLine mark ⊎ (image ≡ []) → full_lines (mark ++ image) ≡ mark ∷ full_lines image
mark_before mark image m (inl e) = parted mark image e ∙ ap (λ x. x ++ full_lines image) (alone mark (mark_line mark m))
mark_before mark image m (inr e) = rw (e, append-nil mark, no_lines) (alone mark (mark_line mark m))

lines_of : (source text image : List ℕ) → (h : IsMarked source text image) → full_lines source ≡ full_lines text ++ h.mark ∷ full_lines image
lines_of source text image h =
    ap full_lines h.whole ∙ parted text (h.mark ++ image) h.begins ∙ ap (λ x. full_lines text ++ x) (mark_before h.mark image h.is h.behind)

pub others : (source text image : List ℕ) → IsParted source text image → (text ≡ text_part source) × (image ≡ image_part source)
others source text image (inl h) =
    let k = at_mark (full_lines text) h.mark (full_lines image) h.first h.is in
    let e = lines_of source text image h in
    (sym (text_is source ∙ ap text_in e ∙ k.0 ∙ joined text), sym (image_is source ∙ ap image_in e ∙ k.1 ∙ joined image))
others source text image (inr h) =
    let k = unmarked_all (full_lines source) h.none in
    (h.whole ∙ sym (text_is source ∙ k.0 ∙ joined source), h.empty ∙ sym (image_is source ∙ k.1))

-- ---- What the code finds

-- where the first line of the rest is a mark
pub stops : (source text rest line image : List ℕ) (at n : ℕ) → text_part source ≡ take at source ++ text_part (drop at source) → image_part source ≡ image_part (drop at source)
    → text ≡ take at source → rest ≡ drop at source → line ≡ take n rest → image ≡ drop n rest → full_lines rest ≡ take n rest ∷ full_lines (drop n rest) → is_mark line ≡ true
    → (text ≡ text_part source) × (image ≡ image_part source)
stops source text rest line image at n t i et er el ei e m =
    let k : is_mark (take n rest) ≡ true = subst (λ x. is_mark x ≡ true) el m in
    let no : text_part rest ≡ [] = text_is rest ∙ ap text_in e ∙ text_stops (take n rest) (full_lines (drop n rest)) k in
    let all : image_part rest ≡ drop n rest = image_is rest ∙ ap image_in e ∙ image_begins (take n rest) (full_lines (drop n rest)) k ∙ joined (drop n rest) in
    (et ∙ sym (append-nil (take at source)) ∙ sym (t ∙ ap (λ x. take at source ++ x) (ap text_part (sym er) ∙ no)), ei ∙ sym (i ∙ ap image_part (sym er) ∙ all))

-- where it isn't
pub record GoesOn (source : List ℕ) (at : ℕ) : Type 0 where
  pub text : text_part source ≡ take at source ++ text_part (drop at source)
  pub image : image_part source ≡ image_part (drop at source)

pub goes_on : (source rest line : List ℕ) (at n : ℕ) → text_part source ≡ take at source ++ text_part (drop at source) → image_part source ≡ image_part (drop at source)
    → rest ≡ drop at source → line ≡ take n rest → n ≤ length rest → full_lines rest ≡ take n rest ∷ full_lines (drop n rest) → is_mark line ≡ false → GoesOn source (at + length line)
goes_on source rest line at n t i er el within e m =
    let k : is_mark (take n rest) ≡ false = subst (λ x. is_mark x ≡ false) el m in
    let long : length line ≡ n = ap length el ∙ length-take-le n rest within in
    let more : text_part rest ≡ take n rest ++ text_part (drop n rest) = text_is rest ∙ ap text_in e ∙ text_goes_on (take n rest) (full_lines (drop n rest)) k ∙ ap (λ x. take n rest ++ x) (sym (text_is (drop n rest))) in
    let same : image_part rest ≡ image_part (drop n rest) = image_is rest ∙ ap image_in e ∙ image_goes_on (take n rest) (full_lines (drop n rest)) k ∙ sym (image_is (drop n rest)) in
    rw long (record {
      text = t ∙ ap (λ x. take at source ++ x) (ap text_part (sym er) ∙ more ∙ ap (λ r. take n r ++ text_part (drop n r)) er)
          ∙ sym (append_assoc (take at source) (take n (drop at source)) (text_part (drop n (drop at source))))
          ∙ ap (λ x. x ++ text_part (drop n (drop at source))) (sym (take-add at n source))
          ∙ ap (λ x. take (at + n) source ++ text_part x) (drop-drop n at source);
      image = i ∙ ap image_part (sym er) ∙ same ∙ ap (λ r. image_part (drop n r)) er ∙ ap image_part (drop-drop n at source);
    })

-- behind the last line
pub ends : (source text image : List ℕ) (at : ℕ) → text_part source ≡ take at source ++ text_part (drop at source) → image_part source ≡ image_part (drop at source)
    → at ≤ length source → length source ≤ at → text ≡ take at source → image ≡ drop at source → (text ≡ text_part source) × (image ≡ image_part source)
ends source text image at t i within end et ei =
    let none : drop at source ≡ [] = drop_all at source end in
    let no_text : text_part [] ≡ [] = text_is [] ∙ ap text_in no_lines ∙ no_text_in in
    let no_image : image_part [] ≡ [] = image_is [] ∙ ap image_in no_lines ∙ no_image_in in
    (et ∙ sym (append-nil (take at source)) ∙ sym (t ∙ ap (λ x. take at source ++ text_part x) none ∙ ap (λ x. take at source ++ x) no_text), ei ∙ none ∙ sym (i ∙ ap image_part none ∙ no_image))
