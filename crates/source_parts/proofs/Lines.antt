-- The lines of a source.
use Rattle.std.proofs.Common.{◌≡◌, ℕ, suc, ◌+◌, ◌<◌, ◌≤◌, List, [], ◌∷◌, ◌++◌, length, take, drop, Bool, true, false, cond, refl, ◌∙◌, ap, subst, arith}
use Rattle.std.specs.Prelude.{not, ◌==◌, ◌&&◌, ◌||◌}
use Rattle.std.specs.List.{concat, list_all, onto_first, prefix_len}
use Rattle.source_parts.specs.Parts.{full_lines}
use Rattle.source_parts.specs.Laws.{is_full, is_open, are_lines, ended, EndsLine}

-- ---- One line after the other

pub ended_line : (b : ℕ) (bytes : List ℕ) → (b == 10) ≡ true → full_lines (b ∷ bytes) ≡ (b ∷ []) ∷ full_lines bytes
unfolding full_lines
ended_line b bytes e = rw e refl

pub begun_line : (b : ℕ) (bytes : List ℕ) → (b == 10) ≡ false → full_lines (b ∷ bytes) ≡ onto_first b (full_lines bytes)
unfolding full_lines
begun_line b bytes e = rw e refl

pub no_lines : full_lines [] ≡ []
unfolding full_lines
no_lines = refl

-- ---- They are the source

joined_first : (b : ℕ) (lines : List (List ℕ)) → concat (onto_first b lines) ≡ b ∷ concat lines
joined_first b [] = refl
joined_first b (line ∷ more) = refl

joined_by : (t : Bool) (b : ℕ) (bytes : List ℕ) → (b == 10) ≡ t → concat (full_lines bytes) ≡ bytes → concat (full_lines (b ∷ bytes)) ≡ b ∷ bytes
joined_by true b bytes e h = ap concat (ended_line b bytes e) ∙ ap (λ x. b ∷ x) h
joined_by false b bytes e h = ap concat (begun_line b bytes e) ∙ joined_first b (full_lines bytes) ∙ ap (λ x. b ∷ x) h

pub joined : (source : List ℕ) → concat (full_lines source) ≡ source
unfolding full_lines
joined [] = refl
joined (b ∷ bytes) = joined_by (b == 10) b bytes refl (joined bytes)

-- ---- They are lines

pub never : {A : Type 0} → false ≡ true → A
never e = absurd (grind arith)

line_first : (b : ℕ) (lines : List (List ℕ)) → (b == 10) ≡ true → are_lines lines ≡ true → are_lines ((b ∷ []) ∷ lines) ≡ true
line_first b [] e h = rw e refl
line_first b (line ∷ more) e h = rw (e, h) refl

-- a full line after one more byte
longer_full : (b : ℕ) (line : List ℕ) → (b == 10) ≡ false → is_full line ≡ true → is_full (b ∷ line) ≡ true
longer_full b [] e h = never h
longer_full b (c ∷ line) e h = rw (e, h) refl

all_open : (c : ℕ) (bytes : List ℕ) → is_open (c ∷ bytes) ≡ true → list_all (λ c. not (c == 10)) (c ∷ bytes) ≡ true
all_open c bytes h = h

longer_open : (b : ℕ) (line : List ℕ) → (b == 10) ≡ false → is_open line ≡ true → is_open (b ∷ line) ≡ true
longer_open b [] e h = never h
longer_open b (c ∷ line) e h = rw (e, all_open c line h) refl

longer_or : (t : Bool) (b : ℕ) (line : List ℕ) → is_full line ≡ t → (b == 10) ≡ false → (is_full line || is_open line) ≡ true → (is_full (b ∷ line) || is_open (b ∷ line)) ≡ true
longer_or true b line f e h = rw (longer_full b line e f) refl
longer_or false b line f e h = let o : is_open line ≡ true = subst (λ t. (t || is_open line) ≡ true) f h in or_right (is_full (b ∷ line)) (is_open (b ∷ line)) (longer_open b line e o)
  where
    or_right : (s t : Bool) → t ≡ true → (s || t) ≡ true
    or_right true t h = refl
    or_right false t h = h

pub and_left : (s t : Bool) → (s && t) ≡ true → s ≡ true
and_left true t h = refl
and_left false t h = never h

pub and_right : (s t : Bool) → (s && t) ≡ true → t ≡ true
and_right true t h = h
and_right false t h = never h

longer_first : (b : ℕ) (lines : List (List ℕ)) → (b == 10) ≡ false → are_lines lines ≡ true → are_lines (onto_first b lines) ≡ true
longer_first b [] e h = rw e refl
longer_first b (line ∷ []) e h = longer_or (is_full line) b line refl e h
longer_first b (line ∷ next ∷ more) e h =
    let f = longer_full b line e (and_left (is_full line) (are_lines (next ∷ more)) h) in
    rw (f, and_right (is_full line) (are_lines (next ∷ more)) h) refl

lines_by : (t : Bool) (b : ℕ) (bytes : List ℕ) → (b == 10) ≡ t → are_lines (full_lines bytes) ≡ true → are_lines (full_lines (b ∷ bytes)) ≡ true
lines_by true b bytes e h = rw (ended_line b bytes e) (line_first b (full_lines bytes) e h)
lines_by false b bytes e h = rw (begun_line b bytes e) (longer_first b (full_lines bytes) e h)

pub full : (source : List ℕ) → are_lines (full_lines source) ≡ true
full [] = rw no_lines refl
full (b ∷ bytes) = lines_by (b == 10) b bytes refl (full bytes)

-- ---- Where a line ends, another begins

some_first : (b : ℕ) (lines rest : List (List ℕ)) → 0 < length lines → onto_first b (lines ++ rest) ≡ onto_first b lines ++ rest
some_first b [] rest h = absurd (omega arith)
some_first b (line ∷ more) rest h = refl

onto_some : (b : ℕ) (lines : List (List ℕ)) → 0 < length (onto_first b lines)
onto_some b [] = omega arith
onto_some b (line ∷ more) = omega arith

some_by : (t : Bool) (b : ℕ) (bytes : List ℕ) → (b == 10) ≡ t → 0 < length (full_lines (b ∷ bytes))
some_by true b bytes e = rw (ended_line b bytes e) (omega arith)
some_by false b bytes e = rw (begun_line b bytes e) (onto_some b (full_lines bytes))

some_lines : (bytes : List ℕ) → ended false bytes ≡ true → 0 < length (full_lines bytes)
some_lines [] h = never h
some_lines (b ∷ bytes) h = some_by (b == 10) b bytes refl

parted_by : (t : Bool) (b : ℕ) (front back : List ℕ) → (b == 10) ≡ t → ended t front ≡ true → full_lines (front ++ back) ≡ full_lines front ++ full_lines back → full_lines (b ∷ (front ++ back)) ≡ full_lines (b ∷ front) ++ full_lines back
parted_by true b front back e n h = rw (ended_line b (front ++ back) e, ended_line b front e, h) refl
parted_by false b front back e n h = rw (begun_line b (front ++ back) e, begun_line b front e, h) (some_first b (full_lines front) (full_lines back) (some_lines front n))

parted_at : (f : Bool) (front back : List ℕ) → ended f front ≡ true → full_lines (front ++ back) ≡ full_lines front ++ full_lines back
parted_at f [] back h = rw no_lines refl
parted_at f (b ∷ front) back h = parted_by (b == 10) b front back refl h (parted_at (b == 10) front back h)

pub parted : (front back : List ℕ) → EndsLine front → full_lines (front ++ back) ≡ full_lines front ++ full_lines back
parted front back h = parted_at true front back h

ended_at : (f : Bool) (front back : List ℕ) → ended f (front ++ back) ≡ ended (ended f front) back
ended_at f [] back = refl
ended_at f (b ∷ front) back = ended_at (b == 10) front back

pub ends_both : (front back : List ℕ) → EndsLine front → EndsLine back → EndsLine (front ++ back)
ends_both front back h k = ended_at true front back ∙ ap (λ t. ended t back) h ∙ k

-- ---- A line alone

full_ended : (f : Bool) (line : List ℕ) → is_full line ≡ true → ended f line ≡ true
full_ended f [] h = never h
full_ended f (b ∷ []) h = h
full_ended f (b ∷ c ∷ bytes) h = full_ended (b == 10) (c ∷ bytes) (and_right (not (b == 10)) (is_full (c ∷ bytes)) h)

pub full_ends : (line : List ℕ) → is_full line ≡ true → EndsLine line
full_ends line h = full_ended true line h

not_true : (t : Bool) → not t ≡ true → t ≡ false
not_true true h = never h
not_true false h = refl

alone_full : (line : List ℕ) → is_full line ≡ true → full_lines line ≡ line ∷ []
alone_full [] h = never h
alone_full (b ∷ []) h = ended_line b [] h ∙ ap (λ x. (b ∷ []) ∷ x) no_lines
alone_full (b ∷ c ∷ bytes) h =
    begun_line b (c ∷ bytes) (not_true (b == 10) (and_left (not (b == 10)) (is_full (c ∷ bytes)) h))
    ∙ ap (onto_first b) (alone_full (c ∷ bytes) (and_right (not (b == 10)) (is_full (c ∷ bytes)) h))

alone_open : (line : List ℕ) → is_open line ≡ true → full_lines line ≡ line ∷ []
alone_open [] h = never h
alone_open (b ∷ []) h = begun_line b [] (not_true (b == 10) (and_left (not (b == 10)) true h)) ∙ ap (onto_first b) no_lines
alone_open (b ∷ c ∷ bytes) h =
    begun_line b (c ∷ bytes) (not_true (b == 10) (and_left (not (b == 10)) (is_open (c ∷ bytes)) h))
    ∙ ap (onto_first b) (alone_open (c ∷ bytes) (and_right (not (b == 10)) (is_open (c ∷ bytes)) h))

alone_by : (t : Bool) (line : List ℕ) → is_full line ≡ t → (is_full line || is_open line) ≡ true → full_lines line ≡ line ∷ []
alone_by true line f h = alone_full line f
alone_by false line f h = alone_open line (subst (λ t. (t || is_open line) ≡ true) f h)

pub alone : (line : List ℕ) → (is_full line || is_open line) ≡ true → full_lines line ≡ line ∷ []
alone line h = alone_by (is_full line) line refl h

-- a full line before other bytes
pub before : (line back : List ℕ) → is_full line ≡ true → full_lines (line ++ back) ≡ line ∷ full_lines back
before line back h = parted line back (full_ends line h) ∙ ap (λ x. x ++ full_lines back) (alone_full line h)

-- ---- The first line

line_end : List ℕ → ℕ
line_end [] = 0
line_end (b ∷ bytes) = cond (b == 10) 1 (suc (line_end bytes))

end_here : (b : ℕ) (bytes : List ℕ) → (b == 10) ≡ true → line_end (b ∷ bytes) ≡ 1
unfolding line_end
end_here b bytes e = rw e refl

end_later : (b : ℕ) (bytes : List ℕ) → (b == 10) ≡ false → line_end (b ∷ bytes) ≡ suc (line_end bytes)
unfolding line_end
end_later b bytes e = rw e refl

first_later : (b : ℕ) (bytes : List ℕ) → (0 < length bytes → full_lines bytes ≡ take (line_end bytes) bytes ∷ full_lines (drop (line_end bytes) bytes))
    → onto_first b (full_lines bytes) ≡ (b ∷ take (line_end bytes) bytes) ∷ full_lines (drop (line_end bytes) bytes)
unfolding line_end
first_later b [] h = rw no_lines refl
first_later b (c ∷ bytes) h = ap (onto_first b) (h (omega arith))

first_by : (t : Bool) (b : ℕ) (bytes : List ℕ) → (b == 10) ≡ t → (0 < length bytes → full_lines bytes ≡ take (line_end bytes) bytes ∷ full_lines (drop (line_end bytes) bytes))
    → full_lines (b ∷ bytes) ≡ take (line_end (b ∷ bytes)) (b ∷ bytes) ∷ full_lines (drop (line_end (b ∷ bytes)) (b ∷ bytes))
first_by true b bytes e h = rw (end_here b bytes e) (ended_line b bytes e)
first_by false b bytes e h = rw (end_later b bytes e) (begun_line b bytes e ∙ first_later b bytes h)

first_at : (bytes : List ℕ) → 0 < length bytes → full_lines bytes ≡ take (line_end bytes) bytes ∷ full_lines (drop (line_end bytes) bytes)
first_at [] h = absurd (omega arith)
first_at (b ∷ bytes) h = first_by (b == 10) b bytes refl (first_at bytes)

bare : List ℕ → ℕ
bare bytes = prefix_len (λ b. not (b == 10)) bytes

bare_here : (b : ℕ) (bytes : List ℕ) → (b == 10) ≡ true → bare (b ∷ bytes) ≡ 0
unfolding bare
bare_here b bytes e = rw e refl

bare_later : (b : ℕ) (bytes : List ℕ) → (b == 10) ≡ false → bare (b ∷ bytes) ≡ 1 + bare bytes
unfolding bare
bare_later b bytes e = rw e refl

-- the end of the first line is behind its line feed, or where the bytes end
record Ends (bytes : List ℕ) : Type 0 where
  fed : bare bytes < length bytes → line_end bytes ≡ bare bytes + 1
  unfed : length bytes ≤ bare bytes → line_end bytes ≡ bare bytes

ends_by : (t : Bool) (b : ℕ) (bytes : List ℕ) → (b == 10) ≡ t → Ends bytes → Ends (b ∷ bytes)
ends_by true b bytes e h = record {
  fed = λ k. let l = end_here b bytes e in let n = bare_here b bytes e in omega arith;
  unfed = λ k. let n = bare_here b bytes e in absurd (omega arith);
}
ends_by false b bytes e h = record {
  fed = λ k. let l = end_later b bytes e in let n = bare_later b bytes e in let q = h.fed (omega arith) in omega arith;
  unfed = λ k. let l = end_later b bytes e in let n = bare_later b bytes e in let q = h.unfed (omega arith) in omega arith;
}

ends_at : (bytes : List ℕ) → Ends bytes
unfolding line_end bare
ends_at [] = record { fed = λ k. absurd (omega arith); unfed = λ k. refl }
ends_at (b ∷ bytes) = ends_by (b == 10) b bytes refl (ends_at bytes)

pub first_fed : (bytes : List ℕ) → prefix_len (λ b. not (b == 10)) bytes < length bytes
    → full_lines bytes ≡ take (prefix_len (λ b. not (b == 10)) bytes + 1) bytes ∷ full_lines (drop (prefix_len (λ b. not (b == 10)) bytes + 1) bytes)
unfolding bare
first_fed bytes h = subst (λ n. full_lines bytes ≡ take n bytes ∷ full_lines (drop n bytes)) ((ends_at bytes).fed h) (first_at bytes (omega arith))

pub first_unfed : (bytes : List ℕ) → 0 < length bytes → length bytes ≤ prefix_len (λ b. not (b == 10)) bytes
    → full_lines bytes ≡ take (prefix_len (λ b. not (b == 10)) bytes) bytes ∷ full_lines (drop (prefix_len (λ b. not (b == 10)) bytes) bytes)
unfolding bare
first_unfed bytes some h = subst (λ n. full_lines bytes ≡ take n bytes ∷ full_lines (drop n bytes)) ((ends_at bytes).unfed h) (first_at bytes some)
