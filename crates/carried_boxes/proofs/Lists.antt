-- What the backward test takes of a list with one dimension more in front of the box.
use Rattle.std.proofs.Common.{◌≡◌, ℕ, ◌*◌, ◌≤◌, Bool, true, false, cond, List, [], ◌∷◌, ◌++◌, refl, sym, ap, ◌∙◌, arith}
use Rattle.std.specs.Prelude.{◌&&◌, not, reverse, nat_eq, nat_lt}
use Rattle.std.proofs.lemmas.Bool.{and_parts, eqb-true}
use mathlib.Core.List.{reverse-cons}
use Rattle.boxes.specs.Boxes.{Side, volume, count, is_whole}
use Rattle.carried_boxes.specs.Backward.{taken, left, ones, from_more, all_one}
use Rattle.carried_boxes.specs.Law.{HasElements}

pub cases : {P : Type 0} (b : Bool) → (b ≡ true → P) → (b ≡ false → P) → P
cases true y n = y refl
cases false y n = n refl

pub reverse_front : (d : Side) (ds : List Side) → reverse (d ∷ ds) ≡ reverse ds ++ d ∷ []
reverse_front d ds = reverse-cons d ds

-- whether all are whole
abbrev pub all_whole : List Side → Bool
all_whole [] = true
all_whole (d ∷ ds) = is_whole d && all_whole ds

pub all_whole_more : (xs : List Side) (d : Side) → all_whole (xs ++ d ∷ []) ≡ all_whole xs && is_whole d
all_whole_more [] d = by (is_whole d)
  where
    by : (b : Bool) → (b && true) ≡ b
    by true = refl
    by false = refl
all_whole_more (x ∷ xs) d = by (is_whole x) (all_whole_more xs d)
  where
    by : (b : Bool) → all_whole (xs ++ d ∷ []) ≡ all_whole xs && is_whole d → (b && all_whole (xs ++ d ∷ [])) ≡ (b && all_whole xs) && is_whole d
    by true e = e
    by false e = refl

pub all_one_more : (xs : List Side) (d : Side) → all_one (xs ++ d ∷ []) ≡ all_one xs && nat_eq d.extent 1
all_one_more [] d = by (nat_eq d.extent 1)
  where
    by : (b : Bool) → (b && true) ≡ b
    by true = refl
    by false = refl
all_one_more (x ∷ xs) d = by (nat_eq x.extent 1) (all_one_more xs d)
  where
    by : (b : Bool) → all_one (xs ++ d ∷ []) ≡ all_one xs && nat_eq d.extent 1 → (b && all_one (xs ++ d ∷ [])) ≡ (b && all_one xs) && nat_eq d.extent 1
    by true e = e
    by false e = refl

-- ---- where all are whole, nothing is left
pub left_whole : (xs : List Side) → all_whole xs ≡ true → left xs ≡ []
left_whole [] h = refl
left_whole (x ∷ xs) h = let w = and_parts (is_whole x) (all_whole xs) h in ap (λ b. cond b (left xs) xs) w.0 ∙ left_whole xs w.1

pub left_whole_more : (xs : List Side) (d : Side) → all_whole xs ≡ true → left (xs ++ d ∷ []) ≡ []
left_whole_more [] d h = by (is_whole d)
  where
    by : (b : Bool) → cond {A = List Side} b [] [] ≡ []
    by true = refl
    by false = refl
left_whole_more (x ∷ xs) d h = let w = and_parts (is_whole x) (all_whole xs) h in ap (λ b. cond b (left (xs ++ d ∷ [])) (xs ++ d ∷ [])) w.0 ∙ left_whole_more xs d w.1

-- and where not, one more is left
not_both : (a b : Bool) → a ≡ true → (a && b) ≡ false → b ≡ false
not_both true b e h = h
not_both false b e h = absurd (let z : ⊥ = cc in z)

pub left_more : (xs : List Side) (d : Side) → all_whole xs ≡ false → left (xs ++ d ∷ []) ≡ left xs ++ d ∷ []
left_more [] d h = absurd (let z : ⊥ = cc in z)
left_more (x ∷ xs) d h =
    cases (is_whole x) (λ e. ap (λ b. cond b (left (xs ++ d ∷ [])) (xs ++ d ∷ [])) e ∙ left_more xs d (not_both (is_whole x) (all_whole xs) e h) ∙ ap (λ b. cond b (left xs) xs ++ d ∷ []) (sym e))
    (λ e. ap (λ b. cond b (left (xs ++ d ∷ [])) (xs ++ d ∷ [])) e ∙ ap (λ b. cond b (left xs) xs ++ d ∷ []) (sym e))

pub taken_more : (xs : List Side) (d : Side) → all_whole xs ≡ false → taken (xs ++ d ∷ []) ≡ taken xs
taken_more [] d h = absurd (let z : ⊥ = cc in z)
taken_more (x ∷ xs) d h =
    cases (is_whole x) (λ e. ap (λ b. cond b (x ∷ taken (xs ++ d ∷ [])) (x ∷ [])) e ∙ ap (λ ys. x ∷ ys) (taken_more xs d (not_both (is_whole x) (all_whole xs) e h)) ∙ ap (λ b. cond b (x ∷ taken xs) (x ∷ [])) (sym e))
    (λ e. ap (λ b. cond b (x ∷ taken (xs ++ d ∷ [])) (x ∷ [])) e ∙ ap (λ b. cond b (x ∷ taken xs) (x ∷ [])) (sym e))

pub taken_left : (xs : List Side) → taken xs ++ left xs ≡ xs
taken_left [] = refl
taken_left (x ∷ xs) = by (is_whole x) (taken_left xs)
  where
    by : (b : Bool) → taken xs ++ left xs ≡ xs → cond b (x ∷ taken xs) (x ∷ []) ++ cond b (left xs) xs ≡ x ∷ xs
    by true e = ap (λ ys. x ∷ ys) e
    by false e = refl

-- ---- from the first with an extent above 1
pub from_none : (xs : List Side) (d : Side) → from_more xs ≡ [] → from_more (xs ++ d ∷ []) ≡ from_more (d ∷ [])
from_none [] d h = refl
from_none (x ∷ xs) d h = by (nat_lt 1 x.extent) h (λ k. from_none xs d k)
  where
    by : (b : Bool) → cond b (x ∷ xs) (from_more xs) ≡ [] → (from_more xs ≡ [] → from_more (xs ++ d ∷ []) ≡ from_more (d ∷ [])) → cond b (x ∷ (xs ++ d ∷ [])) (from_more (xs ++ d ∷ [])) ≡ from_more (d ∷ [])
    by true k more = absurd (let z : ⊥ = cc in z)
    by false k more = more k

pub from_some : (xs : List Side) (d b : Side) (bs : List Side) → from_more xs ≡ b ∷ bs → from_more (xs ++ d ∷ []) ≡ b ∷ (bs ++ d ∷ [])
from_some [] d b bs h = absurd (let z : ⊥ = cc in z)
from_some (x ∷ xs) d b bs h = by (nat_lt 1 x.extent) h (λ k. from_some xs d b bs k)
  where
    by : (c : Bool) → cond c (x ∷ xs) (from_more xs) ≡ b ∷ bs → (from_more xs ≡ b ∷ bs → from_more (xs ++ d ∷ []) ≡ b ∷ (bs ++ d ∷ [])) → cond c (x ∷ (xs ++ d ∷ [])) (from_more (xs ++ d ∷ [])) ≡ b ∷ (bs ++ d ∷ [])
    by true k more = ap (λ ys. ys ++ d ∷ []) k
    by false k more = more k

pub ones_none : (xs : List Side) (d : Side) → from_more xs ≡ [] → nat_lt 1 d.extent ≡ true → ones (xs ++ d ∷ []) ≡ xs
ones_none [] d h more = ap (λ b. cond b [] (d ∷ [])) more
ones_none (x ∷ xs) d h more = by (nat_lt 1 x.extent) h (λ k. ones_none xs d k more)
  where
    by : (c : Bool) → cond c (x ∷ xs) (from_more xs) ≡ [] → (from_more xs ≡ [] → ones (xs ++ d ∷ []) ≡ xs) → cond c [] (x ∷ ones (xs ++ d ∷ [])) ≡ x ∷ xs
    by true k go = absurd (let z : ⊥ = cc in z)
    by false k go = ap (λ ys. x ∷ ys) (go k)

pub ones_some : (xs : List Side) (d b : Side) (bs : List Side) → from_more xs ≡ b ∷ bs → ones (xs ++ d ∷ []) ≡ ones xs
ones_some [] d b bs h = absurd (let z : ⊥ = cc in z)
ones_some (x ∷ xs) d b bs h = by (nat_lt 1 x.extent) h (λ k. ones_some xs d b bs k)
  where
    by : (c : Bool) → cond c (x ∷ xs) (from_more xs) ≡ b ∷ bs → (from_more xs ≡ b ∷ bs → ones (xs ++ d ∷ []) ≡ ones xs) → cond c [] (x ∷ ones (xs ++ d ∷ [])) ≡ cond c [] (x ∷ ones xs)
    by true k go = refl
    by false k go = ap (λ ys. x ∷ ys) (go k)

-- ---- numbers
pub elements_more : (xs : List Side) (d : Side) → HasElements xs → 1 ≤ d.extent → HasElements (xs ++ d ∷ [])
elements_more [] d h k = (k, tt)
elements_more (x ∷ xs) d h k = (h.0, elements_more xs d h.1 k)

pub elements_left : (xs : List Side) → HasElements xs → HasElements (left xs)
elements_left [] h = tt
elements_left (x ∷ xs) h = by (is_whole x) (elements_left xs h.1)
  where
    by : (b : Bool) → HasElements (left xs) → HasElements (cond b (left xs) xs)
    by true k = k
    by false k = h.1

pub above : (n : ℕ) → 1 ≤ n → nat_lt 1 n ≡ not (nat_eq n 1)
above n h = grind (arith, h)

pub one_count : (xs : List Side) → HasElements xs → from_more xs ≡ [] → count xs ≡ 1
one_count [] h e = refl
one_count (x ∷ xs) h e = by (nat_eq x.extent 1) refl (above x.extent h.0) (one_count xs h.1)
  where
    by : (b : Bool) → nat_eq x.extent 1 ≡ b → nat_lt 1 x.extent ≡ not (nat_eq x.extent 1) → (from_more xs ≡ [] → count xs ≡ 1) → x.extent * count xs ≡ 1
    by true t m rest =
        let k : x.extent ≡ 1 = eqb-true x.extent 1 t in
        let more : nat_lt 1 x.extent ≡ false = m ∙ ap not t in
        let c : count xs ≡ 1 = rest (sym (ap (λ b. cond b (x ∷ xs) (from_more xs)) more) ∙ e) in
        (λ i. k i * c i)
    by false t m rest = let more : nat_lt 1 x.extent ≡ true = m ∙ ap not t in let z : x ∷ xs ≡ [] = sym (ap (λ b. cond b (x ∷ xs) (from_more xs)) more) ∙ e in absurd (let w : ⊥ = cc in w)

associated : (a b c : ℕ) → a * (b * c) ≡ (a * b) * c
associated a b c = grind arith

commuted : (a b : ℕ) → a * b ≡ b * a
commuted a b = grind arith

pub times_one : (a : ℕ) → a * 1 ≡ a
times_one a = omega arith

pub count_both : (xs ys : List Side) → count (xs ++ ys) ≡ count xs * count ys
count_both [] ys = omega arith
count_both (x ∷ xs) ys = ap (λ n. x.extent * n) (count_both xs ys) ∙ associated x.extent (count xs) (count ys)

pub volume_both : (xs ys : List Side) → volume (xs ++ ys) ≡ volume xs * volume ys
volume_both [] ys = omega arith
volume_both (x ∷ xs) ys = ap (λ n. x.size * n) (volume_both xs ys) ∙ associated x.size (volume xs) (volume ys)

pub count_reversed : (ds : List Side) → count (reverse ds) ≡ count ds
count_reversed [] = refl
count_reversed (d ∷ ds) = ap count (reverse_front d ds) ∙ count_both (reverse ds) (d ∷ []) ∙ (λ i. count_reversed ds i * times_one d.extent i) ∙ commuted (count ds) d.extent

pub volume_reversed : (ds : List Side) → volume (reverse ds) ≡ volume ds
volume_reversed [] = refl
volume_reversed (d ∷ ds) = ap volume (reverse_front d ds) ∙ volume_both (reverse ds) (d ∷ []) ∙ (λ i. volume_reversed ds i * times_one d.size i) ∙ commuted (volume ds) d.size

-- the elements that are taken are all, where no extent behind them is above 1
pub taken_count : (xs : List Side) → HasElements xs → from_more (left xs) ≡ [] → count (taken xs) ≡ count xs
taken_count xs h e = sym (times_one (count (taken xs))) ∙ ap (λ n. count (taken xs) * n) (sym (one_count (left xs) (elements_left xs h) e)) ∙ sym (count_both (taken xs) (left xs)) ∙ ap count (taken_left xs)
