-- How many tags are started, and how many records there are.
use Rattle.std.proofs.Common.{◌≡◌, ℕ, zero, suc, ◌+◌, ◌<◌, Bool, true, false, List, [], ◌∷◌, length, set, sym, refl, ap, ◌∙◌, arith, eq-eqb, ne_eqb, All}
use Rattle.std.specs.Prelude.{Option, Some, None, nat_eq, if◌then◌else◌}
use Rattle.std.proofs.lemmas.List.Elements.{All-cons}
use native.Mathlib.Decide.{ℕ_discrete}
use Rattle.bus_model.specs.declared.transfer.Transfer.{Transfer}
use Rattle.bus_model.specs.declared.transfer.Started.{Started}
use Rattle.tag_table.specs.Rule.{started_at}
use Rattle.prompt_semantics.specs.Device.{record_of, without, is_started}
use Rattle.overlap_memory.specs.Tied.{how_many, one_if_started}
use Rattle.overlap_memory.proofs.Lists.{if_true, if_false}

-- a started tag is one of the tags
pub started_below : (tags : List (Option Started)) (tag : ℕ) (st : Started) → started_at tags tag ≡ Some st → tag < length tags
started_below [] tag st e = absurd (cc)
started_below (o ∷ os) zero st e = omega arith
started_below (o ∷ os) (suc tag) st e = let lt = started_below os tag st e in omega arith

pub count_stop : (tags : List (Option Started)) (tag : ℕ) (st : Started) → started_at tags tag ≡ Some st → how_many (set tags tag None) + 1 ≡ how_many tags
count_stop [] tag st e = absurd (cc)
count_stop (o ∷ os) zero st e = let h : one_if_started o ≡ 1 = ap one_if_started e in omega arith
count_stop (o ∷ os) (suc tag) st e = let h = count_stop os tag st e in omega arith

pub count_start : (tags : List (Option Started)) (tag : ℕ) (st : Started) → started_at tags tag ≡ None → tag < length tags → how_many (set tags tag (Some st)) ≡ how_many tags + 1
count_start [] tag st e lt = absurd (omega arith)
count_start (o ∷ os) zero st e lt = let h : one_if_started o ≡ 0 = ap one_if_started e in omega arith
count_start (o ∷ os) (suc tag) st e lt = let h = count_start os tag st e (omega arith) in omega arith

most : (o : Option Started) → one_if_started o < 2
most None = omega arith
most (Some st) = omega arith

pub count_most : (tags : List (Option Started)) → how_many tags < length tags + 1
count_most [] = omega arith
count_most (o ∷ os) = let h = count_most os in let m = most o in omega arith

-- where one is idle there are fewer
pub count_less : (tags : List (Option Started)) (tag : ℕ) → started_at tags tag ≡ None → tag < length tags → how_many tags < length tags
count_less [] tag e lt = absurd (omega arith)
count_less (o ∷ os) zero e lt = let h : one_if_started o ≡ 0 = ap one_if_started e in let m = count_most os in omega arith
count_less (o ∷ os) (suc tag) e lt = let h = count_less os tag e (omega arith) in let m = most o in omega arith

pub length_without : (ts : List Transfer) (tag : ℕ) (t : Transfer) → record_of tag ts ≡ Some t → length (without tag ts) + 1 ≡ length ts
length_without [] tag t e = absurd (cc)
length_without (u ∷ us) tag t e = elim (ℕ_discrete u.tag tag) [
  | yes p ↦ let h = ap (λ l. length l) (if_true (nat_eq u.tag tag) us (u ∷ without tag us) (eq-eqb u.tag tag p)) in omega arith
  | no ne ↦ let b = ne_eqb u.tag tag ne in
      let h = ap (λ l. length l) (if_false (nat_eq u.tag tag) us (u ∷ without tag us) b) in
      let k = length_without us tag t (sym (if_false (nat_eq u.tag tag) (Some u) (record_of tag us) b) ∙ e) in omega arith
]

all_choice : (P : Transfer → Type 0) (b : Bool) (xs ys : List Transfer) → All P xs → All P ys → All P (if b then xs else ys)
all_choice P true xs ys h k = h
all_choice P false xs ys h k = k

pub all_without : (P : Transfer → Type 0) (ts : List Transfer) (tag : ℕ) → All P ts → All P (without tag ts)
all_without P [] tag a = a
all_without P (u ∷ us) tag a =
    let head : P u = a 0 u (omega arith) in
    let tail : All P us = λ k d lt. a (suc k) d (omega (arith, lt)) in
    all_choice P (nat_eq u.tag tag) us (u ∷ without tag us) tail (All-cons P u (without tag us) head (all_without P us tag tail))

pub not_started : (ts : List Transfer) (tag : ℕ) → is_started ts tag ≡ false → record_of tag ts ≡ None
not_started [] tag e = refl
not_started (u ∷ us) tag e = elim (ℕ_discrete u.tag tag) [
  | yes p ↦ absurd (grind (arith, e, eq-eqb u.tag tag p))
  | no ne ↦ let b = ne_eqb u.tag tag ne in if_false (nat_eq u.tag tag) (Some u) (record_of tag us) b ∙ not_started us tag (grind (arith, e, b))
]
