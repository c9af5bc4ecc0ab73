-- What each shape says of the dimensions that the backward test takes, and that one dimension more keeps it.
use Rattle.std.proofs.Common.{◌≡◌, ℕ, Bool, true, false, cond, List, [], ◌∷◌, ◌++◌, refl, sym, ap, ◌∙◌, subst}
use Rattle.std.specs.Prelude.{◌&&◌, not, reverse, nat_eq, nat_lt, Some}
use Rattle.boxes.specs.Boxes.{Side, volume, count, is_whole, Shape, Whole, OneRun, Even, Runs, Mixed, shape_over, shape, is_mixed}
use Rattle.staged_plans.specs.Plans.{chunks_of}
use Rattle.carried_boxes.specs.Backward.{taken, left, ones, from_more, all_one, repeated, is_carried, chunk, stride, chunks_by, chunks}
use Rattle.carried_boxes.specs.Law.{HasElements, TestsAgree}
use Rattle.carried_boxes.proofs.Lists.{reverse_front, all_whole, all_whole_more, all_one_more, left_whole, left_whole_more, left_more, taken_more, taken_left, from_none, from_some, ones_none, ones_some, elements_more, above, count_reversed, volume_reversed, taken_count}

-- ---- of the dimensions backward
-- chunks repeat from b on, with this chunk and stride
record Repeats (xs : List Side) (c s : ℕ) : Type 0 where
  partial : all_whole xs ≡ false
  b : Side
  bs : List Side
  is : from_more (left xs) ≡ b ∷ bs
  chunk_ : count (taken xs) ≡ c
  stride_ : volume (taken xs ++ ones (left xs)) ≡ s

record Unlike (xs : List Side) : Type 0 where
  partial : all_whole xs ≡ false
  b : Side
  bs : List Side
  is : from_more (left xs) ≡ b ∷ bs
  ended : all_whole (b ∷ bs) ≡ false
  more : all_one (left (b ∷ bs)) ≡ false

abbrev Holds : List Side → Shape → Type 0
Holds xs Whole = all_whole xs ≡ true
Holds xs OneRun = (all_whole xs ≡ false) × (from_more (left xs) ≡ [])
Holds xs (Even c s) = (r : Repeats xs c s) × (all_whole (r.b ∷ r.bs) ≡ true)
Holds xs (Runs c s) = (r : Repeats xs c s) × (all_whole (r.b ∷ r.bs) ≡ false) × (all_one (left (r.b ∷ r.bs)) ≡ true)
Holds xs Mixed = Unlike xs

both_false : (a b : Bool) → b ≡ false → (a && b) ≡ false
both_false true b e = e
both_false false b e = refl

first_false : (a b : Bool) → a ≡ false → (a && b) ≡ false
first_false true b e = absurd (let z : ⊥ = cc in z)
first_false false b e = refl

module _ (xs : List Side) (d : Side) (one_is : nat_lt 1 d.extent ≡ not (nat_eq d.extent 1)) where
  abbrev xd : List Side
  xd = xs ++ d ∷ []

  still_partial : all_whole xs ≡ false → all_whole xd ≡ false
  still_partial h = all_whole_more xs d ∙ first_false (all_whole xs) (is_whole d) h

  -- from the first of these on, one more
  more_repeats : (c s : ℕ) → Repeats xs c s → Repeats xd c s
  more_repeats c s r = record {
    partial = still_partial r.partial;
    b = r.b;
    bs = r.bs ++ d ∷ [];
    is = ap from_more (left_more xs d r.partial) ∙ from_some (left xs) d r.b r.bs r.is;
    chunk_ = ap count (taken_more xs d r.partial) ∙ r.chunk_;
    stride_ = ap volume ((λ i. taken_more xs d r.partial i ++ ones (left_more xs d r.partial i)) ∙ ap (λ ys. taken xs ++ ys) (ones_some (left xs) d r.b r.bs r.is)) ∙ r.stride_;
  }

  -- the first
  first_repeats : (ds : List Side) → all_whole xs ≡ false → from_more (left xs) ≡ [] → nat_eq d.extent 1 ≡ false → count (taken xs) ≡ count ds → volume xs ≡ volume ds → Repeats xd (count ds) (volume ds)
  first_repeats ds partial none not_one c v =
      let more : nat_lt 1 d.extent ≡ true = one_is ∙ ap not not_one in
      record {
        partial = still_partial partial;
        b = d;
        bs = [];
        is = ap from_more (left_more xs d partial) ∙ from_none (left xs) d none ∙ ap (λ t. cond t (d ∷ []) []) more;
        chunk_ = ap count (taken_more xs d partial) ∙ c;
        stride_ = ap volume ((λ i. taken_more xs d partial i ++ ones (left_more xs d partial i)) ∙ ap (λ ys. taken xs ++ ys) (ones_none (left xs) d none more) ∙ taken_left xs) ∙ v;
      }

  alone_whole : (t : Bool) → is_whole d ≡ t → all_whole (d ∷ []) ≡ t
  alone_whole true e = ap (λ t. t && true) e
  alone_whole false e = ap (λ t. t && true) e

  nothing_left : left (d ∷ []) ≡ []
  nothing_left = by (is_whole d)
    where
      by : (t : Bool) → cond {A = List Side} t [] [] ≡ []
      by true = refl
      by false = refl

  whole_step : (ds : List Side) → all_whole xs ≡ true → Holds xd (shape_over d ds Whole)
  whole_step ds h = by (is_whole d) refl
    where
      by : (t : Bool) → is_whole d ≡ t → Holds xd (cond t Whole OneRun)
      by true e = all_whole_more xs d ∙ (λ i. h i && e i)
      by false e = (all_whole_more xs d ∙ both_false (all_whole xs) (is_whole d) e, ap from_more (left_whole_more xs d h))

  one_step : (ds : List Side) → count (taken xs) ≡ count ds → volume xs ≡ volume ds → Holds xs OneRun → Holds xd (shape_over d ds OneRun)
  unfolding first_repeats
  one_step ds c v h = by (nat_eq d.extent 1) (is_whole d) refl refl
    where
      by : (o t : Bool) → nat_eq d.extent 1 ≡ o → is_whole d ≡ t → Holds xd (cond o OneRun (cond t (Even (count ds) (volume ds)) (Runs (count ds) (volume ds))))
      by true t o e = (still_partial h.0, ap from_more (left_more xs d h.0) ∙ from_none (left xs) d h.1 ∙ ap (λ t. cond t (d ∷ []) []) (one_is ∙ ap not o))
      by false true o e = (first_repeats ds h.0 h.1 o c v, alone_whole true e)
      by false false o e = (first_repeats ds h.0 h.1 o c v, alone_whole false e, ap all_one nothing_left)

  even_step : (ds : List Side) (c s : ℕ) → Holds xs (Even c s) → Holds xd (shape_over d ds (Even c s))
  unfolding more_repeats
  even_step ds c s h = by (is_whole d) refl
    where
      r : Repeats xs c s
      r = h.0

      by : (t : Bool) → is_whole d ≡ t → Holds xd (cond t (Even c s) (Runs c s))
      by true e = (more_repeats c s r, all_whole_more (r.b ∷ r.bs) d ∙ (λ i. h.1 i && e i))
      by false e = (more_repeats c s r, all_whole_more (r.b ∷ r.bs) d ∙ both_false (all_whole (r.b ∷ r.bs)) (is_whole d) e, ap all_one (left_whole_more (r.b ∷ r.bs) d h.1))

  one_more : (ys : List Side) → all_whole ys ≡ false → all_one (left (ys ++ d ∷ [])) ≡ all_one (left ys) && nat_eq d.extent 1
  one_more ys p = ap all_one (left_more ys d p) ∙ all_one_more (left ys) d

  runs_step : (ds : List Side) (c s : ℕ) → Holds xs (Runs c s) → Holds xd (shape_over d ds (Runs c s))
  unfolding more_repeats
  runs_step ds c s h = by (nat_eq d.extent 1) refl
    where
      r : Repeats xs c s
      r = h.0

      m : Repeats xd c s
      m = more_repeats c s r

      ended : all_whole (r.b ∷ (r.bs ++ d ∷ [])) ≡ false
      ended = all_whole_more (r.b ∷ r.bs) d ∙ first_false (all_whole (r.b ∷ r.bs)) (is_whole d) h.1

      by : (o : Bool) → nat_eq d.extent 1 ≡ o → Holds xd (cond o (Runs c s) Mixed)
      by true e = (m, ended, one_more (r.b ∷ r.bs) h.1 ∙ (λ i. h.2 i && e i))
      by false e = record { partial = m.partial; b = m.b; bs = m.bs; is = m.is; ended = ended; more = one_more (r.b ∷ r.bs) h.1 ∙ both_false (all_one (left (r.b ∷ r.bs))) (nat_eq d.extent 1) e }

  mixed_step : Holds xs Mixed → Holds xd Mixed
  mixed_step u = record {
    partial = still_partial u.partial;
    b = u.b;
    bs = u.bs ++ d ∷ [];
    is = ap from_more (left_more xs d u.partial) ∙ from_some (left xs) d u.b u.bs u.is;
    ended = all_whole_more (u.b ∷ u.bs) d ∙ first_false (all_whole (u.b ∷ u.bs)) (is_whole d) u.ended;
    more = one_more (u.b ∷ u.bs) u.ended ∙ first_false (all_one (left (u.b ∷ u.bs))) (nat_eq d.extent 1) u.more;
  }

  step : (ds : List Side) → HasElements xs → count xs ≡ count ds → volume xs ≡ volume ds → (k : Shape) → Holds xs k → Holds xd (shape_over d ds k)
  step ds some c v Whole h = whole_step ds h
  step ds some c v OneRun h = one_step ds (taken_count xs some h.1 ∙ c) v h
  step ds some c v (Even n s) h = even_step ds n s h
  step ds some c v (Runs n s) h = runs_step ds n s h
  step ds some c v Mixed h = mixed_step h

elements_reversed : (ds : List Side) → HasElements ds → HasElements (reverse ds)
elements_reversed [] h = tt
elements_reversed (d ∷ ds) h = subst HasElements (sym (reverse_front d ds)) (elements_more (reverse ds) d (elements_reversed ds h.1) h.0)

holds : (ds : List Side) → HasElements ds → Holds (reverse ds) (shape ds)
holds [] h = refl
holds (d ∷ ds) h = subst (λ xs. Holds xs (shape (d ∷ ds))) (sym (reverse_front d ds)) (step (reverse ds) d (above d.extent h.0) ds (elements_reversed ds h.1) (count_reversed ds) (volume_reversed ds) (shape ds) (holds ds h.1))

-- ---- so the tests agree
abbrev Agree : List Side → Shape → Type 0
Agree ds k = (is_mixed k ≡ not (is_carried ds)) × (is_carried ds ≡ true → chunks_of k ≡ chunks ds)

agree : (ds : List Side) (k : Shape) → Holds (reverse ds) k → Agree ds k
agree ds Whole h =
    let none : repeated ds ≡ [] = ap from_more (left_whole (reverse ds) h) in
    (ap (λ ys. not (all_one (left ys))) (sym none), λ e. ap (chunks_by ds) (sym none))
agree ds OneRun h = (ap (λ ys. not (all_one (left ys))) (sym h.1), λ e. ap (chunks_by ds) (sym h.1))
agree ds (Even c s) h =
    let r = h.0 in
    (ap (λ t. not t) (sym (ap (λ ys. all_one (left ys)) r.is ∙ ap all_one (left_whole (r.b ∷ r.bs) h.1))), λ e. (λ i. Some (sym r.stride_ i, sym r.chunk_ i)) ∙ ap (chunks_by ds) (sym r.is))
agree ds (Runs c s) h =
    let r = h.0 in
    (ap (λ t. not t) (sym (ap (λ ys. all_one (left ys)) r.is ∙ h.2)), λ e. (λ i. Some (sym r.stride_ i, sym r.chunk_ i)) ∙ ap (chunks_by ds) (sym r.is))
agree ds Mixed h =
    let no : is_carried ds ≡ false = ap (λ ys. all_one (left ys)) h.is ∙ h.more in
    (ap (λ t. not t) (sym no), λ e. absurd (let z : true ≡ false = sym e ∙ no in let w : ⊥ = cc in w))

pub tests_agree : TestsAgree
tests_agree ds h = agree ds (shape ds) (holds ds h)
