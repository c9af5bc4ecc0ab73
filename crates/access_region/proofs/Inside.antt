-- Where a subscript lies within the memref it lies in the region, in each visit, and the region lies in the memref.
use Rattle.std.proofs.Common.{◌≡◌, ℕ, zero, suc, ◌≤◌, Bool, true, false, cond, ◌||◌, List, [], ◌∷◌, ◌++◌, take, length, get_or, replicate, Option, Some, None, Result, Ok, Err, ℤ, pos, ◌+ℤ◌, ◌-ℤ◌, ◌*ℤ◌, ◌<ℤ◌, ◌≤ℤ◌, int_lt, refl, sym, ◌∙◌, ap, subst, arith, length-append, inl, inr}
use Rattle.std.specs.Prelude.{int_le, ◌⊎◌}
use Rattle.std.specs.Int.{int_min, int_max}
use Rattle.std.proofs.lemmas.Int.{ints, clamps}
use Rattle.std.proofs.lemmas.List.{length-replicate}
use Rattle.constraint_set.specs.Lists.{Each}
use Rattle.constraint_set.specs.Points.{LinearSystem, AreWide, PointOf, value_at}
use Rattle.constraint_set.specs.Elimination.{Refusal, too_wide}
use Rattle.constraint_set.specs.Reach.{Reach, never, between, reach_of, TellsReach}
use Rattle.constraint_set.proofs.Steps.{Each-append, Each-weaken}
use Rattle.constraint_set.proofs.Reaching.{reach_tells}
use Rattle.affine_expr.specs.declared.linear.LinearFault.{LinearFault}
use Rattle.affine_expr.specs.Forms.{Form, dot}
use Rattle.affine_expr.specs.Linear.{number_form}
use Rattle.affine_expr.proofs.FormValues as forms
use Rattle.affine_expr.proofs.FormValues.{worth, dot-longer, dot-zeros, number_worth, number_long}
use Rattle.affine_expr.specs.Linear.{minus}
use Rattle.nest_domain.specs.Domains.{row_at}
use Rattle.affine_expr.proofs.Meaning.{Is, Are}
use Rattle.nest_domain.proofs.Rowed.{minus_is}
use Rattle.nest_domain.proofs.Places.{row_worth, row_wide}
use Rattle.nest_domain.specs.Boxes.{Dimension, place_at}
use Rattle.access_region.specs.declared.candidate.End.{End}
use Rattle.access_region.specs.declared.candidate.End.TheVariants.{Lower, Upper}
use Rattle.access_region.specs.Faults.{NoRegion, unplaced, ◌>>=◌, by_form, by_elimination}
use Rattle.access_region.specs.Candidates.{Reaching, subscript, candidate, has_coefs, with_candidate, with_candidates, candidates}
use Rattle.access_region.specs.declared.span.Span.{Span}
use Rattle.access_region.specs.Spans.{reach_at, with_reach, combination, distance, spans_of, joined, all_joined, Tried, tried_from, tried, lesser, best}
use Rattle.access_region.specs.Regions.{Outside, at_most_whole, clamped_by, placed, dimension, dimensions}

-- ---- answers
abbrev pub Gives : {A : Type 0} → Result A NoRegion → (A → Type 0) → Type 0
Gives (Ok x) P = P x
Gives (Err e) P = Unit {0}

-- what comes next, with the step's answer
pub on : {A B : Type 0} (w : Result A NoRegion) (f : A → Result B NoRegion) (Q : B → Type 0) → ((x : A) → w ≡ Ok x → Gives (f x) Q) → Gives (w >>= f) Q
on (Ok x) f Q g = g x refl
on (Err e) f Q g = tt

pub then_by : {A B : Type 0} (w : Result A NoRegion) (f : A → Result B NoRegion) (P : A → Type 0) (Q : B → Type 0) → Gives w P → ((x : A) → P x → Gives (f x) Q) → Gives (w >>= f) Q
then_by (Ok x) f P Q h g = g x h
then_by (Err e) f P Q h g = tt

pub formed_by : {A : Type 0} (w : Result A LinearFault) (P : A → Type 0) → forms.Gives w P → Gives (by_form w) P
formed_by (Ok x) P h = h
formed_by (Err e) P h = tt

eliminated_is : {A : Type 0} (w : Result A Refusal) (x : A) → by_elimination w ≡ Ok x → w ≡ Ok x
eliminated_is {A = A} (Ok y) x e = ap back e
  where
    back : Result A NoRegion → Result A Refusal
    back (Ok z) = Ok z
    back (Err r) = Err too_wide
eliminated_is (Err r) x e = absurd (let z : ⊥ = cc in z)

-- ---- an access at a visit, where the outer variables have these values
-- a point of rows of one width
pub record AtPoint (s : LinearSystem) (p : List ℤ) : Type 0 where
  pub point : PointOf s p (pos 1)
  pub wide : AreWide s.vars s.rows

pub record Seen (os : List ℤ) (a : Reaching) (vs : List ℤ) : Type 0 where
  pub rest : List ℤ
  pub seen : AtPoint a.system (os ++ rest)
  pub forms : Are a.system.vars (os ++ rest) a.forms vs

abbrev value : ℕ → List ℤ → ℤ
value d vs = get_or vs d (pos 0)

nothing_is : (n : ℕ) (p : List ℤ) → Is n p (number_form 0 (pos 0)) (pos 0)
nothing_is n p = record { short = omega (arith, number_long 0 (pos 0)); same = number_worth 0 (pos 0) p }

are_get : (n : ℕ) (p : List ℤ) (d : ℕ) (fs : List Form) (vs : List ℤ) → Are n p fs vs → Is n p (get_or fs d (number_form 0 (pos 0))) (get_or vs d (pos 0))
are_get n p d [] [] h = nothing_is n p
are_get n p d [] (v ∷ vs) h = absurd h
are_get n p d (f ∷ fs) [] h = absurd h
are_get n p zero (f ∷ fs) (v ∷ vs) h = h.0
are_get n p (suc d) (f ∷ fs) (v ∷ vs) h = are_get n p d fs vs h.1

-- ---- what the reach of a form says of its value at a point
one_times : (x : ℤ) → x *ℤ pos 1 ≡ x
one_times x = omega (arith, ints)

-- a value lies in one of the spans
abbrev pub InSome : ℤ → List Span → Type 0
InSome z [] = ⊥
InSome z (s ∷ ss) = ((s.least ≤ℤ z) × (z ≤ℤ s.greatest)) ⊎ InSome z ss

reached_in : (s : LinearSystem) (f : Form) (p : List ℤ) (z : ℤ) (r : Reach) (spans : List Span) → AtPoint s p → Is s.vars p f z → reach_of s (row_at s.vars f) ≡ Ok r → InSome z (with_reach r spans)
reached_in s f p z r spans seen i e = by r (reach_tells s (row_at s.vars f) r seen.wide (row_wide s.vars f) e)
  where
    here : value_at (row_at s.vars f) p (pos 1) ≡ z
    here = row_worth s.vars f p i.short ∙ i.same

    by : (r : Reach) → TellsReach s (row_at s.vars f) r → InSome z (with_reach r spans)
    by never t = absurd (t p (pos 1) seen.point)
    by (between least greatest) t = inl (t.0.least z p (pos 1) seen.point (omega (arith, ints, here, one_times z)), t.1.greatest z p (pos 1) seen.point (omega (arith, ints, here, one_times z)))

clamp_low : (y m : ℤ) → pos 0 ≤ℤ int_max (pos 0) (int_min y m)
clamp_low y m = omega (arith, ints, clamps)

clamp_high : (y s e : ℤ) → e ≤ℤ s → (int_max (pos 0) (int_min y (s -ℤ e)) +ℤ e) ≤ℤ s
clamp_high y s e h = omega (arith, ints, clamps, h)

in_clamp : (y s e v : ℤ) → y ≤ℤ v → pos 0 ≤ℤ v → int_max (pos 0) (int_min y (s -ℤ e)) ≤ℤ v
in_clamp y s e v h k = omega (arith, ints, clamps, h, k)

below_clamp : (y s e v : ℤ) → e ≤ℤ s → v <ℤ (y +ℤ e) → v <ℤ s → v <ℤ (int_max (pos 0) (int_min y (s -ℤ e)) +ℤ e)
below_clamp y s e v m h k = omega (arith, ints, clamps, m, h, k)

module _ (os : List ℤ) where
  -- the value of a combination of the outer variables
  abbrev pub at_outer : List ℤ → ℤ
  at_outer c = dot c os

  combination_is : (n : ℕ) (rest : List ℤ) (c : List ℤ) → length (os ++ rest) ≡ n → length c ≤ length os → Is n (os ++ rest) (combination c) (at_outer c)
  combination_is n rest c e h = record {
    short = omega (arith, e, h, length-append os rest);
    same = ap (λ z. z +ℤ pos 0) (dot-longer c os rest h) ∙ plus_zero (dot c os);
  }
    where
      plus_zero : (a : ℤ) → a +ℤ pos 0 ≡ a
      plus_zero a = omega (arith, ints)

  -- ---- the spans of a candidate hold the accesses' differences
  abbrev pub Spanned : ℕ → List ℤ → List Span → Reaching → Type 0
  Spanned d c spans a = (vs : List ℤ) → Seen os a vs → InSome (value d vs -ℤ at_outer c) spans

  later_span : (z : ℤ) (r : Reach) (spans : List Span) → InSome z spans → InSome z (with_reach r spans)
  later_span z never spans h = h
  later_span z (between l g) spans h = inr h

  -- the reach of the distance holds it
  Distant : ℕ → List ℤ → Reaching → Reach → Type 0
  Distant d c a r = (spans : List Span) (vs : List ℤ) → Seen os a vs → InSome (value d vs -ℤ at_outer c) (with_reach r spans)

  distance_holds : (d : ℕ) (c : List ℤ) (a : Reaching) → length c ≤ length os → Gives (distance d c a) (Distant d c a)
  unfolding Distant
  distance_holds d c a l =
      on (by_form (minus (subscript d a) (combination c))) (reach_at a.system) (Distant d c a) (λ f made. given (reach_at a.system f) (λ r reached. here f r made reached))
    where
      here : (f : Form) (r : Reach) → by_form (minus (subscript d a) (combination c)) ≡ Ok f → reach_at a.system f ≡ Ok r → (spans : List Span) (vs : List ℤ) → Seen os a vs → InSome (value d vs -ℤ at_outer c) (with_reach r spans)
      here f r made reached spans vs s =
          let n = a.system.vars in
          let p = os ++ s.rest in
          let sub = are_get n p d a.forms vs s.forms in
          let diff = formed_by (minus (subscript d a) (combination c)) (λ h. Is n p h (value d vs -ℤ at_outer c)) (minus_is n p (subscript d a) (combination c) (value d vs) (at_outer c) sub (combination_is n s.rest c s.seen.point.as_long l)) in
          reached_in a.system f p (value d vs -ℤ at_outer c) r spans s.seen (subst (λ w. Gives w (λ h. Is n p h (value d vs -ℤ at_outer c))) made diff) (eliminated_is (reach_of a.system (row_at n f)) r reached)

      given : (w : Result Reach NoRegion) → ((r : Reach) → w ≡ Ok r → Distant d c a r) → Gives w (Distant d c a)
      given (Ok r) h = h r refl
      given (Err e) h = tt

  spans_hold : (d : ℕ) (c : List ℤ) (xs : List Reaching) → length c ≤ length os → Gives (spans_of d c xs) (λ spans. Each (Spanned d c spans) xs)
  unfolding Distant
  spans_hold d c [] l = tt
  spans_hold d c (a ∷ xs) l =
      then_by (distance d c a) _ (Distant d c a) (λ spans. Each (Spanned d c spans) (a ∷ xs)) (distance_holds d c a l) (λ r here.
      then_by (spans_of d c xs) _ (λ spans. Each (Spanned d c spans) xs) (λ spans. Each (Spanned d c spans) (a ∷ xs)) (spans_hold d c xs l) (λ spans h.
      ((λ vs s. here spans vs s), Each-weaken (Spanned d c spans) (Spanned d c (with_reach r spans)) (λ b k vs s. later_span (value d vs -ℤ at_outer c) r spans (k vs s)) xs h)))

  in_all : (z : ℤ) (s : Span) (ss : List Span) → InSome z (s ∷ ss) → ((all_joined s ss).least ≤ℤ z) × (z ≤ℤ (all_joined s ss).greatest)
  in_all z s [] (inl h) = h
  in_all z s [] (inr h) = absurd h
  in_all z s (t ∷ ts) (inl h) = in_all z (joined s t) ts (inl (min_below s.least t.least z h.0, max_above s.greatest t.greatest z h.1))
    where
      min_below : (a b z : ℤ) → a ≤ℤ z → int_min a b ≤ℤ z
      min_below a b z h = omega (arith, ints, clamps, h)

      max_above : (a b z : ℤ) → z ≤ℤ a → z ≤ℤ int_max a b
      max_above a b z h = omega (arith, ints, clamps, h)
  in_all z s (t ∷ ts) (inr (inl h)) = in_all z (joined s t) ts (inl (min_below s.least t.least z h.0, max_above s.greatest t.greatest z h.1))
    where
      min_below : (a b z : ℤ) → b ≤ℤ z → int_min a b ≤ℤ z
      min_below a b z h = omega (arith, ints, clamps, h)

      max_above : (a b z : ℤ) → z ≤ℤ b → z ≤ℤ int_max a b
      max_above a b z h = omega (arith, ints, clamps, h)
  in_all z s (t ∷ ts) (inr (inr h)) = in_all z (joined s t) ts (inr h)

  -- ---- a candidate that was tried holds all accesses
  pub record Fitting (d : ℕ) (xs : List Reaching) (t : Tried) : Type 0 where
    pub short : length t.coefs ≤ length os
    pub some : pos 1 ≤ℤ t.extent
    pub holds : Each (λ a. (vs : List ℤ) → Seen os a vs → (t.offset ≤ℤ (value d vs -ℤ at_outer t.coefs)) × ((value d vs -ℤ at_outer t.coefs) <ℤ (t.offset +ℤ t.extent))) xs

  tried_holds : (d : ℕ) (xs : List Reaching) (c : List ℤ) → length c ≤ length os → Gives (tried d xs c) (Fitting d xs)
  tried_holds d xs c l = then_by (spans_of d c xs) (tried_from c) (λ spans. Each (Spanned d c spans) xs) (Fitting d xs) (spans_hold d c xs l) (λ spans h. by spans h)
    where
      by : (spans : List Span) → Each (Spanned d c spans) xs → Gives (tried_from c spans) (Fitting d xs)
      by [] h = tt
      by (s ∷ ss) h = choose (all_joined s ss) (λ z i. in_all z s ss i) (int_lt (((all_joined s ss).greatest -ℤ (all_joined s ss).least) +ℤ pos 1) (pos 1)) refl
        where
          choose : (w : Span) → ((z : ℤ) → InSome z (s ∷ ss) → (w.least ≤ℤ z) × (z ≤ℤ w.greatest)) → (b : Bool) → int_lt ((w.greatest -ℤ w.least) +ℤ pos 1) (pos 1) ≡ b
              → Gives (cond b (Err unplaced) (Ok (record { coefs = c; offset = w.least; extent = (w.greatest -ℤ w.least) +ℤ pos 1 }))) (Fitting d xs)
          choose w within true e = tt
          choose w within false e = record {
            short = l;
            some = grind (arith, ints, e);
            holds = Each-weaken (Spanned d c (s ∷ ss)) (λ a. (vs : List ℤ) → Seen os a vs → (w.least ≤ℤ (value d vs -ℤ at_outer c)) × ((value d vs -ℤ at_outer c) <ℤ (w.least +ℤ ((w.greatest -ℤ w.least) +ℤ pos 1))))
                (λ a k vs seen. let r = within (value d vs -ℤ at_outer c) (k vs seen) in (r.0, above (value d vs -ℤ at_outer c) w.greatest w.least r.1)) xs h;
          }
            where
              above : (z h l : ℤ) → z ≤ℤ h → z <ℤ (l +ℤ ((h -ℤ l) +ℤ pos 1))
              above z h l k = omega (arith, ints, k)

  -- ---- the best candidate
  abbrev KeptFits : ℕ → List Reaching → Option Tried → Type 0
  KeptFits d xs None = Unit {0}
  KeptFits d xs (Some t) = Fitting d xs t

  best_holds : (d : ℕ) (xs : List Reaching) (cs : List (List ℤ)) (kept : Option Tried) → Each (λ c. length c ≤ length os) cs → KeptFits d xs kept → Gives (best d xs cs kept) (Fitting d xs)
  best_holds d xs [] None l k = tt
  best_holds d xs [] (Some t) l k = k
  best_holds d xs (c ∷ cs) kept l k = then_by (tried d xs c) _ (Fitting d xs) (Fitting d xs) (tried_holds d xs c l.0) (λ t h. best_holds d xs cs (Some (lesser kept t)) l.1 (chosen kept t k h))
    where
      chosen : (kept : Option Tried) (t : Tried) → KeptFits d xs kept → Fitting d xs t → Fitting d xs (lesser kept t)
      chosen None t k h = h
      chosen (Some u) t k h = by (int_lt t.extent u.extent)
        where
          by : (b : Bool) → Fitting d xs (cond b t u)
          by true = h
          by false = k

  -- ---- candidates name outer variables alone
  take_short : (n : ℕ) (xs : List ℤ) → length (take n xs) ≤ n
  take_short zero xs = omega arith
  take_short (suc n) [] = omega arith
  take_short (suc n) (x ∷ xs) = let h = take_short n xs in omega (arith, h)

  abbrev Short : List (List ℤ) → Type 0
  Short cs = Each (λ c. length c ≤ length os) cs

  with_short : (kept : List (List ℤ)) (c : List ℤ) → Short kept → length c ≤ length os → Short (with_candidate kept c)
  with_short kept c h l = by (has_coefs c kept)
    where
      by : (b : Bool) → Short (cond b kept (kept ++ c ∷ []))
      by true = h
      by false = Each-append (λ c. length c ≤ length os) kept (c ∷ []) h (l, tt)

  all_short : (end : End) (outside d : ℕ) (xs : List Reaching) (kept : List (List ℤ)) → Short kept → Gives (with_candidates end (length os) outside d xs kept) Short
  all_short end outside d [] kept h = h
  all_short end outside d (a ∷ xs) kept h =
      then_by (candidate end (length os) outside d a) _ (λ c. length c ≤ length os) Short (then_by (by_elimination _) (λ c. Ok (take (length os) (c ++ replicate (length os) (pos 0)))) (λ c. Unit {0}) (λ c. length c ≤ length os) (trivial _) (λ c t. take_short (length os) (c ++ replicate (length os) (pos 0))))
      (λ c l. all_short end outside d xs (with_candidate kept c) (with_short kept c h l))
    where
      trivial : {A : Type 0} (w : Result A NoRegion) → Gives w (λ c. Unit {0})
      trivial (Ok x) = tt
      trivial (Err e) = tt

  candidates_short : (outside d : ℕ) (xs : List Reaching) → Gives (candidates (length os) outside d xs) Short
  candidates_short outside d xs =
      then_by (with_candidates Lower (length os) outside d xs []) _ Short Short (all_short Lower outside d xs [] tt) (λ low h.
      then_by (with_candidates Upper (length os) outside d xs low) _ Short Short (all_short Upper outside d xs low h) (λ both k.
      with_short both (replicate (length os) (pos 0)) k (omega (arith, length-replicate (length os) (pos 0)))))

  -- ---- one dimension
  -- the region's part in a dimension of this size, at the visit: from the place on, within the size
  pub record InPlace (d : Dimension) (size : ℤ) : Type 0 where
    pub from : pos 0 ≤ℤ place_at d size (at_outer d.coefs)
    pub up_to : (place_at d size (at_outer d.coefs) +ℤ d.extent) ≤ℤ size

  -- a subscript that lies within the size lies in the part
  abbrev pub IsInside : Dimension → ℤ → ℤ → Type 0
  IsInside d size v = pos 0 ≤ℤ v → v <ℤ size → (place_at d size (at_outer d.coefs) ≤ℤ v) × (v <ℤ (place_at d size (at_outer d.coefs) +ℤ d.extent))

  pub record DimHolds (n : ℕ) (size : ℤ) (xs : List Reaching) (d : Dimension) : Type 0 where
    pub short : length d.coefs ≤ length os
    pub place : InPlace d size
    pub inside : Each (λ a. (vs : List ℤ) → Seen os a vs → IsInside d size (value n vs)) xs

  -- what is tried, or all of the dimension
  pub record Part (n : ℕ) (size : ℤ) (xs : List Reaching) (t : Tried) : Type 0 where
    pub short : length t.coefs ≤ length os
    pub most : t.extent ≤ℤ size
    pub holds : Each (λ a. (vs : List ℤ) → Seen os a vs → pos 0 ≤ℤ value n vs → value n vs <ℤ size → (t.offset ≤ℤ (value n vs -ℤ at_outer t.coefs)) × ((value n vs -ℤ at_outer t.coefs) <ℤ (t.offset +ℤ t.extent))) xs

  part_holds : (n : ℕ) (size : ℤ) (xs : List Reaching) (t : Tried) → Fitting n xs t → Part n size xs (at_most_whole (length os) size t)
  part_holds n size xs t h = by (int_le size t.extent) refl
    where
      zero_at : at_outer (replicate (length os) (pos 0)) ≡ pos 0
      zero_at = dot-zeros (length os) os

      by : (b : Bool) → int_le size t.extent ≡ b → Part n size xs (cond b (record { coefs = replicate (length os) (pos 0); offset = pos 0; extent = size }) t)
      by true e = record {
        short = omega (arith, length-replicate (length os) (pos 0));
        most = omega (arith, ints);
        holds = Each-weaken (λ a. (vs : List ℤ) → Seen os a vs → (t.offset ≤ℤ (value n vs -ℤ at_outer t.coefs)) × ((value n vs -ℤ at_outer t.coefs) <ℤ (t.offset +ℤ t.extent))) _
            (λ a k vs s low high. (omega (arith, ints, low, zero_at), omega (arith, ints, high, zero_at))) xs h.holds;
      }
      by false e = record {
        short = h.short;
        most = grind (arith, ints, e);
        holds = Each-weaken (λ a. (vs : List ℤ) → Seen os a vs → (t.offset ≤ℤ (value n vs -ℤ at_outer t.coefs)) × ((value n vs -ℤ at_outer t.coefs) <ℤ (t.offset +ℤ t.extent))) _ (λ a k vs s low high. k vs s) xs h.holds;
      }

  -- the place of a part whose combination has the value x, which lies from g to h
  part_in_place : (size x offset extent g h : ℤ) (c : Bool) → extent ≤ℤ size → g ≤ℤ x → x ≤ℤ h → (int_lt (g +ℤ offset) (pos 0) || int_lt size ((h +ℤ offset) +ℤ extent)) ≡ c
      → (pos 0 ≤ℤ cond c (int_max (pos 0) (int_min (x +ℤ offset) (size -ℤ extent))) (x +ℤ offset)) × ((cond c (int_max (pos 0) (int_min (x +ℤ offset) (size -ℤ extent))) (x +ℤ offset) +ℤ extent) ≤ℤ size)
  part_in_place size x offset extent g h true most low high e = (clamp_low (x +ℤ offset) (size -ℤ extent), clamp_high (x +ℤ offset) size extent most)
  part_in_place size x offset extent g h false most low high e =
      let a = first_false (int_lt (g +ℤ offset) (pos 0)) (int_lt size ((h +ℤ offset) +ℤ extent)) e in
      let b = second_false (int_lt (g +ℤ offset) (pos 0)) (int_lt size ((h +ℤ offset) +ℤ extent)) e in
      let p : pos 0 ≤ℤ (g +ℤ offset) = grind (arith, ints, a) in
      let q : ((h +ℤ offset) +ℤ extent) ≤ℤ size = grind (arith, ints, b) in
      (omega (arith, ints, p, low), omega (arith, ints, q, high))
    where
      first_false : (a b : Bool) → (a || b) ≡ false → a ≡ false
      first_false true b e = e
      first_false false b e = refl

      second_false : (a b : Bool) → (a || b) ≡ false → b ≡ false
      second_false true b e = absurd (let z : ⊥ = cc in z)
      second_false false b e = e

  -- what lies in the part lies behind the place
  part_inside : (size x offset extent v : ℤ) (c : Bool) → extent ≤ℤ size → offset ≤ℤ (v -ℤ x) → (v -ℤ x) <ℤ (offset +ℤ extent) → pos 0 ≤ℤ v → v <ℤ size
      → (cond c (int_max (pos 0) (int_min (x +ℤ offset) (size -ℤ extent))) (x +ℤ offset) ≤ℤ v) × (v <ℤ (cond c (int_max (pos 0) (int_min (x +ℤ offset) (size -ℤ extent))) (x +ℤ offset) +ℤ extent))
  part_inside size x offset extent v true most low high zero_ less = (in_clamp (x +ℤ offset) size extent v (omega (arith, ints, low)) zero_, below_clamp (x +ℤ offset) size extent v most (omega (arith, ints, high)) less)
  part_inside size x offset extent v false most low high zero_ less = (omega (arith, ints, low), omega (arith, ints, high))

  in_place : (d : Dimension) (size : ℤ) → (pos 0 ≤ℤ cond d.clamped (int_max (pos 0) (int_min (at_outer d.coefs +ℤ d.offset) (size -ℤ d.extent))) (at_outer d.coefs +ℤ d.offset))
      × ((cond d.clamped (int_max (pos 0) (int_min (at_outer d.coefs +ℤ d.offset) (size -ℤ d.extent))) (at_outer d.coefs +ℤ d.offset) +ℤ d.extent) ≤ℤ size) → InPlace d size
  unfolding place_at
  in_place d size h = record { from = h.0; up_to = h.1 }

  inside_of : (d : Dimension) (size v : ℤ) → (cond d.clamped (int_max (pos 0) (int_min (at_outer d.coefs +ℤ d.offset) (size -ℤ d.extent))) (at_outer d.coefs +ℤ d.offset) ≤ℤ v) × (v <ℤ (cond d.clamped (int_max (pos 0) (int_min (at_outer d.coefs +ℤ d.offset) (size -ℤ d.extent))) (at_outer d.coefs +ℤ d.offset) +ℤ d.extent))
      → (place_at d size (at_outer d.coefs) ≤ℤ v) × (v <ℤ (place_at d size (at_outer d.coefs) +ℤ d.extent))
  unfolding place_at
  inside_of d size v h = h

  placed_holds : (outside : LinearSystem) (rest : List ℤ) (n : ℕ) (size : ℤ) (xs : List Reaching) (t : Tried) → AtPoint outside (os ++ rest) → Part n size xs t → Gives (placed outside size t) (DimHolds n size xs)
  placed_holds outside rest n size xs t seen h =
      on (reach_at outside (combination t.coefs)) (clamped_by size t) (DimHolds n size xs) (λ r reached. by r (reached_in outside (combination t.coefs) (os ++ rest) (at_outer t.coefs) r [] seen (combination_is outside.vars rest t.coefs seen.point.as_long h.short) (eliminated_is (reach_of outside (row_at outside.vars (combination t.coefs))) r reached)))
    where
      by : (r : Reach) → InSome (at_outer t.coefs) (with_reach r []) → Gives (clamped_by size t r) (DimHolds n size xs)
      by never i = tt
      by (between g l) (inr i) = absurd i
      by (between g l) (inl i) =
          let c = int_lt (g +ℤ t.offset) (pos 0) || int_lt size ((l +ℤ t.offset) +ℤ t.extent) in
          let p = part_in_place size (at_outer t.coefs) t.offset t.extent g l c h.most i.0 i.1 refl in
          shown c p
        where
          shown : (c : Bool) → (pos 0 ≤ℤ cond c (int_max (pos 0) (int_min (at_outer t.coefs +ℤ t.offset) (size -ℤ t.extent))) (at_outer t.coefs +ℤ t.offset)) × ((cond c (int_max (pos 0) (int_min (at_outer t.coefs +ℤ t.offset) (size -ℤ t.extent))) (at_outer t.coefs +ℤ t.offset) +ℤ t.extent) ≤ℤ size)
              → DimHolds n size xs (record { coefs = t.coefs; offset = t.offset; extent = t.extent; clamped = c })
          shown c p = record {
            short = h.short;
            place = in_place (record { coefs = t.coefs; offset = t.offset; extent = t.extent; clamped = c }) size p;
            inside = Each-weaken _ (λ a. (vs : List ℤ) → Seen os a vs → IsInside (record { coefs = t.coefs; offset = t.offset; extent = t.extent; clamped = c }) size (value n vs))
                (λ a k vs s zero_ less. let r = k vs s zero_ less in inside_of (record { coefs = t.coefs; offset = t.offset; extent = t.extent; clamped = c }) size (value n vs) (part_inside size (at_outer t.coefs) t.offset t.extent (value n vs) c h.most r.0 r.1 zero_ less)) xs h.holds;
          }

  dimension_holds : (outside : Outside) (rest : List ℤ) (loops : ℕ) (n size : ℕ) (xs : List Reaching) → outside.outer ≡ length os → AtPoint outside.system (os ++ rest) → Gives (dimension outside loops xs n size) (DimHolds n (pos size) xs)
  dimension_holds outside rest loops n size xs e seen = subst (λ o. Gives (candidates o loops n xs >>= (λ cs. best n xs cs None >>= (λ t. placed outside.system (pos size) (at_most_whole o (pos size) t)))) (DimHolds n (pos size) xs)) (sym e)
      (then_by (candidates (length os) loops n xs) _ Short (DimHolds n (pos size) xs) (candidates_short loops n xs) (λ cs short.
      then_by (best n xs cs None) _ (Fitting n xs) (DimHolds n (pos size) xs) (best_holds n xs cs None short tt) (λ t h.
      placed_holds outside.system rest n (pos size) xs (at_most_whole (length os) (pos size) t) seen (part_holds n (pos size) xs t h))))

  -- ---- all dimensions
  abbrev pub AllHold : ℕ → List Reaching → List Dimension → List ℕ → Type 0
  AllHold n xs [] [] = Unit {0}
  AllHold n xs [] (size ∷ sizes) = ⊥
  AllHold n xs (d ∷ ds) [] = ⊥
  AllHold n xs (d ∷ ds) (size ∷ sizes) = DimHolds n (pos size) xs d × AllHold (suc n) xs ds sizes

  pub dimensions_hold : (outside : Outside) (rest : List ℤ) (loops : ℕ) (xs : List Reaching) (n : ℕ) (sizes : List ℕ) → outside.outer ≡ length os → AtPoint outside.system (os ++ rest) → Gives (dimensions outside loops xs n sizes) (λ ds. AllHold n xs ds sizes)
  dimensions_hold outside rest loops xs n [] e seen = tt
  dimensions_hold outside rest loops xs n (size ∷ sizes) e seen =
      then_by (dimension outside loops xs n size) _ (DimHolds n (pos size) xs) (λ ds. AllHold n xs ds (size ∷ sizes)) (dimension_holds outside rest loops n size xs e seen) (λ d h.
      then_by (dimensions outside loops xs (suc n) sizes) _ (λ ds. AllHold (suc n) xs ds sizes) (λ ds. AllHold n xs ds (size ∷ sizes)) (dimensions_hold outside rest loops xs (suc n) sizes e seen) (λ ds k. (h, k)))
