-- Lists that grow by what steps give which may be refused.
use Rattle.std.proofs.Common.{◌≡◌, ℕ, zero, suc, ◌+◌, ◌<◌, List, [], ◌∷◌, ◌++◌, length, drop, get_or, Result, Ok, Err, ℤ, arith, refl, sym, ap, subst, ◌∙◌, append_assoc}
use Rattle.constraint_set.specs.Points.{LinearRow}
use Rattle.constraint_set.specs.Elimination.{Refusal, ◌>>=◌}
use Rattle.projection.specs.Answers.{IsRefused, after}
use Rattle.projection.specs.declared.fault.ReachFault.{ReachFault}
use Rattle.projection.specs.declared.fault.ReachFault.TheVariants.{Wide, Rows, Memory}
use Rattle.projection.proofs.Chains.{stops, later as later_}
use Rattle.nest_domain.specs.Boxes.{Dimension}
use Rattle.dependence.specs.Clashes.{stretch_rows, dimension_rows, common_rows, stretch_of, later}

-- what a first step gave, and then the second
pub after_both : {A : Type 0} (out new : List A) (w v : Result (List A) Refusal) → after out w ≡ Ok new → after out (w >>= (λ a. v >>= (λ b. Ok (a ++ b)))) ≡ after new v
after_both out new (Err e) v h = absurd (let z : ⊥ = cc in z)
after_both out new (Ok a) (Err e) h = refl
after_both {A} out new (Ok a) (Ok b) h = let e : out ++ a ≡ new = cc in ap Ok (sym (append_assoc out a b) ∙ ap (λ (xs : List A). xs ++ b) e)

-- a refusal of what is left is that of the whole
pub refused_back : {A : Type 0} (a b : List A) (w v : Result (List A) Refusal) (e : ReachFault) → after a w ≡ after b v → IsRefused v e → IsRefused w e
refused_back a b w v Memory h r = tt
refused_back a b (Ok x) v Wide h r = absurd (let q : after b v ≡ Err Rattle.constraint_set.specs.Elimination.too_wide = ap (after b) r in let z : ⊥ = cc in z)
refused_back a b (Ok x) v Rows h r = absurd (let q : after b v ≡ Err Rattle.constraint_set.specs.Elimination.too_many = ap (after b) r in let z : ⊥ = cc in z)
refused_back a b (Err x) v Wide h r = let q : after b v ≡ Err Rattle.constraint_set.specs.Elimination.too_wide = ap (after b) r in let s : x ≡ Rattle.constraint_set.specs.Elimination.too_wide = cc in ap Err s
refused_back a b (Err x) v Rows h r = let q : after b v ≡ Err Rattle.constraint_set.specs.Elimination.too_many = ap (after b) r in let s : x ≡ Rattle.constraint_set.specs.Elimination.too_many = cc in ap Err s

-- ---- the rows of one dimension
module _ (n m i : ℕ) (t : ℤ) (j : ℕ) (d e : Dimension) (size : ℕ) where
  first_of : Result (List LinearRow) Refusal
  first_of = stretch_rows j (stretch_of d size).begin (stretch_of d size).extent

  behind_first : (moved : LinearRow) → later n m i t (stretch_of e size).begin ≡ Ok moved → dimension_rows n m i t j d e size ≡ (first_of >>= (λ a. stretch_rows j moved (stretch_of e size).extent >>= (λ b. Ok (a ++ b))))
  unfolding first_of
  behind_first moved h = by first_of
    where
      by : (w : Result (List LinearRow) Refusal) → (w >>= (λ a. later n m i t (stretch_of e size).begin >>= (λ begin. stretch_rows j begin (stretch_of e size).extent >>= (λ b. Ok (a ++ b))))) ≡ (w >>= (λ a. stretch_rows j moved (stretch_of e size).extent >>= (λ b. Ok (a ++ b))))
      by (Err r) = refl
      by (Ok a) = ap (λ w. w >>= (λ begin. stretch_rows j begin (stretch_of e size).extent >>= (λ b. Ok (a ++ b)))) h

  pub dimension_made : (out mid new : List LinearRow) (moved : LinearRow) → after out (stretch_rows j (stretch_of d size).begin (stretch_of d size).extent) ≡ Ok mid → later n m i t (stretch_of e size).begin ≡ Ok moved
      → after mid (stretch_rows j moved (stretch_of e size).extent) ≡ Ok new → after out (dimension_rows n m i t j d e size) ≡ Ok new
  unfolding first_of
  dimension_made out mid new moved f l s = ap (after out) (behind_first moved l) ∙ after_both out mid first_of (stretch_rows j moved (stretch_of e size).extent) f ∙ s

  pub no_first : (f : ReachFault) → IsRefused (stretch_rows j (stretch_of d size).begin (stretch_of d size).extent) f → IsRefused (dimension_rows n m i t j d e size) f
  no_first f h = stops (stretch_rows j (stretch_of d size).begin (stretch_of d size).extent) (λ a. later n m i t (stretch_of e size).begin >>= (λ begin. stretch_rows j begin (stretch_of e size).extent >>= (λ b. Ok (a ++ b)))) f h

  given : {A : Type 0} (out mid : List A) (w : Result (List A) Refusal) → after out w ≡ Ok mid → (x : List A) × (w ≡ Ok x)
  given out mid (Ok x) h = (x, refl)
  given out mid (Err r) h = absurd (let z : ⊥ = cc in z)

  pub no_later : (out mid : List LinearRow) (f : ReachFault) → after out (stretch_rows j (stretch_of d size).begin (stretch_of d size).extent) ≡ Ok mid → IsRefused (later n m i t (stretch_of e size).begin) f → IsRefused (dimension_rows n m i t j d e size) f
  unfolding first_of
  no_later out mid f g h =
      let x = given out mid first_of g in
      later_ first_of (λ a. later n m i t (stretch_of e size).begin >>= (λ begin. stretch_rows j begin (stretch_of e size).extent >>= (λ b. Ok (a ++ b)))) x.0 f x.1 (stops (later n m i t (stretch_of e size).begin) (λ begin. stretch_rows j begin (stretch_of e size).extent >>= (λ b. Ok (x.0 ++ b))) f h)

  pub no_second : (out mid : List LinearRow) (moved : LinearRow) (f : ReachFault) → after out (stretch_rows j (stretch_of d size).begin (stretch_of d size).extent) ≡ Ok mid → later n m i t (stretch_of e size).begin ≡ Ok moved
      → IsRefused (stretch_rows j moved (stretch_of e size).extent) f → IsRefused (dimension_rows n m i t j d e size) f
  unfolding first_of
  no_second out mid moved f g l h =
      let x = given out mid first_of g in
      later_ first_of (λ a. later n m i t (stretch_of e size).begin >>= (λ begin. stretch_rows j begin (stretch_of e size).extent >>= (λ b. Ok (a ++ b)))) x.0 f x.1
      (later_ (later n m i t (stretch_of e size).begin) (λ begin. stretch_rows j begin (stretch_of e size).extent >>= (λ b. Ok (x.0 ++ b))) moved f l (stops (stretch_rows j moved (stretch_of e size).extent) (λ b. Ok (x.0 ++ b)) f h))

-- ---- the loop over the dimensions
module _ (n m i : ℕ) (t : ℤ) where
  common_at : (j : ℕ) (ds es : List Dimension) (sizes : List ℕ) (k : ℕ) (d e : Dimension) (s : ℕ) → k < length ds → k < length es → k < length sizes → d ≡ get_or ds k d → e ≡ get_or es k e → s ≡ get_or sizes k s
      → common_rows n m i t j (drop k ds) (drop k es) (drop k sizes) ≡ (dimension_rows n m i t j d e s >>= (λ here. common_rows n m i t (suc j) (drop (suc k) ds) (drop (suc k) es) (drop (suc k) sizes) >>= (λ rest. Ok (here ++ rest))))
  common_at j [] es sizes k d e s a b c p q r = absurd (omega (arith, a))
  common_at j (x ∷ ds) [] sizes k d e s a b c p q r = absurd (omega (arith, b))
  common_at j (x ∷ ds) (y ∷ es) [] k d e s a b c p q r = absurd (omega (arith, c))
  common_at j (x ∷ ds) (y ∷ es) (z ∷ sizes) zero d e s a b c p q r =
      λ o. dimension_rows n m i t j (sym p o) (sym q o) (sym r o) >>= (λ here. common_rows n m i t (suc j) ds es sizes >>= (λ rest. Ok (here ++ rest)))
  common_at j (x ∷ ds) (y ∷ es) (z ∷ sizes) (suc k) d e s a b c p q r = common_at j ds es sizes k d e s (omega (arith, a)) (omega (arith, b)) (omega (arith, c)) p q r

  module _ (j : ℕ) (ds es : List Dimension) (sizes : List ℕ) (k : ℕ) (d e : Dimension) (s : ℕ) (a : k < length ds) (b : k < length es) (c : k < length sizes) (p : d ≡ get_or ds k d) (q : e ≡ get_or es k e) (r : s ≡ get_or sizes k s) where
    pub common_turn : (out new : List LinearRow) → after out (dimension_rows n m i t (j + k) d e s) ≡ Ok new
        → after out (common_rows n m i t (j + k) (drop k ds) (drop k es) (drop k sizes)) ≡ after new (common_rows n m i t (j + (k + 1)) (drop (k + 1) ds) (drop (k + 1) es) (drop (k + 1) sizes))
    common_turn out new h =
        ap (after out) (common_at (j + k) ds es sizes k d e s a b c p q r)
        ∙ after_both out new (dimension_rows n m i t (j + k) d e s) (common_rows n m i t (suc (j + k)) (drop (suc k) ds) (drop (suc k) es) (drop (suc k) sizes)) h
        ∙ (λ o. after new (common_rows n m i t (next o) (drop (one o) ds) (drop (one o) es) (drop (one o) sizes)))
      where
        next : suc (j + k) ≡ j + (k + 1)
        next = omega arith

        one : suc k ≡ k + 1
        one = omega arith

    pub common_stop : (f : ReachFault) → IsRefused (dimension_rows n m i t (j + k) d e s) f → IsRefused (common_rows n m i t (j + k) (drop k ds) (drop k es) (drop k sizes)) f
    common_stop f h = subst (λ w. IsRefused w f) (sym (common_at (j + k) ds es sizes k d e s a b c p q r))
        (stops (dimension_rows n m i t (j + k) d e s) (λ here. common_rows n m i t (suc (j + k)) (drop (suc k) ds) (drop (suc k) es) (drop (suc k) sizes) >>= (λ rest. Ok (here ++ rest))) f h)

pub same_get : (xs : List ℕ) (k a b : ℕ) → k < length xs → get_or xs k a ≡ get_or xs k b
same_get [] k a b h = absurd (omega (arith, h))
same_get (x ∷ xs) zero a b h = refl
same_get (x ∷ xs) (suc k) a b h = same_get xs k a b (omega (arith, h))
