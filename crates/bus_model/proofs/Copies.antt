-- What the first k elements of a copy have changed.
use Rattle.std.proofs.Common.{◌≡◌, ◌≢◌, ◌⊎◌, ℕ, ℤ, pos, zero, suc, ◌+◌, ◌<◌, ◌≤◌, List, [], ◌∷◌, ◌++◌, length, set, fold, sym, refl, ap, ◌∙◌, inl, inr, ⊎_elim, arith, length-set, get_or-set_other, get_or-set_same}
use Rattle.std.specs.List.{range_with_len}
use Rattle.std.proofs.lemmas.List.Sums.{fold-append}
use native.Mathlib.Decide.{ℕ_discrete}
use Rattle.bus_model.specs.declared.transfer.Transfer.{Transfer}
use Rattle.bus_model.specs.Places.{slow_place}
use Rattle.bus_model.specs.Copies.{number_at, first_in, first_out}

-- one more number
range_more : (a n : ℕ) → range_with_len a (suc n) ≡ range_with_len a n ++ (a + n) ∷ []
range_more a zero = ap (λ k. k ∷ []) (omega arith)
range_more a (suc n) = ap (λ l. a ∷ l) (range_more (a + 1) n ∙ ap (λ k. range_with_len (a + 1) n ++ k ∷ []) (omega arith))

fold_more : {B : Type 0} (f : B → ℕ → B) (b : B) (n : ℕ) → fold f b (range_with_len 0 (suc n)) ≡ f (fold f b (range_with_len 0 n)) n
fold_more f b n = ap (fold f b) (range_more 0 n) ∙ fold-append f b (range_with_len 0 n) ((0 + n) ∷ []) ∙ ap (f (fold f b (range_with_len 0 n))) (omega arith)

module _ (t : Transfer) (slow cells : List ℤ) where
  in_more : (k : ℕ) → first_in t slow (suc k) cells ≡ set (first_in t slow k cells) (t.offset + k) (number_at slow (slow_place t k))
  in_more k = fold_more (λ cells e. set cells (t.offset + e) (number_at slow (slow_place t e))) cells k

  pub length-first_in : (k : ℕ) → length (first_in t slow k cells) ≡ length cells
  length-first_in zero = refl
  length-first_in (suc k) = ap (λ l. length l) (in_more k) ∙ length-set (first_in t slow k cells) (t.offset + k) (number_at slow (slow_place t k)) ∙ length-first_in k

  -- cells outside the transfer are as before
  pub first_in_else : (k i : ℕ) → (i < t.offset) ⊎ (t.offset + k ≤ i) → number_at (first_in t slow k cells) i ≡ number_at cells i
  first_in_else zero i o = refl
  first_in_else (suc k) i o =
      ap (λ l. number_at l i) (in_more k)
      ∙ get_or-set_other (first_in t slow k cells) (t.offset + k) i (number_at slow (slow_place t k)) (pos 0) (λ e. ⊎_elim (λ (a : i < t.offset). absurd (omega arith)) (λ (b : t.offset + suc k ≤ i). absurd (omega arith)) o)
      ∙ first_in_else k i (⊎_elim (λ a. inl a) (λ (b : t.offset + suc k ≤ i). inr (omega arith)) o)

  pub first_in_here : (k e : ℕ) → e < k → t.offset + k ≤ length cells → number_at (first_in t slow k cells) (t.offset + e) ≡ number_at slow (slow_place t e)
  first_in_here zero e lt room = absurd (omega arith)
  first_in_here (suc k) e lt room = ap (λ l. number_at l (t.offset + e)) (in_more k) ∙ elim (ℕ_discrete e k) [
    | yes same ↦ ap (λ q. number_at (set (first_in t slow k cells) (t.offset + k) (number_at slow (slow_place t k))) (t.offset + q)) same ∙ get_or-set_same (first_in t slow k cells) (t.offset + k) (number_at slow (slow_place t k)) (pos 0) (let a = length-first_in k in omega arith) ∙ ap (λ q. number_at slow (slow_place t q)) (sym same)
    | no ne ↦ get_or-set_other (first_in t slow k cells) (t.offset + k) (t.offset + e) (number_at slow (slow_place t k)) (pos 0) (λ h. ne (omega arith)) ∙ first_in_here k e (omega arith) (omega arith)
  ]

  out_more : (k : ℕ) → first_out t cells (suc k) slow ≡ set (first_out t cells k slow) (slow_place t k) (number_at cells (t.offset + k))
  out_more k = fold_more (λ slow e. set slow (slow_place t e) (number_at cells (t.offset + e))) slow k

  pub length-first_out : (k : ℕ) → length (first_out t cells k slow) ≡ length slow
  length-first_out zero = refl
  length-first_out (suc k) = ap (λ l. length l) (out_more k) ∙ length-set (first_out t cells k slow) (slow_place t k) (number_at cells (t.offset + k)) ∙ length-first_out k

  -- places of no element are as before
  pub first_out_else : (k i : ℕ) → ((e : ℕ) → e < k → slow_place t e ≢ i) → number_at (first_out t cells k slow) i ≡ number_at slow i
  first_out_else zero i clear = refl
  first_out_else (suc k) i clear =
      ap (λ l. number_at l i) (out_more k)
      ∙ get_or-set_other (first_out t cells k slow) (slow_place t k) i (number_at cells (t.offset + k)) (pos 0) (λ e. clear k (omega arith) (sym e)) ∙ first_out_else k i (λ e lt. clear e (omega arith))

  pub first_out_here : (k e : ℕ) → e < k → ((d : ℕ) → d < k → slow_place t d < length slow) → ((d f : ℕ) → d < k → f < k → slow_place t d ≡ slow_place t f → d ≡ f)
      → number_at (first_out t cells k slow) (slow_place t e) ≡ number_at cells (t.offset + e)
  first_out_here zero e lt within apart = absurd (omega arith)
  first_out_here (suc k) e lt within apart = ap (λ l. number_at l (slow_place t e)) (out_more k) ∙ elim (ℕ_discrete e k) [
    | yes same ↦ ap (λ q. number_at (set (first_out t cells k slow) (slow_place t k) (number_at cells (t.offset + k))) (slow_place t q)) same ∙ get_or-set_same (first_out t cells k slow) (slow_place t k) (number_at cells (t.offset + k)) (pos 0) (let a = length-first_out k in let b = within k (omega arith) in omega arith) ∙ ap (λ q. number_at cells (t.offset + q)) (sym same)
    | no ne ↦ get_or-set_other (first_out t cells k slow) (slow_place t k) (slow_place t e) (number_at cells (t.offset + k)) (pos 0) (λ h. ne (apart e k lt (omega arith) h)) ∙ first_out_here k e (omega arith) (λ d ld. within d (omega arith)) (λ d f ld lf. apart d f (omega arith) (omega arith))
  ]
