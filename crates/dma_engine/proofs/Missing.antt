-- One more tag was tried, and one more element moved.
use Rattle.std.proofs.Common.{◌≡◌, ◌≢◌, ℕ, zero, suc, ◌+◌, List, [], ◌∷◌, ◌++◌, length, refl, sym, ap, ◌∙◌, below_more}
use Rattle.std.proofs.lemmas.List.{length_push}
use Rattle.std.specs.Prelude.{slice_get, Some}
use Rattle.dma_engine.specs.Met.{Missed}

get_front : (xs ys : List (ℕ × ℕ)) (k : ℕ) (p : ℕ × ℕ) → slice_get xs k ≡ Some p → slice_get (xs ++ ys) k ≡ Some p
get_front [] ys k p e = absurd (cc)
get_front (x ∷ xs) ys zero p e = e
get_front (x ∷ xs) ys (suc k) p e = get_front xs ys k p e

get_last : (xs : List (ℕ × ℕ)) (p : ℕ × ℕ) → slice_get (xs ++ p ∷ []) (length xs) ≡ Some p
get_last [] p = refl
get_last (x ∷ xs) p = get_last xs p

pub missed_more : (n w : ℕ) (ms : List (ℕ × ℕ)) → Missed n ms → w ≢ 1 → Missed (n + 1) (ms ++ (n, w) ∷ [])
missed_more n w ms m ne = (
  length_push ms (n, w) ∙ ap (λ q. q + 1) m.0,
  below_more _ _
      (λ k lt. let h = m.1 k lt in (h.0, get_front ms ((n, w) ∷ []) k (k, h.0) h.1, h.2))
      (w, ap (slice_get (ms ++ (n, w) ∷ [])) (sym m.0) ∙ get_last ms (n, w), ne),
)
