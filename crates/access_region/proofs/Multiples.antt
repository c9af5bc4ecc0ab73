-- The steps of the loop that adds a multiple.
use Rattle.std.proofs.Common.{◌≡◌, ℕ, zero, suc, ◌+◌, ◌<◌, ◌≤◌, List, [], ◌∷◌, ◌++◌, length, drop, get_or, Some, None, Ok, Err, ℤ, pos, ◌+ℤ◌, ◌*ℤ◌, arith, refl, ap, ◌∙◌, add-one, append-nil}
use Rattle.num_row.specs.Ints.{narrowed}
use Rattle.constraint_set.specs.Elimination.{too_wide, or_wide, ◌>>=◌}
use Rattle.projection.specs.Answers.{after}
use Rattle.projection.proofs.Mixes.{after-push}
use Rattle.access_region.specs.Candidates.{plus_multiple}

multiple-drop : (cs : List ℤ) (k : ℤ) (bs : List ℤ) (i : ℕ) → i < length cs → length cs ≡ length bs
    → plus_multiple (drop i cs) k (drop i bs) ≡ (or_wide (narrowed (get_or cs i (pos 0) +ℤ k *ℤ get_or bs i (pos 0))) >>= (λ number. plus_multiple (drop (suc i) cs) k (drop (suc i) bs) >>= (λ rest. Ok (number ∷ rest))))
multiple-drop [] k bs i h e = absurd (omega arith)
multiple-drop (c ∷ cs) k [] i h e = absurd (omega arith)
multiple-drop (c ∷ cs) k (b ∷ bs) zero h e = refl
multiple-drop (c ∷ cs) k (b ∷ bs) (suc i) h e = multiple-drop cs k bs i (omega arith) (omega arith)

pub turn : (cs : List ℤ) (k : ℤ) (bs : List ℤ) (i : ℕ) (out : List ℤ) (n : ℤ) → i < length cs → length cs ≡ length bs → narrowed (get_or cs i (pos 0) +ℤ k *ℤ get_or bs i (pos 0)) ≡ Some n
    → after out (plus_multiple (drop i cs) k (drop i bs)) ≡ after (out ++ n ∷ []) (plus_multiple (drop (i + 1) cs) k (drop (i + 1) bs))
turn cs k bs i out n h e c =
    rw add-one (ap (after out) (multiple-drop cs k bs i h e ∙ ap (λ o. or_wide o >>= (λ number. plus_multiple (drop (suc i) cs) k (drop (suc i) bs) >>= (λ rest. Ok (number ∷ rest)))) c) ∙ after-push out n (plus_multiple (drop (suc i) cs) k (drop (suc i) bs)))

pub stop : (cs : List ℤ) (k : ℤ) (bs : List ℤ) (i : ℕ) (out : List ℤ) → i < length cs → length cs ≡ length bs → narrowed (get_or cs i (pos 0) +ℤ k *ℤ get_or bs i (pos 0)) ≡ None
    → after out (plus_multiple (drop i cs) k (drop i bs)) ≡ Err too_wide
stop cs k bs i out h e c = ap (after out) (multiple-drop cs k bs i h e ∙ ap (λ o. or_wide o >>= (λ number. plus_multiple (drop (suc i) cs) k (drop (suc i) bs) >>= (λ rest. Ok (number ∷ rest)))) c)

pub ended : (cs : List ℤ) (k : ℤ) (bs : List ℤ) (i : ℕ) (out : List ℤ) → length cs ≤ i → after out (plus_multiple (drop i cs) k (drop i bs)) ≡ Ok out
ended [] k bs zero out h = ap Ok (append-nil out)
ended [] k bs (suc i) out h = ap Ok (append-nil out)
ended (c ∷ cs) k bs zero out h = absurd (omega arith)
ended (c ∷ cs) k [] (suc i) out h = nothing (drop i cs) out
  where
    nothing : (cs out : List ℤ) → after out (plus_multiple cs k []) ≡ Ok out
    nothing [] out = ap Ok (append-nil out)
    nothing (c ∷ cs) out = ap Ok (append-nil out)
ended (c ∷ cs) k (b ∷ bs) (suc i) out h = ended cs k bs i out (omega arith)
