-- The steps of the loop that multiplies a list of coefficients.
use Rattle.std.proofs.Common.{◌≡◌, ℕ, zero, suc, ◌+◌, ◌<◌, ◌≤◌, List, [], ◌∷◌, ◌++◌, length, drop, get_or, Some, None, Result, Ok, Err, ℤ, pos, ◌*ℤ◌, arith, refl, sym, ap, ◌∙◌, append_assoc, add-one, append-nil}
use Rattle.num_row.specs.Ints.{narrowed}
use Rattle.affine_expr.specs.Linear.{scale_coefs, or_wide, after, ◌>>=◌}
use Rattle.affine_expr.specs.declared.linear.LinearFault.{LinearFault}
use Rattle.affine_expr.specs.declared.linear.LinearFault.TheVariants.{Wide}

scale-drop : (k : ℤ) (xs : List ℤ) (i : ℕ) → i < length xs → scale_coefs k (drop i xs) ≡ (or_wide (narrowed (k *ℤ get_or xs i (pos 0))) >>= (λ number. scale_coefs k (drop (suc i) xs) >>= (λ rest. Ok (number ∷ rest))))
scale-drop k [] i h = absurd (omega arith)
scale-drop k (x ∷ xs) zero h = refl
scale-drop k (x ∷ xs) (suc i) h = scale-drop k xs i (omega arith)

pub after-push : (out : List ℤ) (n : ℤ) (r : Result (List ℤ) LinearFault) → after out (r >>= (λ rest. Ok (n ∷ rest))) ≡ after (out ++ n ∷ []) r
after-push out n (Ok ys) = ap Ok (sym (append_assoc out (n ∷ []) ys))
after-push out n (Err e) = refl

pub turn : (k : ℤ) (xs : List ℤ) (i : ℕ) (out : List ℤ) (n : ℤ) → i < length xs → narrowed (k *ℤ get_or xs i (pos 0)) ≡ Some n
    → after out (scale_coefs k (drop i xs)) ≡ after (out ++ n ∷ []) (scale_coefs k (drop (i + 1) xs))
turn k xs i out n h c =
    rw add-one (ap (after out) (scale-drop k xs i h ∙ ap (λ o. or_wide o >>= (λ number. scale_coefs k (drop (suc i) xs) >>= (λ rest. Ok (number ∷ rest)))) c) ∙ after-push out n (scale_coefs k (drop (suc i) xs)))

pub stop : (k : ℤ) (xs : List ℤ) (i : ℕ) (out : List ℤ) → i < length xs → narrowed (k *ℤ get_or xs i (pos 0)) ≡ None → after out (scale_coefs k (drop i xs)) ≡ Err Wide
stop k xs i out h c = ap (after out) (scale-drop k xs i h ∙ ap (λ o. or_wide o >>= (λ number. scale_coefs k (drop (suc i) xs) >>= (λ rest. Ok (number ∷ rest)))) c)

pub ended : (k : ℤ) (xs : List ℤ) (i : ℕ) (out : List ℤ) → length xs ≤ i → after out (scale_coefs k (drop i xs)) ≡ Ok out
ended k [] zero out h = ap Ok (append-nil out)
ended k [] (suc i) out h = ap Ok (append-nil out)
ended k (x ∷ xs) zero out h = absurd (omega arith)
ended k (x ∷ xs) (suc i) out h = ended k xs i out (omega arith)
