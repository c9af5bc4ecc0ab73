-- The steps of the loop that joins two lists of coefficients.
use Rattle.std.proofs.Common.{◌≡◌, ℕ, zero, suc, ◌+◌, ◌<◌, ◌≤◌, List, [], ◌∷◌, ◌++◌, length, drop, get_or, Some, None, Ok, Err, ℤ, pos, arith, refl, ap, ◌∙◌, add-one, append-nil}
use Rattle.num_row.specs.Ints.{narrowed}
use Rattle.affine_expr.specs.Linear.{joined, first, others, join_coefs, or_wide, after, ◌>>=◌}
use Rattle.affine_expr.specs.declared.linear.Join.{Join}
use Rattle.affine_expr.specs.declared.linear.LinearFault.TheVariants.{Wide}
use Rattle.affine_expr.proofs.Scales.{after-push}

first-drop : (xs : List ℤ) (i : ℕ) → first (drop i xs) ≡ get_or xs i (pos 0)
first-drop [] zero = refl
first-drop [] (suc i) = refl
first-drop (x ∷ xs) zero = refl
first-drop (x ∷ xs) (suc i) = first-drop xs i

others-drop : (xs : List ℤ) (i : ℕ) → others (drop i xs) ≡ drop (suc i) xs
others-drop [] zero = refl
others-drop [] (suc i) = refl
others-drop (x ∷ xs) zero = refl
others-drop (x ∷ xs) (suc i) = others-drop xs i

join-at : (w : Join) (xs ys : List ℤ) (i : ℕ) → i < length ys → join_coefs w xs (drop i ys) ≡ (or_wide (narrowed (joined w (first xs) (get_or ys i (pos 0)))) >>= (λ number. join_coefs w (others xs) (drop (suc i) ys) >>= (λ rest. Ok (number ∷ rest))))
join-at w xs [] i h = absurd (omega arith)
join-at w xs (y ∷ ys) zero h = refl
join-at w xs (y ∷ ys) (suc i) h = join-at w xs ys i (omega arith)

join-drop : (w : Join) (xs ys : List ℤ) (i : ℕ) → i < length ys → join_coefs w (drop i xs) (drop i ys) ≡ (or_wide (narrowed (joined w (get_or xs i (pos 0)) (get_or ys i (pos 0)))) >>= (λ number. join_coefs w (drop (suc i) xs) (drop (suc i) ys) >>= (λ rest. Ok (number ∷ rest))))
join-drop w xs ys i h = join-at w (drop i xs) ys i h
    ∙ ap (λ x. or_wide (narrowed (joined w x (get_or ys i (pos 0)))) >>= (λ number. join_coefs w (others (drop i xs)) (drop (suc i) ys) >>= (λ rest. Ok (number ∷ rest)))) (first-drop xs i)
    ∙ ap (λ zs. or_wide (narrowed (joined w (get_or xs i (pos 0)) (get_or ys i (pos 0)))) >>= (λ number. join_coefs w zs (drop (suc i) ys) >>= (λ rest. Ok (number ∷ rest)))) (others-drop xs i)

pub turn : (w : Join) (xs ys : List ℤ) (i : ℕ) (out : List ℤ) (n : ℤ) → i < length ys → narrowed (joined w (get_or xs i (pos 0)) (get_or ys i (pos 0))) ≡ Some n
    → after out (join_coefs w (drop i xs) (drop i ys)) ≡ after (out ++ n ∷ []) (join_coefs w (drop (i + 1) xs) (drop (i + 1) ys))
turn w xs ys i out n h c =
    rw add-one (ap (after out) (join-drop w xs ys i h ∙ ap (λ o. or_wide o >>= (λ number. join_coefs w (drop (suc i) xs) (drop (suc i) ys) >>= (λ rest. Ok (number ∷ rest)))) c) ∙ after-push out n (join_coefs w (drop (suc i) xs) (drop (suc i) ys)))

pub stop : (w : Join) (xs ys : List ℤ) (i : ℕ) (out : List ℤ) → i < length ys → narrowed (joined w (get_or xs i (pos 0)) (get_or ys i (pos 0))) ≡ None → after out (join_coefs w (drop i xs) (drop i ys)) ≡ Err Wide
stop w xs ys i out h c = ap (after out) (join-drop w xs ys i h ∙ ap (λ o. or_wide o >>= (λ number. join_coefs w (drop (suc i) xs) (drop (suc i) ys) >>= (λ rest. Ok (number ∷ rest)))) c)

past : (w : Join) (xs ys : List ℤ) (i : ℕ) → length ys ≤ i → join_coefs w xs (drop i ys) ≡ Ok []
past w xs [] zero h = refl
past w xs [] (suc i) h = refl
past w xs (y ∷ ys) zero h = absurd (omega arith)
past w xs (y ∷ ys) (suc i) h = past w xs ys i (omega arith)

pub ended : (w : Join) (xs ys : List ℤ) (i : ℕ) (out : List ℤ) → length ys ≤ i → after out (join_coefs w (drop i xs) (drop i ys)) ≡ Ok out
ended w xs ys i out h = ap (after out) (past w (drop i xs) ys i h) ∙ ap Ok (append-nil out)
