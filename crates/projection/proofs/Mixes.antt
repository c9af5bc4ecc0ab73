-- The steps of the loop that mixes two rows.
use Rattle.std.proofs.Common.{◌≡◌, ℕ, zero, suc, ◌+◌, ◌<◌, ◌≤◌, List, [], ◌∷◌, ◌++◌, length, drop, get_or, Some, None, Result, Ok, Err, ℤ, pos, arith, refl, sym, ap, ◌∙◌, append_assoc, add-one, append-nil}
use Rattle.num_row.specs.Ints.{combined}
use Rattle.constraint_set.specs.Elimination.{Refusal, too_wide, mixed_by, or_wide, ◌>>=◌}
use Rattle.projection.specs.Answers.{after}

pub mixed-drop : (a : ℤ) (xs : List ℤ) (b : ℤ) (ys : List ℤ) (i : ℕ) → i < length xs → length xs ≡ length ys
    → mixed_by a (drop i xs) b (drop i ys) ≡ (or_wide (combined a (get_or xs i (pos 0)) b (get_or ys i (pos 0))) >>= (λ number. mixed_by a (drop (suc i) xs) b (drop (suc i) ys) >>= (λ rest. Ok (number ∷ rest))))
mixed-drop a [] b ys i h e = absurd (omega arith)
mixed-drop a (x ∷ xs) b [] i h e = absurd (omega arith)
mixed-drop a (x ∷ xs) b (y ∷ ys) zero h e = refl
mixed-drop a (x ∷ xs) b (y ∷ ys) (suc i) h e = mixed-drop a xs b ys i (omega arith) (omega arith)

-- one more number
pub after-push : (out : List ℤ) (n : ℤ) (r : Result (List ℤ) Refusal) → after out (r >>= (λ rest. Ok (n ∷ rest))) ≡ after (out ++ n ∷ []) r
after-push out n (Ok ys) = ap Ok (sym (append_assoc out (n ∷ []) ys))
after-push out n (Err e) = refl

pub turn : (a : ℤ) (xs : List ℤ) (b : ℤ) (ys : List ℤ) (i : ℕ) (out : List ℤ) (n : ℤ) → i < length xs → length xs ≡ length ys → combined a (get_or xs i (pos 0)) b (get_or ys i (pos 0)) ≡ Some n
    → after out (mixed_by a (drop i xs) b (drop i ys)) ≡ after (out ++ n ∷ []) (mixed_by a (drop (i + 1) xs) b (drop (i + 1) ys))
turn a xs b ys i out n h e c =
    rw add-one (ap (after out) (mixed-drop a xs b ys i h e ∙ ap (λ o. or_wide o >>= (λ number. mixed_by a (drop (suc i) xs) b (drop (suc i) ys) >>= (λ rest. Ok (number ∷ rest)))) c) ∙ after-push out n (mixed_by a (drop (suc i) xs) b (drop (suc i) ys)))

pub stop : (a : ℤ) (xs : List ℤ) (b : ℤ) (ys : List ℤ) (i : ℕ) (out : List ℤ) → i < length xs → length xs ≡ length ys → combined a (get_or xs i (pos 0)) b (get_or ys i (pos 0)) ≡ None
    → after out (mixed_by a (drop i xs) b (drop i ys)) ≡ Err too_wide
stop a xs b ys i out h e c = ap (after out) (mixed-drop a xs b ys i h e ∙ ap (λ o. or_wide o >>= (λ number. mixed_by a (drop (suc i) xs) b (drop (suc i) ys) >>= (λ rest. Ok (number ∷ rest)))) c)

pub ended : (a : ℤ) (xs : List ℤ) (b : ℤ) (ys : List ℤ) (i : ℕ) (out : List ℤ) → length xs ≤ i → after out (mixed_by a (drop i xs) b (drop i ys)) ≡ Ok out
ended a [] b ys zero out h = ap Ok (append-nil out)
ended a [] b ys (suc i) out h = ap Ok (append-nil out)
ended a (x ∷ xs) b ys zero out h = absurd (omega arith)
ended a (x ∷ xs) b [] (suc i) out h = nothing a (drop i xs) b out
  where
    nothing : (a : ℤ) (xs : List ℤ) (b : ℤ) (out : List ℤ) → after out (mixed_by a xs b []) ≡ Ok out
    nothing a [] b out = ap Ok (append-nil out)
    nothing a (x ∷ xs) b out = ap Ok (append-nil out)
ended a (x ∷ xs) b (y ∷ ys) (suc i) out h = ended a xs b ys i out (omega arith)
