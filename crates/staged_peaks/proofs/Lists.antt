-- A way in numbers: what is said of it with beginnings of lists, by recursion.
use Rattle.std.proofs.Common.{◌≡◌, ℕ, suc, ◌≤◌, ◌<◌, Bool, true, false, List, [], ◌∷◌, ◌++◌, refl, ap, arith}
use Rattle.std.specs.Prelude.{map, take, drop, nat_le, if◌then◌else◌}
use Rattle.staged_peaks.specs.declared.live.LiveLoop.{LiveLoop}
use Rattle.staged_peaks.specs.Living.{entered, kept_of, next_way}

abbrev pub going : ℕ → List LiveLoop → List ℕ → List LiveLoop
going common [] ks = map entered ks
going common (x ∷ xs) [] = []
going common (x ∷ xs) (k ∷ ks) = if nat_le x.steps common then x ∷ going common xs ks else map entered (k ∷ ks)

pub next_is_going : (common : ℕ) (xs : List LiveLoop) (ks : List ℕ) → next_way common xs ks ≡ going common xs ks
next_is_going common [] ks = refl
next_is_going common (x ∷ xs) [] = refl
next_is_going common (x ∷ xs) (k ∷ ks) = by (nat_le x.steps common) (next_is_going common xs ks)
  where
    by : (t : Bool) → next_way common xs ks ≡ going common xs ks
        → take (if t then suc (kept_of common xs ks) else 0) (x ∷ xs) ++ map entered (drop (if t then suc (kept_of common xs ks) else 0) (k ∷ ks))
        ≡ (if t then x ∷ going common xs ks else map entered (k ∷ ks))
    by true e = ap (λ ys. x ∷ ys) e
    by false e = refl

pub kept : (common : ℕ) (x : LiveLoop) (xs : List LiveLoop) (k : ℕ) (ks : List ℕ) → x.steps ≤ common → going common (x ∷ xs) (k ∷ ks) ≡ x ∷ going common xs ks
kept common x xs k ks h = by (nat_le x.steps common) (grind (arith, h))
  where
    by : (t : Bool) → t ≡ true → (if t then x ∷ going common xs ks else map entered (k ∷ ks)) ≡ x ∷ going common xs ks
    by true e = refl
    by false e = absurd (let z : ⊥ = cc in z)

pub left : (common : ℕ) (x : LiveLoop) (xs : List LiveLoop) (ks : List ℕ) → common < x.steps → going common (x ∷ xs) ks ≡ map entered ks
left common x xs [] h = refl
left common x xs (k ∷ ks) h = by (nat_le x.steps common) (grind (arith, h))
  where
    by : (t : Bool) → t ≡ false → (if t then x ∷ going common xs ks else map entered (k ∷ ks)) ≡ map entered (k ∷ ks)
    by true e = absurd (let z : ⊥ = cc in z)
    by false e = refl
