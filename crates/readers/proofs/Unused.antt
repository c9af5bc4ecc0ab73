-- Some name is always unknown: so a name that must be new has a text at each list of known ones.
use Rattle.std.proofs.Common.{◌≡◌, ◌≢◌, ℕ, zero, suc, ◌+◌, ◌≤◌, List, [], ◌∷◌, length, refl, ap, arith}

total : List (List ℕ) → ℕ
total [] = 0
total (n ∷ names) = length n + total names

-- a name of so many letters and one more
letters : ℕ → List ℕ
letters zero = 97 ∷ []
letters (suc n) = 97 ∷ letters n

letters_length : (n : ℕ) → length (letters n) ≡ suc n
unfolding letters
letters_length zero = refl
letters_length (suc n) = ap (λ k. suc k) (letters_length n)

-- a name that is longer than all of these together
pub unused : List (List ℕ) → List ℕ
unused names = letters (total names)

-- no name of the list is this one
abbrev pub IsNew : List ℕ → List (List ℕ) → Type 0
IsNew n [] = Unit {0}
IsNew n (m ∷ names) = (m ≢ n) × IsNew n names

longer : (names : List (List ℕ)) (k : ℕ) → total names ≤ k → IsNew (letters k) names
unfolding total
longer [] k h = tt
longer (m ∷ names) k h = ((λ e. omega (arith, h, ap length e, letters_length k)), longer names k (omega (arith, h)))

pub unused_is_new : (names : List (List ℕ)) → IsNew (unused names) names
unfolding unused
unused_is_new names = longer names (total names) (omega arith)
