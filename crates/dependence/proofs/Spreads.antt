-- Variables put in among others.
use Rattle.std.proofs.Common.{◌≡◌, ℕ, zero, suc, ◌≤◌, ◌-◌, List, [], ◌∷◌, ◌++◌, take, drop, length, replicate, ℤ, pos, arith, refl, ap, length-drop}
use Rattle.dependence.specs.Clashes.{spread}

pub spread_is : (n m : ℕ) (cs : List ℤ) → n ≤ length cs → spread n m cs ≡ (take n cs ++ replicate m (pos 0)) ++ drop n cs
spread_is zero m cs h = refl
spread_is (suc n) m [] h = absurd (omega (arith, h))
spread_is (suc n) m (c ∷ cs) h = ap (λ ys. c ∷ ys) (spread_is n m cs (omega (arith, h)))

take_all : (n : ℕ) (xs : List ℤ) → length xs ≤ n → take n xs ≡ xs
take_all zero [] h = refl
take_all zero (x ∷ xs) h = absurd (omega (arith, h))
take_all (suc n) [] h = refl
take_all (suc n) (x ∷ xs) h = ap (λ ys. x ∷ ys) (take_all n xs (omega (arith, h)))

pub take_rest : (n : ℕ) (cs : List ℤ) → take (length cs - n) (drop n cs) ≡ drop n cs
take_rest n cs = take_all (length cs - n) (drop n cs) (omega (arith, length-drop n cs))
