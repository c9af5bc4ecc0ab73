-- Steps that may be refused, one after another.
use Rattle.std.proofs.Common.{◌≡◌, ℕ, zero, suc, ◌/◌, ◌%◌, ◌<◌, ◌<ℤ◌, negsuc, arith, List, ℤ, pos, Result, Ok, Err, Some, None, ap, subst, sym, ◌∙◌}
use Rattle.std.specs.Prelude.{unsigned_abs}
use Rattle.std.proofs.lemmas.Int.{ints}
use Rattle.std.specs.Int.{IsGcd}
use Rattle.std.proofs.lemmas.Nat.Gcd.{mod-eq-zero_of_dvd}
use Rattle.num_row.specs.Ints.{narrowed, combined}
use Rattle.num_row.specs.Divisors.{gcd_of}
use Rattle.constraint_set.specs.Points.{LinearRow, coef}
use Rattle.constraint_set.specs.Elimination.{Refusal, too_wide, ◌>>=◌, or_wide, mixed_by, pair_of}
use Rattle.projection.specs.Answers.{IsRefused}
use Rattle.projection.specs.declared.fault.ReachFault.{ReachFault}
use Rattle.projection.specs.declared.fault.ReachFault.TheVariants.{Wide, Rows, Memory}

-- the refusal of a first step is that of the whole
pub stops : {A C : Type 0} (w : Result A Refusal) (f : A → Result C Refusal) (e : ReachFault) → IsRefused w e → IsRefused (w >>= f) e
stops w f Wide h = ap (λ r. r >>= f) h
stops w f Rows h = ap (λ r. r >>= f) h
stops w f Memory h = tt

-- a refusal of what is equal
pub carry : {A : Type 0} (w v : Result A Refusal) (e : ReachFault) → w ≡ v → IsRefused v e → IsRefused w e
carry w v e same h = subst (λ x. IsRefused x e) (sym same) h

-- a first step that goes on, and is refused later
pub later : {A C : Type 0} (w : Result A Refusal) (f : A → Result C Refusal) (x : A) (e : ReachFault) → w ≡ Ok x → IsRefused (f x) e → IsRefused (w >>= f) e
later w f x e same h = carry (w >>= f) (f x) e (ap (λ r. r >>= f) same) h

-- ---- the pair of two rows, from the sizes and the divisor that the code computes
module _ (k : ℕ) (p n : LinearRow) where
  abbrev pub with_coefs : ℤ → ℤ → List ℤ → Result LinearRow Refusal
  with_coefs a b coefs = or_wide (combined a p.constant b n.constant) >>= (λ constant. Ok (record { coefs = coefs; constant = constant }))

  abbrev pub with_factors : ℤ → ℤ → Result LinearRow Refusal
  with_factors a b = mixed_by a p.coefs b n.coefs >>= with_coefs a b

  pub pair_steps : (su sd g : ℕ) → su ≡ unsigned_abs (coef k p) → sd ≡ unsigned_abs (coef k n) → g ≡ gcd_of su sd
      → pair_of k p n ≡ (or_wide (narrowed (pos (sd / g))) >>= (λ a. or_wide (narrowed (pos (su / g))) >>= (λ b. with_factors a b)))
  unfolding pair_of
  pair_steps su sd g eu ed eg = rw (eg, eu, ed)

  module _ (su sd g : ℕ) (eu : su ≡ unsigned_abs (coef k p)) (ed : sd ≡ unsigned_abs (coef k n)) (eg : g ≡ gcd_of su sd) where
    pub no_first : (e : ReachFault) → IsRefused (or_wide (narrowed (pos (sd / g)))) e → IsRefused (pair_of k p n) e
    no_first e h = carry _ _ e (pair_steps su sd g eu ed eg) (stops (or_wide (narrowed (pos (sd / g)))) (λ a. or_wide (narrowed (pos (su / g))) >>= (λ b. with_factors a b)) e h)

    pub no_second : (a : ℤ) (e : ReachFault) → or_wide (narrowed (pos (sd / g))) ≡ Ok a → IsRefused (or_wide (narrowed (pos (su / g)))) e → IsRefused (pair_of k p n) e
    no_second a e h i = carry _ _ e (pair_steps su sd g eu ed eg ∙ rw h) (stops (or_wide (narrowed (pos (su / g)))) (λ b. with_factors a b) e i)

    pub with_both : (a b : ℤ) → or_wide (narrowed (pos (sd / g))) ≡ Ok a → or_wide (narrowed (pos (su / g))) ≡ Ok b → pair_of k p n ≡ with_factors a b
    with_both a b h i = pair_steps su sd g eu ed eg ∙ rw (h, i)

    pub no_coefs : (a b : ℤ) (e : ReachFault) → or_wide (narrowed (pos (sd / g))) ≡ Ok a → or_wide (narrowed (pos (su / g))) ≡ Ok b → IsRefused (mixed_by a p.coefs b n.coefs) e → IsRefused (pair_of k p n) e
    no_coefs a b e h i m = carry _ _ e (with_both a b h i) (stops (mixed_by a p.coefs b n.coefs) (with_coefs a b) e m)

    pub no_constant : (a b : ℤ) (coefs : List ℤ) → or_wide (narrowed (pos (sd / g))) ≡ Ok a → or_wide (narrowed (pos (su / g))) ≡ Ok b → mixed_by a p.coefs b n.coefs ≡ Ok coefs → combined a p.constant b n.constant ≡ None → pair_of k p n ≡ Err too_wide
    no_constant a b coefs h i m o = with_both a b h i ∙ rw (m, o)

    pub whole_pair : (a b : ℤ) (coefs : List ℤ) (constant : ℤ) → or_wide (narrowed (pos (sd / g))) ≡ Ok a → or_wide (narrowed (pos (su / g))) ≡ Ok b → mixed_by a p.coefs b n.coefs ≡ Ok coefs → combined a p.constant b n.constant ≡ Some constant → pair_of k p n ≡ Ok (record { coefs = coefs; constant = constant })
    whole_pair a b coefs constant h i m o = with_both a b h i ∙ rw (m, o)

gcd_positive : (a b g : ℕ) → IsGcd a b g → 0 < a → 0 < g
gcd_positive a b zero h p = absurd (let e : a % 0 ≡ 0 = mod-eq-zero_of_dvd 0 h.0 in let x : ⊥ = omega arith in x)
gcd_positive a b (suc g) h p = omega arith

size_positive : (x : ℤ) → pos 0 <ℤ x → 0 < unsigned_abs x
size_positive (pos n) h = omega (arith, ints, h)
size_positive (negsuc n) h = absurd h.lt

-- the divisor of a coefficient that is positive is positive
pub shared_positive : (k : ℕ) (p : LinearRow) (su sd g : ℕ) → su ≡ unsigned_abs (coef k p) → IsGcd su sd g → pos 0 <ℤ coef k p → 0 < g
shared_positive k p su sd g e h up = gcd_positive su sd g h (let s = size_positive (coef k p) up in omega (arith, e, s))
