-- The exits of the functions that put the value of a form before a system's variables.
use Rattle.std.proofs.Common.{◌≡◌, ℕ, suc, ◌+◌, List, [], ◌∷◌, ◌++◌, map, length, Ok, ℤ, neg_ℤ, sym, ap, ◌∙◌, subst, arith, add-one, append_assoc, ◌<◌}
use Rattle.num_row.specs.Ints.{narrowed}
use Rattle.constraint_set.specs.Lists.{Each}
use Rattle.constraint_set.specs.Points.{LinearRow, LinearSystem, AreWide}
use Rattle.constraint_set.specs.Elimination.{◌>>=◌, or_wide, countdown}
use Rattle.constraint_set.specs.Reach.{behind, at_least, at_most, negated, valued}
use Rattle.constraint_set.proofs.Valued.{valued_are, valued_wide, shifted_within}
use Rattle.projection.specs.Answers.{IsRefused}
use Rattle.projection.specs.declared.fault.ReachFault.{ReachFault}
use Rattle.projection.proofs.Chains.{stops, later}

module _ (s : LinearSystem) (form : LinearRow) where
  abbrev both_of : List ℤ → ℤ → List LinearRow
  both_of coefs constant = map behind s.rows ++ at_least coefs constant ∷ at_most form ∷ []

  pub no_coefs : (e : ReachFault) → IsRefused (negated form.coefs) e → IsRefused (valued s form) e
  unfolding valued
  no_coefs e h = stops (negated form.coefs) (λ coefs. or_wide (narrowed (neg_ℤ form.constant)) >>= (λ constant. Ok (both_of coefs constant))) e h

  pub no_constant : (coefs : List ℤ) (e : ReachFault) → negated form.coefs ≡ Ok coefs → IsRefused (or_wide (narrowed (neg_ℤ form.constant))) e → IsRefused (valued s form) e
  unfolding valued
  no_constant coefs e h r =
      later (negated form.coefs) (λ coefs. or_wide (narrowed (neg_ℤ form.constant)) >>= (λ constant. Ok (both_of coefs constant))) coefs e h
      (stops (or_wide (narrowed (neg_ℤ form.constant))) (λ constant. Ok (both_of coefs constant)) e r)

  pub valued_ends : (coefs : List ℤ) (constant : ℤ) (all : List LinearRow) → negated form.coefs ≡ Ok coefs → or_wide (narrowed (neg_ℤ form.constant)) ≡ Ok constant
      → all ≡ (map behind s.rows ++ at_least coefs constant ∷ []) ++ at_most form ∷ [] → valued s form ≡ Ok all
  unfolding valued
  valued_ends coefs constant all h k e =
      ap (λ w. w >>= (λ coefs. or_wide (narrowed (neg_ℤ form.constant)) >>= (λ constant. Ok (both_of coefs constant)))) h
      ∙ ap (λ w. w >>= (λ constant. Ok (both_of coefs constant))) k
      ∙ ap Ok (sym (append_assoc (map behind s.rows) (at_least coefs constant ∷ []) (at_most form ∷ [])) ∙ sym e)

  pub both_wide : (both : List LinearRow) → AreWide s.vars s.rows → length form.coefs ≡ s.vars → valued s form ≡ Ok both → AreWide (s.vars + 1) both
  both_wide both wide long h = subst (λ n. AreWide n both) (sym (add-one s.vars)) (subst (AreWide (suc s.vars)) (sym (valued_are s form both h)) (valued_wide s.vars s.rows form wide long))

pub others_within : (n : ℕ) → Each (λ k. k < n + 1) (map suc (countdown n))
others_within n = subst (λ m. Each (λ k. k < m) (map suc (countdown n))) (sym (add-one n)) (shifted_within n n (omega arith))
