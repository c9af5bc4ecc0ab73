-- The reach of a form with exactly as many coefficients as there are variables.
use Rattle.std.proofs.Common.{◌≡◌, ℕ, zero, suc, ◌+◌, ◌-◌, ◌≤◌, List, [], ◌∷◌, ◌++◌, take, length, replicate, Result, Ok, ℤ, pos, refl, sym, ap, subst, ◌∙◌, arith}
use Rattle.constraint_set.specs.Points.{LinearRow, LinearSystem}
use Rattle.constraint_set.specs.Elimination.{Refusal}
use Rattle.constraint_set.specs.Reach.{Reach, reach_of}
use Rattle.projection.specs.Answers as reach
use Rattle.projection.specs.declared.fault.ReachFault.{ReachFault}
use Rattle.projection.specs.declared.fault.ReachFault.TheVariants as fault
use Rattle.affine_expr.specs.Forms.{Form}
use Rattle.affine_expr.specs.Linear.{padded}
use Rattle.nest_domain.specs.Domains.{row_at}
use Rattle.access_region.specs.Converted.{of_elimination}
use Rattle.access_region.specs.Faults.{IsRefused, by_elimination}
use Rattle.access_region.specs.Candidates.{filled}
use Rattle.access_region.specs.Spans.{reach_at}

zeros : (n m : ℕ) → n ≤ m → take n (replicate m (pos 0)) ≡ replicate n (pos 0)
zeros zero m h = refl
zeros (suc n) zero h = absurd (omega (arith, h))
zeros (suc n) (suc m) h = ap (λ (xs : List ℤ). pos 0 ∷ xs) (zeros n m (omega (arith, h)))

same : (n m : ℕ) (cs : List ℤ) → n ≤ length cs + m → take n (cs ++ replicate m (pos 0)) ≡ take n (cs ++ replicate n (pos 0))
same n m [] h = zeros n m (omega (arith, h)) ∙ sym (zeros n n (omega arith))
same zero m (c ∷ cs) h = refl
same (suc n) m (c ∷ cs) h = ap (λ (xs : List ℤ). c ∷ xs) (same n m cs (omega (arith, h)) ∙ sym (same n (suc n) cs (omega arith)))

row_is : (n : ℕ) (f : Form) → row_at n f ≡ record { coefs = filled n f.coefs; constant = f.constant }
unfolding row_at padded
row_is n f = λ i. record { coefs = same n (n - length f.coefs) f.coefs (omega arith) i; constant = f.constant }

pub refusal_of : {A : Type 0} (w : Result A Refusal) (e : ReachFault) → reach.IsRefused w e → IsRefused (by_elimination w) (of_elimination e)
refusal_of w fault.Wide h = ap by_elimination h
refusal_of w fault.Rows h = ap by_elimination h
refusal_of w fault.Memory h = tt

pub no_reach : (s : LinearSystem) (f : Form) (coefs : List ℤ) (k : ℤ) (e : ReachFault) → reach.IsRefused (reach_of s (record { coefs = coefs; constant = k })) e → coefs ≡ filled s.vars f.coefs → k ≡ f.constant → IsRefused (reach_at s f) (of_elimination e)
no_reach s f coefs k e h c d = refusal_of (reach_of s (row_at s.vars f)) e (subst (λ (r : LinearRow). reach.IsRefused (reach_of s r) e) ((λ i. record { coefs = c i; constant = d i }) ∙ sym (row_is s.vars f)) h)

pub reached : (s : LinearSystem) (f : Form) (coefs : List ℤ) (k : ℤ) (r : Reach) → reach_of s (record { coefs = coefs; constant = k }) ≡ Ok r → coefs ≡ filled s.vars f.coefs → k ≡ f.constant → reach_at s f ≡ Ok r
reached s f coefs k r h c d = ap by_elimination (ap (reach_of s) (row_is s.vars f ∙ (λ i. record { coefs = sym c i; constant = sym d i })) ∙ h)
