-- Numbers counted down, and the exits of emptiness.
use Rattle.std.proofs.Common.{◌≡◌, ℕ, suc, ◌+◌, ◌-◌, ◌<◌, List, ◌∷◌, map, Ok, Err, sym, ap, ◌∙◌, arith, subst}
use Rattle.constraint_set.specs.Points.{LinearRow, LinearSystem}
use Rattle.constraint_set.specs.Elimination.{too_many, ◌>>=◌, eliminated, countdown}
use Rattle.constraint_set.specs.Reach.{emptiness, has_negative}
use Rattle.projection.specs.Answers.{IsRefused}
use Rattle.projection.specs.declared.fault.ReachFault.{ReachFault}
use Rattle.projection.proofs.Chains.{stops}
use Rattle.projection.proofs.Stepping.{eliminated_over}

-- the next number that is counted down
pub one_less : (count passed : ℕ) → passed < count → countdown (count - passed) ≡ (count - 1 - passed) ∷ countdown (count - (passed + 1))
one_less count passed h =
    let e : count - passed ≡ suc (count - (passed + 1)) = omega arith in
    let f : count - (passed + 1) ≡ count - 1 - passed = omega arith in
    ap countdown e ∙ ap (λ n. n ∷ countdown (count - (passed + 1))) f

pub one_less_up : (count passed : ℕ) → passed < count → map suc (countdown (count - passed)) ≡ (count - passed) ∷ map suc (countdown (count - (passed + 1)))
one_less_up count passed h =
    let e : count - passed ≡ suc (count - (passed + 1)) = omega arith in
    ap (λ n. map suc (countdown n)) e ∙ ap (λ n. n ∷ map suc (countdown (count - (passed + 1)))) (sym e)

-- ---- the exits of emptiness
pub emptiness_over : (s : LinearSystem) → 64 < s.vars → emptiness s ≡ Err too_many
unfolding emptiness
emptiness_over s h = ap (λ w. w >>= (λ rows. Ok (has_negative rows))) (eliminated_over s (countdown s.vars) h)

pub emptiness_stops : (s : LinearSystem) (ks : List ℕ) (e : ReachFault) → ks ≡ countdown s.vars → IsRefused (eliminated s ks) e → IsRefused (emptiness s) e
unfolding emptiness
emptiness_stops s ks e same h = stops (eliminated s (countdown s.vars)) (λ rows. Ok (has_negative rows)) e (subst (λ xs. IsRefused (eliminated s xs) e) same h)

pub emptiness_ends : (s : LinearSystem) (ks : List ℕ) (rows : List LinearRow) → ks ≡ countdown s.vars → eliminated s ks ≡ Ok rows → emptiness s ≡ Ok (has_negative rows)
unfolding emptiness
emptiness_ends s ks rows same h = ap (λ w. w >>= (λ rs. Ok (has_negative rs))) (ap (eliminated s) (sym same) ∙ h)
