-- The exits of a reach.
use Rattle.std.proofs.Common.{◌≡◌, suc, ◌+◌, ◌<◌, ◌≤◌, Bool, true, false, cond, nat_lt, ltb-true, List, map, length, Result, Ok, Err, IfOk, ℤ, refl, sym, ap, ◌∙◌, arith}
use Rattle.std.proofs.lemmas.Bool.{lt-ltb}
use Rattle.constraint_set.specs.Points.{LinearRow, LinearSystem, AreWide}
use Rattle.constraint_set.specs.Tidy.{tidied}
use Rattle.constraint_set.specs.Elimination.{Refusal, too_many, ◌>>=◌, raising, lowering, step, steps, countdown}
use Rattle.constraint_set.specs.Reach.{Reach, never, between, valued, has_negative, greatest_lower, least_upper, reach_of, TellsReach}
use Rattle.constraint_set.proofs.Reaching.{reach_tells}
use Rattle.projection.specs.Answers.{Meets, IsRefused}
use Rattle.projection.specs.Reaches.{shape_of, value_rows, both_bounds, tightest_of}
use Rattle.projection.specs.declared.fault.ReachFault.{ReachFault}
use Rattle.projection.specs.declared.reaching.Reached.{Reached}
use Rattle.projection.specs.declared.bounds.End.TheVariants.{Least, Greatest}
use Rattle.projection.proofs.Chains.{stops, later, carry}

-- ---- both bounds
module _ (rows us ds : List LinearRow) (eu : us ≡ raising 0 rows) where
  greatest_lower_is : greatest_lower rows ≡ tightest_of Least us
  unfolding greatest_lower
  greatest_lower_is = ap (tightest_of Least) (sym eu)

  pub no_least : (e : ReachFault) → IsRefused (tightest_of Least us) e → IsRefused (both_bounds rows) e
  no_least e h = stops (greatest_lower rows) (λ least. least_upper rows >>= (λ greatest. Ok (between least greatest))) e (carry _ _ e greatest_lower_is h)

  module _ (ed : ds ≡ lowering 0 rows) where
    least_upper_is : least_upper rows ≡ tightest_of Greatest ds
    unfolding least_upper
    least_upper_is = ap (tightest_of Greatest) (sym ed)

    pub no_greatest : (l : ℤ) (e : ReachFault) → tightest_of Least us ≡ Ok l → IsRefused (tightest_of Greatest ds) e → IsRefused (both_bounds rows) e
    no_greatest l e h r =
        later (greatest_lower rows) (λ least. least_upper rows >>= (λ greatest. Ok (between least greatest))) l e (greatest_lower_is ∙ h)
        (stops (least_upper rows) (λ greatest. Ok (between l greatest)) e (carry _ _ e least_upper_is r))

    pub both_there : (l g : ℤ) → tightest_of Least us ≡ Ok l → tightest_of Greatest ds ≡ Ok g → both_bounds rows ≡ Ok (between l g)
    both_there l g h k =
        ap (λ w. w >>= (λ least. least_upper rows >>= (λ greatest. Ok (between least greatest)))) (greatest_lower_is ∙ h)
        ∙ ap (λ w. w >>= (λ greatest. Ok (between l greatest))) (least_upper_is ∙ k)

-- ---- the reach
after_rows : List LinearRow → Result Reach Refusal
after_rows rows = step 0 rows >>= (λ last. cond (has_negative last) (Ok never) (both_bounds rows))

in_turn : {A B C : Type 0} (w : Result A Refusal) (f : A → Result B Refusal) (g : B → Result C Refusal) → (w >>= (λ x. f x >>= g)) ≡ ((w >>= f) >>= g)
in_turn (Ok x) f g = refl
in_turn (Err e) f g = refl

module _ (s : LinearSystem) (form : LinearRow) where
  pub reach_over : 64 ≤ s.vars → reach_of s form ≡ Err too_many
  unfolding reach_of
  reach_over h = ap (λ b. cond b (Err too_many) (valued s form >>= (λ both. steps (map suc (countdown s.vars)) (tidied both) >>= (λ rows. step 0 rows >>= (λ last. cond (has_negative last) (Ok never) (both_bounds rows)))))) (lt-ltb 64 (s.vars + 1) (omega arith))

  module _ (few : s.vars < 64) where
    reach_runs : reach_of s form ≡ (value_rows s form >>= after_rows)
    unfolding reach_of after_rows
    reach_runs =
        ap (λ b. cond b (Err too_many) (valued s form >>= (λ both. steps (map suc (countdown s.vars)) (tidied both) >>= (λ rows. step 0 rows >>= (λ last. cond (has_negative last) (Ok never) (both_bounds rows)))))) (not_over (nat_lt 64 (s.vars + 1)) refl)
        ∙ in_turn (valued s form) (λ both. steps (map suc (countdown s.vars)) (tidied both)) after_rows
      where
        not_over : (b : Bool) → nat_lt 64 (s.vars + 1) ≡ b → nat_lt 64 (s.vars + 1) ≡ false
        not_over true f = absurd (let l = ltb-true 64 (s.vars + 1) f in let x : ⊥ = omega (arith, l, few) in x)
        not_over false f = f

    pub no_rows : (e : ReachFault) → IsRefused (value_rows s form) e → IsRefused (reach_of s form) e
    no_rows e h = carry _ _ e reach_runs (stops (value_rows s form) after_rows e h)

    module _ (rows : List LinearRow) (made : value_rows s form ≡ Ok rows) where
      reach_after : reach_of s form ≡ (step 0 rows >>= (λ last. cond (has_negative last) (Ok never) (both_bounds rows)))
      unfolding after_rows
      reach_after = reach_runs ∙ ap (λ w. w >>= after_rows) made

      pub no_last : (e : ReachFault) → IsRefused (step 0 rows) e → IsRefused (reach_of s form) e
      no_last e h = carry _ _ e reach_after (stops (step 0 rows) (λ last. cond (has_negative last) (Ok never) (both_bounds rows)) e h)

      pub is_never : (last : List LinearRow) → step 0 rows ≡ Ok last → has_negative last ≡ true → reach_of s form ≡ Ok never
      is_never last h k = reach_after ∙ ap (λ w. w >>= (λ last. cond (has_negative last) (Ok never) (both_bounds rows))) h ∙ ap (λ b. cond b (Ok never) (both_bounds rows)) k

      pub is_between : (last : List LinearRow) → step 0 rows ≡ Ok last → has_negative last ≡ false → reach_of s form ≡ both_bounds rows
      is_between last h k = reach_after ∙ ap (λ w. w >>= (λ last. cond (has_negative last) (Ok never) (both_bounds rows))) h ∙ ap (λ b. cond b (Ok never) (both_bounds rows)) k

-- what the answer says, in whatever way it comes
pub told : (s : LinearSystem) (form : LinearRow) (r : Result Reached ReachFault) → AreWide s.vars s.rows → length form.coefs ≡ s.vars → Meets (reach_of s form) shape_of r → IfOk r (λ reached. TellsReach s form (shape_of reached))
told s form (Ok reached) wide long h = reach_tells s form (shape_of reached) wide long h
told s form (Err e) wide long h = tt
