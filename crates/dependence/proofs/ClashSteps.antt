-- The steps of a clash.
use Rattle.std.proofs.Common.{◌≡◌, ℕ, ◌+◌, ◌-◌, ◌≤◌, ◌<◌, Bool, true, false, cond, List, [], ◌∷◌, ◌++◌, length, map, Result, Ok, Err, ℤ, arith, refl, sym, ap, ◌∙◌, ltb-true, append_assoc}
use Rattle.std.specs.Prelude.{nat_lt, not}
use Rattle.std.proofs.lemmas.Bool.{lt-ltb}
use Rattle.constraint_set.specs.Lists.{Each}
use Rattle.constraint_set.specs.Points.{LinearRow, LinearSystem, AreWide}
use Rattle.constraint_set.specs.Elimination.{Refusal, too_many, ◌>>=◌}
use Rattle.constraint_set.specs.Reach.{emptiness}
use Rattle.projection.specs.Answers.{IsRefused, after}
use Rattle.projection.specs.declared.fault.ReachFault.{ReachFault}
use Rattle.projection.proofs.Chains.{stops, carry, later as later_}
use Rattle.nest_domain.specs.Boxes.{Dimension, AreOver}
use Rattle.dependence.specs.Clashes.{all_later, common_rows, filled, clash_system, clash}

pub outer_of_wide : (n v : ℕ) (rows : List LinearRow) → n ≤ v → AreWide v rows → Each (λ r. n ≤ length r.coefs) rows
outer_of_wide n v [] h w = tt
outer_of_wide n v (r ∷ rows) h w = (omega (arith, h, w.0), outer_of_wide n v rows h w.1)

pub outer_of_over : (n : ℕ) (ds : List Dimension) → AreOver n ds → Each (λ d. n ≤ length d.coefs) ds
outer_of_over n [] h = tt
outer_of_over n (d ∷ ds) h = (omega (arith, h.0), outer_of_over n ds h.1)

given : {A : Type 0} (out mid : List A) (w : Result (List A) Refusal) → after out w ≡ Ok mid → (x : List A) × ((w ≡ Ok x) × (mid ≡ out ++ x))
given out mid (Ok x) h = (x, (refl, cc))
given out mid (Err r) h = absurd (let z : ⊥ = cc in z)

module _ (first second : List Dimension) (outside : LinearSystem) (n : ℕ) (sizes : List ℕ) (i : ℕ) (t : ℤ) where
  all_vars : ℕ
  all_vars = outside.vars + (outside.vars - n) + length sizes

  rest : Result LinearSystem Refusal
  rest = all_later n (outside.vars - n) i t outside.rows >>= (λ moved. common_rows n (outside.vars - n) i t (outside.vars + (outside.vars - n)) first second sizes >>= (λ common.
      Ok (record { vars = outside.vars + (outside.vars - n) + length sizes; rows = map (filled (outside.vars + (outside.vars - n) + length sizes)) (outside.rows ++ (moved ++ common)) })))

  pub over : 64 < outside.vars + (outside.vars - n) + length sizes → clash_system first second outside n sizes i t ≡ Err too_many
  unfolding clash_system rest
  over h = ap (λ b. cond b (Err too_many) rest) (lt-ltb 64 (outside.vars + (outside.vars - n) + length sizes) h)

  runs : outside.vars + (outside.vars - n) + length sizes ≤ 64 → clash_system first second outside n sizes i t ≡ rest
  unfolding clash_system rest
  runs h = by (nat_lt 64 (outside.vars + (outside.vars - n) + length sizes)) refl
    where
      by : (b : Bool) → nat_lt 64 (outside.vars + (outside.vars - n) + length sizes) ≡ b → cond b (Err too_many) rest ≡ rest
      by true e = absurd (let l = ltb-true 64 (outside.vars + (outside.vars - n) + length sizes) e in let x : ⊥ = omega (arith, l, h) in x)
      by false e = refl

  pub no_moved : (f : ReachFault) → outside.vars + (outside.vars - n) + length sizes ≤ 64 → IsRefused (all_later n (outside.vars - n) i t outside.rows) f → IsRefused (clash_system first second outside n sizes i t) f
  unfolding rest
  no_moved f few h = carry _ _ f (runs few) (stops (all_later n (outside.vars - n) i t outside.rows) _ f h)

  pub no_common : (mid : List LinearRow) (f : ReachFault) → outside.vars + (outside.vars - n) + length sizes ≤ 64 → after outside.rows (all_later n (outside.vars - n) i t outside.rows) ≡ Ok mid
      → IsRefused (common_rows n (outside.vars - n) i t (outside.vars + (outside.vars - n)) first second sizes) f → IsRefused (clash_system first second outside n sizes i t) f
  unfolding rest
  no_common mid f few g h =
      let x = given outside.rows mid (all_later n (outside.vars - n) i t outside.rows) g in
      carry _ _ f (runs few) (later_ (all_later n (outside.vars - n) i t outside.rows) _ x.0 f x.1.0 (stops (common_rows n (outside.vars - n) i t (outside.vars + (outside.vars - n)) first second sizes) _ f h))

  pub made : (mid all : List LinearRow) → outside.vars + (outside.vars - n) + length sizes ≤ 64 → after outside.rows (all_later n (outside.vars - n) i t outside.rows) ≡ Ok mid
      → after mid (common_rows n (outside.vars - n) i t (outside.vars + (outside.vars - n)) first second sizes) ≡ Ok all
      → clash_system first second outside n sizes i t ≡ Ok (record { vars = outside.vars + (outside.vars - n) + length sizes; rows = map (filled (outside.vars + (outside.vars - n) + length sizes)) all })
  unfolding rest
  made mid all few g h =
      let x = given outside.rows mid (all_later n (outside.vars - n) i t outside.rows) g in
      let y = given mid all (common_rows n (outside.vars - n) i t (outside.vars + (outside.vars - n)) first second sizes) h in
      let same : outside.rows ++ (x.0 ++ y.0) ≡ all = sym (append_assoc outside.rows x.0 y.0) ∙ ap (λ (zs : List LinearRow). zs ++ y.0) (sym x.1.1) ∙ sym y.1.1 in
      runs few
      ∙ ap (λ w. w >>= (λ moved. common_rows n (outside.vars - n) i t (outside.vars + (outside.vars - n)) first second sizes >>= (λ common. Ok (record { vars = outside.vars + (outside.vars - n) + length sizes; rows = map (filled (outside.vars + (outside.vars - n) + length sizes)) (outside.rows ++ (moved ++ common)) })))) x.1.0
      ∙ ap (λ w. w >>= (λ common. Ok (record { vars = outside.vars + (outside.vars - n) + length sizes; rows = map (filled (outside.vars + (outside.vars - n) + length sizes)) (outside.rows ++ (x.0 ++ common)) }))) y.1.0
      ∙ ap (λ (zs : List LinearRow). let r : Result LinearSystem Refusal = Ok (record { vars = outside.vars + (outside.vars - n) + length sizes; rows = map (filled (outside.vars + (outside.vars - n) + length sizes)) zs }) in r) same

  pub no_system : (f : ReachFault) → IsRefused (clash_system first second outside n sizes i t) f → IsRefused (clash first second outside n sizes i t) f
  unfolding clash
  no_system f h = stops (clash_system first second outside n sizes i t) _ f h

  pub no_emptiness : (s : LinearSystem) (f : ReachFault) → clash_system first second outside n sizes i t ≡ Ok s → IsRefused (emptiness s) f → IsRefused (clash first second outside n sizes i t) f
  unfolding clash
  no_emptiness s f e h = later_ (clash_system first second outside n sizes i t) _ s f e (stops (emptiness s) _ f h)

  pub told : (s : LinearSystem) (b : Bool) → clash_system first second outside n sizes i t ≡ Ok s → emptiness s ≡ Ok b → clash first second outside n sizes i t ≡ Ok (not b)
  unfolding clash
  told s b e h = ap (λ w. w >>= (λ s. emptiness s >>= (λ empty. Ok (not empty)))) e ∙ ap (λ w. w >>= (λ empty. Ok (not empty))) h
