-- The exits of a step, and of several.
use Rattle.std.proofs.Common.{◌≡◌, ℕ, zero, suc, add-one, ◌+◌, ◌*◌, ◌<◌, ◌≤◌, Bool, true, false, cond, List, [], ◌∷◌, ◌++◌, length, get_or, drop, ltb-true, Result, Ok, Err, pos, ◌<ℤ◌, nat_lt, refl, sym, ap, ◌∙◌, subst, arith}
use Rattle.std.proofs.lemmas.Bool.{lt-ltb}
use Rattle.constraint_set.specs.Lists.{Each}
use Rattle.constraint_set.specs.Points.{LinearRow, LinearSystem, coef, AreWide}
use Rattle.constraint_set.specs.Tidy.{tidied}
use Rattle.constraint_set.specs.Elimination.{Refusal, too_many, ◌>>=◌, raising, lowering, without, pairs_of, row_limit, row_count, step, steps, eliminated}
use Rattle.constraint_set.proofs.Steps.{Each-append, Each-weaken, Raises, Lowers, part_raising, part_lowering, part_without}
use Rattle.constraint_set.proofs.Pairs.{all_made}
use Rattle.constraint_set.proofs.Eliminating.{over}
use Rattle.projection.specs.Answers.{IsRefused, after}
use Rattle.projection.specs.declared.fault.ReachFault.{ReachFault}
use Rattle.projection.proofs.Chains.{stops, carry}

-- ---- what pairs ask of the parts of wide rows
module _ (k n : ℕ) (rows : List LinearRow) (within : k < n) (wide : AreWide n rows) where
  up_wide : Each (λ r. Raises k r × (length r.coefs ≡ n)) (raising k rows)
  up_wide = part_raising k (λ r. length r.coefs ≡ n) rows wide

  down_wide : Each (λ r. Lowers k r × (length r.coefs ≡ n)) (lowering k rows)
  down_wide = part_lowering k (λ r. length r.coefs ≡ n) rows wide

  pub in_range : Each (λ p. k < length p.coefs) (raising k rows)
  in_range = Each-weaken (λ r. Raises k r × (length r.coefs ≡ n)) (λ p. k < length p.coefs) (λ r h. omega (arith, h.1)) (raising k rows) up_wide

  pub raises : Each (λ p. pos 0 <ℤ coef k p) (raising k rows)
  raises = Each-weaken (λ r. Raises k r × (length r.coefs ≡ n)) (λ p. pos 0 <ℤ coef k p) (λ r h. h.0) (raising k rows) up_wide

  pub low_in_range : Each (λ p. k < length p.coefs) (lowering k rows)
  low_in_range = Each-weaken (λ r. Lowers k r × (length r.coefs ≡ n)) (λ p. k < length p.coefs) (λ r h. omega (arith, h.1)) (lowering k rows) down_wide

  pub lowers : Each (λ p. coef k p <ℤ pos 0) (lowering k rows)
  lowers = Each-weaken (λ r. Lowers k r × (length r.coefs ≡ n)) (λ p. coef k p <ℤ pos 0) (λ r h. h.0) (lowering k rows) down_wide

  pub same_width : Each (λ p. Each (λ r. length p.coefs ≡ length r.coefs) (lowering k rows)) (raising k rows)
  same_width =
      Each-weaken (λ r. Raises k r × (length r.coefs ≡ n)) (λ p. Each (λ r. length p.coefs ≡ length r.coefs) (lowering k rows))
      (λ p h. Each-weaken (λ r. Lowers k r × (length r.coefs ≡ n)) (λ r. length p.coefs ≡ length r.coefs) (λ r g. h.1 ∙ sym g.1) (lowering k rows) down_wide) (raising k rows) up_wide

  -- the rows of the step, before they are tidied
  flat_wide : AreWide n (without k rows)
  flat_wide = Each-weaken (λ r. (coef k r ≡ pos 0) × (length r.coefs ≡ n)) (λ r. length r.coefs ≡ n) (λ r h. h.1) (without k rows) (part_without k (λ r. length r.coefs ≡ n) rows wide)

  pub all_wide : (all : List LinearRow) → after (without k rows) (pairs_of k (raising k rows) (lowering k rows)) ≡ Ok all → AreWide n all
  all_wide all h = by (pairs_of k (raising k rows) (lowering k rows)) refl h
    where
      by : (w : Result (List LinearRow) Refusal) → pairs_of k (raising k rows) (lowering k rows) ≡ w → after (without k rows) w ≡ Ok all → AreWide n all
      by (Err e) f h = absurd (let x : ⊥ = cc in x)
      by (Ok ps) f h =
          let e : without k rows ++ ps ≡ all = cc in
          let m = all_made k n (raising k rows) (lowering k rows) ps up_wide down_wide f in
          subst (AreWide n) e (Each-append (λ r. length r.coefs ≡ n) (without k rows) ps flat_wide m.wide)

-- ---- the exits of a step
pub step_over : (k : ℕ) (rows : List LinearRow) → nat_lt row_limit (row_count k rows) ≡ true → step k rows ≡ Err too_many
unfolding step
step_over k rows h = rw h

pub step_stops : (k : ℕ) (rows : List LinearRow) (e : ReachFault) → nat_lt row_limit (row_count k rows) ≡ false → IsRefused (pairs_of k (raising k rows) (lowering k rows)) e → IsRefused (step k rows) e
unfolding step
step_stops k rows e h r =
    carry _ _ e (ap (λ b. cond b (Err too_many) (pairs_of k (raising k rows) (lowering k rows) >>= (λ ps. Ok (tidied (without k rows ++ ps))))) h)
    (stops (pairs_of k (raising k rows) (lowering k rows)) (λ ps. Ok (tidied (without k rows ++ ps))) e r)

pub step_ends : (k : ℕ) (rows all : List LinearRow) → nat_lt row_limit (row_count k rows) ≡ false → after (without k rows) (pairs_of k (raising k rows) (lowering k rows)) ≡ Ok all → step k rows ≡ Ok (tidied all)
unfolding step
step_ends k rows all h r =
    ap (λ b. cond b (Err too_many) (pairs_of k (raising k rows) (lowering k rows) >>= (λ ps. Ok (tidied (without k rows ++ ps))))) h
    ∙ by (pairs_of k (raising k rows) (lowering k rows)) r
  where
    by : (w : Result (List LinearRow) Refusal) → after (without k rows) w ≡ Ok all → (w >>= (λ ps. Ok (tidied (without k rows ++ ps)))) ≡ Ok (tidied all)
    by (Err e) r = absurd (let x : ⊥ = cc in x)
    by (Ok ps) r = let e : without k rows ++ ps ≡ all = cc in ap (λ rs. Ok (tidied rs)) e

-- ---- several steps
turn : (ks : List ℕ) (i : ℕ) (rows : List LinearRow) → i < length ks → steps (drop i ks) rows ≡ (step (get_or ks i 0) rows >>= (λ out. steps (drop (suc i) ks) out))
unfolding steps step
turn [] i rows h = absurd (omega arith)
turn (k ∷ ks) zero rows h = refl
turn (k ∷ ks) (suc i) rows h = turn ks i rows (omega arith)

-- one more variable
pub goes_on : (ks : List ℕ) (i : ℕ) (rows out : List LinearRow) → i < length ks → step (get_or ks i 0) rows ≡ Ok out → steps (drop i ks) rows ≡ steps (drop (i + 1) ks) out
goes_on ks i rows out h e = rw add-one (turn ks i rows h ∙ ap (λ w. w >>= (λ rs. steps (drop (suc i) ks) rs)) e)

pub stops_at : (ks : List ℕ) (i : ℕ) (rows : List LinearRow) (e : ReachFault) → i < length ks → IsRefused (step (get_or ks i 0) rows) e → IsRefused (steps (drop i ks) rows) e
stops_at ks i rows e h r = carry _ _ e (turn ks i rows h) (stops (step (get_or ks i 0) rows) (λ out. steps (drop (suc i) ks) out) e r)

pub all_done : (ks : List ℕ) (i : ℕ) (rows : List LinearRow) → length ks ≤ i → steps (drop i ks) rows ≡ Ok rows
unfolding steps
all_done [] zero rows h = refl
all_done [] (suc i) rows h = refl
all_done (k ∷ ks) zero rows h = absurd (omega arith)
all_done (k ∷ ks) (suc i) rows h = all_done ks i rows (omega arith)

pub within_at : (n : ℕ) (ks : List ℕ) (i : ℕ) → Each (λ k. k < n) ks → i < length ks → get_or ks i 0 < n
within_at n [] i h l = absurd (omega arith)
within_at n (k ∷ ks) zero h l = h.0
within_at n (k ∷ ks) (suc i) h l = within_at n ks i h.1 (omega arith)

-- the number of rows of a step, from the lengths that the code takes
pub counted : (k : ℕ) (rows us ds fs : List LinearRow) (u d f : ℕ) → us ≡ raising k rows → ds ≡ lowering k rows → fs ≡ without k rows → u ≡ length us → d ≡ length ds → f ≡ length fs → row_count k rows ≡ f + u * d
counted k rows us ds fs u d f eu ed ef lu ld lf =
    let a : length (raising k rows) ≡ u = ap length (sym eu) ∙ sym lu in
    let b : length (lowering k rows) ≡ d = ap length (sym ed) ∙ sym ld in
    let c : length (without k rows) ≡ f = ap length (sym ef) ∙ sym lf in
    ap (λ n. n + length (raising k rows) * length (lowering k rows)) c ∙ ap (λ n. f + n * length (lowering k rows)) a ∙ ap (λ n. f + u * n) b

-- the pairs, from the lists that the code takes
pub same_pairs : (k : ℕ) (rows us ds : List LinearRow) → us ≡ raising k rows → ds ≡ lowering k rows → pairs_of k us ds ≡ pairs_of k (raising k rows) (lowering k rows)
same_pairs k rows us ds eu ed = ap (λ xs. pairs_of k xs ds) eu ∙ ap (pairs_of k (raising k rows)) ed

-- ---- the number of variables
pub eliminated_over : (s : LinearSystem) (ks : List ℕ) → 64 < s.vars → eliminated s ks ≡ Err too_many
unfolding eliminated
eliminated_over s ks h = ap (λ b. cond b (Err too_many) (steps ks (tidied s.rows))) (lt-ltb 64 s.vars h)

pub eliminated_runs : (s : LinearSystem) (ks : List ℕ) (rows : List LinearRow) → s.vars ≤ 64 → rows ≡ tidied s.rows → eliminated s ks ≡ steps ks rows
unfolding eliminated
eliminated_runs s ks rows h e = ap (λ b. cond b (Err too_many) (steps ks (tidied s.rows))) (not_over (nat_lt 64 s.vars) refl) ∙ ap (steps ks) (sym e)
  where
    not_over : (b : Bool) → nat_lt 64 s.vars ≡ b → nat_lt 64 s.vars ≡ false
    not_over true f = absurd (let l = ltb-true 64 s.vars f in let x : ⊥ = omega (arith, l, h) in x)
    not_over false f = f

-- the rows of a table over n variables, as a system
pub as_system : (t : LinearSystem) (n : ℕ) → t.vars ≡ n → over n t.rows ≡ t
as_system t n e = ap (λ m. over m t.rows) (sym e)
