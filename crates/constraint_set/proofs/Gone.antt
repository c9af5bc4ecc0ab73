-- An eliminated variable has the coefficient 0 in each row, and keeps it in later steps.
use Rattle.std.proofs.Common.{◌≡◌, ℕ, zero, suc, ◌/◌, List, [], ◌∷◌, ◌++◌, map, length, Ok, ℤ, pos, ◌+ℤ◌, ◌*ℤ◌, get_or, int_div, refl, sym, ◌∙◌, ap, arith, subst}
use Rattle.std.proofs.Math.ListN.{get_or-map}
use Rattle.num_row.proofs.Ring.{Var, ◌⊕◌, ◌⊗◌, ring}
use Rattle.constraint_set.specs.Lists.{Each}
use Rattle.constraint_set.specs.Points.{LinearRow, coef, AreWide}
use Rattle.constraint_set.specs.Tidy.{tidied}
use Rattle.constraint_set.specs.Elimination.{◌>>=◌, raising, lowering, without, pair_of, pairs_with, pairs_of, step_by, steps_by, steps}
use Rattle.constraint_set.proofs.Steps.{Each-append, Each-weaken, part_raising, part_lowering, part_without, Raises, Lowers, get-mixed}
use Rattle.constraint_set.proofs.Tidying.{tidied_each, tidied_wide, tidied_same}
use Rattle.constraint_set.proofs.Pairs.{ok_of, pair_is, lower_factor, upper_factor, step_made}
use Rattle.constraint_set.proofs.Eliminating.{step_wide}

-- variable j is in no row
abbrev pub Lacks : ℕ → LinearRow → Type 0
Lacks j r = coef j r ≡ pos 0

tidied_lacks : (j : ℕ) (rows : List LinearRow) → Each (Lacks j) rows → Each (Lacks j) (tidied rows)
tidied_lacks j rows h = tidied_each (λ xs. get_or xs j (pos 0) ≡ pos 0) (λ g xs e. zero_quotient g xs ∙ ap (λ x. int_div x (pos g)) e ∙ nothing g) rows h
  where
    nothing : (g : ℕ) → int_div (pos 0) (pos g) ≡ pos 0
    nothing zero = refl
    nothing (suc g) = ap pos (div_zero (suc g))
      where
        div_zero : (n : ℕ) → 0 / n ≡ 0
        div_zero n = omega arith

    zero_quotient : (g : ℕ) (xs : List ℤ) → get_or (map (λ x. int_div x (pos g)) xs) j (pos 0) ≡ int_div (get_or xs j (pos 0)) (pos g)
    zero_quotient g xs = ap (λ d. get_or (map (λ x. int_div x (pos g)) xs) j d) (sym (nothing g)) ∙ get_or-map (λ x. int_div x (pos g)) xs j (pos 0)

-- ---- a pair of rows without j is without it
module _ (k j m : ℕ) where
  abbrev pub Long : LinearRow → Type 0
  Long r = (length r.coefs ≡ m) × Lacks j r

  pair_lacks : (p n row : LinearRow) → Long p → Long n → pair_of k p n ≡ Ok row → Lacks j row
  pair_lacks p n row hp hn h =
      let a = lower_factor k p n in
      let b = upper_factor k p n in
      ap (coef j) (pair_is k p n row h) ∙ get-mixed a p.coefs b n.coefs j (hp.0 ∙ sym hn.0)
      ∙ ap (λ z. a *ℤ z +ℤ b *ℤ coef j n) hp.1 ∙ ap (λ z. a *ℤ pos 0 +ℤ b *ℤ z) hn.1
      ∙ ring (Var a ⊗ Var (pos 0) ⊕ Var b ⊗ Var (pos 0)) (Var (pos 0)) (omega arith)

  with_lacks : (p : LinearRow) (ns out : List LinearRow) → Long p → Each Long ns → pairs_with k p ns ≡ Ok out → Each (Lacks j) out
  with_lacks p [] out hp hn h = subst (Each (Lacks j)) (let e : [] ≡ out = cc in e) tt
  with_lacks p (n ∷ ns) out hp hn h =
      let first = ok_of (pair_of k p n) (λ row. pairs_with k p ns >>= (λ rest. Ok (row ∷ rest))) out h in
      let second = ok_of (pairs_with k p ns) (λ rest. Ok (first.0 ∷ rest)) out first.1.1 in
      let e : first.0 ∷ second.0 ≡ out = cc in
      subst (Each (Lacks j)) e (pair_lacks p n first.0 hp hn.0 first.1.0, with_lacks p ns second.0 hp hn.1 second.1.0)

  pairs_lack : (ps ns out : List LinearRow) → Each Long ps → Each Long ns → pairs_of k ps ns ≡ Ok out → Each (Lacks j) out
  pairs_lack [] ns out hp hn h = subst (Each (Lacks j)) (let e : [] ≡ out = cc in e) tt
  pairs_lack (p ∷ ps) ns out hp hn h =
      let first = ok_of (pairs_with k p ns) (λ first. pairs_of k ps ns >>= (λ rest. Ok (first ++ rest))) out h in
      let second = ok_of (pairs_of k ps ns) (λ rest. Ok (first.0 ++ rest)) out first.1.1 in
      let e : first.0 ++ second.0 ≡ out = cc in
      subst (Each (Lacks j)) e (Each-append (Lacks j) first.0 second.0 (with_lacks p ns first.0 hp.0 hn first.1.0) (pairs_lack ps ns second.0 hp.1 hn second.1.0))

-- ---- a step
module _ (m : ℕ) where
  both : (j : ℕ) (rows : List LinearRow) → AreWide m rows → Each (Lacks j) rows → Each (λ r. (length r.coefs ≡ m) × Lacks j r) rows
  both j [] w h = tt
  both j (r ∷ rs) w h = ((w.0, h.0), both j rs w.1 h.1)

  -- the variable that a step eliminates is gone
  step_gone : (k : ℕ) (rows out : List LinearRow) → AreWide m rows → step_by tidied k rows ≡ Ok out → Each (Lacks k) out
  step_gone k rows out w h =
      let s = step_made m tidied k rows out w h in
      let flat = Each-weaken (λ r. (coef k r ≡ pos 0) × Unit {0}) (Lacks k) (λ r x. x.0) (without k rows) (part_without k (λ r. Unit {0}) rows (anything rows)) in
      subst (Each (Lacks k)) (sym s.tidied) (tidied_lacks k (without k rows ++ s.pairs) (Each-append (Lacks k) (without k rows) s.pairs flat s.made.cancelled))
    where
      anything : (rs : List LinearRow) → Each (λ r. Unit {0}) rs
      anything [] = tt
      anything (r ∷ rs) = (tt, anything rs)

  -- one that was gone stays so
  step_lacks : (k j : ℕ) (rows out : List LinearRow) → AreWide m rows → Each (Lacks j) rows → step_by tidied k rows ≡ Ok out → Each (Lacks j) out
  step_lacks k j rows out w h run =
      let s = step_made m tidied k rows out w run in
      let known = both j rows w h in
      let flat = Each-weaken (λ r. (coef k r ≡ pos 0) × ((length r.coefs ≡ m) × Lacks j r)) (Lacks j) (λ r x. x.1.1) (without k rows) (part_without k (λ r. (length r.coefs ≡ m) × Lacks j r) rows known) in
      let ups = Each-weaken (λ r. Raises k r × ((length r.coefs ≡ m) × Lacks j r)) (λ r. (length r.coefs ≡ m) × Lacks j r) (λ r x. x.1) (raising k rows) (part_raising k (λ r. (length r.coefs ≡ m) × Lacks j r) rows known) in
      let downs = Each-weaken (λ r. Lowers k r × ((length r.coefs ≡ m) × Lacks j r)) (λ r. (length r.coefs ≡ m) × Lacks j r) (λ r x. x.1) (lowering k rows) (part_lowering k (λ r. (length r.coefs ≡ m) × Lacks j r) rows known) in
      subst (Each (Lacks j)) (sym s.tidied) (tidied_lacks j (without k rows ++ s.pairs) (Each-append (Lacks j) (without k rows) s.pairs flat (pairs_lack k j m (raising k rows) (lowering k rows) s.pairs ups downs s.run)))

  steps_lack : (ks : List ℕ) (j : ℕ) (rows out : List LinearRow) → AreWide m rows → Each (Lacks j) rows → steps_by tidied ks rows ≡ Ok out → Each (Lacks j) out
  steps_lack [] j rows out w h run = subst (Each (Lacks j)) (let e : rows ≡ out = cc in e) h
  steps_lack (k ∷ ks) j rows out w h run =
      let first = ok_of (step_by tidied k rows) (steps_by tidied ks) out run in
      steps_lack ks j first.0 out (step_wide m tidied tidied_same (tidied_wide m) k rows first.0 w first.1.0) (step_lacks k j rows first.0 w h first.1.0) first.1.1

  all_gone : (ks : List ℕ) (rows out : List LinearRow) → AreWide m rows → steps_by tidied ks rows ≡ Ok out → Each (λ k. Each (Lacks k) out) ks
  all_gone [] rows out w run = tt
  all_gone (k ∷ ks) rows out w run =
      let first = ok_of (step_by tidied k rows) (steps_by tidied ks) out run in
      let wide = step_wide m tidied tidied_same (tidied_wide m) k rows first.0 w first.1.0 in
      (steps_lack ks k first.0 out wide (step_gone k rows first.0 w first.1.0) first.1.1, all_gone ks first.0 out wide first.1.1)

-- after an elimination none of its variables is left in any row
pub vars_gone : (n : ℕ) (ks : List ℕ) (rows out : List LinearRow) → AreWide n rows → steps ks (tidied rows) ≡ Ok out → Each (λ k. Each (λ r. coef k r ≡ pos 0) out) ks
unfolding steps
vars_gone n ks rows out w h = all_gone n ks (tidied rows) out (tidied_wide n rows w) h
