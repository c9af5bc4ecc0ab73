-- The steps of loops over rows.
use Rattle.std.proofs.Common.{◌≡◌, ℕ, zero, suc, ◌+◌, ◌/◌, ◌^◌, ◌<◌, ◌≤◌, Bool, true, false, cond, List, [], ◌∷◌, ◌++◌, drop, Some, ℤ, pos, negsuc, neg_ℤ, unsigned_abs, int_div, FitsSigned, arith, refl, sym, ap, ◌∙◌, add-one, append_assoc}
use Rattle.std.specs.List.{slice_get}
use Rattle.std.specs.Int.{w128}
use Rattle.constraint_set.specs.Points.{LinearRow, coef}
use Rattle.constraint_set.specs.Tidy.{is_idle, divisor, divided, reduced, merged}
use Rattle.projection.specs.Sides.{is_on, on_side}
use Rattle.projection.specs.declared.side.Side.{Side}

-- a row more
pub taken : (kept : List LinearRow) (r : LinearRow) (rest : List LinearRow) → merged kept (reduced (r ∷ rest)) ≡ merged (merged kept (reduced (r ∷ []))) (reduced rest)
taken kept r rest = by (is_idle r)
  where
    by : (b : Bool) → merged kept (cond b (reduced rest) (divided (divisor r) r ∷ reduced rest)) ≡ merged (merged kept (cond b [] (divided (divisor r) r ∷ []))) (reduced rest)
    by true = refl
    by false = refl

-- the rows from a place on begin with the row there
pub from_place : (rows : List LinearRow) (at : ℕ) (r : LinearRow) → slice_get rows at ≡ Some r → drop at rows ≡ r ∷ drop (at + 1) rows
from_place rows at r h = rw add-one (step rows at r h)
  where
    step : (rows : List LinearRow) (at : ℕ) (r : LinearRow) → slice_get rows at ≡ Some r → drop at rows ≡ r ∷ drop (suc at) rows
    step [] at r h = absurd (let x : ⊥ = cc in x)
    step (s ∷ ss) zero r h = let e : s ≡ r = cc in ap (λ y. y ∷ ss) e
    step (s ∷ ss) (suc at) r h = step ss at r h

pub chosen : (side : Side) (k : ℕ) (rows : List LinearRow) (at : ℕ) (r : LinearRow) (out : List LinearRow) → slice_get rows at ≡ Some r
    → out ++ on_side side k (drop at rows) ≡ (out ++ on_side side k (r ∷ [])) ++ on_side side k (drop (at + 1) rows)
chosen side k rows at r out h =
    ap (λ rs. out ++ on_side side k rs) (from_place rows at r h) ∙ ap (λ rs. out ++ rs) (by (is_on side (coef k r))) ∙ sym (append_assoc out (on_side side k (r ∷ [])) (on_side side k (drop (at + 1) rows)))
  where
    by : (b : Bool) → cond b (r ∷ on_side side k (drop (at + 1) rows)) (on_side side k (drop (at + 1) rows)) ≡ cond b (r ∷ []) [] ++ on_side side k (drop (at + 1) rows)
    by true = refl
    by false = refl

-- a quotient by a divisor that is too large for the type
div_small : (n k : ℕ) → n < k → n / k ≡ 0
div_small n k h = grind arith

pub no_quotient : (x : ℤ) (g : ℕ) → FitsSigned w128 x → 2 ^ 127 ≤ g → ¬ (unsigned_abs x ≡ g) → pos 0 ≡ int_div x (pos g)
no_quotient (pos n) g f h ne = ap pos (sym (div_small n g (omega (arith, f.sfits))))
no_quotient (negsuc n) g f h ne = ap (λ m. neg_ℤ (pos m)) (sym (div_small (suc n) g (omega (arith, f.sfits, ne))))
