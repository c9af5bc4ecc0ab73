-- The table of rows: an insert adds a row to its list, whose rows stay wide and distinct.
use Rattle.std.proofs.Common.{◌≡◌, ℕ, Bool, true, false, cond, List, [], ◌∷◌, length, Some, ℤ, int_eq, refl, sym, ap, ◌∙◌}
use Rattle.std.specs.Prelude.{Vec}
use Rattle.std.specs.Int.{int_min}
use Rattle.std.specs.Map.{lookup}
use Rattle.std.specs.declared.alloc.Global.{Global}
use Rattle.std.proofs.lemmas.Bool.{false≢true}
use Rattle.std.specs.Cmp.Rules.{signed_items}
use lib.Pointwise.{pointwise}
use Rattle.indexmap.specs.IndexMap.{insert_entry}
use Rattle.constraint_set.specs.Lists.{Each}
use Rattle.constraint_set.specs.Points.{LinearRow, AreWide}
use Rattle.constraint_set.specs.Tidy.{added, same_coefs, AreDistinct}
use Rattle.constraint_set.specs.Table.{row_list, IsLesser}

abbrev pub Key : Type 0
Key = Vec ℤ Global

pub insert_adds : (es : List (Key × ℤ)) (k : Key) (c least : ℤ) → IsLesser (lookup (λ y. pointwise int_eq k.items y.items) es) c least
    → row_list (insert_entry (λ x y. pointwise int_eq x.items y.items) es k least) ≡ added (row_list es) (record { coefs = k.items; constant = c })
insert_adds [] k c least h = ap (λ x. record { coefs = k.items; constant = x } ∷ []) h
insert_adds (e ∷ es) k c least h = by (pointwise int_eq k.items e.0.items) refl h (insert_adds es k c least)
  where
    by : (b : Bool) → pointwise int_eq k.items e.0.items ≡ b → IsLesser (cond b (Some e.1) (lookup (λ y. pointwise int_eq k.items y.items) es)) c least
        → (IsLesser (lookup (λ y. pointwise int_eq k.items y.items) es) c least → row_list (insert_entry (λ x y. pointwise int_eq x.items y.items) es k least) ≡ added (row_list es) (record { coefs = k.items; constant = c }))
        → row_list (cond b ((e.0, least) ∷ es) (e ∷ insert_entry (λ x y. pointwise int_eq x.items y.items) es k least)) ≡ cond b (record { coefs = e.0.items; constant = int_min e.1 c } ∷ row_list es) (record { coefs = e.0.items; constant = e.1 } ∷ added (row_list es) (record { coefs = k.items; constant = c }))
    by true f h rec = ap (λ x. record { coefs = e.0.items; constant = x } ∷ row_list es) h
    by false f h rec = ap (λ rs. record { coefs = e.0.items; constant = e.1 } ∷ rs) (rec h)

-- the rows with one more are as wide
pub added_wide : (n : ℕ) (ss : List LinearRow) (r : LinearRow) → AreWide n ss → length r.coefs ≡ n → AreWide n (added ss r)
added_wide n [] r h e = (e, tt)
added_wide n (s ∷ ss) r h e = by (same_coefs r.coefs s.coefs) (added_wide n ss r h.1 e)
  where
    by : (b : Bool) → AreWide n (added ss r) → AreWide n (cond b (record { coefs = s.coefs; constant = int_min s.constant r.constant } ∷ ss) (s ∷ added ss r))
    by true rec = (h.0, h.1)
    by false rec = (h.0, rec)

-- what holds of the coefficients of the rows and of one more holds of all
pub added_each : (P : List ℤ → Type 0) (ss : List LinearRow) (r : LinearRow) → Each (λ s. P s.coefs) ss → P r.coefs → Each (λ s. P s.coefs) (added ss r)
added_each P [] r h p = (p, tt)
added_each P (s ∷ ss) r h p = by (same_coefs r.coefs s.coefs) (added_each P ss r h.1 p)
  where
    by : (b : Bool) → Each (λ s. P s.coefs) (added ss r) → Each (λ s. P s.coefs) (cond b (record { coefs = s.coefs; constant = int_min s.constant r.constant } ∷ ss) (s ∷ added ss r))
    by true rec = (h.0, h.1)
    by false rec = (h.0, rec)

pub added_distinct : (ss : List LinearRow) (r : LinearRow) → AreDistinct ss → AreDistinct (added ss r)
added_distinct [] r h = (tt, tt)
added_distinct (s ∷ ss) r h = by (same_coefs r.coefs s.coefs) refl (added_distinct ss r h.1)
  where
    by : (b : Bool) → same_coefs r.coefs s.coefs ≡ b → AreDistinct (added ss r) → AreDistinct (cond b (record { coefs = s.coefs; constant = int_min s.constant r.constant } ∷ ss) (s ∷ added ss r))
    by true f rec = (h.0, h.1)
    by false f rec = (added_each (λ xs. ¬ (xs ≡ s.coefs)) ss r h.0 (λ e. false≢true (sym f ∙ (signed_items r.coefs s.coefs).1 e)), rec)

abbrev pub row_of : Key × ℤ → LinearRow
row_of e = record { coefs = e.0.items; constant = e.1 }
