-- Constraints one after another.
use Rattle.std.proofs.Common.{◌≡◌, ℕ, zero, suc, ◌+◌, ◌<◌, ◌&&◌, ℤ, List, [], ◌∷◌, length, drop, get_or, refl, arith, add-one}
use Rattle.affine_expr.specs.declared.map.Constraint.{Constraint}
use Rattle.affine_expr.specs.Value.{value}
use Rattle.affine_expr.specs.Truth.{compares, all_hold}
use Rattle.affine_expr.specs.Bounded.{Evaluable, AllEvaluable}

-- the row at i may be evaluated, and so may those behind it
pub record RowsFrom (ds ss : List ℤ) (rows : List Constraint) (i : ℕ) (row : Constraint) : Type 0 where
  pub left : Evaluable ds ss row.left
  pub right : Evaluable ds ss row.right
  pub rest : AllEvaluable ds ss (drop (i + 1) rows)

drop_by : (ds ss : List ℤ) (rows : List Constraint) (i : ℕ) (d : Constraint) → i < length rows → AllEvaluable ds ss (drop i rows) → Evaluable ds ss (get_or rows i d).left × Evaluable ds ss (get_or rows i d).right × AllEvaluable ds ss (drop (suc i) rows)
drop_by ds ss [] i d h k = absurd (omega arith)
drop_by ds ss (row ∷ rows) zero d h k = k
drop_by ds ss (row ∷ rows) (suc i) d h k = drop_by ds ss rows i d (omega arith) k

pub rows_drop : (ds ss : List ℤ) (rows : List Constraint) (i : ℕ) (d : Constraint) → i < length rows → AllEvaluable ds ss (drop i rows) → RowsFrom ds ss rows i (get_or rows i d)
rows_drop ds ss rows i d h k = let p = drop_by ds ss rows i d h k in record { left = p.0; right = p.1; rest = rw add-one p.2 }

hold_by : (ds ss : List ℤ) (rows : List Constraint) (i : ℕ) (d : Constraint) → i < length rows
    → all_hold ds ss (drop i rows) ≡ (compares (get_or rows i d).rel (value ds ss (get_or rows i d).left) (value ds ss (get_or rows i d).right) && all_hold ds ss (drop (suc i) rows))
hold_by ds ss [] i d h = absurd (omega arith)
hold_by ds ss (row ∷ rows) zero d h = refl
hold_by ds ss (row ∷ rows) (suc i) d h = hold_by ds ss rows i d (omega arith)

pub hold_drop : (ds ss : List ℤ) (rows : List Constraint) (i : ℕ) (d : Constraint) → i < length rows
    → all_hold ds ss (drop i rows) ≡ (compares (get_or rows i d).rel (value ds ss (get_or rows i d).left) (value ds ss (get_or rows i d).right) && all_hold ds ss (drop (i + 1) rows))
hold_drop ds ss rows i d h = rw add-one (hold_by ds ss rows i d h)
