-- What a statement does to the work and to the ranges.
use Rattle.std.specs.Prelude.{◌≡◌, ℕ, ◌+◌, ◌^◌, ◌≤◌, ℤ, pos}
use Rattle.affine_expr.specs.Spread.{Range, only}
use Rattle.affine_ast.specs.declared.stmt.Stmt.{Stmt}
use Rattle.affine_ast.specs.declared.types.Scalar.{Scalar}
use Rattle.affine_ast.specs.declared.types.Scalar.TheVariants.{Int, Index}
use Rattle.affine_ast.specs.Intervals.{Ranges}
use Rattle.affine_ast.specs.Nest.{Plain, Nest, put_what}
use Rattle.direct_meaning.specs.Work.{plain_work, ranges_after, full_work}
use Rattle.module_work.specs.Saturated.{saturated}
use Rattle.module_work.specs.Workable.{Workable}

-- a constant of type index has its number, every other one no range
abbrev pub range_of_constant : ℤ → Scalar → Range
range_of_constant z (Int element) = only (pos 0)
range_of_constant z Index = only z

-- a plain statement's work, and the ranges behind it
pub record Does (work : ℕ) (p : Plain) (old new : Ranges) : Type 0 where
  pub work_is : work ≡ plain_work p old
  pub ranges_are : new ≡ ranges_after p old

-- from one total to the next: whatever follows a statement, the total with the work of both is the next one with that of the rest
-- under the ranges behind the statement
pub record Steps (total next : ℕ) (stmt : Stmt) (old new : Ranges) : Type 0 where
  pub counted : (rest : Nest) → saturated (total + full_work (put_what stmt.what stmt.line rest) old) ≡ saturated (next + full_work rest new)
  pub small : next ≤ 2 ^ 127
  pub passes : (rest : Nest) → Workable (put_what stmt.what stmt.line rest) old → Workable rest new
