-- Statements without a region.
use Rattle.std.proofs.Common.{◌≡◌, ℕ, ◌+◌, ℤ, true, false, List, refl, sym, ap, ◌∙◌, arith}
use Rattle.std.specs.Prelude.{Option, Some, None}
use Rattle.affine_expr.specs.declared.map.Set.{Set}
use Rattle.int_ops.specs.declared.operation.CastKind.{CastKind}
use Rattle.int_ops.specs.declared.operation.Op.{Op}
use Rattle.affine_ast.specs.declared.name.Name.{Name}
use Rattle.affine_ast.specs.declared.types.Access.{Access}
use Rattle.affine_ast.specs.declared.types.Bound.{Bound}
use Rattle.affine_ast.specs.declared.types.MemrefType.{MemrefType}
use Rattle.affine_ast.specs.declared.types.Pick.{Pick}
use Rattle.affine_ast.specs.declared.types.Scalar.{Scalar}
use Rattle.affine_ast.specs.declared.stmt.Stmt.{Stmt}
use Rattle.affine_ast.specs.declared.stmt.What as what
use Rattle.affine_ast.specs.declared.stmt.What.{What}
use Rattle.affine_ast.specs.declared.stmt.What.TheOpen.{What-F}
use Rattle.affine_ast.specs.Nest.{Nest, Nothing, Does, Puts, put_layer, put_what, put_stmt, nest}
use Rattle.affine_ast.specs.Rules.{deallocs, own_deallocs, is_dealloc_of}
use Rattle.affine_ast.proofs.Nests.{put_what_is, put_plain, put-For, put-If, put-If-else}
use Rattle.affine_ast.specs.Nest.{head_plain, head_is_region, plain_of, is_region}

layer_own : (m : Name) (x : What-F (ℕ → Puts) Puts) (line : ℕ) (rest : Nest) → own_deallocs m (put_layer x line rest) ≡ is_dealloc_of m (head_plain (put_layer x 0 Nothing)) + own_deallocs m rest
unfolding own_deallocs
layer_own m (What-F.For v l u s body) line rest = omega arith
layer_own m (What-F.If set names first other) line rest = omega arith
layer_own m x line rest = refl

-- the deallocs of a region itself, by the first statement
pub own_step : (m : Name) (w : What) (line : ℕ) (rest : Nest) → own_deallocs m (put_what w line rest) ≡ is_dealloc_of m (plain_of w) + own_deallocs m rest
unfolding plain_of
own_step m w line rest =
    let x = what.map-What What Stmt (ℕ → Puts) Puts put_what put_stmt (what.out-What w) in
    ap (own_deallocs m) (put_what_is line rest (what.out-What w) w (what.roll-out-What w)) ∙ layer_own m x line rest
    ∙ ap (λ n. is_dealloc_of m (head_plain n) + own_deallocs m rest) (sym (put_what_is 0 Nothing (what.out-What w) w (what.roll-out-What w)))

pub plain_step : (m : Name) (w : What) (line : ℕ) (rest : Nest) → is_region w ≡ false → deallocs m (put_what w line rest) ≡ is_dealloc_of m (plain_of w) + deallocs m rest
unfolding deallocs
plain_step m w line rest h = ap (deallocs m) (put_plain w line rest h)

pub loop_step : (m : Name) (line : ℕ) (rest : Nest) (v : Name) (l u : Bound) (s : ℤ) (body : List Stmt) → deallocs m (put_what (what.For v l u s body) line rest) ≡ deallocs m (nest body) + deallocs m rest
unfolding deallocs
loop_step m line rest v l u s body = ap (deallocs m) (put-For line rest v l u s body)

pub if_step : (m : Name) (line : ℕ) (rest : Nest) (set : Set) (names : List Name) (first : List Stmt) → deallocs m (put_what (what.If set names first None) line rest) ≡ deallocs m (nest first) + deallocs m rest
unfolding deallocs
if_step m line rest set names first = ap (deallocs m) (put-If line rest set names first) ∙ omega arith

pub else_step : (m : Name) (line : ℕ) (rest : Nest) (set : Set) (names : List Name) (first other : List Stmt)
    → deallocs m (put_what (what.If set names first (Some other)) line rest) ≡ deallocs m (nest first) + (deallocs m (nest other) + deallocs m rest)
unfolding deallocs
else_step m line rest set names first other = ap (deallocs m) (put-If-else line rest set names first other)
