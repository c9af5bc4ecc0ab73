-- The three loops that a loop is split into for a ring of `n` buffers, two at least. A transfer runs n - 1 turns ahead of the
-- work on its data.
use Rattle.std.specs.Prelude.{ℕ, ◌+◌, ◌-◌, ℤ, pos, ◌+ℤ◌, ◌-ℤ◌, ◌*ℤ◌, List, [], ◌∷◌, ◌++◌, take, drop}
use Rattle.std.specs.Int.{int_max, int_min}
use Rattle.affine_expr.specs.Value.{floor_div}
use Rattle.affine_expr.specs.declared.expr.Expr.{Expr, Const, Dim, FloorDiv, Mul, fold-Expr, roll-Expr}
use Rattle.affine_expr.specs.declared.expr.Expr.TheOpen.{Expr-F}
use Rattle.affine_ast.specs.declared.types.Access.{Access}
use Rattle.affine_ast.specs.declared.types.Bound.{Bound}
use Rattle.affine_ast.specs.declared.types.Bound.TheVariants as bound
use Rattle.loop_forms.specs.declared.parts.Parts.{Parts}
use Rattle.loop_forms.specs.Sums.{difference_of, sum_of}

-- ---- a bound as a map over values, and two such maps side by side

-- a value is the map's one dimension, an integer its result
abbrev pub as_map : Bound → Access
as_map (bound.Int z) = record { map = record { dims = 0; syms = 0; results = Const z ∷ [] }; operands = [] }
as_map (bound.Value v) = record { map = record { dims = 1; syms = 0; results = Dim 0 ∷ [] }; operands = v ∷ [] }
as_map (bound.Map at) = at

-- the result of a map that has one
abbrev pub sole : List Expr → Expr
sole [] = Const (pos 0)
sole (x ∷ xs) = x

abbrev pub leaf_behind : {A : Type 0} → ℕ → ℕ → Expr-F A → Expr-F A
leaf_behind dims syms (Expr-F.Dim k) = Expr-F.Dim (dims + k)
leaf_behind dims syms (Expr-F.Sym k) = Expr-F.Sym (syms + k)
leaf_behind dims syms (Expr-F.Const z) = Expr-F.Const z
leaf_behind dims syms (Expr-F.Neg a) = Expr-F.Neg a
leaf_behind dims syms (Expr-F.Add a b) = Expr-F.Add a b
leaf_behind dims syms (Expr-F.Sub a b) = Expr-F.Sub a b
leaf_behind dims syms (Expr-F.Mul a b) = Expr-F.Mul a b
leaf_behind dims syms (Expr-F.FloorDiv a b) = Expr-F.FloorDiv a b
leaf_behind dims syms (Expr-F.CeilDiv a b) = Expr-F.CeilDiv a b
leaf_behind dims syms (Expr-F.Mod a b) = Expr-F.Mod a b

-- an expression whose dimensions and symbols stand behind so many others
unfoldable pub behind : ℕ → ℕ → Expr → Expr
behind dims syms = fold-Expr Expr (λ x. roll-Expr (leaf_behind dims syms x))

-- the result of the second of two maps, over the values of both
abbrev pub second_of : Access → Access → Expr
second_of l u = behind l.map.dims l.map.syms (sole u.map.results)

-- a map with these results over the values of two maps: dimensions of the first, then of the second, symbols likewise
abbrev pub over_both : Access → Access → List Expr → Access
over_both l u results = record {
  map = record { dims = l.map.dims + u.map.dims; syms = l.map.syms + u.map.syms; results = results };
  operands = (take l.map.dims l.operands ++ take u.map.dims u.operands) ++ (drop l.map.dims l.operands ++ drop u.map.dims u.operands);
}

abbrev pub with_result : Access → Expr → Access
with_result at x = record { map = record { dims = at.map.dims; syms = at.map.syms; results = x ∷ [] }; operands = at.operands }

-- ---- where the three loops begin and end, in numbers

-- how far the transfers run ahead
abbrev pub reach : ℤ → ℕ → ℤ
reach s n = pos (n - 1) *ℤ s

-- from the lower bound to behind the prologue's last turn
abbrev pub prologue_length : ℤ → ℕ → ℤ
prologue_length s n = pos (n - 2) *ℤ s +ℤ pos 1

abbrev pub prologue_end : ℤ → ℤ → ℤ → ℕ → ℤ
prologue_end a b s n = int_min (a +ℤ prologue_length s n) b

abbrev pub main_end : ℤ → ℤ → ℕ → ℤ
main_end b s n = b -ℤ reach s n

abbrev pub epilogue_begin : ℤ → ℤ → ℤ → ℕ → ℤ
epilogue_begin a b s n = int_max a (a +ℤ (floor_div (b -ℤ a -ℤ pos 1) s -ℤ pos (n - 2)) *ℤ s)

-- ---- the same as expressions, and the bounds

-- `l + ((u - l - 1) floordiv s - (n - 2)) * s`
abbrev pub last_turns : Expr → Expr → ℤ → ℕ → Expr
last_turns l u s n =
    sum_of l (Mul (difference_of (FloorDiv (difference_of (difference_of u l) (Const (pos 1))) (Const s)) (Const (pos (n - 2)))) (Const s))

-- two integers give integers
abbrev pub of_numbers : ℤ → ℤ → ℤ → ℕ → Parts
of_numbers a b s n = record {
  prologue = (bound.Int a, bound.Int (prologue_end a b s n));
  main = (bound.Int a, bound.Int (main_end b s n));
  epilogue = (bound.Int (epilogue_begin a b s n), bound.Int b);
}

-- a bound that stays is the loop's own; any other is a map of the results that it names
abbrev pub of_maps : Bound → Bound → Access → Access → ℤ → ℕ → Parts
of_maps lower upper l u s n = record {
  prologue = (lower, bound.Map (over_both l u (sum_of (sole l.map.results) (Const (prologue_length s n)) ∷ second_of l u ∷ [])));
  main = (lower, bound.Map (with_result u (difference_of (sole u.map.results) (Const (reach s n)))));
  epilogue = (bound.Map (over_both l u (sole l.map.results ∷ last_turns (sole l.map.results) (second_of l u) s n ∷ [])), upper);
}

-- a loop from `lower` to `upper` with step s, for n buffers
unfoldable pub split_of : Bound → Bound → ℤ → ℕ → Parts
split_of (bound.Int a) (bound.Int b) s n = of_numbers a b s n
split_of lower upper s n = of_maps lower upper (as_map lower) (as_map upper) s n
