-- Each module of a sample is valid: every argument and statement passes by computing, for each of the six sizes.
use Rattle.std.proofs.Common.{◌≡◌, true, ℕ, zero, suc, ◌+◌, ◌*◌, ◌%◌, ◌<◌, ℤ, pos, List, [], ◌∷◌, refl, sym, ap, ◌∙◌, arith}
use Rattle.std.specs.Prelude.{Some, None, codes, ◌+ℤ◌, ◌&&◌, max, nat_le, slice_index_or}
use Rattle.affine_expr.specs.declared.expr.Expr.{Expr, Dim, Const, Add, fold-Expr, fold-roll-Expr}
use Rattle.affine_expr.specs.declared.expr.Expr.TheOpen.{Expr-F}
use Rattle.affine_expr.specs.declared.expr.Expr.TheVariants.{rolls-Dim, rolls-Const, rolls-Add}
use Rattle.affine_expr.specs.Bounded.{bounded, interval_of, limited}
use Rattle.affine_expr.specs.Pure.{is_pure, Purity, purity_step, has_leaves_below, has_small_numbers, fixed_value}
use Rattle.affine_expr.specs.Spread.{Range, Spread, only, spread, spread_step, range_of}
use Rattle.int_ops.specs.declared.operation.Op.TheVariants as op
use Rattle.affine_ast.specs.declared.module.ArgKind.TheVariants.{Memref}
use Rattle.affine_ast.specs.declared.name.Name.{Name}
use Rattle.affine_ast.specs.declared.types.Bound.{Bound}
use Rattle.affine_ast.specs.declared.types.Bound.TheVariants.{Int}
use Rattle.affine_ast.specs.declared.types.Element.TheVariants.{I32}
use Rattle.affine_ast.specs.declared.types.Scalar.TheVariants as scalar
use Rattle.affine_ast.specs.Names.{same_name, put}
use Rattle.affine_ast.specs.Intervals.{Ranges, first_turn, last_end, turn_range}
use Rattle.affine_ast.specs.Nest.{Plain, Nest, Nothing, Loop, Does, Load, Store, Binary, Return, nest}
use Rattle.affine_ast.proofs.Nests.{nests}
use Rattle.affine_ast.specs.PlainLimits.{Depths, operands_step, depths_step, operand_count, depths, is_short, access_short, plain_told, plain_fault, line_of_fault}
use Rattle.affine_ast.specs.Scope.{Variable, Totals, Around, counted, in_loop, with_totals, behind_plain, ranges_in}
use Rattle.affine_ast.specs.Rules.{is_in, are_in, is_dimension, is_symbol, is_value, are_values, operands_stand, same_type, is_memref_of, is_of, are_indexes, in_signed_range, map_fits, subscripts_fit, access_pure, is_small_dimension, access_bounded, deallocs, own_deallocs, is_released_once, is_allocated, constant_of, sizes_positive, shape_within, has_interval}
use Rattle.affine_ast.specs.Validity.{Passed, judged, then_told, broken_of, outside, behind_argument, IsValid, rule_of_plain, rule_of_loop, told, rule_of_argument, told_arguments, told_module, first_broken}
use Rattle.case_gen.specs.Sample.{size_of, named, matrix, at, bound_by, tile_end, argument, product}

-- ---- Expressions compute

fold_dim : (A : Type 0) (step : Expr-F A → A) (k : ℕ) → fold-Expr A step (Dim k) ≡ step (Expr-F.Dim k)
fold_dim A step k = ap (fold-Expr A step) (sym (rolls-Dim k)) ∙ fold-roll-Expr A step (Expr-F.Dim k)

fold_const : (A : Type 0) (step : Expr-F A → A) (z : ℤ) → fold-Expr A step (Const z) ≡ step (Expr-F.Const z)
fold_const A step z = ap (fold-Expr A step) (sym (rolls-Const z)) ∙ fold-roll-Expr A step (Expr-F.Const z)

fold_add : (A : Type 0) (step : Expr-F A → A) (a b : Expr) → fold-Expr A step (Add a b) ≡ step (Expr-F.Add (fold-Expr A step a) (fold-Expr A step b))
fold_add A step a b = ap (fold-Expr A step) (sym (rolls-Add a b)) ∙ fold-roll-Expr A step (Expr-F.Add a b)

ruleset folds = (fold_dim, fold_const, fold_add)

pure_dim : (k : ℕ) → is_pure (Dim k) ≡ true
unfolding is_pure
pure_dim k = ap (λ p. p.pure) (fold_dim Purity purity_step k)

pure_end : is_pure tile_end ≡ true
unfolding is_pure
pure_end = ap (λ p. p.pure) (fold_add Purity purity_step (Dim 0) (Const (pos 8)) ∙ (λ i. purity_step (Expr-F.Add (fold_dim Purity purity_step 0 i) (fold_const Purity purity_step (pos 8) i))))

ruleset pures = (pure_dim, pure_end)

short_dim : (k : ℕ) → is_short (Dim k) ≡ true
unfolding is_short operand_count depths
short_dim k = (λ i. nat_le (fold_dim ℕ operands_step k i) 64 && nat_le (fold_dim Depths depths_step k i).sum 32)

short_end : is_short tile_end ≡ true
unfolding is_short operand_count depths
short_end =
    let count : operand_count tile_end ≡ 2 = fold_add ℕ operands_step (Dim 0) (Const (pos 8)) ∙ (λ i. fold_dim ℕ operands_step 0 i + fold_const ℕ operands_step (pos 8) i) in
    let deep : (depths tile_end).sum ≡ 0 = ap (λ d. d.sum) (fold_add Depths depths_step (Dim 0) (Const (pos 8))) ∙ (λ i. max (fold_dim Depths depths_step 0 i).sum (fold_const Depths depths_step (pos 8) i).product) in
    (λ i. nat_le (count i) 64 && nat_le (deep i) 32)

ruleset shorts = (short_dim, short_end)

-- ---- The first and the last turn of a tile

dim_range : (ds ss : List Range) (k : ℕ) → range_of ds ss (Dim k) ≡ slice_index_or ds k (only (pos 0))
unfolding spread
dim_range ds ss k = ap (λ s. s.range) (fold_dim Spread (spread_step ds ss) k)

end_greatest : (ds ss : List Range) → (range_of ds ss tile_end).greatest ≡ (slice_index_or ds 0 (only (pos 0))).greatest +ℤ pos 8
unfolding spread
end_greatest ds ss =
    ap (λ s. s.range.greatest) (fold_add Spread (spread_step ds ss) (Dim 0) (Const (pos 8)))
    ∙ (λ i. (fold_dim Spread (spread_step ds ss) 0 i).range.greatest +ℤ (fold_const Spread (spread_step ds ss) (pos 8) i).range.greatest)

turn_first : (rho : Ranges) (tile : List ℕ) → first_turn rho (bound_by (Dim 0) tile) ≡ (rho (named tile)).least
unfolding first_turn
turn_first rho tile = ap (λ r. r.least) (dim_range (rho (named tile) ∷ []) [] 0)

turn_last : (rho : Ranges) (tile : List ℕ) → last_end rho (bound_by tile_end tile) ≡ (rho (named tile)).greatest +ℤ pos 8
unfolding last_end
turn_last rho tile = end_greatest (rho (named tile) ∷ []) []

-- what stands round the statements in a loop over the turns of a tile, with these turns as numbers
abbrev entered : List ℕ → List ℕ → Around → Around
entered turn tile a = record a {
  scope = put a.scope (named turn) (Some (Variable (turn_range (ranges_in a.scope (named tile)).least ((ranges_in a.scope (named tile)).greatest +ℤ pos 8))));
  loops = suc a.loops;
}

enters : (turn tile : List ℕ) (a : Around) → in_loop (named turn) (bound_by (Dim 0) tile) (bound_by tile_end tile) a ≡ entered turn tile a
enters turn tile a = (λ i. record a { scope = put a.scope (named turn) (Some (Variable (turn_range (turn_first (ranges_in a.scope) tile i) (turn_last (ranges_in a.scope) tile i)))); loops = suc a.loops })

-- ---- Six sizes

by_size : (P : ℕ → Type 0) → P 24 → P 32 → P 40 → P 48 → P 56 → P 64 → (number : ℕ) → P (size_of number)
by_size P a b c d e f number = go (number % 6) (omega arith)
  where
    go : (r : ℕ) → r < 6 → P (24 + 8 * r)
    go zero l = a
    go (suc zero) l = b
    go (suc (suc zero)) l = c
    go (suc (suc (suc zero))) l = d
    go (suc (suc (suc (suc zero)))) l = e
    go (suc (suc (suc (suc (suc zero))))) l = f
    go (suc (suc (suc (suc (suc (suc r)))))) l = absurd (omega (arith, l))

-- ---- The statements, from the last on, and what stands round each

passes : (line : ℕ) (p : Plain) (rest : Nest) (a : Around) (t : Totals) → rule_of_plain (counted a) p rest ≡ None → told rest (behind_plain p (counted a)) ≡ Passed t → told (Does line p rest) a ≡ Passed t
unfolding told
passes line p rest a t r q = ap (λ o. judged line o (told rest (behind_plain p (counted a)))) r ∙ q

loop_passes : (line : ℕ) (v : Name) (l u : Bound) (s : ℤ) (body rest : Nest) (a : Around) (t w : Totals) → rule_of_loop (counted a) v l u s ≡ None → told body (in_loop v l u (counted a)) ≡ Passed t → told rest (with_totals t a) ≡ Passed w → told (Loop line v l u s body rest) a ≡ Passed w
unfolding told
loop_passes line v l u s body rest a t w r q k = ap (λ o. judged line o (then_told (told body (in_loop v l u (counted a))) (λ t. told rest (with_totals t a)))) r ∙ ap (λ x. then_told x (λ t. told rest (with_totals t a))) q ∙ k

tile_passes : (line : ℕ) (turn tile : List ℕ) (body rest : Nest) (a : Around) (t w : Totals) → rule_of_loop (counted a) (named turn) (bound_by (Dim 0) tile) (bound_by tile_end tile) (pos 1) ≡ None
    → told body (entered turn tile (counted a)) ≡ Passed t → told rest (with_totals t a) ≡ Passed w → told (Loop line (named turn) (bound_by (Dim 0) tile) (bound_by tile_end tile) (pos 1) body rest) a ≡ Passed w
tile_passes line turn tile body rest a t w r q k = loop_passes line (named turn) (bound_by (Dim 0) tile) (bound_by tile_end tile) (pos 1) body rest a t w r (ap (told body) (enters turn tile (counted a)) ∙ q) k

module _ (n : ℕ) where
  abbrev does0 : Plain
  does0 = Load (named (codes "a")) (named (codes "A")) (at (codes "i") (codes "k")) (matrix n)

  abbrev does1 : Plain
  does1 = Load (named (codes "b")) (named (codes "B")) (at (codes "k") (codes "j")) (matrix n)

  abbrev does2 : Plain
  does2 = Load (named (codes "c")) (named (codes "C")) (at (codes "i") (codes "j")) (matrix n)

  abbrev does3 : Plain
  does3 = Binary (named (codes "p")) op.Mul (named (codes "a")) (named (codes "b")) (scalar.Int I32)

  abbrev does4 : Plain
  does4 = Binary (named (codes "s")) op.Add (named (codes "c")) (named (codes "p")) (scalar.Int I32)

  abbrev does5 : Plain
  does5 = Store (named (codes "s")) (named (codes "C")) (at (codes "i") (codes "j")) (matrix n)

  abbrev rest6 : Nest
  rest6 = Nothing

  abbrev rest5 : Nest
  rest5 = Does 15 does5 rest6

  abbrev rest4 : Nest
  rest4 = Does 14 does4 rest5

  abbrev rest3 : Nest
  rest3 = Does 13 does3 rest4

  abbrev rest2 : Nest
  rest2 = Does 12 does2 rest3

  abbrev rest1 : Nest
  rest1 = Does 11 does1 rest2

  abbrev rest0 : Nest
  rest0 = Does 10 does0 rest1

  abbrev nest5 : Nest
  nest5 = Loop 9 (named (codes "k")) (bound_by (Dim 0) (codes "kt")) (bound_by tile_end (codes "kt")) (pos 1) rest0 Nothing

  abbrev nest4 : Nest
  nest4 = Loop 8 (named (codes "j")) (bound_by (Dim 0) (codes "jt")) (bound_by tile_end (codes "jt")) (pos 1) nest5 Nothing

  abbrev nest3 : Nest
  nest3 = Loop 7 (named (codes "i")) (bound_by (Dim 0) (codes "it")) (bound_by tile_end (codes "it")) (pos 1) nest4 Nothing

  abbrev nest2 : Nest
  nest2 = Loop 6 (named (codes "kt")) (Int (pos 0)) (Int (pos n)) (pos 8) nest3 Nothing

  abbrev nest1 : Nest
  nest1 = Loop 5 (named (codes "jt")) (Int (pos 0)) (Int (pos n)) (pos 8) nest2 Nothing

  abbrev nest0 : Nest
  nest0 = Loop 4 (named (codes "it")) (Int (pos 0)) (Int (pos n)) (pos 8) nest1 (Does 22 Return Nothing)

  abbrev argued0 : Around
  argued0 = outside

  abbrev argued1 : Around
  argued1 = behind_argument (named (codes "A")) (Memref (matrix n)) argued0

  abbrev argued2 : Around
  argued2 = behind_argument (named (codes "B")) (Memref (matrix n)) argued1

  abbrev argued3 : Around
  argued3 = behind_argument (named (codes "C")) (Memref (matrix n)) argued2

  abbrev round0 : Around
  round0 = argued3

  abbrev round1 : Around
  round1 = in_loop (named (codes "it")) (Int (pos 0)) (Int (pos n)) (counted round0)

  abbrev round2 : Around
  round2 = in_loop (named (codes "jt")) (Int (pos 0)) (Int (pos n)) (counted round1)

  abbrev round3 : Around
  round3 = in_loop (named (codes "kt")) (Int (pos 0)) (Int (pos n)) (counted round2)

  abbrev round4 : Around
  round4 = entered (codes "i") (codes "it") (counted round3)

  abbrev round5 : Around
  round5 = entered (codes "j") (codes "jt") (counted round4)

  abbrev round6 : Around
  round6 = entered (codes "k") (codes "kt") (counted round5)

  abbrev before0 : Around
  before0 = round6

  abbrev before1 : Around
  before1 = behind_plain does0 (counted before0)

  abbrev before2 : Around
  before2 = behind_plain does1 (counted before1)

  abbrev before3 : Around
  before3 = behind_plain does2 (counted before2)

  abbrev before4 : Around
  before4 = behind_plain does3 (counted before3)

  abbrev before5 : Around
  before5 = behind_plain does4 (counted before4)

  abbrev before6 : Around
  before6 = behind_plain does5 (counted before5)

  abbrev behind : Around
  behind = with_totals before6.totals argued3

-- ---- Each passes

argument_passes0 : (number : ℕ) → rule_of_argument (argued0 (size_of number)) (named (codes "A")) (Memref (matrix (size_of number))) ≡ None
unfolding rule_of_plain rule_of_loop is_in are_in is_dimension is_symbol is_value are_values operands_stand same_type is_memref_of is_of are_indexes in_signed_range map_fits subscripts_fit access_pure is_small_dimension access_bounded deallocs own_deallocs is_released_once is_allocated constant_of sizes_positive shape_within ranges_in same_name put first_turn last_end has_leaves_below has_small_numbers fixed_value bounded interval_of limited spread has_interval rule_of_argument
argument_passes0 = by_size (λ n. rule_of_argument (argued0 n) (named (codes "A")) (Memref (matrix n)) ≡ None) refl refl refl refl refl refl

argument_passes1 : (number : ℕ) → rule_of_argument (argued1 (size_of number)) (named (codes "B")) (Memref (matrix (size_of number))) ≡ None
unfolding rule_of_plain rule_of_loop is_in are_in is_dimension is_symbol is_value are_values operands_stand same_type is_memref_of is_of are_indexes in_signed_range map_fits subscripts_fit access_pure is_small_dimension access_bounded deallocs own_deallocs is_released_once is_allocated constant_of sizes_positive shape_within ranges_in same_name put first_turn last_end has_leaves_below has_small_numbers fixed_value bounded interval_of limited spread has_interval rule_of_argument
argument_passes1 = by_size (λ n. rule_of_argument (argued1 n) (named (codes "B")) (Memref (matrix n)) ≡ None) refl refl refl refl refl refl

argument_passes2 : (number : ℕ) → rule_of_argument (argued2 (size_of number)) (named (codes "C")) (Memref (matrix (size_of number))) ≡ None
unfolding rule_of_plain rule_of_loop is_in are_in is_dimension is_symbol is_value are_values operands_stand same_type is_memref_of is_of are_indexes in_signed_range map_fits subscripts_fit access_pure is_small_dimension access_bounded deallocs own_deallocs is_released_once is_allocated constant_of sizes_positive shape_within ranges_in same_name put first_turn last_end has_leaves_below has_small_numbers fixed_value bounded interval_of limited spread has_interval rule_of_argument
argument_passes2 = by_size (λ n. rule_of_argument (argued2 n) (named (codes "C")) (Memref (matrix n)) ≡ None) refl refl refl refl refl refl

abbrev LoopHolds0 : ℕ → Type 0
LoopHolds0 n = rule_of_loop (counted (round0 n)) (named (codes "it")) (Int (pos 0)) (Int (pos n)) (pos 8) ≡ None

loop_holds0 : (number : ℕ) → LoopHolds0 (size_of number)
unfolding rule_of_plain rule_of_loop is_in are_in is_dimension is_symbol is_value are_values operands_stand same_type is_memref_of is_of are_indexes in_signed_range map_fits subscripts_fit access_pure is_small_dimension access_bounded deallocs own_deallocs is_released_once is_allocated constant_of sizes_positive shape_within ranges_in same_name put first_turn last_end has_leaves_below has_small_numbers fixed_value bounded interval_of limited spread has_interval rule_of_argument
loop_holds0 = by_size LoopHolds0 refl refl refl refl refl refl

abbrev LoopHolds1 : ℕ → Type 0
LoopHolds1 n = rule_of_loop (counted (round1 n)) (named (codes "jt")) (Int (pos 0)) (Int (pos n)) (pos 8) ≡ None

loop_holds1 : (number : ℕ) → LoopHolds1 (size_of number)
unfolding rule_of_plain rule_of_loop is_in are_in is_dimension is_symbol is_value are_values operands_stand same_type is_memref_of is_of are_indexes in_signed_range map_fits subscripts_fit access_pure is_small_dimension access_bounded deallocs own_deallocs is_released_once is_allocated constant_of sizes_positive shape_within ranges_in same_name put first_turn last_end has_leaves_below has_small_numbers fixed_value bounded interval_of limited spread has_interval rule_of_argument
loop_holds1 = by_size LoopHolds1 refl refl refl refl refl refl

abbrev LoopHolds2 : ℕ → Type 0
LoopHolds2 n = rule_of_loop (counted (round2 n)) (named (codes "kt")) (Int (pos 0)) (Int (pos n)) (pos 8) ≡ None

loop_holds2 : (number : ℕ) → LoopHolds2 (size_of number)
unfolding rule_of_plain rule_of_loop is_in are_in is_dimension is_symbol is_value are_values operands_stand same_type is_memref_of is_of are_indexes in_signed_range map_fits subscripts_fit access_pure is_small_dimension access_bounded deallocs own_deallocs is_released_once is_allocated constant_of sizes_positive shape_within ranges_in same_name put first_turn last_end has_leaves_below has_small_numbers fixed_value bounded interval_of limited spread has_interval rule_of_argument
loop_holds2 = by_size LoopHolds2 refl refl refl refl refl refl

abbrev LoopHolds3 : ℕ → Type 0
LoopHolds3 n = rule_of_loop (counted (round3 n)) (named (codes "i")) (bound_by (Dim 0) (codes "it")) (bound_by tile_end (codes "it")) (pos 1) ≡ None

loop_holds3 : (number : ℕ) → LoopHolds3 (size_of number)
unfolding rule_of_plain rule_of_loop is_in are_in is_dimension is_symbol is_value are_values operands_stand same_type is_memref_of is_of are_indexes in_signed_range map_fits subscripts_fit access_pure is_small_dimension access_bounded deallocs own_deallocs is_released_once is_allocated constant_of sizes_positive shape_within ranges_in same_name put first_turn last_end has_leaves_below has_small_numbers fixed_value bounded interval_of limited spread has_interval rule_of_argument
loop_holds3 = by_size LoopHolds3 (simp folds (simp pures refl)) (simp folds (simp pures refl)) (simp folds (simp pures refl)) (simp folds (simp pures refl)) (simp folds (simp pures refl)) (simp folds (simp pures refl))

abbrev LoopHolds4 : ℕ → Type 0
LoopHolds4 n = rule_of_loop (counted (round4 n)) (named (codes "j")) (bound_by (Dim 0) (codes "jt")) (bound_by tile_end (codes "jt")) (pos 1) ≡ None

loop_holds4 : (number : ℕ) → LoopHolds4 (size_of number)
unfolding rule_of_plain rule_of_loop is_in are_in is_dimension is_symbol is_value are_values operands_stand same_type is_memref_of is_of are_indexes in_signed_range map_fits subscripts_fit access_pure is_small_dimension access_bounded deallocs own_deallocs is_released_once is_allocated constant_of sizes_positive shape_within ranges_in same_name put first_turn last_end has_leaves_below has_small_numbers fixed_value bounded interval_of limited spread has_interval rule_of_argument
loop_holds4 = by_size LoopHolds4 (simp folds (simp pures refl)) (simp folds (simp pures refl)) (simp folds (simp pures refl)) (simp folds (simp pures refl)) (simp folds (simp pures refl)) (simp folds (simp pures refl))

abbrev LoopHolds5 : ℕ → Type 0
LoopHolds5 n = rule_of_loop (counted (round5 n)) (named (codes "k")) (bound_by (Dim 0) (codes "kt")) (bound_by tile_end (codes "kt")) (pos 1) ≡ None

loop_holds5 : (number : ℕ) → LoopHolds5 (size_of number)
unfolding rule_of_plain rule_of_loop is_in are_in is_dimension is_symbol is_value are_values operands_stand same_type is_memref_of is_of are_indexes in_signed_range map_fits subscripts_fit access_pure is_small_dimension access_bounded deallocs own_deallocs is_released_once is_allocated constant_of sizes_positive shape_within ranges_in same_name put first_turn last_end has_leaves_below has_small_numbers fixed_value bounded interval_of limited spread has_interval rule_of_argument
loop_holds5 = by_size LoopHolds5 (simp folds (simp pures refl)) (simp folds (simp pures refl)) (simp folds (simp pures refl)) (simp folds (simp pures refl)) (simp folds (simp pures refl)) (simp folds (simp pures refl))

abbrev PlainHolds0 : ℕ → Type 0
PlainHolds0 n = rule_of_plain (counted (before0 n)) (does0 n) (rest1 n) ≡ None

plain_holds0 : (number : ℕ) → PlainHolds0 (size_of number)
unfolding rule_of_plain rule_of_loop is_in are_in is_dimension is_symbol is_value are_values operands_stand same_type is_memref_of is_of are_indexes in_signed_range map_fits subscripts_fit access_pure is_small_dimension access_bounded deallocs own_deallocs is_released_once is_allocated constant_of sizes_positive shape_within ranges_in same_name put first_turn last_end has_leaves_below has_small_numbers fixed_value bounded interval_of limited spread has_interval rule_of_argument
plain_holds0 = by_size PlainHolds0 (simp folds (simp pures refl)) (simp folds (simp pures refl)) (simp folds (simp pures refl)) (simp folds (simp pures refl)) (simp folds (simp pures refl)) (simp folds (simp pures refl))

abbrev PlainHolds1 : ℕ → Type 0
PlainHolds1 n = rule_of_plain (counted (before1 n)) (does1 n) (rest2 n) ≡ None

plain_holds1 : (number : ℕ) → PlainHolds1 (size_of number)
unfolding rule_of_plain rule_of_loop is_in are_in is_dimension is_symbol is_value are_values operands_stand same_type is_memref_of is_of are_indexes in_signed_range map_fits subscripts_fit access_pure is_small_dimension access_bounded deallocs own_deallocs is_released_once is_allocated constant_of sizes_positive shape_within ranges_in same_name put first_turn last_end has_leaves_below has_small_numbers fixed_value bounded interval_of limited spread has_interval rule_of_argument
plain_holds1 = by_size PlainHolds1 (simp folds (simp pures refl)) (simp folds (simp pures refl)) (simp folds (simp pures refl)) (simp folds (simp pures refl)) (simp folds (simp pures refl)) (simp folds (simp pures refl))

abbrev PlainHolds2 : ℕ → Type 0
PlainHolds2 n = rule_of_plain (counted (before2 n)) (does2 n) (rest3 n) ≡ None

plain_holds2 : (number : ℕ) → PlainHolds2 (size_of number)
unfolding rule_of_plain rule_of_loop is_in are_in is_dimension is_symbol is_value are_values operands_stand same_type is_memref_of is_of are_indexes in_signed_range map_fits subscripts_fit access_pure is_small_dimension access_bounded deallocs own_deallocs is_released_once is_allocated constant_of sizes_positive shape_within ranges_in same_name put first_turn last_end has_leaves_below has_small_numbers fixed_value bounded interval_of limited spread has_interval rule_of_argument
plain_holds2 = by_size PlainHolds2 (simp folds (simp pures refl)) (simp folds (simp pures refl)) (simp folds (simp pures refl)) (simp folds (simp pures refl)) (simp folds (simp pures refl)) (simp folds (simp pures refl))

abbrev PlainHolds3 : ℕ → Type 0
PlainHolds3 n = rule_of_plain (counted (before3 n)) (does3 n) (rest4 n) ≡ None

plain_holds3 : (number : ℕ) → PlainHolds3 (size_of number)
unfolding rule_of_plain rule_of_loop is_in are_in is_dimension is_symbol is_value are_values operands_stand same_type is_memref_of is_of are_indexes in_signed_range map_fits subscripts_fit access_pure is_small_dimension access_bounded deallocs own_deallocs is_released_once is_allocated constant_of sizes_positive shape_within ranges_in same_name put first_turn last_end has_leaves_below has_small_numbers fixed_value bounded interval_of limited spread has_interval rule_of_argument
plain_holds3 = by_size PlainHolds3 refl refl refl refl refl refl

abbrev PlainHolds4 : ℕ → Type 0
PlainHolds4 n = rule_of_plain (counted (before4 n)) (does4 n) (rest5 n) ≡ None

plain_holds4 : (number : ℕ) → PlainHolds4 (size_of number)
unfolding rule_of_plain rule_of_loop is_in are_in is_dimension is_symbol is_value are_values operands_stand same_type is_memref_of is_of are_indexes in_signed_range map_fits subscripts_fit access_pure is_small_dimension access_bounded deallocs own_deallocs is_released_once is_allocated constant_of sizes_positive shape_within ranges_in same_name put first_turn last_end has_leaves_below has_small_numbers fixed_value bounded interval_of limited spread has_interval rule_of_argument
plain_holds4 = by_size PlainHolds4 refl refl refl refl refl refl

abbrev PlainHolds5 : ℕ → Type 0
PlainHolds5 n = rule_of_plain (counted (before5 n)) (does5 n) (rest6 n) ≡ None

plain_holds5 : (number : ℕ) → PlainHolds5 (size_of number)
unfolding rule_of_plain rule_of_loop is_in are_in is_dimension is_symbol is_value are_values operands_stand same_type is_memref_of is_of are_indexes in_signed_range map_fits subscripts_fit access_pure is_small_dimension access_bounded deallocs own_deallocs is_released_once is_allocated constant_of sizes_positive shape_within ranges_in same_name put first_turn last_end has_leaves_below has_small_numbers fixed_value bounded interval_of limited spread has_interval rule_of_argument
plain_holds5 = by_size PlainHolds5 (simp folds (simp pures refl)) (simp folds (simp pures refl)) (simp folds (simp pures refl)) (simp folds (simp pures refl)) (simp folds (simp pures refl)) (simp folds (simp pures refl))

abbrev ReturnHolds : ℕ → Type 0
ReturnHolds n = rule_of_plain (counted (behind n)) Return Nothing ≡ None

return_holds : (number : ℕ) → ReturnHolds (size_of number)
unfolding rule_of_plain rule_of_loop is_in are_in is_dimension is_symbol is_value are_values operands_stand same_type is_memref_of is_of are_indexes in_signed_range map_fits subscripts_fit access_pure is_small_dimension access_bounded deallocs own_deallocs is_released_once is_allocated constant_of sizes_positive shape_within ranges_in same_name put first_turn last_end has_leaves_below has_small_numbers fixed_value bounded interval_of limited spread has_interval rule_of_argument
return_holds = by_size ReturnHolds refl refl refl refl refl refl

-- ---- And so all do

abbrev end_totals : ℕ → Totals
end_totals n = (before6 n).totals

term_passes : (number : ℕ) → told (rest0 (size_of number)) (before0 (size_of number)) ≡ Passed (end_totals (size_of number))
unfolding told
term_passes number =
    let n = size_of number in
    let t = end_totals (size_of number) in
    passes 10 (does0 n) (rest1 n) (before0 n) t (plain_holds0 number) (
    passes 11 (does1 n) (rest2 n) (before1 n) t (plain_holds1 number) (
    passes 12 (does2 n) (rest3 n) (before2 n) t (plain_holds2 number) (
    passes 13 (does3 n) (rest4 n) (before3 n) t (plain_holds3 number) (
    passes 14 (does4 n) (rest5 n) (before4 n) t (plain_holds4 number) (
    passes 15 (does5 n) (rest6 n) (before5 n) t (plain_holds5 number) (
    refl))))))

nest5_passes : (number : ℕ) → told (nest5 (size_of number)) (round5 (size_of number)) ≡ Passed (end_totals (size_of number))
unfolding told
nest5_passes number =
    let n = size_of number in
    let t = end_totals (size_of number) in
    tile_passes 9 (codes "k") (codes "kt") (rest0 n) Nothing (round5 n) t t (loop_holds5 number) (term_passes number) refl

nest4_passes : (number : ℕ) → told (nest4 (size_of number)) (round4 (size_of number)) ≡ Passed (end_totals (size_of number))
unfolding told
nest4_passes number =
    let n = size_of number in
    let t = end_totals (size_of number) in
    tile_passes 8 (codes "j") (codes "jt") (nest5 n) Nothing (round4 n) t t (loop_holds4 number) (nest5_passes number) refl

nest3_passes : (number : ℕ) → told (nest3 (size_of number)) (round3 (size_of number)) ≡ Passed (end_totals (size_of number))
unfolding told
nest3_passes number =
    let n = size_of number in
    let t = end_totals (size_of number) in
    tile_passes 7 (codes "i") (codes "it") (nest4 n) Nothing (round3 n) t t (loop_holds3 number) (nest4_passes number) refl

nest2_passes : (number : ℕ) → told (nest2 (size_of number)) (round2 (size_of number)) ≡ Passed (end_totals (size_of number))
unfolding told
nest2_passes number =
    let n = size_of number in
    let t = end_totals (size_of number) in
    loop_passes 6 (named (codes "kt")) (Int (pos 0)) (Int (pos n)) (pos 8) (nest3 n) Nothing (round2 n) t t (loop_holds2 number) (nest3_passes number) refl

nest1_passes : (number : ℕ) → told (nest1 (size_of number)) (round1 (size_of number)) ≡ Passed (end_totals (size_of number))
unfolding told
nest1_passes number =
    let n = size_of number in
    let t = end_totals (size_of number) in
    loop_passes 5 (named (codes "jt")) (Int (pos 0)) (Int (pos n)) (pos 8) (nest2 n) Nothing (round1 n) t t (loop_holds1 number) (nest2_passes number) refl

abbrev last_totals : ℕ → Totals
last_totals n = (counted (behind n)).totals

whole_passes : (number : ℕ) → told (nest0 (size_of number)) (argued3 (size_of number)) ≡ Passed (last_totals (size_of number))
unfolding told
whole_passes number =
    let n = size_of number in
    loop_passes 4 (named (codes "it")) (Int (pos 0)) (Int (pos n)) (pos 8) (nest1 n) (Does 22 Return Nothing) (argued3 n) (end_totals n) (last_totals n) (loop_holds0 number) (nest1_passes number)
    (passes 22 Return Nothing (behind n) (last_totals n) (return_holds number) refl)

is_whole : (n : ℕ) → nest (product n).body ≡ nest0 n
is_whole n = simp nests refl

pub valid : (number : ℕ) → IsValid (product (size_of number))
unfolding first_broken told_module told_arguments
valid number =
    let n = size_of number in
    let body = told (nest (product n).body) in
    ap (λ o. broken_of (judged 3 o (told_arguments (argument n (codes "B") ∷ argument n (codes "C") ∷ []) body (argued1 n)))) (argument_passes0 number)
    ∙ ap (λ o. broken_of (judged 3 o (told_arguments (argument n (codes "C") ∷ []) body (argued2 n)))) (argument_passes1 number)
    ∙ ap (λ o. broken_of (judged 3 o (body (argued3 n)))) (argument_passes2 number)
    ∙ ap (λ x. broken_of (told x (argued3 n))) (is_whole n) ∙ ap broken_of (whole_passes number)

pub plain : (n : ℕ) → plain_fault (product n) ≡ None
unfolding plain_fault plain_told access_short
plain n = ap (λ x. line_of_fault (plain_told x 0 0)) (is_whole n) ∙ simp shorts refl
