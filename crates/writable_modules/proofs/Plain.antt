-- A statement that breaks no rule and keeps to the limits may be written.
use Rattle.std.proofs.Common.{◌≡◌, ℕ, ◌+◌, ◌≤◌, ℤ, pos, negsuc, neg_ℤ, Bool, true, false, List, [], ◌∷◌, length, map, take, refl, arith}
use Rattle.std.specs.Prelude.{◌&&◌, not, Option, Some, None, nat_eq, nat_le, int_le, int_lt}
use Rattle.std.specs.List.{list_all}
use Rattle.std.proofs.lemmas.Bool.{and_parts, leb-true, eqb-true}
use Rattle.std.proofs.lemmas.Int.{ints}
use Rattle.affine_expr.specs.declared.map.Constraint.{Constraint}
use Rattle.affine_expr.specs.declared.map.Set.{Set}
use Rattle.affine_expr.specs.Pure.{is_outside, has_leaves_below}
use Rattle.affine_expr.specs.Spread.{Range}
use Rattle.affine_ast.specs.declared.name.Name.{Name}
use Rattle.affine_ast.specs.declared.types.Access.{Access}
use Rattle.affine_ast.specs.declared.types.Bound.{Bound}
use Rattle.affine_ast.specs.declared.types.Bound.TheVariants as bound
use Rattle.affine_ast.specs.declared.types.Element.TheVariants.{I8, I16, I32, I64}
use Rattle.affine_ast.specs.declared.types.MemrefType.{MemrefType}
use Rattle.affine_ast.specs.declared.types.Pick.{Pick}
use Rattle.affine_ast.specs.declared.types.Pick.TheVariants.{Apply, Min, Max}
use Rattle.affine_ast.specs.declared.types.Scalar.{Scalar}
use Rattle.affine_ast.specs.declared.types.Scalar.TheVariants.{Int, Index}
use Rattle.affine_ast.specs.Nest.{Plain, Nest, Value, Load, Store, RawLoad, RawStore, Constant, Binary, Cast, Alloc, Dealloc, Start, Wait, Return}
use Rattle.affine_ast.specs.Parts.{maps_of}
use Rattle.affine_ast.specs.Rules as rules
use Rattle.affine_ast.specs.Rules.{map_fits, set_fits, row_has_leaves, subscripts_fit, has_result, results_fit, ends_fit, is_memref_of, is_of, are_indexes, ends_typed, is_small_dimension, has_interval, access_bounded, set_bounded, row_bounded, bound_bounded, in_signed_range}
use Rattle.affine_ast.specs.Scope.{Scope, Around}
use Rattle.affine_ast.specs.Sizes.{scalar_bits}
use Rattle.placement_texts.specs.Own.{OwnNames, OwnBound, OwnPair, OwnPlain}
use Rattle.plan_laws.specs.Limits as limits
use Rattle.plan_laws.specs.Limits.{expression_fits, access_fits, row_fits, rows_fit}
use Rattle.printed_texts.specs.Writable.{IsWritten, AllWritten, InRange, Positive, Negative, RowsFit, UseFits, ConditionFits, SubscriptsFit, BoundFits, StrideWritten, ThreeFit, PlainFits}
use Rattle.valid_laws.proofs.Passing.{Holds}
use Rattle.writable_modules.specs.Formed.{InOrder, AreFew, FewInBound, FormedPlain}
use Rattle.writable_modules.proofs.Expressions.{in_range, all_within, one_fits, all_fit}
use Rattle.writable_modules.proofs.Types.{ScopeFits, memref_fits, alloc_fits}

-- ---- integers
signed : (k : ℕ) (z : ℤ) → k ≤ 9223372036854775808 → (int_le (neg_ℤ (pos k)) z && int_lt z (pos k)) ≡ true → InRange z
signed k (pos n) few h = let two = and_parts (int_le (neg_ℤ (pos k)) (pos n)) (int_lt (pos n) (pos k)) h in let r = two.1 in Positive n refl (grind (arith, ints, r, few))
signed k (negsuc n) few h = let two = and_parts (int_le (neg_ℤ (pos k)) (negsuc n)) (int_lt (negsuc n) (pos k)) h in let r = two.0 in Negative n refl (grind (arith, ints, r, few))

constant_fits : (z : ℤ) (ty : Scalar) → in_signed_range (scalar_bits ty) z ≡ true → InRange z
unfolding in_signed_range
constant_fits z (Int I8) h = signed 128 z (omega arith) h
constant_fits z (Int I16) h = signed 32768 z (omega arith) h
constant_fits z (Int I32) h = signed 2147483648 z (omega arith) h
constant_fits z (Int I64) h = signed 9223372036854775808 z (omega arith) h
constant_fits z Index h = signed 9223372036854775808 z (omega arith) h

small_in_range : (z : ℤ) → not (is_outside z) ≡ true → InRange z
small_in_range z h = in_range z (by (is_outside z) h)
  where
    by : (b : Bool) → not b ≡ true → b ≡ false
    by true h = absurd (let y : ⊥ = cc in y)
    by false h = refl

-- ---- counts
some_result : (at : Access) → has_result at ≡ true → 1 ≤ length at.map.results
some_result at h = by (length at.map.results) h
  where
    by : (n : ℕ) → not (nat_eq n 0) ≡ true → 1 ≤ n
    by n h = grind (arith, h)

picked : (pick : Pick) (at : Access) → results_fit pick at ≡ true → 1 ≤ length at.map.results
picked Apply at h = let k = eqb-true (length at.map.results) 1 h in omega (arith, k)
picked Min at h = some_result at h
picked Max at h = some_result at h

one_access : (at : Access) → list_all access_fits (at ∷ []) ≡ true → access_fits at ≡ true
one_access at h = (and_parts (access_fits at) true h).0

module _ (own : Name → Bool) (written : (n : Name) → own n ≡ true → IsWritten n) where
  names_written : (ns : List Name) → OwnNames own ns → AllWritten ns
  names_written [] h = tt
  names_written (n ∷ ns) h = (written n h.0, names_written ns h.1)

  -- ---- uses
  use_fits : (s : Scope) (at : Access) → OwnNames own at.operands → access_fits at ≡ true → map_fits at ≡ true → 1 ≤ length at.map.results → access_bounded s at ≡ true → AreFew at.map.dims at.map.syms → UseFits at
  unfolding map_fits access_bounded
  use_fits s at o l f some b few =
      let limit = and_parts (nat_le (length at.map.results) 8) (list_all expression_fits at.map.results) l in
      let fit = and_parts _ (list_all (has_leaves_below at.map.dims at.map.syms) at.map.results) f in
      let bounds = and_parts (list_all (is_small_dimension s) (take at.map.dims at.operands)) _ b in
      record {
        some = some;
        most = leb-true (length at.map.results) 8 limit.0;
        results = all_fit at.map.dims at.map.syms _ _ at.map.results limit.1 fit.1 bounds.1;
        operands = record { count = eqb-true (length at.operands) (at.map.dims + at.map.syms) fit.0; written = names_written at.operands o; few_dims = few.0; few_syms = few.1 };
      }

  subscripts_may : (at : Access) (ty : MemrefType) → OwnNames own at.operands → access_fits at ≡ true → subscripts_fit at ty ≡ true → InOrder at → SubscriptsFit at
  unfolding subscripts_fit map_fits
  subscripts_may at ty o l f i =
      let limit = and_parts (nat_le (length at.map.results) 8) (list_all expression_fits at.map.results) l in
      let fit = and_parts (map_fits at) _ f in
      let count = and_parts (nat_eq (length at.operands) (at.map.dims + at.map.syms)) _ fit.0 in
      record {
        most = leb-true (length at.map.results) 8 limit.0;
        within = all_within at.map.results limit.1;
        order = i.order;
        count = eqb-true (length at.operands) (at.map.dims + at.map.syms) count.0;
        written = names_written at.operands o;
        dims = i.dims;
        syms = i.syms;
      }

  pub bound_may : (s : Scope) (b : Bound) → OwnBound own b → limits.bound_fits b ≡ true → rules.bound_fits b ≡ true → bound_bounded s b ≡ true → FewInBound b → BoundFits b
  bound_may s (bound.Int z) o l f b few = small_in_range z b
  bound_may s (bound.Value n) o l f b few = written n o
  bound_may s (bound.Map at) o l f b few = let two = and_parts (map_fits at) (has_result at) f in use_fits s at o l two.0 (some_result at two.1) b few

  rows_may : (d s : ℕ) (ds ss : List Range) (rows : List Constraint) → list_all row_fits rows ≡ true → list_all (row_has_leaves d s) rows ≡ true → list_all (row_bounded ds ss) rows ≡ true → RowsFit d s rows
  rows_may d s ds ss [] l f b = tt
  rows_may d s ds ss (row ∷ rows) l f b =
      let ls = and_parts (row_fits row) (list_all row_fits rows) l in
      let fs = and_parts (row_has_leaves d s row) (list_all (row_has_leaves d s) rows) f in
      let bs = and_parts (row_bounded ds ss row) (list_all (row_bounded ds ss) rows) b in
      let l2 = and_parts (expression_fits row.left) (expression_fits row.right) ls.0 in
      let f2 = and_parts (has_leaves_below d s row.left) (has_leaves_below d s row.right) fs.0 in
      let b2 = and_parts (has_interval ds ss row.left) (has_interval ds ss row.right) bs.0 in
      (one_fits d s ds ss row.left l2.0 f2.0 b2.0, one_fits d s ds ss row.right l2.1 f2.1 b2.1, rows_may d s ds ss rows ls.1 fs.1 bs.1)

  pub condition_may : (s : Scope) (set : Set) (names : List Name) → OwnNames own names → rows_fit set.rows ≡ true → set_fits set names ≡ true → 1 ≤ length set.rows → set_bounded s set names ≡ true → AreFew set.dims set.syms → ConditionFits set names
  unfolding set_fits set_bounded
  condition_may s set names o l f some b few =
      let limit = and_parts (nat_le (length set.rows) 16) (list_all row_fits set.rows) l in
      let fit = and_parts _ (list_all (row_has_leaves set.dims set.syms) set.rows) f in
      let bounds = and_parts (list_all (is_small_dimension s) (take set.dims names)) _ b in
      record {
        some = some;
        most = leb-true (length set.rows) 16 limit.0;
        rows = rows_may set.dims set.syms _ _ set.rows limit.1 fit.1 bounds.1;
        operands = record { count = eqb-true (length names) (set.dims + set.syms) fit.0; written = names_written names o; few_dims = few.0; few_syms = few.1 };
      }

  -- ---- statements
  stride_may : (two : Option (Name × Name)) → OwnPair own two → StrideWritten two
  stride_may None h = tt
  stride_may (Some two) h = (written two.0 h.0, written two.1 h.1)

  three_may : (s : Scope) (x y t : Name) (types : List MemrefType) → ScopeFits s → ends_typed s x y t types ≡ true → ThreeFit types
  three_may s x y t (x_ty ∷ y_ty ∷ t_ty ∷ []) f h =
      let one = and_parts (is_memref_of s x x_ty) _ h in
      let two = and_parts (is_memref_of s y y_ty) _ one.1 in
      let three = and_parts (is_memref_of s t t_ty) _ two.1 in
      (memref_fits s x x_ty f one.0, memref_fits s y y_ty f two.0, memref_fits s t t_ty f three.0)
  three_may s x y t [] f h = absurd (let z : ⊥ = cc in z)
  three_may s x y t (a ∷ []) f h = absurd (let z : ⊥ = cc in z)
  three_may s x y t (a ∷ b ∷ []) f h = absurd (let z : ⊥ = cc in z)
  three_may s x y t (a ∷ b ∷ c ∷ d ∷ more) f h = absurd (let z : ⊥ = cc in z)

  ends_may : (x_at y_at t_at : Access) (types : List MemrefType) → OwnNames own x_at.operands → OwnNames own y_at.operands → OwnNames own t_at.operands
      → list_all access_fits (x_at ∷ y_at ∷ t_at ∷ []) ≡ true → ends_fit x_at y_at t_at types ≡ true → InOrder x_at × InOrder y_at × InOrder t_at → SubscriptsFit x_at × SubscriptsFit y_at × SubscriptsFit t_at
  ends_may x_at y_at t_at (x_ty ∷ y_ty ∷ t_ty ∷ []) ox oy ot l h i =
      let one = and_parts (subscripts_fit x_at x_ty) (subscripts_fit y_at y_ty && subscripts_fit t_at t_ty) h in
      let two = and_parts (subscripts_fit y_at y_ty) (subscripts_fit t_at t_ty) one.1 in
      let l1 = and_parts (access_fits x_at) (list_all access_fits (y_at ∷ t_at ∷ [])) l in
      let l2 = and_parts (access_fits y_at) (list_all access_fits (t_at ∷ [])) l1.1 in
      (subscripts_may x_at x_ty ox l1.0 one.0 i.0, subscripts_may y_at y_ty oy l2.0 two.0 i.1, subscripts_may t_at t_ty ot (one_access t_at l2.1) two.1 i.2)
  ends_may x_at y_at t_at [] ox oy ot l h i = absurd (let z : ⊥ = cc in z)
  ends_may x_at y_at t_at (a ∷ []) ox oy ot l h i = absurd (let z : ⊥ = cc in z)
  ends_may x_at y_at t_at (a ∷ b ∷ []) ox oy ot l h i = absurd (let z : ⊥ = cc in z)
  ends_may x_at y_at t_at (a ∷ b ∷ c ∷ d ∷ more) ox oy ot l h i = absurd (let z : ⊥ = cc in z)

  pub plain_may : (a : Around) (p : Plain) (rest : Nest) → Holds a p rest → ScopeFits a.scope → OwnPlain own p → list_all access_fits (maps_of p) ≡ true → FormedPlain p → PlainFits p
  plain_may a (Value r pick at) rest k s o l f =
      let two = and_parts (map_fits at) (results_fit pick at) k.counts in
      (written r o.0, use_fits a.scope at o.1 (one_access at l) two.0 (picked pick at two.1) k.bounded f)
  plain_may a (Load r m at ty) rest k s o l f = (written r o.0, written m o.1.0, subscripts_may at ty o.1.1 (one_access at l) k.counts f, memref_fits a.scope m ty s k.types)
  plain_may a (Store x m at ty) rest k s o l f =
      (written x o.0, written m o.1.0, subscripts_may at ty o.1.1 (one_access at l) k.counts f, memref_fits a.scope m ty s (and_parts (is_of a.scope x (Int ty.element)) (is_memref_of a.scope m ty) k.types).1)
  plain_may a (RawLoad r m at ty) rest k s o l f = (written r o.0, written m o.1, names_written at o.2, memref_fits a.scope m ty s (and_parts (is_memref_of a.scope m ty) (are_indexes a.scope at) k.types).0)
  plain_may a (RawStore x m at ty) rest k s o l f =
      let one = and_parts (is_of a.scope x (Int ty.element)) (is_memref_of a.scope m ty && are_indexes a.scope at) k.types in
      (written x o.0, written m o.1, names_written at o.2, memref_fits a.scope m ty s (and_parts (is_memref_of a.scope m ty) (are_indexes a.scope at) one.1).0)
  plain_may a (Constant r z ty) rest k s o l f = (written r o, constant_fits z ty k.constants)
  plain_may a (Binary r op x y ty) rest k s o l f = (written r o.0, written x o.1, written y o.2)
  plain_may a (Cast r kind x from to) rest k s o l f = (written r o.0, written x o.1)
  plain_may a (Alloc r ty) rest k s o l f = (written r o.0, alloc_fits a r ty rest k)
  plain_may a (Dealloc m ty) rest k s o l f = (written m o, memref_fits a.scope m ty s k.types)
  plain_may a (Start x x_at y y_at t t_at n stride types) rest k s o l f =
      let three = ends_may x_at y_at t_at types o.0.1 o.1.1 o.2.1 l k.counts f in
      ((written x o.0.0, three.0), (written y o.1.0, three.1), (written t o.2.0, three.2), written n o.3, stride_may stride o.4, three_may a.scope x y t types s k.types)
  plain_may a (Wait t at n ty) rest k s o l f = (written t o.0.0, subscripts_may at ty o.0.1 (one_access at l) k.counts f, written n o.1, memref_fits a.scope t ty s k.types)
  plain_may a Return rest k s o l f = absurd f
