-- What the rules of validity demand of a statement, under new names.
use Rattle.std.proofs.Common.{◌≡◌, ℕ, zero, suc, ◌+◌, List, [], ◌∷◌, refl, ap, ◌∙◌, Bool, true, map, take, drop, length}
use Rattle.std.specs.Prelude.{◌&&◌, not, nat_eq, Option, Some, None, is_some}
use Rattle.std.specs.List.{list_all}
use Rattle.std.specs.Int.{int_min, int_max}
use Rattle.affine_expr.specs.declared.map.Set.{Set}
use Rattle.affine_expr.specs.Spread.{Range, range_of}
use Rattle.affine_expr.specs.Pure.{has_leaves_below}
use Rattle.affine_ast.specs.declared.name.Name.{Name}
use Rattle.affine_ast.specs.declared.types.Access.{Access}
use Rattle.affine_ast.specs.declared.types.Bound.{Bound}
use Rattle.affine_ast.specs.declared.types.Bound.TheVariants as bound
use Rattle.affine_ast.specs.declared.types.MemrefType.{MemrefType}
use Rattle.affine_ast.specs.declared.types.Pick.{Pick}
use Rattle.affine_ast.specs.declared.types.Pick.TheVariants.{Apply, Min, Max}
use Rattle.affine_ast.specs.declared.types.Scalar.{Scalar}
use Rattle.affine_ast.specs.declared.types.Scalar.TheVariants.{Int, Index}
use Rattle.affine_ast.specs.Intervals.{ranges_at, over_all, first_turn, last_end}
use Rattle.affine_ast.specs.Nest.{Plain, Value, Load, Store, RawLoad, RawStore, Constant, Binary, Cast, Alloc, Dealloc, Start, Wait, Return}
use Rattle.affine_ast.specs.Parts.{stride_names}
use Rattle.affine_ast.specs.Rules.{is_in, are_in, place_in, bound_in, uses_in_scope, is_new, defines_new, may_be_dimension, may_be_symbol, is_memref, is_dimension, is_symbol, is_value, are_values, operands_stand, bound_stands, uses_stand, same_element, binding_is_memref_of, binding_is_scalar, is_memref_of, is_of, are_indexes, casts_between, ends_typed, types_agree, map_fits, set_fits, subscripts_fit, bound_fits, ends_fit, counts_fit, row_has_leaves, results_fit, has_result, binding_is_small, is_small_dimension, has_interval, access_bounded, row_bounded, set_bounded, bound_bounded, maps_bounded, access_pure, maps_pure, constant_in_range}
use Rattle.affine_ast.specs.Scope.{Scope, range_of_binding, ranges_in}
use Rattle.placement_texts.specs.Own.{OwnNames, OwnBound, OwnPair, OwnPlain}
use Rattle.placement_texts.specs.Renamed.{access_named, bound_named, pair_named, plain_named}

take_map : (f : Name → Name) (k : ℕ) (ns : List Name) → take k (map f ns) ≡ map f (take k ns)
take_map f zero ns = refl
take_map f (suc k) [] = refl
take_map f (suc k) (n ∷ ns) = ap (λ ms. f n ∷ ms) (take_map f k ns)

drop_map : (f : Name → Name) (k : ℕ) (ns : List Name) → drop k (map f ns) ≡ map f (drop k ns)
drop_map f zero ns = refl
drop_map f (suc k) [] = refl
drop_map f (suc k) (n ∷ ns) = drop_map f k ns

long_map : (f : Name → Name) (ns : List Name) → length (map f ns) ≡ length ns
long_map f [] = refl
long_map f (n ∷ ns) = ap suc (long_map f ns)

module _ (own : Name → Bool) where
  take_own : (k : ℕ) (ns : List Name) → OwnNames own ns → OwnNames own (take k ns)
  take_own zero ns h = tt
  take_own (suc k) [] h = tt
  take_own (suc k) (n ∷ ns) h = (h.0, take_own k ns h.1)

  drop_own : (k : ℕ) (ns : List Name) → OwnNames own ns → OwnNames own (drop k ns)
  drop_own zero ns h = h
  drop_own (suc k) [] h = tt
  drop_own (suc k) (n ∷ ns) h = drop_own k ns h.1

  pair_own : (two : Option (Name × Name)) → OwnPair own two → OwnNames own (stride_names two)
  pair_own None h = tt
  pair_own (Some two) h = (h.0, (h.1, tt))

stride_map : (f : Name → Name) (two : Option (Name × Name)) → stride_names (pair_named f two) ≡ map f (stride_names two)
stride_map f None = refl
stride_map f (Some two) = refl

-- ---- demands that ask nothing of names
module _ (f : Name → Name) where
  map_fits_same : (at : Access) → map_fits (access_named f at) ≡ map_fits at
  unfolding map_fits
  map_fits_same at = λ i. nat_eq (long_map f at.operands i) (at.map.dims + at.map.syms) && list_all (has_leaves_below at.map.dims at.map.syms) at.map.results

  subscripts_fit_same : (at : Access) (ty : MemrefType) → subscripts_fit (access_named f at) ty ≡ subscripts_fit at ty
  unfolding subscripts_fit
  subscripts_fit_same at ty = λ i. map_fits_same at i && nat_eq (length at.map.results) (length ty.sizes)

  results_fit_same : (pick : Pick) (at : Access) → results_fit pick (access_named f at) ≡ results_fit pick at
  results_fit_same Apply at = refl
  results_fit_same Min at = refl
  results_fit_same Max at = refl

  pub bound_fits_same : (l : Bound) → bound_fits (bound_named f l) ≡ bound_fits l
  bound_fits_same (bound.Int z) = refl
  bound_fits_same (bound.Value n) = refl
  bound_fits_same (bound.Map at) = λ i. map_fits_same at i && has_result at

  pub set_fits_same : (set : Set) (ns : List Name) → set_fits set (map f ns) ≡ set_fits set ns
  unfolding set_fits
  set_fits_same set ns = λ i. nat_eq (long_map f ns i) (set.dims + set.syms) && list_all (row_has_leaves set.dims set.syms) set.rows

  ends_fit_same : (x y z : Access) (types : List MemrefType) → ends_fit (access_named f x) (access_named f y) (access_named f z) types ≡ ends_fit x y z types
  ends_fit_same x y z (a ∷ b ∷ c ∷ []) = λ i. subscripts_fit_same x a i && (subscripts_fit_same y b i && subscripts_fit_same z c i)
  ends_fit_same x y z [] = refl
  ends_fit_same x y z (a ∷ []) = refl
  ends_fit_same x y z (a ∷ b ∷ []) = refl
  ends_fit_same x y z (a ∷ b ∷ c ∷ d ∷ types) = refl

  pub counts_same : (q : Plain) → counts_fit (plain_named f q) ≡ counts_fit q
  counts_same (Value r pick at) = λ i. map_fits_same at i && results_fit_same pick at i
  counts_same (Load r m at ty) = subscripts_fit_same at ty
  counts_same (Store x m at ty) = subscripts_fit_same at ty
  counts_same (RawLoad r m at ty) = λ i. nat_eq (long_map f at i) (length ty.sizes)
  counts_same (RawStore x m at ty) = λ i. nat_eq (long_map f at i) (length ty.sizes)
  counts_same (Constant r z ty) = refl
  counts_same (Binary r op x y ty) = refl
  counts_same (Cast r kind x from to) = refl
  counts_same (Alloc r ty) = refl
  counts_same (Dealloc m ty) = refl
  counts_same (Start x x_at y y_at z z_at n stride types) = ends_fit_same x_at y_at z_at types
  counts_same (Wait z at n ty) = subscripts_fit_same at ty
  counts_same Return = refl

  pub pure_same : (q : Plain) → maps_pure (plain_named f q) ≡ maps_pure q
  unfolding access_pure
  pure_same (Value r pick at) = refl
  pure_same (Load r m at ty) = refl
  pure_same (Store x m at ty) = refl
  pure_same (RawLoad r m at ty) = refl
  pure_same (RawStore x m at ty) = refl
  pure_same (Constant r z ty) = refl
  pure_same (Binary r op x y ty) = refl
  pure_same (Cast r kind x from to) = refl
  pure_same (Alloc r ty) = refl
  pure_same (Dealloc m ty) = refl
  pure_same (Start x x_at y y_at z z_at n stride types) = refl
  pure_same (Wait z at n ty) = refl
  pure_same Return = refl

  pub constants_same : (q : Plain) → constant_in_range (plain_named f q) ≡ constant_in_range q
  constants_same (Value r pick at) = refl
  constants_same (Load r m at ty) = refl
  constants_same (Store x m at ty) = refl
  constants_same (RawLoad r m at ty) = refl
  constants_same (RawStore x m at ty) = refl
  constants_same (Constant r z ty) = refl
  constants_same (Binary r op x y ty) = refl
  constants_same (Cast r kind x from to) = refl
  constants_same (Alloc r ty) = refl
  constants_same (Dealloc m ty) = refl
  constants_same (Start x x_at y y_at z z_at n stride types) = refl
  constants_same (Wait z at n ty) = refl
  constants_same Return = refl

-- ---- demands on what names stand for
module _ (f : Name → Name) (own : Name → Bool) (s t : Scope) (same : (n : Name) → own n ≡ true → t (f n) ≡ s n) where
  all_same : (g : Scope → Name → Bool) → ((n : Name) → own n ≡ true → g t (f n) ≡ g s n) → (ns : List Name) → OwnNames own ns → list_all (g t) (map f ns) ≡ list_all (g s) ns
  all_same g h [] o = refl
  all_same g h (n ∷ ns) o = λ i. h n o.0 i && all_same g h ns o.1 i

  in_same : (n : Name) → own n ≡ true → is_in t (f n) ≡ is_in s n
  unfolding is_in
  in_same n o = ap is_some (same n o)

  pub are_same : (ns : List Name) → OwnNames own ns → are_in t (map f ns) ≡ are_in s ns
  unfolding are_in
  are_same ns o = all_same is_in in_same ns o

  strides_in : (two : Option (Name × Name)) → OwnPair own two → are_in t (stride_names (pair_named f two)) ≡ are_in s (stride_names two)
  strides_in two o = ap (are_in t) (stride_map f two) ∙ are_same (stride_names two) (pair_own own two o)

  pub new_same : (n : Name) → own n ≡ true → is_new t (f n) ≡ is_new s n
  new_same n o = ap not (in_same n o)

  place_same : (m : Name) (at : Access) → own m ≡ true → OwnNames own at.operands → place_in t (f m) (access_named f at) ≡ place_in s m at
  place_same m at o h = λ i. in_same m o i && are_same at.operands h i

  pub bound_same : (l : Bound) → OwnBound own l → bound_in t (bound_named f l) ≡ bound_in s l
  bound_same (bound.Int z) h = refl
  bound_same (bound.Value n) h = in_same n h
  bound_same (bound.Map at) h = are_same at.operands h

  pub uses_same : (q : Plain) → OwnPlain own q → uses_in_scope t (plain_named f q) ≡ uses_in_scope s q
  uses_same (Value r pick at) h = are_same at.operands h.1
  uses_same (Load r m at ty) h = place_same m at h.1.0 h.1.1
  uses_same (Store x m at ty) h = λ i. in_same x h.0 i && place_same m at h.1.0 h.1.1 i
  uses_same (RawLoad r m at ty) h = λ i. in_same m h.1 i && are_same at h.2 i
  uses_same (RawStore x m at ty) h = λ i. in_same x h.0 i && (in_same m h.1 i && are_same at h.2 i)
  uses_same (Constant r z ty) h = refl
  uses_same (Binary r op x y ty) h = λ i. in_same x h.1 i && in_same y h.2 i
  uses_same (Cast r kind x from to) h = in_same x h.1
  uses_same (Alloc r ty) h = refl
  uses_same (Dealloc m ty) h = in_same m h
  uses_same (Start x x_at y y_at z z_at n stride types) h =
      λ i. place_same x x_at h.0.0 h.0.1 i && (place_same y y_at h.1.0 h.1.1 i && (place_same z z_at h.2.0 h.2.1 i && (in_same n h.3 i && strides_in stride h.4 i)))
  uses_same (Wait z at n ty) h = λ i. place_same z at h.0.0 h.0.1 i && in_same n h.1 i
  uses_same Return h = refl

  pub defines_same : (q : Plain) → OwnPlain own q → defines_new t (plain_named f q) ≡ defines_new s q
  defines_same (Value r pick at) h = new_same r h.0
  defines_same (Load r m at ty) h = new_same r h.0
  defines_same (Store x m at ty) h = refl
  defines_same (RawLoad r m at ty) h = new_same r h.0
  defines_same (RawStore x m at ty) h = refl
  defines_same (Constant r z ty) h = new_same r h
  defines_same (Binary r op x y ty) h = new_same r h.0
  defines_same (Cast r kind x from to) h = new_same r h.0
  defines_same (Alloc r ty) h = new_same r h.0
  defines_same (Dealloc m ty) h = refl
  defines_same (Start x x_at y y_at z z_at n stride types) h = refl
  defines_same (Wait z at n ty) h = refl
  defines_same Return h = refl

  dimension_same : (n : Name) → own n ≡ true → is_dimension t (f n) ≡ is_dimension s n
  unfolding is_dimension
  dimension_same n o = ap may_be_dimension (same n o)

  symbol_same : (n : Name) → own n ≡ true → is_symbol t (f n) ≡ is_symbol s n
  unfolding is_symbol
  symbol_same n o = ap may_be_symbol (same n o)

  value_same : (n : Name) → own n ≡ true → is_value t (f n) ≡ is_value s n
  unfolding is_value
  value_same n o = ap (λ b. not (is_memref b)) (same n o)

  values_same : (ns : List Name) → OwnNames own ns → are_values t (map f ns) ≡ are_values s ns
  unfolding are_values
  values_same ns o = all_same is_value value_same ns o

  stride_values : (two : Option (Name × Name)) → OwnPair own two → are_values t (stride_names (pair_named f two)) ≡ are_values s (stride_names two)
  stride_values two o = ap (are_values t) (stride_map f two) ∙ values_same (stride_names two) (pair_own own two o)

  pub operands_same : (k : ℕ) (ns : List Name) → OwnNames own ns → operands_stand t k (map f ns) ≡ operands_stand s k ns
  unfolding operands_stand
  operands_same k ns h =
      (λ i. list_all (is_dimension t) (take_map f k ns i) && list_all (is_symbol t) (drop_map f k ns i))
      ∙ (λ i. all_same is_dimension dimension_same (take k ns) (take_own own k ns h) i && all_same is_symbol symbol_same (drop k ns) (drop_own own k ns h) i)

  pub bound_stands_same : (l : Bound) → OwnBound own l → bound_stands t (bound_named f l) ≡ bound_stands s l
  bound_stands_same (bound.Int z) h = refl
  bound_stands_same (bound.Value n) h = dimension_same n h
  bound_stands_same (bound.Map at) h = operands_same at.map.dims at.operands h

  pub stand_same : (q : Plain) → OwnPlain own q → uses_stand t (plain_named f q) ≡ uses_stand s q
  stand_same (Value r pick at) h = operands_same at.map.dims at.operands h.1
  stand_same (Load r m at ty) h = operands_same at.map.dims at.operands h.1.1
  stand_same (Store x m at ty) h = λ i. value_same x h.0 i && operands_same at.map.dims at.operands h.1.1 i
  stand_same (RawLoad r m at ty) h = values_same at h.2
  stand_same (RawStore x m at ty) h = λ i. value_same x h.0 i && values_same at h.2 i
  stand_same (Constant r z ty) h = refl
  stand_same (Binary r op x y ty) h = λ i. value_same x h.1 i && value_same y h.2 i
  stand_same (Cast r kind x from to) h = value_same x h.1
  stand_same (Alloc r ty) h = refl
  stand_same (Dealloc m ty) h = refl
  stand_same (Start x x_at y y_at z z_at n stride types) h =
      λ i. operands_same x_at.map.dims x_at.operands h.0.1 i && (operands_same y_at.map.dims y_at.operands h.1.1 i && (operands_same z_at.map.dims z_at.operands h.2.1 i && (value_same n h.3 i && stride_values stride h.4 i)))
  stand_same (Wait z at n ty) h = λ i. operands_same at.map.dims at.operands h.0.1 i && value_same n h.1 i
  stand_same Return h = refl

  memref_same : (m : Name) (ty : MemrefType) → own m ≡ true → is_memref_of t (f m) ty ≡ is_memref_of s m ty
  unfolding is_memref_of
  memref_same m ty o = ap (λ b. binding_is_memref_of b ty) (same m o)

  scalar_same : (n : Name) (ty : Scalar) → own n ≡ true → is_of t (f n) ty ≡ is_of s n ty
  unfolding is_of
  scalar_same n ty o = ap (λ b. binding_is_scalar b ty) (same n o)

  indexes_same : (ns : List Name) → OwnNames own ns → are_indexes t (map f ns) ≡ are_indexes s ns
  unfolding are_indexes
  indexes_same ns o = all_same (λ s n. is_of s n Index) (λ n o. scalar_same n Index o) ns o

  ends_same : (x y z : Name) (types : List MemrefType) → own x ≡ true → own y ≡ true → own z ≡ true → ends_typed t (f x) (f y) (f z) types ≡ ends_typed s x y z types
  ends_same x y z (x_ty ∷ y_ty ∷ t_ty ∷ []) ox oy oz = λ i. memref_same x x_ty ox i && (memref_same y y_ty oy i && (memref_same z t_ty oz i && same_element x_ty.element y_ty.element))
  ends_same x y z [] ox oy oz = refl
  ends_same x y z (x_ty ∷ []) ox oy oz = refl
  ends_same x y z (x_ty ∷ y_ty ∷ []) ox oy oz = refl
  ends_same x y z (x_ty ∷ y_ty ∷ t_ty ∷ u_ty ∷ types) ox oy oz = refl

  pub types_same : (q : Plain) → OwnPlain own q → types_agree t (plain_named f q) ≡ types_agree s q
  types_same (Value r pick at) h = refl
  types_same (Load r m at ty) h = memref_same m ty h.1.0
  types_same (Store x m at ty) h = λ i. scalar_same x (Int ty.element) h.0 i && memref_same m ty h.1.0 i
  types_same (RawLoad r m at ty) h = λ i. memref_same m ty h.1 i && indexes_same at h.2 i
  types_same (RawStore x m at ty) h = λ i. scalar_same x (Int ty.element) h.0 i && (memref_same m ty h.1 i && indexes_same at h.2 i)
  types_same (Constant r z ty) h = refl
  types_same (Binary r op x y ty) h = λ i. scalar_same x ty h.1 i && scalar_same y ty h.2 i
  types_same (Cast r kind x from to) h = λ i. scalar_same x from h.1 i && casts_between kind from to
  types_same (Alloc r ty) h = refl
  types_same (Dealloc m ty) h = memref_same m ty h
  types_same (Start x x_at y y_at z z_at n stride types) h = ends_same x y z types h.0.0 h.1.0 h.2.0
  types_same (Wait z at n ty) h = memref_same z ty h.0.0
  types_same Return h = refl

  -- ---- intervals
  range_same : (n : Name) → own n ≡ true → ranges_in t (f n) ≡ ranges_in s n
  unfolding ranges_in
  range_same n o = ap range_of_binding (same n o)

  ranges_same : (ns : List Name) → OwnNames own ns → map (ranges_in t) (map f ns) ≡ map (ranges_in s) ns
  ranges_same [] h = refl
  ranges_same (n ∷ ns) h = λ i. range_same n h.0 i ∷ ranges_same ns h.1 i

  pub at_same : (at : Access) → OwnNames own at.operands → ranges_at (ranges_in t) (access_named f at) ≡ ranges_at (ranges_in s) at
  at_same at h = ap (λ rs. map (range_of (take at.map.dims rs) (drop at.map.dims rs)) at.map.results) (ranges_same at.operands h)

  pub first_same : (l : Bound) → OwnBound own l → first_turn (ranges_in t) (bound_named f l) ≡ first_turn (ranges_in s) l
  unfolding first_turn
  first_same (bound.Int z) h = refl
  first_same (bound.Value n) h = ap (λ (r : Range). r.least) (range_same n h)
  first_same (bound.Map at) h = ap (λ rs. over_all int_max (map (λ (r : Range). r.least) rs)) (at_same at h)

  pub last_same : (u : Bound) → OwnBound own u → last_end (ranges_in t) (bound_named f u) ≡ last_end (ranges_in s) u
  unfolding last_end
  last_same (bound.Int z) h = refl
  last_same (bound.Value n) h = ap (λ (r : Range). r.greatest) (range_same n h)
  last_same (bound.Map at) h = ap (λ rs. over_all int_min (map (λ (r : Range). r.greatest) rs)) (at_same at h)

  small_same : (n : Name) → own n ≡ true → is_small_dimension t (f n) ≡ is_small_dimension s n
  unfolding is_small_dimension
  small_same n o = ap binding_is_small (same n o)

  smalls_same : (k : ℕ) (ns : List Name) → OwnNames own ns → list_all (is_small_dimension t) (take k (map f ns)) ≡ list_all (is_small_dimension s) (take k ns)
  smalls_same k ns h = ap (list_all (is_small_dimension t)) (take_map f k ns) ∙ all_same is_small_dimension small_same (take k ns) (take_own own k ns h)

  access_bounded_same : (at : Access) → OwnNames own at.operands → access_bounded t (access_named f at) ≡ access_bounded s at
  unfolding access_bounded
  access_bounded_same at h = λ i. smalls_same at.map.dims at.operands h i
      && list_all (has_interval (take at.map.dims (ranges_same at.operands h i)) (drop at.map.dims (ranges_same at.operands h i))) at.map.results

  pub set_bounded_same : (set : Set) (ns : List Name) → OwnNames own ns → set_bounded t set (map f ns) ≡ set_bounded s set ns
  unfolding set_bounded
  set_bounded_same set ns h = λ i. smalls_same set.dims ns h i
      && list_all (row_bounded (take set.dims (ranges_same ns h i)) (drop set.dims (ranges_same ns h i))) set.rows

  pub bound_bounded_same : (l : Bound) → OwnBound own l → bound_bounded t (bound_named f l) ≡ bound_bounded s l
  bound_bounded_same (bound.Int z) h = refl
  bound_bounded_same (bound.Value n) h = small_same n h
  bound_bounded_same (bound.Map at) h = access_bounded_same at h

  pub bounded_same : (q : Plain) → OwnPlain own q → maps_bounded t (plain_named f q) ≡ maps_bounded s q
  bounded_same (Value r pick at) h = access_bounded_same at h.1
  bounded_same (Load r m at ty) h = access_bounded_same at h.1.1
  bounded_same (Store x m at ty) h = access_bounded_same at h.1.1
  bounded_same (RawLoad r m at ty) h = refl
  bounded_same (RawStore x m at ty) h = refl
  bounded_same (Constant r z ty) h = refl
  bounded_same (Binary r op x y ty) h = refl
  bounded_same (Cast r kind x from to) h = refl
  bounded_same (Alloc r ty) h = refl
  bounded_same (Dealloc m ty) h = refl
  bounded_same (Start x x_at y y_at z z_at n stride types) h = λ i. access_bounded_same x_at h.0.1 i && (access_bounded_same y_at h.1.1 i && access_bounded_same z_at h.2.1 i)
  bounded_same (Wait z at n ty) h = access_bounded_same at h.0.1
  bounded_same Return h = refl
