-- Statements that stay break no rule but tested ones, where of their names the same is in scope.
use Rattle.std.proofs.Common.{◌≡◌, ℕ, zero, suc, List, [], ◌∷◌, refl, ap, ◌∙◌, Bool, true, false, map, take, drop}
use Rattle.std.specs.Prelude.{not, ◌&&◌, Option, Some, None, is_some, nat_eq}
use Rattle.std.specs.Int.{int_min, int_max}
use Rattle.std.specs.List.{list_all}
use Rattle.affine_ast.specs.declared.name.Name.{Name}
use Rattle.affine_ast.specs.declared.types.Access.{Access}
use Rattle.affine_ast.specs.declared.types.Bound.{Bound}
use Rattle.affine_ast.specs.declared.types.Bound.TheVariants as bound
use Rattle.affine_ast.specs.declared.types.MemrefType.{MemrefType}
use Rattle.affine_ast.specs.declared.types.Scalar.{Scalar}
use Rattle.affine_ast.specs.declared.types.Scalar.TheVariants.{Int, Index}
use Rattle.affine_expr.specs.Spread.{Range, range_of}
use Rattle.affine_ast.specs.Intervals.{ranges_at, over_all, first_turn, last_end}
use Rattle.affine_ast.specs.Nest.{Plain, Nest, Value, Load, Store, RawLoad, RawStore, Constant, Binary, Cast, Alloc, Dealloc, Start, Wait, Return}
use Rattle.affine_ast.specs.Scope.{Scope, range_of_binding, ranges_in, Around}
use Rattle.affine_ast.specs.Rules.{stride_names, is_in, are_in, place_in, bound_in, uses_in_scope, is_new, defines_new, may_be_dimension, may_be_symbol, is_memref, is_dimension, is_symbol, is_value, are_values, operands_stand, bound_stands, uses_stand, same_element, binding_is_memref_of, binding_is_scalar, is_memref_of, is_of, casts_between, are_indexes, ends_typed, types_agree, constant_in_range, counts_fit, maps_pure, maps_bounded, is_released_once, is_loadable, allocates_well, ends_in_spaces, is_allocation, is_allocated, number_of_binding, is_count, are_stride_and_chunk, constant_of, stride_well, is_live, spaces_agree, text_within}
use Rattle.affine_ast.specs.Validity.{rule, elements_within, rule_of_plain}
use Rattle.valid_laws.proofs.Passing.{Holds}
use Rattle.placement_texts.specs.Own.{OwnNames, OwnBound, OwnPair, OwnPlain}
use Rattle.placement_texts.specs.Tests.{OnlyTested, Sees}

-- rules in their order, where those that aren't tested hold
pub rules_of_plain : (b1 b2 b4 b5 b6 b7 b8 b9 b10 b11 b12 : Bool) → b1 ≡ true → b2 ≡ true → b4 ≡ true → b5 ≡ true → b6 ≡ true → b7 ≡ true → b8 ≡ true → b10 ≡ true
    → OnlyTested (rule 1 b1 (rule 2 b2 (rule 4 b4 (rule 5 b5 (rule 6 b6 (rule 7 b7 (rule 8 b8 (rule 9 b9 (rule 10 b10 (rule 11 b11 (rule 12 b12 None)))))))))))
rules_of_plain b1 b2 b4 b5 b6 b7 b8 b9 b10 b11 b12 h1 h2 h4 h5 h6 h7 h8 h10 = rw (h1, h2, h4, h5, h6, h7, h8, h10) (last b9 b11 b12)
  where
    last : (b9 b11 b12 : Bool) → OnlyTested (rule 9 b9 (rule 11 b11 (rule 12 b12 None)))
    last false b11 b12 = refl
    last true false b12 = refl
    last true true false = refl
    last true true true = tt

module _ (own : Name → Bool) (s t : Scope) (same : (n : Name) → own n ≡ true → t n ≡ s n) where
  all_same : (f : Scope → Name → Bool) → ((n : Name) → own n ≡ true → f t n ≡ f s n) → (ns : List Name) → OwnNames own ns → list_all (f t) ns ≡ list_all (f s) ns
  all_same f h [] o = refl
  all_same f h (n ∷ ns) o = λ i. h n o.0 i && all_same f h ns o.1 i

  pub in_same : (n : Name) → own n ≡ true → is_in t n ≡ is_in s n
  unfolding is_in
  in_same n o = ap is_some (same n o)

  pub are_same : (ns : List Name) → OwnNames own ns → are_in t ns ≡ are_in s ns
  unfolding are_in
  are_same ns o = all_same is_in in_same ns o

  pub new_same : (n : Name) → own n ≡ true → is_new t n ≡ is_new s n
  new_same n o = ap not (in_same n o)

  place_same : (m : Name) (at : Access) → own m ≡ true → OwnNames own at.operands → place_in t m at ≡ place_in s m at
  place_same m at o h = λ i. in_same m o i && are_same at.operands h i

  pair_own : (two : Option (Name × Name)) → OwnPair own two → OwnNames own (stride_names two)
  pair_own None h = tt
  pair_own (Some two) h = (h.0, (h.1, tt))

  pub bound_same : (l : Bound) → OwnBound own l → bound_in t l ≡ bound_in s l
  bound_same (bound.Int z) h = refl
  bound_same (bound.Value n) h = in_same n h
  bound_same (bound.Map at) h = are_same at.operands h

  uses_same : (q : Plain) → OwnPlain own q → uses_in_scope t q ≡ uses_in_scope s q
  uses_same (Value r pick at) h = are_same at.operands h.1
  uses_same (Load r m at ty) h = place_same m at h.1.0 h.1.1
  uses_same (Store x m at ty) h = λ i. in_same x h.0 i && place_same m at h.1.0 h.1.1 i
  uses_same (RawLoad r m at ty) h = λ i. in_same m h.1 i && are_same at h.2 i
  uses_same (RawStore x m at ty) h = λ i. in_same x h.0 i && (in_same m h.1 i && are_same at h.2 i)
  uses_same (Constant r z ty) h = refl
  uses_same (Binary r op x y ty) h = λ i. in_same x h.1 i && in_same y h.2 i
  uses_same (Cast r kind x from to) h = in_same x h.1
  uses_same (Alloc r ty) h = refl
  uses_same (Dealloc m ty) h = in_same m h
  uses_same (Start x x_at y y_at z z_at n stride types) h =
      λ i. place_same x x_at h.0.0 h.0.1 i && (place_same y y_at h.1.0 h.1.1 i && (place_same z z_at h.2.0 h.2.1 i && (in_same n h.3 i && are_same (stride_names stride) (pair_own stride h.4) i)))
  uses_same (Wait z at n ty) h = λ i. place_same z at h.0.0 h.0.1 i && in_same n h.1 i
  uses_same Return h = refl

  pub defines_same : (q : Plain) → OwnPlain own q → defines_new t q ≡ defines_new s q
  defines_same (Value r pick at) h = new_same r h.0
  defines_same (Load r m at ty) h = new_same r h.0
  defines_same (Store x m at ty) h = refl
  defines_same (RawLoad r m at ty) h = new_same r h.0
  defines_same (RawStore x m at ty) h = refl
  defines_same (Constant r z ty) h = new_same r h
  defines_same (Binary r op x y ty) h = new_same r h.0
  defines_same (Cast r kind x from to) h = new_same r h.0
  defines_same (Alloc r ty) h = new_same r h.0
  defines_same (Dealloc m ty) h = refl
  defines_same (Start x x_at y y_at z z_at n stride types) h = refl
  defines_same (Wait z at n ty) h = refl
  defines_same Return h = refl

  pub dimension_same : (n : Name) → own n ≡ true → is_dimension t n ≡ is_dimension s n
  unfolding is_dimension
  dimension_same n o = ap may_be_dimension (same n o)

  pub symbol_same : (n : Name) → own n ≡ true → is_symbol t n ≡ is_symbol s n
  unfolding is_symbol
  symbol_same n o = ap may_be_symbol (same n o)

  pub value_same : (n : Name) → own n ≡ true → is_value t n ≡ is_value s n
  unfolding is_value
  value_same n o = ap (λ b. not (is_memref b)) (same n o)

  values_same : (ns : List Name) → OwnNames own ns → are_values t ns ≡ are_values s ns
  unfolding are_values
  values_same ns o = all_same is_value value_same ns o

  take_own : (k : ℕ) (ns : List Name) → OwnNames own ns → OwnNames own (take k ns)
  take_own zero ns h = tt
  take_own (suc k) [] h = tt
  take_own (suc k) (n ∷ ns) h = (h.0, take_own k ns h.1)

  drop_own : (k : ℕ) (ns : List Name) → OwnNames own ns → OwnNames own (drop k ns)
  drop_own zero ns h = h
  drop_own (suc k) [] h = tt
  drop_own (suc k) (n ∷ ns) h = drop_own k ns h.1

  pub operands_same : (k : ℕ) (ns : List Name) → OwnNames own ns → operands_stand t k ns ≡ operands_stand s k ns
  unfolding operands_stand
  operands_same k ns h = λ i. all_same is_dimension dimension_same (take k ns) (take_own k ns h) i && all_same is_symbol symbol_same (drop k ns) (drop_own k ns h) i

  pub bound_stands_same : (l : Bound) → OwnBound own l → bound_stands t l ≡ bound_stands s l
  bound_stands_same (bound.Int z) h = refl
  bound_stands_same (bound.Value n) h = dimension_same n h
  bound_stands_same (bound.Map at) h = operands_same at.map.dims at.operands h

  stand_same : (q : Plain) → OwnPlain own q → uses_stand t q ≡ uses_stand s q
  stand_same (Value r pick at) h = operands_same at.map.dims at.operands h.1
  stand_same (Load r m at ty) h = operands_same at.map.dims at.operands h.1.1
  stand_same (Store x m at ty) h = λ i. value_same x h.0 i && operands_same at.map.dims at.operands h.1.1 i
  stand_same (RawLoad r m at ty) h = values_same at h.2
  stand_same (RawStore x m at ty) h = λ i. value_same x h.0 i && values_same at h.2 i
  stand_same (Constant r z ty) h = refl
  stand_same (Binary r op x y ty) h = λ i. value_same x h.1 i && value_same y h.2 i
  stand_same (Cast r kind x from to) h = value_same x h.1
  stand_same (Alloc r ty) h = refl
  stand_same (Dealloc m ty) h = refl
  stand_same (Start x x_at y y_at z z_at n stride types) h =
      λ i. operands_same x_at.map.dims x_at.operands h.0.1 i && (operands_same y_at.map.dims y_at.operands h.1.1 i && (operands_same z_at.map.dims z_at.operands h.2.1 i && (value_same n h.3 i && values_same (stride_names stride) (pair_own stride h.4) i)))
  stand_same (Wait z at n ty) h = λ i. operands_same at.map.dims at.operands h.0.1 i && value_same n h.1 i
  stand_same Return h = refl

  memref_same : (m : Name) (ty : MemrefType) → own m ≡ true → is_memref_of t m ty ≡ is_memref_of s m ty
  unfolding is_memref_of
  memref_same m ty o = ap (λ b. binding_is_memref_of b ty) (same m o)

  pub scalar_same : (n : Name) (ty : Scalar) → own n ≡ true → is_of t n ty ≡ is_of s n ty
  unfolding is_of
  scalar_same n ty o = ap (λ b. binding_is_scalar b ty) (same n o)

  indexes_same : (ns : List Name) → OwnNames own ns → are_indexes t ns ≡ are_indexes s ns
  unfolding are_indexes
  indexes_same ns o = all_same (λ s n. is_of s n Index) (λ n o. scalar_same n Index o) ns o

  ends_same : (x y z : Name) (types : List MemrefType) → own x ≡ true → own y ≡ true → own z ≡ true → ends_typed t x y z types ≡ ends_typed s x y z types
  ends_same x y z (x_ty ∷ y_ty ∷ t_ty ∷ []) ox oy oz = λ i. memref_same x x_ty ox i && (memref_same y y_ty oy i && (memref_same z t_ty oz i && same_element x_ty.element y_ty.element))
  ends_same x y z [] ox oy oz = refl
  ends_same x y z (x_ty ∷ []) ox oy oz = refl
  ends_same x y z (x_ty ∷ y_ty ∷ []) ox oy oz = refl
  ends_same x y z (x_ty ∷ y_ty ∷ t_ty ∷ u_ty ∷ types) ox oy oz = refl

  types_same : (q : Plain) → OwnPlain own q → types_agree t q ≡ types_agree s q
  types_same (Value r pick at) h = refl
  types_same (Load r m at ty) h = memref_same m ty h.1.0
  types_same (Store x m at ty) h = λ i. scalar_same x (Int ty.element) h.0 i && memref_same m ty h.1.0 i
  types_same (RawLoad r m at ty) h = λ i. memref_same m ty h.1 i && indexes_same at h.2 i
  types_same (RawStore x m at ty) h = λ i. scalar_same x (Int ty.element) h.0 i && (memref_same m ty h.1 i && indexes_same at h.2 i)
  types_same (Constant r z ty) h = refl
  types_same (Binary r op x y ty) h = λ i. scalar_same x ty h.1 i && scalar_same y ty h.2 i
  types_same (Cast r kind x from to) h = λ i. scalar_same x from h.1 i && casts_between kind from to
  types_same (Alloc r ty) h = refl
  types_same (Dealloc m ty) h = memref_same m ty h
  types_same (Start x x_at y y_at z z_at n stride types) h = ends_same x y z types h.0.0 h.1.0 h.2.0
  types_same (Wait z at n ty) h = memref_same z ty h.0.0
  types_same Return h = refl

  -- ---- intervals
  range_same : (n : Name) → own n ≡ true → ranges_in t n ≡ ranges_in s n
  unfolding ranges_in
  range_same n o = ap range_of_binding (same n o)

  ranges_same : (ns : List Name) → OwnNames own ns → map (ranges_in t) ns ≡ map (ranges_in s) ns
  ranges_same [] h = refl
  ranges_same (n ∷ ns) h = λ i. range_same n h.0 i ∷ ranges_same ns h.1 i

  pub at_same : (at : Access) → OwnNames own at.operands → ranges_at (ranges_in t) at ≡ ranges_at (ranges_in s) at
  at_same at h = ap (λ rs. map (range_of (take at.map.dims rs) (drop at.map.dims rs)) at.map.results) (ranges_same at.operands h)

  pub first_same : (l : Bound) → OwnBound own l → first_turn (ranges_in t) l ≡ first_turn (ranges_in s) l
  unfolding first_turn
  first_same (bound.Int z) h = refl
  first_same (bound.Value n) h = ap (λ (r : Range). r.least) (range_same n h)
  first_same (bound.Map at) h = ap (λ rs. over_all int_max (map (λ (r : Range). r.least) rs)) (at_same at h)

  pub last_same : (u : Bound) → OwnBound own u → last_end (ranges_in t) u ≡ last_end (ranges_in s) u
  unfolding last_end
  last_same (bound.Int z) h = refl
  last_same (bound.Value n) h = ap (λ (r : Range). r.greatest) (range_same n h)
  last_same (bound.Map at) h = ap (λ rs. over_all int_min (map (λ (r : Range). r.greatest) rs)) (at_same at h)

  -- ---- V10
  number_same : (n : Name) → own n ≡ true → constant_of t n ≡ constant_of s n
  unfolding constant_of
  number_same n o = ap number_of_binding (same n o)

  stride_same : (two : Option (Name × Name)) → OwnPair own two → stride_well t two ≡ stride_well s two
  stride_same None h = refl
  stride_same (Some two) h = λ i. are_stride_and_chunk (number_same two.0 h.0 i) (number_same two.1 h.1 i)

  allocated_same : (m : Name) → own m ≡ true → is_allocated t m ≡ is_allocated s m
  unfolding is_allocated
  allocated_same m o = ap is_allocation (same m o)

module _ (own : Name → Bool) (a b : Around) (sees : Sees own a b) where
  live_same : (m : Name) → own m ≡ true → is_live b m ≡ is_live a m
  live_same m o = ap not (sees.released m o)

  spaces_same : (q : Plain) (rest rest' : Nest) → OwnPlain own q → ((r : Name) → own r ≡ true → is_released_once r rest' ≡ is_released_once r rest) → spaces_agree b q rest' ≡ spaces_agree a q rest
  spaces_same (Load r m at ty) rest rest' h k = ap (λ x. is_loadable ty && x) (live_same m h.1.0)
  spaces_same (Store x m at ty) rest rest' h k = ap (λ x. is_loadable ty && x) (live_same m h.1.0)
  spaces_same (RawLoad r m at ty) rest rest' h k = ap (λ x. is_loadable ty && x) (live_same m h.1)
  spaces_same (RawStore x m at ty) rest rest' h k = ap (λ x. is_loadable ty && x) (live_same m h.1)
  spaces_same (Alloc r ty) rest rest' h k = ap (λ x. allocates_well ty && x) (k r h.0)
  spaces_same (Dealloc m ty) rest rest' h k = λ i. allocated_same own a.scope b.scope sees.scope m h i && live_same m h i
  spaces_same (Start x x_at y y_at z z_at n stride types) rest rest' h k =
      λ i. ends_in_spaces types && (is_count (number_same own a.scope b.scope sees.scope n h.3 i) && (stride_same own a.scope b.scope sees.scope stride h.4 i && (live_same x h.0.0 i && (live_same y h.1.0 i && live_same z h.2.0 i))))
  spaces_same (Wait z at n ty) rest rest' h k = λ i. nat_eq ty.space 2 && (is_count (number_same own a.scope b.scope sees.scope n h.1 i) && live_same z h.0.0 i)
  spaces_same (Value r pick at) rest rest' h k = refl
  spaces_same (Constant r z ty) rest rest' h k = refl
  spaces_same (Binary r op x y ty) rest rest' h k = refl
  spaces_same (Cast r kind x from to) rest rest' h k = refl
  spaces_same Return rest rest' h k = refl

  pub plain_stays : (q : Plain) (rest rest' : Nest) → OwnPlain own q → ((r : Name) → own r ≡ true → is_released_once r rest' ≡ is_released_once r rest) → Holds a q rest → OnlyTested (rule_of_plain b q rest')
  unfolding rule_of_plain
  plain_stays q rest rest' h k j =
      rules_of_plain (uses_in_scope b.scope q) (defines_new b.scope q) (uses_stand b.scope q) (types_agree b.scope q) (constant_in_range q) (counts_fit q) (maps_pure q) (maps_bounded b.scope q) (spaces_agree b q rest') (elements_within b.totals q) (text_within b)
      (uses_same own a.scope b.scope sees.scope q h ∙ j.uses) (defines_same own a.scope b.scope sees.scope q h ∙ j.new_name) (stand_same own a.scope b.scope sees.scope q h ∙ j.stand) (types_same own a.scope b.scope sees.scope q h ∙ j.types) j.constants j.counts j.pure (spaces_same q rest rest' h k ∙ j.spaces)
