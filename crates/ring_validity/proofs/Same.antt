-- What the rules ask of a statement is the same where the names that it uses stand for the same.
use Rattle.std.proofs.Common.{◌≡◌, ℕ, zero, suc, ℤ, List, [], ◌∷◌, ◌++◌, refl, sym, ap, ◌∙◌, Bool, true, false, take, drop}
use Rattle.std.specs.Prelude.{not, ◌&&◌, Option, Some, None, is_some, nat_eq}
use Rattle.std.specs.List.{list_all}
use Rattle.affine_expr.specs.Spread.{Range}
use Rattle.affine_expr.specs.declared.map.Set.{Set}
use Rattle.affine_ast.specs.declared.name.Name.{Name}
use Rattle.affine_ast.specs.declared.types.Access.{Access}
use Rattle.affine_ast.specs.declared.types.Bound.{Bound}
use Rattle.affine_ast.specs.declared.types.Bound.TheVariants as bound
use Rattle.affine_ast.specs.declared.types.MemrefType.{MemrefType}
use Rattle.affine_ast.specs.declared.types.Scalar.{Scalar}
use Rattle.affine_ast.specs.declared.types.Scalar.TheVariants.{Int, Index}
use Rattle.affine_ast.specs.Nest.{Plain, Nest, Value, Load, Store, RawLoad, RawStore, Constant, Binary, Cast, Alloc, Dealloc, Start, Wait, Return}
use Rattle.affine_ast.specs.Parts.{start_uses, uses_of, result_of}
use Rattle.affine_ast.specs.Scope.{Binding, Variable, Symbol, IndexConstant, Data, MemrefArgument, Allocation, Scope}
use Rattle.affine_ast.specs.Rules.{stride_names, is_in, are_in, place_in, bound_in, uses_in_scope, is_new, is_new_result, defines_new, may_be_dimension, may_be_symbol, is_memref, is_dimension, is_symbol, is_value, are_values, operands_stand, bound_stands, uses_stand, same_element, binding_is_memref_of, binding_is_scalar, is_memref_of, is_of, casts_between, are_indexes, ends_typed, types_agree, is_released_once, is_loadable, allocates_well, ends_in_spaces, is_allocation, is_allocated, number_of_binding, is_count, are_stride_and_chunk, constant_of, stride_well, is_live, spaces_agree}
use Rattle.ring_validity.specs.Bodies.{bound_uses}
use Rattle.ring_validity.specs.Wells.{kind_of, around, PlainWell, LoopWell, ConditionWell}

-- what is the same of all intervals hangs on the kind
of_kind : {A : Type 0} (f : Option Binding → A) → ((r q : Range) → f (Some (Variable r)) ≡ f (Some (Variable q))) → (b : Option Binding) → f (kind_of b) ≡ f b
of_kind f h None = refl
of_kind f h (Some (Variable r)) = h _ r
of_kind f h (Some (Symbol r)) = refl
of_kind f h (Some (IndexConstant z)) = refl
of_kind f h (Some (Data ty)) = refl
of_kind f h (Some (MemrefArgument ty)) = refl
of_kind f h (Some (Allocation ty)) = refl

module _ (s t : Scope) (d e : Name → Bool) where
  -- a name stands for the same kind, and is as much released
  abbrev pub Same : Name → Type 0
  Same n = (kind_of (t n) ≡ kind_of (s n)) × (e n ≡ d n)

  abbrev pub AllSame : List Name → Type 0
  AllSame [] = Unit {0}
  AllSame (n ∷ ns) = Same n × AllSame ns

  pub both_same : (ns ms : List Name) → AllSame (ns ++ ms) → AllSame ns × AllSame ms
  both_same [] ms h = (tt, h)
  both_same (n ∷ ns) ms h = let r = both_same ns ms h.1 in ((h.0, r.0), r.1)

  by_kind : {A : Type 0} (f : Option Binding → A) → ((r q : Range) → f (Some (Variable r)) ≡ f (Some (Variable q))) → (n : Name) → Same n → f (t n) ≡ f (s n)
  by_kind f h n same = sym (of_kind f h (t n)) ∙ ap f same.0 ∙ of_kind f h (s n)

  all_by : (f : Scope → Name → Bool) → ((n : Name) → Same n → f t n ≡ f s n) → (ns : List Name) → AllSame ns → list_all (f t) ns ≡ list_all (f s) ns
  all_by f h [] o = refl
  all_by f h (n ∷ ns) o = λ i. h n o.0 i && all_by f h ns o.1 i

  -- ---- scope
  pub in_same : (n : Name) → Same n → is_in t n ≡ is_in s n
  unfolding is_in
  in_same n o = by_kind is_some (λ r q. refl) n o

  pub are_same : (ns : List Name) → AllSame ns → are_in t ns ≡ are_in s ns
  unfolding are_in
  are_same ns o = all_by is_in in_same ns o

  pub new_same : (n : Name) → Same n → is_new t n ≡ is_new s n
  new_same n o = ap not (in_same n o)

  pub bound_same : (l : Bound) → AllSame (bound_uses l) → bound_in t l ≡ bound_in s l
  bound_same (bound.Int z) h = refl
  bound_same (bound.Value n) h = in_same n h.0
  bound_same (bound.Map at) h = are_same at.operands h

  -- the parts of a start's uses
  record StartSame (x : Name) (x_at : Access) (y : Name) (y_at : Access) (z : Name) (z_at : Access) (n : Name) (stride : Option (Name × Name)) : Type 0 where
    from : Same x
    from_at : AllSame x_at.operands
    to : Same y
    to_at : AllSame y_at.operands
    tag : Same z
    tag_at : AllSame z_at.operands
    count : Same n
    chunks : AllSame (stride_names stride)

  start_same : (x : Name) (x_at : Access) (y : Name) (y_at : Access) (z : Name) (z_at : Access) (n : Name) (stride : Option (Name × Name)) → AllSame (start_uses x x_at y y_at z z_at n stride) → StartSame x x_at y y_at z z_at n stride
  start_same x x_at y y_at z z_at n stride h =
      let a = both_same x_at.operands (y ∷ y_at.operands ++ (z ∷ z_at.operands ++ (n ∷ stride_names stride))) h.1 in
      let b = both_same y_at.operands (z ∷ z_at.operands ++ (n ∷ stride_names stride)) a.1.1 in
      let c = both_same z_at.operands (n ∷ stride_names stride) b.1.1 in
      record { from = h.0; from_at = a.0; to = a.1.0; to_at = b.0; tag = b.1.0; tag_at = c.0; count = c.1.0; chunks = c.1.1 }

  pub place_same : (m : Name) (at : Access) → Same m → AllSame at.operands → place_in t m at ≡ place_in s m at
  place_same m at o h = λ i. in_same m o i && are_same at.operands h i

  uses_same : (q : Plain) → AllSame (uses_of q) → uses_in_scope t q ≡ uses_in_scope s q
  uses_same (Value r pick at) h = are_same at.operands h
  uses_same (Load r m at ty) h = place_same m at h.0 h.1
  uses_same (Store x m at ty) h = λ i. in_same x h.0 i && place_same m at h.1.0 h.1.1 i
  uses_same (RawLoad r m at ty) h = λ i. in_same m h.0 i && are_same at h.1 i
  uses_same (RawStore x m at ty) h = λ i. in_same x h.0 i && (in_same m h.1.0 i && are_same at h.1.1 i)
  uses_same (Constant r z ty) h = refl
  uses_same (Binary r op x y ty) h = λ i. in_same x h.0 i && in_same y h.1.0 i
  uses_same (Cast r kind x from to) h = in_same x h.0
  uses_same (Alloc r ty) h = refl
  uses_same (Dealloc m ty) h = in_same m h.0
  uses_same (Start x x_at y y_at z z_at n stride types) h =
      let p = start_same x x_at y y_at z z_at n stride h in
      λ i. place_same x x_at p.from p.from_at i && (place_same y y_at p.to p.to_at i && (place_same z z_at p.tag p.tag_at i && (in_same n p.count i && are_same (stride_names stride) p.chunks i)))
  uses_same (Wait z at n ty) h =
      let p = both_same at.operands (n ∷ []) h.1 in
      λ i. place_same z at h.0 p.0 i && in_same n p.1.0 i
  uses_same Return h = refl

  -- ---- where dimensions, symbols and values stand
  pub dimension_same : (n : Name) → Same n → is_dimension t n ≡ is_dimension s n
  unfolding is_dimension
  dimension_same n o = by_kind may_be_dimension (λ r q. refl) n o

  pub symbol_same : (n : Name) → Same n → is_symbol t n ≡ is_symbol s n
  unfolding is_symbol
  symbol_same n o = by_kind may_be_symbol (λ r q. refl) n o

  pub value_same : (n : Name) → Same n → is_value t n ≡ is_value s n
  unfolding is_value
  value_same n o = ap not (by_kind is_memref (λ r q. refl) n o)

  pub values_same : (ns : List Name) → AllSame ns → are_values t ns ≡ are_values s ns
  unfolding are_values
  values_same ns o = all_by is_value value_same ns o

  take_same : (k : ℕ) (ns : List Name) → AllSame ns → AllSame (take k ns)
  take_same zero ns h = tt
  take_same (suc k) [] h = tt
  take_same (suc k) (n ∷ ns) h = (h.0, take_same k ns h.1)

  drop_same : (k : ℕ) (ns : List Name) → AllSame ns → AllSame (drop k ns)
  drop_same zero ns h = h
  drop_same (suc k) [] h = tt
  drop_same (suc k) (n ∷ ns) h = drop_same k ns h.1

  pub operands_same : (k : ℕ) (ns : List Name) → AllSame ns → operands_stand t k ns ≡ operands_stand s k ns
  unfolding operands_stand
  operands_same k ns h = λ i. all_by is_dimension dimension_same (take k ns) (take_same k ns h) i && all_by is_symbol symbol_same (drop k ns) (drop_same k ns h) i

  pub bound_stands_same : (l : Bound) → AllSame (bound_uses l) → bound_stands t l ≡ bound_stands s l
  bound_stands_same (bound.Int z) h = refl
  bound_stands_same (bound.Value n) h = dimension_same n h.0
  bound_stands_same (bound.Map at) h = operands_same at.map.dims at.operands h

  stand_same : (q : Plain) → AllSame (uses_of q) → uses_stand t q ≡ uses_stand s q
  stand_same (Value r pick at) h = operands_same at.map.dims at.operands h
  stand_same (Load r m at ty) h = operands_same at.map.dims at.operands h.1
  stand_same (Store x m at ty) h = λ i. value_same x h.0 i && operands_same at.map.dims at.operands h.1.1 i
  stand_same (RawLoad r m at ty) h = values_same at h.1
  stand_same (RawStore x m at ty) h = λ i. value_same x h.0 i && values_same at h.1.1 i
  stand_same (Constant r z ty) h = refl
  stand_same (Binary r op x y ty) h = λ i. value_same x h.0 i && value_same y h.1.0 i
  stand_same (Cast r kind x from to) h = value_same x h.0
  stand_same (Alloc r ty) h = refl
  stand_same (Dealloc m ty) h = refl
  stand_same (Start x x_at y y_at z z_at n stride types) h =
      let p = start_same x x_at y y_at z z_at n stride h in
      λ i. operands_same x_at.map.dims x_at.operands p.from_at i && (operands_same y_at.map.dims y_at.operands p.to_at i && (operands_same z_at.map.dims z_at.operands p.tag_at i && (value_same n p.count i && values_same (stride_names stride) p.chunks i)))
  stand_same (Wait z at n ty) h =
      let p = both_same at.operands (n ∷ []) h.1 in
      λ i. operands_same at.map.dims at.operands p.0 i && value_same n p.1.0 i
  stand_same Return h = refl

  -- ---- types
  pub memref_same : (m : Name) (ty : MemrefType) → Same m → is_memref_of t m ty ≡ is_memref_of s m ty
  unfolding is_memref_of
  memref_same m ty o = by_kind (λ b. binding_is_memref_of b ty) (λ r q. refl) m o

  pub scalar_same : (n : Name) (ty : Scalar) → Same n → is_of t n ty ≡ is_of s n ty
  unfolding is_of
  scalar_same n ty o = by_kind (λ b. binding_is_scalar b ty) (λ r q. refl) n o

  indexes_same : (ns : List Name) → AllSame ns → are_indexes t ns ≡ are_indexes s ns
  unfolding are_indexes
  indexes_same ns o = all_by (λ s n. is_of s n Index) (λ n o. scalar_same n Index o) ns o

  ends_same : (x y z : Name) (types : List MemrefType) → Same x → Same y → Same z → ends_typed t x y z types ≡ ends_typed s x y z types
  ends_same x y z (x_ty ∷ y_ty ∷ t_ty ∷ []) ox oy oz = λ i. memref_same x x_ty ox i && (memref_same y y_ty oy i && (memref_same z t_ty oz i && same_element x_ty.element y_ty.element))
  ends_same x y z [] ox oy oz = refl
  ends_same x y z (x_ty ∷ []) ox oy oz = refl
  ends_same x y z (x_ty ∷ y_ty ∷ []) ox oy oz = refl
  ends_same x y z (x_ty ∷ y_ty ∷ t_ty ∷ u_ty ∷ types) ox oy oz = refl

  types_same : (q : Plain) → AllSame (uses_of q) → types_agree t q ≡ types_agree s q
  types_same (Value r pick at) h = refl
  types_same (Load r m at ty) h = memref_same m ty h.0
  types_same (Store x m at ty) h = λ i. scalar_same x (Int ty.element) h.0 i && memref_same m ty h.1.0 i
  types_same (RawLoad r m at ty) h = λ i. memref_same m ty h.0 i && indexes_same at h.1 i
  types_same (RawStore x m at ty) h = λ i. scalar_same x (Int ty.element) h.0 i && (memref_same m ty h.1.0 i && indexes_same at h.1.1 i)
  types_same (Constant r z ty) h = refl
  types_same (Binary r op x y ty) h = λ i. scalar_same x ty h.0 i && scalar_same y ty h.1.0 i
  types_same (Cast r kind x from to) h = λ i. scalar_same x from h.0 i && casts_between kind from to
  types_same (Alloc r ty) h = refl
  types_same (Dealloc m ty) h = memref_same m ty h.0
  types_same (Start x x_at y y_at z z_at n stride types) h =
      let p = start_same x x_at y y_at z z_at n stride h in
      ends_same x y z types p.from p.to p.tag
  types_same (Wait z at n ty) h = memref_same z ty h.0
  types_same Return h = refl

  -- ---- spaces, and what is released
  pub number_same : (n : Name) → Same n → constant_of t n ≡ constant_of s n
  unfolding constant_of
  number_same n o = by_kind number_of_binding (λ r q. refl) n o

  pub stride_same : (two : Option (Name × Name)) → AllSame (stride_names two) → stride_well t two ≡ stride_well s two
  stride_same None h = refl
  stride_same (Some two) h = λ i. are_stride_and_chunk (number_same two.0 h.0 i) (number_same two.1 h.1.0 i)

  allocated_same : (m : Name) → Same m → is_allocated t m ≡ is_allocated s m
  unfolding is_allocated
  allocated_same m o = by_kind is_allocation (λ r q. refl) m o

  pub live_same : (m : Name) → Same m → is_live (around t e) m ≡ is_live (around s d) m
  live_same m o = ap not o.1

  -- an allocation is released once behind the one statement as behind the other
  abbrev pub Again : Plain → Nest → Nest → Type 0
  Again (Alloc r ty) rest rest' = is_released_once r rest' ≡ is_released_once r rest
  Again q rest rest' = Unit {0}

  spaces_same : (q : Plain) (rest rest' : Nest) → AllSame (uses_of q) → Again q rest rest' → spaces_agree (around t e) q rest' ≡ spaces_agree (around s d) q rest
  spaces_same (Load r m at ty) rest rest' h k = ap (λ x. is_loadable ty && x) (live_same m h.0)
  spaces_same (Store x m at ty) rest rest' h k = ap (λ x. is_loadable ty && x) (live_same m h.1.0)
  spaces_same (RawLoad r m at ty) rest rest' h k = ap (λ x. is_loadable ty && x) (live_same m h.0)
  spaces_same (RawStore x m at ty) rest rest' h k = ap (λ x. is_loadable ty && x) (live_same m h.1.0)
  spaces_same (Alloc r ty) rest rest' h k = ap (λ x. allocates_well ty && x) k
  spaces_same (Dealloc m ty) rest rest' h k = λ i. allocated_same m h.0 i && live_same m h.0 i
  spaces_same (Start x x_at y y_at z z_at n stride types) rest rest' h k =
      let p = start_same x x_at y y_at z z_at n stride h in
      λ i. ends_in_spaces types && (is_count (number_same n p.count i) && (stride_same stride p.chunks i && (live_same x p.from i && (live_same y p.to i && live_same z p.tag i))))
  spaces_same (Wait z at n ty) rest rest' h k =
      let p = both_same at.operands (n ∷ []) h.1 in
      λ i. nat_eq ty.space 2 && (is_count (number_same n p.1.0 i) && live_same z h.0 i)
  spaces_same (Value r pick at) rest rest' h k = refl
  spaces_same (Constant r z ty) rest rest' h k = refl
  spaces_same (Binary r op x y ty) rest rest' h k = refl
  spaces_same (Cast r kind x from to) rest rest' h k = refl
  spaces_same Return rest rest' h k = refl

  -- ---- statements
  -- the result, where there is one, is new there
  pub plain_well : (q : Plain) (rest rest' : Nest) → AllSame (uses_of q) → Again q rest rest' → defines_new t q ≡ true → PlainWell s d q rest → PlainWell t e q rest'
  plain_well q rest rest' h k new w = record {
    uses = uses_same q h ∙ w.uses;
    new_name = new;
    stand = stand_same q h ∙ w.stand;
    types = types_same q h ∙ w.types;
    constants = w.constants;
    counts = w.counts;
    pure = w.pure;
    spaces = spaces_same q rest rest' h k ∙ w.spaces;
  }

  pub loop_well : (v : Name) (l u : Bound) (step : ℤ) → AllSame (bound_uses l) → AllSame (bound_uses u) → is_new t v ≡ true → LoopWell s v l u step → LoopWell t v l u step
  loop_well v l u step hl hu new w = record {
    uses = (λ i. bound_same l hl i && bound_same u hu i) ∙ w.uses;
    new_name = new;
    stand = (λ i. bound_stands_same l hl i && bound_stands_same u hu i) ∙ w.stand;
    fits = w.fits;
    pure = w.pure;
  }

  pub condition_well : (set : Set) (names : List Name) → AllSame names → ConditionWell s set names → ConditionWell t set names
  condition_well set names h w = record {
    uses = are_same names h ∙ w.uses;
    stand = operands_same set.dims names h ∙ w.stand;
    fits = w.fits;
    pure = w.pure;
  }
