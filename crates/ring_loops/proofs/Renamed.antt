-- A well-formed text under other names.
use Rattle.std.proofs.Common.{◌≡◌, ℕ, ◌+◌, ℤ, List, [], ◌∷◌, ◌++◌, map, refl, sym, ap, ◌∙◌, subst, Bool, true, false}
use Rattle.std.specs.Prelude.{not, ◌&&◌, Option, Some, None, nat_eq, if◌then◌else◌}
use Rattle.std.proofs.lemmas.List.{map-id}
use Rattle.affine_expr.specs.declared.map.Set.{Set}
use Rattle.affine_ast.specs.declared.name.Name.{Name}
use Rattle.affine_ast.specs.declared.types.Access.{Access}
use Rattle.affine_ast.specs.declared.types.Bound.{Bound}
use Rattle.affine_ast.specs.declared.types.Bound.TheVariants as bound
use Rattle.affine_ast.specs.declared.types.MemrefType.{MemrefType}
use Rattle.affine_ast.specs.Names.{same_name, put}
use Rattle.affine_ast.specs.Nest.{Plain, Nest, Nothing, Loop, Branch, Does, Value, Load, Store, RawLoad, RawStore, Constant, Binary, Cast, Alloc, Dealloc, Start, Wait, Return}
use Rattle.affine_ast.specs.Rules.{is_in, is_dealloc_of, deallocs, own_deallocs, is_released_once, allocates_well, is_loadable, is_allocation, is_allocated, is_live, number_of_binding, constant_of, is_count, are_stride_and_chunk, stride_well, ends_in_spaces, spaces_agree, access_pure, bound_pure, step_positive, defines_new, uses_in_scope, uses_stand, types_agree}
use Rattle.affine_ast.specs.Scope.{Binding, Scope, binding_of_constant, Allocation}
use Rattle.numbered_names.specs.Numbers.{defined}
use Rattle.numbered_names.proofs.Owned.{OwnScope}
use Rattle.placement_texts.specs.Own.{OwnNames, OwnBound, OwnPair, OwnPlain}
use Rattle.placement_texts.specs.Renamed.{access_named, bound_named, pair_named, plain_named, named, KeepsApart}
use Rattle.rename_laws.proofs.Rules.{are_same, new_same, bound_same, uses_same, defines_same, operands_same, bound_stands_same, stand_same, types_same, bound_fits_same, set_fits_same, counts_same, pure_same, constants_same}
use Rattle.rename_laws.proofs.Values.{put_named}
use Rattle.ring_validity.specs.Wells.{a_number, around, known_behind, released_behind, PlainWell, LoopWell, ConditionWell, WellFormed}
use Rattle.ring_loops.specs.Law.{RenamedStaysWell, MoreStaysWell}
use Rattle.ring_loops.proofs.Owned.{Owned, OwnedNest, well_owns}

-- ---- under the same names a text is itself
access_same : (at : Access) → access_named (λ n. n) at ≡ at
access_same at = ap (λ (ns : List Name). record { map = at.map; operands = ns }) (map-id at.operands)

bound_itself : (l : Bound) → bound_named (λ n. n) l ≡ l
bound_itself (bound.Int z) = refl
bound_itself (bound.Value n) = refl
bound_itself (bound.Map at) = ap bound.Map (access_same at)

pair_itself : (two : Option (Name × Name)) → pair_named (λ n. n) two ≡ two
pair_itself None = refl
pair_itself (Some two) = refl

plain_itself : (q : Plain) → plain_named (λ n. n) q ≡ q
plain_itself (Value r pick at) = ap (Value r pick) (access_same at)
plain_itself (Load r m at ty) = ap (λ x. Load r m x ty) (access_same at)
plain_itself (Store y m at ty) = ap (λ x. Store y m x ty) (access_same at)
plain_itself (RawLoad r m at ty) = ap (λ x. RawLoad r m x ty) (map-id at)
plain_itself (RawStore y m at ty) = ap (λ x. RawStore y m x ty) (map-id at)
plain_itself (Constant r z ty) = refl
plain_itself (Binary r op x y ty) = refl
plain_itself (Cast r kind x from to) = refl
plain_itself (Alloc r ty) = refl
plain_itself (Dealloc m ty) = refl
plain_itself (Start x x_at y y_at t t_at n stride types) = λ i. Start x (access_same x_at i) y (access_same y_at i) t (access_same t_at i) n (pair_itself stride i) types
plain_itself (Wait t at n ty) = ap (λ x. Wait t x n ty) (access_same at)
plain_itself Return = refl

itself : (n : Nest) → named (λ n. n) n ≡ n
itself Nothing = refl
itself (Loop line v l u step body rest) = λ i. Loop line v (bound_itself l i) (bound_itself u i) step (itself body i) (itself rest i)
itself (Branch line set names first has other rest) = λ i. Branch line set (map-id names i) (itself first i) has (itself other i) (itself rest i)
itself (Does line q rest) = λ i. Does line (plain_itself q i) (itself rest i)

pure_bounds : (f : Name → Name) (l : Bound) → bound_pure (bound_named f l) ≡ bound_pure l
unfolding access_pure
pure_bounds f (bound.Int z) = refl
pure_bounds f (bound.Value n) = refl
pure_bounds f (bound.Map at) = refl

module _ (f : Name → Name) (own : Name → Bool) (apart : KeepsApart f own) where
  -- ---- what is released, and how often
  one_dealloc : (m : Name) (q : Plain) → own m ≡ true → Owned own q → is_dealloc_of (f m) (plain_named f q) ≡ is_dealloc_of m q
  one_dealloc m (Dealloc x ty) o h = ap (λ c. if c then 1 else 0) (apart x m h o)
  one_dealloc m (Value r pick at) o h = refl
  one_dealloc m (Load r x at ty) o h = refl
  one_dealloc m (Store x y at ty) o h = refl
  one_dealloc m (RawLoad r x at ty) o h = refl
  one_dealloc m (RawStore x y at ty) o h = refl
  one_dealloc m (Constant r z ty) o h = refl
  one_dealloc m (Binary r op x y ty) o h = refl
  one_dealloc m (Cast r kind x from to) o h = refl
  one_dealloc m (Alloc r ty) o h = refl
  one_dealloc m (Start x x_at y y_at z z_at n stride types) o h = refl
  one_dealloc m (Wait z at n ty) o h = refl
  one_dealloc m Return o h = refl

  pub all_deallocs : (m : Name) (n : Nest) → own m ≡ true → OwnedNest own n → deallocs (f m) (named f n) ≡ deallocs m n
  unfolding deallocs
  all_deallocs m Nothing o h = refl
  all_deallocs m (Loop line v l u s body rest) o h = λ i. all_deallocs m body o h.3 i + all_deallocs m rest o h.4 i
  all_deallocs m (Branch line set names first has other rest) o h = λ i. all_deallocs m first o h.1 i + (all_deallocs m other o h.2 i + all_deallocs m rest o h.3 i)
  all_deallocs m (Does line q rest) o h = λ i. one_dealloc m q o h.0 i + all_deallocs m rest o h.1 i

  region_deallocs : (m : Name) (n : Nest) → own m ≡ true → OwnedNest own n → own_deallocs (f m) (named f n) ≡ own_deallocs m n
  unfolding own_deallocs
  region_deallocs m Nothing o h = refl
  region_deallocs m (Loop line v l u s body rest) o h = region_deallocs m rest o h.4
  region_deallocs m (Branch line set names first has other rest) o h = region_deallocs m rest o h.3
  region_deallocs m (Does line q rest) o h = λ i. one_dealloc m q o h.0 i + region_deallocs m rest o h.1 i

  released_once : (m : Name) (n : Nest) → own m ≡ true → OwnedNest own n → is_released_once (f m) (named f n) ≡ is_released_once m n
  unfolding is_released_once
  released_once m n o h = λ i. nat_eq (all_deallocs m n o h i) 1 && nat_eq (region_deallocs m n o h i) 1

  module _ (s t : Scope) (d e : Name → Bool) (same : (m : Name) → own m ≡ true → t (f m) ≡ s m) (freed : (m : Name) → own m ≡ true → e (f m) ≡ d m) where
    live : (m : Name) → own m ≡ true → is_live (around t e) (f m) ≡ is_live (around s d) m
    live m o = ap not (freed m o)

    allocated : (m : Name) → own m ≡ true → is_allocated t (f m) ≡ is_allocated s m
    unfolding is_allocated
    allocated m o = ap is_allocation (same m o)

    constant : (n : Name) → own n ≡ true → constant_of t (f n) ≡ constant_of s n
    unfolding constant_of
    constant n o = ap number_of_binding (same n o)

    chunks : (two : Option (Name × Name)) → OwnPair own two → stride_well t (pair_named f two) ≡ stride_well s two
    chunks None o = refl
    chunks (Some two) o = λ i. are_stride_and_chunk (constant two.0 o.0 i) (constant two.1 o.1 i)

    spaces : (q : Plain) (rest : Nest) → Owned own q → OwnedNest own rest → spaces_agree (around t e) (plain_named f q) (named f rest) ≡ spaces_agree (around s d) q rest
    spaces (Value x pick at) rest h k = refl
    spaces (Load x m at ty) rest h k = ap (λ c. is_loadable ty && c) (live m h.1.0)
    spaces (Store x m at ty) rest h k = ap (λ c. is_loadable ty && c) (live m h.1.0)
    spaces (RawLoad x m at ty) rest h k = ap (λ c. is_loadable ty && c) (live m h.1)
    spaces (RawStore x m at ty) rest h k = ap (λ c. is_loadable ty && c) (live m h.1)
    spaces (Constant x z ty) rest h k = refl
    spaces (Binary x op y z ty) rest h k = refl
    spaces (Cast x kind y from to) rest h k = refl
    spaces (Alloc x ty) rest h k = ap (λ c. allocates_well ty && c) (released_once x rest h k)
    spaces (Dealloc m ty) rest h k = λ i. allocated m h i && live m h i
    spaces (Start x x_at y y_at z z_at n stride types) rest h k =
        λ i. ends_in_spaces types && (is_count (constant n h.3 i) && (chunks stride h.4 i && (live x h.0.0 i && (live y h.1.0 i && live z h.2.0 i))))
    spaces (Wait z at n ty) rest h k = λ i. nat_eq ty.space 2 && (is_count (constant n h.1 i) && live z h.0.0 i)
    spaces Return rest h k = refl

    -- ---- statements
    statement : (q : Plain) (rest : Nest) → OwnPlain own q → Owned own q → OwnedNest own rest → PlainWell s d q rest → PlainWell t e (plain_named f q) (named f rest)
    statement q rest h o k w = record {
      uses = uses_same f own s t same q h ∙ w.uses;
      new_name = defines_same f own s t same q h ∙ w.new_name;
      stand = stand_same f own s t same q h ∙ w.stand;
      types = types_same f own s t same q h ∙ w.types;
      constants = constants_same f q ∙ w.constants;
      counts = counts_same f q ∙ w.counts;
      pure = pure_same f q ∙ w.pure;
      spaces = spaces q rest o k ∙ w.spaces;
    }

    alloc : (r : Name) (ty : MemrefType) (rest : Nest) → own r ≡ true → OwnedNest own rest → PlainWell s d (Alloc r ty) rest → PlainWell t e (Alloc (f r) ty) (named f rest)
    alloc r ty rest o k w = record {
      uses = w.uses;
      new_name = new_same f own s t same r o ∙ w.new_name;
      stand = w.stand;
      types = w.types;
      constants = w.constants;
      counts = w.counts;
      pure = w.pure;
      spaces = spaces (Alloc r ty) rest o k ∙ w.spaces;
    }

    plain : (q : Plain) (rest : Nest) → Owned own q → OwnedNest own rest → PlainWell s d q rest → PlainWell t e (plain_named f q) (named f rest)
    plain (Alloc r ty) rest o k w = alloc r ty rest o k w
    plain (Value r pick at) rest o k w = statement (Value r pick at) rest o o k w
    plain (Load r m at ty) rest o k w = statement (Load r m at ty) rest o o k w
    plain (Store x m at ty) rest o k w = statement (Store x m at ty) rest o o k w
    plain (RawLoad r m at ty) rest o k w = statement (RawLoad r m at ty) rest o o k w
    plain (RawStore x m at ty) rest o k w = statement (RawStore x m at ty) rest o o k w
    plain (Constant r z ty) rest o k w = statement (Constant r z ty) rest o o k w
    plain (Binary r op x y ty) rest o k w = statement (Binary r op x y ty) rest o o k w
    plain (Cast r kind x from to) rest o k w = statement (Cast r kind x from to) rest o o k w
    plain (Dealloc m ty) rest o k w = statement (Dealloc m ty) rest o o k w
    plain (Start x x_at y y_at z z_at n stride types) rest o k w = statement (Start x x_at y y_at z z_at n stride types) rest o o k w
    plain (Wait z at n ty) rest o k w = statement (Wait z at n ty) rest o o k w
    plain Return rest o k w = statement Return rest o o k w

    loop : (v : Name) (l u : Bound) (step : ℤ) → own v ≡ true → OwnBound own l → OwnBound own u → LoopWell s v l u step → LoopWell t (f v) (bound_named f l) (bound_named f u) step
    loop v l u step o hl hu w = record {
      uses = (λ i. bound_same f own s t same l hl i && bound_same f own s t same u hu i) ∙ w.uses;
      new_name = new_same f own s t same v o ∙ w.new_name;
      stand = (λ i. bound_stands_same f own s t same l hl i && bound_stands_same f own s t same u hu i) ∙ w.stand;
      fits = (λ i. bound_fits_same f l i && bound_fits_same f u i) ∙ w.fits;
      pure = (λ i. pure_bounds f l i && (pure_bounds f u i && step_positive step)) ∙ w.pure;
    }

    next : (q : Plain) → Owned own q → (m : Name) → own m ≡ true → known_behind (plain_named f q) t (f m) ≡ known_behind q s m
    next (Value r pick at) h m o = put_named f own s t r _ _ apart h.0 refl same m o
    next (Load r x at ty) h m o = put_named f own s t r _ _ apart h.0 refl same m o
    next (Store x y at ty) h m o = same m o
    next (RawLoad r x at ty) h m o = put_named f own s t r _ _ apart h.0 refl same m o
    next (RawStore x y at ty) h m o = same m o
    next (Constant r z ty) h m o = put_named f own s t r _ _ apart h refl same m o
    next (Binary r op x y ty) h m o = put_named f own s t r _ _ apart h.0 refl same m o
    next (Cast r kind x from to) h m o = put_named f own s t r _ _ apart h.0 refl same m o
    next (Alloc r ty) h m o = put_named f own s t r _ _ apart h refl same m o
    next (Dealloc x ty) h m o = same m o
    next (Start x x_at y y_at z z_at n stride types) h m o = same m o
    next (Wait z at n ty) h m o = same m o
    next Return h m o = same m o

    next_freed : (q : Plain) → Owned own q → (m : Name) → own m ≡ true → released_behind (plain_named f q) e (f m) ≡ released_behind q d m
    next_freed (Dealloc x ty) h m o = put_named f own d e x true true apart h refl freed m o
    next_freed (Value r pick at) h m o = freed m o
    next_freed (Load r x at ty) h m o = freed m o
    next_freed (Store x y at ty) h m o = freed m o
    next_freed (RawLoad r x at ty) h m o = freed m o
    next_freed (RawStore x y at ty) h m o = freed m o
    next_freed (Constant r z ty) h m o = freed m o
    next_freed (Binary r op x y ty) h m o = freed m o
    next_freed (Cast r kind x from to) h m o = freed m o
    next_freed (Alloc r ty) h m o = freed m o
    next_freed (Start x x_at y y_at z z_at n stride types) h m o = freed m o
    next_freed (Wait z at n ty) h m o = freed m o
    next_freed Return h m o = freed m o

    condition : (set : Set) (names : List Name) → OwnNames own names → ConditionWell s set names → ConditionWell t set (map f names)
    condition set names h w = record {
      uses = are_same f own s t same names h ∙ w.uses;
      stand = operands_same f own s t same set.dims names h ∙ w.stand;
      fits = set_fits_same f set names ∙ w.fits;
      pure = w.pure;
    }

  named_well : (n : Nest) (s t : Scope) (d e : Name → Bool) → OwnedNest own n → ((m : Name) → own m ≡ true → t (f m) ≡ s m) → ((m : Name) → own m ≡ true → e (f m) ≡ d m) → WellFormed n s d → WellFormed (named f n) t e
  named_well Nothing s t d e h same freed w = tt
  named_well (Loop line v l u step body rest) s t d e h same freed w = (
    loop s t d e same freed v l u step h.0 h.1 h.2 w.0,
    named_well body (put s v a_number) (put t (f v) a_number) d e h.3 (λ m o. put_named f own s t v a_number a_number apart h.0 refl same m o) freed w.1,
    named_well rest s t d e h.4 same freed w.2,
  )
  named_well (Branch line set names first has other rest) s t d e h same freed w =
      (condition s t d e same freed set names h.0 w.0, named_well first s t d e h.1 same freed w.1, named_well other s t d e h.2 same freed w.2, named_well rest s t d e h.3 same freed w.3)
  named_well (Does line q rest) s t d e h same freed w = (
    plain s t d e same freed q rest h.0 h.1 w.0,
    named_well rest (known_behind q s) (known_behind (plain_named f q) t) (released_behind q d) (released_behind (plain_named f q) e) h.1 (next s t d e same freed q h.0) (next_freed s t d e same freed q h.0) w.1,
  )

pub renamed_well : RenamedStaysWell
renamed_well f own n s t d e apart scope names same freed w = named_well f own apart n s t d e (well_owns own n s d scope names w) same freed w

pub more_well : MoreStaysWell
more_well own n s t d e scope names same freed w = subst (λ k. WellFormed k t e) (itself n) (renamed_well (λ n. n) own n s t d e (λ a b o p. refl) scope names same freed w)
