-- The rule on intervals asks of a text only what its names stand for.
use Rattle.std.proofs.Common.{◌≡◌, ℕ, zero, suc, Bool, true, List, [], ◌∷◌, map, take, drop, refl, ap}
use Rattle.std.specs.Prelude.{◌&&◌, Some}
use Rattle.std.specs.List.{list_all}
use Rattle.affine_expr.specs.declared.map.Set.{Set}
use Rattle.affine_ast.specs.declared.name.Name.{Name}
use Rattle.affine_ast.specs.declared.types.Access.{Access}
use Rattle.affine_ast.specs.declared.types.Bound.{Bound}
use Rattle.affine_ast.specs.declared.types.Bound.TheVariants as bound
use Rattle.affine_ast.specs.declared.types.Scalar.TheVariants as scalar
use Rattle.affine_ast.specs.Intervals.{picked_range, turn_range}
use Rattle.affine_ast.specs.Names.{put}
use Rattle.affine_ast.proofs.Names.{put-both}
use Rattle.affine_ast.specs.Nest.{Plain, Nest, Nothing, Loop, Branch, Does, Value, Load, Store, RawLoad, RawStore, Constant, Binary, Cast, Alloc, Dealloc, Start, Wait, Return}
use Rattle.affine_ast.specs.Rules.{has_interval, row_bounded, binding_is_small, is_small_dimension, access_bounded, set_bounded, bound_bounded, maps_bounded}
use Rattle.affine_ast.specs.Scope.{Binding, Variable, Scope, range_of_binding, ranges_in}
use Rattle.placement_texts.specs.Own.{OwnNames, OwnBound, OwnPlain, OwnNest}
use Rattle.placement_texts.specs.Tests.{behind_scope, loop_scope}
use Rattle.placement_texts.proofs.Scoped.{at_same, first_same, last_same}
use Rattle.plan_laws.specs.Limits.{bounded_in}

module _ (own : Name → Bool) where
  -- of the text's names the same is in scope
  abbrev pub Agree : Scope → Scope → Type 0
  Agree s t = (n : Name) → own n ≡ true → t n ≡ s n

  pub take_own : (k : ℕ) (ns : List Name) → OwnNames own ns → OwnNames own (take k ns)
  take_own zero ns h = tt
  take_own (suc k) [] h = tt
  take_own (suc k) (n ∷ ns) h = (h.0, take_own k ns h.1)

  list_same : (f g : Name → Bool) → ((n : Name) → own n ≡ true → g n ≡ f n) → (ns : List Name) → OwnNames own ns → list_all g ns ≡ list_all f ns
  list_same f g h [] o = refl
  list_same f g h (n ∷ ns) o = λ i. h n o.0 i && list_same f g h ns o.1 i

  module _ (s t : Scope) (same : Agree s t) where
    pub small_same : (n : Name) → own n ≡ true → is_small_dimension t n ≡ is_small_dimension s n
    unfolding is_small_dimension
    small_same n o = ap binding_is_small (same n o)

    pub smalls_same : (ns : List Name) → OwnNames own ns → list_all (is_small_dimension t) ns ≡ list_all (is_small_dimension s) ns
    smalls_same ns o = list_same (is_small_dimension s) (is_small_dimension t) small_same ns o

    pub range_same : (n : Name) → own n ≡ true → ranges_in t n ≡ ranges_in s n
    unfolding ranges_in
    range_same n o = ap range_of_binding (same n o)

    pub ranges_same : (ns : List Name) → OwnNames own ns → map (ranges_in t) ns ≡ map (ranges_in s) ns
    ranges_same [] o = refl
    ranges_same (n ∷ ns) o = λ i. range_same n o.0 i ∷ ranges_same ns o.1 i

    pub access_same : (at : Access) → OwnNames own at.operands → access_bounded t at ≡ access_bounded s at
    unfolding access_bounded
    access_same at o =
        λ i. smalls_same (take at.map.dims at.operands) (take_own at.map.dims at.operands o) i
        && list_all (has_interval (take at.map.dims (ranges_same at.operands o i)) (drop at.map.dims (ranges_same at.operands o i))) at.map.results

    pub set_same : (set : Set) (ns : List Name) → OwnNames own ns → set_bounded t set ns ≡ set_bounded s set ns
    unfolding set_bounded
    set_same set ns o =
        λ i. smalls_same (take set.dims ns) (take_own set.dims ns o) i
        && list_all (row_bounded (take set.dims (ranges_same ns o i)) (drop set.dims (ranges_same ns o i))) set.rows

    pub bound_same : (l : Bound) → OwnBound own l → bound_bounded t l ≡ bound_bounded s l
    bound_same (bound.Int z) o = refl
    bound_same (bound.Value n) o = small_same n o
    bound_same (bound.Map at) o = access_same at o

    pub maps_same : (q : Plain) → OwnPlain own q → maps_bounded t q ≡ maps_bounded s q
    maps_same (Value r pick at) o = access_same at o.1
    maps_same (Load r m at ty) o = access_same at o.1.1
    maps_same (Store x m at ty) o = access_same at o.1.1
    maps_same (RawLoad r m at ty) o = refl
    maps_same (RawStore x m at ty) o = refl
    maps_same (Constant r z ty) o = refl
    maps_same (Binary r op x y ty) o = refl
    maps_same (Cast r kind x from to) o = refl
    maps_same (Alloc r ty) o = refl
    maps_same (Dealloc m ty) o = refl
    maps_same (Start x x_at y y_at z z_at n stride types) o = λ i. access_same x_at o.0.1 i && (access_same y_at o.1.1 i && access_same z_at o.2.1 i)
    maps_same (Wait z at n ty) o = access_same at o.0.1
    maps_same Return o = refl

    pub loop_agrees : (v : Name) (l u : Bound) → OwnBound own l → OwnBound own u → Agree (loop_scope v l u s) (loop_scope v l u t)
    loop_agrees v l u hl hu n o = put-both t s v _ _ n (λ i. Some (Variable (turn_range (first_same own s t same l hl i) (last_same own s t same u hu i)))) (same n o)

    put_agrees : (r : Name) (x y : Binding) → y ≡ x → (n : Name) → own n ≡ true → put t r (Some y) n ≡ put s r (Some x) n
    put_agrees r x y e n o = put-both t s r _ _ n (ap (λ b. Some b) e) (same n o)

    pub behind_agrees : (q : Plain) → OwnPlain own q → Agree (behind_scope q s) (behind_scope q t)
    behind_agrees (Value r pick at) o = put_agrees r _ _ (ap (λ rs. Variable (picked_range pick rs)) (at_same own s t same at o.1))
    behind_agrees (Load r m at ty) o = put_agrees r _ _ refl
    behind_agrees (Store x m at ty) o = same
    behind_agrees (RawLoad r m at ty) o = put_agrees r _ _ refl
    behind_agrees (RawStore x m at ty) o = same
    behind_agrees (Constant r z (scalar.Int element)) o = put_agrees r _ _ refl
    behind_agrees (Constant r z scalar.Index) o = put_agrees r _ _ refl
    behind_agrees (Binary r op x y ty) o = put_agrees r _ _ refl
    behind_agrees (Cast r k x from to) o = put_agrees r _ _ refl
    behind_agrees (Alloc r ty) o = put_agrees r _ _ refl
    behind_agrees (Dealloc m ty) o = same
    behind_agrees (Start x x_at y y_at z z_at n stride types) o = same
    behind_agrees (Wait z at n ty) o = same
    behind_agrees Return o = same

  pub text_same : (n : Nest) (s t : Scope) → Agree s t → OwnNest own n → bounded_in n t ≡ bounded_in n s
  text_same Nothing s t same o = refl
  text_same (Loop line v l u step body rest) s t same o =
      λ i. (bound_same s t same l o.1 i && bound_same s t same u o.2 i)
      && (text_same body (loop_scope v l u s) (loop_scope v l u t) (loop_agrees s t same v l u o.1 o.2) o.3 i && text_same rest s t same o.4 i)
  text_same (Branch line set ns first has other rest) s t same o =
      λ i. set_same s t same set ns o.0 i && (text_same first s t same o.1 i && (text_same other s t same o.2 i && text_same rest s t same o.3 i))
  text_same (Does line q rest) s t same o =
      λ i. maps_same s t same q o.0 i && text_same rest (behind_scope q s) (behind_scope q t) (behind_agrees s t same q o.0) o.1 i
