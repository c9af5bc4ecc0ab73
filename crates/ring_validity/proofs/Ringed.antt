-- The statements of the body, each with the ring: what is well-formed in the single text is so there.
use Rattle.std.proofs.Common.{◌≡◌, ◌⊎◌, inl, inr, ℕ, suc, ◌+◌, ℤ, pos, List, [], ◌∷◌, ◌++◌, length, refl, sym, ap, ◌∙◌, subst, Bool, true, false}
use Rattle.std.specs.Prelude.{not, ◌&&◌, ◌||◌, Option, Some, None, is_some, nat_eq, nat_le, if◌then◌else◌}
use Rattle.std.proofs.lemmas.Bool.{and_parts, or_parts, eq-eqb}
use Rattle.affine_expr.specs.declared.expr.Expr.{Const}
use Rattle.affine_ast.specs.declared.name.Name.{Name}
use Rattle.affine_ast.specs.declared.types.Access.{Access}
use Rattle.affine_ast.specs.declared.types.Bound.{Bound}
use Rattle.affine_ast.specs.declared.types.MemrefType.{MemrefType}
use Rattle.affine_ast.specs.declared.types.Scalar.{Scalar}
use Rattle.affine_ast.specs.declared.types.Scalar.TheVariants.{Int}
use Rattle.affine_ast.specs.Names.{same_name, put}
use Rattle.affine_ast.proofs.Names.{same_name-refl, same_name-is}
use Rattle.affine_ast.specs.Nest.{Plain, Nest, Nothing, Loop, Branch, Does, Value, Load, Store, RawLoad, RawStore, Constant, Binary, Cast, Alloc, Dealloc, Start, Wait, Return}
use Rattle.affine_ast.specs.Parts.{uses_of, result_of, start_uses, stride_names}
use Rattle.affine_ast.specs.Sizes.{element_bits}
use Rattle.affine_ast.specs.Scope.{Binding, IndexConstant, Data, Allocation, Scope, binding_of_constant}
use Rattle.affine_ast.specs.Rules.{is_in, are_in, is_new, is_new_result, defines_new, is_value, are_values, is_dimension, may_be_dimension, is_memref as binds_memref, operands_stand, is_memref_of, binding_is_memref_of, is_of, same_element, ends_typed, subscripts_fit, map_fits, access_pure, is_count, constant_of, number_of_binding, stride_well, is_live, is_loadable, ends_in_spaces, ends_fit, bound_in}
use Rattle.placement_texts.specs.Template.{Placement, dim_extents, fast_name, tag_name, count_name, stride_name, chunk_name, fast_type, slow_type, tag_type, tag_at_zero, at_zeros}
use Rattle.placement_texts.proofs.ScopedAccess.{type_itself}
use Rattle.placement_texts.proofs.BlockForms.{AccessHolds, access_holds, sound_zero}
use Rattle.placement_texts.proofs.BlockStatements.{subscripts_hold}
use Rattle.ring_plans.specs.Rings.{at_place, ring_tags, ring_type, wait_for, late_wait, alloc_in_ring, in_ring, all_in_ring}
use Rattle.ring_validity.specs.Wells.{kind_of, a_number, known_behind, released_behind, around, PlainWell, LoopWell, ConditionWell, WellFormed}
use Rattle.ring_validity.specs.Bodies.{bound_uses, is_memref, is_constant, is_special, NoMemrefs, NotSpecial, IsOther, IsMine, HoldsTemplate, IsRing, Beside}
use Rattle.ring_validity.proofs.Same.{Same, AllSame, are_same, in_same, new_same, value_same, values_same, operands_same, memref_same, scalar_same, number_same, stride_same, Again, plain_well, loop_well, condition_well}
use Rattle.ring_validity.proofs.Places.{place_pure, place_fits, place_uses, place_stands, place_subscripts}
use Rattle.ring_validity.proofs.Body.{uses_are_in, bound_uses_in, all_used, new_there, turn_in, fast_memref, tag_memref, special_parts, beside_put, beside_release, beside_memref, beside_freed, beside_constant}
use Rattle.ring_validity.proofs.Released.{released_same}

fits_of : (at : Access) (ty : MemrefType) → subscripts_fit at ty ≡ true → map_fits at ≡ true
unfolding subscripts_fit
fits_of at ty h = (and_parts (map_fits at) _ h).0

one_in : (s : Scope) (n : Name) → is_in s n ≡ true → are_in s (n ∷ []) ≡ true
unfolding are_in
one_in s n h = λ i. h i && true

pub no_both : (p : Placement) (ns ms : List Name) → NoMemrefs p (ns ++ ms) → NoMemrefs p ns × NoMemrefs p ms
no_both p [] ms h = (tt, h)
no_both p (n ∷ ns) ms h = let r = no_both p ns ms h.1 in ((h.0, r.0), r.1)

module _ (buffers : ℕ) (v : Name) (lower upper : Bound) (step : ℤ) (p : Placement) (known : Scope) (is : IsRing buffers v lower upper step p known) where
  abbrev B : Scope → Scope → (Name → Bool) → (Name → Bool) → Type 0
  B s t d e = Beside buffers v lower upper step p known s t d e

  abbrev here : Access → Access
  here at = at_place buffers v lower upper step (pos 0) at

  abbrev half : MemrefType
  half = ring_type buffers v lower upper step p

  abbrev tags : MemrefType
  tags = ring_tags buffers v lower upper step

  -- ---- statements that stay
  other_stays : (line : ℕ) (q : Plain) (rest : Nest) → IsOther p q → in_ring buffers v lower upper step p line q rest ≡ Does line q rest
  other_stays line (Constant r z ty) rest h = ap (λ c. if c then rest else Does line (Constant r z ty) rest) (special_parts buffers v lower upper step p known is r h.result).1
  other_stays line (Alloc r ty) rest h =
      let q = or_parts (same_name (fast_name p.name) r) (same_name (tag_name p.name) r) (special_parts buffers v lower upper step p known is r h.result).0 in
      λ i. if q.1 i then (if p.reads then rest else late_wait buffers v lower upper step p rest) else (if q.0 i then rest else Does line (Alloc r ty) rest)
  other_stays line (Dealloc m ty) rest h = ap (λ c. if c then rest else Does line (Dealloc m ty) rest) h.uses.0
  other_stays line (Start a a_at b b_at t t_at n stride types) rest h =
      let x = no_both p a_at.operands (b ∷ b_at.operands ++ (t ∷ t_at.operands ++ (n ∷ stride_names stride))) h.uses.1 in
      let y = no_both p b_at.operands (t ∷ t_at.operands ++ (n ∷ stride_names stride)) x.1.1 in
      let q = or_parts (same_name (fast_name p.name) t) (same_name (tag_name p.name) t) y.1.0 in
      ap (λ c. if c
      then (if same_name (fast_name p.name) b
      then rest
      else Does line (Start a (here a_at) b b_at t (here t_at) n stride (half ∷ slow_type p ∷ tags ∷ [])) rest)
      else Does line (Start a a_at b b_at t t_at n stride types) rest) q.1
  other_stays line (Wait t at n ty) rest h =
      let q = or_parts (same_name (fast_name p.name) t) (same_name (tag_name p.name) t) h.uses.0 in
      ap (λ c. if c then (if p.reads then Does line (Wait t (here at) n tags) rest else rest) else Does line (Wait t at n ty) rest) q.1
  other_stays line (Load r m at ty) rest h =
      let q = or_parts (same_name (fast_name p.name) m) (same_name (tag_name p.name) m) h.uses.0 in
      ap (λ c. if c then Does line (Load r m (here at) half) rest else Does line (Load r m at ty) rest) q.0
  other_stays line (Store x m at ty) rest h =
      let q = or_parts (same_name (fast_name p.name) m) (same_name (tag_name p.name) m) h.uses.1.0 in
      ap (λ c. if c then Does line (Store x m (here at) half) rest else Does line (Store x m at ty) rest) q.0
  other_stays line (Value r pick at) rest h = refl
  other_stays line (RawLoad r m at ty) rest h = refl
  other_stays line (RawStore x m at ty) rest h = refl
  other_stays line (Binary r op x y ty) rest h = refl
  other_stays line (Cast r kind x from to) rest h = refl
  other_stays line Return rest h = refl

  defines_there : (q : Plain) (s t : Scope) (d e : Name → Bool) → B s t d e → IsOther p q → defines_new s q ≡ true → defines_new t q ≡ true
  defines_there q s t d e w h = by (result_of q) h.result
    where
      by : (o : Option Name) → NotSpecial p o → is_new_result s o ≡ true → is_new_result t o ≡ true
      by None f n = refl
      by (Some r) f n = new_there buffers v lower upper step p known is s t d e w r f n

  beside_behind : (q : Plain) (s t : Scope) (d e : Name → Bool) → B s t d e → IsOther p q → defines_new t q ≡ true → B (known_behind q s) (known_behind q t) (released_behind q d) (released_behind q e)
  beside_behind (Value r pick at) s t d e w h n = beside_put buffers v lower upper step p known is s t d e r _ w h.result n
  beside_behind (Load r m at ty) s t d e w h n = beside_put buffers v lower upper step p known is s t d e r _ w h.result n
  beside_behind (Store x m at ty) s t d e w h n = w
  beside_behind (RawLoad r m at ty) s t d e w h n = beside_put buffers v lower upper step p known is s t d e r _ w h.result n
  beside_behind (RawStore x m at ty) s t d e w h n = w
  beside_behind (Constant r z ty) s t d e w h n = beside_put buffers v lower upper step p known is s t d e r _ w h.result n
  beside_behind (Binary r op x y ty) s t d e w h n = beside_put buffers v lower upper step p known is s t d e r _ w h.result n
  beside_behind (Cast r kind x from to) s t d e w h n = beside_put buffers v lower upper step p known is s t d e r _ w h.result n
  beside_behind (Alloc r ty) s t d e w h n = beside_put buffers v lower upper step p known is s t d e r _ w h.result n
  beside_behind (Dealloc m ty) s t d e w h n = beside_release buffers v lower upper step p known is s t d e m w h.uses.0
  beside_behind (Start x x_at y y_at z z_at n stride types) s t d e w h k = w
  beside_behind (Wait z at n ty) s t d e w h k = w
  beside_behind Return s t d e w h n = w

  abbrev ring : Nest → Nest
  ring n = all_in_ring buffers v lower upper step p n

  again_there : (s t : Scope) (d e : Name → Bool) (q : Plain) (rest : Nest) → IsOther p q → Again s t d e q rest (ring rest)
  again_there s t d e (Alloc r ty) rest h = released_same buffers v lower upper step p r (special_parts buffers v lower upper step p known is r h.result).0 rest
  again_there s t d e (Value r pick at) rest h = tt
  again_there s t d e (Load r m at ty) rest h = tt
  again_there s t d e (Store x m at ty) rest h = tt
  again_there s t d e (RawLoad r m at ty) rest h = tt
  again_there s t d e (RawStore x m at ty) rest h = tt
  again_there s t d e (Constant r z ty) rest h = tt
  again_there s t d e (Binary r op x y ty) rest h = tt
  again_there s t d e (Cast r kind x from to) rest h = tt
  again_there s t d e (Dealloc m ty) rest h = tt
  again_there s t d e (Start x x_at y y_at z z_at n stride types) rest h = tt
  again_there s t d e (Wait z at n ty) rest h = tt
  again_there s t d e Return rest h = tt

  -- ---- statements of the template
  turn_stands : (s t : Scope) (d e : Name → Bool) → B s t d e → is_dimension t v ≡ true
  unfolding is_dimension
  turn_stands s t d e w = ap may_be_dimension w.turn

  allocated : (t : Scope) (m : Name) (ty : MemrefType) → t m ≡ Some (Allocation ty) → (is_in t m ≡ true) × (is_memref_of t m ty ≡ true)
  unfolding is_in is_memref_of
  allocated t m ty h = (ap is_some h, ap (λ b. binding_is_memref_of b ty) h ∙ type_itself ty)

  -- a wait at the place of the turn
  pub wait_well : (t : Scope) (e : Name → Bool) (at : Access) (n : Name) (rest : Nest) → t (tag_name p.name) ≡ Some (Allocation tags) → e (tag_name p.name) ≡ false → is_in t v ≡ true → is_dimension t v ≡ true
      → are_in t at.operands ≡ true → operands_stand t at.map.dims at.operands ≡ true → subscripts_fit at tag_type ≡ true → access_pure at ≡ true → is_in t n ≡ true → is_value t n ≡ true → is_count (constant_of t n) ≡ true
      → PlainWell t e (Wait (tag_name p.name) (here at) n tags) rest
  wait_well t e at n rest there live vin vdim uses stand fits pure nin nval ncount =
      let a = allocated t (tag_name p.name) tags there in
      record {
        uses = λ i. (a.0 i && place_uses buffers v lower upper step is.some is.positive t (pos 0) at vin uses i) && nin i;
        new_name = refl;
        stand = λ i. place_stands buffers v lower upper step is.some is.positive t (pos 0) at (fits_of at tag_type fits) vdim stand i && nval i;
        types = a.1;
        constants = refl;
        counts = place_subscripts buffers v lower upper step is.some is.positive (pos 0) at tag_type tags 1 buffers [] refl refl fits;
        pure = place_pure buffers v lower upper step is.some is.positive (pos 0) at pure;
        spaces = λ i. ncount i && not (live i);
      }

  -- the late wait of an outward placement
  zero_holds : (t : Scope) → AccessHolds t tag_at_zero
  zero_holds t = access_holds t 0 (Const (pos 0) ∷ []) [] refl (sound_zero 0, tt) refl

  zero_fits : (t : Scope) → subscripts_fit tag_at_zero tag_type ≡ true
  zero_fits t = (subscripts_hold t tag_at_zero tag_type (zero_holds t) refl).fits

  count_there : (s t : Scope) (d e : Name → Bool) → B s t d e → t (count_name p.name) ≡ Some (IndexConstant is.count)
  count_there s t d e w = (w.constants (count_name p.name) first is.count_apart).0 ∙ is.counted
    where
      first : is_constant p (count_name p.name) ≡ true
      first = ap (λ x. x || (same_name (stride_name p.name) (count_name p.name) || same_name (chunk_name p.name) (count_name p.name))) (same_name-refl (count_name p.name))

  constant_holds : (t : Scope) (n : Name) (z : ℤ) → t n ≡ Some (IndexConstant z) → (is_in t n ≡ true) × (is_value t n ≡ true) × (constant_of t n ≡ Some z)
  unfolding is_in is_value constant_of
  constant_holds t n z h = (ap is_some h, ap (λ b. not (binds_memref b)) h, ap number_of_binding h)

  late_well : (s t : Scope) (d e : Name → Bool) (rest : Nest) → B s t d e → p.reads ≡ false → WellFormed rest t e → WellFormed (late_wait buffers v lower upper step p rest) t e
  late_well s t d e rest w out h =
      let a = zero_holds t in
      let c = constant_holds t (count_name p.name) is.count (count_there s t d e w) in (
        w.late out,
        (
          wait_well t e tag_at_zero (count_name p.name) Nothing w.tags w.tags_live (turn_in buffers v lower upper step p known is s t d e w) (turn_stands s t d e w) a.uses a.stand (zero_fits t) a.pure c.0 c.1 (ap is_count c.2 ∙ is.least),
          tt,
        ),
        tt,
        h,
      )

  alloc_well : (line : ℕ) (r : Name) (ty : MemrefType) (rest' : Nest) (s t : Scope) (d e : Name → Bool) → IsMine p known (Alloc r ty) → B s t d e
      → (B (put s r (Some (Allocation ty))) t d e → WellFormed rest' t e) → WellFormed (alloc_in_ring buffers v lower upper step p line r ty rest') t e
  alloc_well line r ty rest' s t d e (inl m) w more =
      let tag : same_name (tag_name p.name) r ≡ false = ap (same_name (tag_name p.name)) m.0 ∙ is.memrefs_apart in
      let fast : same_name (fast_name p.name) r ≡ true = same_name-is (fast_name p.name) r (sym m.0) in
      let eq : alloc_in_ring buffers v lower upper step p line r ty rest' ≡ rest' =
      λ i. if tag i then (if p.reads then rest' else late_wait buffers v lower upper step p rest') else (if fast i then rest' else Does line (Alloc r ty) rest') in
      subst (λ n. WellFormed n t e) (sym eq)
      (more (beside_memref buffers v lower upper step p known is s t d e r _ w (ap (is_memref p) m.0 ∙ fast_memref buffers v lower upper step p known is)))
  alloc_well line r ty rest' s t d e (inr m) w more =
      let tag : same_name (tag_name p.name) r ≡ true = same_name-is (tag_name p.name) r (sym m.0) in
      let eq : alloc_in_ring buffers v lower upper step p line r ty rest' ≡ (if p.reads then rest' else late_wait buffers v lower upper step p rest') =
      λ i. if tag i then (if p.reads then rest' else late_wait buffers v lower upper step p rest') else (if same_name (fast_name p.name) r then rest' else Does line (Alloc r ty) rest') in
      let next = more (beside_memref buffers v lower upper step p known is s t d e r _ w (ap (is_memref p) m.0 ∙ tag_memref buffers v lower upper step p known is)) in
      subst (λ n. WellFormed n t e) (sym eq) (by p.reads refl next)
    where
      by : (c : Bool) → p.reads ≡ c → WellFormed rest' t e → WellFormed (if c then rest' else late_wait buffers v lower upper step p rest') t e
      by true h k = k
      by false h k = late_well s t d e rest' w h k

  -- an access of the fast memref
  load_well : (r : Name) (at : Access) (rest rest' : Nest) (s t : Scope) (d e : Name → Bool) → NoMemrefs p at.operands → is_special p r ≡ false → B s t d e → PlainWell s d (Load r (fast_name p.name) at (fast_type p)) rest
      → PlainWell t e (Load r (fast_name p.name) (here at) half) rest'
  load_well r at rest rest' s t d e free new w h =
      let u = and_parts _ _ h.uses in
      let same = all_used buffers v lower upper step p known is s t d e w at.operands free u.1 in
      let a = allocated t (fast_name p.name) half w.fast in
      record {
        uses = λ i. a.0 i && place_uses buffers v lower upper step is.some is.positive t (pos 0) at (turn_in buffers v lower upper step p known is s t d e w) (are_same s t d e at.operands same ∙ u.1) i;
        new_name = new_there buffers v lower upper step p known is s t d e w r new h.new_name;
        stand = place_stands buffers v lower upper step is.some is.positive t (pos 0) at (fits_of at (fast_type p) h.counts) (turn_stands s t d e w) (operands_same s t d e at.map.dims at.operands same ∙ h.stand);
        types = a.1;
        constants = refl;
        counts = place_subscripts buffers v lower upper step is.some is.positive (pos 0) at (fast_type p) half 1 buffers (dim_extents p.dims) refl refl h.counts;
        pure = place_pure buffers v lower upper step is.some is.positive (pos 0) at h.pure;
        spaces = ap not w.fast_live;
      }

  store_well : (x : Name) (at : Access) (rest rest' : Nest) (s t : Scope) (d e : Name → Bool) → NoMemrefs p at.operands → is_memref p x ≡ false → B s t d e → PlainWell s d (Store x (fast_name p.name) at (fast_type p)) rest
      → PlainWell t e (Store x (fast_name p.name) (here at) half) rest'
  store_well x at rest rest' s t d e free nx w h =
      let u0 = and_parts _ _ h.uses in
      let u = and_parts _ _ u0.1 in
      let k = and_parts _ _ h.stand in
      let y = and_parts _ _ h.types in
      let same = all_used buffers v lower upper step p known is s t d e w at.operands free u.1 in
      let stored = (all_used buffers v lower upper step p known is s t d e w (x ∷ []) (nx, tt) (one_in s x u0.0)).0 in
      let a = allocated t (fast_name p.name) half w.fast in
      record {
        uses = λ i. (in_same s t d e x stored ∙ u0.0) i && (a.0 i && place_uses buffers v lower upper step is.some is.positive t (pos 0) at (turn_in buffers v lower upper step p known is s t d e w) (are_same s t d e at.operands same ∙ u.1) i);
        new_name = refl;
        stand = λ i. (value_same s t d e x stored ∙ k.0) i
            && place_stands buffers v lower upper step is.some is.positive t (pos 0) at (fits_of at (fast_type p) h.counts) (turn_stands s t d e w) (operands_same s t d e at.map.dims at.operands same ∙ k.1) i;
        types = λ i. (scalar_same s t d e x (Int p.element) stored ∙ y.0) i && a.1 i;
        constants = refl;
        counts = place_subscripts buffers v lower upper step is.some is.positive (pos 0) at (fast_type p) half 1 buffers (dim_extents p.dims) refl refl h.counts;
        pure = place_pure buffers v lower upper step is.some is.positive (pos 0) at h.pure;
        spaces = ap not w.fast_live;
      }

  -- a transfer out, from the place of the turn
  start_well : (x_at : Access) (y : Name) (y_at t_at : Access) (n : Name) (stride : Option (Name × Name)) (rest rest' : Nest) (s t : Scope) (d e : Name → Bool) → is_memref p y ≡ false → NoMemrefs p x_at.operands → NoMemrefs p y_at.operands → NoMemrefs p t_at.operands
      → is_memref p n ≡ false → NoMemrefs p (stride_names stride) → B s t d e
      → PlainWell s d (Start (fast_name p.name) x_at y y_at (tag_name p.name) t_at n stride (fast_type p ∷ slow_type p ∷ tag_type ∷ [])) rest
      → PlainWell t e (Start (fast_name p.name) (here x_at) y y_at (tag_name p.name) (here t_at) n stride (half ∷ slow_type p ∷ tags ∷ [])) rest'
  start_well x_at y y_at t_at n stride rest rest' s t d e fy fx_at fy_at ft_at fn fs w h =
      let us : (ns : List Name) → NoMemrefs p ns → are_in s ns ≡ true → AllSame s t d e ns = λ ns f i. all_used buffers v lower upper step p known is s t d e w ns f i in
      let vin = turn_in buffers v lower upper step p known is s t d e w in
      let vdim = turn_stands s t d e w in
      let u = and_parts _ _ h.uses in
      let ux = and_parts _ _ u.0 in
      let u1 = and_parts _ _ u.1 in
      let uy = and_parts _ _ u1.0 in
      let u2 = and_parts _ _ u1.1 in
      let ut = and_parts _ _ u2.0 in
      let u3 = and_parts _ _ u2.1 in
      let k = and_parts _ _ h.stand in
      let k1 = and_parts _ _ k.1 in
      let k2 = and_parts _ _ k1.1 in
      let k3 = and_parts _ _ k2.1 in
      let y0 = and_parts (is_memref_of s (fast_name p.name) (fast_type p)) (is_memref_of s y (slow_type p) && (is_memref_of s (tag_name p.name) tag_type && same_element p.element p.element)) h.types in
      let y1 = and_parts (is_memref_of s y (slow_type p)) (is_memref_of s (tag_name p.name) tag_type && same_element p.element p.element) y0.1 in
      let c = and_parts _ _ h.counts in
      let c1 = and_parts _ _ c.1 in
      let m = and_parts _ _ h.pure in
      let m1 = and_parts _ _ m.1 in
      let lives = is_live (around s d) y && is_live (around s d) (tag_name p.name) in
      let z = and_parts (ends_in_spaces (fast_type p ∷ slow_type p ∷ tag_type ∷ [])) (is_count (constant_of s n) && (stride_well s stride && (is_live (around s d) (fast_name p.name) && lives))) h.spaces in
      let z1 = and_parts (is_count (constant_of s n)) (stride_well s stride && (is_live (around s d) (fast_name p.name) && lives)) z.1 in
      let z2 = and_parts (stride_well s stride) (is_live (around s d) (fast_name p.name) && lives) z1.1 in
      let z3 = and_parts (is_live (around s d) (fast_name p.name)) lives z2.1 in
      let sx = us x_at.operands fx_at ux.1 in
      let sy = (us (y ∷ []) (fy, tt) (one_in s y uy.0)).0 in
      let sy_at = us y_at.operands fy_at uy.1 in
      let st = us t_at.operands ft_at ut.1 in
      let sn = (us (n ∷ []) (fn, tt) (one_in s n u3.0)).0 in
      let ss = us (stride_names stride) fs u3.1 in
      let a = allocated t (fast_name p.name) half w.fast in
      let b = allocated t (tag_name p.name) tags w.tags in
      let y_live : not (e y) ≡ true = ap not sy.1 ∙ (and_parts (is_live (around s d) y) (is_live (around s d) (tag_name p.name)) z3.1).0 in
      record {
        uses = λ i. (a.0 i && place_uses buffers v lower upper step is.some is.positive t (pos 0) x_at vin (are_same s t d e x_at.operands sx ∙ ux.1) i)
            && (((in_same s t d e y sy ∙ uy.0) i && (are_same s t d e y_at.operands sy_at ∙ uy.1) i)
            && ((b.0 i && place_uses buffers v lower upper step is.some is.positive t (pos 0) t_at vin (are_same s t d e t_at.operands st ∙ ut.1) i)
            && ((in_same s t d e n sn ∙ u3.0) i && (are_same s t d e (stride_names stride) ss ∙ u3.1) i)));
        new_name = refl;
        stand = λ i. place_stands buffers v lower upper step is.some is.positive t (pos 0) x_at (fits_of x_at (fast_type p) c.0) vdim (operands_same s t d e x_at.map.dims x_at.operands sx ∙ k.0) i
            && ((operands_same s t d e y_at.map.dims y_at.operands sy_at ∙ k1.0) i
            && (place_stands buffers v lower upper step is.some is.positive t (pos 0) t_at (fits_of t_at tag_type c1.1) vdim (operands_same s t d e t_at.map.dims t_at.operands st ∙ k2.0) i
            && ((value_same s t d e n sn ∙ k3.0) i && (values_same s t d e (stride_names stride) ss ∙ k3.1) i)));
        types = λ i. a.1 i && ((memref_same s t d e y (slow_type p) sy ∙ y1.0) i && (b.1 i && eq-eqb (element_bits p.element) (element_bits p.element) refl i));
        constants = refl;
        counts = λ i. place_subscripts buffers v lower upper step is.some is.positive (pos 0) x_at (fast_type p) half 1 buffers (dim_extents p.dims) refl refl c.0 i
            && (c1.0 i && place_subscripts buffers v lower upper step is.some is.positive (pos 0) t_at tag_type tags 1 buffers [] refl refl c1.1 i);
        pure = λ i. place_pure buffers v lower upper step is.some is.positive (pos 0) x_at m.0 i && (m1.0 i && place_pure buffers v lower upper step is.some is.positive (pos 0) t_at m1.1 i);
        spaces = λ i. (ap is_count (number_same s t d e n sn) ∙ z1.0) i && ((stride_same s t d e stride ss ∙ z2.0) i && (not (w.fast_live i) && (y_live i && not (w.tags_live i))));
      }

  -- a template's statement, and what is behind it
  mine_well : (line : ℕ) (q : Plain) (rest rest' : Nest) (s t : Scope) (d e : Name → Bool) → IsMine p known q → PlainWell s d q rest → B s t d e
      → ((t' : Scope) → B (known_behind q s) t' (released_behind q d) e → WellFormed rest' t' e) → WellFormed (in_ring buffers v lower upper step p line q rest') t e
  mine_well line (Constant r z ty) rest rest' s t d e m h w more =
      subst (λ c. WellFormed (if c then rest' else Does line (Constant r z ty) rest') t e) (sym m.0) (more t (beside_constant buffers v lower upper step p known is s t d e r _ w m.0 m.1 m.2))
  mine_well line (Alloc r ty) rest rest' s t d e m h w more = alloc_well line r ty rest' s t d e m w (λ w'. more t w')
  mine_well line (Dealloc x ty) rest rest' s t d e m h w more =
      subst (λ c. WellFormed (if c then rest' else Does line (Dealloc x ty) rest') t e) (sym m) (more t (beside_freed buffers v lower upper step p known is s t d e x w m))
  mine_well line (Load r x at ty) rest rest' s t d e m h w more =
      let same : (x' : Name) (ty' : MemrefType) → x' ≡ fast_name p.name → ty' ≡ fast_type p → PlainWell s d (Load r x' at ty') rest → PlainWell s d (Load r (fast_name p.name) at (fast_type p)) rest = λ x' ty' a b k. subst (λ y. PlainWell s d (Load r (fast_name p.name) at y) rest) b (subst (λ y. PlainWell s d (Load r y at ty') rest) a k) in
      let there = load_well r at rest rest' s t d e m.2 m.3 w (same x ty m.0 m.1 h) in
      let is_fast : same_name (fast_name p.name) x ≡ true = same_name-is (fast_name p.name) x (sym m.0) in
      let next = more (put t r (Some (Data (Int ty.element)))) (beside_put buffers v lower upper step p known is s t d e r _ w m.3 (there.new_name)) in
      subst (λ c. WellFormed (if c then Does line (Load r x (here at) half) rest' else Does line (Load r x at ty) rest') t e) (sym is_fast)
      (subst (λ y. WellFormed (Does line (Load r y (here at) half) rest') t e) (sym m.0)
      (there, subst (λ (y : MemrefType). WellFormed rest' (put t r (Some (Data (Int y.element)))) e) m.1 next))
  mine_well line (Store x y at ty) rest rest' s t d e m h w more =
      let here_h = subst (λ z. PlainWell s d (Store x (fast_name p.name) at z) rest) m.1 (subst (λ z. PlainWell s d (Store x z at ty) rest) m.0 h) in
      let there = store_well x at rest rest' s t d e m.2 m.3 w here_h in
      let is_fast : same_name (fast_name p.name) y ≡ true = same_name-is (fast_name p.name) y (sym m.0) in
      subst (λ c. WellFormed (if c then Does line (Store x y (here at) half) rest' else Does line (Store x y at ty) rest') t e) (sym is_fast)
      (subst (λ z. WellFormed (Does line (Store x z (here at) half) rest') t e) (sym m.0) (there, more t w))
  mine_well line (Start x x_at y y_at z z_at n stride types) rest rest' s t d e (m, inl in_) h w more =
      let is_tag : same_name (tag_name p.name) z ≡ true = same_name-is (tag_name p.name) z (sym m) in
      let is_fast : same_name (fast_name p.name) y ≡ true = same_name-is (fast_name p.name) y (sym in_) in
      let eq : in_ring buffers v lower upper step p line (Start x x_at y y_at z z_at n stride types) rest' ≡ rest' =
      λ i. if is_tag i
      then (if is_fast i then rest' else Does line (Start x (here x_at) y y_at z (here z_at) n stride (half ∷ slow_type p ∷ tags ∷ [])) rest')
      else Does line (Start x x_at y y_at z z_at n stride types) rest' in
      subst (λ k. WellFormed k t e) (sym eq) (more t w)
  mine_well line (Start x x_at y y_at z z_at n stride types) rest rest' s t d e (m, inr out) h w more =
      let is_tag : same_name (tag_name p.name) z ≡ true = same_name-is (tag_name p.name) z (sym m) in
      let apart : same_name (fast_name p.name) y ≡ false = (or_parts (same_name (fast_name p.name) y) (same_name (tag_name p.name) y) out.2).0 in
      let eq : in_ring buffers v lower upper step p line (Start x x_at y y_at z z_at n stride types) rest' ≡ Does line (Start x (here x_at) y y_at z (here z_at) n stride (half ∷ slow_type p ∷ tags ∷ [])) rest' =
      λ i. if is_tag i
      then (if apart i then rest' else Does line (Start x (here x_at) y y_at z (here z_at) n stride (half ∷ slow_type p ∷ tags ∷ [])) rest')
      else Does line (Start x x_at y y_at z z_at n stride types) rest' in
      let h1 = subst (λ k. PlainWell s d (Start k x_at y y_at z z_at n stride types) rest) out.0 h in
      let h2 = subst (λ k. PlainWell s d (Start (fast_name p.name) x_at y y_at k z_at n stride types) rest) m h1 in
      let h3 = subst (λ k. PlainWell s d (Start (fast_name p.name) x_at y y_at (tag_name p.name) z_at n stride k) rest) out.1 h2 in
      let there = start_well x_at y y_at z_at n stride rest rest' s t d e out.2 out.3 out.4 out.5 out.6 out.7 w h3 in
      subst (λ k. WellFormed k t e) (sym eq)
      (subst (λ k. WellFormed (Does line (Start k (here x_at) y y_at z (here z_at) n stride (half ∷ slow_type p ∷ tags ∷ [])) rest') t e) (sym out.0)
      (subst (λ k. WellFormed (Does line (Start (fast_name p.name) (here x_at) y y_at k (here z_at) n stride (half ∷ slow_type p ∷ tags ∷ [])) rest') t e) (sym m) (there, more t w)))
  mine_well line (Wait z at n ty) rest rest' s t d e m h w more =
      let is_tag : same_name (tag_name p.name) z ≡ true = same_name-is (tag_name p.name) z (sym m.0) in
      let h2 = subst (λ k. PlainWell s d (Wait (tag_name p.name) at n k) rest) m.1 (subst (λ k. PlainWell s d (Wait k at n ty) rest) m.0 h) in
      let u = and_parts _ _ h2.uses in
      let ut = and_parts _ _ u.0 in
      let k = and_parts _ _ h2.stand in
      let g = and_parts _ _ h2.spaces in
      let same = all_used buffers v lower upper step p known is s t d e w at.operands m.2 ut.1 in
      let sn = (all_used buffers v lower upper step p known is s t d e w (n ∷ []) (m.3, tt) (one_in s n u.1)).0 in
      let there : PlainWell t e (Wait (tag_name p.name) (here at) n tags) rest' =
      wait_well t e at n rest' w.tags w.tags_live (turn_in buffers v lower upper step p known is s t d e w) (turn_stands s t d e w) (are_same s t d e at.operands same ∙ ut.1) (operands_same s t d e at.map.dims at.operands same ∙ k.0)
      h2.counts h2.pure (in_same s t d e n sn ∙ u.1) (value_same s t d e n sn ∙ k.1) (ap is_count (number_same s t d e n sn) ∙ g.0) in
      subst (λ c. WellFormed (if c then (if p.reads then Does line (Wait z (here at) n tags) rest' else rest') else Does line (Wait z at n ty) rest') t e) (sym is_tag)
      (by p.reads (subst (λ k. PlainWell t e (Wait k (here at) n tags) rest') (sym m.0) there, more t w))
    where
      by : (c : Bool) → WellFormed (Does line (Wait z (here at) n tags) rest') t e → WellFormed (if c then Does line (Wait z (here at) n tags) rest' else rest') t e
      by true k = k
      by false k = k.1
  mine_well line (Value r pick at) rest rest' s t d e m h w more = absurd m
  mine_well line (RawLoad r x at ty) rest rest' s t d e m h w more = absurd m
  mine_well line (RawStore x y at ty) rest rest' s t d e m h w more = absurd m
  mine_well line (Binary r op x y ty) rest rest' s t d e m h w more = absurd m
  mine_well line (Cast r kind x from to) rest rest' s t d e m h w more = absurd m
  mine_well line Return rest rest' s t d e m h w more = absurd m

  -- ---- the body
  pub body_well : (n : Nest) (s t : Scope) (d e : Name → Bool) → HoldsTemplate p known n → WellFormed n s d → B s t d e → WellFormed (ring n) t e
  body_well Nothing s t d e m h w = tt
  body_well (Loop line x l u k body rest) s t d e m h w =
      let q = and_parts (bound_in s l) (bound_in s u) h.0.uses in
      let new = new_there buffers v lower upper step p known is s t d e w x m.0 h.0.new_name in (
        loop_well s t d e x l u k (all_used buffers v lower upper step p known is s t d e w (bound_uses l) m.1 (bound_uses_in s l q.0)) (all_used buffers v lower upper step p known is s t d e w (bound_uses u) m.2 (bound_uses_in s u q.1)) new h.0,
        body_well body (put s x a_number) (put t x a_number) d e m.3 h.1 (beside_put buffers v lower upper step p known is s t d e x a_number w m.0 new),
        body_well rest s t d e m.4 h.2 w,
      )
  body_well (Branch line set names first has other rest) s t d e m h w = (
    condition_well s t d e set names (all_used buffers v lower upper step p known is s t d e w names m.0 h.0.uses) h.0,
    body_well first s t d e m.1 h.1 w,
    body_well other s t d e m.2 h.2 w,
    body_well rest s t d e m.3 h.3 w,
  )
  body_well (Does line q rest) s t d e (inl o, m) h w =
      let new = defines_there q s t d e w o h.0.new_name in
      subst (λ n. WellFormed n t e) (sym (other_stays line q (ring rest) o)) (
        plain_well s t d e q rest (ring rest) (all_used buffers v lower upper step p known is s t d e w (uses_of q) o.uses (uses_are_in s q h.0.uses)) (again_there s t d e q rest o) new h.0,
        body_well rest (known_behind q s) (known_behind q t) (released_behind q d) (released_behind q e) m h.1 (beside_behind q s t d e w o new),
      )
  body_well (Does line q rest) s t d e (inr o, m) h w =
      mine_well line q rest (ring rest) s t d e o h.0 w (λ t' w'. body_well rest (known_behind q s) t' (released_behind q d) e m h.1 w')
