-- An allocation of another name is released in the ring's text as often as in the single text.
use Rattle.std.proofs.Common.{◌≡◌, ℕ, ◌+◌, ℤ, [], ◌∷◌, refl, sym, ap, ◌∙◌, arith, Bool, true, false}
use Rattle.std.specs.Prelude.{◌&&◌, ◌||◌, nat_eq, if◌then◌else◌}
use Rattle.affine_expr.specs.declared.map.Set.{Set}
use Rattle.affine_ast.specs.declared.name.Name.{Name}
use Rattle.affine_ast.specs.declared.types.Bound.{Bound}
use Rattle.affine_ast.specs.declared.types.MemrefType.{MemrefType}
use Rattle.affine_ast.specs.Names.{same_name}
use Rattle.affine_ast.proofs.Names.{same_name-eq}
use Rattle.affine_ast.specs.Nest.{Plain, Nest, Nothing, Loop, Branch, Does, Value, Load, Store, RawLoad, RawStore, Constant, Binary, Cast, Alloc, Dealloc, Start, Wait, Return}
use Rattle.affine_ast.specs.Rules.{is_dealloc_of, deallocs, own_deallocs, is_released_once}
use Rattle.placement_texts.specs.Template.{Placement, fast_name, tag_name}
use Rattle.ring_plans.specs.Rings.{in_ring, alloc_in_ring, all_in_ring, late_wait}
use Rattle.ring_validity.specs.Bodies.{is_memref, is_constant}

if_same : (c : Bool) (a b : ℕ) (n : ℕ) → a ≡ n → b ≡ n → (if c then a else b) ≡ n
if_same true a b n h k = h
if_same false a b n h k = k

module _ (buffers : ℕ) (v : Name) (lower upper : Bound) (step : ℤ) (p : Placement) (r : Name) (other : is_memref p r ≡ false) where
  -- a count of deallocs over statements
  module _ (f : Nest → ℕ) (does : (line : ℕ) (q : Plain) (rest : Nest) → f (Does line q rest) ≡ is_dealloc_of r q + f rest)
      (late : (rest : Nest) → f (late_wait buffers v lower upper step p rest) ≡ f rest) where
    if_count : (c : Bool) (a b : Nest) (n : ℕ) → f a ≡ n → f b ≡ n → f (if c then a else b) ≡ n
    if_count true a b n h k = h
    if_count false a b n h k = k

    none_more : (line : ℕ) (q : Plain) (rest : Nest) → is_dealloc_of r q ≡ 0 → f (Does line q rest) ≡ f rest
    none_more line q rest h = let e = does line q rest in omega (arith, e, h)

    zero_more : (rest : Nest) → 0 + f rest ≡ f rest
    zero_more rest = omega arith

    gone : (m : Name) (rest : Nest) (c : Bool) → is_memref p m ≡ c → c ≡ true → f rest ≡ (if same_name m r then 1 else 0) + f rest
    gone m rest c h e = by (same_name m r) refl
      where
        by : (b : Bool) → same_name m r ≡ b → f rest ≡ (if b then 1 else 0) + f rest
        by false k = omega arith
        by true k = let z : true ≡ false = sym (h ∙ e) ∙ ap (is_memref p) (same_name-eq m r k) ∙ other in absurd (cc)

    dealloc_count : (line : ℕ) (m : Name) (ty : MemrefType) (rest : Nest) (c : Bool) → is_memref p m ≡ c → f (if c then rest else Does line (Dealloc m ty) rest) ≡ (if same_name m r then 1 else 0) + f rest
    dealloc_count line m ty rest true h = gone m rest true h refl
    dealloc_count line m ty rest false h = does line (Dealloc m ty) rest

    alloc_count : (line : ℕ) (n : Name) (ty : MemrefType) (rest : Nest) → f (alloc_in_ring buffers v lower upper step p line n ty rest) ≡ f rest
    alloc_count line n ty rest =
        if_count (same_name (tag_name p.name) n) _ _ (f rest)
        (if_count p.reads rest (late_wait buffers v lower upper step p rest) (f rest) refl (late rest))
        (if_count (same_name (fast_name p.name) n) rest (Does line (Alloc n ty) rest) (f rest) refl (none_more line (Alloc n ty) rest refl))

    pub count_in_ring : (line : ℕ) (q : Plain) (rest : Nest) → f (in_ring buffers v lower upper step p line q rest) ≡ is_dealloc_of r q + f rest
    count_in_ring line (Constant n z ty) rest = if_count (is_constant p n) rest _ (f rest) refl (none_more line (Constant n z ty) rest refl) ∙ sym (zero_more rest)
    count_in_ring line (Alloc n ty) rest = alloc_count line n ty rest ∙ sym (zero_more rest)
    count_in_ring line (Dealloc m ty) rest = dealloc_count line m ty rest (is_memref p m) refl
    count_in_ring line (Start a a_at b b_at t t_at n stride types) rest =
        if_count (same_name (tag_name p.name) t) _ _ (f rest)
        (if_count (same_name (fast_name p.name) b) rest _ (f rest) refl (none_more line _ rest refl))
        (none_more line (Start a a_at b b_at t t_at n stride types) rest refl)
        ∙ sym (zero_more rest)
    count_in_ring line (Wait t at n ty) rest =
        if_count (same_name (tag_name p.name) t) _ _ (f rest) (if_count p.reads _ rest (f rest) (none_more line _ rest refl) refl) (none_more line (Wait t at n ty) rest refl)
        ∙ sym (zero_more rest)
    count_in_ring line (Load n m at ty) rest = if_count (same_name (fast_name p.name) m) _ _ (f rest) (none_more line _ rest refl) (none_more line (Load n m at ty) rest refl) ∙ sym (zero_more rest)
    count_in_ring line (Store x m at ty) rest = if_count (same_name (fast_name p.name) m) _ _ (f rest) (none_more line _ rest refl) (none_more line (Store x m at ty) rest refl) ∙ sym (zero_more rest)
    count_in_ring line (Value n pick at) rest = does line (Value n pick at) rest
    count_in_ring line (RawLoad n m at ty) rest = does line (RawLoad n m at ty) rest
    count_in_ring line (RawStore x m at ty) rest = does line (RawStore x m at ty) rest
    count_in_ring line (Binary n op x y ty) rest = does line (Binary n op x y ty) rest
    count_in_ring line (Cast n kind x from to) rest = does line (Cast n kind x from to) rest
    count_in_ring line Return rest = does line Return rest

  late_all : (rest : Nest) → deallocs r (late_wait buffers v lower upper step p rest) ≡ deallocs r rest
  unfolding deallocs
  late_all rest = omega arith

  late_own : (rest : Nest) → own_deallocs r (late_wait buffers v lower upper step p rest) ≡ own_deallocs r rest
  unfolding own_deallocs
  late_own rest = refl

  does_all : (line : ℕ) (q : Plain) (rest : Nest) → deallocs r (Does line q rest) ≡ is_dealloc_of r q + deallocs r rest
  unfolding deallocs
  does_all line q rest = refl

  does_own : (line : ℕ) (q : Plain) (rest : Nest) → own_deallocs r (Does line q rest) ≡ is_dealloc_of r q + own_deallocs r rest
  unfolding own_deallocs
  does_own line q rest = refl

  abbrev ring : Nest → Nest
  ring n = all_in_ring buffers v lower upper step p n

  pub all_same : (n : Nest) → deallocs r (ring n) ≡ deallocs r n
  unfolding deallocs
  all_same Nothing = refl
  all_same (Loop line w l u s body rest) = λ i. all_same body i + all_same rest i
  all_same (Branch line set names first has other rest) = λ i. all_same first i + (all_same other i + all_same rest i)
  all_same (Does line q rest) = count_in_ring (deallocs r) does_all late_all line q (ring rest) ∙ ap (λ k. is_dealloc_of r q + k) (all_same rest)

  own_same : (n : Nest) → own_deallocs r (ring n) ≡ own_deallocs r n
  unfolding own_deallocs
  own_same Nothing = refl
  own_same (Loop line w l u s body rest) = own_same rest
  own_same (Branch line set names first has other rest) = own_same rest
  own_same (Does line q rest) = count_in_ring (own_deallocs r) does_own late_own line q (ring rest) ∙ ap (λ k. is_dealloc_of r q + k) (own_same rest)

  pub released_same : (n : Nest) → is_released_once r (ring n) ≡ is_released_once r n
  unfolding is_released_once
  released_same n = λ i. nat_eq (all_same n i) 1 && nat_eq (own_same n i) 1
