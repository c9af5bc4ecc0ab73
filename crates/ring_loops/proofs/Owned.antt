-- A well-formed text uses what it defines and what is in scope round it.
use Rattle.std.proofs.Common.{◌≡◌, List, [], ◌∷◌, ◌++◌, refl, sym, ap, ◌∙◌, Bool, true, false}
use Rattle.std.specs.Prelude.{not, ◌&&◌, ◌||◌, Option, Some, None, is_some}
use Rattle.std.specs.List.{list_all, list_any}
use Rattle.std.proofs.lemmas.Bool.{and_parts}
use Rattle.affine_ast.specs.declared.name.Name.{Name}
use Rattle.affine_ast.specs.declared.types.Access.{Access}
use Rattle.affine_ast.specs.declared.types.Bound.{Bound}
use Rattle.affine_ast.specs.declared.types.Bound.TheVariants as bound
use Rattle.affine_ast.specs.Names.{same_name, put}
use Rattle.affine_ast.specs.Nest.{Plain, Nest, Nothing, Loop, Branch, Does, Value, Load, Store, RawLoad, RawStore, Constant, Binary, Cast, Alloc, Dealloc, Start, Wait, Return}
use Rattle.affine_ast.specs.Parts.{results_of, result_of, uses_of, stride_names}
use Rattle.affine_ast.specs.Rules.{is_in, are_in, is_new, is_new_result, bound_in}
use Rattle.affine_ast.specs.Scope.{Binding, Scope}
use Rattle.affine_ast.proofs.Names.{put-same, put-other, same_name-eq}
use Rattle.placement_texts.specs.Own.{OwnNames, OwnBound, OwnAccess, OwnPair, OwnPlain}
use Rattle.numbered_names.specs.Numbers.{defined}
use Rattle.numbered_names.proofs.Owned.{own_append, OwnScope, put_own}
use Rattle.ring_validity.specs.Wells.{a_number, known_behind, released_behind, PlainWell, LoopWell, ConditionWell, WellFormed}
use Rattle.ring_validity.specs.Bodies.{bound_uses}
use Rattle.ring_validity.proofs.Body.{uses_are_in, bound_uses_in}

module _ (own : Name → Bool) where
  -- the names of a statement, and of a text
  abbrev pub Owned : Plain → Type 0
  Owned (Alloc r ty) = own r ≡ true
  Owned q = OwnPlain own q

  abbrev pub OwnedNest : Nest → Type 0
  OwnedNest Nothing = Unit {0}
  OwnedNest (Loop line v l u s body rest) = (own v ≡ true) × OwnBound own l × OwnBound own u × OwnedNest body × OwnedNest rest
  OwnedNest (Branch line set names first has other rest) = OwnNames own names × OwnedNest first × OwnedNest other × OwnedNest rest
  OwnedNest (Does line q rest) = Owned q × OwnedNest rest

  pub behind_own : (q : Plain) (s : Scope) → OwnNames own (results_of q) → OwnScope own s → OwnScope own (known_behind q s)
  behind_own (Value r pick at) s o h = put_own own s r _ o.0 h
  behind_own (Load r m at ty) s o h = put_own own s r _ o.0 h
  behind_own (Store x m at ty) s o h = h
  behind_own (RawLoad r m at ty) s o h = put_own own s r _ o.0 h
  behind_own (RawStore x m at ty) s o h = h
  behind_own (Constant r z ty) s o h = put_own own s r _ o.0 h
  behind_own (Binary r op x y ty) s o h = put_own own s r _ o.0 h
  behind_own (Cast r kind x from to) s o h = put_own own s r _ o.0 h
  behind_own (Alloc r ty) s o h = put_own own s r _ o.0 h
  behind_own (Dealloc m ty) s o h = h
  behind_own (Start x x_at y y_at t t_at n stride types) s o h = h
  behind_own (Wait t at n ty) s o h = h
  behind_own Return s o h = h

  pub names_own : (s : Scope) → OwnScope own s → (ns : List Name) → are_in s ns ≡ true → OwnNames own ns
  unfolding are_in
  names_own s h [] i = tt
  names_own s h (n ∷ ns) i = let two = and_parts (is_in s n) (list_all (is_in s) ns) i in (h n two.0, names_own s h ns two.1)

  bound_own : (l : Bound) → OwnNames own (bound_uses l) → OwnBound own l
  bound_own (bound.Int z) h = tt
  bound_own (bound.Value n) h = h.0
  bound_own (bound.Map at) h = h

  pair_own : (two : Option (Name × Name)) → OwnNames own (stride_names two) → OwnPair own two
  pair_own None h = tt
  pair_own (Some two) h = (h.0, h.1.0)

  plain_own : (q : Plain) → OwnNames own (results_of q) → OwnNames own (uses_of q) → Owned q
  plain_own (Value r pick at) o u = (o.0, u)
  plain_own (Load r m at ty) o u = (o.0, (u.0, u.1))
  plain_own (Store x m at ty) o u = (u.0, (u.1.0, u.1.1))
  plain_own (RawLoad r m at ty) o u = (o.0, u.0, u.1)
  plain_own (RawStore x m at ty) o u = (u.0, u.1.0, u.1.1)
  plain_own (Constant r z ty) o u = o.0
  plain_own (Binary r op x y ty) o u = (o.0, u.0, u.1.0)
  plain_own (Cast r kind x from to) o u = (o.0, u.0)
  plain_own (Alloc r ty) o u = o.0
  plain_own (Dealloc m ty) o u = u.0
  plain_own (Start x x_at y y_at t t_at n stride types) o u =
      let a = own_append own x_at.operands (y ∷ y_at.operands ++ (t ∷ t_at.operands ++ (n ∷ stride_names stride))) u.1 in
      let b = own_append own y_at.operands (t ∷ t_at.operands ++ (n ∷ stride_names stride)) a.1.1 in
      let c = own_append own t_at.operands (n ∷ stride_names stride) b.1.1 in
      ((u.0, a.0), (a.1.0, b.0), (b.1.0, c.0), c.1.0, pair_own stride c.1.1)
  plain_own (Wait t at n ty) o u = let a = own_append own at.operands (n ∷ []) u.1 in ((u.0, a.0), a.1.0)
  plain_own Return o u = tt

  pub well_owns : (n : Nest) (s : Scope) (d : Name → Bool) → OwnScope own s → OwnNames own (defined n) → WellFormed n s d → OwnedNest n
  unfolding defined
  well_owns Nothing s d h o w = tt
  well_owns (Loop line v l u step body rest) s d h o w =
      let two = own_append own (defined body) (defined rest) o.1 in
      let q = and_parts (bound_in s l) (bound_in s u) w.0.uses in (
        o.0,
        bound_own l (names_own s h (bound_uses l) (bound_uses_in s l q.0)),
        bound_own u (names_own s h (bound_uses u) (bound_uses_in s u q.1)),
        well_owns body (put s v a_number) d (put_own own s v _ o.0 h) two.0 w.1,
        well_owns rest s d h two.1 w.2,
      )
  well_owns (Branch line set names first has other rest) s d h o w =
      let a = own_append own (defined first) (defined other ++ defined rest) o in
      let b = own_append own (defined other) (defined rest) a.1 in
      (names_own s h names w.0.uses, well_owns first s d h a.0 w.1, well_owns other s d h b.0 w.2, well_owns rest s d h b.1 w.3)
  well_owns (Does line q rest) s d h o w =
      let a = own_append own (results_of q) (defined rest) o in (
        plain_own q a.0 (names_own s h (uses_of q) (uses_are_in s q w.0.uses)),
        well_owns rest (known_behind q s) (released_behind q d) (behind_own q s a.0 h) a.1 w.1,
      )

-- ---- what a well-formed text defines is new where it stands
new_before : (s : Scope) (r : Name) (b : Binding) (m : Name) → is_new (put s r (Some b)) m ≡ true → is_new s m ≡ true
unfolding is_in
new_before s r b m h = by (same_name r m) refl
  where
    by : (c : Bool) → same_name r m ≡ c → is_new s m ≡ true
    by false e = ap (λ x. not (is_some x)) (sym (put-other s r (Some b) m e)) ∙ h
    by true e = let z : false ≡ true = ap (λ x. not (is_some x)) (sym (put-same s r (Some b) m e)) ∙ h in absurd (cc)

before_plain : (q : Plain) (s : Scope) (m : Name) → is_new (known_behind q s) m ≡ true → is_new s m ≡ true
before_plain (Value r pick at) s m h = new_before s r _ m h
before_plain (Load r x at ty) s m h = new_before s r _ m h
before_plain (Store x y at ty) s m h = h
before_plain (RawLoad r x at ty) s m h = new_before s r _ m h
before_plain (RawStore x y at ty) s m h = h
before_plain (Constant r z ty) s m h = new_before s r _ m h
before_plain (Binary r op x y ty) s m h = new_before s r _ m h
before_plain (Cast r kind x from to) s m h = new_before s r _ m h
before_plain (Alloc r ty) s m h = new_before s r _ m h
before_plain (Dealloc x ty) s m h = h
before_plain (Start x x_at y y_at t t_at n stride types) s m h = h
before_plain (Wait t at n ty) s m h = h
before_plain Return s m h = h

-- each of these names is new
abbrev pub AllNew : Scope → List Name → Type 0
AllNew s [] = Unit {0}
AllNew s (n ∷ ns) = (is_new s n ≡ true) × AllNew s ns

new_append : (s : Scope) (ns ms : List Name) → AllNew s ns → AllNew s ms → AllNew s (ns ++ ms)
new_append s [] ms h k = k
new_append s (n ∷ ns) ms h k = (h.0, new_append s ns ms h.1 k)

all_before : (s t : Scope) → ((m : Name) → is_new t m ≡ true → is_new s m ≡ true) → (ns : List Name) → AllNew t ns → AllNew s ns
all_before s t f [] h = tt
all_before s t f (n ∷ ns) h = (f n h.0, all_before s t f ns h.1)

results_new : (q : Plain) (s : Scope) → is_new_result s (result_of q) ≡ true → AllNew s (results_of q)
results_new (Value r pick at) s h = (h, tt)
results_new (Load r x at ty) s h = (h, tt)
results_new (Store x y at ty) s h = tt
results_new (RawLoad r x at ty) s h = (h, tt)
results_new (RawStore x y at ty) s h = tt
results_new (Constant r z ty) s h = (h, tt)
results_new (Binary r op x y ty) s h = (h, tt)
results_new (Cast r kind x from to) s h = (h, tt)
results_new (Alloc r ty) s h = (h, tt)
results_new (Dealloc x ty) s h = tt
results_new (Start x x_at y y_at t t_at n stride types) s h = tt
results_new (Wait t at n ty) s h = tt
results_new Return s h = tt

pub defines_new_names : (n : Nest) (s : Scope) (d : Name → Bool) → WellFormed n s d → AllNew s (defined n)
unfolding defined
defines_new_names Nothing s d w = tt
defines_new_names (Loop line v l u step body rest) s d w = (
  w.0.new_name,
  new_append s (defined body) (defined rest) (all_before s (put s v a_number) (λ m h. new_before s v _ m h) (defined body) (defines_new_names body (put s v a_number) d w.1)) (defines_new_names rest s d w.2),
)
defines_new_names (Branch line set names first has other rest) s d w =
    new_append s (defined first) (defined other ++ defined rest) (defines_new_names first s d w.1) (new_append s (defined other) (defined rest) (defines_new_names other s d w.2) (defines_new_names rest s d w.3))
defines_new_names (Does line q rest) s d w =
    new_append s (results_of q) (defined rest) (results_new q s w.0.new_name)
    (all_before s (known_behind q s) (λ m h. before_plain q s m h) (defined rest) (defines_new_names rest (known_behind q s) (released_behind q d) w.1))

pub listed_new : (s : Scope) (ns : List Name) (m : Name) → AllNew s ns → list_any (same_name m) ns ≡ true → is_new s m ≡ true
listed_new s [] m h k = absurd (cc)
listed_new s (n ∷ ns) m h k = by (same_name m n) refl k (listed_new s ns m h.1)
  where
    by : (c : Bool) → same_name m n ≡ c → (c || list_any (same_name m) ns) ≡ true → (list_any (same_name m) ns ≡ true → is_new s m ≡ true) → is_new s m ≡ true
    by true e o f = ap (is_new s) (same_name-eq m n e) ∙ h.0
    by false e o f = f o
