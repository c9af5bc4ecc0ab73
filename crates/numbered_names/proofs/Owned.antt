-- The names of a valid text are among those that its arguments and statements define.
use Rattle.std.proofs.Common.{◌≡◌, ◌≢◌, ℕ, suc, ◌+◌, ◌≤◌, List, [], ◌∷◌, ◌++◌, length, refl, sym, ap, ◌∙◌, subst, arith, Bool, true, false}
use Rattle.std.specs.Prelude.{◌&&◌, ◌||◌, Option, Some, None, is_some, nat_le, if◌then◌else◌}
use Rattle.std.specs.List.{list_all, list_any}
use Rattle.std.proofs.lemmas.Bool.{and_parts}
use Rattle.affine_ast.specs.declared.name.Name.{Name}
use Rattle.affine_ast.specs.declared.types.Access.{Access}
use Rattle.affine_ast.specs.declared.types.Bound.{Bound}
use Rattle.affine_ast.specs.declared.types.Bound.TheVariants as bound
use Rattle.affine_ast.specs.Names.{same_name, put}
use Rattle.affine_ast.specs.Nest.{Plain, Nest, Nothing, Loop, Branch, Does, Value, Load, Store, RawLoad, RawStore, Constant, Binary, Cast, Alloc, Dealloc, Start, Wait, Return}
use Rattle.affine_ast.specs.Parts.{results_of, stride_names}
use Rattle.affine_ast.specs.Rules.{is_in, are_in, place_in, bound_in, sizes_positive, shape_within, rank_within}
use Rattle.affine_ast.specs.declared.types.MemrefType.{MemrefType}
use Rattle.affine_ast.specs.Scope.{Scope, Binding, Totals, Around, counted, in_loop, in_condition, with_totals, behind_plain}
use Rattle.affine_ast.specs.Sizes.{product}
use Rattle.affine_ast.specs.Validity.{Told, Passed, rule_of_plain, rule_of_loop, rule_of_condition, told}
use Rattle.affine_ast.proofs.Names.{same_name-eq, put-same, put-other}
use Rattle.valid_laws.proofs.Passing.{judged_passed, then_passed, Holds, plain_holds, LoopHolds, loop_holds, ConditionHolds, condition_holds}
use Rattle.valid_laws.proofs.Counted.{AllocHolds, alloc_holds}
use Rattle.shape_rules.proofs.Products.{product_positive}
use Rattle.placement_texts.specs.Own.{OwnNames, OwnBound, OwnAccess, OwnPair, OwnPlain, OwnNest}
use Rattle.numbered_names.specs.Numbers.{defined}

alloc_some : (ty : MemrefType) → shape_within ty ≡ true → 1 ≤ product ty.sizes
unfolding shape_within
alloc_some ty e = product_positive ty.sizes (and_parts (sizes_positive ty.sizes) (rank_within ty.space (length ty.sizes)) e).0

module _ (own : Name → Bool) where
  pub own_append : (xs ys : List Name) → OwnNames own (xs ++ ys) → OwnNames own xs × OwnNames own ys
  own_append [] ys h = (tt, h)
  own_append (x ∷ xs) ys h = let two = own_append xs ys h.1 in ((h.0, two.0), two.1)

  -- each name in scope is one of them
  abbrev pub OwnScope : Scope → Type 0
  OwnScope s = (x : Name) → is_in s x ≡ true → own x ≡ true

  pub put_own : (s : Scope) (r : Name) (b : Binding) → own r ≡ true → OwnScope s → OwnScope (put s r (Some b))
  unfolding is_in
  put_own s r b o h x i = by (same_name r x) refl
    where
      by : (t : Bool) → same_name r x ≡ t → own x ≡ true
      by true t = ap own (sym (same_name-eq r x t)) ∙ o
      by false t = h x (ap is_some (sym (put-other s r (Some b) x t)) ∙ i)

  behind_own : (q : Plain) (a : Around) → OwnNames own (results_of q) → OwnScope a.scope → OwnScope (behind_plain q a).scope
  behind_own (Value r pick at) a o h = put_own a.scope r _ o.0 h
  behind_own (Load r m at ty) a o h = put_own a.scope r _ o.0 h
  behind_own (Store x m at ty) a o h = h
  behind_own (RawLoad r m at ty) a o h = put_own a.scope r _ o.0 h
  behind_own (RawStore x m at ty) a o h = h
  behind_own (Constant r z ty) a o h = put_own a.scope r _ o.0 h
  behind_own (Binary r op x y ty) a o h = put_own a.scope r _ o.0 h
  behind_own (Cast r kind x from to) a o h = put_own a.scope r _ o.0 h
  behind_own (Alloc r ty) a o h = put_own a.scope r _ o.0 h
  behind_own (Dealloc m ty) a o h = h
  behind_own (Start x x_at y y_at t t_at n stride types) a o h = h
  behind_own (Wait t at n ty) a o h = h
  behind_own Return a o h = h

  module _ (s : Scope) (h : OwnScope s) where
    list_own : (ns : List Name) → list_all (is_in s) ns ≡ true → OwnNames own ns
    list_own [] i = tt
    list_own (n ∷ ns) i = let two = and_parts (is_in s n) (list_all (is_in s) ns) i in (h n two.0, list_own ns two.1)

    names_own : (ns : List Name) → are_in s ns ≡ true → OwnNames own ns
    unfolding are_in
    names_own ns i = list_own ns i

    place_own : (m : Name) (at : Access) → place_in s m at ≡ true → OwnAccess own m at
    place_own m at i = let two = and_parts (is_in s m) (are_in s at.operands) i in (h m two.0, names_own at.operands two.1)

    bound_own : (l : Bound) → bound_in s l ≡ true → OwnBound own l
    bound_own (bound.Int z) i = tt
    bound_own (bound.Value n) i = h n i
    bound_own (bound.Map at) i = names_own at.operands i

    pair_own : (two : Option (Name × Name)) → are_in s (stride_names two) ≡ true → OwnPair own two
    pair_own None i = tt
    pair_own (Some two) i = let names = names_own (two.0 ∷ two.1 ∷ []) i in (names.0, names.1.0)

  plain_own : (q : Plain) (a : Around) (rest : Nest) → OwnScope a.scope → OwnNames own (results_of q) → Holds a q rest → OwnPlain own q
  plain_own (Value r pick at) a rest h o k = (o.0, names_own a.scope h at.operands k.uses)
  plain_own (Load r m at ty) a rest h o k = (o.0, place_own a.scope h m at k.uses)
  plain_own (Store x m at ty) a rest h o k = let two = and_parts (is_in a.scope x) (place_in a.scope m at) k.uses in (h x two.0, place_own a.scope h m at two.1)
  plain_own (RawLoad r m at ty) a rest h o k = let two = and_parts (is_in a.scope m) (are_in a.scope at) k.uses in (o.0, h m two.0, names_own a.scope h at two.1)
  plain_own (RawStore x m at ty) a rest h o k =
      let two = and_parts (is_in a.scope x) (is_in a.scope m && are_in a.scope at) k.uses in
      let more = and_parts (is_in a.scope m) (are_in a.scope at) two.1 in
      (h x two.0, h m more.0, names_own a.scope h at more.1)
  plain_own (Constant r z ty) a rest h o k = o.0
  plain_own (Binary r op x y ty) a rest h o k = let two = and_parts (is_in a.scope x) (is_in a.scope y) k.uses in (o.0, h x two.0, h y two.1)
  plain_own (Cast r kind x from to) a rest h o k = (o.0, h x k.uses)
  plain_own (Alloc r ty) a rest h o k = (o.0, alloc_some ty (alloc_holds a r ty rest k).shape)
  plain_own (Dealloc m ty) a rest h o k = h m k.uses
  plain_own (Start x x_at y y_at t t_at n stride types) a rest h o k =
      let s = a.scope in
      let one = and_parts (place_in s x x_at) (place_in s y y_at && (place_in s t t_at && (is_in s n && are_in s (stride_names stride)))) k.uses in
      let two = and_parts (place_in s y y_at) (place_in s t t_at && (is_in s n && are_in s (stride_names stride))) one.1 in
      let three = and_parts (place_in s t t_at) (is_in s n && are_in s (stride_names stride)) two.1 in
      let four = and_parts (is_in s n) (are_in s (stride_names stride)) three.1 in
      (place_own s h x x_at one.0, place_own s h y y_at two.0, place_own s h t t_at three.0, h n four.0, pair_own s h stride four.1)
  plain_own (Wait t at n ty) a rest h o k = let two = and_parts (place_in a.scope t at) (is_in a.scope n) k.uses in (place_own a.scope h t at two.0, h n two.1)
  plain_own Return a rest h o k = tt

  -- a text about which the rules have no complaint uses what it defines and what is in scope round it
  pub text_own : (n : Nest) (a : Around) (t : Totals) → told n a ≡ Passed t → OwnScope a.scope → OwnNames own (defined n) → OwnNest own n
  unfolding told defined
  text_own Nothing a t e h o = tt
  text_own (Loop line v l u s body rest) a t e h o =
      let judged = judged_passed line (rule_of_loop (counted a) v l u s) _ t e in
      let both = then_passed (told body (in_loop v l u (counted a))) (λ t. told rest (with_totals t (counted a))) t judged.1 in
      let k = loop_holds (counted a) v l u s judged.0 in
      let ends = and_parts (bound_in a.scope l) (bound_in a.scope u) k.uses in
      let parts = own_append (defined body) (defined rest) o.1 in (
        o.0,
        bound_own a.scope h l ends.0,
        bound_own a.scope h u ends.1,
        text_own body (in_loop v l u (counted a)) both.0 both.1 (put_own a.scope v _ o.0 h) parts.0,
        text_own rest (with_totals both.0 (counted a)) t both.2 h parts.1,
      )
  text_own (Branch line set names first has other rest) a t e h o =
      let judged = judged_passed line (rule_of_condition (counted a) set names) _ t e in
      let both = then_passed (told first (in_condition (counted a))) (λ t. _) t judged.1 in
      let more = then_passed (told other (in_condition (with_totals both.0 (counted a)))) (λ t. told rest (with_totals t (counted a))) t both.2 in
      let k = condition_holds (counted a) set names judged.0 in
      let parts = own_append (defined first) (defined other ++ defined rest) o in
      let rests = own_append (defined other) (defined rest) parts.1 in (
        names_own a.scope h names k.uses,
        text_own first (in_condition (counted a)) both.0 both.1 h parts.0,
        text_own other (in_condition (with_totals both.0 (counted a))) more.0 more.1 h rests.0,
        text_own rest (with_totals more.0 (counted a)) t more.2 h rests.1,
      )
  text_own (Does line p rest) a t e h o =
      let judged = judged_passed line (rule_of_plain (counted a) p rest) _ t e in
      let parts = own_append (results_of p) (defined rest) o in
      (plain_own p (counted a) rest h parts.0 (plain_holds (counted a) p rest judged.0), text_own rest (behind_plain p (counted a)) t judged.1 (behind_own p (counted a) parts.0 h) parts.1)
