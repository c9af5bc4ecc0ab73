-- What is told of a text with other names.
use Rattle.std.proofs.Common.{◌≡◌, suc, ◌+◌, ℤ, List, refl, sym, ap, ◌∙◌, Bool, true, map}
use Rattle.std.specs.Prelude.{◌&&◌, not, nat_eq, nat_le, Option, Some, None, if◌then◌else◌}
use Rattle.affine_expr.specs.declared.map.Set.{Set}
use Rattle.affine_ast.specs.declared.name.Name.{Name}
use Rattle.affine_ast.specs.declared.types.Bound.{Bound}
use Rattle.affine_ast.specs.declared.types.Bound.TheVariants as bound
use Rattle.affine_ast.specs.declared.types.MemrefType.{MemrefType}
use Rattle.affine_ast.specs.Intervals.{picked_range, turn_range}
use Rattle.affine_ast.specs.Names.{put}
use Rattle.affine_ast.specs.Nest.{Plain, Nest, Nothing, Loop, Branch, Does, Value, Load, Store, RawLoad, RawStore, Constant, Binary, Cast, Alloc, Dealloc, Start, Wait, Return}
use Rattle.affine_ast.specs.Rules.{is_dealloc_of, deallocs, own_deallocs, is_released_once, allocates_well, is_loadable, is_allocation, is_allocated, is_live, number_of_binding, constant_of, is_count, are_stride_and_chunk, stride_well, ends_in_spaces, spaces_agree, access_pure, bound_pure, step_positive, set_pure, text_within}
use Rattle.affine_ast.specs.Scope.{Binding, Variable, Allocation, Totals, Around, counted, in_loop, in_condition, with_totals, totals_with, behind_plain}
use Rattle.affine_ast.specs.Validity.{Passed, rule, judged, then_told, elements_within, rule_of_plain, rule_of_loop, rule_of_condition, told}
use Rattle.placement_texts.specs.Own.{OwnNames, OwnBound, OwnPair, OwnPlain, OwnNest}
use Rattle.placement_texts.specs.Renamed.{bound_named, pair_named, plain_named, named, KeepsApart, RenamesScope, ToldNamed}
use Rattle.rename_laws.proofs.Rules.{are_same, new_same, bound_same, uses_same, defines_same, operands_same, bound_stands_same, stand_same, types_same, at_same, first_same, last_same, set_bounded_same, bound_bounded_same, bounded_same, bound_fits_same, set_fits_same, counts_same, pure_same, constants_same}
use Rattle.rename_laws.proofs.Values.{put_named}

module _ (f : Name → Name) where
  bound_pure_same : (l : Bound) → bound_pure (bound_named f l) ≡ bound_pure l
  unfolding access_pure
  bound_pure_same (bound.Int z) = refl
  bound_pure_same (bound.Value n) = refl
  bound_pure_same (bound.Map at) = refl

  elements_same : (t : Totals) (q : Plain) → elements_within t (plain_named f q) ≡ elements_within t q
  elements_same t (Value r pick at) = refl
  elements_same t (Load r m at ty) = refl
  elements_same t (Store x m at ty) = refl
  elements_same t (RawLoad r m at ty) = refl
  elements_same t (RawStore x m at ty) = refl
  elements_same t (Constant r z ty) = refl
  elements_same t (Binary r op x y ty) = refl
  elements_same t (Cast r kind x from to) = refl
  elements_same t (Alloc r ty) = refl
  elements_same t (Dealloc m ty) = refl
  elements_same t (Start x x_at y y_at z z_at n stride types) = refl
  elements_same t (Wait z at n ty) = refl
  elements_same t Return = refl

module _ (f : Name → Name) (own : Name → Bool) (apart : KeepsApart f own) where
  -- ---- deallocs
  dealloc_same : (m : Name) (q : Plain) → own m ≡ true → OwnPlain own q → is_dealloc_of (f m) (plain_named f q) ≡ is_dealloc_of m q
  dealloc_same m (Dealloc x ty) o h = λ i. if apart x m h o i then 1 else 0
  dealloc_same m (Value r pick at) o h = refl
  dealloc_same m (Load r x at ty) o h = refl
  dealloc_same m (Store x y at ty) o h = refl
  dealloc_same m (RawLoad r x at ty) o h = refl
  dealloc_same m (RawStore x y at ty) o h = refl
  dealloc_same m (Constant r z ty) o h = refl
  dealloc_same m (Binary r op x y ty) o h = refl
  dealloc_same m (Cast r kind x from to) o h = refl
  dealloc_same m (Alloc r ty) o h = refl
  dealloc_same m (Start x x_at y y_at z z_at n stride types) o h = refl
  dealloc_same m (Wait z at n ty) o h = refl
  dealloc_same m Return o h = refl

  deallocs_same : (m : Name) (n : Nest) → own m ≡ true → OwnNest own n → deallocs (f m) (named f n) ≡ deallocs m n
  unfolding deallocs
  deallocs_same m Nothing o h = refl
  deallocs_same m (Loop line v l u s body rest) o h = λ i. deallocs_same m body o h.3 i + deallocs_same m rest o h.4 i
  deallocs_same m (Branch line set names first has other rest) o h = λ i. deallocs_same m first o h.1 i + (deallocs_same m other o h.2 i + deallocs_same m rest o h.3 i)
  deallocs_same m (Does line p rest) o h = λ i. dealloc_same m p o h.0 i + deallocs_same m rest o h.1 i

  own_deallocs_same : (m : Name) (n : Nest) → own m ≡ true → OwnNest own n → own_deallocs (f m) (named f n) ≡ own_deallocs m n
  unfolding own_deallocs
  own_deallocs_same m Nothing o h = refl
  own_deallocs_same m (Loop line v l u s body rest) o h = own_deallocs_same m rest o h.4
  own_deallocs_same m (Branch line set names first has other rest) o h = own_deallocs_same m rest o h.3
  own_deallocs_same m (Does line p rest) o h = λ i. dealloc_same m p o h.0 i + own_deallocs_same m rest o h.1 i

  once_same : (m : Name) (n : Nest) → own m ≡ true → OwnNest own n → is_released_once (f m) (named f n) ≡ is_released_once m n
  unfolding is_released_once
  once_same m n o h = λ i. nat_eq (deallocs_same m n o h i) 1 && nat_eq (own_deallocs_same m n o h i) 1

  module _ (a b : Around) (r : RenamesScope f own a b) where
    -- ---- spaces
    live_same : (m : Name) → own m ≡ true → is_live b (f m) ≡ is_live a m
    live_same m o = ap not (r.released m o)

    allocated_same : (m : Name) → own m ≡ true → is_allocated b.scope (f m) ≡ is_allocated a.scope m
    unfolding is_allocated
    allocated_same m o = ap is_allocation (r.scope m o)

    constant_same : (n : Name) → own n ≡ true → constant_of b.scope (f n) ≡ constant_of a.scope n
    unfolding constant_of
    constant_same n o = ap number_of_binding (r.scope n o)

    stride_same : (two : Option (Name × Name)) → OwnPair own two → stride_well b.scope (pair_named f two) ≡ stride_well a.scope two
    stride_same None o = refl
    stride_same (Some two) o = λ i. are_stride_and_chunk (constant_same two.0 o.0 i) (constant_same two.1 o.1 i)

    spaces_same : (q : Plain) (rest : Nest) → OwnPlain own q → OwnNest own rest → spaces_agree b (plain_named f q) (named f rest) ≡ spaces_agree a q rest
    spaces_same (Value x pick at) rest h k = refl
    spaces_same (Load x m at ty) rest h k = λ i. is_loadable ty && live_same m h.1.0 i
    spaces_same (Store x m at ty) rest h k = λ i. is_loadable ty && live_same m h.1.0 i
    spaces_same (RawLoad x m at ty) rest h k = λ i. is_loadable ty && live_same m h.1 i
    spaces_same (RawStore x m at ty) rest h k = λ i. is_loadable ty && live_same m h.1 i
    spaces_same (Constant x z ty) rest h k = refl
    spaces_same (Binary x op y z ty) rest h k = refl
    spaces_same (Cast x kind y from to) rest h k = refl
    spaces_same (Alloc x ty) rest h k = λ i. allocates_well ty && once_same x rest h.0 k i
    spaces_same (Dealloc m ty) rest h k = λ i. allocated_same m h i && live_same m h i
    spaces_same (Start x x_at y y_at z z_at n stride types) rest h k =
        λ i. ends_in_spaces types && (is_count (constant_same n h.3 i) && (stride_same stride h.4 i && (live_same x h.0.0 i && (live_same y h.1.0 i && live_same z h.2.0 i))))
    spaces_same (Wait z at n ty) rest h k = λ i. nat_eq ty.space 2 && (is_count (constant_same n h.1 i) && live_same z h.0.0 i)
    spaces_same Return rest h k = refl

    text_same : text_within b ≡ text_within a
    text_same = λ i. nat_le (r.totals i).statements 65536 && (nat_le (r.loops i) 16 && nat_le (r.ifs i) 16)

    -- ---- one statement
    plain_same : (q : Plain) (rest : Nest) → OwnPlain own q → OwnNest own rest → rule_of_plain b (plain_named f q) (named f rest) ≡ rule_of_plain a q rest
    unfolding rule_of_plain
    plain_same q rest h k =
        let total = ap (λ t. elements_within t (plain_named f q)) r.totals ∙ elements_same f a.totals q in
        (λ i. rule 1 (uses_same f own a.scope b.scope r.scope q h i) (rule 2 (defines_same f own a.scope b.scope r.scope q h i) (rule 4 (stand_same f own a.scope b.scope r.scope q h i)
        (rule 5 (types_same f own a.scope b.scope r.scope q h i) (rule 6 (constants_same f q i) (rule 7 (counts_same f q i) (rule 8 (pure_same f q i) (rule 9 (bounded_same f own a.scope b.scope r.scope q h i)
        (rule 10 (spaces_same q rest h k i) (rule 11 (total i) (rule 12 (text_same i) None)))))))))))

    loop_same : (v : Name) (l u : Bound) (s : ℤ) → own v ≡ true → OwnBound own l → OwnBound own u → rule_of_loop b (f v) (bound_named f l) (bound_named f u) s ≡ rule_of_loop a v l u s
    unfolding rule_of_loop
    loop_same v l u s o h k =
        (λ i. rule 1 (bound_same f own a.scope b.scope r.scope l h i && bound_same f own a.scope b.scope r.scope u k i)
        (rule 2 (new_same f own a.scope b.scope r.scope v o i)
        (rule 4 (bound_stands_same f own a.scope b.scope r.scope l h i && bound_stands_same f own a.scope b.scope r.scope u k i)
        (rule 7 (bound_fits_same f l i && bound_fits_same f u i)
        (rule 8 (bound_pure_same f l i && (bound_pure_same f u i && step_positive s))
        (rule 9 (bound_bounded_same f own a.scope b.scope r.scope l h i && bound_bounded_same f own a.scope b.scope r.scope u k i)
        (rule 12 (text_same i) None)))))))

    condition_same : (set : Set) (ns : List Name) → OwnNames own ns → rule_of_condition b set (map f ns) ≡ rule_of_condition a set ns
    unfolding rule_of_condition
    condition_same set ns h =
        (λ i. rule 1 (are_same f own a.scope b.scope r.scope ns h i)
        (rule 4 (operands_same f own a.scope b.scope r.scope set.dims ns h i)
        (rule 7 (set_fits_same f set ns i)
        (rule 8 (set_pure set)
        (rule 9 (set_bounded_same f own a.scope b.scope r.scope set ns h i)
        (rule 12 (text_same i) None))))))

    -- ---- what stands round the next one
    count_more : RenamesScope f own (counted a) (counted b)
    count_more = record { scope = r.scope; released = r.released; loops = r.loops; ifs = r.ifs; totals = λ i. record (r.totals i) { statements = suc (r.totals i).statements } }

    total_more : (t : Totals) → RenamesScope f own (with_totals t a) (with_totals t b)
    total_more t = record { scope = r.scope; released = r.released; loops = r.loops; ifs = r.ifs; totals = refl }

    name_more : (x : Name) (c d : Option Binding) → own x ≡ true → c ≡ d → RenamesScope f own (record a { scope = put a.scope x c }) (record b { scope = put b.scope (f x) d })
    name_more x c d o is = record { scope = put_named f own a.scope b.scope x c d apart o is r.scope; released = r.released; loops = r.loops; ifs = r.ifs; totals = r.totals }

    loop_more : (v : Name) (l u : Bound) → own v ≡ true → OwnBound own l → OwnBound own u → RenamesScope f own (in_loop v l u a) (in_loop (f v) (bound_named f l) (bound_named f u) b)
    loop_more v l u o h k = record {
      scope = put_named f own a.scope b.scope v _ _ apart o (λ i. Some (Variable (turn_range (sym (first_same f own a.scope b.scope r.scope l h) i) (sym (last_same f own a.scope b.scope r.scope u k) i)))) r.scope;
      released = r.released;
      loops = ap suc r.loops;
      ifs = r.ifs;
      totals = r.totals;
    }

    condition_more : RenamesScope f own (in_condition a) (in_condition b)
    condition_more = record { scope = r.scope; released = r.released; loops = r.loops; ifs = ap suc r.ifs; totals = r.totals }

    alloc_more : (x : Name) (ty : MemrefType) → own x ≡ true → RenamesScope f own (behind_plain (Alloc x ty) a) (behind_plain (Alloc (f x) ty) b)
    alloc_more x ty o = record {
      scope = put_named f own a.scope b.scope x (Some (Allocation ty)) (Some (Allocation ty)) apart o refl r.scope;
      released = r.released;
      loops = r.loops;
      ifs = r.ifs;
      totals = ap (totals_with ty) r.totals;
    }

    dealloc_more : (m : Name) (ty : MemrefType) → own m ≡ true → RenamesScope f own (behind_plain (Dealloc m ty) a) (behind_plain (Dealloc (f m) ty) b)
    dealloc_more m ty o = record {
      scope = r.scope;
      released = put_named f own a.released b.released m true true apart o refl r.released;
      loops = r.loops;
      ifs = r.ifs;
      totals = r.totals;
    }

    plain_more : (q : Plain) → OwnPlain own q → RenamesScope f own (behind_plain q a) (behind_plain (plain_named f q) b)
    plain_more (Value x pick at) h = name_more x _ _ h.0 (λ i. Some (Variable (picked_range pick (sym (at_same f own a.scope b.scope r.scope at h.1) i))))
    plain_more (Load x m at ty) h = name_more x _ _ h.0 refl
    plain_more (Store x m at ty) h = r
    plain_more (RawLoad x m at ty) h = name_more x _ _ h.0 refl
    plain_more (RawStore x m at ty) h = r
    plain_more (Constant x z ty) h = name_more x _ _ h refl
    plain_more (Binary x op y z ty) h = name_more x _ _ h.0 refl
    plain_more (Cast x kind y from to) h = name_more x _ _ h.0 refl
    plain_more (Alloc x ty) h = alloc_more x ty h.0
    plain_more (Dealloc m ty) h = dealloc_more m ty h
    plain_more (Start x x_at y y_at z z_at n stride types) h = r
    plain_more (Wait z at n ty) h = r
    plain_more Return h = r

  -- ---- a text
  told_same : (n : Nest) (a b : Around) → RenamesScope f own a b → OwnNest own n → told (named f n) b ≡ told n a
  unfolding told
  told_same Nothing a b r o = ap Passed r.totals
  told_same (Loop line v l u s body rest) a b r o =
      let c = count_more a b r in
      (λ i. judged line (loop_same (counted a) (counted b) c v l u s o.0 o.1 o.2 i)
      (then_told (told_same body (in_loop v l u (counted a)) (in_loop (f v) (bound_named f l) (bound_named f u) (counted b)) (loop_more (counted a) (counted b) c v l u o.0 o.1 o.2) o.3 i)
      (λ t. told_same rest (with_totals t a) (with_totals t b) (total_more a b r t) o.4 i)))
  told_same (Branch line set names first has other rest) a b r o =
      let c = count_more a b r in
      (λ i. judged line (condition_same (counted a) (counted b) c set names o.0 i)
      (then_told (told_same first (in_condition (counted a)) (in_condition (counted b)) (condition_more (counted a) (counted b) c) o.1 i)
      (λ t. then_told (told_same other (in_condition (with_totals t a)) (in_condition (with_totals t b)) (condition_more (with_totals t a) (with_totals t b) (total_more a b r t)) o.2 i)
      (λ u. told_same rest (with_totals u a) (with_totals u b) (total_more a b r u) o.3 i))))
  told_same (Does line p rest) a b r o =
      let c = count_more a b r in
      (λ i. judged line (plain_same (counted a) (counted b) c p rest o.0 o.1 i) (told_same rest (behind_plain p (counted a)) (behind_plain (plain_named f p) (counted b)) (plain_more (counted a) (counted b) c p o.0) o.1 i))

pub told_are : ToldNamed
told_are f own n a b apart o r = told_same f own apart n a b r o
