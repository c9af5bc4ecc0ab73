-- Subscripts that can be put in order: those of a text, and those of a template.
use Rattle.std.proofs.Common.{◌≡◌, ℕ, zero, suc, ◌+◌, ◌*◌, ◌^◌, ◌<◌, ◌≤◌, ◌⊎◌, inl, inr, ℤ, pos, Bool, true, false, List, [], ◌∷◌, ◌++◌, length, length-append, take, drop, refl, sym, ap, ◌∙◌, subst, arith}
use Rattle.std.specs.Prelude.{◌||◌, flat_map, if◌then◌else◌}
use Rattle.affine_expr.specs.declared.expr.Expr.{Expr, Const}
use Rattle.affine_expr.specs.declared.map.Set.{Set}
use Rattle.affine_ast.specs.declared.name.Name.{Name}
use Rattle.affine_ast.specs.declared.types.Access.{Access}
use Rattle.affine_ast.specs.declared.types.Bound.{Bound}
use Rattle.affine_ast.specs.Names.{same_name}
use Rattle.affine_ast.specs.Nest.{Plain, Value, Load, Store, RawLoad, RawStore, Constant, Binary, Cast, Alloc, Dealloc, Start, Wait, Return}
use Rattle.affine_ast.proofs.Names.{same_name-eq}
use Rattle.numbered_names.proofs.Apart.{is_one_of}
use Rattle.placement_texts.specs.Own.{OwnNames, OwnPlain}
use Rattle.placement_texts.specs.Template.{Dimension, Placement, Begin, begin, begins_from, begins, named, turn_names, in_fast, less_places, slow_at_turns, fast_at_turns, slow_at_places, fast_at_zeros, fast_name, fast_type, redirect, form, over_terms, last_place}
use Rattle.placement_texts.proofs.ScopedRedirect.{in_fast_dims, in_fast_syms}
use Rattle.printed_texts.specs.Writable.{operands_of, operands_in}
use Rattle.writable_modules.specs.Formed.{AreFew, FewInBound}
use Rattle.stage_texts.specs.Distinct.{AreDistinct}
use Rattle.stage_texts.specs.Order.{SymbolsAppear}
use Rattle.stage_texts.proofs.Staged.{HoldsOf}
use Rattle.stage_numbers.proofs.Symbols.{same_symbols, in_fast_syms_are, turn_places_symbols, fast_turns_symbols, places_symbols, zeros_symbols, form_long}

-- ---- lists
take_whole : (xs : List Name) (n : ℕ) → length xs ≡ n → take n xs ≡ xs
take_whole [] zero h = refl
take_whole [] (suc n) h = refl
take_whole (x ∷ xs) zero h = absurd (omega (arith, h))
take_whole (x ∷ xs) (suc n) h = ap (λ ys. x ∷ ys) (take_whole xs n (omega (arith, h)))

drop_whole : (xs : List Name) (n : ℕ) → length xs ≡ n → drop n xs ≡ []
drop_whole [] zero h = refl
drop_whole [] (suc n) h = refl
drop_whole (x ∷ xs) zero h = absurd (omega (arith, h))
drop_whole (x ∷ xs) (suc n) h = drop_whole xs n (omega (arith, h))

long_take : (n : ℕ) (xs : List Name) → n ≤ length xs → length (take n xs) ≡ n
long_take zero xs h = refl
long_take (suc n) [] h = absurd (omega (arith, h))
long_take (suc n) (x ∷ xs) h = ap suc (long_take n xs (omega (arith, h)))

pub own_take : (own : Name → Bool) (n : ℕ) (xs : List Name) → OwnNames own xs → OwnNames own (take n xs)
own_take own zero xs h = tt
own_take own (suc n) [] h = tt
own_take own (suc n) (x ∷ xs) h = (h.0, own_take own n xs h.1)

abbrev NoneIn : List Name → List Name → Type 0
NoneIn ys [] = Unit {0}
NoneIn ys (x ∷ xs) = (is_one_of ys x ≡ false) × NoneIn ys xs

neither : (n : Name) (xs ys : List Name) → is_one_of xs n ≡ false → is_one_of ys n ≡ false → is_one_of (xs ++ ys) n ≡ false
neither n [] ys h k = k
neither n (x ∷ xs) ys h k = by (same_name x n) h (neither n xs ys)
  where
    by : (t : Bool) → (t || is_one_of xs n) ≡ false → (is_one_of xs n ≡ false → is_one_of ys n ≡ false → is_one_of (xs ++ ys) n ≡ false) → (t || is_one_of (xs ++ ys) n) ≡ false
    by true h r = absurd (let z : ⊥ = cc in z)
    by false h r = r h k

distinct_join : (xs ys : List Name) → AreDistinct xs → AreDistinct ys → NoneIn ys xs → AreDistinct (xs ++ ys)
distinct_join [] ys h k n = k
distinct_join (x ∷ xs) ys h k n = (neither x xs ys h.0 n.0, distinct_join xs ys h.1 k n.1)

-- ---- what is asked of subscripts, but for the order of dimensions
pub record ReadyAt (at : Access) : Type 0 where
  pub symbols : SymbolsAppear 0 (flat_map operands_of at.map.results) at.map.syms
  pub enough : at.map.dims ≤ length at.operands
  pub dims : AreDistinct (take at.map.dims at.operands)
  pub syms : AreDistinct (drop at.map.dims at.operands)

abbrev pub FewInValue : Access → Type 0
FewInValue at = (at.map.syms < 2 ^ 64) × ((at.map.dims < 2 ^ 64) ⊎ (at.map.dims ≤ operands_in at.map.results))

abbrev pub ReadyPlain : Plain → Type 0
ReadyPlain (Value r pick at) = FewInValue at
ReadyPlain (Load r m at ty) = ReadyAt at
ReadyPlain (Store x m at ty) = ReadyAt at
ReadyPlain (Start x x_at y y_at t t_at n stride types) = ReadyAt x_at × ReadyAt y_at × ReadyAt t_at
ReadyPlain (Wait t at n ty) = ReadyAt at
ReadyPlain p = Unit {0}

abbrev pub ReadyLoop : Name → Bound → Bound → ℤ → Type 0
ReadyLoop v l u s = FewInBound l × FewInBound u

abbrev pub ReadyBranch : Set → List Name → Type 0
ReadyBranch set names = AreFew set.dims set.syms

-- subscripts over dimensions alone, as many as operands
all_dims : (at : Access) → at.map.syms ≡ 0 → SymbolsAppear 0 (flat_map operands_of at.map.results) 0 → length at.operands ≡ at.map.dims → AreDistinct at.operands → ReadyAt at
all_dims at none symbols count distinct = record {
  symbols = subst (SymbolsAppear 0 (flat_map operands_of at.map.results)) (sym none) symbols;
  enough = omega (arith, count);
  dims = subst AreDistinct (sym (take_whole at.operands at.map.dims count)) distinct;
  syms = subst AreDistinct (sym (drop_whole at.operands at.map.dims count)) tt;
}

-- ---- the names of a template
module _ (name : ℕ → Name) (apart : (i j : ℕ) → same_name (name i) (name j) ≡ true → i ≡ j) where
  differ : (i j : ℕ) → (i ≡ j → ⊥) → same_name (name i) (name j) ≡ false
  differ i j unequal = by (same_name (name i) (name j)) refl
    where
      by : (t : Bool) → same_name (name i) (name j) ≡ t → t ≡ false
      by true e = absurd (unequal (apart i j e))
      by false e = refl

  none_place : (i k : ℕ) (ds : List Dimension) → ((j : ℕ) → k ≤ j → 7 + 4 * j ≡ i → ⊥) → is_one_of (named (begins_from name k ds)) (name i) ≡ false
  none_place i k [] unequal = refl
  none_place i k (d ∷ ds) unequal = by d.terms (none_place i (suc k) ds (λ j l. unequal j (omega (arith, l))))
    where
      by : (ts : List (Name × ℤ)) → is_one_of (named (begins_from name (suc k) ds)) (name i) ≡ false → is_one_of (named (begin name k d ts ∷ begins_from name (suc k) ds)) (name i) ≡ false
      by [] h = h
      by (t ∷ ts) h = ap (λ b. b || is_one_of (named (begins_from name (suc k) ds)) (name i)) (differ (7 + 4 * k) i (unequal k (omega arith))) ∙ h

  places_distinct : (k : ℕ) (ds : List Dimension) → AreDistinct (named (begins_from name k ds))
  places_distinct k [] = tt
  places_distinct k (d ∷ ds) = by d.terms (places_distinct (suc k) ds)
    where
      by : (ts : List (Name × ℤ)) → AreDistinct (named (begins_from name (suc k) ds)) → AreDistinct (named (begin name k d ts ∷ begins_from name (suc k) ds))
      by [] h = h
      by (t ∷ ts) h = (none_place (7 + 4 * k) (suc k) ds (λ j l e. omega (arith, l, e)), h)

  module _ (c : ℕ) where
    abbrev turn : ℕ → Name
    turn d = name (c + 4 * d)

    none_turn : (i k : ℕ) (bs : List Begin) → i < c + 4 * k → is_one_of (turn_names turn k bs) (name i) ≡ false
    none_turn i k [] l = refl
    none_turn i k (b ∷ bs) l = ap (λ t. t || is_one_of (turn_names turn (suc k) bs) (name i)) (differ (c + 4 * k) i (λ e. omega (arith, l, e))) ∙ none_turn i (suc k) bs (omega (arith, l))

    turns_distinct : (k : ℕ) (bs : List Begin) → AreDistinct (turn_names turn k bs)
    turns_distinct k [] = tt
    turns_distinct k (b ∷ bs) = (none_turn (c + 4 * k) (suc k) bs (omega arith), turns_distinct (suc k) bs)

    turns_long : (k : ℕ) (bs : List Begin) → length (turn_names turn k bs) ≡ length bs
    turns_long k [] = refl
    turns_long k (b ∷ bs) = ap suc (turns_long (suc k) bs)

    no_turn : (other : (j d : ℕ) → 7 + 4 * j ≡ c + 4 * d → ⊥) (k : ℕ) (ds : List Dimension) (bs : List Begin) → NoneIn (named (begins_from name 0 ds)) (turn_names turn k bs)
    no_turn other k ds [] = tt
    no_turn other k ds (b ∷ bs) = (none_place (c + 4 * k) 0 ds (λ j l. other j k), no_turn other (suc k) ds bs)

    slow_ready : (other : (j d : ℕ) → 7 + 4 * j ≡ c + 4 * d → ⊥) (ds : List Dimension) → ReadyAt (slow_at_turns turn (begins_from name 0 ds))
    slow_ready other ds =
        let bs = begins_from name 0 ds in
        let a = length-append (turn_names turn 0 bs) (named bs) in
        let b = turns_long 0 bs in
        all_dims (slow_at_turns turn bs) refl (turn_places_symbols 0 (length bs) bs) (omega (arith, a, b)) (distinct_join (turn_names turn 0 bs) (named bs) (turns_distinct 0 bs) (places_distinct 0 ds) (no_turn other 0 ds bs))

    fast_ready : (bs : List Begin) → ReadyAt (fast_at_turns turn bs)
    fast_ready bs = all_dims (fast_at_turns turn bs) refl (fast_turns_symbols bs) (turns_long 0 bs) (turns_distinct 0 bs)

  at_places_ready : (ds : List Dimension) → ReadyAt (slow_at_places (begins_from name 0 ds))
  at_places_ready ds = all_dims (slow_at_places (begins_from name 0 ds)) refl (places_symbols 0 (begins_from name 0 ds)) refl (places_distinct 0 ds)

  zeros_ready : (bs : List Begin) → ReadyAt (fast_at_zeros bs)
  zeros_ready bs = all_dims (fast_at_zeros bs) refl (zeros_symbols bs) refl tt

  -- ---- an access that is redirected
  module _ (own : Name → Bool) (made : (i : ℕ) → own (name i) ≡ false) where
    strange : (n : Name) (i : ℕ) → own n ≡ true → same_name (name i) n ≡ false
    strange n i o = by (same_name (name i) n) refl
      where
        by : (t : Bool) → same_name (name i) n ≡ t → t ≡ false
        by true e = absurd (let s = sym o ∙ ap own (sym (same_name-eq (name i) n e)) ∙ made i in let z : ⊥ = cc in z)
        by false e = refl

    none_own : (n : Name) (k : ℕ) (ds : List Dimension) → own n ≡ true → is_one_of (named (begins_from name k ds)) n ≡ false
    none_own n k [] o = refl
    none_own n k (d ∷ ds) o = by d.terms (none_own n (suc k) ds o)
      where
        by : (ts : List (Name × ℤ)) → is_one_of (named (begins_from name (suc k) ds)) n ≡ false → is_one_of (named (begin name k d ts ∷ begins_from name (suc k) ds)) n ≡ false
        by [] h = h
        by (t ∷ ts) h = ap (λ b. b || is_one_of (named (begins_from name (suc k) ds)) n) (strange n (7 + 4 * k) o) ∙ h

    none_of : (ns : List Name) (ds : List Dimension) → OwnNames own ns → NoneIn (named (begins_from name 0 ds)) ns
    none_of [] ds o = tt
    none_of (n ∷ ns) ds o = (none_own n 0 ds o.0, none_of ns ds o.1)

    in_fast_ready : (ds : List Dimension) (at : Access) → OwnNames own at.operands → ReadyAt at → ReadyAt (in_fast (begins_from name 0 ds) at)
    in_fast_ready ds at o h =
        let bs = begins_from name 0 ds in
        let xs = take at.map.dims at.operands in
        let ys = drop at.map.dims at.operands in
        let a = length-append xs (named bs ++ ys) in
        let b = length-append (named bs) ys in
        let c = long_take at.map.dims at.operands h.enough in
        record {
          symbols = same_symbols 0 at.map.syms (flat_map operands_of at.map.results) (flat_map operands_of (Const (pos 0) ∷ less_places at.map.dims at.map.results bs)) (in_fast_syms_are at.map.dims at.map.results bs) h.symbols;
          enough = omega (arith, a, b, c);
          dims = subst AreDistinct (sym (in_fast_dims bs at h.enough)) (distinct_join xs (named bs) h.dims (places_distinct 0 ds) (none_of xs ds (own_take own at.map.dims at.operands o)));
          syms = subst AreDistinct (sym (in_fast_syms bs at h.enough)) h.syms;
        }

-- ---- a template
abbrev pub Both : (Name → Bool) → Plain → Type 0
Both own q = ReadyPlain q × OwnPlain own q

either : (t : Bool) (x y : Plain) → ReadyPlain x → ReadyPlain y → ReadyPlain (if t then x else y)
either true x y h k = h
either false x y h k = k

pub both_ready : (own : Name → Bool) (q : Plain) → Both own q → ReadyPlain q
both_ready own q h = h.0

module _ (p : Placement) (own : Name → Bool) (apart : (i j : ℕ) → same_name (p.name i) (p.name j) ≡ true → i ≡ j) (made : (i : ℕ) → own (p.name i) ≡ false) where
  redirected_ready : (q : Plain) → Both own q → ReadyPlain (redirect p q)
  redirected_ready (Load r m at ty) h = either (same_name p.memref m) (Load r (fast_name p.name) (in_fast (begins p) at) (fast_type p)) (Load r m at ty) (in_fast_ready p.name apart own made p.dims at h.1.1.1 h.0) h.0
  redirected_ready (Store x m at ty) h = either (same_name p.memref m) (Store x (fast_name p.name) (in_fast (begins p) at) (fast_type p)) (Store x m at ty) (in_fast_ready p.name apart own made p.dims at h.1.1.1 h.0) h.0
  redirected_ready (Value r pick at) h = h.0
  redirected_ready (RawLoad r m at ty) h = h.0
  redirected_ready (RawStore x m at ty) h = h.0
  redirected_ready (Constant r z ty) h = h.0
  redirected_ready (Binary r op a b ty) h = h.0
  redirected_ready (Cast r kind x from to) h = h.0
  redirected_ready (Alloc r ty) h = h.0
  redirected_ready (Dealloc m ty) h = h.0
  redirected_ready (Start a aa b bb t ta n stride types) h = h.0
  redirected_ready (Wait t at n ty) h = h.0
  redirected_ready Return h = h.0

  no_in : (j d : ℕ) → 7 + 4 * j ≡ 9 + 4 * d → ⊥
  no_in j d e = omega (arith, e)

  no_out : (j d : ℕ) → 7 + 4 * j ≡ 10 + 4 * d → ⊥
  no_out j d e = omega (arith, e)

  form_few : (t : Name × ℤ) (ts : List (Name × ℤ)) (z : ℤ) (es : List Expr) → FewInValue (over_terms (t ∷ ts) (form (t ∷ ts) z ∷ es))
  form_few t ts z es = (omega arith, inr (let l = form_long t ts z in omega (arith, l)))

  pub template_ready : HoldsOf (Both own) ReadyPlain (both_ready own) ReadyLoop ReadyBranch p
  template_ready = record {
    least = λ k d t ts. form_few t ts d.offset (Const (last_place d) ∷ []);
    raised = λ k. (omega arith, inl (omega arith));
    placed = λ k d t ts. form_few t ts d.offset [];
    turn_in = λ k d. (tt, tt);
    turn_out = λ k d. (tt, tt);
    load_in = slow_ready p.name apart 9 no_in p.dims;
    store_in = fast_ready p.name apart 9 (begins p);
    load_out = fast_ready p.name apart 10 (begins p);
    store_out = slow_ready p.name apart 10 no_out p.dims;
    start_in = λ chunks. (at_places_ready p.name apart p.dims, zeros_ready p.name apart (begins p), zeros_ready p.name apart []);
    start_out = λ chunks. (zeros_ready p.name apart (begins p), at_places_ready p.name apart p.dims, zeros_ready p.name apart []);
    wait = zeros_ready p.name apart [];
    constant = λ i k. tt;
    alloc_fast = tt;
    alloc_tag = tt;
    dealloc_fast = tt;
    dealloc_tag = tt;
    redirected = redirected_ready;
  }
