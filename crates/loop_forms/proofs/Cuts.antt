-- A loop's split has the loop's first turns, all but its last, and its last.
use Rattle.std.proofs.Common.{◌≡◌, ℕ, zero, suc, ◌+◌, ◌-◌, ◌≤◌, ℤ, pos, ◌+ℤ◌, ◌-ℤ◌, ◌*ℤ◌, ◌<ℤ◌, List, [], ◌∷◌, ◌++◌, length, map, take, drop, refl, sym, ap, ◌∙◌, subst, arith, Bool, true}
use Rattle.std.specs.Prelude.{nat_eq}
use Rattle.std.specs.List.{list_all}
use Rattle.std.specs.Int.{int_max, int_min}
use Rattle.std.proofs.lemmas.Bool.{and_parts}
use Rattle.std.proofs.lemmas.List.{map-append, length-append, length-map, length-take-le, length-drop, take_at, drop_at}
use Rattle.affine_expr.specs.declared.expr.Expr.{Expr, Const, Dim, FloorDiv, Mul, fold-Expr, fold-roll-Expr}
use Rattle.affine_expr.specs.declared.expr.Expr.TheVariants.{rolls-Dim, rolls-Const}
use Rattle.affine_expr.specs.declared.expr.Expr.TheOpen.{Expr-F}
use Rattle.affine_expr.specs.Value.{floor_div, value}
use Rattle.affine_expr.specs.Pure.{has_leaves_below, leaves_step}
use Rattle.affine_expr.proofs.Values.{value-Const, value-Dim, value-Mul, value-FloorDiv}
use Rattle.affine_ast.specs.declared.name.Name.{Name}
use Rattle.affine_ast.specs.declared.types.Access.{Access}
use Rattle.affine_ast.specs.declared.types.Bound.{Bound}
use Rattle.affine_ast.specs.declared.types.Bound.TheVariants as bound
use Rattle.affine_ast.specs.Rules.{map_fits}
use Rattle.direct_meaning.specs.Static.{Env, number, numbers, results_of, greatest, least, lower_of, upper_of}
use Rattle.direct_meaning.specs.Turns.{turns}
use Rattle.loop_forms.specs.declared.parts.Parts.{Parts}
use Rattle.loop_forms.specs.Sums.{sum_of, difference_of}
use Rattle.loop_forms.specs.Split.{as_map, sole, behind, second_of, over_both, with_result, reach, prologue_length, prologue_end, main_end, epilogue_begin, last_turns, of_numbers, of_maps, split_of}
use Rattle.loop_forms.specs.Laws.{HasOneResult, turns_of, SplitCutsTurns}
use Rattle.loop_forms.proofs.Cut.{Cut, cut}
use Rattle.loop_forms.proofs.Values.{sum_value, difference_value, value_front, value_back}

-- ---- a map with one result
record IsSole (at : Access) : Type 0 where
  count : length at.operands ≡ at.map.dims + at.map.syms
  leaves : has_leaves_below at.map.dims at.map.syms (sole at.map.results) ≡ true
  one : at.map.results ≡ sole at.map.results ∷ []

sole_list : (xs : List Expr) → length xs ≡ 1 → xs ≡ sole xs ∷ []
sole_list [] h = absurd (omega (arith, h))
sole_list (x ∷ []) h = refl
sole_list (x ∷ y ∷ ys) h = absurd (omega (arith, h))

sole_leaves : (f : Expr → Bool) (xs : List Expr) → length xs ≡ 1 → list_all f xs ≡ true → f (sole xs) ≡ true
sole_leaves f [] h k = absurd (omega (arith, h))
sole_leaves f (x ∷ xs) h k = (and_parts (f x) (list_all f xs) k).0

number_leaves : (z : ℤ) → has_leaves_below 0 0 (Const z) ≡ true
unfolding has_leaves_below
number_leaves z = ap (fold-Expr Bool (leaves_step 0 0)) (sym (rolls-Const z)) ∙ fold-roll-Expr Bool (leaves_step 0 0) (Expr-F.Const z)

value_leaves : has_leaves_below 1 0 (Dim 0) ≡ true
unfolding has_leaves_below
value_leaves = ap (fold-Expr Bool (leaves_step 1 0)) (sym (rolls-Dim 0)) ∙ fold-roll-Expr Bool (leaves_step 1 0) (Expr-F.Dim 0)

is_sole : (b : Bound) → HasOneResult b → IsSole (as_map b)
unfolding map_fits
is_sole (bound.Int z) h = record { count = refl; leaves = number_leaves z; one = refl }
is_sole (bound.Value v) h = record { count = refl; leaves = value_leaves; one = refl }
is_sole (bound.Map at) h =
    let p = and_parts (nat_eq (length at.operands) (at.map.dims + at.map.syms)) (list_all (has_leaves_below at.map.dims at.map.syms) at.map.results) h.0 in
    record { count = grind (arith, p.0); leaves = sole_leaves _ at.map.results h.1 p.1; one = sole_list at.map.results h.1 }

map_take : (f : Name → ℤ) (n : ℕ) (xs : List Name) → map f (take n xs) ≡ take n (map f xs)
map_take f zero xs = refl
map_take f (suc n) [] = refl
map_take f (suc n) (x ∷ xs) = ap (λ l. f x ∷ l) (map_take f n xs)

map_drop : (f : Name → ℤ) (n : ℕ) (xs : List Name) → map f (drop n xs) ≡ drop n (map f xs)
map_drop f zero xs = refl
map_drop f (suc n) [] = refl
map_drop f (suc n) (x ∷ xs) = map_drop f n xs

module _ (e : Env) where
  abbrev dims_at : Access → List ℤ
  dims_at at = take at.map.dims (numbers e at.operands)

  abbrev syms_at : Access → List ℤ
  syms_at at = drop at.map.dims (numbers e at.operands)

  abbrev sole_at : Access → ℤ
  sole_at at = value (dims_at at) (syms_at at) (sole at.map.results)

  -- ---- a bound is its one result
  results_sole : (at : Access) → IsSole at → results_of e at ≡ sole_at at ∷ []
  unfolding results_of
  results_sole at h = ap (map (value (dims_at at) (syms_at at))) h.one

  lower_is : (b : Bound) → HasOneResult b → lower_of e b ≡ sole_at (as_map b)
  unfolding lower_of
  lower_is (bound.Int z) h = sym (value-Const [] [] z)
  lower_is (bound.Value v) h = sym (value-Dim (number (e.known v) ∷ []) [] 0)
  lower_is (bound.Map at) h = ap greatest (results_sole at (is_sole (bound.Map at) h))

  upper_is : (b : Bound) → HasOneResult b → upper_of e b ≡ sole_at (as_map b)
  unfolding upper_of
  upper_is (bound.Int z) h = sym (value-Const [] [] z)
  upper_is (bound.Value v) h = sym (value-Dim (number (e.known v) ∷ []) [] 0)
  upper_is (bound.Map at) h = ap least (results_sole at (is_sole (bound.Map at) h))

  dims_count : (at : Access) → IsSole at → length (dims_at at) ≡ at.map.dims
  dims_count at h =
      let m = length-map at.operands (λ n. number (e.known n)) in
      let c = h.count in
      length-take-le at.map.dims (numbers e at.operands) (omega (arith, m, c))

  syms_count : (at : Access) → IsSole at → length (syms_at at) ≡ at.map.syms
  syms_count at h =
      let m = length-map at.operands (λ n. number (e.known n)) in
      let c = h.count in
      length-drop at.map.dims (numbers e at.operands) ∙ omega (arith, m, c)

  -- ---- a map over the values of both
  module _ (l u : Access) (hl : IsSole l) (hu : IsSole u) (results : List Expr) where
    all_numbers : numbers e (over_both l u results).operands ≡ (dims_at l ++ dims_at u) ++ (syms_at l ++ syms_at u)
    all_numbers =
        let f = λ (n : Name). number (e.known n) in
        map-append f (take l.map.dims l.operands ++ take u.map.dims u.operands) (drop l.map.dims l.operands ++ drop u.map.dims u.operands)
        ∙ (λ i. map-append f (take l.map.dims l.operands) (take u.map.dims u.operands) i ++ map-append f (drop l.map.dims l.operands) (drop u.map.dims u.operands) i)
        ∙ (λ i. (map_take f l.map.dims l.operands i ++ map_take f u.map.dims u.operands i) ++ (map_drop f l.map.dims l.operands i ++ map_drop f u.map.dims u.operands i))

    dims_length : length (dims_at l ++ dims_at u) ≡ l.map.dims + u.map.dims
    dims_length = length-append (dims_at l) (dims_at u) ∙ (λ i. dims_count l hl i + dims_count u hu i)

    both_dims : dims_at (over_both l u results) ≡ dims_at l ++ dims_at u
    both_dims = ap (take (l.map.dims + u.map.dims)) all_numbers ∙ take_at (dims_at l ++ dims_at u) (syms_at l ++ syms_at u) (l.map.dims + u.map.dims) dims_length

    both_syms : syms_at (over_both l u results) ≡ syms_at l ++ syms_at u
    both_syms = ap (drop (l.map.dims + u.map.dims)) all_numbers ∙ drop_at (dims_at l ++ dims_at u) (syms_at l ++ syms_at u) (l.map.dims + u.map.dims) dims_length

    both_results : results_of e (over_both l u results) ≡ map (value (dims_at l ++ dims_at u) (syms_at l ++ syms_at u)) results
    unfolding results_of
    both_results = λ i. map (value (both_dims i) (both_syms i)) results

  module _ (l u : Access) (hl : IsSole l) (hu : IsSole u) (s : ℤ) (n : ℕ) where
    abbrev ds : List ℤ
    ds = dims_at l ++ dims_at u

    abbrev ss : List ℤ
    ss = syms_at l ++ syms_at u

    first_value : value ds ss (sole l.map.results) ≡ sole_at l
    first_value =
        value_front (dims_at l) (dims_at u) (syms_at l) (syms_at u) (sole l.map.results)
        ((λ i. has_leaves_below (dims_count l hl i) (syms_count l hl i) (sole l.map.results)) ∙ hl.leaves)

    second_value : value ds ss (second_of l u) ≡ sole_at u
    second_value = value_back (dims_at l) (dims_at u) (syms_at l) (syms_at u) l.map.dims l.map.syms (dims_count l hl) (syms_count l hl) (sole u.map.results)

    ends_prologue : upper_of e (bound.Map (over_both l u (sum_of (sole l.map.results) (Const (prologue_length s n)) ∷ second_of l u ∷ []))) ≡ prologue_end (sole_at l) (sole_at u) s n
    unfolding upper_of
    ends_prologue =
        ap least (both_results l u hl hu _)
        ∙ (λ i. int_min ((sum_value ds ss (sole l.map.results) (Const (prologue_length s n)) ∙ (λ j. first_value j +ℤ value-Const ds ss (prologue_length s n) j)) i) (second_value i))

    ends_main : upper_of e (bound.Map (with_result u (difference_of (sole u.map.results) (Const (reach s n))))) ≡ main_end (sole_at u) s n
    unfolding upper_of results_of
    ends_main = difference_value (dims_at u) (syms_at u) (sole u.map.results) (Const (reach s n)) ∙ ap (λ z. sole_at u -ℤ z) (value-Const (dims_at u) (syms_at u) (reach s n))

    last_value : value ds ss (last_turns (sole l.map.results) (second_of l u) s n) ≡ sole_at l +ℤ (floor_div (sole_at u -ℤ sole_at l -ℤ pos 1) s -ℤ pos (n - 2)) *ℤ s
    last_value =
        let whole = difference_of (difference_of (second_of l u) (sole l.map.results)) (Const (pos 1)) in
        let fewer = difference_of (FloorDiv whole (Const s)) (Const (pos (n - 2))) in
        let one : value ds ss whole ≡ sole_at u -ℤ sole_at l -ℤ pos 1 =
        difference_value ds ss (difference_of (second_of l u) (sole l.map.results)) (Const (pos 1))
        ∙ (λ i. (difference_value ds ss (second_of l u) (sole l.map.results) ∙ (λ j. second_value j -ℤ first_value j)) i -ℤ value-Const ds ss (pos 1) i) in
        let two : value ds ss fewer ≡ floor_div (sole_at u -ℤ sole_at l -ℤ pos 1) s -ℤ pos (n - 2) =
        difference_value ds ss (FloorDiv whole (Const s)) (Const (pos (n - 2)))
        ∙ (λ i. (value-FloorDiv ds ss whole (Const s) ∙ (λ j. floor_div (one j) (value-Const ds ss s j))) i -ℤ value-Const ds ss (pos (n - 2)) i) in
        sum_value ds ss (sole l.map.results) (Mul fewer (Const s))
        ∙ (λ i. first_value i +ℤ (value-Mul ds ss fewer (Const s) ∙ (λ j. two j *ℤ value-Const ds ss s j)) i)

    begins_epilogue : lower_of e (bound.Map (over_both l u (sole l.map.results ∷ last_turns (sole l.map.results) (second_of l u) s n ∷ []))) ≡ epilogue_begin (sole_at l) (sole_at u) s n
    unfolding lower_of
    begins_epilogue = ap greatest (both_results l u hl hu _) ∙ (λ i. int_max (first_value i) (last_value i))

  -- ---- the law
  abbrev Cuts : Bound → Bound → ℤ → ℕ → Parts → Type 0
  Cuts lower upper s n p =
      (turns_of e p.prologue s ≡ take (n - 1) (turns_of e (lower, upper) s))
      × (turns_of e p.main s ≡ take (length (turns_of e (lower, upper) s) - (n - 1)) (turns_of e (lower, upper) s))
      × (turns_of e p.epilogue s ≡ drop (length (turns_of e (lower, upper) s) - (n - 1)) (turns_of e (lower, upper) s))

  of_maps_cuts : (lower upper : Bound) (s : ℤ) (n : ℕ) → HasOneResult lower → HasOneResult upper → pos 0 <ℤ s → 2 ≤ n → Cuts lower upper s n (of_maps lower upper (as_map lower) (as_map upper) s n)
  of_maps_cuts lower upper s n hl hu p many =
      let l = as_map lower in
      let u = as_map upper in
      let sl = is_sole lower hl in
      let su = is_sole upper hu in
      let low = lower_is lower hl in
      let high = upper_is upper hu in
      let c = cut (sole_at l) (sole_at u) s n p many in
      let same : turns (sole_at l) (sole_at u) s ≡ turns_of e (lower, upper) s = (λ i. turns (sym low i) (sym high i) s) in (
        (λ i. turns (low i) (ends_prologue l u sl su s n i) s) ∙ c.0 ∙ ap (take (n - 1)) same,
        (λ i. turns (low i) (ends_main l u sl su s n i) s) ∙ c.1 ∙ ap (λ t. take (length t - (n - 1)) t) same,
        (λ i. turns (begins_epilogue l u sl su s n i) (high i) s) ∙ c.2 ∙ ap (λ t. drop (length t - (n - 1)) t) same,
      )

of_numbers_cuts : (e : Env) (a b s : ℤ) (n : ℕ) → pos 0 <ℤ s → 2 ≤ n → Cuts e (bound.Int a) (bound.Int b) s n (of_numbers a b s n)
unfolding lower_of upper_of
of_numbers_cuts e a b s n p many = cut a b s n p many

pub split_cuts : SplitCutsTurns
unfolding split_of
split_cuts e (bound.Int a) (bound.Int b) s n hl hu p many = of_numbers_cuts e a b s n p many
split_cuts e (bound.Int a) (bound.Value v) s n hl hu p many = of_maps_cuts e (bound.Int a) (bound.Value v) s n hl hu p many
split_cuts e (bound.Int a) (bound.Map at) s n hl hu p many = of_maps_cuts e (bound.Int a) (bound.Map at) s n hl hu p many
split_cuts e (bound.Value v) upper s n hl hu p many = of_maps_cuts e (bound.Value v) upper s n hl hu p many
split_cuts e (bound.Map at) upper s n hl hu p many = of_maps_cuts e (bound.Map at) upper s n hl hu p many
