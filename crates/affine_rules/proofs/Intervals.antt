-- Intervals of operands, and the expressions over them.
use Rattle.std.proofs.Common.{◌≡◌, ℕ, zero, suc, ◌+◌, ◌≤◌, Bool, true, false, List, [], ◌∷◌, ◌++◌, map, take, drop, length, refl, sym, ap, ◌∙◌, arith}
use Rattle.std.specs.Prelude.{◌&&◌, Option, Some, None, is_some, nat_eq}
use Rattle.std.specs.List.{list_all}
use Rattle.std.proofs.lemmas.Bool.{and_parts}
use Rattle.affine_expr.specs.declared.expr.Expr.{Expr}
use Rattle.affine_expr.specs.declared.map.Interval.{Interval}
use Rattle.affine_expr.specs.declared.map.Set.{Set}
use Rattle.affine_expr.specs.Bounded.{range_at, ranges, bounded, shown, interval_of}
use Rattle.affine_expr.specs.Pure.{has_leaves_below}
use Rattle.affine_expr.specs.Spread.{Range, Spread}
use Rattle.affine_ast.specs.declared.name.Name.{Name}
use Rattle.affine_ast.specs.declared.types.Access.{Access}
use Rattle.affine_ast.specs.Rules.{has_interval, map_fits, set_fits, row_has_leaves, row_bounded, access_bounded, set_bounded, is_small_dimension}
use Rattle.affine_ast.specs.Scope.{Scope, ranges_in}

some_shown : (o : Option Spread) → is_some (shown o) ≡ is_some o
some_shown None = refl
some_shown (Some s) = refl

pub has_interval_is : (ds ss : List Interval) (e : Expr) (b : Bool) → b ≡ is_some (interval_of ds ss e) → b ≡ has_interval (ranges ds) (ranges ss) e
unfolding interval_of has_interval
has_interval_is ds ss e b h = h ∙ some_shown (bounded (ranges ds) (ranges ss) e)

pub ranges_push : (is : List Interval) (i : Interval) → ranges (is ++ i ∷ []) ≡ ranges is ++ range_at i ∷ []
ranges_push [] i = refl
ranges_push (j ∷ is) i = ap (λ rs. range_at j ∷ rs) (ranges_push is i)

pub ranges_take : (n : ℕ) (is : List Interval) → ranges (take n is) ≡ take n (ranges is)
ranges_take zero is = refl
ranges_take (suc n) [] = refl
ranges_take (suc n) (i ∷ is) = ap (λ rs. range_at i ∷ rs) (ranges_take n is)

pub ranges_drop : (n : ℕ) (is : List Interval) → ranges (drop n is) ≡ drop n (ranges is)
ranges_drop zero is = refl
ranges_drop (suc n) [] = refl
ranges_drop (suc n) (i ∷ is) = ranges_drop n is

length_ranges : (is : List Interval) → length (ranges is) ≡ length is
length_ranges [] = refl
length_ranges (i ∷ is) = ap suc (length_ranges is)

length_map : (f : Name → Range) (ns : List Name) → length (map f ns) ≡ length ns
length_map f [] = refl
length_map f (n ∷ ns) = ap suc (length_map f ns)

length_take : (n : ℕ) (is : List Interval) → n ≤ length is → length (take n is) ≡ n
length_take zero is h = refl
length_take (suc n) [] h = absurd (omega arith)
length_take (suc n) (i ∷ is) h = ap suc (length_take n is (omega arith))

length_drop : (n : ℕ) (is : List Interval) (m : ℕ) → length is ≡ n + m → length (drop n is) ≡ m
length_drop zero is m h = h ∙ (omega arith)
length_drop (suc n) [] m h = absurd (omega arith)
length_drop (suc n) (i ∷ is) m h = length_drop n is m (omega arith)

module _ (f : Name → Range) (names : List Name) (is : List Interval) (e : ranges is ≡ map f names) where
  as_many : length is ≡ length names
  as_many = sym (length_ranges is) ∙ ap length e ∙ length_map f names

  module _ (dims syms : ℕ) (h : nat_eq (length names) (dims + syms) ≡ true) where
    total : length is ≡ dims + syms
    total = let k : length names ≡ dims + syms = grind (arith, h) in as_many ∙ k

    pub dims_are : length (take dims is) ≡ dims
    dims_are = let t = total in length_take dims is (omega (arith, t))

    pub syms_are : length (drop dims is) ≡ syms
    syms_are = length_drop dims is syms total

-- the leaves of an access lie among the intervals of its operands
pub leaves_among : (f : Name → Range) (at : Access) (is ds ss : List Interval) → ranges is ≡ map f at.operands → map_fits at ≡ true → ds ≡ take at.map.dims is → ss ≡ drop at.map.dims is
    → list_all (has_leaves_below (length ds) (length ss)) at.map.results ≡ true
unfolding map_fits
leaves_among f at is ds ss e fits d s =
    let two = and_parts (nat_eq (length at.operands) (at.map.dims + at.map.syms)) (list_all (has_leaves_below at.map.dims at.map.syms) at.map.results) fits in
    (λ i. list_all (has_leaves_below ((ap length d ∙ dims_are f at.operands is e at.map.dims at.map.syms two.0) i) ((ap length s ∙ syms_are f at.operands is e at.map.dims at.map.syms two.0) i)) at.map.results) ∙ two.1

pub set_leaves_among : (f : Name → Range) (set : Set) (names : List Name) (is ds ss : List Interval) → ranges is ≡ map f names → set_fits set names ≡ true → ds ≡ take set.dims is → ss ≡ drop set.dims is
    → list_all (row_has_leaves (length ds) (length ss)) set.rows ≡ true
unfolding set_fits
set_leaves_among f set names is ds ss e fits d s =
    let two = and_parts (nat_eq (length names) (set.dims + set.syms)) (list_all (row_has_leaves set.dims set.syms) set.rows) fits in
    (λ i. list_all (row_has_leaves ((ap length d ∙ dims_are f names is e set.dims set.syms two.0) i) ((ap length s ∙ syms_are f names is e set.dims set.syms two.0) i)) set.rows) ∙ two.1

-- what is found over the intervals is what the rule asks
pub access_found : (s : Scope) (at : Access) (is ds ss : List Interval) (small b : Bool) → small ≡ list_all (is_small_dimension s) (take at.map.dims at.operands) → small ≡ true → ranges is ≡ map (ranges_in s) at.operands
    → ds ≡ take at.map.dims is → ss ≡ drop at.map.dims is → b ≡ list_all (has_interval (ranges ds) (ranges ss)) at.map.results → b ≡ access_bounded s at
unfolding access_bounded
access_found s at is ds ss small b h k e d t r =
    r ∙ (λ i. list_all (has_interval ((ap ranges d ∙ ranges_take at.map.dims is ∙ ap (take at.map.dims) e) i) ((ap ranges t ∙ ranges_drop at.map.dims is ∙ ap (drop at.map.dims) e) i)) at.map.results)
    ∙ ap (λ c. c && list_all (has_interval (take at.map.dims (map (ranges_in s) at.operands)) (drop at.map.dims (map (ranges_in s) at.operands))) at.map.results) (sym k ∙ h)

pub access_large : (s : Scope) (at : Access) (small : Bool) → small ≡ list_all (is_small_dimension s) (take at.map.dims at.operands) → small ≡ false → false ≡ access_bounded s at
unfolding access_bounded
access_large s at small h k = ap (λ c. c && list_all (has_interval (take at.map.dims (map (ranges_in s) at.operands)) (drop at.map.dims (map (ranges_in s) at.operands))) at.map.results) (sym k ∙ h)

pub set_found : (s : Scope) (set : Set) (names : List Name) (is ds ss : List Interval) (small b : Bool) → small ≡ list_all (is_small_dimension s) (take set.dims names) → small ≡ true → ranges is ≡ map (ranges_in s) names
    → ds ≡ take set.dims is → ss ≡ drop set.dims is → b ≡ list_all (row_bounded (ranges ds) (ranges ss)) set.rows → b ≡ set_bounded s set names
unfolding set_bounded
set_found s set names is ds ss small b h k e d t r =
    r ∙ (λ i. list_all (row_bounded ((ap ranges d ∙ ranges_take set.dims is ∙ ap (take set.dims) e) i) ((ap ranges t ∙ ranges_drop set.dims is ∙ ap (drop set.dims) e) i)) set.rows)
    ∙ ap (λ c. c && list_all (row_bounded (take set.dims (map (ranges_in s) names)) (drop set.dims (map (ranges_in s) names))) set.rows) (sym k ∙ h)

pub set_large : (s : Scope) (set : Set) (names : List Name) (small : Bool) → small ≡ list_all (is_small_dimension s) (take set.dims names) → small ≡ false → false ≡ set_bounded s set names
unfolding set_bounded
set_large s set names small h k = ap (λ c. c && list_all (row_bounded (take set.dims (map (ranges_in s) names)) (drop set.dims (map (ranges_in s) names))) set.rows) (sym k ∙ h)
