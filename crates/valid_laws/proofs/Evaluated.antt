-- The expressions of a valid module may be evaluated wherever a run comes to them.
use Rattle.std.proofs.Common.{◌≡◌, ℕ, zero, suc, ◌+◌, ◌≤◌, ℤ, ◌≤ℤ◌, ◌<ℤ◌, true, List, [], ◌∷◌, map, take, drop, length, refl, ap, ◌∙◌, arith}
use Rattle.std.specs.Prelude.{◌&&◌, Option, Some, None, is_some, IsSome, nat_eq}
use Rattle.std.specs.List.{list_all}
use Rattle.std.proofs.lemmas.Bool.{and_parts}
use Rattle.std.proofs.lemmas.Int.{ints}
use Rattle.affine_expr.specs.declared.expr.Expr.{Expr}
use Rattle.affine_expr.specs.declared.map.Constraint.{Constraint}
use Rattle.affine_expr.specs.declared.map.Interval.{Interval}
use Rattle.affine_expr.specs.declared.map.Set.{Set}
use Rattle.affine_expr.specs.Bounded.{ranges, bounded, shown, interval_of, AreIn, Evaluable, AllEvaluable}
use Rattle.affine_expr.specs.Pure.{is_pure, has_leaves_below}
use Rattle.affine_expr.specs.Spread.{Range, Spread, Within}
use Rattle.affine_ast.specs.declared.module.Module.{Module}
use Rattle.affine_ast.specs.declared.name.Name.{Name}
use Rattle.affine_ast.specs.declared.types.Access.{Access}
use Rattle.affine_ast.specs.declared.types.Bound.{Bound}
use Rattle.affine_ast.specs.declared.types.Bound.TheVariants as bound
use Rattle.affine_ast.specs.declared.types.MemrefType.{MemrefType}
use Rattle.affine_ast.specs.Rules.{map_fits, has_result, set_fits, row_has_leaves, access_pure, set_pure, row_pure, has_interval, row_bounded, subscripts_fit, bound_fits, bound_pure, counts_fit, maps_pure, ends_fit, results_fit, step_positive}
use Rattle.affine_ast.specs.declared.image.Image.{Image}
use Rattle.affine_ast.specs.Intervals.{first_turn, last_end, turn_range}
use Rattle.affine_ast.specs.Names.{put}
use Rattle.affine_ast.specs.Scope.{Totals, Around, counted, in_loop, in_condition, with_totals, behind_plain}
use Rattle.affine_ast.specs.Validity.{Passed, then_told, told, rule_of_plain, rule_of_loop, rule_of_condition, IsValid}
use Rattle.affine_ast.specs.Nest.{Plain, Nest, Nothing, Loop, Branch, Does, nest, Value, Load, Store, Start, Wait}
use Rattle.affine_ast.specs.Parts.{Every, maps_of}
use Rattle.affine_ast.proofs.Parts.{Every-passed, Every-both}
use Rattle.direct_meaning.specs.Actions.{after_plain, behind}
use Rattle.direct_meaning.specs.Memory.{Fits, start_env}
use Rattle.direct_meaning.specs.Pure.{AffineNest}
use Rattle.direct_meaning.specs.Static.{Env, knows, numbers, lower_of, upper_of}
use Rattle.direct_meaning.specs.Work.{Ranges, ranges_after, start_ranges}
use Rattle.direct_meaning.proofs.RangeLaws.{InRanges}
use Rattle.direct_meaning.proofs.RangesHold.{RangesHold, numbers_in, take_in, drop_in, put_in, lower_in, upper_in, plain_in, start_in}
use Rattle.valid_laws.specs.Bounded.{BoundedAccess, BoundedSet, BoundedBound, BoundedPlain, BoundedNest}
use Rattle.valid_laws.specs.Evaluable.{EachEvaluable, EvaluableAccess, EvaluableSet, EvaluableBound, EvaluablePlain, EvaluableNest}
use Rattle.valid_laws.proofs.Passing.{judged_passed, then_passed, plain_holds, loop_holds, condition_holds, valid_passes, valid_affine}
use Rattle.valid_laws.proofs.Reach.{valid_bounded}

abbrev as_interval : Range → Interval
as_interval r = record { least = r.least; greatest = r.greatest }

ranges_back : (rs : List Range) → ranges (map as_interval rs) ≡ rs
ranges_back [] = refl
ranges_back (r ∷ rs) = ap (λ l. r ∷ l) (ranges_back rs)

are_in : (zs : List ℤ) (rs : List Range) → InRanges zs rs → AreIn zs (map as_interval rs)
are_in [] [] h = tt
are_in (z ∷ zs) (r ∷ rs) h = (record { low = h.0.low; high = h.0.high }, are_in zs rs h.1)
are_in [] (r ∷ rs) h = absurd h
are_in (z ∷ zs) [] h = absurd h

some_shown : (o : Option Spread) → is_some o ≡ true → IsSome (shown o)
some_shown None h = absurd (let z : ⊥ = cc in z)
some_shown (Some s) h = refl

some_interval : (ds ss : List Range) (e : Expr) → has_interval ds ss e ≡ true → IsSome (interval_of (map as_interval ds) (map as_interval ss) e)
unfolding has_interval interval_of
some_interval ds ss e h = some_shown (bounded (ranges (map as_interval ds)) (ranges (map as_interval ss)) e) ((λ i. is_some (bounded (ranges_back ds i) (ranges_back ss i) e)) ∙ h)

-- one expression
one_evaluable : (zs ys : List ℤ) (ds ss : List Range) (e : Expr) → InRanges zs ds → InRanges ys ss → is_pure e ≡ true → has_leaves_below (length zs) (length ys) e ≡ true → has_interval ds ss e ≡ true → Evaluable zs ys e
one_evaluable zs ys ds ss e d s p l b = record {
  pure = p;
  leaves = l;
  reach = record { dims = map as_interval ds; syms = map as_interval ss; dims_in = are_in zs ds d; syms_in = are_in ys ss s; reached = some_interval ds ss e b };
}

module _ (zs ys : List ℤ) (ds ss : List Range) (d : InRanges zs ds) (s : InRanges ys ss) where
  all_evaluable : (es : List Expr) → list_all is_pure es ≡ true → list_all (has_leaves_below (length zs) (length ys)) es ≡ true → list_all (has_interval ds ss) es ≡ true → EachEvaluable zs ys es
  all_evaluable [] p l b = tt
  all_evaluable (e ∷ es) p l b =
      let p' = and_parts (is_pure e) (list_all is_pure es) p in
      let l' = and_parts (has_leaves_below (length zs) (length ys) e) (list_all (has_leaves_below (length zs) (length ys)) es) l in
      let b' = and_parts (has_interval ds ss e) (list_all (has_interval ds ss) es) b in
      (one_evaluable zs ys ds ss e d s p'.0 l'.0 b'.0, all_evaluable es p'.1 l'.1 b'.1)

  rows_evaluable : (rows : List Constraint) → list_all row_pure rows ≡ true → list_all (row_has_leaves (length zs) (length ys)) rows ≡ true → list_all (row_bounded ds ss) rows ≡ true → AllEvaluable zs ys rows
  rows_evaluable [] p l b = tt
  rows_evaluable (row ∷ rows) p l b =
      let p' = and_parts (row_pure row) (list_all row_pure rows) p in
      let l' = and_parts (row_has_leaves (length zs) (length ys) row) (list_all (row_has_leaves (length zs) (length ys)) rows) l in
      let b' = and_parts (row_bounded ds ss row) (list_all (row_bounded ds ss) rows) b in
      let p2 = and_parts (is_pure row.left) (is_pure row.right) p'.0 in
      let l2 = and_parts (has_leaves_below (length zs) (length ys) row.left) (has_leaves_below (length zs) (length ys) row.right) l'.0 in
      let b2 = and_parts (has_interval ds ss row.left) (has_interval ds ss row.right) b'.0 in
      (one_evaluable zs ys ds ss row.left d s p2.0 l2.0 b2.0, one_evaluable zs ys ds ss row.right d s p2.1 l2.1 b2.1, rows_evaluable rows p'.1 l'.1 b'.1)

length_numbers : (e : Env) (names : List Name) → length (numbers e names) ≡ length names
length_numbers e [] = refl
length_numbers e (n ∷ names) = ap suc (length_numbers e names)

length_take : (n : ℕ) (xs : List ℤ) → n ≤ length xs → length (take n xs) ≡ n
length_take zero xs h = refl
length_take (suc n) [] h = absurd (omega arith)
length_take (suc n) (x ∷ xs) h = ap suc (length_take n xs (omega arith))

length_drop : (n : ℕ) (xs : List ℤ) (m : ℕ) → length xs ≡ n + m → length (drop n xs) ≡ m
length_drop zero xs m h = h ∙ (omega arith)
length_drop (suc n) [] m h = absurd (omega arith)
length_drop (suc n) (x ∷ xs) m h = length_drop n xs m (omega arith)

module _ (e : Env) (rho : Ranges) (holds : RangesHold e rho) where
  module _ (names : List Name) (dims syms : ℕ) (many : nat_eq (length names) (dims + syms) ≡ true) where
    total : length (numbers e names) ≡ dims + syms
    total = let k : length names ≡ dims + syms = grind (arith, many) in length_numbers e names ∙ k

    dims_long : length (take dims (numbers e names)) ≡ dims
    dims_long = let t = total in length_take dims (numbers e names) (omega (arith, t))

    syms_long : length (drop dims (numbers e names)) ≡ syms
    syms_long = length_drop dims (numbers e names) syms total

  pub access_evaluable : (at : Access) → map_fits at ≡ true → access_pure at ≡ true → BoundedAccess rho at → EvaluableAccess e at
  unfolding map_fits access_pure
  access_evaluable at f p b =
      let two = and_parts (nat_eq (length at.operands) (at.map.dims + at.map.syms)) (list_all (has_leaves_below at.map.dims at.map.syms) at.map.results) f in
      let all = numbers_in e rho at.operands holds in
      all_evaluable _ _ _ _ (take_in at.map.dims _ _ all) (drop_in at.map.dims _ _ all) at.map.results p
      ((λ i. list_all (has_leaves_below (dims_long at.operands at.map.dims at.map.syms two.0 i) (syms_long at.operands at.map.dims at.map.syms two.0 i)) at.map.results) ∙ two.1) b

  pub set_evaluable : (set : Set) (names : List Name) → set_fits set names ≡ true → set_pure set ≡ true → BoundedSet rho set names → EvaluableSet e set names
  unfolding set_fits set_pure
  set_evaluable set names f p b =
      let two = and_parts (nat_eq (length names) (set.dims + set.syms)) (list_all (row_has_leaves set.dims set.syms) set.rows) f in
      let all = numbers_in e rho names holds in
      rows_evaluable _ _ _ _ (take_in set.dims _ _ all) (drop_in set.dims _ _ all) set.rows p
      ((λ i. list_all (row_has_leaves (dims_long names set.dims set.syms two.0 i) (syms_long names set.dims set.syms two.0 i)) set.rows) ∙ two.1) b

  bound_evaluable : (b : Bound) → bound_fits b ≡ true → bound_pure b ≡ true → BoundedBound rho b → EvaluableBound e b
  bound_evaluable (bound.Int z) f p b = tt
  bound_evaluable (bound.Value n) f p b = tt
  bound_evaluable (bound.Map at) f p b = access_evaluable at (and_parts (map_fits at) (has_result at) f).0 p b

  subscripts_map : (at : Access) (ty : MemrefType) → subscripts_fit at ty ≡ true → map_fits at ≡ true
  unfolding subscripts_fit
  subscripts_map at ty h = (and_parts (map_fits at) (nat_eq (length at.map.results) (length ty.sizes)) h).0

  ends_map : (x y t : Access) (types : List MemrefType) → ends_fit x y t types ≡ true → Every (λ at. map_fits at ≡ true) (x ∷ y ∷ t ∷ [])
  ends_map x y t (x_ty ∷ y_ty ∷ t_ty ∷ []) f =
      let f1 = and_parts (subscripts_fit x x_ty) (subscripts_fit y y_ty && subscripts_fit t t_ty) f in
      let f2 = and_parts (subscripts_fit y y_ty) (subscripts_fit t t_ty) f1.1 in
      (subscripts_map x x_ty f1.0, (subscripts_map y y_ty f2.0, subscripts_map t t_ty f2.1))
  ends_map x y t types f = absurd (let z : ⊥ = cc in z)

  -- the rule on counts says it of every map
  maps_fit : (p : Plain) → counts_fit p ≡ true → Every (λ at. map_fits at ≡ true) (maps_of p)
  maps_fit (Value r pick at) f = (and_parts (map_fits at) (results_fit pick at) f).0
  maps_fit (Load r m at ty) f = subscripts_map at ty f
  maps_fit (Store x m at ty) f = subscripts_map at ty f
  maps_fit (Start x xa y ya t ta n stride types) f = ends_map xa ya ta types f
  maps_fit (Wait t at n ty) f = subscripts_map at ty f
  maps_fit p f = tt

  plain_evaluable : (p : Plain) → counts_fit p ≡ true → maps_pure p ≡ true → BoundedPlain rho p → EvaluablePlain e p
  plain_evaluable p f p' b =
      Every-both (λ at. (map_fits at ≡ true) × (access_pure at ≡ true)) (BoundedAccess rho) (EvaluableAccess e) (λ at h b. access_evaluable at h.0 h.1 b) (maps_of p)
      (Every-both (λ at. map_fits at ≡ true) (λ at. access_pure at ≡ true) _ (λ at x y. (x, y)) (maps_of p) (maps_fit p f) (Every-passed access_pure _ (λ at h. h) (maps_of p) p'))
      b

pub turn_in : (a b low high t : ℤ) → a ≤ℤ low → high ≤ℤ b → low ≤ℤ t → t <ℤ high → Within t (turn_range a b)
turn_in a b low high t p q from to = record { low = omega (arith, ints, p, from); high = grind (arith, ints, p, q, from, to) }

-- wherever the walk of the statements comes
pub evaluable_of_told : (n : Nest) (a : Around) (t : Totals) (rho : Ranges) (e : Env) → AffineNest n → BoundedNest n rho → RangesHold e rho → told n a ≡ Passed t → EvaluableNest n e
unfolding told
evaluable_of_told Nothing a t rho e af bd holds h = tt
evaluable_of_told (Loop line v l u s body rest) a t rho e af bd holds h =
    let j = judged_passed line (rule_of_loop (counted a) v l u s) _ t h in
    let p = then_passed (told body (in_loop v l u (counted a))) (λ t. told rest (with_totals t a)) t j.1 in
    let k = loop_holds (counted a) v l u s j.0 in
    let f = and_parts (bound_fits l) (bound_fits u) k.fits in
    let q = and_parts (bound_pure l) (bound_pure u && step_positive s) k.pure in
    let q2 = and_parts (bound_pure u) (step_positive s) q.1 in
    let low = lower_in e rho l holds af.0 in
    let high = upper_in e rho u holds af.1 in (
      bound_evaluable e rho holds l f.0 q.0 bd.0,
      bound_evaluable e rho holds u f.1 q2.0 bd.1,
      λ z from to. evaluable_of_told body (in_loop v l u (counted a)) p.0 (put rho v (turn_range (first_turn rho l) (last_end rho u))) (knows e v z) af.3 bd.2
          (put_in e rho v (Some z) (turn_range (first_turn rho l) (last_end rho u)) (turn_in (first_turn rho l) (last_end rho u) (lower_of e l) (upper_of e u) z low high from to) holds) p.1,
      evaluable_of_told rest (with_totals p.0 a) t rho (behind body e) af.4 bd.3 holds p.2,
    )
evaluable_of_told (Branch line set names first has other rest) a t rho e af bd holds h =
    let j = judged_passed line (rule_of_condition (counted a) set names) _ t h in
    let p = then_passed (told first (in_condition (counted a))) (λ t. then_told (told other (in_condition (with_totals t a))) (λ u. told rest (with_totals u a))) t j.1 in
    let q = then_passed (told other (in_condition (with_totals p.0 a))) (λ u. told rest (with_totals u a)) t p.2 in
    let k = condition_holds (counted a) set names j.0 in (
      set_evaluable e rho holds set names k.fits k.pure bd.0,
      evaluable_of_told first (in_condition (counted a)) p.0 rho e af.0 bd.1 holds p.1,
      evaluable_of_told other (in_condition (with_totals p.0 a)) q.0 rho (behind first e) af.1 bd.2 holds q.1,
      evaluable_of_told rest (with_totals q.0 a) t rho (behind other (behind first e)) af.2 bd.3 holds q.2,
    )
evaluable_of_told (Does line p rest) a t rho e af bd holds h =
    let j = judged_passed line (rule_of_plain (counted a) p rest) _ t h in
    let k = plain_holds (counted a) p rest j.0 in
    (plain_evaluable e rho holds p k.counts k.pure bd.0, evaluable_of_told rest (behind_plain p (counted a)) t (ranges_after p rho) (after_plain p e) af.1 bd.1 (plain_in p e rho af.0 holds) j.1)

pub valid_evaluable : (m : Module) → IsValid m → (memory : Image) → Fits m memory → EvaluableNest (nest m.body) (start_env m.args memory.symbols)
valid_evaluable m h memory fits =
    let p = valid_passes m h in
    evaluable_of_told (nest m.body) p.0 p.1 (start_ranges m.args) (start_env m.args memory.symbols) (valid_affine m h) (valid_bounded m h) (start_in m memory fits) p.2
