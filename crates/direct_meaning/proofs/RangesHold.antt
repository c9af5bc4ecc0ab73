-- Wherever the walk of a text comes, the numbers that are known lie in their ranges.
use Rattle.std.proofs.Common.{◌≡◌, ℕ, zero, suc, ℤ, pos, ◌≤ℤ◌, ◌<ℤ◌, List, [], ◌∷◌, map, take, drop, refl, sym, ap, subst, arith, Bool, true, false}
use Rattle.std.specs.Prelude.{fold, if◌then◌else◌, Option, Some, None, slice_index_or}
use Rattle.std.specs.Int.{int_min, int_max}
use Rattle.std.specs.List.{list_all}
use Rattle.std.proofs.lemmas.Int.{ints}
use Rattle.std.proofs.lemmas.Bool.{and_parts}
use Rattle.affine_expr.specs.declared.expr.Expr.{Expr}
use Rattle.affine_expr.specs.Value.{value}
use Rattle.affine_expr.specs.Pure.{is_pure}
use Rattle.affine_expr.specs.Spread.{Range, only, Within, range_of}
use Rattle.affine_ast.specs.declared.image.Cells.{Cells}
use Rattle.affine_ast.specs.declared.image.Image.{Image}
use Rattle.affine_ast.specs.declared.module.Arg.{Arg}
use Rattle.affine_ast.specs.declared.module.ArgKind.{ArgKind}
use Rattle.affine_ast.specs.declared.module.ArgKind.TheVariants.{Memref, Index}
use Rattle.affine_ast.specs.declared.module.Module.{Module}
use Rattle.affine_ast.specs.declared.name.Name.{Name}
use Rattle.affine_ast.specs.declared.types.Access.{Access}
use Rattle.affine_ast.specs.declared.types.Bound.{Bound}
use Rattle.affine_ast.specs.declared.types.Bound.TheVariants as bound
use Rattle.affine_ast.specs.declared.types.Pick.{Pick}
use Rattle.affine_ast.specs.declared.types.Pick.TheVariants.{Apply, Min, Max}
use Rattle.affine_ast.specs.declared.types.Scalar.{Scalar}
use Rattle.affine_ast.specs.declared.types.Scalar.TheVariants as scalar
use Rattle.affine_ast.specs.declared.types.MemrefType.{MemrefType}
use Rattle.affine_ast.specs.Names.{same_name, put}
use Rattle.affine_ast.proofs.Names.{put-same, put-other}
use Rattle.affine_ast.specs.Rules.{access_pure, bound_pure}
use Rattle.affine_ast.specs.Nest.{Plain, Nest, Nothing, Loop, Branch, Does, Value, nest}
use Rattle.affine_ast.specs.Parts.{Effect, NewIndex, NewConstant, NewData, NewMemref, effect_of}
use Rattle.direct_meaning.specs.Static.{Env, knows, number, numbers, results_of, least, greatest, picked, lower_of, upper_of}
use Rattle.direct_meaning.specs.Actions.{after_effect, after_plain, behind, is_fast, after_alloc, after_constant}
use Rattle.direct_meaning.specs.Memory.{FitsArg, FitsArgs, Placed, place_kind, place_arg, empty_env, start_env, module_actions, range_or, Fits}
use Rattle.direct_meaning.specs.Work.{Ranges, ranges_at, over_all, picked_range, first_turn, last_end, turn_range, ranges_effect, ranges_after, ranges_after_constant, arg_ranges, start_ranges, work}
use Rattle.direct_meaning.specs.Bounded.{TurnsBounded}
use Rattle.direct_meaning.specs.Pure.{AffinePlain, AffineNest}
use Rattle.direct_meaning.specs.WorkLaw.{ActionsWithinWork}
use Rattle.direct_meaning.proofs.RangeLaws.{InRanges, leaf_in, value_in}
use Rattle.direct_meaning.proofs.TurnLaws.{turns_bounded}
use Rattle.direct_meaning.proofs.WorkLaws.{work_bounds}

abbrev pub RangesHold : Env → Ranges → Type 0
RangesHold e rho = (n : Name) → Within (number (e.known n)) (rho n)

pub numbers_in : (e : Env) (rho : Ranges) (names : List Name) → RangesHold e rho → InRanges (numbers e names) (map rho names)
numbers_in e rho [] h = tt
numbers_in e rho (n ∷ names) h = (h n, numbers_in e rho names h)

pub take_in : (k : ℕ) (zs : List ℤ) (rs : List Range) → InRanges zs rs → InRanges (take k zs) (take k rs)
take_in zero zs rs h = tt
take_in (suc k) [] [] h = tt
take_in (suc k) (z ∷ zs) (r ∷ rs) h = (h.0, take_in k zs rs h.1)
take_in (suc k) [] (r ∷ rs) h = absurd h
take_in (suc k) (z ∷ zs) [] h = absurd h

pub drop_in : (k : ℕ) (zs : List ℤ) (rs : List Range) → InRanges zs rs → InRanges (drop k zs) (drop k rs)
drop_in zero zs rs h = h
drop_in (suc k) [] [] h = tt
drop_in (suc k) (z ∷ zs) (r ∷ rs) h = drop_in k zs rs h.1
drop_in (suc k) [] (r ∷ rs) h = absurd h
drop_in (suc k) (z ∷ zs) [] h = absurd h

values_in : (ds ss : List ℤ) (rds rss : List Range) (es : List Expr) → InRanges ds rds → InRanges ss rss → list_all is_pure es ≡ true → InRanges (map (value ds ss) es) (map (range_of rds rss) es)
values_in ds ss rds rss [] p q h = tt
values_in ds ss rds rss (e ∷ es) p q h =
    let two = and_parts (is_pure e) (list_all is_pure es) h in
    (value_in ds ss rds rss p q e two.0, values_in ds ss rds rss es p q two.1)

results_in : (e : Env) (rho : Ranges) (at : Access) → RangesHold e rho → access_pure at ≡ true → InRanges (results_of e at) (ranges_at rho at)
unfolding results_of access_pure
results_in e rho at h a =
    let all = numbers_in e rho at.operands h in
    values_in _ _ _ _ at.map.results (take_in at.map.dims _ _ all) (drop_in at.map.dims _ _ all) a

-- the greatest and the least of several
module _ (f : ℤ → ℤ → ℤ) (mono : (a b c d : ℤ) → a ≤ℤ b → c ≤ℤ d → f a c ≤ℤ f b d) where
  fold_low : (zs : List ℤ) (rs : List Range) (x y : ℤ) → InRanges zs rs → y ≤ℤ x → fold f y (map (λ (r : Range). r.least) rs) ≤ℤ fold f x zs
  fold_low [] [] x y h k = k
  fold_low (z ∷ zs) (r ∷ rs) x y h k = fold_low zs rs (f x z) (f y r.least) h.1 (mono y x r.least z k h.0.low)
  fold_low [] (r ∷ rs) x y h k = absurd h
  fold_low (z ∷ zs) [] x y h k = absurd h

  fold_high : (zs : List ℤ) (rs : List Range) (x y : ℤ) → InRanges zs rs → x ≤ℤ y → fold f x zs ≤ℤ fold f y (map (λ (r : Range). r.greatest) rs)
  fold_high [] [] x y h k = k
  fold_high (z ∷ zs) (r ∷ rs) x y h k = fold_high zs rs (f x z) (f y r.greatest) h.1 (mono x y z r.greatest k h.0.high)
  fold_high [] (r ∷ rs) x y h k = absurd h
  fold_high (z ∷ zs) [] x y h k = absurd h

  all_low : (zs : List ℤ) (rs : List Range) → InRanges zs rs → over_all f (map (λ (r : Range). r.least) rs) ≤ℤ over_all f zs
  all_low [] [] h = omega (arith, ints)
  all_low (z ∷ zs) (r ∷ rs) h = fold_low zs rs z r.least h.1 h.0.low
  all_low [] (r ∷ rs) h = absurd h
  all_low (z ∷ zs) [] h = absurd h

  all_high : (zs : List ℤ) (rs : List Range) → InRanges zs rs → over_all f zs ≤ℤ over_all f (map (λ (r : Range). r.greatest) rs)
  all_high [] [] h = omega (arith, ints)
  all_high (z ∷ zs) (r ∷ rs) h = fold_high zs rs z r.greatest h.1 h.0.high
  all_high [] (r ∷ rs) h = absurd h
  all_high (z ∷ zs) [] h = absurd h

max_mono : (a b c d : ℤ) → a ≤ℤ b → c ≤ℤ d → int_max a c ≤ℤ int_max b d
max_mono a b c d h k = grind (arith, ints, h, k)

min_mono : (a b c d : ℤ) → a ≤ℤ b → c ≤ℤ d → int_min a c ≤ℤ int_min b d
min_mono a b c d h k = grind (arith, ints, h, k)

greatest_is : (zs : List ℤ) → greatest zs ≡ over_all int_max zs
greatest_is [] = refl
greatest_is (z ∷ zs) = refl

least_is : (zs : List ℤ) → least zs ≡ over_all int_min zs
least_is [] = refl
least_is (z ∷ zs) = refl

-- bounds of loops
pub lower_in : (e : Env) (rho : Ranges) (b : Bound) → RangesHold e rho → bound_pure b ≡ true → first_turn rho b ≤ℤ lower_of e b
unfolding first_turn lower_of
lower_in e rho (bound.Int z) h a = omega (arith, ints)
lower_in e rho (bound.Value n) h a = (h n).low
lower_in e rho (bound.Map at) h a =
    subst (λ z. over_all int_max (map (λ (r : Range). r.least) (ranges_at rho at)) ≤ℤ z) (sym (greatest_is (results_of e at)))
    (all_low int_max max_mono (results_of e at) (ranges_at rho at) (results_in e rho at h a))

pub upper_in : (e : Env) (rho : Ranges) (b : Bound) → RangesHold e rho → bound_pure b ≡ true → upper_of e b ≤ℤ last_end rho b
unfolding last_end upper_of
upper_in e rho (bound.Int z) h a = omega (arith, ints)
upper_in e rho (bound.Value n) h a = (h n).high
upper_in e rho (bound.Map at) h a =
    subst (λ z. z ≤ℤ over_all int_min (map (λ (r : Range). r.greatest) (ranges_at rho at))) (sym (least_is (results_of e at)))
    (all_high int_min min_mono (results_of e at) (ranges_at rho at) (results_in e rho at h a))

picked_in : (pick : Pick) (zs : List ℤ) (rs : List Range) → InRanges zs rs → Within (picked pick zs) (picked_range pick rs)
picked_in Apply zs rs h = leaf_in zs rs 0 h
picked_in Min zs rs h = record {
  low = subst (λ z. over_all int_min (map (λ (r : Range). r.least) rs) ≤ℤ z) (sym (least_is zs)) (all_low int_min min_mono zs rs h);
  high = subst (λ z. z ≤ℤ over_all int_min (map (λ (r : Range). r.greatest) rs)) (sym (least_is zs)) (all_high int_min min_mono zs rs h);
}
picked_in Max zs rs h = record {
  low = subst (λ z. over_all int_max (map (λ (r : Range). r.least) rs) ≤ℤ z) (sym (greatest_is zs)) (all_low int_max max_mono zs rs h);
  high = subst (λ z. z ≤ℤ over_all int_max (map (λ (r : Range). r.greatest) rs)) (sym (greatest_is zs)) (all_high int_max max_mono zs rs h);
}

-- one name more
pub put_in : (e : Env) (rho : Ranges) (v : Name) (o : Option ℤ) (r : Range) → Within (number o) r → RangesHold e rho → RangesHold (record e { known = put e.known v o }) (put rho v r)
put_in e rho v o r h k n = by (same_name v n) refl
  where
    by : (t : Bool) → same_name v n ≡ t → Within (number (put e.known v o n)) (put rho v r n)
    by true t = subst (λ x. x) (λ i. Within (number (sym (put-same e.known v o n t) i)) (sym (put-same rho v r n t) i)) h
    by false t = subst (λ x. x) (λ i. Within (number (sym (put-other e.known v o n t) i)) (sym (put-other rho v r n t) i)) (k n)

zero_in : Within (pos 0) (only (pos 0))
zero_in = record { low = omega (arith, ints); high = omega (arith, ints) }

self_in : (z : ℤ) → Within z (only z)
self_in z = record { low = omega (arith, ints); high = omega (arith, ints) }

if_known : (t : Bool) (a b : Env) (k : Name → Option ℤ) → a.known ≡ k → b.known ≡ k → (if t then a else b).known ≡ k
if_known true a b k p q = p
if_known false a b k p q = q

alloc_in : (e : Env) (rho : Ranges) (r : Name) (ty : MemrefType) → RangesHold e rho → RangesHold (after_alloc r ty e) rho
alloc_in e rho r ty h = subst (λ (k : Name → Option ℤ). (n : Name) → Within (number (k n)) (rho n)) (sym (if_known (is_fast ty) _ _ e.known refl refl)) h

constant_in : (e : Env) (rho : Ranges) (r : Name) (z : ℤ) (ty : Scalar) → RangesHold e rho → RangesHold (after_constant r z ty e) (ranges_after_constant r z ty rho)
constant_in e rho r z (scalar.Int element) h = put_in e rho r None (only (pos 0)) zero_in h
constant_in e rho r z scalar.Index h = put_in e rho r (Some z) (only z) (self_in z) h

-- what a statement's value asks of its map
abbrev AffineEffect : Effect → Type 0
AffineEffect (NewIndex r pick at) = access_pure at ≡ true
AffineEffect x = Unit {0}

affine_effect : (p : Plain) → AffinePlain p → AffineEffect (effect_of p)
affine_effect (Value r pick at) h = h
affine_effect p h = tt

effect_in : (x : Effect) (e : Env) (rho : Ranges) → AffineEffect x → RangesHold e rho → RangesHold (after_effect x e) (ranges_effect x rho)
effect_in (NewIndex r pick at) e rho a h = put_in e rho r (Some (picked pick (results_of e at))) (picked_range pick (ranges_at rho at)) (picked_in pick (results_of e at) (ranges_at rho at) (results_in e rho at h a)) h
effect_in (NewConstant r z ty) e rho a h = constant_in e rho r z ty h
effect_in (NewData r ty) e rho a h = put_in e rho r None (only (pos 0)) zero_in h
effect_in (NewMemref r ty) e rho a h = alloc_in e rho r ty h
effect_in x e rho a h = h

pub plain_in : (p : Plain) (e : Env) (rho : Ranges) → AffinePlain p → RangesHold e rho → RangesHold (after_plain p e) (ranges_after p rho)
unfolding after_plain
plain_in p e rho a h = effect_in (effect_of p) e rho (affine_effect p a) h

-- so every loop that the walk comes to has no more turns than its ranges say
pub affine_bounded : (n : Nest) (e : Env) (rho : Ranges) → AffineNest n → RangesHold e rho → TurnsBounded n e rho
affine_bounded Nothing e rho a h = tt
affine_bounded (Loop line v l u s body rest) e rho a h =
    let low = lower_in e rho l h a.0 in
    let high = upper_in e rho u h a.1 in (
      turns_bounded (lower_of e l) (upper_of e u) (first_turn rho l) (last_end rho u) s a.2 low high,
      λ t from to. affine_bounded body (knows e v t) (put rho v (turn_range (first_turn rho l) (last_end rho u))) a.3
          (put_in e rho v (Some t) (turn_range (first_turn rho l) (last_end rho u)) (turn_in (first_turn rho l) (last_end rho u) (lower_of e l) (upper_of e u) t low high from to) h),
      affine_bounded rest (behind body e) rho a.4 h,
    )
  where
    turn_in : (a b low high t : ℤ) → a ≤ℤ low → high ≤ℤ b → low ≤ℤ t → t <ℤ high → Within t (turn_range a b)
    turn_in a b low high t p q from to = record { low = omega (arith, ints, p, from); high = grind (arith, ints, p, q, from, to) }
affine_bounded (Branch line set names first has other rest) e rho a h =
    (affine_bounded first e rho a.0 h, affine_bounded other (behind first e) rho a.1 h, affine_bounded rest (behind other (behind first e)) rho a.2 h)
affine_bounded (Does line p rest) e rho a h = affine_bounded rest (after_plain p e) (ranges_after p rho) a.1 (plain_in p e rho a.0 h)

-- the arguments, one after the other
arg_in : (args : List Arg) (kind : ArgKind) (name : Name) (line : ℕ) (p : Placed) (rho : Ranges) (cells : List Cells)
    → ((p : Placed) (rho : Ranges) (cells : List Cells) → FitsArgs args cells p.symbols → RangesHold p.env rho → RangesHold (fold place_arg p args).env (fold arg_ranges rho args))
    → FitsArg kind (FitsArgs args) cells p.symbols → RangesHold p.env rho
    → RangesHold (fold place_arg (place_arg p (record { name = name; kind = kind; line = line })) args).env (fold arg_ranges (arg_ranges rho (record { name = name; kind = kind; line = line })) args)
arg_in args (Memref ty) name line p rho [] more fits h = absurd fits
arg_in args (Memref ty) name line p rho (c ∷ cells) more fits h = more (place_kind (Memref ty) name p) rho cells fits.2 h
arg_in args (Index range) name line p rho cells more fits h = by p.symbols refl fits
  where
    by : (zs : List ℤ) → p.symbols ≡ zs → FitsArg (Index range) (FitsArgs args) cells zs
        → RangesHold (fold place_arg (place_kind (Index range) name p) args).env (fold arg_ranges (put rho name (record { least = (range_or range).least; greatest = (range_or range).greatest })) args)
    by [] is f = absurd f
    by (z ∷ zs) is f =
        more (place_kind (Index range) name p) (put rho name (record { least = (range_or range).least; greatest = (range_or range).greatest })) cells
        (subst (FitsArgs args cells) (sym (ap (drop 1) is)) f.1)
        (put_in p.env rho name (Some (slice_index_or p.symbols 0 (pos 0))) (record { least = (range_or range).least; greatest = (range_or range).greatest })
        (subst (λ y. Within y (record { least = (range_or range).least; greatest = (range_or range).greatest })) (sym (ap (λ ys. slice_index_or ys 0 (pos 0)) is)) (record { low = f.0.low; high = f.0.high })) h)

args_in : (args : List Arg) (p : Placed) (rho : Ranges) (cells : List Cells) → FitsArgs args cells p.symbols → RangesHold p.env rho → RangesHold (fold place_arg p args).env (fold arg_ranges rho args)
args_in [] p rho cells fits h = h
args_in (a ∷ args) p rho cells fits h = arg_in args a.kind a.name a.line p rho cells (λ p rho cells f h. args_in args p rho cells f h) fits h

pub start_in : (m : Module) (memory : Image) → Fits m memory → RangesHold (start_env m.args memory.symbols) (start_ranges m.args)
unfolding start_env
start_in m memory fits = args_in m.args (record { env = empty_env; memrefs = 0; elements = 0; symbols = memory.symbols }) (λ n. only (pos 0)) memory.memrefs fits.fits (λ n. zero_in)

pub within_work : ActionsWithinWork
unfolding module_actions work
within_work m affine memory fits =
    let full = work_bounds (nest m.body) (start_env m.args memory.symbols) (start_ranges m.args) (affine_bounded (nest m.body) (start_env m.args memory.symbols) (start_ranges m.args) affine (start_in m memory fits)) in
    record { full = full; saturated = λ less. omega (arith, full, less) }
