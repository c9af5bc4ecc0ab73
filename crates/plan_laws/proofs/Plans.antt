-- The tests of a plan hold of the text that it ends with.
use Rattle.std.proofs.Common.{◌≡◌, ℕ, ◌≤◌, Bool, true, false, List, [], ◌∷◌, ◌++◌, refl, sym, ap, subst, arith}
use Rattle.std.specs.Prelude.{fold, length, nat_lt, if◌then◌else◌, max, Option, Some, None, Result, Ok, Err}
use Rattle.affine_ast.specs.declared.module.Arg.{Arg}
use Rattle.affine_ast.specs.declared.name.Name.{Name}
use Rattle.affine_ast.specs.declared.types.MemrefType.{MemrefType}
use Rattle.affine_ast.specs.Nest.{Nest, Nothing, Loop, Branch, Does, nest}
use Rattle.nest_domain.specs.declared.plan.Cause.TheVariants as cause
use Rattle.nest_domain.specs.declared.plan.Options.{Options}
use Rattle.nest_domain.specs.Boxes as region
use Rattle.nest_domain.specs.Ways as ways
use Rattle.nest_domain.specs.Ways.{spot, under}
use Rattle.access_region.specs.Faults.{NoRegion}
use Rattle.placement_texts.specs.Fold.{Step, staged_all}
use Rattle.placement_texts.specs.Spots.{Spot, Here, Behind, Inside, Other, IsLoop, stage_one}
use Rattle.placement_regions.specs.Sites.{from_spot, way_to}
use Rattle.box_run_laws.specs.Peaks.{plain_live}
use Rattle.peak_laws.specs.Peak.{peak_of}
use Rattle.plan_laws.specs.Limits.{keeps_limits, keeps_intervals}
use Rattle.plan_laws.specs.Sites.{position, further, loops_round, LoopsAreNamed, lined}
use Rattle.plan_laws.specs.Plan.{Asked, Planned, Settled, Unstaged, Placed, times, type_of, accesses_in, region_at, hoisted, step_at, text_with, tested, settled_from, settled, steps_with, decided, asked, planned}
use Rattle.plan_laws.specs.Law.{PlansKeepWithin, SizeComesSecond}

-- one placement more, behind the others
pub staged_one_more : (xs : List Step) (x : Step) (n : Nest) → staged_all (xs ++ x ∷ []) n ≡ stage_one x.placement x.spot (staged_all xs n)
staged_one_more [] x n = refl
staged_one_more (y ∷ ys) x n = staged_one_more ys x (stage_one y.placement y.spot n)

module _ (o : Options) (args : List Arg) (n : Nest) where
  -- a property of the text so far that each tested text has
  module _ (P : Nest → Type 0) (of_tested : (text : Nest) → keeps_intervals args text ≡ true → nat_lt o.capacity (peak_of text 0) ≡ false → keeps_limits args text ≡ true → P text) where
    abbrev Settles : List Step → Settled → Type 0
    Settles steps y = P (text_with o args n steps) → P (text_with o args n (steps_with o args n steps y))

    by_tests : (steps : List Step) (x : Step) (ds : List region.Dimension) (text : Nest) → text_with o args n (steps ++ x ∷ []) ≡ text → (i a b : Bool) → keeps_intervals args text ≡ i → nat_lt o.capacity (peak_of text 0) ≡ a → keeps_limits args text ≡ b
        → Settles steps (if i then (if a then Unstaged cause.Capacity else (if b then Placed x ds else Unstaged cause.Size)) else Unstaged cause.Coefficient)
    by_tests steps x ds text is false a b j h k = λ p. p
    by_tests steps x ds text is true true b j h k = λ p. p
    by_tests steps x ds text is true false true j h k = λ p. subst P (sym is) (of_tested text j h k)
    by_tests steps x ds text is true false false j h k = λ p. p

    all_settle : (steps : List Step) (m : Name) (ty : MemrefType) (s : Spot) (r : Result (List region.Dimension) NoRegion) → Settles steps (settled_from o args n steps m ty s r)
    all_settle steps m ty s (Err e) = λ p. p
    all_settle steps m ty s (Ok ds) =
        let x = hoisted o args n m ty (times m (accesses_in o args n s)) (loops_round s n) (record { at = s; region = ds }) in
        let y = step_at o args n (length steps) m ty x in
        let text = stage_one y.placement y.spot (text_with o args n steps) in
        by_tests steps y x.region text (staged_one_more steps y (lined n)) (keeps_intervals args text) (nat_lt o.capacity (peak_of text 0)) (keeps_limits args text) refl refl refl

    any_settle : (steps : List Step) (m : Name) (s : Spot) (ty : Option MemrefType) → Settles steps (settled o args n steps m s ty)
    any_settle steps m s None = λ p. p
    any_settle steps m s (Some ty) = all_settle steps m ty s (region_at o args n m ty s)

    kept_fold : (as_ : List Asked) (so : Planned) → P (text_with o args n so.steps) → P (text_with o args n (fold (decided o args n) so as_).steps)
    kept_fold [] so h = h
    kept_fold (a ∷ as_) so h = kept_fold as_ (decided o args n so a) (any_settle so.steps a.memref a.at (type_of args a.memref) h)

    kept_planned : P (lined n) → P (text_with o args n (planned o args n).steps)
    unfolding planned
    kept_planned h = kept_fold (asked o args n) (record { steps = []; decisions = [] }) h

  not_above : (a b : ℕ) → nat_lt a b ≡ false → b ≤ a
  not_above a b h = grind (arith, h)

  peak_lined : (t : Nest) (l : ℕ) → peak_of (lined t) l ≡ peak_of t l
  peak_lined Nothing l = refl
  peak_lined (Loop line v low high s body rest) l = (λ i. max (peak_lined body l i) (peak_lined rest l i))
  peak_lined (Branch line set names first has other rest) l = (λ i. max (peak_lined first l i) (max (peak_lined other l i) (peak_lined rest l i)))
  peak_lined (Does line p rest) l = ap (max l) (peak_lined rest (plain_live p l))

  capacity_kept : peak_of n 0 ≤ o.capacity → peak_of (text_with o args n (planned o args n).steps) 0 ≤ o.capacity
  capacity_kept h = kept_planned (λ text. peak_of text 0 ≤ o.capacity) (λ text j h k. not_above o.capacity (peak_of text 0) h) (subst (λ p. p ≤ o.capacity) (sym (peak_lined n 0)) h)

  limits_kept : keeps_limits args (lined n) ≡ true → keeps_limits args (text_with o args n (planned o args n).steps) ≡ true
  limits_kept h = kept_planned (λ text. keeps_limits args text ≡ true) (λ text j h k. k) h

  intervals_kept : keeps_intervals args (lined n) ≡ true → keeps_intervals args (text_with o args n (planned o args n).steps) ≡ true
  intervals_kept h = kept_planned (λ text. keeps_intervals args text ≡ true) (λ text j h k. j) h

  size_second : (x : Step) (ds : List region.Dimension) (text : Nest) → tested o args n x ds text ≡ Unstaged cause.Size → (peak_of text 0 ≤ o.capacity) × (keeps_limits args text ≡ false)
  size_second x ds text h = by (keeps_intervals args text) (nat_lt o.capacity (peak_of text 0)) (keeps_limits args text) refl refl h
    where
      by : (i a b : Bool) → nat_lt o.capacity (peak_of text 0) ≡ a → keeps_limits args text ≡ b
          → (if i then (if a then Unstaged cause.Capacity else (if b then Placed x ds else Unstaged cause.Size)) else Unstaged cause.Coefficient) ≡ Unstaged cause.Size → (peak_of text 0 ≤ o.capacity) × (keeps_limits args text ≡ false)
      by false a b h k is = absurd (let z : ⊥ = cc in z)
      by true true b h k is = absurd (let z : ⊥ = cc in z)
      by true false true h k is = absurd (let z : ⊥ = cc in z)
      by true false false h k is = (not_above o.capacity (peak_of text 0) h, k)

pub keep_within : PlansKeepWithin
keep_within o m = record { intervals = intervals_kept o m.args (nest m.body); capacity = capacity_kept o m.args (nest m.body); limits = limits_kept o m.args (nest m.body) }

pub size_comes_second : SizeComesSecond
size_comes_second o args n x ds text h = size_second o args n x ds (stage_one x.placement x.spot text) h

-- ---- paths

named_from : (s : Spot) (n : Nest) → IsLoop s n → spot n (position s) (further s) ≡ Some (record { way = way_to s n; here = from_spot s n })
unfolding spot
named_from s Nothing is = absurd is
named_from Here (Loop line v l u step body rest) is = refl
named_from (Behind s) (Loop line v l u step body rest) is = ap (under (ways.Past body)) (named_from s rest is)
named_from (Inside s) (Loop line v l u step body rest) is = ap (under (ways.Round v l u step)) (named_from s body is)
named_from (Other s) (Loop line v l u step body rest) is = absurd is
named_from Here (Branch line set names first has other rest) is = absurd is
named_from (Behind s) (Branch line set names first has other rest) is = ap (λ x. under (ways.Past first) (under (ways.Past other) x)) (named_from s rest is)
named_from (Inside s) (Branch line set names first has other rest) is = ap (under (ways.Given set names)) (named_from s first is)
named_from (Other s) (Branch line set names first has other rest) is = ap (under (ways.Except set names first)) (named_from s other is)
named_from Here (Does line q rest) is = absurd is
named_from (Behind s) (Does line q rest) is = ap (under (ways.Behind q)) (named_from s rest is)
named_from (Inside s) (Does line q rest) is = absurd is
named_from (Other s) (Does line q rest) is = absurd is

pub named : LoopsAreNamed
named s n is = named_from s n is
