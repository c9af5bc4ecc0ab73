-- Where the making of a list of actions comes to a place, the values of the symbols, the loops' turns and numbers for the locals
-- are a point of the place's rows.
use Rattle.std.proofs.Common.{◌≡◌, ℕ, zero, suc, ◌+◌, ◌<◌, ◌≤◌, Bool, true, false, cond, List, [], ◌∷◌, ◌++◌, take, drop, length, get_or, Option, Some, None, Result, Ok, Err, ℤ, pos, ◌+ℤ◌, ◌*ℤ◌, ◌<ℤ◌, ◌≤ℤ◌, refl, sym, ◌∙◌, ap, subst, arith, append_assoc, append-nil, length-append}
use Rattle.std.specs.Prelude.{fold}
use Rattle.std.specs.Int.{int_min, int_max}
use Rattle.std.proofs.lemmas.Int.{ints}
use Rattle.num_row.proofs.Order.{≤ℤ_trans}
use Rattle.num_row.proofs.Ring.{mul_nonneg}
use Rattle.constraint_set.specs.Lists.{Each}
use Rattle.constraint_set.proofs.Steps.{Each-append, Each-weaken}
use Rattle.affine_expr.specs.declared.linear.LinearFault.{LinearFault}
use Rattle.affine_expr.specs.declared.map.Set.{Set}
use Rattle.affine_expr.specs.Truth.{holds}
use Rattle.affine_expr.specs.Spread.{Range, Within}
use Rattle.affine_expr.specs.Forms.{Form, LocalForm, with_locals, AreInOrder}
use Rattle.affine_expr.specs.Linear.{◌>>=◌, or_wide, number_form, variable_form, padded, minus}
use Rattle.affine_expr.proofs.FormValues.{Gives, then, number_worth, number_long, variable_worth, variable_long}
use Rattle.affine_expr.proofs.Locals.{length-with_locals}
use Rattle.affine_ast.specs.declared.name.Name.{Name}
use Rattle.affine_ast.specs.declared.types.Access.{Access}
use Rattle.affine_ast.specs.declared.types.Bound.{Bound}
use Rattle.affine_ast.specs.declared.types.Bound.TheVariants as bound
use Rattle.affine_ast.specs.declared.types.MemrefType.{MemrefType}
use Rattle.affine_ast.specs.declared.types.Pick.{Pick}
use Rattle.affine_ast.specs.declared.types.Pick.TheVariants.{Apply, Min, Max}
use Rattle.affine_ast.specs.declared.types.Scalar.TheVariants as scalar
use Rattle.affine_ast.specs.Intervals.{Ranges, ranges_at, picked_range, first_turn, last_end, turn_range}
use Rattle.affine_ast.specs.Names.{same_name, put}
use Rattle.affine_ast.specs.Rules.{bound_pure}
use Rattle.affine_ast.specs.Nest.{Plain, Value, Load, Store, RawLoad, RawStore, Constant, Binary, Cast, Alloc, Dealloc, Start, Wait, Return}
use Rattle.affine_ast.proofs.Names.{put-same, put-other, same_name-refl}
use Rattle.direct_meaning.specs.Static.{Env, knows, number, numbers, results_of, least, greatest, picked, lower_of, upper_of, holds_at}
use Rattle.direct_meaning.specs.Actions.{after_plain, behind, is_fast, after_alloc}
use Rattle.direct_meaning.specs.Pure.{AffinePlain}
use Rattle.direct_meaning.specs.Work.{ranges_after}
use Rattle.direct_meaning.proofs.RangesHold.{RangesHold, put_in, plain_in, lower_in, upper_in}
use Rattle.nest_domain.specs.Ways.{Header, Round, Given, Except, Behind, Past, has_name, used}
use Rattle.nest_domain.specs.Forms.{Formed, all_floor_rows}
use Rattle.nest_domain.specs.Domains.{Known, operand_forms, map_forms, bound_forms, all_from, upper_rows, set_rows, with_divisions, in_loop, in_condition, named, first_form, applied, picked_rows, with_pick, with_value, formed_behind, behind_plain, along}
use Rattle.nest_domain.specs.Visits.{IsTurn, Visits}
use Rattle.affine_expr.proofs.Meaning.{padded_worth, padded_long, Is, Are}
use Rattle.nest_domain.proofs.Rowed.{RowHolds, minus_row, all_from_hold, all_less_hold, upper_rows_hold, is_longer, rows_longer, grows, all_floor_rows_hold, At, are_grown, AllGood, AllRows, all_over_gives, set_rows_hold}

-- a name's form, where it has one, has the name's number
abbrev pub Stands : ℕ → List ℤ → Option Form → Option ℤ → Type 0
Stands n p None o = Unit {0}
Stands n p (Some f) o = (z : ℤ) × ((o ≡ Some z) × Is n p f z)

-- the turns of the loops still to come stand in the point, from this variable on
abbrev pub Placed : ℕ → List ℤ → List ℤ → Type 0
Placed j p [] = Unit {0}
Placed j p (t ∷ ts) = (j < length p) × ((get_or p j (pos 0) ≡ t) × Placed (suc j) p ts)

-- what is known holds of a point of so many variables
pub record Holds (n : ℕ) (p ts : List ℤ) (k : Known) (known : Name → Option ℤ) : Type 0 where
  pub forms : (m : Name) → Stands n p (k.forms m) (known m)
  pub turns : Placed k.outer p ts
  pub symbols : Each (RowHolds n p) k.symbols
  pub loops : Each (RowHolds n p) k.loops
  pub conditions : Each (RowHolds n p) k.conditions
  pub locals : Each (RowHolds n p) k.locals

-- what is known holds of a point that goes on from p
pub record Reached (p ts : List ℤ) (known : Name → Option ℤ) (rho : Ranges) (k : Known) : Type 0 where
  pub more : List ℤ
  pub long : length (p ++ more) ≡ k.next
  pub holds : Holds k.next (p ++ more) ts k known
  pub ranges : k.ranges ≡ rho

-- ---- longer points
stands_longer : (n m : ℕ) (p more : List ℤ) (f : Option Form) (o : Option ℤ) → length p ≡ n → n ≤ m → Stands n p f o → Stands m (p ++ more) f o
stands_longer n m p more None o e l h = tt
stands_longer n m p more (Some f) o e l h = (h.0, (h.1.0, is_longer n m p more f h.0 e l h.1.1))

get_front : (p more : List ℤ) (j : ℕ) → j < length p → get_or (p ++ more) j (pos 0) ≡ get_or p j (pos 0)
get_front [] more j l = absurd (omega arith)
get_front (x ∷ p) more zero l = refl
get_front (x ∷ p) more (suc j) l = get_front p more j (omega arith)

placed_longer : (j : ℕ) (p more ts : List ℤ) → Placed j p ts → Placed j (p ++ more) ts
placed_longer j p more [] h = tt
placed_longer j p more (t ∷ ts) h = (omega (arith, h.0, length-append p more), (get_front p more j h.0 ∙ h.1.0, placed_longer (suc j) p more ts h.1.1))

holds_longer : (n m : ℕ) (p more ts : List ℤ) (k : Known) (known : Name → Option ℤ) → length p ≡ n → n ≤ m → Holds n p ts k known → Holds m (p ++ more) ts k known
holds_longer n m p more ts k known e l h = record {
  forms = λ x. stands_longer n m p more (k.forms x) (known x) e l (h.forms x);
  turns = placed_longer k.outer p more ts h.turns;
  symbols = rows_longer n m p more k.symbols e l h.symbols;
  loops = rows_longer n m p more k.loops e l h.loops;
  conditions = rows_longer n m p more k.conditions e l h.conditions;
  locals = rows_longer n m p more k.locals e l h.locals;
}

-- with the floors of divisions behind it
pub holds_floored : (p ts : List ℤ) (k : Known) (known : Name → Option ℤ) (ls : List LocalForm) → length p ≡ k.next → Holds k.next p ts k known → Holds (k.next + length ls) (with_locals p ls) ts k known
holds_floored p ts k known ls e h =
    let w = grows p ls in
    subst (λ q. Holds (k.next + length ls) q ts k known) (sym w.1) (holds_longer k.next (k.next + length ls) p w.0 ts k known e (omega arith) h)

-- ---- names
pub stands_put : (n : ℕ) (p : List ℤ) (forms : Name → Option Form) (known : Name → Option ℤ) (r : Name) (f : Option Form) (o : Option ℤ)
    → ((m : Name) → Stands n p (forms m) (known m)) → Stands n p f o → (m : Name) → Stands n p (put forms r f m) (put known r o m)
stands_put n p forms known r f o h k m = by (same_name r m) refl
  where
    by : (t : Bool) → same_name r m ≡ t → Stands n p (put forms r f m) (put known r o m)
    by true t = subst (λ x. x) (λ i. Stands n p (sym (put-same forms r f m t) i) (sym (put-same known r o m t) i)) k
    by false t = subst (λ x. x) (λ i. Stands n p (sym (put-other forms r f m t) i) (sym (put-other known r o m t) i)) (h m)

-- ---- operands, maps and bounds
number_is : (n : ℕ) (p : List ℤ) (f : Form) (o : Option ℤ) → Stands n p (Some f) o → Is n p f (number o)
number_is n p f o h = subst (Is n p f) (sym (ap number h.1.0)) h.1.1

operand_by : (n : ℕ) (p : List ℤ) (w : Result (List Form) LinearFault) (o : Option Form) (k : Option ℤ) (vs : List ℤ) → Stands n p o k → Gives w (λ fs. Are n p fs vs)
    → Gives (or_wide o >>= (λ f. w >>= (λ fs. Ok (f ∷ fs)))) (λ fs. Are n p fs (number k ∷ vs))
operand_by n p w None k vs s h = tt
operand_by n p w (Some f) k vs s h = then w (λ fs. Ok (f ∷ fs)) (λ fs. Are n p fs vs) (λ fs. Are n p fs (number k ∷ vs)) h (λ fs r. (number_is n p f k s, r))

operands_are : (n : ℕ) (p : List ℤ) (forms : Name → Option Form) (e : Env) (names : List Name) → ((m : Name) → Stands n p (forms m) (e.known m)) → Gives (operand_forms forms names) (λ fs. Are n p fs (numbers e names))
operands_are n p forms e [] h = tt
operands_are n p forms e (x ∷ names) h = operand_by n p (operand_forms forms names) (forms x) (e.known x) (numbers e names) (h x) (operands_are n p forms e names h)

are_take : (n : ℕ) (p : List ℤ) (j : ℕ) (fs : List Form) (vs : List ℤ) → Are n p fs vs → Are n p (take j fs) (take j vs)
are_take n p zero fs vs h = tt
are_take n p (suc j) [] [] h = tt
are_take n p (suc j) [] (v ∷ vs) h = absurd h
are_take n p (suc j) (f ∷ fs) [] h = absurd h
are_take n p (suc j) (f ∷ fs) (v ∷ vs) h = (h.0, are_take n p j fs vs h.1)

are_drop : (n : ℕ) (p : List ℤ) (j : ℕ) (fs : List Form) (vs : List ℤ) → Are n p fs vs → Are n p (drop j fs) (drop j vs)
are_drop n p zero fs vs h = h
are_drop n p (suc j) [] [] h = tt
are_drop n p (suc j) [] (v ∷ vs) h = absurd h
are_drop n p (suc j) (f ∷ fs) [] h = absurd h
are_drop n p (suc j) (f ∷ fs) (v ∷ vs) h = are_drop n p j fs vs h.1

-- the values of a bound's results
abbrev pub bound_values : Env → Bound → List ℤ
bound_values e (bound.Int z) = z ∷ []
bound_values e (bound.Value n) = number (e.known n) ∷ []
bound_values e (bound.Map at) = results_of e at

pub lower_is : (e : Env) (b : Bound) → lower_of e b ≡ greatest (bound_values e b)
unfolding lower_of
lower_is e (bound.Int z) = refl
lower_is e (bound.Value n) = refl
lower_is e (bound.Map at) = refl

pub upper_is : (e : Env) (b : Bound) → upper_of e b ≡ least (bound_values e b)
unfolding upper_of
upper_is e (bound.Int z) = refl
upper_is e (bound.Value n) = refl
upper_is e (bound.Map at) = refl

module _ (p : List ℤ) (width : ℕ) (long : length p ≡ width) (forms : Name → Option Form) (e : Env) (stands : (m : Name) → Stands width p (forms m) (e.known m)) where
  pub map_gives : (at : Access) (ls : List LocalForm) → AreInOrder width ls → Gives (map_forms forms width at ls) (AllGood p width long ls (results_of e at))
  unfolding results_of
  map_gives at ls o = then (operand_forms forms at.operands) _ (λ fs. Are width p fs (numbers e at.operands)) (AllGood p width long ls (results_of e at)) (operands_are width p forms e at.operands stands) (λ fs h.
      all_over_gives p width long (take at.map.dims fs) (drop at.map.dims fs) (take at.map.dims (numbers e at.operands)) (drop at.map.dims (numbers e at.operands)) (are_take width p at.map.dims fs _ h) (are_drop width p at.map.dims fs _ h) at.map.results ls o)

  one_good : (ls : List LocalForm) (f : Form) (v : ℤ) → AreInOrder width ls → Is (width + length ls) (At p width long ls) f v → AllGood p width long ls (v ∷ []) (record { forms = f ∷ []; locals = ls })
  one_good ls f v o h = record { more = []; grown = sym (append-nil ls); ordered = o; forms = (h, tt) }

  is_floored : (ls : List LocalForm) (f : Form) (v : ℤ) → Is width p f v → Is (width + length ls) (with_locals p ls) f v
  is_floored ls f v h = let w = grows p ls in subst (λ q. Is (width + length ls) q f v) (sym w.1) (is_longer width (width + length ls) p w.0 f v long (omega arith) h)

  padded_is : (m : ℕ) (q : List ℤ) (f : Form) (v : ℤ) → Is m q f v → Is m q (padded m f) v
  padded_is m q f v h = record { short = omega (arith, padded_long m f h.short); same = padded_worth m f q ∙ h.same }

  value_by : (ls : List LocalForm) (o : Option Form) (k : Option ℤ) → AreInOrder width ls → Stands width p o k
      → Gives (or_wide o >>= (λ f. Ok (record { forms = padded (width + length ls) f ∷ []; locals = ls }))) (AllGood p width long ls (number k ∷ []))
  value_by ls None k o s = tt
  value_by ls (Some f) k o s = one_good ls (padded (width + length ls) f) (number k) o (padded_is (width + length ls) (with_locals p ls) f (number k) (is_floored ls f (number k) (number_is width p f k s)))

  pub bound_gives : (b : Bound) (ls : List LocalForm) → AreInOrder width ls → Gives (bound_forms forms width b ls) (AllGood p width long ls (bound_values e b))
  bound_gives (bound.Int z) ls o = one_good ls (number_form (width + length ls) z) z o (record { short = omega (arith, number_long (width + length ls) z); same = number_worth (width + length ls) z (with_locals p ls) })
  bound_gives (bound.Value n) ls o = value_by ls (forms n) (e.known n) o (stands n)
  bound_gives (bound.Map at) ls o = map_gives at ls o

-- ---- the greatest and the least of several
fold_max_from : (x : ℤ) (zs : List ℤ) → x ≤ℤ fold int_max x zs
fold_max_from x [] = omega (arith, ints)
fold_max_from x (z ∷ zs) = ≤ℤ_trans (grind (arith, ints)) (fold_max_from (int_max x z) zs)

fold_max_each : (x : ℤ) (zs : List ℤ) → Each (λ z. z ≤ℤ fold int_max x zs) zs
fold_max_each x [] = tt
fold_max_each x (z ∷ zs) = (≤ℤ_trans (grind (arith, ints)) (fold_max_from (int_max x z) zs), fold_max_each (int_max x z) zs)

pub greatest_most : (zs : List ℤ) → Each (λ z. z ≤ℤ greatest zs) zs
greatest_most [] = tt
greatest_most (z ∷ zs) = (fold_max_from z zs, fold_max_each z zs)

fold_min_from : (x : ℤ) (zs : List ℤ) → fold int_min x zs ≤ℤ x
fold_min_from x [] = omega (arith, ints)
fold_min_from x (z ∷ zs) = ≤ℤ_trans (fold_min_from (int_min x z) zs) (grind (arith, ints))

fold_min_each : (x : ℤ) (zs : List ℤ) → Each (λ z. fold int_min x zs ≤ℤ z) zs
fold_min_each x [] = tt
fold_min_each x (z ∷ zs) = (≤ℤ_trans (fold_min_from (int_min x z) zs) (grind (arith, ints)), fold_min_each (int_min x z) zs)

pub least_least : (zs : List ℤ) → Each (λ z. least zs ≤ℤ z) zs
least_least [] = tt
least_least (z ∷ zs) = (fold_min_from z zs, fold_min_each z zs)

-- ---- the rows of divisions more
pub divisions_reached : (p ts : List ℤ) (known : Name → Option ℤ) (rho : Ranges) (k : Known) (ls : List LocalForm) → length p ≡ k.next → AreInOrder k.next ls
    → Holds (k.next + length ls) (with_locals p ls) ts k known → k.ranges ≡ rho → Gives (with_divisions ls k) (Reached p ts known rho)
divisions_reached p ts known rho k ls e o h r =
    let w = grows p ls in
    then (all_floor_rows ls) _ (Each (RowHolds (k.next + length ls) (with_locals p ls))) (Reached p ts known rho) (all_floor_rows_hold ls p k.next e o) (λ rows holds. record {
      more = w.0;
      long = sym (ap length w.1) ∙ length-with_locals p ls ∙ ap (λ n. n + length ls) e;
      holds = subst (λ q. Holds (k.next + length ls) q ts (record k { next = k.next + length ls; locals = k.locals ++ rows }) known) w.1 (record {
        forms = h.forms;
        turns = h.turns;
        symbols = h.symbols;
        loops = h.loops;
        conditions = h.conditions;
        locals = Each-append (RowHolds (k.next + length ls) (with_locals p ls)) k.locals rows h.locals holds;
      });
      ranges = r;
    })

-- ---- a loop
module _ (p : List ℤ) (k : Known) (e : Env) (long : length p ≡ k.next) where
  pub steps_up : (a s t : ℤ) (c : ℕ) → pos 0 <ℤ s → t ≡ a +ℤ pos c *ℤ s → a ≤ℤ t
  steps_up a s t c h is = let m = mul_nonneg (pos c) s (omega (arith, ints)) (omega (arith, ints, h)) in rise a t (pos c *ℤ s) is m
    where
      rise : (a t x : ℤ) → t ≡ a +ℤ x → pos 0 ≤ℤ x → a ≤ℤ t
      rise a t x is m = omega (arith, ints, is, m)

  pub turn_is : (t : ℤ) (ts : List ℤ) → Placed k.outer p (t ∷ ts) → Is k.next p (variable_form k.next k.outer) t
  turn_is t ts h = record {
    short = omega (arith, variable_long k.next k.outer);
    same = variable_worth k.next k.outer p (omega (arith, h.0, long)) ∙ h.1.0;
  }

  pub loop_reached : (v : Name) (l u : Bound) (s t : ℤ) (ts : List ℤ) → pos 0 <ℤ s → IsTurn (lower_of e l) (upper_of e u) s t → Holds k.next p (t ∷ ts) k e.known
      → Gives (in_loop v l u s k) (Reached p ts (knows e v t).known (put k.ranges v (turn_range (first_turn k.ranges l) (last_end k.ranges u))))
  loop_reached v l u s t ts up turn h =
      let Q = Reached p ts (knows e v t).known (put k.ranges v (turn_range (first_turn k.ranges l) (last_end k.ranges u))) in
      let iv = variable_form k.next k.outer in
      let lows = bound_values e l in
      let highs = bound_values e u in
      let above = steps_up (greatest lows) s t turn.0 up (turn.1 ∙ ap (λ z. z +ℤ pos turn.0 *ℤ s) (lower_is e l)) in
      then (bound_forms k.forms k.next l []) _ (AllGood p k.next long [] lows) Q (bound_gives p k.next long k.forms e h.forms l [] tt) (λ low g.
      then (bound_forms k.forms k.next u low.locals) _ (AllGood p k.next long low.locals highs) Q (bound_gives p k.next long k.forms e h.forms u low.locals g.ordered) (λ high c.
      let n = k.next + length high.locals in
      let q = with_locals p high.locals in
      let at = is_floored p k.next long k.forms e h.forms high.locals iv t (turn_is t ts h.turns) in
      let there = are_grown p k.next long low.locals high.locals c.more low.forms lows c.grown g.forms in
      let all = holds_floored p (t ∷ ts) k e.known high.locals long h in
      then (all_from iv low.forms) _ (Each (RowHolds n q)) Q (all_from_hold n q iv t low.forms lows at there (Each-weaken (λ z. z ≤ℤ greatest lows) (λ z. z ≤ℤ t) (λ z m. ≤ℤ_trans m above) lows (greatest_most lows))) (λ below b.
      then (upper_rows low.forms s iv high.forms) _ (Each (RowHolds n q)) Q (upper_rows_hold n q low.forms lows s iv t high.forms highs turn.0 up there at c.forms (turn.1 ∙ ap (λ z. z +ℤ pos turn.0 *ℤ s) (lower_is e l))
      (Each-weaken (λ z. least highs ≤ℤ z) (λ z. t <ℤ z) (λ z m. under t (upper_of e u) (least highs) z turn.2 (upper_is e u) m) highs (least_least highs))) (λ over o.
      divisions_reached p ts (knows e v t).known _ (record k {
        forms = put k.forms v (Some iv);
        ranges = put k.ranges v (turn_range (first_turn k.ranges l) (last_end k.ranges u));
        outer = suc k.outer;
        loops = k.loops ++ (below ++ over);
        goings = k.goings ++ record { lowers = low.forms; uppers = high.forms; step = s } ∷ [];
      }) high.locals long c.ordered (record {
        forms = stands_put n q k.forms e.known v (Some iv) (Some t) all.forms (t, (refl, at));
        turns = all.turns.1.1;
        symbols = all.symbols;
        loops = Each-append (RowHolds n q) k.loops (below ++ over) all.loops (Each-append (RowHolds n q) below over b o);
        conditions = all.conditions;
        locals = all.locals;
      }) refl))))
    where
      under : (t a b z : ℤ) → t <ℤ a → a ≡ b → b ≤ℤ z → t <ℤ z
      under t a b z h e m = omega (arith, ints, h, e, m)

  -- ---- a condition
  pub condition_reached : (set : Set) (names : List Name) (ts : List ℤ) → holds_at e set names ≡ true → Holds k.next p ts k e.known → Gives (in_condition set names k) (Reached p ts e.known k.ranges)
  unfolding holds_at holds
  condition_reached set names ts true_ h =
      let Q = Reached p ts e.known k.ranges in
      then (operand_forms k.forms names) _ (λ fs. Are k.next p fs (numbers e names)) Q (operands_are k.next p k.forms e names h.forms) (λ fs a.
      then (set_rows k.next (take set.dims fs) (drop set.dims fs) set.rows []) _ (AllRows p k.next long []) Q
      (set_rows_hold p k.next long (take set.dims fs) (drop set.dims fs) (take set.dims (numbers e names)) (drop set.dims (numbers e names)) (are_take k.next p set.dims fs _ a) (are_drop k.next p set.dims fs _ a) set.rows [] tt true_) (λ rows g.
      let n = k.next + length rows.locals in
      let q = with_locals p rows.locals in
      let all = holds_floored p ts k e.known rows.locals long h in
      divisions_reached p ts e.known _ (record k { conditions = k.conditions ++ rows.forms }) rows.locals long g.ordered (record {
        forms = all.forms;
        turns = all.turns;
        symbols = all.symbols;
        loops = all.loops;
        conditions = Each-append (RowHolds n q) k.conditions rows.forms all.conditions g.rows;
        locals = all.locals;
      }) refl))

  -- ---- values
  picked_within : (r : Name) (pick : Pick) (at : Access) (rho : Ranges) → AffinePlain (Value r pick at) → RangesHold e rho → Within (picked pick (results_of e at)) (picked_range pick (ranges_at rho at))
  unfolding after_plain
  picked_within r pick at rho a h =
      subst (λ x. x) (λ i. Within (number (put-same e.known r (Some (picked pick (results_of e at))) r (same_name-refl r) i)) (put-same rho r (picked_range pick (ranges_at rho at)) r (same_name-refl r) i))
      (plain_in (Value r pick at) e rho a h r)

  applied_by : (r : Name) (formed : Formed) (vs : List ℤ) (ts : List ℤ) → AllGood p k.next long [] vs formed → Holds k.next p ts k e.known
      → Gives (first_form formed.forms >>= (λ f. with_divisions formed.locals (named r (Some f) k))) (Reached p ts (put e.known r (Some (picked Apply vs))) k.ranges)
  applied_by r formed vs ts g h = by formed.forms vs g.forms
    where
      n : ℕ
      n = k.next + length formed.locals

      q : List ℤ
      q = with_locals p formed.locals

      by : (fs : List Form) (vs : List ℤ) → Are (k.next + length formed.locals) (with_locals p formed.locals) fs vs → Gives (first_form fs >>= (λ f. with_divisions formed.locals (named r (Some f) k))) (Reached p ts (put e.known r (Some (picked Apply vs))) k.ranges)
      by [] vs a = tt
      by (f ∷ fs) [] a = absurd a
      by (f ∷ fs) (v ∷ vs) a =
          let all = holds_floored p ts k e.known formed.locals long h in
          divisions_reached p ts (put e.known r (Some v)) k.ranges (named r (Some f) k) formed.locals long g.ordered (record {
            forms = stands_put (k.next + length formed.locals) (with_locals p formed.locals) k.forms e.known r (Some f) (Some v) all.forms (v, (refl, a.0));
            turns = all.turns;
            symbols = all.symbols;
            loops = all.loops;
            conditions = all.conditions;
            locals = all.locals;
          }) refl

  applied_reached : (r : Name) (at : Access) (ts : List ℤ) → Holds k.next p ts k e.known → Gives (applied r at k) (Reached p ts (put e.known r (Some (picked Apply (results_of e at)))) k.ranges)
  applied_reached r at ts h = then (map_forms k.forms k.next at []) _ (AllGood p k.next long [] (results_of e at)) (Reached p ts (put e.known r (Some (picked Apply (results_of e at)))) k.ranges)
      (map_gives p k.next long k.forms e h.forms at [] tt) (λ formed g. applied_by r formed (results_of e at) ts g h)

  picked_hold : (pick : Pick) (n : ℕ) (q : List ℤ) (v : Form) (fs : List Form) (vs : List ℤ) → Is n q v (picked pick vs) → Are n q fs vs → Gives (picked_rows pick v fs) (Each (RowHolds n q))
  picked_hold Apply n q v fs vs a b = tt
  picked_hold Min n q v fs vs a b = all_less_hold n q v (least vs) fs vs a b (least_least vs)
  picked_hold Max n q v fs vs a b = all_from_hold n q v (greatest vs) fs vs a b (greatest_most vs)

  last_of : (xs : List ℤ) (x : ℤ) → get_or (xs ++ x ∷ []) (length xs) (pos 0) ≡ x
  last_of [] x = refl
  last_of (y ∷ xs) x = last_of xs x

  reached_from : (x : ℤ) (ts : List ℤ) (known : Name → Option ℤ) (rho : Ranges) (g : Known) → Reached (p ++ x ∷ []) ts known rho g → Reached p ts known rho g
  reached_from x ts known rho g h = record {
    more = x ∷ h.more;
    long = ap length (sym (append_assoc p (x ∷ []) h.more)) ∙ h.long;
    holds = subst (λ q. Holds g.next q ts g known) (append_assoc p (x ∷ []) h.more) h.holds;
    ranges = h.ranges;
  }

  pub number_row : (n : ℕ) (q : List ℤ) (z : ℤ) → Is n q (number_form 0 z) z
  number_row n q z = record { short = omega (arith, number_long 0 z); same = number_worth 0 z q }

  pick_reached : (r : Name) (pick : Pick) (at : Access) (ts : List ℤ) (range : Range) → Within (picked pick (results_of e at)) range → Holds k.next p ts k e.known
      → Gives (with_pick r pick at range (variable_form (suc k.next) k.next) k) (Reached p ts (put e.known r (Some (picked pick (results_of e at)))) k.ranges)
  pick_reached r pick at ts range w h =
      let x = picked pick (results_of e at) in
      let zs = results_of e at in
      let v = variable_form (suc k.next) k.next in
      let p1 = p ++ x ∷ [] in
      let long1 : length p1 ≡ suc k.next = omega (arith, long, length-append p (x ∷ [])) in
      let Q = Reached p ts (put e.known r (Some x)) k.ranges in
      let all1 = holds_longer k.next (suc k.next) p (x ∷ []) ts k e.known long (omega arith) h in
      let self : Is (suc k.next) p1 v x = record {
        short = omega (arith, variable_long (suc k.next) k.next);
        same = variable_worth (suc k.next) k.next p1 (omega arith) ∙ ap (λ j. get_or p1 j (pos 0)) (sym long) ∙ last_of p x;
      } in
      then (map_forms k.forms (suc k.next) at []) _ (AllGood p1 (suc k.next) long1 [] zs) Q (map_gives p1 (suc k.next) long1 k.forms e all1.forms at [] tt) (λ formed g.
      let n = suc k.next + length formed.locals in
      let q = with_locals p1 formed.locals in
      let vq = is_floored p1 (suc k.next) long1 k.forms e all1.forms formed.locals v x self in
      then (picked_rows pick v formed.forms) _ (Each (RowHolds n q)) Q (picked_hold pick n q v formed.forms zs vq g.forms) (λ rows b.
      then (minus v (number_form 0 range.least)) _ (RowHolds n q) Q (minus_row n q v (number_form 0 range.least) x range.least vq (number_row n q range.least) w.low) (λ low l.
      then (minus (number_form 0 range.greatest) v) _ (RowHolds n q) Q (minus_row n q (number_form 0 range.greatest) v range.greatest x (number_row n q range.greatest) vq w.high) (λ high u.
      let all = longer_floored p1 ts k e.known formed.locals (suc k.next) long1 all1 in
      along_reached (with_divisions formed.locals (record k { forms = put k.forms r (Some v); next = suc k.next; locals = k.locals ++ (rows ++ low ∷ high ∷ []) })) x ts (put e.known r (Some x)) k.ranges
      (divisions_reached p1 ts (put e.known r (Some x)) k.ranges (record k { forms = put k.forms r (Some v); next = suc k.next; locals = k.locals ++ (rows ++ low ∷ high ∷ []) }) formed.locals long1 g.ordered (record {
        forms = stands_put n q k.forms e.known r (Some v) (Some x) all.forms (x, (refl, vq));
        turns = all.turns;
        symbols = all.symbols;
        loops = all.loops;
        conditions = all.conditions;
        locals = Each-append (RowHolds n q) k.locals (rows ++ low ∷ high ∷ []) all.locals (Each-append (RowHolds n q) rows (low ∷ high ∷ []) b (l, (u, tt)));
      }) refl)))))
    where
      longer_floored : (p ts : List ℤ) (k : Known) (known : Name → Option ℤ) (ls : List LocalForm) (m : ℕ) → length p ≡ m → Holds m p ts k known → Holds (m + length ls) (with_locals p ls) ts k known
      longer_floored p ts k known ls m e h =
          let w = grows p ls in
          subst (λ q. Holds (m + length ls) q ts k known) (sym w.1) (holds_longer m (m + length ls) p w.0 ts k known e (omega arith) h)

      along_reached : (w : Result Known LinearFault) (x : ℤ) (ts : List ℤ) (known : Name → Option ℤ) (rho : Ranges) → Gives w (Reached (p ++ x ∷ []) ts known rho) → Gives w (Reached p ts known rho)
      along_reached (Ok g) x ts known rho h = reached_from x ts known rho g h
      along_reached (Err er) x ts known rho h = tt

  value_reached : (r : Name) (pick : Pick) (at : Access) (ts : List ℤ) → AffinePlain (Value r pick at) → RangesHold e k.ranges → Holds k.next p ts k e.known
      → Gives (with_value r pick at k) (Reached p ts (put e.known r (Some (picked pick (results_of e at)))) k.ranges)
  value_reached r Apply at ts a w h = applied_reached r at ts h
  value_reached r Min at ts a w h = pick_reached r Min at ts (picked_range Min (ranges_at k.ranges at)) (picked_within r Min at k.ranges a w) h
  value_reached r Max at ts a w h = pick_reached r Max at ts (picked_range Max (ranges_at k.ranges at)) (picked_within r Max at k.ranges a w) h

  -- ---- a statement before the place
  -- no row and no variable more
  named_reached : (r : Name) (f : Option Form) (o : Option ℤ) (ts : List ℤ) → Stands k.next p f o → Holds k.next p ts k e.known → Reached p ts (put e.known r o) k.ranges (named r f k)
  named_reached r f o ts s h = record {
    more = [];
    long = ap length (append-nil p) ∙ long;
    holds = subst (λ q. Holds k.next q ts (named r f k) (put e.known r o)) (sym (append-nil p)) (record {
      forms = stands_put k.next p k.forms e.known r f o h.forms s;
      turns = h.turns;
      symbols = h.symbols;
      loops = h.loops;
      conditions = h.conditions;
      locals = h.locals;
    });
    ranges = refl;
  }

  pub same_reached : (ts : List ℤ) → Holds k.next p ts k e.known → Reached p ts e.known k.ranges k
  same_reached ts h = record {
    more = [];
    long = ap length (append-nil p) ∙ long;
    holds = subst (λ q. Holds k.next q ts k e.known) (sym (append-nil p)) h;
    ranges = refl;
  }

  alloc_known : (r : Name) (ty : MemrefType) → (after_alloc r ty e).known ≡ e.known
  alloc_known r ty = by (is_fast ty) _ _ refl refl
    where
      by : (t : Bool) (a b : Env) → a.known ≡ e.known → b.known ≡ e.known → (cond t a b).known ≡ e.known
      by true a b h i = h
      by false a b h i = i

  formed_reached : (pl : Plain) (names : List Name) (ts : List ℤ) → AffinePlain pl → RangesHold e k.ranges → Holds k.next p ts k e.known → Gives (formed_behind pl names k) (Reached p ts (after_plain pl e).known k.ranges)
  unfolding after_plain
  formed_reached (Value r pick at) names ts a w h = by (has_name r names)
    where
      by : (t : Bool) → Gives (cond t (with_value r pick at k) (Ok (named r None k))) (Reached p ts (put e.known r (Some (picked pick (results_of e at)))) k.ranges)
      by true = value_reached r pick at ts a w h
      by false = named_reached r None (Some (picked pick (results_of e at))) ts tt h
  formed_reached (Load r m at ty) names ts a w h = named_reached r None None ts tt h
  formed_reached (Store x m at ty) names ts a w h = same_reached ts h
  formed_reached (RawLoad r m at ty) names ts a w h = named_reached r None None ts tt h
  formed_reached (RawStore x m at ty) names ts a w h = same_reached ts h
  formed_reached (Constant r z (scalar.Int element)) names ts a w h = named_reached r None None ts tt h
  formed_reached (Constant r z scalar.Index) names ts a w h = named_reached r (Some (number_form 0 z)) (Some z) ts (z, (refl, number_row k.next p z)) h
  formed_reached (Binary r op x y ty) names ts a w h = named_reached r None None ts tt h
  formed_reached (Cast r kind x from to) names ts a w h = named_reached r None None ts tt h
  formed_reached (Alloc r ty) names ts a w h = subst (λ known. Reached p ts known k.ranges k) (sym (alloc_known r ty)) (same_reached ts h)
  formed_reached (Dealloc m ty) names ts a w h = same_reached ts h
  formed_reached (Start x x_at y y_at t t_at n stride types) names ts a w h = same_reached ts h
  formed_reached (Wait t at n ty) names ts a w h = same_reached ts h
  formed_reached Return names ts a w h = same_reached ts h

  pub plain_reached : (pl : Plain) (names : List Name) (ts : List ℤ) → AffinePlain pl → RangesHold e k.ranges → Holds k.next p ts k e.known → Gives (behind_plain pl names k) (Reached p ts (after_plain pl e).known (ranges_after pl k.ranges))
  plain_reached pl names ts a w h = then (formed_behind pl names k) _ (Reached p ts (after_plain pl e).known k.ranges) (Reached p ts (after_plain pl e).known (ranges_after pl k.ranges)) (formed_reached pl names ts a w h) (λ g r. record {
    more = r.more;
    long = r.long;
    holds = record { forms = r.holds.forms; turns = r.holds.turns; symbols = r.holds.symbols; loops = r.holds.loops; conditions = r.holds.conditions; locals = r.holds.locals };
    ranges = refl;
  })

-- ---- all of a way
-- the maps on it are affine, and the steps of loops positive
abbrev pub AffineWay : List Header → Type 0
AffineWay [] = Unit {0}
AffineWay (Round v l u s ∷ hs) = (bound_pure l ≡ true) × (bound_pure u ≡ true) × (pos 0 <ℤ s) × AffineWay hs
AffineWay (Given set names ∷ hs) = AffineWay hs
AffineWay (Except set names first ∷ hs) = AffineWay hs
AffineWay (Behind p ∷ hs) = AffinePlain p × AffineWay hs
AffineWay (Past n ∷ hs) = AffineWay hs

-- what is known at its end holds there
pub record Arrived (p : List ℤ) (g : Env) (k : Known) : Type 0 where
  pub more : List ℤ
  pub long : length (p ++ more) ≡ k.next
  pub holds : Holds k.next (p ++ more) [] k g.known
  pub ranges : RangesHold g k.ranges

pub turn_within : (a b low high t : ℤ) → a ≤ℤ low → high ≤ℤ b → low ≤ℤ t → t <ℤ high → Within t (turn_range a b)
turn_within a b low high t p q from to = record { low = omega (arith, ints, p, from); high = grind (arith, ints, p, q, from, to) }

arrived_from : (p more : List ℤ) (g : Env) (w : Result Known LinearFault) → Gives w (Arrived (p ++ more) g) → Gives w (Arrived p g)
arrived_from p more g (Ok k) h = record {
  more = more ++ h.more;
  long = ap length (sym (append_assoc p more h.more)) ∙ h.long;
  holds = subst (λ q. Holds k.next q [] k g.known) (append_assoc p more h.more) h.holds;
  ranges = h.ranges;
}
arrived_from p more g (Err e) h = tt

pub along_arrives : (hs : List Header) (own : List Name) (k : Known) (e g : Env) (ts p : List ℤ) → AffineWay hs → Visits hs e ts g → length p ≡ k.next → RangesHold e k.ranges → Holds k.next p ts k e.known
    → Gives (along hs own k) (Arrived p g)
unfolding along
along_arrives [] own k e g ts p a v long w h =
    let same = v.1 in
    record {
      more = [];
      long = ap length (append-nil p) ∙ long;
      holds = subst (λ q. Holds k.next q [] k g.known) (sym (append-nil p)) (subst (λ us. Holds k.next p us k g.known) v.0 (subst (λ x. Holds k.next p ts k x.known) same h));
      ranges = subst (λ x. RangesHold x k.ranges) same w;
    }
along_arrives (Round v l u s ∷ hs) own k e g [] p a vis long w h = absurd vis
along_arrives (Round v l u s ∷ hs) own k e g (t ∷ ts) p a vis long w h =
    let low = lower_in e k.ranges l w a.0 in
    let high = upper_in e k.ranges u w a.1 in
    let from = steps_up p k e long (lower_of e l) s t vis.0.0 a.2 vis.0.1 in
    let here = put_in e k.ranges v (Some t) (turn_range (first_turn k.ranges l) (last_end k.ranges u)) (turn_within (first_turn k.ranges l) (last_end k.ranges u) (lower_of e l) (upper_of e u) t low high from vis.0.2) w in
    then (in_loop v l u s k) (along hs own) (Reached p ts (knows e v t).known (put k.ranges v (turn_range (first_turn k.ranges l) (last_end k.ranges u)))) (Arrived p g)
    (loop_reached p k e long v l u s t ts a.2 vis.0 h) (λ k1 r.
    arrived_from p r.more g (along hs own k1) (along_arrives hs own k1 (knows e v t) g ts (p ++ r.more) a.3 vis.1 r.long (subst (RangesHold (knows e v t)) (sym r.ranges) here) r.holds))
along_arrives (Given set names ∷ hs) own k e g ts p a vis long w h =
    then (in_condition set names k) (along hs own) (Reached p ts e.known k.ranges) (Arrived p g) (condition_reached p k e long set names ts vis.0 h) (λ k1 r.
    arrived_from p r.more g (along hs own k1) (along_arrives hs own k1 e g ts (p ++ r.more) a vis.1 r.long (subst (RangesHold e) (sym r.ranges) w) r.holds))
along_arrives (Except set names first ∷ hs) own k e g ts p a vis long w h = along_arrives hs own k (behind first e) g ts p a vis.1 long w h
along_arrives (Behind pl ∷ hs) own k e g ts p a vis long w h =
    then (behind_plain pl (used hs own) k) (along hs own) (Reached p ts (after_plain pl e).known (ranges_after pl k.ranges)) (Arrived p g) (plain_reached p k e long pl (used hs own) ts a.0 w h) (λ k1 r.
    arrived_from p r.more g (along hs own k1) (along_arrives hs own k1 (after_plain pl e) g ts (p ++ r.more) a.1 vis r.long (subst (RangesHold (after_plain pl e)) (sym r.ranges) (plain_in pl e k.ranges a.0 w)) r.holds))
along_arrives (Past n ∷ hs) own k e g ts p a vis long w h = along_arrives hs own k (behind n e) g ts p a vis long w h
