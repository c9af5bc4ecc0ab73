-- Maps, sets, subscripts and bounds that the grammar has are spelled by their printed spelling.
use Rattle.std.proofs.Common.{◌≡◌, ℕ, zero, suc, ◌+◌, ◌≤◌, ◌<◌, ◌^◌, ◌||◌, nat_le, true, false, List, [], ◌∷◌, ◌++◌, length, take, drop, bytes_eq, refl, sym, ap, ◌∙◌, subst, append_assoc, append-nil, length-append, arith}
use Rattle.std.proofs.lemmas.Bool.Decides.{nat_tests}
use Rattle.std.specs.List.{flat_map}
use Rattle.affine_expr.specs.declared.expr.Expr.{Expr}
use Rattle.affine_expr.specs.declared.map.Constraint.{Constraint}
use Rattle.affine_expr.specs.declared.map.Map.{Map}
use Rattle.affine_expr.specs.declared.map.Set.{Set}
use Rattle.affine_ast.specs.declared.name.Name.{Name}
use Rattle.affine_ast.specs.declared.types.Access.{Access}
use Rattle.affine_ast.specs.declared.types.Bound.{Bound}
use Rattle.affine_ast.specs.declared.types.Bound.TheVariants as bound
use Rattle.affine_ast.specs.PlainLimits.{depths}
use Rattle.affine_grammar.specs.declared.words.Leaves.TheVariants as leaves
use Rattle.affine_grammar.specs.declared.words.Scope.{Scope}
use Rattle.affine_grammar.specs.declared.words.State.{State}
use Rattle.affine_grammar.specs.Grammar.{begun, over, map_with, set_with, no_values, access_with}
use Rattle.printed_texts.specs.Nesting.{printed_nesting, nests_within, zeros, AllNest, RowsNest, UseNests, BoundNests}
use Rattle.printed_texts.specs.Writable.{AllWritten, IsWithin, ExpressionFits, ExpressionsFit, RowsFit, AreApart, OperandsFit, operands_of, operands_in, operands_in_rows, operands_in_use, operands_in_bound, UseFits, ConditionFits, Appear, AllWithin, SubscriptsFit, BoundFits}
use Rattle.printed_texts.proofs.States.{params}
use Rattle.printed_texts.proofs.Params.{length_params, scope_of, FewNames}
use Rattle.printed_texts.proofs.Expressions.{ToldExpression, expression_of}
use Rattle.printed_texts.proofs.Lists.{ToldList, list_none, list_more, ToldRow, row_of, ToldRows, rows_none, rows_more}
use Rattle.printed_texts.proofs.Maps.{results_of, ToldMap, map_of, rows_of, ToldSet, set_of}
use Rattle.printed_texts.proofs.Uses.{ToldOperands, UsedSet, plain_map, plain_set, ToldUse, use_of, ToldSubscripts, no_subscripts, subscripts_of}
use Rattle.printed_texts.proofs.Bounds.{ToldBound, int_bound, value_bound, map_bound}
use Rattle.printed_texts.proofs.Marks.{is_keyword}
use Rattle.printed_texts.proofs.Operands.{reading, parameters_read, appear_split, appear_grows, values_read}

-- ---- limits

zero_more : (n : ℕ) → n ≡ n + 0
zero_more n = omega arith

not_le : (a b : ℕ) → b < a → nat_le a b ≡ false
not_le a b h = grind (arith, nat_tests)

is_le : (a b : ℕ) → a ≤ b → nat_le a b ≡ true
is_le a b h = grind (arith, nat_tests)

nesting_depth : (x : Expr) → IsWithin x → (depths x).sum ≤ 128
unfolding printed_nesting
nesting_depth x w = w.nesting

within_nests : (x : Expr) → IsWithin x → nests_within x ≡ true
unfolding nests_within
within_nests x w = ap (λ b. b || (zeros x).bare) (is_le (printed_nesting x) 128 w.nesting)

pub all_nest : (dims syms : ℕ) (xs : List Expr) → ExpressionsFit dims syms xs → AllNest xs
all_nest dims syms [] h = tt
all_nest dims syms (x ∷ xs) h = (within_nests x h.0.within, all_nest dims syms xs h.1)

pub within_nest : (xs : List Expr) → AllWithin xs → AllNest xs
within_nest [] h = tt
within_nest (x ∷ xs) h = (within_nests x h.0, within_nest xs h.1)

pub rows_nest : (dims syms : ℕ) (rows : List Constraint) → RowsFit dims syms rows → RowsNest rows
rows_nest dims syms [] h = tt
rows_nest dims syms (row ∷ rows) h = (within_nests row.left h.0.within, within_nests row.right h.1.within, rows_nest dims syms rows h.2)

-- ---- expressions over parameters

-- the state has so many parameters
record Has (s : State) (dims syms : ℕ) : Type 0 where
  dims_are : length s.dims ≡ dims
  syms_are : length s.syms ≡ syms

record ExpressionOver (s : State) (x : Expr) (dims syms : ℕ) : Type 0 where
  behind : State
  told : ToldExpression leaves.Parameters s (x, behind)
  has : Has behind dims syms
  total : behind.total ≡ s.total + length (operands_of x)

module _ (dims syms : ℕ) where
  expression_over : (s : State) (x : Expr) → Has s dims syms → ExpressionFits dims syms x → s.total + length (operands_of x) ≤ 1048576 → ExpressionOver s x dims syms
  expression_over s x h f t =
      let fits = subst (λ n. OperandsFit (length s.dims) n (operands_of x)) (sym h.syms_are) (subst (λ n. OperandsFit n syms (operands_of x)) (sym h.dims_are) f.operands) in
      let w = f.within.operands in
      let r = parameters_read (operands_of x) (begun s) fits (omega (arith, w)) t in
      record {
        behind = r.behind;
        told = expression_of leaves.Parameters s (x, r.behind) (reading leaves.Parameters x (begun s) r.behind r.reads) (λ n. nesting_depth x f.within);
        has = record { dims_are = ap (λ (l : List Name). length l) r.dims ∙ h.dims_are; syms_are = ap (λ (l : List Name). length l) r.syms ∙ h.syms_are };
        total = r.total;
      }

  record ListOver (acc xs : List Expr) (s : State) : Type 0 where
    behind : State
    told : ToldList leaves.Parameters (acc, s) (acc ++ xs, behind)
    total : behind.total ≡ s.total + operands_in xs

  list_over : (xs acc : List Expr) (s : State) → Has s dims syms → ExpressionsFit dims syms xs → length acc + length xs ≤ 8 → s.total + operands_in xs ≤ 1048576 → ListOver acc xs s
  list_over [] acc s h f m t = record { behind = s; told = subst (λ l. ToldList leaves.Parameters (acc, s) (l, s)) (sym (append-nil acc)) (list_none leaves.Parameters (acc, s)); total = omega arith }
  list_over (x ∷ xs) acc s h f m t =
      let r = expression_over s x h f.0 (omega (arith, t)) in
      let n = r.total in
      let longer = length-append acc (x ∷ []) in
      let q = list_over xs (acc ++ x ∷ []) r.behind r.has f.1 (omega (arith, m, longer)) (omega (arith, n, t)) in
      let p = q.total in
      record {
        behind = q.behind;
        told = list_more leaves.Parameters (acc, s) (acc ++ x ∷ xs, q.behind) (x, r.behind) (not_le 8 (length acc) (omega (arith, m))) r.told
            (subst (λ l. ToldList leaves.Parameters (acc ++ x ∷ [], r.behind) (l, q.behind)) (append_assoc acc (x ∷ []) xs) q.told);
        total = omega (arith, n, p);
      }

  record RowsOver (acc rows : List Constraint) (s : State) : Type 0 where
    behind : State
    told : ToldRows (acc, s) (acc ++ rows, behind)
    total : behind.total ≡ s.total + operands_in_rows rows

  -- one row, behind others
  record RowOver (acc : List Constraint) (row : Constraint) (s : State) : Type 0 where
    behind : State
    told : ToldRow (acc, s) (acc ++ row ∷ [], behind)
    has : Has behind dims syms
    total : behind.total ≡ s.total + (length (operands_of row.left) + length (operands_of row.right))

  row_over : (row : Constraint) (acc : List Constraint) (s : State) → Has s dims syms → ExpressionFits dims syms row.left → ExpressionFits dims syms row.right
      → s.total + (length (operands_of row.left) + length (operands_of row.right)) ≤ 1048576 → RowOver acc row s
  row_over row acc s h f g t =
      let p = expression_over s row.left h f (omega (arith, t)) in
      let n = p.total in
      let q = expression_over p.behind row.right p.has g (omega (arith, n, t)) in
      let k = q.total in
      record { behind = q.behind; told = row_of (acc, s) (row.left, p.behind) (row.right, q.behind) row.rel p.told q.told; has = q.has; total = omega (arith, n, k) }

  rows_over : (rows acc : List Constraint) (s : State) → Has s dims syms → RowsFit dims syms rows → length acc + length rows ≤ 16 → s.total + operands_in_rows rows ≤ 1048576 → RowsOver acc rows s
  rows_over [] acc s h f m t = record { behind = s; told = subst (λ l. ToldRows (acc, s) (l, s)) (sym (append-nil acc)) (rows_none (acc, s)); total = omega arith }
  rows_over (row ∷ rows) acc s h f m t =
      let r = row_over row acc s h f.0 f.1 (omega (arith, t)) in
      let n = r.total in
      let longer = length-append acc (row ∷ []) in
      let q = rows_over rows (acc ++ row ∷ []) r.behind r.has f.2 (omega (arith, m, longer)) (omega (arith, n, t)) in
      let p = q.total in
      record {
        behind = q.behind;
        told = rows_more (acc, s) (acc ++ row ∷ [], r.behind) (acc ++ row ∷ rows, q.behind) (not_le 16 (length acc) (omega (arith, m))) r.told
            (subst (λ l. ToldRows (acc ++ row ∷ [], r.behind) (l, q.behind)) (append_assoc acc (row ∷ []) rows) q.told);
        total = omega (arith, n, p);
      }

  over_has : (total : ℕ) → Has (over (scope_of dims syms) total) dims syms
  over_has total = record { dims_are = length_params 100 0 dims; syms_are = length_params 115 0 syms }

  few : dims < 2 ^ 64 → syms < 2 ^ 64 → FewNames (scope_of dims syms)
  few d s = record { dims = subst (λ n. n < 2 ^ 64) (sym (length_params 100 0 dims)) d; syms = subst (λ n. n < 2 ^ 64) (sym (length_params 115 0 syms)) s }

-- ---- maps and sets

map_same : (m : Map) (s : State) → ◌≡◌ {A = Map × ℕ} (map_with (scope_of m.dims m.syms) (m.results, s)) (m, s.total)
map_same m s =
    let e : ◌≡◌ {A = Map} (record { dims = length (params 100 0 m.dims); syms = length (params 115 0 m.syms); results = m.results }) (record { dims = m.dims; syms = m.syms; results = m.results }) = cc (length_params 100 0 m.dims, length_params 115 0 m.syms) in
    ap (λ (x : Map). let o : Map × ℕ = (x, s.total) in o) e

set_same : (m : Set) (s : State) → ◌≡◌ {A = Set × ℕ} (set_with (scope_of m.dims m.syms) (m.rows, s)) (m, s.total)
set_same m s =
    let e : ◌≡◌ {A = Set} (record { dims = length (params 100 0 m.dims); syms = length (params 115 0 m.syms); rows = m.rows }) (record { dims = m.dims; syms = m.syms; rows = m.rows }) = cc (length_params 100 0 m.dims, length_params 115 0 m.syms) in
    ap (λ (x : Set). let o : Set × ℕ = (x, s.total) in o) e

map_fits : (m : Map) (total : ℕ) → 1 ≤ length m.results → length m.results ≤ 8 → ExpressionsFit m.dims m.syms m.results → m.dims < 2 ^ 64 → m.syms < 2 ^ 64
    → total + operands_in m.results ≤ 1048576 → ToldMap m total (total + operands_in m.results)
map_fits m total some most fit d s room = by_results m.results refl some most fit room
  where
    names : Scope
    names = scope_of m.dims m.syms

    by_results : (xs : List Expr) → m.results ≡ xs → 1 ≤ length xs → length xs ≤ 8 → ExpressionsFit m.dims m.syms xs → total + operands_in xs ≤ 1048576 → ToldMap m total (total + operands_in xs)
    by_results [] e some most fit room = absurd (omega (arith, some))
    by_results (x ∷ xs) e some most fit room =
        let p = expression_over m.dims m.syms (over names total) x (over_has m.dims m.syms total) fit.0 (omega (arith, room)) in
        let n = p.total in
        let r = list_over m.dims m.syms xs (x ∷ []) p.behind p.has fit.1 (omega (arith, most)) (omega (arith, n, room)) in
        let k = r.total in
        let told = map_of names total (x ∷ xs, r.behind) (few m.dims m.syms d s) (results_of (over names total) (x, p.behind) (x ∷ xs, r.behind) p.told r.told) in
        let same : ◌≡◌ {A = Map × ℕ} (map_with names (x ∷ xs, r.behind)) (m, r.behind.total) = ap (λ ys. map_with names (ys, r.behind)) (sym e) ∙ map_same m r.behind in
        let last : r.behind.total ≡ total + operands_in (x ∷ xs) = omega (arith, n, k) in
        subst (λ t. ToldMap m total t) last (subst (λ (q : Map × ℕ). ToldMap q.0 total q.1) same told)

set_fits : (m : Set) (total : ℕ) → 1 ≤ length m.rows → length m.rows ≤ 16 → RowsFit m.dims m.syms m.rows → m.dims < 2 ^ 64 → m.syms < 2 ^ 64
    → total + operands_in_rows m.rows ≤ 1048576 → ToldSet m total (total + operands_in_rows m.rows)
set_fits m total some most fit d s room = by_rows m.rows refl some most fit room
  where
    names : Scope
    names = scope_of m.dims m.syms

    by_rows : (xs : List Constraint) → m.rows ≡ xs → 1 ≤ length xs → length xs ≤ 16 → RowsFit m.dims m.syms xs → total + operands_in_rows xs ≤ 1048576 → ToldSet m total (total + operands_in_rows xs)
    by_rows [] e some most fit room = absurd (omega (arith, some))
    by_rows (x ∷ xs) e some most fit room =
        let p = row_over m.dims m.syms x [] (over names total) (over_has m.dims m.syms total) fit.0 fit.1 (omega (arith, room)) in
        let n = p.total in
        let r = rows_over m.dims m.syms xs (x ∷ []) p.behind p.has fit.2 (omega (arith, most)) (omega (arith, n, room)) in
        let k = r.total in
        let told = set_of names total (x ∷ xs, r.behind) (few m.dims m.syms d s) (rows_of (over names total) (x ∷ [], p.behind) (x ∷ xs, r.behind) p.told r.told) in
        let same : ◌≡◌ {A = Set × ℕ} (set_with names (x ∷ xs, r.behind)) (m, r.behind.total) = ap (λ ys. set_with names (ys, r.behind)) (sym e) ∙ set_same m r.behind in
        let last : r.behind.total ≡ total + operands_in_rows (x ∷ xs) = omega (arith, n, k) in
        subst (λ t. ToldSet m total t) last (subst (λ (q : Set × ℕ). ToldSet q.0 total q.1) same told)

-- ---- operands

take_drop : (n : ℕ) (names : List Name) → take n names ++ drop n names ≡ names
take_drop zero [] = refl
take_drop (suc n) [] = refl
take_drop zero (v ∷ names) = refl
take_drop (suc n) (v ∷ names) = ap (λ l. v ∷ l) (take_drop n names)

take_written : (n : ℕ) (names : List Name) → AllWritten names → AllWritten (take n names)
take_written zero [] h = tt
take_written (suc n) [] h = tt
take_written zero (v ∷ names) h = tt
take_written (suc n) (v ∷ names) h = (h.0, take_written n names h.1)

drop_written : (n : ℕ) (names : List Name) → AllWritten names → AllWritten (drop n names)
drop_written zero [] h = tt
drop_written (suc n) [] h = tt
drop_written zero (v ∷ names) h = h
drop_written (suc n) (v ∷ names) h = drop_written n names h.1

take_count : (n k : ℕ) (names : List Name) → length names ≡ n + k → length (take n names) ≡ n
take_count zero k [] h = refl
take_count (suc n) k [] h = absurd (omega (arith, h))
take_count zero k (v ∷ names) h = refl
take_count (suc n) k (v ∷ names) h = omega (arith, take_count n k names (omega (arith, h)))

drop_count : (n k : ℕ) (names : List Name) → length names ≡ n + k → length (drop n names) ≡ k
drop_count zero k [] h = omega (arith, h)
drop_count (suc n) k [] h = absurd (omega (arith, h))
drop_count zero k (v ∷ names) h = omega (arith, h)
drop_count (suc n) k (v ∷ names) h = drop_count n k names (omega (arith, h))

names_told : (dims syms : ℕ) (names : List Name) → length names ≡ dims + syms → AllWritten names → ToldOperands dims syms names
names_told dims syms names c w = record {
  first = take dims names;
  second = drop dims names;
  parts = sym (take_drop dims names);
  dims_told = record { count = take_count dims syms names c; written = take_written dims names w };
  syms_told = record { count = drop_count dims syms names c; written = drop_written dims names w };
}

-- ---- uses

pub use_fits : (at : Access) (total : ℕ) → UseFits at → total + operands_in_use at ≤ 1048576 → ToldUse at total (total + operands_in_use at)
use_fits at total f room =
    let n = f.operands in
    let m = map_fits at.map total f.some f.most f.results n.few_dims n.few_syms room in
    use_of total (at.map, total + operands_in_use at) at.operands (plain_map at.map total (total + operands_in_use at) m) (names_told at.map.dims at.map.syms at.operands n.count n.written)

pub use_nests : (at : Access) → UseFits at → UseNests at
use_nests at f = all_nest at.map.dims at.map.syms at.map.results f.results

pub condition_fits : (set : Set) (names : List Name) (total : ℕ) → ConditionFits set names → total + operands_in_rows set.rows ≤ 1048576
    → UsedSet set total (total + operands_in_rows set.rows) × ToldOperands set.dims set.syms names
condition_fits set names total f room =
    let n = f.operands in
    (plain_set set total (total + operands_in_rows set.rows) (set_fits set total f.some f.most f.rows n.few_dims n.few_syms room), names_told set.dims set.syms names n.count n.written)

pub condition_nests : (set : Set) (names : List Name) → ConditionFits set names → RowsNest set.rows
condition_nests set names f = rows_nest set.dims set.syms set.rows f.rows

-- ---- bounds

module _ (w : List ℕ) (is_word : is_keyword w ≡ true) (same : bytes_eq w w ≡ true) where
  pub bound_fits : (b : Bound) (total : ℕ) → BoundFits b → total + operands_in_bound b ≤ 1048576 → ToldBound w b total (total + operands_in_bound b)
  bound_fits (bound.Int z) total f room = subst (λ n. ToldBound w (bound.Int z) total n) (zero_more total) (int_bound w is_word same total z f)
  bound_fits (bound.Value v) total f room = subst (λ n. ToldBound w (bound.Value v) total n) (zero_more total) (value_bound w is_word same total v f)
  bound_fits (bound.Map at) total f room = map_bound w is_word same total at (total + operands_in_use at) (use_fits at total f room)

pub bound_nests : (b : Bound) → BoundFits b → BoundNests b
bound_nests (bound.Int z) f = tt
bound_nests (bound.Value v) f = tt
bound_nests (bound.Map at) f = use_nests at f

-- ---- subscripts

record ValuesOver (ds ss : List Name) (acc xs : List Expr) (s : State) (m l : ℕ) : Type 0 where
  behind : State
  told : ToldList leaves.Values (acc, s) (acc ++ xs, behind)
  dims : behind.dims ≡ take m ds
  syms : behind.syms ≡ take l ss
  total : behind.total ≡ s.total + operands_in xs

record ValueOver (ds ss : List Name) (x : Expr) (s : State) (m l : ℕ) : Type 0 where
  behind : State
  told : ToldExpression leaves.Values s (x, behind)
  dims : behind.dims ≡ take m ds
  syms : behind.syms ≡ take l ss
  total : behind.total ≡ s.total + length (operands_of x)

module _ (ds ss : List Name) (dims_written : AllWritten ds) (syms_written : AllWritten ss) (dims_apart : AreApart ds) (syms_apart : AreApart ss) where
  value_over : (x : Expr) (s : State) (n k m l : ℕ) → s.dims ≡ take n ds → s.syms ≡ take k ss → Appear n k (operands_of x) m l → m ≤ length ds → l ≤ length ss
      → IsWithin x → s.total + length (operands_of x) ≤ 1048576 → ValueOver ds ss x s m l
  value_over x s n k m l d y a dm lm w t =
      let o = w.operands in
      let r = values_read ds ss dims_written syms_written dims_apart syms_apart (operands_of x) (begun s) n k m l (record { dims = d; syms = y }) a dm lm (omega (arith, o)) t in
      record {
        behind = r.behind;
        told = expression_of leaves.Values s (x, r.behind) (reading leaves.Values x (begun s) r.behind r.reads) (λ h. nesting_depth x w);
        dims = r.stood.dims;
        syms = r.stood.syms;
        total = r.total;
      }

  values_over : (xs acc : List Expr) (s : State) (n k m l : ℕ) → s.dims ≡ take n ds → s.syms ≡ take k ss → Appear n k (flat_map operands_of xs) m l → m ≤ length ds → l ≤ length ss
      → AllWithin xs → length acc + length xs ≤ 8 → s.total + operands_in xs ≤ 1048576 → ValuesOver ds ss acc xs s m l
  values_over [] acc s n k m l d y a dm lm w most t = record {
    behind = s;
    told = subst (λ l. ToldList leaves.Values (acc, s) (l, s)) (sym (append-nil acc)) (list_none leaves.Values (acc, s));
    dims = d ∙ ap (λ j. take j ds) a.0;
    syms = y ∙ ap (λ j. take j ss) a.1;
    total = omega arith;
  }
  values_over (x ∷ xs) acc s n k m l d y a dm lm w most t =
      let i = appear_split (operands_of x) (flat_map operands_of xs) n k m l a in
      let g = appear_grows (flat_map operands_of xs) i.dims i.syms m l i.second in
      let g0 = g.0 in
      let g1 = g.1 in
      let r = value_over x s n k i.dims i.syms d y i.first (omega (arith, g0, dm)) (omega (arith, g1, lm)) w.0 (omega (arith, t)) in
      let p = r.total in
      let longer = length-append acc (x ∷ []) in
      let q = values_over xs (acc ++ x ∷ []) r.behind i.dims i.syms m l r.dims r.syms i.second dm lm w.1 (omega (arith, most, longer)) (omega (arith, p, t)) in
      let u = q.total in
      record {
        behind = q.behind;
        told = list_more leaves.Values (acc, s) (acc ++ x ∷ xs, q.behind) (x, r.behind) (not_le 8 (length acc) (omega (arith, most))) r.told
            (subst (λ l. ToldList leaves.Values (acc ++ x ∷ [], r.behind) (l, q.behind)) (append_assoc acc (x ∷ []) xs) q.told);
        dims = q.dims;
        syms = q.syms;
        total = omega (arith, p, u);
      }

take_all : (n : ℕ) (names : List Name) → length names ≡ n → take n names ≡ names
take_all zero [] h = refl
take_all (suc n) [] h = refl
take_all zero (v ∷ names) h = absurd (omega (arith, h))
take_all (suc n) (v ∷ names) h = ap (λ l. v ∷ l) (take_all n names (omega (arith, h)))

-- what the states of a text's subscripts make of their results
access_same : (at : Access) (s : State) (xs : List Expr) → at.map.results ≡ xs → length at.operands ≡ at.map.dims + at.map.syms
    → s.dims ≡ take at.map.dims (take at.map.dims at.operands) → s.syms ≡ take at.map.syms (drop at.map.dims at.operands)
    → ◌≡◌ {A = Access × ℕ} (access_with (xs, s)) (at, s.total)
access_same at s xs e c d y =
    let nd = take_count at.map.dims at.map.syms at.operands c in
    let ns = drop_count at.map.dims at.map.syms at.operands c in
    let dims : s.dims ≡ take at.map.dims at.operands = d ∙ take_all at.map.dims (take at.map.dims at.operands) nd in
    let syms : s.syms ≡ drop at.map.dims at.operands = y ∙ take_all at.map.syms (drop at.map.dims at.operands) ns in
    let names : s.dims ++ s.syms ≡ at.operands = ap (λ l. l ++ s.syms) dims ∙ ap (λ l. take at.map.dims at.operands ++ l) syms ∙ take_drop at.map.dims at.operands in
    let count_dims : length s.dims ≡ at.map.dims = ap (λ (l : List Name). length l) dims ∙ nd in
    let count_syms : length s.syms ≡ at.map.syms = ap (λ (l : List Name). length l) syms ∙ ns in
    let m : ◌≡◌ {A = Map} (record { dims = length s.dims; syms = length s.syms; results = xs }) (record { dims = at.map.dims; syms = at.map.syms; results = at.map.results }) = cc (count_dims, count_syms, e) in
    ap (λ (x : Map). let o : Access × ℕ = (record { map = x; operands = s.dims ++ s.syms }, s.total) in o) m
    ∙ ap (λ (l : List Name). let o : Access × ℕ = (record { map = at.map; operands = l }, s.total) in o) names

pub subscripts_fit : (at : Access) (total : ℕ) → SubscriptsFit at → total + operands_in_use at ≤ 1048576 → ToldSubscripts at total (total + operands_in_use at)
subscripts_fit at total f room = by_results at.map.results refl f.most f.within f.order room
  where
    ds : List Name
    ds = take at.map.dims at.operands

    ss : List Name
    ss = drop at.map.dims at.operands

    dims_long : at.map.dims ≤ length ds
    dims_long = let n = take_count at.map.dims at.map.syms at.operands f.count in omega (arith, n)

    syms_long : at.map.syms ≤ length ss
    syms_long = let n = drop_count at.map.dims at.map.syms at.operands f.count in omega (arith, n)

    by_results : (xs : List Expr) → at.map.results ≡ xs → length xs ≤ 8 → AllWithin xs → Appear 0 0 (flat_map operands_of xs) at.map.dims at.map.syms → total + operands_in xs ≤ 1048576 → ToldSubscripts at total (total + operands_in xs)
    by_results [] e most w a room =
        let same : ◌≡◌ {A = Access × ℕ} (access_with ([], no_values total)) (at, total) =
        access_same at (no_values total) [] e f.count (ap (λ n. take n ds) a.0) (ap (λ n. take n ss) a.1) in
        subst (λ n. ToldSubscripts at total n) (zero_more total) (subst (λ (q : Access × ℕ). ToldSubscripts q.0 total total) same (no_subscripts total))
    by_results (x ∷ xs) e most w a room =
        let i = appear_split (operands_of x) (flat_map operands_of xs) 0 0 at.map.dims at.map.syms a in
        let g = appear_grows (flat_map operands_of xs) i.dims i.syms at.map.dims at.map.syms i.second in
        let g0 = g.0 in
        let g1 = g.1 in
        let dw = take_written at.map.dims at.operands f.written in
        let sw = drop_written at.map.dims at.operands f.written in
        let p = value_over ds ss dw sw f.dims f.syms x (no_values total) 0 0 i.dims i.syms refl refl i.first (omega (arith, g0, dims_long)) (omega (arith, g1, syms_long)) w.0 (omega (arith, room)) in
        let n = p.total in
        let r = values_over ds ss dw sw f.dims f.syms xs (x ∷ []) p.behind i.dims i.syms at.map.dims at.map.syms p.dims p.syms i.second dims_long syms_long w.1 (omega (arith, most)) (omega (arith, n, room)) in
        let k = r.total in
        let same = access_same at r.behind (x ∷ xs) e f.count r.dims r.syms in
        let last : r.behind.total ≡ total + operands_in (x ∷ xs) = omega (arith, n, k) in
        subst (λ t. ToldSubscripts at total t) last (subst (λ (q : Access × ℕ). ToldSubscripts q.0 total q.1) same (subscripts_of total (x, p.behind) (x ∷ xs, r.behind) p.told r.told))

pub subscripts_nest : (at : Access) → SubscriptsFit at → UseNests at
subscripts_nest at f = within_nest at.map.results f.within
