-- Values of expressions over operands by number.
use Rattle.std.proofs.Common.{◌≡◌, ℕ, ◌+◌, ◌<◌, ◌≤◌, ℤ, pos, List, [], ◌∷◌, ◌-◌, length, take, drop, map, get_or, refl, sym, ap, ◌∙◌, subst, arith, Bool}
use Rattle.std.specs.Prelude.{nat_lt, fold}
use Rattle.std.proofs.lemmas.Bool.{ltb-true}
use Rattle.std.proofs.lemmas.List.{get_or-drop, length-drop, take_all, length-map, length-take, map_more, get_or-take, get_or_default}
use Rattle.std.proofs.Math.ListN.{get_or-map}
use Rattle.std.proofs.lemmas.List.Elements.{All-get_or}
use Rattle.std.proofs.lemmas.List.Sums.{fold_push}
use Rattle.affine_expr.specs.declared.expr.Expr.{Expr, Dim, fold-Expr, fold-roll-Expr}
use Rattle.affine_expr.specs.declared.expr.Expr.TheVariants.{rolls-Dim}
use Rattle.affine_expr.specs.declared.expr.Expr.TheOpen.{Expr-F}
use Rattle.affine_expr.specs.declared.map.Set.{Set}
use Rattle.affine_expr.specs.Pure.{has_leaves_below, leaves_step}
use Rattle.affine_expr.specs.Bounded.{Evaluable}
use Rattle.affine_expr.specs.Value.{value}
use Rattle.affine_expr.proofs.Values.{value-Dim}
use Rattle.affine_ast.specs.declared.types.Access.{Access}
use Rattle.direct_meaning.specs.Static.{Env, numbers, number, results_of}
use Rattle.valid_laws.specs.Safe.{IsSmall, SafeAccess, SafeCondition}
use Rattle.walk_program.specs.declared.plain.Subscripts.{Subscripts}
use Rattle.walk_program.specs.Names.{name_at}
use Rattle.walk_program.specs.Numbered.{Operands}
use Rattle.walk_program.specs.Reading.{names_at}
use Rattle.walk_actions.specs.Bindings.{Bindings}
use Rattle.walk_actions.specs.Looked.{env_of}
use Rattle.walk_actions.specs.Values.{dims_of, syms_of, value_in, use_of, HasValue, HasRoom}

leaves-Dim : (dims syms n : ℕ) → has_leaves_below dims syms (Dim n) ≡ nat_lt n dims
unfolding has_leaves_below
leaves-Dim dims syms n = ap (fold-Expr Bool (leaves_step dims syms)) (sym (rolls-Dim n)) ∙ fold-roll-Expr Bool (leaves_step dims syms) (Expr-F.Dim n)

pub get_or-mapped : {A B : Type 0} (f : A → B) (xs : List A) (k : ℕ) (d : A) (z : B) → k < length xs → get_or (map f xs) k z ≡ f (get_or xs k d)
get_or-mapped f xs k d z h = get_or_default (map f xs) k z (f d) (omega (arith, length-map xs f, h)) ∙ get_or-map f xs k d

numbers_length : (e : Env) (s : Bindings) (ks : List ℕ) → length (numbers e (names_at s.names ks)) ≡ length ks
numbers_length e s ks = length-map (names_at s.names ks) (λ n. number (e.known n)) ∙ length-map ks (name_at s.names)

below_dims : (s : Bindings) (at : Subscripts) (n : ℕ) (expr : Expr) → expr ≡ Dim n → HasValue (env_of s) (use_of s at) expr → n < length (dims_of (env_of s) (use_of s at))
below_dims s at n expr is h = ltb-true n (length (dims_of (env_of s) (use_of s at))) (sym (leaves-Dim _ _ n) ∙ ap (has_leaves_below _ _) (sym is) ∙ h.evaluable.leaves)

-- a dimension's place is that of one of the operands
pub dim_below : (s : Bindings) (at : Subscripts) (n : ℕ) (expr : Expr) → expr ≡ Dim n → HasValue (env_of s) (use_of s at) expr → n < length at.operands
dim_below s at n expr is h = omega (arith, length-take at.map.dims (numbers (env_of s) (use_of s at).operands), numbers_length (env_of s) s at.operands, below_dims s at n expr is h)

pub dim_value : (s : Bindings) (at : Subscripts) (n : ℕ) (expr : Expr) → expr ≡ Dim n → HasValue (env_of s) (use_of s at) expr
    → number ((env_of s).known (name_at s.names (get_or at.operands n 0))) ≡ value_in (env_of s) (use_of s at) expr
dim_value s at n expr is h =
    let e = env_of s in
    let names = (use_of s at).operands in
    let k = below_dims s at n expr is h in
    let j : n < at.map.dims = omega (arith, k, length-take at.map.dims (numbers e names)) in
    let l : n < length at.operands = dim_below s at n expr is h in
    sym (ap (value_in e (use_of s at)) is
    ∙ value-Dim (dims_of e (use_of s at)) (syms_of e (use_of s at)) n
    ∙ get_or-take at.map.dims (numbers e names) n (pos 0) j
    ∙ get_or-mapped (λ m. number (e.known m)) names n (name_at s.names 0) (pos 0) (omega (arith, l, length-map at.operands (name_at s.names)))
    ∙ ap (λ m. number (e.known m)) (get_or-mapped (name_at s.names) at.operands n 0 (name_at s.names 0) l))

pub dims_fit : (s : Bindings) (cap : ℕ) (at : Subscripts) (xs : List ℤ) → HasRoom s cap at → xs ≡ numbers (env_of s) (names_at s.names at.operands) → at.map.dims ≤ length xs
dims_fit s cap at xs h e = omega (arith, h.dims, ap length e, numbers_length (env_of s) s at.operands)

pub ruleset evaluations = (dims_fit)

-- the first operands of a set are those of its dimensions
pub set_dims : (s : Bindings) (set : Set) (ks : List ℕ) (xs : List ℤ) → SafeCondition (env_of s) set (names_at s.names ks) → xs ≡ numbers (env_of s) (names_at s.names ks) → set.dims ≤ length xs
set_dims s set ks xs h e = omega (arith, h.count, ap length e, length-map (names_at s.names ks) (λ n. number ((env_of s).known n)))

-- ---- a map's results, one by one

pub room_is : (s : Bindings) (cap : ℕ) (at : Subscripts) → Operands (length s.names) cap at.operands → SafeAccess (env_of s) (use_of s at) → HasRoom s cap at
room_is s cap at h safe = record { operands = h; dims = omega (arith, safe.count, length-map at.operands (name_at s.names)) }

-- each result has its value
pub result_at : (s : Bindings) (at : Subscripts) (k : ℕ) (expr : Expr) → SafeAccess (env_of s) (use_of s at) → k < length at.map.results → expr ≡ get_or at.map.results k expr → HasValue (env_of s) (use_of s at) expr
unfolding results_of
result_at s at k expr safe h is =
    let e = env_of s in
    let small : IsSmall (get_or (results_of e (use_of s at)) k (pos 0)) = All-get_or IsSmall (results_of e (use_of s at)) k (pos 0) (omega (arith, h, length-map at.map.results (value_in e (use_of s at)))) safe.small in
    record {
      evaluable = subst (Evaluable (dims_of e (use_of s at)) (syms_of e (use_of s at))) (sym is) (All-get_or (Evaluable (dims_of e (use_of s at)) (syms_of e (use_of s at))) at.map.results k expr h safe.evaluable);
      small = subst IsSmall (get_or-mapped (value_in e (use_of s at)) at.map.results k expr (pos 0) h ∙ ap (value_in e (use_of s at)) (sym is)) small;
    }

pub no_results : (e : Env) (at : Access) → length at.map.results ≡ 0 → results_of e at ≡ []
unfolding results_of
no_results e at h = none at.map.results h
  where
    none : (es : List Expr) → length es ≡ 0 → map (value (dims_of e at) (syms_of e at)) es ≡ []
    none [] h = refl
    none (x ∷ es) h = absurd (omega (arith, h))

split : {A : Type 0} (xs : List A) (x : A) → 0 < length xs → x ≡ get_or xs 0 x → xs ≡ x ∷ drop 1 xs
split [] x h e = absurd (omega (arith, h))
split (w ∷ xs) x h e = λ i. sym e i ∷ xs

-- the results from the first on
pub results_are : (e : Env) (at : Access) (expr : Expr) → 0 < length at.map.results → expr ≡ get_or at.map.results 0 expr → results_of e at ≡ value_in e at expr ∷ map (value_in e at) (drop 1 at.map.results)
unfolding results_of
results_are e at expr h is = ap (map (value (dims_of e at) (syms_of e at))) (split at.map.results expr h is)

-- the best of some values, with one value more
pub best_more : (best : ℤ → ℤ → ℤ) (a : ℤ) (f : Expr → ℤ) (es : List Expr) (k : ℕ) (x : Expr) → k < length es → x ≡ get_or es k x → best (fold best a (map f (take k es))) (f x) ≡ fold best a (map f (take (k + 1) es))
best_more best a f es k x h is =
    sym (ap (fold best a) (map_more f es k x h) ∙ fold_push best a (map f (take k es)) (f (get_or es k x)) ∙ ap (λ y. best (fold best a (map f (take k es))) (f y)) (sym is))

-- the value of an expression behind the first is a result's too
pub rest_at : (s : Bindings) (at : Subscripts) (rest : List Expr) (k : ℕ) (expr : Expr) → SafeAccess (env_of s) (use_of s at) → rest ≡ drop 1 at.map.results → k < length rest → expr ≡ get_or rest k expr → HasValue (env_of s) (use_of s at) expr
rest_at s at rest k expr safe e h is =
    let l : k + 1 < length at.map.results = omega (arith, h, ap length e, length-drop 1 at.map.results) in
    result_at s at (k + 1) expr safe l (is ∙ ap (λ xs. get_or xs k expr) e ∙ get_or-drop 1 at.map.results k expr ∙ ap (λ i. get_or at.map.results i expr) (omega arith))

pub room_stays : (s : Bindings) (cap new : ℕ) (at : Subscripts) → HasRoom s cap at → new ≡ cap → HasRoom s new at
room_stays s cap new at h e = record { operands = record { below = h.operands.below; short = omega (arith, h.operands.short, e) }; dims = h.dims }

-- the rest of a list from its second place on
pub rest_is : {A : Type 0} (xs ys rest : List A) → ys ≡ xs → rest ≡ take (length ys - 1) (drop 1 ys) → rest ≡ drop 1 xs
rest_is xs ys rest e f = f ∙ take_all (length ys - 1) (drop 1 ys) (omega (arith, length-drop 1 ys)) ∙ ap (drop 1) e

-- the best of all values
pub best_all : (best : ℤ → ℤ → ℤ) (e : Env) (at : Access) (x : Expr) (rest : List Expr) (k : ℕ) (z a : ℤ) → 0 < length at.map.results → x ≡ get_or at.map.results 0 x → rest ≡ drop 1 at.map.results → k ≡ length rest
    → a ≡ value_in e at x → z ≡ fold best a (map (value_in e at) (take k rest)) → (of_all : List ℤ → ℤ) → ((y : ℤ) (ys : List ℤ) → of_all (y ∷ ys) ≡ fold best y ys) → z ≡ of_all (results_of e at)
best_all best e at x rest k z a h is f end first last of_all all =
    last
    ∙ (λ i. fold best (first i) (map (value_in e at) ((take_all k rest (omega (arith, end)) ∙ f) i)))
    ∙ sym (all (value_in e at x) (map (value_in e at) (drop 1 at.map.results)))
    ∙ ap of_all (sym (results_are e at x h is))
