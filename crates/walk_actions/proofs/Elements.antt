-- Places of elements, by what their memref stands for.
use Rattle.std.proofs.Common.{◌≡◌, ℕ, ◌+◌, ◌*◌, ◌<◌, ◌≤◌, ◌^◌, List, [], ◌∷◌, length, drop, map, get_or, refl, sym, ap, ◌∙◌, subst, arith, All, mul-le-mul_right}
use Rattle.std.specs.Prelude.{Option, Some, None}
use Rattle.std.proofs.lemmas.List.Elements.{All-head, All-tail, All-cons}
use Rattle.affine_expr.specs.declared.expr.Expr.{Expr}
use Rattle.affine_expr.specs.Bounded.{Evaluable}
use Rattle.affine_ast.specs.declared.name.Name.{Name}
use Rattle.affine_ast.specs.declared.types.Access.{Access}
use Rattle.affine_ast.specs.declared.types.MemrefType.{MemrefType}
use Rattle.affine_ast.specs.Sizes.{product}
use Rattle.direct_meaning.specs.Action as meaning
use Rattle.direct_meaning.specs.Action.{SlowMemref, FastMemref, TagMemref}
use Rattle.direct_meaning.specs.Static.{Env, results_of, cell_in, within, half_place, slow_at, fast_at, place_at, place_of, tag_at, tag_of}
use Rattle.valid_laws.specs.Safe.{IsSmall, SafeAccess, SafePlace, IsMemref, IsSlow, IsFast, AreTags, StandsFor}
use Rattle.walk_program.specs.declared.plain.Subscripts.{Subscripts}
use Rattle.walk_actions.specs.Bindings.{Bindings}
use Rattle.walk_actions.specs.Looked.{env_of}
use Rattle.walk_actions.specs.Values.{dims_of, syms_of, value_in, use_of, HasValue}
use Rattle.walk_actions.proofs.Values.{result_at, results_are, room_is}

each_valued : (e : Env) (at : Access) (es : List Expr) → All (Evaluable (dims_of e at) (syms_of e at)) es → All IsSmall (map (value_in e at) es) → All (HasValue e at) es
each_valued e at [] p q = λ k d h. absurd (omega (arith, h))
each_valued e at (x ∷ es) p q =
    All-cons (HasValue e at) x es (record { evaluable = All-head (Evaluable (dims_of e at) (syms_of e at)) x es p; small = All-head IsSmall (value_in e at x) (map (value_in e at) es) q })
    (each_valued e at es (All-tail (Evaluable (dims_of e at) (syms_of e at)) x es p) (All-tail IsSmall (value_in e at x) (map (value_in e at) es) q))

-- each result has its value
pub all_valued : (s : Bindings) (at : Subscripts) → SafeAccess (env_of s) (use_of s at) → All (HasValue (env_of s) (use_of s at)) at.map.results
unfolding results_of
all_valued s at safe = each_valued (env_of s) (use_of s at) at.map.results safe.evaluable safe.small

pub slow_stands : (e : Env) (m : Name) (at : Access) (ty : MemrefType) (number first : ℕ) → SafePlace e m at ty → Some (SlowMemref number first) ≡ e.home m → IsSlow number first ty
slow_stands e m at ty number first safe h = subst (λ home. StandsFor home ty) (sym h) safe.memref.stands

pub fast_stands : (e : Env) (m : Name) (at : Access) (ty : MemrefType) (number : ℕ) → SafePlace e m at ty → Some (FastMemref number) ≡ e.home m → IsFast number ty
fast_stands e m at ty number safe h = subst (λ home. StandsFor home ty) (sym h) safe.memref.stands

pub tags_stand : (e : Env) (m : Name) (at : Access) (ty : MemrefType) (first : ℕ) → SafePlace e m at ty → Some (TagMemref first) ≡ e.home m → AreTags first ty
tags_stand e m at ty first safe h = subst (λ home. StandsFor home ty) (sym h) safe.memref.stands

slow_is : (e : Env) (m : Name) (at : Access) (ty : MemrefType) (number first : ℕ) → Some (SlowMemref number first) ≡ e.home m → slow_at first (cell_in ty.sizes (results_of e at)) ≡ place_of e m at ty
unfolding place_of
slow_is e m at ty number first h = λ i. place_at (h i) ty.sizes (results_of e at)

pub slow_place : (e : Env) (m : Name) (at : Access) (ty : MemrefType) (number first cell : ℕ) → Some (SlowMemref number first) ≡ e.home m → Some cell ≡ cell_in ty.sizes (results_of e at) → meaning.Slow (first + cell) ≡ place_of e m at ty
slow_place e m at ty number first cell h k = ap (slow_at first) k ∙ slow_is e m at ty number first h

pub slow_outside : (e : Env) (m : Name) (at : Access) (ty : MemrefType) (number first : ℕ) → Some (SlowMemref number first) ≡ e.home m → None ≡ cell_in ty.sizes (results_of e at) → meaning.Outside ≡ place_of e m at ty
slow_outside e m at ty number first h k = ap (slow_at first) k ∙ slow_is e m at ty number first h

pub fast_place : (e : Env) (m : Name) (at : Access) (ty : MemrefType) (number : ℕ) → Some (FastMemref number) ≡ e.home m → half_place number ty.sizes (results_of e at) ≡ place_of e m at ty
unfolding place_of
fast_place e m at ty number h = λ i. place_at (h i) ty.sizes (results_of e at)

pub tags_place : (e : Env) (m : Name) (at : Access) (ty : MemrefType) (first : ℕ) → Some (TagMemref first) ≡ e.home m → meaning.Outside ≡ place_of e m at ty
unfolding place_of
tags_place e m at ty first h = λ i. place_at (h i) ty.sizes (results_of e at)

pub no_place : (e : Env) (m : Name) (at : Access) (ty : MemrefType) → None ≡ e.home m → meaning.Outside ≡ place_of e m at ty
unfolding place_of
no_place e m at ty h = λ i. place_at (h i) ty.sizes (results_of e at)

pub tag_there : (e : Env) (m : Name) (at : Access) (ty : MemrefType) (first cell : ℕ) → Some (TagMemref first) ≡ e.home m → Some cell ≡ cell_in ty.sizes (results_of e at) → Some (first + cell) ≡ tag_of e m at ty
unfolding tag_of
tag_there e m at ty first cell h k = λ i. tag_at (h i) (k i)

pub tag_outside : (e : Env) (m : Name) (at : Access) (ty : MemrefType) (first : ℕ) → Some (TagMemref first) ≡ e.home m → None ≡ cell_in ty.sizes (results_of e at) → None ≡ tag_of e m at ty
unfolding tag_of
tag_outside e m at ty first h k = λ i. tag_at (h i) (k i)

pub tag_slow : (e : Env) (m : Name) (at : Access) (ty : MemrefType) (number first : ℕ) → Some (SlowMemref number first) ≡ e.home m → None ≡ tag_of e m at ty
unfolding tag_of
tag_slow e m at ty number first h = λ i. tag_at (h i) (cell_in ty.sizes (results_of e at))

pub tag_fast : (e : Env) (m : Name) (at : Access) (ty : MemrefType) (number : ℕ) → Some (FastMemref number) ≡ e.home m → None ≡ tag_of e m at ty
unfolding tag_of
tag_fast e m at ty number h = λ i. tag_at (h i) (cell_in ty.sizes (results_of e at))

pub tag_none : (e : Env) (m : Name) (at : Access) (ty : MemrefType) → None ≡ e.home m → None ≡ tag_of e m at ty
unfolding tag_of
tag_none e m at ty h = λ i. tag_at (h i) (cell_in ty.sizes (results_of e at))

few_of : (home : Option meaning.Home) (ty : MemrefType) → StandsFor home ty → product ty.sizes < 2 ^ 32
few_of None ty h = absurd h
few_of (Some (SlowMemref number first)) ty h = omega (arith, h.places_fit)
few_of (Some (FastMemref number)) ty h = omega (arith, h.cells_fit)
few_of (Some (TagMemref first)) ty h = omega (arith, h.numbers_fit)

-- the elements of every memref are few
pub few : (e : Env) (m : Name) (at : Access) (ty : MemrefType) → SafePlace e m at ty → product ty.sizes < 2 ^ 32
few e m at ty safe = few_of (e.home m) ty safe.memref.stands

split_sizes : (ns : List ℕ) → 0 < length ns → ns ≡ get_or ns 0 0 ∷ drop 1 ns
split_sizes [] h = absurd (omega (arith, h))
split_sizes (n ∷ ns) h = refl

-- the elements of a half are no more than those of all halves
pub half_few : (ns : List ℕ) → All (λ n. 1 ≤ n) ns → product (drop 1 ns) ≤ product ns
half_few [] h = omega arith
half_few (n ∷ ns) h =
    let q : 1 ≤ n = All-head (λ n. 1 ≤ n) n ns h in
    let m : 1 * product ns ≤ n * product ns = mul-le-mul_right (product ns) q in
    omega (arith, m)

-- the first subscript is the half, the others give the cell
pub half_is : (number : ℕ) (ns : List ℕ) (e : Env) (at : Access) (x : Expr) (half cell : Option ℕ) → 0 < length ns → 0 < length at.map.results → x ≡ get_or at.map.results 0 x → half ≡ within (value_in e at x) (get_or ns 0 0)
    → cell ≡ cell_in (drop 1 ns) (map (value_in e at) (drop 1 at.map.results)) → fast_at number half cell ≡ half_place number ns (results_of e at)
half_is number ns e at x half cell h l is p q =
    (λ i. fast_at number (p i) (q i)) ∙ sym (λ i. half_place number (split_sizes ns h i) (results_are e at x l is i))

pub ruleset cells = (all_valued, room_is)

pub ruleset places = (slow_stands, fast_stands, slow_place, slow_outside, fast_place, tags_place, no_place, few)

pub ruleset tags = (tags_stand, tag_there, tag_outside, tag_slow, tag_fast, tag_none, few)

pub few_memref : (home : Option meaning.Home) (ty : MemrefType) → IsMemref home ty → product ty.sizes < 2 ^ 32
few_memref home ty h = few_of home ty h.stands
