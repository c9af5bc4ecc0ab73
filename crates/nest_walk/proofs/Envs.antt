-- What is known behind statements, and a table that is written and put back.
use Rattle.std.proofs.Common.{◌≡◌, ℕ, ◌+◌, ℤ, List, refl, ap, ◌∙◌, arith, Bool, true, false}
use mathlib.Core.Path.{fun_ext}
use Rattle.std.specs.Prelude.{Option, if◌then◌else◌}
use Rattle.affine_ast.specs.declared.name.Name.{Name}
use Rattle.affine_ast.specs.declared.types.Bound.{Bound}
use Rattle.affine_expr.specs.declared.map.Set.{Set}
use Rattle.affine_ast.specs.declared.types.Scalar.{Scalar}
use Rattle.affine_ast.specs.declared.types.Scalar.TheVariants.{Int, Index}
use Rattle.affine_ast.specs.declared.types.MemrefType.{MemrefType}
use Rattle.affine_ast.specs.Names.{same_name, put}
use Rattle.affine_ast.proofs.Names.{same_name-eq}
use Rattle.affine_ast.specs.Nest.{Plain, Nest, Nothing, Loop, Branch, Does, Value, Load, Store, RawLoad, RawStore, Constant, Binary, Cast, Alloc, Dealloc, Start, Wait, Return}
use Rattle.direct_meaning.specs.Action.{Home}
use Rattle.direct_meaning.specs.Static.{Env, product}
use Rattle.direct_meaning.specs.Actions.{is_fast, after_plain, after_alloc, after_constant, fasts_of_plain, tags_of_plain, fasts_in, tags_in, behind}
use Rattle.walk_program.specs.declared.statement.Counts.{Counts}
use Rattle.walk_program.specs.Counted.{CountsOf}
use Rattle.walk_actions.specs.Looked.{with_known, with_home}
use Rattle.nest_walk.specs.Jobs.{past, at_numbers}

-- what was there is put back
pub put_back : {A : Type 0} (f : Name → A) (n : Name) (v : A) → put (put f n v) n (f n) ≡ f
unfolding put
put_back f n v = fun_ext (λ x. by_test x (same_name n x) refl)
  where
    by_test : (x : Name) (t : Bool) → same_name n x ≡ t → (if same_name n x then f n else (if same_name n x then v else f x)) ≡ f x
    by_test x true e = rw e (ap f (same_name-eq n x e))
    by_test x false e = rw e refl

pub put_same : {A : Type 0} (f : Name → A) (n : Name) (v : A) → v ≡ f n → put f n v ≡ f
unfolding put
put_same f n v h = fun_ext (λ x. by_test x (same_name n x) refl)
  where
    by_test : (x : Name) (t : Bool) → same_name n x ≡ t → (if same_name n x then v else f x) ≡ f x
    by_test x true e = rw e (h ∙ ap f (same_name-eq n x e))
    by_test x false e = rw e refl

-- the later number counts
pub put_twice : {A : Type 0} (f : Name → A) (n : Name) (v w : A) → put (put f n v) n w ≡ put f n w
unfolding put
put_twice f n v w = fun_ext (λ x. by_test x (same_name n x) refl)
  where
    by_test : (x : Name) (t : Bool) → same_name n x ≡ t → (if same_name n x then w else (if same_name n x then v else f x)) ≡ (if same_name n x then w else f x)
    by_test x true e = rw e refl
    by_test x false e = rw e refl

pub known_back : (e : Env) (n : Name) (z : Option ℤ) (f t : ℕ) → with_known n (e.known n) (at_numbers f t (with_known n z e)) ≡ at_numbers f t e
known_back e n z f t = λ i. record { known = put_back e.known n z i; home = e.home; fasts = f; tags = t }

pub known_same : (e : Env) (n : Name) (z : Option ℤ) → z ≡ e.known n → with_known n z e ≡ e
known_same e n z h = λ i. record { known = put_same e.known n z h i; home = e.home; fasts = e.fasts; tags = e.tags }

pub home_back : (e : Env) (n : Name) (home before : Option Home) (f t : ℕ) → before ≡ e.home n → with_home n before (at_numbers f t (with_home n home e)) ≡ at_numbers f t e
home_back e n home before f t h = λ i. record { known = e.known; home = (ap (put (put e.home n home) n) h ∙ put_back e.home n home) i; fasts = f; tags = t }

pub env_is : (e : Env) (f t : ℕ) → f ≡ e.fasts → t ≡ e.tags → at_numbers f t e ≡ e
env_is e f t p q = λ i. record { known = e.known; home = e.home; fasts = p i; tags = q i }

counts_are : (e : Env) (f t g u : ℕ) → f ≡ g → t ≡ u → at_numbers f t e ≡ at_numbers g u e
counts_are e f t g u p q = λ i. at_numbers (p i) (q i) e

pub past_zero : (c : Counts) (e : Env) → c.fasts ≡ 0 → c.tags ≡ 0 → past c e ≡ e
past_zero c e p q = env_is e (e.fasts + c.fasts) (e.tags + c.tags) (omega (arith, p)) (omega (arith, q))

pub past_is : (c : Counts) (region : Nest) (e : Env) → CountsOf region c → past c e ≡ behind region e
past_is c region e h = λ i. at_numbers (e.fasts + h.fasts i) (e.tags + h.tags i) e

pub behind_nothing : (e : Env) → behind Nothing e ≡ e
behind_nothing e = env_is e (e.fasts + 0) (e.tags + 0) (omega arith) (omega arith)

pub behind_loop : (line : ℕ) (v : Name) (l u : Bound) (s : ℤ) (body rest : Nest) (e : Env) → behind rest (behind body e) ≡ behind (Loop line v l u s body rest) e
behind_loop line v l u s body rest e = counts_are e (e.fasts + fasts_in body + fasts_in rest) (e.tags + tags_in body + tags_in rest) (e.fasts + (fasts_in body + fasts_in rest)) (e.tags + (tags_in body + tags_in rest)) (omega arith) (omega arith)

pub behind_branch : (line : ℕ) (set : Set) (names : List Name) (first : Nest) (has : Bool) (other rest : Nest) (e : Env) → behind rest (behind other (behind first e)) ≡ behind (Branch line set names first has other rest) e
behind_branch line set names first has other rest e =
    counts_are e (e.fasts + fasts_in first + fasts_in other + fasts_in rest) (e.tags + tags_in first + tags_in other + tags_in rest)
    (e.fasts + (fasts_in first + fasts_in other + fasts_in rest)) (e.tags + (tags_in first + tags_in other + tags_in rest)) (omega arith) (omega arith)

-- what a plain statement allocates
alloc_fasts : (t : Bool) (r : Name) (ty : MemrefType) (e : Env) → is_fast ty ≡ t → (after_alloc r ty e).fasts ≡ e.fasts + (if is_fast ty then 1 else 0)
alloc_fasts true r ty e h = rw h (omega arith)
alloc_fasts false r ty e h = rw h (omega arith)

alloc_tags : (t : Bool) (r : Name) (ty : MemrefType) (e : Env) → is_fast ty ≡ t → (after_alloc r ty e).tags ≡ e.tags + (if is_fast ty then 0 else product ty.sizes)
alloc_tags true r ty e h = rw h (omega arith)
alloc_tags false r ty e h = rw h refl

none : (n : ℕ) → n ≡ n + 0
none n = omega arith

constant_fasts : (r : Name) (z : ℤ) (ty : Scalar) (e : Env) → (after_constant r z ty e).fasts ≡ e.fasts + 0
constant_fasts r z (Int element) e = none e.fasts
constant_fasts r z Index e = none e.fasts

constant_tags : (r : Name) (z : ℤ) (ty : Scalar) (e : Env) → (after_constant r z ty e).tags ≡ e.tags + 0
constant_tags r z (Int element) e = none e.tags
constant_tags r z Index e = none e.tags

pub fasts_after : (p : Plain) (e : Env) → (after_plain p e).fasts ≡ e.fasts + fasts_of_plain p
unfolding after_plain
fasts_after (Value r pick at) e = none e.fasts
fasts_after (Load r m at ty) e = none e.fasts
fasts_after (Store x m at ty) e = none e.fasts
fasts_after (RawLoad r m at ty) e = none e.fasts
fasts_after (RawStore x m at ty) e = none e.fasts
fasts_after (Constant r z ty) e = constant_fasts r z ty e
fasts_after (Binary r op a b ty) e = none e.fasts
fasts_after (Cast r kind x from to) e = none e.fasts
fasts_after (Alloc r ty) e = alloc_fasts (is_fast ty) r ty e refl
fasts_after (Dealloc m ty) e = none e.fasts
fasts_after (Start a a_at b b_at t t_at n stride types) e = none e.fasts
fasts_after (Wait t at n ty) e = none e.fasts
fasts_after Return e = none e.fasts

pub tags_after : (p : Plain) (e : Env) → (after_plain p e).tags ≡ e.tags + tags_of_plain p
unfolding after_plain
tags_after (Value r pick at) e = none e.tags
tags_after (Load r m at ty) e = none e.tags
tags_after (Store x m at ty) e = none e.tags
tags_after (RawLoad r m at ty) e = none e.tags
tags_after (RawStore x m at ty) e = none e.tags
tags_after (Constant r z ty) e = constant_tags r z ty e
tags_after (Binary r op a b ty) e = none e.tags
tags_after (Cast r kind x from to) e = none e.tags
tags_after (Alloc r ty) e = alloc_tags (is_fast ty) r ty e refl
tags_after (Dealloc m ty) e = none e.tags
tags_after (Start a a_at b b_at t t_at n stride types) e = none e.tags
tags_after (Wait t at n ty) e = none e.tags
tags_after Return e = none e.tags

-- behind a plain statement and the rest, by the counts alone
pub behind_does : (line : ℕ) (p : Plain) (rest : Nest) (e : Env)
    → at_numbers ((after_plain p e).fasts + fasts_in rest) ((after_plain p e).tags + tags_in rest) e ≡ behind (Does line p rest) e
behind_does line p rest e = counts_are e ((after_plain p e).fasts + fasts_in rest) ((after_plain p e).tags + tags_in rest) (e.fasts + (fasts_of_plain p + fasts_in rest)) (e.tags + (tags_of_plain p + tags_in rest))
    (omega (arith, fasts_after p e)) (omega (arith, tags_after p e))
