-- Texts without allocations and transfers.
use Rattle.std.proofs.Common.{◌≡◌, ℕ, suc, ℤ, List, [], ◌∷◌, Option, Some, None, refl, sym, subst, Bool, true, false}
use Rattle.std.specs.Prelude.{◌&&◌, fold, nat_le, if◌then◌else◌}
use Rattle.affine_ast.specs.declared.module.Arg.{Arg}
use Rattle.affine_ast.specs.declared.module.ArgKind.{ArgKind}
use Rattle.affine_ast.specs.declared.module.ArgKind.TheVariants as kind
use Rattle.affine_ast.specs.declared.module.Module.{Module}
use Rattle.affine_ast.specs.declared.name.Name.{Name}
use Rattle.affine_ast.specs.declared.types.Scalar.{Scalar}
use Rattle.affine_ast.specs.declared.types.Scalar.TheVariants as scalar
use Rattle.affine_ast.specs.Names.{same_name, put}
use Rattle.affine_ast.proofs.Names.{put-same, put-other}
use Rattle.affine_ast.specs.Nest.{Plain, Nest, Nothing, Loop, Branch, Does, Value, Load, Store, RawLoad, RawStore, Constant, Binary, Cast, Alloc, Dealloc, Start, Wait, Return, nest}
use Rattle.affine_ast.specs.PlainLimits.{bound_short, set_short, plain_stands, PlainTold, FaultAt, Counted, then_plain, plain_judged, plain_told, line_of_fault, plain_fault}
use Rattle.direct_meaning.specs.Action.{Home, SlowMemref, FastMemref, TagMemref}
use Rattle.direct_meaning.specs.Actions.{constant_of, action_of, after_plain, behind}
use Rattle.direct_meaning.specs.Memory.{Placed, place_kind, place_arg, empty_env, start_env}
use Rattle.direct_meaning.specs.Static.{Env, knows, cell_in, results_of, slow_at, place_at, place_of, lower_of, upper_of}
use Rattle.direct_meaning.specs.Turns.{turns}
use Rattle.boxes.specs.Every.{Every}
use Rattle.box_run_laws.specs.Plain.{NotFast, NotFastHome, IsPlain}
use Rattle.placement_texts.specs.Each.{Each}
use Rattle.placement_texts.specs.Fold.{IsSlow}
use Rattle.placement_texts.specs.OneTag.{InText, TagIsOne}
use Rattle.placement_texts.proofs.Inner.{each_action}
use Rattle.staging_laws.specs.Spared.{WaitedFor}
use Rattle.plain_inputs.specs.Law.{StartsAreSlow, InputsArePlain, InputsAreQuiet}

-- ---- what the rule says of each statement
abbrev pub Stands : Plain → Type 0
Stands q = plain_stands q ≡ true

judged_counted : (line loops count : ℕ) (holds : Bool) (more : PlainTold) (k : ℕ) → plain_judged line loops count holds more ≡ Counted k → (holds ≡ true) × (more ≡ Counted k)
judged_counted line loops count true more k h = (refl, by (nat_le count 4096 && nat_le loops 8) h)
  where
    by : (t : Bool) → (if t then more else FaultAt line) ≡ Counted k → more ≡ Counted k
    by true h = h
    by false h = absurd (let z : ⊥ = cc in z)
judged_counted line loops count false more k h = absurd (let z : ⊥ = cc in z)

then_counted : (first : PlainTold) (more : ℕ → PlainTold) (k : ℕ) → then_plain first more ≡ Counted k → (j : ℕ) × (first ≡ Counted j) × (more j ≡ Counted k)
then_counted (FaultAt line) more k h = absurd (let z : ⊥ = cc in z)
then_counted (Counted j) more k h = (j, refl, h)

counted_stands : (n : Nest) (loops count k : ℕ) → plain_told n loops count ≡ Counted k → InText Stands n
unfolding plain_told
counted_stands Nothing loops count k h = tt
counted_stands (Loop line v l u s body rest) loops count k h =
    let j = judged_counted line loops (suc count) (bound_short l && bound_short u) _ k h in
    let b = then_counted (plain_told body (suc loops) (suc count)) (plain_told rest loops) k j.1 in
    (counted_stands body (suc loops) (suc count) b.0 b.1, counted_stands rest loops b.0 k b.2)
counted_stands (Branch line set names first has other rest) loops count k h =
    let j = judged_counted line loops (suc count) (set_short set) _ k h in
    let a = then_counted (plain_told first loops (suc count)) (λ n. then_plain (plain_told other loops n) (plain_told rest loops)) k j.1 in
    let b = then_counted (plain_told other loops a.0) (plain_told rest loops) k a.2 in
    (counted_stands first loops (suc count) a.0 a.1, counted_stands other loops a.0 b.0 b.1, counted_stands rest loops b.0 k b.2)
counted_stands (Does line p rest) loops count k h =
    let j = judged_counted line loops (suc count) (plain_stands p) (plain_told rest loops (suc count)) k h in
    (j.0, counted_stands rest loops (suc count) k j.1)

counted_of : (x : PlainTold) → line_of_fault x ≡ None → (k : ℕ) × (x ≡ Counted k)
counted_of (FaultAt line) h = absurd (let z : ⊥ = cc in z)
counted_of (Counted k) h = (k, refl)

pub input_stands : (m : Module) → plain_fault m ≡ None → InText Stands (nest m.body)
unfolding plain_fault
input_stands m h = let c = counted_of (plain_told (nest m.body) 0 0) h in counted_stands (nest m.body) 0 0 c.0 c.1

-- ---- no transfers
waited : (n : Nest) → InText Stands n → WaitedFor n
waited Nothing h = tt
waited (Loop line v l u s body rest) h = (waited body h.0, waited rest h.1)
waited (Branch line set names first has other rest) h = (waited first h.0, waited other h.1, waited rest h.2)
waited (Does line (Start a a_at b b_at t t_at n stride types) rest) h = absurd (let e = h.0 in let z : ⊥ = cc in z)
waited (Does line (Value r pick at) rest) h = waited rest h.1
waited (Does line (Load r m at ty) rest) h = waited rest h.1
waited (Does line (Store x m at ty) rest) h = waited rest h.1
waited (Does line (RawLoad r m at ty) rest) h = waited rest h.1
waited (Does line (RawStore x m at ty) rest) h = waited rest h.1
waited (Does line (Constant r z ty) rest) h = waited rest h.1
waited (Does line (Binary r op x y ty) rest) h = waited rest h.1
waited (Does line (Cast r kind x from to) rest) h = waited rest h.1
waited (Does line (Alloc r ty) rest) h = waited rest h.1
waited (Does line (Dealloc m ty) rest) h = waited rest h.1
waited (Does line (Wait t at n ty) rest) h = waited rest h.1
waited (Does line Return rest) h = waited rest h.1

one_tag : (q : Plain) → Stands q → TagIsOne q
one_tag (Start a a_at b b_at t t_at n stride types) h = absurd (let z : ⊥ = cc in z)
one_tag (Wait t at n ty) h = absurd (let z : ⊥ = cc in z)
one_tag (Value r pick at) h = tt
one_tag (Load r m at ty) h = tt
one_tag (Store x m at ty) h = tt
one_tag (RawLoad r m at ty) h = tt
one_tag (RawStore x m at ty) h = tt
one_tag (Constant r z ty) h = tt
one_tag (Binary r op x y ty) h = tt
one_tag (Cast r kind x from to) h = tt
one_tag (Alloc r ty) h = tt
one_tag (Dealloc m ty) h = tt
one_tag Return h = tt

-- ---- of each statement by itself, another fact
pub in_text : (P Q : Plain → Type 0) → ((q : Plain) → P q → Q q) → (n : Nest) → InText P n → InText Q n
in_text P Q f Nothing h = tt
in_text P Q f (Loop line v l u s body rest) h = (in_text P Q f body h.0, in_text P Q f rest h.1)
in_text P Q f (Branch line set names first has other rest) h = (in_text P Q f first h.0, in_text P Q f other h.1, in_text P Q f rest h.2)
in_text P Q f (Does line q rest) h = (f q h.0, in_text P Q f rest h.1)

pub inputs_are_quiet : InputsAreQuiet
inputs_are_quiet m h = let s = input_stands m h in (waited (nest m.body) s, in_text Stands TagIsOne one_tag (nest m.body) s)

-- ---- memrefs in slow memory
abbrev AllSlow : Env → Type 0
AllSlow e = (n : Name) → IsSlow (e.home n)

home_kept : (q : Plain) (e : Env) → Stands q → (after_plain q e).home ≡ e.home
unfolding after_plain
home_kept (Value r pick at) e h = refl
home_kept (Load r m at ty) e h = refl
home_kept (Store x m at ty) e h = refl
home_kept (RawLoad r m at ty) e h = refl
home_kept (RawStore x m at ty) e h = refl
home_kept (Constant r z (scalar.Int element)) e h = refl
home_kept (Constant r z scalar.Index) e h = refl
home_kept (Binary r op x y ty) e h = refl
home_kept (Cast r kind x from to) e h = refl
home_kept (Alloc r ty) e h = absurd (let z : ⊥ = cc in z)
home_kept (Dealloc m ty) e h = refl
home_kept (Start a a_at b b_at t t_at n stride types) e h = refl
home_kept (Wait t at n ty) e h = refl
home_kept Return e h = refl

abbrev P : Plain → Env → Type 0
P q e = Stands q × AllSlow e

every_one : {A : Type 0} (Q : A → Type 0) → ((x : A) → Q x) → (xs : List A) → Every Q xs
every_one Q h [] = tt
every_one Q h (x ∷ xs) = (h x, every_one Q h xs)

each_slow : (n : Nest) (e : Env) → InText Stands n → AllSlow e → Each P n e
each_slow Nothing e h s = tt
each_slow (Loop line v l u step body rest) e h s =
    (every_one (λ t. Each P body (knows e v t)) (λ t. each_slow body (knows e v t) h.0 s) (turns (lower_of e l) (upper_of e u) step), each_slow rest (behind body e) h.1 s)
each_slow (Branch line set names first has other rest) e h s =
    ((λ t. each_slow first e h.0 s), (λ t. each_slow other (behind first e) h.1 s), each_slow rest (behind other (behind first e)) h.2 s)
each_slow (Does line q rest) e h s = ((h.0, s), each_slow rest (after_plain q e) h.1 (subst (λ home. (n : Name) → IsSlow (home n)) (sym (home_kept q e h.0)) s))

slow_place : (first : ℕ) (o : Option ℕ) → NotFast (slow_at first o)
slow_place first (Some k) = tt
slow_place first None = tt

not_fast : (h : Option Home) (sizes : List ℕ) (zs : List ℤ) → IsSlow h → NotFast (place_at h sizes zs)
not_fast None sizes zs s = tt
not_fast (Some (SlowMemref number first)) sizes zs s = slow_place first (cell_in sizes zs)
not_fast (Some (FastMemref number)) sizes zs s = absurd s
not_fast (Some (TagMemref first)) sizes zs s = absurd s

not_fast_home : (h : Option Home) → IsSlow h → NotFastHome h
not_fast_home None s = tt
not_fast_home (Some (SlowMemref number first)) s = tt
not_fast_home (Some (FastMemref number)) s = absurd s
not_fast_home (Some (TagMemref first)) s = absurd s

plain_constant : (r : Name) (z : ℤ) (ty : Scalar) → IsPlain (constant_of r z ty)
plain_constant r z (scalar.Int element) = tt
plain_constant r z scalar.Index = tt

one_plain : (q : Plain) (e : Env) → P q e → IsPlain (action_of q e)
unfolding action_of place_of
one_plain (Value r pick at) e h = tt
one_plain (Load r m at ty) e h = not_fast (e.home m) ty.sizes (results_of e at) (h.1 m)
one_plain (Store x m at ty) e h = not_fast (e.home m) ty.sizes (results_of e at) (h.1 m)
one_plain (RawLoad r m at ty) e h = not_fast_home (e.home m) (h.1 m)
one_plain (RawStore x m at ty) e h = not_fast_home (e.home m) (h.1 m)
one_plain (Constant r z ty) e h = plain_constant r z ty
one_plain (Binary r op x y ty) e h = tt
one_plain (Cast r kind x from to) e h = tt
one_plain (Alloc r ty) e h = absurd (let k = h.0 in let z : ⊥ = cc in z)
one_plain (Dealloc m ty) e h = absurd (let k = h.0 in let z : ⊥ = cc in z)
one_plain (Start a a_at b b_at t t_at n stride types) e h = absurd (let k = h.0 in let z : ⊥ = cc in z)
one_plain (Wait t at n ty) e h = absurd (let k = h.0 in let z : ⊥ = cc in z)
one_plain Return e h = tt

-- ---- the start
placed_slow : (k : ArgKind) (name : Name) (p : Placed) → AllSlow p.env → AllSlow (place_kind k name p).env
placed_slow (kind.Memref ty) name p h n = by (same_name name n) refl
  where
    by : (t : Bool) → same_name name n ≡ t → IsSlow (put p.env.home name (Some (SlowMemref p.memrefs p.elements)) n)
    by true e = subst IsSlow (sym (put-same p.env.home name (Some (SlowMemref p.memrefs p.elements)) n e)) tt
    by false e = subst IsSlow (sym (put-other p.env.home name (Some (SlowMemref p.memrefs p.elements)) n e)) (h n)
placed_slow (kind.Index range) name p h n = h n

all_placed : (args : List Arg) (p : Placed) → AllSlow p.env → AllSlow (fold place_arg p args).env
all_placed [] p h = h
all_placed (arg ∷ args) p h = all_placed args (place_kind arg.kind arg.name p) (placed_slow arg.kind arg.name p h)

pub starts_are_slow : StartsAreSlow
unfolding start_env
starts_are_slow args symbols n = all_placed args (record { env = empty_env; memrefs = 0; elements = 0; symbols = symbols }) (λ n. tt) n

pub inputs_are_plain : InputsArePlain
inputs_are_plain m h symbols =
    each_action P IsPlain one_plain (nest m.body) (start_env m.args symbols) (each_slow (nest m.body) (start_env m.args symbols) (input_stands m h) (λ n. starts_are_slow m.args symbols n))
