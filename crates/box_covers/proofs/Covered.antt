-- Where a box is covered each of its elements is stored to.
use Rattle.std.proofs.Common.{◌≡◌, ℕ, zero, suc, ◌+◌, ◌-◌, ◌<◌, ◌≤◌, Bool, true, false, cond, ◌&&◌, List, [], ◌∷◌, ◌++◌, map, drop, length, get_or, Option, Some, None, Result, Ok, Err, ℤ, pos, refl, sym, ◌∙◌, ap, subst, arith, append_assoc, append-nil, length-append}
use Rattle.std.specs.Prelude.{not, nat_eq, ◌||◌}
use Rattle.std.proofs.lemmas.Bool.{and_parts, eqb-true, eq-eqb}
use Rattle.constraint_set.specs.Lists.{Each}
use Rattle.constraint_set.proofs.Steps.{Each-append, Each-weaken}
use Rattle.affine_expr.specs.declared.linear.LinearFault.{LinearFault}
use Rattle.affine_expr.specs.Forms.{Form, with_locals}
use Rattle.affine_expr.specs.Linear.{◌>>=◌, variable_form}
use Rattle.affine_expr.proofs.FormValues.{Gives, variable_worth}
use Rattle.affine_expr.proofs.Meaning.{Is, Are}
use Rattle.affine_ast.specs.declared.image.Cells.{Cells}
use Rattle.affine_ast.specs.declared.image.Image.{Image}
use Rattle.affine_ast.specs.declared.module.Arg.{Arg}
use Rattle.affine_ast.specs.declared.module.Module.{Module}
use Rattle.affine_ast.specs.declared.name.Name.{Name}
use Rattle.affine_ast.specs.declared.types.Access.{Access}
use Rattle.affine_ast.specs.declared.types.Bound.{Bound}
use Rattle.affine_ast.specs.Nest.{Plain, Nest, Nothing, Loop, Branch, Does, Value, Load, Store, RawLoad, RawStore, Constant, Binary, Cast, Alloc, Dealloc, Start, Wait, Return, nest}
use Rattle.affine_ast.specs.Validity.{IsValid}
use Rattle.direct_meaning.specs.Static.{Env, knows, lower_of, results_of}
use Rattle.direct_meaning.specs.Actions.{after_plain, behind}
use Rattle.direct_meaning.specs.Memory.{FitsArgs, Fits, start_env}
use Rattle.direct_meaning.specs.Pure.{AffineNest}
use Rattle.valid_laws.proofs.Passing.{valid_affine}
use Rattle.nest_domain.specs.Ways.{Header, Round, Given, Except, Behind, Past, Use, Affine, Other, if_named, use_of, uses, loop_count, at_path}
use Rattle.nest_domain.specs.Forms.{Formed}
use Rattle.nest_domain.specs.Domains.{Going, map_forms, symbol_count}
use Rattle.nest_domain.specs.Visits.{Visits}
use Rattle.nest_domain.specs.Boxes.{Dimension, AllIn, AreOver}
use Rattle.nest_domain.proofs.Walks.{AffineWay, map_gives}
use Rattle.nest_domain.proofs.Places.{fits_length, visits_length}
use Rattle.nest_domain.proofs.Alongs.{path_affine}
use Rattle.nest_domain.proofs.Rowed.{AllGood, grows}
use Rattle.nest_domain.proofs.Sweeps.{wanted, chosen, arrived, Unconditional, Parts}
use Rattle.nest_domain.proofs.Among.{FoundIn, stores_found}
use Rattle.box_covers.specs.Traced.{Traced, Swept, traced, goings, with_subscripts, swept}
use Rattle.box_covers.specs.Covers.{unconditional, is_variable, variable_from, has_number, with_variable, variables_of, are_distinct, swept_by, all_swept, others_pass, sweep_all, covers_from, traced_at, covers}
use Rattle.box_covers.specs.Law.{loop_uses, CoveredIsSwept}
use Rattle.box_covers.proofs.Covering.{same_worth, want_of, wants, parts_from}
use Rattle.box_covers.proofs.Tracing.{TracedIn, along_in, arrives_in}
use Rattle.box_covers.proofs.Turning.{goings_long, turns_are_there}

answer : {A : Type 0} (w : Result A LinearFault) (x : A) (P : A → Type 0) → w ≡ Ok x → Gives w P → P x
answer w x P e h = subst (λ v. Gives v P) e h

-- ---- the ways of accesses behind a way
pub record AffineBehind (acc there : List Header) : Type 0 where
  pub inner : List Header
  pub way : there ≡ acc ++ inner
  pub affine : AffineWay inner

abbrev IsBehind : List Header → Use → Type 0
IsBehind acc (Affine there stores at) = AffineBehind acc there
IsBehind acc Other = Unit {0}

longer : (acc : List Header) (h : Header) → ((hs : List Header) → AffineWay hs → AffineWay (h ∷ hs)) → (us : List Use) → Each (IsBehind (acc ++ h ∷ [])) us → Each (IsBehind acc) us
longer acc h grow us k = Each-weaken (IsBehind (acc ++ h ∷ [])) (IsBehind acc) one us k
  where
    one : (u : Use) → IsBehind (acc ++ h ∷ []) u → IsBehind acc u
    one (Affine there stores at) s = record { inner = h ∷ s.inner; way = s.way ∙ append_assoc acc (h ∷ []) s.inner; affine = grow s.inner s.affine }
    one Other s = tt

module _ (name : Name) where
  if_behind : (acc : List Header) (m : Name) (u : Use) → IsBehind acc u → Each (IsBehind acc) (if_named name m u)
  if_behind acc m u k = by (Rattle.affine_ast.specs.Names.same_name name m)
    where
      by : (b : Bool) → Each (IsBehind acc) (cond b (u ∷ []) [])
      by true = (k, tt)
      by false = tt

  here : (acc : List Header) → AffineBehind acc acc
  here acc = record { inner = []; way = sym (append-nil acc); affine = tt }

  own_behind : (p : Plain) (acc : List Header) → Each (IsBehind acc) (use_of name p acc)
  own_behind (Value r pick at) acc = tt
  own_behind (Load r n at ty) acc = if_behind acc n (Affine acc false at) (here acc)
  own_behind (Store x n at ty) acc = if_behind acc n (Affine acc true at) (here acc)
  own_behind (RawLoad r n at ty) acc = if_behind acc n Other tt
  own_behind (RawStore x n at ty) acc = if_behind acc n Other tt
  own_behind (Constant r z ty) acc = tt
  own_behind (Binary r op x y ty) acc = tt
  own_behind (Cast r kind x from to) acc = tt
  own_behind (Alloc r ty) acc = tt
  own_behind (Dealloc n ty) acc = if_behind acc n Other tt
  own_behind (Start x x_at y y_at t t_at n stride types) acc =
      Each-append (IsBehind acc) (if_named name x Other) (if_named name y Other ++ if_named name t Other) (if_behind acc x Other tt)
      (Each-append (IsBehind acc) (if_named name y Other) (if_named name t Other) (if_behind acc y Other tt) (if_behind acc t Other tt))
  own_behind (Wait t at n ty) acc = if_behind acc t Other tt
  own_behind Return acc = tt

  uses_behind : (n : Nest) (acc : List Header) → AffineNest n → Each (IsBehind acc) (uses name n acc)
  unfolding uses
  uses_behind Nothing acc a = tt
  uses_behind (Loop line v l u s body rest) acc a =
      Each-append (IsBehind acc) (uses name body (acc ++ Round v l u s ∷ [])) (uses name rest (acc ++ Past body ∷ []))
      (longer acc (Round v l u s) (λ hs k. (a.0, a.1, a.2, k)) (uses name body (acc ++ Round v l u s ∷ [])) (uses_behind body (acc ++ Round v l u s ∷ []) a.3))
      (longer acc (Past body) (λ hs k. k) (uses name rest (acc ++ Past body ∷ [])) (uses_behind rest (acc ++ Past body ∷ []) a.4))
  uses_behind (Branch line set names first has other rest) acc a =
      Each-append (IsBehind acc) (uses name first (acc ++ Given set names ∷ [])) (uses name other (acc ++ Except set names first ∷ []) ++ uses name rest ((acc ++ Past first ∷ []) ++ Past other ∷ []))
      (longer acc (Given set names) (λ hs k. k) (uses name first (acc ++ Given set names ∷ [])) (uses_behind first (acc ++ Given set names ∷ []) a.0))
      (Each-append (IsBehind acc) (uses name other (acc ++ Except set names first ∷ [])) (uses name rest ((acc ++ Past first ∷ []) ++ Past other ∷ []))
      (longer acc (Except set names first) (λ hs k. k) (uses name other (acc ++ Except set names first ∷ [])) (uses_behind other (acc ++ Except set names first ∷ []) a.1))
      (longer acc (Past first) (λ hs k. k) (uses name rest ((acc ++ Past first ∷ []) ++ Past other ∷ [])) (longer (acc ++ Past first ∷ []) (Past other) (λ hs k. k) (uses name rest ((acc ++ Past first ∷ []) ++ Past other ∷ [])) (uses_behind rest ((acc ++ Past first ∷ []) ++ Past other ∷ []) a.2))))
  uses_behind (Does line p rest) acc a =
      Each-append (IsBehind acc) (use_of name p acc) (uses name rest (acc ++ Behind p ∷ [])) (own_behind p acc)
      (longer acc (Behind p) (λ hs k. (a.0, k)) (uses name rest (acc ++ Behind p ∷ [])) (uses_behind rest (acc ++ Behind p ∷ []) a.1))

drop_front : {A : Type 0} (xs ys : List A) → drop (length xs) (xs ++ ys) ≡ ys
drop_front [] ys = refl
drop_front (x ∷ xs) ys = drop_front xs ys

unconditional_is : (hs : List Header) → unconditional hs ≡ true → Unconditional hs
unconditional_is [] h = tt
unconditional_is (Round v l u s ∷ hs) h = unconditional_is hs h
unconditional_is (Given set names ∷ hs) h = absurd (let z : ⊥ = cc in z)
unconditional_is (Except set names first ∷ hs) h = absurd (let z : ⊥ = cc in z)
unconditional_is (Behind p ∷ hs) h = unconditional_is hs h
unconditional_is (Past n ∷ hs) h = unconditional_is hs h

-- ---- the turns that are chosen
chosen_long : (hs : List Header) (ws : List (Option ℤ)) (e : Env) → length (chosen hs ws e) ≡ loop_count hs
chosen_long [] ws e = refl
chosen_long (Round v l u s ∷ hs) [] e = ap suc (chosen_long hs [] (knows e v (lower_of e l)))
chosen_long (Round v l u s ∷ hs) (w ∷ ws) e = ap suc (chosen_long hs ws (knows e v (wanted w (lower_of e l))))
chosen_long (Given set names ∷ hs) ws e = chosen_long hs ws e
chosen_long (Except set names first ∷ hs) ws e = chosen_long hs ws (behind first e)
chosen_long (Behind p ∷ hs) ws e = chosen_long hs ws (after_plain p e)
chosen_long (Past n ∷ hs) ws e = chosen_long hs ws (behind n e)

chosen_at : (hs : List Header) (ws : List (Option ℤ)) (e : Env) (i : ℕ) (x : ℤ) → i < loop_count hs → get_or ws i None ≡ Some x → get_or (chosen hs ws e) i (pos 0) ≡ x
chosen_at [] ws e i x h w = absurd (omega (arith, h))
chosen_at (Round v l u s ∷ hs) [] e i x h w = absurd (let z : ⊥ = cc in z)
chosen_at (Round v l u s ∷ hs) (o ∷ ws) e zero x h w = ap (λ p. wanted p (lower_of e l)) w
chosen_at (Round v l u s ∷ hs) (o ∷ ws) e (suc i) x h w = chosen_at hs ws (knows e v (wanted o (lower_of e l))) i x (omega (arith, h)) w
chosen_at (Given set names ∷ hs) ws e i x h w = chosen_at hs ws e i x h w
chosen_at (Except set names first ∷ hs) ws e i x h w = chosen_at hs ws (behind first e) i x h w
chosen_at (Behind p ∷ hs) ws e i x h w = chosen_at hs ws (after_plain p e) i x h w
chosen_at (Past n ∷ hs) ws e i x h w = chosen_at hs ws (behind n e) i x h w

wants_at : (j n : ℕ) (js : List ℕ) (xs : List ℤ) (i : ℕ) → i < n → get_or (wants j n js xs) i None ≡ want_of (j + i) js xs
unfolding wants
wants_at j zero js xs i h = absurd (omega (arith, h))
wants_at j (suc n) js xs zero h = ap (λ k. want_of k js xs) (omega arith)
wants_at j (suc n) js xs (suc i) h = wants_at (suc j) n js xs i (omega (arith, h)) ∙ ap (λ k. want_of k js xs) (next j i)
  where
    next : (j i : ℕ) → suc j + i ≡ j + suc i
    next j i = omega arith

want_has : (j : ℕ) (js : List ℕ) (xs : List ℤ) (x : ℤ) → want_of j js xs ≡ Some x → has_number j js ≡ true
unfolding want_of
want_has j [] xs x h = absurd (let z : ⊥ = cc in z)
want_has j (k ∷ ks) [] x h = absurd (let z : ⊥ = cc in z)
want_has j (k ∷ ks) (y ∷ ys) x h = by (nat_eq j k) h (λ e. want_has j ks ys x e)
  where
    by : (b : Bool) → cond b (Some y) (want_of j ks ys) ≡ Some x → (want_of j ks ys ≡ Some x → has_number j ks ≡ true) → (b || has_number j ks) ≡ true
    by true e more = refl
    by false e more = more e

same_number : (k : ℕ) → nat_eq k k ≡ true
same_number k = eq-eqb k k refl

-- the numbers that are wanted of distinct variables are those wanted
all_wanted : (js : List ℕ) (xs : List ℤ) (V : ℕ → ℤ) → are_distinct js ≡ true → length js ≡ length xs → ((j : ℕ) (x : ℤ) → want_of j js xs ≡ Some x → V j ≡ x) → map V js ≡ xs
unfolding want_of
all_wanted [] [] V d l h = refl
all_wanted [] (x ∷ xs) V d l h = absurd (omega (arith, l))
all_wanted (k ∷ ks) [] V d l h = absurd (omega (arith, l))
all_wanted (k ∷ ks) (x ∷ xs) V d l h =
    let both = and_parts (not (has_number k ks)) (are_distinct ks) d in
    (λ i. h k x (ap (λ b. cond b (Some x) (want_of k ks xs)) (same_number k)) i ∷ all_wanted ks xs V both.1 (omega (arith, l)) (λ j y w. h j y (skipped j y w both.0)) i)
  where
    skipped : (j : ℕ) (y : ℤ) → want_of j ks xs ≡ Some y → not (has_number k ks) ≡ true → cond (nat_eq j k) (Some x) (want_of j ks xs) ≡ Some y
    skipped j y w n = by (nat_eq j k) refl
      where
        by : (b : Bool) → nat_eq j k ≡ b → cond b (Some x) (want_of j ks xs) ≡ Some y
        by false e = w
        by true e = absurd (let s : j ≡ k = eqb-true j k e in let t : has_number k ks ≡ true = ap (λ m. has_number m ks) (sym s) ∙ want_has j ks xs y w in let u : not true ≡ true = ap not (sym t) ∙ n in let z : ⊥ = cc in z)

-- ---- the variables that the subscripts are
pub record Named (first n : ℕ) (p : List ℤ) (j : ℕ) (v : ℤ) : Type 0 where
  pub low : first ≤ j
  pub high : j < first + n
  pub is : v ≡ get_or p j (pos 0)

variable_named : (n first : ℕ) (m : ℕ) (p : List ℤ) (f : Form) (v : ℤ) (j : ℕ) → Is m p f v → variable_from n first f ≡ Some j → Named first n p j v
variable_named zero first m p f v j i h = absurd (let z : ⊥ = cc in z)
variable_named (suc n) first m p f v j i h = by (is_variable first f) refl h (λ k. variable_named n (suc first) m p f v j i k)
  where
    by : (b : Bool) → is_variable first f ≡ b → cond b (Some first) (variable_from n (suc first) f) ≡ Some j → (variable_from n (suc first) f ≡ Some j → Named (suc first) n p j v) → Named first (suc n) p j v
    by true e h more =
        let s : first ≡ j = cc in
        subst (λ k. Named first (suc n) p k v) s (record {
          low = omega arith;
          high = omega arith;
          is = sym i.same ∙ same_worth f (variable_form (suc first) first) e p ∙ variable_worth (suc first) first p (omega arith);
        })
    by false e h more = let r = more h in record { low = let l = r.low in omega (arith, l); high = let l = r.high in omega (arith, l); is = r.is }

abbrev AllNamed : ℕ → ℕ → List ℤ → List ℕ → List ℤ → Type 0
AllNamed first n p [] [] = Unit {0}
AllNamed first n p [] (v ∷ vs) = ⊥
AllNamed first n p (j ∷ js) [] = ⊥
AllNamed first n p (j ∷ js) (v ∷ vs) = Named first n p j v × AllNamed first n p js vs

variables_named : (n first m : ℕ) (p : List ℤ) (fs : List Form) (vs : List ℤ) (js : List ℕ) → Are m p fs vs → variables_of n first fs ≡ Some js → AllNamed first n p js vs
variables_named n first m p [] [] js a h = subst (λ ks. AllNamed first n p ks []) (let e : [] ≡ js = cc in e) tt
variables_named n first m p [] (v ∷ vs) js a h = absurd a
variables_named n first m p (f ∷ fs) [] js a h = absurd a
variables_named n first m p (f ∷ fs) (v ∷ vs) js a h = by (variable_from n first f) refl (variables_of n first fs) refl h (λ ks g. variables_named n first m p fs vs ks a.1 g)
  where
    by : (w : Option ℕ) → variable_from n first f ≡ w → (ws : Option (List ℕ)) → variables_of n first fs ≡ ws → with_variable w ws ≡ Some js → ((ks : List ℕ) → variables_of n first fs ≡ Some ks → AllNamed first n p ks vs) → AllNamed first n p js (v ∷ vs)
    by None e ws g h more = absurd (let z : ⊥ = cc in z)
    by (Some j) e None g h more = absurd (let z : ⊥ = cc in z)
    by (Some j) e (Some ks) g h more = subst (λ ls. AllNamed first n p ls (v ∷ vs)) (let s : j ∷ ks ≡ js = cc in s) (variable_named n first m p f v j a.0 e, more ks g)

named_values : (first n : ℕ) (p : List ℤ) (js : List ℕ) (vs : List ℤ) → AllNamed first n p js vs → vs ≡ map (λ j. get_or p j (pos 0)) js
named_values first n p [] [] h = refl
named_values first n p [] (v ∷ vs) h = absurd h
named_values first n p (j ∷ js) [] h = absurd h
named_values first n p (j ∷ js) (v ∷ vs) h = λ i. h.0.is i ∷ named_values first n p js vs h.1 i

named_within : (first n : ℕ) (p : List ℤ) (js : List ℕ) (vs : List ℤ) → AllNamed first n p js vs → (j : ℕ) → has_number j js ≡ true → (first ≤ j) × (j < first + n)
named_within first n p [] vs h j k = absurd (let z : ⊥ = cc in z)
named_within first n p (i ∷ js) [] h j k = absurd h
named_within first n p (i ∷ js) (v ∷ vs) h j k = by (nat_eq j i) refl k (λ m. named_within first n p js vs h.1 j m)
  where
    by : (b : Bool) → nat_eq j i ≡ b → (b || has_number j js) ≡ true → (has_number j js ≡ true → (first ≤ j) × (j < first + n)) → (first ≤ j) × (j < first + n)
    by true e k more = let s : j ≡ i = eqb-true j i e in let a = h.0.low in let c = h.0.high in (omega (arith, s, a), omega (arith, s, c))
    by false e k more = more k

-- ---- lists of one length
swept_long : (first : ℕ) (gs : List Going) (ds : List Dimension) (js : List ℕ) → all_swept first gs ds js ≡ true → length ds ≡ length js
swept_long first gs [] [] h = refl
swept_long first gs [] (j ∷ js) h = absurd (let z : ⊥ = cc in z)
swept_long first gs (d ∷ ds) [] h = absurd (let z : ⊥ = cc in z)
swept_long first gs (d ∷ ds) (j ∷ js) h = ap suc (swept_long first gs ds js (and_parts (swept_by d (Rattle.std.specs.Prelude.slice_get gs (j - first))) (all_swept first gs ds js) h).1)

in_long : (ds : List Dimension) (sizes : List ℕ) (os xs : List ℤ) → AllIn ds sizes os xs → length ds ≡ length xs
in_long [] [] os [] h = refl
in_long [] [] os (x ∷ xs) h = absurd h
in_long [] (s ∷ sizes) os xs h = absurd h
in_long (d ∷ ds) [] os xs h = absurd h
in_long (d ∷ ds) (s ∷ sizes) os [] h = absurd h
in_long (d ∷ ds) (s ∷ sizes) os (x ∷ xs) h = ap suc (in_long ds sizes os xs h.2)

get_behind : (os us more : List ℤ) (i : ℕ) → i < length us → get_or (os ++ (us ++ more)) (length os + i) (pos 0) ≡ get_or us i (pos 0)
get_behind os us more i h = skip os ∙ front us i h
  where
    front : (us : List ℤ) (j : ℕ) → j < length us → get_or (us ++ more) j (pos 0) ≡ get_or us j (pos 0)
    front [] j h = absurd (omega (arith, h))
    front (u ∷ us) zero h = refl
    front (u ∷ us) (suc j) h = front us j (omega (arith, h))

    zeroth : (i : ℕ) → 0 + i ≡ i
    zeroth i = omega arith

    further : (n i : ℕ) → suc n + i ≡ suc (n + i)
    further n i = omega arith

    skip : (os : List ℤ) → get_or (os ++ (us ++ more)) (length os + i) (pos 0) ≡ get_or (us ++ more) i (pos 0)
    skip [] = ap (λ m. get_or (us ++ more) m (pos 0)) (zeroth i)
    skip (o ∷ os) = ap (λ m. get_or (o ∷ (os ++ (us ++ more))) m (pos 0)) (further (length os) i) ∙ skip os

-- ---- where the box is come to
-- turns of a way from a visit in which the subscripts are these
pub record Reached (inner : List Header) (at : Access) (xs : List ℤ) (f : Env) : Type 0 where
  pub turns : List ℤ
  pub env : Env
  pub visits : Visits inner f turns env
  pub subscripts : results_of env at ≡ xs

-- the loops and the subscripts of a store, each found
record Found (inner : List Header) (at : Access) (k : Traced) (s : Swept) : Type 0 where
  formed : Formed
  loops : goings inner k ≡ Ok s.goings
  subscripts : map_forms (traced inner k).forms (traced inner k).next at [] ≡ Ok formed
  forms : formed.forms ≡ s.forms

found_of : (inner : List Header) (at : Access) (k : Traced) (s : Swept) → swept inner at k ≡ Ok s → Found inner at k s
found_of inner at k s h = by (goings inner k) refl h
  where
    with_forms : (gs : List Going) → goings inner k ≡ Ok gs → (w : Result Formed LinearFault) → map_forms (traced inner k).forms (traced inner k).next at [] ≡ w → with_subscripts gs w ≡ Ok s → Found inner at k s
    with_forms gs a (Err e) b h = absurd (let z : ⊥ = cc in z)
    with_forms gs a (Ok formed) b h =
        let e : record { goings = gs; forms = formed.forms } ≡ s = cc in
        record { formed = formed; loops = a ∙ ap (λ t. Ok t.goings) e; subscripts = b; forms = ap (λ t. t.forms) e }

    by : (w : Result (List Going) LinearFault) → goings inner k ≡ w → (w >>= (λ gs. with_subscripts gs (map_forms (traced inner k).forms (traced inner k).next at []))) ≡ Ok s → Found inner at k s
    by (Err e) a h = absurd (let z : ⊥ = cc in z)
    by (Ok gs) a h = with_forms gs a (map_forms (traced inner k).forms (traced inner k).next at []) refl h

-- there are as many loops as on the way
pub swept_count : (inner : List Header) (at : Access) (k : Traced) (s : Swept) → swept inner at k ≡ Ok s → length s.goings ≡ loop_count inner
swept_count inner at k s h = goings_long inner k s.goings (found_of inner at k s h).loops

loops_append : (hs ks : List Header) → loop_count (hs ++ ks) ≡ loop_count hs + loop_count ks
loops_append [] ks = sym (none (loop_count ks))
  where
    none : (n : ℕ) → 0 + n ≡ n
    none n = omega arith
loops_append (Round v l u s ∷ hs) ks = ap suc (loops_append hs ks) ∙ further (loop_count hs) (loop_count ks)
  where
    further : (n m : ℕ) → suc (n + m) ≡ suc n + m
    further n m = omega arith
loops_append (Given set names ∷ hs) ks = loops_append hs ks
loops_append (Except set names first ∷ hs) ks = loops_append hs ks
loops_append (Behind p ∷ hs) ks = loops_append hs ks
loops_append (Past n ∷ hs) ks = loops_append hs ks

module _ (args : List Arg) (cells : List Cells) (zs : List ℤ) (fits : FitsArgs args cells zs) (way : List Header) (ts : List ℤ) (f : Env) (visits : Visits way (start_env args zs) ts f) where
  abbrev outer : ℕ
  outer = symbol_count args + loop_count way

  long : length (zs ++ ts) ≡ symbol_count args + loop_count way
  long = omega (arith, length-append zs ts, fits_length args cells zs fits, visits_length way (start_env args zs) ts f visits)

  plus_none : (m : ℕ) → m + 0 ≡ m
  plus_none m = omega arith

  nested : (us more : List ℤ) → (zs ++ (ts ++ us)) ++ more ≡ (zs ++ ts) ++ (us ++ more)
  nested us more = ap (λ x. x ++ more) (sym (append_assoc zs ts us)) ∙ append_assoc (zs ++ ts) us more

  value_at : (inner : List Header) (xs : List ℤ) (j : ℕ) (x : ℤ) (more : List ℤ) (js : List ℕ) (n0 : ℕ) (ws : List (Option ℤ)) (us : List ℤ) → ws ≡ wants outer n0 js xs → us ≡ chosen inner ws f → n0 ≡ loop_count inner → want_of j js xs ≡ Some x → (outer ≤ j) × (j < outer + n0)
      → get_or ((zs ++ (ts ++ us)) ++ more) j (pos 0) ≡ x
  value_at inner xs j x more js n0 ws us we ue loops w r =
      let low = r.0 in
      let high = r.1 in
      let size : length us ≡ loop_count inner = ap length ue ∙ chosen_long inner ws f in
      let there : j ≡ length (zs ++ ts) + (j - outer) = omega (arith, low, long) in
      ap (λ q. get_or q j (pos 0)) (nested us more)
      ∙ ap (λ m. get_or ((zs ++ ts) ++ (us ++ more)) m (pos 0)) there
      ∙ get_behind (zs ++ ts) us more (j - outer) (omega (arith, low, high, size, loops))
      ∙ ap (λ q. get_or q (j - outer) (pos 0)) ue
      ∙ chosen_at inner ws f (j - outer) x (omega (arith, low, high, loops)) (ap (λ q. get_or q (j - outer) None) we ∙ wants_at outer n0 js xs (j - outer) (omega (arith, low, high)) ∙ ap (λ m. want_of m js xs) (back j low) ∙ w)
    where
      back : (j : ℕ) → outer ≤ j → outer + (j - outer) ≡ j
      back j h = omega (arith, h)

  -- what is known at the visit
  abbrev start : List Header → Traced
  start inner = traced_at args way (loop_count (way ++ inner))

  module _ (inner : List Header) (at : Access) (s : Swept) (found : Found inner at (start inner) s) (uncond : Unconditional inner) (js : List ℕ) (variables : variables_of (length s.goings) outer s.forms ≡ Some js)
      (ds : List Dimension) (sizes : List ℕ) (xs : List ℤ) (over : AreOver outer ds) (within : AllIn ds sizes (zs ++ ts) xs) (distinct : are_distinct js ≡ true) (swept_ : all_swept outer s.goings ds js ≡ true) where
    loops : length s.goings ≡ loop_count inner
    loops = goings_long inner (start inner) s.goings found.loops

    abbrev ws : List (Option ℤ)
    ws = wants outer (length s.goings) js xs

    -- in the turns that are chosen the subscripts are those wanted
    are_wanted : (us more : List ℤ) (g : Env) → us ≡ chosen inner ws f → TracedIn ((zs ++ (ts ++ us)) ++ more) [] g.known (traced inner (start inner)) → results_of g at ≡ xs
    are_wanted us more g ue t =
        let k = traced inner (start inner) in
        let p = (zs ++ (ts ++ us)) ++ more in
        let good = answer (map_forms k.forms k.next at []) found.formed (AllGood p k.next t.long [] (results_of g at)) found.subscripts (map_gives p k.next t.long k.forms g t.forms at [] tt) in
        let w = grows p found.formed.locals in
        let q = (zs ++ (ts ++ us)) ++ (more ++ w.0) in
        let n = k.next + length found.formed.locals in
        let here : with_locals p found.formed.locals ≡ q = w.1 ∙ append_assoc (zs ++ (ts ++ us)) more w.0 in
        let are : Are n q s.forms (results_of g at) = subst (λ fs. Are n q fs (results_of g at)) found.forms (subst (λ r. Are n r found.formed.forms (results_of g at)) here good.forms) in
        let named = variables_named (length s.goings) outer n q s.forms (results_of g at) js are variables in
        named_values outer (length s.goings) q js (results_of g at) named
        ∙ all_wanted js xs (λ j. get_or q j (pos 0)) distinct (sym (swept_long outer s.goings ds js swept_) ∙ in_long ds sizes (zs ++ ts) xs within) (λ j x w2.
        value_at inner xs j x (more ++ w.0) js (length s.goings) ws us refl ue loops w2 (named_within outer (length s.goings) q js (results_of g at) named j (want_has j js xs x w2)))

    reached_by : others_pass outer s.goings js ≡ true → Reached inner at xs f
    reached_by others =
        let os = zs ++ ts in
        let us = chosen inner ws f in
        let g = arrived inner ws f in
        let p = zs ++ (ts ++ us) in
        let parts : Parts os s.goings ws = subst (λ m. Parts os s.goings (wants m (length s.goings) js xs)) (plus_none outer)
        (parts_from os outer s.goings js ds sizes xs swept_ within (subst (λ m. AreOver m ds) (sym long) over) [] s.goings refl (subst (λ m. others_pass m s.goings js ≡ true) (sym (plus_none outer)) others)) in
        let count : loop_count (way ++ inner) ≡ loop_count way + length us = omega (arith, loops_append way inner, chosen_long inner ws f) in
        let begun = arrives_in args cells zs way (loop_count (way ++ inner)) ts us f fits visits count in
        let vis : Visits inner f us g = turns_are_there os inner (start inner) s.goings uncond found.loops f (us ++ begun.more) ws (subst (λ q. TracedIn q us f.known (start inner)) (nested us begun.more) begun.there) parts in
        let ended = along_in inner (start inner) f g us [] (p ++ begun.more) vis (subst (λ ys. TracedIn (p ++ begun.more) ys f.known (start inner)) (sym (append-nil us)) begun.there) in
        record {
          turns = us;
          env = g;
          visits = vis;
          subscripts = are_wanted us (begun.more ++ ended.more) g refl (subst (λ q. TracedIn q [] g.known (traced inner (start inner))) (append_assoc p begun.more ended.more) ended.there);
        }

  reached : (inner : List Header) (at : Access) → Unconditional inner → (ds : List Dimension) (sizes : List ℕ) → covers_from outer ds (swept inner at (start inner)) ≡ true → AreOver outer ds → (xs : List ℤ) → AllIn ds sizes (zs ++ ts) xs → Reached inner at xs f
  reached inner at uncond ds sizes c over xs within = by (swept inner at (start inner)) refl c
    where
      by_variables : (s : Swept) → Found inner at (start inner) s → (w : Option (List ℕ)) → variables_of (length s.goings) outer s.forms ≡ w → sweep_all outer s.goings ds w ≡ true → Reached inner at xs f
      by_variables s found None v c = absurd (let z : ⊥ = cc in z)
      by_variables s found (Some js) v c =
          let one = and_parts (are_distinct js) (all_swept outer s.goings ds js && others_pass outer s.goings js) c in
          let two = and_parts (all_swept outer s.goings ds js) (others_pass outer s.goings js) one.1 in
          reached_by inner at s found uncond js v ds sizes xs over within one.0 two.0 two.1

      by : (w : Result Swept LinearFault) → swept inner at (start inner) ≡ w → covers_from outer ds w ≡ true → Reached inner at xs f
      by (Err e) a c = absurd (let z : ⊥ = cc in z)
      by (Ok s) a c = by_variables s (found_of inner at (start inner) s a) (variables_of (length s.goings) outer s.forms) refl c

-- the one store that covers
pub record Covering (args : List Arg) (way : List Header) (us : List Use) (outer : ℕ) (ds : List Dimension) : Type 0 where
  pub there : List Header
  pub at : Access
  pub one : us ≡ Affine there true at ∷ []
  pub free : unconditional (drop (length way) there) ≡ true
  pub sweep : covers_from outer ds (swept (drop (length way) there) at (traced_at args way (loop_count there))) ≡ true

covering : (args : List Arg) (way : List Header) (us : List Use) (outer : ℕ) (ds : List Dimension) → covers args way us outer ds ≡ true → Covering args way us outer ds
unfolding covers
covering args way [] outer ds h = absurd (let z : ⊥ = cc in z)
covering args way (Other ∷ us) outer ds h = absurd (let z : ⊥ = cc in z)
covering args way (Affine there false at ∷ us) outer ds h = absurd (let z : ⊥ = cc in z)
covering args way (Affine there true at ∷ (u ∷ us)) outer ds h = absurd (let z : ⊥ = cc in z)
covering args way (Affine there true at ∷ []) outer ds h =
    let both = and_parts (unconditional (drop (length way) there)) (covers_from outer ds (swept (drop (length way) there) at (traced_at args way (loop_count there)))) h in
    record { there = there; at = at; one = refl; free = both.0; sweep = both.1 }

-- the one access of the memref in the loop is a store, and it comes to these subscripts
pub record SweptBy (us : List Use) (way : List Header) (xs : List ℤ) (f : Env) : Type 0 where
  pub inner : List Header
  pub at : Access
  pub one : us ≡ Affine (way ++ inner) true at ∷ []
  pub swept : Reached inner at xs f

pub swept_by_one : (m : Module) → IsValid m → (memory : Image) → Fits m memory → (steps : List (ℕ × Bool)) (way : List Header) (line : ℕ) (v : Name) (l u : Bound) (s : ℤ) (body rest : Nest)
    → at_path (nest m.body) steps ≡ Some (record { way = way; here = Loop line v l u s body rest })
    → (name : Name) (sizes : List ℕ) (ds : List Dimension) → covers m.args way (loop_uses name way v l u s body) (symbol_count m.args + loop_count way) ds ≡ true
    → AreOver (symbol_count m.args + loop_count way) ds → (turns : List ℤ) (f : Env) → Visits way (start_env m.args memory.symbols) turns f
    → (xs : List ℤ) → AllIn ds sizes (memory.symbols ++ turns) xs → SweptBy (loop_uses name way v l u s body) way xs f
unfolding uses
swept_by_one m valid memory fits steps way line v l u s body rest at_is name sizes ds c over turns f visits xs within =
    let outer = symbol_count m.args + loop_count way in
    let us = loop_uses name way v l u s body in
    let p = path_affine (nest m.body) steps (record { way = way; here = Loop line v l u s body rest }) (valid_affine m valid) at_is in
    let loop = Loop line v l u s body Nothing in
    let affine_loop : AffineNest loop = (p.1.0, p.1.1, p.1.2, p.1.3, tt) in
    let k = covering m.args way us outer ds c in
    let behind_ = (subst (λ w. Each (IsBehind way) (w ++ [])) k.one (uses_behind name loop way affine_loop)).0 in
    let same : drop (length way) k.there ≡ behind_.inner = ap (drop (length way)) behind_.way ∙ drop_front way behind_.inner in
    let free : Unconditional behind_.inner = unconditional_is behind_.inner (ap unconditional (sym same) ∙ k.free) in
    record {
      inner = behind_.inner;
      at = k.at;
      one = k.one ∙ ap (λ w. Affine w true k.at ∷ []) behind_.way;
      swept = reached m.args memory.memrefs memory.symbols fits.fits way turns f visits behind_.inner k.at free ds sizes
          ((λ i. covers_from outer ds (swept (sym same i) k.at (traced_at m.args way (loop_count (sym behind_.way i))))) ∙ k.sweep) over xs within;
    }

pub covered_is_swept : CoveredIsSwept
unfolding uses
covered_is_swept m valid memory fits steps way line v l u s body rest at_is name sizes ds c over turns f visits xs within =
    let p = path_affine (nest m.body) steps (record { way = way; here = Loop line v l u s body rest }) (valid_affine m valid) at_is in
    let loop = Loop line v l u s body Nothing in
    let affine_loop : AffineNest loop = (p.1.0, p.1.1, p.1.2, p.1.3, tt) in
    let k = swept_by_one m valid memory fits steps way line v l u s body rest at_is name sizes ds c over turns f visits xs within in
    let found = (subst (λ w. Each (FoundIn name loop way) (w ++ [])) k.one (stores_found name loop way affine_loop)).0 in
    let same : k.inner ≡ found.inner = sym (drop_front way k.inner) ∙ ap (drop (length way)) found.way ∙ drop_front way found.inner in
    record {
      value = found.value;
      at = k.at;
      ty = found.ty;
      env = k.swept.env;
      subscripts = k.swept.subscripts;
      found = found.found f k.swept.turns k.swept.env (subst (λ w. Visits w f k.swept.turns k.swept.env) same k.swept.visits);
    }
