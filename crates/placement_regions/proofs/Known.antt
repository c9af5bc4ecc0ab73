-- At the visit of a loop the names of its outer variables stand for the index arguments and the turns, and memref arguments for
-- what they did at the start: no name in scope is defined again.
use Rattle.std.proofs.Common.{◌≡◌, ℕ, suc, ◌+◌, ℤ, pos, List, [], ◌∷◌, ◌++◌, drop, refl, sym, ap, ◌∙◌, subst, Bool, true, false}
use Rattle.std.specs.Prelude.{Option, Some, None, fold, slice_index_or, if◌then◌else◌}
use Rattle.affine_ast.specs.declared.image.Cells.{Cells}
use Rattle.affine_ast.specs.declared.module.Arg.{Arg}
use Rattle.affine_ast.specs.declared.module.ArgKind.{ArgKind}
use Rattle.affine_ast.specs.declared.module.ArgKind.TheVariants as kind
use Rattle.affine_ast.specs.declared.name.Name.{Name}
use Rattle.affine_ast.specs.declared.types.Bound.{Bound}
use Rattle.affine_ast.specs.declared.types.Scalar.TheVariants as scalar
use Rattle.affine_ast.specs.Names.{same_name, put}
use Rattle.affine_ast.proofs.Names.{put-same, put-other, same_name-refl}
use Rattle.affine_ast.specs.Nest.{Plain, Nest, Nothing, Loop, Branch, Does, Value, Load, Store, RawLoad, RawStore, Constant, Binary, Cast, Alloc, Dealloc, Start, Wait, Return}
use Rattle.affine_ast.specs.Rules.{is_in, is_new}
use Rattle.affine_ast.specs.Scope.{Binding, Scope, Totals, Around, with_totals, counted, in_loop, in_condition, behind_plain}
use Rattle.affine_ast.specs.Sizes.{product}
use Rattle.affine_ast.specs.Validity.{Passed, then_told, rule_of_plain, rule_of_loop, rule_of_condition, told, behind_argument, outside}
use Rattle.direct_meaning.specs.Action.{Home, SlowMemref, FastMemref, TagMemref}
use Rattle.direct_meaning.specs.Actions.{is_fast, after_plain, behind}
use Rattle.direct_meaning.specs.Memory.{FitsArg, FitsArgs, Placed, place_kind, place_arg}
use Rattle.direct_meaning.specs.Static.{Env, knows, number, picked, results_of}
use Rattle.valid_laws.proofs.Passing.{judged_passed, then_passed, Holds, plain_holds, loop_holds}
use Rattle.valid_laws.proofs.SafeStart.{ArgumentHolds, behind_arguments, ArgumentsHold}
use Rattle.nest_domain.specs.Ways.{loop_names}
use Rattle.nest_domain.specs.Domains.{names_of, symbol_names}
use Rattle.nest_domain.specs.Visits.{Visits}
use Rattle.placement_texts.specs.Spots.{Spot, Here, Behind, Inside, Other, IsLoop}
use Rattle.placement_texts.proofs.ScopedTexts.{new_apart}
use Rattle.placement_regions.specs.Sites.{from_spot, way_to}

-- ---- what is in scope stays what it is
pub record Kept (s : Scope) (e : Env) (s' : Scope) (e' : Env) : Type 0 where
  pub scope : (n : Name) (b : Binding) → s n ≡ Some b → s' n ≡ Some b
  pub known : (n : Name) (b : Binding) → s n ≡ Some b → e'.known n ≡ e.known n
  pub home : (n : Name) (b : Binding) → s n ≡ Some b → e'.home n ≡ e.home n

pub kept_itself : (s : Scope) (e : Env) → Kept s e s e
kept_itself s e = record { scope = λ n b h. h; known = λ n b h. refl; home = λ n b h. refl }

-- behind a region nothing of it is known
kept_past : (s : Scope) (n : Nest) (e : Env) → Kept s e s (behind n e)
kept_past s n e = record { scope = λ n b h. h; known = λ n b h. refl; home = λ n b h. refl }

kept_two : (s : Scope) (x y : Nest) (e : Env) → Kept s e s (behind y (behind x e))
kept_two s x y e = record { scope = λ n b h. h; known = λ n b h. refl; home = λ n b h. refl }

pub kept_then : (s : Scope) (e : Env) (s' : Scope) (e' : Env) (s2 : Scope) (e2 : Env) → Kept s e s' e' → Kept s' e' s2 e2 → Kept s e s2 e2
kept_then s e s' e' s2 e2 h k = record {
  scope = λ n b i. k.scope n b (h.scope n b i);
  known = λ n b i. k.known n b (h.scope n b i) ∙ h.known n b i;
  home = λ n b i. k.home n b (h.scope n b i) ∙ h.home n b i;
}

-- a name more
module _ (a : Around) (r : Name) (x : Binding) (new : is_new a.scope r ≡ true) where
  other : (n : Name) (b : Binding) → a.scope n ≡ Some b → same_name r n ≡ false
  other n b h = new_apart a r n b new h

  kept_number : (e : Env) (o : Option ℤ) → Kept a.scope e (put a.scope r (Some x)) (record e { known = put e.known r o })
  kept_number e o = record {
    scope = λ n b h. put-other a.scope r (Some x) n (other n b h) ∙ h;
    known = λ n b h. put-other e.known r o n (other n b h);
    home = λ n b h. refl;
  }

  kept_memref : (e : Env) (o : Option Home) (fasts tags : ℕ) → Kept a.scope e (put a.scope r (Some x)) (record { known = e.known; home = put e.home r o; fasts = fasts; tags = tags })
  kept_memref e o fasts tags = record {
    scope = λ n b h. put-other a.scope r (Some x) n (other n b h) ∙ h;
    known = λ n b h. refl;
    home = λ n b h. put-other e.home r o n (other n b h);
  }

  kept_alloc : (t : Bool) (e : Env) (count : ℕ) → Kept a.scope e (put a.scope r (Some x)) (if t then record e { home = put e.home r (Some (FastMemref e.fasts)); fasts = suc e.fasts } else record e { home = put e.home r (Some (TagMemref e.tags)); tags = e.tags + count })
  kept_alloc true e count = kept_memref e (Some (FastMemref e.fasts)) (suc e.fasts) e.tags
  kept_alloc false e count = kept_memref e (Some (TagMemref e.tags)) e.fasts (e.tags + count)

pub kept_behind : (q : Plain) (a : Around) (e : Env) (rest : Nest) → Holds (counted a) q rest → Kept a.scope e (behind_plain q (counted a)).scope (after_plain q e)
unfolding after_plain
kept_behind (Value r pick at) a e rest h = kept_number a r _ h.new_name e _
kept_behind (Load r m at ty) a e rest h = kept_number a r _ h.new_name e None
kept_behind (Store x m at ty) a e rest h = kept_itself a.scope e
kept_behind (RawLoad r m at ty) a e rest h = kept_number a r _ h.new_name e None
kept_behind (RawStore x m at ty) a e rest h = kept_itself a.scope e
kept_behind (Constant r z (scalar.Int element)) a e rest h = kept_number a r _ h.new_name e None
kept_behind (Constant r z scalar.Index) a e rest h = kept_number a r _ h.new_name e (Some z)
kept_behind (Binary r op x y ty) a e rest h = kept_number a r _ h.new_name e None
kept_behind (Cast r k x from to) a e rest h = kept_number a r _ h.new_name e None
kept_behind (Alloc r ty) a e rest h = kept_alloc a r _ h.new_name (is_fast ty) e (product ty.sizes)
kept_behind (Dealloc m ty) a e rest h = kept_itself a.scope e
kept_behind (Start x x_at y y_at t t_at n stride types) a e rest h = kept_itself a.scope e
kept_behind (Wait t at n ty) a e rest h = kept_itself a.scope e
kept_behind Return a e rest h = kept_itself a.scope e

pub kept_loop : (a : Around) (v : Name) (l u : Bound) (e : Env) (t : ℤ) → is_new a.scope v ≡ true → Kept a.scope e (in_loop v l u (counted a)).scope (knows e v t)
kept_loop a v l u e t new = kept_number a v _ new e (Some t)

-- ---- names that stand for numbers
pub record IsHeld (s : Scope) (known : Name → Option ℤ) (n : Name) (z : ℤ) : Type 0 where
  pub binding : Binding
  pub there : s n ≡ Some binding
  pub is : known n ≡ Some z

abbrev pub AreHeld : Scope → (Name → Option ℤ) → List Name → List ℤ → Type 0
AreHeld s known [] [] = Unit {0}
AreHeld s known [] (z ∷ zs) = ⊥
AreHeld s known (n ∷ ns) [] = ⊥
AreHeld s known (n ∷ ns) (z ∷ zs) = IsHeld s known n z × AreHeld s known ns zs

held_along : (s : Scope) (e : Env) (s' : Scope) (e' : Env) → Kept s e s' e' → (n : Name) (z : ℤ) → IsHeld s e.known n z → IsHeld s' e'.known n z
held_along s e s' e' k n z h = record { binding = h.binding; there = k.scope n h.binding h.there; is = k.known n h.binding h.there ∙ h.is }

pub all_held_along : (s : Scope) (e : Env) (s' : Scope) (e' : Env) → Kept s e s' e' → (ns : List Name) (zs : List ℤ) → AreHeld s e.known ns zs → AreHeld s' e'.known ns zs
all_held_along s e s' e' k [] [] h = tt
all_held_along s e s' e' k [] (z ∷ zs) h = absurd h
all_held_along s e s' e' k (n ∷ ns) [] h = absurd h
all_held_along s e s' e' k (n ∷ ns) (z ∷ zs) h = (held_along s e s' e' k n z h.0, all_held_along s e s' e' k ns zs h.1)

pub held_append : (s : Scope) (known : Name → Option ℤ) (ns ms : List Name) (zs ys : List ℤ) → AreHeld s known ns zs → AreHeld s known ms ys → AreHeld s known (ns ++ ms) (zs ++ ys)
held_append s known [] ms [] ys h k = k
held_append s known [] ms (z ∷ zs) ys h k = absurd h
held_append s known (n ∷ ns) ms [] ys h k = absurd h
held_append s known (n ∷ ns) ms (z ∷ zs) ys h k = (h.0, held_append s known ns ms zs ys h.1 k)

-- ---- at a visit
-- the text there passes, what was in scope is what it was, and the variables of the loops on the way stand for the turns
pub record Arrives (here : Nest) (names : List Name) (a : Around) (e : Env) (ts : List ℤ) (f : Env) : Type 0 where
  pub around : Around
  pub totals : Totals
  pub passed : told here around ≡ Passed totals
  pub kept : Kept a.scope e around.scope f
  pub held : AreHeld around.scope f.known names ts

-- the same from further out
outer : (here : Nest) (names : List Name) (a : Around) (e : Env) (b : Around) (g : Env) (ts : List ℤ) (f : Env) → Kept a.scope e b.scope g → Arrives here names b g ts f → Arrives here names a e ts f
outer here names a e b g ts f k h = record { around = h.around; totals = h.totals; passed = h.passed; kept = kept_then a.scope e b.scope g h.around.scope f k h.kept; held = h.held }

at_once : (here : Nest) (a : Around) (e : Env) (t : Totals) (ts : List ℤ) (f : Env) → told here a ≡ Passed t → (ts ≡ []) × (e ≡ f) → Arrives here [] a e ts f
at_once here a e t ts f h w = subst (λ x. Arrives here [] a e ts x) w.1 (subst (λ us. Arrives here [] a e us e) (sym w.0) (record { around = a; totals = t; passed = h; kept = kept_itself a.scope e; held = tt }))

pub arrives : (s : Spot) (n : Nest) (a : Around) (t : Totals) (e : Env) (ts : List ℤ) (f : Env) → told n a ≡ Passed t → IsLoop s n → Visits (way_to s n) e ts f → Arrives (from_spot s n) (loop_names (way_to s n)) a e ts f
unfolding told
arrives s Nothing a t e ts f h i w = absurd i
arrives Here (Loop line v l u step body rest) a t e ts f h i w = at_once (Loop line v l u step body rest) a e t ts f h w
arrives (Behind s) (Loop line v l u step body rest) a t e ts f h i w =
    let j = judged_passed line (rule_of_loop (counted a) v l u step) _ t h in
    let k = then_passed (told body (in_loop v l u (counted a))) (λ t. told rest (with_totals t a)) t j.1 in
    outer _ _ a e (with_totals k.0 a) (behind body e) ts f (kept_past a.scope body e) (arrives s rest (with_totals k.0 a) t (behind body e) ts f k.2 i w)
arrives (Inside s) (Loop line v l u step body rest) a t e [] f h i w = absurd w
arrives (Inside s) (Loop line v l u step body rest) a t e (z ∷ ts) f h i w =
    let j = judged_passed line (rule_of_loop (counted a) v l u step) _ t h in
    let k = then_passed (told body (in_loop v l u (counted a))) (λ t. told rest (with_totals t a)) t j.1 in
    let b = in_loop v l u (counted a) in
    let inner = arrives s body b k.0 (knows e v z) ts f k.1 i w.1 in
    let new = (loop_holds (counted a) v l u step j.0).new_name in
    let v_is : IsHeld b.scope (knows e v z).known v z = record { binding = _; there = put-same a.scope v _ v (same_name-refl v); is = put-same e.known v (Some z) v (same_name-refl v) } in
    record {
      around = inner.around;
      totals = inner.totals;
      passed = inner.passed;
      kept = kept_then a.scope e b.scope (knows e v z) inner.around.scope f (kept_loop a v l u e z new) inner.kept;
      held = (held_along b.scope (knows e v z) inner.around.scope f inner.kept v z v_is, inner.held);
    }
arrives (Other s) (Loop line v l u step body rest) a t e ts f h i w = absurd i
arrives Here (Branch line set ns first has other rest) a t e ts f h i w = absurd i
arrives (Behind s) (Branch line set ns first has other rest) a t e ts f h i w =
    let j = judged_passed line (rule_of_condition (counted a) set ns) _ t h in
    let k = then_passed (told first (in_condition (counted a))) (λ t. then_told (told other (in_condition (with_totals t a))) (λ u. told rest (with_totals u a))) t j.1 in
    let o = then_passed (told other (in_condition (with_totals k.0 a))) (λ u. told rest (with_totals u a)) t k.2 in
    outer _ _ a e (with_totals o.0 a) (behind other (behind first e)) ts f (kept_two a.scope first other e) (arrives s rest (with_totals o.0 a) t (behind other (behind first e)) ts f o.2 i w)
arrives (Inside s) (Branch line set ns first has other rest) a t e ts f h i w =
    let j = judged_passed line (rule_of_condition (counted a) set ns) _ t h in
    let k = then_passed (told first (in_condition (counted a))) (λ t. then_told (told other (in_condition (with_totals t a))) (λ u. told rest (with_totals u a))) t j.1 in
    outer _ _ a e (in_condition (counted a)) e ts f (kept_itself a.scope e) (arrives s first (in_condition (counted a)) k.0 e ts f k.1 i w.1)
arrives (Other s) (Branch line set ns first has other rest) a t e ts f h i w =
    let j = judged_passed line (rule_of_condition (counted a) set ns) _ t h in
    let k = then_passed (told first (in_condition (counted a))) (λ t. then_told (told other (in_condition (with_totals t a))) (λ u. told rest (with_totals u a))) t j.1 in
    let o = then_passed (told other (in_condition (with_totals k.0 a))) (λ u. told rest (with_totals u a)) t k.2 in
    outer _ _ a e (in_condition (with_totals k.0 a)) (behind first e) ts f (kept_past a.scope first e) (arrives s other (in_condition (with_totals k.0 a)) o.0 (behind first e) ts f o.1 i w.1)
arrives (Behind s) (Does line q rest) a t e ts f h i w =
    let j = judged_passed line (rule_of_plain (counted a) q rest) _ t h in
    outer _ _ a e (behind_plain q (counted a)) (after_plain q e) ts f (kept_behind q a e rest (plain_holds (counted a) q rest j.0)) (arrives s rest (behind_plain q (counted a)) t (after_plain q e) ts f j.1 i w)
arrives Here (Does line q rest) a t e ts f h i w = absurd i
arrives (Inside s) (Does line q rest) a t e ts f h i w = absurd i
arrives (Other s) (Does line q rest) a t e ts f h i w = absurd i

-- ---- at the start
-- behind arguments: what was in scope is what it was, and the index arguments stand for the numbers given
pub record Begins (names : List Name) (zs : List ℤ) (a : Around) (e : Env) (b : Around) (g : Env) : Type 0 where
  pub kept : Kept a.scope e b.scope g
  pub held : AreHeld b.scope g.known names zs

begins_one : (args : List Arg) (name : Name) (k : ArgKind) (a : Around) (p : Placed) (cells : List Cells)
    → ((a : Around) (p : Placed) (cells : List Cells) → ArgumentsHold args a → FitsArgs args cells p.symbols → Begins (symbol_names args) p.symbols a p.env (behind_arguments args a) (fold place_arg p args).env)
    → ArgumentHolds a name k → ArgumentsHold args (behind_argument name k a) → FitsArg k (FitsArgs args) cells p.symbols
    → Begins (names_of k name ++ symbol_names args) p.symbols a p.env (behind_arguments args (behind_argument name k a)) (fold place_arg (place_kind k name p) args).env
begins_one args name (kind.Memref ty) a p [] more holds others fits = absurd fits
begins_one args name (kind.Memref ty) a p (c ∷ cells) more holds others fits =
    let b = behind_argument name (kind.Memref ty) a in
    let q = place_kind (kind.Memref ty) name p in
    let r = more b q cells others fits.2 in
    record { kept = kept_then a.scope p.env b.scope q.env (behind_arguments args b).scope (fold place_arg q args).env (kept_memref a name _ holds.new_name p.env (Some (SlowMemref p.memrefs p.elements)) p.env.fasts p.env.tags) r.kept; held = r.held }
begins_one args name (kind.Index range) a p cells more holds others fits = by p.symbols refl fits
  where
    b : Around
    b = behind_argument name (kind.Index range) a

    q : Placed
    q = place_kind (kind.Index range) name p

    by : (zs : List ℤ) → p.symbols ≡ zs → FitsArg (kind.Index range) (FitsArgs args) cells zs → Begins (name ∷ symbol_names args) p.symbols a p.env (behind_arguments args b) (fold place_arg q args).env
    by [] is f = absurd f
    by (z ∷ zs) is f =
        let r = more b q cells others (subst (FitsArgs args cells) (sym (ap (drop 1) is)) f.1) in
        let first = slice_index_or p.symbols 0 (pos 0) in
        let here : IsHeld b.scope q.env.known name first = record { binding = _; there = put-same a.scope name _ name (same_name-refl name); is = put-same p.env.known name (Some first) name (same_name-refl name) } in
        let same : first ∷ drop 1 p.symbols ≡ p.symbols = (λ i. slice_index_or (is i) 0 (pos 0) ∷ drop 1 (is i)) ∙ sym is in
        record {
          kept = kept_then a.scope p.env b.scope q.env (behind_arguments args b).scope (fold place_arg q args).env (kept_number a name _ holds.new_name p.env (Some first)) r.kept;
          held = subst (AreHeld (behind_arguments args b).scope (fold place_arg q args).env.known (name ∷ symbol_names args)) same
              (held_along b.scope q.env (behind_arguments args b).scope (fold place_arg q args).env r.kept name first here, r.held);
        }

pub begins : (args : List Arg) (a : Around) (p : Placed) (cells : List Cells) → ArgumentsHold args a → FitsArgs args cells p.symbols → Begins (symbol_names args) p.symbols a p.env (behind_arguments args a) (fold place_arg p args).env
begins [] a p cells h fits = record { kept = kept_itself a.scope p.env; held = subst (AreHeld a.scope p.env.known []) (sym fits.1) tt }
begins (arg ∷ args) a p cells h fits = begins_one args arg.name arg.kind a p cells (λ a p cells h fits. begins args a p cells h fits) h.0 h.1 fits
