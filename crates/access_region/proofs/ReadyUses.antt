-- The uses of a memref in a ready text are ready: their ways can be gone along, and their subscripts formed.
use Rattle.std.proofs.Common.{◌≡◌, ℕ, zero, suc, Bool, true, false, cond, List, [], ◌∷◌, ◌++◌, Option, Some, None, refl, sym, subst}
use Rattle.constraint_set.specs.Lists.{Each}
use Rattle.constraint_set.proofs.Steps.{Each-append}
use Rattle.affine_ast.specs.declared.module.Module.{Module}
use Rattle.affine_ast.specs.declared.name.Name.{Name}
use Rattle.affine_ast.specs.Intervals.{Ranges}
use Rattle.affine_ast.specs.Names.{same_name}
use Rattle.affine_ast.specs.Nest.{Plain, Nest, Nothing, Loop, Branch, Does, Value, Load, Store, RawLoad, RawStore, Constant, Binary, Cast, Alloc, Dealloc, Start, Wait, Return, nest}
use Rattle.affine_ast.specs.Validity.{IsValid}
use Rattle.direct_meaning.specs.Work.{ranges_after, start_ranges}
use Rattle.module_work.specs.Workable.{WorkablePlain}
use Rattle.nest_domain.specs.Ways.{Header, Round, Given, Except, Behind, Past, Spot, under, spot, at_path, Use, Affine, Other, if_named, use_of, uses}
use Rattle.nest_domain.specs.Ready.{ReadyHeader, ReadyPlain, Ready, ReadyNest, ranges_along, ranges_at_end}
use Rattle.nest_domain.proofs.Readiness.{no_step, either}
use Rattle.text_places.specs.Blocks.{Block}
use Rattle.box_covers.specs.Told.{AreReady}
use Rattle.text_places.proofs.Readiness.{texts_ready}
use Rattle.access_region.specs.Finding.{ReadyUse, loop_at, uses_in}

-- one thing more at the end of a way
pub ends_with : (hs : List Header) (h : Header) (rho : Ranges) → ranges_at_end (hs ++ h ∷ []) rho ≡ ranges_along h (ranges_at_end hs rho)
ends_with [] h rho = refl
ends_with (g ∷ hs) h rho = ends_with hs h (ranges_along g rho)

pub ready_with : (hs : List Header) (h : Header) (rho : Ranges) → Ready hs rho → ReadyHeader h (ranges_at_end hs rho) → Ready (hs ++ h ∷ []) rho
unfolding Ready
ready_with [] h rho r k = (k, tt)
ready_with (g ∷ hs) h rho r k = (r.0, ready_with hs h (ranges_along g rho) r.1 k)

-- each thing on a way that can be gone along can be formed over some ranges
pub each_ready : (hs : List Header) (rho : Ranges) → Ready hs rho → AreReady hs
unfolding Ready
each_ready [] rho r = tt
each_ready (h ∷ hs) rho r = ((rho, r.0), each_ready hs (ranges_along h rho) r.1)

pub plain_header : (rho : Ranges) (p : Plain) → ReadyPlain rho p → WorkablePlain rho p
plain_header rho (Value r pick at) h = h
plain_header rho (Load r m at ty) h = tt
plain_header rho (Store x m at ty) h = tt
plain_header rho (RawLoad r m at ty) h = tt
plain_header rho (RawStore x m at ty) h = tt
plain_header rho (Constant r z ty) h = tt
plain_header rho (Binary r op x y ty) h = tt
plain_header rho (Cast r kind x from to) h = tt
plain_header rho (Alloc r ty) h = tt
plain_header rho (Dealloc m ty) h = tt
plain_header rho (Start x xa y ya t ta n stride types) h = tt
plain_header rho (Wait t at n ty) h = tt
plain_header rho Return h = tt

named_ready : (rho : Ranges) (m n : Name) (u : Use) → ReadyUse rho u → Each (ReadyUse rho) (if_named m n u)
named_ready rho m n u r = by (same_name m n)
  where
    by : (b : Bool) → Each (ReadyUse rho) (cond b (u ∷ []) [])
    by true = (r, tt)
    by false = tt

plain_ready : (rho : Ranges) (m : Name) (p : Plain) (way : List Header) → Ready way rho → ReadyPlain (ranges_at_end way rho) p → Each (ReadyUse rho) (use_of m p way)
plain_ready rho m (Value r pick at) way w h = tt
plain_ready rho m (Load r n at ty) way w h = named_ready rho m n (Affine way false at) (w, h)
plain_ready rho m (Store x n at ty) way w h = named_ready rho m n (Affine way true at) (w, h)
plain_ready rho m (RawLoad r n at ty) way w h = named_ready rho m n Other tt
plain_ready rho m (RawStore x n at ty) way w h = named_ready rho m n Other tt
plain_ready rho m (Constant r z ty) way w h = tt
plain_ready rho m (Binary r op x y ty) way w h = tt
plain_ready rho m (Cast r kind x from to) way w h = tt
plain_ready rho m (Alloc r ty) way w h = tt
plain_ready rho m (Dealloc n ty) way w h = named_ready rho m n Other tt
plain_ready rho m (Start x xa y ya t ta n stride types) way w h =
    Each-append (ReadyUse rho) (if_named m x Other) (if_named m y Other ++ if_named m t Other) (named_ready rho m x Other tt)
    (Each-append (ReadyUse rho) (if_named m y Other) (if_named m t Other) (named_ready rho m y Other tt) (named_ready rho m t Other tt))
plain_ready rho m (Wait t at n ty) way w h = named_ready rho m t Other tt
plain_ready rho m Return way w h = tt

pub uses_ready : (rho : Ranges) (m : Name) (n : Nest) (way : List Header) → Ready way rho → ReadyNest n (ranges_at_end way rho) → Each (ReadyUse rho) (uses m n way)
unfolding uses ReadyNest
uses_ready rho m Nothing way w r = tt
uses_ready rho m (Loop line v l u s body rest) way w r =
    Each-append (ReadyUse rho) (uses m body (way ++ Round v l u s ∷ [])) (uses m rest (way ++ Past body ∷ []))
    (uses_ready rho m body (way ++ Round v l u s ∷ []) (ready_with way (Round v l u s) rho w (r.0, r.1, r.2)) (subst (ReadyNest body) (sym (ends_with way (Round v l u s) rho)) r.3))
    (uses_ready rho m rest (way ++ Past body ∷ []) (ready_with way (Past body) rho w tt) (subst (ReadyNest rest) (sym (ends_with way (Past body) rho)) r.4))
uses_ready rho m (Branch line set names first has other rest) way w r =
    let past = ready_with way (Past first) rho w tt in
    Each-append (ReadyUse rho) (uses m first (way ++ Given set names ∷ [])) (uses m other (way ++ Except set names first ∷ []) ++ uses m rest ((way ++ Past first ∷ []) ++ Past other ∷ []))
    (uses_ready rho m first (way ++ Given set names ∷ []) (ready_with way (Given set names) rho w r.0) (subst (ReadyNest first) (sym (ends_with way (Given set names) rho)) r.1))
    (Each-append (ReadyUse rho) (uses m other (way ++ Except set names first ∷ [])) (uses m rest ((way ++ Past first ∷ []) ++ Past other ∷ []))
    (uses_ready rho m other (way ++ Except set names first ∷ []) (ready_with way (Except set names first) rho w tt) (subst (ReadyNest other) (sym (ends_with way (Except set names first) rho)) r.2))
    (uses_ready rho m rest ((way ++ Past first ∷ []) ++ Past other ∷ []) (ready_with (way ++ Past first ∷ []) (Past other) rho past tt)
    (subst (ReadyNest rest) (sym (ends_with (way ++ Past first ∷ []) (Past other) rho)) (subst (ReadyNest rest) (sym (ends_with way (Past first) rho)) r.3))))
uses_ready rho m (Does line p rest) way w r =
    Each-append (ReadyUse rho) (use_of m p way) (uses m rest (way ++ Behind p ∷ []))
    (plain_ready rho m p way w r.0)
    (uses_ready rho m rest (way ++ Behind p ∷ []) (ready_with way (Behind p) rho w (plain_header (ranges_at_end way rho) p r.0)) (subst (ReadyNest rest) (sym (ends_with way (Behind p) rho)) r.1))

-- ---- what a path names
-- the way to it, and what begins there
pub record Stands (rho : Ranges) (s : Spot) : Type 0 where
  pub way : Ready s.way rho
  pub here : ReadyNest s.here (ranges_at_end s.way rho)

-- one thing more in front of the way
stepped : (rho : Ranges) (h : Header) (o : Option Spot) (s : Spot) → under h o ≡ Some s → ReadyHeader h rho → ((t : Spot) → o ≡ Some t → Stands (ranges_along h rho) t) → Stands rho s
unfolding Ready
stepped rho h None s e r f = absurd (let z : ⊥ = cc in z)
stepped rho h (Some t) s e r f =
    let k = f t refl in
    let same : record { way = h ∷ t.way; here = t.here } ≡ s = cc in
    subst (Stands rho) same (record { way = (r, k.way); here = k.here })

here_stands : (rho : Ranges) (n : Nest) (s : Spot) → ReadyNest n rho → ◌≡◌ {A = Option Spot} (Some (record { way = []; here = n })) (Some s) → Stands rho s
unfolding Ready
here_stands rho n s r e =
    let same : record { way = []; here = n } ≡ s = cc in
    subst (Stands rho) same (record { way = tt; here = r })

stands_there : (n : Nest) (i : ℕ) (steps : List (ℕ × Bool)) (rho : Ranges) (s : Spot) → ReadyNest n rho → spot n i steps ≡ Some s → Stands rho s
unfolding spot ReadyNest
stands_there Nothing i steps rho s r e = absurd (let z : ⊥ = cc in z)
stands_there (Loop line v l u st body rest) zero [] rho s r e = here_stands rho (Loop line v l u st body rest) s r e
stands_there (Loop line v l u st body rest) zero (step ∷ steps) rho s r e =
    no_step step.1 (under (Round v l u st) (spot body step.0 steps)) s e (λ d. stepped rho (Round v l u st) (spot body step.0 steps) s d (r.0, r.1, r.2) (λ t k. stands_there body step.0 steps _ t r.3 k))
stands_there (Loop line v l u st body rest) (suc i) steps rho s r e = stepped rho (Past body) (spot rest i steps) s e tt (λ t k. stands_there rest i steps rho t r.4 k)
stands_there (Branch line set names first has other rest) zero [] rho s r e = here_stands rho (Branch line set names first has other rest) s r e
stands_there (Branch line set names first has other rest) zero (step ∷ steps) rho s r e =
    either step.1 (under (Except set names first) (spot other step.0 steps)) (under (Given set names) (spot first step.0 steps)) s e
    (λ d. stepped rho (Except set names first) (spot other step.0 steps) s d tt (λ t k. stands_there other step.0 steps rho t r.2 k))
    (λ d. stepped rho (Given set names) (spot first step.0 steps) s d r.0 (λ t k. stands_there first step.0 steps rho t r.1 k))
stands_there (Branch line set names first has other rest) (suc i) steps rho s r e =
    stepped rho (Past first) (under (Past other) (spot rest i steps)) s e tt (λ t k. stepped rho (Past other) (spot rest i steps) t k tt (λ w m. stands_there rest i steps rho w r.3 m))
stands_there (Does line p rest) zero [] rho s r e = here_stands rho (Does line p rest) s r e
stands_there (Does line p rest) zero (step ∷ steps) rho s r e = absurd (let z : ⊥ = cc in z)
stands_there (Does line p rest) (suc i) steps rho s r e = stepped rho (Behind p) (spot rest i steps) s e (plain_header rho p r.0) (λ t k. stands_there rest i steps (ranges_after p rho) t r.1 k)

valid_stands : (m : Module) → IsValid m → (steps : List (ℕ × Bool)) (s : Spot) → at_path (nest m.body) steps ≡ Some s → Stands (start_ranges m.args) s
valid_stands m v [] s e = absurd (let z : ⊥ = cc in z)
valid_stands m v (step ∷ steps) s e = no_step step.1 (spot (nest m.body) step.0 steps) s e (λ d. stands_there (nest m.body) step.0 steps (start_ranges m.args) s (texts_ready m v) d)

-- ---- a loop that a path names
pub record ReadyLoop (rho : Ranges) (b : Block) : Type 0 where
  pub way : Ready b.way rho
  pub uses : (m : Name) → Each (ReadyUse rho) (uses_in m b)

loop_stands : (rho : Ranges) (s : Spot) (b : Block) → Stands rho s → loop_at s ≡ Some b → ReadyLoop rho b
unfolding ReadyNest
loop_stands rho s b st e = by s.here st.here e
  where
    by : (n : Nest) → ReadyNest n (ranges_at_end s.way rho) → loop_at (record { way = s.way; here = n }) ≡ Some b → ReadyLoop rho b
    by Nothing r e = absurd (let z : ⊥ = cc in z)
    by (Loop line v l u step body rest) r e =
        let same : record { way = s.way; line = line; var = v; lower = l; upper = u; step = step; body = body } ≡ b = cc in
        subst (ReadyLoop rho) same (record {
          way = st.way;
          uses = λ m. uses_ready rho m body (s.way ++ Round v l u step ∷ []) (ready_with s.way (Round v l u step) rho st.way (r.0, r.1, r.2)) (subst (ReadyNest body) (sym (ends_with s.way (Round v l u step) rho)) r.3);
        })
    by (Branch line set names first has other rest) r e = absurd (let z : ⊥ = cc in z)
    by (Does line p rest) r e = absurd (let z : ⊥ = cc in z)

pub loop_ready : (m : Module) → IsValid m → (steps : List (ℕ × Bool)) (s : Spot) (b : Block) → at_path (nest m.body) steps ≡ Some s → loop_at s ≡ Some b → ReadyLoop (start_ranges m.args) b
loop_ready m v steps s b e h = loop_stands (start_ranges m.args) s b (valid_stands m v steps s e) h
