-- The way to a statement, the making of the list of actions, and what a path names.
use Rattle.std.proofs.Common.{◌≡◌, ℕ, zero, suc, Bool, true, false, cond, List, [], ◌∷◌, ◌++◌, Option, Some, None, Ok, Result, ℤ, pos, ◌+ℤ◌, ◌-ℤ◌, ◌*ℤ◌, ◌<ℤ◌, int_lt, refl, sym, ◌∙◌, ap, subst, arith, append-nil}
use Rattle.std.specs.Prelude.{flat_map}
use Rattle.std.specs.Int.{int_max}
use Rattle.std.proofs.lemmas.Int.{ints}
use Rattle.num_row.proofs.Ring.{Var, ◌⊕◌, ◌⊗◌, ring}
use Rattle.constraint_set.specs.Lists.{Each}
use Rattle.constraint_set.proofs.Steps.{Each-append}
use Rattle.affine_expr.specs.declared.linear.LinearFault.{LinearFault}
use Rattle.affine_ast.specs.declared.image.Image.{Image}
use Rattle.affine_ast.specs.declared.module.Module.{Module}
use Rattle.affine_ast.specs.declared.name.Name.{Name}
use Rattle.affine_ast.specs.Nest.{Plain, Nest, Nothing, Loop, Branch, Does, nest}
use Rattle.affine_ast.specs.Validity.{IsValid}
use Rattle.affine_expr.proofs.FormValues.{Gives}
use Rattle.direct_meaning.specs.Action.{Action}
use Rattle.direct_meaning.specs.Static.{Env, knows, lower_of, upper_of, holds_at}
use Rattle.direct_meaning.specs.Actions.{action_of, after_plain, behind, actions}
use Rattle.direct_meaning.specs.Memory.{Fits, start_env, module_actions}
use Rattle.direct_meaning.specs.Pure.{AffineNest}
use Rattle.direct_meaning.specs.Turns.{turns, turns_within, gap}
use Rattle.valid_laws.proofs.Passing.{valid_affine}
use Rattle.nest_domain.specs.Ways.{Header, Round, Given, Except, Behind, Past, Spot, under, spot, at_path}
use Rattle.nest_domain.specs.Domains.{Known, place}
use Rattle.nest_domain.specs.Visits.{IsTurn, Visits, Along}
use Rattle.nest_domain.specs.Laws.{BeginsPoint, IsVisited, ComesFrom, PlacesArePoints, ActionsAreVisited, PathsArePoints}
use Rattle.nest_domain.proofs.Walks.{AffineWay, Arrived}
use Rattle.nest_domain.proofs.Places.{place_arrives, seen_of}

-- ---- ways one behind another
pub visits_append : (hs more : List Header) (e f g : Env) (ts us : List ℤ) → Visits hs e ts f → Visits more f us g → Visits (hs ++ more) e (ts ++ us) g
visits_append [] more e f g ts us v w = subst (λ x. Visits more x (ts ++ us) g) (sym v.1) (subst (λ y. Visits more f (y ++ us) g) (sym v.0) w)
visits_append (Round n l u s ∷ hs) more e f g [] us v w = absurd v
visits_append (Round n l u s ∷ hs) more e f g (t ∷ ts) us v w = (v.0, visits_append hs more (knows e n t) f g ts us v.1 w)
visits_append (Given set names ∷ hs) more e f g ts us v w = (v.0, visits_append hs more e f g ts us v.1 w)
visits_append (Except set names first ∷ hs) more e f g ts us v w = (v.0, visits_append hs more (behind first e) f g ts us v.1 w)
visits_append (Behind p ∷ hs) more e f g ts us v w = visits_append hs more (after_plain p e) f g ts us v w
visits_append (Past n ∷ hs) more e f g ts us v w = visits_append hs more (behind n e) f g ts us v w

pub affine_append : (hs more : List Header) → AffineWay hs → AffineWay more → AffineWay (hs ++ more)
affine_append [] more a b = b
affine_append (Round n l u s ∷ hs) more a b = (a.0, a.1, a.2, affine_append hs more a.3 b)
affine_append (Given set names ∷ hs) more a b = affine_append hs more a b
affine_append (Except set names first ∷ hs) more a b = affine_append hs more a b
affine_append (Behind p ∷ hs) more a b = (a.0, affine_append hs more a.1 b)
affine_append (Past n ∷ hs) more a b = affine_append hs more a b

-- the end of a way that goes by nothing more, in no turn
stays : (e : Env) → Visits [] e [] e
stays e = (refl, refl)

-- with one thing more on the way that is no loop
one_more : (way : List Header) (h : Header) (e f g : Env) (ts : List ℤ) → Visits way e ts f → Visits (h ∷ []) f [] g → Visits (way ++ h ∷ []) e ts g
one_more way h e f g ts v w = subst (λ us. Visits (way ++ h ∷ []) e us g) (append-nil ts) (visits_append way (h ∷ []) e f g ts [] v w)

-- ---- wherever the making of the list comes it visits
pub record Comes (e0 : Env) (way : List Header) (g : Env) : Type 0 where
  pub turns : List ℤ
  pub visits : Visits way e0 turns g
  pub affine : AffineWay way

along_by : (n : Nest) (way : List Header) (e0 e : Env) → AffineNest n → Comes e0 way e → Along (λ hs here g. Comes e0 hs g) n way e
along_by Nothing way e0 e a c = tt
along_by (Loop line v l u s body rest) way e0 e a c = (
  c,
  (λ t turn. along_by body (way ++ Round v l u s ∷ []) e0 (knows e v t) a.3 (record {
    turns = c.turns ++ t ∷ [];
    visits = visits_append way (Round v l u s ∷ []) e0 e (knows e v t) c.turns (t ∷ []) c.visits (turn, stays (knows e v t));
    affine = affine_append way (Round v l u s ∷ []) c.affine (a.0, a.1, a.2, tt);
  })),
  along_by rest (way ++ Past body ∷ []) e0 (behind body e) a.4 (record {
    turns = c.turns;
    visits = one_more way (Past body) e0 e (behind body e) c.turns c.visits (stays (behind body e));
    affine = affine_append way (Past body ∷ []) c.affine tt;
  }),
)
along_by (Branch line set names first has other rest) way e0 e a c = (
  c,
  (λ t. along_by first (way ++ Given set names ∷ []) e0 e a.0 (record {
    turns = c.turns;
    visits = one_more way (Given set names) e0 e e c.turns c.visits (t, stays e);
    affine = affine_append way (Given set names ∷ []) c.affine tt;
  })),
  (λ t. along_by other (way ++ Except set names first ∷ []) e0 (behind first e) a.1 (record {
    turns = c.turns;
    visits = one_more way (Except set names first) e0 e (behind first e) c.turns c.visits (t, stays (behind first e));
    affine = affine_append way (Except set names first ∷ []) c.affine tt;
  })),
  along_by rest ((way ++ Past first ∷ []) ++ Past other ∷ []) e0 (behind other (behind first e)) a.2 (record {
    turns = c.turns;
    visits = one_more (way ++ Past first ∷ []) (Past other) e0 (behind first e) (behind other (behind first e)) c.turns
        (one_more way (Past first) e0 e (behind first e) c.turns c.visits (stays (behind first e))) (stays (behind other (behind first e)));
    affine = affine_append (way ++ Past first ∷ []) (Past other ∷ []) (affine_append way (Past first ∷ []) c.affine tt) tt;
  }),
)
along_by (Does line p rest) way e0 e a c = (
  c,
  along_by rest (way ++ Behind p ∷ []) e0 (after_plain p e) a.1 (record {
    turns = c.turns;
    visits = one_more way (Behind p) e0 e (after_plain p e) c.turns c.visits (stays (after_plain p e));
    affine = affine_append way (Behind p ∷ []) c.affine (a.0, tt);
  }),
)

pub along_comes : (n : Nest) (e0 : Env) → AffineNest n → Along (λ hs here g. Comes e0 hs g) n [] e0
along_comes n e0 a = along_by n [] e0 e0 a (record { turns = []; visits = stays e0; affine = tt })

module _ (P Q : List Header → Nest → Env → Type 0) (f : (way : List Header) (here : Nest) (g : Env) → P way here g → Q way here g) where
  pub along_weaken : (n : Nest) (way : List Header) (e : Env) → Along P n way e → Along Q n way e
  along_weaken Nothing way e h = tt
  along_weaken (Loop line v l u s body rest) way e h = (f way _ e h.0, (λ t turn. along_weaken body (way ++ Round v l u s ∷ []) (knows e v t) (h.1 t turn)), along_weaken rest (way ++ Past body ∷ []) (behind body e) h.2)
  along_weaken (Branch line set names first has other rest) way e h = (f way _ e h.0, (λ t. along_weaken first (way ++ Given set names ∷ []) e (h.1 t)), (λ t. along_weaken other (way ++ Except set names first ∷ []) (behind first e) (h.2 t)), along_weaken rest ((way ++ Past first ∷ []) ++ Past other ∷ []) (behind other (behind first e)) h.3)
  along_weaken (Does line p rest) way e h = (f way _ e h.0, along_weaken rest (way ++ Behind p ∷ []) (after_plain p e) h.1)

-- ---- the list of actions
turns_from : (n j : ℕ) (a b c s : ℤ) → c ≡ a +ℤ pos j *ℤ s → Each (IsTurn a b s) (turns_within n c b s)
turns_from zero j a b c s e = tt
turns_from (suc n) j a b c s e = by (int_lt c b) refl (turns_from n (suc j) a b (c +ℤ s) s (next c a (pos j *ℤ s) (pos (suc j) *ℤ s) e more))
  where
    more : pos (suc j) *ℤ s ≡ pos j *ℤ s +ℤ s
    more = ap (λ z. z *ℤ s) (succ j) ∙ ring ((Var (pos j) ⊕ Var (pos 1)) ⊗ Var s) (Var (pos j) ⊗ Var s ⊕ Var s) (omega arith)
      where
        succ : (j : ℕ) → pos (suc j) ≡ pos j +ℤ pos 1
        succ j = omega (arith, ints)

    next : (c a x y : ℤ) → c ≡ a +ℤ x → y ≡ x +ℤ s → c +ℤ s ≡ a +ℤ y
    next c a x y e f = omega (arith, ints, e, f)

    by : (t : Bool) → int_lt c b ≡ t → Each (IsTurn a b s) (turns_within n (c +ℤ s) b s) → Each (IsTurn a b s) (cond t (c ∷ turns_within n (c +ℤ s) b s) [])
    by true t h = ((j, e, grind (arith, ints, t)), h)
    by false t h = tt

pub turns_are : (a b s : ℤ) → pos 0 <ℤ s → Each (IsTurn a b s) (turns a b s)
unfolding turns
turns_are a b s h =
    let m : int_max (pos 1) s ≡ s = grind (arith, ints, h) in
    subst (λ r. Each (IsTurn a b s) (turns_within (gap (b -ℤ a)) a b r)) (sym m) (turns_from (gap (b -ℤ a)) 0 a b a s (start a s))
  where
    start : (a s : ℤ) → a ≡ a +ℤ pos 0 *ℤ s
    start a s = let e : pos 0 *ℤ s ≡ pos 0 = ring (Var (pos 0) ⊗ Var s) (Var (pos 0)) (omega arith) in omega (arith, ints, e)

each_flat : {A B : Type 0} (P : A → Type 0) (Q : B → Type 0) (f : A → List B) (xs : List A) → Each P xs → ((x : A) → P x → Each Q (f x)) → Each Q (flat_map f xs)
each_flat P Q f [] h g = tt
each_flat P Q f (x ∷ xs) h g = Each-append Q (f x) (flat_map f xs) (g x h.0) (each_flat P Q f xs h.1 g)

module _ (P : List Header → Nest → Env → Type 0) (Q : Action → Type 0) (f : (way : List Header) (line : ℕ) (p : Plain) (rest : Nest) (g : Env) → P way (Does line p rest) g → Q (action_of p g)) where
  pub every_action : (n : Nest) (way : List Header) (e : Env) → AffineNest n → Along P n way e → Each Q (actions n e)
  unfolding actions
  every_action Nothing way e a h = tt
  every_action (Loop line v l u s body rest) way e a h =
      Each-append Q (flat_map (λ t. actions body (knows e v t)) (turns (lower_of e l) (upper_of e u) s)) (actions rest (behind body e))
      (each_flat (IsTurn (lower_of e l) (upper_of e u) s) Q (λ t. actions body (knows e v t)) (turns (lower_of e l) (upper_of e u) s) (turns_are (lower_of e l) (upper_of e u) s a.2)
      (λ t turn. every_action body (way ++ Round v l u s ∷ []) (knows e v t) a.3 (h.1 t turn)))
      (every_action rest (way ++ Past body ∷ []) (behind body e) a.4 h.2)
  every_action (Branch line set names first has other rest) way e a h =
      Each-append Q (cond (holds_at e set names) (actions first e) (actions other (behind first e))) (actions rest (behind other (behind first e)))
      (by (holds_at e set names) refl (λ t. every_action first (way ++ Given set names ∷ []) e a.0 (h.1 t)) (λ t. every_action other (way ++ Except set names first ∷ []) (behind first e) a.1 (h.2 t)))
      (every_action rest ((way ++ Past first ∷ []) ++ Past other ∷ []) (behind other (behind first e)) a.2 h.3)
    where
      by : (t : Bool) → holds_at e set names ≡ t → (holds_at e set names ≡ true → Each Q (actions first e)) → (holds_at e set names ≡ false → Each Q (actions other (behind first e))) → Each Q (cond t (actions first e) (actions other (behind first e)))
      by true t x y = x t
      by false t x y = y t
  every_action (Does line p rest) way e a h = (f way line p rest e h.0, every_action rest (way ++ Behind p ∷ []) (after_plain p e) a.1 h.1)

-- ---- what a path names
-- a way to a statement of an affine text is affine, and so is what stands there
AffineSpot : Option Spot → Type 0
AffineSpot None = Unit {0}
AffineSpot (Some s) = AffineWay s.way × AffineNest s.here

under_affine : (h : Header) (o : Option Spot) → ((hs : List Header) → AffineWay hs → AffineWay (h ∷ hs)) → AffineSpot o → AffineSpot (under h o)
unfolding AffineSpot
under_affine h None f a = tt
under_affine h (Some s) f a = (f s.way a.0, a.1)

spot_affine : (n : Nest) (i : ℕ) (steps : List (ℕ × Bool)) → AffineNest n → AffineSpot (spot n i steps)
unfolding spot AffineSpot
spot_affine Nothing i steps a = tt
spot_affine (Loop line v l u s body rest) zero [] a = (tt, a)
spot_affine (Loop line v l u s body rest) zero (step ∷ steps) a = by step.1 (spot_affine body step.0 steps a.3)
  where
    by : (t : Bool) → AffineSpot (spot body step.0 steps) → AffineSpot (cond t None (under (Round v l u s) (spot body step.0 steps)))
    by true h = tt
    by false h = under_affine (Round v l u s) (spot body step.0 steps) (λ hs w. (a.0, a.1, a.2, w)) h
spot_affine (Loop line v l u s body rest) (suc i) steps a = under_affine (Past body) (spot rest i steps) (λ hs w. w) (spot_affine rest i steps a.4)
spot_affine (Branch line set names first has other rest) zero [] a = (tt, a)
spot_affine (Branch line set names first has other rest) zero (step ∷ steps) a = by step.1 (spot_affine first step.0 steps a.0) (spot_affine other step.0 steps a.1)
  where
    by : (t : Bool) → AffineSpot (spot first step.0 steps) → AffineSpot (spot other step.0 steps) → AffineSpot (cond t (under (Except set names first) (spot other step.0 steps)) (under (Given set names) (spot first step.0 steps)))
    by true h k = under_affine (Except set names first) (spot other step.0 steps) (λ hs w. w) k
    by false h k = under_affine (Given set names) (spot first step.0 steps) (λ hs w. w) h
spot_affine (Branch line set names first has other rest) (suc i) steps a =
    under_affine (Past first) (under (Past other) (spot rest i steps)) (λ hs w. w) (under_affine (Past other) (spot rest i steps) (λ hs w. w) (spot_affine rest i steps a.2))
spot_affine (Does line p rest) zero [] a = (tt, a)
spot_affine (Does line p rest) zero (step ∷ steps) a = tt
spot_affine (Does line p rest) (suc i) steps a = under_affine (Behind p) (spot rest i steps) (λ hs w. (a.0, w)) (spot_affine rest i steps a.1)

pub path_affine : (n : Nest) (steps : List (ℕ × Bool)) (s : Spot) → AffineNest n → at_path n steps ≡ Some s → AffineWay s.way × AffineNest s.here
unfolding AffineSpot
path_affine n steps s a e = subst AffineSpot e (by steps)
  where
    by : (steps : List (ℕ × Bool)) → AffineSpot (at_path n steps)
    by [] = tt
    by (step ∷ steps) = choose step.1 (spot_affine n step.0 steps a)
      where
        choose : (t : Bool) → AffineSpot (spot n step.0 steps) → AffineSpot (cond t None (spot n step.0 steps))
        choose true h = tt
        choose false h = h

-- ---- the laws
arrived_begins : (p : List ℤ) (g : Env) (w : Result Known LinearFault) (k : Known) → Gives w (Arrived p g) → w ≡ Ok k → BeginsPoint k p
arrived_begins p g w k h e =
    let r = subst (λ x. Gives x (Arrived p g)) e h in
    record { more = r.more; point = (seen_of k (p ++ r.more) [] g.known r.long r.holds).point }

module _ (m : Module) (valid : IsValid m) (memory : Image) (fits : Fits m memory) where
  begins : (way : List Header) (ts : List ℤ) (g : Env) → AffineWay way → Visits way (start_env m.args memory.symbols) ts g → (own : List Name) (k : Known) → place m.args way own ≡ Ok k → BeginsPoint k (memory.symbols ++ ts)
  begins way ts g a v own k e = arrived_begins (memory.symbols ++ ts) g (place m.args way own) k (place_arrives m.args memory.memrefs memory.symbols way own ts g fits.fits a v) e

  abbrev Visited : List Header → Nest → Env → Type 0
  Visited way here g = IsVisited m.args memory.symbols way g

  module _ (affine : AffineNest (nest m.body)) where
    pub places_are_points : Along Visited (nest m.body) [] (start_env m.args memory.symbols)
    places_are_points = along_weaken (λ way here g. Comes (start_env m.args memory.symbols) way g) Visited
        (λ way here g c. record { turns = c.turns; visits = c.visits; points = begins way c.turns g c.affine c.visits }) (nest m.body) [] (start_env m.args memory.symbols)
        (along_comes (nest m.body) (start_env m.args memory.symbols) affine)

    pub actions_are_visited : Each (ComesFrom m.args memory.symbols) (module_actions m memory.symbols)
    unfolding module_actions
    actions_are_visited = every_action Visited (ComesFrom m.args memory.symbols) (λ way line p rest g v. record { way = way; plain = p; env = g; visited = v; is = refl })
        (nest m.body) [] (start_env m.args memory.symbols) affine places_are_points

    pub paths_are_points : (steps : List (ℕ × Bool)) (s : Spot) → at_path (nest m.body) steps ≡ Some s → (turns : List ℤ) (g : Env) → Visits s.way (start_env m.args memory.symbols) turns g
        → (own : List Name) (k : Known) → place m.args s.way own ≡ Ok k → BeginsPoint k (memory.symbols ++ turns)
    paths_are_points steps s e turns g v = begins s.way turns g (path_affine (nest m.body) steps s affine e).0 v

-- what a valid module's text is
pub valid_places : PlacesArePoints
valid_places m valid memory fits = places_are_points m valid memory fits (valid_affine m valid)

pub valid_actions : ActionsAreVisited
valid_actions m valid memory fits = actions_are_visited m valid memory fits (valid_affine m valid)

pub valid_paths : PathsArePoints
valid_paths m valid memory fits = paths_are_points m valid memory fits (valid_affine m valid)
