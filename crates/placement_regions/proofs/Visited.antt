-- What holds of a loop in each visit of it holds of it each time that the text comes to it; and the path that names it.
use Rattle.std.proofs.Common.{◌≡◌, ℕ, zero, suc, ℤ, pos, ◌<ℤ◌, List, [], ◌∷◌, Option, Some, refl, ap, subst, Bool, true, false}
use Rattle.constraint_set.specs.Lists.{Each}
use Rattle.affine_ast.specs.declared.name.Name.{Name}
use Rattle.affine_ast.specs.declared.types.Bound.{Bound}
use Rattle.affine_ast.specs.Nest.{Nest, Nothing, Loop, Branch, Does}
use Rattle.direct_meaning.specs.Turns.{turns}
use Rattle.direct_meaning.specs.Pure.{AffineNest}
use Rattle.direct_meaning.specs.Static.{Env, knows, lower_of, upper_of, holds_at}
use Rattle.direct_meaning.specs.Actions.{after_plain, behind}
use Rattle.boxes.specs.Every.{Every}
use Rattle.nest_domain.specs.Ways as ways
use Rattle.nest_domain.specs.Ways.{under, spot, at_path}
use Rattle.nest_domain.specs.Visits.{IsTurn, Visits}
use Rattle.nest_domain.proofs.Alongs.{turns_are}
use Rattle.placement_texts.specs.Template.{Placement}
use Rattle.placement_texts.specs.Spots.{Spot, Here, Behind, Inside, Other, IsLoop, Fine, FineAt}
use Rattle.placement_texts.proofs.Everys.{every_along}
use Rattle.staging_laws.specs.Spared.{AtLoop}
use Rattle.placement_regions.specs.Sites.{from_spot, alone, way_to}

from_each : (a b s : ℤ) (P : ℤ → Type 0) → ((t : ℤ) → IsTurn a b s t → P t) → (ts : List ℤ) → Each (IsTurn a b s) ts → Every P ts
from_each a b s P h [] k = tt
from_each a b s P h (t ∷ ts) k = (h t k.0, from_each a b s P h ts k.1)

pub each_turn : (a b s : ℤ) → pos 0 <ℤ s → (P : ℤ → Type 0) → ((t : ℤ) → IsTurn a b s t → P t) → Every P (turns a b s)
each_turn a b s less P h = from_each a b s P h (turns a b s) (turns_are a b s less)

module _ (Q : Nest → Env → Type 0) where
  pub at_visits : (s : Spot) (n : Nest) (e : Env) → AffineNest n → IsLoop s n → ((ts : List ℤ) (f : Env) → Visits (way_to s n) e ts f → Q (alone (from_spot s n)) f) → AtLoop Q s n e
  at_visits s Nothing e a i h = tt
  at_visits Here (Loop line v l u step body rest) e a i h = h [] e (refl, refl)
  at_visits (Behind s) (Loop line v l u step body rest) e a i h = at_visits s rest (behind body e) a.4 i h
  at_visits (Inside s) (Loop line v l u step body rest) e a i h =
      each_turn (lower_of e l) (upper_of e u) step a.2 (λ t. AtLoop Q s body (knows e v t)) (λ t turn. at_visits s body (knows e v t) a.3 i (λ ts f w. h (t ∷ ts) f (turn, w)))
  at_visits (Other s) (Loop line v l u step body rest) e a i h = tt
  at_visits Here (Branch line set ns first has other rest) e a i h = tt
  at_visits (Behind s) (Branch line set ns first has other rest) e a i h = at_visits s rest (behind other (behind first e)) a.2 i h
  at_visits (Inside s) (Branch line set ns first has other rest) e a i h = λ so. at_visits s first e a.0 i (λ ts f w. h ts f (so, w))
  at_visits (Other s) (Branch line set ns first has other rest) e a i h = λ so. at_visits s other (behind first e) a.1 i (λ ts f w. h ts f (so, w))
  at_visits (Behind s) (Does line q rest) e a i h = at_visits s rest (after_plain q e) a.1 i h
  at_visits Here (Does line q rest) e a i h = tt
  at_visits (Inside s) (Does line q rest) e a i h = tt
  at_visits (Other s) (Does line q rest) e a i h = tt

pub fine_from : (p : Placement) (order first : ℕ) (s : Spot) (n : Nest) (e : Env) → AtLoop (Fine p order first) s n e → FineAt p order first s n e
fine_from p order first s Nothing e h = tt
fine_from p order first Here (Loop line v l u step body rest) e h = h
fine_from p order first (Behind s) (Loop line v l u step body rest) e h = fine_from p order first s rest (behind body e) h
fine_from p order first (Inside s) (Loop line v l u step body rest) e h =
    every_along (λ t. AtLoop (Fine p order first) s body (knows e v t)) (λ t. FineAt p order first s body (knows e v t)) (λ t k. fine_from p order first s body (knows e v t) k) (turns (lower_of e l) (upper_of e u) step) h
fine_from p order first (Other s) (Loop line v l u step body rest) e h = tt
fine_from p order first Here (Branch line set ns one has other rest) e h = tt
fine_from p order first (Behind s) (Branch line set ns one has other rest) e h = fine_from p order first s rest (behind other (behind one e)) h
fine_from p order first (Inside s) (Branch line set ns one has other rest) e h = λ t. fine_from p order first s one e (h t)
fine_from p order first (Other s) (Branch line set ns one has other rest) e h = λ t. fine_from p order first s other (behind one e) (h t)
fine_from p order first (Behind s) (Does line q rest) e h = fine_from p order first s rest (after_plain q e) h
fine_from p order first Here (Does line q rest) e h = tt
fine_from p order first (Inside s) (Does line q rest) e h = tt
fine_from p order first (Other s) (Does line q rest) e h = tt

-- ---- the path

-- how many statements of its region stand before it, and the path from there inward
abbrev pub position_of : Spot → ℕ
position_of Here = 0
position_of (Behind s) = suc (position_of s)
position_of (Inside s) = 0
position_of (Other s) = 0

abbrev pub inner_of : Spot → List (ℕ × Bool)
inner_of Here = []
inner_of (Behind s) = inner_of s
inner_of (Inside s) = (position_of s, false) ∷ inner_of s
inner_of (Other s) = (position_of s, true) ∷ inner_of s

spot_is : (s : Spot) (n : Nest) → IsLoop s n → spot n (position_of s) (inner_of s) ≡ Some (record { way = way_to s n; here = from_spot s n })
unfolding spot
spot_is s Nothing i = absurd i
spot_is Here (Loop line v l u step body rest) i = refl
spot_is (Behind s) (Loop line v l u step body rest) i = ap (under (ways.Past body)) (spot_is s rest i)
spot_is (Inside s) (Loop line v l u step body rest) i = ap (under (ways.Round v l u step)) (spot_is s body i)
spot_is (Other s) (Loop line v l u step body rest) i = absurd i
spot_is Here (Branch line set ns first has other rest) i = absurd i
spot_is (Behind s) (Branch line set ns first has other rest) i = ap (λ o. under (ways.Past first) (under (ways.Past other) o)) (spot_is s rest i)
spot_is (Inside s) (Branch line set ns first has other rest) i = ap (under (ways.Given set ns)) (spot_is s first i)
spot_is (Other s) (Branch line set ns first has other rest) i = ap (under (ways.Except set ns first)) (spot_is s other i)
spot_is (Behind s) (Does line q rest) i = ap (under (ways.Behind q)) (spot_is s rest i)
spot_is Here (Does line q rest) i = absurd i
spot_is (Inside s) (Does line q rest) i = absurd i
spot_is (Other s) (Does line q rest) i = absurd i

pub path_to : Spot → List (ℕ × Bool)
path_to s = (position_of s, false) ∷ inner_of s

pub path_is : (s : Spot) (n : Nest) → IsLoop s n → at_path n (path_to s) ≡ Some (record { way = way_to s n; here = from_spot s n })
unfolding path_to
path_is s n i = spot_is s n i

-- a loop stands there
pub record IsLoopText (n : Nest) : Type 0 where
  pub line : ℕ
  pub variable : Name
  pub lower : Bound
  pub upper : Bound
  pub step : ℤ
  pub body : Nest
  pub rest : Nest
  pub is : n ≡ Loop line variable lower upper step body rest

pub loop_there : (s : Spot) (n : Nest) → IsLoop s n → IsLoopText (from_spot s n)
loop_there s Nothing i = absurd i
loop_there Here (Loop line v l u step body rest) i = record { line = line; variable = v; lower = l; upper = u; step = step; body = body; rest = rest; is = refl }
loop_there (Behind s) (Loop line v l u step body rest) i = loop_there s rest i
loop_there (Inside s) (Loop line v l u step body rest) i = loop_there s body i
loop_there (Other s) (Loop line v l u step body rest) i = absurd i
loop_there Here (Branch line set ns first has other rest) i = absurd i
loop_there (Behind s) (Branch line set ns first has other rest) i = loop_there s rest i
loop_there (Inside s) (Branch line set ns first has other rest) i = loop_there s first i
loop_there (Other s) (Branch line set ns first has other rest) i = loop_there s other i
loop_there (Behind s) (Does line q rest) i = loop_there s rest i
loop_there Here (Does line q rest) i = absurd i
loop_there (Inside s) (Does line q rest) i = absurd i
loop_there (Other s) (Does line q rest) i = absurd i

-- a loop of an affine text is affine
pub alone_affine : (s : Spot) (n : Nest) → AffineNest n → IsLoop s n → (here : IsLoopText (from_spot s n)) → AffineNest (Loop here.line here.variable here.lower here.upper here.step here.body Nothing)
alone_affine s n a i here = let k = subst AffineNest here.is (spot_affine s n a i) in (k.0, k.1, k.2, k.3, tt)
  where
    spot_affine : (s : Spot) (n : Nest) → AffineNest n → IsLoop s n → AffineNest (from_spot s n)
    spot_affine s Nothing a i = absurd i
    spot_affine Here (Loop line v l u step body rest) a i = a
    spot_affine (Behind s) (Loop line v l u step body rest) a i = spot_affine s rest a.4 i
    spot_affine (Inside s) (Loop line v l u step body rest) a i = spot_affine s body a.3 i
    spot_affine (Other s) (Loop line v l u step body rest) a i = absurd i
    spot_affine Here (Branch line set ns first has other rest) a i = absurd i
    spot_affine (Behind s) (Branch line set ns first has other rest) a i = spot_affine s rest a.2 i
    spot_affine (Inside s) (Branch line set ns first has other rest) a i = spot_affine s first a.0 i
    spot_affine (Other s) (Branch line set ns first has other rest) a i = spot_affine s other a.1 i
    spot_affine (Behind s) (Does line q rest) a i = spot_affine s rest a.1 i
    spot_affine Here (Does line q rest) a i = absurd i
    spot_affine (Inside s) (Does line q rest) a i = absurd i
    spot_affine (Other s) (Does line q rest) a i = absurd i
