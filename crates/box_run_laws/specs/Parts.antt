-- A list of parts with two readings: the actions of the old run, and those of the run with one more placement.
use Rattle.std.specs.Prelude.{◌≡◌, ℕ, ◌<◌, Bool, true, false, List, [], ◌∷◌, ◌++◌, map, nat_eq}
use Rattle.std.specs.List.{list_any}
use Rattle.affine_ast.specs.declared.name.Name.{Name}
use Rattle.bus_model.specs.declared.transfer.Transfer.{Transfer}
use Rattle.direct_meaning.specs.Action.{Slow, Action, Known, Stores, Starts, Waits}
use Rattle.prompt_semantics.specs.Device.{without}
use Rattle.boxes.specs.Every.{Every}
use Rattle.box_run_laws.specs.Layouts.{Numbering, nowhere, moved}
use Rattle.box_run_laws.specs.Owned.{OwnAction}
use Rattle.box_run_laws.specs.Boxes.{Half, boxed, Distinct, Allows}

pub data Part (X : Type 0) : Type 0 where
  -- an action outside the placement
  Stays : Action → Part X
  -- a place or a constant of the template
  Made : Part X
  -- one run of the placement's loop
  Runs : X → Part X

-- the old run's actions, by those of each run of the loop
abbrev pub original : {X : Type 0} → (X → List Action) → List (Part X) → List Action
original old [] = []
original old (Stays a ∷ ps) = a ∷ original old ps
original old (Made ∷ ps) = original old ps
original old (Runs x ∷ ps) = old x ++ original old ps

-- the new run's actions, likewise
abbrev pub staged : {X : Type 0} → Numbering → (X → List Action) → List (Part X) → List Action
staged nu new [] = []
staged nu new (Stays a ∷ ps) = moved nu nowhere a ∷ staged nu new ps
staged nu new (Made ∷ ps) = Known ∷ staged nu new ps
staged nu new (Runs x ∷ ps) = new x ++ staged nu new ps

-- a single placement's loop: the slow place that each cell holds, and the loop's actions
pub record Box : Type 0 where
  pub place : ℕ → ℕ
  pub inner : List Action

abbrev pub box_old : Box → List Action
box_old x = x.inner

-- what stands before the loop and behind it, for the slow place of each cell
pub record Brackets : Type 0 where
  pub before : (ℕ → ℕ) → List Action
  pub behind : (ℕ → ℕ) → List Action

abbrev pub box_new : Numbering → Half → Brackets → Box → List Action
box_new nu b k x = k.before x.place ++ (map (moved nu (boxed b x.place)) x.inner ++ k.behind x.place)

-- the transfers that are outstanding behind an action, and behind a list of actions
abbrev pub left_by : Action → List Transfer → List Transfer
left_by (Starts t) ts = ts ++ t ∷ []
left_by (Waits tag count) ts = without tag ts
left_by a ts = ts

abbrev pub left_behind : List Action → List Transfer → List Transfer
left_behind [] ts = ts
left_behind (a ∷ xs) ts = left_behind xs (left_by a ts)

-- whether an action stores to a slow place
abbrev pub stores_to : ℕ → Action → Bool
stores_to p (Stores x (Slow q)) = nat_eq q p
stores_to p a = false

-- a box in the slow list, no place of it twice
pub record IsBox (count total : ℕ) (place : ℕ → ℕ) : Type 0 where
  pub distinct : Distinct place count
  pub inside : (k : ℕ) → k < count → place k < total

-- what one run of a single placement's loop has to meet: no outstanding transfer meets the box, the loop's actions may be
-- done while the box is in fast memory, and where the box isn't read in they store to all of it
pub record MeetsBox (own : Name → Bool) (nu : Numbering) (b : Half) (total : ℕ) (Fits : (ℕ → ℕ)
    → Type 0) (x : Box) (ts : List Transfer) : Type 0 where
  pub box : IsBox b.count total x.place
  pub fits : Fits x.place
  pub misses : Every (Allows b x.place) ts
  pub owned : Every (OwnAction own nu (boxed b x.place)) x.inner
  pub covered : b.reads ≡ false → b.writes ≡ true → (k : ℕ) → k < b.count
      → list_any (stores_to (x.place k)) x.inner ≡ true

-- what a list of parts has to meet, where these transfers are outstanding before it
abbrev pub Meets : {X : Type 0} → (Name → Bool) → Numbering → (X → List Action) → (X → List Transfer → Type 0)
    → List (Part X) → List Transfer → Type 0
Meets own nu old MeetsRun [] ts = Unit {0}
Meets own nu old MeetsRun (Stays a ∷ ps) ts = OwnAction own nu nowhere a × Meets own nu old MeetsRun ps (left_by a ts)
Meets own nu old MeetsRun (Made ∷ ps) ts = Meets own nu old MeetsRun ps ts
Meets own nu old MeetsRun (Runs x ∷ ps) ts = MeetsRun x ts × Meets own nu old MeetsRun ps (left_behind (old x) ts)
