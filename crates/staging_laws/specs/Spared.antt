-- What a placement asks of the statements of its loop and of the text round it, beside names, scope and region.
use Rattle.std.specs.Prelude.{◌≡◌, ℕ, ◌+◌, ◌<◌, ◌≤◌, ℤ, Contains, Bool, true, false, List, [], ◌∷◌, Option, Some, None}
use Rattle.std.specs.List.{list_any}
use Rattle.affine_ast.specs.declared.name.Name.{Name}
use Rattle.affine_ast.specs.declared.types.Access.{Access}
use Rattle.affine_ast.specs.declared.types.MemrefType.{MemrefType}
use Rattle.affine_ast.specs.Names.{same_name}
use Rattle.affine_ast.specs.Nest.{Plain, Nest, Nothing, Loop, Branch, Does, Load, Store, RawLoad, RawStore, Dealloc, Start, Wait}
use Rattle.affine_ast.specs.Sizes.{product}
use Rattle.bus_model.specs.declared.transfer.Transfer.{Transfer}
use Rattle.bus_model.specs.Places.{slow_place}
use Rattle.direct_meaning.specs.Turns.{turns}
use Rattle.direct_meaning.specs.Action.{Home, SlowMemref, FastMemref, TagMemref, Place, Slow, Fast, Outside, Action, Loads, Stores, RawLoads, RawStores, Starts}
use Rattle.direct_meaning.specs.Static.{Env, knows, results_of, lower_of, upper_of, holds_at}
use Rattle.direct_meaning.specs.Actions.{action_of, after_plain, behind, actions}
use Rattle.boxes.specs.Boxes.{Side}
use Rattle.placement_texts.specs.Boxes.{sizes_of, extents_of, is_of}
use Rattle.placement_texts.specs.Labels.{Numbers, tag_up}
use Rattle.boxes.specs.Every.{Every}
use Rattle.placement_texts.specs.Template.{Placement}
use Rattle.placement_texts.specs.Spots.{Spot, Here, Behind, Inside, Other}
use Rattle.placement_texts.specs.Parts as text
use Rattle.box_run_laws.specs.Parts.{left_by, left_behind, stores_to}
use Rattle.staging_laws.specs.Joined.{places_in, IsStaged}

-- ---- actions

-- none of the memref's slow places is an element of another memref, or of a transfer
module _ (first : ℕ) (sizes : List ℕ) where
  abbrev pub HomeAside : Option Home → List ℕ → Type 0
  HomeAside (Some (SlowMemref number low)) others = (k : ℕ) → k < product others → is_of first sizes (low + k) ≡ false
  HomeAside (Some (FastMemref number)) others = Unit {0}
  HomeAside (Some (TagMemref low)) others = Unit {0}
  HomeAside None others = Unit {0}

  abbrev pub TransferAside : Transfer → Type 0
  TransferAside t = (j : ℕ) → j < t.count → is_of first sizes (slow_place t j) ≡ false

  -- a place of the memref is accessed only where the box is read in, or written out
  abbrev pub PlaceSpared : Bool → Place → Type 0
  PlaceSpared allowed (Slow q) = is_of first sizes q ≡ true → allowed ≡ true
  PlaceSpared allowed (Fast n h c) = Unit {0}
  PlaceSpared allowed Outside = Unit {0}

  -- an action of the loop: it loads of the memref only where the box is read in, stores to it only where it is written out, and
  -- does nothing else with it
  abbrev pub Spares : Placement → Action → Type 0
  Spares p (Loads r place) = PlaceSpared p.reads place
  Spares p (Stores x place) = PlaceSpared p.writes place
  Spares p (RawLoads r home others at) = HomeAside home others
  Spares p (RawStores x home others at) = HomeAside home others
  Spares p (Starts t) = TransferAside t
  Spares p a = Unit {0}

-- nothing is outstanding where the text comes to the loop, if these transfers are outstanding before the parts
abbrev pub QuietFrom : List text.Part → List Transfer → Type 0
QuietFrom [] ts = Unit {0}
QuietFrom (text.Stays x ∷ ps) ts = QuietFrom ps (left_by x ts)
QuietFrom (text.Made ∷ ps) ts = QuietFrom ps ts
QuietFrom (text.Box spans xs ∷ ps) ts = (ts ≡ []) × QuietFrom ps (left_behind xs ts)

-- each element of the box is stored to
abbrev pub StoresAll : ℕ → List Side → List Action → Type 0
StoresAll first spans xs = (k : ℕ) → k < product (extents_of spans)
    → list_any (stores_to (places_in first spans k)) xs ≡ true

-- one run of the loop, in a slow memory of so many places
pub record IsRun (p : Placement) (first total : ℕ) (spans : List Side) (xs : List Action) : Type 0 where
  pub box : IsStaged p.how spans
  pub fits : first + product (sizes_of spans) ≤ total
  pub spares : Every (Spares first (sizes_of spans) p) xs
  pub covered : p.reads ≡ false → p.writes ≡ true → StoresAll first spans xs

-- ---- texts

-- what a statement of the loop does with the memref, by its name
abbrev pub Keeps : Placement → Plain → Type 0
Keeps p (Load r n at ty) = same_name p.memref n ≡ true → p.reads ≡ true
Keeps p (Store x n at ty) = same_name p.memref n ≡ true → p.writes ≡ true
Keeps p (RawLoad r n at ty) = same_name p.memref n ≡ false
Keeps p (RawStore x n at ty) = same_name p.memref n ≡ false
Keeps p (Start a a_at b b_at t t_at n stride types) = (same_name p.memref a ≡ false) × (same_name p.memref b ≡ false)
Keeps p q = Unit {0}

-- memrefs are apart: raw accesses of other memrefs, and transfers of others, have none of the memref's slow places
abbrev pub Aside : Name → ℕ → List ℕ → Plain → Env → Type 0
Aside m first sizes (RawLoad r n at ty) e = same_name m n ≡ false → HomeAside first sizes (e.home n) ty.sizes
Aside m first sizes (RawStore x n at ty) e = same_name m n ≡ false → HomeAside first sizes (e.home n) ty.sizes
Aside m first sizes (Start a a_at b b_at t t_at n stride types) e =
    same_name m a ≡ false → same_name m b ≡ false → (x : Transfer)
    → action_of (Start a a_at b b_at t t_at n stride types) e ≡ Starts x → TransferAside first sizes x
Aside m first sizes q e = Unit {0}

-- the tags of a dealloc move up together
abbrev pub ReleasedTogether : Numbers → Plain → Env → Type 0
ReleasedTogether new (Dealloc m ty) e = (first : ℕ) → e.home m ≡ Some (TagMemref first) → (k : ℕ)
    → k < product ty.sizes → tag_up new (first + k) ≡ tag_up new first + k
ReleasedTogether new q e = Unit {0}

-- each start is waited for at once, by its own tag
abbrev pub WaitsNext : Name → Access → List MemrefType → Nest → Type 0
WaitsNext t at (a_ty ∷ b_ty ∷ t_ty ∷ []) (Does line (Wait u u_at n ty) rest) = (u ≡ t) × (u_at ≡ at) × (ty ≡ t_ty)
WaitsNext t at types n = ⊥

abbrev pub WaitedFor : Nest → Type 0
WaitedFor Nothing = Unit {0}
WaitedFor (Loop line v l u s body rest) = WaitedFor body × WaitedFor rest
WaitedFor (Branch line set ns first has other rest) = WaitedFor first × WaitedFor other × WaitedFor rest
WaitedFor (Does line (Start a a_at b b_at t t_at n stride types) rest) = WaitsNext t t_at types rest × WaitedFor rest
WaitedFor (Does line q rest) = WaitedFor rest

-- what holds of the loop there each time that the text comes to it
abbrev pub AtLoop : (Nest → Env → Type 0) → Spot → Nest → Env → Type 0
AtLoop Q s Nothing e = Unit {0}
AtLoop Q Here (Loop line v l u step body rest) e = Q (Loop line v l u step body Nothing) e
AtLoop Q (Behind s) (Loop line v l u step body rest) e = AtLoop Q s rest (behind body e)
AtLoop Q (Inside s) (Loop line v l u step body rest) e = Every (λ t. AtLoop Q s body (knows e v t))
    (turns (lower_of e l) (upper_of e u) step)
AtLoop Q (Other s) (Loop line v l u step body rest) e = Unit {0}
AtLoop Q Here (Branch line set names first has other rest) e = Unit {0}
AtLoop Q (Behind s) (Branch line set names first has other rest) e = AtLoop Q s rest (behind other (behind first e))
AtLoop Q (Inside s) (Branch line set names first has other rest) e = holds_at e set names ≡ true → AtLoop Q s first e
AtLoop Q (Other s) (Branch line set names first has other rest) e = holds_at e set names ≡ false
    → AtLoop Q s other (behind first e)
AtLoop Q (Behind s) (Does line q rest) e = AtLoop Q s rest (after_plain q e)
AtLoop Q s (Does line q rest) e = Unit {0}

-- what holds of the loop there, by its text alone
abbrev pub LoopIn : (Nest → Type 0) → Spot → Nest → Type 0
LoopIn Q s Nothing = Unit {0}
LoopIn Q Here (Loop line v l u step body rest) = Q (Loop line v l u step body Nothing)
LoopIn Q (Behind s) (Loop line v l u step body rest) = LoopIn Q s rest
LoopIn Q (Inside s) (Loop line v l u step body rest) = LoopIn Q s body
LoopIn Q (Other s) (Loop line v l u step body rest) = Unit {0}
LoopIn Q Here (Branch line set names first has other rest) = Unit {0}
LoopIn Q (Behind s) (Branch line set names first has other rest) = LoopIn Q s rest
LoopIn Q (Inside s) (Branch line set names first has other rest) = LoopIn Q s first
LoopIn Q (Other s) (Branch line set names first has other rest) = LoopIn Q s other
LoopIn Q (Behind s) (Does line q rest) = LoopIn Q s rest
LoopIn Q s (Does line q rest) = Unit {0}

-- in a visit of a list of statements, a store to the memref with these subscripts is come to
pub record IsStored (m : Name) (order first : ℕ) (sizes : List ℕ) (zs : List ℤ) (n : Nest) (f : Env) : Type 0 where
  pub value : Name
  pub at : Access
  pub ty : MemrefType
  pub env : Env
  pub home : env.home m ≡ Some (SlowMemref order first)
  pub type : ty.sizes ≡ sizes
  pub subscripts : results_of env at ≡ zs
  pub found : Contains (actions n f) (action_of (Store value m at ty) env)
