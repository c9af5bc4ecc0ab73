-- What holds wherever a walk stands: its tables are those of its names, every number fits, and all memory is there.
use Rattle.std.specs.Prelude.{◌≡◌, ℕ, ◌+◌, ◌≤◌, ◌<◌, max, List, [], ◌∷◌, length, Option, Some, None}
use Rattle.affine_ast.specs.declared.name.Name.{Name}
use Rattle.direct_meaning.specs.Action.{Action}
use Rattle.direct_meaning.specs.Static.{Env}
use Rattle.walk_program.specs.declared.statement.Statement.{Statement}
use Rattle.walk_program.specs.Counted.{CountsOf, Counted}
use Rattle.walk_program.specs.Numbered.{Numbered}
use Rattle.walk_program.specs.Tree.{Tree, Nothing, Loop, Branch, Does, tree}
use Rattle.walk_actions.specs.declared.action.Action as code
use Rattle.walk_actions.specs.Looked.{env_of}
use Rattle.walk_actions.specs.Meant.{meant, NamesIn}
use Rattle.nest_walk.specs.declared.frame.Frame.{Frame}
use Rattle.nest_walk.specs.declared.frame.Frame.TheVariants.{Rest, Known, Memref, Turns}
use Rattle.nest_walk.specs.Standing.{Standing}
use Rattle.nest_walk.specs.Jobs.{Stand, stand_of, region_of, at_numbers, jobs_of, jobs_at, all_actions, steps_at}
use Rattle.nest_walk.specs.Jobs.{SafeJobs}

-- how many frames statements need above their own: a loop two and those of its body, a condition one and those of a
-- region, a plain statement one for what its name had before
unfoldable pub room_of : Tree → ℕ
room_of Nothing = 0
room_of (Loop line v l u s inside body rest) = max (2 + room_of body) (room_of rest)
room_of (Branch line set operands first n has other m rest) =
    max (1 + max (room_of first) (room_of other)) (room_of rest)
room_of (Does line p rest) = 1 + room_of rest

unfoldable pub room : List Statement → ℕ
room statements = room_of (tree statements)

abbrev pub other_room : Option (List Statement) → ℕ
other_room None = 0
other_room (Some statements) = room statements

-- statements whose numbers are those of names, whose operands have room and whose counts are right
pub record AreMade (names : List Name) (width : ℕ) (statements : List Statement) : Type 0 where
  pub numbered : Numbered (length names) width (tree statements)
  pub counted : Counted names (tree statements)

abbrev pub IsMadeFrame : List Name → ℕ → Frame → Type 0
IsMadeFrame names width (Rest statements passed) = AreMade names width statements.now
IsMadeFrame names width (Known n before) = n < length names
IsMadeFrame names width (Memref n before) = n < length names
IsMadeFrame names width (Turns v before at upper step start inside body) =
    (v < length names) × AreMade names width body.now × CountsOf (region_of names body.now) inside

-- how many frames stand above one, at most, once it is taken
abbrev pub need : Frame → ℕ
need (Rest statements passed) = room statements.now
need (Known n before) = 0
need (Memref n before) = 0
need (Turns v before at upper step start inside body) = 1 + room body.now

-- the frames, the highest first, each with room above it
unfoldable pub Stacked : List Name → ℕ → ℕ → List Frame → Type 0
Stacked names width capacity [] = Unit {0}
Stacked names width capacity (frame ∷ frames) = IsMadeFrame names width frame × (length frames + need frame ≤ capacity)
    × Stacked names width capacity frames

-- a walk that can go on from where it stands
pub record IsSound (s : Stand) : Type 0 where
  pub made : AreMade s.names s.width s.rest
  pub uses : s.width ≤ s.uses
  pub stacked : Stacked s.names s.width s.capacity s.frames
  pub room : length s.frames + room s.rest ≤ s.capacity
  pub safe : SafeJobs (jobs_at s)

abbrev pub IsReady : Standing → Type 0
IsReady p = IsSound (stand_of p)

-- the same names stand for what this says, and nothing else is different
pub record Under (p q : Standing) (e : Env) : Type 0 where
  pub others : q ≡ record p { bindings = q.bindings }
  pub names : q.bindings.names ≡ p.bindings.names
  pub env : env_of q.bindings ≡ e

-- from where a walk stands it came to another place, at which as much is left to do in fewer steps
pub record Skips (s t : Stand) : Type 0 where
  pub sound : IsSound t
  pub left : all_actions (jobs_at s) ≡ all_actions (jobs_at t)
  pub fewer : steps_at t < steps_at s
  pub names : t.names ≡ s.names
  pub width : t.width ≡ s.width

-- frames over those of a walk, under what is known now: where what they put back is there again, what is left to do is
-- the same
pub record Opens (s : Stand) (frames : List Frame) (e : Env) : Type 0 where
  pub back : (f g : ℕ) → jobs_of s.names frames (at_numbers f g e) ≡ jobs_of s.names s.frames (at_numbers f g s.env)
  pub more : length frames ≤ length s.frames + 1
  pub stacked : Stacked s.names s.width s.capacity frames

-- from where a walk stands it came to another place by an action
pub record Acts (s t : Stand) (action : Action) : Type 0 where
  pub sound : IsSound t
  pub left : all_actions (jobs_at s) ≡ action ∷ all_actions (jobs_at t)
  pub names : t.names ≡ s.names
  pub width : t.width ≡ s.width

-- a walk moved on, with as much left to do
abbrev pub Moved : Standing → Standing → Type 0
Moved p q = Skips (stand_of p) (stand_of q)

-- what is known changed, and what it was is put down
pub record Opened (p q : Standing) (e : Env) : Type 0 where
  pub opens : Opens (stand_of p) q.frames e
  pub at : stand_of q ≡ record (stand_of p) { frames = q.frames; env = e }

-- a walk moved on by an action
abbrev pub Acted : Standing → Standing → Action → Type 0
Acted p q action = Acts (stand_of p) (stand_of q) action

-- a walk moved on by an action by number, whose numbers are those of names
pub record Did (action : code.Action) (p q : Standing) : Type 0 where
  pub acted : Acted p q (meant p.bindings.names q.subscripts action)
  pub inside : NamesIn (length p.bindings.names) q.subscripts action

-- a walk moved on, by an action or with as much left to do
abbrev pub Steps : Option code.Action → Standing → Standing → Type 0
Steps None p q = Moved p q
Steps (Some action) p q = Did action p q
