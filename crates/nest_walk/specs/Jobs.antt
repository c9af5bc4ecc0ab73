-- What is left to do where a walk stands, as a list of regions and loops, each under what is known at its place.
use Rattle.std.specs.Prelude.{ℕ, ◌+◌, ℤ, pos, ◌≤ℤ◌, ◌<ℤ◌, List, [], ◌∷◌, ◌++◌, length, flat_map, if◌then◌else◌}
use Rattle.affine_ast.specs.declared.name.Name.{Name}
use Rattle.affine_ast.specs.Nest.{Nest, Nothing, Loop, Branch, Does}
use Rattle.direct_meaning.specs.Action.{Action}
use Rattle.direct_meaning.specs.Turns.{turns}
use Rattle.direct_meaning.specs.Static.{Env, knows, lower_of, upper_of, holds_at}
use Rattle.direct_meaning.specs.Actions.{after_plain, behind, actions}
use Rattle.valid_laws.specs.Safe.{CountsFit, SafeNest}
use Rattle.walk_program.specs.declared.statement.Counts.{Counts}
use Rattle.walk_program.specs.declared.statement.Statement.{Statement}
use Rattle.walk_program.specs.Names.{name_at}
use Rattle.walk_program.specs.Reading.{nest_of}
use Rattle.walk_program.specs.Tree.{tree}
use Rattle.walk_actions.specs.declared.action.Operand.{Operand}
use Rattle.walk_actions.specs.Looked.{env_of, homes_meant, with_known, with_home}
use Rattle.nest_walk.specs.declared.frame.Frame.{Frame}
use Rattle.nest_walk.specs.declared.frame.Frame.TheVariants.{Rest, Known, Memref, Turns}
use Rattle.nest_walk.specs.Standing.{Standing}

pub data Job : Type 0 where
  -- the statements of a region
  Region : Nest → Env → Job
  -- the turns of a loop: its variable, the next turn, the end, the step and the body, under what is known at the loop
  Turning : Name → ℤ → ℤ → ℤ → Nest → Env → Job

abbrev pub job_actions : Job → List Action
job_actions (Region region e) = actions region e
job_actions (Turning v at upper step body e) = flat_map (λ t. actions body (knows e v t)) (turns at upper step)

-- the actions of all jobs, one after the other
abbrev pub all_actions : List Job → List Action
all_actions [] = []
all_actions (job ∷ jobs) = job_actions job ++ all_actions jobs

-- the statements of a list, by the names of their numbers
abbrev pub region_of : List Name → List Statement → Nest
region_of names statements = nest_of names (tree statements)

-- behind text in which so much is allocated
abbrev pub past : Counts → Env → Env
past counts e = record e { fasts = e.fasts + counts.fasts; tags = e.tags + counts.tags }

-- where so much is allocated before in the text
abbrev pub at_numbers : ℕ → ℕ → Env → Env
at_numbers f t e = record e { fasts = f; tags = t }

abbrev pub at_counts : Counts → Env → Env
at_counts counts e = record e { fasts = counts.fasts; tags = counts.tags }

-- where a walk stands: the names of the module, what is open below with the highest first, the statements in hand, what
-- is known there, the subscripts beside the last action, and room for the operands of a map, for subscripts and for
-- frames
pub record Stand : Type 0 where
  pub names : List Name
  pub frames : List Frame
  pub rest : List Statement
  pub env : Env
  pub subscripts : List Operand
  pub width : ℕ
  pub uses : ℕ
  pub capacity : ℕ

-- where a walk stands, by the names of its numbers
abbrev pub stand_of : Standing → Stand
stand_of p = record {
  names = p.bindings.names;
  frames = p.frames;
  rest = p.rest;
  env = env_of p.bindings;
  subscripts = p.subscripts;
  width = p.width;
  uses = p.uses;
  capacity = p.capacity;
}

-- what the frames of a walk leave to do under what is known there
unfoldable pub jobs_of : List Name → List Frame → Env → List Job
jobs_of names [] e = []
jobs_of names (Rest statements passed ∷ frames) e = Region (region_of names statements.now) (past passed e)
    ∷ jobs_of names frames (behind (region_of names statements.now) (past passed e))
jobs_of names (Known n before ∷ frames) e = jobs_of names frames (with_known (name_at names n) before e)
jobs_of names (Memref n before ∷ frames) e = jobs_of names frames (with_home (name_at names n) (homes_meant before) e)
jobs_of names (Turns v before at upper step start inside body ∷ frames) e =
    let loop = at_counts start (with_known (name_at names v) before e) in
    Turning (name_at names v) at upper step (region_of names body.now) loop
    ∷ jobs_of names frames (behind (region_of names body.now) loop)

-- what is left to do where a walk stands
unfoldable pub jobs_at : Stand → List Job
jobs_at s = Region (region_of s.names s.rest) s.env ∷ jobs_of s.names s.frames (behind (region_of s.names s.rest) s.env)

-- the actions that a walk has left to give
abbrev pub actions_left : Standing → List Action
actions_left p = all_actions (jobs_at (stand_of p))

-- every number of a job fits
abbrev pub SafeJob : Job → Type 0
SafeJob (Region region e) = SafeNest region e
SafeJob (Turning v at upper step body e) = CountsFit (behind body e) × (pos 0 <ℤ step)
    × ((t : ℤ) → at ≤ℤ t → t <ℤ upper → SafeNest body (knows e v t))

abbrev pub SafeJobs : List Job → Type 0
SafeJobs [] = Unit {0}
SafeJobs (job ∷ jobs) = SafeJob job × SafeJobs jobs

-- ---- how many steps are left

abbrev pub turn_steps : (ℤ → ℕ) → List ℤ → ℕ
turn_steps steps [] = 0
turn_steps steps (t ∷ ts) = 1 + steps t + turn_steps steps ts

-- entering a loop or a condition puts two frames down at most
unfoldable pub steps_in : Nest → Env → ℕ
steps_in Nothing e = 0
steps_in (Loop line v l u s body rest) e = 3 + turn_steps (λ t. steps_in body (knows e v t))
    (turns (lower_of e l) (upper_of e u) s) + steps_in rest (behind body e)
steps_in (Branch line set names first has other rest) e =
    2 + (if holds_at e set names then steps_in first e else steps_in other (behind first e))
    + steps_in rest (behind other (behind first e))
steps_in (Does line p rest) e = 1 + steps_in rest (after_plain p e)

abbrev pub job_steps : Job → ℕ
job_steps (Region region e) = steps_in region e
job_steps (Turning v at upper step body e) = turn_steps (λ t. steps_in body (knows e v t)) (turns at upper step)

abbrev pub all_steps : List Job → ℕ
all_steps [] = 0
all_steps (job ∷ jobs) = job_steps job + all_steps jobs

-- how many steps a walk may take before its next action: those of its jobs, and one for each frame
unfoldable pub steps_at : Stand → ℕ
steps_at s = all_steps (jobs_at s) + length s.frames
