-- Steps of a walk, over places where it stands.
use Rattle.std.proofs.Common.{◌≡◌, ℕ, ◌+◌, ◌<◌, ◌≤◌, ℤ, pos, ◌≤ℤ◌, ◌<ℤ◌, List, [], ◌∷◌, ◌++◌, length, refl, sym, ap, ◌∙◌, subst, arith, Bool, true, false, Bor}
use Rattle.std.specs.Prelude.{Option, Some, None, flat_map, if◌then◌else◌}
use Rattle.std.proofs.lemmas.Int.{ints}
use Rattle.std.proofs.lemmas.List.{append_assoc}
use Rattle.affine_ast.specs.declared.name.Name.{Name}
use Rattle.affine_ast.specs.Nest as named
use Rattle.affine_ast.specs.Nest.{Nest}
use Rattle.direct_meaning.specs.Turns.{turns}
use Rattle.direct_meaning.specs.Static.{Env, knows, lower_of, upper_of, holds_at}
use Rattle.direct_meaning.specs.Actions.{after_plain, behind, actions, action_of, fasts_in, tags_in}
use Rattle.direct_meaning.proofs.Laws.{turns_end, actions-Nothing, actions-Loop, actions-Branch, actions-Does}
use Rattle.valid_laws.specs.Safe.{CountsFit, SafeNest, SafeLoop, SafePlain, SafeCondition}
use Rattle.walk_program.specs.declared.plain.Limit.{Limit}
use Rattle.walk_program.specs.declared.plain.Plain.{Plain}
use Rattle.affine_expr.specs.declared.map.Set.{Set}
use Rattle.walk_program.specs.declared.statement.Counts.{Counts}
use Rattle.walk_program.specs.declared.statement.Statement.{Statement}
use Rattle.walk_program.specs.Counted.{Counted}
use Rattle.walk_program.specs.Names.{name_at}
use Rattle.walk_program.specs.Numbered.{Numbered, LimitFits, PlainFits, Operands}
use Rattle.walk_program.specs.Reading.{nest_of, bound_of, names_at, plain_of}
use Rattle.walk_program.specs.Tree.{Tree, Loop, Branch, Does, tree}
use Rattle.walk_program.proofs.Trees.{tree-nil}
use Rattle.walk_actions.specs.declared.action.Home.{Home}
use Rattle.walk_actions.specs.Looked.{with_known, with_home, homes_meant}
use Rattle.nest_walk.specs.declared.frame.Frame.{Frame}
use Rattle.nest_walk.specs.declared.frame.Frame.TheVariants as on
use Rattle.nest_walk.specs.Jobs.{Region, Turning, Stand, region_of, past, at_counts, at_numbers, all_actions, jobs_of, jobs_at, SafeJobs, turn_steps, steps_in, all_steps, steps_at}
use Rattle.nest_walk.specs.Ready.{room_of, room, AreMade, IsMadeFrame, need, Stacked, IsSound, Skips, Opens, Acts}
use Rattle.nest_walk.proofs.Envs.{put_twice, put_same, known_same, past_zero, past_is, behind_nothing, behind_loop, behind_branch, behind_does, known_back, home_back}

-- ---- regions

pub region_nil : (names : List Name) (statements : List Statement) → statements ≡ [] → region_of names statements ≡ named.Nothing
region_nil names statements h = ap (nest_of names) (ap tree h ∙ tree-nil)

pub safe_counts : (region : Nest) (e : Env) → SafeNest region e → CountsFit e
safe_counts named.Nothing e h = h
safe_counts (named.Loop line v l u s body rest) e h = h.0
safe_counts (named.Branch line set names first has other rest) e h = h.0
safe_counts (named.Does line p rest) e h = h.0

-- ---- no statement in hand

jobs_empty : (s : Stand) → s.rest ≡ [] → jobs_at s ≡ Region named.Nothing s.env ∷ jobs_of s.names s.frames s.env
unfolding jobs_at
jobs_empty s h =
    let r = region_nil s.names s.rest h in
    (λ i. Region (r i) s.env ∷ jobs_of s.names s.frames (behind (r i) s.env))
    ∙ ap (λ e. Region named.Nothing s.env ∷ jobs_of s.names s.frames e) (behind_nothing s.env)

pub left_empty : (s : Stand) → s.rest ≡ [] → all_actions (jobs_at s) ≡ all_actions (jobs_of s.names s.frames s.env)
left_empty s h = ap all_actions (jobs_empty s h) ∙ ap (λ xs. xs ++ all_actions (jobs_of s.names s.frames s.env)) (actions-Nothing s.env)

steps_empty : (s : Stand) → s.rest ≡ [] → all_steps (jobs_at s) ≡ all_steps (jobs_of s.names s.frames s.env)
unfolding steps_in
steps_empty s h = ap all_steps (jobs_empty s h) ∙ omega arith

safe_empty : (s : Stand) → s.rest ≡ [] → SafeJobs (jobs_at s) → CountsFit s.env × SafeJobs (jobs_of s.names s.frames s.env)
safe_empty s h safe = subst SafeJobs (jobs_empty s h) safe

empty_safe : (s : Stand) → s.rest ≡ [] → CountsFit s.env → SafeJobs (jobs_of s.names s.frames s.env) → SafeJobs (jobs_at s)
empty_safe s h counts safe = subst SafeJobs (sym (jobs_empty s h)) (counts, safe)

made_nil : (names : List Name) (width : ℕ) (statements : List Statement) → statements ≡ [] → AreMade names width statements
made_nil names width statements h =
    let t = ap tree h ∙ tree-nil in
    record { numbered = subst (Numbered (length names) width) (sym t) tt; counted = subst (Counted names) (sym t) tt }

room_nil : (statements : List Statement) → statements ≡ [] → room statements ≡ 0
unfolding room room_of
room_nil statements h = ap room_of (ap tree h ∙ tree-nil)

-- what is allocated before fits where a walk stands
pub stands_fit : (s : Stand) → IsSound s → CountsFit s.env
unfolding jobs_at
stands_fit s sound = safe_counts (region_of s.names s.rest) s.env sound.safe.0

-- ---- the highest frame is taken

stacked_is : (s : Stand) (frame : Frame) (frames : List Frame) → IsSound s → s.frames ≡ frame ∷ frames → IsMadeFrame s.names s.width frame × (length frames + need frame ≤ s.capacity) × Stacked s.names s.width s.capacity frames
unfolding Stacked
stacked_is s frame frames sound is = subst (Stacked s.names s.width s.capacity) is sound.stacked

-- a name gets back what it had: nothing else is left to do, and there is a frame less
back : (s : Stand) (frame : Frame) (frames : List Frame) (e : Env) → IsSound s → s.rest ≡ [] → s.frames ≡ frame ∷ frames → jobs_of s.names (frame ∷ frames) s.env ≡ jobs_of s.names frames e → CountsFit e
    → Skips s (record s { frames = frames; env = e })
unfolding steps_at
back s frame frames e sound empty is same counts =
    let t : Stand = record s { frames = frames; env = e } in
    let st = stacked_is s frame frames sound is in
    let js : jobs_of s.names s.frames s.env ≡ jobs_of s.names frames e = ap (λ fs. jobs_of s.names fs s.env) is ∙ same in
    record {
      sound = record {
        made = sound.made;
        uses = sound.uses;
        stacked = st.2;
        room = omega (arith, sound.room, ap length is);
        safe = empty_safe t empty counts (subst SafeJobs js (safe_empty s empty sound.safe).1);
      };
      left = left_empty s empty ∙ ap all_actions js ∙ sym (left_empty t empty);
      fewer = omega (arith, steps_empty s empty, steps_empty t empty, ap all_steps js, ap length is);
      names = refl;
      width = refl;
    }

pub back_known : (s : Stand) (n : ℕ) (before : Option ℤ) (frames : List Frame) → IsSound s → s.rest ≡ [] → s.frames ≡ on.Known n before ∷ frames
    → Skips s (record s { frames = frames; env = with_known (name_at s.names n) before s.env })
unfolding jobs_of
back_known s n before frames sound empty is =
    let c = (safe_empty s empty sound.safe).0 in
    back s (on.Known n before) frames (with_known (name_at s.names n) before s.env) sound empty is refl (record { fasts = c.fasts; tags = c.tags })

pub back_placed : (s : Stand) (n : ℕ) (before : Option Home) (frames : List Frame) → IsSound s → s.rest ≡ [] → s.frames ≡ on.Memref n before ∷ frames
    → Skips s (record s { frames = frames; env = with_home (name_at s.names n) (homes_meant before) s.env })
unfolding jobs_of
back_placed s n before frames sound empty is =
    let c = (safe_empty s empty sound.safe).0 in
    back s (on.Memref n before) frames (with_home (name_at s.names n) (homes_meant before) s.env) sound empty is refl (record { fasts = c.fasts; tags = c.tags })

-- the statements behind a loop or a condition
pub back_rest : (s : Stand) (statements : Bor (List Statement)) (passed : Counts) (frames : List Frame) → IsSound s → s.rest ≡ [] → s.frames ≡ on.Rest statements passed ∷ frames
    → Skips s (record s { frames = frames; rest = statements.now; env = past passed s.env })
unfolding jobs_of jobs_at steps_at
back_rest s statements passed frames sound empty is =
    let t : Stand = record s { frames = frames; rest = statements.now; env = past passed s.env } in
    let st = stacked_is s (on.Rest statements passed) frames sound is in
    let js : jobs_of s.names s.frames s.env ≡ jobs_at t = ap (λ fs. jobs_of s.names fs s.env) is in
    record {
      sound = record {
        made = st.0;
        uses = sound.uses;
        stacked = st.2;
        room = st.1;
        safe = subst SafeJobs js (safe_empty s empty sound.safe).1;
      };
      left = left_empty s empty ∙ ap all_actions js;
      fewer = omega (arith, steps_empty s empty, ap all_steps js, ap length is);
      names = refl;
      width = refl;
    }

-- ---- turns

-- what is known at a loop that is left to do
abbrev pub loop_env : Stand → ℕ → Option ℤ → Counts → Env
loop_env s v before start = at_counts start (with_known (name_at s.names v) before s.env)

-- the frames of a loop leave its turns, and what stands behind it
turns_left : (s : Stand) (v : ℕ) (before : Option ℤ) (at upper step : ℤ) (start inside : Counts) (body : Bor (List Statement)) (frames : List Frame) → s.frames ≡ on.Turns v before at upper step start inside body ∷ frames
    → jobs_of s.names s.frames s.env ≡ Turning (name_at s.names v) at upper step (region_of s.names body.now) (loop_env s v before start) ∷ jobs_of s.names frames (behind (region_of s.names body.now) (loop_env s v before start))
unfolding jobs_of
turns_left s v before at upper step start inside body frames is = ap (λ fs. jobs_of s.names fs s.env) is

-- what the frame of a loop needs
pub turn_fits : (s : Stand) (v : ℕ) (before : Option ℤ) (at upper step : ℤ) (start inside : Counts) (body : Bor (List Statement)) (frames : List Frame) → IsSound s → s.rest ≡ [] → s.frames ≡ on.Turns v before at upper step start inside body ∷ frames
    → (v < length s.names) × (pos 0 <ℤ step) × (start.fasts + inside.fasts ≤ 65536) × (start.tags + inside.tags ≤ 65536) × (length frames + 1 ≤ s.capacity)
turn_fits s v before at upper step start inside body frames sound empty is =
    let st = stacked_is s (on.Turns v before at upper step start inside body) frames sound is in
    let counts = st.0.2 in
    let safe = (subst SafeJobs (turns_left s v before at upper step start inside body frames is) (safe_empty s empty sound.safe).1).0 in
    (st.0.0, safe.1, omega (arith, counts.fasts, safe.0.fasts), omega (arith, counts.tags, safe.0.tags), omega (arith, st.1))

pub turn_done : (s : Stand) (v : ℕ) (before : Option ℤ) (at upper step : ℤ) (start inside : Counts) (body : Bor (List Statement)) (frames : List Frame) → IsSound s → s.rest ≡ [] → s.frames ≡ on.Turns v before at upper step start inside body ∷ frames → upper ≤ℤ at
    → Skips s (record s { frames = frames; env = at_numbers (start.fasts + inside.fasts) (start.tags + inside.tags) (with_known (name_at s.names v) before s.env) })
unfolding steps_at
turn_done s v before at upper step start inside body frames sound empty is end =
    let e = at_numbers (start.fasts + inside.fasts) (start.tags + inside.tags) (with_known (name_at s.names v) before s.env) in
    let t : Stand = record s { frames = frames; env = e } in
    let st = stacked_is s (on.Turns v before at upper step start inside body) frames sound is in
    let js = turns_left s v before at upper step start inside body frames is in
    let loop = loop_env s v before start in
    let region = region_of s.names body.now in
    let last : behind region loop ≡ e = sym (past_is inside region loop st.0.2) in
    let none = turns_end at upper step end in
    let safe = subst SafeJobs js (safe_empty s empty sound.safe).1 in
    record {
      sound = record {
        made = sound.made;
        uses = sound.uses;
        stacked = st.2;
        room = omega (arith, sound.room, ap length is);
        safe = empty_safe t empty (subst CountsFit last safe.0.0) (subst (λ g. SafeJobs (jobs_of s.names frames g)) last safe.1);
      };
      left = left_empty s empty ∙ ap all_actions js
          ∙ (λ i. flat_map (λ t. actions region (knows loop (name_at s.names v) t)) (none i) ++ all_actions (jobs_of s.names frames (last i)))
          ∙ sym (left_empty t empty);
      fewer = omega (arith, steps_empty s empty, steps_empty t empty, ap all_steps js, ap (turn_steps (λ t. steps_in region (knows loop (name_at s.names v) t))) none, ap (λ g. all_steps (jobs_of s.names frames g)) last, ap length is);
      names = refl;
      width = refl;
    }

-- the turn of a loop is what its variable has, whatever it had before
turn_env : (s : Stand) (v : ℕ) (before : Option ℤ) (start : Counts) (at : ℤ) → knows (loop_env s v before start) (name_at s.names v) at ≡ at_counts start (with_known (name_at s.names v) (Some at) s.env)
turn_env s v before start at = λ i. record { known = put_twice s.env.known (name_at s.names v) before (Some at) i; home = s.env.home; fasts = start.fasts; tags = start.tags }

-- the loop's own is there again behind a turn
loop_again : (s : Stand) (v : ℕ) (before : Option ℤ) (start : Counts) (at : ℤ) (region : Nest)
    → at_counts start (with_known (name_at s.names v) before (behind region (at_counts start (with_known (name_at s.names v) (Some at) s.env)))) ≡ loop_env s v before start
loop_again s v before start at region = λ i. record { known = put_twice s.env.known (name_at s.names v) (Some at) before i; home = s.env.home; fasts = start.fasts; tags = start.tags }

-- the jobs where the statements of a turn are in hand
turns_after : (t : Stand) (v : ℕ) (before : Option ℤ) (next upper step : ℤ) (start inside : Counts) (body : Bor (List Statement)) (frames : List Frame) (region : Nest) → t.frames ≡ on.Turns v before next upper step start inside body ∷ frames → region_of t.names body.now ≡ region → t.rest ≡ body.now
    → jobs_at t ≡ Region region t.env ∷ Turning (name_at t.names v) next upper step region (at_counts start (with_known (name_at t.names v) before (behind region t.env))) ∷ jobs_of t.names frames (behind region (at_counts start (with_known (name_at t.names v) before (behind region t.env))))
unfolding jobs_at jobs_of
turns_after t v before next upper step start inside body frames region is r b =
    let now = ap (region_of t.names) b ∙ r in
    (λ i. Region (now i) t.env ∷ jobs_of t.names (is i) (behind (now i) t.env))
    ∙ ap (λ x. Region region t.env ∷ Turning (name_at t.names v) next upper step x (at_counts start (with_known (name_at t.names v) before (behind region t.env))) ∷ jobs_of t.names frames (behind x (at_counts start (with_known (name_at t.names v) before (behind region t.env))))) r

pub turn_more : (s : Stand) (v : ℕ) (before : Option ℤ) (at next upper step : ℤ) (start inside : Counts) (body : Bor (List Statement)) (frames : List Frame) → IsSound s → s.rest ≡ [] → s.frames ≡ on.Turns v before at upper step start inside body ∷ frames
    → at <ℤ upper → at ≤ℤ next → turns at upper step ≡ at ∷ turns next upper step
    → Skips s (record s { frames = on.Turns v before next upper step start inside body ∷ frames; rest = body.now; env = at_counts start (with_known (name_at s.names v) (Some at) s.env) })
unfolding steps_at jobs_at Stacked
turn_more s v before at next upper step start inside body frames sound empty is less on_ more =
    let n = name_at s.names v in
    let e = at_counts start (with_known n (Some at) s.env) in
    let t : Stand = record s { frames = on.Turns v before next upper step start inside body ∷ frames; rest = body.now; env = e } in
    let st = stacked_is s (on.Turns v before at upper step start inside body) frames sound is in
    let js = turns_left s v before at upper step start inside body frames is in
    let loop = loop_env s v before start in
    let region = region_of s.names body.now in
    let turn = turn_env s v before start at in
    let jt : jobs_at t ≡ Region region e ∷ Turning n next upper step region loop ∷ jobs_of s.names frames (behind region loop) =
    turns_after t v before next upper step start inside body frames region refl refl refl
    ∙ ap (λ g. Region region e ∷ Turning n next upper step region g ∷ jobs_of s.names frames (behind region g)) (loop_again s v before start at region) in
    let rest = jobs_of s.names frames (behind region loop) in
    let safe = subst SafeJobs js (safe_empty s empty sound.safe).1 in
    record {
      sound = record {
        made = st.0.1;
        uses = sound.uses;
        stacked = st;
        room = omega (arith, st.1);
        safe = subst SafeJobs (sym jt) (subst (SafeNest region) turn (safe.0.2 at (omega (arith, ints)) less), ((safe.0.0, safe.0.1, λ z low high. safe.0.2 z (omega (arith, ints, on_, low)) high), safe.1));
      };
      left = left_empty s empty ∙ ap all_actions js
          ∙ ap (λ ts. flat_map (λ t. actions region (knows loop n t)) ts ++ all_actions rest) more
          ∙ append_assoc (actions region (knows loop n at)) (flat_map (λ t. actions region (knows loop n t)) (turns next upper step)) (all_actions rest)
          ∙ ap (λ g. actions region g ++ (flat_map (λ t. actions region (knows loop n t)) (turns next upper step) ++ all_actions rest)) turn
          ∙ sym (ap all_actions jt);
      fewer = omega (arith, steps_empty s empty, ap all_steps js, ap (turn_steps (λ t. steps_in region (knows loop n t))) more, ap (steps_in region) turn, ap all_steps jt, ap length is);
      names = refl;
      width = refl;
    }

-- ---- a loop is entered

abbrev pub loop_region : Stand → ℕ → ℕ → Limit → Limit → ℤ → Bor (List Statement) → Bor (List Statement) → Nest
loop_region s line v l u step body rest = named.Loop line (name_at s.names v) (bound_of s.names l) (bound_of s.names u) step (region_of s.names body.now) (region_of s.names rest.now)

-- what a loop in hand needs
pub loop_fits : (s : Stand) (line v : ℕ) (l u : Limit) (step : ℤ) (inside : Counts) (body rest : Bor (List Statement)) → IsSound s → tree s.rest ≡ Loop line v l u step inside (tree body.now) (tree rest.now)
    → (v < length s.names) × LimitFits (length s.names) s.width l × LimitFits (length s.names) s.width u × SafeLoop s.env (bound_of s.names l) (bound_of s.names u) step × (length s.frames + 2 ≤ s.capacity)
unfolding jobs_at room room_of
loop_fits s line v l u step inside body rest sound is =
    let numbered = subst (Numbered (length s.names) s.width) is sound.made.numbered in
    let safe = subst (λ r. SafeNest r s.env) (ap (nest_of s.names) is) sound.safe.0 in
    (numbered.0, numbered.1, numbered.2, safe.1, omega (arith, sound.room, ap room_of is))

pub loop_started : (s : Stand) (line v : ℕ) (l u : Limit) (step : ℤ) (inside start nil : Counts) (before : Option ℤ) (at upper : ℤ) (body rest : Bor (List Statement)) → IsSound s → tree s.rest ≡ Loop line v l u step inside (tree body.now) (tree rest.now)
    → at ≡ lower_of s.env (bound_of s.names l) → upper ≡ upper_of s.env (bound_of s.names u) → before ≡ s.env.known (name_at s.names v) → start.fasts ≡ s.env.fasts → start.tags ≡ s.env.tags → nil.fasts ≡ 0 → nil.tags ≡ 0
    → Skips s (record s { frames = on.Turns v before at upper step start inside body ∷ on.Rest rest nil ∷ s.frames; rest = [] })
unfolding jobs_at jobs_of steps_at steps_in Stacked room room_of
loop_started s line v l u step inside start nil before at upper body rest sound is low high was f g zf zg =
    let t : Stand = record s { frames = on.Turns v before at upper step start inside body ∷ on.Rest rest nil ∷ s.frames; rest = [] } in
    let n = name_at s.names v in
    let e = s.env in
    let R = region_of s.names body.now in
    let R' = region_of s.names rest.now in
    let L = loop_region s line v l u step body rest in
    let region : region_of s.names s.rest ≡ L = ap (nest_of s.names) is in
    let numbered = subst (Numbered (length s.names) s.width) is sound.made.numbered in
    let counts = subst (Counted s.names) is sound.made.counted in
    let safe = subst SafeJobs (λ i. Region (region i) e ∷ jobs_of s.names s.frames (behind (region i) e)) sound.safe in
    let js : jobs_at s ≡ Region L e ∷ jobs_of s.names s.frames (behind L e) = λ i. Region (region i) e ∷ jobs_of s.names s.frames (behind (region i) e) in
    let own : loop_env s v before start ≡ e = λ i. record { known = put_same e.known n before was i; home = e.home; fasts = f i; tags = g i } in
    let next : past nil (behind R e) ≡ behind R e = past_zero nil (behind R e) zf zg in
    let last : behind R' (behind R e) ≡ behind L e = behind_loop line n (bound_of s.names l) (bound_of s.names u) step R R' e in
    let je : jobs_of t.names t.frames t.env ≡ Turning n at upper step R e ∷ Region R' (behind R e) ∷ jobs_of s.names s.frames (behind L e) =
    (λ i. Turning n at upper step R (own i) ∷ Region R' (past nil (behind R (own i))) ∷ jobs_of s.names s.frames (behind R' (past nil (behind R (own i)))))
    ∙ (λ i. Turning n at upper step R e ∷ Region R' (next i) ∷ jobs_of s.names s.frames (behind R' (next i)))
    ∙ (λ i. Turning n at upper step R e ∷ Region R' (behind R e) ∷ jobs_of s.names s.frames (last i)) in
    let rest_safe : SafeNest R' (behind R e) = safe.0.3 in
    let X = jobs_of s.names s.frames (behind L e) in
    record {
      sound = record {
        made = made_nil s.names s.width [] refl;
        uses = sound.uses;
        stacked = ((numbered.0, record { numbered = numbered.3; counted = counts.1 }, counts.0), omega (arith, sound.room, ap room_of is), (record { numbered = numbered.4; counted = counts.2 }, omega (arith, sound.room, ap room_of is), sound.stacked));
        room = omega (arith, sound.room, ap room_of is, room_nil [] refl);
        safe = empty_safe t refl safe.0.0 (subst SafeJobs (sym je) ((safe_counts R' (behind R e) rest_safe, safe.0.1.step, λ z lo hi. safe.0.2 z (subst (λ x. x ≤ℤ z) low lo) (subst (λ x. z <ℤ x) high hi)), (rest_safe, safe.1)));
      };
      left = ap all_actions js
          ∙ ap (λ xs. xs ++ all_actions X) (actions-Loop line n (bound_of s.names l) (bound_of s.names u) step R R' e)
          ∙ append_assoc (flat_map (λ t. actions R (knows e n t)) (turns (lower_of e (bound_of s.names l)) (upper_of e (bound_of s.names u)) step)) (actions R' (behind R e)) (all_actions X)
          ∙ (λ i. flat_map (λ t. actions R (knows e n t)) (turns (sym low i) (sym high i) step) ++ (actions R' (behind R e) ++ all_actions X))
          ∙ sym (left_empty t refl ∙ ap all_actions je);
      fewer =
          let same : turn_steps (λ t. steps_in R (knows e n t)) (turns at upper step) ≡ turn_steps (λ t. steps_in R (knows e n t)) (turns (lower_of e (bound_of s.names l)) (upper_of e (bound_of s.names u)) step) = λ i. turn_steps (λ t. steps_in R (knows e n t)) (turns (low i) (high i) step) in
          omega (arith, ap all_steps js, steps_empty t refl, ap all_steps je, same);
      names = refl;
      width = refl;
    }

-- ---- a condition is entered

abbrev pub branch_region : Stand → ℕ → Set → List ℕ → Tree → Bool → Tree → Bor (List Statement) → Nest
branch_region s line set operands first has other rest = named.Branch line set (names_at s.names operands) (nest_of s.names first) has (nest_of s.names other) (region_of s.names rest.now)

-- what a condition in hand needs
pub branch_fits : (s : Stand) (line : ℕ) (set : Set) (operands : List ℕ) (first : Tree) (n : Counts) (has : Bool) (other : Tree) (m : Counts) (rest : Bor (List Statement)) → IsSound s → tree s.rest ≡ Branch line set operands first n has other m (tree rest.now)
    → Operands (length s.names) s.width operands × SafeCondition s.env set (names_at s.names operands) × (length s.frames + 1 ≤ s.capacity) × (s.env.fasts + n.fasts ≤ 65536) × (s.env.tags + n.tags ≤ 65536)
unfolding jobs_at room room_of
branch_fits s line set operands first n has other m rest sound is =
    let numbered = subst (Numbered (length s.names) s.width) is sound.made.numbered in
    let counts = subst (Counted s.names) is sound.made.counted in
    let safe = subst (λ r. SafeNest r s.env) (ap (nest_of s.names) is) sound.safe.0 in
    let fit = safe_counts (nest_of s.names other) (behind (nest_of s.names first) s.env) safe.3 in
    (numbered.0, safe.1, omega (arith, sound.room, ap room_of is), omega (arith, fit.fasts, counts.0.fasts), omega (arith, fit.tags, counts.0.tags))

branch_jobs : (s : Stand) (line : ℕ) (set : Set) (operands : List ℕ) (first : Tree) (n : Counts) (has : Bool) (other : Tree) (m : Counts) (rest : Bor (List Statement)) → tree s.rest ≡ Branch line set operands first n has other m (tree rest.now)
    → jobs_at s ≡ Region (branch_region s line set operands first has other rest) s.env ∷ jobs_of s.names s.frames (behind (branch_region s line set operands first has other rest) s.env)
unfolding jobs_at
branch_jobs s line set operands first n has other m rest is = λ i. Region (nest_of s.names (is i)) s.env ∷ jobs_of s.names s.frames (behind (nest_of s.names (is i)) s.env)

-- into a region of a condition: the region that is chosen, and what is passed behind it
branch_into : (s : Stand) (line : ℕ) (set : Set) (operands : List ℕ) (first : Tree) (n : Counts) (has : Bool) (other : Tree) (m : Counts) (rest chosen : Bor (List Statement)) (passed : Counts) (e : Env) → IsSound s
    → tree s.rest ≡ Branch line set operands first n has other m (tree rest.now)
    → AreMade s.names s.width chosen.now → length s.frames + 1 + room chosen.now ≤ s.capacity → SafeNest (region_of s.names chosen.now) e
    → past passed (behind (region_of s.names chosen.now) e) ≡ behind (nest_of s.names other) (behind (nest_of s.names first) s.env)
    → actions (region_of s.names chosen.now) e ≡ (if holds_at s.env set (names_at s.names operands) then actions (nest_of s.names first) s.env else actions (nest_of s.names other) (behind (nest_of s.names first) s.env))
    → steps_in (region_of s.names chosen.now) e ≡ (if holds_at s.env set (names_at s.names operands) then steps_in (nest_of s.names first) s.env else steps_in (nest_of s.names other) (behind (nest_of s.names first) s.env))
    → Skips s (record s { frames = on.Rest rest passed ∷ s.frames; rest = chosen.now; env = e })
unfolding jobs_of jobs_at steps_at steps_in Stacked room room_of
branch_into s line set operands first n has other m rest chosen passed e sound is made fits safe_chosen next acts steps =
    let t : Stand = record s { frames = on.Rest rest passed ∷ s.frames; rest = chosen.now; env = e } in
    let B = branch_region s line set operands first has other rest in
    let F = nest_of s.names first in
    let O = nest_of s.names other in
    let R = region_of s.names rest.now in
    let C = region_of s.names chosen.now in
    let names = names_at s.names operands in
    let js = branch_jobs s line set operands first n has other m rest is in
    let numbered = subst (Numbered (length s.names) s.width) is sound.made.numbered in
    let counts = subst (Counted s.names) is sound.made.counted in
    let safe = subst SafeJobs js sound.safe in
    let last : behind R (behind O (behind F s.env)) ≡ behind B s.env = behind_branch line set names F has O R s.env in
    let je : jobs_at t ≡ Region C e ∷ Region R (behind O (behind F s.env)) ∷ jobs_of s.names s.frames (behind B s.env) =
    (λ i. Region C e ∷ Region R (next i) ∷ jobs_of s.names s.frames (behind R (next i)))
    ∙ (λ i. Region C e ∷ Region R (behind O (behind F s.env)) ∷ jobs_of s.names s.frames (last i)) in
    let X = jobs_of s.names s.frames (behind B s.env) in
    record {
      sound = record {
        made = made;
        uses = sound.uses;
        stacked = (record { numbered = numbered.3; counted = counts.4 }, omega (arith, sound.room, ap room_of is), sound.stacked);
        room = omega (arith, fits);
        safe = subst SafeJobs (sym je) (safe_chosen, (safe.0.4, safe.1));
      };
      left = ap all_actions js
          ∙ ap (λ xs. xs ++ all_actions X) (actions-Branch line set names F has O R s.env ∙ ap (λ xs. xs ++ actions R (behind O (behind F s.env))) (sym acts))
          ∙ append_assoc (actions C e) (actions R (behind O (behind F s.env))) (all_actions X)
          ∙ sym (ap all_actions je);
      fewer = omega (arith, ap all_steps js, ap all_steps je, steps);
      names = refl;
      width = refl;
    }

pub first_taken : (s : Stand) (line : ℕ) (set : Set) (operands : List ℕ) (first : Bor (List Statement)) (n : Counts) (has : Bool) (other : Tree) (m : Counts) (rest : Bor (List Statement)) → IsSound s
    → tree s.rest ≡ Branch line set operands (tree first.now) n has other m (tree rest.now) → holds_at s.env set (names_at s.names operands) ≡ true
    → Skips s (record s { frames = on.Rest rest m ∷ s.frames; rest = first.now })
unfolding jobs_at room room_of
first_taken s line set operands first n has other m rest sound is true_ =
    let numbered = subst (Numbered (length s.names) s.width) is sound.made.numbered in
    let counts = subst (Counted s.names) is sound.made.counted in
    let safe = subst (λ r. SafeNest r s.env) (ap (nest_of s.names) is) sound.safe.0 in
    branch_into s line set operands (tree first.now) n has other m rest first m s.env sound is
    (record { numbered = numbered.1; counted = counts.2 }) (omega (arith, sound.room, ap room_of is)) safe.2
    (past_is m (nest_of s.names other) (behind (nest_of s.names (tree first.now)) s.env) counts.1)
    (rw true_ refl) (rw true_ refl)

pub other_taken : (s : Stand) (line : ℕ) (set : Set) (operands : List ℕ) (first : Tree) (n : Counts) (has : Bool) (other : Tree) (m nil : Counts) (rest chosen : Bor (List Statement)) (f g : ℕ) → IsSound s
    → tree s.rest ≡ Branch line set operands first n has other m (tree rest.now) → holds_at s.env set (names_at s.names operands) ≡ false → tree chosen.now ≡ other
    → f ≡ s.env.fasts + n.fasts → g ≡ s.env.tags + n.tags → nil.fasts ≡ 0 → nil.tags ≡ 0
    → Skips s (record s { frames = on.Rest rest nil ∷ s.frames; rest = chosen.now; env = at_numbers f g s.env })
unfolding jobs_at room room_of
other_taken s line set operands first n has other m nil rest chosen f g sound is no_ which p q zf zg =
    let numbered = subst (Numbered (length s.names) s.width) is sound.made.numbered in
    let counts = subst (Counted s.names) is sound.made.counted in
    let safe = subst (λ r. SafeNest r s.env) (ap (nest_of s.names) is) sound.safe.0 in
    let region : region_of s.names chosen.now ≡ nest_of s.names other = ap (nest_of s.names) which in
    let e : at_numbers f g s.env ≡ behind (nest_of s.names first) s.env = (λ i. at_numbers (p i) (q i) s.env) ∙ past_is n (nest_of s.names first) s.env counts.0 in
    branch_into s line set operands first n has other m rest chosen nil (at_numbers f g s.env) sound is
    (record { numbered = subst (Numbered (length s.names) s.width) (sym which) numbered.2; counted = subst (Counted s.names) (sym which) counts.3 })
    (omega (arith, sound.room, ap room_of is, ap room_of which))
    (subst (λ r. SafeNest r (at_numbers f g s.env)) (sym region) (subst (SafeNest (nest_of s.names other)) (sym e) safe.3))
    (past_zero nil (behind (region_of s.names chosen.now) (at_numbers f g s.env)) zf zg ∙ (λ i. behind (region i) (e i)))
    ((λ i. actions (region i) (e i)) ∙ rw no_ refl)
    ((λ i. steps_in (region i) (e i)) ∙ rw no_ refl)

-- ---- a plain statement is done

-- what a plain statement in hand needs
pub plain_fits : (s : Stand) (line : ℕ) (p : Plain) (rest : Bor (List Statement)) → IsSound s → tree s.rest ≡ Does line p (tree rest.now)
    → PlainFits (length s.names) s.width p × SafePlain s.env (plain_of s.names p) × (length s.frames + 1 ≤ s.capacity) × CountsFit (after_plain (plain_of s.names p) s.env)
unfolding jobs_at room room_of
plain_fits s line p rest sound is =
    let numbered = subst (Numbered (length s.names) s.width) is sound.made.numbered in
    let safe = subst (λ r. SafeNest r s.env) (ap (nest_of s.names) is) sound.safe.0 in
    (numbered.0, safe.1, omega (arith, sound.room, ap room_of is), safe_counts (region_of s.names rest.now) (after_plain (plain_of s.names p) s.env) safe.2)

pub acted : (s : Stand) (line : ℕ) (p : Plain) (rest : Bor (List Statement)) (frames : List Frame) (e : Env) → IsSound s → tree s.rest ≡ Does line p (tree rest.now) → e ≡ after_plain (plain_of s.names p) s.env → Opens s frames e
    → Acts s (record s { frames = frames; env = e; rest = rest.now }) (action_of (plain_of s.names p) s.env)
unfolding jobs_at room room_of
acted s line p rest frames e sound is after_ opens =
    let u : Stand = record s { frames = frames; env = e; rest = rest.now } in
    let P = plain_of s.names p in
    let R = region_of s.names rest.now in
    let D = named.Does line P R in
    let js : jobs_at s ≡ Region D s.env ∷ jobs_of s.names s.frames (behind D s.env) = λ i. Region (nest_of s.names (is i)) s.env ∷ jobs_of s.names s.frames (behind (nest_of s.names (is i)) s.env) in
    let numbered = subst (Numbered (length s.names) s.width) is sound.made.numbered in
    let counts = subst (Counted s.names) is sound.made.counted in
    let safe = subst SafeJobs js sound.safe in
    let g = after_plain P s.env in
    let je : jobs_at u ≡ Region R g ∷ jobs_of s.names s.frames (behind D s.env) =
    (λ i. Region R (after_ i) ∷ opens.back (e.fasts + fasts_in R) (e.tags + tags_in R) i)
    ∙ (λ i. Region R g ∷ jobs_of s.names s.frames (at_numbers ((after_ i).fasts + fasts_in R) ((after_ i).tags + tags_in R) s.env))
    ∙ ap (λ h. Region R g ∷ jobs_of s.names s.frames h) (behind_does line P R s.env) in
    record {
      sound = record {
        made = record { numbered = numbered.1; counted = counts };
        uses = sound.uses;
        stacked = opens.stacked;
        room = omega (arith, opens.more, sound.room, ap room_of is);
        safe = subst SafeJobs (sym je) (safe.0.2, safe.1);
      };
      left = ap all_actions js ∙ ap (λ xs. xs ++ all_actions (jobs_of s.names s.frames (behind D s.env))) (actions-Does line P R s.env) ∙ ap (λ xs. action_of P s.env ∷ xs) (sym (ap all_actions je));
      names = refl;
      width = refl;
    }

-- ---- names that are given numbers and memrefs

-- nothing changes
pub opens_nothing : (s : Stand) → IsSound s → Opens s s.frames s.env
opens_nothing s sound = record { back = λ f g. refl; more = omega arith; stacked = sound.stacked }

-- a name that had no number has none
pub opens_same : (s : Stand) (n : ℕ) → IsSound s → None ≡ s.env.known (name_at s.names n) → Opens s s.frames (with_known (name_at s.names n) None s.env)
opens_same s n sound h = record { back = λ f g. ap (λ e. jobs_of s.names s.frames (at_numbers f g e)) (known_same s.env (name_at s.names n) None h); more = omega arith; stacked = sound.stacked }

-- what a name had before is put down
pub opens_known : (s : Stand) (n : ℕ) (z before : Option ℤ) → IsSound s → n < length s.names → length s.frames + 1 ≤ s.capacity → before ≡ s.env.known (name_at s.names n) → Opens s (on.Known n before ∷ s.frames) (with_known (name_at s.names n) z s.env)
unfolding jobs_of Stacked
opens_known s n z before sound inside room_ was = record {
  back = λ f g. ap (λ b. jobs_of s.names s.frames (with_known (name_at s.names n) b (at_numbers f g (with_known (name_at s.names n) z s.env)))) was ∙ ap (jobs_of s.names s.frames) (known_back s.env (name_at s.names n) z f g);
  more = omega arith;
  stacked = (inside, omega (arith, room_), sound.stacked);
}

pub opens_placed : (s : Stand) (n : ℕ) (home : Option Home) (before : Option Home) (h k : ℕ) → IsSound s → n < length s.names → length s.frames + 1 ≤ s.capacity → homes_meant before ≡ s.env.home (name_at s.names n)
    → Opens s (on.Memref n before ∷ s.frames) (at_numbers h k (with_home (name_at s.names n) (homes_meant home) s.env))
unfolding jobs_of Stacked
opens_placed s n home before h k sound inside room_ was = record {
  back = λ f g. ap (jobs_of s.names s.frames) (home_back s.env (name_at s.names n) (homes_meant home) (homes_meant before) f g was);
  more = omega arith;
  stacked = (inside, omega (arith, room_), sound.stacked);
}
