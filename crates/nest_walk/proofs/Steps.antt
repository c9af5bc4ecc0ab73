-- Steps of a walk, from the moves that they are made of.
use Rattle.std.proofs.Common.{◌≡◌, ℕ, suc, ◌+◌, ◌<◌, ◌≤◌, ℤ, pos, ◌+ℤ◌, ◌<ℤ◌, ◌≤ℤ◌, List, [], ◌∷◌, length, reverse, vec_capacity, refl, sym, ap, ◌∙◌, subst, arith, Bool, true, false, Bor}
use Rattle.std.specs.Prelude.{Option, Some, None}
use Rattle.std.specs.Int.{int_max}
use Rattle.std.proofs.lemmas.Int.{ints}
use mir.Val.{SFits}
use mir.Syntax.{w64}
use lib.Signed.{lt_z}
use Rattle.direct_meaning.specs.Turns.{turns}
use Rattle.affine_expr.specs.declared.map.Set.{Set}
use Rattle.direct_meaning.specs.Static.{lower_of, upper_of, holds_at}
use Rattle.walk_program.specs.declared.plain.Limit.{Limit}
use Rattle.walk_program.specs.Reading.{bound_of, names_at, plain_of, nest_of}
use Rattle.walk_program.specs.Numbered.{Numbered}
use Rattle.walk_program.specs.Counted.{Counted}
use Rattle.valid_laws.specs.Safe.{SafeNest}
use Rattle.std.proofs.lemmas.List.{append-nil}
use Rattle.walk_program.specs.declared.statement.Form as form
use Rattle.walk_program.specs.declared.statement.Form.{Form}
use Rattle.walk_program.specs.Tree.{Tree, Loop, Branch, Does, put_form, tree}
use Rattle.walk_program.proofs.Trees.{tree-nil, tree-cons, put-For, put-If, put-If-else, put-Plain}
use Rattle.walk_program.specs.declared.statement.Counts.{Counts}
use Rattle.walk_program.specs.declared.statement.Statement.{Statement}
use Rattle.walk_program.specs.Names.{name_at}
use Rattle.walk_actions.specs.Looked.{with_known, with_home, homes_meant}
use Rattle.nest_walk.specs.declared.frame.Frame.{Frame}
use Rattle.nest_walk.specs.declared.frame.Frame.TheVariants as on
use Rattle.affine_ast.specs.declared.name.Name.{Name}
use Rattle.affine_ast.specs.Names.{put}
use Rattle.direct_meaning.specs.Action.{Action, FastMemref, TagMemref}
use Rattle.direct_meaning.specs.Static.{Env}
use Rattle.direct_meaning.specs.Actions.{after_plain, action_of, actions}
use Rattle.walk_program.specs.declared.plain.Plain.{Plain}
use Rattle.walk_actions.specs.declared.action.Operand.{Operand}
use Rattle.walk_actions.specs.Bindings.{Bindings}
use Rattle.walk_actions.specs.Looked.{env_of}
use Rattle.nest_walk.specs.Standing.{Standing}
use Rattle.walk_actions.specs.declared.action.Home.{Home}
use Rattle.nest_walk.specs.Jobs.{Stand, stand_of, actions_left, past, at_numbers, all_actions, jobs_of, jobs_at}
use Rattle.nest_walk.specs.Ready.{Stacked, room, IsSound, IsReady, Under, Skips, Opens, Acts, Opened, Acted}
use Rattle.nest_walk.proofs.Frames.{under_stand}
use Rattle.nest_walk.proofs.Stands.{turn_more, turn_done, left_empty, back_known, back_placed, back_rest, stands_fit, loop_started, first_taken, other_taken, opens_nothing, opens_same, opens_known, opens_placed, acted}
use Rattle.direct_meaning.proofs.Laws.{turns_more, turns_end}

step_is : (step : ℤ) → pos 0 <ℤ step → int_max (pos 1) step ≡ step
step_is step h = grind (arith, ints, h)

pub later_turns : (at upper step next : ℤ) → at <ℤ upper → pos 0 <ℤ step → next ≡ at +ℤ step → turns at upper step ≡ at ∷ turns next upper step
later_turns at upper step next less h e = turns_more at upper step less ∙ ap (λ z. at ∷ turns z upper step) (ap (λ s. at +ℤ s) (step_is step h) ∙ sym e)

pub last_turn : (at upper step : ℤ) → at <ℤ upper → pos 0 <ℤ step → upper ≤ℤ (at +ℤ step) → turns at upper step ≡ at ∷ turns upper upper step
last_turn at upper step less h past =
    turns_more at upper step less
    ∙ ap (λ ts. at ∷ ts) (turns_end (at +ℤ int_max (pos 1) step) upper step (omega (arith, ints, past, step_is step h)) ∙ sym (turns_end upper upper step (omega (arith, ints))))

pub later_past : (at upper step : ℤ) → SFits w64 at → SFits w64 upper → pos 0 <ℤ step → (SFits w64 (at +ℤ step) → ⊥) → upper ≤ℤ (at +ℤ step)
later_past at upper step a b h wide = by_test (lt_z (at +ℤ step) upper) refl
  where
    by_test : (t : Bool) → lt_z (at +ℤ step) upper ≡ t → upper ≤ℤ (at +ℤ step)
    by_test false e = grind (arith, ints, e)
    by_test true e =
        let less : (at +ℤ step) <ℤ upper = grind (arith, ints, e) in
        absurd (wide (omega (arith, ints, a, b, h, less)))

pub ruleset laters = (later_turns, last_turn, later_past)

-- ---- the moves of a turn

-- a turn is put down, its number known, and its statements are in hand
pub turned : (s a b c d : Stand) (v : ℕ) (before : Option ℤ) (at next upper step : ℤ) (start inside : Counts) (body : Bor (List Statement))
    → IsSound (record s { frames = on.Turns v before at upper step start inside body ∷ s.frames }) → s.rest ≡ [] → at <ℤ upper → at ≤ℤ next → turns at upper step ≡ at ∷ turns next upper step
    → a ≡ record s { frames = on.Turns v before next upper step start inside body ∷ s.frames }
    → b ≡ record a { env = with_known (name_at a.names v) (Some at) a.env }
    → c ≡ record b { env = at_numbers start.fasts start.tags b.env }
    → d ≡ record c { rest = body.now }
    → Skips (record s { frames = on.Turns v before at upper step start inside body ∷ s.frames }) d
turned s a b c d v before at next upper step start inside body sound empty less later more p q r t =
    let whole : Stand = record s { frames = on.Turns v before at upper step start inside body ∷ s.frames } in
    let to_b = q ∙ ap {B = Stand} (λ (m : Stand). record m { env = with_known (name_at m.names v) (Some at) m.env }) p in
    let to_c = r ∙ ap {B = Stand} (λ (m : Stand). record m { env = at_numbers start.fasts start.tags m.env }) to_b in
    let to_d = t ∙ ap {B = Stand} (λ (m : Stand). record m { rest = body.now }) to_c in
    subst (Skips whole) (sym to_d) (turn_more whole v before at next upper step start inside body s.frames sound empty refl less later more)

-- a loop ends
pub ended : (s a b : Stand) (v : ℕ) (before : Option ℤ) (at upper step : ℤ) (start inside : Counts) (body : Bor (List Statement))
    → IsSound (record s { frames = on.Turns v before at upper step start inside body ∷ s.frames }) → s.rest ≡ [] → upper ≤ℤ at
    → a ≡ record s { env = with_known (name_at s.names v) before s.env }
    → b ≡ record a { env = at_numbers (start.fasts + inside.fasts) (start.tags + inside.tags) a.env }
    → Skips (record s { frames = on.Turns v before at upper step start inside body ∷ s.frames }) b
ended s a b v before at upper step start inside body sound empty end p q =
    let whole : Stand = record s { frames = on.Turns v before at upper step start inside body ∷ s.frames } in
    let to_b = q ∙ ap {B = Stand} (λ (m : Stand). record m { env = at_numbers (start.fasts + inside.fasts) (start.tags + inside.tags) m.env }) p in
    subst (Skips whole) (sym to_b) (turn_done whole v before at upper step start inside body s.frames sound empty refl end)

-- ---- the highest frame is taken

-- what stood there before the frame was taken
pub whole_standing : (p q : Standing) (frame : Frame) → p.frames ≡ frame ∷ q.frames → q ≡ record p { frames = q.frames } → record q { frames = frame ∷ q.frames } ≡ p
whole_standing p q frame is others = (λ i. record (others i) { frames = frame ∷ q.frames }) ∙ (λ i. record p { frames = sym is i })

pub whole_ready : (p q : Standing) (frame : Frame) → p.frames ≡ frame ∷ q.frames → q ≡ record p { frames = q.frames } → IsReady p → IsReady (record q { frames = frame ∷ q.frames })
whole_ready p q frame is others ready = subst IsReady (sym (whole_standing p q frame is others)) ready

pub none_open : (p : Standing) → p.rest ≡ [] → p.frames ≡ [] → actions_left p ≡ []
unfolding jobs_of
none_open p empty none = left_empty (stand_of p) empty ∙ ap (λ fs. all_actions (jobs_of p.bindings.names fs (env_of p.bindings))) none

pub none_standing : (p q : Standing) → p.frames ≡ q.frames → q ≡ record p { frames = q.frames } → q ≡ p
none_standing p q is others = others ∙ (λ i. record p { frames = sym is i })

-- a name has again what it had, and a memref's name stands for what it did
pub known_again : (s a : Stand) (n : ℕ) (before : Option ℤ) → IsSound (record s { frames = on.Known n before ∷ s.frames }) → s.rest ≡ [] → a ≡ record s { env = with_known (name_at s.names n) before s.env } → Skips (record s { frames = on.Known n before ∷ s.frames }) a
known_again s a n before sound empty p =
    let whole : Stand = record s { frames = on.Known n before ∷ s.frames } in
    subst (Skips whole) (sym p) (back_known whole n before s.frames sound empty refl)

pub placed_again : (s a : Stand) (n : ℕ) (before : Option Home) → IsSound (record s { frames = on.Memref n before ∷ s.frames }) → s.rest ≡ [] → a ≡ record s { env = with_home (name_at s.names n) (homes_meant before) s.env } → Skips (record s { frames = on.Memref n before ∷ s.frames }) a
placed_again s a n before sound empty p =
    let whole : Stand = record s { frames = on.Memref n before ∷ s.frames } in
    subst (Skips whole) (sym p) (back_placed whole n before s.frames sound empty refl)

pub known_inside : (s : Stand) (n : ℕ) (before : Option ℤ) → IsSound (record s { frames = on.Known n before ∷ s.frames }) → n < length s.names
unfolding Stacked
known_inside s n before sound = sound.stacked.0

pub placed_inside : (s : Stand) (n : ℕ) (before : Option Home) → IsSound (record s { frames = on.Memref n before ∷ s.frames }) → n < length s.names
unfolding Stacked
placed_inside s n before sound = sound.stacked.0

-- the statements behind are in hand
pub passed_to : (s a b : Stand) (statements : Bor (List Statement)) (passed : Counts) (f g : ℕ) → IsSound (record s { frames = on.Rest statements passed ∷ s.frames }) → s.rest ≡ [] → f ≡ s.env.fasts + passed.fasts → g ≡ s.env.tags + passed.tags
    → a ≡ record s { env = at_numbers f g s.env } → b ≡ record a { rest = statements.now } → Skips (record s { frames = on.Rest statements passed ∷ s.frames }) b
passed_to s a b statements passed f g sound empty x y p q =
    let whole : Stand = record s { frames = on.Rest statements passed ∷ s.frames } in
    let to_b = q ∙ ap {B = Stand} (λ (m : Stand). record m { rest = statements.now }) (p ∙ (λ i. record s { env = at_numbers (x i) (y i) s.env })) in
    subst (Skips whole) (sym to_b) (back_rest whole statements passed s.frames sound empty refl)

pub pass_fits : (s : Stand) (statements : Bor (List Statement)) (passed : Counts) → IsSound (record s { frames = on.Rest statements passed ∷ s.frames }) → s.rest ≡ [] → (s.env.fasts + passed.fasts ≤ 65536) × (s.env.tags + passed.tags ≤ 65536)
pass_fits s statements passed sound empty =
    let whole : Stand = record s { frames = on.Rest statements passed ∷ s.frames } in
    let there = back_rest whole statements passed s.frames sound empty refl in
    let fit = stands_fit (record s { rest = statements.now; env = past passed s.env }) there.sound in
    (fit.fasts, fit.tags)

pub ruleset backs = (whole_standing, whole_ready, none_open, none_standing)

-- ---- a loop or a condition is entered

abbrev pub no_counts : Counts
no_counts = record { fasts = 0; tags = 0 }

pub loop_moved : (s a b c d e : Stand) (line v : ℕ) (l u : Limit) (step : ℤ) (inside start : Counts) (before : Option ℤ) (at upper : ℤ) (body rest : Bor (List Statement)) → IsSound s → tree s.rest ≡ Loop line v l u step inside (tree body.now) (tree rest.now)
    → at ≡ lower_of s.env (bound_of s.names l) → upper ≡ upper_of a.env (bound_of a.names u) → before ≡ b.env.known (name_at b.names v) → start.fasts ≡ b.env.fasts → start.tags ≡ b.env.tags
    → a ≡ s → b ≡ a
    → c ≡ record b { frames = on.Rest rest no_counts ∷ b.frames }
    → d ≡ record c { frames = on.Turns v before at upper step start inside body ∷ c.frames }
    → e ≡ record d { rest = [] } → Skips s e
loop_moved s a b c d e line v l u step inside start before at upper body rest sound is low high was f g p q r t w =
    let b_is : b ≡ s = q ∙ p in
    let to_d = t ∙ ap {B = Stand} (λ (m : Stand). record m { frames = on.Turns v before at upper step start inside body ∷ m.frames }) (r ∙ ap {B = Stand} (λ (m : Stand). record m { frames = on.Rest rest no_counts ∷ m.frames }) b_is) in
    let to_e = w ∙ ap {B = Stand} (λ (m : Stand). record m { rest = [] }) to_d in
    subst (Skips s) (sym to_e)
    (loop_started s line v l u step inside start no_counts before at upper body rest sound is low (high ∙ ap (λ (m : Stand). upper_of m.env (bound_of m.names u)) p) (was ∙ ap (λ (m : Stand). m.env.known (name_at m.names v)) b_is)
    (f ∙ ap (λ (m : Stand). m.env.fasts) b_is) (g ∙ ap (λ (m : Stand). m.env.tags) b_is) refl refl)

pub first_moved : (s a b c : Stand) (line : ℕ) (set : Set) (operands : List ℕ) (first : Bor (List Statement)) (n : Counts) (has : Bool) (other : Tree) (m : Counts) (rest : Bor (List Statement)) → IsSound s
    → tree s.rest ≡ Branch line set operands (tree first.now) n has other m (tree rest.now) → true ≡ holds_at s.env set (names_at s.names operands)
    → a ≡ s → b ≡ record a { frames = on.Rest rest m ∷ a.frames } → c ≡ record b { rest = first.now } → Skips s c
first_moved s a b c line set operands first n has other m rest sound is holding p q r =
    let to_c = r ∙ ap {B = Stand} (λ (x : Stand). record x { rest = first.now }) (q ∙ ap {B = Stand} (λ (x : Stand). record x { frames = on.Rest rest m ∷ x.frames }) p) in
    subst (Skips s) (sym to_c) (first_taken s line set operands first n has other m rest sound is (sym holding))

pub other_moved : (s a b c d : Stand) (line : ℕ) (set : Set) (operands : List ℕ) (first : Tree) (n : Counts) (has : Bool) (other : Bor (List Statement)) (m : Counts) (rest : Bor (List Statement)) (f g : ℕ) → IsSound s
    → tree s.rest ≡ Branch line set operands first n has (tree other.now) m (tree rest.now) → false ≡ holds_at s.env set (names_at s.names operands) → f ≡ a.env.fasts + n.fasts → g ≡ a.env.tags + n.tags
    → a ≡ s → b ≡ record a { env = at_numbers f g a.env } → c ≡ record b { frames = on.Rest rest no_counts ∷ b.frames } → d ≡ record c { rest = other.now } → Skips s d
other_moved s a b c d line set operands first n has other m rest f g sound is failing x y p q r t =
    let to_b = q ∙ ap {B = Stand} (λ (z : Stand). record z { env = at_numbers f g z.env }) p in
    let to_c = r ∙ ap {B = Stand} (λ (z : Stand). record z { frames = on.Rest rest no_counts ∷ z.frames }) to_b in
    let to_d = t ∙ ap {B = Stand} (λ (z : Stand). record z { rest = other.now }) to_c in
    subst (Skips s) (sym to_d)
    (other_taken s line set operands first n has (tree other.now) m no_counts rest other f g sound is (sym failing) refl (x ∙ ap (λ (z : Stand). z.env.fasts + n.fasts) p) (y ∙ ap (λ (z : Stand). z.env.tags + n.tags) p) refl refl)

-- ---- a plain statement

pub opened_at : (p q : Standing) (frames : List Frame) (e : Env) → stand_of q ≡ record (stand_of p) { frames = frames; env = e } → Opens (stand_of p) frames e → Opened p q e
opened_at p q frames e is opens =
    let there : q.frames ≡ frames = ap (λ (m : Stand). m.frames) is in
    record {
      opens = subst (λ fs. Opens (stand_of p) fs e) (sym there) opens;
      at = is ∙ (λ i. record (stand_of p) { frames = sym there i; env = e });
    }

-- a name that had no number has none now
pub bound_same : (p q : Standing) (n : ℕ) (z before : Option ℤ) → IsReady p → Under p q (with_known (name_at p.bindings.names n) z (env_of p.bindings)) → None ≡ before → None ≡ z → before ≡ (env_of p.bindings).known (name_at p.bindings.names n)
    → Opened p q (with_known (name_at p.bindings.names n) z (env_of p.bindings))
bound_same p q n z before ready at b none was =
    let s = stand_of p in
    opened_at p q s.frames (with_known (name_at s.names n) z s.env) (under_stand p q (with_known (name_at s.names n) z s.env) at) (subst (λ y. Opens s s.frames (with_known (name_at s.names n) y s.env)) none (opens_same s n ready (b ∙ was)))

-- what a name had is put down
pub bound_new : (p a q : Standing) (n : ℕ) (z before : Option ℤ) → IsReady p → n < length p.bindings.names → length p.frames + 1 ≤ p.capacity → Under p a (with_known (name_at p.bindings.names n) z (env_of p.bindings)) → before ≡ (env_of p.bindings).known (name_at p.bindings.names n)
    → q ≡ record a { frames = on.Known n before ∷ a.frames } → Opened p q (with_known (name_at p.bindings.names n) z (env_of p.bindings))
bound_new p a q n z before ready inside room_ at was is =
    let s = stand_of p in
    let e = with_known (name_at s.names n) z s.env in
    opened_at p q (on.Known n before ∷ s.frames) e (ap stand_of is ∙ ap {B = Stand} (λ (m : Stand). record m { frames = on.Known n before ∷ m.frames }) (under_stand p a e at)) (opens_known s n z before ready inside room_ was)

pub placed_new : (p a b q : Standing) (n : ℕ) (home : Option Home) (before : Option Home) (f g : ℕ) → IsReady p → n < length p.bindings.names → length p.frames + 1 ≤ p.capacity → Under p a (with_home (name_at p.bindings.names n) (homes_meant home) (env_of p.bindings))
    → homes_meant before ≡ (env_of p.bindings).home (name_at p.bindings.names n) → b ≡ record a { bindings = record a.bindings { fasts = f; tags = g } } → q ≡ record b { frames = on.Memref n before ∷ b.frames }
    → Opened p q (at_numbers f g (with_home (name_at p.bindings.names n) (homes_meant home) (env_of p.bindings)))
placed_new p a b q n home before f g ready inside room_ at was r is =
    let s = stand_of p in
    let e = with_home (name_at s.names n) (homes_meant home) s.env in
    let to_b : stand_of b ≡ record s { env = at_numbers f g e } = ap stand_of r ∙ ap {B = Stand} (λ (m : Stand). record m { env = at_numbers f g m.env }) (under_stand p a e at) in
    opened_at p q (on.Memref n before ∷ s.frames) (at_numbers f g e) (ap stand_of is ∙ ap {B = Stand} (λ (m : Stand). record m { frames = on.Memref n before ∷ m.frames }) to_b) (opens_placed s n home before f g ready inside room_ was)

pub same_kept : (p : Standing) → IsReady p → Opened p p (env_of p.bindings)
same_kept p ready = opened_at p p p.frames (env_of p.bindings) refl (opens_nothing (stand_of p) ready)

-- the room stays, whatever the subscripts
resubscripted : (s : Stand) (uses : List Operand) → IsSound s → IsSound (record s { subscripts = uses })
unfolding jobs_at
resubscripted s uses sound = record { made = sound.made; uses = sound.uses; stacked = sound.stacked; room = sound.room; safe = sound.safe }

pub still_ready : (p q : Standing) → IsReady p → q ≡ record p { subscripts = q.subscripts } → IsReady q
still_ready p q ready is = subst IsSound (sym (ap stand_of is)) (resubscripted (stand_of p) q.subscripts ready)

acts_from : (s t : Stand) (uses : List Operand) (action : Action) → Acts (record s { subscripts = uses }) t action → Acts s t action
unfolding jobs_at
acts_from s t uses action h = record { sound = h.sound; left = h.left; names = h.names; width = h.width }

-- a plain statement's action, its change and its rest, from the moves that they are made of
pub acted_at : (p b c d : Standing) (line : ℕ) (plain : Plain) (rest : Bor (List Statement)) (e : Env) (action : Action) → IsReady p → tree p.rest ≡ Does line plain (tree rest.now)
    → b ≡ record p { subscripts = b.subscripts } → e ≡ after_plain (plain_of p.bindings.names plain) (env_of p.bindings) → Opened b c e → d ≡ record c { rest = rest.now } → action ≡ action_of (plain_of p.bindings.names plain) (env_of p.bindings) → Acted p d action
acted_at p b c d line plain rest e action ready is q after_ opened r means =
    let s = stand_of p in
    let there : Stand = record s { subscripts = b.subscripts } in
    let ready' = resubscripted s b.subscripts ready in
    let frames = c.frames in
    let to_b : stand_of b ≡ there = ap stand_of q in
    let opens : Opens there frames e = subst (λ (m : Stand). Opens m frames e) to_b opened.opens in
    let to_c : stand_of c ≡ record there { frames = frames; env = e } = opened.at ∙ ap {B = Stand} (λ (m : Stand). record m { frames = frames; env = e }) to_b in
    let to_d = ap stand_of r ∙ ap {B = Stand} (λ (m : Stand). record m { rest = rest.now }) to_c in
    let u : Stand = record there { frames = frames; env = e; rest = rest.now } in
    let acts = acts_from s u b.subscripts action (subst (Acts there u) (sym means) (acted there line plain rest frames e ready' is after_ opens)) in
    subst (λ (m : Stand). Acts s m action) (sym to_d) acts

-- the next allocation, by what is counted so far
pub fast_changed : (e : Env) (n : Name) (fasts tags : ℕ) → e.fasts ≡ fasts → e.tags ≡ tags → at_numbers (fasts + 1) tags (with_home n (Some (FastMemref fasts)) e) ≡ record e { home = put e.home n (Some (FastMemref e.fasts)); fasts = suc e.fasts }
fast_changed e n fasts tags f t =
    let next : fasts + 1 ≡ suc e.fasts = omega (arith, f) in
    λ i. record { known = e.known; home = put e.home n (Some (FastMemref (sym f i))); fasts = next i; tags = sym t i }

pub tags_changed : (e : Env) (n : Name) (fasts tags count : ℕ) → e.fasts ≡ fasts → e.tags ≡ tags → at_numbers fasts (tags + count) (with_home n (Some (TagMemref tags)) e) ≡ record e { home = put e.home n (Some (TagMemref e.tags)); tags = e.tags + count }
tags_changed e n fasts tags count f t = λ i. record { known = e.known; home = put e.home n (Some (TagMemref (sym t i))); fasts = sym f i; tags = sym t i + count }

-- ---- the first statement in hand

first_tree : (statements : List Statement) (first : Statement) (rest : List Statement) (f : Form) → statements ≡ first ∷ rest → first.form ≡ f → tree statements ≡ put_form f first.line (tree rest)
first_tree statements first rest f is form_is = ap tree is ∙ tree-cons first rest ∙ ap (λ x. put_form x first.line (tree rest)) form_is

pub loop_there : (statements : List Statement) (first : Statement) (rest : List Statement) (v : ℕ) (l u : Limit) (step : ℤ) (inside : Counts) (body : List Statement) → statements ≡ first ∷ rest → first.form ≡ form.For v l u step inside body
    → tree statements ≡ Loop first.line v l u step inside (tree body) (tree rest)
loop_there statements first rest v l u step inside body is f = first_tree statements first rest _ is f ∙ put-For first.line (tree rest) v l u step inside body

pub if_there : (statements : List Statement) (first : Statement) (rest : List Statement) (set : Set) (operands : List ℕ) (region : List Statement) (n m : Counts) (chosen : List Statement) → statements ≡ first ∷ rest → first.form ≡ form.If set operands region n None m → chosen ≡ []
    → tree statements ≡ Branch first.line set operands (tree region) n false (tree chosen) m (tree rest)
if_there statements first rest set operands region n m chosen is f none =
    first_tree statements first rest _ is f ∙ put-If first.line (tree rest) set operands region n m ∙ ap (λ t. Branch first.line set operands (tree region) n false t m (tree rest)) (sym (ap tree none ∙ tree-nil))

pub if_else_there : (statements : List Statement) (first : Statement) (rest : List Statement) (set : Set) (operands : List ℕ) (region other : List Statement) (n m : Counts) (chosen : List Statement) → statements ≡ first ∷ rest → first.form ≡ form.If set operands region n (Some other) m → chosen ≡ other
    → tree statements ≡ Branch first.line set operands (tree region) n true (tree chosen) m (tree rest)
if_else_there statements first rest set operands region other n m chosen is f which =
    first_tree statements first rest _ is f ∙ put-If-else first.line (tree rest) set operands region other n m ∙ ap (λ t. Branch first.line set operands (tree region) n true (tree t) m (tree rest)) (sym which)

pub plain_there : (statements : List Statement) (first : Statement) (rest : List Statement) (p : Plain) → statements ≡ first ∷ rest → first.form ≡ form.Plain p → tree statements ≡ Does first.line p (tree rest)
plain_there statements first rest p is f = first_tree statements first rest _ is f ∙ put-Plain first.line (tree rest) p

-- ---- the beginning

pub begins : (p : Standing) (bindings : Bindings) (names : List Name) (body : List Statement) (e : Env) (width : ℕ) → p ≡ record { frames = []; rest = body; bindings = bindings; subscripts = []; width = width; uses = width; capacity = room body } → bindings.names ≡ names → env_of bindings ≡ e
    → stand_of p ≡ record { names = names; frames = []; rest = body; env = e; subscripts = []; width = width; uses = width; capacity = room body }
begins p bindings names body e width is n v = ap stand_of is ∙ (λ i. record { names = n i; frames = []; rest = body; env = v i; subscripts = []; width = width; uses = width; capacity = room body })

pub begin_sound : (names : List Name) (body : List Statement) (e : Env) (width : ℕ) (uses : List Operand) → Numbered (length names) width (tree body) → Counted names (tree body) → SafeNest (nest_of names (tree body)) e
    → IsSound (record { names = names; frames = []; rest = body; env = e; subscripts = uses; width = width; uses = width; capacity = room body })
unfolding jobs_at jobs_of Stacked
begin_sound names body e width uses numbered counted safe = record {
  made = record { numbered = numbered; counted = counted };
  uses = omega arith;
  stacked = tt;
  room = omega arith;
  safe = (safe, tt);
}

pub begin_left : (names : List Name) (body : List Statement) (e : Env) (width : ℕ) (uses : List Operand)
    → all_actions (jobs_at (record { names = names; frames = []; rest = body; env = e; subscripts = uses; width = width; uses = width; capacity = room body })) ≡ actions (nest_of names (tree body)) e
unfolding jobs_at jobs_of
begin_left names body e width uses = append-nil (actions (nest_of names (tree body)) e)
