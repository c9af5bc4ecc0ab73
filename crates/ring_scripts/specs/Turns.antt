-- The turns of a loop with rings: what the second run's actions have to keep clear of, what makes a loop a ring, and what its text does.
use Rattle.std.specs.Prelude.{◌≡◌, ◌≢◌, ℕ, suc, ◌+◌, ◌*◌, ◌<◌, ◌≤◌, ℤ, pos, ◌+ℤ◌, Bool, true, false, ◌&&◌, List, length, nat_le, nat_lt}
use Rattle.affine_ast.specs.declared.name.Name.{Name}
use Rattle.affine_ast.specs.declared.types.Bound.{Bound}
use Rattle.affine_ast.specs.Nest.{Nest, Nothing, Loop}
use Rattle.bus_model.specs.declared.transfer.Transfer.{Transfer}
use Rattle.direct_meaning.specs.Action.{Action, Loads, Stores, RawLoads, RawStores, Allocates, Releases, ReleasesTags, Starts, Waits}
use Rattle.direct_meaning.specs.Static.{Env, knows, lower_of, upper_of, place_at}
use Rattle.direct_meaning.specs.Actions.{actions, behind}
use Rattle.direct_meaning.specs.Direct.{folded}
use Rattle.loop_forms.specs.Laws.{HasOneResult}
use Rattle.loop_forms.specs.Split.{reach}
use Rattle.loop_forms.specs.Stepped.{turn_total}
use Rattle.placement_texts.specs.Template.{Placement}
use Rattle.prompt_semantics.specs.Device.{Device}
use Rattle.prompt_semantics.specs.Prompt.{prompt_step}
use Rattle.step_runs.specs.Stage.{Stage}
use Rattle.step_runs.specs.Steps as steps
use Rattle.step_runs.specs.Steps.{Each, Step, first_list, second_list, load_meets, store_meets, AvoidsStart, AvoidsAll, Goes}
use Rattle.step_runs.specs.Related.{Related, Ends}
use Rattle.ring_runs.specs.Facts.{RingFacts, starts_of}
use Rattle.ring_runs.specs.Ring.{IsRing, entry, leave, none_out, window}
use Rattle.ring_plans.specs.Rings.{ring_loops, some_read, started, twin, twin_text}
use Rattle.ring_scripts.specs.Ahead.{AllStart, IsPast, inward_at, pads_at}

-- ---- an action beside a transfer
-- it meets no test of a transfer that is under way all the time
abbrev pub KeepsClear : ℕ → (ℕ → ℕ → Transfer) → Transfer → Action → Type 0
KeepsClear large ring v (Loads r q) = load_meets q v ≡ false
KeepsClear large ring v (Stores x q) = store_meets q v ≡ false
KeepsClear large ring v (RawLoads r home sizes subscripts) = (zs : List ℤ) → load_meets (place_at home sizes zs) v ≡ false
KeepsClear large ring v (RawStores x home sizes subscripts) = (zs : List ℤ) → store_meets (place_at home sizes zs) v ≡ false
KeepsClear large ring v (Allocates n element sizes) = v.fast ≢ n
KeepsClear large ring v (Releases n element sizes) = v.fast ≢ n
KeepsClear large ring v (ReleasesTags first count) = (nat_le first v.tag && nat_lt v.tag (first + count)) ≡ false
KeepsClear large ring v (Starts u) = AvoidsStart large ring u v
KeepsClear large ring v (Waits tag count) = v.tag ≢ tag
KeepsClear large ring v a = Unit {0}

-- steps that are allowed avoid a transfer where the second run's actions keep clear of it
abbrev pub ClearIsCalm : Type 0
ClearIsCalm = (large : ℕ) (ring : ℕ → ℕ → Transfer) (xs : List Step) (s : Stage) (v : Transfer) → Goes large ring xs s → Each (KeepsClear large ring v) (second_list ring xs) → AvoidsAll large ring xs s v

-- ---- the turns of a ring
module _ (large : ℕ) (ring : ℕ → ℕ → Transfer) (inward outward : ℕ → Bool) (lead count : ℕ) (base : ℕ → Stage) (turn : ℕ → List Step) where
  abbrev pub head : ℕ → Stage
  head k = record (base k) { out = entry inward outward (suc lead) k }

  -- each turn goes by itself, with nothing under way but what it waits for, and leads to the next one; what the second run does in it
  -- keeps clear of the transfers of the turns after it that are in the ring, and of those that left in the turns before
  pub record TurnsGo : Type 0 where
    pub turns : (k : ℕ) → k < count → Goes large ring (turn k) (head k)
    pub leads : (k : ℕ) → k < count → steps.behind (turn k) (head k) ≡ record (base (suc k)) { out = leave inward outward (suc lead) k }
    pub clear_in : (k i j : ℕ) → k < count → inward i ≡ true → k < j → j < k + suc lead → j < count → Each (KeepsClear large ring (ring i j)) (second_list ring (turn k))
    pub clear_out : (k i j : ℕ) → k < count → outward i ≡ true → j < k → k < j + suc lead → Each (KeepsClear large ring (ring i j)) (second_list ring (turn k))

-- with what the numbers of halves and tags keep, they and their starts ahead make a ring. All inward placements have numbers below m
abbrev pub TurnsMakeARing : Type 0
TurnsMakeARing = (large : ℕ) (ring : ℕ → ℕ → Transfer) (inward outward : ℕ → Bool) (lead count : ℕ) (base : ℕ → Stage) (turn : ℕ → List Step) (number first_tag place : ℕ → ℕ) (pads : ℕ → ℕ → ℕ) (m : ℕ)
    → RingFacts large ring inward outward lead count base number first_tag place → ((i : ℕ) → inward i ≡ true → i < m)
    → TurnsGo large ring inward outward lead count base turn
    → IsRing large ring inward outward lead count base (starts_of inward pads m) turn

-- ---- the text
-- where turn k is
abbrev pub turn_at : ℤ → ℕ → ℕ → ℤ
turn_at a s k = a +ℤ pos (k * s)

module _ (own kept : Name → Bool) (ring : ℕ → ℕ → Transfer) (v : Name) (lower upper : Bound) (s lead : ℕ) (ps : List Placement) (turn : ℕ → List Step) (body body' : Nest) (e g : Env) where
  abbrev pub begin : ℤ
  begin = lower_of e lower

  abbrev pub total : ℕ
  total = turn_total (lower_of e lower) (upper_of e upper) s

  -- what is known at the head of the turn k of each of the three loops
  abbrev pub at_starts : ℕ → Env
  at_starts k = knows g v (turn_at begin s k)

  abbrev pub in_starts : Nest
  in_starts = started (suc lead) v lower upper (pos s) twin (pos 0) ps Nothing

  abbrev pub at_main : ℕ → Env
  at_main k = knows (behind in_starts g) v (turn_at begin s k)

  abbrev pub in_main : Nest
  in_main = started (suc lead) v lower upper (pos s) (λ n. n) (reach (pos s) (suc lead)) ps body'

  abbrev pub at_last : ℕ → Env
  at_last k = knows (behind in_main (behind in_starts g)) v (turn_at begin s k)

  -- the steps of a turn are what the two texts do in it: the loop of single placements, and the three loops of the rings. The starts of
  -- a turn stand ready in the prologue and in the main loop, `lead` turns ahead
  pub record AreTurns : Type 0 where
    pub lowers : lower_of g lower ≡ lower_of e lower
    pub uppers : upper_of g upper ≡ upper_of e upper
    pub single : (k : ℕ) → k < total → first_list ring (turn k) ≡ actions body (knows e v (turn_at begin s k))
    pub first : (k : ℕ) → k < lead → k < total → AllStart own kept (suc lead) v lower upper s (pos 0) (turn_at begin s k) twin ring k 0 ps (at_starts k)
    pub ahead : (k : ℕ) → k + lead < total → AllStart own kept (suc lead) v lower upper s (pos (lead * s)) (turn_at begin s k) (λ n. n) ring (k + lead) 0 ps (at_main k)
    pub main : (k : ℕ) → k + lead < total → (h : Env) → IsPast own kept (suc lead) v lower upper s (pos (lead * s)) (turn_at begin s k) (λ n. n) ring (k + lead) (at_main k) h → second_list ring (turn k) ≡ actions body' h
    pub last : (k : ℕ) → total ≤ k + lead → k < total → second_list ring (turn k) ≡ actions (twin_text body') (at_last k)

-- a loop of single placements and its loops with rings, where one placement is inward at least, end alike
abbrev pub RingTextAgrees : Type 0
RingTextAgrees = (filler : ℤ) (small large line line' : ℕ) (own kept : Name → Bool) (ring : ℕ → ℕ → Transfer) (outward : ℕ → Bool) (v : Name) (lower upper : Bound) (s lead : ℕ) (ps : List Placement) (base : ℕ → Stage) (turn : ℕ → List Step) (body body' : Nest) (e g : Env)
    → HasOneResult lower → HasOneResult upper → 1 ≤ s → 1 ≤ lead → some_read (suc lead) v lower upper (pos s) ps ≡ true
    → IsRing large ring (inward_at ps) outward lead (turn_total (lower_of e lower) (upper_of e upper) s) base (starts_of (inward_at ps) (pads_at ps) (length ps)) turn
    → AreTurns own kept ring v lower upper s lead ps turn body body' e g
    → (d y : Device) → Related ring (record (base 0) { out = none_out }) d y
    → Ends (Related ring (record (base (turn_total (lower_of e lower) (upper_of e upper) s)) { out = window (inward_at ps) outward (suc lead) (turn_total (lower_of e lower) (upper_of e upper) s) (turn_total (lower_of e lower) (upper_of e upper) s) }))
    (folded (prompt_step filler small) (actions (Loop line v lower upper (pos s) body Nothing) e) d)
    (folded (prompt_step filler large) (actions (ring_loops (suc lead) v lower upper (pos s) ps line' body' Nothing) g) y)
