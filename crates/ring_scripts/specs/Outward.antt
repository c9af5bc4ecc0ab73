-- Loops whose placements are all outward, and the waits behind the loops for the transfers that left last.
use Rattle.std.specs.Prelude.{◌≡◌, ℕ, suc, ◌+◌, ◌-◌, ◌<◌, ◌≤◌, ℤ, pos, Bool, false, List, [], ◌∷◌, ◌++◌, length, Some, if◌then◌else◌}
use Rattle.affine_ast.specs.declared.types.Bound.{Bound}
use Rattle.affine_ast.specs.declared.name.Name.{Name}
use Rattle.affine_ast.specs.Names.{same_name}
use Rattle.affine_ast.specs.Nest.{Nest, Nothing, Loop}
use Rattle.bus_model.specs.declared.transfer.Transfer.{Transfer}
use Rattle.direct_meaning.specs.Action.{TagMemref}
use Rattle.direct_meaning.specs.Static.{Env, knows, lower_of, number, upper_of}
use Rattle.direct_meaning.specs.Actions.{actions}
use Rattle.direct_meaning.specs.Direct.{folded}
use Rattle.direct_meaning.specs.Turns.{gap}
use Rattle.loop_forms.specs.Laws.{HasOneResult}
use Rattle.loop_forms.specs.Stepped.{turn_total}
use Rattle.placement_texts.specs.Template.{Placement, count_name, tag_name}
use Rattle.prompt_semantics.specs.Device.{Device}
use Rattle.prompt_semantics.specs.Prompt.{prompt_step}
use Rattle.step_runs.specs.Stage.{Stage}
use Rattle.step_runs.specs.Steps.{Step, first_list, second_list}
use Rattle.step_runs.specs.Related.{Related, Ends}
use Rattle.ring_runs.specs.Facts.{starts_of}
use Rattle.ring_runs.specs.Lates.{lates, turns_of}
use Rattle.ring_runs.specs.Places.{ring_place}
use Rattle.ring_runs.specs.Ring.{IsRing, none_out, window}
use Rattle.ring_plans.specs.Rings.{ring_loops, some_read, waited}
use Rattle.ring_scripts.specs.Ahead.{inward_at, pads_at}
use Rattle.ring_scripts.specs.Turns.{turn_at}

-- a loop of single placements and the loop with rings, where no placement is inward: it stays one loop, and they end alike
abbrev pub OutwardTextAgrees : Type 0
OutwardTextAgrees = (filler : ℤ) (small large line line' : ℕ) (ring : ℕ → ℕ → Transfer) (outward : ℕ → Bool) (v : Name) (lower upper : Bound) (s lead : ℕ) (ps : List Placement) (base : ℕ → Stage) (turn : ℕ → List Step) (body body' : Nest) (e g : Env)
    → 1 ≤ s → 1 ≤ lead → some_read (suc lead) v lower upper (pos s) ps ≡ false → lower_of g lower ≡ lower_of e lower → upper_of g upper ≡ upper_of e upper
    → IsRing large ring (inward_at ps) outward lead (turn_total (lower_of e lower) (upper_of e upper) s) base (starts_of (inward_at ps) (pads_at ps) (length ps)) turn
    → ((k : ℕ) → k < turn_total (lower_of e lower) (upper_of e upper) s → first_list ring (turn k) ≡ actions body (knows e v (turn_at (lower_of e lower) s k)))
    → ((k : ℕ) → k < turn_total (lower_of e lower) (upper_of e upper) s → second_list ring (turn k) ≡ actions body' (knows g v (turn_at (lower_of e lower) s k)))
    → (d y : Device) → Related ring (record (base 0) { out = none_out }) d y
    → Ends (Related ring (record (base (turn_total (lower_of e lower) (upper_of e upper) s)) { out = window (inward_at ps) outward (suc lead) (turn_total (lower_of e lower) (upper_of e upper) s) (turn_total (lower_of e lower) (upper_of e upper) s) }))
    (folded (prompt_step filler small) (actions (Loop line v lower upper (pos s) body Nothing) e) d)
    (folded (prompt_step filler large) (actions (ring_loops (suc lead) v lower upper (pos s) ps line' body' Nothing) g) y)

-- ---- behind the loops
module _ (lead : ℕ) (v : Name) (s : ℕ) (ring : ℕ → ℕ → Transfer) (begin : ℤ) (total : ℕ) where
  -- an outward placement's transfers have the tags of their turns' places in the ring, and carry what the count says
  pub record WaitsThere (i : ℕ) (p : Placement) (g : Env) : Type 0 where
    pub first_tag : ℕ
    pub home : g.home (tag_name p.name) ≡ Some (TagMemref first_tag)
    pub apart : same_name v (count_name p.name) ≡ false
    pub count : (j : ℕ) → j < total → (ring i j).count ≡ gap (number (g.known (count_name p.name)))
    pub tag : (j : ℕ) → j < total → (ring i j).tag ≡ first_tag + ring_place (turn_at begin s j) s (suc lead)

  -- from number i on
  abbrev pub AllWait : ℕ → List Placement → Env → Type 0
  AllWait i [] g = Unit {0}
  AllWait i (p ∷ ps) g = (p.reads ≡ false → WaitsThere i p g) × AllWait (suc i) ps g

-- r turns from k on, of each outward placement, of which the first has number i
abbrev pub late_turns : ℕ → List Placement → ℕ → ℕ → List (ℕ × ℕ)
late_turns i [] r k = []
late_turns i (p ∷ ps) r k = (if p.reads then [] else turns_of i r k) ++ late_turns (suc i) ps r k

-- the numbers of allocations alone may have changed
pub record IsKnownAs (g h : Env) : Type 0 where
  pub home : h.home ≡ g.home
  pub known : h.known ≡ g.known
  pub fasts : h.fasts ≡ g.fasts
  pub tags : h.tags ≡ g.tags

-- the text behind the loops waits for the transfers of the last turns, as many as the ring has places, or for all of fewer
abbrev pub LastWaitsAreSteps : Type 0
LastWaitsAreSteps = (lead : ℕ) (v : Name) (lower upper : Bound) (s : ℕ) (ring : ℕ → ℕ → Transfer) (ps : List Placement) (g : Env) (rest : Nest) → HasOneResult lower → HasOneResult upper → 1 ≤ s
    → AllWait lead v s ring (lower_of g lower) (turn_total (lower_of g lower) (upper_of g upper) s) 0 ps g
    → (h : Env) × IsKnownAs g h
    × (actions (waited (suc lead) v lower upper (pos s) ps rest) g
    ≡ second_list ring (lates (late_turns 0 ps (turn_total (lower_of g lower) (upper_of g upper) s - (turn_total (lower_of g lower) (upper_of g upper) s - suc lead)) (turn_total (lower_of g lower) (upper_of g upper) s - suc lead)))
    ++ actions rest h)
