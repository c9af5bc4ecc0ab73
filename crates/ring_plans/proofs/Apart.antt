-- No loop with rings lies in another one: it holds no earlier one when it gets them, and lies in none, since loops come as they end.
use Rattle.std.proofs.Common.{◌≡◌, Bool, true, false, List, [], ◌∷◌, ◌++◌, refl}
use Rattle.std.specs.Prelude.{fold, not, ◌&&◌, ◌||◌, if◌then◌else◌, Option, Some, None}
use Rattle.affine_ast.specs.declared.module.Arg.{Arg}
use Rattle.affine_ast.specs.Nest.{Nest, nest}
use Rattle.nest_domain.specs.declared.plan.Cause.{Cause}
use Rattle.nest_domain.specs.declared.plan.Cause.TheVariants as cause
use Rattle.nest_domain.specs.declared.plan.Options.{Options}
use Rattle.placement_texts.specs.Template.{Placement}
use Rattle.placement_texts.specs.Spots.{Spot}
use Rattle.placement_regions.specs.Sites.{from_spot, way_to}
use Rattle.plan_laws.specs.Limits.{keeps_intervals}
use Rattle.plan_laws.specs.Plan.{plan, plan_steps, planned_text}
use Rattle.plan_laws.specs.Sites.{loops_round}
use Rattle.ring_plans.specs.Spots.{lies_in, one_lies_in, is_first, loops_by_end, ends_in_loop}
use Rattle.ring_plans.specs.Plan.{Judged, Ringed, InLoop, splits, when, has_shape, ring_cause, with_ring, with_cause, tried, judged, with_rings, in_loop, ringed_from, regions_in, begun, ringed}
use Rattle.ring_plans.specs.Law.{NoneHolds, lies_in_one, StandApart, RingsStandApart}
use Rattle.ring_plans.proofs.Within.{no_more, not_so}
use Rattle.ring_plans.proofs.Ends.{end_in_order}

-- the middle of three tests
middle : (a b c d : Bool) → not ((a && (not b && c)) && d) ≡ false → b ≡ false
middle true false c d h = refl
middle true true c d h = absurd (let z : ⊥ = cc in z)
middle false b c d h = absurd (let z : ⊥ = cc in z)

-- none of the places to come lies in one of these loops
abbrev AreFree : List Spot → List Spot → Type 0
AreFree [] ls = Unit {0}
AreFree (t ∷ ts) ls = (one_lies_in t ls ≡ false) × AreFree ts ls

either : (a b : Bool) → (a || b) ≡ false → (a ≡ false) × (b ≡ false)
either false b h = (refl, h)
either true b h = absurd (let z : ⊥ = cc in z)

first_free : (ts : List Spot) (l : Spot) (ls : List Spot) → AreFree ts (l ∷ ls) → lies_in_one ts l ≡ false
first_free [] l ls h = refl
first_free (t ∷ ts) l ls h = λ i. (either (lies_in t l) (one_lies_in t ls) h.0).0 i || first_free ts l ls h.1 i

rest_free : (ts : List Spot) (l : Spot) (ls : List Spot) → AreFree ts (l ∷ ls) → AreFree ts ls
rest_free [] l ls h = tt
rest_free (t ∷ ts) l ls h = ((either (lies_in t l) (one_lies_in t ls) h.0).1, rest_free ts l ls h.1)

module _ (o : Options) (args : List Arg) (n : Nest) where
  by_no_cause : (loops : List Spot) (x : Judged) (l : Spot) (text : Nest) → ring_cause o args n loops x.step x.region l text ≡ None → one_lies_in l loops ≡ false
  by_no_cause loops x l text h =
      middle (ends_in_loop false (way_to x.step.spot n)) (one_lies_in l loops) (splits o.buffers (from_spot l n)) (keeps_intervals args text)
      (not_so _ cause.Shape (no_more (when (not (has_shape o args n loops x.step l && keeps_intervals args text)) cause.Shape) _ h).0)

  -- of the rings of one loop
  module _ (text : Nest) (loops : List Spot) (l : Spot) where
    abbrev AreFine : List Placement → Type 0
    AreFine [] = Unit {0}
    AreFine (p ∷ ps) = one_lies_in l loops ≡ false

    one_more : (ps : List Placement) (p : Placement) → one_lies_in l loops ≡ false → AreFine (ps ++ p ∷ [])
    one_more [] p h = h
    one_more (q ∷ qs) p h = h

    by_cause : (ps : List Placement) (p : Placement) (c : Option Cause) → AreFine ps → (c ≡ None → one_lies_in l loops ≡ false) → AreFine (with_ring o args n c p ps)
    by_cause ps p None h more = one_more ps p (more refl)
    by_cause ps p (Some c) h more = h

    by_loop : (so : InLoop) (x : Judged) (here : Bool) → AreFine so.rings
        → AreFine (if here then with_cause o args n text loops l so x (ring_cause o args n loops x.step x.region l (tried o args n text loops l so x)) else record so { placements = so.placements ++ x ∷ [] }).rings
    by_loop so x false h = h
    by_loop so x true h =
        by_cause so.rings x.step.placement (ring_cause o args n loops x.step x.region l (tried o args n text loops l so x)) h
        (by_no_cause loops x l (tried o args n text loops l so x))

    all_fine : (xs : List Judged) (so : InLoop) → AreFine so.rings → AreFine (fold (judged o args n text loops l) so xs).rings
    all_fine [] so h = h
    all_fine (x ∷ xs) so h = all_fine xs (judged o args n text loops l so x) (by_loop so x (is_first l (loops_round x.step.spot n)) h)

  -- so far, with the loops to come
  abbrev AreApart : List Spot → List Spot → Type 0
  AreApart ts ls = StandApart ts × AreFree ts ls

  with_rings_apart : (so : Ringed) (l : Spot) (ls : List Spot) (ps : List Placement) (xs : List Judged)
      → AreApart so.loops (l ∷ ls) → one_lies_in l ls ≡ false → AreFine so.text so.loops l ps → AreApart (with_rings o args n so l ps xs).loops ls
  with_rings_apart so l ls [] xs h k more = (h.0, rest_free so.loops l ls h.1)
  with_rings_apart so l ls (p ∷ ps) xs h k more = ((more, first_free so.loops l ls h.1, h.0), (k, rest_free so.loops l ls h.1))

  all_loops : (ls : List Spot) (so : Ringed) → NoneHolds ls → AreApart so.loops ls → StandApart (fold (in_loop o args n) so ls).loops
  all_loops [] so k h = h.0
  all_loops (l ∷ ls) so k h =
      let x = fold (judged o args n so.text so.loops l) (record { rings = []; placements = [] }) so.placements in
      all_loops ls (in_loop o args n so l) k.1
      (with_rings_apart so l ls x.rings x.placements h k.0 (all_fine so.text so.loops l so.placements (record { rings = []; placements = [] }) tt))

  from : (text : Nest) (xs : List Judged) → StandApart (ringed_from o args n text xs).loops
  from text xs = by o.double
    where
      by : (double : Bool) → StandApart (if double
          then fold (in_loop o args n) (record { text = text; loops = []; placements = xs }) (loops_by_end n)
          else record { text = text; loops = []; placements = xs }).loops
      by true = all_loops (loops_by_end n) (record { text = text; loops = []; placements = xs }) (end_in_order n) (tt, tt)
      by false = tt

pub rings_stand_apart : RingsStandApart
unfolding ringed
rings_stand_apart o m = from o m.args (nest m.body) (planned_text o m) (begun o.double (plan_steps o m) (regions_in (plan o m)))
