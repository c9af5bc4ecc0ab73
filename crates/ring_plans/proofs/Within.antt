-- The tests of a ring hold of the text that a plan with doubling ends with.
use Rattle.std.proofs.Common.{◌≡◌, ℕ, ◌≤◌, Bool, true, false, List, [], ◌∷◌, ◌++◌, refl, arith}
use Rattle.std.specs.Prelude.{fold, not, ◌&&◌, nat_lt, if◌then◌else◌, Option, Some, None}
use Rattle.affine_ast.specs.declared.module.Arg.{Arg}
use Rattle.affine_ast.specs.declared.module.Module.{Module}
use Rattle.affine_ast.specs.Nest.{Nest, nest}
use Rattle.nest_domain.specs.declared.plan.Cause.{Cause}
use Rattle.nest_domain.specs.declared.plan.Cause.TheVariants as cause
use Rattle.nest_domain.specs.declared.plan.Options.{Options}
use Rattle.placement_texts.specs.Template.{Placement}
use Rattle.placement_texts.specs.Spots.{Spot}
use Rattle.peak_laws.specs.Peak.{peak_of}
use Rattle.plan_laws.specs.Limits.{keeps_limits, keeps_intervals}
use Rattle.plan_laws.specs.Plan.{plan, plan_steps, planned_text}
use Rattle.plan_laws.specs.Sites.{loops_round}
use Rattle.plan_laws.proofs.Plans.{keep_within as plain_keep_within}
use Rattle.ring_plans.specs.Rings.{double_at}
use Rattle.ring_plans.specs.Spots.{is_first, loops_by_end}
use Rattle.ring_plans.specs.Plan.{Judged, Ringed, InLoop, or_else, when, has_shape, is_used_outside, clashes, ring_cause, with_ring, with_cause, tried, judged, with_rings, in_loop, ringed_from, regions_in, begun, ringed, ring_text}
use Rattle.ring_plans.specs.Law.{RingsKeepWithin}

-- of no first cause, none of the causes holds
pub no_more : (a b : Option Cause) → or_else a b ≡ None → (a ≡ None) × (b ≡ None)
no_more None b h = (refl, h)
no_more (Some c) b h = absurd (let z : ⊥ = cc in z)

pub not_so : (b : Bool) (c : Cause) → when b c ≡ None → b ≡ false
not_so true c h = absurd (let z : ⊥ = cc in z)
not_so false c h = refl

both : (a b : Bool) → not (a && b) ≡ false → b ≡ true
both true true h = refl
both true false h = absurd (let z : ⊥ = cc in z)
both false b h = absurd (let z : ⊥ = cc in z)

was_so : (b : Bool) → not b ≡ false → b ≡ true
was_so true h = refl
was_so false h = absurd (let z : ⊥ = cc in z)

module _ (o : Options) (args : List Arg) (n : Nest) where
  -- a property that each text has which passes the tests
  module _ (P : Nest → Type 0) (of_tested : (text : Nest) → keeps_intervals args text ≡ true → nat_lt o.capacity (peak_of text 0) ≡ false → keeps_limits args text ≡ true → P text) where
    by_no_cause : (loops : List Spot) (x : Judged) (l : Spot) (text : Nest) → ring_cause o args n loops x.step x.region l text ≡ None → P text
    by_no_cause loops x l text h =
        let first = no_more (when (not (has_shape o args n loops x.step l && keeps_intervals args text)) cause.Shape) _ h in
        let second = no_more (when (is_used_outside o args n x.step.placement x.step.spot l) cause.Dependence) _ first.1 in
        let third = no_more (clashes o args n x.step x.region l) _ second.1 in
        let fourth = no_more (when (nat_lt o.capacity (peak_of text 0)) cause.Capacity) _ third.1 in
        of_tested text
        (both (has_shape o args n loops x.step l) (keeps_intervals args text) (not_so _ cause.Shape first.0))
        (not_so _ cause.Capacity fourth.0)
        (was_so (keeps_limits args text) (not_so _ cause.Size fourth.1))

    -- of the rings of one loop
    module _ (text : Nest) (loops : List Spot) (l : Spot) where
      abbrev AreFine : List Placement → Type 0
      AreFine [] = Unit {0}
      AreFine (p ∷ ps) = P (double_at o.buffers (p ∷ ps) l text)

      one_more : (ps : List Placement) (p : Placement) → P (double_at o.buffers (ps ++ p ∷ []) l text) → AreFine (ps ++ p ∷ [])
      one_more [] p h = h
      one_more (q ∷ qs) p h = h

      by_cause : (ps : List Placement) (p : Placement) (c : Option Cause) → AreFine ps → (c ≡ None → P (double_at o.buffers (ps ++ p ∷ []) l text)) → AreFine (with_ring o args n c p ps)
      by_cause ps p None h more = one_more ps p (more refl)
      by_cause ps p (Some c) h more = h

      by_loop : (so : InLoop) (x : Judged) (here : Bool) → AreFine so.rings
          → AreFine (if here then with_cause o args n text loops l so x (ring_cause o args n loops x.step x.region l (tried o args n text loops l so x)) else record so { placements = so.placements ++ x ∷ [] }).rings
      by_loop so x false h = h
      by_loop so x true h =
          by_cause so.rings x.step.placement (ring_cause o args n loops x.step x.region l (tried o args n text loops l so x)) h
          (by_no_cause loops x l (tried o args n text loops l so x))

      all_fine : (xs : List Judged) (so : InLoop) → AreFine so.rings → AreFine (fold (judged o args n text loops l) so xs).rings
      all_fine [] so h = h
      all_fine (x ∷ xs) so h = all_fine xs (judged o args n text loops l so x) (by_loop so x (is_first l (loops_round x.step.spot n)) h)

    with_rings_fine : (so : Ringed) (l : Spot) (ps : List Placement) (xs : List Judged) → P so.text → AreFine so.text so.loops l ps → P (with_rings o args n so l ps xs).text
    with_rings_fine so l [] xs h more = h
    with_rings_fine so l (p ∷ ps) xs h more = more

    all_loops : (ls : List Spot) (so : Ringed) → P so.text → P (fold (in_loop o args n) so ls).text
    all_loops [] so h = h
    all_loops (l ∷ ls) so h =
        let x = fold (judged o args n so.text so.loops l) (record { rings = []; placements = [] }) so.placements in
        all_loops ls (in_loop o args n so l) (with_rings_fine so l x.rings x.placements h (all_fine so.text so.loops l so.placements (record { rings = []; placements = [] }) tt))

    from : (text : Nest) (xs : List Judged) → P text → P (ringed_from o args n text xs).text
    from text xs h = by o.double
      where
        by : (double : Bool) → P (if double
            then fold (in_loop o args n) (record { text = text; loops = []; placements = xs }) (loops_by_end n)
            else record { text = text; loops = []; placements = xs }).text
        by true = all_loops (loops_by_end n) (record { text = text; loops = []; placements = xs }) h
        by false = h

not_above : (a b : ℕ) → nat_lt a b ≡ false → b ≤ a
not_above a b h = grind (arith, h)

module _ (o : Options) (m : Module) where
  abbrev start : List Judged
  start = begun o.double (plan_steps o m) (regions_in (plan o m))

  intervals_kept : keeps_intervals m.args (planned_text o m) ≡ true → keeps_intervals m.args (ring_text o m) ≡ true
  unfolding ringed
  intervals_kept h = from o m.args (nest m.body) (λ text. keeps_intervals m.args text ≡ true) (λ text i j k. i) (planned_text o m) start h

  capacity_kept : peak_of (planned_text o m) 0 ≤ o.capacity → peak_of (ring_text o m) 0 ≤ o.capacity
  unfolding ringed
  capacity_kept h = from o m.args (nest m.body) (λ text. peak_of text 0 ≤ o.capacity) (λ text i j k. not_above o.capacity (peak_of text 0) j) (planned_text o m) start h

  limits_kept : keeps_limits m.args (planned_text o m) ≡ true → keeps_limits m.args (ring_text o m) ≡ true
  unfolding ringed
  limits_kept h = from o m.args (nest m.body) (λ text. keeps_limits m.args text ≡ true) (λ text i j k. k) (planned_text o m) start h

pub keep_within : RingsKeepWithin
keep_within o m = record {
  intervals = λ h. intervals_kept o m ((plain_keep_within o m).intervals h);
  capacity = λ h. capacity_kept o m ((plain_keep_within o m).capacity h);
  limits = λ h. limits_kept o m ((plain_keep_within o m).limits h);
}
