-- The outward example keeps all that is asked of a ring, and its last waits leave nothing under way.
use Rattle.std.proofs.Common.{◌≡◌, ◌≢◌, inl, inr, ℕ, zero, suc, ◌+◌, ◌-◌, ◌<◌, ◌≤◌, List, [], ◌∷◌, ◌++◌, refl, sym, ap, ◌∙◌, subst, arith, Bool, true, false}
use mathlib.Core.Path.{fun_ext}
use Rattle.std.specs.Prelude.{◌&&◌, ◌||◌, nat_eq, nat_lt, nat_le, if◌then◌else◌}
use Rattle.std.proofs.lemmas.Bool.{eqb-true, eqb-false, eq-eqb, ne_eqb, and_parts, lt-ltb, ltb-true, le-leb, leb-true}
use Rattle.std.proofs.Math.Nat.{mod-lt}
use Rattle.affine_ast.specs.declared.name.Name.{Name}
use Rattle.affine_ast.specs.declared.types.Element.TheVariants.{I32}
use Rattle.bus_model.specs.declared.transfer.Transfer.{Transfer}
use Rattle.bus_model.specs.Places.{slow_place}
use Rattle.direct_meaning.specs.Action.{Place, Slow, Fast, Outside, Allocates, AllocatesTags}
use Rattle.step_runs.specs.Stage.{Stage, place_in}
use Rattle.step_runs.specs.Steps.{Each, Step, Alone, Leaves, Late, Becomes, first_half, with_out, less_out, behind, store_meets, Clear, Sound, IsSeenFrom, AvoidsStart, AvoidsAll, Goes}
use Rattle.ring_runs.specs.Ring.{none_out, window, entry, leave, ring_loop, IsRing}
use Rattle.ring_runs.specs.Facts.{starts_of, IsPlaced, RingFacts}
use Rattle.ring_runs.specs.Lates.{turns_of, lates}
use Rattle.step_runs.specs.Plain.{boths, AllowedPlain}
use Rattle.ring_runs.specs.Template.{own_knowns, opened_out, closed, CanDepart}
use Rattle.ring_samples.specs.Example.{one_cell, carried_back, place_of_turn, is_slow, turn_stage}
use Rattle.ring_samples.specs.Outward.{no_inward, one_outward, leaving, cover, out_turn}
use Rattle.step_runs.proofs.Frame.{Leads, leads-append}
use Rattle.ring_runs.proofs.Facts.{starts, started, quiet_in, quiet_out}
use Rattle.step_runs.proofs.Plain.{agreed, agreed_behind, fresh_behind, plain_go, plain_sound, plain_kept}
use Rattle.ring_runs.proofs.Template.{alone_stage, alone_go, late_go, departed_go, closed_go}
use Rattle.ring_runs.proofs.Ring.{ring_goes}
use Rattle.ring_runs.proofs.Lates.{lates_go, none_left, Has}
use Rattle.ring_runs.proofs.AllLates.{are_out, has_turn}
use Rattle.ring_samples.proofs.Example.{rest_apart, one_slow}

no_bool : false ≡ true → ⊥
no_bool z = cc

module _ (large lead count : ℕ) (x : Name) where
  abbrev ring : ℕ → ℕ → Transfer
  ring = leaving lead count x

  abbrev base : ℕ → Stage
  base = turn_stage lead count x

  abbrev place : ℕ → ℕ
  place = place_of_turn lead count x

  differ : false ≡ true → ⊥
  differ z = cc

  is_zero : (i : ℕ) → IsPlaced large ring no_inward one_outward lead count base i → i ≡ 0
  is_zero i (inl e) = absurd (differ e)
  is_zero i (inr e) = eqb-true i 0 e

  slow_only : (q : Place) → is_slow lead count x q ≡ true → (n h c : ℕ) → q ≢ Fast n h c
  slow_only q e n h c is = let k : false ≡ true = ap (is_slow lead count x) (sym is) ∙ e in cc

  slow_stays : (k : ℕ) (q : Place) → is_slow lead count x q ≡ true → place_in (base k) q ≡ q
  slow_stays k (Slow p) e = refl
  slow_stays k (Fast n h c) e = absurd (differ e)
  slow_stays k Outside e = refl

  sound : (k : ℕ) → Sound large ring (base k)
  sound k = record { within = λ q a. a; alone = λ q p a b e. sym (slow_stays k q a) ∙ e ∙ slow_stays k p b }

  facts : RingFacts large ring no_inward one_outward lead count base (λ i. 0) (λ i. 0) place
  facts = record {
    fast_is = λ i j p. refl;
    half_is = λ i j p. refl;
    tag_is = λ i j p. (let e : place j ≡ 0 + place j = omega arith in e);
    incoming = λ i j p. absurd (differ p);
    outgoing = λ i j p. refl;
    either = λ i p q. differ p;
    within = λ j. mod-lt j (omega arith);
    apart = λ k j low high e. rest_apart k j (suc lead) (omega arith) low high e;
    numbers = λ i a p q e. is_zero i p ∙ sym (is_zero a q);
    tags = λ i a x y p q lx ly e. (is_zero i p ∙ sym (is_zero a q), omega (arith, e));
    parted = λ i j a b p q lj lb. absurd (differ p);
    made = λ k i j e p low high here lt. absurd (differ p);
    free = λ k i h c q p t is. slow_only q t 0 h c (sym (slow_stays k q t) ∙ is);
    others = λ k i j p. absurd (differ p);
    sound = sound;
  }

  module _ (k : ℕ) (here : k < count) where
    abbrev s0 : Stage
    s0 = record (base k) { out = entry no_inward one_outward (suc lead) k }

    abbrev s1 : Stage
    s1 = alone_stage large ring no_inward one_outward lead count base (λ i. 0) (λ i. 0) place facts s0 (carried_back k) one_cell

    -- what is under way at the beginning left so many turns before
    only : (a b : ℕ) → entry no_inward one_outward (suc lead) k a b ≡ true → (a ≡ 0) × (k ≡ b + suc lead)
    only a b o =
        let two = and_parts (nat_eq a 0) (nat_eq k (b + suc lead)) o in
        (eqb-true a 0 two.0, eqb-true k (b + suc lead) two.1)

    abbrev s2 : Stage
    s2 = record s1 { out = none_out }

    ok0 : Sound large ring s0
    ok0 = record { within = (sound k).within; alone = (sound k).alone }

    abbrev alone : List Step
    alone = own_knowns 2 ++ Alone (Allocates 0 I32 one_cell) ∷ Alone (AllocatesTags 0 1) ∷ []

    alone_is : (Goes large ring alone s0 × (behind alone s0 ≡ s1)) × Sound large ring s1
    alone_is = alone_go large ring no_inward one_outward lead count base (λ i. 0) (λ i. 0) place facts s0 0 k (carried_back k) I32 one_cell 2 ok0 refl
        (λ c lt. lt-ltb c 1 lt) (λ q t h c. slow_only q t 0 h c) (λ q t c is. slow_only q t 0 (place k) c (sym (slow_stays k q t) ∙ is))

    abbrev late_steps : Bool → List Step
    late_steps t = if t then Late 0 (k - suc lead) ∷ [] else []

    late_leads : (t : Bool) → nat_le (suc lead) k ≡ t → Leads large ring (late_steps t) s1 s2
    late_leads true t =
        let le = leb-true (suc lead) k t in
        let back : k - suc lead + suc lead ≡ k = omega (arith, le) in
        let go = late_go large ring no_inward one_outward lead count base (λ i. 0) (λ i. 0) place facts s1 0 (k - suc lead) refl alone_is.1 refl (eq-eqb k (k - suc lead + suc lead) (sym back))
        (λ a b o. (let is = only a b o in let away = is.1 in (inr (eq-eqb a 0 is.0), λ z. omega (arith, away)))) in
        (go.0, go.1 ∙ ap (λ (o : ℕ → ℕ → Bool). record s1 { out = o }) (fun_ext (λ a. fun_ext (λ b. none a b (nat_eq 0 a && nat_eq (k - suc lead) b) refl (entry no_inward one_outward (suc lead) k a b) refl))))
      where
        none : (a b : ℕ) (u : Bool) → (nat_eq 0 a && nat_eq (k - suc lead) b) ≡ u → (v : Bool) → entry no_inward one_outward (suc lead) k a b ≡ v → less_out 0 (k - suc lead) (entry no_inward one_outward (suc lead) k) a b ≡ false
        none a b true u v w = ap (λ t. if t then false else entry no_inward one_outward (suc lead) k a b) u
        none a b false u false w = ap (λ t. if t then false else entry no_inward one_outward (suc lead) k a b) u ∙ w
        none a b false u true w =
            let is = only a b w in
            let away = is.1 in
            let p : nat_eq 0 a ≡ true = eq-eqb 0 a (sym is.0) in
            let q : nat_eq (k - suc lead) b ≡ true = eq-eqb (k - suc lead) b (omega (arith, away)) in
            let z : true ≡ false = sym (λ i. p i && q i) ∙ u in cc
    late_leads false t = (tt, ap (λ (o : ℕ → ℕ → Bool). record s1 { out = o }) (fun_ext (λ a. fun_ext (λ b. none a b (entry no_inward one_outward (suc lead) k a b) refl))))
      where
        none : (a b : ℕ) (v : Bool) → entry no_inward one_outward (suc lead) k a b ≡ v → entry no_inward one_outward (suc lead) k a b ≡ false
        none a b false w = w
        none a b true w =
            let is = only a b w in
            let away = is.1 in
            let less : k < suc lead = grind (arith, t) in
            absurd (omega (arith, away, less))

    ok2 : Sound large ring s2
    ok2 = let ok = alone_is.1 in record { within = ok.within; alone = ok.alone }

    none_meets : (test : Transfer → Bool) → Clear large ring s2 test
    none_meets test = record { own = λ a b o. absurd (differ o); moved = tt }

    each_allowed : Each (AllowedPlain large ring s2) (cover lead count x)
    each_allowed = (inr (record { there = refl; clear = none_meets (store_meets (Fast 0 (place k) 0)) }), tt)

    abbrev s3 : Stage
    s3 = agreed large ring (agreed_behind large ring s2 (cover lead count x) s2.agrees) (fresh_behind large ring s2 (cover lead count x) s2.fresh) s2

    ok3 : Sound large ring s3
    ok3 = plain_sound large ring s2 (cover lead count x) ok2 each_allowed

    in_count : (e : ℕ) → e < 1 → is_slow lead count x (Slow (slow_place (carried_back k) e)) ≡ true
    in_count e lt =
        let z : e ≡ 0 = omega (arith, lt) in
        ap (λ e. nat_lt (slow_place (carried_back k) e) count) z ∙ ap (λ p. nat_lt p count) (one_slow (carried_back k) refl refl) ∙ lt-ltb k count here

    -- the store has covered the half, whatever it held
    can_depart : CanDepart large ring no_inward one_outward lead count base (λ i. 0) place s3 0 k (carried_back k)
    can_depart = record {
      free = refl;
      outgoing = refl;
      idle = refl;
      like = refl;
      half = refl;
      some = omega arith;
      wide = omega arith;
      agrees = λ e lt. (let z : e ≡ 0 = omega (arith, lt) in ap (λ e. s3.agrees (Fast 0 0 (0 + e))) z);
      there = λ e lt. ap (λ t. t || first_half 0 one_cell (Slow (slow_place (carried_back k) e))) (in_count e lt);
      lives = λ e lt. refl;
      avoids = λ a b o. absurd (differ o);
    }

    abbrev s4 : Stage
    s4 = record s3 { out = with_out 0 k none_out }

    ok4 : Sound large ring s4
    ok4 = record { within = ok3.within; alone = ok3.alone }

    seen : IsSeenFrom large ring s4 (base (suc k))
    seen = record {
      same = λ q a. inl (plain_kept large ring s2 (cover lead count x) ok2 each_allowed q a, slow_stays (suc k) q a ∙ sym (slow_stays k q a));
      there = λ q a. (ap (λ t. t || first_half 0 one_cell q) a, inl (slow_stays (suc k) q a ∙ sym (slow_stays k q a)));
      fresh = λ p f. absurd (let z : false ≡ true = f in no_bool z);
      made = λ q m. m;
      images = tt;
    }

    left_is : with_out 0 k none_out ≡ leave no_inward one_outward (suc lead) k
    left_is = fun_ext (λ a. fun_ext (λ b. by a (nat_eq k b)))
      where
        by : (a : ℕ) (u : Bool) → (if nat_eq 0 a && u then true else false) ≡ (nat_eq a 0 && u)
        by zero true = refl
        by zero false = refl
        by (suc a) u =
            let p : nat_eq 0 (suc a) ≡ false = ne_eqb 0 (suc a) (λ e. omega (arith, e)) in
            let q : nat_eq (suc a) 0 ≡ false = ne_eqb (suc a) 0 (λ e. omega (arith, e)) in
            ap (λ t. if t && u then true else false) p ∙ sym (ap (λ t. t && u) q)

    turn_leads : Leads large ring (out_turn lead count x k) s0 (record (base (suc k)) { out = leave no_inward one_outward (suc lead) k })
    turn_leads =
        let fin : List Step = Becomes (base (suc k)) ∷ [] in
        let close : List Step = closed (carried_back k) I32 one_cell ++ fin in
        let depart : List Step = Leaves 0 k (carried_back k) ∷ [] ++ close in
        let works : List Step = boths (base k) (cover lead count x) ++ depart in
        let end : Stage = record (base (suc k)) { out = leave no_inward one_outward (suc lead) k } in
        leads-append large ring (opened_out (suc lead) 0 k (carried_back k) I32 one_cell 2) works s0 s2 end
        (leads-append large ring alone (late_steps (nat_le (suc lead) k)) s0 s1 s2 alone_is.0 (late_leads (nat_le (suc lead) k) refl))
        (leads-append large ring (boths (base k) (cover lead count x)) depart s2 s3 end (plain_go large ring s2 (cover lead count x) ok2 each_allowed)
        (leads-append large ring (Leaves 0 k (carried_back k) ∷ []) close s3 s4 end (departed_go large ring no_inward one_outward lead count base (λ i. 0) (λ i. 0) place facts s3 0 k (carried_back k) ok3 can_depart)
        (leads-append large ring (closed (carried_back k) I32 one_cell) fin s4 s4 end (closed_go large ring no_inward one_outward lead count base (λ i. 0) (λ i. 0) place facts s4 (carried_back k) I32 one_cell ok4)
        ((ok4, seen, tt), ap (λ (o : ℕ → ℕ → Bool). record (base (suc k)) { out = o }) left_is))))

    -- the turn avoids the transfers that left in the turns before and are still under way
    turn_avoids : (i h : ℕ) → h < k → k < h + suc lead → AvoidsAll large ring (out_turn lead count x k) s0 (ring i h)
    turn_avoids i h before near = by (nat_le (suc lead) k) refl
      where
        other : place h ≡ place k → ⊥
        other e = let same = rest_apart h k (suc lead) (omega arith) (omega (arith, before)) near e in omega (arith, same, before)

        older : suc lead ≤ k → place h ≡ place (k - suc lead) → ⊥
        older le e = let same = rest_apart (k - suc lead) h (suc lead) (omega arith) (omega (arith, near)) (omega (arith, le, before)) (sym e) in omega (arith, same, near, le)

        apart : nat_eq (place h) (place k) ≡ false
        apart = ne_eqb (place h) (place k) other

        starts_clear : AvoidsStart large ring (ring 0 k) (ring i h)
        starts_clear = record {
          tag = apart;
          half = apart;
          race = ap (λ p. (nat_eq p (slow_place (ring 0 k) 0) || false) || false) (one_slow (ring i h) refl refl)
              ∙ ap (λ p. (nat_eq h p || false) || false) (one_slow (ring 0 k) refl refl)
              ∙ ap (λ t. (t || false) || false) (ne_eqb h k (λ e. omega (arith, e, before)));
        }

        by : (t : Bool) → nat_le (suc lead) k ≡ t
            → AvoidsAll large ring ((own_knowns 2 ++ Alone (Allocates 0 I32 one_cell) ∷ Alone (AllocatesTags 0 1) ∷ late_steps t) ++ (boths (base k) (cover lead count x) ++ (Leaves 0 k (carried_back k) ∷ [] ++ (closed (carried_back k) I32 one_cell ++ Becomes (base (suc k)) ∷ [])))) s0 (ring i h)
        by true t = (tt, (tt, (tt, (tt, (older (leb-true (suc lead) k t), (apart, (starts_clear, (tt, (tt, (tt, tt))))))))))
        by false t = (tt, (tt, (tt, (tt, (apart, (starts_clear, (tt, (tt, (tt, tt)))))))))

  pub outward_is_ring : IsRing large ring no_inward one_outward lead count base (starts_of no_inward (λ i j. 0) 1) (out_turn lead count x)
  outward_is_ring = record {
    turns = λ k here. (turn_leads k here).0;
    leads = λ k here. (turn_leads k here).1;
    calm_in = λ k i j here is. absurd (differ is);
    calm_out = λ k i h here is before near. turn_avoids k here i h before near;
    starts = starts large ring no_inward one_outward lead count base (λ i. 0) (λ i. 0) place facts (λ i j. 0) 1 (λ i e. absurd (differ e));
    started = started large ring no_inward one_outward lead count base (λ i. 0) (λ i. 0) place facts (λ i j. 0) 1 (λ i e. absurd (differ e));
    quiet_in = quiet_in large ring no_inward one_outward lead count base (λ i. 0) (λ i. 0) place facts (λ i j. 0) 1 (λ i e. absurd (differ e));
    quiet_out = quiet_out large ring no_inward one_outward lead count base (λ i. 0) (λ i. 0) place facts (λ i j. 0) 1 (λ i e. absurd (differ e));
  }

  abbrev last_turns : ℕ
  last_turns = if nat_le (suc lead) count then suc lead else count

  abbrev end_stage : Stage
  end_stage = record (base count) { out = window no_inward one_outward (suc lead) count count }

  in_end : (i j : ℕ) → window no_inward one_outward (suc lead) count count i j ≡ true → (i ≡ 0) × (j < count) × (count ≤ j + suc lead)
  in_end i j o =
      let two = and_parts (nat_eq i 0) (nat_lt j count && nat_le count (j + suc lead)) o in
      let more = and_parts (nat_lt j count) (nat_le count (j + suc lead)) two.1 in
      (eqb-true i 0 two.0, ltb-true j count more.0, leb-true count (j + suc lead) more.1)

  -- the last waits, and nothing is under way behind them
  last_waits : Leads large ring (lates (turns_of 0 last_turns (count - suc lead))) end_stage (record (base count) { out = none_out })
  last_waits =
      let ok : Sound large ring end_stage = record { within = (sound count).within; alone = (sound count).alone } in
      let go = lates_go large ring (turns_of 0 last_turns (count - suc lead)) end_stage ok (are_out 0 last_turns (count - suc lead) end_stage.out under_way) (λ i j o. refl)
      (λ i j a b o p e. tags i j a b o p e) (λ i j o. tt) in
      (go.0, go.1 ∙ ap (λ (o : ℕ → ℕ → Bool). record (base count) { out = o }) (none_left large ring (turns_of 0 last_turns (count - suc lead)) end_stage.out all))
    where
      reach : count - suc lead + last_turns ≡ count
      reach = by (nat_le (suc lead) count) refl
        where
          by : (t : Bool) → nat_le (suc lead) count ≡ t → count - suc lead + (if t then suc lead else count) ≡ count
          by true t = let le = leb-true (suc lead) count t in omega (arith, le)
          by false t = let less : count < suc lead = grind (arith, t) in omega (arith, less)

      under_way : (j : ℕ) → count - suc lead ≤ j → j < count - suc lead + last_turns → window no_inward one_outward (suc lead) count count 0 j ≡ true
      under_way j low lt =
          let p : nat_lt j count ≡ true = lt-ltb j count (omega (arith, lt, reach)) in
          let q : nat_le count (j + suc lead) ≡ true = le-leb count (j + suc lead) (omega (arith, low)) in
          λ i. p i && q i

      tags : (i j a b : ℕ) → window no_inward one_outward (suc lead) count count i j ≡ true → window no_inward one_outward (suc lead) count count a b ≡ true → place b ≡ place j → (a ≡ i) × (b ≡ j)
      tags i j a b o p e =
          let u = in_end i j o in
          let v = in_end a b p in
          (v.0 ∙ sym u.0, by (nat_le b j) refl u.1 u.2 v.1 v.2)
        where
          by : (t : Bool) → nat_le b j ≡ t → j < count → count ≤ j + suc lead → b < count → count ≤ b + suc lead → b ≡ j
          by true t j1 j2 b1 b2 = rest_apart b j (suc lead) (omega arith) (leb-true b j t) (omega (arith, j1, b2)) e
          by false t j1 j2 b1 b2 =
              let ge : j < b = grind (arith, t) in
              sym (rest_apart j b (suc lead) (omega arith) (omega (arith, ge)) (omega (arith, b1, j2)) (sym e))

      all : (i j : ℕ) → window no_inward one_outward (suc lead) count count i j ≡ true → Has large ring i j (turns_of 0 last_turns (count - suc lead))
      all i j o =
          let u = in_end i j o in
          let lt = u.1 in
          let near = u.2 in
          subst (λ i. Has large ring i j (turns_of 0 last_turns (count - suc lead))) (sym u.0) (has_turn large ring 0 last_turns (count - suc lead) j (omega (arith, near)) (omega (arith, lt, reach)))

  -- the whole loop with its last waits
  pub outward_goes : Leads large ring (ring_loop (starts_of no_inward (λ i j. 0) 1) (out_turn lead count x) lead count ++ lates (turns_of 0 last_turns (count - suc lead))) (record (base 0) { out = none_out }) (record (base count) { out = none_out })
  outward_goes =
      leads-append large ring (ring_loop (starts_of no_inward (λ i j. 0) 1) (out_turn lead count x) lead count) (lates (turns_of 0 last_turns (count - suc lead))) (record (base 0) { out = none_out }) end_stage (record (base count) { out = none_out })
      (ring_goes large ring no_inward one_outward lead count base (starts_of no_inward (λ i j. 0) 1) (out_turn lead count x) outward_is_ring) last_waits
