-- The example keeps all that is asked of a ring, so the theorem isn't empty.
use Rattle.std.proofs.Common.{◌≡◌, ◌≢◌, ◌⊎◌, inl, inr, ℕ, suc, ◌+◌, ◌*◌, ◌/◌, ◌%◌, ◌<◌, ◌≤◌, List, [], ◌∷◌, ◌++◌, length, ℤ, refl, sym, ap, ◌∙◌, subst, arith, Bool, true, false}
use mathlib.Core.Path.{fun_ext}
use Rattle.std.specs.Prelude.{◌&&◌, ◌||◌, nat_eq, nat_lt, nat_le, if◌then◌else◌}
use Rattle.std.proofs.lemmas.Bool.{eqb-true, eqb-false, eq-eqb, ne_eqb, and_parts, lt-ltb, ltb-true, leb-true}
use Rattle.std.proofs.lemmas.Nat.{div-add-mod'}
use Rattle.std.proofs.Math.Nat.{mod-lt, mul-le-mul_right}
use Rattle.affine_ast.specs.declared.name.Name.{Name}
use Rattle.affine_ast.specs.declared.types.Element.TheVariants.{I32}
use Rattle.bus_model.specs.declared.transfer.Transfer.{Transfer}
use Rattle.bus_model.specs.Places.{slow_place}
use Rattle.direct_meaning.specs.Action.{Place, Slow, Fast, Outside, Allocates, Releases, AllocatesTags, ReleasesTags}
use Rattle.direct_meaning.specs.Direct.{folded}
use Rattle.bus_model.specs.Copies.{number_at}
use Rattle.prompt_semantics.specs.Device.{Device, bytes_of}
use Rattle.prompt_semantics.specs.Prompt.{prompt_step}
use Rattle.step_runs.specs.Stage.{Stage, value_at, room_by, HasRoom, place_in, image, is_target}
use Rattle.step_runs.specs.Steps.{Each, Step, Made, Becomes, cells_of, first_half, first_list, second_list, less_out, Clear, load_meets, store_meets, Sound, IsSeenFrom, AvoidsStart, AvoidsAll, Goes, behind}
use Rattle.step_runs.specs.Related.{Related, Ends}
use Rattle.step_runs.specs.Woven.{Woven}
use Rattle.ring_runs.specs.Ring.{none_out, window, entry, leave, ring_loop, IsRing}
use Rattle.step_runs.specs.Plain.{boths, AllowedPlain}
use Rattle.ring_runs.specs.Template.{opened, written, closed, CanOpen, CanWrite}
use Rattle.step_runs.proofs.Run.{steps_run}
use Rattle.ring_runs.proofs.Ring.{ring_goes}
use Rattle.step_runs.proofs.Frame.{or_cases, goes-append, Leads, leads-append}
use Rattle.ring_runs.proofs.Facts.{starts, started, quiet_in, quiet_out}
use Rattle.step_runs.proofs.Plain.{agreed, agreed_behind, fresh_behind, plain_go, plain_sound, plain_kept}
use Rattle.ring_runs.proofs.Template.{open_stage, opened_go, opened_sound, written_stage, written_go, written_sound, closed_go}
use Rattle.ring_runs.specs.Facts.{starts_of, IsPlaced, RingFacts}
use Rattle.ring_samples.specs.Example.{one_inward, no_outward, one_cell, brought, carried_back, place_of_turn, brought_ahead, is_slow, turn_stage, work, turn_steps, begin_stage, example}

-- numbers fewer than b apart with one rest are the same
pub rest_apart : (k j b : ℕ) → 0 < b → k ≤ j → j < k + b → k % b ≡ j % b → k ≡ j
rest_apart k j b some low high e =
    let p = div-add-mod' k b in
    let q = div-add-mod' j b in
    by (j / b) (k / b) p q
  where
    by : (m n : ℕ) → n * b + k % b ≡ k → m * b + j % b ≡ j → k ≡ j
    by m n p q = at (nat_eq m n) refl (nat_lt m n) refl
      where
        at : (s : Bool) → nat_eq m n ≡ s → (t : Bool) → nat_lt m n ≡ t → k ≡ j
        at true s t u = let w = ap (λ z. z * b) (eqb-true m n s) in omega (arith, p, q, e, w)
        at false s true u =
            let lt = ltb-true m n u in
            let w : suc m * b ≤ n * b = mul-le-mul_right b (omega (arith, lt)) in
            let v : suc m * b ≡ b + m * b = grind arith in
            absurd (omega (arith, p, q, e, w, v, low, some))
        at false s false u =
            let ge : n ≤ m = grind (arith, u) in
            let ne = eqb-false m n s in
            let w : suc n * b ≤ m * b = mul-le-mul_right b (omega (arith, ge, ne)) in
            let v : suc n * b ≡ b + n * b = grind arith in
            absurd (omega (arith, p, q, e, w, v, high))

pub one_slow : (t : Transfer) → t.stride ≡ 1 → t.chunk ≡ 1 → slow_place t 0 ≡ t.base
unfolding slow_place
one_slow t s c = (λ i. t.base + 0 / c i * s i + 0 % c i) ∙ (let e : t.base + 0 / 1 * 1 + 0 % 1 ≡ t.base = omega arith in e)

no_bool : false ≡ true → ⊥
no_bool z = cc

module _ (large lead count : ℕ) (x : Name) where
  abbrev ring : ℕ → ℕ → Transfer
  ring = brought_ahead lead count x

  abbrev base : ℕ → Stage
  base = turn_stage lead count x

  is_zero : (i : ℕ) → IsPlaced large ring one_inward no_outward lead count base i → i ≡ 0
  is_zero i (inl e) = eqb-true i 0 e
  is_zero i (inr e) = let k : false ≡ true = e in cc

  slow_only : (q : Place) → is_slow lead count x q ≡ true → (n h c : ℕ) → q ≢ Fast n h c
  slow_only q e n h c is = let k : false ≡ true = ap (is_slow lead count x) (sym is) ∙ e in cc

  slow_stays : (k : ℕ) (q : Place) → is_slow lead count x q ≡ true → place_in (base k) q ≡ q
  slow_stays k (Slow p) e = refl
  slow_stays k (Fast n h c) e = let k : false ≡ true = e in cc
  slow_stays k Outside e = refl

  sound : (k : ℕ) → Sound large ring (base k)
  sound k = record { within = λ q a. a; alone = λ q p a b e. sym (slow_stays k q a) ∙ e ∙ slow_stays k p b }

  facts : RingFacts large ring one_inward no_outward lead count base (λ i. 0) (λ i. 0) (place_of_turn lead count x)
  facts = record {
    fast_is = λ i j p. refl;
    half_is = λ i j p. refl;
    tag_is = λ i j p. (let e : place_of_turn lead count x j ≡ 0 + place_of_turn lead count x j = omega arith in e);
    incoming = λ i j p. refl;
    outgoing = λ i j p. (let k : false ≡ true = p in cc);
    either = λ i p q. (let k : false ≡ true = q in differ k);
    within = λ j. mod-lt j (omega arith);
    apart = λ k j low high e. rest_apart k j (suc lead) (omega arith) low high e;
    numbers = λ i a p q e. is_zero i p ∙ sym (is_zero a q);
    tags = λ i a x y p q lx ly e. (is_zero i p ∙ sym (is_zero a q), omega (arith, e));
    parted = λ i j a b p q lj lb. (let k : false ≡ true = q in cc);
    made = λ k i j e p low high here lt. made j e lt;
    free = λ k i h c q p t is. slow_only q t 0 h c (sym (slow_stays k q t) ∙ is);
    others = λ k i j p. tt;
    sound = sound;
  }
    where
      differ : false ≡ true → ⊥
      differ k = cc

      made : (j e : ℕ) → e < 1 → cells_of 0 (suc lead ∷ 1 ∷ []) (Fast 0 (j % suc lead) (0 + e)) ≡ true
      made j e lt = lt-ltb (0 + e) 1 (omega (arith, lt))

  module _ (k : ℕ) (here : k < count) where
    abbrev s0 : Stage
    s0 = record (base k) { out = entry one_inward no_outward (suc lead) k }

    abbrev place : ℕ
    place = place_of_turn lead count x k

    -- the only transfer that the turn begins with
    only : (a b : ℕ) → entry one_inward no_outward (suc lead) k a b ≡ true → (a ≡ 0) × (b ≡ k)
    only a b o = by (nat_eq a 0) refl (nat_eq k b) refl
      where
        by : (u : Bool) → nat_eq a 0 ≡ u → (v : Bool) → nat_eq k b ≡ v → (a ≡ 0) × (b ≡ k)
        by true u true v = (eqb-true a 0 u, sym (eqb-true k b v))
        by true u false v = let z : false ≡ true = sym (λ i. (u i && v i) || false) ∙ o in cc
        by false u v w = let z : false ≡ true = sym (λ i. (u i && nat_eq k b) || false) ∙ o in cc

    none_left : (a b : ℕ) → less_out 0 k (entry one_inward no_outward (suc lead) k) a b ≡ false
    none_left a b = by (less_out 0 k (entry one_inward no_outward (suc lead) k) a b) refl
      where
        by : (u : Bool) → less_out 0 k (entry one_inward no_outward (suc lead) k) a b ≡ u → less_out 0 k (entry one_inward no_outward (suc lead) k) a b ≡ false
        by false u = u
        by true u = at (nat_eq 0 a && nat_eq k b) refl
          where
            at : (t : Bool) → (nat_eq 0 a && nat_eq k b) ≡ t → less_out 0 k (entry one_inward no_outward (suc lead) k) a b ≡ false
            at true t = ap (λ t. if t then false else entry one_inward no_outward (suc lead) k a b) t
            at false t =
                let o : entry one_inward no_outward (suc lead) k a b ≡ true = sym (ap (λ t. if t then false else entry one_inward no_outward (suc lead) k a b) t) ∙ u in
                let is = only a b o in
                let hit : (nat_eq 0 a && nat_eq k b) ≡ true = (let p : nat_eq 0 a ≡ true = eq-eqb 0 a (sym is.0) in let q : nat_eq k b ≡ true = eq-eqb k b (sym is.1) in λ i. p i && q i) in
                let z : true ≡ false = sym hit ∙ t in cc

    in_count : (e : ℕ) → e < 1 → is_slow lead count x (Slow (slow_place (brought k) e)) ≡ true
    in_count e lt =
        let z : e ≡ 0 = omega (arith, lt) in
        ap (λ e. nat_lt (slow_place (brought k) e) count) z ∙ ap (λ p. nat_lt p count) (one_slow (brought k) refl refl) ∙ lt-ltb k count here

    in_count' : (e : ℕ) → e < 1 → is_slow lead count x (Slow (slow_place (carried_back k) e)) ≡ true
    in_count' e lt =
        let z : e ≡ 0 = omega (arith, lt) in
        ap (λ e. nat_lt (slow_place (carried_back k) e) count) z ∙ ap (λ p. nat_lt p count) (one_slow (carried_back k) refl refl) ∙ lt-ltb k count here

    can_open : CanOpen large ring one_inward no_outward lead count base (λ i. 0) (place_of_turn lead count x) s0 0 k (brought k) one_cell
    can_open = record {
      out = ap (λ t. t || false) (eq-eqb k k refl);
      outs = λ a b o. (let is = only a b o in (inl (eq-eqb a 0 is.0), λ z. is.1));
      idle = refl;
      incoming = refl;
      like = refl;
      half_is = refl;
      fits = λ e lt. (let z : 0 + e < 1 = omega (arith, lt) in z);
      half = refl;
      lives = λ e lt. refl;
      agrees = in_count;
      made = λ c lt. lt-ltb c 1 lt;
      fresh = λ q t h c. slow_only q t 0 h c;
      free = λ q t c is. slow_only q t 0 (place_of_turn lead count x k) c (sym (slow_stays k q t) ∙ is);
    }

    abbrev s1 : Stage
    s1 = open_stage large ring one_inward no_outward lead count base (λ i. 0) (λ i. 0) (place_of_turn lead count x) facts s0 0 k (brought k) one_cell

    ok0 : Sound large ring s0
    ok0 = record { within = (sound k).within; alone = (sound k).alone }

    ok1 : Sound large ring s1
    ok1 = opened_sound large ring one_inward no_outward lead count base (λ i. 0) (λ i. 0) (place_of_turn lead count x) facts s0 0 k (brought k) I32 one_cell ok0 can_open

    -- nothing is under way that the turn could meet
    none_meets : (test : Transfer → Bool) → Clear large ring s1 test
    none_meets test = record { own = λ a b o. absurd (let z : false ≡ true = sym (none_left a b) ∙ o in differ z); moved = tt }
      where
        differ : false ≡ true → ⊥
        differ z = cc

    each_allowed : Each (AllowedPlain large ring s1) (work lead count x)
    each_allowed = (
      inr (record { same = refl; clear = none_meets (load_meets (Fast 0 place 0)) }),
      (
        inr (record { there = refl; clear = none_meets (store_meets (Fast 0 place 0)) }),
        (inr (record { there = refl; clear = none_meets (store_meets (Fast 0 place 0)) }), tt),
      ),
    )

    abbrev s2 : Stage
    s2 = agreed large ring (agreed_behind large ring s1 (work lead count x) s1.agrees) (fresh_behind large ring s1 (work lead count x) s1.fresh) s1

    ok2 : Sound large ring s2
    ok2 = plain_sound large ring s1 (work lead count x) ok1 each_allowed

    slow_kept : (q : Place) → is_slow lead count x q ≡ true → s2.agrees q ≡ true
    slow_kept q a = plain_kept large ring s1 (work lead count x) ok1 each_allowed q (ap (λ t. t || is_target (brought k) q) a)

    can_write : CanWrite large ring one_inward no_outward lead count base (λ i. 0) (place_of_turn lead count x) s2 (carried_back k)
    can_write = record {
      outgoing = refl;
      idle = refl;
      some = omega arith;
      wide = omega arith;
      agrees = λ e lt. (let z : e ≡ 0 = omega (arith, lt) in ap (λ e. s2.agrees (Fast 0 0 (0 + e))) z);
      there = λ e lt. ap (λ t. t || first_half 0 one_cell (Slow (slow_place (carried_back k) e))) (in_count' e lt);
      lives = λ e lt. refl;
      avoids = λ a b o. absurd (let z : false ≡ true = sym (none_left a b) ∙ o in differ z);
    }
      where
        differ : false ≡ true → ⊥
        differ z = cc

    abbrev s3 : Stage
    s3 = written_stage large ring one_inward no_outward lead count base (λ i. 0) (λ i. 0) (place_of_turn lead count x) facts s2 (carried_back k)

    ok3 : Sound large ring s3
    ok3 = written_sound large ring one_inward no_outward lead count base (λ i. 0) (λ i. 0) (place_of_turn lead count x) facts s2 (carried_back k) ok2 can_write

    seen : IsSeenFrom large ring s3 (base (suc k))
    seen = record {
      same = λ q a. inl (ap (λ t. t || is_target (carried_back k) q) (slow_kept q a), slow_stays (suc k) q a ∙ sym (slow_stays k q a));
      there = λ q a. (ap (λ t. t || first_half 0 one_cell q) a, inl (slow_stays (suc k) q a ∙ sym (slow_stays k q a)));
      fresh = λ p f. absurd (let z : false ≡ true = f in no_bool z);
      made = λ q m. m;
      images = tt;
    }

    turn_leads : Leads large ring (turn_steps lead count x k) s0 (record (base (suc k)) { out = leave one_inward no_outward (suc lead) k })
    turn_leads =
        let fin : List Step = Becomes (base (suc k)) ∷ [] in
        let close : List Step = closed (brought k) I32 one_cell ++ fin in
        let write : List Step = written (base k) (carried_back k) ++ close in
        let works : List Step = boths (base k) (work lead count x) ++ write in
        let end : Stage = record (base (suc k)) { out = leave one_inward no_outward (suc lead) k } in
        leads-append large ring (opened 0 k (brought k) I32 one_cell 2) works s0 s1 end (opened_go large ring one_inward no_outward lead count base (λ i. 0) (λ i. 0) (place_of_turn lead count x) facts s0 0 k (brought k) I32 one_cell 2 refl ok0 can_open)
        (leads-append large ring (boths (base k) (work lead count x)) write s1 s2 end (plain_go large ring s1 (work lead count x) ok1 each_allowed)
        (leads-append large ring (written (base k) (carried_back k)) close s2 s3 end (written_go large ring one_inward no_outward lead count base (λ i. 0) (λ i. 0) (place_of_turn lead count x) facts s2 (carried_back k) ok2 can_write)
        (leads-append large ring (closed (brought k) I32 one_cell) fin s3 s3 end (closed_go large ring one_inward no_outward lead count base (λ i. 0) (λ i. 0) (place_of_turn lead count x) facts s3 (brought k) I32 one_cell ok3)
        ((ok3, seen, tt), ap (λ (o : ℕ → ℕ → Bool). record (base (suc k)) { out = o }) (fun_ext (λ a. fun_ext (λ b. none_left a b)))))))

    -- the turn avoids the transfers of the next ones
    turn_avoids : (i j : ℕ) → k < j → j < k + suc lead → AvoidsAll large ring (turn_steps lead count x k) s0 (ring i j)
    turn_avoids i j later near = (tt, (tt, (tt, (tt, (λ e. other (sym e), (elsewhere, (elsewhere, (elsewhere, (starts_clear, (λ e. other (sym e), (tt, (tt, (tt, tt)))))))))))))
      where
        other : place_of_turn lead count x k ≡ place_of_turn lead count x j → ⊥
        other e = let same = rest_apart k j (suc lead) (omega arith) (omega (arith, later)) near e in omega (arith, same, later)

        apart : nat_eq (place_of_turn lead count x j) (place_of_turn lead count x k) ≡ false
        apart = ne_eqb (place_of_turn lead count x j) (place_of_turn lead count x k) (λ e. other (sym e))

        elsewhere : (nat_eq 0 0 && nat_eq (place_of_turn lead count x j) (place_of_turn lead count x k)) ≡ false
        elsewhere = apart

        starts_clear : AvoidsStart large ring (image (base k) (carried_back k)) (ring i j)
        starts_clear = record {
          tag = apart;
          half = apart;
          race = ap (λ p. (nat_eq p (slow_place (image (base k) (carried_back k)) 0) || false) || false) (one_slow (ring i j) refl refl)
              ∙ ap (λ p. (nat_eq j p || false) || false) (one_slow (image (base k) (carried_back k)) refl refl)
              ∙ ap (λ t. (t || false) || false) (ne_eqb j k (λ e. omega (arith, e, later)));
        }

  pub example_is_ring : IsRing large ring one_inward no_outward lead count base (starts_of one_inward (λ i j. 1) 1) (turn_steps lead count x)
  example_is_ring = record {
    turns = λ k here. (turn_leads k here).0;
    leads = λ k here. (turn_leads k here).1;
    calm_in = λ k i j here is later near lt. turn_avoids k here i j later near;
    calm_out = λ k i j here is. absurd (let z : false ≡ true = is in differ z);
    starts = starts large ring one_inward no_outward lead count base (λ i. 0) (λ i. 0) (place_of_turn lead count x) facts (λ i j. 1) 1 below_one;
    started = started large ring one_inward no_outward lead count base (λ i. 0) (λ i. 0) (place_of_turn lead count x) facts (λ i j. 1) 1 below_one;
    quiet_in = quiet_in large ring one_inward no_outward lead count base (λ i. 0) (λ i. 0) (place_of_turn lead count x) facts (λ i j. 1) 1 below_one;
    quiet_out = quiet_out large ring one_inward no_outward lead count base (λ i. 0) (λ i. 0) (place_of_turn lead count x) facts (λ i j. 1) 1 below_one;
  }
    where
      differ : false ≡ true → ⊥
      differ z = cc

      below_one : (i : ℕ) → one_inward i ≡ true → i < 1
      below_one i e = let z = eqb-true i 0 e in omega (arith, z)

  -- and with the allocations before and the releases behind
  begins : bytes_of I32 (suc lead ∷ 1 ∷ []) ≤ large → Leads large ring (Made (Allocates 0 I32 (suc lead ∷ 1 ∷ [])) ∷ Made (AllocatesTags 0 (suc lead)) ∷ []) (begin_stage lead count x) (record (base 0) { out = none_out })
  begins room = (
    (
      record { within = (sound 0).within; alone = (sound 0).alone },
      (omega (arith, room), λ q t h c is. slow_only q t 0 h c (sym (slow_stays 0 q t) ∙ is), λ q m h c is. differ m, λ i j o inc is. differ o),
      (record { within = (sound 0).within; alone = (sound 0).alone }, tt, tt),
    ),
    ap (λ n. record (base 0) { live = n; out = none_out }) (let e : 0 + bytes_of I32 (suc lead ∷ 1 ∷ []) ≡ bytes_of I32 (suc lead ∷ 1 ∷ []) = omega arith in e),
  )
    where
      differ : false ≡ true → ⊥
      differ z = cc

  -- nothing is under way behind the loop
  none_behind : (i j : ℕ) → window one_inward no_outward (suc lead) count count i j ≡ false
  none_behind i j = by (window one_inward no_outward (suc lead) count count i j) refl
    where
      by : (u : Bool) → window one_inward no_outward (suc lead) count count i j ≡ u → window one_inward no_outward (suc lead) count count i j ≡ false
      by false u = u
      by true u = at (or_cases (one_inward i && (nat_le count j && nat_lt j count)) (no_outward i && (nat_lt j count && nat_le count (j + suc lead))) u)
        where
          at : ((one_inward i && (nat_le count j && nat_lt j count)) ≡ true) ⊎ ((no_outward i && (nat_lt j count && nat_le count (j + suc lead))) ≡ true) → window one_inward no_outward (suc lead) count count i j ≡ false
          at (inr z) = let k : false ≡ true = z in cc
          at (inl z) =
              let two = and_parts (one_inward i) (nat_le count j && nat_lt j count) z in
              let more = and_parts (nat_le count j) (nat_lt j count) two.1 in
              let low = leb-true count j more.0 in
              let high = ltb-true j count more.1 in
              absurd (omega (arith, low, high))

  abbrev end_stage : Stage
  end_stage = record (base count) { out = window one_inward no_outward (suc lead) count count }

  ends : Goes large ring (Made (Releases 0 I32 (suc lead ∷ 1 ∷ [])) ∷ Made (ReleasesTags 0 (suc lead)) ∷ []) end_stage
  ends = (
    ok,
    clear (λ o. nat_eq o.fast 0),
    (
      record { within = ok.within; alone = ok.alone },
      (let c = clear (λ o. nat_le 0 o.tag && nat_lt o.tag (0 + suc lead)) in record { own = c.own; moved = c.moved }),
      tt,
    ),
  )
    where
      ok : Sound large ring end_stage
      ok = record { within = (sound count).within; alone = (sound count).alone }

      clear : (test : Transfer → Bool) → Clear large ring end_stage test
      clear test = record { own = λ i j o. absurd (let z : false ≡ true = sym (none_behind i j) ∙ o in differ z); moved = tt }
        where
          differ : false ≡ true → ⊥
          differ z = cc

  example_goes : bytes_of I32 (suc lead ∷ 1 ∷ []) ≤ large → Goes large ring (example lead count x) (begin_stage lead count x)
  example_goes room =
      let loop : List Step = ring_loop (starts_of one_inward (λ i j. 1) 1) (turn_steps lead count x) lead count in
      let fin : List Step = Made (Releases 0 I32 (suc lead ∷ 1 ∷ [])) ∷ Made (ReleasesTags 0 (suc lead)) ∷ [] in
      let b = begins room in
      let l = ring_goes large ring one_inward no_outward lead count base (starts_of one_inward (λ i j. 1) 1) (turn_steps lead count x) example_is_ring in
      goes-append large ring (Made (Allocates 0 I32 (suc lead ∷ 1 ∷ [])) ∷ Made (AllocatesTags 0 (suc lead)) ∷ []) (loop ++ fin) (begin_stage lead count x) b.0
      (subst (Goes large ring (loop ++ fin)) (sym b.1)
      (goes-append large ring loop fin (record (base 0) { out = none_out }) l.0 (subst (Goes large ring fin) (sym l.1) ends)))

  -- from any two devices with the same names and slow memory, in which nothing is under way and the second has nothing allocated
  example_begins : (d y : Device) → y.state.registers ≡ d.state.registers → y.state.slow ≡ d.state.slow → count ≤ length d.state.slow → d.outstanding ≡ [] → y.outstanding ≡ [] → y.live ≡ 0
      → Related ring (begin_stage lead count x) d y
  example_begins d y registers slow long first second live = record {
    registers = registers;
    long = ap length slow;
    values = λ q a. value q a;
    fresh = λ p f. absurd (differ f);
    room_first = λ q a. room d.state.slow d.halves long q a;
    room_second = λ q a. subst (λ q. HasRoom q y) (sym (slow_stays 0 q a)) (room y.state.slow y.halves (subst (λ l. count ≤ length l) (sym slow) long) q a);
    made = λ q m. absurd (differ m);
    live = live;
    first = first;
    second = subst (Woven ring (image (begin_stage lead count x)) [] (λ i j. false)) (sym second) (refl, λ i j. refl);
    arrived = λ i j o. absurd (differ o);
  }
    where
      differ : false ≡ true → ⊥
      differ z = cc

      value : (q : Place) → is_slow lead count x q ≡ true → value_at (place_in (begin_stage lead count x) q) y ≡ value_at q d
      value (Slow p) a = ap (λ l. number_at l p) slow
      value (Fast n h c) a = absurd (differ a)
      value Outside a = absurd (differ a)

      room : (slow : List ℤ) (halves : ℕ → ℕ → List ℤ) → count ≤ length slow → (q : Place) → is_slow lead count x q ≡ true → room_by slow halves q
      room slow halves long (Slow p) a = let lt = ltb-true p count a in omega (arith, lt, long)
      room slow halves long (Fast n h c) a = absurd (differ a)
      room slow halves long Outside a = absurd (differ a)

  -- so both runs of the example end alike, for every size of the ring, every number of turns and every filler
  pub example_runs : (filler : ℤ) (small : ℕ) (d y : Device) → bytes_of I32 (suc lead ∷ 1 ∷ []) ≤ large
      → y.state.registers ≡ d.state.registers → y.state.slow ≡ d.state.slow → count ≤ length d.state.slow → d.outstanding ≡ [] → y.outstanding ≡ [] → y.live ≡ 0
      → Ends (Related ring (behind (example lead count x) (begin_stage lead count x)))
      (folded (prompt_step filler small) (first_list ring (example lead count x)) d)
      (folded (prompt_step filler large) (second_list ring (example lead count x)) y)
  example_runs filler small d y room registers slow long first second live =
      steps_run ring filler small large (example lead count x) (begin_stage lead count x) d y (example_goes room) (example_begins d y registers slow long first second live)
