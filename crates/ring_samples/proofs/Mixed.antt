-- Three placements at once keep all that is asked of a ring.
use Rattle.std.proofs.Common.{◌≡◌, ◌≢◌, ◌⊎◌, inl, inr, ℕ, zero, suc, ◌+◌, ◌*◌, ◌-◌, ◌<◌, ◌≤◌, List, [], ◌∷◌, ◌++◌, refl, sym, ap, ◌∙◌, arith, Bool, true, false}
use mathlib.Core.Path.{fun_ext}
use Rattle.std.specs.Prelude.{◌&&◌, ◌||◌, nat_eq, nat_lt, nat_le, if◌then◌else◌}
use Rattle.std.proofs.lemmas.Bool.{eqb-true, eqb-false, eq-eqb, ne_eqb, and_parts, lt-ltb, ltb-true, leb-true}
use Rattle.std.proofs.lemmas.Nat.{same_from_place}
use Rattle.std.proofs.Math.Nat.{mod-lt}
use Rattle.affine_ast.specs.declared.name.Name.{Name}
use Rattle.affine_ast.specs.declared.types.Element.TheVariants.{I32}
use Rattle.bus_model.specs.declared.transfer.Transfer.{Transfer}
use Rattle.bus_model.specs.Places.{slow_place}
use Rattle.direct_meaning.specs.Transfers.{overlap}
use Rattle.direct_meaning.specs.Action.{Place, Slow, Fast, Outside, Allocates, AllocatesTags}
use Rattle.step_runs.specs.Stage.{Stage, place_in, is_target}
use Rattle.step_runs.specs.Steps.{Each, Step, Alone, Leaves, Late, Becomes, first_half, with_out, less_out, behind, load_meets, store_meets, Clear, Sound, IsSeenFrom, AvoidsStart, AvoidsAll, Goes}
use Rattle.ring_runs.specs.Ring.{none_out, entry, leave, IsRing}
use Rattle.ring_runs.specs.Facts.{starts_of, IsPlaced, RingFacts}
use Rattle.step_runs.specs.Plain.{boths, AllowedPlain}
use Rattle.ring_runs.specs.Template.{own_knowns, Opening, opened, opened_out, closed, CanOpen, CanDepart}
use Rattle.ring_samples.specs.Example.{one_cell, place_of_turn}
use Rattle.ring_samples.specs.Mixed.{two_inward, third_outward, moves, ring_moves, three_slow, three_made, mixed_stage, mixed_work, opening, mixed_turn}
use Rattle.step_runs.proofs.Frame.{or_cases, Leads, leads-append}
use Rattle.step_runs.proofs.Woven.{less_was}
use Rattle.ring_runs.proofs.Facts.{starts, started, quiet_in, quiet_out}
use Rattle.step_runs.proofs.Plain.{agreed, agreed_behind, fresh_behind, plain_go, plain_sound, plain_kept}
use Rattle.ring_runs.proofs.Template.{in_first_half, opens, opens_stage, opens_go, alone_stage, alone_go, late_go, departed_go, closed_go}
use Rattle.ring_runs.proofs.Extras.{no_overlap}
use Rattle.ring_samples.proofs.Example.{rest_apart, one_slow}

no_bool : false ≡ true → ⊥
no_bool z = cc

or_left : (a b : Bool) → a ≡ true → (a || b) ≡ true
or_left a b e = ap (λ a. a || b) e

module _ (large lead count : ℕ) (x y : Name) where
  abbrev ring : ℕ → ℕ → Transfer
  ring = ring_moves lead count x y

  abbrev base : ℕ → Stage
  base = mixed_stage lead count x y

  abbrev place : ℕ → ℕ
  place = place_of_turn lead count x

  abbrev IsOne : ℕ → Type 0
  IsOne i = IsPlaced large ring two_inward third_outward lead count base i

  low : (i : ℕ) → IsOne i → i < 3
  low i (inl e) = let a = ltb-true i 2 e in omega (arith, a)
  low i (inr e) = let a = eqb-true i 2 e in omega (arith, a)

  place_low : (j : ℕ) → place j < suc lead
  place_low j = mod-lt j (omega arith)

  -- equal tags are those of one placement and one place in the ring, equal slow places those of one turn
  tags_are : (i j a b : ℕ) → (ring i j).tag ≡ (ring a b).tag → (i ≡ a) × (place j ≡ place b)
  tags_are i j a b e = same_from_place i (place j) a (place b) (suc lead) (place_low j) (place_low b) e

  slow_is : (i j e : ℕ) → e < 1 → slow_place (ring i j) e ≡ i * count + j
  slow_is i j e lt = (let z : e ≡ 0 = omega (arith, lt) in ap (slow_place (ring i j)) z) ∙ one_slow (ring i j) refl refl

  moves_is : (i j e : ℕ) → e < 1 → slow_place (moves lead count x y i j) e ≡ i * count + j
  moves_is i j e lt = (let z : e ≡ 0 = omega (arith, lt) in ap (slow_place (moves lead count x y i j)) z) ∙ one_slow (moves lead count x y i j) refl refl

  apart_slow : (i j a b : ℕ) → j < count → b < count → ((i ≡ a) × (j ≡ b) → ⊥) → overlap (ring i j) (ring a b) ≡ false
  apart_slow i j a b lj lb ne = no_overlap (ring i j) (ring a b) (λ e f le lf is. ne (same_from_place i j a b count lj lb (sym (slow_is i j e le) ∙ is ∙ slow_is a b f lf)))

  slow_only : (q : Place) → three_slow lead count x y q ≡ true → (n h c : ℕ) → q ≢ Fast n h c
  slow_only q e n h c is = no_bool (ap (three_slow lead count x y) (sym is) ∙ e)

  slow_stays : (k : ℕ) (q : Place) → three_slow lead count x y q ≡ true → place_in (base k) q ≡ q
  slow_stays k (Slow p) e = refl
  slow_stays k (Fast n h c) e = absurd (no_bool e)
  slow_stays k Outside e = absurd (no_bool e)

  sound : (k : ℕ) → Sound large ring (base k)
  sound k = record { within = λ q a. a; alone = λ q p a b e. sym (slow_stays k q a) ∙ e ∙ slow_stays k p b }

  made_at : (n h c : ℕ) → n < 3 → c < 1 → three_made lead count x y (Fast n h c) ≡ true
  made_at n h c ln lc = let a = lt-ltb n 3 ln in let b = lt-ltb c 1 lc in λ i. a i && b i

  facts : RingFacts large ring two_inward third_outward lead count base (λ i. i) (λ i. i * suc lead) place
  facts = record {
    fast_is = λ i j p. refl;
    half_is = λ i j p. refl;
    tag_is = λ i j p. refl;
    incoming = λ i j p. p;
    outgoing = λ i j p. (let e = eqb-true i 2 p in ap two_inward e);
    either = λ i p q. (let e = eqb-true i 2 q in let a = ltb-true i 2 p in omega (arith, e, a));
    within = place_low;
    apart = λ k j lo high e. rest_apart k j (suc lead) (omega arith) lo high e;
    numbers = λ i a p q e. e;
    tags = λ i a u v p q lx ly e. same_from_place i u a v (suc lead) lx ly e;
    parted = λ i j a b p q lj lb. apart_slow a b i j lb lj (λ e. (let u = eqb-true a 2 q in let v = ltb-true i 2 p in let w = e.0 in omega (arith, u, v, w)));
    made = λ k i j e p lo high here lt. (let a = ltb-true i 2 p in made_at i (place j) (0 + e) (omega (arith, a)) (omega (arith, lt)));
    free = λ k i h c q p t is. slow_only q t i h c (sym (slow_stays k q t) ∙ is);
    others = λ k i j p. tt;
    sound = sound;
  }

  module _ (k : ℕ) (here : k < count) where
    abbrev began : ℕ → ℕ → Bool
    began = entry two_inward third_outward (suc lead) k

    abbrev s0 : Stage
    s0 = record (base k) { out = began }

    abbrev os : List Opening
    os = opening lead count x y 0 k ∷ opening lead count x y 1 k ∷ []

    abbrev s1 : Stage
    s1 = opens_stage large ring two_inward third_outward lead count base (λ i. i) (λ i. i * suc lead) place facts s0 k os

    abbrev s2 : Stage
    s2 = alone_stage large ring two_inward third_outward lead count base (λ i. i) (λ i. i * suc lead) place facts s1 (moves lead count x y 2 k) one_cell

    abbrev s3 : Stage
    s3 = record s2 { out = none_out }

    ok0 : Sound large ring s0
    ok0 = let c = sound k in record { within = c.within; alone = c.alone }

    -- what a turn begins with: of the inward placements its own, of the outward one that of so many turns before
    began_is : (a b : ℕ) → began a b ≡ true → ((two_inward a ≡ true) × (b ≡ k)) ⊎ ((a ≡ 2) × (k ≡ b + suc lead))
    began_is a b o = by (or_cases (two_inward a && nat_eq k b) (third_outward a && nat_eq k (b + suc lead)) o)
      where
        by : ((two_inward a && nat_eq k b) ≡ true) ⊎ ((third_outward a && nat_eq k (b + suc lead)) ≡ true) → ((two_inward a ≡ true) × (b ≡ k)) ⊎ ((a ≡ 2) × (k ≡ b + suc lead))
        by (inl e) = let two = and_parts (two_inward a) (nat_eq k b) e in inl (two.0, sym (eqb-true k b two.1))
        by (inr e) = let two = and_parts (nat_eq a 2) (nat_eq k (b + suc lead)) e in inr (eqb-true a 2 two.0, eqb-true k (b + suc lead) two.1)

    in_range : (i : ℕ) → i < 3 → (e : ℕ) → e < 1 → three_slow lead count x y (Slow (slow_place (moves lead count x y i k) e)) ≡ true
    in_range i li e lt = ap (λ p. nat_lt p (count + count + count)) (moves_is i k e lt) ∙ lt-ltb (i * count + k) (count + count + count) (below i li)
      where
        below : (i : ℕ) → i < 3 → i * count + k < count + count + count
        below zero li = let z : 0 * count ≡ 0 = omega arith in omega (arith, here, z)
        below (suc zero) li = let z : 1 * count ≡ count = omega arith in omega (arith, here, z)
        below (suc (suc zero)) li = let z : 2 * count ≡ count + count = omega arith in omega (arith, here, z)
        below (suc (suc (suc i))) li = absurd (omega (arith, li))

    can_open : (i : ℕ) → two_inward i ≡ true → CanOpen large ring two_inward third_outward lead count base (λ i. i) place s0 i k (moves lead count x y i k) one_cell
    can_open i p = record {
      out = ap (λ t. t || (third_outward i && nat_eq k (k + suc lead))) (λ z. p z && eq-eqb k k refl z);
      outs = λ a b o. outs a b (began_is a b o);
      idle = refl;
      incoming = p;
      like = refl;
      half_is = refl;
      fits = λ e lt. (let z : 0 + e < 1 = omega (arith, lt) in z);
      half = refl;
      lives = λ e lt. refl;
      agrees = in_range i (let a = ltb-true i 2 p in omega (arith, a));
      made = λ c lt. (let a = ltb-true i 2 p in made_at i (place k) c (omega (arith, a)) lt);
      fresh = λ q t h c. slow_only q t i h c;
      free = λ q t c is. slow_only q t i (place k) c (sym (slow_stays k q t) ∙ is);
    }
      where
        outs : (a b : ℕ) → ((two_inward a ≡ true) × (b ≡ k)) ⊎ ((a ≡ 2) × (k ≡ b + suc lead)) → IsOne a × (a ≡ i → b ≡ k)
        outs a b (inl e) = (inl e.0, λ z. e.1)
        outs a b (inr e) = (inr (eq-eqb a 2 e.0), λ z. absurd (let u = e.0 in let v = ltb-true i 2 p in omega (arith, u, v, z)))

    opened_is : Goes large ring (opens large ring two_inward third_outward lead count base (λ i. i) (λ i. i * suc lead) place facts k os) s0
        × (behind (opens large ring two_inward third_outward lead count base (λ i. i) (λ i. i * suc lead) place facts k os) s0 ≡ s1) × Sound large ring s1
    opened_is = opens_go large ring two_inward third_outward lead count base (λ i. i) (λ i. i * suc lead) place facts os s0 k ok0
        ((refl, can_open 0 refl), ((refl, can_open 1 refl), tt))
        ((((λ e. omega (arith, e)), (λ e. omega (arith, e))), tt), (tt, tt))

    -- what is there behind them
    there_is : (q : Place) → s1.there q ≡ true → (three_slow lead count x y q ≡ true) ⊎ ((n : ℕ) × (c : ℕ) × (n < 2) × (q ≡ Fast n 0 c))
    there_is q t = by (or_cases (three_slow lead count x y q || first_half 0 one_cell q) (first_half 1 one_cell q) t)
      where
        by : ((three_slow lead count x y q || first_half 0 one_cell q) ≡ true) ⊎ (first_half 1 one_cell q ≡ true) → (three_slow lead count x y q ≡ true) ⊎ ((n : ℕ) × (c : ℕ) × (n < 2) × (q ≡ Fast n 0 c))
        by (inr b) = let hit = in_first_half 1 one_cell q b in inr (1, hit.0, omega arith, hit.2)
        by (inl a) = at (or_cases (three_slow lead count x y q) (first_half 0 one_cell q) a)
          where
            at : (three_slow lead count x y q ≡ true) ⊎ (first_half 0 one_cell q ≡ true) → (three_slow lead count x y q ≡ true) ⊎ ((n : ℕ) × (c : ℕ) × (n < 2) × (q ≡ Fast n 0 c))
            at (inl s) = inl s
            at (inr b) = let hit = in_first_half 0 one_cell q b in inr (0, hit.0, omega arith, hit.2)

    abbrev which : Place → ℕ
    which (Slow p) = 0
    which (Fast n h c) = n
    which Outside = 0

    third_fresh : (q : Place) → (three_slow lead count x y q ≡ true) ⊎ ((n : ℕ) × (c : ℕ) × (n < 2) × (q ≡ Fast n 0 c)) → (h c : ℕ) → q ≢ Fast 2 h c
    third_fresh q (inl s) h c is = slow_only q s 2 h c is
    third_fresh q (inr m) h c is = let e : m.0 ≡ 2 = ap which (sym m.3 ∙ is) in let l = m.2 in omega (arith, e, l)

    third_free : (q : Place) → (three_slow lead count x y q ≡ true) ⊎ ((n : ℕ) × (c : ℕ) × (n < 2) × (q ≡ Fast n 0 c)) → (c : ℕ) → place_in s1 q ≢ Fast 2 (place k) c
    third_free q (inl s) c is = slow_only q s 2 (place k) c (sym (slow_stays k q s) ∙ is)
    third_free q (inr m) c is = let e : m.0 ≡ 2 = ap which (sym (ap (place_in (base k)) m.3) ∙ is) in let l = m.2 in omega (arith, e, l)

    abbrev alone : List Step
    alone = own_knowns 0 ++ Alone (Allocates 2 I32 one_cell) ∷ Alone (AllocatesTags 2 1) ∷ []

    alone_is : (Goes large ring alone s1 × (behind alone s1 ≡ s2)) × Sound large ring s2
    alone_is = alone_go large ring two_inward third_outward lead count base (λ i. i) (λ i. i * suc lead) place facts s1 2 k (moves lead count x y 2 k) I32 one_cell 0 opened_is.2 refl
        (λ c lt. made_at 2 (place k) c (omega arith) lt) (λ q t h c. third_fresh q (there_is q t) h c) (λ q t c. third_free q (there_is q t) c)

    -- behind the joins only the outward one can be under way
    after_joins : (a b : ℕ) → s1.out a b ≡ true → (a ≡ 2) × (k ≡ b + suc lead)
    after_joins a b o = by (began_is a b was)
      where
        one : less_out 0 k began a b ≡ true
        one = less_was ring (λ t. t) 1 k a b (less_out 0 k began) o

        was : began a b ≡ true
        was = less_was ring (λ t. t) 0 k a b began one

        gone : (i a b : ℕ) (out : ℕ → ℕ → Bool) → a ≡ i → b ≡ k → less_out i k out a b ≡ true → ⊥
        gone i a b out e f h =
            let p : nat_eq i a ≡ true = eq-eqb i a (sym e) in
            let q : nat_eq k b ≡ true = eq-eqb k b (sym f) in
            no_bool (sym (λ z. if p z && q z then false else out a b) ∙ h)

        by : ((two_inward a ≡ true) × (b ≡ k)) ⊎ ((a ≡ 2) × (k ≡ b + suc lead)) → (a ≡ 2) × (k ≡ b + suc lead)
        by (inr e) = e
        by (inl e) = at (nat_eq a 0) refl
          where
            at : (t : Bool) → nat_eq a 0 ≡ t → (a ≡ 2) × (k ≡ b + suc lead)
            at true t = absurd (gone 0 a b began (eqb-true a 0 t) e.1 one)
            at false t =
                let ne = eqb-false a 0 t in
                let lt = ltb-true a 2 e.0 in
                absurd (gone 1 a b (less_out 0 k began) (omega (arith, ne, lt)) e.1 o)

    abbrev late_steps : Bool → List Step
    late_steps t = if t then Late 2 (k - suc lead) ∷ [] else []

    late_leads : (t : Bool) → nat_le (suc lead) k ≡ t → Leads large ring (late_steps t) s2 s3
    late_leads true t =
        let le = leb-true (suc lead) k t in
        let back : k - suc lead + suc lead ≡ k = omega (arith, le) in
        let go = late_go large ring two_inward third_outward lead count base (λ i. i) (λ i. i * suc lead) place facts s2 2 (k - suc lead) refl alone_is.1 refl (eq-eqb k (k - suc lead + suc lead) (sym back))
        (λ a b o. (let is = after_joins a b o in let away = is.1 in (inr (eq-eqb a 2 is.0), λ z. omega (arith, away)))) in
        (go.0, go.1 ∙ ap (λ (o : ℕ → ℕ → Bool). record s2 { out = o }) (fun_ext (λ a. fun_ext (λ b. none a b (nat_eq 2 a && nat_eq (k - suc lead) b) refl (s1.out a b) refl))))
      where
        none : (a b : ℕ) (u : Bool) → (nat_eq 2 a && nat_eq (k - suc lead) b) ≡ u → (v : Bool) → s1.out a b ≡ v → less_out 2 (k - suc lead) s1.out a b ≡ false
        none a b true u v w = ap (λ t. if t then false else s1.out a b) u
        none a b false u false w = ap (λ t. if t then false else s1.out a b) u ∙ w
        none a b false u true w =
            let is = after_joins a b w in
            let away = is.1 in
            let p : nat_eq 2 a ≡ true = eq-eqb 2 a (sym is.0) in
            let q : nat_eq (k - suc lead) b ≡ true = eq-eqb (k - suc lead) b (omega (arith, away)) in
            absurd (no_bool (sym u ∙ (λ i. p i && q i)))
    late_leads false t = (tt, ap (λ (o : ℕ → ℕ → Bool). record s2 { out = o }) (fun_ext (λ a. fun_ext (λ b. none a b (s1.out a b) refl))))
      where
        none : (a b : ℕ) (v : Bool) → s1.out a b ≡ v → s1.out a b ≡ false
        none a b false w = w
        none a b true w =
            let is = after_joins a b w in
            let away = is.1 in
            let less : k < suc lead = grind (arith, t) in
            absurd (omega (arith, away, less))

    ok3 : Sound large ring s3
    ok3 = let ok = alone_is.1 in record { within = ok.within; alone = ok.alone }

    clear3 : (test : Transfer → Bool) → Clear large ring s3 test
    clear3 test = record { own = λ a b o. absurd (no_bool o); moved = tt }

    each_allowed : Each (AllowedPlain large ring s3) (mixed_work lead count x y)
    each_allowed = (
      inr (record { same = refl; clear = clear3 (load_meets (Fast 0 (place k) 0)) }),
      (
        inr (record { same = refl; clear = clear3 (load_meets (Fast 1 (place k) 0)) }),
        (inr (record { there = refl; clear = clear3 (store_meets (Fast 2 (place k) 0)) }), tt),
      ),
    )

    abbrev s4 : Stage
    s4 = agreed large ring (agreed_behind large ring s3 (mixed_work lead count x y) s3.agrees) (fresh_behind large ring s3 (mixed_work lead count x y) s3.fresh) s3

    ok4 : Sound large ring s4
    ok4 = plain_sound large ring s3 (mixed_work lead count x y) ok3 each_allowed

    can_depart : CanDepart large ring two_inward third_outward lead count base (λ i. i) place s4 2 k (moves lead count x y 2 k)
    can_depart = record {
      free = refl;
      outgoing = refl;
      idle = refl;
      like = refl;
      half = refl;
      some = omega arith;
      wide = omega arith;
      agrees = λ e lt. (let z : e ≡ 0 = omega (arith, lt) in ap (λ e. s4.agrees (Fast 2 0 (0 + e))) z);
      there = λ e lt. or_left _ (first_half 2 one_cell (Slow (slow_place (moves lead count x y 2 k) e))) (or_left _ _ (or_left (three_slow lead count x y (Slow (slow_place (moves lead count x y 2 k) e))) _ (in_range 2 (omega arith) e lt)));
      lives = λ e lt. refl;
      avoids = λ a b o. absurd (no_bool o);
    }

    abbrev s5 : Stage
    s5 = record s4 { out = with_out 2 k none_out }

    ok5 : Sound large ring s5
    ok5 = record { within = ok4.within; alone = ok4.alone }

    seen : IsSeenFrom large ring s5 (base (suc k))
    seen = record {
      same = λ q a. inl (plain_kept large ring s3 (mixed_work lead count x y) ok3 each_allowed q (or_left _ (is_target (moves lead count x y 1 k) q) (or_left (three_slow lead count x y q) (is_target (moves lead count x y 0 k) q) a)), slow_stays (suc k) q a ∙ sym (slow_stays k q a));
      there = λ q a. (or_left _ (first_half 2 one_cell q) (or_left _ (first_half 1 one_cell q) (or_left (three_slow lead count x y q) (first_half 0 one_cell q) a)), inl (slow_stays (suc k) q a ∙ sym (slow_stays k q a)));
      fresh = λ p f. absurd (no_bool f);
      made = λ q m. m;
      images = tt;
    }

    left_is : with_out 2 k none_out ≡ leave two_inward third_outward (suc lead) k
    left_is = fun_ext (λ a. fun_ext (λ b. by a (nat_eq 2 a) refl (nat_eq k b)))
      where
        by : (a : ℕ) (t : Bool) → nat_eq 2 a ≡ t → (u : Bool) → (if nat_eq 2 a && u then true else false) ≡ (nat_eq a 2 && u)
        by a true t u =
            let e = eqb-true 2 a t in
            let f : nat_eq a 2 ≡ true = eq-eqb a 2 (sym e) in
            (λ i. if t i && u then true else false) ∙ is u ∙ sym (ap (λ t. t && u) f)
          where
            is : (u : Bool) → (if u then true else false) ≡ u
            is true = refl
            is false = refl
        by a false t u =
            let ne = eqb-false 2 a t in
            let f : nat_eq a 2 ≡ false = ne_eqb a 2 (λ e. ne (sym e)) in
            (λ i. if t i && u then true else false) ∙ sym (ap (λ t. t && u) f)

    turn_leads : Leads large ring (mixed_turn lead count x y k) s0 (record (base (suc k)) { out = leave two_inward third_outward (suc lead) k })
    turn_leads =
        let fin : List Step = Becomes (base (suc k)) ∷ [] in
        let close0 : List Step = closed (moves lead count x y 0 k) I32 one_cell ++ fin in
        let close1 : List Step = closed (moves lead count x y 1 k) I32 one_cell ++ close0 in
        let close2 : List Step = closed (moves lead count x y 2 k) I32 one_cell ++ close1 in
        let depart : List Step = Leaves 2 k (moves lead count x y 2 k) ∷ [] ++ close2 in
        let works : List Step = boths (base k) (mixed_work lead count x y) ++ depart in
        let outs : List Step = opened_out (suc lead) 2 k (moves lead count x y 2 k) I32 one_cell 0 ++ works in
        let end : Stage = record (base (suc k)) { out = leave two_inward third_outward (suc lead) k } in
        let close = λ (i : ℕ). closed_go large ring two_inward third_outward lead count base (λ i. i) (λ i. i * suc lead) place facts s5 (moves lead count x y i k) I32 one_cell ok5 in
        leads-append large ring (opens large ring two_inward third_outward lead count base (λ i. i) (λ i. i * suc lead) place facts k os) outs s0 s1 end (opened_is.0, opened_is.1)
        (leads-append large ring (opened_out (suc lead) 2 k (moves lead count x y 2 k) I32 one_cell 0) works s1 s3 end
        (leads-append large ring alone (late_steps (nat_le (suc lead) k)) s1 s2 s3 alone_is.0 (late_leads (nat_le (suc lead) k) refl))
        (leads-append large ring (boths (base k) (mixed_work lead count x y)) depart s3 s4 end (plain_go large ring s3 (mixed_work lead count x y) ok3 each_allowed)
        (leads-append large ring (Leaves 2 k (moves lead count x y 2 k) ∷ []) close2 s4 s5 end (departed_go large ring two_inward third_outward lead count base (λ i. i) (λ i. i * suc lead) place facts s4 2 k (moves lead count x y 2 k) ok4 can_depart)
        (leads-append large ring (closed (moves lead count x y 2 k) I32 one_cell) close1 s5 s5 end (close 2)
        (leads-append large ring (closed (moves lead count x y 1 k) I32 one_cell) close0 s5 s5 end (close 1)
        (leads-append large ring (closed (moves lead count x y 0 k) I32 one_cell) fin s5 s5 end (close 0)
        ((ok5, seen, tt), ap (λ (o : ℕ → ℕ → Bool). record (base (suc k)) { out = o }) left_is)))))))

    -- what the turn does in its places of the ring has to do with a transfer that has another one
    halves_apart : (n i j : ℕ) → (place j ≡ place k → ⊥) → (nat_eq i n && nat_eq (place j) (place k)) ≡ false
    halves_apart n i j ne = (λ z. nat_eq i n && ne_eqb (place j) (place k) ne z) ∙ none (nat_eq i n)
      where
        none : (b : Bool) → (b && false) ≡ false
        none true = refl
        none false = refl

    tag_apart : (a b i j : ℕ) → (i ≡ a → place j ≡ place b → ⊥) → (ring i j).tag ≢ (ring a b).tag
    tag_apart a b i j ne e = let two = tags_are i j a b e in ne two.0 two.1

    leaves_clear : (i j : ℕ) → j < count → (place j ≡ place k → ⊥) → (i ≡ 2 → j ≡ k → ⊥) → AvoidsStart large ring (ring 2 k) (ring i j)
    leaves_clear i j lj other away = record {
      tag = ne_eqb (ring i j).tag (ring 2 k).tag (tag_apart 2 k i j (λ e. other));
      half = halves_apart 2 i j other;
      race = apart_slow i j 2 k lj here (λ e. away e.0 e.1);
    }

    -- with another place in the ring than this turn's, and another than what it waits for
    all_avoid : (i j : ℕ) → j < count → (place j ≡ place k → ⊥) → (i ≡ 2 → j ≡ k → ⊥) → (suc lead ≤ k → i ≡ 2 → place j ≡ place (k - suc lead) → ⊥) → AvoidsAll large ring (mixed_turn lead count x y k) s0 (ring i j)
    all_avoid i j lj other away older = by (nat_le (suc lead) k) refl
      where
        by : (t : Bool) → nat_le (suc lead) k ≡ t
            → AvoidsAll large ring ((opened 0 k (moves lead count x y 0 k) I32 one_cell 0 ++ (opened 1 k (moves lead count x y 1 k) I32 one_cell 0 ++ []))
            ++ ((own_knowns 0 ++ Alone (Allocates 2 I32 one_cell) ∷ Alone (AllocatesTags 2 1) ∷ late_steps t)
            ++ (boths (base k) (mixed_work lead count x y)
            ++ (Leaves 2 k (moves lead count x y 2 k) ∷ []
            ++ (closed (moves lead count x y 2 k) I32 one_cell ++ (closed (moves lead count x y 1 k) I32 one_cell ++ (closed (moves lead count x y 0 k) I32 one_cell
            ++ Becomes (base (suc k)) ∷ []))))))) s0 (ring i j)
        by true t = (
          tt,
          (
            tt,
            (
              tag_apart 0 k i j (λ e. other),
              (
                tt,
                (
                  tt,
                  (
                    tag_apart 1 k i j (λ e. other),
                    (
                      tt,
                      (
                        tt,
                        (
                          tag_apart 2 (k - suc lead) i j (λ e f. older (leb-true (suc lead) k t) e f),
                          (halves_apart 0 i j other, (halves_apart 1 i j other, (halves_apart 2 i j other, (leaves_clear i j lj other away, (tt, (tt, (tt, (tt, (tt, (tt, (tt, tt))))))))))),
                        ),
                      ),
                    ),
                  ),
                ),
              ),
            ),
          ),
        )
        by false t = (
          tt,
          (
            tt,
            (
              tag_apart 0 k i j (λ e. other),
              (
                tt,
                (
                  tt,
                  (
                    tag_apart 1 k i j (λ e. other),
                    (
                      tt,
                      (
                        tt,
                        (halves_apart 0 i j other, (halves_apart 1 i j other, (halves_apart 2 i j other, (leaves_clear i j lj other away, (tt, (tt, (tt, (tt, (tt, (tt, (tt, tt))))))))))),
                      ),
                    ),
                  ),
                ),
              ),
            ),
          ),
        )

  pub mixed_is_ring : IsRing large ring two_inward third_outward lead count base (starts_of two_inward (λ i j. 1) 2) (mixed_turn lead count x y)
  mixed_is_ring = record {
    turns = λ k here. (turn_leads k here).0;
    leads = λ k here. (turn_leads k here).1;
    calm_in = λ k i j here is later near lj. all_avoid k here i j lj
        (λ e. (let same = rest_apart k j (suc lead) (omega arith) (omega (arith, later)) near (sym e) in omega (arith, same, later)))
        (λ e f. omega (arith, f, later))
        (λ le e f. (let u = ltb-true i 2 is in omega (arith, e, u)));
    calm_out = λ k i h here is before near. all_avoid k here i h (omega (arith, before, here))
        (λ e. (let same = rest_apart h k (suc lead) (omega arith) (omega (arith, before)) near e in omega (arith, same, before)))
        (λ e f. omega (arith, f, before))
        (λ le e f. (let same = rest_apart (k - suc lead) h (suc lead) (omega arith) (omega (arith, near)) (omega (arith, le, before)) (sym f) in omega (arith, same, near, le)));
    starts = starts large ring two_inward third_outward lead count base (λ i. i) (λ i. i * suc lead) place facts (λ i j. 1) 2 (λ i e. ltb-true i 2 e);
    started = started large ring two_inward third_outward lead count base (λ i. i) (λ i. i * suc lead) place facts (λ i j. 1) 2 (λ i e. ltb-true i 2 e);
    quiet_in = quiet_in large ring two_inward third_outward lead count base (λ i. i) (λ i. i * suc lead) place facts (λ i j. 1) 2 (λ i e. ltb-true i 2 e);
    quiet_out = quiet_out large ring two_inward third_outward lead count base (λ i. i) (λ i. i * suc lead) place facts (λ i j. 1) 2 (λ i e. ltb-true i 2 e);
  }
