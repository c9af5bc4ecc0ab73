-- The parts of a turn are allowed.
use Rattle.std.proofs.Common.{◌≡◌, ◌≢◌, ◌⊎◌, inl, inr, ℕ, zero, suc, ◌+◌, ◌<◌, ◌≤◌, List, [], ◌∷◌, ◌++◌, refl, sym, ap, ◌∙◌, subst, Bool, true, false}
use Rattle.std.specs.Prelude.{◌&&◌, ◌||◌, nat_eq, nat_lt, if◌then◌else◌}
use Rattle.std.proofs.lemmas.Bool.{eqb-true, eqb-false, eq-eqb, ne_eqb, and_parts, lt-ltb, ltb-true}
use Rattle.affine_ast.specs.declared.types.Element.{Element}
use Rattle.bus_model.specs.declared.transfer.Transfer.{Transfer}
use Rattle.bus_model.specs.Places.{slow_place}
use Rattle.direct_meaning.specs.Actions.{half_cells}
use Rattle.direct_meaning.specs.Action.{Place, Slow, Fast, Outside, Allocates, AllocatesTags, Starts}
use Rattle.prompt_semantics.specs.Device.{without}
use Rattle.step_runs.specs.Stage.{Half, Stage, moved_to, place_in, image, slow_end, fast_end, source, target, is_target}
use Rattle.step_runs.specs.Steps.{Each, Step, Alone, Joins, Leaves, Late, first_half, with_out, less_out, behind, after_alone, after_both, tag_meets, half_meets, race_meets, Sound, CanCopy, CanStart, CanJoin, CanWait, CanLeave, AvoidsAll, Goes}
use Rattle.ring_runs.specs.Facts.{IsPlaced, RingFacts}
use Rattle.ring_runs.specs.Template.{own_knowns, opened, written, closed, Opening, CanOpen, CanWrite, CanDepart}
use Rattle.step_runs.proofs.Memory.{target_hit}
use Rattle.step_runs.proofs.Frame.{or_cases, goes-append, behind-append, leads-append}
use Rattle.step_runs.proofs.Woven.{less_was}
use Rattle.ring_runs.proofs.Facts.{same_tag, avoids-append}

-- a cell of the first half
pub in_first_half : (n : ℕ) (sizes : List ℕ) (q : Place) → first_half n sizes q ≡ true → (c : ℕ) × (c < half_cells sizes) × (q ≡ Fast n 0 c)
in_first_half n sizes (Slow p) e = absurd (let k : false ≡ true = e in cc)
in_first_half n sizes (Fast m h c) e =
    let two = and_parts (nat_eq n m) (nat_eq 0 h && nat_lt c (half_cells sizes)) e in
    let more = and_parts (nat_eq 0 h) (nat_lt c (half_cells sizes)) two.1 in
    (c, ltb-true c (half_cells sizes) more.1, λ i. Fast (sym (eqb-true n m two.0) i) (sym (eqb-true 0 h more.0) i) c)
in_first_half n sizes Outside e = absurd (let k : false ≡ true = e in cc)

has_first_half : (n : ℕ) (sizes : List ℕ) (c : ℕ) → c < half_cells sizes → first_half n sizes (Fast n 0 c) ≡ true
has_first_half n sizes c lt =
    let a : nat_eq n n ≡ true = eq-eqb n n refl in
    let b : nat_lt c (half_cells sizes) ≡ true = lt-ltb c (half_cells sizes) lt in
    λ i. a i && b i

or_left : (a b : Bool) → a ≡ true → (a || b) ≡ true
or_left a b e = ap (λ a. a || b) e

or_right : (a b : Bool) → b ≡ true → (a || b) ≡ true
or_right true b e = refl
or_right false b e = e

-- a transfer's slow places are its layout's
pub same_places : (t : Transfer) (incoming : Bool) (tag fast half e : ℕ) → slow_place (record t { incoming = incoming; tag = tag; fast = fast; half = half }) e ≡ slow_place t e
unfolding slow_place
same_places t incoming tag fast half e = refl

module _ (large : ℕ) (ring : ℕ → ℕ → Transfer) (inward outward : ℕ → Bool) (lead count : ℕ) (base : ℕ → Stage) (number first_tag place : ℕ → ℕ)
    (facts : RingFacts large ring inward outward lead count base number first_tag place) where
  -- a memref of the first run alone, whose first half the second run has somewhere else
  alloc_sound : (s : Stage) (n g h : ℕ) (element : Element) (sizes : List ℕ) → Sound large ring s → s.half n 0 ≡ record { number = g; half = h }
      → ((q : Place) → s.there q ≡ true → (c : ℕ) → place_in s q ≢ Fast g h c) → Sound large ring (after_alone (Allocates n element sizes) s)
  alloc_sound s n g h element sizes ok half free = record {
    within = λ q a. or_left (s.there q) (first_half n sizes q) (ok.within q a);
    alone = λ q p a b e. alone q p (or_cases (s.there q) (first_half n sizes q) a) (or_cases (s.there p) (first_half n sizes p) b) e;
  }
    where
      moved : (c : ℕ) → place_in s (Fast n 0 c) ≡ Fast g h c
      moved c = ap (λ (x : Half). Fast x.number x.half c) half

      cell : Place → ℕ
      cell (Slow p) = 0
      cell (Fast n h c) = c
      cell Outside = 0

      alone : (q p : Place) → (s.there q ≡ true) ⊎ (first_half n sizes q ≡ true) → (s.there p ≡ true) ⊎ (first_half n sizes p ≡ true) → place_in s q ≡ place_in s p → q ≡ p
      alone q p (inl a) (inl b) e = ok.alone q p a b e
      alone q p (inl a) (inr b) e =
          let hit = in_first_half n sizes p b in
          absurd (free q a hit.0 (e ∙ ap (place_in s) hit.2 ∙ moved hit.0))
      alone q p (inr a) (inl b) e =
          let hit = in_first_half n sizes q a in
          absurd (free p b hit.0 (sym e ∙ ap (place_in s) hit.2 ∙ moved hit.0))
      alone q p (inr a) (inr b) e =
          let x = in_first_half n sizes q a in
          let y = in_first_half n sizes p b in
          let same : Fast g h x.0 ≡ Fast g h y.0 = sym (ap (place_in s) x.2 ∙ moved x.0) ∙ e ∙ ap (place_in s) y.2 ∙ moved y.0 in
          x.2 ∙ ap (λ c. Fast n 0 c) (ap cell same) ∙ sym y.2

  knowns_go : (n : ℕ) (s : Stage) → Sound large ring s → Goes large ring (own_knowns n) s
  knowns_go zero s ok = tt
  knowns_go (suc n) s ok = (ok, tt, knowns_go n s ok)

  knowns_lead : (n : ℕ) (s : Stage) → behind (own_knowns n) s ≡ s
  knowns_lead zero s = refl
  knowns_lead (suc n) s = knowns_lead n s

  -- the stage where a placement is open
  abbrev pub open_stage : Stage → ℕ → ℕ → Transfer → List ℕ → Stage
  open_stage s i k t sizes = record s { there = λ p. s.there p || first_half t.fast sizes p; agrees = λ p. s.agrees p || is_target t p; out = less_out i k s.out }

  pub opened_go : (s : Stage) (i k : ℕ) (t : Transfer) (element : Element) (sizes : List ℕ) (pads : ℕ) → inward i ≡ true → Sound large ring s → CanOpen large ring inward outward lead count base number place s i k t sizes
      → Goes large ring (opened i k t element sizes pads) s × (behind (opened i k t element sizes pads) s ≡ open_stage s i k t sizes)
  opened_go s i k t element sizes pads is ok c =
      let rest : List Step = Alone (Allocates t.fast element sizes) ∷ Alone (AllocatesTags t.tag 1) ∷ Joins i k t ∷ [] in
      let s1 : Stage = after_alone (Allocates t.fast element sizes) s in
      let ok1 = alloc_sound s t.fast (number i) (place k) element sizes ok c.half c.free in (
        goes-append large ring (own_knowns pads) rest s (knowns_go pads s ok) (subst (Goes large ring rest) (sym (knowns_lead pads s)) (
            (ok, (made, c.fresh), (ok1, tt, (ok1, join, tt))))),
        behind-append (own_knowns pads) rest s ∙ ap (behind rest) (knowns_lead pads s),
      )
    where
      moved : (l : ℕ) → place_in s (Fast t.fast 0 l) ≡ Fast (number i) (place k) l
      moved l = ap (λ (x : Half). Fast x.number x.half l) c.half

      made : (q : Place) → first_half t.fast sizes q ≡ true → s.made (place_in s q) ≡ true
      made q a =
          let hit = in_first_half t.fast sizes q a in
          ap s.made (ap (place_in s) hit.2 ∙ moved hit.0) ∙ c.made hit.0 hit.1

      slow : (e : ℕ) → slow_place (record t { tag = (ring i k).tag; fast = (ring i k).fast; half = (ring i k).half }) e ≡ slow_place t e
      slow e = same_places t t.incoming (ring i k).tag (ring i k).fast (ring i k).half e

      join : CanJoin large ring (after_alone (Allocates t.fast element sizes) s) i k t
      join = record {
        out = c.out;
        incoming = facts.incoming i k is;
        incoming' = c.incoming;
        count = ap (λ (u : Transfer). u.count) c.like;
        slow = λ e lt. ap (λ u. slow_place u e) c.like ∙ slow e;
        lives = c.lives;
        same = c.agrees;
        there = λ e lt. or_right (s.there (fast_end t e)) (first_half t.fast sizes (fast_end t e))
            (ap (λ h. first_half t.fast sizes (Fast t.fast h (t.offset + e))) c.half_is ∙ has_first_half t.fast sizes (t.offset + e) (c.fits e lt));
        targets = λ e lt.
            ap (λ (u : Transfer). Fast (ring i k).fast (ring i k).half (u.offset + e)) c.like
            ∙ (λ x. Fast (facts.fast_is i k (inl is) x) (facts.half_is i k (inl is) x) (t.offset + e))
            ∙ sym (ap (λ h. place_in s (Fast t.fast h (t.offset + e))) c.half_is ∙ moved (t.offset + e));
        tags = λ a b o e. (let has = c.outs a b o in
            let same = same_tag large ring inward outward lead count base number first_tag place facts i k a b (inl is) has.0 e in
            (same.0, has.1 same.0));
        others = subst (Each (λ (f : Transfer). s.tag f.tag ≢ (ring i k).tag)) (sym c.idle) tt;
      }

  pub opened_sound : (s : Stage) (i k : ℕ) (t : Transfer) (element : Element) (sizes : List ℕ) → Sound large ring s → CanOpen large ring inward outward lead count base number place s i k t sizes → Sound large ring (open_stage s i k t sizes)
  opened_sound s i k t element sizes ok c =
      let ok1 = alloc_sound s t.fast (number i) (place k) element sizes ok c.half c.free in
      record { within = λ q a. within q (or_cases (s.agrees q) (is_target t q) a); alone = ok1.alone }
    where
      within : (q : Place) → (s.agrees q ≡ true) ⊎ (is_target t q ≡ true) → (s.there q || first_half t.fast sizes q) ≡ true
      within q (inl a) = or_left (s.there q) (first_half t.fast sizes q) (ok.within q a)
      within q (inr b) =
          let hit = target_hit t q b in
          let is : fast_end t hit.0 ≡ q = ap (λ b. if b then fast_end t hit.0 else slow_end t hit.0) (sym c.incoming) ∙ hit.2 in
          or_right (s.there q) (first_half t.fast sizes q)
          (ap (first_half t.fast sizes) (sym is) ∙ ap (λ h. first_half t.fast sizes (Fast t.fast h (t.offset + hit.0))) c.half_is ∙ has_first_half t.fast sizes (t.offset + hit.0) (c.fits hit.0 hit.1))

  -- and avoids a transfer with another tag
  pub opened_avoids : (i k : ℕ) (t : Transfer) (element : Element) (sizes : List ℕ) (pads : ℕ) (s : Stage) (v : Transfer) → v.tag ≢ (ring i k).tag → AvoidsAll large ring (opened i k t element sizes pads) s v
  opened_avoids i k t element sizes pads s v ne =
      avoids-append large ring (own_knowns pads) (Alone (Allocates t.fast element sizes) ∷ Alone (AllocatesTags t.tag 1) ∷ Joins i k t ∷ []) s v (pads_avoid pads s) (tt, (tt, (ne, tt)))
    where
      pads_avoid : (n : ℕ) (s : Stage) → AvoidsAll large ring (own_knowns n) s v
      pads_avoid zero s = tt
      pads_avoid (suc n) s = (tt, pads_avoid n s)

  -- copied out
  abbrev pub written_stage : Stage → Transfer → Stage
  written_stage s w = record s { agrees = λ p. s.agrees p || is_target w p }

  pub written_go : (s : Stage) (w : Transfer) → Sound large ring s → CanWrite large ring inward outward lead count base number place s w
      → Goes large ring (written s w) s × (behind (written s w) s ≡ written_stage s w)
  written_go s w ok c = (
    (ok, (refl, (copy, start)), (ok1, (refl, wait), tt)),
    ap (λ l. record s { agrees = λ p. s.agrees p || is_target w p; first = l }) (ap (λ l. without w.tag (l ++ w ∷ [])) c.idle ∙ ap (λ b. if b then [] else w ∷ []) (eq-eqb w.tag w.tag refl) ∙ sym c.idle),
  )
    where
      source_is : (e : ℕ) → source w e ≡ fast_end w e
      source_is e = ap (λ b. if b then slow_end w e else fast_end w e) c.outgoing

      target_is : (e : ℕ) → target w e ≡ slow_end w e
      target_is e = ap (λ b. if b then fast_end w e else slow_end w e) c.outgoing

      slow : (e : ℕ) → slow_place (image s w) e ≡ slow_place w e
      slow e = same_places w w.incoming (s.tag w.tag) (s.half w.fast w.half).number (s.half w.fast w.half).half e

      copy : CanCopy large ring s w (image s w)
      copy = record {
        some = c.some;
        wide = c.wide;
        some' = c.some;
        wide' = c.wide;
        way = refl;
        count = refl;
        same = λ e lt. ap s.agrees (source_is e) ∙ c.agrees e lt;
        there = λ e lt. ap s.there (target_is e) ∙ c.there e lt;
        sources = λ e lt. ap (λ b. if b then slow_end (image s w) e else fast_end (image s w) e) c.outgoing ∙ sym (ap (place_in s) (source_is e));
        targets = λ e lt. ap (λ b. if b then fast_end (image s w) e else slow_end (image s w) e) c.outgoing ∙ ap Slow (slow e) ∙ sym (ap (place_in s) (target_is e) ∙ ap (moved_to (slow_place w e)) (c.lives e lt));
      }

      start : CanStart large ring s (image s w)
      start = record {
        tag = record { own = λ a b o. (c.avoids a b o).tag; moved = subst (Each (λ f. tag_meets (image s w) (image s f) ≡ false)) (sym c.idle) tt };
        half = record { own = λ a b o. (c.avoids a b o).half; moved = subst (Each (λ f. half_meets (image s w) (image s f) ≡ false)) (sym c.idle) tt };
        race = record { own = λ a b o. (c.avoids a b o).race; moved = subst (Each (λ f. race_meets (image s w) (image s f) ≡ false)) (sym c.idle) tt };
      }

      ok1 : Sound large ring (after_both (Starts w) s)
      ok1 = record { within = λ q a. within q (or_cases (s.agrees q) (is_target w q) a); alone = ok.alone }
        where
          within : (q : Place) → (s.agrees q ≡ true) ⊎ (is_target w q ≡ true) → s.there q ≡ true
          within q (inl a) = ok.within q a
          within q (inr a) = let hit = target_hit w q a in ap s.there (sym hit.2 ∙ target_is hit.0) ∙ c.there hit.0 hit.1

      wait : CanWait large ring (after_both (Starts w) s) w.tag w.count
      wait = record {
        own = λ a b o e. (let h = (c.avoids a b o).tag in eqb-false (ring a b).tag (s.tag w.tag) h e);
        others = subst (Each (λ (f : Transfer). nat_eq f.tag w.tag ≡ nat_eq (s.tag f.tag) (s.tag w.tag))) (sym (ap (λ l. l ++ w ∷ []) c.idle)) (eq-eqb w.tag w.tag refl ∙ sym (eq-eqb (s.tag w.tag) (s.tag w.tag) refl), tt);
      }

  pub written_sound : (s : Stage) (w : Transfer) → Sound large ring s → CanWrite large ring inward outward lead count base number place s w → Sound large ring (written_stage s w)
  written_sound s w ok c = record { within = λ q a. within q (or_cases (s.agrees q) (is_target w q) a); alone = ok.alone }
    where
      within : (q : Place) → (s.agrees q ≡ true) ⊎ (is_target w q ≡ true) → s.there q ≡ true
      within q (inl a) = ok.within q a
      within q (inr a) =
          let hit = target_hit w q a in
          ap s.there (sym hit.2 ∙ ap (λ b. if b then fast_end w hit.0 else slow_end w hit.0) c.outgoing) ∙ c.there hit.0 hit.1

  -- closed
  pub closed_go : (s : Stage) (t : Transfer) (element : Element) (sizes : List ℕ) → Sound large ring s → Goes large ring (closed t element sizes) s × (behind (closed t element sizes) s ≡ s)
  closed_go s t element sizes ok = ((ok, tt, (ok, tt, tt)), refl)

  -- an outward placement leaves
  pub departed_go : (s : Stage) (i k : ℕ) (w : Transfer) → Sound large ring s → CanDepart large ring inward outward lead count base number place s i k w
      → Goes large ring (Leaves i k w ∷ []) s × (behind (Leaves i k w ∷ []) s ≡ record s { out = with_out i k s.out })
  departed_go s i k w ok c = ((ok, leave, tt), refl)
    where
      goes_out : (ring i k).incoming ≡ false
      goes_out = ap (λ (u : Transfer). u.incoming) c.like ∙ c.outgoing

      source_is : (e : ℕ) → source w e ≡ fast_end w e
      source_is e = ap (λ b. if b then slow_end w e else fast_end w e) c.outgoing

      target_is : (e : ℕ) → target w e ≡ slow_end w e
      target_is e = ap (λ b. if b then fast_end w e else slow_end w e) c.outgoing

      slow : (e : ℕ) → slow_place (ring i k) e ≡ slow_place w e
      slow e = ap (λ u. slow_place u e) c.like ∙ same_places w w.incoming (ring i k).tag (ring i k).fast (ring i k).half e

      leave : CanLeave large ring s i k w
      leave = record {
        out = c.free;
        outgoing = goes_out;
        outgoing' = c.outgoing;
        copy = record {
          some = c.some;
          wide = c.wide;
          some' = subst (λ (u : Transfer). 1 ≤ u.chunk) (sym c.like) c.some;
          wide' = subst (λ (u : Transfer). u.chunk ≤ u.stride) (sym c.like) c.wide;
          way = goes_out ∙ sym c.outgoing;
          count = ap (λ (u : Transfer). u.count) c.like;
          same = λ e lt. ap s.agrees (source_is e) ∙ c.agrees e lt;
          there = λ e lt. ap s.there (target_is e) ∙ c.there e lt;
          sources = λ e lt.
              ap (λ b. if b then slow_end (ring i k) e else fast_end (ring i k) e) goes_out
              ∙ ap (λ (u : Transfer). Fast (ring i k).fast (ring i k).half (u.offset + e)) c.like
              ∙ sym (ap (place_in s) (source_is e) ∙ ap (λ (x : Half). Fast x.number x.half (w.offset + e)) c.half);
          targets = λ e lt.
              ap (λ b. if b then fast_end (ring i k) e else slow_end (ring i k) e) goes_out
              ∙ ap Slow (slow e)
              ∙ sym (ap (place_in s) (target_is e) ∙ ap (moved_to (slow_place w e)) (c.lives e lt));
        };
        start = record {
          tag = record { own = λ a b o. (c.avoids a b o).tag; moved = subst (Each (λ f. tag_meets (ring i k) (image s f) ≡ false)) (sym c.idle) tt };
          half = record { own = λ a b o. (c.avoids a b o).half; moved = subst (Each (λ f. half_meets (ring i k) (image s f) ≡ false)) (sym c.idle) tt };
          race = record { own = λ a b o. (c.avoids a b o).race; moved = subst (Each (λ f. race_meets (ring i k) (image s f) ≡ false)) (sym c.idle) tt };
        };
      }

  -- the wait of a turn for what left before, where there is such a turn
  pub late_go : (s : Stage) (i h : ℕ) → outward i ≡ true → Sound large ring s → s.first ≡ [] → s.out i h ≡ true
      → ((a b : ℕ) → s.out a b ≡ true → IsPlaced large ring inward outward lead count base a × (a ≡ i → b ≡ h))
      → Goes large ring (Late i h ∷ []) s × (behind (Late i h ∷ []) s ≡ record s { out = less_out i h s.out })
  late_go s i h is ok idle out outs = (
    (
      ok,
      record {
        out = out;
        outgoing = facts.outgoing i h is;
        tags = λ a b o e. (let has = outs a b o in
            let same = same_tag large ring inward outward lead count base number first_tag place facts i h a b (inr is) has.0 e in
            (same.0, has.1 same.0));
        others = subst (Each (λ (f : Transfer). s.tag f.tag ≢ (ring i h).tag)) (sym idle) tt;
      },
      tt,
    ),
    refl,
  )

  -- the first run's memref alone, whose place in the ring is the second's
  abbrev pub alone_stage : Stage → Transfer → List ℕ → Stage
  alone_stage s w sizes = record s { there = λ p. s.there p || first_half w.fast sizes p }

  pub alone_go : (s : Stage) (i k : ℕ) (w : Transfer) (element : Element) (sizes : List ℕ) (pads : ℕ) → Sound large ring s
      → s.half w.fast 0 ≡ record { number = number i; half = place k }
      → ((c : ℕ) → c < half_cells sizes → s.made (Fast (number i) (place k) c) ≡ true)
      → ((q : Place) → s.there q ≡ true → (h c : ℕ) → q ≢ Fast w.fast h c)
      → ((q : Place) → s.there q ≡ true → (c : ℕ) → place_in s q ≢ Fast (number i) (place k) c)
      → (Goes large ring (own_knowns pads ++ Alone (Allocates w.fast element sizes) ∷ Alone (AllocatesTags w.tag 1) ∷ []) s
      × (behind (own_knowns pads ++ Alone (Allocates w.fast element sizes) ∷ Alone (AllocatesTags w.tag 1) ∷ []) s ≡ alone_stage s w sizes))
      × Sound large ring (alone_stage s w sizes)
  alone_go s i k w element sizes pads ok half made fresh free =
      let rest : List Step = Alone (Allocates w.fast element sizes) ∷ Alone (AllocatesTags w.tag 1) ∷ [] in
      let ok1 = alloc_sound s w.fast (number i) (place k) element sizes ok half free in (
        (
          goes-append large ring (own_knowns pads) rest s (knowns_go pads s ok) (subst (Goes large ring rest) (sym (knowns_lead pads s)) (
              (ok, (in_ring, fresh), (ok1, tt, tt)))),
          behind-append (own_knowns pads) rest s ∙ ap (behind rest) (knowns_lead pads s),
        ),
        ok1,
      )
    where
      in_ring : (q : Place) → first_half w.fast sizes q ≡ true → s.made (place_in s q) ≡ true
      in_ring q a =
          let hit = in_first_half w.fast sizes q a in
          ap s.made (ap (place_in s) hit.2 ∙ ap (λ (x : Half). Fast x.number x.half hit.0) half) ∙ made hit.0 hit.1

  -- where another placement was opened, one can still be opened
  still_open : (s : Stage) (i k : ℕ) (t : Transfer) (sizes : List ℕ) (a : ℕ) (u : Transfer) (sizes' : List ℕ) → inward i ≡ true → inward a ≡ true → a ≢ i → u.fast ≢ t.fast
      → CanOpen large ring inward outward lead count base number place s a k u sizes'
      → CanOpen large ring inward outward lead count base number place s i k t sizes
      → CanOpen large ring inward outward lead count base number place (open_stage s a k u sizes') i k t sizes
  still_open s i k t sizes a u sizes' p q ne apart other c = record {
    out = ap (λ b. if b then false else s.out i k) (ap (λ b. b && nat_eq k k) (ne_eqb a i ne)) ∙ c.out;
    outs = λ x y o. c.outs x y (less_was ring (image s) a k x y s.out o);
    idle = c.idle;
    incoming = c.incoming;
    like = c.like;
    half_is = c.half_is;
    fits = c.fits;
    half = c.half;
    lives = c.lives;
    agrees = λ e lt. or_left (s.agrees (Slow (slow_place t e))) (is_target u (Slow (slow_place t e))) (c.agrees e lt);
    made = c.made;
    fresh = λ x y. fresh x (or_cases (s.there x) (first_half u.fast sizes' x) y);
    free = λ x y. free x (or_cases (s.there x) (first_half u.fast sizes' x) y);
  }
    where
      which : Place → ℕ
      which (Slow p) = 0
      which (Fast n h c) = n
      which Outside = 0

      fresh : (x : Place) → (s.there x ≡ true) ⊎ (first_half u.fast sizes' x ≡ true) → (h l : ℕ) → x ≢ Fast t.fast h l
      fresh x (inl y) h l is = c.fresh x y h l is
      fresh x (inr y) h l is =
          let hit = in_first_half u.fast sizes' x y in
          apart (ap which (sym hit.2 ∙ is))

      free : (x : Place) → (s.there x ≡ true) ⊎ (first_half u.fast sizes' x ≡ true) → (l : ℕ) → place_in s x ≢ Fast (number i) (place k) l
      free x (inl y) l is = c.free x y l is
      free x (inr y) l is =
          let hit = in_first_half u.fast sizes' x y in
          let there : place_in s x ≡ Fast (number a) (place k) hit.0 = ap (place_in s) hit.2 ∙ ap (λ (z : Half). Fast z.number z.half hit.0) other.half in
          ne (facts.numbers a i (inl q) (inl p) (ap which (sym there ∙ is)))

  -- several at once
  abbrev pub opens : ℕ → List Opening → List Step
  opens k [] = []
  opens k (o ∷ os) = opened o.index k o.brings o.element o.sizes o.pads ++ opens k os

  abbrev pub opens_stage : Stage → ℕ → List Opening → Stage
  opens_stage s k [] = s
  opens_stage s k (o ∷ os) = opens_stage (open_stage s o.index k o.brings o.sizes) k os

  -- each can be opened at the stage before them all, and no two are of one placement or of one memref
  abbrev pub CanOpenAll : Stage → ℕ → List Opening → Type 0
  CanOpenAll s k = Each (λ (o : Opening). (inward o.index ≡ true) × CanOpen large ring inward outward lead count base number place s o.index k o.brings o.sizes)

  abbrev pub AreApart : List Opening → Type 0
  AreApart [] = Unit {0}
  AreApart (o ∷ os) = Each (λ (p : Opening). (o.index ≢ p.index) × (o.brings.fast ≢ p.brings.fast)) os × AreApart os

  still_all : (s : Stage) (k : ℕ) (o : Opening) (os : List Opening) → inward o.index ≡ true → CanOpen large ring inward outward lead count base number place s o.index k o.brings o.sizes
      → Each (λ (p : Opening). (o.index ≢ p.index) × (o.brings.fast ≢ p.brings.fast)) os → CanOpenAll s k os → CanOpenAll (open_stage s o.index k o.brings o.sizes) k os
  still_all s k o [] is c apart cs = tt
  still_all s k o (p ∷ os) is c apart cs =
      ((cs.0.0, still_open s p.index k p.brings p.sizes o.index o.brings o.sizes cs.0.0 is apart.0.0 apart.0.1 c cs.0.1), still_all s k o os is c apart.1 cs.1)

  pub opens_go : (os : List Opening) (s : Stage) (k : ℕ) → Sound large ring s → CanOpenAll s k os → AreApart os
      → Goes large ring (opens k os) s × (behind (opens k os) s ≡ opens_stage s k os) × Sound large ring (opens_stage s k os)
  opens_go [] s k ok cs apart = (tt, refl, ok)
  opens_go (o ∷ os) s k ok cs apart =
      let one = opened_go s o.index k o.brings o.element o.sizes o.pads cs.0.0 ok cs.0.1 in
      let more = opens_go os (open_stage s o.index k o.brings o.sizes) k (opened_sound s o.index k o.brings o.element o.sizes ok cs.0.1) (still_all s k o os cs.0.0 cs.0.1 apart.0 cs.1) apart.1 in
      let both = leads-append large ring (opened o.index k o.brings o.element o.sizes o.pads) (opens k os) s (open_stage s o.index k o.brings o.sizes) (opens_stage s k (o ∷ os)) one (more.0, more.1) in
      (both.0, both.1, more.2)
