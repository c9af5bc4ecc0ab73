-- The starts ahead are allowed.
use Rattle.std.proofs.Common.{◌≡◌, ◌≢◌, inl, inr, ℕ, zero, suc, ◌+◌, ◌<◌, ◌≤◌, List, [], ◌∷◌, ◌++◌, refl, sym, ap, ◌∙◌, subst, arith, Bool, true, false}
use mathlib.Core.Path.{fun_ext}
use Rattle.std.specs.Prelude.{◌&&◌, nat_eq, nat_lt, if◌then◌else◌}
use Rattle.std.proofs.lemmas.Bool.{eqb-true, eqb-false, ne_eqb, and_parts, lt-ltb, ltb-true}
use Rattle.bus_model.specs.declared.transfer.Transfer.{Transfer}
use Rattle.direct_meaning.specs.Action.{Fast}
use Rattle.direct_meaning.specs.Transfers.{overlap}
use Rattle.step_runs.specs.Stage.{Stage, image}
use Rattle.step_runs.specs.Steps.{Each, Step, Ahead, behind, with_out, tag_meets, half_meets, race_meets, Sound, CanRunAhead, AvoidsStart, AvoidsAll, Goes, first_list}
use Rattle.ring_runs.specs.Ring.{none_out, news}
use Rattle.ring_runs.specs.Facts.{knowns, starts_of, IsPlaced, RingFacts}
use Rattle.step_runs.proofs.Frame.{goes-append, behind-append}
use Rattle.ring_runs.proofs.Lists.{first-append}

pub avoids-append : (large : ℕ) (ring : ℕ → ℕ → Transfer) (xs ys : List Step) (s : Stage) (v : Transfer) → AvoidsAll large ring xs s v → AvoidsAll large ring ys (behind xs s) v → AvoidsAll large ring (xs ++ ys) s v
avoids-append large ring [] ys s v a b = b
avoids-append large ring (x ∷ xs) ys s v a b = (a.0, avoids-append large ring xs ys _ v a.1 b)

pub behind-knowns : (n : ℕ) (s : Stage) → behind (knowns n) s ≡ s
behind-knowns zero s = refl
behind-knowns (suc n) s = behind-knowns n s

module _ (large : ℕ) (ring : ℕ → ℕ → Transfer) (u : Transfer) (s : Stage) where
  each_tag : (xs : List Transfer) → Each (λ f. AvoidsStart large ring u (image s f)) xs → Each (λ f. tag_meets u (image s f) ≡ false) xs
  each_tag [] h = tt
  each_tag (f ∷ xs) h = ((h.0).tag, each_tag xs h.1)

  each_half : (xs : List Transfer) → Each (λ f. AvoidsStart large ring u (image s f)) xs → Each (λ f. half_meets u (image s f) ≡ false) xs
  each_half [] h = tt
  each_half (f ∷ xs) h = ((h.0).half, each_half xs h.1)

  each_race : (xs : List Transfer) → Each (λ f. AvoidsStart large ring u (image s f)) xs → Each (λ f. race_meets u (image s f) ≡ false) xs
  each_race [] h = tt
  each_race (f ∷ xs) h = ((h.0).race, each_race xs h.1)

module _ (large : ℕ) (ring : ℕ → ℕ → Transfer) (inward outward : ℕ → Bool) (lead count : ℕ) (base : ℕ → Stage) (number first_tag place : ℕ → ℕ)
    (facts : RingFacts large ring inward outward lead count base number first_tag place) where
  -- equal tags are those of one placement in one ring place
  pub same_tag : (i j a b : ℕ) → IsPlaced large ring inward outward lead count base i → IsPlaced large ring inward outward lead count base a → (ring a b).tag ≡ (ring i j).tag → (a ≡ i) × (place b ≡ place j)
  same_tag i j a b p q e = facts.tags a i (place b) (place j) q p (facts.within b) (facts.within j) (sym (facts.tag_is a b q) ∙ e ∙ facts.tag_is i j p)

  pub same_half : (i j a b : ℕ) → IsPlaced large ring inward outward lead count base i → IsPlaced large ring inward outward lead count base a → (ring a b).fast ≡ (ring i j).fast → (ring a b).half ≡ (ring i j).half → (a ≡ i) × (place b ≡ place j)
  same_half i j a b p q e f = (facts.numbers a i q p (sym (facts.fast_is a b q) ∙ e ∙ facts.fast_is i j p), sym (facts.half_is a b q) ∙ f ∙ facts.half_is i j p)

  -- a start ahead avoids what has another ring place, or belongs to another placement
  pub start_avoids : (i j a b : ℕ) → j < count → b < count → inward i ≡ true → IsPlaced large ring inward outward lead count base a → ((a ≡ i) × (place b ≡ place j) → ⊥) → AvoidsStart large ring (ring i j) (ring a b)
  start_avoids i j a b lj lb p q ne = record {
    tag = ne_eqb (ring a b).tag (ring i j).tag (λ e. ne (same_tag i j a b (inl p) q e));
    half = half (nat_eq (ring a b).fast (ring i j).fast) (nat_eq (ring a b).half (ring i j).half) refl refl;
    race = race q;
  }
    where
      half : (x y : Bool) → nat_eq (ring a b).fast (ring i j).fast ≡ x → nat_eq (ring a b).half (ring i j).half ≡ y → half_meets (ring i j) (ring a b) ≡ false
      half true true x y = absurd (ne (same_half i j a b (inl p) q (eqb-true (ring a b).fast (ring i j).fast x) (eqb-true (ring a b).half (ring i j).half y)))
      half true false x y = (λ k. x k && y k)
      half false y x z = ap (λ t. t && nat_eq (ring a b).half (ring i j).half) x

      race : IsPlaced large ring inward outward lead count base a → race_meets (ring i j) (ring a b) ≡ false
      race (inl w) = (λ k. if facts.incoming i j p k then (if facts.incoming a b w k then false else overlap (ring a b) (ring i j)) else overlap (ring a b) (ring i j))
      race (inr w) = (λ k. if facts.incoming i j p k then (if facts.outgoing a b w k then false else overlap (ring a b) (ring i j)) else overlap (ring a b) (ring i j)) ∙ facts.parted i j a b p w lj lb

  -- those of the first placements
  abbrev up_to : ℕ → ℕ → ℕ → ℕ → Bool
  up_to m j i h = nat_lt i m && (inward i && nat_eq j h)

  module _ (k j : ℕ) (low : k ≤ j) (high : j < k + suc lead) (here : j < count) where
    abbrev stage : (ℕ → ℕ → Bool) → Stage
    stage out = record (base k) { out = out }

    sound_at : (out : ℕ → ℕ → Bool) → Sound large ring (stage out)
    sound_at out = let c = facts.sound k in record { within = c.within; alone = c.alone }

    knowns_go : (n : ℕ) (out : ℕ → ℕ → Bool) → Goes large ring (knowns n) (stage out)
    knowns_go zero out = tt
    knowns_go (suc n) out = (sound_at out, tt, knowns_go n out)

    knowns_avoid : (n : ℕ) (s : Stage) (v : Transfer) → AvoidsAll large ring (knowns n) s v
    knowns_avoid zero s v = tt
    knowns_avoid (suc n) s v = (tt, knowns_avoid n s v)

    none_below : (m : ℕ) → nat_lt m m ≡ false
    none_below m = grind arith

    -- the start of placement m, where those below have started
    can_start : (m : ℕ) → inward m ≡ true → CanRunAhead large ring (stage (up_to m j)) m j
    can_start m p = record {
      out = ap (λ t. t && (inward m && nat_eq j j)) (none_below m);
      incoming = facts.incoming m j p;
      start = record {
        tag = record { own = λ a b o. (avoids a b o).tag; moved = each_tag large ring (ring m j) (base k) (base k).first (facts.others k m j p) };
        half = record { own = λ a b o. (avoids a b o).half; moved = each_half large ring (ring m j) (base k) (base k).first (facts.others k m j p) };
        race = record { own = λ a b o. (avoids a b o).race; moved = each_race large ring (ring m j) (base k) (base k).first (facts.others k m j p) };
      };
      made = λ e lt. facts.made k m j e p low high here lt;
      apart = λ q t e lt is. facts.free k m (ring m j).half ((ring m j).offset + e) q (inl p) t (is ∙ ap (λ n. Fast n (ring m j).half ((ring m j).offset + e)) (facts.fast_is m j (inl p)));
    }
      where
        avoids : (a b : ℕ) → up_to m j a b ≡ true → AvoidsStart large ring (ring m j) (ring a b)
        avoids a b o =
            let two = and_parts (nat_lt a m) (inward a && nat_eq j b) o in
            let more = and_parts (inward a) (nat_eq j b) two.1 in
            let less = ltb-true a m two.0 in
            start_avoids m j a b here (subst (λ b. b < count) (eqb-true j b more.1) here) p (inl more.0) (λ e. (let is = e.0 in omega (arith, less, is)))

    with_next : (m : ℕ) → inward m ≡ true → with_out m j (up_to m j) ≡ up_to (suc m) j
    with_next m p = fun_ext (λ a. fun_ext (λ b. by a b (nat_eq m a) refl))
      where
        by : (a b : ℕ) (t : Bool) → nat_eq m a ≡ t → with_out m j (up_to m j) a b ≡ up_to (suc m) j a b
        by a b true t =
            let e = eqb-true m a t in
            let yes : nat_lt a (suc m) ≡ true = lt-ltb a (suc m) (omega (arith, e)) in
            let not_yet : nat_lt a m ≡ false = grind (arith, e) in
            let has : inward a ≡ true = ap inward (sym e) ∙ p in
            (λ k. if t k && nat_eq j b then true else not_yet k && (inward a && nat_eq j b))
            ∙ at (nat_eq j b)
            ∙ sym (λ k. yes k && (has k && nat_eq j b))
          where
            at : (x : Bool) → (if x then true else false) ≡ x
            at true = refl
            at false = refl
        by a b false t =
            let ne = eqb-false m a t in
            ap (λ t. if t && nat_eq j b then true else up_to m j a b) t
            ∙ ap (λ x. x && (inward a && nat_eq j b)) (less a ne (nat_lt a m) refl)
          where
            less : (a : ℕ) → m ≢ a → (x : Bool) → nat_lt a m ≡ x → nat_lt a m ≡ nat_lt a (suc m)
            less a ne true x = let lt = ltb-true a m x in x ∙ sym (lt-ltb a (suc m) (omega (arith, lt)))
            less a ne false x =
                let ge : m ≤ a = grind (arith, x) in
                let no_more : nat_lt a (suc m) ≡ false = grind (arith, ge, ne) in
                x ∙ sym no_more

    without_next : (m : ℕ) → inward m ≡ false → up_to m j ≡ up_to (suc m) j
    without_next m p = fun_ext (λ a. fun_ext (λ b. by a b (nat_eq m a) refl))
      where
        none : (x : Bool) → (x && false) ≡ false
        none true = refl
        none false = refl

        by : (a b : ℕ) (t : Bool) → nat_eq m a ≡ t → up_to m j a b ≡ up_to (suc m) j a b
        by a b true t =
            let e = eqb-true m a t in
            let has : inward a ≡ false = ap inward (sym e) ∙ p in
            (λ k. nat_lt a m && (has k && nat_eq j b)) ∙ none (nat_lt a m) ∙ sym ((λ k. nat_lt a (suc m) && (has k && nat_eq j b)) ∙ none (nat_lt a (suc m)))
        by a b false t = let ne = eqb-false m a t in ap (λ x. x && (inward a && nat_eq j b)) (less a ne (nat_lt a m) refl)
          where
            less : (a : ℕ) → m ≢ a → (x : Bool) → nat_lt a m ≡ x → nat_lt a m ≡ nat_lt a (suc m)
            less a ne true x = let lt = ltb-true a m x in x ∙ sym (lt-ltb a (suc m) (omega (arith, lt)))
            less a ne false x =
                let ge : m ≤ a = grind (arith, x) in
                let no_more : nat_lt a (suc m) ≡ false = grind (arith, ge, ne) in
                x ∙ sym no_more

    none_yet : none_out ≡ up_to 0 j
    none_yet = fun_ext (λ a. fun_ext (λ b. sym (let e : nat_lt a 0 ≡ false = grind arith in ap (λ x. x && (inward a && nat_eq j b)) e)))

    module _ (pads : ℕ → ℕ → ℕ) where
      starts_go : (m : ℕ) → Goes large ring (starts_of inward pads m j) (stage none_out) × (behind (starts_of inward pads m j) (stage none_out) ≡ stage (up_to m j))
      starts_go zero = (tt, ap stage none_yet)
      starts_go (suc m) =
          let rest = starts_go m in
          let last = one (inward m) refl in (
            goes-append large ring (starts_of inward pads m j) (if inward m then knowns (pads m j) ++ Ahead m j ∷ [] else []) (stage none_out) rest.0 (subst (Goes large ring (if inward m then knowns (pads m j) ++ Ahead m j ∷ [] else [])) (sym rest.1) last.0),
            behind-append (starts_of inward pads m j) (if inward m then knowns (pads m j) ++ Ahead m j ∷ [] else []) (stage none_out) ∙ ap (behind (if inward m then knowns (pads m j) ++ Ahead m j ∷ [] else [])) rest.1 ∙ last.1,
          )
        where
          one : (x : Bool) → inward m ≡ x → Goes large ring (if x then knowns (pads m j) ++ Ahead m j ∷ [] else []) (stage (up_to m j)) × (behind (if x then knowns (pads m j) ++ Ahead m j ∷ [] else []) (stage (up_to m j)) ≡ stage (up_to (suc m) j))
          one true x =
              let same = behind-knowns (pads m j) (stage (up_to m j)) in (
                goes-append large ring (knowns (pads m j)) (Ahead m j ∷ []) (stage (up_to m j)) (knowns_go (pads m j) (up_to m j)) (subst (Goes large ring (Ahead m j ∷ [])) (sym same) (sound_at (up_to m j), can_start m x, tt)),
                behind-append (knowns (pads m j)) (Ahead m j ∷ []) (stage (up_to m j)) ∙ ap (behind (Ahead m j ∷ [])) same ∙ ap stage (with_next m x),
              )
          one false x = (tt, ap stage (without_next m x))

      starts_avoid : (m : ℕ) (s : Stage) (v : Transfer) → ((i : ℕ) → i < m → inward i ≡ true → AvoidsStart large ring (ring i j) v) → AvoidsAll large ring (starts_of inward pads m j) s v
      starts_avoid zero s v h = tt
      starts_avoid (suc m) s v h =
          avoids-append large ring (starts_of inward pads m j) (if inward m then knowns (pads m j) ++ Ahead m j ∷ [] else []) s v
          (starts_avoid m s v (λ i lt. h i (omega (arith, lt)))) (one (inward m) refl (behind (starts_of inward pads m j) s))
        where
          one : (x : Bool) → inward m ≡ x → (s : Stage) → AvoidsAll large ring (if x then knowns (pads m j) ++ Ahead m j ∷ [] else []) s v
          one true x s = avoids-append large ring (knowns (pads m j)) (Ahead m j ∷ []) s v (knowns_avoid (pads m j) s v) (h m (omega arith) x, tt)
          one false x s = tt

  -- all placements lie below m
  module _ (pads : ℕ → ℕ → ℕ) (m : ℕ) (all : (i : ℕ) → inward i ≡ true → i < m) where
    all_news : (j : ℕ) → up_to m j ≡ news inward outward (suc lead) j
    all_news j = fun_ext (λ a. fun_ext (λ b. by a b (inward a) refl))
      where
        by : (a b : ℕ) (x : Bool) → inward a ≡ x → up_to m j a b ≡ news inward outward (suc lead) j a b
        by a b true x = ap (λ t. t && (inward a && nat_eq j b)) (lt-ltb a m (all a x))
        by a b false x = (λ k. nat_lt a m && (x k && nat_eq j b)) ∙ none (nat_lt a m) ∙ sym (ap (λ t. t && nat_eq j b) x)
          where
            none : (x : Bool) → (x && false) ≡ false
            none true = refl
            none false = refl

    pub starts : (k j : ℕ) → k ≤ j → j < k + suc lead → j < count → Goes large ring (starts_of inward pads m j) (record (base k) { out = none_out })
    starts k j low high here = (starts_go k j low high here pads m).0

    pub started : (k j : ℕ) → k ≤ j → j < k + suc lead → j < count → behind (starts_of inward pads m j) (record (base k) { out = none_out }) ≡ record (base k) { out = news inward outward (suc lead) j }
    started k j low high here = (starts_go k j low high here pads m).1 ∙ ap (λ (o : ℕ → ℕ → Bool). record (base k) { out = o }) (all_news j)

    pub quiet_in : (k j i h : ℕ) → k ≤ j → j < k + suc lead → j < count → inward i ≡ true → k ≤ h → h < j → AvoidsAll large ring (starts_of inward pads m j) (record (base k) { out = none_out }) (ring i h)
    quiet_in k j i h low high here p from lt =
        starts_avoid k j low high here pads m (record (base k) { out = none_out }) (ring i h) (λ a la q.
        start_avoids a j i h here (omega (arith, here, lt)) q (inl p) (λ e. (let same = facts.apart h j (omega (arith, lt)) (omega (arith, high, from)) e.1 in omega (arith, same, lt))))

    pub quiet_out : (k j i h : ℕ) → k ≤ j → j < k + suc lead → j < count → outward i ≡ true → h < k → k ≤ h + suc lead → AvoidsAll large ring (starts_of inward pads m j) (record (base k) { out = none_out }) (ring i h)
    quiet_out k j i h low high here p lt to =
        starts_avoid k j low high here pads m (record (base k) { out = none_out }) (ring i h) (λ a la q.
        start_avoids a j i h here (omega (arith, here, lt, low)) q (inr p) (λ e. facts.either i (ap inward e.0 ∙ q) p))

    -- the first run does nothing there
    pub still : (j : ℕ) → first_list ring (starts_of inward pads m j) ≡ []
    still j = by m
      where
        knowns_none : (n : ℕ) → first_list ring (knowns n) ≡ []
        knowns_none zero = refl
        knowns_none (suc n) = knowns_none n

        by : (m : ℕ) → first_list ring (starts_of inward pads m j) ≡ []
        by zero = refl
        by (suc m) = first-append ring (starts_of inward pads m j) (if inward m then knowns (pads m j) ++ Ahead m j ∷ [] else []) ∙ (λ i. by m i ++ one (inward m) i)
          where
            one : (x : Bool) → first_list ring (if x then knowns (pads m j) ++ Ahead m j ∷ [] else []) ≡ []
            one true = first-append ring (knowns (pads m j)) (Ahead m j ∷ []) ∙ ap (λ l. l ++ []) (knowns_none (pads m j))
            one false = refl
