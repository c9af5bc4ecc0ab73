-- Placements that stay single in both runs, beside the ring's transfers.
use Rattle.std.proofs.Common.{◌≡◌, ◌⊎◌, inl, inr, ℕ, ◌+◌, ◌<◌, ◌≤◌, List, [], ◌∷◌, ◌++◌, refl, sym, ap, ◌∙◌, subst, Bool, true, false}
use Rattle.std.specs.Prelude.{◌&&◌, ◌||◌, nat_eq, nat_le, nat_lt, if◌then◌else◌, None}
use Rattle.std.proofs.lemmas.Bool.{eqb-true, eqb-false, eq-eqb, and_parts}
use Rattle.affine_ast.specs.declared.types.Element.{Element}
use Rattle.bus_model.specs.declared.transfer.Transfer.{Transfer}
use Rattle.bus_model.specs.Places.{slow_place}
use Rattle.direct_meaning.specs.Actions.{half_cells}
use Rattle.direct_meaning.specs.Action.{Place, Slow, Fast, Outside, Allocates, AllocatesTags, Releases, ReleasesTags, Starts}
use Rattle.prompt_semantics.specs.Device.{without}
use Rattle.step_runs.specs.Stage.{Half, Stage, moved_to, place_in, image, slow_end, fast_end, is_target}
use Rattle.step_runs.specs.Steps.{Each, Both, cells_of, behind, after_both, tag_meets, half_meets, race_meets, Clear, Sound, CanCopy, CanStart, CanWait, AllowedBoth, AvoidsStart, Goes}
use Rattle.ring_runs.specs.Template.{written}
use Rattle.step_runs.proofs.Memory.{target_hit}
use Rattle.step_runs.proofs.Frame.{or_cases}
use Rattle.ring_runs.proofs.Template.{same_places}

or_left : (a b : Bool) → a ≡ true → (a || b) ≡ true
or_left a b e = ap (λ a. a || b) e

module _ (large : ℕ) (ring : ℕ → ℕ → Transfer) where
  -- a transfer of both, in any direction, and its wait
  abbrev pub carried_stage : Stage → Transfer → Stage
  carried_stage s w = record s { agrees = λ p. s.agrees p || is_target w p }

  pub carried_sound : (s : Stage) (w u : Transfer) → Sound large ring s → CanCopy large ring s w u → Sound large ring (carried_stage s w)
  carried_sound s w u ok c = record { within = λ q a. within q (or_cases (s.agrees q) (is_target w q) a); alone = ok.alone }
    where
      within : (q : Place) → (s.agrees q ≡ true) ⊎ (is_target w q ≡ true) → s.there q ≡ true
      within q (inl a) = ok.within q a
      within q (inr a) = let hit = target_hit w q a in ap s.there (sym hit.2) ∙ c.there hit.0 hit.1

  pub carried_go : (s : Stage) (w : Transfer) → Sound large ring s → s.first ≡ [] → CanCopy large ring s w (image s w) → ((a b : ℕ) → s.out a b ≡ true → AvoidsStart large ring (image s w) (ring a b))
      → Goes large ring (written s w) s × (behind (written s w) s ≡ carried_stage s w)
  carried_go s w ok idle copy avoids = (
    (ok, (refl, (copy, start)), (ok1, (refl, wait), tt)),
    ap (λ l. record s { agrees = λ p. s.agrees p || is_target w p; first = l }) (ap (λ l. without w.tag (l ++ w ∷ [])) idle ∙ ap (λ b. if b then [] else w ∷ []) (eq-eqb w.tag w.tag refl) ∙ sym idle),
  )
    where
      start : CanStart large ring s (image s w)
      start = record {
        tag = record { own = λ a b o. (avoids a b o).tag; moved = subst (Each (λ f. tag_meets (image s w) (image s f) ≡ false)) (sym idle) tt };
        half = record { own = λ a b o. (avoids a b o).half; moved = subst (Each (λ f. half_meets (image s w) (image s f) ≡ false)) (sym idle) tt };
        race = record { own = λ a b o. (avoids a b o).race; moved = subst (Each (λ f. race_meets (image s w) (image s f) ≡ false)) (sym idle) tt };
      }

      ok1 : Sound large ring (after_both (Starts w) s)
      ok1 = let c = carried_sound s w (image s w) ok copy in record { within = c.within; alone = c.alone }

      wait : CanWait large ring (after_both (Starts w) s) w.tag w.count
      wait = record {
        own = λ a b o e. (let h = (avoids a b o).tag in eqb-false (ring a b).tag (s.tag w.tag) h e);
        others = subst (Each (λ (f : Transfer). nat_eq f.tag w.tag ≡ nat_eq (s.tag f.tag) (s.tag w.tag))) (sym (ap (λ l. l ++ w ∷ []) idle)) (eq-eqb w.tag w.tag refl ∙ sym (eq-eqb (s.tag w.tag) (s.tag w.tag) refl), tt);
      }

  -- a transfer that copies in can be carried where its half is there and its slow places are the same in both
  pub can_carry_in : (s : Stage) (t : Transfer) → t.incoming ≡ true → 1 ≤ t.chunk → t.chunk ≤ t.stride
      → ((e : ℕ) → e < t.count → s.agrees (slow_end t e) ≡ true) → ((e : ℕ) → e < t.count → s.lives (slow_place t e) ≡ None) → ((e : ℕ) → e < t.count → s.there (fast_end t e) ≡ true)
      → CanCopy large ring s t (image s t)
  can_carry_in s t in_ some wide agrees lives there = record {
    some = some;
    wide = wide;
    some' = some;
    wide' = wide;
    way = refl;
    count = refl;
    same = λ e lt. ap s.agrees (ap (λ b. if b then slow_end t e else fast_end t e) in_) ∙ agrees e lt;
    there = λ e lt. ap s.there (ap (λ b. if b then fast_end t e else slow_end t e) in_) ∙ there e lt;
    sources = λ e lt.
        ap (λ b. if b then slow_end (image s t) e else fast_end (image s t) e) in_
        ∙ ap Slow (same_places t t.incoming (s.tag t.tag) (s.half t.fast t.half).number (s.half t.fast t.half).half e)
        ∙ sym (ap (place_in s) (ap (λ b. if b then slow_end t e else fast_end t e) in_) ∙ ap (moved_to (slow_place t e)) (lives e lt));
    targets = λ e lt.
        ap (λ b. if b then fast_end (image s t) e else slow_end (image s t) e) in_
        ∙ sym (ap (place_in s) (ap (λ b. if b then fast_end t e else slow_end t e) in_));
  }

  -- an allocation of both
  is_cell : (n : ℕ) (sizes : List ℕ) (q : Place) → cells_of n sizes q ≡ true → (h : ℕ) × (c : ℕ) × (q ≡ Fast n h c)
  is_cell n sizes (Slow p) e = absurd (let k : false ≡ true = e in cc)
  is_cell n sizes (Fast m h c) e = let two = and_parts (nat_eq n m) (nat_lt c (half_cells sizes)) e in (h, c, ap (λ n. Fast n h c) (sym (eqb-true n m two.0)))
  is_cell n sizes Outside e = absurd (let k : false ≡ true = e in cc)

  pub alloc_sound : (s : Stage) (n : ℕ) (element : Element) (sizes : List ℕ) → Sound large ring s → AllowedBoth large ring (Allocates n element sizes) s → Sound large ring (after_both (Allocates n element sizes) s)
  alloc_sound s n element sizes ok c = record {
    within = λ q a. within q (or_cases (s.agrees q) (cells_of n sizes q) a);
    alone = λ q p a b e. alone q p (cells_of n sizes q) refl (cells_of n sizes p) refl (or_cases (s.there q) (cells_of n sizes q) a) (or_cases (s.there p) (cells_of n sizes p) b) e;
  }
    where
      within : (q : Place) → (s.agrees q ≡ true) ⊎ (cells_of n sizes q ≡ true) → (s.there q || cells_of n sizes q) ≡ true
      within q (inl a) = or_left (s.there q) (cells_of n sizes q) (ok.within q a)
      within q (inr a) = right (s.there q) (cells_of n sizes q) a
        where
          right : (a b : Bool) → b ≡ true → (a || b) ≡ true
          right true b e = refl
          right false b e = e

      moved : (h l : ℕ) → place_in s (Fast n h l) ≡ Fast (s.fast n) h l
      moved h l = ap (λ (x : Half). Fast x.number x.half l) (c.1 h)

      half : Place → ℕ
      half (Slow p) = 0
      half (Fast n h c) = h
      half Outside = 0

      cell : Place → ℕ
      cell (Slow p) = 0
      cell (Fast n h c) = c
      cell Outside = 0

      alone : (q p : Place) (u : Bool) → cells_of n sizes q ≡ u → (v : Bool) → cells_of n sizes p ≡ v → (s.there q ≡ true) ⊎ (cells_of n sizes q ≡ true) → (s.there p ≡ true) ⊎ (cells_of n sizes p ≡ true)
          → place_in s q ≡ place_in s p → q ≡ p
      alone q p true u true v a b e =
          let x = is_cell n sizes q u in
          let y = is_cell n sizes p v in
          let same : Fast (s.fast n) x.0 x.1 ≡ Fast (s.fast n) y.0 y.1 = sym (ap (place_in s) x.2 ∙ moved x.0 x.1) ∙ e ∙ ap (place_in s) y.2 ∙ moved y.0 y.1 in
          x.2 ∙ (λ i. Fast n (ap half same i) (ap cell same i)) ∙ sym y.2
      alone q p true u false v a (inl b) e =
          let x = is_cell n sizes q u in
          absurd (c.2 p b v x.0 x.1 (sym e ∙ ap (place_in s) x.2 ∙ moved x.0 x.1))
      alone q p true u false v a (inr b) e = let k : true ≡ false = sym b ∙ v in cc
      alone q p false u true v (inl a) b e =
          let y = is_cell n sizes p v in
          absurd (c.2 q a u y.0 y.1 (e ∙ ap (place_in s) y.2 ∙ moved y.0 y.1))
      alone q p false u true v (inr a) b e = let k : true ≡ false = sym a ∙ u in cc
      alone q p false u false v (inl a) (inl b) e = ok.alone q p a b e
      alone q p false u false v (inl a) (inr b) e = let k : true ≡ false = sym b ∙ v in cc
      alone q p false u false v (inr a) b e = let k : true ≡ false = sym a ∙ u in cc

  pub alloc_go : (s : Stage) (n g count : ℕ) (element : Element) (sizes : List ℕ) → Sound large ring s → AllowedBoth large ring (Allocates n element sizes) s
      → Goes large ring (Both (Allocates n element sizes) (Allocates (s.fast n) element sizes) ∷ Both (AllocatesTags g count) (AllocatesTags (s.tag g) count) ∷ []) s
      × (behind (Both (Allocates n element sizes) (Allocates (s.fast n) element sizes) ∷ Both (AllocatesTags g count) (AllocatesTags (s.tag g) count) ∷ []) s ≡ after_both (Allocates n element sizes) s)
  alloc_go s n g count element sizes ok c = ((ok, (refl, c), (alloc_sound s n element sizes ok c, (refl, tt), tt)), refl)

  pub release_go : (s : Stage) (n g count : ℕ) (element : Element) (sizes : List ℕ) → Sound large ring s
      → Clear large ring s (λ o. nat_eq o.fast (s.fast n)) → Clear large ring s (λ o. nat_le (s.tag g) o.tag && nat_lt o.tag (s.tag g + count))
      → Goes large ring (Both (Releases n element sizes) (Releases (s.fast n) element sizes) ∷ Both (ReleasesTags g count) (ReleasesTags (s.tag g) count) ∷ []) s
  release_go s n g count element sizes ok fast tags =
      ((ok, (refl, fast), (record { within = ok.within; alone = ok.alone }, (refl, record { own = tags.own; moved = tags.moved }), tt)))
