-- A box that goes to one half of a fast memref, and comes back: the relation before and after, however its cells were
-- copied.
use Rattle.std.proofs.Common.{◌≡◌, ◌≢◌, inl, inr, ℕ, zero, suc, ◌<◌, pos, List, [], ◌∷◌, length, get_or, refl, sym, ap, ◌∙◌, subst, arith, Bool, true, false, map}
use Rattle.std.specs.Prelude.{◌&&◌, Option, Some, None, is_some, nat_eq, if◌then◌else◌}
use Rattle.std.proofs.lemmas.Bool.{eqb-true, eqb-false, ne_eqb}
use Rattle.affine_ast.specs.declared.name.Name.{Name}
use Rattle.bus_model.specs.declared.transfer.Transfer.{Transfer}
use Rattle.bus_model.specs.Places.{slow_place}
use Rattle.prompt_semantics.specs.Device.{Device, is_away}
use Rattle.boxes.specs.Every.{Every}
use Rattle.box_run_laws.specs.Layouts.{Numbering, renumbered, Cell, Copy, Layout, Mixed}
use Rattle.box_run_laws.specs.Owned.{IsClear, IsCopied, Sound, Related}
use Rattle.box_run_laws.specs.Boxes.{found, cell_at, in_box, Half, boxed_beside, between, Beside, Distinct, Allows}
use Rattle.box_run_laws.proofs.Tests.{each_two}

-- ---- which cell holds a slow place
pub found_at : (place : ℕ → ℕ) (n k : ℕ) → Distinct place n → k < n → found place n (place k) ≡ Some k
found_at place zero k d h = absurd (omega (arith, h))
found_at place (suc n) k d h = by (nat_eq (place n) (place k)) refl (λ less. found_at place n k (λ i j a b. d i j (omega (arith, a)) (omega (arith, b))) less)
  where
    by : (t : Bool) → nat_eq (place n) (place k) ≡ t → (k < n → found place n (place k) ≡ Some k) → (if t then Some n else found place n (place k)) ≡ Some k
    by true t more = ap Some (d n k (omega arith) h (eqb-true (place n) (place k) t))
    by false t more = let ne = eqb-false (place n) (place k) t in more (less (λ e. ne (ap place (sym e))))
      where
        less : k ≢ n → k < n
        less ne = omega (arith, h, ne)

pub record FoundIn (place : ℕ → ℕ) (n p k : ℕ) : Type 0 where
  pub less : k < n
  pub is : place k ≡ p

pub found_is : (place : ℕ → ℕ) (n p k : ℕ) → found place n p ≡ Some k → FoundIn place n p k
found_is place zero p k e = let f : None ≡ Some k = e in absurd (cc)
found_is place (suc n) p k e = by (nat_eq (place n) p) refl e (λ f. found_is place n p k f)
  where
    by : (t : Bool) → nat_eq (place n) p ≡ t → (if t then Some n else found place n p) ≡ Some k → (found place n p ≡ Some k → FoundIn place n p k) → FoundIn place (suc n) p k
    by true t e more = let same : n ≡ k = cc in record { less = omega (arith, same); is = ap place (sym same) ∙ eqb-true (place n) p t }
    by false t e more = let f = more e in let l = f.less in record { less = omega (arith, l); is = f.is }

pub found_none : (place : ℕ → ℕ) (n p : ℕ) → found place n p ≡ None → (k : ℕ) → k < n → place k ≢ p
found_none place zero p e k h same = omega (arith, h)
found_none place (suc n) p e k h same = by (nat_eq (place n) p) refl e (λ f l. found_none place n p f k l same)
  where
    by : (t : Bool) → nat_eq (place n) p ≡ t → (if t then Some n else found place n p) ≡ None → (found place n p ≡ None → k < n → ⊥) → ⊥
    by true t e more = let f : Some n ≡ None = e in absurd (cc)
    by false t e more = let ne = eqb-false (place n) p t in more e (less (λ i. ne (ap place (sym i) ∙ same)))
      where
        less : k ≢ n → k < n
        less ne = omega (arith, h, ne)

pub not_found : (place : ℕ → ℕ) (n p : ℕ) → ((k : ℕ) → k < n → place k ≢ p) → found place n p ≡ None
not_found place n p h = by (found place n p) refl
  where
    by : (o : Option ℕ) → found place n p ≡ o → found place n p ≡ None
    by (Some k) e = let f = found_is place n p k e in absurd (h k f.less f.is)
    by None e = e

-- the second device is the first with the cells put back to their slow places
pub record PutBack (own : Name → Bool) (b : Half) (place : ℕ → ℕ) (y z : Device) : Type 0 where
  pub registers : (x : Name) → own x ≡ true → z.state.registers x ≡ y.state.registers x
  pub halves : z.halves ≡ y.halves
  pub copied : (k : ℕ) → k < b.count → get_or z.state.slow (place k) (pos 0) ≡ get_or (y.halves b.number b.half) k (pos 0)
  pub others : (p : ℕ) → ((k : ℕ) → k < b.count → place k ≢ p) → get_or z.state.slow p (pos 0) ≡ get_or y.state.slow p (pos 0)
  pub long : length z.state.slow ≡ length y.state.slow
  pub outstanding : z.outstanding ≡ y.outstanding

-- ---- the layout with the box
pub beside_none : (nu : Numbering) (b : Half) → Beside nu b [] []
beside_none nu b = record { new_extra = tt; here = refl; new_ahead = tt; elsewhere = tt }

module _ (b : Half) (place : ℕ → ℕ) (es : List Transfer) (rest : List Copy) where
  abbrev rho : Layout
  rho = boxed_beside b place es rest

  abbrev cell_of : ℕ → Cell
  cell_of k = record { number = b.number; half = b.half; cell = k }

  -- a place that lives in a cell
  pub record LivesAs (p : ℕ) (c : Cell) (k : ℕ) : Type 0 where
    pub less : k < b.count
    pub place_is : place k ≡ p
    pub cell_is : c ≡ cell_of k

  pub lives_as : (p : ℕ) (c : Cell) → rho.lives p ≡ Some c → (k : ℕ) × LivesAs p c k
  lives_as p c e = by (found place b.count p) refl e
    where
      by : (o : Option ℕ) → found place b.count p ≡ o → cell_at b.number b.half o ≡ Some c → (k : ℕ) × LivesAs p c k
      by (Some k) f e =
          let g = found_is place b.count p k f in
          let same : cell_of k ≡ c = cc in
          (k, record { less = g.less; place_is = g.is; cell_is = sym same })
      by None f e = let g : None ≡ Some c = e in absurd (cc)

  pub lives_at : Distinct place b.count → (k : ℕ) → k < b.count → rho.lives (place k) ≡ Some (cell_of k)
  lives_at d k h = ap (cell_at b.number b.half) (found_at place b.count k d h)

  lives_none : (p : ℕ) → rho.lives p ≡ None → found place b.count p ≡ None
  lives_none p e = by (found place b.count p) refl e
    where
      by : (o : Option ℕ) → found place b.count p ≡ o → cell_at b.number b.half o ≡ None → found place b.count p ≡ None
      by (Some k) f e = let g : Some (cell_of k) ≡ None = e in absurd (cc)
      by None f e = f

  if_same : (t u : Bool) → u ≡ false → (if t then u else false) ≡ false
  if_same true u e = e
  if_same false u e = refl

  pub sound_boxed : (nu : Numbering) (total : ℕ) → Distinct place b.count → ((k : ℕ) → k < b.count → place k < total) → ((n : ℕ) → nu.fasts n ≢ b.number) → Beside nu b es rest → Sound nu rho total
  sound_boxed nu total d within new beside = record {
    inside = λ p c e. let l = lives_as p c e in subst (λ q. q < total) l.1.place_is (within l.0 l.1.less);
    alone = λ p q c e f. let l = lives_as p c e in let m = lives_as q c f in
        let same : l.0 ≡ m.0 = ap (λ (c : Cell). c.cell) (sym l.1.cell_is ∙ m.1.cell_is) in
        sym l.1.place_is ∙ ap place same ∙ m.1.place_is;
    new = λ p n c e k. let l = lives_as p c e in new n (k ∙ ap (λ (c : Cell). c.number) l.1.cell_is);
    fresh = λ p e. if_same b.writes (in_box place b.count p) (ap is_some (lives_none p e));
    new_extra = beside.new_extra;
    here = λ p c e. let l = lives_as p c e in subst (λ (c : Cell). is_away es c.number c.half ≡ false) (sym l.1.cell_is) beside.here;
    new_ahead = beside.new_ahead;
    elsewhere = λ p c e. let l = lives_as p c e in subst (λ (c : Cell). Every (λ (a : Copy). (nat_eq c.number a.number && nat_eq c.half a.half) ≡ false) rest) (sym l.1.cell_is) beside.elsewhere;
  }

  -- a transfer that may be under way
  missed : (t : Transfer) → Allows b place t → IsClear rho t
  missed t (inl k) = inl (k.1, λ e l. ap (λ s. if s then in_box place b.count (slow_place t e) else false) k.0)
  missed t (inr h) = inr (λ e l. ap (cell_at b.number b.half) (not_found place b.count (slow_place t e) (λ k m same. h e l k m (sym same))))

  all_missed : (ts : List Transfer) → Every (Allows b place) ts → Every (IsClear rho) ts
  all_missed [] h = tt
  all_missed (t ∷ ts) h = (missed t h.0, all_missed ts h.1)

  -- and the other way
  still_allowed : (t : Transfer) → Distinct place b.count → IsClear rho t → Allows b place t
  still_allowed t d (inl k) = by b.writes refl
    where
      by : (w : Bool) → b.writes ≡ w → Allows b place t
      by false e = inl (e, k.0)
      by true e = inr (λ j l i m same.
          let old : rho.stale (place i) ≡ true = ap (λ s. if s then in_box place b.count (place i) else false) e ∙ ap is_some (found_at place b.count i d m) in
          let new : rho.stale (place i) ≡ false = ap rho.stale (sym same) ∙ k.1 j l in
          let f : true ≡ false = sym old ∙ new in
          cc)
  still_allowed t d (inr k) = inr (λ j l i m same.
      let f : Some (cell_of i) ≡ None = sym (lives_at d i m) ∙ ap rho.lives (sym same) ∙ k j l in
      cc)

  pub all_allowed : (ts : List Transfer) → Distinct place b.count → Every (IsClear rho) ts → Every (Allows b place) ts
  all_allowed [] d h = tt
  all_allowed (t ∷ ts) d h = (still_allowed t d h.0, all_allowed ts d h.1)

  all_clear : (ts : List Transfer) → Every (IsClear (between es rest)) ts
  all_clear [] = tt
  all_clear (t ∷ ts) = (inr (λ e l. refl), all_clear ts)

  module _ (own : Name → Bool) (nu : Numbering) (total : ℕ) where
    -- the second device is the first with the half in use: its cells hold what their slow places do, but those that are unset
    pub record Opened (u : ℕ → Bool) (y z : Device) : Type 0 where
      pub registers : (x : Name) → own x ≡ true → z.state.registers x ≡ y.state.registers x
      pub slow : z.state.slow ≡ y.state.slow
      pub others : (m j : ℕ) → nat_eq b.number m ≡ false → z.halves m j ≡ y.halves m j
      pub long : length (z.halves b.number b.half) ≡ b.count
      pub copied : (k : ℕ) → k < b.count → u (place k) ≡ false → get_or (z.halves b.number b.half) k (pos 0) ≡ get_or y.state.slow (place k) (pos 0)
      pub outstanding : z.outstanding ≡ y.outstanding
      pub beside : Every (λ (a : Copy). z.halves a.number a.half ≡ y.halves a.number a.half) rest

    pub opened : (new : (n : ℕ) → nu.fasts n ≢ b.number) (u : ℕ → Bool) (d y z : Device) → Every (Allows b place) d.outstanding → Related own nu (between es rest) (λ p. false) total d y → Opened u y z → Related own nu rho u total d z
    opened new u d y z miss s o = record {
      registers = λ n h. s.registers n h ∙ sym (o.registers n h);
      slow = λ p h. s.slow p refl ∙ ap (λ l. get_or l p (pos 0)) (sym o.slow);
      old_halves = λ n h. s.old_halves n h ∙ sym (o.others (nu.fasts n) h (ne_eqb b.number (nu.fasts n) (λ e. new n (sym e))));
      room = λ p c e. let l = lives_as p c e in
          subst (λ (c : Cell). c.cell < length (z.halves c.number c.half)) (sym l.1.cell_is) (subst (λ n. l.0 < n) (sym o.long) l.1.less);
      cells = λ p c e f. let l = lives_as p c e in
          subst (λ (c : Cell). get_or (z.halves c.number c.half) c.cell (pos 0) ≡ get_or d.state.slow p (pos 0)) (sym l.1.cell_is)
          (o.copied l.0 l.1.less (ap u l.1.place_is ∙ f) ∙ ap (λ q. get_or y.state.slow q (pos 0)) l.1.place_is ∙ sym (s.slow p refl));
      old_long = s.old_long;
      long = ap length o.slow ∙ s.long;
      transfers = subst (Mixed (map (renumbered nu) d.outstanding) es) (sym o.outstanding) s.transfers;
      clear = all_missed d.outstanding miss;
      ahead = each_two (λ (a : Copy). z.halves a.number a.half ≡ y.halves a.number a.half) (IsCopied d.state.slow y.halves) (IsCopied d.state.slow z.halves)
          (λ a e k. record { room = ap length e ∙ k.room; same = λ i l. ap (λ l. get_or l i (pos 0)) e ∙ k.same i l }) rest o.beside s.ahead;
    }

    stale_none : b.writes ≡ false → (p : ℕ) → rho.stale p ≡ false
    stale_none e p = ap (λ t. if t then in_box place b.count p else false) e

    stale_out : (p : ℕ) → found place b.count p ≡ None → rho.stale p ≡ false
    stale_out p e = if_same b.writes (in_box place b.count p) (ap is_some e)

    -- the box is done with, and nothing is put back
    pub closed_kept : b.writes ≡ false → (u : ℕ → Bool) (d y : Device) → Related own nu rho u total d y → Related own nu (between es rest) (λ p. false) total d y
    closed_kept keeps u d y s = record {
      registers = s.registers;
      slow = λ p h. s.slow p (stale_none keeps p);
      old_halves = s.old_halves;
      room = λ p c e. absurd (never c e);
      cells = λ p c e f. absurd (never c e);
      old_long = s.old_long;
      long = s.long;
      transfers = s.transfers;
      clear = all_clear d.outstanding;
      ahead = s.ahead;
    }
      where
        never : (c : Cell) → None ≡ Some c → ⊥
        never c e = cc

    -- all cells are set and put back
    pub closed_written : Distinct place b.count → (u : ℕ → Bool) (d y z : Device) → ((k : ℕ) → k < b.count → u (place k) ≡ false) → Related own nu rho u total d y → PutBack own b place y z → Related own nu (between es rest) (λ p. false) total d z
    closed_written distinct u d y z set s o = record {
      registers = λ n h. s.registers n h ∙ sym (o.registers n h);
      slow = λ p h. slow p (found place b.count p) refl;
      old_halves = λ n h. s.old_halves n h ∙ ap (λ f. f (nu.fasts n) h) (sym o.halves);
      room = λ p c e. absurd (never c e);
      cells = λ p c e f. absurd (never c e);
      old_long = s.old_long;
      long = o.long ∙ s.long;
      transfers = subst (Mixed (map (renumbered nu) d.outstanding) es) (sym o.outstanding) s.transfers;
      clear = all_clear d.outstanding;
      ahead = subst (λ f. Every (IsCopied d.state.slow f) rest) (sym o.halves) s.ahead;
    }
      where
        never : (c : Cell) → None ≡ Some c → ⊥
        never c e = cc

        slow : (p : ℕ) (f : Option ℕ) → found place b.count p ≡ f → get_or d.state.slow p (pos 0) ≡ get_or z.state.slow p (pos 0)
        slow p (Some k) f =
            let g = found_is place b.count p k f in
            subst (λ q. get_or d.state.slow q (pos 0) ≡ get_or z.state.slow q (pos 0)) g.is
            (sym (s.cells (place k) (cell_of k) (lives_at distinct k g.less) (set k g.less)) ∙ sym (o.copied k g.less))
        slow p None f = s.slow p (stale_out p f) ∙ sym (o.others p (λ k l. found_none place b.count p f k l))
