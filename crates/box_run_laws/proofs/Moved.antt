-- Actions of the old run under new numbers, with slow places moved to cells of fast memory, do what the old ones do. No
-- syntax is involved, and nothing is said of ranks, boxes, or how a cell came to hold what it holds.
use Rattle.std.proofs.Common.{◌≡◌, ◌≢◌, inl, inr, ℕ, suc, ◌+◌, ◌-◌, ◌*◌, ◌<◌, ◌≤◌, ℤ, pos, negsuc, List, [], ◌∷◌, ◌++◌, length, length-set, get_or, refl, sym, ap, ◌∙◌, subst, arith, Bool, true, false, map}
use Rattle.std.specs.Prelude.{◌&&◌, Option, Some, None, nat_eq, nat_lt, nat_le, slice_set, if◌then◌else◌}
use Rattle.std.proofs.lemmas.Nat.{mul-add-lt}
use Rattle.std.proofs.lemmas.List.{get_or-set_same, get_or-set_other, map-append}
use Rattle.std.proofs.lemmas.Bool.{eqb-true, eqb-false, eq-eqb, ne_eqb, and_parts, leb-true, ltb-true}
use Rattle.affine_ast.specs.declared.name.Name.{Name}
use Rattle.affine_ast.proofs.Names.{put-both}
use Rattle.int_ops.specs.Operation.{operation}
use Rattle.int_ops.specs.Cast.{cast_value}
use Rattle.bus_model.specs.declared.step.FaultKind.{FaultKind}
use Rattle.bus_model.specs.declared.step.FaultKind.TheVariants.{Touched, Race, Tag, Shape}
use Rattle.bus_model.specs.declared.transfer.Transfer.{Transfer}
use Rattle.bus_model.specs.Places.{slow_place}
use Rattle.bus_model.specs.Copies.{moved_in, moved_out}
use Rattle.direct_meaning.specs.Transfers.{meets, overlap}
use Rattle.direct_meaning.specs.Action.{Home, SlowMemref, FastMemref, TagMemref, Place, Slow, Fast, Outside, Operand, Number, Register, Action, Known, Sets, Loads, Stores, RawLoads, RawStores, Operates, Converts, Allocates, Releases, AllocatesTags, ReleasesTags, Starts, Waits, Faults, Returns}
use Rattle.direct_meaning.specs.Static.{product, within, row_major, cell_in, slow_at, fast_at, half_place, place_at}
use Rattle.direct_meaning.specs.Direct.{Outcome, End, Fault, then_do, folded, keep, write, read, raw_place, keep_result, direct_step}
use Rattle.prompt_semantics.specs.Device.{Device, put_half, put_halves, fresh_half, is_away, has_away, is_started, has_started, load_races, store_races, start_races, copied_in, copied_out, recorded, started, record_of, without}
use Rattle.prompt_semantics.proofs.Laws.{half_same, half_other, halves_other}
use Rattle.prompt_semantics.specs.Prompt.{carried, refused, prompt_load, prompt_store, prompt_start, wait_on, acts}
use Rattle.box_run_laws.specs.Roomy.{roomy, roomy_step}
use Rattle.boxes.specs.Every.{Every}
use Rattle.box_run_laws.specs.Layouts.{Numbering, Renumbers, renumbered, renumbered_if, Cell, Copy, Layout, Mixed, moved_to, place_moved, moved, unset_but, still_unset, unset_behind}
use Rattle.box_run_laws.specs.Owned.{IsClear, Avoids, MissesCopy, IsCopied, IsNew, Sound, Related, OwnOperand, HomeWhere, FreeToLoad, FreeToStore, OwnLoad, OwnStore, InOrder, OwnAction, Ends}
use Rattle.box_run_laws.proofs.Tests.{any_none, none_map, same_eq, meets_none, away_same, has_away_same, started_same, has_started_same, load_races_same, store_races_same, start_races_same, renumbered_record, record_same, without_same, each_without, each_two, each_three, each_append}
use Rattle.box_run_laws.proofs.AtOnce.{in_same, both_set, out_same, out_else, out_long}
use Rattle.box_run_laws.proofs.Mixes.{any_own, record_own, without_own, mixed_more}

-- ---- two outcomes
pub ends_then : {S T : Type 0} (R Q : S → T → Type 0) (a : Outcome S) (b : Outcome T) (g : S → Outcome S) (h : T → Outcome T)
    → Ends R a b → ((d : S) (y : T) → R d y → Ends Q (g d) (h y)) → Ends Q (then_do a g) (then_do b h)
ends_then R Q (End d) (End y) g h s k = k d y s
ends_then R Q (Fault i d) (Fault j y) g h s k = s
ends_then R Q (End d) (Fault j y) g h s k = absurd s
ends_then R Q (Fault i d) (End y) g h s k = absurd s

pub ends_weaker : {S T : Type 0} (R Q : S → T → Type 0) (a : Outcome S) (b : Outcome T) → ((d : S) (y : T) → R d y → Q d y) → Ends R a b → Ends Q a b
ends_weaker R Q (End d) (End y) h s = h d y s
ends_weaker R Q (Fault i d) (Fault j y) h s = s
ends_weaker R Q (End d) (Fault j y) h s = absurd s
ends_weaker R Q (Fault i d) (End y) h s = absurd s

-- neither is refused
ends_both : (Q : Device → Device → Type 0) (b c : Bool) (k j : FaultKind) (d y : Device) (o p : Outcome Device) → b ≡ false → c ≡ false → Ends Q o p → Ends Q (refused b k d o) (refused c j y p)
ends_both Q b c k j d y o p e f h = subst (λ b. Ends Q (refused b k d o) (refused c j y p)) (sym e) (subst (λ c. Ends Q o (refused c j y p)) (sym f) h)

-- both are refused, or neither
ends_same : (Q : Device → Device → Type 0) (b c : Bool) (k : FaultKind) (d y : Device) (o p : Outcome Device) → c ≡ b → Ends Q o p → Ends Q (refused b k d o) (refused c k y p)
ends_same Q b c k d y o p e h = subst (λ c. Ends Q (refused b k d o) (refused c k y p)) (sym e) (by b)
  where
    by : (b : Bool) → Ends Q (refused b k d o) (refused b k y p)
    by true = refl
    by false = h

-- ---- places of raw accesses
row_lt : (a w b h : ℕ) → a < h → b < w → a * w + b < h * w
row_lt a w b h p q = let m = mul-add-lt a w b h p q in omega (arith, m)

within_less : (z : ℤ) (n k : ℕ) → within z n ≡ Some k → k < n
within_less (pos j) n k e = by (nat_lt j n) refl e
  where
    by : (t : Bool) → nat_lt j n ≡ t → (if t then Some j else None) ≡ Some k → k < n
    by true t e = let same : j ≡ k = cc in subst (λ i. i < n) same (ltb-true j n t)
    by false t e = absurd (cc)
within_less (negsuc j) n k e = let z : None ≡ Some k = e in absurd (cc)

pub cell_less : (sizes : List ℕ) (zs : List ℤ) (k : ℕ) → cell_in sizes zs ≡ Some k → k < product sizes
cell_less [] [] k e = let same : 0 ≡ k = cc in omega (arith, same)
cell_less [] (z ∷ zs) k e = let f : None ≡ Some k = e in absurd (cc)
cell_less (n ∷ ns) [] k e = let f : None ≡ Some k = e in absurd (cc)
cell_less (n ∷ ns) (z ∷ zs) k e = by (within z n) (cell_in ns zs) refl refl (λ j f. cell_less ns zs j f) e
  where
    by : (a b : Option ℕ) → within z n ≡ a → cell_in ns zs ≡ b → ((j : ℕ) → cell_in ns zs ≡ Some j → j < product ns) → row_major a (product ns) b ≡ Some k → k < n * product ns
    by (Some i) (Some j) f g more e =
        let same : i * product ns + j ≡ k = cc in
        subst (λ k. k < n * product ns) same (row_lt i (product ns) j n (within_less z n i f) (more j g))
    by (Some i) None f g more e = let h : None ≡ Some k = e in absurd (cc)
    by None b f g more e = let h : None ≡ Some k = e in absurd (cc)

some_none : {A : Type 0} (o : Option A) (a : A) → o ≡ Some a → o ≡ None → ⊥
some_none o a e f = let k : Some a ≡ None = sym e ∙ f in cc

module _ (own : Name → Bool) (nu : Numbering) (is : Renumbers nu) (rho : Layout) (total : ℕ) (sound : Sound nu rho total) (filler : ℤ) where
  abbrev R : (ℕ → Bool) → Device → Device → Type 0
  R u d y = Related own nu rho u total d y

  -- ---- the tests of the new run
  extra_away : (n h : ℕ) → is_away rho.extra (nu.fasts n) h ≡ false
  extra_away n h = any_none (IsNew nu) (λ t. nat_eq t.fast (nu.fasts n) && nat_eq t.half h) (λ t k. ap (λ b. b && nat_eq t.half h) (ne_eqb t.fast (nu.fasts n) (λ e. k.1 n (sym e)))) rho.extra sound.new_extra

  extra_has_away : (n : ℕ) → has_away rho.extra (nu.fasts n) ≡ false
  extra_has_away n = any_none (IsNew nu) (λ t. nat_eq t.fast (nu.fasts n)) (λ t k. ne_eqb t.fast (nu.fasts n) (λ e. k.1 n (sym e))) rho.extra sound.new_extra

  extra_started : (n : ℕ) → is_started rho.extra (nu.tags n) ≡ false
  extra_started n = any_none (IsNew nu) (λ t. nat_eq t.tag (nu.tags n)) (λ t k. ne_eqb t.tag (nu.tags n) (λ e. k.0 n (sym e))) rho.extra sound.new_extra

  extra_range : (first count : ℕ) → InOrder own nu first count → has_started rho.extra (nu.tags first) count ≡ false
  extra_range first count h = any_none (IsNew nu) (λ t. nat_le (nu.tags first) t.tag && nat_lt t.tag (nu.tags first + count)) (λ t k. by t k (nat_le (nu.tags first) t.tag && nat_lt t.tag (nu.tags first + count)) refl) rho.extra sound.new_extra
    where
      by : (t : Transfer) → IsNew nu t → (b : Bool) → (nat_le (nu.tags first) t.tag && nat_lt t.tag (nu.tags first + count)) ≡ b → b ≡ false
      by t k false e = refl
      by t k true e =
          let two = and_parts (nat_le (nu.tags first) t.tag) (nat_lt t.tag (nu.tags first + count)) e in
          let low : nu.tags first ≤ t.tag = leb-true (nu.tags first) t.tag two.0 in
          let high : t.tag < nu.tags first + count = ltb-true t.tag (nu.tags first + count) two.1 in
          let at : nu.tags (first + (t.tag - nu.tags first)) ≡ nu.tags first + (t.tag - nu.tags first) = h (t.tag - nu.tags first) (omega (arith, low, high)) in
          absurd (k.0 (first + (t.tag - nu.tags first)) (omega (arith, at, low)))

  -- a cell in which a place lives is here, and no transfer of the old run meets the place
  cell_here : (u : ℕ → Bool) (d y : Device) (p : ℕ) (c : Cell) → R u d y → rho.lives p ≡ Some c → is_away y.outstanding c.number c.half ≡ false
  cell_here u d y p c s e =
      any_own (λ t. nat_eq t.fast c.number && nat_eq t.half c.half) (map (renumbered nu) d.outstanding) rho.extra y.outstanding s.transfers (sound.here p c e)
      ∙ none_map (λ t. nat_eq t.fast c.number && nat_eq t.half c.half) (renumbered nu) (λ t. ap (λ b. b && nat_eq t.half c.half) (ne_eqb (nu.fasts t.fast) c.number (λ k. sound.new p t.fast c e k))) d.outstanding

  load_clear : (p : ℕ) (c : Cell) (t : Transfer) → rho.lives p ≡ Some c → IsClear rho t → (if t.incoming then false else meets t p) ≡ false
  load_clear p c t e (inl k) = ap (λ b. if b then false else meets t p) k.0
  load_clear p c t e (inr k) = ap (λ m. if t.incoming then false else m) (meets_none t p (λ j l same. some_none (rho.lives p) c e (ap rho.lives (sym same) ∙ k j l))) ∙ both t.incoming
    where
      both : (b : Bool) → (if b then false else false) ≡ false
      both true = refl
      both false = refl

  store_clear : (p : ℕ) (c : Cell) (t : Transfer) → rho.lives p ≡ Some c → rho.stale p ≡ true → IsClear rho t → meets t p ≡ false
  store_clear p c t e old (inl k) = meets_none t p (λ j l same. let a : true ≡ false = sym old ∙ ap rho.stale (sym same) ∙ k.1 j l in cc)
  store_clear p c t e old (inr k) = meets_none t p (λ j l same. some_none (rho.lives p) c e (ap rho.lives (sym same) ∙ k j l))

  old_load : (u : ℕ → Bool) (d y : Device) (p : ℕ) (c : Cell) → R u d y → rho.lives p ≡ Some c → load_races d.outstanding p ≡ false
  old_load u d y p c s e = any_none (IsClear rho) (λ t. (if t.incoming then false else meets t p)) (λ t k. load_clear p c t e k) d.outstanding s.clear

  old_store : (u : ℕ → Bool) (d y : Device) (p : ℕ) (c : Cell) → R u d y → rho.lives p ≡ Some c → rho.stale p ≡ true → store_races d.outstanding p ≡ false
  old_store u d y p c s e old = any_none (IsClear rho) (λ t. meets t p) (λ t k. store_clear p c t e old k) d.outstanding s.clear

  -- the places of a transfer aren't behind
  not_stale : (t : Transfer) → IsClear rho t → (e : ℕ) → e < t.count → rho.stale (slow_place t e) ≡ false
  not_stale t (inl k) e l = k.1 e l
  not_stale t (inr k) e l = sound.fresh (slow_place t e) (k e l)

  -- a transfer out has no place that lives in fast memory
  out_clear : (t : Transfer) → IsClear rho t → t.incoming ≡ false → (e : ℕ) → e < t.count → rho.lives (slow_place t e) ≡ None
  out_clear t (inl k) out e l = let a : true ≡ false = sym k.0 ∙ out in absurd (cc)
  out_clear t (inr k) out e l = k e l

  -- ---- what both runs do alike
  same_read : (u : ℕ → Bool) (d y : Device) (x : Operand) → R u d y → OwnOperand own nu x → read d.state.registers x ≡ read y.state.registers x
  unfolding read
  same_read u d y (Number z) s h = refl
  same_read u d y (Register n) s h = s.registers n h

  same_subscripts : (u : ℕ → Bool) (d y : Device) (xs : List Operand) → R u d y → Every (OwnOperand own nu) xs → map (read d.state.registers) xs ≡ map (read y.state.registers) xs
  same_subscripts u d y [] s h = refl
  same_subscripts u d y (x ∷ xs) s h = λ i. same_read u d y x s h.0 i ∷ same_subscripts u d y xs s h.1 i

  kept : (u : ℕ → Bool) (d y : Device) (r : Name) (z z' : ℤ) → z ≡ z' → R u d y → R u (record d { state = keep r z d.state }) (record y { state = keep r z' y.state })
  kept u d y r z z' e s = record {
    registers = λ n h. put-both d.state.registers y.state.registers r z z' n e (s.registers n h);
    slow = s.slow;
    old_halves = s.old_halves;
    room = s.room;
    cells = s.cells;
    old_long = s.old_long;
    long = s.long;
    transfers = s.transfers;
    clear = s.clear;
    ahead = s.ahead;
  }

  -- halves of the old run, under their new numbers, that both runs change alike
  halves_alike : (u : ℕ → Bool) (d y : Device) (old halves : ℕ → ℕ → List ℤ) → ((n h : ℕ) → old n h ≡ halves (nu.fasts n) h)
      → ((p : ℕ) (c : Cell) → rho.lives p ≡ Some c → halves c.number c.half ≡ y.halves c.number c.half)
      → ((a : Copy) → ((n : ℕ) → nu.fasts n ≢ a.number) → halves a.number a.half ≡ y.halves a.number a.half) → R u d y → R u (record d { halves = old }) (record y { halves = halves })
  halves_alike u d y old halves same still ahead s = record {
    registers = s.registers;
    slow = s.slow;
    old_halves = same;
    room = λ p c e. subst (λ l. c.cell < length l) (sym (still p c e)) (s.room p c e);
    cells = λ p c e f. ap (λ l. get_or l c.cell (pos 0)) (still p c e) ∙ s.cells p c e f;
    old_long = s.old_long;
    long = s.long;
    transfers = s.transfers;
    clear = s.clear;
    ahead = each_two (λ (a : Copy). (n : ℕ) → nu.fasts n ≢ a.number) (IsCopied d.state.slow y.halves) (IsCopied d.state.slow halves) (λ a new c. record { room = ap length (ahead a new) ∙ c.room; same = λ k l. ap (λ l. get_or l k (pos 0)) (ahead a new) ∙ c.same k l }) rho.ahead sound.new_ahead s.ahead;
  }

  not_new : (p n : ℕ) (c : Cell) → rho.lives p ≡ Some c → nat_eq (nu.fasts n) c.number ≡ false
  not_new p n c e = ne_eqb (nu.fasts n) c.number (λ k. sound.new p n c e k)

  one_half : (u : ℕ → Bool) (d y : Device) (n h : ℕ) (l m : List ℤ) → l ≡ m → R u d y → R u (record d { halves = put_half d.halves n h l }) (record y { halves = put_half y.halves (nu.fasts n) h m })
  unfolding put_half
  one_half u d y n h l m e s = halves_alike u d y (put_half d.halves n h l) (put_half y.halves (nu.fasts n) h m) alike (λ p c k. half_other y.halves (nu.fasts n) h c.number c.half m (ap (λ b. b && nat_eq h c.half) (not_new p n c k)))
      (λ a new. half_other y.halves (nu.fasts n) h a.number a.half m (ap (λ b. b && nat_eq h a.half) (ne_eqb (nu.fasts n) a.number (new n)))) s
    where
      alike : (a b : ℕ) → put_half d.halves n h l a b ≡ put_half y.halves (nu.fasts n) h m (nu.fasts a) b
      alike a b = λ i. if sym (same_eq nu.fasts is.fasts n a) i && nat_eq h b then e i else s.old_halves a b i

  all_halves : (u : ℕ → Bool) (d y : Device) (n : ℕ) (l : List ℤ) → R u d y → R u (record d { halves = put_halves d.halves n l }) (record y { halves = put_halves y.halves (nu.fasts n) l })
  unfolding put_halves
  all_halves u d y n l s = halves_alike u d y (put_halves d.halves n l) (put_halves y.halves (nu.fasts n) l) alike (λ p c k. halves_other y.halves (nu.fasts n) c.number c.half l (not_new p n c k))
      (λ a new. halves_other y.halves (nu.fasts n) a.number a.half l (ne_eqb (nu.fasts n) a.number (new n))) s
    where
      alike : (a b : ℕ) → put_halves d.halves n l a b ≡ put_halves y.halves (nu.fasts n) l (nu.fasts a) b
      alike a b = λ i. if sym (same_eq nu.fasts is.fasts n a) i then l else s.old_halves a b i

  -- ---- loads
  load_at : (u : ℕ → Bool) (r : Name) (p : ℕ) (o : Option Cell) (d y : Device) → rho.lives p ≡ o → ((q : ℕ) → rho.unset q ≡ false → u q ≡ false) → OwnLoad own nu rho (Slow p) → R u d y
      → Ends (R u) (prompt_load r (Slow p) d) (prompt_load r (moved_to p o) y)
  load_at u r p (Some c) d y e w h s =
      ends_both (R u) (load_races d.outstanding p) (is_away y.outstanding c.number c.half) Race Touched d y _ _
      (old_load u d y p c s e) (cell_here u d y p c s e)
      (kept u d y r _ _ (sym (s.cells p c e (w p (h.0 c e)))) s)
  load_at u r p None d y e w h s =
      ends_same (R u) (load_races d.outstanding p) (load_races y.outstanding p) Race d y _ _
      (any_own (λ t. (if t.incoming then false else meets t p)) (map (renumbered nu) d.outstanding) rho.extra y.outstanding s.transfers (h.1 e) ∙ load_races_same nu is d.outstanding p)
      (kept u d y r _ _ (s.slow p (sound.fresh p e)) s)

  loads : (u : ℕ → Bool) (r : Name) (p : Place) (d y : Device) → ((q : ℕ) → rho.unset q ≡ false → u q ≡ false) → OwnLoad own nu rho p → R u d y → Ends (R u) (prompt_load r p d) (prompt_load r (place_moved nu rho p) y)
  unfolding place_moved
  loads u r (Slow p) d y w h s = load_at u r p (rho.lives p) d y refl w h s
  loads u r (Fast n k c) d y w h s =
      ends_same (R u) (is_away d.outstanding n k) (is_away y.outstanding (nu.fasts n) k) Touched d y _ _
      (any_own (λ t. nat_eq t.fast (nu.fasts n) && nat_eq t.half k) (map (renumbered nu) d.outstanding) rho.extra y.outstanding s.transfers (extra_away n k) ∙ away_same nu is d.outstanding n k)
      (kept u d y r _ _ (ap (λ l. get_or l c (pos 0)) (s.old_halves n k)) s)
  loads u r Outside d y w h s = refl

  -- ---- stores
  other_place : (xs : List ℤ) (p q : ℕ) (z : ℤ) → q ≢ p → get_or (slice_set xs p z) q (pos 0) ≡ get_or xs q (pos 0)
  other_place xs p q z h = get_or-set_other xs p q z (pos 0) h

  -- a place that is unset behind a store was unset before
  was_unset : (place : Place) (u : ℕ → Bool) (q : ℕ) → u q ≡ false → unset_but place u q ≡ false
  was_unset (Slow p) u q h = by (nat_eq p q)
    where
      by : (b : Bool) → (if b then false else u q) ≡ false
      by true = refl
      by false = h
  was_unset (Fast n k c) u q h = h
  was_unset Outside u q h = h

  -- fewer places are unset
  pub set_more : (u v : ℕ → Bool) (d y : Device) → ((q : ℕ) → v q ≡ false → u q ≡ false) → R u d y → R v d y
  set_more u v d y h s = record {
    registers = s.registers;
    slow = s.slow;
    old_halves = s.old_halves;
    room = s.room;
    cells = λ p c e f. s.cells p c e (h p f);
    old_long = s.old_long;
    long = s.long;
    transfers = s.transfers;
    clear = s.clear;
    ahead = s.ahead;
  }

  -- a store to a place that lives in a cell
  module _ (u : ℕ → Bool) (p : ℕ) (c : Cell) (z z' : ℤ) (same : z ≡ z') (d y : Device) (at : rho.lives p ≡ Some c) (s : R u d y) where
    abbrev halves' : ℕ → ℕ → List ℤ
    halves' = put_half y.halves c.number c.half (slice_set (y.halves c.number c.half) c.cell z')

    room' : (q : ℕ) (b : Cell) (t : Bool) → (nat_eq c.number b.number && nat_eq c.half b.half) ≡ t → rho.lives q ≡ Some b → b.cell < length (halves' b.number b.half)
    room' q b true t e =
        let two = and_parts (nat_eq c.number b.number) (nat_eq c.half b.half) t in
        let long = ap length (half_same y.halves c.number c.half b.number b.half (slice_set (y.halves c.number c.half) c.cell z') t)
        ∙ length-set (y.halves c.number c.half) c.cell z'
        ∙ (λ i. length (y.halves (eqb-true c.number b.number two.0 i) (eqb-true c.half b.half two.1 i))) in
        subst (λ n. b.cell < n) (sym long) (s.room q b e)
    room' q b false t e = subst (λ l. b.cell < length l) (sym (half_other y.halves c.number c.half b.number b.half _ t)) (s.room q b e)

    -- a cell that isn't the written one belongs to another place
    elsewhere : (q : ℕ) (b : Cell) → rho.lives q ≡ Some b → (c ≡ b → ⊥) → q ≢ p
    elsewhere q b e ne h =
        let k : Some c ≡ Some b = sym at ∙ ap rho.lives (sym h) ∙ e in
        ne (cc)

    -- another place was set before
    was_set : (q : ℕ) → q ≢ p → unset_but (Slow p) u q ≡ false → u q ≡ false
    was_set q ne h = sym (ap (λ b. if b then false else u q) (ne_eqb p q (λ e. ne (sym e)))) ∙ h

    written : (q : ℕ) (b : Cell) (t : Bool) → c.number ≡ b.number → c.half ≡ b.half → nat_eq c.cell b.cell ≡ t → rho.lives q ≡ Some b → unset_but (Slow p) u q ≡ false
        → get_or (slice_set (y.halves c.number c.half) c.cell z') b.cell (pos 0) ≡ get_or (slice_set d.state.slow p z) q (pos 0)
    written q b true n h t e f =
        let k = eqb-true c.cell b.cell t in
        let there : c ≡ b = λ i. record { number = n i; half = h i; cell = k i } in
        let place : q ≡ p = sound.alone q p b e (at ∙ ap Some there) in
        ap (λ j. get_or (slice_set (y.halves c.number c.half) c.cell z') j (pos 0)) (sym k)
        ∙ get_or-set_same (y.halves c.number c.half) c.cell z' (pos 0) (s.room p c at)
        ∙ sym same
        ∙ sym (get_or-set_same d.state.slow p z (pos 0) (subst (λ n. p < n) (sym s.old_long) (sound.inside p c at)))
        ∙ ap (λ j. get_or (slice_set d.state.slow p z) j (pos 0)) (sym place)
    written q b false n h t e f =
        let ne = eqb-false c.cell b.cell t in
        let other = elsewhere q b e (λ k. ne (ap (λ c. c.cell) k)) in
        get_or-set_other (y.halves c.number c.half) c.cell b.cell z' (pos 0) (λ k. ne (sym k))
        ∙ (λ i. get_or (y.halves (n i) (h i)) b.cell (pos 0))
        ∙ s.cells q b e (was_set q other f)
        ∙ sym (other_place d.state.slow p q z other)

    cells' : (q : ℕ) (b : Cell) (t : Bool) → (nat_eq c.number b.number && nat_eq c.half b.half) ≡ t → rho.lives q ≡ Some b → unset_but (Slow p) u q ≡ false
        → get_or (halves' b.number b.half) b.cell (pos 0) ≡ get_or (slice_set d.state.slow p z) q (pos 0)
    cells' q b true t e f =
        let two = and_parts (nat_eq c.number b.number) (nat_eq c.half b.half) t in
        ap (λ l. get_or l b.cell (pos 0)) (half_same y.halves c.number c.half b.number b.half _ t)
        ∙ written q b (nat_eq c.cell b.cell) (eqb-true c.number b.number two.0) (eqb-true c.half b.half two.1) refl e f
    cells' q b false t e f =
        let other = elsewhere q b e (λ k. apart b t k) in
        ap (λ l. get_or l b.cell (pos 0)) (half_other y.halves c.number c.half b.number b.half _ t)
        ∙ s.cells q b e (was_set q other f)
        ∙ sym (other_place d.state.slow p q z other)
      where
        apart : (b : Cell) → (nat_eq c.number b.number && nat_eq c.half b.half) ≡ false → c ≡ b → ⊥
        apart b t k =
            let n : nat_eq c.number b.number ≡ true = eq-eqb c.number b.number (ap (λ c. c.number) k) in
            let h : nat_eq c.half b.half ≡ true = eq-eqb c.half b.half (ap (λ c. c.half) k) in
            let both : (nat_eq c.number b.number && nat_eq c.half b.half) ≡ true = λ i. n i && h i in
            cc

    store_fast : rho.stale p ≡ true → Every (Avoids p) rho.ahead → R (unset_but (Slow p) u) (record d { state = write p z d.state }) (record y { halves = halves' })
    store_fast old avoids = record {
      registers = s.registers;
      slow = λ q h. other_place d.state.slow p q z (λ e. cases q h e) ∙ s.slow q h;
      old_halves = λ n h. s.old_halves n h ∙ sym (half_other y.halves c.number c.half (nu.fasts n) h _ (ap (λ b. b && nat_eq c.half h) (ne_eqb c.number (nu.fasts n) (λ k. sound.new p n c at (sym k)))));
      room = λ q b e. room' q b (nat_eq c.number b.number && nat_eq c.half b.half) refl e;
      cells = λ q b e f. cells' q b (nat_eq c.number b.number && nat_eq c.half b.half) refl e f;
      old_long = length-set d.state.slow p z ∙ s.old_long;
      long = s.long;
      transfers = s.transfers;
      clear = s.clear;
      ahead = each_three (λ (a : Copy). (nat_eq c.number a.number && nat_eq c.half a.half) ≡ false) (Avoids p) (IsCopied d.state.slow y.halves) (IsCopied (slice_set d.state.slow p z) halves')
          (λ a apart avoid k. record {
            room = ap length (half_other y.halves c.number c.half a.number a.half _ apart) ∙ k.room;
            same = λ i l. ap (λ l. get_or l i (pos 0)) (half_other y.halves c.number c.half a.number a.half _ apart) ∙ k.same i l ∙ sym (other_place d.state.slow p (a.place i) z (avoid i l));
          }) rho.ahead (sound.elsewhere p c at) avoids s.ahead;
    }
      where
        cases : (q : ℕ) → rho.stale q ≡ false → q ≡ p → ⊥
        cases q h e = let k : rho.stale q ≡ true = ap rho.stale e ∙ old in cc

  -- a store to a place that lives in none
  store_slow : (u : ℕ → Bool) (p : ℕ) (z z' : ℤ) (d y : Device) → z ≡ z' → rho.lives p ≡ None → Every (Avoids p) rho.ahead → R u d y → R (unset_but (Slow p) u) (record d { state = write p z d.state }) (record y { state = write p z' y.state })
  store_slow u p z z' d y same none avoids s = record {
    registers = s.registers;
    slow = λ q h. both_set d.state.slow y.state.slow p q z z' (s.old_long ∙ sym s.long) same (s.slow q h);
    old_halves = s.old_halves;
    room = s.room;
    cells = λ q b e f.
        let other : q ≢ p = λ h. some_none (rho.lives q) b e (ap rho.lives h ∙ none) in
        s.cells q b e (sym (ap (λ t. if t then false else u q) (ne_eqb p q (λ h. other (sym h)))) ∙ f) ∙ sym (other_place d.state.slow p q z other);
    old_long = length-set d.state.slow p z ∙ s.old_long;
    long = length-set y.state.slow p z' ∙ s.long;
    transfers = s.transfers;
    clear = s.clear;
    ahead = each_two (Avoids p) (IsCopied d.state.slow y.halves) (IsCopied (slice_set d.state.slow p z) y.halves)
        (λ a avoid k. record { room = k.room; same = λ i l. k.same i l ∙ sym (other_place d.state.slow p (a.place i) z (avoid i l)) }) rho.ahead avoids s.ahead;
  }

  store_at : (u : ℕ → Bool) (p : ℕ) (o : Option Cell) (z z' : ℤ) (d y : Device) → rho.lives p ≡ o → z ≡ z' → OwnStore own nu rho (Slow p) → R u d y
      → Ends (R (unset_but (Slow p) u)) (prompt_store z (Slow p) d) (prompt_store z' (moved_to p o) y)
  store_at u p (Some c) z z' d y e same h s =
      ends_both (R (unset_but (Slow p) u)) (store_races d.outstanding p) (is_away y.outstanding c.number c.half) Race Touched d y _ _
      (old_store u d y p c s e (h.0 c e)) (cell_here u d y p c s e) (store_fast u p c z z' same d y e s (h.0 c e) h.2)
  store_at u p None z z' d y e same h s =
      ends_same (R (unset_but (Slow p) u)) (store_races d.outstanding p) (store_races y.outstanding p) Race d y _ _
      (any_own (λ t. meets t p) (map (renumbered nu) d.outstanding) rho.extra y.outstanding s.transfers (h.1 e) ∙ store_races_same nu is d.outstanding p)
      (store_slow u p z z' d y same e h.2 s)

  stores : (u : ℕ → Bool) (z z' : ℤ) (p : Place) (d y : Device) → z ≡ z' → OwnStore own nu rho p → R u d y → Ends (R (unset_but p u)) (prompt_store z p d) (prompt_store z' (place_moved nu rho p) y)
  unfolding place_moved
  stores u z z' (Slow p) d y same h s = store_at u p (rho.lives p) z z' d y refl same h s
  stores u z z' (Fast n k c) d y same h s =
      ends_same (R u) (is_away d.outstanding n k) (is_away y.outstanding (nu.fasts n) k) Touched d y _ _
      (any_own (λ t. nat_eq t.fast (nu.fasts n) && nat_eq t.half k) (map (renumbered nu) d.outstanding) rho.extra y.outstanding s.transfers (extra_away n k) ∙ away_same nu is d.outstanding n k)
      (one_half u d y n k _ _ (λ i. slice_set (s.old_halves n k i) c (same i)) s)
  stores u z z' Outside d y same h s = refl

  -- ---- raw accesses, whose memref has no element in fast memory
  abbrev At : (ℕ → Type 0) → Place → Type 0
  At A (Slow p) = A p
  At A (Fast n h c) = Unit {0}
  At A Outside = Unit {0}

  record PlainPlace (A : ℕ → Type 0) (p q : Place) : Type 0 where
    same : q ≡ place_moved nu rho p
    holds : At A p

  plain_slow : (A : ℕ → Type 0) → ((p : ℕ) → A p → rho.lives p ≡ None) → (first : ℕ) (o : Option ℕ) → ((k : ℕ) → o ≡ Some k → A (first + k)) → PlainPlace A (slow_at first o) (slow_at first o)
  unfolding place_moved
  plain_slow A none first (Some k) h = record { same = ap (moved_to (first + k)) (sym (none (first + k) (h k refl))); holds = h k refl }
  plain_slow A none first None h = record { same = refl; holds = tt }

  plain_fast : (A : ℕ → Type 0) (number : ℕ) (a b : Option ℕ) → PlainPlace A (fast_at number a b) (fast_at (nu.fasts number) a b)
  unfolding place_moved
  plain_fast A number (Some h) (Some c) = record { same = refl; holds = tt }
  plain_fast A number (Some h) None = record { same = refl; holds = tt }
  plain_fast A number None c = record { same = refl; holds = tt }

  plain_half : (A : ℕ → Type 0) (number : ℕ) (sizes : List ℕ) (zs : List ℤ) → PlainPlace A (half_place number sizes zs) (half_place (nu.fasts number) sizes zs)
  unfolding place_moved
  plain_half A number (n ∷ sizes) (z ∷ zs) = plain_fast A number (within z n) (cell_in sizes zs)
  plain_half A number [] zs = record { same = refl; holds = tt }
  plain_half A number (n ∷ sizes) [] = record { same = refl; holds = tt }

  plain_place : (A : ℕ → Type 0) → ((p : ℕ) → A p → rho.lives p ≡ None) → (home : Option Home) (sizes : List ℕ) (zs : List ℤ) → HomeWhere own nu A home sizes → PlainPlace A (place_at home sizes zs) (place_at (renumbered_if nu home) sizes zs)
  unfolding place_moved
  plain_place A none (Some (SlowMemref number first)) sizes zs h = plain_slow A none first (cell_in sizes zs) (λ k e. h k (cell_less sizes zs k e))
  plain_place A none (Some (FastMemref number)) sizes zs h = plain_half A number sizes zs
  plain_place A none (Some (TagMemref first)) sizes zs h = record { same = refl; holds = tt }
  plain_place A none None sizes zs h = record { same = refl; holds = tt }

  may_load : (p : Place) → At (FreeToLoad own nu rho) p → OwnLoad own nu rho p
  may_load (Slow p) h = ((λ c e. absurd (some_none (rho.lives p) c e h.0)), (λ e. h.1))
  may_load (Fast n k c) h = tt
  may_load Outside h = tt

  may_store : (p : Place) → At (FreeToStore own nu rho) p → OwnStore own nu rho p
  may_store (Slow p) h = ((λ c e. absurd (some_none (rho.lives p) c e h.0)), (λ e. h.1), h.2)
  may_store (Fast n k c) h = tt
  may_store Outside h = tt

  raw_loads : (u : ℕ → Bool) (r : Name) (home : Option Home) (sizes : List ℕ) (subs : List Operand) (d y : Device) → ((q : ℕ) → rho.unset q ≡ false → u q ≡ false)
      → HomeWhere own nu (FreeToLoad own nu rho) home sizes → Every (OwnOperand own nu) subs → R u d y
      → Ends (R u) (prompt_load r (raw_place d.state.registers home sizes subs) d) (prompt_load r (raw_place y.state.registers (renumbered_if nu home) sizes subs) y)
  raw_loads u r home sizes subs d y w h k s =
      let zs = map (read d.state.registers) subs in
      let p = plain_place (FreeToLoad own nu rho) (λ p h. h.0) home sizes zs h in
      subst (λ q. Ends (R u) (prompt_load r (place_at home sizes zs) d) (prompt_load r q y))
      (sym (ap (place_at (renumbered_if nu home) sizes) (sym (same_subscripts u d y subs s k)) ∙ p.same))
      (loads u r (place_at home sizes zs) d y w (may_load (place_at home sizes zs) p.holds) s)

  raw_stores : (u : ℕ → Bool) (z z' : ℤ) (home : Option Home) (sizes : List ℕ) (subs : List Operand) (d y : Device) → z ≡ z'
      → HomeWhere own nu (FreeToStore own nu rho) home sizes → Every (OwnOperand own nu) subs → R u d y
      → Ends (R u) (prompt_store z (raw_place d.state.registers home sizes subs) d) (prompt_store z' (raw_place y.state.registers (renumbered_if nu home) sizes subs) y)
  raw_stores u z z' home sizes subs d y same h k s =
      let zs = map (read d.state.registers) subs in
      let p = plain_place (FreeToStore own nu rho) (λ p h. h.0) home sizes zs h in
      subst (λ q. Ends (R u) (prompt_store z (place_at home sizes zs) d) (prompt_store z' q y))
      (sym (ap (place_at (renumbered_if nu home) sizes) (sym (same_subscripts u d y subs s k)) ∙ p.same))
      (ends_weaker (R (unset_but (place_at home sizes zs) u)) (R u) _ _ (λ d' y' s'. set_more (unset_but (place_at home sizes zs) u) u d' y' (λ q e. was_unset (place_at home sizes zs) u q e) s')
      (stores u z z' (place_at home sizes zs) d y same (may_store (place_at home sizes zs) p.holds) s))

  -- ---- values
  results : (u : ℕ → Bool) (r : Name) (o : Option ℤ) (d y : Device) → R u d y → Ends (R u) (carried d (keep_result r o d.state)) (carried y (keep_result r o y.state))
  results u r (Some z) d y s = kept u d y r z z refl s
  results u r None d y s = refl

  -- ---- starts and waits
  one_more : (u : ℕ → Bool) (t : Transfer) (d y : Device) → IsClear rho t → R u d y → R u (recorded t d) (recorded (renumbered nu t) y)
  one_more u t d y c s = record {
    registers = s.registers;
    slow = s.slow;
    old_halves = s.old_halves;
    room = s.room;
    cells = s.cells;
    old_long = s.old_long;
    long = s.long;
    transfers = subst (λ l. Mixed l rho.extra (y.outstanding ++ renumbered nu t ∷ [])) (sym (map-append (renumbered nu) d.outstanding (t ∷ []))) (mixed_more (renumbered nu t) (map (renumbered nu) d.outstanding) rho.extra y.outstanding s.transfers);
    clear = each_append (IsClear rho) d.outstanding (t ∷ []) s.clear (c, tt);
    ahead = s.ahead;
  }

  in_alike : (u : ℕ → Bool) (t : Transfer) (d y : Device) → IsClear rho t → R u d y → R u (copied_in t d) (copied_in (renumbered nu t) y)
  in_alike u t d y c s =
      one_half u d y t.fast t.half (moved_in t d.state.slow (d.halves t.fast t.half)) (moved_in (renumbered nu t) y.state.slow (y.halves (nu.fasts t.fast) t.half))
      (in_same nu t d.state.slow y.state.slow (d.halves t.fast t.half) (λ e l. s.slow (slow_place t e) (not_stale t c e l)) ∙ ap (moved_in (renumbered nu t) y.state.slow) (s.old_halves t.fast t.half)) s

  out_alike : (u : ℕ → Bool) (t : Transfer) (d y : Device) → t.incoming ≡ false → IsClear rho t → (t.incoming ≡ false → Every (MissesCopy t) rho.ahead) → R u d y → R u (copied_out t d) (copied_out (renumbered nu t) y)
  out_alike u t d y out c miss s =
      let l = d.halves t.fast t.half in
      let a = out_same nu rho.stale t l d.state.slow y.state.slow (record { long = s.old_long ∙ sym s.long; same = s.slow }) in
      let m = s.old_halves t.fast t.half in
      record {
        registers = s.registers;
        slow = λ p e. a.same p e ∙ ap (λ l. get_or (moved_out (renumbered nu t) l y.state.slow) p (pos 0)) m;
        old_halves = s.old_halves;
        room = s.room;
        cells = λ p b e f. s.cells p b e f ∙ sym (out_else t l d.state.slow p (λ j k same. some_none (rho.lives p) b e (ap rho.lives (sym same) ∙ out_clear t c out j k)));
        old_long = out_long t l d.state.slow ∙ s.old_long;
        long = out_long (renumbered nu t) (y.halves (nu.fasts t.fast) t.half) y.state.slow ∙ s.long;
        transfers = s.transfers;
        clear = s.clear;
        ahead = each_two (MissesCopy t) (IsCopied d.state.slow y.halves) (IsCopied (moved_out t l d.state.slow) y.halves)
            (λ a h k. record { room = k.room; same = λ i m. k.same i m ∙ sym (out_else t l d.state.slow (a.place i) (λ e n same. h e n i m (sym same))) }) rho.ahead (miss out) s.ahead;
      }

  started_alike : (u : ℕ → Bool) (t : Transfer) (d y : Device) → IsClear rho t → (t.incoming ≡ false → Every (MissesCopy t) rho.ahead) → R u d y → R u (started t d) (started (renumbered nu t) y)
  unfolding started
  started_alike u t d y c miss s = by t.incoming refl
    where
      by : (b : Bool) → t.incoming ≡ b → R u (recorded t (if b then copied_in t d else copied_out t d)) (recorded (renumbered nu t) (if b then copied_in (renumbered nu t) y else copied_out (renumbered nu t) y))
      by true e = one_more u t (copied_in t d) (copied_in (renumbered nu t) y) c (in_alike u t d y c s)
      by false e = one_more u t (copied_out t d) (copied_out (renumbered nu t) y) c (out_alike u t d y e c miss s)

  starts : (u : ℕ → Bool) (t : Transfer) (d y : Device) → IsClear rho t → start_races rho.extra (renumbered nu t) ≡ false → (t.incoming ≡ false → Every (MissesCopy t) rho.ahead) → R u d y → Ends (R u) (prompt_start t d) (prompt_start (renumbered nu t) y)
  starts u t d y c race miss s =
      ends_same (R u) (is_started d.outstanding t.tag) (is_started y.outstanding (nu.tags t.tag)) Tag d y _ _
      (any_own (λ o. nat_eq o.tag (nu.tags t.tag)) (map (renumbered nu) d.outstanding) rho.extra y.outstanding s.transfers (extra_started t.tag) ∙ started_same nu is d.outstanding t.tag)
      (ends_same (R u) (is_away d.outstanding t.fast t.half) (is_away y.outstanding (nu.fasts t.fast) t.half) Touched d y _ _
      (any_own (λ o. nat_eq o.fast (nu.fasts t.fast) && nat_eq o.half t.half) (map (renumbered nu) d.outstanding) rho.extra y.outstanding s.transfers (extra_away t.fast t.half) ∙ away_same nu is d.outstanding t.fast t.half)
      (ends_same (R u) (start_races d.outstanding t) (start_races y.outstanding (renumbered nu t)) Race d y _ _
      (any_own (λ o. (if t.incoming then (if o.incoming then false else overlap o (renumbered nu t)) else overlap o (renumbered nu t))) (map (renumbered nu) d.outstanding) rho.extra y.outstanding s.transfers race ∙ start_races_same nu is d.outstanding t)
      (started_alike u t d y c miss s)))

  waits : (u : ℕ → Bool) (tag count : ℕ) (d y : Device) → R u d y → Ends (R u) (wait_on (record_of tag d.outstanding) tag count d) (wait_on (record_of (nu.tags tag) y.outstanding) (nu.tags tag) count y)
  waits u tag count d y s =
      subst (λ o. Ends (R u) (wait_on (record_of tag d.outstanding) tag count d) (wait_on o (nu.tags tag) count y))
      (sym (record_own (nu.tags tag) (map (renumbered nu) d.outstanding) rho.extra y.outstanding s.transfers (extra_started tag) ∙ record_same nu is tag d.outstanding))
      (by (record_of tag d.outstanding))
    where
      awaited : R u (record d { outstanding = without tag d.outstanding }) (record y { outstanding = without (nu.tags tag) y.outstanding })
      awaited = record {
        registers = s.registers;
        slow = s.slow;
        old_halves = s.old_halves;
        room = s.room;
        cells = s.cells;
        old_long = s.old_long;
        long = s.long;
        transfers = subst (λ l. Mixed l rho.extra (without (nu.tags tag) y.outstanding)) (without_same nu is tag d.outstanding) (without_own (nu.tags tag) (map (renumbered nu) d.outstanding) rho.extra y.outstanding s.transfers (extra_started tag));
        clear = each_without (IsClear rho) tag d.outstanding s.clear;
        ahead = s.ahead;
      }

      at : (b : Bool) → Ends (R u) (if b then End (record d { outstanding = without tag d.outstanding }) else Fault Shape d) (if b then End (record y { outstanding = without (nu.tags tag) y.outstanding }) else Fault Shape y)
      at true = awaited
      at false = refl

      by : (o : Option Transfer) → Ends (R u) (wait_on o tag count d) (wait_on (renumbered_record nu is o) (nu.tags tag) count y)
      by None = refl
      by (Some t) = at (nat_eq t.count count)

  -- ---- one action, and all of them
  one_action : (u : ℕ → Bool) (a : Action) (d y : Device) → ((q : ℕ) → rho.unset q ≡ false → u q ≡ false) → OwnAction own nu rho a → R u d y → Ends (R (still_unset a u)) (roomy filler a d) (roomy filler (moved nu rho a) y)
  unfolding moved roomy acts direct_step
  one_action u Known d y w h s = s
  one_action u (Sets r z) d y w h s = kept u d y r z z refl s
  one_action u (Loads r p) d y w h s = loads u r p d y w h.1 s
  one_action u (Stores x p) d y w h s = stores u _ _ p d y (same_read u d y x s h.0) h.1 s
  one_action u (RawLoads r home sizes subs) d y w h s = raw_loads u r home sizes subs d y w h.1 h.2 s
  one_action u (RawStores x home sizes subs) d y w h s = raw_stores u _ _ home sizes subs d y (same_read u d y x s h.0) h.1 h.2 s
  one_action u (Operates r op bits a b) d y w h s =
      subst (λ o. Ends (R u) (carried d (keep_result r (operation op bits (read d.state.registers a) (read d.state.registers b)) d.state)) (carried y (keep_result r o y.state)))
      (λ i. operation op bits (same_read u d y a s h.1 i) (same_read u d y b s h.2 i))
      (results u r (operation op bits (read d.state.registers a) (read d.state.registers b)) d y s)
  one_action u (Converts r kind from to x) d y w h s = kept u d y r _ _ (ap (cast_value kind from to) (same_read u d y x s h.1)) s
  one_action u (Allocates n element sizes) d y w h s = all_halves u d y n (fresh_half filler element sizes) s
  one_action u (Releases n element sizes) d y w h s =
      ends_same (R u) (has_away d.outstanding n) (has_away y.outstanding (nu.fasts n)) Touched d y _ _
      (any_own (λ t. nat_eq t.fast (nu.fasts n)) (map (renumbered nu) d.outstanding) rho.extra y.outstanding s.transfers (extra_has_away n) ∙ has_away_same nu is d.outstanding n) s
  one_action u (AllocatesTags first count) d y w h s = s
  one_action u (ReleasesTags first count) d y w h s =
      ends_same (R u) (has_started d.outstanding first count) (has_started y.outstanding (nu.tags first) count) Tag d y _ _
      (any_own (λ t. nat_le (nu.tags first) t.tag && nat_lt t.tag (nu.tags first + count)) (map (renumbered nu) d.outstanding) rho.extra y.outstanding s.transfers (extra_range first count h) ∙ has_started_same nu is d.outstanding first count h) s
  one_action u (Starts t) d y w h s = starts u t d y h.0 h.1 h.2 s
  one_action u (Waits tag count) d y w h s = waits u tag count d y s
  one_action u (Faults k) d y w h s = refl
  one_action u Returns d y w h s = s

  pub one_step : (u : ℕ → Bool) (a : Action) (d y : Device) → ((q : ℕ) → rho.unset q ≡ false → u q ≡ false) → OwnAction own nu rho a → R u d y → Ends (R (still_unset a u)) (roomy_step filler a d) (roomy_step filler (moved nu rho a) y)
  unfolding roomy_step
  one_step u a d y w h s = one_action u a (record d { actions = suc d.actions }) (record y { actions = suc y.actions }) w h s

  -- what is set stays set
  stays_set : (u : ℕ → Bool) (a : Action) → ((q : ℕ) → rho.unset q ≡ false → u q ≡ false) → (q : ℕ) → rho.unset q ≡ false → still_unset a u q ≡ false
  stays_set u (Stores x p) w q h = was_unset p u q (w q h)
  stays_set u a w q h = w q h

  pub moved_run : (xs : List Action) (u : ℕ → Bool) (d y : Device) → ((q : ℕ) → rho.unset q ≡ false → u q ≡ false) → Every (OwnAction own nu rho) xs → R u d y
      → Ends (R (unset_behind xs u)) (folded (roomy_step filler) xs d) (folded (roomy_step filler) (map (moved nu rho) xs) y)
  unfolding folded
  moved_run [] u d y w h s = s
  moved_run (a ∷ xs) u d y w h s =
      ends_then (R (still_unset a u)) (R (unset_behind xs (still_unset a u))) (roomy_step filler a d) (roomy_step filler (moved nu rho a) y) (folded (roomy_step filler) xs) (folded (roomy_step filler) (map (moved nu rho) xs))
      (one_step u a d y w h.0 s) (λ d y s. moved_run xs (still_unset a u) d y (stays_set u a w) h.1 s)
