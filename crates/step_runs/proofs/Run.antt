-- Two runs in step: from related devices the second ends related to the first, or with the same plain fault.
use Rattle.std.proofs.Common.{◌≡◌, ◌≢◌, ◌⊎◌, inl, inr, ℕ, suc, ◌+◌, ◌-◌, ◌<◌, ◌≤◌, ℤ, List, [], ◌∷◌, ◌++◌, length, get_or, refl, sym, ap, ◌∙◌, subst, arith, Bool, true, false, map}
use Rattle.std.specs.Prelude.{◌&&◌, ◌||◌, Option, Some, None, is_none, nat_eq, nat_lt, nat_le, if◌then◌else◌}
use Rattle.std.specs.List.{list_any}
use Rattle.std.proofs.lemmas.Bool.{eqb-true, eq-eqb, and_parts, le-leb, ltb-true}
use Rattle.std.proofs.lemmas.List.Folds.{list_any_at}
use Rattle.std.proofs.lemmas.List.{length-map}
use Rattle.std.proofs.lemmas.List.FromFn.{length-range_with_len, get_or-map-range_with_len}
use Rattle.std.specs.List.{range_with_len}
use Rattle.affine_ast.specs.declared.name.Name.{Name}
use Rattle.affine_ast.specs.declared.types.Element.{Element}
use Rattle.affine_ast.specs.Names.{put}
use Rattle.int_ops.specs.Operation.{operation}
use Rattle.int_ops.specs.Cast.{cast_value}
use Rattle.bus_model.specs.declared.step.FaultKind.{FaultKind}
use Rattle.bus_model.specs.declared.step.FaultKind.TheVariants.{Touched, Race, Tag, Capacity, Shape}
use Rattle.bus_model.specs.declared.transfer.Transfer.{Transfer}
use Rattle.bus_model.specs.Places.{slow_place, slow_places, meets}
use Rattle.bus_model.proofs.Places.{meets_at}
use Rattle.direct_meaning.specs.Transfers.{overlap}
use Rattle.direct_meaning.specs.Static.{place_at}
use Rattle.direct_meaning.specs.Actions.{half_cells}
use Rattle.direct_meaning.specs.Action.{Place, Slow, Fast, Outside, Operand, Action, Known, Sets, Loads, Stores, RawLoads, RawStores, Operates, Converts, Allocates, Releases, AllocatesTags, ReleasesTags, Starts, Waits, Faults, Returns}
use Rattle.direct_meaning.specs.Direct.{Outcome, End, Fault, then_do, folded, keep, read, raw_place, keep_result, direct_step}
use Rattle.direct_meaning.proofs.Laws.{folded-append}
use Rattle.prompt_semantics.specs.Device.{Device, bytes_of, allocated, released, is_started, is_away, has_away, has_started, start_races, recorded, started, record_of, without}
use Rattle.prompt_semantics.specs.Prompt.{carried, refused, prompt_load, prompt_store, prompt_alloc, prompt_start, wait_on, acts, prompt_step}
use Rattle.step_runs.specs.Stage.{Half, Cell, value_at, HasRoom, stored_at, same_place, slow_end, fast_end, source, target, is_target, copied, Stage, moved_to, place_in, image}
use Rattle.step_runs.specs.Woven.{Woven}
use Rattle.step_runs.specs.Steps.{Each, Step, Both, Alone, Made, Ahead, Joins, Leaves, Late, Brings, Takes, Becomes, first_of, second_of, first_list, second_list, with_out, less_out, cells_of, first_half, after_both, after_alone, after_made, next, behind, home_in, moved, load_meets, store_meets, tag_meets, half_meets, race_meets, Clear, Sound, CanStore, MayLoad, MayStore, CanCopy, CanStart, CanJoin, CanWait, IsSeenFrom, AllowedBoth, AllowedAlone, AllowedMade, CanRunAhead, CanLeave, CanBring, CanTake, Allowed, Goes}
use Rattle.step_runs.specs.Related.{Related, IsPlain, Ends}
use Rattle.step_runs.proofs.Memory.{place_is, place_isnt, stored_same, stored_other, stored_room, stored_registers, stored_long, stored_live, stored_outstanding, copied_here, copied_else, copied_room, copied_registers, copied_long, copied_live, copied_outstanding, slow_hit, target_hit, target_miss, fresh_here, fresh_room, fresh_else, fresh_room_else}
use Rattle.step_runs.proofs.Woven.{less_was, none_meets, woven_first, woven_own, woven_wait, woven_late, woven_seen, last_record}

-- ---- how runs end
pub ends_any : (R : Device → Device → Type 0) (k : FaultKind) (d : Device) (o : Outcome Device) → (IsPlain k → ⊥) → Ends R (Fault k d) o
ends_any R k d (End y) h = h
ends_any R k d (Fault j y) h = λ p. absurd (h p)

pub ends_then : (R Q : Device → Device → Type 0) (a b : Outcome Device) (g h : Device → Outcome Device)
    → Ends R a b → ((d y : Device) → R d y → Ends Q (g d) (h y)) → Ends Q (then_do a g) (then_do b h)
ends_then R Q (End d) (End y) g h s k = k d y s
ends_then R Q (Fault i d) (Fault j y) g h s k = s
ends_then R Q (End d) (Fault j y) g h s k = absurd s
ends_then R Q (Fault i d) (End y) g h s k = ends_any Q i d (h y) s

ends_first : (R : Device → Device → Type 0) (b : Bool) (k : FaultKind) (d : Device) (go o : Outcome Device) → (IsPlain k → ⊥) → (b ≡ false → Ends R go o) → Ends R (refused b k d go) o
ends_first R true k d go o h more = ends_any R k d o h
ends_first R false k d go o h more = more refl

not_refused : (b : Bool) (k : FaultKind) (y : Device) (go : Outcome Device) → b ≡ false → refused b k y go ≡ go
not_refused b k y go e = ap (λ b. refused b k y go) e

or_cases : (a b : Bool) → (a || b) ≡ true → (a ≡ true) ⊎ (b ≡ true)
or_cases true b h = inl refl
or_cases false b h = inr h

-- ---- loads and stores
abbrev fault_at : Place → FaultKind
fault_at (Slow p) = Race
fault_at (Fast n h c) = Touched
fault_at Outside = Touched

not_plain_at : (q : Place) → IsPlain (fault_at q) → ⊥
not_plain_at (Slow p) h = h
not_plain_at (Fast n k c) h = h
not_plain_at Outside h = h

load_is : (r : Name) (q : Place) (y : Device) → HasRoom q y → prompt_load r q y ≡ refused (list_any (load_meets q) y.outstanding) (fault_at q) y (End (record y { state = keep r (value_at q y) y.state }))
load_is r (Slow p) y h = refl
load_is r (Fast n k c) y h = refl
load_is r Outside y h = absurd h

store_is : (z : ℤ) (q : Place) (y : Device) → HasRoom q y → prompt_store z q y ≡ refused (list_any (store_meets q) y.outstanding) (fault_at q) y (End (stored_at q z y))
store_is z (Slow p) y h = refl
store_is z (Fast n k c) y h = refl
store_is z Outside y h = absurd h

-- only a slow place that lives in no cell is a slow place of the second run, and then the same one
slow_home : (s : Stage) (q : Place) (p : ℕ) → place_in s q ≡ Slow p → (q ≡ Slow p) × (s.lives p ≡ None)
slow_home s (Slow r) p e = by (s.lives r) refl e
  where
    number : Place → ℕ
    number (Slow p) = p
    number (Fast n h c) = 0
    number Outside = 0

    by : (o : Option Cell) → s.lives r ≡ o → moved_to r o ≡ Slow p → (Slow r ≡ Slow p) × (s.lives p ≡ None)
    by None at e = (e, ap s.lives (sym (ap number e)) ∙ at)
    by (Some c) at e = cc
slow_home s (Fast n h c) p e = cc
slow_home s Outside p e = cc

-- what an outstanding transfer that a store doesn't meet has to do with the place
not_fast_end : (q : Place) (u : Transfer) (e : ℕ) → store_meets q u ≡ false → q ≢ fast_end u e
not_fast_end q u e h is =
    let a : nat_eq u.fast u.fast ≡ true = eq-eqb u.fast u.fast refl in
    let b : nat_eq u.half u.half ≡ true = eq-eqb u.half u.half refl in
    let hit : store_meets (fast_end u e) u ≡ true = λ i. a i && b i in
    let k : false ≡ true = sym h ∙ ap (λ q. store_meets q u) is ∙ hit in cc

not_slow_end : (q : Place) (u : Transfer) (e : ℕ) → e < u.count → store_meets q u ≡ false → q ≢ slow_end u e
not_slow_end q u e lt h is =
    let k : false ≡ true = sym h ∙ ap (λ q. store_meets q u) is ∙ meets_at u (slow_place u e) e lt refl in cc

-- and another transfer that doesn't race with it
slow_apart : (u v : Transfer) (a b : ℕ) → a < u.count → b < v.count → overlap v u ≡ false → slow_end u a ≢ slow_end v b
slow_apart u v a b la lb h is =
    let p : slow_place u a ≡ slow_place v b = ap place is in
    let m : meets u (slow_place v b) ≡ true = meets_at u (slow_place v b) a la p in
    let long : b < length (slow_places v) = omega (arith, lb, length-map (range_with_len 0 v.count) (slow_place v), length-range_with_len 0 v.count) in
    let at : meets u (get_or (slow_places v) b 0) ≡ true = ap (meets u) (get_or-map-range_with_len (slow_place v) 0 v.count b b 0 lb (omega (arith, lb))) ∙ m in
    let k : true ≡ false = sym (list_any_at (meets u) (slow_places v) b 0 long at) ∙ h in cc
  where
    place : Place → ℕ
    place (Slow p) = p
    place (Fast n h c) = 0
    place Outside = 0

module _ (ring : ℕ → ℕ → Transfer) (filler : ℤ) (small large : ℕ) where
  module _ (s : Stage) where
    clear : (test : Transfer → Bool) (d y : Device) → Clear large ring s test → Related ring s d y → list_any test y.outstanding ≡ false
    clear test d y c h = none_meets ring (image s) test s.first s.out y.outstanding h.second c.moved c.own

    -- a name's new value
    kept : (d y : Device) (r : Name) (z z' : ℤ) → z' ≡ z → Related ring s d y → Related ring s (record d { state = keep r z d.state }) (record y { state = keep r z' y.state })
    kept d y r z z' e h = record {
      registers = λ i. put (h.registers i) r (e i);
      long = h.long;
      values = h.values;
      fresh = h.fresh;
      room_first = h.room_first;
      room_second = h.room_second;
      made = h.made;
      live = h.live;
      first = h.first;
      second = h.second;
      arrived = h.arrived;
    }

    same_read : (d y : Device) (x : Operand) → Related ring s d y → read y.state.registers x ≡ read d.state.registers x
    same_read d y x h = ap (λ f. read f x) h.registers

    module _ (sound : Sound large ring s) where
      loads : (r : Name) (q : Place) (d y : Device) → MayLoad large ring s q → Related ring s d y → Ends (Related ring s) (prompt_load r q d) (prompt_load r (place_in s q) y)
      loads r q d y (inl e) h = subst (λ q. Ends (Related ring s) (prompt_load r q d) (prompt_load r (place_in s q) y)) (sym e) (λ p. refl)
      loads r q d y (inr c) h =
          let there = sound.within q c.same in
          subst (λ o. Ends (Related ring s) o (prompt_load r (place_in s q) y)) (sym (load_is r q d (h.room_first q there)))
          (ends_first (Related ring s) (list_any (load_meets q) d.outstanding) (fault_at q) d _ _ (not_plain_at q) (λ free.
          subst (Ends (Related ring s) (End (record d { state = keep r (value_at q d) d.state })))
          (sym (load_is r (place_in s q) y (h.room_second q there) ∙ not_refused (list_any (load_meets (place_in s q)) y.outstanding) (fault_at (place_in s q)) y _ (clear (load_meets (place_in s q)) d y c.clear h)))
          (kept d y r (value_at q d) (value_at (place_in s q) y) (h.values q c.same) h)))

      -- a store to a place that is there, after which no more than that place is claimed besides
      stored : (agrees : Place → Bool) (fresh : ℕ → Bool) (q : Place) (z z' : ℤ) (d y : Device) → z' ≡ z → CanStore large ring s q
          → ((p : Place) → agrees p ≡ true → (s.there p ≡ true) × ((q ≡ p) ⊎ (s.agrees p ≡ true)))
          → ((p : ℕ) → fresh p ≡ true → (s.fresh p ≡ true) × (q ≡ Slow p → s.lives p ≡ None))
          → Related ring s d y → Related ring (record s { agrees = agrees; fresh = fresh }) (stored_at q z d) (stored_at (place_in s q) z' y)
      stored agrees fresh q z z' d y e c claims keeps h = record {
        registers = stored_registers (place_in s q) z' y ∙ h.registers ∙ sym (stored_registers q z d);
        long = stored_long (place_in s q) z' y ∙ h.long ∙ sym (stored_long q z d);
        values = λ p a. value p (claims p a).0 (claims p a).1;
        fresh = λ p f. same p (keeps p f).0 (keeps p f).1;
        room_first = λ p t. stored_room q p z d (h.room_first p t);
        room_second = λ p t. stored_room (place_in s q) (place_in s p) z' y (h.room_second p t);
        made = λ p t. stored_room (place_in s q) p z' y (h.made p t);
        live = stored_live (place_in s q) z' y ∙ h.live;
        first = stored_outstanding q z d ∙ h.first;
        second = subst (Woven ring (image s) s.first s.out) (sym (stored_outstanding (place_in s q) z' y)) h.second;
        arrived = λ i j o inc k lt.
            stored_other (place_in s q) (fast_end (ring i j) k) z' y (not_fast_end (place_in s q) (ring i j) k (c.clear.own i j o))
            ∙ h.arrived i j o inc k lt
            ∙ sym (stored_other (place_in s q) (slow_end (ring i j) k) z' y (not_slow_end (place_in s q) (ring i j) k lt (c.clear.own i j o)));
      }
        where
          here : value_at (place_in s q) (stored_at (place_in s q) z' y) ≡ value_at q (stored_at q z d)
          here = stored_same (place_in s q) z' y (h.room_second q c.there) ∙ e ∙ sym (stored_same q z d (h.room_first q c.there))

          same : (p : ℕ) → s.fresh p ≡ true → (q ≡ Slow p → s.lives p ≡ None) → value_at (Slow p) (stored_at (place_in s q) z' y) ≡ value_at (Slow p) (stored_at q z d)
          same p f none = by (same_place q (Slow p)) refl
            where
              by : (b : Bool) → same_place q (Slow p) ≡ b → value_at (Slow p) (stored_at (place_in s q) z' y) ≡ value_at (Slow p) (stored_at q z d)
              by true b =
                  let is = place_is q (Slow p) b in
                  let stays : place_in s q ≡ q = ap (place_in s) is ∙ ap (moved_to p) (none is) ∙ sym is in
                  subst (λ x. value_at x (stored_at (place_in s q) z' y) ≡ value_at x (stored_at q z d)) is
                  (subst (λ x. value_at x (stored_at (place_in s q) z' y) ≡ value_at q (stored_at q z d)) stays here)
              by false b =
                  let ne = place_isnt q (Slow p) b in
                  stored_other (place_in s q) (Slow p) z' y (λ k. ne (slow_home s q p k).0) ∙ h.fresh p f ∙ sym (stored_other q (Slow p) z d ne)

          value : (p : Place) → s.there p ≡ true → (q ≡ p) ⊎ (s.agrees p ≡ true) → value_at (place_in s p) (stored_at (place_in s q) z' y) ≡ value_at p (stored_at q z d)
          value p t (inl is) = subst (λ p. value_at (place_in s p) (stored_at (place_in s q) z' y) ≡ value_at p (stored_at q z d)) is here
          value p t (inr a) = by (same_place q p) refl
            where
              by : (b : Bool) → same_place q p ≡ b → value_at (place_in s p) (stored_at (place_in s q) z' y) ≡ value_at p (stored_at q z d)
              by true b = subst (λ p. value_at (place_in s p) (stored_at (place_in s q) z' y) ≡ value_at p (stored_at q z d)) (place_is q p b) here
              by false b =
                  let ne = place_isnt q p b in
                  stored_other (place_in s q) (place_in s p) z' y (λ same. ne (sound.alone q p c.there t same))
                  ∙ h.values p a
                  ∙ sym (stored_other q p z d ne)

      stores : (agrees : Place → Bool) (fresh : ℕ → Bool) (q : Place) (z z' : ℤ) (d y : Device) → z' ≡ z → MayStore large ring s q
          → ((p : Place) → agrees p ≡ true → (s.there p ≡ true) × ((q ≡ p) ⊎ (s.agrees p ≡ true)))
          → ((p : ℕ) → fresh p ≡ true → (s.fresh p ≡ true) × (q ≡ Slow p → s.lives p ≡ None))
          → Related ring s d y → Ends (Related ring (record s { agrees = agrees; fresh = fresh })) (prompt_store z q d) (prompt_store z' (place_in s q) y)
      stores agrees fresh q z z' d y e (inl out) claims keeps h = subst (λ q. Ends (Related ring (record s { agrees = agrees; fresh = fresh })) (prompt_store z q d) (prompt_store z' (place_in s q) y)) (sym out) (λ p. refl)
      stores agrees fresh q z z' d y e (inr c) claims keeps h =
          subst (λ o. Ends (Related ring (record s { agrees = agrees; fresh = fresh })) o (prompt_store z' (place_in s q) y)) (sym (store_is z q d (h.room_first q c.there)))
          (ends_first (Related ring (record s { agrees = agrees; fresh = fresh })) (list_any (store_meets q) d.outstanding) (fault_at q) d _ _ (not_plain_at q) (λ free.
          subst (Ends (Related ring (record s { agrees = agrees; fresh = fresh })) (End (stored_at q z d)))
          (sym (store_is z' (place_in s q) y (h.room_second q c.there) ∙ not_refused (list_any (store_meets (place_in s q)) y.outstanding) (fault_at (place_in s q)) y _ (clear (store_meets (place_in s q)) d y c.clear h)))
          (stored agrees fresh q z z' d y e c claims keeps h)))

      -- ---- transfers
      start_second : (u : Transfer) (d y : Device) → CanStart large ring s u → Related ring s d y → prompt_start u y ≡ End (started u y)
      start_second u d y c h =
          not_refused (is_started y.outstanding u.tag) Tag y _ (clear (tag_meets u) d y c.tag h)
          ∙ not_refused (is_away y.outstanding u.fast u.half) Touched y _ (clear (half_meets u) d y c.half h)
          ∙ not_refused (start_races y.outstanding u) Race y _ (clear (race_meets u) d y c.race h)

      start_first : (R : Device → Device → Type 0) (t : Transfer) (d : Device) (o : Outcome Device)
          → (is_started d.outstanding t.tag ≡ false → Ends R (End (started t d)) o) → Ends R (prompt_start t d) o
      start_first R t d o more =
          ends_first R (is_started d.outstanding t.tag) Tag d _ o (λ p. p) (λ free.
          ends_first R (is_away d.outstanding t.fast t.half) Touched d _ o (λ p. p) (λ here.
          ends_first R (start_races d.outstanding t) Race d _ o (λ p. p) (λ calm. more free)))

      -- a transfer that the second run starts leaves what others brought
      still_there : (u v : Transfer) (y : Device) → half_meets u v ≡ false → race_meets u v ≡ false → v.incoming ≡ true
          → ((e : ℕ) → e < v.count → value_at (fast_end v e) y ≡ value_at (slow_end v e) y)
          → (e : ℕ) → e < v.count → value_at (fast_end v e) (copied u y) ≡ value_at (slow_end v e) (copied u y)
      still_there u v y other calm inc was e lt =
          copied_else u y (fast_end v e) (λ a la. not_fast u.incoming a)
          ∙ was e lt
          ∙ sym (copied_else u y (slow_end v e) (λ a la. not_slow u.incoming a la calm))
        where
          not_fast : (b : Bool) (a : ℕ) → (if b then fast_end u a else slow_end u a) ≢ fast_end v e
          not_fast true a is =
              let f : u.fast ≡ v.fast = ap number is in
              let h : u.half ≡ v.half = ap half is in
              let hit : half_meets u v ≡ true = (let p : nat_eq v.fast u.fast ≡ true = eq-eqb v.fast u.fast (sym f) in let q : nat_eq v.half u.half ≡ true = eq-eqb v.half u.half (sym h) in λ i. p i && q i) in
              let k : false ≡ true = sym other ∙ hit in cc
            where
              number : Place → ℕ
              number (Slow p) = 0
              number (Fast n h c) = n
              number Outside = 0

              half : Place → ℕ
              half (Slow p) = 0
              half (Fast n h c) = h
              half Outside = 0
          not_fast false a is = cc

          not_slow : (b : Bool) (a : ℕ) → a < u.count → (if b then (if v.incoming then false else overlap v u) else overlap v u) ≡ false → (if b then fast_end u a else slow_end u a) ≢ slow_end v e
          not_slow true a la calm is = cc
          not_slow false a la calm is = slow_apart u v a e la lt calm is

      -- one transfer of each, between ends that are each other's
      copies : (t u : Transfer) (d y : Device) → CanCopy large ring s t u → CanStart large ring s u → Related ring s d y
          → Related ring (record s { agrees = λ p. s.agrees p || is_target t p }) (copied t d) (copied u y)
      copies t u d y c start h = record {
        registers = copied_registers u y ∙ h.registers ∙ sym (copied_registers t d);
        long = copied_long u y ∙ h.long ∙ sym (copied_long t d);
        values = λ p a. value p (is_target t p) refl (or_cases (s.agrees p) (is_target t p) a);
        fresh = λ p f. same p f (is_target t (Slow p)) refl;
        room_first = λ p a. copied_room t d p (h.room_first p a);
        room_second = λ p a. copied_room u y (place_in s p) (h.room_second p a);
        made = λ p a. copied_room u y p (h.made p a);
        live = copied_live u y ∙ h.live;
        first = copied_outstanding t d ∙ h.first;
        second = subst (Woven ring (image s) s.first s.out) (sym (copied_outstanding u y)) h.second;
        arrived = λ i j o inc. still_there u (ring i j) y (start.half.own i j o) (start.race.own i j o) inc (h.arrived i j o inc);
      }
        where
          at_target : (e : ℕ) → e < t.count → value_at (place_in s (target t e)) (copied u y) ≡ value_at (target t e) (copied t d)
          at_target e lt =
              let lt' : e < u.count = subst (λ n. e < n) (sym c.count) lt in
              ap (λ q. value_at q (copied u y)) (sym (c.targets e lt))
              ∙ copied_here u y (λ b. record { some = c.some'; wide = c.wide' }) (λ a la. (let la' = subst (λ n. a < n) c.count la in subst (λ q. HasRoom q y) (sym (c.targets a la')) (h.room_second (target t a) (c.there a la')))) e lt'
              ∙ ap (λ q. value_at q y) (c.sources e lt)
              ∙ h.values (source t e) (c.same e lt)
              ∙ sym (copied_here t d (λ b. record { some = c.some; wide = c.wide }) (λ a la. h.room_first (target t a) (c.there a la)) e lt)

          same : (p : ℕ) → s.fresh p ≡ true → (b : Bool) → is_target t (Slow p) ≡ b → value_at (Slow p) (copied u y) ≡ value_at (Slow p) (copied t d)
          same p f true b =
              let hit = target_hit t (Slow p) b in
              by_home (u.incoming) refl hit.0 hit.1 hit.2
            where
              by_home : (x : Bool) → u.incoming ≡ x → (e : ℕ) → e < t.count → target t e ≡ Slow p → value_at (Slow p) (copied u y) ≡ value_at (Slow p) (copied t d)
              by_home true x e lt is =
                  let at : fast_end t e ≡ Slow p = sym (ap (λ b. if b then fast_end t e else slow_end t e) (sym c.way ∙ x)) ∙ is in cc
              by_home false x e lt is =
                  let at : place_in s (Slow p) ≡ slow_end u e = ap (place_in s) (sym is) ∙ sym (c.targets e lt) ∙ ap (λ b. if b then fast_end u e else slow_end u e) x in
                  let home = slow_home s (Slow p) (slow_place u e) at in
                  subst (λ q. value_at q (copied u y) ≡ value_at (Slow p) (copied t d)) (at ∙ sym home.0)
                  (subst (λ q. value_at (place_in s q) (copied u y) ≡ value_at q (copied t d)) is (at_target e lt))
          same p f false b =
              copied_else u y (Slow p) (λ e lt is.
              (let lt' = subst (λ n. e < n) c.count lt in
              let home = slow_home s (target t e) p (sym (c.targets e lt') ∙ is) in
              target_miss t (Slow p) b e lt' home.0))
              ∙ h.fresh p f
              ∙ sym (copied_else t d (Slow p) (target_miss t (Slow p) b))

          value : (p : Place) (b : Bool) → is_target t p ≡ b → (s.agrees p ≡ true) ⊎ (is_target t p ≡ true) → value_at (place_in s p) (copied u y) ≡ value_at p (copied t d)
          value p true b a =
              let hit = target_hit t p b in
              subst (λ p. value_at (place_in s p) (copied u y) ≡ value_at p (copied t d)) hit.2 (at_target hit.0 hit.1)
          value p false b (inr a) = let k : true ≡ false = sym a ∙ b in cc
          value p false b (inl a) =
              copied_else u y (place_in s p) (λ e lt is.
              (let lt' = subst (λ n. e < n) c.count lt in
              target_miss t p b e lt' (sound.alone (target t e) p (c.there e lt') (sound.within p a) (sym (c.targets e lt') ∙ is))))
              ∙ h.values p a
              ∙ sym (copied_else t d p (target_miss t p b))

      -- both start
      both_start : (t : Transfer) (d y : Device) → CanCopy large ring s t (image s t) → CanStart large ring s (image s t) → Related ring s d y
          → Ends (Related ring (after_both (Starts t) s)) (prompt_start t d) (prompt_start (image s t) y)
      unfolding started
      both_start t d y c start h =
          start_first (Related ring (after_both (Starts t) s)) t d (prompt_start (image s t) y) (λ free.
          subst (Ends (Related ring (after_both (Starts t) s)) (End (started t d))) (sym (start_second (image s t) d y start h))
          (let k = copies t (image s t) d y c start h in record {
            registers = k.registers;
            long = k.long;
            values = k.values;
            fresh = k.fresh;
            room_first = k.room_first;
            room_second = k.room_second;
            made = k.made;
            live = k.live;
            first = ap (λ l. l ++ t ∷ []) k.first;
            second = woven_first ring (image s) t s.first s.out (copied (image s t) y).outstanding k.second;
            arrived = k.arrived;
          }))

      -- both wait
      both_wait : (tag count : ℕ) (d y : Device) → CanWait large ring s tag count → Related ring s d y
          → Ends (Related ring (after_both (Waits tag count) s)) (wait_on (record_of tag d.outstanding) tag count d) (wait_on (record_of (s.tag tag) y.outstanding) (s.tag tag) count y)
      both_wait tag count d y c h = by (record_of tag d.outstanding) refl
        where
          R : Device → Device → Type 0
          R = Related ring (after_both (Waits tag count) s)

          by : (o : Option Transfer) → record_of tag d.outstanding ≡ o → Ends (Related ring (after_both (Waits tag count) s)) (wait_on o tag count d) (wait_on (record_of (s.tag tag) y.outstanding) (s.tag tag) count y)
          by None e = ends_any (Related ring (after_both (Waits tag count) s)) Tag d _ (λ p. p)
          by (Some f) e = by_count (nat_eq f.count count) refl
            where
              two : (record_of (s.tag tag) y.outstanding ≡ Some (image s f)) × Woven ring (image s) (without tag s.first) s.out (without (s.tag tag) y.outstanding)
              two = woven_wait ring (image s) tag (s.tag tag) f s.first s.out y.outstanding h.second (sym (ap (record_of tag) h.first) ∙ e) c.others c.own

              by_count : (b : Bool) → nat_eq f.count count ≡ b
                  → Ends (Related ring (after_both (Waits tag count) s)) (if b then End (record d { outstanding = without tag d.outstanding }) else Fault Shape d) (wait_on (record_of (s.tag tag) y.outstanding) (s.tag tag) count y)
              by_count false b = ends_any (Related ring (after_both (Waits tag count) s)) Shape d _ (λ p. p)
              by_count true b =
                  subst (Ends (Related ring (after_both (Waits tag count) s)) (End (record d { outstanding = without tag d.outstanding })))
                  (sym (ap (λ o. wait_on o (s.tag tag) count y) two.0 ∙ ap (λ b. if b then End (record y { outstanding = without (s.tag tag) y.outstanding }) else Fault Shape y) b))
                  (record {
                    registers = h.registers;
                    long = h.long;
                    values = h.values;
                    fresh = h.fresh;
                    room_first = h.room_first;
                    room_second = h.room_second;
                    made = h.made;
                    live = h.live;
                    first = ap (without tag) h.first;
                    second = two.1;
                    arrived = h.arrived;
                  })

      -- the second run waits for one of its own
      late : (i j : ℕ) (d y : Device) → s.out i j ≡ true → ((a b : ℕ) → s.out a b ≡ true → (ring a b).tag ≡ (ring i j).tag → (a ≡ i) × (b ≡ j)) → Each (λ (f : Transfer). s.tag f.tag ≢ (ring i j).tag) s.first → Related ring s d y
          → (wait_on (record_of (ring i j).tag y.outstanding) (ring i j).tag (ring i j).count y ≡ End (record y { outstanding = without (ring i j).tag y.outstanding }))
          × Related ring (record s { out = less_out i j s.out }) d (record y { outstanding = without (ring i j).tag y.outstanding })
      late i j d y o tags others h =
          let two = woven_late ring (image s) i j s.first s.out y.outstanding h.second o others tags in
          let same : nat_eq (ring i j).count (ring i j).count ≡ true = eq-eqb (ring i j).count (ring i j).count refl in (
            ap (λ o. wait_on o (ring i j).tag (ring i j).count y) two.0 ∙ ap (λ b. if b then End (record y { outstanding = without (ring i j).tag y.outstanding }) else Fault Shape y) same,
            record {
              registers = h.registers;
              long = h.long;
              values = h.values;
              fresh = h.fresh;
              room_first = h.room_first;
              room_second = h.room_second;
              made = h.made;
              live = h.live;
              first = h.first;
              second = two.1;
              arrived = λ a b l. h.arrived a b (less_was ring (image s) i j a b s.out l);
            },
          )

      -- the second run starts one of its own ahead
      ahead : (i j : ℕ) (d y : Device) → CanRunAhead large ring s i j → Related ring s d y
          → (prompt_start (ring i j) y ≡ End (started (ring i j) y)) × Related ring (record s { out = with_out i j s.out }) d (started (ring i j) y)
      unfolding started
      ahead i j d y c h = (
        start_second u d y c.start h,
        record {
          registers = copied_registers u y ∙ h.registers;
          long = copied_long u y ∙ h.long;
          values = λ q a. copied_else u y (place_in s q) (λ e lt is. c.apart q a e lt (sym is ∙ fast_is e)) ∙ h.values q a;
          fresh = λ p f. copied_else u y (Slow p) (λ e lt is. not_slow e p (sym (fast_is e) ∙ is)) ∙ h.fresh p f;
          room_first = h.room_first;
          room_second = λ q t. copied_room u y (place_in s q) (h.room_second q t);
          made = λ q t. copied_room u y q (h.made q t);
          live = copied_live u y ∙ h.live;
          first = h.first;
          second = subst (λ l. Woven ring (image s) s.first (with_out i j s.out) (l ++ u ∷ [])) (sym (copied_outstanding u y)) (woven_own ring (image s) i j s.first s.out y.outstanding c.out h.second);
          arrived = λ a b o. arrived' a b (nat_eq i a && nat_eq j b) refl o;
        },
      )
        where
          u : Transfer
          u = ring i j

          fast_is : (e : ℕ) → target (ring i j) e ≡ fast_end (ring i j) e
          fast_is e = ap (λ b. if b then fast_end (ring i j) e else slow_end (ring i j) e) c.incoming

          source_is : (e : ℕ) → source (ring i j) e ≡ slow_end (ring i j) e
          source_is e = ap (λ b. if b then slow_end (ring i j) e else fast_end (ring i j) e) c.incoming

          not_slow : (e p : ℕ) → fast_end (ring i j) e ≢ Slow p
          not_slow e p k = cc

          here : (e : ℕ) → e < (ring i j).count → value_at (fast_end (ring i j) e) (copied (ring i j) y) ≡ value_at (slow_end (ring i j) e) (copied (ring i j) y)
          here e lt =
              ap (λ q. value_at q (copied (ring i j) y)) (sym (fast_is e))
              ∙ copied_here (ring i j) y (λ b. absurd (let k : true ≡ false = sym c.incoming ∙ b in differ k)) (λ a la. subst (λ q. HasRoom q y) (sym (fast_is a)) (h.made (fast_end (ring i j) a) (c.made a la))) e lt
              ∙ ap (λ q. value_at q y) (source_is e)
              ∙ sym (copied_else (ring i j) y (slow_end (ring i j) e) (λ a la is. unlike a (sym (fast_is a) ∙ is)))
            where
              differ : true ≡ false → ⊥
              differ k = cc

              unlike : (a : ℕ) → fast_end (ring i j) a ≡ slow_end (ring i j) e → ⊥
              unlike a k = cc

          arrived' : (a b : ℕ) (x : Bool) → (nat_eq i a && nat_eq j b) ≡ x → with_out i j s.out a b ≡ true → (ring a b).incoming ≡ true
              → (e : ℕ) → e < (ring a b).count → value_at (fast_end (ring a b) e) (copied (ring i j) y) ≡ value_at (slow_end (ring a b) e) (copied (ring i j) y)
          arrived' a b true x o inc =
              let two = and_parts (nat_eq i a) (nat_eq j b) x in
              subst (λ v. (e : ℕ) → e < v.count → value_at (fast_end v e) (copied (ring i j) y) ≡ value_at (slow_end v e) (copied (ring i j) y)) (λ k. ring (eqb-true i a two.0 k) (eqb-true j b two.1 k)) here
          arrived' a b false x o inc =
              let was : s.out a b ≡ true = sym (ap (λ t. if t then true else s.out a b) x) ∙ o in
              still_there (ring i j) (ring a b) y (c.start.half.own a b was) (c.start.race.own a b was) inc (h.arrived a b was inc)

      -- the first run starts one and waits for it at once
      abbrev pair : Transfer → List Action
      pair t = Starts t ∷ Waits t.tag t.count ∷ []

      abbrev counted : Device → Device
      counted y = record y { actions = suc y.actions }

      abbrev paired : Transfer → Device → Device
      paired t d = record (counted (recorded t (copied t (counted d)))) { outstanding = (copied t (counted d)).outstanding }

      pair_first : (R : Device → Device → Type 0) (t : Transfer) (d : Device) (o : Outcome Device) → Ends R (End (paired t d)) o → Ends R (folded (prompt_step filler small) (pair t) d) o
      unfolding folded prompt_step acts started
      pair_first R t d o h =
          ends_first_then R (is_started d.outstanding t.tag) Tag (counted d) _ _ o (λ p. p) (λ free.
          ends_first_then R (is_away d.outstanding t.fast t.half) Touched (counted d) _ _ o (λ p. p) (λ here.
          ends_first_then R (start_races d.outstanding t) Race (counted d) _ _ o (λ p. p) (λ calm.
          (let z = copied t (counted d) in
          let two = last_record t z.outstanding (ap (λ l. is_started l t.tag) (copied_outstanding t (counted d)) ∙ free) in
          let same : nat_eq t.count t.count ≡ true = eq-eqb t.count t.count refl in
          let w = counted (recorded t z) in
          subst (λ x. Ends R (then_do x (λ d. End d)) o)
          (sym (ap (λ o. wait_on o t.tag t.count w) two.0
          ∙ ap (λ b. if b then End (record w { outstanding = without t.tag (z.outstanding ++ t ∷ []) }) else Fault Shape w) same
          ∙ ap (λ l. End (record w { outstanding = l })) two.1)) h))))
        where
          ends_first_then : (R : Device → Device → Type 0) (b : Bool) (k : FaultKind) (d : Device) (go : Outcome Device) (g : Device → Outcome Device) (o : Outcome Device) → (IsPlain k → ⊥) → (b ≡ false → Ends R (then_do go g) o) → Ends R (then_do (refused b k d go) g) o
          ends_first_then R true k d go g o h more = ends_any R k d o h
          ends_first_then R false k d go g o h more = more refl

      on_count : (d y : Device) → Related ring s d y → Related ring s (counted d) (counted y)
      on_count d y h = record {
        registers = h.registers;
        long = h.long;
        values = h.values;
        fresh = h.fresh;
        room_first = h.room_first;
        room_second = h.room_second;
        made = h.made;
        live = h.live;
        first = h.first;
        second = h.second;
        arrived = h.arrived;
      }

      -- one of the two runs counts an action
      on_first : (d y : Device) → Related ring s d y → Related ring s (counted d) y
      on_first d y h = record {
        registers = h.registers;
        long = h.long;
        values = h.values;
        fresh = h.fresh;
        room_first = h.room_first;
        room_second = h.room_second;
        made = h.made;
        live = h.live;
        first = h.first;
        second = h.second;
        arrived = h.arrived;
      }

      on_second : (d y : Device) → Related ring s d y → Related ring s d (counted y)
      on_second d y h = record {
        registers = h.registers;
        long = h.long;
        values = h.values;
        fresh = h.fresh;
        room_first = h.room_first;
        room_second = h.room_second;
        made = h.made;
        live = h.live;
        first = h.first;
        second = h.second;
        arrived = h.arrived;
      }

      -- what the second run brought ahead is what the first one brings now
      joined : (i j : ℕ) (t : Transfer) (d y : Device) → CanJoin large ring s i j t → Related ring s d y
          → Related ring (record s { agrees = λ p. s.agrees p || is_target t p }) (copied t d) y
      joined i j t d y c h = record {
        registers = h.registers ∙ sym (copied_registers t d);
        long = h.long ∙ sym (copied_long t d);
        values = λ p a. value p (is_target t p) refl (or_cases (s.agrees p) (is_target t p) a);
        fresh = λ p f. h.fresh p f ∙ sym (copied_else t d (Slow p) (λ e lt is. not_slow e p (sym (fast_is e) ∙ is)));
        room_first = λ p a. copied_room t d p (h.room_first p a);
        room_second = h.room_second;
        made = h.made;
        live = h.live;
        first = copied_outstanding t d ∙ h.first;
        second = h.second;
        arrived = h.arrived;
      }
        where
          fast_is : (e : ℕ) → target t e ≡ fast_end t e
          fast_is e = ap (λ b. if b then fast_end t e else slow_end t e) c.incoming'

          source_is : (e : ℕ) → source t e ≡ slow_end t e
          source_is e = ap (λ b. if b then slow_end t e else fast_end t e) c.incoming'

          not_slow : (e p : ℕ) → fast_end t e ≢ Slow p
          not_slow e p k = cc

          at_target : (e : ℕ) → e < t.count → value_at (place_in s (target t e)) y ≡ value_at (target t e) (copied t d)
          at_target e lt =
              let lt' : e < (ring i j).count = subst (λ n. e < n) (sym c.count) lt in
              ap (λ q. value_at (place_in s q) y) (fast_is e)
              ∙ ap (λ q. value_at q y) (sym (c.targets e lt))
              ∙ h.arrived i j c.out c.incoming e lt'
              ∙ ap (λ p. value_at (Slow p) y) (c.slow e lt)
              ∙ ap (λ o. value_at (moved_to (slow_place t e) o) y) (sym (c.lives e lt))
              ∙ h.values (slow_end t e) (c.same e lt)
              ∙ ap (λ q. value_at q d) (sym (source_is e))
              ∙ sym (copied_here t d (λ b. absurd (let k : true ≡ false = sym c.incoming' ∙ b in differ k)) (λ a la. subst (λ q. HasRoom q d) (sym (fast_is a)) (h.room_first (fast_end t a) (c.there a la))) e lt)
            where
              differ : true ≡ false → ⊥
              differ k = cc

          value : (p : Place) (b : Bool) → is_target t p ≡ b → (s.agrees p ≡ true) ⊎ (is_target t p ≡ true) → value_at (place_in s p) y ≡ value_at p (copied t d)
          value p true b a =
              let hit = target_hit t p b in
              subst (λ p. value_at (place_in s p) y ≡ value_at p (copied t d)) hit.2 (at_target hit.0 hit.1)
          value p false b (inr a) = let k : true ≡ false = sym a ∙ b in cc
          value p false b (inl a) = h.values p a ∙ sym (copied_else t d p (target_miss t p b))

      -- ---- allocations
      alloc_first : (R : Device → Device → Type 0) (n : ℕ) (element : Element) (sizes : List ℕ) (d : Device) (o : Outcome Device)
          → Ends R (End (allocated filler n element sizes d)) o → Ends R (prompt_alloc filler small n element sizes d) o
      alloc_first R n element sizes d o h = by (nat_le (d.live + bytes_of element sizes) small)
        where
          by : (b : Bool) → Ends R (if b then End (allocated filler n element sizes d) else Fault Capacity d) o
          by true = h
          by false = ends_any R Capacity d o (λ p. p)

      alloc_second : (n : ℕ) (element : Element) (sizes : List ℕ) (y : Device) → y.live ≡ s.live → s.live + bytes_of element sizes ≤ large
          → prompt_alloc filler large n element sizes y ≡ End (allocated filler n element sizes y)
      alloc_second n element sizes y is fits =
          let t : nat_le (y.live + bytes_of element sizes) large ≡ true = le-leb (y.live + bytes_of element sizes) large (subst (λ l. l + bytes_of element sizes ≤ large) (sym is) fits) in
          ap (λ b. if b then End (allocated filler n element sizes y) else Fault Capacity y) t

      -- a cell of a memref with such sizes
      is_cell : (n : ℕ) (sizes : List ℕ) (q : Place) → cells_of n sizes q ≡ true → (h : ℕ) × (c : ℕ) × (c < half_cells sizes) × (q ≡ Fast n h c)
      is_cell n sizes (Slow p) e = absurd (let k : false ≡ true = e in cc)
      is_cell n sizes (Fast m h c) e =
          let two = and_parts (nat_eq n m) (nat_lt c (half_cells sizes)) e in
          (h, c, ltb-true c (half_cells sizes) two.1, ap (λ n. Fast n h c) (sym (eqb-true n m two.0)))
      is_cell n sizes Outside e = absurd (let k : false ≡ true = e in cc)

      is_first_half : (n : ℕ) (sizes : List ℕ) (q : Place) → first_half n sizes q ≡ true → (c : ℕ) × (c < half_cells sizes) × (q ≡ Fast n 0 c)
      is_first_half n sizes (Slow p) e = absurd (let k : false ≡ true = e in cc)
      is_first_half n sizes (Fast m h c) e =
          let two = and_parts (nat_eq n m) (nat_eq 0 h && nat_lt c (half_cells sizes)) e in
          let more = and_parts (nat_eq 0 h) (nat_lt c (half_cells sizes)) two.1 in
          (c, ltb-true c (half_cells sizes) more.1, λ i. Fast (sym (eqb-true n m two.0) i) (sym (eqb-true 0 h more.0) i) c)
      is_first_half n sizes Outside e = absurd (let k : false ≡ true = e in cc)

      both_alloc : (n : ℕ) (element : Element) (sizes : List ℕ) (d y : Device) → AllowedBoth large ring (Allocates n element sizes) s → Related ring s d y
          → Ends (Related ring (after_both (Allocates n element sizes) s)) (prompt_alloc filler small n element sizes d) (prompt_alloc filler large (s.fast n) element sizes y)
      both_alloc n element sizes d y c h =
          alloc_first R n element sizes d _
          (subst (Ends R (End (allocated filler n element sizes d))) (sym (alloc_second (s.fast n) element sizes y h.live c.0))
          (record {
            registers = h.registers;
            long = h.long;
            values = λ q a. value q (cells_of n sizes q) refl (or_cases (s.agrees q) (cells_of n sizes q) a);
            fresh = h.fresh;
            room_first = λ q a. room1 q (cells_of n sizes q) refl (or_cases (s.there q) (cells_of n sizes q) a);
            room_second = λ q a. room2 q (cells_of n sizes q) refl (or_cases (s.there q) (cells_of n sizes q) a);
            made = λ q m. fresh_room_else filler (s.fast n) element sizes y q (c.3 q m) (h.made q m);
            live = ap (λ l. l + bytes_of element sizes) h.live;
            first = h.first;
            second = h.second;
            arrived = λ i j o inc e lt. fresh_else filler (s.fast n) element sizes y (fast_end (ring i j) e) (λ k l is. c.4 i j o inc (number is)) ∙ h.arrived i j o inc e lt;
          }))
        where
          number : {a b : ℕ} {k l e m : ℕ} → Fast a k e ≡ Fast b l m → a ≡ b
          number e = ap which e
            where
              which : Place → ℕ
              which (Slow p) = 0
              which (Fast n h c) = n
              which Outside = 0

          R : Device → Device → Type 0
          R = Related ring (after_both (Allocates n element sizes) s)

          moved_cell : (k l : ℕ) → place_in s (Fast n k l) ≡ Fast (s.fast n) k l
          moved_cell k l = ap (λ (b : Half). Fast b.number b.half l) (c.1 k)

          apart2 : (q : Place) → s.there q ≡ true → cells_of n sizes q ≡ false → (k l : ℕ) → place_in s q ≢ Fast (s.fast n) k l
          apart2 q t free k l = c.2 q t free k l

          apart1 : (q : Place) → s.there q ≡ true → cells_of n sizes q ≡ false → (k l : ℕ) → q ≢ Fast n k l
          apart1 q t free k l is = c.2 q t free k l (ap (place_in s) is ∙ moved_cell k l)

          value : (q : Place) (b : Bool) → cells_of n sizes q ≡ b → (s.agrees q ≡ true) ⊎ (cells_of n sizes q ≡ true) → value_at (place_in s q) (allocated filler (s.fast n) element sizes y) ≡ value_at q (allocated filler n element sizes d)
          value q true b a =
              let hit = is_cell n sizes q b in
              subst (λ q. value_at (place_in s q) (allocated filler (s.fast n) element sizes y) ≡ value_at q (allocated filler n element sizes d)) (sym hit.3)
              (ap (λ q. value_at q (allocated filler (s.fast n) element sizes y)) (moved_cell hit.0 hit.1) ∙ fresh_here filler (s.fast n) element sizes y hit.0 hit.1 ∙ sym (fresh_here filler n element sizes d hit.0 hit.1))
          value q false b (inr a) = let k : true ≡ false = sym a ∙ b in cc
          value q false b (inl a) =
              let t = sound.within q a in
              fresh_else filler (s.fast n) element sizes y (place_in s q) (apart2 q t b) ∙ h.values q a ∙ sym (fresh_else filler n element sizes d q (apart1 q t b))

          room1 : (q : Place) (b : Bool) → cells_of n sizes q ≡ b → (s.there q ≡ true) ⊎ (cells_of n sizes q ≡ true) → HasRoom q (allocated filler n element sizes d)
          room1 q true b a = let hit = is_cell n sizes q b in subst (λ q. HasRoom q (allocated filler n element sizes d)) (sym hit.3) (fresh_room filler n element sizes d hit.0 hit.1 hit.2)
          room1 q false b (inr a) = let k : true ≡ false = sym a ∙ b in cc
          room1 q false b (inl t) = fresh_room_else filler n element sizes d q (apart1 q t b) (h.room_first q t)

          room2 : (q : Place) (b : Bool) → cells_of n sizes q ≡ b → (s.there q ≡ true) ⊎ (cells_of n sizes q ≡ true) → HasRoom (place_in s q) (allocated filler (s.fast n) element sizes y)
          room2 q true b a =
              let hit = is_cell n sizes q b in
              subst (λ q. HasRoom q (allocated filler (s.fast n) element sizes y)) (sym (ap (place_in s) hit.3 ∙ moved_cell hit.0 hit.1)) (fresh_room filler (s.fast n) element sizes y hit.0 hit.1 hit.2)
          room2 q false b (inr a) = let k : true ≡ false = sym a ∙ b in cc
          room2 q false b (inl t) = fresh_room_else filler (s.fast n) element sizes y (place_in s q) (apart2 q t b) (h.room_second q t)

      alone_alloc : (n : ℕ) (element : Element) (sizes : List ℕ) (d y : Device) → AllowedAlone large ring (Allocates n element sizes) s → Related ring s d y
          → Related ring (after_alone (Allocates n element sizes) s) (allocated filler n element sizes d) y
      alone_alloc n element sizes d y c h = record {
        registers = h.registers;
        long = h.long;
        values = λ q a. h.values q a ∙ sym (fresh_else filler n element sizes d q (c.1 q (sound.within q a)));
        fresh = h.fresh;
        room_first = λ q a. room1 q (first_half n sizes q) refl (or_cases (s.there q) (first_half n sizes q) a);
        room_second = λ q a. room2 q (or_cases (s.there q) (first_half n sizes q) a);
        made = h.made;
        live = h.live;
        first = h.first;
        second = h.second;
        arrived = h.arrived;
      }
        where
          room1 : (q : Place) (b : Bool) → first_half n sizes q ≡ b → (s.there q ≡ true) ⊎ (first_half n sizes q ≡ true) → HasRoom q (allocated filler n element sizes d)
          room1 q true b a = let hit = is_first_half n sizes q b in subst (λ q. HasRoom q (allocated filler n element sizes d)) (sym hit.2) (fresh_room filler n element sizes d 0 hit.0 hit.1)
          room1 q false b (inr a) = let k : true ≡ false = sym a ∙ b in cc
          room1 q false b (inl t) = fresh_room_else filler n element sizes d q (c.1 q t) (h.room_first q t)

          room2 : (q : Place) → (s.there q ≡ true) ⊎ (first_half n sizes q ≡ true) → HasRoom (place_in s q) y
          room2 q (inl t) = h.room_second q t
          room2 q (inr a) = h.made (place_in s q) (c.0 q a)

      made_alloc : (n : ℕ) (element : Element) (sizes : List ℕ) (d y : Device) → AllowedMade large ring (Allocates n element sizes) s → Related ring s d y
          → Related ring (after_made (Allocates n element sizes) s) d (allocated filler n element sizes y)
      made_alloc n element sizes d y c h = record {
        registers = h.registers;
        long = h.long;
        values = λ q a. fresh_else filler n element sizes y (place_in s q) (c.1 q (sound.within q a)) ∙ h.values q a;
        fresh = h.fresh;
        room_first = h.room_first;
        room_second = λ q t. fresh_room_else filler n element sizes y (place_in s q) (c.1 q t) (h.room_second q t);
        made = λ q m. made' q (cells_of n sizes q) refl (or_cases (s.made q) (cells_of n sizes q) m);
        live = ap (λ l. l + bytes_of element sizes) h.live;
        first = h.first;
        second = h.second;
        arrived = λ i j o inc e lt. fresh_else filler n element sizes y (fast_end (ring i j) e) (λ k l is. c.3 i j o inc (ap which is)) ∙ h.arrived i j o inc e lt;
      }
        where
          which : Place → ℕ
          which (Slow p) = 0
          which (Fast n h c) = n
          which Outside = 0

          made' : (q : Place) (b : Bool) → cells_of n sizes q ≡ b → (s.made q ≡ true) ⊎ (cells_of n sizes q ≡ true) → HasRoom q (allocated filler n element sizes y)
          made' q true b a = let hit = is_cell n sizes q b in subst (λ q. HasRoom q (allocated filler n element sizes y)) (sym hit.3) (fresh_room filler n element sizes y hit.0 hit.1 hit.2)
          made' q false b (inr a) = let k : true ≡ false = sym a ∙ b in cc
          made' q false b (inl t) = fresh_room_else filler n element sizes y q (c.2 q t) (h.made q t)

      -- fewer live bytes
      fewer : (element : Element) (sizes : List ℕ) (d d' y : Device) → Related ring s d' y → d'.state.registers ≡ d.state.registers → Related ring (record s { live = s.live - bytes_of element sizes }) d' (released element sizes y)
      fewer element sizes d d' y h e = record {
        registers = h.registers;
        long = h.long;
        values = h.values;
        fresh = h.fresh;
        room_first = h.room_first;
        room_second = h.room_second;
        made = h.made;
        live = ap (λ l. l - bytes_of element sizes) h.live;
        first = h.first;
        second = h.second;
        arrived = h.arrived;
      }

      results : (r : Name) (o o' : Option ℤ) (d y : Device) → o' ≡ o → Related ring s d y → Ends (Related ring s) (carried d (keep_result r o d.state)) (carried y (keep_result r o' y.state))
      results r o o' d y e h = subst (λ o'. Ends (Related ring s) (carried d (keep_result r o d.state)) (carried y (keep_result r o' y.state))) (sym e) (by o)
        where
          by : (o : Option ℤ) → Ends (Related ring s) (carried d (keep_result r o d.state)) (carried y (keep_result r o y.state))
          by (Some z) = kept d y r z z refl h
          by None = λ p. refl

      -- what a store to a place adds
      claims_more : (q p : Place) → (s.agrees p || (same_place q p && s.there p)) ≡ true → (s.there p ≡ true) × ((q ≡ p) ⊎ (s.agrees p ≡ true))
      claims_more q p a = by (or_cases (s.agrees p) (same_place q p && s.there p) a)
        where
          by : (s.agrees p ≡ true) ⊎ ((same_place q p && s.there p) ≡ true) → (s.there p ≡ true) × ((q ≡ p) ⊎ (s.agrees p ≡ true))
          by (inl a) = (sound.within p a, inr a)
          by (inr e) = let two = and_parts (same_place q p) (s.there p) e in (two.1, inl (place_is q p two.0))

      keeps_fresh : (q : Place) (p : ℕ) → (s.fresh p && (if same_place q (Slow p) then is_none (s.lives p) else true)) ≡ true → (s.fresh p ≡ true) × (q ≡ Slow p → s.lives p ≡ None)
      keeps_fresh q p f =
          let two = and_parts (s.fresh p) (if same_place q (Slow p) then is_none (s.lives p) else true) f in
          (two.0, λ is. none (s.lives p) (sym (ap (λ t. if t then is_none (s.lives p) else true) (itself_place q p is)) ∙ two.1))
        where
          none : (o : Option Cell) → is_none o ≡ true → o ≡ None
          none None e = refl
          none (Some c) e = cc

          itself_place : (q : Place) (p : ℕ) → q ≡ Slow p → same_place q (Slow p) ≡ true
          itself_place q p is = ap (λ q. same_place q (Slow p)) is ∙ eq-eqb p p refl

      both_acts : (a : Action) (d y : Device) → AllowedBoth large ring a s → Related ring s d y → Ends (Related ring (after_both a s)) (acts filler small a d) (acts filler large (moved s a) y)
      unfolding acts direct_step
      both_acts Known d y c h = h
      both_acts (Sets r z) d y c h = kept d y r z z refl h
      both_acts (Loads r q) d y c h = loads r q d y c h
      both_acts (Stores x q) d y c h = stores (λ p. s.agrees p || (same_place q p && s.there p)) (λ p. s.fresh p && (if same_place q (Slow p) then is_none (s.lives p) else true)) q _ _ d y (same_read d y x h) c (claims_more q) (keeps_fresh q) h
      both_acts (RawLoads r home sizes subscripts) d y c h =
          let zs = map (read d.state.registers) subscripts in
          let at = c zs in
          subst (λ q. Ends (Related ring s) (prompt_load r (place_at home sizes zs) d) (prompt_load r q y))
          (sym (ap (λ f. raw_place f (home_in s home) sizes subscripts) h.registers ∙ at.0))
          (loads r (place_at home sizes zs) d y at.1 h)
      both_acts (RawStores x home sizes subscripts) d y c h =
          let zs = map (read d.state.registers) subscripts in
          let at = c zs in
          subst (λ q. Ends (Related ring s) (prompt_store (read d.state.registers x) (place_at home sizes zs) d) (prompt_store (read y.state.registers x) q y))
          (sym (ap (λ f. raw_place f (home_in s home) sizes subscripts) h.registers ∙ at.0))
          (stores s.agrees s.fresh (place_at home sizes zs) _ _ d y (same_read d y x h) at.1 (λ p a. (sound.within p a, inr a)) (λ p f. (f, at.2 p)) h)
      both_acts (Operates r op bits a b) d y c h =
          results r (operation op bits (read d.state.registers a) (read d.state.registers b)) _ d y (λ i. operation op bits (same_read d y a h i) (same_read d y b h i)) h
      both_acts (Converts r kind from to x) d y c h = kept d y r _ _ (ap (cast_value kind from to) (same_read d y x h)) h
      both_acts (Allocates n element sizes) d y c h = both_alloc n element sizes d y c h
      both_acts (Releases n element sizes) d y c h =
          ends_first (Related ring (after_both (Releases n element sizes) s)) (has_away d.outstanding n) Touched d _ _ (λ p. p) (λ free.
          subst (Ends (Related ring (after_both (Releases n element sizes) s)) (End (released element sizes d)))
          (sym (not_refused (has_away y.outstanding (s.fast n)) Touched y _ (clear (λ o. nat_eq o.fast (s.fast n)) d y c h)))
          (fewer element sizes (released element sizes d) (released element sizes d) y (record {
            registers = h.registers;
            long = h.long;
            values = h.values;
            fresh = h.fresh;
            room_first = h.room_first;
            room_second = h.room_second;
            made = h.made;
            live = h.live;
            first = h.first;
            second = h.second;
            arrived = h.arrived;
          }) refl))
      both_acts (AllocatesTags first count) d y c h = h
      both_acts (ReleasesTags first count) d y c h =
          ends_first (Related ring s) (has_started d.outstanding first count) Tag d _ _ (λ p. p) (λ free.
          subst (Ends (Related ring s) (End d))
          (sym (not_refused (has_started y.outstanding (s.tag first) count) Tag y _ (clear (λ o. nat_le (s.tag first) o.tag && nat_lt o.tag (s.tag first + count)) d y c h)))
          h)
      both_acts (Starts t) d y c h = both_start t d y c.0 c.1 h
      both_acts (Waits tag count) d y c h = both_wait tag count d y c h
      both_acts (Faults k) d y c h = λ p. refl
      both_acts Returns d y c h = h

      alone_acts : (a : Action) (d y : Device) → AllowedAlone large ring a s → Related ring s d y → Ends (Related ring (after_alone a s)) (acts filler small a d) (End y)
      unfolding acts direct_step
      alone_acts Known d y c h = h
      alone_acts (Sets r z) d y c h = absurd c
      alone_acts (Loads r q) d y c h = absurd c
      alone_acts (Stores x q) d y c h = absurd c
      alone_acts (RawLoads r home sizes subscripts) d y c h = absurd c
      alone_acts (RawStores x home sizes subscripts) d y c h = absurd c
      alone_acts (Operates r op bits a b) d y c h = absurd c
      alone_acts (Converts r kind from to x) d y c h = absurd c
      alone_acts (Allocates n element sizes) d y c h =
          alloc_first (Related ring (after_alone (Allocates n element sizes) s)) n element sizes d (End y) (alone_alloc n element sizes d y c h)
      alone_acts (Releases n element sizes) d y c h = ends_first (Related ring s) (has_away d.outstanding n) Touched d _ _ (λ p. p) (λ free. record {
        registers = h.registers;
        long = h.long;
        values = h.values;
        fresh = h.fresh;
        room_first = h.room_first;
        room_second = h.room_second;
        made = h.made;
        live = h.live;
        first = h.first;
        second = h.second;
        arrived = h.arrived;
      })
      alone_acts (AllocatesTags first count) d y c h = h
      alone_acts (ReleasesTags first count) d y c h = ends_first (Related ring s) (has_started d.outstanding first count) Tag d _ _ (λ p. p) (λ free. h)
      alone_acts (Starts t) d y c h = absurd c
      alone_acts (Waits tag count) d y c h = absurd c
      alone_acts (Faults k) d y c h = absurd c
      alone_acts Returns d y c h = absurd c

      made_acts : (a : Action) (d y : Device) → AllowedMade large ring a s → Related ring s d y → Ends (Related ring (after_made a s)) (End d) (acts filler large a y)
      unfolding acts direct_step
      made_acts Known d y c h = h
      made_acts (Sets r z) d y c h = absurd c
      made_acts (Loads r q) d y c h = absurd c
      made_acts (Stores x q) d y c h = absurd c
      made_acts (RawLoads r home sizes subscripts) d y c h = absurd c
      made_acts (RawStores x home sizes subscripts) d y c h = absurd c
      made_acts (Operates r op bits a b) d y c h = absurd c
      made_acts (Converts r kind from to x) d y c h = absurd c
      made_acts (Allocates n element sizes) d y c h =
          subst (Ends (Related ring (after_made (Allocates n element sizes) s)) (End d)) (sym (alloc_second n element sizes y h.live c.0)) (made_alloc n element sizes d y c h)
      made_acts (Releases n element sizes) d y c h =
          subst (Ends (Related ring (after_made (Releases n element sizes) s)) (End d))
          (sym (not_refused (has_away y.outstanding n) Touched y _ (clear (λ o. nat_eq o.fast n) d y c h)))
          (fewer element sizes d d y h refl)
      made_acts (AllocatesTags first count) d y c h = h
      made_acts (ReleasesTags first count) d y c h =
          subst (Ends (Related ring s) (End d))
          (sym (not_refused (has_started y.outstanding first count) Tag y _ (clear (λ o. nat_le first o.tag && nat_lt o.tag (first + count)) d y c h)))
          h
      made_acts (Starts t) d y c h = absurd c
      made_acts (Waits tag count) d y c h = absurd c
      made_acts (Faults k) d y c h = absurd c
      made_acts Returns d y c h = absurd c

      seen : (s' : Stage) (d y : Device) → IsSeenFrom large ring s s' → Related ring s d y → Related ring (next (Becomes s') s) d y
      seen s' d y c h = record {
        registers = h.registers;
        long = h.long;
        values = λ q a. value q (c.same q a);
        fresh = λ p f. h.fresh p (c.fresh p f);
        room_first = λ q t. h.room_first q (c.there q t).0;
        room_second = λ q t. room q (c.there q t).0 (c.there q t).1;
        made = λ q m. h.made q (c.made q m);
        live = h.live;
        first = h.first;
        second = woven_seen ring (image s) (image s') s.first s.out y.outstanding c.images h.second;
        arrived = h.arrived;
      }
        where
          value : (q : Place) → ((s.agrees q ≡ true) × (place_in s' q ≡ place_in s q)) ⊎ ((p : ℕ) × (q ≡ Slow p) × (s'.lives p ≡ None) × (s.fresh p ≡ true)) → value_at (place_in s' q) y ≡ value_at q d
          value q (inl (a, e)) = ap (λ q. value_at q y) e ∙ h.values q a
          value q (inr (p, is, none, f)) =
              subst (λ q. value_at (place_in s' q) y ≡ value_at q d) (sym is) (ap (λ o. value_at (moved_to p o) y) none ∙ h.fresh p f)

          room : (q : Place) → s.there q ≡ true → (place_in s' q ≡ place_in s q) ⊎ (s.made (place_in s' q) ≡ true) → HasRoom (place_in s' q) y
          room q t (inl e) = subst (λ q. HasRoom q y) (sym e) (h.room_second q t)
          room q t (inr m) = h.made (place_in s' q) m

      -- the second run alone starts a transfer and waits for it
      pair_second : (t : Transfer) (d y : Device) → CanStart large ring s t → Related ring s d y → folded (prompt_step filler large) (pair t) y ≡ End (paired t y)
      unfolding folded prompt_step acts started
      pair_second t d y c h =
          let y1 = counted y in
          let z = copied t y1 in
          let idle = clear (tag_meets t) d y c.tag h in
          let two = last_record t z.outstanding (ap (λ l. is_started l t.tag) (copied_outstanding t y1) ∙ idle) in
          let same : nat_eq t.count t.count ≡ true = eq-eqb t.count t.count refl in
          let w = counted (recorded t z) in
          ap (λ o. then_do o (λ y. then_do (wait_on (record_of t.tag y.outstanding) t.tag t.count (counted y)) (λ y. End y)))
          (not_refused (is_started y.outstanding t.tag) Tag y1 _ idle
          ∙ not_refused (is_away y.outstanding t.fast t.half) Touched y1 _ (clear (half_meets t) d y c.half h)
          ∙ not_refused (start_races y.outstanding t) Race y1 _ (clear (race_meets t) d y c.race h))
          ∙ ap (λ o. then_do (wait_on o t.tag t.count w) (λ y. End y)) two.0
          ∙ ap (λ b. then_do (if b then End (record w { outstanding = without t.tag (z.outstanding ++ t ∷ []) }) else Fault Shape w) (λ y. End y)) same
          ∙ ap (λ l. End (record w { outstanding = l })) two.1

      brought : (t : Transfer) (lives : ℕ → Option Cell) (d y : Device) → CanBring large ring s t lives → Related ring s d y → Related ring (record s { lives = lives }) d (paired t y)
      brought t lives d y c h = record {
        registers = copied_registers t (counted y) ∙ h.registers;
        long = copied_long t (counted y) ∙ h.long;
        values = λ q a. value q a;
        fresh = λ p f. copied_else t (counted y) (Slow p) (λ e lt is. not_slow e p (sym (fast_is e) ∙ is)) ∙ h.fresh p f;
        room_first = h.room_first;
        room_second = λ q a. room q a;
        made = λ q m. copied_room t (counted y) q (h.made q m);
        live = copied_live t (counted y) ∙ h.live;
        first = h.first;
        second = subst (Woven ring (image s) s.first s.out) (sym (copied_outstanding t (counted y))) h.second;
        arrived = λ i j o inc. still_there t (ring i j) (counted y) (c.start.half.own i j o) (c.start.race.own i j o) inc (h.arrived i j o inc);
      }
        where
          fast_is : (e : ℕ) → target t e ≡ fast_end t e
          fast_is e = ap (λ b. if b then fast_end t e else slow_end t e) c.incoming

          source_is : (e : ℕ) → source t e ≡ slow_end t e
          source_is e = ap (λ b. if b then slow_end t e else fast_end t e) c.incoming

          not_slow : (e p : ℕ) → fast_end t e ≢ Slow p
          not_slow e p k = cc

          differ : true ≡ false → ⊥
          differ k = cc

          new : Stage
          new = record s { lives = lives }

          hit : (p : ℕ) (e : ℕ) → e < t.count → slow_place t e ≡ p → s.agrees (Slow p) ≡ true → value_at (moved_to p (lives p)) (paired t y) ≡ value_at (Slow p) d
          hit p e lt is a =
              ap (λ o. value_at (moved_to p o) (paired t y)) (ap lives (sym is) ∙ c.behind e lt)
              ∙ ap (λ q. value_at q (copied t (counted y))) (sym (fast_is e))
              ∙ copied_here t (counted y) (λ b. absurd (differ (sym c.incoming ∙ b))) (λ a la. subst (λ q. HasRoom q y) (sym (fast_is a)) (h.made (fast_end t a) (c.made a la))) e lt
              ∙ ap (λ q. value_at q y) (source_is e)
              ∙ ap (λ p. value_at (Slow p) y) is
              ∙ ap (λ o. value_at (moved_to p o) y) (sym (ap s.lives (sym is) ∙ c.before e lt))
              ∙ h.values (Slow p) a

          miss : (q : Place) → s.agrees q ≡ true → value_at (place_in s q) (paired t y) ≡ value_at q d
          miss q a = copied_else t (counted y) (place_in s q) (λ e lt is. c.apart q a e lt (sym is ∙ fast_is e)) ∙ h.values q a

          value : (q : Place) → s.agrees q ≡ true → value_at (place_in (record s { lives = lives }) q) (paired t y) ≡ value_at q d
          value (Slow p) a = by (meets t p) refl
            where
              by : (b : Bool) → meets t p ≡ b → value_at (moved_to p (lives p)) (paired t y) ≡ value_at (Slow p) d
              by true b = let k = slow_hit t p b in hit p k.0 k.1 k.2 a
              by false b = ap (λ o. value_at (moved_to p o) (paired t y)) (c.others p b) ∙ miss (Slow p) a
          value (Fast n k l) a = miss (Fast n k l) a
          value Outside a = refl

          room : (q : Place) → s.there q ≡ true → HasRoom (place_in (record s { lives = lives }) q) (paired t y)
          room (Slow p) a = by (meets t p) refl
            where
              by : (b : Bool) → meets t p ≡ b → HasRoom (moved_to p (lives p)) (paired t y)
              by true b =
                  let k = slow_hit t p b in
                  subst (λ o. HasRoom (moved_to p o) (paired t y)) (sym (ap lives (sym k.2) ∙ c.behind k.0 k.1)) (copied_room t (counted y) (fast_end t k.0) (h.made (fast_end t k.0) (c.made k.0 k.1)))
              by false b = subst (λ o. HasRoom (moved_to p o) (paired t y)) (sym (c.others p b)) (copied_room t (counted y) (place_in s (Slow p)) (h.room_second (Slow p) a))
          room (Fast n k l) a = copied_room t (counted y) (place_in s (Fast n k l)) (h.room_second (Fast n k l) a)
          room Outside a = h.room_first Outside a

      taken : (t : Transfer) (d y : Device) → CanTake large ring s t → Related ring s d y → Related ring (record s { fresh = λ p. s.fresh p || meets t p }) d (paired t y)
      taken t d y c h = record {
        registers = copied_registers t (counted y) ∙ h.registers;
        long = copied_long t (counted y) ∙ h.long;
        values = λ q a. copied_else t (counted y) (place_in s q) (λ e lt is. stays q e lt (sym is ∙ slow_is e)) ∙ h.values q a;
        fresh = λ p f. same p (meets t p) refl (or_cases (s.fresh p) (meets t p) f);
        room_first = h.room_first;
        room_second = λ q a. copied_room t (counted y) (place_in s q) (h.room_second q a);
        made = λ q m. copied_room t (counted y) q (h.made q m);
        live = copied_live t (counted y) ∙ h.live;
        first = h.first;
        second = subst (Woven ring (image s) s.first s.out) (sym (copied_outstanding t (counted y))) h.second;
        arrived = λ i j o inc. still_there t (ring i j) (counted y) (c.start.half.own i j o) (c.start.race.own i j o) inc (h.arrived i j o inc);
      }
        where
          slow_is : (e : ℕ) → target t e ≡ slow_end t e
          slow_is e = ap (λ b. if b then fast_end t e else slow_end t e) c.outgoing

          source_is : (e : ℕ) → source t e ≡ fast_end t e
          source_is e = ap (λ b. if b then slow_end t e else fast_end t e) c.outgoing

          -- no place is seen in the slow places of what lives in fast memory
          stays : (q : Place) (e : ℕ) → e < t.count → place_in s q ≢ slow_end t e
          stays q e lt is =
              let home = slow_home s q (slow_place t e) is in
              unlike (record { number = t.fast; half = t.half; cell = t.offset + e }) (sym home.1 ∙ c.lives e lt)
            where
              unlike : (c : Cell) → None ≡ Some c → ⊥
              unlike c k = cc

          same : (p : ℕ) (b : Bool) → meets t p ≡ b → (s.fresh p ≡ true) ⊎ (meets t p ≡ true) → value_at (Slow p) (paired t y) ≡ value_at (Slow p) d
          same p true b f =
              let k = slow_hit t p b in
              subst (λ p. value_at (Slow p) (paired t y) ≡ value_at (Slow p) d) k.2
              (ap (λ q. value_at q (copied t (counted y))) (sym (slow_is k.0))
              ∙ copied_here t (counted y) (λ b. record { some = c.some; wide = c.wide }) (λ a la. subst (λ q. HasRoom q y) (sym (slow_is a)) (h.made (slow_end t a) (c.made a la))) k.0 k.1
              ∙ ap (λ q. value_at q y) (source_is k.0)
              ∙ ap (λ o. value_at (moved_to (slow_place t k.0) o) y) (sym (c.lives k.0 k.1))
              ∙ h.values (slow_end t k.0) (c.agrees k.0 k.1))
          same p false b (inr f) = let k : true ≡ false = sym f ∙ b in cc
          same p false b (inl f) = copied_else t (counted y) (Slow p) (λ e lt is. (let z : true ≡ false = sym (meets_at t p e lt (ap place (sym (slow_is e) ∙ is))) ∙ b in differ z)) ∙ h.fresh p f
            where
              differ : true ≡ false → ⊥
              differ k = cc

              place : Place → ℕ
              place (Slow p) = p
              place (Fast n h c) = 0
              place Outside = 0

      joined_sound : (i j : ℕ) (t : Transfer) → CanJoin large ring s i j t → Sound large ring (record s { agrees = λ p. s.agrees p || is_target t p })
      joined_sound i j t c = record {
        within = λ q a. within q (or_cases (s.agrees q) (is_target t q) a);
        alone = sound.alone;
      }
        where
          within : (q : Place) → (s.agrees q ≡ true) ⊎ (is_target t q ≡ true) → s.there q ≡ true
          within q (inl a) = sound.within q a
          within q (inr b) =
              let hit = target_hit t q b in
              subst (λ q. s.there q ≡ true) (ap (λ b. if b then fast_end t hit.0 else slow_end t hit.0) (sym c.incoming') ∙ hit.2) (c.there hit.0 hit.1)

      left : (i j : ℕ) (t : Transfer) (d y : Device) → CanLeave large ring s i j t → Related ring (record s { agrees = λ p. s.agrees p || is_target t p }) (copied t (counted d)) (copied (ring i j) (counted y))
          → Related ring (record s { out = with_out i j s.out }) (paired t d) (started (ring i j) (counted y))
      unfolding started
      left i j t d y c k = record {
        registers = k.registers;
        long = k.long;
        values = λ q a. k.values q (or_left (s.agrees q) (is_target t q) a);
        fresh = k.fresh;
        room_first = k.room_first;
        room_second = k.room_second;
        made = k.made;
        live = k.live;
        first = k.first;
        second = woven_own ring (image s) i j s.first s.out (copied (ring i j) (counted y)).outstanding c.out k.second;
        arrived = λ a b o inc. k.arrived a b (was a b (nat_eq i a && nat_eq j b) refl o inc) inc;
      }
        where
          or_left : (a b : Bool) → a ≡ true → (a || b) ≡ true
          or_left a b e = ap (λ a. a || b) e

          was : (a b : ℕ) (x : Bool) → (nat_eq i a && nat_eq j b) ≡ x → with_out i j s.out a b ≡ true → (ring a b).incoming ≡ true → s.out a b ≡ true
          was a b true x o inc =
              let two = and_parts (nat_eq i a) (nat_eq j b) x in
              let e : ring i j ≡ ring a b = λ k. ring (eqb-true i a two.0 k) (eqb-true j b two.1 k) in
              let k : false ≡ true = sym c.outgoing ∙ ap (λ (u : Transfer). u.incoming) e ∙ inc in cc
          was a b false x o inc = sym (ap (λ t. if t then true else s.out a b) x) ∙ o

  abbrev first_run : List Action → Device → Outcome Device
  first_run xs d = folded (prompt_step filler small) xs d

  abbrev second_run : List Action → Device → Outcome Device
  second_run xs y = folded (prompt_step filler large) xs y

  one_step : (x : Step) (s : Stage) (d y : Device) → Sound large ring s → Allowed large ring x s → Related ring s d y
      → Ends (Related ring (next x s)) (first_run (first_of ring x) d) (second_run (second_of ring x) y)
  unfolding folded prompt_step acts
  one_step (Both a b) s d y ok c h =
      subst (λ b. Ends (Related ring (after_both a s)) (first_run (a ∷ []) d) (second_run (b ∷ []) y)) (sym c.0)
      (ends_then (Related ring (after_both a s)) (Related ring (after_both a s)) (prompt_step filler small a d) (prompt_step filler large (moved s a) y) (λ d. End d) (λ y. End y)
      (both_acts s ok a (counted s ok d) (counted s ok y) c.1 (on_count s ok d y h)) (λ d y h. h))
  one_step (Alone a) s d y ok c h =
      ends_then (Related ring (after_alone a s)) (Related ring (after_alone a s)) (prompt_step filler small a d) (End y) (λ d. End d) (λ y. End y)
      (alone_acts s ok a (counted s ok d) y c (on_first s ok d y h)) (λ d y h. h)
  one_step (Made a) s d y ok c h =
      ends_then (Related ring (after_made a s)) (Related ring (after_made a s)) (End d) (prompt_step filler large a y) (λ d. End d) (λ y. End y)
      (made_acts s ok a d (counted s ok y) c (on_second s ok d y h)) (λ d y h. h)
  one_step (Ahead i j) s d y ok c h =
      let two = ahead s ok i j d (counted s ok y) c (on_second s ok d y h) in
      subst (λ o. Ends (Related ring (next (Ahead i j) s)) (End d) (then_do o (λ y. End y))) (sym two.0) two.1
  one_step (Joins i j t) s d y ok c h =
      let s1 : Stage = record s { agrees = λ p. s.agrees p || is_target t p } in
      let k = joined s ok i j t (counted s ok d) (counted s ok y) c (on_count s ok d y h) in
      let two = late s1 (joined_sound s ok i j t c) i j (copied t (counted s ok d)) (counted s ok y) c.out c.tags c.others k in
      pair_first s ok (Related ring (next (Joins i j t) s)) t d (second_run (Waits (ring i j).tag (ring i j).count ∷ []) y)
      (subst (λ o. Ends (Related ring (next (Joins i j t) s)) (End (paired s ok t d)) (then_do o (λ y. End y))) (sym two.0) (
      let m = two.1 in record {
        registers = m.registers;
        long = m.long;
        values = m.values;
        fresh = m.fresh;
        room_first = m.room_first;
        room_second = m.room_second;
        made = m.made;
        live = m.live;
        first = m.first;
        second = m.second;
        arrived = m.arrived;
      }))
  one_step (Leaves i j t) s d y ok c h =
      let k = copies s ok t (ring i j) (counted s ok d) (counted s ok y) c.copy c.start (on_count s ok d y h) in
      pair_first s ok (Related ring (next (Leaves i j t) s)) t d (second_run (Starts (ring i j) ∷ []) y)
      (subst (λ o. Ends (Related ring (next (Leaves i j t) s)) (End (paired s ok t d)) (then_do o (λ y. End y))) (sym (start_second s ok (ring i j) (counted s ok d) (counted s ok y) c.start (on_count s ok d y h)))
      (left s ok i j t d y c k))
  one_step (Late i j) s d y ok c h =
      let two = late s ok i j d (counted s ok y) c.out c.tags c.others (on_second s ok d y h) in
      subst (λ o. Ends (Related ring (next (Late i j) s)) (End d) (then_do o (λ y. End y))) (sym two.0) two.1
  one_step (Brings t lives) s d y ok c h =
      subst (Ends (Related ring (record s { lives = lives })) (End d)) (sym (pair_second s ok t d y c.start h)) (brought s ok t lives d y c h)
  one_step (Takes t) s d y ok c h =
      subst (Ends (Related ring (next (Takes t) s)) (End d)) (sym (pair_second s ok t d y c.start h)) (taken s ok t d y c h)
  one_step (Becomes s') s d y ok c h = seen s ok s' d y c h

  -- the run theorem: as long as each step is allowed at its stage, both runs go together
  pub steps_run : (xs : List Step) (s : Stage) (d y : Device) → Goes large ring xs s → Related ring s d y
      → Ends (Related ring (behind xs s)) (first_run (first_list ring xs) d) (second_run (second_list ring xs) y)
  unfolding folded
  steps_run [] s d y c h = h
  steps_run (x ∷ xs) s d y c h =
      subst (λ o. Ends (Related ring (behind xs (next x s))) o (second_run (second_of ring x ++ second_list ring xs) y)) (sym (folded-append (prompt_step filler small) (first_of ring x) (first_list ring xs) d))
      (subst (λ o. Ends (Related ring (behind xs (next x s))) (then_do (first_run (first_of ring x) d) (first_run (first_list ring xs))) o) (sym (folded-append (prompt_step filler large) (second_of ring x) (second_list ring xs) y))
      (ends_then (Related ring (next x s)) (Related ring (behind xs (next x s))) (first_run (first_of ring x) d) (second_run (second_of ring x) y) (first_run (first_list ring xs)) (second_run (second_list ring xs))
      (one_step x s d y c.0 c.1 h) (λ d y h. steps_run xs (next x s) d y c.2 h)))
