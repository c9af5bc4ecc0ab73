-- Transfers with a wait each bring the box into fast memory and put it back.
use Rattle.std.proofs.Common.{◌≡◌, ◌≢◌, inl, inr, ℕ, suc, ◌+◌, ◌<◌, ◌≤◌, ℤ, pos, List, [], ◌∷◌, ◌++◌, length, get_or, refl, sym, ap, ◌∙◌, subst, arith, Bool, true, false, map}
use Rattle.std.specs.Prelude.{◌&&◌, ◌||◌, Some, None, nat_eq, nat_lt, nat_le, if◌then◌else◌}
use Rattle.std.specs.List.{list_any}
use Rattle.std.proofs.lemmas.Bool.{eq-eqb, ne_eqb, and_parts, leb-true, ltb-true}
use Rattle.affine_ast.specs.declared.name.Name.{Name}
use Rattle.affine_ast.specs.declared.types.Element.{Element}
use Rattle.bus_model.specs.declared.step.FaultKind.TheVariants.{Touched, Race, Tag, Shape}
use Rattle.bus_model.specs.declared.transfer.Transfer.{Transfer}
use Rattle.bus_model.specs.Places.{slow_place}
use Rattle.bus_model.specs.Copies.{number_at, moved_in, moved_out}
use Rattle.bus_model.proofs.Copies.{length-first_in, first_in_here, length-first_out, first_out_here, first_out_else}
use Rattle.direct_meaning.specs.Transfers.{meets, overlap}
use Rattle.direct_meaning.specs.Actions.{half_cells}
use Rattle.direct_meaning.specs.Action.{Action, Allocates, Releases, AllocatesTags, ReleasesTags, Starts, Waits}
use Rattle.direct_meaning.specs.Direct.{Outcome, End, Fault, then_do, folded}
use Rattle.direct_meaning.proofs.Laws.{folded-append, folded-cons, folded-nil}
use Rattle.prompt_semantics.specs.Device.{Device, put_half, allocated, released, is_away, has_away, is_started, has_started, start_races, started, record_of, without}
use Rattle.prompt_semantics.proofs.Laws.{half_same, half_other}
use Rattle.prompt_semantics.specs.Prompt.{refused, wait_on, acts}
use Rattle.box_run_laws.specs.Roomy.{roomy, roomy_step}
use Rattle.boxes.specs.Every.{Every}
use Rattle.box_run_laws.specs.Layouts.{Numbering, Renumbers, renumbered, Mixed}
use Rattle.box_run_laws.specs.Owned.{Related}
use Rattle.box_run_laws.specs.Boxes.{Half, boxed, Misses, Allows}
use Rattle.box_run_laws.specs.Parts.{IsBox}
use Rattle.box_run_laws.specs.Templates.{Carrier, carrying, Carries, by_transfers}
use Rattle.box_run_laws.proofs.Tests.{none_map, none_in_range, meets_none, same_places}
use Rattle.box_run_laws.proofs.Mixes.{mixed_alone}
use Rattle.box_run_laws.proofs.Boxes.{all_allowed, opened, closed_kept, closed_written, PutBack}
use Rattle.box_run_laws.proofs.Copies.{itself}
use Rattle.box_run_laws.proofs.Halves.{half_here, none_away, takes, gives_back, fresh_long, Filled, filled_opens, fresh_opens}
use Rattle.box_run_laws.proofs.Parts.{Apart, Opens, Closes}

-- ---- the transfer that was started last
or_none : (a b : Bool) → (a || b) ≡ false → (a ≡ false) × (b ≡ false)
or_none true b h = let k : true ≡ false = h in absurd (cc)
or_none false b h = (refl, h)

record_last : (tag : ℕ) (t : Transfer) (ts : List Transfer) → t.tag ≡ tag → is_started ts tag ≡ false → record_of tag (ts ++ t ∷ []) ≡ Some t
record_last tag t [] e h = ap (λ b. if b then Some t else None) (eq-eqb t.tag tag e)
record_last tag t (x ∷ ts) e h =
    let two = or_none (nat_eq x.tag tag) (is_started ts tag) h in
    ap (λ b. if b then Some x else record_of tag (ts ++ t ∷ [])) two.0 ∙ record_last tag t ts e two.1

without_last : (tag : ℕ) (t : Transfer) (ts : List Transfer) → t.tag ≡ tag → is_started ts tag ≡ false → without tag (ts ++ t ∷ []) ≡ ts
without_last tag t [] e h = ap (λ b. if b then [] else t ∷ []) (eq-eqb t.tag tag e)
without_last tag t (x ∷ ts) e h =
    let two = or_none (nat_eq x.tag tag) (is_started ts tag) h in
    ap (λ b. if b then ts ++ t ∷ [] else x ∷ without tag (ts ++ t ∷ [])) two.0 ∙ ap (λ l. x ∷ l) (without_last tag t ts e two.1)

any_none_map : {A B : Type 0} (Q : A → Type 0) (p : B → Bool) (f : A → B) → ((a : A) → Q a → p (f a) ≡ false) → (xs : List A) → Every Q xs → list_any p (map f xs) ≡ false
any_none_map Q p f h [] k = refl
any_none_map Q p f h (x ∷ xs) k = λ i. h x k.0 i || any_none_map Q p f h xs k.1 i

if_none : (s t u : Bool) → u ≡ false → (if s then (if t then false else u) else u) ≡ false
if_none true true u e = refl
if_none true false u e = e
if_none false t u e = e

module _ (own : Name → Bool) (nu : Numbering) (is : Renumbers nu) (b : Half) (total : ℕ) (new : (n : ℕ) → nu.fasts n ≢ b.number) (filler : ℤ)
    (element : Element) (sizes : List ℕ) (long : half_cells sizes ≡ b.count) (c : Carrier) (new_tag : (n : ℕ) → nu.tags n ≢ c.tag) where
  abbrev P : Action → Device → Outcome Device
  P = roomy_step filler

  abbrev taken : Device → Device
  taken y = allocated filler b.number element sizes (record y { actions = suc y.actions })

  -- ---- the tag is idle, and nothing races
  idle_tag : (ts zs : List Transfer) → Mixed (map (renumbered nu) ts) [] zs → is_started zs c.tag ≡ false
  idle_tag ts zs m =
      ap (λ l. is_started l c.tag) (mixed_alone (map (renumbered nu) ts) zs m)
      ∙ none_map (λ t. nat_eq t.tag c.tag) (renumbered nu) (λ t. ne_eqb (nu.tags t.tag) c.tag (new_tag t.tag)) ts

  idle_tags : (ts zs : List Transfer) → Mixed (map (renumbered nu) ts) [] zs → has_started zs c.tag 1 ≡ false
  idle_tags ts zs m =
      ap (λ l. has_started l c.tag 1) (mixed_alone (map (renumbered nu) ts) zs m)
      ∙ none_map (λ t. nat_le c.tag t.tag && nat_lt t.tag (c.tag + 1)) (renumbered nu) (λ t. by t (nat_le c.tag (nu.tags t.tag) && nat_lt (nu.tags t.tag) (c.tag + 1)) refl) ts
    where
      by : (t : Transfer) (s : Bool) → (nat_le c.tag (nu.tags t.tag) && nat_lt (nu.tags t.tag) (c.tag + 1)) ≡ s → s ≡ false
      by t false e = refl
      by t true e =
          let two = and_parts (nat_le c.tag (nu.tags t.tag)) (nat_lt (nu.tags t.tag) (c.tag + 1)) e in
          let low : c.tag ≤ nu.tags t.tag = leb-true c.tag (nu.tags t.tag) two.0 in
          let high : nu.tags t.tag < c.tag + 1 = ltb-true (nu.tags t.tag) (c.tag + 1) two.1 in
          absurd (new_tag t.tag (omega (arith, low, high)))

  -- the places of the transfer either way
  same_way : (place : ℕ → ℕ) (incoming : Bool) (e : ℕ) → slow_place (carrying b c incoming place) e ≡ slow_place (carrying b c true place) e
  unfolding slow_place
  same_way place incoming e = refl

  no_overlap : (place : ℕ → ℕ) (incoming : Bool) (o : Transfer) → Carries b c place → Misses place b.count o → overlap (renumbered nu o) (carrying b c incoming place) ≡ false
  no_overlap place incoming o carries h =
      ap (list_any (meets (carrying b c incoming place))) (same_places nu o)
      ∙ none_in_range (meets (carrying b c incoming place)) (slow_place o) o.count 0
      (λ e k l. meets_none (carrying b c incoming place) (slow_place o e) (λ j m same. h e (omega (arith, l)) j m (sym same ∙ same_way place incoming j ∙ carries j m)))

  -- no transfer of the old run that may be under way races with it: out only where the box is written
  pub own_free : (place : ℕ → ℕ) (incoming : Bool) (ts : List Transfer) → Carries b c place → (incoming ≡ false → b.writes ≡ true) → Every (Allows b place) ts → start_races (map (renumbered nu) ts) (carrying b c incoming place) ≡ false
  own_free place incoming ts carries out miss =
      any_none_map (Allows b place) (λ o. (if incoming then (if o.incoming then false else overlap o t) else overlap o t)) (renumbered nu) one ts miss
    where
      t : Transfer
      t = carrying b c incoming place

      coming : (s w : Bool) (o : Transfer) → s ≡ incoming → b.writes ≡ false → o.incoming ≡ true → (if s then (if o.incoming then false else overlap (renumbered nu o) t) else overlap (renumbered nu o) t) ≡ false
      coming true w o e f g = ap (λ s. if s then false else overlap (renumbered nu o) t) g
      coming false w o e f g = let h : true ≡ false = sym (out (sym e)) ∙ f in absurd (cc)

      one : (o : Transfer) → Allows b place o → (if incoming then (if o.incoming then false else overlap (renumbered nu o) t) else overlap (renumbered nu o) t) ≡ false
      one o (inl k) = coming incoming b.writes o refl k.0 k.1
      one o (inr h) = if_none incoming o.incoming (overlap (renumbered nu o) t) (no_overlap place incoming o carries h)

  free : (place : ℕ → ℕ) (incoming : Bool) (ts zs : List Transfer) → Carries b c place → (incoming ≡ false → b.writes ≡ true) → Mixed (map (renumbered nu) ts) [] zs → Every (Allows b place) ts → start_races zs (carrying b c incoming place) ≡ false
  free place incoming ts zs carries out m miss = ap (λ l. start_races l (carrying b c incoming place)) (mixed_alone (map (renumbered nu) ts) zs m) ∙ own_free place incoming ts carries out miss

  -- ---- a start and its wait
  abbrev pub tin : (ℕ → ℕ) → Transfer
  tin place = carrying b c true place

  abbrev pub tout : (ℕ → ℕ) → Transfer
  tout place = carrying b c false place

  -- the device behind both
  abbrev pub behind_in : (ℕ → ℕ) → Device → Device
  behind_in place y = record y {
    halves = put_half y.halves b.number b.half (moved_in (tin place) y.state.slow (y.halves b.number b.half));
    outstanding = without c.tag (y.outstanding ++ tin place ∷ []);
    actions = suc (suc y.actions);
    engine_steps = y.engine_steps + (b.count + 2);
  }

  abbrev pub behind_out : (ℕ → ℕ) → Device → Device
  behind_out place y = record y {
    state = record y.state { slow = moved_out (tout place) (y.halves b.number b.half) y.state.slow };
    outstanding = without c.tag (y.outstanding ++ tout place ∷ []);
    actions = suc (suc y.actions);
    engine_steps = y.engine_steps + (b.count + 2);
  }

  waited : (t : Transfer) (y z : Device) → t.tag ≡ c.tag → t.count ≡ b.count → is_started y.outstanding c.tag ≡ false → z.outstanding ≡ y.outstanding ++ t ∷ [] → wait_on (record_of c.tag z.outstanding) c.tag b.count z ≡ End (record z { outstanding = without c.tag z.outstanding })
  waited t y z e f idle g =
      ap (λ o. wait_on o c.tag b.count z) (ap (record_of c.tag) g ∙ record_last c.tag t y.outstanding e idle)
      ∙ ap (λ s. if s then End (record z { outstanding = without c.tag z.outstanding }) else Fault Shape z) (eq-eqb t.count b.count f)

  start_in : (place : ℕ → ℕ) (y : Device) (go : Device → Outcome Device) → is_started y.outstanding c.tag ≡ false → is_away y.outstanding b.number b.half ≡ false → start_races y.outstanding (tin place) ≡ false
      → then_do (P (Starts (tin place)) y) (λ y. then_do (P (Waits c.tag b.count) y) go) ≡ go (behind_in place y)
  unfolding roomy_step roomy acts started
  start_in place y go idle here race =
      let y1 = record y { actions = suc y.actions } in
      let s = started (tin place) y1 in
      let next = λ (y : Device). then_do (P (Waits c.tag b.count) y) go in
      ap (λ t. then_do (refused t Tag y1 (refused (is_away y.outstanding b.number b.half) Touched y1 (refused (start_races y.outstanding (tin place)) Race y1 (End s)))) next) idle
      ∙ ap (λ t. then_do (refused t Touched y1 (refused (start_races y.outstanding (tin place)) Race y1 (End s))) next) here
      ∙ ap (λ t. then_do (refused t Race y1 (End s)) next) race
      ∙ ap (λ o. then_do o go) (waited (tin place) y (record s { actions = suc s.actions }) refl refl idle refl)

  pub start_out : (place : ℕ → ℕ) (y : Device) (go : Device → Outcome Device) → is_started y.outstanding c.tag ≡ false → is_away y.outstanding b.number b.half ≡ false → start_races y.outstanding (tout place) ≡ false
      → then_do (P (Starts (tout place)) y) (λ y. then_do (P (Waits c.tag b.count) y) go) ≡ go (behind_out place y)
  unfolding roomy_step roomy acts started
  start_out place y go idle here race =
      let y1 = record y { actions = suc y.actions } in
      let s = started (tout place) y1 in
      let next = λ (y : Device). then_do (P (Waits c.tag b.count) y) go in
      ap (λ t. then_do (refused t Tag y1 (refused (is_away y.outstanding b.number b.half) Touched y1 (refused (start_races y.outstanding (tout place)) Race y1 (End s)))) next) idle
      ∙ ap (λ t. then_do (refused t Touched y1 (refused (start_races y.outstanding (tout place)) Race y1 (End s))) next) here
      ∙ ap (λ t. then_do (refused t Race y1 (End s)) next) race
      ∙ ap (λ o. then_do o go) (waited (tout place) y (record s { actions = suc s.actions }) refl refl idle refl)

  -- ---- what they leave
  pub filled : (place : ℕ → ℕ) (y : Device) → Carries b c place → is_started y.outstanding c.tag ≡ false → length (y.halves b.number b.half) ≡ b.count → Filled own nu is b total new filler place y (behind_in place y)
  filled place y carries idle size =
      let cells = y.halves b.number b.half in
      let here : (behind_in place y).halves b.number b.half ≡ moved_in (tin place) y.state.slow cells = half_same y.halves b.number b.half b.number b.half _ (itself b.number b.half) in
      record {
        registers = λ x e. refl;
        slow = refl;
        others = λ m j e. half_other y.halves b.number b.half m j _ e;
        copied = λ k l.
            let zero_more : 0 + k ≡ k = omega arith in
            ap (λ l. get_or l k (pos 0)) here
            ∙ ap (λ i. number_at (moved_in (tin place) y.state.slow cells) i) (sym zero_more)
            ∙ first_in_here (tin place) y.state.slow cells b.count k l (omega (arith, size))
            ∙ ap (number_at y.state.slow) (carries k l);
        long = ap length here ∙ length-first_in (tin place) y.state.slow cells b.count;
        outstanding = without_last c.tag (tin place) y.outstanding refl idle;
      }

  pub put_back : (place : ℕ → ℕ) (y : Device) → Carries b c place → IsBox b.count total place → length y.state.slow ≡ total → is_started y.outstanding c.tag ≡ false → PutBack own b place y (behind_out place y)
  put_back place y carries box size idle =
      let cells = y.halves b.number b.half in
      let at = λ (k : ℕ) (l : k < b.count). same_way place false k ∙ carries k l in
      record {
        registers = λ x e. refl;
        halves = refl;
        copied = λ k l.
            let zero_more : 0 + k ≡ k = omega arith in
            ap (number_at (moved_out (tout place) cells y.state.slow)) (sym (at k l))
            ∙ first_out_here (tout place) y.state.slow cells b.count k l
            (λ d m. subst (λ p. p < length y.state.slow) (sym (at d m)) (subst (λ n. place d < n) (sym size) (box.inside d m)))
            (λ d f m n same. box.distinct d f m n (sym (at d m) ∙ same ∙ at f n))
            ∙ ap (number_at cells) zero_more;
        others = λ p h. first_out_else (tout place) y.state.slow cells b.count p (λ k l same. h k l (sym (at k l) ∙ same));
        long = length-first_out (tout place) y.state.slow cells b.count;
        outstanding = without_last c.tag (tout place) y.outstanding refl idle;
      }

  -- ---- before the loop, and behind it
  tags_taken : (y : Device) (go : Device → Outcome Device) → then_do (P (AllocatesTags c.tag 1) y) go ≡ go (record y { actions = suc y.actions })
  unfolding roomy_step roomy acts
  tags_taken y go = refl

  tags_given : (y : Device) (go : Device → Outcome Device) → has_started y.outstanding c.tag 1 ≡ false → then_do (P (ReleasesTags c.tag 1) y) go ≡ go (record y { actions = suc y.actions })
  unfolding roomy_step roomy acts
  tags_given y go e = let y1 = record y { actions = suc y.actions } in ap (λ t. then_do (refused t Tag y1 (End y1)) go) e

  two : (x : Action) (z : Action) (y : Device) → folded P (x ∷ z ∷ []) y ≡ then_do (P x y) (λ y. then_do (P z y) (λ y. End y))
  unfolding folded
  two x z y = refl

  pub opens : Opens own nu is total filler b new (by_transfers b element sizes c) (Carries b c)
  opens place box carries d y miss s = by b.reads refl
    where
      begun : Device
      begun = record y { actions = suc (suc y.actions) }

      -- the device with the half and the tag taken
      at : Device
      at = let t = taken y in record t { actions = suc t.actions }

      first : (more : List Action) → folded P (Allocates b.number element sizes ∷ AllocatesTags c.tag 1 ∷ more) y ≡ folded P more at
      first more =
          folded-cons P (Allocates b.number element sizes) (AllocatesTags c.tag 1 ∷ more) y
          ∙ takes own nu is b total new filler element sizes y (folded P (AllocatesTags c.tag 1 ∷ more))
          ∙ folded-cons P (AllocatesTags c.tag 1) more (taken y)
          ∙ tags_taken (taken y) (folded P more)

      by : (t : Bool) → b.reads ≡ t → (z : Device) × (folded P (Allocates b.number element sizes ∷ AllocatesTags c.tag 1 ∷ (if t then Starts (tin place) ∷ Waits c.tag b.count ∷ [] else [])) y ≡ End z) × Related own nu (boxed b place) (boxed b place).unset total d z
      by true e =
          let idle = idle_tag d.outstanding y.outstanding s.transfers in
          let room = fresh_long own nu is b total new filler element sizes (record y { actions = suc y.actions }) long in (
            behind_in place at,
            first (Starts (tin place) ∷ Waits c.tag b.count ∷ []) ∙ two (Starts (tin place)) (Waits c.tag b.count) at
                ∙ start_in place at (λ y. End y) idle (half_here own nu is b total new filler d.outstanding y.outstanding s.transfers) (free place true d.outstanding y.outstanding carries (λ e. let f : true ≡ false = e in absurd (cc)) s.transfers miss),
            opened b place [] [] own nu total new (boxed b place).unset d begun (behind_in place at) miss s
                (filled_opens own nu is b total new filler element sizes long place (boxed b place).unset begun (behind_in place at) (filled place at carries idle room)),
          )
      by false e = (
        at,
        first [] ∙ folded-nil P at,
        opened b place [] [] own nu total new (boxed b place).unset d begun at miss s
            (fresh_opens own nu is b total new filler element sizes long place box.distinct e begun),
      )

  pub closes : Closes own nu is total filler b new (by_transfers b element sizes c) (Carries b c)
  closes place box carries u d y set s = by b.writes refl
    where
      gone : Device → Device
      gone z = let r = released element sizes (record z { actions = suc z.actions }) in record r { actions = suc r.actions }

      last : (z : Device) → has_away z.outstanding b.number ≡ false → has_started z.outstanding c.tag 1 ≡ false → folded P (Releases b.number element sizes ∷ ReleasesTags c.tag 1 ∷ []) z ≡ End (gone z)
      last z e f =
          let r = released element sizes (record z { actions = suc z.actions }) in
          folded-cons P (Releases b.number element sizes) (ReleasesTags c.tag 1 ∷ []) z
          ∙ gives_back own nu is b total new filler element sizes z (folded P (ReleasesTags c.tag 1 ∷ [])) e
          ∙ folded-cons P (ReleasesTags c.tag 1) [] r
          ∙ tags_given r (folded P []) f
          ∙ folded-nil P (gone z)

      by : (t : Bool) → b.writes ≡ t → (z : Device) × (folded P ((if t then Starts (tout place) ∷ Waits c.tag b.count ∷ [] else []) ++ Releases b.number element sizes ∷ ReleasesTags c.tag 1 ∷ []) y ≡ End z) × Apart own nu is total filler d z
      by true e =
          let miss = all_allowed b place [] [] d.outstanding box.distinct s.clear in
          let idle = idle_tag d.outstanding y.outstanding s.transfers in
          let z = behind_out place y in
          let back = put_back place y carries box s.long idle in
          let rest = Releases b.number element sizes ∷ ReleasesTags c.tag 1 ∷ [] in
          let away : has_away z.outstanding b.number ≡ false = ap (λ l. has_away l b.number) back.outstanding ∙ none_away own nu is b total new filler d.outstanding y.outstanding s.transfers in
          let tags : has_started z.outstanding c.tag 1 ≡ false = ap (λ l. has_started l c.tag 1) back.outstanding ∙ idle_tags d.outstanding y.outstanding s.transfers in (
            gone z,
            folded-append P (Starts (tout place) ∷ Waits c.tag b.count ∷ []) rest y
                ∙ ap (λ o. then_do o (folded P rest)) (two (Starts (tout place)) (Waits c.tag b.count) y ∙ start_out place y (λ y. End y) idle (half_here own nu is b total new filler d.outstanding y.outstanding s.transfers) (free place false d.outstanding y.outstanding carries (λ g. e) s.transfers miss))
                ∙ last z away tags,
            closed_written b place [] [] own nu total box.distinct u d y z (set e) s back,
          )
      by false e = (
        gone y,
        last y (none_away own nu is b total new filler d.outstanding y.outstanding s.transfers) (idle_tags d.outstanding y.outstanding s.transfers),
        closed_kept b place [] [] own nu total e u d y s,
      )
