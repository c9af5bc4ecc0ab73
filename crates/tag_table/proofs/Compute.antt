-- The steps of the compute thread keep the rule.
use Rattle.std.proofs.Common.{◌≡◌, ◌≢◌, ◌⊎◌, ℕ, ℤ, pos, zero, suc, ◌+◌, ◌<◌, ◌≤◌, eqb, Bool, true, false, List, [], ◌∷◌, ◌++◌, length, get_or, set, sym, refl, ap, ◌∙◌, subst, inl, inr, ⊎_elim, arith, length-set, get_or-set_other, get_or-set_same}
use Rattle.std.specs.Prelude.{Option, Some, None, slice_index}
use mathlib.Core.Option.{none, some}
use mathlib.Core.Path.{Path}
use mathlib.Core.Option as maybe
use native.Mathlib.Decide.{dec_le}
use Rattle.std.proofs.lemmas.List.{ext_get_or}
use prog.Atomic.{either}
use lib.ListN.{get_elem?}
use lib.Seq.{set-get_or}
use mir.Syntax.{w64}
use mir.Val.{to_z}
use Rattle.atomic_table.specs.Table.{Me, Act, Valid, step, stepped, carried_after, keeps, takes, gives, Allows}
use Rattle.atomic_table.proofs.Lists.{at_set, set_here, set_else, exchanged}
use Rattle.bus_model.specs.Places.{slow_place}
use Rattle.bus_model.specs.Copies.{number_at, moved_in, moved_out}
use Rattle.bus_model.specs.Ledger.{Copied}
use Rattle.bus_model.proofs.Copies.{length-first_in, first_in_else, first_in_here, length-first_out, first_out_else, first_out_here}
use Rattle.tag_table.specs.Rule.{started_at, Phase, free, held, ready, taken, done, Slot, Home, TagState, InPhase, slow_at, BusOk, MayGo, ClearOfAll}
use Rattle.tag_table.specs.Steps.{start_in, start_out, holding, stored, collected, not_yet, stored_slow, took_empty, started, took_done, freed}
use Rattle.tag_table.proofs.Tags.{put, at_put, put_here, put_else, stays}
use Rattle.tag_table.proofs.Ledgers.{BusLedger, keeps_ledger, same_moved, same_cells, bus_store, bus_start, bus_drop}
use Rattle.tag_table.proofs.Engines.{St, my_view, below, slow_same, only_started, both_ways}
use Rattle.bus_model.specs.declared.transfer.Transfer.{Transfer}
use Rattle.tag_table.specs.declared.view.Parcel.{Parcel}
use Rattle.bus_model.specs.declared.transfer.Started.{Started}
use Rattle.tag_table.specs.declared.view.ComputeView.{ComputeView}
use Rattle.tag_table.specs.declared.view.EngineView.{EngineView}
use Rattle.tag_table.specs.declared.view.View.{View}
use Rattle.tag_table.specs.declared.view.View.TheVariants.{Compute, Engine}

module _ (n count : ℕ) (s : St) (ok : BusOk n count s) (id : ℕ) (v : ComputeView) (at : get_elem? s.views id ≡ some (Compute v)) (t : ℕ) where
  is_me : v ≡ ok.me
  is_me = my_view n count s ok id v at

  no_engine : (f : EngineView) → get_elem? s.views id ≡ some (Engine f) → ⊥
  no_engine f h = cc

  -- the compute thread's step, which may change the tag t
  pub compute_moves : (v' : ComputeView) (words' : List ℕ) (homes' : List (maybe.Option Slot)) (x : TagState)
      → length words' ≡ length s.words → length homes' ≡ length s.homes
      → ((u : ℕ) → u ≢ t → u < count → slice_index words' u ≡ slice_index s.words u)
      → ((u : ℕ) → u ≢ t → get_elem? homes' u ≡ get_elem? s.homes u)
      → length v'.tags ≡ count → length v'.prompt ≡ n
      → ((u : ℕ) → u ≢ t → started_at v'.tags u ≡ started_at ok.me.tags u)
      → (t < count → (j : ℕ) → (ok.state t).phase ≢ taken j)
      → ((u : ℕ) → v'.held ≡ Some u → (t < count) × (u ≡ t) × (x.phase ≡ held))
      → ((u : ℕ) → u ≢ t → ok.me.held ≡ Some u → ⊥)
      → (t < count → InPhase (set s.views id (Compute v')) v'.held t (slice_index words' t) (get_elem? homes' t) (started_at v'.tags t) x.cells x.moved x.phase)
      → BusLedger n (slow_at count words') v'.prompt v'.tags (put ok.state t x)
      → BusOk n count record { words = words'; homes = homes'; views = set s.views id (Compute v') }
  compute_moves v' words' homes' x lw lh same_word same_home long prompt_long same_tag was now before phase ledger =
      let state' = put ok.state t x in
      record {
        sized = let a = ok.sized in omega arith;
        slots = lh ∙ ok.slots;
        seat = id;
        me = v';
        there = set_here s.views id (Compute v') (below s.views id (Compute v) at);
        only = λ j u h. ⊎_elim (λ (p : (j ≡ id) × (Compute v' ≡ Compute u)). p.0) (λ (p : (j ≢ id) × (get_elem? s.views j ≡ some (Compute u))). ok.only j u p.1 ∙ sym (ok.only id v at)) (at_set s.views id j (Compute v') (Compute u) h);
        tagged = long;
        long = prompt_long;
        state = state';
        each = λ u lt. at_put ok.state t x (λ q y. q < count → InPhase (set s.views id (Compute v')) v'.held q (slice_index words' q) (get_elem? homes' q) (started_at v'.tags q) y.cells y.moved y.phase) u phase
            (λ ne _. let y = ok.state u in stays s.views (set s.views id (Compute v')) ok.me.held v'.held u (slice_index s.words u) (slice_index words' u) (get_elem? s.homes u) (get_elem? homes' u) (started_at ok.me.tags u) (started_at v'.tags u) y.cells y.moved y.phase
            (same_word u ne lt) (same_home u ne) (same_tag u ne) (λ _ h. absurd (before u ne h))
            (λ j st f ph there work. set_else s.views id j (Compute v') (λ same. no_engine f (subst (λ q. get_elem? s.views q ≡ some (Engine f)) same there)) ∙ there) (ok.each u lt)) lt;
        holds = λ u h. let q = now u h in (subst (λ z. z < count) (sym q.1) q.0, subst (λ z. (state' z).phase ≡ held) (sym q.1) (ap (λ (z : TagState). z.phase) (put_here ok.state t x) ∙ q.2));
        engines = λ j f w h work. ⊎_elim
            (λ (p : (j ≡ id) × (Compute v' ≡ Engine f)). absurd (let q = p.1 in cc))
            (λ (p : (j ≢ id) × (get_elem? s.views j ≡ some (Engine f))). let old = ok.engines j f w p.1 work in
            (old.0, ap (λ (z : TagState). z.phase) (put_else ok.state t x w.tag (λ same. was (subst (λ z. z < count) same old.0) j (subst (λ q. (ok.state q).phase ≡ taken j) same old.1))) ∙ old.1))
            (at_set s.views id j (Compute v') (Engine f) h);
        sizes = λ j f h. ⊎_elim (λ (p : (j ≡ id) × (Compute v' ≡ Engine f)). absurd (let q = p.1 in cc)) (λ (p : (j ≢ id) × (get_elem? s.views j ≡ some (Engine f))). ok.sizes j f p.1) (at_set s.views id j (Compute v') (Engine f) h);
        ledger = ledger;
      }

-- a tag that is idle and isn't held is free
module _ (views : List View) (holder : Option ℕ) (t word : ℕ) (home : Home) (has : Option Started) (cells : List ℤ) (moved : ℕ) where
  is_free : (ph : Phase) → InPhase views holder t word home has cells moved ph → has ≡ None → (holder ≡ Some t → ⊥) → ph ≡ free
  is_free free x h c = refl
  is_free held x h c = absurd (c x.2)
  is_free ready x h c = absurd (let y = x.1.1 in cc)
  is_free (taken j) x h c = absurd (let y = x.1.1 in cc)
  is_free done x h c = absurd (let y = x.1.1 in cc)

  is_done : (ph : Phase) → InPhase views holder t word home has cells moved ph → word ≡ 3 → ph ≡ done
  is_done free x e = absurd (let y = x.0 in omega arith)
  is_done held x e = absurd (let y = x.0 in omega arith)
  is_done ready x e = absurd (let y = x.0 in omega arith)
  is_done (taken j) x e = absurd (let y = x.0 in omega arith)
  is_done done x e = refl

not_taken : (ph : Phase) (j : ℕ) → (ph ≡ free) ⊎ ((ph ≡ held) ⊎ (ph ≡ done)) → ph ≢ taken j
not_taken ph j o e = ⊎_elim (λ (p : ph ≡ free). absurd (cc)) (λ (r : (ph ≡ held) ⊎ (ph ≡ done)). ⊎_elim (λ (p : ph ≡ held). absurd (cc)) (λ (p : ph ≡ done). absurd (cc)) r) o

same_view : (m : View) (u v : ComputeView) → m ≡ Compute u → m ≡ Compute v → u ≡ v
same_view m u v a b = cc

some_same : (t u : ℕ) (h : Option ℕ) → h ≡ Some t → h ≡ Some u → u ≡ t
some_same t u h a b = cc

none_some : (h : Option ℕ) (u : ℕ) → h ≡ None → h ≡ Some u → ⊥
none_some h u a b = cc

-- HELD stored over FREE
pub takes_empty : (n count id t : ℕ) (me : Me Slot View) (v : ComputeView) → t < count → me.0 ≡ Compute v → v.held ≡ None → started_at v.tags t ≡ None
    → Allows (BusOk n count) count id me t (λ _. 4) (λ _. took_empty (step count t 4 0 none) me 4)
takes_empty n count id t me v lt is unheld idle s ok wide at _ =
    let at' : get_elem? s.views id ≡ some (Compute v) = at ∙ ap some is in
    let mine : v ≡ ok.me = is_me n count s ok id v at' t in
    let st0 = ok.state t in
    let un : ok.me.held ≡ None = subst (λ (z : ComputeView). z.held ≡ None) mine unheld in
    let idle' : started_at ok.me.tags t ≡ None = subst (λ (z : ComputeView). started_at z.tags t ≡ None) mine idle in
    let was = ok.each t lt in
    let ph : st0.phase ≡ free = is_free s.views ok.me.held t (slice_index s.words t) (get_elem? s.homes t) (started_at ok.me.tags t) st0.cells st0.moved st0.phase was idle' (λ h. none_some ok.me.held t un h) in
    let full = subst (λ (p : Phase). InPhase s.views ok.me.held t (slice_index s.words t) (get_elem? s.homes t) (started_at ok.me.tags t) st0.cells st0.moved p) ph was in
    let x : TagState = record { phase = held; moved = st0.moved; cells = st0.cells } in
    let v' : ComputeView = record { prompt = v.prompt; held = Some t; tags = v.tags; met = v.met; engines = v.engines } in
    let tags_are : v.tags ≡ ok.me.tags = ap (λ (z : ComputeView). z.tags) mine in
    let prompt_is : v.prompt ≡ ok.me.prompt = ap (λ (z : ComputeView). z.prompt) mine in (
      Compute v',
      takes t None,
      full.2,
      compute_moves n count s ok id v at' t v' (set s.words t 4) (set s.homes t none) x (length-set s.words t 4) (length-set s.homes t none)
          (λ u ne _. get_or-set_other s.words t u 4 0 ne) (λ u ne. set_else s.homes t u none ne)
          (ap (λ (l : List (Option Started)). length l) tags_are ∙ ok.tagged) (ap (λ (l : List ℤ). length l) prompt_is ∙ ok.long) (λ u _. ap (λ (l : List (Option Started)). started_at l u) tags_are)
          (λ _ j. not_taken st0.phase j (inl ph)) (λ u h. (lt, (let q : Some t ≡ Some u = h in cc), refl)) (λ u _ h. none_some ok.me.held u un h)
          (λ _. (get_or-set_same s.words t 4 0 (let a = ok.sized in omega arith), idle, refl))
          (subst (λ (z : List ℤ × List (Option Started)). BusLedger n (slow_at count (set s.words t 4)) z.0 z.1 (put ok.state t x)) (λ k. (sym prompt_is k, sym tags_are k))
          (keeps_ledger n count s.words (set s.words t 4) ok.me.prompt ok.me.tags ok.state (put ok.state t x) ok.ledger (λ i _. slow_same count t s.words 4 lt i) (same_moved ok.state t x refl) (same_cells ok.state t x refl))),
      (λ f same. let g : v ≡ f = same_view me.0 v f is same in (ap (λ (z : ComputeView). holding z (Some t)) g, refl)),
    )

-- FREE stored over HELD
pub frees : (n count id t : ℕ) (v : ComputeView) → v.held ≡ Some t → started_at v.tags t ≡ None
    → Allows (BusOk n count) count id (Compute v, (t, None) ∷ []) t (λ _. 0) (λ _. freed (step count t 0 0 none) (Compute v, (t, None) ∷ []) 0)
frees n count id t v holds idle s ok wide at _ =
    let mine : v ≡ ok.me = is_me n count s ok id v at t in
    let st0 = ok.state t in
    let mine_held : ok.me.held ≡ Some t = subst (λ (z : ComputeView). z.held ≡ Some t) mine holds in
    let there = ok.holds t mine_held in
    let lt : t < count = there.0 in
    let x : TagState = record { phase = free; moved = st0.moved; cells = st0.cells } in
    let v' : ComputeView = record { prompt = v.prompt; held = None; tags = v.tags; met = v.met; engines = v.engines } in
    let tags_are : v.tags ≡ ok.me.tags = ap (λ (z : ComputeView). z.tags) mine in
    let prompt_is : v.prompt ≡ ok.me.prompt = ap (λ (z : ComputeView). z.prompt) mine in (
      Compute v',
      gives,
      tt,
      compute_moves n count s ok id v at t v' (set s.words t 0) (set s.homes t (some None)) x (length-set s.words t 0) (length-set s.homes t (some None))
          (λ u ne _. get_or-set_other s.words t u 0 0 ne) (λ u ne. set_else s.homes t u (some None) ne)
          (ap (λ (l : List (Option Started)). length l) tags_are ∙ ok.tagged) (ap (λ (l : List ℤ). length l) prompt_is ∙ ok.long) (λ u _. ap (λ (l : List (Option Started)). started_at l u) tags_are)
          (λ _ j. not_taken st0.phase j (inr (inl there.1))) (λ u h. absurd (cc)) (λ u ne h. ne (some_same t u ok.me.held mine_held h))
          (λ _. (get_or-set_same s.words t 0 0 (let a = ok.sized in omega arith), idle, set_here s.homes t (some None) (let a = ok.slots in omega arith)))
          (subst (λ (z : List ℤ × List (Option Started)). BusLedger n (slow_at count (set s.words t 0)) z.0 z.1 (put ok.state t x)) (λ k. (sym prompt_is k, sym tags_are k))
          (keeps_ledger n count s.words (set s.words t 0) ok.me.prompt ok.me.tags ok.state (put ok.state t x) ok.ledger (λ i _. slow_same count t s.words 0 lt i) (same_moved ok.state t x refl) (same_cells ok.state t x refl))),
      (λ f same. let g : v ≡ f = same_view (Compute v) v f refl same in (ap (λ (z : ComputeView). holding z None) g, refl)),
    )

-- a store of a slow word
pub stores_slow : (n count id i : ℕ) (me : Me Slot View) (v : ComputeView) (z : ℤ) → i < n → me.0 ≡ Compute v → v.held ≡ None → (new : ℕ) → to_z w64 new ≡ z
    → ClearOfAll v.tags i
    → Allows (BusOk n count) count id me (count + i) (λ _. new) (λ _. stored_slow (step count (count + i) new 0 none) me new)
stores_slow n count id i me v z near is unheld new new_is clear s ok wide at _ =
    let at' : get_elem? s.views id ≡ some (Compute v) = at ∙ ap some is in
    let mine : v ≡ ok.me = is_me n count s ok id v at' count in
    let un : ok.me.held ≡ None = subst (λ (q : ComputeView). q.held ≡ None) mine unheld in
    let x = ok.state count in
    let words' = set s.words (count + i) new in
    let v' : ComputeView = record { prompt = set v.prompt i z; held = v.held; tags = v.tags; met = v.met; engines = v.engines } in
    let tags_are : v.tags ≡ ok.me.tags = ap (λ (q : ComputeView). q.tags) mine in
    let prompt_is : v.prompt ≡ ok.me.prompt = ap (λ (q : ComputeView). q.prompt) mine in
    let clear' : (t e : ℕ) (st : Started) → started_at ok.me.tags t ≡ Some st → e < st.transfer.count → slow_place st.transfer e ≢ i = λ t e st has lt. clear t e st (ap (λ (l : List (Option Started)). started_at l t) tags_are ∙ has) lt in
    let ledger = bus_store n count s.words words' ok.me.prompt ok.me.tags ok.state ok.ledger i z (let a = ok.long in omega arith) clear' (ap (to_z w64) (get_or-set_same s.words (count + i) new 0 (let a = ok.sized in omega arith)) ∙ new_is)
    (λ j ne. ap (to_z w64) (get_or-set_other s.words (count + i) (count + j) new 0 (λ h. ne (omega arith)))) in (
      Compute v',
      keeps,
      tt,
      compute_moves n count s ok id v at' count v' words' s.homes x (length-set s.words (count + i) new) refl
          (λ u _ lt. get_or-set_other s.words (count + i) u new 0 (λ h. omega arith)) (λ u _. refl)
          (ap (λ (l : List (Option Started)). length l) tags_are ∙ ok.tagged) (length-set v.prompt i z ∙ ap (λ (l : List ℤ). length l) prompt_is ∙ ok.long) (λ u _. ap (λ (l : List (Option Started)). started_at l u) tags_are)
          (λ h. absurd (omega arith)) (λ u h. absurd (none_some v.held u unheld h)) (λ u _ h. none_some ok.me.held u un h)
          (λ h. absurd (omega arith))
          (subst (λ (q : List ℤ × List (Option Started)). BusLedger n (slow_at count words') (set q.0 i z) q.1 (put ok.state count x)) (λ k. (sym prompt_is k, sym tags_are k))
          (keeps_ledger n count words' words' (set ok.me.prompt i z) ok.me.tags ok.state (put ok.state count x) ledger (λ _ _. refl) (same_moved ok.state count x refl) (same_cells ok.state count x refl))),
      (λ f j same place. let g : v ≡ f = same_view me.0 v f is same in let h : i ≡ j = omega arith in ((λ k. stored (g k) (h k) (sym new_is k)), refl)),
    )

-- READY stored over HELD: where the memory becomes prompt' and the tag has list'
starts_with : (n count id t : ℕ) (v : ComputeView) (p : Parcel) (prompt' list' : List ℤ) → v.held ≡ Some t → started_at v.tags t ≡ None → MayGo n v.tags p
    → length prompt' ≡ length v.prompt
    → length list' ≡ length p.cells.items
    → ((i : ℕ) → (p.transfer.incoming ≡ false → (e : ℕ) → e < p.transfer.count → slow_place p.transfer e ≢ i) → number_at prompt' i ≡ number_at v.prompt i)
    → (length v.prompt ≡ n → Copied (number_at prompt') record { transfer = p.transfer; list = list' } record { moved = 0; cells = p.cells.items })
    → (s : St) → BusOk n count s → get_elem? s.views id ≡ some (Compute v)
    → BusOk n count record { words = set s.words t 1; homes = set s.homes t (some (Some p)); views = set s.views id (Compute record { prompt = prompt'; held = None; tags = set v.tags t (Some record { transfer = p.transfer; list = list' }); met = v.met; engines = v.engines }) }
starts_with n count id t v p prompt' list' holds idle may long list_long same copied s ok at =
    let mine : v ≡ ok.me = is_me n count s ok id v at t in
    let st : Started = record { transfer = p.transfer; list = list' } in
    let st0 = ok.state t in
    let mine_held : ok.me.held ≡ Some t = subst (λ (z : ComputeView). z.held ≡ Some t) mine holds in
    let there = ok.holds t mine_held in
    let lt : t < count = there.0 in
    let x : TagState = record { phase = ready; moved = 0; cells = p.cells.items } in
    let v' : ComputeView = record { prompt = prompt'; held = None; tags = set v.tags t (Some st); met = v.met; engines = v.engines } in
    let words' = set s.words t 1 in
    let l : BusLedger n (slow_at count s.words) v.prompt v.tags ok.state = subst (λ (z : ComputeView). BusLedger n (slow_at count s.words) z.prompt z.tags ok.state) (sym mine) ok.ledger in
    let tagged : length v.tags ≡ count = ap (λ (z : ComputeView). length z.tags) mine ∙ ok.tagged in
    let prompt_size : length v.prompt ≡ n = ap (λ (z : ComputeView). length z.prompt) mine ∙ ok.long in
    compute_moves n count s ok id v at t v' words' (set s.homes t (some (Some p))) x (length-set s.words t 1) (length-set s.homes t (some (Some p)))
    (λ u ne _. get_or-set_other s.words t u 1 0 ne) (λ u ne. set_else s.homes t u (some (Some p)) ne)
    (length-set v.tags t (Some st) ∙ tagged) (long ∙ prompt_size) (λ u ne. get_or-set_other v.tags t u (Some st) None ne ∙ ap (λ (z : ComputeView). started_at z.tags u) mine)
    (λ _ j. not_taken st0.phase j (inr (inl there.1))) (λ u h. absurd (cc)) (λ u ne h. ne (some_same t u ok.me.held mine_held h))
    (λ _. (get_or-set_same s.words t 1 0 (let a = ok.sized in omega arith), (st, get_or-set_same v.tags t (Some st) None (omega arith), refl, (p, set_here s.homes t (some (Some p)) (let a = ok.slots in omega arith), refl, refl, may.fresh))))
    (bus_start n count s.words words' v.prompt v.tags ok.state l prompt' t st x (omega arith) idle refl
    (λ i _. slow_same count t s.words 1 lt i) same record { within = may.within; distinct = may.distinct; inside = subst (λ q. p.transfer.offset + p.transfer.count ≤ q) (sym list_long) may.inside; some_chunk = may.some_chunk } (copied prompt_size)
    (λ u b hs o e f le lf. may.clear u e f b hs o le lf))

same_carried : (t : ℕ) (v u : ComputeView) (p q : Parcel) → Path (Me Slot View) (Compute v, (t, Some p) ∷ []) (Compute u, (t, Some q) ∷ []) → (v ≡ u) × (p ≡ q)
same_carried t v u p q e =
    let a : Compute v ≡ Compute u = ap (λ (m : Me Slot View). m.0) e in
    let x : ℕ × Slot = (t, Some p) in
    let y : ℕ × Slot = (t, Some q) in
    let l : List (ℕ × Slot) = x ∷ [] in
    let r : List (ℕ × Slot) = y ∷ [] in
    let b : l ≡ r = ap (λ (m : Me Slot View). m.1) e in
    let c : x ≡ y = cc in
    let d : Some p ≡ Some q = ap (λ (m : ℕ × Slot). m.1) c in
    (cc, cc)

pub starts : (n count id t : ℕ) (v : ComputeView) (p : Parcel) → v.held ≡ Some t → started_at v.tags t ≡ None → MayGo n v.tags p
    → Allows (BusOk n count) count id (Compute v, (t, Some p) ∷ []) t (λ _. 1) (λ _. started (step count t 1 0 none) (Compute v, (t, Some p) ∷ []) 1)
starts n count id t v p holds idle may s ok wide at _ = go p.transfer.incoming refl
  where
    x : Transfer
    x = p.transfer

    cells : List ℤ
    cells = p.cells.items

    told : View → Type 0
    told w = started (step count t 1 0 none) (Compute v, (t, Some p) ∷ []) 1 (w, [])

    go : (b : Bool) → x.incoming ≡ b → (w : View) × (a : Act Slot) × Valid s.homes ((t, Some p) ∷ []) a × BusOk n count (stepped s t 1 id ((t, Some p) ∷ []) w a) × started (step count t 1 0 none) (Compute v, (t, Some p) ∷ []) 1 (w, carried_after ((t, Some p) ∷ []) a)
    go true is = (
      start_in v t x cells,
      gives,
      tt,
      starts_with n count id t v p v.prompt (moved_in x v.prompt cells) holds idle may refl (length-first_in x v.prompt cells x.count) (λ i _. refl)
          (λ _. record { prompt_is = λ e lt. sym (first_in_here x v.prompt cells x.count e lt may.inside); long = sym (length-first_in x v.prompt cells x.count); cells_are = λ k left. sym (first_in_else x v.prompt cells x.count k (⊎_elim (λ (a : k < x.offset + 0). inl (omega arith)) (λ b. inr b) (left is))); not_past = omega arith })
          s ok at,
      (λ u q e. let same = same_carried t v u p q e in ((λ _ k. (start_in (same.0 k) t (same.1 k).transfer (same.1 k).cells.items, [])), (λ out. absurd (both_ways x.incoming is (ap (λ (z : Parcel). z.transfer.incoming) same.1 ∙ out))))),
    )
    go false is = (
      start_out v t x cells,
      gives,
      tt,
      starts_with n count id t v p (moved_out x cells v.prompt) cells holds idle may (length-first_out x v.prompt cells x.count)
          refl (λ i clear. first_out_else x v.prompt cells x.count i (clear is))
          (λ long. record { prompt_is = λ e lt. first_out_here x v.prompt cells x.count e lt (λ d ld. subst (λ q. slow_place x d < q) (sym long) (may.within d ld)) may.distinct; long = refl; cells_are = λ k _. refl; not_past = omega arith })
          s ok at,
      (λ u q e. let same = same_carried t v u p q e in ((λ inc. absurd (both_ways x.incoming (ap (λ (z : Parcel). z.transfer.incoming) same.1 ∙ inc) is)), (λ _ k. (start_out (same.0 k) t (same.1 k).transfer (same.1 k).cells.items, [])))),
    )

-- DONE exchanged for HELD
pub collects : (n count id t : ℕ) (me : Me Slot View) (v : ComputeView) (st : Started) → t < count → me.0 ≡ Compute v → v.held ≡ None → started_at v.tags t ≡ Some st
    → Allows (BusOk n count) count id me t (λ y. either (eqb y 3) 4 y) (took_done (step count t 3 4 none) me)
collects n count id t me v st lt is unheld has s ok wide at _ =
    let y : ℕ = get_or s.words t 0 in
    let told = took_done (step count t 3 4 none) me in
    let at' : get_elem? s.views id ≡ some (Compute v) = at ∙ ap some is in
    let mine : v ≡ ok.me = is_me n count s ok id v at' t in
    let un : ok.me.held ≡ None = subst (λ (z : ComputeView). z.held ≡ None) mine unheld in
    let has' : started_at ok.me.tags t ≡ Some st = subst (λ (z : ComputeView). started_at z.tags t ≡ Some st) mine has in
    let l : BusLedger n (slow_at count s.words) v.prompt v.tags ok.state = subst (λ (z : ComputeView). BusLedger n (slow_at count s.words) z.prompt z.tags ok.state) (sym mine) ok.ledger in
    let tagged : length v.tags ≡ count = ap (λ (z : ComputeView). length z.tags) mine ∙ ok.tagged in
    let prompt_size : length v.prompt ≡ n = ap (λ (z : ComputeView). length z.prompt) mine ∙ ok.long in
    exchanged y 3 4 (λ new. (w : View) × (a : Act Slot) × Valid s.homes me.1 a × BusOk n count (stepped s t new id me.1 w a) × told y (w, carried_after me.1 a))
    (λ hit.
    let st0 = ok.state t in
    let was = ok.each t lt in
    let ph : st0.phase ≡ done = is_done s.views ok.me.held t y (get_elem? s.homes t) (started_at ok.me.tags t) st0.cells st0.moved st0.phase was hit in
    let full = subst (λ (p : Phase). InPhase s.views ok.me.held t y (get_elem? s.homes t) (started_at ok.me.tags t) st0.cells st0.moved p) ph was in
    let su = full.1.0 in
    let same_st : su ≡ st = only_started ok.me.tags t su st full.1.1 has' in
    let home = full.1.3 in
    let p = home.0 in
    let all : st0.moved ≡ st.transfer.count = full.1.2 ∙ ap (λ (z : Started). z.transfer.count) same_st in
    let x : TagState = record { phase = held; moved = st0.moved; cells = st0.cells } in
    let v' : ComputeView = record { prompt = v.prompt; held = Some t; tags = set v.tags t None; met = v.met ++ (t, 3) ∷ []; engines = v.engines } in
    let copied = ok.ledger.copied t st has' in
    let whole : st0.cells ≡ st.list = ext_get_or (pos 0) st0.cells st.list copied.long (λ k _. copied.cells_are k (λ _. split k st.transfer.offset st.transfer.count st0.moved all)) in (
      Compute v',
      takes t (Some p),
      home.1,
      compute_moves n count s ok id v at' t v' (set s.words t 4) (set s.homes t none) x (length-set s.words t 4) (length-set s.homes t none)
          (λ u ne _. get_or-set_other s.words t u 4 0 ne) (λ u ne. set_else s.homes t u none ne)
          (length-set v.tags t None ∙ tagged) prompt_size (λ u ne. get_or-set_other v.tags t u None None ne ∙ ap (λ (z : ComputeView). started_at z.tags u) mine)
          (λ _ j. not_taken st0.phase j (inr (inr ph))) (λ u h. (lt, (let q : Some t ≡ Some u = h in cc), refl)) (λ u _ h. none_some ok.me.held u un h)
          (λ _. (get_or-set_same s.words t 4 0 (let a = ok.sized in omega arith), get_or-set_same v.tags t None None (omega arith), refl))
          (bus_drop n count s.words (set s.words t 4) v.prompt v.tags ok.state l t st x (omega arith) has all (λ i _. slow_same count t s.words 4 lt i)),
      (λ f g same hg. let a : v ≡ f = same_view me.0 v f is same in let b : st ≡ g = only_started v.tags t st g has (ap (λ (z : ComputeView). started_at z.tags t) a ∙ hg) in (
        (λ _. (p, ap (λ (z : ComputeView). collected z t 3) a, refl, home.2 ∙ ap (λ (z : Started). z.transfer) (same_st ∙ b), home.3 ∙ whole ∙ ap (λ (z : Started). z.list) b, home.4 ∙ all ∙ ap (λ (z : Started). z.transfer.count) b)),
        (λ miss. absurd (miss hit)),
      )),
    ))
    (λ miss.
    let v' : ComputeView = record { prompt = v.prompt; held = v.held; tags = v.tags; met = v.met ++ (t, y) ∷ []; engines = v.engines } in
    let x = ok.state count in
    let back = set-get_or s.words t 0 in (
      Compute v',
      keeps,
      tt,
      compute_moves n count s ok id v at' count v' (set s.words t y) s.homes x (length-set s.words t y) refl
          (λ u _ _. ap (λ (q : List ℕ). slice_index q u) back) (λ _ _. refl) tagged prompt_size (λ u _. ap (λ (z : ComputeView). started_at z.tags u) mine)
          (λ h. absurd (omega arith)) (λ u h. absurd (none_some v.held u unheld h)) (λ u _ h. none_some ok.me.held u un h) (λ h. absurd (omega arith))
          (keeps_ledger n count s.words (set s.words t y) v.prompt v.tags ok.state (put ok.state count x) l (λ j _. ap (λ (q : List ℕ). slow_at count q j) back) (same_moved ok.state count x refl) (same_cells ok.state count x refl)),
      (λ f g same hg. let a : v ≡ f = same_view me.0 v f is same in ((λ hit. absurd (miss hit)), (λ _. (ap (λ (z : ComputeView). not_yet z t y) a, refl)))),
    ))
  where
    within : (k a b m : ℕ) → m ≡ b → ¬ (a + b ≤ k) → k < a + m
    within k a b m e h = omega arith

    split : (k a b m : ℕ) → m ≡ b → (k < a + m) ⊎ (a + b ≤ k)
    split k a b m e = elim (dec_le (a + b) k) [ yes h ↦ inr h | no h ↦ inl (within k a b m e h) ]

pub emptied : (l : List (Option Started)) (t : ℕ) → started_at (set l t None) t ≡ None
emptied [] t = refl
emptied (x ∷ l) zero = refl
emptied (x ∷ l) (suc t) = emptied l t
