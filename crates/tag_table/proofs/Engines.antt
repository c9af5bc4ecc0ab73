-- The steps of an engine keep the rule.
use Rattle.std.proofs.Common.{◌≡◌, ◌≢◌, ◌⊎◌, ℕ, ℤ, zero, suc, ◌+◌, ◌<◌, ◌≤◌, eqb, Bool, true, false, List, [], ◌∷◌, ◌++◌, length, get_or, set, sym, refl, ap, ◌∙◌, subst, inl, inr, ⊎_elim, arith, length-set, get_or-set_other, get_or-set_same}
use Rattle.std.specs.Prelude.{Option, Some, None, slice_index}
use mathlib.Core.Option.{none, some}
use mathlib.Core.Option as maybe
use prog.Atomic.{either}
use lib.ListN.{get_elem?}
use lib.Seq.{set-get_or}
use mir.Syntax.{w64}
use mir.Val.{to_z}
use Rattle.atomic_table.specs.Table.{State, Me, Act, Valid, step, stepped, carried_after, keeps, takes, gives, Allows}
use Rattle.atomic_table.proofs.Lists.{at_set, set_here, set_else, set_again, exchanged}
use Rattle.bus_model.specs.Places.{slow_place}
use Rattle.bus_model.specs.Copies.{number_at}
use Rattle.tag_table.specs.Rule.{FitsIn, ClearOfOut, started_at, Phase, free, held, ready, taken, done, Slot, Home, TagState, InPhase, job, slow_at, BusOk}
use Rattle.tag_table.specs.Steps.{saw_slow, took, gave, moved_one_in, moved_one_out, met_more, working}
use Rattle.tag_table.proofs.Ledgers.{BusLedger, keeps_ledger, same_moved, same_cells, bus_in, bus_out}
use Rattle.tag_table.proofs.Tags.{put, at_put, put_here, put_else, stays}
use Rattle.bus_model.specs.declared.transfer.Transfer.{Transfer}
use Rattle.tag_table.specs.declared.view.Parcel.{Parcel}
use Rattle.bus_model.specs.declared.transfer.Started.{Started}
use Rattle.tag_table.specs.declared.view.Work.{Work}
use Rattle.tag_table.specs.declared.view.ComputeView.{ComputeView}
use Rattle.tag_table.specs.declared.view.EngineView.{EngineView}
use Rattle.tag_table.specs.declared.view.View.{View}
use Rattle.tag_table.specs.declared.view.View.TheVariants.{Compute, Engine}

abbrev pub St : Type 0
St = State Slot View

-- a step that changes nothing
pub still : (n count : ℕ) (s : St) (i id : ℕ) (v : View) → BusOk n count s → get_elem? s.views id ≡ some v → BusOk n count record { words = set s.words i (get_or s.words i 0); homes = s.homes; views = set s.views id v }
still n count s i id v ok at =
    subst (λ (p : List ℕ × List View). BusOk n count record { words = p.0; homes = s.homes; views = p.1 }) (λ k. (sym (set-get_or s.words i 0) k, sym (set_again s.views id v at) k)) ok

-- the one compute view
pub my_view : (n count : ℕ) (s : St) (ok : BusOk n count s) (id : ℕ) (v : ComputeView) → get_elem? s.views id ≡ some (Compute v) → v ≡ ok.me
my_view n count s ok id v at = let e = ok.only id v at in let at' : get_elem? s.views ok.seat ≡ some (Compute v) = subst (λ j. get_elem? s.views j ≡ some (Compute v)) e at in let there = ok.there in cc

-- a load of a slow word
pub sees_slow : (n count id i : ℕ) (m : Me Slot View) (v : ComputeView) → i < n → m.0 ≡ Compute v
    → ClearOfOut v.tags i
    → Allows (BusOk n count) count id m (count + i) (λ x. x) (saw_slow (step count (count + i) 0 0 none) m)
sees_slow n count id i m v near is free_of s ok wide at _ = (
  m.0,
  keeps,
  tt,
  still n count s (count + i) id m.0 ok at,
  (
    refl,
    λ u j is' e.
        let same : u ≡ ok.me = my_view n count s ok id u (at ∙ ap some is') in
        let mine : v ≡ ok.me = my_view n count s ok id v (at ∙ ap some is) in
        let here : j ≡ i = omega arith in
        let w = ok.ledger.words_are i near (λ t e st has out _ lt. free_of t e st (ap (λ (x : ComputeView). started_at x.tags t) mine ∙ has) out lt) in
        subst (λ (x : ComputeView × ℕ). slow_at count s.words i ≡ number_at x.0.prompt x.1) (λ k. (sym same k, sym here k)) w,
  ),
)

-- who may step on a tag as an engine: it is ready, or taken by this seat
abbrev Open : Phase → ℕ → Type 0
Open ph id = (ph ≡ ready) ⊎ (ph ≡ taken id)

not_held : (ph : Phase) (id : ℕ) → Open ph id → ph ≢ held
not_held ph id o e = ⊎_elim (λ (r : ph ≡ ready). absurd (cc)) (λ (r : ph ≡ taken id). absurd (cc)) o

whose : (ph : Phase) (id j : ℕ) → Open ph id → ph ≡ taken j → j ≡ id
whose ph id j o e = ⊎_elim (λ (r : ph ≡ ready). absurd (cc)) (λ (r : ph ≡ taken id). cc) o

module _ (n count : ℕ) (s : St) (ok : BusOk n count s) (id : ℕ) (e : EngineView) (at : get_elem? s.views id ≡ some (Engine e)) (t : ℕ) where
  no_compute : (v : ComputeView) → get_elem? s.views id ≡ some (Compute v) → ⊥
  no_compute v h = cc

  -- an engine's step on the tag t, after which the tag's state is x and the view e'
  engine_moves : (e' : EngineView) (words' : List ℕ) (homes' : List (maybe.Option Slot)) (x : TagState)
      → length words' ≡ length s.words → length homes' ≡ length s.homes
      → ((u : ℕ) → u ≢ t → u < count → slice_index words' u ≡ slice_index s.words u)
      → ((u : ℕ) → u ≢ t → get_elem? homes' u ≡ get_elem? s.homes u)
      → e'.words ≡ e.words
      → ((w : Work) → e.work ≡ Some w → w.tag ≡ t)
      → (t < count → Open (ok.state t).phase id)
      → ((w : Work) → e'.work ≡ Some w → (t < count) × (w.tag ≡ t) × (x.phase ≡ taken id))
      → (t < count → InPhase (set s.views id (Engine e')) ok.me.held t (slice_index words' t) (get_elem? homes' t) (started_at ok.me.tags t) x.cells x.moved x.phase)
      → BusLedger n (slow_at count words') ok.me.prompt ok.me.tags (put ok.state t x)
      → BusOk n count record { words = words'; homes = homes'; views = set s.views id (Engine e') }
  engine_moves e' words' homes' x lw lh same_word same_home same_size was opened now phase ledger =
      let state' = put ok.state t x in
      record {
        sized = let a = ok.sized in omega arith;
        slots = lh ∙ ok.slots;
        seat = ok.seat;
        me = ok.me;
        there = set_else s.views id ok.seat (Engine e') (λ h. no_compute ok.me (subst (λ j. get_elem? s.views j ≡ some (Compute ok.me)) h ok.there)) ∙ ok.there;
        only = λ j u h. ⊎_elim (λ (p : (j ≡ id) × (Engine e' ≡ Compute u)). absurd (let q = p.1 in cc)) (λ (p : (j ≢ id) × (get_elem? s.views j ≡ some (Compute u))). ok.only j u p.1) (at_set s.views id j (Engine e') (Compute u) h);
        tagged = ok.tagged;
        long = ok.long;
        state = state';
        each = λ u lt. at_put ok.state t x (λ q y. q < count → InPhase (set s.views id (Engine e')) ok.me.held q (slice_index words' q) (get_elem? homes' q) (started_at ok.me.tags q) y.cells y.moved y.phase) u phase
            (λ ne _. let y = ok.state u in stays s.views (set s.views id (Engine e')) ok.me.held ok.me.held u (slice_index s.words u) (slice_index words' u) (get_elem? s.homes u) (get_elem? homes' u) (started_at ok.me.tags u) (started_at ok.me.tags u) y.cells y.moved y.phase
            (same_word u ne lt) (same_home u ne) refl (λ _ h. h) (λ j st f ph there work. set_else s.views id j (Engine e') (λ same. ne (other u st f y j same there work)) ∙ there) (ok.each u lt)) lt;
        holds = λ u h. let old = ok.holds u h in (old.0, ap (λ (z : TagState). z.phase) (put_else ok.state t x u (λ same. not_held (ok.state t).phase id (opened (subst (λ z. z < count) same old.0)) (subst (λ q. (ok.state q).phase ≡ held) same old.1))) ∙ old.1);
        engines = λ j f w h work. ⊎_elim
            (λ (p : (j ≡ id) × (Engine e' ≡ Engine f)). let q : e'.work ≡ Some w = mine f w p.1 work in let r = now w q in (subst (λ z. z < count) (sym r.1) r.0, subst (λ (z : ℕ × ℕ). (state' z.0).phase ≡ taken z.1) (λ k. (sym r.1 k, sym p.0 k)) (ap (λ (z : TagState). z.phase) (put_here ok.state t x) ∙ r.2)))
            (λ (p : (j ≢ id) × (get_elem? s.views j ≡ some (Engine f))). let old = ok.engines j f w p.1 work in (old.0, ap (λ (z : TagState). z.phase) (put_else ok.state t x w.tag (λ same. p.0 (whose (ok.state t).phase id j (opened (subst (λ z. z < count) same old.0)) (subst (λ q. (ok.state q).phase ≡ taken j) same old.1)))) ∙ old.1))
            (at_set s.views id j (Engine e') (Engine f) h);
        sizes = λ j f h. ⊎_elim (λ (p : (j ≡ id) × (Engine e' ≡ Engine f)). let g : e' ≡ f = let q = p.1 in cc in ap (λ (z : EngineView). z.words) (sym g) ∙ same_size ∙ ok.sizes id e at) (λ (p : (j ≢ id) × (get_elem? s.views j ≡ some (Engine f))). ok.sizes j f p.1) (at_set s.views id j (Engine e') (Engine f) h);
        ledger = ledger;
      }
    where
      other : (u : ℕ) (st : Started) (f : EngineView) (y : TagState) (j : ℕ) → j ≡ id → get_elem? s.views j ≡ some (Engine f) → f.work ≡ Some (job u st.transfer y.cells y.moved) → u ≡ t
      other u st f y j same there work = let there' : get_elem? s.views id ≡ some (Engine f) = subst (λ q. get_elem? s.views q ≡ some (Engine f)) same there in
          let g : f ≡ e = cc in was (job u st.transfer y.cells y.moved) (subst (λ (q : EngineView). q.work ≡ Some (job u st.transfer y.cells y.moved)) g work)

      mine : (f : EngineView) (w : Work) → Engine e' ≡ Engine f → f.work ≡ Some w → e'.work ≡ Some w
      mine f w same work = let g : f ≡ e' = cc in subst (λ (q : EngineView). q.work ≡ Some w) g work

-- a tag's word tells its phase
module _ (views : List View) (holder : Option ℕ) (t : ℕ) (home : Home) (has : Option Started) (cells : List ℤ) (moved : ℕ) where
  is_ready : (word : ℕ) (ph : Phase) → InPhase views holder t word home has cells moved ph → word ≡ 1 → ph ≡ ready
  is_ready word free x e = absurd (let y = x.0 in omega arith)
  is_ready word held x e = absurd (let y = x.0 in omega arith)
  is_ready word ready x e = refl
  is_ready word (taken j) x e = absurd (let y = x.0 in omega arith)
  is_ready word done x e = absurd (let y = x.0 in omega arith)

pub slow_same : (count t : ℕ) (words : List ℕ) (v : ℕ) → t < count → (i : ℕ) → slow_at count (set words t v) i ≡ slow_at count words i
slow_same count t words v lt i = ap (to_z w64) (get_or-set_other words t (count + i) v 0 (λ e. omega arith))

pub below : {A : Type 0} (l : List A) (i : ℕ) (a : A) → get_elem? l i ≡ some a → i < length l
below [] i a e = absurd (cc)
below (x ∷ xs) zero a e = omega arith
below (x ∷ xs) (suc i) a e = let h = below xs i a e in omega arith

-- an engine that is idle before and after looks at a word
quiet : (n count : ℕ) (s : St) (ok : BusOk n count s) (id : ℕ) (e : EngineView) → get_elem? s.views id ≡ some (Engine e) → (i y : ℕ) (e' : EngineView) → e.work ≡ None → e'.work ≡ None → e'.words ≡ e.words
    → BusOk n count record { words = set s.words i (get_or s.words i 0); homes = s.homes; views = set s.views id (Engine e') }
quiet n count s ok id e at i y e' idle idle' size =
    let x = ok.state count in
    let back = set-get_or s.words i 0 in
    engine_moves n count s ok id e at count e' (set s.words i (get_or s.words i 0)) s.homes x (length-set s.words i (get_or s.words i 0)) refl
    (λ u _ _. ap (λ (l : List ℕ). slice_index l u) back) (λ _ _. refl) size (λ w is. absurd (cc)) (λ h. absurd (omega arith)) (λ w is. absurd (cc)) (λ h. absurd (omega arith))
    (keeps_ledger n count s.words (set s.words i (get_or s.words i 0)) ok.me.prompt ok.me.tags ok.state (put ok.state count x) ok.ledger (λ j _. ap (λ (l : List ℕ). slow_at count l j) back) (same_moved ok.state count x refl) (same_cells ok.state count x refl))

-- READY exchanged for TAKEN
pub takes_tag : (n count id t : ℕ) (e : EngineView) → t < count → e.work ≡ None
    → Allows (BusOk n count) count id (Engine e, []) t (λ y. either (eqb y 1) 2 y) (took (step count t 1 2 none) (Engine e, []))
takes_tag n count id t e lt idle s ok wide at _ =
    let y : ℕ = get_or s.words t 0 in
    let told = took (step count t 1 2 none) (Engine e, []) in
    exchanged y 1 2 (Goes y told)
    (λ hit.
    let st0 = ok.state t in
    let was = ok.each t lt in
    let ph : st0.phase ≡ ready = is_ready s.views ok.me.held t (get_elem? s.homes t) (started_at ok.me.tags t) st0.cells st0.moved y st0.phase was hit in
    let full = subst (λ (p : Phase). InPhase s.views ok.me.held t y (get_elem? s.homes t) (started_at ok.me.tags t) st0.cells st0.moved p) ph was in
    let home = full.1.3 in
    let p = home.0 in
    let st = full.1.0 in
    let work = job t p.transfer p.cells.items p.moved in
    let e' : EngineView = record { words = e.words; number = e.number; work = Some work; met = e.met ++ (t, 1) ∷ [] } in
    let x : TagState = record { phase = taken id; moved = st0.moved; cells = st0.cells } in
    let placed = ok.ledger.placed t st full.1.1 in
    let copied = ok.ledger.copied t st full.1.1 in
    let long : length p.cells.items ≡ length st.list = ap (λ (l : List ℤ). length l) home.3 ∙ copied.long in
    let fit : FitsIn e.words p.transfer p.cells.items = subst (λ (z : ℕ × Transfer). FitsIn z.0 z.1 p.cells.items) (λ k. (sym (ok.sizes id e at) k, sym home.2 k))
    record { within = placed.within; inside = subst (λ q. st.transfer.offset + st.transfer.count ≤ q) (sym long) placed.inside; some_chunk = placed.some_chunk } in
    let same_work : Some work ≡ Some (job t st.transfer st0.cells st0.moved) = λ k. Some (job t (home.2 k) (home.3 k) (home.4 k)) in (
      Engine e',
      takes t (Some p),
      home.1,
      engine_moves n count s ok id e at t e' (set s.words t 2) (set s.homes t none) x (length-set s.words t 2) (length-set s.homes t none)
          (λ u ne _. get_or-set_other s.words t u 2 0 ne) (λ u ne. set_else s.homes t u none ne) refl
          (λ w is. absurd (let i = idle in cc)) (λ _. inl ph) (λ w is. (let h : work ≡ w = cc in (lt, sym (ap (λ (z : Work). z.tag) h), refl)))
          (λ _. (get_or-set_same s.words t 2 0 (let a = ok.sized in omega arith), (st, full.1.1, (e', set_here s.views id (Engine e') (below s.views id (Engine e) at), same_work))))
          (keeps_ledger n count s.words (set s.words t 2) ok.me.prompt ok.me.tags ok.state (put ok.state t x) ok.ledger (λ i _. slow_same count t s.words 2 lt i) (same_moved ok.state t x refl) (same_cells ok.state t x refl)),
      (λ f is. let g : f ≡ e = cc in ((λ _. (p, ap (λ (z : EngineView). met_more z (Some work) t 1) (sym g), refl, home.4 ∙ full.1.2, subst (λ (z : EngineView). FitsIn z.words p.transfer p.cells.items) (sym g) fit)), (λ miss. absurd (miss hit)))),
    ))
    (λ miss.
    let st0 = ok.state t in
    let e' : EngineView = record { words = e.words; number = e.number; work = None; met = e.met ++ (t, y) ∷ [] } in (
      Engine e',
      keeps,
      tt,
      quiet n count s ok id e at t y e' idle refl refl,
      (λ f is. let g : f ≡ e = cc in ((λ hit. absurd (miss hit)), (λ _. (ap (λ (z : EngineView). met_more z None t y) (sym g), refl)))),
    ))
  where
    Goes : ℕ → (ℕ → Me Slot View → Type 0) → ℕ → Type 0
    Goes y told new = (w : View) × (a : Act Slot) × Valid s.homes [] a × BusOk n count (stepped s t new id [] w a) × told y (w, carried_after [] a)

-- what the rule says of a tag that this engine has taken
module _ (n count : ℕ) (s : St) (ok : BusOk n count s) (id : ℕ) (e : EngineView) (at : get_elem? s.views id ≡ some (Engine e)) (w : Work) (has : e.work ≡ Some w) where
  mine_there : (w.tag < count) × ((ok.state w.tag).phase ≡ taken id)
  mine_there = ok.engines id e w at has

  mine_is : (st : Started) × (started_at ok.me.tags w.tag ≡ Some st) × (job w.tag st.transfer (ok.state w.tag).cells (ok.state w.tag).moved ≡ w) × (slice_index s.words w.tag ≡ 2)
  mine_is =
      let x = ok.state w.tag in
      let full = subst (λ (p : Phase). InPhase s.views ok.me.held w.tag (slice_index s.words w.tag) (get_elem? s.homes w.tag) (started_at ok.me.tags w.tag) x.cells x.moved p) mine_there.1 (ok.each w.tag mine_there.0) in
      let y = full.1.2 in
      let there = y.1 in
      let same : y.0 ≡ e = cc in
      let work = subst (λ (f : EngineView). f.work ≡ Some (job w.tag full.1.0.transfer x.cells x.moved)) same y.2 in
      (full.1.0, full.1.1, cc, full.0)

-- DONE stored
pub gives_back : (n count id t : ℕ) (e : EngineView) (p : Parcel) → e.work ≡ Some (job t p.transfer p.cells.items p.moved) → p.moved ≡ p.transfer.count
    → Allows (BusOk n count) count id (Engine e, (t, Some p) ∷ []) t (λ _. 3) (λ _. gave (step count t 3 0 none) (Engine e, (t, Some p) ∷ []) 3)
gives_back n count id t e p has all s ok wide at _ =
    let w = job t p.transfer p.cells.items p.moved in
    let there = mine_there n count s ok id e at w has in
    let is = mine_is n count s ok id e at w has in
    let st = is.0 in
    let x0 = ok.state t in
    let x : TagState = record { phase = done; moved = x0.moved; cells = x0.cells } in
    let e' : EngineView = record { words = e.words; number = e.number; work = None; met = e.met } in
    let lt : t < count = there.0 in (
      Engine e',
      gives,
      tt,
      engine_moves n count s ok id e at t e' (set s.words t 3) (set s.homes t (some (Some p))) x (length-set s.words t 3) (length-set s.homes t (some (Some p)))
          (λ u ne _. get_or-set_other s.words t u 3 0 ne) (λ u ne. set_else s.homes t u (some (Some p)) ne) refl
          (λ v had. let same : w ≡ v = cc in sym (ap (λ (z : Work). z.tag) same)) (λ _. inr there.1) (λ v had. absurd (cc))
          (λ _. (
            get_or-set_same s.words t 3 0 (let a = ok.sized in omega arith),
            (
              st,
              is.1,
              ap (λ (z : Work). z.moved) is.2 ∙ all ∙ sym (ap (λ (z : Work). z.transfer.count) is.2),
              (p, set_here s.homes t (some (Some p)) (let a = ok.slots in omega arith), sym (ap (λ (z : Work). z.transfer) is.2), sym (ap (λ (z : Work). z.cells) is.2), sym (ap (λ (z : Work). z.moved) is.2)),
            ),
          ))
          (keeps_ledger n count s.words (set s.words t 3) ok.me.prompt ok.me.tags ok.state (put ok.state t x) ok.ledger (λ i _. slow_same count t s.words 3 lt i) (same_moved ok.state t x refl) (same_cells ok.state t x refl)),
      (λ f same. let g : f ≡ e = cc in (ap (λ (z : EngineView). working z None) (sym g), refl)),
    )

-- a seat that took a parcel has one
pub has_parcel : (l m m' : List (ℕ × Slot)) (k : ℕ) (r : Slot) (p : Parcel) → l ≡ (k, Some p) ∷ m → l ≡ (k, r) ∷ m' → r ≡ None → ⊥
has_parcel l m m' k r p a b c =
    let x : ℕ × Slot = (k, Some p) in
    let y : ℕ × Slot = (k, r) in
    let h : x ≡ y = cc in
    let q : Some p ≡ r = ap (λ (z : ℕ × Slot). z.1) h in
    cc

pub only_started : (tags : List (Option Started)) (t : ℕ) (f g : Started) → started_at tags t ≡ Some f → started_at tags t ≡ Some g → f ≡ g
only_started tags t f g a b = cc

pub both_ways : (b : Bool) → b ≡ true → b ≡ false → ⊥
both_ways b x y = cc

same_engine : (v : View) (e f : EngineView) → v ≡ Engine e → v ≡ Engine f → e ≡ f
same_engine v e f a b = cc

same_job : (e f : EngineView) (w v : Work) → e ≡ f → e.work ≡ Some w → f.work ≡ Some v → w ≡ v
same_job e f w v g a b = let q : e.work ≡ f.work = ap (λ (z : EngineView). z.work) g in cc

-- an engine's work goes on by one element
module _ (n count : ℕ) (s : St) (ok : BusOk n count s) (id : ℕ) (e : EngineView) (at : get_elem? s.views id ≡ some (Engine e)) (w : Work) (has : e.work ≡ Some w) where
  goes_on : (words' : List ℕ) (cells' : List ℤ) → length words' ≡ length s.words → ((u : ℕ) → u < count → slice_index words' u ≡ slice_index s.words u)
      → BusLedger n (slow_at count words') ok.me.prompt ok.me.tags (put ok.state w.tag record { phase = taken id; moved = w.moved + 1; cells = cells' })
      → BusOk n count record { words = words'; homes = s.homes; views = set s.views id (working e (Some (job w.tag w.transfer cells' (w.moved + 1)))) }
  goes_on words' cells' lw same ledger =
      let there = mine_there n count s ok id e at w has in
      let got = mine_is n count s ok id e at w has in
      let st = got.0 in
      let xf : st.transfer ≡ w.transfer = ap (λ (z : Work). z.transfer) got.2 in
      let new = job w.tag w.transfer cells' (w.moved + 1) in
      let e' : EngineView = record { words = e.words; number = e.number; work = Some new; met = e.met } in
      engine_moves n count s ok id e at w.tag e' words' s.homes record { phase = taken id; moved = w.moved + 1; cells = cells' } lw refl
      (λ u _ lt. same u lt) (λ _ _. refl) refl
      (λ v had. let h : w ≡ v = cc in sym (ap (λ (q : Work). q.tag) h)) (λ _. inr there.1) (λ v had. let h : new ≡ v = cc in (there.0, sym (ap (λ (q : Work). q.tag) h), refl))
      (λ lt. (same w.tag lt ∙ got.3, (st, got.1, (e', set_here s.views id (Engine e') (below s.views id (Engine e) at), (λ k. Some (job w.tag (sym xf k) cells' (w.moved + 1)))))))
      ledger

-- a load of the next element
pub moves_in : (n count id : ℕ) (me : Me Slot View) (e : EngineView) (w : Work) → me.0 ≡ Engine e → e.work ≡ Some w → w.transfer.incoming ≡ true → w.moved < w.transfer.count
    → Allows (BusOk n count) count id me (count + slow_place w.transfer w.moved) (λ x. x) (moved_one_in (step count (count + slow_place w.transfer w.moved) 0 0 none) me)
moves_in n count id me e w is has inc more s ok wide at small =
    let at' : get_elem? s.views id ≡ some (Engine e) = at ∙ ap some is in
    let got = mine_is n count s ok id e at' w has in
    let st = got.0 in
    let t = w.tag in
    let i = slow_place w.transfer w.moved in
    let y = slice_index s.words (count + i) in
    let xf : st.transfer ≡ w.transfer = ap (λ (z : Work). z.transfer) got.2 in
    let mv : (ok.state t).moved ≡ w.moved = ap (λ (z : Work). z.moved) got.2 in
    let cs : (ok.state t).cells ≡ w.cells = ap (λ (z : Work). z.cells) got.2 in
    let z = to_z w64 y in
    let more' : w.moved < st.transfer.count = subst (λ q. w.moved < q.count) (sym xf) more in
    let cells' = set w.cells (w.transfer.offset + w.moved) z in
    let near : i < n = subst (λ q. slow_place q w.moved < n) xf ((ok.ledger.placed t st got.1).within w.moved more') in
    let inc' : st.transfer.incoming ≡ true = ap (λ q. q.incoming) xf ∙ inc in
    let z_is : z ≡ slow_at count s.words (slow_place st.transfer w.moved) = ap (λ q. slow_at count s.words (slow_place q w.moved)) (sym xf) in
    let back = set-get_or s.words (count + i) 0 in
    let ledger = bus_in n count s.words (set s.words (count + i) y) ok.me.prompt ok.me.tags ok.state ok.ledger t st got.1 w.moved mv more' (taken id) z inc' z_is (λ j _. ap (λ (l : List ℕ). slow_at count l j) back) in (
      working e (Some (job t w.transfer cells' (w.moved + 1))),
      keeps,
      tt,
      goes_on n count s ok id e at' w has (set s.words (count + i) y) cells' (length-set s.words (count + i) y) (λ u _. ap (λ (l : List ℕ). slice_index l u) back)
          (subst (λ c. BusLedger n (slow_at count (set s.words (count + i) y)) ok.me.prompt ok.me.tags (put ok.state t record { phase = taken id; moved = w.moved + 1; cells = c })) (λ k. set (cs k) ((xf k).offset + w.moved) z) ledger),
      (λ f v same had. let g : e ≡ f = same_engine me.0 e f is same in let h : w ≡ v = same_job e f w v g has had in
          ((λ k. working (g k) (Some (job (h k).tag (h k).transfer (set (h k).cells ((h k).transfer.offset + (h k).moved) z) ((h k).moved + 1)))), refl)),
    )

-- a store of the next element
pub moves_out : (n count id : ℕ) (me : Me Slot View) (e : EngineView) (w : Work) → me.0 ≡ Engine e → e.work ≡ Some w → w.transfer.incoming ≡ false → w.moved < w.transfer.count
    → (new : ℕ) → to_z w64 new ≡ number_at w.cells (w.transfer.offset + w.moved)
    → Allows (BusOk n count) count id me (count + slow_place w.transfer w.moved) (λ _. new) (λ _. moved_one_out (step count (count + slow_place w.transfer w.moved) new 0 none) me new)
moves_out n count id me e w is has out more new new_is s ok wide at small =
    let at' : get_elem? s.views id ≡ some (Engine e) = at ∙ ap some is in
    let got = mine_is n count s ok id e at' w has in
    let st = got.0 in
    let t = w.tag in
    let i = slow_place w.transfer w.moved in
    let xf : st.transfer ≡ w.transfer = ap (λ (z : Work). z.transfer) got.2 in
    let mv : (ok.state t).moved ≡ w.moved = ap (λ (z : Work). z.moved) got.2 in
    let cs : (ok.state t).cells ≡ w.cells = ap (λ (z : Work). z.cells) got.2 in
    let more' : w.moved < st.transfer.count = subst (λ q. w.moved < q.count) (sym xf) more in
    let out' : st.transfer.incoming ≡ false = ap (λ q. q.incoming) xf ∙ out in
    let near : i < n = subst (λ q. slow_place q w.moved < n) xf ((ok.ledger.placed t st got.1).within w.moved more') in
    let place_is : slow_place st.transfer w.moved ≡ i = ap (λ q. slow_place q w.moved) xf in
    let words' = set s.words (count + i) new in
    let wide' : count + i < length s.words = let a = ok.sized in omega arith in
    let ledger = bus_out n count s.words words' ok.me.prompt ok.me.tags ok.state ok.ledger t st got.1 w.moved mv more' (taken id) out'
    (λ j _ ne. ap (to_z w64) (get_or-set_other s.words (count + i) (count + j) new 0 (λ h. ne (let h' : j ≡ i = omega arith in h' ∙ sym place_is))))
    (ap (slow_at count words') place_is ∙ ap (to_z w64) (get_or-set_same s.words (count + i) new 0 wide') ∙ new_is ∙ (λ k. number_at (sym cs k) ((sym xf k).offset + w.moved))) in (
      working e (Some (job t w.transfer w.cells (w.moved + 1))),
      keeps,
      tt,
      goes_on n count s ok id e at' w has words' w.cells (length-set s.words (count + i) new) (λ u lt. get_or-set_other s.words (count + i) u new 0 (λ h. omega arith))
          (subst (λ c. BusLedger n (slow_at count words') ok.me.prompt ok.me.tags (put ok.state t record { phase = taken id; moved = w.moved + 1; cells = c })) cs ledger),
      (λ f v same had. let g : e ≡ f = same_engine me.0 e f is same in let h : w ≡ v = same_job e f w v g has had in
          ((λ k. working (g k) (Some (job (h k).tag (h k).transfer (h k).cells ((h k).moved + 1)))), refl)),
    )

pub same_parcel : (l m m' : List (ℕ × Slot)) (k : ℕ) (r : Slot) (p q : Parcel) → l ≡ (k, Some p) ∷ m → l ≡ (k, r) ∷ m' → r ≡ Some q → p ≡ q
same_parcel l m m' k r p q a b c =
    let x : ℕ × Slot = (k, Some p) in
    let y : ℕ × Slot = (k, r) in
    let h : x ≡ y = cc in
    let d : Some p ≡ r = ap (λ (z : ℕ × Slot). z.1) h in
    cc
