-- What the premises of a ring come from.
use Rattle.std.proofs.Common.{◌≡◌, ◌≢◌, ◌↔◌, ℕ, zero, suc, ◌+◌, ◌*◌, ◌<◌, ◌≤◌, ℤ, pos, ◌+ℤ◌, List, [], ◌∷◌, length, refl, sym, ap, ◌∙◌, subst, arith, Bool, true, false}
use Rattle.std.specs.Prelude.{int_le, nat_le, nat_eq, Option, Some, None, if◌then◌else◌}
use Rattle.std.proofs.lemmas.List.{ext_get_or}
use Rattle.std.specs.List.{range_with_len}
use Rattle.std.proofs.lemmas.Int.{ints}
use Rattle.std.proofs.lemmas.Bool.{leb-true}
use Rattle.std.proofs.lemmas.List.{length-map}
use Rattle.std.proofs.lemmas.List.Folds.{list_any_none}
use Rattle.std.proofs.lemmas.List.FromFn.{length-range_with_len, get_or-map-range_with_len}
use Rattle.std.proofs.Math.Nat.{mul-le-mul_right}
use Rattle.affine_ast.specs.declared.types.Element.{Element}
use Rattle.bus_model.specs.declared.transfer.Transfer.{Transfer}
use Rattle.bus_model.specs.Places.{slow_place, slow_places, meets}
use Rattle.bus_model.proofs.Places.{meets_nowhere}
use Rattle.direct_meaning.specs.Transfers.{overlap}
use Rattle.direct_meaning.specs.Static.{product, element_bytes}
use Rattle.direct_meaning.specs.Turns.{turns}
use Rattle.direct_meaning.specs.Action.{Place, Slow, Fast, Outside, Action, Known, Sets, Loads, Stores, RawLoads, RawStores, Operates, Converts, Allocates, Releases, AllocatesTags, ReleasesTags, Starts, Waits, Faults, Returns}
use Rattle.affine_ast.specs.declared.name.Name.{Name}
use Rattle.bus_model.specs.declared.step.FaultKind.{FaultKind}
use Rattle.bus_model.specs.declared.step.FaultKind.TheVariants.{Touched, Race, Tag, Capacity, Shape}
use Rattle.direct_meaning.specs.Direct.{Outcome, End, Fault, then_do, folded, State}
use Rattle.prompt_semantics.specs.Device.{Device, bytes_of, allocated, is_started, is_away, has_away, has_started, load_races, start_races, store_races, copied_in, copied_out, started, record_of, without}
use Rattle.prompt_semantics.specs.Prompt.{carried, refused, prompt_load, prompt_store, prompt_alloc, prompt_start, wait_on, acts, prompt_step}
use Rattle.step_runs.specs.Stage.{Stage, value_at, moved_to}
use Rattle.step_runs.specs.Related.{Related}
use Rattle.loop_forms.specs.Split.{prologue_end}
use Rattle.loop_forms.specs.Stepped.{stepped, turn_total}
use Rattle.loop_forms.proofs.Cut.{all_turns}
use Rattle.ring_runs.proofs.Cut.{prologue_turns}

-- transfers with no slow place in common don't overlap: what the absence of a clash gives
pub no_overlap : (v u : Transfer) → ((e f : ℕ) → e < v.count → f < u.count → slow_place v e ≢ slow_place u f) → overlap v u ≡ false
no_overlap v u apart = list_any_none (meets u) (slow_places v) (λ k d lt.
    let near : k < v.count = omega (arith, lt, length-map (range_with_len 0 v.count) (slow_place v), length-range_with_len 0 v.count) in
    meets_nowhere u _ (λ f lf is. apart k f near lf (sym (is ∙ get_or-map-range_with_len (slow_place v) 0 v.count k k d near (omega arith)))))

-- the condition of a turn's wait for what left: its turn is at least so many behind the first
pub late_test : (a : ℤ) (s places k : ℕ) → 1 ≤ s → int_le (a +ℤ pos (places * s)) (a +ℤ pos (k * s)) ≡ nat_le places k
late_test a s places k h = by (nat_le places k) refl
  where
    by : (t : Bool) → nat_le places k ≡ t → int_le (a +ℤ pos (places * s)) (a +ℤ pos (k * s)) ≡ t
    by true t =
        let le = leb-true places k t in
        let m : places * s ≤ k * s = mul-le-mul_right s le in
        grind (arith, ints, m)
    by false t =
        let less : k < places = grind (arith, t) in
        let m : suc k * s ≤ places * s = mul-le-mul_right s (omega (arith, less)) in
        let e : suc k * s ≡ s + k * s = grind arith in
        let n : k * s < places * s = omega (arith, m, e, h) in
        grind (arith, ints, n)

-- a ring of so many buffers has so many times the bytes
pub ring_bytes : (element : Element) (places : ℕ) (sizes : List ℕ) → bytes_of element (places ∷ sizes) ≡ places * bytes_of element (1 ∷ sizes)
ring_bytes element places sizes = times (product sizes) (element_bytes element)
  where
    times : (p b : ℕ) → (places * p) * b ≡ places * ((1 * p) * b)
    times p b = grind arith

-- prologue and epilogue are empty exactly where the loop is
pub prologue_none : (a b : ℤ) (s lead : ℕ) → 1 ≤ s → 1 ≤ lead → (turns a (prologue_end a b (pos s) (suc lead)) (pos s) ≡ []) ↔ (turns a b (pos s) ≡ [])
prologue_none a b s lead h some = (
  (λ e. all_turns a b s h ∙ ap (stepped a (pos s)) (by (nat_le lead (turn_total a b s)) refl (empty (if nat_le lead (turn_total a b s) then lead else turn_total a b s) a (sym (prologue_turns a b s lead h some) ∙ e)))),
  (λ e. (let none = empty (turn_total a b s) a (sym (all_turns a b s h) ∙ e) in
      prologue_turns a b s lead h some ∙ ap (stepped a (pos s)) (ap (λ n. if nat_le lead n then lead else n) none ∙ (let f : nat_le lead 0 ≡ false = grind (arith, some) in ap (λ t. if t then lead else 0) f)))),
)
  where
    empty : (n : ℕ) (a : ℤ) → stepped a (pos s) n ≡ [] → n ≡ 0
    empty zero a e = refl
    empty (suc n) a e = cc

    by : (t : Bool) → nat_le lead (turn_total a b s) ≡ t → (if t then lead else turn_total a b s) ≡ 0 → turn_total a b s ≡ 0
    by true t e = absurd (omega (arith, some, e))
    by false t e = e

-- where every slow place is seen in itself and agrees, the slow lists are equal
pub same_slow : (ring : ℕ → ℕ → Transfer) (s : Stage) (d y : Device) → Related ring s d y
    → ((p : ℕ) → p < length y.state.slow → (s.agrees (Slow p) ≡ true) × (s.lives p ≡ None)) → y.state.slow ≡ d.state.slow
same_slow ring s d y h all = ext_get_or (pos 0) y.state.slow d.state.slow h.long (λ p lt. (let two = all p lt in
    ap (λ o. value_at (moved_to p o) y) (sym two.1) ∙ h.values (Slow p) two.0))

-- ---- the steps of engines that a list of actions takes, where its run ends
abbrev pub engine_steps_of : Action → ℕ
engine_steps_of (Starts t) = t.count + 2
engine_steps_of a = 0

abbrev pub engine_steps_in : List Action → ℕ
engine_steps_in [] = 0
engine_steps_in (a ∷ xs) = engine_steps_of a + engine_steps_in xs

plus_none : (n : ℕ) → n ≡ n + 0
plus_none n = omega arith

-- what holds of a run's end, where it ends
abbrev pub OnEnd : {S : Type 0} → (S → Type 0) → Outcome S → Type 0
OnEnd P (End z) = P z
OnEnd P (Fault k z) = Unit {0}

on_end_then : (P Q : Device → Type 0) (o : Outcome Device) (f : Device → Outcome Device) → OnEnd P o → ((z : Device) → P z → OnEnd Q (f z)) → OnEnd Q (then_do o f)
on_end_then P Q (End z) f h g = g z h
on_end_then P Q (Fault k z) f h g = tt

engine_refused : (P : Device → Type 0) (b : Bool) (k : FaultKind) (y : Device) (go : Outcome Device) → OnEnd P go → OnEnd P (refused b k y go)
engine_refused P true k y go h = tt
engine_refused P false k y go h = h

module _ (n : ℕ) where
  abbrev Has : Device → Type 0
  Has z = z.engine_steps ≡ n

  engine_carried : (y : Device) (o : Outcome State) → y.engine_steps ≡ n → OnEnd Has (carried y o)
  engine_carried y (End s) h = h
  engine_carried y (Fault k s) h = tt

  engine_load : (r : Name) (p : Place) (y : Device) → y.engine_steps ≡ n → OnEnd Has (prompt_load r p y)
  engine_load r (Slow p) y h = engine_refused Has (load_races y.outstanding p) Race y _ h
  engine_load r (Fast m k c) y h = engine_refused Has (is_away y.outstanding m k) Touched y _ h
  engine_load r Outside y h = tt

  engine_store : (z : ℤ) (p : Place) (y : Device) → y.engine_steps ≡ n → OnEnd Has (prompt_store z p y)
  engine_store z (Slow p) y h = engine_refused Has (store_races y.outstanding p) Race y _ h
  engine_store z (Fast m k c) y h = engine_refused Has (is_away y.outstanding m k) Touched y _ h
  engine_store z Outside y h = tt

  engine_alloc : (filler : ℤ) (capacity m : ℕ) (element : Element) (sizes : List ℕ) (y : Device) → y.engine_steps ≡ n → OnEnd Has (prompt_alloc filler capacity m element sizes y)
  engine_alloc filler capacity m element sizes y h = by (nat_le (y.live + bytes_of element sizes) capacity)
    where
      by : (b : Bool) → OnEnd Has (if b then End (allocated filler m element sizes y) else Fault Capacity y)
      by true = h
      by false = tt

  engine_wait : (o : Option Transfer) (tag count : ℕ) (y : Device) → y.engine_steps ≡ n → OnEnd Has (wait_on o tag count y)
  engine_wait None tag count y h = tt
  engine_wait (Some t) tag count y h = by (nat_eq t.count count)
    where
      by : (b : Bool) → OnEnd Has (if b then End (record y { outstanding = without tag y.outstanding }) else Fault Shape y)
      by true = h
      by false = tt

engine_start : (t : Transfer) (y : Device) → OnEnd (λ z. z.engine_steps ≡ y.engine_steps + (t.count + 2)) (prompt_start t y)
unfolding started
engine_start t y =
    engine_refused P (is_started y.outstanding t.tag) Tag y _
    (engine_refused P (is_away y.outstanding t.fast t.half) Touched y _
    (engine_refused P (start_races y.outstanding t) Race y _ (by t.incoming)))
  where
    P : Device → Type 0
    P z = z.engine_steps ≡ y.engine_steps + (t.count + 2)

    by : (b : Bool) → (if b then copied_in t y else copied_out t y).engine_steps + (t.count + 2) ≡ y.engine_steps + (t.count + 2)
    by true = refl
    by false = refl

engine_acts : (filler : ℤ) (capacity : ℕ) (a : Action) (y : Device) → OnEnd (λ z. z.engine_steps ≡ y.engine_steps + engine_steps_of a) (acts filler capacity a y)
unfolding acts
engine_acts filler capacity Known y = engine_carried _ y _ (plus_none y.engine_steps)
engine_acts filler capacity (Sets r z) y = engine_carried _ y _ (plus_none y.engine_steps)
engine_acts filler capacity (Loads r p) y = engine_load _ r p y (plus_none y.engine_steps)
engine_acts filler capacity (Stores x p) y = engine_store _ _ p y (plus_none y.engine_steps)
engine_acts filler capacity (RawLoads r home sizes subscripts) y = engine_load _ r _ y (plus_none y.engine_steps)
engine_acts filler capacity (RawStores x home sizes subscripts) y = engine_store _ _ _ y (plus_none y.engine_steps)
engine_acts filler capacity (Operates r op bits a b) y = engine_carried _ y _ (plus_none y.engine_steps)
engine_acts filler capacity (Converts r kind from to x) y = engine_carried _ y _ (plus_none y.engine_steps)
engine_acts filler capacity (Allocates m element sizes) y = engine_alloc _ filler capacity m element sizes y (plus_none y.engine_steps)
engine_acts filler capacity (Releases m element sizes) y = engine_refused _ (has_away y.outstanding m) Touched y _ (plus_none y.engine_steps)
engine_acts filler capacity (AllocatesTags first count) y = plus_none y.engine_steps
engine_acts filler capacity (ReleasesTags first count) y = engine_refused _ (has_started y.outstanding first count) Tag y _ (plus_none y.engine_steps)
engine_acts filler capacity (Starts t) y = engine_start t y
engine_acts filler capacity (Waits tag count) y = engine_wait _ (record_of tag y.outstanding) tag count y (plus_none y.engine_steps)
engine_acts filler capacity (Faults k) y = tt
engine_acts filler capacity Returns y = plus_none y.engine_steps

pub engine_all : (filler : ℤ) (capacity : ℕ) (xs : List Action) (y : Device) → OnEnd (λ z. z.engine_steps ≡ y.engine_steps + engine_steps_in xs) (folded (prompt_step filler capacity) xs y)
unfolding folded prompt_step
engine_all filler capacity [] y = plus_none y.engine_steps
engine_all filler capacity (a ∷ xs) y =
    on_end_then (λ z. z.engine_steps ≡ y.engine_steps + engine_steps_of a) (λ z. z.engine_steps ≡ y.engine_steps + engine_steps_in (a ∷ xs))
    (prompt_step filler capacity a y) (folded (prompt_step filler capacity) xs) (engine_acts filler capacity a (record y { actions = suc y.actions }))
    (λ z e. subst (λ n. OnEnd (λ w. w.engine_steps ≡ n) (folded (prompt_step filler capacity) xs z)) (let f : z.engine_steps + engine_steps_in xs ≡ y.engine_steps + (engine_steps_of a + engine_steps_in xs) = omega (arith, e) in f) (engine_all filler capacity xs z))
