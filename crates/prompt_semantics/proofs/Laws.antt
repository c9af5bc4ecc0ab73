-- Laws of the prompt meaning: tables of halves with some changed, and the count of actions.
use Rattle.std.proofs.Common.{◌≡◌, ℕ, suc, ◌+◌, ℤ, List, [], ◌∷◌, length, refl, sym, ap, ◌∙◌, arith, Bool, true, false}
use Rattle.std.specs.Prelude.{◌&&◌, Option, Some, None, nat_eq, nat_le, if◌then◌else◌}
use Rattle.std.proofs.lemmas.Bool.{eq-eqb}
use Rattle.affine_ast.specs.declared.name.Name.{Name}
use Rattle.bus_model.specs.declared.step.FaultKind.{FaultKind}
use Rattle.bus_model.specs.declared.step.FaultKind.TheVariants.{Touched, Race, Tag, Capacity, Shape}
use Rattle.bus_model.specs.declared.transfer.Transfer.{Transfer}
use Rattle.direct_meaning.specs.Action.{Place, Slow, Fast, Outside, Action, Known, Sets, Loads, Stores, RawLoads, RawStores, Operates, Converts, Allocates, Releases, AllocatesTags, ReleasesTags, Starts, Waits, Faults, Returns}
use Rattle.direct_meaning.specs.Direct.{Outcome, End, Fault, then_do, folded, State, state_of, raw_place}
use Rattle.prompt_semantics.specs.Device.{Device, bytes_of, put_half, put_halves, allocated, is_away, is_started, has_away, has_started, load_races, store_races, start_races, recorded, copied_in, copied_out, started, record_of}
use Rattle.prompt_semantics.specs.Prompt.{carried, refused, prompt_load, prompt_store, prompt_start, wait_on, acts, prompt_step}

-- a half that was changed, and another one
pub half_same : (f : ℕ → ℕ → List ℤ) (n h m k : ℕ) (l : List ℤ) → (nat_eq n m && nat_eq h k) ≡ true → put_half f n h l m k ≡ l
unfolding put_half
half_same f n h m k l e = rw e

pub half_other : (f : ℕ → ℕ → List ℤ) (n h m k : ℕ) (l : List ℤ) → (nat_eq n m && nat_eq h k) ≡ false → put_half f n h l m k ≡ f m k
unfolding put_half
half_other f n h m k l e = rw e

-- all halves of a memref that was changed, and of another one
pub halves_same : (f : ℕ → ℕ → List ℤ) (n k : ℕ) (l : List ℤ) → put_halves f n l n k ≡ l
unfolding put_halves
halves_same f n k l = let e : nat_eq n n ≡ true = eq-eqb n n refl in rw e

pub halves_other : (f : ℕ → ℕ → List ℤ) (n m k : ℕ) (l : List ℤ) → nat_eq n m ≡ false → put_halves f n l m k ≡ f m k
unfolding put_halves
halves_other f n m k l e = rw e

-- the count of actions is left to `prompt_step`
count_refused : (b : Bool) (k : FaultKind) (y : Device) (go : Outcome Device) → (state_of go).actions ≡ y.actions → (state_of (refused b k y go)).actions ≡ y.actions
count_refused true k y go h = refl
count_refused false k y go h = h

count_carried : (y : Device) (o : Outcome State) → (state_of (carried y o)).actions ≡ y.actions
count_carried y (End s) = refl
count_carried y (Fault k s) = refl

count_load : (r : Name) (p : Place) (y : Device) → (state_of (prompt_load r p y)).actions ≡ y.actions
count_load r (Slow p) y = count_refused (load_races y.outstanding p) Race y _ refl
count_load r (Fast number half cell) y = count_refused (is_away y.outstanding number half) Touched y _ refl
count_load r Outside y = refl

count_store : (z : ℤ) (p : Place) (y : Device) → (state_of (prompt_store z p y)).actions ≡ y.actions
count_store z (Slow p) y = count_refused (store_races y.outstanding p) Race y _ refl
count_store z (Fast number half cell) y = count_refused (is_away y.outstanding number half) Touched y _ refl
count_store z Outside y = refl

count_if : (t : Bool) (a b : Outcome Device) (n : ℕ) → (state_of a).actions ≡ n → (state_of b).actions ≡ n → (state_of (if t then a else b)).actions ≡ n
count_if true a b n h k = h
count_if false a b n h k = k

count_started : (t : Transfer) (y : Device) → (started t y).actions ≡ y.actions
unfolding started
count_started t y = by t.incoming
  where
    by : (b : Bool) → (recorded t (if b then copied_in t y else copied_out t y)).actions ≡ y.actions
    by true = refl
    by false = refl

count_start : (t : Transfer) (y : Device) → (state_of (prompt_start t y)).actions ≡ y.actions
count_start t y =
    count_refused (is_started y.outstanding t.tag) Tag y _
    (count_refused (is_away y.outstanding t.fast t.half) Touched y _
    (count_refused (start_races y.outstanding t) Race y _ (count_started t y)))

count_wait : (o : Option Transfer) (tag count : ℕ) (y : Device) → (state_of (wait_on o tag count y)).actions ≡ y.actions
count_wait None tag count y = refl
count_wait (Some t) tag count y = count_if (nat_eq t.count count) _ (Fault Shape y) y.actions refl refl

module _ (filler : ℤ) (capacity : ℕ) where
  count_acts : (a : Action) (y : Device) → (state_of (acts filler capacity a y)).actions ≡ y.actions
  unfolding acts
  count_acts Known y = count_carried y _
  count_acts (Sets r z) y = count_carried y _
  count_acts (Loads r p) y = count_load r p y
  count_acts (Stores x p) y = count_store _ p y
  count_acts (RawLoads r home sizes subscripts) y = count_load r (raw_place y.state.registers home sizes subscripts) y
  count_acts (RawStores x home sizes subscripts) y = count_store _ (raw_place y.state.registers home sizes subscripts) y
  count_acts (Operates r op bits a b) y = count_carried y _
  count_acts (Converts r kind from to x) y = count_carried y _
  count_acts (Allocates number element sizes) y = count_if (nat_le (y.live + bytes_of element sizes) capacity) (End (allocated filler number element sizes y)) (Fault Capacity y) y.actions refl refl
  count_acts (Releases number element sizes) y = count_refused (has_away y.outstanding number) Touched y _ refl
  count_acts (AllocatesTags first count) y = refl
  count_acts (ReleasesTags first count) y = count_refused (has_started y.outstanding first count) Tag y _ refl
  count_acts (Starts t) y = count_start t y
  count_acts (Waits tag count) y = count_wait (record_of tag y.outstanding) tag count y
  count_acts (Faults k) y = refl
  count_acts Returns y = refl

  -- an action counts as one, also where it faults
  pub count_step : (a : Action) (y : Device) → (state_of (prompt_step filler capacity a y)).actions ≡ suc y.actions
  unfolding prompt_step
  count_step a y = count_acts a (record y { actions = suc y.actions })

  -- a run that ends has as many actions as its list
  pub count_all : (xs : List Action) (y z : Device) → folded (prompt_step filler capacity) xs y ≡ End z → z.actions ≡ y.actions + length xs
  unfolding folded
  count_all [] y z h = let e : y ≡ z = cc in sym (ap (λ (y : Device). y.actions) e) ∙ (let k : y.actions ≡ y.actions + 0 = omega arith in k)
  count_all (a ∷ xs) y z h = by (prompt_step filler capacity a y) (count_step a y) h (λ w e. count_all xs w z e)
    where
      by : (o : Outcome Device) → (state_of o).actions ≡ suc y.actions → then_do o (folded (prompt_step filler capacity) xs) ≡ End z
          → ((w : Device) → folded (prompt_step filler capacity) xs w ≡ End z → z.actions ≡ w.actions + length xs) → z.actions ≡ y.actions + length (a ∷ xs)
      by (End w) n e more = let k = more w e in omega (arith, n, k)
      by (Fault k w) n e more = absurd (differ e)
        where
          differ : Fault k w ≡ End z → ⊥
          differ e = cc
