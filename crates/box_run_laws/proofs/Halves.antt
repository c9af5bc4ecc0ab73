-- What copy loops and transfers have alike: the half is taken and given back, nothing that is outstanding is in the way, and
-- a half whose cells were filled is open.
use Rattle.std.proofs.Common.{◌≡◌, ◌≢◌, inl, inr, ℕ, suc, ◌<◌, ℤ, pos, List, [], length, get_or, refl, sym, ap, ◌∙◌, Bool, true, false, map}
use Rattle.std.specs.Prelude.{◌&&◌, is_some, nat_eq, if◌then◌else◌}
use Rattle.std.proofs.lemmas.List.{length-replicate}
use Rattle.std.proofs.lemmas.Bool.{ne_eqb}
use Rattle.affine_ast.specs.declared.name.Name.{Name}
use Rattle.affine_ast.specs.declared.types.Element.{Element}
use Rattle.int_ops.specs.Wrapped.{wrapped}
use Rattle.bus_model.specs.declared.step.FaultKind.TheVariants.{Touched}
use Rattle.bus_model.specs.declared.transfer.Transfer.{Transfer}
use Rattle.direct_meaning.specs.Transfers.{meets}
use Rattle.direct_meaning.specs.Static.{element_bits}
use Rattle.direct_meaning.specs.Actions.{half_cells}
use Rattle.direct_meaning.specs.Action.{Action, Allocates, Releases}
use Rattle.direct_meaning.specs.Direct.{Outcome, End, then_do}
use Rattle.prompt_semantics.specs.Device.{Device, fresh_half, allocated, released, is_away, has_away, load_races, store_races}
use Rattle.prompt_semantics.specs.Prompt.{refused, acts}
use Rattle.prompt_semantics.proofs.Laws.{halves_same, halves_other}
use Rattle.box_run_laws.specs.Roomy.{roomy, roomy_step}
use Rattle.boxes.specs.Every.{Every}
use Rattle.box_run_laws.specs.Layouts.{Numbering, Renumbers, renumbered, Mixed}
use Rattle.box_run_laws.specs.Boxes.{in_box, Half, boxed, Distinct, Allows}
use Rattle.box_run_laws.proofs.Tests.{none_map, any_none, meets_none, load_races_same, store_races_same}
use Rattle.box_run_laws.proofs.Mixes.{mixed_alone}
use Rattle.box_run_laws.proofs.Boxes.{found_at, Opened}

module _ (own : Name → Bool) (nu : Numbering) (is : Renumbers nu) (b : Half) (total : ℕ) (new : (n : ℕ) → nu.fasts n ≢ b.number) (filler : ℤ) where
  abbrev P : Action → Device → Outcome Device
  P = roomy_step filler

  -- ---- nothing that is outstanding is in the way
  pub half_here : (ts zs : List Transfer) → Mixed (map (renumbered nu) ts) [] zs → is_away zs b.number b.half ≡ false
  half_here ts zs m =
      ap (λ l. is_away l b.number b.half) (mixed_alone (map (renumbered nu) ts) zs m)
      ∙ none_map (λ t. nat_eq t.fast b.number && nat_eq t.half b.half) (renumbered nu) (λ t. ap (λ s. s && nat_eq t.half b.half) (ne_eqb (nu.fasts t.fast) b.number (new t.fast))) ts

  pub none_away : (ts zs : List Transfer) → Mixed (map (renumbered nu) ts) [] zs → has_away zs b.number ≡ false
  none_away ts zs m =
      ap (λ l. has_away l b.number) (mixed_alone (map (renumbered nu) ts) zs m)
      ∙ none_map (λ t. nat_eq t.fast b.number) (renumbered nu) (λ t. ne_eqb (nu.fasts t.fast) b.number (new t.fast)) ts

  -- loads of the box race with none of them, and stores to a box that is written don't either
  pub box_loads : (place : ℕ → ℕ) (ts zs : List Transfer) → Mixed (map (renumbered nu) ts) [] zs → Every (Allows b place) ts → (i : ℕ) → i < b.count → load_races zs (place i) ≡ false
  box_loads place ts zs m miss i l =
      ap (λ l. load_races l (place i)) (mixed_alone (map (renumbered nu) ts) zs m)
      ∙ load_races_same nu is ts (place i)
      ∙ any_none (Allows b place) (λ t. (if t.incoming then false else meets t (place i))) one ts miss
    where
      both : (s : Bool) → (if s then false else false) ≡ false
      both true = refl
      both false = refl

      one : (t : Transfer) → Allows b place t → (if t.incoming then false else meets t (place i)) ≡ false
      one t (inl k) = ap (λ s. if s then false else meets t (place i)) k.1
      one t (inr h) = ap (λ m. if t.incoming then false else m) (meets_none t (place i) (λ e k. h e k i l)) ∙ both t.incoming

  pub box_stores : (place : ℕ → ℕ) (ts zs : List Transfer) → Mixed (map (renumbered nu) ts) [] zs → Every (Allows b place) ts → b.writes ≡ true → (i : ℕ) → i < b.count → store_races zs (place i) ≡ false
  box_stores place ts zs m miss w i l =
      ap (λ l. store_races l (place i)) (mixed_alone (map (renumbered nu) ts) zs m)
      ∙ store_races_same nu is ts (place i)
      ∙ any_none (Allows b place) (λ t. meets t (place i)) one ts miss
    where
      one : (t : Transfer) → Allows b place t → meets t (place i) ≡ false
      one t (inl k) = let f : true ≡ false = sym w ∙ k.0 in absurd (cc)
      one t (inr h) = meets_none t (place i) (λ e k. h e k i l)

  -- ---- the half is taken and given back
  pub takes : (element : Element) (sizes : List ℕ) (y : Device) (go : Device → Outcome Device)
      → then_do (P (Allocates b.number element sizes) y) go ≡ go (allocated filler b.number element sizes (record y { actions = suc y.actions }))
  unfolding roomy_step roomy
  takes element sizes y go = refl

  pub gives_back : (element : Element) (sizes : List ℕ) (y : Device) (go : Device → Outcome Device) → has_away y.outstanding b.number ≡ false
      → then_do (P (Releases b.number element sizes) y) go ≡ go (released element sizes (record y { actions = suc y.actions }))
  unfolding roomy_step roomy acts
  gives_back element sizes y go e =
      let y1 = record y { actions = suc y.actions } in
      ap (λ t. then_do (refused t Touched y1 (End (released element sizes y1))) go) e

  pub fresh_long : (element : Element) (sizes : List ℕ) (y : Device) → half_cells sizes ≡ b.count → length ((allocated filler b.number element sizes y).halves b.number b.half) ≡ b.count
  fresh_long element sizes y e = ap length (halves_same y.halves b.number b.half (fresh_half filler element sizes)) ∙ length-replicate (half_cells sizes) (wrapped (element_bits element) filler) ∙ e

  -- ---- the half whose cells were filled
  pub record Filled (place : ℕ → ℕ) (y z : Device) : Type 0 where
    pub registers : (x : Name) → own x ≡ true → z.state.registers x ≡ y.state.registers x
    pub slow : z.state.slow ≡ y.state.slow
    pub others : (m j : ℕ) → (nat_eq b.number m && nat_eq b.half j) ≡ false → z.halves m j ≡ y.halves m j
    pub copied : (k : ℕ) → k < b.count → get_or (z.halves b.number b.half) k (pos 0) ≡ get_or y.state.slow (place k) (pos 0)
    pub long : length (z.halves b.number b.half) ≡ length (y.halves b.number b.half)
    pub outstanding : z.outstanding ≡ y.outstanding

  pub filled_opens : (element : Element) (sizes : List ℕ) → half_cells sizes ≡ b.count → (place : ℕ → ℕ) (u : ℕ → Bool) (y z : Device) → Filled place (allocated filler b.number element sizes y) z → Opened b place [] [] own nu total u y z
  filled_opens element sizes long place u y z f = record {
    registers = f.registers;
    slow = f.slow;
    others = λ m j e. f.others m j (ap (λ t. t && nat_eq b.half j) e) ∙ halves_other y.halves b.number m j (fresh_half filler element sizes) e;
    long = f.long ∙ fresh_long element sizes y long;
    copied = λ k l e. f.copied k l;
    outstanding = f.outstanding;
    beside = tt;
  }

  pub fresh_opens : (element : Element) (sizes : List ℕ) → half_cells sizes ≡ b.count → (place : ℕ → ℕ) → Distinct place b.count → b.reads ≡ false → (y : Device)
      → Opened b place [] [] own nu total (boxed b place).unset y (allocated filler b.number element sizes y)
  fresh_opens element sizes long place d keeps y = record {
    registers = λ x e. refl;
    slow = refl;
    others = λ m j e. halves_other y.halves b.number m j (fresh_half filler element sizes) e;
    long = fresh_long element sizes y long;
    copied = λ k l e. absurd (never k l e);
    outstanding = refl;
    beside = tt;
  }
    where
      never : (k : ℕ) → k < b.count → (if b.reads then false else in_box place b.count (place k)) ≡ false → ⊥
      never k l e =
          let t : in_box place b.count (place k) ≡ true = ap is_some (found_at place b.count k d l) in
          let f : in_box place b.count (place k) ≡ false = sym (ap (λ t. if t then false else in_box place b.count (place k)) keeps) ∙ e in
          cc
