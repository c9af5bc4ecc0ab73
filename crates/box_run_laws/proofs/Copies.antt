-- Loads and stores that copy cells one after the other, between slow places and a half of fast memory. Any function says
-- which slow place a cell is copied from or to, so these serve boxes of every rank that are walked row-major.
use Rattle.std.proofs.Common.{◌≡◌, ◌≢◌, ℕ, zero, suc, ◌+◌, ◌<◌, ◌≤◌, ℤ, pos, length, length-set, get_or, refl, sym, ap, ◌∙◌, subst, arith, Bool, true, false}
use Rattle.std.specs.Prelude.{◌&&◌, nat_eq, slice_set}
use Rattle.std.proofs.lemmas.List.{get_or-set_same, get_or-set_other}
use Rattle.std.proofs.lemmas.Bool.{eqb-true, eqb-false, eq-eqb}
use Rattle.affine_ast.specs.declared.name.Name.{Name}
use Rattle.affine_ast.specs.Names.{same_name, put}
use Rattle.affine_ast.proofs.Names.{same_name-refl, put-same, put-other}
use Rattle.bus_model.specs.declared.step.FaultKind.TheVariants.{Touched, Race}
use Rattle.direct_meaning.specs.Action.{Slow, Fast, Register, Action, Loads, Stores}
use Rattle.direct_meaning.specs.Direct.{Outcome, End, then_do, folded, keep, write, read}
use Rattle.prompt_semantics.specs.Device.{Device, put_half, is_away, load_races, store_races}
use Rattle.prompt_semantics.proofs.Laws.{half_same, half_other}
use Rattle.prompt_semantics.specs.Prompt.{refused, acts}
use Rattle.box_run_laws.specs.Roomy.{roomy, roomy_step}
use Rattle.box_run_laws.specs.Templates.{pairs}

pub itself : (n h : ℕ) → (nat_eq n n && nat_eq h h) ≡ true
itself n h =
    let a : nat_eq n n ≡ true = eq-eqb n n refl in
    let b : nat_eq h h ≡ true = eq-eqb h h refl in
    λ i. a i && b i

-- a register's value behind the write of it
read_back : (registers : Name → ℤ) (v : Name) (z : ℤ) → read (put registers v z) (Register v) ≡ z
unfolding read
read_back registers v z = put-same registers v z v (same_name-refl v)

-- the slow place of each cell; the register; the fast memref and its half
module _ (filler : ℤ) (place : ℕ → ℕ) (v : Name) (n h : ℕ) where
  abbrev pub loads_in : ℕ → Action
  loads_in k = Loads v (Slow (place k))

  abbrev pub stores_in : ℕ → Action
  stores_in k = Stores (Register v) (Fast n h k)

  abbrev pub loads_out : ℕ → Action
  loads_out k = Loads v (Fast n h k)

  abbrev pub stores_out : ℕ → Action
  stores_out k = Stores (Register v) (Slow (place k))

  -- what is as before a copy
  pub record Kept (y z : Device) : Type 0 where
    pub registers : (x : Name) → same_name v x ≡ false → z.state.registers x ≡ y.state.registers x
    pub live : z.live ≡ y.live
    pub outstanding : z.outstanding ≡ y.outstanding

  -- the cells from k on, r of them, hold what their slow places do
  pub record CopiedIn (k r : ℕ) (y z : Device) : Type 0 where
    pub kept : Kept y z
    pub slow : z.state.slow ≡ y.state.slow
    pub others : (m j : ℕ) → (nat_eq n m && nat_eq h j) ≡ false → z.halves m j ≡ y.halves m j
    pub copied : (i : ℕ) → k ≤ i → i < k + r → get_or (z.halves n h) i (pos 0) ≡ get_or y.state.slow (place i) (pos 0)
    pub before : (i : ℕ) → i < k → get_or (z.halves n h) i (pos 0) ≡ get_or (y.halves n h) i (pos 0)
    pub long : length (z.halves n h) ≡ length (y.halves n h)

  -- the slow places of the cells from k on, r of them, hold what their cells do
  pub record CopiedOut (k r : ℕ) (y z : Device) : Type 0 where
    pub kept : Kept y z
    pub halves : z.halves ≡ y.halves
    pub copied : (i : ℕ) → k ≤ i → i < k + r → get_or z.state.slow (place i) (pos 0) ≡ get_or (y.halves n h) i (pos 0)
    pub others : (p : ℕ) → ((i : ℕ) → k ≤ i → i < k + r → p ≢ place i) → get_or z.state.slow p (pos 0) ≡ get_or y.state.slow p (pos 0)
    pub long : length z.state.slow ≡ length y.state.slow

  abbrev slow_value : Device → ℕ → ℤ
  slow_value y k = get_or y.state.slow (place k) (pos 0)

  abbrev cell_value : Device → ℕ → ℤ
  cell_value y k = get_or (y.halves n h) k (pos 0)

  abbrev next_in : Device → ℕ → Device
  next_in y k = record y {
    actions = suc (suc y.actions);
    state = keep v (slow_value y k) y.state;
    halves = put_half y.halves n h (slice_set (y.halves n h) k (slow_value y k));
  }

  abbrev next_out : Device → ℕ → Device
  next_out y k = record y {
    actions = suc (suc y.actions);
    state = write (place k) (cell_value y k) (keep v (cell_value y k) y.state);
  }

  one_in : (y : Device) (k : ℕ) (go : Device → Outcome Device) → load_races y.outstanding (place k) ≡ false → is_away y.outstanding n h ≡ false
      → then_do (roomy_step filler (loads_in k) y) (λ y. then_do (roomy_step filler (stores_in k) y) go) ≡ go (next_in y k)
  unfolding roomy_step roomy acts
  one_in y k go free here =
      let y1 = record y { actions = suc y.actions } in
      let y2 = record y { actions = suc y.actions; state = keep v (slow_value y k) y.state } in
      let y3 = record y { actions = suc (suc y.actions); state = keep v (slow_value y k) y.state } in
      ap (λ t. then_do (refused t Race y1 (End y2)) (λ y. then_do (roomy_step filler (stores_in k) y) go)) free
      ∙ ap (λ t. then_do (refused t Touched y3 (End (record y3 { halves = put_half y.halves n h (slice_set (y.halves n h) k (read y3.state.registers (Register v))) }))) go) here
      ∙ ap (λ z. go (record y3 { halves = put_half y.halves n h (slice_set (y.halves n h) k z) })) (read_back y.state.registers v (slow_value y k))

  one_out : (y : Device) (k : ℕ) (go : Device → Outcome Device) → store_races y.outstanding (place k) ≡ false → is_away y.outstanding n h ≡ false
      → then_do (roomy_step filler (loads_out k) y) (λ y. then_do (roomy_step filler (stores_out k) y) go) ≡ go (next_out y k)
  unfolding roomy_step roomy acts
  one_out y k go free here =
      let y1 = record y { actions = suc y.actions } in
      let y2 = record y { actions = suc y.actions; state = keep v (cell_value y k) y.state } in
      let y3 = record y { actions = suc (suc y.actions); state = keep v (cell_value y k) y.state } in
      ap (λ t. then_do (refused t Touched y1 (End y2)) (λ y. then_do (roomy_step filler (stores_out k) y) go)) here
      ∙ ap (λ t. then_do (refused t Race y3 (End (record y3 { state = write (place k) (read y3.state.registers (Register v)) y3.state }))) go) free
      ∙ ap (λ z. go (record y3 { state = write (place k) z y3.state })) (read_back y.state.registers v (cell_value y k))

  pub copy_in : (r k : ℕ) (y : Device) → ((i : ℕ) → i < k + r → load_races y.outstanding (place i) ≡ false) → is_away y.outstanding n h ≡ false → k + r ≤ length (y.halves n h)
      → (z : Device) × (folded (roomy_step filler) (pairs loads_in stores_in r k) y ≡ End z) × CopiedIn k r y z
  unfolding folded
  copy_in zero k y free here fits = (
    y,
    refl,
    record {
      kept = record { registers = λ x e. refl; live = refl; outstanding = refl };
      slow = refl;
      others = λ m j e. refl;
      copied = λ i a b. absurd (omega (arith, a, b));
      before = λ i e. refl;
      long = refl;
    },
  )
  copy_in (suc r) k y free here fits =
      let y1 = next_in y k in
      let at_k : y1.halves n h ≡ slice_set (y.halves n h) k (slow_value y k) = half_same y.halves n h n h _ (itself n h) in
      let size : length (y1.halves n h) ≡ length (y.halves n h) = ap length at_k ∙ length-set (y.halves n h) k (slow_value y k) in
      let more = copy_in r (suc k) y1 (λ i l. free i (omega (arith, l))) here (omega (arith, fits, size)) in
      let c = more.2 in (
        more.0,
        one_in y k (folded (roomy_step filler) (pairs loads_in stores_in r (suc k))) (free k (omega arith)) here ∙ more.1,
        record {
          kept = record {
            registers = λ x e. c.kept.registers x e ∙ put-other y.state.registers v (slow_value y k) x e;
            live = c.kept.live;
            outstanding = c.kept.outstanding;
          };
          slow = c.slow;
          others = λ m j e. c.others m j e ∙ half_other y.halves n h m j _ e;
          copied = λ i a b. at i a b more.0 c at_k (nat_eq k i) refl;
          before = λ i e. c.before i (omega (arith, e)) ∙ ap (λ l. get_or l i (pos 0)) at_k ∙ get_or-set_other (y.halves n h) k i (slow_value y k) (pos 0) (λ q. omega (arith, e, q));
          long = c.long ∙ size;
        },
      )
    where
      at : (i : ℕ) → k ≤ i → i < k + suc r → (z : Device) → CopiedIn (suc k) r (next_in y k) z → (next_in y k).halves n h ≡ slice_set (y.halves n h) k (slow_value y k)
          → (t : Bool) → nat_eq k i ≡ t → get_or (z.halves n h) i (pos 0) ≡ get_or y.state.slow (place i) (pos 0)
      at i a b z c at_k true t =
          let e = eqb-true k i t in
          subst (λ j. get_or (z.halves n h) j (pos 0) ≡ get_or y.state.slow (place j) (pos 0)) e
          (c.before k (omega arith) ∙ ap (λ l. get_or l k (pos 0)) at_k ∙ get_or-set_same (y.halves n h) k (slow_value y k) (pos 0) (omega (arith, fits)))
      at i a b z c at_k false t = let ne = eqb-false k i t in c.copied i (omega (arith, a, ne)) (omega (arith, b))

  pub copy_out : (r k : ℕ) (y : Device) → ((i j : ℕ) → i < k + r → j < k + r → place i ≡ place j → i ≡ j) → ((i : ℕ) → i < k + r → store_races y.outstanding (place i) ≡ false) → is_away y.outstanding n h ≡ false → ((i : ℕ) → i < k + r → place i < length y.state.slow)
      → (z : Device) × (folded (roomy_step filler) (pairs loads_out stores_out r k) y ≡ End z) × CopiedOut k r y z
  unfolding folded
  copy_out zero k y apart free here fits = (
    y,
    refl,
    record {
      kept = record { registers = λ x e. refl; live = refl; outstanding = refl };
      halves = refl;
      copied = λ i a b. absurd (omega (arith, a, b));
      others = λ p e. refl;
      long = refl;
    },
  )
  copy_out (suc r) k y apart free here fits =
      let y1 = next_out y k in
      let size : length y1.state.slow ≡ length y.state.slow = length-set y.state.slow (place k) (cell_value y k) in
      let more = copy_out r (suc k) y1 (λ i j a b. apart i j (omega (arith, a)) (omega (arith, b))) (λ i l. free i (omega (arith, l))) here (λ i e. subst (λ n. place i < n) (sym size) (fits i (omega (arith, e)))) in
      let c = more.2 in (
        more.0,
        one_out y k (folded (roomy_step filler) (pairs loads_out stores_out r (suc k))) (free k (omega arith)) here ∙ more.1,
        record {
          kept = record {
            registers = λ x e. c.kept.registers x e ∙ put-other y.state.registers v (cell_value y k) x e;
            live = c.kept.live;
            outstanding = c.kept.outstanding;
          };
          halves = c.halves;
          copied = λ i a b. at i a b more.0 c (nat_eq k i) refl;
          others = λ p e. c.others p (λ i a b. e i (omega (arith, a)) (omega (arith, b)))
              ∙ get_or-set_other y.state.slow (place k) p (cell_value y k) (pos 0) (e k (omega arith) (omega arith));
          long = c.long ∙ size;
        },
      )
    where
      at : (i : ℕ) → k ≤ i → i < k + suc r → (z : Device) → CopiedOut (suc k) r (next_out y k) z → (t : Bool) → nat_eq k i ≡ t
          → get_or z.state.slow (place i) (pos 0) ≡ get_or (y.halves n h) i (pos 0)
      at i a b z c true t =
          let e = eqb-true k i t in
          subst (λ j. get_or z.state.slow (place j) (pos 0) ≡ get_or (y.halves n h) j (pos 0)) e
          (c.others (place k) (λ j p q s. let u = apart k j (omega arith) (omega (arith, q)) s in omega (arith, p, u))
          ∙ get_or-set_same y.state.slow (place k) (cell_value y k) (pos 0) (fits k (omega arith)))
      at i a b z c false t = let ne = eqb-false k i t in c.copied i (omega (arith, a, ne)) (omega (arith, b))
