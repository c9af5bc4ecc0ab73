-- What the actions of a placement's loop may do, as the region of the loop tells it.
use Rattle.std.proofs.Common.{◌≡◌, ◌⊎◌, inl, inr, ⊎_elim, ℕ, ◌+◌, ◌<◌, ◌≤◌, List, refl, sym, ap, ◌∙◌, subst, arith, Bool, true, false}
use Rattle.std.specs.Prelude.{Option, Some, None, is_some, if◌then◌else◌}
use Rattle.affine_ast.specs.declared.name.Name.{Name}
use Rattle.bus_model.specs.declared.transfer.Transfer.{Transfer}
use Rattle.bus_model.specs.Places.{slow_place}
use Rattle.direct_meaning.specs.Action.{SlowMemref, Slow}
use Rattle.direct_meaning.specs.Static.{product}
use Rattle.boxes.specs.Boxes as box
use Rattle.boxes.specs.Boxes.{Side, volume, count, cell}
use Rattle.boxes.proofs.Places.{cell_in}
use Rattle.box_run_laws.specs.Layouts.{Numbering, Cell}
use Rattle.box_run_laws.specs.Owned.{IsClear, OwnLoad, OwnStore, HomeWhere, FreeToLoad, FreeToStore}
use Rattle.box_run_laws.specs.Boxes.{found, cell_at, in_box, Half, boxed, Misses}
use Rattle.box_run_laws.proofs.Boxes.{not_found}
use Rattle.box_run_laws.proofs.RowMajor.{row_major}

-- a range of slow places that the memref of the box has no part in
abbrev pub Beyond : ℕ → ℕ → ℕ → ℕ → Type 0
Beyond first size low end = (end ≤ first) ⊎ (first + size ≤ low)

module _ (own : Name → Bool) (nu : Numbering) (b : Half) (place : ℕ → ℕ) where
  some_none : {A : Type 0} (o : Option A) (a : A) → o ≡ Some a → o ≡ None → ⊥
  some_none o a e f = let k : Some a ≡ None = sym e ∙ f in cc

  -- every load of a box that is read in, and every store to one that is written out
  pub load_read : b.reads ≡ true → (p : ℕ) → OwnLoad own nu (boxed b place) (Slow p)
  load_read e p = ((λ c f. ap (λ t. if t then false else in_box place b.count p) e), (λ f. refl))

  pub store_written : b.writes ≡ true → (p : ℕ) → OwnStore own nu (boxed b place) (Slow p)
  store_written e p = ((λ c f. ap (λ t. if t then in_box place b.count p else false) e ∙ lives c (found place b.count p) f), (λ f. refl), tt)
    where
      lives : (c : Cell) (o : Option ℕ) → cell_at b.number b.half o ≡ Some c → is_some o ≡ true
      lives c (Some k) f = refl
      lives c None f = let g : None ≡ Some c = f in absurd (cc)

  -- every access of a place that isn't in the box
  pub load_else : (p : ℕ) → (boxed b place).lives p ≡ None → OwnLoad own nu (boxed b place) (Slow p)
  load_else p e = ((λ c f. absurd (some_none ((boxed b place).lives p) c f e)), (λ f. refl))

  pub store_else : (p : ℕ) → (boxed b place).lives p ≡ None → OwnStore own nu (boxed b place) (Slow p)
  store_else p e = ((λ c f. absurd (some_none ((boxed b place).lives p) c f e)), (λ f. refl), tt)

module _ (own : Name → Bool) (nu : Numbering) (b : Half) (first : ℕ) (ds : List Side) (i : box.IsBox ds) (e : b.count ≡ count ds) where
  -- places of other memrefs, raw accesses of them, and transfers
  pub lives_beyond : (p : ℕ) → (p < first) ⊎ (first + volume ds ≤ p) → (boxed b (row_major first ds)).lives p ≡ None
  lives_beyond p o = ap (cell_at b.number b.half) (not_found (row_major first ds) b.count p (λ k l same.
      let less = cell_in ds k i (subst (λ n. k < n) e l) in
      ⊎_elim (λ (h : p < first). omega (arith, h, same)) (λ (h : first + volume ds ≤ p). omega (arith, h, same, less)) o))

  lives_at_home : (low : ℕ) (sizes : List ℕ) → Beyond first (volume ds) low (low + product sizes) → (k : ℕ) → k < product sizes → (boxed b (row_major first ds)).lives (low + k) ≡ None
  lives_at_home low sizes o k l = lives_beyond (low + k) (⊎_elim (λ (h : low + product sizes ≤ first). inl (omega (arith, h, l))) (λ (h : first + volume ds ≤ low). inr (omega (arith, h))) o)

  pub load_home : (number low : ℕ) (sizes : List ℕ) → Beyond first (volume ds) low (low + product sizes) → HomeWhere own nu (FreeToLoad own nu (boxed b (row_major first ds))) (Some (SlowMemref number low)) sizes
  load_home number low sizes o k l = (lives_at_home low sizes o k l, refl)

  pub store_home : (number low : ℕ) (sizes : List ℕ) → Beyond first (volume ds) low (low + product sizes) → HomeWhere own nu (FreeToStore own nu (boxed b (row_major first ds))) (Some (SlowMemref number low)) sizes
  store_home number low sizes o k l = (lives_at_home low sizes o k l, refl, tt)

  pub clear_beyond : (t : Transfer) → ((j : ℕ) → j < t.count → (slow_place t j < first) ⊎ (first + volume ds ≤ slow_place t j)) → IsClear (boxed b (row_major first ds)) t
  clear_beyond t h = inr (λ j l. lives_beyond (slow_place t j) (h j l))

  pub misses_beyond : (t : Transfer) → ((j : ℕ) → j < t.count → (slow_place t j < first) ⊎ (first + volume ds ≤ slow_place t j)) → Misses (row_major first ds) b.count t
  misses_beyond t h j l k m same =
      let less = cell_in ds k i (subst (λ n. k < n) e m) in
      ⊎_elim (λ (o : slow_place t j < first). omega (arith, o, same)) (λ (o : first + volume ds ≤ slow_place t j). omega (arith, o, same, less)) (h j l)
