-- A half of a list of memrefs' halves, changed.
use Rattle.std.proofs.Common.{◌≡◌, ◌≢◌, ℕ, zero, suc, ◌<◌, List, [], ◌∷◌, length, set, sym, refl, ap, ◌∙◌, arith, get_or-set_other, get_or-set_same, length-set}
use Rattle.std.specs.Prelude.{Some, slice_get, slice_index_or}
use Rattle.std.proofs.lemmas.List.{set-get_or}
use native.Mathlib.Decide.{ℕ_discrete}
use Rattle.fast_halves.specs.Shape.{HalfShape, HalvesShape}
use Rattle.order_memory.specs.Halves.{no_halves, memref_at, half_at}

pub get_set_same : {X : Type 0} (xs : List X) (k : ℕ) (x : X) → k < length xs → slice_get (set xs k x) k ≡ Some x
get_set_same [] k x lt = absurd (omega arith)
get_set_same (y ∷ xs) zero x lt = refl
get_set_same (y ∷ xs) (suc k) x lt = get_set_same xs k x (omega arith)

pub get_set_other : {X : Type 0} (xs : List X) (k j : ℕ) (x : X) → j ≢ k → slice_get (set xs k x) j ≡ slice_get xs j
get_set_other [] k j x ne = refl
get_set_other (y ∷ xs) zero zero x ne = absurd (ne refl)
get_set_other (y ∷ xs) zero (suc j) x ne = refl
get_set_other (y ∷ xs) (suc k) zero x ne = refl
get_set_other (y ∷ xs) (suc k) (suc j) x ne = get_set_other xs k j x (λ e. ne (ap suc e))

-- a memref's halves with one changed
abbrev pub one_changed : HalvesShape → ℕ → HalfShape → HalvesShape
one_changed m half v = record { cells = m.cells; halves = set m.halves half v }

module _ (hs : List HalvesShape) (number half : ℕ) (v : HalfShape) (there : number < length hs) where
  abbrev pub changed : List HalvesShape
  changed = set hs number (one_changed (memref_at hs number) half v)

  pub changed_length : length changed ≡ length hs
  changed_length = length-set hs number (one_changed (memref_at hs number) half v)

  memref_same : memref_at changed number ≡ one_changed (memref_at hs number) half v
  memref_same = get_or-set_same hs number (one_changed (memref_at hs number) half v) no_halves there

  memref_other : (n : ℕ) → n ≢ number → memref_at changed n ≡ memref_at hs n
  memref_other n ne = get_or-set_other hs number n (one_changed (memref_at hs number) half v) no_halves ne

  pub half_same : half < length (memref_at hs number).halves → half_at changed number half ≡ Some v
  half_same lt = ap (λ (m : HalvesShape). slice_get m.halves half) memref_same ∙ get_set_same (memref_at hs number).halves half v lt

  pub half_other : (n h : ℕ) → (n ≡ number → h ≡ half → ⊥) → half_at changed n h ≡ half_at hs n h
  half_other n h ne = elim (ℕ_discrete n number) [
    | yes e ↦ ap (λ n. half_at changed n h) e ∙ ap (λ (m : HalvesShape). slice_get m.halves h) memref_same ∙ get_set_other (memref_at hs number).halves half h v (ne e) ∙ sym (ap (λ n. half_at hs n h) e)
    | no no_e ↦ ap (λ (m : HalvesShape). slice_get m.halves h) (memref_other n no_e)
  ]

  pub cells_same : (n : ℕ) → (memref_at changed n).cells ≡ (memref_at hs n).cells
  cells_same n = elim (ℕ_discrete n number) [
    | yes e ↦ ap (λ n. (memref_at changed n).cells) e ∙ ap (λ (m : HalvesShape). m.cells) memref_same ∙ sym (ap (λ n. (memref_at hs n).cells) e)
    | no no_e ↦ ap (λ (m : HalvesShape). m.cells) (memref_other n no_e)
  ]

-- how many halves each has
module _ (hs : List HalvesShape) (number half : ℕ) (v : HalfShape) (there : number < length hs) where
  pub halves_same : (n : ℕ) → length (memref_at (changed hs number half v there) n).halves ≡ length (memref_at hs n).halves
  halves_same n = elim (ℕ_discrete n number) [
    | yes e ↦ ap (λ n. length (memref_at (changed hs number half v there) n).halves) e ∙ ap (λ (m : HalvesShape). length m.halves) (get_or-set_same hs number (one_changed (memref_at hs number) half v) no_halves there)
        ∙ length-set (memref_at hs number).halves half v ∙ sym (ap (λ n. length (memref_at hs n).halves) e)
    | no no_e ↦ ap (λ (m : HalvesShape). length m.halves) (get_or-set_other hs number n (one_changed (memref_at hs number) half v) no_halves no_e)
  ]

-- a half that is there is that of a memref that is there
pub half_there : (hs : List HalvesShape) (number half : ℕ) (v : HalfShape) → half_at hs number half ≡ Some v → number < length hs
half_there [] number half v e = absurd (cc)
half_there (h ∷ hs) zero half v e = omega arith
half_there (h ∷ hs) (suc number) half v e = let lt = half_there hs number half v e in omega arith

-- what an index gives is what stands there
pub memref_is : (hs : List HalvesShape) (number : ℕ) (m : HalvesShape) → number < length hs → m ≡ slice_index_or hs number m → m ≡ memref_at hs number
memref_is [] number m lt e = absurd (omega arith)
memref_is (h ∷ hs) zero m lt e = e
memref_is (h ∷ hs) (suc number) m lt e = memref_is hs number m (omega arith) e

-- a memref's halves told by their parts
pub changed_is : (hs : List HalvesShape) (number half : ℕ) (v : HalfShape) (there : number < length hs) (m m' : HalvesShape)
    → m ≡ memref_at hs number → m'.cells ≡ m.cells → m'.halves ≡ set m.halves half v → set hs number m' ≡ changed hs number half v there
changed_is hs number half v there m m' is cells halves = ap (set hs number) (λ k. record {
  cells = (cells ∙ ap (λ (m : HalvesShape). m.cells) is) k;
  halves = (halves ∙ ap (λ (m : HalvesShape). set m.halves half v) is) k;
})

-- a memref's halves put where they stand
pub put_back : (hs : List HalvesShape) (number : ℕ) (m m' : HalvesShape) → m' ≡ m → m ≡ memref_at hs number → set hs number m' ≡ hs
put_back hs number m m' e is = ap (set hs number) (e ∙ is) ∙ set-get_or hs number no_halves
