-- A half by its place, and halves that are filled anew.
use Rattle.std.proofs.Common.{◌≡◌, ◌≢◌, ℕ, ℤ, zero, suc, ◌+◌, ◌<◌, List, [], ◌∷◌, length, get_or, set, replicate, sym, ap, ◌∙◌, subst, arith, get_or-set_other, get_or-set_same, below_more}
use Rattle.std.specs.Prelude.{slice_get, slice_index_or, Some}
use Rattle.std.specs.List.{All}
use Rattle.std.proofs.lemmas.List.{length-map, length-replicate, map-set, get_or-replicate, get_or-map, ext_get_or}
use Rattle.fast_halves.specs.declared.Half.{Half}
use Rattle.fast_halves.specs.declared.Half.TheVariants.{Here, Away}
use Rattle.fast_halves.specs.Shape.{HalfShape, here, away, shape, shapes, Fitting, IsHere, IsHereWith}

pub shape_at : (hs : List Half) (i : ℕ) (h : Half) → i < length hs → h ≡ get_or hs i h → slice_get (shapes hs) i ≡ Some (shape h)
shape_at [] i h lt e = absurd (omega arith)
shape_at (x ∷ hs) zero h lt e = ap (λ q. Some (shape q)) (sym e)
shape_at (x ∷ hs) (suc i) h lt e = shape_at hs i h (omega arith) e

pub is_here : (n : ℕ) (h : Half) → IsHereWith n h → IsHere (shape h)
is_here n (Here v) e = tt
is_here n (Away t) e = absurd e

-- a half that is here with so many cells has just those
pub long_here : (n : ℕ) (h : Half) (c : List ℤ) → IsHereWith n h → shape h ≡ here c → length c ≡ n
long_here n (Here v) c e same = subst (λ (q : HalfShape). Long q) same e
  where
    Long : HalfShape → Type 0
    Long (here d) = length d ≡ n
    Long (away t) = ⊥
long_here n (Away t) c e same = absurd e

pub here_with : (n : ℕ) (h : Half) (c : List ℤ) → shape h ≡ here c → length c ≡ n → IsHereWith n h
here_with n (Here v) c same e = long v.items same
  where
    long : (d : List ℤ) → here d ≡ here c → length d ≡ n
    long d q = let r : d ≡ c = cc in ap (λ (l : List ℤ). length l) r ∙ e
here_with n (Away t) c same e = absurd (cc)

-- one more half is filled
pub filled_more : (hs : List Half) (i : ℕ) (h : Half) (x : HalfShape) → i < length hs → shape h ≡ x → ((k : ℕ) → k < i → slice_index_or (shapes hs) k (here []) ≡ x) → (k : ℕ) → k < i + 1 → slice_index_or (shapes (set hs i h)) k (here []) ≡ x
filled_more hs i h x lt is before = below_more _ _
    (λ k near. let ne : k ≢ i = omega arith in ap (λ l. slice_index_or l k (here [])) (map-set shape hs i h) ∙ get_or-set_other (shapes hs) i k (shape h) (here []) ne ∙ before k near)
    (ap (λ l. slice_index_or l i (here [])) (map-set shape hs i h) ∙ get_or-set_same (shapes hs) i (shape h) (here []) (let a = length-map hs shape in omega arith) ∙ is)

pub all_filled : (hs : List Half) (n : ℕ) (x : HalfShape) → length hs ≡ n → ((k : ℕ) → k < n → slice_index_or (shapes hs) k (here []) ≡ x) → shapes hs ≡ replicate n x
all_filled hs n x long each = ext_get_or (here []) (shapes hs) (replicate n x) (length-map hs shape ∙ long ∙ sym (length-replicate n x))
    (λ i lt. let near : i < n = let a = length-map hs shape in omega arith in each i near ∙ sym (get_or-replicate n i x (here []) near))

-- halves that are seen to be here have the cells that the halves' rule says
pub all_here : (n : ℕ) (hs : List Half) → All (Fitting n) hs → All IsHere (shapes hs) → All (IsHereWith n) hs
all_here n hs fit seen k d lt = with_cells (get_or hs k d) (fit k d lt) (subst IsHere (get_or-map shape hs k d (here []) lt) (seen k (here []) (let a = length-map hs shape in omega arith)))
  where
    with_cells : (h : Half) → Fitting n h → IsHere (shape h) → IsHereWith n h
    with_cells (Here v) e i = e
    with_cells (Away t) e i = i
