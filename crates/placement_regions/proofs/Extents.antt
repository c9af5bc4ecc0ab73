-- Each extent of a region is between 1 and the memref's size, where the sizes are at least 1.
use Rattle.std.proofs.Common.{◌≡◌, ℕ, zero, suc, ◌≤◌, Bool, true, false, cond, List, [], ◌∷◌, length, replicate, Option, Some, None, Result, Ok, Err, ℤ, pos, negsuc, ◌+ℤ◌, ◌-ℤ◌, ◌≤ℤ◌, int_lt, refl, sym, ◌∙◌, ap, subst, arith}
use Rattle.std.specs.Prelude.{int_le}
use Rattle.std.proofs.lemmas.Int.{ints}
use Rattle.constraint_set.specs.Points.{LinearSystem}
use Rattle.constraint_set.specs.Reach.{Reach, never, between}
use Rattle.affine_ast.specs.declared.module.Arg.{Arg}
use Rattle.affine_ast.specs.declared.name.Name.{Name}
use Rattle.direct_meaning.specs.Turns.{gap}
use Rattle.nest_domain.specs.Ways.{Header, Use, loop_count}
use Rattle.nest_domain.specs.Boxes.{Dimension}
use Rattle.access_region.specs.Faults.{NoRegion, unplaced, ◌>>=◌}
use Rattle.access_region.specs.Candidates.{Reaching, candidates}
use Rattle.access_region.specs.Spans.{reach_at, combination, spans_of, Tried, tried_from, tried, lesser, best, all_joined}
use Rattle.access_region.specs.Regions.{reaching, Outside, outside_at, at_most_whole, clamped_by, placed, dimension, dimensions}
use Rattle.access_region.specs.Widening.{Side, sides, shape, is_mixed, all_whole, made_whole, last_whole, widened_by, dims_of, widened, for_transfers}
use Rattle.access_region.specs.Places.{region_of}
use Rattle.access_region.proofs.Inside.{Gives, on, then_by}
use Rattle.access_region.proofs.Regioned.{region_at, found_of}
use Rattle.placement_texts.specs.Template.{dim_sizes}
use Rattle.placement_regions.specs.Sites.{dims_over, ExtentsFit}

-- an extent is in order with its size
abbrev pub Fits : ℤ → ℤ → Type 0
Fits extent size = (pos 1 ≤ℤ extent) × (extent ≤ℤ size)

-- a dimension for each size, with such an extent
abbrev pub AllFit : List Dimension → List ℕ → Type 0
AllFit [] [] = Unit {0}
AllFit [] (n ∷ ns) = ⊥
AllFit (d ∷ ds) [] = ⊥
AllFit (d ∷ ds) (n ∷ ns) = Fits d.extent (pos n) × AllFit ds ns

abbrev pub AllSome : List ℕ → Type 0
AllSome [] = Unit {0}
AllSome (n ∷ ns) = (1 ≤ n) × AllSome ns

-- ---- what is found
abbrev HasElements : Tried → Type 0
HasElements t = pos 1 ≤ℤ t.extent

-- an answer from a list, by whether it is empty
from_list : {A : Type 0} (f : List A → Result Tried NoRegion) → Gives (f []) HasElements → ((s : A) (ss : List A) → Gives (f (s ∷ ss)) HasElements) → (xs : List A) → Gives (f xs) HasElements
from_list f none some [] = none
from_list f none some (s ∷ ss) = some s ss

extent_some : (c : List ℤ) (least extent : ℤ) (b : Bool) → int_lt extent (pos 1) ≡ b → Gives {A = Tried} (cond b (Err unplaced) (Ok (record { coefs = c; offset = least; extent = extent }))) HasElements
extent_some c least extent true e = tt
extent_some c least extent false e = grind (arith, ints, e)

tried_some : (d : ℕ) (xs : List Reaching) (c : List ℤ) → Gives (tried d xs c) HasElements
tried_some d xs c =
    on (spans_of d c xs) (tried_from c) HasElements (λ spans e.
    from_list (tried_from c) tt (λ s ss. extent_some c (all_joined s ss).least (((all_joined s ss).greatest -ℤ (all_joined s ss).least) +ℤ pos 1) (int_lt (((all_joined s ss).greatest -ℤ (all_joined s ss).least) +ℤ pos 1) (pos 1)) refl) spans)

abbrev KeptSome : Option Tried → Type 0
KeptSome None = Unit {0}
KeptSome (Some t) = HasElements t

best_some : (d : ℕ) (xs : List Reaching) (cs : List (List ℤ)) (kept : Option Tried) → KeptSome kept → Gives (best d xs cs kept) HasElements
best_some d xs [] None k = tt
best_some d xs [] (Some t) k = k
best_some d xs (c ∷ cs) kept k = then_by (tried d xs c) _ HasElements HasElements (tried_some d xs c) (λ t h. best_some d xs cs (Some (lesser kept t)) (chosen kept t k h))
  where
    chosen : (kept : Option Tried) (t : Tried) → KeptSome kept → HasElements t → HasElements (lesser kept t)
    chosen None t k h = h
    chosen (Some u) t k h = by (int_lt t.extent u.extent)
      where
        by : (b : Bool) → HasElements (cond {A = Tried} b t u)
        by true = h
        by false = k

whole_fits : (outer n : ℕ) (t : Tried) → 1 ≤ n → HasElements t → Fits (at_most_whole outer (pos n) t).extent (pos n)
whole_fits outer n t some h = by (int_le (pos n) t.extent) refl
  where
    by : (b : Bool) → int_le (pos n) t.extent ≡ b → Fits (cond {A = Tried} b (record { coefs = replicate outer (pos 0); offset = pos 0; extent = pos n }) t).extent (pos n)
    by true e = (omega (arith, ints, some), omega (arith, ints))
    by false e = (h, grind (arith, ints, e))

placed_fits : (outside : LinearSystem) (size : ℤ) (t : Tried) → Fits t.extent size → Gives (placed outside size t) (λ d. Fits d.extent size)
placed_fits outside size t h = on (reach_at outside (combination t.coefs)) (clamped_by size t) (λ d. Fits d.extent size) (λ r e. by r)
  where
    by : (r : Reach) → Gives (clamped_by size t r) (λ d. Fits d.extent size)
    by never = tt
    by (between g l) = h

dimension_fits : (outside : Outside) (loops d n : ℕ) (xs : List Reaching) → 1 ≤ n → Gives (dimension outside loops xs d n) (λ d. Fits d.extent (pos n))
dimension_fits outside loops d n xs some =
    on (candidates outside.outer loops d xs) _ (λ (d : Dimension). Fits d.extent (pos n)) (λ cs e.
    then_by (best d xs cs None) _ HasElements (λ d. Fits d.extent (pos n)) (best_some d xs cs None tt) (λ t h.
    placed_fits outside.system (pos n) (at_most_whole outside.outer (pos n) t) (whole_fits outside.outer n t some h)))

dimensions_fit : (outside : Outside) (loops : ℕ) (xs : List Reaching) (d : ℕ) (sizes : List ℕ) → AllSome sizes → Gives (dimensions outside loops xs d sizes) (λ ds. AllFit ds sizes)
dimensions_fit outside loops xs d [] some = tt
dimensions_fit outside loops xs d (n ∷ sizes) some =
    then_by (dimension outside loops xs d n) _ (λ d. Fits d.extent (pos n)) (λ ds. AllFit ds (n ∷ sizes)) (dimension_fits outside loops d n xs some.0) (λ f h.
    then_by (dimensions outside loops xs (suc d) sizes) _ (λ ds. AllFit ds sizes) (λ ds. AllFit ds (n ∷ sizes)) (dimensions_fit outside loops xs (suc d) sizes some.1) (λ fs k. (h, k)))

-- ---- widened
abbrev pub SidesFit : List Side → List ℕ → Type 0
SidesFit [] [] = Unit {0}
SidesFit [] (n ∷ ns) = ⊥
SidesFit (d ∷ ds) [] = ⊥
SidesFit (d ∷ ds) (n ∷ ns) = ((d.size ≡ pos n) × Fits d.dim.extent (pos n)) × SidesFit ds ns

pub sides_fit : (ds : List Dimension) (ns : List ℕ) → AllFit ds ns → SidesFit (sides ds ns) ns
sides_fit [] [] h = tt
sides_fit [] (n ∷ ns) h = absurd h
sides_fit (d ∷ ds) [] h = absurd h
sides_fit (d ∷ ds) (n ∷ ns) h = ((refl, h.0), sides_fit ds ns h.1)

dims_fit : (ds : List Side) (ns : List ℕ) → SidesFit ds ns → AllFit (dims_of ds) ns
dims_fit [] [] h = tt
dims_fit [] (n ∷ ns) h = absurd h
dims_fit (d ∷ ds) [] h = absurd h
dims_fit (d ∷ ds) (n ∷ ns) h = (h.0.1, dims_fit ds ns h.1)

last_fits : (ds : List Side) (ns : List ℕ) → AllSome ns → SidesFit ds ns → SidesFit (last_whole ds) ns
last_fits [] [] some h = tt
last_fits [] (n ∷ ns) some h = absurd h
last_fits (d ∷ ds) [] some h = absurd h
last_fits (d ∷ ds) (n ∷ ns) some h = by (all_whole ds) (last_fits ds ns some.1 h.1)
  where
    whole : (s : ℤ) → s ≡ pos n → 1 ≤ n → Fits s (pos n)
    whole s e k = (omega (arith, ints, e, k), omega (arith, ints, e))

    by : (b : Bool) → SidesFit (last_whole ds) ns → SidesFit (cond b (made_whole d ∷ ds) (d ∷ last_whole ds)) (n ∷ ns)
    by true k = ((h.0.0, whole d.size h.0.0 some.0), h.1)
    by false k = (h.0, k)

pub widened_fits : (m : ℕ) (ds : List Side) (ns : List ℕ) → AllSome ns → SidesFit ds ns → SidesFit (widened_by m ds) ns
widened_fits zero ds ns some h = h
widened_fits (suc m) ds ns some h = by (is_mixed (shape ds)) (widened_fits m (last_whole ds) ns some (last_fits ds ns some h))
  where
    by : (b : Bool) → SidesFit (widened_by m (last_whole ds)) ns → SidesFit (cond b (widened_by m (last_whole ds)) ds) ns
    by true k = k
    by false k = h

kept_fits : (dma : Bool) (ds : List Dimension) (ns : List ℕ) → AllSome ns → AllFit ds ns → AllFit (for_transfers dma ns ds) ns
unfolding widened
kept_fits false ds ns some h = h
kept_fits true ds ns some h = dims_fit (widened_by (length ds) (sides ds ns)) ns (widened_fits (length ds) (sides ds ns) ns some (sides_fit ds ns h))

pub region_fits : (args : List Arg) (way : List Header) (us : List Use) (sizes : List ℕ) → AllSome sizes → Gives (region_at args way us sizes) (λ ds. AllFit ds sizes)
unfolding region_at
region_fits args way us sizes some =
    on (reaching args us) _ (λ (ds : List Dimension). AllFit ds sizes) (λ xs e.
    on (outside_at args way) (λ outside. dimensions outside (loop_count way) xs 0 sizes) (λ (ds : List Dimension). AllFit ds sizes) (λ outside o.
    dimensions_fit outside (loop_count way) xs 0 sizes some))

pub extents_fit : (args : List Arg) (way : List Header) (us : List Use) (sizes : List ℕ) (dma : Bool) (ds : List Dimension) → AllSome sizes → region_of args way us sizes dma ≡ Ok ds → AllFit ds sizes
extents_fit args way us sizes dma ds some is =
    let r = found_of args way us sizes dma ds is in
    subst (λ xs. AllFit xs sizes) r.widened (kept_fits dma r.found sizes some (subst (λ w. Gives w (λ ds. AllFit ds sizes)) r.is (region_fits args way us sizes some)))

-- ---- over the placement's dimensions
pub dims_extents : (ns : List Name) (ds : List Dimension) (sizes : List ℕ) → AllFit ds sizes → ExtentsFit (dims_over ns ds sizes)
dims_extents ns [] [] h = tt
dims_extents ns [] (n ∷ sizes) h = absurd h
dims_extents ns (d ∷ ds) [] h = absurd h
dims_extents ns (d ∷ ds) (n ∷ sizes) h = (low d.extent h.0.0, high d.extent h.0.0 h.0.1, dims_extents ns ds sizes h.1)
  where
    low : (z : ℤ) → pos 1 ≤ℤ z → 1 ≤ gap z
    low (pos m) k = omega (arith, ints, k)
    low (negsuc m) k = absurd (omega (arith, ints, k))

    high : (z : ℤ) → pos 1 ≤ℤ z → z ≤ℤ pos n → gap z ≤ n
    high (pos m) k l = omega (arith, ints, l)
    high (negsuc m) k l = absurd (omega (arith, ints, k))

pub dims_sizes : (ns : List Name) (ds : List Dimension) (sizes : List ℕ) → AllFit ds sizes → dim_sizes (dims_over ns ds sizes) ≡ sizes
dims_sizes ns [] [] h = refl
dims_sizes ns [] (n ∷ sizes) h = absurd h
dims_sizes ns (d ∷ ds) [] h = absurd h
dims_sizes ns (d ∷ ds) (n ∷ sizes) h = ap (λ xs. n ∷ xs) (dims_sizes ns ds sizes h.1)
