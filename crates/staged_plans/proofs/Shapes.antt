-- One transfer carries a widened region.
use Rattle.std.proofs.Common.{◌≡◌, ℕ, zero, suc, ◌+◌, ◌≤◌, Bool, true, false, cond, List, [], ◌∷◌, length, ℤ, pos, negsuc, ◌≤ℤ◌, refl, sym, ◌∙◌, ap, subst, arith, Ok, Some, None}
use Rattle.std.specs.Prelude.{nat_eq, if◌then◌else◌}
use Rattle.std.specs.Ordering.{int_eq}
use Rattle.std.proofs.lemmas.Bool.{eqb-true, eq-eqb}
use Rattle.std.proofs.lemmas.Bool.Decides.{Decides-int_eq}
use Rattle.std.proofs.lemmas.Int.{ints}
use Rattle.affine_ast.specs.declared.name.Name.{Name}
use Rattle.direct_meaning.specs.Turns.{gap}
use Rattle.boxes.specs.Boxes as box
use Rattle.nest_domain.specs.Boxes.{Dimension}
use Rattle.access_region.specs.Widening.{Side, sides, is_whole, is_one, shape_over, shape, is_mixed, all_whole, made_whole, last_whole, widened_by, dims_of, widened, for_transfers}
use Rattle.placement_texts.specs.Template.{How, Copies, Transfers, Placement}
use Rattle.placement_regions.specs.Sites.{dims_over}
use Rattle.placement_regions.proofs.Extents.{AllSome, AllFit, SidesFit, sides_fit, widened_fits}
use Rattle.staging_laws.specs.Joined.{Carried, Suited}
use Rattle.staging_laws.specs.Law.{flat_spans}
use Rattle.staged_plans.specs.Plans.{chunks_of, how_over}

-- ---- the shapes, by a box of each
abbrev ResultOf : {A : Type 0} → (List Side → A) → Type 0
ResultOf {A = A} f = A

abbrev Shape : Type 0
Shape = ResultOf shape

-- a dimension of this extent and size
abbrev flat_side : ℤ → ℤ → Side
flat_side extent size = record { dim = record { coefs = []; offset = pos 0; extent = extent; clamped = false }; size = size }

-- ---- widening comes to an end
same_int : (z : ℤ) → int_eq z z ≡ true
same_int z = (Decides-int_eq z z).1 refl

abbrev open_count : List Side → ℕ
open_count [] = 0
open_count (d ∷ ds) = if is_whole d then open_count ds else suc (open_count ds)

count_most : (ds : List Side) → open_count ds ≤ length ds
count_most [] = omega arith
count_most (d ∷ ds) = by (is_whole d) (count_most ds)
  where
    by : (b : Bool) → open_count ds ≤ length ds → (if b then open_count ds else suc (open_count ds)) ≤ suc (length ds)
    by true h = omega (arith, h)
    by false h = omega (arith, h)

none_open : (ds : List Side) → open_count ds ≡ 0 → all_whole ds ≡ true
none_open [] h = refl
none_open (d ∷ ds) h = by (is_whole d) h (λ e. none_open ds e)
  where
    by : (b : Bool) → (if b then open_count ds else suc (open_count ds)) ≡ 0 → (open_count ds ≡ 0 → all_whole ds ≡ true) → (if b then all_whole ds else false) ≡ true
    by true e k = k e
    by false e k = absurd (omega (arith, e))

whole_over : (d : Side) → is_whole d ≡ true → shape_over d (shape []) ≡ shape []
unfolding shape
whole_over d e = ap (λ (b : Bool). if b then shape [] else shape (flat_side (pos 1) (pos 2) ∷ [])) e

whole_shape : (ds : List Side) → all_whole ds ≡ true → shape ds ≡ shape []
unfolding shape
whole_shape [] h = refl
whole_shape (d ∷ ds) h = by (is_whole d) refl h (λ k. whole_shape ds k)
  where
    by : (b : Bool) → is_whole d ≡ b → (if b then all_whole ds else false) ≡ true → (all_whole ds ≡ true → shape ds ≡ shape []) → shape_over d (shape ds) ≡ shape []
    by true e k more = ap (shape_over d) (more k) ∙ whole_over d e
    by false e k more = absurd (let z : ⊥ = cc in z)

whole_even : is_mixed (shape []) ≡ false
unfolding shape
whole_even = refl

one_less : (ds : List Side) → all_whole ds ≡ false → suc (open_count (last_whole ds)) ≡ open_count ds
one_less [] h = absurd (let z : ⊥ = cc in z)
one_less (d ∷ ds) h = by (all_whole ds) refl (λ e. one_less ds e)
  where
    kept : (b : Bool) → suc (open_count (last_whole ds)) ≡ open_count ds → suc (if b then open_count (last_whole ds) else suc (open_count (last_whole ds))) ≡ (if b then open_count ds else suc (open_count ds))
    kept true e = e
    kept false e = ap suc e

    not_whole : (b : Bool) → is_whole d ≡ b → all_whole ds ≡ true → is_whole d ≡ false
    not_whole true e w = let z : true ≡ false = sym w ∙ ap (λ b. if b then all_whole ds else false) (sym e) ∙ h in absurd (cc)
    not_whole false e w = e

    by : (a : Bool) → all_whole ds ≡ a → (all_whole ds ≡ false → suc (open_count (last_whole ds)) ≡ open_count ds) → suc (open_count (if a then made_whole d ∷ ds else d ∷ last_whole ds)) ≡ open_count (d ∷ ds)
    by true e more =
        ap (λ b. suc (if b then open_count ds else suc (open_count ds))) (same_int d.size)
        ∙ sym (ap (λ b. if b then open_count ds else suc (open_count ds)) (not_whole (is_whole d) refl e))
    by false e more = kept (is_whole d) (more e)

never_mixed : (m : ℕ) (ds : List Side) → open_count ds ≤ m → is_mixed (shape (widened_by m ds)) ≡ false
never_mixed zero ds h = ap is_mixed (whole_shape ds (none_open ds (omega (arith, h)))) ∙ whole_even
never_mixed (suc m) ds h = by (is_mixed (shape ds)) refl (λ k. never_mixed m (last_whole ds) k)
  where
    still_open : is_mixed (shape ds) ≡ true → all_whole ds ≡ false
    still_open e = pick (all_whole ds) refl
      where
        pick : (b : Bool) → all_whole ds ≡ b → all_whole ds ≡ false
        pick true w = let z : true ≡ false = sym e ∙ ap is_mixed (whole_shape ds w) ∙ whole_even in absurd (cc)
        pick false w = w

    by : (b : Bool) → is_mixed (shape ds) ≡ b → (open_count (last_whole ds) ≤ m → is_mixed (shape (widened_by m (last_whole ds))) ≡ false) → is_mixed (shape (if b then widened_by m (last_whole ds) else ds)) ≡ false
    by true e more = more (let k = one_less ds (still_open e) in omega (arith, h, k))
    by false e more = e

-- ---- the shape of a region's sides is that of the placement's
abbrev kind_of : box.Shape → Shape
kind_of box.Whole = shape []
kind_of box.OneRun = shape (flat_side (pos 1) (pos 2) ∷ [])
kind_of (box.Even c s) = shape (flat_side (pos 2) (pos 2) ∷ flat_side (pos 1) (pos 2) ∷ [])
kind_of (box.Runs c s) = shape (flat_side (pos 2) (pos 3) ∷ flat_side (pos 1) (pos 2) ∷ [])
kind_of box.Mixed = shape (flat_side (pos 2) (pos 3) ∷ flat_side (pos 2) (pos 3) ∷ flat_side (pos 1) (pos 2) ∷ [])

kind_mixed : (s : box.Shape) → is_mixed (kind_of s) ≡ box.is_mixed s
unfolding shape
kind_mixed box.Whole = refl
kind_mixed box.OneRun = refl
kind_mixed (box.Even c s) = refl
kind_mixed (box.Runs c s) = refl
kind_mixed box.Mixed = refl

same_test : (z : ℤ) (n : ℕ) → pos 1 ≤ℤ z → int_eq z (pos n) ≡ nat_eq (gap z) n
same_test (pos m) n h = by (nat_eq m n) refl
  where
    by : (b : Bool) → nat_eq m n ≡ b → int_eq (pos m) (pos n) ≡ b
    by true e = let k : m ≡ n = eqb-true m n e in ap (λ x. int_eq (pos x) (pos n)) k ∙ same_int (pos n)
    by false e = pick (int_eq (pos m) (pos n)) refl
      where
        pick : (c : Bool) → int_eq (pos m) (pos n) ≡ c → int_eq (pos m) (pos n) ≡ false
        pick true w = let k : pos m ≡ pos n = (Decides-int_eq (pos m) (pos n)).0 w in let j : m ≡ n = omega (arith, ints, k) in let z : true ≡ false = sym (eq-eqb m n j) ∙ e in absurd (cc)
        pick false w = w
same_test (negsuc m) n h = absurd (omega (arith, ints, h))

-- one dimension more, by whether it is whole and whether it is one
over_kind : (b : box.Side) (bs : List box.Side) (d : Side) (s : box.Shape) → is_whole d ≡ box.is_whole b → is_one d ≡ nat_eq b.extent 1 → kind_of (box.shape_over b bs s) ≡ shape_over d (kind_of s)
unfolding shape
over_kind b bs d box.Whole w o = pick (box.is_whole b) ∙ ap (λ t. if t then kind_of box.Whole else kind_of box.OneRun) (sym w)
  where
    pick : (t : Bool) → kind_of (if t then box.Whole else box.OneRun) ≡ (if t then kind_of box.Whole else kind_of box.OneRun)
    pick true = refl
    pick false = refl
over_kind b bs d box.OneRun w o = pick (nat_eq b.extent 1) (box.is_whole b) ∙ (λ i. if sym o i then kind_of box.OneRun else (if sym w i then kind_of (box.Even 0 0) else kind_of (box.Runs 0 0)))
  where
    pick : (t u : Bool) → kind_of (if t then box.OneRun else (if u then box.Even (box.count bs) (box.volume bs) else box.Runs (box.count bs) (box.volume bs))) ≡ (if t then kind_of box.OneRun else (if u then kind_of (box.Even 0 0) else kind_of (box.Runs 0 0)))
    pick true u = refl
    pick false true = refl
    pick false false = refl
over_kind b bs d (box.Even c st) w o = pick (box.is_whole b) ∙ ap (λ t. if t then kind_of (box.Even c st) else kind_of (box.Runs c st)) (sym w)
  where
    pick : (t : Bool) → kind_of (if t then box.Even c st else box.Runs c st) ≡ (if t then kind_of (box.Even c st) else kind_of (box.Runs c st))
    pick true = refl
    pick false = refl
over_kind b bs d (box.Runs c st) w o = pick (nat_eq b.extent 1) ∙ ap (λ t. if t then kind_of (box.Runs c st) else kind_of box.Mixed) (sym o)
  where
    pick : (t : Bool) → kind_of (if t then box.Runs c st else box.Mixed) ≡ (if t then kind_of (box.Runs c st) else kind_of box.Mixed)
    pick true = refl
    pick false = refl
over_kind b bs d box.Mixed w o = refl

shapes_are : (ns : List Name) (ds : List Side) (sizes : List ℕ) → SidesFit ds sizes → kind_of (box.shape (flat_spans (dims_over ns (dims_of ds) sizes))) ≡ shape ds
unfolding shape
shapes_are ns [] [] h = refl
shapes_are ns [] (n ∷ sizes) h = absurd h
shapes_are ns (d ∷ ds) [] h = absurd h
shapes_are ns (d ∷ ds) (n ∷ sizes) h =
    let rest = flat_spans (dims_over ns (dims_of ds) sizes) in
    over_kind (record { size = n; place = 0; extent = gap d.dim.extent }) rest d (box.shape rest) (ap (int_eq d.dim.extent) h.0.0 ∙ same_test d.dim.extent n h.0.1.0) (same_test d.dim.extent 1 h.0.1.0)
    ∙ ap (shape_over d) (shapes_are ns ds sizes h.1)

-- ---- so one transfer carries the box of a widened region
region_even : (ns : List Name) (ds : List Dimension) (sizes : List ℕ) → AllSome sizes → AllFit ds sizes → box.is_mixed (box.shape (flat_spans (dims_over ns (for_transfers true sizes ds) sizes))) ≡ false
unfolding widened
region_even ns ds sizes some fit =
    let ss = widened_by (length ds) (sides ds sizes) in
    sym (kind_mixed (box.shape (flat_spans (dims_over ns (dims_of ss) sizes))))
    ∙ ap is_mixed (shapes_are ns ss sizes (widened_fits (length ds) (sides ds sizes) sizes some (sides_fit ds sizes fit)))
    ∙ never_mixed (length ds) (sides ds sizes) (let k = count_most (sides ds sizes) in let l = sides_short ds sizes in omega (arith, k, l))
  where
    sides_short : (ds : List Dimension) (ns : List ℕ) → length (sides ds ns) ≤ length ds
    sides_short [] ns = omega arith
    sides_short (d ∷ ds) [] = omega arith
    sides_short (d ∷ ds) (n ∷ ns) = let k = sides_short ds ns in omega (arith, k)

carried_by : (spans : List box.Side) (s : box.Shape) → box.shape spans ≡ s → box.is_mixed s ≡ false → Carried (chunks_of s) spans
carried_by spans box.Whole e h = record { even = ap box.is_mixed e; stride = sym (ap (λ s. box.stride_of s (box.count spans)) e); chunk = sym (ap (λ s. box.chunk_of s (box.count spans)) e) }
carried_by spans box.OneRun e h = record { even = ap box.is_mixed e; stride = sym (ap (λ s. box.stride_of s (box.count spans)) e); chunk = sym (ap (λ s. box.chunk_of s (box.count spans)) e) }
carried_by spans (box.Even c st) e h = record { even = ap box.is_mixed e; stride = sym (ap (λ s. box.stride_of s (box.count spans)) e); chunk = sym (ap (λ s. box.chunk_of s (box.count spans)) e) }
carried_by spans (box.Runs c st) e h = record { even = ap box.is_mixed e; stride = sym (ap (λ s. box.stride_of s (box.count spans)) e); chunk = sym (ap (λ s. box.chunk_of s (box.count spans)) e) }
carried_by spans box.Mixed e h = absurd (let z : ⊥ = cc in z)

pub suited_over : (dma : Bool) (ns : List Name) (ds : List Dimension) (sizes : List ℕ) → AllSome sizes → AllFit ds sizes
    → Suited (how_over dma (dims_over ns (for_transfers dma sizes ds) sizes)) (flat_spans (dims_over ns (for_transfers dma sizes ds) sizes))
suited_over false ns ds sizes some fit = tt
suited_over true ns ds sizes some fit =
    let spans = flat_spans (dims_over ns (for_transfers true sizes ds) sizes) in
    carried_by spans (box.shape spans) refl (region_even ns ds sizes some fit)
