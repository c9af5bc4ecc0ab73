-- A region is widened until the backward test passes.
use Rattle.std.proofs.Common.{◌≡◌, ℕ, zero, suc, ◌≤◌, ℤ, pos, negsuc, ◌≤ℤ◌, Bool, true, false, cond, List, [], ◌∷◌, ◌++◌, length, refl, sym, ap, ◌∙◌, subst, arith}
use Rattle.std.specs.Prelude.{not, nat_eq}
use Rattle.std.specs.Ordering.{int_eq}
use Rattle.std.proofs.lemmas.Bool.{eqb-true, eq-eqb}
use Rattle.std.proofs.lemmas.Bool.Decides.{Decides-int_eq}
use Rattle.std.proofs.lemmas.Int.{ints}
use Rattle.direct_meaning.specs.Turns.{gap}
use Rattle.boxes.specs.Boxes as box
use Rattle.nest_domain.specs.Boxes.{Dimension}
use Rattle.access_region.specs.Widening.{Side, sides, is_whole, is_one, shape_over, shape, is_mixed, all_whole, made_whole, last_whole, widened_by, widened}
use Rattle.carried_boxes.specs.Backward.{is_carried}
use Rattle.carried_boxes.specs.Law.{HasElements}
use Rattle.carried_boxes.specs.Widening.{flat, all_flat, MadeWhole, WidensIn, HaveElements, WidensUntilCarried}
use Rattle.carried_boxes.proofs.Lists.{cases}
use Rattle.carried_boxes.proofs.Shapes.{tests_agree}

-- ---- the shapes of a region, each by a box of it
abbrev ResultOf : {A : Type 0} → (List Side → A) → Type 0
ResultOf {A = A} f = A

abbrev Kind : Type 0
Kind = ResultOf shape

-- a dimension of this extent and size
abbrev sample : ℤ → ℤ → Side
sample extent size = record { dim = record { coefs = []; offset = pos 0; extent = extent; clamped = false }; size = size }

abbrev kind_of : box.Shape → Kind
kind_of box.Whole = shape []
kind_of box.OneRun = shape (sample (pos 1) (pos 2) ∷ [])
kind_of (box.Even c s) = shape (sample (pos 2) (pos 2) ∷ sample (pos 1) (pos 2) ∷ [])
kind_of (box.Runs c s) = shape (sample (pos 2) (pos 3) ∷ sample (pos 1) (pos 2) ∷ [])
kind_of box.Mixed = shape (sample (pos 2) (pos 3) ∷ sample (pos 2) (pos 3) ∷ sample (pos 1) (pos 2) ∷ [])

kind_mixed : (k : box.Shape) → is_mixed (kind_of k) ≡ box.is_mixed k
unfolding shape
kind_mixed box.Whole = refl
kind_mixed box.OneRun = refl
kind_mixed (box.Even c s) = refl
kind_mixed (box.Runs c s) = refl
kind_mixed box.Mixed = refl

-- by any answers of the two tests
kind_if : (t : Bool) (a b : box.Shape) → kind_of (cond t a b) ≡ cond t (kind_of a) (kind_of b)
kind_if true a b = refl
kind_if false a b = refl

over_kind : (d : Side) (b : box.Side) (bs : List box.Side) (k : box.Shape) → is_whole d ≡ box.is_whole b → is_one d ≡ nat_eq b.extent 1 → shape_over d (kind_of k) ≡ kind_of (box.shape_over b bs k)
unfolding shape
over_kind d b bs box.Whole w o = ap (λ t. cond t (kind_of box.Whole) (kind_of box.OneRun)) w ∙ sym (kind_if (box.is_whole b) box.Whole box.OneRun)
over_kind d b bs box.OneRun w o =
    let even = box.Even (box.count bs) (box.volume bs) in
    let runs = box.Runs (box.count bs) (box.volume bs) in
    (λ i. cond (o i) (kind_of box.OneRun) (cond (w i) (kind_of even) (kind_of runs)))
    ∙ ap (λ x. cond (nat_eq b.extent 1) (kind_of box.OneRun) x) (sym (kind_if (box.is_whole b) even runs))
    ∙ sym (kind_if (nat_eq b.extent 1) box.OneRun (cond (box.is_whole b) even runs))
over_kind d b bs (box.Even c s) w o = ap (λ t. cond t (kind_of (box.Even c s)) (kind_of (box.Runs c s))) w ∙ sym (kind_if (box.is_whole b) (box.Even c s) (box.Runs c s))
over_kind d b bs (box.Runs c s) w o = ap (λ t. cond t (kind_of (box.Runs c s)) (kind_of box.Mixed)) o ∙ sym (kind_if (nat_eq b.extent 1) (box.Runs c s) box.Mixed)
over_kind d b bs box.Mixed w o = refl

-- ---- numbers of at least 1
same_int : (z : ℤ) → int_eq z z ≡ true
same_int z = (Decides-int_eq z z).1 refl

same_test : (y z : ℤ) → pos 1 ≤ℤ y → pos 1 ≤ℤ z → int_eq y z ≡ nat_eq (gap y) (gap z)
same_test (pos m) (pos n) h k = cases (nat_eq m n) (λ e. ap (λ x. int_eq (pos x) (pos n)) (eqb-true m n e) ∙ same_int (pos n) ∙ sym e) (λ e. cases (int_eq (pos m) (pos n)) (λ w. absurd (apart e w)) (λ w. w ∙ sym e))
  where
    apart : nat_eq m n ≡ false → int_eq (pos m) (pos n) ≡ true → ⊥
    apart e w = let k : pos m ≡ pos n = (Decides-int_eq (pos m) (pos n)).0 w in let j : m ≡ n = omega (arith, ints, k) in let z : true ≡ false = sym (eq-eqb m n j) ∙ e in let x : ⊥ = cc in x
same_test (negsuc m) z h k = absurd (omega (arith, ints, h))
same_test (pos m) (negsuc n) h k = absurd (omega (arith, ints, k))

gap_least : (z : ℤ) → pos 1 ≤ℤ z → 1 ≤ gap z
gap_least (pos n) h = omega (arith, ints, h)
gap_least (negsuc n) h = absurd (omega (arith, ints, h))

abbrev SidesHave : List Side → Type 0
SidesHave [] = Unit {0}
SidesHave (d ∷ ds) = (pos 1 ≤ℤ d.dim.extent) × (pos 1 ≤ℤ d.size) × SidesHave ds

kinds_are : (ds : List Side) → SidesHave ds → shape ds ≡ kind_of (box.shape (all_flat ds))
unfolding shape
kinds_are [] h = refl
kinds_are (d ∷ ds) h =
    ap (shape_over d) (kinds_are ds h.2)
    ∙ over_kind d (flat d) (all_flat ds) (box.shape (all_flat ds)) (same_test d.dim.extent d.size h.0 h.1) (same_test d.dim.extent (pos 1) h.0 (omega (arith, ints)))

flat_have : (ds : List Side) → SidesHave ds → HasElements (all_flat ds)
flat_have [] h = tt
flat_have (d ∷ ds) h = (gap_least d.dim.extent h.0, flat_have ds h.2)

-- the region's own test is the backward test
mixed_is : (ds : List Side) → SidesHave ds → is_mixed (shape ds) ≡ not (is_carried (all_flat ds))
mixed_is ds h = ap is_mixed (kinds_are ds h) ∙ kind_mixed (box.shape (all_flat ds)) ∙ (tests_agree (all_flat ds) (flat_have ds h)).0

-- ---- one dimension more is whole
made_last : (ds : List Side) → all_whole ds ≡ false → MadeWhole ds (last_whole ds)
made_last [] h = absurd (let z : ⊥ = cc in z)
made_last (d ∷ ds) h = by (all_whole ds) refl (λ e. made_last ds e)
  where
    not_whole : (b : Bool) → is_whole d ≡ b → all_whole ds ≡ true → is_whole d ≡ false
    not_whole true e w = let z : true ≡ false = sym w ∙ ap (λ b. cond b (all_whole ds) false) (sym e) ∙ h in absurd (let x : ⊥ = cc in x)
    not_whole false e w = e

    by : (a : Bool) → all_whole ds ≡ a → (all_whole ds ≡ false → MadeWhole ds (last_whole ds)) → MadeWhole (d ∷ ds) (cond a (made_whole d ∷ ds) (d ∷ last_whole ds))
    by true e more = record { front = []; dim = d; behind = ds; is = refl; partial = not_whole (is_whole d) refl e; whole = e; made = refl }
    by false e more =
        let m = more e in
        record { front = d ∷ m.front; dim = m.dim; behind = m.behind; is = ap (λ l. d ∷ l) m.is; partial = m.partial; whole = m.whole; made = ap (λ l. d ∷ l) m.made }

abbrev partial_count : List Side → ℕ
partial_count [] = 0
partial_count (d ∷ ds) = cond (is_whole d) (partial_count ds) (suc (partial_count ds))

none_partial : (ds : List Side) → partial_count ds ≡ 0 → all_whole ds ≡ true
none_partial [] h = refl
none_partial (d ∷ ds) h = by (is_whole d) h (λ e. none_partial ds e)
  where
    by : (b : Bool) → cond b (partial_count ds) (suc (partial_count ds)) ≡ 0 → (partial_count ds ≡ 0 → all_whole ds ≡ true) → cond b (all_whole ds) false ≡ true
    by true e k = k e
    by false e k = absurd (omega (arith, e))

count_behind : (xs : List Side) (d : Side) (ys : List Side) → is_whole d ≡ false → partial_count (xs ++ d ∷ ys) ≡ suc (partial_count (xs ++ made_whole d ∷ ys))
count_behind [] d ys h = ap (λ b. cond b (partial_count ys) (suc (partial_count ys))) h ∙ ap suc (ap (λ b. cond b (partial_count ys) (suc (partial_count ys))) (sym (same_int d.size)))
count_behind (x ∷ xs) d ys h = by (is_whole x) (count_behind xs d ys h)
  where
    by : (b : Bool) → partial_count (xs ++ d ∷ ys) ≡ suc (partial_count (xs ++ made_whole d ∷ ys))
        → cond b (partial_count (xs ++ d ∷ ys)) (suc (partial_count (xs ++ d ∷ ys))) ≡ suc (cond b (partial_count (xs ++ made_whole d ∷ ys)) (suc (partial_count (xs ++ made_whole d ∷ ys))))
    by true e = e
    by false e = ap suc e

one_less : (ds next : List Side) → MadeWhole ds next → partial_count ds ≡ suc (partial_count next)
one_less ds next m = ap partial_count m.is ∙ count_behind m.front m.dim m.behind m.partial ∙ ap (λ l. suc (partial_count l)) (sym m.made)

have_behind : (xs : List Side) (d : Side) (ys : List Side) → SidesHave (xs ++ d ∷ ys) → SidesHave (xs ++ made_whole d ∷ ys)
have_behind [] d ys h = (h.1, h.1, h.2)
have_behind (x ∷ xs) d ys h = (h.0, h.1, have_behind xs d ys h.2)

still_have : (ds next : List Side) → MadeWhole ds next → SidesHave ds → SidesHave next
still_have ds next m h = subst SidesHave (sym m.made) (have_behind m.front m.dim m.behind (subst SidesHave m.is h))

-- where all are whole the test passes
whole_shape : (ds : List Side) → all_whole ds ≡ true → shape ds ≡ kind_of box.Whole
unfolding shape
whole_shape [] h = refl
whole_shape (d ∷ ds) h = by (is_whole d) refl h (λ k. whole_shape ds k)
  where
    by : (b : Bool) → is_whole d ≡ b → cond b (all_whole ds) false ≡ true → (all_whole ds ≡ true → shape ds ≡ kind_of box.Whole) → shape_over d (shape ds) ≡ kind_of box.Whole
    by true e k more = ap (shape_over d) (more k) ∙ ap (λ t. cond t (kind_of box.Whole) (kind_of box.OneRun)) e
    by false e k more = absurd (let z : ⊥ = cc in z)

still_partial : (ds : List Side) → is_mixed (shape ds) ≡ true → all_whole ds ≡ false
still_partial ds h = cases (all_whole ds) (λ e. let z : true ≡ false = sym h ∙ ap is_mixed (whole_shape ds e) ∙ kind_mixed box.Whole in absurd (let x : ⊥ = cc in x)) (λ e. e)

other : (a b : Bool) (c : Bool) → a ≡ not b → a ≡ c → b ≡ not c
other true true c e f = absurd (let z : ⊥ = cc in z)
other true false true e f = refl
other true false false e f = absurd (let z : ⊥ = cc in z)
other false true true e f = absurd (let z : ⊥ = cc in z)
other false true false e f = refl
other false false c e f = absurd (let z : ⊥ = cc in z)

-- ---- as often as it takes
record Widens (ds wide : List Side) : Type 0 where
  steps : ℕ
  goes : WidensIn steps ds wide

widens : (m : ℕ) (ds : List Side) → SidesHave ds → partial_count ds ≤ m → Widens ds (widened_by m ds)
widens zero ds have h =
    let even : is_mixed (shape ds) ≡ false = ap is_mixed (whole_shape ds (none_partial ds (omega (arith, h)))) ∙ kind_mixed box.Whole in
    record { steps = 0; goes = (other (is_mixed (shape ds)) (is_carried (all_flat ds)) false (mixed_is ds have) even, refl) }
widens (suc m) ds have h = by (is_mixed (shape ds)) refl (λ k l. widens m (last_whole ds) k l)
  where
    by : (b : Bool) → is_mixed (shape ds) ≡ b → (SidesHave (last_whole ds) → partial_count (last_whole ds) ≤ m → Widens (last_whole ds) (widened_by m (last_whole ds))) → Widens ds (cond b (widened_by m (last_whole ds)) ds)
    by true e more =
        let made = made_last ds (still_partial ds e) in
        let less = one_less ds (last_whole ds) made in
        let w = more (still_have ds (last_whole ds) made have) (omega (arith, h, less)) in
        record { steps = suc w.steps; goes = (other (is_mixed (shape ds)) (is_carried (all_flat ds)) true (mixed_is ds have) e, (last_whole ds, (made, w.goes))) }
    by false e more = record { steps = 0; goes = (other (is_mixed (shape ds)) (is_carried (all_flat ds)) false (mixed_is ds have) e, refl) }

sides_have : (ds : List Dimension) (ns : List ℕ) → HaveElements ds ns → SidesHave (sides ds ns)
sides_have [] ns h = tt
sides_have (d ∷ ds) [] h = tt
sides_have (d ∷ ds) (n ∷ ns) h = (h.0, h.1, sides_have ds ns h.2)

sides_most : (ds : List Dimension) (ns : List ℕ) → partial_count (sides ds ns) ≤ length ds
sides_most [] ns = omega arith
sides_most (d ∷ ds) [] = omega arith
sides_most (d ∷ ds) (n ∷ ns) = by (is_whole (record { dim = d; size = pos n })) (sides_most ds ns)
  where
    by : (b : Bool) → partial_count (sides ds ns) ≤ length ds → cond b (partial_count (sides ds ns)) (suc (partial_count (sides ds ns))) ≤ suc (length ds)
    by true h = omega (arith, h)
    by false h = omega (arith, h)

pub widens_until_carried : WidensUntilCarried
unfolding widened
widens_until_carried ds ns h = let w = widens (length ds) (sides ds ns) (sides_have ds ns h) (sides_most ds ns) in (w.steps, widened_by (length ds) (sides ds ns), w.goes, refl)
