-- A place of a region that no outer variable moves and that isn't clamped is no number below 0.
use Rattle.std.proofs.Common.{◌≡◌, ℕ, zero, suc, ◌-◌, Bool, true, false, cond, ◌||◌, ◌&&◌, List, [], ◌∷◌, ◌++◌, map, take, length, replicate, Option, Some, None, Result, Ok, Err, ℤ, pos, ◌+ℤ◌, ◌*ℤ◌, ◌≤ℤ◌, int_lt, refl, sym, ap, ◌∙◌, subst, arith}
use Rattle.std.specs.Ordering.{int_eq}
use Rattle.std.proofs.lemmas.Int.{ints}
use Rattle.std.proofs.lemmas.Bool.{and_parts}
use Rattle.std.proofs.lemmas.Bool.Decides.{Decides-int_eq}
use Rattle.num_row.proofs.Ring.{Var, ◌⊗◌, ring}
use Rattle.constraint_set.specs.Lists.{Each}
use Rattle.constraint_set.specs.Points.{LinearRow, LinearSystem, AreWide, dot, value_at}
use Rattle.constraint_set.specs.Elimination.{Refusal}
use Rattle.constraint_set.specs.Reach.{Reach, never, between, reach_of, TellsReach}
use Rattle.constraint_set.specs.Tidy.{all_zero}
use Rattle.constraint_set.proofs.Reaching.{reach_tells}
use Rattle.affine_expr.specs.Forms.{Form}
use Rattle.affine_expr.specs.Linear.{padded}
use Rattle.affine_ast.specs.declared.module.Arg.{Arg}
use Rattle.nest_domain.specs.Ways.{Header, Use, loop_count}
use Rattle.nest_domain.specs.Domains.{Known, place, row_at, system_of}
use Rattle.nest_domain.specs.Boxes.{Dimension}
use Rattle.nest_domain.proofs.Places.{row_wide}
use Rattle.access_region.specs.Candidates.{Reaching, candidates}
use Rattle.access_region.specs.Faults.{◌>>=◌, by_form, by_elimination}
use Rattle.access_region.specs.Spans.{combination, Tried, best}
use Rattle.access_region.specs.Regions.{Outside, outside_at, reaching, at_most_whole, clamped_by, placed, dimension, dimensions}
use Rattle.access_region.specs.Widening.{Side, sides, shape, is_mixed, all_whole, made_whole, last_whole, widened_by, dims_of, widened, for_transfers}
use Rattle.access_region.specs.Places.{region_of}
use Rattle.access_region.proofs.Inside.{Gives, on, then_by}
use Rattle.access_region.proofs.Regioned.{region_at, found_of}

abbrev pub BeginsIn : Dimension → Type 0
BeginsIn d = all_zero d.coefs ≡ true → d.clamped ≡ false → pos 0 ≤ℤ d.offset

abbrev pub AllBeginIn : List Dimension → Type 0
AllBeginIn ds = Each BeginsIn ds

-- ---- a combination without coefficients is 0 at each point
zeros_zero : (n : ℕ) → all_zero (replicate n (pos 0)) ≡ true
zeros_zero zero = refl
zeros_zero (suc n) = zeros_zero n

both_zero : (xs ys : List ℤ) → all_zero xs ≡ true → all_zero ys ≡ true → all_zero (xs ++ ys) ≡ true
both_zero [] ys h k = k
both_zero (x ∷ xs) ys h k = let two = and_parts (int_eq x (pos 0)) (all_zero xs) h in ap (λ b. b && all_zero (xs ++ ys)) two.0 ∙ both_zero xs ys two.1 k

some_zero : (n : ℕ) (xs : List ℤ) → all_zero xs ≡ true → all_zero (take n xs) ≡ true
some_zero zero xs h = refl
some_zero (suc n) [] h = refl
some_zero (suc n) (x ∷ xs) h = let two = and_parts (int_eq x (pos 0)) (all_zero xs) h in ap (λ b. b && all_zero (take n xs)) two.0 ∙ some_zero n xs two.1

dot_zero : (cs p : List ℤ) → all_zero cs ≡ true → dot cs p ≡ pos 0
dot_zero [] p h = refl
dot_zero (a ∷ cs) [] h = refl
dot_zero (a ∷ cs) (x ∷ p) h =
    let two = and_parts (int_eq a (pos 0)) (all_zero cs) h in
    let none : a ≡ pos 0 = (Decides-int_eq a (pos 0)).0 two.0 in
    let product : a *ℤ x ≡ pos 0 = ap (λ y. y *ℤ x) none ∙ ring (Var (pos 0) ⊗ Var x) (Var (pos 0)) (omega arith) in
    let more = dot_zero cs p two.1 in
    omega (arith, ints, product, more)

row_zero : (n : ℕ) (cs : List ℤ) → all_zero cs ≡ true → all_zero (row_at n (combination cs)).coefs ≡ true
unfolding row_at padded
row_zero n cs h = some_zero n (cs ++ replicate (n - length cs) (pos 0)) (both_zero cs (replicate (n - length cs) (pos 0)) h (zeros_zero (n - length cs)))

constant_zero : (n : ℕ) (cs : List ℤ) → (row_at n (combination cs)).constant ≡ pos 0
unfolding row_at
constant_zero n cs = refl

value_zero : (n : ℕ) (cs p : List ℤ) (q : ℤ) → all_zero cs ≡ true → value_at (row_at n (combination cs)) p q ≤ℤ (pos 0 *ℤ q)
value_zero n cs p q h =
    let d = dot_zero (row_at n (combination cs)).coefs p (row_zero n cs h) in
    let c = ap (λ z. z *ℤ q) (constant_zero n cs) in
    omega (arith, ints, d, c)

-- ---- one dimension
placed_begins : (s : LinearSystem) (size : ℤ) (t : Tried) → AreWide s.vars s.rows → Gives (placed s size t) BeginsIn
placed_begins s size t wide = by (reach_of s row) refl
  where
    row : LinearRow
    row = row_at s.vars (combination t.coefs)

    first_false : (a b : Bool) → (a || b) ≡ false → a ≡ false
    first_false true b e = e
    first_false false b e = refl

    told : (r : Reach) → TellsReach s row r → Gives (clamped_by size t r) BeginsIn
    told never h = tt
    told (between least greatest) h = λ none free.
        let low = h.0.least (pos 0) h.0.p h.0.q h.0.found (value_zero s.vars t.coefs h.0.p h.0.q none) in
        let a = first_false (int_lt (least +ℤ t.offset) (pos 0)) (int_lt size ((greatest +ℤ t.offset) +ℤ t.extent)) free in
        let p : pos 0 ≤ℤ (least +ℤ t.offset) = grind (arith, ints, a) in
        omega (arith, ints, p, low)

    by : (w : Result Reach Refusal) → reach_of s row ≡ w → Gives (by_elimination w >>= clamped_by size t) BeginsIn
    by (Err e) is = tt
    by (Ok r) is = told r (reach_tells s row r wide (row_wide s.vars (combination t.coefs)) is)

abbrev IsWide : Outside → Type 0
IsWide o = AreWide o.system.vars o.system.rows

dimension_begins : (outside : Outside) (loops d n : ℕ) (xs : List Reaching) → IsWide outside → Gives (dimension outside loops xs d n) BeginsIn
dimension_begins outside loops d n xs wide =
    on (candidates outside.outer loops d xs) _ BeginsIn (λ cs e.
    on (best d xs cs None) _ BeginsIn (λ t f. placed_begins outside.system (pos n) (at_most_whole outside.outer (pos n) t) wide))

dimensions_begin : (outside : Outside) (loops : ℕ) (xs : List Reaching) (d : ℕ) (sizes : List ℕ) → IsWide outside → Gives (dimensions outside loops xs d sizes) AllBeginIn
dimensions_begin outside loops xs d [] wide = tt
dimensions_begin outside loops xs d (n ∷ sizes) wide =
    then_by (dimension outside loops xs d n) _ BeginsIn AllBeginIn (dimension_begins outside loops d n xs wide) (λ f h.
    then_by (dimensions outside loops xs (suc d) sizes) _ AllBeginIn AllBeginIn (dimensions_begin outside loops xs (suc d) sizes wide) (λ fs k. (h, k)))

-- ---- made whole
sides_begin : (ds : List Dimension) (ns : List ℕ) → AllBeginIn ds → Each (λ (d : Side). BeginsIn d.dim) (sides ds ns)
sides_begin [] ns h = tt
sides_begin (d ∷ ds) [] h = tt
sides_begin (d ∷ ds) (n ∷ ns) h = (h.0, sides_begin ds ns h.1)

dims_begin : (ds : List Side) → Each (λ (d : Side). BeginsIn d.dim) ds → AllBeginIn (dims_of ds)
dims_begin [] h = tt
dims_begin (d ∷ ds) h = (h.0, dims_begin ds h.1)

last_begins : (ds : List Side) → Each (λ (d : Side). BeginsIn d.dim) ds → Each (λ (d : Side). BeginsIn d.dim) (last_whole ds)
last_begins [] h = tt
last_begins (d ∷ ds) h = by (all_whole ds) (last_begins ds h.1)
  where
    by : (b : Bool) → Each (λ (d : Side). BeginsIn d.dim) (last_whole ds) → Each (λ (d : Side). BeginsIn d.dim) (cond b (made_whole d ∷ ds) (d ∷ last_whole ds))
    by true k = ((λ z c. omega (arith, ints)), h.1)
    by false k = (h.0, k)

widened_begins : (m : ℕ) (ds : List Side) → Each (λ (d : Side). BeginsIn d.dim) ds → Each (λ (d : Side). BeginsIn d.dim) (widened_by m ds)
widened_begins zero ds h = h
widened_begins (suc m) ds h = by (is_mixed (shape ds)) (widened_begins m (last_whole ds) (last_begins ds h))
  where
    by : (b : Bool) → Each (λ (d : Side). BeginsIn d.dim) (widened_by m (last_whole ds)) → Each (λ (d : Side). BeginsIn d.dim) (cond b (widened_by m (last_whole ds)) ds)
    by true k = k
    by false k = h

kept_begins : (dma : Bool) (ds : List Dimension) (ns : List ℕ) → AllBeginIn ds → AllBeginIn (for_transfers dma ns ds)
unfolding widened
kept_begins false ds ns h = h
kept_begins true ds ns h = dims_begin (widened_by (length ds) (sides ds ns)) (widened_begins (length ds) (sides ds ns) (sides_begin ds ns h))

-- ---- a region
rows_wide : (n : ℕ) (fs : List Form) → AreWide n (map (row_at n) fs)
rows_wide n [] = tt
rows_wide n (f ∷ fs) = (row_wide n f, rows_wide n fs)

known_wide : (k : Known) → AreWide (system_of k).vars (system_of k).rows
unfolding system_of
known_wide k = rows_wide k.next (k.symbols ++ (k.loops ++ (k.conditions ++ k.locals)))

outside_wide : (args : List Arg) (way : List Header) → Gives (outside_at args way) IsWide
outside_wide args way = on (by_form (place args way [])) _ IsWide (λ k e. known_wide k)

found_begins : (args : List Arg) (way : List Header) (us : List Use) (sizes : List ℕ) → Gives (region_at args way us sizes) AllBeginIn
unfolding region_at
found_begins args way us sizes =
    on (reaching args us) _ AllBeginIn (λ xs e.
    then_by (outside_at args way) (λ outside. dimensions outside (loop_count way) xs 0 sizes) IsWide AllBeginIn (outside_wide args way) (λ outside wide.
    dimensions_begin outside (loop_count way) xs 0 sizes wide))

pub region_begins : (args : List Arg) (way : List Header) (us : List Use) (sizes : List ℕ) (dma : Bool) (ds : List Dimension) → region_of args way us sizes dma ≡ Ok ds → AllBeginIn ds
region_begins args way us sizes dma ds is =
    let r = found_of args way us sizes dma ds is in
    subst AllBeginIn r.widened (kept_begins dma r.found sizes (subst (λ w. Gives w AllBeginIn) r.is (found_begins args way us sizes)))
