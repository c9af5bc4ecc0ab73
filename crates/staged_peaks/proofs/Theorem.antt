-- The peak of a module with placements, from the loops that they stand at.
use Rattle.std.proofs.Common.{◌≡◌, ◌⊎◌, inl, inr, ◌<◌, ℕ, zero, suc, ◌+◌, ◌≤◌, List, [], ◌∷◌, ◌++◌, refl, sym, ap, ◌∙◌, subst, arith, true}
use Rattle.std.specs.Prelude.{max, map, sum_by}
use Rattle.std.proofs.lemmas.List.Sums.{sum_by-cons, sum_by_push}
use Rattle.affine_ast.specs.Nest.{Plain, Nest, Nothing, Loop, Branch, Does, Value, Load, Store, RawLoad, RawStore, Constant, Binary, Cast, Alloc, Dealloc, Start, Wait, Return, nest}
use Rattle.affine_ast.specs.PlainLimits.{plain_stands}
use Rattle.peak_laws.specs.Peak.{plain_live}
use Rattle.peak_laws.proofs.Full.{within_or_not}
use Rattle.placement_texts.specs.Fold.{Step, staged_all}
use Rattle.placement_texts.specs.OneTag.{InText}
use Rattle.placement_texts.specs.Spots.{Spot, Here, Behind, Inside, Other, IsLoop}
use Rattle.plain_inputs.proofs.Inputs.{Stands, input_stands}
use Rattle.plan_laws.specs.Sites.{line_or_one, lined, loops_round}
use Rattle.staged_peaks.specs.Bytes.{more_at, step_bytes, bytes_at, most_in, bytes_round}
use Rattle.staged_peaks.specs.Law.{PeaksAreOfPlacements, MostIsOfLoops, MoreAtALoop, OnePlacementMore}
use Rattle.staged_peaks.proofs.Weighted.{weighted, none_more, all_more, all_weighted}

-- ---- a text without allocations, each statement with a line
keeps : (q : Plain) (l : ℕ) → plain_stands q ≡ true → plain_live q l ≡ l
keeps (Alloc r ty) l h = absurd (let z : ⊥ = cc in z)
keeps (Dealloc m ty) l h = absurd (let z : ⊥ = cc in z)
keeps (Value r pick at) l h = refl
keeps (Load r m at ty) l h = refl
keeps (Store x m at ty) l h = refl
keeps (RawLoad r m at ty) l h = refl
keeps (RawStore x m at ty) l h = refl
keeps (Constant r z ty) l h = refl
keeps (Binary r op a b ty) l h = refl
keeps (Cast r kind x from to) l h = refl
keeps (Start a a_at b b_at t t_at n stride types) l h = refl
keeps (Wait t at n ty) l h = refl
keeps Return l h = refl

lined_loop : (w : Spot → ℕ) (line : ℕ) → (v : _) (low high : _) (s : _) (body rest : Nest) (l : ℕ)
    → weighted w (Loop (line_or_one line) v low high s body rest) l ≡ max (weighted (λ t. w (Inside t)) body (l + w Here)) (weighted (λ t. w (Behind t)) rest l)
lined_loop w zero v low high s body rest l = refl
lined_loop w (suc line) v low high s body rest l = refl

lined_branch : (w : Spot → ℕ) (line : ℕ) → (set : _) (names : _) (first : Nest) (has : _) (other rest : Nest) (l : ℕ)
    → weighted w (Branch (line_or_one line) set names first has other rest) l
    ≡ max (weighted (λ t. w (Inside t)) first l) (max (weighted (λ t. w (Other t)) other l) (weighted (λ t. w (Behind t)) rest l))
lined_branch w zero set names first has other rest l = refl
lined_branch w (suc line) set names first has other rest l = refl

lined_does : (w : Spot → ℕ) (line : ℕ) (q : Plain) (rest : Nest) (l : ℕ) → weighted w (Does (line_or_one line) q rest) l ≡ max l (weighted (λ t. w (Behind t)) rest (plain_live q l))
lined_does w zero q rest l = refl
lined_does w (suc line) q rest l = refl

lined_most : (w : Spot → ℕ) (n : Nest) (l : ℕ) → InText Stands n → weighted w (lined n) l ≡ l + most_in w n
lined_most w Nothing l h = omega arith
lined_most w (Loop line v low high s body rest) l h =
    let e = lined_loop w line v low high s (lined body) (lined rest) l in
    let f = lined_most (λ t. w (Inside t)) body (l + w Here) h.0 in
    let g = lined_most (λ t. w (Behind t)) rest l h.1 in
    omega (arith, e, f, g)
lined_most w (Branch line set names first has other rest) l h =
    let e = lined_branch w line set names (lined first) has (lined other) (lined rest) l in
    let f = lined_most (λ t. w (Inside t)) first l h.0 in
    let g = lined_most (λ t. w (Other t)) other l h.1 in
    let k = lined_most (λ t. w (Behind t)) rest l h.2 in
    omega (arith, e, f, g, k)
lined_most w (Does line q rest) l h =
    let u : Spot → ℕ = λ t. w (Behind t) in
    let e = lined_does w line q (lined rest) l in
    let f : weighted u (lined rest) (plain_live q l) ≡ weighted u (lined rest) l = ap (weighted u (lined rest)) (keeps q l h.0) in
    let k : plain_live q l ≡ l = keeps q l h.0 in
    let g = lined_most u rest l h.1 in
    omega (arith, e, f, g, k)

-- ---- the law
all_at : (xs : List Step) → all_more xs (λ s. 0) ≡ bytes_at xs
all_at [] = refl
all_at (x ∷ xs) = ap (more_at x.spot (step_bytes x)) (all_at xs)

pub peaks_are_of_placements : PeaksAreOfPlacements
peaks_are_of_placements m h xs =
    let n = nest m.body in
    sym (none_more (staged_all xs (lined n)) 0) ∙ (all_weighted (λ s. 0) xs (lined n) 0 ∙ (ap (λ w. weighted w (lined n) 0) (all_at xs)
    ∙ (lined_most (bytes_at xs) n 0 (input_stands m h) ∙ omega arith)))

-- ---- the bytes round a place
pub moved : (f : Spot → Spot) (w : Spot → ℕ) (xs : List Spot) → sum_by w (map f xs) ≡ sum_by (λ s. w (f s)) xs
moved f w [] = refl
moved f w (x ∷ xs) = let e = sum_by-cons w (f x) (map f xs) in let g = sum_by-cons (λ s. w (f s)) x xs in let h = moved f w xs in omega (arith, e, g, h)

pub round_inside : (w : Spot → ℕ) (xs : List Spot) → sum_by w (map Inside xs ++ Here ∷ []) ≡ w Here + sum_by (λ s. w (Inside s)) xs
round_inside w xs = let e = sum_by_push w (map Inside xs) Here in let f = moved Inside w xs in omega (arith, e, f)

pub more_at_a_loop : MoreAtALoop
more_at_a_loop w s b Nothing h = absurd h
more_at_a_loop w Here b (Loop line v l u step body rest) h = omega arith
more_at_a_loop w (Behind s) b (Loop line v l u step body rest) h =
    let e = more_at_a_loop (λ t. w (Behind t)) s b rest h in let f = moved Behind w (loops_round s rest) in omega (arith, e, f)
more_at_a_loop w (Inside s) b (Loop line v l u step body rest) h =
    let e = more_at_a_loop (λ t. w (Inside t)) s b body h in let f = round_inside w (loops_round s body) in omega (arith, e, f)
more_at_a_loop w (Other s) b (Loop line v l u step body rest) h = absurd h
more_at_a_loop w Here b (Branch line set names first has other rest) h = absurd h
more_at_a_loop w (Behind s) b (Branch line set names first has other rest) h =
    let e = more_at_a_loop (λ t. w (Behind t)) s b rest h in let f = moved Behind w (loops_round s rest) in omega (arith, e, f)
more_at_a_loop w (Inside s) b (Branch line set names first has other rest) h =
    let e = more_at_a_loop (λ t. w (Inside t)) s b first h in let f = moved Inside w (loops_round s first) in omega (arith, e, f)
more_at_a_loop w (Other s) b (Branch line set names first has other rest) h =
    let e = more_at_a_loop (λ t. w (Other t)) s b other h in let f = moved Other w (loops_round s other) in omega (arith, e, f)
more_at_a_loop w Here b (Does line q rest) h = absurd h
more_at_a_loop w (Behind s) b (Does line q rest) h =
    let e = more_at_a_loop (λ t. w (Behind t)) s b rest h in let f = moved Behind w (loops_round s rest) in omega (arith, e, f)
more_at_a_loop w (Inside s) b (Does line q rest) h = absurd h
more_at_a_loop w (Other s) b (Does line q rest) h = absurd h

-- ---- the most is of a loop
within_most : (w : Spot → ℕ) (s : Spot) (n : Nest) → IsLoop s n → bytes_round w s n + w s ≤ most_in w n
within_most w s Nothing h = absurd h
within_most w Here (Loop line v l u step body rest) h = omega arith
within_most w (Behind s) (Loop line v l u step body rest) h = let e = within_most (λ t. w (Behind t)) s rest h in let f = moved Behind w (loops_round s rest) in omega (arith, e, f)
within_most w (Inside s) (Loop line v l u step body rest) h = let e = within_most (λ t. w (Inside t)) s body h in let f = round_inside w (loops_round s body) in omega (arith, e, f)
within_most w (Other s) (Loop line v l u step body rest) h = absurd h
within_most w Here (Branch line set names first has other rest) h = absurd h
within_most w (Behind s) (Branch line set names first has other rest) h = let e = within_most (λ t. w (Behind t)) s rest h in let f = moved Behind w (loops_round s rest) in omega (arith, e, f)
within_most w (Inside s) (Branch line set names first has other rest) h = let e = within_most (λ t. w (Inside t)) s first h in let f = moved Inside w (loops_round s first) in omega (arith, e, f)
within_most w (Other s) (Branch line set names first has other rest) h = let e = within_most (λ t. w (Other t)) s other h in let f = moved Other w (loops_round s other) in omega (arith, e, f)
within_most w Here (Does line q rest) h = absurd h
within_most w (Behind s) (Does line q rest) h = let e = within_most (λ t. w (Behind t)) s rest h in let f = moved Behind w (loops_round s rest) in omega (arith, e, f)
within_most w (Inside s) (Does line q rest) h = absurd h
within_most w (Other s) (Does line q rest) h = absurd h

-- a loop of the text has this many with those round it, where it isn't 0
abbrev Has : (Spot → ℕ) → Nest → ℕ → Type 0
Has w n most = (most ≡ 0) ⊎ ((s : Spot) × IsLoop s n × (bytes_round w s n + w s ≡ most))

-- so the greater of two
either : (w : Spot → ℕ) (n : Nest) (a b : ℕ) → Has w n a → Has w n b → Has w n (max a b)
either w n a b h k = by (within_or_not a b)
  where
    by : (a ≤ b) ⊎ (b < a) → Has w n (max a b)
    by (inl le) = subst (Has w n) (omega (arith, le)) k
    by (inr lt) = subst (Has w n) (omega (arith, lt)) h

-- in a region of a text
carried : (w : Spot → ℕ) (part n : Nest) (f : Spot → Spot) → ((s : Spot) → IsLoop s part → IsLoop (f s) n) → ((s : Spot) → bytes_round w (f s) n ≡ bytes_round (λ t. w (f t)) s part)
    → (most : ℕ) → Has (λ t. w (f t)) part most → Has w n most
carried w part n f loop same most (inl zero_) = inl zero_
carried w part n f loop same most (inr (s, h, e)) = inr (f s, loop s h, (let g = same s in omega (arith, e, g)))

-- or in a loop's body
carried_inside : (w : Spot → ℕ) (body n : Nest) → IsLoop Here n → (bytes_round w Here n ≡ 0) → ((s : Spot) → IsLoop s body → IsLoop (Inside s) n) → ((s : Spot) → bytes_round w (Inside s) n ≡ w Here + bytes_round (λ t. w (Inside t)) s body)
    → (most : ℕ) → Has (λ t. w (Inside t)) body most → Has w n (w Here + most)
carried_inside w body n here none loop same most (inl zero_) = inr (Here, here, omega (arith, zero_, none))
carried_inside w body n here none loop same most (inr (s, h, e)) = inr (Inside s, loop s h, (let g = same s in omega (arith, e, g)))

has_most : (w : Spot → ℕ) (n : Nest) → Has w n (most_in w n)
has_most w Nothing = inl refl
has_most w (Loop line v l u step body rest) =
    let n = Loop line v l u step body rest in
    either w n (w Here + most_in (λ t. w (Inside t)) body) (most_in (λ t. w (Behind t)) rest)
    (carried_inside w body n tt refl (λ s h. h) (λ s. round_inside w (loops_round s body)) (most_in (λ t. w (Inside t)) body) (has_most (λ t. w (Inside t)) body))
    (carried w rest n Behind (λ s h. h) (λ s. moved Behind w (loops_round s rest)) (most_in (λ t. w (Behind t)) rest) (has_most (λ t. w (Behind t)) rest))
has_most w (Branch line set names first has other rest) =
    let n = Branch line set names first has other rest in
    either w n (most_in (λ t. w (Inside t)) first) (max (most_in (λ t. w (Other t)) other) (most_in (λ t. w (Behind t)) rest))
    (carried w first n Inside (λ s h. h) (λ s. moved Inside w (loops_round s first)) (most_in (λ t. w (Inside t)) first) (has_most (λ t. w (Inside t)) first))
    (either w n (most_in (λ t. w (Other t)) other) (most_in (λ t. w (Behind t)) rest)
    (carried w other n Other (λ s h. h) (λ s. moved Other w (loops_round s other)) (most_in (λ t. w (Other t)) other) (has_most (λ t. w (Other t)) other))
    (carried w rest n Behind (λ s h. h) (λ s. moved Behind w (loops_round s rest)) (most_in (λ t. w (Behind t)) rest) (has_most (λ t. w (Behind t)) rest)))
has_most w (Does line q rest) =
    carried w rest (Does line q rest) Behind (λ s h. h) (λ s. moved Behind w (loops_round s rest)) (most_in (λ t. w (Behind t)) rest) (has_most (λ t. w (Behind t)) rest)

pub most_is_of_loops : MostIsOfLoops
most_is_of_loops w n = record { none_more = λ s h. within_most w s n h; one_has_it = has_most w n }

-- ---- one placement more
extra : (s : Spot) (b : ℕ) (w : Spot → ℕ) (u : Spot) → more_at s b w u ≡ w u + more_at s b (λ v. 0) u
extra Here b w Here = omega arith
extra Here b w (Behind u) = omega arith
extra Here b w (Inside u) = omega arith
extra Here b w (Other u) = omega arith
extra (Behind s) b w Here = omega arith
extra (Behind s) b w (Behind u) = extra s b (λ v. w (Behind v)) u
extra (Behind s) b w (Inside u) = omega arith
extra (Behind s) b w (Other u) = omega arith
extra (Inside s) b w Here = omega arith
extra (Inside s) b w (Behind u) = omega arith
extra (Inside s) b w (Inside u) = extra s b (λ v. w (Inside v)) u
extra (Inside s) b w (Other u) = omega arith
extra (Other s) b w Here = omega arith
extra (Other s) b w (Behind u) = omega arith
extra (Other s) b w (Inside u) = omega arith
extra (Other s) b w (Other u) = extra s b (λ v. w (Other v)) u

swapped : (s t : Spot) (b c : ℕ) (w : Spot → ℕ) (u : Spot) → more_at s b (more_at t c w) u ≡ more_at t c (more_at s b w) u
swapped s t b c w u =
    let e = extra s b (more_at t c w) u in let f = extra t c w u in let g = extra t c (more_at s b w) u in let h = extra s b w u in omega (arith, e, f, g, h)

pub last_more : (xs : List Step) (x : Step) (u : Spot) → bytes_at (xs ++ x ∷ []) u ≡ more_at x.spot (step_bytes x) (bytes_at xs) u
last_more [] x u = refl
last_more (y ∷ xs) x u =
    ap (λ w. more_at y.spot (step_bytes y) w u) (λ i v. last_more xs x v i) ∙ swapped y.spot x.spot (step_bytes y) (step_bytes x) (bytes_at xs) u

pub one_placement_more : OnePlacementMore
one_placement_more m h xs x loop =
    let n = nest m.body in
    let e = peaks_are_of_placements m h (xs ++ x ∷ []) in
    let f = peaks_are_of_placements m h xs in
    let g : most_in (bytes_at (xs ++ x ∷ [])) n ≡ most_in (more_at x.spot (step_bytes x) (bytes_at xs)) n = ap (λ w. most_in w n) (λ i u. last_more xs x u i) in
    let k = more_at_a_loop (bytes_at xs) x.spot (step_bytes x) n loop in
    omega (arith, e, f, g, k)
