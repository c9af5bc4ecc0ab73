-- Ways to loops of a text: that of the next block, and with a placement more.
use Rattle.std.proofs.Common.{◌≡◌, ℕ, zero, suc, ◌+◌, ◌<◌, Bool, true, false, List, [], ◌∷◌, ◌++◌, refl, sym, ap, ◌∙◌, subst, arith}
use Rattle.std.specs.Prelude.{◌&&◌, map, length, get_or, reverse, nat_eq, if◌then◌else◌}
use Rattle.std.proofs.lemmas.List.{length-map, get_or-map, reverse-append, map_push}
use mathlib.Core.Bool.{beq}
use Rattle.affine_ast.specs.Nest.{Nest, Nothing, Loop, Branch, Does}
use Rattle.placement_texts.specs.Spots.{Spot, Here, Behind, Inside, Other, IsLoop}
use Rattle.plan_laws.specs.Sites.{Holds, loops_round, position, further, path_of}
use Rattle.staged_peaks.specs.Bytes.{more_at, most_in, bytes_round, most_within}
use Rattle.staged_peaks.specs.declared.live.LiveLoop.{LiveLoop}
use Rattle.staged_peaks.specs.Living.{shared, entered, reach, raised, IsWay, sites_of}
use Rattle.staged_peaks.proofs.Lists.{going, kept, left}
use Rattle.staged_peaks.proofs.Order.{Before}
use Rattle.staged_peaks.proofs.Theorem.{moved, round_inside, more_at_a_loop}

-- ---- a text at whose loops nothing stands
pub nothing_there : (w : Spot → ℕ) (n : Nest) → ((t : Spot) → w t ≡ 0) → most_in w n ≡ 0
nothing_there w Nothing h = refl
nothing_there w (Loop line v l u step body rest) h =
    let a = h Here in let b = nothing_there (λ t. w (Inside t)) body (λ t. h (Inside t)) in let c = nothing_there (λ t. w (Behind t)) rest (λ t. h (Behind t)) in omega (arith, a, b, c)
nothing_there w (Branch line set names first has other rest) h =
    let a = nothing_there (λ t. w (Inside t)) first (λ t. h (Inside t)) in
    let b = nothing_there (λ t. w (Other t)) other (λ t. h (Other t)) in
    let c = nothing_there (λ t. w (Behind t)) rest (λ t. h (Behind t)) in omega (arith, a, b, c)
nothing_there w (Does line q rest) h = nothing_there (λ t. w (Behind t)) rest (λ t. h (Behind t))

-- ---- the lengths of the paths of the loops round a place and of the loop there
abbrev pub stops : ℕ → Spot → Nest → List ℕ
stops d Here (Loop line v l u step body rest) = d ∷ []
stops d (Behind s) (Loop line v l u step body rest) = stops d s rest
stops d (Inside s) (Loop line v l u step body rest) = d ∷ stops (suc d) s body
stops d (Behind s) (Branch line set names first has other rest) = stops d s rest
stops d (Inside s) (Branch line set names first has other rest) = stops (suc d) s first
stops d (Other s) (Branch line set names first has other rest) = stops (suc d) s other
stops d (Behind s) (Does line q rest) = stops d s rest
stops d s n = []

-- a loop of them with all in it: nothing stands there
abbrev pub Clear : (Spot → ℕ) → Spot → Type 0
Clear w s = (t y : Spot) → Holds t s → Holds t y → w y ≡ 0

holds_here : (s : Spot) → Holds Here (Inside s)
holds_here s = tt

-- a way on which nothing stands
pub clear_way : (d : ℕ) (w : Spot → ℕ) (s : Spot) (n : Nest) → IsLoop s n → Clear w s → IsWay d w s n (map entered (stops d s n))
clear_way d w s Nothing h c = absurd h
clear_way d w Here (Loop line v l u step body rest) h c = (refl, sym (c Here Here tt tt), sym (nothing_there (λ t. w (Inside t)) body (λ t. c Here (Inside t) tt tt)))
clear_way d w (Behind s) (Loop line v l u step body rest) h c = clear_way d (λ t. w (Behind t)) s rest h (λ t y a b. c (Behind t) (Behind y) a b)
clear_way d w (Inside s) (Loop line v l u step body rest) h c = (refl, sym (c Here Here tt tt), sym (nothing_there (λ t. w (Inside t)) body (λ t. c Here (Inside t) tt tt)), clear_way (suc d) (λ t. w (Inside t)) s body h (λ t y a b. c (Inside t) (Inside y) a b))
clear_way d w (Other s) (Loop line v l u step body rest) h c = absurd h
clear_way d w Here (Branch line set names first has other rest) h c = absurd h
clear_way d w (Behind s) (Branch line set names first has other rest) h c = clear_way d (λ t. w (Behind t)) s rest h (λ t y a b. c (Behind t) (Behind y) a b)
clear_way d w (Inside s) (Branch line set names first has other rest) h c = clear_way (suc d) (λ t. w (Inside t)) s first h (λ t y a b. c (Inside t) (Inside y) a b)
clear_way d w (Other s) (Branch line set names first has other rest) h c = clear_way (suc d) (λ t. w (Other t)) s other h (λ t y a b. c (Other t) (Other y) a b)
clear_way d w Here (Does line q rest) h c = absurd h
clear_way d w (Behind s) (Does line q rest) h c = clear_way d (λ t. w (Behind t)) s rest h (λ t y a b. c (Behind t) (Behind y) a b)
clear_way d w (Inside s) (Does line q rest) h c = absurd h
clear_way d w (Other s) (Does line q rest) h c = absurd h

-- ---- steps that two paths share
abbrev pub common : Spot → Spot → ℕ
common (Behind s) (Behind t) = common s t
common (Inside s) (Inside t) = suc (common s t)
common (Other s) (Other t) = suc (common s t)
common (Behind s) t = 0
common s (Behind t) = 0
common s t = 1

both : (p q : ℕ) (m k : Bool) (xs ys : List (ℕ × Bool)) → nat_eq p q ≡ true → m ≡ k → shared ((p, m) ∷ xs) ((q, k) ∷ ys) ≡ suc (shared xs ys)
both p q true true xs ys e f = ap (λ t. if t && true then suc (shared xs ys) else 0) e
both p q false false xs ys e f = ap (λ t. if t && true then suc (shared xs ys) else 0) e
both p q true false xs ys e f = absurd (let z : ⊥ = cc in z)
both p q false true xs ys e f = absurd (let z : ⊥ = cc in z)

apart : (p q : ℕ) (m k : Bool) (xs ys : List (ℕ × Bool)) → nat_eq p q ≡ false → shared ((p, m) ∷ xs) ((q, k) ∷ ys) ≡ 0
apart p q m k xs ys e = ap (λ t. if t && beq m k then suc (shared xs ys) else 0) e

marks : (p q : ℕ) (xs ys : List (ℕ × Bool)) → shared ((p, false) ∷ xs) ((q, true) ∷ ys) ≡ 0
marks p q xs ys = by (nat_eq p q)
  where
    by : (t : Bool) → (if t && false then suc (shared xs ys) else 0) ≡ 0
    by true = refl
    by false = refl

marks_back : (p q : ℕ) (xs ys : List (ℕ × Bool)) → shared ((p, true) ∷ xs) ((q, false) ∷ ys) ≡ 0
marks_back p q xs ys = by (nat_eq p q)
  where
    by : (t : Bool) → (if t && false then suc (shared xs ys) else 0) ≡ 0
    by true = refl
    by false = refl

further_on : (p q : ℕ) (m : Bool) (xs ys : List (ℕ × Bool)) → shared ((suc p, m) ∷ xs) ((suc q, m) ∷ ys) ≡ shared ((p, m) ∷ xs) ((q, m) ∷ ys)
further_on p q m xs ys = ap (λ t. if t && beq m m then suc (shared xs ys) else 0) same
  where
    same : nat_eq (suc p) (suc q) ≡ nat_eq p q
    same = grind arith

shared_common : (m : Bool) (s t : Spot) → shared ((position s, m) ∷ further s) ((position t, m) ∷ further t) ≡ common s t
shared_common m Here Here = both 0 0 m m (further Here) (further Here) refl refl
shared_common m Here (Behind t) = apart 0 (suc (position t)) m m (further Here) (further (Behind t)) (grind arith)
shared_common m Here (Inside t) = both 0 0 m m (further Here) (further (Inside t)) refl refl
shared_common m Here (Other t) = both 0 0 m m (further Here) (further (Other t)) refl refl
shared_common m (Behind s) Here = apart (suc (position s)) 0 m m (further (Behind s)) (further Here) (grind arith)
shared_common m (Behind s) (Behind t) = further_on (position s) (position t) m (further s) (further t) ∙ shared_common m s t
shared_common m (Behind s) (Inside t) = apart (suc (position s)) 0 m m (further (Behind s)) (further (Inside t)) (grind arith)
shared_common m (Behind s) (Other t) = apart (suc (position s)) 0 m m (further (Behind s)) (further (Other t)) (grind arith)
shared_common m (Inside s) Here = both 0 0 m m (further (Inside s)) (further Here) refl refl
shared_common m (Inside s) (Behind t) = apart 0 (suc (position t)) m m (further (Inside s)) (further (Behind t)) (grind arith)
shared_common m (Inside s) (Inside t) = both 0 0 m m (further (Inside s)) (further (Inside t)) refl refl ∙ ap suc (shared_common false s t)
shared_common m (Inside s) (Other t) = both 0 0 m m (further (Inside s)) (further (Other t)) refl refl ∙ ap suc (marks (position s) (position t) (further s) (further t))
shared_common m (Other s) Here = both 0 0 m m (further (Other s)) (further Here) refl refl
shared_common m (Other s) (Behind t) = apart 0 (suc (position t)) m m (further (Other s)) (further (Behind t)) (grind arith)
shared_common m (Other s) (Inside t) = both 0 0 m m (further (Other s)) (further (Inside t)) refl refl ∙ ap suc (marks_back (position s) (position t) (further s) (further t))
shared_common m (Other s) (Other t) = both 0 0 m m (further (Other s)) (further (Other t)) refl refl ∙ ap suc (shared_common true s t)

pub paths_share : (s t : Spot) → shared (path_of s) (path_of t) ≡ common s t
paths_share s t = shared_common false s t

-- ---- no loop of a way is kept
no_way : (d : ℕ) (w : Spot → ℕ) (s : Spot) (xs : List LiveLoop) → IsWay d w s Nothing xs → ⊥
no_way d w Here xs h = h
no_way d w (Behind s) xs h = h
no_way d w (Inside s) xs h = h
no_way d w (Other s) xs h = h

none_kept : (c d : ℕ) (w : Spot → ℕ) (s : Spot) (n : Nest) (xs : List LiveLoop) (ks : List ℕ) → IsWay d w s n xs → c < d → going c xs ks ≡ map entered ks
none_kept c d w s Nothing xs ks h lt = absurd (no_way d w s xs h)
none_kept c d w Here (Loop line v l u step body rest) [] ks h lt = absurd h
none_kept c d w Here (Loop line v l u step body rest) (x ∷ y ∷ xs) ks h lt = absurd h
none_kept c d w Here (Loop line v l u step body rest) (x ∷ []) ks h lt = left c x [] ks (let e = h.0 in omega (arith, e, lt))
none_kept c d w (Behind s) (Loop line v l u step body rest) xs ks h lt = none_kept c d (λ t. w (Behind t)) s rest xs ks h lt
none_kept c d w (Inside s) (Loop line v l u step body rest) [] ks h lt = absurd h
none_kept c d w (Inside s) (Loop line v l u step body rest) (x ∷ xs) ks h lt = left c x xs ks (let e = h.0 in omega (arith, e, lt))
none_kept c d w (Other s) (Loop line v l u step body rest) xs ks h lt = absurd h
none_kept c d w Here (Branch line set names first has other rest) xs ks h lt = absurd h
none_kept c d w (Behind s) (Branch line set names first has other rest) xs ks h lt = none_kept c d (λ t. w (Behind t)) s rest xs ks h lt
none_kept c d w (Inside s) (Branch line set names first has other rest) xs ks h lt = none_kept c (suc d) (λ t. w (Inside t)) s first xs ks h (omega (arith, lt))
none_kept c d w (Other s) (Branch line set names first has other rest) xs ks h lt = none_kept c (suc d) (λ t. w (Other t)) s other xs ks h (omega (arith, lt))
none_kept c d w Here (Does line q rest) xs ks h lt = absurd h
none_kept c d w (Behind s) (Does line q rest) xs ks h lt = none_kept c d (λ t. w (Behind t)) s rest xs ks h lt
none_kept c d w (Inside s) (Does line q rest) xs ks h lt = absurd h
none_kept c d w (Other s) (Does line q rest) xs ks h lt = absurd h

-- ---- the way to the next block
-- a loop of it that isn't on the way to the last one, with all in it: nothing stands there
abbrev pub Fresh : (Spot → ℕ) → Spot → Spot → Type 0
Fresh w s s' = (t y : Spot) → Holds t s' → (Holds t s → ⊥) → Holds t y → w y ≡ 0

-- where none of the two's loops is the other's
all_fresh : (w : Spot → ℕ) (f g : Spot → Spot) (s s' : Spot) → ((t : Spot) → Holds (g t) (f s) → ⊥) → Fresh w (f s) (g s') → ((t s' : Spot) → Holds t s' → Holds (g t) (g s')) → Clear (λ t. w (g t)) s'
all_fresh w f g s s' apart fresh up t y a b = fresh (g t) (g y) (up t s' a) (apart t) (up t y b)

pub next_block : (c d : ℕ) (w : Spot → ℕ) (s s' : Spot) (n : Nest) (xs : List LiveLoop) → c + 1 ≡ d + common s s' → IsLoop s n → IsLoop s' n → Before s s' → IsWay d w s n xs → Fresh w s s'
    → IsWay d w s' n (going c xs (stops d s' n))
next_block c d w s s' Nothing xs e h k b way fresh = absurd h
next_block c d w Here Here (Loop line v l u step body rest) xs e h k b way fresh = absurd b
next_block c d w Here (Behind s') (Loop line v l u step body rest) xs e h k b way fresh = subst (λ ys. IsWay d w (Behind s') (Loop line v l u step body rest) ys) (sym (none_kept c d w Here (Loop line v l u step body rest) xs (stops d s' rest) way (omega (arith, e)))) (clear_way d (λ t. w (Behind t)) s' rest k (λ t y p q. fresh (Behind t) (Behind y) p (λ z. z) q))
next_block c d w Here (Inside s') (Loop line v l u step body rest) xs e h k b way fresh = absurd b
next_block c d w Here (Other s') (Loop line v l u step body rest) xs e h k b way fresh = absurd k
next_block c d w (Behind s) Here (Loop line v l u step body rest) xs e h k b way fresh = absurd b
next_block c d w (Behind s) (Behind s') (Loop line v l u step body rest) xs e h k b way fresh = next_block c d (λ t. w (Behind t)) s s' rest xs e h k b way (λ t y p q r. fresh (Behind t) (Behind y) p q r)
next_block c d w (Behind s) (Inside s') (Loop line v l u step body rest) xs e h k b way fresh = absurd b
next_block c d w (Behind s) (Other s') (Loop line v l u step body rest) xs e h k b way fresh = absurd k
next_block c d w (Inside s) Here (Loop line v l u step body rest) xs e h k b way fresh = absurd b
next_block c d w (Inside s) (Behind s') (Loop line v l u step body rest) xs e h k b way fresh = subst (λ ys. IsWay d w (Behind s') (Loop line v l u step body rest) ys) (sym (none_kept c d w (Inside s) (Loop line v l u step body rest) xs (stops d s' rest) way (omega (arith, e)))) (clear_way d (λ t. w (Behind t)) s' rest k (λ t y p q. fresh (Behind t) (Behind y) p (λ z. z) q))
next_block c d w (Inside s) (Inside s') (Loop line v l u step body rest) [] e h k b way fresh = absurd way
next_block c d w (Inside s) (Inside s') (Loop line v l u step body rest) (x ∷ xs) e h k b way fresh =
    let deeper = next_block c (suc d) (λ t. w (Inside t)) s s' body xs (omega (arith, e)) h k b way.3 (λ t y p q r. fresh (Inside t) (Inside y) p q r) in
    let same = way.0 in
    subst (λ ys. IsWay d w (Inside s') (Loop line v l u step body rest) ys) (sym (kept c x xs d (stops (suc d) s' body) (omega (arith, e, same)))) (way.0, way.1, way.2, deeper)
next_block c d w (Inside s) (Other s') (Loop line v l u step body rest) xs e h k b way fresh = absurd k
next_block c d w (Other s) s' (Loop line v l u step body rest) xs e h k b way fresh = absurd h
next_block c d w Here s' (Branch line set names first has other rest) xs e h k b way fresh = absurd h
next_block c d w (Behind s) Here (Branch line set names first has other rest) xs e h k b way fresh = absurd k
next_block c d w (Behind s) (Behind s') (Branch line set names first has other rest) xs e h k b way fresh = next_block c d (λ t. w (Behind t)) s s' rest xs e h k b way (λ t y p q r. fresh (Behind t) (Behind y) p q r)
next_block c d w (Behind s) (Inside s') (Branch line set names first has other rest) xs e h k b way fresh = absurd b
next_block c d w (Behind s) (Other s') (Branch line set names first has other rest) xs e h k b way fresh = absurd b
next_block c d w (Inside s) Here (Branch line set names first has other rest) xs e h k b way fresh = absurd k
next_block c d w (Inside s) (Behind s') (Branch line set names first has other rest) xs e h k b way fresh = subst (λ ys. IsWay d w (Behind s') (Branch line set names first has other rest) ys) (sym (none_kept c d w (Inside s) (Branch line set names first has other rest) xs (stops d s' rest) way (omega (arith, e)))) (clear_way d (λ t. w (Behind t)) s' rest k (λ t y p q. fresh (Behind t) (Behind y) p (λ z. z) q))
next_block c d w (Inside s) (Inside s') (Branch line set names first has other rest) xs e h k b way fresh = next_block c (suc d) (λ t. w (Inside t)) s s' first xs (omega (arith, e)) h k b way (λ t y p q r. fresh (Inside t) (Inside y) p q r)
next_block c d w (Inside s) (Other s') (Branch line set names first has other rest) xs e h k b way fresh = subst (λ ys. IsWay d w (Other s') (Branch line set names first has other rest) ys) (sym (none_kept c (suc d) (λ t. w (Inside t)) s first xs (stops (suc d) s' other) way (omega (arith, e)))) (clear_way (suc d) (λ t. w (Other t)) s' other k (λ t y p q. fresh (Other t) (Other y) p (λ z. z) q))
next_block c d w (Other s) Here (Branch line set names first has other rest) xs e h k b way fresh = absurd k
next_block c d w (Other s) (Behind s') (Branch line set names first has other rest) xs e h k b way fresh = subst (λ ys. IsWay d w (Behind s') (Branch line set names first has other rest) ys) (sym (none_kept c d w (Other s) (Branch line set names first has other rest) xs (stops d s' rest) way (omega (arith, e)))) (clear_way d (λ t. w (Behind t)) s' rest k (λ t y p q. fresh (Behind t) (Behind y) p (λ z. z) q))
next_block c d w (Other s) (Inside s') (Branch line set names first has other rest) xs e h k b way fresh = absurd b
next_block c d w (Other s) (Other s') (Branch line set names first has other rest) xs e h k b way fresh = next_block c (suc d) (λ t. w (Other t)) s s' other xs (omega (arith, e)) h k b way (λ t y p q r. fresh (Other t) (Other y) p q r)
next_block c d w Here s' (Does line q rest) xs e h k b way fresh = absurd h
next_block c d w (Behind s) Here (Does line q rest) xs e h k b way fresh = absurd k
next_block c d w (Behind s) (Behind s') (Does line q rest) xs e h k b way fresh = next_block c d (λ t. w (Behind t)) s s' rest xs e h k b way (λ t y p q r. fresh (Behind t) (Behind y) p q r)
next_block c d w (Behind s) (Inside s') (Does line q rest) xs e h k b way fresh = absurd k
next_block c d w (Behind s) (Other s') (Does line q rest) xs e h k b way fresh = absurd k
next_block c d w (Inside s) s' (Does line q rest) xs e h k b way fresh = absurd h
next_block c d w (Other s) s' (Does line q rest) xs e h k b way fresh = absurd h

-- ---- the loops on a way, by their number
abbrev pub less_one : ℕ → ℕ
less_one zero = 0
less_one (suc i) = i

abbrev pub outer_or : ℕ → Spot → Spot
outer_or zero t = Here
outer_or (suc i) t = Inside t

abbrev pub spot_at : ℕ → Spot → Nest → Spot
spot_at i (Behind s) (Loop line v l u step body rest) = Behind (spot_at i s rest)
spot_at i (Inside s) (Loop line v l u step body rest) = outer_or i (spot_at (less_one i) s body)
spot_at i (Behind s) (Branch line set names first has other rest) = Behind (spot_at i s rest)
spot_at i (Inside s) (Branch line set names first has other rest) = Inside (spot_at i s first)
spot_at i (Other s) (Branch line set names first has other rest) = Other (spot_at i s other)
spot_at i (Behind s) (Does line q rest) = Behind (spot_at i s rest)
spot_at i s n = s

pub is_loop_at : (i : ℕ) (s : Spot) (n : Nest) → IsLoop s n → IsLoop (spot_at i s n) n × Holds (spot_at i s n) s
is_loop_at i s Nothing h = absurd h
is_loop_at i Here (Loop line v l u step body rest) h = (tt, tt)
is_loop_at i (Behind s) (Loop line v l u step body rest) h = is_loop_at i s rest h
is_loop_at zero (Inside s) (Loop line v l u step body rest) h = (tt, tt)
is_loop_at (suc i) (Inside s) (Loop line v l u step body rest) h = is_loop_at i s body h
is_loop_at i (Other s) (Loop line v l u step body rest) h = absurd h
is_loop_at i Here (Branch line set names first has other rest) h = absurd h
is_loop_at i (Behind s) (Branch line set names first has other rest) h = is_loop_at i s rest h
is_loop_at i (Inside s) (Branch line set names first has other rest) h = is_loop_at i s first h
is_loop_at i (Other s) (Branch line set names first has other rest) h = is_loop_at i s other h
is_loop_at i Here (Does line q rest) h = absurd h
is_loop_at i (Behind s) (Does line q rest) h = is_loop_at i s rest h
is_loop_at i (Inside s) (Does line q rest) h = absurd h
is_loop_at i (Other s) (Does line q rest) h = absurd h

-- the bytes of the loops down to it, and the most in it
pub reach_is : (d : ℕ) (w : Spot → ℕ) (i b : ℕ) (s : Spot) (n : Nest) (xs : List LiveLoop) → IsLoop s n → IsWay d w s n xs → i < length xs
    → reach i b xs ≡ bytes_round w (spot_at i s n) n + b + most_within w (spot_at i s n) n
reach_is d w i b s Nothing xs h way lt = absurd h
reach_is d w i b Here (Loop line v l u step body rest) [] h way lt = absurd way
reach_is d w i b Here (Loop line v l u step body rest) (x ∷ y ∷ xs) h way lt = absurd way
reach_is d w zero b Here (Loop line v l u step body rest) (x ∷ []) h way lt = let e = way.1 in let f = way.2 in omega (arith, e, f)
reach_is d w (suc i) b Here (Loop line v l u step body rest) (x ∷ []) h way lt = absurd (omega (arith, lt))
reach_is d w i b (Behind s) (Loop line v l u step body rest) xs h way lt =
    let f = reach_is d (λ t. w (Behind t)) i b s rest xs h way lt in let g = moved Behind w (loops_round (spot_at i s rest) rest) in omega (arith, f, g)
reach_is d w i b (Inside s) (Loop line v l u step body rest) [] h way lt = absurd way
reach_is d w zero b (Inside s) (Loop line v l u step body rest) (x ∷ xs) h way lt = let e = way.1 in let f = way.2 in omega (arith, e, f)
reach_is d w (suc i) b (Inside s) (Loop line v l u step body rest) (x ∷ xs) h way lt =
    let e = way.1 in let f = reach_is (suc d) (λ t. w (Inside t)) i b s body xs h way.3 (omega (arith, lt)) in let g = round_inside w (loops_round (spot_at i s body) body) in omega (arith, e, f, g)
reach_is d w i b (Other s) (Loop line v l u step body rest) xs h way lt = absurd h
reach_is d w i b Here (Branch line set names first has other rest) xs h way lt = absurd h
reach_is d w i b (Behind s) (Branch line set names first has other rest) xs h way lt =
    let f = reach_is d (λ t. w (Behind t)) i b s rest xs h way lt in let g = moved Behind w (loops_round (spot_at i s rest) rest) in omega (arith, f, g)
reach_is d w i b (Inside s) (Branch line set names first has other rest) xs h way lt =
    let f = reach_is (suc d) (λ t. w (Inside t)) i b s first xs h way lt in let g = moved Inside w (loops_round (spot_at i s first) first) in omega (arith, f, g)
reach_is d w i b (Other s) (Branch line set names first has other rest) xs h way lt =
    let f = reach_is (suc d) (λ t. w (Other t)) i b s other xs h way lt in let g = moved Other w (loops_round (spot_at i s other) other) in omega (arith, f, g)
reach_is d w i b Here (Does line q rest) xs h way lt = absurd h
reach_is d w i b (Behind s) (Does line q rest) xs h way lt =
    let f = reach_is d (λ t. w (Behind t)) i b s rest xs h way lt in let g = moved Behind w (loops_round (spot_at i s rest) rest) in omega (arith, f, g)
reach_is d w i b (Inside s) (Does line q rest) xs h way lt = absurd h
reach_is d w i b (Other s) (Does line q rest) xs h way lt = absurd h

pub raised_way : (d : ℕ) (w : Spot → ℕ) (i b : ℕ) (s : Spot) (n : Nest) (xs : List LiveLoop) → IsLoop s n → IsWay d w s n xs → i < length xs → IsWay d (more_at (spot_at i s n) b w) s n (raised i b xs)
raised_way d w i b s Nothing xs h way lt = absurd h
raised_way d w i b Here (Loop line v l u step body rest) [] h way lt = absurd way
raised_way d w i b Here (Loop line v l u step body rest) (x ∷ y ∷ xs) h way lt = absurd way
raised_way d w zero b Here (Loop line v l u step body rest) (x ∷ []) h way lt = (way.0, ap (λ k. k + b) way.1, way.2)
raised_way d w (suc i) b Here (Loop line v l u step body rest) (x ∷ []) h way lt = absurd (omega (arith, lt))
raised_way d w i b (Behind s) (Loop line v l u step body rest) xs h way lt = raised_way d (λ t. w (Behind t)) i b s rest xs h way lt
raised_way d w i b (Inside s) (Loop line v l u step body rest) [] h way lt = absurd way
raised_way d w zero b (Inside s) (Loop line v l u step body rest) (x ∷ xs) h way lt = (way.0, ap (λ k. k + b) way.1, way.2, way.3)
raised_way d w (suc i) b (Inside s) (Loop line v l u step body rest) (x ∷ xs) h way lt =
    let inner : Spot → ℕ = λ t. w (Inside t) in
    let t = spot_at i s body in
    let e = way.2 in
    let f = reach_is (suc d) inner i b s body xs h way.3 (omega (arith, lt)) in
    let g = more_at_a_loop inner t b body (is_loop_at i s body h).0 in
    (way.0, way.1, omega (arith, e, f, g), raised_way (suc d) inner i b s body xs h way.3 (omega (arith, lt)))
raised_way d w i b (Other s) (Loop line v l u step body rest) xs h way lt = absurd h
raised_way d w i b Here (Branch line set names first has other rest) xs h way lt = absurd h
raised_way d w i b (Behind s) (Branch line set names first has other rest) xs h way lt = raised_way d (λ t. w (Behind t)) i b s rest xs h way lt
raised_way d w i b (Inside s) (Branch line set names first has other rest) xs h way lt = raised_way (suc d) (λ t. w (Inside t)) i b s first xs h way lt
raised_way d w i b (Other s) (Branch line set names first has other rest) xs h way lt = raised_way (suc d) (λ t. w (Other t)) i b s other xs h way lt
raised_way d w i b Here (Does line q rest) xs h way lt = absurd h
raised_way d w i b (Behind s) (Does line q rest) xs h way lt = raised_way d (λ t. w (Behind t)) i b s rest xs h way lt
raised_way d w i b (Inside s) (Does line q rest) xs h way lt = absurd h
raised_way d w i b (Other s) (Does line q rest) xs h way lt = absurd h

-- ---- the loops on the way, as a list
abbrev pub chain : Spot → Nest → List Spot
chain (Behind s) (Loop line v l u step body rest) = map Behind (chain s rest)
chain (Inside s) (Loop line v l u step body rest) = Here ∷ map Inside (chain s body)
chain (Behind s) (Branch line set names first has other rest) = map Behind (chain s rest)
chain (Inside s) (Branch line set names first has other rest) = map Inside (chain s first)
chain (Other s) (Branch line set names first has other rest) = map Other (chain s other)
chain (Behind s) (Does line q rest) = map Behind (chain s rest)
chain s n = s ∷ []

reversed : (f : Spot → Spot) (xs : List Spot) → reverse (map f xs) ≡ map f (reverse xs)
reversed f [] = refl
reversed f (x ∷ xs) =
    reverse-append (f x ∷ []) (map f xs) ∙ (ap (λ ys. ys ++ f x ∷ []) (reversed f xs) ∙ (sym (map_push f (reverse xs) x) ∙ ap (map f) (sym (reverse-append (x ∷ []) xs))))

moved_list : (f : Spot → Spot) (xs : List Spot) (s : Spot) → reverse (map f xs) ++ f s ∷ [] ≡ map f (reverse xs ++ s ∷ [])
moved_list f xs s = ap (λ ys. ys ++ f s ∷ []) (reversed f xs) ∙ sym (map_push f (reverse xs) s)

inside_list : (xs : List Spot) (s : Spot) → reverse (map Inside xs ++ Here ∷ []) ++ Inside s ∷ [] ≡ Here ∷ map Inside (reverse xs ++ s ∷ [])
inside_list xs s = ap (λ ys. ys ++ Inside s ∷ []) (reverse-append (map Inside xs) (Here ∷ [])) ∙ ap (λ ys. Here ∷ ys) (moved_list Inside xs s)

pub chain_is : (s : Spot) (n : Nest) → IsLoop s n → sites_of n s ≡ chain s n
chain_is s Nothing h = absurd h
chain_is Here (Loop line v l u step body rest) h = refl
chain_is (Behind s) (Loop line v l u step body rest) h = moved_list Behind (loops_round s rest) s ∙ ap (map Behind) (chain_is s rest h)
chain_is (Inside s) (Loop line v l u step body rest) h = inside_list (loops_round s body) s ∙ ap (λ xs. Here ∷ map Inside xs) (chain_is s body h)
chain_is (Other s) (Loop line v l u step body rest) h = absurd h
chain_is Here (Branch line set names first has other rest) h = absurd h
chain_is (Behind s) (Branch line set names first has other rest) h = moved_list Behind (loops_round s rest) s ∙ ap (map Behind) (chain_is s rest h)
chain_is (Inside s) (Branch line set names first has other rest) h = moved_list Inside (loops_round s first) s ∙ ap (map Inside) (chain_is s first h)
chain_is (Other s) (Branch line set names first has other rest) h = moved_list Other (loops_round s other) s ∙ ap (map Other) (chain_is s other h)
chain_is Here (Does line q rest) h = absurd h
chain_is (Behind s) (Does line q rest) h = moved_list Behind (loops_round s rest) s ∙ ap (map Behind) (chain_is s rest h)
chain_is (Inside s) (Does line q rest) h = absurd h
chain_is (Other s) (Does line q rest) h = absurd h

pub chain_at : (i : ℕ) (s : Spot) (n : Nest) (d : Spot) → IsLoop s n → i < length (chain s n) → get_or (chain s n) i d ≡ spot_at i s n
chain_at i s Nothing d h lt = absurd h
chain_at zero Here (Loop line v l u step body rest) d h lt = refl
chain_at (suc i) Here (Loop line v l u step body rest) d h lt = absurd (omega (arith, lt))
chain_at i (Behind s) (Loop line v l u step body rest) d h lt =
    let k : i < length (chain s rest) = (let e = length-map (chain s rest) Behind in omega (arith, e, lt)) in get_or-map Behind (chain s rest) i d d k ∙ ap Behind (chain_at i s rest d h k)
chain_at zero (Inside s) (Loop line v l u step body rest) d h lt = refl
chain_at (suc i) (Inside s) (Loop line v l u step body rest) d h lt =
    let k : i < length (chain s body) = (let e = length-map (chain s body) Inside in omega (arith, e, lt)) in get_or-map Inside (chain s body) i d d k ∙ ap Inside (chain_at i s body d h k)
chain_at i (Other s) (Loop line v l u step body rest) d h lt = absurd h
chain_at i Here (Branch line set names first has other rest) d h lt = absurd h
chain_at i (Behind s) (Branch line set names first has other rest) d h lt =
    let k : i < length (chain s rest) = (let e = length-map (chain s rest) Behind in omega (arith, e, lt)) in get_or-map Behind (chain s rest) i d d k ∙ ap Behind (chain_at i s rest d h k)
chain_at i (Inside s) (Branch line set names first has other rest) d h lt =
    let k : i < length (chain s first) = (let e = length-map (chain s first) Inside in omega (arith, e, lt)) in get_or-map Inside (chain s first) i d d k ∙ ap Inside (chain_at i s first d h k)
chain_at i (Other s) (Branch line set names first has other rest) d h lt =
    let k : i < length (chain s other) = (let e = length-map (chain s other) Other in omega (arith, e, lt)) in get_or-map Other (chain s other) i d d k ∙ ap Other (chain_at i s other d h k)
chain_at i Here (Does line q rest) d h lt = absurd h
chain_at i (Behind s) (Does line q rest) d h lt =
    let k : i < length (chain s rest) = (let e = length-map (chain s rest) Behind in omega (arith, e, lt)) in get_or-map Behind (chain s rest) i d d k ∙ ap Behind (chain_at i s rest d h k)
chain_at i (Inside s) (Does line q rest) d h lt = absurd h
chain_at i (Other s) (Does line q rest) d h lt = absurd h

pub way_length : (d : ℕ) (w : Spot → ℕ) (s : Spot) (n : Nest) (xs : List LiveLoop) → IsWay d w s n xs → length xs ≡ length (chain s n)
way_length d w s Nothing xs way = absurd (no_way d w s xs way)
way_length d w Here (Loop line v l u step body rest) [] way = absurd way
way_length d w Here (Loop line v l u step body rest) (x ∷ y ∷ xs) way = absurd way
way_length d w Here (Loop line v l u step body rest) (x ∷ []) way = refl
way_length d w (Behind s) (Loop line v l u step body rest) xs way = way_length d (λ t. w (Behind t)) s rest xs way ∙ sym (length-map (chain s rest) Behind)
way_length d w (Inside s) (Loop line v l u step body rest) [] way = absurd way
way_length d w (Inside s) (Loop line v l u step body rest) (x ∷ xs) way = let e = way_length (suc d) (λ t. w (Inside t)) s body xs way.3 in let f = length-map (chain s body) Inside in omega (arith, e, f)
way_length d w (Other s) (Loop line v l u step body rest) xs way = absurd way
way_length d w Here (Branch line set names first has other rest) xs way = absurd way
way_length d w (Behind s) (Branch line set names first has other rest) xs way = way_length d (λ t. w (Behind t)) s rest xs way ∙ sym (length-map (chain s rest) Behind)
way_length d w (Inside s) (Branch line set names first has other rest) xs way = way_length (suc d) (λ t. w (Inside t)) s first xs way ∙ sym (length-map (chain s first) Inside)
way_length d w (Other s) (Branch line set names first has other rest) xs way = way_length (suc d) (λ t. w (Other t)) s other xs way ∙ sym (length-map (chain s other) Other)
way_length d w Here (Does line q rest) xs way = absurd way
way_length d w (Behind s) (Does line q rest) xs way = way_length d (λ t. w (Behind t)) s rest xs way ∙ sym (length-map (chain s rest) Behind)
way_length d w (Inside s) (Does line q rest) xs way = absurd way
way_length d w (Other s) (Does line q rest) xs way = absurd way

-- the lengths of their paths
lengths_moved : (d : ℕ) (f : Spot → Spot) (ts : List Spot) → ((t : Spot) → d + length (further (f t)) ≡ d + length (further t)) → map (λ t. d + length (further t)) (map f ts) ≡ map (λ t. d + length (further t)) ts
lengths_moved d f [] h = refl
lengths_moved d f (t ∷ ts) h = λ i. h t i ∷ lengths_moved d f ts h i

lengths_deeper : (d : ℕ) (f : Spot → Spot) (ts : List Spot) → ((t : Spot) → length (further (f t)) ≡ suc (length (further t))) → map (λ t. d + length (further t)) (map f ts) ≡ map (λ t. suc d + length (further t)) ts
lengths_deeper d f [] h = refl
lengths_deeper d f (t ∷ ts) h = let e : d + length (further (f t)) ≡ suc d + length (further t) = (let g = h t in omega (arith, g)) in λ i. e i ∷ lengths_deeper d f ts h i

pub stops_are : (d : ℕ) (s : Spot) (n : Nest) → IsLoop s n → stops d s n ≡ map (λ t. d + length (further t)) (chain s n)
stops_are d s Nothing h = absurd h
stops_are d Here (Loop line v l u step body rest) h = ap (λ k. k ∷ []) (omega arith)
stops_are d (Behind s) (Loop line v l u step body rest) h = stops_are d s rest h ∙ sym (lengths_moved d Behind (chain s rest) (λ t. refl))
stops_are d (Inside s) (Loop line v l u step body rest) h =
    let e : d ≡ d + 0 = omega arith in let f = stops_are (suc d) s body h ∙ sym (lengths_deeper d Inside (chain s body) (λ t. refl)) in λ i. e i ∷ f i
stops_are d (Other s) (Loop line v l u step body rest) h = absurd h
stops_are d Here (Branch line set names first has other rest) h = absurd h
stops_are d (Behind s) (Branch line set names first has other rest) h = stops_are d s rest h ∙ sym (lengths_moved d Behind (chain s rest) (λ t. refl))
stops_are d (Inside s) (Branch line set names first has other rest) h = stops_are (suc d) s first h ∙ sym (lengths_deeper d Inside (chain s first) (λ t. refl))
stops_are d (Other s) (Branch line set names first has other rest) h = stops_are (suc d) s other h ∙ sym (lengths_deeper d Other (chain s other) (λ t. refl))
stops_are d Here (Does line q rest) h = absurd h
stops_are d (Behind s) (Does line q rest) h = stops_are d s rest h ∙ sym (lengths_moved d Behind (chain s rest) (λ t. refl))
stops_are d (Inside s) (Does line q rest) h = absurd h
stops_are d (Other s) (Does line q rest) h = absurd h
