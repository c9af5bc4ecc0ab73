-- Paths name the places that they were made from, and the path of a loop round a place begins the place's.
use Rattle.std.proofs.Common.{◌≡◌, ℕ, suc, ◌+◌, Bool, true, false, List, [], ◌∷◌, length, map, take, reverse, refl, sym, ap, ◌∙◌, arith, zero-add, add-zero}
use Rattle.std.proofs.lemmas.List.{reverse-append}
use Rattle.affine_ast.specs.Nest.{Nest, Nothing, Loop, Branch, Does}
use Rattle.boxes.specs.Every.{Every}
use Rattle.placement_texts.specs.Spots.{Spot, Here, Behind, Inside, Other}
use Rattle.placement_stage.specs.Places.{spot_of}
use Rattle.plan_laws.specs.Sites.{position, further, path_of, loops_at, loops_round}
use Rattle.plan_laws.proofs.Sited.{every_append, every_map}
use Rattle.loop_paths.specs.Found.{found_at}
use Rattle.loop_paths.specs.Walk.{rounds, found_in}
use Rattle.loop_paths.specs.Law.{PathsAreSpots, BeginningsArePaths, BeginningsAreLoops}
use Rattle.loop_paths.proofs.Lists.{twice, mapped_back}

pub spots : PathsAreSpots
spots Here = refl
spots (Behind s) = ap Behind (spots s)
spots (Inside s) = ap Inside (spots s)
spots (Other s) = ap Other (spots s)

-- ---- the path of a loop round a place
record Begins (s t : Spot) : Type 0 where
  at : position s ≡ position t
  on : take (length (further t)) (further s) ≡ further t

none : (s : Spot) → Every (Begins s) (loops_round s Nothing)
none Here = tt
none (Behind s) = tt
none (Inside s) = tt
none (Other s) = tt

nothing : (xs : List (ℕ × Bool)) → take 0 xs ≡ []
nothing [] = refl
nothing (x ∷ xs) = refl

module _ (s : Spot) (xs : List Spot) where
  behind : Every (Begins s) xs → Every (Begins (Behind s)) (map Behind xs)
  behind = every_map (Begins s) (Begins (Behind s)) Behind (λ t b. record { at = ap suc b.at; on = b.on }) xs

  inside : Every (Begins s) xs → Every (Begins (Inside s)) (map Inside xs)
  inside = every_map (Begins s) (Begins (Inside s)) Inside (λ t b. record { at = refl; on = λ i. (b.at i, false) ∷ b.on i }) xs

  other : Every (Begins s) xs → Every (Begins (Other s)) (map Other xs)
  other = every_map (Begins s) (Begins (Other s)) Other (λ t b. record { at = refl; on = λ i. (b.at i, true) ∷ b.on i }) xs

begin : (s : Spot) (n : Nest) → Every (Begins s) (loops_round s n)
begin s Nothing = none s
begin Here (Loop line v l u step body rest) = tt
begin (Behind s) (Loop line v l u step body rest) = behind s (loops_round s rest) (begin s rest)
begin (Inside s) (Loop line v l u step body rest) =
    every_append (Begins (Inside s)) (map Inside (loops_round s body)) (Here ∷ []) (inside s (loops_round s body) (begin s body)) (record { at = refl; on = refl }, tt)
begin (Other s) (Loop line v l u step body rest) = tt
begin Here (Branch line set names first has other_ rest) = tt
begin (Behind s) (Branch line set names first has other_ rest) = behind s (loops_round s rest) (begin s rest)
begin (Inside s) (Branch line set names first has other_ rest) = inside s (loops_round s first) (begin s first)
begin (Other s) (Branch line set names first has other_ rest) = other s (loops_round s other_) (begin s other_)
begin Here (Does line q rest) = tt
begin (Behind s) (Does line q rest) = behind s (loops_round s rest) (begin s rest)
begin (Inside s) (Does line q rest) = tt
begin (Other s) (Does line q rest) = tt

pub beginnings : BeginningsArePaths
beginnings s n =
    let ts = loops_round s n in
    let steps = λ (t : Spot). length (path_of t) in
    let shorter = λ (k : ℕ). take k (path_of s) in
    ap (map shorter) (sym (mapped_back steps ts))
    ∙ sym (mapped_back shorter (map steps ts))
    ∙ ap reverse (each ts (begin s n))
    ∙ mapped_back path_of ts
  where
    each : (ts : List Spot) → Every (Begins s) ts → map (λ k. take k (path_of s)) (map (λ t. length (path_of t)) ts) ≡ map path_of ts
    each [] h = refl
    each (t ∷ ts) h = λ i. ((h.0.at i, false) ∷ h.0.on i) ∷ each ts h.1 i

pub loops : BeginningsAreLoops
loops s n =
    sym (twice spot_of (λ k. take k (path_of s)) (λ k. spot_of (take k (path_of s))) (λ k. refl) (found_at n s).round)
    ∙ ap (map spot_of) (beginnings s n)
    ∙ back (reverse (loops_round s n))
  where
    back : (ts : List Spot) → map spot_of (map path_of ts) ≡ ts
    back [] = refl
    back (t ∷ ts) = λ i. spots t i ∷ back ts i

-- ---- how long those paths are
past : (d : ℕ) (ts : List Spot) → map (λ t. d + length (further t)) (reverse (map Behind ts)) ≡ map (λ t. d + length (further t)) (reverse ts)
past d ts = ap (map (λ t. d + length (further t))) (mapped_back Behind ts) ∙ twice (λ t. d + length (further t)) Behind (λ t. d + length (further t)) (λ t. refl) (reverse ts)

deeper : (into : Spot → Spot) (d : ℕ) → ((t : Spot) → length (further (into t)) ≡ suc (length (further t)))
    → (ts : List Spot) → map (λ t. d + length (further t)) (reverse (map into ts)) ≡ map (λ t. d + 1 + length (further t)) (reverse ts)
deeper into d longer ts =
    ap (map (λ t. d + length (further t))) (mapped_back into ts)
    ∙ twice (λ t. d + length (further t)) into (λ t. d + 1 + length (further t)) (λ t. let e = longer t in omega (arith, e)) (reverse ts)

counted : (d : ℕ) (s : Spot) (n : Nest) → rounds d s n ≡ map (λ t. d + length (further t)) (reverse (loops_round s n))
counted d s Nothing = empty s
  where
    empty : (s : Spot) → rounds d s Nothing ≡ map (λ t. d + length (further t)) (reverse (loops_round s Nothing))
    empty Here = refl
    empty (Behind s) = refl
    empty (Inside s) = refl
    empty (Other s) = refl
counted d Here (Loop line v l u step body rest) = refl
counted d (Behind s) (Loop line v l u step body rest) = counted d s rest ∙ sym (past d (loops_round s rest))
counted d (Inside s) (Loop line v l u step body rest) =
    let ts = loops_round s body in
    (λ i. sym (add-zero d) i ∷ (counted (d + 1) s body ∙ sym (deeper Inside d (λ t. refl) ts)) i)
    ∙ ap (map (λ t. d + length (further t))) (sym (reverse-append (map Inside ts) (Here ∷ [])))
counted d (Other s) (Loop line v l u step body rest) = refl
counted d Here (Branch line set names first has other_ rest) = refl
counted d (Behind s) (Branch line set names first has other_ rest) = counted d s rest ∙ sym (past d (loops_round s rest))
counted d (Inside s) (Branch line set names first has other_ rest) = counted (d + 1) s first ∙ sym (deeper Inside d (λ t. refl) (loops_round s first))
counted d (Other s) (Branch line set names first has other_ rest) = counted (d + 1) s other_ ∙ sym (deeper Other d (λ t. refl) (loops_round s other_))
counted d Here (Does line q rest) = refl
counted d (Behind s) (Does line q rest) = counted d s rest ∙ sym (past d (loops_round s rest))
counted d (Inside s) (Does line q rest) = refl
counted d (Other s) (Does line q rest) = refl

pub found_all : (depth : ℕ) (n : Nest) → found_in depth [] [] false 0 n ≡ map (found_at n) (loops_at depth n)
unfolding found_in
found_all depth n = λ i. map (λ s. record { steps = (zero-add (position s) i, false) ∷ further s; round = lengths s i }) (loops_at depth n)
  where
    one : (t : Spot) → 1 + length (further t) ≡ length (path_of t)
    one t = omega arith

    lengths : (s : Spot) → rounds 1 s n ≡ (found_at n s).round
    lengths s = counted 1 s n ∙ (λ i. map (λ t. one t i) (reverse (loops_round s n)))
