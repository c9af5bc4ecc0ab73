-- What is kept from block to block is what the placements so far have live.
use Rattle.std.proofs.Common.{◌≡◌, inl, inr, ℕ, ◌+◌, ◌<◌, List, [], ◌∷◌, ◌++◌, refl, sym, ap, ◌∙◌, subst, arith}
use Rattle.std.specs.Prelude.{◌^◌, map, length, get_or, reverse, Option, Some, None, SomeIff}
use Rattle.std.proofs.lemmas.List.{map_push}
use Rattle.affine_ast.specs.Nest.{Nest, nest}
use Rattle.boxes.specs.Every.{Every}
use Rattle.loop_paths.specs.declared.paths.LoopPath.{LoopPath}
use Rattle.loop_paths.specs.Found.{Found, found_at}
use Rattle.peak_laws.specs.Peak.{peak_of}
use Rattle.placement_texts.specs.Fold.{Step, staged_all}
use Rattle.placement_texts.specs.Spots.{Spot, Here, Behind, Inside, Other, IsLoop, stage_one}
use Rattle.plan_laws.specs.Sites.{Holds, loops_round, further, path_of, lined}
use Rattle.staged_peaks.specs.Bytes.{more_at, step_bytes, bytes_at, most_in, bytes_round, most_within}
use Rattle.staged_peaks.specs.declared.live.Live.{Live}
use Rattle.staged_peaks.specs.Living.{shared, next_way, reach, raised, peak_more, IsWay, IsWayTo, last_of, HoldsOne, Lives, IsSite, text_more, PeakIs, Added, Went}
use Rattle.staged_peaks.proofs.Lists.{going, next_is_going}
use Rattle.staged_peaks.proofs.Order.{Ordered, loops_ordered, loops_are_loops, every_middle, HeldBy, caught, IsNext, follows, holds_further}
use Rattle.staged_peaks.proofs.Theorem.{peaks_are_of_placements, last_more, more_at_a_loop}
use Rattle.staged_peaks.proofs.Ways.{nothing_there, stops, clear_way, common, paths_share, next_block, spot_at, is_loop_at, reach_is, raised_way, chain, chain_is, chain_at, way_length, stops_are}

-- ---- nothing stands where no placement does
more_other : (s : Spot) (b : ℕ) (w : Spot → ℕ) (t : Spot) → (s ≡ t → ⊥) → more_at s b w t ≡ w t
more_other Here b w Here h = absurd (h refl)
more_other Here b w (Behind t) h = refl
more_other Here b w (Inside t) h = refl
more_other Here b w (Other t) h = refl
more_other (Behind s) b w Here h = refl
more_other (Behind s) b w (Behind t) h = more_other s b (λ u. w (Behind u)) t (λ e. h (ap Behind e))
more_other (Behind s) b w (Inside t) h = refl
more_other (Behind s) b w (Other t) h = refl
more_other (Inside s) b w Here h = refl
more_other (Inside s) b w (Behind t) h = refl
more_other (Inside s) b w (Inside t) h = more_other s b (λ u. w (Inside u)) t (λ e. h (ap Inside e))
more_other (Inside s) b w (Other t) h = refl
more_other (Other s) b w Here h = refl
more_other (Other s) b w (Behind t) h = refl
more_other (Other s) b w (Inside t) h = refl
more_other (Other s) b w (Other t) h = more_other s b (λ u. w (Other u)) t (λ e. h (ap Other e))

holds_one : (t s : Spot) (bs : List Spot) → Holds t s → HoldsOne s bs → HoldsOne t bs
holds_one t s [] h k = absurd k
holds_one t s (b ∷ bs) h (inl k) = inl (holds_further t s b h k)
holds_one t s (b ∷ bs) h (inr k) = inr (holds_one t s bs h k)

-- in a loop that holds no block so far but the next one
free : (bs : List Spot) (s : Spot) (rest : List Spot) → Ordered (bs ++ s ∷ rest) → (xs : List Step) → Every (λ x. HoldsOne x.spot bs) xs
    → (t y : Spot) → Holds t s → (HeldBy t (last_of bs) → ⊥) → Holds t y → bytes_at xs y ≡ 0
free bs s rest o [] sites t y h apart k = refl
free bs s rest o (x ∷ xs) sites t y h apart k =
    more_other x.spot (step_bytes x) (bytes_at xs) y (λ same. apart (caught bs s rest o t h (holds_one t x.spot bs (subst (Holds t) (sym same) k) sites.0)))
    ∙ free bs s rest o xs sites.1 t y h apart k

-- ---- the next block
last_push : (bs : List Spot) (s : Spot) → last_of (bs ++ s ∷ []) ≡ Some s
last_push [] s = refl
last_push (b ∷ []) s = refl
last_push (b ∷ c ∷ bs) s = last_push (c ∷ bs) s

-- the lengths of the paths
lengths : (n : Nest) (s : Spot) → IsLoop s n → (found_at n s).round ++ length (path_of s) ∷ [] ≡ stops 1 s n
lengths n s h =
    let size : Spot → ℕ = λ t. length (path_of t) in
    let other : Spot → ℕ = λ t. 1 + length (further t) in
    let same : (t : Spot) → size t ≡ other t = λ t. omega arith in
    sym (map_push size (reverse (loops_round s n)) s) ∙ (ap (map size) (chain_is s n h) ∙ (ap (λ f. map f (chain s n)) (λ i t. same t i) ∙ sym (stops_are 1 s n h)))

next_is : (n : Nest) (w : Spot → ℕ) (o : Option Spot) (s : Spot) (old : Live) → IsLoop s n → IsWayTo n w o old → IsNext o s
    → ((t y : Spot) → Holds t s → (HeldBy t o → ⊥) → Holds t y → w y ≡ 0) → IsWay 1 w s n (going (shared old.at.steps (path_of s)) old.way (stops 1 s n))
next_is n w None s old loop way after free = subst (λ xs. IsWay 1 w s n (going (shared old.at.steps (path_of s)) xs (stops 1 s n))) (sym way) (clear_way 1 w s n loop (λ t y h k. free t y h (λ z. z) k))
next_is n w (Some b) s old loop way after free =
    let e : shared old.at.steps (path_of s) ≡ common b s = ap (λ p. shared p (path_of s)) way.1 ∙ paths_share b s in
    next_block (shared old.at.steps (path_of s)) 1 w b s n old.way (omega (arith, e)) way.0 loop after way.2 free

sites_more : (bs : List Spot) (s : Spot) (t : Spot) → HoldsOne t bs → HoldsOne t (bs ++ s ∷ [])
sites_more [] s t h = absurd h
sites_more (b ∷ bs) s t (inl h) = inl h
sites_more (b ∷ bs) s t (inr h) = inr (sites_more bs s t h)

all_sites_more : (bs : List Spot) (s : Spot) (xs : List Step) → Every (λ x. HoldsOne x.spot bs) xs → Every (λ x. HoldsOne x.spot (bs ++ s ∷ [])) xs
all_sites_more bs s [] h = tt
all_sites_more bs s (x ∷ xs) h = (sites_more bs s x.spot h.0, all_sites_more bs s xs h.1)

pub went : (old : Live) (next : LoopPath) (new : Live) → new.way ≡ next_way (shared old.at.steps next.at.steps) old.way (next.round.items ++ length next.at.steps ∷ []) → new.at.steps ≡ next.at.steps → new.most ≡ old.most
    → Went old next new
went old next new way at most n depth bs s rest xs all found lives =
    let w = bytes_at xs in
    let o = subst Ordered all (loops_ordered depth n) in
    let loop = every_middle (λ t. IsLoop t n) bs s rest (subst (Every (λ t. IsLoop t n)) all (loops_are_loops depth n)) in
    let steps : next.at.steps ≡ path_of s = ap (λ (f : Found). f.steps) found in
    let ks : next.round.items ++ length next.at.steps ∷ [] ≡ stops 1 s n = (λ i. (found i).round ++ length (steps i) ∷ []) ∙ lengths n s loop in
    let there : new.way ≡ going (shared old.at.steps (path_of s)) old.way (stops 1 s n) =
    way ∙ (next_is_going (shared old.at.steps next.at.steps) old.way (next.round.items ++ length next.at.steps ∷ []) ∙ (λ i. going (shared old.at.steps (steps i)) old.way (ks i))) in
    let step = next_is n w (last_of bs) s old loop lives.way (follows bs s rest o) (free bs s rest o xs lives.sites) in
    record {
      most = most ∙ lives.most;
      way = subst (λ p. IsWayTo n w p new) (sym (last_push bs s)) (loop, at ∙ steps, subst (IsWay 1 w s n) (sym there) step);
      sites = all_sites_more bs s xs lives.sites;
    }

-- ---- one placement more
module _ (n : Nest) (bs : List Spot) (s : Spot) (xs : List Step) (live : Live) (lives : Lives n (bs ++ s ∷ []) xs live) where
  way_there : IsWayTo n (bytes_at xs) (Some s) live
  way_there = subst (λ p. IsWayTo n (bytes_at xs) p live) (last_push bs s) lives.way

  module _ (place bytes : ℕ) (x : Step) (site : IsSite n s place bytes x) where
    pub in_way : place < length live.way
    in_way = let e = way_length 1 (bytes_at xs) s n live.way way_there.2 in let f = ap (λ (ts : List Spot). length ts) (chain_is s n way_there.0) in let h = site.within in omega (arith, e, f, h)

    its_spot : x.spot ≡ spot_at place s n
    its_spot =
        let e = chain_is s n way_there.0 in
        let f = ap (λ (ts : List Spot). length ts) e in let h = site.within in
        site.spot ∙ (ap (λ ts. get_or ts place s) e ∙ chain_at place s n s way_there.0 (omega (arith, f, h)))

    its_loop : IsLoop x.spot n
    its_loop = subst (λ t. IsLoop t n) (sym its_spot) (is_loop_at place s n way_there.0).0

    its_reach : reach place bytes live.way ≡ bytes_round (bytes_at xs) x.spot n + step_bytes x + most_within (bytes_at xs) x.spot n
    its_reach =
        let e = reach_is 1 (bytes_at xs) place bytes s n live.way way_there.0 way_there.2 in_way in
        let f : bytes_round (bytes_at xs) (spot_at place s n) n + bytes + most_within (bytes_at xs) (spot_at place s n) n ≡ bytes_round (bytes_at xs) x.spot n + step_bytes x + most_within (bytes_at xs) x.spot n =
        λ i. bytes_round (bytes_at xs) (sym its_spot i) n + sym site.taken i + most_within (bytes_at xs) (sym its_spot i) n in
        e ∙ f

    -- the bytes with it
    with_it : bytes_at (xs ++ x ∷ []) ≡ more_at (spot_at place s n) bytes (bytes_at xs)
    with_it = (λ i u. last_more xs x u i) ∙ (λ i. more_at (its_spot i) (site.taken i) (bytes_at xs))

    most_with_it : most_in (bytes_at (xs ++ x ∷ [])) n ≡ peak_more live place bytes
    most_with_it =
        let e = ap (λ w. most_in w n) (λ i u. last_more xs x u i) in
        let f = more_at_a_loop (bytes_at xs) x.spot (step_bytes x) n its_loop in
        let g = its_reach in let h = lives.most in
        omega (arith, e, f, g, h)

holds_last : (bs : List Spot) (s t : Spot) → Holds t s → HoldsOne t (bs ++ s ∷ [])
holds_last [] s t h = inl h
holds_last (b ∷ bs) s t h = inr (holds_last bs s t h)

pub added : (old : Live) (place bytes : ℕ) (new : Live) → new.way ≡ raised place bytes old.way → new.at.steps ≡ old.at.steps → new.most ≡ peak_more old place bytes → Added old place bytes new
added old place bytes new way at most n bs s xs x lives site =
    let there = way_there n bs s xs old lives in
    let step = raised_way 1 (bytes_at xs) place bytes s n old.way there.0 there.2 (in_way n bs s xs old lives place bytes x site) in
    let w = with_it n bs s xs old lives place bytes x site in
    record {
      most = most ∙ sym (most_with_it n bs s xs old lives place bytes x site);
      way = subst (λ p. IsWayTo n (bytes_at (xs ++ x ∷ [])) p new) (sym (last_push bs s))
          (there.0, at ∙ there.1, subst (λ v. IsWay 1 v s n new.way) (sym w) (subst (IsWay 1 (more_at (spot_at place s n) bytes (bytes_at xs)) s n) (sym way) step));
      sites = every_more xs x lives.sites (holds_last bs s x.spot (subst (λ t. Holds t s) (sym (its_spot n bs s xs old lives place bytes x site)) (is_loop_at place s n there.0).1));
    }
  where
    every_more : (ys : List Step) (y : Step) → Every (λ x. HoldsOne x.spot (bs ++ s ∷ [])) ys → HoldsOne y.spot (bs ++ s ∷ []) → Every (λ x. HoldsOne x.spot (bs ++ s ∷ [])) (ys ++ y ∷ [])
    every_more [] y h k = (k, tt)
    every_more (z ∷ ys) y h k = (h.0, every_more ys y h.1 k)

staged_push : (xs : List Step) (x : Step) (n : Nest) → staged_all (xs ++ x ∷ []) n ≡ stage_one x.placement x.spot (staged_all xs n)
staged_push [] x n = refl
staged_push (y ∷ xs) x n = staged_push xs x (stage_one y.placement y.spot n)

pub peak_there : (live : Live) (place bytes : ℕ) (peak : Option ℕ) → SomeIff peak (peak_more live place bytes < 2 ^ 64) (peak_more live place bytes) → PeakIs live place bytes peak
peak_there live place bytes peak h m plain bs s xs x lives site =
    let n = nest m.body in
    let text : peak_of (text_more m xs x) 0 ≡ peak_of (staged_all (xs ++ x ∷ []) (lined n)) 0 = ap (λ t. peak_of t 0) (sym (staged_push xs x (lined n))) in
    let same = text ∙ (peaks_are_of_placements m plain (xs ++ x ∷ []) ∙ most_with_it n bs s xs live lives place bytes x site) in
    subst (λ k. SomeIff peak (k < 2 ^ 64) k) (sym same) h

pub fresh_live : (n : Nest) (live : Live) → live.way ≡ [] → live.most ≡ 0 → Lives n [] [] live
fresh_live n live way most = record { most = most ∙ sym (nothing_there (λ s. 0) n (λ s. refl)); way = way; sites = tt }
