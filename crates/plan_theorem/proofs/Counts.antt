-- Two loops that have no accesses of a memref but those of blocks apart are apart themselves.
use Rattle.std.proofs.Common.{◌≡◌, ℕ, suc, ◌+◌, ◌≤◌, List, [], ◌∷◌, ◌++◌, refl, sym, subst, arith, Bool, true, false}
use Rattle.std.specs.Prelude.{◌||◌, Option, Some, None, if◌then◌else◌}
use Rattle.affine_ast.specs.declared.name.Name.{Name}
use Rattle.affine_ast.specs.Names.{same_name}
use Rattle.affine_ast.proofs.Names.{same_name-refl}
use Rattle.affine_ast.specs.Nest.{Plain, Nest, Nothing, Loop, Branch, Does}
use Rattle.boxes.specs.Every.{Every}
use Rattle.nest_domain.specs.Ways.{has_name}
use Rattle.placement_regions.specs.Sites.{from_spot, alone}
use Rattle.placement_texts.specs.Spots.{Spot, Here, Behind, Inside, Other, IsLoop, Disjoint}
use Rattle.plan_laws.specs.Sites.{Holds}
use Rattle.plan_laws.specs.Plan.{accessed, with_access, accesses, firsts, times}
use Rattle.plan_theorem.proofs.Lists.{Pairwise, every_weaker}

module _ (m : Name) where
  times_append : (xs ys : List Name) → times m (xs ++ ys) ≡ times m xs + times m ys
  times_append [] ys = omega arith
  times_append (x ∷ xs) ys = by (same_name m x) (times_append xs ys)
    where
      by : (t : Bool) → times m (xs ++ ys) ≡ times m xs + times m ys → (if t then suc (times m (xs ++ ys)) else times m (xs ++ ys)) ≡ (if t then suc (times m xs) else times m xs) + times m ys
      by true e = omega (arith, e)
      by false e = e

  times_nothing : (xs : List Name) → times m (xs ++ []) ≡ times m xs
  times_nothing xs = let e = times_append xs [] in omega (arith, e)

  -- the accesses in a text, and in the loop at a place of it
  abbrev All : Nest → ℕ
  All n = times m (accesses n)

  abbrev At : Spot → Nest → ℕ
  At s n = times m (accesses (alone (from_spot s n)))

  all_loop : (a b : Nest) → times m (accesses a ++ accesses b) ≡ All a + All b
  all_loop a b = times_append (accesses a) (accesses b)

  all_branch : (a b c : Nest) → times m (accesses a ++ (accesses b ++ accesses c)) ≡ All a + (All b + All c)
  all_branch a b c = let e = times_append (accesses a) (accesses b ++ accesses c) in let f = times_append (accesses b) (accesses c) in omega (arith, e, f)

  all_does : (q : Plain) (rest : Nest) → All rest ≤ times m (with_access (accessed q) (accesses rest))
  all_does q rest = by (accessed q)
    where
      more : (x : Name) (t : Bool) → same_name m x ≡ t → times m (accesses rest) ≤ (if t then suc (times m (accesses rest)) else times m (accesses rest))
      more x true e = omega arith
      more x false e = omega arith

      by : (a : Option Name) → times m (accesses rest) ≤ times m (with_access a (accesses rest))
      by None = omega arith
      by (Some x) = more x (same_name m x) refl

  none_there : (s : Spot) → At s Nothing ≡ 0
  none_there Here = refl
  none_there (Behind s) = refl
  none_there (Inside s) = refl
  none_there (Other s) = refl

  one_fits : (s : Spot) (n : Nest) → IsLoop s n → At s n ≤ All n
  one_fits s Nothing h = absurd h
  one_fits Here (Loop line v l u step body rest) h = let e = times_nothing (accesses body) in let f = all_loop body rest in omega (arith, e, f)
  one_fits (Behind s) (Loop line v l u step body rest) h = let e = one_fits s rest h in let f = all_loop body rest in omega (arith, e, f)
  one_fits (Inside s) (Loop line v l u step body rest) h = let e = one_fits s body h in let f = all_loop body rest in omega (arith, e, f)
  one_fits (Other s) (Loop line v l u step body rest) h = absurd h
  one_fits Here (Branch line set names first has other rest) h = absurd h
  one_fits (Behind s) (Branch line set names first has other rest) h = let e = one_fits s rest h in let f = all_branch first other rest in omega (arith, e, f)
  one_fits (Inside s) (Branch line set names first has other rest) h = let e = one_fits s first h in let f = all_branch first other rest in omega (arith, e, f)
  one_fits (Other s) (Branch line set names first has other rest) h = let e = one_fits s other h in let f = all_branch first other rest in omega (arith, e, f)
  one_fits Here (Does line q rest) h = absurd h
  one_fits (Behind s) (Does line q rest) h = let e = one_fits s rest h in let f = all_does q rest in omega (arith, e, f)
  one_fits (Inside s) (Does line q rest) h = absurd h
  one_fits (Other s) (Does line q rest) h = absurd h

  -- two loops apart
  two_fit : (s t : Spot) (n : Nest) → IsLoop s n → IsLoop t n → Disjoint s t → At s n + At t n ≤ All n
  two_fit s t Nothing h k d = absurd h
  two_fit Here Here (Loop line v l u step body rest) h k d = absurd d
  two_fit Here (Behind t) (Loop line v l u step body rest) h k d = let a = times_nothing (accesses body) in let b = one_fits t rest k in let f = all_loop body rest in omega (arith, a, b, f)
  two_fit Here (Inside t) (Loop line v l u step body rest) h k d = absurd d
  two_fit (Behind s) Here (Loop line v l u step body rest) h k d = let a = times_nothing (accesses body) in let b = one_fits s rest h in let f = all_loop body rest in omega (arith, a, b, f)
  two_fit (Behind s) (Behind t) (Loop line v l u step body rest) h k d = let a = two_fit s t rest h k d in let f = all_loop body rest in omega (arith, a, f)
  two_fit (Behind s) (Inside t) (Loop line v l u step body rest) h k d = let a = one_fits s rest h in let b = one_fits t body k in let f = all_loop body rest in omega (arith, a, b, f)
  two_fit (Inside s) Here (Loop line v l u step body rest) h k d = absurd d
  two_fit (Inside s) (Behind t) (Loop line v l u step body rest) h k d = let a = one_fits s body h in let b = one_fits t rest k in let f = all_loop body rest in omega (arith, a, b, f)
  two_fit (Inside s) (Inside t) (Loop line v l u step body rest) h k d = let a = two_fit s t body h k d in let f = all_loop body rest in omega (arith, a, f)
  two_fit (Other s) t (Loop line v l u step body rest) h k d = absurd h
  two_fit s (Other t) (Loop line v l u step body rest) h k d = absurd k
  two_fit Here t (Branch line set names first has other rest) h k d = absurd h
  two_fit s Here (Branch line set names first has other rest) h k d = absurd k
  two_fit (Behind s) (Behind t) (Branch line set names first has other rest) h k d = let a = two_fit s t rest h k d in let f = all_branch first other rest in omega (arith, a, f)
  two_fit (Behind s) (Inside t) (Branch line set names first has other rest) h k d = let a = one_fits s rest h in let b = one_fits t first k in let f = all_branch first other rest in omega (arith, a, b, f)
  two_fit (Behind s) (Other t) (Branch line set names first has other rest) h k d = let a = one_fits s rest h in let b = one_fits t other k in let f = all_branch first other rest in omega (arith, a, b, f)
  two_fit (Inside s) (Behind t) (Branch line set names first has other rest) h k d = let a = one_fits s first h in let b = one_fits t rest k in let f = all_branch first other rest in omega (arith, a, b, f)
  two_fit (Inside s) (Inside t) (Branch line set names first has other rest) h k d = let a = two_fit s t first h k d in let f = all_branch first other rest in omega (arith, a, f)
  two_fit (Inside s) (Other t) (Branch line set names first has other rest) h k d = let a = one_fits s first h in let b = one_fits t other k in let f = all_branch first other rest in omega (arith, a, b, f)
  two_fit (Other s) (Behind t) (Branch line set names first has other rest) h k d = let a = one_fits s other h in let b = one_fits t rest k in let f = all_branch first other rest in omega (arith, a, b, f)
  two_fit (Other s) (Inside t) (Branch line set names first has other rest) h k d = let a = one_fits s other h in let b = one_fits t first k in let f = all_branch first other rest in omega (arith, a, b, f)
  two_fit (Other s) (Other t) (Branch line set names first has other rest) h k d = let a = two_fit s t other h k d in let f = all_branch first other rest in omega (arith, a, f)
  two_fit Here t (Does line q rest) h k d = absurd h
  two_fit (Behind s) Here (Does line q rest) h k d = absurd k
  two_fit (Behind s) (Behind t) (Does line q rest) h k d = let a = two_fit s t rest h k d in let f = all_does q rest in omega (arith, a, f)
  two_fit (Behind s) (Inside t) (Does line q rest) h k d = absurd k
  two_fit (Behind s) (Other t) (Does line q rest) h k d = absurd k
  two_fit (Inside s) t (Does line q rest) h k d = absurd h
  two_fit (Other s) t (Does line q rest) h k d = absurd h

  -- a loop, a block in it, with as many accesses
  pub record Wraps (t b : Spot) (n : Nest) : Type 0 where
    pub loop : IsLoop t n
    pub block : IsLoop b n
    pub holds : Holds t b
    pub accesses : At t n ≡ At b n
    pub some : 1 ≤ At b n

  -- the second of two such loops, of blocks apart, is apart from the first
  pub wraps_apart : (t b t' b' : Spot) (n : Nest) → Disjoint b b' → Wraps t b n → Wraps t' b' n → Disjoint t' t
  wraps_apart t b t' b' Nothing d w w' = absurd w.loop
  wraps_apart (Other t) b t' b' (Loop line v l u step body rest) d w w' = absurd w.loop
  wraps_apart Here b (Other t') b' (Loop line v l u step body rest) d w w' = absurd w'.loop
  wraps_apart (Inside t) b (Other t') b' (Loop line v l u step body rest) d w w' = absurd w'.loop
  wraps_apart (Behind t) b (Other t') b' (Loop line v l u step body rest) d w w' = absurd w'.loop
  wraps_apart Here (Behind b) t' b' (Loop line v l u step body rest) d w w' = absurd w.holds
  wraps_apart Here (Other b) t' b' (Loop line v l u step body rest) d w w' = absurd w.holds
  wraps_apart Here Here Here (Behind b') (Loop line v l u step body rest) d w w' = absurd w'.holds
  wraps_apart Here Here Here (Other b') (Loop line v l u step body rest) d w w' = absurd w'.holds
  wraps_apart Here (Inside b) Here (Behind b') (Loop line v l u step body rest) d w w' = absurd w'.holds
  wraps_apart Here (Inside b) Here (Other b') (Loop line v l u step body rest) d w w' = absurd w'.holds
  wraps_apart Here Here Here Here (Loop line v l u step body rest) d w w' = absurd d
  wraps_apart Here Here Here (Inside b') (Loop line v l u step body rest) d w w' = absurd d
  wraps_apart Here (Inside b) Here Here (Loop line v l u step body rest) d w w' = absurd d
  wraps_apart Here (Inside b) Here (Inside b') (Loop line v l u step body rest) d w w' = (let f = two_fit b b' body w.block w'.block d in let e = times_nothing (accesses body) in let c = w.accesses in let c' = w'.accesses in let s = w.some in let s' = w'.some in absurd (omega (arith, f, e, c, c', s, s')))
  wraps_apart Here Here (Inside t') Here (Loop line v l u step body rest) d w w' = absurd w'.holds
  wraps_apart Here Here (Inside t') (Behind b') (Loop line v l u step body rest) d w w' = absurd w'.holds
  wraps_apart Here Here (Inside t') (Other b') (Loop line v l u step body rest) d w w' = absurd w'.holds
  wraps_apart Here (Inside b) (Inside t') Here (Loop line v l u step body rest) d w w' = absurd w'.holds
  wraps_apart Here (Inside b) (Inside t') (Behind b') (Loop line v l u step body rest) d w w' = absurd w'.holds
  wraps_apart Here (Inside b) (Inside t') (Other b') (Loop line v l u step body rest) d w w' = absurd w'.holds
  wraps_apart Here Here (Inside t') (Inside b') (Loop line v l u step body rest) d w w' = absurd d
  wraps_apart Here (Inside b) (Inside t') (Inside b') (Loop line v l u step body rest) d w w' = (let f = two_fit b b' body w.block w'.block d in let e = times_nothing (accesses body) in let c = w.accesses in let s' = w'.some in absurd (omega (arith, f, e, c, s')))
  wraps_apart Here Here (Behind t') b' (Loop line v l u step body rest) d w w' = tt
  wraps_apart Here (Inside b) (Behind t') b' (Loop line v l u step body rest) d w w' = tt
  wraps_apart (Inside t) Here t' b' (Loop line v l u step body rest) d w w' = absurd w.holds
  wraps_apart (Inside t) (Behind b) t' b' (Loop line v l u step body rest) d w w' = absurd w.holds
  wraps_apart (Inside t) (Other b) t' b' (Loop line v l u step body rest) d w w' = absurd w.holds
  wraps_apart (Inside t) (Inside b) Here Here (Loop line v l u step body rest) d w w' = absurd d
  wraps_apart (Inside t) (Inside b) Here (Behind b') (Loop line v l u step body rest) d w w' = absurd w'.holds
  wraps_apart (Inside t) (Inside b) Here (Other b') (Loop line v l u step body rest) d w w' = absurd w'.holds
  wraps_apart (Inside t) (Inside b) Here (Inside b') (Loop line v l u step body rest) d w w' = (let f = two_fit b b' body w.block w'.block d in let e = times_nothing (accesses body) in let c = w'.accesses in let s = w.some in absurd (omega (arith, f, e, c, s)))
  wraps_apart (Inside t) (Inside b) (Inside t') Here (Loop line v l u step body rest) d w w' = absurd w'.holds
  wraps_apart (Inside t) (Inside b) (Inside t') (Behind b') (Loop line v l u step body rest) d w w' = absurd w'.holds
  wraps_apart (Inside t) (Inside b) (Inside t') (Other b') (Loop line v l u step body rest) d w w' = absurd w'.holds
  wraps_apart (Inside t) (Inside b) (Inside t') (Inside b') (Loop line v l u step body rest) d w w' = wraps_apart t b t' b' body d (record { loop = w.loop; block = w.block; holds = w.holds; accesses = w.accesses; some = w.some }) (record { loop = w'.loop; block = w'.block; holds = w'.holds; accesses = w'.accesses; some = w'.some })
  wraps_apart (Inside t) (Inside b) (Behind t') b' (Loop line v l u step body rest) d w w' = tt
  wraps_apart (Behind t) b Here b' (Loop line v l u step body rest) d w w' = tt
  wraps_apart (Behind t) b (Inside t') b' (Loop line v l u step body rest) d w w' = tt
  wraps_apart (Behind t) Here (Behind t') b' (Loop line v l u step body rest) d w w' = absurd w.holds
  wraps_apart (Behind t) (Inside b) (Behind t') b' (Loop line v l u step body rest) d w w' = absurd w.holds
  wraps_apart (Behind t) (Other b) (Behind t') b' (Loop line v l u step body rest) d w w' = absurd w.holds
  wraps_apart (Behind t) (Behind b) (Behind t') Here (Loop line v l u step body rest) d w w' = absurd w'.holds
  wraps_apart (Behind t) (Behind b) (Behind t') (Inside b') (Loop line v l u step body rest) d w w' = absurd w'.holds
  wraps_apart (Behind t) (Behind b) (Behind t') (Other b') (Loop line v l u step body rest) d w w' = absurd w'.holds
  wraps_apart (Behind t) (Behind b) (Behind t') (Behind b') (Loop line v l u step body rest) d w w' = wraps_apart t b t' b' rest d (record { loop = w.loop; block = w.block; holds = w.holds; accesses = w.accesses; some = w.some }) (record { loop = w'.loop; block = w'.block; holds = w'.holds; accesses = w'.accesses; some = w'.some })
  wraps_apart Here b t' b' (Branch line set names first has other rest) d w w' = absurd w.loop
  wraps_apart (Behind t) b Here b' (Branch line set names first has other rest) d w w' = absurd w'.loop
  wraps_apart (Inside t) b Here b' (Branch line set names first has other rest) d w w' = absurd w'.loop
  wraps_apart (Other t) b Here b' (Branch line set names first has other rest) d w w' = absurd w'.loop
  wraps_apart (Behind t) b (Inside t') b' (Branch line set names first has other rest) d w w' = tt
  wraps_apart (Behind t) b (Other t') b' (Branch line set names first has other rest) d w w' = tt
  wraps_apart (Behind t) Here (Behind t') b' (Branch line set names first has other rest) d w w' = absurd w.holds
  wraps_apart (Behind t) (Inside b) (Behind t') b' (Branch line set names first has other rest) d w w' = absurd w.holds
  wraps_apart (Behind t) (Other b) (Behind t') b' (Branch line set names first has other rest) d w w' = absurd w.holds
  wraps_apart (Behind t) (Behind b) (Behind t') Here (Branch line set names first has other rest) d w w' = absurd w'.holds
  wraps_apart (Behind t) (Behind b) (Behind t') (Inside b') (Branch line set names first has other rest) d w w' = absurd w'.holds
  wraps_apart (Behind t) (Behind b) (Behind t') (Other b') (Branch line set names first has other rest) d w w' = absurd w'.holds
  wraps_apart (Behind t) (Behind b) (Behind t') (Behind b') (Branch line set names first has other rest) d w w' = wraps_apart t b t' b' rest d (record { loop = w.loop; block = w.block; holds = w.holds; accesses = w.accesses; some = w.some }) (record { loop = w'.loop; block = w'.block; holds = w'.holds; accesses = w'.accesses; some = w'.some })
  wraps_apart (Inside t) b (Behind t') b' (Branch line set names first has other rest) d w w' = tt
  wraps_apart (Inside t) b (Other t') b' (Branch line set names first has other rest) d w w' = tt
  wraps_apart (Inside t) Here (Inside t') b' (Branch line set names first has other rest) d w w' = absurd w.holds
  wraps_apart (Inside t) (Behind b) (Inside t') b' (Branch line set names first has other rest) d w w' = absurd w.holds
  wraps_apart (Inside t) (Other b) (Inside t') b' (Branch line set names first has other rest) d w w' = absurd w.holds
  wraps_apart (Inside t) (Inside b) (Inside t') Here (Branch line set names first has other rest) d w w' = absurd w'.holds
  wraps_apart (Inside t) (Inside b) (Inside t') (Behind b') (Branch line set names first has other rest) d w w' = absurd w'.holds
  wraps_apart (Inside t) (Inside b) (Inside t') (Other b') (Branch line set names first has other rest) d w w' = absurd w'.holds
  wraps_apart (Inside t) (Inside b) (Inside t') (Inside b') (Branch line set names first has other rest) d w w' = wraps_apart t b t' b' first d (record { loop = w.loop; block = w.block; holds = w.holds; accesses = w.accesses; some = w.some }) (record { loop = w'.loop; block = w'.block; holds = w'.holds; accesses = w'.accesses; some = w'.some })
  wraps_apart (Other t) b (Behind t') b' (Branch line set names first has other rest) d w w' = tt
  wraps_apart (Other t) b (Inside t') b' (Branch line set names first has other rest) d w w' = tt
  wraps_apart (Other t) Here (Other t') b' (Branch line set names first has other rest) d w w' = absurd w.holds
  wraps_apart (Other t) (Behind b) (Other t') b' (Branch line set names first has other rest) d w w' = absurd w.holds
  wraps_apart (Other t) (Inside b) (Other t') b' (Branch line set names first has other rest) d w w' = absurd w.holds
  wraps_apart (Other t) (Other b) (Other t') Here (Branch line set names first has other rest) d w w' = absurd w'.holds
  wraps_apart (Other t) (Other b) (Other t') (Behind b') (Branch line set names first has other rest) d w w' = absurd w'.holds
  wraps_apart (Other t) (Other b) (Other t') (Inside b') (Branch line set names first has other rest) d w w' = absurd w'.holds
  wraps_apart (Other t) (Other b) (Other t') (Other b') (Branch line set names first has other rest) d w w' = wraps_apart t b t' b' other d (record { loop = w.loop; block = w.block; holds = w.holds; accesses = w.accesses; some = w.some }) (record { loop = w'.loop; block = w'.block; holds = w'.holds; accesses = w'.accesses; some = w'.some })
  wraps_apart Here b t' b' (Does line q rest) d w w' = absurd w.loop
  wraps_apart (Inside t) b t' b' (Does line q rest) d w w' = absurd w.loop
  wraps_apart (Other t) b t' b' (Does line q rest) d w w' = absurd w.loop
  wraps_apart (Behind t) b Here b' (Does line q rest) d w w' = absurd w'.loop
  wraps_apart (Behind t) b (Inside t') b' (Does line q rest) d w w' = absurd w'.loop
  wraps_apart (Behind t) b (Other t') b' (Does line q rest) d w w' = absurd w'.loop
  wraps_apart (Behind t) Here (Behind t') b' (Does line q rest) d w w' = absurd w.holds
  wraps_apart (Behind t) (Inside b) (Behind t') b' (Does line q rest) d w w' = absurd w.holds
  wraps_apart (Behind t) (Other b) (Behind t') b' (Does line q rest) d w w' = absurd w.holds
  wraps_apart (Behind t) (Behind b) (Behind t') Here (Does line q rest) d w w' = absurd w'.holds
  wraps_apart (Behind t) (Behind b) (Behind t') (Inside b') (Does line q rest) d w w' = absurd w'.holds
  wraps_apart (Behind t) (Behind b) (Behind t') (Other b') (Does line q rest) d w w' = absurd w'.holds
  wraps_apart (Behind t) (Behind b) (Behind t') (Behind b') (Does line q rest) d w w' = wraps_apart t b t' b' rest d (record { loop = w.loop; block = w.block; holds = w.holds; accesses = w.accesses; some = w.some }) (record { loop = w'.loop; block = w'.block; holds = w'.holds; accesses = w'.accesses; some = w'.some })

-- ---- the memrefs of a block by first access
count_more : (m x : Name) (xs : List Name) → 1 ≤ times m xs → 1 ≤ times m (x ∷ xs)
count_more m x xs h = by (same_name m x)
  where
    by : (t : Bool) → 1 ≤ (if t then suc (times m xs) else times m xs)
    by true = omega arith
    by false = h

count_here : (m : Name) (xs : List Name) → 1 ≤ times m (m ∷ xs)
count_here m xs = subst (λ t. 1 ≤ (if t then suc (times m xs) else times m xs)) (sym (same_name-refl m)) (omega arith)

-- each is accessed
pub firsts_accessed : (seen xs : List Name) → Every (λ m. 1 ≤ times m xs) (firsts seen xs)
firsts_accessed seen [] = tt
firsts_accessed seen (x ∷ xs) =
    by (has_name x seen) (every_weaker (λ m. 1 ≤ times m xs) (λ m. 1 ≤ times m (x ∷ xs)) (λ m h. count_more m x xs h) (firsts seen xs) (firsts_accessed seen xs))
    (every_weaker (λ m. 1 ≤ times m xs) (λ m. 1 ≤ times m (x ∷ xs)) (λ m h. count_more m x xs h) (firsts (x ∷ seen) xs) (firsts_accessed (x ∷ seen) xs))
  where
    by : (t : Bool) → Every (λ m. 1 ≤ times m (x ∷ xs)) (firsts seen xs) → Every (λ m. 1 ≤ times m (x ∷ xs)) (firsts (x ∷ seen) xs)
        → Every (λ m. 1 ≤ times m (x ∷ xs)) (if t then firsts seen xs else x ∷ firsts (x ∷ seen) xs)
    by true h k = h
    by false h k = (count_here x xs, k)

-- and none twice
abbrev pub Differ : Name → Name → Type 0
Differ a b = same_name b a ≡ false

or_false : (a b : Bool) → (a || b) ≡ false → (a ≡ false) × (b ≡ false)
or_false true b h = absurd (let z : ⊥ = cc in z)
or_false false b h = (refl, h)

firsts_unseen : (seen xs : List Name) → Every (λ m. has_name m seen ≡ false) (firsts seen xs)
firsts_unseen seen [] = tt
firsts_unseen seen (x ∷ xs) =
    by (has_name x seen) refl (firsts_unseen seen xs)
    (every_weaker (λ m. has_name m (x ∷ seen) ≡ false) (λ m. has_name m seen ≡ false) (λ m h. (or_false (same_name m x) (has_name m seen) h).1) (firsts (x ∷ seen) xs) (firsts_unseen (x ∷ seen) xs))
  where
    by : (t : Bool) → has_name x seen ≡ t → Every (λ m. has_name m seen ≡ false) (firsts seen xs) → Every (λ m. has_name m seen ≡ false) (firsts (x ∷ seen) xs)
        → Every (λ m. has_name m seen ≡ false) (if t then firsts seen xs else x ∷ firsts (x ∷ seen) xs)
    by true e h k = h
    by false e h k = (e, k)

pub firsts_differ : (seen xs : List Name) → Pairwise Differ (firsts seen xs)
firsts_differ seen [] = tt
firsts_differ seen (x ∷ xs) =
    by (has_name x seen) (firsts_differ seen xs)
    (every_weaker (λ m. has_name m (x ∷ seen) ≡ false) (Differ x) (λ m h. (or_false (same_name m x) (has_name m seen) h).0) (firsts (x ∷ seen) xs) (firsts_unseen (x ∷ seen) xs), firsts_differ (x ∷ seen) xs)
  where
    by : (t : Bool) → Pairwise Differ (firsts seen xs) → Pairwise Differ (x ∷ firsts (x ∷ seen) xs) → Pairwise Differ (if t then firsts seen xs else x ∷ firsts (x ∷ seen) xs)
    by true h k = h
    by false h k = k
