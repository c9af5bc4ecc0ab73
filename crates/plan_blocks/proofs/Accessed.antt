-- The memrefs of statements, by their first accesses.
use Rattle.std.proofs.Common.{◌≡◌, Bool, true, false, List, [], ◌∷◌, ◌++◌, map, refl, sym, ap, ◌∙◌, append_assoc, append-nil}
use Rattle.std.specs.Prelude.{◌||◌, if◌then◌else◌}
use Rattle.affine_ast.specs.declared.name.Name.{Name}
use Rattle.affine_ast.specs.Names.{same_name}
use Rattle.affine_ast.specs.Nest.{Plain, Nest, Nothing, Loop, Branch, Does, Value, Load, Store, RawLoad, RawStore, Constant, Binary, Cast, Alloc, Dealloc, Start, Wait, Return, nest}
use Rattle.nest_domain.specs.Ways.{has_name}
use Rattle.placement_texts.specs.Spots.{Spot, Here, Behind, Inside, Other}
use Rattle.placement_texts.specs.OneTag.{InText}
use Rattle.placement_regions.specs.Sites.{from_spot, alone}
use Rattle.plain_inputs.proofs.Inputs.{Stands, input_stands}
use Rattle.text_places.specs.Blocks.{Block, blocks, memrefs_of, with_name, with_names, accessed}
use Rattle.plan_laws.specs.Sites.{loops_at}
use Rattle.plan_laws.specs.Plan as plan
use Rattle.plan_laws.specs.Plan.{with_access, accesses, firsts}
use Rattle.plan_blocks.specs.Law.{Standing, of_block, of_place, MemrefsAreFirsts}
use Rattle.plan_blocks.proofs.Blocked.{twice, loops}

-- ---- names, each once
AreAlike : List Name → List Name → Type 0
AreAlike xs ys = (n : Name) → has_name n xs ≡ has_name n ys

-- only which names were seen counts
alike : (xs ys : List Name) → AreAlike xs ys → (ms : List Name) → firsts xs ms ≡ firsts ys ms
unfolding AreAlike
alike xs ys h [] = refl
alike xs ys h (m ∷ ms) =
    let longer : AreAlike (m ∷ xs) (m ∷ ys) = λ n i. same_name n m || h n i in
    λ i. if h m i then alike xs ys h ms i else m ∷ alike (m ∷ xs) (m ∷ ys) longer ms i

last_or_first : (xs : List Name) (m : Name) → AreAlike (xs ++ m ∷ []) (m ∷ xs)
unfolding AreAlike
last_or_first [] m n = refl
last_or_first (x ∷ xs) m n = ap (λ b. same_name n x || b) (last_or_first xs m n) ∙ swapped (same_name n x) (same_name n m) (has_name n xs)
  where
    swapped : (a b c : Bool) → (a || (b || c)) ≡ (b || (a || c))
    swapped true true c = refl
    swapped true false c = refl
    swapped false true c = refl
    swapped false false c = refl

added : (kept ms : List Name) → with_names kept ms ≡ kept ++ firsts kept ms
added kept [] = sym (append-nil kept)
added kept (m ∷ ms) = by (has_name m kept) (added kept ms) (added (kept ++ m ∷ []) ms)
  where
    by : (b : Bool) → with_names kept ms ≡ kept ++ firsts kept ms → with_names (kept ++ m ∷ []) ms ≡ (kept ++ m ∷ []) ++ firsts (kept ++ m ∷ []) ms
        → with_names (if b then kept else kept ++ m ∷ []) ms ≡ kept ++ (if b then firsts kept ms else m ∷ firsts (m ∷ kept) ms)
    by true there new = there
    by false there new =
        new
        ∙ append_assoc kept (m ∷ []) (firsts (kept ++ m ∷ []) ms)
        ∙ ap (λ l. kept ++ m ∷ l) (alike (kept ++ m ∷ []) (m ∷ kept) (last_or_first kept m) ms)

added_both : (kept xs ys : List Name) → with_names (with_names kept xs) ys ≡ with_names kept (xs ++ ys)
added_both kept [] ys = refl
added_both kept (x ∷ xs) ys = added_both (with_name kept x) xs ys

-- ---- statements
plain : (q : Plain) → Stands q → (kept more : List Name) → with_names (with_names kept (memrefs_of q)) more ≡ with_names kept (with_access (plan.accessed q) more)
plain (Value r pick at) h kept more = refl
plain (Load r m at ty) h kept more = refl
plain (Store x m at ty) h kept more = refl
plain (RawLoad r m at ty) h kept more = refl
plain (RawStore x m at ty) h kept more = refl
plain (Constant r z ty) h kept more = refl
plain (Binary r op x y ty) h kept more = refl
plain (Cast r kind x from to) h kept more = refl
plain (Alloc r ty) h kept more = absurd (let z : ⊥ = cc in z)
plain (Dealloc m ty) h kept more = absurd (let z : ⊥ = cc in z)
plain (Start a a_at b b_at t t_at n stride types) h kept more = absurd (let z : ⊥ = cc in z)
plain (Wait t at n ty) h kept more = absurd (let z : ⊥ = cc in z)
plain Return h kept more = refl

all : (n : Nest) → InText Stands n → (kept : List Name) → accessed n kept ≡ with_names kept (accesses n)
unfolding accessed
all Nothing h kept = refl
all (Loop line v l u step body rest) h kept =
    all rest h.1 (accessed body kept) ∙ ap (λ k. with_names k (accesses rest)) (all body h.0 kept) ∙ added_both kept (accesses body) (accesses rest)
all (Branch line set names first has other rest) h kept =
    all rest h.2 (accessed other (accessed first kept))
    ∙ ap (λ k. with_names k (accesses rest)) (all other h.1 (accessed first kept) ∙ ap (λ k. with_names k (accesses other)) (all first h.0 kept))
    ∙ added_both (with_names kept (accesses first)) (accesses other) (accesses rest)
    ∙ added_both kept (accesses first) (accesses other ++ accesses rest)
all (Does line q rest) h kept = all rest h.1 (with_names kept (memrefs_of q)) ∙ plain q h.0 kept (accesses rest)

-- ---- a place
module _ (P : Plain → Type 0) where
  there : (s : Spot) (n : Nest) → InText P n → InText P (from_spot s n)
  there Here n h = h
  there (Behind s) Nothing h = tt
  there (Behind s) (Loop line v l u step body rest) h = there s rest h.1
  there (Behind s) (Branch line set names first has other rest) h = there s rest h.2
  there (Behind s) (Does line q rest) h = there s rest h.1
  there (Inside s) Nothing h = tt
  there (Inside s) (Loop line v l u step body rest) h = there s body h.0
  there (Inside s) (Branch line set names first has other rest) h = there s first h.0
  there (Inside s) (Does line q rest) h = tt
  there (Other s) Nothing h = tt
  there (Other s) (Loop line v l u step body rest) h = tt
  there (Other s) (Branch line set names first has other rest) h = there s other h.1
  there (Other s) (Does line q rest) h = tt

  by_itself : (n : Nest) → InText P n → InText P (alone n)
  by_itself Nothing h = h
  by_itself (Loop line v l u step body rest) h = (h.0, tt)
  by_itself (Branch line set names first has other rest) h = h
  by_itself (Does line q rest) h = h

first_accesses : (n : Nest) → InText Stands n → (s : Spot) → accessed (alone (from_spot s n)) [] ≡ firsts [] (accesses (alone (from_spot s n)))
first_accesses n h s =
    let loop = alone (from_spot s n) in
    all loop (by_itself Stands (from_spot s n) (there Stands s n h)) [] ∙ added [] (accesses loop)

-- a block's body has the memrefs of its loop
of_loop : (b : Block) → accessed b.body [] ≡ accessed (of_block b).loop []
unfolding accessed
of_loop b = refl

pub memrefs : MemrefsAreFirsts
memrefs m plain depth =
    let n = nest m.body in
    let there = λ (x : Standing). accessed x.loop [] in
    sym (twice there of_block (λ b. accessed b.body []) (λ b. sym (of_loop b)) (blocks depth n []))
    ∙ ap (map there) (loops depth n)
    ∙ twice there (of_place n) (λ s. firsts [] (accesses (alone (from_spot s n)))) (first_accesses n (input_stands m plain)) (loops_at depth n)
