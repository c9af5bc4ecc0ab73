-- Where each access of a memref is affine they are as many as its accesses in the text.
use Rattle.std.proofs.Common.{◌≡◌, ℕ, suc, ◌+◌, Bool, true, false, cond, ◌||◌, List, [], ◌∷◌, ◌++◌, length, Option, Some, None, Result, Ok, Err, refl, sym, ap, ◌∙◌, arith}
use Rattle.affine_ast.specs.declared.module.Arg.{Arg}
use Rattle.affine_ast.specs.declared.name.Name.{Name}
use Rattle.affine_ast.specs.Names.{same_name}
use Rattle.affine_ast.specs.Nest.{Plain, Nest, Nothing, Loop, Branch, Does, Value, Load, Store, RawLoad, RawStore, Constant, Binary, Cast, Alloc, Dealloc, Start, Wait, Return}
use Rattle.nest_domain.specs.Boxes.{Dimension}
use Rattle.nest_domain.specs.Ways.{Header, Round, Given, Except, Behind, Past, Use, Affine, Other, if_named, use_of, uses, loop_count}
use Rattle.access_region.specs.Faults.{NoRegion, unplaced, ◌>>=◌}
use Rattle.access_region.specs.Regions.{has_other, all_reaching, reaching, outside_at}
use Rattle.access_region.specs.Places.{region_from, region_of}
use Rattle.plan_laws.specs.Plan.{accessed, accesses, times, with_access}
use Rattle.hoisted_sites.proofs.Counts.{times_append}

other_append : (xs ys : List Use) → has_other (xs ++ ys) ≡ (has_other xs || has_other ys)
other_append [] ys = refl
other_append (Affine way stores at ∷ xs) ys = other_append xs ys
other_append (Other ∷ xs) ys = refl

none_first : (a b : Bool) → (a || b) ≡ false → a ≡ false
none_first true b e = e
none_first false b e = refl

none_then : (a b : Bool) → (a || b) ≡ false → b ≡ false
none_then true b e = absurd (let z : ⊥ = cc in z)
none_then false b e = e

length_append : {A : Type 0} (xs ys : List A) → length (xs ++ ys) ≡ length xs + length ys
length_append [] ys = omega arith
length_append (x ∷ xs) ys = ap suc (length_append xs ys) ∙ next (length xs) (length ys)
  where
    next : (a b : ℕ) → suc (a + b) ≡ suc a + b
    next a b = omega arith

-- two lists of accesses, one behind the other
both : (xs ys : List Use) (a b : ℕ) → has_other (xs ++ ys) ≡ false → (has_other xs ≡ false → length xs ≡ a) → (has_other ys ≡ false → length ys ≡ b) → length (xs ++ ys) ≡ a + b
both xs ys a b e f g =
    let h = sym (other_append xs ys) ∙ e in
    length_append xs ys ∙ (λ i. f (none_first (has_other xs) (has_other ys) h) i + g (none_then (has_other xs) (has_other ys) h) i)

affine_one : (m n : Name) (way : List Header) (stores : Bool) (at : _) → length (if_named m n (Affine way stores at)) ≡ times m (n ∷ [])
affine_one m n way stores at = by (same_name m n)
  where
    by : (b : Bool) → length (cond b (Affine way stores at ∷ []) []) ≡ cond b 1 0
    by true = refl
    by false = refl

other_one : (m n : Name) → has_other (if_named m n Other) ≡ false → length (if_named m n Other) ≡ 0
other_one m n e = by (same_name m n) e
  where
    by : (b : Bool) → has_other (cond b (Other ∷ []) []) ≡ false → length (cond b (Other ∷ []) []) ≡ 0
    by true e = absurd (let z : ⊥ = cc in z)
    by false e = refl

raw_one : (m n : Name) → has_other (if_named m n Other) ≡ false → length (if_named m n Other) ≡ times m (n ∷ [])
raw_one m n e = by (same_name m n) e
  where
    by : (b : Bool) → has_other (cond b (Other ∷ []) []) ≡ false → length (cond b (Other ∷ []) []) ≡ cond b 1 0
    by true e = absurd (let z : ⊥ = cc in z)
    by false e = refl

plain_counted : (m : Name) (p : Plain) (way : List Header) → has_other (use_of m p way) ≡ false → length (use_of m p way) ≡ times m (with_access (accessed p) [])
plain_counted m (Value r pick at) way e = refl
plain_counted m (Load r n at ty) way e = affine_one m n way false at
plain_counted m (Store x n at ty) way e = affine_one m n way true at
plain_counted m (RawLoad r n at ty) way e = raw_one m n e
plain_counted m (RawStore x n at ty) way e = raw_one m n e
plain_counted m (Constant r z ty) way e = refl
plain_counted m (Binary r op x y ty) way e = refl
plain_counted m (Cast r kind x from to) way e = refl
plain_counted m (Alloc r ty) way e = refl
plain_counted m (Dealloc n ty) way e = other_one m n e
plain_counted m (Start x xa y ya t ta n stride types) way e =
    both (if_named m x Other) (if_named m y Other ++ if_named m t Other) 0 0 e (other_one m x) (λ f. both (if_named m y Other) (if_named m t Other) 0 0 f (other_one m y) (other_one m t))
plain_counted m (Wait t at n ty) way e = other_one m t e
plain_counted m Return way e = refl

times_with : (m : Name) (o : Option Name) (xs : List Name) → times m (with_access o xs) ≡ times m (with_access o []) + times m xs
times_with m None xs = omega arith
times_with m (Some n) xs = times_append m (n ∷ []) xs

pub uses_counted : (m : Name) (n : Nest) (way : List Header) → has_other (uses m n way) ≡ false → length (uses m n way) ≡ times m (accesses n)
unfolding uses
uses_counted m Nothing way e = refl
uses_counted m (Loop line v l u s body rest) way e =
    both (uses m body (way ++ Round v l u s ∷ [])) (uses m rest (way ++ Past body ∷ [])) (times m (accesses body)) (times m (accesses rest)) e
    (uses_counted m body (way ++ Round v l u s ∷ [])) (uses_counted m rest (way ++ Past body ∷ []))
    ∙ sym (times_append m (accesses body) (accesses rest))
uses_counted m (Branch line set names first has other rest) way e =
    both (uses m first (way ++ Given set names ∷ [])) (uses m other (way ++ Except set names first ∷ []) ++ uses m rest ((way ++ Past first ∷ []) ++ Past other ∷ []))
    (times m (accesses first)) (times m (accesses other) + times m (accesses rest)) e
    (uses_counted m first (way ++ Given set names ∷ []))
    (λ f. both (uses m other (way ++ Except set names first ∷ [])) (uses m rest ((way ++ Past first ∷ []) ++ Past other ∷ [])) (times m (accesses other)) (times m (accesses rest)) f
    (uses_counted m other (way ++ Except set names first ∷ [])) (uses_counted m rest ((way ++ Past first ∷ []) ++ Past other ∷ [])))
    ∙ sym (times_append m (accesses first) (accesses other ++ accesses rest) ∙ ap (λ k. times m (accesses first) + k) (times_append m (accesses other) (accesses rest)))
uses_counted m (Does line p rest) way e =
    both (use_of m p way) (uses m rest (way ++ Behind p ∷ [])) (times m (with_access (accessed p) [])) (times m (accesses rest)) e
    (plain_counted m p way) (uses_counted m rest (way ++ Behind p ∷ []))
    ∙ sym (times_with m (accessed p) (accesses rest))

-- a region is one of affine accesses
not_placed : (args : List Arg) (way : List Header) (us : List Use) (sizes : List ℕ) (dma : Bool) → reaching args us ≡ Err unplaced → region_of args way us sizes dma ≡ Err unplaced
unfolding region_of
not_placed args way us sizes dma r = ap (λ w. w >>= (λ xs. outside_at args way >>= (λ outside. region_from outside (loop_count way) xs sizes dma))) r

pub placed_uses : (args : List Arg) (way : List Header) (us : List Use) (sizes : List ℕ) (dma : Bool) (ds : List Dimension) → region_of args way us sizes dma ≡ Ok ds → has_other us ≡ false
placed_uses args way us sizes dma ds e = by (has_other us) refl
  where
    by : (b : Bool) → has_other us ≡ b → has_other us ≡ false
    by false h = h
    by true h = (
        let none : ◌≡◌ {A = Result (List Dimension) NoRegion} (Err unplaced) (Ok ds) = sym (not_placed args way us sizes dma (ap (λ b. cond b (Err unplaced) (all_reaching args us)) h)) ∙ e in
        absurd (let z : ⊥ = cc in z))
