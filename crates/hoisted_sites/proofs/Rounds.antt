-- Hoisting, loop by loop.
use Rattle.std.proofs.Common.{◌≡◌, ◌<◌, ◌+◌, ℕ, suc, zero, Bool, true, false, cond, List, [], ◌∷◌, ◌++◌, length, map, take, reverse, get_or, Result, Ok, Err, refl, sym, ap, subst, ◌∙◌, arith}
use Rattle.std.specs.Prelude.{nat_eq}
use Rattle.affine_ast.specs.declared.image.Path.{Path}
use Rattle.affine_ast.specs.declared.module.Arg.{Arg}
use Rattle.affine_ast.specs.Nest.{Nest, Nothing, Loop, Branch, Does}
use Rattle.std.proofs.lemmas.List.{reverse-append, reverse-reverse}
use Rattle.boxes.specs.Every.{Every}
use Rattle.nest_domain.specs.Boxes.{Dimension}
use Rattle.nest_domain.specs.declared.plan.Cause.{Cause}
use Rattle.access_region.specs.Faults.{NoRegion}
use Rattle.access_region.specs.Finding.{uses_in}
use Rattle.affine_ast.specs.declared.name.Name.{Name}
use Rattle.affine_ast.specs.declared.types.MemrefType.{MemrefType}
use Rattle.nest_domain.specs.Ways.{Round}
use Rattle.text_places.specs.declared.plain.FoundUse.{FoundUse}
use Rattle.text_places.specs.Finding.{seen}
use Rattle.text_places.specs.Blocks.{Block}
use Rattle.placement_texts.specs.Spots.{Spot, Here, Behind, Inside, Other, IsLoop}
use Rattle.placement_stage.specs.Places.{spot_of}
use Rattle.placement_regions.specs.Sites.{from_spot, alone, region_there}
use Rattle.staged_plans.specs.Plans.{uses_there}
use Rattle.loop_paths.specs.Found.{found_at}
use Rattle.loop_paths.specs.Law.{BeginningsArePaths, BeginningsAreLoops}
use Rattle.loop_paths.specs.declared.paths.LoopPath.{LoopPath}
use Rattle.plan_laws.specs.Sites.{path_of, loops_round}
use Rattle.plan_laws.specs.Plan as plan
use Rattle.plan_laws.specs.Plan.{accesses, accesses_in, times, same_extents, hoisted, hoisted_by, region_at}
use Rattle.plan_laws.proofs.Sited.{every_append, every_map}
use Rattle.hoisted_sites.specs.declared.hoisting.Site.{Site}
use Rattle.hoisted_sites.specs.declared.hoisting.Sought.{Sought}
use Rattle.hoisted_sites.specs.declared.standing.Asking.{Asking}
use Rattle.hoisted_sites.specs.Sites.{IsLoopPath, StandsAt, by_cause}
use Rattle.hoisted_sites.specs.Hoisting.{module_of, text_of, IsBlock, IsHoisted, IsRound, sites_of, site_of, hoisted_from}
use Rattle.hoisted_sites.proofs.Counted.{uses_counted, placed_uses}
use Rattle.hoisted_sites.proofs.Stands.{uses_at_block, region_at_block, accesses_at_block}

-- ---- one loop further out
module _ (a : Asking) (x : Sought) (s : Spot) (from : plan.Site) where
  abbrev Times : ℕ
  Times = times x.memref.now (accesses_in a.options (module_of a).args (text_of a) s)

  abbrev Region : Result (List Dimension) NoRegion
  Region = region_there (module_of a).args (text_of a) x.memref.now s x.ty.now.sizes a.options.dma

  abbrev Stays : Type 0
  Stays = (ss : List Spot) → hoisted_from a x (s ∷ ss) from ≡ from

  abbrev Goes : plan.Site → Type 0
  Goes to = (ss : List Spot) → hoisted_from a x (s ∷ ss) from ≡ hoisted_from a x ss to

  abbrev by_region : List Spot → Result (List Dimension) NoRegion → plan.Site
  by_region ss r = hoisted_by a.options (module_of a).args (text_of a) (hoisted_from a x ss) from s r

  stays_uncounted : nat_eq Times x.count ≡ false → Stays
  stays_uncounted e ss = ap (λ b. cond b (by_region ss Region) from) e

  stays_unplaced : nat_eq Times x.count ≡ true → (e : NoRegion) → Region ≡ Err e → Stays
  stays_unplaced c e r ss = ap (λ b. cond b (by_region ss Region) from) c ∙ ap (by_region ss) r

  stays_wider : nat_eq Times x.count ≡ true → (ds : List Dimension) → Region ≡ Ok ds → same_extents from.region ds ≡ false → Stays
  stays_wider c ds r e ss = ap (λ b. cond b (by_region ss Region) from) c ∙ ap (by_region ss) r ∙ ap (λ b. cond b (hoisted_from a x ss (record { at = s; region = ds })) from) e

  goes_out : nat_eq Times x.count ≡ true → (ds : List Dimension) → Region ≡ Ok ds → same_extents from.region ds ≡ true → Goes (record { at = s; region = ds })
  goes_out c ds r e ss = ap (λ b. cond b (by_region ss Region) from) c ∙ ap (by_region ss) r ∙ ap (λ b. cond b (hoisted_from a x ss (record { at = s; region = ds })) from) e

  -- the loop that was found there
  module _ (b : Block) (k : StandsAt (text_of a) s b) where
    times_there : Times ≡ times x.memref.now (accesses b.body)
    times_there = ap (times x.memref.now) (accesses_at_block (text_of a) s b k)

    abbrev Counted : Bool → Type 0
    Counted t = nat_eq (times x.memref.now (accesses b.body)) x.count ≡ t

    counted : (t : Bool) → Counted t → nat_eq Times x.count ≡ t
    counted t e = ap (λ k. nat_eq k x.count) times_there ∙ e

    pub no_further_count : Counted false → Stays
    no_further_count e = stays_uncounted (counted false e)

    pub no_further_region : Counted true → (c : Cause) → by_cause Region ≡ Err c → Stays
    no_further_region e c r = by Region refl
      where
        by : (w : Result (List Dimension) NoRegion) → Region ≡ w → Stays
        by (Ok ds) h = absurd (let z : ◌≡◌ {A = Result (List Dimension) Cause} (Ok ds) (Err c) = sym (ap by_cause h) ∙ r in (let z2 : ⊥ = cc in z2))
        by (Err f) h = stays_unplaced (counted true e) f h

    pub no_further_extents : Counted true → (ds : List Dimension) → Region ≡ Ok ds → same_extents from.region ds ≡ false → Stays
    no_further_extents e = stays_wider (counted true e)

    pub further : Counted true → (ds : List Dimension) → Region ≡ Ok ds → same_extents from.region ds ≡ true → Goes (record { at = s; region = ds })
    further e = goes_out (counted true e)

-- ---- the loops round a block
rounds_are_loops : (s : Spot) (n : Nest) → Every (λ t. IsLoop t n) (loops_round s n)
rounds_are_loops s Nothing = nothing s
  where
    nothing : (s : Spot) → Every (λ t. IsLoop t Nothing) (loops_round s Nothing)
    nothing Here = tt
    nothing (Behind s) = tt
    nothing (Inside s) = tt
    nothing (Other s) = tt
rounds_are_loops Here (Loop line v l u step body rest) = tt
rounds_are_loops (Behind s) (Loop line v l u step body rest) = every_map (λ t. IsLoop t rest) (λ t. IsLoop t (Loop line v l u step body rest)) Behind (λ t h. h) (loops_round s rest) (rounds_are_loops s rest)
rounds_are_loops (Inside s) (Loop line v l u step body rest) =
    every_append (λ t. IsLoop t (Loop line v l u step body rest)) (map Inside (loops_round s body)) (Here ∷ [])
    (every_map (λ t. IsLoop t body) (λ t. IsLoop t (Loop line v l u step body rest)) Inside (λ t h. h) (loops_round s body) (rounds_are_loops s body)) (tt, tt)
rounds_are_loops (Other s) (Loop line v l u step body rest) = tt
rounds_are_loops Here (Branch line set names first has other rest) = tt
rounds_are_loops (Behind s) (Branch line set names first has other rest) = every_map (λ t. IsLoop t rest) (λ t. IsLoop t (Branch line set names first has other rest)) Behind (λ t h. h) (loops_round s rest) (rounds_are_loops s rest)
rounds_are_loops (Inside s) (Branch line set names first has other rest) = every_map (λ t. IsLoop t first) (λ t. IsLoop t (Branch line set names first has other rest)) Inside (λ t h. h) (loops_round s first) (rounds_are_loops s first)
rounds_are_loops (Other s) (Branch line set names first has other rest) = every_map (λ t. IsLoop t other) (λ t. IsLoop t (Branch line set names first has other rest)) Other (λ t h. h) (loops_round s other) (rounds_are_loops s other)
rounds_are_loops Here (Does line q rest) = tt
rounds_are_loops (Behind s) (Does line q rest) = every_map (λ t. IsLoop t rest) (λ t. IsLoop t (Does line q rest)) Behind (λ t h. h) (loops_round s rest) (rounds_are_loops s rest)
rounds_are_loops (Inside s) (Does line q rest) = tt
rounds_are_loops (Other s) (Does line q rest) = tt

-- ---- lists by their places
every_reverse : {A : Type 0} (P : A → Type 0) (xs : List A) → Every P xs → Every P (reverse xs)
every_reverse P [] h = tt
every_reverse P (x ∷ xs) h = subst (Every P) (sym (reverse-append (x ∷ []) xs)) (every_append P (reverse xs) (x ∷ []) (every_reverse P xs h.1) (h.0, tt))

every_at : {A : Type 0} (P : A → Type 0) (xs : List A) (i : ℕ) (x : A) → i < length xs → x ≡ get_or xs i x → Every P xs → P x
every_at P [] i x h e k = absurd (omega (arith, h))
every_at P (y ∷ xs) zero x h e k = subst P (sym e) k.0
every_at P (y ∷ xs) (suc i) x h e k = every_at P xs i x (omega (arith, h)) e k.1

pub in_range : {A : Type 0} (xs : List A) (i : ℕ) (d e : A) → i < length xs → get_or xs i d ≡ get_or xs i e
in_range [] i d e h = absurd (omega (arith, h))
in_range (x ∷ xs) zero d e h = refl
in_range (x ∷ xs) (suc i) d e h = in_range xs i d e (omega (arith, h))

map_length : {A B : Type 0} (f : A → B) (xs : List A) → length (map f xs) ≡ length xs
map_length f [] = refl
map_length f (x ∷ xs) = ap suc (map_length f xs)

map_at : {A B : Type 0} (f : A → B) (xs : List A) (i : ℕ) (x : A) → i < length xs → x ≡ get_or xs i x → f x ≡ get_or (map f xs) i (f x)
map_at f [] i x h e = absurd (omega (arith, h))
map_at f (y ∷ xs) zero x h e = ap f e
map_at f (y ∷ xs) (suc i) x h e = map_at f xs i x (omega (arith, h)) e

take_more : {A : Type 0} (xs : List A) (i : ℕ) (x : A) → i < length xs → x ≡ get_or xs i x → take (suc i) xs ≡ take i xs ++ x ∷ []
take_more [] i x h e = absurd (omega (arith, h))
take_more (y ∷ xs) zero x h e = ap (λ z. z ∷ []) (sym e)
take_more (y ∷ xs) (suc i) x h e = ap (λ l. y ∷ l) (take_more xs i x (omega (arith, h)) e)

take_all : {A : Type 0} (xs : List A) → take (length xs) xs ≡ xs
take_all [] = refl
take_all (x ∷ xs) = ap (λ l. x ∷ l) (take_all xs)

map_append : {A B : Type 0} (f : A → B) (xs ys : List A) → map f (xs ++ ys) ≡ map f xs ++ map f ys
map_append f [] ys = refl
map_append f (x ∷ xs) ys = ap (λ l. f x ∷ l) (map_append f xs ys)

reverse_more : {A : Type 0} (xs : List A) (x : A) → reverse (xs ++ x ∷ []) ≡ x ∷ reverse xs
reverse_more xs x = reverse-append xs (x ∷ [])

map_twice : {A B C : Type 0} (f : B → C) (g : A → B) (xs : List A) → map f (map g xs) ≡ map (λ x. f (g x)) xs
map_twice f g [] = refl
map_twice f g (x ∷ xs) = ap (λ l. f (g x) ∷ l) (map_twice f g xs)

same_maps : {A B : Type 0} (f g : A → B) (xs : List A) (i : ℕ) (x : A) → i < length xs → x ≡ get_or xs i x → map f xs ≡ map g xs → f x ≡ g x
same_maps f g [] i x h e m = absurd (omega (arith, h))
same_maps f g (y ∷ xs) zero x h e m = ap f e ∙ (let first : f y ≡ g y = cc in first) ∙ ap g (sym e)
same_maps f g (y ∷ xs) (suc i) x h e m = same_maps f g xs i x (omega (arith, h)) e (let rest : map f xs ≡ map g xs = cc in rest)

length_more : {A : Type 0} (xs : List A) (x : A) → length (xs ++ x ∷ []) ≡ length xs + 1
length_more [] x = refl
length_more (y ∷ xs) x = ap suc (length_more xs x) ∙ next (length xs)
  where
    next : (k : ℕ) → suc (k + 1) ≡ suc k + 1
    next k = omega arith

at_front : {A : Type 0} (xs ys : List A) (i : ℕ) (x d : A) → i < length xs → x ≡ get_or xs i x → x ≡ get_or (xs ++ ys) i d
at_front [] ys i x d h e = absurd (omega (arith, h))
at_front (y ∷ xs) ys zero x d h e = e
at_front (y ∷ xs) ys (suc i) x d h e = at_front xs ys i x d (omega (arith, h)) e

at_end : {A : Type 0} (xs : List A) (x d : A) → get_or (xs ++ x ∷ []) (length xs) d ≡ x
at_end [] x d = refl
at_end (y ∷ xs) x d = at_end xs x d

-- ---- a block's path, and the loops that its beginnings name
module _ (n : Nest) (b : LoopPath) (k : IsBlock n b) where
  abbrev Place : Spot
  Place = spot_of b.at.steps

  abbrev named_by : ℕ → Spot
  named_by i = spot_of (take i b.at.steps)

  path_is : b.at.steps ≡ path_of Place
  path_is = ap (λ f. f.steps) k.found

  lengths_are : b.round.items ≡ (found_at n Place).round
  lengths_are = ap (λ f. f.round) k.found

  pub all_named : BeginningsAreLoops → map named_by b.round.items ≡ reverse (loops_round Place n)
  all_named law = (λ i. map (λ j. spot_of (take j (path_is i))) (lengths_are i)) ∙ law Place n

  paths_named : BeginningsAreLoops → BeginningsArePaths → map (λ i. take i b.at.steps) b.round.items ≡ map (λ i. path_of (named_by i)) b.round.items
  paths_named loops paths =
      (λ i. map (λ j. take j (path_is i)) (lengths_are i)) ∙ paths Place n ∙ ap (map path_of) (sym (all_named loops)) ∙ map_twice path_of named_by b.round.items

  -- the beginning of that length is the path of a loop
  pub is_loop_path : BeginningsAreLoops → BeginningsArePaths → (i k : ℕ) (p : Path) → i < length b.round.items → k ≡ get_or b.round.items i k → p.steps ≡ take k b.at.steps → IsLoopPath n p
  is_loop_path loops paths i k p h e s =
      let named = subst (λ l. Every (λ t. IsLoop t n) l) (sym (all_named loops)) (every_reverse (λ t. IsLoop t n) (loops_round Place n) (rounds_are_loops Place n)) in
      let loop = every_at (λ t. IsLoop t n) (map named_by b.round.items) i (named_by k) (subst (λ x. i < x) (sym (map_length named_by b.round.items)) h) (map_at named_by b.round.items i k h e) named in
      record {
        loop = subst (λ x. IsLoop (spot_of x) n) (sym s) loop;
        path = ap (λ x. path_of (spot_of x)) s ∙ sym (same_maps (λ j. take j b.at.steps) (λ j. path_of (named_by j)) b.round.items i k h e (paths_named loops paths)) ∙ sym s;
      }

  length_is : BeginningsAreLoops → length (sites_of n Place) ≡ length b.round.items + 1
  length_is loops = length_more (reverse (loops_round Place n)) Place ∙ ap (λ x. x + 1) (sym (ap length (all_named loops)) ∙ map_length named_by b.round.items)

  -- a site at such a beginning
  pub is_round : BeginningsAreLoops → (i k : ℕ) (site : Site) → i < length b.round.items → k ≡ get_or b.round.items i k → site.at.steps ≡ take k b.at.steps → site.place ≡ i → IsRound n Place site
  is_round loops i k site h e s p = record {
    within = subst (λ x. x < length (sites_of n Place)) (sym p) (subst (λ x. i < x) (sym (length_is loops)) (omega (arith, h)));
    spot =
        ap spot_of s
        ∙ at_front (map named_by b.round.items) (Place ∷ []) i (named_by k) Place (subst (λ x. i < x) (sym (map_length named_by b.round.items)) h) (map_at named_by b.round.items i k h e)
        ∙ (λ j. get_or (all_named loops j ++ Place ∷ []) (sym p j) Place);
  }

  -- the site at the block
  pub is_block_round : BeginningsAreLoops → (site : Site) → site.at ≡ b.at → site.place ≡ length b.round.items → IsRound n Place site
  is_block_round loops site s p =
      let count = sym (map_length named_by b.round.items) ∙ ap length (all_named loops) in
      record {
        within = subst (λ x. x < length (sites_of n Place)) (sym p) (subst (λ x. length b.round.items < x) (sym (length_is loops)) (omega arith));
        spot = ap (λ x. spot_of x.steps) s ∙ sym (at_end (reverse (loops_round Place n)) Place Place) ∙ ap (λ x. get_or (sites_of n Place) x Place) (sym count ∙ sym p);
      }

  -- ---- what is left to hoist over
  abbrev pub rounds_left : ℕ → List Spot
  rounds_left i = reverse (map named_by (take i b.round.items))

  pub all_left : BeginningsAreLoops → rounds_left (length b.round.items) ≡ loops_round Place n
  all_left loops = ap (λ x. reverse (map named_by x)) (take_all b.round.items) ∙ ap reverse (all_named loops) ∙ reverse-reverse (loops_round Place n)

  pub one_left : (i k : ℕ) → i < length b.round.items → k ≡ get_or b.round.items i k → rounds_left (suc i) ≡ named_by k ∷ rounds_left i
  one_left i k h e =
      ap (λ x. reverse (map named_by x)) (take_more b.round.items i k h e)
      ∙ ap reverse (map_append named_by (take i b.round.items) (k ∷ []))
      ∙ reverse_more (map named_by (take i b.round.items)) (named_by k)

-- ---- one loop of those that are left
module _ (a : Asking) (x : Sought) (b : LoopPath) (k : IsBlock (text_of a) b) where
  abbrev pub Left : ℕ → List Spot
  Left i = rounds_left (text_of a) b k i

  from_here : (l i j : ℕ) (site : plan.Site) (at : Path) → l ≡ suc i → i < length b.round.items → j ≡ get_or b.round.items i j → at.steps ≡ take j b.at.steps
      → hoisted_from a x (spot_of at.steps ∷ Left i) site ≡ hoisted_from a x (Left l) site
  from_here l i j site at n h e s =
      ap (λ t. hoisted_from a x (spot_of t ∷ Left i) site) s
      ∙ ap (λ ss. hoisted_from a x ss site) (sym (one_left (text_of a) b k i j h e))
      ∙ ap (λ y. hoisted_from a x (Left y) site) (sym n)

  pub step_out : (l i j : ℕ) (site further whole : plan.Site) (at : Path) → l ≡ suc i → i < length b.round.items → j ≡ get_or b.round.items i j → at.steps ≡ take j b.at.steps
      → ((ss : List Spot) → hoisted_from a x (spot_of at.steps ∷ ss) site ≡ hoisted_from a x ss further) → hoisted_from a x (Left l) site ≡ whole → hoisted_from a x (Left i) further ≡ whole
  step_out l i j site further whole at n h e s goes inv = sym (goes (Left i)) ∙ from_here l i j site at n h e s ∙ inv

  pub step_stays : (l i j : ℕ) (site whole : plan.Site) (at : Path) → l ≡ suc i → i < length b.round.items → j ≡ get_or b.round.items i j → at.steps ≡ take j b.at.steps
      → ((ss : List Spot) → hoisted_from a x (spot_of at.steps ∷ ss) site ≡ site) → hoisted_from a x (Left l) site ≡ whole → site ≡ whole
  step_stays l i j site whole at n h e s stays inv = sym (stays (Left i)) ∙ from_here l i j site at n h e s ∙ inv

-- ---- a site of a block
times_are : (args : List Arg) (n : Nest) (m : Name) (s : Spot) (b : Block) (sizes : List ℕ) (dma : Bool) (us : List FoundUse) (ds : List Dimension) → StandsAt n s b → map seen us ≡ uses_there n m s
    → region_there args n m s sizes dma ≡ Ok ds → length us ≡ times m (accesses (alone (from_spot s n)))
times_are args n m s b sizes dma us ds k u r =
    let affine = placed_uses args b.way (uses_in m b) sizes dma ds (sym (region_at_block args m n s b sizes dma k) ∙ r) in
    sym (map_length seen us) ∙ ap length (u ∙ uses_at_block args m n s b k) ∙ uses_counted m b.body (b.way ++ Round b.var b.lower b.upper b.step ∷ []) affine
    ∙ ap (times m) (sym (accesses_at_block n s b k))

pub site_made : (a : Asking) (m : Name) (ty : MemrefType) (s : Spot) (b : Block) (start site : Site) (count : ℕ) → StandsAt (text_of a) s b → spot_of start.at.steps ≡ s
    → map seen start.uses.items ≡ uses_there (text_of a) m (spot_of start.at.steps) → region_there (module_of a).args (text_of a) m (spot_of start.at.steps) ty.sizes a.options.dma ≡ Ok start.region
    → count ≡ length start.uses.items → IsLoopPath (text_of a) site.at → map seen site.uses.items ≡ uses_there (text_of a) m (spot_of site.at.steps)
    → region_there (module_of a).args (text_of a) m (spot_of site.at.steps) ty.sizes a.options.dma ≡ Ok site.region → IsRound (text_of a) s site
    → site_of site ≡ hoisted a.options (module_of a).args (text_of a) m ty count (loops_round s (text_of a)) (site_of start) → IsHoisted a m ty s site
site_made a m ty s b start site count k at u r c path uses found place e =
    let n = text_of a in
    let us = u ∙ ap (uses_there n m) at in
    let rs = sym (ap (λ t. region_there (module_of a).args n m t ty.sizes a.options.dma) at) ∙ r in
    let many = c ∙ times_are (module_of a).args n m s b ty.sizes a.options.dma start.uses.items start.region k us rs in
    record {
      path = path;
      uses = uses;
      found = found;
      place = place;
      region = start.region;
      is = rs;
      hoisted = e ∙ (λ i. hoisted a.options (module_of a).args n m ty (many i) (loops_round s n) (record { at = at i; region = start.region }));
    }
