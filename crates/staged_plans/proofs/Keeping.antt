-- A planned placement's loop keeps to what the placement says of its memref.
use Rattle.std.proofs.Common.{◌≡◌, Bool, true, false, cond, List, [], ◌∷◌, ◌++◌, ℤ, Ok, Err, Result, refl, sym, ap, ◌∙◌, subst}
use Rattle.std.specs.Prelude.{not, ◌&&◌, ℕ}
use Rattle.constraint_set.specs.Lists.{Each}
use Rattle.constraint_set.proofs.Steps.{Each-first, Each-second}
use Rattle.affine_ast.specs.declared.module.Arg.{Arg}
use Rattle.affine_ast.specs.declared.name.Name.{Name}
use Rattle.affine_ast.specs.declared.types.Bound.{Bound}
use Rattle.affine_ast.specs.Names.{same_name}
use Rattle.affine_ast.specs.Nest.{Plain, Nest, Nothing, Loop, Branch, Does, Value, Load, Store, RawLoad, RawStore, Constant, Binary, Cast, Alloc, Dealloc, Start, Wait, Return}
use Rattle.nest_domain.specs.Ways as ways
use Rattle.nest_domain.specs.Ways.{Header, Use, Affine, if_named, use_of, uses, loop_count}
use Rattle.nest_domain.specs.Boxes.{Dimension}
use Rattle.box_covers.specs.Covers.{covers}
use Rattle.access_region.specs.Faults.{NoRegion, unplaced, ◌>>=◌}
use Rattle.access_region.specs.Regions.{has_other, all_reaching, outside_at}
use Rattle.access_region.specs.Places.{region_from, region_of}
use Rattle.placement_texts.specs.OneTag.{InText}
use Rattle.placement_texts.specs.Spots.{Spot, Here, Behind, Inside, Other, IsLoop}
use Rattle.placement_texts.specs.Template.{Placement}
use Rattle.staging_laws.specs.Spared.{Keeps, LoopIn}
use Rattle.placement_regions.specs.Sites.{from_spot, alone, way_to, loop_uses}
use Rattle.placement_regions.proofs.Visited.{IsLoopText, loop_there}
use Rattle.staged_plans.specs.Plans.{has_store}

-- ---- from the uses of a text to its statements
module _ (p : Placement) where
  -- a load where the box is read in, a store where it is written out, and nothing else
  abbrev pub Allowed : Use → Type 0
  Allowed (Affine way true at) = p.writes ≡ true
  Allowed (Affine way false at) = p.reads ≡ true
  Allowed ways.Other = ⊥

  named_allowed : (n : Name) (u : Use) → Each Allowed (if_named p.memref n u) → same_name p.memref n ≡ true → Allowed u
  named_allowed n u h e = by (same_name p.memref n) e h
    where
      by : (b : Bool) → b ≡ true → Each Allowed (cond b (u ∷ []) []) → Allowed u
      by true e h = h.0
      by false e h = absurd (let z : ⊥ = cc in z)

  not_named : (n : Name) → Each Allowed (if_named p.memref n ways.Other) → same_name p.memref n ≡ false
  not_named n h = by (same_name p.memref n) h
    where
      by : (b : Bool) → Each Allowed (cond b (ways.Other ∷ []) []) → b ≡ false
      by true h = absurd h.0
      by false h = refl

  keeps_one : (q : Plain) (acc : List Header) → Each Allowed (use_of p.memref q acc) → Keeps p q
  keeps_one (Load r n at ty) acc h = named_allowed n (Affine acc false at) h
  keeps_one (Store x n at ty) acc h = named_allowed n (Affine acc true at) h
  keeps_one (RawLoad r n at ty) acc h = not_named n h
  keeps_one (RawStore x n at ty) acc h = not_named n h
  keeps_one (Start a a_at b b_at t t_at n stride types) acc h =
      let rest = Each-second Allowed (if_named p.memref a ways.Other) (if_named p.memref b ways.Other ++ if_named p.memref t ways.Other) h in
      (not_named a (Each-first Allowed (if_named p.memref a ways.Other) (if_named p.memref b ways.Other ++ if_named p.memref t ways.Other) h), not_named b (Each-first Allowed (if_named p.memref b ways.Other) (if_named p.memref t ways.Other) rest))
  keeps_one (Value r pick at) acc h = tt
  keeps_one (Constant r z ty) acc h = tt
  keeps_one (Binary r op x y ty) acc h = tt
  keeps_one (Cast r k x from to) acc h = tt
  keeps_one (Alloc r ty) acc h = tt
  keeps_one (Dealloc n ty) acc h = tt
  keeps_one (Wait t at n ty) acc h = tt
  keeps_one Return acc h = tt

  keeps_text : (n : Nest) (acc : List Header) → Each Allowed (uses p.memref n acc) → InText (Keeps p) n
  unfolding uses
  keeps_text Nothing acc h = tt
  keeps_text (Loop line v l u s body rest) acc h =
      let a = uses p.memref body (acc ++ ways.Round v l u s ∷ []) in
      let b = uses p.memref rest (acc ++ ways.Past body ∷ []) in
      (keeps_text body (acc ++ ways.Round v l u s ∷ []) (Each-first Allowed a b h), keeps_text rest (acc ++ ways.Past body ∷ []) (Each-second Allowed a b h))
  keeps_text (Branch line set names first has other rest) acc h =
      let a = uses p.memref first (acc ++ ways.Given set names ∷ []) in
      let b = uses p.memref other (acc ++ ways.Except set names first ∷ []) in
      let c = uses p.memref rest ((acc ++ ways.Past first ∷ []) ++ ways.Past other ∷ []) in
      let r = Each-second Allowed a (b ++ c) h in
      (keeps_text first (acc ++ ways.Given set names ∷ []) (Each-first Allowed a (b ++ c) h), keeps_text other (acc ++ ways.Except set names first ∷ []) (Each-first Allowed b c r), keeps_text rest ((acc ++ ways.Past first ∷ []) ++ ways.Past other ∷ []) (Each-second Allowed b c r))
  keeps_text (Does line q rest) acc h =
      let a = use_of p.memref q acc in
      let b = uses p.memref rest (acc ++ ways.Behind q ∷ []) in
      (keeps_one q acc (Each-first Allowed a b h), keeps_text rest (acc ++ ways.Behind q ∷ []) (Each-second Allowed a b h))

  keeps_loop : (s : Spot) (n : Nest) (way : List Header) → IsLoop s n → Each Allowed (loop_uses p.memref way (from_spot s n)) → InText (Keeps p) (alone (from_spot s n))
  keeps_loop s n way i h = by (from_spot s n) (loop_there s n i) h
    where
      one : (line : ℕ) (v : Name) (l u : Bound) (step : ℤ) (body rest : Nest) → Each Allowed (loop_uses p.memref way (Loop line v l u step body rest)) → InText (Keeps p) (alone (Loop line v l u step body rest))
      one line v l u step body rest h = (keeps_text body (way ++ ways.Round v l u step ∷ []) h, tt)

      by : (n : Nest) → IsLoopText n → Each Allowed (loop_uses p.memref way n) → InText (Keeps p) (alone n)
      by n t h = subst (λ n. InText (Keeps p) (alone n)) (sym t.is) (one t.line t.variable t.lower t.upper t.step t.body t.rest (subst (λ n. Each Allowed (loop_uses p.memref way n)) t.is h))

  -- at the loop there
  keeps_there : (s : Spot) (n : Nest) → IsLoop s n → InText (Keeps p) (alone (from_spot s n)) → LoopIn (InText (Keeps p)) s n
  keeps_there s Nothing i h = tt
  keeps_there Here (Loop line v l u step body rest) i h = h
  keeps_there (Behind s) (Loop line v l u step body rest) i h = keeps_there s rest i h
  keeps_there (Inside s) (Loop line v l u step body rest) i h = keeps_there s body i h
  keeps_there (Other s) (Loop line v l u step body rest) i h = tt
  keeps_there Here (Branch line set ns first has other rest) i h = tt
  keeps_there (Behind s) (Branch line set ns first has other rest) i h = keeps_there s rest i h
  keeps_there (Inside s) (Branch line set ns first has other rest) i h = keeps_there s first i h
  keeps_there (Other s) (Branch line set ns first has other rest) i h = keeps_there s other i h
  keeps_there (Behind s) (Does line q rest) i h = keeps_there s rest i h
  keeps_there Here (Does line q rest) i h = tt
  keeps_there (Inside s) (Does line q rest) i h = tt
  keeps_there (Other s) (Does line q rest) i h = tt

  -- ---- the uses of a region are allowed
  all_allowed : (us : List Use) → has_other us ≡ false → (has_store us ≡ true → p.writes ≡ true) → p.reads ≡ true → Each Allowed us
  all_allowed [] h w r = tt
  all_allowed (Affine way true at ∷ us) h w r = (w refl, all_allowed us h (λ e. w refl) r)
  all_allowed (Affine way false at ∷ us) h w r = (r, all_allowed us h w r)
  all_allowed (ways.Other ∷ us) h w r = absurd (let z : ⊥ = cc in z)

  one_allowed : (args : List Arg) (way : List Header) (us : List Use) (outer : ℕ) (ds : List Dimension) → covers args way us outer ds ≡ true → (has_store us ≡ true → p.writes ≡ true) → Each Allowed us
  unfolding covers
  one_allowed args way [] outer ds h w = tt
  one_allowed args way (ways.Other ∷ us) outer ds h w = absurd (let z : ⊥ = cc in z)
  one_allowed args way (Affine there false at ∷ us) outer ds h w = absurd (let z : ⊥ = cc in z)
  one_allowed args way (Affine there true at ∷ (u ∷ us)) outer ds h w = absurd (let z : ⊥ = cc in z)
  one_allowed args way (Affine there true at ∷ []) outer ds h w = (w refl, tt)

no_other : (args : List Arg) (way : List Header) (us : List Use) (sizes : List ℕ) (dma : Bool) (ds : List Dimension) → region_of args way us sizes dma ≡ Ok ds → has_other us ≡ false
unfolding region_of
no_other args way us sizes dma ds h = by (has_other us) refl
  where
    by : (b : Bool) → has_other us ≡ b → has_other us ≡ false
    by true e = absurd (let z : Path (Result (List Dimension) NoRegion) (Err unplaced) (Ok ds) = sym (ap (λ b. (cond b (Err unplaced) (all_reaching args us)) >>= (λ xs. outside_at args way >>= (λ outside. region_from outside (loop_count way) xs sizes dma))) e) ∙ h in cc)
    by false e = e

pub kept_by : (args : List Arg) (p : Placement) (s : Spot) (n : Nest) (sizes : List ℕ) (dma : Bool) (ds : List Dimension) (outer : ℕ) → IsLoop s n → region_of args (way_to s n) (loop_uses p.memref (way_to s n) (from_spot s n)) sizes dma ≡ Ok ds
    → p.reads ≡ not (dma && covers args (way_to s n) (loop_uses p.memref (way_to s n) (from_spot s n)) outer ds) → p.writes ≡ has_store (loop_uses p.memref (way_to s n) (from_spot s n)) → LoopIn (InText (Keeps p)) s n
kept_by args p s n sizes dma ds outer i region reads writes = keeps_there p s n i (keeps_loop p s n (way_to s n) i (by p.reads refl))
  where
    by : (r : Bool) → p.reads ≡ r → Each (Allowed p) (loop_uses p.memref (way_to s n) (from_spot s n))
    by true e = all_allowed p (loop_uses p.memref (way_to s n) (from_spot s n)) (no_other args (way_to s n) (loop_uses p.memref (way_to s n) (from_spot s n)) sizes dma ds region) (λ k. writes ∙ k) e
    by false e =
        one_allowed p args (way_to s n) (loop_uses p.memref (way_to s n) (from_spot s n)) outer ds (second dma (covers args (way_to s n) (loop_uses p.memref (way_to s n) (from_spot s n)) outer ds) (sym reads ∙ e)) (λ k. writes ∙ k)
      where
        second : (a b : Bool) → not (a && b) ≡ false → b ≡ true
        second true true h = refl
        second true false h = absurd (let z : ⊥ = cc in z)
        second false b h = absurd (let z : ⊥ = cc in z)
