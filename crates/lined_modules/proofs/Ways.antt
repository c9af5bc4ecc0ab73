-- Lines have no part in regions, in cover and in the plan.
use Rattle.std.proofs.Common.{◌≡◌, ℕ, zero, suc, ◌+◌, List, [], ◌∷◌, ◌++◌, length, map, drop, Bool, true, false, Result, Ok, Err, refl, sym, ap, ◌∙◌}
use Rattle.std.specs.Prelude.{◌&&◌, if◌then◌else◌}
use Rattle.affine_expr.specs.declared.linear.LinearFault.{LinearFault}
use Rattle.affine_expr.specs.Linear.{◌>>=◌}
use Rattle.affine_ast.specs.declared.module.Arg.{Arg}
use Rattle.affine_ast.specs.declared.name.Name.{Name}
use Rattle.affine_ast.specs.declared.types.Access.{Access}
use Rattle.affine_ast.specs.Names.{same_name}
use Rattle.affine_ast.specs.Nest.{Plain, Nest, Nothing, Loop, Branch, Does, Value, Load, Store, RawLoad, RawStore, Constant, Binary, Cast, Alloc, Dealloc, Start, Wait, Return}
use Rattle.nest_domain.specs.Ways.{Header, Round, Given, Except, Behind, Past, Use, Affine, Other, loop_count, loop_names, bound_names, used_before, used, if_named, use_of, uses}
use Rattle.nest_domain.specs.Domains.{Going, Known, along_one, along, symbol_count, symbol_names, with_arguments, nothing_known, place, map_forms, with_subscripts, access}
use Rattle.nest_domain.specs.Boxes.{Dimension}
use Rattle.access_region.specs.Faults as faults
use Rattle.access_region.specs.Faults.{unplaced, by_form}
use Rattle.access_region.specs.Regions.{has_other, reaching_of, all_reaching, reaching, outside_of, outside_at}
use Rattle.access_region.specs.Places.{region_from, region_of}
use Rattle.box_covers.specs.Traced as traces
use Rattle.box_covers.specs.Traced.{Traced, nothing_traced, behind_one, traced, with_going, goings, swept}
use Rattle.box_covers.specs.Covers.{unconditional, covers_from, traced_at, covers}
use Rattle.plan_laws.specs.Sites.{lined}

-- ---- a way with lines
abbrev pub header : Header → Header
header (Except set names first) = Except set names (lined first)
header (Past n) = Past (lined n)
header h = h

abbrev pub way : List Header → List Header
way hs = map header hs

pub way_append : (hs gs : List Header) → way (hs ++ gs) ≡ way hs ++ way gs
way_append [] gs = refl
way_append (h ∷ hs) gs = ap (λ w. header h ∷ w) (way_append hs gs)

way_length : (hs : List Header) → length (way hs) ≡ length hs
way_length [] = refl
way_length (h ∷ hs) = ap suc (way_length hs)

pub way_loops : (hs : List Header) → loop_count (way hs) ≡ loop_count hs
way_loops [] = refl
way_loops (Round v l u s ∷ hs) = ap suc (way_loops hs)
way_loops (Given set names ∷ hs) = way_loops hs
way_loops (Except set names first ∷ hs) = way_loops hs
way_loops (Behind p ∷ hs) = way_loops hs
way_loops (Past n ∷ hs) = way_loops hs

pub way_names : (hs : List Header) → loop_names (way hs) ≡ loop_names hs
way_names [] = refl
way_names (Round v l u s ∷ hs) = ap (λ ns. v ∷ ns) (way_names hs)
way_names (Given set names ∷ hs) = way_names hs
way_names (Except set names first ∷ hs) = way_names hs
way_names (Behind p ∷ hs) = way_names hs
way_names (Past n ∷ hs) = way_names hs

way_used : (hs : List Header) (own : List Name) → used (way hs) own ≡ used hs own
unfolding used
way_used [] own = refl
way_used (Round v l u s ∷ hs) own = ap (λ ns. bound_names l ++ (bound_names u ++ ns)) (way_used hs own)
way_used (Given set names ∷ hs) own = ap (λ ns. names ++ ns) (way_used hs own)
way_used (Except set names first ∷ hs) own = way_used hs own
way_used (Behind p ∷ hs) own = ap (used_before p) (way_used hs own)
way_used (Past n ∷ hs) own = way_used hs own

header_along : (h : Header) (names : List Name) (k : Known) → along_one (header h) names k ≡ along_one h names k
header_along (Round v l u s) names k = refl
header_along (Given set operands) names k = refl
header_along (Except set operands first) names k = refl
header_along (Behind p) names k = refl
header_along (Past n) names k = refl

way_along : (hs : List Header) (own : List Name) (k : Known) → along (way hs) own k ≡ along hs own k
unfolding along
way_along [] own k = refl
way_along (h ∷ hs) own k =
    (λ i. along_one (header h) (way_used hs own i) k >>= along (way hs) own)
    ∙ (λ i. header_along h (used hs own) k i >>= along (way hs) own)
    ∙ after (along_one h (used hs own) k) (λ g. way_along hs own g)
  where
    after : (w : Result Known LinearFault) → ((g : Known) → along (way hs) own g ≡ along hs own g) → (w >>= along (way hs) own) ≡ (w >>= along hs own)
    after (Ok g) f = f g
    after (Err e) f = refl

pub way_place : (args : List Arg) (hs : List Header) (own : List Name) → place args (way hs) own ≡ place args hs own
unfolding place
way_place args hs own =
    (λ i. with_arguments args (nothing_known (symbol_count args + way_loops hs i)) >>= along (way hs) own)
    ∙ after (with_arguments args (nothing_known (symbol_count args + loop_count hs)))
  where
    after : (w : Result Known LinearFault) → (w >>= along (way hs) own) ≡ (w >>= along hs own)
    after (Ok g) = way_along hs own g
    after (Err e) = refl

way_access : (args : List Arg) (hs : List Header) (at : Access) → access args (way hs) at ≡ access args hs at
unfolding access
way_access args hs at = ap (λ (w : Result Known LinearFault). w >>= (λ k. map_forms k.forms k.next at [] >>= (λ formed. with_subscripts formed k))) (way_place args hs at.operands)

-- ---- uses
abbrev pub use_with : Use → Use
use_with (Affine hs stores at) = Affine (way hs) stores at
use_with Other = Other

abbrev pub uses_with : List Use → List Use
uses_with us = map use_with us

map_append : (us vs : List Use) → uses_with (us ++ vs) ≡ uses_with us ++ uses_with vs
map_append [] vs = refl
map_append (u ∷ us) vs = ap (λ w. use_with u ∷ w) (map_append us vs)

named_with : (m n : Name) (x : Use) → if_named m n (use_with x) ≡ uses_with (if_named m n x)
named_with m n x = by (same_name m n)
  where
    by : (b : Bool) → (if b then use_with x ∷ [] else []) ≡ uses_with (if b then x ∷ [] else [])
    by true = refl
    by false = refl

use_is : (m : Name) (p : Plain) (hs : List Header) → use_of m p (way hs) ≡ uses_with (use_of m p hs)
use_is m (Load r n at ty) hs = named_with m n (Affine hs false at)
use_is m (Store x n at ty) hs = named_with m n (Affine hs true at)
use_is m (RawLoad r n at ty) hs = named_with m n Other
use_is m (RawStore x n at ty) hs = named_with m n Other
use_is m (Dealloc n ty) hs = named_with m n Other
use_is m (Start x x_at y y_at t t_at n stride types) hs =
    (λ i. named_with m x Other i ++ (named_with m y Other i ++ named_with m t Other i))
    ∙ ap (λ w. uses_with (if_named m x Other) ++ w) (sym (map_append (if_named m y Other) (if_named m t Other)))
    ∙ sym (map_append (if_named m x Other) (if_named m y Other ++ if_named m t Other))
use_is m (Wait t at n ty) hs = named_with m t Other
use_is m (Value r pick at) hs = refl
use_is m (Constant r z ty) hs = refl
use_is m (Binary r op x y ty) hs = refl
use_is m (Cast r kind x from to) hs = refl
use_is m (Alloc r ty) hs = refl
use_is m Return hs = refl

pub uses_are : (m : Name) (n : Nest) (hs : List Header) → uses m (lined n) (way hs) ≡ uses_with (uses m n hs)
unfolding uses
uses_are m Nothing hs = refl
uses_are m (Loop line v l u s body rest) hs =
    let a = ap (uses m (lined body)) (sym (way_append hs (Round v l u s ∷ []))) ∙ uses_are m body (hs ++ Round v l u s ∷ []) in
    let b = ap (uses m (lined rest)) (sym (way_append hs (Past body ∷ []))) ∙ uses_are m rest (hs ++ Past body ∷ []) in
    (λ i. a i ++ b i) ∙ sym (map_append (uses m body (hs ++ Round v l u s ∷ [])) (uses m rest (hs ++ Past body ∷ [])))
uses_are m (Branch line set names first has other rest) hs =
    let hs1 = hs ++ Given set names ∷ [] in
    let hs2 = hs ++ Except set names first ∷ [] in
    let hs3 = (hs ++ Past first ∷ []) ++ Past other ∷ [] in
    let a = ap (uses m (lined first)) (sym (way_append hs (Given set names ∷ []))) ∙ uses_are m first hs1 in
    let b = ap (uses m (lined other)) (sym (way_append hs (Except set names first ∷ []))) ∙ uses_are m other hs2 in
    let c = ap (uses m (lined rest)) ((λ i. sym (way_append hs (Past first ∷ [])) i ++ way (Past other ∷ [])) ∙ sym (way_append (hs ++ Past first ∷ []) (Past other ∷ []))) ∙ uses_are m rest hs3 in
    (λ i. a i ++ (b i ++ c i)) ∙ ap (λ w. uses_with (uses m first hs1) ++ w) (sym (map_append (uses m other hs2) (uses m rest hs3)))
    ∙ sym (map_append (uses m first hs1) (uses m other hs2 ++ uses m rest hs3))
uses_are m (Does line p rest) hs =
    let a = use_is m p hs in
    let b = ap (uses m (lined rest)) (sym (way_append hs (Behind p ∷ []))) ∙ uses_are m rest (hs ++ Behind p ∷ []) in
    (λ i. a i ++ b i) ∙ sym (map_append (use_of m p hs) (uses m rest (hs ++ Behind p ∷ [])))

-- ---- regions
other_with : (us : List Use) → has_other (uses_with us) ≡ has_other us
other_with [] = refl
other_with (Affine hs stores at ∷ us) = other_with us
other_with (Other ∷ us) = refl

all_with : (args : List Arg) (us : List Use) → all_reaching args (uses_with us) ≡ all_reaching args us
all_with args [] = refl
all_with args (Affine hs stores at ∷ us) =
    (λ i. faults.◌>>=◌ (by_form (way_access args hs at i)) (λ a. faults.◌>>=◌ (all_with args us i) (λ rest. Ok (reaching_of at a ∷ rest))))
all_with args (Other ∷ us) = refl

reaching_with : (args : List Arg) (us : List Use) → reaching args (uses_with us) ≡ reaching args us
reaching_with args us = λ i. if other_with us i then Err unplaced else all_with args us i

outside_with : (args : List Arg) (hs : List Header) → outside_at args (way hs) ≡ outside_at args hs
outside_with args hs = λ i. faults.◌>>=◌ (by_form (way_place args hs [] i)) (λ k. Ok (outside_of (symbol_names args ++ way_names hs i) k))

pub region_with : (args : List Arg) (hs : List Header) (us : List Use) (sizes : List ℕ) (dma : Bool) → region_of args (way hs) (uses_with us) sizes dma ≡ region_of args hs us sizes dma
unfolding region_of
region_with args hs us sizes dma = λ i. faults.◌>>=◌ (reaching_with args us i) (λ xs. faults.◌>>=◌ (outside_with args hs i) (λ outside. region_from outside (way_loops hs i) xs sizes dma))

-- ---- cover
drop_way : (n : ℕ) (hs : List Header) → drop n (way hs) ≡ way (drop n hs)
drop_way zero hs = refl
drop_way (suc n) [] = refl
drop_way (suc n) (h ∷ hs) = drop_way n hs

unconditional_with : (hs : List Header) → unconditional (way hs) ≡ unconditional hs
unconditional_with [] = refl
unconditional_with (Round v l u s ∷ hs) = unconditional_with hs
unconditional_with (Given set names ∷ hs) = refl
unconditional_with (Except set names first ∷ hs) = refl
unconditional_with (Behind p ∷ hs) = unconditional_with hs
unconditional_with (Past n ∷ hs) = unconditional_with hs

behind_with : (h : Header) (k : Traced) → behind_one (header h) k ≡ behind_one h k
behind_with (Round v l u s) k = refl
behind_with (Given set names) k = refl
behind_with (Except set names first) k = refl
behind_with (Behind p) k = refl
behind_with (Past n) k = refl

traced_with : (hs : List Header) (k : Traced) → traced (way hs) k ≡ traced hs k
traced_with [] k = refl
traced_with (h ∷ hs) k = ap (traced (way hs)) (behind_with h k) ∙ traced_with hs (behind_one h k)

going_with : (h : Header) (k : Traced) (rest : Result (List Going) LinearFault) → with_going (header h) k rest ≡ with_going h k rest
going_with (Round v l u s) k rest = refl
going_with (Given set names) k rest = refl
going_with (Except set names first) k rest = refl
going_with (Behind p) k rest = refl
going_with (Past n) k rest = refl

goings_with : (hs : List Header) (k : Traced) → goings (way hs) k ≡ goings hs k
goings_with [] k = refl
goings_with (h ∷ hs) k = (λ i. with_going (header h) k (goings (way hs) (behind_with h k i))) ∙ going_with h k (goings (way hs) (behind_one h k)) ∙ ap (with_going h k) (goings_with hs (behind_one h k))

swept_with : (hs : List Header) (at : Access) (k : Traced) → swept (way hs) at k ≡ swept hs at k
swept_with hs at k = λ i. goings_with hs k i >>= (λ gs. traces.with_subscripts gs (map_forms (traced_with hs k i).forms (traced_with hs k i).next at []))

traced_at_with : (args : List Arg) (hs there : List Header) → traced_at args (way hs) (loop_count (way there)) ≡ traced_at args hs (loop_count there)
traced_at_with args hs there =
    (λ i. traced (way hs) (traces.with_arguments args (nothing_traced (symbol_count args + way_loops there i))))
    ∙ traced_with hs (traces.with_arguments args (nothing_traced (symbol_count args + loop_count there)))

pub covers_with : (args : List Arg) (hs : List Header) (us : List Use) (outer : ℕ) (ds : List Dimension) → covers args (way hs) (uses_with us) outer ds ≡ covers args hs us outer ds
unfolding covers
covers_with args hs [] outer ds = refl
covers_with args hs (Other ∷ us) outer ds = refl
covers_with args hs (Affine there false at ∷ us) outer ds = refl
covers_with args hs (Affine there true at ∷ []) outer ds =
    let inner = drop (length hs) there in
    let is : drop (length (way hs)) (way there) ≡ way inner = (λ i. drop (way_length hs i) (way there)) ∙ drop_way (length hs) there in
    (λ i. unconditional (is i) && covers_from outer ds (swept (is i) at (traced_at_with args hs there i)))
    ∙ (λ i. unconditional_with inner i && covers_from outer ds (swept_with inner at (traced_at args hs (loop_count there)) i))
covers_with args hs (Affine there true at ∷ (u ∷ us)) outer ds = refl
