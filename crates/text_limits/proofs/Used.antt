-- The accesses that are redirected are the uses of the memref.
use Rattle.std.proofs.Common.{◌≡◌, List, [], ◌∷◌, ◌++◌, Bool, true, false, refl, ap, ◌∙◌}
use Rattle.std.specs.Prelude.{if◌then◌else◌}
use Rattle.affine_ast.specs.declared.name.Name.{Name}
use Rattle.affine_ast.specs.declared.types.Access.{Access}
use Rattle.affine_ast.specs.Names.{same_name}
use Rattle.affine_ast.specs.Nest.{Plain, Nest, Nothing, Loop, Branch, Does, Value, Load, Store, RawLoad, RawStore, Constant, Binary, Cast, Alloc, Dealloc, Start, Wait, Return}
use Rattle.nest_domain.specs.Ways as ways
use Rattle.nest_domain.specs.Ways.{Header, Use, Affine, Other, if_named, use_of, uses}
use Rattle.placement_regions.specs.Sites.{from_spot, way_to, loop_uses}
use Rattle.text_limits.specs.Adding.{accesses_of, accesses_in, accesses_in_loop, subscripts, UsesAreAccesses}

both : (xs ys : List Use) → subscripts (xs ++ ys) ≡ subscripts xs ++ subscripts ys
both [] ys = refl
both (Affine way stores at ∷ xs) ys = ap (λ zs. at ∷ zs) (both xs ys)
both (Other ∷ xs) ys = both xs ys

module _ (m : Name) where
  named : (b : Bool) (way : List Header) (stores : Bool) (at : Access) → subscripts (if b then Affine way stores at ∷ [] else []) ≡ (if b then at ∷ [] else [])
  named true way stores at = refl
  named false way stores at = refl

  no_access : (b : Bool) → subscripts (if b then Other ∷ [] else []) ≡ []
  no_access true = refl
  no_access false = refl

  of_plain : (q : Plain) (way : List Header) → subscripts (use_of m q way) ≡ accesses_of m q
  of_plain (Load r n at ty) way = named (same_name m n) way false at
  of_plain (Store x n at ty) way = named (same_name m n) way true at
  of_plain (RawLoad r n at ty) way = no_access (same_name m n)
  of_plain (RawStore x n at ty) way = no_access (same_name m n)
  of_plain (Dealloc n ty) way = no_access (same_name m n)
  of_plain (Start x x_at y y_at t t_at n stride types) way =
      both (if_named m x Other) (if_named m y Other ++ if_named m t Other)
      ∙ ap (λ xs. xs ++ subscripts (if_named m y Other ++ if_named m t Other)) (no_access (same_name m x))
      ∙ both (if_named m y Other) (if_named m t Other)
      ∙ ap (λ xs. xs ++ subscripts (if_named m t Other)) (no_access (same_name m y))
      ∙ no_access (same_name m t)
  of_plain (Wait t at n ty) way = no_access (same_name m t)
  of_plain (Value r pick at) way = refl
  of_plain (Constant r z ty) way = refl
  of_plain (Binary r op x y ty) way = refl
  of_plain (Cast r kind x from to) way = refl
  of_plain (Alloc r ty) way = refl
  of_plain Return way = refl

  of_text : (n : Nest) (way : List Header) → subscripts (uses m n way) ≡ accesses_in m n
  unfolding uses
  of_text Nothing way = refl
  of_text (Loop line v l u s body rest) way =
      let inner = way ++ ways.Round v l u s ∷ [] in
      let behind = way ++ ways.Past body ∷ [] in
      both (uses m body inner) (uses m rest behind) ∙ (λ i. of_text body inner i ++ of_text rest behind i)
  of_text (Branch line set names first has other rest) way =
      let given = way ++ ways.Given set names ∷ [] in
      let except = way ++ ways.Except set names first ∷ [] in
      let behind = (way ++ ways.Past first ∷ []) ++ ways.Past other ∷ [] in
      both (uses m first given) (uses m other except ++ uses m rest behind)
      ∙ (λ i. of_text first given i ++ both (uses m other except) (uses m rest behind) i)
      ∙ (λ i. accesses_in m first ++ (of_text other except i ++ of_text rest behind i))
  of_text (Does line q rest) way =
      let behind = way ++ ways.Behind q ∷ [] in
      both (use_of m q way) (uses m rest behind) ∙ (λ i. of_plain q way i ++ of_text rest behind i)

  in_loop : (n : Nest) (way : List Header) → subscripts (loop_uses m way n) ≡ accesses_in_loop m n
  in_loop Nothing way = refl
  in_loop (Loop line v l u s body rest) way = of_text body (way ++ ways.Round v l u s ∷ [])
  in_loop (Branch line set names first has other rest) way = refl
  in_loop (Does line q rest) way = refl

pub uses_are_accesses : UsesAreAccesses
uses_are_accesses n m s = in_loop m (from_spot s n) (way_to s n)
