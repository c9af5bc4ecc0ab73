-- The loop that a path names.
use Rattle.std.proofs.Common.{◌≡◌, ℕ, zero, suc, Bool, List, [], ◌∷◌, get_or, Option, Some, None, Result, Ok, ℤ, sym, ap, subst, ◌∙◌}
use Rattle.std.specs.Prelude.{slice_get}
use Rattle.affine_ast.specs.declared.module.Arg.{Arg}
use Rattle.affine_ast.specs.declared.name.Name.{Name}
use Rattle.affine_ast.specs.declared.stmt.Stmt.{Stmt}
use Rattle.affine_ast.specs.declared.stmt.What as what
use Rattle.affine_ast.specs.declared.stmt.What.{What}
use Rattle.affine_ast.specs.declared.stmt.What.TheOpen.{What-F}
use Rattle.affine_ast.specs.declared.stmt.What.TheVariants.{rolls-For}
use Rattle.affine_ast.specs.declared.types.Bound.{Bound}
use Rattle.affine_ast.specs.Nest.{Nest, nest, put_what}
use Rattle.affine_ast.proofs.Nests.{nest-nil, nest-cons, put_what_is, put-For}
use Rattle.nest_domain.specs.Ways.{Header, Spot, Use, loop_count}
use Rattle.nest_domain.specs.Boxes.{Dimension}
use Rattle.text_places.specs.Blocks.{Block}
use Rattle.access_region.specs.declared.fault.RegionFault.{RegionFault}
use Rattle.access_region.specs.Faults.{NoRegion, ◌>>=◌, IsRefused}
use Rattle.access_region.specs.Candidates.{Reaching}
use Rattle.access_region.specs.Regions.{Outside, reaching, outside_at}
use Rattle.access_region.specs.Places.{region_from, region_of}
use Rattle.access_region.proofs.Froms.{stops}
use Rattle.access_region.specs.Finding.{loop_in, loop_at, region_in, region_by, region_at, covers_in, covers_by, covers_at}

at_head : (list : List Stmt) (s : Stmt) → slice_get list 0 ≡ Some s → (rest : Nest) × (nest list ≡ put_what s.what s.line rest)
at_head [] s e = absurd (let z : ⊥ = cc in z)
at_head (x ∷ xs) s e = let same : x ≡ s = cc in (nest xs, nest-cons x xs ∙ ap (λ (y : Stmt). put_what y.what y.line (nest xs)) same)

pub no_statement : (way : List Header) (list : List Stmt) → slice_get list 0 ≡ None → loop_in way (nest list) ≡ None
no_statement way [] e = ap (loop_in way) nest-nil
no_statement way (x ∷ xs) e = absurd (let z : ⊥ = cc in z)

pub loop_there : (way : List Header) (list : List Stmt) (s : Stmt) (v : Name) (l u : Bound) (st : ℤ) (body : List Stmt) → slice_get list 0 ≡ Some s → s.what ≡ what.For v l u st body
    → loop_in way (nest list) ≡ Some (record { way = way; line = s.line; var = v; lower = l; upper = u; step = st; body = nest body })
loop_there way list s v l u st body e w =
    let h = at_head list s e in
    ap (loop_in way) (h.1 ∙ ap (λ y. put_what y s.line h.0) w ∙ put-For s.line h.0 v l u st body)

pub no_loop_there : (way : List Header) (list : List Stmt) (s : Stmt) → slice_get list 0 ≡ Some s → ((v : Name) (l u : Bound) (st : ℤ) (body : List Stmt) → s.what ≡ what.For v l u st body → ⊥) → loop_in way (nest list) ≡ None
no_loop_there way list s e no_loop = ap (loop_in way) (at_head list s e).1 ∙ by (what.out-What s.what) (what.roll-out-What s.what)
  where
    by : (x : What-F What Stmt) → what.roll-What x ≡ s.what → loop_in way (put_what s.what s.line (at_head list s e).0) ≡ None
    by (What-F.For v l u st body) d = absurd (no_loop v l u st body (sym d ∙ rolls-For v l u st body))
    by x d = ap (loop_in way) (put_what_is s.line (at_head list s e).0 x s.what d)

-- what is found is what the path names
pub region_there : (args : List Arg) (s t : Spot) (o : Option Spot) (b : Block) (m : Name) (sizes : List ℕ) (dma : Bool) → Some t ≡ o → o ≡ Some s → Some b ≡ loop_at t → region_in args b m sizes dma ≡ region_at args s m sizes dma
region_there args s t o b m sizes dma e f h = let same : t ≡ s = cc in ap (λ x. region_by args x m sizes dma) (h ∙ ap loop_at same)

pub covers_there : (args : List Arg) (s t : Spot) (o : Option Spot) (b : Block) (m : Name) (ds : List Dimension) → Some t ≡ o → o ≡ Some s → Some b ≡ loop_at t → covers_in args b m ds ≡ covers_at args s m ds
covers_there args s t o b m ds e f h = let same : t ≡ s = cc in ap (λ x. covers_by args x m ds) (h ∙ ap loop_at same)

pub same_item : {A : Type 0} (xs : List A) (k : ℕ) (x y : A) → x ≡ get_or xs k x → slice_get xs k ≡ Some y → x ≡ y
same_item [] k x y e h = absurd (let z : ⊥ = cc in z)
same_item (z ∷ zs) zero x y e h = e ∙ (let same : z ≡ y = cc in same)
same_item (z ∷ zs) (suc k) x y e h = same_item zs k x y e h

-- ---- a region from its accesses and its outside
module _ (args : List Arg) (way : List Header) (us : List Use) (sizes : List ℕ) (dma : Bool) where
  abbrev from_outside : List Reaching → Outside → Result (List Dimension) NoRegion
  from_outside xs outside = region_from outside (loop_count way) xs sizes dma

  pub no_accesses : (e : RegionFault) → IsRefused (reaching args us) e → IsRefused (region_of args way us sizes dma) e
  unfolding region_of
  no_accesses e h = stops (reaching args us) _ e h

  pub no_outside : (xs : List Reaching) (e : RegionFault) → reaching args us ≡ Ok xs → IsRefused (outside_at args way) e → IsRefused (region_of args way us sizes dma) e
  unfolding region_of
  no_outside xs e r h = subst (λ (w : Result (List Reaching) NoRegion). IsRefused (w >>= (λ xs. outside_at args way >>= from_outside xs)) e) (sym r) (stops (outside_at args way) (from_outside xs) e h)

  pub region_given : (xs : List Reaching) (outside : Outside) → reaching args us ≡ Ok xs → outside_at args way ≡ Ok outside → region_of args way us sizes dma ≡ region_from outside (loop_count way) xs sizes dma
  unfolding region_of
  region_given xs outside r h = ap (λ w. w >>= (λ xs. outside_at args way >>= from_outside xs)) r ∙ ap (λ w. w >>= from_outside xs) h
