-- A loop and a load that a path names.
use Rattle.std.proofs.Common.{◌≡◌, List, [], ◌∷◌, Option, Some, ℤ, sym, ap, ◌∙◌, subst}
use Rattle.std.specs.Prelude.{slice_get}
use Rattle.std.specs.Option.{option_map}
use Rattle.affine_ast.specs.declared.name.Name.{Name}
use Rattle.affine_ast.specs.declared.stmt.Stmt.{Stmt}
use Rattle.affine_ast.specs.declared.stmt.What as what
use Rattle.affine_ast.specs.declared.types.Access.{Access}
use Rattle.affine_ast.specs.declared.types.Bound.{Bound}
use Rattle.affine_ast.specs.declared.types.MemrefType.{MemrefType}
use Rattle.affine_ast.specs.Nest.{nest, put_what}
use Rattle.affine_ast.proofs.Nests.{nest-cons, put-For, put-Load}
use Rattle.nest_domain.specs.declared.step.Found.{Found}
use Rattle.nest_domain.specs.Ways.{Spot}
use Rattle.nest_domain.specs.Steps.{spot_of}
use Rattle.nest_domain.specs.Accessing.{IsLoop, subscripts, NamesLoop, NamesAccess}

loop_first : (list : List Stmt) (s : Stmt) (v : Name) (l u : Bound) (st : ℤ) (body : List Stmt) → slice_get list 0 ≡ Some s → s.what ≡ what.For v l u st body → IsLoop (nest list)
loop_first [] s v l u st body e w = absurd (let z : ⊥ = cc in z)
loop_first (x ∷ xs) s v l u st body e w =
    let same : x ≡ s = cc in
    subst IsLoop (sym (nest-cons x xs ∙ ap (λ (y : Stmt). put_what y.what y.line (nest xs)) same ∙ ap (λ y. put_what y s.line (nest xs)) w ∙ put-For s.line (nest xs) v l u st body)) tt

pub named : (found : Found) (o : Option Spot) (s : Stmt) (v : Name) (l u : Bound) (st : ℤ) (body : List Stmt) → option_map spot_of (Some found) ≡ o → slice_get found.here.now 0 ≡ Some s → s.what ≡ what.For v l u st body → NamesLoop o
named found o s v l u st body e f w = (spot_of found, sym e, loop_first found.here.now s v l u st body f w)

load_first : (list : List Stmt) (s : Stmt) (r m : Name) (at : Access) (ty : MemrefType) → slice_get list 0 ≡ Some s → s.what ≡ what.Load r m at ty → subscripts (nest list) ≡ Some at
load_first [] s r m at ty e w = absurd (let z : ⊥ = cc in z)
load_first (x ∷ xs) s r m at ty e w =
    let same : x ≡ s = cc in
    ap subscripts (nest-cons x xs ∙ ap (λ (y : Stmt). put_what y.what y.line (nest xs)) same ∙ ap (λ y. put_what y s.line (nest xs)) w ∙ put-Load s.line (nest xs) r m at ty)

pub loaded : (found : Found) (o : Option Spot) (s : Stmt) (r m : Name) (at : Access) (ty : MemrefType) → option_map spot_of (Some found) ≡ o → slice_get found.here.now 0 ≡ Some s → s.what ≡ what.Load r m at ty → NamesAccess o
loaded found o s r m at ty e f w = (spot_of found, at, sym e, load_first found.here.now s r m at ty f w)
