-- What names stand for, under new names.
use Rattle.std.proofs.Common.{◌≡◌, ℤ, List, [], ◌∷◌, map, take, drop, refl, sym, ap, ◌∙◌, Bool, true}
use Rattle.std.specs.Prelude.{Option, Some, None, if◌then◌else◌}
use Rattle.affine_expr.specs.declared.map.Set.{Set}
use Rattle.affine_expr.specs.Truth.{holds}
use Rattle.affine_expr.specs.Value.{value}
use Rattle.affine_ast.specs.declared.name.Name.{Name}
use Rattle.affine_ast.specs.declared.types.Access.{Access}
use Rattle.affine_ast.specs.declared.types.Bound.{Bound}
use Rattle.affine_ast.specs.declared.types.Bound.TheVariants as bound
use Rattle.affine_ast.specs.declared.types.MemrefType.{MemrefType}
use Rattle.affine_ast.specs.Names.{put}
use Rattle.direct_meaning.specs.Static.{Env, number, numbers, operand_of, operand, results_of, greatest, least, lower_of, upper_of, holds_at, cell_in, place_at, place_of, tag_at, tag_of}
use Rattle.placement_texts.specs.Own.{OwnNames, OwnBound}
use Rattle.placement_texts.specs.Renamed.{access_named, bound_named, operand_named, KeepsApart, RenamesEnv}

module _ (f : Name → Name) (own : Name → Bool) where
  -- a name more, on both sides
  pub put_named : {A : Type 0} (s t : Name → A) (r : Name) (x y : A) → KeepsApart f own → own r ≡ true → x ≡ y → ((n : Name) → own n ≡ true → t (f n) ≡ s n) → (n : Name) → own n ≡ true → put t (f r) y (f n) ≡ put s r x n
  unfolding put
  put_named s t r x y apart o is h n k = λ i. if apart r n o k i then sym is i else h n k i

  module _ (e g : Env) (r : RenamesEnv f own e g) where
    numbers_named : (ns : List Name) → OwnNames own ns → numbers g (map f ns) ≡ numbers e ns
    numbers_named [] o = refl
    numbers_named (n ∷ ns) o = λ i. number (r.known n o.0 i) ∷ numbers_named ns o.1 i

    pub results_named : (at : Access) → OwnNames own at.operands → results_of g (access_named f at) ≡ results_of e at
    unfolding results_of
    results_named at o = ap (λ zs. map (value (take at.map.dims zs) (drop at.map.dims zs)) at.map.results) (numbers_named at.operands o)

    pub lower_named : (l : Bound) → OwnBound own l → lower_of g (bound_named f l) ≡ lower_of e l
    unfolding lower_of
    lower_named (bound.Int z) o = refl
    lower_named (bound.Value n) o = ap number (r.known n o)
    lower_named (bound.Map at) o = ap greatest (results_named at o)

    pub upper_named : (u : Bound) → OwnBound own u → upper_of g (bound_named f u) ≡ upper_of e u
    unfolding upper_of
    upper_named (bound.Int z) o = refl
    upper_named (bound.Value n) o = ap number (r.known n o)
    upper_named (bound.Map at) o = ap least (results_named at o)

    pub holds_named : (set : Set) (ns : List Name) → OwnNames own ns → holds_at g set (map f ns) ≡ holds_at e set ns
    unfolding holds_at
    holds_named set ns o = ap (λ zs. holds (take set.dims zs) (drop set.dims zs) set) (numbers_named ns o)

    pub place_named : (m : Name) (at : Access) (ty : MemrefType) → own m ≡ true → OwnNames own at.operands → place_of g (f m) (access_named f at) ty ≡ place_of e m at ty
    unfolding place_of
    place_named m at ty o h = λ i. place_at (r.home m o i) ty.sizes (results_named at h i)

    pub tag_named : (t : Name) (at : Access) (ty : MemrefType) → own t ≡ true → OwnNames own at.operands → tag_of g (f t) (access_named f at) ty ≡ tag_of e t at ty
    unfolding tag_of
    tag_named t at ty o h = λ i. tag_at (r.home t o i) (cell_in ty.sizes (results_named at h i))

    pub operand_is : (n : Name) → own n ≡ true → operand g (f n) ≡ operand_named f (operand e n)
    operand_is n o = ap (operand_of (f n)) (r.known n o) ∙ by (e.known n)
      where
        by : (x : Option ℤ) → operand_of (f n) x ≡ operand_named f (operand_of n x)
        by (Some z) = refl
        by None = refl

    pub operands_are : (ns : List Name) → OwnNames own ns → map (operand g) (map f ns) ≡ map (operand_named f) (map (operand e) ns)
    operands_are [] o = refl
    operands_are (n ∷ ns) o = λ i. operand_is n o.0 i ∷ operands_are ns o.1 i
