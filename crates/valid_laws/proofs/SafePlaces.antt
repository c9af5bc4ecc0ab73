-- What is safe at each place of a valid text.
use Rattle.std.proofs.Common.{◌≡◌, ℕ, suc, ◌+◌, ◌≤◌, ◌<◌, Bool, true, false, List, [], ◌∷◌, length, refl, sym, ◌∙◌, arith}
use Rattle.std.specs.Prelude.{◌&&◌, nat_eq, nat_le, Some, if◌then◌else◌}
use Rattle.std.specs.List.{All, list_all}
use Rattle.std.proofs.lemmas.Bool.{and_parts}
use Rattle.std.proofs.lemmas.List.Elements.{All-nil, All-cons}
use Rattle.affine_expr.specs.declared.map.Set.{Set}
use Rattle.affine_expr.specs.Pure.{has_leaves_below}
use Rattle.int_ops.specs.Cast.{CanCast}
use Rattle.int_ops.specs.declared.operation.CastKind.{CastKind}
use Rattle.int_ops.specs.declared.operation.CastKind.TheVariants as cast
use Rattle.affine_ast.specs.declared.name.Name.{Name}
use Rattle.affine_ast.specs.declared.types.Access.{Access}
use Rattle.affine_ast.specs.declared.types.Bound.{Bound}
use Rattle.affine_ast.specs.declared.types.Bound.TheVariants as bound
use Rattle.affine_ast.specs.declared.types.MemrefType.{MemrefType}
use Rattle.affine_ast.specs.declared.types.Pick.{Pick}
use Rattle.affine_ast.specs.declared.types.Pick.TheVariants.{Apply, Min, Max}
use Rattle.affine_ast.specs.declared.types.Scalar.{Scalar}
use Rattle.affine_ast.specs.declared.types.Scalar.TheVariants as scalar
use Rattle.affine_ast.specs.Rules.{map_fits, has_result, set_fits, row_has_leaves, subscripts_fit, results_fit, ends_fit, access_stands, bound_stands, bound_fits, operands_stand, bound_bounded, casts_between, ends_typed, is_memref_of, same_element, are_indexes, ends_in_spaces, shape_within, sizes_positive, rank_within}
use Rattle.affine_ast.specs.Scope.{Scope, Around, tags_of}
use Rattle.affine_ast.specs.Sizes.{scalar_bits, product}
use Rattle.direct_meaning.specs.Action.{Home, FastMemref, TagMemref}
use Rattle.direct_meaning.specs.Actions.{is_fast}
use Rattle.direct_meaning.specs.Static.{Env, results_of, lower_of, upper_of}
use Rattle.valid_laws.specs.Evaluable.{EvaluableAccess, EvaluableSet, EvaluableBound}
use Rattle.valid_laws.specs.Safe.{IsSmall, SafeAccess, HasResults, SafeBound, SafeCondition, IsFast, AreTags, StandsFor, IsMemref, SafePlace, SafeRawCell, new_home, SafeTypes}
use Rattle.valid_laws.proofs.Counted.{AllocHolds, tags_taken}
use Rattle.valid_laws.proofs.Scoped.{ScopeStands, operands_known, number_of_dimension, small_of_dimension, indexes_fit, memref_of}
use Rattle.valid_laws.proofs.Small.{small_of_test, each_of_all, all_small, greatest_small, least_small}

-- ---- a new allocation

positive_sizes : (ns : List ℕ) → list_all (nat_le 1) ns ≡ true → All (λ n. 1 ≤ n) ns
positive_sizes [] t = All-nil (λ n. 1 ≤ n)
positive_sizes (n ∷ ns) t =
    let two = and_parts (nat_le 1 n) (list_all (nat_le 1) ns) t in
    All-cons (λ n. 1 ≤ n) n ns (grind (arith, two.0)) (positive_sizes ns two.1)

pub shape_sizes : (ty : MemrefType) → shape_within ty ≡ true → All (λ n. 1 ≤ n) ty.sizes
unfolding shape_within sizes_positive
shape_sizes ty t = positive_sizes ty.sizes (and_parts (list_all (nat_le 1) ty.sizes) (rank_within ty.space (length ty.sizes)) t).0

pub shape_rank : (ty : MemrefType) (space : ℕ) → ty.space ≡ space → shape_within ty ≡ true → rank_within space (length ty.sizes) ≡ true
unfolding shape_within
shape_rank ty space e t = (λ i. rank_within (sym e i) (length ty.sizes)) ∙ (and_parts _ (rank_within ty.space (length ty.sizes)) t).1

fast_home : (ty : MemrefType) (number elements : ℕ) → ty.space ≡ 1 → shape_within ty ≡ true → number < 65536 → elements + product ty.sizes ≤ 16777216 → IsFast number ty
fast_home ty number elements e t n c =
    let r = and_parts (nat_le 1 (length ty.sizes)) (nat_le (length ty.sizes) 7) (shape_rank ty 1 e t) in
    record { space = e; has_halves = grind (arith, r.0); rank = grind (arith, r.1); number_fits = n; cells_fit = omega (arith, c) }

tag_home : (ty : MemrefType) (first tags : ℕ) → ty.space ≡ 2 → shape_within ty ≡ true → first ≤ tags → tags + tags_of ty.space (product ty.sizes) ≤ 65536 → AreTags first ty
tag_home ty first tags e t f c =
    let r = shape_rank ty 2 e t in
    let k = tags_taken ty (product ty.sizes) e in
    record { space = e; rank = grind (arith, r); numbers_fit = omega (arith, c, f, k) }

by_kind : (P : Home → Type 0) (t : Bool) (x y : Home) → (t ≡ true → P x) → (t ≡ false → P y) → P (if t then x else y)
by_kind P true x y f g = f refl
by_kind P false x y f g = g refl

pub alloc_safe : (a : Around) (e : Env) (ty : MemrefType) → AllocHolds ty a.totals → suc e.fasts ≤ a.totals.statements → e.tags ≤ a.totals.tags → a.totals.statements ≤ 65536 → IsMemref (Some (new_home e ty)) ty
alloc_safe a e ty h f g s = record {
  stands = by_kind (λ home. StandsFor (Some home) ty) (is_fast ty) (FastMemref e.fasts) (TagMemref e.tags)
      (λ t. fast_home ty e.fasts a.totals.allocated (grind (arith, t)) h.shape (omega (arith, f, s)) h.elements)
      (λ t. tag_home ty e.tags a.totals.tags (h.space t) h.shape g h.tags);
  sizes = shape_sizes ty h.shape;
}

-- ---- casts

pub can_cast : (kind : CastKind) (from to : Scalar) → casts_between kind from to ≡ true → CanCast kind (scalar_bits from) (scalar_bits to)
can_cast cast.ExtS (scalar.Int a) (scalar.Int b) t = grind (arith, t)
can_cast cast.ExtS (scalar.Int a) scalar.Index t = absurd (let z : ⊥ = cc in z)
can_cast cast.ExtS scalar.Index to t = absurd (let z : ⊥ = cc in z)
can_cast cast.ExtU (scalar.Int a) (scalar.Int b) t = grind (arith, t)
can_cast cast.ExtU (scalar.Int a) scalar.Index t = absurd (let z : ⊥ = cc in z)
can_cast cast.ExtU scalar.Index to t = absurd (let z : ⊥ = cc in z)
can_cast cast.Trunc (scalar.Int a) (scalar.Int b) t = grind (arith, t)
can_cast cast.Trunc (scalar.Int a) scalar.Index t = absurd (let z : ⊥ = cc in z)
can_cast cast.Trunc scalar.Index to t = absurd (let z : ⊥ = cc in z)
can_cast cast.Index from to t = tt

-- ---- maps, bounds and conditions

pub results_safe : (pick : Pick) (at : Access) → results_fit pick at ≡ true → HasResults pick at
results_safe Apply at t = grind (arith, t)
results_safe Min at t = tt
results_safe Max at t = tt

module _ (s : Scope) (e : Env) (h : ScopeStands s e) where
  pub access_safe : (at : Access) → map_fits at ≡ true → access_stands s at ≡ true → EvaluableAccess e at → SafeAccess e at
  unfolding map_fits results_of
  access_safe at f t v =
      let one = (and_parts (nat_eq (length at.operands) (at.map.dims + at.map.syms)) (list_all (has_leaves_below at.map.dims at.map.syms) at.map.results) f).0 in
      record { count = grind (arith, one); known = operands_known s e h at.map.dims at.operands t; evaluable = each_of_all _ _ at.map.results v; small = all_small _ _ at.map.results v }

  pub bound_safe : (b : Bound) → bound_fits b ≡ true → bound_stands s b ≡ true → bound_bounded s b ≡ true → EvaluableBound e b → SafeBound e b
  bound_safe (bound.Int z) f t k v = small_of_test z k
  bound_safe (bound.Value n) f t k v = number_of_dimension s e h n t
  bound_safe (bound.Map at) f t k v = access_safe at (and_parts (map_fits at) (has_result at) f).0 t v

  pub lower_safe : (b : Bound) → bound_stands s b ≡ true → bound_bounded s b ≡ true → SafeBound e b → IsSmall (lower_of e b)
  unfolding lower_of
  lower_safe (bound.Int z) t k v = v
  lower_safe (bound.Value n) t k v = small_of_dimension s e h n t k
  lower_safe (bound.Map at) t k v = greatest_small (results_of e at) v.small

  pub upper_safe : (b : Bound) → bound_stands s b ≡ true → bound_bounded s b ≡ true → SafeBound e b → IsSmall (upper_of e b)
  unfolding upper_of
  upper_safe (bound.Int z) t k v = v
  upper_safe (bound.Value n) t k v = small_of_dimension s e h n t k
  upper_safe (bound.Map at) t k v = least_small (results_of e at) v.small

  pub condition_safe : (set : Set) (names : List Name) → set_fits set names ≡ true → operands_stand s set.dims names ≡ true → EvaluableSet e set names → SafeCondition e set names
  unfolding set_fits
  condition_safe set names f t v =
      let one = (and_parts (nat_eq (length names) (set.dims + set.syms)) (list_all (row_has_leaves set.dims set.syms) set.rows) f).0 in
      record { count = grind (arith, one); known = operands_known s e h set.dims names t; evaluable = v }

  -- ---- memrefs

  pub place_safe : (m : Name) (at : Access) (ty : MemrefType) → subscripts_fit at ty ≡ true → access_stands s at ≡ true → is_memref_of s m ty ≡ true → EvaluableAccess e at → SafePlace e m at ty
  unfolding subscripts_fit
  place_safe m at ty f t k v =
      let two = and_parts (map_fits at) (nat_eq (length at.map.results) (length ty.sizes)) f in
      record { memref = memref_of s e h m ty k; access = access_safe at two.0 t v; subscripts = grind (arith, two.1) }

  pub raw_safe : (m : Name) (at : List Name) (ty : MemrefType) → nat_eq (length at) (length ty.sizes) ≡ true → nat_le ty.space 1 ≡ true → is_memref_of s m ty ≡ true → are_indexes s at ≡ true → SafeRawCell e m at ty
  raw_safe m at ty f l k i = record { memref = memref_of s e h m ty k; space = grind (arith, l); subscripts = grind (arith, f); known = indexes_fit s e h at i }

  pub ends_safe : (x y t : Name) (xa ya ta : Access) (types : List MemrefType) → ends_fit xa ya ta types ≡ true → access_stands s xa ≡ true → access_stands s ya ≡ true → access_stands s ta ≡ true
      → ends_typed s x y t types ≡ true → ends_in_spaces types ≡ true → EvaluableAccess e xa → EvaluableAccess e ya → EvaluableAccess e ta → SafeTypes e x xa y ya t ta types
  ends_safe x y t xa ya ta (x_ty ∷ y_ty ∷ t_ty ∷ []) f px py pt k l vx vy vt =
      let f1 = and_parts (subscripts_fit xa x_ty) (subscripts_fit ya y_ty && subscripts_fit ta t_ty) f in
      let f2 = and_parts (subscripts_fit ya y_ty) (subscripts_fit ta t_ty) f1.1 in
      let k1 = and_parts (is_memref_of s x x_ty) (is_memref_of s y y_ty && (is_memref_of s t t_ty && same_element x_ty.element y_ty.element)) k in
      let k2 = and_parts (is_memref_of s y y_ty) (is_memref_of s t t_ty && same_element x_ty.element y_ty.element) k1.1 in
      let k3 = and_parts (is_memref_of s t t_ty) (same_element x_ty.element y_ty.element) k2.1 in
      let l1 = and_parts (nat_le x_ty.space 1) (nat_le y_ty.space 1 && (nat_eq (x_ty.space + y_ty.space) 1 && nat_eq t_ty.space 2)) l in
      let l2 = and_parts (nat_le y_ty.space 1) (nat_eq (x_ty.space + y_ty.space) 1 && nat_eq t_ty.space 2) l1.1 in
      let l3 = and_parts (nat_eq (x_ty.space + y_ty.space) 1) (nat_eq t_ty.space 2) l2.1 in
      record {
        from = place_safe x xa x_ty f1.0 px k1.0 vx;
        to = place_safe y ya y_ty f2.0 py k2.0 vy;
        tag = place_safe t ta t_ty f2.1 pt k3.0 vt;
        spaces = grind (arith, l3.0);
        tag_space = grind (arith, l3.1);
        elements = grind (arith, k3.1);
      }
  ends_safe x y t xa ya ta [] f px py pt k l vx vy vt = absurd (let z : ⊥ = cc in z)
  ends_safe x y t xa ya ta (a ∷ []) f px py pt k l vx vy vt = absurd (let z : ⊥ = cc in z)
  ends_safe x y t xa ya ta (a ∷ b ∷ []) f px py pt k l vx vy vt = absurd (let z : ⊥ = cc in z)
  ends_safe x y t xa ya ta (a ∷ b ∷ c ∷ d ∷ more) f px py pt k l vx vy vt = absurd (let z : ⊥ = cc in z)
