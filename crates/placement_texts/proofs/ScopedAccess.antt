-- A redirected access breaks no rule but tested ones, where the fast memref and the values that say places are in scope.
use Rattle.std.proofs.Common.{◌≡◌, ℕ, suc, ◌+◌, ◌≤◌, ℤ, pos, List, [], ◌∷◌, length, refl, sym, ap, ◌∙◌, arith, Bool, true, false, take}
use Rattle.std.specs.Prelude.{not, ◌&&◌, Option, Some, None, nat_eq, is_some, if◌then◌else◌}
use Rattle.std.specs.Ordering.{int_eq}
use Rattle.std.specs.List.{list_all}
use Rattle.std.specs.Cmp.Lexicographic.{pointwise}
use Rattle.std.proofs.lemmas.Bool.{and_parts, eqb-true, eq-eqb}
use Rattle.affine_expr.specs.declared.expr.Expr.{Expr, Dim, Const, Sub, fold-Expr, fold-roll-Expr}
use Rattle.affine_expr.specs.declared.expr.Expr.TheVariants.{rolls-Dim, rolls-Const, rolls-Sub}
use Rattle.affine_expr.specs.declared.expr.Expr.TheOpen.{Expr-F}
use Rattle.affine_expr.specs.Pure.{Purity, purity_step, is_pure}
use Rattle.affine_expr.specs.Spread.{Range}
use Rattle.affine_ast.specs.declared.name.Name.{Name}
use Rattle.affine_ast.specs.declared.types.Access.{Access}
use Rattle.affine_ast.specs.declared.types.Element.{Element}
use Rattle.affine_ast.specs.declared.types.MemrefType.{MemrefType}
use Rattle.affine_ast.specs.declared.types.Scalar.TheVariants.{Int, Index}
use Rattle.affine_ast.specs.Nest.{Nest, Load, Store}
use Rattle.affine_ast.specs.Sizes.{element_bits}
use Rattle.affine_ast.specs.Scope.{Binding, Variable, Symbol, IndexConstant, Data, MemrefArgument, Allocation, Scope, Around}
use Rattle.affine_ast.specs.Rules.{is_in, are_in, may_be_dimension, is_dimension, is_symbol, operands_stand, is_memref_of, is_of, binding_is_memref_of, binding_is_scalar, same_element, same_type, map_fits, subscripts_fit, access_pure, access_bounded, is_live, text_within}
use Rattle.affine_ast.specs.Validity.{rule_of_plain}
use Rattle.valid_laws.proofs.Passing.{Holds}
use Rattle.placement_texts.specs.Own.{OwnNames, OwnPlain}
use Rattle.placement_texts.specs.Template.{Placement, dim_sizes, dim_extents, slow_type, fast_type, fast_name, number_of, less_by, Begin, Fixed, Named, named, less_places, in_fast, begins, Dimension}
use Rattle.placement_texts.specs.Tests.{OnlyTested, Sees}
use Rattle.placement_texts.proofs.Scoped.{rules_of_plain, are_same, in_same, new_same, operands_same, scalar_same, value_same}
use Rattle.placement_texts.proofs.ScopedRedirect.{in_fast_fits, in_fast_uses, in_fast_dims, in_fast_syms, all_both}

-- ---- V8
pub pure-Const : (z : ℤ) → is_pure (Const z) ≡ true
unfolding is_pure
pure-Const z = ap (λ e. (fold-Expr Purity purity_step e).pure) (sym (rolls-Const z)) ∙ ap (λ (p : Purity). p.pure) (fold-roll-Expr Purity purity_step (Expr-F.Const z))

pub pure-Dim : (n : ℕ) → is_pure (Dim n) ≡ true
unfolding is_pure
pure-Dim n = ap (λ e. (fold-Expr Purity purity_step e).pure) (sym (rolls-Dim n)) ∙ ap (λ (p : Purity). p.pure) (fold-roll-Expr Purity purity_step (Expr-F.Dim n))

pub pure-Sub : (a b : Expr) → is_pure (Sub a b) ≡ (is_pure a && is_pure b)
unfolding is_pure
pure-Sub a b = ap (λ e. (fold-Expr Purity purity_step e).pure) (sym (rolls-Sub a b)) ∙ ap (λ (p : Purity). p.pure) (fold-roll-Expr Purity purity_step (Expr-F.Sub a b))

less_pure_if : (e : Expr) (z : ℤ) (t : Bool) → is_pure e ≡ true → is_pure (if t then e else Sub e (Const z)) ≡ true
less_pure_if e z true h = h
less_pure_if e z false h = pure-Sub e (Const z) ∙ (λ i. h i && pure-Const z i)

less_pure : (o : Option ℤ) (e : Expr) (z : ℤ) → is_pure e ≡ true → is_pure (less_by o e z) ≡ true
less_pure (Some k) e z h = pure-Const _
less_pure None e z h = less_pure_if e z (int_eq z (pos 0)) h

places_pure : (at : ℕ) (es : List Expr) (bs : List Begin) → list_all is_pure es ≡ true → list_all is_pure (less_places at es bs) ≡ true
places_pure at [] bs h = refl
places_pure at (e ∷ es) [] h = h
places_pure at (e ∷ es) (Fixed z ∷ bs) h = let p = and_parts _ _ h in λ i. less_pure (number_of e) e z p.0 i && places_pure at es bs p.1 i
places_pure at (e ∷ es) (Named n ∷ bs) h = let p = and_parts _ _ h in λ i. (pure-Sub e (Dim at) ∙ (λ j. p.0 j && pure-Dim at j)) i && places_pure (suc at) es bs p.1 i

in_fast_pure : (bs : List Begin) (at : Access) → access_pure at ≡ true → access_pure (in_fast bs at) ≡ true
unfolding access_pure
in_fast_pure bs at h = λ i. pure-Const (pos 0) i && places_pure at.map.dims at.map.results bs h i

-- ---- V5, V7: types
each_equal : (xs : List ℕ) → pointwise nat_eq xs xs ≡ true
each_equal [] = refl
each_equal (x ∷ xs) = λ i. eq-eqb x x refl i && each_equal xs i

equal_length : (xs ys : List ℕ) → pointwise nat_eq xs ys ≡ true → length xs ≡ length ys
equal_length [] [] h = refl
equal_length (x ∷ xs) (y ∷ ys) h = let p = and_parts (nat_eq x y) (pointwise nat_eq xs ys) h in ap suc (equal_length xs ys p.1)
equal_length [] (y ∷ ys) h = absurd (cc)
equal_length (x ∷ xs) [] h = absurd (cc)

pub type_itself : (ty : MemrefType) → same_type ty ty ≡ true
unfolding same_type
type_itself ty = λ i. each_equal ty.sizes i && (eq-eqb (element_bits ty.element) (element_bits ty.element) refl i && eq-eqb ty.space ty.space refl i)

scalar_bits_alike : (x : Option Binding) (d e : Element) → element_bits d ≡ element_bits e → binding_is_scalar x (Int d) ≡ binding_is_scalar x (Int e)
scalar_bits_alike (Some (Data (Int c))) d e h = ap (nat_eq (element_bits c)) h
scalar_bits_alike (Some (Data Index)) d e h = refl
scalar_bits_alike (Some (Variable r)) d e h = refl
scalar_bits_alike (Some (Symbol r)) d e h = refl
scalar_bits_alike (Some (IndexConstant z)) d e h = refl
scalar_bits_alike (Some (MemrefArgument ty)) d e h = refl
scalar_bits_alike (Some (Allocation ty)) d e h = refl
scalar_bits_alike None d e h = refl

length_less : (at : ℕ) (es : List Expr) (bs : List Begin) → length (less_places at es bs) ≡ length es
length_less at [] bs = refl
length_less at (e ∷ es) [] = refl
length_less at (e ∷ es) (Fixed z ∷ bs) = ap suc (length_less at es bs)
length_less at (e ∷ es) (Named n ∷ bs) = ap suc (length_less (suc at) es bs)

pub same_rank : (ds : List Dimension) → length (dim_extents ds) ≡ length (dim_sizes ds)
same_rank [] = refl
same_rank (d ∷ ds) = ap suc (same_rank ds)

-- each of these values is one that may be a dimension
abbrev pub AreVariables : Scope → List Begin → Type 0
AreVariables s [] = Unit {0}
AreVariables s (Fixed z ∷ bs) = AreVariables s bs
AreVariables s (Named n ∷ bs) = (r : Range) × (s n ≡ Some (Variable r)) × AreVariables s bs

module _ (own : Name → Bool) (p : Placement) (a b : Around) (sees : Sees own a b) where
  -- in the loop
  pub record Within : Type 0 where
    pub memref : a.scope p.memref ≡ Some (MemrefArgument (slow_type p))
    pub fast : b.scope (fast_name p.name) ≡ Some (Allocation (fast_type p))
    pub live : b.released (fast_name p.name) ≡ false
    pub places : AreVariables b.scope (begins p)

  module _ (w : Within) where
    names_in : (bs : List Begin) → AreVariables b.scope bs → list_all (is_in b.scope) (named bs) ≡ true
    unfolding is_in
    names_in [] h = refl
    names_in (Fixed z ∷ bs) h = names_in bs h
    names_in (Named n ∷ bs) h = λ i. is_some (h.1 i) && names_in bs h.2 i

    names_stand : (bs : List Begin) → AreVariables b.scope bs → list_all (is_dimension b.scope) (named bs) ≡ true
    unfolding is_dimension
    names_stand [] h = refl
    names_stand (Fixed z ∷ bs) h = names_stand bs h
    names_stand (Named n ∷ bs) h = λ i. may_be_dimension (h.1 i) && names_stand bs h.2 i

    fast_in : is_in b.scope (fast_name p.name) ≡ true
    unfolding is_in
    fast_in = ap is_some w.fast

    fast_live : is_live b (fast_name p.name) ≡ true
    fast_live = ap not w.live

    fast_typed : is_memref_of b.scope (fast_name p.name) (fast_type p) ≡ true
    unfolding is_memref_of
    fast_typed = ap (λ x. binding_is_memref_of x (fast_type p)) w.fast ∙ type_itself (fast_type p)

    uses : (at : Access) → OwnNames own at.operands → are_in a.scope at.operands ≡ true → are_in b.scope (in_fast (begins p) at).operands ≡ true
    unfolding are_in
    uses at h k = in_fast_uses (is_in b.scope) (begins p) at (are_same own a.scope b.scope sees.scope at.operands h ∙ k) (names_in (begins p) w.places)

    stands : (at : Access) → at.map.dims ≤ length at.operands → OwnNames own at.operands → operands_stand a.scope at.map.dims at.operands ≡ true → operands_stand b.scope (in_fast (begins p) at).map.dims (in_fast (begins p) at).operands ≡ true
    unfolding operands_stand
    stands at l h k =
        let q = and_parts _ _ (operands_same own a.scope b.scope sees.scope at.map.dims at.operands h ∙ k) in
        λ i. (ap (list_all (is_dimension b.scope)) (in_fast_dims (begins p) at l) ∙ all_both (is_dimension b.scope) (take at.map.dims at.operands) (named (begins p)) q.0 (names_stand (begins p) w.places)) i
        && (ap (list_all (is_symbol b.scope)) (in_fast_syms (begins p) at l) ∙ q.1) i

    pub typed : (m : Name) (ty : MemrefType) → p.memref ≡ m → is_memref_of a.scope m ty ≡ true → same_type (slow_type p) ty ≡ true
    unfolding is_memref_of
    typed m ty is h = sym (ap (λ x. binding_is_memref_of x ty) (sym (ap a.scope is) ∙ w.memref)) ∙ h

    fits : (at : Access) (ty : MemrefType) → same_type (slow_type p) ty ≡ true → subscripts_fit at ty ≡ true → subscripts_fit (in_fast (begins p) at) (fast_type p) ≡ true
    unfolding same_type subscripts_fit
    fits at ty t h =
        let q = and_parts (map_fits at) (nat_eq (length at.map.results) (length ty.sizes)) h in
        let s = and_parts (pointwise nat_eq (dim_sizes p.dims) ty.sizes) _ t in
        let long = eqb-true (length at.map.results) (length ty.sizes) q.1 in
        let sizes = equal_length (dim_sizes p.dims) ty.sizes s.0 in
        let rank = same_rank p.dims in
        let less = length_less at.map.dims at.map.results (begins p) in
        λ i. in_fast_fits (begins p) at q.0 i && eq-eqb (suc (length (less_places at.map.dims at.map.results (begins p)))) (suc (length (dim_extents p.dims))) (omega (arith, long, sizes, rank, less)) i

    enough : (at : Access) → map_fits at ≡ true → at.map.dims ≤ length at.operands
    unfolding map_fits
    enough at h =
        let q = and_parts _ _ h in
        let count : length at.operands ≡ at.map.dims + at.map.syms = eqb-true (length at.operands) (at.map.dims + at.map.syms) q.0 in
        omega (arith, count)

    subscripts : (at : Access) (ty : MemrefType) → subscripts_fit at ty ≡ true → map_fits at ≡ true
    unfolding subscripts_fit
    subscripts at ty h = (and_parts (map_fits at) _ h).0

    -- a load of the memref
    pub load_only : (r : Name) (at : Access) (ty : MemrefType) (rest rest' : Nest) → OwnPlain own (Load r p.memref at ty) → Holds a (Load r p.memref at ty) rest → OnlyTested (rule_of_plain b (Load r (fast_name p.name) (in_fast (begins p) at) (fast_type p)) rest')
    unfolding rule_of_plain
    load_only r at ty rest rest' h j =
        let u = and_parts _ _ j.uses in
        rules_of_plain _ _ _ _ _ _ _ (access_bounded b.scope (in_fast (begins p) at)) _ true (text_within b)
        (λ i. fast_in i && uses at h.1.1 u.1 i)
        (new_same own a.scope b.scope sees.scope r h.0 ∙ j.new_name)
        (stands at (enough at (subscripts at ty j.counts)) h.1.1 j.stand)
        fast_typed
        refl
        (fits at ty (typed p.memref ty refl j.types) j.counts)
        (in_fast_pure (begins p) at j.pure)
        fast_live

    stored : (x : Name) (ty : MemrefType) → same_type (slow_type p) ty ≡ true → is_of b.scope x (Int ty.element) ≡ true → is_of b.scope x (Int p.element) ≡ true
    unfolding is_of same_type
    stored x ty t h =
        let q = and_parts (pointwise nat_eq (dim_sizes p.dims) ty.sizes) _ t in
        let r = and_parts (same_element p.element ty.element) _ q.1 in
        scalar_bits_alike (b.scope x) p.element ty.element (eqb-true (element_bits p.element) (element_bits ty.element) r.0) ∙ h

    -- and a store to it
    pub store_only : (x : Name) (at : Access) (ty : MemrefType) (rest rest' : Nest) → OwnPlain own (Store x p.memref at ty) → Holds a (Store x p.memref at ty) rest → OnlyTested (rule_of_plain b (Store x (fast_name p.name) (in_fast (begins p) at) (fast_type p)) rest')
    unfolding rule_of_plain
    store_only x at ty rest rest' h j =
        let u = and_parts _ _ j.uses in
        let u1 = and_parts _ _ u.1 in
        let s = and_parts _ _ j.stand in
        let t = and_parts _ _ j.types in
        let ty_same = typed p.memref ty refl t.1 in
        rules_of_plain _ _ _ _ _ _ _ (access_bounded b.scope (in_fast (begins p) at)) _ true (text_within b)
        (λ i. (in_same own a.scope b.scope sees.scope x h.0 ∙ u.0) i && (fast_in i && uses at h.1.1 u1.1 i))
        refl
        (λ i. (value_same own a.scope b.scope sees.scope x h.0 ∙ s.0) i && stands at (enough at (subscripts at ty j.counts)) h.1.1 s.1 i)
        (λ i. stored x ty ty_same (scalar_same own a.scope b.scope sees.scope x (Int ty.element) h.0 ∙ t.0) i && fast_typed i)
        refl
        (fits at ty ty_same j.counts)
        (in_fast_pure (begins p) at j.pure)
        fast_live
