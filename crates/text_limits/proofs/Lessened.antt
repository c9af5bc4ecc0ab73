-- What a subscript less the place of its dimension has more.
use Rattle.std.proofs.Common.{◌≡◌, ℕ, suc, ◌+◌, ℤ, pos, negsuc, ◌-ℤ◌, List, [], ◌∷◌, length, Bool, true, false, refl, sym, ap, ◌∙◌, arith}
use Rattle.std.specs.Prelude.{◌&&◌, nat_le, Option, Some, None, sum_by, if◌then◌else◌}
use Rattle.std.specs.List.{list_all}
use Rattle.std.specs.Ordering.{int_eq}
use Rattle.std.proofs.lemmas.Bool.{and_parts, leb-true, le-leb}
use Rattle.affine_expr.specs.declared.expr.Expr.{Expr, Dim, Const, Sub}
use Rattle.affine_ast.specs.declared.types.Access.{Access}
use Rattle.affine_ast.specs.PlainLimits.{operand_count, depths, literal_depths}
use Rattle.affine_ast.proofs.PlainLaws.{operand_count-Dim, operand_count-Const, operand_count-Sub, depths-Dim, depths-Const, depths-Sub}
use Rattle.placement_texts.specs.Template.{Dimension, Placement, number_of, less_by, less, less_places, begins}
use Rattle.placement_code.specs.Beginnings.{has_none, fixed_place, behind_one}
use Rattle.placement_code.specs.Redirects.{less_one, less_dims}
use Rattle.placement_code.proofs.Lessened.{less_dims_is}
use Rattle.plan_laws.specs.Limits.{expression_fits, access_fits}
use Rattle.text_limits.specs.Adding.{fits_in_fast}
use Rattle.text_limits.specs.Lessening.{more_by, more_one, more_over, fits_one, fits_over, RedirectsAreCounted}
use Rattle.text_limits.proofs.Grown.{is_const, sum_cons}

literal_sum : (z : ℤ) → (literal_depths z).sum ≡ 0
literal_sum (pos n) = refl
literal_sum (negsuc n) = refl

literal_product : (z : ℤ) → (literal_depths z).product ≡ 0
literal_product (pos n) = refl
literal_product (negsuc n) = refl

const_depth : (z : ℤ) → (depths (Const z)).sum ≡ 0
const_depth z = ap (λ (d : _). d.sum) (depths-Const z) ∙ literal_sum z

-- an expression with so many operands, of such a depth
abbrev Measured : Expr → ℕ → ℕ → Type 0
Measured e count depth = (operand_count e ≡ count) × ((depths e).sum ≡ depth)

-- less what stands at no depth and is one operand
less_sub : (e x : Expr) → operand_count x ≡ 1 → (depths x).product ≡ 0 → Measured (Sub e x) (operand_count e + 1) (depths e).sum
less_sub e x one flat =
    let c = operand_count-Sub e x in
    let d = ap (λ (d : _). d.sum) (depths-Sub e x) in
    (omega (arith, c, one), omega (arith, d, flat))

less_number : (e : Expr) (z : ℤ) → Measured (less e z) (operand_count e + more_by (number_of e) z) (depths e).sum
less_number e z = by (number_of e) refl
  where
    other : (b : Bool) → Measured (if b then e else Sub e (Const z)) (operand_count e + (if b then 0 else 1)) (depths e).sum
    other true = (omega arith, refl)
    other false = less_sub e (Const z) (operand_count-Const z) (ap (λ (d : _). d.product) (depths-Const z) ∙ literal_product z)

    by : (o : Option ℤ) → number_of e ≡ o → Measured (less_by o e z) (operand_count e + more_by o z) (depths e).sum
    by (Some k) is =
        let a = ap operand_count (is_const e k is) in
        let b = operand_count-Const k in
        let c = operand_count-Const (k -ℤ z) in
        let d = ap (λ e. (depths e).sum) (is_const e k is) in
        let f = const_depth k in
        let g = const_depth (k -ℤ z) in
        (omega (arith, a, b, c), omega (arith, d, f, g))
    by None is = other (int_eq z (pos 0))

one_measured : (k : ℕ) (e : Expr) (d : Dimension) → Measured (less_one k e d) (operand_count e + more_one e d) (depths e).sum
one_measured k e d = by (has_none d.terms)
  where
    by : (b : Bool) → Measured (if b then less e (fixed_place d) else Sub e (Dim k)) (operand_count e + (if b then more_by (number_of e) (fixed_place d) else 1)) (depths e).sum
    by true = less_number e (fixed_place d)
    by false = less_sub e (Dim k) (operand_count-Dim k) (ap (λ (d : _). d.product) (depths-Dim k))

dims_more : (k : ℕ) (es : List Expr) (ds : List Dimension) → sum_by operand_count (less_dims k es ds) ≡ sum_by operand_count es + more_over es ds
dims_more k [] ds = omega arith
dims_more k (e ∷ es) [] =
    let h = dims_more k es [] in
    let s = none_less k es in
    let t = ap (sum_by operand_count) s in
    omega (arith, h, t)
  where
    none_less : (k : ℕ) (es : List Expr) → less_dims k es [] ≡ es
    none_less k [] = refl
    none_less k (e ∷ es) = refl
dims_more k (e ∷ es) (d ∷ ds) =
    let a = sum_cons operand_count e es in
    let b = sum_cons operand_count (less_one k e d) (less_dims (behind_one k d) es ds) in
    let c = (one_measured k e d).0 in
    let h = dims_more (behind_one k d) es ds in
    omega (arith, a, b, c, h)

one_fits : (k : ℕ) (e : Expr) (d : Dimension) → expression_fits (less_one k e d) ≡ fits_one e d
one_fits k e d = let m = one_measured k e d in λ i. nat_le (m.0 i) 256 && nat_le (m.1 i) 128

dims_fit : (k : ℕ) (es : List Expr) (ds : List Dimension) → list_all expression_fits (less_dims k es ds) ≡ fits_over es ds
dims_fit k [] ds = refl
dims_fit k (e ∷ es) [] = ap (λ x. expression_fits e && x) (all_stay es)
  where
    all_stay : (es : List Expr) → list_all expression_fits es ≡ fits_over es []
    all_stay [] = refl
    all_stay (e ∷ es) = ap (λ x. expression_fits e && x) (all_stay es)
dims_fit k (e ∷ es) (d ∷ ds) = λ i. one_fits k e d i && dims_fit (behind_one k d) es ds i

dims_length : (k : ℕ) (es : List Expr) (ds : List Dimension) → length (less_dims k es ds) ≡ length es
dims_length k [] ds = refl
dims_length k (e ∷ es) [] = refl
dims_length k (e ∷ es) (d ∷ ds) = ap suc (dims_length (behind_one k d) es ds)

zero_fits : expression_fits (Const (pos 0)) ≡ true
zero_fits = λ i. nat_le (operand_count-Const (pos 0) i) 256 && nat_le (const_depth (pos 0) i) 128

pub redirects_are_counted : RedirectsAreCounted
redirects_are_counted p at =
    let k = at.map.dims in
    let es = at.map.results in
    let same = less_dims_is p.name k 0 es p.dims in
    let made = less_places k es (begins p) in
    let a = sum_cons operand_count (Const (pos 0)) made in
    let b = operand_count-Const (pos 0) in
    let c = ap (sum_by operand_count) same in
    let d = dims_more k es p.dims in
    record {
      more = omega (arith, a, b, c, d);
      fits =
          (λ i. nat_le (suc (length (sym same i))) 8 && (zero_fits i && list_all expression_fits (sym same i)))
          ∙ (λ i. nat_le (suc (dims_length k es p.dims i)) 8 && dims_fit k es p.dims i);
    }

-- ---- what fits redirected fits as it is
over_fits : (es : List Expr) (ds : List Dimension) → fits_over es ds ≡ true → list_all expression_fits es ≡ true
over_fits [] ds h = refl
over_fits (e ∷ es) [] h = let k = and_parts (expression_fits e) (fits_over es []) h in (λ i. k.0 i && over_fits es [] k.1 i)
over_fits (e ∷ es) (d ∷ ds) h =
    let k = and_parts (fits_one e d) (fits_over es ds) h in
    let f = and_parts (nat_le (operand_count e + more_one e d) 256) (nat_le (depths e).sum 128) k.0 in
    let few = leb-true (operand_count e + more_one e d) 256 f.0 in
    (λ i. (le-leb (operand_count e) 256 (omega (arith, few)) i && f.1 i) && over_fits es ds k.1 i)

pub fast_fits_first : (p : Placement) (at : Access) → fits_in_fast p at ≡ true → access_fits at ≡ true
fast_fits_first p at h =
    let k = and_parts (nat_le (suc (length at.map.results)) 8) (fits_over at.map.results p.dims) (sym (redirects_are_counted p at).fits ∙ h) in
    let few = leb-true (suc (length at.map.results)) 8 k.0 in
    (λ i. le-leb (length at.map.results) 8 (omega (arith, few)) i && over_fits at.map.results p.dims k.1 i)
