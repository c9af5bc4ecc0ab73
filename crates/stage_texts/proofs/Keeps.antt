-- The limits hold of a stage.
use Rattle.std.proofs.Common.{◌≡◌, ℕ, ◌+◌, true, List, [], ◌∷◌, length, map, refl, sym, ap, ◌∙◌, subst, arith}
use Rattle.std.specs.Prelude.{◌&&◌, nat_le, sum_by}
use Rattle.std.specs.List.{list_all}
use Rattle.std.proofs.lemmas.Bool.{and_parts, leb-true}
use Rattle.std.proofs.lemmas.List.{length-map}
use Rattle.affine_expr.specs.declared.expr.Expr.{Expr}
use Rattle.affine_expr.specs.declared.expr.Expr.TheOpen.{Expr-F}
use Rattle.affine_ast.specs.declared.name.Name.{Name}
use Rattle.affine_ast.specs.declared.types.Access.{Access}
use Rattle.affine_ast.specs.declared.types.Bound.{Bound}
use Rattle.affine_ast.specs.declared.types.Bound.TheVariants as bound
use Rattle.affine_ast.specs.Nest.{Plain, Nest, Nothing, Loop, Branch, Does, Value, Load, Store, RawLoad, RawStore, Constant, Binary, Cast, Alloc, Dealloc, Start, Wait, Return, nest}
use Rattle.affine_ast.specs.Parts.{maps_of}
use Rattle.affine_ast.specs.PlainLimits.{Depths, depths_step, operand_count, depths}
use Rattle.boxes.specs.Every.{Every}
use Rattle.lined_modules.proofs.Law.{all_are_lined, lines_have_no_part}
use Rattle.placement_texts.specs.Normal.{dims_of, renumbered, index_of, first_order, normal}
use Rattle.placement_texts.specs.Renamed.{bound_named, plain_named, named}
use Rattle.placement_texts.proofs.Normal.{fold_agrees}
use Rattle.plan_laws.specs.Limits as limits
use Rattle.plan_laws.specs.Limits.{expression_fits, access_fits, map_operands, bound_operands, keeps_limits}
use Rattle.plan_laws.specs.Sites.{lined}
use Rattle.plan_laws.specs.Plan.{planned_text}
use Rattle.plan_laws.proofs.Plans.{keep_within}
use Rattle.normal_texts.specs.Texts.{normal_plain, normal_text}
use Rattle.numbered_names.specs.Numbers.{value_names, numbered_name}
use Rattle.printed_texts.specs.Writable as writable
use Rattle.printed_texts.specs.Writable.{Operand, operands_of}
use Rattle.stage_laws.proofs.Law.{stage_runs}
use Rattle.writable_modules.proofs.Expressions as expressions
use Rattle.writable_modules.proofs.Expressions.{sum_is}
use Rattle.writable_modules.proofs.Kept.{Limited, limited}
use Rattle.stage_texts.specs.Law.{StageKeeps}
use Rattle.stage_texts.proofs.Ordered.{op_to, operands_go}
use Rattle.stage_texts.proofs.Limits.{keeps_of, given_limited, given_operands}

-- ---- lines
limited_lined : (n : Nest) → Limited n → Limited (lined n)
limited_lined Nothing h = tt
limited_lined (Loop line v l u s body rest) h = (h.0, limited_lined body h.1, limited_lined rest h.2)
limited_lined (Branch line set names first has other rest) h = (h.0, limited_lined first h.1, limited_lined other h.2, limited_lined rest h.3)
limited_lined (Does line p rest) h = (h.0, limited_lined rest h.1)

operands_lined : (n : Nest) → limits.operands_in (lined n) ≡ limits.operands_in n
operands_lined Nothing = refl
operands_lined (Loop line v l u s body rest) = λ i. bound_operands l + (bound_operands u + (operands_lined body i + operands_lined rest i))
operands_lined (Branch line set names first has other rest) = λ i. sum_by limits.row_operands set.rows + (operands_lined first i + (operands_lined other i + operands_lined rest i))
operands_lined (Does line p rest) = λ i. sum_by map_operands (maps_of p) + operands_lined rest i

-- ---- other numbers of dimensions
module _ (f : ℕ → ℕ) where
  same_depths : (e : Expr) → depths (renumbered f e) ≡ depths e
  unfolding depths
  same_depths e = fold_agrees Depths f depths_step depths_step (λ x h. refl) e (all (dims_of e))
    where
      all : (ns : List ℕ) → Every (λ n. depths_step (Expr-F.Dim (f n)) ≡ depths_step (Expr-F.Dim n)) ns
      all [] = tt
      all (n ∷ ns) = (refl, all ns)

  same_count : (e : Expr) → operand_count (renumbered f e) ≡ operand_count e
  same_count e = sym (expressions.counted (renumbered f e)) ∙ ap (λ (xs : List Operand). length xs) (operands_go f e) ∙ length-map (operands_of e) (op_to f) ∙ expressions.counted e

  same_fit : (es : List Expr) → list_all expression_fits (map (renumbered f) es) ≡ list_all expression_fits es
  same_fit [] = refl
  same_fit (e ∷ es) = λ i. (nat_le (same_count e i) 256 && nat_le (same_depths e i).sum 128) && same_fit es i

  same_sum : (es : List Expr) → writable.operands_in (map (renumbered f) es) ≡ writable.operands_in es
  same_sum [] = refl
  same_sum (e ∷ es) = λ i. (ap (λ (xs : List Operand). length xs) (operands_go f e) ∙ length-map (operands_of e) (op_to f)) i + same_sum es i

normal_fit : (at : Access) → access_fits (normal at) ≡ access_fits at
normal_fit at =
    let f = λ (n : ℕ). index_of n (first_order at) in
    λ i. nat_le (length-map at.map.results (renumbered f) i) 8 && same_fit f at.map.results i

normal_sum : (at : Access) → map_operands (normal at) ≡ map_operands at
normal_sum at = let f = λ (n : ℕ). index_of n (first_order at) in sym (sum_is (map (renumbered f) at.map.results)) ∙ same_sum f at.map.results ∙ sum_is at.map.results

plain_fit : (p : Plain) → list_all access_fits (maps_of (normal_plain p)) ≡ list_all access_fits (maps_of p)
plain_fit (Load r m at ty) = λ i. normal_fit at i && true
plain_fit (Store x m at ty) = λ i. normal_fit at i && true
plain_fit (Start a aa b bb t ta n stride types) = λ i. normal_fit aa i && (normal_fit bb i && (normal_fit ta i && true))
plain_fit (Wait t at n ty) = λ i. normal_fit at i && true
plain_fit (Value r pick at) = refl
plain_fit (RawLoad r m at ty) = refl
plain_fit (RawStore x m at ty) = refl
plain_fit (Constant r z ty) = refl
plain_fit (Binary r op x y ty) = refl
plain_fit (Cast r kind x from to) = refl
plain_fit (Alloc r ty) = refl
plain_fit (Dealloc m ty) = refl
plain_fit Return = refl

plain_sum : (p : Plain) → sum_by map_operands (maps_of (normal_plain p)) ≡ sum_by map_operands (maps_of p)
plain_sum (Load r m at ty) = λ i. 0 + normal_sum at i
plain_sum (Store x m at ty) = λ i. 0 + normal_sum at i
plain_sum (Start a aa b bb t ta n stride types) = λ i. ((0 + normal_sum aa i) + normal_sum bb i) + normal_sum ta i
plain_sum (Wait t at n ty) = λ i. 0 + normal_sum at i
plain_sum (Value r pick at) = refl
plain_sum (RawLoad r m at ty) = refl
plain_sum (RawStore x m at ty) = refl
plain_sum (Constant r z ty) = refl
plain_sum (Binary r op x y ty) = refl
plain_sum (Cast r kind x from to) = refl
plain_sum (Alloc r ty) = refl
plain_sum (Dealloc m ty) = refl
plain_sum Return = refl

limited_normal : (n : Nest) → Limited n → Limited (normal_text n)
limited_normal Nothing h = tt
limited_normal (Loop line v l u s body rest) h = (h.0, limited_normal body h.1, limited_normal rest h.2)
limited_normal (Branch line set names first has other rest) h = (h.0, limited_normal first h.1, limited_normal other h.2, limited_normal rest h.3)
limited_normal (Does line p rest) h = (plain_fit p ∙ h.0, limited_normal rest h.1)

operands_normal : (n : Nest) → limits.operands_in (normal_text n) ≡ limits.operands_in n
operands_normal Nothing = refl
operands_normal (Loop line v l u s body rest) = λ i. bound_operands l + (bound_operands u + (operands_normal body i + operands_normal rest i))
operands_normal (Branch line set names first has other rest) = λ i. sum_by limits.row_operands set.rows + (operands_normal first i + (operands_normal other i + operands_normal rest i))
operands_normal (Does line p rest) = λ i. plain_sum p i + operands_normal rest i

-- ---- other names
module _ (f : Name → Name) where
  bound_fit_named : (b : Bound) → limits.bound_fits (bound_named f b) ≡ limits.bound_fits b
  bound_fit_named (bound.Int z) = refl
  bound_fit_named (bound.Value n) = refl
  bound_fit_named (bound.Map at) = refl

  bound_sum_named : (b : Bound) → bound_operands (bound_named f b) ≡ bound_operands b
  bound_sum_named (bound.Int z) = refl
  bound_sum_named (bound.Value n) = refl
  bound_sum_named (bound.Map at) = refl

  fit_named : (p : Plain) → list_all access_fits (maps_of (plain_named f p)) ≡ list_all access_fits (maps_of p)
  fit_named (Value r pick at) = refl
  fit_named (Load r m at ty) = refl
  fit_named (Store x m at ty) = refl
  fit_named (RawLoad r m at ty) = refl
  fit_named (RawStore x m at ty) = refl
  fit_named (Constant r z ty) = refl
  fit_named (Binary r op x y ty) = refl
  fit_named (Cast r kind x from to) = refl
  fit_named (Alloc r ty) = refl
  fit_named (Dealloc m ty) = refl
  fit_named (Start a aa b bb t ta n stride types) = refl
  fit_named (Wait t at n ty) = refl
  fit_named Return = refl

  sum_named : (p : Plain) → sum_by map_operands (maps_of (plain_named f p)) ≡ sum_by map_operands (maps_of p)
  sum_named (Value r pick at) = refl
  sum_named (Load r m at ty) = refl
  sum_named (Store x m at ty) = refl
  sum_named (RawLoad r m at ty) = refl
  sum_named (RawStore x m at ty) = refl
  sum_named (Constant r z ty) = refl
  sum_named (Binary r op x y ty) = refl
  sum_named (Cast r kind x from to) = refl
  sum_named (Alloc r ty) = refl
  sum_named (Dealloc m ty) = refl
  sum_named (Start a aa b bb t ta n stride types) = refl
  sum_named (Wait t at n ty) = refl
  sum_named Return = refl

  limited_named : (n : Nest) → Limited n → Limited (named f n)
  limited_named Nothing h = tt
  limited_named (Loop line v l u s body rest) h = ((λ i. bound_fit_named l i && bound_fit_named u i) ∙ h.0, limited_named body h.1, limited_named rest h.2)
  limited_named (Branch line set names first has other rest) h = (h.0, limited_named first h.1, limited_named other h.2, limited_named rest h.3)
  limited_named (Does line p rest) h = (fit_named p ∙ h.0, limited_named rest h.1)

  operands_named : (n : Nest) → limits.operands_in (named f n) ≡ limits.operands_in n
  operands_named Nothing = refl
  operands_named (Loop line v l u s body rest) = λ i. bound_sum_named l i + (bound_sum_named u i + (operands_named body i + operands_named rest i))
  operands_named (Branch line set names first has other rest) = λ i. sum_by limits.row_operands set.rows + (operands_named first i + (operands_named other i + operands_named rest i))
  operands_named (Does line p rest) = λ i. sum_named p i + operands_named rest i

-- ---- the stage
pub stage_keeps : StageKeeps
unfolding keeps_limits
stage_keeps o m q valid v13 text w is =
    let line = all_are_lined m in
    let same = lines_have_no_part m line.module_ line.is in
    let change = numbered_name is.is_numbered.underscore_count (value_names is.ordered) in
    let l = given_limited m w in
    let few = given_operands m w in
    let first = ap limits.operands_in line.is.body ∙ operands_lined (nest m.body) in
    let source = keeps_of line.module_ (same.valid valid) (subst Limited (sym line.is.body) (limited_lined (nest m.body) l)) (omega (arith, first, few)) in
    let lined_source : keeps_limits m.args (lined (nest m.body)) ≡ true = (λ i. keeps_limits (sym line.is.arguments i) (sym line.is.body i)) ∙ source in
    let placed = (keep_within o m).limits lined_source in
    let two = and_parts (nat_le (limits.operands_in (planned_text o m)) 1048576) _ placed in
    let body = is.is_numbered.body ∙ ap (named change) (is.is_ordered.body ∙ ap normal_text is.is_placed.body) in
    let all = subst Limited (sym body) (limited_named change (normal_text (planned_text o m)) (limited_normal (planned_text o m) (limited (planned_text o m) _ two.1))) in
    let sum = ap limits.operands_in body ∙ operands_named change (normal_text (planned_text o m)) ∙ operands_normal (planned_text o m) in
    let most = leb-true (limits.operands_in (planned_text o m)) 1048576 two.0 in
    keeps_of q (stage_runs o m q valid v13 text is).valid all (omega (arith, sum, most))
