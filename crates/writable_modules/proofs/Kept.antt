-- What the limits say of each statement of a text.
use Rattle.std.proofs.Common.{◌≡◌, ℕ, ◌+◌, ◌≤◌, Bool, true, false, List, [], ◌∷◌, length, Some, None, refl, ap, subst, arith}
use Rattle.std.specs.Prelude.{◌&&◌, Option, nat_le, sum_by}
use Rattle.std.specs.List.{list_all}
use Rattle.std.proofs.lemmas.Bool.{and_parts, leb-true}
use Rattle.std.proofs.lemmas.List.Recursion.{is_sum_by}
use Rattle.affine_expr.specs.declared.map.Constraint.{Constraint}
use Rattle.affine_ast.specs.declared.module.Arg.{Arg}
use Rattle.affine_ast.specs.declared.types.Access.{Access}
use Rattle.affine_ast.specs.declared.types.Bound.{Bound}
use Rattle.affine_ast.specs.declared.types.Bound.TheVariants as bound
use Rattle.affine_ast.specs.Nest.{Plain, Nest, Nothing, Loop, Branch, Does, Value, Load, Store, RawLoad, RawStore, Constant, Binary, Cast, Alloc, Dealloc, Start, Wait, Return, followed_by}
use Rattle.affine_ast.specs.Parts.{maps_of}
use Rattle.affine_ast.specs.Rules.{text_within}
use Rattle.affine_ast.specs.Scope.{Around, with_totals, counted, in_loop, in_condition, behind_plain}
use Rattle.affine_ast.specs.Validity.{elements_within, outside}
use Rattle.plan_laws.specs.Limits as limits
use Rattle.plan_laws.specs.Limits.{access_fits, rows_fit, map_operands, bound_operands, row_operands, while_kept, and_then, kept, is_there, behind_arguments, keeps_limits}
use Rattle.printed_texts.specs.Writable.{operands_of, operands_in_rows, operands_in_use, operands_in_bound, operands_in_plain, operands_in_nest}
use Rattle.writable_modules.proofs.Expressions as expressions
use Rattle.writable_modules.proofs.Expressions.{sum_is}

abbrev pub Limited : Nest → Type 0
Limited Nothing = Unit {0}
Limited (Loop line v l u s body rest) = ((limits.bound_fits l && limits.bound_fits u) ≡ true) × Limited body × Limited rest
Limited (Branch line set names first has other rest) = (rows_fit set.rows ≡ true) × Limited first × Limited other × Limited rest
Limited (Does line p rest) = (list_all access_fits (maps_of p) ≡ true) × Limited rest

while_there : (b : Bool) (a : Option Around) → is_there (while_kept b a) ≡ true → (b ≡ true) × (is_there a ≡ true)
while_there true a h = (refl, h)
while_there false a h = absurd (let z : ⊥ = cc in z)

then_there : (a : Option Around) (f : Around → Option Around) → is_there (and_then a f) ≡ true → (is_there a ≡ true) × ((b : Around) × (is_there (f b) ≡ true))
then_there (Some a) f h = (refl, (a, h))
then_there None f h = absurd (let z : ⊥ = cc in z)

pub limited : (n : Nest) (a : Around) → is_there (kept n a) ≡ true → Limited n
limited Nothing a h = tt
limited (Loop line v l u s body rest) a h =
    let w = while_there (text_within (counted a) && (limits.bound_fits l && limits.bound_fits u)) (and_then (kept body (in_loop v l u (counted a))) (λ b. kept rest (with_totals b.totals a))) h in
    let t = then_there (kept body (in_loop v l u (counted a))) (λ b. kept rest (with_totals b.totals a)) w.1 in
    ((and_parts (text_within (counted a)) (limits.bound_fits l && limits.bound_fits u) w.0).1, limited body (in_loop v l u (counted a)) t.0, limited rest (with_totals t.1.0.totals a) t.1.1)
limited (Branch line set names first has other rest) a h =
    let more = λ (b : Around). and_then (kept other (in_condition (with_totals b.totals a))) (λ c. kept rest (with_totals c.totals a)) in
    let w = while_there (text_within (counted a) && rows_fit set.rows) (and_then (kept first (in_condition (counted a))) more) h in
    let t = then_there (kept first (in_condition (counted a))) more w.1 in
    let b = t.1.0 in
    let u = then_there (kept other (in_condition (with_totals b.totals a))) (λ c. kept rest (with_totals c.totals a)) t.1.1 in
    ((and_parts (text_within (counted a)) (rows_fit set.rows) w.0).1, limited first (in_condition (counted a)) t.0, limited other (in_condition (with_totals b.totals a)) u.0, limited rest (with_totals u.1.0.totals a) u.1.1)
limited (Does line p rest) a h =
    let w = while_there (text_within (counted a) && (elements_within (counted a).totals p && list_all access_fits (maps_of p))) (kept rest (behind_plain p (counted a))) h in
    let e = and_parts (text_within (counted a)) (elements_within (counted a).totals p && list_all access_fits (maps_of p)) w.0 in
    ((and_parts (elements_within (counted a).totals p) (list_all access_fits (maps_of p)) e.1).1, limited rest (behind_plain p (counted a)) w.1)

pub limited_front : (a b : Nest) → Limited (followed_by a b) → Limited a
limited_front Nothing b h = tt
limited_front (Loop line v l u s body rest) b h = (h.0, h.1, limited_front rest b h.2)
limited_front (Branch line set names first has other rest) b h = (h.0, h.1, h.2, limited_front rest b h.3)
limited_front (Does line p rest) b h = (h.0, limited_front rest b h.1)

-- ---- operands
rows_are : (rows : List Constraint) → operands_in_rows rows ≡ sum_by row_operands rows
rows_are = is_sum_by operands_in_rows row_operands refl (λ row rows. one row (operands_in_rows rows))
  where
    one : (row : Constraint) (n : ℕ) → length (operands_of row.left) + (length (operands_of row.right) + n) ≡ row_operands row + n
    one row n = let l = expressions.counted row.left in let r = expressions.counted row.right in omega (arith, l, r)

bound_are : (b : Bound) → operands_in_bound b ≡ bound_operands b
bound_are (bound.Int z) = refl
bound_are (bound.Value n) = refl
bound_are (bound.Map at) = sum_is at.map.results

one_map : (at : Access) → operands_in_use at ≡ sum_by map_operands (at ∷ [])
one_map at = let x = sum_is at.map.results in omega (arith, x)

plain_are : (p : Plain) → operands_in_plain p ≡ sum_by map_operands (maps_of p)
plain_are (Value r pick at) = one_map at
plain_are (Load r m at ty) = one_map at
plain_are (Store x m at ty) = one_map at
plain_are (RawLoad r m at ty) = refl
plain_are (RawStore x m at ty) = refl
plain_are (Constant r z ty) = refl
plain_are (Binary r op a b ty) = refl
plain_are (Cast r kind x from to) = refl
plain_are (Alloc r ty) = refl
plain_are (Dealloc m ty) = refl
plain_are (Start a aa b bb t ta n stride types) =
    let x = sum_is aa.map.results in
    let y = sum_is bb.map.results in
    let z = sum_is ta.map.results in
    omega (arith, x, y, z)
plain_are (Wait t at n ty) = one_map at
plain_are Return = refl

pub operands_are : (n : Nest) → operands_in_nest n ≡ limits.operands_in n
operands_are Nothing = refl
operands_are (Loop line v l u s body rest) = λ i. bound_are l i + (bound_are u i + (operands_are body i + operands_are rest i))
operands_are (Branch line set names first has other rest) = λ i. rows_are set.rows i + (operands_are first i + (operands_are other i + operands_are rest i))
operands_are (Does line p rest) = λ i. plain_are p i + operands_are rest i

operands_front : (a b : Nest) → operands_in_nest a ≤ limits.operands_in (followed_by a b)
operands_front Nothing b = omega arith
operands_front (Loop line v l u s body rest) b =
    let x = bound_are l in
    let y = bound_are u in
    let z = operands_are body in
    let w = operands_front rest b in
    omega (arith, x, y, z, w)
operands_front (Branch line set names first has other rest) b =
    let x = rows_are set.rows in
    let y = operands_are first in
    let z = operands_are other in
    let w = operands_front rest b in
    omega (arith, x, y, z, w)
operands_front (Does line p rest) b =
    let x = plain_are p in
    let w = operands_front rest b in
    omega (arith, x, w)

-- ---- both
pub record Keeps (a : Nest) : Type 0 where
  pub limited : Limited a
  pub operands : operands_in_nest a ≤ 1048576

pub keeps : (args : List Arg) (n a b : Nest) → n ≡ followed_by a b → keeps_limits args n ≡ true → Keeps a
unfolding keeps_limits
keeps args n a b e h =
    let two = and_parts (nat_le (limits.operands_in n) 1048576) (is_there (kept n (behind_arguments args outside))) h in
    let few = leb-true (limits.operands_in n) 1048576 two.0 in
    let same = ap limits.operands_in e in
    let front = operands_front a b in
    record { limited = limited_front a b (subst Limited e (limited n (behind_arguments args outside) two.1)); operands = omega (arith, few, same, front) }
