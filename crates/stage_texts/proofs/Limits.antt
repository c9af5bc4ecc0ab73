-- The stage of a module keeps to the limits of the grammar.
use Rattle.std.proofs.Common.{◌≡◌, ℕ, zero, suc, ◌+◌, ◌≤◌, Bool, true, List, [], ◌∷◌, length, Some, refl, sym, ap, ◌∙◌, subst, arith}
use Rattle.std.specs.Prelude.{◌&&◌, Option, sum_by}
use Rattle.std.specs.List.{list_all}
use Rattle.std.proofs.lemmas.Bool.{le-leb}
use Rattle.affine_expr.specs.declared.expr.Expr.{Expr}
use Rattle.affine_expr.specs.declared.map.Constraint.{Constraint}
use Rattle.affine_ast.specs.declared.module.Arg.{Arg}
use Rattle.affine_ast.specs.declared.module.Module.{Module}
use Rattle.affine_ast.specs.declared.types.Access.{Access}
use Rattle.affine_ast.specs.declared.types.Bound.{Bound}
use Rattle.affine_ast.specs.declared.types.Bound.TheVariants as bound
use Rattle.affine_ast.specs.Nest.{Plain, Nest, Nothing, Loop, Branch, Does, Value, Load, Store, RawLoad, RawStore, Constant, Binary, Cast, Alloc, Dealloc, Start, Wait, Return, followed_by, nest}
use Rattle.affine_ast.specs.Parts.{maps_of}
use Rattle.affine_ast.specs.PlainLimits.{operand_count, depths}
use Rattle.affine_ast.specs.Scope.{Totals, Around, with_totals, counted, in_loop, in_condition, behind_plain}
use Rattle.affine_ast.specs.Validity.{Told, Passed, told, then_told, rule_of_plain, rule_of_loop, rule_of_condition, rule_of_argument, behind_argument, told_arguments, told_module, outside, first_broken, IsValid}
use Rattle.plan_laws.specs.Limits as limits
use Rattle.plan_laws.specs.Limits.{expression_fits, access_fits, row_fits, map_operands, bound_operands, while_kept, and_then, kept, is_there, behind_arguments, keeps_limits}
use Rattle.printed_texts.specs.Nesting.{printed_nesting}
use Rattle.printed_texts.specs.Writable.{IsWithin, AllWithin, ExpressionsFit, RowsFit, UseFits, SubscriptsFit, BoundFits, PlainFits, StatementsFit, MayBeWritten}
use Rattle.valid_laws.proofs.Passing.{judged_passed, then_passed, plain_holds, loop_holds, condition_holds, passed_of}
use Rattle.writable_modules.proofs.Expressions as expressions
use Rattle.writable_modules.proofs.Kept.{Limited, operands_are}
use Rattle.stage_texts.specs.Law.{WrittenKeeps}

both : {a b : Bool} → a ≡ true → b ≡ true → (a && b) ≡ true
both p q = λ i. p i && q i

-- ---- a text that passes the rules, and whose expressions keep to the limits
record Kept (n : Nest) (a : Around) (t : Totals) : Type 0 where
  behind : Around
  is : kept n a ≡ Some behind
  totals : behind.totals ≡ t

kept_of : (n : Nest) (a : Around) (t : Totals) → told n a ≡ Passed t → Limited n → Kept n a t
unfolding told
kept_of Nothing a t e l = by e
  where
    by : Passed a.totals ≡ Passed t → Kept Nothing a t
    by e = record { behind = a; is = refl; totals = cc }
kept_of (Loop line v low high s body rest) a t e l =
    let j = judged_passed line (rule_of_loop (counted a) v low high s) _ t e in
    let p = then_passed (told body (in_loop v low high (counted a))) (λ t. told rest (with_totals t (counted a))) t j.1 in
    let b = kept_of body (in_loop v low high (counted a)) p.0 p.1 l.1 in
    let r = kept_of rest (with_totals p.0 a) t p.2 l.2 in
    record {
      behind = r.behind;
      is =
          (λ i. while_kept (both (loop_holds (counted a) v low high s j.0).text l.0 i) (and_then (b.is i) (λ b. kept rest (with_totals b.totals a))))
          ∙ ap (λ t. kept rest (with_totals t a)) b.totals ∙ r.is;
      totals = r.totals;
    }
kept_of (Branch line set names first has other rest) a t e l =
    let j = judged_passed line (rule_of_condition (counted a) set names) _ t e in
    let p = then_passed (told first (in_condition (counted a))) (λ t. then_told (told other (in_condition (with_totals t (counted a)))) (λ u. told rest (with_totals u (counted a)))) t j.1 in
    let q = then_passed (told other (in_condition (with_totals p.0 (counted a)))) (λ u. told rest (with_totals u (counted a))) t p.2 in
    let b = kept_of first (in_condition (counted a)) p.0 p.1 l.1 in
    let c = kept_of other (in_condition (with_totals p.0 a)) q.0 q.1 l.2 in
    let r = kept_of rest (with_totals q.0 a) t q.2 l.3 in
    let more = λ (t : Totals). and_then (kept other (in_condition (with_totals t a))) (λ c. kept rest (with_totals c.totals a)) in
    record {
      behind = r.behind;
      is =
          (λ i. while_kept (both (condition_holds (counted a) set names j.0).text l.0 i) (and_then (b.is i) (λ b. more b.totals)))
          ∙ ap more b.totals ∙ ap (λ x. and_then x (λ c. kept rest (with_totals c.totals a))) c.is ∙ ap (λ t. kept rest (with_totals t a)) c.totals ∙ r.is;
      totals = r.totals;
    }
kept_of (Does line p rest) a t e l =
    let j = judged_passed line (rule_of_plain (counted a) p rest) _ t e in
    let k = plain_holds (counted a) p rest j.0 in
    let r = kept_of rest (behind_plain p (counted a)) t j.1 l.1 in
    record { behind = r.behind; is = (λ i. while_kept (both k.text (both k.elements l.0) i) (r.is i)); totals = r.totals }

arguments_told : (args : List Arg) (body : Around → Told) (a : Around) (t : Totals) → told_arguments args body a ≡ Passed t → body (behind_arguments args a) ≡ Passed t
unfolding told_arguments
arguments_told [] body a t e = e
arguments_told (arg ∷ args) body a t e = arguments_told args body (behind_argument arg.name arg.kind a) t (judged_passed arg.line (rule_of_argument a arg.name arg.kind) _ t e).1

there : (x : Option Around) (b : Around) → x ≡ Some b → is_there x ≡ true
there x b e = ap is_there e

pub keeps_of : (m : Module) → IsValid m → Limited (nest m.body) → limits.operands_in (nest m.body) ≤ 1048576 → keeps_limits m.args (nest m.body) ≡ true
unfolding first_broken told_module keeps_limits
keeps_of m valid l few =
    let passed = passed_of (told_module m) valid in
    let k = kept_of (nest m.body) (behind_arguments m.args outside) passed.0 (arguments_told m.args (told (nest m.body)) outside passed.0 passed.1) l in
    both (le-leb (limits.operands_in (nest m.body)) 1048576 few) (there _ k.behind k.is)

-- ---- a module that may be written
within_fits : (e : Expr) → IsWithin e → expression_fits e ≡ true
unfolding printed_nesting
within_fits e h = let c = expressions.counted e in let o = h.operands in both (le-leb (operand_count e) 256 (omega (arith, c, o))) (le-leb (depths e).sum 128 h.nesting)

all_fit : (es : List Expr) → AllWithin es → list_all expression_fits es ≡ true
all_fit [] h = refl
all_fit (e ∷ es) h = both (within_fits e h.0) (all_fit es h.1)

given_fit : (d s : ℕ) (es : List Expr) → ExpressionsFit d s es → list_all expression_fits es ≡ true
given_fit d s [] h = refl
given_fit d s (e ∷ es) h = both (within_fits e h.0.within) (given_fit d s es h.1)

rows_given : (d s : ℕ) (rows : List Constraint) → RowsFit d s rows → list_all row_fits rows ≡ true
rows_given d s [] h = refl
rows_given d s (row ∷ rows) h = both (both (within_fits row.left h.0.within) (within_fits row.right h.1.within)) (rows_given d s rows h.2)

use_given : (at : Access) → UseFits at → access_fits at ≡ true
use_given at h = both (le-leb (length at.map.results) 8 h.most) (given_fit at.map.dims at.map.syms at.map.results h.results)

subscripts_given : (at : Access) → SubscriptsFit at → access_fits at ≡ true
subscripts_given at h = both (le-leb (length at.map.results) 8 h.most) (all_fit at.map.results h.within)

bound_given : (b : Bound) → BoundFits b → limits.bound_fits b ≡ true
bound_given (bound.Int z) h = refl
bound_given (bound.Value n) h = refl
bound_given (bound.Map at) h = use_given at h

plain_given : (p : Plain) → PlainFits p → list_all access_fits (maps_of p) ≡ true
plain_given (Value r pick at) h = both (use_given at h.1) refl
plain_given (Load r m at ty) h = both (subscripts_given at h.2) refl
plain_given (Store x m at ty) h = both (subscripts_given at h.2) refl
plain_given (RawLoad r m at ty) h = refl
plain_given (RawStore x m at ty) h = refl
plain_given (Constant r z ty) h = refl
plain_given (Binary r op a b ty) h = refl
plain_given (Cast r kind x from to) h = refl
plain_given (Alloc r ty) h = refl
plain_given (Dealloc m ty) h = refl
plain_given (Start a aa b bb t ta n stride types) h = both (subscripts_given aa h.0.1) (both (subscripts_given bb h.1.1) (both (subscripts_given ta h.2.1) refl))
plain_given (Wait t at n ty) h = both (subscripts_given at h.1) refl
plain_given Return h = absurd h

limited_given : (left : ℕ) (n : Nest) → StatementsFit left n → Limited n
limited_given left Nothing h = tt
limited_given zero (Loop line v l u s body rest) h = absurd h
limited_given (suc left) (Loop line v l u s body rest) h = (both (bound_given l h.1) (bound_given u h.2), limited_given left body h.4, limited_given (suc left) rest h.5)
limited_given zero (Branch line set names first has other rest) h = absurd h
limited_given (suc left) (Branch line set names first has other rest) h =
    (both (le-leb (length set.rows) 16 h.0.most) (rows_given set.dims set.syms set.rows h.0.rows), limited_given left first h.1, limited_given left other h.2, limited_given (suc left) rest h.3)
limited_given left (Does line p rest) h = (plain_given p h.0, limited_given left rest h.1)

limited_end : (a : Nest) (line : ℕ) → Limited a → Limited (followed_by a (Does line Return Nothing))
limited_end Nothing line h = (refl, tt)
limited_end (Loop last v l u s body rest) line h = (h.0, h.1, limited_end rest line h.2)
limited_end (Branch last set names first has other rest) line h = (h.0, h.1, h.2, limited_end rest line h.3)
limited_end (Does last p rest) line h = (h.0, limited_end rest line h.1)

operands_end : (a : Nest) (line : ℕ) → limits.operands_in (followed_by a (Does line Return Nothing)) ≡ limits.operands_in a
operands_end Nothing line = refl
operands_end (Loop last v l u s body rest) line = ap (λ n. bound_operands l + (bound_operands u + (limits.operands_in body + n))) (operands_end rest line)
operands_end (Branch last set names first has other rest) line = ap (λ n. sum_by limits.row_operands set.rows + (limits.operands_in first + (limits.operands_in other + n))) (operands_end rest line)
operands_end (Does last p rest) line = ap (λ n. sum_by map_operands (maps_of p) + n) (operands_end rest line)

pub given_limited : (m : Module) → MayBeWritten m → Limited (nest m.body)
given_limited m h = subst Limited (sym h.body) (limited_end h.stmts h.line (limited_given 39 h.stmts h.fit))

pub given_operands : (m : Module) → MayBeWritten m → limits.operands_in (nest m.body) ≤ 1048576
given_operands m h =
    let a = ap limits.operands_in h.body in
    let b = operands_end h.stmts h.line in
    let c = operands_are h.stmts in
    let few = h.operands in
    omega (arith, a, b, c, few)

pub written_keeps : WrittenKeeps
written_keeps m valid h = keeps_of m valid (given_limited m h) (given_operands m h)
