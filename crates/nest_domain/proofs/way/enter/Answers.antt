use Rattle.std.proofs.Common.{rules, sym, subst, ◌∙◌, [], ◌∷◌, ◌++◌, map, Some, None, false, to_z-of_z}
use Rattle.std.specs.Prelude.{if◌then◌else◌}
use Rattle.affine_ast.specs.Nest.{nest}
use Rattle.affine_ast.proofs.Nests.{plain_unless}
use Rattle.nest_domain.specs.Ways.{Given, Except}
use Rattle.nest_domain.specs.Steps.{header_of, Enters}
use Rattle.nest_domain.proofs.Passing.{passed_one, enters_loop, enters_no_loop, enters_region, enters_nothing}
use Rattle.nest_domain.proofs.way.enter.Goals as goal

pub returns-then-other : goal.returns-then-other
returns-then-other c =
    let old = map header_of c.args.way.now.items in
    subst (λ t. Enters c.args.stmt.now t old old None) (sym c.if-other.true) (enters_no_loop c.args.stmt.now c.in-For.var c.in-For.lower c.in-For.upper c.in-For.step c.in-For.body old old c.in-For.is)

pub returns-in_ok-push-in-For : goal.returns-in_ok-push-in-For
returns-in_ok-push-in-For c =
    let old = map header_of c.args.way.now.items in
    let new = map header_of c.push.new.self.items in
    subst (λ t. Enters c.args.stmt.now t old new (Some c.as_slice.result.now)) (sym c.if-other.false)
    (subst (λ b. Enters c.args.stmt.now false old new (Some b)) (sym c.as_slice.ensures)
    (enters_loop c.args.stmt.now c.in-For.var c.in-For.lower c.in-For.upper c.in-For.step c.in-For.body old new c.in-For.is (passed_one c.args.way.now.items c.push.new.self.items _ _ c.in_ok-push-in-For.ensures.items (search (rules, to_z-of_z)))))

pub returns-in_ok-inner-in-If : goal.returns-in_ok-inner-in-If
returns-in_ok-inner-in-If c =
    let old = map header_of c.args.way.now.items in
    let new = map header_of c.enter_region.new.way.items in
    enters_region c.args.stmt.now c.in-If.set c.in-If.operands c.in-If.first c.in-If.rest c.args.other c.in_ok-inner-in-If.inner.now old new c.in-If.is
    (c.in_ok-inner-in-If.ensures.way ∙ (λ i. old ++ (if c.args.other then Except c.in-If.set (c.as_slice-in-If.ensures i) (nest (c.as_slice-in-If-2.ensures i)) else Given c.in-If.set (c.as_slice-in-If.ensures i)) ∷ []))
    (c.in_ok-inner-in-If.ensures.inner ∙ (λ i. if c.args.other then c.or_none-rest.ensures i else c.as_slice-in-If-2.ensures i))

pub returns-in_default : goal.returns-in_default
returns-in_default c = enters_nothing c.args.stmt.now c.args.other (map header_of c.args.way.now.items) (map header_of c.args.way.now.items) (plain_unless c.args.stmt.now.what c.in_default.not-For c.in_default.not-If)
