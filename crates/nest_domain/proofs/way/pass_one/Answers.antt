use Rattle.std.proofs.Common.{sym, ap, ◌∙◌, [], ◌∷◌}
use Rattle.affine_ast.specs.Nest.{nest}
use Rattle.affine_ast.proofs.Nests.{plain_unless}
use Rattle.nest_domain.specs.Ways.{Past}
use Rattle.nest_domain.proofs.Passing.{passed_one, passed_two, past_loop, past_condition, past_plain}
use Rattle.nest_domain.proofs.way.pass_one.Goals as goal

pub returns-in_ok-push-in-For : goal.returns-in_ok-push-in-For
returns-in_ok-push-in-For c = passed_one c.args.way.now.items c.push.new.self.items _ _ c.in_ok-push-in-For.ensures.items
    (ap (λ b. Past (nest b) ∷ []) c.as_slice.ensures ∙ sym (past_loop c.args.stmt.now.what c.in-For.var c.in-For.lower c.in-For.upper c.in-For.step c.in-For.body c.in-For.is))

pub returns-in_ok-push-in-If-2 : goal.returns-in_ok-push-in-If-2
returns-in_ok-push-in-If-2 c = passed_two c.args.way.now.items c.push-in-If.new.self.items c.push-in-If-2.new.self.items _ _ _ c.in_ok-push-in-If.ensures.items c.in_ok-push-in-If-2.ensures.items
    ((λ i. Past (nest (c.as_slice-in-If.ensures i)) ∷ Past (nest (c.or_none.ensures i)) ∷ []) ∙ sym (past_condition c.args.stmt.now.what c.in-If.set c.in-If.operands c.in-If.first c.in-If.other c.in-If.is))

pub returns-in_ok-push-in_default : goal.returns-in_ok-push-in_default
returns-in_ok-push-in_default c = passed_one c.args.way.now.items c.push-in_default.new.self.items _ _ c.in_ok-push-in_default.ensures.items
    (sym (past_plain c.args.stmt.now.what (plain_unless c.args.stmt.now.what c.in_default.not-For c.in_default.not-If)))
