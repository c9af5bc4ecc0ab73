use Rattle.std.proofs.Common.{arith, ◌++◌, map, ap, sym, ◌∙◌, refl}
use Rattle.std.proofs.lemmas.Result.{on_ok_weaker}
use Rattle.affine_ast.specs.Nest.{Nothing, put_what}
use Rattle.nest_domain.specs.Ways.{uses}
use Rattle.nest_domain.specs.Steps.{header_of}
use Rattle.text_places.specs.Finding.{seen}
use Rattle.text_places.proofs.Statements.{past_plain}
use Rattle.text_places.proofs.Accesses.{adding_goes_on, condition_uses, plain_uses}
use Rattle.text_places.proofs.Sizes.{statement_smaller, body_smaller, both_smaller}
use Rattle.text_places.proofs.within.+uses.Goals as goal

pub add_all-loop-stmt-preserved : goal.add_all-loop-stmt-preserved
add_all-loop-stmt-preserved t c =
    adding_goes_on c.args.memref.now c.args.stmts.now c.loop-stmt.stmt-index c.stmt-item.result _ _ _ _ _ _ (omega arith) c.stmt-item.is c.loop-stmt.invariant c.in_ok-add_one.ensures.uses c.in_ok-add_one.ensures.way

pub add_one-returns-in-If-clause-uses : goal.add_one-returns-in-If-clause-uses
add_one-returns-in-If-clause-uses t c =
    let added = rw (c.as_slice-operands.ensures, c.as_slice-first.ensures, c.or_none.ensures) at c.add_condition.ensures.uses in
    let way = map header_of c.args.way.now.items in
    on_ok_weaker c.add_condition.result
    (λ e. e ∙ ap (λ l. map seen c.args.out.now.items ++ l)
    (sym (condition_uses c.args.memref.now c.args.stmt.now.line c.in-If.set c.in-If.operands c.in-If.first c.in-If.other way)
    ∙ ap (λ w. uses c.args.memref.now (put_what w c.args.stmt.now.line Nothing) way) (sym c.in-If.is))) added

pub add_one-returns-in_ok-push-in_default : goal.add_one-returns-in_ok-push-in_default
add_one-returns-in_ok-push-in_default t c =
    let added = rw c.as_slice-in_default.ensures.value at c.in_ok-add_plain-in_default.ensures in
    record {
      uses = added ∙ ap (λ l. map seen c.args.out.now.items ++ l) (sym (plain_uses c.args.stmt.now.what c.in_default.not-For c.in_default.not-If c.args.memref.now c.args.stmt.now.line (map header_of c.args.way.now.items)));
      way = past_plain c.args.way.now.items c.push.new.self.items _ c.args.stmt.now.what c.in_default.not-For c.in_default.not-If c.in_ok-push-in_default.ensures.items refl;
    }

-- ---- that each walk ends
pub add_all-add_one-requires : goal.add_all-add_one-requires
add_all-add_one-requires t c = (statement_smaller c.args.stmts.now c.loop-stmt.stmt-index c.stmt-item.result t (omega arith) c.stmt-item.is c.decreases, tt)

pub add_one-add_loop-requires : goal.add_one-add_loop-requires
add_one-add_loop-requires t c =
    (body_smaller c.args.stmt.now.line c.args.stmt.now.what t c.in-For.var c.in-For.lower c.in-For.upper c.in-For.step c.in-For.body c.as_slice.result.now c.in-For.is c.as_slice.ensures c.decreases, tt)

pub add_one-add_condition-requires : goal.add_one-add_condition-requires
add_one-add_condition-requires t c =
    (both_smaller c.args.stmt.now.line c.args.stmt.now.what t c.in-If.set c.in-If.operands c.in-If.first c.in-If.other c.as_slice-first.result.now c.or_none.result.now c.in-If.is c.as_slice-first.ensures c.or_none.ensures c.decreases, tt)
