use Rattle.std.proofs.Common.{refl, ◌∙◌, sym, ap, arith, drop, suc, ◌+◌}
use Rattle.affine_ast.specs.Nest.{nest}
use Rattle.affine_ast.specs.PlainLimits.{plain_told, then_plain, plain_judged}
use Rattle.affine_ast.proofs.PlainTolds.{plain-For, plain-condition, nest_of_other, arm, fault_stays, fault_outcome, no_fault, plain-step, plain-end, none_told, when_none, plain-any}
use Rattle.affine_ast.proofs.Nests.{plain_unless}
use Rattle.affine_ast.proofs.plain.+faults.Goals as goal

pub stmt_fault-returns-in-For-clause-told : goal.stmt_fault-returns-in-For-clause-told
stmt_fault-returns-in-For-clause-told t c =
    λ rest. arm _ rest _ _ _ _ _ _ _ _ c.in-For.is (plain-For _ rest _ _ c.in-For.var c.in-For.lower c.in-For.upper c.in-For.step c.in-For.body) c.bounds_short.ensures
    (ap (λ ss. plain_judged c.args.stmt.now.line c.args.loops (suc c.args.counted.now) c.bounds_short.result (then_plain (plain_told (nest ss) (suc c.args.loops) (suc c.args.counted.now)) (plain_told rest c.args.loops))) (sym c.as_slice.ensures)
    ∙ c.loop_fault.ensures.told (plain_told rest c.args.loops))

pub stmt_fault-returns-then-is_some-clause-told : goal.stmt_fault-returns-then-is_some-clause-told
stmt_fault-returns-then-is_some-clause-told t c =
    λ rest. arm _ rest _ _ _ _ _ _ _ _ c.in-If.is (plain-condition _ rest _ _ c.in-If.set c.in-If.operands c.in-If.first c.in-If.other) c.set_short.ensures
    (ap (λ ss. plain_judged c.args.stmt.now.line c.args.loops (suc c.args.counted.now) c.set_short.result (then_plain (plain_told (nest ss) c.args.loops (suc c.args.counted.now)) (λ n. then_plain (plain_told (nest_of_other c.in-If.other) c.args.loops n) (plain_told rest c.args.loops)))) (sym c.as_slice-in-If.ensures)
    ∙ c.condition_fault-fault.ensures.told (λ n. then_plain (plain_told (nest_of_other c.in-If.other) c.args.loops n) (plain_told rest c.args.loops))
    ∙ fault_stays c.condition_fault-fault.result _ _ _ (sym c.is_some.ensures ∙ c.if-is_some.true))

pub stmt_fault-returns-in-None-clause-told : goal.stmt_fault-returns-in-None-clause-told
stmt_fault-returns-in-None-clause-told t c =
    λ rest. arm _ rest _ _ _ _ _ _ _ _ c.in-If.is (plain-condition _ rest _ _ c.in-If.set c.in-If.operands c.in-If.first c.in-If.other) c.set_short.ensures
    (ap (λ ss. plain_judged c.args.stmt.now.line c.args.loops (suc c.args.counted.now) c.set_short.result (then_plain (plain_told (nest ss) c.args.loops (suc c.args.counted.now)) (λ n. then_plain (plain_told (nest_of_other c.in-If.other) c.args.loops n) (plain_told rest c.args.loops)))) (sym c.as_slice-in-If.ensures)
    ∙ c.condition_fault-fault.ensures.told (λ n. then_plain (plain_told (nest_of_other c.in-If.other) c.args.loops n) (plain_told rest c.args.loops))
    ∙ no_fault c.condition_fault-fault.result _ _ (sym c.is_some.ensures ∙ c.if-is_some.false) ∙ ap (λ o. then_plain (plain_told (nest_of_other o) c.args.loops c.condition_fault-fault.new.counted) (plain_told rest c.args.loops)) c.in-None.is ∙ none_told _ _ _)

pub stmt_fault-returns-in-Some-clause-told : goal.stmt_fault-returns-in-Some-clause-told
stmt_fault-returns-in-Some-clause-told t c =
    λ rest. arm _ rest _ _ _ _ _ _ _ _ c.in-If.is (plain-condition _ rest _ _ c.in-If.set c.in-If.operands c.in-If.first c.in-If.other) c.set_short.ensures
    (ap (λ ss. plain_judged c.args.stmt.now.line c.args.loops (suc c.args.counted.now) c.set_short.result (then_plain (plain_told (nest ss) c.args.loops (suc c.args.counted.now)) (λ n. then_plain (plain_told (nest_of_other c.in-If.other) c.args.loops n) (plain_told rest c.args.loops)))) (sym c.as_slice-in-If.ensures)
    ∙ c.condition_fault-fault.ensures.told (λ n. then_plain (plain_told (nest_of_other c.in-If.other) c.args.loops n) (plain_told rest c.args.loops))
    ∙ no_fault c.condition_fault-fault.result _ _ (sym c.is_some.ensures ∙ c.if-is_some.false) ∙ ap (λ o. then_plain (plain_told (nest_of_other o) c.args.loops c.condition_fault-fault.new.counted) (plain_told rest c.args.loops)) c.in-Some.is ∙ ap (λ ss. then_plain (plain_told (nest ss) c.args.loops c.condition_fault-fault.new.counted) (plain_told rest c.args.loops)) (sym c.as_slice-in-Some.ensures) ∙ ap (λ o. then_plain o (plain_told rest c.args.loops)) c.list_fault.ensures.told)

pub list_fault-returns-then-is_some-clause-told : goal.list_fault-returns-then-is_some-clause-told
list_fault-returns-then-is_some-clause-told t c =
    c.loop-stmt.invariant.told ∙ plain-step c.args.stmts.now c.loop-stmt.stmt-index c.stmt-item.result _ _ (omega arith) c.stmt-item.is
    ∙ c.stmt_fault-fault.ensures.told (nest (drop (c.loop-stmt.stmt-index + 1) c.args.stmts.now))
    ∙ fault_outcome c.stmt_fault-fault.result _ _ (sym c.is_some.ensures ∙ c.if-is_some.true)

pub list_fault-loop-stmt-preserved : goal.list_fault-loop-stmt-preserved
list_fault-loop-stmt-preserved t c = record {
  told =
      c.loop-stmt.invariant.told ∙ plain-step c.args.stmts.now c.loop-stmt.stmt-index c.stmt-item.result _ _ (omega arith) c.stmt-item.is
      ∙ c.stmt_fault-fault.ensures.told (nest (drop (c.loop-stmt.stmt-index + 1) c.args.stmts.now))
      ∙ no_fault c.stmt_fault-fault.result _ _ (sym c.is_some.ensures ∙ c.if-is_some.false);
  within = when_none c.stmt_fault-fault.result (sym c.is_some.ensures ∙ c.if-is_some.false) c.stmt_fault-fault.ensures.within;
}

pub list_fault-returns-clause-told : goal.list_fault-returns-clause-told
list_fault-returns-clause-told t c = c.loop-stmt.invariant.told ∙ plain-end c.args.stmts.now c.loop-stmt.stmt-index _ _ (omega arith)

pub stmt_fault-returns-in_default-clause-told : goal.stmt_fault-returns-in_default-clause-told
stmt_fault-returns-in_default-clause-told t c =
    λ rest. arm _ rest _ _ c.args.stmt.now.what _ _ _ _ _ refl (plain-any _ rest _ _ c.args.stmt.now.what (plain_unless c.args.stmt.now.what c.in_default.not-For c.in_default.not-If)) c.stands.ensures (c.plain_fault.ensures.told (plain_told rest c.args.loops))
