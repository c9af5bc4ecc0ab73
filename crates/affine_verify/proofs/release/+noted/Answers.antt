use Rattle.std.proofs.Common.{ap, sym, ◌∙◌, arith, ◌+◌}
use Rattle.std.specs.Prelude.{◌||◌, nat_lt}
use Rattle.std.proofs.lemmas.Result.{IfOk-weaker}
use Rattle.affine_ast.specs.declared.stmt.What as what
use Rattle.affine_ast.specs.Nest.{nest}
use Rattle.affine_ast.proofs.Nests.{plain_unless}
use Rattle.affine_ast.specs.Rules.{deallocs}
use Rattle.affine_rules.specs.Scoped.{names_of}
use Rattle.affine_verify.proofs.Released.{in_loop, in_if, in_else, both_noted, noted_step, noted_end}
use Rattle.affine_verify.proofs.release.+noted.Goals as goal

pub note_stmt-returns-in-For : goal.note_stmt-returns-in-For
note_stmt-returns-in-For t c = IfOk-weaker c.note_list.result _ _
    (λ done h m. h m ∙ ap (λ n. names_of c.args.names.now.keys m || nat_lt 0 n) (ap (λ b. deallocs m (nest b)) c.as_slice.ensures ∙ sym (in_loop m c.args.stmt.now.what c.in-For.var c.in-For.lower c.in-For.upper c.in-For.step c.in-For.body c.in-For.is)))
    c.note_list.ensures

pub note_stmt-returns-in-None : goal.note_stmt-returns-in-None
note_stmt-returns-in-None t c = λ m. c.in_ok-note_list-in-If.ensures m
    ∙ ap (λ n. names_of c.args.names.now.keys m || nat_lt 0 n) (ap (λ b. deallocs m (nest b)) c.as_slice-in-If.ensures ∙ sym (in_if m c.args.stmt.now.what c.in-If.set c.in-If.operands c.in-If.first (c.in-If.is ∙ ap (what.If c.in-If.set c.in-If.operands c.in-If.first) c.in-None.is)))

pub note_stmt-returns-in-Some : goal.note_stmt-returns-in-Some
note_stmt-returns-in-Some t c = IfOk-weaker c.note_list-in-Some.result _ _
    (λ done h m. both_noted _ _ _ _ _ _ (c.in_ok-note_list-in-If.ensures m) (h m)
    (in_else m c.args.stmt.now.what c.in-If.set c.in-If.operands c.in-If.first c.in-Some.other (c.in-If.is ∙ ap (what.If c.in-If.set c.in-If.operands c.in-If.first) c.in-Some.is)
    ∙ (λ i. deallocs m (nest (sym c.as_slice-in-If.ensures i)) + deallocs m (nest (sym c.as_slice-in-Some.ensures i)))))
    c.note_list-in-Some.ensures

pub note_stmt-note_plain-requires : goal.note_stmt-note_plain-requires
note_stmt-note_plain-requires t c = plain_unless c.args.stmt.now.what c.in_default.not-For c.in_default.not-If

pub note_list-loop-stmt-preserved : goal.note_list-loop-stmt-preserved
note_list-loop-stmt-preserved t c = λ m. noted_step m c.args.stmts.now c.loop-stmt.stmt-index c.stmt-item.result _ _ _ c.loop-stmt-test.true c.stmt-item.is (c.loop-stmt.invariant m) (c.in_ok-note_stmt.ensures m)

pub note_list-returns : goal.note_list-returns
note_list-returns t c = λ m. noted_end m c.args.stmts.now c.loop-stmt.stmt-index _ _ (omega arith) (c.loop-stmt.invariant m)
