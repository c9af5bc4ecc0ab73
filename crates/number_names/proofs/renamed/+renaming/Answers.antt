use Rattle.std.proofs.Common.{rules, w64, ◌≡◌, ◌∷◌, [], map, drop, refl, sym, ap, ◌∙◌}
use Rattle.std.specs.Prelude.{Some, None}
use Rattle.std.proofs.lemmas.Int.{to_z-of_z}
use Rattle.std.proofs.lemmas.List.{drop_all}
use Rattle.std.proofs.lemmas.Result.{IfOk-weaker}
use Rattle.affine_ast.specs.declared.stmt.What as what
use Rattle.affine_ast.specs.Nest.{nest, followed_by}
use Rattle.affine_ast.proofs.Nests.{plain_unless, nest-nil}
use Rattle.placement_texts.specs.Renamed.{bound_named, named}
use Rattle.number_names.specs.Renaming.{new_name}
use Rattle.number_names.proofs.Renamings.{for_renamed, if_renamed, if_else_renamed, renamed_step, renamed_end}
use Rattle.number_names.proofs.renamed.+renaming.Goals as goal

pub renamed-renamed_plain-requires : goal.renamed-renamed_plain-requires
renamed-renamed_plain-requires t c = record { plain = plain_unless c.args.what.now c.in_default.not-For c.in_default.not-If }

pub renamed-returns-in_ok-body-in-For : goal.renamed-returns-in_ok-body-in-For
renamed-returns-in_ok-body-in-For t c = IfOk-weaker c.loop_over.result _ _ (λ made e.
    for_renamed (new_name c.args.numbering.now) c.args.what.now made _ _ _ _ _ c.as_slice.result.now c.in_ok-body-in-For.body c.in-For.is c.as_slice.ensures c.in_ok-body-in-For.ensures
    (e ∙ ap (λ z. what.For (new_name c.args.numbering.now c.in-For.var) (bound_named (new_name c.args.numbering.now) c.in-For.lower) (bound_named (new_name c.args.numbering.now) c.in-For.upper) z c.in_ok-body-in-For.body) (to_z-of_z w64 c.in-For.step (search rules))))
    c.loop_over.ensures

pub renamed-returns-in-None : goal.renamed-returns-in-None
renamed-returns-in-None t c = IfOk-weaker c.condition_over.result _ _ (λ made e.
    if_renamed (new_name c.args.numbering.now) c.args.what.now made _ _ _ c.as_slice-in-If.result.now c.in_ok-first-in-If.first c.in-If.other c.in-If.is c.in-None.is c.as_slice-in-If.ensures c.in_ok-first-in-If.ensures
    (e ∙ ap (λ ns. what.If c.in-If.set (map (new_name c.args.numbering.now) ns) c.in_ok-first-in-If.first None) c.as_slice-in-None.ensures))
    c.condition_over.ensures

pub renamed-returns-in_ok-other-in-Some : goal.renamed-returns-in_ok-other-in-Some
renamed-returns-in_ok-other-in-Some t c = IfOk-weaker c.condition_over-in-Some.result _ _ (λ made e.
    if_else_renamed (new_name c.args.numbering.now) c.args.what.now made _ _ _ _ c.as_slice-in-If.result.now c.as_slice-in-Some.result.now c.in_ok-first-in-If.first c.in_ok-other-in-Some.other c.in-If.other c.in-If.is c.in-Some.is
    c.as_slice-in-If.ensures c.as_slice-in-Some.ensures c.in_ok-first-in-If.ensures c.in_ok-other-in-Some.ensures
    (e ∙ ap (λ ns. what.If c.in-If.set (map (new_name c.args.numbering.now) ns) c.in_ok-first-in-If.first (Some c.in_ok-other-in-Some.other)) c.as_slice-in-Some-2.ensures))
    c.condition_over-in-Some.ensures

pub renamed_all-loop-stmt-init : goal.renamed_all-loop-stmt-init
renamed_all-loop-stmt-init t c = sym (ap (λ l. followed_by (nest l) (named (new_name c.args.numbering.now) (nest c.args.stmts.now))) c.new-made.ensures ∙ ap (λ n. followed_by n (named (new_name c.args.numbering.now) (nest c.args.stmts.now))) nest-nil)

pub renamed_all-loop-stmt-preserved : goal.renamed_all-loop-stmt-preserved
renamed_all-loop-stmt-preserved t c =
    renamed_step (new_name c.args.numbering.now) c.args.stmts.now c.loop-stmt.stmt-index c.stmt-item.result (record { line = c.stmt-item.result.line; what = c.in_ok-renamed.field-0 }) c.loop-stmt.made c.push.new.self _
    c.loop-stmt-test.true c.stmt-item.is refl c.in_ok-renamed.ensures c.in_ok-push.ensures.ok c.loop-stmt.invariant

pub renamed_all-returns : goal.renamed_all-returns
renamed_all-returns t c = renamed_end (new_name c.args.numbering.now) (drop c.loop-stmt.stmt-index c.args.stmts.now) c.loop-stmt.made _ (drop_all c.loop-stmt.stmt-index c.args.stmts.now c.loop-stmt-test.false) c.loop-stmt.invariant
