use Rattle.std.proofs.Common.{[], ◌∷◌, ◌++◌, pos, ◌∙◌, ap, rules}
use mir.Syntax.{w64}
use mir.Val.{SFits}
use Rattle.std.proofs.lemmas.Int.{to_z-of_z}
use Rattle.case_gen.specs.Parts.{element_of}
use Rattle.case_gen.proofs.Fitting.{row_more}
use Rattle.case_gen.proofs.memory.Matrix.push_row.Goals as goal

pub loop-column-preserved : goal.loop-column-preserved
loop-column-preserved c =
    let fits : SFits w64 c.element-element.result = search rules in
    let pushed = simp to_z-of_z at c.in_ok-push.ensures.ok in
    row_more (λ j. pos (element_of c.args.self c.args.row j)) c.loop-column.column _ _ _ c.loop-column.invariant (pushed ∙ ap (λ x. c.loop-column.values ++ x ∷ []) c.element-element.ensures)
