use Rattle.std.proofs.Common.{◌∙◌, ◌++◌, ◌+◌, [], ◌∷◌, take, sym, ap, subst}
use Rattle.std.proofs.lemmas.List.{take_more}
use Rattle.walk_program.specs.Names.{uses_of_arguments}
use Rattle.walk_program.specs.Numbering.{Numbers, AreArguments}
use Rattle.walk_program.proofs.Programs.{arguments-push}
use Rattle.walk_program.proofs.making.number_arguments.Goals as goal

pub loop-arg-preserved : goal.loop-arg-preserved
loop-arg-preserved c =
    let ws = take c.loop-arg.arg-index c.args.args.now in
    let vs = take (c.loop-arg.arg-index + 1) c.args.args.now in
    let e = take_more c.args.args.now c.loop-arg.arg-index c.arg-item.result c.loop-arg-test.true ∙ ap (λ w. ws ++ w ∷ []) (sym c.arg-item.is) in
    subst (λ xs. Numbers (AreArguments xs vs) (uses_of_arguments vs) 0 c.args.numbering.now c.number.new.self) (sym c.in_ok-push.ensures.ok)
    (arguments-push c.loop-arg.arguments ws vs c.arg-item.result c.in_ok-number.field-0 c.in_ok-copy.field-0 c.args.numbering.now c.loop-arg.numbering c.number.new.self e c.in_ok-copy.ensures c.loop-arg.invariant c.in_ok-number.ensures)
