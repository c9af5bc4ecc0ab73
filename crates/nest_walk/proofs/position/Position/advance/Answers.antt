use Rattle.std.proofs.Common.{ap, subst, sym, ◌∙◌, ◌≡◌, [], ◌<◌, length, get_or, arith}
use Rattle.std.proofs.lemmas.Bool.{eqb-true, eqb-false}
use Rattle.nest_walk.proofs.Frames.{none_in_hand, first_in_hand}
use Rattle.nest_walk.proofs.position.Position.advance.Goals as goal

pub back-requires-clause-empty : goal.back-requires-clause-empty
back-requires-clause-empty c = sym c.rest-statements.ensures ∙ none_in_hand c.rest-statements.result.now (eqb-true _ _ (sym c.is_empty.ensures ∙ c.if-is_empty.true))

pub start-requires-clause-there : goal.start-requires-clause-there
start-requires-clause-there c =
    let some = eqb-false _ _ (sym c.is_empty.ensures ∙ c.if-is_empty.false) in
    sym c.rest-statements.ensures ∙ first_in_hand c.rest-statements.result.now c.index-statements-0.result (omega (arith, some)) c.index-statements-0.is
