use Rattle.std.proofs.Common.{rules, sym, ap, ◌∙◌, true, false}
use Rattle.std.proofs.lemmas.Int.{to_z-of_z}
use mir.Val.{SFits}
use mir.Syntax.{w64}
use Rattle.walk_program.specs.declared.statement.Form as form
use Rattle.walk_program.specs.Tree.{Loop, tree}
use Rattle.nest_walk.proofs.Steps.{loop_there, if_there, if_else_there, plain_there}
use Rattle.nest_walk.proofs.position.Position.start.Goals as goal
use Rattle.nest_walk.proofs.position.Position.start.Goals.{in-Some, in-None}

pub start_loop-requires-clause-there : goal.start_loop-requires-clause-there
start_loop-requires-clause-there c =
    let s : SFits w64 c.in-For.step = search rules in
    simp to_z-of_z (
      c.args.first.now.line,
      loop_there c.args.self.now.rest c.args.first.now c.args.rest.now c.in-For.var c.in-For.lower c.in-For.upper c.in-For.step c.in-For.inside c.in-For.body c.requires.there c.in-For.is
          ∙ ap (λ body. Loop c.args.first.now.line c.in-For.var c.in-For.lower c.in-For.upper c.in-For.step c.in-For.inside (tree body) (tree c.args.rest.now)) (sym c.as_slice.ensures),
    )

pub start_condition-requires-clause-there : goal.start_condition-requires-clause-there
start_condition-requires-clause-there c =
    elim c.match-other.branch [
      | in-Some w ↦ (
        c.args.first.now.line,
        true,
        if_else_there c.args.self.now.rest c.args.first.now c.args.rest.now c.in-If.set c.as_slice-in-If.result.now c.as_slice-in-If-2.result.now w.in-Some.other c.in-If.first_inside c.in-If.other_inside c.match-other.other.now c.requires.there
            (c.in-If.is ∙ (λ i. form.If c.in-If.set (sym c.as_slice-in-If.ensures i) (sym c.as_slice-in-If-2.ensures i) c.in-If.first_inside (w.in-Some.is i) c.in-If.other_inside))
            (ap (λ b. b.now) w.other-is ∙ w.as_slice-other.ensures),
      )
      | in-None w ↦ (
        c.args.first.now.line,
        false,
        if_there c.args.self.now.rest c.args.first.now c.args.rest.now c.in-If.set c.as_slice-in-If.result.now c.as_slice-in-If-2.result.now c.in-If.first_inside c.in-If.other_inside c.match-other.other.now c.requires.there
            (c.in-If.is ∙ (λ i. form.If c.in-If.set (sym c.as_slice-in-If.ensures i) (sym c.as_slice-in-If-2.ensures i) c.in-If.first_inside (w.in-None.is i) c.in-If.other_inside))
            (ap (λ b. b.now) w.other-is),
      )
    ]

pub act-requires-clause-there : goal.act-requires-clause-there
act-requires-clause-there c = (c.args.first.now.line, plain_there c.args.self.now.rest c.args.first.now c.args.rest.now c.in-Plain.plain c.requires.there c.in-Plain.is)
