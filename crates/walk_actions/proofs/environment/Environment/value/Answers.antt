use Rattle.std.proofs.Common.{rules, ◌<◌, length, get_or, ap, ◌∙◌, arith}
use Rattle.std.proofs.lemmas.Int.{to_z-of_z}
use Rattle.std.proofs.lemmas.List.Elements.{All-get_or}
use mir.Val.{SFits}
use mir.Syntax.{w64}
use Rattle.walk_actions.specs.Looked.{env_of}
use Rattle.direct_meaning.specs.Static.{number}
use Rattle.walk_program.specs.Names.{name_at}
use Rattle.walk_actions.proofs.Values.{dim_below, dim_value}
use Rattle.walk_actions.proofs.environment.Environment.value.Goals as goal

pub bounds-as_slice-place : goal.bounds-as_slice-place
bounds-as_slice-place c =
    let b = dim_below c.args.self.now c.args.at.now c.in-Dim.place c.args.expr.now c.in-Dim.is c.requires.safe in
    omega (arith, b, ap length c.as_slice.ensures)

pub number-requires : goal.number-requires
number-requires c =
    let b = dim_below c.args.self.now c.args.at.now c.in-Dim.place c.args.expr.now c.in-Dim.is c.requires.safe in
    record { name = rw c.as_slice.ensures (All-get_or (λ k. k < length c.args.self.now.names) c.args.at.now.operands c.in-Dim.place 0 b c.requires.room.operands.below) }

pub returns-in-Dim-clause-value : goal.returns-in-Dim-clause-value
returns-in-Dim-clause-value c =
    let f : SFits w64 c.number.result = search rules in
    let n = c.number.ensures ∙ ap (λ xs. number ((env_of c.args.self.now).known (name_at c.args.self.now.names (get_or xs c.in-Dim.place 0)))) c.as_slice.ensures in
    simp to_z-of_z (n ∙ dim_value c.args.self.now c.args.at.now c.in-Dim.place c.args.expr.now c.in-Dim.is c.requires.safe)
