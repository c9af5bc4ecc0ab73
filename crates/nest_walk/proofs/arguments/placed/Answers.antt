use Rattle.std.proofs.Common.{map, ap, ◌∙◌, arith}
use Rattle.std.specs.Prelude.{fold}
use Rattle.std.proofs.lemmas.List.{take_all}
use Rattle.direct_meaning.specs.Memory.{Placed, place_arg, empty_env, start_env}
use Rattle.walk_program.specs.Reading.{argument_of}
use Rattle.nest_walk.proofs.arguments.placed.Goals as goal

pub returns-clause-env : goal.returns-clause-env
unfolding start_env
returns-clause-env c =
    ap (λ (p : Placed). p.env) (c.loop-argument.invariant.placed
    ∙ ap (λ xs. fold place_arg (record { env = empty_env; memrefs = 0; elements = 0; symbols = c.args.symbols.now }) (map (argument_of c.args.names.now) xs))
    (take_all c.loop-argument.argument-index c.args.arguments.now (omega arith)))
