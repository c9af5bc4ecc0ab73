use Rattle.walk_program.specs.Names.{name_at}
use Rattle.walk_actions.specs.Looked.{env_of, with_known}
use Rattle.nest_walk.specs.Jobs.{stand_of}
use Rattle.nest_walk.proofs.Frames.{under_stand}
use Rattle.nest_walk.proofs.Steps.{known_again, known_inside}
use Rattle.nest_walk.proofs.position.Position.know_again.Goals as goal

pub know-requires : goal.know-requires
know-requires c = record { name = known_inside (stand_of c.args.self.now) c.args.name c.args.before c.requires.ready }

pub returns : goal.returns
returns c =
    let p = c.args.self.now in
    known_again (stand_of p) _ c.args.name c.args.before c.requires.ready c.requires.empty (under_stand p _ (with_known (name_at p.bindings.names c.args.name) c.args.before (env_of p.bindings)) c.know.ensures.at)
