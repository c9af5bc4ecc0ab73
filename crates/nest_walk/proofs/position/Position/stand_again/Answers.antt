use Rattle.walk_program.specs.Names.{name_at}
use Rattle.walk_actions.specs.Looked.{env_of, with_home, homes_meant}
use Rattle.nest_walk.specs.Jobs.{stand_of}
use Rattle.nest_walk.proofs.Frames.{under_stand}
use Rattle.nest_walk.proofs.Steps.{placed_again, placed_inside}
use Rattle.nest_walk.proofs.position.Position.stand_again.Goals as goal

pub stand-requires : goal.stand-requires
stand-requires c = record { name = placed_inside (stand_of c.args.self.now) c.args.name c.args.before c.requires.ready }

pub returns : goal.returns
returns c =
    let p = c.args.self.now in
    placed_again (stand_of p) _ c.args.name c.args.before c.requires.ready c.requires.empty (under_stand p _ (with_home (name_at p.bindings.names c.args.name) (homes_meant c.args.before) (env_of p.bindings)) c.stand.ensures.at)
