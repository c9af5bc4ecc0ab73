use Rattle.std.specs.Prelude.{Some}
use Rattle.nest_walk.proofs.Steps.{placed_new}
use Rattle.nest_walk.proofs.position.Position.place.Goals as goal

pub returns : goal.returns
returns c =
    placed_new c.args.self.now _ _ _ c.args.name (Some c.args.home) c.stand-before.result c.args.fasts c.args.tags c.requires.ready c.requires.name c.requires.room c.stand-before.ensures.at c.stand-before.ensures.before c.count.ensures c.push.ensures
