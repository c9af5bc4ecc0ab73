use Rattle.walk_program.specs.Names.{name_at}
use Rattle.walk_actions.specs.Looked.{env_of}
use Rattle.walk_actions.specs.Values.{use_of}
use Rattle.walk_actions.proofs.Elements.{slow_place, slow_outside, tags_place}
use Rattle.walk_actions.proofs.environment.Environment.place.Goals as goal

pub returns-in-Some-clause-value : goal.returns-in-Some-clause-value
returns-in-Some-clause-value c =
    let home = (rw c.in-Some-Slow.field-0-is at c.in-Some-Slow.ensures) in
    slow_place (env_of c.args.self.now) (name_at c.args.self.now.names c.args.memref) (use_of c.args.self.now c.args.at.now) c.args.ty.now _ _ _ home c.in-Some.ensures.value

pub returns-in-None-element-clause-value : goal.returns-in-None-element-clause-value
returns-in-None-element-clause-value c =
    let home = (rw c.in-Some-Slow.field-0-is at c.in-Some-Slow.ensures) in
    slow_outside (env_of c.args.self.now) (name_at c.args.self.now.names c.args.memref) (use_of c.args.self.now c.args.at.now) c.args.ty.now _ _ home c.in-None-element.ensures.value

pub returns-in-Some-Tags-clause-value : goal.returns-in-Some-Tags-clause-value
returns-in-Some-Tags-clause-value c =
    let home = (rw c.in-Some-Tags.field-0-is at c.in-Some-Tags.ensures) in
    tags_place (env_of c.args.self.now) (name_at c.args.self.now.names c.args.memref) (use_of c.args.self.now c.args.at.now) c.args.ty.now _ home
