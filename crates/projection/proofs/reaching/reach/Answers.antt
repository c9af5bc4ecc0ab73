use Rattle.std.proofs.Common.{rules, to_z-of_z}
use Rattle.constraint_set.specs.Reach.{reach_of}
use Rattle.constraint_set.proofs.Bounding.{bounds_there}
use Rattle.projection.specs.Answers.{Meets}
use Rattle.projection.specs.Reaches.{form_of, shape_of}
use Rattle.projection.proofs.Exits.{told}
use Rattle.projection.proofs.reaching.reach.Goals as goal

pub returns-clause-tells : goal.returns-clause-tells
returns-clause-tells c =
    let m : Meets (reach_of c.args.system.now (form_of c.args.coefs.now c.args.constant)) shape_of c.find_reach.result = search (rules, to_z-of_z) in
    told c.args.system.now (form_of c.args.coefs.now c.args.constant) c.find_reach.result c.vars-wide.ensures.wide c.requires m

pub returns-clause-bounds : goal.returns-clause-bounds
returns-clause-bounds c = bounds_there c.args.system.now (form_of c.args.coefs.now c.args.constant) c.vars-wide.ensures.wide c.requires
