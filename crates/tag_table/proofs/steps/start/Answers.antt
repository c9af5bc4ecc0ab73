use Rattle.std.proofs.Common.{Some, ap}
use Rattle.tag_table.proofs.steps.start.Goals as goal

pub returns-clause-into : goal.returns-clause-into
returns-clause-into c v is inc = c.publish.ensures.into record { prompt = v.prompt; held = Some c.args.tag; tags = v.tags; met = v.met; engines = v.engines } (ap (λ m. m.0) (c.hold.ensures.held v is)) inc

pub returns-clause-out : goal.returns-clause-out
returns-clause-out c v is out = c.publish.ensures.out record { prompt = v.prompt; held = Some c.args.tag; tags = v.tags; met = v.met; engines = v.engines } (ap (λ m. m.0) (c.hold.ensures.held v is)) out
