use Rattle.std.proofs.Common.{refl}
use Rattle.order_memory.proofs.Engines.{takes}
use Rattle.order_memory.proofs.memory.Memory.take.Goals as goal

pub take-requires : goal.take-requires
take-requires c = (_, c.requires.2.fly)

pub returns-clause-takes : goal.returns-clause-takes
returns-clause-takes c = λ rooms x t. takes rooms x _ t c.args.engines _ refl refl refl refl c.take.ensures.room c.take.ensures.waiting_room c.args.engine c.args.tag c.take.result refl c.take.ensures.kept c.take.ensures.takes
