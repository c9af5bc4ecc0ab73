use Rattle.std.proofs.Common.{refl}
use Rattle.order_memory.proofs.Engines.{finishes}
use Rattle.order_memory.proofs.memory.Memory.finish.Goals as goal

pub finish-requires : goal.finish-requires
finish-requires c = (_, c.requires.2.fly)

pub returns-clause-finishes : goal.returns-clause-finishes
returns-clause-finishes c = λ rooms x t. finishes rooms x _ t c.args.engines _ refl refl refl refl c.finish.ensures.room c.finish.ensures.waiting_room c.args.engine c.finish.result refl c.finish.ensures.kept c.finish.ensures.finishes
