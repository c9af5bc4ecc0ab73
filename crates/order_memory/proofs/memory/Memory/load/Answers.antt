use Rattle.std.proofs.Common.{rules, ◌∙◌, refl, ap, w64}
use Rattle.std.proofs.lemmas.Int.{to_z-of_z}
use Rattle.affine_ast.specs.Names.{put}
use Rattle.walk_program.specs.Names.{name_at}
use Rattle.run_parts.specs.Registered.{values_of}
use Rattle.order_memory.proofs.Acts.{kept}
use Rattle.order_memory.proofs.memory.Memory.load.Goals as goal

pub returns-in-Ok-clause-follows : goal.returns-in-Ok-clause-follows
returns-in-Ok-clause-follows c = λ rooms x t i.
    (let r = name_at c.args.self.now.registers.names c.args.into in
    (_, c.in-Ok.ensures rooms x t i r, kept rooms x _ t r c.in-Ok.value _ (c.keep.ensures.values ∙ ap (put (values_of c.args.self.now.registers) r) (to_z-of_z w64 c.in-Ok.value (search rules))) refl refl refl refl refl))

pub returns-in-Err-clause-follows : goal.returns-in-Err-clause-follows
returns-in-Err-clause-follows c = λ rooms x t i. (x, c.in-Err.ensures rooms x t i (name_at c.args.self.now.registers.names c.args.into), t)
