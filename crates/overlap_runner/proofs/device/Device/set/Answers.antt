use Rattle.std.proofs.Common.{rules, w64, refl, ap, ◌∙◌}
use Rattle.std.proofs.lemmas.Int.{to_z-of_z}
use Rattle.affine_ast.specs.Names.{put}
use Rattle.run_parts.specs.Registered.{values_of}
use Rattle.walk_program.specs.Names.{name_at}
use Rattle.overlap_runner.proofs.Taken.{sets}
use Rattle.overlap_runner.proofs.device.Device.set.Goals as goal

pub returns-clause-follows : goal.returns-clause-follows
returns-clause-follows c = λ rooms shape y k. sets c.args.bus.now rooms shape c.args.self.now y _ _ _ c.args.value _ k.at refl (c.keep.ensures.values ∙ ap (λ v. put (values_of c.args.self.now.registers) (name_at c.args.self.now.registers.names c.args.into) v) (to_z-of_z w64 c.args.value (search rules)))
