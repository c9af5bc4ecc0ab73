use Rattle.std.proofs.Common.{rules, w64, refl, ap, ◌∙◌}
use Rattle.std.proofs.lemmas.Int.{to_z-of_z}
use Rattle.affine_ast.specs.Names.{put}
use Rattle.run_parts.specs.Registered.{values_of}
use Rattle.walk_program.specs.Names.{name_at}
use Rattle.walk_actions.specs.Meant.{place_meant}
use Rattle.overlap_runner.proofs.Taken.{load_reached, loads, loads_not}
use Rattle.overlap_runner.proofs.device.Device.load.Goals as goal

pub load-requires : goal.load-requires
load-requires c =
    let k = c.requires.ready in
    record { reached = (k.0, k.1, k.2, load_reached c.args.bus.now k.0 k.1 c.args.self.now k.2 c.args.self.now.filler c.args.self.now.capacity (name_at c.args.self.now.registers.names c.args.into) (place_meant c.args.place) k.3) }

pub returns-in-Ok-clause-follows : goal.returns-in-Ok-clause-follows
returns-in-Ok-clause-follows c = λ rooms shape y k.
    loads c.args.bus.now rooms shape c.args.self.now y _ _ _ (place_meant c.args.place) _ _ k.at
    (c.in-Ok.ensures.gives rooms shape y (load_reached c.args.bus.now rooms shape c.args.self.now y c.args.self.now.filler c.args.self.now.capacity (name_at c.args.self.now.registers.names c.args.into) (place_meant c.args.place) k))
    c.load.ensures.same (c.keep.ensures.values ∙ ap (λ v. put (values_of c.args.self.now.registers) (name_at c.args.self.now.registers.names c.args.into) v) (to_z-of_z w64 c.in-Ok.value (search rules)))

pub returns-in-Err-clause-follows : goal.returns-in-Err-clause-follows
returns-in-Err-clause-follows c = λ rooms shape y k.
    loads_not c.args.bus.now rooms shape c.args.self.now y _ _ _ (place_meant c.args.place) c.in-Err.kind _ k.at
    (c.in-Err.ensures.gives rooms shape y (load_reached c.args.bus.now rooms shape c.args.self.now y c.args.self.now.filler c.args.self.now.capacity (name_at c.args.self.now.registers.names c.args.into) (place_meant c.args.place) k))
    c.load.ensures.same refl
