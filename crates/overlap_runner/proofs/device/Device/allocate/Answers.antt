use Rattle.std.proofs.Common.{rules, w64, refl, ap, ◌∙◌}
use Rattle.std.proofs.lemmas.Int.{to_z-of_z}
use Rattle.affine_ast.specs.Sizes.{element_bits}
use Rattle.int_ops.specs.Wrapped.{wrapped}
use Rattle.overlap_runner.proofs.Taken.{allocates}
use Rattle.overlap_runner.proofs.Ties.{memref_inside, half_of}
use Rattle.overlap_runner.proofs.device.Device.allocate.Goals as goal

pub bytes_of-bytes-requires : goal.bytes_of-bytes-requires
bytes_of-bytes-requires c = c.requires.ready.3.reaches.sizes_fit

pub allocate-requires-clause-tied : goal.allocate-requires-clause-tied
allocate-requires-clause-tied c = let k = c.requires.ready in (k.1, k.2, k.3.at.tied, k.3.roomed)

pub allocate-requires-clause-number : goal.allocate-requires-clause-number
allocate-requires-clause-number c = let k = c.requires.ready in memref_inside c.args.bus.now k.0 k.1 _ k.2 k.3.at.tied k.3.are c.args.number k.3.reaches.there

pub returns-clause-follows : goal.returns-clause-follows
returns-clause-follows c = λ rooms shape y k.
    allocates c.args.bus.now rooms shape c.args.self.now y c.args.self.now.filler c.args.self.now.capacity k.at _ refl c.allocate.result c.args.number c.args.element c.args.sizes.now
    (c.allocate.ensures.follows shape y k.at.tied k.roomed c.args.self.now.filler c.args.element c.args.sizes.now c.bytes_of-bytes.ensures.bytes
    (to_z-of_z w64 c.wrap-filler.result (search rules) ∙ c.wrap-filler.ensures ∙ ap (wrapped (element_bits c.args.element)) (to_z-of_z w64 c.args.self.now.filler (search rules)))
    (half_of c.args.bus.now rooms shape c.args.self.now.memory y k.at.tied k.are c.args.number c.args.element c.args.sizes.now k.reaches))
