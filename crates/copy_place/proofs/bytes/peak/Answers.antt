use Rattle.std.proofs.Common.{ap, arith}
use Rattle.affine_ast.specs.Nest.{nest}
use Rattle.peak_laws.specs.Peak.{bytes_in}
use Rattle.peak_laws.proofs.Law.{valid_takes}
use Rattle.copy_place.proofs.bytes.peak.Goals as goal

pub region-requires-clause-room : goal.region-requires-clause-room
region-requires-clause-room c =
    let b = (valid_takes c.module.result.now c.module.ensures.valid).bytes in
    let e = ap (λ ss. bytes_in (nest ss)) c.as_slice.ensures in
    omega (arith, b, e)
