use Rattle.std.proofs.Common.{◌≡◌, ap, arith}
use Rattle.std.specs.Prelude.{Some, None}
use Rattle.staged_peaks.specs.Living.{reach}
use Rattle.staged_peaks.proofs.Living.{peak_there}
use Rattle.staged_peaks.proofs.live.Live.peak_with.Goals as goal

pub returns-clause-peak : goal.returns-clause-peak
returns-clause-peak c =
    let way : reach c.args.place c.args.bytes c.as_slice.result.now ≡ reach c.args.place c.args.bytes c.args.self.now.way = ap (reach c.args.place c.args.bytes) c.as_slice.ensures in
    let most = c.max.ensures in
    let fits = c.max.type_inv in
    let reached = c.in-Some.ensures.1 in
    peak_there c.args.self.now c.args.place c.args.bytes (Some c.max.result) (omega (arith, way, most, fits, reached), omega (arith, way, most, reached))

pub returns-in_default-clause-peak : goal.returns-in_default-clause-peak
returns-in_default-clause-peak c =
    let way : reach c.args.place c.args.bytes c.as_slice.result.now ≡ reach c.args.place c.args.bytes c.args.self.now.way = ap (reach c.args.place c.args.bytes) c.as_slice.ensures in
    peak_there c.args.self.now c.args.place c.args.bytes None (λ h. c.in_default.ensures (omega (arith, h, way)))
