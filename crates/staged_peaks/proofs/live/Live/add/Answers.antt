use Rattle.std.proofs.Common.{refl, ap, ◌∙◌, max, arith}
use Rattle.staged_peaks.proofs.Living.{added, in_way}
use Rattle.staged_peaks.proofs.live.Live.add.Goals as goal

pub returns-then-place-len : goal.returns-then-place-len
returns-then-place-len c =
    added c.args.self.now c.args.place c.args.bytes _ c.raise-reached.ensures.way refl (c.max-self.ensures ∙ ap (max c.args.self.now.most) c.raise-reached.ensures.reach)

pub returns-else-place-len : goal.returns-else-place-len
returns-else-place-len c n blocks s xs x lives site =
    let e = c.len.ensures in let f = c.if-place-len.false in let g = in_way n blocks s xs c.args.self.now lives c.args.place c.args.bytes x site in absurd (omega (arith, e, f, g))
