use Rattle.std.proofs.Common.{◌≡◌, List, ap, ◌∙◌, arith, get_or, slice_set}
use Rattle.staged_peaks.specs.declared.live.LiveLoop.{LiveLoop}
use Rattle.staged_peaks.specs.Living.{reach, raised}
use Rattle.staged_peaks.proofs.Steps.{more, own_fits, reach_set, raised_set}
use Rattle.staged_peaks.proofs.live.raise.Goals as goal

abbrev none : LiveLoop
none = record { steps = 0; own = 0; below = 0 }

pub overflow_add-here : goal.overflow_add-here
overflow_add-here c =
    let here : get_or c.as_slice.result.now c.args.place none ≡ get_or c.args.way.now c.args.place none = ap (λ (xs : List LiveLoop). get_or xs c.args.place none) c.as_slice.ensures in
    let own = ap (λ (x : LiveLoop). x.own) here in
    let e = own_fits c.args.bytes none c.args.way.now c.args.place c.requires.within in
    let g = c.requires.fits in
    omega (arith, own, e, g)

pub raise_round-requires-clause-fits : goal.raise_round-requires-clause-fits
raise_round-requires-clause-fits c =
    let set = c.set.ensures ∙ (λ i. slice_set c.args.way.now c.args.place (more c.args.bytes none (get_or (c.as_slice.ensures i) c.args.place none))) in
    let e = ap (reach c.args.place 0) set ∙ reach_set c.args.bytes none c.args.way.now c.args.place c.requires.within in
    let g = c.requires.fits in
    omega (arith, e, g)

pub returns-clause-way : goal.returns-clause-way
returns-clause-way c =
    let set = c.set.ensures ∙ (λ i. slice_set c.args.way.now c.args.place (more c.args.bytes none (get_or (c.as_slice.ensures i) c.args.place none))) in
    c.raise_round.ensures.way ∙ (ap (raised c.args.place 0) set ∙ raised_set c.args.bytes none c.args.way.now c.args.place c.requires.within)

pub returns-clause-reach : goal.returns-clause-reach
returns-clause-reach c =
    let set = c.set.ensures ∙ (λ i. slice_set c.args.way.now c.args.place (more c.args.bytes none (get_or (c.as_slice.ensures i) c.args.place none))) in
    c.raise_round.ensures.reach ∙ (ap (reach c.args.place 0) set ∙ reach_set c.args.bytes none c.args.way.now c.args.place c.requires.within)
