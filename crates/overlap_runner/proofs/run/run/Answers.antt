use Rattle.overlap_runner.proofs.run.run.Goals as goal

pub drain-requires : goal.drain-requires
drain-requires g c =
    let k = c.requires.stands in
    let m = c.take_all-verdict.ensures.comes k.rooms k.shape k.state k.at in
    record { tied = (m.shape, _, m.at.tied) }

pub returns : goal.returns
returns g c = record {
  ends = record {
    from = λ rooms shape y at.
        (let m = c.take_all-verdict.ensures.comes rooms shape y at in
        record { verdict_is = m.verdict_is; shape = m.shape; tied = c.drain.ensures.tied m.shape _ m.at.tied });
  };
}
