use Rattle.affine_driver.proofs.Originals.{both_written, left_fits}
use Rattle.affine_driver.proofs.both.both_from.Goals as goal

pub put_image-requires : goal.put_image-requires
put_image-requires g c = record {
  fits = left_fits c.args.verified.now.inner c.args.memory _ _ c.args.verified.now.valid c.requires.plain c.requires.fits c.in_ok-verdict.ensures.image c.in_ok-come_to_end.ensures;
}

pub returns : goal.returns
returns g c =
    both_written c.args.options.stage c.args.verified.now.inner c.args.staged.now.inner c.args.memory _ _ c.args.output.items c.put_image.new.out.items
    c.requires.output c.in_ok-keep_within.ensures c.in_ok-verdict.ensures.verdict c.in_ok-verdict.ensures.image c.in_ok-come_to_end.ensures c.in_ok-put_image.ensures
