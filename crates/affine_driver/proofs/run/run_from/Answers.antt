use Rattle.affine_driver.proofs.Originals.{run_written}
use Rattle.affine_driver.proofs.run.run_from.Goals as goal

pub returns : goal.returns
returns g c = run_written c.args.options c.args.verified.now.inner c.args.memory _ _ c.in_ok-output.output.items c.in_ok-keep_within.ensures c.in_ok-verdict.ensures c.in_ok-come_to_end.ensures c.in_ok-output.ensures.text
