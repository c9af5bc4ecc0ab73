use Rattle.affine_driver.proofs.Originals.{runs_as_read, ran_verdict, ran_image}
use Rattle.affine_driver.proofs.both.run_staged.Goals as goal

pub run_by_threads-requires-clause-fits : goal.run_by_threads-requires-clause-fits
run_by_threads-requires-clause-fits g c = λ lives outlive.
    (runs_as_read c.stages_run.ensures c.args.options.stage c.args.original.now.inner c.args.staged.now.inner c.requires.text c.args.original.now.valid c.requires.plain c.requires.stage).fits c.args.memory c.requires.fits

pub returns-clause-verdict : goal.returns-clause-verdict
returns-clause-verdict g c =
    ran_verdict c.args.options c.running.result c.args.original.now.inner c.args.staged.now.inner c.args.memory c.run_by_threads.result c.running.ensures
    (runs_as_read c.stages_run.ensures c.args.options.stage c.args.original.now.inner c.args.staged.now.inner c.requires.text c.args.original.now.valid c.requires.plain c.requires.stage) c.requires.fits c.run_by_threads.ensures

pub returns-clause-image : goal.returns-clause-image
returns-clause-image g c =
    ran_image c.args.options c.running.result c.args.original.now.inner c.args.staged.now.inner c.args.memory c.run_by_threads.result c.running.ensures
    (runs_as_read c.stages_run.ensures c.args.options.stage c.args.original.now.inner c.args.staged.now.inner c.requires.text c.args.original.now.valid c.requires.plain c.requires.stage) c.requires.fits c.run_by_threads.ensures
