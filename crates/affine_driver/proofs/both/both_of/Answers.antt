use Rattle.std.proofs.Common.{inr}
use Rattle.std.proofs.lemmas.Result.{err_from_is_err_and}
use Rattle.direct_meaning.specs.Direct.{plain, verdict_of}
use Rattle.affine_driver.specs.Behaviour.{EndsWithin}
use Rattle.affine_driver.specs.Outcome.{Gives}
use Rattle.affine_driver.specs.Output.{IsBothOutput}
use Rattle.affine_driver.proofs.Refusals.{answered, refused, without_image}
use Rattle.affine_driver.proofs.both.both_of.Goals as goal

pub returns-in_err-memory : goal.returns-in_err-memory
returns-in_err-memory g c =
    let p = err_from_is_err_and c.from_residual.result c.from_residual.ensures.1 in
    let input = c.args.verified.now.inner in
    refused _ _ _ _ _ p.1 p.2
    (without_image input c.args.text.now (λ memory. EndsWithin c.args.staged.now.inner (verdict_of (plain input memory)) (Gives (IsBothOutput c.args.options.stage input memory))) _ c.in_err-memory.ensures)

pub returns : goal.returns
returns g c = answered _ _ _ _ (λ o h. inr (c.in_ok-memory.memory, (c.in_ok-memory.ensures, h))) c.both_from.ensures
