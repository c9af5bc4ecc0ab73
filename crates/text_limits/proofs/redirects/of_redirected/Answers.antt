use Rattle.std.proofs.Common.{◌∙◌, length, nat_lt}
use Rattle.placement_code.specs.Placed.{placement_of}
use Rattle.text_limits.specs.Capped.{measured}
use Rattle.text_limits.specs.Lessening.{more_over, fits_over}
use Rattle.text_limits.proofs.Turns.{redirected_is}
use Rattle.text_limits.proofs.redirects.of_redirected.Goals as goal

pub returns : goal.returns
returns c =
    redirected_is (placement_of c.args.placed.now) c.args.at.now c.of_subscripts.result _ c.and.result
    (c.of_subscripts.ensures ∙ (λ i. measured (more_over (c.as_slice-results.ensures i) (c.as_slice.ensures i)) (fits_over (c.as_slice-results.ensures i) (c.as_slice.ensures i))))
    (λ i. record { operands = 1; fits = nat_lt (length (c.as_slice-results.ensures i)) 8 }) c.and.ensures
