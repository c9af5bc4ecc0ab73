use Rattle.std.proofs.Common.{◌<◌, ◌≤◌, length, subst}
use Rattle.source_parts.proofs.Lines.{first_fed, first_unfed}
use Rattle.source_parts.proofs.parts.line_length.Goals as goal

pub returns-then-end-bytes-clause-first : goal.returns-then-end-bytes-clause-first
returns-then-end-bytes-clause-first c =
    rw c.bare_length-end.ensures.value (first_fed c.args.bytes.now (subst (λ n. n < length c.args.bytes.now) c.bare_length-end.ensures.value c.if-end-bytes.true))

pub returns-else-end-bytes-clause-first : goal.returns-else-end-bytes-clause-first
returns-else-end-bytes-clause-first c =
    rw c.bare_length-end.ensures.value (first_unfed c.args.bytes.now c.requires (subst (λ n. length c.args.bytes.now ≤ n) c.bare_length-end.ensures.value c.if-end-bytes.false))
