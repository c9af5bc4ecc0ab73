use Rattle.num_row.proofs.DecimalTexts.{shortest}
use Rattle.num_row.proofs.write_decimal.Goals as goal

pub returns-in_err-text-clause-shortest : goal.returns-in_err-text-clause-shortest
returns-in_err-text-clause-shortest c = shortest c.args.value c.ranges.value

pub returns-in_err-extend_from_slice-clause-shortest : goal.returns-in_err-extend_from_slice-clause-shortest
returns-in_err-extend_from_slice-clause-shortest c = shortest c.args.value c.ranges.value

pub returns-clause-shortest : goal.returns-clause-shortest
returns-clause-shortest c = shortest c.args.value c.ranges.value
