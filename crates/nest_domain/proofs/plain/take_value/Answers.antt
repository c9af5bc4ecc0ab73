use Rattle.affine_expr.specs.Bounded.{range_at}
use Rattle.nest_domain.specs.Gathered.{known_of}
use Rattle.nest_domain.proofs.Taking.{value_taken}
use Rattle.nest_domain.proofs.plain.take_value.Goals as goal

pub returns : goal.returns
returns c =
    value_taken c.args.name.now c.args.pick c.args.at.now c.args.needed (known_of c.args.known.now) (known_of c.form_needed.new.known) (range_at c.in_ok-interval.interval) c.in_ok-interval.ensures c.in_ok-form_needed.ensures
    c.take_range.new.known c.take_range.result c.take_range.ensures
