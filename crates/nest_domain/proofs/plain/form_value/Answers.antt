use Rattle.affine_expr.specs.Bounded.{range_at}
use Rattle.nest_domain.specs.Gathered.{known_of}
use Rattle.nest_domain.proofs.Taking.{least_as, greatest_as}
use Rattle.nest_domain.proofs.plain.form_value.Goals as goal

pub returns-in-Min : goal.returns-in-Min
returns-in-Min c =
    least_as c.args.name.now c.args.pick c.args.at.now (range_at c.args.interval) (known_of c.args.known.now) c.pick_form.new.known c.pick_form.result c.in-Min.is c.requires.interval c.pick_form.ensures

pub returns-in-Max : goal.returns-in-Max
returns-in-Max c =
    greatest_as c.args.name.now c.args.pick c.args.at.now (range_at c.args.interval) (known_of c.args.known.now) c.pick_form-in-Max.new.known c.pick_form-in-Max.result c.in-Max.is c.requires.interval c.pick_form-in-Max.ensures
