use Rattle.std.proofs.lemmas.Result.{IfOk-weaker}
use Rattle.nest_domain.specs.Ways.{bound_names}
use Rattle.nest_domain.proofs.Using.{both_taken}
use Rattle.nest_domain.proofs.used.take_bounds.Goals as goal

pub returns : goal.returns
returns c = IfOk-weaker c.add_bound-2.result _ _ (λ done h. both_taken (bound_names c.args.lower.now) (bound_names c.args.upper.now) c.args.used.now.keys c.add_bound.new.used.keys c.add_bound-2.new.used.keys c.in_ok-add_bound.ensures h) c.add_bound-2.ensures
