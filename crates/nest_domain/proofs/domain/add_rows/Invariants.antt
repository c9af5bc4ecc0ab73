use Rattle.std.proofs.Common.{◌≡◌, drop}
use Rattle.nest_domain.proofs.Answering.{grown}
use Rattle.nest_domain.proofs.domain.add_rows.Given as goal

abbrev pub invariant-loop-form : goal.invariant-loop-form
invariant-loop-form l = grown l.initial.system l.forms ≡ grown l.system (drop l.form-index l.forms)
