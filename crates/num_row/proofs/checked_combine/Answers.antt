use Rattle.std.proofs.Common.{rules, to_z-of_z}
use Rattle.num_row.specs.Ints.{combined}
use Rattle.num_row.proofs.Narrow.{combined_exact}
use Rattle.num_row.proofs.checked_combine.Goals as goal

pub returns-in_err-first-clause-value : goal.returns-in_err-first-clause-value
unfolding combined
returns-in_err-first-clause-value c = search rules

pub returns-in_err-first-clause-exact : goal.returns-in_err-first-clause-exact
returns-in_err-first-clause-exact c = combined_exact _ _ _ _ _ (returns-in_err-first-clause-value c)

pub returns-in_err-second-clause-value : goal.returns-in_err-second-clause-value
unfolding combined
returns-in_err-second-clause-value c = search rules

pub returns-in_err-second-clause-exact : goal.returns-in_err-second-clause-exact
returns-in_err-second-clause-exact c = combined_exact _ _ _ _ _ (returns-in_err-second-clause-value c)

pub returns-clause-value : goal.returns-clause-value
unfolding combined
returns-clause-value c = search (rules, to_z-of_z)

pub returns-clause-exact : goal.returns-clause-exact
returns-clause-exact c = combined_exact _ _ _ _ _ (returns-clause-value c)
