use Rattle.affine_grammar.proofs.File.{exact_file}
use Rattle.affine_grammar.proofs.Whole.{decided, spells_one, spells_not_refused, refused_one}
use Rattle.affine_grammar.proofs.text.texts_are_read_exactly.Goals as goal

pub returns-clause-exact : goal.returns-clause-exact
returns-clause-exact c = exact_file

pub returns-clause-decided : goal.returns-clause-decided
returns-clause-decided c = decided

pub returns-clause-one_module : goal.returns-clause-one_module
returns-clause-one_module c = spells_one

pub returns-clause-no_place : goal.returns-clause-no_place
returns-clause-no_place c = spells_not_refused

pub returns-clause-one_place : goal.returns-clause-one_place
returns-clause-one_place c = refused_one
