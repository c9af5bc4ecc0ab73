use Rattle.readers.proofs.Whole.{exact_ok, exact_only, exact_place, exact_left, exact_decided, exact_one, place_one, place_none}
use Rattle.readers.proofs.grammar.whole_texts_are_exact.Goals as goal

pub returns-clause-spelled : goal.returns-clause-spelled
returns-clause-spelled g c = exact_ok g.G.Grammar.exact

pub returns-clause-read : goal.returns-clause-read
returns-clause-read g c = exact_only g.G.Grammar.exact

pub returns-clause-stop : goal.returns-clause-stop
returns-clause-stop g c = exact_place g.G.Grammar.exact

pub returns-clause-left : goal.returns-clause-left
returns-clause-left g c = exact_left g.G.Grammar.exact

pub returns-clause-one_value : goal.returns-clause-one_value
returns-clause-one_value g c = exact_one g.G.Grammar.exact

pub returns-clause-one_place : goal.returns-clause-one_place
returns-clause-one_place g c = place_one

pub returns-clause-decided : goal.returns-clause-decided
returns-clause-decided g c = exact_decided g.G.Grammar.exact

pub returns-clause-no_place : goal.returns-clause-no_place
returns-clause-no_place g c = place_none
