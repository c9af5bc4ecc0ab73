use Rattle.std.proofs.Common.{◌≡◌, ◌++◌, drop}
use Rattle.placement_texts.specs.Template.{term_names}
use Rattle.placement_code.proofs.places.names_of.Given as goal

abbrev pub invariant-loop-term : goal.invariant-loop-term
invariant-loop-term l = term_names l.terms ≡ l.names ++ term_names (drop l.term-index l.terms)
