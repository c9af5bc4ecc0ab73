use Rattle.std.proofs.Common.{◌≡◌}
use Rattle.readers.specs.Readers.{times}
use Rattle.affine_grammar.specs.Reading as spec
use Rattle.expression_text.proofs.maps.so_many_values.Given as goal

abbrev pub invariant-values : goal.invariant-values
invariant-values l = times l.initial.left spec.next_value l.initial.values l.initial.tokens ≡ times l.left spec.next_value l.values l.tokens

abbrev pub decreases-values : goal.decreases-values
decreases-values l = l.left
