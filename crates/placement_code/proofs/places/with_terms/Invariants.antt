use Rattle.std.proofs.Common.{◌≡◌, ◌+◌, drop}
use Rattle.placement_texts.specs.Template.{join_terms}
use Rattle.placement_code.proofs.places.with_terms.Given as goal

abbrev pub invariant-loop-term : goal.invariant-loop-term
invariant-loop-term l = record {
  same : join_terms l.fn.first 1 l.terms ≡ join_terms l.sum l.dim (drop l.term-index l.terms);
  counted : l.dim ≡ l.term-index + 1;
}
