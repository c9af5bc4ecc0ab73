-- A result takes a token, so fewer are left.
use Rattle.affine_grammar.proofs.Steps.{result_shorter}
use Rattle.expression_text.proofs.maps.some_results.Goals as goal

pub results-smaller : goal.results-smaller
results-smaller c = result_shorter c.args.leaves c.args.several (c.results.results, c.results.state) (c.in_ok-results-2.results, c.next_result.new.state) c.results.tokens c.next_result.new.tokens c.in_ok-results-2.ensures
