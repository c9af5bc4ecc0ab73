use Rattle.std.proofs.Common.{◌∙◌, ap, sym}
use Rattle.affine_ast.specs.Nest.{Nothing, Value}
use Rattle.affine_ast.specs.Rules.{map_fits, results_fit}
use Rattle.affine_ast.specs.Scope.{Variable, with_name}
use Rattle.affine_rules.specs.Scoped.{around_of}
use Rattle.affine_verify.proofs.PlainlyLaws.{holds, not_true, plainly_defined, judged_ok, both_held}
use Rattle.affine_verify.proofs.plain.value_stmt.Goals as goal

pub picked-requires-clause-fits : goal.picked-requires-clause-fits
picked-requires-clause-fits c = (both_held (map_fits c.args.at.now) (results_fit c.args.pick c.args.at.now) (holds (around_of c.args.scoped.now) (Value c.args.into.now c.args.pick c.args.at.now) Nothing (sym (c.in_ok-rule.ensures Nothing) ∙ judged_ok _ _ _ c.in_ok-judged.ensures)).counts).0

pub picked-requires-clause-pure : goal.picked-requires-clause-pure
picked-requires-clause-pure c = (holds (around_of c.args.scoped.now) (Value c.args.into.now c.args.pick c.args.at.now) Nothing (sym (c.in_ok-rule.ensures Nothing) ∙ judged_ok _ _ _ c.in_ok-judged.ensures)).pure

pub picked-requires-clause-bounded : goal.picked-requires-clause-bounded
picked-requires-clause-bounded c = (holds (around_of c.args.scoped.now) (Value c.args.into.now c.args.pick c.args.at.now) Nothing (sym (c.in_ok-rule.ensures Nothing) ∙ judged_ok _ _ _ c.in_ok-judged.ensures)).bounded

pub returns : goal.returns
returns c = λ rest.
    plainly_defined c.defined.result c.args.line (Value c.args.into.now c.args.pick c.args.at.now) rest c.args.into.now _ c.args.scoped.now c.defined.new.scoped c.in_ok-rule.rule (c.in_ok-rule.ensures rest) c.defined.ensures (ap (λ r. with_name c.args.into.now (Variable r) (around_of c.args.scoped.now)) (sym c.in_ok-interval.ensures)) (λ h. not_true _ h)
