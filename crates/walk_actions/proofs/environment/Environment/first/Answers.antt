use Rattle.std.proofs.Common.{rules, length, get_or, sym, ap, ◌∙◌, arith}
use Rattle.std.proofs.lemmas.Bool.{eqb-true, eqb-false}
use Rattle.std.proofs.lemmas.Int.{to_z-of_z}
use mir.Val.{SFits}
use mir.Syntax.{w64}
use Rattle.direct_meaning.specs.Static.{picked}
use Rattle.affine_ast.specs.declared.types.Pick.TheVariants.{Apply}
use Rattle.walk_actions.specs.Looked.{env_of}
use Rattle.walk_actions.specs.Values.{use_of}
use Rattle.walk_actions.proofs.Values.{result_at, no_results, results_are}
use Rattle.walk_actions.proofs.environment.Environment.first.Goals as goal

pub returns-then-is_empty-clause-value : goal.returns-then-is_empty-clause-value
returns-then-is_empty-clause-value c =
    sym (ap (picked Apply) (no_results (env_of c.args.self.now) (use_of c.args.self.now c.args.at.now) (sym (ap length c.as_slice-results.ensures) ∙ eqb-true _ _ (sym c.is_empty.ensures ∙ c.if-is_empty.true))))

pub value-requires-clause-safe : goal.value-requires-clause-safe
value-requires-clause-safe c =
    let some = eqb-false _ _ (sym c.is_empty.ensures ∙ c.if-is_empty.false) in
    result_at c.args.self.now c.args.at.now 0 c.index-results-0.result c.requires.safe (omega (arith, some, ap length c.as_slice-results.ensures)) (c.index-results-0.is ∙ ap (λ xs. get_or xs 0 c.index-results-0.result) c.as_slice-results.ensures)

pub returns-clause-value : goal.returns-clause-value
returns-clause-value c =
    let f : SFits w64 c.value.result = search rules in
    let some = eqb-false _ _ (sym c.is_empty.ensures ∙ c.if-is_empty.false) in
    simp to_z-of_z (c.value.ensures.value ∙ sym (ap (picked Apply) (results_are (env_of c.args.self.now) (use_of c.args.self.now c.args.at.now) c.index-results-0.result (omega (arith, some, ap length c.as_slice-results.ensures)) (c.index-results-0.is ∙ ap (λ xs. get_or xs 0 c.index-results-0.result) c.as_slice-results.ensures))))
