use Rattle.std.proofs.Common.{refl, sym, ap, ◌∙◌}
use Rattle.affine_ast.specs.Nest.{nest}
use Rattle.text_limits.specs.Capped.{capped_sums}
use Rattle.text_limits.specs.Sums.{sums_in}
use Rattle.plan_tests.proofs.Sums.{sums_lined}
use Rattle.plan_tests.proofs.tests.Tests.of.Goals as goal

pub returns-clause-tests : goal.returns-clause-tests
returns-clause-tests c =
    let body = c.as_slice.ensures ∙ ap (λ m. m.body) c.module.ensures.value in
    record {
      capacity = refl;
      number = refl;
      sums = c.sums_of.ensures ∙ ap (λ l. capped_sums (sums_in 0 0 (nest l))) body ∙ ap capped_sums (sym (sums_lined 0 0 (nest c.args.verified.now.inner.body)));
      live = c.new.ensures (nest c.args.verified.now.inner.body);
    }
