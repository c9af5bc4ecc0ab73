use Rattle.std.proofs.lemmas.Result.{on_ok_weaker}
use Rattle.affine_ast.specs.Nest.{nest}
use Rattle.plan_tests.proofs.tests.Tests.go_to.Goals as goal

pub returns-clause-went : goal.returns-clause-went
returns-clause-went c =
    on_ok_weaker c.go_to.result
    (λ went. λ o m blocks s rest steps all at t.
    record { capacity = t.capacity; number = t.number; sums = t.sums; live = went (nest m.body) o.depth blocks s rest steps all at t.live })
    c.go_to.ensures.went
