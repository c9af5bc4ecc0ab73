use Rattle.std.proofs.Common.{◌∙◌, ap}
use Rattle.affine_ast.specs.declared.module.Module.{Module}
use Rattle.affine_ast.specs.Nest.{nest}
use Rattle.affine_rows.proofs.order_policies.followed.Goals as goal

pub new-requires-clause-arguments : goal.new-requires-clause-arguments
new-requires-clause-arguments c = c.in_ok-program.ensures.arguments ∙ ap (λ (m : Module). m.args) c.module-valid.ensures.value

pub new-requires-clause-body : goal.new-requires-clause-body
new-requires-clause-body c = c.in_ok-program.ensures.body ∙ ap (λ (m : Module). nest m.body) c.module-valid.ensures.value
