use Rattle.std.proofs.Common.{ap, subst, set}
use Rattle.walk_actions.specs.Bindings.{Bindings, HasEntries}
use Rattle.walk_actions.proofs.Tables.{known_set}
use Rattle.walk_actions.proofs.environment.Environment.know.Goals as goal

pub returns-clause-env : goal.returns-clause-env
returns-clause-env c =
    let is = c.self.view_is in
    known_set c.args.self.now _ c.args.name c.args.number (subst HasEntries is c.self.invariant) c.requires.name
    (ap (λ (b : Bindings). b.names) is) (ap (λ (b : Bindings). set b.known c.args.name c.args.number) is) (ap (λ (b : Bindings). b.homes) is) (ap (λ (b : Bindings). b.fasts) is) (ap (λ (b : Bindings). b.tags) is)
