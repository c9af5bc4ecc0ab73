use Rattle.std.proofs.Common.{ap, subst, set}
use Rattle.walk_actions.specs.Bindings.{Bindings, HasEntries}
use Rattle.walk_actions.proofs.Tables.{home_set}
use Rattle.walk_actions.proofs.environment.Environment.stand.Goals as goal

pub returns-clause-env : goal.returns-clause-env
returns-clause-env c =
    let is = c.self.view_is in
    home_set c.args.self.now _ c.args.name c.args.home (subst HasEntries is c.self.invariant) c.requires.name
    (ap (λ (b : Bindings). b.names) is) (ap (λ (b : Bindings). set b.homes c.args.name c.args.home) is) (ap (λ (b : Bindings). b.known) is) (ap (λ (b : Bindings). b.fasts) is) (ap (λ (b : Bindings). b.tags) is)
