use Rattle.std.proofs.Common.{◌∙◌, sym, ap, subst, length, ◌∷◌}
use Rattle.walk_actions.specs.Meant.{meant, NamesIn}
use Rattle.order_meaning.specs.Machine.{end_of}
use Rattle.order_machine.proofs.machine.Machine.advance.Goals as goal

pub returns-in-Some-clause-verdict : goal.returns-in-Some-clause-verdict
returns-in-Some-clause-verdict c = c.requires ∙ sym (ap end_of c.in-Some.ensures.taken)

pub returns-in-Some-clause-left : goal.returns-in-Some-clause-left
returns-in-Some-clause-left c = c.in-Some.ensures.taken ∙ (λ k. meant (sym c.in-Some.ensures.names k) c.next.new.self.subscripts c.in-Some.action ∷ c.next.new.self.left)

pub returns-in-Some-clause-inside : goal.returns-in-Some-clause-inside
returns-in-Some-clause-inside c = subst (λ ns. NamesIn (length ns) c.next.new.self.subscripts c.in-Some.action) (sym c.in-Some.ensures.names) c.in-Some.ensures.in_names

pub returns-in-None-clause-verdict : goal.returns-in-None-clause-verdict
returns-in-None-clause-verdict c = sym (ap end_of c.in-None.ensures.was)
