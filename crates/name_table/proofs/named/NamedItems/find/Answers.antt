use Rattle.std.proofs.Common.{◌∙◌, ap, sym}
use Rattle.name_table.specs.Numbers.{first_named}
use Rattle.name_table.proofs.Numbering.{at_place, first_at}
use Rattle.name_table.proofs.named.NamedItems.find.Goals as goal

pub returns-in-Some : goal.returns-in-Some
returns-in-Some g c =
    let w = c.args.name.now in
    let name = g.T.Named.name in
    let told = sym (c.self.invariant w) ∙ sym c.number_of.ensures ∙ c.in-Some.is in
    c.get.ensures.value ∙ ap (λ o. at_place o c.self.inside.items) (sym told) ∙ first_at name w c.self.inside.items ∙ ap (first_named name w) c.self.view_is

pub returns-in-None : goal.returns-in-None
returns-in-None g c =
    let w = c.args.name.now in
    let name = g.T.Named.name in
    let told = sym (c.self.invariant w) ∙ sym c.number_of.ensures ∙ c.in-None.is in
    ap (λ o. at_place o c.self.inside.items) (sym told) ∙ first_at name w c.self.inside.items ∙ ap (first_named name w) c.self.view_is
