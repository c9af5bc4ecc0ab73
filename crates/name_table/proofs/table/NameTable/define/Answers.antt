use Rattle.std.proofs.Common.{◌≡◌, false, ◌∙◌, ap, sym, is_some, rules}
use Rattle.name_table.specs.Numbers.{number_in, number_list, with_number}
use Rattle.name_table.proofs.Numbering.{inserted}
use Rattle.name_table.proofs.table.NameTable.define.Goals as goal

pub returns-clause-ok : goal.returns-clause-ok
returns-clause-ok c =
    let none : is_some c.number_of.result ≡ false = search rules in
    let same = ap (λ w. number_in w (number_list c.self.inside.numbers.entries)) c.as_slice.ensures.value in
    let told = ap (number_in c.as_slice.result.now) c.self.view_is in
    let new : is_some (number_in c.args.name.items (number_list c.self.inside.numbers.entries)) ≡ false = ap is_some (sym same ∙ told ∙ sym c.number_of.ensures) ∙ none in
    ap number_list c.in_ok-insert.ensures.entries ∙ inserted c.self.inside.numbers.entries c.args.name c.args.number new ∙ ap (with_number c.args.name.items c.args.number) c.self.view_is
