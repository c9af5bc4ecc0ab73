use Rattle.std.proofs.Common.{sym, ◌∙◌, ap, length}
use Rattle.std.proofs.lemmas.List.{length-map}
use Rattle.constraint_set.specs.Points.{LinearSystem}
use Rattle.constraint_set.proofs.keyed.Rows.count.Goals as goal

pub returns-clause-count : goal.returns-clause-count
returns-clause-count c = c.len.ensures.len ∙ sym (length-map c.self.inside.table.entries _) ∙ ap (λ (s : LinearSystem). length s.rows) c.self.view_is
