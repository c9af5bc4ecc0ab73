use Rattle.std.proofs.Common.{rules, ◌≡◌, sym, ◌∙◌, ap, FitsSigned, int_eq}
use Rattle.std.proofs.lemmas.Int.{to_z-of_z}
use Rattle.std.specs.Int.{w128}
use Rattle.std.specs.Map.{lookup}
use lib.Pointwise.{pointwise}
use Rattle.constraint_set.specs.Points.{LinearSystem}
use Rattle.constraint_set.specs.Tidy.{added}
use Rattle.constraint_set.specs.Table.{row_list, IsLesser}
use Rattle.constraint_set.proofs.Tables.{insert_adds, added_wide, added_distinct}
use Rattle.constraint_set.proofs.keyed.Rows.add.Goals as goal

inserted : (c : goal.In_ok-insert) → row_list c.insert.new.self.entries ≡ added (row_list c.self.inside.table.entries) c.args.row
inserted c =
    let f : FitsSigned w128 c.row.inside.constant = search rules in
    let h : FitsSigned w128 c.lesser-least.result = search rules in
    let l : IsLesser (lookup (λ k. pointwise int_eq c.row.inside.coefs.items k.items) c.self.inside.table.entries) c.row.inside.constant c.lesser-least.result = simp to_z-of_z at c.lesser-least.ensures in
    let e = simp to_z-of_z at c.in_ok-insert.ensures.entries in
    ap row_list e ∙ insert_adds c.self.inside.table.entries c.row.inside.coefs c.row.inside.constant c.lesser-least.result l ∙ ap (added (row_list c.self.inside.table.entries)) c.row.view_is

pub invariant_of-self-2 : goal.invariant_of-self-2
invariant_of-self-2 c =
    let v = ap (λ (s : LinearSystem). s.vars) c.self.view_is in
    rw (inserted c) (added_wide c.self.inside.vars (row_list c.self.inside.table.entries) c.args.row c.self.invariant.0 (c.requires ∙ sym v), added_distinct (row_list c.self.inside.table.entries) c.args.row c.self.invariant.1)

pub returns-clause-ok : goal.returns-clause-ok
returns-clause-ok c =
    let view : LinearSystem → LinearSystem = λ s. record { vars = s.vars; rows = added s.rows c.args.row } in
    ap (λ rows. let s : LinearSystem = record { vars = c.self.inside.vars; rows = rows } in s) (inserted c) ∙ ap view c.self.view_is
