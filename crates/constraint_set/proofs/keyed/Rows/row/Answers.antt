use Rattle.std.proofs.Common.{◌≡◌, ◌<◌, sym, ◌∙◌, ap, length, rules, arith, Some, FitsSigned}
use Rattle.std.proofs.lemmas.Int.{to_z-of_z}
use Rattle.std.specs.Int.{w128}
use Rattle.std.specs.Option.{option_map}
use Rattle.std.specs.List.{slice_get}
use Rattle.std.proofs.lemmas.List.{length-map}
use Rattle.std.proofs.lemmas.Option.{slice_get-map}
use Rattle.constraint_set.specs.Points.{LinearSystem}
use Rattle.constraint_set.proofs.Tables.{row_of}
use Rattle.constraint_set.proofs.keyed.Rows.row.Goals as goal

pub unreachable-requires : goal.unreachable-requires
unreachable-requires c =
    let long = length-map c.self.inside.table.entries row_of in
    let e = ap (λ (s : LinearSystem). length s.rows) c.self.view_is in
    let within : c.args.at < length c.self.inside.table.entries = omega (arith, long, e, c.requires) in
    let found = rw c.in_default.is at (c.get_index.ensures.found.1 within) in
    cc

pub returns : goal.returns
returns c =
    let f : FitsSigned w128 c.in-Some.constant.now = search rules in
    let entry : slice_get c.self.inside.table.entries c.args.at ≡ Some (c.in-Some.coefs.now, c.in-Some.constant.now) = sym c.in-Some.ensures.entry in
    let e = ap (λ (s : LinearSystem). slice_get s.rows c.args.at) c.self.view_is in
    let value = c.as_slice.ensures.value in
    simp (to_z-of_z, value) (sym e ∙ slice_get-map row_of c.self.inside.table.entries c.args.at ∙ ap (option_map row_of) entry)
