use Rattle.std.proofs.Common.{rules, ◌≡◌, to_z, of_z, w64}
use Rattle.std.proofs.lemmas.Int.{to_z-of_z}
use Rattle.nest_domain.proofs.Taking.{going_made}
use Rattle.nest_domain.proofs.loop_body.loop_rows.Goals as goal

pub returns : goal.returns
returns c =
    let a : c.as_slice.result.now ≡ c.args.bounds.now.lowers = search rules in
    let b : c.as_slice-2.result.now ≡ c.args.bounds.now.lowers = search rules in
    let d : c.as_slice-3.result.now ≡ c.args.bounds.now.uppers = search rules in
    let e : to_z w64 (of_z w64 c.bounds.inside.step) ≡ c.args.bounds.now.step = search (rules, to_z-of_z) in
    going_made c.args.variable.now c.args.bounds.now c.as_slice.result.now c.as_slice-2.result.now c.as_slice-3.result.now c.in_ok-below.below.items (to_z w64 (of_z w64 c.bounds.inside.step)) c.with_upper_rows.result a b d e c.in_ok-below.ensures
    c.with_upper_rows.ensures
