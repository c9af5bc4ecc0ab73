use Rattle.std.proofs.Common.{rules, ◌≡◌, FitsSigned, ◌-◌, ◌^◌, pos, ◌+ℤ◌}
use Rattle.std.proofs.lemmas.Int.{to_z-of_z}
use Rattle.std.specs.Int.{w128, int_rem_euclid}
use Rattle.int_ops.proofs.Wraps.{returned}
use Rattle.int_ops.proofs.modulus.wrap.Goals as goal

pub returns : goal.returns
returns c =
    let r = c.rem_euclid.result in
    let h = c.pow-half.result in
    let fr : FitsSigned w128 r = search rules in
    let fh : FitsSigned w128 h = search rules in
    let eh : h ≡ pos (2 ^ (c.args.bits - 1)) = search rules in
    let er : r ≡ int_rem_euclid (c.args.value +ℤ h) (pos (2 ^ c.args.bits)) = search (rules, to_z-of_z) in
    returned c.args.bits c.args.value r h c.requires.width fr fh er eh
