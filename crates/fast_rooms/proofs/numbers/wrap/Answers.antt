use Rattle.std.proofs.Common.{◌∙◌, ap, rules, w64, SFits}
use Rattle.std.proofs.lemmas.Int.{to_z-of_z}
use Rattle.int_ops.specs.declared.operation.CastKind.TheVariants.{Index}
use Rattle.int_ops.specs.Cast.{cast_value}
use Rattle.int_ops.specs.Wrapped.{InRange}
use Rattle.fast_rooms.proofs.Sizes.{wraps}
use Rattle.fast_rooms.proofs.numbers.wrap.Goals as goal

pub returns : goal.returns
returns c =
    let fits : SFits w64 c.cast.result = search rules in
    let inside : InRange 64 c.args.filler = search rules in
    to_z-of_z w64 c.cast.result fits ∙ c.cast.ensures.value ∙ ap (cast_value Index 64 c.bits.result) (to_z-of_z w64 c.args.filler c.ranges.filler)
    ∙ ap (λ n. cast_value Index 64 n c.args.filler) c.bits.ensures.bits ∙ wraps c.args.element c.args.filler inside
