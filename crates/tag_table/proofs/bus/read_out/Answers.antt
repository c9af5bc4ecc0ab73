use Rattle.std.proofs.Common.{◌≢◌, ◌+◌, ◌<◌, length, rules, arith, ap, ◌∙◌, sym, to_z, w64, get_or-set_other, get_or-set_same, below_more}
use Rattle.std.proofs.lemmas.Int.{to_z-of_z}
use Rattle.std.specs.Mem.Slots.{slots_items}
use Rattle.tag_table.proofs.Opens.{at_some}
use Rattle.tag_table.proofs.bus.read_out.Goals as goal

pub loop-i-preserved : goal.loop-i-preserved
loop-i-preserved c =
    below_more _ _
    (λ k h. let ne : k ≢ c.loop-i.i = omega arith in rw get_or-set_other (c.loop-i.invariant k h))
    (let lt : c.loop-i.i < length c.loop-i.into = omega arith in rw get_or-set_same (to_z-of_z w64 c.cast_signed.result (search rules) ∙ c.cast_signed.ensures ∙ ap (to_z w64) (sym (at_some (slots_items c.args.closed.now.words) (c.args.tags + c.loop-i.i) c.word.result 0 c.word.ensures))))
