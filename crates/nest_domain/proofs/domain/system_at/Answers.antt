use Rattle.std.proofs.Common.{Ok, sym, ap, ◌∙◌}
use Rattle.nest_domain.specs.Gathered.{known_of}
use Rattle.nest_domain.proofs.Answering.{grown, system_grown}
use Rattle.nest_domain.proofs.domain.system_at.Goals as goal

pub returns : goal.returns
returns c =
    let k = known_of c.args.known.now in
    ap Ok (sym (system_grown k c.new-system.result c.add_rows.new.system c.add_rows-2.new.system c.add_rows-3.new.system c.add_rows-4.new.system c.new-system.ensures
    (c.in_ok-add_rows.ensures ∙ ap (grown c.new-system.result) c.as_slice.ensures.value)
    (c.in_ok-add_rows-2.ensures ∙ ap (grown c.add_rows.new.system) c.as_slice-2.ensures.value)
    (c.in_ok-add_rows-3.ensures ∙ ap (grown c.add_rows-2.new.system) c.as_slice-3.ensures.value)
    (c.in_ok-add_rows-4.ensures ∙ ap (grown c.add_rows-3.new.system) c.as_slice-4.ensures.value)))
