use Rattle.std.proofs.Common.{◌∙◌, sym, ap, refl, subst, length, Ok, Err, rules, w64, SFits}
use Rattle.std.proofs.lemmas.Int.{to_z-of_z}
use Rattle.walk_actions.specs.Meant.{meant, NamesIn}
use Rattle.prompt_laws.specs.Rooms.{module_rooms}
use Rattle.order_meaning.specs.Machine.{act_on}
use Rattle.order_memory.specs.declared.memory.Memory.{Memory}
use Rattle.order_memory.specs.Reaches.{CanTake}
use Rattle.order_memory.specs.Tied.{Follows}
use Rattle.order_machine.specs.Standing.{after}
use Rattle.order_machine.proofs.Moves.{next_in, next_can, next_ends, next_faults}
use Rattle.order_machine.proofs.machine.Machine.act.Goals as goal

pub do_next-requires-clause-names : goal.do_next-requires-clause-names
do_next-requires-clause-names c =
    let y = c.requires.stood in
    subst (λ l. NamesIn (length c.args.self.now.memory.registers.names) l c.args.action) (sym c.subscripts-subscripts.ensures)
    (next_in y.0 y.1 _ y.2 c.requires.going c.args.action c.requires.next c.requires.free)

pub do_next-requires-clause-can : goal.do_next-requires-clause-can
do_next-requires-clause-can c =
    let y = c.requires.stood in
    let m = c.args.self.now in (
      _,
      _,
      y.2.tied,
      subst (λ l. CanTake (module_rooms y.0.module_) m.capacity (meant m.memory.registers.names l c.args.action) (after y.0 y.1).core) (sym c.subscripts-subscripts.ensures)
          (next_can y.0 y.1 _ y.2 c.requires.going c.args.action c.requires.next c.requires.free),
    )

pub returns-in-Err-clause-made : goal.returns-in-Err-clause-made
returns-in-Err-clause-made c = λ s steps at.
    (let m = c.args.self.now in
    let fits : SFits w64 m.filler = search rules in
    let can = subst (λ l. CanTake (module_rooms s.module_) m.capacity (meant m.memory.registers.names l c.args.action) (after s steps).core) (sym c.subscripts-subscripts.ensures)
    (next_can s steps _ at c.requires.going c.args.action c.requires.next c.requires.free) in
    let follows = subst (λ z. z) (λ k. Follows (module_rooms s.module_) (Err c.in-Err.kind) (act_on (to_z-of_z w64 m.filler fits k) m.capacity (meant m.memory.registers.names (c.subscripts-subscripts.ensures k) c.args.action) (after s steps).core) c.do_next.new.self)
    (c.in-Err.ensures.follows _ _ at.tied can) in
    next_faults s steps _ at c.requires.going c.args.action c.requires.next c.requires.free _ refl refl refl refl refl (c.do_next.ensures.names ∙ at.names) at.inside c.in-Err.kind follows refl)

pub returns-in-Ok-clause-made : goal.returns-in-Ok-clause-made
returns-in-Ok-clause-made c = λ s steps at.
    (let m = c.args.self.now in
    let fits : SFits w64 m.filler = search rules in
    let can = subst (λ l. CanTake (module_rooms s.module_) m.capacity (meant m.memory.registers.names l c.args.action) (after s steps).core) (sym c.subscripts-subscripts.ensures)
    (next_can s steps _ at c.requires.going c.args.action c.requires.next c.requires.free) in
    let e = c.advance.ensures.others in
    let follows = subst (λ z. z) (λ k. Follows (module_rooms s.module_) (Ok tt) (act_on (to_z-of_z w64 m.filler fits k) m.capacity (meant m.memory.registers.names (c.subscripts-subscripts.ensures k) c.args.action) (after s steps).core) c.do_next.new.self)
    (c.in-Ok.ensures.follows _ _ at.tied can) in
    next_ends s steps _ at c.requires.going c.args.action c.requires.next c.requires.free _ e.filler e.capacity e.engines e.image (ap (λ v. v.items) e.memrefs)
    (ap (λ (m : Memory). m.registers.names) e.memory ∙ c.do_next.ensures.names ∙ at.names ∙ sym c.advance.ensures.names) c.advance.ensures.inside
    (subst (λ (x : Memory). Follows (module_rooms s.module_) (Ok tt) (act_on m.filler m.capacity (meant m.memory.registers.names m.walk.subscripts c.args.action) (after s steps).core) x) (sym e.memory) follows)
    c.advance.ensures.verdict c.advance.ensures.left)
