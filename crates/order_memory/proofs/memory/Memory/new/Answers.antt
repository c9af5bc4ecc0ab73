use Rattle.std.proofs.Common.{[], refl, sym, subst, arith}
use Rattle.prompt_laws.specs.Rooms.{rooms_in}
use Rattle.walk_program.specs.Reading.{nest_of}
use Rattle.walk_program.specs.Tree.{tree}
use Rattle.fast_rooms.specs.Rooms.{HaveRooms}
use Rattle.order_memory.proofs.First.{first_tied}
use Rattle.order_memory.proofs.memory.Memory.new.Goals as goal

pub returns-clause-tied : goal.returns-clause-tied
returns-clause-tied c = λ x first.
    (let names = c.args.program.now.names in
    let are = subst (λ ss. HaveRooms (rooms_in (nest_of names (tree ss))) c.add_memrefs.new.memrefs.items) c.as_slice.ensures (c.in_ok-add_memrefs.ensures names [] (subst (HaveRooms []) (sym c.new-halves.ensures.items) tt)) in
    first_tied (rooms_in (nest_of names (tree c.args.program.now.body))) x _ c.args.slow.items first c.in_ok-registers.ensures.values refl are c.in_ok-records.ensures.items c.in_ok-flying.ensures.items c.in_ok-waiting.ensures.items refl
    (omega (arith, c.in_ok-flying.ensures.exact)) (omega (arith, c.in_ok-waiting.ensures.exact)) (omega (arith, c.in_ok-records.ensures.exact)))
