use Rattle.std.proofs.Common.{[], sym, ap, subst}
use Rattle.tag_table.specs.Shapes.{ComputeShape}
use Rattle.walk_program.specs.Reading.{nest_of}
use Rattle.walk_program.specs.Tree.{tree}
use Rattle.prompt_laws.specs.Rooms.{rooms_in}
use Rattle.overlap_memory.specs.First.{IsFirst}
use Rattle.fast_rooms.specs.Rooms.{HaveRooms}
use Rattle.overlap_runner.proofs.Begun.{none_away, all_whole, seats_left}
use Rattle.overlap_runner.proofs.prepared.memory_of.Goals as goal

pub new-requires-2-clause-halves : goal.new-requires-2-clause-halves
new-requires-2-clause-halves c =
    let names = c.args.program.now.names in
    none_away _ _ (subst (λ ss. HaveRooms (rooms_in (nest_of names (tree ss))) c.add_memrefs.new.memrefs.items) c.as_slice.ensures (c.in_ok-add_memrefs.ensures names [] (subst (HaveRooms []) (sym c.new-halves.ensures.items) tt)))

pub new-requires-2-clause-whole : goal.new-requires-2-clause-whole
new-requires-2-clause-whole c =
    let names = c.args.program.now.names in
    all_whole _ _ (subst (λ ss. HaveRooms (rooms_in (nest_of names (tree ss))) c.add_memrefs.new.memrefs.items) c.as_slice.ensures (c.in_ok-add_memrefs.ensures names [] (subst (HaveRooms []) (sym c.new-halves.ensures.items) tt)))

pub returns-clause-memory : goal.returns-clause-memory
returns-clause-memory c = λ names. record {
  halves = c.add_memrefs.new.memrefs.items;
  have = subst (λ ss. HaveRooms (rooms_in (nest_of names (tree ss))) c.add_memrefs.new.memrefs.items) c.as_slice.ensures (c.in_ok-add_memrefs.ensures names [] (subst (HaveRooms []) (sym c.new-halves.ensures.items) tt));
  tied = λ y first. c.in_ok-memory.ensures y (subst (λ ws. IsFirst ws y) (sym (ap (λ (s : ComputeShape). s.prompt) c.in_ok-made.ensures.compute)) first);
}

pub returns-clause-engines : goal.returns-clause-engines
returns-clause-engines c = seats_left c.in_ok-made.made.0 c.args.engines _ _ c.requires c.in_ok-made.ensures.engines c.remove-helper.ensures.items
