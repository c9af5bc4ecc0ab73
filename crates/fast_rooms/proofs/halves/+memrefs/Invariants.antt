use Rattle.std.proofs.Common.{◌≡◌, ◌++◌, drop, List}
use Rattle.affine_ast.specs.declared.name.Name.{Name}
use Rattle.prompt_laws.specs.Rooms.{Room, rooms_in}
use Rattle.walk_program.specs.Reading.{nest_of}
use Rattle.walk_program.specs.Tree.{tree}
use Rattle.fast_rooms.specs.Rooms.{HaveRooms}
use Rattle.fast_rooms.proofs.halves.+memrefs.Given as goal

-- what is left of the statements adds the rest
abbrev pub invariant-add_memrefs-loop-statement : goal.invariant-add_memrefs-loop-statement
invariant-add_memrefs-loop-statement l = (names : List Name) (rooms : List Room) → HaveRooms rooms l.initial.memrefs.items
    → (more : List Room) × HaveRooms more l.memrefs.items × (more ++ rooms_in (nest_of names (tree (drop l.statement-index l.statements))) ≡ rooms ++ rooms_in (nest_of names (tree l.statements)))
