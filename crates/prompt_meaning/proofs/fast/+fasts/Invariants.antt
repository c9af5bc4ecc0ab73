use Rattle.std.proofs.Common.{◌≡◌, ◌++◌, drop, List}
use Rattle.affine_ast.specs.declared.name.Name.{Name}
use Rattle.prompt_laws.specs.Rooms.{Room, rooms_in}
use Rattle.walk_program.specs.Reading.{nest_of}
use Rattle.walk_program.specs.Tree.{tree}
use Rattle.prompt_meaning.specs.Memrefs.{AreRooms}
use Rattle.prompt_meaning.proofs.fast.+fasts.Given as goal

-- what is left of the statements adds the rest
abbrev pub invariant-add_fasts-loop-statement : goal.invariant-add_fasts-loop-statement
invariant-add_fasts-loop-statement l = (names : List Name) (rooms : List Room) → AreRooms rooms l.initial.fasts.items
    → (more : List Room) × AreRooms more l.fasts.items × (more ++ rooms_in (nest_of names (tree (drop l.statement-index l.statements))) ≡ rooms ++ rooms_in (nest_of names (tree l.statements)))
