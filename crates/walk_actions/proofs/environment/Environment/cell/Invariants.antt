use Rattle.std.proofs.Common.{◌≡◌, ◌+◌, ◌*◌, ◌≤◌, drop, map, vec_capacity}
use Rattle.std.specs.Prelude.{Some}
use Rattle.affine_ast.specs.Sizes.{product}
use Rattle.direct_meaning.specs.Static.{row_major, cell_in}
use Rattle.walk_actions.specs.Looked.{env_of}
use Rattle.walk_actions.specs.Values.{value_in, use_of}
use Rattle.walk_actions.proofs.environment.Environment.cell.Given as goal

-- what is left of the subscripts gives the rest of the number
abbrev pub invariant-loop-place : goal.invariant-loop-place
invariant-loop-place l =
    let subscripts = map (value_in (env_of l.self) (use_of l.self l.at)) l.results in
    record {
      rest : cell_in l.sizes subscripts ≡ row_major (Some l.cell) (product (drop l.place l.sizes)) (cell_in (drop l.place l.sizes) (drop l.place subscripts));
      bound : (l.cell + 1) * product (drop l.place l.sizes) ≤ product l.sizes;
      capacity : vec_capacity l.room ≡ vec_capacity l.fn.room;
    }
