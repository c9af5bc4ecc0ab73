use Rattle.std.proofs.Common.{◌≡◌, ◌+◌, ◌*◌, ◌≤◌, drop}
use Rattle.std.specs.Prelude.{Some}
use Rattle.affine_ast.specs.Sizes.{product}
use Rattle.direct_meaning.specs.Static.{row_major, cell_in}
use Rattle.run_parts.proofs.elements.element.Given as goal

-- what is left of the subscripts gives the rest of the number
abbrev pub invariant-loop-place : goal.invariant-loop-place
invariant-loop-place l = record {
  rest : cell_in l.sizes l.subscripts ≡ row_major (Some l.cell) (product (drop l.place l.sizes)) (cell_in (drop l.place l.sizes) (drop l.place l.subscripts));
  bound : (l.cell + 1) * product (drop l.place l.sizes) ≤ product l.sizes;
}
