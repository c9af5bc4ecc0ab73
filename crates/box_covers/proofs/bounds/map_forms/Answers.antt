use Rattle.affine_ast.specs.Rules.{access_pure}
use Rattle.std.specs.Prelude.{map, take, drop}
use Rattle.box_covers.proofs.Smalls.{results_small}
use Rattle.box_covers.proofs.bounds.map_forms.Goals as goal

pub all_formed-requires-clause-pure : goal.all_formed-requires-clause-pure
unfolding access_pure
all_formed-requires-clause-pure c = rw c.as_slice-3.ensures c.requires.ready.1.pure

pub all_formed-requires-clause-small : goal.all_formed-requires-clause-small
unfolding access_pure
all_formed-requires-clause-small c =
    let rho = c.requires.ready.0 in
    let at = c.args.at.now in
    rw c.as_slice-3.ensures (results_small (take at.map.dims (map rho at.operands)) (drop at.map.dims (map rho at.operands)) at.map.results c.requires.ready.1.pure c.requires.ready.1.bounded)
