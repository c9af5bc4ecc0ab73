use Rattle.affine_ast.proofs.Nests.{plain_unless}
use Rattle.affine_verify.proofs.Released.{other_own, other_once}
use Rattle.affine_verify.proofs.release.role_of.Goals as goal

pub returns-in_default-clause-own : goal.returns-in_default-clause-own
returns-in_default-clause-own c = other_own c.args.what.now c.in_default.not-Alloc c.in_default.not-Dealloc

pub returns-in_default-clause-once : goal.returns-in_default-clause-once
returns-in_default-clause-once c = other_once c.args.what.now c.in_default.not-Alloc c.in_default.not-Dealloc

pub returns-in_default-clause-region : goal.returns-in_default-clause-region
returns-in_default-clause-region c = plain_unless c.args.what.now c.in_default.not-For c.in_default.not-If
