use Rattle.affine_verify.proofs.Released.{lists_none}
use Rattle.affine_verify.proofs.release.Deallocs.new.Goals as goal

pub returns : goal.returns
returns c = lists_none _ c.with_hasher.ensures.empty c.with_hasher-2.ensures.empty
