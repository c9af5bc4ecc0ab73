use Rattle.std.proofs.Common.{sym}
use Rattle.affine_ast.proofs.PlainTolds.{stands_unless}
use Rattle.affine_ast.proofs.plain.stands.Goals as goal

pub returns-in_default : goal.returns-in_default
returns-in_default c = let d = c.in_default in sym (stands_unless c.args.what.now d.not-Value d.not-Load d.not-Store d.not-Alloc d.not-Dealloc d.not-Start d.not-Wait)
