use Rattle.std.proofs.Common.{refl}
use Rattle.std.proofs.lemmas.Result.{IfOk-weaker}
use Rattle.affine_verify.proofs.Released.{lists_own, lists_inside, lists_same, both_ok}
use Rattle.affine_verify.proofs.release.Deallocs.add.Goals as goal

pub returns-in-Dealloc : goal.returns-in-Dealloc
returns-in-Dealloc c = both_ok c.add_own.result _ _ _ (λ own more rest lists. lists_own c.args.self.now c.add_own.new.self c.in-Dealloc.memref.now c.args.stmt.now.what c.args.stmt.now.line rest c.in-Dealloc.ensures.region c.in-Dealloc.ensures.own own more lists) c.add_own.ensures.own c.add_own.ensures.more

pub returns-in-Region : goal.returns-in-Region
returns-in-Region c = IfOk-weaker c.note_stmt.result _ _ (λ done h rest lists. lists_inside c.args.self.now _ c.args.stmt.now.what c.args.stmt.now.line rest c.in-Region.ensures.own (λ m. refl) h lists) c.note_stmt.ensures

pub returns-in-Alloc : goal.returns-in-Alloc
returns-in-Alloc c = λ rest lists. lists_same c.args.self.now c.args.stmt.now.what c.args.stmt.now.line rest c.in-Alloc.ensures.region c.in-Alloc.ensures.own lists

pub returns-in-Other : goal.returns-in-Other
returns-in-Other c = λ rest lists. lists_same c.args.self.now c.args.stmt.now.what c.args.stmt.now.line rest c.in-Other.ensures.region c.in-Other.ensures.own lists
