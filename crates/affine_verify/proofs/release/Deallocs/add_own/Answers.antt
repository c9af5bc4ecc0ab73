use Rattle.std.proofs.Common.{sym, ◌∙◌}
use Rattle.std.proofs.lemmas.Result.{IfOk-weaker}
use Rattle.affine_rules.specs.Scoped.{names_of}
use Rattle.affine_verify.proofs.Released.{kept_is_or}
use Rattle.affine_verify.proofs.release.Deallocs.add_own.Goals as goal

pub returns-then-is_released-clause-own : goal.returns-then-is_released-clause-own
returns-then-is_released-clause-own c = IfOk-weaker c.note.result _ _ (λ done h m. kept_is_or (names_of c.args.self.now.own.keys) c.args.memref.now m (sym c.is_released.ensures ∙ c.if-is_released.true)) c.note.ensures
