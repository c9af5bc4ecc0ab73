use Rattle.std.proofs.Common.{ap, sym, ◌∙◌}
use Rattle.affine_rules.specs.Scoped.{names_of}
use Rattle.affine_verify.proofs.Released.{put_is_or, kept_is_or}
use Rattle.affine_verify.proofs.release.note.Goals as goal

pub returns-in_ok-release : goal.returns-in_ok-release
returns-in_ok-release c = λ m. ap (λ f. f m) c.in_ok-release.ensures.names ∙ put_is_or (names_of c.args.names.now.keys) c.args.name.now m

pub returns-else-not-is_released : goal.returns-else-not-is_released
returns-else-not-is_released c = λ m. kept_is_or (names_of c.args.names.now.keys) c.args.name.now m (sym c.is_released.ensures ∙ c.if-not-is_released.false)
