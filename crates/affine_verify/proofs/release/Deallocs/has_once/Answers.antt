use Rattle.affine_verify.proofs.Released.{once_then, once_else}
use Rattle.affine_verify.proofs.release.Deallocs.has_once.Goals as goal

pub returns-then-is_released : goal.returns-then-is_released
returns-then-is_released c = λ rest lists. once_then c.args.self.now rest c.args.name.now c.is_released.result c.is_released-then-is_released.result c.is_released.ensures c.if-is_released.true c.is_released-then-is_released.ensures lists

pub returns-else-is_released : goal.returns-else-is_released
returns-else-is_released c = λ rest lists. once_else c.args.self.now rest c.args.name.now c.is_released.result c.is_released.ensures c.if-is_released.false lists
