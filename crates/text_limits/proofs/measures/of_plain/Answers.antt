use Rattle.std.proofs.Common.{◌∙◌, sym}
use Rattle.text_limits.proofs.Tallied.{unmeasured}
use Rattle.text_limits.proofs.measures.of_plain.Goals as goal

pub returns-in_default : goal.returns-in_default
returns-in_default c = let d = c.in_default in c.none-in_default.ensures ∙ sym (unmeasured c.args.what.now d.not-Value d.not-Load d.not-Store d.not-Alloc d.not-Start d.not-Wait)
