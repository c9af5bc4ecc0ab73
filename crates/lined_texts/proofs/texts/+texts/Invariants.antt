use Rattle.lined_texts.proofs.Lines.{IsLinedTo}
use Rattle.lined_texts.proofs.texts.+texts.Given as goal

abbrev pub invariant-lined_text-loop-stmt : goal.invariant-lined_text-loop-stmt
invariant-lined_text-loop-stmt l = IsLinedTo l.fn.stmts l.stmt-index l.made
