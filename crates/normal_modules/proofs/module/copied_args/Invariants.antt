use Rattle.std.proofs.Common.{◌≡◌, take}
use Rattle.normal_modules.proofs.module.copied_args.Given as goal

abbrev pub invariant-loop-arg : goal.invariant-loop-arg
invariant-loop-arg l = l.copies ≡ take l.arg-index l.args
