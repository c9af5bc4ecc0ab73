use Rattle.std.proofs.Common.{rules, ◌≡◌, ◌+◌, ◌-◌, ◌++◌, ◌∷◌, [], ◌∙◌, suc, map, sym, ap, append_assoc}
use Rattle.constraint_set.specs.Elimination.{countdown}
use Rattle.projection.proofs.Counting.{one_less_up}
use Rattle.projection.proofs.value.numbers_to.Goals as goal

pub loop-passed-preserved : goal.loop-passed-preserved
loop-passed-preserved c =
    let last = c.args.count - c.loop-passed.passed in
    let rest = map suc (countdown (c.args.count - (c.loop-passed.passed + 1))) in
    let grown : c.push.new.self.items ≡ c.loop-passed.out.items ++ last ∷ [] = search rules in
    c.loop-passed.invariant ∙ ap (λ xs. c.loop-passed.out.items ++ xs) (one_less_up c.args.count c.loop-passed.passed c.loop-passed-test.true)
    ∙ sym (append_assoc c.loop-passed.out.items (last ∷ []) rest) ∙ ap (λ xs. xs ++ rest) (sym grown)
