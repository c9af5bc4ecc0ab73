use Rattle.std.proofs.Common.{rules, arith, ◌≡◌, ◌++◌, ◌-◌, length, take, drop, replicate, ℤ, List, pos, ◌∙◌, ap, sym}
use Rattle.dependence.proofs.Spreads.{spread_is, take_rest}
use Rattle.dependence.proofs.turns.spread.Goals as goal

pub returns : goal.returns
returns c =
    let cs : List ℤ = c.args.coefs.now in
    let first : c.in_ok-out.out.items ≡ take c.args.outer cs = grind arith in
    let mid : c.extend_from_slice.new.self.items ≡ c.in_ok-out.out.items ++ replicate c.args.locals (pos 0) = search rules in
    let last : c.extend_from_slice-2.new.self.items ≡ c.extend_from_slice.new.self.items ++ take (length cs - c.args.outer) (drop c.args.outer cs) = search rules in
    last ∙ ap (λ (xs : List ℤ). c.extend_from_slice.new.self.items ++ xs) (take_rest c.args.outer cs) ∙ ap (λ xs. xs ++ drop c.args.outer cs) (mid ∙ ap (λ (xs : List ℤ). xs ++ replicate c.args.locals (pos 0)) first) ∙ sym (spread_is c.args.outer c.args.locals cs c.requires)
