use Rattle.std.proofs.Common.{ℕ, ◌+◌, ◌-◌, ◌∙◌, arith, drop, sym}
use Rattle.affine_lex.proofs.Growth.{gap_at, place_more, short, short_drop, token_at}
use Rattle.affine_lex.proofs.Scanning.{taken, tokens_end}
use Rattle.affine_lex.proofs.scanner.Scanner.next_token.Goals as goal

pub returns-then-self-clause-next : goal.returns-then-self-clause-next
returns-then-self-clause-next c = sym c.self.view_is ∙ tokens_end c.self.inside.source.now c.self.inside.from c.self.inside.context c.if-self.true

pub returns-then-self-clause-end : goal.returns-then-self-clause-end
returns-then-self-clause-end c = λ e. sym c.self.view_is ∙ tokens_end c.self.inside.source.now c.self.inside.from c.self.inside.context c.if-self.true

pub invariant_of-self : goal.invariant_of-self
invariant_of-self c =
    let s = c.self.inside.source.now in
    let from = c.self.inside.from in
    let to : ℕ = from + c.token-kind.result.1 in
    let a = short_drop from s c.self.invariant.within in
    let b = short_drop to s (omega (arith, a, c.token-kind.ensures.within)) in
    let l = short (to + c.gap.result - from) (drop from s) in
    record {
      size = c.self.invariant.size;
      within = omega (arith, b, c.gap.ensures.within);
      place = place_more s from _ _ _ (omega arith) c.self.invariant.place c.walk-self-inside.ensures.value;
      line = omega (arith, l, c.walk-self-inside.ensures.line, c.self.invariant.line);
      column = omega (arith, l, c.walk-self-inside.ensures.column, c.self.invariant.column);
      some = c.walk-self-inside.ensures.some;
    }

pub returns-clause-next : goal.returns-clause-next
returns-clause-next c =
    let s = c.self.inside.source.now in
    let from = c.self.inside.from in
    let to : ℕ = from + c.token-kind.result.1 in
    let a = short_drop from s c.self.invariant.within in
    sym c.self.view_is
    ∙ taken s from c.token-kind.result.1 c.gap.result c.self.inside.context c.after-self-inside.result c.token-kind.result.0 c.self.inside.place c.if-self.false c.self.invariant.place (token_at s from c.self.inside.context _ _ c.self.invariant.within c.in_sizes.ensures c.token-kind.ensures.value) c.after-self-inside.ensures (gap_at s to _ (omega (arith, a, c.token-kind.ensures.within)) c.gap.ensures.value)
