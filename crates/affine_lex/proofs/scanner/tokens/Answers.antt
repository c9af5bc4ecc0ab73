use Rattle.std.proofs.Common.{rules}
use Rattle.affine_lex.specs.Tokens.{AreTokens}
use Rattle.affine_lex.proofs.Listed.{one_list}
use Rattle.affine_lex.proofs.scanner.tokens.Goals as goal

pub returns-clause-only : goal.returns-clause-only
returns-clause-only c =
    let whole : AreTokens c.args.source.now c.push-2.new.self.items = search rules in
    λ ts h. one_list c.args.source.now c.push-2.new.self.items ts whole h
