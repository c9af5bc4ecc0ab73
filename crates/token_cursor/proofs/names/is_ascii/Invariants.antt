use Rattle.std.proofs.Common.{◌≡◌, drop}
use Rattle.affine_grammar.specs.Token as tok
use Rattle.token_cursor.proofs.names.is_ascii.Given as goal

abbrev pub invariant-bytes : goal.invariant-bytes
invariant-bytes l = tok.all_ascii l.bytes ≡ tok.all_ascii (drop l.byte-index l.bytes)
