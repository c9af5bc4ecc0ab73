-- Bytes that are all ASCII are UTF-8.
use Rattle.std.proofs.Common.{◌≡◌, true}
use Rattle.std.proofs.lemmas.Str.{IsUtf8-from_is_utf8}
use Rattle.affine_grammar.specs.Token.{all_ascii}
use Rattle.affine_grammar.proofs.Names.{ascii_is_utf8}
use Rattle.token_cursor.proofs.names.text_of.Goals as goal

pub returns-in-Err : goal.returns-in-Err
returns-in-Err c =
    let h : all_ascii c.args.bytes.now ≡ true = cc in
    absurd (c.in-Err.ensures.cases.0 (IsUtf8-from_is_utf8 c.args.bytes.now (ascii_is_utf8 c.args.bytes.now h)))
