use Rattle.std.proofs.Common.{◌≡◌, ◌<◌, length, arith}
use Rattle.std.proofs.lemmas.Bool.Decides.{nat_tests}
use Rattle.mem_image.proofs.Splitting.{word_none, word_some}
use Rattle.mem_image.proofs.lines.next_word.Goals as goal

pub returns-then-is_empty : goal.returns-then-is_empty
returns-then-is_empty c =
    let z : length c.split_at.result.1.now ≡ 0 = grind (arith, nat_tests) in
    word_none c.args.line.now c.split_at.result.1.now (cc) z

pub returns : goal.returns
returns c =
    let some : 0 < length c.split_at.result.1.now = grind (arith, nat_tests) in
    let cut = word_some c.args.line.now c.split_at.result.1.now c.split_at-2.result.0.now c.split_at-2.result.1.now (cc) some (cc) (cc) in
    (cut.value, cut.shorter)
