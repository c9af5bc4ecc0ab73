use Rattle.std.proofs.Common.{◌≡◌, ◌<◌, length, arith}
use Rattle.std.proofs.lemmas.Bool.Decides.{nat_tests}
use Rattle.mem_image.proofs.Splitting.{line_at_end, line_before}
use Rattle.mem_image.proofs.lines.cut_line.Goals as goal

pub returns-then-is_empty-2 : goal.returns-then-is_empty-2
returns-then-is_empty-2 c =
    let z : length c.split_at.result.1.now ≡ 0 = grind (arith, nat_tests) in
    let some : 0 < length c.args.bytes.now = grind (arith, nat_tests) in
    let cut = line_at_end c.args.bytes.now c.split_at.result.1.now some (cc) z in
    (cut.value, cut.shorter, omega arith)

pub returns : goal.returns
returns c =
    let some : 0 < length c.split_at.result.1.now = grind (arith, nat_tests) in
    let cut = line_before c.args.bytes.now c.split_at.result.1.now c.without_return.result.now c.split_at-2.result.1.now (cc) some (cc) (cc) in
    let w = c.without_return.ensures.within in
    let f = c.split_at.ensures.front_len in
    let l = c.line_length.ensures.within in
    (cut.value, cut.shorter, omega arith)
