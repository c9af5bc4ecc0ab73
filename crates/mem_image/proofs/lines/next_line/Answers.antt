use Rattle.std.proofs.Common.{◌∙◌, ap, length, arith}
use Rattle.std.proofs.Math.Numerals.{add-one}
use Rattle.std.specs.Str.Lines.{lines}
use Rattle.mem_image.specs.Lines.{written_behind}
use Rattle.mem_image.proofs.Splitting.{white_line, some_line, no_line}
use Rattle.mem_image.proofs.lines.next_line.Goals as goal

pub returns-then-not-is_white-clause-line : goal.returns-then-not-is_white-clause-line
returns-then-not-is_white-clause-line c =
    rw (c.loop-line.invariant.same, c.in-Some.ensures.0, add-one c.loop-line.rest.lines) (some_line c.loop-line.rest.lines c.in-Some.line.now (lines c.in-Some.bytes.now) (cc))

pub loop-line-preserved : goal.loop-line-preserved
loop-line-preserved c = record {
  same = rw (c.loop-line.invariant.same, c.in-Some.ensures.0, add-one c.loop-line.rest.lines) (white_line c.loop-line.rest.lines c.in-Some.line.now (lines c.in-Some.bytes.now) (cc));
  counted = let e = ap length c.in-Some.ensures.0 in omega arith;
  within = let e = c.in-Some.ensures.1 in omega arith;
  shorter = let e = c.in-Some.ensures.1 in omega arith;
}

pub returns-clause-line : goal.returns-clause-line
returns-clause-line c = c.loop-line.invariant.same ∙ ap (λ x. written_behind c.loop-line.rest.lines (lines x)) c.in_default.ensures ∙ no_line c.loop-line.rest.lines
