use Rattle.std.proofs.Common.{◌≡◌, ℕ, ◌-◌, drop, length, reverse, arith, ap, ◌∙◌}
use Rattle.std.proofs.lemmas.List.{reverse-reverse}
use Rattle.affine_verify.specs.Deallocs.{once_each}
use Rattle.affine_verify.proofs.Released.{none_left, each_none, lists_more, once_more}
use Rattle.affine_verify.proofs.release.released_once.Goals as goal

pub loop-done-init : goal.loop-done-init
loop-done-init c = record {
  lists = none_left c.new-deallocs.result c.args.stmts.now (length c.args.stmts.now - 0) (omega arith) c.new-deallocs.ensures;
  once = c.new-once.ensures.items ∙ each_none c.args.stmts.now (length c.args.stmts.now - 0) (omega arith);
}

pub loop-done-preserved : goal.loop-done-preserved
loop-done-preserved c = record {
  lists = lists_more c.loop-done.deallocs c.add.new.self c.args.stmts.now c.loop-done.done _ c.index-stmts-length.result (omega arith) (omega arith) c.index-stmts-length.is c.in_ok-add.ensures c.loop-done.invariant.lists;
  once = once_more c.args.stmts.now c.loop-done.done _ c.index-stmts-length.result c.releases.result c.loop-done.once.items c.push.new.self.items (omega arith) (omega arith) c.index-stmts-length.is
      (c.releases.ensures _ c.loop-done.invariant.lists) c.loop-done.invariant.once c.in_ok-push.ensures.items;
}

pub returns : goal.returns
returns c =
    let at_first : length c.args.stmts.now - c.loop-done.done ≡ 0 = omega arith in
    c.reverse.ensures.items ∙ ap reverse c.loop-done.invariant.once ∙ reverse-reverse (once_each (drop (length c.args.stmts.now - c.loop-done.done) c.args.stmts.now)) ∙ ap (λ (k : ℕ). once_each (drop k c.args.stmts.now)) at_first
