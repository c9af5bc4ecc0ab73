use Rattle.std.proofs.Common.{◌≡◌, ◌-◌, ◌<◌, suc, length, take, get_or, refl, ap, subst, ◌∙◌, arith}
use Rattle.placement_stage.specs.Places.{spot_of}
use Rattle.plan_laws.specs.Sites.{loops_round}
use Rattle.hoisted_sites.specs.Hoisting.{text_of, IsFurther, site_of, hoisted_from}
use Rattle.hoisted_sites.proofs.Rounds.{all_left, is_loop_path, is_round, in_range, rounds_left, step_out, step_stays}
use Rattle.hoisted_sites.proofs.hoisting.hoisted.Goals as goal

pub loop-left-init : goal.loop-left-init
loop-left-init c =
    let a = c.args.asking.now in
    let b = c.args.block.now in
    let e = ap length c.as_slice-round.ensures.value in
    record {
      within = omega (arith, e);
      site = c.requires.start;
      place = c.requires.place;
      same =
          ap (λ k. hoisted_from a c.args.sought (rounds_left (text_of a) b c.requires.block k) (site_of c.args.start)) e
          ∙ ap (λ ss. hoisted_from a c.args.sought ss (site_of c.args.start)) (all_left (text_of a) b c.requires.block c.beginnings_are_loops.ensures);
    }

pub further_out-requires : goal.further_out-requires
further_out-requires c =
    let b = c.args.block.now in
    let i = c.loop-left.left - 1 in
    let w = c.loop-left.invariant.within in
    let t = c.loop-left-test.true in
    let h : i < length b.round.items = omega (arith, w, t) in
    let k = get_or b.round.items i 0 in
    let e = in_range b.round.items i 0 k h in
    let s = c.in_ok-at.ensures ∙ ap (λ l. take (get_or l i 0) b.at.steps) c.as_slice-round.ensures.value in
    record { path = is_loop_path (text_of c.args.asking.now) b c.requires.block c.beginnings_are_loops.ensures c.beginnings_are_paths.ensures i k c.in_ok-at.at h e s }

pub loop-left-preserved : goal.loop-left-preserved
loop-left-preserved c =
    let a = c.args.asking.now in
    let x = c.args.sought in
    let b = c.args.block.now in
    let l = c.loop-left.left in
    let i = c.loop-left.left - 1 in
    let w = c.loop-left.invariant.within in
    let t = c.loop-left-test.true in
    let n : l ≡ suc i = omega (arith, t) in
    let h : i < length b.round.items = omega (arith, w, t) in
    let k = get_or b.round.items i 0 in
    let e = in_range b.round.items i 0 k h in
    let s = c.in_ok-at.ensures ∙ ap (λ l. take (get_or l i 0) b.at.steps) c.as_slice-round.ensures.value in
    let from = site_of c.loop-left.site in
    let to = subst (IsFurther a x from c.in_ok-at.at i) c.in-Some.is (c.in_ok-found.ensures from refl) in
    record {
      within = omega (arith, w);
      site = to.0;
      place = is_round (text_of a) b c.requires.block c.beginnings_are_loops.ensures i k c.in-Some.further h e (ap (λ p. p.steps) to.1 ∙ s) to.2;
      same = step_out a x b c.requires.block l i k from (site_of c.in-Some.further) (hoisted_from a x (loops_round (spot_of b.at.steps) (text_of a)) (site_of c.args.start)) c.in_ok-at.at n h e s to.3 c.loop-left.invariant.same;
    }

pub returns-in-None-clause-hoisted : goal.returns-in-None-clause-hoisted
returns-in-None-clause-hoisted c =
    let a = c.args.asking.now in
    let x = c.args.sought in
    let b = c.args.block.now in
    let l = c.loop-left.left in
    let i = c.loop-left.left - 1 in
    let w = c.loop-left.invariant.within in
    let t = c.loop-left-test.true in
    let n : l ≡ suc i = omega (arith, t) in
    let h : i < length b.round.items = omega (arith, w, t) in
    let k = get_or b.round.items i 0 in
    let e = in_range b.round.items i 0 k h in
    let s = c.in_ok-at.ensures ∙ ap (λ l. take (get_or l i 0) b.at.steps) c.as_slice-round.ensures.value in
    let from = site_of c.loop-left.site in
    let stays = subst (IsFurther a x from c.in_ok-at.at i) c.in-None.is (c.in_ok-found.ensures from refl) in
    step_stays a x b c.requires.block l i k from (hoisted_from a x (loops_round (spot_of b.at.steps) (text_of a)) (site_of c.args.start)) c.in_ok-at.at n h e s stays c.loop-left.invariant.same
