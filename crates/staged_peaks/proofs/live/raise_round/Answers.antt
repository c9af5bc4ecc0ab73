use Rattle.std.proofs.Common.{◌≡◌, ◌-◌, List, ap, ◌∙◌, arith, max, get_or, slice_set}
use Rattle.staged_peaks.specs.declared.live.LiveLoop.{LiveLoop}
use Rattle.staged_peaks.proofs.Steps.{first_way, first_reach, next_reach, next_way, read, higher, reach_inner}
use Rattle.staged_peaks.proofs.live.raise_round.Goals as goal

abbrev none : LiveLoop
none = record { steps = 0; own = 0; below = 0 }

pub overflow_add-inner : goal.overflow_add-inner
overflow_add-inner c =
    let way = c.args.way.now in
    let here : get_or c.as_slice.result.now c.args.place none ≡ get_or way c.args.place none = ap (λ (xs : List LiveLoop). get_or xs c.args.place none) c.as_slice.ensures in
    let own = ap (λ (x : LiveLoop). x.own) here in
    let below = ap (λ (x : LiveLoop). x.below) here in
    let e = first_reach way c.args.place none c.requires.within in
    let f = reach_inner 0 way c.args.place c.args.place (omega arith) in
    let g = c.requires.fits in
    omega (arith, own, below, e, f, g)

pub loop-left-init : goal.loop-left-init
loop-left-init c =
    let way = c.args.way.now in
    let here : get_or c.as_slice.result.now c.args.place none ≡ get_or way c.args.place none = ap (λ (xs : List LiveLoop). get_or xs c.args.place none) c.as_slice.ensures in
    let own = ap (λ (x : LiveLoop). x.own) here in
    let below = ap (λ (x : LiveLoop). x.below) here in
    let e = first_reach way c.args.place none c.requires.within in
    (omega arith, first_way way c.args.place, omega (arith, own, below, e))

pub overflow_add-inner-in-loop-left : goal.overflow_add-inner-in-loop-left
overflow_add-inner-in-loop-left c =
    let way = c.args.way.now in
    let place = c.args.place in
    let left = c.loop-left.left in
    let some = c.loop-left-test.true in
    let le = c.loop-left.invariant.0 in
    let seen : get_or c.as_slice-in-loop-left.result.now (left - 1) none ≡ get_or c.loop-left.way (left - 1) none =
    ap (λ (xs : List LiveLoop). get_or xs (left - 1) none) c.as_slice-in-loop-left.ensures in
    let outer = seen ∙ read way place left none some le c.requires.within c.loop-left.way c.loop-left.invariant.1 in
    let own = ap (λ (x : LiveLoop). x.own) outer in
    let e = next_reach way place left none some le c.requires.within in
    let f = reach_inner 0 way place (left - 1) (omega (arith, le)) in
    let g = c.requires.fits in
    let h = c.loop-left.invariant.2 in
    omega (arith, own, e, f, g, h)

pub loop-left-preserved : goal.loop-left-preserved
loop-left-preserved c =
    let way = c.args.way.now in
    let place = c.args.place in
    let left = c.loop-left.left in
    let some = c.loop-left-test.true in
    let le = c.loop-left.invariant.0 in
    let seen : get_or c.as_slice-in-loop-left.result.now (left - 1) none ≡ get_or c.loop-left.way (left - 1) none =
    ap (λ (xs : List LiveLoop). get_or xs (left - 1) none) c.as_slice-in-loop-left.ensures in
    let outer = seen ∙ read way place left none some le c.requires.within c.loop-left.way c.loop-left.invariant.1 in
    let own = ap (λ (x : LiveLoop). x.own) outer in
    let e = next_reach way place left none some le c.requires.within in
    let h = c.loop-left.invariant.2 in
    let below : c.max.result ≡ (higher way place left none some le c.requires.within).below = c.max.ensures ∙ (λ i. max (outer i).below (h i)) in (
      omega (arith, le),
      c.set.ensures ∙ ((λ i. slice_set c.loop-left.way (left - 1) (record { steps = (outer i).steps; own = (outer i).own; below = below i }))
          ∙ next_way way place left none some le c.requires.within c.loop-left.way c.loop-left.invariant.1),
      omega (arith, own, e, h),
    )
