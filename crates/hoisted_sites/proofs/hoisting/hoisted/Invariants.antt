use Rattle.std.proofs.Common.{◌≡◌, ◌≤◌, take, length, map, reverse}
use Rattle.placement_stage.specs.Places.{spot_of}
use Rattle.plan_laws.specs.Sites.{loops_round}
use Rattle.hoisted_sites.specs.Hoisting.{text_of, IsSite, IsRound, site_of, hoisted_from}
use Rattle.hoisted_sites.proofs.hoisting.hoisted.Given as goal

-- what is left to hoist over: the loops that the first so many lengths name, from the nearest outward
abbrev pub invariant-loop-left : goal.invariant-loop-left
invariant-loop-left l = record {
  within : l.left ≤ length l.block.round.items;
  site : IsSite l.asking l.sought l.site;
  place : IsRound (text_of l.asking) (spot_of l.block.at.steps) l.site;
  same : hoisted_from l.asking l.sought (reverse (map (λ k. spot_of (take k l.block.at.steps)) (take l.left l.block.round.items))) (site_of l.site)
      ≡ hoisted_from l.asking l.sought (loops_round (spot_of l.block.at.steps) (text_of l.asking)) (site_of l.fn.start);
}

abbrev pub decreases-loop-left : goal.decreases-loop-left
decreases-loop-left l = l.left
