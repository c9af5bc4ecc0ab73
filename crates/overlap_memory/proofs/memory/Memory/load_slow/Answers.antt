use Rattle.std.proofs.Common.{◌∙◌, sym, ap, subst, arith}
use Rattle.std.specs.List.{All}
use Rattle.prompt_semantics.specs.Device.{load_races}
use Rattle.overlap_memory.specs.Tied.{IsPlaced}
use Rattle.overlap_memory.proofs.Lists.{have_places}
use Rattle.overlap_memory.proofs.Slow.{clear_of_out}
use Rattle.overlap_memory.proofs.memory.Memory.load_slow.Goals as goal

pub load_races-requires : goal.load_races-requires
load_races-requires c = let y = c.requires.tied in have_places (c.args.bus.now.words) (let s = y.2.small in omega (arith, s)) _ (subst (All (IsPlaced c.args.bus.now.words)) (sym y.2.records ∙ sym c.as_slice.ensures.value) y.2.placed)

pub load-requires-clause-clear : goal.load-requires-clause-clear
load-requires-clause-clear c = let y = c.requires.tied in clear_of_out _ _ _ y.1 y.2 _ (ap (λ ts. load_races ts c.args.place) (sym c.as_slice.ensures.value) ∙ sym c.load_races.ensures ∙ c.if-load_races.false)
