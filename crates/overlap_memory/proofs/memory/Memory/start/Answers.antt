use Rattle.std.proofs.Common.{◌∙◌, sym, ap, subst, arith}
use Rattle.std.specs.List.{All}
use Rattle.prompt_semantics.specs.Device.{is_started, is_away, start_races, started}
use Rattle.overlap_memory.proofs.Lists.{have_places}
use Rattle.overlap_memory.proofs.Starts.{start_passes}
use Rattle.overlap_memory.specs.Tied.{IsPlaced}
use Rattle.overlap_memory.proofs.memory.Memory.start.Goals as goal

pub start_races-requires-clause-outstanding : goal.start_races-requires-clause-outstanding
start_races-requires-clause-outstanding c = let y = c.requires.tied in have_places (c.args.bus.now.words) (let s = y.2.small in omega (arith, s)) _ (subst (All (IsPlaced c.args.bus.now.words)) (sym y.2.records ∙ sym c.as_slice-3.ensures.value) y.2.placed)

pub start_races-requires-clause-start : goal.start_races-requires-clause-start
start_races-requires-clause-start c = let y = c.requires.tied in record { some_chunk = c.requires.can.some_chunk; fit = λ e lt. (let s = y.2.small in let k = c.requires.can.within e lt in omega (arith, s, k)) }

pub returns : goal.returns
returns c = record {
  follows = λ shape y t allocated has.
      let idle = ap (λ ts. is_started ts c.args.transfer.tag) (sym t.records ∙ sym c.as_slice.ensures.value) ∙ sym c.is_started.ensures ∙ c.if-is_started.false in
      let home = ap (λ ts. is_away ts c.args.transfer.fast c.args.transfer.half) (sym t.records ∙ sym c.as_slice-2.ensures.value) ∙ sym c.is_away.ensures ∙ c.if-is_away.false in
      let apart = ap (λ ts. start_races ts c.args.transfer) (sym t.records ∙ sym c.as_slice-3.ensures.value) ∙ sym c.start_races.ensures ∙ c.if-start_races.false in
      (started c.args.transfer y, start_passes c.args.transfer y idle home apart, c.begin.ensures.tied shape y t allocated has);
}
