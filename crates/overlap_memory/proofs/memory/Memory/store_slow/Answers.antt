use Rattle.std.proofs.Common.{rules, ◌∙◌, sym, ap, subst, arith, w64}
use Rattle.std.proofs.lemmas.Int.{to_z-of_z}
use Rattle.std.specs.Prelude.{Ok}
use Rattle.std.specs.List.{All}
use Rattle.tag_table.specs.Shapes.{with_word}
use Rattle.direct_meaning.specs.Action.{Slow}
use Rattle.prompt_semantics.specs.Device.{store_races}
use Rattle.prompt_semantics.specs.Prompt.{prompt_store}
use Rattle.overlap_memory.specs.Tied.{IsPlaced, Follows}
use Rattle.overlap_memory.proofs.Lists.{have_places}
use Rattle.overlap_memory.proofs.Slow.{clear_of_all, store_follows}
use Rattle.overlap_memory.proofs.memory.Memory.store_slow.Goals as goal

pub store_races-requires : goal.store_races-requires
store_races-requires c = let y = c.requires.tied in have_places (c.args.bus.now.words) (let s = y.2.small in omega (arith, s)) _ (subst (All (IsPlaced c.args.bus.now.words)) (sym y.2.records ∙ sym c.as_slice.ensures.value) y.2.placed)

pub store-requires-clause-clear : goal.store-requires-clause-clear
store-requires-clause-clear c = let y = c.requires.tied in clear_of_all _ _ _ y.1 y.2 _ (ap (λ ts. store_races ts c.args.place) (sym c.as_slice.ensures.value) ∙ sym c.store_races.ensures ∙ c.if-store_races.false)

pub returns : goal.returns
returns c = record {
  follows = λ shape y t.
      let none = ap (λ ts. store_races ts c.args.place) (sym c.as_slice.ensures.value) ∙ sym c.store_races.ensures ∙ c.if-store_races.false in
      let value = to_z-of_z w64 c.args.value (search rules) in
      let seat = sym (c.store.ensures ∙ ap (with_word c.args.self.now.seat c.args.place) value) in
      subst (λ s. Follows c.args.bus.now shape (Ok tt) (prompt_store c.args.value (Slow c.args.place) y) (record c.args.self.now { seat = s })) seat (store_follows _ _ _ y t c.args.place c.args.value none);
}
