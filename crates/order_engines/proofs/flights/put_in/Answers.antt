use Rattle.std.proofs.Common.{arith, ap, ◌∙◌, length}
use Rattle.std.specs.Prelude.{is_ok}
use Rattle.std.specs.List.{filter}
use Rattle.order_engines.proofs.Waits.{is_less, put_where}
use Rattle.order_engines.proofs.flights.put_in.Goals as goal

pub returns-clause-items : goal.returns-clause-items
returns-clause-items c = put_where c.args.tag c.args.tags.now.items c.requires.ascending c.requires.others c.smaller-place.result (c.smaller-place.ensures.value ∙ ap (λ l. length (filter (is_less c.args.tag) l)) c.as_slice.ensures.value) c.insert.new.self.items (is_ok c.insert.result) (c.insert.ensures.succeeds (let e = c.args.tags.now.ok.0 in omega (arith, e, c.requires.room))) c.insert.ensures.items

pub insert-requires : goal.insert-requires
insert-requires c = omega (arith, c.smaller-place.ensures.bound, c.as_slice.ensures.len)
