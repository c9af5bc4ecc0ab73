use Rattle.std.proofs.Common.{[], ap, ◌∙◌}
use Rattle.tag_table.specs.declared.view.View.TheVariants.{Compute}
use Rattle.tag_table.specs.Steps.{one_more}
use Rattle.tag_table.specs.Shapes.{compute_of, fresh_engine}
use Rattle.tag_table.proofs.Opens.{engines_more}
use Rattle.tag_table.proofs.bus.engine_seats.Goals as goal

pub loop-preserved : goal.loop-preserved
loop-preserved c =
    let id = c.args.words.now.table_id in
    let old = c.loop.invariant in
    let told = c.engine_seat-one.ensures in
    record {
      table = told.seat.0 ∙ old.table;
      id = told.seat.1 ∙ old.id;
      me = told.seat.2 ∙ (λ k. (Compute (one_more (compute_of (old.me k).0)), []));
      made = c.in_ok-push.ensures.items ∙ engines_more id c.loop.counter _ _ old.made (told.engine ∙ ap (λ m. fresh_engine id (compute_of m.0).engines) old.me);
    }
