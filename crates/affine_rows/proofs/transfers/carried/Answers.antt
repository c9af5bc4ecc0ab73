use Rattle.std.proofs.Common.{◌≡◌, ℕ, List, [], ◌∷◌, length, refl, sym, ap, ◌∙◌, subst}
use Rattle.std.specs.Prelude.{Option, None}
use Rattle.bus_model.specs.declared.transfer.Started.{Started}
use Rattle.tag_table.specs.declared.view.Parcel.{Parcel}
use Rattle.tag_table.specs.Rule.{started_at}
use Rattle.tag_table.specs.Shapes.{MayStart}
use Rattle.affine_rows.proofs.Carrying.{may_start, started_after}
use Rattle.affine_rows.proofs.transfers.carried.Goals as goal

pub start-requires-clause-parcel : goal.start-requires-clause-parcel
start-requires-clause-parcel c =
    let p : Parcel = record { transfer = c.args.transfer; cells = c.args.cells; moved = 0 } in
    let words = c.in_ok-bus.ensures.bus.0 in
    let tags : c.in_ok-bus.compute.tags ≡ None ∷ [] = ap (λ z. z.tags) c.in_ok-bus.ensures.compute in
    subst (λ (z : ℕ × List (Option Started)). MayStart z.0 z.1 0 p) (λ k. (sym words k, sym tags k)) (may_start (length c.args.words.now) p refl c.requires)

pub try_collect-requires-clause-started : goal.try_collect-requires-clause-started
try_collect-requires-clause-started c =
    let st = started_after c.in_ok-bus.compute c.args.transfer c.args.cells.items (ap (λ z. z.tags) c.in_ok-bus.ensures.compute) in
    (st.0, ap (λ z. started_at z.tags 0) c.start.ensures ∙ st.1)

pub try_collect-requires-2-clause-started : goal.try_collect-requires-2-clause-started
try_collect-requires-2-clause-started c =
    let st = started_after c.in_ok-bus.compute c.args.transfer c.args.cells.items (ap (λ z. z.tags) c.in_ok-bus.ensures.compute) in
    (st.0, ap (λ z. started_at z.tags 0) c.in-Err.ensures.seat ∙ ap (λ z. started_at z.tags 0) c.start.ensures ∙ st.1)
