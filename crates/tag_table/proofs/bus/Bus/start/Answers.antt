use Rattle.std.proofs.Common.{◌≡◌, ℕ, List, Option, true, false, Bool, refl, sym, ap, ◌∙◌, subst}
use Rattle.bus_model.specs.declared.transfer.Started.{Started}
use Rattle.tag_table.specs.Rule.{started_at, MayGo}
use Rattle.tag_table.specs.Shapes.{compute_of, IsComputeMe}
use Rattle.tag_table.proofs.Shown.{compute_me, may_go}
use Rattle.tag_table.proofs.bus.Bus.start.Goals as goal

pub start-requires-clause-view : goal.start-requires-clause-view
start-requires-clause-view c =
    let v = compute_of c.seat.inside.seat.me.0 in
    let tags : v.tags ≡ c.args.seat.now.tags = ap (λ z. z.tags) c.seat.view_is in
    let words = c.self.invariant.1 ∙ ap (λ z. z.words) c.self.view_is in (
      v,
      c.seat.invariant.0,
      c.seat.invariant.1,
      ap (λ l. started_at l c.args.tag) tags ∙ c.requires.parcel.idle,
      subst (λ (z : ℕ × List (Option Started)). MayGo z.0 z.1 c.args.parcel) (λ k. (sym words k, sym tags k)) (may_go _ _ _ _ c.requires.parcel),
    )

pub invariant_of-seat : goal.invariant_of-seat
invariant_of-seat c = go c.args.parcel.transfer.incoming refl
  where
    go : (b : Bool) → c.args.parcel.transfer.incoming ≡ b → IsComputeMe c.start.new.seat.me
    go true is = compute_me _ _ (c.start.ensures.into _ (ap (λ m. m.0) c.seat.invariant.0) is) refl
    go false is = compute_me _ _ (c.start.ensures.out _ (ap (λ m. m.0) c.seat.invariant.0) is) refl
