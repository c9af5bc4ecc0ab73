-- What the seats' models say, from what a step said of the raw seat.
use Rattle.std.proofs.Common.{◌≡◌, ℕ, ℤ, ◌+◌, ◌<◌, ◌≤◌, arith, length, List, [], ◌∷◌, Bool, true, false, sym, refl, ap, ◌∙◌, subst}
use Rattle.std.specs.Bool.{MatchBool}
use Rattle.std.specs.Prelude.{slice_set, if◌then◌else◌, Option, Some, None, MatchOption}
use Rattle.atomic_table.specs.Table.{Me}
use Rattle.bus_model.proofs.Places.{places_are_distinct}
use Rattle.atomic_table.specs.Seated.{TableId}
use Rattle.tag_table.specs.Rule.{Slot, FitsIn, MayGo, job}
use Rattle.tag_table.specs.Shapes.{compute_of, engine_of, carried_of, work_of, IsComputeMe, IsEngineMe, IsFitting, MayStart, EngineShape, with_work, after_move}
use Rattle.bus_model.specs.declared.transfer.Transfer.{Transfer}
use Rattle.tag_table.specs.declared.view.Parcel.{Parcel}
use Rattle.bus_model.specs.declared.transfer.Started.{Started}
use Rattle.tag_table.specs.declared.view.Work.{Work}
use Rattle.tag_table.specs.declared.view.ComputeView.{ComputeView}
use Rattle.tag_table.specs.declared.view.EngineView.{EngineView}
use Rattle.tag_table.specs.declared.view.View.{View}
use Rattle.tag_table.specs.declared.view.View.TheVariants.{Compute, Engine}

pub compute_me : (m : Me Slot View) (x : ComputeView) → m ≡ (Compute x, []) → x.held ≡ None → IsComputeMe m
compute_me m x e h = (e ∙ sym (ap (λ (z : Me Slot View). (Compute (compute_of z.0), [])) e), ap (λ (z : Me Slot View). (compute_of z.0).held) e ∙ h)

pub engine_me : (m : Me Slot View) (held : Option (ℕ × Parcel)) (x : EngineView) → m ≡ (Engine x, carried_of held) → x.work ≡ work_of held → IsEngineMe m held
engine_me m held x e w = (e ∙ sym (ap (λ (z : Me Slot View). (Engine (engine_of z.0), carried_of held)) e), ap (λ (z : Me Slot View). (engine_of z.0).work) e ∙ w)

pub no_parcel : (held : Option (ℕ × Parcel)) → work_of held ≡ None → held ≡ None
no_parcel None e = refl
no_parcel (Some h) e = absurd (cc)

-- a seat that holds a parcel
module _ (m : Me Slot View) (held : Option (ℕ × Parcel)) (t : ℕ) (p : Parcel) (is : held ≡ Some (t, p)) (me : IsEngineMe m held) where
  pub held_me : m ≡ (Engine (engine_of m.0), (t, None) ∷ [])
  held_me = me.0 ∙ ap (λ h. (Engine (engine_of m.0), carried_of h)) is

  pub held_work : (engine_of m.0).work ≡ Some (job t p.transfer p.cells.items p.moved)
  held_work = me.1 ∙ ap work_of is

  pub held_fits : (id : TableId) → IsFitting id (engine_of m.0) → (t < id.slots) × FitsIn (engine_of m.0).words p.transfer p.cells.items
  held_fits id f = subst (λ (w : Option Work). MatchOption w (Unit {0}) (λ v. (v.tag < id.slots) × FitsIn (engine_of m.0).words v.transfer v.cells)) held_work f.1

-- the cells may change, and not their number
pub fits_still : (n : ℕ) (x y : Transfer) (cells cells' : List ℤ) → FitsIn n x cells → y ≡ x → length cells' ≡ length cells → FitsIn n y cells'
fits_still n x y cells cells' f same long = subst (λ z. FitsIn n z cells') (sym same) record { within = f.within; inside = let a = f.inside in omega arith; some_chunk = f.some_chunk }

pub same_jobs : (a b : Option Work) (v w : Work) → a ≡ b → a ≡ Some v → b ≡ Some w → v ≡ w
same_jobs a b v w e p q = cc

-- what callers give a start is what the rule asks
pub may_go : (n : ℕ) (tags : List (Option Started)) (t : ℕ) (p : Parcel) → MayStart n tags t p → MayGo n tags p
may_go n tags t p may = record {
  fresh = may.unmoved;
  within = may.within;
  distinct = λ e f _ _. places_are_distinct p.transfer may.some_chunk may.wide e f;
  inside = may.inside;
  some_chunk = may.some_chunk;
  clear = may.clear;
}

-- what a move tells
pub move_told : (b : Bool) (old new : EngineShape) (w : Work) (q : Parcel) → old.work ≡ Some w → new ≡ with_work old (Some (job w.tag q.transfer q.cells.items q.moved)) → q.transfer ≡ w.transfer
    → MatchBool b ((w.moved < w.transfer.count) × (q.moved ≡ w.moved + 1)) ((w.transfer.count ≤ w.moved) × (q.moved ≡ w.moved))
    → (b ≡ true → (z : ℤ) × (q.cells.items ≡ (if w.transfer.incoming then slice_set w.cells (w.transfer.offset + w.moved) z else w.cells))) → (b ≡ false → q.cells.items ≡ w.cells)
    → MatchBool b ((w.moved < w.transfer.count) × ((z : ℤ) × (new ≡ with_work old (Some (after_move w z))))) ((w.transfer.count ≤ w.moved) × (new ≡ old))
move_told true old new w q has is same m cells still = let c = cells refl in (m.0, (c.0, is ∙ (λ k. with_work old (Some (job w.tag (same k) (c.1 k) (m.1 k))))))
move_told false old new w q has is same m cells still = (m.0, is ∙ (λ k. with_work old (Some (job w.tag (same k) (still refl k) (m.1 k)))) ∙ (λ k. with_work old (sym has k)))
