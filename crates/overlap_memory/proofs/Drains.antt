-- The transfers that are taken back one after the other.
use Rattle.std.proofs.Common.{◌≡◌, ℕ, ◌<◌, List, [], ◌∷◌, length, get_or, sym, refl, ap, ◌∙◌, subst, arith, eq-eqb}
use Rattle.std.specs.Prelude.{Option, Some, nat_eq}
use Rattle.std.specs.List.{remove}
use Rattle.bus_model.specs.declared.transfer.Transfer.{Transfer}
use Rattle.tag_table.specs.Shapes.{BusShape, NoneStarted}
use Rattle.prompt_semantics.specs.Device.{Device, record_of, without}
use Rattle.bus_model.specs.declared.step.FaultKind.TheVariants.{Shape}
use Rattle.direct_meaning.specs.Direct.{End, Fault}
use Rattle.prompt_semantics.specs.Prompt.{wait_on}
use Rattle.overlap_memory.specs.declared.memory.Memory.{Memory}
use Rattle.overlap_memory.specs.Tied.{Tied, FastShape}
use Rattle.overlap_memory.proofs.Lists.{if_true, started_in, started_by}

-- some of the transfers are left, and all else is as at the start
pub record Left (bus : BusShape) (shape : FastShape) (x : Memory) (y : Device) : Type 0 where
  pub left : List Transfer
  pub tied : Tied bus shape x (record y { outstanding = left })

-- the first record is that of its tag
pub first_is : (ts : List Transfer) (t d : Transfer) → 0 < length ts → get_or ts 0 d ≡ t → (record_of t.tag ts ≡ Some t) × (without t.tag ts ≡ remove ts 0)
first_is [] t d lt e = absurd (omega arith)
first_is (u ∷ us) t d lt e =
    let b = eq-eqb u.tag t.tag (ap (λ (t : Transfer). t.tag) e) in
    (if_true (nat_eq u.tag t.tag) (Some u) (record_of t.tag us) b ∙ ap Some e, if_true (nat_eq u.tag t.tag) us (u ∷ without t.tag us) b)

pub none_left : (ts : List Transfer) → length ts < 1 → ts ≡ []
none_left [] lt = refl
none_left (u ∷ us) lt = absurd (omega arith)

pub none_started : (bus : BusShape) (shape : FastShape) (x : Memory) (y : Device) → Tied bus shape x y → y.outstanding ≡ [] → NoneStarted x.seat
none_started bus shape x y a e t = a.tags t ∙ started_by y.halves y.outstanding t ∙ ap (λ ts. started_in y.halves (record_of t ts)) e

-- a wait that passes its tests
pub wait_passes : (o : Option Transfer) (t : Transfer) (tag count : ℕ) (y : Device) → o ≡ Some t → t.count ≡ count → wait_on o tag count y ≡ End (record y { outstanding = without tag y.outstanding })
wait_passes o t tag count y e q = ap (λ o. wait_on o tag count y) e ∙ if_true (nat_eq t.count count) (End (record y { outstanding = without tag y.outstanding })) (Fault Shape y) (eq-eqb t.count count q)

-- where no record is left, nothing is outstanding
pub all_taken : (bus : BusShape) (shape : FastShape) (x : Memory) (y : Device) → Left bus shape x y → x.records.items ≡ [] → Tied bus shape x (record y { outstanding = [] })
all_taken bus shape x y l none = subst (λ ts. Tied bus shape x (record y { outstanding = ts })) (sym l.tied.records ∙ none) l.tied
