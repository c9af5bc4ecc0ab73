-- What a source comes to under a command: a refusal, or an output.
use Rattle.std.specs.Prelude.{◌≡◌, ◌⊎◌, ℕ, List, Result, Ok, Err}
use Rattle.affine_driver.specs.declared.refusal.Refusal.{Refusal}
use Rattle.affine_driver.specs.Refusals.{OrMemory}

-- what a source comes to: a refusal, an output, or, where no bytes are told, that it has what the command demands
pub data Outcome : Type 0 where
  Refused : Refusal → Outcome
  Complete : Outcome
  Writes : List ℕ → Outcome

-- One demand of a command: either it fails, and the source comes to a refusal that has its reason; or it holds for some value, and the
-- source comes to what the demands behind it come to for this value.
abbrev pub Demands : {A : Type 0} → (Refusal → Type 0) → (A → Type 0) → (A → Outcome → Type 0) → Outcome → Type 0
Demands {A} Fails Holds Behind outcome = ((refusal : Refusal) × (Fails refusal × (outcome ≡ Refused refusal))) ⊎ ((x : A) × (Holds x × Behind x outcome))

-- nothing more is demanded: the source is complete, and an output of this kind is written
abbrev pub Gives : (List ℕ → Type 0) → Outcome → Type 0
Gives Kind (Refused refusal) = ⊥
Gives Kind Complete = Unit {0}
Gives Kind (Writes output) = Kind output

-- the code answers what the source comes to: an output that is written, or a refusal that has its reason, or want of memory
abbrev pub Answered : {A : Type 0} → Result A Refusal → (A → List ℕ) → (Outcome → Type 0) → Type 0
Answered (Ok answer) bytes_of Comes = Comes (Writes (bytes_of answer))
Answered (Err refusal) bytes_of Comes = OrMemory (λ r. Comes (Refused r)) refusal
