-- The actions that stand before and behind a placement's loop: copy loops, or transfers with a wait each.
use Rattle.std.specs.Prelude.{◌≡◌, ℕ, zero, suc, ◌<◌, Bool, true, false, List, [], ◌∷◌, ◌++◌, if◌then◌else◌}
use Rattle.affine_ast.specs.declared.name.Name.{Name}
use Rattle.affine_ast.specs.declared.types.Element.{Element}
use Rattle.bus_model.specs.declared.transfer.Transfer.{Transfer}
use Rattle.bus_model.specs.Places.{slow_place}
use Rattle.direct_meaning.specs.Action.{Slow, Fast, Register, Action, Loads, Stores, Allocates, Releases, AllocatesTags, ReleasesTags, Starts, Waits}
use Rattle.box_run_laws.specs.Boxes.{Half}
use Rattle.box_run_laws.specs.Parts.{Brackets}

-- two actions for each number from k on
abbrev pub pairs : (ℕ → Action) → (ℕ → Action) → ℕ → ℕ → List Action
pairs a b zero k = []
pairs a b (suc r) k = a k ∷ b k ∷ pairs a b r (suc k)

abbrev pub copies_in : Name → Half → (ℕ → ℕ) → List Action
copies_in v b place = pairs (λ k. Loads v (Slow (place k)))
    (λ k. Stores (Register v) (Fast b.number b.half k)) b.count 0

abbrev pub copies_out : Name → Half → (ℕ → ℕ) → List Action
copies_out v b place = pairs (λ k. Loads v (Fast b.number b.half k))
    (λ k. Stores (Register v) (Slow (place k))) b.count 0

-- copy loops, by the names of the values that are copied in and out
abbrev pub by_copies : Half → Element → List ℕ → Name → Name → Brackets
by_copies b element sizes v w = record {
  before = λ place. Allocates b.number element sizes ∷ (if b.reads then copies_in v b place else []);
  behind = λ place. (if b.writes then copies_out w b place else []) ++ Releases b.number element sizes ∷ [];
}

-- what the transfers of a placement have alike: the slow memref's number, how the elements lie, and the tag
pub record Carrier : Type 0 where
  pub memref : ℕ
  pub stride : ℕ
  pub chunk : ℕ
  pub tag : ℕ

-- the transfer of a box, from the slow place of its first cell on
abbrev pub carrying : Half → Carrier → Bool → (ℕ → ℕ) → Transfer
carrying b c incoming place = record {
  incoming = incoming;
  tag = c.tag;
  memref = c.memref;
  base = place 0;
  stride = c.stride;
  chunk = c.chunk;
  count = b.count;
  fast = b.number;
  half = b.half;
  offset = 0;
}

-- the transfer carries the cells of the box, each to or from its own place
abbrev pub Carries : Half → Carrier → (ℕ → ℕ) → Type 0
Carries b c place = (e : ℕ) → e < b.count → slow_place (carrying b c true place) e ≡ place e

abbrev pub by_transfers : Half → Element → List ℕ → Carrier → Brackets
by_transfers b element sizes c = record {
  before = λ place. Allocates b.number element sizes ∷ AllocatesTags c.tag 1
      ∷ (if b.reads then Starts (carrying b c true place) ∷ Waits c.tag b.count ∷ [] else []);
  behind = λ place. (if b.writes then Starts (carrying b c false place) ∷ Waits c.tag b.count ∷ [] else [])
      ++ Releases b.number element sizes ∷ ReleasesTags c.tag 1 ∷ [];
}
