-- How a memory whose transfers are under way agrees with the prompt memory, in which each transfer was copied at its start.
-- Both memories, the started transfers and how far each has come are functions of numbers, so that a list, a row of words
-- and a table of tags serve alike. A transfer goes by its tag.
use Rattle.std.specs.Prelude.{◌≡◌, ◌≢◌, ◌⊎◌, ◌↔◌, ℕ, ℤ, ◌+◌, ◌<◌, ◌≤◌, true, false, List, length, Option, Some}
use Rattle.bus_model.specs.declared.transfer.Started.{Started}
use Rattle.bus_model.specs.Places.{slow_place}
use Rattle.bus_model.specs.Copies.{number_at}

-- how many elements are moved, and the half's cells as they stand
pub record Progress : Type 0 where
  pub moved : ℕ
  pub cells : List ℤ

-- the places lie within n slow words, no two elements share one, and the cells lie within the half
pub record Placed (n : ℕ) (st : Started) : Type 0 where
  pub within : (e : ℕ) → e < st.transfer.count → slow_place st.transfer e < n
  pub distinct : (e f : ℕ) → e < st.transfer.count → f < st.transfer.count → slow_place st.transfer e ≡ slow_place st.transfer f → e ≡ f
  pub inside : st.transfer.offset + st.transfer.count ≤ length st.list
  pub some_chunk : 1 ≤ st.transfer.chunk

-- the prompt memory has at each element's slow place that element's cell of the prompt list. The cells as they stand are
-- that list, but for the elements that are still to be moved in
pub record Copied (prompt : ℕ → ℤ) (st : Started) (p : Progress) : Type 0 where
  pub prompt_is : (e : ℕ) → e < st.transfer.count → prompt (slow_place st.transfer e) ≡ number_at st.list (st.transfer.offset + e)
  pub long : length p.cells ≡ length st.list
  pub cells_are : (k : ℕ) → (st.transfer.incoming ≡ true → (k < st.transfer.offset + p.moved) ⊎ (st.transfer.offset + st.transfer.count ≤ k)) → number_at p.cells k ≡ number_at st.list k
  pub not_past : p.moved ≤ st.transfer.count

-- two transfers of which one writes slow memory share no slow place
abbrev pub Apart : Started → Started → Type 0
Apart a b = (a.transfer.incoming ≡ false) ⊎ (b.transfer.incoming ≡ false) → (e f : ℕ) → e < a.transfer.count → f < b.transfer.count → slow_place a.transfer e ≢ slow_place b.transfer f

-- no element of an outgoing transfer that is still to be moved lies at the place i
abbrev pub NotPending : (ℕ → Option Started) → (ℕ → Progress) → ℕ → Type 0
NotPending has at i = (t e : ℕ) (st : Started) → has t ≡ Some st → st.transfer.incoming ≡ false → (at t).moved ≤ e → e < st.transfer.count → slow_place st.transfer e ≢ i

-- n slow places: `word i` is what the memory has at i, `prompt i` what the prompt memory has there
pub record Ledger (n : ℕ) (word prompt : ℕ → ℤ) (has : ℕ → Option Started) (at : ℕ → Progress) : Type 0 where
  pub words_are : (i : ℕ) → i < n → NotPending has at i → word i ≡ prompt i
  pub placed : (t : ℕ) (st : Started) → has t ≡ Some st → Placed n st
  pub copied : (t : ℕ) (st : Started) → has t ≡ Some st → Copied prompt st (at t)
  pub apart : (t u : ℕ) (a b : Started) → t ≢ u → has t ≡ Some a → has u ≡ Some b → Apart a b

-- the halves of fast memory: `away m h` is the tag with which the half h of the memref m is away, or none. A half is away
-- exactly where a started transfer names it
abbrev pub HalvesAway : (ℕ → ℕ → Option ℕ) → (ℕ → Option Started) → Type 0
HalvesAway away has = (m h t : ℕ) → (away m h ≡ Some t) ↔ ((st : Started) × (has t ≡ Some st) × (st.transfer.fast ≡ m) × (st.transfer.half ≡ h))
