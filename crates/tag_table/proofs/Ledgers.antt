-- What a step does to the ledger of the bus, where the state of one tag changes.
use Rattle.std.proofs.Common.{◌≡◌, ◌≢◌, ℕ, ℤ, pos, ◌+◌, ◌<◌, true, false, List, length, set, sym, refl, ap, ◌∙◌, subst, get_or-set_other, get_or-set_same}
use Rattle.std.specs.Prelude.{Option, Some, None}
use Rattle.bus_model.specs.Places.{slow_place}
use Rattle.bus_model.specs.Copies.{number_at}
use Rattle.bus_model.specs.Ledger.{Progress, Placed, Copied, Apart, Ledger}
use Rattle.bus_model.proofs.Ledgers.{ledger_keeps, ledger_in, ledger_out, ledger_store, ledger_start, ledger_drop}
use Rattle.tag_table.specs.Rule.{started_at, Phase, TagState, progress_of, slow_at}
use Rattle.tag_table.proofs.Tags.{put, at_put, progress_here, progress_else}
use Rattle.bus_model.specs.declared.transfer.Started.{Started}

abbrev pub BusLedger : ℕ → (ℕ → ℤ) → List ℤ → List (Option Started) → (ℕ → TagState) → Type 0
BusLedger n word prompt tags state = Ledger n word (number_at prompt) (started_at tags) (progress_of state)

-- nothing changes that the slow memory turns on
pub keeps_ledger : (n count : ℕ) (words words' : List ℕ) (prompt : List ℤ) (tags : List (Option Started)) (state state' : ℕ → TagState) → BusLedger n (slow_at count words) prompt tags state
    → ((i : ℕ) → i < n → slow_at count words' i ≡ slow_at count words i) → ((t : ℕ) → (state' t).moved ≡ (state t).moved) → ((t : ℕ) → (state' t).cells ≡ (state t).cells)
    → BusLedger n (slow_at count words') prompt tags state'
keeps_ledger n count words words' prompt tags state state' l same moved cells =
    ledger_keeps n (slow_at count words) (slow_at count words') (number_at prompt) (started_at tags) (progress_of state) (progress_of state') l same (λ t k. record { moved = moved t k; cells = cells t k })

-- a new state with the moved count and the cells of the old
pub same_moved : (f : ℕ → TagState) (t : ℕ) (x : TagState) → x.moved ≡ (f t).moved → (u : ℕ) → (put f t x u).moved ≡ (f u).moved
same_moved f t x e u = at_put f t x (λ q y. y.moved ≡ (f q).moved) u e (λ _. refl)

pub same_cells : (f : ℕ → TagState) (t : ℕ) (x : TagState) → x.cells ≡ (f t).cells → (u : ℕ) → (put f t x u).cells ≡ (f u).cells
same_cells f t x e u = at_put f t x (λ q y. y.cells ≡ (f q).cells) u e (λ _. refl)

-- the transfer of the started tag t moves one more element
module _ (n count : ℕ) (words words' : List ℕ) (prompt : List ℤ) (tags : List (Option Started)) (state : ℕ → TagState) (l : BusLedger n (slow_at count words) prompt tags state)
    (t : ℕ) (st : Started) (has : started_at tags t ≡ Some st) (m : ℕ) (is : (state t).moved ≡ m) (more : m < st.transfer.count) (ph : Phase) where
  more' : (progress_of state t).moved < st.transfer.count
  more' = subst (λ q. q < st.transfer.count) (sym is) more

  -- in: the cell becomes z, the number at the place
  pub bus_in : (z : ℤ) → st.transfer.incoming ≡ true → z ≡ slow_at count words (slow_place st.transfer m) → ((i : ℕ) → i < n → slow_at count words' i ≡ slow_at count words i)
      → BusLedger n (slow_at count words') prompt tags (put state t record { phase = ph; moved = m + 1; cells = set (state t).cells (st.transfer.offset + m) z })
  bus_in z inc zis same =
      let x : TagState = record { phase = ph; moved = m + 1; cells = set (state t).cells (st.transfer.offset + m) z } in
      let found = zis ∙ ap (λ q. slow_at count words (slow_place st.transfer q)) (sym is) in
      ledger_in n (slow_at count words) (slow_at count words') (number_at prompt) (started_at tags) (progress_of state) (progress_of (put state t x)) l t st has more' (progress_else state t x) inc same
      (progress_here state t x ∙ (λ k. record { moved = sym is k + 1; cells = set (state t).cells (st.transfer.offset + sym is k) (found k) }))

  -- out: the word at the place becomes the cell
  pub bus_out : st.transfer.incoming ≡ false → ((i : ℕ) → i < n → i ≢ slow_place st.transfer m → slow_at count words' i ≡ slow_at count words i)
      → slow_at count words' (slow_place st.transfer m) ≡ number_at (state t).cells (st.transfer.offset + m)
      → BusLedger n (slow_at count words') prompt tags (put state t record { phase = ph; moved = m + 1; cells = (state t).cells })
  bus_out out same now =
      let x : TagState = record { phase = ph; moved = m + 1; cells = (state t).cells } in
      ledger_out n (slow_at count words) (slow_at count words') (number_at prompt) (started_at tags) (progress_of state) (progress_of (put state t x)) l t st has more' (progress_else state t x) out
      (λ i lt ne. same i lt (λ e. ne (e ∙ ap (slow_place st.transfer) (sym is))))
      (subst (λ q. slow_at count words' (slow_place st.transfer q) ≡ number_at (state t).cells (st.transfer.offset + q)) (sym is) now)
      (progress_here state t x ∙ (λ k. record { moved = sym is k + 1; cells = (state t).cells }))

module _ (n count : ℕ) (words words' : List ℕ) (prompt : List ℤ) (tags : List (Option Started)) (state : ℕ → TagState) (l : BusLedger n (slow_at count words) prompt tags state) where
  -- a store by the compute thread
  pub bus_store : (i : ℕ) (z : ℤ) → i < length prompt → ((t e : ℕ) (st : Started) → started_at tags t ≡ Some st → e < st.transfer.count → slow_place st.transfer e ≢ i)
      → slow_at count words' i ≡ z → ((j : ℕ) → j ≢ i → slow_at count words' j ≡ slow_at count words j) → BusLedger n (slow_at count words') (set prompt i z) tags state
  bus_store i z near clear now same =
      ledger_store n (slow_at count words) (slow_at count words') (number_at prompt) (number_at (set prompt i z)) (started_at tags) (started_at tags) (progress_of state) (progress_of state) l i z clear now (get_or-set_same prompt i z (pos 0) near)
      same (λ j ne. get_or-set_other prompt i j z (pos 0) ne)

  -- a start
  pub bus_start : (prompt' : List ℤ) (t : ℕ) (st : Started) (x : TagState) → t < length tags → started_at tags t ≡ None → x.moved ≡ 0
      → ((i : ℕ) → i < n → slow_at count words' i ≡ slow_at count words i)
      → ((i : ℕ) → (st.transfer.incoming ≡ false → (e : ℕ) → e < st.transfer.count → slow_place st.transfer e ≢ i) → number_at prompt' i ≡ number_at prompt i)
      → Placed n st → Copied (number_at prompt') st record { moved = 0; cells = x.cells } → ((u : ℕ) (b : Started) → started_at tags u ≡ Some b → Apart st b)
      → BusLedger n (slow_at count words') prompt' (set tags t (Some st)) (put state t x)
  bus_start prompt' t st x lt idle zero_moved same_word same_prompt placed copied clear =
      ledger_start n (slow_at count words) (slow_at count words') (number_at prompt) (number_at prompt') (started_at tags) (started_at (set tags t (Some st))) (progress_of state) (progress_of (put state t x)) l t st idle
      (get_or-set_same tags t (Some st) None lt) (λ u ne. get_or-set_other tags t u (Some st) None ne)
      (ap (λ (p : Progress). p.moved) (progress_here state t x) ∙ zero_moved) (progress_else state t x) same_word same_prompt placed
      (subst (Copied (number_at prompt') st) (sym (progress_here state t x ∙ (λ k. record { moved = zero_moved k; cells = x.cells }))) copied) clear

  -- a wait for a transfer whose elements are all moved
  pub bus_drop : (t : ℕ) (st : Started) (x : TagState) → t < length tags → started_at tags t ≡ Some st → (state t).moved ≡ st.transfer.count → ((i : ℕ) → i < n → slow_at count words' i ≡ slow_at count words i)
      → BusLedger n (slow_at count words') prompt (set tags t None) (put state t x)
  bus_drop t st x lt has all same_word =
      ledger_drop n (slow_at count words) (slow_at count words') (number_at prompt) (number_at prompt) (started_at tags) (started_at (set tags t None)) (progress_of state) (progress_of (put state t x)) l t st has all
      (get_or-set_same tags t None None lt) (λ u ne. get_or-set_other tags t u None None ne) (progress_else state t x) same_word
