-- What each run does in a loop that goes round a ring, turn by turn.
use Rattle.std.proofs.Common.{◌≡◌, ℕ, zero, suc, ◌+◌, ◌*◌, ◌-◌, ◌<◌, ◌≤◌, ℤ, pos, ◌+ℤ◌, List, [], ◌∷◌, ◌++◌, refl, sym, ap, ◌∙◌, subst, arith, Bool, true, false}
use Rattle.std.specs.Prelude.{flat_map, nat_le, if◌then◌else◌}
use Rattle.std.proofs.lemmas.Int.{ints}
use Rattle.std.proofs.lemmas.List.{append_assoc}
use Rattle.std.proofs.lemmas.Bool.{leb-true}
use Rattle.bus_model.specs.declared.transfer.Transfer.{Transfer}
use Rattle.direct_meaning.specs.Turns.{turns}
use Rattle.direct_meaning.specs.Action.{Action}
use Rattle.direct_meaning.specs.Direct.{folded}
use Rattle.prompt_semantics.specs.Device.{Device}
use Rattle.prompt_semantics.specs.Prompt.{prompt_step}
use Rattle.step_runs.specs.Stage.{Stage}
use Rattle.step_runs.specs.Steps.{Step, first_of, second_of, first_list, second_list}
use Rattle.step_runs.specs.Related.{Related, Ends}
use Rattle.ring_runs.specs.Ring.{none_out, window, prologue, main_loop, epilogue, ring_loop, IsRing}
use Rattle.loop_forms.specs.Split.{prologue_end, main_end, epilogue_begin}
use Rattle.loop_forms.specs.Stepped.{stepped, turn_total}
use Rattle.loop_forms.proofs.Cut.{all_turns}
use Rattle.step_runs.proofs.Run.{steps_run}
use Rattle.ring_runs.proofs.Ring.{ring_goes}
use Rattle.ring_runs.proofs.Cut.{prologue_turns, main_turns, epilogue_turns}

module _ (ring : ℕ → ℕ → Transfer) where
  pub first-append : (xs ys : List Step) → first_list ring (xs ++ ys) ≡ first_list ring xs ++ first_list ring ys
  first-append [] ys = refl
  first-append (x ∷ xs) ys = ap (λ l. first_of ring x ++ l) (first-append xs ys) ∙ sym (append_assoc (first_of ring x) (first_list ring xs) (first_list ring ys))

  pub second-append : (xs ys : List Step) → second_list ring (xs ++ ys) ≡ second_list ring xs ++ second_list ring ys
  second-append [] ys = refl
  second-append (x ∷ xs) ys = ap (λ l. second_of ring x ++ l) (second-append xs ys) ∙ sym (append_assoc (second_of ring x) (second_list ring xs) (second_list ring ys))

  module _ (ahead turn : ℕ → List Step) (lead : ℕ) (a : ℤ) (s : ℕ) where
    -- where turn number k is
    abbrev turn_at : ℕ → ℤ
    turn_at k = a +ℤ pos (k * s)

    next_at : (k : ℕ) → turn_at k +ℤ pos s ≡ turn_at (suc k)
    next_at k = let e : suc k * s ≡ s + k * s = grind arith in omega (arith, ints, e)

    -- a run that does nothing where the second starts ahead
    module _ (of : List Step → List Action) (of-append : (xs ys : List Step) → of (xs ++ ys) ≡ of xs ++ of ys) (of-none : of [] ≡ []) (still : (j : ℕ) → of (ahead j) ≡ []) (single : ℤ → List Action) where
      no_starts : (r k : ℕ) → of (prologue ahead turn lead r k) ≡ []
      no_starts zero k = of-none
      no_starts (suc r) k = of-append (ahead k) (prologue ahead turn lead r (suc k)) ∙ (λ i. still k i ++ no_starts r (suc k) i)

      only_main : (r k : ℕ) → ((j : ℕ) → j < k + r → of (turn j) ≡ single (turn_at j)) → of (main_loop ahead turn lead r k) ≡ flat_map single (stepped (turn_at k) (pos s) r)
      only_main zero k h = of-none
      only_main (suc r) k h =
          of-append (ahead (k + lead)) (turn k ++ main_loop ahead turn lead r (suc k))
          ∙ ap (λ l. l ++ of (turn k ++ main_loop ahead turn lead r (suc k))) (still (k + lead))
          ∙ of-append (turn k) (main_loop ahead turn lead r (suc k))
          ∙ (λ i. h k (omega arith) i ++ only_main r (suc k) (λ j lt. h j (omega (arith, lt))) i)
          ∙ ap (λ z. single (turn_at k) ++ flat_map single (stepped z (pos s) r)) (sym (next_at k))

      only_end : (r k : ℕ) → ((j : ℕ) → j < k + r → of (turn j) ≡ single (turn_at j)) → of (epilogue ahead turn lead r k) ≡ flat_map single (stepped (turn_at k) (pos s) r)
      only_end zero k h = of-none
      only_end (suc r) k h =
          of-append (turn k) (epilogue ahead turn lead r (suc k))
          ∙ (λ i. h k (omega arith) i ++ only_end r (suc k) (λ j lt. h j (omega (arith, lt))) i)
          ∙ ap (λ z. single (turn_at k) ++ flat_map single (stepped z (pos s) r)) (sym (next_at k))

    -- numbers in two parts
    parts : (single : ℤ → List Action) (n m k : ℕ) → flat_map single (stepped (turn_at k) (pos s) n) ++ flat_map single (stepped (turn_at (k + n)) (pos s) m) ≡ flat_map single (stepped (turn_at k) (pos s) (n + m))
    parts single zero m k = let e : k + 0 ≡ k = omega arith in let f : 0 + m ≡ m = omega arith in λ i. flat_map single (stepped (turn_at (e i)) (pos s) (sym f i))
    parts single (suc n) m k =
        let e : k + suc n ≡ suc k + n = omega arith in
        let f : suc n + m ≡ suc (n + m) = omega arith in
        append_assoc (single (turn_at k)) (flat_map single (stepped (turn_at k +ℤ pos s) (pos s) n)) (flat_map single (stepped (turn_at (k + suc n)) (pos s) m))
        ∙ (λ i. single (turn_at k) ++ (flat_map single (stepped (next_at k i) (pos s) n) ++ flat_map single (stepped (turn_at (e i)) (pos s) m)))
        ∙ ap (λ l. single (turn_at k) ++ l) (parts single n m (suc k))
        ∙ ap (λ z. single (turn_at k) ++ flat_map single (stepped z (pos s) (n + m))) (sym (next_at k))
        ∙ ap (λ n. flat_map single (stepped (turn_at k) (pos s) n)) (sym f)

    second_start : (starts : ℤ → List Action) (r k : ℕ) → ((j : ℕ) → j < k + r → second_list ring (ahead j) ≡ starts (turn_at j)) → second_list ring (prologue ahead turn lead r k) ≡ flat_map starts (stepped (turn_at k) (pos s) r)
    second_start starts zero k h = refl
    second_start starts (suc r) k h =
        second-append (ahead k) (prologue ahead turn lead r (suc k))
        ∙ (λ i. h k (omega arith) i ++ second_start starts r (suc k) (λ j lt. h j (omega (arith, lt))) i)
        ∙ ap (λ z. starts (turn_at k) ++ flat_map starts (stepped z (pos s) r)) (sym (next_at k))

    second_main : (main : ℤ → List Action) (r k : ℕ) → ((j : ℕ) → j < k + r → second_list ring (ahead (j + lead)) ++ second_list ring (turn j) ≡ main (turn_at j))
        → second_list ring (main_loop ahead turn lead r k) ≡ flat_map main (stepped (turn_at k) (pos s) r)
    second_main main zero k h = refl
    second_main main (suc r) k h =
        second-append (ahead (k + lead)) (turn k ++ main_loop ahead turn lead r (suc k))
        ∙ ap (λ l. second_list ring (ahead (k + lead)) ++ l) (second-append (turn k) (main_loop ahead turn lead r (suc k)))
        ∙ sym (append_assoc (second_list ring (ahead (k + lead))) (second_list ring (turn k)) (second_list ring (main_loop ahead turn lead r (suc k))))
        ∙ (λ i. h k (omega arith) i ++ second_main main r (suc k) (λ j lt. h j (omega (arith, lt))) i)
        ∙ ap (λ z. main (turn_at k) ++ flat_map main (stepped z (pos s) r)) (sym (next_at k))

    second_end : (last : ℤ → List Action) (r k : ℕ) → ((j : ℕ) → k ≤ j → j < k + r → second_list ring (turn j) ≡ last (turn_at j)) → second_list ring (epilogue ahead turn lead r k) ≡ flat_map last (stepped (turn_at k) (pos s) r)
    second_end last zero k h = refl
    second_end last (suc r) k h =
        second-append (turn k) (epilogue ahead turn lead r (suc k))
        ∙ (λ i. h k (omega arith) (omega arith) i ++ second_end last r (suc k) (λ j low lt. h j (omega (arith, low)) (omega (arith, lt))) i)
        ∙ ap (λ z. last (turn_at k) ++ flat_map last (stepped z (pos s) r)) (sym (next_at k))

-- the loop from a to b by s
module _ (ring : ℕ → ℕ → Transfer) (ahead turn : ℕ → List Step) (lead : ℕ) (a b : ℤ) (s : ℕ) (positive : 1 ≤ s) (some : 1 ≤ lead) where
  abbrev count : ℕ
  count = turn_total a b s

  abbrev spot : ℕ → ℤ
  spot k = a +ℤ pos (k * s)

  at_zero : spot 0 ≡ a
  at_zero = let e : 0 * s ≡ 0 = omega arith in omega (arith, ints, e)

  -- a run that does nothing where the second starts ahead does its turns, one after the other
  ring_only : (of : List Step → List Action) → ((xs ys : List Step) → of (xs ++ ys) ≡ of xs ++ of ys) → of [] ≡ [] → (single : ℤ → List Action) → ((j : ℕ) → of (ahead j) ≡ []) → ((k : ℕ) → k < count → of (turn k) ≡ single (spot k))
      → of (ring_loop ahead turn lead count) ≡ flat_map single (turns a b (pos s))
  ring_only of of-append of-none single still h = by (nat_le lead count) refl ∙ ap (flat_map single) (ap (λ z. stepped z (pos s) count) at_zero ∙ sym (all_turns a b s positive))
    where
      by : (t : Bool) → nat_le lead count ≡ t
          → of (if t then prologue ahead turn lead lead 0 ++ (main_loop ahead turn lead (count - lead) 0 ++ epilogue ahead turn lead lead (count - lead)) else prologue ahead turn lead count 0 ++ epilogue ahead turn lead count 0)
          ≡ flat_map single (stepped (spot 0) (pos s) count)
      by true t =
          let le = leb-true lead count t in
          let whole : count - lead + lead ≡ count = omega (arith, le) in
          of-append (prologue ahead turn lead lead 0) (main_loop ahead turn lead (count - lead) 0 ++ epilogue ahead turn lead lead (count - lead))
          ∙ ap (λ l. l ++ of (main_loop ahead turn lead (count - lead) 0 ++ epilogue ahead turn lead lead (count - lead))) (no_starts ring ahead turn lead a s of of-append of-none still single lead 0)
          ∙ of-append (main_loop ahead turn lead (count - lead) 0) (epilogue ahead turn lead lead (count - lead))
          ∙ (λ i. only_main ring ahead turn lead a s of of-append of-none still single (count - lead) 0 (λ j lt. h j (omega (arith, lt))) i ++ only_end ring ahead turn lead a s of of-append of-none still single lead (count - lead) (λ j lt. h j (omega (arith, lt, whole))) i)
          ∙ ap (λ n. flat_map single (stepped (spot 0) (pos s) (count - lead)) ++ flat_map single (stepped (spot n) (pos s) lead)) (let e : count - lead ≡ 0 + (count - lead) = omega arith in e)
          ∙ parts ring ahead turn lead a s single (count - lead) lead 0
          ∙ ap (λ n. flat_map single (stepped (spot 0) (pos s) n)) whole
      by false t =
          of-append (prologue ahead turn lead count 0) (epilogue ahead turn lead count 0)
          ∙ ap (λ l. l ++ of (epilogue ahead turn lead count 0)) (no_starts ring ahead turn lead a s of of-append of-none still single count 0)
          ∙ only_end ring ahead turn lead a s of of-append of-none still single count 0 (λ j lt. h j (omega (arith, lt)))

  -- so does the first run
  pub ring_first : (single : ℤ → List Action) → ((j : ℕ) → first_list ring (ahead j) ≡ []) → ((k : ℕ) → k < count → first_list ring (turn k) ≡ single (spot k))
      → first_list ring (ring_loop ahead turn lead count) ≡ flat_map single (turns a b (pos s))
  ring_first = ring_only (first_list ring) (first-append ring) refl

  -- and the second, where no placement is inward: the loop stays one loop
  pub ring_outward : (body : ℤ → List Action) → ((j : ℕ) → second_list ring (ahead j) ≡ []) → ((k : ℕ) → k < count → second_list ring (turn k) ≡ body (spot k))
      → second_list ring (ring_loop ahead turn lead count) ≡ flat_map body (turns a b (pos s))
  ring_outward = ring_only (second_list ring) (second-append ring) refl

  -- the second one: the starts of the first turns; all turns but the last, each with the starts of a later one; the last turns
  pub ring_second : (starts main last : ℤ → List Action)
      → ((j : ℕ) → j < lead → j < count → second_list ring (ahead j) ≡ starts (spot j))
      → ((k : ℕ) → k + lead < count → second_list ring (ahead (k + lead)) ++ second_list ring (turn k) ≡ main (spot k))
      → ((k : ℕ) → count ≤ k + lead → k < count → second_list ring (turn k) ≡ last (spot k))
      → second_list ring (ring_loop ahead turn lead count)
      ≡ flat_map starts (turns a (prologue_end a b (pos s) (suc lead)) (pos s)) ++ (flat_map main (turns a (main_end b (pos s) (suc lead)) (pos s)) ++ flat_map last (turns (epilogue_begin a b (pos s) (suc lead)) b (pos s)))
  ring_second starts main last h k l =
      by (nat_le lead count) refl
      ∙ (λ i. flat_map starts (sym (prologue_turns a b s lead positive some) i) ++ (flat_map main (sym (main_turns a b s lead positive some) i) ++ flat_map last (sym (epilogue_turns a b s lead positive some) i)))
    where
      by : (t : Bool) → nat_le lead count ≡ t
          → second_list ring (if t then prologue ahead turn lead lead 0 ++ (main_loop ahead turn lead (count - lead) 0 ++ epilogue ahead turn lead lead (count - lead)) else prologue ahead turn lead count 0 ++ epilogue ahead turn lead count 0)
          ≡ flat_map starts (stepped a (pos s) (if t then lead else count)) ++ (flat_map main (stepped a (pos s) (count - lead)) ++ flat_map last (if t then stepped (spot (count - lead)) (pos s) lead else stepped a (pos s) count))
      by true t =
          let le = leb-true lead count t in
          let whole : count - lead + lead ≡ count = omega (arith, le) in
          second-append ring (prologue ahead turn lead lead 0) (main_loop ahead turn lead (count - lead) 0 ++ epilogue ahead turn lead lead (count - lead))
          ∙ ap (λ l. second_list ring (prologue ahead turn lead lead 0) ++ l) (second-append ring (main_loop ahead turn lead (count - lead) 0) (epilogue ahead turn lead lead (count - lead)))
          ∙ (λ i. second_start ring ahead turn lead a s starts lead 0 (λ j lt. h j (omega (arith, lt)) (omega (arith, lt, le))) i
          ++ (second_main ring ahead turn lead a s main (count - lead) 0 (λ j lt. k j (omega (arith, lt))) i
          ++ second_end ring ahead turn lead a s last lead (count - lead) (λ j low lt. l j (omega (arith, low)) (omega (arith, lt, whole))) i))
          ∙ (λ i. flat_map starts (stepped (at_zero i) (pos s) lead) ++ (flat_map main (stepped (at_zero i) (pos s) (count - lead)) ++ flat_map last (stepped (spot (count - lead)) (pos s) lead)))
      by false t =
          let less : count < lead = grind (arith, t) in
          let none : count - lead ≡ 0 = omega (arith, less) in
          second-append ring (prologue ahead turn lead count 0) (epilogue ahead turn lead count 0)
          ∙ (λ i. second_start ring ahead turn lead a s starts count 0 (λ j lt. h j (omega (arith, lt, less)) (omega (arith, lt))) i
          ++ second_end ring ahead turn lead a s last count 0 (λ j low lt. l j (omega (arith, less)) (omega (arith, lt))) i)
          ∙ (λ i. flat_map starts (stepped (at_zero i) (pos s) count) ++ flat_map last (stepped (at_zero i) (pos s) count))
          ∙ ap (λ n. flat_map starts (stepped a (pos s) count) ++ (flat_map main (stepped a (pos s) n) ++ flat_map last (stepped a (pos s) count))) (sym none)

-- the theorem on a loop: its run, all turns single, and its run round the ring
module _ (ring : ℕ → ℕ → Transfer) (filler : ℤ) (small large : ℕ) (inward outward : ℕ → Bool) (lead : ℕ) (base : ℕ → Stage) (ahead turn : ℕ → List Step) (a b : ℤ) (s : ℕ) where
  abbrev total : ℕ
  total = turn_total a b s

  abbrev here : ℕ → ℤ
  here k = a +ℤ pos (k * s)

  pub ring_run : (single starts main last : ℤ → List Action) → 1 ≤ s → 1 ≤ lead
      → IsRing large ring inward outward lead total base ahead turn
      → ((j : ℕ) → first_list ring (ahead j) ≡ []) → ((k : ℕ) → k < total → first_list ring (turn k) ≡ single (here k))
      → ((j : ℕ) → j < lead → j < total → second_list ring (ahead j) ≡ starts (here j))
      → ((k : ℕ) → k + lead < total → second_list ring (ahead (k + lead)) ++ second_list ring (turn k) ≡ main (here k))
      → ((k : ℕ) → total ≤ k + lead → k < total → second_list ring (turn k) ≡ last (here k))
      → (d y : Device) → Related ring (record (base 0) { out = none_out }) d y
      → Ends (Related ring (record (base total) { out = window inward outward (suc lead) total total }))
      (folded (prompt_step filler small) (flat_map single (turns a b (pos s))) d)
      (folded (prompt_step filler large) (flat_map starts (turns a (prologue_end a b (pos s) (suc lead)) (pos s)) ++ (flat_map main (turns a (main_end b (pos s) (suc lead)) (pos s)) ++ flat_map last (turns (epilogue_begin a b (pos s) (suc lead)) b (pos s)))) y)
  ring_run single starts main last positive some keeps still firsts heads mains lasts d y h =
      let goes = ring_goes large ring inward outward lead total base ahead turn keeps in
      let run = steps_run ring filler small large (ring_loop ahead turn lead total) (record (base 0) { out = none_out }) d y goes.0 h in
      subst (λ xs. Ends (Related ring (record (base total) { out = window inward outward (suc lead) total total })) (folded (prompt_step filler small) xs d) (folded (prompt_step filler large) (flat_map starts (turns a (prologue_end a b (pos s) (suc lead)) (pos s)) ++ (flat_map main (turns a (main_end b (pos s) (suc lead)) (pos s)) ++ flat_map last (turns (epilogue_begin a b (pos s) (suc lead)) b (pos s)))) y))
      (ring_first ring ahead turn lead a b s positive some single still firsts)
      (subst (λ xs. Ends (Related ring (record (base total) { out = window inward outward (suc lead) total total })) (folded (prompt_step filler small) (first_list ring (ring_loop ahead turn lead total)) d) (folded (prompt_step filler large) xs y))
      (ring_second ring ahead turn lead a b s positive some starts main last heads mains lasts)
      (subst (λ s. Ends (Related ring s) (folded (prompt_step filler small) (first_list ring (ring_loop ahead turn lead total)) d) (folded (prompt_step filler large) (second_list ring (ring_loop ahead turn lead total)) y)) goes.1 run))
