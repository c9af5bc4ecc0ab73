-- What is counted over a ring's loop is counted turn by turn: so both runs have as many actions, and as many steps of
-- engines, where each turn with its own starts ahead has.
use Rattle.std.proofs.Common.{◌≡◌, ℕ, zero, suc, ◌+◌, ◌-◌, ◌<◌, List, [], ◌∷◌, ◌++◌, length, length-append, refl, sym, ap, ◌∙◌, arith, Bool, true, false}
use Rattle.std.specs.Prelude.{nat_le, if◌then◌else◌}
use Rattle.std.proofs.lemmas.Bool.{leb-true}
use Rattle.bus_model.specs.declared.transfer.Transfer.{Transfer}
use Rattle.direct_meaning.specs.Action.{Action}
use Rattle.step_runs.specs.Steps.{Step, first_list, second_list}
use Rattle.ring_runs.specs.Ring.{prologue, main_loop, epilogue, ring_loop}
use Rattle.ring_runs.proofs.Lists.{first-append, second-append}
use Rattle.ring_runs.proofs.Extras.{engine_steps_in}

-- g k + g (k + 1) and so on, r of them
abbrev pub summed : (ℕ → ℕ) → ℕ → ℕ → ℕ
summed g zero k = 0
summed g (suc r) k = g k + summed g r (suc k)

summed-append : (g : ℕ → ℕ) (n m k : ℕ) → summed g n k + summed g m (k + n) ≡ summed g (n + m) k
summed-append g zero m k = let e : k + 0 ≡ k = omega arith in let f : 0 + m ≡ m = omega arith in (λ i. 0 + summed g m (e i)) ∙ (let z : 0 + summed g m k ≡ summed g m k = omega arith in z) ∙ ap (λ n. summed g n k) (sym f)
summed-append g (suc n) m k =
    let e : k + suc n ≡ suc k + n = omega arith in
    let f : suc n + m ≡ suc (n + m) = omega arith in
    let s : summed g m (k + suc n) ≡ summed g m (suc k + n) = ap (summed g m) e in
    let r = summed-append g n m (suc k) in
    (let z : (g k + summed g n (suc k)) + summed g m (k + suc n) ≡ g k + summed g (n + m) (suc k) = omega (arith, s, r) in z) ∙ ap (λ n. summed g n k) (sym f)

summed-same : (g h : ℕ → ℕ) (r k : ℕ) → ((j : ℕ) → j < k + r → g j ≡ h j) → summed g r k ≡ summed h r k
summed-same g h zero k e = refl
summed-same g h (suc r) k e = λ i. e k (omega arith) i + summed-same g h r (suc k) (λ j lt. e j (omega (arith, lt))) i

summed-plus : (g h : ℕ → ℕ) (r k : ℕ) → summed g r k + summed h r k ≡ summed (λ j. g j + h j) r k
summed-plus g h zero k = refl
summed-plus g h (suc r) k = let e = summed-plus g h r (suc k) in omega (arith, e)

summed-later : (g : ℕ → ℕ) (lead r k : ℕ) → summed (λ j. g (j + lead)) r k ≡ summed g r (k + lead)
summed-later g lead zero k = refl
summed-later g lead (suc r) k = let e : suc k + lead ≡ suc (k + lead) = omega arith in λ i. g (k + lead) + (summed-later g lead r (suc k) ∙ ap (summed g r) e) i

-- anything that is added up over lists of steps
module _ (f : List Step → ℕ) (none : f [] ≡ 0) (adds : (xs ys : List Step) → f (xs ++ ys) ≡ f xs + f ys) (ahead turn : ℕ → List Step) (lead : ℕ) where
  of_prologue : (r k : ℕ) → f (prologue ahead turn lead r k) ≡ summed (λ j. f (ahead j)) r k
  of_prologue zero k = none
  of_prologue (suc r) k = adds (ahead k) (prologue ahead turn lead r (suc k)) ∙ ap (λ n. f (ahead k) + n) (of_prologue r (suc k))

  of_epilogue : (r k : ℕ) → f (epilogue ahead turn lead r k) ≡ summed (λ j. f (turn j)) r k
  of_epilogue zero k = none
  of_epilogue (suc r) k = adds (turn k) (epilogue ahead turn lead r (suc k)) ∙ ap (λ n. f (turn k) + n) (of_epilogue r (suc k))

  of_main : (r k : ℕ) → f (main_loop ahead turn lead r k) ≡ summed (λ j. f (ahead j)) r (k + lead) + summed (λ j. f (turn j)) r k
  of_main zero k = none
  of_main (suc r) k =
      let a = adds (ahead (k + lead)) (turn k ++ main_loop ahead turn lead r (suc k)) in
      let b = adds (turn k) (main_loop ahead turn lead r (suc k)) in
      let c = of_main r (suc k) in
      let e : suc k + lead ≡ suc (k + lead) = omega arith in
      let d = ap (summed (λ j. f (ahead j)) r) e in
      omega (arith, a, b, c, d)

  pub of_ring : (count : ℕ) → f (ring_loop ahead turn lead count) ≡ summed (λ j. f (ahead j) + f (turn j)) count 0
  of_ring count = by (nat_le lead count) refl ∙ summed-plus (λ j. f (ahead j)) (λ j. f (turn j)) count 0
    where
      by : (t : Bool) → nat_le lead count ≡ t
          → f (if t then prologue ahead turn lead lead 0 ++ (main_loop ahead turn lead (count - lead) 0 ++ epilogue ahead turn lead lead (count - lead)) else prologue ahead turn lead count 0 ++ epilogue ahead turn lead count 0)
          ≡ summed (λ j. f (ahead j)) count 0 + summed (λ j. f (turn j)) count 0
      by true t =
          let le = leb-true lead count t in
          let n = count - lead in
          let a = adds (prologue ahead turn lead lead 0) (main_loop ahead turn lead n 0 ++ epilogue ahead turn lead lead n) in
          let b = adds (main_loop ahead turn lead n 0) (epilogue ahead turn lead lead n) in
          let p = of_prologue lead 0 in
          let m = of_main n 0 in
          let q = of_epilogue lead n in
          let x = summed-append (λ j. f (ahead j)) lead n 0 ∙ ap (λ z. summed (λ j. f (ahead j)) z 0) (let e : lead + (count - lead) ≡ count = omega (arith, le) in e) in
          let y = ap (λ z. summed (λ j. f (turn j)) n 0 + summed (λ j. f (turn j)) lead z) (let e : n ≡ 0 + n = omega arith in e) ∙ summed-append (λ j. f (turn j)) n lead 0 ∙ ap (λ z. summed (λ j. f (turn j)) z 0) (let e : count - lead + lead ≡ count = omega (arith, le) in e) in
          omega (arith, a, b, p, m, q, x, y)
      by false t =
          let a = adds (prologue ahead turn lead count 0) (epilogue ahead turn lead count 0) in
          let p = of_prologue count 0 in
          let q = of_epilogue count 0 in
          omega (arith, a, p, q)

engine_steps-append : (xs ys : List Action) → engine_steps_in (xs ++ ys) ≡ engine_steps_in xs + engine_steps_in ys
engine_steps-append [] ys = let e : engine_steps_in ys ≡ 0 + engine_steps_in ys = omega arith in e
engine_steps-append (a ∷ xs) ys = let e = engine_steps-append xs ys in omega (arith, e)

-- as many actions, and as many steps of engines, in both runs
module _ (ring : ℕ → ℕ → Transfer) (ahead turn : ℕ → List Step) (lead count : ℕ) where
  pub same_actions : ((k : ℕ) → k < count → length (first_list ring (ahead k)) + length (first_list ring (turn k)) ≡ length (second_list ring (ahead k)) + length (second_list ring (turn k)))
      → length (first_list ring (ring_loop ahead turn lead count)) ≡ length (second_list ring (ring_loop ahead turn lead count))
  same_actions h =
      of_ring (λ xs. length (first_list ring xs)) refl (λ xs ys. ap length (first-append ring xs ys) ∙ length-append (first_list ring xs) (first_list ring ys)) ahead turn lead count
      ∙ summed-same _ _ count 0 (λ k lt. h k (omega (arith, lt)))
      ∙ sym (of_ring (λ xs. length (second_list ring xs)) refl (λ xs ys. ap length (second-append ring xs ys) ∙ length-append (second_list ring xs) (second_list ring ys)) ahead turn lead count)

  pub same_engine_steps : ((k : ℕ) → k < count → engine_steps_in (first_list ring (ahead k)) + engine_steps_in (first_list ring (turn k)) ≡ engine_steps_in (second_list ring (ahead k)) + engine_steps_in (second_list ring (turn k)))
      → engine_steps_in (first_list ring (ring_loop ahead turn lead count)) ≡ engine_steps_in (second_list ring (ring_loop ahead turn lead count))
  same_engine_steps h =
      of_ring (λ xs. engine_steps_in (first_list ring xs)) refl (λ xs ys. ap engine_steps_in (first-append ring xs ys) ∙ engine_steps-append (first_list ring xs) (first_list ring ys)) ahead turn lead count
      ∙ summed-same _ _ count 0 (λ k lt. h k (omega (arith, lt)))
      ∙ sym (of_ring (λ xs. engine_steps_in (second_list ring xs)) refl (λ xs ys. ap engine_steps_in (second-append ring xs ys) ∙ engine_steps-append (second_list ring xs) (second_list ring ys)) ahead turn lead count)
