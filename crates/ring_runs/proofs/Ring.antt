-- A loop that goes round a ring is allowed throughout where each of its turns is by itself.
use Rattle.std.proofs.Common.{◌≡◌, ◌≢◌, ◌⊎◌, inl, inr, ℕ, zero, suc, ◌+◌, ◌-◌, ◌<◌, ◌≤◌, List, ◌++◌, refl, sym, ap, ◌∙◌, subst, arith, Bool, true, false}
use mathlib.Core.Path.{fun_ext}
use Rattle.std.specs.Prelude.{◌&&◌, ◌||◌, nat_eq, nat_lt, nat_le, if◌then◌else◌}
use Rattle.std.proofs.lemmas.Bool.{eqb-true, eqb-false, and_parts, le-leb, leb-true, lt-ltb, ltb-true}
use Rattle.bus_model.specs.declared.transfer.Transfer.{Transfer}
use Rattle.step_runs.specs.Stage.{Stage}
use Rattle.step_runs.specs.Steps.{Step, behind, Goes, AvoidsAll}
use Rattle.step_runs.specs.Frame.{either_out, with_more}
use Rattle.ring_runs.specs.Ring.{none_out, window, entry, leave, further, news, prologue, main_loop, epilogue, ring_loop, IsRing}
use Rattle.step_runs.proofs.Frame.{or_cases, framed, Leads, leads-append}

-- ---- windows
not_lt : (a b : ℕ) → b ≤ a → nat_lt a b ≡ false
not_lt a b h = grind (arith, h)

not_le : (a b : ℕ) → b < a → nat_le a b ≡ false
not_le a b h = grind (arith, h)

less_more : (j e : ℕ) → nat_lt j (suc e) ≡ (nat_eq e j || nat_lt j e)
less_more j e = by (nat_eq e j) refl
  where
    by : (b : Bool) → nat_eq e j ≡ b → nat_lt j (suc e) ≡ (b || nat_lt j e)
    by true b = let k = eqb-true e j b in lt-ltb j (suc e) (omega (arith, k))
    by false b =
        let ne = eqb-false e j b in at (nat_lt j e) refl ne
      where
        at : (t : Bool) → nat_lt j e ≡ t → e ≢ j → nat_lt j (suc e) ≡ nat_lt j e
        at true t ne = let lt = ltb-true j e t in lt-ltb j (suc e) (omega (arith, lt)) ∙ sym t
        at false t ne =
            let ge : e ≤ j = grind (arith, t) in
            not_lt j (suc e) (omega (arith, ge, ne)) ∙ sym t

le_more : (k j : ℕ) → nat_le k j ≡ (nat_eq k j || nat_lt k j)
le_more k j = by (nat_eq k j) refl
  where
    by : (b : Bool) → nat_eq k j ≡ b → nat_le k j ≡ (b || nat_lt k j)
    by true b = let e = eqb-true k j b in le-leb k j (omega (arith, e))
    by false b =
        let ne = eqb-false k j b in at (nat_lt k j) refl ne
      where
        at : (t : Bool) → nat_lt k j ≡ t → k ≢ j → nat_le k j ≡ nat_lt k j
        at true t ne = let lt = ltb-true k j t in le-leb k j (omega (arith, lt)) ∙ sym t
        at false t ne =
            let ge : j ≤ k = grind (arith, t) in
            not_le k j (omega (arith, ge, ne)) ∙ sym t

module _ (inward outward : ℕ → Bool) (places : ℕ) (some : 1 ≤ places) where
  -- the starts of one more turn
  window_more : (k e : ℕ) → k ≤ e → either_out (window inward outward places k e) (news inward outward places e) ≡ window inward outward places k (suc e)
  window_more k e h = fun_ext (λ i. fun_ext (λ j. by i j (nat_eq e j) refl))
    where
      regroup : (a x y o : Bool) → ((a && x) || ((a && y) || o)) ≡ ((a && (x || y)) || o)
      regroup true true y o = refl
      regroup true false y o = refl
      regroup false x y o = refl

      by : (i j : ℕ) (b : Bool) → nat_eq e j ≡ b → either_out (window inward outward places k e) (news inward outward places e) i j ≡ window inward outward places k (suc e) i j
      by i j b eq =
          regroup (inward i) (nat_eq e j) (nat_le k j && nat_lt j e) (outward i && (nat_lt j k && nat_le k (j + places)))
          ∙ ap (λ x. (inward i && x) || (outward i && (nat_lt j k && nat_le k (j + places)))) (inner b eq)
        where
          inner : (b : Bool) → nat_eq e j ≡ b → (nat_eq e j || (nat_le k j && nat_lt j e)) ≡ (nat_le k j && nat_lt j (suc e))
          inner true b =
              let same = eqb-true e j b in
              let low : nat_le k j ≡ true = le-leb k j (omega (arith, h, same)) in
              let high : nat_lt j (suc e) ≡ true = lt-ltb j (suc e) (omega (arith, same)) in
              ap (λ x. x || (nat_le k j && nat_lt j e)) b ∙ sym (λ i. low i && high i)
          inner false b =
              ap (λ x. x || (nat_le k j && nat_lt j e)) b ∙ ap (λ x. nat_le k j && x) (sym (less_more j e ∙ ap (λ x. x || nat_lt j e) b))

  -- what a turn waits for, and what goes on
  window_entry : (k e : ℕ) → k < e → either_out (further inward outward places k e) (entry inward outward places k) ≡ window inward outward places k e
  window_entry k e h = fun_ext (λ i. fun_ext (λ j. by i j))
    where
      regroup : (a x y b z w : Bool) → (((a && x) || (b && z)) || ((a && y) || (b && w))) ≡ ((a && (x || y)) || (b && (z || w)))
      regroup true true y true z w = refl
      regroup true true y false z w = refl
      regroup true false true true true w = refl
      regroup true false true true false w = refl
      regroup true false true false z w = refl
      regroup true false false true z w = refl
      regroup true false false false z w = refl
      regroup false x y true z w = refl
      regroup false x y false z w = refl

      by : (i j : ℕ) → either_out (further inward outward places k e) (entry inward outward places k) i j ≡ window inward outward places k e i j
      by i j =
          regroup (inward i) (nat_eq k j) (nat_lt k j && nat_lt j e) (outward i) (nat_eq k (j + places)) (nat_lt j k && nat_lt k (j + places))
          ∙ (λ x. (inward i && inner (nat_eq k j) refl x) || (outward i && outer (nat_eq k (j + places)) refl x))
        where
          inner : (b : Bool) → nat_eq k j ≡ b → (nat_eq k j || (nat_lt k j && nat_lt j e)) ≡ (nat_le k j && nat_lt j e)
          inner true b =
              let same = eqb-true k j b in
              let low : nat_le k j ≡ true = le-leb k j (omega (arith, same)) in
              let high : nat_lt j e ≡ true = lt-ltb j e (omega (arith, same, h)) in
              ap (λ x. x || (nat_lt k j && nat_lt j e)) b ∙ sym (λ i. low i && high i)
          inner false b = ap (λ x. x || (nat_lt k j && nat_lt j e)) b ∙ ap (λ x. x && nat_lt j e) (sym (le_more k j ∙ ap (λ x. x || nat_lt k j) b))

          outer : (b : Bool) → nat_eq k (j + places) ≡ b → (nat_eq k (j + places) || (nat_lt j k && nat_lt k (j + places))) ≡ (nat_lt j k && nat_le k (j + places))
          outer true b =
              let same = eqb-true k (j + places) b in
              let low : nat_lt j k ≡ true = lt-ltb j k (omega (arith, same, some)) in
              let high : nat_le k (j + places) ≡ true = le-leb k (j + places) (omega (arith, same)) in
              ap (λ x. x || (nat_lt j k && nat_lt k (j + places))) b ∙ sym (λ i. low i && high i)
          outer false b = ap (λ x. x || (nat_lt j k && nat_lt k (j + places))) b ∙ ap (λ x. nat_lt j k && x) (sym (le_more k (j + places) ∙ ap (λ x. x || nat_lt k (j + places)) b))

  -- what it leaves, and what goes on
  window_leave : (k e : ℕ) → either_out (further inward outward places k e) (leave inward outward places k) ≡ window inward outward places (suc k) e
  window_leave k e = fun_ext (λ i. fun_ext (λ j. by i j))
    where
      regroup : (a x b z w : Bool) → ((b && z) || ((a && x) || (b && w))) ≡ ((a && x) || (b && (z || w)))
      regroup true true true true w = refl
      regroup true true true false w = refl
      regroup true true false z w = refl
      regroup true false true true w = refl
      regroup true false true false w = refl
      regroup true false false z w = refl
      regroup false x true true w = refl
      regroup false x true false w = refl
      regroup false x false z w = refl

      by : (i j : ℕ) → either_out (further inward outward places k e) (leave inward outward places k) i j ≡ window inward outward places (suc k) e i j
      by i j =
          regroup (inward i) (nat_lt k j && nat_lt j e) (outward i) (nat_eq k j) (nat_lt j k && nat_lt k (j + places))
          ∙ (λ x. (inward i && (nat_lt k j && nat_lt j e)) || (outward i && outer (nat_eq k j) refl x))
        where
          outer : (b : Bool) → nat_eq k j ≡ b → (nat_eq k j || (nat_lt j k && nat_lt k (j + places))) ≡ (nat_lt j (suc k) && nat_le (suc k) (j + places))
          outer true b =
              let same = eqb-true k j b in
              let low : nat_lt j (suc k) ≡ true = lt-ltb j (suc k) (omega (arith, same)) in
              let high : nat_le (suc k) (j + places) ≡ true = le-leb (suc k) (j + places) (omega (arith, same, some)) in
              ap (λ x. x || (nat_lt j k && nat_lt k (j + places))) b ∙ sym (λ i. low i && high i)
          outer false b =
              ap (λ x. x || (nat_lt j k && nat_lt k (j + places))) b ∙ ap (λ x. x && nat_le (suc k) (j + places)) (sym (less_more j k ∙ ap (λ x. x || nat_lt j k) b))

  window_none : window inward outward places 0 0 ≡ none_out
  window_none = fun_ext (λ i. fun_ext (λ j. by (inward i) (outward i) j))
    where
      and_none : (a : Bool) → (a && false) ≡ false
      and_none true = refl
      and_none false = refl

      by : (a b : Bool) (j : ℕ) → ((a && (nat_le 0 j && nat_lt j 0)) || (b && (nat_lt j 0 && nat_le 0 (j + places)))) ≡ false
      by a b j =
          let u : nat_lt j 0 ≡ false = not_lt j 0 (omega arith) in
          (λ x. (a && (nat_le 0 j && u x)) || (b && (u x && nat_le 0 (j + places)))) ∙ (λ x. (a && and_none (nat_le 0 j) x) || and_none b x) ∙ ap (λ t. t || false) (and_none a)

  -- which transfer a window has
  in_further : (k e i j : ℕ) → further inward outward places k e i j ≡ true → ((inward i ≡ true) × (k < j) × (j < e)) ⊎ ((outward i ≡ true) × (j < k) × (k < j + places))
  in_further k e i j h = by (or_cases (inward i && (nat_lt k j && nat_lt j e)) (outward i && (nat_lt j k && nat_lt k (j + places))) h)
    where
      by : ((inward i && (nat_lt k j && nat_lt j e)) ≡ true) ⊎ ((outward i && (nat_lt j k && nat_lt k (j + places))) ≡ true) → ((inward i ≡ true) × (k < j) × (j < e)) ⊎ ((outward i ≡ true) × (j < k) × (k < j + places))
      by (inl a) =
          let two = and_parts (inward i) (nat_lt k j && nat_lt j e) a in
          let more = and_parts (nat_lt k j) (nat_lt j e) two.1 in
          inl (two.0, ltb-true k j more.0, ltb-true j e more.1)
      by (inr a) =
          let two = and_parts (outward i) (nat_lt j k && nat_lt k (j + places)) a in
          let more = and_parts (nat_lt j k) (nat_lt k (j + places)) two.1 in
          inr (two.0, ltb-true j k more.0, ltb-true k (j + places) more.1)

  in_window : (k e i j : ℕ) → window inward outward places k e i j ≡ true → ((inward i ≡ true) × (k ≤ j) × (j < e)) ⊎ ((outward i ≡ true) × (j < k) × (k ≤ j + places))
  in_window k e i j h = by (or_cases (inward i && (nat_le k j && nat_lt j e)) (outward i && (nat_lt j k && nat_le k (j + places))) h)
    where
      by : ((inward i && (nat_le k j && nat_lt j e)) ≡ true) ⊎ ((outward i && (nat_lt j k && nat_le k (j + places))) ≡ true) → ((inward i ≡ true) × (k ≤ j) × (j < e)) ⊎ ((outward i ≡ true) × (j < k) × (k ≤ j + places))
      by (inl a) =
          let two = and_parts (inward i) (nat_le k j && nat_lt j e) a in
          let more = and_parts (nat_le k j) (nat_lt j e) two.1 in
          inl (two.0, leb-true k j more.0, ltb-true j e more.1)
      by (inr a) =
          let two = and_parts (outward i) (nat_lt j k && nat_le k (j + places)) a in
          let more = and_parts (nat_lt j k) (nat_le k (j + places)) two.1 in
          inr (two.0, ltb-true j k more.0, leb-true k (j + places) more.1)

-- ---- the loop
module _ (large : ℕ) (ring : ℕ → ℕ → Transfer) (inward outward : ℕ → Bool) (lead count : ℕ) (base : ℕ → Stage) (ahead turn : ℕ → List Step)
    (keeps : IsRing large ring inward outward lead count base ahead turn) where
  abbrev places : ℕ
  places = suc lead

  some : 1 ≤ suc lead
  some = omega arith

  -- the stage at the head of turn k, where those of the turns below e were started
  abbrev stage : ℕ → ℕ → Stage
  stage k e = record (base k) { out = window inward outward places k e }

  -- the starts of turn j from the head of turn k
  one_start : (k j : ℕ) → k ≤ j → j < k + places → j < count → Leads large ring (ahead j) (stage k j) (stage k (suc j))
  one_start k j low high lt =
      let f = framed large ring (window inward outward places k j) (ahead j) (record (base k) { out = none_out }) avoids (keeps.starts k j low high lt) in
      (f.0, f.1 ∙ ap (with_more (window inward outward places k j)) (keeps.started k j low high lt) ∙ ap (λ (o : ℕ → ℕ → Bool). record (base k) { out = o }) (window_more inward outward places some k j low))
    where
      avoids : (i h : ℕ) → window inward outward places k j i h ≡ true → AvoidsAll large ring (ahead j) (record (base k) { out = none_out }) (ring i h)
      avoids i h m = by (in_window inward outward places some k j i h m)
        where
          by : ((inward i ≡ true) × (k ≤ h) × (h < j)) ⊎ ((outward i ≡ true) × (h < k) × (k ≤ h + places)) → AvoidsAll large ring (ahead j) (record (base k) { out = none_out }) (ring i h)
          by (inl (a, b, c)) = keeps.quiet_in k j i h low high lt a b c
          by (inr (a, b, c)) = keeps.quiet_out k j i h low high lt a b c

  -- a turn
  one_turn : (k e : ℕ) → k < e → e ≤ count → e ≤ k + places → Leads large ring (turn k) (stage k e) (stage (suc k) e)
  one_turn k e low most high =
      let lt : k < count = omega (arith, low, most) in
      let f = framed large ring (further inward outward places k e) (turn k) (record (base k) { out = entry inward outward places k }) avoids (keeps.turns k lt) in
      let from : with_more (further inward outward places k e) (record (base k) { out = entry inward outward places k }) ≡ stage k e =
      ap (λ (o : ℕ → ℕ → Bool). record (base k) { out = o }) (window_entry inward outward places some k e low) in (
        subst (Goes large ring (turn k)) from f.0,
        ap (behind (turn k)) (sym from) ∙ f.1 ∙ ap (with_more (further inward outward places k e)) (keeps.leads k lt) ∙ ap (λ (o : ℕ → ℕ → Bool). record (base (suc k)) { out = o }) (window_leave inward outward places some k e),
      )
    where
      avoids : (i h : ℕ) → further inward outward places k e i h ≡ true → AvoidsAll large ring (turn k) (record (base k) { out = entry inward outward places k }) (ring i h)
      avoids i h m = by (in_further inward outward places some k e i h m)
        where
          by : ((inward i ≡ true) × (k < h) × (h < e)) ⊎ ((outward i ≡ true) × (h < k) × (k < h + places)) → AvoidsAll large ring (turn k) (record (base k) { out = entry inward outward places k }) (ring i h)
          by (inl (a, b, c)) = keeps.calm_in k i h (omega (arith, low, most)) a b (omega (arith, c, high)) (omega (arith, c, most))
          by (inr (a, b, c)) = keeps.calm_out k i h (omega (arith, low, most)) a b c

  -- the prologue, the main loop, the epilogue
  all_starts : (r j : ℕ) → j + r ≤ count → j + r ≤ lead → Leads large ring (prologue ahead turn lead r j) (stage 0 j) (stage 0 (j + r))
  all_starts zero j most high = (tt, ap (stage 0) (let e : j ≡ j + 0 = omega arith in e))
  all_starts (suc r) j most high =
      let e : suc j + r ≡ j + suc r = omega arith in
      leads-append large ring (ahead j) (prologue ahead turn lead r (suc j)) (stage 0 j) (stage 0 (suc j)) (stage 0 (j + suc r))
      (one_start 0 j (omega arith) (omega (arith, high)) (omega (arith, most)))
      (subst (λ n. Leads large ring (prologue ahead turn lead r (suc j)) (stage 0 (suc j)) (stage 0 n)) e (all_starts r (suc j) (omega (arith, most)) (omega (arith, high))))

  all_main : (r k : ℕ) → k + r + lead ≤ count → Leads large ring (main_loop ahead turn lead r k) (stage k (k + lead)) (stage (k + r) (k + r + lead))
  all_main zero k most = (tt, (let e : k ≡ k + 0 = omega arith in λ i. stage (e i) (e i + lead)))
  all_main (suc r) k most =
      let e : suc k + r ≡ k + suc r = omega arith in
      let f : suc (k + lead) ≡ suc k + lead = omega arith in
      leads-append large ring (ahead (k + lead)) (turn k ++ main_loop ahead turn lead r (suc k)) (stage k (k + lead)) (stage k (suc (k + lead))) (stage (k + suc r) (k + suc r + lead))
      (one_start k (k + lead) (omega arith) (omega arith) (omega (arith, most)))
      (leads-append large ring (turn k) (main_loop ahead turn lead r (suc k)) (stage k (suc (k + lead))) (stage (suc k) (suc (k + lead))) (stage (k + suc r) (k + suc r + lead))
      (one_turn k (suc (k + lead)) (omega arith) (omega (arith, most)) (omega arith))
      (subst (λ n. Leads large ring (main_loop ahead turn lead r (suc k)) (stage (suc k) (suc (k + lead))) (stage n (n + lead))) e
      (subst (λ n. Leads large ring (main_loop ahead turn lead r (suc k)) (stage (suc k) n) (stage (suc k + r) (suc k + r + lead))) (sym f) (all_main r (suc k) (omega (arith, most))))))

  all_ends : (r k : ℕ) → k + r ≡ count → r ≤ lead → Leads large ring (epilogue ahead turn lead r k) (stage k count) (stage count count)
  all_ends zero k is high = (tt, ap (λ k. stage k count) (let e : k ≡ count = omega (arith, is) in e))
  all_ends (suc r) k is high =
      leads-append large ring (turn k) (epilogue ahead turn lead r (suc k)) (stage k count) (stage (suc k) count) (stage count count)
      (one_turn k count (omega (arith, is)) (omega arith) (omega (arith, is, high)))
      (all_ends r (suc k) (omega (arith, is)) (omega (arith, high)))

  -- the whole loop goes, from nothing under way to the last turns' transfers that left
  pub ring_goes : Leads large ring (ring_loop ahead turn lead count) (record (base 0) { out = none_out }) (stage count count)
  ring_goes = subst (λ s. Leads large ring (ring_loop ahead turn lead count) s (stage count count)) (ap (λ (o : ℕ → ℕ → Bool). record (base 0) { out = o }) (window_none inward outward places some)) (by (nat_le lead count) refl)
    where
      by : (b : Bool) → nat_le lead count ≡ b
          → Leads large ring (if b then prologue ahead turn lead lead 0 ++ (main_loop ahead turn lead (count - lead) 0 ++ epilogue ahead turn lead lead (count - lead)) else prologue ahead turn lead count 0 ++ epilogue ahead turn lead count 0) (stage 0 0) (stage count count)
      by true b =
          let le = leb-true lead count b in
          let whole : count - lead + lead ≡ count = omega (arith, le) in
          leads-append large ring (prologue ahead turn lead lead 0) (main_loop ahead turn lead (count - lead) 0 ++ epilogue ahead turn lead lead (count - lead)) (stage 0 0) (stage 0 (0 + lead)) (stage count count)
          (all_starts lead 0 (omega (arith, le)) (omega arith))
          (leads-append large ring (main_loop ahead turn lead (count - lead) 0) (epilogue ahead turn lead lead (count - lead)) (stage 0 (0 + lead)) (stage (count - lead) count) (stage count count)
          (subst (λ n. Leads large ring (main_loop ahead turn lead (count - lead) 0) (stage 0 (0 + lead)) (stage (count - lead) n)) whole
          (subst (λ k. Leads large ring (main_loop ahead turn lead (count - lead) 0) (stage 0 (0 + lead)) (stage k (k + lead))) (let e : 0 + (count - lead) ≡ count - lead = omega arith in e) (all_main (count - lead) 0 (omega (arith, whole)))))
          (all_ends lead (count - lead) whole (omega arith)))
      by false b =
          let less : count < lead = grind (arith, b) in
          leads-append large ring (prologue ahead turn lead count 0) (epilogue ahead turn lead count 0) (stage 0 0) (stage 0 count) (stage count count)
          (subst (λ n. Leads large ring (prologue ahead turn lead count 0) (stage 0 0) (stage 0 n)) (let e : 0 + count ≡ count = omega arith in e) (all_starts count 0 (omega arith) (omega (arith, less))))
          (all_ends count 0 (omega arith) (omega (arith, less)))
