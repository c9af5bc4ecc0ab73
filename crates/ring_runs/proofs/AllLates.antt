-- The last waits of all outward placements, in order.
use Rattle.std.proofs.Common.{◌≡◌, ◌≢◌, inl, inr, ℕ, zero, suc, ◌+◌, ◌<◌, ◌≤◌, List, [], ◌∷◌, ◌++◌, refl, sym, ap, ◌∙◌, subst, arith, Bool, true, false}
use Rattle.std.specs.Prelude.{◌&&◌, nat_eq, if◌then◌else◌}
use Rattle.std.proofs.lemmas.Bool.{eqb-true, eqb-false, ne_eqb}
use Rattle.bus_model.specs.declared.transfer.Transfer.{Transfer}
use Rattle.step_runs.specs.Steps.{Each, less_out}
use Rattle.ring_runs.specs.Lates.{turns_of, left_out, AreOut}
use Rattle.ring_runs.proofs.Lates.{Has}

-- each of some turns in a row is waited for once
pub are_out : (i r k : ℕ) (out : ℕ → ℕ → Bool) → ((j : ℕ) → k ≤ j → j < k + r → out i j ≡ true) → AreOut (turns_of i r k) out
are_out i zero k out h = tt
are_out i (suc r) k out h = (
  h k (omega arith) (omega arith),
  are_out i r (suc k) (less_out i k out) (λ j low lt.
      (let ne : nat_eq k j ≡ false = ne_eqb k j (λ e. omega (arith, low, e)) in
      ap (λ t. if nat_eq i i && t then false else out i j) ne ∙ ap (λ t. if t then false else out i j) (none (nat_eq i i)) ∙ h j (omega (arith, low)) (omega (arith, lt)))),
)
  where
    none : (b : Bool) → (b && false) ≡ false
    none true = refl
    none false = refl

pub has_turn : (large : ℕ) (ring : ℕ → ℕ → Transfer) (i r k j : ℕ) → k ≤ j → j < k + r → Has large ring i j (turns_of i r k)
has_turn large ring i zero k j low lt = absurd (omega (arith, low, lt))
has_turn large ring i (suc r) k j low lt = by (nat_eq k j) refl (λ low. has_turn large ring i r (suc k) j low (omega (arith, lt)))
  where
    by : (b : Bool) → nat_eq k j ≡ b → (suc k ≤ j → Has large ring i j (turns_of i r (suc k))) → Has large ring i j (turns_of i (suc r) k)
    by true e again = inl (refl, eqb-true k j e)
    by false e again = let ne = eqb-false k j e in inr (again (omega (arith, low, ne)))

-- r turns from k on, of each outward placement below m
abbrev pub all_lates : (ℕ → Bool) → ℕ → ℕ → ℕ → List (ℕ × ℕ)
all_lates outward zero r k = []
all_lates outward (suc i) r k = all_lates outward i r k ++ (if outward i then turns_of i r k else [])

each-append : (P : ℕ × ℕ → Type 0) (xs ys : List (ℕ × ℕ)) → Each P xs → Each P ys → Each P (xs ++ ys)
each-append P [] ys a b = b
each-append P (x ∷ xs) ys a b = (a.0, each-append P xs ys a.1 b)

out-append : (xs ys : List (ℕ × ℕ)) (out : ℕ → ℕ → Bool) → AreOut xs out → AreOut ys (left_out xs out) → AreOut (xs ++ ys) out
out-append [] ys out a b = b
out-append (x ∷ xs) ys out a b = (a.0, out-append xs ys (less_out x.0 x.1 out) a.1 b)

-- the waits of some placements leave what another one has
left_other : (xs : List (ℕ × ℕ)) (out : ℕ → ℕ → Bool) (i j : ℕ) → Each (λ (x : ℕ × ℕ). x.0 ≢ i) xs → left_out xs out i j ≡ out i j
left_other [] out i j h = refl
left_other (x ∷ xs) out i j h = left_other xs (less_out x.0 x.1 out) i j h.1 ∙ ap (λ t. if t && nat_eq x.1 j then false else out i j) (ne_eqb x.0 i h.0)

turns_others : (a i r k : ℕ) → i ≢ a → Each (λ (x : ℕ × ℕ). x.0 ≢ a) (turns_of i r k)
turns_others a i zero k ne = tt
turns_others a i (suc r) k ne = (ne, turns_others a i r (suc k) ne)

module _ (outward : ℕ → Bool) (r k : ℕ) where
  lates_others : (m a : ℕ) → m ≤ a → Each (λ (x : ℕ × ℕ). x.0 ≢ a) (all_lates outward m r k)
  lates_others zero a le = tt
  lates_others (suc i) a le = each-append (λ (x : ℕ × ℕ). x.0 ≢ a) (all_lates outward i r k) (if outward i then turns_of i r k else []) (lates_others i a (omega (arith, le))) (by (outward i))
    where
      by : (t : Bool) → Each (λ (x : ℕ × ℕ). x.0 ≢ a) (if t then turns_of i r k else [])
      by true = turns_others a i r k (λ e. omega (arith, e, le))
      by false = tt

  -- each is under way and waited for once
  pub all_are_out : (m : ℕ) (out : ℕ → ℕ → Bool) → ((i j : ℕ) → i < m → outward i ≡ true → k ≤ j → j < k + r → out i j ≡ true) → AreOut (all_lates outward m r k) out
  all_are_out zero out h = tt
  all_are_out (suc i) out h =
      out-append (all_lates outward i r k) (if outward i then turns_of i r k else []) out (all_are_out i out (λ a j lt. h a j (omega (arith, lt)))) (by (outward i) refl)
    where
      by : (t : Bool) → outward i ≡ t → AreOut (if t then turns_of i r k else []) (left_out (all_lates outward i r k) out)
      by true t = are_out i r k (left_out (all_lates outward i r k) out) (λ j low lt. left_other (all_lates outward i r k) out i j (lates_others i i (omega arith)) ∙ h i j (omega arith) t low lt)
      by false t = tt

  -- and each of those is among them
  module _ (large : ℕ) (ring : ℕ → ℕ → Transfer) where
    has_left : (i j : ℕ) (xs ys : List (ℕ × ℕ)) → Has large ring i j xs → Has large ring i j (xs ++ ys)
    has_left i j [] ys h = absurd h
    has_left i j (x ∷ xs) ys (inl e) = inl e
    has_left i j (x ∷ xs) ys (inr h) = inr (has_left i j xs ys h)

    has_right : (i j : ℕ) (xs ys : List (ℕ × ℕ)) → Has large ring i j ys → Has large ring i j (xs ++ ys)
    has_right i j [] ys h = h
    has_right i j (x ∷ xs) ys h = inr (has_right i j xs ys h)

    pub all_has : (m i j : ℕ) → i < m → outward i ≡ true → k ≤ j → j < k + r → Has large ring i j (all_lates outward m r k)
    all_has zero i j lt o low high = absurd (omega (arith, lt))
    all_has (suc a) i j lt o low high = by (nat_eq a i) refl (λ less. all_has a i j less o low high)
      where
        by : (t : Bool) → nat_eq a i ≡ t → (i < a → Has large ring i j (all_lates outward a r k)) → Has large ring i j (all_lates outward (suc a) r k)
        by true t again =
            let e = eqb-true a i t in
            has_right i j (all_lates outward a r k) (if outward a then turns_of a r k else []) (at (outward a) (ap outward e ∙ o) e)
          where
            at : (u : Bool) → u ≡ true → a ≡ i → Has large ring i j (if u then turns_of a r k else [])
            at true u e = (λ (h : Has large ring i j (turns_of i r k)). moved (sym e) h) (has_turn large ring i r k j low high)
              where
                moved : i ≡ a → Has large ring i j (turns_of i r k) → Has large ring i j (turns_of a r k)
                moved e h = subst (λ a. Has large ring i j (turns_of a r k)) e h
            at false u e = let z : false ≡ true = u in cc
        by false t again = let ne = eqb-false a i t in has_left i j (all_lates outward a r k) (if outward a then turns_of a r k else []) (again (omega (arith, lt, ne)))
