-- Tests of the outstanding transfers, one after the other.
use Rattle.std.proofs.Common.{◌≡◌, ℕ, zero, suc, ◌+◌, ◌-◌, ◌<◌, ◌≤◌, Bool, true, false, List, [], ◌∷◌, length, take, drop, map, get_or, refl, ap, ◌∙◌, arith}
use Rattle.std.specs.Prelude.{◌||◌, nat_eq, Some, None, if◌then◌else◌}
use Rattle.std.specs.List.{list_any, range_with_len}
use Rattle.bus_model.specs.declared.transfer.Transfer.{Transfer}
use Rattle.std.proofs.Common.{eq-eqb}
use Rattle.prompt_semantics.specs.Device.{is_started, record_of, without}
use Rattle.transfer_records.specs.Found.{Finds}

module _ {X : Type 0} (p : X → Bool) where
  pub any_here : (xs : List X) (i : ℕ) (d : X) → i < length xs → p (get_or xs i d) ≡ true → list_any p (drop i xs) ≡ true
  any_here [] i d h e = absurd (omega (arith, h))
  any_here (x ∷ xs) zero d h e = ap (λ b. b || list_any p xs) e
  any_here (x ∷ xs) (suc i) d h e = any_here xs i d (omega (arith, h)) e

  next_any : (xs : List X) (i : ℕ) (d : X) → i < length xs → p (get_or xs i d) ≡ false → list_any p (drop i xs) ≡ list_any p (drop (suc i) xs)
  next_any [] i d h e = absurd (omega (arith, h))
  next_any (x ∷ xs) zero d h e = ap (λ b. b || list_any p xs) e
  next_any (x ∷ xs) (suc i) d h e = next_any xs i d (omega (arith, h)) e

  pub any_next : (xs : List X) (i : ℕ) (d : X) → i < length xs → p (get_or xs i d) ≡ false → list_any p (drop i xs) ≡ list_any p (drop (i + 1) xs)
  any_next xs i d h e = let n : suc i ≡ i + 1 = omega arith in next_any xs i d h e ∙ ap (λ j. list_any p (drop j xs)) n

  pub any_end : (xs : List X) (i : ℕ) → length xs ≤ i → list_any p (drop i xs) ≡ false
  any_end [] zero h = refl
  any_end [] (suc i) h = refl
  any_end (x ∷ xs) zero h = absurd (omega (arith, h))
  any_end (x ∷ xs) (suc i) h = any_end xs i (omega (arith, h))

-- ---- a tag's transfer

not_started : (t : Transfer) (ts : List Transfer) (tag : ℕ) → is_started (t ∷ ts) tag ≡ false → (nat_eq t.tag tag ≡ false) × (is_started ts tag ≡ false)
not_started t ts tag h = by (nat_eq t.tag tag) (is_started ts tag) h
  where
    by : (a b : Bool) → (a || b) ≡ false → (a ≡ false) × (b ≡ false)
    by true b h = absurd (let z : ⊥ = cc in z)
    by false b h = (refl, h)

pub found : (ts : List Transfer) (tag place : ℕ) (d : Transfer) → place < length ts → is_started (take place ts) tag ≡ false → (get_or ts place d).tag ≡ tag → Finds ts tag (Some place)
found [] tag place d h idle e = absurd (omega (arith, h))
found (t ∷ ts) tag zero d h idle e =
    let same : nat_eq t.tag tag ≡ true = eq-eqb t.tag tag e in
    (ap (λ b. b || is_started ts tag) same, h, ap (λ b. if b then Some t else record_of tag ts) same, ap (λ b. if b then ts else t ∷ without tag ts) same)
found (t ∷ ts) tag (suc place) d h idle e =
    let two = not_started t (take place ts) tag idle in
    let more = found ts tag place d (omega (arith, h)) two.1 e in
    (ap (λ b. b || is_started ts tag) two.0 ∙ more.0, h, ap (λ b. if b then Some t else record_of tag ts) two.0 ∙ more.2, ap (λ b. if b then ts else t ∷ without tag ts) two.0 ∙ ap (λ l. t ∷ l) more.3)

pub found_none : (ts : List Transfer) (tag : ℕ) → is_started ts tag ≡ false → Finds ts tag None
found_none [] tag h = (h, refl)
found_none (t ∷ ts) tag h = let two = not_started t ts tag h in (h, ap (λ b. if b then Some t else record_of tag ts) two.0 ∙ (found_none ts tag two.1).1)

-- one element more doesn't meet
pub overlap_next : (p : ℕ → Bool) (f : ℕ → ℕ) (e n : ℕ) (whole : Bool) → e < n → p (f e) ≡ false → whole ≡ list_any p (map f (range_with_len e (n - e))) → whole ≡ list_any p (map f (range_with_len (e + 1) (n - (e + 1))))
overlap_next p f e n whole h q so =
    let s : n - e ≡ suc (n - (e + 1)) = omega (arith, h) in
    so ∙ ap (λ j. list_any p (map f (range_with_len e j))) s ∙ ap (λ b. b || list_any p (map f (range_with_len (e + 1) (n - (e + 1))))) q
