-- Transfers that are copied at once, in two runs with related slow memories.
use Rattle.std.proofs.Common.{◌≡◌, ◌≢◌, ℕ, zero, suc, ◌+◌, ◌<◌, ◌≤◌, ◌⊎◌, inl, inr, ℤ, pos, List, length, length-set, get_or, fold, refl, sym, ap, ◌∙◌, subst, arith, Bool, true, false}
use Rattle.std.specs.Prelude.{nat_eq, slice_set}
use Rattle.std.specs.List.{range_with_len}
use Rattle.std.proofs.lemmas.List.{get_or-set_same, get_or-set_other}
use Rattle.std.proofs.lemmas.Bool.{eqb-true, eqb-false, cases_lt}
use Rattle.std.proofs.lemmas.Grind.{common_steps}
use Rattle.bus_model.specs.declared.transfer.Transfer.{Transfer}
use Rattle.bus_model.specs.Places.{slow_place}
use Rattle.bus_model.specs.Copies.{number_at, moved_in, moved_out}
use Rattle.bus_model.proofs.Copies.{first_out_else, length-first_out}
use Rattle.box_run_laws.specs.Layouts.{Numbering, renumbered}
use Rattle.box_run_laws.proofs.Tests.{same_place}

-- two folds over a range whose steps agree there
fold_same : {B : Type 0} (f g : B → ℕ → B) (n a : ℕ) (b : B) → ((b : B) (e : ℕ) → a ≤ e → e < a + n → f b e ≡ g b e) → fold f b (range_with_len a n) ≡ fold g b (range_with_len a n)
fold_same f g zero a b h = refl
fold_same f g (suc n) a b h =
    ap (λ c. fold f c (range_with_len (a + 1) n)) (h b a (omega arith) (omega arith))
    ∙ fold_same f g n (a + 1) (g b a) (λ b e p q. h b e (omega (arith, p)) (omega (arith, q)))

-- two folds that keep a relation
fold_kept : {A B : Type 0} (R : A → B → Type 0) (f : A → ℕ → A) (g : B → ℕ → B) (n a : ℕ) (x : A) (y : B) → ((x : A) (y : B) (e : ℕ) → R x y → R (f x e) (g y e)) → R x y → R (fold f x (range_with_len a n)) (fold g y (range_with_len a n))
fold_kept R f g zero a x y h r = r
fold_kept R f g (suc n) a x y h r = fold_kept R f g n (a + 1) (f x a) (g y a) h (h x y a r)

-- a transfer in, from two slow lists that agree at its places
pub in_same : (nu : Numbering) (t : Transfer) (xs ys cells : List ℤ) → ((e : ℕ) → e < t.count → get_or xs (slow_place t e) (pos 0) ≡ get_or ys (slow_place t e) (pos 0))
    → moved_in t xs cells ≡ moved_in (renumbered nu t) ys cells
in_same nu t xs ys cells h =
    fold_same (λ cells e. slice_set cells (t.offset + e) (number_at xs (slow_place t e))) (λ cells e. slice_set cells (t.offset + e) (number_at ys (slow_place (renumbered nu t) e))) t.count 0 cells
    (λ l e p q. ap (slice_set l (t.offset + e)) (h e (omega (arith, q)) ∙ ap (number_at ys) (sym (same_place nu t e))))

-- one new value at one place of two lists of one length
pub both_set : (xs ys : List ℤ) (p q : ℕ) (z z' : ℤ) → length xs ≡ length ys → z ≡ z' → get_or xs q (pos 0) ≡ get_or ys q (pos 0) → get_or (slice_set xs p z) q (pos 0) ≡ get_or (slice_set ys p z') q (pos 0)
both_set xs ys p q z z' long same e = by (nat_eq q p) refl
  where
    past : (l : List ℤ) (i : ℕ) (y : ℤ) → length l ≤ i → get_or (slice_set l i y) i (pos 0) ≡ pos 0
    past l i y h = grind (arith, common_steps, h, length-set l i y)

    here : (p < length xs) ⊎ (length xs ≤ p) → get_or (slice_set xs p z) p (pos 0) ≡ get_or (slice_set ys p z') p (pos 0)
    here (inl h) = get_or-set_same xs p z (pos 0) h ∙ same ∙ sym (get_or-set_same ys p z' (pos 0) (subst (λ n. p < n) long h))
    here (inr h) = past xs p z h ∙ sym (past ys p z' (subst (λ n. n ≤ p) long h))

    by : (t : Bool) → nat_eq q p ≡ t → get_or (slice_set xs p z) q (pos 0) ≡ get_or (slice_set ys p z') q (pos 0)
    by true t = subst (λ j. get_or (slice_set xs p z) j (pos 0) ≡ get_or (slice_set ys p z') j (pos 0)) (sym (eqb-true q p t)) (here (cases_lt p (length xs)))
    by false t = let ne = eqb-false q p t in get_or-set_other xs p q z (pos 0) ne ∙ e ∙ sym (get_or-set_other ys p q z' (pos 0) ne)

-- two lists of one length that agree where a test is false
pub record Agree (stale : ℕ → Bool) (xs ys : List ℤ) : Type 0 where
  pub long : length xs ≡ length ys
  pub same : (p : ℕ) → stale p ≡ false → get_or xs p (pos 0) ≡ get_or ys p (pos 0)

-- a transfer out, of the same cells, to two slow lists
pub out_same : (nu : Numbering) (stale : ℕ → Bool) (t : Transfer) (cells xs ys : List ℤ) → Agree stale xs ys → Agree stale (moved_out t cells xs) (moved_out (renumbered nu t) cells ys)
out_same nu stale t cells xs ys h =
    fold_kept (Agree stale) (λ slow e. slice_set slow (slow_place t e) (number_at cells (t.offset + e))) (λ slow e. slice_set slow (slow_place (renumbered nu t) e) (number_at cells (t.offset + e))) t.count 0 xs ys
    (λ xs ys e r. subst (λ p. Agree stale (slice_set xs (slow_place t e) (number_at cells (t.offset + e))) (slice_set ys p (number_at cells (t.offset + e)))) (sym (same_place nu t e)) (step xs ys (slow_place t e) (number_at cells (t.offset + e)) r))
    h
  where
    step : (xs ys : List ℤ) (p : ℕ) (z : ℤ) → Agree stale xs ys → Agree stale (slice_set xs p z) (slice_set ys p z)
    step xs ys p z r = record {
      long = length-set xs p z ∙ r.long ∙ sym (length-set ys p z);
      same = λ q k. both_set xs ys p q z z r.long refl (r.same q k);
    }

-- a place of no element is as before a transfer out
pub out_else : (t : Transfer) (cells xs : List ℤ) (p : ℕ) → ((e : ℕ) → e < t.count → slow_place t e ≢ p) → get_or (moved_out t cells xs) p (pos 0) ≡ get_or xs p (pos 0)
out_else t cells xs p h = first_out_else t xs cells t.count p h

pub out_long : (t : Transfer) (cells xs : List ℤ) → length (moved_out t cells xs) ≡ length xs
out_long t cells xs = length-first_out t xs cells t.count
