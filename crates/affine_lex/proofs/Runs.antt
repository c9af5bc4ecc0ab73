-- Runs of bytes of one set, and what the sets have in common.
use Rattle.std.proofs.Common.{◌≡◌, ℕ, suc, ◌+◌, ◌≤◌, ◌<◌, Bool, true, false, cond, List, [], ◌∷◌, ◌++◌, length, take, slice_index, refl, sym, ap, ◌∙◌, subst, arith}
use Rattle.std.proofs.lemmas.Bool.Decides.{nat_tests}
use Rattle.affine_lex.specs.Classes.{is_in, AllIn}
use Rattle.affine_lex.specs.Scan.{run}
use Rattle.affine_lex.specs.declared.class.Class.{Class}
use Rattle.affine_lex.specs.declared.class.Class.TheVariants as class

run_step : (c : Class) (b : ℕ) (bytes : List ℕ) → is_in c b ≡ true → run c (b ∷ bytes) ≡ 1 + run c bytes
run_step c b bytes h = ap (λ v. cond v (1 + run c bytes) 0) h

pub run_suc : (c : Class) (b : ℕ) (bytes : List ℕ) → is_in c b ≡ true → run c (b ∷ bytes) ≡ suc (run c bytes)
run_suc c b bytes h = omega (arith, run_step c b bytes h)

-- the run is of the set
pub run_all : (c : Class) (bytes : List ℕ) → AllIn c (take (run c bytes) bytes)
run_all c [] = tt
run_all c (b ∷ bytes) = by_test (run_all c bytes) (is_in c b) refl
  where
    first : (n : ℕ) → is_in c b ≡ true → AllIn c (take n bytes) → AllIn c (take (1 + n) (b ∷ bytes))
    first n h a = let e : 1 + n ≡ suc n = omega arith in subst (λ m. AllIn c (take m (b ∷ bytes))) (sym e) (h, a)

    by_test : AllIn c (take (run c bytes) bytes) → (v : Bool) → is_in c b ≡ v → AllIn c (take (cond v (1 + run c bytes) 0) (b ∷ bytes))
    by_test a true h = first (run c bytes) h a
    by_test a false h = tt

-- a front that is of the set is no longer than the run
pub run_longest : (c : Class) (w r : List ℕ) → AllIn c w → length w ≤ run c (w ++ r)
run_longest c [] r a = omega arith
run_longest c (b ∷ w) r a = omega (arith, run_longest c w r a.1, run_step c b (w ++ r) a.0)

-- a run ends where the next byte isn't of the set
pub run_closed : (c : Class) (w r : List ℕ) → AllIn c w → is_in c (slice_index r 0) ≡ false → run c (w ++ r) ≡ length w
run_closed c [] [] a h = refl
run_closed c [] (b ∷ r) a h = ap (λ v. cond v (1 + run c r) 0) h
run_closed c (b ∷ w) r a h = omega (arith, run_step c b (w ++ r) a.0, run_closed c w r a.1 h)

-- what ends before the last byte is cut alike whatever follows
pub run_stable : (c : Class) (w r : List ℕ) → run c w < length w → run c (w ++ r) ≡ run c w
run_stable c [] r h = absurd (omega (arith, h))
run_stable c (b ∷ w) r h = by_test (λ k. run_stable c w r k) (is_in c b) refl
  where
    by_test : (run c w < length w → run c (w ++ r) ≡ run c w) → (v : Bool) → is_in c b ≡ v → cond (is_in c b) (1 + run c (w ++ r)) 0 ≡ cond (is_in c b) (1 + run c w) 0
    by_test ih true e =
        let x : 1 + run c w < length (b ∷ w) = subst (λ v. cond v (1 + run c w) 0 < length (b ∷ w)) e h in
        ap (λ n. cond (is_in c b) (1 + n) 0) (ih (omega (arith, x)))
    by_test ih false e = ap (λ v. cond v (1 + run c (w ++ r)) 0) e ∙ sym (ap (λ v. cond v (1 + run c w) 0) e)

pub run_within : (c : Class) (bytes : List ℕ) → run c bytes ≤ length bytes
run_within c [] = omega arith
run_within c (b ∷ bytes) = by_test (run_within c bytes) (is_in c b)
  where
    by_test : run c bytes ≤ length bytes → (v : Bool) → cond v (1 + run c bytes) 0 ≤ length (b ∷ bytes)
    by_test h true = omega (arith, h)
    by_test h false = omega arith

-- ---- the sets

pub word_first_word : (b : ℕ) → is_in class.WordFirst b ≡ true → is_in class.Word b ≡ true
word_first_word b h = grind (arith, nat_tests)

pub id_first_id : (b : ℕ) → is_in class.IdFirst b ≡ true → is_in class.Id b ≡ true
id_first_id b h = grind (arith, nat_tests)

pub digit_no_word : (b : ℕ) → is_in class.Digit b ≡ true → is_in class.WordFirst b ≡ false
digit_no_word b h = grind (arith, nat_tests)

pub digit_no_id : (b : ℕ) → is_in class.Digit b ≡ true → is_in class.IdFirst b ≡ false
digit_no_id b h = grind (arith, nat_tests)
