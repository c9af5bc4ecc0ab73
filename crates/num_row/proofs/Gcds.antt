-- The greatest common divisor is the only number of its kind, and the one that `gcd_of` computes.
use Rattle.std.proofs.Common.{◌≡◌, ℕ, zero, suc, ◌+◌, ◌%◌, ◌<◌, ◌≤◌, ◌&&◌, inl, inr, Bool, true, false, refl, sym, subst, arith}
use Rattle.std.specs.Prelude.{◌==◌, if◌then◌else◌, ◌≢◌}
use Rattle.std.proofs.lemmas.Bool.Decides.{nat_tests}
use Rattle.std.proofs.lemmas.Bool.{cases_eq}
use Rattle.std.proofs.lemmas.Nat.{mod_below}
use Rattle.std.proofs.lemmas.Nat.Gcd.{mod-eq-zero_of_dvd, dvd_of_mod-eq-zero, le_of_dvd, IsGcd-from_zero, IsGcd-from_mod, same_from_IsGcd}
use Rattle.std.specs.Int.{IsGcd, ◌∣◌}
use Rattle.num_row.specs.Divisors.{greatest_divisor, gcd_of}

-- one step of the search, whose test is t and whose rest finds r
step : (t : Bool) (n g r : ℕ) → g ≤ suc n → (t ≡ true → suc n ≤ g) → (t ≡ false → g ≤ n) → (g ≤ n → r ≡ g) → (if t then suc n else r) ≡ g
step true n g r h up down rest = omega (arith, up refl)
step false n g r h up down rest = rest (down refl)

-- the search from a limit down stops at a common divisor that no other exceeds
passed : (n a b g : ℕ) → 0 < g → g ≤ n → a % g ≡ 0 → b % g ≡ 0 → ((d : ℕ) → 0 < d → a % d ≡ 0 → b % d ≡ 0 → d ≤ g) → greatest_divisor n a b ≡ g
passed zero a b g p h da db most = absurd (omega arith)
passed (suc n) a b g p h da db most = step ((a % suc n == 0) && (b % suc n == 0)) n g (greatest_divisor n a b) h (divides n a b g most) (lower n a b g h da db) (λ l. passed n a b g p l da db most)
  where
    divides : (n a b g : ℕ) → ((d : ℕ) → 0 < d → a % d ≡ 0 → b % d ≡ 0 → d ≤ g) → ((a % suc n == 0) && (b % suc n == 0)) ≡ true → suc n ≤ g
    divides n a b g most t = let x : a % suc n ≡ 0 = grind (arith, nat_tests) in let y : b % suc n ≡ 0 = grind (arith, nat_tests) in most (suc n) (omega arith) x y

    equal : (n a b g : ℕ) → g ≡ suc n → a % g ≡ 0 → b % g ≡ 0 → ((a % suc n == 0) && (b % suc n == 0)) ≡ false → ⊥
    equal n a b g e da db t = let x : a % suc n ≡ 0 = rw e at da in let y : b % suc n ≡ 0 = rw e at db in grind (arith, nat_tests)

    lower : (n a b g : ℕ) → g ≤ suc n → a % g ≡ 0 → b % g ≡ 0 → ((a % suc n == 0) && (b % suc n == 0)) ≡ false → g ≤ n
    lower n a b g h da db t = let e : g ≢ suc n = λ e. equal n a b g e da db t in omega arith

-- a number that divides a positive one is positive, and not above it
positive : (g n : ℕ) → 0 < n → g ∣ n → (0 < g) × (g ≤ n)
positive zero n p d = absurd (let e : n % 0 ≡ 0 = mod-eq-zero_of_dvd 0 d in let x : ⊥ = omega arith in x)
positive (suc g) n p d = (omega arith, le_of_dvd p d)

some_divisor : (a b g : ℕ) → 0 < a + b → IsGcd a b g → (0 < g) × (g ≤ a + b)
some_divisor zero b g s h = let p = positive g b (omega arith) h.1 in (p.0, omega arith)
some_divisor (suc a) b g s h = let p = positive g (suc a) (omega arith) h.0 in (p.0, omega arith)

-- unless both numbers are 0, the search up to their sum finds their greatest common divisor
only_divisor : (a b g : ℕ) → 0 < a + b → IsGcd a b g → greatest_divisor (a + b) a b ≡ g
only_divisor a b g s h =
    let p = some_divisor a b g s h in
    passed (a + b) a b g p.0 p.1 (mod-eq-zero_of_dvd g h.0) (mod-eq-zero_of_dvd g h.1) (λ d q x y. le_of_dvd p.0 (h.2 d (dvd_of_mod-eq-zero d x) (dvd_of_mod-eq-zero d y)))

-- what `gcd_of` computes is the greatest common divisor, and the only one
pub gcd_of_unique : (a b g : ℕ) → IsGcd a b g → g ≡ gcd_of a b
unfolding gcd_of
gcd_of_unique zero zero g h = same_from_IsGcd 0 0 g 0 h (IsGcd-from_zero 0 0 refl)
gcd_of_unique zero (suc b) g h = sym (only_divisor zero (suc b) g (omega arith) h)
gcd_of_unique (suc a) b g h = sym (only_divisor (suc a) b g (omega arith) h)

some_gcd : (turns a b : ℕ) → b ≤ turns → (g : ℕ) × IsGcd a b g
some_gcd zero a b h = (a, IsGcd-from_zero a b (omega arith))
some_gcd (suc turns) a b h = elim (cases_eq b 0) [ inl e ↦ (a, IsGcd-from_zero a b e) | inr n ↦ (let r = some_gcd turns b (a % b) (let l = mod_below a b (omega arith) in omega arith) in (r.0, IsGcd-from_mod a b r.0 r.1)) ]

pub gcd_of_is : (a b : ℕ) → IsGcd a b (gcd_of a b)
gcd_of_is a b = let r = some_gcd b a b (omega arith) in subst (λ g. IsGcd a b g) (gcd_of_unique a b r.0 r.1) r.1
