-- Registers by number, as the values of names.
use Rattle.std.proofs.Common.{◌≡◌, ℕ, zero, suc, ◌<◌, ◌≤◌, subst, ℤ, pos, List, [], ◌∷◌, length, map, get_or, set, refl, sym, ap, ◌∙◌, arith, Bool, true, false}
use mathlib.Core.Path.{fun_ext}
use Rattle.std.specs.List.{All}
use Rattle.std.proofs.lemmas.List.Elements.{All-head, All-tail}
use Rattle.std.specs.Prelude.{Option, Some, None, replicate}
use Rattle.affine_ast.specs.declared.name.Name.{Name}
use Rattle.affine_ast.specs.Names.{same_name, put}
use Rattle.affine_ast.proofs.Names.{put-same, put-other}
use Rattle.direct_meaning.specs.Static.{number}
use Rattle.walk_program.specs.Names.{name_at, AreDistinct}
use Rattle.walk_actions.specs.Looked.{looked}
use Rattle.walk_actions.proofs.Tables.{looked_at, looked_set}
use Rattle.walk_actions.specs.declared.action.Operand.{Operand}
use Rattle.walk_actions.specs.declared.action.Operand.TheVariants.{Number, Register}
use Rattle.walk_actions.specs.Meant.{operand_meant, OperandIn}
use Rattle.direct_meaning.specs.Direct.{read}
use Rattle.run_parts.specs.Registered.{held, number_of}

cases : {P : Type 0} (b : Bool) → (b ≡ true → P) → (b ≡ false → P) → P
cases true y n = y refl
cases false y n = n refl

length_some : (zs : List ℤ) → length (map (λ z. Some z) zs) ≡ length zs
length_some [] = refl
length_some (z ∷ zs) = ap suc (length_some zs)

some_at : (zs : List ℤ) (k : ℕ) (d : ℤ) → k < length zs → get_or (map (λ z. Some z) zs) k None ≡ Some (get_or zs k d)
some_at [] k d h = absurd (omega (arith, h))
some_at (z ∷ zs) zero d h = refl
some_at (z ∷ zs) (suc k) d h = some_at zs k d (omega (arith, h))

some_set : (zs : List ℤ) (k : ℕ) (z : ℤ) → map (λ z. Some z) (set zs k z) ≡ set (map (λ z. Some z) zs) k (Some z)
some_set [] k z = refl
some_set (y ∷ zs) zero z = refl
some_set (y ∷ zs) (suc k) z = ap (λ l. Some y ∷ l) (some_set zs k z)

-- the value of a name is the one at its number
pub held_name : (names : List Name) (zs : List ℤ) (k : ℕ) (d : ℤ) → AreDistinct names → length zs ≡ length names → k < length names → held names zs (name_at names k) ≡ get_or zs k d
held_name names zs k d distinct l h =
    ap number (looked_at names (map (λ z. Some z) zs) k distinct (length_some zs ∙ l) h ∙ some_at zs k d (omega (arith, h, l)))

number_put : (f : Name → Option ℤ) (n : Name) (z : ℤ) → (λ m. number (put f n (Some z) m)) ≡ put (λ m. number (f m)) n z
number_put f n z = fun_ext (λ m. cases (same_name n m)
    (λ s. ap number (put-same f n (Some z) m s) ∙ sym (put-same (λ m. number (f m)) n z m s))
    (λ s. ap number (put-other f n (Some z) m s) ∙ sym (put-other (λ m. number (f m)) n z m s)))

-- writing the value at a number changes what its name has, and nothing else
pub held_set : (names : List Name) (zs : List ℤ) (k : ℕ) (z : ℤ) → AreDistinct names → length zs ≡ length names → k < length names → held names (set zs k z) ≡ put (held names zs) (name_at names k) z
held_set names zs k z distinct l h =
    ap (λ xs m. number (looked names xs m)) (some_set zs k z)
    ∙ ap (λ f m. number (f m)) (looked_set names (map (λ z. Some z) zs) k (Some z) distinct (length_some zs ∙ l) h)
    ∙ number_put (looked names (map (λ z. Some z) zs)) (name_at names k) z

all_zero : (names : List Name) (count : ℕ) (n : Name) → held names (replicate count (pos 0)) n ≡ pos 0
unfolding looked
all_zero [] count n = refl
all_zero (m ∷ names) zero n = refl
all_zero (m ∷ names) (suc count) n = cases (same_name m n) (λ s. rw s refl) (λ s. rw s (all_zero names count n))

pub held_zero : (names : List Name) (count : ℕ) → held names (replicate count (pos 0)) ≡ (λ n. pos 0)
held_zero names count = fun_ext (all_zero names count)

-- the value of an operand
pub number_read : (names : List Name) (zs : List ℤ) (x : Operand) → AreDistinct names → length zs ≡ length names → OperandIn (length names) x → number_of zs x ≡ read (held names zs) (operand_meant names x)
unfolding read
number_read names zs (Number z) d l h = refl
number_read names zs (Register k) d l h = sym (held_name names zs k (pos 0) d l h)

pub numbers_read : (names : List Name) (zs : List ℤ) (xs : List Operand) → AreDistinct names → length zs ≡ length names → All (OperandIn (length names)) xs → map (number_of zs) xs ≡ map (read (held names zs)) (map (operand_meant names) xs)
numbers_read names zs [] d l h = refl
numbers_read names zs (x ∷ xs) d l h = (λ i. number_read names zs x d l (All-head (OperandIn (length names)) x xs h) i ∷ numbers_read names zs xs d l (All-tail (OperandIn (length names)) x xs h) i)

module _ (names : List Name) (zs : List ℤ) (k : ℕ) (distinct : AreDistinct names) (l : length zs ≡ length names) (h : k < length names) where
  pub held_at : (d : ℤ) → held names zs (name_at names k) ≡ get_or zs k d
  held_at d = held_name names zs k d distinct l h

  -- a register written
  pub kept : (z : ℤ) (after : List ℤ) → after ≡ set zs k z → held names after ≡ put (held names zs) (name_at names k) z
  kept z after e = ap (held names) e ∙ held_set names zs k z distinct l h
