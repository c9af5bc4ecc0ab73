-- Arguments, accesses and dimensions, one after the other.
use Rattle.std.proofs.Common.{[], ◌∷◌, refl, Bool, List, None, ap, arith, cond, drop, false, get_or, length, suc, sym, true, ℕ, ◌&&◌, ◌+◌, ◌<◌, ◌∙◌, ◌≡◌, ◌≤◌}
use Rattle.std.specs.Ordering.{int_eq}
use Rattle.nest_domain.specs.Boxes.{Dimension}
use Rattle.affine_ast.specs.declared.module.Arg.{Arg}
use Rattle.affine_ast.specs.declared.name.Name.{Name}
use Rattle.affine_ast.specs.Names.{same_name}
use Rattle.plan_laws.specs.Plan.{argument_number, type_of, type_of_kind, same_extents}
use Rattle.hoisted_sites.proofs.Accessing.{drop_next, drop_over}

-- ---- the argument of a name
module _ (args : List Arg) (m : Name) where
  pub number_found : (i : ℕ) (x : Arg) → i < length args → x ≡ get_or args i x → same_name x.name m ≡ true → argument_number args m ≡ i + argument_number (drop i args) m → i ≡ argument_number args m
  number_found i x h is e inv = sym (inv ∙ ap (λ l. i + argument_number l m) (drop_next args i x h is) ∙ ap (λ b. i + cond b 0 (suc (argument_number (drop (i + 1) args) m))) e ∙ zero_more i)
    where
      zero_more : (i : ℕ) → i + 0 ≡ i
      zero_more i = omega arith

  pub number_goes_on : (i : ℕ) (x : Arg) → i < length args → x ≡ get_or args i x → same_name x.name m ≡ false → argument_number args m ≡ i + argument_number (drop i args) m → argument_number args m ≡ (i + 1) + argument_number (drop (i + 1) args) m
  number_goes_on i x h is e inv = inv ∙ ap (λ l. i + argument_number l m) (drop_next args i x h is) ∙ ap (λ b. i + cond b 0 (suc (argument_number (drop (i + 1) args) m))) e ∙ one_more i (argument_number (drop (i + 1) args) m)
    where
      one_more : (i k : ℕ) → i + suc k ≡ (i + 1) + k
      one_more i k = omega arith

  pub number_ends : (i : ℕ) → length args ≤ i → i ≤ length args → argument_number args m ≡ i + argument_number (drop i args) m → length args ≡ argument_number args m
  number_ends i h k inv = sym (inv ∙ ap (λ l. i + argument_number l m) (drop_over args i h) ∙ all i (length args) h k)
    where
      all : (i n : ℕ) → n ≤ i → i ≤ n → i + 0 ≡ n
      all i n h k = omega (arith, h, k)

  pub type_found : (i : ℕ) (x : Arg) → i < length args → x ≡ get_or args i x → same_name x.name m ≡ true → type_of args m ≡ type_of (drop i args) m → type_of args m ≡ type_of_kind x.kind
  type_found i x h is e inv = inv ∙ ap (λ l. type_of l m) (drop_next args i x h is) ∙ ap (λ b. cond b (type_of_kind x.kind) (type_of (drop (i + 1) args) m)) e

  pub type_goes_on : (i : ℕ) (x : Arg) → i < length args → x ≡ get_or args i x → same_name x.name m ≡ false → type_of args m ≡ type_of (drop i args) m → type_of args m ≡ type_of (drop (i + 1) args) m
  type_goes_on i x h is e inv = inv ∙ ap (λ l. type_of l m) (drop_next args i x h is) ∙ ap (λ b. cond b (type_of_kind x.kind) (type_of (drop (i + 1) args) m)) e

  pub type_ends : (i : ℕ) → length args ≤ i → type_of args m ≡ type_of (drop i args) m → type_of args m ≡ None
  type_ends i h inv = inv ∙ ap (λ l. type_of l m) (drop_over args i h)

-- ---- extents
pub other_lengths : (left right : List Dimension) → (length left ≡ length right → ⊥) → same_extents left right ≡ false
other_lengths [] [] h = absurd (h refl)
other_lengths [] (e ∷ es) h = refl
other_lengths (d ∷ ds) [] h = refl
other_lengths (d ∷ ds) (e ∷ es) h = ap (λ b. int_eq d.extent e.extent && b) (other_lengths ds es (λ k. h (ap suc k))) ∙ never (int_eq d.extent e.extent)
  where
    never : (b : Bool) → (b && false) ≡ false
    never true = refl
    never false = refl
