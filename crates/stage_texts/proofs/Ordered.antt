-- Subscripts whose dimensions are numbered by first appearance appear in order.
use Rattle.std.proofs.Common.{◌≡◌, ℕ, suc, ◌<◌, ◌⊎◌, inl, inr, Bool, true, false, List, [], ◌∷◌, ◌++◌, length, length-append, map, refl, sym, ap, ◌∙◌, subst, arith}
use Rattle.std.specs.Prelude.{nat_eq, flat_map, if◌then◌else◌}
use Rattle.std.proofs.lemmas.Bool.{eq-eqb}
use Rattle.std.proofs.lemmas.List.{map-append}
use Rattle.affine_expr.specs.declared.expr.Expr.{Expr, fold-roll-Expr, ind-Expr, map-Expr, roll-Expr}
use Rattle.affine_expr.specs.declared.expr.Expr.TheOpen.{Expr-F}
use Rattle.placement_texts.specs.Normal.{dims_step, dims_of, dim_to, renumbered, has, firsts, index_of, first_order}
use Rattle.printed_texts.specs.Writable.{Operand, Dimension, Symbol, Integer, operands_of, OperandsFit, Appear}
use Rattle.printed_texts.proofs.Operands.{operands-roll}
use Rattle.stage_texts.specs.Order.{SymbolsAppear, NormalAppears}

-- ---- operands
abbrev pub op_to : (ℕ → ℕ) → Operand → Operand
op_to f (Dimension n) = Dimension (f n)
op_to f (Symbol n) = Symbol n
op_to f (Integer z) = Integer z

abbrev dims_in : List Operand → List ℕ
dims_in [] = []
dims_in (Dimension n ∷ xs) = n ∷ dims_in xs
dims_in (Symbol n ∷ xs) = dims_in xs
dims_in (Integer z ∷ xs) = dims_in xs

dims_join : (xs ys : List Operand) → dims_in (xs ++ ys) ≡ dims_in xs ++ dims_in ys
dims_join [] ys = refl
dims_join (Dimension n ∷ xs) ys = ap (λ ns. n ∷ ns) (dims_join xs ys)
dims_join (Symbol n ∷ xs) ys = dims_join xs ys
dims_join (Integer z ∷ xs) ys = dims_join xs ys

dims-roll : (x : Expr-F Expr) → dims_of (roll-Expr x) ≡ dims_step (map-Expr Expr (List ℕ) dims_of x)
unfolding dims_of
dims-roll x = fold-roll-Expr (List ℕ) dims_step x

abbrev Told : Expr → Type 0
Told e = dims_of e ≡ dims_in (operands_of e)

two_told : (x : Expr-F Expr) (a b : Expr) → dims_step (map-Expr Expr (List ℕ) dims_of x) ≡ dims_of a ++ dims_of b → operands_of (roll-Expr x) ≡ operands_of a ++ operands_of b → Told a → Told b → Told (roll-Expr x)
two_told x a b d o p q = dims-roll x ∙ d ∙ (λ i. p i ++ q i) ∙ sym (dims_join (operands_of a) (operands_of b)) ∙ ap dims_in (sym o)

told_layer : (y : Expr-F ((e : Expr) × Told e)) → Told (roll-Expr (map-Expr ((e : Expr) × Told e) Expr (λ e. e.0) y))
told_layer (Expr-F.Dim n) = dims-roll (Expr-F.Dim n) ∙ ap dims_in (sym (operands-roll (Expr-F.Dim n)))
told_layer (Expr-F.Sym n) = dims-roll (Expr-F.Sym n) ∙ ap dims_in (sym (operands-roll (Expr-F.Sym n)))
told_layer (Expr-F.Const z) = dims-roll (Expr-F.Const z) ∙ ap dims_in (sym (operands-roll (Expr-F.Const z)))
told_layer (Expr-F.Neg a) = dims-roll (Expr-F.Neg a.0) ∙ a.1 ∙ ap dims_in (sym (operands-roll (Expr-F.Neg a.0)))
told_layer (Expr-F.Add a b) = two_told (Expr-F.Add a.0 b.0) a.0 b.0 refl (operands-roll (Expr-F.Add a.0 b.0)) a.1 b.1
told_layer (Expr-F.Sub a b) = two_told (Expr-F.Sub a.0 b.0) a.0 b.0 refl (operands-roll (Expr-F.Sub a.0 b.0)) a.1 b.1
told_layer (Expr-F.Mul a b) = two_told (Expr-F.Mul a.0 b.0) a.0 b.0 refl (operands-roll (Expr-F.Mul a.0 b.0)) a.1 b.1
told_layer (Expr-F.FloorDiv a b) = two_told (Expr-F.FloorDiv a.0 b.0) a.0 b.0 refl (operands-roll (Expr-F.FloorDiv a.0 b.0)) a.1 b.1
told_layer (Expr-F.CeilDiv a b) = two_told (Expr-F.CeilDiv a.0 b.0) a.0 b.0 refl (operands-roll (Expr-F.CeilDiv a.0 b.0)) a.1 b.1
told_layer (Expr-F.Mod a b) = two_told (Expr-F.Mod a.0 b.0) a.0 b.0 refl (operands-roll (Expr-F.Mod a.0 b.0)) a.1 b.1

dims_told : (e : Expr) → Told e
dims_told = ind-Expr Told (λ x y is. subst (λ z. Told (roll-Expr z)) is (told_layer y))

all_told : (es : List Expr) → flat_map dims_of es ≡ dims_in (flat_map operands_of es)
all_told [] = refl
all_told (e ∷ es) = (λ i. dims_told e i ++ all_told es i) ∙ sym (dims_join (operands_of e) (flat_map operands_of es))

module _ (f : ℕ → ℕ) where
  abbrev R : Expr-F Expr → Expr
  R x = roll-Expr (dim_to f x)

  renumbered-roll : (x : Expr-F Expr) → renumbered f (roll-Expr x) ≡ roll-Expr (dim_to f (map-Expr Expr Expr (renumbered f) x))
  unfolding renumbered
  renumbered-roll x = fold-roll-Expr Expr R x

  abbrev Goes : Expr → Type 0
  Goes e = operands_of (renumbered f e) ≡ map (op_to f) (operands_of e)

  two_go : (x x' : Expr-F Expr) (a b : Expr) → dim_to f (map-Expr Expr Expr (renumbered f) x) ≡ x' → operands_of (roll-Expr x') ≡ operands_of (renumbered f a) ++ operands_of (renumbered f b)
      → operands_of (roll-Expr x) ≡ operands_of a ++ operands_of b → Goes a → Goes b → Goes (roll-Expr x)
  two_go x x' a b d o n p q = ap operands_of (renumbered-roll x) ∙ ap (λ y. operands_of (roll-Expr y)) d ∙ o ∙ (λ i. p i ++ q i) ∙ sym (map-append (op_to f) (operands_of a) (operands_of b)) ∙ ap (map (op_to f)) (sym n)

  goes_layer : (y : Expr-F ((e : Expr) × Goes e)) → Goes (roll-Expr (map-Expr ((e : Expr) × Goes e) Expr (λ e. e.0) y))
  goes_layer (Expr-F.Dim n) = ap operands_of (renumbered-roll (Expr-F.Dim n)) ∙ operands-roll (Expr-F.Dim (f n)) ∙ ap (map (op_to f)) (sym (operands-roll (Expr-F.Dim n)))
  goes_layer (Expr-F.Sym n) = ap operands_of (renumbered-roll (Expr-F.Sym n)) ∙ operands-roll (Expr-F.Sym n) ∙ ap (map (op_to f)) (sym (operands-roll (Expr-F.Sym n)))
  goes_layer (Expr-F.Const z) = ap operands_of (renumbered-roll (Expr-F.Const z)) ∙ operands-roll (Expr-F.Const z) ∙ ap (map (op_to f)) (sym (operands-roll (Expr-F.Const z)))
  goes_layer (Expr-F.Neg a) = ap operands_of (renumbered-roll (Expr-F.Neg a.0)) ∙ operands-roll (Expr-F.Neg (renumbered f a.0)) ∙ a.1 ∙ ap (map (op_to f)) (sym (operands-roll (Expr-F.Neg a.0)))
  goes_layer (Expr-F.Add a b) = two_go (Expr-F.Add a.0 b.0) (Expr-F.Add (renumbered f a.0) (renumbered f b.0)) a.0 b.0 refl (operands-roll (Expr-F.Add (renumbered f a.0) (renumbered f b.0))) (operands-roll (Expr-F.Add a.0 b.0)) a.1 b.1
  goes_layer (Expr-F.Sub a b) = two_go (Expr-F.Sub a.0 b.0) (Expr-F.Sub (renumbered f a.0) (renumbered f b.0)) a.0 b.0 refl (operands-roll (Expr-F.Sub (renumbered f a.0) (renumbered f b.0))) (operands-roll (Expr-F.Sub a.0 b.0)) a.1 b.1
  goes_layer (Expr-F.Mul a b) = two_go (Expr-F.Mul a.0 b.0) (Expr-F.Mul (renumbered f a.0) (renumbered f b.0)) a.0 b.0 refl (operands-roll (Expr-F.Mul (renumbered f a.0) (renumbered f b.0))) (operands-roll (Expr-F.Mul a.0 b.0)) a.1 b.1
  goes_layer (Expr-F.FloorDiv a b) =
      two_go (Expr-F.FloorDiv a.0 b.0) (Expr-F.FloorDiv (renumbered f a.0) (renumbered f b.0)) a.0 b.0 refl (operands-roll (Expr-F.FloorDiv (renumbered f a.0) (renumbered f b.0))) (operands-roll (Expr-F.FloorDiv a.0 b.0)) a.1 b.1
  goes_layer (Expr-F.CeilDiv a b) =
      two_go (Expr-F.CeilDiv a.0 b.0) (Expr-F.CeilDiv (renumbered f a.0) (renumbered f b.0)) a.0 b.0 refl (operands-roll (Expr-F.CeilDiv (renumbered f a.0) (renumbered f b.0))) (operands-roll (Expr-F.CeilDiv a.0 b.0)) a.1 b.1
  goes_layer (Expr-F.Mod a b) = two_go (Expr-F.Mod a.0 b.0) (Expr-F.Mod (renumbered f a.0) (renumbered f b.0)) a.0 b.0 refl (operands-roll (Expr-F.Mod (renumbered f a.0) (renumbered f b.0))) (operands-roll (Expr-F.Mod a.0 b.0)) a.1 b.1

  pub operands_go : (e : Expr) → Goes e
  operands_go = ind-Expr Goes (λ x y is. subst (λ z. Goes (roll-Expr z)) is (goes_layer y))

  all_go : (es : List Expr) → flat_map operands_of (map (renumbered f) es) ≡ map (op_to f) (flat_map operands_of es)
  all_go [] = refl
  all_go (e ∷ es) = (λ i. operands_go e i ++ all_go es i) ∙ sym (map-append (op_to f) (operands_of e) (flat_map operands_of es))

-- ---- the order
index_less : (n : ℕ) (xs : List ℕ) → has n xs ≡ true → index_of n xs < length xs
index_less n [] h = absurd (let z : ⊥ = cc in z)
index_less n (x ∷ xs) h = by (nat_eq n x) h (index_less n xs)
  where
    by : (t : Bool) → (if t then true else has n xs) ≡ true → (has n xs ≡ true → index_of n xs < length xs) → (if t then 0 else suc (index_of n xs)) < suc (length xs)
    by true h r = omega arith
    by false h r = let k = r h in omega (arith, k)

index_left : (n : ℕ) (xs ys : List ℕ) → has n xs ≡ true → index_of n (xs ++ ys) ≡ index_of n xs
index_left n [] ys h = absurd (let z : ⊥ = cc in z)
index_left n (x ∷ xs) ys h = by (nat_eq n x) h (index_left n xs ys)
  where
    by : (t : Bool) → (if t then true else has n xs) ≡ true → (has n xs ≡ true → index_of n (xs ++ ys) ≡ index_of n xs) → (if t then 0 else suc (index_of n (xs ++ ys))) ≡ (if t then 0 else suc (index_of n xs))
    by true h r = refl
    by false h r = ap suc (r h)

has_last : (n : ℕ) (xs : List ℕ) → has n (xs ++ n ∷ []) ≡ true
has_last n [] = ap (λ t. if t then true else false) (eq-eqb n n refl)
has_last n (x ∷ xs) = by (nat_eq n x) (has_last n xs)
  where
    by : (t : Bool) → has n (xs ++ n ∷ []) ≡ true → (if t then true else has n (xs ++ n ∷ [])) ≡ true
    by true r = refl
    by false r = r

index_last : (n : ℕ) (xs : List ℕ) → has n xs ≡ false → index_of n (xs ++ n ∷ []) ≡ length xs
index_last n [] h = ap (λ t. if t then 0 else suc 0) (eq-eqb n n refl)
index_last n (x ∷ xs) h = by (nat_eq n x) h (index_last n xs)
  where
    by : (t : Bool) → (if t then true else has n xs) ≡ false → (has n xs ≡ false → index_of n (xs ++ n ∷ []) ≡ length xs) → (if t then 0 else suc (index_of n (xs ++ n ∷ []))) ≡ suc (length xs)
    by true h r = absurd (let z : ⊥ = cc in z)
    by false h r = ap suc (r h)

-- a number that was seen keeps its place
kept : (n : ℕ) (seen ns : List ℕ) → has n seen ≡ true → index_of n (firsts seen ns) ≡ index_of n seen
kept n seen [] h = refl
kept n seen (m ∷ ns) h = by (has m seen) (kept n seen ns h) (λ k. kept n (seen ++ m ∷ []) ns k)
  where
    left : (xs : List ℕ) → has n xs ≡ true → has n (xs ++ m ∷ []) ≡ true
    left [] h = absurd (let z : ⊥ = cc in z)
    left (x ∷ xs) h = one (nat_eq n x) h (left xs)
      where
        one : (t : Bool) → (if t then true else has n xs) ≡ true → (has n xs ≡ true → has n (xs ++ m ∷ []) ≡ true) → (if t then true else has n (xs ++ m ∷ [])) ≡ true
        one true h r = refl
        one false h r = r h

    by : (t : Bool) → index_of n (firsts seen ns) ≡ index_of n seen → (has n (seen ++ m ∷ []) ≡ true → index_of n (firsts (seen ++ m ∷ []) ns) ≡ index_of n (seen ++ m ∷ []))
        → index_of n (firsts (if t then seen else seen ++ m ∷ []) ns) ≡ index_of n seen
    by true same more = same
    by false same more = more (left seen h) ∙ index_left n seen (m ∷ []) h

appears : (xs : List Operand) (seen final : List ℕ) (k l d s : ℕ) → SymbolsAppear k xs l → OperandsFit d s xs → firsts seen (dims_in xs) ≡ final
    → Appear (length seen) k (map (op_to (λ n. index_of n final)) xs) (length final) l
appears [] seen final k l d s h f e = (ap (λ (ns : List ℕ). length ns) e, h)
appears (Dimension n ∷ xs) seen final k l d s h f e = by (has n seen) refl (λ next q. appears xs next final k l d s h f.1 q) e
  where
    by : (t : Bool) → has n seen ≡ t
        → ((next : List ℕ) → firsts next (dims_in xs) ≡ final → Appear (length next) k (map (op_to (λ n. index_of n final)) xs) (length final) l) → firsts (if t then seen else seen ++ n ∷ []) (dims_in xs) ≡ final
        → ((index_of n final < length seen) × Appear (length seen) k (map (op_to (λ n. index_of n final)) xs) (length final) l) ⊎ ((index_of n final ≡ length seen) × Appear (suc (length seen)) k (map (op_to (λ n. index_of n final)) xs) (length final) l)
    by true q more e = inl (subst (λ i. i < length seen) (sym (ap (index_of n) (sym e) ∙ kept n seen (dims_in xs) q)) (index_less n seen q), more seen e)
    by false q more e =
        let long : length (seen ++ n ∷ []) ≡ suc (length seen) = (let a = length-append seen (n ∷ []) in omega (arith, a)) in
        inr (
          ap (index_of n) (sym e) ∙ kept n (seen ++ n ∷ []) (dims_in xs) (has_last n seen) ∙ index_last n seen q,
          subst (λ i. Appear i k (map (op_to (λ n. index_of n final)) xs) (length final) l) long (more (seen ++ n ∷ []) e),
        )
appears (Symbol n ∷ xs) seen final k l d s (inl h) f e = inl (h.0, appears xs seen final k l d s h.1 f.1 e)
appears (Symbol n ∷ xs) seen final k l d s (inr h) f e = inr (h.0, appears xs seen final (suc k) l d s h.1 f.1 e)
appears (Integer z ∷ xs) seen final k l d s h f e = (f.0, appears xs seen final k l d s h f.1 e)

pub normal_appears : NormalAppears
normal_appears at h f =
    subst (λ xs. Appear 0 0 xs (length (first_order at)) at.map.syms) (sym (all_go (λ n. index_of n (first_order at)) at.map.results))
    (appears (flat_map operands_of at.map.results) [] (first_order at) 0 at.map.syms at.map.dims at.map.syms h f (ap (firsts []) (sym (all_told at.map.results))))
