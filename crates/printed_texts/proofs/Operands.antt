-- Expressions whose operands are told, one after the other, are spelled by their printed spelling.
use Rattle.std.proofs.Common.{◌≡◌, ℕ, zero, suc, ◌+◌, ◌≤◌, ◌<◌, Bool, true, false, ℤ, List, [], ◌∷◌, ◌++◌, length, take, Option, Some, None, slice_get, bytes_eq, if◌then◌else◌, refl, sym, ap, ◌∙◌, subst, inl, inr, arith}
use Rattle.std.proofs.lemmas.Slice.Eq.{bytes_eq-Decides}
use Rattle.affine_expr.specs.declared.expr.Expr.{Expr, fold-roll-Expr, ind-Expr, map-Expr, roll-Expr}
use Rattle.affine_expr.specs.declared.expr.Expr.TheVariants as e
use Rattle.affine_expr.specs.declared.expr.Expr.TheVariants.{rolls-Dim, rolls-Sym, rolls-Const, rolls-Neg, rolls-Add, rolls-Sub, rolls-Mul, rolls-FloorDiv, rolls-CeilDiv, rolls-Mod}
use Rattle.affine_expr.specs.declared.expr.Expr.TheOpen.{Expr-F}
use Rattle.affine_ast.specs.declared.name.Name.{Name}
use Rattle.affine_grammar.specs.declared.words.State.{State}
use Rattle.affine_grammar.specs.declared.words.Leaves.{Leaves}
use Rattle.affine_grammar.specs.declared.words.Leaves.TheVariants as leaves
use Rattle.affine_grammar.specs.declared.words.Operator.{Operator}
use Rattle.affine_grammar.specs.declared.words.Operator.TheVariants as operator
use Rattle.affine_grammar.specs.Token.{joined, number_of, next, counting, is_full, named, appearing, appears, dimension_of, symbol_of}
use Rattle.printed_texts.specs.Writable.{IsWritten, AllWritten, InRange, Positive, Negative, Operand, Dimension, Symbol, Integer, operands_step, operands_of, OperandFits, OperandsFit, Appear, AreApart}
use Rattle.printed_texts.proofs.Given.{named_is}
use Rattle.printed_texts.proofs.States.{full_by, number_of_some}
use Rattle.printed_texts.proofs.Params.{next_none}
use Rattle.printed_texts.proofs.Leaves.{Told, IsDim, IsSym, number_told, negative_told, parameter_told, dimension_told, symbol_told}
use Rattle.printed_texts.proofs.Expressions.{joined_told, neg_told}

-- ---- operands

pub operands-roll : (x : Expr-F Expr) → operands_of (roll-Expr x) ≡ operands_step (map-Expr Expr (List Operand) operands_of x)
unfolding operands_of
operands-roll x = fold-roll-Expr (List Operand) operands_step x

-- an operand alone
abbrev pub leaf_of : Operand → Expr
leaf_of (Dimension n) = e.Dim n
leaf_of (Symbol n) = e.Sym n
leaf_of (Integer z) = e.Const z

-- from one state to another, each operand is told as a leaf
abbrev pub Reads : Leaves → State → List Operand → State → Type 0
Reads l s [] t = s ≡ t
Reads l s (x ∷ xs) t = (u : State) × (Told l s (leaf_of x, u) × Reads l u xs t)

reads_split : (l : Leaves) (xs ys : List Operand) (s t : State) → Reads l s (xs ++ ys) t → (u : State) × (Reads l s xs u × Reads l u ys t)
reads_split l [] ys s t r = (s, (refl, r))
reads_split l (x ∷ xs) ys s t r = let i = reads_split l xs ys r.0 t r.1.1 in (i.0, ((r.0, (r.1.0, i.1.0)), i.1.1))

-- ---- expressions

abbrev Reading : Leaves → Expr → Type 0
Reading l x = (s t : State) → Reads l s (operands_of x) t → Told l s (x, t)

module _ (l : Leaves) where
  leaf_reads : (x : Expr) (o : Operand) → leaf_of o ≡ x → operands_of x ≡ o ∷ [] → Reading l x
  leaf_reads x o same h s t r =
      let q : Reads l s (o ∷ []) t = subst (λ xs. Reads l s xs t) h r in
      subst (λ y. Told l s (y, t)) same (subst (λ u. Told l s (leaf_of o, u)) q.1.1 q.1.0)

  two_read : (o : Operator) (a b x : Expr) → joined o a b ≡ x → operands_of x ≡ operands_of a ++ operands_of b → Reading l a → Reading l b → Reading l x
  two_read o a b x same h p q s t r =
      let i = reads_split l (operands_of a) (operands_of b) s t (subst (λ xs. Reads l s xs t) h r) in
      subst (λ y. Told l s (y, t)) same (joined_told l s (a, i.0) (b, t) o (p s i.0 i.1.0) (q i.0 t i.1.1))

  neg_reads : (a x : Expr) → e.Neg a ≡ x → operands_of x ≡ operands_of a → Reading l a → Reading l x
  neg_reads a x same h p s t r = subst (λ y. Told l s (y, t)) same (neg_told l s (a, t) (p s t (subst (λ xs. Reads l s xs t) h r)))

  one_layer : (y : Expr-F ((x : Expr) × Reading l x)) → Reading l (roll-Expr (map-Expr ((x : Expr) × Reading l x) Expr (λ x. x.0) y))
  one_layer (Expr-F.Dim n) = leaf_reads _ (Dimension n) (sym (rolls-Dim n)) (operands-roll (Expr-F.Dim n))
  one_layer (Expr-F.Sym n) = leaf_reads _ (Symbol n) (sym (rolls-Sym n)) (operands-roll (Expr-F.Sym n))
  one_layer (Expr-F.Const z) = leaf_reads _ (Integer z) (sym (rolls-Const z)) (operands-roll (Expr-F.Const z))
  one_layer (Expr-F.Neg a) = neg_reads a.0 _ (sym (rolls-Neg a.0)) (operands-roll (Expr-F.Neg a.0)) a.1
  one_layer (Expr-F.Add a b) = two_read operator.Add a.0 b.0 _ (sym (rolls-Add a.0 b.0)) (operands-roll (Expr-F.Add a.0 b.0)) a.1 b.1
  one_layer (Expr-F.Sub a b) = two_read operator.Sub a.0 b.0 _ (sym (rolls-Sub a.0 b.0)) (operands-roll (Expr-F.Sub a.0 b.0)) a.1 b.1
  one_layer (Expr-F.Mul a b) = two_read operator.Mul a.0 b.0 _ (sym (rolls-Mul a.0 b.0)) (operands-roll (Expr-F.Mul a.0 b.0)) a.1 b.1
  one_layer (Expr-F.FloorDiv a b) = two_read operator.FloorDiv a.0 b.0 _ (sym (rolls-FloorDiv a.0 b.0)) (operands-roll (Expr-F.FloorDiv a.0 b.0)) a.1 b.1
  one_layer (Expr-F.CeilDiv a b) = two_read operator.CeilDiv a.0 b.0 _ (sym (rolls-CeilDiv a.0 b.0)) (operands-roll (Expr-F.CeilDiv a.0 b.0)) a.1 b.1
  one_layer (Expr-F.Mod a b) = two_read operator.Mod a.0 b.0 _ (sym (rolls-Mod a.0 b.0)) (operands-roll (Expr-F.Mod a.0 b.0)) a.1 b.1

  -- what its operands are told to be, the whole expression is
  pub reading : (x : Expr) → Reading l x
  reading = ind-Expr (Reading l) (λ x y is. subst (λ z. Reading l (roll-Expr z)) is (one_layer y))

-- ---- integers

open_state : (s : State) → s.operands < 256 → s.total < 1048576 → is_full s ≡ false
open_state s a b = full_by s.operands s.total a b

integer_read : (l : Leaves) (s : State) (z : ℤ) → InRange z → is_full s ≡ false → Told l s (e.Const z, counting s)
integer_read l s z (Positive n q h) f = subst (λ (y : ℤ). Told l s (e.Const y, counting s)) (sym q) (number_told l s n h f)
integer_read l s z (Negative n q h) f = subst (λ (y : ℤ). Told l s (e.Const y, counting s)) (sym q) (negative_told l s (suc n) h f)

-- ---- parameters

-- operands over the parameters of a state, and the state behind them
pub record OverParameters (s : State) (xs : List Operand) : Type 0 where
  pub behind : State
  pub reads : Reads leaves.Parameters s xs behind
  pub dims : behind.dims ≡ s.dims
  pub syms : behind.syms ≡ s.syms
  pub total : behind.total ≡ s.total + length xs

parameter_read : (s : State) (x : Operand) → OperandFits (length s.dims) (length s.syms) x → is_full s ≡ false → Told leaves.Parameters s (leaf_of x, counting s)
parameter_read s (Dimension n) h f = parameter_told s (e.Dim n, counting s) f (IsDim n refl h)
parameter_read s (Symbol n) h f = parameter_told s (e.Sym n, counting s) f (IsSym n refl h)
parameter_read s (Integer z) h f = integer_read leaves.Parameters s z h f

pub parameters_read : (xs : List Operand) (s : State) → OperandsFit (length s.dims) (length s.syms) xs → s.operands + length xs ≤ 256 → s.total + length xs ≤ 1048576 → OverParameters s xs
parameters_read [] s h a b = record { behind = s; reads = refl; dims = refl; syms = refl; total = omega arith }
parameters_read (x ∷ xs) s h a b =
    let t = parameter_read s x h.0 (open_state s (omega (arith, a)) (omega (arith, b))) in
    let r = parameters_read xs (counting s) h.1 (omega (arith, a)) (omega (arith, b)) in
    let n = r.total in
    record { behind = r.behind; reads = (counting s, (t, r.reads)); dims = r.dims; syms = r.syms; total = omega (arith, n) }

-- ---- names by their numbers

written_at : (names : List Name) (i : ℕ) → i < length names → AllWritten names → (v : Name) × ((slice_get names i ≡ Some v) × IsWritten v)
written_at [] i h w = absurd (omega (arith, h))
written_at (n ∷ names) zero h w = (n, (refl, w.0))
written_at (n ∷ names) (suc i) h w = written_at names i (omega (arith, h)) w.1

get_take : (names : List Name) (k i : ℕ) (v : Name) → i < k → slice_get names i ≡ Some v → slice_get (take k names) i ≡ Some v
get_take [] k i v l h = absurd cc
get_take (n ∷ names) zero i v l h = absurd (omega (arith, l))
get_take (n ∷ names) (suc k) zero v l h = h
get_take (n ∷ names) (suc k) (suc i) v l h = get_take names k i v (omega (arith, l)) h

get_taken : (names : List Name) (k i : ℕ) (v : Name) → slice_get (take k names) i ≡ Some v → slice_get names i ≡ Some v
get_taken [] zero i v h = absurd cc
get_taken [] (suc k) i v h = absurd cc
get_taken (n ∷ names) zero i v h = absurd cc
get_taken (n ∷ names) (suc k) zero v h = h
get_taken (n ∷ names) (suc k) (suc i) v h = get_taken names k i v h

taken_length : (names : List Name) (k : ℕ) → length (take k names) ≤ k
taken_length [] zero = omega arith
taken_length [] (suc k) = omega arith
taken_length (n ∷ names) zero = omega arith
taken_length (n ∷ names) (suc k) = omega (arith, taken_length names k)

length_taken : (names : List Name) (k : ℕ) → k ≤ length names → length (take k names) ≡ k
length_taken [] zero h = refl
length_taken [] (suc k) h = absurd (omega (arith, h))
length_taken (n ∷ names) zero h = refl
length_taken (n ∷ names) (suc k) h = omega (arith, length_taken names k (omega (arith, h)))

one_more : (names : List Name) (i : ℕ) (v : Name) → slice_get names i ≡ Some v → take i names ++ v ∷ [] ≡ take (suc i) names
one_more [] i v h = absurd cc
one_more (n ∷ names) zero v h = let q : n ≡ v = cc in ap (λ (m : Name). m ∷ []) (sym q)
one_more (n ∷ names) (suc i) v h = ap (λ l. n ∷ l) (one_more names i v h)

-- a name that stands in a list has a number there
pub not_none : (w : List ℕ) (names : List Name) (i : ℕ) (v : Name) → slice_get names i ≡ Some v → v.text ≡ w → number_of w names ≡ None → ⊥
not_none w [] i v h t n = absurd cc
not_none w (m ∷ names) zero v h t n =
    let q : m ≡ v = cc in
    let r : bytes_eq m.text w ≡ true = (bytes_eq-Decides m.text w).1 (ap (λ (x : Name). x.text) q ∙ t) in
    let z : Some 0 ≡ None = ap (λ b. if b then Some 0 else next (number_of w names)) (sym r) ∙ n in
    cc
not_none w (m ∷ names) (suc i) v h t n = by_test (not_none w names i v h t) (bytes_eq m.text w) n
  where
    by_test : (number_of w names ≡ None → ⊥) → (b : Bool) → (if b then Some 0 else next (number_of w names)) ≡ None → ⊥
    by_test ih true q = cc
    by_test ih false q = ih (next_none (number_of w names) q)

module _ (names : List Name) (apart : AreApart names) where
  -- a value among those before has its number there
  seen : (k i : ℕ) (v : Name) → slice_get names i ≡ Some v → i < k → number_of v.text (take k names) ≡ Some i
  seen k i v h l = by_number (number_of v.text (take k names)) refl
    where
      by_number : (o : Option ℕ) → number_of v.text (take k names) ≡ o → number_of v.text (take k names) ≡ Some i
      by_number None q = absurd (not_none v.text (take k names) i v (get_take names k i v l h) refl q)
      by_number (Some j) q =
          let r = number_of_some v.text (take k names) j q in
          let same : j ≡ i = apart j i r.name v (get_taken names k j r.name r.found) h r.text in
          q ∙ ap (λ m. Some m) same

  -- the next one has none
  unseen : (i : ℕ) (v : Name) → slice_get names i ≡ Some v → number_of v.text (take i names) ≡ None
  unseen i v h = by_number (number_of v.text (take i names)) refl
    where
      by_number : (o : Option ℕ) → number_of v.text (take i names) ≡ o → number_of v.text (take i names) ≡ None
      by_number None q = q
      by_number (Some j) q =
          let r = number_of_some v.text (take i names) j q in
          let same : j ≡ i = apart j i r.name v (get_taken names i j r.name r.found) h r.text in
          let below = r.below in
          let short = taken_length names i in
          absurd (omega (arith, same, below, short))

-- what the appearance of a value makes of the values before it
record Appears (names before : List Name) (i m : ℕ) : Type 0 where
  value : Name
  written : IsWritten value
  number : (appears value.text before).0 ≡ i
  names_are : (appears value.text before).1 ≡ take m names

module _ (names : List Name) (written : AllWritten names) (apart : AreApart names) where
  appears_seen : (before : List Name) (n i : ℕ) → before ≡ take n names → i < n → n ≤ length names → Appears names before i n
  appears_seen before n i e l h =
      let v = written_at names i (omega (arith, l, h)) written in
      let q : number_of v.0.text before ≡ Some i = ap (number_of v.0.text) e ∙ seen names apart n i v.0 v.1.0 l in
      record {
        value = v.0;
        written = v.1.1;
        number = ap (λ o. (appearing o v.0.text before).0) q;
        names_are = ap (λ o. (appearing o v.0.text before).1) q ∙ e;
      }

  appears_next : (before : List Name) (n : ℕ) → before ≡ take n names → suc n ≤ length names → Appears names before n (suc n)
  appears_next before n e h =
      let v = written_at names n (omega (arith, h)) written in
      let q : number_of v.0.text before ≡ None = ap (number_of v.0.text) e ∙ unseen names apart n v.0 v.1.0 in
      record {
        value = v.0;
        written = v.1.1;
        number = ap (λ o. (appearing o v.0.text before).0) q ∙ ap (λ (l : List Name). length l) e ∙ length_taken names n (omega (arith, h));
        names_are = ap (λ o. (appearing o v.0.text before).1) q ∙ ap (λ l. l ++ named v.0.text ∷ []) e ∙ ap (λ (m : Name). take n names ++ m ∷ []) (named_is v.0 v.1.1) ∙ one_more names n v.0 v.1.0;
      }

-- ---- values

pub appear_grows : (xs : List Operand) (n k m l : ℕ) → Appear n k xs m l → (n ≤ m) × (k ≤ l)
appear_grows [] n k m l h = (omega (arith, h.0), omega (arith, h.1))
appear_grows (Dimension i ∷ xs) n k m l (inl h) = appear_grows xs n k m l h.1
appear_grows (Dimension i ∷ xs) n k m l (inr h) = let g = appear_grows xs (suc n) k m l h.1 in let a = g.0 in (omega (arith, a), g.1)
appear_grows (Symbol i ∷ xs) n k m l (inl h) = appear_grows xs n k m l h.1
appear_grows (Symbol i ∷ xs) n k m l (inr h) = let g = appear_grows xs n (suc k) m l h.1 in let a = g.1 in (g.0, omega (arith, a))
appear_grows (Integer z ∷ xs) n k m l h = appear_grows xs n k m l h.1

-- operands that stand one behind the other
pub record AppearParts (n k : ℕ) (xs ys : List Operand) (m l : ℕ) : Type 0 where
  pub dims : ℕ
  pub syms : ℕ
  pub first : Appear n k xs dims syms
  pub second : Appear dims syms ys m l

pub appear_split : (xs ys : List Operand) (n k m l : ℕ) → Appear n k (xs ++ ys) m l → AppearParts n k xs ys m l
appear_split [] ys n k m l h = record { dims = n; syms = k; first = (refl, refl); second = h }
appear_split (Dimension i ∷ xs) ys n k m l (inl h) = let r = appear_split xs ys n k m l h.1 in record { dims = r.dims; syms = r.syms; first = inl (h.0, r.first); second = r.second }
appear_split (Dimension i ∷ xs) ys n k m l (inr h) = let r = appear_split xs ys (suc n) k m l h.1 in record { dims = r.dims; syms = r.syms; first = inr (h.0, r.first); second = r.second }
appear_split (Symbol i ∷ xs) ys n k m l (inl h) = let r = appear_split xs ys n k m l h.1 in record { dims = r.dims; syms = r.syms; first = inl (h.0, r.first); second = r.second }
appear_split (Symbol i ∷ xs) ys n k m l (inr h) = let r = appear_split xs ys n (suc k) m l h.1 in record { dims = r.dims; syms = r.syms; first = inr (h.0, r.first); second = r.second }
appear_split (Integer z ∷ xs) ys n k m l h = let r = appear_split xs ys n k m l h.1 in record { dims = r.dims; syms = r.syms; first = (h.0, r.first); second = r.second }

module _ (ds ss : List Name) (dims_written : AllWritten ds) (syms_written : AllWritten ss) (dims_apart : AreApart ds) (syms_apart : AreApart ss) where
  -- so many of the values have stood
  pub record Stood (s : State) (n k : ℕ) : Type 0 where
    pub dims : s.dims ≡ take n ds
    pub syms : s.syms ≡ take k ss

  -- operands that are values, and the state behind them
  pub record OverValues (s : State) (xs : List Operand) (m l : ℕ) : Type 0 where
    pub behind : State
    pub reads : Reads leaves.Values s xs behind
    pub stood : Stood behind m l
    pub total : behind.total ≡ s.total + length xs

  more_values : (s u : State) (x : Operand) (xs : List Operand) (m l : ℕ) → Told leaves.Values s (leaf_of x, u) → u.total ≡ s.total + 1 → OverValues u xs m l → OverValues s (x ∷ xs) m l
  more_values s u x xs m l t n r = let total = r.total in record { behind = r.behind; reads = (u, (t, r.reads)); stood = r.stood; total = omega (arith, total, n) }

  dimension_read : (s : State) (i n m k : ℕ) → Appears ds s.dims i m → Stood s n k → is_full s ≡ false → (u : State) × (Told leaves.Values s (e.Dim i, u) × (Stood u m k × ((u.total ≡ s.total + 1) × (u.operands ≡ s.operands + 1))))
  dimension_read s i n m k a h f =
      let u : State = (dimension_of s a.value.text).1 in
      (u, (subst (λ (j : ℕ). Told leaves.Values s (e.Dim j, u)) a.number (dimension_told s a.value.text a.written.form f), (record { dims = a.names_are; syms = h.syms }, (refl, refl))))

  symbol_read : (s : State) (i n k l : ℕ) → Appears ss s.syms i l → Stood s n k → is_full s ≡ false → (u : State) × (Told leaves.Values s (e.Sym i, u) × (Stood u n l × ((u.total ≡ s.total + 1) × (u.operands ≡ s.operands + 1))))
  symbol_read s i n k l a h f =
      let u : State = (symbol_of s a.value.text).1 in
      (u, (subst (λ (j : ℕ). Told leaves.Values s (e.Sym j, u)) a.number (symbol_told s a.value.text a.written.form f), (record { dims = h.dims; syms = a.names_are }, (refl, refl))))

  pub values_read : (xs : List Operand) (s : State) (n k m l : ℕ) → Stood s n k → Appear n k xs m l → m ≤ length ds → l ≤ length ss → s.operands + length xs ≤ 256 → s.total + length xs ≤ 1048576 → OverValues s xs m l
  values_read [] s n k m l h a dm lm o t = record {
    behind = s;
    reads = refl;
    stood = record { dims = h.dims ∙ ap (λ j. take j ds) a.0; syms = h.syms ∙ ap (λ j. take j ss) a.1 };
    total = omega arith;
  }
  values_read (Dimension i ∷ xs) s n k m l h (inl a) dm lm o t =
      let g = (appear_grows xs n k m l a.1).0 in
      let r = dimension_read s i n n k (appears_seen ds dims_written dims_apart s.dims n i h.dims a.0 (omega (arith, g, dm))) h (open_state s (omega (arith, o)) (omega (arith, t))) in
      let p = r.1.1.1.0 in
      let q = r.1.1.1.1 in
      more_values s r.0 (Dimension i) xs m l r.1.0 p (values_read xs r.0 n k m l r.1.1.0 a.1 dm lm (omega (arith, o, q)) (omega (arith, t, p)))
  values_read (Dimension i ∷ xs) s n k m l h (inr a) dm lm o t =
      let g = (appear_grows xs (suc n) k m l a.1).0 in
      let r = dimension_read s n n (suc n) k (appears_next ds dims_written dims_apart s.dims n h.dims (omega (arith, g, dm))) h (open_state s (omega (arith, o)) (omega (arith, t))) in
      let p = r.1.1.1.0 in
      let q = r.1.1.1.1 in
      more_values s r.0 (Dimension i) xs m l (subst (λ j. Told leaves.Values s (e.Dim j, r.0)) (sym a.0) r.1.0) p (values_read xs r.0 (suc n) k m l r.1.1.0 a.1 dm lm (omega (arith, o, q)) (omega (arith, t, p)))
  values_read (Symbol i ∷ xs) s n k m l h (inl a) dm lm o t =
      let g = (appear_grows xs n k m l a.1).1 in
      let r = symbol_read s i n k k (appears_seen ss syms_written syms_apart s.syms k i h.syms a.0 (omega (arith, g, lm))) h (open_state s (omega (arith, o)) (omega (arith, t))) in
      let p = r.1.1.1.0 in
      let q = r.1.1.1.1 in
      more_values s r.0 (Symbol i) xs m l r.1.0 p (values_read xs r.0 n k m l r.1.1.0 a.1 dm lm (omega (arith, o, q)) (omega (arith, t, p)))
  values_read (Symbol i ∷ xs) s n k m l h (inr a) dm lm o t =
      let g = (appear_grows xs n (suc k) m l a.1).1 in
      let r = symbol_read s k n k (suc k) (appears_next ss syms_written syms_apart s.syms k h.syms (omega (arith, g, lm))) h (open_state s (omega (arith, o)) (omega (arith, t))) in
      let p = r.1.1.1.0 in
      let q = r.1.1.1.1 in
      more_values s r.0 (Symbol i) xs m l (subst (λ j. Told leaves.Values s (e.Sym j, r.0)) (sym a.0) r.1.0) p (values_read xs r.0 n (suc k) m l r.1.1.0 a.1 dm lm (omega (arith, o, q)) (omega (arith, t, p)))
  values_read (Integer z ∷ xs) s n k m l h a dm lm o t =
      more_values s (counting s) (Integer z) xs m l (integer_read leaves.Values s z a.0 (open_state s (omega (arith, o)) (omega (arith, t)))) refl
      (values_read xs (counting s) n k m l (record { dims = h.dims; syms = h.syms }) a.1 dm lm (omega (arith, o)) (omega (arith, t)))
