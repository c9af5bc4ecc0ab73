-- The operands of the expressions of a given text, one after the other.
use Rattle.std.proofs.Common.{◌≡◌, ℕ, zero, suc, ◌+◌, ◌≤◌, ◌<◌, false, ℤ, List, [], ◌∷◌, ◌++◌, length, codes, Option, Some, None, slice_get, refl, sym, ap, ◌∙◌, subst, inl, inr, ◌⊎◌, length-append, arith}
use Rattle.readers.specs.Languages.{Nothing, One, Both, Either, Many, none, more}
use Rattle.affine_expr.specs.declared.expr.Expr.{Expr}
use Rattle.affine_expr.specs.declared.expr.Expr.TheVariants as e
use Rattle.affine_expr.specs.declared.expr.Expr.TheVariants.{rolls-Dim, rolls-Sym, rolls-Const, rolls-Neg, rolls-Add, rolls-Sub, rolls-Mul, rolls-FloorDiv, rolls-CeilDiv, rolls-Mod}
use Rattle.affine_expr.specs.declared.expr.Expr.TheOpen.{Expr-F}
use Rattle.affine_ast.specs.declared.name.Name.{Name}
use Rattle.affine_grammar.specs.declared.words.State.{State}
use Rattle.affine_grammar.specs.declared.words.Leaves.{Leaves}
use Rattle.affine_grammar.specs.declared.words.Leaves.TheVariants as leaves
use Rattle.affine_grammar.specs.declared.words.Operator.{Operator}
use Rattle.affine_grammar.specs.declared.words.Operator.TheVariants as operator
use Rattle.affine_grammar.specs.Token.{Tok, class, word, integer, negative, number, negative_number, counted_leaf, joined, number_of, counting, is_full, named, appearing, appears, dimension_of, symbol_of, parameter_of, of_keyword, of_value}
use Rattle.affine_grammar.specs.Grammar.{Spelling, Factor, Product, Summand, Sum, UnaryOf, Other, Unary, Leaf, Expression, begun}
use Rattle.printed_texts.specs.Writable.{IsValueName, IsWritten, AllWritten, InRange, Positive, Operand, Dimension, Symbol, Integer, operands_of, OperandFits, OperandsFit, Appear, AreApart}
use Rattle.affine_grammar.proofs.Names.{string_is}
use Rattle.printed_texts.proofs.Given.{Given, name_ascii, given_left, given_right, given_one, limited_some, of_keyword_some, of_value_some, value_name, integer_given, negative_given, named_written}
use Rattle.printed_texts.proofs.Types.{negative_range}
use Rattle.printed_texts.proofs.States.{not_full, number_of_some}
use Rattle.printed_texts.proofs.Leaves.{IsParameter, IsDim, IsSym, parameter_is, counted_some}
use Rattle.printed_texts.proofs.Operands.{operands-roll, leaf_of, not_none}

-- ---- the operands of an expression

pub operands_leaf : (x : Operand) → operands_of (leaf_of x) ≡ x ∷ []
operands_leaf (Dimension n) = ap operands_of (sym (rolls-Dim n)) ∙ operands-roll (Expr-F.Dim n)
operands_leaf (Symbol n) = ap operands_of (sym (rolls-Sym n)) ∙ operands-roll (Expr-F.Sym n)
operands_leaf (Integer z) = ap operands_of (sym (rolls-Const z)) ∙ operands-roll (Expr-F.Const z)

operands-Neg : (a : Expr) → operands_of (e.Neg a) ≡ operands_of a
operands-Neg a = ap operands_of (sym (rolls-Neg a)) ∙ operands-roll (Expr-F.Neg a)

pub operands-joined : (o : Operator) (a b : Expr) → operands_of (joined o a b) ≡ operands_of a ++ operands_of b
operands-joined operator.Add a b = ap operands_of (sym (rolls-Add a b)) ∙ operands-roll (Expr-F.Add a b)
operands-joined operator.Sub a b = ap operands_of (sym (rolls-Sub a b)) ∙ operands-roll (Expr-F.Sub a b)
operands-joined operator.Mul a b = ap operands_of (sym (rolls-Mul a b)) ∙ operands-roll (Expr-F.Mul a b)
operands-joined operator.FloorDiv a b = ap operands_of (sym (rolls-FloorDiv a b)) ∙ operands-roll (Expr-F.FloorDiv a b)
operands-joined operator.CeilDiv a b = ap operands_of (sym (rolls-CeilDiv a b)) ∙ operands-roll (Expr-F.CeilDiv a b)
operands-joined operator.Mod a b = ap operands_of (sym (rolls-Mod a b)) ∙ operands-roll (Expr-F.Mod a b)

-- ---- one operand more

-- what an operand of a given text makes of the state before it
abbrev pub Step : Leaves → State → Operand → State → Type 0
Step leaves.Parameters s x u = OperandFits (length s.dims) (length s.syms) x × (u ≡ counting s)
Step leaves.Values s (Dimension i) u = (w : List ℕ) × (IsValueName w × ((i ≡ (appears w s.dims).0) × (u ≡ (dimension_of s w).1)))
Step leaves.Values s (Symbol i) u = (w : List ℕ) × (IsValueName w × ((i ≡ (appears w s.syms).0) × (u ≡ (symbol_of s w).1)))
Step leaves.Values s (Integer z) u = InRange z × (u ≡ counting s)

abbrev pub Walks : Leaves → State → List Operand → State → Type 0
Walks l s [] t = s ≡ t
Walks l s (x ∷ xs) t = (is_full s ≡ false) × ((u : State) × (Step l s x u × Walks l u xs t))

walks_append : (l : Leaves) (xs ys : List Operand) (s t u : State) → Walks l s xs t → Walks l t ys u → Walks l s (xs ++ ys) u
walks_append l [] ys s t u h k = subst (λ r. Walks l r ys u) (sym h) k
walks_append l (x ∷ xs) ys s t u h k = (h.0, (h.1.0, (h.1.1.0, walks_append l xs ys h.1.0 t u h.1.1.1 k)))

-- the operands of an expression lead from the state before it to that behind it
abbrev pub Walked : Leaves → State → Expr × State → Type 0
Walked l s p = Walks l s (operands_of p.0) p.1

one_walked : (l : Leaves) (s : State) (x : Operand) (u : State) → is_full s ≡ false → Step l s x u → Walked l s (leaf_of x, u)
one_walked l s x u f h = subst (λ xs. Walks l s xs u) (sym (operands_leaf x)) (f, (u, (h, refl)))

joined_walked : (l : Leaves) (s : State) (a b : Expr × State) (o : Operator) → Walked l s a → Walked l a.1 b → Walked l s (joined o a.0 b.0, b.1)
joined_walked l s a b o h k = subst (λ xs. Walks l s xs b.1) (sym (operands-joined o a.0 b.0)) (walks_append l (operands_of a.0) (operands_of b.0) s a.1 b.1 h k)

neg_walked : (l : Leaves) (s : State) (a : Expr × State) → Walked l s a → Walked l s (e.Neg a.0, a.1)
neg_walked l s a h = subst (λ xs. Walks l s xs a.1) (sym (operands-Neg a.0)) h

-- ---- leaves

const_step : (l : Leaves) (s : State) (z : ℤ) → InRange z → is_full s ≡ false → Walked l s (e.Const z, counting s)
const_step leaves.Parameters s z r f = one_walked leaves.Parameters s (Integer z) (counting s) f (r, refl)
const_step leaves.Values s z r f = one_walked leaves.Values s (Integer z) (counting s) f (r, refl)

integer_walked : (l : Leaves) (s : State) (f : List Tok) (p : Expr × State) → Given f → One (number s) f p → Walked l s p
integer_walked l s f p g h =
    let i = limited_some (is_full s) (λ t. counted_leaf (λ z. e.Const z) s (integer t)) h.token p (given_one f h.token h.alone g).counted h.accepted in
    let c = counted_some (λ z. e.Const z) s (integer h.token) p i.1 in
    let z = integer_given h.token c.0 c.1.0 in
    subst (Walked l s) c.1.1 (const_step l s c.0 (Positive z.magnitude z.is z.small) i.0)

minus_walked : (l : Leaves) (s : State) (f : List Tok) (p : Expr × State) → Given f → One (negative_number s) f p → Walked l s p
minus_walked l s f p g h =
    let i = limited_some (is_full s) (λ t. counted_leaf (λ z. e.Const z) s (negative t)) h.token p (given_one f h.token h.alone g).counted h.accepted in
    let c = counted_some (λ z. e.Const z) s (negative h.token) p i.1 in
    let z = negative_given h.token c.0 c.1.0 in
    subst (Walked l s) c.1.1 (const_step l s c.0 (negative_range z.magnitude c.0 z.is z.small) i.0)

parameter_walked : (s : State) (p : Expr × State) → is_full s ≡ false → IsParameter s p → Walked leaves.Parameters s p
parameter_walked s p f (IsDim i q b) = subst (Walked leaves.Parameters s) (sym q) (one_walked leaves.Parameters s (Dimension i) (counting s) f (b, refl))
parameter_walked s p f (IsSym i q b) = subst (Walked leaves.Parameters s) (sym q) (one_walked leaves.Parameters s (Symbol i) (counting s) f (b, refl))

leaf_walked : (l : Leaves) (s : State) (f : List Tok) (p : Expr × State) → Given f → Leaf l s f p → Walked l s p
leaf_walked leaves.Parameters s f p g h =
    let i = limited_some (is_full s) (λ t. of_keyword (parameter_of s) (class t)) h.token p (given_one f h.token h.alone g).counted h.accepted in
    let w = of_keyword_some (parameter_of s) p (class h.token) i.1 in
    parameter_walked s p i.0 (parameter_is s w.0 p w.1.1)
leaf_walked leaves.Values s f p g (inr h) =
    let t = given_one f h.token h.alone g in
    let i = limited_some (is_full s) (λ t. of_value (λ v. Some (dimension_of s v)) (class t)) h.token p t.counted h.accepted in
    let w = of_value_some (λ v. Some (dimension_of s v)) p (class h.token) i.1 in
    let q : dimension_of s w.0 ≡ p = cc (w.1.1) in
    subst (Walked leaves.Values s) q (one_walked leaves.Values s (Dimension (appears w.0 s.dims).0) (dimension_of s w.0).1 i.0 (w.0, (value_name h.token w.0 t w.1.0, (refl, refl))))
leaf_walked leaves.Values s f p g (inl h) =
    let x = h.first in
    let y = h.second.second.first in
    let gx = given_left f h.left h.right h.parts g in
    let gr = given_right f h.left h.right h.parts g in
    let gi = given_right h.right h.second.left h.second.right h.second.parts gr in
    let gy = given_left h.second.right h.second.second.left h.second.second.right h.second.second.parts gi in
    let i = limited_some (is_full s) (word (codes "symbol")) x.token tt (given_one h.left x.token x.alone gx).counted x.accepted in
    let w = of_value_some (λ v. Some (symbol_of s v)) h.second.second.value (class y.token) y.accepted in
    let q : symbol_of s w.0 ≡ h.second.second.value = cc (w.1.1) in
    let r : h.second.second.value ≡ p = sym h.second.second.second.second.1 in
    subst (Walked leaves.Values s) (q ∙ r) (one_walked leaves.Values s (Symbol (appears w.0 s.syms).0) (symbol_of s w.0).1 i.0 (w.0, (value_name y.token w.0 (given_one h.second.second.left y.token y.alone gy) w.1.0, (refl, refl))))

-- ---- derivations

abbrev WalksUnary : Leaves → (State → Spelling) → Type 0
WalksUnary l U = (s : State) (f : List Tok) (p : Expr × State) → Given f → U s f p → Walked l s p

module _ (l : Leaves) (U : State → Spelling) (unary : WalksUnary l U) where
  factor_walked : (s : State) (b c : Expr × State) (f : List Tok) → Given f → Factor U b f c → Walked l s b → Walked l s c
  factor_walked s b c f g i t =
      let q = i.second in
      let gr = given_right f i.left i.right i.parts g in
      let u = unary b.1 q.left q.value (given_left i.right q.left q.right q.parts gr) q.first in
      subst (Walked l s) (sym q.second.1) (joined_walked l s b q.value i.value t u)

  factors_walked : (s : State) (b c : Expr × State) (f : List Tok) → Given f → Many (Factor U) b f c → Walked l s b → Walked l s c
  factors_walked s b c f g (none _ _ p) t = t
  factors_walked s b c f g (more _ d _ _ left right p i m) t = factors_walked s d c right (given_right f left right p g) m (factor_walked s b d left (given_left f left right p g) i t)

  product_walked : (s : State) (f : List Tok) (p : Expr × State) → Given f → Product U s f p → Walked l s p
  product_walked s f p g h = factors_walked s h.value p h.right (given_right f h.left h.right h.parts g) h.second (unary s h.left h.value (given_left f h.left h.right h.parts g) h.first)

  summand_walked : (s : State) (b c : Expr × State) (f : List Tok) → Given f → Summand U b f c → Walked l s b → Walked l s c
  summand_walked s b c f g i t =
      let q = i.second in
      let gr = given_right f i.left i.right i.parts g in
      let u = product_walked b.1 q.left q.value (given_left i.right q.left q.right q.parts gr) q.first in
      subst (Walked l s) (sym q.second.1) (joined_walked l s b q.value i.value t u)

  summands_walked : (s : State) (b c : Expr × State) (f : List Tok) → Given f → Many (Summand U) b f c → Walked l s b → Walked l s c
  summands_walked s b c f g (none _ _ p) t = t
  summands_walked s b c f g (more _ d _ _ left right p i m) t = summands_walked s d c right (given_right f left right p g) m (summand_walked s b d left (given_left f left right p g) i t)

  sum_walked : (s : State) (f : List Tok) (p : Expr × State) → Given f → Sum U s f p → Walked l s p
  sum_walked s f p g h = summands_walked s h.value p h.right (given_right f h.left h.right h.parts g) h.second (product_walked s h.left h.value (given_left f h.left h.right h.parts g) h.first)

unary_walked : (l : Leaves) (left : ℕ) → WalksUnary l (Other l left) → WalksUnary l (UnaryOf (Other l left))
unary_walked l left other s f p g (inl h) = integer_walked l s f p g h
unary_walked l left other s f p g (inr h) = other s f p g h

other_walked : (l : Leaves) (left : ℕ) → WalksUnary l (Other l left)
other_walked l zero s f p g (inl h) = minus_walked l s h.right p (given_right f h.left h.right h.parts g) h.second
other_walked l zero s f p g (inr h) = leaf_walked l s f p g h
other_walked l (suc left) s f p g (inl h) = behind (other_walked l left s) h.second
  where
    gr : Given h.right
    gr = given_right f h.left h.right h.parts g

    behind : ((f : List Tok) (p : Expr × State) → Given f → Other l left s f p → Walked l s p) → Either (One (negative_number s)) (Both (Other l left s) (λ q. Nothing (e.Neg q.0, q.1))) h.right p → Walked l s p
    behind ih (inl i) = minus_walked l s h.right p gr i
    behind ih (inr i) = subst (Walked l s) (sym i.second.1) (neg_walked l s i.value (ih i.left i.value (given_left h.right i.left i.right i.parts gr) i.first))
other_walked l (suc left) s f p g (inr (inl h)) =
    let i = h.second in
    let gr = given_right f h.left h.right h.parts g in
    let t = sum_walked l (UnaryOf (Other l left)) (unary_walked l left (λ s. other_walked l left s)) s i.left i.value (given_left h.right i.left i.right i.parts gr) i.first in
    subst (Walked l s) (sym i.second.second.1) t
other_walked l (suc left) s f p g (inr (inr h)) = leaf_walked l s f p g h

-- an expression of a given text
pub expression_walked : (l : Leaves) (s : State) (f : List Tok) (p : Expr × State) → Given f → Expression l s f p → Walked l (begun s) p
expression_walked l s f p g h = sum_walked l (Unary l 128) (unary_walked l 128 (other_walked l 128)) (begun s) f p g h

-- ---- what it says: how many operands there are

pub record Counted (s : State) (xs : List Operand) (t : State) : Type 0 where
  pub operands : t.operands ≡ s.operands + length xs
  pub total : t.total ≡ s.total + length xs
  pub few : s.operands ≤ 256 → t.operands ≤ 256
  pub small : s.total ≤ 1048576 → t.total ≤ 1048576

step_operands : (l : Leaves) (s : State) (x : Operand) (u : State) → Step l s x u → (u.operands ≡ s.operands + 1) × (u.total ≡ s.total + 1)
step_operands leaves.Parameters s x u h = (ap (λ (r : State). r.operands) h.1, ap (λ (r : State). r.total) h.1)
step_operands leaves.Values s (Dimension i) u h = (ap (λ (r : State). r.operands) h.1.1.1, ap (λ (r : State). r.total) h.1.1.1)
step_operands leaves.Values s (Symbol i) u h = (ap (λ (r : State). r.operands) h.1.1.1, ap (λ (r : State). r.total) h.1.1.1)
step_operands leaves.Values s (Integer z) u h = (ap (λ (r : State). r.operands) h.1, ap (λ (r : State). r.total) h.1)

pub counted : (l : Leaves) (xs : List Operand) (s t : State) → Walks l s xs t → Counted s xs t
counted l [] s t h = subst (Counted s []) h (record { operands = omega arith; total = omega arith; few = λ k. k; small = λ k. k })
counted l (x ∷ xs) s t h =
    let u = h.1.0 in
    let n = step_operands l s x u h.1.1.0 in
    let a = n.0 in
    let b = n.1 in
    let f = not_full s h.0 in
    let f0 = f.0 in
    let f1 = f.1 in
    let r = counted l xs u t h.1.1.1 in
    let ro = r.operands in
    let rt = r.total in
    record {
      operands = omega (arith, a, ro);
      total = omega (arith, b, rt);
      few = λ k. r.few (omega (arith, a, f0));
      small = λ k. r.small (omega (arith, b, f1));
    }

-- ---- over parameters

pub record OfParameters (s : State) (xs : List Operand) (t : State) : Type 0 where
  pub fit : OperandsFit (length s.dims) (length s.syms) xs
  pub dims : t.dims ≡ s.dims
  pub syms : t.syms ≡ s.syms

pub of_parameters : (xs : List Operand) (s t : State) → Walks leaves.Parameters s xs t → OfParameters s xs t
of_parameters [] s t h = record { fit = tt; dims = ap (λ (r : State). r.dims) (sym h); syms = ap (λ (r : State). r.syms) (sym h) }
of_parameters (x ∷ xs) s t h =
    let q : h.1.0 ≡ counting s = h.1.1.0.1 in
    let r = of_parameters xs (counting s) t (subst (λ u. Walks leaves.Parameters u xs t) q h.1.1.1) in
    record { fit = (h.1.1.0.0, r.fit); dims = r.dims; syms = r.syms }

-- ---- over values

-- the names of values so far are written, and none stands twice
pub record AreValues (names : List Name) : Type 0 where
  pub written : AllWritten names
  pub apart : AreApart names

pub no_names : AreValues []
no_names = record { written = tt; apart = λ i j a b h k t. absurd cc }

written_more : (names : List Name) (n : Name) → AllWritten names → IsWritten n → AllWritten (names ++ n ∷ [])
written_more [] n h w = (w, tt)
written_more (m ∷ names) n h w = (h.0, written_more names n h.1 w)

-- what stands in a list with one name more
get_more : (names : List Name) (n a : Name) (i : ℕ) → slice_get (names ++ n ∷ []) i ≡ Some a → (slice_get names i ≡ Some a) ⊎ ((i ≡ length names) × (n ≡ a))
get_more [] n a zero h = let q : n ≡ a = cc in inr (refl, q)
get_more [] n a (suc i) h = absurd cc
get_more (m ∷ names) n a zero h = inl h
get_more (m ∷ names) n a (suc i) h = by (get_more names n a i h)
  where
    by : (slice_get names i ≡ Some a) ⊎ ((i ≡ length names) × (n ≡ a)) → (slice_get (m ∷ names) (suc i) ≡ Some a) ⊎ ((suc i ≡ length (m ∷ names)) × (n ≡ a))
    by (inl k) = inl k
    by (inr k) = let z = k.0 in inr (omega (arith, z), k.1)

apart_more : (names : List Name) (n : Name) → AreApart names → number_of n.text names ≡ None → AreApart (names ++ n ∷ [])
apart_more names n h new i j a b p q t = by (get_more names n a i p) (get_more names n b j q)
  where
    by : (slice_get names i ≡ Some a) ⊎ ((i ≡ length names) × (n ≡ a)) → (slice_get names j ≡ Some b) ⊎ ((j ≡ length names) × (n ≡ b)) → i ≡ j
    by (inl k) (inl m) = h i j a b k m t
    by (inl k) (inr m) = absurd (not_none n.text names i a k (t ∙ ap (λ (x : Name). x.text) (sym m.1)) new)
    by (inr k) (inl m) = absurd (not_none n.text names j b m (sym t ∙ ap (λ (x : Name). x.text) (sym k.1)) new)
    by (inr k) (inr m) = k.0 ∙ sym m.0

-- a value among the values so far, or the next one
record Appeared (names : List Name) (i : ℕ) (after : List Name) : Type 0 where
  order : ((i < length names) × (after ≡ names)) ⊎ ((i ≡ length names) × (length after ≡ suc (length names)))
  values : AreValues after

appeared_at : (w : List ℕ) (names : List Name) → IsValueName w → AreValues names → Appeared names (appears w names).0 (appears w names).1
appeared_at w names v h = by (number_of w names) refl
  where
    by : (o : Option ℕ) → number_of w names ≡ o → Appeared names (appearing o w names).0 (appearing o w names).1
    by (Some i) q = record { order = inl ((number_of_some w names i q).below, refl); values = h }
    by None q =
        let n = named_written w v in
        let text : (named w).text ≡ w = string_is w (name_ascii w v) in
        record {
          order = inr (refl, let l = length-append names (named w ∷ []) in omega (arith, l));
          values = record { written = written_more names (named w) h.written n; apart = apart_more names (named w) h.apart (ap (λ t. number_of t names) text ∙ q) };
        }

pub record OfValues (s : State) (xs : List Operand) (t : State) : Type 0 where
  pub order : Appear (length s.dims) (length s.syms) xs (length t.dims) (length t.syms)
  pub dims : AreValues t.dims
  pub syms : AreValues t.syms

pub of_values : (xs : List Operand) (s t : State) → AreValues s.dims → AreValues s.syms → Walks leaves.Values s xs t → OfValues s xs t
of_values [] s t d y h = subst (OfValues s []) h (record { order = (refl, refl); dims = d; syms = y })
of_values (Dimension i ∷ xs) s t d y h = by (of_values xs u t) (appeared_at w s.dims h.1.1.0.1.0 d)
  where
    w : List ℕ
    w = h.1.1.0.0

    u : State
    u = (dimension_of s w).1

    walk : Walks leaves.Values u xs t
    walk = subst (λ r. Walks leaves.Values r xs t) h.1.1.0.1.1.1 h.1.1.1

    by : (AreValues u.dims → AreValues u.syms → Walks leaves.Values u xs t → OfValues u xs t) → Appeared s.dims (appears w s.dims).0 (appears w s.dims).1 → OfValues s (Dimension i ∷ xs) t
    by ih a = placed (ih a.values y walk) a.order
      where
        placed : OfValues u xs t → (((appears w s.dims).0 < length s.dims) × ((appears w s.dims).1 ≡ s.dims)) ⊎ (((appears w s.dims).0 ≡ length s.dims) × (length (appears w s.dims).1 ≡ suc (length s.dims))) → OfValues s (Dimension i ∷ xs) t
        placed r (inl k) = record {
          order = inl (subst (λ n. n < length s.dims) (sym h.1.1.0.1.1.0) k.0, subst (λ n. Appear n (length s.syms) xs (length t.dims) (length t.syms)) (ap (λ (l : List Name). length l) k.1) r.order);
          dims = r.dims;
          syms = r.syms;
        }
        placed r (inr k) = record {
          order = inr (h.1.1.0.1.1.0 ∙ k.0, subst (λ n. Appear n (length s.syms) xs (length t.dims) (length t.syms)) k.1 r.order);
          dims = r.dims;
          syms = r.syms;
        }
of_values (Symbol i ∷ xs) s t d y h = by (of_values xs u t) (appeared_at w s.syms h.1.1.0.1.0 y)
  where
    w : List ℕ
    w = h.1.1.0.0

    u : State
    u = (symbol_of s w).1

    walk : Walks leaves.Values u xs t
    walk = subst (λ r. Walks leaves.Values r xs t) h.1.1.0.1.1.1 h.1.1.1

    by : (AreValues u.dims → AreValues u.syms → Walks leaves.Values u xs t → OfValues u xs t) → Appeared s.syms (appears w s.syms).0 (appears w s.syms).1 → OfValues s (Symbol i ∷ xs) t
    by ih a = placed (ih d a.values walk) a.order
      where
        placed : OfValues u xs t → (((appears w s.syms).0 < length s.syms) × ((appears w s.syms).1 ≡ s.syms)) ⊎ (((appears w s.syms).0 ≡ length s.syms) × (length (appears w s.syms).1 ≡ suc (length s.syms))) → OfValues s (Symbol i ∷ xs) t
        placed r (inl k) = record {
          order = inl (subst (λ n. n < length s.syms) (sym h.1.1.0.1.1.0) k.0, subst (λ n. Appear (length s.dims) n xs (length t.dims) (length t.syms)) (ap (λ (l : List Name). length l) k.1) r.order);
          dims = r.dims;
          syms = r.syms;
        }
        placed r (inr k) = record {
          order = inr (h.1.1.0.1.1.0 ∙ k.0, subst (λ n. Appear (length s.dims) n xs (length t.dims) (length t.syms)) k.1 r.order);
          dims = r.dims;
          syms = r.syms;
        }
of_values (Integer z ∷ xs) s t d y h =
    let walk = subst (λ r. Walks leaves.Values r xs t) h.1.1.0.1 h.1.1.1 in
    let r = of_values xs (counting s) t d y walk in
    record { order = (h.1.1.0.0, r.order); dims = r.dims; syms = r.syms }
