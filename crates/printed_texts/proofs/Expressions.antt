-- Each expression of a given text is spelled again by its printed spelling.
use Rattle.std.proofs.Common.{◌≡◌, ℕ, zero, suc, max, ◌≤◌, ◌==◌, ◌&&◌, ◌||◌, not, nat_le, pos, negsuc, Bool, true, false, if◌then◌else◌, List, ◌∷◌, Option, Some, None, codes, bytes_eq, refl, sym, ap, ◌∙◌, subst, inl, inr, ◌⊎◌, arith}
use Rattle.readers.specs.Languages.{Nothing, One, Both, Either, Many, none, more}
use Rattle.affine_lex.proofs.Tests.{true_no, and_left, and_right}
use Rattle.affine_expr.specs.declared.expr.Expr.{Expr, fold-Expr, fold-roll-Expr, map-Expr, out-Expr, roll-out-Expr}
use Rattle.affine_expr.specs.declared.expr.Expr.TheVariants as e
use Rattle.affine_expr.specs.declared.expr.Expr.TheOpen.{Expr-F}
use Rattle.affine_ast.specs.Spelling.{as_sum, as_product, as_unary, sum_text, product_text, texts, expression_text}
use Rattle.affine_ast.proofs.Spellings.{texts-Neg, texts-Add, texts-Sub, texts-Mul, texts-FloorDiv, texts-CeilDiv, texts-Mod}
use Rattle.affine_grammar.specs.declared.words.State.{State}
use Rattle.affine_grammar.specs.declared.words.Leaves.{Leaves}
use Rattle.affine_grammar.specs.declared.words.Leaves.TheVariants as leaves
use Rattle.affine_grammar.specs.declared.words.Operator.{Operator}
use Rattle.affine_grammar.specs.declared.words.Operator.TheVariants as operator
use Rattle.affine_grammar.specs.Token.{Tok, Class, Sign, Keyword, ValueName, AliasName, FunctionName, Number, Size, ArrowSign, Relation, Other as NoClass, class, sum_op, product_op, sum_in, product_in, product_word, joined, negative_number}
use Rattle.affine_grammar.specs.Grammar.{Spelling, Factor, Product, Summand, Sum, UnaryOf, Other, Unary, Leaf, Expression, begun}
use Rattle.printed_texts.specs.Nesting.{Depths, sum_depths, product_depths, depths_step, depths, Zeros, both_bare, zeros, printed_nesting, nests_within}
use Rattle.printed_texts.proofs.Pieces.{Prints, in_left, in_right, giving}
use Rattle.printed_texts.proofs.Marks.{minus_then, within_is}
use Rattle.printed_texts.proofs.Given.{Given, given_left, given_right}
use Rattle.printed_texts.proofs.Depths.{depths-Neg, depths-Add, depths-Sub, depths-Mul, depths-FloorDiv, depths-CeilDiv, depths-Mod, zeros-Neg, zeros-Add, zeros-Sub, zeros-Mul, zeros-FloorDiv, zeros-CeilDiv, zeros-Mod}
use Rattle.printed_texts.proofs.Places.{Placed, placed_sum, placed_product, placed_unary, product_more, sum_more, plus_op, minus_op, star_op, floor_op, ceil_op, mod_op}
use Rattle.printed_texts.proofs.States.{Grown, grown_then, printed_leaves, moved, Room, Fixed, fixed_then}
use Rattle.printed_texts.proofs.Leaves.{Again, Told, leaf_depths, integer_depths, minus_depths}

max_left : (a b n : ℕ) → max a b ≤ n → a ≤ n
max_left a b n h = omega (arith, h)

max_right : (a b n : ℕ) → max a b ≤ n → b ≤ n
max_right a b n h = omega (arith, h)

-- ---- two sides of an operator

module _ (l : Leaves) (d : ℕ) (final s : State) (a b : Expr × State) (p : Again l d final s a) (q : Again l d final a.1 b) where
  product_again : (o : Operator) (t : List ℕ) → Prints false (32 ∷ t) (One product_op) o
      → texts (printed_leaves l final) (joined o a.0 b.0) ≡ as_product (product_text (texts (printed_leaves l final) a.0) (32 ∷ t) (texts (printed_leaves l final) b.0))
      → depths (joined o a.0 b.0) ≡ product_depths (max (depths a.0).product (depths b.0).unary) → Again l d final s (joined o a.0 b.0, b.1)
  unfolding product_text
  product_again o t op et ed =
      let D = max (depths a.0).product (depths b.0).unary in
      let x : Expr × State = (joined o a.0 b.0, moved l d b.1) in
      let u : (n : ℕ) → D ≤ n → Prints true _ (Product (Unary l n) (moved l d s)) x = λ n h. product_more (Unary l n) o (p.product n (max_left _ _ n h)) op (q.unary n (max_right _ _ n h)) in
      subst (λ v. Placed l v (depths (joined o a.0 b.0)) (moved l d s) x) (sym et) (subst (λ v. Placed l (as_product (product_text (texts (printed_leaves l final) a.0) (32 ∷ t) (texts (printed_leaves l final) b.0))) v (moved l d s) x) (sym ed) (placed_product l (moved l d s) x _ D u))

  sum_again : (o : Operator) (t : List ℕ) → Prints false (32 ∷ t) (One sum_op) o
      → texts (printed_leaves l final) (joined o a.0 b.0) ≡ as_sum (sum_text (texts (printed_leaves l final) a.0) (32 ∷ t) (texts (printed_leaves l final) b.0))
      → depths (joined o a.0 b.0) ≡ sum_depths (max (depths a.0).sum (depths b.0).product) → Again l d final s (joined o a.0 b.0, b.1)
  unfolding sum_text
  sum_again o t op et ed =
      let D = max (depths a.0).sum (depths b.0).product in
      let x : Expr × State = (joined o a.0 b.0, moved l d b.1) in
      let u : (n : ℕ) → D ≤ n → Prints true _ (Sum (Unary l n) (moved l d s)) x = λ n h. sum_more (Unary l n) o (p.sum n (max_left _ _ n h)) op (q.product n (max_right _ _ n h)) in
      subst (λ v. Placed l v (depths (joined o a.0 b.0)) (moved l d s) x) (sym et) (subst (λ v. Placed l (as_sum (sum_text (texts (printed_leaves l final) a.0) (32 ∷ t) (texts (printed_leaves l final) b.0))) v (moved l d s) x) (sym ed) (placed_sum l (moved l d s) x _ D u))

  -- whatever the operator
  joined_again : (o : Operator) → Again l d final s (joined o a.0 b.0, b.1)
  joined_again operator.Add = sum_again operator.Add _ plus_op (texts-Add (printed_leaves l final) a.0 b.0) (depths-Add a.0 b.0)
  joined_again operator.Sub = sum_again operator.Sub _ minus_op (texts-Sub (printed_leaves l final) a.0 b.0) (depths-Sub a.0 b.0)
  joined_again operator.Mul = product_again operator.Mul _ star_op (texts-Mul (printed_leaves l final) a.0 b.0) (depths-Mul a.0 b.0)
  joined_again operator.FloorDiv = product_again operator.FloorDiv _ floor_op (texts-FloorDiv (printed_leaves l final) a.0 b.0) (depths-FloorDiv a.0 b.0)
  joined_again operator.CeilDiv = product_again operator.CeilDiv _ ceil_op (texts-CeilDiv (printed_leaves l final) a.0 b.0) (depths-CeilDiv a.0 b.0)
  joined_again operator.Mod = product_again operator.Mod _ mod_op (texts-Mod (printed_leaves l final) a.0 b.0) (depths-Mod a.0 b.0)

pub joined_told : (l : Leaves) (s : State) (a b : Expr × State) (o : Operator) → Told l s a → Told l a.1 b → Told l s (joined o a.0 b.0, b.1)
joined_told l s a b o p q = record {
  grown = grown_then s a.1 b.1 p.grown q.grown;
  fixed = fixed_then l s a.1 b.1 p.fixed q.fixed;
  placed = λ d final room g. joined_again l d final s a b (p.placed d final room (grown_then a.1 b.1 final q.grown g)) (q.placed d final room g) o;
}

-- ---- negations

neg_again : (l : Leaves) (d : ℕ) (final s : State) (a : Expr × State) → Again l d final s a → Again l d final s (e.Neg a.0, a.1)
neg_again l d final s a p =
    let S = printed_leaves l final in
    let x : Expr × State = (e.Neg a.0, moved l d a.1) in
    let u : (n : ℕ) → suc (depths a.0).negated ≤ n → Prints true (45 ∷ (texts S a.0).negated) (Other l n (moved l d s)) x = negated in
    subst (λ v. Placed l v (depths (e.Neg a.0)) (moved l d s) x) (sym (texts-Neg S a.0)) (subst (λ v. Placed l (as_unary (45 ∷ (texts S a.0).negated)) v (moved l d s) x) (sym (depths-Neg a.0)) (placed_unary l (moved l d s) x _ _ u (λ r c. refl)))
  where
    negated : (n : ℕ) → suc (depths a.0).negated ≤ n → Prints true (45 ∷ (texts (printed_leaves l final) a.0).negated) (Other l n (moved l d s)) (e.Neg a.0, moved l d a.1)
    negated zero h = absurd (omega (arith, h))
    negated (suc n) h = in_left (minus_then (in_right (giving (λ (z : Expr × State). (e.Neg z.0, z.1)) (p.negated n (omega (arith, h))))) p.plain)

pub neg_told : (l : Leaves) (s : State) (a : Expr × State) → Told l s a → Told l s (e.Neg a.0, a.1)
neg_told l s a p = record { grown = p.grown; fixed = p.fixed; placed = λ d final room g. neg_again l d final s a (p.placed d final room g) }

-- ---- depths

-- an expression nests no deeper where it binds less strongly, and a parenthesis is one level
record IsOrdered (d : Depths) : Type 0 where
  sum : d.sum ≤ d.product
  product : d.product ≤ d.unary
  unary : d.unary ≤ d.negated
  negated : d.negated ≤ suc d.sum

ordered_step : (x : Expr-F Depths) → IsOrdered (depths_step x)
ordered_step (Expr-F.Dim n) = record { sum = omega arith; product = omega arith; unary = omega arith; negated = omega arith }
ordered_step (Expr-F.Sym n) = record { sum = omega arith; product = omega arith; unary = omega arith; negated = omega arith }
ordered_step (Expr-F.Const (pos n)) = record { sum = omega arith; product = omega arith; unary = omega arith; negated = omega arith }
ordered_step (Expr-F.Const (negsuc n)) = record { sum = omega arith; product = omega arith; unary = omega arith; negated = omega arith }
ordered_step (Expr-F.Neg a) = record { sum = omega arith; product = omega arith; unary = omega arith; negated = omega arith }
ordered_step (Expr-F.Add a b) = record { sum = omega arith; product = omega arith; unary = omega arith; negated = omega arith }
ordered_step (Expr-F.Sub a b) = record { sum = omega arith; product = omega arith; unary = omega arith; negated = omega arith }
ordered_step (Expr-F.Mul a b) = record { sum = omega arith; product = omega arith; unary = omega arith; negated = omega arith }
ordered_step (Expr-F.FloorDiv a b) = record { sum = omega arith; product = omega arith; unary = omega arith; negated = omega arith }
ordered_step (Expr-F.CeilDiv a b) = record { sum = omega arith; product = omega arith; unary = omega arith; negated = omega arith }
ordered_step (Expr-F.Mod a b) = record { sum = omega arith; product = omega arith; unary = omega arith; negated = omega arith }

ordered : (x : Expr) → IsOrdered (depths x)
unfolding depths
ordered x = subst IsOrdered (sym (ap (fold-Expr Depths depths_step) (sym (roll-out-Expr x)) ∙ fold-roll-Expr Depths depths_step (out-Expr x))) (ordered_step (map-Expr Expr Depths (fold-Expr Depths depths_step) (out-Expr x)))

-- what is left of the levels, where no integer 0 is negated
abbrev SumWithin : ℕ → Expr → Type 0
SumWithin left x = (zeros x).bare ≡ true → (depths x).sum ≤ left

abbrev ProductWithin : ℕ → Expr → Type 0
ProductWithin left x = (zeros x).bare ≡ true → (depths x).product ≤ left

abbrev UnaryWithin : ℕ → Expr → Type 0
UnaryWithin left x = (zeros x).bare ≡ true → (depths x).unary ≤ left

abbrev NegatedWithin : ℕ → Expr → Type 0
NegatedWithin left x = (zeros x).bare ≡ true → (zeros x).zero ≡ false → (depths x).negated ≤ left

-- ---- operators

abbrev is_strong : Operator → Bool
is_strong operator.Add = false
is_strong operator.Sub = false
is_strong operator.Mul = true
is_strong operator.FloorDiv = true
is_strong operator.CeilDiv = true
is_strong operator.Mod = true

strong_one : (v : Bool) (o x : Operator) → is_strong x ≡ true → (if v then Some x else None) ≡ Some o → is_strong o ≡ true
strong_one true o x h e = let q : x ≡ o = cc in subst (λ y. is_strong y ≡ true) q h
strong_one false o x h e = absurd cc

strong_or : (v : Bool) (o x : Operator) (rest : Option Operator) → is_strong x ≡ true → (rest ≡ Some o → is_strong o ≡ true) → (if v then Some x else rest) ≡ Some o → is_strong o ≡ true
strong_or true o x rest h k e = let q : x ≡ o = cc in subst (λ y. is_strong y ≡ true) q h
strong_or false o x rest h k e = k e

strong_word : (w : List ℕ) (o : Operator) → product_word w ≡ Some o → is_strong o ≡ true
unfolding product_word
strong_word w o h = strong_or (bytes_eq w (codes "floordiv")) o operator.FloorDiv _ refl (strong_or (bytes_eq w (codes "ceildiv")) o operator.CeilDiv _ refl (strong_one (bytes_eq w (codes "mod")) o operator.Mod refl)) h

product_strong : (c : Class) (o : Operator) → product_in c ≡ Some o → is_strong o ≡ true
product_strong (Sign b) o h = strong_one (b == 42) o operator.Mul refl h
product_strong (Keyword w) o h = strong_word w o h
product_strong (ValueName w) o h = absurd cc
product_strong (AliasName w) o h = absurd cc
product_strong (FunctionName w) o h = absurd cc
product_strong (Number n) o h = absurd cc
product_strong (Size w) o h = absurd cc
product_strong ArrowSign o h = absurd cc
product_strong (Relation r) o h = absurd cc
product_strong NoClass o h = absurd cc

weak_sign : (u v : Bool) (o : Operator) → (if u then Some operator.Add else (if v then Some operator.Sub else None)) ≡ Some o → is_strong o ≡ false
weak_sign true v o h = let q : operator.Add ≡ o = cc in subst (λ y. is_strong y ≡ false) q refl
weak_sign false true o h = let q : operator.Sub ≡ o = cc in subst (λ y. is_strong y ≡ false) q refl
weak_sign false false o h = absurd cc

sum_weak : (c : Class) (o : Operator) → sum_in c ≡ Some o → is_strong o ≡ false
sum_weak (Sign b) o h = weak_sign (b == 43) (b == 45) o h
sum_weak (Keyword w) o h = absurd cc
sum_weak (ValueName w) o h = absurd cc
sum_weak (AliasName w) o h = absurd cc
sum_weak (FunctionName w) o h = absurd cc
sum_weak (Number n) o h = absurd cc
sum_weak (Size w) o h = absurd cc
sum_weak ArrowSign o h = absurd cc
sum_weak (Relation r) o h = absurd cc
sum_weak NoClass o h = absurd cc

-- the levels of two sides of an operator
product_levels : (left : ℕ) (a b x : Expr) → zeros x ≡ both_bare (zeros a) (zeros b) → depths x ≡ product_depths (max (depths a).product (depths b).unary) → ProductWithin left a → UnaryWithin left b → ProductWithin left x
product_levels left a b x z d p q h =
    let n : ((zeros a).bare && (zeros b).bare) ≡ true = ap (λ (y : Zeros). y.bare) (sym z) ∙ h in
    let m : (depths x).product ≡ max (depths a).product (depths b).unary = ap (λ (y : Depths). y.product) d in
    omega (arith, m, p (and_left _ _ n), q (and_right _ _ n))

sum_levels : (left : ℕ) (a b x : Expr) → zeros x ≡ both_bare (zeros a) (zeros b) → depths x ≡ sum_depths (max (depths a).sum (depths b).product) → SumWithin left a → ProductWithin left b → SumWithin left x
sum_levels left a b x z d p q h =
    let n : ((zeros a).bare && (zeros b).bare) ≡ true = ap (λ (y : Zeros). y.bare) (sym z) ∙ h in
    let m : (depths x).sum ≡ max (depths a).sum (depths b).product = ap (λ (y : Depths). y.sum) d in
    omega (arith, m, p (and_left _ _ n), q (and_right _ _ n))

product_within : (left : ℕ) (a b : Expr) (o : Operator) → is_strong o ≡ true → ProductWithin left a → UnaryWithin left b → ProductWithin left (joined o a b)
product_within left a b operator.Add h p q = absurd (true_no (sym h))
product_within left a b operator.Sub h p q = absurd (true_no (sym h))
product_within left a b operator.Mul h p q = product_levels left a b _ (zeros-Mul a b) (depths-Mul a b) p q
product_within left a b operator.FloorDiv h p q = product_levels left a b _ (zeros-FloorDiv a b) (depths-FloorDiv a b) p q
product_within left a b operator.CeilDiv h p q = product_levels left a b _ (zeros-CeilDiv a b) (depths-CeilDiv a b) p q
product_within left a b operator.Mod h p q = product_levels left a b _ (zeros-Mod a b) (depths-Mod a b) p q

sum_within : (left : ℕ) (a b : Expr) (o : Operator) → is_strong o ≡ false → SumWithin left a → ProductWithin left b → SumWithin left (joined o a b)
sum_within left a b operator.Add h p q = sum_levels left a b _ (zeros-Add a b) (depths-Add a b) p q
sum_within left a b operator.Sub h p q = sum_levels left a b _ (zeros-Sub a b) (depths-Sub a b) p q
sum_within left a b operator.Mul h p q = absurd (true_no h)
sum_within left a b operator.FloorDiv h p q = absurd (true_no h)
sum_within left a b operator.CeilDiv h p q = absurd (true_no h)
sum_within left a b operator.Mod h p q = absurd (true_no h)

-- ---- derivations

-- how deep the printed spelling of what stands in no parentheses of its own nests, alone and behind a `-`
record OtherWithin (left : ℕ) (x : Expr) : Type 0 where
  within : UnaryWithin left x
  negated : NegatedWithin left x

-- each part of a language is within the levels that are left
abbrev UnariesWithin : ℕ → (State → Spelling) → Type 0
UnariesWithin left U = (s : State) (f : List Tok) (p : Expr × State) → Given f → U s f p → UnaryWithin left p.0

unary_product : (left : ℕ) (x : Expr) → UnaryWithin left x → ProductWithin left x
unary_product left x t h = omega (arith, t h, (ordered x).product)

product_sum : (left : ℕ) (x : Expr) → ProductWithin left x → SumWithin left x
product_sum left x t h = omega (arith, t h, (ordered x).sum)

module _ (left : ℕ) (U : State → Spelling) (unary : UnariesWithin left U) where
  factor_within : (b c : Expr × State) (f : List Tok) → Given f → Factor U b f c → ProductWithin left b.0 → ProductWithin left c.0
  factor_within b c f g i t =
      let o = i.first in
      let q = i.second in
      let gr = given_right f i.left i.right i.parts g in
      let u = unary b.1 q.left q.value (given_left i.right q.left q.right q.parts gr) q.first in
      subst (λ (x : Expr × State). ProductWithin left x.0) (sym q.second.1) (product_within left b.0 q.value.0 i.value (product_strong (class o.token) i.value o.accepted) t u)

  factors_within : (b c : Expr × State) (f : List Tok) → Given f → Many (Factor U) b f c → ProductWithin left b.0 → ProductWithin left c.0
  factors_within b c f g (none _ _ p) t = t
  factors_within b c f g (more _ d _ _ l r p i m) t = factors_within d c r (given_right f l r p g) m (factor_within b d l (given_left f l r p g) i t)

  whole_product : (s : State) (f : List Tok) (p : Expr × State) → Given f → Product U s f p → ProductWithin left p.0
  whole_product s f p g h =
      factors_within h.value p h.right (given_right f h.left h.right h.parts g) h.second
      (unary_product left h.value.0 (unary s h.left h.value (given_left f h.left h.right h.parts g) h.first))

  summand_within : (b c : Expr × State) (f : List Tok) → Given f → Summand U b f c → SumWithin left b.0 → SumWithin left c.0
  summand_within b c f g i t =
      let o = i.first in
      let q = i.second in
      let gr = given_right f i.left i.right i.parts g in
      let u = whole_product b.1 q.left q.value (given_left i.right q.left q.right q.parts gr) q.first in
      subst (λ (x : Expr × State). SumWithin left x.0) (sym q.second.1) (sum_within left b.0 q.value.0 i.value (sum_weak (class o.token) i.value o.accepted) t u)

  summands_within : (b c : Expr × State) (f : List Tok) → Given f → Many (Summand U) b f c → SumWithin left b.0 → SumWithin left c.0
  summands_within b c f g (none _ _ p) t = t
  summands_within b c f g (more _ d _ _ l r p i m) t = summands_within d c r (given_right f l r p g) m (summand_within b d l (given_left f l r p g) i t)

  whole_sum : (s : State) (f : List Tok) (p : Expr × State) → Given f → Sum U s f p → SumWithin left p.0
  whole_sum s f p g h =
      summands_within h.value p h.right (given_right f h.left h.right h.parts g) h.second
      (product_sum left h.value.0 (whole_product s h.left h.value (given_left f h.left h.right h.parts g) h.first))

-- a leaf, and an integer
leaf_within : (l : Leaves) (left : ℕ) (s : State) (f : List Tok) (p : Expr × State) → Given f → Leaf l s f p → OtherWithin left p.0
leaf_within l left s f p g h =
    let z = leaf_depths l s f p g h in
    let u : (depths p.0).unary ≡ 0 = ap (λ (y : Depths). y.unary) z in
    let n : (depths p.0).negated ≡ 0 = ap (λ (y : Depths). y.negated) z in
    record { within = λ b. omega (arith, u); negated = λ b c. omega (arith, n) }

minus_within : (left : ℕ) (s : State) (f : List Tok) (p : Expr × State) → Given f → One (negative_number s) f p → OtherWithin left p.0
minus_within left s f p g h =
    let z = minus_depths s f p g h in
    record { within = λ b. omega (arith, z.unary); negated = λ b c. omega (arith, z.negated c) }

-- a negation, and parentheses
neg_within : (left : ℕ) (a : Expr) → OtherWithin left a → OtherWithin (suc left) (e.Neg a)
neg_within left a t = record { within = λ h. omega (arith, u, n h); negated = λ h c. omega (arith, v, n h) }
  where
    u : (depths (e.Neg a)).unary ≡ suc (depths a).negated
    u = ap (λ (y : Depths). y.unary) (depths-Neg a)

    v : (depths (e.Neg a)).negated ≡ suc (depths a).negated
    v = ap (λ (y : Depths). y.negated) (depths-Neg a)

    no : (b : Bool) → not b ≡ true → b ≡ false
    no true k = absurd (true_no (sym k))
    no false k = refl

    n : (zeros (e.Neg a)).bare ≡ true → (depths a).negated ≤ left
    n h =
        let b : ((zeros a).bare && not (zeros a).zero) ≡ true = ap (λ (y : Zeros). y.bare) (sym (zeros-Neg a)) ∙ h in
        t.negated (and_left (zeros a).bare (not (zeros a).zero) b) (no (zeros a).zero (and_right (zeros a).bare (not (zeros a).zero) b))

enclosed_within : (left : ℕ) (x : Expr) → SumWithin left x → OtherWithin (suc left) x
enclosed_within left x t = record {
  within = λ h. omega (arith, t h, (ordered x).unary, (ordered x).negated);
  negated = λ h c. omega (arith, t h, (ordered x).negated);
}

abbrev OthersWithin : Leaves → ℕ → Type 0
OthersWithin l left = (s : State) (f : List Tok) (p : Expr × State) → Given f → Other l left s f p → OtherWithin left p.0

unaries_within : (l : Leaves) (left : ℕ) → OthersWithin l left → UnariesWithin left (UnaryOf (Other l left))
unaries_within l left other s f p g (inl h) = λ b. (let u = integer_depths s f p g h in omega (arith, u))
unaries_within l left other s f p g (inr h) = (other s f p g h).within

others_within : (l : Leaves) (left : ℕ) → OthersWithin l left
others_within l zero s f p g (inl h) = minus_within zero s h.right p (given_right f h.left h.right h.parts g) h.second
others_within l zero s f p g (inr h) = leaf_within l zero s f p g h
others_within l (suc left) s f p g (inl h) = behind (others_within l left s) h.second
  where
    gr : Given h.right
    gr = given_right f h.left h.right h.parts g

    behind : ((f : List Tok) (p : Expr × State) → Given f → Other l left s f p → OtherWithin left p.0) → Either (One (negative_number s)) (Both (Other l left s) (λ q. Nothing (e.Neg q.0, q.1))) h.right p → OtherWithin (suc left) p.0
    behind ih (inl i) = minus_within (suc left) s h.right p gr i
    behind ih (inr i) = subst (λ (x : Expr × State). OtherWithin (suc left) x.0) (sym i.second.1) (neg_within left i.value.0 (ih i.left i.value (given_left h.right i.left i.right i.parts gr) i.first))
others_within l (suc left) s f p g (inr (inl h)) =
    let i = h.second in
    let gr = given_right f h.left h.right h.parts g in
    let t = whole_sum left (UnaryOf (Other l left)) (unaries_within l left (λ s. others_within l left s)) s i.left i.value (given_left h.right i.left i.right i.parts gr) i.first in
    subst (λ (x : Expr × State). OtherWithin (suc left) x.0) (sym i.second.second.1) (enclosed_within left i.value.0 t)
others_within l (suc left) s f p g (inr (inr h)) = leaf_within l (suc left) s f p g h

-- ---- whole expressions

or_true : (a b : Bool) → (a || b) ≡ true → (a ≡ true) ⊎ (b ≡ true)
or_true true b h = inl refl
or_true false b h = inr h

-- the printed spelling nests within the limit
nesting_within : (x : Expr) → SumWithin 128 x → nests_within x ≡ true → (depths x).sum ≤ 128
unfolding nests_within printed_nesting
nesting_within x w h = by_case (or_true (nat_le (depths x).sum 128) (zeros x).bare h)
  where
    by_case : (nat_le (depths x).sum 128 ≡ true) ⊎ ((zeros x).bare ≡ true) → (depths x).sum ≤ 128
    by_case (inl i) = within_is (depths x).sum 128 i
    by_case (inr i) = w i

-- the number of operands begins anew with each expression
moved_begun : (l : Leaves) (d : ℕ) (s : State) → moved l d (begun s) ≡ begun (moved l d s)
moved_begun leaves.Parameters d s = refl
moved_begun leaves.Values d s = refl

fixed_begun : (l : Leaves) (s t : State) → Fixed l (begun s) t → Fixed l s t
fixed_begun leaves.Parameters s t f = f
fixed_begun leaves.Values s t f = tt

-- an expression of a given text, and of its printed spelling
pub record ToldExpression (l : Leaves) (s : State) (p : Expr × State) : Type 0 where
  pub grown : Grown s p.1
  pub fixed : Fixed l s p.1
  pub again : (d : ℕ) (final : State) → Room l d final → Grown p.1 final → nests_within p.0 ≡ true → Prints true (expression_text (printed_leaves l final) p.0) (Expression l (moved l d s)) (p.0, moved l d p.1)

-- an expression that is spelled again in each place, where its printed spelling nests within the limit
pub expression_of : (l : Leaves) (s : State) (p : Expr × State) → Told l (begun s) p → (nests_within p.0 ≡ true → (depths p.0).sum ≤ 128) → ToldExpression l s p
unfolding expression_text
expression_of l s p t w =
    let b = t.grown in
    record {
      grown = record { dims = b.dims; dims_are = b.dims_are; syms = b.syms; syms_are = b.syms_are; total = b.total; kept = b.kept };
      fixed = fixed_begun l s p.1 t.fixed;
      again = λ d final room i n. subst (λ u. Prints true (texts (printed_leaves l final) p.0).sum (Sum (Unary l 128) u) (p.0, moved l d p.1)) (moved_begun l d s) ((t.placed d final room i).sum 128 (w n));
    }

-- the printed spelling of an expression of a given text nests within the limit, but for a negated 0
pub expression_depth : (l : Leaves) (s : State) (f : List Tok) (p : Expr × State) → Given f → Expression l s f p → nests_within p.0 ≡ true → printed_nesting p.0 ≤ 128
unfolding printed_nesting
expression_depth l s f p g h n = nesting_within p.0 (whole_sum 128 (Unary l 128) (unaries_within l 128 (others_within l 128)) (begun s) f p g h) n
