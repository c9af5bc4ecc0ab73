-- Dimensions by first appearance, one step at a time.
use Rattle.std.proofs.Common.{◌≡◌, ℕ, ℤ, suc, ◌+◌, ◌<◌, ◌≤◌, Bool, true, false, List, [], ◌∷◌, ◌++◌, drop, length, get_or, refl, sym, ap, ◌∙◌, arith}
use Rattle.std.specs.Prelude.{nat_eq, flat_map, if◌then◌else◌}
use Rattle.std.proofs.lemmas.List.{drop_more, drop_all}
use Rattle.std.proofs.lemmas.Bool.Decides.{nat_tests}
use Rattle.affine_expr.specs.declared.expr.Expr.{Expr, Dim, Sym, Const, Neg, Add, Sub, Mul, FloorDiv, CeilDiv, Mod, fold-Expr, fold-roll-Expr}
use Rattle.affine_expr.specs.declared.expr.Expr.TheVariants.{rolls-Dim, rolls-Sym, rolls-Const, rolls-Neg, rolls-Add, rolls-Sub, rolls-Mul, rolls-FloorDiv, rolls-CeilDiv, rolls-Mod}
use Rattle.affine_expr.specs.declared.expr.Expr.TheOpen.{Expr-F}
use Rattle.placement_texts.specs.Normal.{dims_step, dims_of, has, firsts, index_of}

-- ---- an index
pub index_here : (n : ℕ) (ns : List ℕ) (i total : ℕ) → i < length ns → get_or ns i 0 ≡ n → total ≡ i + index_of n (drop i ns) → i ≡ total
index_here n ns i total h is so =
    let e : index_of n (drop i ns) ≡ 0 = ap (index_of n) (drop_more ns i 0 h) ∙ ap (λ b. if b then 0 else suc (index_of n (drop (i + 1) ns))) (let t : nat_eq n (get_or ns i 0) ≡ true = grind (arith, nat_tests) in t) in
    omega (arith, so, e)

pub index_next : (n : ℕ) (ns : List ℕ) (i total : ℕ) → i < length ns → (get_or ns i 0 ≡ n → ⊥) → total ≡ i + index_of n (drop i ns) → total ≡ (i + 1) + index_of n (drop (i + 1) ns)
index_next n ns i total h other so =
    let e : index_of n (drop i ns) ≡ suc (index_of n (drop (i + 1) ns)) = ap (index_of n) (drop_more ns i 0 h) ∙ ap (λ b. if b then 0 else suc (index_of n (drop (i + 1) ns))) (let t : nat_eq n (get_or ns i 0) ≡ false = grind (arith, nat_tests) in t) in
    omega (arith, so, e)

pub index_end : (n : ℕ) (ns : List ℕ) (i total : ℕ) → length ns ≤ i → i ≤ length ns → total ≡ i + index_of n (drop i ns) → length ns ≡ total
index_end n ns i total h k so = let e : index_of n (drop i ns) ≡ 0 = ap (index_of n) (drop_all i ns h) in omega (arith, so, e, h, k)

-- ---- whether a number is there
there : (n : ℕ) (ns : List ℕ) → has n ns ≡ true → index_of n ns < length ns
there n [] h = absurd (let z : ⊥ = cc in z)
there n (m ∷ ms) h = by (nat_eq n m) h (λ h. there n ms h)
  where
    by : (b : Bool) → (if b then true else has n ms) ≡ true → (has n ms ≡ true → index_of n ms < length ms) → (if b then 0 else suc (index_of n ms)) < suc (length ms)
    by true h f = omega arith
    by false h f = let k = f h in omega (arith, k)

absent : (n : ℕ) (ns : List ℕ) → has n ns ≡ false → index_of n ns ≡ length ns
absent n [] h = refl
absent n (m ∷ ms) h = by (nat_eq n m) h (λ h. absent n ms h)
  where
    by : (b : Bool) → (if b then true else has n ms) ≡ false → (has n ms ≡ false → index_of n ms ≡ length ms) → (if b then 0 else suc (index_of n ms)) ≡ suc (length ms)
    by true h f = absurd (let z : ⊥ = cc in z)
    by false h f = ap suc (f h)

pub has_not : (n : ℕ) (ns : List ℕ) → index_of n ns ≡ length ns → has n ns ≡ false
has_not n ns e = by (has n ns) refl
  where
    by : (b : Bool) → has n ns ≡ b → has n ns ≡ false
    by true h = absurd (let k = there n ns h in let z : ⊥ = omega (arith, k, e) in z)
    by false h = h

pub has_one : (n : ℕ) (ns : List ℕ) → (index_of n ns ≡ length ns → ⊥) → has n ns ≡ true
has_one n ns other = by (has n ns) refl
  where
    by : (b : Bool) → has n ns ≡ b → has n ns ≡ true
    by true h = h
    by false h = absurd (other (absent n ns h))

-- ---- more numbers
pub firsts-append : (seen ns ms : List ℕ) → firsts seen (ns ++ ms) ≡ firsts (firsts seen ns) ms
firsts-append seen [] ms = refl
firsts-append seen (n ∷ ns) ms = firsts-append (if has n seen then seen else seen ++ n ∷ []) ns ms

-- ---- the dimensions of an expression
pub dims-Dim : (n : ℕ) → dims_of (Dim n) ≡ n ∷ []
unfolding dims_of
dims-Dim n = ap (fold-Expr (List ℕ) dims_step) (sym (rolls-Dim n)) ∙ fold-roll-Expr (List ℕ) dims_step (Expr-F.Dim n)

pub dims-Sym : (n : ℕ) → dims_of (Sym n) ≡ []
unfolding dims_of
dims-Sym n = ap (fold-Expr (List ℕ) dims_step) (sym (rolls-Sym n)) ∙ fold-roll-Expr (List ℕ) dims_step (Expr-F.Sym n)

pub dims-Const : (z : ℤ) → dims_of (Const z) ≡ []
unfolding dims_of
dims-Const z = ap (fold-Expr (List ℕ) dims_step) (sym (rolls-Const z)) ∙ fold-roll-Expr (List ℕ) dims_step (Expr-F.Const z)

pub dims-Neg : (a : Expr) → dims_of (Neg a) ≡ dims_of a
unfolding dims_of
dims-Neg a = ap (fold-Expr (List ℕ) dims_step) (sym (rolls-Neg a)) ∙ fold-roll-Expr (List ℕ) dims_step (Expr-F.Neg a)

pub dims-Add : (a b : Expr) → dims_of (Add a b) ≡ dims_of a ++ dims_of b
unfolding dims_of
dims-Add a b = ap (fold-Expr (List ℕ) dims_step) (sym (rolls-Add a b)) ∙ fold-roll-Expr (List ℕ) dims_step (Expr-F.Add a b)

pub dims-Sub : (a b : Expr) → dims_of (Sub a b) ≡ dims_of a ++ dims_of b
unfolding dims_of
dims-Sub a b = ap (fold-Expr (List ℕ) dims_step) (sym (rolls-Sub a b)) ∙ fold-roll-Expr (List ℕ) dims_step (Expr-F.Sub a b)

pub dims-Mul : (a b : Expr) → dims_of (Mul a b) ≡ dims_of a ++ dims_of b
unfolding dims_of
dims-Mul a b = ap (fold-Expr (List ℕ) dims_step) (sym (rolls-Mul a b)) ∙ fold-roll-Expr (List ℕ) dims_step (Expr-F.Mul a b)

pub dims-FloorDiv : (a b : Expr) → dims_of (FloorDiv a b) ≡ dims_of a ++ dims_of b
unfolding dims_of
dims-FloorDiv a b = ap (fold-Expr (List ℕ) dims_step) (sym (rolls-FloorDiv a b)) ∙ fold-roll-Expr (List ℕ) dims_step (Expr-F.FloorDiv a b)

pub dims-CeilDiv : (a b : Expr) → dims_of (CeilDiv a b) ≡ dims_of a ++ dims_of b
unfolding dims_of
dims-CeilDiv a b = ap (fold-Expr (List ℕ) dims_step) (sym (rolls-CeilDiv a b)) ∙ fold-roll-Expr (List ℕ) dims_step (Expr-F.CeilDiv a b)

pub dims-Mod : (a b : Expr) → dims_of (Mod a b) ≡ dims_of a ++ dims_of b
unfolding dims_of
dims-Mod a b = ap (fold-Expr (List ℕ) dims_step) (sym (rolls-Mod a b)) ∙ fold-roll-Expr (List ℕ) dims_step (Expr-F.Mod a b)

pub ruleset dims = (dims-Dim, dims-Sym, dims-Const, dims-Neg, dims-Add, dims-Sub, dims-Mul, dims-FloorDiv, dims-CeilDiv, dims-Mod, firsts-append)

-- ---- a list of expressions
pub order_next : (es : List Expr) (i : ℕ) (e : Expr) (out new total : List ℕ) → i < length es → e ≡ get_or es i e → new ≡ firsts out (dims_of e)
    → total ≡ firsts out (flat_map dims_of (drop i es)) → total ≡ firsts new (flat_map dims_of (drop (i + 1) es))
order_next es i e out new total h is made so =
    so ∙ ap (λ es. firsts out (flat_map dims_of es)) (drop_more es i e h ∙ ap (λ e. e ∷ drop (i + 1) es) (sym is))
    ∙ firsts-append out (dims_of e) (flat_map dims_of (drop (i + 1) es))
    ∙ ap (λ out. firsts out (flat_map dims_of (drop (i + 1) es))) (sym made)

pub order_end : (es : List Expr) (i : ℕ) (out total : List ℕ) → length es ≤ i → total ≡ firsts out (flat_map dims_of (drop i es)) → out ≡ total
order_end es i out total h so = sym (so ∙ ap (λ es. firsts out (flat_map dims_of es)) (drop_all i es h))
