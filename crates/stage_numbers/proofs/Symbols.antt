-- The symbols of a template's subscripts are those of the subscripts that it redirects.
use Rattle.std.proofs.Common.{◌≡◌, ℕ, suc, ◌+◌, ◌<◌, ◌≤◌, ◌⊎◌, inl, inr, ℤ, pos, Bool, true, false, List, [], ◌∷◌, ◌++◌, length, length-append, Option, Some, None, refl, sym, ap, ◌∙◌, subst, arith}
use Rattle.std.specs.Prelude.{neg_ℤ, flat_map, int_lt, if◌then◌else◌}
use Rattle.std.specs.Ordering.{int_eq}
use Rattle.affine_expr.specs.declared.expr.Expr.{Expr, Dim, Const, Neg, Add, Sub, Mul, fold-roll-Expr, ind-Expr, map-Expr, roll-Expr}
use Rattle.affine_expr.specs.declared.expr.Expr.TheVariants.{rolls-Dim, rolls-Const, rolls-Neg, rolls-Add, rolls-Sub, rolls-Mul}
use Rattle.affine_expr.specs.declared.expr.Expr.TheOpen.{Expr-F}
use Rattle.affine_ast.specs.declared.name.Name.{Name}
use Rattle.placement_texts.specs.Template.{number_step, number_of, less_by, less, plus, term, first_term, join_term, join_terms, form, Begin, Fixed, Named, less_places, turn_dims, turn_places, place_exprs, zeros}
use Rattle.printed_texts.specs.Writable.{Operand, Dimension, Symbol, Integer, operands_of, Appear}
use Rattle.printed_texts.proofs.Operands.{operands-roll}
use Rattle.stage_texts.specs.Order.{SymbolsAppear}

-- ---- symbols alone
abbrev pub syms_in : List Operand → List ℕ
syms_in [] = []
syms_in (Dimension n ∷ xs) = syms_in xs
syms_in (Symbol n ∷ xs) = n ∷ syms_in xs
syms_in (Integer z ∷ xs) = syms_in xs

abbrev pub InTurn : ℕ → List ℕ → ℕ → Type 0
InTurn k [] l = k ≡ l
InTurn k (i ∷ is) l = ((i < k) × InTurn k is l) ⊎ ((i ≡ k) × InTurn (suc k) is l)

in_turn_of : (k l : ℕ) (xs : List Operand) → SymbolsAppear k xs l → InTurn k (syms_in xs) l
in_turn_of k l [] h = h
in_turn_of k l (Dimension n ∷ xs) h = in_turn_of k l xs h
in_turn_of k l (Symbol n ∷ xs) (inl h) = inl (h.0, in_turn_of k l xs h.1)
in_turn_of k l (Symbol n ∷ xs) (inr h) = inr (h.0, in_turn_of (suc k) l xs h.1)
in_turn_of k l (Integer z ∷ xs) h = in_turn_of k l xs h

of_in_turn : (k l : ℕ) (xs : List Operand) → InTurn k (syms_in xs) l → SymbolsAppear k xs l
of_in_turn k l [] h = h
of_in_turn k l (Dimension n ∷ xs) h = of_in_turn k l xs h
of_in_turn k l (Symbol n ∷ xs) (inl h) = inl (h.0, of_in_turn k l xs h.1)
of_in_turn k l (Symbol n ∷ xs) (inr h) = inr (h.0, of_in_turn (suc k) l xs h.1)
of_in_turn k l (Integer z ∷ xs) h = of_in_turn k l xs h

pub same_symbols : (k l : ℕ) (xs ys : List Operand) → syms_in ys ≡ syms_in xs → SymbolsAppear k xs l → SymbolsAppear k ys l
same_symbols k l xs ys e h = of_in_turn k l ys (subst (λ is. InTurn k is l) (sym e) (in_turn_of k l xs h))

pub no_symbols : (xs : List Operand) → syms_in xs ≡ [] → SymbolsAppear 0 xs 0
no_symbols xs e = of_in_turn 0 0 xs (subst (λ is. InTurn 0 is 0) (sym e) refl)

pub appear_symbols : (n k m l : ℕ) (xs : List Operand) → Appear n k xs m l → SymbolsAppear k xs l
appear_symbols n k m l [] h = h.1
appear_symbols n k m l (Dimension i ∷ xs) (inl h) = appear_symbols n k m l xs h.1
appear_symbols n k m l (Dimension i ∷ xs) (inr h) = appear_symbols (suc n) k m l xs h.1
appear_symbols n k m l (Symbol i ∷ xs) (inl h) = inl (h.0, appear_symbols n k m l xs h.1)
appear_symbols n k m l (Symbol i ∷ xs) (inr h) = inr (h.0, appear_symbols n (suc k) m l xs h.1)
appear_symbols n k m l (Integer z ∷ xs) h = appear_symbols n k m l xs h.1

syms_join : (xs ys : List Operand) → syms_in (xs ++ ys) ≡ syms_in xs ++ syms_in ys
syms_join [] ys = refl
syms_join (Dimension n ∷ xs) ys = syms_join xs ys
syms_join (Symbol n ∷ xs) ys = ap (λ ns. n ∷ ns) (syms_join xs ys)
syms_join (Integer z ∷ xs) ys = syms_join xs ys

-- ---- of expressions
abbrev pub syms_of : Expr → List ℕ
syms_of e = syms_in (operands_of e)

operands-Dim : (n : ℕ) → operands_of (Dim n) ≡ Dimension n ∷ []
operands-Dim n = ap operands_of (sym (rolls-Dim n)) ∙ operands-roll (Expr-F.Dim n)

operands-Const : (z : ℤ) → operands_of (Const z) ≡ Integer z ∷ []
operands-Const z = ap operands_of (sym (rolls-Const z)) ∙ operands-roll (Expr-F.Const z)

operands-Neg : (a : Expr) → operands_of (Neg a) ≡ operands_of a
operands-Neg a = ap operands_of (sym (rolls-Neg a)) ∙ operands-roll (Expr-F.Neg a)

operands-Add : (a b : Expr) → operands_of (Add a b) ≡ operands_of a ++ operands_of b
operands-Add a b = ap operands_of (sym (rolls-Add a b)) ∙ operands-roll (Expr-F.Add a b)

operands-Sub : (a b : Expr) → operands_of (Sub a b) ≡ operands_of a ++ operands_of b
operands-Sub a b = ap operands_of (sym (rolls-Sub a b)) ∙ operands-roll (Expr-F.Sub a b)

operands-Mul : (a b : Expr) → operands_of (Mul a b) ≡ operands_of a ++ operands_of b
operands-Mul a b = ap operands_of (sym (rolls-Mul a b)) ∙ operands-roll (Expr-F.Mul a b)

nothing_more : (xs : List ℕ) → xs ++ [] ≡ xs
nothing_more [] = refl
nothing_more (x ∷ xs) = ap (λ ys. x ∷ ys) (nothing_more xs)

-- less a dimension or a number
minus_leaf : (e : Expr) (o : Operand) (x : Expr) → operands_of x ≡ o ∷ [] → syms_in (o ∷ []) ≡ [] → syms_of (Sub e x) ≡ syms_of e
minus_leaf e o x h n = ap syms_in (operands-Sub e x) ∙ syms_join (operands_of e) (operands_of x) ∙ ap (λ ys. syms_of e ++ syms_in ys) h ∙ ap (λ ys. syms_of e ++ ys) n ∙ nothing_more (syms_of e)

minus_const : (e : Expr) (z : ℤ) → syms_of (Sub e (Const z)) ≡ syms_of e
minus_const e z = minus_leaf e (Integer z) (Const z) (operands-Const z) refl

minus_dim : (e : Expr) (n : ℕ) → syms_of (Sub e (Dim n)) ≡ syms_of e
minus_dim e n = minus_leaf e (Dimension n) (Dim n) (operands-Dim n) refl

-- a number has none
abbrev IsBare : Expr → Type 0
IsBare e = (k : ℤ) → number_of e ≡ Some k → syms_of e ≡ []

not_there : {A : Type 0} (k : ℤ) → None ≡ Some k → A
not_there k h = absurd (cc)

number-roll : (x : Expr-F Expr) → number_of (roll-Expr x) ≡ number_step (map-Expr Expr (Option ℤ) number_of x)
unfolding number_of
number-roll x = fold-roll-Expr (Option ℤ) number_step x

bare_layer : (y : Expr-F ((e : Expr) × IsBare e)) → IsBare (roll-Expr (map-Expr ((e : Expr) × IsBare e) Expr (λ e. e.0) y))
bare_layer (Expr-F.Const z) k h = ap syms_in (operands-roll (Expr-F.Const z))
bare_layer (Expr-F.Dim n) k h = not_there k (sym (number-roll (Expr-F.Dim n)) ∙ h)
bare_layer (Expr-F.Sym n) k h = not_there k (sym (number-roll (Expr-F.Sym n)) ∙ h)
bare_layer (Expr-F.Neg a) k h = not_there k (sym (number-roll (Expr-F.Neg a.0)) ∙ h)
bare_layer (Expr-F.Add a b) k h = not_there k (sym (number-roll (Expr-F.Add a.0 b.0)) ∙ h)
bare_layer (Expr-F.Sub a b) k h = not_there k (sym (number-roll (Expr-F.Sub a.0 b.0)) ∙ h)
bare_layer (Expr-F.Mul a b) k h = not_there k (sym (number-roll (Expr-F.Mul a.0 b.0)) ∙ h)
bare_layer (Expr-F.FloorDiv a b) k h = not_there k (sym (number-roll (Expr-F.FloorDiv a.0 b.0)) ∙ h)
bare_layer (Expr-F.CeilDiv a b) k h = not_there k (sym (number-roll (Expr-F.CeilDiv a.0 b.0)) ∙ h)
bare_layer (Expr-F.Mod a b) k h = not_there k (sym (number-roll (Expr-F.Mod a.0 b.0)) ∙ h)

bare : (e : Expr) → IsBare e
bare = ind-Expr IsBare (λ x y is. subst (λ z. IsBare (roll-Expr z)) is (bare_layer y))

less_by_syms : (o : Option ℤ) (e : Expr) (z : ℤ) → number_of e ≡ o → syms_of (less_by o e z) ≡ syms_of e
less_by_syms (Some k) e z h = ap syms_in (operands-Const _) ∙ sym (bare e k h)
less_by_syms None e z h = by (int_eq z (pos 0))
  where
    by : (t : Bool) → syms_of (if t then e else Sub e (Const z)) ≡ syms_of e
    by true = refl
    by false = minus_const e z

-- ---- of lists
abbrev pub all_syms : List Expr → List ℕ
all_syms es = syms_in (flat_map operands_of es)

syms_more : (e : Expr) (es : List Expr) (xs ys : List ℕ) → syms_of e ≡ xs → all_syms es ≡ ys → all_syms (e ∷ es) ≡ xs ++ ys
syms_more e es xs ys h k = syms_join (operands_of e) (flat_map operands_of es) ∙ (λ i. h i ++ k i)

less_syms : (k : ℕ) (es : List Expr) (bs : List Begin) → all_syms (less_places k es bs) ≡ all_syms es
less_syms k [] bs = refl
less_syms k (e ∷ es) [] = refl
less_syms k (e ∷ es) (Fixed z ∷ bs) = syms_more (less e z) _ (syms_of e) (all_syms es) (less_by_syms (number_of e) e z refl) (less_syms k es bs) ∙ sym (syms_join (operands_of e) (flat_map operands_of es))
less_syms k (e ∷ es) (Named n ∷ bs) = syms_more (Sub e (Dim k)) _ (syms_of e) (all_syms es) (minus_dim e k) (less_syms (suc k) es bs) ∙ sym (syms_join (operands_of e) (flat_map operands_of es))

zero_before : (es : List Expr) → all_syms (Const (pos 0) ∷ es) ≡ all_syms es
zero_before es = syms_more (Const (pos 0)) es [] (all_syms es) (ap syms_in (operands-Const (pos 0))) refl

pub in_fast_syms_are : (k : ℕ) (es : List Expr) (bs : List Begin) → all_syms (Const (pos 0) ∷ less_places k es bs) ≡ all_syms es
in_fast_syms_are k es bs = zero_before (less_places k es bs) ∙ less_syms k es bs

plus_dim : (d : ℕ) (z : ℤ) → syms_of (plus (Dim d) z) ≡ []
plus_dim d z = by (int_eq z (pos 0)) (int_lt z (pos 0))
  where
    by : (t u : Bool) → syms_of (if t then Dim d else (if u then Sub (Dim d) (Const (neg_ℤ z)) else Add (Dim d) (Const z))) ≡ []
    by true u = ap syms_in (operands-Dim d)
    by false true = minus_const (Dim d) (neg_ℤ z) ∙ ap syms_in (operands-Dim d)
    by false false = ap syms_in (operands-Add (Dim d) (Const z) ∙ (λ i. operands-Dim d i ++ operands-Const z i))

turn_places_bare : (d k : ℕ) (bs : List Begin) → all_syms (turn_places d k bs) ≡ []
turn_places_bare d k [] = refl
turn_places_bare d k (Fixed z ∷ bs) = syms_more (plus (Dim d) z) _ [] [] (plus_dim d z) (turn_places_bare (suc d) k bs)
turn_places_bare d k (Named n ∷ bs) = syms_more (Add (Dim d) (Dim k)) _ [] [] (ap syms_in (operands-Add (Dim d) (Dim k) ∙ (λ i. operands-Dim d i ++ operands-Dim k i))) (turn_places_bare (suc d) (suc k) bs)

turn_dims_bare : (d : ℕ) (bs : List Begin) → all_syms (turn_dims d bs) ≡ []
turn_dims_bare d [] = refl
turn_dims_bare d (b ∷ bs) = syms_more (Dim d) _ [] [] (ap syms_in (operands-Dim d)) (turn_dims_bare (suc d) bs)

place_exprs_bare : (k : ℕ) (bs : List Begin) → all_syms (place_exprs k bs) ≡ []
place_exprs_bare k [] = refl
place_exprs_bare k (Fixed z ∷ bs) = syms_more (Const z) _ [] [] (ap syms_in (operands-Const z)) (place_exprs_bare k bs)
place_exprs_bare k (Named n ∷ bs) = syms_more (Dim k) _ [] [] (ap syms_in (operands-Dim k)) (place_exprs_bare (suc k) bs)

zeros_bare : (bs : List Begin) → all_syms (zeros bs) ≡ []
zeros_bare [] = refl
zeros_bare (b ∷ bs) = syms_more (Const (pos 0)) _ [] [] (ap syms_in (operands-Const (pos 0))) (zeros_bare bs)

pub turn_places_symbols : (d k : ℕ) (bs : List Begin) → SymbolsAppear 0 (flat_map operands_of (turn_places d k bs)) 0
turn_places_symbols d k bs = no_symbols (flat_map operands_of (turn_places d k bs)) (turn_places_bare d k bs)

pub fast_turns_symbols : (bs : List Begin) → SymbolsAppear 0 (flat_map operands_of (Const (pos 0) ∷ turn_dims 0 bs)) 0
fast_turns_symbols bs = no_symbols (flat_map operands_of (Const (pos 0) ∷ turn_dims 0 bs)) (zero_before (turn_dims 0 bs) ∙ turn_dims_bare 0 bs)

pub places_symbols : (k : ℕ) (bs : List Begin) → SymbolsAppear 0 (flat_map operands_of (place_exprs k bs)) 0
places_symbols k bs = no_symbols (flat_map operands_of (place_exprs k bs)) (place_exprs_bare k bs)

pub zeros_symbols : (bs : List Begin) → SymbolsAppear 0 (flat_map operands_of (Const (pos 0) ∷ zeros bs)) 0
zeros_symbols bs = no_symbols (flat_map operands_of (Const (pos 0) ∷ zeros bs)) (zero_before (zeros bs) ∙ zeros_bare bs)

-- ---- how many operands a sum has
abbrev long : Expr → ℕ
long e = length (operands_of e)

term_long : (k : ℕ) (a : ℤ) → 1 ≤ long (term k a)
term_long k a = by (int_eq a (pos 1))
  where
    by : (t : Bool) → 1 ≤ long (if t then Dim k else Mul (Dim k) (Const a))
    by true = subst (λ xs. 1 ≤ length xs) (sym (operands-Dim k)) (omega arith)
    by false = subst (λ xs. 1 ≤ length xs) (sym (operands-Mul (Dim k) (Const a) ∙ (λ i. operands-Dim k i ++ operands-Const a i))) (omega arith)

first_long : (a : ℤ) → 1 ≤ long (first_term 0 a)
first_long a = by (int_eq a (neg_ℤ (pos 1)))
  where
    by : (t : Bool) → 1 ≤ long (if t then Neg (Dim 0) else term 0 a)
    by true = subst (λ xs. 1 ≤ length xs) (sym (operands-Neg (Dim 0) ∙ operands-Dim 0)) (omega arith)
    by false = term_long 0 a

two_long : (x a b : Expr) → operands_of x ≡ operands_of a ++ operands_of b → long x ≡ long a + long b
two_long x a b h = ap (λ (xs : List Operand). length xs) h ∙ length-append (operands_of a) (operands_of b)

join_long : (e : Expr) (k : ℕ) (a : ℤ) → suc (long e) ≤ long (join_term e k a)
join_long e k a = by (int_lt a (pos 0))
  where
    by : (t : Bool) → suc (long e) ≤ long (if t then Sub e (term k (neg_ℤ a)) else Add e (term k a))
    by true = let s = two_long (Sub e (term k (neg_ℤ a))) e (term k (neg_ℤ a)) (operands-Sub e (term k (neg_ℤ a))) in let t = term_long k (neg_ℤ a) in omega (arith, s, t)
    by false = let s = two_long (Add e (term k a)) e (term k a) (operands-Add e (term k a)) in let t = term_long k a in omega (arith, s, t)

joins_long : (e : Expr) (k : ℕ) (ts : List (Name × ℤ)) → long e + length ts ≤ long (join_terms e k ts)
joins_long e k [] = omega arith
joins_long e k (t ∷ ts) = let a = join_long e k t.1 in let b = joins_long (join_term e k t.1) (suc k) ts in omega (arith, a, b)

plus_long : (e : Expr) (z : ℤ) → long e ≤ long (plus e z)
plus_long e z = by (int_eq z (pos 0)) (int_lt z (pos 0))
  where
    by : (t u : Bool) → long e ≤ long (if t then e else (if u then Sub e (Const (neg_ℤ z)) else Add e (Const z)))
    by true u = omega arith
    by false true = let s = two_long (Sub e (Const (neg_ℤ z))) e (Const (neg_ℤ z)) (operands-Sub e (Const (neg_ℤ z))) in omega (arith, s)
    by false false = let s = two_long (Add e (Const z)) e (Const z) (operands-Add e (Const z)) in omega (arith, s)

-- a form has an operand for each term
pub form_long : (t : Name × ℤ) (ts : List (Name × ℤ)) (z : ℤ) → length (t ∷ ts) ≤ length (operands_of (form (t ∷ ts) z))
form_long t ts z =
    let a = first_long t.1 in
    let b = joins_long (first_term 0 t.1) 1 ts in
    let c = plus_long (join_terms (first_term 0 t.1) 1 ts) z in
    omega (arith, a, b, c)
