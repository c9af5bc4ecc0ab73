-- Types, integers and expressions are read exactly.
use Rattle.std.proofs.Common.{◌≡◌, ℕ, zero, suc, ◌==◌, Bool, true, false, ◌||◌, if◌then◌else◌, List, [], ◌∷◌, ◌++◌, Option, Some, None, refl, sym, ap, ◌∙◌, eqb-true, inl}
use Rattle.std.specs.Prelude.{codes}
use Rattle.readers.specs.Readers.{Reader, Test, never, classed, either}
use Rattle.readers.specs.Languages.{Lang, Nothing, Either, Linked}
use Rattle.readers.specs.Exactness.{Exact, Faithful, Items, Ahead}
use Rattle.readers.proofs.Laws.{exact_pure, exact_then, exact_closed, exact_either, exact_enclosed, exact_giving, exact_optional, exact_many, exact_wider, exact_chain, token_items, linked_items}
use Rattle.readers.proofs.Parts.{faithful_take, faithful_either}
use Rattle.readers.proofs.Lookahead.{ahead_token, ahead_one, ahead_first, ahead_either, class_test, or_left, or_right}
use Rattle.affine_grammar.specs.declared.words.State.{State}
use Rattle.affine_grammar.specs.declared.words.Leaves.{Leaves}
use Rattle.affine_grammar.specs.declared.words.Leaves.TheVariants as leaves
use Rattle.affine_grammar.specs.declared.words.Operator.TheVariants as operator
use Rattle.affine_grammar.specs.Token.{Tok, Class, Sign, Keyword, ValueName, AliasName, FunctionName, Number, Size, ArrowSign, Relation, Other, class, is_sign, is_word, is_number, is_size, at_sign, at_word, at_number, at_size, at_sum, at_product, is_sum, is_product, is_there, sum_of, size, negated, positive, element_of, parameter}
use Rattle.affine_grammar.specs.Grammar as grammar
use Rattle.affine_grammar.specs.Reading.{one_size, space_type, space_part, shape, memref, signed, Reads, factor, product, summand, sum, leaf, unary_of, other, unary, expression}
use Rattle.affine_grammar.proofs.Tokens.{sign_class, symbol_class, keyword_is, number_is, size_is, operand_integer, parameter_is, dimension_is, exact_sign, exact_word, exact_space_number, exact_element, exact_int_type, exact_integer, exact_negative, exact_number, exact_negative_number, exact_dimension, exact_symbol_word, exact_symbol}

-- ---- types

pub size_items : Items at_size never (Linked (λ ns. size) (λ ns n. Nothing (ns ++ n ∷ []))) one_size
size_items = token_items refl (λ ns t n h. size_is _ is_size true (λ w y q. refl) (class t) n h) (λ ns n. exact_pure (ns ++ n ∷ []))

exact_space_type : {g : Test Tok} (n : ℕ) → Exact g (grammar.SpaceType n) (space_type n)
unfolding space_type
exact_space_type n = exact_then (exact_sign 58 refl) (λ _. exact_giving (λ _. n) exact_int_type)

-- a space goes on with `:`
exact_space : Exact (at_sign 58) grammar.Space space_part
unfolding space_part
exact_space = exact_then (exact_sign 44 refl) (λ _. exact_then exact_space_number (λ n. exact_optional (at_sign 58) (exact_space_type n).faithful (ahead_token (class_test _ (sign_class 58) (is_sign 58) refl)) (λ t h. h) n))

-- and a memref type before its `>` with `,` too
abbrev pub goes_shape : Test Tok
goes_shape t = at_sign 44 t || at_sign 58 t

exact_shape : Exact goes_shape grammar.Shape shape
unfolding shape
exact_shape =
    exact_closed (exact_many size_items (λ t h. h) (λ t h. refl) []) (λ ns. exact_element) (λ ns t x h. keyword_is element_of is_size false (λ w y q. refl) (class t) x h)
    (λ ns e. exact_giving (λ s. record { sizes = ns; element = e; space = s })
    (exact_optional (at_sign 44) (exact_wider (λ t h. or_right (at_sign 44 t) (at_sign 58 t) h) exact_space).faithful (ahead_token (class_test _ (sign_class 44) (is_sign 44) refl)) (λ t h. or_left (at_sign 44 t) (at_sign 58 t) h) 0))

pub exact_memref : {g : Test Tok} → Exact g grammar.Memref memref
unfolding memref
exact_memref = exact_then (exact_word (codes "memref") refl) (λ _. exact_enclosed (exact_sign 60 refl) (exact_sign 62 refl) (class_test _ (sign_class 62) (λ c. is_sign 44 c || is_sign 58 c) refl) exact_shape)

-- ---- integers

pub exact_signed : {g : Test Tok} → Exact g grammar.Signed signed
unfolding signed
exact_signed =
    exact_either (at_sign 45) (exact_then (exact_sign 45 refl) (λ _. exact_negative)) exact_integer
    (ahead_token (class_test _ (sign_class 45) (is_sign 45) refl)) (ahead_one (λ t x h. number_is positive (is_sign 45) false (λ n y q. refl) (class t) x h))

-- ---- operators

-- the tokens with which an expression might go on
abbrev pub is_operator : Class → Bool
is_operator c = is_sum c || is_product c

abbrev pub at_operator : Test Tok
at_operator = classed class is_operator

abbrev pub goes_expression : Test Tok
goes_expression t = at_sum t || at_product t

pub true_no : true ≡ false → ⊥
true_no e = cc

-- the signs of sums are none of products
sum_no_product : (t : Option Tok) → at_sum t ≡ true → at_product t ≡ false
sum_no_product None h = refl
sum_no_product (Some t) h = by_class (class t) h
  where
    by_sign : (b : ℕ) (v : Bool) → (b == 42) ≡ v → is_there (sum_of b) ≡ true → is_there (if v then Some operator.Mul else None) ≡ false
    by_sign b true e s = absurd (true_no (sym s ∙ ap (λ m. is_there (sum_of m)) (eqb-true b 42 e)))
    by_sign b false e s = refl

    by_class : (c : Class) → is_sum c ≡ true → is_product c ≡ false
    by_class (Sign b) e = by_sign b (b == 42) refl e
    by_class (Keyword w) e = cc
    by_class (ValueName w) e = refl
    by_class (AliasName w) e = refl
    by_class (FunctionName w) e = refl
    by_class (Number n) e = refl
    by_class (Size w) e = refl
    by_class ArrowSign e = refl
    by_class (Relation r) e = refl
    by_class Other e = refl

-- ---- products and sums, over their operands

pub factor_items : {U : State → grammar.Spelling} {u : State → Reads} → ((s : State) → Exact never (U s) (u s)) → Items at_product never (grammar.Factor U) (factor u)
factor_items c = linked_items refl (λ p t o h. ap is_there h) (λ p o. exact_giving _ (c p.1)) (λ t h. refl)

exact_product : {U : State → grammar.Spelling} {u : State → Reads} → ((s : State) → Exact never (U s) (u s)) → (s : State) → Exact at_product (grammar.Product U s) (product u s)
exact_product c s = exact_chain (c s) (factor_items c) (λ t h. h) (λ t h. refl)

pub summand_items : {U : State → grammar.Spelling} {u : State → Reads} → ((s : State) → Exact never (U s) (u s)) → Items at_sum at_product (grammar.Summand U) (summand u)
summand_items c = linked_items refl (λ p t o h. ap is_there h) (λ p o. exact_giving _ (exact_product c p.1)) sum_no_product

pub exact_sum : {U : State → grammar.Spelling} {u : State → Reads} → ((s : State) → Exact never (U s) (u s)) → (s : State) → Exact goes_expression (grammar.Sum U s) (sum u s)
exact_sum c s = exact_chain {after = goes_expression} (exact_product c s) (summand_items c) (λ t h. or_left (at_sum t) (at_product t) h) (λ t h. or_right (at_sum t) (at_product t) h)

-- ---- leaves

-- there may be no parameter, and so no leaf
faithful_leaf : (l : Leaves) (s : State) → Faithful never (grammar.Leaf l s) (leaf l s)
unfolding leaf
faithful_leaf leaves.Parameters s = faithful_take (parameter s)
faithful_leaf leaves.Values s =
    (exact_either (at_word (codes "symbol")) (exact_then (exact_symbol_word s) (λ _. exact_enclosed {g = never} (exact_sign 40 refl) (exact_sign 41 refl) (λ t y h. refl) (exact_symbol s))) (exact_dimension s)
    (ahead_token (class_test _ (symbol_class s) (is_word (codes "symbol")) refl))
    (ahead_one (dimension_is s (is_word (codes "symbol")) false (λ w. refl)))).faithful

leaf_ahead : {g : Test Tok} (l : Leaves) (s : State) (test : Class → Bool) (v : Bool) → ((w : List ℕ) → test (Keyword w) ≡ v) → ((w : List ℕ) → test (ValueName w) ≡ v) → Ahead g (classed class test) v (grammar.Leaf l s)
leaf_ahead leaves.Parameters s test v words values = ahead_one (parameter_is s test v words)
leaf_ahead leaves.Values s test v words values = ahead_either (ahead_token (class_test _ (symbol_class s) test (words (codes "symbol")))) (ahead_one (dimension_is s test v values))

-- ---- unary expressions

-- one or the other, where the second may have no text
pub exact_first : {A : Type 0} (test : Test Tok) {g : Test Tok} {L K : Lang Tok A} {r q : Reader Tok A} → Exact g L r → Faithful g K q → Ahead g test true L → Ahead g test false K → Exact g (Either L K) (either test r q)
exact_first test c d on off = record { faithful = faithful_either test c.faithful d on off; some = record { text = c.some.text; value = c.some.value; spelled = inl c.some.spelled } }

-- what isn't an integer begins with `-`, `(` or a leaf
other_ahead : {g : Test Tok} (l : Leaves) (left : ℕ) (s : State) (test : Class → Bool) (v : Bool) → test (Sign 45) ≡ v → test (Sign 40) ≡ v → ((w : List ℕ) → test (Keyword w) ≡ v) → ((w : List ℕ) → test (ValueName w) ≡ v) → Ahead g (classed class test) v (grammar.Other l left s)
other_ahead l zero s test v minus paren words values = ahead_either (ahead_token (class_test _ (sign_class 45) test minus)) (leaf_ahead l s test v words values)
other_ahead l (suc left) s test v minus paren words values =
    ahead_either (ahead_token (class_test _ (sign_class 45) test minus)) (ahead_either (ahead_token (class_test _ (sign_class 40) test paren)) (leaf_ahead l s test v words values))

exact_unary_of : {O : State → grammar.Spelling} {o : State → Reads} → ((s : State) → Exact never (O s) (o s)) → ((s : State) → Ahead never at_number false (O s)) → (s : State) → Exact never (grammar.UnaryOf O s) (unary_of o s)
exact_unary_of c ahead s = exact_either at_number (exact_number s) (c s) (ahead_one (operand_integer positive s is_number true (λ n. refl))) (ahead s)

exact_other : (l : Leaves) (left : ℕ) (s : State) → Exact never (grammar.Other l left s) (other l left s)
unfolding other
exact_other l zero s =
    exact_first (at_sign 45) (exact_then (exact_sign 45 refl) (λ _. exact_negative_number s)) (faithful_leaf l s)
    (ahead_token (class_test _ (sign_class 45) (is_sign 45) refl)) (leaf_ahead l s (is_sign 45) false (λ w. refl) (λ w. refl))
exact_other l (suc left) s =
    exact_either (at_sign 45)
    (exact_then (exact_sign 45 refl) (λ _. exact_either at_number (exact_negative_number s) (exact_giving _ (exact_other l left s))
    (ahead_one (operand_integer negated s is_number true (λ n. refl)))
    (ahead_first (other_ahead l left s is_number false refl refl (λ w. refl) (λ w. refl)))))
    (exact_first (at_sign 40)
    (exact_enclosed (exact_sign 40 refl) (exact_sign 41 refl) (class_test _ (sign_class 41) is_operator refl)
    (exact_sum (exact_unary_of (exact_other l left) (λ t. other_ahead l left t is_number false refl refl (λ w. refl) (λ w. refl))) s))
    (faithful_leaf l s)
    (ahead_token (class_test _ (sign_class 40) (is_sign 40) refl))
    (leaf_ahead l s (is_sign 40) false (λ w. refl) (λ w. refl)))
    (ahead_token (class_test _ (sign_class 45) (is_sign 45) refl))
    (ahead_either (ahead_token (class_test _ (sign_class 40) (is_sign 45) refl)) (leaf_ahead l s (is_sign 45) false (λ w. refl) (λ w. refl)))

pub exact_unary : (l : Leaves) (left : ℕ) (s : State) → Exact never (grammar.Unary l left s) (unary l left s)
exact_unary l left = exact_unary_of (exact_other l left) (λ t. other_ahead l left t is_number false refl refl (λ w. refl) (λ w. refl))

pub exact_expression : (l : Leaves) (s : State) → Exact goes_expression (grammar.Expression l s) (expression l s)
unfolding expression
exact_expression l s = exact_sum (exact_unary l 128) (grammar.begun s)

-- the first token of an expression
pub expression_ahead : {g : Test Tok} (l : Leaves) (s : State) (test : Class → Bool) (v : Bool) → ((n : ℕ) → test (Number n) ≡ v) → test (Sign 45) ≡ v → test (Sign 40) ≡ v → ((w : List ℕ) → test (Keyword w) ≡ v) → ((w : List ℕ) → test (ValueName w) ≡ v) → Ahead g (classed class test) v (grammar.Expression l s)
expression_ahead l s test v numbers minus paren words values =
    ahead_first (ahead_first (ahead_either (ahead_one (operand_integer positive (grammar.begun s) test v numbers)) (other_ahead l 128 (grammar.begun s) test v minus paren words values)))
