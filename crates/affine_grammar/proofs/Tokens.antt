-- Which tokens are of which class, and that each taker of one token is exact.
use Rattle.std.proofs.Common.{◌≡◌, ℕ, ◌==◌, nat_le, ℤ, Bool, true, false, if◌then◌else◌, List, [], ◌∷◌, map, Option, Some, None, refl, ap, eqb-true}
use Rattle.std.specs.Prelude.{codes}
use Rattle.std.specs.Str.{bytes_eq}
use Rattle.std.proofs.lemmas.Slice.Eq.{bytes_eq-Decides}
use Rattle.readers.specs.Readers.{Test, take_by}
use Rattle.readers.specs.Languages.{One}
use Rattle.readers.specs.Limits.{free, limited}
use Rattle.readers.specs.Exactness.{Exact}
use Rattle.readers.proofs.Lookahead.{accept_is}
use Rattle.readers.proofs.Laws.{exact_take, exact_accept}
use Rattle.readers.proofs.Limits.{exact_limited, limited_is}
use Rattle.readers.proofs.Unused.{unused, unused_is_new, IsNew}
use Rattle.affine_lex.specs.declared.token.Kind.{Kind}
use Rattle.affine_lex.specs.declared.token.Kind.TheVariants as k
use Rattle.affine_expr.specs.declared.expr.Expr.{Expr}
use Rattle.affine_expr.specs.declared.expr.Expr.TheVariants as ex
use Rattle.affine_expr.specs.declared.map.Rel.{Rel}
use Rattle.affine_expr.specs.declared.map.Rel.TheVariants as rel
use Rattle.affine_ast.specs.declared.name.Name.{Name}
use Rattle.affine_ast.specs.declared.types.Element.TheVariants as el
use Rattle.affine_ast.specs.declared.types.Scalar.TheVariants as sc
use Rattle.affine_grammar.specs.declared.words.State.{State}
use Rattle.affine_grammar.specs.declared.words.Definition.TheVariants as definition
use Rattle.affine_grammar.specs.Token.{Tok, Class, Sign, Keyword, ValueName, AliasName, FunctionName, Number, Size, ArrowSign, Relation, Other, class, is_sign, is_word, is_arrow, of_keyword, of_value, of_alias, of_function, of_number, of_size, of_relation, with_line, lined, sign, word, arrow, relation, named, value, function_name, integer, negative, size, space, element, element_of, scalar, scalar_of, int_type, int_type_of, is_there, number_of, next, counted_leaf, is_full, number, negative_number, parameter_of, parameter, dimension, dimension_of, symbol_word, symbol, fresh, comma_within, action_of, action_word, definition_of, definition_word}

-- a token of which no limit is asked
abbrev pub of : Kind → List ℕ → Tok
of kind text = free (record { kind = kind; text = text; line = 0; column = 0 })

-- ---- signs and words

pub sign_class : (n : ℕ) (t : Tok) (x : Unit {0}) → sign n t ≡ Some x → class t ≡ Sign n
sign_class n t x h = by_class (class t) (accept_is (λ t. is_sign n (class t)) t x h)
  where
    by_class : (c : Class) → is_sign n c ≡ true → c ≡ Sign n
    by_class (Sign b) e = ap (λ m. Sign m) (eqb-true b n e)
    by_class (Keyword w) e = cc
    by_class (ValueName w) e = cc
    by_class (AliasName w) e = cc
    by_class (FunctionName w) e = cc
    by_class (Number n) e = cc
    by_class (Size w) e = cc
    by_class ArrowSign e = cc
    by_class (Relation r) e = cc
    by_class Other e = cc

pub word_class : (w : List ℕ) (t : Tok) (x : Unit {0}) → word w t ≡ Some x → class t ≡ Keyword w
word_class w t x h = by_class (class t) (accept_is (λ t. is_word w (class t)) t x h)
  where
    by_class : (c : Class) → is_word w c ≡ true → c ≡ Keyword w
    by_class (Sign b) e = cc
    by_class (Keyword v) e = ap (λ m. Keyword m) ((bytes_eq-Decides v w).0 e)
    by_class (ValueName v) e = cc
    by_class (AliasName v) e = cc
    by_class (FunctionName v) e = cc
    by_class (Number n) e = cc
    by_class (Size v) e = cc
    by_class ArrowSign e = cc
    by_class (Relation r) e = cc
    by_class Other e = cc

pub arrow_class : (t : Tok) (x : Unit {0}) → arrow t ≡ Some x → class t ≡ ArrowSign
arrow_class t x h = by_class (class t) (accept_is (λ t. is_arrow (class t)) t x h)
  where
    by_class : (c : Class) → is_arrow c ≡ true → c ≡ ArrowSign
    by_class (Sign b) e = cc
    by_class (Keyword w) e = cc
    by_class (ValueName w) e = cc
    by_class (AliasName w) e = cc
    by_class (FunctionName w) e = cc
    by_class (Number n) e = cc
    by_class (Size w) e = cc
    by_class ArrowSign e = refl
    by_class (Relation r) e = cc
    by_class Other e = cc

-- ---- tokens of one class: a test gives at each of them what it gives at the class

pub keyword_is : {A : Type 0} (f : List ℕ → Option A) (test : Class → Bool) (v : Bool) → ((w : List ℕ) (x : A) → f w ≡ Some x → test (Keyword w) ≡ v) → (c : Class) (x : A) → of_keyword f c ≡ Some x → test c ≡ v
keyword_is f test v h (Sign b) x e = cc
keyword_is f test v h (Keyword w) x e = h w x e
keyword_is f test v h (ValueName w) x e = cc
keyword_is f test v h (AliasName w) x e = cc
keyword_is f test v h (FunctionName w) x e = cc
keyword_is f test v h (Number n) x e = cc
keyword_is f test v h (Size w) x e = cc
keyword_is f test v h ArrowSign x e = cc
keyword_is f test v h (Relation r) x e = cc
keyword_is f test v h Other x e = cc

pub value_is : {A : Type 0} (f : List ℕ → Option A) (test : Class → Bool) (v : Bool) → ((w : List ℕ) (x : A) → f w ≡ Some x → test (ValueName w) ≡ v) → (c : Class) (x : A) → of_value f c ≡ Some x → test c ≡ v
value_is f test v h (Sign b) x e = cc
value_is f test v h (Keyword w) x e = cc
value_is f test v h (ValueName w) x e = h w x e
value_is f test v h (AliasName w) x e = cc
value_is f test v h (FunctionName w) x e = cc
value_is f test v h (Number n) x e = cc
value_is f test v h (Size w) x e = cc
value_is f test v h ArrowSign x e = cc
value_is f test v h (Relation r) x e = cc
value_is f test v h Other x e = cc

pub alias_is : {A : Type 0} (f : List ℕ → Option A) (test : Class → Bool) (v : Bool) → ((w : List ℕ) (x : A) → f w ≡ Some x → test (AliasName w) ≡ v) → (c : Class) (x : A) → of_alias f c ≡ Some x → test c ≡ v
alias_is f test v h (Sign b) x e = cc
alias_is f test v h (Keyword w) x e = cc
alias_is f test v h (ValueName w) x e = cc
alias_is f test v h (AliasName w) x e = h w x e
alias_is f test v h (FunctionName w) x e = cc
alias_is f test v h (Number n) x e = cc
alias_is f test v h (Size w) x e = cc
alias_is f test v h ArrowSign x e = cc
alias_is f test v h (Relation r) x e = cc
alias_is f test v h Other x e = cc

pub function_is : {A : Type 0} (f : List ℕ → Option A) (test : Class → Bool) (v : Bool) → ((w : List ℕ) (x : A) → f w ≡ Some x → test (FunctionName w) ≡ v) → (c : Class) (x : A) → of_function f c ≡ Some x → test c ≡ v
function_is f test v h (Sign b) x e = cc
function_is f test v h (Keyword w) x e = cc
function_is f test v h (ValueName w) x e = cc
function_is f test v h (AliasName w) x e = cc
function_is f test v h (FunctionName w) x e = h w x e
function_is f test v h (Number n) x e = cc
function_is f test v h (Size w) x e = cc
function_is f test v h ArrowSign x e = cc
function_is f test v h (Relation r) x e = cc
function_is f test v h Other x e = cc

pub number_is : {A : Type 0} (f : ℕ → Option A) (test : Class → Bool) (v : Bool) → ((n : ℕ) (x : A) → f n ≡ Some x → test (Number n) ≡ v) → (c : Class) (x : A) → of_number f c ≡ Some x → test c ≡ v
number_is f test v h (Sign b) x e = cc
number_is f test v h (Keyword w) x e = cc
number_is f test v h (ValueName w) x e = cc
number_is f test v h (AliasName w) x e = cc
number_is f test v h (FunctionName w) x e = cc
number_is f test v h (Number n) x e = h n x e
number_is f test v h (Size w) x e = cc
number_is f test v h ArrowSign x e = cc
number_is f test v h (Relation r) x e = cc
number_is f test v h Other x e = cc

pub size_is : {A : Type 0} (f : List ℕ → Option A) (test : Class → Bool) (v : Bool) → ((w : List ℕ) (x : A) → f w ≡ Some x → test (Size w) ≡ v) → (c : Class) (x : A) → of_size f c ≡ Some x → test c ≡ v
size_is f test v h (Sign b) x e = cc
size_is f test v h (Keyword w) x e = cc
size_is f test v h (ValueName w) x e = cc
size_is f test v h (AliasName w) x e = cc
size_is f test v h (FunctionName w) x e = cc
size_is f test v h (Number n) x e = cc
size_is f test v h (Size w) x e = h w x e
size_is f test v h ArrowSign x e = cc
size_is f test v h (Relation r) x e = cc
size_is f test v h Other x e = cc

pub relation_is : {A : Type 0} (f : Rel → Option A) (test : Class → Bool) (v : Bool) → ((r : Rel) (x : A) → f r ≡ Some x → test (Relation r) ≡ v) → (c : Class) (x : A) → of_relation f c ≡ Some x → test c ≡ v
relation_is f test v h (Sign b) x e = cc
relation_is f test v h (Keyword w) x e = cc
relation_is f test v h (ValueName w) x e = cc
relation_is f test v h (AliasName w) x e = cc
relation_is f test v h (FunctionName w) x e = cc
relation_is f test v h (Number n) x e = cc
relation_is f test v h (Size w) x e = cc
relation_is f test v h ArrowSign x e = cc
relation_is f test v h (Relation r) x e = h r x e
relation_is f test v h Other x e = cc

-- ---- tokens that are asked limits

-- an operand that is an integer, with or without its sign
pub operand_integer : (p : ℕ → Option ℤ) (s : State) (test : Class → Bool) (v : Bool) → ((n : ℕ) → test (Number n) ≡ v) → (t : Tok) (x : Expr × State) → limited (is_full s) (λ t. counted_leaf (λ z. ex.Const z) s (of_number p (class t))) t ≡ Some x → test (class t) ≡ v
operand_integer p s test v h t x e = by_class (class t) (limited_is (is_full s) (λ t. counted_leaf (λ z. ex.Const z) s (of_number p (class t))) t x e)
  where
    by_class : (c : Class) → counted_leaf (λ z. ex.Const z) s (of_number p c) ≡ Some x → test c ≡ v
    by_class (Sign b) q = cc
    by_class (Keyword w) q = cc
    by_class (ValueName w) q = cc
    by_class (AliasName w) q = cc
    by_class (FunctionName w) q = cc
    by_class (Number n) q = h n
    by_class (Size w) q = cc
    by_class ArrowSign q = cc
    by_class (Relation r) q = cc
    by_class Other q = cc

pub parameter_is : (s : State) (test : Class → Bool) (v : Bool) → ((w : List ℕ) → test (Keyword w) ≡ v) → (t : Tok) (x : Expr × State) → parameter s t ≡ Some x → test (class t) ≡ v
parameter_is s test v h t x e = keyword_is (parameter_of s) test v (λ w y q. h w) (class t) x (limited_is (is_full s) (λ t. of_keyword (parameter_of s) (class t)) t x e)

pub dimension_is : (s : State) (test : Class → Bool) (v : Bool) → ((w : List ℕ) → test (ValueName w) ≡ v) → (t : Tok) (x : Expr × State) → dimension s t ≡ Some x → test (class t) ≡ v
dimension_is s test v h t x e = value_is (λ w. Some (dimension_of s w)) test v (λ w y q. h w) (class t) x (limited_is (is_full s) (λ t. of_value (λ w. Some (dimension_of s w)) (class t)) t x e)

pub symbol_class : (s : State) (t : Tok) (x : Unit {0}) → symbol_word s t ≡ Some x → class t ≡ Keyword (codes "symbol")
symbol_class s t x e = word_class (codes "symbol") t x (limited_is (is_full s) (word (codes "symbol")) t x e)

pub comma_class : (most : ℕ) (several : Bool) (n : ℕ) (t : Tok) (x : Unit {0}) → comma_within most several n t ≡ Some x → class t ≡ Sign 44
comma_class most true n t x e = sign_class 44 t x (limited_is (nat_le most n) (sign 44) t x e)
comma_class most false n t x e = cc

pub with_line_is : {A : Type 0} (n : ℕ) (o : Option A) (y : ℕ × A) → with_line n o ≡ Some y → o ≡ Some y.1
with_line_is n (Some x) y e = let q : ◌≡◌ {A = ℕ × _} (n, x) y = cc in ap (λ p. Some p.1) q
with_line_is n None y e = cc

-- ---- each taker of one token is exact

pub exact_sign : {g : Test Tok} (n : ℕ) → (n == n) ≡ true → Exact g (One (sign n)) (take_by (sign n))
exact_sign n h = exact_accept (λ t. is_sign n (class t)) (of (k.Punct n) (codes "")) h

pub exact_word : {g : Test Tok} (w : List ℕ) → bytes_eq w w ≡ true → Exact g (One (word w)) (take_by (word w))
exact_word w h = exact_accept (λ t. is_word w (class t)) (of k.Word w) h

pub exact_arrow : {g : Test Tok} → Exact g (One arrow) (take_by arrow)
exact_arrow = exact_accept (λ t. is_arrow (class t)) (of k.Arrow (codes "->")) refl

pub exact_relation : {g : Test Tok} → Exact g (One relation) (take_by relation)
exact_relation = exact_take relation (of k.Equal (codes "==")) rel.Eq refl

pub exact_value : {g : Test Tok} → Exact g (One value) (take_by value)
exact_value = exact_take value (of k.Value (codes "%a")) _ refl

pub exact_function_name : {g : Test Tok} → Exact g (One function_name) (take_by function_name)
exact_function_name = exact_take function_name (of k.Symbol (codes "@a")) _ refl

pub exact_integer : {g : Test Tok} → Exact g (One integer) (take_by integer)
exact_integer = exact_take integer (of (k.Int 0) (codes "0")) _ refl

pub exact_negative : {g : Test Tok} → Exact g (One negative) (take_by negative)
exact_negative = exact_take negative (of (k.Int 0) (codes "0")) _ refl

pub exact_size : {g : Test Tok} → Exact g (One size) (take_by size)
exact_size = exact_take size (of k.Sizes (codes "0x")) _ refl

pub exact_space_number : {g : Test Tok} → Exact g (One space) (take_by space)
exact_space_number = exact_take space (of (k.Int 0) (codes "0")) _ refl

pub exact_element : {g : Test Tok} → Exact g (One element) (take_by element)
unfolding element_of
exact_element = exact_take element (of k.Word (codes "i8")) el.I8 refl

pub exact_scalar : {g : Test Tok} → Exact g (One scalar) (take_by scalar)
unfolding scalar_of
exact_scalar = exact_take scalar (of k.Word (codes "index")) sc.Index refl

pub exact_int_type : {g : Test Tok} → Exact g (One int_type) (take_by int_type)
unfolding int_type_of
exact_int_type = exact_take int_type (of k.Word (codes "i32")) tt refl

pub exact_number : {g : Test Tok} (s : State) → Exact g (One (number s)) (take_by (number s))
exact_number s = exact_limited (is_full s) (λ t. counted_leaf (λ z. ex.Const z) s (integer t)) (record { kind = k.Int 0; text = codes "0"; line = 0; column = 0 }) _ refl

pub exact_negative_number : {g : Test Tok} (s : State) → Exact g (One (negative_number s)) (take_by (negative_number s))
exact_negative_number s = exact_limited (is_full s) (λ t. counted_leaf (λ z. ex.Const z) s (negative t)) (record { kind = k.Int 0; text = codes "0"; line = 0; column = 0 }) _ refl

pub exact_dimension : {g : Test Tok} (s : State) → Exact g (One (dimension s)) (take_by (dimension s))
exact_dimension s = exact_limited (is_full s) (λ t. of_value (λ w. Some (dimension_of s w)) (class t)) (record { kind = k.Value; text = codes "%a"; line = 0; column = 0 }) _ refl

pub exact_symbol_word : {g : Test Tok} (s : State) → Exact g (One (symbol_word s)) (take_by (symbol_word s))
exact_symbol_word s = exact_limited (is_full s) (word (codes "symbol")) (record { kind = k.Word; text = codes "symbol"; line = 0; column = 0 }) _ refl

pub exact_symbol : {g : Test Tok} (s : State) → Exact g (One (symbol s)) (take_by (symbol s))
exact_symbol s = exact_take (symbol s) (of k.Value (codes "%a")) _ refl

pub exact_action : {g : Test Tok} → Exact g (One (lined action_word)) (take_by (lined action_word))
unfolding action_of
exact_action = exact_take (lined action_word) (of k.Word (codes "affine.for")) _ refl

pub exact_definition : {g : Test Tok} → Exact g (One definition_word) (take_by definition_word)
unfolding definition_of
exact_definition = exact_take definition_word (of k.Word (codes "affine.load")) definition.Load refl

pub exact_lined_value : {g : Test Tok} → Exact g (One (lined value)) (take_by (lined value))
exact_lined_value = exact_take (lined value) (of k.Value (codes "%a")) _ refl

pub exact_lined_word : {g : Test Tok} (w : List ℕ) → bytes_eq w w ≡ true → Exact g (One (lined (word w))) (take_by (lined (word w)))
exact_lined_word w h = exact_take (lined (word w)) (of k.Word w) (0, tt) (ap (λ b. with_line 0 (if b then Some tt else None)) h)

-- ---- names that aren't known yet

new_name : (n : List ℕ) (names : List Name) → IsNew n (map (λ m. m.text) names) → number_of n names ≡ None
new_name n [] i = refl
new_name n (m ∷ names) i = by_test (new_name n names i.1) (bytes_eq m.text n) refl
  where
    by_test : number_of n names ≡ None → (b : Bool) → bytes_eq m.text n ≡ b → (if b then Some 0 else next (number_of n names)) ≡ None
    by_test h true e = absurd (i.0 ((bytes_eq-Decides m.text n).0 e))
    by_test h false e = ap next h

pub exact_fresh : {g : Test Tok} (names : List Name) → Exact g (One (fresh names)) (take_by (fresh names))
exact_fresh names =
    let n = unused (map (λ m. m.text) names) in
    exact_take (fresh names) (of k.Word n) (named n) (ap (λ o. if is_there o then None else Some (named n)) (new_name n names (unused_is_new (map (λ m. m.text) names))))
