-- Maps, sets, their uses and subscripts are read exactly.
use Rattle.std.proofs.Common.{◌≡◌, ℕ, zero, suc, ◌==◌, Bool, true, false, ◌||◌, if◌then◌else◌, List, [], ◌++◌, length, Option, Some, None, refl, sym, ap, subst, arith, eqb-true}
use Rattle.std.specs.Prelude.{codes}
use Rattle.readers.specs.Readers.{Test, never, classed, optional}
use Rattle.readers.specs.Exactness.{Exact, Items, Ahead}
use Rattle.readers.proofs.Laws.{exact_then, exact_closed, exact_choice, exact_enclosed, exact_giving, exact_optional, exact_chain, exact_exactly, exact_listed, linked_items}
use Rattle.readers.proofs.Parts.{faithful_take}
use Rattle.readers.proofs.Lookahead.{ahead_token, ahead_one, ahead_first, ahead_either, class_test, or_left, or_right}
use Rattle.affine_expr.specs.declared.expr.Expr.{Expr}
use Rattle.affine_expr.specs.declared.map.Constraint.{Constraint}
use Rattle.affine_ast.specs.declared.name.Name.{Name}
use Rattle.affine_grammar.specs.declared.words.State.{State}
use Rattle.affine_grammar.specs.declared.words.Alias.{Alias}
use Rattle.affine_grammar.specs.declared.words.Leaves.{Leaves}
use Rattle.affine_grammar.specs.declared.words.Leaves.TheVariants as leaves
use Rattle.affine_grammar.specs.Token.{Tok, Class, Sign, Keyword, ValueName, AliasName, FunctionName, Number, Size, ArrowSign, Relation, Other, class, is_sign, is_alias, at_sign, at_alias, new_in, alias_map, alias_set}
use Rattle.affine_grammar.specs.Grammar as grammar
use Rattle.affine_grammar.specs.Reading.{result_of, parameter_name, next_parameter, parameter_list, symbol_list, params, next_result, results, map0, row, next_row, rows, set0, one_value, values, symbol_values, operands, some_map, some_set, use_of, subscripts, next_value, brackets}
use Rattle.affine_grammar.proofs.Tokens.{sign_class, word_class, arrow_class, comma_class, keyword_is, value_is, alias_is, relation_is, exact_sign, exact_word, exact_arrow, exact_relation, exact_value, exact_fresh}
use Rattle.affine_grammar.proofs.Expressions.{is_operator, goes_expression, exact_expression, expression_ahead}

-- ---- lists of expressions

-- an expression doesn't go on with a comma
comma_no_expression : (t : Option Tok) → at_sign 44 t ≡ true → goes_expression t ≡ false
comma_no_expression None h = refl
comma_no_expression (Some t) h = by_class (class t) h
  where
    by_class : (c : Class) → is_sign 44 c ≡ true → is_operator c ≡ false
    by_class (Sign b) e = ap (λ m. is_operator (Sign m)) (eqb-true b 44 e)
    by_class (Keyword w) e = cc
    by_class (ValueName w) e = cc
    by_class (AliasName w) e = cc
    by_class (FunctionName w) e = cc
    by_class (Number n) e = cc
    by_class (Size w) e = cc
    by_class ArrowSign e = cc
    by_class (Relation r) e = cc
    by_class Other e = cc

-- a list of expressions goes on with a comma or as its last one does
abbrev pub goes_list : Test Tok
goes_list t = at_sign 44 t || goes_expression t

exact_result : (l : Leaves) (b : List Expr × State) → Exact goes_expression (grammar.Result l b) (result_of l b)
exact_result l b = exact_giving _ (exact_expression l b.1)

pub result_items : (l : Leaves) (several : Bool) → Items (at_sign 44) goes_expression (grammar.NextResult l several) (next_result l several)
result_items l several = linked_items refl (λ b. class_test _ (comma_class 8 several (length b.0)) (is_sign 44) refl) (λ b _. exact_result l b) comma_no_expression

pub exact_results : {g : Test Tok} (several : Bool) (s : State) → Exact g (grammar.Results several s) (results several s)
unfolding results
exact_results several s =
    exact_enclosed (exact_sign 40 refl) (exact_sign 41 refl) (class_test _ (sign_class 41) (λ c. is_sign 44 c || is_operator c) refl)
    (exact_chain {after = goes_list} (exact_result leaves.Parameters ([], s)) (result_items leaves.Parameters several) (λ t h. or_left (at_sign 44 t) (goes_expression t) h) (λ t h. or_right (at_sign 44 t) (goes_expression t) h))

-- ---- parameters

exact_parameter : {g : Test Tok} (dims names : List Name) → Exact g (grammar.Parameter dims names) (parameter_name dims names)
exact_parameter dims names = exact_giving _ (exact_fresh (dims ++ names))

pub parameter_items : (dims : List Name) → Items (at_sign 44) never (grammar.NextParameter dims) (next_parameter dims)
parameter_items dims = linked_items refl (λ names. class_test _ (sign_class 44) (is_sign 44) refl) (λ names _. exact_parameter dims names) (λ t h. refl)

exact_parameter_list : {g : Test Tok} (close : ℕ) → (close == close) ≡ true → (close == 44) ≡ false → (dims : List Name) → Exact g (grammar.ParameterList close dims) (parameter_list close dims)
unfolding parameter_list
exact_parameter_list close same other dims =
    exact_listed (at_sign close) (exact_sign close same) (class_test _ (sign_class close) (is_sign close) same) (class_test _ (sign_class close) (is_sign 44) other)
    (ahead_first (ahead_token (λ t x h. keyword_is (new_in (dims ++ [])) (is_sign close) false (λ w y q. refl) (class t) x h)))
    []
    (exact_chain (exact_parameter dims []) (parameter_items dims) (λ t h. h) (λ t h. refl))

exact_symbol_list : {g : Test Tok} (dims : List Name) → Exact g (grammar.SymbolList dims) (symbol_list dims)
unfolding symbol_list
exact_symbol_list dims = exact_then (exact_sign 91 refl) (λ _. exact_parameter_list 93 refl refl dims)

-- parameters go on with `[`
exact_params : Exact (at_sign 91) grammar.Params params
unfolding params
exact_params =
    exact_then (exact_sign 40 refl) (λ _. exact_then (exact_parameter_list 41 refl refl []) (λ dims. exact_giving _
    (exact_optional (at_sign 91) (exact_symbol_list dims).faithful (ahead_token (class_test _ (sign_class 91) (is_sign 91) refl)) (λ t h. h) [])))

-- ---- maps and sets

pub exact_map0 : {g : Test Tok} (several : Bool) (total : ℕ) → Exact g (grammar.Map0 several total) (map0 several total)
unfolding map0
exact_map0 several total =
    exact_then (exact_word (codes "affine_map") refl) (λ _. exact_enclosed {g = never} (exact_sign 60 refl) (exact_sign 62 refl) (λ t y h. refl)
    (exact_closed exact_params (λ names. exact_arrow) (λ names. class_test _ arrow_class (is_sign 91) refl) (λ names _. exact_giving _ (exact_results several (grammar.over names total)))))

exact_row : (b : List Constraint × State) → Exact goes_expression (grammar.Row b) (row b)
unfolding row
exact_row b =
    exact_closed (exact_expression leaves.Parameters b.1) (λ p. exact_relation) (λ p t r h. relation_is (λ r. Some r) is_operator false (λ r y q. refl) (class t) r h)
    (λ p r. exact_giving _ (exact_expression leaves.Parameters p.1))

pub row_items : Items (at_sign 44) goes_expression grammar.NextRow next_row
row_items = linked_items refl (λ b. class_test _ (comma_class 16 true (length b.0)) (is_sign 44) refl) (λ b _. exact_row b) comma_no_expression

exact_rows : {g : Test Tok} (s : State) → Exact g (grammar.Rows s) (rows s)
unfolding rows
exact_rows s =
    exact_enclosed (exact_sign 40 refl) (exact_sign 41 refl) (class_test _ (sign_class 41) (λ c. is_sign 44 c || is_operator c) refl)
    (exact_chain {after = goes_list} (exact_row ([], s)) row_items (λ t h. or_left (at_sign 44 t) (goes_expression t) h) (λ t h. or_right (at_sign 44 t) (goes_expression t) h))

pub exact_set0 : {g : Test Tok} (total : ℕ) → Exact g (grammar.Set0 total) (set0 total)
unfolding set0
exact_set0 total =
    exact_then (exact_word (codes "affine_set") refl) (λ _. exact_enclosed {g = never} (exact_sign 60 refl) (exact_sign 62 refl) (λ t y h. refl)
    (exact_closed exact_params (λ names. exact_sign 58 refl) (λ names. class_test _ (sign_class 58) (is_sign 91) refl) (λ names _. exact_giving _ (exact_rows (grammar.over names total)))))

-- ---- uses

exact_one_value : {g : Test Tok} (vs : List Name) → Exact g (grammar.OneValue vs) (one_value vs)
exact_one_value vs = exact_giving _ exact_value

exact_values : {g : Test Tok} (opening close : ℕ) → (opening == opening) ≡ true → (close == close) ≡ true → (n : ℕ) → Exact g (grammar.Values opening close n) (values opening close n)
unfolding values
exact_values opening close o c n =
    exact_enclosed {g = never} (exact_sign opening o) (exact_sign close c) (λ t y h. refl) (exact_exactly {stays = never} (λ vs. exact_sign 44 refl) (λ vs t y h. refl) (λ vs. exact_one_value vs) n [])

not_zero : (n : ℕ) → (suc n == 0) ≡ false
not_zero n = by_test (suc n == 0) refl
  where
    by_test : (v : Bool) → (suc n == 0) ≡ v → v ≡ false
    by_test true e = absurd (omega (arith, eqb-true (suc n) 0 e))
    by_test false e = refl

exact_symbol_values : (n : ℕ) → Exact (at_sign 91) (grammar.SymbolValues n) (symbol_values n)
unfolding symbol_values
exact_symbol_values zero = exact_optional (at_sign 91) (exact_values 91 93 refl refl 0).faithful (ahead_token (class_test _ (sign_class 91) (is_sign 91) refl)) (λ t h. h) []
exact_symbol_values (suc n) = subst (λ v. Exact (at_sign 91) (grammar.Values 91 93 (suc n)) (if v then optional (at_sign 91) (values 91 93 0) [] else values 91 93 (suc n))) (sym (not_zero n)) (exact_values 91 93 refl refl (suc n))

-- a use goes on with `[`
pub exact_operands : (dims syms : ℕ) → Exact (at_sign 91) (grammar.Operands dims syms) (operands dims syms)
unfolding operands
exact_operands dims syms = exact_then (exact_values 40 41 refl refl dims) (λ ds. exact_giving _ (exact_symbol_values syms))

exact_some_map : {g : Test Tok} (aliases : List Alias) (several : Bool) (total : ℕ) → Exact g (grammar.SomeMap aliases several total) (some_map aliases several total)
unfolding some_map
exact_some_map aliases several total =
    exact_choice at_alias (faithful_take (alias_map aliases several total)) (exact_map0 several total)
    (ahead_one (λ t x h. alias_is _ is_alias true (λ w y q. refl) (class t) x h)) (ahead_token (class_test _ (word_class (codes "affine_map")) is_alias refl))

pub exact_some_set : {g : Test Tok} (aliases : List Alias) (total : ℕ) → Exact g (grammar.SomeSet aliases total) (some_set aliases total)
unfolding some_set
exact_some_set aliases total =
    exact_choice at_alias (faithful_take (alias_set aliases total)) (exact_set0 total)
    (ahead_one (λ t x h. alias_is _ is_alias true (λ w y q. refl) (class t) x h)) (ahead_token (class_test _ (word_class (codes "affine_set")) is_alias refl))

pub exact_use : (aliases : List Alias) (several : Bool) (total : ℕ) → Exact (at_sign 91) (grammar.Use aliases several total) (use_of aliases several total)
unfolding use_of
exact_use aliases several total = exact_then (exact_some_map aliases several total) (λ p. exact_giving _ (exact_operands p.0.dims p.0.syms))

-- the first token of a use is an alias or the word of a map
pub use_ahead : {g : Test Tok} (aliases : List Alias) (several : Bool) (total : ℕ) (test : Class → Bool) (v : Bool) → test (Keyword (codes "affine_map")) ≡ v → ((w : List ℕ) → test (AliasName w) ≡ v) → Ahead g (classed class test) v (grammar.Use aliases several total)
use_ahead aliases several total test v word names =
    ahead_first (ahead_either (ahead_one (λ t x h. alias_is _ test v (λ w y q. names w) (class t) x h)) (ahead_token (class_test _ (word_class (codes "affine_map")) test word)))

-- ---- subscripts

pub exact_subscripts : {g : Test Tok} (total : ℕ) → Exact g (grammar.Subscripts total) (subscripts total)
unfolding subscripts
exact_subscripts total =
    exact_then (exact_sign 91 refl) (λ _. exact_giving _
    (exact_listed (at_sign 93) (exact_sign 93 refl) (class_test _ (sign_class 93) (is_sign 93) refl) (class_test _ (sign_class 93) (λ c. is_sign 44 c || is_operator c) refl)
    (ahead_first (ahead_first (expression_ahead leaves.Values (grammar.no_values total) (is_sign 93) false (λ n. refl) refl refl (λ w. refl) (λ w. refl))))
    ([], grammar.no_values total)
    (exact_chain {after = goes_list} (exact_result leaves.Values ([], grammar.no_values total)) (result_items leaves.Values true) (λ t h. or_left (at_sign 44 t) (goes_expression t) h) (λ t h. or_right (at_sign 44 t) (goes_expression t) h))))

pub value_items : Items (at_sign 44) never grammar.NextValue next_value
value_items = linked_items refl (λ vs. class_test _ (sign_class 44) (is_sign 44) refl) (λ vs _. exact_one_value vs) (λ t h. refl)

pub exact_brackets : {g : Test Tok} → Exact g grammar.Brackets brackets
unfolding brackets
exact_brackets =
    exact_then (exact_sign 91 refl) (λ _. exact_listed (at_sign 93) (exact_sign 93 refl) (class_test _ (sign_class 93) (is_sign 93) refl) (class_test _ (sign_class 93) (is_sign 44) refl)
    (ahead_first (ahead_token (λ t x h. value_is _ (is_sign 93) false (λ w y q. refl) (class t) x h)))
    []
    (exact_chain (exact_one_value []) value_items (λ t h. h) (λ t h. refl)))
