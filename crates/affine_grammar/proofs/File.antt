-- The function and the file are read exactly.
use Rattle.std.proofs.Common.{◌≡◌, ℕ, true, false, ◌||◌, List, [], Option, Some, None, refl, ap, eqb-true}
use Rattle.std.specs.Prelude.{codes}
use Rattle.readers.specs.Readers.{Test, never}
use Rattle.readers.specs.Exactness.{Exact, Items}
use Rattle.readers.proofs.Laws.{exact_pure, exact_then, exact_bind, exact_closed, exact_either, exact_enclosed, exact_ended, exact_giving, exact_optional, exact_many, exact_chain, exact_listed, linked_items}
use Rattle.readers.proofs.Lookahead.{ahead_token, ahead_first, ahead_either, class_test, or_left, or_right}
use Rattle.affine_ast.specs.declared.module.Arg.{Arg}
use Rattle.affine_grammar.specs.declared.words.Alias.{Alias}
use Rattle.affine_grammar.specs.Token.{Tok, Class, Sign, Keyword, ValueName, AliasName, FunctionName, Number, Size, ArrowSign, Relation, Other, class, is_sign, is_word, is_alias, begins_stmt, at_sign, at_word, at_alias, word, lined, action_of}
use Rattle.affine_grammar.specs.GrammarFile as file
use Rattle.affine_grammar.specs.ReadingFile.{region, range_end, range_part, arg_kind, argument, next_argument, arguments, function_body, function, alias_body, alias_definition, module_of}
use Rattle.affine_grammar.specs.ReadingFile as reading
use Rattle.affine_grammar.proofs.Tokens.{sign_class, word_class, alias_is, with_line_is, exact_sign, exact_word, exact_function_name, exact_lined_value, exact_lined_word}
use Rattle.affine_grammar.proofs.Expressions.{exact_memref, exact_signed}
use Rattle.affine_grammar.proofs.Maps.{exact_map0, exact_set0}
use Rattle.affine_grammar.proofs.Statements.{value_test, exact_regions, exact_statements, goes_stmts}

-- ---- arguments

-- an end of a range goes on with `:`
exact_range_end : Exact (at_sign 58) file.RangeEnd range_end
unfolding range_end
exact_range_end =
    exact_then exact_signed (λ z. exact_optional (at_sign 58) (exact_then (exact_sign 58 refl) (λ _. exact_giving _ (exact_word (codes "i64") refl))).faithful
    (ahead_token (class_test _ (sign_class 58) (is_sign 58) refl)) (λ t h. h) z)

exact_range : {g : Test Tok} → Exact g file.Range range_part
unfolding range_part
exact_range =
    exact_then (exact_sign 123 refl) (λ _. exact_then (exact_word (codes "copy.range") refl) (λ _. exact_then (exact_sign 61 refl) (λ _. exact_ended {g = never} (exact_sign 125 refl) (λ t y h. refl)
    (exact_enclosed (exact_sign 91 refl) (exact_sign 93 refl) (class_test _ (sign_class 93) (is_sign 58) refl)
    (exact_closed exact_range_end (λ a. exact_sign 44 refl) (λ a. class_test _ (sign_class 44) (is_sign 58) refl) (λ a _. exact_giving _ exact_range_end))))))

-- an argument goes on with `{`
exact_arg_kind : Exact (at_sign 123) file.ArgumentKind arg_kind
unfolding arg_kind
exact_arg_kind =
    exact_either (at_word (codes "index"))
    (exact_then (exact_word (codes "index") refl) (λ _. exact_giving _ (exact_optional (at_sign 123) exact_range.faithful (ahead_token (class_test _ (sign_class 123) (is_sign 123) refl)) (λ t h. h) None)))
    (exact_giving _ exact_memref)
    (ahead_token (class_test _ (word_class (codes "index")) (is_word (codes "index")) refl))
    (ahead_first (ahead_token (class_test _ (word_class (codes "memref")) (is_word (codes "index")) refl)))

exact_argument : (args : List Arg) → Exact (at_sign 123) (file.Argument args) (argument args)
exact_argument args = exact_then exact_lined_value (λ n. exact_then (exact_sign 58 refl) (λ _. exact_giving _ exact_arg_kind))

comma_no_brace : (t : Option Tok) → at_sign 44 t ≡ true → at_sign 123 t ≡ false
comma_no_brace None h = refl
comma_no_brace (Some t) h = by_class (class t) h
  where
    by_class : (c : Class) → is_sign 44 c ≡ true → is_sign 123 c ≡ false
    by_class (Sign b) e = ap (λ m. is_sign 123 (Sign m)) (eqb-true b 44 e)
    by_class (Keyword w) e = refl
    by_class (ValueName w) e = refl
    by_class (AliasName w) e = refl
    by_class (FunctionName w) e = refl
    by_class (Number n) e = refl
    by_class (Size w) e = refl
    by_class ArrowSign e = refl
    by_class (Relation r) e = refl
    by_class Other e = refl

pub argument_items : Items (at_sign 44) (at_sign 123) file.NextArgument next_argument
argument_items = linked_items refl (λ args. class_test _ (sign_class 44) (is_sign 44) refl) (λ args _. exact_argument args) comma_no_brace

abbrev pub goes_arguments : Test Tok
goes_arguments t = at_sign 44 t || at_sign 123 t

exact_arguments : {g : Test Tok} → Exact g file.Arguments arguments
unfolding arguments
exact_arguments =
    exact_then (exact_sign 40 refl) (λ _. exact_listed (at_sign 41) (exact_sign 41 refl) (class_test _ (sign_class 41) (is_sign 41) refl) (class_test _ (sign_class 41) (λ c. is_sign 44 c || is_sign 123 c) refl)
    (ahead_first (ahead_token (value_test (is_sign 41) false (λ w. refl))))
    []
    (exact_chain {after = goes_arguments} (exact_argument []) argument_items (λ t h. or_left (at_sign 44 t) (at_sign 123 t) h) (λ t h. or_right (at_sign 44 t) (at_sign 123 t) h)))

-- ---- the function

-- no statement goes on with `return`
return_test : (t : Tok) (x : ℕ × Unit {0}) → lined (word (codes "return")) t ≡ Some x → goes_stmts (Some t) ≡ false
unfolding action_of
return_test t x h = class_test {p = lined (word (codes "return"))} (Keyword (codes "return")) (λ u y q. word_class (codes "return") u y.1 (with_line_is u.token.line (word (codes "return") u) y q)) (λ c. begins_stmt c || (is_word (codes "else") c || is_sign 91 c)) refl t x h

exact_function_body : {g : Test Tok} (aliases : List Alias) → Exact g (file.FunctionBody aliases) (function_body aliases)
unfolding function_body
exact_function_body aliases =
    exact_enclosed {g = never} (exact_sign 123 refl) (exact_sign 125 refl) (λ t y h. refl)
    (exact_closed (exact_statements (exact_regions aliases 39) aliases 0) (λ p. exact_lined_word (codes "return") refl) (λ p. return_test) (λ p l. exact_pure _))

exact_function : {g : Test Tok} (aliases : List Alias) → Exact g (file.Function aliases) (function aliases)
unfolding function
exact_function aliases =
    exact_then (exact_word (codes "func.func") refl) (λ _. exact_then exact_function_name (λ name. exact_then exact_arguments (λ args. exact_giving _ (exact_function_body aliases))))

-- ---- the file

exact_alias_body : {g : Test Tok} → Exact g file.AliasBody alias_body
unfolding alias_body
exact_alias_body =
    exact_either (at_word (codes "affine_map")) (exact_giving _ (exact_map0 true 0)) (exact_giving _ (exact_set0 0))
    (ahead_first (ahead_token (class_test _ (word_class (codes "affine_map")) (is_word (codes "affine_map")) refl)))
    (ahead_first (ahead_token (class_test _ (word_class (codes "affine_set")) (is_word (codes "affine_map")) refl)))

pub alias_items : Items at_alias never file.AliasDefinition alias_definition
alias_items = linked_items refl (λ aliases t name h. alias_is _ is_alias true (λ w y q. refl) (class t) name h) (λ aliases name. exact_then (exact_sign 61 refl) (λ _. exact_giving _ exact_alias_body)) (λ t h. refl)

exact_module_of : {g : Test Tok} (aliases : List Alias) → Exact g (file.ModuleOf aliases) (module_of aliases)
unfolding module_of
exact_module_of aliases =
    exact_either (at_word (codes "module"))
    (exact_then (exact_word (codes "module") refl) (λ _. exact_enclosed {g = never} (exact_sign 123 refl) (exact_sign 125 refl) (λ t y h. refl) (exact_function aliases)))
    (exact_function aliases)
    (ahead_token (class_test _ (word_class (codes "module")) (is_word (codes "module")) refl))
    (ahead_token (class_test _ (word_class (codes "func.func")) (is_word (codes "module")) refl))

-- a file is read exactly, and nothing goes on with a token behind it
pub exact_file : Exact never file.File reading.file
unfolding reading.file
exact_file =
    exact_bind (exact_many alias_items (λ t h. h) (λ t h. refl) []) (λ aliases. exact_module_of aliases)
    (λ aliases. ahead_either (ahead_token (class_test _ (word_class (codes "module")) is_alias refl)) (ahead_token (class_test _ (word_class (codes "func.func")) is_alias refl)))
