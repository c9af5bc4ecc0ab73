-- Bounds, statements and regions are read exactly.
use Rattle.std.proofs.Common.{◌≡◌, ℕ, zero, suc, pos, Bool, true, false, ◌||◌, List, [], ◌++◌, Option, Some, None, refl, sym, ap, ◌∙◌}
use Rattle.std.specs.Prelude.{codes}
use Rattle.std.specs.Str.{bytes_eq}
use Rattle.std.proofs.lemmas.Slice.Eq.{bytes_eq-Decides}
use Rattle.readers.specs.Readers.{Test, never, head, classed}
use Rattle.readers.specs.Languages.{Lang}
use Rattle.readers.specs.Exactness.{Exact, Items, Ahead}
use Rattle.readers.proofs.Laws.{exact_then, exact_any, exact_bind, exact_closed, exact_either, exact_enclosed, exact_giving, exact_optional, exact_wider, exact_many}
use Rattle.readers.proofs.Limits.{exact_limited, limited_is}
use Rattle.readers.proofs.Lookahead.{ahead_nothing, ahead_token, ahead_one, ahead_first, ahead_both, ahead_either, ahead_optional, class_test, or_left, or_right, or_false}
use Rattle.affine_lex.specs.declared.token.Kind.TheVariants as k
use Rattle.affine_ast.specs.declared.name.Name.{Name}
use Rattle.affine_ast.specs.declared.types.MemrefType.{MemrefType}
use Rattle.affine_ast.specs.declared.stmt.Stmt.{Stmt}
use Rattle.affine_grammar.specs.declared.words.Action.{Action}
use Rattle.affine_grammar.specs.declared.words.Action.TheVariants as action
use Rattle.affine_grammar.specs.declared.words.Definition.{Definition}
use Rattle.affine_grammar.specs.declared.words.Definition.TheVariants as definition
use Rattle.affine_grammar.specs.declared.words.Alias.{Alias}
use Rattle.affine_grammar.specs.Token.{Tok, Class, Sign, Keyword, ValueName, AliasName, FunctionName, Number, Size, ArrowSign, Relation, Other, class, is_sign, is_word, is_value, is_there, begins_integer, begins_stmt, at_sign, at_word, at_value, at_integer, at_stmt, sign, value, positive, lined, action_of, action_word}
use Rattle.affine_grammar.specs.Grammar as grammar
use Rattle.affine_grammar.specs.GrammarFile as file
use Rattle.affine_grammar.specs.ReadingFile.{bound_of, step_part, turns_of, ReadsRegions, typed, defined, part, stride_part, else_part, acted, statement, statements, region}
use Rattle.affine_grammar.proofs.Tokens.{sign_class, word_class, keyword_is, value_is, number_is, with_line_is, exact_sign, exact_word, exact_value, exact_integer, exact_scalar, exact_action, exact_definition, exact_lined_value}
use Rattle.affine_grammar.proofs.Expressions.{exact_memref, exact_signed, true_no}
use Rattle.affine_grammar.proofs.Maps.{exact_operands, exact_some_set, exact_use, use_ahead, exact_subscripts, exact_brackets}

-- a first token that passes neither of two tests
ahead_or : {A : Type 0} {g a b : Test Tok} {L : Lang Tok A} → Ahead g a false L → Ahead g b false L → Ahead g (λ t. a t || b t) false L
ahead_or {a = a} {b = b} p q = record { sees = λ f w x l h. or_false (a (head (f ++ w))) (b (head (f ++ w))) (p.sees f w x l h) (q.sees f w x l h) }

-- ---- bounds

signed_ahead : {g : Test Tok} (test : Class → Bool) (v : Bool) → test (Sign 45) ≡ v → ((n : ℕ) → test (Number n) ≡ v) → Ahead g (classed class test) v grammar.Signed
signed_ahead test v minus numbers = ahead_either (ahead_token (class_test _ (sign_class 45) test minus)) (ahead_one (λ t x h. number_is positive test v (λ n y q. numbers n) (class t) x h))

exact_bound : (w : List ℕ) → bytes_eq w w ≡ true → bytes_eq (codes "affine_map") w ≡ false → (aliases : List Alias) (total : ℕ) → Exact (at_sign 91) (file.BoundOf w aliases total) (bound_of w aliases total)
unfolding bound_of
exact_bound w same apart aliases total =
    exact_either at_integer (exact_giving _ exact_signed)
    (exact_either at_value (exact_giving _ exact_value)
    (exact_either (at_word w) (exact_then (exact_word w same) (λ _. exact_giving _ (exact_use aliases true total))) (exact_giving _ (exact_use aliases false total))
    (ahead_token (class_test _ (word_class w) (is_word w) same))
    (ahead_first (use_ahead aliases false total (is_word w) false apart (λ n. refl))))
    (ahead_first (ahead_one (λ t x h. value_is _ is_value true (λ w y q. refl) (class t) x h)))
    (ahead_either (ahead_token (class_test _ (word_class w) is_value refl)) (ahead_first (use_ahead aliases false total is_value false refl (λ n. refl)))))
    (ahead_first (signed_ahead begins_integer true refl (λ n. refl)))
    (ahead_either (ahead_first (ahead_one (λ t x h. value_is _ begins_integer false (λ w y q. refl) (class t) x h)))
    (ahead_either (ahead_token (class_test _ (word_class w) begins_integer refl)) (ahead_first (use_ahead aliases false total begins_integer false refl (λ n. refl)))))

exact_step : {g : Test Tok} → Exact g file.Step step_part
unfolding step_part
exact_step = exact_then (exact_word (codes "step") refl) (λ _. exact_integer)

-- the bounds and the step go on with `step`, and with the brackets of a use
abbrev pub goes_turns : Test Tok
goes_turns t = at_word (codes "step") t || at_sign 91 t

exact_turns : (aliases : List Alias) (total : ℕ) → Exact goes_turns (file.TurnsOf aliases total) (turns_of aliases total)
unfolding turns_of
exact_turns aliases total =
    exact_closed (exact_bound (codes "max") refl refl aliases total) (λ p. exact_word (codes "to") refl) (λ p. class_test _ (word_class (codes "to")) (is_sign 91) refl) (λ p _.
    exact_bind (exact_bound (codes "min") refl refl aliases p.1)
    (λ q. exact_giving _ (exact_optional (at_word (codes "step")) exact_step.faithful (ahead_token (class_test _ (word_class (codes "step")) (is_word (codes "step")) refl)) (λ t h. or_left (at_word (codes "step") t) (at_sign 91 t) h) (pos 1)))
    (λ q. ahead_both (ahead_optional (ahead_token (class_test _ (word_class (codes "step")) (is_sign 91) refl)) (λ t h. or_right (at_word (codes "step") t) (at_sign 91 t) h)) (λ z. ahead_nothing (λ t h. h))))

-- ---- statements

-- a statement goes on with `else`, and with the brackets of a use
abbrev pub goes_stmt : Test Tok
goes_stmt t = at_word (codes "else") t || at_sign 91 t

exact_typed : {A : Type 0} {g : Test Tok} (f : MemrefType → A) → Exact g (file.Typed f) (typed f)
exact_typed f = exact_then (exact_sign 58 refl) (λ _. exact_giving f exact_memref)

pub exact_defined : (aliases : List Alias) (total : ℕ) (r : Name) (d : Definition) → Exact goes_stmt (file.Defined aliases total r d) (defined aliases total r d)
unfolding defined
exact_defined aliases total r (definition.Value p) = exact_giving _ (exact_wider (λ t h. or_right (at_word (codes "else") t) (at_sign 91 t) h) (exact_use aliases true total))
exact_defined aliases total r definition.Load = exact_then exact_value (λ m. exact_then (exact_subscripts total) (λ p. exact_typed _))
exact_defined aliases total r definition.RawLoad = exact_then exact_value (λ m. exact_then exact_brackets (λ vs. exact_typed _))
exact_defined aliases total r definition.Constant = exact_then exact_signed (λ z. exact_then (exact_sign 58 refl) (λ _. exact_giving _ exact_scalar))
exact_defined aliases total r (definition.Binary o) =
    exact_then exact_value (λ a. exact_then (exact_sign 44 refl) (λ _. exact_then exact_value (λ b. exact_then (exact_sign 58 refl) (λ _. exact_giving _ exact_scalar))))
exact_defined aliases total r (definition.Cast c) =
    exact_then exact_value (λ v. exact_then (exact_sign 58 refl) (λ _. exact_then exact_scalar (λ from. exact_then (exact_word (codes "to") refl) (λ _. exact_giving _ exact_scalar))))
exact_defined aliases total r definition.Alloc = exact_then (exact_sign 40 refl) (λ _. exact_then (exact_sign 41 refl) (λ _. exact_typed _))

exact_part : {g : Test Tok} (total : ℕ) → Exact g (file.Part total) (part total)
unfolding part
exact_part total = exact_then exact_value (λ m. exact_giving _ (exact_subscripts total))

exact_stride : {g : Test Tok} → Exact g file.Stride stride_part
unfolding stride_part
exact_stride = exact_then (exact_sign 44 refl) (λ _. exact_then exact_value (λ stride. exact_then (exact_sign 44 refl) (λ _. exact_giving _ exact_value)))

-- what is read exactly of the regions of a statement, each of which begins with its brace
pub record ExactRegions (R : file.Regions) (r : ReadsRegions) : Type 0 where
  pub exact : (total : ℕ) → Exact never (R total) (r total)
  pub first : (total : ℕ) (test : Class → Bool) (v : Bool) → test (Sign 123) ≡ v → Ahead never (classed class test) v (R total)

exact_else : {R : file.Regions} {r : ReadsRegions} {g : Test Tok} → ExactRegions R r → (total : ℕ) → Exact g (file.Else R total) (else_part r total)
exact_else c total = exact_then (exact_word (codes "else") refl) (λ _. exact_giving _ (exact_any (c.exact total)))

pub exact_acted : {R : file.Regions} {r : ReadsRegions} → ExactRegions R r → (aliases : List Alias) (total : ℕ) (a : Action) → Exact goes_stmt (file.Acted R aliases total a) (acted r aliases total a)
unfolding acted
exact_acted c aliases total action.For =
    exact_then exact_value (λ v. exact_then (exact_sign 61 refl) (λ _. exact_bind (exact_turns aliases total) (λ t. exact_giving _ (exact_any (c.exact t.total)))
    (λ t. ahead_or (ahead_first (c.first t.total (is_word (codes "step")) false refl)) (ahead_first (c.first t.total (is_sign 91) false refl)))))
exact_acted c aliases total action.If =
    exact_then (exact_some_set aliases total) (λ p. exact_bind (exact_operands p.0.dims p.0.syms)
    (λ vs. exact_then (c.exact p.1) (λ q. exact_giving _
    (exact_optional (at_word (codes "else")) (exact_else c q.1).faithful (ahead_token (class_test _ (word_class (codes "else")) (is_word (codes "else")) refl)) (λ t h. or_left (at_word (codes "else") t) (at_sign 91 t) h) (None, q.1))))
    (λ vs. ahead_first (c.first p.1 (is_sign 91) false refl)))
exact_acted c aliases total action.Store =
    exact_then exact_value (λ x. exact_then (exact_sign 44 refl) (λ _. exact_then exact_value (λ m. exact_then (exact_subscripts total) (λ p. exact_typed _))))
exact_acted c aliases total action.RawStore =
    exact_then exact_value (λ x. exact_then (exact_sign 44 refl) (λ _. exact_then exact_value (λ m. exact_then exact_brackets (λ vs. exact_typed _))))
exact_acted c aliases total action.Dealloc = exact_then exact_value (λ m. exact_typed _)
exact_acted c aliases total action.Start =
    exact_then (exact_part total) (λ a. exact_then (exact_sign 44 refl) (λ _. exact_then (exact_part a.1.1) (λ b. exact_then (exact_sign 44 refl) (λ _. exact_then (exact_part b.1.1) (λ d.
    exact_then (exact_sign 44 refl) (λ _. exact_then exact_value (λ n.
    exact_closed (exact_optional (at_sign 44) exact_stride.faithful (ahead_token (class_test _ (sign_class 44) (is_sign 44) refl)) (λ t h. h) None) (λ s. exact_sign 58 refl) (λ s. class_test _ (sign_class 58) (is_sign 44) refl)
    (λ s _. exact_then exact_memref (λ t. exact_then (exact_sign 44 refl) (λ _. exact_then exact_memref (λ u. exact_then (exact_sign 44 refl) (λ _. exact_giving _ exact_memref))))))))))))
exact_acted c aliases total action.Wait = exact_then (exact_part total) (λ a. exact_then (exact_sign 44 refl) (λ _. exact_then exact_value (λ n. exact_typed _)))

-- the first token of a statement: a value, or the word of an action
pub value_test : (test : Class → Bool) (v : Bool) → ((w : List ℕ) → test (ValueName w) ≡ v) → (t : Tok) (x : ℕ × Name) → lined value t ≡ Some x → classed class test (Some t) ≡ v
value_test test v values t x h = value_is _ test v (λ w y q. values w) (class t) x.1 (with_line_is t.token.line (value t) x h)

action_test : (test : Class → Bool) (v : Bool) → ((w : List ℕ) (a : Action) → action_of w ≡ Some a → test (Keyword w) ≡ v) → (t : Tok) (x : ℕ × Action) → lined action_word t ≡ Some x → classed class test (Some t) ≡ v
action_test test v words t x h = keyword_is action_of test v words (class t) x.1 (with_line_is t.token.line (action_word t) x h)

exact_statement : {R : file.Regions} {r : ReadsRegions} → ExactRegions R r → (aliases : List Alias) (b : List Stmt × ℕ) → Exact goes_stmt (file.Statement R aliases b) (statement r aliases b)
exact_statement c aliases b =
    exact_either at_value
    (exact_then exact_lined_value (λ n. exact_then (exact_sign 61 refl) (λ _. exact_then exact_definition (λ d. exact_giving _ (exact_defined aliases b.1 n.1 d)))))
    (exact_then exact_action (λ a. exact_giving _ (exact_acted c aliases b.1 a.1)))
    (ahead_token (value_test is_value true (λ w. refl)))
    (ahead_token (action_test is_value false (λ w a q. refl)))

-- what begins a statement isn't what one goes on with
stmt_apart : (t : Option Tok) → at_stmt t ≡ true → goes_stmt t ≡ false
unfolding action_of
stmt_apart None h = refl
stmt_apart (Some t) h = by_class (class t) h
  where
    by_test : (w : List ℕ) (v : Bool) → bytes_eq w (codes "else") ≡ v → is_there (action_of w) ≡ true → (v || false) ≡ false
    by_test w true e s = absurd (true_no (sym s ∙ ap (λ m. is_there (action_of m)) ((bytes_eq-Decides w (codes "else")).0 e)))
    by_test w false e s = refl

    by_class : (c : Class) → begins_stmt c ≡ true → (is_word (codes "else") c || is_sign 91 c) ≡ false
    by_class (Sign b) e = cc
    by_class (Keyword w) e = by_test w (bytes_eq w (codes "else")) refl e
    by_class (ValueName w) e = refl
    by_class (AliasName w) e = refl
    by_class (FunctionName w) e = refl
    by_class (Number n) e = refl
    by_class (Size w) e = refl
    by_class ArrowSign e = refl
    by_class (Relation r) e = refl
    by_class Other e = refl

pub stmt_items : {R : file.Regions} {r : ReadsRegions} → ExactRegions R r → (aliases : List Alias) → Items at_stmt goes_stmt (file.Statement R aliases) (statement r aliases)
stmt_items c aliases = record {
  ended = refl;
  faithful = λ b. (exact_statement c aliases b).faithful;
  begin = λ b. ahead_either (ahead_token (value_test begins_stmt true (λ w. refl))) (ahead_token (action_test begins_stmt true (λ w a q. ap is_there q)));
  apart = stmt_apart;
}

-- statements go on with what begins one, or as the last one does
abbrev pub goes_stmts : Test Tok
goes_stmts t = at_stmt t || goes_stmt t

pub exact_statements : {R : file.Regions} {r : ReadsRegions} → ExactRegions R r → (aliases : List Alias) (total : ℕ) → Exact goes_stmts (file.Statements R aliases total) (statements r aliases total)
exact_statements c aliases total = exact_many (stmt_items c aliases) (λ t h. or_left (at_stmt t) (goes_stmt t) h) (λ t h. or_right (at_stmt t) (goes_stmt t) h) ([], total)

-- ---- regions

region_first : (aliases : List Alias) (left total : ℕ) (test : Class → Bool) (v : Bool) → test (Sign 123) ≡ v → Ahead never (classed class test) v (file.Region aliases left total)
region_first aliases zero total test v h = ahead_token (λ t x e. class_test _ (sign_class 123) test h t x (limited_is true (sign 123) t x e))
region_first aliases (suc left) total test v h = ahead_token (class_test _ (sign_class 123) test h)

exact_region : (aliases : List Alias) (left total : ℕ) → Exact never (file.Region aliases left total) (region aliases left total)
unfolding region
exact_region aliases zero total = exact_then (exact_limited true (sign 123) (record { kind = k.Punct 123; text = codes "{"; line = 0; column = 0 }) tt refl) (λ _. exact_giving _ (exact_sign 125 refl))
exact_region aliases (suc left) total =
    exact_enclosed (exact_sign 123 refl) (exact_sign 125 refl) (class_test _ (sign_class 125) (λ c. begins_stmt c || (is_word (codes "else") c || is_sign 91 c)) refl)
    (exact_statements (record { exact = exact_region aliases left; first = region_first aliases left }) aliases total)

pub exact_regions : (aliases : List Alias) (left : ℕ) → ExactRegions (file.Region aliases left) (region aliases left)
exact_regions aliases left = record { exact = exact_region aliases left; first = region_first aliases left }
