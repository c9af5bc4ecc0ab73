-- Maps and sets of a given text are spelled again.
use Rattle.std.proofs.Common.{◌≡◌, ℕ, suc, ◌+◌, ◌≤◌, ◌<◌, ◌^◌, nat_lt, Bool, true, false, List, [], ◌∷◌, ◌++◌, length, codes, refl, sym, ap, ◌∙◌, subst, append_assoc, inl, inr, ◌⊎◌, arith}
use Rattle.std.proofs.lemmas.Bool.Decides.{nat_tests}
use Rattle.readers.specs.Languages.{One, Many}
use Rattle.affine_expr.specs.declared.expr.Expr.{Expr}
use Rattle.affine_expr.specs.declared.map.Map.{Map}
use Rattle.affine_expr.specs.declared.map.Set.{Set}
use Rattle.affine_expr.specs.declared.map.Constraint.{Constraint}
use Rattle.affine_ast.specs.Spelling.{expression_text, parameters, row_text, listed, opening_text, parameters_text, results_text, rows_text}
use Rattle.affine_grammar.specs.declared.words.State.{State}
use Rattle.affine_grammar.specs.declared.words.Scope.{Scope}
use Rattle.affine_grammar.specs.declared.words.Leaves.TheVariants as leaves
use Rattle.affine_grammar.specs.Token.{sign, arrow}
use Rattle.affine_grammar.specs.Grammar.{Result, NextResult, Results, Row, NextRow, Rows, over, map_with, Map0, set_with, Set0}
use Rattle.printed_texts.specs.Nesting.{AllNest, RowsNest}
use Rattle.printed_texts.proofs.Pieces.{Prints, seq, prints_as, giving, blank_before, blank_behind}
use Rattle.printed_texts.proofs.Marks.{keyword, arrow_piece, less_sign, greater_sign, colon_sign}
use Rattle.printed_texts.proofs.Places.{parens}
use Rattle.printed_texts.proofs.States.{params, Grown, grown_same, grown_then, moved, Room, Fixed, fixed_then}
use Rattle.printed_texts.proofs.Expressions.{ToldExpression}
use Rattle.printed_texts.proofs.Lists.{more_text, more_joins, ToldList, ToldRow, ToldRows}
use Rattle.printed_texts.proofs.Params.{length_params, scope_of, params_again, FewNames}

-- ---- results

pub record ToldResults (s : State) (b : List Expr × State) : Type 0 where
  pub first : Expr
  pub items : List Expr
  pub results : b.0 ≡ first ∷ items
  pub grown : Grown s b.1
  pub fixed : Fixed leaves.Parameters s b.1
  pub again : (several : Bool) → (several ≡ true) ⊎ (items ≡ []) → (d : ℕ) → Room leaves.Parameters d b.1 → AllNest b.0
      → Prints false (codes "(" ++ (listed (expression_text parameters) b.0 ++ codes ")")) (Results several (moved leaves.Parameters d s)) (b.0, moved leaves.Parameters d b.1)

pub results_of : (s : State) (p : Expr × State) (b : List Expr × State) → ToldExpression leaves.Parameters s p → ToldList leaves.Parameters (p.0 ∷ [], p.1) b → ToldResults s b
unfolding listed
results_of s p b t r = record {
  first = p.0;
  items = r.items;
  results = r.items_are;
  grown = grown_then s p.1 b.1 t.grown r.grown;
  fixed = fixed_then leaves.Parameters s p.1 b.1 t.fixed r.fixed;
  again = again;
}
  where
    again : (several : Bool) → (several ≡ true) ⊎ (r.items ≡ []) → (d : ℕ) → Room leaves.Parameters d b.1 → AllNest b.0
        → Prints false (codes "(" ++ (listed (expression_text parameters) b.0 ++ codes ")")) (Results several (moved leaves.Parameters d s)) (b.0, moved leaves.Parameters d b.1)
    again several c d room n =
        let m : AllNest (p.0 ∷ r.items) = subst AllNest r.items_are n in
        let x : Prints true (expression_text parameters p.0) (Result leaves.Parameters ([], moved leaves.Parameters d s)) (p.0 ∷ [], moved leaves.Parameters d p.1) =
        giving (λ (q : Expr × State). (q.0 ∷ [], q.1)) (t.again d b.1 room r.grown m.0) in
        let y : Prints true (more_text (expression_text parameters) r.items) (Many (NextResult leaves.Parameters several) (p.0 ∷ [], moved leaves.Parameters d p.1)) (b.0, moved leaves.Parameters d b.1) =
        r.again several c d b.1 room (grown_same b.1) m.1 in
        let e : expression_text parameters p.0 ++ more_text (expression_text parameters) r.items ≡ listed (expression_text parameters) b.0 = ap (λ l. listed (expression_text parameters) l) (sym r.items_are) in
        parens (prints_as (seq x (more_joins (expression_text parameters) r.items) y) e)

-- ---- maps

-- a map, as it is printed before its operands
abbrev pub map_text : Map → List ℕ
map_text m = opening_text (codes "affine_map<") m.dims m.syms ++ results_text m.results

-- a map has several results, or it may stand where one may
abbrev pub FitsSeveral : Bool → Map → Type 0
FitsSeveral several m = (several ≡ true) ⊎ (nat_lt 1 (length m.results) ≡ false)

-- a map of a given text, with the number of operands before it and behind it
pub record ToldMap (m : Map) (total behind : ℕ) : Type 0 where
  pub small : total ≤ 1048576 → behind ≤ 1048576
  pub again : (several : Bool) → FitsSeveral several m → (d : ℕ) → behind + d ≤ 1048576 → AllNest m.results → Prints true (map_text m) (Map0 several (total + d)) (m, behind + d)

one_result : (x : Expr) (xs : List Expr) → nat_lt 1 (length (x ∷ xs)) ≡ false → xs ≡ []
one_result x [] h = refl
one_result x (y ∷ xs) h = absurd (more_than_one (length xs) h)
  where
    more_than_one : (n : ℕ) → nat_lt 1 (suc (suc n)) ≡ false → ⊥
    more_than_one n h = grind (arith, nat_tests)

map_is : (dims syms : ℕ) (d : ℕ) (b : List Expr × State) → ◌≡◌ {A = Map × ℕ} (map_with (scope_of dims syms) (b.0, moved leaves.Parameters d b.1)) (record { dims = dims; syms = syms; results = b.0 }, b.1.total + d)
map_is dims syms d b =
    let e : ◌≡◌ {A = Map} (record { dims = length (params 100 0 dims); syms = length (params 115 0 syms); results = b.0 }) (record { dims = dims; syms = syms; results = b.0 }) = cc (length_params 100 0 dims, length_params 115 0 syms) in
    ap (λ (m : Map). let o : Map × ℕ = (m, b.1.total + d) in o) e

pub map_of : (names : Scope) (total : ℕ) (b : List Expr × State) → FewNames names → ToldResults (over names total) b → ToldMap (map_with names b).0 total (map_with names b).1
unfolding opening_text results_text parameters_text
map_of names total b few t = record { small = λ h. t.grown.kept h; again = again }
  where
    fits : (several : Bool) → FitsSeveral several (map_with names b).0 → (several ≡ true) ⊎ (t.items ≡ [])
    fits several (inl h) = inl h
    fits several (inr h) = inr (one_result t.first t.items (ap (λ l. nat_lt 1 (length l)) (sym t.results) ∙ h))

    again : (several : Bool) → FitsSeveral several (map_with names b).0 → (d : ℕ) → b.1.total + d ≤ 1048576 → AllNest b.0 → Prints true (map_text (map_with names b).0) (Map0 several (total + d)) ((map_with names b).0, b.1.total + d)
    again several c d room n =
        let nd = length names.dims in
        let ns = length names.syms in
        let fd : length b.1.dims < 2 ^ 64 = subst (λ l. length l < 2 ^ 64) (sym t.fixed.0) few.dims in
        let fs : length b.1.syms < 2 ^ 64 = subst (λ l. length l < 2 ^ 64) (sym t.fixed.1) few.syms in
        let r = t.again several (fits several c) d (record { total = room; few = (fd, fs) }) n in
        let a : Prints false (codes " -> ") (One arrow) tt = blank_before (blank_behind (arrow_piece arrow tt (λ line column. refl))) in
        let p = params_again nd ns few.dims few.syms in
        let inner = seq p tt (seq a tt (giving (map_with (scope_of nd ns)) r)) in
        let whole : Prints true _ (Map0 several (total + d)) (map_with (scope_of nd ns) (b.0, moved leaves.Parameters d b.1)) = seq (keyword (codes "affine_map") refl refl) (λ s c. refl) (seq less_sign (λ s c. refl) (seq inner tt (giving (λ _. map_with (scope_of nd ns) (b.0, moved leaves.Parameters d b.1)) greater_sign))) in
        let moved_text = prints_as {b = map_text (map_with names b).0} whole (simp (append_assoc) refl) in
        subst (λ x. Prints true (map_text (map_with names b).0) (Map0 several (total + d)) x) (map_is nd ns d b) moved_text

-- ---- rows

pub record ToldSetRows (s : State) (b : List Constraint × State) : Type 0 where
  pub grown : Grown s b.1
  pub fixed : Fixed leaves.Parameters s b.1
  pub again : (d : ℕ) → Room leaves.Parameters d b.1 → RowsNest b.0
      → Prints false (codes "(" ++ (listed row_text b.0 ++ codes ")")) (Rows (moved leaves.Parameters d s)) (b.0, moved leaves.Parameters d b.1)

pub rows_of : (s : State) (m b : List Constraint × State) → ToldRow ([], s) m → ToldRows m b → ToldSetRows s b
unfolding listed
rows_of s m b t r = record {
  grown = grown_then s m.1 b.1 t.grown r.grown;
  fixed = fixed_then leaves.Parameters s m.1 b.1 t.fixed r.fixed;
  again = again;
}
  where
    results : b.0 ≡ t.row ∷ r.items
    results = r.items_are ∙ ap (λ l. l ++ r.items) t.row_is

    again : (d : ℕ) → Room leaves.Parameters d b.1 → RowsNest b.0
        → Prints false (codes "(" ++ (listed row_text b.0 ++ codes ")")) (Rows (moved leaves.Parameters d s)) (b.0, moved leaves.Parameters d b.1)
    again d room n =
        let q : RowsNest (t.row ∷ r.items) = subst RowsNest results n in
        let x : Prints true (row_text t.row) (Row ([], moved leaves.Parameters d s)) (m.0, moved leaves.Parameters d m.1) = t.again d b.1 room r.grown q.0 q.1 in
        let y : Prints true (more_text row_text r.items) (Many NextRow (m.0, moved leaves.Parameters d m.1)) (b.0, moved leaves.Parameters d b.1) = r.again d b.1 room (grown_same b.1) q.2 in
        let e : row_text t.row ++ more_text row_text r.items ≡ listed row_text b.0 = ap (λ l. listed row_text l) (sym results) in
        parens (prints_as (seq x (more_joins row_text r.items) y) e)

-- ---- sets

-- a set, as it is printed before its operands
abbrev pub set_head_text : Set → List ℕ
set_head_text m = opening_text (codes "affine_set<") m.dims m.syms ++ rows_text m.rows

-- a set of a given text, with the number of operands before it and behind it
pub record ToldSet (m : Set) (total behind : ℕ) : Type 0 where
  pub small : total ≤ 1048576 → behind ≤ 1048576
  pub again : (d : ℕ) → behind + d ≤ 1048576 → RowsNest m.rows → Prints true (set_head_text m) (Set0 (total + d)) (m, behind + d)

set_is : (dims syms : ℕ) (d : ℕ) (b : List Constraint × State) → ◌≡◌ {A = Set × ℕ} (set_with (scope_of dims syms) (b.0, moved leaves.Parameters d b.1)) (record { dims = dims; syms = syms; rows = b.0 }, b.1.total + d)
set_is dims syms d b =
    let e : ◌≡◌ {A = Set} (record { dims = length (params 100 0 dims); syms = length (params 115 0 syms); rows = b.0 }) (record { dims = dims; syms = syms; rows = b.0 }) = cc (length_params 100 0 dims, length_params 115 0 syms) in
    ap (λ (m : Set). let o : Set × ℕ = (m, b.1.total + d) in o) e

pub set_of : (names : Scope) (total : ℕ) (b : List Constraint × State) → FewNames names → ToldSetRows (over names total) b → ToldSet (set_with names b).0 total (set_with names b).1
unfolding opening_text rows_text parameters_text
set_of names total b few t = record { small = λ h. t.grown.kept h; again = again }
  where
    again : (d : ℕ) → b.1.total + d ≤ 1048576 → RowsNest b.0 → Prints true (set_head_text (set_with names b).0) (Set0 (total + d)) ((set_with names b).0, b.1.total + d)
    again d room n =
        let nd = length names.dims in
        let ns = length names.syms in
        let fd : length b.1.dims < 2 ^ 64 = subst (λ l. length l < 2 ^ 64) (sym t.fixed.0) few.dims in
        let fs : length b.1.syms < 2 ^ 64 = subst (λ l. length l < 2 ^ 64) (sym t.fixed.1) few.syms in
        let r = t.again d (record { total = room; few = (fd, fs) }) n in
        let a : Prints false (codes " : ") (One (sign 58)) tt = blank_before (blank_behind colon_sign) in
        let p = params_again nd ns few.dims few.syms in
        let inner = seq p tt (seq a tt (giving (set_with (scope_of nd ns)) r)) in
        let whole : Prints true _ (Set0 (total + d)) (set_with (scope_of nd ns) (b.0, moved leaves.Parameters d b.1)) = seq (keyword (codes "affine_set") refl refl) (λ s c. refl) (seq less_sign (λ s c. refl) (seq inner tt (giving (λ _. set_with (scope_of nd ns) (b.0, moved leaves.Parameters d b.1)) greater_sign))) in
        let moved_text = prints_as {b = set_head_text (set_with names b).0} whole (simp (append_assoc) refl) in
        subst (λ x. Prints true (set_head_text (set_with names b).0) (Set0 (total + d)) x) (set_is nd ns d b) moved_text
