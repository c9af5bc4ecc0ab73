-- Lists of expressions and rows of a given text are spelled again.
use Rattle.std.proofs.Common.{◌≡◌, ℕ, ◌&&◌, nat_le, Bool, true, false, if◌then◌else◌, List, [], ◌∷◌, ◌++◌, length, Some, None, flat_map, codes, refl, sym, ap, ◌∙◌, subst, append_assoc, append-nil, inl, inr, ◌⊎◌}
use Rattle.readers.specs.Languages.{One, Many}
use Rattle.affine_lex.specs.declared.token.Kind.TheVariants as k
use Rattle.affine_expr.specs.declared.expr.Expr.{Expr}
use Rattle.affine_expr.specs.declared.map.Constraint.{Constraint}
use Rattle.affine_expr.specs.declared.map.Rel.{Rel}
use Rattle.affine_expr.specs.declared.map.Rel.TheVariants as rel
use Rattle.affine_ast.specs.Spelling.{expression_text, parameters, relation_text, row_text}
use Rattle.affine_grammar.specs.declared.words.State.{State}
use Rattle.affine_grammar.specs.declared.words.Leaves.{Leaves}
use Rattle.affine_grammar.specs.declared.words.Leaves.TheVariants as leaves
use Rattle.affine_grammar.specs.Token.{Tok, sign, relation, comma_within}
use Rattle.affine_grammar.specs.Grammar.{NextResult, Row, NextRow}
use Rattle.printed_texts.specs.Nesting.{nests_within, AllNest, RowsNest}
use Rattle.printed_texts.proofs.Pieces.{tok, ends, Prints, seq, giving, no_item, item_then, blank_before, blank_behind}
use Rattle.printed_texts.proofs.Marks.{tight_piece, greater_equal_piece, less_equal_piece, equal_piece}
use Rattle.printed_texts.proofs.Given.{IsGiven, limited_some}
use Rattle.printed_texts.proofs.States.{Grown, grown_same, grown_then, printed_leaves, moved, Room, Fixed, fixed_then}
use Rattle.printed_texts.proofs.Expressions.{ToldExpression}

pub fixed_same : (l : Leaves) (s : State) → Fixed l s s
fixed_same leaves.Parameters s = (refl, refl)
fixed_same leaves.Values s = tt

-- ---- commas

pub comma_given : (most : ℕ) (several : Bool) (n : ℕ) (t : Tok) → IsGiven t → comma_within most several n t ≡ Some tt → nat_le most n ≡ false
comma_given most true n t g h = (limited_some (nat_le most n) (sign 44) t tt g.counted h).0
comma_given most false n t g h = absurd cc

pub comma_again : (most : ℕ) (several : Bool) (n : ℕ) → several ≡ true → nat_le most n ≡ false → Prints false (codes ", ") (One (comma_within most several n)) tt
comma_again most several n s h = blank_behind (tight_piece 44 (comma_within most several n) tt refl refl refl (λ r. refl) (λ line column. subst (λ v. comma_within most v n (tok (k.Punct 44, 44 ∷ []) line column) ≡ Some tt) (sym s) (ap (λ v. if v && true then None else Some tt) h)))

-- what stands behind the first of a list
abbrev pub more_text : {A : Type 0} → (A → List ℕ) → List A → List ℕ
more_text f xs = flat_map (λ y. codes ", " ++ f y) xs

pub more_joins : {A : Type 0} (f : A → List ℕ) (xs : List A) (r : List ℕ) → ends r ≡ true → ends (more_text f xs ++ r) ≡ true
more_joins f [] r h = h
more_joins f (x ∷ xs) r h = refl

-- ---- expressions

-- the results behind some of a given text
pub record ToldList (l : Leaves) (b c : List Expr × State) : Type 0 where
  pub items : List Expr
  pub items_are : c.0 ≡ b.0 ++ items
  pub grown : Grown b.1 c.1
  pub fixed : Fixed l b.1 c.1
  pub again : (several : Bool) → (several ≡ true) ⊎ (items ≡ []) → (d : ℕ) (final : State) → Room l d final → Grown c.1 final → AllNest items
      → Prints true (more_text (expression_text (printed_leaves l final)) items) (Many (NextResult l several) (b.0, moved l d b.1)) (c.0, moved l d c.1)

pub list_none : (l : Leaves) (b : List Expr × State) → ToldList l b b
list_none l b = record { items = []; items_are = sym (append-nil b.0); grown = grown_same b.1; fixed = fixed_same l b.1; again = λ several s d final room g n. no_item (b.0, moved l d b.1) }

pub list_more : (l : Leaves) (b c : List Expr × State) (q : Expr × State) → nat_le 8 (length b.0) ≡ false → ToldExpression l b.1 q → ToldList l (b.0 ++ q.0 ∷ [], q.1) c → ToldList l b c
list_more l b c q h t r = record {
  items = q.0 ∷ r.items;
  items_are = r.items_are ∙ append_assoc b.0 (q.0 ∷ []) r.items;
  grown = grown_then b.1 q.1 c.1 t.grown r.grown;
  fixed = fixed_then l b.1 q.1 c.1 t.fixed r.fixed;
  again = λ several s d final room g n. by_case several s d final room g n;
}
  where
    by_case : (several : Bool) → (several ≡ true) ⊎ (q.0 ∷ r.items ≡ []) → (d : ℕ) (final : State) → Room l d final → Grown c.1 final → AllNest (q.0 ∷ r.items)
        → Prints true (more_text (expression_text (printed_leaves l final)) (q.0 ∷ r.items)) (Many (NextResult l several) (b.0, moved l d b.1)) (c.0, moved l d c.1)
    by_case several (inr e) d final room g n = absurd cc
    by_case several (inl e) d final room g n =
        let x : Prints true (codes ", " ++ expression_text (printed_leaves l final) q.0) (NextResult l several (b.0, moved l d b.1)) (b.0 ++ q.0 ∷ [], moved l d q.1) =
        seq (comma_again 8 several (length b.0) e h) tt (giving (λ (p : Expr × State). (b.0 ++ p.0 ∷ [], p.1)) (t.again d final room (grown_then q.1 c.1 final r.grown g) n.0)) in
        item_then x (more_joins (expression_text (printed_leaves l final)) r.items) (r.again several (inl e) d final room g n.1)

-- ---- rows

pub record ToldRows (b c : List Constraint × State) : Type 0 where
  pub items : List Constraint
  pub items_are : c.0 ≡ b.0 ++ items
  pub grown : Grown b.1 c.1
  pub fixed : Fixed leaves.Parameters b.1 c.1
  pub again : (d : ℕ) (final : State) → Room leaves.Parameters d final → Grown c.1 final → RowsNest items
      → Prints true (more_text row_text items) (Many NextRow (b.0, moved leaves.Parameters d b.1)) (c.0, moved leaves.Parameters d c.1)

relation_again : (r : Rel) → Prints false (relation_text r) (One relation) r
relation_again rel.Ge = blank_before (blank_behind (greater_equal_piece relation rel.Ge (λ line column. refl)))
relation_again rel.Le = blank_before (blank_behind (less_equal_piece relation rel.Le (λ line column. refl)))
relation_again rel.Eq = blank_before (blank_behind (equal_piece relation rel.Eq (λ line column. refl)))

relation_joins : (r : Rel) (b : List ℕ) (o : Bool) (m : List ℕ) → ends ((relation_text r ++ b) ++ m) ≡ true
relation_joins rel.Ge b o m = refl
relation_joins rel.Le b o m = refl
relation_joins rel.Eq b o m = refl

-- one row
pub record ToldRow (b c : List Constraint × State) : Type 0 where
  pub row : Constraint
  pub row_is : c.0 ≡ b.0 ++ row ∷ []
  pub grown : Grown b.1 c.1
  pub fixed : Fixed leaves.Parameters b.1 c.1
  pub again : (d : ℕ) (final : State) → Room leaves.Parameters d final → Grown c.1 final → nests_within row.left ≡ true → nests_within row.right ≡ true → Prints true (row_text row) (Row (b.0, moved leaves.Parameters d b.1)) (c.0, moved leaves.Parameters d c.1)

pub row_of : (b : List Constraint × State) (p q : Expr × State) (r : Rel) → ToldExpression leaves.Parameters b.1 p → ToldExpression leaves.Parameters p.1 q → ToldRow b (b.0 ++ record { left = p.0; rel = r; right = q.0 } ∷ [], q.1)
unfolding row_text
row_of b p q r t u = record {
  row = record { left = p.0; rel = r; right = q.0 };
  row_is = refl;
  grown = grown_then b.1 p.1 q.1 t.grown u.grown;
  fixed = fixed_then leaves.Parameters b.1 p.1 q.1 t.fixed u.fixed;
  again = λ d final room g m n. seq (t.again d final room (grown_then p.1 q.1 final u.grown g) m) (λ s c. relation_joins r (expression_text parameters q.0) true s)
      (seq (relation_again r) tt (giving (λ (z : Expr × State). (b.0 ++ record { left = p.0; rel = r; right = z.0 } ∷ [], z.1)) (u.again d final room g n)));
}

pub rows_none : (b : List Constraint × State) → ToldRows b b
rows_none b = record { items = []; items_are = sym (append-nil b.0); grown = grown_same b.1; fixed = (refl, refl); again = λ d final room g n. no_item (b.0, moved leaves.Parameters d b.1) }

pub rows_more : (b m c : List Constraint × State) → nat_le 16 (length b.0) ≡ false → ToldRow b m → ToldRows m c → ToldRows b c
rows_more b m c h t r = record {
  items = t.row ∷ r.items;
  items_are = r.items_are ∙ ap (λ l. l ++ r.items) t.row_is ∙ append_assoc b.0 (t.row ∷ []) r.items;
  grown = grown_then b.1 m.1 c.1 t.grown r.grown;
  fixed = fixed_then leaves.Parameters b.1 m.1 c.1 t.fixed r.fixed;
  again = λ d final room g n.
      let x : Prints true (codes ", " ++ row_text t.row) (NextRow (b.0, moved leaves.Parameters d b.1)) (m.0, moved leaves.Parameters d m.1) = seq (comma_again 16 true (length b.0) refl h) tt (t.again d final room (grown_then m.1 c.1 final r.grown g) n.0 n.1) in
      let y : Prints true (more_text row_text r.items) (Many NextRow (m.0, moved leaves.Parameters d m.1)) (c.0, moved leaves.Parameters d c.1) = r.again d final room g n.2 in
      item_then {o = true} {m = true} {s = codes ", " ++ row_text t.row} {t = more_text row_text r.items} {L = NextRow} {b = (b.0, moved leaves.Parameters d b.1)} {c = (m.0, moved leaves.Parameters d m.1)} {d = (c.0, moved leaves.Parameters d c.1)} x (more_joins row_text r.items) y;
}
