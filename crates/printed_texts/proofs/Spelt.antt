-- Maps, sets, subscripts and bounds that a text spells may be written.
use Rattle.std.proofs.Common.{◌≡◌, ℕ, suc, ◌+◌, ◌≤◌, ◌<◌, ◌^◌, ◌||◌, nat_le, Bool, true, false, if◌then◌else◌, List, [], ◌∷◌, ◌++◌, length, bytes_eq, Option, Some, None, refl, sym, ap, ◌∙◌, subst, inl, inr, append_assoc, append-nil, length-append, arith}
use Rattle.std.proofs.lemmas.Bool.Decides.{nat_tests}
use Rattle.std.proofs.Math.Seq.{take-append_seam, drop-append_seam}
use Rattle.std.specs.List.{flat_map}
use Rattle.readers.specs.Languages.{Lang, Both, Many, none, more, Listed}
use Rattle.affine_expr.specs.declared.expr.Expr.{Expr}
use Rattle.affine_expr.specs.declared.map.Constraint.{Constraint}
use Rattle.affine_expr.specs.declared.map.Map.{Map}
use Rattle.affine_expr.specs.declared.map.Set.{Set}
use Rattle.affine_ast.specs.declared.name.Name.{Name}
use Rattle.affine_ast.specs.declared.types.Access.{Access}
use Rattle.affine_ast.specs.declared.types.Bound.{Bound}
use Rattle.affine_ast.specs.declared.types.Bound.TheVariants as bound
use Rattle.affine_grammar.specs.declared.words.Alias.{Alias}
use Rattle.affine_grammar.specs.declared.words.Body.{Body}
use Rattle.affine_grammar.specs.declared.words.Body.TheVariants as body
use Rattle.affine_grammar.specs.declared.words.Leaves.{Leaves}
use Rattle.affine_grammar.specs.declared.words.Leaves.TheVariants as leaves
use Rattle.affine_grammar.specs.declared.words.Scope.{Scope}
use Rattle.affine_grammar.specs.declared.words.State.{State}
use Rattle.affine_grammar.specs.Token.{Tok, class, sign, alias_in, map_body, map_meant, set_body, set_meant, brings}
use Rattle.affine_grammar.specs.Grammar.{Result, NextResult, Results, Row, NextRow, Rows, Map0, Set0, SomeMap, SomeSet, Use, Subscripts, Expression, begun, over, map_with, set_with, no_values, access_with}
use Rattle.affine_grammar.specs.GrammarFile.{BoundOf}
use Rattle.printed_texts.specs.Nesting.{printed_nesting, nests_within, AllNest, RowsNest, UseNests, BoundNests}
use Rattle.printed_texts.specs.Writable.{AllWritten, IsWithin, ExpressionsFit, RowsFit, OperandsFit, Operand, Dimension, Symbol, Integer, operands_of, operands_in, operands_in_rows, operands_in_use, operands_in_bound, NamesFit, UseFits, ConditionFits, Appear, AreApart, AllWithin, SubscriptsFit, BoundFits}
use Rattle.printed_texts.proofs.Given.{Given, given_left, given_right, given_one, value_given, of_alias_some}
use Rattle.printed_texts.proofs.Types.{signed_told}
use Rattle.printed_texts.proofs.Params.{FewNames, params_told}
use Rattle.printed_texts.proofs.Expressions.{expression_depth}
use Rattle.printed_texts.proofs.Lists.{comma_given}
use Rattle.printed_texts.proofs.Uses.{ToldOperands, operands_told, brings_some}
use Rattle.printed_texts.proofs.Walked.{Walked, Counted, counted, of_parameters, AreValues, no_names, of_values, expression_walked}

-- ---- expressions

-- an expression of a given text
pub record IsRead (l : Leaves) (s : State) (p : Expr × State) : Type 0 where
  pub walked : Walked l (begun s) p
  pub depth : nests_within p.0 ≡ true → printed_nesting p.0 ≤ 128

expression_read : (l : Leaves) (s : State) (f : List Tok) (p : Expr × State) → Given f → Expression l s f p → IsRead l s p
expression_read l s f p g h = record { walked = expression_walked l s f p g h; depth = expression_depth l s f p g h }

read_count : (l : Leaves) (s : State) (p : Expr × State) → IsRead l s p → Counted (begun s) (operands_of p.0) p.1
read_count l s p r = counted l (operands_of p.0) (begun s) p.1 r.walked

read_within : (l : Leaves) (s : State) (p : Expr × State) → IsRead l s p → nests_within p.0 ≡ true → IsWithin p.0
read_within l s p r n =
    let c = read_count l s p r in
    let a = c.operands in
    let b = c.few (omega arith) in
    record { operands = omega (arith, a, b); nesting = r.depth n }

-- ---- lists of expressions

abbrev pub AllRead : Leaves → State → List Expr → State → Type 0
AllRead l s [] t = s ≡ t
AllRead l s (x ∷ xs) t = (u : State) × (IsRead l s (x, u) × AllRead l u xs t)

record ReadList (l : Leaves) (b c : List Expr × State) : Type 0 where
  items : List Expr
  items_are : c.0 ≡ b.0 ++ items
  all : AllRead l b.1 items c.1
  most : length b.0 ≤ 8 → length c.0 ≤ 8

less : (a b : ℕ) → nat_le a b ≡ false → b < a
less a b h = grind (arith, nat_tests)

list_read : (l : Leaves) (several : Bool) (b c : List Expr × State) (f : List Tok) → Given f → Many (NextResult l several) b f c → ReadList l b c
list_read l several b c f g (none _ _ p) = record { items = []; items_are = sym (append-nil b.0); all = refl; most = λ k. k }
list_read l several b c f g (more _ d _ _ left right p i m) =
    let gl = given_left f left right p g in
    let gr = given_right f left right p g in
    let q = i.second in
    let ge = given_left i.right q.left q.right q.parts (given_right left i.left i.right i.parts gl) in
    let h = less 8 (length b.0) (comma_given 8 several (length b.0) i.first.token (given_one i.left i.first.token i.first.alone (given_left left i.left i.right i.parts gl)) i.first.accepted) in
    let rest : ReadList l (b.0 ++ q.value.0 ∷ [], q.value.1) c = subst (λ x. ReadList l x c) q.second.1 (list_read l several d c right gr m) in
    let longer = length-append b.0 (q.value.0 ∷ []) in
    record {
      items = q.value.0 ∷ rest.items;
      items_are = rest.items_are ∙ append_assoc b.0 (q.value.0 ∷ []) rest.items;
      all = (q.value.1, (expression_read l b.1 q.left q.value ge q.first, rest.all));
      most = λ k. rest.most (omega (arith, h, longer));
    }

pub record Totals (s : State) (n : ℕ) (t : State) : Type 0 where
  pub count : t.total ≡ s.total + n
  pub small : s.total ≤ 1048576 → t.total ≤ 1048576

all_count : (l : Leaves) (xs : List Expr) (s t : State) → AllRead l s xs t → Totals s (operands_in xs) t
all_count l [] s t h = subst (Totals s 0) h (record { count = omega arith; small = λ k. k })
all_count l (x ∷ xs) s t h =
    let c = read_count l s (x, h.0) h.1.0 in
    let a = c.total in
    let r = all_count l xs h.0 t h.1.1 in
    let b = r.count in
    record { count = omega (arith, a, b); small = λ k. r.small (c.small k) }

-- over parameters
parameters_fit : (xs : List Expr) (s t : State) → AllRead leaves.Parameters s xs t → AllNest xs → ExpressionsFit (length s.dims) (length s.syms) xs
parameters_fit [] s t h n = tt
parameters_fit (x ∷ xs) s t h n =
    let o = of_parameters (operands_of x) (begun s) h.0 h.1.0.walked in
    let r = parameters_fit xs h.0 t h.1.1 n.1 in
    let d : length h.0.dims ≡ length s.dims = ap (λ (l : List Name). length l) o.dims in
    let y : length h.0.syms ≡ length s.syms = ap (λ (l : List Name). length l) o.syms in
    (record { within = read_within leaves.Parameters s (x, h.0) h.1.0 n.0; operands = o.fit }, subst (λ k. ExpressionsFit (length s.dims) k xs) y (subst (λ k. ExpressionsFit k (length h.0.syms) xs) d r))

all_within : (l : Leaves) (xs : List Expr) (s t : State) → AllRead l s xs t → AllNest xs → AllWithin xs
all_within l [] s t h n = tt
all_within l (x ∷ xs) s t h n = (read_within l s (x, h.0) h.1.0 n.0, all_within l xs h.0 t h.1.1 n.1)

-- ---- maps

-- a map that a text spells, with the number of operands before it and behind it
pub record SpeltMap (m : Map) (total behind : ℕ) : Type 0 where
  pub some : 1 ≤ length m.results
  pub most : length m.results ≤ 8
  pub fit : AllNest m.results → ExpressionsFit m.dims m.syms m.results
  pub few_dims : m.dims < 2 ^ 64
  pub few_syms : m.syms < 2 ^ 64
  pub count : behind ≡ total + operands_in m.results
  pub small : total ≤ 1048576 → behind ≤ 1048576

record ReadResults (s : State) (b : List Expr × State) : Type 0 where
  some : 1 ≤ length b.0
  most : length b.0 ≤ 8
  all : AllRead leaves.Parameters s b.0 b.1

results_read : (several : Bool) (s : State) (b : List Expr × State) (f : List Tok) → Given f → Results several s f b → ReadResults s b
results_read several s b f g h =
    let i = h.second in
    let j = i.first in
    let g1 = given_left h.right i.left i.right i.parts (given_right f h.left h.right h.parts g) in
    let gl = given_left i.left j.left j.right j.parts g1 in
    let gr = given_right i.left j.left j.right j.parts g1 in
    let q = j.first in
    let t = expression_read leaves.Parameters s q.left q.value (given_left j.left q.left q.right q.parts gl) q.first in
    let r : ReadList leaves.Parameters (q.value.0 ∷ [], q.value.1) i.value = subst (λ x. ReadList leaves.Parameters x i.value) q.second.1 (list_read leaves.Parameters several j.value i.value j.right gr j.second) in
    let e : i.value.0 ≡ q.value.0 ∷ r.items = r.items_are in
    let n : length i.value.0 ≡ suc (length r.items) = ap (λ (l : List Expr). length l) e in
    subst (ReadResults s) (sym i.second.second.1) (record {
      some = omega (arith, n);
      most = r.most (omega arith);
      all = subst (λ xs. AllRead leaves.Parameters s xs i.value.1) (sym e) (q.value.1, (t, r.all));
    })

map_spelt_of : (names : Scope) (total : ℕ) (b : List Expr × State) → FewNames names → ReadResults (over names total) b → SpeltMap (map_with names b).0 total (map_with names b).1
map_spelt_of names total b few r =
    let c = all_count leaves.Parameters b.0 (over names total) b.1 r.all in
    record { some = r.some; most = r.most; fit = parameters_fit b.0 (over names total) b.1 r.all; few_dims = few.dims; few_syms = few.syms; count = c.count; small = c.small }

pub map_spelt : (several : Bool) (total : ℕ) (p : Map × ℕ) (f : List Tok) → Given f → Map0 several total f p → SpeltMap p.0 total p.1
map_spelt several total p f g h =
    let i = h.second.second in
    let j = i.first in
    let a = j.second in
    let r = a.second in
    let g1 = given_right f h.left h.right h.parts g in
    let g2 = given_right h.right h.second.left h.second.right h.second.parts g1 in
    let g3 = given_left h.second.right i.left i.right i.parts g2 in
    let gp = given_left i.left j.left j.right j.parts g3 in
    let ga = given_right i.left j.left j.right j.parts g3 in
    let gr = given_left a.right r.left r.right r.parts (given_right j.right a.left a.right a.parts ga) in
    let t = results_read several (over j.value total) r.value r.left gr r.first in
    let e : map_with j.value r.value ≡ p = sym r.second.1 ∙ sym i.second.second.1 in
    subst (λ (x : Map × ℕ). SpeltMap x.0 total x.1) e (map_spelt_of j.value total r.value (params_told j.left j.value gp j.first) t)

-- ---- sets

abbrev AllRowsRead : State → List Constraint → State → Type 0
AllRowsRead s [] t = s ≡ t
AllRowsRead s (row ∷ rows) t = (u : State) × ((v : State) × (IsRead leaves.Parameters s (row.left, u) × (IsRead leaves.Parameters u (row.right, v) × AllRowsRead v rows t)))

record ReadRows (b c : List Constraint × State) : Type 0 where
  items : List Constraint
  items_are : c.0 ≡ b.0 ++ items
  all : AllRowsRead b.1 items c.1
  most : length b.0 ≤ 16 → length c.0 ≤ 16

record ReadRow (b c : List Constraint × State) : Type 0 where
  row : Constraint
  row_is : c.0 ≡ b.0 ++ row ∷ []
  middle : State
  left : IsRead leaves.Parameters b.1 (row.left, middle)
  right : IsRead leaves.Parameters middle (row.right, c.1)

row_read : (b c : List Constraint × State) (f : List Tok) → Given f → Row b f c → ReadRow b c
row_read b c f g h =
    let r = h.second in
    let q = r.second in
    let g1 = given_left f h.left h.right h.parts g in
    let g2 = given_right f h.left h.right h.parts g in
    let g3 = given_right h.right r.left r.right r.parts g2 in
    let g4 = given_left r.right q.left q.right q.parts g3 in
    subst (ReadRow b) (sym q.second.1) (record {
      row = record { left = h.value.0; rel = r.value; right = q.value.0 };
      row_is = refl;
      middle = h.value.1;
      left = expression_read leaves.Parameters b.1 h.left h.value g1 h.first;
      right = expression_read leaves.Parameters h.value.1 q.left q.value g4 q.first;
    })

rows_read : (b c : List Constraint × State) (f : List Tok) → Given f → Many NextRow b f c → ReadRows b c
rows_read b c f g (none _ _ p) = record { items = []; items_are = sym (append-nil b.0); all = refl; most = λ k. k }
rows_read b c f g (more _ d _ _ left right p i m) =
    let gl = given_left f left right p g in
    let gr = given_right f left right p g in
    let h = less 16 (length b.0) (comma_given 16 true (length b.0) i.first.token (given_one i.left i.first.token i.first.alone (given_left left i.left i.right i.parts gl)) i.first.accepted) in
    let t = row_read b d i.right (given_right left i.left i.right i.parts gl) i.second in
    let r = rows_read d c right gr m in
    let longer : length d.0 ≡ length b.0 + 1 = ap (λ (l : List Constraint). length l) t.row_is ∙ length-append b.0 (t.row ∷ []) in
    record {
      items = t.row ∷ r.items;
      items_are = r.items_are ∙ ap (λ l. l ++ r.items) t.row_is ∙ append_assoc b.0 (t.row ∷ []) r.items;
      all = (t.middle, (d.1, (t.left, (t.right, r.all))));
      most = λ k. r.most (omega (arith, h, longer));
    }

rows_count : (rows : List Constraint) (s t : State) → AllRowsRead s rows t → Totals s (operands_in_rows rows) t
rows_count [] s t h = subst (Totals s 0) h (record { count = omega arith; small = λ k. k })
rows_count (row ∷ rows) s t h =
    let c = read_count leaves.Parameters s (row.left, h.0) h.1.1.0 in
    let d = read_count leaves.Parameters h.0 (row.right, h.1.0) h.1.1.1.0 in
    let a = c.total in
    let b = d.total in
    let r = rows_count rows h.1.0 t h.1.1.1.1 in
    let e = r.count in
    record { count = omega (arith, a, b, e); small = λ k. r.small (d.small (c.small k)) }

rows_fit : (dims syms : ℕ) (rows : List Constraint) (s t : State) → length s.dims ≡ dims → length s.syms ≡ syms → AllRowsRead s rows t → RowsNest rows → RowsFit dims syms rows
rows_fit dims syms [] s t d y h n = tt
rows_fit dims syms (row ∷ rows) s t d y h n =
    let o = of_parameters (operands_of row.left) (begun s) h.0 h.1.1.0.walked in
    let d1 : length h.0.dims ≡ dims = ap (λ (l : List Name). length l) o.dims ∙ d in
    let y1 : length h.0.syms ≡ syms = ap (λ (l : List Name). length l) o.syms ∙ y in
    let q = of_parameters (operands_of row.right) (begun h.0) h.1.0 h.1.1.1.0.walked in
    let d2 : length h.1.0.dims ≡ dims = ap (λ (l : List Name). length l) q.dims ∙ d1 in
    let y2 : length h.1.0.syms ≡ syms = ap (λ (l : List Name). length l) q.syms ∙ y1 in (
      record { within = read_within leaves.Parameters s (row.left, h.0) h.1.1.0 n.0; operands = subst (λ k. OperandsFit dims k (operands_of row.left)) y (subst (λ k. OperandsFit k (length s.syms) (operands_of row.left)) d o.fit) },
      record { within = read_within leaves.Parameters h.0 (row.right, h.1.0) h.1.1.1.0 n.1; operands = subst (λ k. OperandsFit dims k (operands_of row.right)) y1 (subst (λ k. OperandsFit k (length h.0.syms) (operands_of row.right)) d1 q.fit) },
      rows_fit dims syms rows h.1.0 t d2 y2 h.1.1.1.1 n.2,
    )

-- a set that a text spells
pub record SpeltSet (m : Set) (total behind : ℕ) : Type 0 where
  pub some : 1 ≤ length m.rows
  pub most : length m.rows ≤ 16
  pub fit : RowsNest m.rows → RowsFit m.dims m.syms m.rows
  pub few_dims : m.dims < 2 ^ 64
  pub few_syms : m.syms < 2 ^ 64
  pub count : behind ≡ total + operands_in_rows m.rows
  pub small : total ≤ 1048576 → behind ≤ 1048576

record ReadSetRows (s : State) (b : List Constraint × State) : Type 0 where
  some : 1 ≤ length b.0
  most : length b.0 ≤ 16
  all : AllRowsRead s b.0 b.1

set_rows_read : (s : State) (b : List Constraint × State) (f : List Tok) → Given f → Rows s f b → ReadSetRows s b
set_rows_read s b f g h =
    let i = h.second in
    let j = i.first in
    let g1 = given_left h.right i.left i.right i.parts (given_right f h.left h.right h.parts g) in
    let gl = given_left i.left j.left j.right j.parts g1 in
    let gr = given_right i.left j.left j.right j.parts g1 in
    let t = row_read ([], s) j.value j.left gl j.first in
    let r = rows_read j.value i.value j.right gr j.second in
    let e : i.value.0 ≡ t.row ∷ r.items = r.items_are ∙ ap (λ l. l ++ r.items) t.row_is in
    let n : length i.value.0 ≡ suc (length r.items) = ap (λ (l : List Constraint). length l) e in
    let one : length j.value.0 ≡ 1 = ap (λ (l : List Constraint). length l) t.row_is in
    subst (ReadSetRows s) (sym i.second.second.1) (record {
      some = omega (arith, n);
      most = r.most (omega (arith, one));
      all = subst (λ xs. AllRowsRead s xs i.value.1) (sym e) (t.middle, (j.value.1, (t.left, (t.right, r.all))));
    })

set_spelt_of : (names : Scope) (total : ℕ) (b : List Constraint × State) → FewNames names → ReadSetRows (over names total) b → SpeltSet (set_with names b).0 total (set_with names b).1
set_spelt_of names total b few r =
    let c = rows_count b.0 (over names total) b.1 r.all in
    record { some = r.some; most = r.most; fit = rows_fit (length names.dims) (length names.syms) b.0 (over names total) b.1 refl refl r.all; few_dims = few.dims; few_syms = few.syms; count = c.count; small = c.small }

pub set_spelt : (total : ℕ) (p : Set × ℕ) (f : List Tok) → Given f → Set0 total f p → SpeltSet p.0 total p.1
set_spelt total p f g h =
    let i = h.second.second in
    let j = i.first in
    let a = j.second in
    let r = a.second in
    let g1 = given_right f h.left h.right h.parts g in
    let g2 = given_right h.right h.second.left h.second.right h.second.parts g1 in
    let g3 = given_left h.second.right i.left i.right i.parts g2 in
    let gp = given_left i.left j.left j.right j.parts g3 in
    let ga = given_right i.left j.left j.right j.parts g3 in
    let gr = given_left a.right r.left r.right r.parts (given_right j.right a.left a.right a.parts ga) in
    let t = set_rows_read (over j.value total) r.value r.left gr r.first in
    let e : set_with j.value r.value ≡ p = sym r.second.1 ∙ sym i.second.second.1 in
    subst (λ (x : Set × ℕ). SpeltSet x.0 total x.1) e (set_spelt_of j.value total r.value (params_told j.left j.value gp j.first) t)

-- ---- aliases

abbrev pub BodySpelt : Body → ℕ → Type 0
BodySpelt (body.Map m) n = SpeltMap m 0 n
BodySpelt (body.Set s) n = SpeltSet s 0 n

abbrev pub AliasesSpelt : List Alias → Type 0
AliasesSpelt [] = Unit {0}
AliasesSpelt (a ∷ aliases) = BodySpelt a.body a.operands × AliasesSpelt aliases

alias_spelt : (w : List ℕ) (aliases : List Alias) (a : Alias) → AliasesSpelt aliases → alias_in w aliases ≡ Some a → BodySpelt a.body a.operands
alias_spelt w [] a h e = absurd cc
alias_spelt w (b ∷ aliases) a h e = by_test (alias_spelt w aliases a h.1) (bytes_eq b.name w) e
  where
    by_test : (alias_in w aliases ≡ Some a → BodySpelt a.body a.operands) → (v : Bool) → (if v then Some b else alias_in w aliases) ≡ Some a → BodySpelt a.body a.operands
    by_test ih true q = let r : b ≡ a = cc in subst (λ (x : Alias). BodySpelt x.body x.operands) r h.0
    by_test ih false q = ih q

alias_map_spelt : (m : Map) (total ops : ℕ) → total + ops ≤ 1048576 → SpeltMap m 0 ops → SpeltMap m total (total + ops)
alias_map_spelt m total ops l t = let c = t.count in record { some = t.some; most = t.most; fit = t.fit; few_dims = t.few_dims; few_syms = t.few_syms; count = omega (arith, c); small = λ h. l }

map_body_spelt : (several : Bool) (total ops : ℕ) (b : Body) (p : Map × ℕ) → map_body true several (total + ops) b ≡ Some p → BodySpelt b ops → SpeltMap p.0 total p.1
map_body_spelt several total ops (body.Set s) p h t = absurd cc
map_body_spelt several total ops (body.Map m) p h t = by_test (several || nat_le (length m.results) 1) h
  where
    by_test : (v : Bool) → (if v then brings true (total + ops) m else None) ≡ Some p → SpeltMap p.0 total p.1
    by_test true q = let i = brings_some true (total + ops) m p refl q in subst (λ (x : Map × ℕ). SpeltMap x.0 total x.1) i.1 (alias_map_spelt m total ops i.0 t)
    by_test false q = absurd cc

map_meant_spelt : (several : Bool) (total : ℕ) (w : List ℕ) (aliases : List Alias) (o : Option Alias) (p : Map × ℕ) → AliasesSpelt aliases → alias_in w aliases ≡ o → map_meant true several total o ≡ Some p → SpeltMap p.0 total p.1
map_meant_spelt several total w aliases None p t e h = absurd cc
map_meant_spelt several total w aliases (Some a) p t e h = map_body_spelt several total a.operands a.body p h (alias_spelt w aliases a t e)

some_map_spelt : (aliases : List Alias) (several : Bool) (total : ℕ) (p : Map × ℕ) (f : List Tok) → AliasesSpelt aliases → Given f → SomeMap aliases several total f p → SpeltMap p.0 total p.1
some_map_spelt aliases several total p f t g (inr h) = map_spelt several total p f g h
some_map_spelt aliases several total p f t g (inl h) =
    let i = given_one f h.token h.alone g in
    let w = of_alias_some (λ w. map_meant h.token.counted several total (alias_in w aliases)) p (class h.token) h.accepted in
    map_meant_spelt several total w.0 aliases (alias_in w.0 aliases) p t refl (subst (λ b. map_meant b several total (alias_in w.0 aliases) ≡ Some p) i.counted w.1.1)

alias_set_spelt : (m : Set) (total ops : ℕ) → total + ops ≤ 1048576 → SpeltSet m 0 ops → SpeltSet m total (total + ops)
alias_set_spelt m total ops l t = let c = t.count in record { some = t.some; most = t.most; fit = t.fit; few_dims = t.few_dims; few_syms = t.few_syms; count = omega (arith, c); small = λ h. l }

set_body_spelt : (total ops : ℕ) (b : Body) (p : Set × ℕ) → set_body true (total + ops) b ≡ Some p → BodySpelt b ops → SpeltSet p.0 total p.1
set_body_spelt total ops (body.Map m) p h t = absurd cc
set_body_spelt total ops (body.Set s) p h t = let i = brings_some true (total + ops) s p refl h in subst (λ (x : Set × ℕ). SpeltSet x.0 total x.1) i.1 (alias_set_spelt s total ops i.0 t)

set_meant_spelt : (total : ℕ) (w : List ℕ) (aliases : List Alias) (o : Option Alias) (p : Set × ℕ) → AliasesSpelt aliases → alias_in w aliases ≡ o → set_meant true total o ≡ Some p → SpeltSet p.0 total p.1
set_meant_spelt total w aliases None p t e h = absurd cc
set_meant_spelt total w aliases (Some a) p t e h = set_body_spelt total a.operands a.body p h (alias_spelt w aliases a t e)

pub some_set_spelt : (aliases : List Alias) (total : ℕ) (p : Set × ℕ) (f : List Tok) → AliasesSpelt aliases → Given f → SomeSet aliases total f p → SpeltSet p.0 total p.1
some_set_spelt aliases total p f t g (inr h) = set_spelt total p f g h
some_set_spelt aliases total p f t g (inl h) =
    let i = given_one f h.token h.alone g in
    let w = of_alias_some (λ w. set_meant h.token.counted total (alias_in w aliases)) p (class h.token) h.accepted in
    set_meant_spelt total w.0 aliases (alias_in w.0 aliases) p t refl (subst (λ b. set_meant b total (alias_in w.0 aliases) ≡ Some p) i.counted w.1.1)

-- ---- uses

both_written : (xs ys : List Name) → AllWritten xs → AllWritten ys → AllWritten (xs ++ ys)
both_written [] ys h k = k
both_written (x ∷ xs) ys h k = (h.0, both_written xs ys h.1 k)

names_fit : (dims syms : ℕ) (names : List Name) → ToldOperands dims syms names → dims < 2 ^ 64 → syms < 2 ^ 64 → NamesFit dims syms names
names_fit dims syms names t d y =
    let e : length names ≡ length t.first + length t.second = ap (λ (l : List Name). length l) t.parts ∙ length-append t.first t.second in
    let a = t.dims_told.count in
    let b = t.syms_told.count in
    record { count = omega (arith, e, a, b); written = subst AllWritten (sym t.parts) (both_written t.first t.second t.dims_told.written t.syms_told.written); few_dims = d; few_syms = y }

pub record SpeltUse (at : Access) (total behind : ℕ) : Type 0 where
  pub fit : UseNests at → UseFits at
  pub count : behind ≡ total + operands_in_use at
  pub small : total ≤ 1048576 → behind ≤ 1048576

use_spelt_of : (total : ℕ) (p : Map × ℕ) (vs : List Name) → SpeltMap p.0 total p.1 → ToldOperands p.0.dims p.0.syms vs → SpeltUse (record { map = p.0; operands = vs }) total p.1
use_spelt_of total p vs m o = record {
  fit = λ n. record { some = m.some; most = m.most; results = m.fit n; operands = names_fit p.0.dims p.0.syms vs o m.few_dims m.few_syms };
  count = m.count;
  small = m.small;
}

pub use_spelt : (aliases : List Alias) (several : Bool) (total : ℕ) (p : Access × ℕ) (f : List Tok) → AliasesSpelt aliases → Given f → Use aliases several total f p → SpeltUse p.0 total p.1
use_spelt aliases several total p f t g h =
    let i = h.second in
    let m = some_map_spelt aliases several total h.value h.left t (given_left f h.left h.right h.parts g) h.first in
    let o = operands_told h.value.0.dims h.value.0.syms i.value i.left (given_left h.right i.left i.right i.parts (given_right f h.left h.right h.parts g)) i.first in
    subst (λ (x : Access × ℕ). SpeltUse x.0 total x.1) (sym i.second.1) (use_spelt_of total h.value i.value m o)

pub condition_spelt : (set : Set) (names : List Name) (total behind : ℕ) → SpeltSet set total behind → ToldOperands set.dims set.syms names → RowsNest set.rows → ConditionFits set names
condition_spelt set names total behind s o n = record { some = s.some; most = s.most; rows = s.fit n; operands = names_fit set.dims set.syms names o s.few_dims s.few_syms }

-- ---- subscripts

pub appear_then : (xs ys : List Operand) (n k m l p q : ℕ) → Appear n k xs m l → Appear m l ys p q → Appear n k (xs ++ ys) p q
appear_then [] ys n k m l p q h i = subst (λ j. Appear n j ys p q) (sym h.1) (subst (λ j. Appear j l ys p q) (sym h.0) i)
appear_then (Dimension j ∷ xs) ys n k m l p q (inl h) i = inl (h.0, appear_then xs ys n k m l p q h.1 i)
appear_then (Dimension j ∷ xs) ys n k m l p q (inr h) i = inr (h.0, appear_then xs ys (suc n) k m l p q h.1 i)
appear_then (Symbol j ∷ xs) ys n k m l p q (inl h) i = inl (h.0, appear_then xs ys n k m l p q h.1 i)
appear_then (Symbol j ∷ xs) ys n k m l p q (inr h) i = inr (h.0, appear_then xs ys n (suc k) m l p q h.1 i)
appear_then (Integer z ∷ xs) ys n k m l p q h i = (h.0, appear_then xs ys n k m l p q h.1 i)

record ValuesRead (s : State) (xs : List Expr) (t : State) : Type 0 where
  order : Appear (length s.dims) (length s.syms) (flat_map operands_of xs) (length t.dims) (length t.syms)
  dims : AreValues t.dims
  syms : AreValues t.syms

values_order : (xs : List Expr) (s t : State) → AreValues s.dims → AreValues s.syms → AllRead leaves.Values s xs t → ValuesRead s xs t
values_order [] s t d y h = subst (ValuesRead s []) h (record { order = (refl, refl); dims = d; syms = y })
values_order (x ∷ xs) s t d y h =
    let u = h.0 in
    let o = of_values (operands_of x) (begun s) u d y h.1.0.walked in
    let r = values_order xs u t o.dims o.syms h.1.1 in
    record {
      order = appear_then (operands_of x) (flat_map operands_of xs) (length s.dims) (length s.syms) (length u.dims) (length u.syms) (length t.dims) (length t.syms) o.order r.order;
      dims = r.dims;
      syms = r.syms;
    }

pub record SpeltSubscripts (at : Access) (total behind : ℕ) : Type 0 where
  pub fit : UseNests at → SubscriptsFit at
  pub count : behind ≡ total + operands_in_use at
  pub small : total ≤ 1048576 → behind ≤ 1048576

subscripts_spelt_of : (total : ℕ) (b : List Expr × State) → length b.0 ≤ 8 → AllRead leaves.Values (no_values total) b.0 b.1 → SpeltSubscripts (access_with b).0 total (access_with b).1
subscripts_spelt_of total b most all =
    let c = all_count leaves.Values b.0 (no_values total) b.1 all in
    let v = values_order b.0 (no_values total) b.1 no_names no_names all in
    let D = b.1.dims in
    let Y = b.1.syms in
    record {
      fit = λ n. record {
        most = most;
        within = all_within leaves.Values b.0 (no_values total) b.1 all n;
        order = v.order;
        count = length-append D Y;
        written = both_written D Y v.dims.written v.syms.written;
        dims = subst AreApart (sym (take-append_seam D Y)) v.dims.apart;
        syms = subst AreApart (sym (drop-append_seam D Y)) v.syms.apart;
      };
      count = c.count;
      small = c.small;
    }

abbrev SubscriptList : ℕ → Lang Tok (List Expr × State)
SubscriptList total = Listed (sign 93) ([], no_values total) (Both (Result leaves.Values ([], no_values total)) (Many (NextResult leaves.Values true)))

subscript_list_spelt : (total : ℕ) (b : List Expr × State) (f : List Tok) → Given f → SubscriptList total f b → SpeltSubscripts (access_with b).0 total (access_with b).1
subscript_list_spelt total b f g (inl h) = subst (λ x. SpeltSubscripts (access_with x).0 total (access_with x).1) (sym h.second.1) (subscripts_spelt_of total ([], no_values total) (omega arith) refl)
subscript_list_spelt total b f g (inr h) =
    let j = h.first in
    let q = j.first in
    let g1 = given_left f h.left h.right h.parts g in
    let gl = given_left h.left j.left j.right j.parts g1 in
    let gr = given_right h.left j.left j.right j.parts g1 in
    let t = expression_read leaves.Values (no_values total) q.left q.value (given_left j.left q.left q.right q.parts gl) q.first in
    let r : ReadList leaves.Values (q.value.0 ∷ [], q.value.1) h.value = subst (λ x. ReadList leaves.Values x h.value) q.second.1 (list_read leaves.Values true j.value h.value j.right gr j.second) in
    let e : h.value.0 ≡ q.value.0 ∷ r.items = r.items_are in
    let all : AllRead leaves.Values (no_values total) h.value.0 h.value.1 = subst (λ xs. AllRead leaves.Values (no_values total) xs h.value.1) (sym e) (q.value.1, (t, r.all)) in
    subst (λ x. SpeltSubscripts (access_with x).0 total (access_with x).1) (sym h.second.second.1) (subscripts_spelt_of total h.value (r.most (omega arith)) all)

pub subscripts_spelt : (total : ℕ) (p : Access × ℕ) (f : List Tok) → Given f → Subscripts total f p → SpeltSubscripts p.0 total p.1
subscripts_spelt total p f g h =
    let i = h.second in
    subst (λ (x : Access × ℕ). SpeltSubscripts x.0 total x.1) (sym i.second.1) (subscript_list_spelt total i.value i.left (given_left h.right i.left i.right i.parts (given_right f h.left h.right h.parts g)) i.first)

-- ---- bounds

pub record SpeltBound (b : Bound) (total behind : ℕ) : Type 0 where
  pub fit : BoundNests b → BoundFits b
  pub count : behind ≡ total + operands_in_bound b
  pub small : total ≤ 1048576 → behind ≤ 1048576

map_bound_spelt : (at : Access) (total behind : ℕ) → SpeltUse at total behind → SpeltBound (bound.Map at) total behind
map_bound_spelt at total behind u = record { fit = u.fit; count = u.count; small = u.small }

pub bound_spelt : (w : List ℕ) (aliases : List Alias) (total : ℕ) (p : Bound × ℕ) (f : List Tok) → AliasesSpelt aliases → Given f → BoundOf w aliases total f p → SpeltBound p.0 total p.1
bound_spelt w aliases total p f t g (inl h) = subst (λ (x : Bound × ℕ). SpeltBound x.0 total x.1) (sym h.second.1) (record { fit = λ n. signed_told h.value h.left h.first; count = omega arith; small = λ k. k })
bound_spelt w aliases total p f t g (inr (inl h)) = subst (λ (x : Bound × ℕ). SpeltBound x.0 total x.1) (sym h.second.1) (record { fit = λ n. value_given h.first.token h.value (given_one h.left h.first.token h.first.alone (given_left f h.left h.right h.parts g)) h.first.accepted; count = omega arith; small = λ k. k })
bound_spelt w aliases total p f t g (inr (inr (inl h))) =
    let i = h.second in
    subst (λ (x : Bound × ℕ). SpeltBound x.0 total x.1) (sym i.second.1) (map_bound_spelt i.value.0 total i.value.1 (use_spelt aliases true total i.value i.left t (given_left h.right i.left i.right i.parts (given_right f h.left h.right h.parts g)) i.first))
bound_spelt w aliases total p f t g (inr (inr (inr h))) =
    subst (λ (x : Bound × ℕ). SpeltBound x.0 total x.1) (sym h.second.1) (map_bound_spelt h.value.0 total h.value.1 (use_spelt aliases false total h.value h.left t (given_left f h.left h.right h.parts g) h.first))
