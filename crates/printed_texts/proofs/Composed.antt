-- What passes use to show of their statements that they may be written: lists put together from their parts.
use Rattle.std.proofs.Common.{◌≡◌, ℕ, suc, ◌+◌, ◌≤◌, ℤ, List, [], ◌∷◌, ◌++◌, Some, None, sym, ap, ◌∙◌, subst, arith}
use Rattle.affine_expr.specs.declared.map.Set.{Set}
use Rattle.affine_ast.specs.declared.name.Name.{Name}
use Rattle.affine_ast.specs.declared.stmt.Stmt.{Stmt}
use Rattle.affine_ast.specs.declared.stmt.What as what
use Rattle.affine_ast.specs.declared.stmt.What.{What}
use Rattle.affine_ast.specs.declared.types.Bound.{Bound}
use Rattle.affine_ast.specs.Nest.{Plain, Nothing, put_what, nest}
use Rattle.affine_ast.proofs.Nests.{nest-nil, nest-cons, nest-append, put-For, put-If, put-If-else}
use Rattle.printed_texts.specs.Writable.{IsWritten, IsPositive, BoundFits, ConditionFits, PlainFits, StatementsFit, operands_in_bound, operands_in_rows, operands_in_plain, operands_in_nest}
use Rattle.printed_texts.proofs.SpeltTexts.{fit_followed, count_followed}
use Rattle.printed_texts.proofs.Unlined.{put_split}
use Rattle.printed_texts.proofs.Unnested.{what_of, put_plain}

-- a statement of at most so many operands, with so many regions left
pub record Fits (left : ℕ) (w : What) (most : ℕ) : Type 0 where
  pub fit : (line : ℕ) → StatementsFit left (put_what w line Nothing)
  pub few : (line : ℕ) → operands_in_nest (put_what w line Nothing) ≤ most

pub record ListFits (left : ℕ) (ss : List Stmt) (most : ℕ) : Type 0 where
  pub fit : StatementsFit left (nest ss)
  pub few : operands_in_nest (nest ss) ≤ most

pub nothing_fits : (left most : ℕ) → ListFits left [] most
nothing_fits left most = record {
  fit = subst (StatementsFit left) (sym nest-nil) tt;
  few = (let z : operands_in_nest (nest []) ≡ 0 = ap operands_in_nest nest-nil in omega (arith, z));
}

pub more_fit : (left : ℕ) (s : Stmt) (ss : List Stmt) (a b : ℕ) → Fits left s.what a → ListFits left ss b → ListFits left (s ∷ ss) (a + b)
more_fit left s ss a b t r =
    let split = nest-cons s ss ∙ put_split s.what s.line (nest ss) in
    let n = ap operands_in_nest split ∙ count_followed (put_what s.what s.line Nothing) (nest ss) in
    let x = t.few s.line in
    let y = r.few in
    record { fit = subst (StatementsFit left) (sym split) (fit_followed left (put_what s.what s.line Nothing) (nest ss) (t.fit s.line) r.fit); few = omega (arith, n, x, y) }

pub both_fit : (left : ℕ) (xs ys : List Stmt) (a b : ℕ) → ListFits left xs a → ListFits left ys b → ListFits left (xs ++ ys) (a + b)
both_fit left xs ys a b t r =
    let n = ap operands_in_nest (nest-append xs ys) ∙ count_followed (nest xs) (nest ys) in
    let x = t.few in
    let y = r.few in
    record { fit = subst (StatementsFit left) (sym (nest-append xs ys)) (fit_followed left (nest xs) (nest ys) t.fit r.fit); few = omega (arith, n, x, y) }

pub wider : (left : ℕ) (ss : List Stmt) (a b : ℕ) → a ≤ b → ListFits left ss a → ListFits left ss b
wider left ss a b h t = let x = t.few in record { fit = t.fit; few = omega (arith, x, h) }

pub plain_fit : (left : ℕ) (p : Plain) (most : ℕ) → PlainFits p → operands_in_plain p ≤ most → Fits left (what_of p) most
plain_fit left p most f h = record {
  fit = λ line. subst (StatementsFit left) (sym (put_plain p line Nothing)) (f, tt);
  few = λ line. (let n = ap operands_in_nest (put_plain p line Nothing) in omega (arith, n, h));
}

pub loop_fit : (left : ℕ) (v : Name) (lower upper : Bound) (step : ℤ) (body : List Stmt) (most : ℕ) → IsWritten v → BoundFits lower → BoundFits upper → IsPositive step → ListFits left body most
    → Fits (suc left) (what.For v lower upper step body) (operands_in_bound lower + (operands_in_bound upper + most))
loop_fit left v lower upper step body most w a b s t =
    let f = t.few in
    record {
      fit = λ line. subst (StatementsFit (suc left)) (sym (put-For line Nothing v lower upper step body)) (w, a, b, s, t.fit, tt);
      few = λ line. (let n = ap operands_in_nest (put-For line Nothing v lower upper step body) in omega (arith, n, f));
    }

pub condition_fit : (left : ℕ) (set : Set) (names : List Name) (first : List Stmt) (most : ℕ) → ConditionFits set names → ListFits left first most
    → Fits (suc left) (what.If set names first None) (operands_in_rows set.rows + most)
condition_fit left set names first most c t =
    let f = t.few in
    record {
      fit = λ line. subst (StatementsFit (suc left)) (sym (put-If line Nothing set names first)) (c, t.fit, tt, tt);
      few = λ line. (let n = ap operands_in_nest (put-If line Nothing set names first) in omega (arith, n, f));
    }

pub choice_fit : (left : ℕ) (set : Set) (names : List Name) (first other : List Stmt) (a b : ℕ) → ConditionFits set names → ListFits left first a → ListFits left other b
    → Fits (suc left) (what.If set names first (Some other)) (operands_in_rows set.rows + (a + b))
choice_fit left set names first other a b c t r =
    let x = t.few in
    let y = r.few in
    record {
      fit = λ line. subst (StatementsFit (suc left)) (sym (put-If-else line Nothing set names first other)) (c, t.fit, r.fit, tt);
      few = λ line. (let n = ap operands_in_nest (put-If-else line Nothing set names first other) in omega (arith, n, x, y));
    }
