-- A list parted at a statement with a line.
use Rattle.std.proofs.Common.{◌≡◌, ℕ, suc, ◌+◌, ◌<◌, ◌≤◌, Bool, true, false, List, [], ◌∷◌, ◌++◌, take, length, get_or, sym, ap, ◌∙◌}
use Rattle.std.specs.Prelude.{nat_eq, if◌then◌else◌}
use Rattle.std.proofs.lemmas.List.{take_at, get_or_at, take_all, take_more}
use Rattle.affine_ast.specs.declared.stmt.Stmt.{Stmt}
use Rattle.placement_stage.specs.Places.{line_count, IsPlaceOf}

counted_push : (xs : List Stmt) (s : Stmt) (zero_line : Bool) → nat_eq s.line 0 ≡ zero_line → line_count (xs ++ s ∷ []) ≡ (if zero_line then line_count xs else suc (line_count xs))
counted_push [] s b e = ap (λ b. if b then 0 else 1) e
counted_push (x ∷ xs) s b e = by (nat_eq x.line 0) b (counted_push xs s b e)
  where
    by : (c b : Bool) → line_count (xs ++ s ∷ []) ≡ (if b then line_count xs else suc (line_count xs))
        → (if c then line_count (xs ++ s ∷ []) else suc (line_count (xs ++ s ∷ []))) ≡ (if b then (if c then line_count xs else suc (line_count xs)) else suc (if c then line_count xs else suc (line_count xs)))
    by true true h = h
    by true false h = h
    by false true h = ap suc h
    by false false h = ap suc h

take_push : (ss : List Stmt) (i : ℕ) (s : Stmt) → i < length ss → s ≡ get_or ss i s → take (i + 1) ss ≡ take i ss ++ s ∷ []
take_push ss i s h e = take_more ss i s h ∙ ap (λ x. take i ss ++ x ∷ []) (sym e)

-- a statement without a line, and one with a line, more
pub count_same : (ss : List Stmt) (i : ℕ) (s : Stmt) → i < length ss → s ≡ get_or ss i s → nat_eq s.line 0 ≡ true → line_count (take (i + 1) ss) ≡ line_count (take i ss)
count_same ss i s h e line = ap line_count (take_push ss i s h e) ∙ counted_push (take i ss) s true line

pub count_more : (ss : List Stmt) (i : ℕ) (s : Stmt) → i < length ss → s ≡ get_or ss i s → nat_eq s.line 0 ≡ false → line_count (take (i + 1) ss) ≡ suc (line_count (take i ss))
count_more ss i s h e line = ap line_count (take_push ss i s h e) ∙ counted_push (take i ss) s false line

pub count_end : (ss : List Stmt) (i : ℕ) → length ss ≤ i → line_count (take i ss) ≡ line_count ss
count_end ss i h = ap line_count (take_all i ss h)

pub is_place : (ss : List Stmt) (k i : ℕ) (s : Stmt) → i < length ss → s ≡ get_or ss i s → line_count (take i ss) ≡ k → nat_eq s.line 0 ≡ false → IsPlaceOf ss k i
is_place ss k i s h e counted line = record {
  within = h;
  parted = λ front t back whole long.
      let same : s ≡ t = e ∙ ap (λ xs. get_or xs i s) whole ∙ get_or_at front t back s i long in
      record {
        whole = whole;
        counted = ap line_count (sym (ap (take i) whole ∙ take_at front (t ∷ back) i long)) ∙ counted;
        line = ap (λ (s : Stmt). nat_eq s.line 0) (sym same) ∙ line;
      };
}
