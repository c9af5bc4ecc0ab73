-- The sums of one statement, over those of its regions.
use Rattle.std.proofs.Common.{◌≡◌, ℕ, suc, ◌+◌, ◌≤◌, ℤ, List, Bool, true, false, refl, sym, ap, ◌∙◌, arith}
use Rattle.std.specs.Prelude.{◌&&◌, Some, None, nat_le, sum_by}
use Rattle.std.proofs.lemmas.Bool.{leb-true, leb-false, lt-leb}
use Rattle.affine_expr.specs.declared.map.Set.{Set}
use Rattle.affine_ast.specs.declared.name.Name.{Name}
use Rattle.affine_ast.specs.declared.types.Bound.{Bound}
use Rattle.affine_ast.specs.declared.stmt.Stmt.{Stmt}
use Rattle.affine_ast.specs.declared.stmt.What as what
use Rattle.affine_ast.specs.declared.stmt.What.{What}
use Rattle.affine_ast.specs.Nest.{Plain, Nest, Nothing, Loop, Branch, Does, nest, put_what, plain_of, is_region}
use Rattle.affine_ast.proofs.Nests.{put-For, put-If, put-If-else, put_plain}
use Rattle.affine_ast.specs.Parts.{maps_of}
use Rattle.plan_laws.specs.Limits.{bound_fits, rows_fit, map_operands, bound_operands, row_operands}
use Rattle.text_limits.specs.declared.measures.Measure.{Measure}
use Rattle.text_limits.specs.declared.sums.Sums.{Sums}
use Rattle.text_limits.specs.Sums.{elements_of, tag_elements_of, is_shallow, plain_fits, each_fits, sums_in}
use Rattle.text_limits.specs.Capped.{capped, measured, with_measure, capped_sums, head_sums}
use Rattle.text_limits.specs.Adding.{with_sums}

-- ---- deep texts
deep : (a i : ℕ) → 17 ≤ a → is_shallow a i ≡ false
deep a i h = ap (λ x. x && nat_le i 16) (lt-leb a 16 (omega (arith, h)))

deep_ifs : (l a : ℕ) → 17 ≤ a → is_shallow l a ≡ false
deep_ifs l a h = ap (λ x. nat_le l 16 && x) (lt-leb a 16 (omega (arith, h))) ∙ by (nat_le l 16)
  where
    by : (x : Bool) → (x && false) ≡ false
    by true = refl
    by false = refl

-- no statement fits where so many stand round it, however many they are
alike : (l i k j : ℕ) (n : Nest) → is_shallow l i ≡ false → is_shallow k j ≡ false → each_fits l i n ≡ each_fits k j n
alike l i k j Nothing e f = refl
alike l i k j (Loop line v lo hi s body rest) e f =
    ap (λ x. (x && (bound_fits lo && bound_fits hi)) && (each_fits (suc l) i body && each_fits l i rest)) e
    ∙ sym (ap (λ x. (x && (bound_fits lo && bound_fits hi)) && (each_fits (suc k) j body && each_fits k j rest)) f)
alike l i k j (Branch line set names first has other rest) e f =
    ap (λ x. (x && rows_fit set.rows) && (each_fits l (suc i) first && (each_fits l (suc i) other && each_fits l i rest))) e
    ∙ sym (ap (λ x. (x && rows_fit set.rows) && (each_fits k (suc j) first && (each_fits k (suc j) other && each_fits k j rest))) f)
alike l i k j (Does line q rest) e f = ap (λ x. (x && plain_fits q) && each_fits l i rest) e ∙ sym (ap (λ x. (x && plain_fits q) && each_fits k j rest) f)

in_loop_fits : (l i l' : ℕ) (n : Nest) → l' ≡ capped (suc l) → each_fits l' i n ≡ each_fits (suc l) i n
in_loop_fits l i l' n e = by (nat_le (suc l) 16) refl
  where
    by : (b : Bool) → nat_le (suc l) 16 ≡ b → each_fits l' i n ≡ each_fits (suc l) i n
    by true t = let h = leb-true (suc l) 16 t in let same : l' ≡ suc l = omega (arith, e, h) in ap (λ l. each_fits l i n) same
    by false t = let h = leb-false (suc l) 16 t in alike l' i (suc l) i n (deep l' i (omega (arith, e, h))) (deep (suc l) i (omega (arith, h)))

in_condition_fits : (l i i' : ℕ) (n : Nest) → i' ≡ capped (suc i) → each_fits l i' n ≡ each_fits l (suc i) n
in_condition_fits l i i' n e = by (nat_le (suc i) 16) refl
  where
    by : (b : Bool) → nat_le (suc i) 16 ≡ b → each_fits l i' n ≡ each_fits l (suc i) n
    by true t = let h = leb-true (suc i) 16 t in let same : i' ≡ suc i = omega (arith, e, h) in ap (λ i. each_fits l i n) same
    by false t = let h = leb-false (suc i) 16 t in alike l i' l (suc i) n (deep_ifs l i' (omega (arith, e, h))) (deep_ifs l (suc i) (omega (arith, h)))

-- ---- numbers
one_region : (n : ℕ) → capped (1 + capped n) ≡ capped (suc (n + 0))
one_region n = omega arith

two_regions : (n m : ℕ) → capped (capped (1 + capped n) + capped m) ≡ capped (suc (n + (m + 0)))
two_regions n m = omega arith

loop_operands : (l u n : ℕ) → capped (capped (capped l + capped u) + capped n) ≡ capped (l + (u + (n + 0)))
loop_operands l u n = omega arith

one_operands : (own n : ℕ) → capped (capped own + capped n) ≡ capped (own + (n + (0 + 0)))
one_operands own n = omega arith

two_operands : (own n m : ℕ) → capped (capped (capped own + capped n) + capped m) ≡ capped (own + (n + (m + 0)))
two_operands own n m = omega arith

one_count : (n : ℕ) → capped (0 + capped n) ≡ capped (n + 0)
one_count n = omega arith

one_count_more : (n : ℕ) → capped (0 + capped n) ≡ capped (n + (0 + 0))
one_count_more n = omega arith

two_counts : (n m : ℕ) → capped (capped (0 + capped n) + capped m) ≡ capped (n + (m + 0))
two_counts n m = omega arith

one_region_more : (n : ℕ) → capped (1 + capped n) ≡ capped (suc (n + (0 + 0)))
one_region_more n = omega arith

and_true : (x : Bool) → (x && true) ≡ x
and_true true = refl
and_true false = refl

and_two : (s x y : Bool) → ((s && x) && y) ≡ (s && (x && (y && true)))
and_two true true y = sym (and_true y)
and_two true false y = refl
and_two false x y = refl

-- ---- statements
module _ (l i line : ℕ) where
  loop_sums : (l' : ℕ) (v : Name) (lo hi : Bound) (s : ℤ) (body : Nest) → l' ≡ capped (suc l)
      → capped_sums (with_sums (head_sums l i (with_measure (measured (bound_operands lo) (bound_fits lo)) (measured (bound_operands hi) (bound_fits hi)))) (capped_sums (sums_in l' i body)))
      ≡ capped_sums (sums_in l i (Loop line v lo hi s body Nothing))
  loop_sums l' v lo hi s body e = λ j. record {
    statements = one_region (sums_in l i body).statements j;
    operands = loop_operands (bound_operands lo) (bound_operands hi) (sums_in l i body).operands j;
    elements = one_count (sums_in l i body).elements j;
    tags = one_count (sums_in l i body).tags j;
    fits = (is_shallow l i && (bound_fits lo && bound_fits hi)) && (in_loop_fits l i l' body e ∙ sym (and_true (each_fits (suc l) i body))) j;
  }

  if_sums : (i' : ℕ) (set : Set) (names : List Name) (first : Nest) → i' ≡ capped (suc i)
      → capped_sums (with_sums (head_sums l i (measured (sum_by row_operands set.rows) (rows_fit set.rows))) (capped_sums (sums_in l i' first)))
      ≡ capped_sums (sums_in l i (Branch line set names first false Nothing Nothing))
  if_sums i' set names first e = λ j. record {
    statements = one_region_more (sums_in l i first).statements j;
    operands = one_operands (sum_by row_operands set.rows) (sums_in l i first).operands j;
    elements = one_count_more (sums_in l i first).elements j;
    tags = one_count_more (sums_in l i first).tags j;
    fits = (is_shallow l i && rows_fit set.rows) && (in_condition_fits l i i' first e ∙ sym (and_true (each_fits l (suc i) first))) j;
  }

  if_else_sums : (i' : ℕ) (set : Set) (names : List Name) (first other : Nest) → i' ≡ capped (suc i)
      → capped_sums (with_sums (capped_sums (with_sums (head_sums l i (measured (sum_by row_operands set.rows) (rows_fit set.rows))) (capped_sums (sums_in l i' first)))) (capped_sums (sums_in l i' other)))
      ≡ capped_sums (sums_in l i (Branch line set names first true other Nothing))
  if_else_sums i' set names first other e = λ j. record {
    statements = two_regions (sums_in l i first).statements (sums_in l i other).statements j;
    operands = two_operands (sum_by row_operands set.rows) (sums_in l i first).operands (sums_in l i other).operands j;
    elements = two_counts (sums_in l i first).elements (sums_in l i other).elements j;
    tags = two_counts (sums_in l i first).tags (sums_in l i other).tags j;
    fits =
        ((λ k. ((is_shallow l i && rows_fit set.rows) && in_condition_fits l i i' first e k) && in_condition_fits l i i' other e k)
        ∙ and_two (is_shallow l i && rows_fit set.rows) (each_fits l (suc i) first) (each_fits l (suc i) other)) j;
  }

  -- ---- as the code makes them
  pub for_is : (w : What) (v : Name) (lo hi : Bound) (s : ℤ) (body ss : List Stmt) (a b m : Measure) (l' i' : ℕ) (h p r : Sums)
      → w ≡ what.For v lo hi s body → ss ≡ body → a ≡ measured (bound_operands lo) (bound_fits lo) → b ≡ measured (bound_operands hi) (bound_fits hi) → m ≡ with_measure a b
      → h ≡ head_sums l i m → l' ≡ capped (suc l) → i' ≡ i → p ≡ capped_sums (sums_in l' i' (nest ss)) → r ≡ capped_sums (with_sums h p)
      → r ≡ capped_sums (sums_in l i (put_what w line Nothing))
  for_is w v lo hi s body ss a b m l' i' h p r is same a_is b_is m_is h_is l_is i_is p_is r_is =
      r_is
      ∙ (λ j. capped_sums (with_sums (h_is j) (p_is j)))
      ∙ (λ j. capped_sums (with_sums (head_sums l i (m_is j)) (capped_sums (sums_in l' (i_is j) (nest (same j))))))
      ∙ (λ j. capped_sums (with_sums (head_sums l i (with_measure (a_is j) (b_is j))) (capped_sums (sums_in l' i (nest body)))))
      ∙ loop_sums l' v lo hi s (nest body) l_is
      ∙ ap (λ n. capped_sums (sums_in l i n)) (sym (put-For line Nothing v lo hi s body))
      ∙ ap (λ w. capped_sums (sums_in l i (put_what w line Nothing))) (sym is)

  pub if_is : (w : What) (set : Set) (names : List Name) (first ss : List Stmt) (m : Measure) (l' i' : ℕ) (h p r : Sums)
      → w ≡ what.If set names first None → ss ≡ first → m ≡ measured (sum_by row_operands set.rows) (rows_fit set.rows)
      → h ≡ head_sums l i m → i' ≡ capped (suc i) → l' ≡ l → p ≡ capped_sums (sums_in l' i' (nest ss)) → r ≡ capped_sums (with_sums h p)
      → r ≡ capped_sums (sums_in l i (put_what w line Nothing))
  if_is w set names first ss m l' i' h p r is same m_is h_is i_is l_is p_is r_is =
      r_is
      ∙ (λ j. capped_sums (with_sums (h_is j) (p_is j)))
      ∙ (λ j. capped_sums (with_sums (head_sums l i (m_is j)) (capped_sums (sums_in (l_is j) i' (nest (same j))))))
      ∙ if_sums i' set names (nest first) i_is
      ∙ ap (λ n. capped_sums (sums_in l i n)) (sym (put-If line Nothing set names first))
      ∙ ap (λ w. capped_sums (sums_in l i (put_what w line Nothing))) (sym is)

  pub if_else_is : (w : What) (set : Set) (names : List Name) (first other ss ts : List Stmt) (m : Measure) (l' i' : ℕ) (h p g q r : Sums)
      → w ≡ what.If set names first (Some other) → ss ≡ first → ts ≡ other → m ≡ measured (sum_by row_operands set.rows) (rows_fit set.rows)
      → h ≡ head_sums l i m → i' ≡ capped (suc i) → l' ≡ l → p ≡ capped_sums (sums_in l' i' (nest ss)) → g ≡ capped_sums (with_sums h p)
      → q ≡ capped_sums (sums_in l' i' (nest ts)) → r ≡ capped_sums (with_sums g q)
      → r ≡ capped_sums (sums_in l i (put_what w line Nothing))
  if_else_is w set names first other ss ts m l' i' h p g q r is same too m_is h_is i_is l_is p_is g_is q_is r_is =
      r_is
      ∙ (λ j. capped_sums (with_sums (g_is j) (q_is j)))
      ∙ (λ j. capped_sums (with_sums (capped_sums (with_sums (h_is j) (p_is j))) (capped_sums (sums_in (l_is j) i' (nest (too j))))))
      ∙ (λ j. capped_sums (with_sums (capped_sums (with_sums (head_sums l i (m_is j)) (capped_sums (sums_in (l_is j) i' (nest (same j)))))) (capped_sums (sums_in l i' (nest other)))))
      ∙ if_else_sums i' set names (nest first) (nest other) i_is
      ∙ ap (λ n. capped_sums (sums_in l i n)) (sym (put-If-else line Nothing set names first other))
      ∙ ap (λ w. capped_sums (sums_in l i (put_what w line Nothing))) (sym is)

  pub plain_is : (w : What) (r : Sums) → is_region w ≡ false → r ≡ capped_sums (sums_in l i (Does 0 (plain_of w) Nothing)) → r ≡ capped_sums (sums_in l i (put_what w line Nothing))
  plain_is w r is r_is = r_is ∙ ap (λ n. capped_sums (sums_in l i n)) (sym (put_plain w line Nothing is))

-- a statement without a region
pub plain_sums : (l i : ℕ) (q : Plain) (m : Measure) (e t : ℕ) (h r : Sums) → m ≡ measured (sum_by map_operands (maps_of q)) (plain_fits q) → e ≡ capped (elements_of q) → t ≡ capped (tag_elements_of q)
    → h ≡ head_sums l i m → r ≡ record { statements = h.statements; operands = h.operands; elements = e; tags = t; fits = h.fits } → r ≡ capped_sums (sums_in l i (Does 0 q Nothing))
plain_sums l i q m e t h r m_is e_is t_is h_is r_is =
    r_is
    ∙ (λ j. record { statements = (h_is j).statements; operands = (h_is j).operands; elements = e; tags = t; fits = (h_is j).fits })
    ∙ (λ j. record { statements = 1; operands = (m_is j).operands; elements = e_is j; tags = t_is j; fits = is_shallow l i && (m_is j).fits })
    ∙ (λ j. record {
      statements = 1;
      operands = (let k : capped (sum_by map_operands (maps_of q)) ≡ capped (sum_by map_operands (maps_of q) + 0) = omega arith in k) j;
      elements = (let k : capped (elements_of q) ≡ capped (elements_of q + 0) = omega arith in k) j;
      tags = (let k : capped (tag_elements_of q) ≡ capped (tag_elements_of q + 0) = omega arith in k) j;
      fits = sym (and_true (is_shallow l i && plain_fits q)) j;
    })
