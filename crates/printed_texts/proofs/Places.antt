-- The places in which an expression may stand, and how its spelling in each is put together.
use Rattle.std.proofs.Common.{ℕ, zero, suc, ◌≤◌, ◌<◌, ◌^◌, pos, negsuc, true, false, List, [], ◌∷◌, ◌++◌, decimal, codes, refl, ap, ◌∙◌, append_assoc, inl, arith}
use Rattle.readers.specs.Languages.{Lang, One, Both, Many, Enclosed}
use Rattle.readers.proofs.Texts.{many_snoc, chain_one}
use Rattle.affine_lex.specs.Scan.{after_word}
use Rattle.affine_lex.specs.declared.token.Kind.TheVariants as k
use Rattle.affine_lex.proofs.Written.{cut_blank, cut_token, sign_again}
use Rattle.affine_expr.specs.declared.expr.Expr.{Expr}
use Rattle.affine_ast.specs.Spelling.{Texts, as_sum, as_product, as_unary, as_literal, in_parentheses}
use Rattle.affine_grammar.specs.declared.words.State.{State}
use Rattle.affine_grammar.specs.declared.words.Leaves.{Leaves}
use Rattle.affine_grammar.specs.declared.words.Operator.{Operator}
use Rattle.affine_grammar.specs.declared.words.Operator.TheVariants as operator
use Rattle.affine_grammar.specs.Token.{Tok, sign, sum_op, product_op, product_word, joined, number, negative_number}
use Rattle.affine_grammar.specs.Grammar.{Spelling, Factor, Product, Summand, Sum, Other, Unary}
use Rattle.printed_texts.specs.Nesting.{Depths, sum_depths, product_depths, unary_depths, literal_depths}
use Rattle.printed_texts.proofs.Pieces.{tok, Prints, seq, loosen, recast, in_left, in_right, giving, blank_before, blank_behind}
use Rattle.printed_texts.proofs.Marks.{NoArrow, digits_no_arrow, open_paren, close_paren, minus_then, word_piece, tight_piece, decimal_digits}

-- ---- parentheses

pub parens : {A : Type 0} {b : List ℕ} {L : Lang Tok A} {x : A} → Prints true b L x → Prints false (in_parentheses b) (Enclosed (sign 40) (sign 41) L) x
parens {x = x} p = seq open_paren tt (seq p (λ r c. refl) (giving (λ _. x) close_paren))

-- ---- operators

minus_blank : Prints false (45 ∷ 32 ∷ []) (One sum_op) operator.Sub
minus_blank = record {
  pieces = (k.Punct 45, 45 ∷ []) ∷ [];
  cut = λ rest qs c h. cut_token (after_word []) (k.Punct 45) 45 [] (32 ∷ rest) qs refl refl (sign_again false 45 (32 ∷ rest) refl refl) (cut_blank (after_word []) 32 rest qs refl h);
  spelled = λ us h. record { token = tok (k.Punct 45, 45 ∷ []) h.0 h.1.0; alone = h.1.1.1.0 ∙ ap (λ r. tok (k.Punct 45, 45 ∷ []) h.0 h.1.0 ∷ r) h.1.1.1.1; accepted = refl };
}

pub plus_op : Prints false (codes " + ") (One sum_op) operator.Add
plus_op = blank_before (blank_behind (tight_piece 43 sum_op operator.Add refl refl refl (λ r. refl) (λ line column. refl)))

pub minus_op : Prints false (codes " - ") (One sum_op) operator.Sub
minus_op = blank_before minus_blank

pub star_op : Prints false (codes " * ") (One product_op) operator.Mul
star_op = blank_before (blank_behind (tight_piece 42 product_op operator.Mul refl refl refl (λ r. refl) (λ line column. refl)))

pub floor_op : Prints false (codes " floordiv ") (One product_op) operator.FloorDiv
unfolding product_word
floor_op = blank_before (blank_behind (word_piece (codes "floordiv") product_op operator.FloorDiv refl (λ line column. refl)))

pub ceil_op : Prints false (codes " ceildiv ") (One product_op) operator.CeilDiv
unfolding product_word
ceil_op = blank_before (blank_behind (word_piece (codes "ceildiv") product_op operator.CeilDiv refl (λ line column. refl)))

pub mod_op : Prints false (codes " mod ") (One product_op) operator.Mod
unfolding product_word
mod_op = blank_before (blank_behind (word_piece (codes "mod") product_op operator.Mod refl (λ line column. refl)))

-- ---- chains

chain_snoc : {B : Type 0} {F : Lang Tok B} {I : B → Lang Tok B} (us : List Tok) (z : B) → Both (Both F (Many I)) I us z → Both F (Many I) us z
chain_snoc us z h = record {
  value = h.first.value;
  left = h.first.left;
  right = h.first.right ++ h.right;
  parts = h.parts ∙ ap (λ l. l ++ h.right) h.first.parts ∙ append_assoc h.first.left h.first.right h.right;
  first = h.first.first;
  second = many_snoc h.first.value h.value z h.first.right h.right h.first.second h.second;
}

module _ (U : State → Spelling) where
  pub product_one : {b : List ℕ} {s : State} {x : Expr × State} → Prints true b (U s) x → Prints true b (Product U s) x
  product_one {x = x} p = recast p (λ us h. chain_one us x h)

  pub sum_one : {b : List ℕ} {s : State} {x : Expr × State} → Prints true b (Product U s) x → Prints true b (Sum U s) x
  sum_one {x = x} p = recast p (λ us h. chain_one us x h)

  pub product_more : {a t b : List ℕ} {s : State} {x y : Expr × State} (o : Operator) → Prints true a (Product U s) x → Prints false (32 ∷ t) (One product_op) o → Prints true b (U x.1) y → Prints true (a ++ ((32 ∷ t) ++ b)) (Product U s) (joined o x.0 y.0, y.1)
  product_more {x = x} {y = y} o p q r =
      let item : Prints true _ (Factor U x) (joined o x.0 y.0, y.1) = seq q tt (giving (λ (z : Expr × State). (joined o x.0 z.0, z.1)) r) in
      recast (seq p (λ r c. refl) item) (λ us h. chain_snoc us _ h)

  pub sum_more : {a t b : List ℕ} {s : State} {x y : Expr × State} (o : Operator) → Prints true a (Sum U s) x → Prints false (32 ∷ t) (One sum_op) o → Prints true b (Product U x.1) y → Prints true (a ++ ((32 ∷ t) ++ b)) (Sum U s) (joined o x.0 y.0, y.1)
  sum_more {x = x} {y = y} o p q r =
      let item : Prints true _ (Summand U x) (joined o x.0 y.0, y.1) = seq q tt (giving (λ (z : Expr × State). (joined o x.0 z.0, z.1)) r) in
      recast (seq p (λ r c. refl) item) (λ us h. chain_snoc us _ h)

-- ---- the four places

module _ (l : Leaves) where
  -- An expression is spelled in each place, where as many levels are left as its spelling nests.
  pub record Placed (t : Texts) (d : Depths) (s : State) (x : Expr × State) : Type 0 where
    pub sum : (n : ℕ) → d.sum ≤ n → Prints true t.sum (Sum (Unary l n) s) x
    pub product : (n : ℕ) → d.product ≤ n → Prints true t.product (Product (Unary l n) s) x
    pub unary : (n : ℕ) → d.unary ≤ n → Prints true t.unary (Unary l n s) x
    pub negated : (n : ℕ) → d.negated ≤ n → Prints true t.negated (Other l n s) x
    pub plain : NoArrow true t.negated

  module _ (s : State) (x : Expr × State) where
    other_unary : {b : List ℕ} (n : ℕ) → Prints true b (Other l n s) x → Prints true b (Unary l n s) x
    other_unary n p = in_right p

    closed : {b : List ℕ} (d : ℕ) → ((n : ℕ) → d ≤ n → Prints true b (Sum (Unary l n) s) x) → (n : ℕ) → suc d ≤ n → Prints true (in_parentheses b) (Other l n s) x
    closed d p zero h = absurd (omega (arith, h))
    closed d p (suc n) h = in_right (in_left (loosen (parens (p n (omega (arith, h))))))

    pub placed_sum : (b : List ℕ) (d : ℕ) → ((n : ℕ) → d ≤ n → Prints true b (Sum (Unary l n) s) x) → Placed (as_sum b) (sum_depths d) s x
    placed_sum b d p = record {
      sum = p;
      product = λ n h. product_one (Unary l n) (other_unary n (closed d p n h));
      unary = λ n h. other_unary n (closed d p n h);
      negated = λ n h. closed d p n h;
      plain = λ r c. refl;
    }

    pub placed_product : (b : List ℕ) (d : ℕ) → ((n : ℕ) → d ≤ n → Prints true b (Product (Unary l n) s) x) → Placed (as_product b) (product_depths d) s x
    placed_product b d p =
        let q : (n : ℕ) → d ≤ n → Prints true b (Sum (Unary l n) s) x = λ n h. sum_one (Unary l n) (p n h) in
        record {
          sum = q;
          product = p;
          unary = λ n h. other_unary n (closed d q n h);
          negated = λ n h. closed d q n h;
          plain = λ r c. refl;
        }

    placed_at : (b : List ℕ) (n : ℕ) → Prints true b (Unary l n s) x → Prints true b (Sum (Unary l n) s) x
    placed_at b n p = sum_one (Unary l n) (product_one (Unary l n) p)

    pub placed_unary : (b : List ℕ) (d : ℕ) → ((n : ℕ) → d ≤ n → Prints true b (Other l n s) x) → NoArrow true b → Placed (as_unary b) (unary_depths d) s x
    placed_unary b d p a = record {
      sum = λ n h. placed_at b n (other_unary n (p n h));
      product = λ n h. product_one (Unary l n) (other_unary n (p n h));
      unary = λ n h. other_unary n (p n h);
      negated = p;
      plain = a;
    }

    number_unary : (z : ℕ) (n : ℕ) → Prints true (decimal z) (One (number s)) x → Prints true (decimal z) (Unary l n s) x
    number_unary z n p = in_left p

    pub placed_number : (z : ℕ) → Prints true (decimal z) (One (number s)) x → Placed (as_literal (pos z)) (literal_depths (pos z)) s x
    placed_number z p = record {
      sum = λ n h. placed_at (decimal z) n (number_unary z n p);
      product = λ n h. product_one (Unary l n) (number_unary z n p);
      unary = λ n h. number_unary z n p;
      negated = λ n h. closed 0 (λ m i. placed_at (decimal z) m (number_unary z m p)) n h;
      plain = λ r c. refl;
    }

    -- behind a `-` that integer is one token with it
    minus_number : {b : List ℕ} (n : ℕ) → Prints true b (Both (One (sign 45)) (λ _. One (negative_number s))) x → Prints true b (Other l n s) x
    minus_number zero p = in_left p
    minus_number (suc n) p = in_left (recast p (λ us h. record { value = h.value; left = h.left; right = h.right; parts = h.parts; first = h.first; second = inl h.second }))

    pub placed_negative : (z : ℕ) → suc z < 2 ^ 64 → Prints true (decimal (suc z)) (One (negative_number s)) x → Placed (as_literal (negsuc z)) (literal_depths (negsuc z)) s x
    placed_negative z l p = placed_unary (45 ∷ decimal (suc z)) 0 (λ n h. minus_number n (minus_then p (digits_no_arrow (decimal (suc z)) (decimal_digits (suc z) l)))) (λ r c. refl)
