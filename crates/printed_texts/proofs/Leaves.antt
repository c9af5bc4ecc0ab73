-- The operands of a given text, and of its printed spelling.
use Rattle.std.proofs.Common.{◌≡◌, ℕ, zero, suc, ◌+◌, ◌≤◌, ◌<◌, ◌&&◌, ◌^◌, ℤ, pos, negsuc, neg_ℤ, Bool, true, false, if◌then◌else◌, List, [], ◌∷◌, ◌++◌, length, Option, Some, None, slice_get, decimal, codes, not, bytes_eq, append-nil, length-append, refl, sym, ap, ◌∙◌, subst, inl, inr, arith}
use Rattle.std.proofs.lemmas.Bool.Decides.{nat_tests}
use Rattle.std.specs.Char.{is_ascii_digit}
use Rattle.readers.specs.Languages.{One}
use Rattle.readers.specs.Limits.{limited}
use Rattle.affine_lex.specs.Tokens.{IsDigits}
use Rattle.affine_lex.specs.declared.token.Kind.TheVariants as k
use Rattle.affine_lex.proofs.Written.{Piece}
use Rattle.affine_expr.specs.declared.expr.Expr.{Expr}
use Rattle.affine_expr.specs.declared.expr.Expr.TheVariants as e
use Rattle.affine_ast.specs.declared.name.Name.{Name}
use Rattle.affine_ast.specs.Spelling.{as_unary, as_literal, texts, operand_text, name_text}
use Rattle.affine_ast.proofs.Spellings.{texts-Dim, texts-Sym, texts-Const}
use Rattle.affine_grammar.specs.declared.words.State.{State}
use Rattle.affine_grammar.specs.declared.words.Leaves.{Leaves}
use Rattle.affine_grammar.specs.declared.words.Leaves.TheVariants as leaves
use Rattle.affine_grammar.specs.Token.{Tok, class, word, integer, negative, number, negative_number, counted_leaf, counting, is_full, parameter, parameter_of, or_else, number_of, of_keyword, of_value, dimension, dimension_of, symbol, symbol_of, symbol_word, appears}
use Rattle.affine_grammar.specs.Grammar.{Leaf, Other}
use Rattle.affine_lex.proofs.Tests.{true_no}
use Rattle.printed_texts.specs.Nesting.{Depths, unary_depths, literal_depths, depths, Zeros, zeros}
use Rattle.printed_texts.proofs.Pieces.{is_word_first, is_word_byte, tok, Prints, seq, in_left, in_right, loosen}
use Rattle.printed_texts.proofs.Marks.{NoArrow, is_keyword, word_piece, name_piece, number_piece, IsValueName, all_word, decimal_digits, is_within}
use Rattle.printed_texts.proofs.Given.{Given, given_one, limited_some, of_keyword_some, of_value_some, negative_given}
use Rattle.printed_texts.proofs.Depths.{depths-Dim, depths-Sym, depths-Const, zeros-Const}
use Rattle.printed_texts.proofs.Places.{Placed, placed_unary, placed_number, placed_negative, parens}
use Rattle.printed_texts.proofs.States.{params, param_number, symbol_none, Numbered, number_of_some, numbered_behind, Appeared, appeared, Grown, grown_counting, numbered_dims, numbered_syms, first_numbered, printed_leaves, moved, Room, Fixed, fixed_counting, moved_counting, not_full, moved_not_full}

-- an expression is spelled again in each place, in the printed spelling that ends with a state
abbrev pub Again : Leaves → ℕ → State → State → Expr × State → Type 0
Again l d final s p = Placed l (texts (printed_leaves l final) p.0) (depths p.0) (moved l d s) (p.0, moved l d p.1)

-- a part of a given text: the state grows, and the part is spelled again
pub record Told (l : Leaves) (s : State) (p : Expr × State) : Type 0 where
  pub grown : Grown s p.1
  pub fixed : Fixed l s p.1
  pub placed : (d : ℕ) (final : State) → Room l d final → Grown p.1 final → Again l d final s p

-- ---- limits

-- where an operand stood in the given text, there is room for one in the printed spelling
room_left : (l : Leaves) (d : ℕ) (s t final : State) → is_full s ≡ false → s.total + 1 ≤ t.total → Room l d final → Grown t final → is_full (moved l d s) ≡ false
room_left l d s t final h b room g = let i = not_full s h in moved_not_full l d s i.0 (omega (arith, b, room.total, g.total))

open_limit : {A : Type 0} (full : Bool) (p : Tok → Option A) (q : Piece) (line column : ℕ) → full ≡ false → limited full p (tok q line column) ≡ p (tok q line column)
open_limit full p q line column h = ap (λ b. if b && true then None else p (tok q line column)) h

pub counted_some : {A : Type 0} (f : A → Expr) (s : State) (o : Option A) (p : Expr × State) → counted_leaf f s o ≡ Some p → (x : A) × ((o ≡ Some x) × ((f x, counting s) ≡ p))
counted_some f s (Some x) p h = let e : (f x, counting s) ≡ p = cc in (x, (refl, e))
counted_some f s None p h = absurd cc

-- ---- integers

counted_moved : (l : Leaves) (d : ℕ) (s : State) (x : Expr) → ◌≡◌ {A = Option (Expr × State)} (Some (x, counting (moved l d s))) (Some (x, moved l d (counting s)))
counted_moved l d s x = ap (λ (t : State). let o : Option (Expr × State) = Some (x, t) in o) (moved_counting l d s)

number_again : (l : Leaves) (d : ℕ) (s : State) (n : ℕ) → n ≤ 9223372036854775807 → is_full (moved l d s) ≡ false → Prints true (decimal n) (One (number (moved l d s))) (e.Const (pos n), moved l d (counting s))
number_again l d s n h f = number_piece n (number (moved l d s)) _ (omega (arith, h)) (λ line column.
    open_limit (is_full (moved l d s)) (λ t. counted_leaf (λ z. e.Const z) (moved l d s) (integer t)) (k.Int n, decimal n) line column f
    ∙ ap (λ b. counted_leaf (λ z. e.Const z) (moved l d s) (if b then Some (pos n) else None)) (is_within n 9223372036854775807 h)
    ∙ counted_moved l d s (e.Const (pos n)))

negative_again : (l : Leaves) (d : ℕ) (s : State) (n : ℕ) → n ≤ 9223372036854775808 → is_full (moved l d s) ≡ false → Prints true (decimal n) (One (negative_number (moved l d s))) (e.Const (neg_ℤ (pos n)), moved l d (counting s))
negative_again l d s n h f = number_piece n (negative_number (moved l d s)) _ (omega (arith, h)) (λ line column.
    open_limit (is_full (moved l d s)) (λ t. counted_leaf (λ z. e.Const z) (moved l d s) (negative t)) (k.Int n, decimal n) line column f
    ∙ ap (λ b. counted_leaf (λ z. e.Const z) (moved l d s) (if b then Some (neg_ℤ (pos n)) else None)) (is_within n 9223372036854775808 h)
    ∙ counted_moved l d s (e.Const (neg_ℤ (pos n))))

-- an integer is spelled again, whatever its sign
const_again : (l : Leaves) (d : ℕ) (final s : State) (z : ℤ) → Placed l (as_literal z) (literal_depths z) (moved l d s) (e.Const z, moved l d (counting s)) → Again l d final s (e.Const z, counting s)
const_again l d final s z p =
    subst (λ t. Placed l t (depths (e.Const z)) (moved l d s) (e.Const z, moved l d (counting s))) (sym (texts-Const (printed_leaves l final) z))
    (subst (λ q. Placed l (as_literal z) q (moved l d s) (e.Const z, moved l d (counting s))) (sym (depths-Const z)) p)

one_more : (n : ℕ) → n + 1 ≤ n + 1
one_more n = omega arith

pub number_told : (l : Leaves) (s : State) (n : ℕ) → n ≤ 9223372036854775807 → is_full s ≡ false → Told l s (e.Const (pos n), counting s)
number_told l s n h f = record {
  grown = grown_counting s f;
  fixed = fixed_counting l s;
  placed = λ d final room g. const_again l d final s (pos n) (placed_number l (moved l d s) _ n (number_again l d s n h (room_left l d s (counting s) final f (one_more s.total) room g)));
}

pub negative_told : (l : Leaves) (s : State) (n : ℕ) → n ≤ 9223372036854775808 → is_full s ≡ false → Told l s (e.Const (neg_ℤ (pos n)), counting s)
negative_told l s zero h f = number_told l s 0 (omega arith) f
negative_told l s (suc n) h f = record {
  grown = grown_counting s f;
  fixed = fixed_counting l s;
  placed = λ d final room g. const_again l d final s (negsuc n) (placed_negative l (moved l d s) _ n (omega (arith, h)) (negative_again l d s (suc n) h (room_left l d s (counting s) final f (one_more s.total) room g)));
}

-- ---- names

-- the texts and depths of a leaf
leaf_dim : (l : Leaves) (d : ℕ) (final s t : State) (i : ℕ) → Placed l (as_unary ((printed_leaves l final).dimension i)) (unary_depths 0) (moved l d s) (e.Dim i, moved l d t) → Again l d final s (e.Dim i, t)
leaf_dim l d final s t i p =
    subst (λ x. Placed l x (depths (e.Dim i)) (moved l d s) (e.Dim i, moved l d t)) (sym (texts-Dim (printed_leaves l final) i))
    (subst (λ q. Placed l (as_unary ((printed_leaves l final).dimension i)) q (moved l d s) (e.Dim i, moved l d t)) (sym (depths-Dim i)) p)

leaf_sym : (l : Leaves) (d : ℕ) (final s t : State) (i : ℕ) → Placed l (as_unary ((printed_leaves l final).symbol i)) (unary_depths 0) (moved l d s) (e.Sym i, moved l d t) → Again l d final s (e.Sym i, t)
leaf_sym l d final s t i p =
    subst (λ x. Placed l x (depths (e.Sym i)) (moved l d s) (e.Sym i, moved l d t)) (sym (texts-Sym (printed_leaves l final) i))
    (subst (λ q. Placed l (as_unary ((printed_leaves l final).symbol i)) q (moved l d s) (e.Sym i, moved l d t)) (sym (depths-Sym i)) p)

leaf_other : {b : List ℕ} {x : Expr × State} (l : Leaves) (s : State) (n : ℕ) → Prints true b (Leaf l s) x → Prints true b (Other l n s) x
leaf_other l s zero p = in_right p
leaf_other l s (suc n) p = in_right (in_right p)

placed_leaf : {b : List ℕ} {x : Expr × State} (l : Leaves) (s : State) → Prints true b (Leaf l s) x → NoArrow true b → Placed l (as_unary b) (unary_depths 0) s x
placed_leaf {b = b} {x = x} l s p a = placed_unary l s x b 0 (λ n h. leaf_other l s n p) a

-- ---- parameters

digit_word : (b : ℕ) → is_ascii_digit b ≡ true → is_word_byte b ≡ true
digit_word b h = grind (arith, nat_tests)

digits_word : (b : ℕ) (w : List ℕ) → IsDigits (b ∷ w) → all_word (b ∷ w) ≡ true
digits_word b [] h = ap (λ v. v && true) (digit_word b h.0)
digits_word b (c ∷ w) h = ap (λ v. v && all_word (c ∷ w)) (digit_word b h.0) ∙ digits_word c w h.1

digits_all_word : (w : List ℕ) → IsDigits w → all_word w ≡ true
digits_all_word [] h = absurd h
digits_all_word (b ∷ w) h = digits_word b w h

-- the parameters of printed maps and sets are words
pub param_word : (letter n : ℕ) → n < 2 ^ 64 → is_word_first letter ≡ true → (bytes_eq (letter ∷ decimal n) (codes "memref")) ≡ false → is_keyword (letter ∷ decimal n) ≡ true
param_word letter n h f m = ap (λ v. v && (all_word (decimal n) && not (bytes_eq (letter ∷ decimal n) (codes "memref")))) f ∙ ap (λ v. v && not (bytes_eq (letter ∷ decimal n) (codes "memref"))) (digits_all_word (decimal n) (decimal_digits n h)) ∙ ap not m

-- what a word is among the parameters
pub data IsParameter (s : State) (p : Expr × State) : Type 0 where
  IsDim : (i : ℕ) → p ≡ (e.Dim i, counting s) → i < length s.dims → IsParameter s p
  IsSym : (i : ℕ) → p ≡ (e.Sym i, counting s) → i < length s.syms → IsParameter s p

pub parameter_is : (s : State) (w : List ℕ) (p : Expr × State) → parameter_of s w ≡ Some p → IsParameter s p
parameter_is s w p h = by_dim (number_of w s.dims) refl h
  where
    by_sym : (o : Option ℕ) → number_of w s.syms ≡ o → counted_leaf (λ i. e.Sym i) s o ≡ Some p → IsParameter s p
    by_sym (Some i) q m = let x : p ≡ (e.Sym i, counting s) = cc in IsSym i x (number_of_some w s.syms i q).below
    by_sym None q m = absurd cc

    by_dim : (o : Option ℕ) → number_of w s.dims ≡ o → or_else (counted_leaf (λ i. e.Dim i) s o) (counted_leaf (λ i. e.Sym i) s (number_of w s.syms)) ≡ Some p → IsParameter s p
    by_dim (Some i) q m = let x : p ≡ (e.Dim i, counting s) = cc in IsDim i x (number_of_some w s.dims i q).below
    by_dim None q m = by_sym (number_of w s.syms) refl m

parameter_piece : (s : State) (w : List ℕ) (p : Expr × State) → is_keyword w ≡ true → is_full s ≡ false → parameter_of s w ≡ Some p → Prints true w (Leaf leaves.Parameters s) p
parameter_piece s w p h f q = word_piece w (parameter s) p h (λ line column. open_limit (is_full s) (λ t. of_keyword (parameter_of s) (class t)) (k.Word, w) line column f ∙ q)

dim_again : (d : ℕ) (s : State) (i : ℕ) → i < length s.dims → i < 2 ^ 64 → is_full (moved leaves.Parameters d s) ≡ false → Prints true (100 ∷ decimal i) (Leaf leaves.Parameters (moved leaves.Parameters d s)) (e.Dim i, moved leaves.Parameters d (counting s))
dim_again d s i l h f =
    parameter_piece (moved leaves.Parameters d s) (100 ∷ decimal i) _ (param_word 100 i h refl refl) f
    (ap (λ o. or_else (counted_leaf (λ j. e.Dim j) (moved leaves.Parameters d s) o) (counted_leaf (λ j. e.Sym j) (moved leaves.Parameters d s) (number_of (100 ∷ decimal i) (params 115 0 (length s.syms))))) (param_number 100 0 (length s.dims) i i (omega arith) l h)
    ∙ counted_moved leaves.Parameters d s (e.Dim i))

sym_again : (d : ℕ) (s : State) (i : ℕ) → i < length s.syms → i < 2 ^ 64 → is_full (moved leaves.Parameters d s) ≡ false → Prints true (115 ∷ decimal i) (Leaf leaves.Parameters (moved leaves.Parameters d s)) (e.Sym i, moved leaves.Parameters d (counting s))
sym_again d s i l h f =
    parameter_piece (moved leaves.Parameters d s) (115 ∷ decimal i) _ (param_word 115 i h refl refl) f
    (ap (λ o. or_else (counted_leaf (λ j. e.Dim j) (moved leaves.Parameters d s) o) (counted_leaf (λ j. e.Sym j) (moved leaves.Parameters d s) (number_of (115 ∷ decimal i) (params 115 0 (length s.syms))))) (symbol_none (decimal i) 0 (length s.dims))
    ∙ ap (λ o. counted_leaf (λ j. e.Sym j) (moved leaves.Parameters d s) o) (param_number 115 0 (length s.syms) i i (omega arith) l h)
    ∙ counted_moved leaves.Parameters d s (e.Sym i))

pub parameter_told : (s : State) (p : Expr × State) → is_full s ≡ false → IsParameter s p → Told leaves.Parameters s p
parameter_told s p f (IsDim i q b) = subst (Told leaves.Parameters s) (sym q) (record {
  grown = grown_counting s f;
  fixed = (refl, refl);
  placed = λ d final room g.
      let n : i < 2 ^ 64 = omega (arith, b, room.few.0, ap (λ (x : List Name). length x) g.dims_are, length-append s.dims g.dims) in
      leaf_dim leaves.Parameters d final s (counting s) i (placed_leaf leaves.Parameters (moved leaves.Parameters d s) (dim_again d s i b n (room_left leaves.Parameters d s (counting s) final f (one_more s.total) room g)) (λ r c. refl));
})
parameter_told s p f (IsSym i q b) = subst (Told leaves.Parameters s) (sym q) (record {
  grown = grown_counting s f;
  fixed = (refl, refl);
  placed = λ d final room g.
      let n : i < 2 ^ 64 = omega (arith, b, room.few.1, ap (λ (x : List Name). length x) g.syms_are, length-append s.syms g.syms) in
      leaf_sym leaves.Parameters d final s (counting s) i (placed_leaf leaves.Parameters (moved leaves.Parameters d s) (sym_again d s i b n (room_left leaves.Parameters d s (counting s) final f (one_more s.total) room g)) (λ r c. refl));
})

-- ---- values

-- the state behind a value
abbrev with_dims : State → List Name → State
with_dims s names = counting (record { operands = s.operands; total = s.total; dims = names; syms = s.syms })

abbrev with_syms : State → List Name → State
with_syms s names = counting (record { operands = s.operands; total = s.total; dims = s.dims; syms = names })

grown_dims : (s : State) (w : List ℕ) → is_full s ≡ false → Appeared w s.dims (appears w s.dims) → Grown s (with_dims s (appears w s.dims).1)
grown_dims s w f a = let i = not_full s f in record { dims = a.more; dims_are = a.parts; syms = []; syms_are = sym (append-nil s.syms); total = omega arith; kept = λ h. omega (arith, i.1) }

grown_syms : (s : State) (w : List ℕ) → is_full s ≡ false → Appeared w s.syms (appears w s.syms) → Grown s (with_syms s (appears w s.syms).1)
grown_syms s w f a = let i = not_full s f in record { dims = []; dims_are = sym (append-nil s.dims); syms = a.more; syms_are = a.parts; total = omega arith; kept = λ h. omega (arith, i.1) }

-- the text of an operand with a number
operand_is : (w : List ℕ) (names : List Name) (i : ℕ) → Numbered w names i → operand_text (slice_get names i) ≡ 37 ∷ w
unfolding operand_text name_text
operand_is w names i h = ap operand_text h.found ∙ ap (λ v. 37 ∷ v) h.text

moved_dims : (d : ℕ) (s : State) (names : List Name) → with_dims (moved leaves.Values d s) names ≡ moved leaves.Values d (with_dims s names)
moved_dims d s names = moved_counting leaves.Values d (record { operands = s.operands; total = s.total; dims = names; syms = s.syms })

moved_syms : (d : ℕ) (s : State) (names : List Name) → with_syms (moved leaves.Values d s) names ≡ moved leaves.Values d (with_syms s names)
moved_syms d s names = moved_counting leaves.Values d (record { operands = s.operands; total = s.total; dims = s.dims; syms = names })

value_again : (d : ℕ) (s : State) (w : List ℕ) → IsValueName w → is_full (moved leaves.Values d s) ≡ false → Prints true (37 ∷ w) (One (dimension (moved leaves.Values d s))) (e.Dim (appears w s.dims).0, moved leaves.Values d (with_dims s (appears w s.dims).1))
value_again d s w h f = name_piece w (dimension (moved leaves.Values d s)) _ h (λ line column.
    open_limit (is_full (moved leaves.Values d s)) (λ t. of_value (λ v. Some (dimension_of (moved leaves.Values d s) v)) (class t)) (k.Value, 37 ∷ w) line column f
    ∙ ap (λ (t : State). let o : Option (Expr × State) = Some (e.Dim (appears w s.dims).0, t) in o) (moved_dims d s (appears w s.dims).1))

pub dimension_told : (s : State) (w : List ℕ) → IsValueName w → is_full s ≡ false → Told leaves.Values s (dimension_of s w)
dimension_told s w h f =
    let a = appeared w s.dims h in
    let t : State = with_dims s (appears w s.dims).1 in
    record {
      grown = grown_dims s w f a;
      fixed = tt;
      placed = λ d final room g.
          let n = first_numbered w final.dims final.syms (appears w s.dims).0 (numbered_dims w t final (appears w s.dims).0 g a.numbered) in
          let p : Prints true (37 ∷ w) (Leaf leaves.Values (moved leaves.Values d s)) (e.Dim (appears w s.dims).0, moved leaves.Values d t) = in_right (value_again d s w h (room_left leaves.Values d s t final f (one_more s.total) room g)) in
          leaf_dim leaves.Values d final s t (appears w s.dims).0 (subst (λ b. Placed leaves.Values (as_unary b) (unary_depths 0) (moved leaves.Values d s) (e.Dim (appears w s.dims).0, moved leaves.Values d t)) (sym (operand_is w (final.dims ++ final.syms) (appears w s.dims).0 n)) (placed_leaf leaves.Values (moved leaves.Values d s) p (λ r c. refl)));
    }

symbol_again : (d : ℕ) (s : State) (w : List ℕ) → IsValueName w → Prints true (37 ∷ w) (One (symbol (moved leaves.Values d s))) (e.Sym (appears w s.syms).0, moved leaves.Values d (with_syms s (appears w s.syms).1))
symbol_again d s w h = name_piece w (symbol (moved leaves.Values d s)) _ h (λ line column.
    ap (λ (t : State). let o : Option (Expr × State) = Some (e.Sym (appears w s.syms).0, t) in o) (moved_syms d s (appears w s.syms).1))

pub symbol_told : (s : State) (w : List ℕ) → IsValueName w → is_full s ≡ false → Told leaves.Values s (symbol_of s w)
symbol_told s w h f =
    let a = appeared w s.syms h in
    let t : State = with_syms s (appears w s.syms).1 in
    record {
      grown = grown_syms s w f a;
      fixed = tt;
      placed = λ d final room g.
          let n = numbered_behind w final.dims final.syms (appears w s.syms).0 (numbered_syms w t final (appears w s.syms).0 g a.numbered) in
          let u = moved leaves.Values d s in
          let x : Prints true (codes "symbol") (One (symbol_word u)) tt = word_piece (codes "symbol") (symbol_word u) tt refl (λ line column. open_limit (is_full u) (word (codes "symbol")) (k.Word, codes "symbol") line column (room_left leaves.Values d s t final f (one_more s.total) room g)) in
          let p : Prints true (codes "symbol" ++ (codes "(" ++ (37 ∷ w ++ codes ")"))) (Leaf leaves.Values u) (e.Sym (appears w s.syms).0, moved leaves.Values d t) = in_left (seq x (λ r c. refl) (loosen (parens (symbol_again d s w h)))) in
          leaf_sym leaves.Values d final s t (appears w s.syms).0 (subst (λ b. Placed leaves.Values (as_unary (codes "symbol(" ++ (b ++ codes ")"))) (unary_depths 0) u (e.Sym (appears w s.syms).0, moved leaves.Values d t)) (sym (operand_is w (final.dims ++ final.syms) (length final.dims + (appears w s.syms).0) n)) (placed_leaf leaves.Values u p (λ r c. refl)));
    }

-- ---- leaves

-- ---- depths

dim_depths : (x : Expr) (i : ℕ) → e.Dim i ≡ x → depths x ≡ unary_depths 0
dim_depths x i q = subst (λ y. depths y ≡ unary_depths 0) q (depths-Dim i)

sym_depths : (x : Expr) (i : ℕ) → e.Sym i ≡ x → depths x ≡ unary_depths 0
sym_depths x i q = subst (λ y. depths y ≡ unary_depths 0) q (depths-Sym i)

parameter_depths : (s : State) (p : Expr × State) → IsParameter s p → depths p.0 ≡ unary_depths 0
parameter_depths s p (IsDim i q b) = dim_depths p.0 i (sym (ap (λ (x : Expr × State). x.0) q))
parameter_depths s p (IsSym i q b) = sym_depths p.0 i (sym (ap (λ (x : Expr × State). x.0) q))

pub leaf_depths : (l : Leaves) (s : State) (f : List Tok) (p : Expr × State) → Given f → Leaf l s f p → depths p.0 ≡ unary_depths 0
leaf_depths leaves.Parameters s f p g h =
    let i = limited_some (is_full s) (λ t. of_keyword (parameter_of s) (class t)) h.token p (given_one f h.token h.alone g).counted h.accepted in
    let w = of_keyword_some (parameter_of s) p (class h.token) i.1 in
    parameter_depths s p (parameter_is s w.0 p w.1.1)
leaf_depths leaves.Values s f p g (inr h) =
    let t = given_one f h.token h.alone g in
    let i = limited_some (is_full s) (λ t. of_value (λ v. Some (dimension_of s v)) (class t)) h.token p t.counted h.accepted in
    let w = of_value_some (λ v. Some (dimension_of s v)) p (class h.token) i.1 in
    let q : dimension_of s w.0 ≡ p = cc (w.1.1) in
    dim_depths p.0 (appears w.0 s.dims).0 (ap (λ (x : Expr × State). x.0) q)
leaf_depths leaves.Values s f p g (inl h) =
    let y = h.second.second.first in
    let w = of_value_some (λ v. Some (symbol_of s v)) h.second.second.value (class y.token) y.accepted in
    let q : symbol_of s w.0 ≡ h.second.second.value = cc (w.1.1) in
    let r : symbol_of s w.0 ≡ p = q ∙ sym h.second.second.second.second.1 in
    sym_depths p.0 (appears w.0 s.syms).0 (ap (λ (x : Expr × State). x.0) r)

literal_unary : (z : ℤ) → (literal_depths z).unary ≡ 0
literal_unary (pos n) = refl
literal_unary (negsuc n) = refl

const_depths : (x : Expr) (z : ℤ) → e.Const z ≡ x → (depths x).unary ≡ 0
const_depths x z q = subst (λ y. (depths y).unary ≡ 0) q (ap (λ (d : Depths). d.unary) (depths-Const z) ∙ literal_unary z)

pub integer_depths : (s : State) (f : List Tok) (p : Expr × State) → Given f → One (number s) f p → (depths p.0).unary ≡ 0
integer_depths s f p g h =
    let i = limited_some (is_full s) (λ t. counted_leaf (λ z. e.Const z) s (integer t)) h.token p (given_one f h.token h.alone g).counted h.accepted in
    let c = counted_some (λ z. e.Const z) s (integer h.token) p i.1 in
    const_depths p.0 c.0 (ap (λ (x : Expr × State). x.0) c.1.1)

-- an integer behind a `-` is below 0, or it is 0
pub record MinusDepths (x : Expr) : Type 0 where
  pub unary : (depths x).unary ≡ 0
  pub negated : (zeros x).zero ≡ false → (depths x).negated ≡ 0

minus_case : (n : ℕ) → MinusDepths (e.Const (neg_ℤ (pos n)))
minus_case zero = record { unary = const_depths (e.Const (pos 0)) (pos 0) refl; negated = λ c. let z : (zeros (e.Const (pos 0))).zero ≡ true = ap (λ (d : Zeros). d.zero) (zeros-Const (pos 0)) in absurd (true_no (sym z ∙ c)) }
minus_case (suc n) = record { unary = const_depths (e.Const (negsuc n)) (negsuc n) refl; negated = λ c. ap (λ (d : Depths). d.negated) (depths-Const (negsuc n)) }

pub minus_depths : (s : State) (f : List Tok) (p : Expr × State) → Given f → One (negative_number s) f p → MinusDepths p.0
minus_depths s f p g h =
    let i = limited_some (is_full s) (λ t. counted_leaf (λ z. e.Const z) s (negative t)) h.token p (given_one f h.token h.alone g).counted h.accepted in
    let c = counted_some (λ z. e.Const z) s (negative h.token) p i.1 in
    let z = negative_given h.token c.0 c.1.0 in
    subst MinusDepths (ap (λ (y : ℤ). e.Const y) (sym z.is) ∙ ap (λ (x : Expr × State). x.0) c.1.1) (minus_case z.magnitude)
