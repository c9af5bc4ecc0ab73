-- Texts that grow piece by piece.
use Rattle.std.proofs.Common.{◌≡◌, ℕ, zero, suc, ◌+◌, ◌<◌, ◌==◌, false, cond, List, [], ◌∷◌, ◌++◌, take, length, get_or, refl, sym, ap, ◌∙◌, append_assoc, append-nil, arith, rules}
use Rattle.std.proofs.lemmas.List.{take_more}
use Rattle.std.proofs.lemmas.Grind.{flat_map-append}
use Rattle.std.specs.List.{flat_map, range_with_len}
use Rattle.std.specs.Fmt.{decimal}
use Rattle.std.specs.Prelude.{codes}
use Rattle.affine_ast.specs.declared.stmt.Stmt.{Stmt}
use Rattle.affine_ast.specs.Nest.{nest}
use Rattle.affine_ast.specs.Spelling.{listed, as_unary, numbered_text, lines, line_text, statement_text}
use Rattle.affine_ast.proofs.Spellings.{lines-nil, lines-more}
use Rattle.affine_print.specs.Places.{comma_text, text_at}
use Rattle.affine_print.specs.declared.expression.Place.{Place}
use Rattle.affine_print.specs.declared.expression.Place.TheVariants.{Sum, Product, Unary, Negated}

positive : (i : ℕ) → (suc i == 0) ≡ false
positive i = search rules

module _ {A : Type 0} (text : A → List ℕ) where
  -- what stands before one more item
  before : List A → List ℕ
  before [] = []
  before (x ∷ xs) = codes ", "

  listed-last : (xs : List A) (x : A) → listed text (xs ++ x ∷ []) ≡ listed text xs ++ (before xs ++ text x)
  unfolding listed before
  listed-last [] x = append-nil (text x)
  listed-last (y ∷ xs) x =
      ap (λ l. text y ++ l) (flat_map-append (λ z. codes ", " ++ text z) xs (x ∷ []) ∙ ap (λ l. flat_map (λ z. codes ", " ++ text z) xs ++ l) (append-nil (codes ", " ++ text x)))
      ∙ sym (append_assoc (text y) (flat_map (λ z. codes ", " ++ text z) xs) (codes ", " ++ text x))

  before-take : (i : ℕ) (xs : List A) → i < length xs → before (take i xs) ≡ comma_text i
  unfolding before
  before-take zero xs h = refl
  before-take (suc i) [] h = absurd (omega (arith, h))
  before-take (suc i) (x ∷ xs) h = ap (λ b. cond b [] (codes ", ")) (sym (positive i))

  -- one more item behind those so far
  pub listed_more : (xs : List A) (i : ℕ) (x : A) (old mid comma new : List ℕ) → i < length xs → x ≡ get_or xs i x
      → mid ≡ old ++ listed text (take i xs) → comma ≡ mid ++ comma_text i → new ≡ comma ++ text x
      → new ≡ old ++ listed text (take (i + 1) xs)
  listed_more xs i x old mid comma new h is p q r =
      let t : take (i + 1) xs ≡ take i xs ++ x ∷ [] = take_more xs i x h ∙ ap (λ y. take i xs ++ y ∷ []) (sym is) in
      let more : listed text (take (i + 1) xs) ≡ listed text (take i xs) ++ (comma_text i ++ text x) =
      ap (listed text) t ∙ listed-last (take i xs) x ∙ ap (λ l. listed text (take i xs) ++ (l ++ text x)) (before-take i xs h) in
      r ∙ ap (λ l. l ++ text x) (q ∙ ap (λ l. l ++ comma_text i) p)
      ∙ append_assoc (old ++ listed text (take i xs)) (comma_text i) (text x)
      ∙ append_assoc old (listed text (take i xs)) (comma_text i ++ text x)
      ∙ ap (λ l. old ++ l) (sym more)

  -- before the first item
  pub listed_none : (old : List ℕ) → old ≡ old ++ listed text []
  unfolding listed
  listed_none old = sym (append-nil old)

-- a leaf and a negation have no parentheses anywhere
pub unary_at : (place : Place) (t : List ℕ) → text_at place (as_unary t) ≡ t
unary_at Sum t = refl
unary_at Product t = refl
unary_at Unary t = refl
unary_at Negated t = refl

range-last : (a n : ℕ) → range_with_len a (suc n) ≡ range_with_len a n ++ (a + n) ∷ []
range-last a zero = ap (λ k. k ∷ []) (omega arith)
range-last a (suc n) =
    let e : a + 1 + n ≡ a + suc n = omega arith in
    ap (λ l. a ∷ l) (range-last (a + 1) n ∙ ap (λ k. range_with_len (a + 1) n ++ k ∷ []) e)

-- before the first parameter
pub numbered_none : (letter old : List ℕ) → old ≡ old ++ numbered_text letter 0
unfolding numbered_text
numbered_none letter old = listed_none (λ n. letter ++ decimal n) old

before-range : (letter : List ℕ) (n : ℕ) → before (λ k. letter ++ decimal k) (range_with_len 0 n) ≡ comma_text n
unfolding before
before-range letter zero = refl
before-range letter (suc i) = ap (λ b. cond b [] (codes ", ")) (sym (positive i))

-- one more parameter
pub numbered_more : (letter : List ℕ) (n : ℕ) (old mid comma sign new : List ℕ)
    → mid ≡ old ++ numbered_text letter n → comma ≡ mid ++ comma_text n → sign ≡ comma ++ letter → new ≡ sign ++ decimal n
    → new ≡ old ++ numbered_text letter (n + 1)
unfolding numbered_text
numbered_more letter n old mid comma sign new p q r s =
    let text : ℕ → List ℕ = λ k. letter ++ decimal k in
    let next : n + 1 ≡ suc n = omega arith in
    let number : 0 + n ≡ n = omega arith in
    let t : range_with_len 0 (n + 1) ≡ range_with_len 0 n ++ n ∷ [] = ap (range_with_len 0) next ∙ range-last 0 n ∙ ap (λ k. range_with_len 0 n ++ k ∷ []) number in
    let more : listed text (range_with_len 0 (n + 1)) ≡ listed text (range_with_len 0 n) ++ (comma_text n ++ text n) =
    ap (listed text) t ∙ listed-last text (range_with_len 0 n) n ∙ ap (λ l. listed text (range_with_len 0 n) ++ (l ++ text n)) (before-range letter n) in
    s ∙ ap (λ l. l ++ decimal n) (r ∙ ap (λ l. l ++ letter) (q ∙ ap (λ l. l ++ comma_text n) p))
    ∙ append_assoc ((old ++ listed text (range_with_len 0 n)) ++ comma_text n) letter (decimal n)
    ∙ append_assoc (old ++ listed text (range_with_len 0 n)) (comma_text n) (text n)
    ∙ append_assoc old (listed text (range_with_len 0 n)) (comma_text n ++ text n)
    ∙ ap (λ l. old ++ l) (sym more)

-- one piece after another: each text is the one before it with a piece behind
pub two_pieces : (a b x y d : List ℕ) → b ≡ a ++ x → d ≡ b ++ y → d ≡ a ++ (x ++ y)
two_pieces a b x y d p q = q ∙ ap (λ l. l ++ y) p ∙ append_assoc a x y

pub three_pieces : (a b c x y z d : List ℕ) → b ≡ a ++ x → c ≡ b ++ y → d ≡ c ++ z → d ≡ a ++ (x ++ (y ++ z))
three_pieces a b c x y z d p q r = two_pieces a b x (y ++ z) d p (two_pieces b c y z d q r)

pub four_pieces : (a b c d x y z w e : List ℕ) → b ≡ a ++ x → c ≡ b ++ y → d ≡ c ++ z → e ≡ d ++ w → e ≡ a ++ (x ++ (y ++ (z ++ w)))
four_pieces a b c d x y z w e p q r s = two_pieces a b x (y ++ (z ++ w)) e p (three_pieces b c d y z w e q r s)

pub five_pieces : (a b c d e x y z w v f : List ℕ) → b ≡ a ++ x → c ≡ b ++ y → d ≡ c ++ z → e ≡ d ++ w → f ≡ e ++ v → f ≡ a ++ (x ++ (y ++ (z ++ (w ++ v))))
five_pieces a b c d e x y z w v f p q r s t = two_pieces a b x (y ++ (z ++ (w ++ v))) f p (four_pieces b c d e y z w v f q r s t)

-- ---- The lines of statements

pub lines_none : (margin old : List ℕ) → old ≡ old ++ lines margin (nest [])
lines_none margin old = sym (append-nil old) ∙ ap (λ l. old ++ l) (sym (lines-nil margin))

pub one_more_line : (margin : List ℕ) (xs : List Stmt) (i : ℕ) (x : Stmt) (old mid new : List ℕ) → i < length xs → x ≡ get_or xs i x
    → mid ≡ old ++ lines margin (nest (take i xs)) → new ≡ mid ++ line_text margin (statement_text margin x.what)
    → new ≡ old ++ lines margin (nest (take (i + 1) xs))
one_more_line margin xs i x old mid new h is p q =
    q ∙ ap (λ l. l ++ line_text margin (statement_text margin x.what)) p
    ∙ append_assoc old (lines margin (nest (take i xs))) (line_text margin (statement_text margin x.what))
    ∙ ap (λ l. old ++ l) (sym (lines-more margin xs i x h is))
