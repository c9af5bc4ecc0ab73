-- Types and integers of a given text are spelled again.
use Rattle.std.proofs.Common.{◌≡◌, ℕ, zero, suc, ◌+◌, ◌-◌, ◌≤◌, ◌==◌, ◌||◌, ℤ, pos, negsuc, neg_ℤ, Bool, true, false, if◌then◌else◌, List, [], ◌∷◌, ◌++◌, slice_index, length, take, Some, None, flat_map, decimal, codes, refl, sym, ap, ◌∙◌, subst, append_assoc, append-nil, length-append, inl, inr, arith}
use Rattle.std.proofs.lemmas.Bool.Decides.{nat_tests}
use Rattle.std.proofs.Math.Seq.{take-append_seam}
use Rattle.std.specs.Fmt.{signed_decimal}
use Rattle.std.specs.Char.{is_ascii_digit}
use Rattle.std.specs.Str.Parse.{digits_value}
use Rattle.readers.specs.Languages.{Lang, Nothing, One, Both, Many, none, more, Optional, Linked}
use Rattle.affine_lex.specs.Scan.{after_word, after_punct, token, Lexeme}
use Rattle.affine_lex.specs.Tokens.{IsDigits, HasForm}
use Rattle.affine_lex.specs.declared.token.Kind.TheVariants as k
use Rattle.affine_lex.proofs.Written.{Piece, AreCut, cut_token, word_again, sign_again, sizes_again as sizes_token}
use Rattle.affine_ast.specs.declared.types.Element.{Element}
use Rattle.affine_ast.specs.declared.types.Element.TheVariants as el
use Rattle.affine_ast.specs.declared.types.Scalar.{Scalar}
use Rattle.affine_ast.specs.declared.types.Scalar.TheVariants as sc
use Rattle.affine_ast.specs.declared.types.MemrefType.{MemrefType}
use Rattle.affine_ast.specs.Spelling.{element_text, scalar_text, size_text, space_text, memref_text, typed_text}
use Rattle.affine_grammar.specs.Token.{Tok, class, sign, integer, negative, size, space, within, element, element_of, scalar, scalar_of}
use Rattle.affine_grammar.specs.Grammar.{SpaceType, Space, Shape, Memref, Signed}
use Rattle.affine_grammar.specs.GrammarFile.{Typed}
pub use Rattle.printed_texts.specs.Writable.{AllSmall, TypeFits, InRange, Positive, Negative}
use Rattle.printed_texts.proofs.Pieces.{tok, Are, parted, ends, Closes, Joins, Cuts, Prints, seq, prints_as, in_left, in_right, giving, nothing, blank_before, blank_behind}
use Rattle.printed_texts.proofs.Marks.{ends_id, id_word, word_form, word_piece, number_piece, minus_then, greater_sign, comma_sign, colon_sign, decimal_digits, decimal_value, digit_no_white, digit_no_slash, digits_no_arrow, is_within, suc_no}
use Rattle.printed_texts.proofs.Given.{within_some, of_size_some, integer_given, negative_given, space_given}

-- ---- where sizes may stand

-- bytes that are cut behind `memref` and `<`, or behind sizes
abbrev SizedCuts : Bool → List ℕ → List Piece → Type 0
SizedCuts o b ps = (rest : List ℕ) (qs : List Piece) → Closes o rest → AreCut (after_word []) rest qs → AreCut (after_punct (after_word (codes "memref")) 60) (b ++ rest) (ps ++ qs)

record SizedPrints {A : Type 0} (o : Bool) (b : List ℕ) (L : Lang Tok A) (x : A) : Type 0 where
  pieces : List Piece
  cut : SizedCuts o b pieces
  spelled : (us : List Tok) → Are pieces us → L us x

sized_join : (o m : Bool) (a b : List ℕ) (ps qs : List Piece) → SizedCuts o a ps → Joins o b m → Cuts m b qs → SizedCuts m (a ++ b) (ps ++ qs)
sized_join true m a b ps qs f j g = λ rest more c h. rw (append_assoc a b rest, append_assoc ps qs more) (f (b ++ rest) (qs ++ more) (j rest c) (g rest more c h))
sized_join false m a b ps qs f j g = λ rest more c h. rw (append_assoc a b rest, append_assoc ps qs more) (f (b ++ rest) (qs ++ more) tt (g rest more c h))

sized_seq : {A B : Type 0} {o m : Bool} {a b : List ℕ} {L : Lang Tok A} {K : A → Lang Tok B} {x : A} {y : B} → SizedPrints o a L x → Joins o b m → Prints m b (K x) y → SizedPrints m (a ++ b) (Both L K) y
sized_seq {o = o} {m = m} {a = a} {b = b} {x = x} p j q = record {
  pieces = p.pieces ++ q.pieces;
  cut = sized_join o m a b p.pieces q.pieces p.cut j q.cut;
  spelled = λ us h. let i = parted p.pieces q.pieces us h in record { value = x; left = i.left; right = i.right; parts = i.parts; first = p.spelled i.left i.first; second = q.spelled i.right i.second };
}

sized_word : (b : ℕ) (w : List ℕ) (e : Element) → HasForm false k.Word (b ∷ w)
    → ((rest : List ℕ) (qs : List Piece) → AreCut (after_word []) rest qs → AreCut (after_word (b ∷ w)) rest qs)
    → ((line column : ℕ) → element (tok (k.Word, b ∷ w) line column) ≡ Some e) → (b == 47) ≡ false → (b == 32 || b == 9 || b == 13 || b == 10) ≡ false → SizedPrints true (b ∷ w) (One element) e
sized_word b w e f c a s v = record {
  pieces = (k.Word, b ∷ w) ∷ [];
  cut = λ rest qs t h. cut_token (after_punct (after_word (codes "memref")) 60) k.Word b w rest qs v s (word_again true b w rest f.0 f.1 (id_word (slice_index rest 0) (ends_id rest t))) (c rest qs h);
  spelled = λ us h. record { token = tok (k.Word, b ∷ w) h.0 h.1.0; alone = h.1.1.1.0 ∙ ap (λ r. tok (k.Word, b ∷ w) h.0 h.1.0 ∷ r) h.1.1.1.1; accepted = a h.0 h.1.0 };
}

element_again : (e : Element) → SizedPrints true (element_text e) (One element) e
unfolding element_of
element_again el.I8 = sized_word 105 (56 ∷ []) el.I8 (word_form 105 (56 ∷ []) refl refl) (λ rest qs h. h) (λ line column. refl) refl refl
element_again el.I16 = sized_word 105 (49 ∷ 54 ∷ []) el.I16 (word_form 105 (49 ∷ 54 ∷ []) refl refl) (λ rest qs h. h) (λ line column. refl) refl refl
element_again el.I32 = sized_word 105 (51 ∷ 50 ∷ []) el.I32 (word_form 105 (51 ∷ 50 ∷ []) refl refl) (λ rest qs h. h) (λ line column. refl) refl refl
element_again el.I64 = sized_word 105 (54 ∷ 52 ∷ []) el.I64 (word_form 105 (54 ∷ 52 ∷ []) refl refl) (λ rest qs h. h) (λ line column. refl) refl refl

-- ---- spaces

space_piece : (n : ℕ) → n ≤ 255 → Prints true (decimal n) (One space) n
space_piece n h = number_piece n space n (omega (arith, h)) (λ line column. ap (λ b. if b then Some n else None) (is_within n 255 h))

space_again : (n : ℕ) → n ≤ 255 → Prints true (space_text n) (Optional Space 0) n
unfolding space_text
space_again zero h = in_right (nothing 0)
space_again (suc n) h =
    let m : ℕ = suc n in
    let x : Prints true (decimal m) (Both (One space) (λ n. Optional (SpaceType n) n)) m = prints_as (seq (space_piece m h) (λ r c. c) (in_right {L = SpaceType m} (nothing {o = true} m))) (append-nil (decimal m)) in
    let p : Prints true (codes ", " ++ decimal m) (Optional Space 0) m = in_left (seq (blank_behind comma_sign) tt x) in
    prints_as p (sym (ap (λ b. if b then [] else (codes ", " ++ decimal m)) (suc_no n)))

space_joins : (n : ℕ) (r : List ℕ) → ends r ≡ true → ends (space_text n ++ r) ≡ true
unfolding space_text
space_joins zero r h = h
space_joins (suc n) r h = ap (λ b. ends ((if b then [] else (codes ", " ++ decimal (suc n))) ++ r)) (suc_no n)

-- ---- sizes

take_front : (x : List ℕ) (b : ℕ) → take (length (x ++ b ∷ []) - 1) (x ++ b ∷ []) ≡ x
take_front x b = let e : length (x ++ b ∷ []) - 1 ≡ length x = omega (arith, length-append x (b ∷ [])) in ap (λ n. take n (x ++ b ∷ [])) e ∙ take-append_seam x (b ∷ [])

size_accepted : (n line column : ℕ) → n ≤ 4294967295 → size (tok (k.Sizes, size_text n) line column) ≡ Some n
unfolding size_text
size_accepted n line column h =
    ap (λ w. within 4294967295 (digits_value 10 w)) (take_front (decimal n) 120) ∙ ap (within 4294967295) (decimal_value n (omega (arith, h))) ∙ ap (λ b. if b then Some n else None) (is_within n 4294967295 h)

sizes_cut : (x rest : List ℕ) (qs : List Piece) → IsDigits x → AreCut (after_punct (after_word (codes "memref")) 60) rest qs → AreCut (after_punct (after_word (codes "memref")) 60) ((x ++ 120 ∷ []) ++ rest) ((k.Sizes, x ++ 120 ∷ []) ∷ qs)
sizes_cut [] rest qs i h = absurd i
sizes_cut (b ∷ w) rest qs i h =
    let n : length (b ∷ w) + 1 ≡ length (b ∷ (w ++ 120 ∷ [])) = omega (arith, length-append w (120 ∷ [])) in
    let e : (b ∷ w) ++ 120 ∷ rest ≡ b ∷ ((w ++ 120 ∷ []) ++ rest) = ap (λ l. b ∷ l) (sym (append_assoc w (120 ∷ []) rest)) in
    cut_token (after_punct (after_word (codes "memref")) 60) k.Sizes b (w ++ 120 ∷ []) rest qs (digit_no_white b i.0) (digit_no_slash b i.0)
    (subst (λ l. ◌≡◌ {A = Lexeme} (token true l) (k.Sizes, length (b ∷ (w ++ 120 ∷ [])))) e (sizes_token (b ∷ w) rest i ∙ ap (λ m. let o : Lexeme = (k.Sizes, m) in o) n)) h

-- one size more
abbrev OneSize : List ℕ → Lang Tok (List ℕ)
OneSize = Linked (λ ns. size) (λ ns n. Nothing (ns ++ n ∷ []))

one_size : (acc : List ℕ) (t : Tok) (n : ℕ) → size t ≡ Some n → OneSize acc (t ∷ []) (acc ++ n ∷ [])
one_size acc t n h = record { value = n; left = t ∷ []; right = []; parts = refl; first = record { token = t; alone = refl; accepted = h }; second = (refl, refl) }

sizes_more : {B : Type 0} {K : List ℕ → Lang Tok B} {o : Bool} {y : B} (b : List ℕ) (n : ℕ) (acc f : List ℕ) → n ≤ 4294967295 → SizedPrints o (f ++ b) (Both (Many OneSize (acc ++ n ∷ [])) K) y → SizedPrints o ((size_text n ++ f) ++ b) (Both (Many OneSize acc) K) y
unfolding size_text
sizes_more {o = o} b n acc f h q = record {
  pieces = (k.Sizes, size_text n) ∷ q.pieces;
  cut = λ rest qs c a.
      let e : size_text n ++ ((f ++ b) ++ rest) ≡ ((size_text n ++ f) ++ b) ++ rest = simp append_assoc refl in
      subst (λ l. AreCut (after_punct (after_word (codes "memref")) 60) l (((k.Sizes, size_text n) ∷ q.pieces) ++ qs)) e (sizes_cut (decimal n) ((f ++ b) ++ rest) (q.pieces ++ qs) (decimal_digits n (omega (arith, h))) (q.cut rest qs c a));
  spelled = λ us a.
      let t : Tok = tok (k.Sizes, size_text n) a.0 a.1.0 in
      let i = q.spelled a.1.1.0 a.1.1.1.1 in
      record {
        value = i.value;
        left = t ∷ i.left;
        right = i.right;
        parts = a.1.1.1.0 ∙ ap (λ l. t ∷ l) i.parts;
        first = more acc (acc ++ n ∷ []) i.value (t ∷ i.left) (t ∷ []) i.left refl (one_size acc t n (size_accepted n a.0 a.1.0 h)) i.first;
        second = i.second;
      };
}

-- sizes, and what stands behind them
sizes_again : {B : Type 0} {K : List ℕ → Lang Tok B} {o : Bool} {b : List ℕ} {y : B} (ns acc : List ℕ) → AllSmall ns → SizedPrints o b (K (acc ++ ns)) y → SizedPrints o (flat_map size_text ns ++ b) (Both (Many OneSize acc) K) y
unfolding size_text
sizes_again {K = K} {o = o} {b = b} {y = y} [] acc h p = record {
  pieces = p.pieces;
  cut = p.cut;
  spelled = λ us a. record { value = acc; left = []; right = us; parts = refl; first = none acc [] refl; second = subst (λ l. K l us y) (append-nil acc) (p.spelled us a) };
}
sizes_again {B = B} {K = K} {o = o} {b = b} {y = y} (n ∷ ns) acc h p =
    let q : SizedPrints o (flat_map size_text ns ++ b) (Both (Many OneSize (acc ++ n ∷ [])) K) y = sizes_again ns (acc ++ n ∷ []) h.1 (subst (λ l. SizedPrints o b (K l) y) (sym (append_assoc acc (n ∷ []) ns)) p) in
    sizes_more b n acc (flat_map size_text ns) h.0 q

-- ---- memref types

small_append : (ns : List ℕ) (n : ℕ) → AllSmall ns → n ≤ 4294967295 → AllSmall (ns ++ n ∷ [])
small_append [] n a h = (h, tt)
small_append (m ∷ ns) n a h = (a.0, small_append ns n a.1 h)

size_given : (t : Tok) (n : ℕ) → size t ≡ Some n → n ≤ 4294967295
size_given t n h = let i = of_size_some (λ w. within 4294967295 (digits_value 10 w)) n (class t) h in within_some 4294967295 (digits_value 10 i.0) n i.1.1

sizes_told : (b c : List ℕ) (f : List Tok) → AllSmall b → Many OneSize b f c → AllSmall c
sizes_told b c f a (none _ _ p) = a
sizes_told b c f a (more _ d _ _ left right p i m) = sizes_told d c right (subst AllSmall (sym i.second.1) (small_append b i.value a (size_given i.first.token i.value i.first.accepted))) m

space_told : (n : ℕ) (f : List Tok) → Optional Space 0 f n → n ≤ 255
space_told n f (inr h) = omega (arith, h.1)
space_told n f (inl h) =
    let i = h.second in
    omega (arith, space_given i.first.token i.value i.first.accepted, same i.value i.right i.second)
  where
    same : (m : ℕ) (g : List Tok) → Optional (SpaceType m) m g n → n ≡ m
    same m g (inl j) = j.second.second.1
    same m g (inr j) = j.1

pub memref_told : (ty : MemrefType) (f : List Tok) → Memref f ty → TypeFits ty
memref_told ty f h =
    let i = h.second.second in
    let j = i.first in
    let s = j.second.second in
    subst TypeFits (sym (i.second.second.1 ∙ s.second.1)) (record { sizes = sizes_told [] j.value j.left tt j.first; space = space_told s.value s.left s.first })

no_equals : (b : ℕ) → is_ascii_digit b ≡ true → (b == 61) ≡ false
no_equals b h = grind (arith, nat_tests)

digits_no_equals : (x r : List ℕ) → IsDigits x → (slice_index (x ++ r) 0 == 61) ≡ false
digits_no_equals [] r i = absurd i
digits_no_equals (b ∷ x) r i = no_equals b i.0

element_no_equals : (e : Element) (r : List ℕ) → (slice_index (element_text e ++ r) 0 == 61) ≡ false
element_no_equals el.I8 r = refl
element_no_equals el.I16 r = refl
element_no_equals el.I32 r = refl
element_no_equals el.I64 r = refl

shape_no_equals : (ns : List ℕ) (e : Element) (r : List ℕ) → AllSmall ns → (slice_index (flat_map size_text ns ++ (element_text e ++ r)) 0 == 61) ≡ false
unfolding size_text
shape_no_equals [] e r h = element_no_equals e r
shape_no_equals (n ∷ ns) e r h =
    let q : decimal n ++ (120 ∷ (flat_map size_text ns ++ (element_text e ++ r))) ≡ ((decimal n ++ codes "x") ++ flat_map size_text ns) ++ (element_text e ++ r) = simp append_assoc refl in
    subst (λ l. (slice_index l 0 == 61) ≡ false) q (digits_no_equals (decimal n) (120 ∷ (flat_map size_text ns ++ (element_text e ++ r))) (decimal_digits n (omega (arith, h.0))))

pub memref_again : (ty : MemrefType) → TypeFits ty → Prints true (memref_text ty) Memref ty
unfolding memref_text
memref_again ty t =
    let el_part : SizedPrints true (element_text ty.element ++ space_text ty.space) (Both (One element) (λ x. Both (Optional Space 0) (λ s. Nothing (record { sizes = ty.sizes; element = x; space = s })))) ty =
    sized_seq (element_again ty.element) (space_joins ty.space) (giving (λ s. let m : MemrefType = record { sizes = ty.sizes; element = ty.element; space = s } in m) (space_again ty.space t.space)) in
    let shape : SizedPrints true (flat_map size_text ty.sizes ++ (element_text ty.element ++ space_text ty.space)) Shape ty = sizes_again {K = λ ns. Both (One element) (λ x. Both (Optional Space 0) (λ s. Nothing (record { sizes = ns; element = x; space = s })))} ty.sizes [] t.sizes el_part in
    let closed : SizedPrints true ((flat_map size_text ty.sizes ++ (element_text ty.element ++ space_text ty.space)) ++ codes ">") (Both Shape (λ x. Both (One (sign 62)) (λ _. Nothing x))) ty = sized_seq shape (λ r c. refl) (giving (λ _. ty) greater_sign) in
    let e : (flat_map size_text ty.sizes ++ (element_text ty.element ++ space_text ty.space)) ++ codes ">" ≡ flat_map size_text ty.sizes ++ (element_text ty.element ++ (space_text ty.space ++ codes ">")) = simp append_assoc refl in
    opened ty (flat_map size_text ty.sizes ++ (element_text ty.element ++ (space_text ty.space ++ codes ">"))) (λ r. subst (λ l. (slice_index l 0 == 61) ≡ false) (sym (append_assoc (flat_map size_text ty.sizes) (element_text ty.element ++ (space_text ty.space ++ codes ">")) r ∙ ap (λ l. flat_map size_text ty.sizes ++ l) (append_assoc (element_text ty.element) (space_text ty.space ++ codes ">") r))) (shape_no_equals ty.sizes ty.element ((space_text ty.space ++ codes ">") ++ r) t.sizes))
    (subst (λ l. SizedPrints true l (Both Shape (λ x. Both (One (sign 62)) (λ _. Nothing x))) ty) e closed)
  where
    opened : (ty : MemrefType) (b : List ℕ) → ((r : List ℕ) → (slice_index (b ++ r) 0 == 61) ≡ false) → SizedPrints true b (Both Shape (λ x. Both (One (sign 62)) (λ _. Nothing x))) ty → Prints true (codes "memref<" ++ b) Memref ty
    opened ty b n p = record {
      pieces = (k.Word, codes "memref") ∷ (k.Punct 60, codes "<") ∷ p.pieces;
      cut = λ rest qs c h.
          cut_token (after_word []) k.Word 109 (101 ∷ 109 ∷ 114 ∷ 101 ∷ 102 ∷ []) (60 ∷ (b ++ rest)) ((k.Punct 60, codes "<") ∷ (p.pieces ++ qs)) refl refl (word_again false 109 (101 ∷ 109 ∷ 114 ∷ 101 ∷ 102 ∷ []) (60 ∷ (b ++ rest)) refl (word_form 109 (101 ∷ 109 ∷ 114 ∷ 101 ∷ 102 ∷ []) refl refl).1 refl)
          (cut_token (after_word (codes "memref")) (k.Punct 60) 60 [] (b ++ rest) (p.pieces ++ qs) refl refl (sign_again false 60 (b ++ rest) refl (ap (λ v. v || false) (n rest))) (p.cut rest qs c h));
      spelled = λ us h.
          let t : Tok = tok (k.Word, codes "memref") h.0 h.1.0 in
          let m = h.1.1.1.1 in
          let u : Tok = tok (k.Punct 60, codes "<") m.0 m.1.0 in
          record {
            value = tt;
            left = t ∷ [];
            right = h.1.1.0;
            parts = h.1.1.1.0;
            first = record { token = t; alone = refl; accepted = refl };
            second = record { value = tt; left = u ∷ []; right = m.1.1.0; parts = m.1.1.1.0; first = record { token = u; alone = refl; accepted = refl }; second = p.spelled m.1.1.0 m.1.1.1.1 };
          };
    }

pub typed_again : {A : Type 0} (f : MemrefType → A) (ty : MemrefType) → TypeFits ty → Prints true (typed_text ty) (Typed f) (f ty)
unfolding typed_text
typed_again f ty t = seq (blank_before (blank_behind colon_sign)) tt (giving f (memref_again ty t))

pub scalar_again : (ty : Scalar) → Prints true (scalar_text ty) (One scalar) ty
unfolding scalar_of element_of
scalar_again (sc.Int el.I8) = word_piece (codes "i8") scalar (sc.Int el.I8) refl (λ line column. refl)
scalar_again (sc.Int el.I16) = word_piece (codes "i16") scalar (sc.Int el.I16) refl (λ line column. refl)
scalar_again (sc.Int el.I32) = word_piece (codes "i32") scalar (sc.Int el.I32) refl (λ line column. refl)
scalar_again (sc.Int el.I64) = word_piece (codes "i64") scalar (sc.Int el.I64) refl (λ line column. refl)
scalar_again sc.Index = word_piece (codes "index") scalar sc.Index refl (λ line column. refl)

-- ---- integers

pub negative_range : (n : ℕ) (z : ℤ) → z ≡ neg_ℤ (pos n) → n ≤ 9223372036854775808 → InRange z
negative_range zero z e h = Positive 0 e (omega arith)
negative_range (suc n) z e h = Negative n e h

pub signed_told : (z : ℤ) (f : List Tok) → Signed f z → InRange z
signed_told z f (inl h) = let i = negative_given h.second.token z h.second.accepted in negative_range i.magnitude z i.is i.small
signed_told z f (inr h) = let i = integer_given h.token z h.accepted in Positive i.magnitude i.is i.small

pub integer_again : (n : ℕ) → n ≤ 9223372036854775807 → Prints true (decimal n) (One integer) (pos n)
integer_again n h = number_piece n integer (pos n) (omega (arith, h)) (λ line column. ap (λ b. if b then Some (pos n) else None) (is_within n 9223372036854775807 h))

negative_again : (n : ℕ) → suc n ≤ 9223372036854775808 → Prints true (decimal (suc n)) (One negative) (negsuc n)
negative_again n h = number_piece (suc n) negative (negsuc n) (omega (arith, h)) (λ line column. ap (λ b. if b then Some (negsuc n) else None) (is_within (suc n) 9223372036854775808 h))

pub signed_again : (z : ℤ) → InRange z → Prints true (signed_decimal z) Signed z
signed_again z (Positive n e h) = subst (λ x. Prints true (signed_decimal x) Signed x) (sym e) (in_right (integer_again n h))
signed_again z (Negative n e h) = subst (λ x. Prints true (signed_decimal x) Signed x) (sym e) (in_left (minus_then (negative_again n h) (digits_no_arrow (decimal (suc n)) (decimal_digits (suc n) (omega (arith, h))))))
