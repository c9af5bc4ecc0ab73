-- The form of a token that bytes begin with, computed: every front that has a form is reached by it,
-- and it has its form itself.
use Rattle.affine_lex.proofs.Tests.{true_no, and_left, and_right, eq_true}
use Rattle.std.proofs.Common.{◌≡◌, ℕ, zero, suc, ◌+◌, ◌-◌, ◌*◌, ◌^◌, ◌≤◌, ◌<◌, ◌==◌, ◌&&◌, min, nat_le, Bool, true, false, cond, List, [], ◌∷◌, ◌++◌, length, take, drop, slice_index, Option, Some, None, ◌⊎◌, inl, inr, refl, sym, ap, ◌∙◌, subst, append_assoc, length-append, arith}
use Rattle.std.proofs.lemmas.Bool.Decides.{nat_tests}
use Rattle.std.proofs.lemmas.Grind.{take_at_read}
use Rattle.std.proofs.Math.Seq.{take-append_seam}
use Rattle.affine_lex.proofs.Runs.{run_all, run_suc, run_longest, run_closed, run_within, word_first_word, id_first_id, digit_no_word, digit_no_id}
use Rattle.std.specs.Str.Parse.{digits_value, digits_value_after}
use Rattle.std.specs.List.{fold}
use Rattle.std.specs.Char.{digit_value}
use Rattle.affine_lex.specs.Classes.{is_in, is_sign, AllIn}
use Rattle.affine_lex.specs.Scan.{run, token, number, name, mark, capped_value, too_large, Lexeme}
use Rattle.affine_lex.specs.Tokens.{IsSpelt, IsDigits, IsId, IsName, HasForm, kind_of}
use Rattle.affine_lex.specs.declared.class.Class.{Class}
use Rattle.affine_lex.specs.declared.class.Class.TheVariants as class
use Rattle.affine_lex.specs.declared.token.Kind.{Kind}
use Rattle.affine_lex.specs.declared.token.Kind.TheVariants.{Word, Value, Alias, Symbol, Int, Punct, Arrow, GreaterEqual, LessEqual, Equal, Sizes, Bad, End}

abbrev pub Shape : Type 0
Shape = Option (Kind × ℕ)

abbrev pub number_shape : Bool → List ℕ → Kind × ℕ
number_shape sizes bytes = cond (sizes && slice_index bytes (run class.Digit bytes) == 120) (Sizes, run class.Digit bytes + 1) (Int (digits_value 10 (take (run class.Digit bytes) bytes)), run class.Digit bytes)

abbrev pub name_shape : Kind → Bool → List ℕ → Shape
name_shape kind digits bytes = cond (is_in class.IdFirst (slice_index bytes 1)) (Some (kind, 1 + run class.Id (drop 1 bytes))) (cond (digits && is_in class.Digit (slice_index bytes 1)) (Some (kind, 1 + run class.Digit (drop 1 bytes))) None)

abbrev pub mark_shape : ℕ → ℕ → Shape
mark_shape b next = cond (b == 45 && next == 62) (Some (Arrow, 2)) (cond (b == 62 && next == 61) (Some (GreaterEqual, 2)) (cond (b == 60 && next == 61) (Some (LessEqual, 2)) (cond (b == 61 && next == 61) (Some (Equal, 2)) (cond (is_sign b) (Some (Punct b, 1)) None))))

abbrev pub shape : Bool → List ℕ → Shape
shape sizes bytes = cond (is_in class.WordFirst (slice_index bytes 0)) (Some (Word, run class.Word bytes)) (cond (is_in class.Digit (slice_index bytes 0)) (Some (number_shape sizes bytes)) (cond (slice_index bytes 0 == 37) (name_shape Value true bytes) (cond (slice_index bytes 0 == 35) (name_shape Alias false bytes) (cond (slice_index bytes 0 == 64) (name_shape Symbol false bytes) (mark_shape (slice_index bytes 0) (slice_index bytes 1))))))

-- the token that a form makes
abbrev pub settled : Shape → Lexeme
settled None = (Bad, 1)
settled (Some p) = (kind_of p.0, p.1)

settled_cond : (b : Bool) (x y : Shape) → settled (cond b x y) ≡ cond b (settled x) (settled y)
settled_cond true x y = refl
settled_cond false x y = refl

-- ---- the value of digits

capped_after : (n : ℕ) (ds : List ℕ) → AllIn class.Digit ds → fold (λ m d. min (10 * m + (d - 48)) too_large) (min n too_large) ds ≡ min (digits_value_after 10 n ds) too_large
capped_after n [] a = refl
capped_after n (d ∷ ds) a = ap (λ m. fold (λ m d. min (10 * m + (d - 48)) too_large) m ds) one ∙ capped_after (n * 10 + digit_value d) ds a.1
  where
    one : min (10 * min n too_large + (d - 48)) too_large ≡ min (n * 10 + digit_value d) too_large
    one = grind (arith, nat_tests, a.0)

pub capped : (ds : List ℕ) → AllIn class.Digit ds → capped_value ds ≡ min (digits_value 10 ds) too_large
unfolding capped_value
capped ds a = capped_after 0 ds a

kept : (m n : ℕ) (v : Bool) → nat_le m (2 ^ 63) ≡ v → ◌≡◌ {A = Lexeme} (cond (nat_le (min m too_large) (2 ^ 63)) (Int (min m too_large), n) (Bad, n)) (kind_of (Int m), n)
kept m n true h = let e : min m too_large ≡ m = grind (arith, nat_tests) in rw (e, h) refl
kept m n false h = let e : min m too_large ≡ too_large = grind (arith, nat_tests) in rw (e, h) refl

number_settled : (sizes : Bool) (bytes : List ℕ) → number sizes bytes ≡ settled (Some (number_shape sizes bytes))
unfolding number
number_settled sizes bytes = by_test (sizes && slice_index bytes (run class.Digit bytes) == 120)
  where
    plain : ◌≡◌ {A = Lexeme} (cond (nat_le (capped_value (take (run class.Digit bytes) bytes)) (2 ^ 63)) (Int (capped_value (take (run class.Digit bytes) bytes)), run class.Digit bytes) (Bad, run class.Digit bytes)) (kind_of (Int (digits_value 10 (take (run class.Digit bytes) bytes))), run class.Digit bytes)
    plain = rw (capped (take (run class.Digit bytes) bytes) (run_all class.Digit bytes)) (kept (digits_value 10 (take (run class.Digit bytes) bytes)) (run class.Digit bytes) _ refl)

    by_test : (v : Bool) → ◌≡◌ {A = Lexeme} (cond v (Sizes, run class.Digit bytes + 1) (cond (nat_le (capped_value (take (run class.Digit bytes) bytes)) (2 ^ 63)) (Int (capped_value (take (run class.Digit bytes) bytes)), run class.Digit bytes) (Bad, run class.Digit bytes))) (settled (Some (cond v (Sizes, run class.Digit bytes + 1) (Int (digits_value 10 (take (run class.Digit bytes) bytes)), run class.Digit bytes))))
    by_test true = refl
    by_test false = plain

pub token_settled : (sizes : Bool) (bytes : List ℕ) → token sizes bytes ≡ settled (shape sizes bytes)
unfolding token name mark
token_settled sizes bytes = rw number_settled (sym (simp settled_cond))

-- ---- a front that has a form is reached

-- the shape is no shorter than l, and of kind f where it has that length
abbrev pub Reaches : Shape → Kind → ℕ → Type 0
Reaches None f l = ⊥
Reaches (Some p) f l = (l ≤ p.1) × (l ≡ p.1 → p.0 ≡ f)

cond_yes : (t : Bool) (x y : Shape) (f : Kind) (l : ℕ) → t ≡ true → Reaches x f l → Reaches (cond t x y) f l
cond_yes true x y f l h r = r
cond_yes false x y f l h r = absurd (true_no (sym h))

cond_no : (t : Bool) (x y : Shape) (f : Kind) (l : ℕ) → t ≡ false → Reaches y f l → Reaches (cond t x y) f l
cond_no true x y f l h r = absurd (true_no h)
cond_no false x y f l h r = r

name_reached : (kind : Kind) (digits : Bool) (sign : ℕ) (name r : List ℕ) → IsId name ⊎ ((digits ≡ true) × IsDigits name) → Reaches (name_shape kind digits (sign ∷ name ++ r)) kind (length (sign ∷ name))
name_reached kind digits sign [] r (inl h) = absurd h
name_reached kind digits sign [] r (inr h) = absurd h.1
name_reached kind digits sign (b ∷ w) r (inl h) = rw h.0 (omega (arith, run_longest class.Id (b ∷ w) r (id_first_id b h.0, h.1)), λ e. refl)
name_reached kind digits sign (b ∷ w) r (inr h) = cond_no (is_in class.IdFirst b) _ _ kind _ (digit_no_id b h.1.0) (cond_yes (digits && is_in class.Digit b) _ _ kind _ (rw (h.0, h.1.0) refl) (omega (arith, run_longest class.Digit (b ∷ w) r h.1), λ e. refl))

number_reached : (sizes : Bool) (v : ℕ) (x r : List ℕ) → AllIn class.Digit x → v ≡ digits_value 10 x → Reaches (Some (number_shape sizes (x ++ r))) (Int v) (length x)
number_reached sizes v x r a e = by_test (sizes && slice_index (x ++ r) (run class.Digit (x ++ r)) == 120)
  where
    le : length x ≤ run class.Digit (x ++ r)
    le = run_longest class.Digit x r a

    same : length x ≡ run class.Digit (x ++ r) → Int (digits_value 10 (take (run class.Digit (x ++ r)) (x ++ r))) ≡ Int v
    same h = ap (λ n. Int (digits_value 10 (take n (x ++ r)))) (sym h) ∙ ap (λ l. Int (digits_value 10 l)) (take-append_seam x r) ∙ ap Int (sym e)

    by_test : (t : Bool) → Reaches (Some (cond t (Sizes, run class.Digit (x ++ r) + 1) (Int (digits_value 10 (take (run class.Digit (x ++ r)) (x ++ r))), run class.Digit (x ++ r)))) (Int v) (length x)
    by_test true = (omega (arith, le), λ h. absurd (omega (arith, le, h)))
    by_test false = (le, same)

two_reached : (t : Bool) (k f : Kind) (s : Shape) → Reaches s f 1 → Reaches (cond t (Some (k, 2)) s) f 1
two_reached true k f s h = (omega arith, λ e. absurd (omega (arith, e)))
two_reached false k f s h = h

-- the byte behind a front
pub at_seam : (w : List ℕ) (b : ℕ) (r : List ℕ) → slice_index (w ++ b ∷ r) (length w) ≡ b
at_seam [] b r = refl
at_seam (c ∷ w) b r = at_seam w b r

sizes_reached : (sizes : Bool) (b : ℕ) (w r : List ℕ) → sizes ≡ true → AllIn class.Digit (b ∷ w) → Reaches (shape sizes (b ∷ w ++ 120 ∷ r)) Sizes (length (b ∷ w) + 1)
sizes_reached sizes b w r s a = cond_no (is_in class.WordFirst b) _ _ Sizes _ (digit_no_word b a.0) (cond_yes (is_in class.Digit b) _ _ Sizes _ a.0 (by_length (run class.Digit (b ∷ w ++ 120 ∷ r)) (run_closed class.Digit (b ∷ w) (120 ∷ r) a refl)))
  where
    by_length : (n : ℕ) → n ≡ length (b ∷ w) → Reaches (Some (cond (sizes && slice_index (b ∷ w ++ 120 ∷ r) n == 120) (Sizes, n + 1) (Int (digits_value 10 (take n (b ∷ w ++ 120 ∷ r))), n))) Sizes (length (b ∷ w) + 1)
    by_length n e = rw (e, at_seam (b ∷ w) 120 r, s) (omega arith, λ e. refl)

-- a sign begins none of a word, digits and a name
pub sign_plain : (b : ℕ) → is_sign b ≡ true → (is_in class.WordFirst b ≡ false) × (is_in class.Digit b ≡ false) × ((b == 37) ≡ false) × ((b == 35) ≡ false) × ((b == 64) ≡ false)
sign_plain b h = (grind (arith, nat_tests), grind (arith, nat_tests), grind (arith, nat_tests), grind (arith, nat_tests), grind (arith, nat_tests))

sign_reached : (sizes : Bool) (b : ℕ) (r : List ℕ) → is_sign b ≡ true → Reaches (shape sizes (b ∷ r)) (Punct b) 1
sign_reached sizes b r h =
    let p = sign_plain b h in
    let last : Reaches (cond (is_sign b) (Some (Punct b, 1)) None) (Punct b) 1 = rw h (omega arith, λ e. refl) in
    rw (p.0, p.1, p.2, p.3, p.4) (two_reached (b == 45 && slice_index (b ∷ r) 1 == 62) Arrow _ _ (two_reached (b == 62 && slice_index (b ∷ r) 1 == 61) GreaterEqual _ _ (two_reached (b == 60 && slice_index (b ∷ r) 1 == 61) LessEqual _ _ (two_reached (b == 61 && slice_index (b ∷ r) 1 == 61) Equal _ _ last))))

pub form_reached : (sizes : Bool) (f : Kind) (x r : List ℕ) → HasForm sizes f x → Reaches (shape sizes (x ++ r)) f (length x)
form_reached sizes Word [] r h = absurd h
form_reached sizes Word (b ∷ w) r h = rw h.0 (run_longest class.Word (b ∷ w) r (word_first_word b h.0, h.1), λ e. refl)
form_reached sizes Value [] r h = absurd h
form_reached sizes Value (c ∷ id) r h = subst (λ s. Reaches (shape sizes (s ∷ id ++ r)) Value (length (s ∷ id))) (sym h.0) (name_reached Value true 37 id r h.1)
form_reached sizes Alias [] r h = absurd h
form_reached sizes Alias (c ∷ id) r h = subst (λ s. Reaches (shape sizes (s ∷ id ++ r)) Alias (length (s ∷ id))) (sym h.0) (name_reached Alias false 35 id r h.1)
form_reached sizes Symbol [] r h = absurd h
form_reached sizes Symbol (c ∷ id) r h = subst (λ s. Reaches (shape sizes (s ∷ id ++ r)) Symbol (length (s ∷ id))) (sym h.0) (name_reached Symbol false 64 id r h.1)
form_reached sizes (Int v) [] r h = absurd h.0
form_reached sizes (Int v) (b ∷ w) r h = cond_no (is_in class.WordFirst b) _ _ (Int v) _ (digit_no_word b h.0.0) (cond_yes (is_in class.Digit b) _ _ (Int v) _ h.0.0 (number_reached sizes v (b ∷ w) r h.0 h.1))
form_reached sizes (Punct b) x r h = subst (λ l. Reaches (shape sizes (l ++ r)) (Punct b) (length l)) (sym h.0) (sign_reached sizes b r h.1)
form_reached sizes Arrow x r h = subst (λ l. Reaches (shape sizes (l ++ r)) Arrow (length l)) (sym h) (omega arith, λ e. refl)
form_reached sizes GreaterEqual x r h = subst (λ l. Reaches (shape sizes (l ++ r)) GreaterEqual (length l)) (sym h) (omega arith, λ e. refl)
form_reached sizes LessEqual x r h = subst (λ l. Reaches (shape sizes (l ++ r)) LessEqual (length l)) (sym h) (omega arith, λ e. refl)
form_reached sizes Equal x r h = subst (λ l. Reaches (shape sizes (l ++ r)) Equal (length l)) (sym h) (omega arith, λ e. refl)
form_reached sizes Sizes x r ([], h) = absurd h.2
form_reached sizes Sizes x r ((b ∷ w), h) =
    let one : Reaches (shape sizes (b ∷ w ++ 120 ∷ r)) Sizes (length (b ∷ w ++ 120 ∷ [])) = subst (λ n. Reaches (shape sizes (b ∷ w ++ 120 ∷ r)) Sizes n) (sym (length-append (b ∷ w) (120 ∷ []))) (sizes_reached sizes b w r h.0 h.2) in
    let whole : Reaches (shape sizes ((b ∷ w ++ 120 ∷ []) ++ r)) Sizes (length (b ∷ w ++ 120 ∷ [])) = subst (λ l. Reaches (shape sizes l) Sizes (length (b ∷ w ++ 120 ∷ []))) (sym (append_assoc (b ∷ w) (120 ∷ []) r)) one in
    subst (λ l. Reaches (shape sizes (l ++ r)) Sizes (length l)) (sym h.1) whole
form_reached sizes Bad x r h = absurd h
form_reached sizes End x r h = absurd h

-- ---- the shape has its form

abbrev pub IsFormed : Bool → List ℕ → Shape → Type 0
IsFormed sizes bytes None = Unit {0}
IsFormed sizes bytes (Some p) = HasForm sizes p.0 (take p.1 bytes) × (p.1 ≤ length bytes)

pick : (sizes : Bool) (bytes : List ℕ) (t : Bool) (x y : Shape) → (t ≡ true → IsFormed sizes bytes x) → (t ≡ false → IsFormed sizes bytes y) → IsFormed sizes bytes (cond t x y)
pick sizes bytes true x y if_true if_false = if_true refl
pick sizes bytes false x y if_true if_false = if_false refl

-- a run that begins with its first byte
spelt : (first more : Class) (b : ℕ) (bytes : List ℕ) → is_in first b ≡ true → is_in more b ≡ true → IsSpelt first more (take (run more (b ∷ bytes)) (b ∷ bytes))
spelt first more b bytes h k = subst (λ n. IsSpelt first more (take n (b ∷ bytes))) (sym (run_suc more b bytes k)) (h, run_all more bytes)

-- the place of a byte that isn't 0 is in the bytes
at_within : (bytes : List ℕ) (n b : ℕ) → slice_index bytes n ≡ suc b → n < length bytes
at_within [] n b h = absurd (omega (arith, h))
at_within (c ∷ bytes) zero b h = omega arith
at_within (c ∷ bytes) (suc n) b h = omega (arith, at_within bytes n b h)

number_formed : (sizes : Bool) (b : ℕ) (bytes : List ℕ) → is_in class.Digit b ≡ true → IsFormed sizes (b ∷ bytes) (Some (number_shape sizes (b ∷ bytes)))
number_formed sizes b bytes h = by_test (sizes && slice_index (b ∷ bytes) (run class.Digit (b ∷ bytes)) == 120) refl
  where
    digits : IsDigits (take (run class.Digit (b ∷ bytes)) (b ∷ bytes))
    digits = spelt class.Digit class.Digit b bytes h h

    by_test : (t : Bool) → (sizes && slice_index (b ∷ bytes) (run class.Digit (b ∷ bytes)) == 120) ≡ t → IsFormed sizes (b ∷ bytes) (Some (cond t (Sizes, run class.Digit (b ∷ bytes) + 1) (Int (digits_value 10 (take (run class.Digit (b ∷ bytes)) (b ∷ bytes))), run class.Digit (b ∷ bytes))))
    by_test true e =
        let x : slice_index (b ∷ bytes) (run class.Digit (b ∷ bytes)) ≡ 120 = eq_true _ 120 (and_right sizes _ e) in
        let l : run class.Digit (b ∷ bytes) < length (b ∷ bytes) = at_within (b ∷ bytes) _ 119 x in
        let t : take (run class.Digit (b ∷ bytes) + 1) (b ∷ bytes) ≡ take (run class.Digit (b ∷ bytes)) (b ∷ bytes) ++ slice_index (b ∷ bytes) (run class.Digit (b ∷ bytes)) ∷ [] = (take_at_read (b ∷ bytes) (run class.Digit (b ∷ bytes)) 0 l).1 in
        ((take (run class.Digit (b ∷ bytes)) (b ∷ bytes), (and_left sizes _ e, t ∙ ap (λ c. take (run class.Digit (b ∷ bytes)) (b ∷ bytes) ++ c ∷ []) x, digits)), omega (arith, l))
    by_test false e = ((digits, refl), run_within class.Digit (b ∷ bytes))

name_formed : (sizes : Bool) (kind : Kind) (sign : ℕ) (digits : Bool) → ((x : List ℕ) → IsName sign digits x → HasForm sizes kind x) → (b : ℕ) (bytes : List ℕ) → b ≡ sign → IsFormed sizes (b ∷ bytes) (name_shape kind digits (b ∷ bytes))
name_formed sizes kind sign digits form b [] e = pick sizes (b ∷ []) (digits && is_in class.Digit 0) (Some (kind, 1 + run class.Digit [])) None (λ h. absurd (true_no (sym (and_right digits (is_in class.Digit 0) h)))) (λ _. tt)
name_formed sizes kind sign digits form b (c ∷ bytes) e =
    pick sizes (b ∷ c ∷ bytes) (is_in class.IdFirst c) _ _ (λ h. of_run class.Id (inl (spelt class.IdFirst class.Id c bytes h (id_first_id c h))))
    (λ _. pick sizes (b ∷ c ∷ bytes) (digits && is_in class.Digit c) _ _ (λ h. of_run class.Digit (inr (and_left digits (is_in class.Digit c) h, spelt class.Digit class.Digit c bytes (and_right digits (is_in class.Digit c) h) (and_right digits (is_in class.Digit c) h)))) (λ _. tt))
  where
    of_run : (k : Class) → IsId (take (run k (c ∷ bytes)) (c ∷ bytes)) ⊎ ((digits ≡ true) × IsDigits (take (run k (c ∷ bytes)) (c ∷ bytes))) → IsFormed sizes (b ∷ c ∷ bytes) (Some (kind, 1 + run k (c ∷ bytes)))
    of_run k h =
        let s : suc (run k (c ∷ bytes)) ≡ 1 + run k (c ∷ bytes) = omega arith in
        (form _ (subst (λ n. IsName sign digits (take n (b ∷ c ∷ bytes))) s (e, h)), omega (arith, run_within k (c ∷ bytes)))

two_formed : (sizes : Bool) (kind : Kind) (p q : ℕ) → ((x : List ℕ) → x ≡ p ∷ suc q ∷ [] → HasForm sizes kind x) → (b : ℕ) (bytes : List ℕ) → (b == p && slice_index (b ∷ bytes) 1 == suc q) ≡ true → IsFormed sizes (b ∷ bytes) (Some (kind, 2))
two_formed sizes kind p q form b [] h = absurd (omega (arith, eq_true 0 (suc q) (and_right (b == p) (0 == suc q) h)))
two_formed sizes kind p q form b (c ∷ bytes) h =
    let first : b ≡ p = eq_true b p (and_left (b == p) (c == suc q) h) in
    let second : c ≡ suc q = eq_true c (suc q) (and_right (b == p) (c == suc q) h) in
    (form _ (ap (λ n. n ∷ c ∷ []) first ∙ ap (λ n. p ∷ n ∷ []) second), omega arith)

mark_formed : (sizes : Bool) (b : ℕ) (bytes : List ℕ) → IsFormed sizes (b ∷ bytes) (mark_shape b (slice_index (b ∷ bytes) 1))
mark_formed sizes b bytes =
    pick sizes (b ∷ bytes) (b == 45 && slice_index (b ∷ bytes) 1 == 62) _ _ (two_formed sizes Arrow 45 61 (λ x h. h) b bytes)
    (λ _. pick sizes (b ∷ bytes) (b == 62 && slice_index (b ∷ bytes) 1 == 61) _ _ (two_formed sizes GreaterEqual 62 60 (λ x h. h) b bytes)
    (λ _. pick sizes (b ∷ bytes) (b == 60 && slice_index (b ∷ bytes) 1 == 61) _ _ (two_formed sizes LessEqual 60 60 (λ x h. h) b bytes)
    (λ _. pick sizes (b ∷ bytes) (b == 61 && slice_index (b ∷ bytes) 1 == 61) _ _ (two_formed sizes Equal 61 60 (λ x h. h) b bytes)
    (λ _. pick sizes (b ∷ bytes) (is_sign b) _ _ (λ h. ((refl, h), omega arith)) (λ _. tt)))))

pub shape_formed : (sizes : Bool) (bytes : List ℕ) → IsFormed sizes bytes (shape sizes bytes)
shape_formed sizes [] = tt
shape_formed sizes (b ∷ bytes) =
    pick sizes (b ∷ bytes) (is_in class.WordFirst b) _ _ (λ h. (spelt class.WordFirst class.Word b bytes h (word_first_word b h), run_within class.Word (b ∷ bytes)))
    (λ _. pick sizes (b ∷ bytes) (is_in class.Digit b) _ _ (number_formed sizes b bytes)
    (λ _. pick sizes (b ∷ bytes) (b == 37) _ _ (λ h. name_formed sizes Value 37 true (λ x k. k) b bytes (eq_true b 37 h))
    (λ _. pick sizes (b ∷ bytes) (b == 35) _ _ (λ h. name_formed sizes Alias 35 false (λ x k. k) b bytes (eq_true b 35 h))
    (λ _. pick sizes (b ∷ bytes) (b == 64) _ _ (λ h. name_formed sizes Symbol 64 false (λ x k. k) b bytes (eq_true b 64 h))
    (λ _. mark_formed sizes b bytes)))))
