-- What the tokens of a given text tell: names have the form of names, and numbers are in their ranges.
use Rattle.std.proofs.Common.{◌≡◌, ℕ, ◌&&◌, ◌≤◌, ◌<◌, ◌^◌, ℤ, pos, neg_ℤ, nat_le, Bool, true, false, if◌then◌else◌, List, [], ◌∷◌, ◌++◌, length, drop, Option, Some, None, refl, sym, ap, ◌∙◌, subst, inl, inr, length-append, arith}
use Rattle.std.proofs.lemmas.Bool.Decides.{nat_tests}
use Rattle.std.specs.Char.{is_ascii, is_ascii_digit}
use Rattle.readers.specs.Languages.{One}
use Rattle.readers.specs.Limits.{limited}
use Rattle.affine_lex.specs.Tokens.{IsId, IsDigits, IsName}
use Rattle.affine_lex.specs.declared.token.Kind.{Kind}
use Rattle.affine_lex.specs.declared.token.Kind.TheVariants as k
use Rattle.affine_lex.proofs.Tests.{true_no}
use Rattle.affine_ast.specs.declared.name.Name.{Name}
use Rattle.affine_ast.specs.Spelling.{name_text}
use Rattle.affine_grammar.specs.Token.{Tok, Class, Sign, Keyword, ValueName, AliasName, FunctionName, Number, Size, ArrowSign, Relation, Other, class_of, class, of_value, of_keyword, of_alias, of_function, of_number, of_size, value, function_name, named, string_of, all_ascii, integer, negative, positive, negated, space, within}
use Rattle.affine_grammar.proofs.Names.{id_is_ascii, string_is}
pub use Rattle.printed_texts.specs.Writable.{IsWritten, IsPositive}
use Rattle.printed_texts.proofs.Pieces.{Prints}
use Rattle.printed_texts.proofs.Marks.{IsValueName, name_piece, function_piece, within_is}

-- ---- tokens of a given text

-- the names of values and functions have their form
abbrev pub HasNameForm : Kind → List ℕ → Type 0
HasNameForm k.Value text = IsName 37 true text
HasNameForm k.Symbol text = IsName 64 false text
HasNameForm _ text = Unit {0}

-- a token of a given text
pub record IsGiven (t : Tok) : Type 0 where
  pub counted : t.counted ≡ true
  pub form : HasNameForm t.token.kind t.token.text

abbrev pub AllGiven : List Tok → Type 0
AllGiven [] = Unit {0}
AllGiven (t ∷ ts) = IsGiven t × AllGiven ts

-- tokens of a given text, which are fewer than 2 ^ 64
pub record Given (f : List Tok) : Type 0 where
  pub all : AllGiven f
  pub few : length f < 2 ^ 64

all_left : (l r : List Tok) → AllGiven (l ++ r) → AllGiven l
all_left [] r g = tt
all_left (t ∷ l) r g = (g.0, all_left l r g.1)

all_right : (l r : List Tok) → AllGiven (l ++ r) → AllGiven r
all_right [] r g = g
all_right (t ∷ l) r g = all_right l r g.1

pub given_left : (f l r : List Tok) → f ≡ l ++ r → Given f → Given l
given_left f l r e g = record { all = all_left l r (subst AllGiven e g.all); few = omega (arith, g.few, ap (λ (x : List Tok). length x) e, length-append l r) }

pub given_right : (f l r : List Tok) → f ≡ l ++ r → Given f → Given r
given_right f l r e g = record { all = all_right l r (subst AllGiven e g.all); few = omega (arith, g.few, ap (λ (x : List Tok). length x) e, length-append l r) }

pub given_one : (f : List Tok) (t : Tok) → f ≡ t ∷ [] → Given f → IsGiven t
given_one f t e g = (subst AllGiven e g.all).0

-- ---- classes

module _ {A : Type 0} (f : List ℕ → Option A) (x : A) where
  pub of_value_some : (c : Class) → of_value f c ≡ Some x → (w : List ℕ) × ((c ≡ ValueName w) × (f w ≡ Some x))
  of_value_some (ValueName w) h = (w, (refl, h))
  of_value_some (Sign b) h = absurd cc
  of_value_some (Keyword w) h = absurd cc
  of_value_some (AliasName w) h = absurd cc
  of_value_some (FunctionName w) h = absurd cc
  of_value_some (Number n) h = absurd cc
  of_value_some (Size w) h = absurd cc
  of_value_some ArrowSign h = absurd cc
  of_value_some (Relation r) h = absurd cc
  of_value_some Other h = absurd cc

  pub of_keyword_some : (c : Class) → of_keyword f c ≡ Some x → (w : List ℕ) × ((c ≡ Keyword w) × (f w ≡ Some x))
  of_keyword_some (Keyword w) h = (w, (refl, h))
  of_keyword_some (Sign b) h = absurd cc
  of_keyword_some (ValueName w) h = absurd cc
  of_keyword_some (AliasName w) h = absurd cc
  of_keyword_some (FunctionName w) h = absurd cc
  of_keyword_some (Number n) h = absurd cc
  of_keyword_some (Size w) h = absurd cc
  of_keyword_some ArrowSign h = absurd cc
  of_keyword_some (Relation r) h = absurd cc
  of_keyword_some Other h = absurd cc

  pub of_alias_some : (c : Class) → of_alias f c ≡ Some x → (w : List ℕ) × ((c ≡ AliasName w) × (f w ≡ Some x))
  of_alias_some (AliasName w) h = (w, (refl, h))
  of_alias_some (Sign b) h = absurd cc
  of_alias_some (Keyword w) h = absurd cc
  of_alias_some (ValueName w) h = absurd cc
  of_alias_some (FunctionName w) h = absurd cc
  of_alias_some (Number n) h = absurd cc
  of_alias_some (Size w) h = absurd cc
  of_alias_some ArrowSign h = absurd cc
  of_alias_some (Relation r) h = absurd cc
  of_alias_some Other h = absurd cc

  pub of_function_some : (c : Class) → of_function f c ≡ Some x → (w : List ℕ) × ((c ≡ FunctionName w) × (f w ≡ Some x))
  of_function_some (FunctionName w) h = (w, (refl, h))
  of_function_some (Sign b) h = absurd cc
  of_function_some (Keyword w) h = absurd cc
  of_function_some (ValueName w) h = absurd cc
  of_function_some (AliasName w) h = absurd cc
  of_function_some (Number n) h = absurd cc
  of_function_some (Size w) h = absurd cc
  of_function_some ArrowSign h = absurd cc
  of_function_some (Relation r) h = absurd cc
  of_function_some Other h = absurd cc

  pub of_size_some : (c : Class) → of_size f c ≡ Some x → (w : List ℕ) × ((c ≡ Size w) × (f w ≡ Some x))
  of_size_some (Size w) h = (w, (refl, h))
  of_size_some (Sign b) h = absurd cc
  of_size_some (Keyword w) h = absurd cc
  of_size_some (ValueName w) h = absurd cc
  of_size_some (AliasName w) h = absurd cc
  of_size_some (FunctionName w) h = absurd cc
  of_size_some (Number n) h = absurd cc
  of_size_some ArrowSign h = absurd cc
  of_size_some (Relation r) h = absurd cc
  of_size_some Other h = absurd cc

pub of_number_some : {A : Type 0} (f : ℕ → Option A) (x : A) (c : Class) → of_number f c ≡ Some x → (n : ℕ) × ((c ≡ Number n) × (f n ≡ Some x))
of_number_some f x (Number n) h = (n, (refl, h))
of_number_some f x (Sign b) h = absurd cc
of_number_some f x (Keyword w) h = absurd cc
of_number_some f x (ValueName w) h = absurd cc
of_number_some f x (AliasName w) h = absurd cc
of_number_some f x (FunctionName w) h = absurd cc
of_number_some f x (Size w) h = absurd cc
of_number_some f x ArrowSign h = absurd cc
of_number_some f x (Relation r) h = absurd cc
of_number_some f x Other h = absurd cc

-- ---- names

named_form : (sign : ℕ) (digits : Bool) (text : List ℕ) → IsName sign digits text → IsValueName (drop 1 text)
named_form sign digits [] h = absurd h
named_form sign digits (b ∷ name) (e, inl i) = inl i
named_form sign digits (b ∷ name) (e, inr d) = inr d.1

function_form : (sign : ℕ) (text : List ℕ) → IsName sign false text → IsId (drop 1 text)
function_form sign [] h = absurd h
function_form sign (b ∷ name) (e, inl i) = i
function_form sign (b ∷ name) (e, inr d) = absurd (true_no (sym d.0))

value_form : (kind : Kind) (text w : List ℕ) → HasNameForm kind text → class_of kind text ≡ ValueName w → IsValueName w
value_form k.Value text w h e = let q : drop 1 text ≡ w = cc in subst IsValueName q (named_form 37 true text h)
value_form k.Word text w h e = absurd cc
value_form k.Alias text w h e = absurd cc
value_form k.Symbol text w h e = absurd cc
value_form (k.Int n) text w h e = absurd cc
value_form (k.Punct b) text w h e = absurd cc
value_form k.Arrow text w h e = absurd cc
value_form k.GreaterEqual text w h e = absurd cc
value_form k.LessEqual text w h e = absurd cc
value_form k.Equal text w h e = absurd cc
value_form k.Sizes text w h e = absurd cc
value_form k.Bad text w h e = absurd cc
value_form k.End text w h e = absurd cc

symbol_form : (kind : Kind) (text w : List ℕ) → HasNameForm kind text → class_of kind text ≡ FunctionName w → IsId w
symbol_form k.Symbol text w h e = let q : drop 1 text ≡ w = cc in subst IsId q (function_form 64 text h)
symbol_form k.Word text w h e = absurd cc
symbol_form k.Alias text w h e = absurd cc
symbol_form k.Value text w h e = absurd cc
symbol_form (k.Int n) text w h e = absurd cc
symbol_form (k.Punct b) text w h e = absurd cc
symbol_form k.Arrow text w h e = absurd cc
symbol_form k.GreaterEqual text w h e = absurd cc
symbol_form k.LessEqual text w h e = absurd cc
symbol_form k.Equal text w h e = absurd cc
symbol_form k.Sizes text w h e = absurd cc
symbol_form k.Bad text w h e = absurd cc
symbol_form k.End text w h e = absurd cc

digit_ascii : (b : ℕ) → is_ascii_digit b ≡ true → is_ascii b ≡ true
digit_ascii b h = grind (arith, nat_tests)

digits_ascii : (b : ℕ) (w : List ℕ) → IsDigits (b ∷ w) → all_ascii (b ∷ w) ≡ true
digits_ascii b [] h = ap (λ v. v && true) (digit_ascii b h.0)
digits_ascii b (c ∷ w) h = ap (λ v. v && all_ascii (c ∷ w)) (digit_ascii b h.0) ∙ digits_ascii c w h.1

pub name_ascii : (w : List ℕ) → IsValueName w → all_ascii w ≡ true
name_ascii w (inl i) = id_is_ascii w i
name_ascii [] (inr d) = absurd d
name_ascii (b ∷ w) (inr d) = digits_ascii b w d

pub named_is : (n : Name) → IsWritten n → named n.text ≡ n
named_is n h =
    let t : string_of n.text ≡ n.text = string_is n.text (name_ascii n.text h.form) in
    let e : ◌≡◌ {A = Name} (record { text = string_of n.text; made = false }) (record { text = n.text; made = n.made }) = cc (t, h.made) in
    e

pub named_written : (w : List ℕ) → IsValueName w → IsWritten (named w)
named_written w h = record { made = refl; form = subst IsValueName (sym (string_is w (name_ascii w h))) h }

pub value_name : (t : Tok) (w : List ℕ) → IsGiven t → class t ≡ ValueName w → IsValueName w
value_name t w g e = value_form t.token.kind t.token.text w g.form e

some_one : {A : Type 0} (x y : A) → Some x ≡ Some y → x ≡ y
some_one x y h = cc

pub value_given : (t : Tok) (n : Name) → IsGiven t → value t ≡ Some n → IsWritten n
value_given t n g h =
    let i = of_value_some (λ w. Some (named w)) n (class t) h in
    subst IsWritten (some_one (named i.0) n i.1.1) (named_written i.0 (value_name t i.0 g i.1.0))

pub value_prints : (n : Name) → IsWritten n → Prints true (name_text n) (One value) n
unfolding name_text
value_prints n h = name_piece n.text value n h.form (λ line column. ap (λ m. Some m) (named_is n h))

pub function_given : (t : Tok) (w : List ℕ) → IsGiven t → function_name t ≡ Some w → IsId w
function_given t w g h =
    let i = of_function_some (λ w. Some (string_of w)) w (class t) h in
    let d : IsId i.0 = symbol_form t.token.kind t.token.text i.0 g.form i.1.0 in
    subst IsId (sym (string_is i.0 (id_is_ascii i.0 d)) ∙ some_one (string_of i.0) w i.1.1) d

pub function_prints : (w : List ℕ) → IsId w → Prints true (64 ∷ w) (One function_name) w
function_prints w i = function_piece w function_name w i (λ line column. ap (λ m. Some m) (string_is w (id_is_ascii w i)))

-- ---- limits

pub limited_some : {A : Type 0} (full : Bool) (p : Tok → Option A) (t : Tok) (x : A) → t.counted ≡ true → limited full p t ≡ Some x → (full ≡ false) × (p t ≡ Some x)
limited_some full p t x c h = by_test full refl (subst (λ b. (if full && b then None else p t) ≡ Some x) c h)
  where
    by_test : (v : Bool) → full ≡ v → (if full && true then None else p t) ≡ Some x → (full ≡ false) × (p t ≡ Some x)
    by_test true e m = let n : (if true && true then None else p t) ≡ Some x = subst (λ b. (if b && true then None else p t) ≡ Some x) e m in absurd cc
    by_test false e m = (e, subst (λ b. (if b && true then None else p t) ≡ Some x) e m)

-- ---- numbers

if_some : {A : Type 0} (v : Bool) (y x : A) → (if v then Some y else None) ≡ Some x → (v ≡ true) × (y ≡ x)
if_some true y x h = (refl, some_one y x h)
if_some false y x h = absurd cc

pub within_some : (most n m : ℕ) → within most n ≡ Some m → m ≤ most
within_some most n m h = let i = if_some (nat_le n most) n m h in omega (arith, within_is n most i.0, i.1)

-- an integer behind a `-`, in its range
pub record IsNegative (z : ℤ) : Type 0 where
  pub magnitude : ℕ
  pub is : z ≡ neg_ℤ (pos magnitude)
  pub small : magnitude ≤ 9223372036854775808

pub integer_given : (t : Tok) (z : ℤ) → integer t ≡ Some z → IsPositive z
integer_given t z h =
    let i = of_number_some positive z (class t) h in
    let j = if_some (nat_le i.0 9223372036854775807) (pos i.0) z i.1.1 in
    record { magnitude = i.0; is = sym j.1; small = within_is i.0 9223372036854775807 j.0 }

pub negative_given : (t : Tok) (z : ℤ) → negative t ≡ Some z → IsNegative z
negative_given t z h =
    let i = of_number_some negated z (class t) h in
    let j = if_some (nat_le i.0 9223372036854775808) (neg_ℤ (pos i.0)) z i.1.1 in
    record { magnitude = i.0; is = sym j.1; small = within_is i.0 9223372036854775808 j.0 }

pub space_given : (t : Tok) (n : ℕ) → space t ≡ Some n → n ≤ 255
space_given t n h = let i = of_number_some (within 255) n (class t) h in within_some 255 i.0 n i.1.1
