-- What each token of a text keeps: its span, its place and its form.
use Rattle.std.proofs.Common.{◌≡◌, ℕ, zero, suc, ◌≤◌, ◌<◌, ◌⊎◌, inl, inr, ◌^◌, nat_le, cond, Bool, true, false, List, [], ◌∷◌, ◌++◌, length, refl, sym, ap, ◌∙◌, subst, arith}
use Rattle.std.specs.List.{All}
use Rattle.affine_lex.specs.Tokens.{HasForm, IsFront, IsPlaced, IsToken, IsEnd, GoOn, AreTokens, kind_of}
use Rattle.affine_lex.specs.declared.token.Kind.{Kind}
use Rattle.affine_lex.specs.declared.token.Kind.TheVariants.{Word, Value, Alias, Symbol, Int, Punct, Arrow, GreaterEqual, LessEqual, Equal, Sizes, Bad, End}
use Rattle.affine_lex.specs.declared.token.Token.{Token}

-- the token's span lies in the text, and its line and its column count from 1
pub record IsInText (source : List ℕ) (t : Token) : Type 0 where
  pub order : t.from ≤ t.to
  pub within : t.to ≤ length source
  pub line : 0 < t.line
  pub column : 0 < t.column

all_nil : (P : Token → Type 0) → All P []
all_nil P k d l = absurd (omega (arith, l))

all_cons : (P : Token → Type 0) (t : Token) (ts : List Token) → P t → All P ts → All P (t ∷ ts)
all_cons P t ts h a zero d l = h
all_cons P t ts h a (suc k) d l = a k d (omega (arith, l))

end_in_text : (s : List ℕ) (earlier : List Token) (t : Token) → IsPlaced s earlier t → IsEnd s t → IsInText s t
end_in_text s earlier t p e = record { order = omega (arith, e.from, e.to); within = omega (arith, e.to); line = omega (arith, p.line); column = omega (arith, p.column) }

token_in_text : (s : List ℕ) (earlier : List Token) (t : Token) → IsPlaced s earlier t → IsToken s earlier t → IsInText s t
token_in_text s earlier t p i = record { order = omega (arith, i.order); within = i.within; line = omega (arith, p.line); column = omega (arith, p.column) }

all_in_text : (s : List ℕ) (ts earlier : List Token) → GoOn s earlier ts → All (IsInText s) ts
all_in_text s [] earlier i = absurd i
all_in_text s (t ∷ ts) earlier i = by_case (all_in_text s ts (t ∷ earlier)) i.1
  where
    by_case : (GoOn s (t ∷ earlier) ts → All (IsInText s) ts) → (IsEnd s t × (ts ≡ [])) ⊎ (IsToken s earlier t × GoOn s (t ∷ earlier) ts) → All (IsInText s) (t ∷ ts)
    by_case ih (inl e) = all_cons (IsInText s) t ts (end_in_text s earlier t i.0 e.0) (subst (λ l. All (IsInText s) l) (sym e.1) (all_nil (IsInText s)))
    by_case ih (inr e) = all_cons (IsInText s) t ts (token_in_text s earlier t i.0 e.0) (ih e.1)

-- every token lies in the text
pub in_text : (s : List ℕ) (ts : List Token) → AreTokens s ts → All (IsInText s) ts
in_text s ts i = all_in_text s ts [] i.whole

-- the kind of a token that isn't the end
abbrev pub IsNoEnd : Kind → Type 0
IsNoEnd k = k ≡ End → ⊥

form_no_end : (sizes : Bool) (k : Kind) (text : List ℕ) → HasForm sizes k text → IsNoEnd (kind_of k)
form_no_end sizes Word text h = λ e. cc
form_no_end sizes Value text h = λ e. cc
form_no_end sizes Alias text h = λ e. cc
form_no_end sizes Symbol text h = λ e. cc
form_no_end sizes (Int v) text h = by_test (nat_le v (2 ^ 63))
  where
    by_test : (t : Bool) → cond t (Int v) Bad ≡ End → ⊥
    by_test true e = cc
    by_test false e = cc
form_no_end sizes (Punct b) text h = λ e. cc
form_no_end sizes Arrow text h = λ e. cc
form_no_end sizes GreaterEqual text h = λ e. cc
form_no_end sizes LessEqual text h = λ e. cc
form_no_end sizes Equal text h = λ e. cc
form_no_end sizes Sizes text h = λ e. cc
form_no_end sizes Bad text h = absurd h
form_no_end sizes End text h = absurd h

front_no_end : (sizes : Bool) (bytes : List ℕ) (k : Kind) (text : List ℕ) → IsFront sizes bytes k text → IsNoEnd k
front_no_end sizes bytes k text (inl i) = λ e. form_no_end sizes i.0 text i.1.0.formed (sym i.1.1 ∙ e)
front_no_end sizes bytes k text (inr i) = λ e. let x : Bad ≡ End = sym i.2 ∙ e in cc (x)

-- the tokens are some that aren't the end, and then the end
pub record HasEnd (source : List ℕ) (ts : List Token) : Type 0 where
  pub before : List Token
  pub last : Token
  pub parts : ts ≡ before ++ last ∷ []
  pub no_end : All (λ (t : Token). IsNoEnd t.kind) before
  pub is_end : IsEnd source last

has_end : (s : List ℕ) (ts earlier : List Token) → GoOn s earlier ts → HasEnd s ts
has_end s [] earlier i = absurd i
has_end s (t ∷ ts) earlier i = by_case (has_end s ts (t ∷ earlier)) i.1
  where
    more : (k : Kind) → k ≡ t.kind → IsNoEnd k → HasEnd s ts → HasEnd s (t ∷ ts)
    more k e n h = record { before = t ∷ h.before; last = h.last; parts = ap (λ (l : List Token). t ∷ l) h.parts; no_end = all_cons (λ (u : Token). IsNoEnd u.kind) t h.before (λ f. n (e ∙ f)) h.no_end; is_end = h.is_end }

    by_case : (GoOn s (t ∷ earlier) ts → HasEnd s ts) → (IsEnd s t × (ts ≡ [])) ⊎ (IsToken s earlier t × GoOn s (t ∷ earlier) ts) → HasEnd s (t ∷ ts)
    by_case ih (inl e) = record { before = []; last = t; parts = ap (λ (l : List Token). t ∷ l) e.1; no_end = all_nil (λ (u : Token). IsNoEnd u.kind); is_end = e.0 }
    by_case ih (inr e) = more t.kind refl (front_no_end _ _ _ _ e.0.front) (ih e.1)

-- every list of tokens ends with the end of the text, which stands nowhere before
pub ended : (s : List ℕ) (ts : List Token) → AreTokens s ts → HasEnd s ts
ended s ts i = has_end s ts [] i.whole
