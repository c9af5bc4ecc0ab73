-- The computed token is the one at the front, and no other is.
use Rattle.std.proofs.Common.{◌≡◌, ℕ, zero, suc, ◌≤◌, ◌<◌, inl, inr, Bool, List, [], ◌∷◌, ◌++◌, length, take, drop, Some, None, refl, sym, ap, ◌∙◌, subst, arith}
use Rattle.std.proofs.lemmas.List.{take-append-drop}
use Rattle.affine_lex.specs.Scan.{token, Lexeme}
use Rattle.affine_lex.specs.Tokens.{HasForm, IsFront, kind_of}
use Rattle.affine_lex.proofs.Shapes.{Shape, shape, settled, token_settled, Reaches, form_reached, IsFormed, shape_formed}
use Rattle.affine_lex.specs.declared.token.Kind.{Kind}
use Rattle.affine_lex.specs.declared.token.Kind.TheVariants.{Word, Value, Alias, Symbol, Int, Punct, Arrow, GreaterEqual, LessEqual, Equal, Sizes, Bad, End}

-- so many bytes are taken where there are so many
pub took : (n : ℕ) (bytes : List ℕ) → n ≤ length bytes → length (take n bytes) ≡ n
took zero bytes h = refl
took (suc n) [] h = absurd (omega (arith, h))
took (suc n) (b ∷ bytes) h = omega (arith, took n bytes (omega (arith, h)))

cut : (n : ℕ) (bytes : List ℕ) → bytes ≡ take n bytes ++ drop n bytes
cut n bytes = sym (take-append-drop n bytes)

reached : (sizes : Bool) (bytes : List ℕ) (s : Shape) → shape sizes bytes ≡ s → (f : Kind) (x r : List ℕ) → bytes ≡ x ++ r → HasForm sizes f x → Reaches s f (length x)
reached sizes bytes s e f x r q h = subst (λ z. Reaches z f (length x)) (ap (λ l. shape sizes l) (sym q) ∙ e) (form_reached sizes f x r h)

settled_front : (sizes : Bool) (bytes : List ℕ) → 0 < length bytes → (s : Shape) → shape sizes bytes ≡ s → IsFormed sizes bytes s → IsFront sizes bytes (settled s).0 (take (settled s).1 bytes)
settled_front sizes bytes h None e f = inr ((λ other front rest q k. reached sizes bytes None e other front rest q k), took 1 bytes (omega (arith, h)), refl)
settled_front sizes bytes h (Some p) e f = inl (p.0, (record { formed = f.0; longest = λ other front rest q k. omega (arith, took p.1 bytes f.1, (reached sizes bytes (Some p) e other front rest q k).0) }, refl))

pub token_front : (sizes : Bool) (bytes : List ℕ) → 0 < length bytes → IsFront sizes bytes (token sizes bytes).0 (take (token sizes bytes).1 bytes)
token_front sizes bytes h = subst (λ (x : Lexeme). IsFront sizes bytes x.0 (take x.1 bytes)) (sym (token_settled sizes bytes)) (settled_front sizes bytes h (shape sizes bytes) refl (shape_formed sizes bytes))

front_settled : (sizes : Bool) (bytes : List ℕ) (s : Shape) → shape sizes bytes ≡ s → IsFormed sizes bytes s → (kind : Kind) (text rest : List ℕ) → bytes ≡ text ++ rest → IsFront sizes bytes kind text → ◌≡◌ {A = Lexeme} (kind, length text) (settled s)
front_settled sizes bytes None e f kind text rest q (inl i) = absurd (reached sizes bytes None e i.0 text rest q i.1.0.formed)
front_settled sizes bytes None e f kind text rest q (inr i) = ap (λ k. let x : Lexeme = (k, length text) in x) i.2 ∙ ap (λ n. let x : Lexeme = (Bad, n) in x) i.1
front_settled sizes bytes (Some p) e f kind text rest q (inl i) =
    let r = reached sizes bytes (Some p) e i.0 text rest q i.1.0.formed in
    let l : length (take p.1 bytes) ≤ length text = i.1.0.longest p.0 (take p.1 bytes) (drop p.1 bytes) (cut p.1 bytes) f.0 in
    let n : length text ≡ p.1 = omega (arith, l, r.0, took p.1 bytes f.1) in
    ap (λ k. let x : Lexeme = (k, length text) in x) (i.1.1 ∙ ap kind_of (sym (r.1 n))) ∙ ap (λ m. let x : Lexeme = (kind_of p.0, m) in x) n
front_settled sizes bytes (Some p) e f kind text rest q (inr i) = absurd (i.0 p.0 (take p.1 bytes) (drop p.1 bytes) (cut p.1 bytes) f.0)

pub front_token : (sizes : Bool) (bytes : List ℕ) (kind : Kind) (text rest : List ℕ) → bytes ≡ text ++ rest → IsFront sizes bytes kind text → ◌≡◌ {A = Lexeme} (kind, length text) (token sizes bytes)
front_token sizes bytes kind text rest q i = front_settled sizes bytes (shape sizes bytes) refl (shape_formed sizes bytes) kind text rest q i ∙ sym (token_settled sizes bytes)

settled_within : (sizes : Bool) (bytes : List ℕ) → 0 < length bytes → (s : Shape) → IsFormed sizes bytes s → (settled s).1 ≤ length bytes
settled_within sizes bytes h None f = omega (arith, h)
settled_within sizes bytes h (Some p) f = f.1

-- a token lies in the bytes
pub token_within : (sizes : Bool) (bytes : List ℕ) → 0 < length bytes → (token sizes bytes).1 ≤ length bytes
token_within sizes bytes h = subst (λ (x : Lexeme). x.1 ≤ length bytes) (sym (token_settled sizes bytes)) (settled_within sizes bytes h (shape sizes bytes) (shape_formed sizes bytes))

form_some : (sizes : Bool) (f : Kind) → HasForm sizes f [] → ⊥
form_some sizes Word h = h
form_some sizes Value h = h
form_some sizes Alias h = h
form_some sizes Symbol h = h
form_some sizes (Int v) h = h.0
form_some sizes (Punct b) h = cc (h.0)
form_some sizes Arrow h = cc (h)
form_some sizes GreaterEqual h = cc (h)
form_some sizes LessEqual h = cc (h)
form_some sizes Equal h = cc (h)
form_some sizes Sizes ([], h) = h.2
form_some sizes Sizes ((b ∷ w), h) = let e : [] ≡ b ∷ (w ++ 120 ∷ []) = h.1 in cc (e)
form_some sizes Bad h = h
form_some sizes End h = h

-- and isn't empty
pub front_some : (sizes : Bool) (bytes : List ℕ) (kind : Kind) (text : List ℕ) → IsFront sizes bytes kind text → 0 < length text
front_some sizes bytes kind [] (inl i) = absurd (form_some sizes i.0 i.1.0.formed)
front_some sizes bytes kind (b ∷ text) (inl i) = omega arith
front_some sizes bytes kind text (inr i) = omega (arith, i.1)
