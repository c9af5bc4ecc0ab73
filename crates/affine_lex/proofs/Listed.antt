-- The computed list of tokens is the list of tokens of the text, and no other is.
use Rattle.affine_lex.proofs.Tests.{eq_true}
use Rattle.std.proofs.Common.{◌≡◌, ℕ, ◌+◌, ◌-◌, ◌≤◌, ◌<◌, ◌==◌, ◌⊎◌, inl, inr, ◌&&◌, Bool, true, false, cond, List, [], ◌∷◌, length, take, drop, refl, sym, ap, ◌∙◌, subst, arith}
use Rattle.std.proofs.lemmas.Bool.Decides.{nat_tests}
use Rattle.std.proofs.lemmas.List.{take-append-drop}
use Rattle.affine_lex.specs.Scan.{IsAt, IsScanned, past_gap, gap, token, in_sizes, after, after_punct, place, chosen, Lexeme}
use Rattle.affine_lex.specs.Tokens.{text_of, line_behind, column_behind, end_of, is_memref, ends_memref, are_sizes_behind, are_sizes_next, IsPlaced, IsToken, IsEnd, IsFront, IsGap, GoOn, AreTokens}
use Rattle.affine_lex.proofs.Front.{token_front, token_within, front_token, front_some, took}
use Rattle.affine_lex.proofs.Gaps.{gap_is, gap_only}
use Rattle.affine_lex.proofs.Places.{place_is, behind}
use Rattle.affine_lex.proofs.Growth.{short_drop}
use Rattle.affine_lex.specs.declared.token.Kind.{Kind}
use Rattle.affine_lex.specs.declared.token.Kind.TheVariants.{Word, Value, Alias, Symbol, Int, Punct, Arrow, GreaterEqual, LessEqual, Equal, Sizes, Bad, End}
use Rattle.affine_lex.specs.declared.token.Token.{Token}
use Rattle.affine_lex.specs.declared.lexer.Context.{Context}
use Rattle.affine_lex.specs.declared.lexer.Context.TheVariants as context
use Rattle.affine_lex.specs.declared.lexer.Place.{Place}

-- ---- what the tokens so far end with

abbrev context_behind : List ℕ → List Token → Context
context_behind source [] = context.Plain
context_behind source (t ∷ earlier) = after (context_behind source earlier) t.kind (text_of source t)

abbrev in_memref : Context → Bool
in_memref context.Memref = true
in_memref _ = false

memref_word : (v : Bool) → in_memref (cond v context.Memref context.Plain) ≡ v
memref_word true = refl
memref_word false = refl

plain_punct : (c : Context) (b : ℕ) → in_memref (after_punct c b) ≡ false
plain_punct context.Memref b = by_test (b == 60)
  where
    by_test : (v : Bool) → in_memref (cond v context.Sizes context.Plain) ≡ false
    by_test true = refl
    by_test false = refl
plain_punct context.Plain b = refl
plain_punct context.Sizes b = refl

memref_after : (c : Context) (k : Kind) (text : List ℕ) → in_memref (after c k text) ≡ is_memref k text
memref_after c Word text = memref_word (is_memref Word text)
memref_after c (Punct b) text = plain_punct c b
memref_after c Value text = refl
memref_after c Alias text = refl
memref_after c Symbol text = refl
memref_after c (Int v) text = refl
memref_after c Arrow text = refl
memref_after c GreaterEqual text = refl
memref_after c LessEqual text = refl
memref_after c Equal text = refl
memref_after c Sizes text = refl
memref_after c Bad text = refl
memref_after c End text = refl

memref_behind : (s : List ℕ) (earlier : List Token) → in_memref (context_behind s earlier) ≡ ends_memref s earlier
memref_behind s [] = refl
memref_behind s (t ∷ earlier) = memref_after (context_behind s earlier) t.kind (text_of s t)

sizes_word : (v : Bool) → in_sizes (cond v context.Memref context.Plain) ≡ false
sizes_word true = refl
sizes_word false = refl

sizes_punct : (c : Context) (b : ℕ) → in_sizes (after_punct c b) ≡ (in_memref c && b == 60)
sizes_punct context.Memref b = by_test (b == 60)
  where
    by_test : (v : Bool) → in_sizes (cond v context.Sizes context.Plain) ≡ v
    by_test true = refl
    by_test false = refl
sizes_punct context.Plain b = refl
sizes_punct context.Sizes b = refl

sizes_after : (c : Context) (k : Kind) (text : List ℕ) → in_sizes (after c k text) ≡ are_sizes_behind (in_memref c) k
sizes_after c Word text = sizes_word (is_memref Word text)
sizes_after c (Punct b) text = sizes_punct c b
sizes_after c Value text = refl
sizes_after c Alias text = refl
sizes_after c Symbol text = refl
sizes_after c (Int v) text = refl
sizes_after c Arrow text = refl
sizes_after c GreaterEqual text = refl
sizes_after c LessEqual text = refl
sizes_after c Equal text = refl
sizes_after c Sizes text = refl
sizes_after c Bad text = refl
sizes_after c End text = refl

sizes_are : (s : List ℕ) (earlier : List Token) → in_sizes (context_behind s earlier) ≡ are_sizes_next s earlier
sizes_are s [] = refl
sizes_are s (t ∷ earlier) = sizes_after (context_behind s earlier) t.kind (text_of s t) ∙ ap (λ m. are_sizes_behind m t.kind) (memref_behind s earlier)

-- ---- the computed list

false_ne : (a b : ℕ) → a ≤ b → (a == b) ≡ false → a < b
false_ne a b l h = grind (arith, nat_tests)

placed : (s : List ℕ) (earlier : List Token) (t : Token) → t.from ≡ past_gap s (end_of earlier) → ◌≡◌ {A = Place} (record { line = t.line; column = t.column }) (place (take t.from s)) → IsPlaced s earlier t
placed s earlier t f p =
    let n : t.from - end_of earlier ≡ gap (drop (end_of earlier) s) = omega (arith, f) in
    let q : ◌≡◌ {A = Place} (record { line = t.line; column = t.column }) (behind (take t.from s)) = p ∙ place_is (take t.from s) in
    record { behind = omega (arith, f); gap = subst (λ m. IsGap (drop (end_of earlier) s) m) (sym n) (gap_is (drop (end_of earlier) s)); line = ap (λ (x : Place). x.line) q; column = ap (λ (x : Place). x.column) q }

past_within : (s : List ℕ) (at : ℕ) → at ≤ length s → past_gap s at ≤ length s
past_within s at h = omega (arith, short_drop at s h, (gap_is (drop at s)).within)

is_token : (s : List ℕ) (earlier : List Token) (t : Token) → t.from < length s → t.kind ≡ (token (are_sizes_next s earlier) (drop t.from s)).0 → t.to ≡ t.from + (token (are_sizes_next s earlier) (drop t.from s)).1 → IsToken s earlier t
is_token s earlier t l k q =
    let d = short_drop t.from s (omega (arith, l)) in
    let some : 0 < length (drop t.from s) = omega (arith, d, l) in
    let w = token_within (are_sizes_next s earlier) (drop t.from s) some in
    let f = token_front (are_sizes_next s earlier) (drop t.from s) some in
    let n : (token (are_sizes_next s earlier) (drop t.from s)).1 ≡ t.to - t.from = omega (arith, q) in
    let g : IsFront (are_sizes_next s earlier) (drop t.from s) t.kind (text_of s t) = subst (λ m. IsFront (are_sizes_next s earlier) (drop t.from s) t.kind (take m (drop t.from s))) n (subst (λ m. IsFront (are_sizes_next s earlier) (drop t.from s) m (take (token (are_sizes_next s earlier) (drop t.from s)).1 (drop t.from s))) (sym k) f) in
    let o = front_some _ _ _ _ f in
    record { order = omega (arith, q, o, took _ _ w); within = omega (arith, q, w, d, l); front = g }

go_on : (s : List ℕ) (ts earlier : List Token) (from : ℕ) (c : Context) → end_of earlier ≤ length s → from ≡ past_gap s (end_of earlier) → c ≡ context_behind s earlier → IsAt s from c ts → GoOn s earlier ts
go_on s [] earlier from c w f e i = absurd i
go_on s (t ∷ ts) earlier from c w f e i = by_end (go_on s ts (t ∷ earlier)) (from == length s) refl i.2
  where
    sizes : in_sizes c ≡ are_sizes_next s earlier
    sizes = ap in_sizes e ∙ sizes_are s earlier

    here : IsPlaced s earlier t
    here = placed s earlier t (i.0 ∙ f) (subst (λ n. ◌≡◌ {A = Place} (record { line = t.line; column = t.column }) (place (take n s))) (sym i.0) i.1)

    by_end : ((n : ℕ) (d : Context) → t.to ≤ length s → n ≡ past_gap s t.to → d ≡ after (context_behind s earlier) t.kind (text_of s t) → IsAt s n d ts → GoOn s (t ∷ earlier) ts) → (v : Bool) → (from == length s) ≡ v → chosen v ((t.kind ≡ End) × (t.to ≡ from) × (ts ≡ [])) ((t.kind ≡ (token (in_sizes c) (drop from s)).0) × (t.to ≡ from + (token (in_sizes c) (drop from s)).1) × IsAt s (past_gap s t.to) (after c t.kind (text_of s t)) ts) → GoOn s earlier (t ∷ ts)
    by_end ih true h j = let l = eq_true from (length s) h in (here, inl (record { kind = j.0; from = i.0 ∙ l; to = j.1 ∙ l }, j.2))
    by_end ih false h j =
        let l : from < length s = false_ne from (length s) (omega (arith, f, past_within s (end_of earlier) w)) h in
        let k : t.kind ≡ (token (are_sizes_next s earlier) (drop t.from s)).0 = subst (λ z. t.kind ≡ (token z (drop t.from s)).0) sizes (subst (λ n. t.kind ≡ (token (in_sizes c) (drop n s)).0) (sym i.0) j.0) in
        let q : t.to ≡ t.from + (token (are_sizes_next s earlier) (drop t.from s)).1 = subst (λ z. t.to ≡ t.from + (token z (drop t.from s)).1) sizes (subst (λ n. t.to ≡ n + (token (in_sizes c) (drop n s)).1) (sym i.0) j.1) in
        let o = is_token s earlier t (omega (arith, l, i.0)) k q in
        (here, inr (o, ih (past_gap s t.to) (after c t.kind (text_of s t)) o.within refl (ap (λ d. after d t.kind (text_of s t)) e) j.2))

pub listed : (s : List ℕ) (ts : List Token) → IsScanned s ts → AreTokens s ts
listed s ts i = record { whole = go_on s ts [] (past_gap s 0) context.Plain (omega arith) refl refl i }

-- ---- one list

same_front : (s : List ℕ) (earlier : List Token) (t u : Token) → IsPlaced s earlier t → IsPlaced s earlier u → t.from ≡ u.from
same_front s earlier t u p q = omega (arith, p.behind, q.behind, gap_only (drop (end_of earlier) s) _ _ p.gap q.gap)

text_length : (s : List ℕ) (t : Token) → t.from < t.to → t.to ≤ length s → length (text_of s t) ≡ t.to - t.from
text_length s t o w = took (t.to - t.from) (drop t.from s) (omega (arith, short_drop t.from s (omega (arith, o, w))))

read : (s : List ℕ) (earlier : List Token) (t : Token) → IsToken s earlier t → ◌≡◌ {A = Lexeme} (t.kind, t.to - t.from) (token (are_sizes_next s earlier) (drop t.from s))
read s earlier t i =
    let f = front_token (are_sizes_next s earlier) (drop t.from s) t.kind (text_of s t) (drop (t.to - t.from) (drop t.from s)) (sym (take-append-drop (t.to - t.from) (drop t.from s))) i.front in
    ap (λ n. let x : Lexeme = (t.kind, n) in x) (sym (text_length s t i.order i.within)) ∙ f

same_token : (t u : Token) → t.kind ≡ u.kind → t.from ≡ u.from → t.to ≡ u.to → t.line ≡ u.line → t.column ≡ u.column → t ≡ u
same_token t u k f o l c =
    let e : ◌≡◌ {A = Token} (record { kind = t.kind; from = t.from; to = t.to; line = t.line; column = t.column }) (record { kind = u.kind; from = u.from; to = u.to; line = u.line; column = u.column }) = cc in
    e

same_place : (s : List ℕ) (earlier : List Token) (t u : Token) → IsPlaced s earlier t → IsPlaced s earlier u → t.kind ≡ u.kind → t.to ≡ u.to → t ≡ u
same_place s earlier t u p q k o =
    let f = same_front s earlier t u p q in
    same_token t u k f o (p.line ∙ ap (λ n. line_behind (take n s)) f ∙ sym q.line) (p.column ∙ ap (λ n. column_behind (take n s)) f ∙ sym q.column)

same_read : (s : List ℕ) (earlier : List Token) (t u : Token) → IsPlaced s earlier t → IsPlaced s earlier u → IsToken s earlier t → IsToken s earlier u → t ≡ u
same_read s earlier t u p q i j =
    let f = same_front s earlier t u p q in
    let e : ◌≡◌ {A = Lexeme} (t.kind, t.to - t.from) (u.kind, u.to - u.from) = read s earlier t i ∙ ap (λ n. token (are_sizes_next s earlier) (drop n s)) f ∙ sym (read s earlier u j) in
    same_place s earlier t u p q (ap (λ (x : Lexeme). x.0) e) (omega (arith, f, ap (λ (x : Lexeme). x.1) e, i.order, j.order))

same_list : (s : List ℕ) (ts us earlier : List Token) → GoOn s earlier ts → GoOn s earlier us → ts ≡ us
same_list s [] us earlier i j = absurd i
same_list s (t ∷ ts) [] earlier i j = absurd j
same_list s (t ∷ ts) (u ∷ us) earlier i j = by_case (λ us. same_list s ts us (t ∷ earlier)) i.1 j.1
  where
    by_case : ((us : List Token) → GoOn s (t ∷ earlier) ts → GoOn s (t ∷ earlier) us → ts ≡ us) → (IsEnd s t × (ts ≡ [])) ⊎ (IsToken s earlier t × GoOn s (t ∷ earlier) ts) → (IsEnd s u × (us ≡ [])) ⊎ (IsToken s earlier u × GoOn s (u ∷ earlier) us) → t ∷ ts ≡ u ∷ us
    by_case ih (inl a) (inl b) =
        let e : t ≡ u = same_place s earlier t u i.0 j.0 (a.0.kind ∙ sym b.0.kind) (a.0.to ∙ sym b.0.to) in
        let r : ts ≡ us = a.1 ∙ sym b.1 in
        cc
    by_case ih (inl a) (inr b) = absurd (omega (arith, same_front s earlier t u i.0 j.0, a.0.from, b.0.order, b.0.within))
    by_case ih (inr a) (inl b) = absurd (omega (arith, same_front s earlier t u i.0 j.0, b.0.from, a.0.order, a.0.within))
    by_case ih (inr a) (inr b) =
        let e : t ≡ u = same_read s earlier t u i.0 j.0 a.0 b.0 in
        let r : ts ≡ us = ih us a.1 (subst (λ x. GoOn s (x ∷ earlier) us) (sym e) b.1) in
        cc

pub one_list : (s : List ℕ) (ts us : List Token) → AreTokens s ts → AreTokens s us → ts ≡ us
one_list s ts us i j = same_list s ts us [] i.whole j.whole
