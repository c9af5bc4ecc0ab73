-- The tokens that are left: one by one, and that they are those of the text.
use Rattle.affine_lex.proofs.Tests.{eq_yes, eq_no}
use Rattle.std.proofs.Common.{◌≡◌, ℕ, zero, suc, ◌+◌, ◌-◌, ◌≤◌, ◌<◌, nat_lt, Bool, true, false, cond, List, [], ◌∷◌, ◌++◌, length, take, drop, refl, sym, ap, ◌∙◌, subst, arith}
use Rattle.std.proofs.lemmas.Bool.Decides.{nat_tests}
use Rattle.affine_lex.specs.Scan.{IsAt, past_gap, gap, token, in_sizes, after, place, chosen, Lexeme, token_at, tokens_within, tokens_from}
use Rattle.affine_lex.specs.Tokens.{text_of, text_end, AreTokens}
use Rattle.affine_lex.proofs.Front.{token_front, token_within, front_some, took}
use Rattle.affine_lex.proofs.Gaps.{gap_is}
use Rattle.affine_lex.proofs.Growth.{short_drop}
use Rattle.affine_lex.proofs.Listed.{listed}
use Rattle.affine_lex.proofs.Places.{place_is}
use Rattle.affine_lex.specs.declared.token.Kind.{Kind}
use Rattle.affine_lex.specs.declared.token.Kind.TheVariants.{End}
use Rattle.affine_lex.specs.declared.token.Token.{Token}
use Rattle.affine_lex.specs.declared.lexer.Context.{Context}
use Rattle.affine_lex.specs.declared.lexer.Context.TheVariants as context
use Rattle.affine_lex.specs.declared.lexer.Place.{Place}

less_yes : (a b : ℕ) → a < b → nat_lt a b ≡ true
less_yes a b h = grind (arith, nat_tests)

less_no : (a b : ℕ) → b ≤ a → nat_lt a b ≡ false
less_no a b h = grind (arith, nat_tests)

less_is : (a b : ℕ) → nat_lt a b ≡ true → a < b
less_is a b h = grind (arith, nat_tests)

less_not : (a b : ℕ) → nat_lt a b ≡ false → b ≤ a
less_not a b h = grind (arith, nat_tests)

-- a token has a byte, and lies in the text
pub cut_within : (s : List ℕ) (from : ℕ) (c : Context) → from < length s → (from < (token_at s from c).to) × ((token_at s from c).to ≤ length s)
cut_within s from c h =
    let d = short_drop from s (omega (arith, h)) in
    let some : 0 < length (drop from s) = omega (arith, d, h) in
    let w = token_within (in_sizes c) (drop from s) some in
    let o = front_some _ _ _ _ (token_front (in_sizes c) (drop from s) some) in
    (omega (arith, o, took _ _ w), omega (arith, d, w))

-- white space and comments behind a place lie in the text
pub past_within : (s : List ℕ) (at : ℕ) → at ≤ length s → past_gap s at ≤ length s
past_within s at h = omega (arith, short_drop at s h, (gap_is (drop at s)).within)

-- the place behind the next token
abbrev pub next_from : List ℕ → ℕ → Context → ℕ
next_from s from c = past_gap s (token_at s from c).to

-- what the tokens end with, with the next one
abbrev pub next_context : List ℕ → ℕ → Context → Context
next_context s from c = after c (token_at s from c).kind (text_of s (token_at s from c))

-- a bound on the bytes that are left is as good as another
same_within : (n m : ℕ) (s : List ℕ) (from : ℕ) (c : Context) → length s - from ≤ n → length s - from ≤ m → tokens_within n s from c ≡ tokens_within m s from c
same_within zero zero s from c h k = refl
same_within zero (suc m) s from c h k = ap (λ v. cond v (token_at s from c ∷ tokens_within m s (next_from s from c) (next_context s from c)) []) (sym (less_no from (length s) (omega (arith, h))))
same_within (suc n) zero s from c h k = ap (λ v. cond v (token_at s from c ∷ tokens_within n s (next_from s from c) (next_context s from c)) []) (less_no from (length s) (omega (arith, k)))
same_within (suc n) (suc m) s from c h k = by_test (same_within n m s (next_from s from c) (next_context s from c)) (nat_lt from (length s)) refl
  where
    by_test : (length s - next_from s from c ≤ n → length s - next_from s from c ≤ m → tokens_within n s (next_from s from c) (next_context s from c) ≡ tokens_within m s (next_from s from c) (next_context s from c)) → (v : Bool) → nat_lt from (length s) ≡ v → cond v (token_at s from c ∷ tokens_within n s (next_from s from c) (next_context s from c)) [] ≡ cond v (token_at s from c ∷ tokens_within m s (next_from s from c) (next_context s from c)) []
    by_test ih true e =
        let w = cut_within s from c (less_is from (length s) e) in
        ap (λ (ts : List Token). token_at s from c ∷ ts) (ih (omega (arith, w, h)) (omega (arith, w, k)))
    by_test ih false e = refl

-- at the end of the text none is left
pub tokens_end : (s : List ℕ) (from : ℕ) (c : Context) → length s ≤ from → tokens_from s from c ≡ []
unfolding tokens_from
tokens_end s from c h = let n : length s - from ≡ 0 = omega (arith, h) in ap (λ n. tokens_within n s from c) n

-- before it, one is, and those behind it
pub tokens_more : (s : List ℕ) (from : ℕ) (c : Context) → from < length s → tokens_from s from c ≡ token_at s from c ∷ tokens_from s (next_from s from c) (next_context s from c)
unfolding tokens_from
tokens_more s from c h =
    let w = cut_within s from c h in
    let n : length s - from ≡ suc (length s - from - 1) = omega (arith, h) in
    ap (λ n. tokens_within n s from c) n
    ∙ ap (λ v. cond v (token_at s from c ∷ tokens_within (length s - from - 1) s (next_from s from c) (next_context s from c)) []) (less_yes from (length s) h)
    ∙ ap (λ (ts : List Token). token_at s from c ∷ ts) (same_within _ _ s _ _ (omega (arith, w)) (omega arith))

whole : (n : ℕ) (s : List ℕ) → length s ≤ n → take n s ≡ s
whole zero [] h = refl
whole zero (b ∷ s) h = absurd (omega (arith, h))
whole (suc n) [] h = refl
whole (suc n) (b ∷ s) h = ap (λ l. b ∷ l) (whole n s (omega (arith, h)))

-- what is asked of the end, and of another token
abbrev IsLast : List ℕ → ℕ → Token → List Token → Type 0
IsLast s from t ts = (t.kind ≡ End) × (t.to ≡ from) × (ts ≡ [])

abbrev IsNext : List ℕ → ℕ → Context → Token → List Token → Type 0
IsNext s from c t ts = (t.kind ≡ (token (in_sizes c) (drop from s)).0) × (t.to ≡ from + (token (in_sizes c) (drop from s)).1) × IsAt s (past_gap s t.to) (after c t.kind (text_of s t)) ts

end_at : (s : List ℕ) (from : ℕ) (c : Context) → from ≡ length s → IsAt s from c (text_end s ∷ [])
end_at s from c h =
    let p : ◌≡◌ {A = Place} (record { line = (text_end s).line; column = (text_end s).column }) (place (take from s)) = sym (place_is s) ∙ ap place (sym (whole from s (omega (arith, h)))) in
    (sym h, p, subst (λ b. chosen b (IsLast s from (text_end s) []) (IsNext s from c (text_end s) [])) (sym (eq_yes from (length s) h)) (refl, sym h, refl))

more_at : (s : List ℕ) (from : ℕ) (c : Context) (ts : List Token) → from < length s → IsAt s (next_from s from c) (next_context s from c) ts → IsAt s from c (token_at s from c ∷ ts)
more_at s from c ts h i = (refl, refl, subst (λ b. chosen b (IsLast s from (token_at s from c) ts) (IsNext s from c (token_at s from c) ts)) (sym (eq_no from (length s) h)) (refl, refl, i))

-- the tokens that are left, and then the end, follow from a place on
left_at : (n : ℕ) (s : List ℕ) (from : ℕ) (c : Context) → from ≤ length s → length s - from ≤ n → IsAt s from c (tokens_from s from c ++ text_end s ∷ [])
left_at zero s from c h k = subst (λ (ts : List Token). IsAt s from c (ts ++ text_end s ∷ [])) (sym (tokens_end s from c (omega (arith, h, k)))) (end_at s from c (omega (arith, h, k)))
left_at (suc n) s from c h k = by_test (left_at n s (next_from s from c) (next_context s from c)) (nat_lt from (length s)) refl
  where
    by_test : (next_from s from c ≤ length s → length s - next_from s from c ≤ n → IsAt s (next_from s from c) (next_context s from c) (tokens_from s (next_from s from c) (next_context s from c) ++ text_end s ∷ [])) → (v : Bool) → nat_lt from (length s) ≡ v → IsAt s from c (tokens_from s from c ++ text_end s ∷ [])
    by_test ih true e =
        let l = less_is from (length s) e in
        let w = cut_within s from c l in
        let p = past_within s (token_at s from c).to w.1 in
        subst (λ (ts : List Token). IsAt s from c (ts ++ text_end s ∷ [])) (sym (tokens_more s from c l)) (more_at s from c _ l (ih p (omega (arith, w, k))))
    by_test ih false e = let l = less_not from (length s) e in subst (λ (ts : List Token). IsAt s from c (ts ++ text_end s ∷ [])) (sym (tokens_end s from c l)) (end_at s from c (omega (arith, h, l)))

-- from the first byte on they are those of the text
pub all_tokens : (s : List ℕ) (from : ℕ) → from ≡ gap s → AreTokens s (tokens_from s from context.Plain ++ text_end s ∷ [])
all_tokens s from h =
    let g = gap_is s in
    let e : from ≡ past_gap s 0 = omega (arith, h) in
    listed s _ (subst (λ n. IsAt s n context.Plain (tokens_from s from context.Plain ++ text_end s ∷ [])) e (left_at (length s) s from context.Plain (omega (arith, h, g.within)) (omega arith)))

-- one token that is taken, and the white space and comments behind it
pub taken : (s : List ℕ) (from len skip : ℕ) (c d : Context) (k : Kind) (p : Place) → from < length s → p ≡ place (take from s) → (k, len) ≡ token (in_sizes c) (drop from s) → d ≡ after c k (take (from + len - from) (drop from s)) → skip ≡ gap (drop (from + len) s) → tokens_from s from c ≡ record { kind = k; from = from; to = from + len; line = p.line; column = p.column } ∷ tokens_from s (from + len + skip) d
taken s from len skip c d k p h q t a g =
    let F : Lexeme → Place → List Token = λ x r. record { kind = x.0; from = from; to = from + x.1; line = r.line; column = r.column } ∷ tokens_from s (past_gap s (from + x.1)) (after c x.0 (take (from + x.1 - from) (drop from s))) in
    let u : Token = record { kind = k; from = from; to = from + len; line = p.line; column = p.column } in
    tokens_more s from c h
    ∙ ap (λ x. F x (place (take from s))) (sym t)
    ∙ ap (λ r. F (k, len) r) (sym q)
    ∙ ap (λ e. u ∷ tokens_from s (past_gap s (from + len)) e) (sym a)
    ∙ ap (λ n. u ∷ tokens_from s (from + len + n) d) (sym g)
