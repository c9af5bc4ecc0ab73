-- Whole texts: what is read and spelled, and the place at which all else is refused.
use Rattle.std.proofs.Common.{◌≡◌, ℕ, ◌≤◌, ◌-◌, List, [], ◌∷◌, ◌++◌, length, drop, refl, sym, ap, ◌∙◌, subst, append_assoc, append-nil, length-append, arith, ◌⊎◌, inl, inr}
use Rattle.readers.specs.Readers.{Step, Got, Stop, Reader, head, never}
use Rattle.readers.specs.Languages.{Lang}
use Rattle.readers.specs.Places.{IsViable, IsPlace}
use Rattle.readers.specs.Exactness.{Told, Inhabited, Exact}

-- what is read to the end is spelled
pub exact_ok : {T A : Type 0} {L : Lang T A} {r : Reader T A} → Exact never L r → (ts : List T) (x : A) → r ts ≡ Got x [] → L ts x
exact_ok {T} {A} {L} {r} c ts x h = by_step (r ts) h (c.faithful.explained.told ts)
  where
    by_step : (o : Step T A) → o ≡ Got x [] → Told L r ts o → L ts x
    by_step (Got y rest) e t =
        let p : y ≡ x = cc in
        let q : rest ≡ [] = cc in
        subst (λ z. L ts z) p (subst (λ l. L l y) (sym (t.parts ∙ ap (λ m. t.front ++ m) q ∙ append-nil t.front)) t.spelled)
    by_step (Stop rest) e t = cc

-- what is spelled is read to the end
pub exact_only : {T A : Type 0} {L : Lang T A} {r : Reader T A} → Exact never L r → (ts : List T) (x : A) → L ts x → r ts ≡ Got x []
exact_only {r = r} c ts x l = ap r (sym (append-nil ts)) ∙ c.faithful.complete.reads ts [] x l refl

-- a text spells at most one value
pub exact_one : {T A : Type 0} {L : Lang T A} {r : Reader T A} → Exact never L r → (ts : List T) (x y : A) → L ts x → L ts y → x ≡ y
exact_one {T} {A} c ts x y l m =
    let e : ◌≡◌ {A = Step T A} (Got x []) (Got y []) = sym (exact_only c ts x l) ∙ exact_only c ts y m in
    cc

-- the prefix of a refusal is viable, since the language has a text
viable : {T A : Type 0} {L : Lang T A} → Inhabited L → (f : List T) → (f ≡ []) ⊎ IsViable L f → IsViable L f
viable {L = L} i f (inl h) = record { more = i.text; value = i.value; spelled = subst (λ m. L (m ++ i.text) i.value) (sym h) i.spelled }
viable i f (inr v) = v

-- what goes on with a token is read behind it
reads_viable : {T A : Type 0} {L : Lang T A} {r : Reader T A} → Exact never L r → (f : List T) (t : T) (v : IsViable L (f ++ t ∷ [])) → r (f ++ t ∷ v.more) ≡ Got v.value []
reads_viable {r = r} c f t v = ap r (sym (append_assoc f (t ∷ []) v.more)) ∙ exact_only c ((f ++ t ∷ []) ++ v.more) v.value v.spelled

-- where the reader stops is the place of the refusal
pub exact_place : {T A : Type 0} {L : Lang T A} {r : Reader T A} → Exact never L r → (ts rest : List T) → r ts ≡ Stop rest → IsPlace L ts rest
exact_place {T} {A} {L} {r} c ts rest h = by_step (r ts) h (c.faithful.explained.told ts)
  where
    stuck : (f : List T) (t : T) (others : List T) → ((other : List T) → head other ≡ head (t ∷ others) → r (f ++ other) ≡ Stop other) → IsViable L (f ++ t ∷ []) → ⊥
    stuck f t others w v =
        let one : ◌≡◌ {A = Step T A} (Got v.value []) (Stop (t ∷ v.more)) = sym (reads_viable c f t v) ∙ w (t ∷ v.more) refl in
        cc

    by_step : (o : Step T A) → o ≡ Stop rest → Told L r ts o → IsPlace L ts rest
    by_step (Got y left) e t = cc
    by_step (Stop left) e t =
        let q : left ≡ rest = cc in
        record { front = t.front; parts = t.parts ∙ ap (λ l. t.front ++ l) q; viable = viable c.some t.front t.begun; dead = λ u others p v. stuck t.front u others (λ other s. t.again other (s ∙ ap head (sym p) ∙ ap head (sym q))) v }

-- what stands behind a whole text is refused
pub exact_left : {T A : Type 0} {L : Lang T A} {r : Reader T A} → Exact never L r → (ts rest : List T) (x : A) → r ts ≡ Got x rest → IsPlace L ts rest
exact_left {T} {A} {L} {r} c ts rest x h = by_step (r ts) h (c.faithful.explained.told ts)
  where
    stuck : (f : List T) (y : A) (t : T) → L f y → IsViable L (f ++ t ∷ []) → ⊥
    stuck f y t l v =
        let one : ◌≡◌ {A = Step T A} (Got v.value []) (Got y (t ∷ v.more)) = sym (reads_viable c f t v) ∙ c.faithful.complete.reads f (t ∷ v.more) y l refl in
        let z : [] ≡ t ∷ v.more = cc in
        cc

    by_step : (o : Step T A) → o ≡ Got x rest → Told L r ts o → IsPlace L ts rest
    by_step (Stop left) e t = cc
    by_step (Got y left) e t =
        let q : left ≡ rest = cc in
        record { front = t.front; parts = t.parts ∙ ap (λ l. t.front ++ l) q; viable = record { more = []; value = y; spelled = subst (λ l. L l y) (sym (append-nil t.front)) t.spelled }; dead = λ u others p v. stuck t.front y u t.spelled v }

-- each list of tokens is a text or has a place
pub exact_decided : {T A : Type 0} {L : Lang T A} {r : Reader T A} → Exact never L r → (ts : List T) → ((x : A) × L ts x) ⊎ ((rest : List T) × IsPlace L ts rest)
exact_decided {T} {A} {L} {r} c ts = by_step (r ts) refl
  where
    by_step : (o : Step T A) → r ts ≡ o → ((x : A) × L ts x) ⊎ ((rest : List T) × IsPlace L ts rest)
    by_step (Got x []) e = inl (x, exact_ok c ts x e)
    by_step (Got x (t ∷ rest)) e = inr (t ∷ rest, exact_left c ts (t ∷ rest) x e)
    by_step (Stop rest) e = inr (rest, exact_place c ts rest e)

-- ---- places, of any language

-- a prefix of a viable prefix is viable
pub viable_front : {T A : Type 0} {L : Lang T A} (f g : List T) → IsViable L (f ++ g) → IsViable L f
viable_front {L = L} f g v = record { more = g ++ v.more; value = v.value; spelled = subst (λ l. L l v.value) (append_assoc f g v.more) v.spelled }

-- where two lists are parted, one part reaches as far as the other or a token further
apart_by : {T A : Type 0} (L : Lang T A) (f g rest rest2 : List T) → f ++ rest ≡ g ++ rest2 → ((t : T) (others : List T) → rest ≡ t ∷ others → IsViable L (f ++ t ∷ []) → ⊥) → IsViable L g → length g ≤ length f
apart_by L [] [] rest rest2 e dead v = omega arith
apart_by L [] (t ∷ g) rest rest2 e dead v = absurd (dead t (g ++ rest2) e (viable_front (t ∷ []) g v))
apart_by L (t ∷ f) [] rest rest2 e dead v = omega arith
apart_by {T} {A} L (t ∷ f) (u ∷ g) rest rest2 e dead v =
    let q : u ≡ t = cc in
    let s : f ++ rest ≡ g ++ rest2 = cc in
    omega (arith, apart_by (λ l x. L (t ∷ l) x) f g rest rest2 s (λ w others p i. dead w others p (record { more = i.more; value = i.value; spelled = i.spelled })) (record { more = v.more; value = v.value; spelled = subst (λ h. L (h ∷ (g ++ v.more)) v.value) q v.spelled }))

same_left : {T : Type 0} (f g rest rest2 : List T) → f ++ rest ≡ g ++ rest2 → length f ≡ length g → rest ≡ rest2
same_left [] [] rest rest2 e h = e
same_left [] (t ∷ g) rest rest2 e h = absurd (omega (arith, h))
same_left (t ∷ f) [] rest rest2 e h = absurd (omega (arith, h))
same_left (t ∷ f) (u ∷ g) rest rest2 e h = let s : f ++ rest ≡ g ++ rest2 = cc in same_left f g rest rest2 s (omega (arith, h))

-- a list of tokens has one place
pub place_one : {T A : Type 0} {L : Lang T A} (ts rest rest2 : List T) → IsPlace L ts rest → IsPlace L ts rest2 → rest ≡ rest2
place_one {L = L} ts rest rest2 p q =
    let e : p.front ++ rest ≡ q.front ++ rest2 = sym p.parts ∙ q.parts in
    let a : length q.front ≤ length p.front = apart_by L p.front q.front rest rest2 e p.dead q.viable in
    let b : length p.front ≤ length q.front = apart_by L q.front p.front rest2 rest (sym e) q.dead p.viable in
    same_left p.front q.front rest rest2 e (omega (arith, a, b))

-- no token of a text is the place of a refusal
pub place_none : {T A : Type 0} {L : Lang T A} (ts rest : List T) (x : A) → L ts x → IsPlace L ts rest → rest ≡ []
place_none {T} {A} {L} ts rest x l p = place_one ts rest [] p (record { front = ts; parts = sym (append-nil ts); viable = record { more = []; value = x; spelled = subst (λ m. L m x) (sym (append-nil ts)) l }; dead = λ t others e v. cc })

-- ---- the place as a number of a token

drop_front : {T : Type 0} (f r : List T) → drop (length f) (f ++ r) ≡ r
drop_front [] r = refl
drop_front (t ∷ f) r = drop_front f r

-- the place is no longer than the list
pub place_within : {T A : Type 0} {L : Lang T A} (ts rest : List T) → IsPlace L ts rest → length rest ≤ length ts
place_within ts rest p = omega (arith, ap length p.parts, length-append p.front rest)

-- the place, counted in tokens from the front
pub place_at : {T A : Type 0} {L : Lang T A} (ts rest : List T) (n : ℕ) → IsPlace L ts rest → n ≡ length ts - length rest → IsPlace L ts (drop n ts)
place_at {L = L} ts rest n p e =
    let l : length p.front ≡ length ts - length rest = omega (arith, ap length p.parts, length-append p.front rest) in
    let d : drop n ts ≡ rest = ap (λ m. drop m ts) (e ∙ sym l) ∙ ap (λ m. drop (length p.front) m) p.parts ∙ drop_front p.front rest in
    subst (λ r. IsPlace L ts r) (sym d) p
