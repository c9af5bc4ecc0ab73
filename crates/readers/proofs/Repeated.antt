-- Items that are read one after the other, as long as the next token begins one.
use Rattle.std.proofs.Common.{◌≡◌, ℕ, zero, suc, ◌≤◌, ◌<◌, Bool, true, false, if◌then◌else◌, List, [], ◌∷◌, ◌++◌, length, Option, None, refl, sym, ap, ◌∙◌, subst, append_assoc, append-nil, length-append, arith, ◌⊎◌, inl, inr}
use Rattle.readers.specs.Readers.{Step, Got, Stop, Reader, Test, head, and_then, turns, many}
use Rattle.readers.specs.Languages.{Lang, Many, none, more}
use Rattle.readers.specs.Places.{IsViable}
use Rattle.readers.specs.Exactness.{Read, Told, Faithful, Ahead, Items}
use Rattle.readers.proofs.Parts.{head_front, front_parts}

-- a list without a token at its head is empty
no_head : {T : Type 0} (goes : Test T) → goes None ≡ false → (ts : List T) → goes (head ts) ≡ true → (length ts ≤ 0) → ⊥
no_head goes ended [] h n = let x : true ≡ false = sym h ∙ ended in cc
no_head goes ended (t ∷ ts) h n = omega (arith, n)

-- a list at whose head there is a token has a token
pub some_length : {T : Type 0} (goes : Test T) → goes None ≡ false → (ts : List T) → goes (head ts) ≡ true → 0 < length ts
some_length goes ended [] h = absurd (no_head goes ended [] h (omega arith))
some_length goes ended (t ∷ ts) h = omega arith

module _ {T B : Type 0} {goes stays : Test T} {L : B → Lang T B} {item : B → Reader T B} (items : Items goes stays L item) where
  -- a text of an item has a token
  item_length : (b c : B) (f : List T) → L b f c → 0 < length f
  item_length b c f l = some_length goes items.ended f (ap (λ m. goes (head m)) (sym (append-nil f)) ∙ (items.begin b).sees f [] c l refl)

  left_shorter : (b c : B) (ts rest : List T) → Read (L b) (item b) ts c rest → length rest < length ts
  left_shorter b c ts rest t = omega (arith, ap length t.parts, length-append t.front rest, item_length b c t.front t.spelled)

  -- an item takes a token
  pub items_shorter : (b c : B) (ts rest : List T) → item b ts ≡ Got c rest → length rest < length ts
  items_shorter b c ts rest h = by_step (item b ts) ((items.faithful b).explained.told ts) h
    where
      by_step : (o : Step T B) → Told (L b) (item b) ts o → o ≡ Got c rest → length rest < length ts
      by_step (Got d u) t e = let q : u ≡ rest = cc in omega (arith, left_shorter b d ts u t, ap length q)
      by_step (Stop u) t e = cc

  -- ---- steps of the reader

  turns_done : (n : ℕ) (b : B) (ts : List T) → goes (head ts) ≡ false → turns goes item n b ts ≡ Got b ts
  turns_done zero b ts h = ap (λ v. if v then Stop ts else Got b ts) h
  turns_done (suc n) b ts h = ap (λ v. if v then and_then (item b ts) (turns goes item n) else Got b ts) h

  turns_goes : (n : ℕ) (b : B) (ts : List T) → goes (head ts) ≡ true → turns goes item (suc n) b ts ≡ and_then (item b ts) (turns goes item n)
  turns_goes n b ts h = ap (λ v. if v then and_then (item b ts) (turns goes item n) else Got b ts) h

  -- what is left after an item is read alike, whatever the bound
  item_same : (n m : ℕ) (b : B) (ts : List T) → ((c : B) (rest : List T) → length rest ≤ n → length rest ≤ m → turns goes item n c rest ≡ turns goes item m c rest) → length ts ≤ suc n → length ts ≤ suc m → (o : Step T B) → Told (L b) (item b) ts o → and_then o (turns goes item n) ≡ and_then o (turns goes item m)
  item_same n m b ts same h k (Got c rest) t = same c rest (omega (arith, h, left_shorter b c ts rest t)) (omega (arith, k, left_shorter b c ts rest t))
  item_same n m b ts same h k (Stop rest) t = refl

  turns_same : (n m : ℕ) (b : B) (ts : List T) → length ts ≤ n → length ts ≤ m → turns goes item n b ts ≡ turns goes item m b ts
  turns_same zero zero b ts h k = refl
  turns_same zero (suc m) b ts h k = by_test (goes (head ts)) refl
    where
      by_test : (v : Bool) → goes (head ts) ≡ v → turns goes item zero b ts ≡ turns goes item (suc m) b ts
      by_test false e = turns_done zero b ts e ∙ sym (turns_done (suc m) b ts e)
      by_test true e = absurd (no_head goes items.ended ts e h)
  turns_same (suc n) zero b ts h k = by_test (goes (head ts)) refl
    where
      by_test : (v : Bool) → goes (head ts) ≡ v → turns goes item (suc n) b ts ≡ turns goes item zero b ts
      by_test false e = turns_done (suc n) b ts e ∙ sym (turns_done zero b ts e)
      by_test true e = absurd (no_head goes items.ended ts e k)
  turns_same (suc n) (suc m) b ts h k = by_test (λ c rest i j. turns_same n m c rest i j) (goes (head ts)) refl
    where
      by_test : ((c : B) (rest : List T) → length rest ≤ n → length rest ≤ m → turns goes item n c rest ≡ turns goes item m c rest) → (v : Bool) → goes (head ts) ≡ v → turns goes item (suc n) b ts ≡ turns goes item (suc m) b ts
      by_test same false e = turns_done (suc n) b ts e ∙ sym (turns_done (suc m) b ts e)
      by_test same true e = turns_goes n b ts e ∙ item_same n m b ts same h k (item b ts) ((items.faithful b).explained.told ts) ∙ sym (turns_goes m b ts e)

  -- no item more
  pub many_done : (b : B) (ts : List T) → goes (head ts) ≡ false → many goes item b ts ≡ Got b ts
  unfolding many
  many_done b ts e = turns_done (length ts) b ts e

  -- one item more
  pub many_more : (b : B) (ts : List T) → goes (head ts) ≡ true → many goes item b ts ≡ and_then (item b ts) (many goes item)
  unfolding many
  many_more b [] e = absurd (no_head goes items.ended [] e (omega arith))
  many_more b (t ∷ ts) e = turns_goes (length ts) b (t ∷ ts) e ∙ by_item (item b (t ∷ ts)) ((items.faithful b).explained.told (t ∷ ts))
    where
      by_item : (o : Step T B) → Told (L b) (item b) (t ∷ ts) o → and_then o (turns goes item (length ts)) ≡ and_then o (many goes item)
      by_item (Got c rest) r = turns_same (length ts) (length rest) c rest (omega (arith, left_shorter b c (t ∷ ts) rest r)) (omega arith)
      by_item (Stop rest) r = refl

  -- ---- what the reader answers

  -- the tokens of an item, and whatever follows it, begin one
  more_again : (b : B) (ts f rest other : List T) (o : Step T B) → goes (head ts) ≡ true → ts ≡ f ++ rest → head other ≡ head rest → and_then (item b (f ++ other)) (many goes item) ≡ o → many goes item b (f ++ other) ≡ o
  more_again b ts f rest other o e p s w = many_more b (f ++ other) (ap goes (head_front f other rest s ∙ ap head (sym p)) ∙ e) ∙ w

  begun_item : (b : B) (f : List T) → (f ≡ []) ⊎ IsViable (L b) f → (f ≡ []) ⊎ IsViable (Many L b) f
  begun_item b f (inl h) = inl h
  begun_item b f (inr v) = inr (record { more = v.more; value = v.value; spelled = more b v.value v.value (f ++ v.more) (f ++ v.more) [] (sym (append-nil (f ++ v.more))) v.spelled (none v.value [] refl) })

  begun_later : (b c : B) (f g : List T) → L b f c → (g ≡ []) ⊎ IsViable (Many L c) g → ((f ++ g) ≡ []) ⊎ IsViable (Many L b) (f ++ g)
  begun_later b c f g l (inl h) = inr (record { more = []; value = c; spelled = more b c c ((f ++ g) ++ []) f [] (append-nil (f ++ g) ∙ ap (λ m. f ++ m) h) l (none c [] refl) })
  begun_later b c f g l (inr v) = inr (record { more = v.more; value = v.value; spelled = more b c v.value ((f ++ g) ++ v.more) f (g ++ v.more) (append_assoc f g v.more) l v.spelled })

  -- the place after an item, where the rest of the items is told
  told_later : (b c : B) (ts rest : List T) → goes (head ts) ≡ true → Read (L b) (item b) ts c rest → (o : Step T B) → Told (Many L c) (many goes item c) rest o → Told (Many L b) (many goes item b) ts o
  told_later b c ts rest e t (Got d rest2) u = record {
    front = t.front ++ u.front;
    parts = front_parts ts t.front u.front rest rest2 t.parts u.parts;
    spelled = more b c d (t.front ++ u.front) t.front u.front refl t.spelled u.spelled;
    again = λ other s. more_again b ts (t.front ++ u.front) rest2 other (Got d other) e (front_parts ts t.front u.front rest rest2 t.parts u.parts) s
        (ap (λ l. and_then (item b l) (many goes item)) (append_assoc t.front u.front other)
        ∙ ap (λ o. and_then o (many goes item)) (t.again (u.front ++ other) (head_front u.front other rest2 s ∙ ap head (sym u.parts)))
        ∙ u.again other s);
  }
  told_later b c ts rest e t (Stop rest2) u = record {
    front = t.front ++ u.front;
    parts = front_parts ts t.front u.front rest rest2 t.parts u.parts;
    begun = begun_later b c t.front u.front t.spelled u.begun;
    again = λ other s. more_again b ts (t.front ++ u.front) rest2 other (Stop other) e (front_parts ts t.front u.front rest rest2 t.parts u.parts) s
        (ap (λ l. and_then (item b l) (many goes item)) (append_assoc t.front u.front other)
        ∙ ap (λ o. and_then o (many goes item)) (t.again (u.front ++ other) (head_front u.front other rest2 s ∙ ap head (sym u.parts)))
        ∙ u.again other s);
  }

  told_more : (b : B) (ts : List T) → goes (head ts) ≡ true → (o : Step T B) → Told (L b) (item b) ts o → ((c : B) (rest : List T) → length rest < length ts → Told (Many L c) (many goes item c) rest (many goes item c rest)) → Told (Many L b) (many goes item b) ts (and_then o (many goes item))
  told_more b ts e (Stop rest) t rec = record {
    front = t.front;
    parts = t.parts;
    begun = begun_item b t.front t.begun;
    again = λ other s. more_again b ts t.front rest other (Stop other) e t.parts s (ap (λ o. and_then o (many goes item)) (t.again other s));
  }
  told_more b ts e (Got c rest) t rec = told_later b c ts rest e t (many goes item c rest) (rec c rest (left_shorter b c ts rest t))

  told_many : (n : ℕ) (b : B) (ts : List T) → length ts < n → Told (Many L b) (many goes item b) ts (many goes item b ts)
  told_many zero b ts h = absurd (omega (arith, h))
  told_many (suc n) b ts h = by_test (λ c rest k. told_many n c rest (omega (arith, h, k))) (goes (head ts)) refl
    where
      by_test : ((c : B) (rest : List T) → length rest < length ts → Told (Many L c) (many goes item c) rest (many goes item c rest)) → (v : Bool) → goes (head ts) ≡ v → Told (Many L b) (many goes item b) ts (many goes item b ts)
      by_test rec false e = subst (Told (Many L b) (many goes item b) ts) (sym (many_done b ts e)) (record { front = []; parts = refl; spelled = none b [] refl; again = λ other s. many_done b other (ap goes s ∙ e) })
      by_test rec true e = subst (Told (Many L b) (many goes item b) ts) (sym (many_more b ts e)) (told_more b ts e (item b ts) ((items.faithful b).explained.told ts) rec)

  -- ---- what is spelled is read

  -- the token at which items, or what stands behind them, begin
  pub ahead_items : {after : Test T} (test : Test T) (v : Bool) → ((t : Option T) → goes t ≡ true → test t ≡ v) → ((t : Option T) → after t ≡ false → test t ≡ v) → (b : B) → Ahead after test v (Many L b)
  ahead_items {after} test v on off b = record { sees = sees b }
    where
      sees : (b : B) (f w : List T) (x : B) → Many L b f x → after (head w) ≡ false → test (head (f ++ w)) ≡ v
      sees b f w x (none _ _ p) h = ap (λ l. test (head (l ++ w))) p ∙ off (head w) h
      sees b f w x (more _ d _ _ g k p l m) h =
          let q : f ++ w ≡ g ++ (k ++ w) = ap (λ l. l ++ w) p ∙ append_assoc g k w in
          ap (λ l. test (head l)) q ∙ on (head (g ++ (k ++ w))) ((items.begin b).sees g (k ++ w) d l refl)

  module _ {after : Test T} (ends : (t : Option T) → after t ≡ false → goes t ≡ false) (ends2 : (t : Option T) → after t ≡ false → stays t ≡ false) where
    reads_many : (b c : B) (f w : List T) → Many L b f c → after (head w) ≡ false → many goes item b (f ++ w) ≡ Got c w
    reads_many b c f w (none _ _ p) h = ap (λ l. many goes item b (l ++ w)) p ∙ many_done b w (ends (head w) h)
    reads_many b c f w (more _ d _ _ g k p l m) h =
        let q : f ++ w ≡ g ++ (k ++ w) = ap (λ l. l ++ w) p ∙ append_assoc g k w in
        many_more b (f ++ w) (ap (λ l. goes (head l)) q ∙ (items.begin b).sees g (k ++ w) d l refl)
        ∙ ap (λ l. and_then (item b l) (many goes item)) q
        ∙ ap (λ o. and_then o (many goes item)) ((items.faithful b).complete.reads g (k ++ w) d l ((ahead_items {after = after} stays false items.apart ends2 d).sees k w c m h))
        ∙ reads_many d c k w m h

    -- items, where no token behind them begins one, nor goes on with one
    pub faithful_many : (b : B) → Faithful after (Many L b) (many goes item b)
    faithful_many b = record {
      explained = record { told = λ ts. told_many (suc (length ts)) b ts (omega arith) };
      complete = record { reads = λ f w x m h. reads_many b x f w m h };
    }
