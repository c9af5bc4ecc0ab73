-- Readers put together of faithful parts are faithful: nothing, one token, one part after the other, a
-- choice by the next token, a test of the next token.
use Rattle.std.proofs.Common.{◌≡◌, Bool, true, false, if◌then◌else◌, List, [], ◌∷◌, ◌++◌, Option, Some, None, refl, sym, ap, ◌∙◌, subst, append_assoc, ◌⊎◌, inl, inr}
use Rattle.readers.specs.Readers.{Step, Got, Stop, Reader, Test, head, never, any_token, and_then, bind, pure, taken, take_by, either, when}
use Rattle.readers.specs.Languages.{Lang, Both, Nothing, One, Either, When}
use Rattle.readers.specs.Places.{IsViable}
use Rattle.readers.specs.Exactness.{Read, Refused, Told, Explained, Complete, Faithful, Inhabited, Exact, Ahead}

-- the next token where tokens stand before it depends on the next one behind them
pub head_front : {T : Type 0} (f other rest : List T) → head other ≡ head rest → head (f ++ other) ≡ head (f ++ rest)
head_front [] other rest h = h
head_front (t ∷ f) other rest h = refl

-- a list of tokens up to what two parts leave
pub front_parts : {T : Type 0} (ts f g rest rest2 : List T) → ts ≡ f ++ rest → rest ≡ g ++ rest2 → ts ≡ (f ++ g) ++ rest2
front_parts ts f g rest rest2 p q = p ∙ ap (λ l. f ++ l) q ∙ sym (append_assoc f g rest2)

-- ---- nothing

explained_pure : {T A : Type 0} (x : A) → Explained {T = T} (Nothing x) (pure x)
explained_pure x = record { told = λ ts. record { front = []; parts = refl; spelled = (refl, refl); again = λ other h. refl } }

complete_pure : {T A : Type 0} (g : Test T) (x : A) → Complete g (Nothing x) (pure x)
complete_pure g x = record { reads = λ f w y l h. ap (λ m. Got x (m ++ w)) l.0 ∙ ap (λ z. Got z w) (sym l.1) }

pub faithful_pure : {T A : Type 0} {g : Test T} (x : A) → Faithful g (Nothing x) (pure x)
faithful_pure {g = g} x = record { explained = explained_pure x; complete = complete_pure g x }

-- ---- one token

module _ {T A : Type 0} (p : T → Option A) where
  at_end : (other : List T) → head other ≡ None → take_by p other ≡ Stop other
  at_end [] h = refl
  at_end (t ∷ ts) h = cc

  refused : (t : T) → p t ≡ None → (other : List T) → head other ≡ Some t → take_by p other ≡ Stop other
  refused t e [] h = cc
  refused t e (u ∷ us) h = let s : u ≡ t = cc in ap (λ v. taken (p v) (u ∷ us) us) s ∙ ap (λ o. taken o (u ∷ us) us) e

  told_take : (t : T) (ts : List T) (o : Option A) → p t ≡ o → Told (One p) (take_by p) (t ∷ ts) (taken o (t ∷ ts) ts)
  told_take t ts (Some x) e = record { front = t ∷ []; parts = refl; spelled = record { token = t; alone = refl; accepted = e }; again = λ other h. ap (λ o. taken o (t ∷ other) other) e }
  told_take t ts None e = record { front = []; parts = refl; begun = inl refl; again = refused t e }

  told_one : (ts : List T) → Told (One p) (take_by p) ts (take_by p ts)
  told_one [] = record { front = []; parts = refl; begun = inl refl; again = at_end }
  told_one (t ∷ ts) = told_take t ts (p t) refl

  complete_take : (g : Test T) → Complete g (One p) (take_by p)
  complete_take g = record { reads = λ f w x l h. ap (λ m. take_by p (m ++ w)) l.alone ∙ ap (λ o. taken o (l.token ∷ w) w) l.accepted }

  -- one token of a kind, whether there is such a token or not
  pub faithful_take : {g : Test T} → Faithful g (One p) (take_by p)
  faithful_take {g} = record { explained = record { told = told_one }; complete = complete_take g }

-- ---- one part after the other

both_assoc : {T A B : Type 0} {L : Lang T A} {K : A → Lang T B} (f g h : List T) (x : A) (y : B) → L f x → K x (g ++ h) y → Both L K ((f ++ g) ++ h) y
both_assoc f g h x y l k = record { value = x; left = f; right = g ++ h; parts = append_assoc f g h; first = l; second = k }

module _ {T A B : Type 0} {L : Lang T A} {r : Reader T A} {K : A → Lang T B} {k : A → Reader T B} (e : Explained L r) (d : (x : A) (f : List T) → L f x → Explained (K x) (k x)) (i : (x : A) (f : List T) → L f x → Inhabited (K x)) where
  -- the second part takes up at the token before which the first one stopped
  bind_again : (f g rest rest2 other : List T) (x : A) (o : Step T B) → ((other : List T) → head other ≡ head rest → r (f ++ other) ≡ Got x other) → rest ≡ g ++ rest2 → head other ≡ head rest2 → k x (g ++ other) ≡ o → bind r k ((f ++ g) ++ other) ≡ o
  bind_again f g rest rest2 other x o again p h w =
      ap (λ l. and_then (r l) k) (append_assoc f g other)
      ∙ ap (λ o. and_then o k) (again (g ++ other) (head_front g other rest2 h ∙ ap head (sym p)))
      ∙ w

  -- a viable prefix goes on through the second part
  begun_first : (f : List T) → (f ≡ []) ⊎ IsViable L f → (f ≡ []) ⊎ IsViable (Both L K) f
  begun_first f (inl h) = inl h
  begun_first f (inr v) =
      let j = i v.value (f ++ v.more) v.spelled in
      inr (record { more = v.more ++ j.text; value = j.value; spelled = record { value = v.value; left = f ++ v.more; right = j.text; parts = sym (append_assoc f v.more j.text); first = v.spelled; second = j.spelled } })

  begun_second : (f g : List T) (x : A) → L f x → (g ≡ []) ⊎ IsViable (K x) g → ((f ++ g) ≡ []) ⊎ IsViable (Both L K) (f ++ g)
  begun_second f g x l (inl h) =
      let j = i x f l in
      inr (record { more = j.text; value = j.value; spelled = both_assoc f g j.text x j.value l (subst (λ m. K x (m ++ j.text) j.value) (sym h) j.spelled) })
  begun_second f g x l (inr v) = inr (record { more = v.more; value = v.value; spelled = both_assoc f g v.more x v.value l v.spelled })

  told_second : (ts : List T) (x : A) (rest : List T) → Read L r ts x rest → (o : Step T B) → Told (K x) (k x) rest o → Told (Both L K) (bind r k) ts o
  told_second ts x rest t (Got y rest2) u = record {
    front = t.front ++ u.front;
    parts = front_parts ts t.front u.front rest rest2 t.parts u.parts;
    spelled = record { value = x; left = t.front; right = u.front; parts = refl; first = t.spelled; second = u.spelled };
    again = λ other h. bind_again t.front u.front rest rest2 other x (Got y other) t.again u.parts h (u.again other h);
  }
  told_second ts x rest t (Stop rest2) u = record {
    front = t.front ++ u.front;
    parts = front_parts ts t.front u.front rest rest2 t.parts u.parts;
    begun = begun_second t.front u.front x t.spelled u.begun;
    again = λ other h. bind_again t.front u.front rest rest2 other x (Stop other) t.again u.parts h (u.again other h);
  }

  told_both : (ts : List T) (o : Step T A) → Told L r ts o → Told (Both L K) (bind r k) ts (and_then o k)
  told_both ts (Got x rest) t = told_second ts x rest t (k x rest) ((d x t.front t.spelled).told rest)
  told_both ts (Stop rest) t = record { front = t.front; parts = t.parts; begun = begun_first t.front t.begun; again = λ other h. ap (λ o. and_then o k) (t.again other h) }

complete_bind : {T A B : Type 0} {g g2 : Test T} {L : Lang T A} {r : Reader T A} {K : A → Lang T B} {k : A → Reader T B} → Complete g L r → ((x : A) (f : List T) → L f x → Complete g2 (K x) (k x)) → ((x : A) (f : List T) → L f x → Ahead g2 g false (K x)) → Complete g2 (Both L K) (bind r k)
complete_bind {r = r} {k = k} c d apart = record {
  reads = λ f w y b h.
      ap (λ l. and_then (r l) k) (ap (λ l. l ++ w) b.parts ∙ append_assoc b.left b.right w)
      ∙ ap (λ o. and_then o k) (c.reads b.left (b.right ++ w) b.value b.first ((apart b.value b.left b.first).sees b.right w y b.second h))
      ∙ (d b.value b.left b.first).reads b.right w y b.second h;
}

-- One part after the other. What stands behind is asked only of the values that the first part spells,
-- and has a text at each of them; no token with which the first part might go on stands at its head.
pub faithful_bind : {T A B : Type 0} {g g2 : Test T} {L : Lang T A} {r : Reader T A} {K : A → Lang T B} {k : A → Reader T B} → Faithful g L r → ((x : A) (f : List T) → L f x → Exact g2 (K x) (k x)) → ((x : A) (f : List T) → L f x → Ahead g2 g false (K x)) → Faithful g2 (Both L K) (bind r k)
faithful_bind {r = r} c d apart = record {
  explained = record { told = λ ts. told_both c.explained (λ x f l. (d x f l).faithful.explained) (λ x f l. (d x f l).some) ts (r ts) (c.explained.told ts) };
  complete = complete_bind c.complete (λ x f l. (d x f l).faithful.complete) apart;
}

-- ---- one or the other, by the next token

module _ {T A : Type 0} (test : Test T) (L K : Lang T A) (r q : Reader T A) where
  chosen : (ts f rest other : List T) (v : Bool) → test (head ts) ≡ v → ts ≡ f ++ rest → head other ≡ head rest → (o : Step T A) → (if v then r (f ++ other) else q (f ++ other)) ≡ o → either test r q (f ++ other) ≡ o
  chosen ts f rest other v h p s o e = ap (λ b. if b then r (f ++ other) else q (f ++ other)) (ap test (head_front f other rest s ∙ ap head (sym p)) ∙ h) ∙ e

  told_left : (ts : List T) → test (head ts) ≡ true → (o : Step T A) → Told L r ts o → Told (Either L K) (either test r q) ts o
  told_left ts h (Got x rest) t = record { front = t.front; parts = t.parts; spelled = inl t.spelled; again = λ other s. chosen ts t.front rest other true h t.parts s (Got x other) (t.again other s) }
  told_left ts h (Stop rest) t = record { front = t.front; parts = t.parts; begun = begun t.begun; again = λ other s. chosen ts t.front rest other true h t.parts s (Stop other) (t.again other s) }
    where
      begun : (t.front ≡ []) ⊎ IsViable L t.front → (t.front ≡ []) ⊎ IsViable (Either L K) t.front
      begun (inl e) = inl e
      begun (inr v) = inr (record { more = v.more; value = v.value; spelled = inl v.spelled })

  told_right : (ts : List T) → test (head ts) ≡ false → (o : Step T A) → Told K q ts o → Told (Either L K) (either test r q) ts o
  told_right ts h (Got x rest) t = record { front = t.front; parts = t.parts; spelled = inr t.spelled; again = λ other s. chosen ts t.front rest other false h t.parts s (Got x other) (t.again other s) }
  told_right ts h (Stop rest) t = record { front = t.front; parts = t.parts; begun = begun t.begun; again = λ other s. chosen ts t.front rest other false h t.parts s (Stop other) (t.again other s) }
    where
      begun : (t.front ≡ []) ⊎ IsViable K t.front → (t.front ≡ []) ⊎ IsViable (Either L K) t.front
      begun (inl e) = inl e
      begun (inr v) = inr (record { more = v.more; value = v.value; spelled = inr v.spelled })

  told_either : Explained L r → Explained K q → (ts : List T) (b : Bool) → test (head ts) ≡ b → Told (Either L K) (either test r q) ts (if b then r ts else q ts)
  told_either d e ts true h = told_left ts h (r ts) (d.told ts)
  told_either d e ts false h = told_right ts h (q ts) (e.told ts)

reads_either : {T A : Type 0} (test : Test T) {g : Test T} {L K : Lang T A} {r q : Reader T A} → Complete g L r → Complete g K q → Ahead g test true L → Ahead g test false K → (f w : List T) (x : A) → Either L K f x → g (head w) ≡ false → either test r q (f ++ w) ≡ Got x w
reads_either test {r = r} {q = q} c d on off f w x (inl l) h = ap (λ b. if b then r (f ++ w) else q (f ++ w)) (on.sees f w x l h) ∙ c.reads f w x l h
reads_either test {r = r} {q = q} c d on off f w x (inr k) h = ap (λ b. if b then r (f ++ w) else q (f ++ w)) (off.sees f w x k h) ∙ d.reads f w x k h

-- one or the other, where the next token tells which
pub faithful_either : {T A : Type 0} (test : Test T) {g : Test T} {L K : Lang T A} {r q : Reader T A} → Faithful g L r → Faithful g K q → Ahead g test true L → Ahead g test false K → Faithful g (Either L K) (either test r q)
faithful_either test {L = L} {K = K} {r = r} {q = q} c d on off = record {
  explained = record { told = λ ts. told_either test L K r q c.explained d.explained ts (test (head ts)) refl };
  complete = record { reads = reads_either test c.complete d.complete on off };
}

-- ---- a test of the next token

-- a text with a first token isn't empty
solid : {T A : Type 0} {L : Lang T A} → Ahead never any_token true L → (x : A) → L [] x → ⊥
solid a x l = let h : false ≡ true = a.sees [] [] x l refl in cc

module _ {T A : Type 0} (test : Test T) (L : Lang T A) (r : Reader T A) (first : Ahead never any_token true L) where
  passed : (ts f other : List T) → test (head ts) ≡ true → head ts ≡ head (f ++ other) → (o : Step T A) → r (f ++ other) ≡ o → when test r (f ++ other) ≡ o
  passed ts f other h s o e = ap (λ b. if b then r (f ++ other) else Stop (f ++ other)) (ap test (sym s) ∙ h) ∙ e

  read_when : (ts : List T) → test (head ts) ≡ true → (f rest : List T) (x : A) → ts ≡ f ++ rest → L f x → ((other : List T) → head other ≡ head rest → r (f ++ other) ≡ Got x other) → Read (When test L) (when test r) ts x rest
  read_when ts h [] rest x p l w = absurd (solid first x l)
  read_when ts h (t ∷ f) rest x p l w = record { front = t ∷ f; parts = p; spelled = (l, sym (ap (λ m. test (head m)) p) ∙ h); again = λ other s. passed ts (t ∷ f) other h (ap head p) (Got x other) (w other s) }

  refused_when : (ts : List T) → test (head ts) ≡ true → (f rest : List T) → ts ≡ f ++ rest → (f ≡ []) ⊎ IsViable L f → ((other : List T) → head other ≡ head rest → r (f ++ other) ≡ Stop other) → Refused (When test L) (when test r) ts rest
  refused_when ts h [] rest p b w = record { front = []; parts = p; begun = inl refl; again = λ other s. passed ts [] other h (ap head p ∙ sym s) (Stop other) (w other s) }
  refused_when ts h (t ∷ f) rest p b w = record { front = t ∷ f; parts = p; begun = begun b; again = λ other s. passed ts (t ∷ f) other h (ap head p) (Stop other) (w other s) }
    where
      begun : ((t ∷ f) ≡ []) ⊎ IsViable L (t ∷ f) → ((t ∷ f) ≡ []) ⊎ IsViable (When test L) (t ∷ f)
      begun (inl e) = inl e
      begun (inr v) = inr (record { more = v.more; value = v.value; spelled = (v.spelled, sym (ap (λ m. test (head m)) p) ∙ h) })

  told_passed : (ts : List T) → test (head ts) ≡ true → (o : Step T A) → Told L r ts o → Told (When test L) (when test r) ts o
  told_passed ts h (Got x rest) t = read_when ts h t.front rest x t.parts t.spelled t.again
  told_passed ts h (Stop rest) t = refused_when ts h t.front rest t.parts t.begun t.again

  told_when : Explained L r → (ts : List T) (b : Bool) → test (head ts) ≡ b → Told (When test L) (when test r) ts (if b then r ts else Stop ts)
  told_when d ts true h = told_passed ts h (r ts) (d.told ts)
  told_when d ts false h = record { front = []; parts = refl; begun = inl refl; again = λ other s. ap (λ b. if b then r other else Stop other) (ap test s ∙ h) }

  ahead_first : (f w : List T) (x : A) → L f x → test (head f) ≡ true → test (head (f ++ w)) ≡ true
  ahead_first [] w x l e = absurd (solid first x l)
  ahead_first (t ∷ f) w x l e = e

-- a part whose texts have a first token, which is to pass a test
pub faithful_when : {T A : Type 0} (test : Test T) {g : Test T} {L : Lang T A} {r : Reader T A} → Ahead never any_token true L → Faithful g L r → Faithful g (When test L) (when test r)
faithful_when test {L = L} {r = r} first c = record {
  explained = record { told = λ ts. told_when test L r first c.explained ts (test (head ts)) refl };
  complete = record { reads = λ f w x l h. ap (λ b. if b then r (f ++ w) else Stop (f ++ w)) (ahead_first test L r first f w x l.0 l.1) ∙ c.complete.reads f w x l.0 h };
}
