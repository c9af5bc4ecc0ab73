-- The tests on outstanding transfers say the same of the transfers under new numbers.
use Rattle.std.proofs.Common.{◌≡◌, ◌≢◌, ℕ, zero, suc, ◌+◌, ◌-◌, ◌<◌, ◌≤◌, List, [], ◌∷◌, ◌++◌, refl, sym, ap, ◌∙◌, arith, Bool, true, false, map}
use Rattle.std.specs.Prelude.{◌&&◌, ◌||◌, drop, Option, Some, None, nat_eq, nat_lt, nat_le, if◌then◌else◌}
use Rattle.std.specs.List.{list_any, range_with_len}
use Rattle.std.proofs.lemmas.Bool.{eqb-true, eqb-false, eq-eqb, ne_eqb, and_parts, le-leb, leb-true, lt-ltb, ltb-true}
use Rattle.bus_model.specs.declared.transfer.Transfer.{Transfer}
use Rattle.bus_model.specs.Places.{slow_place, slow_places}
use Rattle.direct_meaning.specs.Transfers.{meets, overlap}
use Rattle.prompt_semantics.specs.Device.{is_away, has_away, is_started, has_started, load_races, store_races, start_races, record_of, without}
use Rattle.boxes.specs.Every.{Every}
use Rattle.box_run_laws.specs.Layouts.{Numbering, Injective, Renumbers, renumbered}

-- a test of each item under new numbers
pub any_map : {A B : Type 0} (p : B → Bool) (q : A → Bool) (f : A → B) → ((a : A) → p (f a) ≡ q a) → (xs : List A) → list_any p (map f xs) ≡ list_any q xs
any_map p q f h [] = refl
any_map p q f h (x ∷ xs) = λ i. h x i || any_map p q f h xs i

-- a test that no item meets
pub any_none : {A : Type 0} (P : A → Type 0) (p : A → Bool) → ((a : A) → P a → p a ≡ false) → (xs : List A) → Every P xs → list_any p xs ≡ false
any_none P p h [] k = refl
any_none P p h (x ∷ xs) k = λ i. h x k.0 i || any_none P p h xs k.1 i

-- a number under an injective function
pub same_eq : (f : ℕ → ℕ) → Injective f → (a b : ℕ) → nat_eq (f a) (f b) ≡ nat_eq a b
same_eq f inj a b = by (nat_eq a b) refl
  where
    by : (t : Bool) → nat_eq a b ≡ t → nat_eq (f a) (f b) ≡ t
    by true e = eq-eqb (f a) (f b) (ap f (eqb-true a b e))
    by false e = ne_eqb (f a) (f b) (λ h. eqb-false a b e (inj a b h))

-- a transfer's slow places have nothing to do with its numbers
pub same_place : (nu : Numbering) (t : Transfer) (e : ℕ) → slow_place (renumbered nu t) e ≡ slow_place t e
unfolding slow_place
same_place nu t e = refl

same_map : {A B : Type 0} (f g : A → B) → ((a : A) → f a ≡ g a) → (xs : List A) → map f xs ≡ map g xs
same_map f g h [] = refl
same_map f g h (x ∷ xs) = λ i. h x i ∷ same_map f g h xs i

pub same_places : (nu : Numbering) (t : Transfer) → slow_places (renumbered nu t) ≡ slow_places t
same_places nu t = same_map (slow_place (renumbered nu t)) (slow_place t) (same_place nu t) (range_with_len 0 t.count)

pub same_meets : (nu : Numbering) (t : Transfer) (p : ℕ) → meets (renumbered nu t) p ≡ meets t p
same_meets nu t p = ap (list_any (nat_eq p)) (same_places nu t)

pub same_overlap : (nu : Numbering) (o t : Transfer) → overlap (renumbered nu o) (renumbered nu t) ≡ overlap o t
same_overlap nu o t = λ i. list_any (λ p. same_meets nu t p i) (same_places nu o i)

module _ (nu : Numbering) (is : Renumbers nu) where
  pub away_same : (ts : List Transfer) (n h : ℕ) → is_away (map (renumbered nu) ts) (nu.fasts n) h ≡ is_away ts n h
  away_same ts n h = any_map _ (λ t. nat_eq t.fast n && nat_eq t.half h) (renumbered nu) (λ t i. same_eq nu.fasts is.fasts t.fast n i && nat_eq t.half h) ts

  pub has_away_same : (ts : List Transfer) (n : ℕ) → has_away (map (renumbered nu) ts) (nu.fasts n) ≡ has_away ts n
  has_away_same ts n = any_map _ (λ t. nat_eq t.fast n) (renumbered nu) (λ t. same_eq nu.fasts is.fasts t.fast n) ts

  pub started_same : (ts : List Transfer) (tag : ℕ) → is_started (map (renumbered nu) ts) (nu.tags tag) ≡ is_started ts tag
  started_same ts tag = any_map _ (λ t. nat_eq t.tag tag) (renumbered nu) (λ t. same_eq nu.tags is.tags t.tag tag) ts

  in_range : (first count x : ℕ) → ((k : ℕ) → k < count → nu.tags (first + k) ≡ nu.tags first + k)
      → (nat_le (nu.tags first) (nu.tags x) && nat_lt (nu.tags x) (nu.tags first + count)) ≡ (nat_le first x && nat_lt x (first + count))
  in_range first count x h = by (nat_le first x && nat_lt x (first + count)) refl (nat_le (nu.tags first) (nu.tags x) && nat_lt (nu.tags x) (nu.tags first + count)) refl
    where
      yes : (a b c : ℕ) → a ≤ b → b < c → (nat_le a b && nat_lt b c) ≡ true
      yes a b c p q = let s : nat_le a b ≡ true = le-leb a b p in let t : nat_lt b c ≡ true = lt-ltb b c q in λ i. s i && t i

      by : (t : Bool) → (nat_le first x && nat_lt x (first + count)) ≡ t → (u : Bool) → (nat_le (nu.tags first) (nu.tags x) && nat_lt (nu.tags x) (nu.tags first + count)) ≡ u → u ≡ t
      by true e true f = refl
      by false e false f = refl
      by true e false f =
          let two = and_parts (nat_le first x) (nat_lt x (first + count)) e in
          let low : first ≤ x = leb-true first x two.0 in
          let high : x < first + count = ltb-true x (first + count) two.1 in
          let k : nu.tags (first + (x - first)) ≡ nu.tags first + (x - first) = h (x - first) (omega (arith, low, high)) in
          let back : first + (x - first) ≡ x = omega (arith, low) in
          let at : nu.tags x ≡ nu.tags first + (x - first) = ap nu.tags (sym back) ∙ k in
          sym f ∙ yes (nu.tags first) (nu.tags x) (nu.tags first + count) (omega (arith, at)) (omega (arith, at, low, high))
      by false e true f =
          let two = and_parts (nat_le (nu.tags first) (nu.tags x)) (nat_lt (nu.tags x) (nu.tags first + count)) f in
          let low : nu.tags first ≤ nu.tags x = leb-true (nu.tags first) (nu.tags x) two.0 in
          let high : nu.tags x < nu.tags first + count = ltb-true (nu.tags x) (nu.tags first + count) two.1 in
          let d = nu.tags x - nu.tags first in
          let k : nu.tags (first + d) ≡ nu.tags first + d = h d (omega (arith, low, high)) in
          let at : first + d ≡ x = is.tags (first + d) x (omega (arith, k, low)) in
          sym (yes first x (first + count) (omega (arith, at)) (omega (arith, at, low, high))) ∙ e

  pub has_started_same : (ts : List Transfer) (first count : ℕ) → ((k : ℕ) → k < count → nu.tags (first + k) ≡ nu.tags first + k)
      → has_started (map (renumbered nu) ts) (nu.tags first) count ≡ has_started ts first count
  has_started_same ts first count h = any_map _ (λ t. nat_le first t.tag && nat_lt t.tag (first + count)) (renumbered nu) (λ t. in_range first count t.tag h) ts

  pub load_races_same : (ts : List Transfer) (p : ℕ) → load_races (map (renumbered nu) ts) p ≡ load_races ts p
  load_races_same ts p = any_map _ (λ t. (if t.incoming then false else meets t p)) (renumbered nu) (λ t i. if t.incoming then false else same_meets nu t p i) ts

  pub store_races_same : (ts : List Transfer) (p : ℕ) → store_races (map (renumbered nu) ts) p ≡ store_races ts p
  store_races_same ts p = any_map _ (λ t. meets t p) (renumbered nu) (λ t. same_meets nu t p) ts

  pub start_races_same : (ts : List Transfer) (t : Transfer) → start_races (map (renumbered nu) ts) (renumbered nu t) ≡ start_races ts t
  start_races_same ts t =
      any_map _ (λ o. (if t.incoming then (if o.incoming then false else overlap o t) else overlap o t)) (renumbered nu)
      (λ o i. if t.incoming then (if o.incoming then false else same_overlap nu o t i) else same_overlap nu o t i) ts

  abbrev pub renumbered_record : Option Transfer → Option Transfer
  renumbered_record (Some t) = Some (renumbered nu t)
  renumbered_record None = None

  pub record_same : (tag : ℕ) (ts : List Transfer) → record_of (nu.tags tag) (map (renumbered nu) ts) ≡ renumbered_record (record_of tag ts)
  record_same tag [] = refl
  record_same tag (t ∷ ts) =
      (λ i. if same_eq nu.tags is.tags t.tag tag i then Some (renumbered nu t) else record_same tag ts i) ∙ by (nat_eq t.tag tag)
    where
      by : (b : Bool) → (if b then Some (renumbered nu t) else renumbered_record (record_of tag ts)) ≡ renumbered_record (if b then Some t else record_of tag ts)
      by true = refl
      by false = refl

  pub without_same : (tag : ℕ) (ts : List Transfer) → without (nu.tags tag) (map (renumbered nu) ts) ≡ map (renumbered nu) (without tag ts)
  without_same tag [] = refl
  without_same tag (t ∷ ts) =
      (λ i. if same_eq nu.tags is.tags t.tag tag i then map (renumbered nu) ts else renumbered nu t ∷ without_same tag ts i) ∙ by (nat_eq t.tag tag)
    where
      by : (b : Bool) → (if b then map (renumbered nu) ts else renumbered nu t ∷ map (renumbered nu) (without tag ts)) ≡ map (renumbered nu) (if b then ts else t ∷ without tag ts)
      by true = refl
      by false = refl

-- fewer transfers
pub each_without : (P : Transfer → Type 0) (tag : ℕ) (ts : List Transfer) → Every P ts → Every P (without tag ts)
each_without P tag [] h = h
each_without P tag (t ∷ ts) h = by (nat_eq t.tag tag) (each_without P tag ts h.1)
  where
    by : (b : Bool) → Every P (without tag ts) → Every P (if b then ts else t ∷ without tag ts)
    by true k = h.1
    by false k = (h.0, k)

pub each_all : {A : Type 0} (P : A → Type 0) → ((a : A) → P a) → (xs : List A) → Every P xs
each_all P f [] = tt
each_all P f (x ∷ xs) = (f x, each_all P f xs)

pub each_drop : {A : Type 0} (P : A → Type 0) (xs : List A) → Every P xs → Every P (drop 1 xs)
each_drop P [] h = tt
each_drop P (x ∷ xs) h = h.1

pub each_map : {A : Type 0} (P Q : A → Type 0) → ((a : A) → P a → Q a) → (xs : List A) → Every P xs → Every Q xs
each_map P Q f [] h = tt
each_map P Q f (x ∷ xs) h = (f x h.0, each_map P Q f xs h.1)

pub each_two : {A : Type 0} (P Q S : A → Type 0) → ((a : A) → P a → Q a → S a) → (xs : List A) → Every P xs → Every Q xs → Every S xs
each_two P Q S f [] h k = tt
each_two P Q S f (x ∷ xs) h k = (f x h.0 k.0, each_two P Q S f xs h.1 k.1)

pub each_three : {A : Type 0} (P Q S T : A → Type 0) → ((a : A) → P a → Q a → S a → T a) → (xs : List A) → Every P xs → Every Q xs → Every S xs → Every T xs
each_three P Q S T f [] h k l = tt
each_three P Q S T f (x ∷ xs) h k l = (f x h.0 k.0 l.0, each_three P Q S T f xs h.1 k.1 l.1)

pub each_append : {A : Type 0} (P : A → Type 0) (xs ys : List A) → Every P xs → Every P ys → Every P (xs ++ ys)
each_append P [] ys h k = k
each_append P (x ∷ xs) ys h k = (h.0, each_append P xs ys h.1 k)

-- a test that no item meets under new numbers
pub none_map : {A B : Type 0} (p : B → Bool) (f : A → B) → ((a : A) → p (f a) ≡ false) → (xs : List A) → list_any p (map f xs) ≡ false
none_map p f h [] = refl
none_map p f h (x ∷ xs) = λ i. h x i || none_map p f h xs i

-- a test that no number of a range meets
pub none_in_range : (q : ℕ → Bool) (f : ℕ → ℕ) (n a : ℕ) → ((e : ℕ) → a ≤ e → e < a + n → q (f e) ≡ false) → list_any q (map f (range_with_len a n)) ≡ false
none_in_range q f zero a h = refl
none_in_range q f (suc n) a h = λ i. h a (omega arith) (omega arith) i || none_in_range q f n (a + 1) (λ e k l. h e (omega (arith, k)) (omega (arith, l))) i

-- a place of no element
pub meets_none : (t : Transfer) (p : ℕ) → ((e : ℕ) → e < t.count → slow_place t e ≢ p) → meets t p ≡ false
meets_none t p h = none_in_range (nat_eq p) (slow_place t) t.count 0 (λ e k l. ne_eqb p (slow_place t e) (λ same. h e (omega (arith, l)) (sym same)))

-- where no store races, no load does
pub load_from_store : (ts : List Transfer) (p : ℕ) → store_races ts p ≡ false → load_races ts p ≡ false
load_from_store [] p h = refl
load_from_store (t ∷ ts) p h = by t.incoming (meets t p) (store_races ts p) refl h (load_from_store ts p)
  where
    by : (b m r : Bool) → store_races ts p ≡ r → (m || r) ≡ false → (store_races ts p ≡ false → load_races ts p ≡ false) → ((if b then false else m) || load_races ts p) ≡ false
    by b true r e h k = let z : true ≡ false = h in absurd (cc)
    by true false r e h k = k (e ∙ h)
    by false false r e h k = k (e ∙ h)
