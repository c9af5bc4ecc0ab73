-- Lists of outstanding transfers, looked up by their tags.
use Rattle.std.proofs.Common.{◌≡◌, ◌≢◌, ℕ, ℤ, ◌+◌, Bool, true, false, List, [], ◌∷◌, ◌++◌, sym, refl, ap, ◌∙◌, inl, inr, ⊎_elim, ◌⊎◌, subst, arith, eq-eqb, ne_eqb}
use Rattle.std.specs.Prelude.{◌||◌, Option, Some, None, if◌then◌else◌, nat_eq}
use Rattle.std.specs.List.{list_any}
use native.Mathlib.Decide.{ℕ_discrete}
use Rattle.bus_model.specs.declared.transfer.Transfer.{Transfer}
use Rattle.bus_model.specs.declared.transfer.Started.{Started}
use Rattle.bus_model.specs.Engines.{Flight, flight_of, with_flight, started_of}
use Rattle.prompt_semantics.specs.Device.{record_of, without}
use Rattle.order_meaning.specs.Machine.{transfers_of, without_flight, is_engine, held_by}
use Rattle.order_meaning.specs.Run.{steps_left, all_left}
use Rattle.order_meaning.specs.Agree.{with_list, lists_of, TagsApart}

-- ---- a choice by a tag

pub both_ways : (b : Bool) → b ≡ true → b ≡ false → ⊥
both_ways b x y = cc

pub if_true : {A : Type 0} (b : Bool) (x y : A) → b ≡ true → (if b then x else y) ≡ x
if_true b x y e = ap (λ c. if c then x else y) e

pub if_false : {A : Type 0} (b : Bool) (x y : A) → b ≡ false → (if b then x else y) ≡ y
if_false b x y e = ap (λ c. if c then x else y) e

pub same_some : {A : Type 0} (a b : A) → Some a ≡ Some b → a ≡ b
same_some a b e = cc

pub none_some : {A : Type 0} (o : Option A) (a : A) → o ≡ None → o ≡ Some a → ⊥
none_some o a p q = cc

-- ---- records by flights, started transfers by records

abbrev pub transfer_in : Option Flight → Option Transfer
transfer_in None = None
transfer_in (Some f) = Some f.transfer

abbrev pub started_in : (ℕ → ℕ → List ℤ) → Option Transfer → Option Started
started_in halves None = None
started_in halves (Some t) = Some (with_list halves t)

pub record_by : (xs : List Flight) (tag : ℕ) → record_of tag (transfers_of xs) ≡ transfer_in (flight_of xs tag)
record_by [] tag = refl
record_by (x ∷ xs) tag = ap (λ r. if nat_eq x.transfer.tag tag then Some x.transfer else r) (record_by xs tag) ∙ by (nat_eq x.transfer.tag tag)
  where
    by : (b : Bool) → (if b then Some x.transfer else transfer_in (flight_of xs tag)) ≡ transfer_in (if b then Some x else flight_of xs tag)
    by true = refl
    by false = refl

pub started_by : (halves : ℕ → ℕ → List ℤ) (ts : List Transfer) (tag : ℕ) → started_of (lists_of halves ts) tag ≡ started_in halves (record_of tag ts)
started_by halves [] tag = refl
started_by halves (t ∷ ts) tag = ap (λ r. if nat_eq t.tag tag then Some (with_list halves t) else r) (started_by halves ts tag) ∙ by (nat_eq t.tag tag)
  where
    by : (b : Bool) → (if b then Some (with_list halves t) else started_in halves (record_of tag ts)) ≡ started_in halves (if b then Some t else record_of tag ts)
    by true = refl
    by false = refl

-- a started transfer has its record
pub record_of_started : (halves : ℕ → ℕ → List ℤ) (ts : List Transfer) (tag : ℕ) (st : Started) → started_of (lists_of halves ts) tag ≡ Some st → record_of tag ts ≡ Some st.transfer
record_of_started halves ts tag st h = by (record_of tag ts) refl
  where
    by : (o : Option Transfer) → record_of tag ts ≡ o → record_of tag ts ≡ Some st.transfer
    by None e = absurd (none_some (started_of (lists_of halves ts) tag) st (started_by halves ts tag ∙ ap (started_in halves) e) h)
    by (Some t) e =
        let k : with_list halves t ≡ st = same_some (with_list halves t) st (sym (started_by halves ts tag ∙ ap (started_in halves) e) ∙ h) in
        e ∙ ap (λ (s : Started). Some s.transfer) k

pub started_of_record : (halves : ℕ → ℕ → List ℤ) (ts : List Transfer) (tag : ℕ) (t : Transfer) → record_of tag ts ≡ Some t → started_of (lists_of halves ts) tag ≡ Some (with_list halves t)
started_of_record halves ts tag t h = started_by halves ts tag ∙ ap (started_in halves) h

pub record_of_flight : (xs : List Flight) (tag : ℕ) (f : Flight) → flight_of xs tag ≡ Some f → record_of tag (transfers_of xs) ≡ Some f.transfer
record_of_flight xs tag f h = record_by xs tag ∙ ap transfer_in h

pub record_of_no_flight : (xs : List Flight) (tag : ℕ) → flight_of xs tag ≡ None → record_of tag (transfers_of xs) ≡ None
record_of_no_flight xs tag h = record_by xs tag ∙ ap transfer_in h

pub no_flight_of_record : (xs : List Flight) (tag : ℕ) → record_of tag (transfers_of xs) ≡ None → flight_of xs tag ≡ None
no_flight_of_record xs tag h = by (flight_of xs tag) refl
  where
    by : (o : Option Flight) → flight_of xs tag ≡ o → flight_of xs tag ≡ None
    by None e = e
    by (Some f) e = absurd (none_some (record_of tag (transfers_of xs)) f.transfer h (record_of_flight xs tag f e))

-- what is found has the tag
pub record_has_tag : (ts : List Transfer) (tag : ℕ) (t : Transfer) → record_of tag ts ≡ Some t → t.tag ≡ tag
record_has_tag [] tag t h = absurd (cc)
record_has_tag (u ∷ us) tag t h = elim (ℕ_discrete u.tag tag) [
  | yes p ↦ let k : u ≡ t = same_some u t (sym (if_true (nat_eq u.tag tag) (Some u) (record_of tag us) (eq-eqb u.tag tag p)) ∙ h) in sym (ap (λ (t : Transfer). t.tag) k) ∙ p
  | no ne ↦ record_has_tag us tag t (sym (if_false (nat_eq u.tag tag) (Some u) (record_of tag us) (ne_eqb u.tag tag ne)) ∙ h)
]

pub flight_has_tag : (xs : List Flight) (tag : ℕ) (f : Flight) → flight_of xs tag ≡ Some f → f.transfer.tag ≡ tag
flight_has_tag xs tag f h = record_has_tag (transfers_of xs) tag f.transfer (record_of_flight xs tag f h)

-- ---- a test of the transfers

pub record Found (p : Transfer → Bool) (ts : List Transfer) : Type 0 where
  pub transfer : Transfer
  pub passes : p transfer ≡ true
  pub on_record : record_of transfer.tag ts ≡ Some transfer

-- of two tests in turn one passes, or none does
abbrev pub one_of : Bool → Bool → Bool
one_of a b = a || b

found_in : (p : Transfer → Bool) (u : Transfer) (us : List Transfer) → record_of u.tag us ≡ None → Found p us → Found p (u ∷ us)
found_in p u us none f =
    let ne : u.tag ≢ f.transfer.tag = λ q. none_some (record_of f.transfer.tag us) f.transfer (ap (λ i. record_of i us) (sym q) ∙ none) f.on_record in
    record { transfer = f.transfer; passes = f.passes; on_record = if_false (nat_eq u.tag f.transfer.tag) (Some u) (record_of f.transfer.tag us) (ne_eqb u.tag f.transfer.tag ne) ∙ f.on_record }

found_here : (p : Transfer → Bool) (u : Transfer) (us : List Transfer) (b : Bool) → p u ≡ b → one_of b (list_any p us) ≡ true → (list_any p us ≡ true → Found p (u ∷ us)) → Found p (u ∷ us)
found_here p u us true e h more = record { transfer = u; passes = e; on_record = if_true (nat_eq u.tag u.tag) (Some u) (record_of u.tag us) (eq-eqb u.tag u.tag refl) }
found_here p u us false e h more = more h

pub any_found : (p : Transfer → Bool) (ts : List Transfer) → TagsApart ts → list_any p ts ≡ true → Found p ts
any_found p [] apart h = absurd (cc)
any_found p (u ∷ us) apart h = found_here p u us (p u) refl h (λ m. found_in p u us apart.0 (any_found p us apart.1 m))

pub neither : (a b : Bool) → one_of a b ≡ false → (a ≡ false) × (b ≡ false)
neither true b e = absurd (cc)
neither false b e = (refl, e)

pub any_none : (p : Transfer → Bool) (ts : List Transfer) (tag : ℕ) (t : Transfer) → list_any p ts ≡ false → record_of tag ts ≡ Some t → p t ≡ false
any_none p [] tag t none h = absurd (cc)
any_none p (u ∷ us) tag t none h = elim (ℕ_discrete u.tag tag) [
  | yes e ↦ let k : u ≡ t = same_some u t (sym (if_true (nat_eq u.tag tag) (Some u) (record_of tag us) (eq-eqb u.tag tag e)) ∙ h) in sym (ap p k) ∙ (neither (p u) (list_any p us) none).0
  | no ne ↦ any_none p us tag t (neither (p u) (list_any p us) none).1 (sym (if_false (nat_eq u.tag tag) (Some u) (record_of tag us) (ne_eqb u.tag tag ne)) ∙ h)
]

-- ---- one more at the end

pub record_behind : (ts : List Transfer) (t : Transfer) → record_of t.tag ts ≡ None → record_of t.tag (ts ++ t ∷ []) ≡ Some t
record_behind [] t h = if_true (nat_eq t.tag t.tag) (Some t) None (eq-eqb t.tag t.tag refl)
record_behind (u ∷ us) t h = elim (ℕ_discrete u.tag t.tag) [
  | yes e ↦ absurd (none_some (record_of t.tag (u ∷ us)) u h (if_true (nat_eq u.tag t.tag) (Some u) (record_of t.tag us) (eq-eqb u.tag t.tag e)))
  | no ne ↦ let e = ne_eqb u.tag t.tag ne in if_false (nat_eq u.tag t.tag) (Some u) (record_of t.tag (us ++ t ∷ [])) e ∙ record_behind us t (sym (if_false (nat_eq u.tag t.tag) (Some u) (record_of t.tag us) e) ∙ h)
]

pub record_before : (ts : List Transfer) (t : Transfer) (tag : ℕ) → t.tag ≢ tag → record_of tag (ts ++ t ∷ []) ≡ record_of tag ts
record_before [] t tag ne = if_false (nat_eq t.tag tag) (Some t) None (ne_eqb t.tag tag ne)
record_before (u ∷ us) t tag ne = ap (λ r. if nat_eq u.tag tag then Some u else r) (record_before us t tag ne)

pub tags_behind : (ts : List Transfer) (t : Transfer) → TagsApart ts → record_of t.tag ts ≡ None → TagsApart (ts ++ t ∷ [])
tags_behind [] t apart h = (refl, tt)
tags_behind (u ∷ us) t apart h = elim (ℕ_discrete u.tag t.tag) [
  | yes e ↦ absurd (none_some (record_of t.tag (u ∷ us)) u h (if_true (nat_eq u.tag t.tag) (Some u) (record_of t.tag us) (eq-eqb u.tag t.tag e)))
  | no ne ↦ (record_before us t u.tag (λ q. ne (sym q)) ∙ apart.0, tags_behind us t apart.1 (sym (if_false (nat_eq u.tag t.tag) (Some u) (record_of t.tag us) (ne_eqb u.tag t.tag ne)) ∙ h))
]

pub flight_behind : (xs : List Flight) (f : Flight) → flight_of xs f.transfer.tag ≡ None → flight_of (xs ++ f ∷ []) f.transfer.tag ≡ Some f
flight_behind [] f h = if_true (nat_eq f.transfer.tag f.transfer.tag) (Some f) None (eq-eqb f.transfer.tag f.transfer.tag refl)
flight_behind (x ∷ xs) f h = elim (ℕ_discrete x.transfer.tag f.transfer.tag) [
  | yes e ↦ absurd (none_some (flight_of (x ∷ xs) f.transfer.tag) x h (if_true (nat_eq x.transfer.tag f.transfer.tag) (Some x) (flight_of xs f.transfer.tag) (eq-eqb x.transfer.tag f.transfer.tag e)))
  | no ne ↦ let e = ne_eqb x.transfer.tag f.transfer.tag ne in if_false (nat_eq x.transfer.tag f.transfer.tag) (Some x) (flight_of (xs ++ f ∷ []) f.transfer.tag) e ∙ flight_behind xs f (sym (if_false (nat_eq x.transfer.tag f.transfer.tag) (Some x) (flight_of xs f.transfer.tag) e) ∙ h)
]

pub flight_before : (xs : List Flight) (f : Flight) (tag : ℕ) → f.transfer.tag ≢ tag → flight_of (xs ++ f ∷ []) tag ≡ flight_of xs tag
flight_before [] f tag ne = if_false (nat_eq f.transfer.tag tag) (Some f) None (ne_eqb f.transfer.tag tag ne)
flight_before (x ∷ xs) f tag ne = ap (λ r. if nat_eq x.transfer.tag tag then Some x else r) (flight_before xs f tag ne)

pub transfers_behind : (xs : List Flight) (f : Flight) → transfers_of (xs ++ f ∷ []) ≡ transfers_of xs ++ f.transfer ∷ []
transfers_behind [] f = refl
transfers_behind (x ∷ xs) f = ap (λ r. x.transfer ∷ r) (transfers_behind xs f)

-- ---- one of a tag less

pub record_without : (ts : List Transfer) (tag u : ℕ) → u ≢ tag → record_of u (without tag ts) ≡ record_of u ts
record_without [] tag u ne = refl
record_without (t ∷ ts) tag u ne = elim (ℕ_discrete t.tag tag) [
  | yes p ↦ ap (record_of u) (if_true (nat_eq t.tag tag) ts (t ∷ without tag ts) (eq-eqb t.tag tag p)) ∙ sym (if_false (nat_eq t.tag u) (Some t) (record_of u ts) (ne_eqb t.tag u (λ q. ne (sym q ∙ p))))
  | no n ↦ ap (record_of u) (if_false (nat_eq t.tag tag) ts (t ∷ without tag ts) (ne_eqb t.tag tag n)) ∙ ap (λ r. if nat_eq t.tag u then Some t else r) (record_without ts tag u ne)
]

pub record_gone : (ts : List Transfer) (tag : ℕ) → TagsApart ts → record_of tag (without tag ts) ≡ None
record_gone [] tag apart = refl
record_gone (t ∷ ts) tag apart = elim (ℕ_discrete t.tag tag) [
  | yes p ↦ ap (record_of tag) (if_true (nat_eq t.tag tag) ts (t ∷ without tag ts) (eq-eqb t.tag tag p)) ∙ ap (λ i. record_of i ts) (sym p) ∙ apart.0
  | no n ↦ let e = ne_eqb t.tag tag n in ap (record_of tag) (if_false (nat_eq t.tag tag) ts (t ∷ without tag ts) e) ∙ if_false (nat_eq t.tag tag) (Some t) (record_of tag (without tag ts)) e ∙ record_gone ts tag apart.1
]

pub tags_without : (ts : List Transfer) (tag : ℕ) → TagsApart ts → TagsApart (without tag ts)
tags_without [] tag apart = tt
tags_without (t ∷ ts) tag apart = elim (ℕ_discrete t.tag tag) [
  | yes p ↦ subst TagsApart (sym (if_true (nat_eq t.tag tag) ts (t ∷ without tag ts) (eq-eqb t.tag tag p))) apart.1
  | no n ↦ subst TagsApart (sym (if_false (nat_eq t.tag tag) ts (t ∷ without tag ts) (ne_eqb t.tag tag n))) (record_without ts tag t.tag n ∙ apart.0, tags_without ts tag apart.1)
]

pub transfers_without : (xs : List Flight) (tag : ℕ) → transfers_of (without_flight tag xs) ≡ without tag (transfers_of xs)
transfers_without [] tag = refl
transfers_without (x ∷ xs) tag = if_map (nat_eq x.transfer.tag tag) xs (x ∷ without_flight tag xs) ∙ ap (λ r. if nat_eq x.transfer.tag tag then transfers_of xs else x.transfer ∷ r) (transfers_without xs tag)
  where
    if_map : (b : Bool) (l r : List Flight) → transfers_of (if b then l else r) ≡ (if b then transfers_of l else transfers_of r)
    if_map true l r = refl
    if_map false l r = refl

pub flight_without : (xs : List Flight) (tag u : ℕ) → u ≢ tag → flight_of (without_flight tag xs) u ≡ flight_of xs u
flight_without [] tag u ne = refl
flight_without (x ∷ xs) tag u ne = elim (ℕ_discrete x.transfer.tag tag) [
  | yes p ↦ ap (λ l. flight_of l u) (if_true (nat_eq x.transfer.tag tag) xs (x ∷ without_flight tag xs) (eq-eqb x.transfer.tag tag p)) ∙ sym (if_false (nat_eq x.transfer.tag u) (Some x) (flight_of xs u) (ne_eqb x.transfer.tag u (λ q. ne (sym q ∙ p))))
  | no n ↦ ap (λ l. flight_of l u) (if_false (nat_eq x.transfer.tag tag) xs (x ∷ without_flight tag xs) (ne_eqb x.transfer.tag tag n)) ∙ ap (λ r. if nat_eq x.transfer.tag u then Some x else r) (flight_without xs tag u ne)
]

-- ---- the transfer of an engine

-- an engine is this one, or else isn't
pub which : (o : Option ℕ) (e : ℕ) → ((o ≡ Some e) × (is_engine o e ≡ true)) ⊎ ((o ≢ Some e) × (is_engine o e ≡ false))
which None e = inr ((λ h. none_some None e refl h), refl)
which (Some d) e = elim (ℕ_discrete d e) [
  | yes p ↦ inl (ap Some p, eq-eqb d e p)
  | no ne ↦ inr ((λ h. ne (same_some d e h)), ne_eqb d e ne)
]

-- a transfer is looked up by its own tag
abbrev pub IsOwn : List Flight → Flight → Type 0
IsOwn xs f = flight_of xs f.transfer.tag ≡ Some f

own_first : (x : Flight) (xs : List Flight) → IsOwn (x ∷ xs) x
own_first x xs = if_true (nat_eq x.transfer.tag x.transfer.tag) (Some x) (flight_of xs x.transfer.tag) (eq-eqb x.transfer.tag x.transfer.tag refl)

own_later : (x : Flight) (xs : List Flight) (f : Flight) → record_of x.transfer.tag (transfers_of xs) ≡ None → IsOwn xs f → IsOwn (x ∷ xs) f
own_later x xs f none own =
    let ne : x.transfer.tag ≢ f.transfer.tag = λ q. none_some (record_of f.transfer.tag (transfers_of xs)) f.transfer (ap (λ i. record_of i (transfers_of xs)) (sym q) ∙ none) (record_of_flight xs f.transfer.tag f own) in
    if_false (nat_eq x.transfer.tag f.transfer.tag) (Some x) (flight_of xs f.transfer.tag) (ne_eqb x.transfer.tag f.transfer.tag ne) ∙ own

pub held_flight : (xs : List Flight) (e : ℕ) (f : Flight) → TagsApart (transfers_of xs) → held_by xs e ≡ Some f → (f.engine ≡ Some e) × IsOwn xs f
held_flight [] e f apart h = absurd (cc)
held_flight (x ∷ xs) e f apart h = ⊎_elim
    (λ (a : (x.engine ≡ Some e) × (is_engine x.engine e ≡ true)).
    let k : x ≡ f = same_some x f (sym (if_true (is_engine x.engine e) (Some x) (held_by xs e) a.1) ∙ h) in
    (sym (ap (λ (f : Flight). f.engine) k) ∙ a.0, subst (IsOwn (x ∷ xs)) k (own_first x xs)))
    (λ (b : (x.engine ≢ Some e) × (is_engine x.engine e ≡ false)).
    let m = held_flight xs e f apart.1 (sym (if_false (is_engine x.engine e) (Some x) (held_by xs e) b.1) ∙ h) in
    (m.0, own_later x xs f apart.0 m.1))
    (which x.engine e)

pub none_held : (xs : List Flight) (e : ℕ) → held_by xs e ≡ None → (tag : ℕ) (f : Flight) → flight_of xs tag ≡ Some f → f.engine ≢ Some e
none_held [] e h tag f is q = absurd (cc)
none_held (x ∷ xs) e h tag f is q = ⊎_elim
    (λ (a : (x.engine ≡ Some e) × (is_engine x.engine e ≡ true)). none_some (held_by (x ∷ xs) e) x h (if_true (is_engine x.engine e) (Some x) (held_by xs e) a.1))
    (λ (b : (x.engine ≢ Some e) × (is_engine x.engine e ≡ false)). elim (ℕ_discrete x.transfer.tag tag) [
      | yes p ↦ let k : x ≡ f = same_some x f (sym (if_true (nat_eq x.transfer.tag tag) (Some x) (flight_of xs tag) (eq-eqb x.transfer.tag tag p)) ∙ is) in b.0 (ap (λ (f : Flight). f.engine) k ∙ q)
      | no ne ↦ none_held xs e (sym (if_false (is_engine x.engine e) (Some x) (held_by xs e) b.1) ∙ h) tag f (sym (if_false (nat_eq x.transfer.tag tag) (Some x) (flight_of xs tag) (ne_eqb x.transfer.tag tag ne)) ∙ is) q
    ])
    (which x.engine e)

-- ---- a transfer changed

module _ (t : ℕ) (g : Flight → Flight) (keeps : (f : Flight) → (g f).transfer ≡ f.transfer) where
  pub transfers_with : (xs : List Flight) → transfers_of (with_flight xs t g) ≡ transfers_of xs
  transfers_with [] = refl
  transfers_with (x ∷ xs) = if_map (nat_eq x.transfer.tag t) (g x ∷ xs) (x ∷ with_flight xs t g) ∙ (λ i. if nat_eq x.transfer.tag t then keeps x i ∷ transfers_of xs else x.transfer ∷ transfers_with xs i) ∙ same (nat_eq x.transfer.tag t) (x.transfer ∷ transfers_of xs)
    where
      if_map : (b : Bool) (l r : List Flight) → transfers_of (if b then l else r) ≡ (if b then transfers_of l else transfers_of r)
      if_map true l r = refl
      if_map false l r = refl

      same : (b : Bool) (l : List Transfer) → (if b then l else l) ≡ l
      same true l = refl
      same false l = refl

-- ---- the engines' steps that are left

pub left_with : (t : ℕ) (g : Flight → Flight) (xs : List Flight) (f : Flight) → flight_of xs t ≡ Some f → all_left (with_flight xs t g) + steps_left f ≡ all_left xs + steps_left (g f)
left_with t g [] f h = absurd (cc)
left_with t g (x ∷ xs) f h = elim (ℕ_discrete x.transfer.tag t) [
  | yes p ↦ let e = eq-eqb x.transfer.tag t p in
      let k : x ≡ f = same_some x f (sym (if_true (nat_eq x.transfer.tag t) (Some x) (flight_of xs t) e) ∙ h) in
      let a : all_left (with_flight (x ∷ xs) t g) ≡ steps_left (g x) + all_left xs = ap all_left (if_true (nat_eq x.transfer.tag t) (g x ∷ xs) (x ∷ with_flight xs t g) e) in
      let b : steps_left f ≡ steps_left x = ap steps_left (sym k) in
      let c : steps_left (g f) ≡ steps_left (g x) = ap (λ x. steps_left (g x)) (sym k) in
      sums (all_left (with_flight (x ∷ xs) t g)) (steps_left (g x)) (steps_left x) (all_left xs) (steps_left f) (steps_left (g f)) a b c
  | no ne ↦ let e = ne_eqb x.transfer.tag t ne in
      let m = left_with t g xs f (sym (if_false (nat_eq x.transfer.tag t) (Some x) (flight_of xs t) e) ∙ h) in
      let a : all_left (with_flight (x ∷ xs) t g) ≡ steps_left x + all_left (with_flight xs t g) = ap all_left (if_false (nat_eq x.transfer.tag t) (g x ∷ xs) (x ∷ with_flight xs t g) e) in
      more (all_left (with_flight (x ∷ xs) t g)) (steps_left x) (all_left (with_flight xs t g)) (all_left xs) (steps_left f) (steps_left (g f)) a m
]
  where
    sums : (n gx x xs f gf : ℕ) → n ≡ gx + xs → f ≡ x → gf ≡ gx → n + f ≡ x + xs + gf
    sums n gx x xs f gf a b c = omega (arith, a, b, c)

    more : (n x w xs f gf : ℕ) → n ≡ x + w → w + f ≡ xs + gf → n + f ≡ x + xs + gf
    more n x w xs f gf a b = omega (arith, a, b)

pub left_behind : (xs : List Flight) (f : Flight) → all_left (xs ++ f ∷ []) ≡ all_left xs + steps_left f
left_behind [] f = sum (steps_left f)
  where
    sum : (n : ℕ) → n + 0 ≡ 0 + n
    sum n = omega arith
left_behind (x ∷ xs) f = sum (steps_left x) (all_left (xs ++ f ∷ [])) (all_left xs) (steps_left f) (left_behind xs f)
  where
    sum : (x w xs f : ℕ) → w ≡ xs + f → x + w ≡ x + xs + f
    sum x w xs f a = omega (arith, a)

pub left_without : (t : ℕ) (xs : List Flight) (f : Flight) → flight_of xs t ≡ Some f → all_left (without_flight t xs) + steps_left f ≡ all_left xs
left_without t [] f h = absurd (cc)
left_without t (x ∷ xs) f h = elim (ℕ_discrete x.transfer.tag t) [
  | yes p ↦ let e = eq-eqb x.transfer.tag t p in
      let k : x ≡ f = same_some x f (sym (if_true (nat_eq x.transfer.tag t) (Some x) (flight_of xs t) e) ∙ h) in
      sums (all_left (without_flight t (x ∷ xs))) (steps_left x) (all_left xs) (steps_left f) (ap all_left (if_true (nat_eq x.transfer.tag t) xs (x ∷ without_flight t xs) e)) (ap steps_left (sym k))
  | no ne ↦ let e = ne_eqb x.transfer.tag t ne in
      let m = left_without t xs f (sym (if_false (nat_eq x.transfer.tag t) (Some x) (flight_of xs t) e) ∙ h) in
      more (all_left (without_flight t (x ∷ xs))) (steps_left x) (all_left (without_flight t xs)) (all_left xs) (steps_left f) (ap all_left (if_false (nat_eq x.transfer.tag t) xs (x ∷ without_flight t xs) e)) m
]
  where
    sums : (n x xs f : ℕ) → n ≡ xs → f ≡ x → n + f ≡ x + xs
    sums n x xs f a b = omega (arith, a, b)

    more : (n x w xs f : ℕ) → n ≡ x + w → w + f ≡ xs → n + f ≡ x + xs
    more n x w xs f a b = omega (arith, a, b)
