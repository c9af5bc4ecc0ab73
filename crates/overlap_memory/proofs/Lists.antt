-- Lists of outstanding transfers, looked up by their tags.
use Rattle.std.proofs.Common.{◌≡◌, ◌≢◌, ℕ, ℤ, Bool, true, false, List, [], ◌∷◌, ◌++◌, ◌≤◌, ◌^◌, sym, refl, ap, ◌∙◌, subst, arith, eq-eqb, ne_eqb}
use Rattle.std.specs.Prelude.{◌||◌, Option, Some, None, if◌then◌else◌, nat_eq}
use Rattle.std.specs.List.{All, list_any}
use native.Mathlib.Decide.{ℕ_discrete}
use Rattle.bus_model.specs.declared.transfer.Transfer.{Transfer}
use Rattle.bus_model.specs.declared.transfer.Started.{Started}
use Rattle.bus_model.specs.Engines.{started_of}
use Rattle.prompt_semantics.specs.Device.{record_of, without}
use Rattle.transfer_records.specs.Found.{HasPlaces}
use Rattle.overlap_memory.specs.Tied.{with_list, lists_of, TagsApart, IsPlaced}

pub both_ways : (b : Bool) → b ≡ true → b ≡ false → ⊥
both_ways b x y = cc

pub if_true : {A : Type 0} (b : Bool) (x y : A) → b ≡ true → (if b then x else y) ≡ x
if_true b x y e = ap (λ c. if c then x else y) e

pub if_false : {A : Type 0} (b : Bool) (x y : A) → b ≡ false → (if b then x else y) ≡ y
if_false b x y e = ap (λ c. if c then x else y) e

pub same_some : {A : Type 0} (a b : A) → Some a ≡ Some b → a ≡ b
same_some a b e = cc

pub none_some : {A : Type 0} (o : Option A) (a : A) → o ≡ None → o ≡ Some a → ⊥
none_some o a p q = cc

abbrev pub started_in : (ℕ → ℕ → List ℤ) → Option Transfer → Option Started
started_in halves None = None
started_in halves (Some t) = Some (with_list halves t)

pub started_by : (halves : ℕ → ℕ → List ℤ) (ts : List Transfer) (tag : ℕ) → started_of (lists_of halves ts) tag ≡ started_in halves (record_of tag ts)
started_by halves [] tag = refl
started_by halves (t ∷ ts) tag = ap (λ r. if nat_eq t.tag tag then Some (with_list halves t) else r) (started_by halves ts tag) ∙ by (nat_eq t.tag tag)
  where
    by : (b : Bool) → (if b then Some (with_list halves t) else started_in halves (record_of tag ts)) ≡ started_in halves (if b then Some t else record_of tag ts)
    by true = refl
    by false = refl

-- a started transfer has its record
pub record_of_started : (halves : ℕ → ℕ → List ℤ) (ts : List Transfer) (tag : ℕ) (st : Started) → started_of (lists_of halves ts) tag ≡ Some st → record_of tag ts ≡ Some st.transfer
record_of_started halves ts tag st h = by (record_of tag ts) refl
  where
    by : (o : Option Transfer) → record_of tag ts ≡ o → record_of tag ts ≡ Some st.transfer
    by None e = absurd (none_some (started_of (lists_of halves ts) tag) st (started_by halves ts tag ∙ ap (started_in halves) e) h)
    by (Some t) e =
        let k : with_list halves t ≡ st = same_some (with_list halves t) st (sym (started_by halves ts tag ∙ ap (started_in halves) e) ∙ h) in
        e ∙ ap (λ (s : Started). Some s.transfer) k

pub started_of_record : (halves : ℕ → ℕ → List ℤ) (ts : List Transfer) (tag : ℕ) (t : Transfer) → record_of tag ts ≡ Some t → started_of (lists_of halves ts) tag ≡ Some (with_list halves t)
started_of_record halves ts tag t h = started_by halves ts tag ∙ ap (started_in halves) h

-- what is found has the tag
pub record_has_tag : (ts : List Transfer) (tag : ℕ) (t : Transfer) → record_of tag ts ≡ Some t → t.tag ≡ tag
record_has_tag [] tag t h = absurd (cc)
record_has_tag (u ∷ us) tag t h = elim (ℕ_discrete u.tag tag) [
  | yes p ↦ let k : u ≡ t = same_some u t (sym (if_true (nat_eq u.tag tag) (Some u) (record_of tag us) (eq-eqb u.tag tag p)) ∙ h) in sym (ap (λ (t : Transfer). t.tag) k) ∙ p
  | no ne ↦ record_has_tag us tag t (sym (if_false (nat_eq u.tag tag) (Some u) (record_of tag us) (ne_eqb u.tag tag ne)) ∙ h)
]

pub record Found (p : Transfer → Bool) (ts : List Transfer) : Type 0 where
  pub transfer : Transfer
  pub passes : p transfer ≡ true
  pub on_record : record_of transfer.tag ts ≡ Some transfer

-- of two tests in turn one passes, or none does
abbrev pub one_of : Bool → Bool → Bool
one_of a b = a || b

found_in : (p : Transfer → Bool) (u : Transfer) (us : List Transfer) → record_of u.tag us ≡ None → Found p us → Found p (u ∷ us)
found_in p u us none f =
    let ne : u.tag ≢ f.transfer.tag = λ q. none_some (record_of f.transfer.tag us) f.transfer (ap (λ i. record_of i us) (sym q) ∙ none) f.on_record in
    record { transfer = f.transfer; passes = f.passes; on_record = if_false (nat_eq u.tag f.transfer.tag) (Some u) (record_of f.transfer.tag us) (ne_eqb u.tag f.transfer.tag ne) ∙ f.on_record }

found_here : (p : Transfer → Bool) (u : Transfer) (us : List Transfer) (b : Bool) → p u ≡ b → one_of b (list_any p us) ≡ true → (list_any p us ≡ true → Found p (u ∷ us)) → Found p (u ∷ us)
found_here p u us true e h more = record { transfer = u; passes = e; on_record = if_true (nat_eq u.tag u.tag) (Some u) (record_of u.tag us) (eq-eqb u.tag u.tag refl) }
found_here p u us false e h more = more h

pub any_found : (p : Transfer → Bool) (ts : List Transfer) → TagsApart ts → list_any p ts ≡ true → Found p ts
any_found p [] apart h = absurd (cc)
any_found p (u ∷ us) apart h = found_here p u us (p u) refl h (λ m. found_in p u us apart.0 (any_found p us apart.1 m))

pub neither : (a b : Bool) → one_of a b ≡ false → (a ≡ false) × (b ≡ false)
neither true b e = absurd (cc)
neither false b e = (refl, e)

pub any_none : (p : Transfer → Bool) (ts : List Transfer) (tag : ℕ) (t : Transfer) → list_any p ts ≡ false → record_of tag ts ≡ Some t → p t ≡ false
any_none p [] tag t none h = absurd (cc)
any_none p (u ∷ us) tag t none h = elim (ℕ_discrete u.tag tag) [
  | yes e ↦ let k : u ≡ t = same_some u t (sym (if_true (nat_eq u.tag tag) (Some u) (record_of tag us) (eq-eqb u.tag tag e)) ∙ h) in sym (ap p k) ∙ (neither (p u) (list_any p us) none).0
  | no ne ↦ any_none p us tag t (neither (p u) (list_any p us) none).1 (sym (if_false (nat_eq u.tag tag) (Some u) (record_of tag us) (ne_eqb u.tag tag ne)) ∙ h)
]

pub record_behind : (ts : List Transfer) (t : Transfer) → record_of t.tag ts ≡ None → record_of t.tag (ts ++ t ∷ []) ≡ Some t
record_behind [] t h = if_true (nat_eq t.tag t.tag) (Some t) None (eq-eqb t.tag t.tag refl)
record_behind (u ∷ us) t h = elim (ℕ_discrete u.tag t.tag) [
  | yes e ↦ absurd (none_some (record_of t.tag (u ∷ us)) u h (if_true (nat_eq u.tag t.tag) (Some u) (record_of t.tag us) (eq-eqb u.tag t.tag e)))
  | no ne ↦ let e = ne_eqb u.tag t.tag ne in if_false (nat_eq u.tag t.tag) (Some u) (record_of t.tag (us ++ t ∷ [])) e ∙ record_behind us t (sym (if_false (nat_eq u.tag t.tag) (Some u) (record_of t.tag us) e) ∙ h)
]

pub record_before : (ts : List Transfer) (t : Transfer) (tag : ℕ) → t.tag ≢ tag → record_of tag (ts ++ t ∷ []) ≡ record_of tag ts
record_before [] t tag ne = if_false (nat_eq t.tag tag) (Some t) None (ne_eqb t.tag tag ne)
record_before (u ∷ us) t tag ne = ap (λ r. if nat_eq u.tag tag then Some u else r) (record_before us t tag ne)

pub tags_behind : (ts : List Transfer) (t : Transfer) → TagsApart ts → record_of t.tag ts ≡ None → TagsApart (ts ++ t ∷ [])
tags_behind [] t apart h = (refl, tt)
tags_behind (u ∷ us) t apart h = elim (ℕ_discrete u.tag t.tag) [
  | yes e ↦ absurd (none_some (record_of t.tag (u ∷ us)) u h (if_true (nat_eq u.tag t.tag) (Some u) (record_of t.tag us) (eq-eqb u.tag t.tag e)))
  | no ne ↦ (record_before us t u.tag (λ q. ne (sym q)) ∙ apart.0, tags_behind us t apart.1 (sym (if_false (nat_eq u.tag t.tag) (Some u) (record_of t.tag us) (ne_eqb u.tag t.tag ne)) ∙ h))
]

pub record_without : (ts : List Transfer) (tag u : ℕ) → u ≢ tag → record_of u (without tag ts) ≡ record_of u ts
record_without [] tag u ne = refl
record_without (t ∷ ts) tag u ne = elim (ℕ_discrete t.tag tag) [
  | yes p ↦ ap (record_of u) (if_true (nat_eq t.tag tag) ts (t ∷ without tag ts) (eq-eqb t.tag tag p)) ∙ sym (if_false (nat_eq t.tag u) (Some t) (record_of u ts) (ne_eqb t.tag u (λ q. ne (sym q ∙ p))))
  | no n ↦ ap (record_of u) (if_false (nat_eq t.tag tag) ts (t ∷ without tag ts) (ne_eqb t.tag tag n)) ∙ ap (λ r. if nat_eq t.tag u then Some t else r) (record_without ts tag u ne)
]

pub record_gone : (ts : List Transfer) (tag : ℕ) → TagsApart ts → record_of tag (without tag ts) ≡ None
record_gone [] tag apart = refl
record_gone (t ∷ ts) tag apart = elim (ℕ_discrete t.tag tag) [
  | yes p ↦ ap (record_of tag) (if_true (nat_eq t.tag tag) ts (t ∷ without tag ts) (eq-eqb t.tag tag p)) ∙ ap (λ i. record_of i ts) (sym p) ∙ apart.0
  | no n ↦ let e = ne_eqb t.tag tag n in ap (record_of tag) (if_false (nat_eq t.tag tag) ts (t ∷ without tag ts) e) ∙ if_false (nat_eq t.tag tag) (Some t) (record_of tag (without tag ts)) e ∙ record_gone ts tag apart.1
]

pub tags_without : (ts : List Transfer) (tag : ℕ) → TagsApart ts → TagsApart (without tag ts)
tags_without [] tag apart = tt
tags_without (t ∷ ts) tag apart = elim (ℕ_discrete t.tag tag) [
  | yes p ↦ subst TagsApart (sym (if_true (nat_eq t.tag tag) ts (t ∷ without tag ts) (eq-eqb t.tag tag p))) apart.1
  | no n ↦ subst TagsApart (sym (if_false (nat_eq t.tag tag) ts (t ∷ without tag ts) (ne_eqb t.tag tag n))) (record_without ts tag t.tag n ∙ apart.0, tags_without ts tag apart.1)
]

-- places among so many words can be computed
pub have_places : (words : ℕ) → words ≤ 2 ^ 32 → (ts : List Transfer) → All (IsPlaced words) ts → All HasPlaces ts
have_places words few ts h = λ k d lt. (let p = h k d lt in record { some_chunk = p.some_chunk; fit = λ e below. (let w = p.within e below in omega (arith, few, w)) })
