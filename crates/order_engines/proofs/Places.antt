-- The first of the outstanding transfers with an engine, or with a tag.
use Rattle.std.proofs.Common.{◌≡◌, ◌≢◌, ⊎_elim, ℕ, zero, suc, ◌+◌, ◌<◌, Bool, true, false, List, [], ◌∷◌, sym, refl, ap, ◌∙◌, subst, arith, eq-eqb, ne_eqb, length, get_or, set}
use Rattle.std.specs.Prelude.{Option, Some, None, nat_eq, slice_get, is_some, MatchOption, if◌then◌else◌}
use Rattle.std.specs.List.{remove}
use Rattle.std.specs.Option.{option_eq}
use lib.Dec.{eqb}
use native.Mathlib.Decide.{ℕ_discrete}
use Rattle.bus_model.specs.Engines.{Flight, flight_of, with_flight}
use Rattle.order_meaning.specs.Machine.{transfers_of, is_engine, held_by, without_flight}
use Rattle.prompt_semantics.specs.Device.{record_of}
use Rattle.order_meaning.proofs.Flights.{same_some, none_some, both_ways, if_true, if_false, which}
use Rattle.order_meaning.proofs.Sides.{same_number}
use Rattle.order_engines.specs.declared.flying.Flying.{Flying}
use Rattle.order_engines.specs.Flying.{flight, flights_of, IsPlaceOf, AreApart}

-- none of the first k has the engine
abbrev pub NoneHeld : List Flying → ℕ → ℕ → Type 0
NoneHeld fs e k = (j : ℕ) (f : Flying) → j < k → slice_get fs j ≡ Some f → f.engine ≢ Some e

abbrev pub NoneTagged : List Flying → ℕ → ℕ → Type 0
NoneTagged fs t k = (j : ℕ) (f : Flying) → j < k → slice_get fs j ≡ Some f → f.transfer.tag ≢ t

pub held_at : (fs : List Flying) (e k : ℕ) (f : Flying) → NoneHeld fs e k → slice_get fs k ≡ Some f → f.engine ≡ Some e → held_by (flights_of fs) e ≡ Some (flight f)
held_at [] e k f none at is = absurd (cc)
held_at (x ∷ fs) e zero f none at is =
    let q : x ≡ f = same_some x f at in
    ⊎_elim
    (λ (a : (x.engine ≡ Some e) × (is_engine x.engine e ≡ true)). if_true (is_engine x.engine e) (Some (flight x)) (held_by (flights_of fs) e) a.1 ∙ ap (λ z. Some (flight z)) q)
    (λ (b : (x.engine ≢ Some e) × (is_engine x.engine e ≡ false)). absurd (b.0 (ap (λ (z : Flying). z.engine) q ∙ is)))
    (which x.engine e)
held_at (x ∷ fs) e (suc k) f none at is =
    ⊎_elim
    (λ (a : (x.engine ≡ Some e) × (is_engine x.engine e ≡ true)). absurd (none 0 x (omega arith) refl a.0))
    (λ (b : (x.engine ≢ Some e) × (is_engine x.engine e ≡ false)). if_false (is_engine x.engine e) (Some (flight x)) (held_by (flights_of fs) e) b.1 ∙ held_at fs e k f (λ j g l q. none (suc j) g (omega (arith, l)) q) at is)
    (which x.engine e)

pub held_nowhere : (fs : List Flying) (e : ℕ) → ((j : ℕ) (f : Flying) → slice_get fs j ≡ Some f → f.engine ≢ Some e) → held_by (flights_of fs) e ≡ None
held_nowhere [] e none = refl
held_nowhere (x ∷ fs) e none = ⊎_elim
    (λ (a : (x.engine ≡ Some e) × (is_engine x.engine e ≡ true)). absurd (none 0 x refl a.0))
    (λ (b : (x.engine ≢ Some e) × (is_engine x.engine e ≡ false)). if_false (is_engine x.engine e) (Some (flight x)) (held_by (flights_of fs) e) b.1 ∙ held_nowhere fs e (λ j g q. none (suc j) g q))
    (which x.engine e)

pub tagged_at : (fs : List Flying) (t k : ℕ) (f : Flying) → NoneTagged fs t k → slice_get fs k ≡ Some f → f.transfer.tag ≡ t → flight_of (flights_of fs) t ≡ Some (flight f)
tagged_at [] t k f none at is = absurd (cc)
tagged_at (x ∷ fs) t zero f none at is =
    let q : x ≡ f = same_some x f at in
    if_true (nat_eq x.transfer.tag t) (Some (flight x)) (flight_of (flights_of fs) t) (eq-eqb x.transfer.tag t (ap (λ (z : Flying). z.transfer.tag) q ∙ is)) ∙ ap (λ z. Some (flight z)) q
tagged_at (x ∷ fs) t (suc k) f none at is =
    if_false (nat_eq x.transfer.tag t) (Some (flight x)) (flight_of (flights_of fs) t) (ne_eqb x.transfer.tag t (none 0 x (omega arith) refl)) ∙ tagged_at fs t k f (λ j g l q. none (suc j) g (omega (arith, l)) q) at is

pub tagged_nowhere : (fs : List Flying) (t : ℕ) → ((j : ℕ) (f : Flying) → slice_get fs j ≡ Some f → f.transfer.tag ≢ t) → flight_of (flights_of fs) t ≡ None
tagged_nowhere [] t none = refl
tagged_nowhere (x ∷ fs) t none = if_false (nat_eq x.transfer.tag t) (Some (flight x)) (flight_of (flights_of fs) t) (ne_eqb x.transfer.tag t (none 0 x refl)) ∙ tagged_nowhere fs t (λ j g q. none (suc j) g q)

-- ---- what is read

pub read_at : {X : Type 0} (xs : List X) (k : ℕ) (x : X) → k < length xs → x ≡ get_or xs k x → slice_get xs k ≡ Some x
read_at [] k x lt is = absurd (omega (arith, lt))
read_at (y ∷ xs) zero x lt is = ap Some (sym is)
read_at (y ∷ xs) (suc k) x lt is = read_at xs k x (omega (arith, lt)) is

pub same_option : (o : Option ℕ) (e : ℕ) → option_eq eqb o (Some e) ≡ true → o ≡ Some e
same_option None e h = absurd (cc)
same_option (Some d) e h = ap Some (same_number d e h)

pub other_option : (o : Option ℕ) (e : ℕ) → option_eq eqb o (Some e) ≡ false → o ≢ Some e
other_option None e h q = none_some None e refl q
other_option (Some d) e h q = both_ways (eqb d e) (eq-eqb d e (same_some d e q)) h

-- one more that hasn't the engine, or the tag
pub one_more : (fs : List Flying) (P : Flying → Type 0) (k : ℕ) (x : Flying) → ((j : ℕ) (f : Flying) → j < k → slice_get fs j ≡ Some f → P f) → slice_get fs k ≡ Some x → P x → (j : ℕ) (f : Flying) → j < k + 1 → slice_get fs j ≡ Some f → P f
one_more fs P k x before at own j f l q = elim (ℕ_discrete j k) [
  | yes e ↦ subst P (same_some x f (sym at ∙ ap (slice_get fs) (sym e) ∙ q)) own
  | no ne ↦ before j f (omega (arith, l, ne)) q
]

-- the first transfer with a tag is the one that is found and changed
change_at : (fs : List Flying) (t k : ℕ) (f : Flying) (g : Flight → Flight) → NoneTagged fs t k → slice_get fs k ≡ Some f → f.transfer.tag ≡ t → with_flight (flights_of fs) t g ≡ set (flights_of fs) k (g (flight f))
change_at [] t k f g none at is = absurd (cc)
change_at (x ∷ fs) t zero f g none at is =
    let q : x ≡ f = same_some x f at in
    if_true (nat_eq x.transfer.tag t) (g (flight x) ∷ flights_of fs) (flight x ∷ with_flight (flights_of fs) t g) (eq-eqb x.transfer.tag t (ap (λ (z : Flying). z.transfer.tag) q ∙ is)) ∙ ap (λ z. g (flight z) ∷ flights_of fs) q
change_at (x ∷ fs) t (suc k) f g none at is =
    if_false (nat_eq x.transfer.tag t) (g (flight x) ∷ flights_of fs) (flight x ∷ with_flight (flights_of fs) t g) (ne_eqb x.transfer.tag t (none 0 x (omega arith) refl))
    ∙ ap (λ l. flight x ∷ l) (change_at fs t k f g (λ j h l q. none (suc j) h (omega (arith, l)) q) at is)

-- and it is the one that is taken off
without_at : (fs : List Flying) (t k : ℕ) (f : Flying) → NoneTagged fs t k → slice_get fs k ≡ Some f → f.transfer.tag ≡ t → without_flight t (flights_of fs) ≡ flights_of (remove fs k)
without_at [] t k f none at is = absurd (cc)
without_at (x ∷ fs) t zero f none at is = if_true (nat_eq x.transfer.tag t) (flights_of fs) (flight x ∷ without_flight t (flights_of fs)) (eq-eqb x.transfer.tag t (ap (λ (z : Flying). z.transfer.tag) (same_some x f at) ∙ is))
without_at (x ∷ fs) t (suc k) f none at is =
    if_false (nat_eq x.transfer.tag t) (flights_of fs) (flight x ∷ without_flight t (flights_of fs)) (ne_eqb x.transfer.tag t (none 0 x (omega arith) refl))
    ∙ ap (λ l. flight x ∷ l) (without_at fs t k f (λ j h l q. none (suc j) h (omega (arith, l)) q) at is)

pub place_at : (fs : List Flying) (t k : ℕ) (f : Flying) → NoneTagged fs t k → slice_get fs k ≡ Some f → f.transfer.tag ≡ t → IsPlaceOf fs t k f
place_at fs t k f none at is = record { at = at; found = tagged_at fs t k f none at is; change = λ g. change_at fs t k f g none at is; without = without_at fs t k f none at is }

pub value_at : {X : Type 0} (xs : List X) (k : ℕ) (x d : X) → slice_get xs k ≡ Some x → get_or xs k d ≡ x
value_at [] k x d at = absurd (cc)
value_at (y ∷ xs) zero x d at = same_some y x at
value_at (y ∷ xs) (suc k) x d at = value_at xs k x d at

pub flight_at : (xs : List Flying) (k : ℕ) (x : Flying) → slice_get xs k ≡ Some x → slice_get (flights_of xs) k ≡ Some (flight x)
flight_at [] k x at = absurd (cc)
flight_at (y ∷ xs) zero x at = ap (λ z. Some (flight z)) (same_some y x at)
flight_at (y ∷ xs) (suc k) x at = flight_at xs k x at

pub none_left : {X : Type 0} (o : Option X) → is_some o ≡ false → o ≡ None
none_left None h = refl
none_left (Some x) h = absurd (cc)

pub none_found : {X : Type 0} (A : Type 0) (B : X → Type 0) (o : Option X) → MatchOption o A B → is_some o ≡ false → A
none_found A B None m h = m
none_found A B (Some x) m h = absurd (cc)

-- where tags are apart, each transfer is the first with its tag
other_tag : (fs : List Flying) (t k : ℕ) (f : Flying) → record_of t (transfers_of (flights_of fs)) ≡ None → slice_get fs k ≡ Some f → f.transfer.tag ≢ t
other_tag [] t k f none at is = absurd (cc)
other_tag (x ∷ fs) t zero f none at is = none_some (record_of t (transfers_of (flights_of (x ∷ fs)))) x.transfer none (if_true (nat_eq x.transfer.tag t) (Some x.transfer) (record_of t (transfers_of (flights_of fs))) (eq-eqb x.transfer.tag t (ap (λ (z : Flying). z.transfer.tag) (same_some x f at) ∙ is)))
other_tag (x ∷ fs) t (suc k) f none at is = elim (ℕ_discrete x.transfer.tag t) [
  | yes e ↦ none_some (record_of t (transfers_of (flights_of (x ∷ fs)))) x.transfer none (if_true (nat_eq x.transfer.tag t) (Some x.transfer) (record_of t (transfers_of (flights_of fs))) (eq-eqb x.transfer.tag t e))
  | no ne ↦ other_tag fs t k f (sym (if_false (nat_eq x.transfer.tag t) (Some x.transfer) (record_of t (transfers_of (flights_of fs))) (ne_eqb x.transfer.tag t ne)) ∙ none) at is
]

first_with_tag : (fs : List Flying) (k : ℕ) (f : Flying) → AreApart fs → slice_get fs k ≡ Some f → NoneTagged fs f.transfer.tag k
first_with_tag [] k f apart at j h l q is = absurd (cc)
first_with_tag (x ∷ fs) zero f apart at j h l q is = absurd (omega (arith, l))
first_with_tag (x ∷ fs) (suc k) f apart at zero h l q is = other_tag fs x.transfer.tag k f apart.0 at (sym is ∙ ap (λ (z : Flying). z.transfer.tag) (sym (same_some x h q)))
first_with_tag (x ∷ fs) (suc k) f apart at (suc j) h l q is = first_with_tag fs k f apart.1 at j h (omega (arith, l)) q is

pub own_place : (fs : List Flying) (k : ℕ) (f : Flying) → AreApart fs → slice_get fs k ≡ Some f → IsPlaceOf fs f.transfer.tag k f
own_place fs k f apart at = place_at fs f.transfer.tag k f (first_with_tag fs k f apart at) at refl

-- a choice of a change is the change that is chosen
pub chosen : (b : Bool) (g h : Flight → Flight) (f : Flight) → (if b then g f else h f) ≡ (if b then g else h) f
chosen true g h f = refl
chosen false g h f = refl
