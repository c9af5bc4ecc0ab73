-- The laws: a reader that is put together as the language is reads it exactly. One law for each shape.
use Rattle.std.proofs.Common.{◌≡◌, ℕ, zero, suc, ◌-◌, ◌<◌, Bool, true, false, if◌then◌else◌, List, [], ◌∷◌, ◌++◌, Option, Some, None, refl, ap, inr, arith}
use Rattle.readers.specs.Readers.{Got, Reader, Test, head, never, any_token, accept, and_then, bind, pure, take_by, either, when, many, giving, optional, linked, chain, times, exactly, ended, enclosed, listed}
use Rattle.readers.specs.Languages.{Lang, Both, Nothing, One, Either, When, Many, none, Giving, Optional, Linked, Chain, Times, Exactly, Ended, Enclosed, Listed}
use Rattle.readers.specs.Exactness.{Faithful, Inhabited, Exact, Ahead, Items}
use Rattle.readers.proofs.Parts.{faithful_pure, faithful_take, faithful_bind, faithful_either, faithful_when}
use Rattle.readers.proofs.Repeated.{faithful_many, ahead_items}
use Rattle.readers.proofs.Lookahead.{ahead_nothing, ahead_first, ahead_token, ahead_times}

-- ---- the parts

-- no token
pub exact_pure : {T A : Type 0} {g : Test T} (x : A) → Exact g (Nothing x) (pure x)
exact_pure x = record { faithful = faithful_pure x; some = record { text = []; value = x; spelled = (refl, refl) } }

-- one token, of which one is shown
pub exact_take : {T A : Type 0} {g : Test T} (p : T → Option A) (t : T) (x : A) → p t ≡ Some x → Exact g (One p) (take_by p)
exact_take p t x e = record { faithful = faithful_take p; some = record { text = t ∷ []; value = x; spelled = record { token = t; alone = refl; accepted = e } } }

-- one token that passes a test, of which one is shown
pub exact_accept : {T : Type 0} {g : Test T} (test : T → Bool) (t : T) → test t ≡ true → Exact g (One (accept test)) (take_by (accept test))
exact_accept test t h = exact_take (accept test) t tt (ap (λ b. if b then Some tt else None) h)

some_both : {T A B : Type 0} {L : Lang T A} {K : A → Lang T B} → Inhabited L → ((x : A) (f : List T) → L f x → Inhabited (K x)) → Inhabited (Both L K)
some_both i j =
    let k = j i.value i.text i.spelled in
    record { text = i.text ++ k.text; value = k.value; spelled = record { value = i.value; left = i.text; right = k.text; parts = refl; first = i.spelled; second = k.spelled } }

-- One part after the other, where what stands behind is exact at the values that the first part spells.
-- No token with which the first part might go on stands at the head of what follows.
pub exact_bind_of : {T A B : Type 0} {g g2 : Test T} {L : Lang T A} {r : Reader T A} {K : A → Lang T B} {k : A → Reader T B} → Exact g L r → ((x : A) (f : List T) → L f x → Exact g2 (K x) (k x)) → ((x : A) (f : List T) → L f x → Ahead g2 g false (K x)) → Exact g2 (Both L K) (bind r k)
exact_bind_of c d apart = record { faithful = faithful_bind c.faithful d apart; some = some_both c.some (λ x f l. (d x f l).some) }

-- one part after the other
pub exact_bind : {T A B : Type 0} {g g2 : Test T} {L : Lang T A} {r : Reader T A} {K : A → Lang T B} {k : A → Reader T B} → Exact g L r → ((x : A) → Exact g2 (K x) (k x)) → ((x : A) → Ahead g2 g false (K x)) → Exact g2 (Both L K) (bind r k)
exact_bind c d apart = exact_bind_of c (λ x f l. d x) (λ x f l. apart x)

-- a first part that never goes on
pub exact_then : {T A B : Type 0} {g2 : Test T} {L : Lang T A} {r : Reader T A} {K : A → Lang T B} {k : A → Reader T B} → Exact never L r → ((x : A) → Exact g2 (K x) (k x)) → Exact g2 (Both L K) (bind r k)
exact_then c d = exact_bind c d (λ x. record { sees = λ f w y l h. refl })

-- A first part that never goes on, and that may have no text, as a name that isn't known. The token that
-- chooses what follows, as the word of a statement, is such a part: `K` is then by cases on its value.
pub faithful_then : {T A B : Type 0} {g2 : Test T} {L : Lang T A} {r : Reader T A} {K : A → Lang T B} {k : A → Reader T B} → Faithful never L r → ((x : A) → Exact g2 (K x) (k x)) → Faithful g2 (Both L K) (bind r k)
faithful_then c d = faithful_bind c (λ x f l. d x) (λ x f l. record { sees = λ f w y l h. refl })

-- a first part that may go on, and behind it a token with which it doesn't
pub exact_closed : {T A B C : Type 0} {g g2 : Test T} {L : Lang T A} {r : Reader T A} {p : A → T → Option C} {K : A → C → Lang T B} {k : A → C → Reader T B} → Exact g L r → ((x : A) → Exact never (One (p x)) (take_by (p x))) → ((x : A) (t : T) (y : C) → p x t ≡ Some y → g (Some t) ≡ false) → ((x : A) (y : C) → Exact g2 (K x y) (k x y)) → Exact g2 (Both L (λ x. Both (One (p x)) (K x))) (bind r (λ x. bind (take_by (p x)) (k x)))
exact_closed c o apart d = exact_bind c (λ x. exact_then (o x) (d x)) (λ x. ahead_token (apart x))

-- one or the other, where the next token tells which
pub exact_either : {T A : Type 0} (test : Test T) {g : Test T} {L K : Lang T A} {r q : Reader T A} → Exact g L r → Exact g K q → Ahead g test true L → Ahead g test false K → Exact g (Either L K) (either test r q)
exact_either test c d on off = record { faithful = faithful_either test c.faithful d.faithful on off; some = record { text = d.some.text; value = d.some.value; spelled = inr d.some.spelled } }

-- one or the other, where the first may have no text: the second shows that some text goes on
pub exact_choice : {T A : Type 0} (test : Test T) {g : Test T} {L K : Lang T A} {r q : Reader T A} → Faithful g L r → Exact g K q → Ahead g test true L → Ahead g test false K → Exact g (Either L K) (either test r q)
exact_choice test c d on off = record { faithful = faithful_either test c d.faithful on off; some = record { text = d.some.text; value = d.some.value; spelled = inr d.some.spelled } }

-- a part whose texts have a first token, which is to pass a test; one such text is shown
pub exact_when : {T A : Type 0} (test : Test T) {g : Test T} {L : Lang T A} {r : Reader T A} → Ahead never any_token true L → Inhabited (When test L) → Exact g L r → Exact g (When test L) (when test r)
exact_when test first i c = record { faithful = faithful_when test first c.faithful; some = i }

-- items, behind which no token stands that begins one or with which one goes on: each such token passes
-- `after`
pub exact_many : {T B : Type 0} {goes stays after : Test T} {L : B → Lang T B} {item : B → Reader T B} → Items goes stays L item → ((t : Option T) → after t ≡ false → goes t ≡ false) → ((t : Option T) → after t ≡ false → stays t ≡ false) → (b : B) → Exact after (Many L b) (many goes item b)
exact_many items ends ends2 b = record { faithful = faithful_many items ends ends2 b; some = record { text = []; value = b; spelled = none b [] refl } }

-- ---- weaker claims

-- With more tokens barred behind the texts.
pub faithful_wider : {T A : Type 0} {g g2 : Test T} {L : Lang T A} {r : Reader T A} → ((t : Option T) → g2 t ≡ false → g t ≡ false) → Faithful g L r → Faithful g2 L r
faithful_wider wider c = record { explained = c.explained; complete = record { reads = λ f w x l h. c.complete.reads f w x l (wider (head w) h) } }

pub exact_wider : {T A : Type 0} {g g2 : Test T} {L : Lang T A} {r : Reader T A} → ((t : Option T) → g2 t ≡ false → g t ≡ false) → Exact g L r → Exact g2 L r
exact_wider wider c = record { faithful = faithful_wider wider c.faithful; some = c.some }

-- what never goes on is exact whatever is barred behind it
pub exact_any : {T A : Type 0} {g : Test T} {L : Lang T A} {r : Reader T A} → Exact never L r → Exact g L r
exact_any c = exact_wider (λ t h. refl) c

-- ---- shapes that grammars use again and again

-- a value made of what was read
pub exact_giving : {T A B : Type 0} {g : Test T} {L : Lang T A} {r : Reader T A} (h : A → B) → Exact g L r → Exact g (Giving L h) (giving r h)
exact_giving h c = exact_bind c (λ x. exact_pure (h x)) (λ x. ahead_nothing (λ t e. e))

-- A part that may be missing: it begins with a token that passes the test, and may have no text. Where
-- it is missing no such token follows.
pub exact_optional : {T A : Type 0} (test : Test T) {g : Test T} {L : Lang T A} {r : Reader T A} → Faithful g L r → Ahead g test true L → ((t : Option T) → g t ≡ false → test t ≡ false) → (x : A) → Exact g (Optional L x) (optional test r x)
exact_optional test c on off x = exact_choice test c (exact_pure x) on (ahead_nothing off)

-- The linked items of a chain: each begins with its separator, which passes `goes`. At some values no
-- separator may be allowed, as where a list is full.
pub linked_items : {T B C : Type 0} {goes stays : Test T} {link : B → T → Option C} {L : B → C → Lang T B} {next : B → C → Reader T B} → goes None ≡ false → ((b : B) (t : T) (y : C) → link b t ≡ Some y → goes (Some t) ≡ true) → ((b : B) (y : C) → Exact stays (L b y) (next b y)) → ((t : Option T) → goes t ≡ true → stays t ≡ false) → Items goes stays (Linked link L) (linked link next)
linked_items {link = link} end begin c apart = record { ended = end; faithful = λ b. faithful_then (faithful_take (link b)) (c b); begin = λ b. ahead_token (begin b); apart = apart }

-- Items of a list that aren't parted: each begins with a token of its own.
pub token_items : {T B C : Type 0} {goes : Test T} {p : B → T → Option C} {L : B → C → Lang T B} {next : B → C → Reader T B} → goes None ≡ false → ((b : B) (t : T) (y : C) → p b t ≡ Some y → goes (Some t) ≡ true) → ((b : B) (y : C) → Exact never (L b y) (next b y)) → Items goes never (Linked p L) (linked p next)
token_items end begin c = linked_items end begin c (λ t h. refl)

-- a first part and its linked ones, as a list with commas or operands with operators between them
pub exact_chain : {T B C : Type 0} {goes stays after : Test T} {F : Lang T B} {first : Reader T B} {link : B → T → Option C} {L : B → C → Lang T B} {next : B → C → Reader T B} → Exact stays F first → Items goes stays (Linked link L) (linked link next) → ((t : Option T) → after t ≡ false → goes t ≡ false) → ((t : Option T) → after t ≡ false → stays t ≡ false) → Exact after (Chain F link L) (chain goes first link next)
exact_chain {stays = stays} c items ends ends2 = exact_bind c (exact_many items ends ends2) (ahead_items items stays false items.apart ends2)

-- so many items, none of which goes on with a token that begins one
pub exact_times : {T B : Type 0} {stays : Test T} {L : B → Lang T B} {item : B → Reader T B} → ((b : B) → Exact stays (L b) (item b)) → ((b : B) → Ahead never stays false (L b)) → (n : ℕ) (b : B) → Exact stays (Times n L b) (times n item b)
exact_times c apart zero b = exact_pure b
exact_times c apart (suc n) b = exact_bind (c b) (exact_times c apart n) (ahead_times apart (λ t h. h) n)

-- so many items, with separators between them with which no item goes on
pub exact_exactly : {T B C : Type 0} {stays : Test T} {link : B → T → Option C} {L : B → Lang T B} {item : B → Reader T B} → ((b : B) → Exact never (One (link b)) (take_by (link b))) → ((b : B) (t : T) (y : C) → link b t ≡ Some y → stays (Some t) ≡ false) → ((b : B) → Exact stays (L b) (item b)) → (n : ℕ) (b : B) → Exact stays (Exactly n link L b) (exactly n link item b)
exact_exactly o apart c zero b = exact_pure b
exact_exactly o apart c (suc n) b = exact_bind (c b) (exact_times (λ b. exact_then (o b) (λ _. c b)) (λ b. ahead_token (apart b)) n) (ahead_times (λ b. ahead_token (apart b)) (λ t h. h) n)

-- a part and the token that closes it, with which the part doesn't go on
pub exact_ended : {T A C : Type 0} {g g2 : Test T} {close : T → Option C} {L : Lang T A} {r : Reader T A} → Exact never (One close) (take_by close) → ((t : T) (y : C) → close t ≡ Some y → g (Some t) ≡ false) → Exact g L r → Exact g2 (Ended close L) (ended close r)
exact_ended o apart c = exact_closed c (λ x. o) (λ x. apart) (λ x _. exact_pure x)

-- a part between the token that opens it and the one that closes it
pub exact_enclosed : {T A C D : Type 0} {g g2 : Test T} {opening : T → Option D} {close : T → Option C} {L : Lang T A} {r : Reader T A} → Exact never (One opening) (take_by opening) → Exact never (One close) (take_by close) → ((t : T) (y : C) → close t ≡ Some y → g (Some t) ≡ false) → Exact g L r → Exact g2 (Enclosed opening close L) (enclosed opening close r)
exact_enclosed p o apart c = exact_then p (λ _. exact_ended o apart c)

-- the closing token at once, or a part that doesn't begin with it, and then the closing token
pub exact_listed : {T A C : Type 0} (is_close : Test T) {g g2 : Test T} {close : T → Option C} {L : Lang T A} {r : Reader T A} → Exact never (One close) (take_by close) → ((t : T) (y : C) → close t ≡ Some y → is_close (Some t) ≡ true) → ((t : T) (y : C) → close t ≡ Some y → g (Some t) ≡ false) → Ahead never is_close false L → (x : A) → Exact g L r → Exact g2 (Listed close x L) (listed is_close close x r)
exact_listed is_close o closes apart other x c = exact_either is_close (exact_then o (λ _. exact_pure x)) (exact_ended o apart c) (ahead_token closes) (ahead_first other)

-- ---- steps of loops that count

-- no item more
pub times_done : {T B : Type 0} (n : ℕ) (item : B → Reader T B) (b : B) (ts : List T) → n ≡ 0 → times n item b ts ≡ Got b ts
times_done n item b ts h = ap (λ m. times m item b ts) h

-- one item more, of a number of them that isn't zero
pub times_more : {T B : Type 0} (n : ℕ) (item : B → Reader T B) (b : B) (ts : List T) → 0 < n → times n item b ts ≡ and_then (item b ts) (times (n - 1) item)
times_more zero item b ts h = absurd (omega (arith, h))
times_more (suc n) item b ts h = let e : n ≡ suc n - 1 = omega arith in ap (λ m. and_then (item b ts) (times m item)) e

-- no item at all
pub exactly_done : {T B C : Type 0} (n : ℕ) (link : B → T → Option C) (item : B → Reader T B) (b : B) (ts : List T) → n ≡ 0 → exactly n link item b ts ≡ Got b ts
exactly_done n link item b ts h = ap (λ m. exactly m link item b ts) h

-- the first item, and the rest behind separators
pub exactly_more : {T B C : Type 0} (n : ℕ) (link : B → T → Option C) (item : B → Reader T B) (b : B) (ts : List T) → 0 < n → exactly n link item b ts ≡ and_then (item b ts) (times (n - 1) (linked link (λ c _. item c)))
exactly_more zero link item b ts h = absurd (omega (arith, h))
exactly_more (suc n) link item b ts h = let e : n ≡ suc n - 1 = omega arith in ap (λ m. and_then (item b ts) (times m (linked link (λ c _. item c)))) e
