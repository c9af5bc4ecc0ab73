-- Lookahead of languages by their parts: which token stands first where a text stands. These are the
-- side conditions of the laws, and each comes down to facts on one token.
use Rattle.std.proofs.Common.{◌≡◌, ℕ, zero, suc, Bool, true, false, ◌||◌, if◌then◌else◌, List, [], ◌∷◌, ◌++◌, Option, Some, None, refl, ap, ◌∙◌, append_assoc, inl, inr}
use Rattle.readers.specs.Readers.{Test, head, never, any_token, classed, accept}
use Rattle.readers.specs.Languages.{Lang, Both, Nothing, One, Either, When, Optional, Times}
use Rattle.readers.specs.Exactness.{Ahead}

-- ---- tests

pub or_left : (a b : Bool) → (a || b) ≡ false → a ≡ false
or_left true b h = cc
or_left false b h = refl

pub or_right : (a b : Bool) → (a || b) ≡ false → b ≡ false
or_right true b h = cc
or_right false b h = h

pub or_false : (a b : Bool) → a ≡ false → b ≡ false → (a || b) ≡ false
or_false true b h k = cc
or_false false b h k = k

pub or_on : (a b : Bool) → b ≡ true → (a || b) ≡ true
or_on true b h = refl
or_on false b h = h

-- a test that one of two tests passes gives what both give
pub or_ahead : (a b c : Bool) → (a || b) ≡ true → (a ≡ true → c ≡ false) → (b ≡ true → c ≡ false) → c ≡ false
or_ahead true b c h f g = f refl
or_ahead false b c h f g = g h

-- a token that was accepted passes the test
pub accept_is : {T : Type 0} (test : T → Bool) (t : T) (x : Unit {0}) → accept test t ≡ Some x → test t ≡ true
accept_is test t x h = by_test (test t) h
  where
    by_test : (b : Bool) → (if b then Some tt else None) ≡ Some x → b ≡ true
    by_test true e = refl
    by_test false e = cc

-- The tokens that a taker takes are of one class, and the test of that class computes: `class_test` is
-- the fact on one token that the laws ask for, with `refl` as its last argument.
pub class_test : {T A C : Type 0} {class : T → C} {p : T → Option A} (c : C) → ((t : T) (x : A) → p t ≡ Some x → class t ≡ c) → (test : C → Bool) {v : Bool} → test c ≡ v → (t : T) (x : A) → p t ≡ Some x → classed class test (Some t) ≡ v
class_test c of test h t x e = ap test (of t x e) ∙ h

-- ---- languages

-- what a text sees it sees with more tokens barred behind it
pub ahead_wider : {T A : Type 0} {g g2 test : Test T} {v : Bool} {L : Lang T A} → ((t : Option T) → g2 t ≡ false → g t ≡ false) → Ahead g test v L → Ahead g2 test v L
ahead_wider wider a = record { sees = λ f w x l h. a.sees f w x l (wider (head w) h) }

-- a text with a first token of its own sees it whatever stands behind it
pub ahead_any : {T A : Type 0} {g test : Test T} {v : Bool} {L : Lang T A} → Ahead never test v L → Ahead g test v L
ahead_any a = record { sees = λ f w x l h. a.sees f w x l refl }

-- what follows from a test of the first token, as that it isn't of another kind
pub ahead_so : {T A : Type 0} {g test : Test T} {v : Bool} (test2 : Test T) {u : Bool} {L : Lang T A} → ((t : Option T) → test t ≡ v → test2 t ≡ u) → Ahead g test v L → Ahead g test2 u L
ahead_so test2 so a = record { sees = λ f w x l h. so (head (f ++ w)) (a.sees f w x l h) }

pub ahead_nothing : {T A : Type 0} {g test : Test T} {v : Bool} {x : A} → ((t : Option T) → g t ≡ false → test t ≡ v) → Ahead g test v (Nothing x)
ahead_nothing {test = test} so = record { sees = λ f w x l h. ap (λ m. test (head (m ++ w))) l.0 ∙ so (head w) h }

pub ahead_one : {T A : Type 0} {g test : Test T} {v : Bool} {p : T → Option A} → ((t : T) (x : A) → p t ≡ Some x → test (Some t) ≡ v) → Ahead g test v (One p)
ahead_one {test = test} of = record { sees = λ f w x l h. ap (λ m. test (head (m ++ w))) l.alone ∙ of l.token x l.accepted }

-- a first part with a first token of its own
pub ahead_first : {T A B : Type 0} {g test : Test T} {v : Bool} {L : Lang T A} {K : A → Lang T B} → Ahead never test v L → Ahead g test v (Both L K)
ahead_first {test = test} a = record { sees = λ f w y b h. ap (λ l. test (head l)) (ap (λ l. l ++ w) b.parts ∙ append_assoc b.left b.right w) ∙ a.sees b.left (b.right ++ w) b.value b.first refl }

-- a first part, and what stands behind it where it is empty
pub ahead_both : {T A B : Type 0} {g g2 test : Test T} {v : Bool} {L : Lang T A} {K : A → Lang T B} → Ahead g test v L → ((x : A) → Ahead g2 g false (K x)) → Ahead g2 test v (Both L K)
ahead_both {test = test} a k = record { sees = λ f w y b h. ap (λ l. test (head l)) (ap (λ l. l ++ w) b.parts ∙ append_assoc b.left b.right w) ∙ a.sees b.left (b.right ++ w) b.value b.first ((k b.value).sees b.right w y b.second h) }

-- the first token of what begins with one token
pub ahead_token : {T A B : Type 0} {g test : Test T} {v : Bool} {p : T → Option A} {K : A → Lang T B} → ((t : T) (x : A) → p t ≡ Some x → test (Some t) ≡ v) → Ahead g test v (Both (One p) K)
ahead_token of = ahead_first (ahead_one of)

pub ahead_either : {T A : Type 0} {g test : Test T} {v : Bool} {L K : Lang T A} → Ahead g test v L → Ahead g test v K → Ahead g test v (Either L K)
ahead_either {T} {A} {g} {test} {v} {L} {K} a b = record { sees = sees }
  where
    sees : (f w : List T) (x : A) → Either L K f x → g (head w) ≡ false → test (head (f ++ w)) ≡ v
    sees f w x (inl l) h = a.sees f w x l h
    sees f w x (inr k) h = b.sees f w x k h

pub ahead_when : {T A : Type 0} {g test2 : Test T} {v : Bool} (test : Test T) {L : Lang T A} → Ahead g test2 v L → Ahead g test2 v (When test L)
ahead_when test a = record { sees = λ f w x l h. a.sees f w x l.0 h }

-- the token that was tested
pub ahead_tested : {T A : Type 0} {g : Test T} (test test2 : Test T) {v : Bool} {L : Lang T A} → Ahead never any_token true L → ((t : Option T) → test t ≡ true → test2 t ≡ v) → Ahead g test2 v (When test L)
ahead_tested {T} {A} {g} test test2 {v} {L} first so = record { sees = sees }
  where
    sees : (f w : List T) (x : A) → When test L f x → g (head w) ≡ false → test2 (head (f ++ w)) ≡ v
    sees [] w x l h = let e : false ≡ true = first.sees [] [] x l.0 refl in cc
    sees (t ∷ f) w x l h = so (Some t) l.1

pub ahead_optional : {T A : Type 0} {g test : Test T} {v : Bool} {L : Lang T A} {x : A} → Ahead g test v L → ((t : Option T) → g t ≡ false → test t ≡ v) → Ahead g test v (Optional L x)
ahead_optional a so = ahead_either a (ahead_nothing so)

-- so many items, or what stands behind where there is none
pub ahead_times : {T B : Type 0} {g test : Test T} {v : Bool} {L : B → Lang T B} → ((b : B) → Ahead never test v (L b)) → ((t : Option T) → g t ≡ false → test t ≡ v) → (n : ℕ) (b : B) → Ahead g test v (Times n L b)
ahead_times a so zero b = ahead_nothing so
ahead_times a so (suc n) b = ahead_first (a b)
