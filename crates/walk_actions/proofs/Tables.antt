-- Tables by number: an entry that is read, and one that is written.
use Rattle.std.proofs.Common.{◌≡◌, ℕ, zero, suc, ◌+◌, ◌<◌, List, [], ◌∷◌, ◌++◌, length, take, map, get_or, set, refl, sym, ap, ◌∙◌, subst, ℤ, arith, Bool, true, false}
use mathlib.Core.Path.{fun_ext}
use Rattle.std.specs.Prelude.{Option, None, replicate, if◌then◌else◌}
use Rattle.std.proofs.lemmas.List.{replicate-append-replicate, map_more, take_all, length-map}
use Rattle.std.proofs.lemmas.Simd.{map-map}
use Rattle.affine_ast.specs.declared.name.Name.{Name}
use Rattle.affine_ast.specs.Names.{same_name, put}
use Rattle.affine_ast.proofs.Names.{same_name-eq, same_name-refl}
use Rattle.walk_program.specs.Names.{name_at, AreDistinct}
use Rattle.walk_program.specs.Reading.{names_at}
use Rattle.direct_meaning.specs.Action as meaning
use Rattle.direct_meaning.specs.Static.{number, numbers}
use Rattle.direct_meaning.specs.Memory.{empty_env}
use Rattle.walk_actions.specs.declared.action.Home.{Home}
use Rattle.walk_actions.specs.Bindings.{Bindings}
use Rattle.walk_actions.specs.Bindings.{HasEntries}
use Rattle.walk_actions.specs.Looked.{looked, env_of, homes_meant, with_known, with_home, numbers_at}

distinct_tail : (m : Name) (ms : List Name) → AreDistinct (m ∷ ms) → AreDistinct ms
distinct_tail m ms d j k p q e = let h : suc j ≡ suc k = d (suc j) (suc k) (omega (arith, p)) (omega (arith, q)) e in omega (arith, h)

distinct_head : (m : Name) (ms : List Name) (k : ℕ) → AreDistinct (m ∷ ms) → k < length ms → m ≡ name_at ms k → ⊥
distinct_head m ms k d h e = let z : 0 ≡ suc k = d 0 (suc k) (omega arith) (omega (arith, h)) e in absurd (omega (arith, z))

-- the entry of a name is the one at its number
pub looked_at : {A : Type 0} (names : List Name) (xs : List (Option A)) (k : ℕ) → AreDistinct names → length xs ≡ length names → k < length names → looked names xs (name_at names k) ≡ get_or xs k None
unfolding looked
looked_at [] xs k d l h = absurd (omega (arith, h))
looked_at (m ∷ ms) [] k d l h = absurd (omega (arith, l))
looked_at (m ∷ ms) (x ∷ xs) zero d l h = rw (same_name-refl m) refl
looked_at (m ∷ ms) (x ∷ xs) (suc k) d l h = by_test (same_name m (name_at ms k)) refl (looked_at ms xs k (distinct_tail m ms d) (omega (arith, l)) (omega (arith, h)))
  where
    by_test : (t : Bool) → same_name m (name_at ms k) ≡ t → looked ms xs (name_at ms k) ≡ get_or xs k None → (if same_name m (name_at ms k) then x else looked ms xs (name_at ms k)) ≡ get_or xs k None
    by_test true e more = absurd (distinct_head m ms k d (omega (arith, h)) (same_name-eq m (name_at ms k) e))
    by_test false e more = rw e more

set_at : {A : Type 0} (names : List Name) (xs : List (Option A)) (k : ℕ) (v : Option A) (n : Name) → AreDistinct names → length xs ≡ length names → k < length names
    → looked names (set xs k v) n ≡ (if same_name (name_at names k) n then v else looked names xs n)
unfolding looked
set_at [] xs k v n d l h = absurd (omega (arith, h))
set_at (m ∷ ms) [] k v n d l h = absurd (omega (arith, l))
set_at (m ∷ ms) (x ∷ xs) zero v n d l h = by_test (same_name m n) refl
  where
    by_test : (t : Bool) → same_name m n ≡ t → (if same_name m n then v else looked ms xs n) ≡ (if same_name m n then v else (if same_name m n then x else looked ms xs n))
    by_test true e = rw e refl
    by_test false e = rw e refl
set_at (m ∷ ms) (x ∷ xs) (suc k) v n d l h =
    ap (λ y. if same_name m n then x else y) (set_at ms xs k v n (distinct_tail m ms d) (omega (arith, l)) (omega (arith, h)))
    ∙ by_tests (same_name m n) (same_name (name_at ms k) n) refl refl
  where
    by_tests : (s t : Bool) → same_name m n ≡ s → same_name (name_at ms k) n ≡ t
        → (if same_name m n then x else (if same_name (name_at ms k) n then v else looked ms xs n)) ≡ (if same_name (name_at ms k) n then v else (if same_name m n then x else looked ms xs n))
    by_tests true true p q = absurd (distinct_head m ms k d (omega (arith, h)) (same_name-eq m n p ∙ sym (same_name-eq (name_at ms k) n q)))
    by_tests true false p q = rw (p, q) refl
    by_tests false true p q = rw (p, q) refl
    by_tests false false p q = rw (p, q) refl

-- writing the entry of a number changes what its name has, and nothing else
pub looked_set : {A : Type 0} (names : List Name) (xs : List (Option A)) (k : ℕ) (v : Option A) → AreDistinct names → length xs ≡ length names → k < length names → looked names (set xs k v) ≡ put (looked names xs) (name_at names k) v
unfolding put
looked_set names xs k v d l h = fun_ext (λ n. set_at names xs k v n d l h)

abbrev none_of : (A : Type 0) → Option A
none_of A = None

-- where no entry is there, no name has one
pub looked_none : {A : Type 0} (names : List Name) (count : ℕ) (n : Name) → looked {A = A} names (replicate count None) n ≡ None
unfolding looked
looked_none {A = A} [] count n = refl
looked_none {A = A} (m ∷ ms) zero n = refl
looked_none {A = A} (m ∷ ms) (suc count) n = by_test (same_name m n) refl (looked_none ms count n)
  where
    by_test : (t : Bool) → same_name m n ≡ t → looked {A = A} ms (replicate count None) n ≡ None → (if same_name m n then none_of A else looked {A = A} ms (replicate count None) n) ≡ none_of A
    by_test true e more = rw e refl
    by_test false e more = rw e more

pub known_at : (s : Bindings) (k : ℕ) → HasEntries s → k < length s.names → (env_of s).known (name_at s.names k) ≡ get_or s.known k None
known_at s k t h = looked_at s.names s.known k t.distinct t.known h

pub home_at : (s : Bindings) (k : ℕ) → HasEntries s → k < length s.names → (env_of s).home (name_at s.names k) ≡ homes_meant (get_or s.homes k None)
home_at s k t h = ap homes_meant (looked_at s.names s.homes k t.distinct t.homes h)

pub empty_is : (s : Bindings) (n m : ℕ) → s.known ≡ replicate n None → s.homes ≡ replicate m None → s.fasts ≡ 0 → s.tags ≡ 0 → env_of s ≡ empty_env
empty_is s n m p q f t = λ i. record {
  known = (ap (looked s.names) p ∙ fun_ext (λ x. looked_none s.names n x)) i;
  home = fun_ext (λ x. ap (λ entries. homes_meant (looked s.names entries x)) q ∙ ap homes_meant (looked_none s.names m x)) i;
  fasts = f i;
  tags = t i;
}

pub none_more : {A : Type 0} (n : ℕ) → replicate n (none_of A) ++ None ∷ [] ≡ replicate (n + 1) (none_of A)
none_more {A = A} n = replicate-append-replicate n 1 (none_of A)

pub numbers_none : (s : Bindings) → numbers_at s [] ≡ []
unfolding numbers_at
numbers_none s = refl

pub numbers_more : (s : Bindings) (ks : List ℕ) (i : ℕ) → i < length ks → numbers_at s (take i ks) ++ number ((env_of s).known (name_at s.names (get_or ks i 0))) ∷ [] ≡ numbers_at s (take (i + 1) ks)
unfolding numbers_at
numbers_more s ks i h = sym (map_more (λ k. number ((env_of s).known (name_at s.names k))) ks i 0 h)

pub numbers_all : (s : Bindings) (ks : List ℕ) → numbers_at s (take (length ks) ks) ≡ numbers (env_of s) (names_at s.names ks)
unfolding numbers_at
numbers_all s ks = ap (map (λ k. number ((env_of s).known (name_at s.names k)))) (take_all (length ks) ks (omega arith)) ∙ sym (map-map (λ n. number ((env_of s).known n)) (name_at s.names) ks)

pub numbers_length : (s : Bindings) (ks : List ℕ) → length (numbers_at s ks) ≡ length ks
unfolding numbers_at
numbers_length s ks = length-map ks (λ k. number ((env_of s).known (name_at s.names k)))

table_kept : (s t : Bindings) → HasEntries s → t.names ≡ s.names → length t.known ≡ length s.known → length t.homes ≡ length s.homes → HasEntries t
table_kept s t h n k m = record { distinct = subst AreDistinct (sym n) h.distinct; known = k ∙ h.known ∙ ap length (sym n); homes = m ∙ h.homes ∙ ap length (sym n) }

-- a number written down
pub known_set : (s t : Bindings) (k : ℕ) (z : Option ℤ) → HasEntries s → k < length s.names → t.names ≡ s.names → t.known ≡ set s.known k z → t.homes ≡ s.homes → t.fasts ≡ s.fasts → t.tags ≡ s.tags
    → env_of t ≡ with_known (name_at s.names k) z (env_of s)
known_set s t k z h l n e m f g = λ i. record {
  known = ((λ j. looked (n j) (e j)) ∙ looked_set s.names s.known k z h.distinct h.known l) i;
  home = λ x. homes_meant (looked (n i) (m i) x);
  fasts = f i;
  tags = g i;
}

put_meant : (table : Name → Option Home) (n : Name) (home : Option Home) → (λ x. homes_meant (put table n home x)) ≡ put (λ x. homes_meant (table x)) n (homes_meant home)
unfolding put
put_meant table n home = fun_ext (λ x. by_test x (same_name n x) refl)
  where
    by_test : (x : Name) (t : Bool) → same_name n x ≡ t → homes_meant (if same_name n x then home else table x) ≡ (if same_name n x then homes_meant home else homes_meant (table x))
    by_test x true e = rw e refl
    by_test x false e = rw e refl

-- a memref written down
pub home_set : (s t : Bindings) (k : ℕ) (home : Option Home) → HasEntries s → k < length s.names → t.names ≡ s.names → t.homes ≡ set s.homes k home → t.known ≡ s.known → t.fasts ≡ s.fasts → t.tags ≡ s.tags
    → env_of t ≡ with_home (name_at s.names k) (homes_meant home) (env_of s)
home_set s t k home h l n e m f g = λ i. record {
  known = looked (n i) (m i);
  home = ((λ j x. homes_meant (looked (n j) (e j) x)) ∙ ap {B = Name → Option meaning.Home} (λ (table : Name → Option Home) x. homes_meant (table x)) (looked_set s.names s.homes k home h.distinct h.homes l) ∙ put_meant (looked s.names s.homes) (name_at s.names k) home) i;
  fasts = f i;
  tags = g i;
}

pub ruleset writes = (known_at, home_at, known_set, home_set)
