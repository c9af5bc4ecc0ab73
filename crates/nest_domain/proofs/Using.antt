-- The names that a place uses, in a table.
use Rattle.std.proofs.Common.{◌≡◌, ℕ, ◌+◌, ◌<◌, ◌≤◌, Bool, true, false, List, [], ◌∷◌, ◌++◌, length, drop, get_or, ℤ, refl, sym, ap, ◌∙◌, subst, append_assoc}
use Rattle.std.specs.List.{list_any}
use Rattle.std.specs.Prelude.{◌||◌, if◌then◌else◌}
use Rattle.affine_expr.specs.declared.map.Set.{Set}
use Rattle.affine_ast.specs.declared.name.Name.{Name}
use Rattle.affine_ast.specs.declared.stmt.Stmt.{Stmt}
use Rattle.affine_ast.specs.declared.stmt.What as what
use Rattle.affine_ast.specs.declared.stmt.What.{What}
use Rattle.affine_ast.specs.declared.stmt.What.TheOpen.{What-F}
use Rattle.affine_ast.specs.declared.stmt.What.TheVariants.{rolls-Value}
use Rattle.affine_ast.specs.declared.types.Access.{Access}
use Rattle.affine_ast.specs.declared.types.Bound.{Bound}
use Rattle.affine_ast.specs.declared.types.Pick.{Pick}
use Rattle.affine_ast.specs.Names.{same_name, put}
use Rattle.affine_ast.specs.Nest.{Nest, Nothing, Value, put_what, head_plain, plain_of}
use Rattle.affine_ast.proofs.Names.{put-same, put-other, same_name-eq, same_name-sym}
use Rattle.affine_ast.proofs.Nests.{put_what_is, plain-Value}
use Rattle.affine_rules.specs.declared.scope.Key.{Key}
use Rattle.affine_rules.specs.Scoped.{is_key, names_of}
use Rattle.nest_domain.specs.Ways.{Round, Given, Except, Behind, Past, has_name, bound_names, used}
use Rattle.nest_domain.specs.Used.{AreUsed, HasMore, TakesIn}
use Rattle.nest_domain.proofs.Loops.{from_place, past}

or_assoc : (a b c : Bool) → (a || (b || c)) ≡ ((a || b) || c)
or_assoc true b c = refl
or_assoc false b c = refl

has-append : (m : Name) (xs ys : List Name) → has_name m (xs ++ ys) ≡ (has_name m xs || has_name m ys)
has-append m [] ys = refl
has-append m (x ∷ xs) ys = ap (λ b. same_name m x || b) (has-append m xs ys) ∙ or_assoc (same_name m x) (has_name m xs) (has_name m ys)

-- ---- one name more
-- a name put into a table is there, beside those that were
pub put_has : (f : Name → Bool) (n m : Name) → put f n true m ≡ (has_name m (n ∷ []) || f m)
put_has f n m = by (same_name n m) refl
  where
    by : (s : Bool) → same_name n m ≡ s → put f n true m ≡ ((same_name m n || false) || f m)
    by true e = put-same f n true m e ∙ sym (ap (λ b. (b || false) || f m) (same_name-sym m n ∙ e))
    by false e = put-other f n true m e ∙ sym (ap (λ b. (b || false) || f m) (same_name-sym m n ∙ e))

-- a name that is there adds none
pub kept_has : (f : Name → Bool) (n m : Name) → f n ≡ true → f m ≡ (has_name m (n ∷ []) || f m)
kept_has f n m h = by (same_name n m) refl
  where
    by : (s : Bool) → same_name n m ≡ s → f m ≡ ((same_name m n || false) || f m)
    by true e = ap f (sym (same_name-eq n m e)) ∙ h ∙ sym (ap (λ b. (b || false) || f m) (same_name-sym m n ∙ e))
    by false e = sym (ap (λ b. (b || false) || f m) (same_name-sym m n ∙ e))

-- ---- names one after the other
turned : (a r u : Bool) → ((a || r) || u) ≡ (r || ((a || false) || u))
turned true true u = refl
turned true false u = refl
turned false r u = refl

pub one_taken : (m : Name) (names : List Name) (i : ℕ) (n : Name) (old new : List Key) → i < length names → n ≡ get_or names i n → HasMore (n ∷ []) old new
    → (has_name m (drop i names) || names_of old m) ≡ (has_name m (drop (i + 1) names) || names_of new m)
one_taken m names i n old new h e k =
    ap (λ l. has_name m l || names_of old m) (from_place names i n h e) ∙ turned (same_name m n) (has_name m (drop (i + 1) names)) (names_of old m) ∙ ap (λ b. has_name m (drop (i + 1) names) || b) (sym (k m))

pub all_taken : (m : Name) (names : List Name) (i : ℕ) (b c : Bool) → length names ≤ i → (has_name m names || b) ≡ (has_name m (drop i names) || c) → c ≡ (has_name m names || b)
all_taken m names i b c h e = sym (e ∙ ap (λ l. has_name m l || c) (past names i h))

-- two lists of names
pub both_taken : (xs ys : List Name) (old middle new : List Key) → HasMore ys old middle → HasMore xs middle new → HasMore (xs ++ ys) old new
both_taken xs ys old middle new a b = λ m. b m ∙ ap (λ t. has_name m xs || t) (a m) ∙ or_assoc (has_name m xs) (has_name m ys) (names_of old m) ∙ ap (λ t. t || names_of old m) (sym (has-append m xs ys))

-- a table that had none
pub used_at_first : (none new : List Key) (own : List Name) → none ≡ [] → HasMore own none new → AreUsed new own
unfolding names_of
used_at_first none new own e h = λ m. h m ∙ ap (λ l. has_name m own || list_any (is_key m) l) e ∙ or_none (has_name m own)
  where
    or_none : (b : Bool) → (b || false) ≡ b
    or_none true = refl
    or_none false = refl

-- ---- a thing on the way
in_front : (names : List Name) (old new : List Key) (behind : List Name) → HasMore names old new → AreUsed old behind → AreUsed new (names ++ behind)
in_front names old new behind h a = λ m. h m ∙ ap (λ t. has_name m names || t) (a m) ∙ sym (has-append m names behind)

pub round_taken : (v : Name) (l u : Bound) (s : ℤ) (old new : List Key) → HasMore (bound_names l ++ bound_names u) old new → TakesIn (Round v l u s) false old new
unfolding used
round_taken v l u s old new h = λ hs own a. (refl, λ m. in_front (bound_names l ++ bound_names u) old new (used hs own) h a m ∙ ap (has_name m) (append_assoc (bound_names l) (bound_names u) (used hs own)))

pub given_taken : (set : Set) (names : List Name) (old new : List Key) → HasMore names old new → TakesIn (Given set names) false old new
unfolding used
given_taken set names old new h = λ hs own a. (refl, in_front names old new (used hs own) h a)

pub except_taken : (set : Set) (names : List Name) (first : Nest) (keys : List Key) → TakesIn (Except set names first) false keys keys
unfolding used
except_taken set names first keys = λ hs own a. (refl, a)

pub past_taken : (n : Nest) (keys : List Key) → TakesIn (Past n) false keys keys
unfolding used
past_taken n keys = λ hs own a. (refl, a)

pub idle_taken : (r : Name) (pick : Pick) (at : Access) (keys : List Key) → names_of keys r ≡ false → TakesIn (Behind (Value r pick at)) false keys keys
unfolding used
idle_taken r pick at keys e = λ hs own a.
    let h : has_name r (used hs own) ≡ false = sym (a r) ∙ e in
    (sym h, λ m. a m ∙ ap (λ b. has_name m (if b then at.operands ++ used hs own else used hs own)) (sym h))

pub value_taken : (r : Name) (pick : Pick) (at : Access) (old new : List Key) → names_of old r ≡ true → HasMore at.operands old new → TakesIn (Behind (Value r pick at)) true old new
unfolding used
value_taken r pick at old new e g = λ hs own a.
    let h : has_name r (used hs own) ≡ true = sym (a r) ∙ e in
    (sym h, λ m. in_front at.operands old new (used hs own) g a m ∙ ap (λ b. has_name m (if b then at.operands ++ used hs own else used hs own)) (sym h))

pub idle_what : (w : What) (r : Name) (pick : Pick) (at : Access) (keys : List Key) → w ≡ what.Value r pick at → names_of keys r ≡ false → TakesIn (Behind (plain_of w)) false keys keys
idle_what w r pick at keys e h = subst (λ p. TakesIn (Behind p) false keys keys) (sym (ap plain_of e ∙ plain-Value r pick at)) (idle_taken r pick at keys h)

pub value_what : (w : What) (r : Name) (pick : Pick) (at : Access) (old new : List Key) → w ≡ what.Value r pick at → names_of old r ≡ true → HasMore at.operands old new → TakesIn (Behind (plain_of w)) true old new
value_what w r pick at old new e h g = subst (λ p. TakesIn (Behind p) true old new) (sym (ap plain_of e ∙ plain-Value r pick at)) (value_taken r pick at old new h g)

-- a statement that gives no value uses none
pub other_what : (w : What) (keys : List Key) → ((r : Name) (pick : Pick) (at : Access) → w ≡ what.Value r pick at → ⊥) → TakesIn (Behind (plain_of w)) false keys keys
unfolding used plain_of
other_what w keys none = by (what.out-What w) (what.roll-out-What w)
  where
    by : (x : What-F What Stmt) → what.roll-What x ≡ w → TakesIn (Behind (head_plain (put_what w 0 Nothing))) false keys keys
    by (What-F.Value r pick at) e = absurd (none r pick at (sym e ∙ rolls-Value r pick at))
    by x e = subst (λ n. TakesIn (Behind (head_plain n)) false keys keys) (sym (put_what_is 0 Nothing x w e)) (λ hs own a. (refl, a))
