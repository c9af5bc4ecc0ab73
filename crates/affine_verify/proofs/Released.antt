-- Deallocs of a statement and of what follows, and the names of both.
use Rattle.std.proofs.Common.{◌≡◌, ℕ, ℤ, zero, suc, ◌+◌, ◌-◌, ◌<◌, ◌≤◌, Bool, true, false, List, [], ◌∷◌, ◌++◌, length, get_or, drop, reverse, refl, sym, ap, ◌∙◌, arith}
use Rattle.std.specs.Prelude.{Some, None, Result, Ok, Err, OnOk, ◌||◌, ◌&&◌, not, nat_lt, nat_eq, if◌then◌else◌}
use Rattle.std.proofs.lemmas.Bool.Decides.{nat_tests}
use Rattle.std.proofs.lemmas.List.{drop_more, drop_all, reverse-append}
use Rattle.affine_expr.specs.declared.map.Set.{Set}
use Rattle.affine_ast.specs.declared.name.Name.{Name}
use Rattle.affine_ast.specs.declared.types.Bound.{Bound}
use Rattle.affine_ast.specs.declared.types.MemrefType.{MemrefType}
use Rattle.affine_ast.specs.declared.stmt.Stmt.{Stmt}
use Rattle.affine_ast.specs.declared.stmt.What as what
use Rattle.affine_ast.specs.declared.stmt.What.{What}
use Rattle.affine_ast.specs.declared.stmt.What.TheOpen.{What-F}
use Rattle.affine_ast.specs.declared.stmt.What.TheVariants.{rolls-Alloc, rolls-Dealloc}
use Rattle.affine_ast.specs.Names.{same_name, put}
use Rattle.affine_ast.specs.Nest.{Nest, Nothing, Loop, Branch, Does, Dealloc, Puts, put_layer, put_what, put_stmt, nest, head_plain, plain_of, is_region}
use Rattle.affine_ast.specs.Rules.{deallocs, own_deallocs, is_dealloc_of, is_released_once}
use Rattle.affine_ast.proofs.Names.{same_name-eq, same_name-is, put-same, put-other}
use Rattle.affine_ast.proofs.Nests.{nest-cons, nest-nil, put_what_is}
use Rattle.affine_rules.specs.Scoped.{names_of}
use Rattle.affine_verify.specs.declared.release.Deallocs.{Deallocs}
use Rattle.affine_verify.specs.Deallocs.{deallocs_in, once_of, once_each, Lists}
use Rattle.affine_verify.proofs.Plains.{plain_step, own_step, loop_step, if_step, else_step}

-- the statements that are left, by the first of them
pub rest_step : (xs : List Stmt) (i : ℕ) (x : Stmt) → i < length xs → x ≡ get_or xs i x → nest (drop i xs) ≡ put_what x.what x.line (nest (drop (i + 1) xs))
rest_step xs i x h is = ap nest (drop_more xs i x h) ∙ ap (λ y. nest (y ∷ drop (i + 1) xs)) (sym is) ∙ nest-cons x (drop (i + 1) xs)

pub rest_end : (xs : List Stmt) (i : ℕ) → length xs ≤ i → nest (drop i xs) ≡ nest []
rest_end xs i h = ap nest (drop_all i xs h)

-- ---- Deallocs of one statement

layer_deallocs : (m : Name) (x : What-F (ℕ → Puts) Puts) (line : ℕ) (rest : Nest) → deallocs m (put_layer x line rest) ≡ deallocs m (put_layer x 0 Nothing) + deallocs m rest
unfolding deallocs
layer_deallocs m (What-F.For v l u s body) line rest = omega arith
layer_deallocs m (What-F.If set names first other) line rest = omega arith
layer_deallocs m x line rest = omega arith

-- those of a statement, and those behind it
pub all_step : (m : Name) (w : What) (line : ℕ) (rest : Nest) → deallocs m (put_what w line rest) ≡ deallocs_in m w + deallocs m rest
unfolding deallocs_in
all_step m w line rest =
    let x = what.map-What What Stmt (ℕ → Puts) Puts put_what put_stmt (what.out-What w) in
    ap (deallocs m) (put_what_is line rest (what.out-What w) w (what.roll-out-What w)) ∙ layer_deallocs m x line rest
    ∙ ap (λ n. deallocs m n + deallocs m rest) (sym (put_what_is 0 Nothing (what.out-What w) w (what.roll-out-What w)))

pub in_plain : (m : Name) (w : What) → is_region w ≡ false → deallocs_in m w ≡ is_dealloc_of m (plain_of w)
unfolding deallocs_in deallocs
in_plain m w h = omega (arith, plain_step m w 0 Nothing h)

pub in_loop : (m : Name) (w : What) (v : Name) (l u : Bound) (s : ℤ) (body : List Stmt) → w ≡ what.For v l u s body → deallocs_in m w ≡ deallocs m (nest body)
unfolding deallocs_in deallocs
in_loop m w v l u s body e = ap (λ x. deallocs m (put_what x 0 Nothing)) e ∙ loop_step m 0 Nothing v l u s body ∙ omega arith

pub in_if : (m : Name) (w : What) (set : Set) (names : List Name) (first : List Stmt) → w ≡ what.If set names first None → deallocs_in m w ≡ deallocs m (nest first)
unfolding deallocs_in deallocs
in_if m w set names first e = ap (λ x. deallocs m (put_what x 0 Nothing)) e ∙ if_step m 0 Nothing set names first ∙ omega arith

pub in_else : (m : Name) (w : What) (set : Set) (names : List Name) (first other : List Stmt) → w ≡ what.If set names first (Some other) → deallocs_in m w ≡ deallocs m (nest first) + deallocs m (nest other)
unfolding deallocs_in deallocs
in_else m w set names first other e = ap (λ x. deallocs m (put_what x 0 Nothing)) e ∙ else_step m 0 Nothing set names first other ∙ omega arith

-- ---- Tests

pub lt_sum : (a b : ℕ) → nat_lt 0 (a + b) ≡ (nat_lt 0 a || nat_lt 0 b)
lt_sum zero b = ap (nat_lt 0) (omega arith)
lt_sum (suc a) b = grind (arith, nat_tests)

pub lt_if : (b : Bool) → nat_lt 0 (if b then 1 else 0) ≡ b
lt_if true = refl
lt_if false = refl

pub or_false : (b : Bool) → b ≡ (b || false)
or_false true = refl
or_false false = refl

-- a table with one name more
pub put_is_or : (f : Name → Bool) (n m : Name) → put f n true m ≡ (f m || same_name n m)
put_is_or f n m = by (same_name n m) refl
  where
    or_true : (b : Bool) → true ≡ (b || true)
    or_true true = refl
    or_true false = refl

    by : (s : Bool) → same_name n m ≡ s → put f n true m ≡ (f m || same_name n m)
    by true e = put-same f n true m e ∙ or_true (f m) ∙ ap (λ b. f m || b) (sym e)
    by false e = put-other f n true m e ∙ or_false (f m) ∙ ap (λ b. f m || b) (sym e)

-- a name that is there already
pub kept_is_or : (f : Name → Bool) (n m : Name) → f n ≡ true → f m ≡ (f m || same_name n m)
kept_is_or f n m h = by (same_name n m) refl
  where
    by : (s : Bool) → same_name n m ≡ s → f m ≡ (f m || same_name n m)
    by true e = let t : f m ≡ true = ap f (sym (same_name-eq n m e)) ∙ h in t ∙ ap (λ b. b || same_name n m) (sym t)
    by false e = or_false (f m) ∙ ap (λ b. f m || b) (sym e)

pub one_noted : (m : Name) (w : What) (b : Bool) → is_region w ≡ false → is_dealloc_of m (plain_of w) ≡ (if b then 1 else 0) → b ≡ nat_lt 0 (deallocs_in m w)
one_noted m w b h e = sym (lt_if b) ∙ ap (nat_lt 0) (sym e ∙ sym (in_plain m w h))

pub none_noted : (m : Name) (w : What) (b : Bool) → is_region w ≡ false → is_dealloc_of m (plain_of w) ≡ 0 → b ≡ (b || nat_lt 0 (deallocs_in m w))
none_noted m w b h e = or_false b ∙ ap (λ n. b || nat_lt 0 n) (sym e ∙ sym (in_plain m w h))

or_assoc : (a b c : Bool) → ((a || b) || c) ≡ (a || (b || c))
or_assoc true b c = refl
or_assoc false b c = refl

-- two lists of statements, one after the other
pub both_noted : (a b c : Bool) (k l n : ℕ) → b ≡ (a || nat_lt 0 k) → c ≡ (b || nat_lt 0 l) → n ≡ k + l → c ≡ (a || nat_lt 0 n)
both_noted a b c k l n h g e = g ∙ ap (λ x. x || nat_lt 0 l) h ∙ or_assoc a (nat_lt 0 k) (nat_lt 0 l) ∙ ap (λ x. a || x) (sym (lt_sum k l) ∙ ap (nat_lt 0) (sym e))

-- one statement on, and at the end
pub noted_step : (m : Name) (xs : List Stmt) (i : ℕ) (x : Stmt) (all old new : Bool) → i < length xs → x ≡ get_or xs i x → all ≡ (old || nat_lt 0 (deallocs m (nest (drop i xs)))) → new ≡ (old || nat_lt 0 (deallocs_in m x.what))
    → all ≡ (new || nat_lt 0 (deallocs m (nest (drop (i + 1) xs))))
noted_step m xs i x all old new h is e g =
    let k : deallocs m (nest (drop i xs)) ≡ deallocs_in m x.what + deallocs m (nest (drop (i + 1) xs)) = ap (deallocs m) (rest_step xs i x h is) ∙ all_step m x.what x.line (nest (drop (i + 1) xs)) in
    e ∙ ap (λ n. old || nat_lt 0 n) k ∙ ap (λ b. old || b) (lt_sum (deallocs_in m x.what) (deallocs m (nest (drop (i + 1) xs))))
    ∙ sym (or_assoc old (nat_lt 0 (deallocs_in m x.what)) (nat_lt 0 (deallocs m (nest (drop (i + 1) xs))))) ∙ ap (λ b. b || nat_lt 0 (deallocs m (nest (drop (i + 1) xs)))) (sym g)

pub noted_end : (m : Name) (xs : List Stmt) (i : ℕ) (all now : Bool) → length xs ≤ i → all ≡ (now || nat_lt 0 (deallocs m (nest (drop i xs)))) → now ≡ all
unfolding deallocs
noted_end m xs i all now h e = or_false now ∙ ap (λ n. now || nat_lt 0 (deallocs m n)) (sym (rest_end xs i h ∙ nest-nil)) ∙ sym e

-- a dealloc more in the region itself, of this name or of another
pub own_more : (s : Bool) (o : ℕ) → (nat_lt 0 o || s) ≡ nat_lt 0 ((if s then 1 else 0) + o)
own_more true o = grind (arith, nat_tests)
own_more false o = sym (or_false (nat_lt 0 o)) ∙ ap (nat_lt 0) (omega arith)

pub more_own : (s : Bool) (o a : ℕ) → o ≤ a → ((nat_lt 1 o || nat_lt o a) || (nat_lt 0 o && s)) ≡ (nat_lt 1 ((if s then 1 else 0) + o) || nat_lt ((if s then 1 else 0) + o) ((if s then 1 else 0) + a))
more_own true o a h = grind (arith, nat_tests)
more_own false o a h = grind (arith, nat_tests)

-- deallocs further in
pub more_inside : (o a n : ℕ) → o ≤ a → ((nat_lt 1 o || nat_lt o a) || nat_lt 0 n) ≡ (nat_lt 1 o || nat_lt o (n + a))
more_inside o a n h = grind (arith, nat_tests)

pub once_is : (o a : ℕ) → o ≤ a → (nat_lt 0 o && not (nat_lt 1 o || nat_lt o a)) ≡ (nat_eq a 1 && nat_eq o 1)
once_is o a h = grind (arith, nat_tests)

-- own deallocs are among all
pub own_among : (m : Name) (n : Nest) → own_deallocs m n ≤ deallocs m n
unfolding deallocs own_deallocs
own_among m Nothing = omega arith
own_among m (Loop line v l u s body rest) = omega (arith, own_among m rest)
own_among m (Branch line set names first has other rest) = omega (arith, own_among m rest)
own_among m (Does line p rest) = omega (arith, own_among m rest)

-- ---- The names of the deallocs in the rest

pub lists_none : (d : Deallocs) → d.own.keys ≡ [] → d.more.keys ≡ [] → Lists d Nothing
unfolding deallocs own_deallocs names_of
lists_none d e f = record {
  own = λ m. ap (λ ks. names_of ks m) e;
  more = λ m. ap (λ ks. names_of ks m) f;
}

-- a name stands for itself
same_and : (f : Name → Bool) (n m : Name) → (f n && same_name n m) ≡ (f m && same_name n m)
same_and f n m = by (same_name n m) refl
  where
    none : (a b : Bool) → (a && false) ≡ (b && false)
    none true true = refl
    none true false = refl
    none false true = refl
    none false false = refl

    by : (s : Bool) → same_name n m ≡ s → (f n && same_name n m) ≡ (f m && same_name n m)
    by true e = ap (λ k. f k && same_name n m) (same_name-eq n m e)
    by false e = ap (λ b. f n && b) e ∙ none (f n) (f m) ∙ ap (λ b. f m && b) (sym e)

-- a dealloc before the rest, in the region itself
pub lists_own : (d e : Deallocs) (n : Name) (w : What) (line : ℕ) (rest : Nest) → is_region w ≡ false → ((m : Name) → is_dealloc_of m (plain_of w) ≡ (if same_name n m then 1 else 0))
    → ((m : Name) → names_of e.own.keys m ≡ (names_of d.own.keys m || same_name n m))
    → ((m : Name) → names_of e.more.keys m ≡ (names_of d.more.keys m || (names_of d.own.keys n && same_name n m))) → Lists d rest → Lists e (put_what w line rest)
lists_own d e n w line rest plain is own more lists = record {
  own = λ m. own m ∙ ap (λ b. b || same_name n m) (lists.own m) ∙ own_more (same_name n m) (own_deallocs m rest) ∙ ap (nat_lt 0) (sym (own_count m));
  more = λ m. more m
      ∙ (λ i. lists.more m i || (same_and (names_of d.own.keys) n m ∙ ap (λ b. b && same_name n m) (lists.own m)) i)
      ∙ more_own (same_name n m) (own_deallocs m rest) (deallocs m rest) (own_among m rest)
      ∙ (λ i. nat_lt 1 (sym (own_count m) i) || nat_lt (sym (own_count m) i) (sym (all_count m) i));
}
  where
    own_count : (m : Name) → own_deallocs m (put_what w line rest) ≡ (if same_name n m then 1 else 0) + own_deallocs m rest
    own_count m = own_step m w line rest ∙ ap (λ (k : ℕ). k + own_deallocs m rest) (is m)

    all_count : (m : Name) → deallocs m (put_what w line rest) ≡ (if same_name n m then 1 else 0) + deallocs m rest
    all_count m = all_step m w line rest ∙ ap (λ (k : ℕ). k + deallocs m rest) (in_plain m w plain ∙ is m)

-- a loop or a condition before the rest
pub lists_inside : (d e : Deallocs) (w : What) (line : ℕ) (rest : Nest) → ((m : Name) → is_dealloc_of m (plain_of w) ≡ 0) → ((m : Name) → names_of e.own.keys m ≡ names_of d.own.keys m)
    → ((m : Name) → names_of e.more.keys m ≡ (names_of d.more.keys m || nat_lt 0 (deallocs_in m w))) → Lists d rest → Lists e (put_what w line rest)
lists_inside d e w line rest is own more lists = record {
  own = λ m. own m ∙ lists.own m ∙ ap (nat_lt 0) (sym (own_count m));
  more = λ m. more m ∙ ap (λ b. b || nat_lt 0 (deallocs_in m w)) (lists.more m) ∙ more_inside (own_deallocs m rest) (deallocs m rest) (deallocs_in m w) (own_among m rest)
      ∙ (λ i. nat_lt 1 (sym (own_count m) i) || nat_lt (sym (own_count m) i) (sym (all_step m w line rest) i));
}
  where
    own_count : (m : Name) → own_deallocs m (put_what w line rest) ≡ own_deallocs m rest
    own_count m = own_step m w line rest ∙ ap (λ (k : ℕ). k + own_deallocs m rest) (is m) ∙ omega arith

-- another statement before the rest
pub lists_same : (d : Deallocs) (w : What) (line : ℕ) (rest : Nest) → is_region w ≡ false → ((m : Name) → is_dealloc_of m (plain_of w) ≡ 0) → Lists d rest → Lists d (put_what w line rest)
lists_same d w line rest plain is lists = lists_inside d d w line rest is (λ m. refl) (λ m. none_noted m w (names_of d.more.keys m) plain (is m)) lists

-- released exactly once, in the region itself
pub lists_once : (d : Deallocs) (rest : Nest) (n : Name) → Lists d rest → (names_of d.own.keys n && not (names_of d.more.keys n)) ≡ is_released_once n rest
unfolding is_released_once
lists_once d rest n lists = (λ i. lists.own n i && not (lists.more n i)) ∙ once_is (own_deallocs n rest) (deallocs n rest) (own_among n rest)

pub once_then : (d : Deallocs) (rest : Nest) (n : Name) (b c : Bool) → b ≡ names_of d.own.keys n → b ≡ true → c ≡ names_of d.more.keys n → Lists d rest → not c ≡ is_released_once n rest
once_then d rest n b c e t f lists = ap not f ∙ ap (λ x. x && not (names_of d.more.keys n)) (sym t ∙ e) ∙ lists_once d rest n lists

pub once_else : (d : Deallocs) (rest : Nest) (n : Name) (b : Bool) → b ≡ names_of d.own.keys n → b ≡ false → Lists d rest → b ≡ is_released_once n rest
once_else d rest n b e t lists = t ∙ ap (λ x. x && not (names_of d.more.keys n)) (sym t ∙ e) ∙ lists_once d rest n lists

-- ---- From the end of a region on

pub none_left : (d : Deallocs) (xs : List Stmt) (k : ℕ) → length xs ≤ k → Lists d Nothing → Lists d (nest (drop k xs))
none_left d xs k h lists = rw (rest_end xs k h, nest-nil) lists

pub each_none : (xs : List Stmt) (k : ℕ) → length xs ≤ k → [] ≡ reverse (once_each (drop k xs))
unfolding once_each
each_none xs k h = rw (drop_all k xs h)

reverse_more : (b : Bool) (bs : List Bool) → reverse bs ++ b ∷ [] ≡ reverse (b ∷ bs)
reverse_more b bs = sym (reverse-append (b ∷ []) bs)

-- one statement before those that are told
pub each_more : (xs : List Stmt) (i : ℕ) (x : Stmt) (b : Bool) (old new : List Bool) → i < length xs → x ≡ get_or xs i x → b ≡ once_of (plain_of x.what) (nest (drop (i + 1) xs))
    → old ≡ reverse (once_each (drop (i + 1) xs)) → new ≡ old ++ b ∷ [] → new ≡ reverse (once_each (drop i xs))
unfolding once_each
each_more xs i x b old new h is one e f =
    f ∙ (λ j. e j ++ one j ∷ []) ∙ reverse_more (once_of (plain_of x.what) (nest (drop (i + 1) xs))) (once_each (drop (i + 1) xs)) ∙ ap (λ ys. reverse (once_each ys)) (sym (drop_more xs i x h ∙ ap (λ y. y ∷ drop (i + 1) xs) (sym is)))

pub lists_more : (old new : Deallocs) (xs : List Stmt) (done i : ℕ) (x : Stmt) → done < length xs → i ≡ length xs - 1 - done → x ≡ get_or xs i x → ((rest : Nest) → Lists old rest → Lists new (put_what x.what x.line rest))
    → Lists old (nest (drop (length xs - done) xs)) → Lists new (nest (drop (length xs - (done + 1)) xs))
lists_more old new xs done i x h place is step lists =
    let above : length xs - done ≡ i + 1 = omega arith in
    let here : length xs - (done + 1) ≡ i = omega arith in
    let within : i < length xs = omega arith in
    rw (here, rest_step xs i x within is) (step (nest (drop (i + 1) xs)) (rw above at lists))

pub once_more : (xs : List Stmt) (done i : ℕ) (x : Stmt) (b : Bool) (old new : List Bool) → done < length xs → i ≡ length xs - 1 - done → x ≡ get_or xs i x → b ≡ once_of (plain_of x.what) (nest (drop (length xs - done) xs))
    → old ≡ reverse (once_each (drop (length xs - done) xs)) → new ≡ old ++ b ∷ [] → new ≡ reverse (once_each (drop (length xs - (done + 1)) xs))
once_more xs done i x b old new h place is one e f =
    let above : length xs - done ≡ i + 1 = omega arith in
    let here : length xs - (done + 1) ≡ i = omega arith in
    let within : i < length xs = omega arith in
    rw here (each_more xs i x b old new within is (rw above at one) (rw above at e) f)

pub each_length : (xs : List Stmt) → length (once_each xs) ≡ length xs
unfolding once_each
each_length [] = refl
each_length (x ∷ xs) = ap suc (each_length xs)

pub each_at : (xs : List Stmt) (i : ℕ) (x : Stmt) (b : Bool) → i < length xs → x ≡ get_or xs i x → b ≡ get_or (once_each xs) i b → b ≡ once_of (plain_of x.what) (nest (drop (i + 1) xs))
unfolding once_each
each_at [] i x b h is e = absurd (omega arith)
each_at (y ∷ ys) zero x b h is e = e ∙ ap (λ s. once_of (plain_of s.what) (nest ys)) (sym is)
each_at (y ∷ ys) (suc i) x b h is e = each_at ys i x b (omega arith) is e ∙ ap (λ (k : ℕ). once_of (plain_of x.what) (nest (drop k (y ∷ ys)))) {x = suc (i + 1)} {y = suc i + 1} (omega arith)

pub both_ok : {X E : Type 0} (r : Result X E) (P Q R : Type 0) → (P → Q → R) → OnOk r P → OnOk r Q → OnOk r R
both_ok (Ok x) P Q R f p q = f p q
both_ok (Err e) P Q R f p q = tt

-- for each answer there is a rest of a region of which it is right
pub some_rest : (n : Name) (ty : MemrefType) (b : Bool) → (rest : Nest) × (b ≡ is_released_once n rest)
unfolding is_released_once deallocs own_deallocs
some_rest n ty true = (Does 0 (Dealloc n ty) Nothing, rw (same_name-is n n refl))
some_rest n ty false = (Nothing, refl)

-- ---- a statement that is no allocation and no dealloc

module _ (w : What) (no_alloc : (r : Name) (ty : MemrefType) → w ≡ what.Alloc r ty → ⊥) (no_dealloc : (m : Name) (ty : MemrefType) → w ≡ what.Dealloc m ty → ⊥) where
  pub other_own : (m : Name) → is_dealloc_of m (plain_of w) ≡ 0
  unfolding plain_of
  other_own m = by (what.out-What w) (what.roll-out-What w)
    where
      by : (x : What-F What Stmt) → what.roll-What x ≡ w → is_dealloc_of m (head_plain (put_what w 0 Nothing)) ≡ 0
      by (What-F.Dealloc n ty) e = absurd (no_dealloc n ty (sym e ∙ rolls-Dealloc n ty))
      by x e = ap (λ n. is_dealloc_of m (head_plain n)) (put_what_is 0 Nothing x w e)

  pub other_once : (rest : Nest) → once_of (plain_of w) rest ≡ true
  unfolding plain_of
  other_once rest = by (what.out-What w) (what.roll-out-What w)
    where
      by : (x : What-F What Stmt) → what.roll-What x ≡ w → once_of (head_plain (put_what w 0 Nothing)) rest ≡ true
      by (What-F.Alloc r ty) e = absurd (no_alloc r ty (sym e ∙ rolls-Alloc r ty))
      by x e = ap (λ n. once_of (head_plain n) rest) (put_what_is 0 Nothing x w e)
