-- Accesses counted down.
use Rattle.std.proofs.Common.{◌≡◌, ℕ, suc, ◌+◌, ◌-◌, ◌<◌, ◌≤◌, ℤ, Bool, true, false, List, [], ◌∷◌, ◌++◌, length, drop, get_or, Option, Some, None, refl, sym, ap, ◌∙◌, arith, cond}
use Rattle.std.specs.Prelude.{nat_eq, nat_lt}
use Rattle.affine_expr.specs.declared.map.Set.{Set}
use Rattle.affine_ast.specs.declared.name.Name.{Name}
use Rattle.affine_ast.specs.declared.types.Bound.{Bound}
use Rattle.affine_ast.specs.declared.stmt.Stmt.{Stmt}
use Rattle.affine_ast.specs.declared.stmt.What as what
use Rattle.affine_ast.specs.declared.stmt.What.{What}
use Rattle.affine_ast.specs.Names.{same_name}
use Rattle.affine_ast.specs.Nest.{Nothing, nest, put_what, plain_of}
use Rattle.text_places.specs.Finding.{or_none}
use Rattle.plan_laws.specs.Plan.{accessed, accesses, times, with_access}
use Rattle.hoisted_sites.specs.Counting.{left_of}
use Rattle.hoisted_sites.proofs.Accessing.{drop_next, drop_over, accesses_nil, accesses_cons, accesses_of_loop, accesses_of_condition, accesses_of_plain}

one_more : (b : Bool) (k n : ℕ) → cond b (suc (k + n)) (k + n) ≡ cond b (suc k) k + n
one_more true k n = omega arith
one_more false k n = refl

pub times_append : (m : Name) (xs ys : List Name) → times m (xs ++ ys) ≡ times m xs + times m ys
times_append m [] ys = omega arith
times_append m (x ∷ xs) ys = ap (λ k. cond (same_name m x) (suc k) k) (times_append m xs ys) ∙ one_more (same_name m x) (times m xs) (times m ys)

-- so many are left, and then these are taken off
pub left_then : (left a b next : ℕ) → left_of left a ≡ Some next → left_of left (a + b) ≡ left_of next b
left_then left a b next e = by (nat_lt left a) refl
  where
    by : (t : Bool) → nat_lt left a ≡ t → left_of left (a + b) ≡ left_of next b
    by true h = absurd (let z : ◌≡◌ {A = Option ℕ} None (Some next) = sym (ap (λ t. cond t None (Some (left - a))) h) ∙ e in (let z2 : ⊥ = cc in z2))
    by false h = (
        let k : Some (left - a) ≡ Some next = sym (ap (λ t. cond t None (Some (left - a))) h) ∙ e in
        let same : left - a ≡ next = cc in
        let within : a ≤ left = grind (arith, h) in
        ap (left_of left) refl ∙ rest within ∙ ap (λ x. left_of x b) same)
      where
        rest : a ≤ left → left_of left (a + b) ≡ left_of (left - a) b
        rest w = ap (λ t. cond t None (Some (left - (a + b)))) (tests w) ∙ ap (λ x. cond (nat_lt (left - a) b) None (Some x)) (numbers w)
          where
            tests : a ≤ left → nat_lt left (a + b) ≡ nat_lt (left - a) b
            tests w = grind (arith, w)

            numbers : a ≤ left → left - (a + b) ≡ (left - a) - b
            numbers w = omega (arith, w)

pub left_no_more : (left a b : ℕ) → left_of left a ≡ None → left_of left (a + b) ≡ None
left_no_more left a b e = by (nat_lt left a) refl
  where
    by : (t : Bool) → nat_lt left a ≡ t → left_of left (a + b) ≡ None
    by true h = ap (λ t. cond t None (Some (left - (a + b)))) (more h)
      where
        more : nat_lt left a ≡ true → nat_lt left (a + b) ≡ true
        more h = grind (arith, h)
    by false h = absurd (let z : ◌≡◌ {A = Option ℕ} (Some (left - a)) None = sym (ap (λ t. cond t None (Some (left - a))) h) ∙ e in (let z2 : ⊥ = cc in z2))

left_all : (left : ℕ) → left_of left 0 ≡ Some left
left_all left = ap (λ t. cond t None (Some (left - 0))) (none_less left) ∙ ap Some (none_off left)
  where
    none_less : (k : ℕ) → nat_lt k 0 ≡ false
    none_less k = grind arith

    none_off : (k : ℕ) → k - 0 ≡ k
    none_off k = omega arith

-- ---- one statement
module _ (m : Name) (line left : ℕ) where
  pub left_of_loop : (v : Name) (l u : Bound) (s : ℤ) (body : List Stmt) → left_of left (times m (accesses (nest body))) ≡ left_of left (times m (accesses (put_what (what.For v l u s body) line Nothing)))
  left_of_loop v l u s body = ap (λ x. left_of left (times m x)) (sym (accesses_of_loop line v l u s body))

  both : (set : Set) (names : List Name) (first : List Stmt) (other : Option (List Stmt))
      → left_of left (times m (accesses (put_what (what.If set names first other) line Nothing))) ≡ left_of left (times m (accesses (nest first)) + times m (accesses (nest (or_none other))))
  both set names first other = ap (left_of left) (ap (times m) (accesses_of_condition line set names first other) ∙ times_append m (accesses (nest first)) (accesses (nest (or_none other))))

  -- the first region leaves so many
  pub left_of_condition : (set : Set) (names : List Name) (first : List Stmt) (other : Option (List Stmt)) (next : ℕ) → left_of left (times m (accesses (nest first))) ≡ Some next
      → left_of next (times m (accesses (nest (or_none other)))) ≡ left_of left (times m (accesses (put_what (what.If set names first other) line Nothing)))
  left_of_condition set names first other next e = sym (both set names first other ∙ left_then left (times m (accesses (nest first))) (times m (accesses (nest (or_none other)))) next e)

  -- or has too many
  pub left_of_first : (set : Set) (names : List Name) (first : List Stmt) (other : Option (List Stmt)) → left_of left (times m (accesses (nest first))) ≡ None
      → None ≡ left_of left (times m (accesses (put_what (what.If set names first other) line Nothing)))
  left_of_first set names first other e = sym (both set names first other ∙ left_no_more left (times m (accesses (nest first))) (times m (accesses (nest (or_none other)))) e)

  pub left_of_plain : (w : What) (no_loop : (v : Name) (l u : Bound) (s : ℤ) (body : List Stmt) → w ≡ what.For v l u s body → ⊥)
      (no_condition : (set : Set) (names : List Name) (first : List Stmt) (other : Option (List Stmt)) → w ≡ what.If set names first other → ⊥)
      → left_of left (times m (with_access (accessed (plain_of w)) [])) ≡ left_of left (times m (accesses (put_what w line Nothing)))
  left_of_plain w no_loop no_condition = ap (λ x. left_of left (times m x)) (sym (accesses_of_plain w no_loop no_condition line))

-- ---- statements, one after the other
module _ (m : Name) (stmts : List Stmt) (count : ℕ) where
  abbrev All : Option ℕ
  All = left_of count (times m (accesses (nest stmts)))

  abbrev From : ℕ → ℕ → Option ℕ
  From left i = left_of left (times m (accesses (nest (drop i stmts))))

  next_of : (i : ℕ) (x : Stmt) (left : ℕ) → i < length stmts → x ≡ get_or stmts i x
      → From left i ≡ left_of left (times m (accesses (put_what x.what x.line Nothing)) + times m (accesses (nest (drop (i + 1) stmts))))
  next_of i x left h is =
      ap (λ l. left_of left (times m (accesses (nest l)))) (drop_next stmts i x h is)
      ∙ ap (left_of left) (ap (times m) (accesses_cons x (drop (i + 1) stmts)) ∙ times_append m (accesses (put_what x.what x.line Nothing)) (accesses (nest (drop (i + 1) stmts))))

  pub left_goes_on : (i : ℕ) (x : Stmt) (left next : ℕ) → i < length stmts → x ≡ get_or stmts i x → left_of left (times m (accesses (put_what x.what x.line Nothing))) ≡ Some next → From left i ≡ All → From next (i + 1) ≡ All
  left_goes_on i x left next h is e inv = sym (next_of i x left h is ∙ left_then left (times m (accesses (put_what x.what x.line Nothing))) (times m (accesses (nest (drop (i + 1) stmts)))) next e) ∙ inv

  pub left_stops : (i : ℕ) (x : Stmt) (left : ℕ) → i < length stmts → x ≡ get_or stmts i x → left_of left (times m (accesses (put_what x.what x.line Nothing))) ≡ None → From left i ≡ All → None ≡ All
  left_stops i x left h is e inv = sym (next_of i x left h is ∙ left_no_more left (times m (accesses (put_what x.what x.line Nothing))) (times m (accesses (nest (drop (i + 1) stmts)))) e) ∙ inv

  pub left_ends : (i left : ℕ) → length stmts ≤ i → From left i ≡ All → Some left ≡ All
  left_ends i left h inv = sym (ap (λ l. left_of left (times m (accesses (nest l)))) (drop_over stmts i h) ∙ ap (λ l. left_of left (times m l)) accesses_nil ∙ left_all left) ∙ inv

-- ---- none is left where they are as many
module _ (count t : ℕ) where
  pub so_many : (left : ℕ) → Some left ≡ left_of count t → nat_eq left 0 ≡ nat_eq t count
  so_many left e = by (nat_lt count t) refl
    where
      by : (b : Bool) → nat_lt count t ≡ b → nat_eq left 0 ≡ nat_eq t count
      by true h = absurd (let z : ◌≡◌ {A = Option ℕ} (Some left) None = e ∙ ap (λ b. cond b None (Some (count - t))) h in (let z2 : ⊥ = cc in z2))
      by false h = (
          let k : Some left ≡ Some (count - t) = e ∙ ap (λ b. cond b None (Some (count - t))) h in
          let same : left ≡ count - t = cc in
          grind (arith, h, same))

  pub more : None ≡ left_of count t → false ≡ nat_eq t count
  more e = by (nat_lt count t) refl
    where
      by : (b : Bool) → nat_lt count t ≡ b → false ≡ nat_eq t count
      by true h = grind (arith, h)
      by false h = absurd (let z : ◌≡◌ {A = Option ℕ} None (Some (count - t)) = e ∙ ap (λ b. cond b None (Some (count - t))) h in (let z2 : ⊥ = cc in z2))
