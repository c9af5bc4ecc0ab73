-- The accesses of statements, one after the other.
use Rattle.std.proofs.Common.{◌≡◌, ℕ, zero, suc, ◌+◌, ◌<◌, ◌≤◌, List, [], ◌∷◌, ◌++◌, length, drop, get_or, Option, Some, None, ℤ, refl, sym, ap, ◌∙◌, arith, append_assoc, append-nil}
use Rattle.affine_expr.specs.declared.map.Set.{Set}
use Rattle.affine_ast.specs.declared.name.Name.{Name}
use Rattle.affine_ast.specs.declared.types.Access.{Access}
use Rattle.affine_ast.specs.declared.types.Bound.{Bound}
use Rattle.affine_ast.specs.declared.types.MemrefType.{MemrefType}
use Rattle.affine_ast.specs.declared.stmt.Stmt.{Stmt}
use Rattle.affine_ast.specs.declared.stmt.What as what
use Rattle.affine_ast.specs.declared.stmt.What.{What}
use Rattle.affine_ast.specs.declared.stmt.What.TheOpen.{What-F}
use Rattle.affine_ast.specs.declared.stmt.What.TheVariants.{rolls-For, rolls-If, rolls-Load, rolls-Store, rolls-RawLoad, rolls-RawStore}
use Rattle.affine_ast.specs.Nest.{Nest, Nothing, Loop, Branch, Does, nest, put_what, followed_by, plain_of, head_plain}
use Rattle.affine_ast.proofs.Nests.{nest-nil, nest-cons, put_what_is, put-For, put-If, put-If-else, put-followed}
use Rattle.text_places.specs.Finding.{or_none}
use Rattle.plan_laws.specs.Plan.{accessed, accesses, with_access}

drop_suc : {A : Type 0} (xs : List A) (i : ℕ) (x : A) → i < length xs → x ≡ get_or xs i x → drop i xs ≡ x ∷ drop (suc i) xs
drop_suc [] i x h e = absurd (omega (arith, h))
drop_suc (y ∷ xs) zero x h e = ap (λ z. z ∷ xs) (sym e)
drop_suc (y ∷ xs) (suc i) x h e = drop_suc xs i x (omega (arith, h)) e

pub drop_next : {A : Type 0} (xs : List A) (i : ℕ) (x : A) → i < length xs → x ≡ get_or xs i x → drop i xs ≡ x ∷ drop (i + 1) xs
drop_next xs i x h e = drop_suc xs i x h e ∙ ap (λ k. x ∷ drop k xs) (one i)
  where
    one : (i : ℕ) → suc i ≡ i + 1
    one i = omega arith

pub drop_over : {A : Type 0} (xs : List A) (i : ℕ) → length xs ≤ i → drop i xs ≡ []
drop_over [] zero h = refl
drop_over [] (suc i) h = refl
drop_over (x ∷ xs) zero h = absurd (omega (arith, h))
drop_over (x ∷ xs) (suc i) h = drop_over xs i (omega (arith, h))

-- a statement that is no loop and no condition
plain_shape : (w : What) (no_loop : (v : Name) (l u : Bound) (s : ℤ) (body : List Stmt) → w ≡ what.For v l u s body → ⊥)
    (no_condition : (set : Set) (names : List Name) (first : List Stmt) (other : Option (List Stmt)) → w ≡ what.If set names first other → ⊥)
    (line : ℕ) → put_what w line Nothing ≡ Does line (plain_of w) Nothing
unfolding plain_of
plain_shape w no_loop no_condition line = by (what.out-What w) (what.roll-out-What w)
  where
    by : (x : What-F What Stmt) → what.roll-What x ≡ w → put_what w line Nothing ≡ Does line (head_plain (put_what w 0 Nothing)) Nothing
    by (What-F.For v l u s body) e = absurd (no_loop v l u s body (sym e ∙ rolls-For v l u s body))
    by (What-F.If set names first other) e = absurd (no_condition set names first other (sym e ∙ rolls-If set names first other))
    by x e = put_what_is line Nothing x w e ∙ sym (ap (λ n. Does line (head_plain n) Nothing) (put_what_is 0 Nothing x w e))

-- every other statement accesses none
pub no_access : (w : What)
    → ((r n : Name) (at : Access) (ty : MemrefType) → w ≡ what.Load r n at ty → ⊥)
    → ((x n : Name) (at : Access) (ty : MemrefType) → w ≡ what.Store x n at ty → ⊥)
    → ((r n : Name) (at : List Name) (ty : MemrefType) → w ≡ what.RawLoad r n at ty → ⊥)
    → ((x n : Name) (at : List Name) (ty : MemrefType) → w ≡ what.RawStore x n at ty → ⊥)
    → accessed (plain_of w) ≡ None
unfolding plain_of
no_access w load store raw_load raw_store = by (what.out-What w) (what.roll-out-What w)
  where
    by : (x : What-F What Stmt) → what.roll-What x ≡ w → accessed (head_plain (put_what w 0 Nothing)) ≡ None
    by (What-F.Load r n at ty) e = absurd (load r n at ty (sym e ∙ rolls-Load r n at ty))
    by (What-F.Store x n at ty) e = absurd (store x n at ty (sym e ∙ rolls-Store x n at ty))
    by (What-F.RawLoad r n at ty) e = absurd (raw_load r n at ty (sym e ∙ rolls-RawLoad r n at ty))
    by (What-F.RawStore x n at ty) e = absurd (raw_store x n at ty (sym e ∙ rolls-RawStore x n at ty))
    by x e = ap (λ n. accessed (head_plain n)) (put_what_is 0 Nothing x w e)

with_more : (o : Option Name) (xs ys : List Name) → with_access o (xs ++ ys) ≡ with_access o xs ++ ys
with_more None xs ys = refl
with_more (Some m) xs ys = refl

-- the accesses of one text, and then of another
pub accesses_followed : (n rest : Nest) → accesses (followed_by n rest) ≡ accesses n ++ accesses rest
accesses_followed Nothing rest = refl
accesses_followed (Loop line v l u s body b) rest = ap (λ x. accesses body ++ x) (accesses_followed b rest) ∙ sym (append_assoc (accesses body) (accesses b) (accesses rest))
accesses_followed (Branch line set names first has other b) rest =
    ap (λ x. accesses first ++ (accesses other ++ x)) (accesses_followed b rest)
    ∙ ap (λ x. accesses first ++ x) (sym (append_assoc (accesses other) (accesses b) (accesses rest)))
    ∙ sym (append_assoc (accesses first) (accesses other ++ accesses b) (accesses rest))
accesses_followed (Does line q b) rest = ap (with_access (accessed q)) (accesses_followed b rest) ∙ with_more (accessed q) (accesses b) (accesses rest)

pub accesses_nil : accesses (nest []) ≡ []
accesses_nil = ap accesses nest-nil

pub accesses_cons : (s : Stmt) (ss : List Stmt) → accesses (nest (s ∷ ss)) ≡ accesses (put_what s.what s.line Nothing) ++ accesses (nest ss)
accesses_cons s ss = ap accesses (nest-cons s ss ∙ sym (put-followed s.what s.line Nothing (nest ss))) ∙ accesses_followed (put_what s.what s.line Nothing) (nest ss)

pub accesses_of_loop : (line : ℕ) (v : Name) (l u : Bound) (s : ℤ) (body : List Stmt) → accesses (put_what (what.For v l u s body) line Nothing) ≡ accesses (nest body)
accesses_of_loop line v l u s body = ap accesses (put-For line Nothing v l u s body) ∙ append-nil (accesses (nest body))

pub accesses_of_condition : (line : ℕ) (set : Set) (names : List Name) (first : List Stmt) (other : Option (List Stmt))
    → accesses (put_what (what.If set names first other) line Nothing) ≡ accesses (nest first) ++ accesses (nest (or_none other))
accesses_of_condition line set names first None = ap accesses (put-If line Nothing set names first) ∙ ap (λ x. accesses (nest first) ++ x) (sym accesses_nil)
accesses_of_condition line set names first (Some other) = ap accesses (put-If-else line Nothing set names first other) ∙ ap (λ x. accesses (nest first) ++ x) (append-nil (accesses (nest other)))

pub accesses_of_plain : (w : What) (no_loop : (v : Name) (l u : Bound) (s : ℤ) (body : List Stmt) → w ≡ what.For v l u s body → ⊥)
    (no_condition : (set : Set) (names : List Name) (first : List Stmt) (other : Option (List Stmt)) → w ≡ what.If set names first other → ⊥)
    (line : ℕ) → accesses (put_what w line Nothing) ≡ with_access (accessed (plain_of w)) []
accesses_of_plain w no_loop no_condition line = ap accesses (plain_shape w no_loop no_condition line)
