-- The memrefs of statements, one after the other.
use Rattle.std.proofs.Common.{◌≡◌, ℕ, ◌+◌, ◌<◌, ◌≤◌, true, false, cond, List, [], ◌∷◌, ◌++◌, length, map, drop, get_or, Option, Some, None, ℤ, refl, sym, ap, ◌∙◌}
use Rattle.affine_expr.specs.declared.map.Set.{Set}
use Rattle.affine_ast.specs.declared.name.Name.{Name}
use Rattle.affine_ast.specs.declared.types.Access.{Access}
use Rattle.affine_ast.specs.declared.types.Bound.{Bound}
use Rattle.affine_ast.specs.declared.types.MemrefType.{MemrefType}
use Rattle.affine_ast.specs.declared.stmt.Stmt.{Stmt}
use Rattle.affine_ast.specs.declared.stmt.What as what
use Rattle.affine_ast.specs.declared.stmt.What.{What}
use Rattle.affine_ast.specs.declared.stmt.What.TheOpen.{What-F}
use Rattle.affine_ast.specs.declared.stmt.What.TheVariants.{rolls-Load, rolls-Store, rolls-RawLoad, rolls-RawStore, rolls-Dealloc, rolls-Start, rolls-Wait}
use Rattle.affine_ast.specs.Nest.{Nest, Nothing, Loop, Branch, Does, nest, put_what, followed_by, plain_of, head_plain}
use Rattle.affine_ast.proofs.Nests.{nest-nil, nest-cons, put_what_is, put-For, put-If, put-If-else, put-followed}
use Rattle.nest_domain.specs.Ways.{has_name}
use Rattle.text_places.specs.declared.memrefs.Named.{Named}
use Rattle.text_places.specs.Blocks.{memrefs_of, with_name, with_names, accessed}
use Rattle.text_places.specs.Finding.{named, or_none}
use Rattle.text_places.proofs.Statements.{IsOne, put_one, drop_next, drop_over, plain_shape}
use Rattle.text_places.proofs.Lists.{map-append}

pub name_there : (out : List Named) (n : Name) → has_name n (map named out) ≡ true → map named out ≡ with_name (map named out) n
name_there out n h = ap (λ b. cond b (map named out) (map named out ++ n ∷ [])) (sym h)

pub name_added : (out new : List Named) (n : Name) (x : Named) → has_name n (map named out) ≡ false → new ≡ out ++ x ∷ [] → named x ≡ n → map named new ≡ with_name (map named out) n
name_added out new n x h e s = ap (map named) e ∙ map-append named out (x ∷ []) ∙ ap (λ m. map named out ++ m ∷ []) s ∙ ap (λ b. cond b (map named out) (map named out ++ n ∷ [])) (sym h)

-- every other statement accesses none
pub no_memref : (w : What)
    → ((r n : Name) (at : Access) (ty : MemrefType) → w ≡ what.Load r n at ty → ⊥)
    → ((x n : Name) (at : Access) (ty : MemrefType) → w ≡ what.Store x n at ty → ⊥)
    → ((r n : Name) (at : List Name) (ty : MemrefType) → w ≡ what.RawLoad r n at ty → ⊥)
    → ((x n : Name) (at : List Name) (ty : MemrefType) → w ≡ what.RawStore x n at ty → ⊥)
    → ((n : Name) (ty : MemrefType) → w ≡ what.Dealloc n ty → ⊥)
    → ((a : Name) (aa : Access) (b : Name) (bb : Access) (t : Name) (ta : Access) (n : Name) (stride : Option (Name × Name)) (types : List MemrefType) → w ≡ what.Start a aa b bb t ta n stride types → ⊥)
    → ((t : Name) (at : Access) (n : Name) (ty : MemrefType) → w ≡ what.Wait t at n ty → ⊥)
    → memrefs_of (plain_of w) ≡ []
unfolding plain_of
no_memref w load store raw_load raw_store dealloc start wait = by (what.out-What w) (what.roll-out-What w)
  where
    by : (x : What-F What Stmt) → what.roll-What x ≡ w → memrefs_of (head_plain (put_what w 0 Nothing)) ≡ []
    by (What-F.Load r n at ty) e = absurd (load r n at ty (sym e ∙ rolls-Load r n at ty))
    by (What-F.Store x n at ty) e = absurd (store x n at ty (sym e ∙ rolls-Store x n at ty))
    by (What-F.RawLoad r n at ty) e = absurd (raw_load r n at ty (sym e ∙ rolls-RawLoad r n at ty))
    by (What-F.RawStore x n at ty) e = absurd (raw_store x n at ty (sym e ∙ rolls-RawStore x n at ty))
    by (What-F.Dealloc n ty) e = absurd (dealloc n ty (sym e ∙ rolls-Dealloc n ty))
    by (What-F.Start a aa b bb t ta n stride types) e = absurd (start a aa b bb t ta n stride types (sym e ∙ rolls-Start a aa b bb t ta n stride types))
    by (What-F.Wait t at n ty) e = absurd (wait t at n ty (sym e ∙ rolls-Wait t at n ty))
    by x e = ap (λ n. memrefs_of (head_plain n)) (put_what_is 0 Nothing x w e)

pub no_memref_added : (w : What) (kept : List Name)
    → ((r n : Name) (at : Access) (ty : MemrefType) → w ≡ what.Load r n at ty → ⊥)
    → ((x n : Name) (at : Access) (ty : MemrefType) → w ≡ what.Store x n at ty → ⊥)
    → ((r n : Name) (at : List Name) (ty : MemrefType) → w ≡ what.RawLoad r n at ty → ⊥)
    → ((x n : Name) (at : List Name) (ty : MemrefType) → w ≡ what.RawStore x n at ty → ⊥)
    → ((n : Name) (ty : MemrefType) → w ≡ what.Dealloc n ty → ⊥)
    → ((a : Name) (aa : Access) (b : Name) (bb : Access) (t : Name) (ta : Access) (n : Name) (stride : Option (Name × Name)) (types : List MemrefType) → w ≡ what.Start a aa b bb t ta n stride types → ⊥)
    → ((t : Name) (at : Access) (n : Name) (ty : MemrefType) → w ≡ what.Wait t at n ty → ⊥)
    → kept ≡ with_names kept (memrefs_of (plain_of w))
no_memref_added w kept load store raw_load raw_store dealloc start wait = ap (with_names kept) (sym (no_memref w load store raw_load raw_store dealloc start wait))

accessed-nothing : (kept : List Name) → accessed Nothing kept ≡ kept
unfolding accessed
accessed-nothing kept = refl

first_then : (n rest : Nest) (kept : List Name) → IsOne n → accessed (followed_by n rest) kept ≡ accessed rest (accessed n kept)
unfolding accessed
first_then Nothing rest kept h = absurd h
first_then (Loop line v l u s body b) rest kept h = ap (λ r. accessed (followed_by r rest) (accessed body kept)) h ∙ ap (λ r. accessed rest (accessed r (accessed body kept))) (sym h)
first_then (Branch line set names first has other b) rest kept h =
    ap (λ r. accessed (followed_by r rest) (accessed other (accessed first kept))) h ∙ ap (λ r. accessed rest (accessed r (accessed other (accessed first kept)))) (sym h)
first_then (Does line p b) rest kept h = ap (λ r. accessed (followed_by r rest) (with_names kept (memrefs_of p))) h ∙ ap (λ r. accessed rest (accessed r (with_names kept (memrefs_of p)))) (sym h)

accessed-cons : (s : Stmt) (ss : List Stmt) (kept : List Name) → accessed (nest (s ∷ ss)) kept ≡ accessed (nest ss) (accessed (put_what s.what s.line Nothing) kept)
accessed-cons s ss kept =
    ap (λ n. accessed n kept) (nest-cons s ss ∙ sym (put-followed s.what s.line Nothing (nest ss))) ∙ first_then (put_what s.what s.line Nothing) (nest ss) kept (put_one s.what s.line)

pub memrefs_go_on : (stmts : List Stmt) (i : ℕ) (x : Stmt) (out0 out new : List Named) → i < length stmts → x ≡ get_or stmts i x → map named new ≡ accessed (put_what x.what x.line Nothing) (map named out)
    → accessed (nest (drop i stmts)) (map named out) ≡ accessed (nest stmts) (map named out0) → accessed (nest (drop (i + 1) stmts)) (map named new) ≡ accessed (nest stmts) (map named out0)
memrefs_go_on stmts i x out0 out new h is e inv =
    ap (accessed (nest (drop (i + 1) stmts))) e ∙ sym (accessed-cons x (drop (i + 1) stmts) (map named out)) ∙ ap (λ l. accessed (nest l) (map named out)) (sym (drop_next stmts i x h is)) ∙ inv

pub memrefs_end : (stmts : List Stmt) (i : ℕ) (out0 out : List Named) → length stmts ≤ i → accessed (nest (drop i stmts)) (map named out) ≡ accessed (nest stmts) (map named out0)
    → map named out ≡ accessed (nest stmts) (map named out0)
memrefs_end stmts i out0 out h inv = sym (accessed-nothing (map named out)) ∙ ap (λ n. accessed n (map named out)) (sym (ap nest (drop_over stmts i h) ∙ nest-nil)) ∙ inv

pub loop_memrefs : (line : ℕ) (v : Name) (l u : Bound) (s : ℤ) (body : List Stmt) (kept : List Name) → accessed (put_what (what.For v l u s body) line Nothing) kept ≡ accessed (nest body) kept
unfolding accessed
loop_memrefs line v l u s body kept = ap (λ n. accessed n kept) (put-For line Nothing v l u s body)

pub condition_memrefs : (line : ℕ) (set : Set) (names : List Name) (first : List Stmt) (other : Option (List Stmt)) (kept : List Name)
    → accessed (put_what (what.If set names first other) line Nothing) kept ≡ accessed (nest (or_none other)) (accessed (nest first) kept)
unfolding accessed
condition_memrefs line set names first None kept = ap (λ n. accessed n kept) (put-If line Nothing set names first) ∙ ap (λ n. accessed n (accessed (nest first) kept)) (sym nest-nil)
condition_memrefs line set names first (Some other) kept = ap (λ n. accessed n kept) (put-If-else line Nothing set names first other)

pub plain_memrefs : (w : What) (no_loop : (v : Name) (l u : Bound) (s : ℤ) (body : List Stmt) → w ≡ what.For v l u s body → ⊥)
    (no_condition : (set : Set) (names : List Name) (first : List Stmt) (other : Option (List Stmt)) → w ≡ what.If set names first other → ⊥)
    (line : ℕ) (kept : List Name) → accessed (put_what w line Nothing) kept ≡ with_names kept (memrefs_of (plain_of w))
unfolding accessed
plain_memrefs w no_loop no_condition line kept = ap (λ n. accessed n kept) (plain_shape w no_loop no_condition line)
