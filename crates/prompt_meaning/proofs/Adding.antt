-- Room for the allocations of a text, statement by statement.
use Rattle.std.proofs.Common.{◌≡◌, ℕ, suc, ◌+◌, ◌<◌, ◌≤◌, ℤ, Bool, true, false, List, [], ◌∷◌, ◌++◌, length, drop, drop-cons, get_or, refl, sym, ap, ◌∙◌, subst, arith, append_assoc}
use Rattle.std.specs.Prelude.{nat_eq, Option, Some, None, Result, Ok, Err, IfOk, if◌then◌else◌}
use Rattle.std.proofs.lemmas.Bool.{eq-eqb}
use Rattle.std.proofs.lemmas.List.{drop_all, append-nil}
use Rattle.affine_expr.specs.declared.map.Set.{Set}
use Rattle.affine_ast.specs.declared.name.Name.{Name}
use Rattle.affine_ast.specs.declared.types.MemrefType.{MemrefType}
use Rattle.walk_program.specs.declared.plain.Limit.{Limit}
use Rattle.walk_program.specs.declared.plain.Plain.{Plain}
use Rattle.walk_program.specs.declared.plain.Plain.TheVariants.{Value, Load, Store, RawLoad, RawStore, Constant, Binary, Cast, Alloc, Dealloc, Start, Wait, Return}
use Rattle.walk_program.specs.declared.statement.Counts.{Counts}
use Rattle.walk_program.specs.declared.statement.Form as form
use Rattle.walk_program.specs.declared.statement.Form.{Form}
use Rattle.walk_program.specs.declared.statement.Statement.{Statement}
use Rattle.walk_program.specs.Reading.{plain_of, nest_of}
use Rattle.walk_program.specs.Tree.{Tree, put_form, tree}
use Rattle.walk_program.proofs.Trees.{tree-nil, tree-cons, put-For, put-If, put-If-else, put-Plain}
use Rattle.prompt_laws.specs.Rooms.{Room, room_of, rooms_of_plain, rooms_in}
use Rattle.prompt_meaning.specs.declared.fast.FastMemref.{FastMemref}
use Rattle.prompt_meaning.specs.Memrefs.{HasRoom, AreRooms, Adds, AddsPlain}

are_more : (rooms : List Room) (fs : List FastMemref) (r : Room) (f : FastMemref) → AreRooms rooms fs → HasRoom r f → AreRooms (rooms ++ r ∷ []) (fs ++ f ∷ [])
are_more [] [] r f h k = (k, tt)
are_more [] (g ∷ fs) r f h k = absurd h
are_more (s ∷ rooms) [] r f h k = absurd h
are_more (s ∷ rooms) (g ∷ fs) r f h k = (h.0, are_more rooms fs r f h.1 k)

pub if_ok : {E : Type 0} (r : Result (Unit {0}) E) (P Q : Type 0) → (P → Q) → IfOk r (λ done. P) → IfOk r (λ done. Q)
if_ok (Ok done) P Q f h = f h
if_ok (Err e) P Q f h = tt

-- ---- a plain statement

pub adds_fast : (p : Plain) (r : ℕ) (ty : MemrefType) (f : FastMemref) (old new : List FastMemref) → p ≡ Alloc r ty → ty.space ≡ 1 → HasRoom (room_of ty.element ty.sizes) f → new ≡ old ++ f ∷ [] → AddsPlain p old new
unfolding plain_of
adds_fast p r ty f old new is space room push = λ names rooms h.
    subst (λ fs. AreRooms (rooms ++ rooms_of_plain (plain_of names p)) fs) (sym push)
    (subst (λ p. AreRooms (rooms ++ rooms_of_plain (plain_of names p)) (old ++ f ∷ [])) (sym is)
    (subst (λ b. AreRooms (rooms ++ (if b then room_of ty.element ty.sizes ∷ [] else [])) (old ++ f ∷ [])) (sym (eq-eqb ty.space 1 space)) (are_more rooms old (room_of ty.element ty.sizes) f h room)))

nothing_more : (rooms : List Room) (fs : List FastMemref) → AreRooms rooms fs → AreRooms (rooms ++ []) fs
nothing_more rooms fs h = subst (λ rs. AreRooms rs fs) (sym (append-nil rooms)) h

pub adds_tags : (p : Plain) (r : ℕ) (ty : MemrefType) (old : List FastMemref) → p ≡ Alloc r ty → (ty.space ≡ 1 → ⊥) → AddsPlain p old old
unfolding plain_of
adds_tags p r ty old is space = λ names rooms h.
    subst (λ p. AreRooms (rooms ++ rooms_of_plain (plain_of names p)) old) (sym is)
    (subst (λ b. AreRooms (rooms ++ (if b then room_of ty.element ty.sizes ∷ [] else [])) old) (sym (not_one (nat_eq ty.space 1) refl)) (nothing_more rooms old h))
  where
    not_one : (t : Bool) → nat_eq ty.space 1 ≡ t → nat_eq ty.space 1 ≡ false
    not_one true e = absurd (space (grind (arith, e)))
    not_one false e = e

pub adds_none : (p : Plain) (old : List FastMemref) → ((r : ℕ) (ty : MemrefType) → p ≡ Alloc r ty → ⊥) → AddsPlain p old old
unfolding plain_of
adds_none (Value r pick at) old k = λ names rooms h. nothing_more rooms old h
adds_none (Load r m at ty) old k = λ names rooms h. nothing_more rooms old h
adds_none (Store x m at ty) old k = λ names rooms h. nothing_more rooms old h
adds_none (RawLoad r m at ty) old k = λ names rooms h. nothing_more rooms old h
adds_none (RawStore x m at ty) old k = λ names rooms h. nothing_more rooms old h
adds_none (Constant r z ty) old k = λ names rooms h. nothing_more rooms old h
adds_none (Binary r op a b ty) old k = λ names rooms h. nothing_more rooms old h
adds_none (Cast r kind x from to) old k = λ names rooms h. nothing_more rooms old h
adds_none (Alloc r ty) old k = absurd (k r ty refl)
adds_none (Dealloc m ty) old k = λ names rooms h. nothing_more rooms old h
adds_none (Start a a_at b b_at t t_at n stride types) old k = λ names rooms h. nothing_more rooms old h
adds_none (Wait t at n ty) old k = λ names rooms h. nothing_more rooms old h
adds_none Return old k = λ names rooms h. nothing_more rooms old h

-- ---- a statement

-- what statements add
abbrev pub AddsAll : List Statement → List FastMemref → List FastMemref → Type 0
AddsAll ss old new = (names : List Name) (rooms : List Room) → AreRooms rooms old → AreRooms (rooms ++ rooms_in (nest_of names (tree ss))) new

-- what a statement adds
abbrev pub AddsForm : Statement → List FastMemref → List FastMemref → Type 0
AddsForm s old new = (line : ℕ) (t : Tree) → Adds (put_form s.form line t) t old new

module _ (f : Form) (line : ℕ) (t : Tree) (old new : List FastMemref) where
  along : (whole : Tree) → put_form f line t ≡ whole → Adds whole t old new → Adds (put_form f line t) t old new
  along whole e h = subst (λ x. Adds x t old new) (sym e) h

  pub adds_for : (v : ℕ) (l u : Limit) (s : ℤ) (inside : Counts) (body : List Statement) → f ≡ form.For v l u s inside body → AddsAll body old new → Adds (put_form f line t) t old new
  adds_for v l u s inside body is h =
      along _ (ap (λ x. put_form x line t) is ∙ put-For line t v l u s inside body)
      (λ names rooms k. (rooms ++ rooms_in (nest_of names (tree body)), h names rooms k, append_assoc rooms (rooms_in (nest_of names (tree body))) (rooms_in (nest_of names t))))

  pub adds_if : (set : Set) (operands : List ℕ) (first : List Statement) (n m : Counts) (other : Option (List Statement)) → f ≡ form.If set operands first n other m → other ≡ None → AddsAll first old new → Adds (put_form f line t) t old new
  adds_if set operands first n m other is none h =
      along _ (ap (λ x. put_form x line t) (is ∙ ap (λ o. form.If set operands first n o m) none) ∙ put-If line t set operands first n m)
      (λ names rooms k. (rooms ++ rooms_in (nest_of names (tree first)), h names rooms k, append_assoc rooms (rooms_in (nest_of names (tree first))) (rooms_in (nest_of names t))))

  pub adds_both : (set : Set) (operands : List ℕ) (first : List Statement) (n m : Counts) (other : Option (List Statement)) (second : List Statement) (middle : List FastMemref) → f ≡ form.If set operands first n other m → other ≡ Some second → AddsAll first old middle → AddsAll second middle new → Adds (put_form f line t) t old new
  adds_both set operands first n m other second middle is some h k =
      along _ (ap (λ x. put_form x line t) (is ∙ ap (λ o. form.If set operands first n o m) some) ∙ put-If-else line t set operands first second n m)
      (λ names rooms r.
      (let a = rooms_in (nest_of names (tree first)) in
      let b = rooms_in (nest_of names (tree second)) in
      let c = rooms_in (nest_of names t) in
      ((rooms ++ a) ++ b, k names (rooms ++ a) (h names rooms r), append_assoc (rooms ++ a) b c ∙ append_assoc rooms a (b ++ c))))

  pub adds_plain : (p : Plain) → f ≡ form.Plain p → AddsPlain p old new → Adds (put_form f line t) t old new
  adds_plain p is h =
      along _ (ap (λ x. put_form x line t) is ∙ put-Plain line t p)
      (λ names rooms k. (rooms ++ rooms_of_plain (plain_of names p), h names rooms k, append_assoc rooms (rooms_of_plain (plain_of names p)) (rooms_in (nest_of names t))))

-- ---- statements

module _ (ss : List Statement) (i : ℕ) (old now : List FastMemref) where
  abbrev Left : ℕ → List FastMemref → Type 0
  Left j fs = (names : List Name) (rooms : List Room) → AreRooms rooms old → (more : List Room) × AreRooms more fs × (more ++ rooms_in (nest_of names (tree (drop j ss))) ≡ rooms ++ rooms_in (nest_of names (tree ss)))

  pub adds_next : (d : Statement) (new : List FastMemref) → i < length ss → Left i now → ((line : ℕ) (t : Tree) → Adds (put_form (get_or ss i d).form line t) t now new) → Left (i + 1) new
  adds_next d new h left one = λ names rooms r.
      (let k = left names rooms r in
      let x = get_or ss i d in
      let n : suc i ≡ i + 1 = omega arith in
      let split : tree (drop i ss) ≡ put_form x.form x.line (tree (drop (i + 1) ss)) = ap tree (drop-cons ss i d h ∙ ap (λ j. x ∷ drop j ss) n) ∙ tree-cons x (drop (i + 1) ss) in
      let next = one x.line (tree (drop (i + 1) ss)) names k.0 k.1 in
      (next.0, next.1, next.2 ∙ ap (λ t. k.0 ++ rooms_in (nest_of names t)) (sym split) ∙ k.2))

  pub adds_end : length ss ≤ i → Left i now → AddsAll ss old now
  adds_end h left = λ names rooms r.
      (let k = left names rooms r in
      let none : rooms_in (nest_of names (tree (drop i ss))) ≡ [] = ap (λ t. rooms_in (nest_of names t)) (ap tree (drop_all i ss h) ∙ tree-nil) in
      subst (λ rs. AreRooms rs now) (sym (append-nil k.0) ∙ ap (λ rs. k.0 ++ rs) (sym none) ∙ k.2) k.1)
