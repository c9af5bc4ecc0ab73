-- A module that a text spells, and that may be staged, has the names of a text.
use Rattle.std.proofs.Common.{◌≡◌, ℕ, zero, suc, ◌<◌, ◌^◌, List, [], ◌∷◌, length, Bool, true, false, None, refl, sym, ap, ◌∙◌, subst, arith}
use Rattle.std.specs.Prelude.{not, ◌&&◌, ◌||◌, nat_le, if◌then◌else◌}
use Rattle.std.specs.List.{list_all}
use Rattle.std.proofs.lemmas.Bool.{and_parts}
use Rattle.affine_expr.specs.declared.expr.Expr.{Expr}
use Rattle.affine_expr.specs.declared.map.Constraint.{Constraint}
use Rattle.affine_expr.specs.declared.map.Set.{Set}
use Rattle.affine_ast.specs.declared.module.Arg.{Arg}
use Rattle.affine_ast.specs.declared.module.Module.{Module}
use Rattle.affine_ast.specs.declared.name.Name.{Name}
use Rattle.affine_ast.specs.declared.types.Access.{Access}
use Rattle.affine_ast.specs.declared.types.Bound.{Bound}
use Rattle.affine_ast.specs.declared.types.Bound.TheVariants as bound
use Rattle.affine_ast.specs.Nest.{Plain, Nest, Nothing, Loop, Branch, Does, Value, Load, Store, RawLoad, RawStore, Constant, Binary, Cast, Alloc, Dealloc, Start, Wait, Return, followed_by, nest}
use Rattle.affine_ast.specs.PlainLimits.{operand_count, depths, is_short, access_short, set_short, row_short, bound_short, plain_stands, PlainTold, FaultAt, Counted, then_plain, plain_judged, plain_told, line_of_fault, plain_fault}
use Rattle.affine_grammar.specs.Spelling.{Spells}
use Rattle.printed_texts.specs.Nesting.{printed_nesting, zeros, nests_within, AllNest, RowsNest, UseNests, BoundNests, PlainNests, StatementsNest, ModuleNests}
use Rattle.printed_texts.specs.Writable as writable
use Rattle.printed_texts.specs.Writable.{AllWritten, BoundFits, PlainFits, StatementsFit, ArgumentsFit, MayBeWritten}
use Rattle.printed_texts.proofs.SpeltTexts.{spelt_written}
use Rattle.placement_texts.specs.OneTag.{InText}
use Rattle.placement_texts.specs.Own.{OwnNames, OwnBound, OwnPlain, OwnNest}
use Rattle.placement_texts.specs.Valid.{OwnArguments}
use Rattle.plain_inputs.proofs.Inputs.{Stands, input_stands}
use Rattle.plan_theorem.specs.Law.{of_text, IsWritten}

-- ---- short expressions nest within the limit
short_nests : (e : Expr) → is_short e ≡ true → nests_within e ≡ true
unfolding is_short nests_within printed_nesting
short_nests e h = by (nat_le (depths e).sum 128) (nat_le (depths e).sum 32) refl refl
  where
    by : (a b : Bool) → nat_le (depths e).sum 128 ≡ a → nat_le (depths e).sum 32 ≡ b → (nat_le (depths e).sum 128 || (zeros e).bare) ≡ true
    by true b p q = ap (λ c. c || (zeros e).bare) p
    by false true p q = absurd (let z : ⊥ = grind (arith, p, q) in z)
    by false false p q = let r = (and_parts (nat_le (operand_count e) 64) (nat_le (depths e).sum 32) h).1 in absurd (let z : true ≡ false = sym r ∙ q in let y : ⊥ = cc in y)

all_nest : (es : List Expr) → list_all is_short es ≡ true → AllNest es
all_nest [] h = tt
all_nest (e ∷ es) h = let p = and_parts (is_short e) (list_all is_short es) h in (short_nests e p.0, all_nest es p.1)

use_nests : (at : Access) → access_short at ≡ true → UseNests at
unfolding access_short
use_nests at h = all_nest at.map.results h

rows_nest : (rows : List Constraint) → list_all row_short rows ≡ true → RowsNest rows
rows_nest [] h = tt
rows_nest (row ∷ rows) h =
    let p = and_parts (row_short row) (list_all row_short rows) h in
    let q = and_parts (is_short row.left) (is_short row.right) p.0 in
    (short_nests row.left q.0, short_nests row.right q.1, rows_nest rows p.1)

set_nests : (set : Set) → set_short set ≡ true → RowsNest set.rows
unfolding set_short
set_nests set h = rows_nest set.rows h

bound_nests : (b : Bound) → bound_short b ≡ true → BoundNests b
bound_nests (bound.Int z) h = tt
bound_nests (bound.Value v) h = tt
bound_nests (bound.Map at) h = use_nests at h

plain_nests : (p : Plain) → plain_stands p ≡ true → PlainNests p
plain_nests (Value r pick at) h = use_nests at h
plain_nests (Load r m at ty) h = use_nests at h
plain_nests (Store x m at ty) h = use_nests at h
plain_nests (RawLoad r m at ty) h = tt
plain_nests (RawStore x m at ty) h = tt
plain_nests (Constant r z ty) h = tt
plain_nests (Binary r op x y ty) h = tt
plain_nests (Cast r kind x from to) h = tt
plain_nests (Alloc r ty) h = tt
plain_nests (Dealloc m ty) h = tt
plain_nests (Start x x_at y y_at t t_at n stride types) h = absurd (let z : ⊥ = cc in z)
plain_nests (Wait t at n ty) h = absurd (let z : ⊥ = cc in z)
plain_nests Return h = tt

judged_counted : (line loops count : ℕ) (holds : Bool) (more : PlainTold) (k : ℕ) → plain_judged line loops count holds more ≡ Counted k → (holds ≡ true) × (more ≡ Counted k)
judged_counted line loops count true more k h = (refl, by (nat_le count 4096 && nat_le loops 8) h)
  where
    by : (t : Bool) → (if t then more else FaultAt line) ≡ Counted k → more ≡ Counted k
    by true h = h
    by false h = absurd (let z : ⊥ = cc in z)
judged_counted line loops count false more k h = absurd (let z : ⊥ = cc in z)

then_counted : (first : PlainTold) (more : ℕ → PlainTold) (k : ℕ) → then_plain first more ≡ Counted k → (j : ℕ) × (first ≡ Counted j) × (more j ≡ Counted k)
then_counted (FaultAt line) more k h = absurd (let z : ⊥ = cc in z)
then_counted (Counted j) more k h = (j, refl, h)

text_nests : (n : Nest) (loops count k : ℕ) → plain_told n loops count ≡ Counted k → StatementsNest n
unfolding plain_told
text_nests Nothing loops count k h = tt
text_nests (Loop line v l u s body rest) loops count k h =
    let j = judged_counted line loops (suc count) (bound_short l && bound_short u) _ k h in
    let b = then_counted (plain_told body (suc loops) (suc count)) (plain_told rest loops) k j.1 in
    let p = and_parts (bound_short l) (bound_short u) j.0 in
    (bound_nests l p.0, bound_nests u p.1, text_nests body (suc loops) (suc count) b.0 b.1, text_nests rest loops b.0 k b.2)
text_nests (Branch line set names first has other rest) loops count k h =
    let j = judged_counted line loops (suc count) (set_short set) _ k h in
    let a = then_counted (plain_told first loops (suc count)) (λ n. then_plain (plain_told other loops n) (plain_told rest loops)) k j.1 in
    let b = then_counted (plain_told other loops a.0) (plain_told rest loops) k a.2 in
    (set_nests set j.0, text_nests first loops (suc count) a.0 a.1, text_nests other loops a.0 b.0 b.1, text_nests rest loops b.0 k b.2)
text_nests (Does line p rest) loops count k h =
    let j = judged_counted line loops (suc count) (plain_stands p) (plain_told rest loops (suc count)) k h in
    (plain_nests p j.0, text_nests rest loops (suc count) k j.1)

counted_of : (x : PlainTold) → line_of_fault x ≡ None → (k : ℕ) × (x ≡ Counted k)
counted_of (FaultAt line) h = absurd (let z : ⊥ = cc in z)
counted_of (Counted k) h = (k, refl)

module_nests : (m : Module) → plain_fault m ≡ None → ModuleNests m
unfolding plain_fault
module_nests m h = let c = counted_of (plain_told (nest m.body) 0 0) h in text_nests (nest m.body) 0 0 c.0 c.1

-- ---- names
one_name : (n : Name) → writable.IsWritten n → of_text n ≡ true
one_name n h = ap not h.made

all_names : (ns : List Name) → AllWritten ns → OwnNames of_text ns
all_names [] h = tt
all_names (n ∷ ns) h = (one_name n h.0, all_names ns h.1)

bound_names : (b : Bound) → BoundFits b → OwnBound of_text b
bound_names (bound.Int z) h = tt
bound_names (bound.Value n) h = one_name n h
bound_names (bound.Map at) h = all_names at.operands h.operands.written

plain_names : (p : Plain) → PlainFits p → Stands p → OwnPlain of_text p
plain_names (Value r pick at) h s = (one_name r h.0, all_names at.operands h.1.operands.written)
plain_names (Load r m at ty) h s = (one_name r h.0, (one_name m h.1, all_names at.operands h.2.written))
plain_names (Store x m at ty) h s = (one_name x h.0, (one_name m h.1, all_names at.operands h.2.written))
plain_names (RawLoad r m at ty) h s = (one_name r h.0, one_name m h.1, all_names at h.2)
plain_names (RawStore x m at ty) h s = (one_name x h.0, one_name m h.1, all_names at h.2)
plain_names (Constant r z ty) h s = one_name r h.0
plain_names (Binary r op x y ty) h s = (one_name r h.0, one_name x h.1, one_name y h.2)
plain_names (Cast r kind x from to) h s = (one_name r h.0, one_name x h.1)
plain_names (Alloc r ty) h s = absurd (let z : ⊥ = cc in z)
plain_names (Dealloc m ty) h s = one_name m h.0
plain_names (Start x x_at y y_at t t_at n stride types) h s = absurd (let z : ⊥ = cc in z)
plain_names (Wait t at n ty) h s = absurd (let z : ⊥ = cc in z)
plain_names Return h s = tt

names_in : (left : ℕ) (n : Nest) → StatementsFit left n → InText Stands n → OwnNest of_text n
names_in left Nothing h s = tt
names_in zero (Loop line v l u step body rest) h s = absurd h
names_in (suc left) (Loop line v l u step body rest) h s = (one_name v h.0, bound_names l h.1, bound_names u h.2, names_in left body h.4 s.0, names_in (suc left) rest h.5 s.1)
names_in zero (Branch line set names first has other rest) h s = absurd h
names_in (suc left) (Branch line set names first has other rest) h s = (all_names names h.0.operands.written, names_in left first h.1 s.0, names_in left other h.2 s.1, names_in (suc left) rest h.3 s.2)
names_in left (Does line p rest) h s = (plain_names p h.0 s.0, names_in left rest h.1 s.1)

-- statements, and then the `return`
names_behind : (left : ℕ) (n : Nest) (line : ℕ) → StatementsFit left n → InText Stands (followed_by n (Does line Return Nothing)) → OwnNest of_text (followed_by n (Does line Return Nothing))
names_behind left Nothing last h s = (tt, tt)
names_behind zero (Loop line v l u step body rest) last h s = absurd h
names_behind (suc left) (Loop line v l u step body rest) last h s = (one_name v h.0, bound_names l h.1, bound_names u h.2, names_in left body h.4 s.0, names_behind (suc left) rest last h.5 s.1)
names_behind zero (Branch line set names first has other rest) last h s = absurd h
names_behind (suc left) (Branch line set names first has other rest) last h s = (all_names names h.0.operands.written, names_in left first h.1 s.0, names_in left other h.2 s.1, names_behind (suc left) rest last h.3 s.2)
names_behind left (Does line p rest) last h s = (plain_names p h.0 s.0, names_behind left rest last h.1 s.1)

arguments_of : (args : List Arg) → ArgumentsFit args → OwnArguments of_text args
arguments_of [] h = tt
arguments_of (arg ∷ args) h = (one_name arg.name h.0.name, arguments_of args h.1)

-- such a module may be written
pub may_be_written : (source : List ℕ) (m : Module) → length source < 2 ^ 64 → Spells source m → plain_fault m ≡ None → MayBeWritten m
may_be_written source m short spells v13 = spelt_written source m short spells (module_nests m v13)

pub is_written : (source : List ℕ) (m : Module) → length source < 2 ^ 64 → Spells source m → plain_fault m ≡ None → IsWritten m
is_written source m short spells v13 =
    let w = may_be_written source m short spells v13 in
    record {
      names = subst (OwnNest of_text) (sym w.body) (names_behind 39 w.stmts w.line w.fit (subst (InText Stands) w.body (input_stands m v13)));
      arguments = arguments_of m.args w.args;
    }
