-- The work of statements, step by step.
use Rattle.std.proofs.Common.{◌≡◌, ℕ, zero, suc, ◌+◌, ◌*◌, ◌<◌, ◌≤◌, ◌^◌, max, ℤ, pos, ◌<ℤ◌, false, List, [], ◌∷◌, drop, length, get_or, refl, sym, ap, ◌∙◌, subst, arith, lit≤}
use Rattle.std.specs.Prelude.{Option, Some, None, Result, Ok, Err, IfOk, OnOk}
use Rattle.std.proofs.lemmas.List.{drop_more}
use Rattle.affine_expr.specs.declared.map.Set.{Set}
use Rattle.affine_ast.specs.declared.name.Name.{Name}
use Rattle.affine_ast.specs.declared.types.Bound.{Bound}
use Rattle.affine_ast.specs.declared.module.Module.{Module}
use Rattle.affine_ast.specs.declared.stmt.Stmt.{Stmt}
use Rattle.affine_ast.specs.declared.stmt.What as what
use Rattle.affine_ast.specs.declared.stmt.What.{What}
use Rattle.affine_ast.specs.declared.types.Scalar.{Scalar}
use Rattle.affine_ast.specs.declared.types.Scalar.TheVariants as scalar
use Rattle.affine_ast.specs.Intervals.{Ranges, first_turn, last_end, turn_range}
use Rattle.affine_ast.specs.Names.{put}
use Rattle.affine_ast.specs.Nest.{Plain, Nest, Nothing, Loop, Branch, followed_by, nest, put_what}
use Rattle.affine_ast.specs.Nest as tree
use Rattle.affine_ast.proofs.Nests.{nest-nil, nest-cons, put-For, put-If, put-If-else, put-followed}
use Rattle.affine_ast.specs.Nest.{plain_of, is_region}
use Rattle.affine_ast.proofs.Nests.{put_plain}
use Rattle.direct_meaning.specs.Work.{turn_count, full_work, ranges_after_constant, start_ranges, work}
use Rattle.module_work.specs.Saturated.{saturated}
use Rattle.module_work.specs.Steps.{range_of_constant, Does, Steps}
use Rattle.module_work.specs.Workable.{WorkableBound, WorkablePlain, Workable}
use Rattle.module_work.proofs.Saturation.{sum_cut, sum_cut_right, product_cut}
use Rattle.module_work.specs.declared.ranges.Before.{Before}
use Rattle.module_work.specs.Table.{put_back}

-- ---- what a list may be asked, one statement after the other

workable_first : (a b : Nest) (rho : Ranges) → Workable (followed_by a b) rho → Workable a rho
unfolding Workable
workable_first Nothing b rho h = tt
workable_first (Loop line v l u s body rest) b rho h = (h.0, h.1, h.2, h.3, workable_first rest b rho h.4)
workable_first (Branch line set names first has other rest) b rho h = (h.0, h.1, workable_first rest b rho h.2)
workable_first (tree.Does line p rest) b rho h = (h.0, workable_first rest b _ h.1)

-- a statement by itself
pub workable_alone : (w : What) (line : ℕ) (rest : Nest) (rho : Ranges) → Workable (put_what w line rest) rho → Workable (put_what w line Nothing) rho
workable_alone w line rest rho h = workable_first (put_what w line Nothing) rest rho (subst (λ n. Workable n rho) (sym (put-followed w line Nothing rest)) h)

pub nest_step : (ss : List Stmt) (i : ℕ) (s : Stmt) → i < length ss → s ≡ get_or ss i s → nest (drop i ss) ≡ put_what s.what s.line (nest (drop (i + 1) ss))
nest_step ss i s h e = ap nest (drop_more ss i s h ∙ ap (λ x. x ∷ drop (i + 1) ss) (sym e)) ∙ nest-cons s (drop (i + 1) ss)

-- ---- a statement without a region

pub plain_workable : (w : What) (line : ℕ) (rho : Ranges) → is_region w ≡ false → Workable (put_what w line Nothing) rho → WorkablePlain rho (plain_of w)
unfolding Workable
plain_workable w line rho region h = (subst (λ n. Workable n rho) (put_plain w line Nothing region) h).0

-- a total and a work, before what follows
added : (total work more : ℕ) → saturated (total + (work + more)) ≡ saturated (saturated (total + work) + more)
added total work more = ap saturated (let k : total + (work + more) ≡ total + work + more = omega arith in k) ∙ sym (sum_cut (total + work) more (2 ^ 127))

pub small_total : (n m : ℕ) → n ≡ saturated m → n ≤ 2 ^ 127
small_total n m e = omega (arith, e)

pub plain_steps : (total work next : ℕ) (line : ℕ) (w : What) (old new : Ranges) → is_region w ≡ false → Does work (plain_of w) old new → next ≡ saturated (total + work) → Steps total next (record { line = line; what = w }) old new
unfolding full_work Workable
plain_steps total work next line w old new region d e = record {
  counted = λ rest. ap (λ n. saturated (total + full_work n old)) (put_plain w line rest region) ∙ (λ i. saturated (total + (sym d.work_is i + full_work rest (sym d.ranges_are i)))) ∙ added total work (full_work rest new) ∙ ap (λ k. saturated (k + full_work rest new)) (sym e);
  small = small_total next (total + work) e;
  passes = λ rest h. subst (Workable rest) (sym d.ranges_are) (subst (λ n. Workable n old) (put_plain w line rest region) h).1;
}

-- a plain statement's work under another name of it
pub does_as : (work : ℕ) (p q : Plain) (old new : Ranges) → p ≡ q → Does work q old new → Does work p old new
does_as work p q old new e d = subst (λ p. Does work p old new) (sym e) d

pub constant_after : (r : Name) (z : ℤ) (ty : Scalar) (rho : Ranges) → put rho r (range_of_constant z ty) ≡ ranges_after_constant r z ty rho
constant_after r z (scalar.Int element) rho = refl
constant_after r z scalar.Index rho = refl

-- ---- loops

module _ (line : ℕ) (v : Name) (l u : Bound) (s : ℤ) (body : List Stmt) (rho : Ranges) where
  abbrev pub inner : Ranges
  inner = put rho v (turn_range (first_turn rho l) (last_end rho u))

  pub loop_workable : Workable (put_what (what.For v l u s body) line Nothing) rho → WorkableBound rho l × WorkableBound rho u × (pos 0 <ℤ s) × Workable (nest body) inner
  unfolding Workable
  loop_workable h = let k = subst (λ n. Workable n rho) (put-For line Nothing v l u s body) h in (k.0, k.1, k.2, k.3)

  loop_full : (rest : Nest) → full_work (put_what (what.For v l u s body) line rest) rho ≡ turn_count (first_turn rho l) (last_end rho u) s * max 1 (full_work (nest body) inner) + full_work rest rho
  unfolding full_work
  loop_full rest = ap (λ n. full_work n rho) (put-For line rest v l u s body)

  pub loop_steps : (total next inside turns counted : ℕ) (w : What) (new : Ranges) → w ≡ what.For v l u s body → turns ≡ turn_count (first_turn rho l) (last_end rho u) s → inside ≡ saturated (0 + full_work (nest body) inner) → counted ≡ saturated (turns * max 1 inside)
      → next ≡ saturated (total + counted) → new ≡ rho → Steps total next (record { line = line; what = w }) rho new
  unfolding Workable
  loop_steps total next inside turns counted w new is many in_is counted_is next_is back =
      let whole = turn_count (first_turn rho l) (last_end rho u) s * max 1 (full_work (nest body) inner) in
      let in_one : inside ≡ saturated (full_work (nest body) inner) = in_is ∙ ap saturated (let k : 0 + full_work (nest body) inner ≡ full_work (nest body) inner = omega arith in k) in
      let cut : counted ≡ saturated whole = counted_is ∙ (λ i. saturated (many i * max 1 (in_one i))) ∙ product_cut (turn_count (first_turn rho l) (last_end rho u) s) (full_work (nest body) inner) (2 ^ 127) (lit≤ tt) in
      let e : next ≡ saturated (total + whole) = next_is ∙ ap (λ k. saturated (total + k)) cut ∙ sum_cut_right total whole (2 ^ 127) in record {
        counted = λ rest. ap (λ x. saturated (total + full_work (put_what x line rest) rho)) is ∙ ap (λ k. saturated (total + k)) (loop_full rest) ∙ added total whole (full_work rest rho)
            ∙ (λ i. saturated (sym e i + full_work rest (sym back i)));
        small = small_total next (total + counted) next_is;
        passes = λ rest h. subst (Workable rest) (sym back) (subst (λ n. Workable n rho) (ap (λ x. put_what x line rest) is ∙ put-For line rest v l u s body) h).4;
      }

-- ---- conditions

module _ (line : ℕ) (set : Set) (names : List Name) (first : List Stmt) (rho : Ranges) where
  pub first_workable : (o : Option (List Stmt)) → Workable (put_what (what.If set names first o) line Nothing) rho → Workable (nest first) rho
  unfolding Workable
  first_workable None h = (subst (λ n. Workable n rho) (put-If line Nothing set names first) h).0
  first_workable (Some other) h = (subst (λ n. Workable n rho) (put-If-else line Nothing set names first other) h).0

  pub other_workable : (other : List Stmt) → Workable (put_what (what.If set names first (Some other)) line Nothing) rho → Workable (nest other) rho
  unfolding Workable
  other_workable other h = (subst (λ n. Workable n rho) (put-If-else line Nothing set names first other) h).1

  pub if_steps : (total next : ℕ) (w : What) (new : Ranges) → w ≡ what.If set names first None → next ≡ saturated (total + full_work (nest first) rho) → new ≡ rho → Steps total next (record { line = line; what = w }) rho new
  unfolding Workable full_work
  if_steps total next w new is next_is back = record {
    counted = λ rest. ap (λ x. saturated (total + full_work (put_what x line rest) rho)) is ∙ ap (λ n. saturated (total + full_work n rho)) (put-If line rest set names first)
        ∙ ap (λ k. saturated (total + (k + full_work rest rho))) (let e : full_work (nest first) rho + 0 ≡ full_work (nest first) rho = omega arith in e)
        ∙ added total (full_work (nest first) rho) (full_work rest rho)
        ∙ (λ i. saturated (sym next_is i + full_work rest (sym back i)));
    small = small_total next (total + full_work (nest first) rho) next_is;
    passes = λ rest h. subst (Workable rest) (sym back) (subst (λ n. Workable n rho) (ap (λ x. put_what x line rest) is ∙ put-If line rest set names first) h).2;
  }

  pub if_else_steps : (other : List Stmt) (total middle next : ℕ) (w : What) (new : Ranges) → w ≡ what.If set names first (Some other) → middle ≡ saturated (total + full_work (nest first) rho) → next ≡ saturated (middle + full_work (nest other) rho) → new ≡ rho
      → Steps total next (record { line = line; what = w }) rho new
  unfolding Workable full_work
  if_else_steps other total middle next w new is middle_is next_is back =
      let e : next ≡ saturated (total + (full_work (nest first) rho + full_work (nest other) rho)) = next_is ∙ ap (λ k. saturated (k + full_work (nest other) rho)) middle_is ∙ sym (added total (full_work (nest first) rho) (full_work (nest other) rho)) in record {
        counted = λ rest. ap (λ x. saturated (total + full_work (put_what x line rest) rho)) is ∙ ap (λ n. saturated (total + full_work n rho)) (put-If-else line rest set names first other)
            ∙ added total (full_work (nest first) rho + full_work (nest other) rho) (full_work rest rho)
            ∙ (λ i. saturated (sym e i + full_work rest (sym back i)));
        small = small_total next (middle + full_work (nest other) rho) next_is;
        passes = λ rest h. subst (Workable rest) (sym back) (subst (λ n. Workable n rho) (ap (λ x. put_what x line rest) is ∙ put-If-else line rest set names first other) h).2;
      }

  pub if_else_ok : {E : Type 0} (r : Result ℕ E) (other : List Stmt) (total middle : ℕ) (w : What) (new mid : Ranges) → w ≡ what.If set names first (Some other) → middle ≡ saturated (total + full_work (nest first) rho) → mid ≡ rho
      → IfOk r (λ next. next ≡ saturated (middle + full_work (nest other) mid)) → OnOk r (new ≡ mid) → IfOk r (λ next. Steps total next (record { line = line; what = w }) rho new)
  if_else_ok (Ok next) other total middle w new mid is middle_is back next_is same = if_else_steps other total middle next w new is middle_is (next_is ∙ ap (λ f. saturated (middle + full_work (nest other) f)) back) (same ∙ back)
  if_else_ok (Err e) other total middle w new mid is middle_is back next_is same = tt

pub kept_region : {E : Type 0} (r : Result ℕ E) (bs : List Before) (rho mid new : Ranges) → mid ≡ rho → OnOk r (new ≡ mid) → OnOk r (put_back bs new ≡ put_back bs rho)
kept_region (Ok next) bs rho mid new back same = ap (put_back bs) (same ∙ back)
kept_region (Err e) bs rho mid new back same = tt

-- ---- lists

pub list_step : (all total next : ℕ) (ss : List Stmt) (i : ℕ) (s : Stmt) (rho sigma : Ranges) → i < length ss → s ≡ get_or ss i s → all ≡ saturated (total + full_work (nest (drop i ss)) rho) → Steps total next s rho sigma
    → all ≡ saturated (next + full_work (nest (drop (i + 1) ss)) sigma)
list_step all total next ss i s rho sigma h e so steps =
    so ∙ ap (λ n. saturated (total + full_work n rho)) (nest_step ss i s h e) ∙ steps.counted (nest (drop (i + 1) ss))

pub list_passes : (total next : ℕ) (ss : List Stmt) (i : ℕ) (s : Stmt) (rho sigma : Ranges) → i < length ss → s ≡ get_or ss i s → Workable (nest (drop i ss)) rho → Steps total next s rho sigma → Workable (nest (drop (i + 1) ss)) sigma
list_passes total next ss i s rho sigma h e ok steps = steps.passes (nest (drop (i + 1) ss)) (subst (λ n. Workable n rho) (nest_step ss i s h e) ok)

pub list_asks : (ss : List Stmt) (i : ℕ) (s : Stmt) (rho : Ranges) → i < length ss → s ≡ get_or ss i s → Workable (nest (drop i ss)) rho → Workable (put_what s.what s.line Nothing) rho
list_asks ss i s rho h e ok = workable_alone s.what s.line (nest (drop (i + 1) ss)) rho (subst (λ n. Workable n rho) (nest_step ss i s h e) ok)

drop-nil : (i : ℕ) → drop i (let xs : List Stmt = [] in xs) ≡ []
drop-nil zero = refl
drop-nil (suc i) = refl

drop_all : (ss : List Stmt) (i : ℕ) → length ss ≤ i → drop i ss ≡ []
drop_all [] i h = drop-nil i
drop_all (s ∷ ss) zero h = absurd (omega (arith, h))
drop_all (s ∷ ss) (suc i) h = drop_all ss i (omega (arith, h))

pub list_end : (all total : ℕ) (ss : List Stmt) (i : ℕ) (rho : Ranges) → length ss ≤ i → total ≤ 2 ^ 127 → all ≡ saturated (total + full_work (nest (drop i ss)) rho) → total ≡ all
unfolding full_work
list_end all total ss i rho h small so =
    let e : all ≡ saturated (total + 0) = so ∙ ap (λ n. saturated (total + full_work n rho)) (ap nest (drop_all ss i h) ∙ nest-nil) in
    let k : saturated (total + 0) ≡ total = omega (arith, small) in sym (e ∙ k)

-- ---- the module

pub work_is : {E : Type 0} (r : Result ℕ E) (m found : Module) (ss : List Stmt) (rho : Ranges) → found ≡ m → ss ≡ found.body → rho ≡ start_ranges found.args → IfOk r (λ next. next ≡ saturated (0 + full_work (nest ss) rho)) → IfOk r (λ next. next ≡ work m)
unfolding work
work_is (Ok next) m found ss rho is body args h = h ∙ (λ i. saturated (0 + full_work (nest (body i)) (args i))) ∙ ap (λ (x : Module). saturated (0 + full_work (nest x.body) (start_ranges x.args))) is ∙ ap saturated (let k : 0 + full_work (nest m.body) (start_ranges m.args) ≡ full_work (nest m.body) (start_ranges m.args) = omega arith in k)
work_is (Err e) m found ss rho is body args h = tt
