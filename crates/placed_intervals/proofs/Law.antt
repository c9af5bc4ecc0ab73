-- The law: with each placement more a text keeps to the rule on intervals.
use Rattle.std.proofs.Common.{◌≡◌, ◌⊎◌, inl, inr, ℕ, suc, ℤ, List, [], ◌∷◌, ◌++◌, refl, sym, ap, ◌∙◌, arith, Bool, true, false}
use Rattle.std.specs.Prelude.{◌&&◌, None}
use Rattle.std.proofs.lemmas.Bool.{le-leb}
use Rattle.affine_expr.specs.Spread.{Range}
use Rattle.affine_ast.specs.declared.module.Module.{Module}
use Rattle.affine_ast.specs.declared.name.Name.{Name}
use Rattle.affine_ast.specs.Names.{same_name}
use Rattle.affine_ast.proofs.Names.{same_name-sym}
use Rattle.affine_ast.specs.Nest.{Nest, Nothing, Loop, Branch, Does, nest}
use Rattle.affine_ast.specs.Scope.{Scope, Totals, Around, with_totals, counted, in_loop, in_condition, behind_plain}
use Rattle.affine_ast.specs.Validity.{Passed, then_told, told, rule_of_plain, rule_of_loop, rule_of_condition, outside, IsValid}
use Rattle.direct_meaning.specs.Static.{Env}
use Rattle.valid_laws.proofs.Passing.{judged_passed, then_passed, plain_holds, loop_holds, condition_holds}
use Rattle.boxes.specs.Every.{Every}
use Rattle.placement_texts.specs.Fold.{Step, staged_all, there, Fits, AllFit, Parted, AllParted}
use Rattle.placement_texts.specs.Own.{OwnNest}
use Rattle.placement_texts.specs.Spots.{IsLoop, HasLine, Disjoint, found, stage_one}
use Rattle.placement_texts.specs.Template.{fast_name, tag_name}
use Rattle.placement_texts.specs.Valid.{scope_behind_arguments}
use Rattle.placement_texts.proofs.Folded.{later, dims_later, made_names}
use Rattle.placement_texts.proofs.Follows.{apart_own}
use Rattle.placement_texts.proofs.FoundSpots.{staged_stays, found_disjoint}
use Rattle.placement_texts.proofs.OwnStaged.{nest_more, staged_own}
use Rattle.placement_texts.proofs.ScopedTexts.{scope_behind}
use Rattle.placement_texts.proofs.StagedValid.{scope_is}
use Rattle.placement_regions.proofs.Theorem.{opens}
use Rattle.plan_laws.specs.Limits.{bounded_in, keeps_intervals}
use Rattle.staged_plans.specs.Plans.{IsPlanned}
use Rattle.staged_plans.proofs.Theorem.{all_fit, type_is}
use Rattle.placed_intervals.specs.Fits.{FitsAt}
use Rattle.placed_intervals.specs.Law.{PlacedKeepIntervals, OneMoreKeepsIntervals}
use Rattle.placed_intervals.proofs.Staged.{staged_bounded}
use Rattle.placed_intervals.proofs.Carried.{carried}
use Rattle.placed_intervals.proofs.Reached.{region_fits_there}

-- ---- a text that breaks no rule breaks none on intervals
pub told_bounded : (n : Nest) (a : Around) (t : Totals) → told n a ≡ Passed t → bounded_in n a.scope ≡ true
unfolding told
told_bounded Nothing a t h = refl
told_bounded (Loop line v l u s body rest) a t h =
    let j = judged_passed line (rule_of_loop (counted a) v l u s) _ t h in
    let b = then_passed (told body (in_loop v l u (counted a))) (λ t. told rest (with_totals t a)) t j.1 in
    λ i. (loop_holds (counted a) v l u s j.0).bounded i && (told_bounded body (in_loop v l u (counted a)) b.0 b.1 i && told_bounded rest (with_totals b.0 a) t b.2 i)
told_bounded (Branch line set ns first has other rest) a t h =
    let j = judged_passed line (rule_of_condition (counted a) set ns) _ t h in
    let b = then_passed (told first (in_condition (counted a))) (λ t. then_told (told other (in_condition (with_totals t a))) (λ u. told rest (with_totals u a))) t j.1 in
    let c = then_passed (told other (in_condition (with_totals b.0 a))) (λ u. told rest (with_totals u a)) t b.2 in
    λ i. (condition_holds (counted a) set ns j.0).bounded i && (told_bounded first (in_condition (counted a)) b.0 b.1 i && (told_bounded other (in_condition (with_totals b.0 a)) c.0 c.1 i && told_bounded rest (with_totals c.0 a) t c.2 i))
told_bounded (Does line q rest) a t h =
    let j = judged_passed line (rule_of_plain (counted a) q rest) _ t h in
    λ i. (plain_holds (counted a) q rest j.0).bounded i && (ap (bounded_in rest) (scope_behind q a) ∙ told_bounded rest (behind_plain q (counted a)) t j.1) i

no_env : Env
no_env = record { known = λ n. None; home = λ n. None; fasts = 0; tags = 0 }

module _ (m : Module) (valid : IsValid m) (made_by : Name → ℕ) (symbols : List ℤ) (dma : Bool) where
  start : Scope
  start = scope_behind_arguments m.args (λ n. None)

  -- at a text on the way, a placement still to come
  record Waits (n : Nest) (x : Step) : Type 0 where
    loop : IsLoop (found x.spot n) n
    line : HasLine (found x.spot n) n
    places : List Range
    fits : FitsAt x.placement places (found x.spot n) n start

  pub module_keeps : keeps_intervals m.args (nest m.body) ≡ true
  unfolding keeps_intervals
  module_keeps =
      let o = opens m valid in
      ap (bounded_in (nest m.body)) (sym (scope_is m.args outside)) ∙ told_bounded (nest m.body) _ o.totals o.passed

  first_waits : (xs : List Step) → Every (IsPlanned dma m.args symbols (nest m.body)) xs → Every (Waits (nest m.body)) xs
  unfolding start
  first_waits [] r = tt
  first_waits (x ∷ xs) r =
      let f = region_fits_there m valid x.placement r.0.ty (found x.spot (nest m.body)) dma r.0.region (type_is m valid symbols dma x r.0) r.0.how in
      (record { loop = r.0.region.loop; line = r.0.line; places = f.0; fits = f.1 }, first_waits xs r.1)

  tag_not_fast : (k : ℕ) (s : Step) → Fits made_by k s → same_name (tag_name s.placement.name) (fast_name s.placement.name) ≡ false
  tag_not_fast k s f = by (same_name (tag_name s.placement.name) (fast_name s.placement.name)) refl
    where
      by : (t : Bool) → same_name (tag_name s.placement.name) (fast_name s.placement.name) ≡ t → same_name (tag_name s.placement.name) (fast_name s.placement.name) ≡ false
      by true e = let z = f.apart 1 0 e in absurd (omega (arith, z))
      by false e = e

  memref_then : (k : ℕ) (s : Step) → Fits made_by k s → there made_by k s.placement.memref ≡ true
  memref_then k s f = later made_by 0 k s.placement.memref (omega arith) f.memref_own

  still_waits : (k : ℕ) (s : Step) (n : Nest) → Fits made_by k s → OwnNest (there made_by k) n → Waits n s → (j : ℕ) (o : Step) → Fits made_by j o → Parted made_by s o → Waits n o → Waits (stage_one s.placement s.spot n) o
  still_waits k s n f own w j o g parted q =
      let p = s.placement in
      let names = made_names made_by k s f in
      let tag : same_name (tag_name p.name) p.memref ≡ false = same_name-sym (tag_name p.name) p.memref ∙ apart_own (there made_by k) p.memref (tag_name p.name) (memref_then k s f) (names.made 1) in
      let stays = staged_stays p (tag_name p.name) no_env tag (tag_not_fast k s f) o.spot (found s.spot n) n w.loop w.line (q.loop, q.line) in
      record {
        loop = stays.0;
        line = stays.1;
        places = q.places;
        fits = carried (there made_by k) p names w.places (memref_then k s f) o.placement q.places (later made_by 0 k o.placement.memref (omega arith) g.memref_own) (dims_later made_by 0 k o.placement.dims (omega arith) g.dims_own)
            o.spot (found s.spot n) n start start (either parted) w.loop w.line own w.fits (λ n h. refl) q.fits;
      }
    where
      either : Parted made_by s o → (same_name o.placement.memref s.placement.memref ≡ false) ⊎ Disjoint (found o.spot n) (found s.spot n)
      either (inl d) = inl d
      either (inr d) = inr (found_disjoint o.spot s.spot n d)

  all_wait : (k : ℕ) (s : Step) (n : Nest) → Fits made_by k s → OwnNest (there made_by k) n → Waits n s → (j : ℕ) (os : List Step) → AllFit made_by j os → Every (Parted made_by s) os → Every (Waits n) os → Every (Waits (stage_one s.placement s.spot n)) os
  all_wait k s n f own w j [] g parted q = tt
  all_wait k s n f own w j (o ∷ os) g parted q = (still_waits k s n f own w j o g.0 parted.0 q.0, all_wait k s n f own w (suc j) os g.1 parted.1 q.1)

  one_keeps : (k : ℕ) (x : Step) (n : Nest) → Fits made_by k x → OwnNest (there made_by k) n → Waits n x → bounded_in n start ≡ true → bounded_in (stage_one x.placement x.spot n) start ≡ true
  one_keeps k x n f own w h =
      staged_bounded (there made_by k) x.placement (made_names made_by k x f) w.places (dims_later made_by 0 k x.placement.dims (omega arith) f.dims_own) (found x.spot n) n start start (λ n o. refl) own h w.fits

  all_keep : (k : ℕ) (xs : List Step) (n : Nest) → OwnNest (there made_by k) n → AllFit made_by k xs → Every (Waits n) xs → AllParted made_by xs → bounded_in n start ≡ true → bounded_in (staged_all xs n) start ≡ true
  all_keep k [] n own fits w parted h = h
  all_keep k (x ∷ xs) n own fits w parted h =
      let n' = stage_one x.placement x.spot n in
      let f = fits.0 in
      let more = nest_more (there made_by k) (there made_by (suc k)) (λ y. later made_by k (suc k) y (omega arith)) n own in
      let made : (i : ℕ) → there made_by (suc k) (x.placement.name i) ≡ true = λ i. (let e = f.made i in le-leb (made_by (x.placement.name i)) (suc k) (omega (arith, e))) in
      let own' : OwnNest (there made_by (suc k)) n' =
      staged_own (there made_by k) (there made_by (suc k)) (λ y. later made_by k (suc k) y (omega arith)) x.placement made (memref_then k x f) (dims_later made_by 0 k x.placement.dims (omega arith) f.dims_own) f.elements (found x.spot n) n more in
      all_keep (suc k) xs n' own' fits.1 (all_wait k x n f own w.0 (suc k) xs fits.1 parted.0 w.1) parted.1 (one_keeps k x n f own w.0 h)

pub placed_keep_intervals : PlacedKeepIntervals
unfolding keeps_intervals start
placed_keep_intervals m valid symbols made_by dma xs r =
    all_keep m valid made_by symbols dma 0 xs (nest m.body) r.own_text (all_fit m valid symbols dma made_by 0 xs r.own_text r.own_arguments r.named r.planned) (first_waits m valid made_by symbols dma xs r.planned) r.parted
    (module_keeps m valid made_by symbols dma)

one_more : (xs : List Step) (x : Step) (n : Nest) → staged_all (xs ++ x ∷ []) n ≡ stage_one x.placement x.spot (staged_all xs n)
one_more [] x n = refl
one_more (y ∷ ys) x n = one_more ys x (stage_one y.placement y.spot n)

pub one_more_keeps_intervals : OneMoreKeepsIntervals
one_more_keeps_intervals m valid symbols made_by dma xs x r = ap (keeps_intervals m.args) (sym (one_more xs x (nest m.body))) ∙ placed_keep_intervals m valid symbols made_by dma (xs ++ x ∷ []) r
