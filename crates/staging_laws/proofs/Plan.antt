-- All placements of a plan, one after the other.
use Rattle.std.proofs.Common.{◌≡◌, ◌⊎◌, inl, inr, ◌∙◌, ℕ, suc, ◌≤◌, List, [], ◌∷◌, length, refl, sym, subst, arith, Bool, true, false}
use Rattle.std.proofs.lemmas.Bool.{le-leb}
use Rattle.affine_ast.specs.declared.name.Name.{Name}
use Rattle.affine_ast.specs.Nest.{Nest}
use Rattle.direct_meaning.specs.Action.{Action}
use Rattle.direct_meaning.specs.Static.{Env}
use Rattle.direct_meaning.specs.Actions.{actions}
use Rattle.direct_meaning.specs.Direct.{folded, first_state, direct_step}
use Rattle.prompt_semantics.specs.Prompt.{prompt_step, first_device}
use Rattle.placement_texts.specs.Own.{OwnNest}
use Rattle.boxes.specs.Every.{Every}
use Rattle.placement_texts.specs.Each.{Each}
use Rattle.placement_texts.specs.Template.{dim_sizes, tag_name, fast_name}
use Rattle.placement_texts.specs.Regions.{Apart, Tidy}
use Rattle.placement_texts.specs.Mapped.{Together}
use Rattle.placement_texts.specs.OneTag.{InText, TagIsOne}
use Rattle.placement_texts.specs.Spots.{HasLine, Disjoint, found, stage_one}
use Rattle.placement_texts.specs.Fold.{Step, staged_all, numbers_at, IsSlow, there, Fits, AllFit, IsReady, Parted, AllParted, AllApart}
use Rattle.placement_texts.proofs.OneTag.{tags_together}
use Rattle.placement_texts.proofs.OneTagStaged.{one_tag_staged}
use Rattle.placement_texts.proofs.SpotRun.{each_both}
use Rattle.placement_texts.proofs.OwnStaged.{nest_more, staged_own}
use Rattle.placement_texts.proofs.Folded.{alike_itself, later, dims_later, made_names, suits, all_ready}
use Rattle.placement_texts.proofs.Follows.{apart_own}
use Rattle.placement_texts.proofs.FoundSpots.{found_disjoint}
use Rattle.affine_ast.specs.Names.{same_name}
use Rattle.affine_ast.proofs.Names.{same_name-sym}
use Rattle.staging_laws.proofs.KeepsOver.{keeps_over}
use Rattle.box_run_laws.specs.Roomy.{most_live}
use Rattle.box_run_laws.specs.Law.{Steps, last_of, Agrees}
use Rattle.box_run_laws.proofs.Theorem.{staging_agrees}
use Rattle.staging_laws.specs.Spared.{WaitedFor}
use Rattle.staging_laws.specs.Law.{Sized, Kept, AllAllow, PlanAgrees}
use Rattle.staging_laws.proofs.Waited.{waited_staged}
use Rattle.staging_laws.proofs.Theorem.{step}

-- the lists of actions of the texts on the way
abbrev lists_of : List Step → Nest → Env → List (List Action)
lists_of [] n e = []
lists_of (s ∷ ss) n e = actions (stage_one s.placement s.spot n) e ∷ lists_of ss (stage_one s.placement s.spot n) e

last_is : (ss : List Step) (n : Nest) (e : Env) → last_of (actions n e) (lists_of ss n e) ≡ actions (staged_all ss n) e
last_is [] n e = refl
last_is (s ∷ ss) n e = last_is ss (stage_one s.placement s.spot n) e

-- a later step's loop keeps to what its placement says
module _ (made_by : Name → ℕ) where
  tag_not_fast : (k : ℕ) (s : Step) → Fits made_by k s → same_name (tag_name s.placement.name) (fast_name s.placement.name) ≡ false
  tag_not_fast k s f = by (same_name (tag_name s.placement.name) (fast_name s.placement.name)) refl
    where
      by : (t : Bool) → same_name (tag_name s.placement.name) (fast_name s.placement.name) ≡ t → same_name (tag_name s.placement.name) (fast_name s.placement.name) ≡ false
      by true e = let z = f.apart 1 0 e in absurd (omega (arith, z))
      by false e = e

  either : (s o : Step) (n : Nest) → Parted made_by s o → (same_name o.placement.memref s.placement.memref ≡ false) ⊎ Disjoint (found o.spot n) (found s.spot n)
  either s o n (inl d) = inl d
  either s o n (inr d) = inr (found_disjoint o.spot s.spot n d)

  all_kept : (k : ℕ) (s : Step) (n : Nest) → Fits made_by k s → HasLine (found s.spot n) n → (j : ℕ) (ss : List Step) → AllFit made_by j ss → Every (Parted made_by s) ss
      → Every (λ (o : Step). Kept o.placement (found o.spot n) n) ss → Every (λ (o : Step). Kept o.placement (found o.spot (stage_one s.placement s.spot n)) (stage_one s.placement s.spot n)) ss
  all_kept k s n f line j [] fits parted kept = tt
  all_kept k s n f line j (o ∷ ss) fits parted kept =
      let p = s.placement in
      let names = made_names made_by k s f in
      let m_own = later made_by 0 k p.memref (omega arith) f.memref_own in
      let o_own = later made_by 0 k o.placement.memref (omega arith) fits.0.memref_own in (
        keeps_over o.placement p (apart_own (there made_by k) o.placement.memref (fast_name p.name) o_own (names.made 0))
            (same_name-sym (tag_name p.name) p.memref ∙ apart_own (there made_by k) p.memref (tag_name p.name) m_own (names.made 1)) (tag_not_fast k s f)
            o.spot (found s.spot n) n line (either s o n parted.0) kept.0,
        all_kept k s n f line (suc j) ss fits.1 parted.1 kept.1,
      )

module _ (made_by : Name → ℕ) (e : Env) (slow : (m : Name) → IsSlow (e.home m)) (total : ℕ) where
  all_steps : (k : ℕ) (ss : List Step) (n : Nest) → OwnNest (there made_by k) n → AllFit made_by k ss → Every (IsReady made_by n e) ss → AllParted made_by ss → InText TagIsOne n → AllApart made_by ss n e → Every (λ (s : Step). Kept s.placement (found s.spot n) n) ss → AllAllow ss n e → WaitedFor n → Every (λ (s : Step). Sized s.placement s.first total) ss
      → Steps total (actions n e) (lists_of ss n e)
  all_steps k [] n h fits r parted one apart kept allow waited sized = tt
  all_steps k (s ∷ ss) n h fits r parted one apart kept allow waited sized =
      let n' = stage_one s.placement s.spot n in
      let f = fits.0 in
      let new = numbers_at s n e in
      let tidy : Each (Tidy new s.placement.memref s.first (dim_sizes s.placement.dims)) n e =
      each_both (Together new) (Apart s.placement.memref s.first (dim_sizes s.placement.dims)) n e (tags_together new n e one) apart.0 in
      let more = nest_more (there made_by k) (there made_by (suc k)) (λ x. later made_by k (suc k) x (omega arith)) n h in
      let made : (i : ℕ) → there made_by (suc k) (s.placement.name i) ≡ true = λ i. (let e = f.made i in le-leb (made_by (s.placement.name i)) (suc k) (omega (arith, e))) in
      let own' : OwnNest (there made_by (suc k)) n' =
      staged_own (there made_by k) (there made_by (suc k)) (λ x. later made_by k (suc k) x (omega arith)) s.placement made (later made_by 0 k s.placement.memref (omega arith) f.memref_own) (dims_later made_by 0 k s.placement.dims (omega arith) f.dims_own) f.elements (found s.spot n) n more in (
        step (there made_by k) s.placement s.order s.first new (found s.spot n) n e total (suits made_by e slow k s n f h r.0) tidy r.0.fine kept.0 allow.0 sized.0 waited e (alike_itself (there made_by k) new e slow),
        all_steps (suc k) ss n' own' fits.1 (all_ready made_by e slow k s n f h r.0 (suc k) ss fits.1 parted.0 r.1) parted.1 (one_tag_staged s.placement (found s.spot n) n one) apart.1 (all_kept made_by k s n f r.0.line (suc k) ss fits.1 parted.0 kept.1) allow.1 (waited_staged s.placement (found s.spot n) n waited) sized.1,
      )

pub plan_agrees : PlanAgrees
plan_agrees made_by ss n e h fits r parted slow one apart kept allow waited memory sized plain filler capacity room =
    let steps = all_steps made_by e slow (length (first_state memory).slow) 0 ss n h fits r parted one apart kept allow waited sized in
    subst (λ l. Agrees (folded direct_step (actions n e) (first_state memory)) (folded (prompt_step filler capacity) l (first_device memory))) (last_is ss n e)
    (staging_agrees memory (actions n e) (lists_of ss n e) plain steps filler capacity (subst (λ l. most_live l 0 ≤ capacity) (sym (last_is ss n e)) room))
