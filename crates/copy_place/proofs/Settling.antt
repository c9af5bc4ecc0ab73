-- What the plan settles of a memref, as the tests say it.
use Rattle.std.proofs.Common.{◌≡◌, ℕ, Bool, List, [], ◌∷◌, ◌++◌, length, map, Option, Some, None, Result, Ok, Err, refl, sym, ap, ◌∙◌, subst}
use Rattle.affine_ast.specs.declared.name.Name.{Name}
use Rattle.affine_ast.specs.declared.types.MemrefType.{MemrefType}
use Rattle.affine_ast.specs.Nest.{Nest}
use Rattle.boxes.specs.Every.{Every}
use Rattle.nest_domain.specs.declared.plan.Cause.{Cause}
use Rattle.nest_domain.specs.declared.plan.Cause.TheVariants as cause
use Rattle.nest_domain.specs.declared.plan.Doubling.TheVariants as doubling
use Rattle.nest_domain.specs.declared.plan.Outcome.{Outcome}
use Rattle.nest_domain.specs.declared.plan.Outcome.TheVariants as outcome
use Rattle.nest_domain.specs.Boxes.{Dimension}
use Rattle.access_region.specs.Faults.{NoRegion}
use Rattle.placement_code.specs.Placed.{placement_of}
use Rattle.placement_stage.specs.Places.{spot_of}
use Rattle.placement_texts.specs.Fold.{Step, staged_all}
use Rattle.placement_texts.specs.Spots.{Spot}
use Rattle.text_places.specs.declared.plain.FoundUse.{FoundUse}
use Rattle.text_places.specs.Finding.{seen}
use Rattle.plan_laws.specs.Sites.{path_of, lined}
use Rattle.plan_laws.specs.Plan.{Settled, Unstaged, cause_of, type_of, region_at, step_at, steps_with, outcome_of}
use Rattle.placed_intervals.specs.Untested.{fitted_at, fitted_from, fitted_for}
use Rattle.text_limits.specs.Adding.{subscripts, Describes}
use Rattle.text_limits.specs.Leaving.{LeavesAlone, PlannedAreDescribed}
use Rattle.plan_tests.specs.declared.tests.Tests.{Tests}
use Rattle.plan_tests.specs.Testing.{TestsFor, IsTried, IsSettled}
use Rattle.untested_plans.specs.Law.{AreAside}
use Rattle.hoisted_sites.specs.declared.hoisting.Site.{Site}
use Rattle.hoisted_sites.specs.declared.standing.Asking.{Asking}
use Rattle.hoisted_sites.specs.Sites.{by_cause}
use Rattle.hoisted_sites.specs.Hoisting.{module_of, text_of, site_of, IsHoisted}
use Rattle.placed_sites.specs.declared.placing.Candidate.{Candidate}
use Rattle.placed_sites.specs.Placing.{IsCandidate}
use Rattle.copy_place.specs.Planning.{IsSettledAs, TriesSite, settled_for}

module _ (a : Asking) (m : Name) (ty : MemrefType) (s : Spot) (x : Site) where
  abbrev n : Nest
  n = text_of a

  abbrev Place : Spot
  Place = spot_of x.at.steps

  -- the step of the plan, behind so many
  abbrev pub step_for : ℕ → Step
  step_for number = step_at a.options (module_of a).args n number m ty (site_of x)

  alone_there : (h : IsHoisted a m ty s x) (steps : List Step) → type_of (module_of a).args m ≡ Some ty → AreAside a.options (module_of a) m s steps → Every (λ y. LeavesAlone m Place y.placement y.spot) steps
  alone_there h steps typed k = subst (λ t. Every (λ y. LeavesAlone m t y.placement y.spot) steps) (sym (ap (λ y. y.at) h.hoisted)) (k.alone ty h.region typed h.is)

  described : PlannedAreDescribed → (h : IsHoisted a m ty s x) (number : ℕ) (c : Candidate) (steps : List Step) → type_of (module_of a).args m ≡ Some ty → IsCandidate a m ty number x c → AreAside a.options (module_of a) m s steps
      → Describes (step_for number).placement c.round.loops c.round.ifs (map seen x.uses.items) Place (staged_all steps (lined n))
  described law h number c steps typed k aside =
      let d = law (step_for number).placement Place n steps h.path.loop aside.loops (alone_there h steps typed aside) in
      record { loop = d.loop; in_loops = k.loops ∙ d.in_loops; in_ifs = k.ifs ∙ d.in_ifs; uses = ap subscripts h.uses ∙ d.uses }

  -- it is the one that the tests are asked of
  pub is_tried : PlannedAreDescribed → (h : IsHoisted a m ty s x) (number : ℕ) (c : Candidate) (steps : List Step) (us : List FoundUse) → type_of (module_of a).args m ≡ Some ty → IsCandidate a m ty number x c → number ≡ length steps
      → us ≡ c.site.uses.items → AreAside a.options (module_of a) m s steps → IsTried (module_of a) steps s c.placed c.site.place c.round (map seen us) (step_for (length steps))
  is_tried law h number c steps us typed k e u aside =
      let place : x.place ≡ c.site.place = sym (ap (λ y. y.place) k.site) in
      let uses : x.uses.items ≡ us = sym (u ∙ ap (λ y. y.uses.items) k.site) in
      subst (λ l. IsTried (module_of a) steps s c.placed c.site.place c.round (map seen l) (step_for (length steps))) uses
      (subst (λ i. IsTried (module_of a) steps s c.placed i c.round (map seen x.uses.items) (step_for (length steps))) place
      (subst (λ j. IsTried (module_of a) steps s c.placed x.place c.round (map seen x.uses.items) (step_for j)) e (record {
        placement = sym k.placed;
        site = record { within = h.place.within; spot = h.place.spot; taken = refl };
        loop = described law h number c steps typed k aside;
      })))

  -- ---- what the tests say
  abbrev Out : Settled → Outcome
  Out = outcome_of a.options (module_of a).args n

  abbrev Fitted : List Step → Settled
  Fitted steps = fitted_at a.options (module_of a).args n steps m ty (site_of x)

  pub left_as : (blocks : List Spot) (steps : List Step) (c : Cause) (new : Tests) → IsSettled a.options (module_of a) blocks steps (step_for (length steps)) (Some c) new → IsSettledAs a blocks steps (Fitted steps) (outcome.Left c) new
  left_as blocks steps c new k = record {
    is = ap Out (sym (k.is x.region));
    kept = subst (λ y. TestsFor a.options (module_of a) blocks (steps_with a.options (module_of a).args n steps y) new) (sym (k.is x.region)) k.kept;
  }

  pub placed_as : (h : IsHoisted a m ty s x) (blocks : List Spot) (steps : List Step) (c : Candidate) (number : ℕ) (new : Tests) → number ≡ length steps → IsCandidate a m ty number x c
      → IsSettled a.options (module_of a) blocks steps (step_for (length steps)) None new
      → IsSettledAs a blocks steps (Fitted steps) (outcome.Staged c.site.at c.site.region c.placed.reads c.placed.writes doubling.NotAsked) new
  placed_as h blocks steps c number new e d k =
      let p : placement_of c.placed ≡ (step_for (length steps)).placement = d.placed ∙ ap (λ j. (step_for j).placement) e in
      let at : c.site.at ≡ record { steps = path_of Place } = ap (λ y. y.at) d.site ∙ ap (λ (l : List (ℕ × Bool)). record { steps = l }) (sym h.path.path) in
      record {
        is =
            (λ i. outcome.Staged (at i) ((d.site i).region) (c.placed.reads) (c.placed.writes) doubling.NotAsked)
            ∙ (λ i. outcome.Staged (record { steps = path_of Place }) x.region ((p i).reads) ((p i).writes) doubling.NotAsked)
            ∙ ap Out (sym (k.is x.region));
        kept = subst (λ y. TestsFor a.options (module_of a) blocks (steps_with a.options (module_of a).args n steps y) new) (sym (k.is x.region)) k.kept;
      }

-- ---- from the block on
module _ (a : Asking) (m : Name) (s : Spot) where
  abbrev Untyped : Option MemrefType → List Step → Settled
  Untyped ty steps = fitted_for a.options (module_of a).args (text_of a) steps m s ty

  settled_same : (blocks : List Spot) (steps : List Step) (y z : Settled) (out : Outcome) (new : Tests) → y ≡ z → IsSettledAs a blocks steps y out new → IsSettledAs a blocks steps z out new
  settled_same blocks steps y z out new e k = subst (λ w. IsSettledAs a blocks steps w out new) e k

  -- no argument
  pub no_type : (blocks : List Spot) (steps : List Step) (new : Tests) → type_of (module_of a).args m ≡ None → TestsFor a.options (module_of a) blocks steps new
      → IsSettledAs a blocks steps (settled_for a steps m s) (outcome.Left cause.Region) new
  no_type blocks steps new e t = settled_same blocks steps (Unstaged cause.Region) (settled_for a steps m s) (outcome.Left cause.Region) new (ap (λ ty. Untyped ty steps) (sym e)) (record { is = refl; kept = t })

  -- no region at the block
  pub no_region : (ty : MemrefType) (c : Cause) (blocks : List Spot) (steps : List Step) (new : Tests) → type_of (module_of a).args m ≡ Some ty → by_cause (region_at a.options (module_of a).args (text_of a) m ty s) ≡ Err c
      → TestsFor a.options (module_of a) blocks steps new → IsSettledAs a blocks steps (settled_for a steps m s) (outcome.Left c) new
  no_region ty c blocks steps new e r t = by (region_at a.options (module_of a).args (text_of a) m ty s) refl r
    where
      by : (w : Result (List Dimension) NoRegion) → region_at a.options (module_of a).args (text_of a) m ty s ≡ w → by_cause w ≡ Err c → IsSettledAs a blocks steps (settled_for a steps m s) (outcome.Left c) new
      by (Ok ds) is h = absurd (let z : ⊥ = cc in z)
      by (Err f) is h =
          let same : cause_of f ≡ c = cc in
          settled_same blocks steps (Unstaged c) (settled_for a steps m s) (outcome.Left c) new
          (ap Unstaged (sym same) ∙ ap (fitted_from a.options (module_of a).args (text_of a) steps m ty s) (sym is) ∙ ap (λ o. Untyped o steps) (sym e)) (record { is = refl; kept = t })

  -- at its site
  pub at_site : (ty : MemrefType) (x : Site) (old new : Tests) (out : Outcome) (blocks : List Spot) (steps : List Step) → type_of (module_of a).args m ≡ Some ty → IsHoisted a m ty s x → TriesSite a m ty s x old out new
      → TestsFor a.options (module_of a) (blocks ++ s ∷ []) steps old → AreAside a.options (module_of a) m s steps → IsSettledAs a (blocks ++ s ∷ []) steps (settled_for a steps m s) out new
  at_site ty x old new out blocks steps e h k t aside =
      settled_same (blocks ++ s ∷ []) steps (fitted_at a.options (module_of a).args (text_of a) steps m ty (site_of x)) (settled_for a steps m s) out new
      (ap (fitted_at a.options (module_of a).args (text_of a) steps m ty) h.hoisted ∙ ap (fitted_from a.options (module_of a).args (text_of a) steps m ty s) (sym h.is) ∙ ap (λ o. Untyped o steps) (sym e))
      (k blocks steps t aside)
