-- What the tests say of a placement.
use Rattle.std.proofs.Common.{◌≡◌, ℕ, ◌+◌, ◌<◌, ◌≤◌, ◌^◌, Bool, true, false, cond, List, [], ◌∷◌, ◌++◌, Some, None, refl, sym, ap, ◌∙◌, arith}
use Rattle.std.proofs.lemmas.List.{length_push}
use Rattle.std.specs.Prelude.{nat_lt}
use Rattle.std.proofs.lemmas.Bool.Decides.{nat_tests}
use Rattle.affine_ast.specs.declared.module.Module.{Module}
use Rattle.affine_ast.specs.Nest.{Nest, nest}
use Rattle.affine_ast.specs.PlainLimits.{plain_fault}
use Rattle.nest_domain.specs.declared.plan.Cause.TheVariants as cause
use Rattle.nest_domain.specs.declared.plan.Options.{Options}
use Rattle.nest_domain.specs.Boxes.{Dimension}
use Rattle.nest_domain.specs.Ways.{Use}
use Rattle.peak_laws.specs.Peak.{fast_bytes, peak_of}
use Rattle.placement_code.specs.declared.placement.Placement.{Placement}
use Rattle.placement_code.specs.Placed.{placement_of}
use Rattle.placement_texts.specs.Fold.{Step, staged_all}
use Rattle.placement_texts.specs.Spots.{Spot, stage_one}
use Rattle.placement_texts.specs.Template as template
use Rattle.placement_texts.specs.Template.{fast_type}
use Rattle.plan_laws.specs.Limits.{keeps_limits}
use Rattle.plan_laws.specs.Sites.{lined}
use Rattle.plan_laws.specs.Plan.{Settled, Unstaged, Placed, text_with, fitted}
use Rattle.staged_peaks.specs.Living.{IsSite, text_more, PeakIs, Added}
use Rattle.text_limits.specs.declared.sums.Round.{Round}
use Rattle.text_limits.specs.declared.sums.Sums.{Sums}
use Rattle.text_limits.specs.Capped.{capped_sums, LimitsAreTold}
use Rattle.text_limits.specs.Sums.{sums_in, are_within}
use Rattle.text_limits.specs.Telling.{told_with, PlacementsAreTold}
use Rattle.plan_tests.specs.declared.tests.Tests.{Tests}
use Rattle.plan_tests.specs.Testing.{TestsFor, IsTried, IsSettled}

-- the text with one placement more behind the others
pub text_behind : (xs : List Step) (x : Step) (n : Nest) → staged_all (xs ++ x ∷ []) n ≡ stage_one x.placement x.spot (staged_all xs n)
text_behind [] x n = refl
text_behind (y ∷ ys) x n = text_behind ys x (stage_one y.placement y.spot n)

module _ (o : Options) (m : Module) (v13 : plain_fault m ≡ None) (blocks : List Spot) (s : Spot) (steps : List Step) (x : Step) (placed : Placement) (place : ℕ) (round : Round) (us : List Use) where
  abbrev Text : Nest
  Text = text_more m steps x

  abbrev Peak : ℕ
  Peak = peak_of Text 0

  abbrev Fitted : List Dimension → Settled
  Fitted ds = fitted o m.args (nest m.body) x ds Text

  abbrev Tried : Type 0
  Tried = IsTried m steps s placed place round us x

  abbrev For : List Step → Tests → Type 0
  For = TestsFor o m (blocks ++ s ∷ [])

  pub site_with : (bytes : ℕ) → bytes ≡ fast_bytes (fast_type (placement_of placed)) → Tried → IsSite (nest m.body) s place bytes x
  site_with bytes e k = record { within = k.site.within; spot = k.site.spot; taken = ap (λ (p : template.Placement). fast_bytes (fast_type p)) k.placement ∙ sym e }

  -- ---- the capacity
  passes : nat_lt o.capacity Peak ≡ true → (ds : List Dimension) → Fitted ds ≡ Unstaged cause.Capacity
  passes e ds = ap (λ b. cond b (Unstaged cause.Capacity) (cond (keeps_limits m.args Text) (Placed x ds) (Unstaged cause.Size))) e

  holds : nat_lt o.capacity Peak ≡ false → (l : Bool) → keeps_limits m.args Text ≡ l → (ds : List Dimension) → Fitted ds ≡ cond l (Placed x ds) (Unstaged cause.Size)
  holds e l f ds =
      ap (λ b. cond b (Unstaged cause.Capacity) (cond (keeps_limits m.args Text) (Placed x ds) (Unstaged cause.Size))) e ∙ ap (λ b. cond b (Placed x ds) (Unstaged cause.Size)) f

  more_than : (a b : ℕ) → a < b → nat_lt a b ≡ true
  more_than a b h = grind (arith, nat_tests)

  no_more_than : (a b : ℕ) → b ≤ a → nat_lt a b ≡ false
  no_more_than a b h = grind (arith, nat_tests)

  -- a peak that isn't a number of 64 bits passes each capacity
  pub passes_all : (old : Tests) (bytes : ℕ) → PeakIs old.live place bytes None → old.capacity < 2 ^ 64 → bytes ≡ fast_bytes (fast_type (placement_of placed)) → For steps old → Tried
      → IsSettled o m (blocks ++ s ∷ []) steps x (Some cause.Capacity) old
  passes_all old bytes p room e t k = record {
    is = passes (by (nat_lt o.capacity Peak) refl);
    kept = t;
  }
    where
      by : (b : Bool) → nat_lt o.capacity Peak ≡ b → nat_lt o.capacity Peak ≡ true
      by true e = e
      by false f =
          let not_more : Peak ≤ o.capacity = grind (arith, nat_tests) in
          let c = t.capacity in
          absurd (p m v13 blocks s steps x t.live (site_with bytes e k) (omega (arith, not_more, c, room)))

  pub passes_capacity : (old : Tests) (bytes peak : ℕ) → PeakIs old.live place bytes (Some peak) → old.capacity < peak → bytes ≡ fast_bytes (fast_type (placement_of placed)) → For steps old → Tried
      → IsSettled o m (blocks ++ s ∷ []) steps x (Some cause.Capacity) old
  passes_capacity old bytes peak p h e t k =
      let is = (p m v13 blocks s steps x t.live (site_with bytes e k)).1 in
      let c = t.capacity in
      record { is = passes (more_than o.capacity Peak (omega (arith, is, c, h))); kept = t }

  within_capacity : (old : Tests) (bytes peak : ℕ) → PeakIs old.live place bytes (Some peak) → peak ≤ old.capacity → bytes ≡ fast_bytes (fast_type (placement_of placed)) → For steps old → Tried
      → nat_lt o.capacity Peak ≡ false
  within_capacity old bytes peak p h e t k =
      let is = (p m v13 blocks s steps x t.live (site_with bytes e k)).1 in
      let c = t.capacity in
      no_more_than o.capacity Peak (omega (arith, is, c, h))

  -- ---- the limits
  module _ (told : LimitsAreTold) (told_more : PlacementsAreTold) where
    sums_are : (old : Tests) (sums : Sums) → sums ≡ told_with (placement_of placed) round.loops round.ifs us old.sums → For steps old → Tried → sums ≡ capped_sums (sums_in 0 0 Text)
    sums_are old sums e t k =
        e ∙ ap (λ p. told_with p round.loops round.ifs us old.sums) (sym k.placement)
        ∙ told_more x.placement round.loops round.ifs us x.spot (text_with o m.args (nest m.body) steps) old.sums k.loop t.sums

    limits_are : (old : Tests) (sums : Sums) → sums ≡ told_with (placement_of placed) round.loops round.ifs us old.sums → For steps old → Tried → keeps_limits m.args Text ≡ are_within sums
    limits_are old sums e t k = told m.args Text ∙ ap are_within (sym (sums_are old sums e t k))

    pub passes_limits : (old : Tests) (bytes peak : ℕ) (sums : Sums) → PeakIs old.live place bytes (Some peak) → peak ≤ old.capacity → bytes ≡ fast_bytes (fast_type (placement_of placed))
        → sums ≡ told_with (placement_of placed) round.loops round.ifs us old.sums → are_within sums ≡ false → For steps old → Tried
        → IsSettled o m (blocks ++ s ∷ []) steps x (Some cause.Size) old
    passes_limits old bytes peak sums p h e f w t k = record {
      is = holds (within_capacity old bytes peak p h e t k) false (limits_are old sums f t k ∙ w);
      kept = t;
    }

    pub is_placed : (old new : Tests) (bytes peak : ℕ) (sums : Sums) → PeakIs old.live place bytes (Some peak) → peak ≤ old.capacity → bytes ≡ fast_bytes (fast_type (placement_of placed))
        → sums ≡ told_with (placement_of placed) round.loops round.ifs us old.sums → are_within sums ≡ true
        → new.capacity ≡ old.capacity → new.number ≡ old.number + 1 → new.sums ≡ sums → Added old.live place bytes new.live → For steps old → Tried
        → IsSettled o m (blocks ++ s ∷ []) steps x None new
    is_placed old new bytes peak sums p h e f w capacity_ number_ sums_ live_ t k = record {
      is = holds (within_capacity old bytes peak p h e t k) true (limits_are old sums f t k ∙ w);
      kept = record {
        capacity = capacity_ ∙ t.capacity;
        number = number_ ∙ ap (λ j. j + 1) t.number ∙ sym (length_push steps x);
        sums = sums_ ∙ sums_are old sums f t k ∙ ap (λ n. capped_sums (sums_in 0 0 n)) (sym (text_behind steps x (lined (nest m.body))));
        live = live_ (nest m.body) blocks s steps x t.live (site_with bytes e k);
      };
    }
