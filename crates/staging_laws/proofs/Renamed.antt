-- Actions with new numbers and other places: the two readings of an action are one. And new numbers are injective.
use Rattle.std.proofs.Common.{◌≡◌, ℕ, ◌+◌, ◌<◌, ◌≤◌, refl, sym, ap, ◌∙◌, arith, Bool, true, false}
use Rattle.std.specs.Prelude.{Option, Some, None, nat_lt, if◌then◌else◌}
use Rattle.std.proofs.lemmas.Bool.{ltb-true}
use Rattle.direct_meaning.specs.Action.{Home, SlowMemref, FastMemref, TagMemref, Place, Slow, Fast, Outside, Action, Known, Sets, Loads, Stores, RawLoads, RawStores, Operates, Converts, Allocates, Releases, AllocatesTags, ReleasesTags, Starts, Waits, Faults, Returns}
use Rattle.placement_texts.specs.Labels.{Numbers, moved_up, home_up, place_with, action_with}
use Rattle.box_run_laws.specs.Layouts.{Injective, Renumbers, renumbered_if, Layout, moved_to, place_moved, moved}
use Rattle.staging_laws.specs.Joined.{numbering}

module _ (f : ℕ → Place) (new : Numbers) (rho : Layout) (goes : (p : ℕ) → moved_to p (rho.lives p) ≡ f p) where
  place_goes : (x : Place) → place_moved (numbering new) rho x ≡ place_with f new x
  unfolding place_moved
  place_goes (Slow p) = goes p
  place_goes (Fast n h c) = refl
  place_goes Outside = refl

  home_goes : (o : Option Home) → renumbered_if (numbering new) o ≡ home_up new o
  home_goes (Some (SlowMemref number first)) = refl
  home_goes (Some (FastMemref number)) = refl
  home_goes (Some (TagMemref first)) = refl
  home_goes None = refl

  pub action_goes : (x : Action) → moved (numbering new) rho x ≡ action_with f new x
  unfolding moved
  action_goes Known = refl
  action_goes (Sets r z) = refl
  action_goes (Loads r p) = ap (Loads r) (place_goes p)
  action_goes (Stores x p) = ap (Stores x) (place_goes p)
  action_goes (RawLoads r home sizes subs) = ap (λ h. RawLoads r h sizes subs) (home_goes home)
  action_goes (RawStores x home sizes subs) = ap (λ h. RawStores x h sizes subs) (home_goes home)
  action_goes (Operates r op bits a b) = refl
  action_goes (Converts r kind from to x) = refl
  action_goes (Allocates number element sizes) = refl
  action_goes (Releases number element sizes) = refl
  action_goes (AllocatesTags first count) = refl
  action_goes (ReleasesTags first count) = refl
  action_goes (Starts t) = refl
  action_goes (Waits tag count) = refl
  action_goes (Faults k) = refl
  action_goes Returns = refl

-- ---- new numbers
up_is : (from count n : ℕ) → moved_up from count n ≡ (if nat_lt n from then n else n + count)
unfolding moved_up
up_is from count n = refl

at_least : (a b : ℕ) → nat_lt a b ≡ false → b ≤ a
at_least a b h = grind (arith, h)

pub up_injective : (from count : ℕ) → Injective (moved_up from count)
up_injective from count a b e = by (nat_lt a from) (nat_lt b from) refl refl (sym (up_is from count a) ∙ e ∙ up_is from count b)
  where
    by : (s t : Bool) → nat_lt a from ≡ s → nat_lt b from ≡ t → (if s then a else a + count) ≡ (if t then b else b + count) → a ≡ b
    by true true h k same = same
    by true false h k same = let l = ltb-true a from h in let m = at_least b from k in absurd (omega (arith, l, m, same))
    by false true h k same = let l = at_least a from h in let m = ltb-true b from k in absurd (omega (arith, l, m, same))
    by false false h k same = omega (arith, same)

pub renumbers : (new : Numbers) → Renumbers (numbering new)
renumbers new = record { fasts = up_injective new.fast 1; tags = up_injective new.tag new.tags }

-- the placement's own number is nobody's new number
pub up_misses : (from count n k : ℕ) → k < count → moved_up from count n ≡ from + k → ⊥
up_misses from count n k less e = by (nat_lt n from) refl (sym (up_is from count n) ∙ e)
  where
    by : (t : Bool) → nat_lt n from ≡ t → (if t then n else n + count) ≡ from + k → ⊥
    by true h same = let l = ltb-true n from h in omega (arith, l, same)
    by false h same = let l = at_least n from h in omega (arith, l, same, less)
